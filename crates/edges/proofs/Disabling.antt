-- A tree after a role was disabled.
use Rattle.std.proofs.Common.{◌≡◌, ℕ, zero, suc, ◌^◌, ◌<◌, ◌≤◌, Bool, true, not, ◌&&◌, List, length, sym, ap, ◌∙◌, subst, arith}
use Rattle.std.proofs.lemmas.Bool.{and_from, and_parts, both_ways, false_from_ne_true}
use Rattle.order.specs.Laws.{Lawful}
use Rattle.order.specs.RoleSets.{has, In, Part, SetBelow, SomeBelow, some_below}
use Rattle.order.proofs.Bits.{small_from_roles, small_of_itself, has-none}
use Rattle.order.proofs.Keep.{has_kept, membership}
use Rattle.order.proofs.Sets.{set_mono, set_inside}
use Rattle.order.proofs.Tests.{Decides-some_below}
use Rattle.rows.specs.declared.row.PathStepRow.{PathStepRow}
use Rattle.rows.specs.declared.row.TreeLine.{TreeLine}
use Rattle.rows.specs.declared.row.JobRow.{JobRow}
use Rattle.layout.specs.Network.{TreeLines}
use Rattle.obeying.specs.Rules.{line, Above, TreeObeys}
use Rattle.obeying.proofs.Copies.{one_above}
use Rattle.standing.specs.declared.sizes.Sizes.{Sizes}
use Rattle.standing.specs.Words.{TreeStands}
use Rattle.edges.specs.Edges.{Nested, Over, with_set, Recoloured}
use Rattle.edges.specs.Paths.{Found}
use Rattle.edges.specs.Disabling.{stays, DisabledLine, under, elsewhere, Disabled}
use Rattle.edges.specs.EdgeLaws.{DisablingLaws}
use Rattle.edges.proofs.Nesting.{above_over, over_over}
use Rattle.edges.proofs.Recolouring.{obeys_again, stands_again}

-- a set of roles has 64 bits
small : (count set : ℕ) → count ≤ 64 → ((r : ℕ) → In r set → r < count) → set < 2 ^ 64
small count set few inside = small_from_roles 64 set set (small_of_itself set) (λ r m. omega (arith, inside r m))

module _ {below : ℕ → ℕ → Bool} {path : List PathStepRow} {role : ℕ} (t after : TreeLines) (w : Disabled below path role t after) where
  line_same : (i : ℕ) → DisabledLine below path role t after i → line after i ≡ with_set (line t i) (line after i).set
  line_same i (under f j g o a e) = e ∙ ap (λ (y : TreeLine). with_set (line t i) y.set) (sym e)
  line_same i (elsewhere n e) = e ∙ ap (λ (y : TreeLine). with_set (line t i) y.set) (sym e)

  pub recolours : Recoloured t after
  recolours = record { long = w.long; same = λ i h. line_same i (w.each i h) }

  shrinks_at : (i : ℕ) → (line t i).set < 2 ^ 64 → DisabledLine below path role t after i → Part (line after i).set (line t i).set
  shrinks_at i s (elsewhere n e) r m = subst (λ (y : TreeLine). In r y.set) e m
  shrinks_at i s (under f j g o a e) r m =
      (and_parts (has (line t i).set r) (stays below role (line after j).set r)
      (sym (has_kept (stays below role (line after j).set) (line t i).set s r) ∙ subst (λ (y : TreeLine). In r y.set) e m)).0

  pub shrinks : (i : ℕ) → i < length t → (line t i).set < 2 ^ 64 → Part (line after i).set (line t i).set
  shrinks i h s = shrinks_at i s (w.each i h)

  small_at : (i : ℕ) → (line t i).set < 2 ^ 64 → DisabledLine below path role t after i → (line after i).set < 2 ^ 64
  small_at i s (elsewhere n e) = subst (λ (y : TreeLine). y.set < 2 ^ 64) (sym e) s
  small_at i s (under f j g o a e) =
      subst (λ (y : TreeLine). y.set < 2 ^ 64) (sym e) (membership.kept_small (stays below role (line after j).set) (line t i).set)

  module _ {count top : ℕ} (law : Lawful count top below) where
    module _ (nested : Nested t) {least : ℕ} {jobs : List JobRow} {policy : ℕ} (o : TreeObeys below least jobs policy t) where
      small_there : (i : ℕ) → i < length t → (line t i).set < 2 ^ 64
      small_there i h = small count (line t i).set law.few (set_inside law least (line t i).set (o.least i h))

      three : (j i : ℕ) → i < length t → Above t j i → DisabledLine below path role t after i → SetBelow below (line after j).set (line after i).set
      three j i h a (under f k g v b e) = λ r m.
          let q : k ≡ j = one_above t i k j b a in
          let both : (has (line t i).set r && stays below role (line after k).set r) ≡ true =
          sym (has_kept (stays below role (line after k).set) (line t i).set (small_there i h) r) ∙ subst (λ (y : TreeLine). In r y.set) e m in
          let parts = and_parts (not (below r role)) (some_below below (line after k).set r) (and_parts (has (line t i).set r) (stays below role (line after k).set r) both).1 in
          let here : k < length t = omega (arith, b.before) in
          subst (λ (n : ℕ). SomeBelow below (line after n).set r) q
          ((Decides-some_below below (line after k).set r (small_at k (small_there k here) (w.each k here))).0 parts.1)
      three j i h a (elsewhere n e) = go (w.each j (omega (arith, a.before)))
        where
          go : DisabledLine below path role t after j → SetBelow below (line after j).set (line after i).set
          go (under f k g v b d) = absurd (n f g (over_over t f j i v (above_over nested j i h a)))
          go (elsewhere m d) =
              subst (λ (y : TreeLine). SetBelow below y.set (line after i).set) (sym d)
              (subst (λ (y : TreeLine). SetBelow below (line t j).set y.set) (sym e) (o.above i j h a))

      pub obeys : TreeObeys below least jobs policy after
      obeys =
          obeys_again recolours
          (λ i h. set_mono below least least (line t i).set (line after i).set (λ r m. m) (shrinks i h (small_there i h)) (o.least i h))
          (λ j i h a. three j i h a (w.each i h)) o

  module _ (s : Sizes) (law : Lawful s.roles s.top below) (safe : below s.top role ≡ true → ⊥) (o : TreeStands s t) where
    small_here : (i : ℕ) → i < length t → (line t i).set < 2 ^ 64
    small_here i h = small s.roles (line t i).set law.few (o.each i h).set.1

    -- the top role stays everywhere
    tops : (n i : ℕ) → i < n → i < length t → In s.top (line after i).set
    tops zero i l h = absurd (omega arith)
    tops (suc n) i l h = go (λ j b k. tops n j (omega arith) k) (w.each i h)
      where
        go : ((j : ℕ) → j < i → j < length t → In s.top (line after j).set) → DisabledLine below path role t after i → In s.top (line after i).set
        go before (elsewhere m e) = subst (λ (y : TreeLine). In s.top y.set) (sym e) (o.each i h).top
        go before (under f j g v a e) =
            let here : j < length t = omega (arith, a.before) in
            let kept_there : some_below below (line after j).set s.top ≡ true =
            (Decides-some_below below (line after j).set s.top (small_at j (small_here j here) (w.each j here))).1
            (s.top, before j a.before here, law.reflexive s.top law.inside) in
            let spared : not (below s.top role) ≡ true = ap not (false_from_ne_true (below s.top role) safe) in
            subst (λ (y : TreeLine). In s.top y.set) (sym e)
            (has_kept (stays below role (line after j).set) (line t i).set (small_here i h) s.top
            ∙ and_from (has (line t i).set s.top) (stays below role (line after j).set s.top) (o.each i h).top
            (and_from (not (below s.top role)) (some_below below (line after j).set s.top) spared kept_there))

    pub stands : TreeStands s after
    stands =
        stands_again recolours s (λ i h. (filled i h, λ r m. (o.each i h).set.1 r (shrinks i h (small_here i h) r m)))
        (λ i h. tops (suc i) i (omega arith) h) o
      where
        filled : (i : ℕ) → i < length t → (line after i).set ≡ 0 → ⊥
        filled i h z = both_ways (has 0 s.top) (has-none s.top) (subst (λ (n : ℕ). In s.top n) z (tops (suc i) i (omega arith) h))

untouched : (below : ℕ → ℕ → Bool) (path : List PathStepRow) (role : ℕ) (t after : TreeLines) (i : ℕ) → DisabledLine below path role t after i
    → ((f : ℕ) → Found below path t f → Over t f i → ⊥) → line after i ≡ line t i
untouched below path role t after i (under f j g v a e) n = absurd (n f g v)
untouched below path role t after i (elsewhere m e) n = e

pub disabling_laws : DisablingLaws
disabling_laws = record {
  untouched = λ below path role t after w i h n. untouched below path role t after i (w.each i h) n;
  recolours = λ below path role t after w. recolours t after w;
  stands = λ s below law path role t after safe w o. stands t after w s law safe o;
  obeys = λ count top below law least jobs policy path role t after nested w o. obeys t after w law nested o;
  shrinks = λ below path role t after w i x h s m. shrinks t after w i h s x m;
}
