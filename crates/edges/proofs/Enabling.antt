-- A tree after a role was enabled.
use Rattle.std.proofs.Common.{◌≡◌, ℕ, ◌^◌, ◌<◌, Bool, eqb, List, length, sym, refl, ap, ◌∙◌, subst, ⊎_elim, arith}
use Rattle.std.proofs.lemmas.Bool.{eqb-true, eq-eqb, both_ways, or_cases, or_right}
use Rattle.order.specs.Laws.{Lawful}
use Rattle.order.specs.RoleSets.{has, In, Part, SetBelow, InUse, with_role}
use Rattle.order.proofs.Bits.{has-insert, has-none}
use Rattle.order.proofs.Sets.{set_trans, set_mono, set_union, part_left}
use Rattle.rows.specs.declared.row.PathStepRow.{PathStepRow}
use Rattle.rows.specs.declared.row.TreeLine.{TreeLine}
use Rattle.rows.specs.declared.row.JobRow.{JobRow}
use Rattle.layout.specs.Network.{TreeLines}
use Rattle.obeying.specs.Rules.{line, Above, TreeObeys}
use Rattle.obeying.proofs.Copies.{one_above}
use Rattle.standing.specs.declared.sizes.Sizes.{Sizes}
use Rattle.standing.specs.Words.{TreeStands}
use Rattle.edges.specs.Edges.{with_set, Recoloured}
use Rattle.edges.specs.Paths.{last_set, Found}
use Rattle.edges.specs.Enabling.{EnabledLine, directly, elsewhere, Enabled}
use Rattle.edges.specs.EdgeLaws.{EnablingLaws}
use Rattle.edges.proofs.Opening.{found_set}
use Rattle.edges.proofs.Recolouring.{obeys_again, stands_again}

module _ {below : ℕ → ℕ → Bool} {path : List PathStepRow} (role : ℕ) (t : TreeLines) where
  line_same : (i : ℕ) (x : TreeLine) → EnabledLine below path role t i x → x ≡ with_set (line t i) x.set
  line_same i x (directly j a f e) = e ∙ ap (λ (y : TreeLine). with_set (line t i) y.set) (sym e)
  line_same i x (elsewhere n e) = e ∙ ap (λ (y : TreeLine). with_set (line t i) y.set) (sym e)

  pub recolours : (after : TreeLines) → Enabled below path role t after → Recoloured t after
  recolours after w = record { long = w.long; same = λ i h. line_same i (line after i) (w.each i h) }

  -- a set loses no role
  grows : (i : ℕ) (x : TreeLine) → EnabledLine below path role t i x → Part (line t i).set x.set
  grows i x (directly j a f e) = subst (λ (y : TreeLine). Part (line t i).set y.set) (sym e) (part_left (line t i).set (2 ^ role))
  grows i x (elsewhere n e) = subst (λ (y : TreeLine). Part (line t i).set y.set) (sym e) (λ r m. m)

  in_use : (count i : ℕ) (x : TreeLine) → role < count → InUse count (line t i).set → EnabledLine below path role t i x → InUse count x.set
  in_use count i x h u (elsewhere n e) = subst (λ (y : TreeLine). InUse count y.set) (sym e) u
  in_use count i x h u (directly j a f e) = subst (λ (y : TreeLine). InUse count y.set) (sym e) (filled, roles)
    where
      roles : (r : ℕ) → In r (with_role (line t i).set role) → r < count
      roles r m = ⊎_elim (u.1 r) (λ q. omega (arith, eqb-true role r q)) (or_cases _ _ (sym (has-insert (line t i).set role r) ∙ m))

      filled : with_role (line t i).set role ≡ 0 → ⊥
      filled z = both_ways (has (with_role (line t i).set role) role) (ap (λ (n : ℕ). has n role) z ∙ has-none role) (has-insert (line t i).set role role ∙ or_right (has (line t i).set role) (eqb role role) (eq-eqb role role refl))

  pub stands : (s : Sizes) (after : TreeLines) → role < s.roles → Enabled below path role t after → TreeStands s t → TreeStands s after
  stands s after h w o =
      stands_again (recolours after w) s (λ i l. in_use s.roles i (line after i) h (o.each i l).set (w.each i l))
      (λ i l. grows i (line after i) (w.each i l) s.top (o.each i l).top) o

  module _ {count top : ℕ} (law : Lawful count top below) (open_to : SetBelow below (last_set path) (2 ^ role)) where
    -- the set of an edge found is ≤ the enabled role
    to_role : (j : ℕ) → Found below path t j → SetBelow below (line t j).set (2 ^ role)
    to_role j f = set_trans law (line t j).set (last_set path) (2 ^ role) (found_set below path t j f) open_to

    -- an edge found is not itself directly below one
    found_stays : (j : ℕ) (x : TreeLine) → Found below path t j → EnabledLine below path role t j x → x ≡ line t j
    found_stays j x f (elsewhere n e) = e
    found_stays j x f (directly k a g e) = absurd (omega (arith, f.depth, g.depth, a.outer))

    pub obeys : {least : ℕ} {jobs : List JobRow} {policy : ℕ} (after : TreeLines) → Enabled below path role t after
        → TreeObeys below least jobs policy t → TreeObeys below least jobs policy after
    obeys {least = least} after w o = obeys_again (recolours after w) (λ i h. two i h (line after i) (w.each i h)) (λ j i h a. three j i h a (line after i) (w.each i h)) o
      where
        two : (i : ℕ) → i < length t → (x : TreeLine) → EnabledLine below path role t i x → SetBelow below least x.set
        two i h x (elsewhere n e) = subst (λ (y : TreeLine). SetBelow below least y.set) (sym e) (o.least i h)
        two i h x (directly j a f e) =
            subst (λ (y : TreeLine). SetBelow below least y.set) (sym e)
            (set_union below least (line t i).set (2 ^ role) (o.least i h)
            (set_trans law least (line t j).set (2 ^ role) (o.least j (omega (arith, a.before))) (to_role j f)))

        three : (j i : ℕ) → i < length t → Above t j i → (x : TreeLine) → EnabledLine below path role t i x → SetBelow below (line after j).set x.set
        three j i h a x (elsewhere n e) =
            subst (λ (y : TreeLine). SetBelow below (line after j).set y.set) (sym e)
            (set_mono below (line t j).set (line after j).set (line t i).set (line t i).set
            (grows j (line after j) (w.each j (omega (arith, a.before)))) (λ r m. m) (o.above i j h a))
        three j i h a x (directly k b f e) =
            let q : k ≡ j = one_above t i k j b a in
            let g : Found below path t j = subst (λ (m : ℕ). Found below path t m) q f in
            let same : line after j ≡ line t j = found_stays j (line after j) g (w.each j (omega (arith, a.before))) in
            subst (λ (y : TreeLine). SetBelow below (line after j).set y.set) (sym e)
            (subst (λ (y : TreeLine). SetBelow below y.set (with_role (line t i).set role)) (sym same)
            (set_union below (line t j).set (line t i).set (2 ^ role) (o.above i j h a) (to_role j g)))

untouched : (below : ℕ → ℕ → Bool) (path : List PathStepRow) (role : ℕ) (t : TreeLines) (i : ℕ) (x : TreeLine) → EnabledLine below path role t i x
    → ((j : ℕ) → Above t j i → Found below path t j → ⊥) → x ≡ line t i
untouched below path role t i x (directly j a f e) n = absurd (n j a f)
untouched below path role t i x (elsewhere m e) n = e

pub enabling_laws : EnablingLaws
enabling_laws = record {
  untouched = λ below path role t after w i h n. untouched below path role t i (line after i) (w.each i h) n;
  recolours = λ below path role t after w. recolours role t after w;
  stands = λ below path role s t after h w o. stands role t s after h w o;
  obeys = λ count top below law least jobs policy path role t after a w o. obeys role t law a after w o;
}
