-- Trees that stand still stand after lines were replaced.
use Rattle.std.proofs.Common.{◌≡◌, ℕ, zero, suc, ◌+◌, ◌-◌, ◌<◌, ◌≤◌, Bool, true, false, cond, eqb, List, [], ◌∷◌, ◌++◌, length, get_or, drop, Some, Option, sym, ap, subst, inl, inr, arith}
use Rattle.std.proofs.lemmas.Bool.{cases_eq, cases_lt, cond_both, eqb-true}
use Rattle.std.proofs.lemmas.List.{drop_more, drop_all}
use Rattle.rows.specs.declared.row.TreeLine.{TreeLine}
use Rattle.layout.specs.Network.{TreeLines, joined}
use Rattle.layout.specs.Zeros.{line0}
use Rattle.obeying.specs.Rules.{line}
use Rattle.obeying.specs.TreeLaws.{at_depth, lowered}
use Rattle.edges.specs.Edges.{Over}
use Rattle.edges.proofs.Nesting.{Open}
use Rattle.replacing.specs.Pasting.{Pasted, plain, with_content, placed, line_content, filled}
use Rattle.replacing.specs.Changing.{Flagged, Uncut, Becomes, cut, replaced, kept}
use Rattle.replacing.proofs.Standing.{put, root, room, put_one, put_two, root_top, room_most, room_least, Asks, Stands}

-- how deep the first line under such a content may be
abbrev pub depth_under : ℕ → ℕ
depth_under content = cond (eqb content 0) 1 0

under_most : (content : ℕ) → depth_under content ≤ 1
under_most content = cond_both (eqb content 0) 1 0 (λ n. n ≤ 1) (λ e. omega arith) (λ e. omega arith)

room_with : (x : TreeLine) (c f s : ℕ) → depth_under c + x.depth ≤ room (with_content x c f s)
unfolding room
room_with x c f s = go (eqb c 0)
  where
    go : (b : Bool) → cond b 1 0 + x.depth ≤ cond b (x.depth + 1) x.depth
    go true = omega arith
    go false = omega arith

room_lower : (x : TreeLine) (n : ℕ) → room x + n ≤ room (at_depth x (x.depth + n))
unfolding room
room_lower x n = go (eqb x.content 0)
  where
    go : (b : Bool) → cond b (x.depth + 1) x.depth + n ≤ cond b (x.depth + n + 1) (x.depth + n)
    go true = omega arith
    go false = omega arith

-- a line with what a slot holds has as much room as before, or it asked for a slot and had none
room_filled : (hold : ℕ → Pasted) (x : TreeLine) → room x ≤ room (with_content x (line_content hold x).content (line_content hold x).first (line_content hold x).second)
unfolding room line_content
room_filled hold x = cond_both (eqb x.content 4) (hold x.first) (plain x.content x.first x.second)
    (λ p. cond (eqb x.content 0) (x.depth + 1) x.depth ≤ cond (eqb p.content 0) (x.depth + 1) x.depth)
    (λ e. four (eqb-true x.content 4 e))
    (λ e. omega arith)
  where
    least : (b : Bool) → x.depth ≤ cond b (x.depth + 1) x.depth
    least true = omega arith
    least false = omega arith

    four : x.content ≡ 4 → cond (eqb x.content 0) (x.depth + 1) x.depth ≤ cond (eqb (hold x.first).content 0) (x.depth + 1) x.depth
    four q = subst (λ (n : ℕ). cond (eqb n 0) (x.depth + 1) x.depth ≤ cond (eqb (hold x.first).content 0) (x.depth + 1) x.depth) (sym q) (least (eqb (hold x.first).content 0))

module _ (Le : ℕ → ℕ → Type 0) (Ok : TreeLine → Type 0) where
  -- what the first asks for is enough for the second
  abbrev pub Weaker : Option ℕ → Option ℕ → Type 0
  Weaker o o' = (s : ℕ) → Asks Le o s → Asks Le o' s

  -- what follows a forest that was pasted so many levels down
  abbrev Rest : ℕ → ℕ → (ℕ → Option ℕ) → TreeLines → Type 0
  Rest n q at rest = (at' : ℕ → Option ℕ) (r' : ℕ) → q ≤ r' → ((k : ℕ) → k ≤ n → Weaker (at k) (at' k)) → Stands Le Ok at' r' rest

  module _ (again : (x : TreeLine) (d : ℕ) → Ok x → Ok (at_depth x d)) where
    -- a forest pasted n levels down, and what follows it
    pub pasted_stands : (n q : ℕ) (f rest : TreeLines) (at₀ at : ℕ → Option ℕ) (r₀ r : ℕ) → r₀ + n ≤ r → ((k : ℕ) → k < r₀ → Weaker (at₀ k) (at (k + n))) → q ≤ r → q ≤ n + 1
        → Stands Le Ok at₀ r₀ f → Rest n q at rest → Stands Le Ok at r (lowered n f ++ rest)
    pasted_stands n q [] rest at₀ at r₀ r rr a qr qn h cont = cont at r qr (λ k l s w. w)
    pasted_stands n q (x ∷ f) rest at₀ at r₀ r rr a qr qn h cont =
        let lo = h.0 in
        let hi = h.1 in
        let e : x.depth - 1 + n ≡ x.depth + n - 1 = omega arith in (
          omega arith,
          omega arith,
          subst (λ (k : ℕ). Asks Le (at k) x.set) e (a (x.depth - 1) (omega arith) x.set h.2),
          again x (x.depth + n) h.3,
          pasted_stands n q f rest (put at₀ x.depth x.set) (put at (x.depth + n) x.set) (room x) (room (at_depth x (x.depth + n))) (room_lower x n)
              (λ k l. put_one (λ o. Weaker (put at₀ x.depth x.set k) o) at (x.depth + n) x.set (k + n)
              (λ q'. put_one (λ o. Weaker o (Some x.set)) at₀ x.depth x.set k (λ z s w. w) (λ m. absurd (m (omega arith))))
              (λ m. put_one (λ o. Weaker o (at (k + n))) at₀ x.depth x.set k (λ q'. absurd (m (omega arith))) (λ m'. a k (omega (arith, room_most x)))))
              (omega (arith, room_least (at_depth x (x.depth + n)))) qn h.4
              (λ at' r' qr' w. cont at' r' qr' (λ k l. put_one (λ o. Weaker o (at' k) → Weaker (at k) (at' k)) at (x.depth + n) x.set k (λ z. absurd (omega arith)) (λ m y. y) (w k l))),
        )

    -- what an edge gets, below it
    abbrev pub PasteStands : TreeLine → Pasted → Type 0
    PasteStands x p = Ok (with_content x p.content p.first p.second) × Stands Le Ok (root x.set) (depth_under p.content) p.under

    pub placed_stands : (x : TreeLine) (p : Pasted) (q : ℕ) (rest : TreeLines) (at : ℕ → Option ℕ) (r : ℕ) → 1 ≤ x.depth → x.depth ≤ r → q ≤ room (with_content x p.content p.first p.second)
        → q ≤ x.depth + 1 → Asks Le (at (x.depth - 1)) x.set → PasteStands x p
        → ((at' : ℕ → Option ℕ) (r' : ℕ) → q ≤ r' → ((k : ℕ) → k ≤ x.depth → Weaker (put at x.depth x.set k) (at' k)) → Stands Le Ok at' r' rest)
        → Stands Le Ok at r (placed x p ++ rest)
    placed_stands x p q rest at r lo hi qr qn asks h cont = (
      lo,
      hi,
      asks,
      h.0,
      pasted_stands x.depth q p.under rest (root x.set) (put at x.depth x.set) (depth_under p.content) (room (with_content x p.content p.first p.second))
          (room_with x p.content p.first p.second)
          (λ k l. root_top x.set k (λ o. Weaker o (put at x.depth x.set (k + x.depth))) (omega (arith, under_most p.content))
          (put_one (λ o. Weaker (Some x.set) o) at x.depth x.set (k + x.depth) (λ e s w. w) (λ m. absurd (m (omega (arith, under_most p.content))))))
          qr qn h.1 cont,
    )

    -- ---- templates

    -- what each line of the template brings stands under that line
    abbrev pub Fine : (ℕ → Pasted) → TreeLines → Type 0
    Fine hold [] = Unit {0}
    Fine hold (x ∷ xs) = PasteStands x (line_content hold x) × Fine hold xs

    pub filled_stands : (Lines : TreeLine → Type 0) (hold : ℕ → Pasted) (t : TreeLines) (at₀ at : ℕ → Option ℕ) (r₀ r : ℕ) → r₀ ≤ r → ((k : ℕ) → k < r₀ → Weaker (at₀ k) (at k))
        → Stands Le Lines at₀ r₀ t → Fine hold t → Stands Le Ok at r (filled hold t)
    filled_stands Lines hold [] at₀ at r₀ r rr a h f = tt
    filled_stands Lines hold (x ∷ xs) at₀ at r₀ r rr a h f =
        let lo = h.0 in
        let hi = h.1 in
        placed_stands x (line_content hold x) (room x) (filled hold xs) at r lo (omega arith) (room_filled hold x) (room_most x) (a (x.depth - 1) (omega arith) x.set h.2) f.0
        (λ at' r' rr' w. filled_stands Lines hold xs (put at₀ x.depth x.set) at' (room x) r' rr'
        (λ k l s y. w k (omega (arith, room_most x)) s
        (put_two (λ o o'. Asks Le o s → Asks Le o' s) at₀ at x.depth x.set x.set k (λ e z. z) (λ m. a k (omega (arith, room_most x)) s) y))
        h.4 f.1)

    -- ---- the whole tree

    module _ (flags : List Bool) (given : ℕ → Pasted) (t : TreeLines) (pieces : List TreeLines) (one_each : length pieces ≡ length t)
        (becomes : (i : ℕ) → i < length t → Becomes flags given t i (get_or pieces i []))
        (pastes : (i : ℕ) → i < length t → Flagged flags i → Uncut flags t i → PasteStands (line t i) (given i)) where
      -- whether the lines from row i on lie under an edge that was replaced, until one comes that is not deeper
      data Mode (i : ℕ) : Type 0 where
        free : ((j : ℕ) → j < i → Flagged flags j → Open t j i → ⊥) → Mode i
        cutting : (j : ℕ) → j < i → Flagged flags j → Open t j i → ((m : ℕ) → m < i → Flagged flags m → Open t m i → (line t j).depth ≤ (line t m).depth) → Mode i

      abbrev limit : (i : ℕ) → Mode i → ℕ → ℕ
      limit i (free n) r = r
      limit i (cutting j b f o m) r = (line t j).depth

      over_open : (j i : ℕ) → Over t j i → Open t j i
      over_open j i v k p q = v.deeper k p (omega arith)

      open_before : (j i : ℕ) → Open t j (i + 1) → Open t j i
      open_before j i o k p q = o k p (omega arith)

      open_over : (j i : ℕ) → j < i → Open t j (i + 1) → Over t j i
      open_over j i b o = record { before = b; deeper = λ k p q. o k p (omega arith) }

      open_more : (j i : ℕ) → Open t j i → (line t j).depth < (line t i).depth → Open t j (i + 1)
      open_more j i o d k p q = elim (cases_eq k i) [ inl e ↦ omega (arith, ap (λ (n : ℕ). (line t n).depth) e) | inr e ↦ o k p (omega arith) ]

      over_from : (j i : ℕ) → j < i → Open t j i → (line t j).depth < (line t i).depth → Over t j i
      over_from j i b o d = open_over j i b (open_more j i o d)

      -- a line that is not cut is no deeper than the limit
      in_limit : (i r : ℕ) (m : Mode i) → Uncut flags t i → (line t i).depth ≤ r → (line t i).depth ≤ limit i m r
      in_limit i r (free n) u h = h
      in_limit i r (cutting j b f o least) u h = elim (cases_lt (line t j).depth (line t i).depth) [ inl l ↦ absurd (u j f (over_from j i b o l)) | inr l ↦ l ]

      -- modes behind line i
      abbrev after_cut : (i : ℕ) (j : ℕ) → j < i → Flagged flags j → Open t j i → ((m : ℕ) → m < i → Flagged flags m → Open t m i → (line t j).depth ≤ (line t m).depth)
          → (line t j).depth < (line t i).depth → Mode (i + 1)
      after_cut i j b f o least d =
          cutting j (omega arith) f (open_more j i o d)
          (λ m l g v. elim (cases_eq m i) [ inl e ↦ omega (arith, ap (λ (n : ℕ). (line t n).depth) e) | inr e ↦ least m (omega arith) g (open_before m i v) ])

      abbrev after_replaced : (i : ℕ) → Flagged flags i → Uncut flags t i → Mode (i + 1)
      after_replaced i f u =
          cutting i (omega arith) f (λ k p q. absurd (omega arith))
          (λ m l g v. elim (cases_eq m i) [ inl e ↦ omega (arith, ap (λ (n : ℕ). (line t n).depth) e) | inr e ↦ absurd (u m g (open_over m i (omega arith) v)) ])

      abbrev after_kept : (i : ℕ) → (Flagged flags i → ⊥) → Uncut flags t i → Mode (i + 1)
      after_kept i nf u =
          free (λ j l g v. elim (cases_eq j i) [ inl e ↦ absurd (nf (subst (λ (n : ℕ). Flagged flags n) e g)) | inr e ↦ absurd (u j g (open_over j i (omega arith) v)) ])

      abbrev Keeps : ℕ → Type 0
      Keeps n = (i : ℕ) → i + n ≡ length t → (m : Mode i) (at at' : ℕ → Option ℕ) (r r' : ℕ) → limit i m r ≤ r' → ((k : ℕ) → k < limit i m r → Weaker (at k) (at' k))
          → Stands Le Ok at r (drop i t) → Stands Le Ok at' r' (joined (drop i pieces))

      module _ (n : ℕ) (ih : Keeps n) (i : ℕ) (whole : i + suc n ≡ length t) where
        abbrev x : TreeLine
        x = line t i

        abbrev behind : TreeLines
        behind = joined (drop (i + 1) pieces)

        next : i + 1 + n ≡ length t
        next = omega arith

        kept_line : (m : Mode i) (at at' : ℕ → Option ℕ) (r r' : ℕ) → limit i m r ≤ r' → ((k : ℕ) → k < limit i m r → Weaker (at k) (at' k))
            → Stands Le Ok at r (x ∷ drop (i + 1) t) → (p : TreeLines) → Becomes flags given t i p → Stands Le Ok at' r' (p ++ behind)
        kept_line (free none) at at' r r' rr a h p (cut j f v e) = absurd (none j v.before f (over_open j i v))
        kept_line (cutting c b g o least) at at' r r' rr a h p (cut j f v e) =
            let d : (line t c).depth < x.depth = omega (arith, least j v.before f (over_open j i v), v.deeper i v.before (omega arith)) in
            subst (λ (q : TreeLines). Stands Le Ok at' r' (q ++ behind)) (sym e)
            (ih (i + 1) next (after_cut i c b g o least d) (put at x.depth x.set) at' (room x) r' rr
            (λ k l. put_one (λ q. Weaker q (at' k)) at x.depth x.set k (λ z. absurd (omega arith)) (λ z. a k l)) h.4)
        kept_line m at at' r r' rr a h p (replaced f u e) =
            let lo = h.0 in
            let hi : x.depth ≤ limit i m r = in_limit i r m u h.1 in
            subst (λ (q : TreeLines). Stands Le Ok at' r' (q ++ behind)) (sym e)
            (placed_stands x (given i) x.depth behind at' r' lo (omega arith) (room_least (with_content x (given i).content (given i).first (given i).second)) (omega arith)
            (a (x.depth - 1) (omega arith) x.set h.2) (pastes i (omega arith) f u)
            (λ at'' r'' qr w. ih (i + 1) next (after_replaced i f u) (put at x.depth x.set) at'' (room x) r'' qr
            (λ k l s y. w k (omega arith) s
            (put_one (λ q. Asks Le q s) at' x.depth x.set k (λ z. absurd (omega arith))
            (λ z. a k (omega arith) s (put_one (λ q. Asks Le q s → Asks Le (at k) s) at x.depth x.set k (λ z'. absurd (omega arith)) (λ z' v. v) y))))
            h.4))
        kept_line m at at' r r' rr a h p (kept nf u e) =
            let lo = h.0 in
            let hi : x.depth ≤ limit i m r = in_limit i r m u h.1 in
            subst (λ (q : TreeLines). Stands Le Ok at' r' (q ++ behind)) (sym e) (
              lo,
              omega arith,
              a (x.depth - 1) (omega arith) x.set h.2,
              h.3,
              ih (i + 1) next (after_kept i nf u) (put at x.depth x.set) (put at' x.depth x.set) (room x) (room x) (omega arith)
                  (λ k l. put_two (λ q q'. Weaker q q') at at' x.depth x.set x.set k (λ z s y. y) (λ z. a k (omega (arith, room_most x)))) h.4,
            )

      keeps : (n : ℕ) → Keeps n
      keeps zero i e m at at' r r' rr a h = subst (λ (ps : List TreeLines). Stands Le Ok at' r' (joined ps)) (sym (drop_all i pieces (omega arith))) tt
      keeps (suc n) i e m at at' r r' rr a h =
          subst (λ (ps : List TreeLines). Stands Le Ok at' r' (joined ps)) (sym (drop_more pieces i [] (omega arith)))
          (kept_line n (keeps n) i e m at at' r r' rr a (subst (λ (xs : TreeLines). Stands Le Ok at r xs) (drop_more t i line0 (omega arith)) h) (get_or pieces i []) (becomes i (omega arith)))

      pub changed_stands : (at : ℕ → Option ℕ) (r : ℕ) → Stands Le Ok at r t → Stands Le Ok at r (joined pieces)
      changed_stands at r h = keeps (length t) 0 (omega arith) (free (λ j b. absurd (omega arith))) at at r r (omega arith) (λ k l s w. w) h
