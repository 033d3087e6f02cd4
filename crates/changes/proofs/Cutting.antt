-- The lines of a tree, replaced and cut one after the other.
use Rattle.std.proofs.Common.{◌≡◌, ℕ, zero, suc, ◌+◌, ◌<◌, ◌≤◌, Bool, false, List, [], ◌∷◌, ◌++◌, length, get_or, Some, None, Option, sym, refl, ap, ◌∙◌, subst, inl, inr, append_assoc, arith}
use Rattle.std.proofs.lemmas.Bool.{cases_eq}
use Rattle.std.proofs.lemmas.List.{length-append, append-nil}
use Rattle.layout.specs.Network.{TreeLines, joined}
use Rattle.obeying.specs.Rules.{line}
use Rattle.edges.specs.Edges.{Over}
use Rattle.edges.proofs.Nesting.{Open}
use Rattle.outcomes.specs.declared.outcome.Outcome.{Outcome}
use Rattle.outcomes.specs.Outcomes.{added_all, outcome_of}
use Rattle.outcomes.proofs.Adding.{added_append, added_outcome}
use Rattle.replacing.specs.Pasting.{Pasted, placed}
use Rattle.replacing.specs.Changing.{Flagged, Uncut, Becomes, cut, replaced, kept, Changed}
use Rattle.changes.specs.Turns.{CutAt, Turn}
use Rattle.changes.specs.Turns as turn

-- ---- pieces, one more behind the last

piece_before : {X : Type 0} (ps : List X) (p d : X) (k : ℕ) → k < length ps → get_or (ps ++ p ∷ []) k d ≡ get_or ps k d
piece_before [] p d k h = absurd (omega arith)
piece_before (q ∷ ps) p d zero h = refl
piece_before (q ∷ ps) p d (suc k) h = piece_before ps p d k (omega arith)

piece_last : {X : Type 0} (ps : List X) (p d : X) (k : ℕ) → k ≡ length ps → get_or (ps ++ p ∷ []) k d ≡ p
piece_last [] p d zero h = refl
piece_last [] p d (suc k) h = absurd (omega arith)
piece_last (q ∷ ps) p d zero h = absurd (omega arith)
piece_last (q ∷ ps) p d (suc k) h = piece_last ps p d k (omega arith)

joined-last : (ps : List TreeLines) (p : TreeLines) → joined (ps ++ p ∷ []) ≡ joined ps ++ p
joined-last [] p = append-nil p
joined-last (q ∷ ps) p = ap (λ (xs : TreeLines). q ++ xs) (joined-last ps p) ∙ sym (append_assoc q (joined ps) p)

some_same : (a b : ℕ) (o : Option ℕ) → o ≡ Some a → o ≡ Some b → a ≡ b
some_same a b o p q = cc

none_some : (a : ℕ) (o : Option ℕ) → o ≡ None → o ≡ Some a → ⊥
none_some a o p q = cc

-- ---- what is cut

-- the lines before row i are done
pub record ChangedTo (flags : List Bool) (given : ℕ → Pasted) (t : TreeLines) (i : ℕ) (at : Option ℕ) (out : Outcome) : Type 0 where
  pub pieces : List TreeLines
  pub long : length pieces ≡ i
  pub each : (k : ℕ) → k < i → Becomes flags given t k (get_or pieces k [])
  pub so_far : out ≡ added_all (outcome_of []) (joined pieces)
  -- a replaced edge that the lines up to row i lie under is not above the last one that cuts, and that one is such an edge
  pub open_cut : (j : ℕ) → j < i → Flagged flags j → Open t j i → (d : ℕ) × (at ≡ Some d) × (d ≤ (line t j).depth)
  pub cut_is : (d : ℕ) → at ≡ Some d → (j : ℕ) × (j < i) × Flagged flags j × Open t j i × ((line t j).depth ≡ d)

module _ (flags : List Bool) (given : ℕ → Pasted) (t : TreeLines) where
  pub changed_none : (out : Outcome) → out ≡ outcome_of [] → ChangedTo flags given t 0 None out
  changed_none out e = record {
    pieces = [];
    long = refl;
    each = λ k h. absurd (omega arith);
    so_far = e;
    open_cut = λ j h. absurd (omega arith);
    cut_is = λ d e. cc;
  }

  module _ (i : ℕ) (h : i < length t) (at : Option ℕ) (out : Outcome) (w : ChangedTo flags given t i at out) where
    over_open : (j : ℕ) → Over t j i → Open t j i
    over_open j v k p q = v.deeper k p (omega arith)

    open_over : (j : ℕ) → j < i → Open t j (i + 1) → Over t j i
    open_over j b o = record { before = b; deeper = λ k p q. o k p (omega arith) }

    open_before : (j : ℕ) → Open t j (i + 1) → Open t j i
    open_before j o k p q = o k p (omega arith)

    cut_at : (d : ℕ) → at ≡ Some d → d < (line t i).depth → CutAt at (line t i).depth
    cut_at d e l = subst (λ (o : Option ℕ). CutAt o (line t i).depth) (sym e) l

    over_from : (j : ℕ) → j < i → Open t j i → (line t j).depth < (line t i).depth → Over t j i
    over_from j b o d = record {
      before = b;
      deeper = λ k p q. elim (cases_eq k i) [
        | inl z ↦ omega (arith, ap (λ (m : ℕ). (line t m).depth) z)
        | inr z ↦ o k p (omega arith)
      ];
    }

    uncut : (CutAt at (line t i).depth → ⊥) → Uncut flags t i
    uncut n j f v =
        let w' = w.open_cut j v.before f (over_open j v) in
        n (cut_at w'.0 w'.1 (omega (arith, w'.2, v.deeper i v.before (omega arith))))

    more : (at' : Option ℕ) (out' : Outcome) (piece : TreeLines) → Becomes flags given t i piece → out' ≡ added_all out piece
        → ((j : ℕ) → j < i + 1 → Flagged flags j → Open t j (i + 1) → (d : ℕ) × (at' ≡ Some d) × (d ≤ (line t j).depth))
        → ((d : ℕ) → at' ≡ Some d → (j : ℕ) × (j < i + 1) × Flagged flags j × Open t j (i + 1) × ((line t j).depth ≡ d))
        → ChangedTo flags given t (i + 1) at' out'
    more at' out' piece b e o c = record {
      pieces = w.pieces ++ piece ∷ [];
      long = omega (arith, length-append w.pieces (piece ∷ []), w.long);
      each = λ k l. elim (cases_eq k i) [
        | inl q ↦
            subst (λ (n : ℕ). Becomes flags given t n (get_or (w.pieces ++ piece ∷ []) n [])) (sym q)
            (subst (λ (p : TreeLines). Becomes flags given t i p) (sym (piece_last w.pieces piece [] i (sym w.long))) b)
        | inr q ↦ subst (λ (p : TreeLines). Becomes flags given t k p) (sym (piece_before w.pieces piece [] k (omega (arith, w.long)))) (w.each k (omega arith))
      ];
      so_far =
          e
          ∙ (ap (λ (p : Outcome). added_all p piece) w.so_far
          ∙ (sym (added_append (outcome_of []) (joined w.pieces) piece) ∙ ap (added_all (outcome_of [])) (sym (joined-last w.pieces piece))));
      open_cut = o;
      cut_is = c;
    }

    -- one turn of the loop
    pub changed_turn : (at' : Option ℕ) (out' : Outcome) → Turn (get_or flags i false) (given i) (line t i) at out out' at' → ChangedTo flags given t (i + 1) at' out'
    changed_turn at' out' (turn.cut c e a) = go at refl c
      where
        go : (o : Option ℕ) → at ≡ o → CutAt o (line t i).depth → ChangedTo flags given t (i + 1) at' out'
        go None q l = absurd l
        go (Some d) q l =
            let j = w.cut_is d q in
            more at' out' [] (cut j.0 j.2 (over_from j.0 j.1 j.3 (omega (arith, j.4))) refl) e
            (λ k b f o. elim (cases_eq k i) [
              | inl z ↦ (d, a ∙ q, omega (arith, ap (λ (n : ℕ). (line t n).depth) z))
              | inr z ↦ let r = w.open_cut k (omega arith) f (open_before k o) in (r.0, a ∙ r.1, r.2)
            ])
            (λ d' e'.
            let r = w.cut_is d' (sym a ∙ e') in
            let u : d' ≡ d = some_same d' d at (sym a ∙ e') q in
            let v = over_from r.0 r.1 r.3 (omega (arith, r.4)) in
            (r.0, omega (arith, r.1), r.2, λ k x y. v.deeper k x (omega arith), r.4))
    changed_turn at' out' (turn.replaced n f e a) =
        more at' out' (placed (line t i) (given i)) (replaced f (uncut n) refl) e
        (λ k b g o. elim (cases_eq k i) [
          | inl z ↦ ((line t i).depth, a, omega (arith, ap (λ (m : ℕ). (line t m).depth) z))
          | inr z ↦ absurd (uncut n k g (open_over k (omega arith) o))
        ])
        (λ d e'. (i, omega arith, f, λ k x y. absurd (omega arith), some_same (line t i).depth d at' a e'))
    changed_turn at' out' (turn.kept n f e a) =
        more at' out' (line t i ∷ []) (kept f (uncut n) refl) e
        (λ k b g o. elim (cases_eq k i) [
          | inl z ↦ absurd (f (subst (λ (m : ℕ). Flagged flags m) z g))
          | inr z ↦ absurd (uncut n k g (open_over k (omega arith) o))
        ])
        (λ d e'. absurd (none_some d at' a e'))

  pub changed_all : (i : ℕ) (at : Option ℕ) (out : Outcome) → length t ≡ i → ChangedTo flags given t i at out
      → (after : TreeLines) × Changed flags given t after × (out ≡ outcome_of after)
  changed_all i at out e w = (
    joined w.pieces,
    record { pieces = w.pieces; one_each = w.long ∙ sym e; each = λ k l. w.each k (omega arith); whole = refl },
    w.so_far ∙ added_outcome [] (joined w.pieces),
  )
