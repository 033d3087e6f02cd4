-- Edges over edges, in lines that go down one level at a time.
use Rattle.std.proofs.Common.{◌≡◌, ℕ, zero, suc, ◌+◌, ◌-◌, ◌<◌, ◌≤◌, ◌⊎◌, length, sym, subst, inl, inr, add-one, arith}
use Rattle.std.proofs.lemmas.Bool.{cases_eq, cases_lt}
use Rattle.layout.specs.Network.{TreeLines}
use Rattle.obeying.specs.Rules.{line, Above}
use Rattle.obeying.proofs.Copies.{one_above}
use Rattle.standing.specs.declared.sizes.Sizes.{Sizes}
use Rattle.standing.specs.Words.{TreeStands}
use Rattle.edges.specs.Edges.{Nested, Over}
use Rattle.edges.specs.EdgeLaws.{OverLaws}

-- every line between the two is deeper than line j
abbrev pub Open : TreeLines → ℕ → ℕ → Type 0
Open t j i = (k : ℕ) → j < k → k < i → (line t j).depth < (line t k).depth

-- the last line of the depth, before line i
pub record LastOf (t : TreeLines) (d i j : ℕ) : Type 0 where
  pub before : j < i
  pub depth : (line t j).depth ≡ d
  pub open_to : Open t j i

last_here : (t : TreeLines) (n d : ℕ) → d ≡ (line t n).depth → LastOf t d (suc n) n
last_here t n d e = record { before = omega arith; depth = sym e; open_to = λ k p q. absurd (omega arith) }

last_later : (t : TreeLines) (n d j : ℕ) → d < (line t n).depth → LastOf t d n j → LastOf t d (suc n) j
last_later t n d j h w = record { before = omega (arith, w.before); depth = w.depth; open_to = behind }
  where
    behind : (k : ℕ) → j < k → k < suc n → (line t j).depth < (line t k).depth
    behind k p q = elim (cases_eq k n) [
      | inl e ↦ subst (λ (m : ℕ). (line t j).depth < (line t m).depth) (sym e) (omega (arith, w.depth))
      | inr e ↦ w.open_to k p (omega arith)
    ]

pub last_at : (t : TreeLines) → Nested t → (n d : ℕ) → n < length t → 1 ≤ d → d ≤ (line t n).depth → (j : ℕ) × LastOf t d (suc n) j
last_at t w n d h low deep = elim (cases_eq d (line t n).depth) [ inl e ↦ (n, last_here t n d e) | inr e ↦ deeper n h (omega arith) ]
  where
    deeper : (n : ℕ) → n < length t → d < (line t n).depth → (j : ℕ) × LastOf t d (suc n) j
    deeper zero h l = absurd (omega (arith, w.first h))
    deeper (suc m) h l =
        let steps : (line t (suc m)).depth ≤ (line t m).depth + 1 = subst (λ (k : ℕ). (line t k).depth ≤ (line t m).depth + 1) (add-one m) (w.down m (omega arith)) in
        elim (cases_eq d (line t m).depth) [
          | inl e ↦ (m, last_later t (suc m) d m l (last_here t m d e))
          | inr e ↦ let r = deeper m (omega arith) (omega arith) in (r.0, last_later t (suc m) d r.0 l r.1)
        ]

module _ {t : TreeLines} (w : Nested t) where
  above_from : (d i j : ℕ) → d + 1 ≡ (line t i).depth → LastOf t d i j → Above t j i
  above_from d i j e l = record {
    before = l.before;
    outer = omega (arith, l.depth);
    nearest = λ k p q r. omega (arith, l.open_to k p q, l.depth);
  }

  last_before : (i d : ℕ) → i < length t → 1 ≤ d → d < (line t i).depth → (j : ℕ) × LastOf t d i j
  last_before zero d h low deep = absurd (omega (arith, w.first h))
  last_before (suc m) d h low deep =
      let steps : (line t (suc m)).depth ≤ (line t m).depth + 1 = subst (λ (k : ℕ). (line t k).depth ≤ (line t m).depth + 1) (add-one m) (w.down m (omega arith)) in
      last_at t w m d (omega arith) low (omega arith)

  pub last_to : (i d : ℕ) → i < length t → 1 ≤ d → d < (line t i).depth → (j : ℕ) × LastOf t d i j
  last_to = last_before

  pub some_above : (i : ℕ) → i < length t → 1 < (line t i).depth → (j : ℕ) × Above t j i
  some_above i h deep =
      let l = last_before i ((line t i).depth - 1) h (omega arith) (omega arith) in (l.0, above_from ((line t i).depth - 1) i l.0 (omega arith) l.1)

  pub above_deep : (j i : ℕ) → i < length t → Above t j i → 1 < (line t i).depth
  above_deep j i h a = omega (arith, w.low j (omega (arith, a.before)), a.outer)

  pub above_open : (j i : ℕ) → i < length t → Above t j i → Open t j i
  above_open j i h a =
      let deep : 1 < (line t i).depth = above_deep j i h a in
      let l = last_before i ((line t i).depth - 1) h (omega arith) (omega arith) in
      let b : Above t l.0 i = above_from ((line t i).depth - 1) i l.0 (omega arith) l.1 in
      subst (λ (k : ℕ). Open t k i) (one_above t i l.0 j b a) l.1.open_to

  pub open_over : (j i : ℕ) → j < i → Open t j i → (line t j).depth < (line t i).depth → Over t j i
  open_over j i b o d = record {
    before = b;
    deeper = λ k p q. elim (cases_eq k i) [
      | inl e ↦ subst (λ (m : ℕ). (line t j).depth < (line t m).depth) (sym e) d
      | inr e ↦ o k p (omega arith)
    ];
  }

  pub above_over : (j i : ℕ) → i < length t → Above t j i → Over t j i
  above_over j i h a = open_over j i a.before (above_open j i h a) (omega (arith, a.outer))

  pub over_parts : (j i : ℕ) → i < length t → Over t j i → Above t j i ⊎ ((k : ℕ) × Above t k i × Over t j k)
  over_parts j i h o =
      let lower : (line t j).depth < (line t i).depth = o.deeper i o.before (omega arith) in
      let deep : 1 < (line t i).depth = omega (arith, w.low j (omega (arith, o.before))) in
      let a = some_above i h deep in
      elim (cases_eq j a.0) [
        | inl e ↦ inl (subst (λ (k : ℕ). Above t k i) (sym e) a.1)
        | inr e ↦ elim (cases_lt j a.0) [
          | inl l ↦ inr (a.0, a.1, record { before = l; deeper = λ k p q. o.deeper k p (omega (arith, a.1.before)) })
          | inr l ↦ absurd (omega (arith, above_open a.0 i h a.1 j (omega arith) o.before, a.1.outer))
        ]
      ]

pub over_over : (t : TreeLines) (k j i : ℕ) → Over t k j → Over t j i → Over t k i
over_over t k j i a b = record {
  before = omega (arith, a.before, b.before);
  deeper = λ m p q. elim (cases_lt j m) [
    | inl l ↦ omega (arith, a.deeper j a.before (omega arith), b.deeper m l q)
    | inr l ↦ a.deeper m p l
  ];
}

pub standing_nested : (s : Sizes) (t : TreeLines) → TreeStands s t → Nested t
standing_nested s t w = record { low = λ i h. (w.each i h).low; first = w.first; down = w.down }

pub over_laws : OverLaws
over_laws = record {
  standing = standing_nested;
  parts = λ t w j i h o. over_parts w j i h o;
  above = λ t w j i h a. above_over w j i h a;
  further = over_over;
  some_above = λ t w i h d. some_above w i h d;
}
