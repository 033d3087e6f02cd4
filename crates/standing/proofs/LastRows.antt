-- The last row in use, as the code takes it.
use Rattle.std.proofs.Common.{◌≡◌, ℕ, List, ◌+◌, ◌-◌, min, length, get_or, eqb, Some, None, Option, sym, ap, ◌∙◌, subst, inl, inr, arith}
use Rattle.std.specs.Prelude.{slice_get}
use Rattle.std.proofs.lemmas.Option.{slice_get-get_or, slice_get_past}
use Rattle.std.proofs.lemmas.List.{get_or-take}
use Rattle.std.proofs.lemmas.Bool.{cases_eq, cond-true, cond-false, eq-eqb, ne_eqb}
use Rattle.rows.specs.Numbering.{next_number}
use Rattle.layout.specs.declared.held.Table.{Table}
use Rattle.layout.specs.Held.{in_use}
use Rattle.standing.specs.Sizes.{within, numbered_in}

module _ {X : Type 0} {n : ℕ} (number : X → ℕ) (zero : X) (rows limit : ℕ) (t : Table X n) where
  abbrev last : Option X
  last = slice_get (in_use t) (length (in_use t) - 1)

  abbrev found : ℕ
  found = within (number (get_or t.rows (within t.count rows - 1) zero) + 1) limit

  numbered_last : length (in_use t) ≡ min t.count rows → within (next_number number last) limit ≡ numbered_in number zero rows limit t
  numbered_last long = elim (cases_eq (within t.count rows) 0) [
    | inl z ↦
        let none : last ≡ None = slice_get_past (in_use t) (length (in_use t) - 1) (omega arith) in
        let least : within 0 limit ≡ 0 = omega arith in
        ap (λ (o : Option X). within (next_number number o) limit) none ∙ least ∙ sym (cond-true (eqb (within t.count rows) 0) 0 found (eq-eqb (within t.count rows) 0 z))
    | inr z ↦
        let some : last ≡ Some (get_or (in_use t) (length (in_use t) - 1) zero) = slice_get-get_or (in_use t) (length (in_use t) - 1) zero (omega arith) in
        let here : get_or (in_use t) (length (in_use t) - 1) zero ≡ get_or t.rows (within t.count rows - 1) zero =
        get_or-take t.count t.rows (length (in_use t) - 1) zero (omega arith) ∙ ap (λ (k : ℕ). get_or t.rows (k - 1) zero) long in
        ap (λ (o : Option X). within (next_number number o) limit) some
        ∙ (ap (λ (x : X). within (number x + 1) limit) here ∙ sym (cond-false (eqb (within t.count rows) 0) 0 found (ne_eqb (within t.count rows) 0 z)))
  ]

  -- the same of rows that are those in use
  pub numbered_rows : (r : ℕ) (xs : List X) → xs ≡ in_use t → length xs ≡ min t.count rows → r ≡ next_number number (slice_get xs (length xs - 1))
      → within r limit ≡ numbered_in number zero rows limit t
  numbered_rows r xs same long e =
      ap (λ (m : ℕ). within m limit) (e ∙ ap (λ (ys : List X). next_number number (slice_get ys (length ys - 1))) same)
      ∙ numbered_last (subst (λ (ys : List X). length ys ≡ min t.count rows) same long)
