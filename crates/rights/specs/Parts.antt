-- What a code brings, as a number and in words.
use Rattle.std.specs.Prelude.{◌≡◌, ℕ, zero, suc, ◌+◌, ◌^◌, ◌<◌, Bool, true, false, ◌&&◌, ◌||◌, bit_and, bit_or, slice_index, refl}
use Rattle.std.proofs.Common.{sym, ap, subst, ◌∙◌, ⊎_elim, add-one, arith, lit<}
use Rattle.std.proofs.lemmas.Nat.{or_lt}
use Rattle.std.specs.Int.Bits.{and_lt}
use Rattle.std.proofs.lemmas.Bool.{and_parts, and_from, cond-true, cond-false, cases_Bool, or_cases, or_left, or_right, both_ways, cases_eq}
use Rattle.order.specs.RoleSets.{has, In, Part}
use Rattle.order.proofs.Bits.{has-and, has-or, has-none, has_same}
use Rattle.rights.specs.Bringing.{table, Brings, brought_to, brought}

pub brought-none : (code : ℕ) → brought_to code 0 ≡ 0
unfolding brought_to
brought-none code = refl

pub brought-with : (code n : ℕ) → has code n ≡ true → brought_to code (n + 1) ≡ bit_or (brought_to code n) (slice_index table n)
unfolding brought_to
brought-with code n t = rw add-one (cond-true (has code n) _ _ t)

pub brought-without : (code n : ℕ) → has code n ≡ false → brought_to code (n + 1) ≡ brought_to code n
unfolding brought_to
brought-without code n f = rw add-one (cond-false (has code n) _ _ f)

row_small : (n : ℕ) → slice_index table n < 2 ^ 6
row_small zero = lit< tt
row_small (suc zero) = lit< tt
row_small (suc (suc zero)) = lit< tt
row_small (suc (suc (suc zero))) = lit< tt
row_small (suc (suc (suc (suc zero)))) = lit< tt
row_small (suc (suc (suc (suc (suc zero))))) = lit< tt
row_small (suc (suc (suc (suc (suc (suc n)))))) = lit< tt

pub brought-small : (code n : ℕ) → brought_to code n < 2 ^ 6
brought-small code zero = subst (λ (m : ℕ). m < 2 ^ 6) (sym (brought-none code)) (lit< tt)
brought-small code (suc n) =
    ⊎_elim
    (λ t. subst (λ (m : ℕ). m < 2 ^ 6) (sym (brought-with' t)) (or_lt 6 (brought_to code n) (slice_index table n) (brought-small code n) (row_small n)))
    (λ f. subst (λ (m : ℕ). m < 2 ^ 6) (sym (brought-without' f)) (brought-small code n))
    (cases_Bool (has code n))
  where
    brought-with' : has code n ≡ true → brought_to code (suc n) ≡ bit_or (brought_to code n) (slice_index table n)
    brought-with' t = ap (brought_to code) (sym (add-one n)) ∙ brought-with code n t

    brought-without' : has code n ≡ false → brought_to code (suc n) ≡ brought_to code n
    brought-without' f = ap (brought_to code) (sym (add-one n)) ∙ brought-without code n f

-- the number has the rights that the words say
abbrev Upto : ℕ → ℕ → ℕ → Type 0
Upto code n right = (i : ℕ) × (i < n) × In i code × In right (slice_index table i)

brought-says : (code n right : ℕ) → In right (brought_to code n) → Upto code n right
brought-says code zero right t =
    absurd (both_ways (has 0 right) (has-none right) (subst (λ (m : ℕ). has m right ≡ true) (brought-none code) t))
brought-says code (suc n) right t =
    ⊎_elim
    (λ h.
    let union : In right (bit_or (brought_to code n) (slice_index table n)) =
    subst (λ (m : ℕ). has m right ≡ true) (ap (brought_to code) (sym (add-one n)) ∙ brought-with code n h) t in
    ⊎_elim
    (λ old. wider (brought-says code n right old))
    (λ new. (n, omega arith, h, new))
    (or_cases (has (brought_to code n) right) (has (slice_index table n) right) (sym (has-or (brought_to code n) (slice_index table n) right) ∙ union)))
    (λ f. wider (brought-says code n right (subst (λ (m : ℕ). has m right ≡ true) (ap (brought_to code) (sym (add-one n)) ∙ brought-without code n f) t)))
    (cases_Bool (has code n))
  where
    wider : Upto code n right → Upto code (suc n) right
    wider w = let h : w.0 < n = w.1 in (w.0, omega arith, w.2, w.3)

brought-has : (code n right : ℕ) → Upto code n right → In right (brought_to code n)
brought-has code zero right w = let h : w.0 < 0 = w.1 in absurd (omega arith)
brought-has code (suc n) right w =
    ⊎_elim
    (λ here.
    let h : has code n ≡ true = subst (λ (i : ℕ). In i code) here w.2 in
    let row : In right (slice_index table n) = subst (λ (i : ℕ). In right (slice_index table i)) here w.3 in
    with_row h (or_right (has (brought_to code n) right) (has (slice_index table n) right) row))
    (λ other.
    let below : w.0 < suc n = w.1 in
    let old : In right (brought_to code n) = brought-has code n right (w.0, omega arith, w.2, w.3) in
    ⊎_elim
    (λ h. with_row h (or_left (has (brought_to code n) right) (has (slice_index table n) right) old))
    (λ f. subst (λ (m : ℕ). has m right ≡ true) (sym (ap (brought_to code) (sym (add-one n)) ∙ brought-without code n f)) old)
    (cases_Bool (has code n)))
    (cases_eq w.0 n)
  where
    with_row : has code n ≡ true → (has (brought_to code n) right || has (slice_index table n) right) ≡ true → In right (brought_to code (suc n))
    with_row h t =
        subst (λ (m : ℕ). has m right ≡ true) (sym (ap (brought_to code) (sym (add-one n)) ∙ brought-with code n h))
        (has-or (brought_to code n) (slice_index table n) right ∙ t)

pub brought-brings : (code right : ℕ) → In right (brought code) → Brings code right
brought-brings code = brought-says code 6

pub brings_brought : (code right : ℕ) → Brings code right → In right (brought code)
brings_brought code = brought-has code 6

-- ---- a part, as a test on numbers

pub and_part : (x y : ℕ) → bit_and x y ≡ x → Part x y
and_part x y e r t = (and_parts (has x r) (has y r) (sym (has-and x y r) ∙ ap (λ (n : ℕ). has n r) e ∙ t)).1

pub part_and : (w x y : ℕ) → x < 2 ^ w → y < 2 ^ w → Part x y → bit_and x y ≡ x
part_and w x y hx hy p =
    has_same w (bit_and x y) x (and_lt w x y hx hy) hx
    (λ r _. has-and x y r
    ∙ ⊎_elim
    (λ t. and_from (has x r) (has y r) t (p r t) ∙ sym t)
    (λ f. ap (λ (b : Bool). b && has y r) f ∙ sym f)
    (cases_Bool (has x r)))
