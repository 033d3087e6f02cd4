-- Which roles are in the numbers that the operations on bits give.
use Rattle.std.proofs.Common.{◌≡◌, ℕ, zero, suc, ◌-◌, ◌*◌, ◌/◌, ◌%◌, ◌^◌, ◌<◌, ◌≤◌, Bool, true, false, not, ◌&&◌, ◌||◌, eqb, ◌⊎◌, sym, refl, ap, ◌∙◌, inl, inr, ⊎_elim, mod-lt, pow-suc, arith, lit<, pow_pos, pow_mono}
use native.Mathlib.Nat.{div-eq_of_lt}
use lib.Bits.{bit_and, bit_or, or_shr, or_mod, and_shr, and_mod}
use lib.Count.{count_trailing_zeros, under}
use lib.Dec.{eqb-suc-suc}
use Rattle.std.proofs.lemmas.Nat.{shr-shr}
use Rattle.std.proofs.lemmas.Bool.{eqb-true, eqb-false, eq-eqb, ne_eqb, both_ways, cases_Bool, cases_lt}
use Rattle.order.specs.RoleSets.{has, In, Lowest}

-- ---- one digit

digit : (n : ℕ) → (n % 2 ≡ 0) ⊎ (n % 2 ≡ 1)
digit n =
    let small : n % 2 < 2 = mod-lt n (lit< tt) in
    ⊎_elim (λ h. inl (omega arith)) (λ h. inr (omega arith)) (cases_lt (n % 2) 1)

or_digit : (x y : ℕ) → x < 2 → y < 2 → eqb (bit_or x y) 1 ≡ (eqb x 1 || eqb y 1)
or_digit zero zero h k = refl
or_digit zero (suc zero) h k = refl
or_digit zero (suc (suc y)) h k = absurd (omega arith)
or_digit (suc zero) zero h k = refl
or_digit (suc zero) (suc zero) h k = refl
or_digit (suc zero) (suc (suc y)) h k = absurd (omega arith)
or_digit (suc (suc x)) y h k = absurd (omega arith)

and_digit : (x y : ℕ) → x < 2 → y < 2 → eqb (bit_and x y) 1 ≡ (eqb x 1 && eqb y 1)
and_digit zero zero h k = refl
and_digit zero (suc zero) h k = refl
and_digit zero (suc (suc y)) h k = absurd (omega arith)
and_digit (suc zero) zero h k = refl
and_digit (suc zero) (suc zero) h k = refl
and_digit (suc zero) (suc (suc y)) h k = absurd (omega arith)
and_digit (suc (suc x)) y h k = absurd (omega arith)

-- ---- union, intersection, and the recursion over the role

pub has-or : (m n r : ℕ) → has (bit_or m n) r ≡ (has m r || has n r)
unfolding has
has-or m n r =
    ap (λ (x : ℕ). eqb (x % 2) 1) (or_shr m n r)
    ∙ ap (λ (x : ℕ). eqb x 1) (or_mod (m / 2 ^ r) (n / 2 ^ r) 1)
    ∙ or_digit (m / 2 ^ r % 2) (n / 2 ^ r % 2) (mod-lt _ (lit< tt)) (mod-lt _ (lit< tt))

pub has-and : (m n r : ℕ) → has (bit_and m n) r ≡ (has m r && has n r)
unfolding has
has-and m n r =
    ap (λ (x : ℕ). eqb (x % 2) 1) (and_shr m n r)
    ∙ ap (λ (x : ℕ). eqb x 1) (and_mod (m / 2 ^ r) (n / 2 ^ r) 1)
    ∙ and_digit (m / 2 ^ r % 2) (n / 2 ^ r % 2) (mod-lt _ (lit< tt)) (mod-lt _ (lit< tt))

pub has-zero : (n : ℕ) → has n 0 ≡ eqb (n % 2) 1
unfolding has
has-zero n = ap (λ (x : ℕ). eqb (x % 2) 1) (omega arith)

pub has-suc : (n r : ℕ) → has n (suc r) ≡ has (n / 2) r
unfolding has
has-suc n r = ap (λ (x : ℕ). eqb (x % 2) 1) (ap (λ (e : ℕ). n / 2 ^ e) (omega arith) ∙ sym (shr-shr n 1 r))

-- ---- a number of w bits has no role from w on, and its roles make it

pub has-below : (w n r : ℕ) → n < 2 ^ w → In r n → r < w
unfolding has
has-below w n r h t =
    elim (cases_lt r w) [
      | inl l ↦ l
      | inr l ↦
          let m : 2 ^ w ≤ 2 ^ r = pow_mono l in
          let z : n / 2 ^ r ≡ 0 = div-eq_of_lt (omega arith) in
          let e : n / 2 ^ r % 2 ≡ 1 = eqb-true (n / 2 ^ r % 2) 1 t in
          absurd (omega (arith, ap (λ (x : ℕ). x % 2) z))
    ]

pub has-false_from : (n r w : ℕ) → n < 2 ^ w → w ≤ r → has n r ≡ false
has-false_from n r w h l =
    ⊎_elim (λ t. absurd (omega (arith, has-below w n r h t))) (λ f. f) (cases_Bool (has n r))

pub has-none : (r : ℕ) → has 0 r ≡ false
has-none r = has-false_from 0 r 0 (lit< tt) (omega arith)

same_digit : (m n : ℕ) → eqb (m % 2) 1 ≡ eqb (n % 2) 1 → m % 2 ≡ n % 2
same_digit m n e =
    ⊎_elim
    (λ t. eqb-true (m % 2) 1 t ∙ sym (eqb-true (n % 2) 1 (sym e ∙ t)))
    (λ f. ⊎_elim
    (λ z. ⊎_elim (λ y. z ∙ sym y) (λ o. absurd (eqb-false (n % 2) 1 (sym e ∙ f) o)) (digit n))
    (λ o. absurd (eqb-false (m % 2) 1 f o))
    (digit m))
    (cases_Bool (eqb (m % 2) 1))

-- two sets of w bits with the same roles are one number
pub has_same : (w m n : ℕ) → m < 2 ^ w → n < 2 ^ w → ((r : ℕ) → r < w → has m r ≡ has n r) → m ≡ n
has_same zero m n hm hn e = omega arith
has_same (suc w) m n hm hn e =
    let p : 2 ^ suc w ≡ 2 ^ w * 2 = pow-suc 2 w in
    let low : m % 2 ≡ n % 2 = same_digit m n (sym (has-zero m) ∙ e 0 (omega arith) ∙ has-zero n) in
    let high : m / 2 ≡ n / 2 =
    has_same w (m / 2) (n / 2) (omega arith) (omega arith) (λ r h. sym (has-suc m r) ∙ e (suc r) (omega arith) ∙ has-suc n r) in
    omega arith

-- a set whose roles all lie below w is a number of w bits
pub small_from_roles : (w k n : ℕ) → n < 2 ^ k → ((r : ℕ) → In r n → r < w) → n < 2 ^ w
small_from_roles zero k n h f =
    let z : n ≡ 0 = has_same k n 0 h (pow_pos k) (λ r l. ⊎_elim (λ t. absurd (omega (arith, f r t))) (λ e. e ∙ sym (has-none r)) (cases_Bool (has n r))) in
    omega arith
small_from_roles (suc w) k n h f =
    let p : 2 ^ suc w ≡ 2 ^ w * 2 = pow-suc 2 w in
    let half : n / 2 < 2 ^ w = small_from_roles w k (n / 2) (omega arith) (λ r t. omega (arith, f (suc r) (has-suc n r ∙ t))) in
    omega arith

pub small_of_itself : (n : ℕ) → n < 2 ^ n
small_of_itself zero = lit< tt
small_of_itself (suc n) =
    let p : 2 ^ suc n ≡ 2 ^ n * 2 = pow-suc 2 n in
    let h = small_of_itself n in
    omega arith

-- ---- the set of one role, and one role more

pub has_one : (k r : ℕ) → has (2 ^ k) r ≡ eqb k r
has_one zero zero = has-zero 1
has_one zero (suc r) = has-suc 1 r ∙ has-none r ∙ sym (ne_eqb 0 (suc r) (λ e. omega arith))
has_one (suc k) zero =
    let p : 2 ^ suc k ≡ 2 ^ k * 2 = pow-suc 2 k in
    has-zero (2 ^ suc k) ∙ ne_eqb (2 ^ suc k % 2) 1 (λ e. omega arith) ∙ sym (ne_eqb (suc k) 0 (λ e. omega arith))
has_one (suc k) (suc r) =
    let p : 2 ^ suc k ≡ 2 ^ k * 2 = pow-suc 2 k in
    let half : 2 ^ suc k / 2 ≡ 2 ^ k = omega arith in
    has-suc (2 ^ suc k) r ∙ ap (λ (x : ℕ). has x r) half ∙ has_one k r ∙ sym (eqb-suc-suc k r)

pub has-insert : (n k r : ℕ) → has (bit_or n (2 ^ k)) r ≡ (has n r || eqb k r)
has-insert n k r = has-or n (2 ^ k) r ∙ ap (λ (b : Bool). has n r || b) (has_one k r)

-- ---- the lowest role, and the set without it

trailing_even : (k n : ℕ) → n % 2 ≡ 0 → count_trailing_zeros (suc k) n ≡ suc (count_trailing_zeros k (n / 2))
unfolding count_trailing_zeros
trailing_even k n e = ap (λ (d : ℕ). under d (count_trailing_zeros k (n / 2))) e

trailing_odd : (k n : ℕ) → n % 2 ≡ 1 → count_trailing_zeros (suc k) n ≡ 0
unfolding count_trailing_zeros
trailing_odd k n e = ap (λ (d : ℕ). under d (count_trailing_zeros k (n / 2))) e

even_has_no_zero : (n : ℕ) → n % 2 ≡ 0 → has n 0 ≡ false
even_has_no_zero n e = has-zero n ∙ ne_eqb (n % 2) 1 (λ o. omega arith)

lowest_in : (k n : ℕ) → 0 < n → n < 2 ^ k → has n (count_trailing_zeros k n) ≡ true
lowest_in zero n p h = absurd (omega arith)
lowest_in (suc k) n p h =
    let twice : 2 ^ suc k ≡ 2 ^ k * 2 = pow-suc 2 k in
    ⊎_elim
    (λ e. ap (has n) (trailing_even k n e) ∙ has-suc n (count_trailing_zeros k (n / 2)) ∙ lowest_in k (n / 2) (omega arith) (omega arith))
    (λ o. ap (has n) (trailing_odd k n o) ∙ has-zero n ∙ eq-eqb (n % 2) 1 o)
    (digit n)

lowest_least : (k n x : ℕ) → has n x ≡ true → count_trailing_zeros k n ≤ x
unfolding count_trailing_zeros
lowest_least zero n x t = omega arith
lowest_least (suc k) n zero t =
    ⊎_elim (λ e. absurd (both_ways (has n 0) (even_has_no_zero n e) t)) (λ o. omega (arith, trailing_odd k n o)) (digit n)
lowest_least (suc k) n (suc x) t =
    ⊎_elim
    (λ e. omega (arith, trailing_even k n e, lowest_least k (n / 2) x (sym (has-suc n x) ∙ t)))
    (λ o. omega (arith, trailing_odd k n o))
    (digit n)

and_twice : (b : Bool) → (b && b) ≡ (b && true)
and_twice true = refl
and_twice false = refl

-- `n & (n - 1)` is n without its lowest role
lowest_cleared : (k n x : ℕ) → 0 < n → n < 2 ^ k → (has n x && has (n - 1) x) ≡ (has n x && not (eqb (count_trailing_zeros k n) x))
lowest_cleared zero n x p h = absurd (omega arith)
lowest_cleared (suc k) n zero p h =
    ⊎_elim
    (λ e. rw (even_has_no_zero n e))
    (λ o. let z : (n - 1) % 2 ≡ 0 = omega arith in
    rw (even_has_no_zero (n - 1) z, trailing_odd k n o))
    (digit n)
lowest_cleared (suc k) n (suc x) p h =
    let twice : 2 ^ suc k ≡ 2 ^ k * 2 = pow-suc 2 k in
    ⊎_elim
    (λ e.
    let half : (n - 1) / 2 ≡ n / 2 - 1 = omega arith in
    let some : 0 < n / 2 = omega arith in
    let small : n / 2 < 2 ^ k = omega arith in
    rw (has-suc n x, has-suc (n - 1) x, half, trailing_even k n e, eqb-suc-suc (count_trailing_zeros k (n / 2)) x)
    (lowest_cleared k (n / 2) x some small))
    (λ o.
    let half : (n - 1) / 2 ≡ n / 2 = omega arith in
    let apart : eqb 0 (suc x) ≡ false = ne_eqb 0 (suc x) (λ q. omega arith) in
    rw (has-suc n x, has-suc (n - 1) x, half, trailing_odd k n o, apart) (and_twice (has (n / 2) x)))
    (digit n)

pub lowest : (k n : ℕ) → 0 < n → n < 2 ^ k → Lowest n (count_trailing_zeros k n) (bit_and n (n - 1))
lowest k n p h = record {
  member = lowest_in k n p h;
  lowest = λ x t. lowest_least k n x t;
  others = λ x. has-and n (n - 1) x ∙ lowest_cleared k n x p h;
}
