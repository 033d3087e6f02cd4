-- The set of the roles that pass a test.
use Rattle.std.proofs.Common.{◌≡◌, ℕ, zero, suc, ◌*◌, ◌^◌, ◌<◌, Bool, true, false, ◌&&◌, ◌||◌, eqb, ltb, sym, refl, ap, ◌∙◌, subst, ⊎_elim, pow-suc, arith}
use lib.Bits.{bit_or}
use Rattle.std.proofs.lemmas.Nat.{or_lt, pow_pos}
use Rattle.std.proofs.lemmas.Bool.{cases_Bool, cases_lt, cases_order, lt-ltb, le-ltb, eq-eqb, ne_eqb, and_left, cond-true, cond-false}
use Rattle.order.specs.RoleSets.{has, kept_to, kept}
use Rattle.order.specs.SetLaws.{Membership}
use Rattle.order.proofs.Bits.{has-insert, has-none, has_same, has-false_from}

-- ---- the roles that pass

kept-with : (p : ℕ → Bool) (set n : ℕ) → (has set n && p n) ≡ true → kept_to p set (suc n) ≡ bit_or (kept_to p set n) (2 ^ n)
unfolding kept_to
kept-with p set n t = cond-true (has set n && p n) (bit_or (kept_to p set n) (2 ^ n)) (kept_to p set n) t

kept-without : (p : ℕ → Bool) (set n : ℕ) → (has set n && p n) ≡ false → kept_to p set (suc n) ≡ kept_to p set n
unfolding kept_to
kept-without p set n f = cond-false (has set n && p n) (bit_or (kept_to p set n) (2 ^ n)) (kept_to p set n) f

kept-none : (p : ℕ → Bool) (set : ℕ) → kept_to p set 0 ≡ 0
unfolding kept_to
kept-none p set = refl

kept_to-lt : (p : ℕ → Bool) (set n : ℕ) → kept_to p set n < 2 ^ n
kept_to-lt p set zero = omega (arith, kept-none p set)
kept_to-lt p set (suc n) =
    let so_far : kept_to p set n < 2 ^ n = kept_to-lt p set n in
    let twice : 2 ^ suc n ≡ 2 ^ n * 2 = pow-suc 2 n in
    let wider : kept_to p set n < 2 ^ suc n = omega arith in
    let new : 2 ^ n < 2 ^ suc n = omega (arith, pow_pos n) in
    ⊎_elim
    (λ t. subst (λ (m : ℕ). m < 2 ^ suc n) (sym (kept-with p set n t)) (or_lt (suc n) (kept_to p set n) (2 ^ n) wider new))
    (λ f. subst (λ (m : ℕ). m < 2 ^ suc n) (sym (kept-without p set n f)) wider)
    (cases_Bool (has set n && p n))

-- one turn more at role n, seen from role x
next_role : (p : ℕ → Bool) (set n x : ℕ) (b : Bool) → (has set n && p n) ≡ b
    → ((ltb x n && (has set x && p x)) || (eqb n x && b)) ≡ (ltb x (suc n) && (has set x && p x))
next_role p set n x b e =
    ⊎_elim
    (λ same.
    let here : (has set x && p x) ≡ b = ap (λ (k : ℕ). has set k && p k) same ∙ e in
    rw (le-ltb x n (omega arith), eq-eqb n x (sym same), lt-ltb x (suc n) (omega arith), here))
    (⊎_elim
    (λ l. rw (lt-ltb x n l, ne_eqb n x (λ q. omega arith), lt-ltb x (suc n) (omega arith)) (or_never (has set x && p x)))
    (λ l. rw (le-ltb x n (omega arith), ne_eqb n x (λ q. omega arith), le-ltb x (suc n) (omega arith))))
    (cases_order x n)
  where
    or_never : (y : Bool) → (y || false) ≡ y
    or_never true = refl
    or_never false = refl

has-kept_to : (p : ℕ → Bool) (set n x : ℕ) → has (kept_to p set n) x ≡ (ltb x n && (has set x && p x))
has-kept_to p set zero x =
    ap (λ (m : ℕ). has m x) (kept-none p set) ∙ has-none x ∙ sym (and_left (ltb x 0) (has set x && p x) (le-ltb x 0 (omega arith)))
has-kept_to p set (suc n) x =
    ⊎_elim
    (λ t.
    ap (λ (m : ℕ). has m x) (kept-with p set n t) ∙ has-insert (kept_to p set n) n x
    ∙ rw (has-kept_to p set n x) (ap (λ (y : Bool). (ltb x n && (has set x && p x)) || y) (sym (and_always (eqb n x))) ∙ next_role p set n x true t))
    (λ f.
    ap (λ (m : ℕ). has m x) (kept-without p set n f)
    ∙ rw (has-kept_to p set n x) (sym (or_nothing (ltb x n && (has set x && p x)) (eqb n x)) ∙ next_role p set n x false f))
    (cases_Bool (has set n && p n))
  where
    and_always : (y : Bool) → (y && true) ≡ y
    and_always true = refl
    and_always false = refl

    or_nothing : (b y : Bool) → (b || (y && false)) ≡ b
    or_nothing true y = refl
    or_nothing false true = refl
    or_nothing false false = refl

pub has_kept : (p : ℕ → Bool) (set : ℕ) → set < 2 ^ 64 → (x : ℕ) → has (kept p set) x ≡ (has set x && p x)
has_kept p set small x =
    has-kept_to p set 64 x
    ∙ ⊎_elim
    (λ l. ap (λ (b : Bool). b && (has set x && p x)) (lt-ltb x 64 l))
    (λ l. and_left (ltb x 64) (has set x && p x) (le-ltb x 64 l) ∙ sym (and_left (has set x) (p x) (has-false_from set x 64 small l)))
    (cases_lt x 64)

pub membership : Membership
membership = record {
  added = has-insert;
  kept_roles = has_kept;
  kept_small = λ p set. kept_to-lt p set 64;
  equal = has_same 64;
}
