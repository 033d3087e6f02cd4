-- Whether a set that is not empty is made of the first `count` roles: by a shift.
use Rattle.std.proofs.Common.{◌≡◌, ℕ, ◌+◌, ◌*◌, ◌/◌, ◌%◌, ◌^◌, ◌<◌, ◌≤◌, Bool, not, eqb, leb, Decides, ap, ◌∙◌, mod-lt, div-add-mod', zero-mul, arith, pow_pos}
use native.Mathlib.Nat.{div-eq_of_lt}
use Rattle.std.proofs.lemmas.Bool.Decides.{Decides-like, Decides-eqb, same_from_decides}
use Rattle.std.proofs.lemmas.Bool.{le-leb}
use Rattle.order.specs.RoleSets.{InUse, in_use, in_use_of}
use Rattle.order.proofs.Bits.{has-below, small_from_roles}
use Rattle.order.proofs.Tests.{Decides-in_use, Decides-in_use_of, Decides-not_zero}

-- what a test owes: it decides the sentence, and so agrees with the definition
pub record Uses (r : Bool) (count set : ℕ) : Type 0 where
  pub answer : r ≡ in_use_of count set
  pub roles : r ≡ in_use count set
  pub says : Decides r (InUse count set)

uses : (r : Bool) (count set : ℕ) → set < 2 ^ 64 → Decides r (InUse count set) → Uses r count set
uses r count set small d = record {
  answer = same_from_decides r (in_use_of count set) d (Decides-in_use_of count set);
  roles = same_from_decides r (in_use count set) d (Decides-in_use count set small);
  says = d;
}

pub uses_none : (count set : ℕ) → set < 2 ^ 64 → set ≡ 0 → Uses (not (eqb set 0)) count set
uses_none count set small z = uses (not (eqb set 0)) count set small (Decides-like (not (eqb set 0)) (λ n. absurd (n z)) (λ u. u.0) (Decides-not_zero set))

pub uses_all : (count set : ℕ) → set < 2 ^ 64 → (set ≡ 0 → ⊥) → 64 ≤ count → Uses (leb 64 count) count set
uses_all count set small some h =
    uses (leb 64 count) count set small (λ e. (some, λ role t. omega (arith, has-below 64 set role small t)), λ u. le-leb 64 count h)

pub uses_shift : (count set : ℕ) → set < 2 ^ 64 → (set ≡ 0 → ⊥) → Uses (eqb (set / 2 ^ count) 0) count set
uses_shift count set small some =
    uses (eqb (set / 2 ^ count) 0) count set small
    (Decides-like (eqb (set / 2 ^ count) 0) (λ z. (some, λ role t. has-below count set role (low z) t)) (λ u. div-eq_of_lt (small_from_roles count 64 set small u.1)) (Decides-eqb (set / 2 ^ count) 0))
  where
    low : set / 2 ^ count ≡ 0 → set < 2 ^ count
    low z =
        let parts : set / 2 ^ count * 2 ^ count + set % 2 ^ count ≡ set = div-add-mod' set (2 ^ count) in
        let none : set / 2 ^ count * 2 ^ count ≡ 0 = ap (λ (q : ℕ). q * 2 ^ count) z ∙ zero-mul (2 ^ count) in
        let rest : set % 2 ^ count < 2 ^ count = mod-lt set (pow_pos count) in
        omega arith
