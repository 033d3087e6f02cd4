-- What a turn of the reading loop keeps, and what each way out of it answers.
use Rattle.std.proofs.Common.{◌≡◌, ℕ, ◌+◌, ◌-◌, ◌*◌, ◌/◌, ◌%◌, ◌^◌, ◌<◌, ◌≤◌, List, ◌∷◌, length, get_or, drop, sym, ap, ◌∙◌, inl, inr, arith, mul_comm, mul-le-mul_left, pow_mono, pow-add}
use Rattle.std.proofs.lemmas.Nat.{pow_pos}
use Rattle.std.proofs.lemmas.List.{at_drop_more}
use Rattle.std.proofs.Math.Nat.{mod-eq_of_lt}
use Rattle.std.specs.Prelude.{◌⊎◌}
use Rattle.number.specs.declared.fault.Cause.TheVariants.{TooLarge}
use Rattle.number.specs.Spelling.{found, fault_at, read_number}
use Rattle.number.proofs.Groups.{coming, fits, less_high, shift_small, coming-large, coming-zero, coming-last, coming-more}

-- the groups so far make `value`, and the bytes that are left stand at the scale of the next
pub record SoFar (limit at : ℕ) (bytes rest : List ℕ) (value groups : ℕ) : Type 0 where
  pub shift : 7 * groups < 64
  pub within : value ≤ limit
  pub left : coming limit (2 ^ (7 * groups)) value (at + groups) (drop groups rest) ≡ read_number limit at bytes

module _ (limit at : ℕ) (bytes rest : List ℕ) (value groups : ℕ) (so_far : SoFar limit at bytes rest value groups) (here : groups < length rest) (b : ℕ) (is : b ≡ get_or rest groups 0) where
  opened : coming limit (2 ^ (7 * groups)) value (at + groups) (b ∷ drop (groups + 1) rest) ≡ read_number limit at bytes
  opened =
      let f : List ℕ → _ = coming limit (2 ^ (7 * groups)) value (at + groups) in
      ap (λ x. f (x ∷ drop (groups + 1) rest)) is ∙ sym (at_drop_more f rest groups 0 here) ∙ so_far.left

  -- a byte too large, or one byte too many
  pub too-large : ((limit - value) / 2 ^ (7 * groups) < b) ⊎ ((b ≡ 0) × (0 < groups)) → fault_at TooLarge (at + groups) ≡ read_number limit at bytes
  too-large (inl large) = sym (coming-large limit (2 ^ (7 * groups)) value (at + groups) b (drop (groups + 1) rest) large) ∙ opened
  too-large (inr zero) =
      let more : 2 ^ 7 ≤ 2 ^ (7 * groups) =
      let one : 7 ≤ 7 * groups = omega (arith, zero.1) in pow_mono one in
      sym (coming-zero limit (2 ^ (7 * groups)) value (at + groups) b (drop (groups + 1) rest) (omega (arith, zero.0)) zero.0 (omega arith)) ∙ opened

  module _ (allowed : b ≤ (limit - value) / 2 ^ (7 * groups)) (narrow : limit < 2 ^ 64) where
    pub fit : value + 2 ^ (7 * groups) * b ≤ limit
    fit = fits limit value (2 ^ (7 * groups)) b so_far.within allowed

    -- no bit of the byte is shifted out
    pub shifted : (n : ℕ) → n ≤ b → n * 2 ^ (7 * groups) % 2 ^ 64 ≡ 2 ^ (7 * groups) * n
    shifted n h =
        let e : n * 2 ^ (7 * groups) ≡ 2 ^ (7 * groups) * n = mul_comm n (2 ^ (7 * groups)) in
        let m : 2 ^ (7 * groups) * n ≤ 2 ^ (7 * groups) * b = mul-le-mul_left (2 ^ (7 * groups)) h in
        mod-eq_of_lt (omega (arith, fit)) ∙ e

    pub at_last : b < 128 → (b ≡ 0 → groups ≤ 0) → found (value + b * 2 ^ (7 * groups) % 2 ^ 64) (at + groups + 1) ≡ read_number limit at bytes
    at_last low some =
        let one : b ≡ 0 → 2 ^ (7 * groups) ≤ 1 = λ z. let none : 7 * groups ≡ 0 = omega (arith, some z) in omega (arith, ap (λ n. 2 ^ n) none) in
        ap (λ v. found (value + v) (at + groups + 1)) (shifted b (omega arith))
        ∙ sym (coming-last limit (2 ^ (7 * groups)) value (at + groups) b (drop (groups + 1) rest) allowed low one (pow_pos (7 * groups)))
        ∙ opened

    module _ (high : 128 ≤ b) where
      more_fit : value + 2 ^ (7 * groups) * (b - 128) + 2 ^ (7 * groups) * 128 ≤ limit
      more_fit = omega (arith, fit, less_high (2 ^ (7 * groups)) b high)

      pub next_turn : SoFar limit at bytes rest (value + (b - 128) * 2 ^ (7 * groups) % 2 ^ 64) (groups + 1)
      next_turn =
          let seven : 7 * groups + 7 ≡ 7 * (groups + 1) = omega arith in
          let power : 2 ^ (7 * groups + 7) ≡ 2 ^ (7 * groups) * 2 ^ 7 = pow-add 2 (7 * groups) 7 in
          let scale : 2 ^ (7 * groups) * 128 ≡ 2 ^ (7 * (groups + 1)) = sym power ∙ ap (λ n. 2 ^ n) seven in
          let value_is : value + (b - 128) * 2 ^ (7 * groups) % 2 ^ 64 ≡ value + 2 ^ (7 * groups) * (b - 128) = ap (λ v. value + v) (shifted (b - 128) (omega arith)) in
          let place : at + groups + 1 ≡ at + (groups + 1) = omega arith in
          let turn = sym (coming-more limit (2 ^ (7 * groups)) value (at + groups) b (drop (groups + 1) rest) allowed high (pow_pos (7 * groups)) so_far.within) ∙ opened in
          record {
            shift = omega (arith, shift_small (7 * groups) (omega (arith, more_fit)));
            within = omega (arith, more_fit);
            left = (λ i. coming limit (sym scale i) (value_is i) (sym place i) (drop (groups + 1) rest)) ∙ turn;
          }
