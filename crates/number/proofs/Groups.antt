-- A number read group by group from the front: what is still to come stands at a scale, over a value.
use Rattle.std.proofs.Common.{◌≡◌, ℕ, ◌+◌, ◌-◌, ◌*◌, ◌/◌, ◌%◌, ◌^◌, ◌<◌, ◌≤◌, cond, eqb, List, ◌∷◌, Ok, Err, Result, sym, refl, ap, ◌∙◌, ⊎_elim, mul_assoc, mul_comm, mul-le-mul_left, mul-add, arith, pow_mono, pow-add}
use native.Mathlib.Nat.{mul-add-div, div-div-eq-div-mul}
use Rattle.std.proofs.lemmas.Nat.{div-add-mod'}
use Rattle.std.proofs.lemmas.Bool.{lt-ltb, le-ltb, eq-eqb, ne_eqb, cond-true, cond-false, cases_lt, cases_eq}
use Rattle.number.specs.declared.fault.Cause.TheVariants.{TooLarge}
use Rattle.number.specs.declared.fault.ReadFault.{ReadFault}
use Rattle.number.specs.declared.reading.Number.{Number}
use Rattle.number.specs.Spelling.{found, fault_at, behind, grouped, number}

-- ---- one byte

module _ (limit b : ℕ) (bs : List ℕ) where
  pub number-large : limit < b → number limit (b ∷ bs) ≡ fault_at TooLarge 0
  number-large h = cond-true _ _ _ (lt-ltb _ _ h)

  pub number-last : b ≤ limit → b < 128 → number limit (b ∷ bs) ≡ found b 1
  number-last h low = cond-false _ _ _ (le-ltb _ _ h) ∙ cond-true _ _ _ (lt-ltb _ _ low)

  pub number_more : b ≤ limit → 128 ≤ b → number limit (b ∷ bs) ≡ grouped (b - 128) (behind (number ((limit - (b - 128)) / 128) bs))
  number_more h high = cond-false _ _ _ (le-ltb _ _ h) ∙ cond-false _ _ _ (le-ltb _ _ high)

pub behind-zero : (n : Number) → n.value ≡ 0 → behind (Ok n) ≡ fault_at TooLarge 0
behind-zero n e = cond-true _ _ _ (eq-eqb _ _ e)

pub behind-some : (n : Number) → (n.value ≡ 0 → ⊥) → behind (Ok n) ≡ Ok n
behind-some n e = cond-false _ _ _ (ne_eqb _ _ e)

-- ---- what is to come, at a scale

abbrev pub lifted : ℕ → ℕ → ℕ → Result Number ReadFault → Result Number ReadFault
lifted value scale place (Ok n) = found (value + scale * n.value) (place + n.next)
lifted value scale place (Err f) = fault_at f.cause (place + f.byte)

-- the first group may be 0, a later one not
abbrev pub later : ℕ → Result Number ReadFault → Result Number ReadFault
later scale r = cond (eqb scale 1) r (behind r)

abbrev pub coming : ℕ → ℕ → ℕ → ℕ → List ℕ → Result Number ReadFault
coming limit scale value place bs = lifted value scale place (later scale (number ((limit - value) / scale) bs))

later_more : (scale : ℕ) (r : Result Number ReadFault) → 1 < scale → later scale r ≡ behind r
later_more scale r h = cond-false _ _ _ (ne_eqb scale 1 (λ e. omega arith))

-- a fault is a fault on either way
later-err : (scale : ℕ) (f : ReadFault) → later scale (Err f) ≡ Err f
later-err scale f =
    ⊎_elim (λ e. cond-true _ _ _ (eq-eqb scale 1 e)) (λ n. cond-false _ _ _ (ne_eqb scale 1 n)) (cases_eq scale 1)

behind-grouped : (low : ℕ) (r : Result Number ReadFault) → behind (grouped low (behind r)) ≡ grouped low (behind r)
behind-grouped low (Err f) = refl
behind-grouped low (Ok n) =
    ⊎_elim
    (λ z. let e = behind-zero n z in ap (λ q. behind (grouped low q)) e ∙ sym (ap (grouped low) e))
    (λ s.
    let e = behind-some n s in
    let some : low + 128 * n.value ≡ 0 → ⊥ = λ z. s (omega arith) in
    ap (λ q. behind (grouped low q)) e ∙ behind-some (record { value = low + 128 * n.value; next = n.next + 1 }) some ∙ sym (ap (grouped low) e))
    (cases_eq n.value 0)

later-grouped : (scale low : ℕ) (r : Result Number ReadFault) → later scale (grouped low (behind r)) ≡ grouped low (behind r)
later-grouped scale low r =
    ⊎_elim
    (λ e. cond-true _ _ _ (eq-eqb scale 1 e))
    (λ n. cond-false _ _ _ (ne_eqb scale 1 n) ∙ behind-grouped low r)
    (cases_eq scale 1)

one_more : (value scale low n : ℕ) → value + scale * (low + 128 * n) ≡ value + scale * low + scale * 128 * n
one_more value scale low n =
    let e : scale * (low + 128 * n) ≡ scale * low + scale * (128 * n) = mul-add scale low (128 * n) in
    let f : scale * 128 * n ≡ scale * (128 * n) = mul_assoc scale 128 n in
    omega arith

lifted-grouped : (value scale place low : ℕ) (r : Result Number ReadFault)
    → lifted value scale place (grouped low r) ≡ lifted (value + scale * low) (scale * 128) (place + 1) r
lifted-grouped value scale place low (Ok n) =
    let v = one_more value scale low n.value in
    let p : place + (n.next + 1) ≡ place + 1 + n.next = omega arith in
    (λ i. found (v i) (p i))
lifted-grouped value scale place low (Err f) =
    let p : place + (f.byte + 1) ≡ place + 1 + f.byte = omega arith in
    ap (fault_at f.cause) p

-- what the limit leaves for the groups behind
rest-limit : (limit value scale low : ℕ) → 0 < scale → value + scale * low ≤ limit
    → ((limit - value) / scale - low) / 128 ≡ (limit - (value + scale * low)) / (scale * 128)
rest-limit limit value scale low pos fit =
    let whole : scale * low + (limit - (value + scale * low)) ≡ limit - value = omega arith in
    let quotient : (scale * low + (limit - (value + scale * low))) / scale ≡ low + (limit - (value + scale * low)) / scale
    = mul-add-div pos low (limit - (value + scale * low)) in
    let less : (limit - value) / scale - low ≡ (limit - (value + scale * low)) / scale
    = ap (λ n. n / scale - low) (sym whole) ∙ ap (λ n. n - low) quotient ∙ sub_first low ((limit - (value + scale * low)) / scale) in
    ap (λ n. n / 128) less ∙ div-div-eq-div-mul (limit - (value + scale * low)) scale 128
  where
    sub_first : (a b : ℕ) → a + b - a ≡ b
    sub_first a b = omega arith

-- ---- the test by a quotient is the test by a product

pub fits : (limit value scale b : ℕ) → value ≤ limit → b ≤ (limit - value) / scale → value + scale * b ≤ limit
fits limit value scale b le h =
    let q : ℕ = (limit - value) / scale in
    let e : q * scale + (limit - value) % scale ≡ limit - value = div-add-mod' (limit - value) scale in
    let m : scale * b ≤ scale * q = mul-le-mul_left scale h in
    omega (arith, mul_comm scale q)

pub less_high : (scale b : ℕ) → 128 ≤ b → scale * (b - 128) + scale * 128 ≡ scale * b
less_high scale b h =
    let e : b - 128 + 128 ≡ b = omega arith in
    sym (mul-add scale (b - 128) 128) ∙ ap (λ n. scale * n) e

-- ---- the steps of the loop

module _ (limit scale value place b : ℕ) (bs : List ℕ) where
  pub coming-large : (limit - value) / scale < b → coming limit scale value place (b ∷ bs) ≡ fault_at TooLarge place
  coming-large h =
      ap (λ r. lifted value scale place (later scale r)) (number-large ((limit - value) / scale) b bs h)
      ∙ ap (lifted value scale place) (later-err scale (record { cause = TooLarge; byte = 0 }))
      ∙ ap (fault_at TooLarge) (omega arith)

  pub coming-zero : b ≤ (limit - value) / scale → b ≡ 0 → 1 < scale → coming limit scale value place (b ∷ bs) ≡ fault_at TooLarge place
  coming-zero h z more =
      ap (λ r. lifted value scale place (later scale r)) (number-last ((limit - value) / scale) b bs h (omega arith))
      ∙ ap (lifted value scale place) (later_more scale (found b 1) more ∙ behind-zero (record { value = b; next = 1 }) z)
      ∙ ap (fault_at TooLarge) (omega arith)

  pub coming-last : b ≤ (limit - value) / scale → b < 128 → (b ≡ 0 → scale ≤ 1) → 0 < scale
      → coming limit scale value place (b ∷ bs) ≡ found (value + scale * b) (place + 1)
  coming-last h low some pos =
      ap (λ r. lifted value scale place (later scale r)) (number-last ((limit - value) / scale) b bs h low)
      ∙ ap (lifted value scale place)
      (⊎_elim
      (λ e. cond-true _ _ _ (eq-eqb scale 1 e))
      (λ n. later_more scale (found b 1) (omega arith) ∙ behind-some (record { value = b; next = 1 }) (λ z. n (omega (arith, some z))))
      (cases_eq scale 1))

  pub coming-more : b ≤ (limit - value) / scale → 128 ≤ b → 0 < scale → value ≤ limit
      → coming limit scale value place (b ∷ bs) ≡ coming limit (scale * 128) (value + scale * (b - 128)) (place + 1) bs
  coming-more h high pos le =
      let low : ℕ = b - 128 in
      let rest : Result Number ReadFault = number (((limit - value) / scale - low) / 128) bs in
      let fit : value + scale * (b - 128) ≤ limit = omega (arith, fits limit value scale b le h, less_high scale b high) in
      let wider : 1 < scale * 128 = omega arith in
      ap (λ r. lifted value scale place (later scale r)) (number_more ((limit - value) / scale) b bs h high)
      ∙ ap (lifted value scale place) (later-grouped scale low rest)
      ∙ lifted-grouped value scale place low (behind rest)
      ∙ ap (λ l. lifted (value + scale * low) (scale * 128) (place + 1) (behind (number l bs))) (rest-limit limit value scale low pos fit)
      ∙ sym (ap (lifted (value + scale * low) (scale * 128) (place + 1)) (later_more (scale * 128) _ wider))

-- a scale that can still grow is below 2 ^ 57
pub shift_small : (shift : ℕ) → 2 ^ shift * 128 ≤ 2 ^ 64 - 1 → shift + 7 < 64
shift_small shift h =
    ⊎_elim
    (λ l. l)
    (λ big.
    let more : 2 ^ 64 ≤ 2 ^ (shift + 7) = pow_mono big in
    let e : 2 ^ (shift + 7) ≡ 2 ^ shift * 2 ^ 7 = pow-add 2 shift 7 in
    absurd (omega arith))
    (cases_lt (shift + 7) 64)
