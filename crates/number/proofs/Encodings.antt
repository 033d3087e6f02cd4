-- A number and its bytes, both ways.
use Rattle.std.proofs.Common.{◌≡◌, ℕ, zero, suc, ◌+◌, ◌-◌, ◌*◌, ◌/◌, ◌%◌, ◌<◌, ◌≤◌, List, [], ◌∷◌, ◌++◌, length, get_or, take, drop, Ok, Err, Result, sym, refl, ap, ◌∙◌, subst, inl, inr, arith}
use Rattle.std.proofs.lemmas.Nat.{div-add-mod', mod_below, le-div}
use Rattle.std.proofs.lemmas.List.{drop_at, get_or-drop}
use Rattle.std.proofs.lemmas.Bool.{lt-ltb, le-ltb, cond-true, cond-false, cases_lt, cases_eq}
use Rattle.number.specs.declared.fault.ReadFault.{ReadFault}
use Rattle.number.specs.declared.reading.Number.{Number}
use Rattle.number.specs.Spelling.{found, behind, grouped, number, from, encode_in, encode}
use Rattle.number.specs.Laws.{OneSpelling}
use Rattle.number.proofs.Groups.{number-large, number-last, number_more, behind-zero, behind-some, fits}

-- ---- the bytes, whatever bounds their count

encode-last : (most n : ℕ) → n < 128 → encode_in most n ≡ n ∷ []
unfolding encode_in
encode-last zero n h = refl
encode-last (suc most) n h = cond-true _ _ _ (lt-ltb _ _ h)

encode-front : (most n : ℕ) → 128 ≤ n → encode_in (suc most) n ≡ (n % 128 + 128) ∷ encode_in most (n / 128)
unfolding encode_in
encode-front most n h = cond-false _ _ _ (le-ltb _ _ h)

encode_same : (f g n : ℕ) → n ≤ f → n ≤ g → encode_in f n ≡ encode_in g n
encode_same zero g n a b = let low : n < 128 = omega arith in encode-last 0 n low ∙ sym (encode-last g n low)
encode_same (suc f) zero n a b = let low : n < 128 = omega arith in encode-last (suc f) n low ∙ sym (encode-last 0 n low)
encode_same (suc f) (suc g) n a b =
    elim (cases_lt n 128) [
      | inl low ↦ encode-last (suc f) n low ∙ sym (encode-last (suc g) n low)
      | inr high ↦
          encode-front f n high ∙ ap (λ l. (n % 128 + 128) ∷ l) (encode_same f g (n / 128) (omega arith) (omega arith)) ∙ sym (encode-front g n high)
    ]

pub encode-short : (n : ℕ) → n < 128 → encode n ≡ n ∷ []
encode-short n h = encode-last n n h

pub encode-long : (n : ℕ) → 128 ≤ n → encode n ≡ (n % 128 + 128) ∷ encode (n / 128)
encode-long n h =
    let p : n ≡ suc (n - 1) = omega arith in
    ap (λ f. encode_in f n) p ∙ encode-front (n - 1) n h
    ∙ ap (λ l. (n % 128 + 128) ∷ l) (encode_same (n - 1) (n / 128) (n / 128) (omega arith) (omega arith))

-- ---- what is written is read

reads_low : (most n limit : ℕ) (after : List ℕ) → n < 128 → n ≤ limit
    → number limit (encode_in most n ++ after) ≡ found n (length (encode_in most n))
reads_low most n limit after low fit =
    let e = encode-last most n low in
    ap (λ l. number limit (l ++ after)) e ∙ number-last limit n after fit low ∙ ap (λ l. found n (length l)) (sym e)

reads : (most n limit : ℕ) (after : List ℕ) → n ≤ most → n ≤ limit
    → number limit (encode_in most n ++ after) ≡ found n (length (encode_in most n))
reads zero n limit after a fit = reads_low zero n limit after (omega arith) fit
reads (suc most) n limit after a fit =
    elim (cases_lt n 128) [
      | inl low ↦ reads_low (suc most) n limit after low fit
      | inr high ↦
          let b : ℕ = n % 128 + 128 in
          let rest : List ℕ = encode_in most (n / 128) in
          let e = encode-front most n high in
          let split : n / 128 * 128 + n % 128 ≡ n = div-add-mod' n 128 in
          let small : n % 128 < 128 = mod_below n 128 (omega arith) in
          let group : b - 128 ≡ n % 128 = omega arith in
          let room : n / 128 ≤ (limit - n % 128) / 128 = le-div (n / 128) (limit - n % 128) 128 (omega arith) (omega arith) in
          let ih = reads most (n / 128) ((limit - n % 128) / 128) after (omega arith) room in
          let some : n / 128 ≡ 0 → ⊥ = λ z. omega arith in
          let whole : n % 128 + 128 * (n / 128) ≡ n = omega arith in
          let count : length rest + 1 ≡ length (encode_in (suc most) n) = omega (arith, ap length e) in
          ap (λ l. number limit (l ++ after)) e
          ∙ number_more limit b (rest ++ after) (omega arith) (omega arith)
          ∙ ap (λ g. grouped g (behind (number ((limit - g) / 128) (rest ++ after)))) group
          ∙ ap (λ r. grouped (n % 128) (behind r)) ih
          ∙ ap (grouped (n % 128)) (behind-some (record { value = n / 128; next = length rest }) some)
          ∙ (λ i. found (whole i) (count i))
    ]

-- ---- what is read is what is written

abbrev Written : ℕ → List ℕ → ℕ → ℕ → Type 0
Written limit bs n k = (n ≤ limit) × (k ≡ length (encode n)) × (take (length (encode n)) bs ≡ encode n)

same_found : (x : Number) (n k : ℕ) → Ok x ≡ found n k → (x.value ≡ n) × (x.next ≡ k)
same_found x n k e =
    let same : x ≡ record { value = n; next = k } = cc in
    (ap (λ (q : Number). q.value) same, ap (λ (q : Number). q.next) same)

-- a number with a group in front came from a number that is not 0
ungrouped : (low : ℕ) (r : Result Number ReadFault) (n k : ℕ) → grouped low (behind r) ≡ found n k
    → (x : Number) × (r ≡ Ok x) × (x.value ≡ 0 → ⊥) × (low + 128 * x.value ≡ n) × (x.next + 1 ≡ k)
ungrouped low (Err f) n k e = absurd (let z : ◌≡◌ {A = ℕ} 0 1 = cc in omega arith)
ungrouped low (Ok x) n k e =
    elim (cases_eq x.value 0) [
      | inl zero-value ↦ absurd (let h = behind-zero x zero-value in let g = ap (grouped low) h in let z : ◌≡◌ {A = ℕ} 0 1 = cc in omega arith)
      | inr some ↦
          let whole : found (low + 128 * x.value) (x.next + 1) ≡ found n k = sym (ap (grouped low) (behind-some x some)) ∙ e in
          let parts = same_found (record { value = low + 128 * x.value; next = x.next + 1 }) n k whole in
          (x, refl, some, parts.0, parts.1)
    ]

written_last : (limit b : ℕ) (bs : List ℕ) (n k : ℕ) → b ≤ limit → b < 128 → found b 1 ≡ found n k → Written limit (b ∷ bs) n k
written_last limit b bs n k fit low e =
    let parts = same_found (record { value = b; next = 1 }) n k e in
    let code : encode n ≡ b ∷ [] = ap encode (sym parts.0) ∙ encode-short b low in
    (omega (arith, parts.0), sym parts.1 ∙ ap length (sym code), ap (λ l. take (length l) (b ∷ bs)) code ∙ sym code)

written-more : (limit b : ℕ) (bs : List ℕ) (n k m j : ℕ) → 128 ≤ b → b < 256 → b ≤ limit → (m ≡ 0 → ⊥) → b - 128 + 128 * m ≡ n → j + 1 ≡ k
    → Written ((limit - (b - 128)) / 128) bs m j → Written limit (b ∷ bs) n k
written-more limit b bs n k m j high byte fit some whole count w =
    let front : n % 128 + 128 ≡ b = omega arith in
    let rest : n / 128 ≡ m = omega arith in
    let long : 128 ≤ n = omega arith in
    let code : encode n ≡ b ∷ encode m = encode-long n long ∙ (λ i. front i ∷ encode (rest i)) in
    let room : b - 128 + 128 * m ≤ limit = fits limit (b - 128) 128 m (omega arith) w.0 in (
      omega arith,
      omega (arith, w.1, ap length code),
      ap (λ l. take (length l) (b ∷ bs)) code ∙ ap (λ l. b ∷ l) w.2 ∙ sym code,
    )

written : (limit : ℕ) (bs : List ℕ) (n k : ℕ) → ((i : ℕ) → get_or bs i 0 < 256) → number limit bs ≡ found n k → Written limit bs n k
written limit [] n k small e = absurd (let z : ◌≡◌ {A = ℕ} 0 1 = cc in omega arith)
written limit (b ∷ bs) n k small e =
    elim (cases_lt limit b) [
      | inl large ↦ absurd (let h = number-large limit b bs large in let z : ◌≡◌ {A = ℕ} 0 1 = cc in omega arith)
      | inr fit ↦ elim (cases_lt b 128) [
        | inl low ↦ written_last limit b bs n k fit low (sym (number-last limit b bs fit low) ∙ e)
        | inr high ↦
            let u = ungrouped (b - 128) (number ((limit - (b - 128)) / 128) bs) n k (sym (number_more limit b bs fit high) ∙ e) in
            written-more limit b bs n k u.0.value u.0.next high (small 0) fit u.2 u.3 u.4
            (written ((limit - (b - 128)) / 128) bs u.0.value u.0.next (λ i. small (suc i)) u.1)
      ]
    ]

-- ---- at a place

from_found : (place : ℕ) (r : Result Number ReadFault) (n next : ℕ) → from place r ≡ found n next → (k : ℕ) × (r ≡ found n k) × (next ≡ place + k)
from_found place (Err f) n next e = absurd (let z : ◌≡◌ {A = ℕ} 0 1 = cc in omega arith)
from_found place (Ok x) n next e =
    let parts = same_found (record { value = x.value; next = place + x.next }) n next e in
    (x.next, ap (λ v. found v x.next) parts.0, sym parts.1)

pub one_spelling : OneSpelling
one_spelling = record {
  short = encode-short;
  long = encode-long;
  reads_back = λ limit n before after fit.
      ap (λ l. from (length before) (number limit l)) (drop_at before (encode n ++ after) (length before) refl)
      ∙ ap (from (length before)) (reads n n limit after (omega arith) fit);
  one_way = λ limit place bytes n next small e.
      let u = from_found place (number limit (drop place bytes)) n next e in
      let w = written limit (drop place bytes) n u.0 (λ i. subst (λ k. k < 256) (sym (get_or-drop place bytes i 0)) (small (place + i))) u.1 in
      (w.0, u.2 ∙ ap (λ k. place + k) w.1, w.2);
}
