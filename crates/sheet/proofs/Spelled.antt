-- A line is spelled in one way: its kind, then each of its fields.
use Rattle.std.proofs.Common.{◌≡◌, ℕ, ◌+◌, ◌-◌, ◌<◌, ◌≤◌, List, [], ◌∷◌, ◌++◌, length, take, drop, Some, Ok, sym, refl, ap, ◌∙◌, subst, inl, inr, arith}
use native.Mathlib.Nat.{min-le_right}
use Rattle.std.proofs.lemmas.Bool.{cases_lt}
use Rattle.std.proofs.lemmas.List.{length-take, length-drop, append_assoc, append-nil, length-append, take-append-drop, take-take, drop-take, drop-drop}
use Rattle.number.specs.declared.reading.Width.{Width}
use Rattle.number.specs.declared.reading.Width.TheVariants.{Narrow}
use Rattle.number.specs.Spelling.{read_number, limit_of, encode, found}
use Rattle.number.proofs.Encodings.{one_spelling}
use Rattle.sheet.specs.declared.finding.Found.{Found}
use Rattle.sheet.specs.Fields.{then_ok, fields_end, read_line, stretch, or_zero, field_at, values, Fit, encode_all}
use Rattle.sheet.specs.Kinds.{code_of, widths}
use Rattle.sheet.specs.Laws.{Bytes, LineSpelled}
use Rattle.sheet.proofs.Inversions.{ok_first, parts, kind_code}

pub take_two : (a b : ℕ) (l : List ℕ) → take (a + b) l ≡ take a l ++ take b (drop a l)
take_two a b l = sym (take-append-drop a (take (a + b) l)) ∙ (λ i. take-take a (a + b) l (omega arith) i ++ drop-take a b l i)

-- a stretch in two parts
pub take_parts : (bytes : List ℕ) (p q r : ℕ) → p ≤ q → q ≤ r → take (r - p) (drop p bytes) ≡ take (q - p) (drop p bytes) ++ take (r - q) (drop q bytes)
take_parts bytes p q r pq qr =
    let sum : r - p ≡ (q - p) + (r - q) = omega arith in
    let past : p + (q - p) ≡ q = omega arith in
    ap (λ k. take k (drop p bytes)) sum ∙ take_two (q - p) (r - q) (drop p bytes)
    ∙ ap (λ l. take (q - p) (drop p bytes) ++ take (r - q) l) (drop-drop (q - p) p bytes ∙ ap (λ k. drop k bytes) past)

-- ---- what was passed over is what is written for some numbers

pub record Written (ws : List Width) (place : ℕ) (bytes : List ℕ) (to : ℕ) : Type 0 where
  pub numbers : List ℕ
  pub fit : Fit ws numbers
  pub is : take (to - place) (drop place bytes) ≡ encode_all numbers
  pub long : to ≡ place + length (encode_all numbers)

pub written : (ws : List Width) (place : ℕ) (bytes : List ℕ) (to : ℕ) → Bytes bytes → fields_end ws place bytes ≡ Ok to → Written ws place bytes to
written [] place bytes to small e =
    let same : place ≡ to = cc in
    let none : to - place ≡ 0 = omega arith in
    record { numbers = []; fit = tt; is = ap (λ n. take n (drop place bytes)) none; long = omega arith }
written (w ∷ ws) place bytes to small e =
    let h = ok_first (read_number (limit_of w) place bytes) (λ n. fields_end ws n.next bytes) to e in
    let n : ℕ = h.0.value in
    let next : ℕ = h.0.next in
    let one = one_spelling.one_way (limit_of w) place bytes n next small h.1 in
    let more = written ws next bytes to small h.2 in
    let here : next - place ≡ length (encode n) = omega (arith, one.1) in
    let front : take (next - place) (drop place bytes) ≡ encode n = ap (λ k. take k (drop place bytes)) here ∙ one.2 in
    record {
      numbers = n ∷ more.numbers;
      fit = (one.0, more.fit);
      is = take_parts bytes place next to (omega (arith, one.1)) (omega (arith, more.long)) ∙ (λ i. front i ++ more.is i);
      long = omega (arith, one.1, more.long, length-append (encode n) (encode_all more.numbers));
    }

-- ---- what is written for numbers is passed over, and gives them back

pub reads_all : (ws : List Width) (ns before after bytes : List ℕ) → Fit ws ns → bytes ≡ before ++ (encode_all ns ++ after)
    → (fields_end ws (length before) bytes ≡ Ok (length before + length (encode_all ns))) × (values ws (length before) bytes ≡ ns)
unfolding field_at
reads_all [] [] before after bytes fit e = (ap Ok (omega arith), refl)
reads_all [] (n ∷ ns) before after bytes fit e = absurd fit
reads_all (w ∷ ws) [] before after bytes fit e = absurd fit
reads_all (w ∷ ws) (n ∷ ns) before after bytes fit e =
    let one : bytes ≡ before ++ (encode n ++ (encode_all ns ++ after)) = e ∙ ap (λ l. before ++ l) (append_assoc (encode n) (encode_all ns) after) in
    let read : read_number (limit_of w) (length before) bytes ≡ found n (length before + length (encode n)) =
    ap (read_number (limit_of w) (length before)) one ∙ one_spelling.reads_back (limit_of w) n before (encode_all ns ++ after) fit.0 in
    let long : length (before ++ encode n) ≡ length before + length (encode n) = length-append before (encode n) in
    let all : length (encode n ++ encode_all ns) ≡ length (encode n) + length (encode_all ns) = length-append (encode n) (encode_all ns) in
    let rest = reads_all ws ns (before ++ encode n) after bytes fit.1 (one ∙ sym (append_assoc before (encode n) (encode_all ns ++ after))) in
    let count : length (before ++ encode n) + length (encode_all ns) ≡ length before + length (encode n ++ encode_all ns) = omega arith in (
      ap (λ r. then_ok r (λ x. fields_end ws x.next bytes)) read ∙ ap (λ p. fields_end ws p bytes) (sym long) ∙ rest.0 ∙ ap Ok count,
      ap (λ r. (or_zero (length before) r).0 ∷ values ws (or_zero (length before) r).1 bytes) read
          ∙ ap (λ p. n ∷ values ws p bytes) (sym long) ∙ ap (λ l. n ∷ l) rest.1,
    )

-- ---- a line

encode-some : (n : ℕ) → 0 < length (encode n)
encode-some n =
    elim (cases_lt n 128) [
      | inl low ↦ omega (arith, ap length (one_spelling.short n low))
      | inr high ↦ omega (arith, ap length (one_spelling.long n high))
    ]

-- a part that is as long as it was asked to be lies within the bytes
inside : (k p : ℕ) (bytes : List ℕ) → length (take k (drop p bytes)) ≡ k → k ≤ length bytes - p
inside k p bytes e = omega (arith, e, length-take k (drop p bytes), length-drop p bytes, min-le_right k (length (drop p bytes)))

pub line-spelled : (bytes : List ℕ) → Bytes bytes → (place : ℕ) (f : Found) → read_line place bytes ≡ Ok (Some f) → LineSpelled bytes place f
line-spelled bytes small place f e =
    let p = parts bytes place f e in
    let v : ℕ = p.code.value in
    let code = one_spelling.one_way (limit_of Narrow) place bytes v p.code.next small p.read in
    let w = written (widths f.kind) f.start bytes f.end small p.passed in
    let ns : List ℕ = w.numbers in
    let fields = reads_all (widths f.kind) ns [] [] (stretch bytes f) w.fit (w.is ∙ sym (append-nil (encode_all ns))) in
    let whole_length : 0 + length (encode_all ns) ≡ length (stretch bytes f) = omega (arith, ap length w.is) in
    let some : 0 < length (encode v) = encode-some v in
    let begin-in : length (encode v) ≤ length bytes - place = inside (length (encode v)) place bytes (ap length code.2) in
    let starts : f.start ≡ place + length (encode v) = p.starts ∙ code.1 in
    let span : f.end - f.start ≡ length (encode_all ns) = omega (arith, w.long) in
    let end-in : f.end - f.start ≤ length bytes - f.start = inside (f.end - f.start) f.start bytes (ap length w.is ∙ sym span) in
    let front : take (f.start - place) (drop place bytes) ≡ encode (code_of f.kind) =
    ap (λ k. take k (drop place bytes)) (omega arith) ∙ code.2 ∙ ap encode (kind_code v f.kind p.known) in
    record {
      first = p.begins;
      forward = (omega arith, omega (arith, w.long), omega (arith, w.long));
      whole =
          ap (λ q. take (f.end - q) (drop q bytes)) p.begins
          ∙ take_parts bytes place f.start f.end (omega arith) (omega (arith, w.long))
          ∙ ap (λ l. l ++ stretch bytes f) front;
      decodes = fields.0 ∙ ap Ok whole_length;
      fields = w.is ∙ ap encode_all (sym fields.1);
      widths_kept = subst (Fit (widths f.kind)) (sym fields.1) w.fit;
    }
