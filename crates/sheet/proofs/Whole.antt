-- Reading ends, and what was handed out is what was accepted.
use Rattle.std.proofs.Common.{◌≡◌, ℕ, zero, suc, ◌-◌, ◌<◌, ◌≤◌, List, [], ◌∷◌, ◌++◌, length, take, drop, Some, None, Ok, Err, Option, Result, sym, refl, ap, ◌∙◌, inl, inr, arith}
use Rattle.number.specs.declared.fault.ReadFault.{ReadFault}
use Rattle.sheet.specs.declared.finding.Found.{Found}
use Rattle.sheet.specs.Fields.{read_line, text}
use Rattle.sheet.specs.Laws.{Bytes, Handed, Stops, texts, SheetLaws}
use Rattle.sheet.proofs.Inversions.{none_at_end}
use Rattle.sheet.proofs.Spelled.{take_parts, line-spelled}

abbrev ReadThrough : List ℕ → ℕ → Type 0
ReadThrough bytes p = (fs : List Found) × (q : ℕ) × Handed bytes p fs q × Stops bytes q

-- one line, and then the rest
at-line : (bytes : List ℕ) → Bytes bytes → (n p : ℕ) → length bytes - p < suc n → p ≤ length bytes
    → ((p' : ℕ) → length bytes - p' < n → p' ≤ length bytes → ReadThrough bytes p')
    → (r : Result (Option Found) ReadFault) → read_line p bytes ≡ r → ReadThrough bytes p
at-line bytes small n p few le rest (Err f) e = ([], p, refl, inr (f, e))
at-line bytes small n p few le rest (Ok None) e = ([], p, refl, inl (none_at_end bytes p e))
at-line bytes small n p few le rest (Ok (Some f)) e =
    let l = line-spelled bytes small p f e in
    let on = l.forward in
    let more = rest f.end (omega (arith, on.0, on.1, on.2)) on.2 in
    (f ∷ more.0, more.1, (e, more.2), more.3)

through : (bytes : List ℕ) → Bytes bytes → (n p : ℕ) → length bytes - p < n → p ≤ length bytes → ReadThrough bytes p
through bytes small zero p few le = absurd (omega arith)
through bytes small (suc n) p few le = at-line bytes small n p few le (through bytes small n) (read_line p bytes) refl

accepted : (bytes : List ℕ) → Bytes bytes → (p q : ℕ) (fs : List Found) → p ≤ length bytes → Handed bytes p fs q
    → (p ≤ q) × (q ≤ length bytes) × (texts bytes fs ≡ take (q - p) (drop p bytes))
accepted bytes small p q [] le same =
    let none : q - p ≡ 0 = omega arith in
    (omega arith, omega arith, sym (ap (λ n. take n (drop p bytes)) none))
accepted bytes small p q (f ∷ fs) le handed =
    let l = line-spelled bytes small p f handed.0 in
    let on = l.forward in
    let more = accepted bytes small f.end q fs on.2 handed.1 in
    let here : text bytes f ≡ take (f.end - p) (drop p bytes) = ap (λ k. take (f.end - k) (drop k bytes)) l.first in (
      omega (arith, on.0, on.1, more.0),
      more.1,
      (λ i. here i ++ more.2 i) ∙ sym (take_parts bytes p f.end q (omega (arith, on.0, on.1)) more.0),
    )

pub sheet_laws : SheetLaws
sheet_laws = record {
  spelled = line-spelled;
  ends = λ bytes small p le. through bytes small (suc (length bytes - p)) p (omega arith) le;
  nothing_lost = accepted;
}
