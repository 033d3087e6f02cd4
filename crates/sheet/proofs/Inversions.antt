-- What a line that was found says of its parts.
use Rattle.std.proofs.Common.{◌≡◌, ℕ, ◌-◌, cond, eqb, List, length, Some, None, Ok, Err, Option, Result, sym, refl, ap, ◌∙◌, subst, inl, inr, arith}
use Rattle.std.proofs.lemmas.Bool.{cases_eq, eq-eqb, ne_eqb, cond-true, cond-false}
use Rattle.number.specs.declared.fault.ReadFault.{ReadFault}
use Rattle.number.specs.declared.reading.Number.{Number}
use Rattle.number.specs.declared.reading.Width.TheVariants.{Narrow}
use Rattle.number.specs.Spelling.{read_number, limit_of}
use Rattle.sheet.specs.declared.finding.Found.{Found}
use Rattle.sheet.specs.declared.kinds.LineKind.{LineKind}
use Rattle.sheet.specs.Fields.{then_ok, fields_end, or_unknown, read_line}
use Rattle.sheet.specs.Kinds.{kind_of, code_of, widths}

pub ok_first : {A B : Type 0} (r : Result A ReadFault) (f : A → Result B ReadFault) (y : B) → then_ok r f ≡ Ok y → (x : A) × (r ≡ Ok x) × (f x ≡ Ok y)
ok_first (Ok x) f y h = (x, refl, h)
ok_first (Err e) f y h = absurd (let z : ◌≡◌ {A = ℕ} 0 1 = cc in omega arith)

known_first : {B : Type 0} (byte : ℕ) (o : Option LineKind) (f : LineKind → Result B ReadFault) (y : B) → or_unknown byte o f ≡ Ok y
    → (k : LineKind) × (o ≡ Some k) × (f k ≡ Ok y)
known_first byte (Some k) f y h = (k, refl, h)
known_first byte None f y h = absurd (let z : ◌≡◌ {A = ℕ} 0 1 = cc in omega arith)

never : (f : Found) → ◌≡◌ {A = Result (Option Found) ReadFault} (Ok None) (Ok (Some f)) → ⊥
never f e = let z : ◌≡◌ {A = ℕ} 0 1 = cc in omega arith

inner : (f g : Found) → ◌≡◌ {A = Result (Option Found) ReadFault} (Ok (Some f)) (Ok (Some g)) → f ≡ g
inner f g e = cc

pub record Parts (bytes : List ℕ) (place : ℕ) (f : Found) : Type 0 where
  pub code : Number
  pub read : read_number (limit_of Narrow) place bytes ≡ Ok code
  pub known : kind_of code.value ≡ Some f.kind
  pub passed : fields_end (widths f.kind) f.start bytes ≡ Ok f.end
  pub begins : f.place ≡ place
  pub starts : f.start ≡ code.next

at-parts : (bytes : List ℕ) (place : ℕ) (f : Found) (code : Number) (k : LineKind) (end : ℕ)
    → read_number (limit_of Narrow) place bytes ≡ Ok code → kind_of code.value ≡ Some k → fields_end (widths k) code.next bytes ≡ Ok end
    → record { kind = k; place = place; start = code.next; end = end } ≡ f → Parts bytes place f
at-parts bytes place f code k end r o e same = subst (Parts bytes place) same (record {
  code = code;
  read = r;
  known = o;
  passed = e;
  begins = refl;
  starts = refl;
})

pub parts : (bytes : List ℕ) (place : ℕ) (f : Found) → read_line place bytes ≡ Ok (Some f) → Parts bytes place f
parts bytes place f e =
    elim (cases_eq place (length bytes)) [
      | inl same ↦ absurd (never f (sym (cond-true (eqb place (length bytes)) (Ok None) _ (eq-eqb place (length bytes) same)) ∙ e))
      | inr other ↦
          let h = sym (cond-false (eqb place (length bytes)) (Ok None) _ (ne_eqb place (length bytes) other)) ∙ e in
          let r = ok_first (read_number (limit_of Narrow) place bytes) _ (Some f) h in
          let k = known_first (r.0.next - 1) (kind_of r.0.value) _ (Some f) r.2 in
          let t = ok_first (fields_end (widths k.0) r.0.next bytes) _ (Some f) k.2 in
          at-parts bytes place f r.0 k.0 t.0 r.1 k.1 t.1
          (inner (record { kind = k.0; place = place; start = r.0.next; end = t.0 }) f t.2)
    ]

-- none at the end only
pub none_at_end : (bytes : List ℕ) (place : ℕ) → read_line place bytes ≡ Ok None → place ≡ length bytes
none_at_end bytes place e =
    elim (cases_eq place (length bytes)) [
      | inl same ↦ same
      | inr other ↦
          let h = sym (cond-false (eqb place (length bytes)) (Ok None) _ (ne_eqb place (length bytes) other)) ∙ e in
          let r = ok_first (read_number (limit_of Narrow) place bytes) _ None h in
          let k = known_first (r.0.next - 1) (kind_of r.0.value) _ None r.2 in
          let t = ok_first (fields_end (widths k.0) r.0.next bytes) _ None k.2 in
          absurd (never (record { kind = k.0; place = place; start = r.0.next; end = t.0 }) (sym t.2))
    ]

-- ---- the kinds

one_kind : (n m : ℕ) (k j : LineKind) (o : Option LineKind) → m ≡ code_of j → (o ≡ Some k → n ≡ code_of k)
    → cond (eqb n m) (Some j) o ≡ Some k → n ≡ code_of k
one_kind n m k j o code rest e =
    elim (cases_eq n m) [
      | inl same ↦
          let h = sym (cond-true (eqb n m) (Some j) o (eq-eqb n m same)) ∙ e in
          let kind : j ≡ k = cc in
          same ∙ code ∙ ap code_of kind
      | inr other ↦ rest (sym (cond-false (eqb n m) (Some j) o (ne_eqb n m other)) ∙ e)
    ]

pub kind_code : (n : ℕ) (k : LineKind) → kind_of n ≡ Some k → n ≡ code_of k
kind_code n k =
    one_kind n 1 k _ _ refl (one_kind n 2 k _ _ refl (one_kind n 3 k _ _ refl (one_kind n 4 k _ _ refl (one_kind n 5 k _ _ refl
    (one_kind n 6 k _ _ refl (one_kind n 7 k _ _ refl (one_kind n 8 k _ _ refl (one_kind n 9 k _ _ refl
    (λ none. absurd (let z : ◌≡◌ {A = ℕ} 0 1 = cc in omega arith))))))))))
