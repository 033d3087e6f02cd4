-- The line that the reader answers with, and that a sheet reads in one way.
use Rattle.std.proofs.Common.{◌≡◌, ℕ, eqb, List, [], ◌∷◌, length, take, Some, None, Ok, Err, Option, Result, sym, refl, ap, ◌∙◌, subst, inl, inr, arith}
use Rattle.std.proofs.lemmas.List.{take_all}
use Rattle.std.proofs.lemmas.Bool.{eq-eqb, cond-true}
use Rattle.number.specs.declared.fault.ReadFault.{ReadFault}
use Rattle.sheet.specs.declared.finding.Found.{Found}
use Rattle.sheet.specs.declared.frame.Frame.{Frame}
use Rattle.sheet.specs.declared.kinds.LineKind.{LineKind}
use Rattle.sheet.specs.Fields.{read_line, stretch}
use Rattle.sheet.specs.Laws.{Bytes, Handed, Stops}
use Rattle.sheet.specs.Showing.{shown, line_at}
use Rattle.sheet.proofs.Whole.{sheet_laws}
use Rattle.tables.specs.Loading.{EndsAs, Reads, ReadsInOneWay}

abbrev pub Answer : Type 0
Answer = Result (Option Found) ReadFault

-- ---- what is shown is what was read

pub line-here : (sheet held : List ℕ) (frame : Frame) (place : ℕ) → held ≡ sheet → frame.end ≡ length sheet → line_at frame place held ≡ read_line place sheet
line-here sheet held frame place e a =
    ap (λ (n : ℕ). read_line place (take n held)) a
    ∙ ap (λ (s : List ℕ). read_line place (take (length sheet) s)) e
    ∙ ap (read_line place) (take_all (length sheet) sheet (omega arith))

pub err_line : (sheet : List ℕ) (f : ReadFault) (r : Answer) → Err f ≡ shown sheet r → r ≡ Err f
err_line sheet f (Ok None) e = absurd (let z : ◌≡◌ {A = ℕ} 0 1 = cc in omega arith)
err_line sheet f (Ok (Some g)) e = absurd (let z : ◌≡◌ {A = ℕ} 0 1 = cc in omega arith)
err_line sheet f (Err g) e = let same : g ≡ f = cc in ap Err same

pub none_line : (sheet : List ℕ) (r : Answer) → Ok None ≡ shown sheet r → r ≡ Ok None
none_line sheet (Ok None) e = refl
none_line sheet (Ok (Some g)) e = absurd (let z : ◌≡◌ {A = ℕ} 0 1 = cc in omega arith)
none_line sheet (Err g) e = absurd (let z : ◌≡◌ {A = ℕ} 0 1 = cc in omega arith)

pub record LineRead (sheet : List ℕ) (r : Answer) (kind : LineKind) (bytes : List ℕ) : Type 0 where
  pub line : Found
  pub read : r ≡ Ok (Some line)
  pub kind_is : kind ≡ line.kind
  pub bytes_are : bytes ≡ stretch sheet line

pub some-line : (sheet : List ℕ) (r : Answer) (kind : LineKind) (bytes : List ℕ) (p : ℕ) → Ok (Some (kind, bytes, p)) ≡ shown sheet r → LineRead sheet r kind bytes
some-line sheet (Ok None) kind bytes p e = absurd (let z : ◌≡◌ {A = ℕ} 0 1 = cc in omega arith)
some-line sheet (Err g) kind bytes p e = absurd (let z : ◌≡◌ {A = ℕ} 0 1 = cc in omega arith)
some-line sheet (Ok (Some g)) kind bytes p e =
    let both : ◌≡◌ {A = LineKind × List ℕ × ℕ} (kind, bytes, p) (g.kind, stretch sheet g, g.place) = cc in
    record { line = g; read = refl; kind_is = ap (λ (q : LineKind × List ℕ × ℕ). q.0) both; bytes_are = ap (λ (q : LineKind × List ℕ × ℕ). q.1) both }

-- ---- one line, one end

pub at_length : (sheet : List ℕ) (q : ℕ) → q ≡ length sheet → read_line q sheet ≡ Ok None
at_length sheet q e = cond-true (eqb q (length sheet)) (Ok None) _ (eq-eqb q (length sheet) e)

pub not_both_ends : (f : ReadFault) (r : Answer) → r ≡ Ok None → r ≡ Err f → ⊥
not_both_ends f r a b = let z : ◌≡◌ {A = ℕ} 0 1 = cc in omega arith

pub not_none_and_line : (f : Found) (r : Answer) → r ≡ Ok None → r ≡ Ok (Some f) → ⊥
not_none_and_line f r a b = let z : ◌≡◌ {A = ℕ} 0 1 = cc in omega arith

pub not_fault_and_line : (e : ReadFault) (f : Found) (r : Answer) → r ≡ Err e → r ≡ Ok (Some f) → ⊥
not_fault_and_line e f r a b = let z : ◌≡◌ {A = ℕ} 0 1 = cc in omega arith

pub one_line : (f g : Found) (r : Answer) → r ≡ Ok (Some f) → r ≡ Ok (Some g) → f ≡ g
one_line f g r a b = cc

pub one_fault : (f g : ReadFault) (r : Answer) → r ≡ Err f → r ≡ Err g → f ≡ g
one_fault f g r a b = cc

-- where the sheet ends or a fault is told there is no line
pub no_line_at_end : (sheet : List ℕ) (q : ℕ) (end : Option ReadFault) (f : Found) → EndsAs sheet q end → read_line q sheet ≡ Ok (Some f) → ⊥
no_line_at_end sheet q None f e r = not_none_and_line f (read_line q sheet) (at_length sheet q e) r
no_line_at_end sheet q (Some g) f e r = not_fault_and_line g f (read_line q sheet) e r

one_end : (sheet : List ℕ) (q : ℕ) (a b : Option ReadFault) → EndsAs sheet q a → EndsAs sheet q b → a ≡ b
one_end sheet q None None x y = refl
one_end sheet q None (Some g) x y = absurd (not_both_ends g (read_line q sheet) (at_length sheet q x) y)
one_end sheet q (Some f) None x y = absurd (not_both_ends f (read_line q sheet) (at_length sheet q y) x)
one_end sheet q (Some f) (Some g) x y = ap Some (one_fault f g (read_line q sheet) x y)

one_way : (sheet : List ℕ) (p q u : ℕ) (fs gs : List Found) (a b : Option ReadFault) → Handed sheet p fs q → EndsAs sheet q a
    → Handed sheet p gs u → EndsAs sheet u b → (fs ≡ gs) × (a ≡ b)
one_way sheet p q u [] [] a b h x k y =
    (refl, one_end sheet p a b (subst (λ (z : ℕ). EndsAs sheet z a) (sym h) x) (subst (λ (z : ℕ). EndsAs sheet z b) (sym k) y))
one_way sheet p q u [] (g ∷ gs) a b h x k y = absurd (no_line_at_end sheet p a g (subst (λ (z : ℕ). EndsAs sheet z a) (sym h) x) k.0)
one_way sheet p q u (f ∷ fs) [] a b h x k y = absurd (no_line_at_end sheet p b f (subst (λ (z : ℕ). EndsAs sheet z b) (sym k) y) h.0)
one_way sheet p q u (f ∷ fs) (g ∷ gs) a b h x k y =
    let same : f ≡ g = one_line f g (read_line p sheet) h.0 k.0 in
    let rest = one_way sheet f.end q u fs gs a b h.1 x (subst (λ (l : Found). Handed sheet l.end gs u) (sym same) k.1) y in
    (ap (λ (l : Found). l ∷ fs) same ∙ ap (λ (ls : List Found). g ∷ ls) rest.0, rest.1)

-- ---- and there is one

stopped : (sheet : List ℕ) (fs : List Found) (q : ℕ) → Handed sheet 0 fs q → Stops sheet q → (end : Option ReadFault) × Reads sheet fs end
stopped sheet fs q h (inl e) = (None, record { stop = q; handed = h; ends = e })
stopped sheet fs q h (inr f) = (Some f.0, record { stop = q; handed = h; ends = f.1 })

pub reads_in_one_way : (sheet : List ℕ) → Bytes sheet → ReadsInOneWay sheet
reads_in_one_way sheet small =
    let w = sheet_laws.ends sheet small 0 (omega arith) in
    let r = stopped sheet w.0 w.1 w.2 w.3 in
    record {
      lines = w.0;
      end = r.0;
      reads = r.1;
      only = λ fs other reads. one_way sheet 0 reads.stop r.1.stop fs w.0 other r.0 reads.handed reads.ends r.1.handed r.1.ends;
    }
