-- How a line stands in a sheet: its kind, then its fields, all numbers. A sheet is a list of bytes.
use Rattle.std.specs.Prelude.{◌≡◌, ℕ, ◌-◌, ◌≤◌, cond, List, [], ◌∷◌, ◌++◌, length, take, drop, Some, None, Ok, Err, Option, Result, ◌==◌}
use Rattle.number.specs.declared.fault.Cause.TheVariants.{UnknownKind}
use Rattle.number.specs.declared.fault.ReadFault.{ReadFault}
use Rattle.number.specs.declared.reading.Number.{Number}
use Rattle.number.specs.declared.reading.Width.{Width}
use Rattle.number.specs.declared.reading.Width.TheVariants.{Narrow}
use Rattle.number.specs.Spelling.{read_number, limit_of, encode}
use Rattle.sheet.specs.declared.finding.Found.{Found}
use Rattle.sheet.specs.declared.kinds.LineKind.{LineKind}
use Rattle.sheet.specs.Kinds.{kind_of, widths}

-- one thing after another, up to the first fault
abbrev pub then_ok : {A B : Type 0} → Result A ReadFault → (A → Result B ReadFault) → Result B ReadFault
then_ok (Ok x) f = f x
then_ok (Err e) f = Err e

-- where the fields that begin at the place end
abbrev pub fields_end : List Width → ℕ → List ℕ → Result ℕ ReadFault
fields_end [] place bytes = Ok place
fields_end (w ∷ ws) place bytes = then_ok (read_number (limit_of w) place bytes) (λ n. fields_end ws n.next bytes)

-- an unknown kind is told at its last byte, before any field is read
abbrev pub or_unknown : {A : Type 0} → ℕ → Option LineKind → (LineKind → Result A ReadFault) → Result A ReadFault
or_unknown byte None f = Err (record { cause = UnknownKind; byte = byte })
or_unknown byte (Some kind) f = f kind

-- the line that begins at the place; none at the end of the bytes
abbrev pub read_line : ℕ → List ℕ → Result (Option Found) ReadFault
read_line place bytes =
    cond (place == length bytes) (Ok None)
    (then_ok (read_number (limit_of Narrow) place bytes) (λ code.
    or_unknown (code.next - 1) (kind_of code.value) (λ kind.
    then_ok (fields_end (widths kind) code.next bytes) (λ end.
    Ok (Some (record { kind = kind; place = place; start = code.next; end = end }))))))

-- the bytes of a line's fields, and of the whole line
abbrev pub stretch : List ℕ → Found → List ℕ
stretch bytes f = take (f.end - f.start) (drop f.start bytes)

abbrev pub text : List ℕ → Found → List ℕ
text bytes f = take (f.end - f.place) (drop f.place bytes)

-- ---- the numbers in a stretch

-- the number at a place, and where the bytes behind it begin; 0 where none stands
abbrev pub or_zero : ℕ → Result Number ReadFault → ℕ × ℕ
or_zero place (Ok n) = (n.value, n.next)
or_zero place (Err f) = (0, place)

unfoldable pub field_at : Width → ℕ → List ℕ → ℕ × ℕ
field_at w place bytes = or_zero place (read_number (limit_of w) place bytes)

-- the fields one after the other
abbrev pub values : List Width → ℕ → List ℕ → List ℕ
values [] place bytes = []
values (w ∷ ws) place bytes = (field_at w place bytes).0 ∷ values ws (field_at w place bytes).1 bytes

-- the stretch holds the fields of the kind, each of them, and nothing else
abbrev pub Decodes : LineKind → List ℕ → Type 0
Decodes kind bytes = fields_end (widths kind) 0 bytes ≡ Ok (length bytes)

-- numbers within their widths
abbrev pub Fit : List Width → List ℕ → Type 0
Fit [] [] = Unit {0}
Fit [] (n ∷ ns) = ⊥
Fit (w ∷ ws) [] = ⊥
Fit (w ∷ ws) (n ∷ ns) = (n ≤ limit_of w) × Fit ws ns

-- numbers written one after the other
abbrev pub encode_all : List ℕ → List ℕ
encode_all [] = []
encode_all (n ∷ ns) = encode n ++ encode_all ns
