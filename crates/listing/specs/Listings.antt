-- What a listing tells next: the line at the reader's place, or how the reading ended.
use Rattle.std.specs.Prelude.{◌≡◌, ℕ, ◌+◌, List, Some, None, Ok, Err, string_bytes, Option, Result, String}
use Rattle.std.specs.declared.alloc.Global.{Global}
use Rattle.std.specs.declared.ops.ControlFlow.{ControlFlow}
use Rattle.std.specs.declared.ops.ControlFlow.TheVariants.{Break, Continue}
use Rattle.number.specs.declared.fault.ReadFault.{ReadFault}
use Rattle.number.specs.Faults.{number_of}
use Rattle.sheet.specs.declared.kinds.LineKind.{LineKind}
use Rattle.sheet.specs.declared.line.PlacedLine.{PlacedLine}
use Rattle.sheet.specs.Fields.{values}
use Rattle.sheet.specs.Showing.{shows}
use Rattle.sheet.specs.Kinds.{code_of, widths}
use Rattle.answer.specs.declared.answer.Answer.{Answer}
use Rattle.answer.specs.declared.answer.Answer.TheVariants as answer
use Rattle.answer.specs.Listing.{listed_text}

-- what is seen of a line: its kind, the bytes of its fields, and its place
abbrev pub Seen : Type 0
Seen = LineKind × List ℕ × ℕ

-- the text of a line: its number, its place, its kind, and its fields
abbrev pub line_text : ℕ → Seen → List ℕ
line_text line seen = listed_text line seen.2 (code_of seen.0) (values (widths seen.0) 0 seen.1)

-- what is told when so many lines have been listed, and this is what the reader sees next
abbrev pub Tells : ℕ → Result (Option Seen) ReadFault → ControlFlow Answer (String Global) → Type 0
Tells line (Ok None) told = told ≡ Break (answer.Count line)
Tells line (Err f) told = told ≡ Break (answer.ReadRefused (number_of f.cause) line f.byte)
Tells line (Ok (Some seen)) (Continue text) = string_bytes text ≡ line_text line seen
Tells line (Ok (Some seen)) (Break a) = ⊥

-- how many lines have been listed then
abbrev pub count_after : ℕ → Result (Option Seen) ReadFault → ℕ
count_after line (Ok None) = line
count_after line (Ok (Some seen)) = line + 1
count_after line (Err f) = line

-- what is seen of a line that was handed out
abbrev pub seen_of : PlacedLine → Seen
seen_of l = ((shows l.line).0, (shows l.line).1, l.place)
