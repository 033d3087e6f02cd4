-- What the reader hands out, and where it stands afterwards. A reference has an address, so a line is compared by what
-- it shows.
use Rattle.std.specs.Prelude.{◌≡◌, ℕ, ◌<◌, List, take, Some, None, Ok, Err, Option, Result}
use Rattle.number.specs.declared.fault.ReadFault.{ReadFault}
use Rattle.sheet.specs.declared.finding.Found.{Found}
use Rattle.sheet.specs.declared.frame.Frame.{Frame}
use Rattle.sheet.specs.declared.kinds.LineKind.{LineKind}
use Rattle.sheet.specs.declared.kinds.LineKind.TheVariants.{Policy, Grant, Location, PathStep, Edge, TemplateLine, Pattern, Command, Job}
use Rattle.sheet.specs.declared.line.Line.{Line}
use Rattle.sheet.specs.declared.line.Line.TheVariants as line
use Rattle.sheet.specs.declared.line.PlacedLine.{PlacedLine}
use Rattle.sheet.specs.Fields.{read_line, stretch}

-- a line as it shows itself: its kind, and the bytes of its fields
abbrev pub shows : Line → LineKind × List ℕ
shows (line.Policy s) = (Policy, s.now)
shows (line.Grant s) = (Grant, s.now)
shows (line.Location s) = (Location, s.now)
shows (line.PathStep s) = (PathStep, s.now)
shows (line.Edge s) = (Edge, s.now)
shows (line.TemplateLine s) = (TemplateLine, s.now)
shows (line.Pattern s) = (Pattern, s.now)
shows (line.Command s) = (Command, s.now)
shows (line.Job s) = (Job, s.now)

-- what is seen of an answer: the kind, the stretch and the place of a line
abbrev pub seen : Result (Option PlacedLine) ReadFault → Result (Option (LineKind × List ℕ × ℕ)) ReadFault
seen (Ok None) = Ok None
seen (Ok (Some l)) = Ok (Some ((shows l.line).0, (shows l.line).1, l.place))
seen (Err f) = Err f

-- what there is to be seen
abbrev pub shown : List ℕ → Result (Option Found) ReadFault → Result (Option (LineKind × List ℕ × ℕ)) ReadFault
shown bytes (Ok None) = Ok None
shown bytes (Ok (Some f)) = Ok (Some (f.kind, stretch bytes f, f.place))
shown bytes (Err e) = Err e

-- the line at the place of a sheet, as far as the frame lets the reader go
abbrev pub line_at : Frame → ℕ → List ℕ → Result (Option Found) ReadFault
line_at frame place sheet = read_line place (take frame.end sheet)

-- after a line the reader stands behind it and knows its kind; after a fault, and at the end, it is as before
abbrev pub place_after : ℕ → Result (Option Found) ReadFault → ℕ
place_after place (Ok None) = place
place_after place (Ok (Some f)) = f.end
place_after place (Err e) = place

abbrev pub frame_after : Frame → Result (Option Found) ReadFault → Frame
frame_after frame (Ok None) = frame
frame_after frame (Ok (Some f)) = record { end = frame.end; last_kind = Some f.kind }
frame_after frame (Err e) = frame

-- the place only moves forward
abbrev pub Moves : Result (Option PlacedLine) ReadFault → ℕ → ℕ → Type 0
Moves (Ok None) p q = p ≡ q
Moves (Ok (Some l)) p q = p < q
Moves (Err f) p q = p ≡ q
