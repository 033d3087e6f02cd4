-- What a line says: nothing, a command, or something that is not understood.
-- A line is read from the left, and the first word at fault is told: its number, where the command is word 0, and why.
use Rattle.std.specs.Prelude.{◌≡◌, ℕ, ◌+◌, Bool, cond, List, [], ◌∷◌, length, drop, Some, None, Ok, Err, vec_items, codes, Option, Result, ◌==◌, nat_lt, slice_index}
use Rattle.std.specs.List.{slice_get}
use Rattle.std.specs.Option.{ok_or}
use Rattle.std.specs.Str.{bytes_eq}
use Rattle.words.specs.declared.line.Call.{Call}
use Rattle.words.specs.declared.line.Call.TheVariants as call
use Rattle.words.specs.declared.line.Command.{Command}
use Rattle.words.specs.declared.line.Command.TheVariants as command
use Rattle.words.specs.declared.unclear.LineError.{LineError}
use Rattle.words.specs.declared.unclear.LineError.TheVariants as error
use Rattle.words.specs.declared.line.Sheet.{Sheet}
use Rattle.words.specs.declared.line.Sheet.TheVariants as sheet
use Rattle.words.specs.declared.line.OrderKind.{OrderKind}
use Rattle.words.specs.declared.line.OrderKind.TheVariants.{Drawn, Rights}
use Rattle.words.specs.declared.unclear.Unclear.{Unclear}
use Rattle.words.specs.declared.unclear.Why.{Why}
use Rattle.words.specs.declared.unclear.Why.TheVariants.{NotACommand, NotAnOrder, NotARoleCode, NotARoleSet, NeitherHexNorFile, NotHexadecimal, NotANumber, Missing, TooMany}
use Rattle.words.specs.declared.named.Name.{Name}
use Rattle.words.specs.declared.named.Name.TheVariants as name
use Rattle.words.specs.declared.named.Source.{Source}
use Rattle.words.specs.declared.named.Source.TheVariants.{Hex, File}
use Rattle.words.specs.Cutting.{words_of}
use Rattle.words.specs.Hex.{hex_bytes}
use Rattle.words.specs.Spelling.{narrow, wide, role_set}

-- How a sheet is given: by its bytes, or by the name of the file that holds them.
pub data Given : Type 0 where
  in_bytes : List ℕ → Given
  in_file : List ℕ → Given

-- What a command asks.
pub data Asked : Type 0 where
  order : OrderKind → Asked
  draw : List (ℕ × ℕ) → Asked
  below : ℕ → ℕ → Asked
  under : ℕ → ℕ → Asked
  opens : ℕ → ℕ → Asked
  list : Given → Asked
  load : Given → Asked
  admit : Asked
  close : Asked
  dump : Asked
  poke : ℕ → ℕ → ℕ → ℕ → Asked
  calls : Call → Asked

-- What a line says.
pub data Said : Type 0 where
  passed : Said
  asks : Asked → Said
  unclear : Unclear → Said

-- Why the word with this number is not understood.
abbrev pub fault : ℕ → Why → Unclear
fault place w = record { word = place; why = w }

-- One thing after another, up to the first fault.
abbrev pub then_ok : {A B : Type 0} → Result A Unclear → (A → Result B Unclear) → Result B Unclear
then_ok (Ok x) f = f x
then_ok (Err u) f = Err u

-- The word at a place, if there is one, read as what has to stand there.
abbrev pub wanted : {A : Type 0} → (List ℕ → Option A) → Why → ℕ → Option (List ℕ) → Result A Unclear
wanted reads w place None = Err (fault place Missing)
wanted reads w place (Some word) = ok_or (reads word) (fault place w)

-- The same, where P says what the word may be read as.
abbrev pub Wanted : {A : Type 0} → (List ℕ → Option A → Type 0) → Why → ℕ → Option (List ℕ) → Result A Unclear → Type 0
Wanted {A} P w place None r = r ≡ Err (fault place Missing)
Wanted {A} P w place (Some word) r = (o : Option A) × P word o × (r ≡ ok_or o (fault place w))

-- The first, if it is a name, else the second.
abbrev pub first_name : Option Name → Option Name → Option Name
first_name (Some n) other = Some n
first_name None other = other

-- The names of the calls on a live network.
abbrev pub call_of : List ℕ → Option Name
call_of word =
    cond (bytes_eq word (codes "recall")) (Some name.Recall)
    (cond (bytes_eq word (codes "post")) (Some name.Post)
    (cond (bytes_eq word (codes "step")) (Some name.Step)
    (cond (bytes_eq word (codes "show")) (Some name.Show)
    (cond (bytes_eq word (codes "audit")) (Some name.Audit) None))))

-- The names of the other commands.
abbrev pub other_of : List ℕ → Option Name
other_of word =
    cond (bytes_eq word (codes "order")) (Some name.Order)
    (cond (bytes_eq word (codes "draw")) (Some name.Draw)
    (cond (bytes_eq word (codes "below")) (Some name.Below)
    (cond (bytes_eq word (codes "under")) (Some name.Under)
    (cond (bytes_eq word (codes "opens")) (Some name.Opens)
    (cond (bytes_eq word (codes "list")) (Some name.List)
    (cond (bytes_eq word (codes "load")) (Some name.Load)
    (cond (bytes_eq word (codes "admit")) (Some name.Admit)
    (cond (bytes_eq word (codes "close")) (Some name.Close)
    (cond (bytes_eq word (codes "dump")) (Some name.Dump)
    (cond (bytes_eq word (codes "poke")) (Some name.Poke) None))))))))))

abbrev pub name_of : List ℕ → Option Name
name_of word = first_name (call_of word) (other_of word)

-- The names of the orders.
abbrev pub order_of : List ℕ → Option OrderKind
order_of word = cond (bytes_eq word (codes "drawn")) (Some Drawn) (cond (bytes_eq word (codes "rights")) (Some Rights) None)

-- The names of the ways in which a sheet is given.
abbrev pub source_of : List ℕ → Option Source
source_of word = cond (bytes_eq word (codes "hex")) (Some Hex) (cond (bytes_eq word (codes "file")) (Some File) None)

-- The order whose name stands at a place.
unfoldable pub order_at : List (List ℕ) → ℕ → Result OrderKind Unclear
order_at words place = wanted order_of NotAnOrder place (slice_get words place)

-- The role's code that stands at a place.
unfoldable pub code_at : List (List ℕ) → ℕ → Result ℕ Unclear
code_at words place = wanted narrow NotARoleCode place (slice_get words place)

-- The set of roles that stands at a place.
unfoldable pub set_at : List (List ℕ) → ℕ → Result ℕ Unclear
set_at words place = wanted role_set NotARoleSet place (slice_get words place)

-- The number of 32 bits that stands at a place.
unfoldable pub narrow_at : List (List ℕ) → ℕ → Result ℕ Unclear
narrow_at words place = wanted narrow NotANumber place (slice_get words place)

-- The number of 64 bits that stands at a place.
unfoldable pub wide_at : List (List ℕ) → ℕ → Result ℕ Unclear
wide_at words place = wanted wide NotANumber place (slice_get words place)

-- The way in which a sheet is given that stands at a place.
unfoldable pub source_at : List (List ℕ) → ℕ → Result Source Unclear
source_at words place = wanted source_of NeitherHexNorFile place (slice_get words place)

-- The bytes that are spelled at a place.
unfoldable pub hex_at : List (List ℕ) → ℕ → Result (List ℕ) Unclear
hex_at words place = wanted hex_bytes NotHexadecimal place (slice_get words place)

-- The word at a place, whatever it is.
unfoldable pub word_at : List (List ℕ) → ℕ → Result (List ℕ) Unclear
word_at words place = wanted Some Missing place (slice_get words place)

-- The line ends before this place.
unfoldable pub end_at : List (List ℕ) → ℕ → Result (Unit {0}) Unclear
end_at words place = cond (nat_lt place (length words)) (Err (fault place TooMany)) (Ok tt)

-- `order NAME`
abbrev pub order_asked : List (List ℕ) → Result Asked Unclear
order_asked words = then_ok (order_at words 1) (λ kind. then_ok (end_at words 2) (λ _. Ok (order kind)))

-- `below A B`
abbrev pub below_asked : List (List ℕ) → Result Asked Unclear
below_asked words = then_ok (code_at words 1) (λ a. then_ok (code_at words 2) (λ b. then_ok (end_at words 3) (λ _. Ok (below a b))))

-- `under SET SET`
abbrev pub under_asked : List (List ℕ) → Result Asked Unclear
under_asked words = then_ok (set_at words 1) (λ a. then_ok (set_at words 2) (λ b. then_ok (end_at words 3) (λ _. Ok (under a b))))

-- `opens SET SET`
abbrev pub opens_asked : List (List ℕ) → Result Asked Unclear
opens_asked words = then_ok (set_at words 1) (λ a. then_ok (set_at words 2) (λ b. then_ok (end_at words 3) (λ _. Ok (opens a b))))

-- The pairs of role codes that are spelled by words of which the first has the number `place`.
abbrev pub pairs_from : ℕ → List (List ℕ) → Result (List (ℕ × ℕ)) Unclear
pairs_from place [] = Ok []
pairs_from place (v ∷ []) = then_ok (wanted narrow NotARoleCode place (Some v)) (λ a. Err (fault (place + 1) Missing))
pairs_from place (v ∷ w ∷ ws) =
    then_ok (wanted narrow NotARoleCode place (Some v)) (λ a.
    then_ok (wanted narrow NotARoleCode (place + 1) (Some w)) (λ b.
    then_ok (pairs_from (place + 2) ws) (λ pairs. Ok ((a, b) ∷ pairs))))

-- `draw A B A B ..`
abbrev pub draw_asked : List (List ℕ) → Result Asked Unclear
draw_asked words = then_ok (pairs_from 1 (drop 1 words)) (λ pairs. Ok (draw pairs))

-- The sheet whose bytes are spelled, or whose file is named, by the word 2.
abbrev pub sheet_from : Source → List (List ℕ) → Result Given Unclear
sheet_from Hex words = then_ok (hex_at words 2) (λ b. Ok (in_bytes b))
sheet_from File words = then_ok (word_at words 2) (λ name. Ok (in_file name))

-- `hex BYTES` or `file NAME`, and no more
abbrev pub sheet_asked : List (List ℕ) → Result Given Unclear
sheet_asked words = then_ok (source_at words 1) (λ source. then_ok (sheet_from source words) (λ given. then_ok (end_at words 3) (λ _. Ok given)))

-- `list hex BYTES` or `list file NAME`
abbrev pub list_asked : List (List ℕ) → Result Asked Unclear
list_asked words = then_ok (sheet_asked words) (λ given. Ok (list given))

-- `load hex BYTES` or `load file NAME`
abbrev pub load_asked : List (List ℕ) → Result Asked Unclear
load_asked words = then_ok (sheet_asked words) (λ given. Ok (load given))

-- `admit`, `close`, `dump` or `audit`: a command that is its name alone.
abbrev pub alone : List (List ℕ) → Asked → Result Asked Unclear
alone words a = then_ok (end_at words 1) (λ _. Ok a)

-- `poke TABLE ROW FIELD VALUE`
abbrev pub poke_asked : List (List ℕ) → Result Asked Unclear
poke_asked words =
    then_ok (narrow_at words 1) (λ table. then_ok (narrow_at words 2) (λ row. then_ok (narrow_at words 3) (λ field.
    then_ok (wide_at words 4) (λ value. then_ok (end_at words 5) (λ _. Ok (poke table row field value))))))

-- `post LOCATION JOB`
abbrev pub post_asked : List (List ℕ) → Result Asked Unclear
post_asked words = then_ok (narrow_at words 1) (λ location. then_ok (narrow_at words 2) (λ job. then_ok (end_at words 3) (λ _. Ok (calls (call.Post location job)))))

-- `step POSITION` and `recall POSITION`
abbrev pub position_asked : List (List ℕ) → Result ℕ Unclear
position_asked words = then_ok (narrow_at words 1) (λ position. then_ok (end_at words 2) (λ _. Ok position))

abbrev pub step_asked : List (List ℕ) → Result Asked Unclear
step_asked words = then_ok (position_asked words) (λ position. Ok (calls (call.Step position)))

abbrev pub recall_asked : List (List ℕ) → Result Asked Unclear
recall_asked words = then_ok (position_asked words) (λ position. Ok (calls (call.Recall position)))

-- `show LOCATION ROW SET`
abbrev pub show_asked : List (List ℕ) → Result Asked Unclear
show_asked words =
    then_ok (narrow_at words 1) (λ location. then_ok (narrow_at words 2) (λ row. then_ok (set_at words 3) (λ roles.
    then_ok (end_at words 4) (λ _. Ok (calls (call.Show location row roles))))))

-- What the command of this name asks.
abbrev pub asked_by : Option Name → List (List ℕ) → Result Asked Unclear
asked_by None words = Err (fault 0 NotACommand)
asked_by (Some name.Order) words = order_asked words
asked_by (Some name.Draw) words = draw_asked words
asked_by (Some name.Below) words = below_asked words
asked_by (Some name.Under) words = under_asked words
asked_by (Some name.Opens) words = opens_asked words
asked_by (Some name.List) words = list_asked words
asked_by (Some name.Load) words = load_asked words
asked_by (Some name.Admit) words = alone words admit
asked_by (Some name.Close) words = alone words close
asked_by (Some name.Dump) words = alone words dump
asked_by (Some name.Poke) words = poke_asked words
asked_by (Some name.Post) words = post_asked words
asked_by (Some name.Step) words = step_asked words
asked_by (Some name.Recall) words = recall_asked words
asked_by (Some name.Show) words = show_asked words
asked_by (Some name.Audit) words = alone words (calls call.Audit)

-- What a line says that is no note.
abbrev pub said_is : Result Asked Unclear → Said
said_is (Ok a) = asks a
said_is (Err u) = unclear u

-- A word that begins with `#` makes a line a note.
abbrev pub is_note : List ℕ → Bool
is_note word = slice_index word 0 == 35

-- What these words say.
abbrev pub said_by : List (List ℕ) → Said
said_by [] = passed
said_by (w ∷ ws) = cond (is_note w) passed (said_is (asked_by (name_of w) (w ∷ ws)))

-- What a line says.
abbrev pub said : List ℕ → Said
said bytes = said_by (words_of bytes)

-- How a sheet is given, as the program holds it.
abbrev pub given : Sheet → Given
given (sheet.Bytes bytes) = in_bytes (vec_items bytes)
given (sheet.File name) = in_file (vec_items name)

-- What a command asks, as the program holds it.
abbrev pub asked_of : Command → Asked
asked_of (command.Order kind) = order kind
asked_of (command.Draw pairs) = draw (vec_items pairs)
asked_of (command.Below a b) = below a b
asked_of (command.Under a b) = under a b
asked_of (command.Opens a b) = opens a b
asked_of (command.List s) = list (given s)
asked_of (command.Load s) = load (given s)
asked_of command.Admit = admit
asked_of command.Close = close
asked_of command.Dump = dump
asked_of (command.Poke table row field value) = poke table row field value
asked_of (command.Call c) = calls c

-- The same where a fault may stand in its place.
abbrev pub asked : Result Command Unclear → Result Asked Unclear
asked (Ok c) = Ok (asked_of c)
asked (Err u) = Err u

-- What the program read is what has to be read, where `shows` tells what it holds. Want of memory is the only other end.
abbrev pub Reads : {A B : Type 0} → (A → B) → Result A LineError → Result B Unclear → Type 0
Reads shows (Ok x) r = Ok (shows x) ≡ r
Reads shows (Err (error.Unclear u)) r = Err u ≡ r
Reads shows (Err (error.OutOfMemory lack)) r = Unit {0}

-- What a line says, as the program holds it; nothing where memory ran out.
abbrev pub said_of : Result (Option Command) LineError → Option Said
said_of (Ok None) = Some passed
said_of (Ok (Some c)) = Some (asks (asked_of c))
said_of (Err (error.Unclear u)) = Some (unclear u)
said_of (Err (error.OutOfMemory lack)) = None
