-- What a line of input calls for, and what the session and the tables are after it.
use Rattle.std.specs.Prelude.{◌≡◌, ℕ, Bool, true, false, ◌⊎◌, List, [], Ok, Err, Some, None, Option, Result}
use Rattle.std.specs.declared.alloc.AllocError.{AllocError}
use Rattle.layout.specs.declared.memory.Tables.{Tables}
use Rattle.poke.specs.declared.wrong.Wrong.{Wrong}
use Rattle.poke.specs.declared.wrong.Wrong.TheVariants as wrong
use Rattle.poke.specs.Poking.{poked}
use Rattle.order.specs.RoleSets.{set_below, opens_to}
use Rattle.drawn.specs.Draws.{Least, FirstUnknown}
use Rattle.drawn.specs.Rows.{rows_below}
use Rattle.answer.specs.declared.answer.Answer.{Answer}
use Rattle.answer.specs.declared.answer.Answer.TheVariants as answer
use Rattle.answer.specs.declared.answer.State.TheVariants as state
use Rattle.words.specs.declared.unclear.Unclear.{Unclear}
use Rattle.words.specs.declared.unclear.Why.TheVariants.{NoSuchTable, NoSuchRow, NoSuchField, TooWide}
use Rattle.words.specs.declared.line.Call.{Call}
use Rattle.words.specs.declared.line.Call.TheVariants as call
use Rattle.words.specs.declared.line.OrderKind.{OrderKind}
use Rattle.words.specs.declared.line.OrderKind.TheVariants as kind
use Rattle.words.specs.Saying.{Asked, Given, Said, given}
use Rattle.words.specs.Saying.Asked.{order, draw, below, under, opens, list, load, admit, close, dump, poke, calls}
use Rattle.words.specs.Saying.Said.{passed, asks, unclear}
use Rattle.session.specs.Orders.{meaning}
use Rattle.session.specs.Holding.{ClosesHere, AdmitsHere, StartsOver}
use Rattle.session.specs.Calls.{PostsHere, StepsHere, RecallsHere, ShowsHere, AuditsHere}
use Rattle.session.specs.declared.holding.Holding.{Holding}
use Rattle.session.specs.declared.holding.Holding.TheVariants as holding
use Rattle.session.specs.declared.between.Session.{Session}
use Rattle.session.specs.declared.between.Reply.{Reply}
use Rattle.session.specs.declared.between.Reply.TheVariants as reply
use Rattle.session.specs.declared.between.Standing.{Standing}
use Rattle.session.specs.declared.between.Standing.TheVariants as standing

-- the order drawn from these pairs is in force
abbrev pub DrawnFrom : List (ℕ × ℕ) → Standing → Type 0
DrawnFrom pairs (standing.Drawn o) = Least pairs (rows_below o.rows)
DrawnFrom pairs (standing.Rights o) = ⊥

-- the rights order is in force
abbrev pub InRights : Standing → Type 0
InRights (standing.Drawn o) = ⊥
InRights (standing.Rights o) = Unit {0}

-- a fresh order of the kind is in force
abbrev pub FreshOf : OrderKind → Standing → Type 0
FreshOf kind.Drawn after = DrawnFrom [] after
FreshOf kind.Rights after = InRights after

abbrev pub yes_no : Bool → Answer
yes_no true = answer.Yes
yes_no false = answer.No

-- a draw gives the order of its pairs, or tells the first pair with a code above 31; under the rights order it is refused
abbrev pub Draws : Standing → List (ℕ × ℕ) → Answer → Standing → Type 0
Draws (standing.Drawn o) pairs told after =
    ((told ≡ answer.Ok) × DrawnFrom pairs after)
    ⊎ ((k : ℕ) × FirstUnknown pairs k × (told ≡ answer.PairRefused 12 k) × (after ≡ standing.Drawn o))
Draws (standing.Rights o) pairs told after = (told ≡ answer.NotDrawn 12) × (after ≡ standing.Rights o)

-- the sheet that is given so is to be listed
abbrev pub ToList : Given → Reply → Type 0
ToList g (reply.Answered told) = ⊥
ToList g (reply.List sheet) = given sheet ≡ g
ToList g (reply.Load sheet) = ⊥
ToList g reply.Dump = ⊥

-- the sheet that is given so is to be loaded
abbrev pub ToLoad : Given → Reply → Type 0
ToLoad g (reply.Answered told) = ⊥
ToLoad g (reply.List sheet) = ⊥
ToLoad g (reply.Load sheet) = given sheet ≡ g
ToLoad g reply.Dump = ⊥

-- a sheet is to be loaded only into blank tables
abbrev pub CallsToLoad : Holding → Given → Reply → Type 0
CallsToLoad (holding.Blank b) g r = ToLoad g r
CallsToLoad (holding.Draft d) g r = r ≡ reply.Answered (answer.NotNow state.Draft)
CallsToLoad (holding.Live l) g r = r ≡ reply.Answered (answer.NotNow state.Live)

-- The word of the command that is wrong: the table is word 1, the row 2, the field 3 and the value 4.
abbrev pub word_of : Wrong → Unclear
word_of wrong.Table = record { word = 1; why = NoSuchTable }
word_of wrong.Row = record { word = 2; why = NoSuchRow }
word_of wrong.Field = record { word = 3; why = NoSuchField }
word_of wrong.Value = record { word = 4; why = TooWide }

abbrev pub poke_answer : Result (Unit {0}) Wrong → Answer
poke_answer (Ok done) = answer.Ok
poke_answer (Err w) = answer.Unclear (word_of w)

-- the session and the tables are as they were
pub record Same (before : Session) (t : Tables) (after : Session) (u : Tables) : Type 0 where
  pub session : after ≡ before
  pub tables : u ≡ t

-- the order may be another, and nothing else
pub record Untouched (before : Session) (t : Tables) (after : Session) (u : Tables) : Type 0 where
  pub holding : after.holding ≡ before.holding
  pub tables : u ≡ t

-- what a call on a live network is answered, and the tables after it
abbrev pub Calls : Session → Tables → Call → Answer → Tables → Type 0
Calls before t (call.Post location job) told u = PostsHere before.order before.holding t location job told u
Calls before t (call.Step position) told u = StepsHere before.order before.holding t position told u
Calls before t (call.Recall position) told u = RecallsHere before.order before.holding t position told u
Calls before t (call.Show location row roles) told u = ShowsHere before.order before.holding t location row roles told × (u ≡ t)
Calls before t call.Audit told u = AuditsHere before.order before.holding t told × (u ≡ t)

-- what a command calls for, and the session and the tables after it
abbrev pub Answers : Session → Tables → Asked → Reply → Session → Tables → Type 0
Answers before t (order kind) r after u = (r ≡ reply.Answered answer.Ok) × FreshOf kind after.order × StartsOver before.holding after.holding u
Answers before t (draw pairs) r after u = (told : Answer) × (r ≡ reply.Answered told) × Draws before.order pairs told after.order × Untouched before t after u
Answers before t (below a b) r after u = (r ≡ reply.Answered (yes_no (meaning before.order a b))) × Same before t after u
Answers before t (under a b) r after u = (r ≡ reply.Answered (yes_no (set_below (meaning before.order) a b))) × Same before t after u
Answers before t (opens set roles) r after u = (r ≡ reply.Answered (yes_no (opens_to (meaning before.order) set roles))) × Same before t after u
Answers before t (list g) r after u = ToList g r × Same before t after u
Answers before t (load g) r after u = CallsToLoad before.holding g r × Same before t after u
Answers before t admit r after u =
    (told : Answer) × (r ≡ reply.Answered told) × (after.order ≡ before.order) × AdmitsHere before.order before.holding t told after.holding × (u ≡ t)
Answers before t close r after u =
    (told : Answer) × (r ≡ reply.Answered told) × (after.order ≡ before.order) × ClosesHere before.holding t told after.holding u
Answers before t dump r after u = (r ≡ reply.Dump) × Same before t after u
Answers before t (poke table row field value) r after u =
    (r ≡ reply.Answered (poke_answer (poked t table row field value).0)) × (after ≡ before) × (u ≡ (poked t table row field value).1)
Answers before t (calls c) r after u = (told : Answer) × (r ≡ reply.Answered told) × Calls before t c told u × (after ≡ before)

-- what a line calls for: nothing where it is passed over
abbrev pub Replies : Session → Tables → Said → Option Reply → Session → Tables → Type 0
Replies before t passed r after u = (r ≡ None) × Same before t after u
Replies before t (asks asked) None after u = ⊥
Replies before t (asks asked) (Some r) after u = Answers before t asked r after u
Replies before t (unclear why) r after u = (r ≡ Some (reply.Answered (answer.Unclear why))) × Same before t after u

-- want of memory leaves all as it was
abbrev pub Turns : Session → Tables → Said → Result (Option Reply) AllocError → Session → Tables → Type 0
Turns before t says (Ok r) after u = Replies before t says r after u
Turns before t says (Err lack) after u = Same before t after u
