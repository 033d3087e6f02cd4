-- What the calls on a live network are answered, and the tables after them, in each state.
use Rattle.std.specs.Prelude.{◌≡◌, ℕ, Some, None, Ok, Err, Option, Result}
use Rattle.rows.specs.declared.row.TreeLine.{TreeLine}
use Rattle.layout.specs.declared.memory.Tables.{Tables}
use Rattle.layout.specs.Kinds.{number_of as table_number}
use Rattle.breaches.specs.Rules.{number_of as rule_number}
use Rattle.breaches.specs.declared.breach.Rule.{Rule}
use Rattle.rooms.specs.Rooms.{number_of as room_number}
use Rattle.machine.specs.declared.auditing.FaultRecord.{FaultRecord}
use Rattle.machine.specs.declared.denial.Missing.TheVariants as missing
use Rattle.machine.specs.declared.denial.Denial.{Denial}
use Rattle.machine.specs.declared.denial.Denial.TheVariants as denial
use Rattle.machine.specs.Hosting.{PostAnswers, PostLeaves, RecallAnswers, RecallLeaves, Stepped, Shown, Audited}
use Rattle.answer.specs.declared.answer.Answer.{Answer}
use Rattle.answer.specs.declared.answer.Answer.TheVariants as answer
use Rattle.answer.specs.declared.answer.State.TheVariants as state
use Rattle.session.specs.Orders.{meaning, count_of, top_of}
use Rattle.session.specs.declared.between.Standing.{Standing}
use Rattle.session.specs.declared.holding.Holding.{Holding}
use Rattle.session.specs.declared.holding.Holding.TheVariants as holding

-- ---- how an answer is told

-- a denial by its number and what says where; a slot that is not fit for a step breaks rule 6 at the job's position
abbrev pub denial_answer : Denial → Answer
denial_answer (denial.Shape place) = answer.BreachRefused 11 (table_number place.table) place.row 0
denial_answer (denial.Missing missing.Position) = answer.NoPosition 8
denial_answer (denial.Missing missing.Location) = answer.NoLocation 8
denial_answer (denial.Missing missing.Job) = answer.NoJob 8
denial_answer denial.OtherPolicy = answer.OtherPolicy 9
denial_answer (denial.Unfit position) = answer.BreachRefused 11 0 position 6
denial_answer (denial.NoRoom room) = answer.NoRoom 10 (room_number room)

-- a position, or how many edges were found
abbrev pub number_answer : Result ℕ Denial → Answer
number_answer (Ok n) = answer.Count n
number_answer (Err d) = denial_answer d

abbrev pub done_answer : Result (Unit {0}) Denial → Answer
done_answer (Ok done) = answer.Count 0
done_answer (Err d) = denial_answer d

abbrev pub edge_answer : Option TreeLine → Answer
edge_answer (Some x) = answer.Edge x
edge_answer None = answer.Nothing

-- a breach of shape is told as rule 0
abbrev pub told_rule : Option Rule → ℕ
told_rule None = 0
told_rule (Some rule) = rule_number rule

abbrev pub audit_answer : Option FaultRecord → Answer
audit_answer None = answer.Nothing
audit_answer (Some fault) = answer.Fault (table_number fault.table) fault.row (told_rule fault.rule)

-- ---- the calls: each works on a live network, under the order in force

abbrev pub PostsHere : Standing → Holding → Tables → ℕ → ℕ → Answer → Tables → Type 0
PostsHere order (holding.Blank b) t location job told u = (told ≡ answer.NotNow state.Blank) × (u ≡ t)
PostsHere order (holding.Draft d) t location job told u = (told ≡ answer.NotNow state.Draft) × (u ≡ t)
PostsHere order (holding.Live l) t location job told u =
    (r : Result ℕ Denial) × PostAnswers (count_of order) (top_of order) (meaning order) t location job r
    × PostLeaves (count_of order) (top_of order) (meaning order) t location job r u × (told ≡ number_answer r)

abbrev pub StepsHere : Standing → Holding → Tables → ℕ → Answer → Tables → Type 0
StepsHere order (holding.Blank b) t position told u = (told ≡ answer.NotNow state.Blank) × (u ≡ t)
StepsHere order (holding.Draft d) t position told u = (told ≡ answer.NotNow state.Draft) × (u ≡ t)
StepsHere order (holding.Live l) t position told u =
    (r : Result ℕ Denial) × Stepped (count_of order) (top_of order) (meaning order) t position r u × (told ≡ number_answer r)

abbrev pub RecallsHere : Standing → Holding → Tables → ℕ → Answer → Tables → Type 0
RecallsHere order (holding.Blank b) t position told u = (told ≡ answer.NotNow state.Blank) × (u ≡ t)
RecallsHere order (holding.Draft d) t position told u = (told ≡ answer.NotNow state.Draft) × (u ≡ t)
RecallsHere order (holding.Live l) t position told u =
    (r : Result (Unit {0}) Denial) × RecallAnswers (count_of order) (top_of order) (meaning order) t position r
    × RecallLeaves (count_of order) (top_of order) (meaning order) t position r u × (told ≡ done_answer r)

abbrev pub ShowsHere : Standing → Holding → Tables → ℕ → ℕ → ℕ → Answer → Type 0
ShowsHere order (holding.Blank b) t location row roles told = told ≡ answer.NotNow state.Blank
ShowsHere order (holding.Draft d) t location row roles told = told ≡ answer.NotNow state.Draft
ShowsHere order (holding.Live l) t location row roles told =
    (r : Option TreeLine) × Shown (count_of order) (top_of order) (meaning order) t location row roles r × (told ≡ edge_answer r)

abbrev pub AuditsHere : Standing → Holding → Tables → Answer → Type 0
AuditsHere order (holding.Blank b) t told = told ≡ answer.NotNow state.Blank
AuditsHere order (holding.Draft d) t told = told ≡ answer.NotNow state.Draft
AuditsHere order (holding.Live l) t told = (r : Option FaultRecord) × Audited (count_of order) (top_of order) (meaning order) t r × (told ≡ audit_answer r)
