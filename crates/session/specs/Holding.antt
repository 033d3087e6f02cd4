-- The network that a session has: what load, admit and close answer in each state, and the tables after.
use Rattle.std.specs.Prelude.{◌≡◌, ℕ, List, length, Ok, Err, Option, Result}
use Rattle.number.specs.declared.fault.ReadFault.{ReadFault}
use Rattle.number.specs.Faults.{number_of}
use Rattle.sheet.specs.declared.finding.Found.{Found}
use Rattle.layout.specs.declared.memory.Tables.{Tables}
use Rattle.layout.specs.Held.{in_use}
use Rattle.layout.specs.Kinds.{number_of as table_number}
use Rattle.layout.specs.Network.{stored, empty}
use Rattle.tables.specs.declared.blank_state.Blank.{Blank}
use Rattle.tables.specs.declared.draft_state.Draft.{Draft}
use Rattle.tables.specs.declared.fault.LoadFault.{LoadFault}
use Rattle.tables.specs.declared.fault.LoadFault.TheVariants.{Unreadable, OutOfPlace, Full}
use Rattle.tables.specs.Loading.{Reads, Loads}
use Rattle.breaches.specs.Rules.{number_of as rule_number}
use Rattle.rules.specs.declared.fault.Fault.{Fault}
use Rattle.rules.specs.declared.fault.Fault.TheVariants.{Shape, Rule}
use Rattle.rules.specs.declared.live.Live.{Live}
use Rattle.shape.specs.declared.place.Stage.TheVariants as stage
use Rattle.rules.specs.Admission.{standing_fault, answered}
use Rattle.answer.specs.declared.answer.Answer.{Answer}
use Rattle.answer.specs.declared.answer.Answer.TheVariants as answer
use Rattle.answer.specs.declared.answer.State.{State}
use Rattle.answer.specs.declared.answer.State.TheVariants as state
use Rattle.session.specs.Orders.{meaning, count_of, top_of}
use Rattle.session.specs.declared.between.Standing.{Standing}
use Rattle.session.specs.declared.holding.Holding.{Holding}
use Rattle.session.specs.declared.holding.Holding.TheVariants as holding

abbrev pub state_of : Holding → State
state_of (holding.Blank b) = state.Blank
state_of (holding.Draft d) = state.Draft
state_of (holding.Live l) = state.Live

-- a refused load is told by its number and its line, and a line that cannot be read by its byte too
abbrev pub load_fault_answer : LoadFault → Answer
load_fault_answer (Unreadable line fault) = answer.ReadRefused (number_of fault.cause) line fault.byte
load_fault_answer (OutOfPlace line) = answer.LineRefused 5 line
load_fault_answer (Full line) = answer.LineRefused 4 line

abbrev pub load_answer : Result (Draft × ℕ) (Blank × LoadFault) → Answer
load_answer (Ok r) = answer.Count r.1
load_answer (Err r) = load_fault_answer r.1

abbrev pub holding_after : Result (Draft × ℕ) (Blank × LoadFault) → Holding
holding_after (Ok r) = holding.Draft r.0
holding_after (Err r) = holding.Blank r.0

-- a blank is loaded; a draft or a live network has to be closed first
abbrev pub LoadsHere : Holding → Tables → List ℕ → Answer → Holding → Tables → Type 0
LoadsHere (holding.Blank b) t sheet told after u =
    (r : Result (Draft × ℕ) (Blank × LoadFault)) × ((fs : List Found) (end : Option ReadFault) → Reads sheet fs end → Loads b sheet fs end r u)
    × (told ≡ load_answer r) × (after ≡ holding_after r)
LoadsHere (holding.Draft d) t sheet told after u = (told ≡ answer.NotNow state.Draft) × (after ≡ holding.Draft d) × (u ≡ t)
LoadsHere (holding.Live l) t sheet told after u = (told ≡ answer.NotNow state.Live) × (after ≡ holding.Live l) × (u ≡ t)

-- a refused admission is told by the table, the row and the rule; 0 is shape
abbrev pub fault_answer : Fault → Answer
fault_answer (Shape place) = answer.BreachRefused 6 (table_number place.table) place.row 0
fault_answer (Rule breach) = answer.BreachRefused 7 (table_number breach.table) breach.row (rule_number breach.rule)

abbrev pub admit_answer : Result (Live × ℕ) (Draft × Fault) → Answer
admit_answer (Ok r) = answer.Count r.1
admit_answer (Err r) = fault_answer r.1

abbrev pub holding_admitted : Result (Live × ℕ) (Draft × Fault) → Holding
holding_admitted (Ok r) = holding.Live r.0
holding_admitted (Err r) = holding.Draft r.0

-- the draft, held to the order in force
abbrev pub admitted : Standing → Draft → Tables → Result (Live × ℕ) (Draft × Fault)
admitted order d t = answered d (length (in_use t.jobs)) (standing_fault (count_of order) (top_of order) (meaning order) t stage.Draft)

-- a draft is admitted; there is none in blank tables, and a live network was admitted before
abbrev pub AdmitsHere : Standing → Holding → Tables → Answer → Holding → Type 0
AdmitsHere order (holding.Blank b) t told after = (told ≡ answer.NotNow state.Blank) × (after ≡ holding.Blank b)
AdmitsHere order (holding.Draft d) t told after = (told ≡ admit_answer (admitted order d t)) × (after ≡ holding_admitted (admitted order d t))
AdmitsHere order (holding.Live l) t told after = (told ≡ answer.NotNow state.Live) × (after ≡ holding.Live l)

-- a draft or a live network is closed; a blank is nothing to close
abbrev pub ClosesHere : Holding → Tables → Answer → Holding → Tables → Type 0
ClosesHere (holding.Blank b) t told after u = (told ≡ answer.NotNow state.Blank) × (after ≡ holding.Blank b) × (u ≡ t)
ClosesHere (holding.Draft d) t told after u = (told ≡ answer.Ok) × (after ≡ holding.Blank (record { serial = d.serial })) × (u ≡ stored empty)
ClosesHere (holding.Live l) t told after u = (told ≡ answer.Ok) × (after ≡ holding.Blank (record { serial = l.serial })) × (u ≡ stored empty)

-- whatever there was, blank tables
abbrev pub StartsOver : Holding → Holding → Tables → Type 0
StartsOver (holding.Blank b) after u = (after ≡ holding.Blank b) × (u ≡ stored empty)
StartsOver (holding.Draft d) after u = (after ≡ holding.Blank (record { serial = d.serial })) × (u ≡ stored empty)
StartsOver (holding.Live l) after u = (after ≡ holding.Blank (record { serial = l.serial })) × (u ≡ stored empty)
