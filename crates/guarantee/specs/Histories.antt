-- Histories: lists of calls on a live network, each working on the tables that the one before left, refused calls among them.
use Rattle.std.specs.Prelude.{◌≡◌, ℕ, Bool, List, [], ◌∷◌, Option, Result}
use Rattle.rows.specs.declared.row.TreeLine.{TreeLine}
use Rattle.layout.specs.declared.memory.Tables.{Tables}
use Rattle.machine.specs.declared.auditing.FaultRecord.{FaultRecord}
use Rattle.machine.specs.declared.denial.Denial.{Denial}
use Rattle.machine.specs.Hosting.{PostAnswers, PostLeaves, RecallAnswers, RecallLeaves, Stepped, Shown, Audited}

-- with any arguments
pub data Call : Type 0 where
  post : (location job : ℕ) → Call
  step : (position : ℕ) → Call
  recall : (position : ℕ) → Call
  show : (location row roles : ℕ) → Call
  audit : Call

-- under an order with so many roles, this top and this relation
module _ (count top : ℕ) (below : ℕ → ℕ → Bool) where
  -- the call, made on the tables t, leaves the tables u, by what its contract says
  abbrev pub Called : Tables → Call → Tables → Type 0
  Called t (post location job) u = (answer : Result ℕ Denial) × PostAnswers count top below t location job answer × PostLeaves count top below t location job answer u
  Called t (step position) u = (answer : Result ℕ Denial) × Stepped count top below t position answer u
  Called t (recall position) u = (answer : Result (Unit {0}) Denial) × RecallAnswers count top below t position answer × RecallLeaves count top below t position answer u
  Called t (show location row roles) u = (answer : Option TreeLine) × Shown count top below t location row roles answer × (u ≡ t)
  Called t audit u = (answer : Option FaultRecord) × Audited count top below t answer × (u ≡ t)

  abbrev pub History : Tables → List Call → Tables → Type 0
  History t [] after = after ≡ t
  History t (call ∷ calls) after = (u : Tables) × Called t call u × History u calls after
