-- What the rows' defaults are: all zero.
use Rattle.std.proofs.Common.{◌≡◌, ℕ, replicate, ap, ◌∙◌}
use Rattle.rows.specs.declared.row.PolicyRow.{PolicyRow}
use Rattle.rows.specs.declared.row.GrantRow.{GrantRow}
use Rattle.rows.specs.declared.row.LocationRow.{LocationRow}
use Rattle.rows.specs.declared.row.PathStepRow.{PathStepRow}
use Rattle.rows.specs.declared.row.TreeLine.{TreeLine}
use Rattle.rows.specs.declared.row.TemplateRow.{TemplateRow}
use Rattle.rows.specs.declared.row.PatternRow.{PatternRow}
use Rattle.rows.specs.declared.row.CommandRow.{CommandRow}
use Rattle.rows.specs.declared.row.JobRow.{JobRow}
use Rattle.layout.specs.declared.held.Table.{Table}
use Rattle.layout.specs.declared.memory.Slot.{Slot}
use Rattle.layout.specs.Zeros.{policy0, grant0, location0, step0, line0, template0, pattern0, command0, job0, slot0}

-- a table with no rows in use and one row throughout, where that row has to be z
pub default_held : {X : Type 0} {n : ℕ} {P : X → Type 0} (z : X) → ((x : X) → P x → x ≡ z) → (t : Table X n)
    → ((x : X) × P x × (t ≡ record { count = 0; rows = replicate n x })) → t ≡ record { count = 0; rows = replicate n z }
default_held {n = n} z only t (x, p, e) = e ∙ λ i. record { count = 0; rows = ap (replicate n) (only x p) i }

pub policy_default : (x : PolicyRow) → x.least ≡ 0 → x ≡ policy0
policy_default x e = λ i. record { least = e i }

pub grant_default : (x : GrantRow) → (x.policy ≡ 0) × ((x.direction ≡ 0) × ((x.holder ≡ 0) × (x.role ≡ 0))) → x ≡ grant0
grant_default x (a, (b, (c, d))) = λ i. record { policy = a i; direction = b i; holder = c i; role = d i }

pub location_default : (x : LocationRow) → x.policy ≡ 0 → x ≡ location0
location_default x e = λ i. record { policy = e i }

pub step_default : (x : PathStepRow) → (x.path ≡ 0) × ((x.label ≡ 0) × (x.set ≡ 0)) → x ≡ step0
step_default x (a, (b, c)) = λ i. record { path = a i; label = b i; set = c i }

pub line_default : (x : TreeLine) → (x.depth ≡ 0) × ((x.label ≡ 0) × ((x.set ≡ 0) × ((x.content ≡ 0) × ((x.first ≡ 0) × (x.second ≡ 0))))) → x ≡ line0
line_default x (a, (b, (c, (d, (e, f))))) = λ i. record { depth = a i; label = b i; set = c i; content = d i; first = e i; second = f i }

pub template_default : (x : TemplateRow)
    → (x.template ≡ 0) × ((x.line.depth ≡ 0) × ((x.line.label ≡ 0) × ((x.line.set ≡ 0) × ((x.line.content ≡ 0) × ((x.line.first ≡ 0) × (x.line.second ≡ 0))))))
    → x ≡ template0
template_default x (a, l) = λ i. record { template = a i; line = line_default x.line l i }

pub pattern_default : (x : PatternRow) → (x.kind ≡ 0) × ((x.slot ≡ 0) × ((x.policy ≡ 0) × ((x.first ≡ 0) × (x.second ≡ 0)))) → x ≡ pattern0
pattern_default x (a, (b, (c, (d, e)))) = λ i. record { kind = a i; slot = b i; policy = c i; first = d i; second = e i }

pub command_default : (x : CommandRow)
    → (x.verb ≡ 0) × ((x.next ≡ 0) × ((x.operand_kind ≡ 0) × ((x.operand ≡ 0) × ((x.first ≡ 0) × ((x.second ≡ 0) × ((x.third ≡ 0) × (x.fourth ≡ 0)))))))
    → x ≡ command0
command_default x (a, (b, (c, (d, (e, (f, (g, h))))))) =
    λ i. record { verb = a i; next = b i; operand_kind = c i; operand = d i; first = e i; second = f i; third = g i; fourth = h i }

pub job_default : (x : JobRow) → (x.policy ≡ 0) × ((x.roles ≡ 0) × (x.command ≡ 0)) → x ≡ job0
job_default x (a, (b, c)) = λ i. record { policy = a i; roles = b i; command = c i }

pub slot_default : (x : Slot) → (x.pattern ≡ 0) × (x.value ≡ 0) → x ≡ slot0
slot_default x (a, b) = λ i. record { pattern = a i; value = b i }
