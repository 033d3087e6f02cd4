-- The tests for rows of zeros say what they test.
use Rattle.std.proofs.Common.{◌≡◌, Decides, ap, arith}
use Rattle.std.proofs.lemmas.Bool.Decides.{nat_tests}
use Rattle.rows.specs.declared.row.PolicyRow.{PolicyRow}
use Rattle.rows.specs.declared.row.GrantRow.{GrantRow}
use Rattle.rows.specs.declared.row.LocationRow.{LocationRow}
use Rattle.rows.specs.declared.row.PathStepRow.{PathStepRow}
use Rattle.rows.specs.declared.row.TreeLine.{TreeLine}
use Rattle.rows.specs.declared.row.TemplateRow.{TemplateRow}
use Rattle.rows.specs.declared.row.PatternRow.{PatternRow}
use Rattle.rows.specs.declared.row.CommandRow.{CommandRow}
use Rattle.rows.specs.declared.row.JobRow.{JobRow}
use Rattle.layout.specs.declared.memory.Slot.{Slot}
use Rattle.layout.specs.Zeros.{policy0, grant0, location0, step0, line0, template0, pattern0, command0, job0, slot0}
use Rattle.layout.proofs.Defaults.{policy_default, grant_default, location_default, step_default, line_default, template_default, pattern_default, command_default, job_default, slot_default}
use Rattle.zeros.specs.Zeroed.{policy_zero, grant_zero, location_zero, step_zero, line_zero, template_zero, pattern_zero, command_zero, job_zero, slot_zero}

pub Decides-policy0 : (x : PolicyRow) → Decides (policy_zero x) (x ≡ policy0)
Decides-policy0 x = (λ e. policy_default x (grind (arith, nat_tests)), ap policy_zero)

pub Decides-grant0 : (x : GrantRow) → Decides (grant_zero x) (x ≡ grant0)
Decides-grant0 x = (λ e. grant_default x (grind (arith, nat_tests)), ap grant_zero)

pub Decides-location0 : (x : LocationRow) → Decides (location_zero x) (x ≡ location0)
Decides-location0 x = (λ e. location_default x (grind (arith, nat_tests)), ap location_zero)

pub Decides-step0 : (x : PathStepRow) → Decides (step_zero x) (x ≡ step0)
Decides-step0 x = (λ e. step_default x (grind (arith, nat_tests)), ap step_zero)

pub Decides-line0 : (x : TreeLine) → Decides (line_zero x) (x ≡ line0)
Decides-line0 x = (λ e. line_default x (grind (arith, nat_tests)), ap line_zero)

pub Decides-pattern0 : (x : PatternRow) → Decides (pattern_zero x) (x ≡ pattern0)
Decides-pattern0 x = (λ e. pattern_default x (grind (arith, nat_tests)), ap pattern_zero)

pub Decides-command0 : (x : CommandRow) → Decides (command_zero x) (x ≡ command0)
Decides-command0 x = (λ e. command_default x (grind (arith, nat_tests)), ap command_zero)

pub Decides-job0 : (x : JobRow) → Decides (job_zero x) (x ≡ job0)
Decides-job0 x = (λ e. job_default x (grind (arith, nat_tests)), ap job_zero)

pub Decides-slot0 : (x : Slot) → Decides (slot_zero x) (x ≡ slot0)
Decides-slot0 x = (λ e. slot_default x (grind (arith, nat_tests)), ap slot_zero)

pub Decides-template0 : (x : TemplateRow) → Decides (template_zero x) (x ≡ template0)
Decides-template0 x = (λ e. template_default x (grind (arith, nat_tests)), ap template_zero)
