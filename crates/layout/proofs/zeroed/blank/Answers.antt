use Rattle.std.proofs.Common.{replicate, ap}
use Rattle.layout.specs.Zeros.{policy0, grant0, location0, step0, line0, template0, pattern0, command0, job0, running0}
use Rattle.layout.proofs.Defaults.{default_held, policy_default, grant_default, location_default, step_default, line_default, template_default, pattern_default, command_default, job_default}
use Rattle.layout.proofs.zeroed.blank.Goals as goal

pub returns : goal.returns
returns c = record {
  answer = λ i. record {
    policies = default_held policy0 policy_default c.default.result c.default.ensures i;
    grants = default_held grant0 grant_default c.default-2.result c.default-2.ensures i;
    locations = default_held location0 location_default c.default-3.result c.default-3.ensures i;
    steps = default_held step0 step_default c.default-4.result c.default-4.ensures i;
    trees = ap (replicate 16) (default_held line0 line_default c.default-5.result c.default-5.ensures) i;
    templates = default_held template0 template_default c.default-6.result c.default-6.ensures i;
    patterns = default_held pattern0 pattern_default c.default-7.result c.default-7.ensures i;
    commands = default_held command0 command_default c.default-8.result c.default-8.ensures i;
    jobs = default_held job0 job_default c.default-9.result c.default-9.ensures i;
    running = default_held running0 (λ x e. e) c.default-10.result c.default-10.ensures i;
    shelf = record {
      trees = default_held 0 (λ x e. e) c.default-11.result c.default-11.ensures i;
      lines = ap (replicate 1024) (line_default c.default-12.result c.default-12.ensures) i;
    };
  };
}
