use Rattle.std.proofs.Common.{sym, ◌∙◌, arith}
use Rattle.std.proofs.lemmas.Bool.{le-ltb}
use Rattle.order.proofs.Bits.{has-false_from}
use Rattle.order.proofs.role_sets.has_role.Goals as goal

pub returns-else-role-lt64 : goal.returns-else-role-lt64
returns-else-role-lt64 c = record {
  answer = le-ltb c.args.role 64 c.if-role-lt64.false ∙ sym (has-false_from c.args.set c.args.role 64 (omega arith) c.if-role-lt64.false);
}
