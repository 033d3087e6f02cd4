use Rattle.std.proofs.Common.{true, sym, arith}
use Rattle.std.proofs.lemmas.List.{set_past}
use Rattle.standing.proofs.commands.mark.Goals as goal

pub returns-else-to-lt256 : goal.returns-else-to-lt256
returns-else-to-lt256 c = record { after = sym (set_past c.args.flags.now c.args.to true (omega arith)) }
