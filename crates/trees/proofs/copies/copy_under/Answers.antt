use Rattle.std.proofs.Common.{◌+◌, ◌-◌, length, take, drop, is_ok, sym, arith}
use Rattle.std.proofs.lemmas.List.{length-take, length-drop}
use Rattle.obeying.specs.Rules.{line}
use Rattle.edges.proofs.CopiedLines.{copied_turn}
use Rattle.trees.proofs.copies.copy_under.Goals as goal

pub loop-line-preserved : goal.loop-line-preserved
loop-line-preserved c =
    let t = c.args.tree.now in
    let behind = drop (c.args.row + 1) t in
    let lines = take (length t - (c.args.row + 1)) behind in
    copied_turn (line t c.args.row).depth lines c.loop-line.line-index c.loop-line.copy c.push-room.new.self c.in-Some.line (is_ok c.push-room.result)
    c.loop-line-test.true (omega (arith, length-take (length t - (c.args.row + 1)) behind, length-drop (c.args.row + 1) t, c.requires.few)) c.loop-line.invariant
    (sym c.in-Some.ensures.answer) c.push-room.ensures.answer c.push-room.ensures.after
