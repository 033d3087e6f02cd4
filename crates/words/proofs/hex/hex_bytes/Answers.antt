use Rattle.std.proofs.Common.{is_ok, ap, ◌∙◌}
use Rattle.std.proofs.ResultArms.{chosen}
use Rattle.words.proofs.Hexes.{odd, onto, onto-none, one_more}
use Rattle.words.specs.Hex.{hex_bytes}
use Rattle.words.proofs.hex.hex_bytes.Goals as goal

pub returns-then-word-ne0 : goal.returns-then-word-ne0
returns-then-word-ne0 c = record { answer = odd c.args.word.now c.if-word-ne0.true }

pub loop-digits-init : goal.loop-digits-init
loop-digits-init c = ap (λ bs. onto bs (hex_bytes c.args.word.now)) c.new-bytes.ensures.items ∙ onto-none (hex_bytes c.args.word.now)

pub loop-digits-preserved : goal.loop-digits-preserved
loop-digits-preserved c =
    let pushed = chosen _ _ _ _ c.push.ensures.items (ap is_ok c.in_ok-push.was) in
    one_more _ _ c.loop-digits.digits.now c.in-Some.byte _ c.in-len2-up.len_at_least c.in-Some.ensures.answer pushed c.loop-digits.invariant
