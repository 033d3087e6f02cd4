use Rattle.std.proofs.Common.{rules, ◌≡◌, ◌+◌, ◌∙◌, drop, ap}
use Rattle.std.specs.Option.{option_map}
use Rattle.scan.proofs.Positions.{position_bad}
use Rattle.zeros.proofs.zeroed.first_written.Goals as goal

pub returns-clause-answer : goal.returns-clause-answer
returns-clause-answer g c =
    let moved : c.map.result ≡ option_map (λ k. c.args.from + k) c.zeros_before.result = search rules in
    moved ∙ (ap (option_map (λ k. c.args.from + k)) c.zeros_before.ensures.answer ∙ position_bad g.T.Zeroed.zeroed c.args.from (drop c.args.from c.args.rows.now))
