use Rattle.std.proofs.Common.{inl, inr, Err, ap, ◌∙◌, arith}
use Rattle.number.proofs.Turns.{too-large, at_last, next_turn}
use Rattle.number.proofs.reading.read_within.Goals as goal
use Rattle.number.proofs.reading.read_within.Goals.{then-digit-limit-via-then-digit-limit, then-digit-limit-via-else-digit-limit+then-groups-gt0}

pub returns-then-digit-limit-clause-answer : goal.returns-then-digit-limit-clause-answer
returns-then-digit-limit-clause-answer c =
    ap Err c.at.ensures.answer ∙ too-large _ _ _ _ _ _ c.loop-groups.invariant c.loop-groups-test.true _ c.from-digit.ensures
    (elim c.then-digit-limit.branch [
      | then-digit-limit-via-then-digit-limit w ↦ inl w.if-digit-limit.true
      | then-digit-limit-via-else-digit-limit+then-groups-gt0 w ↦ inr w.if-groups-gt0.true
    ])

pub loop-groups-preserved : goal.loop-groups-preserved
loop-groups-preserved c = next_turn _ _ _ _ _ _ c.loop-groups.invariant c.loop-groups-test.true _ c.from-digit.ensures c.if-digit-limit.false (omega arith) c.if-digit-lt128.false

pub returns-then-digit-lt128-clause-answer : goal.returns-then-digit-lt128-clause-answer
returns-then-digit-lt128-clause-answer c =
    at_last _ _ _ _ _ _ c.loop-groups.invariant c.loop-groups-test.true _ c.from-digit.ensures c.if-digit-limit.false (omega arith) c.if-digit-lt128.true
    (λ z. elim c.if-groups-gt0.either [ inl p ↦ p.1 | inr n ↦ absurd (n z) ])
