use Rattle.std.proofs.Common.{ℕ, None, Some, ap, sym, ◌∙◌, subst, refl, arith}
use Rattle.rows.specs.declared.row.CommandRow.{CommandRow}
use Rattle.layout.specs.Network.{network}
use Rattle.meaning.specs.Decoding.{verb_of}
use Rattle.typing.specs.Flow.{standing_after, other_of}
use Rattle.typing.specs.Telling.{Judged, later}
use Rattle.typing.proofs.Judging.{room_falls, judged_zero, judged_none, judged_own, judged_next, judged_other, judged_like}
use Rattle.typing.proofs.breach.+breach_from.Goals as goal

pub breach_from-requires : goal.breach_from-requires
breach_from-requires g t c κs within = (
  room_falls c.args.number c.command_at-command.result.next c.continuations-next.result.0 t c.if-number-eq0.false (omega arith)
      (ap (λ (w : ℕ × ℕ). w.0) c.continuations-next.ensures.answer) (sym c.decreases),
  within,
)

pub breach_from-requires-2 : goal.breach_from-requires-2
breach_from-requires-2 g t c κs within = (
  room_falls c.args.number (other_of c.in-Some.verb) c.continuations-next.result.1 t c.if-number-eq0.false (omega arith)
      (ap (λ (w : ℕ × ℕ). w.1) c.continuations-next.ensures.answer) (sym c.decreases),
  within,
)

pub returns-then-number-eq0 : goal.returns-then-number-eq0
returns-then-number-eq0 g t c = record {
  judged = subst (λ (n : ℕ). Judged (g.O.Order.below c.args.commands.now.order.now) (network c.args.commands.now.tables.now).plan c.args.standing n None) (sym c.if-number-eq0.true)
      (judged_zero (g.O.Order.below c.args.commands.now.order.now) (network c.args.commands.now.tables.now).plan c.args.standing);
}

pub returns-in_default : goal.returns-in_default
returns-in_default g t c = record {
  judged = judged_none (g.O.Order.below c.args.commands.now.order.now) (network c.args.commands.now.tables.now).plan c.args.standing c.args.number (omega arith)
      (ap verb_of (sym c.command_at-command.ensures.answer) ∙ (sym c.decode.ensures.answer ∙ c.in_default.is));
}

pub returns-in-Some-broken : goal.returns-in-Some-broken
returns-in-Some-broken g t c = record {
  judged = judged_own (g.O.Order.below c.args.commands.now.order.now) (network c.args.commands.now.tables.now).plan c.args.standing c.args.number c.in-Some.verb c.in-Some-broken.rule
      (ap verb_of (sym c.command_at-command.ensures.answer) ∙ (sym c.decode.ensures.answer ∙ c.in-Some.is))
      (sym c.broken.ensures.answer ∙ c.in-Some-broken.is) c.in-Some-broken.ensures.says;
}

pub returns-in-Some-breach_from : goal.returns-in-Some-breach_from
returns-in-Some-breach_from g t c =
    let below = g.O.Order.below c.args.commands.now.order.now in
    let plan = (network c.args.commands.now.tables.now).plan in record {
      judged = judged_next below plan c.args.standing c.args.number c.in-Some.verb c.in-Some-breach_from.breach
          (ap verb_of (sym c.command_at-command.ensures.answer) ∙ (sym c.decode.ensures.answer ∙ c.in-Some.is))
          (sym c.broken.ensures.answer ∙ c.in_default-broken.is)
          (judged_like below plan c.standing_after-after.result (standing_after plan c.args.standing c.in-Some.verb) c.continuations-next.result.0 _ (Some c.in-Some-breach_from.breach)
          c.standing_after-after.ensures.answer
          (ap (λ (w : ℕ × ℕ). w.0) c.continuations-next.ensures.answer ∙ ap (λ (q : CommandRow). later c.args.number q.next) c.command_at-command.ensures.answer)
          c.in-Some-breach_from.ensures.judged);
    }

pub returns : goal.returns
returns g t c =
    let below = g.O.Order.below c.args.commands.now.order.now in
    let plan = (network c.args.commands.now.tables.now).plan in record {
      judged = judged_other below plan c.args.standing c.args.number c.in-Some.verb c.breach_from-2.result
          (ap verb_of (sym c.command_at-command.ensures.answer) ∙ (sym c.decode.ensures.answer ∙ c.in-Some.is))
          (sym c.broken.ensures.answer ∙ c.in_default-broken.is)
          c.in_default-broken.ensures.says
          (judged_like below plan c.standing_after-after.result (standing_after plan c.args.standing c.in-Some.verb) c.continuations-next.result.0 _ None
          c.standing_after-after.ensures.answer
          (ap (λ (w : ℕ × ℕ). w.0) c.continuations-next.ensures.answer ∙ ap (λ (q : CommandRow). later c.args.number q.next) c.command_at-command.ensures.answer)
          c.in_default-breach_from.ensures.judged)
          (judged_like below plan c.args.standing c.args.standing c.continuations-next.result.1 _ c.breach_from-2.result refl
          (ap (λ (w : ℕ × ℕ). w.1) c.continuations-next.ensures.answer) c.breach_from-2.ensures.judged);
    }
