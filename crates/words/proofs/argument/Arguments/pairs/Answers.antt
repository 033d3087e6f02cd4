use Rattle.std.proofs.Common.{◌≡◌, ◌+◌, Ok, Err, is_ok, ap, ◌∙◌, arith, rules}
use Rattle.std.proofs.ResultArms.{chosen}
use Rattle.words.specs.Cutting.{texts}
use Rattle.words.specs.Saying.{code_at}
use Rattle.words.proofs.Places.{length_texts}
use Rattle.words.proofs.Draws.{all_paired, first_refused, second_refused, paired}
use Rattle.words.proofs.argument.Arguments.pairs.Goals as goal

pub returns-in_err-a : goal.returns-in_err-a
returns-in_err-a c =
    let long = length_texts c.loop-self.self.words.now in
    let e = first_refused c.loop-self.invariant (omega arith) c.in_err-a.field-0.0 c.in_err-a.ensures.answer in
    record { answer = search rules }

pub returns-in_err-b : goal.returns-in_err-b
returns-in_err-b c =
    let long = length_texts c.loop-self.self.words.now in
    let next : Err c.in_err-b.field-0.0 ≡ code_at (texts c.loop-self.self.words.now) (c.loop-self.self.place + 1)
    = c.in_err-b.ensures.answer ∙ ap (λ ws. code_at (texts ws) c.role_code.new.self.place) c.in_ok-a.ensures.passes.0 ∙ ap (code_at (texts c.loop-self.self.words.now)) c.in_ok-a.ensures.passes.1 in
    let e = second_refused c.loop-self.invariant (omega arith) c.in_ok-a.a c.in_err-b.field-0.0 c.in_ok-a.ensures.answer next in
    record { answer = search rules }

pub loop-self-preserved : goal.loop-self-preserved
loop-self-preserved c =
    let long = length_texts c.loop-self.self.words.now in
    let next : Ok c.in_ok-b.b ≡ code_at (texts c.loop-self.self.words.now) (c.loop-self.self.place + 1)
    = c.in_ok-b.ensures.answer ∙ ap (λ ws. code_at (texts ws) c.role_code.new.self.place) c.in_ok-a.ensures.passes.0 ∙ ap (code_at (texts c.loop-self.self.words.now)) c.in_ok-a.ensures.passes.1 in
    let pushed = chosen _ _ _ _ c.push.ensures.items (ap is_ok c.in_ok-push.was) in
    paired c.loop-self.invariant (omega arith) c.in_ok-a.a c.in_ok-b.b _ _ _ c.in_ok-a.ensures.answer next pushed
    (omega (arith, c.in_ok-b.ensures.passes.1, c.in_ok-a.ensures.passes.1)) (ap texts (c.in_ok-b.ensures.passes.0 ∙ c.in_ok-a.ensures.passes.0))

pub returns : goal.returns
returns c =
    let long = length_texts c.loop-self.self.words.now in
    record { answer = all_paired c.loop-self.invariant (omega arith) }
