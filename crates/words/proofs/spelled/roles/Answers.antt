use Rattle.std.proofs.Common.{◌∷◌, [], drop, Some, ap, ◌∙◌, arith, rules, true-eqb, false-eqb, bit_or, length-append}
use Rattle.std.specs.List.{slice_split}
use Rattle.std.proofs.lemmas.Iterator.Consumers.{YieldsList-at, YieldsList-turn, YieldsList-end}
use Rattle.std.proofs.lemmas.Iterator.Splits.{YieldsList-from_slice_split}
use Rattle.words.specs.Cutting.{is_comma}
use Rattle.words.specs.Spelling.{joined, all_roles}
use Rattle.words.proofs.Sets.{no_roles, all_roles-parts, all_read, no_role, one_more}
use Rattle.words.proofs.spelled.roles.Goals as goal

pub returns-then-is_empty : goal.returns-then-is_empty
returns-then-is_empty c = record { answer = no_roles c.args.inner.now (true-eqb _ 0 c.if-is_empty.ensures) }

pub returns-in_err-set : goal.returns-in_err-set
returns-in_err-set c =
    let some = false-eqb _ 0 c.if-is_empty.ensures in
    let turn = YieldsList-turn
    (YieldsList-at c.into_iter-word-iterator.ensures.into_iter_gives
    (YieldsList-from_slice_split _ is_comma c.args.inner.now c.split-word-items.ensures.rest c.split-word-items.ensures.done c.split-word-items.ensures.closure (λ x b q k. search rules)))
    c.loop-word.yielded _ c.loop-word.yielded_by c.next.result _ c.in-Some.word c.in-Some.is c.next.ensures.steps in
    record {
      answer = c.from_residual.ensures ∙ no_role c.loop-word.set _ _ c.loop-word.invariant c.in-Some.word.now turn.0 turn.1 c.in_err-set.ensures.answer
          ∙ all_roles-parts c.args.inner.now (omega arith);
    }

pub loop-word-preserved : goal.loop-word-preserved
loop-word-preserved c =
    let turn = YieldsList-turn
    (YieldsList-at c.into_iter-word-iterator.ensures.into_iter_gives
    (YieldsList-from_slice_split _ is_comma c.args.inner.now c.split-word-items.ensures.rest c.split-word-items.ensures.done c.split-word-items.ensures.closure (λ x b q k. search rules)))
    c.loop-word.yielded _ c.loop-word.yielded_by c.next.result _ c.in-Some.word c.in-Some.is c.next.ensures.steps in
    ap (λ n. joined (Some (bit_or c.loop-word.set c.in_ok-set.field-0)) (all_roles (drop n (slice_split is_comma c.args.inner.now)))) (length-append c.loop-word.yielded (c.in-Some.word ∷ []))
    ∙ one_more c.loop-word.set _ _ c.loop-word.invariant c.in-Some.word.now turn.0 turn.1 c.in_ok-set.field-0 c.in_ok-set.ensures.answer

pub returns : goal.returns
returns c =
    let some = false-eqb _ 0 c.if-is_empty.ensures in
    let end = YieldsList-end
    (YieldsList-at c.into_iter-word-iterator.ensures.into_iter_gives
    (YieldsList-from_slice_split _ is_comma c.args.inner.now c.split-word-items.ensures.rest c.split-word-items.ensures.done c.split-word-items.ensures.closure (λ x b q k. search rules)))
    c.loop-word.yielded _ c.loop-word.yielded_by c.next.result _ c.in-None.is c.next.ensures.steps in
    record { answer = all_read c.loop-word.set _ _ c.loop-word.invariant end.1 ∙ all_roles-parts c.args.inner.now (omega arith) }
