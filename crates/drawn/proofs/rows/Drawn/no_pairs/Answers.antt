use Rattle.drawn.proofs.Fresh.{fresh_is, fresh_refl, fresh_trans, fresh_topmost}
use Rattle.drawn.proofs.rows.Drawn.no_pairs.Goals as goal

pub invariant_of-result : goal.invariant_of-result
invariant_of-result c =
    let rows = c.fresh_rows.result in
    let bits = c.fresh_rows.ensures.answer in
    record { reflexive = fresh_refl rows bits; transitive = ∣ fresh_trans rows bits ∣₁; topmost = fresh_topmost rows bits }

pub returns : goal.returns
returns c = record { answer = fresh_is c.fresh_rows.result c.fresh_rows.ensures.answer }
