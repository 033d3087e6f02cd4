use Rattle.std.proofs.Common.{arith}
use Rattle.tables.proofs.Promises.{loads_refused, loads_filed}
use Rattle.tables.proofs.Readings.{reads_in_one_way}
use Rattle.tables.proofs.loading.load.Goals as goal

pub returns-in-Err : goal.returns-in-Err
returns-in-Err c =
    let sheet = c.args.sheet.now in
    record {
      reads = reads_in_one_way sheet (λ i. omega (arith, c.type_inv.sheet i));
      loads = λ fs end reads. loads_refused _ sheet fs end _ _ _ (c.in-Err.ensures.answer fs end reads) c.blank-in-Err.ensures.answer;
      holds = c.blank-in-Err.ensures.answer;
    }

pub returns-in-Ok : goal.returns-in-Ok
returns-in-Ok c =
    let sheet = c.args.sheet.now in
    record {
      reads = reads_in_one_way sheet (λ i. omega (arith, c.type_inv.sheet i));
      loads = λ fs end reads. loads_filed c.args.blank sheet fs end _ _ (c.in-Ok.ensures.answer fs end reads);
      holds = c.in-Ok.ensures.holds;
    }
