use Rattle.std.proofs.Common.{rules, codes, arith, refl}
use Rattle.std.proofs.lemmas.Slice.Eq.{text_from_reads}
use Rattle.words.proofs.named.order_of.Goals as goal

pub returns-in-rights : goal.returns-in-rights
returns-in-rights c =
    let h = c.in-rights in
    rw (text_from_reads c.args.word.now (codes "rights") (omega arith) (search rules)) (record { answer = refl })
