use Rattle.std.proofs.Common.{length, ap, ◌∙◌, arith}
use Rattle.listing.proofs.Counts.{counted}
use Rattle.console.proofs.list.Goals as goal

pub loop-text-smaller : goal.loop-text-smaller
loop-text-smaller c =
    let told = rw c.in-Continue.is at c.in_ok-text.ensures.answer in
    let more = c.next.ensures.count ∙ counted _ _ c.in-Continue.text told in
    let same = ap length c.next.ensures.same in
    let few = c.next.new.self.few in
    let ordered = c.next.new.self.reader.ordered in
    let inside = c.next.new.self.reader.inside in
    omega arith
