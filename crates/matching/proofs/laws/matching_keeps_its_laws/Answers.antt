use Rattle.matching.proofs.Growing.{value_grows, slots_grow, empty}
use Rattle.matching.proofs.laws.matching_keeps_its_laws.Goals as goal

pub returns : goal.returns
returns c = record { laws = record { value_grows = value_grows; slots_grow = slots_grow; empty = empty } }
