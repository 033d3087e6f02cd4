use Rattle.number.proofs.Encodings.{one_spelling}
use Rattle.number.proofs.reading.one_spelling.Goals as goal

pub returns : goal.returns
returns c = record { laws = one_spelling }
