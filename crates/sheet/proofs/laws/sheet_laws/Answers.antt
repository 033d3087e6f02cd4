use Rattle.sheet.proofs.Whole.{sheet_laws}
use Rattle.sheet.proofs.laws.sheet_laws.Goals as goal

pub returns : goal.returns
returns c = record { laws = sheet_laws }
