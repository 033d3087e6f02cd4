use Rattle.rights.specs.Orders.{says_among}
use Rattle.rights.proofs.bringing.test_says_among.Goals as goal

pub returns : goal.returns
returns c = record { law = says_among }
