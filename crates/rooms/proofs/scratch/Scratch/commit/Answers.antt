use Rattle.rooms.proofs.Committing.{committed}
use Rattle.rooms.proofs.scratch.Scratch.commit.Goals as goal

pub returns : goal.returns
returns c = record { after = λ n a h e none. committed c.args.tables.now c.write.new.tables c.args.location c.args.self.now n a c.write.ensures.after h e none }
