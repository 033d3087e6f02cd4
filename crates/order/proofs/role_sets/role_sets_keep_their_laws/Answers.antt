use Rattle.order.proofs.Keep.{membership}
use Rattle.order.proofs.Sets.{sets_ordered}
use Rattle.order.proofs.Tests.{Decides-some_below, Decides-set_below, Decides-opens, Decides-in_use}
use Rattle.order.proofs.role_sets.role_sets_keep_their_laws.Goals as goal

pub returns : goal.returns
returns c = record {
  laws = record {
    ordered = λ count top below laws. sets_ordered laws;
    decided = λ count below. record {
      some_below = Decides-some_below below;
      set_below = Decides-set_below below;
      opens = Decides-opens below;
      in_use = Decides-in_use count;
    };
    membership = membership;
  };
}
