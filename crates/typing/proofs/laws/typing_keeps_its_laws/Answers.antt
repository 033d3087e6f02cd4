use Rattle.std.proofs.Common.{subst}
use Rattle.layout.specs.Network.{Plan}
use Rattle.meaning.specs.declared.verbs.Verb.TheVariants as verb
use Rattle.typing.specs.Typing.{Typed}
use Rattle.typing.proofs.Inversions.{parts, at_go, at_run, at_read, at_change, at_enable, at_disable, meant}
use Rattle.typing.proofs.laws.typing_keeps_its_laws.Goals as goal

pub returns : goal.returns
returns c = record {
  laws = record {
    fork = λ below p s c other w e. ((parts below p w (verb.Fork other) e).next, (parts below p w (verb.Fork other) e).other);
    go = at_go;
    run = at_run;
    read = at_read;
    change = at_change;
    enable = at_enable;
    disable = at_disable;
    rules = λ below p s c v w e. (parts below p w v e).asks;
    means = meant;
    stays = λ below n m e s c w. subst (λ (p : Plan). Typed below p s c) e w;
  };
}
