use Rattle.quiet.proofs.Networks.{typed_quiet, network_quiet, all_running_quiet}
use Rattle.quiet.proofs.Patterns.{match_passes}
use Rattle.quiet.proofs.Sets.{set_passes}
use Rattle.quiet.proofs.Trees.{tree_quiet}
use Rattle.quiet.proofs.laws.nothing_is_told_of_what_obeys.Goals as goal

pub returns : goal.returns
returns c = record {
  laws = record {
    sets = λ count top below law. set_passes law;
    trees = λ count top below law. tree_quiet law;
    matches = λ count top below law. match_passes law;
    commands = λ count top below law p s c w. typed_quiet law p w;
    network = λ count top below law. network_quiet law;
    running = λ count top below law. all_running_quiet law;
  };
}
