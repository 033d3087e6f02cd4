-- All of the laws.
use Rattle.std.proofs.Common.{sym, subst}
use Rattle.layout.proofs.Back.{holds_network}
use Rattle.keeping.specs.Keeping.{HoldsSound, KeepingLaws}
use Rattle.keeping.proofs.Calling.{post_kept, recall_kept, step_kept}
use Rattle.keeping.proofs.Reading.{sound_holds, no_place, audit_quiet, admitted_sound}
use Rattle.keeping.proofs.Stored.{sound_tables}

pub keeping_laws : KeepingLaws
keeping_laws = record {
  held = sound_holds;
  sound = λ count top below t n w. sound_tables count top below t n w.holds w.sound;
  same = λ count top below t n w. holds_network t n w.holds;
  read = λ count top below t n w. subst (HoldsSound count top below t) (sym (holds_network t n w.holds)) w;
  shape = λ count top below t n w. no_place count top below w.sound.lawful t (sound_tables count top below t n w.holds w.sound).1;
  audit = λ count top below t n w. audit_quiet count top below w.sound.lawful t (sound_tables count top below t n w.holds w.sound).1;
  admitted = λ count top below law t z w. sound_holds count top below law t z (admitted_sound count top below t w);
  post = post_kept;
  recall = recall_kept;
  step = step_kept;
}
