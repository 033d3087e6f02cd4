-- The laws of changes as one record.
use Rattle.replacing.specs.ChangeLaws.{ChangeLaws}
use Rattle.replacing.proofs.Sound.{sound, not_deep, part, matched, filled_sound, changed_sound}
use Rattle.replacing.proofs.Contents.{content_sound}
use Rattle.replacing.proofs.Granted.{allowed}
use Rattle.replacing.proofs.OneTemplate.{one_template}
use Rattle.replacing.proofs.Untouched.{untouched}

pub change_laws : ChangeLaws
change_laws = record {
  sound = sound;
  stands = not_deep;
  part = part;
  matched = λ below s least jobs policy t top all set w m l. matched below s least jobs policy t top all set w m l;
  filled = λ below s least jobs policy hold set t w. filled_sound below s least jobs policy hold set t w;
  change = λ below s least jobs policy flags given t after w p c. changed_sound below s least jobs policy flags given t after w p c;
  allowed = λ s below law p policy path row m slots hold c t flags after a w d. allowed s below law p policy path row m slots hold c t flags a w after d;
  templates = one_template;
  untouched = untouched;
  content = λ s below law p policy above set slots hold c jobs w t holds f o l. content_sound s below law p jobs policy slots hold holds above set c w t f o l;
}
