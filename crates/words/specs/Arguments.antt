-- Words that are read one after the other.
use Rattle.std.specs.Prelude.{◌≡◌, ◌+◌, OnOk, Result}
use Rattle.words.specs.declared.argument.Arguments.{Arguments}

-- The words stay as they are, and a word that was read is behind.
abbrev pub Passes : {A E : Type 0} → Arguments → Arguments → Result A E → Type 0
Passes before after r = (after.words.now ≡ before.words.now) × OnOk r (after.place ≡ before.place + 1)
