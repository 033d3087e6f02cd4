use Rattle.std.proofs.Common.{◌≡◌, length, vec_items}
use Rattle.words.specs.Hex.{hex_bytes}
use Rattle.words.proofs.Hexes.{onto}
use Rattle.words.proofs.hex.hex_bytes.Given as goal

-- the bytes so far, and those of the digits to come, are the bytes of the word
abbrev pub invariant-loop-digits : goal.invariant-loop-digits
invariant-loop-digits l = onto (vec_items l.bytes) (hex_bytes l.digits) ≡ hex_bytes l.word

abbrev pub decreases-loop-digits : goal.decreases-loop-digits
decreases-loop-digits l = length l.digits
