use Rattle.std.proofs.Common.{◌≡◌, ◌≤◌, drop}
use Rattle.words.proofs.Numbers.{scan}
use Rattle.words.proofs.spelled.wide.Given as goal

abbrev pub invariant-loop-byte : goal.invariant-loop-byte
invariant-loop-byte l = (l.value ≤ 18446744073709551615) × (scan 18446744073709551615 l.value (drop l.byte-index l.word) ≡ scan 18446744073709551615 0 l.word)
