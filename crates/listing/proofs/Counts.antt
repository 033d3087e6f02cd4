-- Each line that is told is counted.
use Rattle.std.proofs.Common.{◌≡◌, ℕ, ◌+◌, Some, None, Ok, Err, Option, Result, String, Continue, refl}
use Rattle.std.specs.declared.alloc.Global.{Global}
use Rattle.number.specs.declared.fault.ReadFault.{ReadFault}
use Rattle.listing.specs.Listings.{Seen, Tells, count_after}

pub counted : (line : ℕ) (seen : Result (Option Seen) ReadFault) (text : String Global) → Tells line seen (Continue text) → count_after line seen ≡ line + 1
counted line (Ok (Some seen)) text told = refl
counted line (Ok None) text told = absurd (cc)
counted line (Err f) text told = absurd (cc)
