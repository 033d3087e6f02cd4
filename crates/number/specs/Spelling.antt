-- How a number is spelled: in groups of seven bits, the lowest first, with 128 added to every byte but the last, in the
-- fewest bytes. A text is a list of bytes.
use Rattle.std.specs.Prelude.{ℕ, zero, suc, ◌+◌, ◌-◌, ◌*◌, ◌/◌, ◌%◌, ◌^◌, cond, List, [], ◌∷◌, drop, Ok, Err, Result, ◌==◌, nat_lt}
use Rattle.number.specs.declared.fault.Cause.{Cause}
use Rattle.number.specs.declared.fault.Cause.TheVariants.{Ends, TooLarge}
use Rattle.number.specs.declared.fault.ReadFault.{ReadFault}
use Rattle.number.specs.declared.reading.Number.{Number}
use Rattle.number.specs.declared.reading.Width.{Width}
use Rattle.number.specs.declared.reading.Width.TheVariants.{Narrow, Wide}

-- the largest number of each width
abbrev pub limit_of : Width → ℕ
limit_of Narrow = 2 ^ 32 - 1
limit_of Wide = 2 ^ 64 - 1

-- a number, and where the bytes behind it begin
abbrev pub found : ℕ → ℕ → Result Number ReadFault
found v n = Ok (record { value = v; next = n })

abbrev pub fault_at : Cause → ℕ → Result Number ReadFault
fault_at c b = Err (record { cause = c; byte = b })

-- behind other groups a last byte 0 is one byte too many
abbrev pub behind : Result Number ReadFault → Result Number ReadFault
behind (Ok n) = cond (n.value == 0) (fault_at TooLarge 0) (Ok n)
behind (Err f) = Err f

-- a number with one group of seven bits more in front
abbrev pub grouped : ℕ → Result Number ReadFault → Result Number ReadFault
grouped low (Ok n) = found (low + 128 * n.value) (n.next + 1)
grouped low (Err f) = fault_at f.cause (f.byte + 1)

-- The number that the text begins with, if it is no larger than the limit; else the fault, at the byte that settles it.
-- A byte of 128 and more stands for the group b - 128, and the bytes behind it for at least 1 · 128: so b itself is the
-- least number that can still come, and where b passes the limit no byte behind it can help.
abbrev pub number : ℕ → List ℕ → Result Number ReadFault
number limit [] = fault_at Ends 0
number limit (b ∷ bs) =
    cond (nat_lt limit b) (fault_at TooLarge 0)
    (cond (nat_lt b 128) (found b 1) (grouped (b - 128) (behind (number ((limit - (b - 128)) / 128) bs))))

-- places counted from an earlier one
abbrev pub from : ℕ → Result Number ReadFault → Result Number ReadFault
from place (Ok n) = found n.value (place + n.next)
from place (Err f) = fault_at f.cause (place + f.byte)

-- the number that stands at a place of the text
abbrev pub read_number : ℕ → ℕ → List ℕ → Result Number ReadFault
read_number limit place bytes = from place (number limit (drop place bytes))

-- the bytes of a number; the first argument bounds their count, and Laws says what they are without it
unfoldable pub encode_in : ℕ → ℕ → List ℕ
encode_in zero n = n ∷ []
encode_in (suc most) n = cond (nat_lt n 128) (n ∷ []) ((n % 128 + 128) ∷ encode_in most (n / 128))

abbrev pub encode : ℕ → List ℕ
encode n = encode_in n n
