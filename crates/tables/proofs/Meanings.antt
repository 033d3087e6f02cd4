-- The first fault is told, and everything before it is filed.
use Rattle.std.proofs.Common.{◌≡◌, ℕ, ◌+◌, Bool, true, false, cond, List, [], ◌∷◌, ◌++◌, length, Some, None, Ok, Err, Option, sym, refl, ap, ◌∙◌, subst}
use Rattle.std.proofs.lemmas.List.{append-nil, append_assoc, length-append}
use Rattle.number.specs.declared.fault.ReadFault.{ReadFault}
use Rattle.layout.specs.Network.{Network, empty}
use Rattle.filing.specs.declared.decoded.Row.{Row}
use Rattle.filing.specs.declared.placing.Before.{Before}
use Rattle.filing.specs.declared.placing.Misplaced.TheVariants as misplaced
use Rattle.filing.specs.Filing.{none_before, in_place, has_room, filed, behind}
use Rattle.tables.specs.Loading.{line_filed, and_then, loaded}
use Rattle.tables.specs.Meaning.{Files, Passes, Means}

one_more : (b c : Before) (n m : Network) (ahead : List Row) (row : Row) → Files b n ahead c m → in_place c m row ≡ true → has_room m row ≡ true
    → Files b n (ahead ++ row ∷ []) (behind c row) (filed m row)
one_more b c n m [] row f p r = (
  ap (λ (x : Before). in_place x n row) f.0 ∙ ap (λ (x : Network). in_place c x row) f.1 ∙ p,
  ap (λ (x : Network). has_room x row) f.1 ∙ r,
  (ap (λ (x : Before). behind x row) f.0, ap (λ (x : Network). filed x row) f.1),
)
one_more b c n m (first ∷ ahead) row f p r = (f.0, f.1, one_more (behind b first) c (filed n first) m ahead row f.2 p r)

all_filed : (rows ahead : List Row) (b : Before) (n : Network) → rows ≡ ahead ++ [] → Files none_before empty ahead b n → Passes rows n
all_filed rows ahead b n e f =
    record { after = b; files = subst (λ (l : List Row). Files none_before empty l b n) (sym (e ∙ append-nil ahead)) f }

all_counted : (rows ahead : List Row) (line : ℕ) → rows ≡ ahead ++ [] → length ahead ≡ line → length rows ≡ line
all_counted rows ahead line e c = ap (λ (l : List Row). length l) (e ∙ append-nil ahead) ∙ c

-- one row, by whether it is in its place and has room
at_row : (rows ahead left : List Row) (line : ℕ) (b : Before) (n : Network) (row : Row) (end : Option ReadFault) (place room : Bool)
    → rows ≡ ahead ++ row ∷ left → length ahead ≡ line → Files none_before empty ahead b n → in_place b n row ≡ place → has_room n row ≡ room
    → (Files none_before empty (ahead ++ row ∷ []) (behind b row) (filed n row) → Means rows end (loaded (line + 1) (behind b row) (filed n row) left end))
    → Means rows end (and_then (line_filed line (cond place (cond room (Ok (behind b row)) (Err misplaced.Full)) (Err misplaced.OutOfPlace))) (λ after. loaded (line + 1) after (filed n row) left end))
at_row rows ahead left line b n row end true true e c f p r on = on (one_more none_before b empty n ahead row f p r)
at_row rows ahead left line b n row end true false e c f p r on =
    (b, n, row, record { ahead = ahead; rest = left; parts = e; count = c; files = f }, p, r)
at_row rows ahead left line b n row end false room e c f p r on =
    (b, n, row, record { ahead = ahead; rest = left; parts = e; count = c; files = f }, p)

from-here : (rows ahead left : List Row) (line : ℕ) (b : Before) (n : Network) (end : Option ReadFault)
    → rows ≡ ahead ++ left → length ahead ≡ line → Files none_before empty ahead b n → Means rows end (loaded line b n left end)
from-here rows ahead [] line b n None e c f = (refl, all_filed rows ahead b n e f)
from-here rows ahead [] line b n (Some fault) e c f = (refl, all_counted rows ahead line e c, (n, all_filed rows ahead b n e f))
from-here rows ahead (row ∷ left) line b n end e c f =
    at_row rows ahead left line b n row end (in_place b n row) (has_room n row) e c f refl refl
    (from-here rows (ahead ++ row ∷ []) left (line + 1) (behind b row) (filed n row) end
    (e ∙ sym (append_assoc ahead (row ∷ []) left)) (length-append ahead (row ∷ []) ∙ ap (λ (k : ℕ). k + 1) c))

pub means : (rows : List Row) (end : Option ReadFault) → Means rows end (loaded 0 none_before empty rows end)
means rows end = from-here rows [] rows 0 none_before empty end refl refl (refl, refl)
