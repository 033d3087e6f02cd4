-- A line that is written field by field.
use Rattle.std.proofs.Common.{◌≡◌, ℕ, ◌+◌, ◌<◌, List, [], ◌∷◌, ◌++◌, length, get_or, take, codes, decimal, sym, ap, ◌∙◌, append_assoc, append-nil}
use Rattle.std.proofs.lemmas.List.{take_more}
use Rattle.answer.specs.Listing.{fields_text}

fields_push : (fs : List ℕ) (f : ℕ) → fields_text (fs ++ (f ∷ [])) ≡ fields_text fs ++ (codes " " ++ decimal f)
fields_push [] f = ap (λ t. codes " " ++ t) (append-nil (decimal f))
fields_push (g ∷ fs) f =
    ap (λ t. codes " " ++ (decimal g ++ t)) (fields_push fs f)
    ∙ ap (λ t. codes " " ++ t) (sym (append_assoc (decimal g) (fields_text fs) (codes " " ++ decimal f)))

pub one_more : (head fields : List ℕ) (i : ℕ) → i < length fields
    → (head ++ fields_text (take i fields)) ++ (codes " " ++ decimal (get_or fields i 0)) ≡ head ++ fields_text (take (i + 1) fields)
one_more head fields i here =
    append_assoc head (fields_text (take i fields)) (codes " " ++ decimal (get_or fields i 0))
    ∙ ap (λ t. head ++ t) (sym (ap fields_text (take_more fields i 0 here) ∙ fields_push (take i fields) (get_or fields i 0)))
