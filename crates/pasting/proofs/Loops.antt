-- One line more that passes.
use Rattle.std.proofs.Common.{◌≡◌, ℕ, ◌+◌, ◌<◌, Bool, true, ◌&&◌, List, length, get_or, take, ap, ◌∙◌}
use Rattle.std.specs.List.{list_all}
use Rattle.std.proofs.lemmas.List.Folds.{list_all_more}

pub passes_more : {X : Type 0} (p : X → Bool) (xs : List X) (i : ℕ) (z : X) → i < length xs → list_all p (take i xs) ≡ true → p (get_or xs i z) ≡ true → list_all p (take (i + 1) xs) ≡ true
passes_more p xs i z h before here = list_all_more p xs i z h ∙ (ap (λ (b : Bool). b && p (get_or xs i z)) before ∙ here)
