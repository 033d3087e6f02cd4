-- Slots one by one.
use Rattle.std.proofs.Common.{◌≡◌, ℕ, ◌+◌, ◌<◌, Bool, true, ◌&&◌, List, length, get_or, drop, ap, ◌∙◌}
use Rattle.std.proofs.lemmas.List.{drop_more}
use Rattle.layout.specs.declared.memory.Slot.{Slot}
use Rattle.layout.specs.Network.{TreeLines, Plan}
use Rattle.layout.specs.Zeros.{slot0}
use Rattle.matching.specs.Matching.{slot_matches, slots_match}

-- a slot that matches leaves those behind it
pub slots_next : (below : ℕ → ℕ → Bool) (p : Plan) (shelf : List TreeLines) (xs : List Slot) (i : ℕ) → i < length xs → slot_matches below p shelf i (get_or xs i slot0) ≡ true
    → slots_match below p shelf i (drop i xs) ≡ slots_match below p shelf (i + 1) (drop (i + 1) xs)
slots_next below p shelf xs i h e =
    ap (slots_match below p shelf i) (drop_more xs i slot0 h) ∙ ap (λ (b : Bool). b && slots_match below p shelf (i + 1) (drop (i + 1) xs)) e
