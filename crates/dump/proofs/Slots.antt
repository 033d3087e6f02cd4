-- The slots of a running job, written one by one.
use Rattle.std.proofs.Common.{◌≡◌, ℕ, zero, suc, ◌+◌, ◌<◌, List, [], ◌∷◌, ◌++◌, length, get_or, take, ap, sym, ◌∙◌, append_assoc, append-nil, arith}
use Rattle.layout.specs.declared.memory.Slot.{Slot}
use Rattle.dump.specs.Dumping.{slot_text, slots_text}

slots_on : (k n : ℕ) (slots : List Slot) (d : Slot) → n < length slots → slots_text k (take (suc n) slots) ≡ slots_text k (take n slots) ++ slot_text (k + n) (get_or slots n d)
slots_on k n [] d h = absurd (omega arith)
slots_on k zero (s ∷ slots) d h = let e : k ≡ k + 0 = omega arith in append-nil (slot_text k s) ∙ ap (λ m. slot_text m s) e
slots_on k (suc n) (s ∷ slots) d h =
    let e : (k + 1) + n ≡ k + suc n = omega arith in
    ap (λ t. slot_text k s ++ t) (slots_on (k + 1) n slots d (omega arith) ∙ ap (λ m. slots_text (k + 1) (take n slots) ++ slot_text m (get_or slots n d)) e)
    ∙ sym (append_assoc (slot_text k s) (slots_text (k + 1) (take n slots)) (slot_text (k + suc n) (get_or slots n d)))

-- one slot more
pub slots_more : (slots : List Slot) (n : ℕ) (d : Slot) → n < length slots → slots_text 0 (take n slots) ++ slot_text n (get_or slots n d) ≡ slots_text 0 (take (n + 1) slots)
slots_more slots n d h =
    let e : suc n ≡ n + 1 = omega arith in
    let none : n ≡ 0 + n = omega arith in
    ap (λ m. slots_text 0 (take n slots) ++ slot_text m (get_or slots n d)) none ∙ sym (slots_on 0 n slots d h) ∙ ap (λ m. slots_text 0 (take m slots)) e
