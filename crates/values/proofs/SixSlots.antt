-- What six slots hold, slot by slot.
use Rattle.std.proofs.Common.{◌≡◌, ℕ, zero, suc, ◌+◌, ◌≤◌, List, [], ◌∷◌, length, ap, sym, arith}
use Rattle.std.proofs.lemmas.List.{get_or_past}
use Rattle.layout.specs.declared.memory.Slot.{Slot}
use Rattle.layout.specs.Network.{TreeLines, Plan}
use Rattle.layout.specs.Zeros.{slot0}
use Rattle.slots.specs.Slots.{part_by}
use Rattle.replacing.specs.Pasting.{plain}
use Rattle.changes.specs.declared.paste.Paste.{Paste}
use Rattle.changes.specs.Pastes.{pasted_of, held}
use Rattle.reduction.specs.Values.{slot_at, held_as, held_in}

module _ (p : Plan) (shelf : List TreeLines) (slots : List Slot) (six : length slots ≡ 6) where
  past : (k : ℕ) → 6 ≤ k → held_in p shelf slots k ≡ plain 0 0 0
  past k h =
      ap (λ (x : Slot). held_as shelf (part_by p.patterns x.pattern k) x.value (slot_at slots (k + 1)).value) (get_or_past slots k slot0 (omega arith))

  pub each_held : (a b c d e f : Paste) → pasted_of a ≡ held_in p shelf slots 0 → pasted_of b ≡ held_in p shelf slots 1 → pasted_of c ≡ held_in p shelf slots 2
      → pasted_of d ≡ held_in p shelf slots 3 → pasted_of e ≡ held_in p shelf slots 4 → pasted_of f ≡ held_in p shelf slots 5
      → (k : ℕ) → held (a ∷ b ∷ c ∷ d ∷ e ∷ f ∷ []) k ≡ held_in p shelf slots k
  each_held a b c d e f h0 h1 h2 h3 h4 h5 zero = h0
  each_held a b c d e f h0 h1 h2 h3 h4 h5 (suc zero) = h1
  each_held a b c d e f h0 h1 h2 h3 h4 h5 (suc (suc zero)) = h2
  each_held a b c d e f h0 h1 h2 h3 h4 h5 (suc (suc (suc zero))) = h3
  each_held a b c d e f h0 h1 h2 h3 h4 h5 (suc (suc (suc (suc zero)))) = h4
  each_held a b c d e f h0 h1 h2 h3 h4 h5 (suc (suc (suc (suc (suc zero))))) = h5
  each_held a b c d e f h0 h1 h2 h3 h4 h5 (suc (suc (suc (suc (suc (suc k)))))) = sym (past (suc (suc (suc (suc (suc (suc k)))))) (omega arith))
