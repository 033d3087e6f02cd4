-- The flagged rows, as far as a pass over the lines has come.
use Rattle.std.proofs.Common.{◌≡◌, ℕ, zero, suc, ◌+◌, ◌<◌, ◌≤◌, Bool, true, false, cond, List, [], ◌∷◌, ◌++◌, length, take, get_or, refl, sym, ap, ◌∙◌, append-nil, ◌⊎◌, inl, inr, arith}
use Rattle.std.proofs.lemmas.List.{get_or_past, length-take}
use Rattle.std.proofs.lemmas.Bool.{cases_lt}
use Rattle.edges.specs.Rows.{rows_from, flagged_rows}
use Rattle.edges.proofs.FlaggedRows.{row_laws}
use Rattle.layout.specs.Network.{TreeLines}
use Rattle.successors.specs.Successors.{FlagsOf}

from_more : (row : ℕ) (flags : List Bool) (i : ℕ) → i < length flags
    → rows_from row (take (suc i) flags) ≡ rows_from row (take i flags) ++ cond (get_or flags i false) ((row + i) ∷ []) []
from_more row [] i h = absurd (omega arith)
from_more row (true ∷ flags) zero h = let e : row ≡ row + 0 = omega arith in ap (λ (r : ℕ). r ∷ []) e
from_more row (false ∷ flags) zero h = refl
from_more row (true ∷ flags) (suc i) h =
    let e : row + 1 + i ≡ row + suc i = omega arith in
    ap (λ rows. row ∷ rows) (from_more (row + 1) flags i (omega arith) ∙ ap (λ (r : ℕ). rows_from (row + 1) (take i flags) ++ cond (get_or flags i false) (r ∷ []) []) e)
from_more row (false ∷ flags) (suc i) h =
    let e : row + 1 + i ≡ row + suc i = omega arith in
    from_more (row + 1) flags i (omega arith) ∙ ap (λ (r : ℕ). rows_from (row + 1) (take i flags) ++ cond (get_or flags i false) (r ∷ []) []) e

abbrev pub so_far : List Bool → ℕ → List ℕ
so_far flags i = flagged_rows (take i flags)

next_flag : (flags : List Bool) (i : ℕ) → i < length flags → so_far flags (i + 1) ≡ so_far flags i ++ cond (get_or flags i false) (i ∷ []) []
next_flag flags i h =
    let n : i + 1 ≡ suc i = omega arith in
    let z : 0 + i ≡ i = omega arith in
    ap (so_far flags) n ∙ from_more 0 flags i h ∙ ap (λ (r : ℕ). so_far flags i ++ cond (get_or flags i false) (r ∷ []) []) z

pub one_more : (flags : List Bool) (i : ℕ) → i < length flags → get_or flags i false ≡ true → so_far flags (i + 1) ≡ so_far flags i ++ (i ∷ [])
one_more flags i h e = next_flag flags i h ∙ ap (λ (b : Bool). so_far flags i ++ cond b (i ∷ []) []) e

pub none_more : (flags : List Bool) (i : ℕ) → i < length flags → get_or flags i false ≡ false → so_far flags (i + 1) ≡ so_far flags i
none_more flags i h e = next_flag flags i h ∙ ap (λ (b : Bool). so_far flags i ++ cond b (i ∷ []) []) e ∙ append-nil (so_far flags i)

get_or_take : (flags : List Bool) (m i : ℕ) → i < m → get_or (take m flags) i false ≡ get_or flags i false
get_or_take [] zero i h = absurd (omega arith)
get_or_take [] (suc m) i h = refl
get_or_take (b ∷ flags) zero i h = absurd (omega arith)
get_or_take (b ∷ flags) (suc m) zero h = refl
get_or_take (b ∷ flags) (suc m) (suc i) h = get_or_take flags m i (omega arith)

pub all_flagged : (tree : TreeLines) (flags : List Bool) → FlagsOf tree flags → so_far flags (length tree) ≡ flagged_rows flags
all_flagged tree flags beyond = row_laws.agree (take (length tree) flags) flags same
  where
    at : (i : ℕ) → i < length tree ⊎ length tree ≤ i → get_or (take (length tree) flags) i false ≡ get_or flags i false
    at i (inl h) = get_or_take flags (length tree) i h
    at i (inr h) = get_or_past (take (length tree) flags) i false (omega (arith, length-take (length tree) flags)) ∙ sym (beyond i h)

    same : (i : ℕ) → get_or (take (length tree) flags) i false ≡ get_or flags i false
    same i = at i (cases_lt i (length tree))

few_from : (row : ℕ) (flags : List Bool) → length (rows_from row flags) ≤ length flags
few_from row [] = omega arith
few_from row (true ∷ flags) = omega (arith, few_from (row + 1) flags)
few_from row (false ∷ flags) = omega (arith, few_from (row + 1) flags)

pub few_so_far : (flags : List Bool) (i : ℕ) → length (so_far flags i) ≤ i
few_so_far flags i = omega (arith, few_from 0 (take i flags), length-take i flags)
