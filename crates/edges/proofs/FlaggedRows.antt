-- The rows that are flagged, and how many they are.
use Rattle.std.proofs.Common.{◌≡◌, ℕ, zero, suc, ◌+◌, ◌-◌, ◌<◌, ◌≤◌, Bool, true, false, List, [], ◌∷◌, length, count_by, get_or, sym, refl, ap, ◌∙◌, subst, arith}
use Rattle.std.specs.List.{filter}
use Rattle.std.proofs.lemmas.Bool.{both_ways}
use Rattle.std.proofs.lemmas.List.Sums.{length-filter}
use Rattle.edges.specs.Rows.{rows_from, flagged_rows, flagged_count}
use Rattle.edges.specs.EdgeLaws.{RowLaws}

-- ---- how many

set_from : (row : ℕ) (flags : List Bool) → length (filter (λ (flag : Bool). flag) flags) ≡ length (rows_from row flags)
set_from row [] = refl
set_from row (true ∷ flags) = ap suc (set_from (row + 1) flags)
set_from row (false ∷ flags) = set_from (row + 1) flags

pub count_flagged : (flags : List Bool) → count_by (λ (flag : Bool). flag) flags ≡ flagged_count flags
count_flagged flags = sym (length-filter (λ (flag : Bool). flag) flags) ∙ set_from 0 flags

-- ---- which

-- number k of the rows, where the flags begin at this row
abbrev from : ℕ → List Bool → ℕ → ℕ
from row flags k = get_or (rows_from row flags) k 0

-- the flag of this row
abbrev flag_of : ℕ → List Bool → ℕ → Bool
flag_of row flags x = get_or flags (x - row) false

behind : (row : ℕ) (flag : Bool) (flags : List Bool) (x : ℕ) → row + 1 ≤ x → flag_of (row + 1) flags x ≡ true → flag_of row (flag ∷ flags) x ≡ true
behind row flag flags x h e =
    let q : x - row ≡ suc (x - (row + 1)) = omega arith in
    subst (λ (n : ℕ). get_or (flag ∷ flags) n false ≡ true) (sym q) e

-- each of them is flagged, and none is before the first
each_from : (row : ℕ) (flags : List Bool) (k : ℕ) → k < length (rows_from row flags) → (row ≤ from row flags k) × (flag_of row flags (from row flags k) ≡ true)
each_from row [] k h = absurd (omega arith)
each_from row (true ∷ flags) zero h = let q : row - row ≡ 0 = omega arith in (omega arith, ap (λ (n : ℕ). get_or (true ∷ flags) n false) q)
each_from row (true ∷ flags) (suc k) h = let w = each_from (row + 1) flags k (omega arith) in (omega (arith, w.0), behind row true flags _ w.0 w.1)
each_from row (false ∷ flags) k h = let w = each_from (row + 1) flags k h in (omega (arith, w.0), behind row false flags _ w.0 w.1)

ascend_from : (row : ℕ) (flags : List Bool) (j k : ℕ) → j < k → k < length (rows_from row flags) → from row flags j < from row flags k
ascend_from row [] j k l h = absurd (omega arith)
ascend_from row (true ∷ flags) j zero l h = absurd (omega arith)
ascend_from row (true ∷ flags) zero (suc k) l h = let w = each_from (row + 1) flags k (omega arith) in omega (arith, w.0)
ascend_from row (true ∷ flags) (suc j) (suc k) l h = ascend_from (row + 1) flags j k (omega arith) (omega arith)
ascend_from row (false ∷ flags) j k l h = ascend_from (row + 1) flags j k l h

-- each flagged row is among them
among_from : (row : ℕ) (flags : List Bool) (i : ℕ) → get_or flags i false ≡ true → (k : ℕ) × (k < length (rows_from row flags)) × (from row flags k ≡ row + i)
among_from row [] i e = absurd (both_ways false refl e)
among_from row (true ∷ flags) zero e = (0, omega arith, omega arith)
among_from row (true ∷ flags) (suc i) e = let w = among_from (row + 1) flags i e in (suc (w.0), omega (arith, w.1), omega (arith, w.2))
among_from row (false ∷ flags) zero e = absurd (both_ways false refl e)
among_from row (false ∷ flags) (suc i) e = let w = among_from (row + 1) flags i e in (w.0, w.1, omega (arith, w.2))

-- flags that agree at every row name the same rows
agree_from : (row : ℕ) (a b : List Bool) → ((i : ℕ) → get_or a i false ≡ get_or b i false) → rows_from row a ≡ rows_from row b
agree_from row [] [] e = refl
agree_from row [] (true ∷ b) e = absurd (both_ways false refl (e 0))
agree_from row [] (false ∷ b) e = agree_from (row + 1) [] b (λ i. e (suc i))
agree_from row (true ∷ a) [] e = absurd (both_ways false refl (sym (e 0)))
agree_from row (false ∷ a) [] e = agree_from (row + 1) a [] (λ i. e (suc i))
agree_from row (true ∷ a) (true ∷ b) e = ap (λ (rows : List ℕ). row ∷ rows) (agree_from (row + 1) a b (λ i. e (suc i)))
agree_from row (false ∷ a) (false ∷ b) e = agree_from (row + 1) a b (λ i. e (suc i))
agree_from row (true ∷ a) (false ∷ b) e = absurd (both_ways false refl (sym (e 0)))
agree_from row (false ∷ a) (true ∷ b) e = absurd (both_ways false refl (e 0))

pub row_laws : RowLaws
row_laws = record { ascend = ascend_from 0; flagged = flagged; among = among; agree = agree_from 0 }
  where
    flagged : (flags : List Bool) (k : ℕ) → k < flagged_count flags → get_or flags (get_or (flagged_rows flags) k 0) false ≡ true
    flagged flags k h =
        let q : from 0 flags k - 0 ≡ from 0 flags k = omega arith in
        subst (λ (n : ℕ). get_or flags n false ≡ true) q (each_from 0 flags k h).1

    among : (flags : List Bool) (row : ℕ) → get_or flags row false ≡ true → (k : ℕ) × (k < flagged_count flags) × (get_or (flagged_rows flags) k 0 ≡ row)
    among flags row e = let w = among_from 0 flags row e in (w.0, w.1, omega (arith, w.2))
