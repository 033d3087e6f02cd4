-- Edges numbered over all locations.
use Rattle.std.proofs.Common.{◌≡◌, ℕ, zero, suc, ◌+◌, ◌<◌, ◌≤◌, List, [], ◌∷◌, map, min, length, get_or, take, sym, refl, ap, ◌∙◌, inl, inr, add_assoc, arith}
use Rattle.std.proofs.lemmas.List.{get_or-take, length-take, length-map}
use Rattle.std.proofs.lemmas.Bool.{cases_lt}
use Rattle.rows.specs.declared.row.TreeLine.{TreeLine}
use Rattle.layout.specs.declared.held.Table.{Table}
use Rattle.layout.specs.Held.{in_use}
use Rattle.layout.specs.Network.{TreeLines}
use Rattle.layout.specs.Zeros.{no_tree}
use Rattle.breaches.specs.Told.{edges_before}

suc_more : (ts : List (Table TreeLine 128)) (i : ℕ) → i < length ts → edges_before (map in_use ts) (suc i) ≡ edges_before (map in_use ts) i + length (in_use (get_or ts i no_tree))
suc_more [] i h = absurd (omega arith)
suc_more (t ∷ ts) zero h = let n : length (in_use t) + 0 ≡ 0 + length (in_use t) = omega arith in n
suc_more (t ∷ ts) (suc i) h =
    ap (λ (n : ℕ). length (in_use t) + n) (suc_more ts i (omega arith)) ∙ sym (add_assoc (length (in_use t)) (edges_before (map in_use ts) i) (length (in_use (get_or ts i no_tree))))

-- one location more
pub edges_more : (ts : List (Table TreeLine 128)) (m i : ℕ) → i < length (take m ts)
    → edges_before (map in_use ts) (i + 1) ≡ edges_before (map in_use ts) i + length (in_use (get_or (take m ts) i no_tree))
edges_more ts m i h =
    let l : length (take m ts) ≤ length ts = omega (arith, length-take m ts) in
    let k : length (take m ts) ≤ m = omega (arith, length-take m ts) in
    let e : i + 1 ≡ suc i = omega arith in
    ap (edges_before (map in_use ts)) e
    ∙ (suc_more ts i (omega arith) ∙ ap (λ (t : Table TreeLine 128). edges_before (map in_use ts) i + length (in_use t)) (sym (get_or-take m ts i no_tree (omega arith))))

edges_past : (xs : List TreeLines) (m n : ℕ) → length xs ≤ m → length xs ≤ n → edges_before xs m ≡ edges_before xs n
edges_past [] zero zero h l = refl
edges_past [] zero (suc n) h l = refl
edges_past [] (suc m) zero h l = refl
edges_past [] (suc m) (suc n) h l = refl
edges_past (x ∷ xs) zero n h l = absurd (omega arith)
edges_past (x ∷ xs) (suc m) zero h l = absurd (omega arith)
edges_past (x ∷ xs) (suc m) (suc n) h l = ap (λ (k : ℕ). length x + k) (edges_past xs m n (omega arith) (omega arith))

-- behind the last location nothing more is counted
pub edges_to : (ts : List (Table TreeLine 128)) (location i m : ℕ) → i ≡ length (take m ts) → m ≡ min location (length ts)
    → edges_before (map in_use ts) i ≡ edges_before (map in_use ts) location
edges_to ts location i m e f =
    let k = length-take m ts in elim (cases_lt location (length ts)) [
      | inl l ↦ let n : i ≡ location = omega arith in ap (edges_before (map in_use ts)) n
      | inr l ↦ edges_past (map in_use ts) i location (omega (arith, length-map ts (in_use {X = TreeLine} {n = 128}))) (omega (arith, length-map ts (in_use {X = TreeLine} {n = 128})))
    ]
