-- Trees put further down, piece by piece.
use Rattle.std.proofs.Common.{◌≡◌, ℕ, ◌+◌, [], ◌∷◌, ◌++◌, refl, ap, ◌∙◌, arith}
use Rattle.rows.specs.declared.row.TreeLine.{TreeLine}
use Rattle.layout.specs.Network.{TreeLines}
use Rattle.obeying.specs.TreeLaws.{at_depth, lowered}
use Rattle.replacing.specs.Pasting.{Pasted, placed, line_content, filled}

pub lowered-append : (n : ℕ) (xs ys : TreeLines) → lowered n (xs ++ ys) ≡ lowered n xs ++ lowered n ys
lowered-append n [] ys = refl
lowered-append n (x ∷ xs) ys = ap (λ (zs : TreeLines). at_depth x (x.depth + n) ∷ zs) (lowered-append n xs ys)

pub lowered-lowered : (a b : ℕ) (xs : TreeLines) → lowered a (lowered b xs) ≡ lowered (b + a) xs
lowered-lowered a b [] = refl
lowered-lowered a b (x ∷ xs) =
    let deep : x.depth + b + a ≡ x.depth + (b + a) = omega arith in
    λ i. at_depth x (deep i) ∷ lowered-lowered a b xs i

-- an edge with what it gets, further down
pub lowered_placed : (n : ℕ) (x : TreeLine) (p : Pasted) → lowered n (placed x p) ≡ placed (at_depth x (x.depth + n)) p
lowered_placed n x p = ap (λ (zs : TreeLines). record { depth = x.depth + n; label = x.label; set = x.set; content = p.content; first = p.first; second = p.second } ∷ zs) (lowered-lowered n x.depth p.under)

pub lowered_filled : (n : ℕ) (hold : ℕ → Pasted) (x : TreeLine) (xs : TreeLines)
    → lowered n (filled hold (x ∷ xs)) ≡ placed (at_depth x (x.depth + n)) (line_content hold x) ++ lowered n (filled hold xs)
lowered_filled n hold x xs =
    lowered-append n (placed x (line_content hold x)) (filled hold xs) ∙ ap (λ (zs : TreeLines). zs ++ lowered n (filled hold xs)) (lowered_placed n x (line_content hold x))
