-- The edges of one location after the other.
use Rattle.std.proofs.Common.{◌≡◌, ℕ, ◌+◌, ◌<◌, List, [], ◌∷◌, ◌++◌, map, length, get_or, take, refl, sym, ap, ◌∙◌, append_assoc, append-nil, arith}
use Rattle.std.proofs.lemmas.List.{take_more, length-take, length-map}
use Rattle.rows.specs.declared.row.EdgeRow.{EdgeRow}
use Rattle.rows.specs.declared.row.TreeLine.{TreeLine}
use Rattle.layout.specs.Network.{TreeLines}
use Rattle.dump.specs.Dumping.{edges_from}

abbrev pub edge : ℕ → TreeLine → EdgeRow
edge l line = record { location = l; line = line }

edges_push : (l : ℕ) (trees : List TreeLines) (tree : TreeLines) → edges_from l (trees ++ (tree ∷ [])) ≡ edges_from l trees ++ map (edge (l + length trees)) tree
edges_push l [] tree = let e : l ≡ l + 0 = omega arith in append-nil (map (edge l) tree) ∙ ap (λ m. map (edge m) tree) e
edges_push l (t ∷ trees) tree =
    let e : (l + 1) + length trees ≡ l + length (t ∷ trees) = omega arith in
    ap (λ es. map (edge l) t ++ es) (edges_push (l + 1) trees tree ∙ ap (λ m. edges_from (l + 1) trees ++ map (edge m) tree) e)
    ∙ sym (append_assoc (map (edge l) t) (edges_from (l + 1) trees) (map (edge (l + length (t ∷ trees))) tree))

-- one location more
pub edges_more : {T : Type 0} (rows : T → TreeLines) (ts : List T) (n : ℕ) (d : T) → n < length ts
    → edges_from 0 (map rows (take n ts)) ++ map (edge n) (rows (get_or ts n d)) ≡ edges_from 0 (map rows (take (n + 1) ts))
edges_more rows ts n d here =
    let e : n ≡ 0 + length (map rows (take n ts)) = omega (arith, length-take n ts, length-map (take n ts) rows) in
    ap (λ m. edges_from 0 (map rows (take n ts)) ++ map (edge m) (rows (get_or ts n d))) e
    ∙ sym (edges_push 0 (map rows (take n ts)) (rows (get_or ts n d)))
    ∙ ap (edges_from 0) (sym (map_push rows (take n ts) (get_or ts n d)) ∙ ap (map rows) (sym (take_more ts n d here)))
  where
    map_push : {T : Type 0} (rows : T → TreeLines) (xs : List T) (x : T) → map rows (xs ++ (x ∷ [])) ≡ map rows xs ++ (rows x ∷ [])
    map_push rows [] x = refl
    map_push rows (y ∷ xs) x = ap (λ l. rows y ∷ l) (map_push rows xs x)
