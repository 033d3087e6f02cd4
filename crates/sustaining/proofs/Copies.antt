-- Trees that are copied to the shelf.
use Rattle.std.proofs.Common.{◌≡◌, ℕ, zero, suc, ◌+◌, ◌<◌, ◌≤◌, Bool, List, [], ◌∷◌, ◌++◌, map, length, get_or, drop, sym, refl, subst, arith, ◌∙◌}
use Rattle.std.proofs.lemmas.List.{get_or-drop, get_or-map, get_or-append-add, length-append, length-drop, length-map}
use Rattle.rows.specs.declared.row.TreeLine.{TreeLine}
use Rattle.layout.specs.declared.memory.RunningRow.{RunningRow}
use Rattle.layout.specs.Network.{TreeLines, Network}
use Rattle.layout.specs.Zeros.{line0}
use Rattle.meaning.specs.declared.patterns.Pattern.{Pattern}
use Rattle.meaning.specs.declared.patterns.Pattern.TheVariants as pattern
use Rattle.obeying.specs.Rules.{line}
use Rattle.obeying.specs.TreeLaws.{under}
use Rattle.obeying.proofs.Copies.{deep_line}
use Rattle.pasting.specs.Words.{least_of}
use Rattle.matching.specs.Matching.{policy_at}
use Rattle.standing.specs.declared.sizes.Sizes.{Sizes}
use Rattle.standing.specs.Words.{TreeStands}
use Rattle.replacing.proofs.Sound.{part, not_deep}
use Rattle.reduction.specs.Effects.{copies}
use Rattle.reduction.specs.Soundness.{NetworkSound}
use Rattle.reduction.specs.Values.{tree_of}
use Rattle.sustaining.proofs.Filling.{Shelved}
use Rattle.sustaining.proofs.Networks.{tree_stands, tree_sound}

-- what lies under an edge is not deeper than the whole
under_low : (s : Sizes) (tree : TreeLines) → TreeStands s tree → (i k : ℕ) → k < length (under tree i) → (line (under tree i) k).depth ≤ 12
under_low s tree w i k h =
    let d = deep_line (line tree i).depth (drop (i + 1) tree) k h in
    let there : line (drop (i + 1) tree) k ≡ line tree (i + 1 + k) = get_or-drop (i + 1) tree k line0 in
    let high : (line tree (i + 1 + k)).depth ≤ 12 = (w.each (i + 1 + k) (omega (arith, d.0, length-drop (i + 1) tree))).high in
    let same : (line (drop (i + 1) tree) k).depth ≤ 12 = subst (λ (x : TreeLine). x.depth ≤ 12) (sym there) high in
    subst (λ (x : TreeLine). x.depth ≤ 12) (sym d.2) (omega arith)

-- nor longer
under_no_longer : (tree : TreeLines) (i : ℕ) → length (under tree i) ≤ length tree
under_no_longer tree i = go (length (under tree i)) refl
  where
    go : (m : ℕ) → length (under tree i) ≡ m → m ≤ length tree
    go zero e = omega arith
    go (suc m) e = omega (arith, (deep_line (line tree i).depth (drop (i + 1) tree) m (omega (arith, e))).0, length-drop (i + 1) tree)

-- the k-th copy is shelved behind the others
pub copy_shelved : (m : Pattern) (shelf : List TreeLines) (tree : TreeLines) (rows : List ℕ) (k : ℕ) → k < length rows
    → Shelved m (shelf ++ copies m tree rows) tree (get_or rows k 0) (length shelf + k)
copy_shelved (pattern.Number slot) shelf tree rows k h = tt
copy_shelved (pattern.Script slot policy) shelf tree rows k h = tt
copy_shelved (pattern.Pointer slot policy last) shelf tree rows k h = tt
copy_shelved (pattern.Tree slot policy top all) shelf tree rows k h = (
  omega (arith, length-append shelf (map (under tree) rows), length-map rows (under tree)),
  get_or-append-add shelf (map (under tree) rows) k [] ∙ get_or-map (under tree) rows k 0 [] h,
)

module _ (below : ℕ → ℕ → Bool) (s : Sizes) (n : Network) (w : NetworkSound below s n) (r : RunningRow) where
  under_stands : (i : ℕ) → TreeStands s (under (tree_of n r) i)
  under_stands i =
      let policy = policy_at n.plan r.location in
      not_deep below s (least_of n.plan policy) n.plan.jobs policy (under (tree_of n r) i) (under_low s (tree_of n r) (tree_stands below s n w r.location) i)
      (part below s (least_of n.plan policy) n.plan.jobs policy (tree_of n r) i (tree_sound below s n w r))

  pub copies_stand : (m : Pattern) (rows : List ℕ) (k : ℕ) → k < length (copies m (tree_of n r) rows) → TreeStands s (get_or (copies m (tree_of n r) rows) k [])
  copies_stand (pattern.Number slot) rows k h = absurd (omega arith)
  copies_stand (pattern.Script slot policy) rows k h = absurd (omega arith)
  copies_stand (pattern.Pointer slot policy last) rows k h = absurd (omega arith)
  copies_stand (pattern.Tree slot policy top all) rows k h =
      subst (TreeStands s) (sym (get_or-map (under (tree_of n r)) rows k 0 [] (omega (arith, length-map rows (under (tree_of n r)))))) (under_stands (get_or rows k 0))

  under_short : (i : ℕ) → length (under (tree_of n r) i) ≤ 128
  under_short i = omega (arith, under_no_longer (tree_of n r) i, w.short r.location)

  short_map : (rows : List ℕ) (k : ℕ) → length (get_or (map (under (tree_of n r)) rows) k []) ≤ 128
  short_map [] k = omega arith
  short_map (row ∷ rows) zero = under_short row
  short_map (row ∷ rows) (suc k) = short_map rows k

  pub copies_short : (m : Pattern) (rows : List ℕ) (k : ℕ) → length (get_or (copies m (tree_of n r) rows) k []) ≤ 128
  copies_short (pattern.Number slot) rows k = omega arith
  copies_short (pattern.Script slot policy) rows k = omega arith
  copies_short (pattern.Pointer slot policy last) rows k = omega arith
  copies_short (pattern.Tree slot policy top all) rows k = short_map rows k
