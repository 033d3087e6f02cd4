-- Lines that pass one after the other are a tree.
use Rattle.std.proofs.Common.{◌≡◌, ℕ, zero, suc, ◌+◌, ◌<◌, ◌≤◌, List, length, get_or, take, None, sym, refl, subst, inl, inr, add-one, arith}
use Rattle.std.proofs.lemmas.Bool.{cases_eq, eqb-true, eq-eqb}
use Rattle.rows.specs.declared.row.TreeLine.{TreeLine}
use Rattle.layout.specs.Zeros.{line0}
use Rattle.scan.specs.Scan.{scan, carried}
use Rattle.scan.proofs.Scan.{scan-each, each_scan}
use Rattle.scan.proofs.Tells.{Tells, carried-last}
use Rattle.standing.specs.declared.sizes.Sizes.{Sizes}
use Rattle.standing.specs.declared.lines.Home.TheVariants as home
use Rattle.standing.specs.declared.lines.LineBefore.{LineBefore}
use Rattle.standing.specs.Tests.{root, line_passes, line_after}
use Rattle.standing.specs.Words.{LineStands, TreeStands}
use Rattle.standing.proofs.Rows.{Follows, Decides-line}

-- a line behind the root has depth 1
pub at-root : (d : ℕ) → 1 ≤ d → Follows root d → d ≡ 1
at-root d low (inl h) = omega arith
at-root d low (inr w) = omega (arith, w.1)

pub root-at : (d : ℕ) → d ≡ 1 → Follows root d
root-at d e = inr (refl, omega arith)

-- a line behind another is at most one deeper
pub at_most : (x : TreeLine) (d : ℕ) → Follows (line_after x) d → d ≤ x.depth + 1
at_most x d (inl h) = omega arith
at_most x d (inr w) = omega (arith, w.1)

-- and one deeper only below a branch
pub deeper : (x : TreeLine) (d : ℕ) → Follows (line_after x) d → d ≡ x.depth + 1 → x.content ≡ 0
deeper x d (inl h) e = absurd (omega arith)
deeper x d (inr w) e = eqb-true x.content 0 w.0

pub follows-from : (x : TreeLine) (d : ℕ) → d ≤ x.depth + 1 → (d ≡ x.depth + 1 → x.content ≡ 0) → Follows (line_after x) d
follows-from x d h f = elim (cases_eq d (x.depth + 1)) [ inl e ↦ inr (eq-eqb x.content 0 (f e), omega arith) | inr e ↦ inl (omega arith) ]

module _ (s : Sizes) (xs : List TreeLine) where
  abbrev at : ℕ → LineBefore
  at k = carried (λ (b : LineBefore) (x : TreeLine). line_after x) root (take k xs)

  at_last : (j : ℕ) → j < length xs → at (suc j) ≡ line_after (get_or xs j line0)
  at_last j h = carried-last line_after root xs j line0 h

  abbrev line : ℕ → TreeLine
  line k = get_or xs k line0

  module _ (e : scan (λ b i x. line_passes home.Tree s b x) (λ b x. line_after x) root 0 xs ≡ None) where
    row : (k : ℕ) → k < length xs → Follows (at k) (line k).depth × LineStands home.Tree s (line k)
    row k h = (Decides-line home.Tree s (at k) (line k)).0 (scan-each (λ b i x. line_passes home.Tree s b x) (λ b x. line_after x) root 0 xs line0 e k h)

    behind : (i : ℕ) → i + 1 < length xs → Follows (line_after (line i)) (line (i + 1)).depth
    behind i h =
        subst (λ (b : LineBefore). Follows b (line (i + 1)).depth) (at_last i (omega arith))
        (subst (λ (k : ℕ). Follows (at k) (line (i + 1)).depth) (add-one i) (row (i + 1) h).0)

    tree-there : TreeStands s xs
    tree-there = record {
      each = λ i h. (row i h).1;
      first = λ h. at-root (line 0).depth (row 0 h).1.low (row 0 h).0;
      down = λ i h. at_most (line i) (line (i + 1)).depth (behind i h);
      under = λ i h d. deeper (line i) (line (i + 1)).depth (behind i h) d;
    }

  follows-at : TreeStands s xs → (k : ℕ) → k < length xs → Follows (at k) (line k).depth
  follows-at w zero h = root-at (line 0).depth (w.first h)
  follows-at w (suc j) h =
      subst (λ (b : LineBefore). Follows b (line (suc j)).depth) (sym (at_last j (omega arith)))
      (subst (λ (k : ℕ). Follows (line_after (line j)) (line k).depth) (add-one j)
      (follows-from (line j) (line (j + 1)).depth (w.down j (omega arith)) (w.under j (omega arith))))

  pub tree-tells : Tells (scan (λ b i x. line_passes home.Tree s b x) (λ b x. line_after x) root 0 xs) (TreeStands s xs)
  tree-tells =
      (tree-there, λ w. each_scan (λ b i x. line_passes home.Tree s b x) (λ b x. line_after x) root 0 xs line0 (λ k h. (Decides-line home.Tree s (at k) (line k)).1 (follows-at w k h, w.each k h)))
