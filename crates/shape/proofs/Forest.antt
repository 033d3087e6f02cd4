-- Nothing is told of the trees exactly when each stands.
use Rattle.std.proofs.Common.{◌≡◌, ℕ, ◌+◌, ◌<◌, ◌≤◌, cond, eqb, ltb, List, [], length, get_or, take, drop, Some, None, Option, sym, refl, subst, inl, inr, arith}
use Rattle.std.proofs.lemmas.Bool.{cases_eq, cases_lt, cond-true, cond-false, eq-eqb, ne_eqb, lt-ltb, le-ltb}
use Rattle.rows.specs.declared.row.TreeLine.{TreeLine}
use Rattle.layout.specs.declared.held.Table.{Table}
use Rattle.layout.specs.Held.{in_use}
use Rattle.layout.specs.Zeros.{line0, no_tree}
use Rattle.scan.specs.Scan.{or_else, first_bad, carried}
use Rattle.scan.proofs.Scan.{none_each, each_none}
use Rattle.scan.proofs.Tells.{Tells, tells_some, tells_none, tells_like, or_tells, map_tells, few_tells, each_tells}
use Rattle.zeros.specs.Zeroed.{line_zero}
use Rattle.zeros.proofs.Deciding.{Decides-line0}
use Rattle.standing.specs.declared.sizes.Sizes.{Sizes}
use Rattle.standing.specs.Sizes.{within}
use Rattle.standing.specs.Words.{TreeStands}
use Rattle.standing.proofs.Trees.{tree-tells}
use Rattle.shape.specs.Place.{shifted, bad_tree, base_after, tree_fault, trees_fault, past_fault, pasts_fault, edges_fault}
use Rattle.shape.specs.Shape.{Zeros, TreeAt}

pub within-is : (count limit : ℕ) → count ≤ limit → within count limit ≡ count
within-is count limit h = omega arith

pub within-small : (count limit : ℕ) → within count limit ≤ limit
within-small count limit = omega arith

shifted-tells : {P : Type 0} (base : ℕ) (o : Option ℕ) → Tells o P → Tells (shifted base o) P
shifted-tells base o t = map_tells (shifted base) refl (λ i. (base + i, refl)) o t

-- what is told of the rows in use
abbrev Own : Sizes → ℕ → Table TreeLine 128 → Type 0
Own s l t = (t.count ≤ 128) × (TreeStands s (in_use t) × (s.locations ≤ l → t.count ≡ 0))

no_tree_lem : (s : Sizes) → TreeStands s []
no_tree_lem s = record { each = λ i h. absurd (omega arith); first = λ h. absurd (omega arith); down = λ i h. absurd (omega arith); under = λ i h. absurd (omega arith) }

here_tells : (s : Sizes) (base l : ℕ) (t : Table TreeLine 128) → l < s.locations
    → Tells (shifted base (or_else (bad_tree s (in_use t)) (cond (ltb 128 t.count) (Some 128) None))) (Own s l t)
here_tells s base l t h =
    shifted-tells base (or_else (bad_tree s (in_use t)) (cond (ltb 128 t.count) (Some 128) None))
    (tells_like (or_else (bad_tree s (in_use t)) (cond (ltb 128 t.count) (Some 128) None))
    (λ w. (w.1.0, (w.0, λ g. absurd (omega arith)))) (λ w. (w.1.0, (w.0, tt)))
    (or_tells (bad_tree s (in_use t)) (cond (ltb 128 t.count) (Some 128) None) (tree-tells s (in_use t))
    (λ _. few_tells {P = Unit {0}} 128 t.count None (λ _. tells_none tt))))

nowhere_tells : (s : Sizes) (base l : ℕ) (t : Table TreeLine 128) → s.locations ≤ l → Tells (cond (eqb t.count 0) None (Some base)) (Own s l t)
nowhere_tells s base l t h = elim (cases_eq t.count 0) [
  | inl z ↦
      subst (λ (o : Option ℕ). Tells o (Own s l t)) (sym (cond-true (eqb t.count 0) None (Some base) (eq-eqb t.count 0 z)))
      (tells_none (omega arith, (subst (λ (n : ℕ). TreeStands s (take n t.rows)) (sym z) (no_tree_lem s), λ g. z)))
  | inr z ↦
      subst (λ (o : Option ℕ). Tells o (Own s l t)) (sym (cond-false (eqb t.count 0) None (Some base) (ne_eqb t.count 0 z)))
      (tells_some base (λ w. z (w.1.1 h)))
]

tree_fault-tells : (s : Sizes) (base l : ℕ) (t : Table TreeLine 128) → Tells (tree_fault s base l t) (Own s l t)
tree_fault-tells s base l t = elim (cases_lt l s.locations) [
  | inl h ↦
      subst (λ (o : Option ℕ). Tells o (Own s l t))
      (sym (cond-true (ltb l s.locations) (shifted base (or_else (bad_tree s (in_use t)) (cond (ltb 128 t.count) (Some 128) None))) (cond (eqb t.count 0) None (Some base)) (lt-ltb l s.locations h)))
      (here_tells s base l t h)
  | inr h ↦
      subst (λ (o : Option ℕ). Tells o (Own s l t))
      (sym (cond-false (ltb l s.locations) (shifted base (or_else (bad_tree s (in_use t)) (cond (ltb 128 t.count) (Some 128) None))) (cond (eqb t.count 0) None (Some base)) (le-ltb l s.locations h)))
      (nowhere_tells s base l t h)
]

past_fault-tells : (base : ℕ) (t : Table TreeLine 128) → t.count ≤ 128 → Tells (past_fault base t) (Zeros line0 (drop t.count t.rows))
past_fault-tells base t h =
    subst (λ (n : ℕ). Tells (shifted base (first_bad (λ i x. line_zero x) n (drop n t.rows))) (Zeros line0 (drop t.count t.rows))) (sym (within-is t.count 128 h))
    (shifted-tells base (first_bad (λ i x. line_zero x) t.count (drop t.count t.rows)) (each_tells line_zero (λ x. x ≡ line0) line0 Decides-line0 t.count (drop t.count t.rows)))

module _ (s : Sizes) (ts : List (Table TreeLine 128)) where
  abbrev tree : ℕ → Table TreeLine 128
  tree l = get_or ts l no_tree

  abbrev base : ℕ → ℕ
  base l = carried base_after 0 (take l ts)

  plus : (l : ℕ) → 0 + l ≡ l
  plus l = omega arith

  all_own : Tells (trees_fault s 0 0 ts) ((l : ℕ) → l < length ts → Own s l (tree l))
  all_own = (
    λ e l h. (tree_fault-tells s (base l) l (tree l)).0 (subst (λ (n : ℕ). tree_fault s (base l) n (tree l) ≡ None) (plus l) (none_each (tree_fault s) base_after 0 0 ts no_tree e l h)),
    λ w. each_none (tree_fault s) base_after 0 0 ts no_tree (λ l h. subst (λ (n : ℕ). tree_fault s (base l) n (tree l) ≡ None) (sym (plus l)) ((tree_fault-tells s (base l) l (tree l)).1 (w l h))),
  )

  all_rest : ((l : ℕ) → l < length ts → Own s l (tree l)) → Tells (pasts_fault 0 0 ts) ((l : ℕ) → l < length ts → Zeros line0 (drop (tree l).count (tree l).rows))
  all_rest own = (
    λ e l h. (past_fault-tells (base l) (tree l) (own l h).0).0 (none_each (λ base l t. past_fault base t) base_after 0 0 ts no_tree e l h),
    λ w. each_none (λ base l t. past_fault base t) base_after 0 0 ts no_tree (λ l h. (past_fault-tells (base l) (tree l) (own l h).0).1 (w l h)),
  )

  pub edges_tell : Tells (edges_fault s ts) ((l : ℕ) → l < length ts → TreeAt s l (tree l))
  edges_tell =
      tells_like (edges_fault s ts)
      (λ w l h. record { table = record { few = (w.0 l h).0; own = (w.0 l h).1.0; rest = w.1 l h }; nowhere = (w.0 l h).1.1 })
      (λ w. (λ l h. ((w l h).table.few, ((w l h).table.own, (w l h).nowhere)), λ l h. (w l h).table.rest))
      (or_tells (trees_fault s 0 0 ts) (pasts_fault 0 0 ts) all_own all_rest)
