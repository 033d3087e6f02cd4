-- The same lines with other sets.
use Rattle.std.proofs.Common.{◌≡◌, ℕ, ◌+◌, ◌<◌, Bool, List, length, get_or, sym, ap, ◌∙◌, subst, arith}
use Rattle.order.specs.RoleSets.{In, SetBelow, InUse}
use Rattle.rows.specs.declared.row.TreeLine.{TreeLine}
use Rattle.rows.specs.declared.row.JobRow.{JobRow}
use Rattle.layout.specs.Network.{TreeLines}
use Rattle.layout.specs.Zeros.{line0}
use Rattle.obeying.specs.Rules.{line, Above, ScriptObeys, TreeObeys}
use Rattle.standing.specs.declared.sizes.Sizes.{Sizes}
use Rattle.standing.specs.declared.lines.Home.TheVariants as home
use Rattle.standing.specs.Words.{LineStands, TreeStands}
use Rattle.edges.specs.Edges.{with_set, Recoloured}

module _ {t after : TreeLines} (w : Recoloured t after) where
  pub depths : (i : ℕ) → i < length t → (line after i).depth ≡ (line t i).depth
  depths i h = ap (λ (x : TreeLine). x.depth) (w.same i h)

  contents : (i : ℕ) → i < length t → (line after i).content ≡ (line t i).content
  contents i h = ap (λ (x : TreeLine). x.content) (w.same i h)

  pub above_again : (j i : ℕ) → i < length t → Above after j i → Above t j i
  above_again j i h a = record {
    before = a.before;
    outer = omega (arith, depths i h, depths j (omega (arith, a.before)), a.outer);
    nearest = λ k p q e. a.nearest k p q (omega (arith, depths i h, depths k (omega arith)));
  }

  pub obeys_again : {below : ℕ → ℕ → Bool} {least : ℕ} {jobs : List JobRow} {policy : ℕ}
      → ((i : ℕ) → i < length t → SetBelow below least (line after i).set)
      → ((j i : ℕ) → i < length t → Above t j i → SetBelow below (line after j).set (line after i).set)
      → TreeObeys below least jobs policy t → TreeObeys below least jobs policy after
  obeys_again {jobs = jobs} {policy = policy} two three o = record {
    least = λ i h. two i (omega (arith, w.long));
    above = λ i j h a. three j i (omega (arith, w.long)) (above_again j i (omega (arith, w.long)) a);
    scripts = λ i h.
        let g : i < length t = omega (arith, w.long) in
        subst (λ (x : TreeLine). ScriptObeys jobs policy x) (sym (w.same i g)) (o.scripts i g);
  }

  pub stands_again : (s : Sizes) → ((i : ℕ) → i < length t → InUse s.roles (line after i).set) → ((i : ℕ) → i < length t → In s.top (line after i).set)
      → TreeStands s t → TreeStands s after
  stands_again s used top o = record {
    each = λ i h. each i (omega (arith, w.long));
    first = λ h. omega (arith, depths 0 (omega (arith, w.long)), o.first (omega (arith, w.long)));
    down = λ i h. omega (arith, depths i (omega (arith, w.long)), depths (i + 1) (omega (arith, w.long)), o.down i (omega (arith, w.long)));
    under = λ i h e.
        let g : i + 1 < length t = omega (arith, w.long) in
        contents i (omega arith) ∙ o.under i g (omega (arith, depths i (omega arith), depths (i + 1) g));
  }
    where
      each : (i : ℕ) → i < length t → LineStands home.Tree s (get_or after i line0)
      each i h =
          let x = o.each i h in
          let y : LineStands home.Tree s (with_set (line t i) (line after i).set) = record { low = x.low; high = x.high; set = used i h; top = top i h; content = x.content } in
          subst (λ (z : TreeLine). LineStands home.Tree s z) (sym (w.same i h)) y
