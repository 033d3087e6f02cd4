-- Trees that obey.
use Rattle.std.proofs.Common.{◌≡◌, ℕ, zero, suc, ◌+◌, ◌<◌, ◌≤◌, Bool, true, not, ◌&&◌, eqb, ltb, ◌⊎◌, List, length, get_or, Some, None, Option, sym, refl, ap, ◌∙◌, subst, inl, inr, arith}
use Rattle.std.proofs.lemmas.Bool.{cases_eq, cond-true, cond-false, eq-eqb, ne_eqb, and_from, or_left, or_right, lt-ltb}
use Rattle.order.specs.Laws.{Lawful}
use Rattle.order.specs.RoleSets.{SetBelow, set_below}
use Rattle.rows.specs.declared.row.JobRow.{JobRow}
use Rattle.rows.specs.declared.row.TreeLine.{TreeLine}
use Rattle.layout.specs.Network.{TreeLines}
use Rattle.layout.specs.Zeros.{job0}
use Rattle.scan.specs.Scan.{or_else}
use Rattle.obeying.specs.declared.trees.Breach.{Breach}
use Rattle.obeying.specs.Rules.{line, Above, ScriptObeys, TreeObeys}
use Rattle.obeying.specs.Breaches.{last_outer, edge_above, line_below, script_passes, line_breach, breach_at, first_breach, tree_breach}
use Rattle.quiet.proofs.Sets.{set_passes}

-- the scan finds the edge above
last_is : (tree : TreeLines) (depth n j : ℕ) → last_outer tree depth n ≡ Some j
    → (j < n) × ((line tree j).depth + 1 ≡ depth) × ((k : ℕ) → j < k → k < n → (line tree k).depth + 1 ≡ depth → ⊥)
unfolding last_outer
last_is tree depth zero j e = absurd (grind arith)
last_is tree depth (suc n) j e = elim (cases_eq ((line tree n).depth + 1) depth) [
  | inl q ↦
      let s : ◌≡◌ {A = Option ℕ} (Some n) (Some j) = sym (cond-true (eqb ((line tree n).depth + 1) depth) (Some n) (last_outer tree depth n) (eq-eqb ((line tree n).depth + 1) depth q)) ∙ e in
      let m : n ≡ j = cc in
      (omega arith, subst (λ (i : ℕ). (line tree i).depth + 1 ≡ depth) m q, λ k h l. absurd (omega arith))
  | inr q ↦
      let s : last_outer tree depth n ≡ Some j = sym (cond-false (eqb ((line tree n).depth + 1) depth) (Some n) (last_outer tree depth n) (ne_eqb ((line tree n).depth + 1) depth q)) ∙ e in
      let w = last_is tree depth n j s in
      (omega (arith, w.0), w.1, λ k h l. later tree depth n j k q w.2 h l (cases_eq k n))
]
  where
    later : (tree : TreeLines) (depth n j k : ℕ) → ((line tree n).depth + 1 ≡ depth → ⊥) → ((k : ℕ) → j < k → k < n → (line tree k).depth + 1 ≡ depth → ⊥) → j < k → k < suc n
        → (k ≡ n) ⊎ (k ≡ n → ⊥) → (line tree k).depth + 1 ≡ depth → ⊥
    later tree depth n j k q w h l (inl e) d = q (subst (λ (i : ℕ). (line tree i).depth + 1 ≡ depth) e d)
    later tree depth n j k q w h l (inr e) d = w k h (omega arith) d

pub above_is : (tree : TreeLines) (i j : ℕ) → edge_above tree i ≡ Some j → Above tree j i
above_is tree i j e = let w = last_is tree (line tree i).depth i j e in record { before = w.0; outer = w.1; nearest = w.2 }

some_none : {X : Type 0} (x : X) → ◌≡◌ {A = Option X} (Some x) None → ⊥
some_none x e = absurd (grind arith)

module _ {count top : ℕ} {below : ℕ → ℕ → Bool} (law : Lawful count top below) (least : ℕ) (jobs : List JobRow) (policy : ℕ) (tree : TreeLines) where
  above_passes : (o : Option ℕ) (set : ℕ) → ((j : ℕ) → o ≡ Some j → SetBelow below (line tree j).set set) → line_below below tree o set ≡ true
  above_passes None set w = refl
  above_passes (Some j) set w = set_passes law (line tree j).set set (w j refl)

  script_obeys : (x : TreeLine) → ScriptObeys jobs policy x → script_passes jobs policy x ≡ true
  script_obeys x w = elim (cases_eq x.content 2) [
    | inl e ↦ or_right (not (eqb x.content 2)) (ltb x.first (length jobs) && eqb (get_or jobs x.first job0).policy policy)
        (and_from (ltb x.first (length jobs)) (eqb (get_or jobs x.first job0).policy policy) (lt-ltb x.first (length jobs) (w e).0) (eq-eqb (get_or jobs x.first job0).policy policy (w e).1))
    | inr n ↦ or_left (not (eqb x.content 2)) (ltb x.first (length jobs) && eqb (get_or jobs x.first job0).policy policy) (ap not (ne_eqb x.content 2 n))
  ]

  line_quiet : TreeObeys below least jobs policy tree → (i : ℕ) → i < length tree → line_breach below least jobs policy tree i ≡ None
  unfolding line_breach
  line_quiet w i h =
      cond-true (set_below below least (line tree i).set) _ _ (set_passes law least (line tree i).set (w.least i h))
      ∙ (cond-true (line_below below tree (edge_above tree i) (line tree i).set) _ _ (above_passes (edge_above tree i) (line tree i).set (λ j e. w.above i j h (above_is tree i j e)))
      ∙ cond-true (script_passes jobs policy (line tree i)) _ _ (script_obeys (line tree i) (w.scripts i h)))

  rows_quiet : TreeObeys below least jobs policy tree → (n : ℕ) → n ≤ length tree → first_breach (line_breach below least jobs policy tree) n ≡ None
  unfolding first_breach
  rows_quiet w zero h = refl
  rows_quiet w (suc n) h =
      ap (λ (o : Option Breach). or_else o (breach_at n (line_breach below least jobs policy tree n))) (rows_quiet w n (omega arith))
      ∙ ap (breach_at n) (line_quiet w n (omega arith))

  pub tree_quiet : TreeObeys below least jobs policy tree → tree_breach below least jobs policy tree ≡ None
  tree_quiet w = rows_quiet w (length tree) (omega arith)
