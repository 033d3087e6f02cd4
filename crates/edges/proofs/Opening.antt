-- What a path finds is open to the roles that its last set is ≤ to.
use Rattle.std.proofs.Common.{ℕ, zero, suc, ◌<◌, Bool, List, length, subst, inl, inr, arith}
use Rattle.order.specs.Laws.{Lawful}
use Rattle.order.specs.RoleSets.{SetBelow}
use Rattle.order.proofs.Sets.{set_trans}
use Rattle.rows.specs.declared.row.PathStepRow.{PathStepRow}
use Rattle.rows.specs.declared.row.JobRow.{JobRow}
use Rattle.layout.specs.Network.{TreeLines}
use Rattle.obeying.specs.Rules.{line, TreeObeys}
use Rattle.edges.specs.Edges.{Nested, Over}
use Rattle.edges.specs.Paths.{step_at, last_set, Found}
use Rattle.edges.specs.EdgeLaws.{Access}
use Rattle.edges.proofs.Nesting.{over_parts}

-- the set of an edge found is ≤ the last set of the path
pub found_set : (below : ℕ → ℕ → Bool) (path : List PathStepRow) (t : TreeLines) (i : ℕ) → Found below path t i → SetBelow below (line t i).set (last_set path)
found_set below path t i f = subst (λ (d : ℕ). SetBelow below (line t i).set (step_at path d).set) f.depth f.own.set

module _ {count top : ℕ} {below : ℕ → ℕ → Bool} (law : Lawful count top below) where
  -- the sets of the edges over an edge are ≤ its own
  pub over_below : {least : ℕ} {jobs : List JobRow} {policy : ℕ} (t : TreeLines) → Nested t → TreeObeys below least jobs policy t
      → (n j i : ℕ) → i < n → i < length t → Over t j i → SetBelow below (line t j).set (line t i).set
  over_below t w o zero j i few h v = absurd (omega arith)
  over_below t w o (suc n) j i few h v = elim (over_parts w j i h v) [
    | inl a ↦ o.above i j h a
    | inr p ↦
        set_trans law (line t j).set (line t p.0).set (line t i).set
        (over_below t w o n j p.0 (omega (arith, p.1.before)) (omega (arith, p.1.before)) p.2)
        (o.above i p.0 h p.1)
  ]

pub access : Access
access = record {
  own = λ count top below law path t i roles f a some. (some, set_trans law (line t i).set (last_set path) roles (found_set below path t i f) a);
  over = λ count top below law least jobs policy path t i roles w o f a some j v. (
    some,
    set_trans law (line t j).set (line t i).set roles (over_below law t w o (suc i) j i (omega arith) f.inside v)
        (set_trans law (line t i).set (last_set path) roles (found_set below path t i f) a),
  );
}
