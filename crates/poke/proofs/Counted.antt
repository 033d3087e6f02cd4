-- Edges by their rows, which are counted over all locations.
use Rattle.std.proofs.Common.{◌≡◌, ℕ, ◌-◌, ◌≤◌, List, [], ◌∷◌, fold, get_or, set, Ok, Err, sym, refl, ap, ◌∙◌, arith}
use Rattle.std.proofs.lemmas.List.{set-get_or}
use Rattle.std.proofs.lemmas.Bool.{cond-false, ne_eqb}
use Rattle.rows.specs.declared.row.TreeLine.{TreeLine}
use Rattle.layout.specs.declared.held.Table.{Table}
use Rattle.layout.specs.declared.memory.Tables.{Tables}
use Rattle.layout.specs.Zeros.{no_tree}
use Rattle.places.specs.declared.finding.Place.{Place}
use Rattle.places.specs.Places.{edges_in}
use Rattle.poke.specs.Cells.{on_ok, line_with}
use Rattle.poke.specs.Placing.{with_trees}
use Rattle.poke.specs.Poking.{Written, after, behind, table_with, edge_place_in, edge_with, edges_with}

-- the trees' rows taken away one by one
pub behind_is : (trees : List (Table TreeLine 128)) (row : ℕ) → fold (λ left tree. left - edges_in tree) row trees ≡ behind row trees
behind_is [] row = refl
behind_is (tree ∷ trees) row = behind_is trees (row - edges_in tree)

pub behind_within : (trees : List (Table TreeLine 128)) (row : ℕ) → behind row trees ≤ row
behind_within [] row = omega arith
behind_within (tree ∷ trees) row = omega (arith, behind_within trees (row - edges_in tree))

-- one tree written over, among all
after_on : (trees : List (Table TreeLine 128)) (l : ℕ) (w : Written (Table TreeLine 128)) → set trees l (after (get_or trees l no_tree) w) ≡ after trees (on_ok w (set trees l))
after_on trees l (Ok new) = refl
after_on trees l (Err e) = set-get_or trees l no_tree

module _ (t : Tables) (row field value : ℕ) (place : Place) (other : row ≡ 4294967295 → ⊥) (is : place ≡ edge_place_in t row) where
  abbrev tree : Table TreeLine 128
  tree = get_or t.trees place.location no_tree

  at_place : edges_with t row field value ≡ edge_with t.trees place field value
  at_place = cond-false _ _ _ (ne_eqb row 4294967295 other) ∙ ap (λ p. edge_with t.trees p field value) (sym is)

  pub edge_after : (new : Table TreeLine 128) → new ≡ after tree (table_with line_with tree place.edge field value)
      → with_trees t (set t.trees place.location new) ≡ with_trees t (after t.trees (edges_with t row field value))
  edge_after new e =
      ap (λ (x : Table TreeLine 128). with_trees t (set t.trees place.location x)) e
      ∙ ap (with_trees t) (after_on t.trees place.location (table_with line_with tree place.edge field value))
      ∙ sym (ap (λ (w : Written (List (Table TreeLine 128))). with_trees t (after t.trees w)) at_place)
