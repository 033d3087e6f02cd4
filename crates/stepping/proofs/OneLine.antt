-- The lines of a tree, one by one.
use Rattle.std.proofs.Common.{◌≡◌, ℕ, zero, suc, ◌+◌, ◌<◌, List, [], ◌∷◌, ◌++◌, length, map, take, get_or, refl, sym, subst, ap, ◌∙◌, arith}
use Rattle.std.proofs.lemmas.List.{take_more, take_all, take-append-le}
use Rattle.rows.specs.declared.row.TreeLine.{TreeLine}
use Rattle.layout.specs.declared.held.Table.{Table}
use Rattle.layout.specs.Held.{in_use}
use Rattle.layout.specs.Network.{TreeLines}
use Rattle.edges.specs.Edges.{Nested}
use Rattle.changes.specs.Turns.{Shallow}
use Rattle.layout.specs.Zeros.{line0, no_tree}
use Rattle.outcomes.specs.declared.outcome.Outcome.{Outcome}
use Rattle.outcomes.specs.Outcomes.{outcome_of, added}
use Rattle.outcomes.proofs.Adding.{added_one}

pub one_line : (lines : TreeLines) (i : ℕ) (old new : Outcome) → i < length lines → old ≡ outcome_of (take i lines) → new ≡ added old (get_or lines i line0) → new ≡ outcome_of (take (i + 1) lines)
one_line lines i old new h before after =
    after ∙ ap (λ (o : Outcome). added o (get_or lines i line0)) before ∙ added_one (take i lines) (get_or lines i line0) ∙ ap outcome_of (sym (take_more lines i line0 h))

-- ---- the lines of a table

again : {X : Type 0} (k : ℕ) (xs : List X) → take (length (take k xs)) xs ≡ take k xs
again zero xs = refl
again (suc k) [] = refl
again (suc k) (x ∷ xs) = ap (λ ys. x ∷ ys) (again k xs)

pub own_rows : (trees : List (Table TreeLine 128)) (l : ℕ)
    → take (length (get_or (map in_use trees) l [])) (get_or trees l no_tree).rows ≡ get_or (map in_use trees) l []
own_rows [] l = refl
own_rows (t ∷ trees) zero = again t.count t.rows
own_rows (t ∷ trees) (suc l) = own_rows trees l

-- as many of the rows as the tree has lines
pub its_lines : (tree own rows : TreeLines) → own ≡ tree → take (length tree) rows ≡ tree → take (length own) rows ≡ tree
its_lines tree own rows same lines = ap (λ (t : TreeLines). take (length t) rows) same ∙ lines

pub nested_by : (tree own : TreeLines) → own ≡ tree → Nested tree → Nested own
nested_by tree own same nested = subst Nested (sym same) nested

pub shallow_by : (tree own : TreeLines) → own ≡ tree → Shallow 12 tree → Shallow 12 own
shallow_by tree own same low = subst (Shallow 12) (sym same) low

-- ---- the lines after, put in the place of those before

front : (k : ℕ) (new rest : TreeLines) → k ≡ length new → take k (new ++ rest) ≡ new
front k new rest e = ap (λ (j : ℕ). take j (new ++ rest)) e ∙ take-append-le (length new) new rest (omega arith) ∙ take_all (length new) new (omega arith)

pub comes_back : (R : TreeLines → TreeLines → Type 0) → ((t a : TreeLines) → R t a → length a ≡ length t) → (tree own rows new rest : TreeLines) (o : Outcome)
    → own ≡ tree → take (length tree) rows ≡ tree → R (take (length own) rows) new → o ≡ outcome_of (take (length own) (new ++ rest))
    → (after : TreeLines) × R tree after × (o ≡ outcome_of after)
comes_back R long tree own rows new rest o same lines related out =
    let whole = its_lines tree own rows same lines in
    let known : R tree new = subst (λ (t : TreeLines). R t new) whole related in
    (new, known, out ∙ ap outcome_of (front (length own) new rest (ap length same ∙ sym (long tree new known))))
