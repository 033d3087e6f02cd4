-- What the slots hold at an edge whose own content fills one of them.
use Rattle.std.proofs.Common.{◌≡◌, ℕ, ◌+◌, List, eqb, sym, ap, ◌∙◌, subst, arith}
use Rattle.std.proofs.lemmas.Bool.{cond_both}
use Rattle.rows.specs.declared.row.TreeLine.{TreeLine}
use Rattle.rows.specs.declared.row.TemplateRow.{TemplateRow}
use Rattle.layout.specs.declared.held.Table.{Table}
use Rattle.layout.specs.Held.{in_use}
use Rattle.layout.specs.Network.{TreeLines, tree_of}
use Rattle.layout.specs.Zeros.{line0}
use Rattle.layout.proofs.Pads.{take_pad}
use Rattle.meaning.specs.declared.contents.Content.{Content}
use Rattle.obeying.specs.Rules.{line}
use Rattle.obeying.specs.TreeLaws.{under}
use Rattle.obeying.proofs.Copies.{copied_under}
use Rattle.outcomes.specs.declared.outcome.Outcome.{Outcome}
use Rattle.outcomes.specs.Outcomes.{added_all}
use Rattle.replacing.specs.Pasting.{Pasted, placed, pasted, lying, holding}
use Rattle.changes.specs.Turns.{Shallow}

-- an edge's content with these lines under it
abbrev pub lying_with : TreeLine → TreeLines → Pasted
lying_with x below = record { content = x.content; first = x.first; second = x.second; under = below }

module _ (hold : ℕ → Pasted) (own : ℕ) (t : TreeLines) (row : ℕ) (h : ℕ → Pasted) (copy : Table TreeLine 128) (below : TreeLines)
    (held : (k : ℕ) → h k ≡ holding hold own (lying_with (line t row) below) k) (copied : copy ≡ tree_of (under t row)) (shown : below ≡ in_use copy) where
  same_tree : below ≡ under t row
  same_tree = shown ∙ (ap (λ (x : Table TreeLine 128). in_use x) copied ∙ take_pad 128 line0 (under t row))

  held_same : (k : ℕ) → h k ≡ holding hold own (lying t row) k
  held_same k = held k ∙ ap (λ (xs : TreeLines). holding hold own (lying_with (line t row) xs) k) same_tree

  pub held_placed : (templates : List TemplateRow) (content : Content) (o o' : Outcome) → o' ≡ added_all o (placed (line t row) (pasted h templates content))
      → o' ≡ added_all o (placed (line t row) (pasted (holding hold own (lying t row)) templates content))
  held_placed templates content o o' e =
      let same : h ≡ holding hold own (lying t row) = λ i k. held_same k i in
      e ∙ ap (λ (f : ℕ → Pasted). added_all o (placed (line t row) (pasted f templates content))) same

  under_shallow : Shallow 500 t → Shallow 1000 (under t row)
  under_shallow s i l = let c = copied_under t row in omega (arith, c.depth i l, s (row + 1 + i) (c.inside i l))

  pub held_shallow : Shallow 500 t → ((k : ℕ) → Shallow 500 (hold k).under) → (k : ℕ) → Shallow 1000 (h k).under
  held_shallow s r k =
      subst (λ (p : Pasted). Shallow 1000 p.under) (sym (held_same k))
      (cond_both (eqb k own) (lying t row) (hold k) (λ (p : Pasted). Shallow 1000 p.under) (λ e. under_shallow s) (λ e i l. omega (arith, r k i l)))
