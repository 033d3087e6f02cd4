-- A template put line by line, its slots filled.
use Rattle.std.proofs.Common.{◌≡◌, ℕ, zero, suc, ◌+◌, ◌<◌, ◌≤◌, eqb, List, [], ◌∷◌, length, drop, sym, ap, ◌∙◌, subst, arith}
use Rattle.std.proofs.lemmas.Bool.{cond_both}
use Rattle.std.proofs.lemmas.List.{drop_more}
use Rattle.rows.specs.declared.row.TreeLine.{TreeLine}
use Rattle.rows.specs.declared.row.TemplateRow.{TemplateRow}
use Rattle.layout.specs.Network.{TreeLines}
use Rattle.layout.specs.Zeros.{line0, template0}
use Rattle.scan.specs.Scan.{Each}
use Rattle.pasting.specs.Templates.{template_lines}
use Rattle.obeying.specs.Rules.{line}
use Rattle.obeying.specs.TreeLaws.{at_depth, lowered}
use Rattle.outcomes.specs.declared.outcome.Outcome.{Outcome}
use Rattle.outcomes.specs.Outcomes.{added_all}
use Rattle.outcomes.proofs.Adding.{added_append}
use Rattle.replacing.specs.Pasting.{Pasted, plain, placed, line_content, filled}
use Rattle.replacing.proofs.Lowering.{lowered_filled}
use Rattle.changes.specs.Turns.{Shallow}

pub content_shallow : (most : ℕ) (hold : ℕ → Pasted) → ((k : ℕ) → Shallow most (hold k).under) → (x : TreeLine) (p : Pasted) → p ≡ line_content hold x → Shallow most p.under
unfolding line_content
content_shallow most hold s x p e =
    subst (λ (q : Pasted). Shallow most q.under) (sym e)
    (cond_both (eqb x.content 4) (hold x.first) (plain x.content x.first x.second) (λ (q : Pasted). Shallow most q.under) (λ t. s x.first) (λ f i h. absurd (omega arith)))

-- one turn of the loop
pub filled_turn : (hold : ℕ → Pasted) (levels i : ℕ) (t : TreeLines) (o o' w : Outcome) → i < length t → added_all o (lowered levels (filled hold (drop i t))) ≡ w
    → o' ≡ added_all o (placed (at_depth (line t i) ((line t i).depth + levels)) (line_content hold (line t i))) → added_all o' (lowered levels (filled hold (drop (i + 1) t))) ≡ w
filled_turn hold levels i t o o' w h e a =
    let piece = placed (at_depth (line t i) ((line t i).depth + levels)) (line_content hold (line t i)) in
    let rest = lowered levels (filled hold (drop (i + 1) t)) in
    ap (λ (p : Outcome). added_all p rest) a
    ∙ (sym (added_append o piece rest)
    ∙ (sym (ap (λ (xs : TreeLines). added_all o (lowered levels (filled hold xs))) (drop_more t i line0 h) ∙ ap (added_all o) (lowered_filled levels hold (line t i) (drop (i + 1) t))) ∙ e))

-- the lines of a template are no deeper than those of all templates
low_next : (most : ℕ) (x : TreeLine) (xs : TreeLines) → x.depth ≤ most → Shallow most xs → Shallow most (x ∷ xs)
low_next most x xs d s zero h = d
low_next most x xs d s (suc i) h = s i (omega arith)

pub template_low : (most : ℕ) (rows : List TemplateRow) → Each (λ row. row.line.depth ≤ most) template0 rows → (k : ℕ) → Shallow most (template_lines rows k)
template_low most [] e k = λ i h. absurd (omega arith)
template_low most (row ∷ rows) e k =
    cond_both (eqb row.template k) (row.line ∷ template_lines rows k) (template_lines rows k) (Shallow most)
    (λ t. low_next most row.line (template_lines rows k) (e 0 (omega arith)) (template_low most rows (λ i h. e (suc i) (omega arith)) k))
    (λ t. template_low most rows (λ i h. e (suc i) (omega arith)) k)
