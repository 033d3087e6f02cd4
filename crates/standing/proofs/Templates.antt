-- Template lines that pass one after the other are templates.
use Rattle.std.proofs.Common.{◌≡◌, ℕ, zero, suc, ◌+◌, ◌<◌, ◌&&◌, eqb, ltb, ◌⊎◌, List, length, get_or, take, None, Decides, sym, subst, inl, inr, add-one, arith}
use Rattle.std.proofs.lemmas.Bool.Decides.{Decides-eqb, Decides-ltb, Decides-and}
use Rattle.rows.specs.declared.row.TemplateRow.{TemplateRow}
use Rattle.layout.specs.Zeros.{template0}
use Rattle.scan.specs.Scan.{scan, carried}
use Rattle.scan.proofs.Scan.{scan-each, each_scan}
use Rattle.scan.proofs.Tells.{Tells, carried-last, Decides-cond}
use Rattle.standing.specs.declared.sizes.Sizes.{Sizes}
use Rattle.standing.specs.declared.lines.Home.TheVariants as home
use Rattle.standing.specs.declared.lines.LinesBefore.{LinesBefore}
use Rattle.standing.specs.Tests.{root, line_passes, no_lines, template_passes, lines_after}
use Rattle.standing.specs.Words.{LineStands, TemplatesStand}
use Rattle.standing.proofs.Rows.{Follows, Decides-line}
use Rattle.standing.proofs.Trees.{at-root, root-at, at_most, deeper, follows-from}

-- one line more of the last template, or the first of the next
abbrev Behind : Sizes → LinesBefore → TemplateRow → Type 0
Behind s b x =
    ((x.template + 1 ≡ b.templates) × (Follows b.line x.line.depth × LineStands home.Template s x.line))
    ⊎ (((x.template ≡ b.templates) × (b.templates < 32)) × (Follows root x.line.depth × LineStands home.Template s x.line))

Decides-template : (s : Sizes) (b : LinesBefore) (x : TemplateRow) → Decides (template_passes s b x) (Behind s b x)
Decides-template s b x =
    Decides-cond (eqb (x.template + 1) b.templates) (line_passes home.Template s b.line x.line) ((eqb x.template b.templates && ltb b.templates 32) && line_passes home.Template s root x.line)
    (Decides-eqb (x.template + 1) b.templates) (Decides-line home.Template s b.line x.line)
    (Decides-and (eqb x.template b.templates && ltb b.templates 32) (line_passes home.Template s root x.line)
    (Decides-and (eqb x.template b.templates) (ltb b.templates 32) (Decides-eqb x.template b.templates) (Decides-ltb b.templates 32))
    (Decides-line home.Template s root x.line))
    (λ p r. omega (arith, p, r.0.0))

stands : (s : Sizes) (b : LinesBefore) (x : TemplateRow) → Behind s b x → LineStands home.Template s x.line
stands s b x (inl w) = w.1.1
stands s b x (inr w) = w.1.1

module _ (s : Sizes) (xs : List TemplateRow) where
  abbrev at : ℕ → LinesBefore
  at k = carried (λ (b : LinesBefore) (x : TemplateRow). lines_after x) no_lines (take k xs)

  abbrev line : ℕ → TemplateRow
  line k = get_or xs k template0

  at_last : (j : ℕ) → j < length xs → at (suc j) ≡ lines_after (line j)
  at_last j h = carried-last lines_after no_lines xs j template0 h

  module _ (e : scan (λ b i x. template_passes s b x) (λ b x. lines_after x) no_lines 0 xs ≡ None) where
    row : (k : ℕ) → k < length xs → Behind s (at k) (line k)
    row k h = (Decides-template s (at k) (line k)).0 (scan-each (λ b i x. template_passes s b x) (λ b x. lines_after x) no_lines 0 xs template0 e k h)

    after : (j : ℕ) → suc j < length xs → Behind s (lines_after (line j)) (line (suc j))
    after j h = subst (λ (b : LinesBefore). Behind s b (line (suc j))) (at_last j (omega arith)) (row (suc j) h)

    behind : (i : ℕ) → i + 1 < length xs → Behind s (lines_after (line i)) (line (i + 1))
    behind i h = subst (λ (k : ℕ). Behind s (lines_after (line i)) (line k)) (sym (add-one i)) (after i (omega arith))

    few : (k : ℕ) → k < length xs → (line k).template < 32
    few zero h = elim (row zero h) [ inl w ↦ absurd (omega (arith, w.0)) | inr w ↦ omega (arith, w.0.0) ]
    few (suc j) h = elim (after j h) [ inl w ↦ omega (arith, w.0, few j (omega arith)) | inr w ↦ omega (arith, w.0.0, w.0.1) ]

    templates_there : TemplatesStand s xs
    templates_there = record {
      each = λ i h. stands s (at i) (line i) (row i h);
      few = few;
      first = λ h. elim (row zero h) [ inl w ↦ absurd (omega (arith, w.0)) | inr w ↦ (w.0.0, at-root (line 0).line.depth w.1.1.low w.1.0) ];
      runs_on = λ i h. elim (behind i h) [ inl w ↦ inl (omega (arith, w.0)) | inr w ↦ inr w.0.0 ];
      begins = λ i h k. elim (behind i h) [ inl w ↦ absurd (omega (arith, w.0)) | inr w ↦ at-root (line (i + 1)).line.depth w.1.1.low w.1.0 ];
      down = λ i h k. elim (behind i h) [ inl w ↦ at_most (line i).line (line (i + 1)).line.depth w.1.0 | inr w ↦ absurd (omega (arith, w.0.0)) ];
      under = λ i h k d. elim (behind i h) [ inl w ↦ deeper (line i).line (line (i + 1)).line.depth w.1.0 d | inr w ↦ absurd (omega (arith, w.0.0)) ];
    }

  module _ (w : TemplatesStand s xs) where
    next : (i : ℕ) → i + 1 < length xs → Behind s (lines_after (line i)) (line (i + 1))
    next i h = elim (w.runs_on i h) [
      | inl k ↦ inl (omega arith, (follows-from (line i).line (line (i + 1)).line.depth (w.down i h k) (w.under i h k), w.each (i + 1) h))
      | inr k ↦ inr ((k, omega (arith, w.few (i + 1) h)), (root-at (line (i + 1)).line.depth (w.begins i h k), w.each (i + 1) h))
    ]

    passes : (k : ℕ) → k < length xs → Behind s (at k) (line k)
    passes zero h = let f = w.first h in inr ((f.0, omega arith), (root-at (line 0).line.depth f.1, w.each zero h))
    passes (suc j) h =
        subst (λ (b : LinesBefore). Behind s b (line (suc j))) (sym (at_last j (omega arith)))
        (subst (λ (k : ℕ). Behind s (lines_after (line j)) (line k)) (add-one j) (next j (omega arith)))

  pub templates_tell : Tells (scan (λ b i x. template_passes s b x) (λ b x. lines_after x) no_lines 0 xs) (TemplatesStand s xs)
  templates_tell =
      (templates_there, λ w. each_scan (λ b i x. template_passes s b x) (λ b x. lines_after x) no_lines 0 xs template0 (λ k h. (Decides-template s (at k) (line k)).1 (passes w k h)))
