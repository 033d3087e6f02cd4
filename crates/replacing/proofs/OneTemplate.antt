-- The lines of one template among those of all.
use Rattle.std.proofs.Common.{◌≡◌, ℕ, zero, suc, ◌+◌, ◌<◌, ◌≤◌, eqb, ◌⊎◌, List, [], ◌∷◌, length, get_or, sym, refl, ap, ◌∙◌, subst, inl, inr, ⊎_elim, add-one, arith}
use Rattle.std.proofs.lemmas.Bool.{cases_eq, cases_lt, cond-true, cond-false, eq-eqb, ne_eqb}
use Rattle.rows.specs.declared.row.TreeLine.{TreeLine}
use Rattle.rows.specs.declared.row.TemplateRow.{TemplateRow}
use Rattle.layout.specs.Network.{TreeLines}
use Rattle.layout.specs.Zeros.{template0}
use Rattle.obeying.specs.Rules.{line}
use Rattle.pasting.specs.Templates.{template_lines}
use Rattle.standing.specs.declared.sizes.Sizes.{Sizes}
use Rattle.standing.specs.declared.lines.Home.TheVariants as home
use Rattle.standing.specs.Words.{LineStands, TemplatesStand}
use Rattle.replacing.specs.Sound.{TemplateStands}

abbrev row : List TemplateRow → ℕ → TemplateRow
row rows i = get_or rows i template0

module _ (s : Sizes) where
  -- what rows that stand say of any of their last rows
  record Runs (rows : List TemplateRow) : Type 0 where
    pub each : (i : ℕ) → i < length rows → LineStands home.Template s (row rows i).line
    pub on : (i : ℕ) → suc i < length rows → ((row rows (suc i)).template ≡ (row rows i).template) ⊎ ((row rows (suc i)).template ≡ (row rows i).template + 1)
    pub begins : (i : ℕ) → suc i < length rows → (row rows (suc i)).template ≡ (row rows i).template + 1 → (row rows (suc i)).line.depth ≡ 1
    pub down : (i : ℕ) → suc i < length rows → (row rows (suc i)).template ≡ (row rows i).template → (row rows (suc i)).line.depth ≤ (row rows i).line.depth + 1
    pub under : (i : ℕ) → suc i < length rows → (row rows (suc i)).template ≡ (row rows i).template
        → (row rows (suc i)).line.depth ≡ (row rows i).line.depth + 1 → (row rows i).line.content ≡ 0

  runs : (rows : List TemplateRow) → TemplatesStand s rows → Runs rows
  runs rows w = record {
    each = w.each;
    on = λ i h. subst (λ (n : ℕ). ((row rows n).template ≡ (row rows i).template) ⊎ ((row rows n).template ≡ (row rows i).template + 1)) (add-one i) (w.runs_on i (omega arith));
    begins = λ i h. subst (λ (n : ℕ). (row rows n).template ≡ (row rows i).template + 1 → (row rows n).line.depth ≡ 1) (add-one i) (w.begins i (omega arith));
    down = λ i h. subst (λ (n : ℕ). (row rows n).template ≡ (row rows i).template → (row rows n).line.depth ≤ (row rows i).line.depth + 1) (add-one i) (w.down i (omega arith));
    under = λ i h. subst (λ (n : ℕ). (row rows n).template ≡ (row rows i).template → (row rows n).line.depth ≡ (row rows i).line.depth + 1 → (row rows i).line.content ≡ 0) (add-one i)
        (w.under i (omega arith));
  }

  runs_tail : (x : TemplateRow) (xs : List TemplateRow) → Runs (x ∷ xs) → Runs xs
  runs_tail x xs w = record {
    each = λ i h. w.each (suc i) (omega arith);
    on = λ i h. w.on (suc i) (omega arith);
    begins = λ i h. w.begins (suc i) (omega arith);
    down = λ i h. w.down (suc i) (omega arith);
    under = λ i h. w.under (suc i) (omega arith);
  }

  -- what is known of the lines t of template k among these rows
  record Part (rows : List TemplateRow) (k : ℕ) (t : TreeLines) : Type 0 where
    pub each : (i : ℕ) → i < length t → LineStands home.Template s (line t i)
    pub down : (i : ℕ) → suc i < length t → (line t (suc i)).depth ≤ (line t i).depth + 1
    pub under : (i : ℕ) → suc i < length t → (line t (suc i)).depth ≡ (line t i).depth + 1 → (line t i).content ≡ 0
    pub here : 0 < length rows → (row rows 0).template ≡ k → line t 0 ≡ (row rows 0).line
    pub later : 0 < length rows → 0 < length t → (row rows 0).template < k → (line t 0).depth ≡ 1
    pub gone : 0 < length rows → k < (row rows 0).template → t ≡ []
    pub some : 0 < length t → 0 < length rows

  part_none : (k : ℕ) → Part [] k []
  part_none k = record {
    each = λ i h. absurd (omega arith);
    down = λ i h. absurd (omega arith);
    under = λ i h. absurd (omega arith);
    here = λ h. absurd (omega arith);
    later = λ h. absurd (omega arith);
    gone = λ h. absurd (omega arith);
    some = λ h. absurd (omega arith);
  }

  module _ (x : TemplateRow) (xs : List TemplateRow) (k : ℕ) (t : TreeLines) (w : Runs (x ∷ xs)) (p : Part xs k t) where
    -- a line more of this template: what follows it here is the next row
    follows : x.template ≡ k → 0 < length t → (line t 0 ≡ (row xs 0).line) × ((row xs 0).template ≡ x.template)
    follows e h =
        let some = p.some h in
        ⊎_elim
        (λ q. (p.here some (q ∙ e), q))
        (λ q. let none = p.gone some (omega arith) in absurd (omega (arith, ap (λ (u : TreeLines). length u) none)))
        (w.on 0 (omega arith))

    part_with : x.template ≡ k → Part (x ∷ xs) k (x.line ∷ t)
    part_with e = record { each = each; down = down; under = under; here = λ h q. refl; later = λ h g l. absurd (omega arith); gone = λ h l. absurd (omega arith); some = λ h. omega arith }
      where
        each : (i : ℕ) → i < length (x.line ∷ t) → LineStands home.Template s (line (x.line ∷ t) i)
        each zero h = w.each 0 (omega arith)
        each (suc i) h = p.each i (omega arith)

        down : (i : ℕ) → suc i < length (x.line ∷ t) → (line (x.line ∷ t) (suc i)).depth ≤ (line (x.line ∷ t) i).depth + 1
        down zero h = let f = follows e (omega arith) in
            subst (λ (y : TreeLine). y.depth ≤ x.line.depth + 1) (sym f.0) (w.down 0 (omega (arith, p.some (omega arith))) f.1)
        down (suc i) h = p.down i (omega arith)

        under : (i : ℕ) → suc i < length (x.line ∷ t) → (line (x.line ∷ t) (suc i)).depth ≡ (line (x.line ∷ t) i).depth + 1 → (line (x.line ∷ t) i).content ≡ 0
        under zero h q = let f = follows e (omega arith) in
            w.under 0 (omega (arith, p.some (omega arith))) f.1 (ap (λ (y : TreeLine). y.depth) (sym f.0) ∙ q)
        under (suc i) h q = p.under i (omega arith) q

    part_without : (x.template ≡ k → ⊥) → Part (x ∷ xs) k t
    part_without n = record {
      each = p.each;
      down = p.down;
      under = p.under;
      here = λ h e. absurd (n e);
      later = λ h g l. let some = p.some g in
          ⊎_elim (λ q. p.later some g (omega arith))
          (λ q. elim (cases_eq (row xs 0).template k) [
            | inl e ↦ subst (λ (y : TreeLine). y.depth ≡ 1) (sym (p.here some e)) (w.begins 0 (omega arith) q)
            | inr m ↦ p.later some g (omega arith)
          ])
          (w.on 0 (omega arith));
      gone = λ h l. elim (cases_lt 0 (length xs)) [
        | inl some ↦ p.gone some (⊎_elim (λ q. omega arith) (λ q. omega arith) (w.on 0 (omega arith)))
        | inr none ↦ empty t (elim (cases_lt 0 (length t)) [ inl g ↦ absurd (omega (arith, p.some g)) | inr g ↦ g ])
      ];
      some = λ h. omega arith;
    }
      where
        empty : (u : TreeLines) → length u ≤ 0 → u ≡ []
        empty [] h = refl
        empty (y ∷ ys) h = absurd (omega arith)

  part_of : (rows : List TemplateRow) (k : ℕ) → Runs rows → Part rows k (template_lines rows k)
  part_of [] k w = part_none k
  part_of (x ∷ xs) k w =
      let p = part_of xs k (runs_tail x xs w) in
      elim (cases_eq x.template k) [
        | inl e ↦
            subst (λ (t : TreeLines). Part (x ∷ xs) k t) (sym (cond-true (eqb x.template k) (x.line ∷ template_lines xs k) (template_lines xs k) (eq-eqb x.template k e)))
            (part_with x xs k (template_lines xs k) w p e)
        | inr n ↦
            subst (λ (t : TreeLines). Part (x ∷ xs) k t) (sym (cond-false (eqb x.template k) (x.line ∷ template_lines xs k) (template_lines xs k) (ne_eqb x.template k n)))
            (part_without x xs k (template_lines xs k) w p n)
      ]

  pub one_template : (rows : List TemplateRow) → TemplatesStand s rows → (k : ℕ) → TemplateStands s (template_lines rows k)
  one_template rows w k =
      let p = part_of rows k (runs rows w) in
      let t = template_lines rows k in
      record {
        lines = p.each;
        descends = record {
          first = λ h. let f = w.first (p.some h) in elim (cases_eq k 0) [
            | inl e ↦ ap (λ (y : TreeLine). y.depth) (p.here (p.some h) (f.0 ∙ sym e)) ∙ f.1
            | inr n ↦ p.later (p.some h) h (omega arith)
          ];
          down = λ i h. subst (λ (n : ℕ). (line t n).depth ≤ (line t i).depth + 1) (sym (add-one i)) (p.down i (omega arith));
          under = λ i h e. p.under i (omega arith) (ap (λ (n : ℕ). (line t n).depth) (sym (add-one i)) ∙ e);
        };
      }
