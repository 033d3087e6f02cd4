-- A step brings about one thing only.
use Rattle.std.proofs.Common.{◌≡◌, ℕ, Bool, cond, List, [], ◌++◌, length, Some, Option, ◌==◌, sym, ap, ◌∙◌, subst}
use Rattle.layout.specs.declared.memory.RunningRow.{RunningRow}
use Rattle.layout.specs.Network.{TreeLines, Network}
use Rattle.meaning.specs.declared.contents.Content.{Content}
use Rattle.meaning.specs.declared.patterns.Pattern.{Pattern}
use Rattle.meaning.specs.declared.verbs.Operand.{Operand}
use Rattle.meaning.specs.declared.verbs.Verb.TheVariants as verb
use Rattle.edges.specs.Matching.{Selected}
use Rattle.edges.specs.Rows.{flagged_rows}
use Rattle.edges.proofs.FlaggedRows.{row_laws}
use Rattle.replacing.specs.Changing.{Changed}
use Rattle.replacing.specs.Holding.{slot_of}
use Rattle.replacing.specs.Pasting.{given}
use Rattle.reduction.specs.Values.{tree_of, path_of, held_in}
use Rattle.reduction.specs.Effects.{Effect, goes_on, scripts, copies, readers}
use Rattle.reduction.specs.Steps.{next_of, Runs, Reads, Changes, Enables, Disables}
use Rattle.reduction.specs.StepLaws.{OneEffect}
use Rattle.reduction.proofs.Single.{Agree, flagged_agree, selected_agree, same_enabled, same_disabled, same_changed}

same_pattern : (x : Option Pattern) (a b : Pattern) → x ≡ Some a → x ≡ Some b → a ≡ b
same_pattern x a b e d = let q : Some a ≡ Some b = sym e ∙ d in cc

module _ (below : ℕ → ℕ → Bool) (n : Network) (r : RunningRow) where
  abbrev tree : TreeLines
  tree = tree_of n r

  same_rows : (f g : List Bool) → Agree f g → flagged_rows f ≡ flagged_rows g
  same_rows f g e = row_laws.agree f g e

  one_run : (path : Operand) (d e : Effect) → Runs below n r path d → Runs below n r path e → d ≡ e
  one_run path d e a b =
      let rows : flagged_rows a.flags ≡ flagged_rows b.flags = same_rows a.flags b.flags (flagged_agree tree a.flags b.flags a.found b.found) in
      a.effect
      ∙ (ap (λ (x : List ℕ). record { found = length x; jobs = goes_on r (next_of n r) ++ scripts n.plan r.location tree x; copies = []; tree = tree }) rows
      ∙ sym b.effect)

  module _ (path : Operand) (row : ℕ) (d e : Effect) (a : Reads below n r path row d) (b : Reads below n r path row e) where
    read_pattern : a.pattern ≡ b.pattern
    read_pattern = same_pattern _ a.pattern b.pattern a.there b.there

    read_matches : flagged_rows a.matches ≡ flagged_rows b.matches
    read_matches =
        same_rows a.matches b.matches
        (selected_agree tree a.matches b.matches (subst (λ (m : Pattern). Selected below (path_of n.plan r path) n.plan m tree a.matches) read_pattern a.matched) b.matched)

    abbrev read_by : Pattern → List ℕ → List ℕ → Effect
    read_by m found rows = record {
      found = length found;
      jobs = cond (next_of n r == 0) [] (readers r (next_of n r) m row tree (length n.shelf) rows);
      copies = cond (next_of n r == 0) [] (copies m tree rows);
      tree = tree;
    }

    one_read : d ≡ e
    one_read =
        let found : flagged_rows a.flags ≡ flagged_rows b.flags = same_rows a.flags b.flags (flagged_agree tree a.flags b.flags a.found b.found) in
        a.effect ∙ ((λ i. read_by (read_pattern i) (found i) (read_matches i)) ∙ sym b.effect)

  module _ (path : Operand) (row : ℕ) (content : Content) (d e : Effect) (a : Changes below n r path row content d) (b : Changes below n r path row content e) where
    change_pattern : a.pattern ≡ b.pattern
    change_pattern = same_pattern _ a.pattern b.pattern a.there b.there

    change_after : a.after ≡ b.after
    change_after =
        same_changed (given content (held_in n.plan n.shelf r.slots) (slot_of b.pattern) n.plan.templates tree) tree a.matches b.matches
        (selected_agree tree a.matches b.matches (subst (λ (m : Pattern). Selected below (path_of n.plan r path) n.plan m tree a.matches) change_pattern a.matched) b.matched)
        a.after b.after
        (subst (λ (m : Pattern). Changed a.matches (given content (held_in n.plan n.shelf r.slots) (slot_of m) n.plan.templates tree) tree a.after) change_pattern a.changed)
        b.changed

    one_change : d ≡ e
    one_change =
        let found : flagged_rows a.flags ≡ flagged_rows b.flags = same_rows a.flags b.flags (flagged_agree tree a.flags b.flags a.found b.found) in
        a.effect ∙ ((λ i. record { found = length (found i); jobs = goes_on r (next_of n r); copies = []; tree = change_after i }) ∙ sym b.effect)

  one_enable : (path : Operand) (role : ℕ) (d e : Effect) → Enables below n r path role d → Enables below n r path role e → d ≡ e
  one_enable path role d e a b =
      let found : flagged_rows a.flags ≡ flagged_rows b.flags = same_rows a.flags b.flags (flagged_agree tree a.flags b.flags a.found b.found) in
      let after : a.after ≡ b.after = same_enabled tree a.after b.after a.enabled b.enabled in
      a.effect ∙ ((λ i. record { found = length (found i); jobs = goes_on r (next_of n r); copies = []; tree = after i }) ∙ sym b.effect)

  one_disable : (path : Operand) (role : ℕ) (d e : Effect) → Disables below n r path role d → Disables below n r path role e → d ≡ e
  one_disable path role d e a b =
      let found : flagged_rows a.flags ≡ flagged_rows b.flags = same_rows a.flags b.flags (flagged_agree tree a.flags b.flags a.found b.found) in
      let after : a.after ≡ b.after = same_disabled tree a.after b.after a.disabled b.disabled in
      a.effect ∙ ((λ i. record { found = length (found i); jobs = goes_on r (next_of n r); copies = []; tree = after i }) ∙ sym b.effect)

pub one_effect : OneEffect
one_effect below n r (verb.Fork other) d e a b = a ∙ sym b
one_effect below n r (verb.Go location roles) d e a b = a ∙ sym b
one_effect below n r (verb.Run path) d e a b = one_run below n r path d e a b
one_effect below n r (verb.Read path row) d e a b = one_read below n r path row d e a b
one_effect below n r (verb.Change path row content) d e a b = one_change below n r path row content d e a b
one_effect below n r (verb.Enable path role) d e a b = one_enable below n r path role d e a b
one_effect below n r (verb.Disable path role) d e a b = one_disable below n r path role d e a b
