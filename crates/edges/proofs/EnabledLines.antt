-- The lines so far, with the role enabled.
use Rattle.std.proofs.Common.{◌≡◌, ℕ, ◌+◌, ◌<◌, ◌≤◌, Bool, List, length, sym, refl, ap, ◌∙◌, subst, inl, inr, arith}
use Rattle.std.proofs.lemmas.Bool.{cases_eq}
use Rattle.std.proofs.lemmas.List.{get_or-set_same, get_or-set_other, length-set}
use Rattle.std.proofs.Math.ListN.{set}
use Rattle.rows.specs.declared.row.PathStepRow.{PathStepRow}
use Rattle.rows.specs.declared.row.TreeLine.{TreeLine}
use Rattle.layout.specs.Network.{TreeLines}
use Rattle.layout.specs.Zeros.{line0}
use Rattle.obeying.specs.Rules.{line}
use Rattle.edges.specs.Edges.{Nested, with_set}
use Rattle.edges.specs.Enabling.{EnabledLine, directly, elsewhere, Enabled}
use Rattle.edges.specs.Counting.{StepsMet, EnabledSet, added, unchanged}
use Rattle.edges.proofs.Reaching.{Reached, reached_none, reached_next, directly_below, below_directly}

-- t: the tree at the start; now: the tree with the lines before i done
pub record EnabledTo (below : ℕ → ℕ → Bool) (path : List PathStepRow) (role : ℕ) (t : TreeLines) (i met : ℕ) (now : TreeLines) : Type 0 where
  pub long : length now ≡ length t
  pub reached : Reached below path t i met
  pub done : (k : ℕ) → k < i → EnabledLine below path role t k (line now k)
  pub rest : (k : ℕ) → i ≤ k → line now k ≡ line t k

module _ (below : ℕ → ℕ → Bool) (path : List PathStepRow) (role : ℕ) (t : TreeLines) where
  pub enabled_none : (met : ℕ) → EnabledTo below path role t 0 met t
  enabled_none met = record { long = refl; reached = reached_none below path t met; done = λ k h. absurd (omega arith); rest = λ k h. refl }

  pub enabled_line : (i met set' : ℕ) → Nested t → 0 < length path → i < length t → Reached below path t i met
      → EnabledSet path role met (line t i) set' → EnabledLine below path role t i (with_set (line t i) set')
  enabled_line i met set' w some h r (added up d e) =
      let v = directly_below below path t w i met h r some up d in directly v.0 v.1 v.2 (ap (λ (n : ℕ). with_set (line t i) n) e)
  enabled_line i met set' w some h r (unchanged f e) =
      elsewhere (λ j a g. let v = below_directly below path t w i met h r some j a g in f v.0 v.1) (ap (λ (n : ℕ). with_set (line t i) n) e)

  pub enabled_next : (i met met' : ℕ) (now : TreeLines) (x : TreeLine) → i < length t → EnabledTo below path role t i met now
      → Reached below path t (i + 1) met' → EnabledLine below path role t i x → EnabledTo below path role t (i + 1) met' (set now i x)
  enabled_next i met met' now x h w r e = record {
    long = length-set now i x ∙ w.long;
    reached = r;
    done = λ k l. elim (cases_eq k i) [
      | inl q ↦
          subst (λ (n : ℕ). EnabledLine below path role t n (line (set now i x) n)) (sym q)
          (subst (λ (y : TreeLine). EnabledLine below path role t i y) (sym (get_or-set_same now i x line0 (omega (arith, w.long)))) e)
      | inr q ↦ subst (λ (y : TreeLine). EnabledLine below path role t k y) (sym (get_or-set_other now i k x line0 q)) (w.done k (omega arith))
    ];
    rest = λ k l. get_or-set_other now i k x line0 (λ q. omega arith) ∙ w.rest k (omega arith);
  }

  -- one turn of the loop
  pub enabled_turn : (i met met' set' : ℕ) (now : TreeLines) → Nested t → 0 < length path → i < length t → EnabledTo below path role t i met now
      → EnabledSet path role met (line now i) set' → StepsMet below path met (line now i) met'
      → EnabledTo below path role t (i + 1) met' (set now i (with_set (line now i) set'))
  enabled_turn i met met' set' now w some h done e m =
      let same = done.rest i (omega arith) in
      let old = subst (λ (x : TreeLine). EnabledSet path role met x set') same e in
      let counted = subst (λ (x : TreeLine). StepsMet below path met x met') same m in
      enabled_next i met met' now (with_set (line now i) set') h done (reached_next below path t w i met h done.reached met' counted)
      (subst (λ (x : TreeLine). EnabledLine below path role t i (with_set x set')) (sym same) (enabled_line i met set' w some h done.reached old))

  pub enabled_all : (i met : ℕ) (now : TreeLines) → length t ≤ i → EnabledTo below path role t i met now → Enabled below path role t now
  enabled_all i met now h w = record { long = w.long; each = λ k l. w.done k (omega arith) }
