-- Flags for the edges found and matched among the lines so far.
use Rattle.std.proofs.Common.{◌≡◌, ℕ, ◌+◌, ◌<◌, ◌≤◌, Bool, true, false, List, length, get_or, Decides, sym, ◌∙◌, subst, inl, inr, arith}
use Rattle.std.proofs.lemmas.Bool.{cases_eq}
use Rattle.std.proofs.lemmas.List.{get_or-set_same, get_or-set_other, length-set}
use Rattle.std.proofs.Math.ListN.{set}
use Rattle.rows.specs.declared.row.PathStepRow.{PathStepRow}
use Rattle.layout.specs.Network.{TreeLines, Plan}
use Rattle.meaning.specs.declared.patterns.Pattern.{Pattern}
use Rattle.edges.specs.Paths.{Found, Flagged}
use Rattle.edges.specs.Matching.{EdgeMatches, Selected}

-- of the flags found, those before row i are matched too
pub record SelectedTo (below : ℕ → ℕ → Bool) (path : List PathStepRow) (p : Plan) (m : Pattern) (t : TreeLines) (i : ℕ) (flags : List Bool) : Type 0 where
  pub long : length flags ≡ 128
  pub done : (k : ℕ) → k < i → Decides (get_or flags k false) (Found below path t k × EdgeMatches below p m t k)
  pub rest : (k : ℕ) → i ≤ k → k < length t → Decides (get_or flags k false) (Found below path t k)
  pub beyond : (k : ℕ) → length t ≤ k → get_or flags k false ≡ false

module _ (below : ℕ → ℕ → Bool) (path : List PathStepRow) (p : Plan) (m : Pattern) (t : TreeLines) where
  pub selected_none : (flags : List Bool) → length flags ≡ 128 → Flagged below path t flags → SelectedTo below path p m t 0 flags
  selected_none flags e f = record { long = e; done = λ k h. absurd (omega arith); rest = λ k l h. f.each k h; beyond = f.beyond }

  -- a test of the flag and of the pattern
  both : (a b : Bool) (P Q : Type 0) → Decides a P → Decides b ((a ≡ true) × Q) → Decides b (P × Q)
  both a b P Q d e = (λ t. let w = e.0 t in (d.0 w.0, w.1), λ w. e.1 (d.1 w.0, w.1))

  -- one turn of the loop
  pub selected_turn : (i : ℕ) (flags : List Bool) (b : Bool) → i < length t → length t ≤ 128 → SelectedTo below path p m t i flags
      → Decides b ((get_or flags i false ≡ true) × EdgeMatches below p m t i) → SelectedTo below path p m t (i + 1) (set flags i b)
  selected_turn i flags b h few w d = record {
    long = length-set flags i b ∙ w.long;
    done = λ k l. elim (cases_eq k i) [
      | inl e ↦
          subst (λ (n : ℕ). Decides (get_or (set flags i b) n false) (Found below path t n × EdgeMatches below p m t n)) (sym e)
          (subst (λ (c : Bool). Decides c (Found below path t i × EdgeMatches below p m t i)) (sym (get_or-set_same flags i b false (omega (arith, w.long))))
          (both (get_or flags i false) b (Found below path t i) (EdgeMatches below p m t i) (w.rest i (omega arith) h) d))
      | inr n ↦ subst (λ (c : Bool). Decides c (Found below path t k × EdgeMatches below p m t k)) (sym (get_or-set_other flags i k b false n)) (w.done k (omega arith))
    ];
    rest = λ k l g. subst (λ (c : Bool). Decides c (Found below path t k)) (sym (get_or-set_other flags i k b false (λ e. omega arith))) (w.rest k (omega arith) g);
    beyond = λ k l. get_or-set_other flags i k b false (λ e. omega arith) ∙ w.beyond k l;
  }

  pub selected_all : (i : ℕ) (flags : List Bool) → length t ≤ i → SelectedTo below path p m t i flags → Selected below path p m t flags
  selected_all i flags e w = record { each = λ k h. w.done k (omega arith); beyond = w.beyond }
