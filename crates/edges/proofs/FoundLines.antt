-- Flags for the edges found among the lines so far.
use Rattle.std.proofs.Common.{◌≡◌, ℕ, zero, suc, ◌+◌, ◌<◌, ◌≤◌, Bool, false, List, length, get_or, replicate, Decides, sym, refl, ◌∙◌, subst, inl, inr, arith}
use Rattle.std.proofs.lemmas.Bool.{cases_eq}
use Rattle.std.proofs.lemmas.List.{get_or-set_same, get_or-set_other, length-set, length-replicate}
use Rattle.std.proofs.Math.ListN.{set}
use Rattle.rows.specs.declared.row.PathStepRow.{PathStepRow}
use Rattle.layout.specs.Network.{TreeLines}
use Rattle.obeying.specs.Rules.{line}
use Rattle.edges.specs.Paths.{Found, Flagged}
use Rattle.edges.proofs.Reaching.{Reached, reached_none, found_at, at_found}

pub record Finding (below : ℕ → ℕ → Bool) (path : List PathStepRow) (t : TreeLines) (rooms i met : ℕ) (flags : List Bool) : Type 0 where
  pub long : length flags ≡ rooms
  pub reached : Reached below path t i met
  pub each : (k : ℕ) → k < i → Decides (get_or flags k false) (Found below path t k)
  pub beyond : (k : ℕ) → i ≤ k → get_or flags k false ≡ false

unset : (n k : ℕ) → get_or (replicate n false) k false ≡ false
unset zero k = refl
unset (suc n) zero = refl
unset (suc n) (suc k) = unset n k

module _ (below : ℕ → ℕ → Bool) (path : List PathStepRow) (t : TreeLines) (rooms : ℕ) (few : length t ≤ rooms) where
  pub finding_next : (i met : ℕ) (flags : List Bool) (b : Bool) (met' : ℕ) → i < length t → Finding below path t rooms i met flags
      → Reached below path t (i + 1) met' → Decides b (((line t i).depth ≡ length path) × (length path ≤ met')) → Finding below path t rooms (i + 1) met' (set flags i b)
  finding_next i met flags b met' h f r d = record {
    long = length-set flags i b ∙ f.long;
    reached = r;
    each = λ k l. elim (cases_eq k i) [
      | inl e ↦
          let here : Decides b (Found below path t i) =
          (λ t'. let w = d.0 t' in found_at below path t i met' h r w.1 w.0, λ g. let w = at_found below path t i met' r g in d.1 (w.1, w.0)) in
          subst (λ (n : ℕ). Decides (get_or (set flags i b) n false) (Found below path t n)) (sym e)
          (subst (λ (x : Bool). Decides x (Found below path t i)) (sym (get_or-set_same flags i b false (omega (arith, f.long)))) here)
      | inr e ↦ subst (λ (x : Bool). Decides x (Found below path t k)) (sym (get_or-set_other flags i k b false e)) (f.each k (omega arith))
    ];
    beyond = λ k l. get_or-set_other flags i k b false (λ e. omega arith) ∙ f.beyond k (omega arith);
  }

  pub finding_none : (met : ℕ) → Finding below path t rooms 0 met (replicate rooms false)
  finding_none met = record {
    long = length-replicate rooms false;
    reached = reached_none below path t met;
    each = λ k h. absurd (omega arith);
    beyond = λ k h. unset rooms k;
  }

  pub found_all : (i met : ℕ) (flags : List Bool) → length t ≡ i → Finding below path t rooms i met flags → Flagged below path t flags
  found_all i met flags e f = record { each = λ k h. f.each k (omega arith); beyond = λ k h. f.beyond k (omega arith) }
