-- The first line that breaks a rule.
use Rattle.std.proofs.Common.{◌≡◌, ℕ, zero, suc, ◌+◌, ◌<◌, ◌≤◌, Bool, List, length, Some, None, Option, ap, ◌∙◌, subst, inl, inr, add-one, arith}
use Rattle.std.proofs.lemmas.Bool.{cases_eq}
use Rattle.rows.specs.declared.row.JobRow.{JobRow}
use Rattle.layout.specs.Network.{TreeLines}
use Rattle.scan.specs.Scan.{or_else}
use Rattle.obeying.specs.declared.trees.Rule.{Rule}
use Rattle.obeying.specs.declared.trees.Rule.TheVariants as rule
use Rattle.obeying.specs.declared.trees.Breach.{Breach}
use Rattle.obeying.specs.Rules.{TreeObeys, Asks}
use Rattle.obeying.specs.Breaches.{breach_at, first_breach}

-- ---- the first line

module _ (f : ℕ → Option Rule) where
  pub breach_next : (i : ℕ) → first_breach f i ≡ None → f i ≡ None → first_breach f (i + 1) ≡ None
  unfolding first_breach
  breach_next i e q = ap (first_breach f) (add-one i) ∙ (ap (λ (o : Option Breach). or_else o (breach_at i (f i))) e ∙ ap (breach_at i) q)

  stays : (b : Breach) (m n : ℕ) → m ≤ n → first_breach f m ≡ Some b → first_breach f n ≡ Some b
  unfolding first_breach
  stays b m zero h e = let q : m ≡ 0 = omega arith in subst (λ (k : ℕ). first_breach f k ≡ Some b) q e
  stays b m (suc n) h e = elim (cases_eq m (suc n)) [
    | inl q ↦ subst (λ (k : ℕ). first_breach f k ≡ Some b) q e
    | inr q ↦ ap (λ (o : Option Breach). or_else o (breach_at n (f n))) (stays b m n (omega arith) e)
  ]

  pub breach_here : (i n : ℕ) (r : Rule) → i < n → first_breach f i ≡ None → f i ≡ Some r → first_breach f n ≡ Some (record { row = i; rule = r })
  unfolding first_breach
  breach_here i n r h e q =
      stays (record { row = i; rule = r }) (suc i) n (omega arith) (ap (λ (o : Option Breach). or_else o (breach_at i (f i))) e ∙ ap (breach_at i) q)

-- ---- a tree obeys exactly when each line keeps each rule

module _ {below : ℕ → ℕ → Bool} {least : ℕ} {jobs : List JobRow} {policy : ℕ} {t : TreeLines} where
  pub obeys_from : ((i : ℕ) → i < length t → (r : Rule) → Asks below least jobs policy t i r) → TreeObeys below least jobs policy t
  obeys_from w = record { least = λ i h. w i h rule.Least; above = λ i j h. w i h rule.Above j; scripts = λ i h. w i h rule.Script }
