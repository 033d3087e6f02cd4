-- The lines so far, with the role disabled.
use Rattle.std.proofs.Common.{◌≡◌, ℕ, ◌+◌, ◌-◌, ◌<◌, ◌≤◌, Bool, List, length, get_or, sym, refl, ap, ◌∙◌, subst, inl, inr, arith}
use Rattle.std.proofs.lemmas.Bool.{cases_eq}
use Rattle.std.proofs.lemmas.List.{get_or-set_same, get_or-set_other, length-set}
use Rattle.std.proofs.Math.ListN.{set}
use Rattle.order.specs.RoleSets.{kept}
use Rattle.rows.specs.declared.row.PathStepRow.{PathStepRow}
use Rattle.rows.specs.declared.row.TreeLine.{TreeLine}
use Rattle.layout.specs.Network.{TreeLines}
use Rattle.layout.specs.Zeros.{line0}
use Rattle.obeying.specs.Rules.{line}
use Rattle.edges.specs.Edges.{Nested, with_set}
use Rattle.edges.specs.Disabling.{stays, DisabledLine, under, elsewhere, Disabled}
use Rattle.edges.specs.Counting.{StepsMet, DisabledSet, reduced, spared}
use Rattle.edges.proofs.Nesting.{Open, some_above, above_open}
use Rattle.edges.proofs.Reaching.{Reached, reached_none, reached_next, under_found, found_under}

-- t: the tree at the start; now: the tree with the lines before i done; left: what is left on the last edge of each depth
pub record DisabledTo (below : ℕ → ℕ → Bool) (path : List PathStepRow) (role : ℕ) (t : TreeLines) (most i met : ℕ) (left : List ℕ) (now : TreeLines) : Type 0 where
  pub long : length now ≡ length t
  pub rooms : length left ≡ most + 1
  pub reached : Reached below path t i met
  pub done : (k : ℕ) → k < i → DisabledLine below path role t now k
  pub rest : (k : ℕ) → i ≤ k → line now k ≡ line t k
  pub lasts : (k : ℕ) → k < i → Open t k i → get_or left (line t k).depth 0 ≡ (line now k).set

module _ (below : ℕ → ℕ → Bool) (path : List PathStepRow) (role : ℕ) (t : TreeLines) (most : ℕ) where
  pub disabled_none : (met : ℕ) (left : List ℕ) → length left ≡ most + 1 → DisabledTo below path role t most 0 met left t
  disabled_none met left e = record {
    long = refl;
    rooms = e;
    reached = reached_none below path t met;
    done = λ k h. absurd (omega arith);
    rest = λ k h. refl;
    lasts = λ k h. absurd (omega arith);
  }

  -- a later line does not matter
  still : (now : TreeLines) (i k : ℕ) (x : TreeLine) → k < i → DisabledLine below path role t now k → DisabledLine below path role t (set now i x) k
  still now i k x h (elsewhere n e) = elsewhere n (get_or-set_other now i k x line0 (λ q. omega arith) ∙ e)
  still now i k x h (under f j g v a e) =
      let there : line (set now i x) j ≡ line now j = get_or-set_other now i j x line0 (λ q. omega (arith, a.before)) in
      under f j g v a
      (get_or-set_other now i k x line0 (λ q. omega arith)
      ∙ subst (λ (y : TreeLine). line now k ≡ with_set (line t k) (kept (stays below role y.set) (line t k).set)) (sym there) e)

  module _ (w : Nested t) (some : 0 < length path) (deep : (i : ℕ) → i < length t → (line t i).depth ≤ most) where
    disabled_line : (i met : ℕ) (left : List ℕ) (now : TreeLines) (s : ℕ) → i < length t → DisabledTo below path role t most i met left now
        → DisabledSet below path role met (get_or left ((line t i).depth - 1) 0) (line t i) s
        → DisabledLine below path role t (set now i (with_set (line t i) s)) i
    disabled_line i met left now s h done (spared n e) =
        elsewhere (λ f g v. let p = found_under below path t w i met h done.reached some f g v in n p.0 p.1)
        (get_or-set_same now i (with_set (line t i) s) line0 (omega (arith, done.long)) ∙ ap (λ (n : ℕ). with_set (line t i) n) e)
    disabled_line i met left now s h done (reduced up d e) =
        let f = under_found below path t w i met h done.reached some up d in
        let a = some_above w i h (omega arith) in
        let outer : (line t i).depth - 1 ≡ (line t a.0).depth = omega (arith, a.1.outer) in
        let above : get_or left ((line t i).depth - 1) 0 ≡ (line now a.0).set =
        ap (λ (n : ℕ). get_or left n 0) outer ∙ done.lasts a.0 a.1.before (above_open w a.0 i h a.1) in
        let there : line (set now i (with_set (line t i) s)) a.0 ≡ line now a.0 =
        get_or-set_other now i a.0 (with_set (line t i) s) line0 (λ q. omega (arith, a.1.before)) in
        under f.0 a.0 f.1 f.2 a.1
        (get_or-set_same now i (with_set (line t i) s) line0 (omega (arith, done.long))
        ∙ ap (λ (n : ℕ). with_set (line t i) n)
        (e ∙ ap (λ (n : ℕ). kept (stays below role n) (line t i).set) (above ∙ sym (ap (λ (y : TreeLine). y.set) there))))

    disabled_next : (i met met' : ℕ) (left : List ℕ) (now : TreeLines) (s : ℕ) → i < length t → DisabledTo below path role t most i met left now
        → Reached below path t (i + 1) met' → DisabledSet below path role met (get_or left ((line t i).depth - 1) 0) (line t i) s
        → DisabledTo below path role t most (i + 1) met' (set left (line t i).depth s) (set now i (with_set (line t i) s))
    disabled_next i met met' left now s h d r e =
        let x = with_set (line t i) s in
        record {
          long = length-set now i x ∙ d.long;
          rooms = length-set left (line t i).depth s ∙ d.rooms;
          reached = r;
          done = λ k l. elim (cases_eq k i) [
            | inl q ↦ subst (λ (n : ℕ). DisabledLine below path role t (set now i x) n) (sym q) (disabled_line i met left now s h d e)
            | inr q ↦ still now i k x (omega arith) (d.done k (omega arith))
          ];
          rest = λ k l. get_or-set_other now i k x line0 (λ q. omega arith) ∙ d.rest k (omega arith);
          lasts = λ k l o. elim (cases_eq k i) [
            | inl q ↦
                subst (λ (n : ℕ). get_or (set left (line t i).depth s) (line t n).depth 0 ≡ (line (set now i x) n).set) (sym q)
                (get_or-set_same left (line t i).depth s 0 (omega (arith, d.rooms, deep i h))
                ∙ sym (ap (λ (y : TreeLine). y.set) (get_or-set_same now i x line0 (omega (arith, d.long)))))
            | inr q ↦
                let b : k < i = omega arith in
                let lower : (line t k).depth < (line t i).depth = o i b (omega arith) in
                get_or-set_other left (line t i).depth (line t k).depth s 0 (λ z. omega arith)
                ∙ (d.lasts k b (λ m u v. o m u (omega arith)) ∙ sym (ap (λ (y : TreeLine). y.set) (get_or-set_other now i k x line0 q)))
          ];
        }

    -- one turn of the loop
    pub disabled_turn : (i met met' : ℕ) (left : List ℕ) (now : TreeLines) (s : ℕ) → i < length t → DisabledTo below path role t most i met left now
        → DisabledSet below path role met (get_or left ((line now i).depth - 1) 0) (line now i) s → StepsMet below path met (line now i) met'
        → DisabledTo below path role t most (i + 1) met' (set left (line now i).depth s) (set now i (with_set (line now i) s))
    disabled_turn i met met' left now s h d e m =
        let same = d.rest i (omega arith) in
        let old = subst (λ (x : TreeLine). DisabledSet below path role met (get_or left (x.depth - 1) 0) x s) same e in
        let counted = subst (λ (x : TreeLine). StepsMet below path met x met') same m in
        subst (λ (x : TreeLine). DisabledTo below path role t most (i + 1) met' (set left x.depth s) (set now i (with_set x s))) (sym same)
        (disabled_next i met met' left now s h d (reached_next below path t w i met h d.reached met' counted) old)

  pub disabled_all : (i met : ℕ) (left : List ℕ) (now : TreeLines) → length t ≤ i → DisabledTo below path role t most i met left now → Disabled below path role t now
  disabled_all i met left now h d = record { long = d.long; each = λ k l. d.done k (omega arith) }
