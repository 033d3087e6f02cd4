-- One pass over nested lines with a counter of the steps met finds what a path finds.
use Rattle.std.proofs.Common.{◌≡◌, ℕ, ◌+◌, ◌-◌, ◌<◌, ◌≤◌, min, Bool, List, length, sym, ap, subst, inl, inr, arith}
use Rattle.std.proofs.lemmas.Bool.{cases_eq, cases_lt}
use Rattle.rows.specs.declared.row.PathStepRow.{PathStepRow}
use Rattle.layout.specs.Network.{TreeLines}
use Rattle.obeying.specs.Rules.{line, Above}
use Rattle.edges.specs.Edges.{Nested, Over}
use Rattle.edges.specs.Paths.{Complies, Found}
use Rattle.edges.specs.Counting.{StepsMet, astray, here, missed}
use Rattle.edges.proofs.Nesting.{Open, last_to, some_above, above_over, above_open, open_over, over_parts, over_over}

-- line k and every edge over it comply
pub record Met (below : ℕ → ℕ → Bool) (path : List PathStepRow) (t : TreeLines) (k : ℕ) : Type 0 where
  pub own : Complies below path (line t k)
  pub over : (j : ℕ) → Over t j k → Complies below path (line t j)

-- before line i: an edge that the lines up to i lie under is met exactly when it is no deeper than the counter
pub record Reached (below : ℕ → ℕ → Bool) (path : List PathStepRow) (t : TreeLines) (i met : ℕ) : Type 0 where
  pub each : (k : ℕ) → k < i → Open t k i → (Met below path t k → (line t k).depth ≤ met) × ((line t k).depth ≤ met → Met below path t k)

module _ (below : ℕ → ℕ → Bool) (path : List PathStepRow) (t : TreeLines) where
  pub reached_none : (met : ℕ) → Reached below path t 0 met
  reached_none met = record { each = λ k h. absurd (omega arith) }

  module _ (w : Nested t) (i met : ℕ) (h : i < length t) (r : Reached below path t i met) where
    -- the edges over line i all comply exactly when the counter comes up to the depth above
    over_met : ((j : ℕ) → Over t j i → Complies below path (line t j)) → (line t i).depth - 1 ≤ met
    over_met all = elim (cases_lt 1 (line t i).depth) [
      | inl deep ↦
          let a = some_above w i h deep in
          let v = above_over w a.0 i h a.1 in
          let m : Met below path t a.0 = record { own = all a.0 v; over = λ j u. all j (over_over t j a.0 i u v) } in
          omega (arith, (r.each a.0 a.1.before (above_open w a.0 i h a.1)).0 m, a.1.outer)
      | inr low ↦ omega arith
    ]

    met_over : (line t i).depth - 1 ≤ met → (j : ℕ) → Over t j i → Complies below path (line t j)
    met_over up j v = elim (over_parts w j i h v) [
      | inl a ↦ ((r.each j a.before (above_open w j i h a)).1 (omega (arith, a.outer))).own
      | inr p ↦ ((r.each p.0 p.1.before (above_open w p.0 i h p.1)).1 (omega (arith, p.1.outer))).over j p.2
    ]

    open_still : (k : ℕ) → k < i → Open t k (i + 1) → Open t k i
    open_still k l o m p q = o m p (omega arith)

    -- line i is met
    reached_met : (line t i).depth - 1 ≤ met → Complies below path (line t i) → Reached below path t (i + 1) (line t i).depth
    reached_met up c = record {
      each = λ k l o. elim (cases_eq k i) [
        | inl e ↦ (
          λ m. omega (arith, ap (λ (n : ℕ). (line t n).depth) e),
          λ d. subst (λ (n : ℕ). Met below path t n) (sym e) (record { own = c; over = met_over up }),
        )
        | inr e ↦
            let b : k < i = omega arith in
            let lower : (line t k).depth < (line t i).depth = o i b (omega arith) in
            let there = r.each k b (open_still k b o) in
            (λ m. omega arith, λ d. there.1 (omega arith))
      ];
    }

    -- line i is not met
    reached_missed : (after : ℕ) → ((line t i).depth - 1 ≤ met → Complies below path (line t i) → ⊥) → after ≡ min met ((line t i).depth - 1) → Reached below path t (i + 1) after
    reached_missed after not_met q = record {
      each = λ k l o. elim (cases_eq k i) [
        | inl e ↦ (
          λ m. let own : Met below path t i = subst (λ (n : ℕ). Met below path t n) e m in absurd (not_met (over_met own.over) own.own),
          λ d. absurd (omega (arith, w.low i h, ap (λ (n : ℕ). (line t n).depth) e)),
        )
        | inr e ↦
            let b : k < i = omega arith in
            let lower : (line t k).depth < (line t i).depth = o i b (omega arith) in
            let there = r.each k b (open_still k b o) in
            (λ m. omega (arith, there.0 m), λ d. there.1 (omega arith))
      ];
    }

    pub reached_next : (after : ℕ) → StepsMet below path met (line t i) after → Reached below path t (i + 1) after
    reached_next after (astray far e) = reached_missed after (λ up c. omega arith) (omega arith)
    reached_next after (here near c e) = subst (λ (n : ℕ). Reached below path t (i + 1) n) (sym e) (reached_met (omega arith) c)
    reached_next after (missed near n e) = reached_missed after (λ up c. n c) (omega arith)

    -- line i is directly below an edge found
    module _ (some : 0 < length path) where
      found_open : (j : ℕ) → Found below path t j → Met below path t j
      found_open j f = record { own = f.own; over = f.over }

      pub directly_below : length path ≤ met → (line t i).depth ≡ length path + 1 → (j : ℕ) × Above t j i × Found below path t j
      directly_below up e =
          let a = some_above w i h (omega arith) in
          let m = (r.each a.0 a.1.before (above_open w a.0 i h a.1)).1 (omega (arith, a.1.outer)) in
          (a.0, a.1, record { inside = omega (arith, a.1.before); depth = omega (arith, a.1.outer); own = m.own; over = m.over })

      pub below_directly : (j : ℕ) → Above t j i → Found below path t j → (length path ≤ met) × ((line t i).depth ≡ length path + 1)
      below_directly j a f = (omega (arith, (r.each j a.before (above_open w j i h a)).0 (found_open j f), f.depth), omega (arith, a.outer, f.depth))

      -- line i is under an edge found
      pub under_found : length path ≤ met → length path < (line t i).depth → (f : ℕ) × Found below path t f × Over t f i
      under_found up deep =
          let l = last_to w i (length path) h (omega arith) deep in
          let m = (r.each l.0 l.1.before l.1.open_to).1 (omega (arith, l.1.depth)) in
          (l.0, record { inside = omega (arith, l.1.before); depth = l.1.depth; own = m.own; over = m.over }, open_over w l.0 i l.1.before l.1.open_to (omega (arith, l.1.depth)))

      pub found_under : (f : ℕ) → Found below path t f → Over t f i → (length path ≤ met) × (length path < (line t i).depth)
      found_under f g v = (
        omega (arith, (r.each f v.before (λ k p q. v.deeper k p (omega arith))).0 (found_open f g), g.depth),
        omega (arith, v.deeper i v.before (omega arith), g.depth),
      )

  -- the counter after line i tells whether it is found
  pub found_at : (i met : ℕ) → i < length t → Reached below path t (i + 1) met → length path ≤ met → (line t i).depth ≡ length path → Found below path t i
  found_at i met h r up e =
      let m = (r.each i (omega arith) (λ k p q. absurd (omega arith))).1 (omega arith) in
      record { inside = h; depth = e; own = m.own; over = m.over }

  pub at_found : (i met : ℕ) → Reached below path t (i + 1) met → Found below path t i → (length path ≤ met) × ((line t i).depth ≡ length path)
  at_found i met r f =
      (omega (arith, (r.each i (omega arith) (λ k p q. absurd (omega arith))).0 (record { own = f.own; over = f.over }), f.depth), f.depth)
