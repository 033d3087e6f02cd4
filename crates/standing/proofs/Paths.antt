-- Path steps that pass one after the other are paths of at most eight steps.
use Rattle.std.proofs.Common.{◌≡◌, ℕ, zero, suc, ◌+◌, ◌-◌, ◌<◌, ◌≤◌, Bool, true, false, cond, ◌&&◌, eqb, ltb, ◌⊎◌, List, length, get_or, take, None, Decides, sym, refl, ap, ◌∙◌, subst, inl, inr, add-one, arith}
use Rattle.std.proofs.lemmas.Bool.Decides.{nat_tests, Decides-eqb, Decides-ltb, Decides-and}
use Rattle.std.proofs.lemmas.Bool.{cases_lt, cond-true, eq-eqb, eqb-true}
use Rattle.order.specs.RoleSets.{in_use_of, InUse}
use Rattle.order.proofs.Tests.{Decides-in_use_of}
use Rattle.rows.specs.declared.row.PathStepRow.{PathStepRow}
use Rattle.layout.specs.Zeros.{step0}
use Rattle.scan.specs.Scan.{scan, carried}
use Rattle.scan.proofs.Scan.{scan-each, each_scan}
use Rattle.scan.proofs.Tells.{Tells, carried_step, Decides-cond}
use Rattle.standing.specs.declared.sizes.Sizes.{Sizes}
use Rattle.standing.specs.declared.steps.StepsBefore.{StepsBefore}
use Rattle.standing.specs.Tests.{no_steps, step_passes, steps_after}
use Rattle.standing.specs.Words.{StepsStand}

-- a further step of the last path, or the first of the next
abbrev Behind : Sizes → StepsBefore → PathStepRow → Type 0
Behind s b x = (((x.path + 1 ≡ b.paths) × (b.run < 8)) ⊎ ((x.path ≡ b.paths) × (b.paths < 64))) × InUse s.roles x.set

Decides-step : (s : Sizes) (b : StepsBefore) (x : PathStepRow) → Decides (step_passes s b x) (Behind s b x)
Decides-step s b x =
    Decides-and (cond (eqb (x.path + 1) b.paths) (ltb b.run 8) (eqb x.path b.paths && ltb b.paths 64)) (in_use_of s.roles x.set)
    (Decides-cond (eqb (x.path + 1) b.paths) (ltb b.run 8) (eqb x.path b.paths && ltb b.paths 64)
    (Decides-eqb (x.path + 1) b.paths) (Decides-ltb b.run 8)
    (Decides-and (eqb x.path b.paths) (ltb b.paths 64) (Decides-eqb x.path b.paths) (Decides-ltb b.paths 64))
    (λ p r. omega (arith, p, r.0)))
    (Decides-in_use_of s.roles x.set)

module _ (xs : List PathStepRow) where
  abbrev before : ℕ → StepsBefore
  before k = carried steps_after no_steps (take k xs)

  abbrev at : ℕ → ℕ
  at k = (get_or xs k step0).path

  abbrev paths : ℕ → ℕ
  paths k = (before k).paths

  abbrev run : ℕ → ℕ
  run k = (before k).run

  paths-next : (j : ℕ) → j < length xs → paths (suc j) ≡ at j + 1
  paths-next j h = ap (λ (b : StepsBefore). b.paths) (carried_step steps_after no_steps xs j step0 h)

  run-next : (j : ℕ) → j < length xs → run (suc j) ≡ cond (eqb (at j + 1) (paths j)) (cond (ltb (run j) 8) (run j + 1) 8) 1
  run-next j h = ap (λ (b : StepsBefore). b.run) (carried_step steps_after no_steps xs j step0 h)

  -- a further step of the same path is one step more, up to eight
  capped : (n : ℕ) → (cond (ltb n 8) (n + 1) 8 ≤ n + 1) × ((n < 8 → cond (ltb n 8) (n + 1) 8 ≡ n + 1) × (8 ≤ n → cond (ltb n 8) (n + 1) 8 ≡ 8))
  capped n = (grind (arith, nat_tests), (λ h. grind (arith, nat_tests), λ h. grind (arith, nat_tests)))

  run-some : (j : ℕ) → j < length xs → 1 ≤ run (suc j)
  run-some j h = at_least (eqb (at j + 1) (paths j)) (run-next j h)
    where
      at_least : (b : Bool) → run (suc j) ≡ cond b (cond (ltb (run j) 8) (run j + 1) 8) 1 → 1 ≤ run (suc j)
      at_least true e = elim (cases_lt (run j) 8) [ inl l ↦ omega (arith, (capped (run j)).1.0 l) | inr l ↦ omega (arith, (capped (run j)).1.1 l) ]
      at_least false e = omega arith

  run-same : (j : ℕ) → suc j < length xs → at (suc j) ≡ at j → run (suc (suc j)) ≡ cond (ltb (run (suc j)) 8) (run (suc j) + 1) 8
  run-same j h k =
      run-next (suc j) h
      ∙ cond-true (eqb (at (suc j) + 1) (paths (suc j))) (cond (ltb (run (suc j)) 8) (run (suc j) + 1) 8) 1 (eq-eqb (at (suc j) + 1) (paths (suc j)) (omega (arith, paths-next j (omega arith))))

  -- a run of d + 1 rows of one path is counted, up to eight
  long : (i d : ℕ) → d < 8 → d + i < length xs → ((e : ℕ) → e ≤ d → at (e + i) ≡ at i) → d + 1 ≤ run (suc (d + i))
  long i zero few h f = let z : i ≡ 0 + i = omega arith in subst (λ (n : ℕ). 0 + 1 ≤ run (suc n)) z (omega (arith, run-some i (omega arith)))
  long i (suc d) few h f =
      let q : suc d + i ≡ suc (d + i) = omega arith in
      let k : at (suc (d + i)) ≡ at (d + i) = subst (λ (n : ℕ). at n ≡ at (d + i)) q (f (suc d) (omega arith) ∙ sym (f d (omega arith))) in
      let l = long i d (omega arith) (omega arith) (λ e g. f e (omega arith)) in
      let r = run-same (d + i) (omega arith) k in
      subst (λ (n : ℕ). suc d + 1 ≤ run (suc n)) (sym q)
      (elim (cases_lt (run (suc (d + i))) 8) [ inl u ↦ omega (arith, l, r, (capped (run (suc (d + i)))).1.0 u) | inr u ↦ omega (arith, l, r, (capped (run (suc (d + i)))).1.1 u) ])

  -- what is counted is a run of one path
  counted : (j d : ℕ) → j < length xs → d < run (suc j) → (d ≤ j) × ((m : ℕ) → m + d ≡ j → at m ≡ at j)
  counted j zero h l = (omega arith, λ m e. ap at (omega arith))
  counted zero (suc d) h l = absurd (first (eqb (at 0 + 1) 0) refl (run-next 0 h))
    where
      first : (b : Bool) → eqb (at 0 + 1) 0 ≡ b → run 1 ≡ cond b (cond (ltb 0 8) (0 + 1) 8) 1 → ⊥
      first true k e = omega (arith, eqb-true (at 0 + 1) 0 k)
      first false k e = omega arith
  counted (suc j) (suc d) h l = go (λ k. counted j d (omega arith) k) (eqb (at (suc j) + 1) (paths (suc j))) refl (run-next (suc j) h)
    where
      go : (d < run (suc j) → (d ≤ j) × ((m : ℕ) → m + d ≡ j → at m ≡ at j)) → (b : Bool) → eqb (at (suc j) + 1) (paths (suc j)) ≡ b
          → run (suc (suc j)) ≡ cond b (cond (ltb (run (suc j)) 8) (run (suc j) + 1) 8) 1 → (suc d ≤ suc j) × ((m : ℕ) → m + suc d ≡ suc j → at m ≡ at (suc j))
      go c true k e =
          let s : at (suc j) ≡ at j = omega (arith, eqb-true (at (suc j) + 1) (paths (suc j)) k, paths-next j (omega arith)) in
          let r = c (omega (arith, (capped (run (suc j))).0)) in
          (omega (arith, r.0), λ m q. r.1 m (omega arith) ∙ sym s)
      go c false k e = absurd (omega arith)

module _ (s : Sizes) (xs : List PathStepRow) where
  module _ (e : scan (λ b i x. step_passes s b x) steps_after no_steps 0 xs ≡ None) where
    row : (k : ℕ) → k < length xs → Behind s (before xs k) (get_or xs k step0)
    row k h = (Decides-step s (before xs k) (get_or xs k step0)).0 (scan-each (λ b i x. step_passes s b x) steps_after no_steps 0 xs step0 e k h)

    few : (k : ℕ) → k < length xs → at xs k < 64
    few zero h = elim (row zero h).0 [ inl w ↦ absurd (omega (arith, w.0)) | inr w ↦ omega (arith, w.0) ]
    few (suc j) h = elim (row (suc j) h).0 [ inl w ↦ omega (arith, w.0, few j (omega arith), paths-next xs j (omega arith)) | inr w ↦ omega (arith, w.0, w.1) ]

    on : (j : ℕ) → suc j < length xs → (at xs (suc j) ≡ at xs j) ⊎ (at xs (suc j) ≡ at xs j + 1)
    on j h = elim (row (suc j) h).0 [ inl w ↦ inl (omega (arith, w.0, paths-next xs j (omega arith))) | inr w ↦ inr (w.0 ∙ paths-next xs j (omega arith)) ]

    grows : (i d : ℕ) → d + i < length xs → at xs i ≤ at xs (d + i)
    grows i zero h = let z : i ≡ 0 + i = omega arith in subst (λ (n : ℕ). at xs i ≤ at xs n) z (omega arith)
    grows i (suc d) h =
        let q : suc (d + i) ≡ suc d + i = omega arith in
        let g = grows i d (omega arith) in
        subst (λ (n : ℕ). at xs i ≤ at xs n) q (elim (on (d + i) (omega arith)) [ inl k ↦ omega arith | inr k ↦ omega arith ])

    eight : (i : ℕ) → 8 + i < length xs → at xs (8 + i) ≡ at xs i → ⊥
    eight i h k =
        let same : (e : ℕ) → e ≤ 7 → at xs (e + i) ≡ at xs i = λ e l. between e l in
        let l = long xs i 7 (omega arith) (omega arith) same in
        let q : 8 + i ≡ suc (7 + i) = omega arith in
        let k' : at xs (suc (7 + i)) ≡ at xs i = subst (λ (n : ℕ). at xs n ≡ at xs i) q k in
        let p = paths-next xs (7 + i) (omega arith) in
        elim (row (suc (7 + i)) (omega arith)).0 [ inl w ↦ omega (arith, w.1) | inr w ↦ omega (arith, w.0, same 7 (omega arith)) ]
      where
        between : (e : ℕ) → e ≤ 7 → at xs (e + i) ≡ at xs i
        between e l =
            let q : (8 - e) + (e + i) ≡ 8 + i = omega arith in
            let a = grows i e (omega arith) in
            let b : at xs (e + i) ≤ at xs (8 + i) = subst (λ (n : ℕ). at xs (e + i) ≤ at xs n) q (grows (e + i) (8 - e) (omega arith)) in
            omega arith

    steps_there : StepsStand s xs
    steps_there = record {
      sets = λ i h. (row i h).1;
      few = few;
      first = λ h. elim (row zero h).0 [ inl w ↦ absurd (omega (arith, w.0)) | inr w ↦ w.0 ];
      runs_on = λ i h. subst (λ (n : ℕ). (at xs n ≡ at xs i) ⊎ (at xs n ≡ at xs i + 1)) (sym (add-one i)) (on i (omega arith));
      short = λ i h k. let q : i + 8 ≡ 8 + i = omega arith in eight i (omega arith) (subst (λ (n : ℕ). at xs n ≡ at xs i) q k);
    }

  module _ (w : StepsStand s xs) where
    brief : (j : ℕ) → suc j < length xs → at xs (suc j) ≡ at xs j → run xs (suc j) < 8
    brief j h k = elim (cases_lt (run xs (suc j)) 8) [
      | inl l ↦ l
      | inr l ↦
          let c = counted xs j 7 (omega arith) (omega arith) in
          let n = c.0 in
          let a : at xs (j - 7) ≡ at xs j = c.1 (j - 7) (omega arith) in
          let q : suc j ≡ (j - 7) + 8 = omega arith in
          absurd (w.short (j - 7) (omega arith) (subst (λ (n : ℕ). at xs n ≡ at xs (j - 7)) q (k ∙ sym a)))
    ]

    passes : (k : ℕ) → k < length xs → Behind s (before xs k) (get_or xs k step0)
    passes zero h = (inr (w.first h, omega arith), w.sets zero h)
    passes (suc j) h =
        let p = paths-next xs j (omega arith) in (
          elim (subst (λ (n : ℕ). (at xs n ≡ at xs j) ⊎ (at xs n ≡ at xs j + 1)) (add-one j) (w.runs_on j (omega arith))) [
            | inl k ↦ inl (omega arith, brief j h k)
            | inr k ↦ inr (omega arith, omega (arith, w.few (suc j) h))
          ],
          w.sets (suc j) h,
        )

  pub steps_tell : Tells (scan (λ b i x. step_passes s b x) steps_after no_steps 0 xs) (StepsStand s xs)
  steps_tell = (steps_there, λ w. each_scan (λ b i x. step_passes s b x) steps_after no_steps 0 xs step0 (λ k h. (Decides-step s (before xs k) (get_or xs k step0)).1 (passes w k h)))
