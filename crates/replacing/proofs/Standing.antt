-- Trees, line by line: each line is held to the last edge that is one level above, and may be no deeper than the line before allows.
use Rattle.std.proofs.Common.{◌≡◌, ℕ, zero, suc, ◌+◌, ◌-◌, ◌<◌, ◌≤◌, Bool, true, false, cond, eqb, [], ◌∷◌, length, Some, None, Option, sym, refl, subst, inl, inr, arith}
use Rattle.std.proofs.lemmas.Bool.{cases_eq, eqb-true, eqb-false, cond_both}
use Rattle.rows.specs.declared.row.TreeLine.{TreeLine}
use Rattle.layout.specs.Network.{TreeLines}
use Rattle.obeying.specs.Rules.{line, Above}

-- the set of the last edge of each depth, with one more
unfoldable pub put : (ℕ → Option ℕ) → ℕ → ℕ → ℕ → Option ℕ
put at d set k = cond (eqb k d) (Some set) (at k)

-- a tree that lies under an edge of this set
unfoldable pub root : ℕ → ℕ → Option ℕ
root set k = cond (eqb k 0) (Some set) None

-- how deep the line behind this one may be
unfoldable pub room : TreeLine → ℕ
room x = cond (eqb x.content 0) (x.depth + 1) x.depth

pub put_two : (P : Option ℕ → Option ℕ → Type 0) (at at' : ℕ → Option ℕ) (d s s' k : ℕ) → (k ≡ d → P (Some s) (Some s')) → ((k ≡ d → ⊥) → P (at k) (at' k)) → P (put at d s k) (put at' d s' k)
unfolding put
put_two P at at' d s s' k same other = go (eqb k d) refl
  where
    go : (b : Bool) → eqb k d ≡ b → P (cond b (Some s) (at k)) (cond b (Some s') (at' k))
    go true e = same (eqb-true k d e)
    go false e = other (eqb-false k d e)

pub put_one : (P : Option ℕ → Type 0) (at : ℕ → Option ℕ) (d s k : ℕ) → (k ≡ d → P (Some s)) → ((k ≡ d → ⊥) → P (at k)) → P (put at d s k)
put_one P at d s k same other = put_two (λ x y. P x) at at d s s k same other

pub put_same : (at : ℕ → Option ℕ) (d s k : ℕ) → k ≡ d → put at d s k ≡ Some s
put_same at d s k e = put_one (λ x. x ≡ Some s) at d s k (λ q. refl) (λ n. absurd (n e))

pub put_other : (at : ℕ → Option ℕ) (d s k : ℕ) → (k ≡ d → ⊥) → put at d s k ≡ at k
put_other at d s k n = put_one (λ x. x ≡ at k) at d s k (λ q. absurd (n q)) (λ m. refl)

pub root_top : (set k : ℕ) (P : Option ℕ → Type 0) → k < 1 → P (Some set) → P (root set k)
unfolding root
root_top set k P h p = cond_both (eqb k 0) (Some set) None P (λ e. p) (λ e. absurd (eqb-false k 0 e (omega arith)))

pub root_zero : (set : ℕ) → root set 0 ≡ Some set
unfolding root
root_zero set = refl

pub room_most : (x : TreeLine) → room x ≤ x.depth + 1
unfolding room
room_most x = cond_both (eqb x.content 0) (x.depth + 1) x.depth (λ n. n ≤ x.depth + 1) (λ e. omega arith) (λ e. omega arith)

pub room_least : (x : TreeLine) → x.depth ≤ room x
unfolding room
room_least x = cond_both (eqb x.content 0) (x.depth + 1) x.depth (λ n. x.depth ≤ n) (λ e. omega arith) (λ e. omega arith)

-- deeper than the line only under content 0
pub room_deeper : (x : TreeLine) → x.depth < room x → x.content ≡ 0
unfolding room
room_deeper x = cond_both (eqb x.content 0) (x.depth + 1) x.depth (λ n. x.depth < n → x.content ≡ 0) (λ e l. eqb-true x.content 0 e) (λ e l. absurd (omega arith))

pub room_of : (x : TreeLine) (d : ℕ) → d ≤ x.depth + 1 → (d ≡ x.depth + 1 → x.content ≡ 0) → d ≤ room x
unfolding room
room_of x d h f = cond_both (eqb x.content 0) (x.depth + 1) x.depth (λ n. d ≤ n) (λ e. h) (λ e. elim (cases_eq d (x.depth + 1)) [ inl q ↦ absurd (eqb-false x.content 0 e (f q)) | inr q ↦ omega arith ])

-- what an edge asks of the set of a line directly below it
abbrev pub Asks : (ℕ → ℕ → Type 0) → Option ℕ → ℕ → Type 0
Asks Le None set = Unit {0}
Asks Le (Some above) set = Le above set

module _ (Le : ℕ → ℕ → Type 0) (Ok : TreeLine → Type 0) where
  -- the lines stand behind others, where `at` has the last sets of those
  abbrev pub Stands : (ℕ → Option ℕ) → ℕ → TreeLines → Type 0
  Stands at r [] = Unit {0}
  Stands at r (x ∷ xs) = (1 ≤ x.depth) × (x.depth ≤ r) × Asks Le (at (x.depth - 1)) x.set × Ok x × Stands (put at x.depth x.set) (room x) xs

  -- ---- from the words

  -- there is no edge above line i among the lines
  abbrev pub Top : TreeLines → ℕ → Type 0
  Top t i = (k : ℕ) → k < i → (line t k).depth + 1 ≡ (line t i).depth → ⊥

  pub record Words (at : ℕ → Option ℕ) (r : ℕ) (t : TreeLines) : Type 0 where
    pub first : 0 < length t → (line t 0).depth ≤ r
    pub low : (i : ℕ) → i < length t → 1 ≤ (line t i).depth
    pub next : (i : ℕ) → suc i < length t → (line t (suc i)).depth ≤ room (line t i)
    pub each : (i : ℕ) → i < length t → Ok (line t i)
    pub top : (i : ℕ) → i < length t → Top t i → Asks Le (at ((line t i).depth - 1)) (line t i).set
    pub above : (j i : ℕ) → i < length t → Above t j i → Le (line t j).set (line t i).set

  above_later : (x : TreeLine) (xs : TreeLines) (j i : ℕ) → Above xs j i → Above (x ∷ xs) (suc j) (suc i)
  above_later x xs j i a = record { before = omega (arith, a.before); outer = a.outer; nearest = near }
    where
      near : (k : ℕ) → suc j < k → k < suc i → (line (x ∷ xs) k).depth + 1 ≡ (line xs i).depth → ⊥
      near zero p q = absurd (omega arith)
      near (suc k) p q = a.nearest k (omega arith) (omega arith)

  above_earlier : (x : TreeLine) (xs : TreeLines) (j i : ℕ) → Above (x ∷ xs) (suc j) (suc i) → Above xs j i
  above_earlier x xs j i a = record { before = omega (arith, a.before); outer = a.outer; nearest = λ k p q. a.nearest (suc k) (omega arith) (omega arith) }

  above_first : (x : TreeLine) (xs : TreeLines) (i : ℕ) → x.depth + 1 ≡ (line xs i).depth → Top xs i → Above (x ∷ xs) 0 (suc i)
  above_first x xs i e n = record { before = omega arith; outer = e; nearest = near }
    where
      near : (k : ℕ) → 0 < k → k < suc i → (line (x ∷ xs) k).depth + 1 ≡ (line xs i).depth → ⊥
      near zero p q = absurd (omega arith)
      near (suc k) p q = n k (omega arith)

  top_later : (x : TreeLine) (xs : TreeLines) (i : ℕ) → (x.depth + 1 ≡ (line xs i).depth → ⊥) → Top xs i → Top (x ∷ xs) (suc i)
  top_later x xs i n t zero h = n
  top_later x xs i n t (suc k) h = t k (omega arith)

  pub stands_from : (t : TreeLines) (at : ℕ → Option ℕ) (r : ℕ) → Words at r t → Stands at r t
  stands_from [] at r w = tt
  stands_from (x ∷ xs) at r w = (
    w.low 0 (omega arith),
    w.first (omega arith),
    w.top 0 (omega arith) (λ k h. absurd (omega arith)),
    w.each 0 (omega arith),
    stands_from xs (put at x.depth x.set) (room x) (record {
      first = λ h. w.next 0 (omega arith);
      low = λ i h. w.low (suc i) (omega arith);
      next = λ i h. w.next (suc i) (omega arith);
      each = λ i h. w.each (suc i) (omega arith);
      top = top;
      above = λ j i h a. w.above (suc j) (suc i) (omega arith) (above_later x xs j i a);
    }),
  )
    where
      top : (i : ℕ) → i < length xs → Top xs i → Asks Le (put at x.depth x.set ((line xs i).depth - 1)) (line xs i).set
      top i h n = elim (cases_eq (x.depth + 1) (line xs i).depth) [
        | inl e ↦ subst (λ (o : Option ℕ). Asks Le o (line xs i).set) (sym (put_same at x.depth x.set ((line xs i).depth - 1) (omega arith))) (w.above 0 (suc i) (omega arith) (above_first x xs i e n))
        | inr e ↦
            subst (λ (o : Option ℕ). Asks Le o (line xs i).set) (sym (put_other at x.depth x.set ((line xs i).depth - 1) (λ q. omega (arith, w.low (suc i) (omega arith)))))
            (w.top (suc i) (omega arith) (top_later x xs i e n))
      ]

  -- ---- and back

  pub low_from : (t : TreeLines) (at : ℕ → Option ℕ) (r i : ℕ) → i < length t → Stands at r t → 1 ≤ (line t i).depth
  low_from [] at r i h s = absurd (omega arith)
  low_from (x ∷ xs) at r zero h s = s.0
  low_from (x ∷ xs) at r (suc i) h s = low_from xs (put at x.depth x.set) (room x) i (omega arith) s.4

  pub top_from : (t : TreeLines) (at : ℕ → Option ℕ) (r i : ℕ) → i < length t → Stands at r t → Top t i → Asks Le (at ((line t i).depth - 1)) (line t i).set
  top_from [] at r i h s n = absurd (omega arith)
  top_from (x ∷ xs) at r zero h s n = s.2
  top_from (x ∷ xs) at r (suc i) h s n =
      subst (λ (o : Option ℕ). Asks Le o (line xs i).set) (put_other at x.depth x.set ((line xs i).depth - 1) (λ q. n 0 (omega arith) (omega (arith, low_from xs (put at x.depth x.set) (room x) i (omega arith) s.4))))
      (top_from xs (put at x.depth x.set) (room x) i (omega arith) s.4 (λ k l. n (suc k) (omega arith)))

  pub above_from : (t : TreeLines) (at : ℕ → Option ℕ) (r j i : ℕ) → i < length t → Stands at r t → Above t j i → Le (line t j).set (line t i).set
  above_from [] at r j i h s a = absurd (omega arith)
  above_from (x ∷ xs) at r j zero h s a = absurd (omega (arith, a.before))
  above_from (x ∷ xs) at r zero (suc i) h s a =
      subst (λ (o : Option ℕ). Asks Le o (line xs i).set) (put_same at x.depth x.set ((line xs i).depth - 1) (omega (arith, a.outer)))
      (top_from xs (put at x.depth x.set) (room x) i (omega arith) s.4 (λ k l. a.nearest (suc k) (omega arith) (omega arith)))
  above_from (x ∷ xs) at r (suc j) (suc i) h s a = above_from xs (put at x.depth x.set) (room x) j i (omega arith) s.4 (above_earlier x xs j i a)

  pub each_from : (t : TreeLines) (at : ℕ → Option ℕ) (r i : ℕ) → i < length t → Stands at r t → Ok (line t i)
  each_from [] at r i h s = absurd (omega arith)
  each_from (x ∷ xs) at r zero h s = s.3
  each_from (x ∷ xs) at r (suc i) h s = each_from xs (put at x.depth x.set) (room x) i (omega arith) s.4

  pub first_from : (t : TreeLines) (at : ℕ → Option ℕ) (r : ℕ) → Stands at r t → 0 < length t → (line t 0).depth ≤ r
  first_from [] at r s h = absurd (omega arith)
  first_from (x ∷ xs) at r s h = s.1

  pub next_from : (t : TreeLines) (at : ℕ → Option ℕ) (r i : ℕ) → suc i < length t → Stands at r t → (line t (suc i)).depth ≤ room (line t i)
  next_from [] at r i h s = absurd (omega arith)
  next_from (x ∷ xs) at r zero h s = first_from xs (put at x.depth x.set) (room x) s.4 (omega arith)
  next_from (x ∷ xs) at r (suc i) h s = next_from xs (put at x.depth x.set) (room x) i (omega arith) s.4
