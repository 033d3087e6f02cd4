-- Lines added one after the other.
use Rattle.std.proofs.Common.{◌≡◌, ℕ, ◌+◌, ◌<◌, ◌≤◌, max, min, cond, ltb, leb, [], ◌∷◌, ◌++◌, length, take, drop, set, replicate, Some, None, sym, refl, ap, ◌∙◌, inl, inr, append_assoc, arith, rules}
use Rattle.std.proofs.lemmas.Bool.{cases_lt, cases_eq, cond-true, cond-false, lt-ltb, le-ltb, le-leb, lt-leb}
use Rattle.std.proofs.lemmas.List.{same_lists, places, get_or-set_same, length-append, append-nil, drop_more}
use Rattle.rows.specs.declared.row.TreeLine.{TreeLine}
use Rattle.layout.specs.Held.{pad}
use Rattle.layout.specs.Network.{TreeLines, tree_of}
use Rattle.layout.specs.Zeros.{line0}
use Rattle.obeying.specs.Rules.{line}
use Rattle.obeying.specs.TreeLaws.{at_depth, lowered}
use Rattle.outcomes.specs.declared.outcome.Outcome.{Outcome}
use Rattle.outcomes.specs.Outcomes.{deepest, outcome_of, added, added_all}

pub added_append : (o : Outcome) (xs ys : TreeLines) → added_all o (xs ++ ys) ≡ added_all (added_all o xs) ys
added_append o [] ys = refl
added_append o (x ∷ xs) ys = added_append (added o x) xs ys

-- one turn of the loop over the lines of a tree
pub lowered_turn : (levels i : ℕ) (t : TreeLines) (o o' w : Outcome) → i < length t → added_all o (lowered levels (drop i t)) ≡ w
    → o' ≡ added o (at_depth (line t i) ((line t i).depth + levels)) → added_all o' (lowered levels (drop (i + 1) t)) ≡ w
lowered_turn levels i t o o' w h e a =
    ap (λ (p : Outcome). added_all p (lowered levels (drop (i + 1) t))) a
    ∙ (sym (ap (λ (xs : TreeLines). added_all o (lowered levels xs)) (drop_more t i line0 h)) ∙ e)

deepest-append : (n : ℕ) (xs : TreeLines) (x : TreeLine) → deepest n (xs ++ x ∷ []) ≡ max (deepest n xs) x.depth
deepest-append n [] x = refl
deepest-append n (y ∷ ys) x = deepest-append (max n y.depth) ys x

-- the first rows, with one line more: over any room
written : (room : ℕ) (xs : TreeLines) (x : TreeLine) → length xs < room
    → set (take room (xs ++ replicate room line0)) (length xs) x ≡ take room ((xs ++ x ∷ []) ++ replicate room line0)
written room xs x h = same_lists _ _ (search (rules, places)) (λ k d l. grind (arith, places, get_or-set_same, cases_eq k (length xs)))

unwritten : (room : ℕ) (xs : TreeLines) (x : TreeLine) → room ≤ length xs → take room (xs ++ replicate room line0) ≡ take room ((xs ++ x ∷ []) ++ replicate room line0)
unwritten room xs x h = same_lists _ _ (search (rules, places)) (λ k d l. grind (arith, places))

pub added_one : (xs : TreeLines) (x : TreeLine) → added (outcome_of xs) x ≡ outcome_of (xs ++ x ∷ [])
unfolding added
added_one xs x = λ i. record { count = count i; deepest = sym (deepest-append 0 xs x) i; lines = lines i }
  where
    count : min (min (length xs) 129 + 1) 129 ≡ min (length (xs ++ x ∷ [])) 129
    count = omega (arith, length-append xs (x ∷ []))

    lines : cond (ltb (min (length xs) 129) 128) (set (take 128 (xs ++ replicate 128 line0)) (min (length xs) 129) x) (take 128 (xs ++ replicate 128 line0))
        ≡ take 128 ((xs ++ x ∷ []) ++ replicate 128 line0)
    lines = elim (cases_lt (length xs) 128) [
      | inl l ↦
          let few : min (length xs) 129 ≡ length xs = omega arith in
          cond-true (ltb (min (length xs) 129) 128) (set (take 128 (xs ++ replicate 128 line0)) (min (length xs) 129) x) (take 128 (xs ++ replicate 128 line0)) (lt-ltb (min (length xs) 129) 128 (omega arith))
          ∙ (ap (λ (n : ℕ). set (take 128 (xs ++ replicate 128 line0)) n x) few ∙ written 128 xs x l)
      | inr l ↦
          cond-false (ltb (min (length xs) 129) 128) (set (take 128 (xs ++ replicate 128 line0)) (min (length xs) 129) x) (take 128 (xs ++ replicate 128 line0)) (le-ltb (min (length xs) 129) 128 (omega arith))
          ∙ unwritten 128 xs x l
    ]

-- what is told of all lines
pub added_outcome : (xs ys : TreeLines) → added_all (outcome_of xs) ys ≡ outcome_of (xs ++ ys)
added_outcome xs [] = ap outcome_of (sym (append-nil xs))
added_outcome xs (y ∷ ys) =
    ap (λ (o : Outcome). added_all o ys) (added_one xs y) ∙ (added_outcome (xs ++ y ∷ []) ys ∙ ap outcome_of (append_assoc xs (y ∷ []) ys))

-- ---- the tree, where it has room

pub few : (room : ℕ) (xs : TreeLines) → length xs ≤ room → take room (xs ++ replicate room line0) ≡ pad room line0 xs
few room xs h = same_lists _ _ (search (rules, places)) (λ k d l. grind (arith, places))

pub there : (o : Outcome) (xs : TreeLines) → o ≡ outcome_of xs → o.count ≤ 128
    → Some (record { count = o.count; rows = o.lines }) ≡ cond (leb (length xs) 128) (Some (tree_of xs)) None
there o xs e h =
    let count : o.count ≡ min (length xs) 129 = ap (λ (p : Outcome). p.count) e in
    let short : length xs ≤ 128 = omega arith in
    let same : o.count ≡ length xs = omega arith in
    let rows : o.lines ≡ pad 128 line0 xs = ap (λ (p : Outcome). p.lines) e ∙ few 128 xs short in
    (λ i. Some (record { count = same i; rows = rows i })) ∙ sym (cond-true (leb (length xs) 128) (Some (tree_of xs)) None (le-leb (length xs) 128 short))

pub not_there : (o : Outcome) (xs : TreeLines) → o ≡ outcome_of xs → 128 < o.count → None ≡ cond (leb (length xs) 128) (Some (tree_of xs)) None
not_there o xs e h =
    let count : o.count ≡ min (length xs) 129 = ap (λ (p : Outcome). p.count) e in
    sym (cond-false (leb (length xs) 128) (Some (tree_of xs)) None (lt-leb (length xs) 128 (omega arith)))
