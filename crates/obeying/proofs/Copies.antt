-- Copies and parts of trees that obey.
use Rattle.std.proofs.Common.{◌≡◌, ℕ, zero, suc, ◌+◌, ◌-◌, ◌<◌, Bool, true, false, cond, ltb, List, [], ◌∷◌, length, drop, sym, refl, ap, ◌∙◌, subst, inl, inr, arith}
use Rattle.std.proofs.lemmas.Bool.{cases_lt, ltb-true}
use Rattle.std.proofs.lemmas.List.{length-drop, get_or-drop}
use Rattle.order.specs.Laws.{Lawful}
use Rattle.order.specs.RoleSets.{SetBelow}
use Rattle.order.proofs.Sets.{sets_ordered}
use Rattle.rows.specs.declared.row.TreeLine.{TreeLine}
use Rattle.rows.specs.declared.row.JobRow.{JobRow}
use Rattle.layout.specs.Network.{TreeLines}
use Rattle.layout.specs.Zeros.{line0}
use Rattle.obeying.specs.Rules.{line, Above, ScriptObeys, TreeObeys, Matches}
use Rattle.obeying.specs.TreeLaws.{Copied, at_depth, deeper_than, under, lowered}

pub one_above : (t : TreeLines) (i j k : ℕ) → Above t j i → Above t k i → j ≡ k
one_above t i j k a b = elim (cases_lt j k) [
  | inl l ↦ absurd (a.nearest k l b.before b.outer)
  | inr l ↦ elim (cases_lt k j) [ inl m ↦ absurd (b.nearest j m a.before a.outer) | inr m ↦ omega arith ]
]

-- the edge above a line of the copy is the copy of the edge above
copied_above : (t : TreeLines) (behind up down : ℕ) (copy : TreeLines) → Copied t behind up down copy → (j i : ℕ) → i < length copy → Above copy j i → Above t (behind + j) (behind + i)
copied_above t behind up down copy c j i h a = record {
  before = omega (arith, a.before);
  outer = omega (arith, c.depth j (omega (arith, a.before)), c.depth i h, a.outer);
  nearest = λ k l m e.
      let q : behind + (k - behind) ≡ k = omega arith in
      let d : (line copy (k - behind)).depth + up ≡ (line t k).depth + down =
      subst (λ (n : ℕ). (line copy (k - behind)).depth + up ≡ (line t n).depth + down) q (c.depth (k - behind) (omega arith)) in
      a.nearest (k - behind) (omega arith) (omega arith) (omega (arith, d, c.depth i h, e));
}

script_like : (jobs : List JobRow) (policy : ℕ) (x y : TreeLine) → x.content ≡ y.content → x.first ≡ y.first → ScriptObeys jobs policy y → ScriptObeys jobs policy x
script_like jobs policy x y e f w s = rw f (w (sym e ∙ s))

module _ {below : ℕ → ℕ → Bool} {least : ℕ} {jobs : List JobRow} {policy : ℕ} where
  pub copies : (t : TreeLines) (behind up down : ℕ) (copy : TreeLines) → Copied t behind up down copy → TreeObeys below least jobs policy t → TreeObeys below least jobs policy copy
  copies t behind up down copy c w = record {
    least = λ i h. subst (SetBelow below least) (sym (c.set i h)) (w.least (behind + i) (c.inside i h));
    above = λ i j h a.
        let g : j < length copy = omega (arith, a.before) in
        subst (λ (n : ℕ). SetBelow below n (line copy i).set) (sym (c.set j g))
        (subst (SetBelow below (line t (behind + j)).set) (sym (c.set i h))
        (w.above (behind + i) (behind + j) (c.inside i h) (copied_above t behind up down copy c j i h a)));
    scripts = λ i h. script_like jobs policy (line copy i) (line t (behind + i)) (c.content i h) (c.first i h) (w.scripts (behind + i) (c.inside i h));
  }

  pub empty : (top all : ℕ) → Matches below least jobs policy top all []
  empty top all = record {
    obeys = record { least = λ i h. absurd (omega arith); above = λ i j h. absurd (omega arith); scripts = λ i h. absurd (omega arith) };
    lines = λ i h. absurd (omega arith);
  }

-- ---- what lies under a line

pub deep_line : (d : ℕ) (xs : TreeLines) (k : ℕ) → k < length (deeper_than d xs)
    → (k < length xs) × (d < (line xs k).depth) × (line (deeper_than d xs) k ≡ at_depth (line xs k) ((line xs k).depth - d))
deep_line d [] k h = absurd (omega arith)
deep_line d (x ∷ xs) k h = go (ltb d x.depth) refl k (λ m. deep_line d xs m) h
  where
    go : (b : Bool) → ltb d x.depth ≡ b → (k : ℕ)
        → ((m : ℕ) → m < length (deeper_than d xs) → (m < length xs) × (d < (line xs m).depth) × (line (deeper_than d xs) m ≡ at_depth (line xs m) ((line xs m).depth - d)))
        → k < length (cond b (at_depth x (x.depth - d) ∷ deeper_than d xs) [])
        → (k < length (x ∷ xs)) × (d < (line (x ∷ xs) k).depth)
        × (line (cond b (at_depth x (x.depth - d) ∷ deeper_than d xs) []) k ≡ at_depth (line (x ∷ xs) k) ((line (x ∷ xs) k).depth - d))
    go false e k rest h = absurd (omega arith)
    go true e zero rest h = (omega arith, ltb-true d x.depth e, refl)
    go true e (suc m) rest h = let w = rest m (omega arith) in (omega (arith, w.0), w.1, w.2)

dropped : (t : TreeLines) (n k : ℕ) → line (drop n t) k ≡ line t (n + k)
dropped t n k = get_or-drop n t k line0

module _ (t : TreeLines) (i : ℕ) where
  abbrev from : ℕ
  from = (line t i).depth

  abbrev rest : TreeLines
  rest = drop (i + 1) t

  same_line : (k : ℕ) → k < length (under t i) → line (under t i) k ≡ at_depth (line t (i + 1 + k)) ((line t (i + 1 + k)).depth - from)
  same_line k h = (deep_line from rest k h).2 ∙ ap (λ (x : TreeLine). at_depth x (x.depth - from)) (dropped t (i + 1) k)

  pub copied_under : Copied t (i + 1) (line t i).depth 0 (under t i)
  copied_under = record {
    inside = λ k h. omega (arith, (deep_line from rest k h).0, length-drop (i + 1) t);
    depth = λ k h. omega (arith, (deep_line from rest k h).1, ap (λ (x : TreeLine). x.depth) (same_line k h), ap (λ (x : TreeLine). x.depth) (dropped t (i + 1) k));
    set = λ k h. ap (λ (x : TreeLine). x.set) (same_line k h);
    content = λ k h. ap (λ (x : TreeLine). x.content) (same_line k h);
    first = λ k h. ap (λ (x : TreeLine). x.first) (same_line k h);
  }

-- ---- further down

lowered-length : (n : ℕ) (t : TreeLines) → length (lowered n t) ≡ length t
lowered-length n [] = refl
lowered-length n (x ∷ xs) = ap suc (lowered-length n xs)

lowered-line : (n : ℕ) (t : TreeLines) (k : ℕ) → k < length t → line (lowered n t) k ≡ at_depth (line t k) ((line t k).depth + n)
lowered-line n [] k h = absurd (omega arith)
lowered-line n (x ∷ xs) zero h = refl
lowered-line n (x ∷ xs) (suc k) h = lowered-line n xs k (omega arith)

here : (t : TreeLines) (k : ℕ) → line t (0 + k) ≡ line t k
here t k = let q : 0 + k ≡ k = omega arith in ap (line t) q

pub copied_down : (n : ℕ) (t : TreeLines) → Copied t 0 0 n (lowered n t)
copied_down n t = record {
  inside = λ k h. omega (arith, lowered-length n t);
  depth = λ k h. omega (arith, ap (λ (x : TreeLine). x.depth) (lowered-line n t k (small k h)), ap (λ (x : TreeLine). x.depth) (here t k));
  set = λ k h. ap (λ (x : TreeLine). x.set) (lowered-line n t k (small k h) ∙ ap (λ (x : TreeLine). at_depth x ((line t k).depth + n)) (sym (here t k)));
  content = λ k h. ap (λ (x : TreeLine). x.content) (lowered-line n t k (small k h) ∙ ap (λ (x : TreeLine). at_depth x ((line t k).depth + n)) (sym (here t k)));
  first = λ k h. ap (λ (x : TreeLine). x.first) (lowered-line n t k (small k h) ∙ ap (λ (x : TreeLine). at_depth x ((line t k).depth + n)) (sym (here t k)));
}
  where
    small : (k : ℕ) → k < length (lowered n t) → k < length t
    small k h = omega (arith, lowered-length n t)

pub copied_back : (n : ℕ) (t : TreeLines) → Copied (lowered n t) 0 n 0 t
copied_back n t = record {
  inside = λ k h. omega (arith, lowered-length n t);
  depth = λ k h. omega (arith, ap (λ (x : TreeLine). x.depth) (here (lowered n t) k ∙ lowered-line n t k h));
  set = λ k h. sym (ap (λ (x : TreeLine). x.set) (here (lowered n t) k ∙ lowered-line n t k h));
  content = λ k h. sym (ap (λ (x : TreeLine). x.content) (here (lowered n t) k ∙ lowered-line n t k h));
  first = λ k h. sym (ap (λ (x : TreeLine). x.first) (here (lowered n t) k ∙ lowered-line n t k h));
}

pub lower_least : {count top : ℕ} {below : ℕ → ℕ → Bool} → Lawful count top below → (least lower : ℕ) (jobs : List JobRow) (policy : ℕ) (t : TreeLines)
    → SetBelow below lower least → TreeObeys below least jobs policy t → TreeObeys below lower jobs policy t
lower_least law least lower jobs policy t l w = record {
  least = λ i h. (sets_ordered law).transitive lower least (line t i).set l (w.least i h);
  above = w.above;
  scripts = w.scripts;
}
