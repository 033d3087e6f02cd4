-- What a tree pattern matches is open.
use Rattle.std.proofs.Common.{◌≡◌, ℕ, zero, suc, ◌+◌, ◌-◌, ◌<◌, ◌≤◌, ltb, [], ◌∷◌, length, drop, sym, ap, ◌∙◌, subst, arith}
use Rattle.std.proofs.lemmas.Bool.{cond-true, lt-ltb}
use Rattle.std.proofs.lemmas.List.{get_or-drop, length-drop}
use Rattle.order.proofs.Sets.{set_trans}
use Rattle.order.specs.RoleSets.{SetBelow}
use Rattle.rows.specs.declared.row.TreeLine.{TreeLine}
use Rattle.layout.specs.Network.{TreeLines}
use Rattle.layout.specs.Zeros.{line0}
use Rattle.obeying.specs.Rules.{line}
use Rattle.obeying.specs.TreeLaws.{at_depth, deeper_than, under}
use Rattle.obeying.proofs.Copies.{deep_line}
use Rattle.edges.specs.Edges.{Over}
use Rattle.edges.specs.EdgeLaws.{MatchingLaws}

there : (d : ℕ) (x : TreeLine) (xs : TreeLines) (k : ℕ) → d < x.depth → k < suc (length (deeper_than d xs)) → k < length (deeper_than d (x ∷ xs))
there d x xs k h l =
    subst (λ (ys : TreeLines). k < length ys) (sym (cond-true (ltb d x.depth) (at_depth x (x.depth - d) ∷ deeper_than d xs) [] (lt-ltb d x.depth h))) l

-- a line is there if it and all before it are deeper
deep_there : (d : ℕ) (xs : TreeLines) (k : ℕ) → k < length xs → ((m : ℕ) → m ≤ k → d < (line xs m).depth) → k < length (deeper_than d xs)
deep_there d [] k h f = absurd (omega arith)
deep_there d (x ∷ xs) zero h f = there d x xs 0 (f 0 (omega arith)) (omega arith)
deep_there d (x ∷ xs) (suc k) h f = there d x xs (suc k) (f 0 (omega arith)) (omega (arith, deep_there d xs k (omega arith) (λ m l. f (suc m) (omega arith))))

module _ (t : TreeLines) (i k : ℕ) (h : k < length t) (v : Over t i k) where
  behind : (m : ℕ) → line (drop (i + 1) t) m ≡ line t (i + 1 + m)
  behind m = get_or-drop (i + 1) t m line0

  place : i + 1 + (k - (i + 1)) ≡ k
  place = omega (arith, v.before)

  lies_there : k - (i + 1) < length (under t i)
  lies_there =
      deep_there (line t i).depth (drop (i + 1) t) (k - (i + 1)) (omega (arith, length-drop (i + 1) t, v.before))
      (λ m l. subst (λ (x : TreeLine). (line t i).depth < x.depth) (sym (behind m)) (v.deeper (i + 1 + m) (omega arith) (omega (arith, v.before))))

  lies_same : line (under t i) (k - (i + 1)) ≡ at_depth (line t k) ((line t k).depth - (line t i).depth)
  lies_same =
      (deep_line (line t i).depth (drop (i + 1) t) (k - (i + 1)) lies_there).2
      ∙ ap (λ (x : TreeLine). at_depth x (x.depth - (line t i).depth)) (behind (k - (i + 1)) ∙ ap (line t) place)

pub matching_laws : MatchingLaws
matching_laws = record {
  whole = λ count top below law least jobs policy first second t roles m a some k h. (some, set_trans law (line t k).set second roles (m.lines k h).every a);
  beneath = λ count top below law p slot policy first second t i roles m a some k h v. (
    some,
    set_trans law (line t k).set second roles
        (subst (λ (x : TreeLine). SetBelow below x.set second) (lies_same t i k h v) (m.1.lines (k - (i + 1)) (lies_there t i k h v)).every) a,
  );
  lies = λ t i k h v. (lies_there t i k h v, lies_same t i k h v);
}
