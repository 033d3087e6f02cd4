-- What lies under an edge, copied line by line.
use Rattle.std.proofs.Common.{◌≡◌, ℕ, ◌+◌, ◌-◌, ◌<◌, ◌≤◌, Bool, true, false, cond, ltb, [], ◌∷◌, ◌++◌, length, drop, Some, None, Option, sym, refl, ap, ◌∙◌, append_assoc, arith}
use Rattle.std.proofs.lemmas.Bool.{cond-true, cond-false, lt-ltb, le-ltb, ltb-true, ltb-false}
use Rattle.std.proofs.lemmas.List.{drop_more, drop_all, length-append, append-nil}
use Rattle.rows.specs.declared.row.TreeLine.{TreeLine}
use Rattle.layout.specs.declared.held.Table.{Table}
use Rattle.layout.specs.Held.{pushed}
use Rattle.layout.specs.Network.{TreeLines, tree_of}
use Rattle.layout.specs.Zeros.{line0}
use Rattle.layout.proofs.Pads.{held-push}
use Rattle.obeying.specs.Rules.{line}
use Rattle.obeying.specs.TreeLaws.{at_depth, deeper_than}

-- the first i of these lines are copied
pub record CopiedTo (depth : ℕ) (lines : TreeLines) (i : ℕ) (copy : Table TreeLine 128) : Type 0 where
  pub done : TreeLines
  pub held : copy ≡ tree_of done
  pub long : length done ≡ i
  pub whole : deeper_than depth lines ≡ done ++ deeper_than depth (drop i lines)

module _ (depth : ℕ) (lines : TreeLines) where
  pub copied_none : (copy : Table TreeLine 128) → copy ≡ tree_of [] → CopiedTo depth lines 0 copy
  copied_none copy e = record { done = []; held = e; long = refl; whole = refl }

  more : (i : ℕ) → i < length lines → depth < (line lines i).depth
      → deeper_than depth (drop i lines) ≡ at_depth (line lines i) ((line lines i).depth - depth) ∷ deeper_than depth (drop (i + 1) lines)
  more i h d =
      ap (deeper_than depth) (drop_more lines i line0 h)
      ∙ cond-true (ltb depth (line lines i).depth) (at_depth (line lines i) ((line lines i).depth - depth) ∷ deeper_than depth (drop (i + 1) lines)) [] (lt-ltb depth (line lines i).depth d)

  none : (i : ℕ) → i < length lines → (line lines i).depth ≤ depth → deeper_than depth (drop i lines) ≡ []
  none i h d =
      ap (deeper_than depth) (drop_more lines i line0 h)
      ∙ cond-false (ltb depth (line lines i).depth) (at_depth (line lines i) ((line lines i).depth - depth) ∷ deeper_than depth (drop (i + 1) lines)) [] (le-ltb depth (line lines i).depth d)

  pub copied_next : (i : ℕ) (copy copy' : Table TreeLine 128) → i < length lines → i < 128 → depth < (line lines i).depth → CopiedTo depth lines i copy
      → copy' ≡ pushed copy (at_depth (line lines i) ((line lines i).depth - depth)) → CopiedTo depth lines (i + 1) copy'
  copied_next i copy copy' h room d c e =
      let x = at_depth (line lines i) ((line lines i).depth - depth) in
      record {
        done = c.done ++ x ∷ [];
        held = e ∙ (ap (λ (t : Table TreeLine 128). pushed t x) c.held ∙ held-push {n = 128} 128 line0 c.done x (omega (arith, c.long)));
        long = omega (arith, length-append c.done (x ∷ []), c.long);
        whole = c.whole ∙ (ap (λ (ys : TreeLines). c.done ++ ys) (more i h d) ∙ sym (append_assoc c.done (x ∷ []) (deeper_than depth (drop (i + 1) lines))));
      }

  -- the line as it stands in the copy, if it lies under the edge
  abbrev pub raised : TreeLine → Option TreeLine
  raised x = cond (ltb depth x.depth) (Some (at_depth x (x.depth - depth))) None

  raised_some : (x y : TreeLine) → raised x ≡ Some y → (depth < x.depth) × (y ≡ at_depth x (x.depth - depth))
  raised_some x y e = go (ltb depth x.depth) refl e
    where
      go : (b : Bool) → ltb depth x.depth ≡ b → cond b (Some (at_depth x (x.depth - depth))) None ≡ Some y → (depth < x.depth) × (y ≡ at_depth x (x.depth - depth))
      go true t q = (ltb-true depth x.depth t, let z : at_depth x (x.depth - depth) ≡ y = cc in sym z)
      go false t q = cc

  raised_none : (x : TreeLine) → raised x ≡ None → x.depth ≤ depth
  raised_none x e = go (ltb depth x.depth) refl e
    where
      go : (b : Bool) → ltb depth x.depth ≡ b → cond b (Some (at_depth x (x.depth - depth))) None ≡ None → x.depth ≤ depth
      go true t q = cc
      go false t q = ltb-false depth x.depth t

  -- one turn of the loop: `there` says whether a row found room
  pub copied_turn : (i : ℕ) (copy copy' : Table TreeLine 128) (x : TreeLine) (there : Bool) → i < length lines → length lines ≤ 128 → CopiedTo depth lines i copy
      → raised (line lines i) ≡ Some x → there ≡ ltb copy.count 128 → copy' ≡ cond there (pushed copy x) copy → CopiedTo depth lines (i + 1) copy'
  copied_turn i copy copy' x there h few c e t g =
      let count : copy.count ≡ length c.done = ap (λ (y : Table TreeLine 128). y.count) c.held in
      let room : there ≡ true = t ∙ lt-ltb copy.count 128 (omega (arith, c.long)) in
      let r = raised_some (line lines i) x e in
      copied_next i copy copy' h (omega arith) r.0 c (g ∙ (cond-true there (pushed copy x) copy room ∙ ap (pushed copy) r.1))

  pub copied_stop : (i : ℕ) (copy : Table TreeLine 128) → i < length lines → CopiedTo depth lines i copy → raised (line lines i) ≡ None → copy ≡ tree_of (deeper_than depth lines)
  copied_stop i copy h c e = c.held ∙ ap tree_of (sym (c.whole ∙ (ap (λ (ys : TreeLines). c.done ++ ys) (none i h (raised_none (line lines i) e)) ∙ append-nil c.done)))

  pub copied_all : (i : ℕ) (copy : Table TreeLine 128) → length lines ≤ i → CopiedTo depth lines i copy → copy ≡ tree_of (deeper_than depth lines)
  copied_all i copy h c = c.held ∙ ap tree_of (sym (c.whole ∙ (ap (λ (ys : TreeLines). c.done ++ deeper_than depth ys) (drop_all i lines h) ∙ append-nil c.done)))
