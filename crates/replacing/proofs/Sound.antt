-- Changes leave sound trees sound.
use Rattle.std.proofs.Common.{◌≡◌, ℕ, suc, ◌+◌, ◌-◌, ◌<◌, ◌≤◌, Bool, eqb, List, [], ◌∷◌, length, drop, None, Option, sym, refl, ap, ◌∙◌, subst, inl, inr, add-one, arith}
use Rattle.std.proofs.lemmas.Bool.{cases_eq, cond-true, eq-eqb}
use Rattle.std.proofs.lemmas.List.{get_or-drop}
use Rattle.order.specs.RoleSets.{In, SetBelow, InUse}
use Rattle.order.proofs.Sets.{set_mono}
use Rattle.rows.specs.declared.row.TreeLine.{TreeLine}
use Rattle.rows.specs.declared.row.JobRow.{JobRow}
use Rattle.layout.specs.Network.{TreeLines, joined}
use Rattle.layout.specs.Zeros.{line0}
use Rattle.obeying.specs.Rules.{line, ScriptObeys, TreeObeys, Matches}
use Rattle.obeying.specs.TreeLaws.{at_depth, under}
use Rattle.obeying.proofs.Copies.{copies, deep_line, copied_under}
use Rattle.standing.specs.declared.sizes.Sizes.{Sizes}
use Rattle.standing.specs.Words.{TreeStands}
use Rattle.edges.specs.Edges.{Nested}
use Rattle.edges.proofs.Nesting.{some_above}
use Rattle.replacing.specs.Pasting.{Pasted, line_content, filled}
use Rattle.replacing.specs.Changing.{Flagged, Uncut, Changed}
use Rattle.replacing.specs.Sound.{ContentShaped, LineShaped, Descends, Sound, Tops, PasteSound, TemplateSound}
use Rattle.replacing.proofs.Standing.{root, root_top, root_zero, room, room_of, room_deeper, room_most, Asks, Top, Stands, stands_from, top_from, low_from, above_from, each_from, first_from, next_from}
use Rattle.replacing.proofs.Keeping.{depth_under, PasteStands, Fine, filled_stands, changed_stands}

module _ (below : ℕ → ℕ → Bool) (s : Sizes) (least : ℕ) (jobs : List JobRow) (policy : ℕ) where
  -- what is asked of each line, whatever its depth
  pub record Ok (x : TreeLine) : Type 0 where
    pub set : InUse s.roles x.set
    pub top : In s.top x.set
    pub content : ContentShaped s x.content x.first x.second
    pub lower : SetBelow below least x.set
    pub script : ScriptObeys jobs policy x

  again : (x : TreeLine) (d : ℕ) → Ok x → Ok (at_depth x d)
  again x d o = record { set = o.set; top = o.top; content = o.content; lower = o.lower; script = o.script }

  abbrev Good : (ℕ → Option ℕ) → ℕ → TreeLines → Type 0
  Good = Stands (SetBelow below) Ok

  nested : (t : TreeLines) → ((i : ℕ) → i < length t → 1 ≤ (line t i).depth) → Descends t → Nested t
  nested t low d = record { low = low; first = d.first; down = d.down }

  -- a line without an edge above it has depth 1
  top_one : (t : TreeLines) → Nested t → (i : ℕ) → i < length t → Top (SetBelow below) Ok t i → (line t i).depth ≡ 1
  top_one t w i h n = elim (cases_eq (line t i).depth 1) [
    | inl e ↦ e
    | inr e ↦ let a = some_above w i h (omega (arith, w.low i h)) in absurd (n a.0 a.1.before a.1.outer)
  ]

  -- ---- sound trees stand, and what stands is sound

  stands : (at : ℕ → Option ℕ) (t : TreeLines) → Sound below s least jobs policy t
      → ((i : ℕ) → i < length t → (line t i).depth ≡ 1 → Asks (SetBelow below) (at 0) (line t i).set) → Good at 1 t
  stands at t w a = stands_from (SetBelow below) Ok t at 1 (record {
    first = λ h. omega (arith, w.descends.first h);
    low = λ i h. (w.lines i h).low;
    next = λ i h. subst (λ (n : ℕ). (line t n).depth ≤ room (line t i)) (add-one i)
        (room_of (line t i) (line t (i + 1)).depth (w.descends.down i (omega arith)) (w.descends.under i (omega arith)));
    each = λ i h. record { set = (w.lines i h).set; top = (w.lines i h).top; content = (w.lines i h).content; lower = w.obeys.least i h; script = w.obeys.scripts i h };
    top = λ i h n.
        let one = top_one t (nested t (λ k l. (w.lines k l).low) w.descends) i h n in
        subst (λ (d : ℕ). Asks (SetBelow below) (at (d - 1)) (line t i).set) (sym one) (a i h one);
    above = λ j i h v. w.obeys.above i j h v;
  })

  sound_from : (at : ℕ → Option ℕ) (t : TreeLines) → Good at 1 t → Sound below s least jobs policy t
  sound_from at t g = record {
    lines = λ i h. let o = each_from (SetBelow below) Ok t at 1 i h g in record { low = low_from (SetBelow below) Ok t at 1 i h g; set = o.set; top = o.top; content = o.content };
    descends = record {
      first = λ h. omega (arith, first_from (SetBelow below) Ok t at 1 g h, low_from (SetBelow below) Ok t at 1 0 h g);
      down = λ i h. omega (arith, next i h, room_most (line t i));
      under = λ i h e. room_deeper (line t i) (omega (arith, next i h));
    };
    obeys = record {
      least = λ i h. (each_from (SetBelow below) Ok t at 1 i h g).lower;
      above = λ i j h a. above_from (SetBelow below) Ok t at 1 j i h g a;
      scripts = λ i h. (each_from (SetBelow below) Ok t at 1 i h g).script;
    };
  }
    where
      next : (i : ℕ) → i + 1 < length t → (line t (i + 1)).depth ≤ room (line t i)
      next i h = subst (λ (n : ℕ). (line t n).depth ≤ room (line t i)) (sym (add-one i)) (next_from (SetBelow below) Ok t at 1 i (omega arith) g)

  tops_from : (set : ℕ) (t : TreeLines) → Good (root set) 1 t → Tops below s least jobs policy set t
  tops_from set t g k h e =
      let zero_up : (line t k).depth - 1 ≡ 0 = omega arith in
      subst (λ (o : Option ℕ). Asks (SetBelow below) o (line t k).set) (ap (root set) zero_up ∙ root_zero set)
      (top_from (SetBelow below) Ok t (root set) 1 k h g (λ m l q. omega (arith, low_from (SetBelow below) Ok t (root set) 1 m (omega arith) g)))

  -- a tree with these tops stands under an edge of the set
  stands_under : (set : ℕ) (t : TreeLines) → Sound below s least jobs policy t → Tops below s least jobs policy set t → Good (root set) 1 t
  stands_under set t w top = stands (root set) t w (λ i h e. root_top set 0 (λ o. Asks (SetBelow below) o (line t i).set) (omega arith) (top i h e))

  -- ---- what may lie on an edge

  paste_stands : (x : TreeLine) (p : Pasted) → InUse s.roles x.set → In s.top x.set → SetBelow below least x.set → PasteSound below s least jobs policy x.set p
      → PasteStands (SetBelow below) Ok again x p
  paste_stands x p used top low w = (
    record { set = used; top = top; content = w.content; lower = low; script = w.script x },
    elim (cases_eq p.content 0) [
      | inl e ↦
          subst (λ (n : ℕ). Good (root x.set) n p.under) (sym (cond-true (eqb p.content 0) 1 0 (eq-eqb p.content 0 e))) (stands_under x.set p.under w.tree w.top)
      | inr n ↦ subst (λ (t : TreeLines). Good (root x.set) (depth_under p.content) t) (sym (w.bare n)) tt
    ],
  )

  -- the empty content, with a tree
  pub paste_tree : (set : ℕ) (t : TreeLines) → Sound below s least jobs policy t → Tops below s least jobs policy set t
      → PasteSound below s least jobs policy set (record { content = 0; first = 0; second = 0; under = t })
  paste_tree set t w top = record { content = (tt, tt); script = λ x e. absurd (omega arith); tree = w; top = top; bare = λ n. absurd (n refl) }

  pub matched : (t : TreeLines) (top all set : ℕ) → Sound below s least jobs policy t → Matches below least jobs policy top all t → SetBelow below set top
      → PasteSound below s least jobs policy set (record { content = 0; first = 0; second = 0; under = t })
  matched t top all set w m l =
      paste_tree set t w (λ k h e. set_mono below set set top (line t k).set (λ r i. i) ((m.lines k h).outermost e) l)

  -- ---- templates

  module _ (hold : ℕ → Pasted) (set : ℕ) where
    -- its lines stand, whatever lies on them
    template_stands : (t : TreeLines) → TemplateSound below s least jobs policy hold set t → Stands (SetBelow below) (λ x. Unit {0}) (root set) 1 t
    template_stands t w = stands_from (SetBelow below) (λ x. Unit {0}) t (root set) 1 (record {
      first = λ h. omega (arith, w.descends.first h);
      low = w.low;
      next = λ i h. subst (λ (n : ℕ). (line t n).depth ≤ room (line t i)) (add-one i)
          (room_of (line t i) (line t (i + 1)).depth (w.descends.down i (omega arith)) (w.descends.under i (omega arith)));
      each = λ i h. tt;
      top = λ i h n.
          let one = top_one t (nested t w.low w.descends) i h n in
          subst (λ (d : ℕ). Asks (SetBelow below) (root set (d - 1)) (line t i).set) (sym one)
          (root_top set 0 (λ o. Asks (SetBelow below) o (line t i).set) (omega arith) (w.top i h one));
      above = λ j i h v. w.obeys.above i j h v;
    })

    fine : (t : TreeLines) → ((i : ℕ) → i < length t → PasteStands (SetBelow below) Ok again (line t i) (line_content hold (line t i))) → Fine (SetBelow below) Ok again hold t
    fine [] f = tt
    fine (x ∷ xs) f = (f 0 (omega arith), fine xs (λ i h. f (suc i) (omega arith)))

    filled_good : (t : TreeLines) → TemplateSound below s least jobs policy hold set t → Good (root set) 1 (filled hold t)
    filled_good t w =
        filled_stands (SetBelow below) Ok again (λ x. Unit {0}) hold t (root set) (root set) 1 1 (omega arith) (λ k l r y. y) (template_stands t w)
        (fine t (λ i h. paste_stands (line t i) (line_content hold (line t i)) (w.used i h) (w.topped i h) (w.obeys.least i h) (w.pastes i h)))

    pub filled_sound : (t : TreeLines) → TemplateSound below s least jobs policy hold set t
        → PasteSound below s least jobs policy set (record { content = 0; first = 0; second = 0; under = filled hold t })
    filled_sound t w =
        let g = filled_good t w in paste_tree set (filled hold t) (sound_from (root set) (filled hold t) g) (tops_from set (filled hold t) g)

  -- ---- the whole tree

  pub changed_sound : (flags : List Bool) (given : ℕ → Pasted) (t after : TreeLines) → Sound below s least jobs policy t
      → ((i : ℕ) → i < length t → Flagged flags i → Uncut flags t i → PasteSound below s least jobs policy (line t i).set (given i))
      → Changed flags given t after → Sound below s least jobs policy after
  changed_sound flags given t after w pastes c =
      subst (λ (xs : TreeLines). Sound below s least jobs policy xs) (sym c.whole)
      (sound_from (λ k. None) (joined c.pieces)
      (changed_stands (SetBelow below) Ok again flags given t c.pieces c.one_each c.each
      (λ i h f u. paste_stands (line t i) (given i) (w.lines i h).set (w.lines i h).top (w.obeys.least i h) (pastes i h f u))
      (λ k. None) 1 (stands (λ k. None) t w (λ i h e. tt))))

  -- ---- parts

  pub part : (t : TreeLines) (i : ℕ) → Sound below s least jobs policy t → Sound below s least jobs policy (under t i)
  part t i w = record {
    lines = λ k h. subst (λ (x : TreeLine). LineShaped s x) (sym (same k h)) (let o = w.lines (i + 1 + k) (inside k h) in record { low = omega (arith, deep k h); set = o.set; top = o.top; content = o.content });
    descends = record {
      first = λ h. omega (arith, depth 0 h, here 0 h, deep 0 h, w.descends.down i (omega (arith, inside 0 h)));
      down = λ k h. omega (arith, depth k (omega arith), depth (k + 1) h, deep k (omega arith), deep (k + 1) h, further k h, w.descends.down (i + 1 + k) (omega (arith, inside (k + 1) h)));
      under = λ k h e.
          ap (λ (x : TreeLine). x.content) (same k (omega arith))
          ∙ w.descends.under (i + 1 + k) (omega (arith, inside (k + 1) h))
          (omega (arith, depth k (omega arith), depth (k + 1) h, deep k (omega arith), deep (k + 1) h, further k h));
    };
    obeys = copies t (i + 1) (line t i).depth 0 (under t i) (copied_under t i) w.obeys;
  }
    where
      behind : (k : ℕ) → line (drop (i + 1) t) k ≡ line t (i + 1 + k)
      behind k = get_or-drop (i + 1) t k line0

      inside : (k : ℕ) → k < length (under t i) → i + 1 + k < length t
      inside k h = (copied_under t i).inside k h

      deep : (k : ℕ) → k < length (under t i) → (line t i).depth < (line t (i + 1 + k)).depth
      deep k h = subst (λ (x : TreeLine). (line t i).depth < x.depth) (behind k) (deep_line (line t i).depth (drop (i + 1) t) k h).1

      same : (k : ℕ) → k < length (under t i) → line (under t i) k ≡ at_depth (line t (i + 1 + k)) ((line t (i + 1 + k)).depth - (line t i).depth)
      same k h = (deep_line (line t i).depth (drop (i + 1) t) k h).2 ∙ ap (λ (x : TreeLine). at_depth x (x.depth - (line t i).depth)) (behind k)

      depth : (k : ℕ) → k < length (under t i) → (line (under t i) k).depth ≡ (line t (i + 1 + k)).depth - (line t i).depth
      depth k h = ap (λ (x : TreeLine). x.depth) (same k h)

      here : (k : ℕ) → 0 < length (under t i) → (line t (i + 1 + 0)).depth ≡ (line t (i + 1)).depth
      here k h = let q : i + 1 + 0 ≡ i + 1 = omega arith in ap (λ (n : ℕ). (line t n).depth) q

      further : (k : ℕ) → k + 1 < length (under t i) → (line t (i + 1 + (k + 1))).depth ≡ (line t (i + 1 + k + 1)).depth
      further k h = let q : i + 1 + (k + 1) ≡ i + 1 + k + 1 = omega arith in ap (λ (n : ℕ). (line t n).depth) q

  pub sound : (t : TreeLines) → TreeStands s t → TreeObeys below least jobs policy t → Sound below s least jobs policy t
  sound t w o = record {
    lines = λ i h. let x = w.each i h in record { low = x.low; set = x.set; top = x.top; content = x.content };
    descends = record { first = w.first; down = w.down; under = w.under };
    obeys = o;
  }

  pub not_deep : (t : TreeLines) → ((i : ℕ) → i < length t → (line t i).depth ≤ 12) → Sound below s least jobs policy t → TreeStands s t
  not_deep t high w = record {
    each = λ i h. let x = w.lines i h in record { low = x.low; high = high i h; set = x.set; top = x.top; content = x.content };
    first = w.descends.first;
    down = w.descends.down;
    under = w.descends.under;
  }
