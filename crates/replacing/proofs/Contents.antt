-- A content that obeys the policy may lie on an edge.
use Rattle.std.proofs.Common.{◌≡◌, ℕ, ◌+◌, ◌<◌, Bool, true, false, cond, ◌&&◌, eqb, List, length, Some, None, Option, sym, refl, subst, inl, inr, arith}
use Rattle.std.proofs.lemmas.Bool.{cases_eq, cond-true, cond-false, eq-eqb, ne_eqb, eqb-true}
use Rattle.order.specs.Laws.{Lawful}
use Rattle.order.specs.RoleSets.{SetBelow}
use Rattle.order.proofs.Sets.{set_trans}
use Rattle.rows.specs.declared.row.TreeLine.{TreeLine}
use Rattle.layout.specs.Network.{TreeLines, Plan}
use Rattle.meaning.specs.declared.contents.Content.{Content}
use Rattle.meaning.specs.declared.contents.Content.TheVariants as content
use Rattle.meaning.specs.Decoding.{when, content_of}
use Rattle.obeying.specs.Rules.{line, ScriptObeys, Matches}
use Rattle.slots.specs.declared.part.Part.{Part}
use Rattle.slots.specs.declared.part.Part.TheVariants as part
use Rattle.slots.specs.Slots.{part_at}
use Rattle.pasting.specs.Templates.{template_lines}
use Rattle.pasting.specs.Words.{least_of, PartFits, PartObeys, ContentFits, ContentObeys, LineFits, TemplateObeys}
use Rattle.standing.specs.declared.sizes.Sizes.{Sizes}
use Rattle.standing.specs.declared.lines.Home.TheVariants as home
use Rattle.standing.specs.Words.{Means, Belongs, ContentStands, LineStands}
use Rattle.edges.specs.Matching.{JobOf}
use Rattle.replacing.specs.Pasting.{Pasted, plain, with_content, line_content, pasted}
use Rattle.replacing.specs.Holding.{HoldsPart, Holds}
use Rattle.replacing.specs.Sound.{ContentShaped, Sound, PasteSound, TemplateSound, TemplateStands}
use Rattle.replacing.proofs.Sound.{matched, filled_sound}

-- ---- contents of a template's lines that are not held by slots

not_held : (o : Option Content) (P : Content → Type 0) (slot : ℕ) → o ≡ None → o ≡ Some (content.Held slot) → ⊥
not_held o P slot a b = cc

when_held : (t : Bool) (c : Content) (slot : ℕ) → when t c ≡ Some (content.Held slot) → c ≡ content.Held slot
when_held true c slot e = cc
when_held false c slot e = cc

-- only kind 4 is what a slot holds
held_kind : (k f g slot : ℕ) → content_of k f g ≡ Some (content.Held slot) → k ≡ 4
held_kind k f g slot e = go (eqb k 0) (eqb k 1) (eqb k 2) (eqb k 3) (eqb k 4) (eqb k 5) refl e
  where
    go : (a b c d h t : Bool) → eqb k 4 ≡ h
        → cond a (when (eqb f 0 && eqb g 0) content.Tree) (cond b (when (eqb g 0) (content.Number f)) (cond c (when (eqb g 0) (content.Script f)) (cond d (Some (content.Pointer f g))
        (cond h (when (eqb g 0) (content.Held f)) (cond t (when (eqb g 0) (content.Template f)) None))))) ≡ Some (content.Held slot) → k ≡ 4
    go true b c d h t q e = let z = when_held (eqb f 0 && eqb g 0) content.Tree slot e in cc
    go false true c d h t q e = let z = when_held (eqb g 0) (content.Number f) slot e in cc
    go false false true d h t q e = let z = when_held (eqb g 0) (content.Script f) slot e in cc
    go false false false true h t q e = cc
    go false false false false true t q e = eqb-true k 4 q
    go false false false false false true q e = let z = when_held (eqb g 0) (content.Template f) slot e in cc
    go false false false false false false q e = cc

shaped_unless_held : (s : Sizes) (o : Option Content) → ((slot : ℕ) → o ≡ Some (content.Held slot) → ⊥) → Means o (λ c. Belongs home.Template c × ContentStands s c)
    → Means o (λ c. Belongs home.Tree c × ContentStands s c)
shaped_unless_held s None n w = w
shaped_unless_held s (Some content.Tree) n w = w
shaped_unless_held s (Some (content.Number x)) n w = w
shaped_unless_held s (Some (content.Script job)) n w = w
shaped_unless_held s (Some (content.Pointer path location)) n w = w
shaped_unless_held s (Some (content.Held slot)) n w = absurd (n slot refl)
shaped_unless_held s (Some (content.Template x)) n w = absurd w.0

module _ (s : Sizes) (below : ℕ → ℕ → Bool) (law : Lawful s.roles s.top below) (p : Plan) (jobs : s.jobs ≡ length p.jobs) where
  -- a content with no tree
  alone : (policy set c f g : ℕ) → ContentShaped s c f g → ((x : TreeLine) → ScriptObeys p.jobs policy (with_content x c f g))
      → PasteSound below s (least_of p policy) p.jobs policy set (plain c f g)
  alone policy set c f g shaped script = record {
    content = shaped;
    script = script;
    tree = record {
      lines = λ i h. absurd (omega arith);
      descends = record { first = λ h. absurd (omega arith); down = λ i h. absurd (omega arith); under = λ i h. absurd (omega arith) };
      obeys = record { least = λ i h. absurd (omega arith); above = λ i j h. absurd (omega arith); scripts = λ i h. absurd (omega arith) };
    };
    top = λ k h. absurd (omega arith);
    bare = λ n. refl;
  }

  a_number : (policy set n : ℕ) → PasteSound below s (least_of p policy) p.jobs policy set (plain 1 n 0)
  a_number policy set n = alone policy set 1 n 0 (tt, tt) (λ x e. absurd (omega arith))

  a_script : (policy set job : ℕ) → JobOf p policy job → PasteSound below s (least_of p policy) p.jobs policy set (plain 2 job 0)
  a_script policy set job j = alone policy set 2 job 0 (tt, omega (arith, j.0)) (λ x e. j)

  a_pointer : (policy set path location : ℕ) → path < s.paths → location < s.locations → PasteSound below s (least_of p policy) p.jobs policy set (plain 3 path location)
  a_pointer policy set path location a b = alone policy set 3 path location (tt, (a, b)) (λ x e. absurd (omega arith))

  -- what a slot holds
  from_slot : (policy above set : ℕ) (o next : Option Part) (x : Pasted) → ((top : ℕ) → SetBelow below above top → SetBelow below set top)
      → PartFits o next → PartObeys below p policy above o → HoldsPart below s p o next x → PasteSound below s (least_of p policy) p.jobs policy set x
  from_slot policy above set None next x a f b h = absurd f
  from_slot policy above set (Some part.Number) next x a f b h = subst (PasteSound below s (least_of p policy) p.jobs policy set) (sym h.1) (a_number policy set h.0)
  from_slot policy above set (Some (part.Script own)) next x a f b h =
      subst (PasteSound below s (least_of p policy) p.jobs policy set) (sym h.1) (a_script policy set h.0 (subst (λ (n : ℕ). JobOf p n h.0) b h.2))
  from_slot policy above set (Some (part.Place own)) next x a f b h =
      let q = h f in subst (PasteSound below s (least_of p policy) p.jobs policy set) (sym q.2) (a_pointer policy set q.0 q.1 q.3 q.4)
  from_slot policy above set (Some (part.Route last)) next x a f b h = absurd f
  from_slot policy above set (Some (part.Tree own top all)) next x a f b h =
      subst (PasteSound below s (least_of p policy) p.jobs policy set) (sym h.1)
      (matched below s (least_of p policy) p.jobs policy h.0 top all set (subst (λ (n : ℕ). Sound below s (least_of p n) p.jobs n h.0) b.0 h.2)
      (subst (λ (n : ℕ). Matches below (least_of p n) p.jobs n top all h.0) b.0 h.3) (a top b.1.1))

  module _ (policy : ℕ) (slots : List ℕ) (hold : ℕ → Pasted) (holds : Holds below s p slots hold) where
    on_line : (above : ℕ) (x : TreeLine) → LineStands home.Template s x → LineFits p.patterns slots x → (x.content ≡ 4 → PartObeys below p policy x.set (part_at p.patterns slots x.first))
        → ScriptObeys p.jobs policy x → PasteSound below s (least_of p policy) p.jobs policy x.set (line_content hold x)
    unfolding line_content
    on_line above x w f o script = elim (cases_eq x.content 4) [
      | inl e ↦
          subst (PasteSound below s (least_of p policy) p.jobs policy x.set) (sym (cond-true (eqb x.content 4) (hold x.first) (plain x.content x.first x.second) (eq-eqb x.content 4 e)))
          (from_slot policy x.set x.set (part_at p.patterns slots x.first) (part_at p.patterns slots (x.first + 1)) (hold x.first) (λ top l. l) (f e) (o e) (holds x.first))
      | inr n ↦
          subst (PasteSound below s (least_of p policy) p.jobs policy x.set) (sym (cond-false (eqb x.content 4) (hold x.first) (plain x.content x.first x.second) (ne_eqb x.content 4 n)))
          (alone policy x.set x.content x.first x.second
          (shaped_unless_held s (content_of x.content x.first x.second) (λ slot e. n (held_kind x.content x.first x.second slot e)) w.content) (λ y e. script e))
    ]

    template_sound : (above set : ℕ) (t : TreeLines) → SetBelow below set above → TemplateStands s t → ((i : ℕ) → i < length t → LineFits p.patterns slots (line t i))
        → TemplateObeys below p policy above slots t → TemplateSound below s (least_of p policy) p.jobs policy hold set t
    template_sound above set t l w f o = record {
      low = λ i h. (w.lines i h).low;
      used = λ i h. (w.lines i h).set;
      topped = λ i h. (w.lines i h).top;
      descends = w.descends;
      obeys = o.obeys;
      top = λ k h e. set_trans law set above (line t k).set l ((o.lines k h).outermost e);
      pastes = λ i h. on_line above (line t i) (w.lines i h) (f i h) (o.lines i h).held (o.obeys.scripts i h);
    }

    pub content_sound : (above set : ℕ) (c : Content) → ContentStands s c → ((k : ℕ) → TemplateStands s (template_lines p.templates k)) → ContentFits p slots c
        → ContentObeys below p policy above slots c → SetBelow below set above → PasteSound below s (least_of p policy) p.jobs policy set (pasted hold p.templates c)
    content_sound above set content.Tree w t f o l = alone policy set 0 0 0 (tt, tt) (λ x e. absurd (omega arith))
    content_sound above set (content.Number n) w t f o l = a_number policy set n
    content_sound above set (content.Script job) w t f o l = a_script policy set job o
    content_sound above set (content.Pointer path location) w t f o l = a_pointer policy set path location w.0 w.1
    content_sound above set (content.Held slot) w t f o l =
        from_slot policy above set (part_at p.patterns slots slot) (part_at p.patterns slots (slot + 1)) (hold slot) (λ top m. set_trans law set above top l m) f o (holds slot)
    content_sound above set (content.Template x) w t f o l =
        filled_sound below s (least_of p policy) p.jobs policy hold set (template_lines p.templates x)
        (template_sound above set (template_lines p.templates x) l (t x) f o)
