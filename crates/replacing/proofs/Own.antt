-- What lies on an edge that a pattern matches is what the pattern says.
use Rattle.std.proofs.Common.{◌≡◌, ℕ, ◌+◌, ◌-◌, ◌<◌, Bool, true, false, cond, ◌&&◌, eqb, ltb, List, [], ◌∷◌, length, drop, Some, None, Option, sym, refl, ap, ◌∙◌, subst, inl, inr, arith}
use Rattle.std.proofs.lemmas.Bool.{cases_eq, cases_lt, cond-true, cond-false, eq-eqb, eqb-true, le-ltb, and_parts}
use Rattle.std.proofs.lemmas.List.{drop_more, drop_all}
use Rattle.rows.specs.declared.row.TreeLine.{TreeLine}
use Rattle.rows.specs.declared.row.JobRow.{JobRow}
use Rattle.layout.specs.Network.{TreeLines, Plan}
use Rattle.layout.specs.Zeros.{line0}
use Rattle.meaning.specs.declared.contents.Content.{Content}
use Rattle.meaning.specs.declared.contents.Content.TheVariants as content
use Rattle.meaning.specs.declared.kinds.ContentKind.{ContentKind}
use Rattle.meaning.specs.declared.kinds.ContentKind.TheVariants as kind
use Rattle.meaning.specs.declared.patterns.Pattern.{Pattern}
use Rattle.meaning.specs.declared.patterns.Pattern.TheVariants as pattern
use Rattle.meaning.specs.Kinds.{kind_of}
use Rattle.meaning.specs.Decoding.{when}
use Rattle.obeying.specs.Rules.{line}
use Rattle.obeying.specs.TreeLaws.{at_depth, deeper_than, under}
use Rattle.slots.specs.declared.part.Part.{Part}
use Rattle.slots.specs.Slots.{part_in}
use Rattle.standing.specs.declared.sizes.Sizes.{Sizes}
use Rattle.standing.specs.declared.lines.Home.TheVariants as home
use Rattle.standing.specs.Words.{Means, Belongs, ContentStands}
use Rattle.edges.specs.Matching.{EdgeMatches}
use Rattle.replacing.specs.Pasting.{plain, lying}
use Rattle.replacing.specs.Holding.{HoldsPart, slot_of}
use Rattle.replacing.specs.Sound.{ContentShaped, Descends, Sound}
use Rattle.replacing.proofs.Sound.{part}

-- nothing lies under an edge with a content other than 0
bare : (t : TreeLines) → Descends t → (i : ℕ) → i < length t → ((line t i).content ≡ 0 → ⊥) → under t i ≡ []
bare t w i h n = elim (cases_lt (i + 1) (length t)) [
  | inl l ↦
      ap (deeper_than (line t i).depth) (drop_more t (i + 1) line0 l)
      ∙ cond-false (ltb (line t i).depth (line t (i + 1)).depth)
      (at_depth (line t (i + 1)) ((line t (i + 1)).depth - (line t i).depth) ∷ deeper_than (line t i).depth (drop (i + 1 + 1) t)) []
      (le-ltb (line t i).depth (line t (i + 1)).depth (elim (cases_eq (line t (i + 1)).depth ((line t i).depth + 1)) [ inl e ↦ absurd (n (w.under i l e)) | inr m ↦ omega (arith, w.down i l) ]))
  | inr l ↦ ap (deeper_than (line t i).depth) (drop_all (i + 1) t l)
]

-- the numbers of kinds
abbrev code : ContentKind → ℕ
code kind.Tree = 0
code kind.Number = 1
code kind.Script = 2
code kind.Pointer = 3
code kind.Held = 4
code kind.Template = 5

some_kind : (a b : ContentKind) → Some a ≡ Some b → a ≡ b
some_kind a b e = cc

kind_code : (k : ℕ) (d : ContentKind) → kind_of k ≡ Some d → k ≡ code d
kind_code k d e = go (eqb k 0) (eqb k 1) (eqb k 2) (eqb k 3) (eqb k 4) (eqb k 5) refl refl refl refl refl refl e
  where
    go : (a b c p h t : Bool) → eqb k 0 ≡ a → eqb k 1 ≡ b → eqb k 2 ≡ c → eqb k 3 ≡ p → eqb k 4 ≡ h → eqb k 5 ≡ t
        → cond a (Some kind.Tree) (cond b (Some kind.Number) (cond c (Some kind.Script) (cond p (Some kind.Pointer) (cond h (Some kind.Held) (cond t (Some kind.Template) None))))) ≡ Some d → k ≡ code d
    go true b c p h t z1 z2 z3 z4 z5 z6 e = eqb-true k 0 z1 ∙ ap code (some_kind kind.Tree d e)
    go false true c p h t z1 z2 z3 z4 z5 z6 e = eqb-true k 1 z2 ∙ ap code (some_kind kind.Number d e)
    go false false true p h t z1 z2 z3 z4 z5 z6 e = eqb-true k 2 z3 ∙ ap code (some_kind kind.Script d e)
    go false false false true h t z1 z2 z3 z4 z5 z6 e = eqb-true k 3 z4 ∙ ap code (some_kind kind.Pointer d e)
    go false false false false true t z1 z2 z3 z4 z5 z6 e = eqb-true k 4 z5 ∙ ap code (some_kind kind.Held d e)
    go false false false false false true z1 z2 z3 z4 z5 z6 e = eqb-true k 5 z6 ∙ ap code (some_kind kind.Template d e)
    go false false false false false false z1 z2 z3 z4 z5 z6 e = absurd (no_kind d e)
      where
        no_kind : (d : ContentKind) → None ≡ Some d → ⊥
        no_kind d e = cc

means_when : (b : Bool) (c : Content) (P : Content → Type 0) → Means (when b c) P → (b ≡ true) × P c
means_when true c P w = (refl, w)
means_when false c P w = absurd w

module _ (s : Sizes) (f g : ℕ) where
  -- fields that a kind does not use are 0
  of_tree : ContentShaped s 0 f g → (f ≡ 0) × (g ≡ 0)
  of_tree w = let b = (means_when (eqb f 0 && eqb g 0) content.Tree (λ c. Belongs home.Tree c × ContentStands s c) w).0 in
      let both = and_parts (eqb f 0) (eqb g 0) b in (eqb-true f 0 both.0, eqb-true g 0 both.1)

  of_number : ContentShaped s 1 f g → g ≡ 0
  of_number w = eqb-true g 0 (means_when (eqb g 0) (content.Number f) (λ c. Belongs home.Tree c × ContentStands s c) w).0

  of_script : ContentShaped s 2 f g → g ≡ 0
  of_script w = eqb-true g 0 (means_when (eqb g 0) (content.Script f) (λ c. Belongs home.Tree c × ContentStands s c) w).0

module _ (below : ℕ → ℕ → Bool) (s : Sizes) (p : Plan) {least : ℕ} {jobs : List JobRow} {policy : ℕ} (t : TreeLines) (w : Sound below s least jobs policy t) (i : ℕ) (h : i < length t) where
  abbrev x : TreeLine
  x = line t i

  shaped : (k : ℕ) → x.content ≡ k → ContentShaped s k x.first x.second
  shaped k e = subst (λ (n : ℕ). ContentShaped s n x.first x.second) e (w.lines i h).content

  -- an edge with another content than a tree, as what lies on it
  alone : (k : ℕ) → x.content ≡ k → (k ≡ 0 → ⊥) → (g : ℕ) → x.second ≡ g → lying t i ≡ plain k x.first g
  alone k e n g q = let none : under t i ≡ [] = bare t w.descends i h (λ z. n (sym e ∙ z)) in λ j. record { content = e j; first = x.first; second = q j; under = none j }

  pub own_part : (m : Pattern) (next : Option Part) → EdgeMatches below p m t i → HoldsPart below s p (part_in m (slot_of m)) next (lying t i)
  own_part (pattern.Number slot) next v =
      let e : x.content ≡ 1 = kind_code x.content kind.Number v in
      subst (λ (o : Option Part). HoldsPart below s p o next (lying t i)) (sym (cond-true (eqb slot slot) _ None (eq-eqb slot slot refl)))
      (x.first, alone 1 e (λ z. absurd (omega arith)) 0 (of_number s x.first x.second (shaped 1 e)))
  own_part (pattern.Script slot own) next v =
      let e : x.content ≡ 2 = kind_code x.content kind.Script v.0 in
      subst (λ (o : Option Part). HoldsPart below s p o next (lying t i)) (sym (cond-true (eqb slot slot) _ None (eq-eqb slot slot refl)))
      (x.first, alone 2 e (λ z. absurd (omega arith)) 0 (of_script s x.first x.second (shaped 2 e)), v.1)
  own_part (pattern.Pointer slot own last) next v =
      let e : x.content ≡ 3 = kind_code x.content kind.Pointer v.0 in
      subst (λ (o : Option Part). HoldsPart below s p o next (lying t i)) (sym (cond-true (eqb slot slot) _ _ (eq-eqb slot slot refl)))
      (λ r. let q = (shaped 3 e).1 in (x.first, x.second, alone 3 e (λ z. absurd (omega arith)) x.second refl, q.0, q.1))
  own_part (pattern.Tree slot own top all) next v =
      let e : x.content ≡ 0 = kind_code x.content kind.Tree v.0 in
      let z = of_tree s x.first x.second (shaped 0 e) in
      let u = part below s least jobs policy t i w in
      subst (λ (o : Option Part). HoldsPart below s p o next (lying t i)) (sym (cond-true (eqb slot slot) _ None (eq-eqb slot slot refl)))
      (under t i, λ j. record { content = e j; first = z.0 j; second = z.1 j; under = under t i }, record { lines = u.lines; descends = u.descends; obeys = v.1.obeys }, v.1)
