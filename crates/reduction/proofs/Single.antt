-- Flags, trees after a change, and trees with other sets are told in one way only.
use Rattle.std.proofs.Common.{◌≡◌, ℕ, zero, suc, ◌<◌, ◌≤◌, Bool, false, List, [], length, get_or, sym, ap, ◌∙◌, inl, inr, arith}
use Rattle.std.specs.Bool.{Decides, one_answer}
use Rattle.std.proofs.lemmas.Bool.{cases_lt}
use Rattle.std.proofs.lemmas.List.{ext_get_or}
use Rattle.rows.specs.declared.row.PathStepRow.{PathStepRow}
use Rattle.rows.specs.declared.row.TreeLine.{TreeLine}
use Rattle.layout.specs.Network.{TreeLines, joined, Plan}
use Rattle.layout.specs.Zeros.{line0}
use Rattle.meaning.specs.declared.patterns.Pattern.{Pattern}
use Rattle.obeying.specs.Rules.{line}
use Rattle.obeying.proofs.Copies.{one_above}
use Rattle.edges.specs.Edges.{with_set}
use Rattle.edges.specs.Paths.{Flagged}
use Rattle.edges.specs.Matching.{Selected}
use Rattle.edges.specs.Enabling as enabling
use Rattle.edges.specs.Enabling.{EnabledLine, Enabled}
use Rattle.edges.specs.Disabling as disabling
use Rattle.edges.specs.Disabling.{stays, DisabledLine, Disabled}
use Rattle.replacing.specs.Pasting.{Pasted}
use Rattle.replacing.specs.Changing.{Uncut, Becomes, cut, replaced, kept, Changed}
use Rattle.order.specs.RoleSets.{kept as kept_roles}

-- ---- flags

abbrev pub Agree : List Bool → List Bool → Type 0
Agree f g = (i : ℕ) → get_or f i false ≡ get_or g i false

flags_agree : {P : ℕ → Type 0} (long : ℕ) (f g : List Bool)
    → ((i : ℕ) → i < long → Decides (get_or f i false) (P i)) → ((i : ℕ) → long ≤ i → get_or f i false ≡ false)
    → ((i : ℕ) → i < long → Decides (get_or g i false) (P i)) → ((i : ℕ) → long ≤ i → get_or g i false ≡ false) → Agree f g
flags_agree long f g a b c d i = elim (cases_lt i long) [
  | inl h ↦ one_answer (get_or f i false) (get_or g i false) (a i h) (c i h)
  | inr h ↦ b i h ∙ sym (d i h)
]

pub flagged_agree : {below : ℕ → ℕ → Bool} {path : List PathStepRow} (t : TreeLines) (f g : List Bool) → Flagged below path t f → Flagged below path t g → Agree f g
flagged_agree t f g a b = flags_agree (length t) f g a.each a.beyond b.each b.beyond

pub selected_agree : {below : ℕ → ℕ → Bool} {path : List PathStepRow} {p : Plan} {m : Pattern} (t : TreeLines) (f g : List Bool)
    → Selected below path p m t f → Selected below path p m t g → Agree f g
selected_agree t f g a b = flags_agree (length t) f g a.each a.beyond b.each b.beyond

-- ---- trees with other sets

pub same_enabled : {below : ℕ → ℕ → Bool} {path : List PathStepRow} {role : ℕ} (t a b : TreeLines) → Enabled below path role t a → Enabled below path role t b → a ≡ b
same_enabled {below} {path} {role} t a b v w = ext_get_or line0 a b (v.long ∙ sym w.long) (λ i h. at i (v.each i (omega (arith, v.long))) (w.each i (omega (arith, v.long))))
  where
    at : (i : ℕ) → EnabledLine below path role t i (line a i) → EnabledLine below path role t i (line b i) → line a i ≡ line b i
    at i (enabling.directly j x f e) (enabling.directly k y g d) = e ∙ sym d
    at i (enabling.directly j x f e) (enabling.elsewhere n d) = absurd (n j x f)
    at i (enabling.elsewhere n e) (enabling.directly j x f d) = absurd (n j x f)
    at i (enabling.elsewhere n e) (enabling.elsewhere m d) = e ∙ sym d

module _ {below : ℕ → ℕ → Bool} {path : List PathStepRow} {role : ℕ} (t a b : TreeLines) (v : Disabled below path role t a) (w : Disabled below path role t b) where
  same_line : (i : ℕ) → ((j : ℕ) → j < i → line a j ≡ line b j) → DisabledLine below path role t a i → DisabledLine below path role t b i → line a i ≡ line b i
  same_line i before (disabling.under f j g o u e) (disabling.under f' k g' o' x d) =
      let q : j ≡ k = one_above t i j k u x in
      let one : line a j ≡ line b k = before j u.before ∙ ap (line b) q in
      e ∙ ap (λ (y : TreeLine). with_set (line t i) (kept_roles (stays below role y.set) (line t i).set)) one ∙ sym d
  same_line i before (disabling.under f j g o u e) (disabling.elsewhere n d) = absurd (n f g o)
  same_line i before (disabling.elsewhere n e) (disabling.under f k g o x d) = absurd (n f g o)
  same_line i before (disabling.elsewhere n e) (disabling.elsewhere m d) = e ∙ sym d

  -- the first n lines are the same
  first_lines : (n : ℕ) → n ≤ length t → (i : ℕ) → i < n → line a i ≡ line b i
  first_lines zero h i l = absurd (omega (arith, l))
  first_lines (suc n) h i l = elim (cases_lt i n) [
    | inl m ↦ first_lines n (omega (arith, h)) i m
    | inr m ↦ same_line i (λ j k. first_lines n (omega (arith, h)) j (omega (arith, k, l))) (v.each i (omega (arith, h, l))) (w.each i (omega (arith, h, l)))
  ]

  pub same_disabled : a ≡ b
  same_disabled = ext_get_or line0 a b (v.long ∙ sym w.long) (λ i h. first_lines (length t) (omega arith) i (omega (arith, h, v.long)))

-- ---- changes

module _ (give : ℕ → Pasted) (t : TreeLines) (f g : List Bool) (agree : Agree f g) where
  over_again : (i : ℕ) → Uncut g t i → Uncut f t i
  over_again i u j x o = u j (sym (agree j) ∙ x) o

  same_piece : (i : ℕ) (x y : TreeLines) → Becomes f give t i x → Becomes g give t i y → x ≡ y
  same_piece i x y (cut j u o e) (cut k v p d) = e ∙ sym d
  same_piece i x y (cut j u o e) (replaced v n d) = absurd (n j (sym (agree j) ∙ u) o)
  same_piece i x y (cut j u o e) (kept v n d) = absurd (n j (sym (agree j) ∙ u) o)
  same_piece i x y (replaced u n e) (cut k v p d) = absurd (n k (agree k ∙ v) p)
  same_piece i x y (replaced u n e) (replaced v m d) = e ∙ sym d
  same_piece i x y (replaced u n e) (kept v m d) = absurd (v (sym (agree i) ∙ u))
  same_piece i x y (kept u n e) (cut k v p d) = absurd (n k (agree k ∙ v) p)
  same_piece i x y (kept u n e) (replaced v m d) = absurd (u (agree i ∙ v))
  same_piece i x y (kept u n e) (kept v m d) = e ∙ sym d

  pub same_changed : (a b : TreeLines) → Changed f give t a → Changed g give t b → a ≡ b
  same_changed a b v w =
      let pieces : v.pieces ≡ w.pieces = ext_get_or [] v.pieces w.pieces (v.one_each ∙ sym w.one_each)
      (λ i h. same_piece i (get_or v.pieces i []) (get_or w.pieces i []) (v.each i (omega (arith, h, v.one_each))) (w.each i (omega (arith, h, v.one_each)))) in
      v.whole ∙ (ap joined pieces ∙ sym w.whole)
