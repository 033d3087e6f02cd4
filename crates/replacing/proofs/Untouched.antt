-- What a change leaves as it is.
use Rattle.std.proofs.Common.{◌≡◌, ℕ, zero, suc, ◌+◌, ◌<◌, Bool, List, [], ◌∷◌, ◌++◌, length, get_or, sym, refl, ◌∙◌, subst, arith}
use Rattle.std.proofs.lemmas.List.{get_or-append-add, length-append}
use Rattle.rows.specs.declared.row.TreeLine.{TreeLine}
use Rattle.layout.specs.Network.{TreeLines, joined}
use Rattle.layout.specs.Zeros.{line0}
use Rattle.obeying.specs.Rules.{line}
use Rattle.replacing.specs.Pasting.{Pasted}
use Rattle.replacing.specs.Changing.{Flagged, Uncut, Becomes, cut, replaced, kept, Changed}

abbrev There : TreeLines → TreeLine → Type 0
There t x = (k : ℕ) × (k < length t) × (line t k ≡ x)

later : (p q : TreeLines) (x : TreeLine) → There q x → There (p ++ q) x
later p q x w = (length p + w.0, omega (arith, length-append p q, w.1), get_or-append-add p q w.0 line0 ∙ w.2)

joined_there : (ps : List TreeLines) (i : ℕ) (x : TreeLine) → i < length ps → get_or ps i [] ≡ x ∷ [] → There (joined ps) x
joined_there [] i x h e = absurd (omega arith)
joined_there (p ∷ ps) zero x h e = subst (λ (q : TreeLines). There (q ++ joined ps) x) (sym e) (0, omega arith, refl)
joined_there (p ∷ ps) (suc i) x h e = later p (joined ps) x (joined_there ps i x (omega arith) e)

pub untouched : (flags : List Bool) (given : ℕ → Pasted) (t after : TreeLines) → Changed flags given t after → (i : ℕ) → i < length t
    → (Flagged flags i → ⊥) → Uncut flags t i → There after (line t i)
untouched flags given t after c i h f u = subst (λ (xs : TreeLines). There xs (line t i)) (sym c.whole) (go (c.each i h))
  where
    go : Becomes flags given t i (get_or c.pieces i []) → There (joined c.pieces) (line t i)
    go (cut j g v e) = absurd (u j g v)
    go (replaced g v e) = absurd (f g)
    go (kept g v e) = joined_there c.pieces i (line t i) (omega (arith, c.one_each)) e
