-- A set that is a part of another.
use Rattle.std.proofs.Common.{◌≡◌, ℕ, ◌^◌, ◌<◌, Bool, true, false, ◌||◌, Decides, sym, refl, ◌∙◌, subst}
use lib.Bits.{bit_or, or_lt}
use Rattle.std.proofs.lemmas.Bool.{eqb-true, eq-eqb}
use Rattle.order.specs.RoleSets.{has, In, Part}
use Rattle.order.proofs.Bits.{has-or, has_same}
use Rattle.order.proofs.Sets.{part_left}
use Rattle.obeying.specs.Breaches.{part_of}

or_absorbs : (a b : Bool) → (a ≡ true → b ≡ true) → (a || b) ≡ b
or_absorbs true b f = sym (f refl)
or_absorbs false b f = refl

pub Decides-part : (a b : ℕ) → a < 2 ^ 64 → b < 2 ^ 64 → Decides (part_of a b) (Part a b)
Decides-part a b small-a small_b = (
  λ e role t. subst (λ (n : ℕ). In role n) (eqb-true (bit_or a b) b e) (part_left a b role t),
  λ w. eq-eqb (bit_or a b) b (has_same 64 (bit_or a b) b (or_lt 64 a b small-a small_b) small_b (λ r h. has-or a b r ∙ or_absorbs (has a r) (has b r) (w r))),
)
