-- A search through the roles of a set: those taken out so far have the property, the others are still there.
use Rattle.std.proofs.Common.{◌≡◌, ℕ, false, sym, subst}
use Rattle.order.specs.RoleSets.{has, In, Part}
use Rattle.order.proofs.Bits.{has-none}

pub record Searched (P : ℕ → Type 0) (set left : ℕ) : Type 0 where
  pub rest : Part left set
  pub passed : (x : ℕ) → In x set → has left x ≡ false → P x

pub searched_all : {P : ℕ → Type 0} {set left : ℕ} → Searched P set left → left ≡ 0 → (x : ℕ) → In x set → P x
searched_all {left = left} s e x t = s.passed x t (subst (λ (n : ℕ). has n x ≡ false) (sym e) (has-none x))
