-- A pattern of a network whose plan stands.
use Rattle.std.proofs.Common.{◌≡◌, ℕ, ◌<◌, length, Some, Option, subst, arith}
use Rattle.layout.specs.Network.{Plan}
use Rattle.meaning.specs.declared.patterns.Pattern.{Pattern}
use Rattle.meaning.specs.declared.patterns.Pattern.TheVariants as pattern
use Rattle.slots.specs.Slots.{pattern_at}
use Rattle.standing.specs.declared.sizes.Sizes.{Sizes}
use Rattle.standing.specs.Words.{Means, PatternStands}
use Rattle.replacing.specs.Holding.{InSlots}
use Rattle.reduction.specs.Soundness.{PlanStands}

in_slots : (s : Sizes) (m : Pattern) → PatternStands s m → InSlots m
in_slots s (pattern.Number slot) w = w
in_slots s (pattern.Script slot policy) w = w.0
in_slots s (pattern.Pointer slot policy last) w = w.0.0
in_slots s (pattern.Tree slot policy top all) w = w.0.0

pub pattern_in_slots : (s : Sizes) (p : Plan) → PlanStands s p → s.patterns ≡ length p.patterns → (row : ℕ) (m : Pattern) → row < s.patterns → pattern_at p.patterns row ≡ Some m → InSlots m
pattern_in_slots s p w count row m h is = in_slots s m (subst (λ (o : Option Pattern). Means o (PatternStands s)) is (w.patterns row (omega arith)))
