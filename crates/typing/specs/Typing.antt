-- The typing rules of commands: which processes are allowed at a policy, with roles and filled slots. One constructor for each
-- verb, named after it.
use Rattle.std.specs.Prelude.{◌≡◌, ℕ, Bool, Some, Contains}
use Rattle.order.specs.RoleSets.{SomeBelow, SetBelow}
use Rattle.layout.specs.Network.{Plan}
use Rattle.meaning.specs.declared.contents.Content.{Content}
use Rattle.meaning.specs.declared.directions.Direction.TheVariants as direction
use Rattle.meaning.specs.declared.verbs.Operand.{Operand}
use Rattle.meaning.specs.declared.verbs.Verb.TheVariants as verb
use Rattle.slots.specs.Slots.{pattern_at}
use Rattle.pasting.specs.Words.{least_of, ContentFits, ContentObeys}
use Rattle.commands.specs.declared.standing.Standing.{Standing}
use Rattle.commands.specs.Rules.{goal_of, last_of, slots_after, Open, wanted}
use Rattle.typing.specs.Flow.{command_at, verb_at}

-- command c under the standing s; c is 0 where nothing follows
pub data Typed (below : ℕ → ℕ → Bool) (p : Plan) : Standing → ℕ → Type 0 where
  nil : {s : Standing} {c : ℕ} → c ≡ 0 → Typed below p s c
  fork : {s : Standing} {c : ℕ} (other : ℕ) → verb_at p c ≡ Some (verb.Fork other)
      → Typed below p s (command_at p c).next → Typed below p s other
      → Typed below p s c
  -- a go starts again at the policy that it enters, with the new roles
  go : {s : Standing} {c : ℕ} (location : Operand) (roles policy : ℕ) → verb_at p c ≡ Some (verb.Go location roles)
      → goal_of p s location ≡ Some policy
      → SetBelow below (least_of p policy) roles
      → Typed below p (record { policy = policy; roles = roles; slots = s.slots }) (command_at p c).next
      → Typed below p s c
  run : {s : Standing} {c : ℕ} (path : Operand) (last : ℕ) → verb_at p c ≡ Some (verb.Run path)
      → last_of p s path ≡ Some last
      → SetBelow below last s.roles
      → Typed below p s (command_at p c).next
      → Typed below p s c
  -- a read fills slots for what follows
  read : {s : Standing} {c : ℕ} (path : Operand) (row last : ℕ) → verb_at p c ≡ Some (verb.Read path row)
      → last_of p s path ≡ Some last
      → SetBelow below last s.roles
      → Open below s.roles (pattern_at p.patterns row)
      → Typed below p (record { policy = s.policy; roles = s.roles; slots = slots_after p s row }) (command_at p c).next
      → Typed below p s c
  -- a change fills slots for its content only
  change : {s : Standing} {c : ℕ} (path : Operand) (row last : ℕ) (content : Content) → verb_at p c ≡ Some (verb.Change path row content)
      → last_of p s path ≡ Some last
      → ContentFits p (slots_after p s row) content
      → SetBelow below last s.roles
      → Open below s.roles (pattern_at p.patterns row)
      → ContentObeys below p s.policy last (slots_after p s row) content
      → Typed below p s (command_at p c).next
      → Typed below p s c
  enable : {s : Standing} {c : ℕ} (path : Operand) (role last : ℕ) → verb_at p c ≡ Some (verb.Enable path role)
      → last_of p s path ≡ Some last
      → SetBelow below last s.roles
      → Contains p.grants (wanted s direction.Enable role)
      → SomeBelow below last role
      → Typed below p s (command_at p c).next
      → Typed below p s c
  disable : {s : Standing} {c : ℕ} (path : Operand) (role last : ℕ) → verb_at p c ≡ Some (verb.Disable path role)
      → last_of p s path ≡ Some last
      → SetBelow below last s.roles
      → Contains p.grants (wanted s direction.Disable role)
      → Typed below p s (command_at p c).next
      → Typed below p s c
