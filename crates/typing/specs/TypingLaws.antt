-- What the layers above may use of typed commands, for every order of roles.
use Rattle.std.specs.Prelude.{◌≡◌, ℕ, ◌<◌, Bool, Some, Contains, IsSome}
use Rattle.order.specs.RoleSets.{SomeBelow, SetBelow}
use Rattle.layout.specs.Network.{Plan, Network}
use Rattle.meaning.specs.declared.contents.Content.{Content}
use Rattle.meaning.specs.declared.directions.Direction.TheVariants as direction
use Rattle.meaning.specs.declared.verbs.Operand.{Operand}
use Rattle.meaning.specs.declared.verbs.Verb.{Verb}
use Rattle.meaning.specs.declared.verbs.Verb.TheVariants as verb
use Rattle.slots.specs.Slots.{pattern_at}
use Rattle.pasting.specs.Words.{least_of, ContentFits, ContentObeys}
use Rattle.commands.specs.declared.standing.Standing.{Standing}
use Rattle.commands.specs.declared.rule.CommandRule.{CommandRule}
use Rattle.commands.specs.Rules.{goal_of, last_of, slots_after, Open, wanted, Asks}
use Rattle.typing.specs.Flow.{command_at, verb_at}
use Rattle.typing.specs.Typing.{Typed}

-- ---- what a typed command keeps, and what it leaves typed, verb by verb

pub record GoKeeps (below : ℕ → ℕ → Bool) (p : Plan) (s : Standing) (c : ℕ) (location : Operand) (roles : ℕ) : Type 0 where
  pub policy : ℕ
  pub there : goal_of p s location ≡ Some policy
  pub least : SetBelow below (least_of p policy) roles
  pub next : Typed below p (record { policy = policy; roles = roles; slots = s.slots }) (command_at p c).next

pub record RunKeeps (below : ℕ → ℕ → Bool) (p : Plan) (s : Standing) (c : ℕ) (path : Operand) : Type 0 where
  pub last : ℕ
  pub there : last_of p s path ≡ Some last
  pub open_path : SetBelow below last s.roles
  pub next : Typed below p s (command_at p c).next

-- what follows a read has the slots that the read fills
pub record ReadKeeps (below : ℕ → ℕ → Bool) (p : Plan) (s : Standing) (c : ℕ) (path : Operand) (row : ℕ) : Type 0 where
  pub last : ℕ
  pub there : last_of p s path ≡ Some last
  pub open_path : SetBelow below last s.roles
  pub open_tree : Open below s.roles (pattern_at p.patterns row)
  pub next : Typed below p (record { policy = s.policy; roles = s.roles; slots = slots_after p s row }) (command_at p c).next

-- what follows a change has the slots from before it
pub record ChangeKeeps (below : ℕ → ℕ → Bool) (p : Plan) (s : Standing) (c : ℕ) (path : Operand) (row : ℕ) (content : Content) : Type 0 where
  pub last : ℕ
  pub there : last_of p s path ≡ Some last
  pub fits : ContentFits p (slots_after p s row) content
  pub open_path : SetBelow below last s.roles
  pub open_tree : Open below s.roles (pattern_at p.patterns row)
  pub obeys : ContentObeys below p s.policy last (slots_after p s row) content
  pub next : Typed below p s (command_at p c).next

pub record EnableKeeps (below : ℕ → ℕ → Bool) (p : Plan) (s : Standing) (c : ℕ) (path : Operand) (role : ℕ) : Type 0 where
  pub last : ℕ
  pub there : last_of p s path ≡ Some last
  pub open_path : SetBelow below last s.roles
  pub granted : Contains p.grants (wanted s direction.Enable role)
  pub under : SomeBelow below last role
  pub next : Typed below p s (command_at p c).next

pub record DisableKeeps (below : ℕ → ℕ → Bool) (p : Plan) (s : Standing) (c : ℕ) (path : Operand) (role : ℕ) : Type 0 where
  pub last : ℕ
  pub there : last_of p s path ≡ Some last
  pub open_path : SetBelow below last s.roles
  pub granted : Contains p.grants (wanted s direction.Disable role)
  pub next : Typed below p s (command_at p c).next

pub record TypingLaws : Type 0 where
  pub fork : (below : ℕ → ℕ → Bool) (p : Plan) (s : Standing) (c other : ℕ) → Typed below p s c → verb_at p c ≡ Some (verb.Fork other)
      → Typed below p s (command_at p c).next × Typed below p s other
  pub go : (below : ℕ → ℕ → Bool) (p : Plan) (s : Standing) (c : ℕ) (location : Operand) (roles : ℕ) → Typed below p s c
      → verb_at p c ≡ Some (verb.Go location roles) → GoKeeps below p s c location roles
  pub run : (below : ℕ → ℕ → Bool) (p : Plan) (s : Standing) (c : ℕ) (path : Operand) → Typed below p s c
      → verb_at p c ≡ Some (verb.Run path) → RunKeeps below p s c path
  pub read : (below : ℕ → ℕ → Bool) (p : Plan) (s : Standing) (c : ℕ) (path : Operand) (row : ℕ) → Typed below p s c
      → verb_at p c ≡ Some (verb.Read path row) → ReadKeeps below p s c path row
  pub change : (below : ℕ → ℕ → Bool) (p : Plan) (s : Standing) (c : ℕ) (path : Operand) (row : ℕ) (content : Content) → Typed below p s c
      → verb_at p c ≡ Some (verb.Change path row content) → ChangeKeeps below p s c path row content
  pub enable : (below : ℕ → ℕ → Bool) (p : Plan) (s : Standing) (c : ℕ) (path : Operand) (role : ℕ) → Typed below p s c
      → verb_at p c ≡ Some (verb.Enable path role) → EnableKeeps below p s c path role
  pub disable : (below : ℕ → ℕ → Bool) (p : Plan) (s : Standing) (c : ℕ) (path : Operand) (role : ℕ) → Typed below p s c
      → verb_at p c ≡ Some (verb.Disable path role) → DisableKeeps below p s c path role
  -- a typed command keeps each rule, so no slot that it uses is unfit
  pub rules : (below : ℕ → ℕ → Bool) (p : Plan) (s : Standing) (c : ℕ) (v : Verb) → Typed below p s c → verb_at p c ≡ Some v
      → (r : CommandRule) → Asks below p s v r
  -- a command that is typed is 0 or means a verb
  pub means : (below : ℕ → ℕ → Bool) (p : Plan) (s : Standing) (c : ℕ) → Typed below p s c → 0 < c → IsSome (verb_at p c)
  -- trees, running jobs and the shelf play no part: what is typed stays typed as long as the plan is the same
  pub stays : (below : ℕ → ℕ → Bool) (n m : Network) → n.plan ≡ m.plan → (s : Standing) (c : ℕ) → Typed below n.plan s c → Typed below m.plan s c
