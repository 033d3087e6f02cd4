-- What the layers above may use of role sets, for every lawful order of roles.
use Rattle.std.specs.Prelude.{◌≡◌, ℕ, ◌^◌, ◌<◌, Bool, ◌&&◌, ◌||◌, Decides, ◌==◌, bit_or}
use Rattle.order.specs.Laws.{Lawful}
use Rattle.order.specs.RoleSets.{has, In, Part, SomeBelow, SetBelow, Opens, InUse, some_below, set_below, opens_to, in_use, with_role, kept}

-- ≤ between sets
pub record SetsOrdered (count top : ℕ) (below : ℕ → ℕ → Bool) : Type 0 where
  -- a set of roles is ≤ itself
  pub reflexive : (a : ℕ) → ((role : ℕ) → In role a → role < count) → SetBelow below a a
  pub transitive : (a b c : ℕ) → SetBelow below a b → SetBelow below b c → SetBelow below a c
  -- a larger set on the left and a smaller one on the right keep it
  pub monotone : (a a' b b' : ℕ) → Part a a' → Part b' b → SetBelow below a b → SetBelow below a' b'
  -- a union on the right: both parts, or none
  pub union : (a b c : ℕ) → SetBelow below a b → SetBelow below a c → SetBelow below a (bit_or b c)
  pub parts : (a b c : ℕ) → SetBelow below a (bit_or b c) → SetBelow below a b × SetBelow below a c
  -- a ≤ {r} says that some role of a is at or below r
  pub single : (a r : ℕ) → SomeBelow below a r → SetBelow below a (2 ^ r)
  pub of_single : (a r : ℕ) → SetBelow below a (2 ^ r) → SomeBelow below a r
  -- what stands above a set is made of roles
  pub inside : (a b : ℕ) → SetBelow below a b → (role : ℕ) → In role b → role < count
  -- every set that has a role is ≤ {top}
  pub topped : (a role : ℕ) → In role a → role < count → SetBelow below a (2 ^ top)
  -- an edge whose set is ≤ that of an open edge is open too
  pub opens_up : (set set' roles : ℕ) → SetBelow below set' set → Opens below set roles → Opens below set' roles

-- the tests decide the sentences
pub record TestsDecide (count : ℕ) (below : ℕ → ℕ → Bool) : Type 0 where
  pub some_below : (a r : ℕ) → a < 2 ^ 64 → Decides (some_below below a r) (SomeBelow below a r)
  pub set_below : (a b : ℕ) → a < 2 ^ 64 → b < 2 ^ 64 → Decides (set_below below a b) (SetBelow below a b)
  pub opens : (set roles : ℕ) → set < 2 ^ 64 → roles < 2 ^ 64 → Decides (opens_to below set roles) (Opens below set roles)
  pub in_use : (set : ℕ) → set < 2 ^ 64 → Decides (in_use count set) (InUse count set)

-- membership, whatever the order
pub record Membership : Type 0 where
  pub added : (set r x : ℕ) → has (with_role set r) x ≡ (has set x || r == x)
  pub kept_roles : (p : ℕ → Bool) (set : ℕ) → set < 2 ^ 64 → (x : ℕ) → has (kept p set) x ≡ (has set x && p x)
  pub kept_small : (p : ℕ → Bool) (set : ℕ) → kept p set < 2 ^ 64
  pub equal : (a b : ℕ) → a < 2 ^ 64 → b < 2 ^ 64 → ((x : ℕ) → x < 64 → has a x ≡ has b x) → a ≡ b

pub record RoleSetLaws : Type 0 where
  pub ordered : (count top : ℕ) (below : ℕ → ℕ → Bool) → Lawful count top below → SetsOrdered count top below
  pub decided : (count : ℕ) (below : ℕ → ℕ → Bool) → TestsDecide count below
  pub membership : Membership
