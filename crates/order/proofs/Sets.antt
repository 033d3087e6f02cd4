-- The laws of ≤ between sets, for every lawful order.
use Rattle.std.proofs.Common.{◌≡◌, ℕ, ◌^◌, ◌<◌, Bool, sym, refl, ◌∙◌, subst, ⊎_elim}
use lib.Bits.{bit_or}
use Rattle.std.proofs.lemmas.Bool.{eqb-true, eq-eqb, or_cases, or_left, or_right}
use Rattle.order.specs.Laws.{Lawful}
use Rattle.order.specs.RoleSets.{has, In, Part, SomeBelow, SetBelow, Opens}
use Rattle.order.specs.SetLaws.{SetsOrdered}
use Rattle.order.proofs.Bits.{has-or, has_one}

-- ---- with no law of the order

pub in_one : (r x : ℕ) → In x (2 ^ r) → r ≡ x
in_one r x t = eqb-true r x (sym (has_one r x) ∙ t)

pub one_in : (r : ℕ) → In r (2 ^ r)
one_in r = has_one r r ∙ eq-eqb r r refl

pub part_left : (a b : ℕ) → Part a (bit_or a b)
part_left a b x t = has-or a b x ∙ or_left (has a x) (has b x) t

pub part_right : (a b : ℕ) → Part b (bit_or a b)
part_right a b x t = has-or a b x ∙ or_right (has a x) (has b x) t

module _ (below : ℕ → ℕ → Bool) where
  pub set_mono : (a a' b b' : ℕ) → Part a a' → Part b' b → SetBelow below a b → SetBelow below a' b'
  set_mono a a' b b' p q s y t = let w = s y (q y t) in (w.0, p w.0 w.1, w.2)

  pub set_union : (a b c : ℕ) → SetBelow below a b → SetBelow below a c → SetBelow below a (bit_or b c)
  set_union a b c p q y t = ⊎_elim (p y) (q y) (or_cases (has b y) (has c y) (sym (has-or b c y) ∙ t))

  pub set_parts : (a b c : ℕ) → SetBelow below a (bit_or b c) → SetBelow below a b × SetBelow below a c
  set_parts a b c p = (λ y t. p y (part_left b c y t), λ y t. p y (part_right b c y t))

  pub single_to : (a r : ℕ) → SomeBelow below a r → SetBelow below a (2 ^ r)
  single_to a r w y t = subst (λ (z : ℕ). SomeBelow below a z) (in_one r y t) w

  pub single_from : (a r : ℕ) → SetBelow below a (2 ^ r) → SomeBelow below a r
  single_from a r s = s r (one_in r)

-- ---- with the laws

module _ {count top : ℕ} {below : ℕ → ℕ → Bool} (laws : Lawful count top below) where
  pub set_refl : (a : ℕ) → ((x : ℕ) → In x a → x < count) → SetBelow below a a
  set_refl a h y t = (y, t, laws.reflexive y (h y t))

  pub set_trans : (a b c : ℕ) → SetBelow below a b → SetBelow below b c → SetBelow below a c
  set_trans a b c p q y t =
      let v = q y t in
      let w = p v.0 v.1 in
      (w.0, w.1, laws.transitive w.0 v.0 y w.2 v.2)

  pub set_inside : (a b : ℕ) → SetBelow below a b → (y : ℕ) → In y b → y < count
  set_inside a b p y t = let w = p y t in (laws.within w.0 y w.2).1

  pub set_topped : (a x : ℕ) → In x a → x < count → SetBelow below a (2 ^ top)
  set_topped a x t h = single_to below a top (x, t, laws.topmost x h)

  pub opens_up : (set set' roles : ℕ) → SetBelow below set' set → Opens below set roles → Opens below set' roles
  opens_up set set' roles p o = (o.0, set_trans set' set roles p o.1)

  pub sets_ordered : SetsOrdered count top below
  sets_ordered = record {
    reflexive = set_refl;
    transitive = set_trans;
    monotone = set_mono below;
    union = set_union below;
    parts = set_parts below;
    single = single_to below;
    of_single = single_from below;
    inside = set_inside;
    topped = set_topped;
    opens_up = opens_up;
  }
