-- The tests on role sets decide what the words say, at any numbers of 64 bits.
use Rattle.std.proofs.Common.{◌≡◌, ℕ, ◌^◌, ◌<◌, Bool, true, false, not, ◌&&◌, ◌||◌, eqb, ltb, Decides, refl, ⊎_elim}
use Rattle.std.proofs.lemmas.Bool.Decides.{Decides-below_and, Decides-below_or, Decides-and, Decides-not, Decides-eqb, Decides-ltb, Decides-like}
use Rattle.std.proofs.lemmas.Bool.{and_parts, and_from, or_cases, or_left, or_right, both_ways, cases_Bool, false≢true, not-true, not_from_false}
use Rattle.order.specs.RoleSets.{has, In, SomeBelow, SetBelow, Opens, InUse, every, some, some_below, set_below, opens_to, in_use, in_use_of}
use Rattle.order.proofs.Bits.{has-below, small_of_itself, small_from_roles}

pub Decides-yes : {P : Type 0} → P → Decides true P
Decides-yes p = (λ _. p, λ _. refl)

pub Decides-no : {P : Type 0} → (P → ⊥) → Decides false P
Decides-no n = (λ e. absurd (false≢true e), λ p. absurd (n p))

itself : (b : Bool) → Decides b (b ≡ true)
itself b = (λ e. e, λ e. e)

pub Decides-every : (p : ℕ → Bool) (n : ℕ) → Decides (every p n) ((k : ℕ) → k < n → p k ≡ true)
unfolding every
Decides-every p n = Decides-below_and p (λ k. p k ≡ true) (every p) (λ k. itself (p k)) refl (λ _. refl) n

pub Decides-some : (p : ℕ → Bool) (n : ℕ) → Decides (some p n) ((k : ℕ) × (k < n) × (p k ≡ true))
unfolding some
Decides-some p n = Decides-below_or p (λ k. p k ≡ true) (some p) (λ k. itself (p k)) refl (λ _. refl) n

-- a test of every role of a set is a test below 64
Decides-each : (set : ℕ) (p : ℕ → Bool) (P : ℕ → Type 0) → set < 2 ^ 64 → ((x : ℕ) → Decides (p x) (P x))
    → Decides (every (λ x. not (has set x) || p x) 64) ((x : ℕ) → In x set → P x)
Decides-each set p P small each =
    let d = Decides-every (λ x. not (has set x) || p x) 64 in (
      λ e x t.
          ⊎_elim (λ n. absurd (both_ways (has set x) (not-true (has set x) n) t)) (λ q. (each x).0 q)
          (or_cases (not (has set x)) (p x) (d.0 e x (has-below 64 set x small t))),
      λ w. d.1 (λ x _. ⊎_elim
          (λ (t : In x set). or_right (not (has set x)) (p x) ((each x).1 (w x t)))
          (λ f. or_left (not (has set x)) (p x) (not_from_false (has set x) f))
          (cases_Bool (has set x))),
    )

pub Decides-some_below : (below : ℕ → ℕ → Bool) (set role : ℕ) → set < 2 ^ 64 → Decides (some_below below set role) (SomeBelow below set role)
unfolding some_below
Decides-some_below below set role small =
    let d = Decides-some (λ x. has set x && below x role) 64 in (
      λ e. let w = d.0 e in let p = and_parts (has set w.0) (below w.0 role) w.2 in (w.0, p.0, p.1),
      λ w. d.1 (w.0, has-below 64 set w.0 small w.1, and_from (has set w.0) (below w.0 role) w.1 w.2),
    )

pub Decides-set_below : (below : ℕ → ℕ → Bool) (a b : ℕ) → a < 2 ^ 64 → b < 2 ^ 64 → Decides (set_below below a b) (SetBelow below a b)
unfolding set_below
Decides-set_below below a b small-a small_b =
    Decides-each b (some_below below a) (SomeBelow below a) small_b (λ role. Decides-some_below below a role small-a)

pub Decides-not_zero : (n : ℕ) → Decides (not (eqb n 0)) (n ≡ 0 → ⊥)
Decides-not_zero n = Decides-not (eqb n 0) (Decides-eqb n 0)

pub Decides-opens : (below : ℕ → ℕ → Bool) (set roles : ℕ) → set < 2 ^ 64 → roles < 2 ^ 64 → Decides (opens_to below set roles) (Opens below set roles)
Decides-opens below set roles small-set small-roles =
    Decides-and (not (eqb roles 0)) (set_below below set roles) (Decides-not_zero roles) (Decides-set_below below set roles small-set small-roles)

pub Decides-in_use : (count set : ℕ) → set < 2 ^ 64 → Decides (in_use count set) (InUse count set)
unfolding in_use
Decides-in_use count set small =
    Decides-and (not (eqb set 0)) (every (λ role. not (has set role) || ltb role count) 64) (Decides-not_zero set)
    (Decides-each set (λ role. ltb role count) (λ role. role < count) small (λ role. Decides-ltb role count))

pub Decides-in_use_of : (count set : ℕ) → Decides (in_use_of count set) (InUse count set)
unfolding in_use_of
Decides-in_use_of count set =
    Decides-and (not (eqb set 0)) (ltb set (2 ^ count)) (Decides-not_zero set)
    (Decides-like (ltb set (2 ^ count)) (λ h role t. has-below count set role h t) (λ w. small_from_roles count set set (small_of_itself set) w) (Decides-ltb set (2 ^ count)))
