-- What it says that nothing is told.
use Rattle.std.proofs.Common.{◌≡◌, ℕ, zero, suc, ◌<◌, ◌≤◌, Bool, true, false, cond, ltb, leb, ◌⊎◌, List, [], ◌∷◌, length, get_or, take, Some, None, Decides, Option, sym, refl, subst, inl, inr, arith}
use Rattle.std.proofs.lemmas.Bool.{cases_lt, le-ltb, lt-ltb, leb-true, le-leb, cond-true, cond-false, false≢true}
use Rattle.scan.specs.Scan.{or_else, first_bad, carried, clear, Each}
use Rattle.scan.proofs.Scan.{bad_each, each_bad}

-- nothing is told exactly when P holds
abbrev pub Tells : {X : Type 0} → Option X → Type 0 → Type 0
Tells o P = (o ≡ None → P) × (P → o ≡ None)

-- something is told, so P does not hold
pub some-tells : {X : Type 0} {P : Type 0} (o : Option X) (x : X) → Tells o P → o ≡ Some x → P → ⊥
some-tells o x t e p = let n = t.1 p in let z : ◌≡◌ {A = ℕ} 0 1 = cc in omega arith

pub tells_some : {X : Type 0} {P : Type 0} (x : X) → (P → ⊥) → Tells (Some x) P
tells_some x n = (λ e. let z : ◌≡◌ {A = ℕ} 0 1 = cc in absurd (omega arith), λ p. absurd (n p))

pub tells_none : {X : Type 0} {P : Type 0} → P → Tells {X = X} None P
tells_none p = (λ e. p, λ w. refl)

pub tells_like : {X : Type 0} {P Q : Type 0} (o : Option X) → (P → Q) → (Q → P) → Tells o P → Tells o Q
tells_like o f g t = (λ e. f (t.0 e), λ q. t.1 (g q))

-- one after the other
pub or_tells : {X : Type 0} {P Q : Type 0} (a b : Option X) → Tells a P → (P → Tells b Q) → Tells (or_else a b) (P × Q)
or_tells (Some x) b p q = tells_some x (λ w. some-tells (Some x) x p refl w.0)
or_tells None b p q = (λ e. (p.0 refl, (q (p.0 refl)).0 e), λ w. (q w.0).1 w.1)

-- what is told is told in another way
pub map_tells : {X Y : Type 0} {P : Type 0} (f : Option X → Option Y) → f None ≡ None → ((x : X) → (y : Y) × (f (Some x) ≡ Some y)) → (o : Option X) → Tells o P → Tells (f o) P
map_tells f n s None t = (λ e. t.0 refl, λ w. n)
map_tells f n s (Some x) t = (λ e. let g = (s x).1 in let z : ◌≡◌ {A = ℕ} 0 1 = cc in absurd (omega arith), λ w. absurd (some-tells (Some x) x t refl w))

-- a count that passes a limit is told
pub few_tells : {P : Type 0} (limit count : ℕ) (o : Option ℕ) → (count ≤ limit → Tells o P) → Tells (cond (ltb limit count) (Some limit) o) ((count ≤ limit) × P)
few_tells {P = P} limit count o p = elim (cases_lt limit count) [
  | inl l ↦ subst (λ (x : Option ℕ). Tells x ((count ≤ limit) × P)) (sym (cond-true (ltb limit count) (Some limit) o (lt-ltb limit count l))) (tells_some limit (λ w. omega (arith, w.0)))
  | inr l ↦ subst (λ (x : Option ℕ). Tells x ((count ≤ limit) × P)) (sym (cond-false (ltb limit count) (Some limit) o (le-ltb limit count l))) (tells_like o (λ w. (l, w)) (λ w. w.1) (p l))
]

-- rows that ask nothing of the rows before
pub each_tells : {X : Type 0} (passes : X → Bool) (P : X → Type 0) (z : X) → ((x : X) → Decides (passes x) (P x)) → (i : ℕ) (xs : List X)
    → Tells (first_bad (λ i x. passes x) i xs) (Each P z xs)
each_tells passes P z d i xs =
    (λ e k h. (d (get_or xs k z)).0 (bad_each (λ i x. passes x) i xs z e k h), λ w. each_bad (λ i x. passes x) i xs z (λ k h. (d (get_or xs k z)).1 (w k h)))

pub Decides-clear : {X : Type 0} {P : Type 0} (o : Option X) → Tells o P → Decides (clear o) P
Decides-clear (Some x) t = (λ e. let z : ◌≡◌ {A = ℕ} 0 1 = cc in absurd (omega arith), λ w. absurd (some-tells (Some x) x t refl w))
Decides-clear None t = (λ e. t.0 refl, λ w. refl)

pub Decides-leb : (a b : ℕ) → Decides (leb a b) (a ≤ b)
Decides-leb a b = (leb-true a b, le-leb a b)

-- ---- what is carried along

-- one row more
pub carried_step : {S X : Type 0} (next : S → X → S) (s : S) (xs : List X) (k : ℕ) (z : X) → k < length xs → carried next s (take (suc k) xs) ≡ next (carried next s (take k xs)) (get_or xs k z)
carried_step next s [] k z h = absurd (omega arith)
carried_step next s (x ∷ xs) zero z h = refl
carried_step next s (x ∷ xs) (suc k) z h = carried_step next (next s x) xs k z (omega arith)

-- where only the last row counts
pub carried-last : {S X : Type 0} (f : X → S) (s : S) (xs : List X) (j : ℕ) (z : X) → j < length xs → carried (λ s x. f x) s (take (suc j) xs) ≡ f (get_or xs j z)
carried-last f s xs j z h = carried_step (λ s x. f x) s xs j z h

-- ---- tests that part

-- a test that goes one way or the other, where the two ways exclude each other
pub Decides-cond : {P Q R : Type 0} (b x y : Bool) → Decides b P → Decides x Q → Decides y R → (P → R → ⊥) → Decides (cond b x y) ((P × Q) ⊎ R)
Decides-cond true x y p q r apart = (λ e. inl (p.0 refl, q.0 e), λ w. elim w [ inl v ↦ q.1 v.1 | inr v ↦ absurd (apart (p.0 refl) v) ])
Decides-cond false x y p q r apart = (λ e. inr (r.0 e), λ w. elim w [ inl v ↦ absurd (false≢true (p.1 v.0)) | inr v ↦ r.1 v ])
