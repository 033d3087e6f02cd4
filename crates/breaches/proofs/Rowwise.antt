-- Rows one by one.
use Rattle.std.proofs.Common.{◌≡◌, ℕ, ◌+◌, ◌<◌, List, [], ◌∷◌, map, length, get_or, drop, slice_get, Some, None, Option, IfSome, sym, refl, ap, ◌∙◌, subst, inl, inr, arith}
use Rattle.std.proofs.Math.ListN.{get_or-map}
use Rattle.std.proofs.lemmas.Bool.{cases_eq}
use Rattle.std.proofs.lemmas.List.{drop_more, length-map}
use Rattle.std.proofs.lemmas.Option.{get_or_from_slice_get, slice_get_within, slice_get-get_or}
use Rattle.scan.specs.Scan.{or_else}
use Rattle.breaches.specs.declared.breach.RuleBreach.{RuleBreach}
use Rattle.breaches.specs.Told.{first_told}

-- a row of which nothing is told leaves those behind it
pub told_next : {X : Type 0} (told : ℕ → X → Option RuleBreach) (xs : List X) (i : ℕ) (x : X) → i < length xs → x ≡ get_or xs i x → told i x ≡ None
    → first_told told i (drop i xs) ≡ first_told told (i + 1) (drop (i + 1) xs)
told_next told xs i x h e n =
    ap (first_told told i) (drop_more xs i x h)
    ∙ ap (λ (o : Option RuleBreach). or_else o (first_told told (i + 1) (drop (i + 1) xs))) (ap (told i) (sym e) ∙ n)

-- what holds of the rows before and of this one
pub rows_more : {X : Type 0} (P : ℕ → X → Type 0) (xs : List X) (i : ℕ) (x : X) → x ≡ get_or xs i x
    → ((k : ℕ) (y : X) → k < i → slice_get xs k ≡ Some y → P k y) → P i x → (k : ℕ) (y : X) → k < i + 1 → slice_get xs k ≡ Some y → P k y
rows_more P xs i x e before here k y h s = elim (cases_eq k i) [
  | inl q ↦
      let w : x ≡ y = e ∙ get_or_from_slice_get xs i y x (subst (λ (n : ℕ). slice_get xs n ≡ Some y) q s) in
      subst (λ (n : ℕ). P n y) (sym q) (subst (P i) w here)
  | inr q ↦ before k y (omega arith) s
]

pub rows_all : {X : Type 0} (P : ℕ → X → Type 0) (xs : List X) (i : ℕ) → length xs ≡ i → ((k : ℕ) (y : X) → k < i → slice_get xs k ≡ Some y → P k y)
    → (k : ℕ) (y : X) → slice_get xs k ≡ Some y → P k y
rows_all P xs i e before k y s = before k y (omega (arith, slice_get_within xs k y s)) s

-- ---- rows by their place

pub each_got : {X : Type 0} (P : ℕ → X → Type 0) (xs : List X) (z : X) → ((k : ℕ) (x : X) → slice_get xs k ≡ Some x → P k x) → (k : ℕ) → k < length xs → P k (get_or xs k z)
each_got P xs z w k h = w k (get_or xs k z) (slice_get-get_or xs k z h)

pub got_each : {X : Type 0} (P : ℕ → X → Type 0) (xs : List X) (z : X) → ((k : ℕ) → k < length xs → P k (get_or xs k z)) → (k : ℕ) (x : X) → slice_get xs k ≡ Some x → P k x
got_each P xs z w k x e = subst (P k) (get_or_from_slice_get xs k x z e) (w k (slice_get_within xs k x e))

pub some_got : {X : Type 0} (P : ℕ → X → RuleBreach → Type 0) (xs : List X) (z : X) (r : Option RuleBreach)
    → IfSome r (λ b. (k : ℕ) × (x : X) × (slice_get xs k ≡ Some x) × P k x b) → IfSome r (λ b. (k : ℕ) × (k < length xs) × P k (get_or xs k z) b)
some_got P xs z None w = tt
some_got P xs z (Some b) w = (w.0, slice_get_within xs w.0 w.1 w.2, subst (λ (x : _). P w.0 x b) (sym (get_or_from_slice_get xs w.0 w.1 z w.2)) w.3)

-- ---- rows read in another way

pub told_read : {X Y : Type 0} (read : X → Y) (told : ℕ → Y → Option RuleBreach) (i : ℕ) (xs : List X) → first_told (λ k x. told k (read x)) i xs ≡ first_told told i (map read xs)
told_read read told i [] = refl
told_read read told i (x ∷ xs) = ap (or_else (told i (read x))) (told_read read told (i + 1) xs)

module _ {X Y : Type 0} (read : X → Y) (xs : List X) (z : X) where
  pub each_read : (P : ℕ → Y → Type 0) → ((k : ℕ) → k < length xs → P k (read (get_or xs k z))) → (k : ℕ) → k < length (map read xs) → P k (get_or (map read xs) k (read z))
  each_read P w k h = subst (P k) (sym (get_or-map read xs k z)) (w k (omega (arith, length-map xs read)))

  pub read_each : (P : ℕ → Y → Type 0) → ((k : ℕ) → k < length (map read xs) → P k (get_or (map read xs) k (read z))) → (k : ℕ) → k < length xs → P k (read (get_or xs k z))
  read_each P w k h = subst (P k) (get_or-map read xs k z) (w k (omega (arith, length-map xs read)))

  pub some_read : (P : ℕ → Y → RuleBreach → Type 0) (r : Option RuleBreach)
      → IfSome r (λ b. (k : ℕ) × (k < length xs) × P k (read (get_or xs k z)) b) → IfSome r (λ b. (k : ℕ) × (k < length (map read xs)) × P k (get_or (map read xs) k (read z)) b)
  some_read P None w = tt
  some_read P (Some b) w = (w.0, omega (arith, w.1, length-map xs read), subst (λ (y : Y). P w.0 y b) (sym (get_or-map read xs w.0 z)) w.2)
