-- The first row that is told, where something is carried along from row to row.
use Rattle.std.specs.Prelude.{ℕ, ◌+◌, ◌<◌, Bool, true, false, cond, List, [], ◌∷◌, length, Some, None, Option, slice_index_or}

abbrev pub or_else : {X : Type 0} → Option X → Option X → Option X
or_else (Some x) y = Some x
or_else None y = y

-- rows are numbered from i on, and s is what the rows before leave
abbrev pub first_of : {S X : Type 0} → (S → ℕ → X → Option ℕ) → (S → X → S) → S → ℕ → List X → Option ℕ
first_of f next s i [] = None
first_of f next s i (x ∷ xs) = or_else (f s i x) (first_of f next (next s x) (i + 1) xs)

abbrev pub told : Bool → ℕ → Option ℕ
told passes i = cond passes None (Some i)

-- the first row that does not pass the test
abbrev pub scan : {S X : Type 0} → (S → ℕ → X → Bool) → (S → X → S) → S → ℕ → List X → Option ℕ
scan passes next s i xs = first_of (λ s i x. told (passes s i x) i) next s i xs

-- the same for a test that asks nothing of the rows before
abbrev pub first_bad : {X : Type 0} → (ℕ → X → Bool) → ℕ → List X → Option ℕ
first_bad passes i xs = scan (λ (s : Unit {0}) i x. passes i x) (λ s x. s) tt i xs

-- what is carried along after these rows
abbrev pub carried : {S X : Type 0} → (S → X → S) → S → List X → S
carried next s [] = s
carried next s (x ∷ xs) = carried next (next s x) xs

-- nothing is told
abbrev pub clear : {X : Type 0} → Option X → Bool
clear (Some x) = false
clear None = true

-- what holds of each row
abbrev pub Each : {X : Type 0} → (X → Type 0) → X → List X → Type 0
Each P zero rows = (i : ℕ) → i < length rows → P (slice_index_or rows i zero)
