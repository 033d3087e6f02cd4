-- Padded lists.
use Rattle.std.proofs.Common.{◌≡◌, ℕ, suc, ◌-◌, ◌<◌, ◌≤◌, List, [], ◌∷◌, ◌++◌, length, get_or, take, drop, set, replicate, sym, refl, ap, ◌∙◌, arith, rules}
use Rattle.std.proofs.lemmas.List.{same_lists, places, take_at, take-append-drop, length-take-le, length-drop, length-append, get_or-set_same}
use Rattle.std.proofs.lemmas.Bool.{cases_eq}
use Rattle.layout.specs.declared.held.Table.{Table}
use Rattle.layout.specs.Held.{pad, held, pushed}

-- the rows in use come back
pub take_pad : {X : Type 0} (limit : ℕ) (z : X) (xs : List X) → take (length xs) (pad limit z xs) ≡ xs
take_pad limit z xs = take_at xs (replicate (limit - length xs) z) (length xs) refl

-- a row written behind the last is one row more
pub pad-push : {X : Type 0} (limit : ℕ) (z : X) (xs : List X) (x : X) → length xs < limit → set (pad limit z xs) (length xs) x ≡ pad limit z (xs ++ x ∷ [])
pad-push limit z xs x h = same_lists _ _ (search (rules, places)) (λ k d l. grind (arith, places, get_or-set_same, cases_eq k (length xs)))

pub held-push : {X : Type 0} {n : ℕ} (limit : ℕ) (z : X) (xs : List X) (x : X) → length xs < limit → pushed {n = n} (held limit z xs) x ≡ held limit z (xs ++ x ∷ [])
held-push limit z xs x h = λ i. record { count = sym (length-append xs (x ∷ [])) i; rows = pad-push limit z xs x h i }

-- rows that are all z
pub all_same : {X : Type 0} (z d : X) (xs : List X) → ((i : ℕ) → i < length xs → get_or xs i d ≡ z) → xs ≡ replicate (length xs) z
all_same z d [] h = refl
all_same z d (x ∷ xs) h = ap (λ (y : _). y ∷ xs) (h 0 (omega arith)) ∙ ap (λ (ys : List _). z ∷ ys) (all_same z d xs (λ i l. h (suc i) (omega arith)))

-- an array is its rows in use, padded, where the rest is zeros
pub padded : {X : Type 0} (limit count : ℕ) (z d : X) (rows : List X) → length rows ≡ limit → count ≤ limit
    → ((i : ℕ) → i < length (drop count rows) → get_or (drop count rows) i d ≡ z) → rows ≡ pad limit z (take count rows)
padded limit count z d rows l h f =
    let a : length (take count rows) ≡ count = length-take-le count rows (omega arith) in
    let b : length (drop count rows) ≡ limit - length (take count rows) = omega (arith, length-drop count rows) in
    sym (take-append-drop count rows) ∙ ap (λ (ys : List _). take count rows ++ ys) (all_same z d (drop count rows) f ∙ ap (λ (n : ℕ). replicate n z) b)

pub counted : {X : Type 0} (limit count : ℕ) (rows : List X) → length rows ≡ limit → count ≤ limit → count ≡ length (take count rows)
counted limit count rows l h = sym (length-take-le count rows (omega arith))

pub is_held : {X : Type 0} {n : ℕ} (limit : ℕ) (z d : X) (t : Table X n) → length t.rows ≡ limit → t.count ≤ limit
    → ((i : ℕ) → i < length (drop t.count t.rows) → get_or (drop t.count t.rows) i d ≡ z) → t ≡ held limit z (take t.count t.rows)
is_held limit z d t l h f = λ i. record { count = counted limit t.count t.rows l h i; rows = padded limit t.count z d t.rows l h f i }
