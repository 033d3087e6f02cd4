-- Padded lists, and what holds of each row of a list.
use Rattle.std.proofs.Common.{◌≡◌, ℕ, zero, suc, ◌-◌, ◌<◌, ◌≤◌, List, [], ◌∷◌, ◌++◌, map, length, get_or, take, drop, set, replicate, sym, refl, ap, ◌∙◌, subst, inl, inr, arith}
use Rattle.std.proofs.lemmas.Bool.{cases_eq, cases_lt}
use Rattle.std.proofs.lemmas.List.{drop_at, take_at, drop-drop, append_assoc, length-append, length-set, length-replicate, get_or-replicate, get_or_append_left, get_or-append_right, get_or-set_same, get_or-set_other}
use Rattle.layout.specs.Held.{pad}
use Rattle.layout.specs.Network.{TreeLines, joined}
use Rattle.scan.specs.Scan.{Each}
use Rattle.rooms.specs.Leaving.{without}
use Rattle.shape.specs.Shape.{Zeros, total}

-- ---- padded lists

pub pad-long : {X : Type 0} (limit : ℕ) (z : X) (xs : List X) → length xs ≤ limit → length (pad limit z xs) ≡ limit
pad-long limit z xs h = omega (arith, length-append xs (replicate (limit - length xs) z), length-replicate (limit - length xs) z)

pub pad-rest : {X : Type 0} (limit : ℕ) (z : X) (xs : List X) → drop (length xs) (pad limit z xs) ≡ replicate (limit - length xs) z
pad-rest limit z xs = drop_at xs (replicate (limit - length xs) z) (length xs) refl

-- what holds of the zero row holds of each row past the last
pub pad-each : {X : Type 0} (P : X → Type 0) (limit : ℕ) (z d : X) (xs : List X) → P z → Each P d (drop (length xs) (pad limit z xs))
pad-each P limit z d xs w =
    subst (Each P d) (sym (pad-rest limit z xs))
    (λ i h. subst P (sym (get_or-replicate (limit - length xs) i z d (omega (arith, length-replicate (limit - length xs) z)))) w)

pub pad-zeros : {X : Type 0} (limit : ℕ) (z : X) (xs : List X) → Zeros z (drop (length xs) (pad limit z xs))
pad-zeros limit z xs = pad-each (λ x. x ≡ z) limit z z xs refl

-- a row that is in use, or one past the last
pub pad_at : {X : Type 0} (P : X → Type 0) (limit : ℕ) (z d : X) (xs : List X) (i : ℕ) → Each P d xs → P z → i < limit → P (get_or (pad limit z xs) i d)
pad_at P limit z d xs i w p h = elim (cases_lt i (length xs)) [
  | inl l ↦ subst P (sym (get_or_append_left xs (replicate (limit - length xs) z) d i l)) (w i l)
  | inr g ↦
      subst P (sym (get_or-append_right xs (replicate (limit - length xs) z) (length xs) i d refl g ∙ get_or-replicate (limit - length xs) (i - length xs) z d (omega arith))) p
]

pub pad_same : {X : Type 0} (limit : ℕ) (z : X) (xs : List X) (i : ℕ) → i < length xs → get_or (pad limit z xs) i z ≡ get_or xs i z
pad_same limit z xs i h = get_or_append_left xs (replicate (limit - length xs) z) z i h

-- ---- what holds of each row

pub each_like : {X : Type 0} (P Q : X → Type 0) (d : X) (xs : List X) → ((x : X) → P x → Q x) → Each P d xs → Each Q d xs
each_like P Q d xs f w i h = f (get_or xs i d) (w i h)

pub each_append : {X : Type 0} (P : X → Type 0) (d : X) (xs ys : List X) → Each P d xs → Each P d ys → Each P d (xs ++ ys)
each_append P d [] ys a b i h = b i h
each_append P d (x ∷ xs) ys a b zero h = a 0 (omega arith)
each_append P d (x ∷ xs) ys a b (suc i) h = each_append P d xs ys (λ j l. a (suc j) (omega arith)) b i (omega arith)

pub each_without : {X : Type 0} (P : X → Type 0) (d : X) (place : ℕ) (xs : List X) → Each P d xs → Each P d (without place xs)
each_without P d place [] w i h = w i h
each_without P d zero (x ∷ xs) w i h = w (suc i) (omega arith)
each_without P d (suc place) (x ∷ xs) w zero h = w 0 (omega arith)
each_without P d (suc place) (x ∷ xs) w (suc i) h = each_without P d place xs (λ j l. w (suc j) (omega arith)) i (omega arith)

-- what holds at each place, and of a row at the place where it is put
pub put_at : {X : Type 0} (P : ℕ → X → Type 0) (d : X) (xs : List X) (place : ℕ) (x : X) → ((i : ℕ) → i < length xs → P i (get_or xs i d)) → P place x
    → (i : ℕ) → i < length (set xs place x) → P i (get_or (set xs place x) i d)
put_at P d xs place x w p i h =
    let l : i < length xs = omega (arith, length-set xs place x) in
    elim (cases_eq i place) [
      | inl e ↦ subst (λ (k : ℕ). P k (get_or (set xs place x) k d)) (sym e) (subst (P place) (sym (get_or-set_same xs place x d (omega arith))) p)
      | inr o ↦ subst (P i) (sym (get_or-set_other xs place i x d o)) (w i l)
    ]

-- ---- lengths of trees

pub short_append : (n : ℕ) (xs ys : List TreeLines) → ((k : ℕ) → length (get_or xs k []) ≤ n) → ((k : ℕ) → length (get_or ys k []) ≤ n) → (k : ℕ) → length (get_or (xs ++ ys) k []) ≤ n
short_append n [] ys a b k = b k
short_append n (x ∷ xs) ys a b zero = a 0
short_append n (x ∷ xs) ys a b (suc k) = short_append n xs ys (λ j. a (suc j)) b k

pub total_joined : (shelf : List TreeLines) → total (map length shelf) ≡ length (joined shelf)
total_joined [] = refl
total_joined (tree ∷ shelf) = omega (arith, total_joined shelf, length-append tree (joined shelf))

-- the trees of a shelf lie one after the other
pub piece_at : (shelf : List TreeLines) (rest : TreeLines) (i : ℕ) → i < length shelf
    → take (get_or (map length shelf) i 0) (drop (total (take i (map length shelf))) (joined shelf ++ rest)) ≡ get_or shelf i []
piece_at [] rest i h = absurd (omega arith)
piece_at (x ∷ xs) rest zero h = ap (take (length x)) (append_assoc x (joined xs) rest) ∙ take_at x (joined xs ++ rest) (length x) refl
piece_at (x ∷ xs) rest (suc i) h =
    ap (take (get_or (map length xs) i 0))
    (sym (drop-drop (total (take i (map length xs))) (length x) ((x ++ joined xs) ++ rest))
    ∙ ap (drop (total (take i (map length xs)))) (ap (drop (length x)) (append_assoc x (joined xs) rest) ∙ drop_at x (joined xs ++ rest) (length x) refl))
    ∙ piece_at xs rest i (omega arith)
