-- The running jobs but for one, job by job.
use Rattle.std.proofs.Common.{◌≡◌, ℕ, zero, suc, ◌+◌, ◌<◌, ◌≤◌, Bool, true, cond, ltb, List, [], ◌∷◌, ◌++◌, length, get_or, take, refl, sym, ap, ◌∙◌, ◌≢◌, arith}
use Rattle.std.proofs.lemmas.Bool.{cond-true, lt-ltb}
use Rattle.std.proofs.lemmas.List.{take_more, length-take}
use Rattle.layout.specs.declared.held.Table.{Table}
use Rattle.layout.specs.Held.{held, pushed}
use Rattle.layout.proofs.Pads.{held-push}
use Rattle.rooms.specs.Leaving.{without}

none_there : {X : Type 0} (place : ℕ) (xs : List X) → length xs ≤ place → without place xs ≡ xs
none_there place [] h = refl
none_there zero (x ∷ xs) h = absurd (omega arith)
none_there (suc place) (x ∷ xs) h = ap (λ l. x ∷ l) (none_there place xs (omega arith))

one_left : {X : Type 0} (xs : List X) (x : X) → without (length xs) (xs ++ (x ∷ [])) ≡ xs
one_left [] x = refl
one_left (y ∷ xs) x = ap (λ l. y ∷ l) (one_left xs x)

one_stays : {X : Type 0} (place : ℕ) (xs : List X) (x : X) → length xs ≢ place → without place (xs ++ (x ∷ [])) ≡ without place xs ++ (x ∷ [])
one_stays zero [] x other = absurd (other refl)
one_stays (suc place) [] x other = refl
one_stays zero (y ∷ xs) x other = refl
one_stays (suc place) (y ∷ xs) x other = ap (λ l. y ∷ l) (one_stays place xs x (λ e. other (ap suc e)))

pub no_longer : {X : Type 0} (place : ℕ) (xs : List X) → length (without place xs) ≤ length xs
no_longer place [] = omega arith
no_longer zero (x ∷ xs) = omega arith
no_longer (suc place) (x ∷ xs) = let shorter = no_longer place xs in omega arith

-- the job at the place is passed over
pub passed : {X : Type 0} {n : ℕ} (room : ℕ) (z : X) (xs : List X) (place k : ℕ) (t : Table X n) → k < length xs → k ≡ place
    → t ≡ held room z (without place (take k xs)) → t ≡ held room z (without place (take (k + 1) xs))
passed room z xs place k t here at so_far =
    let long : length (take k xs) ≡ place = omega (arith, length-take k xs) in
    so_far ∙ ap (held room z)
    (none_there place (take k xs) (omega arith)
    ∙ sym (one_left (take k xs) (get_or xs k z)) ∙ ap (λ p. without p (take k xs ++ (get_or xs k z ∷ []))) long
    ∙ ap (without place) (sym (take_more xs k z here)))

-- and any other is put behind those that are there
pub put : {X : Type 0} {n : ℕ} (room : ℕ) (z : X) (xs : List X) (place k : ℕ) (d : X) (t u : Table X n) (ok : Bool) → k < length xs → length xs ≤ room → k ≢ place
    → t ≡ held room z (without place (take k xs)) → ok ≡ ltb t.count room → u ≡ cond ok (pushed t (get_or xs k d)) t
    → u ≡ held room z (without place (take (k + 1) xs))
put {X} {n} room z xs place k d t u ok here short other so_far asks after =
    let long : length (take k xs) ≡ k = omega (arith, length-take k xs) in
    let few : length (without place (take k xs)) < room = omega (arith, no_longer place (take k xs)) in
    let count : t.count ≡ length (without place (take k xs)) = ap (λ (x : Table X n). x.count) so_far in
    let took : ok ≡ true = asks ∙ lt-ltb t.count room (omega arith) in
    after ∙ cond-true ok _ _ took ∙ ap (λ (x : Table X n). pushed x (get_or xs k d)) so_far
    ∙ held-push room z (without place (take k xs)) (get_or xs k d) few
    ∙ ap (held room z) (sym (one_stays place (take k xs) (get_or xs k d) (λ e. other (sym long ∙ e))) ∙ ap (without place) (sym (take_more xs k d here)))
