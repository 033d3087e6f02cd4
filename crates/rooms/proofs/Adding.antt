-- One row more, whether there is room for it or not.
use Rattle.std.proofs.Common.{◌≡◌, ℕ, ◌<◌, ◌≤◌, Bool, true, cond, ltb, List, [], ◌∷◌, ◌++◌, length, take, sym, ap, ◌∙◌, arith}
use Rattle.std.proofs.lemmas.Bool.{cond-true, ltb-true, lt-ltb, le-ltb}
use Rattle.std.proofs.lemmas.List.{take_all, length-append, length-take, take-append-le}
use Rattle.layout.specs.declared.held.Table.{Table}
use Rattle.layout.specs.Held.{held, pushed}
use Rattle.layout.proofs.Pads.{held-push}
use Rattle.rooms.specs.declared.filled.Filled.{Filled}
use Rattle.rooms.specs.Filled.{filled_of}

pub written : {X : Type 0} {n : ℕ} (room : ℕ) (zero : X) (rows : List X) (x : X) → length rows < room
    → record { table = pushed {n = n} (held room zero (take room rows)) x; over = ltb room (length rows) } ≡ filled_of {n = n} room zero (rows ++ (x ∷ []))
written {X} {n} room zero rows x h =
    let here : take room rows ≡ rows = take_all room rows (omega arith) in
    let there : take room (rows ++ (x ∷ [])) ≡ rows ++ (x ∷ []) = take_all room (rows ++ (x ∷ [])) (omega (arith, length-append rows (x ∷ []))) in
    let table : pushed {n = n} (held room zero (take room rows)) x ≡ held room zero (take room (rows ++ (x ∷ []))) =
    ap (λ r. pushed {n = n} (held room zero r) x) here ∙ held-push room zero rows x h ∙ ap (λ r. held room zero r) (sym there) in
    let over : ltb room (length rows) ≡ ltb room (length (rows ++ (x ∷ []))) =
    le-ltb room (length rows) (omega arith) ∙ sym (le-ltb room (length (rows ++ (x ∷ []))) (omega (arith, length-append rows (x ∷ [])))) in
    λ i. record { table = table i; over = over i }

pub unwritten : {X : Type 0} {n : ℕ} (room : ℕ) (zero : X) (rows : List X) (x : X) → room ≤ length rows
    → record { table = held {n = n} room zero (take room rows); over = true } ≡ filled_of {n = n} room zero (rows ++ (x ∷ []))
unwritten {X} {n} room zero rows x h =
    let same : take room rows ≡ take room (rows ++ (x ∷ [])) = sym (take-append-le room rows (x ∷ []) h) in
    let over : true ≡ ltb room (length (rows ++ (x ∷ []))) = sym (lt-ltb room (length (rows ++ (x ∷ []))) (omega (arith, length-append rows (x ∷ [])))) in
    λ i. record { table = held room zero (same i); over = over i }

-- the same of a table that took the row
pub taken : {X : Type 0} {n : ℕ} (room : ℕ) (old : Filled X n) (table : Table X n) (x : X) (ok : Bool) → ok ≡ ltb old.table.count room
    → table ≡ cond ok (pushed old.table x) old.table → ok ≡ true → (zero : X) (rows : List X) → old ≡ filled_of room zero rows
    → record { table = table; over = old.over } ≡ filled_of {n = n} room zero (rows ++ (x ∷ []))
taken {X} {n} room old table x ok asks after took zero rows same =
    let count : old.table.count ≡ length (take room rows) = ap (λ (f : Filled X n). f.table.count) same in
    let free : old.table.count < room = ltb-true old.table.count room (sym asks ∙ took) in
    let few : length rows < room = omega (arith, length-take room rows) in
    let now : table ≡ pushed (held room zero (take room rows)) x =
    after ∙ cond-true ok _ _ took ∙ ap (λ (f : Filled X n). pushed f.table x) same in
    let over : old.over ≡ ltb room (length rows) = ap (λ (f : Filled X n). f.over) same in
    (λ i. record { table = now i; over = over i }) ∙ written room zero rows x few
