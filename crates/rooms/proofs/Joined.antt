-- What is kept of an aftermath, with one thing more.
use Rattle.std.proofs.Common.{◌≡◌, ℕ, ◌+◌, ◌<◌, ◌≤◌, min, true, false, cond, ltb, List, [], ◌∷◌, ◌++◌, length, map, take, drop, get_or, sym, ap, ◌∙◌, ◌⊎◌, inl, inr, append_assoc, append-nil, arith}
use Rattle.std.proofs.lemmas.Bool.{cases_lt, lt-ltb, le-ltb}
use Rattle.std.proofs.lemmas.List.{length-take, drop_more, map-append}
use Rattle.rows.specs.declared.row.TreeLine.{TreeLine}
use Rattle.layout.specs.declared.memory.RunningRow.{RunningRow}
use Rattle.layout.specs.Network.{TreeLines, joined}
use Rattle.layout.specs.Zeros.{line0, running0}
use Rattle.rooms.specs.declared.filled.Filled.{Filled}
use Rattle.rooms.specs.declared.scratch.Scratch.{Scratch}
use Rattle.rooms.specs.Filled.{filled_of, added, added_all}
use Rattle.rooms.specs.Joining.{joined_by, shelved}
use Rattle.rooms.specs.Rooms.{Aftermath, scratch_of}
use Rattle.rooms.proofs.Adding.{written, unwritten}
use Rattle.layout.specs.Held.{held, pushed}

-- ---- one row more, and one after the other

pub added_filled : {X : Type 0} {n : ℕ} (room : ℕ) (zero : X) (rows : List X) (x : X) → added {n = n} room (filled_of room zero rows) x ≡ filled_of room zero (rows ++ (x ∷ []))
unfolding added
added_filled {X} {n} room zero rows x = at (cases_lt (length rows) room)
  where
    count : length (take room rows) ≡ min room (length rows)
    count = length-take room rows

    at : length rows < room ⊎ room ≤ length rows → added {n = n} room (filled_of room zero rows) x ≡ filled_of room zero (rows ++ (x ∷ []))
    at (inl h) =
        let free : ltb (length (take room rows)) room ≡ true = lt-ltb (length (take room rows)) room (omega (arith, count)) in
        (λ i. record { table = cond (free i) (pushed {n = n} (held room zero (take room rows)) x) (held room zero (take room rows)); over = cond (free i) (ltb room (length rows)) true })
        ∙ written room zero rows x h
    at (inr h) =
        let full : ltb (length (take room rows)) room ≡ false = le-ltb (length (take room rows)) room (omega (arith, count)) in
        (λ i. record { table = cond (full i) (pushed {n = n} (held room zero (take room rows)) x) (held room zero (take room rows)); over = cond (full i) (ltb room (length rows)) true })
        ∙ unwritten room zero rows x h

-- one turn of the loop over rows
pub one_turn : {X : Type 0} {n : ℕ} (room : ℕ) (rows : List X) (i : ℕ) (d x : X) (now next w : Filled X n) → x ≡ get_or rows i d → i < length rows
    → added_all room now (drop i rows) ≡ w → next ≡ added room now x → added_all room next (drop (i + 1) rows) ≡ w
one_turn {X} {n} room rows i d x now next w is h e a =
    ap (λ (f : Filled X n). added_all room f (drop (i + 1) rows)) (a ∙ ap (added room now) is) ∙ sym (ap (added_all room now) (drop_more rows i d h)) ∙ e

all_filled : {X : Type 0} {n : ℕ} (room : ℕ) (zero : X) (rows xs : List X) → added_all {n = n} room (filled_of room zero rows) xs ≡ filled_of room zero (rows ++ xs)
all_filled {X} {n} room zero rows [] = ap (filled_of {n = n} room zero) (sym (append-nil rows))
all_filled {X} {n} room zero rows (x ∷ xs) =
    ap (λ f. added_all {n = n} room f xs) (added_filled room zero rows x) ∙ all_filled room zero (rows ++ (x ∷ [])) xs
    ∙ ap (filled_of {n = n} room zero) (append_assoc rows (x ∷ []) xs)

joined_one : (shelf : List TreeLines) (tree : TreeLines) → joined (shelf ++ (tree ∷ [])) ≡ joined shelf ++ tree
joined_one [] tree = append-nil tree
joined_one (t ∷ shelf) tree = ap (λ xs. t ++ xs) (joined_one shelf tree) ∙ sym (append_assoc t (joined shelf) tree)

-- ---- scratch

pub with_job : (s : Scratch) (job : RunningRow) (running : Filled RunningRow 64) (a : Aftermath) → s ≡ scratch_of a → running ≡ added 64 s.running job
    → record { running = running; trees = s.trees; lines = s.lines; tree = s.tree } ≡ scratch_of (joined_by a job)
with_job s job running a e after =
    let now : running ≡ filled_of 64 running0 (a.running ++ (job ∷ [])) =
    after ∙ ap (λ (x : Scratch). added 64 x.running job) e ∙ added_filled 64 running0 a.running job in
    λ i. record { running = now i; trees = (e i).trees; lines = (e i).lines; tree = (e i).tree }

pub with_shelved : (s : Scratch) (tree : TreeLines) (trees : Filled ℕ 64) (lines : Filled TreeLine 1024) (a : Aftermath)
    → trees ≡ added 64 s.trees (length tree) → lines ≡ added_all 1024 s.lines tree → s ≡ scratch_of a
    → record { running = s.running; trees = trees; lines = lines; tree = s.tree } ≡ scratch_of (shelved a tree)
with_shelved s tree trees lines a one all e =
    let lengths : trees ≡ filled_of 64 0 (map length (a.shelf ++ (tree ∷ []))) =
    one ∙ ap (λ (x : Scratch). added 64 x.trees (length tree)) e ∙ added_filled 64 0 (map length a.shelf) (length tree)
    ∙ ap (filled_of 64 0) (sym (map-append length a.shelf (tree ∷ []))) in
    let behind : lines ≡ filled_of 1024 line0 (joined (a.shelf ++ (tree ∷ []))) =
    all ∙ ap (λ (x : Scratch). added_all 1024 x.lines tree) e ∙ all_filled 1024 line0 (joined a.shelf) tree
    ∙ ap (filled_of 1024 line0) (sym (joined_one a.shelf tree)) in
    λ i. record { running = (e i).running; trees = lengths i; lines = behind i; tree = (e i).tree }
