-- What is kept of tables that hold a network.
use Rattle.std.proofs.Common.{◌≡◌, ℕ, ◌+◌, ◌-◌, ◌^◌, ◌<◌, ◌≤◌, min, false, ltb, List, [], ◌∷◌, ◌++◌, length, map, get_or, take, replicate, refl, sym, ap, ◌∙◌, arith}
use Rattle.std.proofs.lemmas.Bool.{le-ltb}
use Rattle.std.proofs.lemmas.List.{take_all, take_more, length-append, length-map, get_or-map}
use Rattle.rows.specs.declared.row.TreeLine.{TreeLine}
use Rattle.layout.specs.declared.held.Table.{Table}
use Rattle.layout.specs.declared.memory.RunningRow.{RunningRow}
use Rattle.layout.specs.declared.memory.Tables.{Tables}
use Rattle.layout.specs.Held.{pad, held, in_use}
use Rattle.layout.specs.Network.{Network, TreeLines, joined, tree_of, Holds}
use Rattle.layout.specs.Zeros.{line0, running0, no_tree}
use Rattle.layout.proofs.Pads.{take_pad}
use Rattle.outcomes.specs.declared.outcome.Outcome.{Outcome}
use Rattle.outcomes.specs.Outcomes.{deepest, outcome_of}
use Rattle.outcomes.proofs.Adding.{few}
use Rattle.rooms.specs.declared.filled.Filled.{Filled}
use Rattle.rooms.specs.declared.scratch.Scratch.{Scratch}
use Rattle.rooms.specs.Filled.{filled_of}
use Rattle.rooms.specs.Leaving.{without, total, begun}
use Rattle.rooms.specs.Rooms.{scratch_of}
use Rattle.rooms.proofs.Closing.{no_longer}

-- ---- lengths

pub total_push : (ns : List ℕ) (n : ℕ) → total (ns ++ (n ∷ [])) ≡ total ns + n
total_push [] n = omega arith
total_push (m ∷ ns) n = omega (arith, total_push ns n)

pub total_more : (ns : List ℕ) (i : ℕ) → i < length ns → total (take (i + 1) ns) ≡ total (take i ns) + get_or ns i 0
total_more ns i here = ap total (take_more ns i 0 here) ∙ total_push (take i ns) (get_or ns i 0)

total_joined : (shelf : List TreeLines) → total (map length shelf) ≡ length (joined shelf)
total_joined [] = refl
total_joined (tree ∷ shelf) = omega (arith, total_joined shelf, length-append tree (joined shelf))

-- ---- tables

all_in : {X : Type 0} {n : ℕ} (room : ℕ) (z : X) (rows : List X) → length rows ≤ room → record { table = held {n = n} room z rows; over = false } ≡ filled_of room z rows
all_in {X} {n} room z rows short =
    let table : held {n = n} room z rows ≡ held room z (take room rows) = ap (held room z) (sym (take_all room rows short)) in
    let over : false ≡ ltb room (length rows) = sym (le-ltb room (length rows) short) in
    λ i. record { table = table i; over = over i }

own : {X : Type 0} {n : ℕ} (room : ℕ) (z : X) (rows : List X) (f : Filled X n) (t : Table X n) → f ≡ record { table = t; over = false } → t ≡ held room z rows → length rows ≤ room → f ≡ filled_of room z rows
own {X} {n} room z rows f t e same short = e ∙ ap (λ (u : Table X n). record { table = u; over = false }) same ∙ all_in room z rows short

own_outcome : (xs : TreeLines) → length xs ≤ 128 → record { count = length xs; deepest = deepest 0 xs; lines = pad 128 line0 xs } ≡ outcome_of xs
own_outcome xs short =
    let count : length xs ≡ min (length xs) 129 = omega arith in
    let lines : pad 128 line0 xs ≡ take 128 (xs ++ replicate 128 line0) = sym (few 128 xs short) in
    λ i. record { count = count i; deepest = deepest 0 xs; lines = lines i }

outcome_at : (o : Outcome) (t : Table TreeLine 128) (xs : TreeLines) → o ≡ record { count = t.count; deepest = deepest 0 (in_use t); lines = t.rows } → t ≡ tree_of xs → length xs ≤ 128 → o ≡ outcome_of xs
outcome_at o t xs e same short =
    e ∙ ap (λ (u : Table TreeLine 128). record { count = u.count; deepest = deepest 0 (in_use u); lines = u.rows }) same
    ∙ ap (λ ys. record { count = length xs; deepest = deepest 0 ys; lines = pad 128 line0 xs }) (take_pad 128 line0 xs)
    ∙ own_outcome xs short

-- ---- all of it

pub as_begun : (t : Tables) (place location : ℕ) (s : Scratch) (n : Network) → location < 16 → Holds t n
    → (left : Table RunningRow 64) → left ≡ held 64 running0 (without place (in_use t.running)) → s.running ≡ record { table = left; over = false }
    → s.trees ≡ record { table = t.shelf.trees; over = false }
    → (lines : ℕ) → lines ≡ min (total (in_use t.shelf.trees)) (2 ^ 64 - 1) → s.lines ≡ record { table = record { count = lines; rows = t.shelf.lines }; over = false }
    → s.tree ≡ record { count = (get_or t.trees location no_tree).count; deepest = deepest 0 (in_use (get_or t.trees location no_tree)); lines = (get_or t.trees location no_tree).rows }
    → s ≡ scratch_of (begun n place location)
as_begun t place location s n here h left is_left is_running is_trees lines is_sum is_lines is_tree = λ i. record { running = running i; trees = trees i; lines = all_lines i; tree = tree i }
  where
    jobs : in_use t.running ≡ n.running
    jobs = ap (λ (x : Tables). in_use x.running) h.whole ∙ take_pad 64 running0 n.running

    running : s.running ≡ filled_of 64 running0 (without place n.running)
    running = own 64 running0 (without place n.running) s.running left is_running (is_left ∙ ap (λ js. held 64 running0 (without place js)) jobs) (omega (arith, no_longer place n.running, h.fits.running))

    trees : s.trees ≡ filled_of 64 0 (map length n.shelf)
    trees = own 64 0 (map length n.shelf) s.trees t.shelf.trees is_trees (ap (λ (x : Tables). x.shelf.trees) h.whole) (omega (arith, length-map n.shelf length, h.fits.shelf))

    lengths : in_use t.shelf.trees ≡ map length n.shelf
    lengths = ap (λ (x : Tables). in_use x.shelf.trees) h.whole ∙ take_pad 64 0 (map length n.shelf)

    sum : lines ≡ length (joined n.shelf)
    sum =
        let same : total (in_use t.shelf.trees) ≡ length (joined n.shelf) = ap total lengths ∙ total_joined n.shelf in
        omega (arith, h.fits.shelved)

    shelved : record { count = lines; rows = t.shelf.lines } ≡ held {n = 1024} 1024 line0 (joined n.shelf)
    shelved =
        let rows : t.shelf.lines ≡ pad 1024 line0 (joined n.shelf) = ap (λ (x : Tables). x.shelf.lines) h.whole in
        λ i. record { count = sum i; rows = rows i }

    all_lines : s.lines ≡ filled_of 1024 line0 (joined n.shelf)
    all_lines = own 1024 line0 (joined n.shelf) s.lines (record { count = lines; rows = t.shelf.lines }) is_lines shelved h.fits.shelved

    at : get_or t.trees location no_tree ≡ tree_of (get_or n.trees location [])
    at = ap (λ (x : Tables). get_or x.trees location no_tree) h.whole ∙ get_or-map tree_of n.trees location [] no_tree (omega (arith, h.fits.trees))

    tree : s.tree ≡ outcome_of (get_or n.trees location [])
    tree = outcome_at s.tree (get_or t.trees location no_tree) (get_or n.trees location []) is_tree at (h.fits.edges location)
