-- Tables with shape hold a network: its rows, zeros behind them, and nothing else.
use Rattle.std.proofs.Common.{◌≡◌, ℕ, zero, suc, ◌+◌, ◌<◌, ◌≤◌, List, [], ◌∷◌, ◌++◌, map, length, get_or, take, drop, replicate, sym, refl, ap, ◌∙◌, arith}
use Rattle.std.proofs.lemmas.List.{length-take-le, length-take, length-drop, length-map, get_or-drop}
use Rattle.rows.specs.declared.row.TreeLine.{TreeLine}
use Rattle.layout.specs.declared.held.Table.{Table}
use Rattle.layout.specs.declared.memory.RunningRow.{RunningRow}
use Rattle.layout.specs.declared.memory.Tables.{Tables}
use Rattle.layout.specs.Held.{pad, held, in_use}
use Rattle.layout.specs.Network.{TreeLines, pieces, joined, tree_of, network, stored, Fits, Holds, Sized}
use Rattle.layout.specs.Zeros.{policy0, grant0, location0, step0, line0, template0, pattern0, command0, job0, slot0, running0, no_running, no_tree}
use Rattle.layout.proofs.Pads.{all_same, padded, counted, is_held}
use Rattle.standing.specs.declared.sizes.Sizes.{Sizes}
use Rattle.standing.specs.Words.{RunningClear}
use Rattle.shape.specs.declared.place.Stage.{Stage}
use Rattle.shape.specs.Shape.{Zeros, TableStands, total, ShapedBy}

-- ---- running rows
clear-is : (r : RunningRow) → RunningClear r → length r.slots ≡ 6 → r ≡ running0
clear-is r c l = λ i. record { location = c.location i; roles = c.roles i; command = c.command i; slots = (all_same slot0 slot0 r.slots c.slots ∙ ap (λ (n : ℕ). replicate n slot0) l) i }

-- ---- trees
trees_are : (ts : List (Table TreeLine 128)) → ((k : ℕ) → k < length ts → get_or ts k no_tree ≡ tree_of (in_use (get_or ts k no_tree))) → ts ≡ map tree_of (map in_use ts)
trees_are [] h = refl
trees_are (t ∷ ts) h =
    ap (λ (y : Table TreeLine 128). y ∷ ts) (h 0 (omega arith)) ∙ ap (λ (ys : List (Table TreeLine 128)). tree_of (in_use t) ∷ ys) (trees_are ts (λ k l. h (suc k) (omega arith)))

few_lines : (ts : List (Table TreeLine 128)) → ((k : ℕ) → k < length ts → (get_or ts k no_tree).count ≤ 128) → (k : ℕ) → length (get_or (map in_use ts) k []) ≤ 128
few_lines [] h k = omega arith
few_lines (t ∷ ts) h zero = omega (arith, length-take t.count t.rows, h 0 (omega arith))
few_lines (t ∷ ts) h (suc k) = few_lines ts (λ j l. h (suc j) (omega arith)) k

-- ---- the shelf
lens_are : (ns : List ℕ) (xs : TreeLines) → total ns ≤ length xs → map length (pieces ns xs) ≡ ns
lens_are [] xs h = refl
lens_are (n ∷ ns) xs h =
    ap (λ (m : ℕ). m ∷ map length (pieces ns (drop n xs))) (length-take-le n xs (omega arith)) ∙ ap (λ (ms : List ℕ). n ∷ ms) (lens_are ns (drop n xs) (omega (arith, length-drop n xs)))

take_plus : {X : Type 0} (n m : ℕ) (xs : List X) → n ≤ length xs → take (n + m) xs ≡ take n xs ++ take m (drop n xs)
take_plus zero m xs h = ap (λ (k : ℕ). take k xs) (omega arith)
take_plus (suc n) m [] h = absurd (omega arith)
take_plus (suc n) m (x ∷ xs) h = ap (λ (k : ℕ). take k (x ∷ xs)) (plus n m) ∙ ap (λ (ys : List _). x ∷ ys) (take_plus n m xs (omega arith))
  where
    plus : (n m : ℕ) → suc n + m ≡ suc (n + m)
    plus n m = omega arith

joined_is : (ns : List ℕ) (xs : TreeLines) → total ns ≤ length xs → joined (pieces ns xs) ≡ take (total ns) xs
joined_is [] xs h = refl
joined_is (n ∷ ns) xs h = ap (λ (ys : TreeLines). take n xs ++ ys) (joined_is ns (drop n xs) (omega (arith, length-drop n xs))) ∙ sym (take_plus n (total ns) xs (omega arith))

length_pieces : (ns : List ℕ) (xs : TreeLines) → length (pieces ns xs) ≡ length ns
length_pieces [] xs = refl
length_pieces (n ∷ ns) xs = ap suc (length_pieces ns (drop n xs))

-- a table whose rest is zeros is held
stands_held : {X : Type 0} {n : ℕ} (limit : ℕ) (z : X) (t : Table X n) (Rows : List X → Type 0) → length t.rows ≡ limit → TableStands limit t Rows (Zeros z) → t ≡ held limit z (in_use t)
stands_held limit z t Rows l w = is_held limit z z t l w.few w.rest

few_rows : {X : Type 0} {n : ℕ} (limit : ℕ) (t : Table X n) → length t.rows ≡ limit → t.count ≤ limit → length (in_use t) ≤ limit
few_rows limit t l h = omega (arith, counted limit t.count t.rows l h)

module _ (s : Sizes) (t : Tables) (stage : Stage) (z : Sized t) (w : ShapedBy s t stage) where
  abbrev ns : List ℕ
  ns = in_use t.shelf.trees

  room : total ns ≤ length t.shelf.lines
  room = omega (arith, w.shelf.own.room, z.shelved)

  running_rest : (i : ℕ) → i < length (drop t.running.count t.running.rows) → get_or (drop t.running.count t.running.rows) i no_running ≡ running0
  running_rest i h =
      let d = length-drop t.running.count t.running.rows in
      clear-is (get_or (drop t.running.count t.running.rows) i no_running) (w.running.rest i h)
      (ap (λ (r : RunningRow). length r.slots) (get_or-drop t.running.count t.running.rows i no_running) ∙ z.slots (t.running.count + i) (omega (arith, z.running)))

  shelf_long : t.shelf.trees.count ≡ length (map length (pieces ns t.shelf.lines))
  shelf_long = counted 64 t.shelf.trees.count t.shelf.trees.rows z.shelf w.shelf.few ∙ sym (ap length (lens_are ns t.shelf.lines room))

  shelf_is : t.shelf.trees.rows ≡ pad 64 0 (map length (pieces ns t.shelf.lines))
  shelf_is = padded 64 t.shelf.trees.count 0 0 t.shelf.trees.rows z.shelf w.shelf.few w.shelf.rest ∙ ap (pad 64 0) (sym (lens_are ns t.shelf.lines room))

  shelved_is : t.shelf.lines ≡ pad 1024 line0 (joined (pieces ns t.shelf.lines))
  shelved_is = padded 1024 (total ns) line0 line0 t.shelf.lines z.shelved w.shelf.own.room w.shelved ∙ ap (pad 1024 line0) (sym (joined_is ns t.shelf.lines room))

  trees_is : t.trees ≡ map tree_of (map in_use t.trees)
  trees_is = trees_are t.trees (λ k h. stands_held 128 line0 (get_or t.trees k no_tree) _ (z.edges k (omega (arith, z.trees))) (w.trees k h).table)

  whole : t ≡ stored (network t)
  whole = λ i. record {
    policies = stands_held 16 policy0 t.policies _ z.policies w.policies i;
    grants = stands_held 64 grant0 t.grants _ z.grants w.grants i;
    locations = stands_held 16 location0 t.locations _ z.locations w.locations i;
    steps = stands_held 256 step0 t.steps _ z.steps w.steps i;
    trees = trees_is i;
    templates = stands_held 256 template0 t.templates _ z.templates w.templates i;
    patterns = stands_held 64 pattern0 t.patterns _ z.patterns w.patterns i;
    commands = stands_held 255 command0 t.commands _ z.commands w.commands i;
    jobs = stands_held 64 job0 t.jobs _ z.jobs w.jobs i;
    running = is_held 64 running0 no_running t.running z.running w.running.few running_rest i;
    shelf = record { trees = record { count = shelf_long i; rows = shelf_is i }; lines = shelved_is i };
  }

  fits : Fits (network t)
  fits = record {
    policies = few_rows 16 t.policies z.policies w.policies.few;
    grants = few_rows 64 t.grants z.grants w.grants.few;
    locations = few_rows 16 t.locations z.locations w.locations.few;
    steps = few_rows 256 t.steps z.steps w.steps.few;
    trees = length-map t.trees in_use ∙ z.trees;
    edges = few_lines t.trees (λ k h. (w.trees k h).table.few);
    templates = few_rows 256 t.templates z.templates w.templates.few;
    patterns = few_rows 64 t.patterns z.patterns w.patterns.few;
    commands = few_rows 255 t.commands z.commands w.commands.few;
    jobs = few_rows 64 t.jobs z.jobs w.jobs.few;
    running = few_rows 64 t.running z.running w.running.few;
    shelf = omega (arith, length_pieces ns t.shelf.lines, few_rows 64 t.shelf.trees z.shelf w.shelf.few);
    shelved = omega (arith, w.shelf.own.room, ap length (joined_is ns t.shelf.lines room), length-take-le (total ns) t.shelf.lines room);
  }

  pub shaped_holds : Holds t (network t)
  shaped_holds = record { whole = whole; fits = fits }
