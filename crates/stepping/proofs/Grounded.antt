-- What shape says of the tables, as far as a step needs it.
use Rattle.std.proofs.Common.{◌≡◌, ℕ, zero, suc, ◌-◌, ◌<◌, ◌≤◌, min, false, cond, List, [], ◌∷◌, length, map, take, drop, get_or, Some, None, Option, IsSome, sym, refl, subst, ap, ◌∙◌, ◌==◌, ◌⊎◌, arith, inl, inr}
use Rattle.std.proofs.lemmas.Bool.{cases_lt}
use Rattle.std.proofs.lemmas.Bool.Decides.{nat_tests}
use Rattle.std.proofs.lemmas.List.{drop-drop, get_or_past, length-map}
use Rattle.rows.specs.declared.row.TreeLine.{TreeLine}
use Rattle.layout.specs.declared.held.Table.{Table}
use Rattle.layout.specs.declared.memory.RunningRow.{RunningRow}
use Rattle.layout.specs.declared.memory.Tables.{Tables}
use Rattle.layout.specs.Held.{in_use}
use Rattle.layout.specs.Network.{TreeLines, pieces, network, Holds}
use Rattle.layout.specs.Zeros.{no_tree, no_running, command0, pattern0}
use Rattle.matching.proofs.Pieces.{pieces_long}
use Rattle.meaning.specs.declared.verbs.Verb.{Verb}
use Rattle.meaning.specs.declared.verbs.Verb.TheVariants as verb
use Rattle.meaning.specs.Decoding.{verb_of, pattern_of}
use Rattle.standing.specs.declared.sizes.Sizes.{Sizes}
use Rattle.standing.specs.Sizes.{sizes_of}
use Rattle.standing.specs.Words.{Means, VerbStands, TreeStands, RunningStands}
use Rattle.shape.specs.declared.place.Stage.TheVariants.{Live}
use Rattle.shape.specs.Shape.{Shaped, total}
use Rattle.typing.specs.Flow.{verb_at}
use Rattle.edges.proofs.Nesting.{standing_nested}
use Rattle.changes.specs.Turns.{Shallow}
use Rattle.reduction.specs.Values.{tree_of}
use Rattle.stepping.specs.Ground.{Ground, PatternThere, Named}

-- ---- trees

tree_here : (trees : List (Table TreeLine 128)) (l : ℕ) → l < length trees → in_use (get_or trees l no_tree) ≡ get_or (map in_use trees) l []
tree_here [] l h = absurd (omega arith)
tree_here (t ∷ trees) zero h = refl
tree_here (t ∷ trees) (suc l) h = tree_here trees l (omega arith)

low_lines : (s : Sizes) (tree : TreeLines) → TreeStands s tree → Shallow 12 tree
low_lines s tree stands i h = (stands.each i h).high

piece_at : (ns : List ℕ) (xs : TreeLines) (k : ℕ) → k < length ns → take (get_or ns k 0) (drop (total (take k ns)) xs) ≡ get_or (pieces ns xs) k []
piece_at [] xs k h = absurd (omega arith)
piece_at (n ∷ ns) xs zero h = refl
piece_at (n ∷ ns) xs (suc k) h = ap (take (get_or ns k 0)) (sym (drop-drop (total (take k ns)) n xs)) ∙ piece_at ns (drop n xs) k (omega arith)

shelf_low : (s : Sizes) (ns : List ℕ) (xs : TreeLines) → ((i : ℕ) → i < length ns → TreeStands s (take (get_or ns i 0) (drop (total (take i ns)) xs)))
    → (k : ℕ) → Shallow 12 (get_or (pieces ns xs) k [])
shelf_low s ns xs stands k = at (cases_lt k (length ns))
  where
    at : k < length ns ⊎ length ns ≤ k → Shallow 12 (get_or (pieces ns xs) k [])
    at (inl h) = subst (Shallow 12) (piece_at ns xs k h) (low_lines s (take (get_or ns k 0) (drop (total (take k ns)) xs)) (stands k h))
    at (inr h) = subst (Shallow 12) (sym (get_or_past (pieces ns xs) k [] (omega (arith, pieces_long ns xs)))) (λ i l. absurd (omega arith))

means_some : {X : Type 0} (P : X → Type 0) (o : Option X) → Means o P → IsSome o
means_some P None w = absurd w
means_some P (Some x) w = refl

means_it : {X : Type 0} (P : X → Type 0) (o : Option X) (x : X) → Means o P → o ≡ Some x → P x
means_it P o x w e = subst (λ q. Means q P) e w

-- ---- the tables

module _ (count top : ℕ) (t : Tables) (shape : Shaped count top t Live) (holds : Holds t (network t)) (place : ℕ) (here : place < length (network t).running) where
  abbrev job : RunningRow
  job = get_or (network t).running place no_running

  abbrev size : Sizes
  size = sizes_of count top t

  job_stands : RunningStands size t.patterns.rows job
  job_stands = shape.running.own place here

  every_location : length t.trees ≡ 16
  every_location = sym (length-map t.trees in_use) ∙ holds.fits.trees

  at_location : job.location < length t.trees
  at_location = omega (arith, job_stands.location, every_location)

  tree_stands : TreeStands size (tree_of (network t) job)
  tree_stands = subst (TreeStands size) (tree_here t.trees job.location at_location) (shape.trees job.location at_location).table.own

  pub grounded : Ground (network t) job
  grounded = record {
    location = omega (arith, job_stands.location);
    nested = standing_nested size (tree_of (network t) job) tree_stands;
    few = holds.fits.edges job.location;
    tree = low_lines size (tree_of (network t) job) tree_stands;
    shelf = shelf_low size (in_use t.shelf.trees) t.shelf.lines shape.shelf.own.trees;
    shelved = holds.fits.shelf;
    templates = λ k h. (shape.templates.own.each k h).high;
  }

  commands_long : t.commands.count ≡ length (in_use t.commands)
  commands_long = ap (λ (u : Tables). u.commands.count) holds.whole

  patterns_long : t.patterns.count ≡ length (in_use t.patterns)
  patterns_long = ap (λ (u : Tables). u.patterns.count) holds.whole

  pattern_there : (row : ℕ) → row < min t.patterns.count 64 → PatternThere (network t).plan row
  pattern_there row h = record {
    means = means_some _ (pattern_of (get_or (in_use t.patterns) row pattern0)) (shape.patterns.own row (omega (arith, patterns_long)));
    few = omega arith;
  }

  named_by : count ≤ 64 → (v : Verb) → VerbStands size v → Named (network t).plan v
  named_by few (verb.Fork other) w = tt
  named_by few (verb.Go location roles) w = tt
  named_by few (verb.Run path) w = tt
  named_by few (verb.Read path row) w = pattern_there row w.1
  named_by few (verb.Change path row content) w = pattern_there row w.1.0
  named_by few (verb.Enable path role) w = omega (arith, w.1)
  named_by few (verb.Disable path role) w = tt

  command_here : job.command - 1 < length (in_use t.commands)
  command_here = omega (arith, job_stands.command.0, job_stands.command.1, commands_long)

  own_command : (v : Verb) → verb_at (network t).plan job.command ≡ Some v → verb_of (get_or (in_use t.commands) (job.command - 1) command0) ≡ Some v
  own_command v e =
      let not_0 : (job.command == 0) ≡ false = grind (arith, nat_tests, job_stands.command.0) in
      sym (ap (λ b. verb_of (cond b command0 (get_or (in_use t.commands) (job.command - 1) command0))) not_0) ∙ e

  pub named_there : count ≤ 64 → (v : Verb) → verb_at (network t).plan job.command ≡ Some v → Named (network t).plan v
  named_there few v e =
      named_by few v (means_it (VerbStands size) (verb_of (get_or (in_use t.commands) (job.command - 1) command0)) v (shape.commands.own.each (job.command - 1) command_here) (own_command v e))
