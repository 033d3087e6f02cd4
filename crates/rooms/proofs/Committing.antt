-- The tables after what a step leaves is written to them.
use Rattle.std.proofs.Common.{◌≡◌, ℕ, zero, suc, ◌≤◌, min, List, [], ◌∷◌, length, map, get_or, set, None, sym, ap, ◌∙◌, arith}
use Rattle.std.proofs.lemmas.Bool.Decides.{nat_tests}
use Rattle.std.proofs.lemmas.List.{length-map, length-set, map-set, take_all}
use Rattle.layout.specs.declared.held.Table.{Table}
use Rattle.layout.specs.declared.memory.Tables.{Tables}
use Rattle.layout.specs.Held.{pad, held}
use Rattle.layout.specs.Network.{Network, TreeLines, joined, tree_of, stored, Fits, Holds}
use Rattle.rows.specs.declared.row.TreeLine.{TreeLine}
use Rattle.layout.specs.Zeros.{line0, running0}
use Rattle.outcomes.specs.declared.outcome.Outcome.{Outcome}
use Rattle.outcomes.specs.Outcomes.{deepest, outcome_of}
use Rattle.outcomes.proofs.Adding.{few}
use Rattle.rooms.specs.declared.filled.Filled.{Filled}
use Rattle.rooms.specs.declared.scratch.Scratch.{Scratch}
use Rattle.rooms.specs.Filled.{filled_of}
use Rattle.rooms.specs.Rooms.{Aftermath, lacking, left_in, scratch_of, written}

pub record Roomy (a : Aftermath) : Type 0 where
  pub running : length a.running ≤ 64
  pub trees : length a.shelf ≤ 64
  pub lines : length (joined a.shelf) ≤ 1024
  pub tree : length a.tree ≤ 128
  pub deep : deepest 0 a.tree ≤ 12

pub roomy : (a : Aftermath) → lacking a ≡ None → Roomy a
roomy a none = record {
  running = grind (arith, nat_tests);
  trees = grind (arith, nat_tests);
  lines = grind (arith, nat_tests);
  tree = grind (arith, nat_tests);
  deep = grind (arith, nat_tests);
}

-- where all rows have room, the table holds them
whole : {X : Type 0} {n : ℕ} (room : ℕ) (z : X) (rows : List X) (f : Filled X n) → f ≡ filled_of room z rows → length rows ≤ room → f.table ≡ held room z rows
whole {X} {n} room z rows f e short = ap (λ (g : Filled X n). g.table) e ∙ ap (λ r. held {n = n} room z r) (take_all room rows short)

own_tree : (o : Outcome) (xs : TreeLines) → o ≡ outcome_of xs → length xs ≤ 128 → record { count = o.count; rows = o.lines } ≡ tree_of xs
own_tree o xs e short =
    let count : o.count ≡ min (length xs) 129 = ap (λ (p : Outcome). p.count) e in
    let same : o.count ≡ length xs = omega arith in
    let rows : o.lines ≡ pad 128 line0 xs = ap (λ (p : Outcome). p.lines) e ∙ few 128 xs short in
    λ i. record { count = same i; rows = rows i }

-- trees of at most 128 lines, and one more such tree in the place of another
few_edges : (trees : List TreeLines) (location : ℕ) (tree : TreeLines) → ((l : ℕ) → length (get_or trees l []) ≤ 128) → length tree ≤ 128
    → (l : ℕ) → length (get_or (set trees location tree) l []) ≤ 128
few_edges [] location tree each short l = each l
few_edges (t ∷ trees) zero tree each short zero = short
few_edges (t ∷ trees) zero tree each short (suc l) = each (suc l)
few_edges (t ∷ trees) (suc location) tree each short zero = each zero
few_edges (t ∷ trees) (suc location) tree each short (suc l) = few_edges trees location tree (λ k. each (suc k)) short l

pub committed : (t u : Tables) (location : ℕ) (s : Scratch) (n : Network) (a : Aftermath) → u ≡ written t location s → Holds t n → s ≡ scratch_of a → lacking a ≡ None
    → Holds u (left_in n location a)
unfolding written
committed t u location s n a w h e none = record { whole = w ∙ all; fits = fits }
  where
    room : Roomy a
    room = roomy a none

    running : s.running.table ≡ held 64 running0 a.running
    running = whole 64 running0 a.running s.running (ap (λ (x : Scratch). x.running) e) room.running

    shelved : s.trees.table ≡ held 64 0 (map length a.shelf)
    shelved = whole 64 0 (map length a.shelf) s.trees (ap (λ (x : Scratch). x.trees) e) (omega (arith, room.trees, length-map a.shelf length))

    lines : s.lines.table.rows ≡ pad 1024 line0 (joined a.shelf)
    lines = ap (λ (x : Table TreeLine 1024). x.rows) (whole 1024 line0 (joined a.shelf) s.lines (ap (λ (x : Scratch). x.lines) e) room.lines)

    tree : record { count = s.tree.count; rows = s.tree.lines } ≡ tree_of a.tree
    tree = own_tree s.tree a.tree (ap (λ (x : Scratch). x.tree) e) room.tree

    trees : set t.trees location (record { count = s.tree.count; rows = s.tree.lines }) ≡ map tree_of (set n.trees location a.tree)
    trees = ap (λ ts. set ts location (record { count = s.tree.count; rows = s.tree.lines })) (ap (λ (x : Tables). x.trees) h.whole)
        ∙ ap (λ x. set (map tree_of n.trees) location x) tree ∙ sym (map-set tree_of n.trees location a.tree)

    all : record {
      policies = t.policies;
      grants = t.grants;
      locations = t.locations;
      steps = t.steps;
      trees = set t.trees location (record { count = s.tree.count; rows = s.tree.lines });
      templates = t.templates;
      patterns = t.patterns;
      commands = t.commands;
      jobs = t.jobs;
      running = s.running.table;
      shelf = record { trees = s.trees.table; lines = s.lines.table.rows };
    } ≡ stored (left_in n location a)
    all = λ i. record {
      policies = (h.whole i).policies;
      grants = (h.whole i).grants;
      locations = (h.whole i).locations;
      steps = (h.whole i).steps;
      trees = trees i;
      templates = (h.whole i).templates;
      patterns = (h.whole i).patterns;
      commands = (h.whole i).commands;
      jobs = (h.whole i).jobs;
      running = running i;
      shelf = record { trees = shelved i; lines = lines i };
    }

    fits : Fits (left_in n location a)
    fits = record {
      policies = h.fits.policies;
      grants = h.fits.grants;
      locations = h.fits.locations;
      steps = h.fits.steps;
      trees = length-set n.trees location a.tree ∙ h.fits.trees;
      edges = few_edges n.trees location a.tree h.fits.edges room.tree;
      templates = h.fits.templates;
      patterns = h.fits.patterns;
      commands = h.fits.commands;
      jobs = h.fits.jobs;
      running = room.running;
      shelf = room.trees;
      shelved = room.lines;
    }
