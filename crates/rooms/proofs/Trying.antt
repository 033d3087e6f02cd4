-- What is kept of an aftermath tells each room.
use Rattle.std.proofs.Common.{◌≡◌, min, ltb, length, ap, ◌∙◌}
use Rattle.std.proofs.lemmas.List.{length-map}
use Rattle.layout.specs.Network.{joined}
use Rattle.outcomes.specs.Outcomes.{deepest}
use Rattle.rooms.specs.declared.scratch.Scratch.{Scratch}
use Rattle.rooms.specs.Rooms.{Aftermath, scratch_of}

pub record Tells (s : Scratch) (a : Aftermath) : Type 0 where
  pub running : s.running.over ≡ ltb 64 (length a.running)
  pub trees : s.trees.over ≡ ltb 64 (length a.shelf)
  pub lines : s.lines.over ≡ ltb 1024 (length (joined a.shelf))
  pub tree : s.tree.count ≡ min (length a.tree) 129
  pub deep : s.tree.deepest ≡ deepest 0 a.tree

pub tried : (s : Scratch) (a : Aftermath) → s ≡ scratch_of a → Tells s a
tried s a e = record {
  running = ap (λ (x : Scratch). x.running.over) e;
  trees = ap (λ (x : Scratch). x.trees.over) e ∙ ap (ltb 64) (length-map a.shelf length);
  lines = ap (λ (x : Scratch). x.lines.over) e;
  tree = ap (λ (x : Scratch). x.tree.count) e;
  deep = ap (λ (x : Scratch). x.tree.deepest) e;
}
