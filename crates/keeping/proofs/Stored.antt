-- Tables that hold a sound network are sound.
use Rattle.std.proofs.Common.{◌≡◌, ℕ, ◌-◌, ◌<◌, ◌≤◌, Bool, List, [], map, length, get_or, take, drop, replicate, sym, refl, ap, ◌∙◌, subst, arith}
use Rattle.std.proofs.lemmas.List.{length-map, get_or-map, get_or-replicate}
use Rattle.rows.specs.declared.row.TreeLine.{TreeLine}
use Rattle.rows.specs.declared.row.PatternRow.{PatternRow}
use Rattle.layout.specs.declared.held.Table.{Table}
use Rattle.layout.specs.declared.memory.Slot.{Slot}
use Rattle.layout.specs.declared.memory.RunningRow.{RunningRow}
use Rattle.layout.specs.declared.memory.Tables.{Tables}
use Rattle.layout.specs.Held.{pad, held}
use Rattle.layout.specs.Network.{Network, TreeLines, joined, tree_of, stored, Fits, Holds, Sized}
use Rattle.layout.specs.Zeros.{policy0, grant0, location0, step0, line0, template0, pattern0, command0, job0, slot0, running0, no_running, no_tree}
use Rattle.layout.proofs.Back.{network-stored}
use Rattle.layout.proofs.Pads.{take_pad}
use Rattle.meaning.specs.Decoding.{pattern_of}
use Rattle.scan.specs.Scan.{Each}
use Rattle.standing.specs.declared.sizes.Sizes.{Sizes}
use Rattle.standing.specs.Sizes.{sizes_of}
use Rattle.standing.specs.Words.{Means, PartStands, TreeStands, SlotStands, RunningStands, RunningClear}
use Rattle.standing.specs.Words.SlotStands.{none, filled}
use Rattle.shape.specs.declared.place.Stage.TheVariants.{Live}
use Rattle.shape.specs.Shape.{Zeros, TableStands, TreeAt, total, ShelfStands, Shaped}
use Rattle.breaches.specs.Words.{Obeys, RunningObeys}
use Rattle.rules.specs.Admission.{Sound}
use Rattle.reduction.specs.Soundness.{NetworkSound}
use Rattle.keeping.proofs.Listed.{pad-long, pad-each, pad-zeros, pad_at, pad_same, total_joined, piece_at}

-- ---- how long the arrays are

module _ (n : Network) (f : Fits n) (six : Each (λ r. length r.slots ≡ 6) no_running n.running) where
  edges_long : (k : ℕ) → k < 16 → length (get_or (map tree_of n.trees) k no_tree).rows ≡ 128
  edges_long k h =
      subst (λ (t : Table TreeLine 128). length t.rows ≡ 128) (sym (get_or-map tree_of n.trees k [] no_tree (omega (arith, f.trees))))
      (pad-long 128 line0 (get_or n.trees k []) (f.edges k))

  sized : Sized (stored n)
  sized = record {
    policies = pad-long 16 policy0 n.plan.policies f.policies;
    grants = pad-long 64 grant0 n.plan.grants f.grants;
    locations = pad-long 16 location0 n.plan.locations f.locations;
    steps = pad-long 256 step0 n.plan.steps f.steps;
    trees = length-map n.trees tree_of ∙ f.trees;
    edges = edges_long;
    templates = pad-long 256 template0 n.plan.templates f.templates;
    patterns = pad-long 64 pattern0 n.plan.patterns f.patterns;
    commands = pad-long 255 command0 n.plan.commands f.commands;
    jobs = pad-long 64 job0 n.plan.jobs f.jobs;
    running = pad-long 64 running0 n.running f.running;
    slots = λ k h. pad_at (λ r. length r.slots ≡ 6) 64 running0 no_running n.running k six refl h;
    shelf = pad-long 64 0 (map length n.shelf) (omega (arith, length-map n.shelf length, f.shelf));
    shelved = pad-long 1024 line0 (joined n.shelf) f.shelved;
  }

-- ---- shape

-- a table that holds rows that stand
held_stands : {X : Type 0} {m : ℕ} (limit : ℕ) (z : X) (xs : List X) (Rows : List X → Type 0) → length xs ≤ limit → Rows xs
    → TableStands {X = X} {n = m} limit (held limit z xs) Rows (Zeros z)
held_stands limit z xs Rows h w = record { few = h; own = subst Rows (sym (take_pad limit z xs)) w; rest = pad-zeros limit z xs }

-- slots stand by other pattern rows, where those that exist are the same
slot_by : (s : Sizes) (ps qs : List PatternRow) (slot : ℕ) (x : Slot) → ((i : ℕ) → i < s.patterns → get_or ps i pattern0 ≡ get_or qs i pattern0)
    → SlotStands s ps slot x → SlotStands s qs slot x
slot_by s ps qs slot x same (none e v) = none e v
slot_by s ps qs slot x same (filled a b w) = filled a b (subst (λ (y : PatternRow). Means (pattern_of y) (λ p. PartStands s p slot x.value)) (same (x.pattern - 1) (omega arith)) w)

pub running_by : (s : Sizes) (ps qs : List PatternRow) (r : RunningRow) → ((i : ℕ) → i < s.patterns → get_or ps i pattern0 ≡ get_or qs i pattern0)
    → RunningStands s ps r → RunningStands s qs r
running_by s ps qs r same w = record {
  location = w.location;
  roles = w.roles;
  command = w.command;
  slots = λ k h. slot_by s ps qs k (get_or r.slots k slot0) same (w.slots k h);
}

running0_clear : RunningClear running0
running0_clear = record { location = refl; roles = refl; command = refl; slots = λ i h. get_or-replicate 6 i slot0 slot0 (omega arith) }

module _ (count top : ℕ) (below : ℕ → ℕ → Bool) (n : Network) (f : Fits n) (w : NetworkSound below (sizes_of count top (stored n)) n) where
  abbrev S : Sizes
  S = sizes_of count top (stored n)

  tree_at : (l : ℕ) → l < length (map tree_of n.trees) → TreeAt S l (get_or (map tree_of n.trees) l no_tree)
  tree_at l h =
      let here : l < length n.trees = omega (arith, length-map n.trees tree_of) in
      subst (TreeAt S l) (sym (get_or-map tree_of n.trees l [] no_tree here))
      (record {
        table = held_stands 128 line0 (get_or n.trees l []) (TreeStands S) (f.edges l) (w.trees l here);
        nowhere = λ g. ap (λ (t : TreeLines). length t) (w.nowhere l here (λ g'. absurd (omega arith)));
      })

  all_running : TableStands 64 (stored n).running (Each (RunningStands S (stored n).patterns.rows) no_running) (Each RunningClear no_running)
  all_running = record {
    few = f.running;
    own = subst (Each (RunningStands S (stored n).patterns.rows) no_running) (sym (take_pad 64 running0 n.running))
        (λ i h. running_by S n.plan.patterns (stored n).patterns.rows (get_or n.running i no_running)
        (λ k l. sym (pad_same 64 pattern0 n.plan.patterns k (omega arith))) (w.running i h).stands);
    rest = pad-each RunningClear 64 running0 no_running n.running running0_clear;
  }

  small : Each (λ m. m ≤ 128) 0 (map length n.shelf)
  small i h = subst (λ (m : ℕ). m ≤ 128) (sym (get_or-map length n.shelf i [] 0 (omega (arith, length-map n.shelf length)))) (w.shelved i)

  shelf_stands : ShelfStands S (pad 1024 line0 (joined n.shelf)) (map length n.shelf)
  shelf_stands = record {
    room = omega (arith, total_joined n.shelf, f.shelved);
    small = small;
    trees = λ i h.
        let here : i < length n.shelf = omega (arith, length-map n.shelf length) in
        subst (TreeStands S) (sym (piece_at n.shelf (replicate (1024 - length (joined n.shelf)) line0) i here)) (w.shelf i here);
  }

  past_shelf : Zeros line0 (drop (total (take (length (map length n.shelf)) (pad 64 0 (map length n.shelf)))) (pad 1024 line0 (joined n.shelf)))
  past_shelf =
      subst (λ (m : ℕ). Zeros line0 (drop m (pad 1024 line0 (joined n.shelf)))) (sym (ap total (take_pad 64 0 (map length n.shelf)) ∙ total_joined n.shelf))
      (pad-zeros 1024 line0 (joined n.shelf))

  shaped : Shaped count top (stored n) Live
  shaped = record {
    policies = held_stands 16 policy0 n.plan.policies _ f.policies w.plan.policies;
    grants = held_stands 64 grant0 n.plan.grants _ f.grants w.plan.grants;
    locations = held_stands 16 location0 n.plan.locations _ f.locations w.plan.locations;
    steps = held_stands 256 step0 n.plan.steps _ f.steps w.plan.steps;
    trees = tree_at;
    templates = held_stands 256 template0 n.plan.templates _ f.templates w.plan.templates;
    patterns = held_stands 64 pattern0 n.plan.patterns _ f.patterns w.plan.patterns;
    commands = held_stands 255 command0 n.plan.commands _ f.commands w.plan.commands;
    jobs = held_stands 64 job0 n.plan.jobs _ f.jobs w.plan.jobs;
    running = all_running;
    shelf = held_stands 64 0 (map length n.shelf) (ShelfStands S (pad 1024 line0 (joined n.shelf))) (omega (arith, length-map n.shelf length, f.shelf)) shelf_stands;
    shelved = past_shelf;
    still = tt;
  }

  sound_stored : Sound count top below (stored n)
  sound_stored = record {
    stands = record { shape = shaped; obeys = subst (Obeys below top) (sym (network-stored n)) w.obeys };
    running = subst (RunningObeys below) (sym (network-stored n)) (λ i h. (w.running i h).typed);
  }

pub sound_tables : (count top : ℕ) (below : ℕ → ℕ → Bool) (t : Tables) (n : Network) → Holds t n → NetworkSound below (sizes_of count top t) n → Sized t × Sound count top below t
sound_tables count top below t n h =
    subst (λ (u : Tables). NetworkSound below (sizes_of count top u) n → Sized u × Sound count top below u) (sym h.whole)
    (λ w. (sized n h.fits (λ i l. (w.running i l).six), sound_stored count top below n h.fits w))
