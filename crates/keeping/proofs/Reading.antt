-- Sound tables hold a sound network; an audit tells nothing of them; and a draft that is admitted is sound.
use Rattle.std.proofs.Common.{◌≡◌, ℕ, zero, suc, ◌<◌, ◌≤◌, min, Bool, List, [], ◌∷◌, map, length, get_or, take, drop, None, sym, refl, ap, ◌∙◌, subst, arith}
use Rattle.std.specs.Option.{option_map}
use Rattle.std.proofs.lemmas.List.{length-map, length-take, get_or-map, get_or-take, drop-drop}
use Rattle.order.specs.Laws.{Lawful}
use Rattle.rows.specs.declared.row.TreeLine.{TreeLine}
use Rattle.layout.specs.declared.held.Table.{Table}
use Rattle.layout.specs.declared.memory.RunningRow.{RunningRow}
use Rattle.layout.specs.declared.memory.Tables.{Tables}
use Rattle.layout.specs.Held.{in_use}
use Rattle.layout.specs.Network.{TreeLines, pieces, network, Holds, Sized}
use Rattle.layout.specs.Zeros.{pattern0, no_running, no_tree}
use Rattle.scan.specs.Scan.{or_else}
use Rattle.matching.proofs.Pieces.{pieces_long}
use Rattle.quiet.proofs.Networks.{network_quiet, all_running_quiet}
use Rattle.standing.specs.declared.sizes.Sizes.{Sizes}
use Rattle.standing.specs.Sizes.{sizes_of}
use Rattle.standing.specs.Words.{TreeStands}
use Rattle.shape.specs.declared.place.Stage.TheVariants.{Live}
use Rattle.shape.specs.Place.{first_place}
use Rattle.shape.specs.Shape.{TreeAt, total, Shaped}
use Rattle.shape.proofs.Packing.{shaped_holds}
use Rattle.shape.proofs.Telling.{shape_tells}
use Rattle.breaches.specs.Told.{rules_told, all_running_told}
use Rattle.rules.specs.declared.fault.Fault.TheVariants.{Shape, Rule}
use Rattle.rules.specs.Admission.{Admissible, Sound, live_fault}
use Rattle.reduction.specs.Soundness.{JobSound, Counts, PlanStands, NetworkSound}
use Rattle.keeping.specs.Keeping.{HoldsSound}
use Rattle.keeping.proofs.Stored.{running_by}

-- a piece of a list of pieces
piece : (ns : List ℕ) (lines : TreeLines) (k : ℕ) → k < length ns → get_or (pieces ns lines) k [] ≡ take (get_or ns k 0) (drop (total (take k ns)) lines)
piece [] lines k h = absurd (omega arith)
piece (n ∷ ns) lines zero h = refl
piece (n ∷ ns) lines (suc k) h =
    piece ns (drop n lines) k (omega arith) ∙ ap (take (get_or ns k 0)) (drop-drop (total (take k ns)) n lines)

-- how many rows are in use
used : {X : Type 0} {m : ℕ} (limit : ℕ) (t : Table X m) → length t.rows ≡ limit → min t.count limit ≡ length (in_use t)
used limit t l = omega (arith, length-take t.count t.rows)

module _ (count top : ℕ) (below : ℕ → ℕ → Bool) (law : Lawful count top below) (t : Tables) (z : Sized t) (w : Sound count top below t) where
  abbrev S : Sizes
  S = sizes_of count top t

  shape : Shaped count top t Live
  shape = w.stands.shape

  abbrev ns : List ℕ
  ns = in_use t.shelf.trees

  counts : Counts S (network t)
  counts = record {
    policies = used 16 t.policies z.policies;
    locations = used 16 t.locations z.locations;
    patterns = used 64 t.patterns z.patterns;
    commands = used 255 t.commands z.commands;
    jobs = used 64 t.jobs z.jobs;
    shelf = used 64 t.shelf.trees z.shelf ∙ sym (pieces_long ns t.shelf.lines);
  }

  plan : PlanStands S (network t).plan
  plan = record {
    policies = shape.policies.own;
    grants = shape.grants.own;
    locations = shape.locations.own;
    steps = shape.steps.own;
    templates = shape.templates.own;
    patterns = shape.patterns.own;
    commands = shape.commands.own;
    jobs = shape.jobs.own;
  }

  -- the tree of a location
  at : (l : ℕ) → l < length (map in_use t.trees) → get_or (map in_use t.trees) l [] ≡ in_use (get_or t.trees l no_tree)
  at l h = get_or-map in_use t.trees l no_tree [] (omega (arith, length-map t.trees in_use))

  here : (l : ℕ) → l < length (map in_use t.trees) → TreeAt S l (get_or t.trees l no_tree)
  here l h = shape.trees l (omega (arith, length-map t.trees in_use))

  nothing : (tree : Table TreeLine 128) → tree.count ≡ 0 → in_use tree ≡ []
  nothing tree e = ap (λ (m : ℕ). take m tree.rows) e

  whole_shelf : (k : ℕ) → k < length (pieces ns t.shelf.lines) → TreeStands S (get_or (pieces ns t.shelf.lines) k [])
  whole_shelf k h =
      let in_shelf : k < length ns = omega (arith, pieces_long ns t.shelf.lines) in
      subst (TreeStands S) (sym (piece ns t.shelf.lines k in_shelf)) (shape.shelf.own.trees k in_shelf)

  short_piece : (ms : List ℕ) (lines : TreeLines) → ((k : ℕ) → k < length ms → get_or ms k 0 ≤ 128) → (k : ℕ) → length (get_or (pieces ms lines) k []) ≤ 128
  short_piece [] lines few k = omega arith
  short_piece (m ∷ ms) lines few zero = omega (arith, length-take m lines, few 0 (omega arith))
  short_piece (m ∷ ms) lines few (suc k) = short_piece ms (drop m lines) (λ j l. few (suc j) (omega arith)) k

  holds : Holds t (network t)
  holds = shaped_holds S t Live z shape

  job : (i : ℕ) → i < length (in_use t.running) → JobSound below S (network t).plan (network t).shelf (get_or (in_use t.running) i no_running)
  job i h =
      let lower : i < t.running.count = omega (arith, length-take t.running.count t.running.rows) in
      let small : i < 64 = omega (arith, length-take t.running.count t.running.rows, z.running) in
      record {
        six = ap (λ (r : RunningRow). length r.slots) (get_or-take t.running.count t.running.rows i no_running lower) ∙ z.slots i small;
        stands = running_by S t.patterns.rows (in_use t.patterns) (get_or (in_use t.running) i no_running)
            (λ k l. sym (get_or-take t.patterns.count t.patterns.rows k pattern0 (omega arith))) (shape.running.own i h);
        typed = w.running i h;
      }

  sound_network : NetworkSound below S (network t)
  sound_network = record {
    lawful = law;
    counts = counts;
    plan = plan;
    trees = λ l h. subst (TreeStands S) (sym (at l h)) (here l h).table.own;
    every_location = length-map t.trees in_use ∙ z.trees;
    nowhere = λ l h g. at l h ∙ nothing (get_or t.trees l no_tree) ((here l h).nowhere (omega (arith, g)));
    short = holds.fits.edges;
    shelf = whole_shelf;
    shelved = short_piece ns t.shelf.lines shape.shelf.own.small;
    obeys = w.stands.obeys;
    running = job;
  }

  pub sound_holds : HoldsSound count top below t (network t)
  sound_holds = record { holds = holds; sound = sound_network }

-- ---- an audit

module _ (count top : ℕ) (below : ℕ → ℕ → Bool) (law : Lawful count top below) (t : Tables) (w : Sound count top below t) where
  pub no_place : first_place count top t Live ≡ None
  no_place = (shape_tells count top t Live).1 w.stands.shape

  no_breach : rules_told below top (network t) ≡ None
  no_breach = network_quiet law (network t) w.stands.obeys

  none_running : all_running_told below (network t) ≡ None
  none_running = all_running_quiet law (network t) w.running

  pub audit_quiet : live_fault count top below t ≡ None
  audit_quiet =
      ap (λ place. or_else (or_else (option_map Shape place) (option_map Rule (rules_told below top (network t)))) (option_map Rule (all_running_told below (network t)))) no_place
      ∙ ap (λ breach. or_else (option_map Rule breach) (option_map Rule (all_running_told below (network t)))) no_breach
      ∙ ap (option_map Rule) none_running

-- ---- a draft

pub admitted_sound : (count top : ℕ) (below : ℕ → ℕ → Bool) (t : Tables) → Admissible count top below t → Sound count top below t
admitted_sound count top below t w = record {
  stands = record {
    shape = record {
      policies = w.shape.policies;
      grants = w.shape.grants;
      locations = w.shape.locations;
      steps = w.shape.steps;
      trees = w.shape.trees;
      templates = w.shape.templates;
      patterns = w.shape.patterns;
      commands = w.shape.commands;
      jobs = w.shape.jobs;
      running = w.shape.running;
      shelf = w.shape.shelf;
      shelved = w.shape.shelved;
      still = tt;
    };
    obeys = w.obeys;
  };
  running = λ i h. absurd (omega (arith, w.shape.still.0, length-take t.running.count t.running.rows));
}
