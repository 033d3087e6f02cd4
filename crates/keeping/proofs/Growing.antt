-- What stands goes on standing when trees are put on the shelf.
use Rattle.std.proofs.Common.{◌≡◌, ℕ, ◌-◌, ◌≤◌, min, Bool, List, ◌++◌, map, length, get_or, Some, None, Option, sym, ap, ◌∙◌, arith}
use Rattle.std.proofs.lemmas.List.{length-map}
use Rattle.rows.specs.declared.row.PatternRow.{PatternRow}
use Rattle.rows.specs.declared.row.PathStepRow.{PathStepRow}
use Rattle.rows.specs.declared.row.GrantRow.{GrantRow}
use Rattle.rows.specs.declared.row.JobRow.{JobRow}
use Rattle.rows.specs.declared.row.TreeLine.{TreeLine}
use Rattle.rows.specs.declared.row.TemplateRow.{TemplateRow}
use Rattle.rows.specs.declared.row.CommandRow.{CommandRow}
use Rattle.layout.specs.declared.memory.Slot.{Slot}
use Rattle.layout.specs.declared.memory.RunningRow.{RunningRow}
use Rattle.layout.specs.declared.memory.Tables.{Tables}
use Rattle.layout.specs.Network.{Network, TreeLines, Plan, stored, Holds}
use Rattle.layout.specs.Zeros.{line0, template0, pattern0, command0, job0, grant0, slot0}
use Rattle.meaning.specs.declared.contents.Content.{Content}
use Rattle.meaning.specs.declared.contents.Content.TheVariants as content
use Rattle.meaning.specs.declared.patterns.Pattern.{Pattern}
use Rattle.meaning.specs.declared.patterns.Pattern.TheVariants as pattern
use Rattle.meaning.specs.declared.verbs.Verb.{Verb}
use Rattle.meaning.specs.declared.verbs.Verb.TheVariants as verb
use Rattle.meaning.specs.Decoding.{content_of, pattern_of, verb_of}
use Rattle.matching.proofs.Growing.{slots_grow}
use Rattle.standing.specs.declared.sizes.Sizes.{Sizes}
use Rattle.standing.specs.declared.lines.Home.{Home}
use Rattle.standing.specs.Sizes.{sizes_of}
use Rattle.standing.specs.Words.{Means, GrantStands, PatternStands, JobStands, StepsStand, ContentStands, Belongs, LineStands, TreeStands, TemplatesStand, VerbStands, CommandsStand, PartStands, SlotStands, RunningStands}
use Rattle.standing.specs.Words.SlotStands.{none, filled}
use Rattle.reduction.specs.Soundness.{JobSound, PlanStands, with_shelf}

means_like : {X : Type 0} (P Q : X → Type 0) (o : Option X) → ((x : X) → P x → Q x) → Means o P → Means o Q
means_like P Q None f w = w
means_like P Q (Some x) f w = f x w

module _ (s : Sizes) (k : ℕ) where
  abbrev Next : Sizes
  Next = with_shelf s k

  grant_on : (x : GrantRow) → GrantStands s x → GrantStands Next x
  grant_on x w = record { policy = w.policy; direction = w.direction; holder = w.holder; role = w.role }

  pattern_on : (p : Pattern) → PatternStands s p → PatternStands Next p
  pattern_on (pattern.Number slot) w = w
  pattern_on (pattern.Script slot policy) w = w
  pattern_on (pattern.Pointer slot policy last) w = w
  pattern_on (pattern.Tree slot policy top all) w = w

  job_on : (x : JobRow) → JobStands s x → JobStands Next x
  job_on x w = record { policy = w.policy; roles = w.roles; command = w.command }

  steps_on : (xs : List PathStepRow) → StepsStand s xs → StepsStand Next xs
  steps_on xs w = record { sets = w.sets; few = w.few; first = w.first; runs_on = w.runs_on; short = w.short }

  content_on : (c : Content) → ContentStands s c → ContentStands Next c
  content_on content.Tree w = w
  content_on (content.Number n) w = w
  content_on (content.Script job) w = w
  content_on (content.Pointer path location) w = w
  content_on (content.Held slot) w = w
  content_on (content.Template template) w = w

  line_on : (h : Home) (x : TreeLine) → LineStands h s x → LineStands h Next x
  line_on h x w = record {
    low = w.low;
    high = w.high;
    set = w.set;
    top = w.top;
    content = means_like (λ c. Belongs h c × ContentStands s c) (λ c. Belongs h c × ContentStands Next c) (content_of x.content x.first x.second)
        (λ c v. (v.0, content_on c v.1)) w.content;
  }

  pub tree_on : (xs : List TreeLine) → TreeStands s xs → TreeStands Next xs
  tree_on xs w = record { each = λ i h. line_on _ (get_or xs i line0) (w.each i h); first = w.first; down = w.down; under = w.under }

  templates_on : (xs : List TemplateRow) → TemplatesStand s xs → TemplatesStand Next xs
  templates_on xs w = record {
    each = λ i h. line_on _ (get_or xs i template0).line (w.each i h);
    few = w.few;
    first = w.first;
    runs_on = w.runs_on;
    begins = w.begins;
    down = w.down;
    under = w.under;
  }

  verb_on : (v : Verb) → VerbStands s v → VerbStands Next v
  verb_on (verb.Fork other) w = w
  verb_on (verb.Go location roles) w = w
  verb_on (verb.Run path) w = w
  verb_on (verb.Read path row) w = w
  verb_on (verb.Change path row c) w = (w.0, (w.1.0, content_on c w.1.1))
  verb_on (verb.Enable path role) w = w
  verb_on (verb.Disable path role) w = w

  commands_on : (xs : List CommandRow) → CommandsStand s xs → CommandsStand Next xs
  commands_on xs w = record {
    each = λ i h. means_like (VerbStands s) (VerbStands Next) (verb_of (get_or xs i command0)) verb_on (w.each i h);
    next_later = w.next_later;
    other_later = w.other_later;
    apart = w.apart;
    once = w.once;
  }

  pub plan_on : (p : Plan) → PlanStands s p → PlanStands Next p
  plan_on p w = record {
    policies = w.policies;
    grants = λ i h. grant_on (get_or p.grants i grant0) (w.grants i h);
    locations = w.locations;
    steps = steps_on p.steps w.steps;
    templates = templates_on p.templates w.templates;
    patterns = λ i h. means_like (PatternStands s) (PatternStands Next) (pattern_of (get_or p.patterns i pattern0)) pattern_on (w.patterns i h);
    commands = commands_on p.commands w.commands;
    jobs = λ i h. job_on (get_or p.jobs i job0) (w.jobs i h);
  }

  -- ---- running jobs, where the shelf does not get smaller

  module _ (more : s.shelf ≤ k) where
    part_on : (p : Pattern) (slot value : ℕ) → PartStands s p slot value → PartStands Next p slot value
    part_on (pattern.Number own) slot value w = w
    part_on (pattern.Script own policy) slot value w = w
    part_on (pattern.Pointer own policy last) slot value w = w
    part_on (pattern.Tree own policy top all) slot value w = (w.0, omega (arith, w.1))

    slot_on : (ps : List PatternRow) (slot : ℕ) (x : Slot) → SlotStands s ps slot x → SlotStands Next ps slot x
    slot_on ps slot x (none e v) = none e v
    slot_on ps slot x (filled a b w) =
        filled a b (means_like (λ p. PartStands s p slot x.value) (λ p. PartStands Next p slot x.value) (pattern_of (get_or ps (x.pattern - 1) pattern0)) (λ p v. part_on p slot x.value v) w)

    running_on : (ps : List PatternRow) (r : RunningRow) → RunningStands s ps r → RunningStands Next ps r
    running_on ps r w = record {
      location = w.location;
      roles = w.roles;
      command = w.command;
      slots = λ i h. slot_on ps i (get_or r.slots i slot0) (w.slots i h);
    }

    pub job_sound_on : (below : ℕ → ℕ → Bool) (p : Plan) (shelf added : List TreeLines) (r : RunningRow) → JobSound below s p shelf r → JobSound below Next p (shelf ++ added) r
    job_sound_on below p shelf added r w = record {
      six = w.six;
      stands = running_on p.patterns r w.stands;
      typed = record { runs = w.typed.runs; slots = slots_grow below p shelf added r.slots w.typed.slots };
    }

-- ---- the sizes of tables after a call

sizes_stored : (count top : ℕ) (p : Plan) (trees trees' : List TreeLines) (running running' : List RunningRow) (shelf shelf' : List TreeLines) → length shelf' ≤ 64
    → sizes_of count top (stored (record { plan = p; trees = trees'; running = running'; shelf = shelf' }))
    ≡ with_shelf (sizes_of count top (stored (record { plan = p; trees = trees; running = running; shelf = shelf }))) (length shelf')
sizes_stored count top p trees trees' running running' shelf shelf' h =
    let s : Sizes = sizes_of count top (stored (record { plan = p; trees = trees; running = running; shelf = shelf })) in
    let e : min (length (map length shelf')) 64 ≡ length shelf' = omega (arith, length-map shelf' length) in
    ap (with_shelf s) e

-- of tables that hold networks of one plan
pub sizes_then : (count top : ℕ) (t u : Tables) (n : Network) (trees : List TreeLines) (running : List RunningRow) (shelf : List TreeLines) → Holds t n
    → Holds u (record { plan = n.plan; trees = trees; running = running; shelf = shelf }) → sizes_of count top u ≡ with_shelf (sizes_of count top t) (length shelf)
sizes_then count top t u n trees running shelf h k =
    ap (sizes_of count top) k.whole ∙ sizes_stored count top n.plan n.trees trees n.running running n.shelf shelf k.fits.shelf
    ∙ ap (λ (x : Tables). with_shelf (sizes_of count top x) (length shelf)) (sym h.whole)
