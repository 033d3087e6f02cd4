-- A row pushed into a table of the tables is a row more in the network that they hold.
use Rattle.std.proofs.Common.{◌≡◌, ℕ, ◌<◌, ◌≤◌, Bool, true, false, cond, ◌&&◌, ltb, List, [], ◌∷◌, ◌++◌, length, get_or, set, sym, refl, ap, ◌∙◌, subst, inl, inr, arith}
use Rattle.std.proofs.lemmas.List.{length-append, length-set, set-get_or, map-set, get_or-set_same, get_or-set_other, get_or-map}
use Rattle.std.proofs.lemmas.Bool.{ltb-true, lt-ltb, cases_eq}
use Rattle.rows.specs.declared.row.PolicyRow.{PolicyRow}
use Rattle.rows.specs.declared.row.GrantRow.{GrantRow}
use Rattle.rows.specs.declared.row.LocationRow.{LocationRow}
use Rattle.rows.specs.declared.row.PathStepRow.{PathStepRow}
use Rattle.rows.specs.declared.row.TreeLine.{TreeLine}
use Rattle.rows.specs.declared.row.TemplateRow.{TemplateRow}
use Rattle.rows.specs.declared.row.PatternRow.{PatternRow}
use Rattle.rows.specs.declared.row.CommandRow.{CommandRow}
use Rattle.rows.specs.declared.row.JobRow.{JobRow}
use Rattle.layout.specs.declared.held.Table.{Table}
use Rattle.layout.specs.declared.memory.Tables.{Tables}
use Rattle.layout.specs.Held.{held, pushed}
use Rattle.layout.specs.Network.{Network, TreeLines, tree_of, network, stored, Fits, Holds}
use Rattle.layout.proofs.Back.{holds_network}
use Rattle.layout.specs.Zeros.{policy0, grant0, location0, step0, line0, template0, pattern0, command0, job0, no_tree}
use Rattle.layout.proofs.Pads.{held-push}
use Rattle.filing.specs.declared.decoded.Row.{Row}
use Rattle.filing.specs.declared.decoded.Row.TheVariants.{Policy, Grant, Location, PathStep, TemplateLine, Pattern, Command, Job}
use Rattle.filing.specs.Filing.{with_plan, with_trees, with_policies, with_grants, with_locations, with_steps, with_templates, with_patterns, with_commands, with_jobs, has_room, filed}

-- what a push gives: whether there was room, and the network with the row
pub record Gives (t : Tables) (n : Network) (r room : Bool) (more : Network) : Type 0 where
  pub answer : r ≡ room
  pub after : Holds t (cond r more n)

-- one table among the others: where it stands in the tables, and which rows of the network it has
module _ {X : Type 0} {k : ℕ} (limit : ℕ) (z : X) (get : Tables → Table X k) (put : Tables → Table X k → Tables)
    (rows : Network → List X) (with : Network → List X → Network)
    (same : (t : Tables) → put t (get t) ≡ t)
    (there : (n : Network) → Fits n → get (stored n) ≡ held limit z (rows n))
    (goes : (n : Network) → Fits n → (xs : List X) → put (stored n) (held limit z xs) ≡ stored (with n xs))
    (fits : (n : Network) → Fits n → (xs : List X) → length xs ≤ limit → Fits (with n xs)) where
  at_push : (t : Tables) (n : Network) (x : X) (u : Table X k) (r : Bool) → Holds t n → r ≡ ltb (length (rows n)) limit
      → u ≡ cond r (pushed (get t) x) (get t) → Holds (put t u) (cond r (with n (rows n ++ x ∷ [])) n)
  at_push t n x u false h room e =
      let kept : put t u ≡ t = ap (put t) e ∙ same t in
      record { whole = kept ∙ h.whole; fits = h.fits }
  at_push t n x u true h room e =
      let less : length (rows n) < limit = ltb-true (length (rows n)) limit (sym room) in
      let long : length (rows n ++ x ∷ []) ≤ limit = omega (arith, length-append (rows n) (x ∷ [])) in
      record {
        whole =
            ap (put t) e
            ∙ ap (λ (s : Tables). put s (pushed (get s) x)) h.whole
            ∙ ap (λ (v : Table X k). put (stored n) (pushed v x)) (there n h.fits)
            ∙ ap (put (stored n)) (held-push limit z (rows n) x less)
            ∙ goes n h.fits (rows n ++ x ∷ []);
        fits = fits n h.fits (rows n ++ x ∷ []) long;
      }

  pub push_gives : (t : Tables) (n : Network) (x : X) (u : Table X k) (r : Bool) → Holds t n → r ≡ ltb (get t).count limit
      → u ≡ cond r (pushed (get t) x) (get t) → Gives (put t u) n r (ltb (length (rows n)) limit) (with n (rows n ++ x ∷ []))
  push_gives t n x u r h a e =
      let counted : (get t).count ≡ length (rows n) = ap (λ (s : Tables). (get s).count) h.whole ∙ ap (λ (v : Table X k). v.count) (there n h.fits) in
      let room : r ≡ ltb (length (rows n)) limit = a ∙ ap (λ (m : ℕ). ltb m limit) counted in
      record { answer = room; after = at_push t n x u r h room e }

-- ---- the tables, one by one

abbrev pub put_policies : Tables → Table PolicyRow 16 → Tables
put_policies t u = record t { policies = u }

fits_policies : (n : Network) → Fits n → (xs : List PolicyRow) → length xs ≤ 16 → Fits (with_plan n (with_policies n.plan xs))
fits_policies n h xs few = record { policies = few; grants = h.grants; locations = h.locations; steps = h.steps; trees = h.trees; edges = h.edges; templates = h.templates; patterns = h.patterns; commands = h.commands; jobs = h.jobs; running = h.running; shelf = h.shelf; shelved = h.shelved }

pub push_policies : (t : Tables) (n : Network) (x : PolicyRow) (u : Table PolicyRow 16) (r : Bool) → Holds t n → r ≡ ltb t.policies.count 16
    → u ≡ cond r (pushed t.policies x) t.policies → Gives (put_policies t u) n r (ltb (length n.plan.policies) 16) (filed n (Policy x))
push_policies =
    push_gives 16 policy0 (λ t. t.policies) put_policies (λ n. n.plan.policies) (λ n xs. with_plan n (with_policies n.plan xs))
    (λ t. refl) (λ n h. refl) (λ n h xs. refl) fits_policies

abbrev pub put_grants : Tables → Table GrantRow 64 → Tables
put_grants t u = record t { grants = u }

fits_grants : (n : Network) → Fits n → (xs : List GrantRow) → length xs ≤ 64 → Fits (with_plan n (with_grants n.plan xs))
fits_grants n h xs few = record { policies = h.policies; grants = few; locations = h.locations; steps = h.steps; trees = h.trees; edges = h.edges; templates = h.templates; patterns = h.patterns; commands = h.commands; jobs = h.jobs; running = h.running; shelf = h.shelf; shelved = h.shelved }

pub push_grants : (t : Tables) (n : Network) (x : GrantRow) (u : Table GrantRow 64) (r : Bool) → Holds t n → r ≡ ltb t.grants.count 64
    → u ≡ cond r (pushed t.grants x) t.grants → Gives (put_grants t u) n r (ltb (length n.plan.grants) 64) (filed n (Grant x))
push_grants =
    push_gives 64 grant0 (λ t. t.grants) put_grants (λ n. n.plan.grants) (λ n xs. with_plan n (with_grants n.plan xs))
    (λ t. refl) (λ n h. refl) (λ n h xs. refl) fits_grants

abbrev pub put_locations : Tables → Table LocationRow 16 → Tables
put_locations t u = record t { locations = u }

fits_locations : (n : Network) → Fits n → (xs : List LocationRow) → length xs ≤ 16 → Fits (with_plan n (with_locations n.plan xs))
fits_locations n h xs few = record { policies = h.policies; grants = h.grants; locations = few; steps = h.steps; trees = h.trees; edges = h.edges; templates = h.templates; patterns = h.patterns; commands = h.commands; jobs = h.jobs; running = h.running; shelf = h.shelf; shelved = h.shelved }

pub push_locations : (t : Tables) (n : Network) (x : LocationRow) (u : Table LocationRow 16) (r : Bool) → Holds t n → r ≡ ltb t.locations.count 16
    → u ≡ cond r (pushed t.locations x) t.locations → Gives (put_locations t u) n r (ltb (length n.plan.locations) 16) (filed n (Location x))
push_locations =
    push_gives 16 location0 (λ t. t.locations) put_locations (λ n. n.plan.locations) (λ n xs. with_plan n (with_locations n.plan xs))
    (λ t. refl) (λ n h. refl) (λ n h xs. refl) fits_locations

abbrev pub put_steps : Tables → Table PathStepRow 256 → Tables
put_steps t u = record t { steps = u }

fits_steps : (n : Network) → Fits n → (xs : List PathStepRow) → length xs ≤ 256 → Fits (with_plan n (with_steps n.plan xs))
fits_steps n h xs few = record { policies = h.policies; grants = h.grants; locations = h.locations; steps = few; trees = h.trees; edges = h.edges; templates = h.templates; patterns = h.patterns; commands = h.commands; jobs = h.jobs; running = h.running; shelf = h.shelf; shelved = h.shelved }

pub push_steps : (t : Tables) (n : Network) (x : PathStepRow) (u : Table PathStepRow 256) (r : Bool) → Holds t n → r ≡ ltb t.steps.count 256
    → u ≡ cond r (pushed t.steps x) t.steps → Gives (put_steps t u) n r (ltb (length n.plan.steps) 256) (filed n (PathStep x))
push_steps =
    push_gives 256 step0 (λ t. t.steps) put_steps (λ n. n.plan.steps) (λ n xs. with_plan n (with_steps n.plan xs))
    (λ t. refl) (λ n h. refl) (λ n h xs. refl) fits_steps

abbrev pub put_templates : Tables → Table TemplateRow 256 → Tables
put_templates t u = record t { templates = u }

fits_templates : (n : Network) → Fits n → (xs : List TemplateRow) → length xs ≤ 256 → Fits (with_plan n (with_templates n.plan xs))
fits_templates n h xs few = record { policies = h.policies; grants = h.grants; locations = h.locations; steps = h.steps; trees = h.trees; edges = h.edges; templates = few; patterns = h.patterns; commands = h.commands; jobs = h.jobs; running = h.running; shelf = h.shelf; shelved = h.shelved }

pub push_templates : (t : Tables) (n : Network) (x : TemplateRow) (u : Table TemplateRow 256) (r : Bool) → Holds t n → r ≡ ltb t.templates.count 256
    → u ≡ cond r (pushed t.templates x) t.templates → Gives (put_templates t u) n r (ltb (length n.plan.templates) 256) (filed n (TemplateLine x))
push_templates =
    push_gives 256 template0 (λ t. t.templates) put_templates (λ n. n.plan.templates) (λ n xs. with_plan n (with_templates n.plan xs))
    (λ t. refl) (λ n h. refl) (λ n h xs. refl) fits_templates

abbrev pub put_patterns : Tables → Table PatternRow 64 → Tables
put_patterns t u = record t { patterns = u }

fits_patterns : (n : Network) → Fits n → (xs : List PatternRow) → length xs ≤ 64 → Fits (with_plan n (with_patterns n.plan xs))
fits_patterns n h xs few = record { policies = h.policies; grants = h.grants; locations = h.locations; steps = h.steps; trees = h.trees; edges = h.edges; templates = h.templates; patterns = few; commands = h.commands; jobs = h.jobs; running = h.running; shelf = h.shelf; shelved = h.shelved }

pub push_patterns : (t : Tables) (n : Network) (x : PatternRow) (u : Table PatternRow 64) (r : Bool) → Holds t n → r ≡ ltb t.patterns.count 64
    → u ≡ cond r (pushed t.patterns x) t.patterns → Gives (put_patterns t u) n r (ltb (length n.plan.patterns) 64) (filed n (Pattern x))
push_patterns =
    push_gives 64 pattern0 (λ t. t.patterns) put_patterns (λ n. n.plan.patterns) (λ n xs. with_plan n (with_patterns n.plan xs))
    (λ t. refl) (λ n h. refl) (λ n h xs. refl) fits_patterns

abbrev pub put_commands : Tables → Table CommandRow 255 → Tables
put_commands t u = record t { commands = u }

fits_commands : (n : Network) → Fits n → (xs : List CommandRow) → length xs ≤ 255 → Fits (with_plan n (with_commands n.plan xs))
fits_commands n h xs few = record { policies = h.policies; grants = h.grants; locations = h.locations; steps = h.steps; trees = h.trees; edges = h.edges; templates = h.templates; patterns = h.patterns; commands = few; jobs = h.jobs; running = h.running; shelf = h.shelf; shelved = h.shelved }

pub push_commands : (t : Tables) (n : Network) (x : CommandRow) (u : Table CommandRow 255) (r : Bool) → Holds t n → r ≡ ltb t.commands.count 255
    → u ≡ cond r (pushed t.commands x) t.commands → Gives (put_commands t u) n r (ltb (length n.plan.commands) 255) (filed n (Command x))
push_commands =
    push_gives 255 command0 (λ t. t.commands) put_commands (λ n. n.plan.commands) (λ n xs. with_plan n (with_commands n.plan xs))
    (λ t. refl) (λ n h. refl) (λ n h xs. refl) fits_commands

abbrev pub put_jobs : Tables → Table JobRow 64 → Tables
put_jobs t u = record t { jobs = u }

fits_jobs : (n : Network) → Fits n → (xs : List JobRow) → length xs ≤ 64 → Fits (with_plan n (with_jobs n.plan xs))
fits_jobs n h xs few = record { policies = h.policies; grants = h.grants; locations = h.locations; steps = h.steps; trees = h.trees; edges = h.edges; templates = h.templates; patterns = h.patterns; commands = h.commands; jobs = few; running = h.running; shelf = h.shelf; shelved = h.shelved }

pub push_jobs : (t : Tables) (n : Network) (x : JobRow) (u : Table JobRow 64) (r : Bool) → Holds t n → r ≡ ltb t.jobs.count 64
    → u ≡ cond r (pushed t.jobs x) t.jobs → Gives (put_jobs t u) n r (ltb (length n.plan.jobs) 64) (filed n (Job x))
push_jobs =
    push_gives 64 job0 (λ t. t.jobs) put_jobs (λ n. n.plan.jobs) (λ n xs. with_plan n (with_jobs n.plan xs))
    (λ t. refl) (λ n h. refl) (λ n h xs. refl) fits_jobs

abbrev pub put_tree : ℕ → Tables → Table TreeLine 128 → Tables
put_tree l t u = record { policies = t.policies; grants = t.grants; locations = t.locations; steps = t.steps; trees = set t.trees l u; templates = t.templates; patterns = t.patterns; commands = t.commands; jobs = t.jobs; running = t.running; shelf = t.shelf }

abbrev with_tree : ℕ → Network → TreeLines → Network
with_tree l n lines = with_trees n (set n.trees l lines)

abbrev put_trees : Tables → List (Table TreeLine 128) → Tables
put_trees t ts = record t { trees = ts }

tree-lines : (l : ℕ) (ts : List TreeLines) (lines : TreeLines) → l < length ts → length lines ≤ 128 → ((k : ℕ) → length (get_or ts k []) ≤ 128)
    → (k : ℕ) → length (get_or (set ts l lines) k []) ≤ 128
tree-lines l ts lines less few h k =
    elim (cases_eq k l) [
      | inl here ↦ subst (λ (m : ℕ). length (get_or (set ts l lines) m []) ≤ 128) (sym here) (subst (λ (ys : TreeLines). length ys ≤ 128) (sym (get_or-set_same ts l lines [] less)) few)
      | inr other ↦ subst (λ (ys : TreeLines). length ys ≤ 128) (sym (get_or-set_other ts l k lines [] other)) (h k)
    ]

fits_tree : (l : ℕ) → l < 16 → (n : Network) → Fits n → (lines : TreeLines) → length lines ≤ 128 → Fits (with_tree l n lines)
fits_tree l less n h lines few = record { policies = h.policies; grants = h.grants; locations = h.locations; steps = h.steps; trees = length-set n.trees l lines ∙ h.trees; edges = tree-lines l n.trees lines (omega (arith, h.trees)) few h.edges; templates = h.templates; patterns = h.patterns; commands = h.commands; jobs = h.jobs; running = h.running; shelf = h.shelf; shelved = h.shelved }

pub push_tree : (l : ℕ) → l < 16 → (t : Tables) (n : Network) (x : TreeLine) (u : Table TreeLine 128) (r : Bool) → Holds t n
    → r ≡ ltb (get_or t.trees l no_tree).count 128 → u ≡ cond r (pushed (get_or t.trees l no_tree) x) (get_or t.trees l no_tree)
    → Gives (put_tree l t u) n r (ltb (length (get_or n.trees l [])) 128) (with_tree l n (get_or n.trees l [] ++ x ∷ []))
push_tree l less =
    push_gives 128 line0 (λ t. get_or t.trees l no_tree) (put_tree l) (λ n. get_or n.trees l []) (with_tree l)
    (λ t. ap (put_trees t) (set-get_or t.trees l no_tree))
    (λ n h. get_or-map tree_of n.trees l [] no_tree (omega (arith, h.trees)))
    (λ n h lines. ap (put_trees (stored n)) (sym (map-set tree_of n.trees l lines)))
    (fits_tree l less)

-- ---- the row that a case has

abbrev pub Puts : Tables → Network → Row → Bool → Type 0
Puts t n row r = record { answer : r ≡ has_room n row; after : Holds t (cond r (filed n row) n) }

pub puts : (t : Tables) (n : Network) (row case : Row) (r : Bool) → row ≡ case → Gives t n r (has_room n case) (filed n case) → Puts t n row r
puts t n row case r e g = subst (λ (x : Row). Puts t n x r) (sym e) (record { answer = g.answer; after = g.after })

-- where the number is below its limit, the table alone decides
pub within : (t : Tables) (n more : Network) (r room : Bool) (number limit : ℕ) → number < limit → Gives t n r room more → Gives t n r (ltb number limit && room) more
within t n more r room number limit less g =
    record { answer = g.answer ∙ sym (ap (λ (b : Bool). b && room) (lt-ltb number limit less)); after = g.after }

-- tables that hold a network hold the one that is read off them
pub holds_own : (t : Tables) (n : Network) → Holds t n → Holds t (network t)
holds_own t n h = subst (λ (m : Network). Holds t m) (sym (holds_network t n h)) h
