-- The tables with another running list.
use Rattle.std.proofs.Common.{◌≡◌, ℕ, zero, suc, ◌<◌, ◌≤◌, Bool, cond, ltb, List, [], ◌∷◌, ◌++◌, length, get_or, Some, None, Ok, Option, sym, ap, subst, ◌∙◌, arith}
use Rattle.std.specs.List.{slice_get}
use Rattle.std.proofs.lemmas.Bool.{cond-true, lt-ltb}
use Rattle.std.proofs.lemmas.Bool.Decides.{nat_tests}
use Rattle.std.proofs.lemmas.List.{length-append}
use Rattle.rows.specs.declared.row.JobRow.{JobRow}
use Rattle.rows.specs.declared.row.LocationRow.{LocationRow}
use Rattle.layout.specs.declared.held.Table.{Table}
use Rattle.layout.specs.declared.memory.RunningRow.{RunningRow}
use Rattle.layout.specs.declared.memory.Tables.{Tables}
use Rattle.layout.specs.Held.{held, pushed, in_use}
use Rattle.layout.specs.Network.{Network, network, Holds}
use Rattle.layout.specs.Zeros.{running0, job0}
use Rattle.layout.proofs.Pads.{held-push}
use Rattle.rooms.specs.Leaving.{without}
use Rattle.rooms.proofs.Closing.{no_longer}
use Rattle.reduction.specs.Effects.{started}
use Rattle.machine.specs.Calls.{with_running, to_post, after_post, after_recall}

abbrev pub with_list : Tables → Table RunningRow 64 → Tables
with_list t running = record {
  policies = t.policies;
  grants = t.grants;
  locations = t.locations;
  steps = t.steps;
  trees = t.trees;
  templates = t.templates;
  patterns = t.patterns;
  commands = t.commands;
  jobs = t.jobs;
  running = running;
  shelf = t.shelf;
}

pub replaced : (t : Tables) (n : Network) (list : Table RunningRow 64) (running : List RunningRow) → Holds t n → length running ≤ 64
    → list ≡ held 64 running0 running → Holds (with_list t list) (with_running n running)
replaced t n list running h short e = record {
  whole = λ i. record {
    policies = (h.whole i).policies;
    grants = (h.whole i).grants;
    locations = (h.whole i).locations;
    steps = (h.whole i).steps;
    trees = (h.whole i).trees;
    templates = (h.whole i).templates;
    patterns = (h.whole i).patterns;
    commands = (h.whole i).commands;
    jobs = (h.whole i).jobs;
    running = e i;
    shelf = (h.whole i).shelf;
  };
  fits = record {
    policies = h.fits.policies;
    grants = h.fits.grants;
    locations = h.fits.locations;
    steps = h.fits.steps;
    trees = h.fits.trees;
    edges = h.fits.edges;
    templates = h.fits.templates;
    patterns = h.fits.patterns;
    commands = h.fits.commands;
    jobs = h.fits.jobs;
    running = short;
    shelf = h.fits.shelf;
    shelved = h.fits.shelved;
  };
}

pub one_out : (t : Tables) (position : ℕ) (list : Table RunningRow 64) → Holds t (network t) → list ≡ held 64 running0 (without position (in_use t.running))
    → Holds (with_list t list) (after_recall (network t) position)
one_out t position list h e = replaced t (network t) list (without position (in_use t.running)) h (omega (arith, no_longer position (in_use t.running), h.fits.running)) e

-- the running list as it is held
own : (t : Tables) → Holds t (network t) → t.running ≡ held 64 running0 (in_use t.running)
own t h = ap (λ (x : Tables). x.running) h.whole

pub count : (t : Tables) → Holds t (network t) → t.running.count ≡ length (in_use t.running)
count t h = ap (λ (x : Table RunningRow 64). x.count) (own t h)

pub one_more : (t : Tables) (list : Table RunningRow 64) (job : RunningRow) → Holds t (network t) → list ≡ pushed t.running job → t.running.count < 64
    → Holds (with_list t list) (with_running (network t) (in_use t.running ++ (job ∷ [])))
one_more t list job h e free =
    let few : length (in_use t.running) < 64 = omega (arith, count t h) in
    replaced t (network t) list (in_use t.running ++ (job ∷ [])) h (omega (arith, length-append (in_use t.running) (job ∷ [])))
    (e ∙ ap (λ r. pushed r job) (own t h) ∙ held-push 64 running0 (in_use t.running) job few)

granted : (l : Option LocationRow) (j : Option JobRow) (n : ℕ) (found : JobRow) → Ok found ≡ to_post l j n → (j ≡ Some found) × (n < 64)
granted None j n found e = absurd (cc)
granted (Some l) None n found e = absurd (cc)
granted (Some l) (Some j) n found e = (grind (arith, nat_tests), grind (arith, nat_tests))

row_at : {X : Type 0} (xs : List X) (i : ℕ) (x d : X) → slice_get xs i ≡ Some x → get_or xs i d ≡ x
row_at [] i x d e = absurd (cc)
row_at (y ∷ xs) zero x d e = grind arith
row_at (y ∷ xs) (suc i) x d e = row_at xs i x d e

-- the tables after a job is posted
pub job_added : (t : Tables) (list : Table RunningRow 64) (row : RunningRow) (found : JobRow) (location job : ℕ) (ok : Bool) → Holds t (network t)
    → Ok found ≡ to_post (slice_get (network t).plan.locations location) (slice_get (network t).plan.jobs job) (length (network t).running)
    → row ≡ started location found → ok ≡ ltb t.running.count 64 → list ≡ cond ok (pushed t.running row) t.running
    → Holds (with_list t list) (after_post (network t) location job)
job_added t list row found location job ok h e is asks after =
    let parts : (slice_get (in_use t.jobs) job ≡ Some found) × (length (in_use t.running) < 64) =
    granted (slice_get (in_use t.locations) location) (slice_get (in_use t.jobs) job) (length (in_use t.running)) found e in
    let free : t.running.count < 64 = omega (arith, count t h, parts.1) in
    let same : row ≡ started location (get_or (in_use t.jobs) job job0) = is ∙ ap (started location) (sym (row_at (in_use t.jobs) job found job0 parts.0)) in
    subst (λ j. Holds (with_list t list) (with_running (network t) (in_use t.running ++ (j ∷ [])))) same
    (one_more t list row h (after ∙ cond-true ok _ _ (asks ∙ lt-ltb t.running.count 64 free)) free)
