-- What is kept of an aftermath, with more jobs and copies.
use Rattle.std.proofs.Common.{◌≡◌, ℕ, ◌+◌, ◌<◌, Bool, true, false, List, [], ◌∷◌, ◌++◌, length, get_or, refl, sym, ap, ◌∙◌, append-nil, append_assoc, arith}
use Rattle.std.proofs.lemmas.List.{length-append, map-append}
use Rattle.layout.specs.declared.memory.RunningRow.{RunningRow}
use Rattle.layout.specs.Network.{TreeLines, Plan}
use Rattle.meaning.specs.declared.patterns.Pattern.{Pattern}
use Rattle.meaning.specs.declared.patterns.Pattern.TheVariants as pattern
use Rattle.obeying.specs.TreeLaws.{under}
use Rattle.rooms.specs.declared.scratch.Scratch.{Scratch}
use Rattle.rooms.specs.Rooms.{Aftermath, scratch_of}
use Rattle.rooms.specs.Joining.{joined_by, shelved}
use Rattle.edges.specs.Rows.{flagged_rows}
use Rattle.obeying.specs.Rules.{line}
use Rattle.reduction.specs.Effects.{script_on, scripts, copies, reader, readers}
use Rattle.successors.specs.Successors.{with_jobs, with_copies, FlagsOf}
use Rattle.successors.proofs.FlaggedSoFar.{so_far, one_more, none_more, all_flagged}

-- ---- lists

scripts_push : (p : Plan) (location : ℕ) (tree : TreeLines) (rows : List ℕ) (row : ℕ)
    → scripts p location tree (rows ++ (row ∷ [])) ≡ scripts p location tree rows ++ script_on p location (line tree row)
scripts_push p location tree [] row = append-nil (script_on p location (line tree row))
scripts_push p location tree (r ∷ rows) row =
    ap (λ js. script_on p location (line tree r) ++ js) (scripts_push p location tree rows row)
    ∙ sym (append_assoc (script_on p location (line tree r)) (scripts p location tree rows) (script_on p location (line tree row)))

copies_push : (m : Pattern) (tree : TreeLines) (rows : List ℕ) (row : ℕ) → copies m tree (rows ++ (row ∷ [])) ≡ copies m tree rows ++ copies m tree (row ∷ [])
copies_push (pattern.Number slot) tree rows row = refl
copies_push (pattern.Script slot policy) tree rows row = refl
copies_push (pattern.Pointer slot policy last) tree rows row = refl
copies_push (pattern.Tree slot policy top all) tree rows row = map-append (under tree) rows (row ∷ [])

no_copies : (m : Pattern) (tree : TreeLines) → copies m tree [] ≡ []
no_copies (pattern.Number slot) tree = refl
no_copies (pattern.Script slot policy) tree = refl
no_copies (pattern.Pointer slot policy last) tree = refl
no_copies (pattern.Tree slot policy top all) tree = refl

readers_push : (r : RunningRow) (next : ℕ) (m : Pattern) (filler : ℕ) (tree : TreeLines) (number : ℕ) (rows : List ℕ) (row : ℕ)
    → readers r next m filler tree number (rows ++ (row ∷ [])) ≡ readers r next m filler tree number rows ++ (reader r next m filler tree (number + length rows) row ∷ [])
readers_push r next m filler tree number [] row =
    let e : number ≡ number + 0 = omega arith in
    ap (λ (n : ℕ). reader r next m filler tree n row ∷ []) e
readers_push r next m filler tree number (x ∷ rows) row =
    let e : number + 1 + length rows ≡ number + length (x ∷ rows) = omega arith in
    ap (λ js. reader r next m filler tree number x ∷ js)
    (readers_push r next m filler tree (number + 1) rows row ∙ ap (λ (n : ℕ). readers r next m filler tree (number + 1) rows ++ (reader r next m filler tree n row ∷ [])) e)

-- ---- scratch

pub none_joined : (s : Scratch) (a : Aftermath) → s ≡ scratch_of a → s ≡ scratch_of (with_jobs a [])
unfolding with_jobs
none_joined s a e = e ∙ ap (λ js. scratch_of (record { running = js; shelf = a.shelf; tree = a.tree })) (sym (append-nil a.running))

pub nothing_more : (s : Scratch) (a : Aftermath) → s ≡ scratch_of a → s ≡ scratch_of (with_copies a [] [])
unfolding with_jobs with_copies
nothing_more s a e =
    none_joined s a e ∙ ap (λ trees. scratch_of (record { running = a.running ++ []; shelf = trees; tree = a.tree })) (sym (append-nil a.shelf))

-- one tree more
pub one_copy : (s : Scratch) (a : Aftermath) (tree : TreeLines) → s ≡ scratch_of (record { running = a.running; shelf = a.shelf ++ (tree ∷ []); tree = a.tree })
    → s ≡ scratch_of (with_copies a [] (tree ∷ []))
unfolding with_copies
one_copy s a tree e = e ∙ ap (λ js. scratch_of (record { running = js; shelf = a.shelf ++ (tree ∷ []); tree = a.tree })) (sym (append-nil a.running))

not_tree : (m : Pattern) (tree : TreeLines) (rows : List ℕ) → ((slot policy top all : ℕ) → m ≡ pattern.Tree slot policy top all → ⊥) → copies m tree rows ≡ []
not_tree (pattern.Number slot) tree rows other = refl
not_tree (pattern.Script slot policy) tree rows other = refl
not_tree (pattern.Pointer slot policy last) tree rows other = refl
not_tree (pattern.Tree slot policy top all) tree rows other = absurd (other slot policy top all refl)

pub none_copied : (s : Scratch) (a : Aftermath) (m : Pattern) (tree : TreeLines) (row : ℕ) → ((slot policy top all : ℕ) → m ≡ pattern.Tree slot policy top all → ⊥)
    → s ≡ scratch_of a → s ≡ scratch_of (with_copies a [] (copies m tree (row ∷ [])))
none_copied s a m tree row other e = nothing_more s a e ∙ ap (λ cs. scratch_of (with_copies a [] cs)) (sym (not_tree m tree (row ∷ []) other))

pub one_copied : (s : Scratch) (a : Aftermath) (m : Pattern) (tree : TreeLines) (row slot policy top all : ℕ) (copy : TreeLines) → m ≡ pattern.Tree slot policy top all
    → copy ≡ under tree row → s ≡ scratch_of (shelved a copy) → s ≡ scratch_of (with_copies a [] (copies m tree (row ∷ [])))
one_copied s a m tree row slot policy top all copy is same e =
    one_copy s a copy e ∙ ap (λ t. scratch_of (with_copies a [] (t ∷ []))) same
    ∙ ap (λ (p : Pattern). scratch_of (with_copies a [] (copies p tree (row ∷ [])))) (sym is)

-- jobs behind jobs
pub jobs_twice : (s : Scratch) (a : Aftermath) (xs ys zs : List RunningRow) → zs ≡ xs ++ ys → s ≡ scratch_of (with_jobs (with_jobs a xs) ys) → s ≡ scratch_of (with_jobs a zs)
unfolding with_jobs
jobs_twice s a xs ys zs whole e =
    e ∙ ap (λ js. scratch_of (record { running = js; shelf = a.shelf; tree = a.tree })) (append_assoc a.running xs ys ∙ ap (λ js. a.running ++ js) (sym whole))

-- jobs and copies behind jobs and copies
pub copies_twice : (s : Scratch) (a : Aftermath) (xs ys zs : List RunningRow) (ts us cs : List TreeLines) → zs ≡ xs ++ ys → cs ≡ ts ++ us
    → s ≡ scratch_of (with_copies (with_copies a xs ts) ys us) → s ≡ scratch_of (with_copies a zs cs)
unfolding with_copies
copies_twice s a xs ys zs ts us cs whole all e =
    let jobs : (a.running ++ xs) ++ ys ≡ a.running ++ zs = append_assoc a.running xs ys ∙ ap (λ js. a.running ++ js) (sym whole) in
    let trees : (a.shelf ++ ts) ++ us ≡ a.shelf ++ cs = append_assoc a.shelf ts us ∙ ap (λ vs. a.shelf ++ vs) (sym all) in
    e ∙ (λ i. scratch_of (record { running = jobs i; shelf = trees i; tree = a.tree }))

pub as_joined : (s : Scratch) (a : Aftermath) (job : RunningRow) → s ≡ scratch_of (joined_by a job) → s ≡ scratch_of (with_jobs a (job ∷ []))
unfolding with_jobs
as_joined s a job e = e

-- one job, and then copies
pub job_and_copies : (s : Scratch) (a : Aftermath) (job : RunningRow) (cs : List TreeLines) → s ≡ scratch_of (with_copies (with_jobs a (job ∷ [])) [] cs)
    → s ≡ scratch_of (with_copies a (job ∷ []) cs)
unfolding with_jobs with_copies
job_and_copies s a job cs e =
    e ∙ ap (λ js. scratch_of (record { running = js; shelf = a.shelf ++ cs; tree = a.tree })) (append-nil (a.running ++ (job ∷ [])))

-- ---- scripts, as far as a pass over the lines has come

module _ (p : Plan) (location : ℕ) (tree : TreeLines) (flags : List Bool) (old : Scratch) where
  abbrev pub Started : ℕ → Scratch → Type 0
  Started i now = (a : Aftermath) → old ≡ scratch_of a → now ≡ scratch_of (with_jobs a (scripts p location tree (so_far flags i)))

  pub none_started : Started 0 old
  none_started a e = none_joined old a e

  pub one_started : (i : ℕ) (now after_it : Scratch) → i < length flags → get_or flags i false ≡ true → Started i now
      → ((a : Aftermath) → now ≡ scratch_of a → after_it ≡ scratch_of (with_jobs a (script_on p location (line tree i)))) → Started (i + 1) after_it
  one_started i now after_it h e so_far_is after a s =
      jobs_twice after_it a (scripts p location tree (so_far flags i)) (script_on p location (line tree i)) (scripts p location tree (so_far flags (i + 1)))
      (ap (scripts p location tree) (one_more flags i h e) ∙ scripts_push p location tree (so_far flags i) i)
      (after (with_jobs a (scripts p location tree (so_far flags i))) (so_far_is a s))

  pub not_started : (i : ℕ) (now : Scratch) → i < length flags → get_or flags i false ≡ false → Started i now → Started (i + 1) now
  not_started i now h e so_far_is a s = so_far_is a s ∙ ap (λ rows. scratch_of (with_jobs a (scripts p location tree rows))) (sym (none_more flags i h e))

  pub all_started : FlagsOf tree flags → (i : ℕ) → i ≡ length tree → (now : Scratch) → Started i now
      → (a : Aftermath) → old ≡ scratch_of a → now ≡ scratch_of (with_jobs a (scripts p location tree (flagged_rows flags)))
  all_started beyond i end now so_far_is a s =
      so_far_is a s ∙ ap (λ rows. scratch_of (with_jobs a (scripts p location tree rows))) (ap (so_far flags) end ∙ all_flagged tree flags beyond)

-- ---- reads, as far as a pass over the lines has come

module _ (r : RunningRow) (next : ℕ) (m : Pattern) (filler : ℕ) (tree : TreeLines) (flags : List Bool) (first : ℕ) (old : Scratch) where
  pub record ReadTo (i number : ℕ) (now : Scratch) : Type 0 where
    pub scratch : (a : Aftermath) → old ≡ scratch_of a → now ≡ scratch_of (with_copies a (readers r next m filler tree first (so_far flags i)) (copies m tree (so_far flags i)))
    pub numbered : number ≡ first + length (so_far flags i)

  pub none_read : ReadTo 0 first old
  none_read = record {
    scratch = λ a e. nothing_more old a e ∙ ap (λ cs. scratch_of (with_copies a [] cs)) (sym (no_copies m tree));
    numbered = omega arith;
  }

  pub one_read : (i number : ℕ) (now after_it : Scratch) → i < length flags → get_or flags i false ≡ true → ReadTo i number now
      → ((a : Aftermath) → now ≡ scratch_of a → after_it ≡ scratch_of (with_copies a (reader r next m filler tree number i ∷ []) (copies m tree (i ∷ []))))
      → ReadTo (i + 1) (number + 1) after_it
  one_read i number now after_it h e so_far_is after = record {
    scratch = λ a s. copies_twice after_it a (readers r next m filler tree first (so_far flags i)) (reader r next m filler tree number i ∷ [])
        (readers r next m filler tree first (so_far flags (i + 1))) (copies m tree (so_far flags i)) (copies m tree (i ∷ [])) (copies m tree (so_far flags (i + 1)))
        (ap (readers r next m filler tree first) more ∙ readers_push r next m filler tree first (so_far flags i) i
        ∙ ap (λ (n : ℕ). readers r next m filler tree first (so_far flags i) ++ (reader r next m filler tree n i ∷ [])) (sym so_far_is.numbered))
        (ap (copies m tree) more ∙ copies_push m tree (so_far flags i) i)
        (after (with_copies a (readers r next m filler tree first (so_far flags i)) (copies m tree (so_far flags i))) (so_far_is.scratch a s));
    numbered = omega (arith, so_far_is.numbered, ap length more, length-append (so_far flags i) (i ∷ []));
  }
    where
      more : so_far flags (i + 1) ≡ so_far flags i ++ (i ∷ [])
      more = one_more flags i h e

  pub not_read : (i number : ℕ) (now : Scratch) → i < length flags → get_or flags i false ≡ false → ReadTo i number now → ReadTo (i + 1) number now
  not_read i number now h e so_far_is = record {
    scratch = λ a s. so_far_is.scratch a s ∙ ap (λ rows. scratch_of (with_copies a (readers r next m filler tree first rows) (copies m tree rows))) (sym (none_more flags i h e));
    numbered = so_far_is.numbered ∙ ap (λ rows. first + length rows) (sym (none_more flags i h e));
  }

  pub all_read : FlagsOf tree flags → (i : ℕ) → i ≡ length tree → (number : ℕ) (now : Scratch) → ReadTo i number now
      → (a : Aftermath) → old ≡ scratch_of a
      → now ≡ scratch_of (with_copies a (readers r next m filler tree first (flagged_rows flags)) (copies m tree (flagged_rows flags)))
  all_read beyond i end number now so_far_is a s =
      so_far_is.scratch a s ∙ ap (λ rows. scratch_of (with_copies a (readers r next m filler tree first rows) (copies m tree rows))) (ap (so_far flags) end ∙ all_flagged tree flags beyond)
