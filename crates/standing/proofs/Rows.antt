-- Each row's test decides its sentence.
use Rattle.std.proofs.Common.{◌≡◌, ℕ, ◌+◌, ◌-◌, ◌<◌, ◌≤◌, Bool, true, ◌&&◌, eqb, ltb, leb, ◌⊎◌, List, length, get_or, Some, None, Decides, Option, sym, ◌∙◌, subst, inl, inr, arith}
use Rattle.std.proofs.lemmas.Bool.Decides.{Decides-eqb, Decides-ltb, Decides-and, Decides-or, Decides-like}
use Rattle.std.proofs.lemmas.Bool.{cases_eq, eqb-true, eq-eqb, ne_eqb, cond-true, cond-false}
use Rattle.order.specs.RoleSets.{has, in_use_of, InUse}
use Rattle.order.proofs.Tests.{Decides-in_use_of, Decides-yes, Decides-no}
use Rattle.rows.specs.declared.row.PolicyRow.{PolicyRow}
use Rattle.rows.specs.declared.row.GrantRow.{GrantRow}
use Rattle.rows.specs.declared.row.LocationRow.{LocationRow}
use Rattle.rows.specs.declared.row.TreeLine.{TreeLine}
use Rattle.rows.specs.declared.row.PatternRow.{PatternRow}
use Rattle.rows.specs.declared.row.CommandRow.{CommandRow}
use Rattle.rows.specs.declared.row.JobRow.{JobRow}
use Rattle.layout.specs.declared.memory.Slot.{Slot}
use Rattle.layout.specs.declared.memory.RunningRow.{RunningRow}
use Rattle.layout.specs.Zeros.{pattern0, slot0}
use Rattle.meaning.specs.declared.contents.Content.{Content}
use Rattle.meaning.specs.declared.contents.Content.TheVariants as content
use Rattle.meaning.specs.declared.patterns.Pattern.{Pattern}
use Rattle.meaning.specs.declared.patterns.Pattern.TheVariants as pattern
use Rattle.meaning.specs.declared.verbs.Operand.{Operand}
use Rattle.meaning.specs.declared.verbs.Operand.TheVariants as operand
use Rattle.meaning.specs.declared.verbs.Verb.{Verb}
use Rattle.meaning.specs.declared.verbs.Verb.TheVariants as verb
use Rattle.meaning.specs.Decoding.{content_of, pattern_of, verb_of}
use Rattle.scan.specs.Scan.{first_bad, clear}
use Rattle.scan.proofs.Scan.{bad_each, each_bad}
use Rattle.scan.proofs.Tells.{Tells, Decides-clear, Decides-leb}
use Rattle.standing.specs.declared.sizes.Sizes.{Sizes}
use Rattle.standing.specs.declared.lines.Home.{Home}
use Rattle.standing.specs.declared.lines.Home.TheVariants as home
use Rattle.standing.specs.declared.lines.LineBefore.{LineBefore}
use Rattle.standing.specs.Tests.{given, policy_passes, grant_passes, location_passes, pattern_stands, pattern_passes, job_passes, follows, content_stands, belongs, content_passes, line_passes, operand_stands, verb_stands, part_stands, slot_passes, running_passes}
use Rattle.standing.specs.Words.{Means, GrantStands, PatternStands, JobStands, ContentStands, Belongs, LineStands, OperandStands, VerbStands, PartStands, SlotStands, RunningStands}
use Rattle.standing.specs.Words.SlotStands.{none, filled}

-- what is decoded
Decides-given : {X : Type 0} (o : Option X) (test : X → Bool) (P : X → Type 0) → ((x : X) → Decides (test x) (P x)) → Decides (given o test) (Means o P)
Decides-given None test P d = Decides-no (λ b. b)
Decides-given (Some x) test P d = d x

pub Decides-policy : (s : Sizes) (x : PolicyRow) → Decides (policy_passes s x) (InUse s.roles x.least)
Decides-policy s x = Decides-in_use_of s.roles x.least

direction : (n : ℕ) → Decides (leb n 1) ((n ≡ 0) ⊎ (n ≡ 1))
direction n = Decides-like (leb n 1) (λ h. elim (cases_eq n 0) [ inl e ↦ inl e | inr e ↦ inr (omega arith) ]) (λ w. low w) (Decides-leb n 1)
  where
    low : (n ≡ 0) ⊎ (n ≡ 1) → n ≤ 1
    low (inl e) = omega arith
    low (inr e) = omega arith

pub Decides-grant : (s : Sizes) (x : GrantRow) → Decides (grant_passes s x) (GrantStands s x)
Decides-grant s x =
    Decides-like (grant_passes s x)
    (λ w. record { policy = w.0.0; direction = w.0.1.0; role = w.0.1.1; holder = w.1 })
    (λ w. ((w.policy, (w.direction, w.role)), w.holder))
    (Decides-and (ltb x.policy s.policies && (leb x.direction 1 && ltb x.role s.roles)) (in_use_of s.roles x.holder)
    (Decides-and (ltb x.policy s.policies) (leb x.direction 1 && ltb x.role s.roles) (Decides-ltb x.policy s.policies)
    (Decides-and (leb x.direction 1) (ltb x.role s.roles) (direction x.direction) (Decides-ltb x.role s.roles)))
    (Decides-in_use_of s.roles x.holder))

pub Decides-location : (s : Sizes) (x : LocationRow) → Decides (location_passes s x) (x.policy < s.policies)
Decides-location s x = Decides-ltb x.policy s.policies

Decides-pattern_stands : (s : Sizes) (p : Pattern) → Decides (pattern_stands s p) (PatternStands s p)
Decides-pattern_stands s (pattern.Number slot) = Decides-ltb slot 6
Decides-pattern_stands s (pattern.Script slot policy) = Decides-and (ltb slot 6) (ltb policy s.policies) (Decides-ltb slot 6) (Decides-ltb policy s.policies)
Decides-pattern_stands s (pattern.Pointer slot policy last) =
    Decides-and (ltb slot 5 && ltb policy s.policies) (in_use_of s.roles last)
    (Decides-and (ltb slot 5) (ltb policy s.policies) (Decides-ltb slot 5) (Decides-ltb policy s.policies)) (Decides-in_use_of s.roles last)
Decides-pattern_stands s (pattern.Tree slot policy top all) =
    Decides-and (ltb slot 6 && ltb policy s.policies) (in_use_of s.roles top && in_use_of s.roles all)
    (Decides-and (ltb slot 6) (ltb policy s.policies) (Decides-ltb slot 6) (Decides-ltb policy s.policies))
    (Decides-and (in_use_of s.roles top) (in_use_of s.roles all) (Decides-in_use_of s.roles top) (Decides-in_use_of s.roles all))

pub Decides-pattern : (s : Sizes) (x : PatternRow) → Decides (pattern_passes s x) (Means (pattern_of x) (PatternStands s))
Decides-pattern s x = Decides-given (pattern_of x) (pattern_stands s) (PatternStands s) (Decides-pattern_stands s)

-- roles and a command that can be run
Decides-runs : (a n command commands roles set : ℕ)
    → Decides ((ltb a n && (ltb 0 command && leb command commands)) && in_use_of roles set) (((a < n) × ((0 < command) × (command ≤ commands))) × InUse roles set)
Decides-runs a n command commands roles set =
    Decides-and (ltb a n && (ltb 0 command && leb command commands)) (in_use_of roles set)
    (Decides-and (ltb a n) (ltb 0 command && leb command commands) (Decides-ltb a n)
    (Decides-and (ltb 0 command) (leb command commands) (Decides-ltb 0 command) (Decides-leb command commands)))
    (Decides-in_use_of roles set)

pub Decides-job : (s : Sizes) (x : JobRow) → Decides (job_passes s x) (JobStands s x)
Decides-job s x =
    Decides-like (job_passes s x) (λ w. record { policy = w.0.0; roles = w.1; command = w.0.1 }) (λ w. ((w.policy, w.command), w.roles))
    (Decides-runs x.policy s.policies x.command s.commands s.roles x.roles)

-- ---- lines

Decides-content : (s : Sizes) (c : Content) → Decides (content_stands s c) (ContentStands s c)
Decides-content s content.Tree = Decides-yes tt
Decides-content s (content.Number n) = Decides-yes tt
Decides-content s (content.Script job) = Decides-ltb job s.jobs
Decides-content s (content.Pointer path location) = Decides-and (ltb path s.paths) (ltb location s.locations) (Decides-ltb path s.paths) (Decides-ltb location s.locations)
Decides-content s (content.Held slot) = Decides-ltb slot 6
Decides-content s (content.Template template) = Decides-ltb template s.templates

Decides-belongs : (h : Home) (c : Content) → Decides (belongs h c) (Belongs h c)
Decides-belongs h content.Tree = Decides-yes tt
Decides-belongs h (content.Number n) = Decides-yes tt
Decides-belongs h (content.Script job) = Decides-yes tt
Decides-belongs h (content.Pointer path location) = Decides-yes tt
Decides-belongs home.Tree (content.Held slot) = Decides-no (λ b. b)
Decides-belongs home.Template (content.Held slot) = Decides-yes tt
Decides-belongs h (content.Template template) = Decides-no (λ b. b)

-- a line may lie behind the one before
abbrev pub Follows : LineBefore → ℕ → Type 0
Follows b depth = (depth ≤ b.depth) ⊎ ((b.branch ≡ true) × (depth - 1 ≡ b.depth))

pub Decides-line : (h : Home) (s : Sizes) (b : LineBefore) (x : TreeLine) → Decides (line_passes h s b x) (Follows b x.depth × LineStands h s x)
Decides-line h s b x =
    Decides-like (line_passes h s b x)
    (λ w. (w.0.1.1, record { low = w.0.0; high = w.0.1.0; set = w.1.0; top = w.1.1.0; content = w.1.1.1 }))
    (λ w. ((w.1.low, (w.1.high, w.0)), (w.1.set, (w.1.top, w.1.content))))
    (Decides-and (leb 1 x.depth && (leb x.depth 12 && follows b x.depth)) (in_use_of s.roles x.set && (has x.set s.top && content_passes h s x))
    (Decides-and (leb 1 x.depth) (leb x.depth 12 && follows b x.depth) (Decides-leb 1 x.depth)
    (Decides-and (leb x.depth 12) (follows b x.depth) (Decides-leb x.depth 12)
    (Decides-or (leb x.depth b.depth) (b.branch && eqb (x.depth - 1) b.depth) (Decides-leb x.depth b.depth)
    (Decides-and b.branch (eqb (x.depth - 1) b.depth) (λ e. e, λ e. e) (Decides-eqb (x.depth - 1) b.depth)))))
    (Decides-and (in_use_of s.roles x.set) (has x.set s.top && content_passes h s x) (Decides-in_use_of s.roles x.set)
    (Decides-and (has x.set s.top) (content_passes h s x) (λ e. e, λ e. e)
    (Decides-given (content_of x.content x.first x.second) (λ c. belongs h c && content_stands s c) (λ c. Belongs h c × ContentStands s c)
    (λ c. Decides-and (belongs h c) (content_stands s c) (Decides-belongs h c) (Decides-content s c))))))

-- ---- commands

Decides-operand : (n : ℕ) (o : Operand) → Decides (operand_stands n o) (OperandStands n o)
Decides-operand n (operand.Row row) = Decides-ltb row n
Decides-operand n (operand.Slot slot) = Decides-ltb slot 6

Decides-verb_stands : (s : Sizes) (v : Verb) → Decides (verb_stands s v) (VerbStands s v)
Decides-verb_stands s (verb.Fork other) = Decides-yes tt
Decides-verb_stands s (verb.Go location roles) = Decides-and (operand_stands s.locations location) (in_use_of s.roles roles) (Decides-operand s.locations location) (Decides-in_use_of s.roles roles)
Decides-verb_stands s (verb.Run path) = Decides-operand s.paths path
Decides-verb_stands s (verb.Read path p) = Decides-and (operand_stands s.paths path) (ltb p s.patterns) (Decides-operand s.paths path) (Decides-ltb p s.patterns)
Decides-verb_stands s (verb.Change path p c) =
    Decides-and (operand_stands s.paths path) (ltb p s.patterns && content_stands s c) (Decides-operand s.paths path)
    (Decides-and (ltb p s.patterns) (content_stands s c) (Decides-ltb p s.patterns) (Decides-content s c))
Decides-verb_stands s (verb.Enable path role) = Decides-and (operand_stands s.paths path) (ltb role s.roles) (Decides-operand s.paths path) (Decides-ltb role s.roles)
Decides-verb_stands s (verb.Disable path role) = Decides-and (operand_stands s.paths path) (ltb role s.roles) (Decides-operand s.paths path) (Decides-ltb role s.roles)

pub Decides-verb : (s : Sizes) (q : CommandRow) → Decides (given (verb_of q) (verb_stands s)) (Means (verb_of q) (VerbStands s))
Decides-verb s q = Decides-given (verb_of q) (verb_stands s) (VerbStands s) (Decides-verb_stands s)

-- ---- running jobs

Decides-part : (s : Sizes) (p : Pattern) (slot value : ℕ) → Decides (part_stands s p slot value) (PartStands s p slot value)
Decides-part s (pattern.Number own) slot value = Decides-eqb slot own
Decides-part s (pattern.Script own policy) slot value = Decides-and (eqb slot own) (ltb value s.jobs) (Decides-eqb slot own) (Decides-ltb value s.jobs)
Decides-part s (pattern.Pointer own policy last) slot value =
    Decides-or (eqb slot own && ltb value s.locations) (eqb slot (own + 1) && ltb value s.paths)
    (Decides-and (eqb slot own) (ltb value s.locations) (Decides-eqb slot own) (Decides-ltb value s.locations))
    (Decides-and (eqb slot (own + 1)) (ltb value s.paths) (Decides-eqb slot (own + 1)) (Decides-ltb value s.paths))
Decides-part s (pattern.Tree own policy top all) slot value = Decides-and (eqb slot own) (ltb value s.shelf) (Decides-eqb slot own) (Decides-ltb value s.shelf)

module _ (s : Sizes) (patterns : List PatternRow) (few : s.patterns ≤ 64) where
  Decides-filled : (slot : ℕ) (x : Slot)
      → Decides ((leb x.pattern s.patterns && leb x.pattern 64) && given (pattern_of (get_or patterns (x.pattern - 1) pattern0)) (λ p. part_stands s p slot x.value))
      (((x.pattern ≤ s.patterns) × (x.pattern ≤ 64)) × Means (pattern_of (get_or patterns (x.pattern - 1) pattern0)) (λ p. PartStands s p slot x.value))
  Decides-filled slot x =
      Decides-and (leb x.pattern s.patterns && leb x.pattern 64) (given (pattern_of (get_or patterns (x.pattern - 1) pattern0)) (λ p. part_stands s p slot x.value))
      (Decides-and (leb x.pattern s.patterns) (leb x.pattern 64) (Decides-leb x.pattern s.patterns) (Decides-leb x.pattern 64))
      (Decides-given (pattern_of (get_or patterns (x.pattern - 1) pattern0)) (λ p. part_stands s p slot x.value) (λ p. PartStands s p slot x.value) (λ p. Decides-part s p slot x.value))

  abbrev test : ℕ → Slot → Bool
  test slot x = (leb x.pattern s.patterns && leb x.pattern 64) && given (pattern_of (get_or patterns (x.pattern - 1) pattern0)) (λ p. part_stands s p slot x.value)

  Decides-slot : (slot : ℕ) (x : Slot) → Decides (slot_passes s patterns slot x) (SlotStands s patterns slot x)
  Decides-slot slot x = elim (cases_eq x.pattern 0) [
    | inl z ↦
        let c = cond-true (eqb x.pattern 0) (eqb x.value 0) (test slot x) (eq-eqb x.pattern 0 z) in
        (λ e. none z (eqb-true x.value 0 (sym c ∙ e)), λ w. c ∙ eq-eqb x.value 0 (value z w))
    | inr z ↦
        let c = cond-false (eqb x.pattern 0) (eqb x.value 0) (test slot x) (ne_eqb x.pattern 0 z) in
        let d = Decides-filled slot x in
        (λ e. let w = d.0 (sym c ∙ e) in filled (omega arith) w.0.0 w.1, λ w. c ∙ d.1 (parts z w))
  ]
    where
      value : x.pattern ≡ 0 → SlotStands s patterns slot x → x.value ≡ 0
      value z (none a b) = b
      value z (filled a b c) = absurd (omega arith)

      parts : (x.pattern ≡ 0 → ⊥) → SlotStands s patterns slot x
          → ((x.pattern ≤ s.patterns) × (x.pattern ≤ 64)) × Means (pattern_of (get_or patterns (x.pattern - 1) pattern0)) (λ p. PartStands s p slot x.value)
      parts z (none a b) = absurd (z a)
      parts z (filled a b c) = ((b, omega arith), c)

  slots_tell : (xs : List Slot) → Tells (first_bad (λ i x. slot_passes s patterns i x) 0 xs) ((k : ℕ) → k < length xs → SlotStands s patterns k (get_or xs k slot0))
  slots_tell xs = (
    λ e k h. (Decides-slot k (get_or xs k slot0)).0 (subst (λ (n : ℕ). slot_passes s patterns n (get_or xs k slot0) ≡ true) (plus k) (bad_each (λ i x. slot_passes s patterns i x) 0 xs slot0 e k h)),
    λ w. each_bad (λ i x. slot_passes s patterns i x) 0 xs slot0 (λ k h. subst (λ (n : ℕ). slot_passes s patterns n (get_or xs k slot0) ≡ true) (sym (plus k)) ((Decides-slot k (get_or xs k slot0)).1 (w k h))),
  )
    where
      plus : (k : ℕ) → 0 + k ≡ k
      plus k = omega arith

  pub Decides-running : (x : RunningRow) → Decides (running_passes s patterns x) (RunningStands s patterns x)
  Decides-running x =
      Decides-like (running_passes s patterns x)
      (λ w. record { location = w.0.0.0; roles = w.0.1; command = w.0.0.1; slots = w.1 })
      (λ w. (((w.location, w.command), w.roles), w.slots))
      (Decides-and ((ltb x.location s.locations && (ltb 0 x.command && leb x.command s.commands)) && in_use_of s.roles x.roles) (clear (first_bad (λ i y. slot_passes s patterns i y) 0 x.slots))
      (Decides-runs x.location s.locations x.command s.commands s.roles x.roles)
      (Decides-clear (first_bad (λ i y. slot_passes s patterns i y) 0 x.slots) (slots_tell x.slots)))
