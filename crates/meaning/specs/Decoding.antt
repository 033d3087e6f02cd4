-- What the numbers of a row mean. A kind uses the fields that its case holds, and the others have to be 0.
use Rattle.std.specs.Prelude.{ℕ, ◌-◌, ◌^◌, Bool, cond, ◌&&◌, Some, None, Option, ◌==◌, nat_le}
use Rattle.rows.specs.declared.row.PatternRow.{PatternRow}
use Rattle.rows.specs.declared.row.CommandRow.{CommandRow}
use Rattle.meaning.specs.declared.contents.Content.{Content}
use Rattle.meaning.specs.declared.contents.Content.TheVariants as content
use Rattle.meaning.specs.declared.patterns.Pattern.{Pattern}
use Rattle.meaning.specs.declared.patterns.Pattern.TheVariants as pattern
use Rattle.meaning.specs.declared.verbs.Operand.{Operand}
use Rattle.meaning.specs.declared.verbs.Operand.TheVariants as operand
use Rattle.meaning.specs.declared.verbs.Verb.{Verb}
use Rattle.meaning.specs.declared.verbs.Verb.TheVariants as verb

-- the value, if the test passes
abbrev pub when : {X : Type 0} → Bool → X → Option X
when test x = cond test (Some x) None

-- one after the other, up to the first that is missing
abbrev pub then_some : {X Y : Type 0} → Option X → (X → Option Y) → Option Y
then_some None f = None
then_some (Some x) f = f x

-- a content by its kind and its two values
abbrev pub content_of : ℕ → ℕ → ℕ → Option Content
content_of kind first second =
    cond (kind == 0) (when (first == 0 && second == 0) content.Tree)
    (cond (kind == 1) (when (second == 0) (content.Number first))
    (cond (kind == 2) (when (second == 0) (content.Script first))
    (cond (kind == 3) (Some (content.Pointer first second))
    (cond (kind == 4) (when (second == 0) (content.Held first))
    (cond (kind == 5) (when (second == 0) (content.Template first)) None)))))

abbrev pub pattern_of : PatternRow → Option Pattern
pattern_of p =
    cond (p.kind == 1) (when (p.policy == 0 && (p.first == 0 && p.second == 0)) (pattern.Number p.slot))
    (cond (p.kind == 2) (when (p.first == 0 && p.second == 0) (pattern.Script p.slot p.policy))
    (cond (p.kind == 3) (when (p.second == 0) (pattern.Pointer p.slot p.policy p.first))
    (cond (p.kind == 4) (Some (pattern.Tree p.slot p.policy p.first p.second)) None)))

-- ---- commands

abbrev pub operand_of : CommandRow → Option Operand
operand_of q =
    cond (q.operand_kind == 0) (Some (operand.Row q.operand))
    (cond (q.operand_kind == 1) (Some (operand.Slot q.operand)) None)

-- the first field as the number of a row or a role
abbrev pub narrow_of : CommandRow → Option ℕ
narrow_of q = when (nat_le q.first (2 ^ 32 - 1)) q.first

-- the operand, and the first field as a number
abbrev pub path_and_number : CommandRow → Option (Operand × ℕ)
path_and_number q = then_some (operand_of q) (λ path. then_some (narrow_of q) (λ n. Some (path, n)))

-- the fields behind the first are not used
abbrev pub only_first : CommandRow → Bool
only_first q = q.second == 0 && (q.third == 0 && q.fourth == 0)

abbrev pub fork_of : CommandRow → Option Verb
fork_of q = cond (q.operand_kind == 0 && q.operand == 0) (then_some (narrow_of q) (λ other. Some (verb.Fork other))) None

abbrev pub go_of : CommandRow → Option Verb
go_of q = then_some (operand_of q) (λ location. Some (verb.Go location q.first))

abbrev pub run_of : CommandRow → Option Verb
run_of q = cond (q.first == 0) (then_some (operand_of q) (λ path. Some (verb.Run path))) None

abbrev pub read_of : CommandRow → Option Verb
read_of q = then_some (operand_of q) (λ path. then_some (narrow_of q) (λ p. Some (verb.Read path p)))

abbrev pub change_of : CommandRow → Option Verb
change_of q =
    then_some (operand_of q) (λ path.
    then_some (narrow_of q) (λ p.
    then_some (content_of q.second q.third q.fourth) (λ c. Some (verb.Change path p c))))

abbrev pub enable_of : CommandRow → Option Verb
enable_of q = then_some (operand_of q) (λ path. then_some (narrow_of q) (λ role. Some (verb.Enable path role)))

abbrev pub disable_of : CommandRow → Option Verb
disable_of q = then_some (operand_of q) (λ path. then_some (narrow_of q) (λ role. Some (verb.Disable path role)))

-- a command by the number of its verb
abbrev pub verb_of : CommandRow → Option Verb
verb_of q =
    cond (q.verb == 5) (change_of q)
    (cond (only_first q)
    (cond (q.verb == 1) (fork_of q)
    (cond (q.verb == 2) (go_of q)
    (cond (q.verb == 3) (run_of q)
    (cond (q.verb == 4) (read_of q)
    (cond (q.verb == 6) (enable_of q)
    (cond (q.verb == 7) (disable_of q) None))))))
    None)
