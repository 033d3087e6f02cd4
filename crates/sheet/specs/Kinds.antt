-- The nine kinds of lines: their numbers, and the widths of their fields.
use Rattle.std.specs.Prelude.{◌≡◌, ℕ, cond, List, [], ◌∷◌, ◌++◌, Some, None, Ok, Err, Option, Result, ◌==◌, codes}
use Rattle.std.specs.Fmt.{decimal}
use Rattle.number.specs.declared.reading.Width.{Width}
use Rattle.number.specs.declared.reading.Width.TheVariants.{Narrow, Wide}
use Rattle.sheet.specs.declared.kinds.LineKind.{LineKind}
use Rattle.sheet.specs.declared.kinds.UnknownKind.{UnknownKind}
use Rattle.sheet.specs.declared.kinds.LineKind.TheVariants.{Policy, Grant, Location, PathStep, Edge, TemplateLine, Pattern, Command, Job}

-- the number of a kind
abbrev pub code_of : LineKind → ℕ
code_of Policy = 1
code_of Grant = 2
code_of Location = 3
code_of PathStep = 4
code_of Edge = 5
code_of TemplateLine = 6
code_of Pattern = 7
code_of Command = 8
code_of Job = 9

-- the kind of a number, if it is one
abbrev pub kind_of : ℕ → Option LineKind
kind_of n =
    cond (n == 1) (Some Policy)
    (cond (n == 2) (Some Grant)
    (cond (n == 3) (Some Location)
    (cond (n == 4) (Some PathStep)
    (cond (n == 5) (Some Edge)
    (cond (n == 6) (Some TemplateLine)
    (cond (n == 7) (Some Pattern)
    (cond (n == 8) (Some Command)
    (cond (n == 9) (Some Job) None))))))))

-- the answer is the kind of the number, or the number itself where no kind has it
abbrev pub TellsKind : ℕ → Result LineKind UnknownKind → Type 0
TellsKind n (Ok kind) = kind_of n ≡ Some kind
TellsKind n (Err unknown) = (kind_of n ≡ None) × (unknown.0 ≡ n)

-- a number that no kind has, in words
abbrev pub unknown_words : UnknownKind → List ℕ
unknown_words unknown = codes "no kind of line has number " ++ decimal unknown.0

-- the fields of a line, in their order: role sets and a command's `first` are wide, all others narrow
abbrev pub widths : LineKind → List Width
-- least set
widths Policy = Wide ∷ []
-- policy, direction, holder set, role
widths Grant = Narrow ∷ Narrow ∷ Wide ∷ Narrow ∷ []
-- policy
widths Location = Narrow ∷ []
-- path, label, set
widths PathStep = Narrow ∷ Narrow ∷ Wide ∷ []
-- location, depth, label, set, content kind, first, second
widths Edge = Narrow ∷ Narrow ∷ Narrow ∷ Wide ∷ Narrow ∷ Narrow ∷ Narrow ∷ []
-- template, depth, label, set, content kind, first, second
widths TemplateLine = Narrow ∷ Narrow ∷ Narrow ∷ Wide ∷ Narrow ∷ Narrow ∷ Narrow ∷ []
-- pattern kind, slot, policy, first set, second set
widths Pattern = Narrow ∷ Narrow ∷ Narrow ∷ Wide ∷ Wide ∷ []
-- verb, next, operand kind, operand, first, second, third, fourth
widths Command = Narrow ∷ Narrow ∷ Narrow ∷ Narrow ∷ Wide ∷ Narrow ∷ Narrow ∷ Narrow ∷ []
-- policy, roles, command
widths Job = Narrow ∷ Wide ∷ Narrow ∷ []
