use denote.Shadow.{shadow}
use denote.Text.{Utf8}
use Rattle.std.specs.Fmt.{IsPlainFormatter}
use Rattle.dump.proofs.Roles.{Sofar}
use Rattle.dump.proofs.field.RoleTextsDisplay.fmt.Given as goal

-- what is written, and the roles to come, are all roles
abbrev pub invariant-loop-role : goal.invariant-loop-role
invariant-loop-role g l =
    (goal.iterator-loop-role g).can_next l.role-iterator
    × (goal.iterator-loop-role g).is_finite l.role-iterator
    × shadow (Utf8 l.comma)
    × (IsPlainFormatter l.initial.f → Sofar g.W.Write.write_str_gives l.initial.f l.f l.comma l.role-iterator.left l.self.0)
