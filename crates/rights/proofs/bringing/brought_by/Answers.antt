use Rattle.std.proofs.Common.{◌≡◌, ℕ, get_or, sym, ap, ◌∙◌}
use lib.Bits.{bit_or}
use Rattle.order.specs.RoleSets.{has}
use Rattle.rights.specs.Bringing.{table}
use Rattle.rights.specs.Parts.{brought-none, brought-with, brought-without}
use Rattle.rights.proofs.bringing.brought_by.Goals as goal
use Rattle.rights.proofs.bringing.brought_by.Goals.{then-has_role, else-has_role}

pub loop-right-init : goal.loop-right-init
loop-right-init c = sym (brought-none _)

pub loop-right-preserved : goal.loop-right-preserved
loop-right-preserved c =
    let right = c.loop-right.right in
    let code = c.args.code in
    let asked : has c.args.code c.loop-right.right ≡ c.has_role.result = rw (← c.from.ensures) (sym c.has_role.ensures.answer) in
    elim c.if-has_role.branch [
      | then-has_role w ↦
          w.all-is ∙ ap (λ (n : ℕ). bit_or n (get_or table c.loop-right.right 0)) c.loop-right.invariant
          ∙ sym (brought-with code right (asked ∙ w.if-has_role.true))
      | else-has_role w ↦
          w.all-is ∙ c.loop-right.invariant ∙ sym (brought-without code right (asked ∙ w.if-has_role.false))
    ]
