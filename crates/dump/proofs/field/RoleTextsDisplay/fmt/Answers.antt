use Rattle.std.proofs.Common.{◌^◌, ◌<◌, [], ◌∷◌, refl, ap, ◌∙◌, arith}
use lib.Utf8.{encode}
use Rattle.order.specs.declared.role_sets.Roles.{Roles}
use Rattle.dump.proofs.Roles.{none_yet, one_more, all_written}
use Rattle.dump.proofs.field.RoleTextsDisplay.fmt.Goals as goal

pub loop-role-init : goal.loop-role-init
loop-role-init g c =
    let all = ap (λ (s : Roles). s.left) c.into_iter-role-iterator.ensures.into_iter_gives ∙ c.roles_of-role-items.ensures.answer in
    let fits : c.args.self.now.0 < 2 ^ 64 = omega arith in
    (tt, tt, ([], (refl, refl)), none_yet _ _ _ _ fits all)

pub loop-role-preserved : goal.loop-role-preserved
unfolding encode
loop-role-preserved g c = (
  tt,
  tt,
  (44 ∷ [], (refl, refl)),
  λ plain. let old = c.loop-role.invariant.3 plain in one_more _ _ old _ _ _ c.in-Some.ensures.steps (c.in_ok-write.ensures.writes old.plain refl),
)

pub returns-clause-writes : goal.returns-clause-writes
returns-clause-writes g c = λ plain ok. all_written _ _ (c.loop-role.invariant.3 plain) c.in-None.ensures.steps.0
