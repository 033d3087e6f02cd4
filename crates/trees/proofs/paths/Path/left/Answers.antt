use Rattle.std.proofs.Common.{◌≡◌, ℕ, sym, subst, arith}
use Rattle.order.proofs.Bits.{has-below}
use Rattle.edges.specs.Disabling.{stays}
use Rattle.edges.proofs.KeptRoles.{Gathered, gathered_none, gathered_turn, gathered_all}
use Rattle.trees.proofs.paths.Path.left.Goals as goal

pub loop-role-init : goal.loop-role-init
loop-role-init g c =
    let p = stays (g.O.Order.below c.args.self.now.order.now) c.args.disabled c.args.above in
    let same : c.into_iter-role-iterator.result.left ≡ c.args.set = cc in
    (tt, tt, subst (λ (n : ℕ). Gathered p c.args.set n 0) (sym same) (gathered_none p c.args.set))

pub with_staying-left-requires : goal.with_staying-left-requires
with_staying-left-requires g c =
    has-below 64 c.args.set c.in-Some.role (omega arith) (c.loop-role.invariant.2.part c.in-Some.role c.in-Some.ensures.steps.member)

pub loop-role-preserved : goal.loop-role-preserved
loop-role-preserved g c =
    let p = stays (g.O.Order.below c.args.self.now.order.now) c.args.disabled c.args.above in (
      tt,
      tt,
      gathered_turn p c.args.set c.loop-role.role-iterator.left c.next.new.self.left c.in-Some.role c.loop-role.left c.in-Some.ensures.steps
          c.loop-role.invariant.2 c.with_staying-left.result c.with_staying-left.ensures.answer,
    )

pub returns : goal.returns
returns g c =
    let p = stays (g.O.Order.below c.args.self.now.order.now) c.args.disabled c.args.above in
    record {
      answer = gathered_all p c.args.set c.loop-role.left (omega arith)
          (subst (λ (n : ℕ). Gathered p c.args.set n c.loop-role.left) c.in-None.ensures.steps.0 c.loop-role.invariant.2);
    }
