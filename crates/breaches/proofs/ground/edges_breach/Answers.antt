use Rattle.std.proofs.Common.{ℕ, ◌∙◌}
use Rattle.rows.specs.declared.row.TreeLine.{TreeLine}
use Rattle.layout.specs.Held.{in_use}
use Rattle.layout.specs.Network.{TreeLines, network}
use Rattle.layout.specs.Zeros.{no_tree}
use Rattle.breaches.specs.declared.breach.RuleBreach.{RuleBreach}
use Rattle.breaches.specs.Broken.{TreeBroken}
use Rattle.breaches.specs.Told.{edges_before, tree_told}
use Rattle.breaches.specs.Words.{TreeAtObeys}
use Rattle.breaches.proofs.Rowwise.{each_got, got_each, some_got, told_read, each_read, read_each, some_read}
use Rattle.breaches.proofs.ground.edges_breach.Goals as goal

pub returns-clause-answer : goal.returns-clause-answer
returns-clause-answer g c =
    c.first_told.ensures.answer
    ∙ told_read (in_use {X = TreeLine} {n = 128})
    (λ l tree. tree_told (g.O.Order.below c.args.order.now) (network c.args.tables.now).plan (edges_before (network c.args.tables.now).trees l) l tree) 0 c.args.tables.now.trees

pub returns-clause-clear : goal.returns-clause-clear
returns-clause-clear g c e =
    let P : ℕ → TreeLines → Type 0 = λ l tree. TreeAtObeys (g.O.Order.below c.args.order.now) (network c.args.tables.now).plan l tree in
    each_read (in_use {X = TreeLine} {n = 128}) c.args.tables.now.trees no_tree P
    (each_got (λ l t. P l (in_use t)) c.args.tables.now.trees no_tree (c.first_told.ensures.clear e))

pub returns-clause-keeps : goal.returns-clause-keeps
returns-clause-keeps g c w =
    let P : ℕ → TreeLines → Type 0 = λ l tree. TreeAtObeys (g.O.Order.below c.args.order.now) (network c.args.tables.now).plan l tree in
    c.first_told.ensures.keeps (got_each (λ l t. P l (in_use t)) c.args.tables.now.trees no_tree (read_each (in_use {X = TreeLine} {n = 128}) c.args.tables.now.trees no_tree P w))

pub returns-clause-breaks : goal.returns-clause-breaks
returns-clause-breaks g c =
    let P : ℕ → TreeLines → RuleBreach → Type 0 =
    λ l tree b. TreeBroken (g.O.Order.below c.args.order.now) (network c.args.tables.now).plan (edges_before (network c.args.tables.now).trees l) l tree b in
    some_read (in_use {X = TreeLine} {n = 128}) c.args.tables.now.trees no_tree P c.first_told.result
    (some_got (λ l t b. P l (in_use t) b) c.args.tables.now.trees no_tree c.first_told.result c.first_told.ensures.breaks)
