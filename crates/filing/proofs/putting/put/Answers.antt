use Rattle.std.proofs.Common.{◌<◌, arith}
use Rattle.layout.specs.Network.{network}
use Rattle.filing.proofs.Puts.{puts, within, push_policies, push_grants, push_locations, push_steps, push_tree, push_templates, push_patterns, push_commands, push_jobs}
use Rattle.filing.proofs.putting.put.Goals as goal

pub returns-in-Policy : goal.returns-in-Policy
returns-in-Policy c =
    let t = c.args.tables.now in
    puts _ _ _ _ _ c.in-Policy.is (push_policies t (network t) c.in-Policy.row c.push.new.self _ c.requires.holds c.push.ensures.answer c.push.ensures.after)

pub returns-in-Grant : goal.returns-in-Grant
returns-in-Grant c =
    let t = c.args.tables.now in
    puts _ _ _ _ _ c.in-Grant.is (push_grants t (network t) c.in-Grant.row c.push-in-Grant.new.self _ c.requires.holds c.push-in-Grant.ensures.answer c.push-in-Grant.ensures.after)

pub returns-in-Location : goal.returns-in-Location
returns-in-Location c =
    let t = c.args.tables.now in
    puts _ _ _ _ _ c.in-Location.is (push_locations t (network t) c.in-Location.row c.push-in-Location.new.self _ c.requires.holds c.push-in-Location.ensures.answer c.push-in-Location.ensures.after)

pub returns-in-PathStep : goal.returns-in-PathStep
returns-in-PathStep c =
    let t = c.args.tables.now in
    puts _ _ _ _ _ c.in-PathStep.is (within _ _ _ _ _ c.in-PathStep.row.path 64 c.if-row-lt-PATHS.true (push_steps t (network t) c.in-PathStep.row c.push-in-PathStep.new.self _ c.requires.holds c.push-in-PathStep.ensures.answer c.push-in-PathStep.ensures.after))

pub returns-in-Edge : goal.returns-in-Edge
returns-in-Edge c =
    let t = c.args.tables.now in
    let less : c.in-Edge.row.location < 16 = omega (arith, c.requires.stands c.in-Edge.row c.in-Edge.is, c.requires.holds.fits.locations) in
    puts _ _ _ _ _ c.in-Edge.is (push_tree c.in-Edge.row.location less t (network t) c.in-Edge.row.line c.push-in-Edge.new.self _ c.requires.holds c.push-in-Edge.ensures.answer c.push-in-Edge.ensures.after)

pub returns-in-TemplateLine : goal.returns-in-TemplateLine
returns-in-TemplateLine c =
    let t = c.args.tables.now in
    puts _ _ _ _ _ c.in-TemplateLine.is (within _ _ _ _ _ c.in-TemplateLine.row.template 32 c.if-row-lt-TEMPLATES.true (push_templates t (network t) c.in-TemplateLine.row c.push-in-TemplateLine.new.self _ c.requires.holds c.push-in-TemplateLine.ensures.answer c.push-in-TemplateLine.ensures.after))

pub returns-in-Pattern : goal.returns-in-Pattern
returns-in-Pattern c =
    let t = c.args.tables.now in
    puts _ _ _ _ _ c.in-Pattern.is (push_patterns t (network t) c.in-Pattern.row c.push-in-Pattern.new.self _ c.requires.holds c.push-in-Pattern.ensures.answer c.push-in-Pattern.ensures.after)

pub returns-in-Command : goal.returns-in-Command
returns-in-Command c =
    let t = c.args.tables.now in
    puts _ _ _ _ _ c.in-Command.is (push_commands t (network t) c.in-Command.row c.push-in-Command.new.self _ c.requires.holds c.push-in-Command.ensures.answer c.push-in-Command.ensures.after)

pub returns-in-Job : goal.returns-in-Job
returns-in-Job c =
    let t = c.args.tables.now in
    puts _ _ _ _ _ c.in-Job.is (push_jobs t (network t) c.in-Job.row c.push-in-Job.new.self _ c.requires.holds c.push-in-Job.ensures.answer c.push-in-Job.ensures.after)
