use Rattle.breaches.specs.Broken.RunningBroken.{by_running}
use Rattle.breaches.proofs.running.RunningJobsJudgeRunningRow.judge.Goals as goal

pub returns-in-Some-clause-breaks : goal.returns-in-Some-clause-breaks
returns-in-Some-clause-breaks g c = by_running c.in-Some.rule c.in-Some.ensures.breaks c.at.ensures.answer
