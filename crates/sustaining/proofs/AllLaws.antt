-- The laws of steps as one record.
use Rattle.reduction.specs.Values.{job_at}
use Rattle.sustaining.specs.StepLaws.{StepLaws}
use Rattle.sustaining.proofs.Openness.{touched_open}
use Rattle.sustaining.proofs.Readiness.{can_step}
use Rattle.sustaining.proofs.Steps.{step_sound}

pub step_laws : StepLaws
step_laws = record {
  sound = λ below s n w place h v m e q. step_sound below s n w (job_at n place) (w.running place h) v m e q;
  ready = λ below s n w place h. can_step below s n.plan n.shelf (job_at n place) (w.running place h);
  opens = λ below s n w place h v e i l t. touched_open below s n w (job_at n place) (w.running place h) v e i l t;
}
