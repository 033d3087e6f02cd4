-- What a job breaks, the network breaks.
use Rattle.std.proofs.Common.{ℕ, ◌<◌, Bool, length, get_or, Some, None, Option, IfSome}
use Rattle.layout.specs.Network.{Network}
use Rattle.layout.specs.Zeros.{job0}
use Rattle.breaches.specs.declared.breach.RuleBreach.{RuleBreach}
use Rattle.breaches.specs.Broken.{JobBroken, RuleBroken}
use Rattle.breaches.specs.Broken.RuleBroken.{job}

pub by_job : (below : ℕ → ℕ → Bool) (top : ℕ) (n : Network) (r : Option RuleBreach)
    → IfSome r (λ b. (k : ℕ) × (k < length n.plan.jobs) × JobBroken below n.plan k (get_or n.plan.jobs k job0) b) → IfSome r (RuleBroken below top n)
by_job below top n None w = tt
by_job below top n (Some b) w = job w.0 w.1 w.2
