-- The job at its next command, where it goes on.
use Rattle.std.proofs.Common.{◌≡◌, ℕ, ◌<◌, Bool, eqb, List, [], ◌++◌, map, length, get_or, length-append, inl, inr, arith}
use Rattle.std.proofs.lemmas.Bool.{cond_both, eqb-false}
use Rattle.order.specs.RoleSets.{SetBelow, InUse}
use Rattle.layout.specs.declared.memory.RunningRow.{RunningRow}
use Rattle.layout.specs.Network.{TreeLines, Plan}
use Rattle.layout.specs.Zeros.{no_running, slot0}
use Rattle.pasting.specs.Words.{least_of}
use Rattle.typing.specs.Typing.{Typed}
use Rattle.matching.specs.Matching.{policy_at}
use Rattle.matching.proofs.Growing.{slots_grow}
use Rattle.breaches.specs.Words.{running_standing}
use Rattle.scan.specs.Scan.{Each}
use Rattle.standing.specs.declared.sizes.Sizes.{Sizes}
use Rattle.replacing.specs.Sound.{Sound}
use Rattle.reduction.specs.Effects.{goes_on}
use Rattle.reduction.specs.Soundness.{JobSound, EffectSound, with_shelf}
use Rattle.sustaining.proofs.Continuing.{Onward}
use Rattle.sustaining.proofs.Growing.{slot_grows}
use Rattle.sustaining.proofs.Lists.{each_none, each_more}

-- jobs that are sound once these trees are shelved behind the others
abbrev pub Successor : (ℕ → ℕ → Bool) → Sizes → Plan → List TreeLines → List TreeLines → RunningRow → Type 0
Successor below s p shelf more r = JobSound below (with_shelf s (length (shelf ++ more))) p (shelf ++ more) r

module _ (below : ℕ → ℕ → Bool) (s : Sizes) (p : Plan) (shelf more : List TreeLines) (count : s.shelf ≡ length shelf) (r : RunningRow) (j : JobSound below s p shelf r) where
  -- at any place, with any roles
  pub onward_sound : (location roles next : ℕ) → location < s.locations → InUse s.roles roles → SetBelow below (least_of p (policy_at p location)) roles → Onward s next
      → Typed below p (record { policy = policy_at p location; roles = roles; slots = map (λ x. x.pattern) r.slots }) next
      → Each (Successor below s p shelf more) no_running (goes_on (record { location = location; roles = roles; command = r.command; slots = r.slots }) next)
  onward_sound location roles next there used least onward typed =
      cond_both (eqb next 0) [] _ (Each (Successor below s p shelf more) no_running)
      (λ e. each_none (Successor below s p shelf more) no_running)
      (λ e. each_more (Successor below s p shelf more) no_running (record { location = location; roles = roles; command = next; slots = r.slots }) []
      (record {
        six = j.six;
        stands = record {
          location = there;
          roles = used;
          command = elim onward [ inl z ↦ absurd (eqb-false next 0 e z) | inr h ↦ h ];
          slots = λ k h. slot_grows s (length (shelf ++ more)) (omega (arith, length-append shelf more)) p.patterns k (get_or r.slots k slot0) (j.stands.slots k h);
        };
        typed = record { runs = record { least = least; typed = typed }; slots = slots_grow below p shelf more r.slots j.typed.slots };
      })
      (each_none (Successor below s p shelf more) no_running))

  -- where it is, with its own roles
  pub goes_on_sound : (next : ℕ) → Onward s next → Typed below p (running_standing p r) next → Each (Successor below s p shelf more) no_running (goes_on r next)
  goes_on_sound next onward typed = onward_sound r.location r.roles next j.stands.location j.stands.roles j.typed.runs.least onward typed

-- what a step brings about that shelves nothing
pub none_shelved : (below : ℕ → ℕ → Bool) (s : Sizes) (p : Plan) (policy : ℕ) (shelf : List TreeLines) (found : ℕ) (jobs : List RunningRow) (tree : TreeLines)
    → Each (Successor below s p shelf []) no_running jobs → Sound below s (least_of p policy) p.jobs policy tree
    → EffectSound below s p policy shelf (record { found = found; jobs = jobs; copies = []; tree = tree })
none_shelved below s p policy shelf found jobs tree js w = record { jobs = js; copies = λ k h. absurd (omega arith); short = λ k. omega arith; tree = w }
