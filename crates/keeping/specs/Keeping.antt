-- Sound tables hold sound networks, and the calls that write keep them so.
use Rattle.std.specs.Prelude.{◌≡◌, ℕ, ◌<◌, Bool, length, None, Ok}
use Rattle.order.specs.Laws.{Lawful}
use Rattle.layout.specs.declared.memory.Tables.{Tables}
use Rattle.layout.specs.Network.{Network, network, Holds, Sized}
use Rattle.matching.specs.Matching.{policy_at}
use Rattle.standing.specs.Sizes.{sizes_of}
use Rattle.shape.specs.declared.place.Stage.TheVariants.{Live}
use Rattle.shape.specs.Place.{first_place}
use Rattle.rules.specs.Admission.{Admissible, Sound, live_fault}
use Rattle.rooms.specs.Rooms.{lacking, left_in}
use Rattle.machine.specs.Calls.{posted, after_post, after_recall}
use Rattle.reduction.specs.Effects.{Effect, aftermath}
use Rattle.reduction.specs.Values.{job_at}
use Rattle.reduction.specs.Soundness.{NetworkSound, EffectSound}

-- the tables hold the network, and it is sound
pub record HoldsSound (count top : ℕ) (below : ℕ → ℕ → Bool) (t : Tables) (n : Network) : Type 0 where
  pub holds : Holds t n
  pub sound : NetworkSound below (sizes_of count top t) n

-- the network after a step of the job at this place
abbrev pub after_step : Network → ℕ → Effect → Network
after_step n place e = left_in n (job_at n place).location (aftermath n place e)

pub record KeepingLaws : Type 0 where
  -- sound tables, whose arrays are as long as their types say, hold a sound network
  pub held : (count top : ℕ) (below : ℕ → ℕ → Bool) → Lawful count top below → (t : Tables) → Sized t → Sound count top below t
      → HoldsSound count top below t (network t)
  -- tables that hold a sound network are sound
  pub sound : (count top : ℕ) (below : ℕ → ℕ → Bool) (t : Tables) (n : Network) → HoldsSound count top below t n → Sized t × Sound count top below t
  -- the network is the one that is read off them
  pub same : (count top : ℕ) (below : ℕ → ℕ → Bool) (t : Tables) (n : Network) → HoldsSound count top below t n → network t ≡ n
  pub read : (count top : ℕ) (below : ℕ → ℕ → Bool) (t : Tables) (n : Network) → HoldsSound count top below t n → HoldsSound count top below t (network t)
  -- no call tells that they are out of shape, and an audit tells nothing of them
  pub shape : (count top : ℕ) (below : ℕ → ℕ → Bool) (t : Tables) (n : Network) → HoldsSound count top below t n → first_place count top t Live ≡ None
  pub audit : (count top : ℕ) (below : ℕ → ℕ → Bool) (t : Tables) (n : Network) → HoldsSound count top below t n → live_fault count top below t ≡ None
  -- the tables of a draft that is admitted hold a sound network
  pub admitted : (count top : ℕ) (below : ℕ → ℕ → Bool) → Lawful count top below → (t : Tables) → Sized t → Admissible count top below t
      → HoldsSound count top below t (network t)
  -- so do the tables after a post, a recall and a granted step
  pub post : (count top : ℕ) (below : ℕ → ℕ → Bool) (t u : Tables) (n : Network) → HoldsSound count top below t n
      → (location job position : ℕ) → posted n location job ≡ Ok position → Holds u (after_post n location job) → HoldsSound count top below u (after_post n location job)
  pub recall : (count top : ℕ) (below : ℕ → ℕ → Bool) (t u : Tables) (n : Network) → HoldsSound count top below t n
      → (position : ℕ) → Holds u (after_recall n position) → HoldsSound count top below u (after_recall n position)
  pub step : (count top : ℕ) (below : ℕ → ℕ → Bool) (t u : Tables) (n : Network) → HoldsSound count top below t n
      → (place : ℕ) → place < length n.running → (e : Effect)
      → EffectSound below (sizes_of count top t) n.plan (policy_at n.plan (job_at n place).location) n.shelf e
      → lacking (aftermath n place e) ≡ None → Holds u (after_step n place e) → HoldsSound count top below u (after_step n place e)
