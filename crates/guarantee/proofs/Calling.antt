-- Each call keeps the tables holding a sound network.
use Rattle.std.proofs.Common.{◌≡◌, ℕ, Bool, List, [], ◌∷◌, Ok, Err, Option, Result, sym, ap, ◌∙◌, subst}
use Rattle.layout.specs.declared.memory.Tables.{Tables}
use Rattle.layout.specs.Network.{Network, network, Holds}
use Rattle.standing.specs.Sizes.{sizes_of}
use Rattle.shape.specs.declared.place.Place.{Place}
use Rattle.machine.specs.declared.denial.Denial.{Denial}
use Rattle.machine.specs.Calls.{in_shape, posted}
use Rattle.machine.specs.Hosting.{out_of_shape, PostAnswers, PostLeaves, RecallLeaves, StepGranted, Stepped}
use Rattle.keeping.specs.Keeping.{HoldsSound, KeepingLaws}
use Rattle.sustaining.specs.StepLaws.{StepLaws}
use Rattle.guarantee.specs.Histories.{Call, post, step, recall, show, audit, Called, History}

module _ (laws : KeepingLaws) (steps : StepLaws) (count top : ℕ) (below : ℕ → ℕ → Bool) where
  abbrev pub Keeps : Tables → Type 0
  Keeps t = HoldsSound count top below t (network t)

  read_off : (u : Tables) (m : Network) → HoldsSound count top below u m → Keeps u
  read_off u m w = laws.read count top below u m w

  module _ (t u : Tables) (w : Keeps t) where
    shaped : {A : Type 0} (answer : Result A Denial) → in_shape (out_of_shape count top below t) answer ≡ answer
    shaped answer = ap (λ (p : Option Place). in_shape p answer) (laws.shape count top below t (network t) w)

    unchanged : u ≡ t → Keeps u
    unchanged e = subst Keeps (sym e) w

    post_keeps : (location job : ℕ) (answer : Result ℕ Denial) → PostAnswers count top below t location job answer → PostLeaves count top below t location job answer u → Keeps u
    post_keeps location job (Ok position) e h =
        read_off u _ (laws.post count top below t u (network t) w location job position (sym (e ∙ shaped (posted (network t) location job))) h)
    post_keeps location job (Err d) e h = unchanged h

    recall_keeps : (position : ℕ) (answer : Result (Unit {0}) Denial) → RecallLeaves count top below t position answer u → Keeps u
    recall_keeps position (Ok done) h = read_off u _ (laws.recall count top below t u (network t) w position h)
    recall_keeps position (Err d) h = unchanged h

    granted_keeps : (position found : ℕ) → StepGranted count top below t position found u → Keeps u
    granted_keeps position found g =
        let n = network t in
        let does = g.granted.does in
        let sound = steps.sound below (sizes_of count top t) n w.sound position does.runs g.granted.verb does.means g.granted.effect g.granted.reduces in
        read_off u _ (laws.step count top below t u n w position does.runs g.granted.effect sound g.granted.room (subst (Holds u) g.granted.left g.holds))

    step_keeps : (position : ℕ) (answer : Result ℕ Denial) → Stepped count top below t position answer u → Keeps u
    step_keeps position (Ok found) g = granted_keeps position found g
    step_keeps position (Err d) h = unchanged h.1

  call_keeps : (t u : Tables) (call : Call) → Keeps t → Called count top below t call u → Keeps u
  call_keeps t u (post location job) w c = post_keeps t u w location job c.0 c.1 c.2
  call_keeps t u (step position) w c = step_keeps t u w position c.0 c.1
  call_keeps t u (recall position) w c = recall_keeps t u w position c.0 c.2
  call_keeps t u (show location row roles) w c = unchanged t u w c.2
  call_keeps t u audit w c = unchanged t u w c.2

  pub history_keeps : (t u : Tables) (calls : List Call) → Keeps t → History count top below t calls u → Keeps u
  history_keeps t u [] w h = unchanged t u w h
  history_keeps t u (call ∷ calls) w h = history_keeps h.0 u calls (call_keeps t h.0 call w h.1) h.2
