-- What slots hold is not deep, and a change is the same by each of its names.
use Rattle.std.proofs.Common.{◌≡◌, ℕ, Bool, List, [], get_or, Some, None, Option, sym, subst, ◌+◌, arith}
use Rattle.std.proofs.Math.Path.{fun_ext}
use Rattle.rows.specs.declared.row.TemplateRow.{TemplateRow}
use Rattle.layout.specs.declared.memory.RunningRow.{RunningRow}
use Rattle.layout.specs.Network.{TreeLines, Network}
use Rattle.meaning.specs.declared.contents.Content.{Content}
use Rattle.slots.specs.declared.part.Part.{Part}
use Rattle.slots.specs.declared.part.Part.TheVariants as part
use Rattle.outcomes.specs.declared.outcome.Outcome.{Outcome}
use Rattle.outcomes.specs.Outcomes.{outcome_of}
use Rattle.replacing.specs.Changing.{Changed}
use Rattle.replacing.specs.Pasting.{Pasted, given}
use Rattle.changes.specs.Turns.{Shallow}
use Rattle.reduction.specs.Values.{held_as, held_in, slot_at, part_of}
use Rattle.stepping.specs.Ground.{Ground}

no_lines : Shallow 500 []
no_lines i h = absurd (omega arith)

held_shallow : (shelf : List TreeLines) → ((k : ℕ) → Shallow 12 (get_or shelf k [])) → (p : Option Part) (value next : ℕ) → Shallow 500 (held_as shelf p value next).under
held_shallow shelf low None value next = no_lines
held_shallow shelf low (Some part.Number) value next = no_lines
held_shallow shelf low (Some (part.Script policy)) value next = no_lines
held_shallow shelf low (Some (part.Place policy)) value next = no_lines
held_shallow shelf low (Some (part.Route last)) value next = no_lines
held_shallow shelf low (Some (part.Tree policy top all)) value next = λ i h. omega (arith, low value i h)

pub slots_shallow : (n : Network) (r : RunningRow) → Ground n r → (hold : ℕ → Pasted) → ((k : ℕ) → hold k ≡ held_in n.plan n.shelf r.slots k) → (k : ℕ) → Shallow 500 (hold k).under
slots_shallow n r ground hold same k =
    subst (λ (p : Pasted). Shallow 500 p.under) (sym (same k))
    (held_shallow n.shelf ground.shelf (part_of n.plan r.slots k) (slot_at r.slots k).value (slot_at r.slots (k + 1)).value)

abbrev Comes : List Bool → Content → (ℕ → Pasted) → ℕ → List TemplateRow → TreeLines → Outcome → Type 0
Comes flags content hold own templates tree o = (after : TreeLines) × Changed flags (given content hold own templates tree) tree after × (o ≡ outcome_of after)

pub comes_out : (flags : List Bool) (content : Content) (hold hold′ : ℕ → Pasted) (own own′ : ℕ) (templates : List TemplateRow) (tree tree′ : TreeLines) (o : Outcome)
    → ((k : ℕ) → hold k ≡ hold′ k) → own ≡ own′ → tree ≡ tree′ → Comes flags content hold own templates tree o → Comes flags content hold′ own′ templates tree′ o
comes_out flags content hold hold′ own own′ templates tree tree′ o holds owns trees comes =
    subst (λ (t : TreeLines). Comes flags content hold′ own′ templates t o) trees
    (subst (λ (k : ℕ). Comes flags content hold′ k templates tree o) owns
    (subst (λ (h : ℕ → Pasted). Comes flags content h own templates tree o) (fun_ext holds) comes))
