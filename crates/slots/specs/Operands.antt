-- What a command's operand names, by its row or by the slot that holds it.
use Rattle.std.specs.Prelude.{ℕ, cond, List, Some, None, Option, ◌==◌, slice_get}
use Rattle.std.specs.Option.{option_map}
use Rattle.rows.specs.declared.row.LocationRow.{LocationRow}
use Rattle.rows.specs.declared.row.PathStepRow.{PathStepRow}
use Rattle.rows.specs.declared.row.PatternRow.{PatternRow}
use Rattle.meaning.specs.declared.verbs.Operand.{Operand}
use Rattle.meaning.specs.declared.verbs.Operand.TheVariants as operand
use Rattle.scan.specs.Scan.{carried}
use Rattle.slots.specs.declared.part.Part.{Part}
use Rattle.slots.specs.declared.part.Part.TheVariants as part
use Rattle.slots.specs.Slots.{part_at}

-- ---- locations

-- the policy of a location in a slot; a slot that holds anything else is no destination
abbrev pub place_policy : Option Part → Option ℕ
place_policy None = None
place_policy (Some part.Number) = None
place_policy (Some (part.Script policy)) = None
place_policy (Some (part.Place policy)) = Some policy
place_policy (Some (part.Route last)) = None
place_policy (Some (part.Tree policy top all)) = None

-- the policy of the location that the operand names, if it names one
abbrev pub destination : List LocationRow → List PatternRow → List ℕ → Operand → Option ℕ
destination locations patterns slots (operand.Row row) = option_map (λ x. x.policy) (slice_get locations row)
destination locations patterns slots (operand.Slot slot) = place_policy (part_at patterns slots slot)

-- ---- paths

-- the set of the last step of a path, if there is such a path
abbrev pub last_set : List PathStepRow → ℕ → Option ℕ
last_set steps path = carried (λ last x. cond (x.path == path) (Some x.set) last) None steps

-- the last set of a path in a slot: the pattern that filled it says what it is
abbrev pub route_set : Option Part → Option ℕ
route_set None = None
route_set (Some part.Number) = None
route_set (Some (part.Script policy)) = None
route_set (Some (part.Place policy)) = None
route_set (Some (part.Route last)) = Some last
route_set (Some (part.Tree policy top all)) = None

-- the last set of the path that the operand names, if it names one
abbrev pub path_set : List PathStepRow → List PatternRow → List ℕ → Operand → Option ℕ
path_set steps patterns slots (operand.Row row) = last_set steps row
path_set steps patterns slots (operand.Slot slot) = route_set (part_at patterns slots slot)
