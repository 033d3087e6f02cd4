use Rattle.std.proofs.Common.{◌≡◌, ◌++◌, drop, vec_items}
use Rattle.sheet.specs.Fields.{values}
use Rattle.listing.proofs.lister.fields_of.Given as goal

abbrev pub invariant-loop-width : goal.invariant-loop-width
invariant-loop-width l = vec_items l.fields ++ values (drop l.width-index l.widths) l.at l.bytes ≡ values l.widths 0 l.bytes
