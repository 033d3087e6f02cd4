use Rattle.std.proofs.Common.{◌≡◌, length, drop, Some}
use Rattle.std.specs.List.{slice_split}
use Rattle.words.specs.Cutting.{is_comma}
use Rattle.words.specs.Spelling.{joined, all_roles}
use Rattle.words.proofs.spelled.roles.Given as goal

-- the roles so far, and those of the words to come, are the whole set
abbrev pub invariant-loop-word : goal.invariant-loop-word
invariant-loop-word l = joined (Some l.set) (all_roles (drop (length l.yielded) (slice_split is_comma l.inner))) ≡ all_roles (slice_split is_comma l.inner)
