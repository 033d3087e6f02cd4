-- A change that is allowed leaves the tree sound.
use Rattle.std.proofs.Common.{ℕ, ◌+◌, ◌<◌, Bool, List, length, Some}
use Rattle.order.specs.Laws.{Lawful}
use Rattle.rows.specs.declared.row.PathStepRow.{PathStepRow}
use Rattle.layout.specs.Network.{TreeLines, Plan}
use Rattle.meaning.specs.declared.contents.Content.{Content}
use Rattle.meaning.specs.declared.patterns.Pattern.{Pattern}
use Rattle.slots.specs.Slots.{filled_by}
use Rattle.pasting.specs.Words.{least_of}
use Rattle.standing.specs.declared.sizes.Sizes.{Sizes}
use Rattle.obeying.specs.Rules.{line}
use Rattle.edges.specs.Paths.{last_set}
use Rattle.edges.proofs.Opening.{found_set}
use Rattle.replacing.specs.Pasting.{Pasted, lying, holding, given}
use Rattle.replacing.specs.Changing.{Flagged, Changed}
use Rattle.replacing.specs.Granted.{Allowed, Meets}
use Rattle.replacing.specs.Holding.{slot_of}
use Rattle.replacing.specs.Sound.{Sound, PasteSound}
use Rattle.replacing.proofs.Contents.{content_sound}
use Rattle.replacing.proofs.FilledSlots.{holds_filled}
use Rattle.replacing.proofs.OneTemplate.{one_template}
use Rattle.replacing.proofs.Own.{own_part}
use Rattle.replacing.proofs.Sound.{changed_sound}

module _ (s : Sizes) (below : ℕ → ℕ → Bool) (law : Lawful s.roles s.top below) (p : Plan) (policy : ℕ) (path : List PathStepRow) (row : ℕ) (m : Pattern) (slots : List ℕ) (hold : ℕ → Pasted)
    (c : Content) (t : TreeLines) (flags : List Bool) (a : Allowed below s p policy path row m slots c) (w : Meets below s p policy path m slots hold t flags) where
  pasted_there : (i : ℕ) → i < length t → Flagged flags i → PasteSound below s (least_of p policy) p.jobs policy (line t i).set (given c hold (slot_of m) p.templates t i)
  pasted_there i h f =
      content_sound s below law p a.jobs policy (filled_by (Some m) (row + 1) slots) (holding hold (slot_of m) (lying t i))
      (holds_filled below s p row m a.pattern slots a.six a.own hold (lying t i) w.holds (λ next. own_part below s p t w.sound i h m next (w.matched i h f)))
      (last_set path) (line t i).set c a.content (one_template s p.templates a.templates) a.fits a.obeys (found_set below path t i (w.found i h f))

  pub allowed : (after : TreeLines) → Changed flags (given c hold (slot_of m) p.templates t) t after → Sound below s (least_of p policy) p.jobs policy after
  allowed after d = changed_sound below s (least_of p policy) p.jobs policy flags (given c hold (slot_of m) p.templates t) t after w.sound (λ i h f u. pasted_there i h f) d
