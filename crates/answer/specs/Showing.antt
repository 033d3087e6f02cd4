-- The text of an answer: the words that other programs read, and the line for a person where something was not understood.
use Rattle.std.specs.Prelude.{ℕ, List, ◌++◌, codes, decimal}
use Rattle.answer.specs.declared.answer.Answer.{Answer}
use Rattle.answer.specs.declared.answer.Answer.TheVariants as answer
use Rattle.answer.specs.declared.answer.State.{State}
use Rattle.answer.specs.declared.answer.State.TheVariants as state
use Rattle.rows.specs.declared.row.TreeLine.{TreeLine}
use Rattle.dump.specs.Listed.{line_fields}
use Rattle.dump.specs.Texts.{fields_text}
use Rattle.words.specs.Showing.{unclear_text}

-- The names of the states.
abbrev pub state_text : State → List ℕ
state_text state.Blank = codes "blank"
state_text state.Draft = codes "draft"
state_text state.Live = codes "live"

-- An edge: its depth, label and set, and what lies on it.
abbrev pub edge_text : TreeLine → List ℕ
edge_text x = codes "edge" ++ fields_text (line_fields x)

-- The line that is printed, without its end.
abbrev pub answer_text : Answer → List ℕ
answer_text answer.Ok = codes "ok"
answer_text answer.Yes = codes "yes"
answer_text answer.No = codes "no"
answer_text (answer.PairRefused number pair) = codes "refused " ++ (decimal number ++ (codes " pair " ++ decimal pair))
answer_text (answer.NotDrawn number) = codes "refused " ++ (decimal number ++ codes " not drawn")
answer_text (answer.Count count) = codes "ok " ++ decimal count
answer_text (answer.ReadRefused number line byte) =
    codes "refused " ++ (decimal number ++ (codes " line " ++ (decimal line ++ (codes " byte " ++ decimal byte))))
answer_text (answer.LineRefused number line) = codes "refused " ++ (decimal number ++ (codes " line " ++ decimal line))
answer_text (answer.BreachRefused number table row rule) =
    codes "refused " ++ (decimal number ++ (codes " table " ++ (decimal table ++ (codes " row " ++ (decimal row ++ (codes " rule " ++ decimal rule))))))
answer_text (answer.NoPosition number) = codes "refused " ++ (decimal number ++ codes " position")
answer_text (answer.NoLocation number) = codes "refused " ++ (decimal number ++ codes " location")
answer_text (answer.NoJob number) = codes "refused " ++ (decimal number ++ codes " job")
answer_text (answer.OtherPolicy number) = codes "refused " ++ decimal number
answer_text (answer.NoRoom number room) = codes "refused " ++ (decimal number ++ (codes " room " ++ decimal room))
answer_text (answer.Edge x) = edge_text x
answer_text answer.Nothing = codes "nothing"
answer_text (answer.Fault table row rule) = codes "fault table " ++ (decimal table ++ (codes " row " ++ (decimal row ++ (codes " rule " ++ decimal rule))))
answer_text (answer.NotNow s) = codes "? not now: " ++ state_text s
answer_text (answer.Unclear u) = codes "? " ++ unclear_text u
