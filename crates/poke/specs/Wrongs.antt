-- How what is wrong is written.
use Rattle.std.specs.Prelude.{ℕ, List, codes}
use Rattle.poke.specs.declared.wrong.Wrong.{Wrong}
use Rattle.poke.specs.declared.wrong.Wrong.TheVariants.{Table, Row, Field, Value}

abbrev pub wrong_text : Wrong → List ℕ
wrong_text Table = codes "no table has this number"
wrong_text Row = codes "the table has no such row"
wrong_text Field = codes "the row has no such field"
wrong_text Value = codes "the value is too wide for its field"
