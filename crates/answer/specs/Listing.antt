-- The text of one line of a sheet, as it is listed: where it stands, its kind, and its fields.
use Rattle.std.specs.Prelude.{ℕ, List, [], ◌∷◌, ◌++◌, codes, decimal}

-- What stands before the fields: the line's number, its first byte and its kind.
abbrev pub head_text : ℕ → ℕ → ℕ → List ℕ
head_text line place kind = codes "line " ++ (decimal line ++ (codes " at " ++ (decimal place ++ (codes " kind " ++ (decimal kind ++ codes ":")))))

-- The fields, a space before each.
abbrev pub fields_text : List ℕ → List ℕ
fields_text [] = []
fields_text (f ∷ fs) = codes " " ++ (decimal f ++ fields_text fs)

-- The whole line, without its end.
abbrev pub listed_text : ℕ → ℕ → ℕ → List ℕ → List ℕ
listed_text line place kind fields = head_text line place kind ++ fields_text fields
