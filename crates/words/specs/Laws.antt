-- What holds of the definitions as a whole: what is written by the rules is read back as it was meant.
use Rattle.std.specs.Prelude.{◌≡◌, ℕ, ◌^◌, ◌<◌, false, List, [], ◌∷◌, ◌++◌, length, Some, decimal}
use Rattle.std.specs.List.{AllByRecursion}
use Rattle.words.specs.Cutting.{is_blank, words_of}
use Rattle.words.specs.Spelling.{narrow, wide}

-- A number that is printed is read as that number.
abbrev pub NumbersReadBack : Type 0
NumbersReadBack = (n : ℕ) → (n < 2 ^ 32 → narrow (decimal n) ≡ Some n) × (n < 2 ^ 64 → wide (decimal n) ≡ Some n)

-- A word holds a byte, and no blank.
abbrev pub Word : List ℕ → Type 0
Word w = (0 < length w) × AllByRecursion (λ b. is_blank b ≡ false) w

-- Words with a space behind each.
abbrev pub spaced : List (List ℕ) → List ℕ
spaced [] = []
spaced (w ∷ ws) = w ++ (32 ∷ spaced ws)

-- The words of any line are words.
abbrev pub LinesHoldWords : Type 0
LinesHoldWords = (line : List ℕ) → AllByRecursion Word (words_of line)

-- Words that are written as a line are the words of that line.
abbrev pub WordsReadBack : Type 0
WordsReadBack = (words : List (List ℕ)) → AllByRecursion Word words → words_of (spaced words) ≡ words

-- All three.
abbrev pub ReadsBack : Type 0
ReadsBack = NumbersReadBack × LinesHoldWords × WordsReadBack
