-- How a text of bytes is cut: a line into words, and a set's text into the numbers in it.
-- A text is a list of byte codes, and any bytes may stand in it.
use Rattle.std.specs.Prelude.{ℕ, Bool, not, ◌||◌, List, map, filter, length, ◌==◌}
use Rattle.std.specs.List.{slice_split}
use Rattle.std.specs.Borrow.{Bor}

-- A blank is a space, a tab or a carriage return.
abbrev pub is_blank : ℕ → Bool
is_blank b = b == 32 || (b == 9 || b == 13)

-- A comma parts the numbers of a set.
abbrev pub is_comma : ℕ → Bool
is_comma b = b == 44

-- The words of a line: what stands between its blanks.
abbrev pub words_of : List ℕ → List (List ℕ)
words_of line = filter (λ w. not (length w == 0)) (slice_split is_blank line)

-- What words that are lent show.
abbrev pub texts : List (Bor (List ℕ)) → List (List ℕ)
texts words = map (λ w. w.now) words
