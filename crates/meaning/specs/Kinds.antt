-- The kinds of content, by their numbers.
use Rattle.std.specs.Prelude.{◌≡◌, ℕ, cond, List, ◌++◌, Some, None, Ok, Err, Option, Result, ◌==◌, codes}
use Rattle.std.specs.Fmt.{decimal}
use Rattle.meaning.specs.declared.kinds.ContentKind.{ContentKind}
use Rattle.meaning.specs.declared.kinds.ContentKind.TheVariants.{Tree, Number, Script, Pointer, Held, Template}
use Rattle.meaning.specs.declared.kinds.UnknownContent.{UnknownContent}

-- the kind of a number, if it is one
abbrev pub kind_of : ℕ → Option ContentKind
kind_of n =
    cond (n == 0) (Some Tree)
    (cond (n == 1) (Some Number)
    (cond (n == 2) (Some Script)
    (cond (n == 3) (Some Pointer)
    (cond (n == 4) (Some Held)
    (cond (n == 5) (Some Template) None)))))

-- the answer is the kind of the number, or the number itself where no kind has it
abbrev pub TellsKind : ℕ → Result ContentKind UnknownContent → Type 0
TellsKind n (Ok kind) = kind_of n ≡ Some kind
TellsKind n (Err unknown) = (kind_of n ≡ None) × (unknown.0 ≡ n)

-- a number that no kind has, in words
abbrev pub unknown_words : UnknownContent → List ℕ
unknown_words unknown = codes "no content has number " ++ decimal unknown.0
