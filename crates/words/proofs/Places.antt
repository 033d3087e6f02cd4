-- The word at a place of a line.
use Rattle.std.proofs.Common.{◌≡◌, ℕ, ◌<◌, ◌≤◌, List, length, Some, None, Ok, Err, Option, Result, sym, ap, ◌∙◌, arith, Bor}
use Rattle.std.specs.Option.{ok_or}
use Rattle.std.proofs.lemmas.List.{length-map}
use Rattle.std.proofs.lemmas.Bool.{cond-true, cond-false, lt-ltb, le-ltb}
use Rattle.words.specs.declared.unclear.Unclear.{Unclear}
use Rattle.words.specs.declared.unclear.Why.{Why}
use Rattle.words.specs.declared.unclear.Why.TheVariants.{TooMany}
use Rattle.words.specs.Cutting.{texts}
use Rattle.words.specs.Saying.{fault, wanted, Wanted, end_at}

-- what any one word is read as decides what the word at a place is read as
pub wanted_from : {A : Type 0} (P : List ℕ → Option A → Type 0) (reads : List ℕ → Option A) (w : Why) (place : ℕ) (at : Option (List ℕ)) (r : Result A Unclear)
    → ((word : List ℕ) (o : Option A) → P word o → o ≡ reads word) → Wanted P w place at r → r ≡ wanted reads w place at
wanted_from P reads w place None r each is = is
wanted_from P reads w place (Some word) r each is = is.2 ∙ ap (λ o. ok_or o (fault place w)) (each word is.0 is.1)

pub length_texts : (words : List (Bor (List ℕ))) → length (texts words) ≡ length words
length_texts words = length-map words (λ w. w.now)

pub too_many_at : (words : List (Bor (List ℕ))) (place : ℕ) → place < length words → Err (fault place TooMany) ≡ end_at (texts words) place
unfolding end_at
too_many_at words place more = sym (cond-true _ _ _ (lt-ltb place (length (texts words)) (omega (arith, length_texts words))))

pub ends_at : (words : List (Bor (List ℕ))) (place : ℕ) → length words ≤ place → Ok tt ≡ end_at (texts words) place
unfolding end_at
ends_at words place past = sym (cond-false _ _ _ (le-ltb place (length (texts words)) (omega (arith, length_texts words))))
