-- What is written by the rules is read back.
use Rattle.std.proofs.Common.{◌≡◌, ℕ, ◌^◌, ◌<◌, ◌≤◌, Bool, true, false, not, ◌==◌, filter, List, [], ◌∷◌, ◌++◌, length, Some, decimal, refl, ap, ◌∙◌, arith, rules}
use Rattle.std.specs.List.{AllByRecursion, slice_split, onto_first}
use Rattle.std.specs.Str.{all_ascii_digits}
use Rattle.std.proofs.lemmas.Fmt.{decimal_nonempty, digits_decimal, digits_value-decimal}
use Rattle.std.proofs.lemmas.Str.Parse.{IsNumeralModel, numerals_by_weight, tells_all_ascii_digits}
use Rattle.std.proofs.lemmas.Bool.{cond-true, cond-false, cond_both, le-leb, ne_eqb, false≢true}
use Rattle.words.specs.Cutting.{is_blank}
use Rattle.words.specs.Laws.{NumbersReadBack, Word, spaced, LinesHoldWords, WordsReadBack}
use Rattle.words.specs.Spelling.{worth, numeral, at_most}

own : IsNumeralModel (λ ds. all_ascii_digits ds ≡ true) worth
own = numerals_by_weight _ tells_all_ascii_digits worth (search rules)

numeral-is : (ds : List ℕ) → 0 < length ds → all_ascii_digits ds ≡ true → numeral ds ≡ Some (worth ds)
unfolding numeral
numeral-is [] some all = absurd (omega arith)
numeral-is (d ∷ ds) some all = cond-true _ _ _ all

reads_back : (n most : ℕ) → n < 2 ^ 64 → n ≤ most → at_most most (numeral (decimal n)) ≡ Some n
reads_back n most fits small =
    ap (at_most most) (numeral-is (decimal n) (decimal_nonempty n fits) (digits_decimal own n fits) ∙ ap Some (digits_value-decimal own n fits))
    ∙ cond-true _ _ _ (le-leb n most small)

pub numbers_read_back : NumbersReadBack
numbers_read_back n = ((λ small. reads_back n 4294967295 (omega arith) (omega arith)), (λ small. reads_back n 18446744073709551615 (omega arith) (omega arith)))

abbrev Dark : List ℕ → Type 0
Dark w = AllByRecursion (λ b. is_blank b ≡ false) w

dark_first : (b : ℕ) (ws : List (List ℕ)) → is_blank b ≡ false → AllByRecursion Dark ws → AllByRecursion Dark (onto_first b ws)
dark_first b [] dark all = ((dark, tt), tt)
dark_first b (w ∷ ws) dark all = ((dark, all.0), all.1)

dark_parts : (line : List ℕ) → AllByRecursion Dark (slice_split is_blank line)
dark_parts [] = (tt, tt)
dark_parts (b ∷ bs) = cond_both (is_blank b) _ _ (AllByRecursion Dark) (λ _. (tt, dark_parts bs)) (λ dark. dark_first b _ dark (dark_parts bs))

abbrev holds_some : List ℕ → Bool
holds_some w = not (length w == 0)

filled-some : (w : List ℕ) (ws : List (List ℕ)) → 0 < length w → filter holds_some (w ∷ ws) ≡ w ∷ filter holds_some ws
filled-some w ws some = cond-true _ _ _ (ap not (ne_eqb (length w) 0 (λ none. absurd (omega arith))))

filled-words : (ws : List (List ℕ)) → AllByRecursion Dark ws → AllByRecursion Word (filter holds_some ws)
filled-words [] all = tt
filled-words (w ∷ ws) all =
    cond_both (holds_some w) _ _ (AllByRecursion Word)
    (λ some. ((nonempty w some, all.0), filled-words ws all.1))
    (λ none. filled-words ws all.1)
  where
    nonempty : (w : List ℕ) → holds_some w ≡ true → 0 < length w
    nonempty [] some = absurd (false≢true some)
    nonempty (b ∷ w) some = omega arith

pub lines_hold_words : LinesHoldWords
lines_hold_words line = filled-words _ (dark_parts line)

-- the first blank ends the first word
cut_after : (w rest : List ℕ) → Dark w → slice_split is_blank (w ++ (32 ∷ rest)) ≡ w ∷ slice_split is_blank rest
cut_after [] rest dark = refl
cut_after (b ∷ w) rest dark = cond-false _ _ _ dark.0 ∙ ap (onto_first b) (cut_after w rest dark.1)

pub words_read_back : WordsReadBack
words_read_back [] all = refl
words_read_back (w ∷ ws) all =
    ap (filter holds_some) (cut_after w (spaced ws) all.0.1) ∙ filled-some w (slice_split is_blank (spaced ws)) all.0.0 ∙ ap (λ l. w ∷ l) (words_read_back ws all.1)
