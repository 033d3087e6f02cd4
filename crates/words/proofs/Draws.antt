-- Pairs of role codes that are read one after the other.
use Rattle.std.proofs.Common.{◌≡◌, ℕ, zero, suc, ◌+◌, ◌<◌, ◌≤◌, List, [], ◌∷◌, ◌++◌, length, get_or, drop, Some, Ok, Err, Option, Result, sym, refl, ap, ◌∙◌, append_assoc, append-nil, arith}
use Rattle.std.specs.List.{slice_get}
use Rattle.std.proofs.lemmas.List.{drop_more, at_drop_all}
use Rattle.std.proofs.lemmas.Option.{slice_get-get_or}
use Rattle.words.specs.declared.unclear.Unclear.{Unclear}
use Rattle.words.specs.declared.unclear.Why.TheVariants.{NotARoleCode}
use Rattle.words.specs.Saying.{then_ok, wanted, code_at, pairs_from}
use Rattle.words.specs.Spelling.{narrow}

abbrev pub Pairs : Type 0
Pairs = Result (List (ℕ × ℕ)) Unclear

-- pairs before others, if those are there
abbrev pub onto : List (ℕ × ℕ) → Pairs → Pairs
onto ps r = then_ok r (λ more. Ok (ps ++ more))

onto-none : (r : Pairs) → onto [] r ≡ r
onto-none (Ok ps) = refl
onto-none (Err u) = refl

onto-onto : (ps qs : List (ℕ × ℕ)) (r : Pairs) → onto ps (onto qs r) ≡ onto (ps ++ qs) r
onto-onto ps qs (Ok more) = ap Ok (sym (append_assoc ps qs more))
onto-onto ps qs (Err u) = refl

-- a pair that is read as a and b, before the pairs of the words behind it
abbrev step : ℕ → Result ℕ Unclear → Result ℕ Unclear → List (List ℕ) → Pairs
step place a b rest = then_ok a (λ a. then_ok b (λ b. onto ((a, b) ∷ []) (pairs_from (place + 2) rest)))

abbrev code : ℕ → Option (List ℕ) → Result ℕ Unclear
code place word = wanted narrow NotARoleCode place word

two_words : (place : ℕ) (w : List ℕ) (rest : List (List ℕ))
    → pairs_from place (w ∷ rest) ≡ step place (code place (Some w)) (code (place + 1) (slice_get rest 0)) (drop 1 rest)
two_words place w [] = refl
two_words place w (v ∷ ws) = refl

first_left : (words : List (List ℕ)) (n : ℕ) → slice_get (drop n words) 0 ≡ slice_get words n
first_left words zero = refl
first_left [] (suc n) = refl
first_left (w ∷ words) (suc n) = first_left words n

rest_left : (words : List (List ℕ)) (n : ℕ) → drop 1 (drop n words) ≡ drop (suc n) words
rest_left words zero = refl
rest_left [] (suc n) = refl
rest_left (w ∷ words) (suc n) = rest_left words n

opened : (words : List (List ℕ)) (place : ℕ) → place < length words
    → pairs_from place (drop place words) ≡ step place (code_at words place) (code_at words (place + 1)) (drop (place + 2) words)
unfolding code_at
opened words place here =
    let two : suc (place + 1) ≡ place + 2 = omega arith in
    ap (pairs_from place) (drop_more words place [] here)
    ∙ two_words place (get_or words place []) (drop (place + 1) words)
    ∙ ap (λ o. step place (code place o) (code (place + 1) (slice_get (drop (place + 1) words) 0)) (drop 1 (drop (place + 1) words))) (sym (slice_get-get_or words place [] here))
    ∙ ap (λ o. step place (code place (slice_get words place)) (code (place + 1) o) (drop 1 (drop (place + 1) words))) (first_left words (place + 1))
    ∙ ap (λ l. step place (code place (slice_get words place)) (code (place + 1) (slice_get words (place + 1))) l) (rest_left words (place + 1) ∙ ap (λ n. drop n words) two)

-- the loop's invariant: the pairs so far, and those of the words to come, are the pairs of the line
pub record Sofar (done : List (ℕ × ℕ)) (place : ℕ) (words : List (List ℕ)) (all : Pairs) : Type 0 where
  pub whole : onto done (pairs_from place (drop place words)) ≡ all

pub none_yet : (done : List (ℕ × ℕ)) (place : ℕ) (words : List (List ℕ)) → done ≡ [] → Sofar done place words (pairs_from place (drop place words))
none_yet done place words none = record { whole = ap (λ ps. onto ps (pairs_from place (drop place words))) none ∙ onto-none _ }

module _ {done : List (ℕ × ℕ)} {place : ℕ} {words : List (List ℕ)} {all : Pairs} (old : Sofar done place words all) where
  pub all_paired : length words ≤ place → Ok done ≡ all
  all_paired past = ap Ok (sym (append-nil done)) ∙ sym (at_drop_all (λ ws. onto done (pairs_from place ws)) words place past) ∙ old.whole

  module _ (here : place < length words) where
    at_step : (a b : Result ℕ Unclear) → a ≡ code_at words place → b ≡ code_at words (place + 1) → onto done (step place a b (drop (place + 2) words)) ≡ all
    at_step a b a-is b-is =
        ap (λ r. onto done (step place r b (drop (place + 2) words))) a-is
        ∙ ap (λ r. onto done (step place (code_at words place) r (drop (place + 2) words))) b-is
        ∙ sym (ap (onto done) (opened words place here)) ∙ old.whole

    pub first_refused : (u : Unclear) → Err u ≡ code_at words place → Err u ≡ all
    first_refused u read = at_step (Err u) _ read refl

    pub second_refused : (a : ℕ) (u : Unclear) → Ok a ≡ code_at words place → Err u ≡ code_at words (place + 1) → Err u ≡ all
    second_refused a u read fails = at_step (Ok a) (Err u) read fails

    pub paired : (a b place' : ℕ) (done' : List (ℕ × ℕ)) (words' : List (List ℕ)) → Ok a ≡ code_at words place → Ok b ≡ code_at words (place + 1)
        → done' ≡ done ++ ((a, b) ∷ []) → place' ≡ place + 2 → words' ≡ words → Sofar done' place' words' all
    paired a b place' done' words' read next done-is place_is words-is = record {
      whole = ap (λ ps. onto ps (pairs_from place' (drop place' words'))) done-is
          ∙ ap (λ n. onto (done ++ ((a, b) ∷ [])) (pairs_from n (drop n words'))) place_is
          ∙ ap (λ ws. onto (done ++ ((a, b) ∷ [])) (pairs_from (place + 2) (drop (place + 2) ws))) words-is
          ∙ sym (onto-onto done ((a, b) ∷ []) _) ∙ at_step (Ok a) (Ok b) read next;
    }
