-- A number that is read digit by digit.
use Rattle.std.proofs.Common.{◌≡◌, ℕ, suc, ◌+◌, ◌-◌, ◌*◌, ◌^◌, ◌<◌, ◌≤◌, Bool, true, false, cond, ◌&&◌, leb, List, [], ◌∷◌, length, get_or, drop, Some, None, Option, sym, refl, ap, ◌∙◌, mul_assoc, add-mul, mul-le-mul_left, arith}
use native.Mathlib.Nat.{pow-succ', one-le-pow}
use Rattle.std.specs.Char.{is_ascii_digit}
use Rattle.std.specs.Str.{all_ascii_digits}
use Rattle.std.proofs.lemmas.Bool.{cond-true, cond-false, cond_both, and_left, leb-true, leb-false, le-leb, lt-leb}
use Rattle.std.proofs.lemmas.List.{at_drop_more, at_drop_all}
use Rattle.words.specs.Spelling.{worth, numeral, at_most}

-- what is left to read, after digits worth v
abbrev pub scan : ℕ → ℕ → List ℕ → Option ℕ
scan most v [] = Some v
scan most v (b ∷ bs) = cond (is_ascii_digit b) (cond (leb (v * 10 + (b - 48)) most) (scan most (v * 10 + (b - 48)) bs) None) None

-- the same in one piece
abbrev whole : ℕ → ℕ → List ℕ → Option ℕ
whole most n bs = cond (all_ascii_digits bs) (at_most most (Some n)) None

regroup : (v d p w : ℕ) → (v * 10 + d) * p + w ≡ v * (10 * p) + (d * p + w)
regroup v d p w =
    let a : (v * 10 + d) * p ≡ (v * 10) * p + d * p = add-mul (v * 10) d p in
    let b : (v * 10) * p ≡ v * (10 * p) = mul_assoc v 10 p in
    omega arith

-- what is too large stays so, whatever digits follow
grows : (most n p w : ℕ) → 0 < p → most < n → most < n * p + w
grows most n p w pos big =
    let a : n * 1 ≤ n * p = mul-le-mul_left n pos in
    omega arith

too_large : (most n : ℕ) (bs : List ℕ) → most < n → whole most n bs ≡ None
too_large most n bs big = cond_both (all_ascii_digits bs) _ _ (λ x. x ≡ None) (λ _. cond-false _ _ _ (lt-leb n most big)) (λ _. refl)

pub scan-is : (most v : ℕ) (bs : List ℕ) → v ≤ most → scan most v bs ≡ whole most (v * 10 ^ length bs + worth bs) bs
scan-is most v [] le =
    let e : v * 1 + 0 ≡ v = omega arith in
    sym (cond-true _ _ _ (le-leb (v * 1 + 0) most (omega arith)) ∙ ap Some e)
scan-is most v (b ∷ bs) le = by_digit (λ n fits. scan-is most n bs fits) (is_ascii_digit b) refl
  where
    total : (v * 10 + (b - 48)) * 10 ^ length bs + worth bs ≡ v * 10 ^ suc (length bs) + ((b - 48) * 10 ^ length bs + worth bs)
    total = regroup v (b - 48) (10 ^ length bs) (worth bs) ∙ ap (λ p. v * p + ((b - 48) * 10 ^ length bs + worth bs)) (sym (pow-succ' 10 (length bs)))

    by_size : ((n : ℕ) → n ≤ most → scan most n bs ≡ whole most (n * 10 ^ length bs + worth bs) bs) → (n : ℕ) (t : Bool) → leb n most ≡ t → cond (leb n most) (scan most n bs) None ≡ whole most (n * 10 ^ length bs + worth bs) bs
    by_size rest n true e = cond-true _ _ _ e ∙ rest n (leb-true _ _ e)
    by_size rest n false e = cond-false _ _ _ e ∙ sym (too_large most _ bs (grows most n (10 ^ length bs) (worth bs) (one-le-pow (length bs) 10 (omega arith)) (leb-false _ _ e)))

    by_digit : ((n : ℕ) → n ≤ most → scan most n bs ≡ whole most (n * 10 ^ length bs + worth bs) bs) → (t : Bool) → is_ascii_digit b ≡ t → scan most v (b ∷ bs) ≡ whole most (v * 10 ^ length (b ∷ bs) + worth (b ∷ bs)) (b ∷ bs)
    by_digit rest true e =
        cond-true _ _ _ e ∙ by_size rest (v * 10 + (b - 48)) _ refl ∙ ap (λ m. whole most m bs) total
        ∙ ap (λ t. cond (t && all_ascii_digits bs) (at_most most (Some (v * 10 ^ length (b ∷ bs) + worth (b ∷ bs)))) None) (sym e)
    by_digit rest false e = cond-false _ _ _ e ∙ sym (cond-false _ _ _ (and_left _ _ e))

pub scanned : (most : ℕ) (word : List ℕ) → 0 < length word → scan most 0 word ≡ at_most most (numeral word)
unfolding numeral
scanned most [] some = absurd (omega arith)
scanned most (b ∷ bs) some =
    let zero-all : 0 * 10 ^ suc (length bs) + worth (b ∷ bs) ≡ worth (b ∷ bs) = omega arith in
    scan-is most 0 (b ∷ bs) (omega arith) ∙ ap (λ m. whole most m (b ∷ bs)) zero-all ∙ inside (all_ascii_digits (b ∷ bs)) (worth (b ∷ bs))
  where
    inside : (t : Bool) (m : ℕ) → cond t (at_most most (Some m)) None ≡ at_most most (cond t (Some m) None)
    inside true m = refl
    inside false m = refl

-- one byte of the word
module _ (most v : ℕ) (word : List ℕ) (i : ℕ) (here : i < length word) where
  opened : scan most v (drop i word) ≡ scan most v (get_or word i 0 ∷ drop (i + 1) word)
  opened = at_drop_more (scan most v) word i 0 here

  pub no_digit : is_ascii_digit (get_or word i 0) ≡ false → scan most v (drop i word) ≡ None
  no_digit e = opened ∙ cond-false _ _ _ e

  pub over : is_ascii_digit (get_or word i 0) ≡ true → most < v * 10 + (get_or word i 0 - 48) → scan most v (drop i word) ≡ None
  over e big = opened ∙ cond-true _ _ _ e ∙ cond-false _ _ _ (lt-leb _ _ big)

  pub onward : is_ascii_digit (get_or word i 0) ≡ true → v * 10 + (get_or word i 0 - 48) ≤ most → scan most v (drop i word) ≡ scan most (v * 10 + (get_or word i 0 - 48)) (drop (i + 1) word)
  onward e fits = opened ∙ cond-true _ _ _ e ∙ cond-true _ _ _ (le-leb _ _ fits)

pub ended : (most v : ℕ) (word : List ℕ) (i : ℕ) → length word ≤ i → scan most v (drop i word) ≡ Some v
ended most v word i past = at_drop_all (scan most v) word i past

pub no_digits : (most : ℕ) (word : List ℕ) → length word ≡ 0 → None ≡ at_most most (numeral word)
unfolding numeral
no_digits most [] none = refl
no_digits most (b ∷ bs) none = absurd (omega arith)
