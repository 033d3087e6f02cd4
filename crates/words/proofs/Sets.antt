-- A set that is read role by role.
use Rattle.std.proofs.Common.{◌≡◌, ℕ, zero, suc, ◌+◌, ◌/◌, ◌%◌, ◌<◌, List, [], ◌∷◌, length, get_or, drop, Some, None, Option, sym, refl, ap, ◌∙◌, mod-lt, arith}
use lib.Bits.{bit_or, or_shr, or_mod, or_zero_l, or_zero_r}
use lib.Arith.{bin_ind}
use Rattle.std.specs.List.{slice_split}
use Rattle.std.proofs.lemmas.Nat.{div-add-mod'}
use Rattle.std.proofs.lemmas.List.{drop_more, drop_all}
use Rattle.words.specs.Cutting.{is_comma}
use Rattle.words.specs.Spelling.{one_role, joined, all_roles, roles_in}

digit_assoc : (x y z : ℕ) → x < 2 → y < 2 → z < 2 → bit_or (bit_or x y) z ≡ bit_or x (bit_or y z)
digit_assoc zero y z hx hy hz = ap (λ n. bit_or n z) (or_zero_l y) ∙ sym (or_zero_l (bit_or y z))
digit_assoc (suc zero) zero z hx hy hz = ap (bit_or 1) (sym (or_zero_l z))
digit_assoc (suc zero) (suc zero) zero hx hy hz = refl
digit_assoc (suc zero) (suc zero) (suc zero) hx hy hz = refl
digit_assoc (suc zero) (suc zero) (suc (suc z)) hx hy hz = absurd (omega arith)
digit_assoc (suc zero) (suc (suc y)) z hx hy hz = absurd (omega arith)
digit_assoc (suc (suc x)) y z hx hy hz = absurd (omega arith)

-- two numbers with the same halves and the same last bit
by_digits : (a b : ℕ) → a / 2 ≡ b / 2 → a % 2 ≡ b % 2 → a ≡ b
by_digits a b hi lo = omega (arith, div-add-mod' a 2, div-add-mod' b 2)

or_assoc : (a b c : ℕ) → bit_or (bit_or a b) c ≡ bit_or a (bit_or b c)
or_assoc =
    bin_ind (λ (n : ℕ). (b c : ℕ) → bit_or (bit_or n b) c ≡ bit_or n (bit_or b c)) (λ b c. ap (λ n. bit_or n c) (or_zero_l b) ∙ sym (or_zero_l (bit_or b c)))
    (λ n half b c. by_digits _ _
    (or_shr (bit_or n b) c 1 ∙ ap (λ x. bit_or x (c / 2)) (or_shr n b 1) ∙ half (b / 2) (c / 2)
    ∙ sym (or_shr n (bit_or b c) 1 ∙ ap (bit_or (n / 2)) (or_shr b c 1)))
    (or_mod (bit_or n b) c 1 ∙ ap (λ x. bit_or x (c % 2)) (or_mod n b 1)
    ∙ digit_assoc (n % 2) (b % 2) (c % 2) (mod-lt n (omega arith)) (mod-lt b (omega arith)) (mod-lt c (omega arith))
    ∙ sym (or_mod n (bit_or b c) 1 ∙ ap (bit_or (n % 2)) (or_mod b c 1))))

joined-more : (s bit : ℕ) (t : Option ℕ) → joined (Some s) (joined (Some bit) t) ≡ joined (Some (bit_or s bit)) t
joined-more s bit None = refl
joined-more s bit (Some t) = ap Some (sym (or_assoc s bit t))

pub no_roles : (inner : List ℕ) → length inner ≡ 0 → Some 0 ≡ roles_in inner
unfolding roles_in
no_roles [] none = refl
no_roles (b ∷ bs) none = absurd (omega arith)

pub all_roles-parts : (inner : List ℕ) → 0 < length inner → all_roles (slice_split is_comma inner) ≡ roles_in inner
unfolding roles_in
all_roles-parts [] some = absurd (omega arith)
all_roles-parts (b ∷ bs) some = refl

-- the set of the words so far, and the words to come
module _ (set n : ℕ) (words : List (List ℕ)) (old : joined (Some set) (all_roles (drop n words)) ≡ all_roles words) where
  pub all_read : n ≡ length words → Some set ≡ all_roles words
  all_read past = ap Some (sym (or_zero_r set)) ∙ sym (ap (λ ws. joined (Some set) (all_roles ws)) (drop_all n words (omega arith))) ∙ old

  module _ (word : List ℕ) (here : n < length words) (at : word ≡ get_or words n word) where
    at_word : (one : Option ℕ) → one ≡ one_role word → joined (Some set) (joined one (all_roles (drop (n + 1) words))) ≡ all_roles words
    at_word one is =
        ap (λ o. joined (Some set) (joined o (all_roles (drop (n + 1) words)))) (is ∙ ap one_role at)
        ∙ sym (ap (λ ws. joined (Some set) (all_roles ws)) (drop_more words n word here)) ∙ old

    pub no_role : None ≡ one_role word → None ≡ all_roles words
    no_role is = at_word None is

    pub one_more : (bit : ℕ) → Some bit ≡ one_role word → joined (Some (bit_or set bit)) (all_roles (drop (n + 1) words)) ≡ all_roles words
    one_more bit is = sym (joined-more set bit _) ∙ at_word (Some bit) is
