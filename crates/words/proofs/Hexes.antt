-- Bytes that are read pair by pair.
use Rattle.std.proofs.Common.{◌≡◌, ℕ, ◌-◌, ◌%◌, ◌≤◌, List, [], ◌∷◌, ◌++◌, length, get_or, take, drop, Some, None, Option, sym, refl, ap, ◌∙◌, append_assoc, arith}
use Rattle.std.specs.Option.{option_map}
use Rattle.std.proofs.Math.Seq.{take-length}
use Rattle.words.specs.Hex.{hex_byte, before, hex_bytes}

before-none : (o : Option ℕ) → before o None ≡ None
before-none None = refl
before-none (Some b) = refl

-- an odd number of digits spells none
pub odd : (word : List ℕ) → (length word % 2 ≡ 0 → ⊥) → None ≡ hex_bytes word
odd [] uneven = absurd (uneven refl)
odd (high ∷ []) uneven = refl
odd (high ∷ low ∷ digits) uneven = sym (ap (before (hex_byte high low)) (sym (odd digits (λ even. uneven (omega arith)))) ∙ before-none (hex_byte high low))

-- bytes before others, if those are there
abbrev pub onto : List ℕ → Option (List ℕ) → Option (List ℕ)
onto bytes o = option_map (λ more. bytes ++ more) o

pub onto-none : (o : Option (List ℕ)) → onto [] o ≡ o
onto-none None = refl
onto-none (Some more) = refl

pub onto-more : (bytes : List ℕ) (b : ℕ) (o : Option (List ℕ)) → onto (bytes ++ (b ∷ [])) o ≡ onto bytes (before (Some b) o)
onto-more bytes b None = refl
onto-more bytes b (Some more) = ap Some (append_assoc bytes (b ∷ []) more)

-- one pair more
pub one_more : (bytes bytes' digits : List ℕ) (b : ℕ) (all : Option (List ℕ)) → 2 ≤ length digits
    → Some b ≡ hex_byte (get_or digits 0 0) (get_or digits 1 0) → bytes' ≡ bytes ++ (b ∷ []) → onto bytes (hex_bytes digits) ≡ all
    → onto bytes' (hex_bytes (take (length digits - 2) (drop 2 digits))) ≡ all
one_more bytes bytes' [] b all some is pushed old = absurd (omega arith)
one_more bytes bytes' (high ∷ []) b all some is pushed old = absurd (omega arith)
one_more bytes bytes' (high ∷ low ∷ more) b all some is pushed old =
    let left : length (high ∷ low ∷ more) - 2 ≡ length more = omega arith in
    ap (λ n. onto bytes' (hex_bytes (take n more))) left
    ∙ ap (λ ds. onto bytes' (hex_bytes ds)) (take-length more)
    ∙ ap (λ bs. onto bs (hex_bytes more)) pushed
    ∙ onto-more bytes b (hex_bytes more) ∙ ap (λ o. onto bytes (before o (hex_bytes more))) is ∙ old
