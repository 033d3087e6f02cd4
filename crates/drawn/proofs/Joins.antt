-- One pair more keeps the laws, and stays inside every relation that keeps the pairs.
use Rattle.std.proofs.Common.{◌≡◌, ℕ, ◌<◌, Bool, true, false, cond, ◌&&◌, ◌||◌, ◌⊎◌, List, get_or, sym, refl, ap, ◌∙◌, ap₂, inl, inr, ⊎_elim}
use lib.Bits.{bit_or}
use Rattle.std.proofs.lemmas.Bool.{cases_lt, and_parts, and_from, and_left, and_right, or_cases, or_left, or_right, or_from}
use Rattle.order.specs.Laws.{Transitive}
use Rattle.order.specs.RoleSets.{has}
use Rattle.order.proofs.Bits.{has-or}
use Rattle.drawn.specs.Rows.{rows_below}
use Rattle.drawn.specs.Draws.{Keeps}
use Rattle.drawn.specs.Pairs.{joined, grown_row}
use Rattle.drawn.specs.Bounds.{rows_has, rows_out}

-- ---- over any relation

module _ (R : ℕ → ℕ → Bool) (a b : ℕ) where
  pub join_keeps : (x y : ℕ) → R x y ≡ true → joined R a b x y ≡ true
  join_keeps x y t = or_left _ _ t

  pub join_through : (x y : ℕ) → R x a ≡ true → R b y ≡ true → joined R a b x y ≡ true
  join_through x y p q = or_right _ _ (and_from _ _ p q)

  pub join_cases : (x y : ℕ) → joined R a b x y ≡ true → (R x y ≡ true) ⊎ ((R x a ≡ true) × (R b y ≡ true))
  join_cases x y t = ⊎_elim inl (λ p. inr (and_parts _ _ p)) (or_cases (R x y) (R x a && R b y) t)

  pub join_trans : Transitive R → Transitive (joined R a b)
  join_trans t x y z p q =
      ⊎_elim
      (λ xy. ⊎_elim
      (λ yz. join_keeps x z (t x y z xy yz))
      (λ yz. join_through x z (t x y a xy yz.0) yz.1)
      (join_cases y z q))
      (λ xy. ⊎_elim
      (λ yz. join_through x z xy.0 (t b y z xy.1 yz))
      (λ yz. join_through x z xy.0 yz.1)
      (join_cases y z q))
      (join_cases x y p)

pub trans_as : (P Q : ℕ → ℕ → Bool) → ((x y : ℕ) → P x y ≡ Q x y) → Transitive Q → Transitive P
trans_as P Q e t x y z p q = e x z ∙ t x y z (sym (e x y) ∙ p) (sym (e y z) ∙ q)

-- what is contained in every relation that keeps the pairs
abbrev pub Contained : List (ℕ × ℕ) → (ℕ → ℕ → Bool) → Type 0
Contained pairs R = (S : ℕ → ℕ → Bool) → Keeps pairs S → (x y : ℕ) → R x y ≡ true → S x y ≡ true

pub join_contained : (pairs : List (ℕ × ℕ)) (R : ℕ → ℕ → Bool) (a b : ℕ) → Contained pairs R
    → ((S : ℕ → ℕ → Bool) → Keeps pairs S → S a b ≡ true) → Contained pairs (joined R a b)
join_contained pairs R a b inside here S keeps x y t =
    ⊎_elim
    (λ p. inside S keeps x y p)
    (λ p. keeps.transitive x b y (keeps.transitive x a b (inside S keeps x a p.0) (here S keeps)) (inside S keeps b y p.1))
    (join_cases R a b x y t)

-- ---- over the rows

cond_or : (c x y : Bool) → cond c (x || y) x ≡ (x || (c && y))
cond_or true x y = refl
cond_or false true y = refl
cond_or false false y = refl

has-cond : (c : Bool) (m n y : ℕ) → has (cond c m n) y ≡ cond c (has m y) (has n y)
has-cond true m n y = refl
has-cond false m n y = refl

has-grown : (rows : List ℕ) (a b x y : ℕ)
    → has (grown_row rows a b x) y ≡ (has (get_or rows x 0) y || (has (get_or rows x 0) a && has (get_or rows b 0) y))
has-grown rows a b x y =
    has-cond (has (get_or rows x 0) a) (bit_or (get_or rows x 0) (get_or rows b 0)) (get_or rows x 0) y
    ∙ ap (λ (t : Bool). cond (has (get_or rows x 0) a) t (has (get_or rows x 0) y)) (has-or (get_or rows x 0) (get_or rows b 0) y)
    ∙ cond_or (has (get_or rows x 0) a) (has (get_or rows x 0) y) (has (get_or rows b 0) y)

pub grown_joined : (rows out : List ℕ) (a b : ℕ) → a < 32 → b < 32 → ((x : ℕ) → x < 32 → get_or out x 0 ≡ grown_row rows a b x)
    → (x y : ℕ) → rows_below out x y ≡ joined (rows_below rows) a b x y
grown_joined rows out a b ha hb e x y =
    elim (cases_lt x 32) [
      | inr h ↦ rows_out out x y (inl h) ∙ sym (or_from _ _ (rows_out rows x y (inl h)) (and_left _ _ (rows_out rows x a (inl h))))
      | inl hx ↦ elim (cases_lt y 32) [
        | inr h ↦ rows_out out x y (inr h) ∙ sym (or_from _ _ (rows_out rows x y (inr h)) (and_right _ _ (rows_out rows b y (inr h))))
        | inl hy ↦
            rows_has out x y hx hy ∙ ap (λ (n : ℕ). has n y) (e x hx) ∙ has-grown rows a b x y
            ∙ sym (ap₂ (λ (p q : Bool). p || q) (rows_has rows x y hx hy)
            (ap₂ (λ (p q : Bool). p && q) (rows_has rows x a hx ha) (rows_has rows b y hb hy)))
      ]
    ]
