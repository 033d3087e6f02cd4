-- A set that is written role by role, the lowest first.
use Rattle.std.proofs.Common.{◌≡◌, ℕ, zero, suc, ◌^◌, ◌<◌, ◌≤◌, Bool, true, false, cond, not, ◌&&◌, eqb, List, [], ◌∷◌, ◌++◌, codes, decimal, sym, refl, ap, ◌∙◌, subst, ⊎_elim, append_assoc, append-nil, arith}
use Rattle.std.proofs.lemmas.Bool.{cond-true, cond-false, cases_Bool, cases_eq, and_left, and_right, and_parts, eq-eqb, ne_eqb, not_from_true}
use Rattle.std.specs.declared.fmt.Formatter.{Formatter}
use Rattle.std.specs.Fmt.{HasWritten, IsPlainFormatter}
use Rattle.std.proofs.Output.{has_written_append, has_written_of_eq, writes_in_calls_nil}
use Rattle.order.specs.RoleSets.{has, In, Lowest}
use Rattle.order.proofs.Bits.{has-none, has-below}
use Rattle.dump.specs.Texts.{roles_below, roles_of, role_texts}

-- one role more that is not there
same_below : (set n : ℕ) → has set n ≡ false → roles_below set (suc n) ≡ roles_below set n
unfolding roles_below
same_below set n e = ap (λ l. roles_below set n ++ l) (cond-false _ _ _ e) ∙ append-nil (roles_below set n)

none_below : (set n : ℕ) → ((k : ℕ) → k < n → has set k ≡ false) → roles_below set n ≡ []
unfolding roles_below
none_below set zero none = refl
none_below set (suc n) none = same_below set n (none n (omega arith)) ∙ none_below set n (λ k h. none k (omega arith))

module _ {set role rest : ℕ} (l : Lowest set role rest) where
  lower : (k : ℕ) → k < role → has set k ≡ false
  lower k h = ⊎_elim (λ e. absurd (let le : role ≤ k = l.lowest k e in omega arith)) (λ e. e) (cases_Bool (has set k))

  rest_lower : (k : ℕ) → k < role → has rest k ≡ false
  rest_lower k h = l.others k ∙ and_left _ _ (lower k h)

  rest-role : has rest role ≡ false
  rest-role = l.others role ∙ and_right _ _ (not_from_true _ (eq-eqb role role refl))

  rest-other : (k : ℕ) → (role ≡ k → ⊥) → has rest k ≡ has set k
  rest-other k ne = l.others k ∙ ap (λ b. has set k && not b) (ne_eqb role k ne) ∙ and_yes (has set k)
    where
      and_yes : (b : Bool) → (b && true) ≡ b
      and_yes true = refl
      and_yes false = refl

  here : (n : ℕ) → role ≡ n → roles_below set (suc n) ≡ role ∷ roles_below rest (suc n)
  unfolding roles_below
  here n e =
      ap (λ xs. xs ++ cond (has set n) (n ∷ []) []) (none_below set n (λ k lt. lower k (omega arith)))
      ∙ cond-true _ _ _ (subst (λ (m : ℕ). has set m ≡ true) e l.member)
      ∙ ap (λ m. m ∷ []) (sym e)
      ∙ sym (ap (λ xs. role ∷ xs) (same_below rest n (subst (λ (m : ℕ). has rest m ≡ false) e rest-role) ∙ none_below rest n (λ k lt. rest_lower k (omega arith))))

  there : (n : ℕ) → (role ≡ n → ⊥) → roles_below set n ≡ role ∷ roles_below rest n → roles_below set (suc n) ≡ role ∷ roles_below rest (suc n)
  unfolding roles_below
  there n ne before =
      ap (λ xs. xs ++ cond (has set n) (n ∷ []) []) before
      ∙ ap (λ b. role ∷ (roles_below rest n ++ cond b (n ∷ []) [])) (sym (rest-other n ne))

  -- the lowest role comes first
  first_below : (n : ℕ) → role < n → roles_below set n ≡ role ∷ roles_below rest n
  first_below zero h = absurd (omega arith)
  first_below (suc n) h = ⊎_elim (here n) (λ ne. there n ne (first_below n (omega arith))) (cases_eq role n)

-- the loop's invariant: what is written, and the roles to come, are all roles
pub record Sofar {W : Type 0} (took : W → List ℕ → W → Type 0) (first f : Formatter W) (comma : List ℕ) (left set : ℕ) : Type 0 where
  pub text : List ℕ
  pub wrote : HasWritten took first text f
  pub small : (x : ℕ) → In x left → x < 64
  pub whole : text ++ role_texts comma (roles_of left) ≡ role_texts [] (roles_of set)
  pub plain : IsPlainFormatter f

module _ {W : Type 0} (took : W → List ℕ → W → Type 0) (first : Formatter W) where
  pub none_yet : (left set : ℕ) → set < 2 ^ 64 → left ≡ set → IsPlainFormatter first → Sofar took first first [] left set
  none_yet left set fits same plain = record {
    text = [];
    wrote = record { wrote = writes_in_calls_nil took _; plain = plain };
    small = λ x t. has-below 64 set x fits (subst (λ (n : ℕ). In x n) same t);
    whole = ap (λ n. role_texts [] (roles_of n)) same;
    plain = plain;
  }

  module _ {f : Formatter W} {comma : List ℕ} {left set : ℕ} (old : Sofar took first f comma left set) where
    pub one_more : (role rest : ℕ) (g : Formatter W) → Lowest left role rest → HasWritten took f (comma ++ decimal role) g → Sofar took first g (codes ",") rest set
    one_more role rest g l more = record {
      text = old.text ++ (comma ++ decimal role);
      wrote = has_written_append took _ _ _ _ _ old.wrote more;
      small = λ x t. old.small x (and_parts (has left x) (not (eqb role x)) (sym (l.others x) ∙ t)).0;
      whole =
          append_assoc old.text (comma ++ decimal role) (role_texts (codes ",") (roles_of rest))
          ∙ ap (λ t. old.text ++ t) (append_assoc comma (decimal role) (role_texts (codes ",") (roles_of rest)))
          ∙ ap (λ rs. old.text ++ role_texts comma rs) (sym (first_below l 64 (old.small role l.member)))
          ∙ old.whole;
      plain = more.plain;
    }

    pub all_written : left ≡ 0 → HasWritten took first (role_texts [] (roles_of set)) f
    all_written none =
        has_written_of_eq took _ _ _ _
        (sym (append-nil old.text) ∙ ap (λ rs. old.text ++ role_texts comma rs) (sym (ap roles_of none ∙ none_below 0 64 (λ k _. has-none k))) ∙ old.whole)
        old.wrote
