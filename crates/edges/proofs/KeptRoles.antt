-- The roles of a set that pass a test, gathered role by role.
use Rattle.std.proofs.Common.{◌≡◌, ℕ, ◌^◌, ◌<◌, Bool, true, false, not, cond, ◌&&◌, ◌||◌, eqb, sym, refl, ap, ◌∙◌, subst}
use Rattle.std.proofs.lemmas.Bool.{and_parts, eqb-true}
use Rattle.order.specs.RoleSets.{has, In, Part, Lowest, with_role, kept}
use Rattle.order.proofs.Bits.{has-none, has_same, has-below, has-insert, small_from_roles, small_of_itself}
use Rattle.order.proofs.Keep.{has_kept, membership}

-- those of `set` that are no longer in `rest` were tried, and the ones that pass are in `left`
pub record Gathered (p : ℕ → Bool) (set rest left : ℕ) : Type 0 where
  pub part : Part rest set
  pub roles : (x : ℕ) → has left x ≡ ((has set x && not (has rest x)) && p x)

no_and : (b : Bool) → (b && false) ≡ false
no_and true = refl
no_and false = refl

module _ (p : ℕ → Bool) (set : ℕ) where
  pub gathered_none : Gathered p set set 0
  gathered_none = record { part = λ x m. m; roles = λ x. has-none x ∙ never (has set x) (p x) }
    where
      never : (b q : Bool) → false ≡ ((b && not b) && q)
      never true q = refl
      never false q = refl

  gathered_small : (rest left : ℕ) → set < 2 ^ 64 → Gathered p set rest left → left < 2 ^ 64
  gathered_small rest left small g =
      small_from_roles 64 left left (small_of_itself left)
      (λ x m. has-below 64 set x small (and_parts (has set x) (not (has rest x)) (and_parts (has set x && not (has rest x)) (p x) (sym (g.roles x) ∙ m)).0).0)

  pub gathered_all : (left : ℕ) → set < 2 ^ 64 → Gathered p set 0 left → left ≡ kept p set
  gathered_all left small g =
      has_same 64 left (kept p set) (gathered_small 0 left small g) (membership.kept_small p set)
      (λ x h. g.roles x ∙ (ap (λ (b : Bool). (has set x && not b) && p x) (has-none x) ∙ (always (has set x) (p x) ∙ sym (has_kept p set small x))))
    where
      always : (b q : Bool) → ((b && not false) && q) ≡ (b && q)
      always true q = refl
      always false q = refl

  -- in: the role's place in the set; at: whether this is the role; q: whether it passes
  module _ (rest rest' role left : ℕ) (l : Lowest rest role rest') (g : Gathered p set rest left) where
    part : Part rest' rest
    part x m = first (has rest x) (not (eqb role x)) (sym (l.others x) ∙ m)
      where
        first : (a b : Bool) → (a && b) ≡ true → a ≡ true
        first true b e = refl
        first false b e = e

    gathered_next : Gathered p set rest' (cond (p role) (with_role left role) left)
    gathered_next = record {
      part = λ x m. g.part x (part x m);
      roles = λ x. with_it (p role) refl x ∙ rw (g.roles x) (joined (has set x) (has rest x) (eqb role x) (p x) (p role) (here x) (same x) ∙ ap (λ (b : Bool). (has set x && not b) && p x) (sym (l.others x)));
    }
      where
        with_it : (b : Bool) → p role ≡ b → (x : ℕ) → has (cond b (with_role left role) left) x ≡ (has left x || (b && eqb role x))
        with_it true e x = has-insert left role x
        with_it false e x = sym (nothing (has left x))
          where
            nothing : (a : Bool) → (a || false) ≡ a
            nothing true = refl
            nothing false = refl

        -- the role itself is in the rest, and in the set
        here : (x : ℕ) → eqb role x ≡ true → (has rest x ≡ true) × (has set x ≡ true)
        here x e =
            let q : role ≡ x = eqb-true role x e in
            (subst (λ (n : ℕ). In n rest) q l.member, subst (λ (n : ℕ). In n set) q (g.part role l.member))

        same : (x : ℕ) → eqb role x ≡ true → p x ≡ p role
        same x e = ap p (sym (eqb-true role x e))

        joined : (s r at q q' : Bool) → (at ≡ true → (r ≡ true) × (s ≡ true)) → (at ≡ true → q ≡ q')
            → (((s && not r) && q) || (q' && at)) ≡ ((s && not (r && not at)) && q)
        joined s r true q q' h k = rw ((h refl).0, (h refl).1) (yes_and q' ∙ sym (k refl))
          where
            yes_and : (b : Bool) → (b && true) ≡ b
            yes_and true = refl
            yes_and false = refl
        joined false r false q q' h k = no_and q'
        joined true true false q q' h k = no_and q'
        joined true false false true q' h k = refl
        joined true false false false q' h k = no_and q'

    -- one turn of the loop
    pub gathered_turn : (left' : ℕ) → left' ≡ cond (p role) (with_role left role) left → Gathered p set rest' left'
    gathered_turn left' e = subst (λ (n : ℕ). Gathered p set rest' n) (sym e) gathered_next
