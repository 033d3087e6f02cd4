-- Each way in which the first breach is found.
use Rattle.std.proofs.Common.{◌≡◌, ℕ, ◌+◌, ◌-◌, ◌^◌, ◌<◌, ◌≤◌, Bool, cond, eqb, ltb, ◌⊎◌, length, get_or, Some, None, Option, IfSome, sym, refl, ap, ◌∙◌, subst, inl, inr, arith}
use Rattle.std.proofs.lemmas.Bool.{cases_lt, cond-true, cond-false, ne_eqb, lt-ltb, le-ltb}
use Rattle.rows.specs.declared.row.CommandRow.{CommandRow}
use Rattle.layout.specs.Network.{Plan}
use Rattle.layout.specs.Zeros.{command0}
use Rattle.meaning.specs.declared.verbs.Verb.{Verb}
use Rattle.meaning.specs.declared.verbs.Verb.TheVariants as verb
use Rattle.meaning.specs.Decoding.{verb_of}
use Rattle.scan.specs.Scan.{or_else}
use Rattle.commands.specs.declared.standing.Standing.{Standing}
use Rattle.commands.specs.declared.rule.CommandRule.{CommandRule}
use Rattle.commands.specs.Rules.{Asks, LowestBroken}
use Rattle.commands.specs.Tests.{broken}
use Rattle.typing.specs.declared.breach.CommandBreach.{CommandBreach}
use Rattle.typing.specs.Flow.{command_at, verb_at, other_of, standing_after, Onward, Flows}
use Rattle.typing.specs.Typing.{Typed}
use Rattle.typing.specs.Typing.Typed.{nil}
use Rattle.typing.specs.Telling.{breach_at, told, later, Leads, Broken, Judged}
use Rattle.typing.specs.Telling.Leads.{here, next, other}
use Rattle.typing.proofs.Inversions.{typed_from, parts}
use Rattle.typing.proofs.Tellings.{command_number, in_rows, told_zero, told_none, told_verb}

module _ (below : ℕ → ℕ → Bool) (p : Plan) where
  -- ---- continuations

  later_is : (c to : ℕ) → (c < to × (later c to ≡ to)) ⊎ (to ≤ c × (later c to ≡ 0))
  later_is c to = elim (cases_lt c to) [
    | inl l ↦ inl (l, cond-true (ltb c to) to 0 (lt-ltb c to l))
    | inr l ↦ inr (l, cond-false (ltb c to) to 0 (le-ltb c to l))
  ]

  typed_later : (s : Standing) (c to : ℕ) → Typed below p s to → Typed below p s (later c to)
  typed_later s c to w = elim (later_is c to) [ inl l ↦ subst (Typed below p s) (sym l.1) w | inr l ↦ nil l.1 ]

  -- where continuations are later commands, each is followed
  onward_later : (row to : ℕ) → Onward p.commands row to → (later (row + 1) to ≡ to) × (to ≤ length p.commands)
  onward_later row to (inl z) = elim (later_is (row + 1) to) [ inl l ↦ (l.1, omega arith) | inr l ↦ (l.1 ∙ sym z, omega arith) ]
  onward_later row to (inr w) = elim (later_is (row + 1) to) [ inl l ↦ (l.1, w.1) | inr l ↦ absurd (omega (arith, l.0, w.0)) ]

  -- ---- the four ways

  pub judged_zero : (s : Standing) → Judged below p s 0 None
  judged_zero s = record { answer = sym (told_zero below p s); stands = λ f h e. nil refl; untold = λ w. refl; broken = tt }

  -- a command that means no verb
  pub judged_none : (s : Standing) (c : ℕ) → 0 < c → verb_at p c ≡ None → Judged below p s c None
  judged_none s c h e = record {
    answer = sym (told_none below p s c e);
    stands = λ f l d. absurd (never f l);
    untold = λ w. refl;
    broken = tt;
  }
    where
      never : Flows p.commands → c ≤ length p.commands → ⊥
      never f l = let m = f.means (c - 1) (omega arith) in let d = sym (ap verb_of (command_number below p c h)) ∙ e in absurd (grind (arith, m, d))

  some_none : (b : CommandBreach) → ◌≡◌ {A = Option CommandBreach} (Some b) None → ⊥
  some_none b e = absurd (grind arith)

  leads_somewhere : (t : Standing) (d : ℕ) (s : Standing) (c : ℕ) → Leads p t (d + 1) s c → c ≡ 0 → ⊥
  leads_somewhere t d s c (here e q) z = omega (arith, q)
  leads_somewhere t d s c (next v e l) z = omega (arith, (in_rows below p c v e).0)
  leads_somewhere t d s c (other v e l) z = omega (arith, (in_rows below p c v e).0)

  leads_later : (t : Standing) (d : ℕ) (s : Standing) (c to : ℕ) → Leads p t (d + 1) s (later c to) → Leads p t (d + 1) s to
  leads_later t d s c to l = elim (later_is c to) [ inl w ↦ subst (Leads p t (d + 1) s) w.1 l | inr w ↦ absurd (leads_somewhere t d s (later c to) l w.1) ]

  -- its own breach is the first
  pub judged_own : (s : Standing) (c : ℕ) (v : Verb) (r : CommandRule) → verb_at p c ≡ Some v → broken below p s v ≡ Some r → LowestBroken (Asks below p s v) (Some r)
      → Judged below p s c (Some (record { row = c - 1; rule = r }))
  judged_own s c v r e q l =
      let h = in_rows below p c v e in
      let z : c - 1 + 1 ≡ c = omega (arith, h.0) in record {
        answer = sym (told_verb below p s c v e ∙ ap (λ (o : Option CommandRule). or_else (breach_at (c - 1) o) (rest s c v)) q);
        stands = λ f k n. absurd (some_none _ n);
        untold = λ w. absurd (l.0 ((parts below p w v e).asks r));
        broken = record { standing = s; verb = v; leads = here refl (sym z); means = ap (verb_at p) z ∙ e; broken = l.0; lowest = l.1 };
      }
    where
      rest : Standing → ℕ → Verb → Option CommandBreach
      rest s c v = or_else (told below p (standing_after p s v) (later c (command_at p c).next)) (told below p s (later c (other_of v)))

  -- it keeps each rule, and the first breach is behind its next
  pub judged_next : (s : Standing) (c : ℕ) (v : Verb) (b : CommandBreach) → verb_at p c ≡ Some v → broken below p s v ≡ None
      → Judged below p (standing_after p s v) (later c (command_at p c).next) (Some b) → Judged below p s c (Some b)
  judged_next s c v b e q n = record {
    answer =
        sym (told_verb below p s c v e
        ∙ (ap (λ (o : Option CommandRule). or_else (breach_at (c - 1) o) (or_else (told below p (standing_after p s v) (later c (command_at p c).next)) (told below p s (later c (other_of v))))) q
        ∙ ap (λ (o : Option CommandBreach). or_else o (told below p s (later c (other_of v)))) (sym n.answer)));
    stands = λ f k d. absurd (some_none b d);
    untold = λ w. n.untold (typed_later (standing_after p s v) c (command_at p c).next (parts below p w v e).next);
    broken = record {
      standing = n.broken.standing;
      verb = n.broken.verb;
      leads = next v e (leads_later n.broken.standing b.row (standing_after p s v) c (command_at p c).next n.broken.leads);
      means = n.broken.means;
      broken = n.broken.broken;
      lowest = n.broken.lowest;
    };
  }

  onward_other : Flows p.commands → (row : ℕ) → row < length p.commands → (v : Verb) → verb_of (get_or p.commands row command0) ≡ Some v → Onward p.commands row (other_of v)
  onward_other f row h (verb.Fork to) e = f.other row to h e
  onward_other f row h (verb.Go location roles) e = inl refl
  onward_other f row h (verb.Run path) e = inl refl
  onward_other f row h (verb.Read path pattern) e = inl refl
  onward_other f row h (verb.Change path pattern content) e = inl refl
  onward_other f row h (verb.Enable path role) e = inl refl
  onward_other f row h (verb.Disable path role) e = inl refl

  -- it keeps each rule, nothing is told behind its next, and what is told is what is told behind the other
  pub judged_other : (s : Standing) (c : ℕ) (v : Verb) (r : Option CommandBreach) → verb_at p c ≡ Some v → broken below p s v ≡ None → LowestBroken (Asks below p s v) None
      → Judged below p (standing_after p s v) (later c (command_at p c).next) None → Judged below p s (later c (other_of v)) r → Judged below p s c r
  judged_other s c v r e q l n o = record {
    answer =
        sym (told_verb below p s c v e
        ∙ (ap (λ (x : Option CommandRule). or_else (breach_at (c - 1) x) (or_else (told below p (standing_after p s v) (later c (command_at p c).next)) (told below p s (later c (other_of v))))) q
        ∙ (ap (λ (x : Option CommandBreach). or_else x (told below p s (later c (other_of v)))) (sym n.answer) ∙ sym o.answer)));
    stands = λ f k d.
        let h = in_rows below p c v e in
        let z : c - 1 + 1 ≡ c = omega (arith, h.0) in
        let row : c - 1 < length p.commands = omega (arith, h.0, h.1) in
        let on = followed_next f c h.0 row z in
        let off = subst (λ (m : ℕ). (later m (other_of v) ≡ other_of v) × (other_of v ≤ length p.commands)) z
        (onward_later (c - 1) (other_of v) (onward_other f (c - 1) row v (ap verb_of (sym (command_number below p c h.0)) ∙ e))) in
        typed_from below p s c v e l
        (subst (Typed below p (standing_after p s v)) on.0 (n.stands f (subst (λ (m : ℕ). m ≤ length p.commands) (sym on.0) on.1) refl))
        (subst (Typed below p s) off.0 (o.stands f (subst (λ (m : ℕ). m ≤ length p.commands) (sym off.0) off.1) d));
    untold = λ w. o.untold (typed_later s c (other_of v) (parts below p w v e).other);
    broken = led r o.broken;
  }
    where
      followed_next : Flows p.commands → (c : ℕ) → 0 < c → c - 1 < length p.commands → c - 1 + 1 ≡ c
          → (later c (command_at p c).next ≡ (command_at p c).next) × ((command_at p c).next ≤ length p.commands)
      followed_next f c h row z =
          subst (λ (q : CommandRow). (later c q.next ≡ q.next) × (q.next ≤ length p.commands)) (sym (command_number below p c h))
          (subst (λ (m : ℕ). (later m (get_or p.commands (c - 1) command0).next ≡ (get_or p.commands (c - 1) command0).next) × ((get_or p.commands (c - 1) command0).next ≤ length p.commands)) z
          (onward_later (c - 1) (get_or p.commands (c - 1) command0).next (f.next (c - 1) row)))

      led : (r : Option CommandBreach) → IfSome r (Broken below p s (later c (other_of v))) → IfSome r (Broken below p s c)
      led None w = tt
      led (Some b) w = record {
        standing = w.standing;
        verb = w.verb;
        leads = other v e (leads_later w.standing b.row s c (other_of v) w.leads);
        means = w.means;
        broken = w.broken;
        lowest = w.lowest;
      }

-- ---- the end

abbrev pub room : ℕ → ℕ
room c = cond (eqb c 0) 0 (2 ^ 32 - c)

-- fewer numbers are left from a later command on, and none from 0
pub room_falls : (c to r t : ℕ) → (c ≡ 0 → ⊥) → c < 2 ^ 32 → r ≡ later c to → t ≡ room c → room r < t
room_falls c to r t n low e d = subst (λ (m : ℕ). room m < t) (sym e) (subst (λ (m : ℕ). room (later c to) < m) (sym d) (falls (cases_lt c to)))
  where
    here : room c ≡ 2 ^ 32 - c
    here = cond-false (eqb c 0) 0 (2 ^ 32 - c) (ne_eqb c 0 n)

    falls : (c < to) ⊎ (to ≤ c) → room (later c to) < room c
    falls (inl l) =
        let k : room to ≡ 2 ^ 32 - to = cond-false (eqb to 0) 0 (2 ^ 32 - to) (ne_eqb to 0 (λ z. omega arith)) in
        subst (λ (m : ℕ). room m < room c) (sym (cond-true (ltb c to) to 0 (lt-ltb c to l))) (omega (arith, k, here))
    falls (inr l) = subst (λ (m : ℕ). room m < room c) (sym (cond-false (ltb c to) to 0 (le-ltb c to l))) (omega (arith, here))

pub judged_like : (below : ℕ → ℕ → Bool) (p : Plan) (s t : Standing) (c d : ℕ) (r : Option CommandBreach) → s ≡ t → c ≡ d → Judged below p s c r → Judged below p t d r
judged_like below p s t c d r e f w = subst (λ (u : Standing). Judged below p u d r) e (subst (λ (n : ℕ). Judged below p s n r) f w)
