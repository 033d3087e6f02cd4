-- What is told from a command on, by what is told from the later ones.
use Rattle.std.proofs.Common.{◌≡◌, ℕ, zero, suc, ◌+◌, ◌-◌, ◌<◌, ◌≤◌, Bool, cond, eqb, ltb, List, [], ◌∷◌, length, get_or, drop, Some, None, Option, sym, refl, ap, ◌∙◌, inl, inr, arith}
use Rattle.std.proofs.lemmas.Bool.{cases_eq, cases_lt, cond-true, cond-false, ne_eqb, lt-ltb, le-ltb}
use Rattle.std.proofs.lemmas.List.{get_or-drop, get_or_past}
use Rattle.rows.specs.declared.row.CommandRow.{CommandRow}
use Rattle.layout.specs.Network.{Plan}
use Rattle.layout.specs.Zeros.{command0}
use Rattle.meaning.specs.declared.verbs.Verb.{Verb}
use Rattle.meaning.specs.Decoding.{verb_of}
use Rattle.scan.specs.Scan.{or_else}
use Rattle.commands.specs.declared.standing.Standing.{Standing}
use Rattle.commands.specs.Tests.{broken}
use Rattle.typing.specs.declared.breach.CommandBreach.{CommandBreach}
use Rattle.typing.specs.Flow.{command_at, verb_at, other_of, standing_after}
use Rattle.typing.specs.Telling.{Telling, nothing, followed, breach_at, verb_told, command_told, tellings, told, later}

module _ (below : ℕ → ℕ → Bool) (p : Plan) where
  length_tellings : (row : ℕ) (qs : List CommandRow) → length (tellings below p row qs) ≡ length qs
  unfolding tellings
  length_tellings row [] = refl
  length_tellings row (q ∷ qs) = ap suc (length_tellings (row + 1) qs)

  drop_tellings : (qs : List CommandRow) (row k r : ℕ) → r ≡ row + k → tellings below p r (drop k qs) ≡ drop k (tellings below p row qs)
  unfolding tellings
  drop_tellings qs row zero r e = let z : r ≡ row = omega arith in ap (λ (n : ℕ). tellings below p n qs) z
  drop_tellings [] row (suc k) r e = refl
  drop_tellings (q ∷ qs) row (suc k) r e = drop_tellings qs (row + 1) k r (omega arith)

  telling_at : (qs : List CommandRow) (row k r : ℕ) → r ≡ row + k → k < length qs
      → get_or (tellings below p row qs) k nothing ≡ command_told below p (tellings below p (r + 1) (drop (suc k) qs)) r (get_or qs k command0)
  unfolding tellings
  telling_at [] row k r e h = absurd (omega arith)
  telling_at (q ∷ qs) row zero r e h = let z : row ≡ r = omega arith in ap (λ (n : ℕ). command_told below p (tellings below p (n + 1) qs) n q) z
  telling_at (q ∷ qs) row (suc k) r e h = telling_at qs (row + 1) k r (omega arith) (omega arith)

  pub told_zero : (s : Standing) → told below p s 0 ≡ None
  unfolding told
  told_zero s = refl

  told_number : (s : Standing) (c : ℕ) → 0 < c → told below p s c ≡ get_or (tellings below p 0 p.commands) (c - 1) nothing s
  unfolding told
  told_number s c h = cond-false (eqb c 0) None (get_or (tellings below p 0 p.commands) (c - 1) nothing s) (ne_eqb c 0 (λ e. omega arith))

  pub command_number : (c : ℕ) → 0 < c → command_at p c ≡ get_or p.commands (c - 1) command0
  command_number c h = cond-false (eqb c 0) command0 (get_or p.commands (c - 1) command0) (ne_eqb c 0 (λ e. omega arith))

  -- a continuation of the command in this row is told as the later command that it is, or as none
  followed_told : (row to : ℕ) (s : Standing) → followed (drop (suc row) (tellings below p 0 p.commands)) row to s ≡ told below p s (later (row + 1) to)
  followed_told row to s = elim (cases_lt (row + 1) to) [
    | inl l ↦
        ap (λ (b : Bool). cond b (get_or (drop (suc row) ts) (to - (row + 2)) nothing) nothing s) (lt-ltb (row + 1) to l)
        ∙ (ap (λ (t : Telling). t s) (get_or-drop (suc row) ts (to - (row + 2)) nothing)
        ∙ (ap (λ (n : ℕ). get_or ts n nothing s) (omega arith)
        ∙ (sym (told_number s to (omega arith)) ∙ ap (told below p s) (sym (cond-true (ltb (row + 1) to) to 0 (lt-ltb (row + 1) to l))))))
    | inr l ↦
        ap (λ (b : Bool). cond b (get_or (drop (suc row) ts) (to - (row + 2)) nothing) nothing s) (le-ltb (row + 1) to l)
        ∙ (sym (told_zero s) ∙ ap (told below p s) (sym (cond-false (ltb (row + 1) to) to 0 (le-ltb (row + 1) to l))))
  ]
    where
      ts : List Telling
      ts = tellings below p 0 p.commands

  past_row : (c : ℕ) → 0 < c → length p.commands ≤ c - 1 → verb_at p c ≡ None
  past_row c h l = ap verb_of (command_number c h ∙ get_or_past p.commands (c - 1) command0 l)

  none_some : (v : Verb) → ◌≡◌ {A = Option Verb} None (Some v) → ⊥
  none_some v e = let z : ◌≡◌ {A = ℕ} 0 1 = cc in absurd (omega arith)

  -- a number that means a verb is that of a command
  pub in_rows : (c : ℕ) (v : Verb) → verb_at p c ≡ Some v → (0 < c) × (c ≤ length p.commands)
  in_rows c v e = elim (cases_eq c 0) [
    | inl z ↦ absurd (none_some v (sym (ap (verb_at p) z) ∙ e))
    | inr n ↦ elim (cases_lt (c - 1) (length p.commands)) [ inl l ↦ (omega arith, omega arith) | inr l ↦ absurd (none_some v (sym (past_row c (omega arith) l) ∙ e)) ]
  ]

  -- what is told of the command in this row, by what is told of the later ones
  row_told : (row : ℕ) (s : Standing) → row < length p.commands
      → get_or (tellings below p 0 p.commands) row nothing s
      ≡ verb_told below p (drop (suc row) (tellings below p 0 p.commands)) row (get_or p.commands row command0).next (verb_of (get_or p.commands row command0)) s
  row_told row s h =
      let z : row ≡ 0 + row = omega arith in
      let y : row + 1 ≡ 0 + suc row = omega arith in
      ap (λ (t : Telling). t s) (telling_at p.commands 0 row row z h)
      ∙ ap (λ (ts : List Telling). command_told below p ts row (get_or p.commands row command0) s) (drop_tellings p.commands 0 (suc row) (row + 1) y)

  -- a number that means no verb tells nothing
  pub told_none : (s : Standing) (c : ℕ) → verb_at p c ≡ None → told below p s c ≡ None
  told_none s c e = elim (cases_eq c 0) [
    | inl z ↦ ap (told below p s) z ∙ told_zero s
    | inr n ↦
        told_number s c (omega arith)
        ∙ elim (cases_lt (c - 1) (length p.commands)) [
          | inl l ↦ row_told (c - 1) s l ∙ ap (λ (o : Option Verb). verb_told below p rest (c - 1) (get_or p.commands (c - 1) command0).next o s) (ap verb_of (sym (command_number c (omega arith))) ∙ e)
          | inr l ↦ ap (λ (t : Telling). t s) (get_or_past (tellings below p 0 p.commands) (c - 1) nothing (omega (arith, length_tellings 0 p.commands)))
        ]
  ]
    where
      rest : List Telling
      rest = drop (suc (c - 1)) (tellings below p 0 p.commands)

  -- a command is told, then its continuations
  pub told_verb : (s : Standing) (c : ℕ) (v : Verb) → verb_at p c ≡ Some v
      → told below p s c
      ≡ or_else (breach_at (c - 1) (broken below p s v))
      (or_else (told below p (standing_after p s v) (later c (command_at p c).next)) (told below p s (later c (other_of v))))
  told_verb s c v e =
      let h = in_rows c v e in
      let n : c - 1 + 1 ≡ c = omega (arith, h.0) in
      told_number s c h.0
      ∙ (row_told (c - 1) s (omega (arith, h.0, h.1))
      ∙ (ap (λ (o : Option Verb). verb_told below p rest (c - 1) (get_or p.commands (c - 1) command0).next o s) (ap verb_of (sym (command_number c h.0)) ∙ e)
      ∙ (ap (λ (q : CommandRow). verb_told below p rest (c - 1) q.next (Some v) s) (sym (command_number c h.0))
      ∙ (ap (λ (o : Option CommandBreach). or_else (breach_at (c - 1) (broken below p s v)) (or_else o (followed rest (c - 1) (other_of v) s))) (follow n (command_at p c).next (standing_after p s v))
      ∙ ap (λ (o : Option CommandBreach). or_else (breach_at (c - 1) (broken below p s v)) (or_else (told below p (standing_after p s v) (later c (command_at p c).next)) o)) (follow n (other_of v) s)))))
    where
      rest : List Telling
      rest = drop (suc (c - 1)) (tellings below p 0 p.commands)

      follow : c - 1 + 1 ≡ c → (to : ℕ) (s : Standing) → followed rest (c - 1) to s ≡ told below p s (later c to)
      follow n to s = followed_told (c - 1) to s ∙ ap (λ (m : ℕ). told below p s (later m to)) n
