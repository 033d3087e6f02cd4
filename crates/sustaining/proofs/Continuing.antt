-- What a sound job's command goes on to.
use Rattle.std.proofs.Common.{◌≡◌, ℕ, ◌-◌, ◌<◌, ◌≤◌, eqb, ◌⊎◌, length, get_or, Some, Option, sym, ap, ◌∙◌, subst, inl, inr, arith}
use Rattle.std.proofs.lemmas.Bool.{cond-false, ne_eqb}
use Rattle.rows.specs.declared.row.CommandRow.{CommandRow}
use Rattle.layout.specs.Network.{Plan}
use Rattle.layout.specs.Zeros.{command0}
use Rattle.meaning.specs.declared.verbs.Verb.{Verb}
use Rattle.meaning.specs.declared.verbs.Verb.TheVariants as verb
use Rattle.meaning.specs.Decoding.{verb_of}
use Rattle.typing.specs.Flow.{command_at, verb_at}
use Rattle.standing.specs.declared.sizes.Sizes.{Sizes}
use Rattle.standing.specs.Tests.{other_of}
use Rattle.standing.specs.Words.{Means, VerbStands, Later, CommandsStand}

-- nothing, or a command of the table
abbrev pub Onward : Sizes → ℕ → Type 0
Onward s to = (to ≡ 0) ⊎ ((0 < to) × (to ≤ s.commands))

later_onward : (s : Sizes) (row to : ℕ) → Later s row to → Onward s to
later_onward s row to (inl e) = inl e
later_onward s row to (inr h) = inr (omega (arith, h.0), h.1)

module _ (s : Sizes) (p : Plan) (w : CommandsStand s p.commands) (count : s.commands ≡ length p.commands) (c : ℕ) (some : 0 < c) (most : c ≤ s.commands) where
  row_of : command_at p c ≡ get_or p.commands (c - 1) command0
  row_of = cond-false (eqb c 0) command0 (get_or p.commands (c - 1) command0) (ne_eqb c 0 (λ e. omega arith))

  inside : c - 1 < length p.commands
  inside = omega arith

  pub next_onward : Onward s (command_at p c).next
  next_onward = subst (λ (q : CommandRow). Onward s q.next) (sym row_of) (later_onward s (c - 1) (get_or p.commands (c - 1) command0).next (w.next_later (c - 1) inside))

  pub other_onward : (other : ℕ) → verb_at p c ≡ Some (verb.Fork other) → Onward s other
  other_onward other e =
      subst (Onward s) (sym (ap (λ (q : CommandRow). other_of (verb_of q)) row_of) ∙ ap other_of e)
      (later_onward s (c - 1) (other_of (verb_of (get_or p.commands (c - 1) command0))) (w.other_later (c - 1) inside))

  pub verb_stands : (v : Verb) → verb_at p c ≡ Some v → VerbStands s v
  verb_stands v e =
      subst (λ (o : Option Verb). Means o (VerbStands s)) (sym (ap verb_of row_of) ∙ e) (w.each (c - 1) inside)
