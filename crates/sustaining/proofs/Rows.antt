-- The rows that flags name.
use Rattle.std.proofs.Common.{◌≡◌, ℕ, suc, ◌+◌, ◌-◌, ◌<◌, ◌≤◌, Bool, true, false, cond, List, [], ◌∷◌, length, get_or, sym, ap, ◌∙◌, inl, inr, arith}
use Rattle.std.proofs.lemmas.Bool.{cases_lt, true≢false}
use Rattle.rows.specs.declared.row.PathStepRow.{PathStepRow}
use Rattle.layout.specs.Network.{TreeLines, Plan}
use Rattle.meaning.specs.declared.patterns.Pattern.{Pattern}
use Rattle.scan.specs.Scan.{Each}
use Rattle.edges.specs.Matching.{EdgeMatches, Selected}
use Rattle.edges.specs.Paths.{Found, Flagged}
use Rattle.edges.specs.Rows.{rows_from, flagged_rows}
use Rattle.sustaining.proofs.Lists.{each_none, each_more}

-- the flag of the row is set, where the flags begin at `from`
abbrev Named : List Bool → ℕ → ℕ → Type 0
Named flags from row = (from ≤ row) × (get_or flags (row - from) false ≡ true)

named_later : (flag : Bool) (flags : List Bool) (from row : ℕ) → Named flags (from + 1) row → Named (flag ∷ flags) from row
named_later flag flags from row w =
    let e : row - from ≡ suc (row - (from + 1)) = omega (arith, w.0) in
    (omega (arith, w.0), ap (λ (k : ℕ). get_or (flag ∷ flags) k false) e ∙ w.1)

named_here : (flags : List Bool) (from : ℕ) → Named (true ∷ flags) from from
named_here flags from = let e : from - from ≡ 0 = omega arith in (omega arith, ap (λ (k : ℕ). get_or (true ∷ flags) k false) e)

rows_named : (flags : List Bool) (from : ℕ) → Each (Named flags from) 0 (rows_from from flags)
rows_named [] from = each_none (Named [] from) 0
rows_named (flag ∷ flags) from = go flag (λ i h. named_later flag flags from (get_or (rows_from (from + 1) flags) i 0) (rows_named flags (from + 1) i h))
  where
    go : (b : Bool) → Each (Named (b ∷ flags) from) 0 (rows_from (from + 1) flags) → Each (Named (b ∷ flags) from) 0 (cond b (from ∷ rows_from (from + 1) flags) (rows_from (from + 1) flags))
    go true rest = each_more (Named (true ∷ flags) from) 0 from (rows_from (from + 1) flags) (named_here flags from) rest
    go false rest = rest

flagged : (flags : List Bool) (k : ℕ) → k < length (flagged_rows flags) → get_or flags (get_or (flagged_rows flags) k 0) false ≡ true
flagged flags k h =
    let row = get_or (flagged_rows flags) k 0 in
    let e : row - 0 ≡ row = omega arith in
    sym (ap (λ (i : ℕ). get_or flags i false) e) ∙ (rows_named flags 0 k h).1

module _ (below : ℕ → ℕ → Bool) (path : List PathStepRow) (tree : TreeLines) where
  inside : (flags : List Bool) → ((i : ℕ) → length tree ≤ i → get_or flags i false ≡ false) → (i : ℕ) → get_or flags i false ≡ true → i < length tree
  inside flags beyond i t = elim (cases_lt i (length tree)) [ inl h ↦ h | inr h ↦ absurd (true≢false (sym t ∙ beyond i h)) ]

  -- flags for the edges found name edges found
  pub rows_found : (flags : List Bool) → Flagged below path tree flags → Each (Found below path tree) 0 (flagged_rows flags)
  rows_found flags w k h =
      let row = get_or (flagged_rows flags) k 0 in
      (w.each row (inside flags w.beyond row (flagged flags k h))).0 (flagged flags k h)

  -- and flags for those that are matched too, edges that are found and matched
  pub rows_matched : (p : Plan) (m : Pattern) (flags : List Bool) → Selected below path p m tree flags
      → Each (λ row. Found below path tree row × EdgeMatches below p m tree row) 0 (flagged_rows flags)
  rows_matched p m flags w k h =
      let row = get_or (flagged_rows flags) k 0 in
      (w.each row (inside flags w.beyond row (flagged flags k h))).0 (flagged flags k h)
