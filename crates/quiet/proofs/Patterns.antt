-- Trees that match a pattern.
use Rattle.std.proofs.Common.{◌≡◌, ℕ, ◌+◌, ◌^◌, ◌<◌, ◌≤◌, Bool, true, false, not, ◌||◌, eqb, ◌⊎◌, List, get_or, sym, refl, ap, ◌∙◌, inl, inr, arith}
use lib.Bits.{bit_or, or_lt}
use Rattle.std.proofs.Math.Pow.{pow_mono}
use Rattle.std.proofs.lemmas.Bool.{cases_eq, eq-eqb, ne_eqb, and_from, or_left, or_right}
use Rattle.order.specs.Laws.{Lawful}
use Rattle.order.specs.RoleSets.{has, Part, set_below}
use Rattle.order.proofs.Bits.{has-or, has_same, small_of_itself}
use Rattle.rows.specs.declared.row.JobRow.{JobRow}
use Rattle.rows.specs.declared.row.TreeLine.{TreeLine}
use Rattle.layout.specs.Network.{TreeLines}
use Rattle.layout.specs.Zeros.{line0}
use Rattle.scan.specs.Scan.{clear}
use Rattle.scan.proofs.Scan.{each_bad}
use Rattle.obeying.specs.Rules.{LineMatches, Matches}
use Rattle.obeying.specs.Breaches.{part_of, line_matches, lines_match, tree_breach, tree_matches}
use Rattle.quiet.proofs.Sets.{set_passes}
use Rattle.quiet.proofs.Trees.{tree_quiet}

or_absorbs : (a b : Bool) → (a ≡ true → b ≡ true) → (a || b) ≡ b
or_absorbs true b f = sym (f refl)
or_absorbs false b f = refl

part_passes : (a b : ℕ) → Part a b → part_of a b ≡ true
part_passes a b w =
    let l = small_of_itself a in
    let m = small_of_itself b in
    eq-eqb (bit_or a b) b
    (has_same (a + b) (bit_or a b) b (or_lt (a + b) a b (wider a (a + b) (omega arith) l) (wider b (a + b) (omega arith) m)) (wider b (a + b) (omega arith) m)
    (λ r h. has-or a b r ∙ or_absorbs (has a r) (has b r) (w r)))
  where
    wider : (n w : ℕ) → n ≤ w → n < 2 ^ n → n < 2 ^ w
    wider n w h l = omega (arith, pow_mono {i = n} {j = w} h)

module _ {count top : ℕ} {below : ℕ → ℕ → Bool} (law : Lawful count top below) (least : ℕ) (jobs : List JobRow) (policy topmost all : ℕ) where
  line_passes : (x : TreeLine) → LineMatches below topmost all x → line_matches below topmost all x ≡ true
  line_passes x w = and_from (not (eqb x.depth 1) || part_of x.set topmost) (set_below below x.set all) (outer (cases_eq x.depth 1)) (set_passes law x.set all w.every)
    where
      outer : (x.depth ≡ 1) ⊎ (x.depth ≡ 1 → ⊥) → (not (eqb x.depth 1) || part_of x.set topmost) ≡ true
      outer (inl e) = or_right (not (eqb x.depth 1)) (part_of x.set topmost) (part_passes x.set topmost (w.outermost e))
      outer (inr n) = or_left (not (eqb x.depth 1)) (part_of x.set topmost) (ap not (ne_eqb x.depth 1 n))

  pub match_passes : (tree : TreeLines) → Matches below least jobs policy topmost all tree → tree_matches below least jobs policy topmost all tree ≡ true
  match_passes tree w =
      and_from (clear (tree_breach below least jobs policy tree)) (lines_match below topmost all tree) (ap clear (tree_quiet law least jobs policy tree w.obeys))
      (ap clear (each_bad (λ i x. line_matches below topmost all x) 0 tree line0 (λ k h. line_passes (get_or tree k line0) (w.lines k h))))
