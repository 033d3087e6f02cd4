-- Nothing is told of the shelf exactly when its trees stand.
use Rattle.std.proofs.Common.{◌≡◌, ℕ, zero, suc, ◌+◌, ◌-◌, ◌<◌, ◌≤◌, ◌&&◌, eqb, leb, List, [], ◌∷◌, length, get_or, take, drop, None, Decides, Option, sym, refl, ap, ◌∙◌, subst, arith}
use Rattle.std.proofs.lemmas.Bool.Decides.{Decides-eqb, Decides-and}
use Rattle.std.proofs.lemmas.Bool.{cond-true, le-leb, and_from}
use Rattle.std.proofs.lemmas.List.{take_all}
use Rattle.rows.specs.declared.row.TreeLine.{TreeLine}
use Rattle.layout.specs.declared.memory.Shelf.{Shelf}
use Rattle.layout.specs.Held.{in_use}
use Rattle.layout.specs.Zeros.{line0}
use Rattle.scan.specs.Scan.{or_else, scan, first_bad, carried, clear}
use Rattle.scan.proofs.Scan.{scan-each, each_scan}
use Rattle.scan.proofs.Tells.{Tells, tells_like, or_tells, map_tells, few_tells, each_tells, Decides-clear, Decides-leb, carried_step}
use Rattle.zeros.specs.Zeroed.{line_zero}
use Rattle.zeros.proofs.Deciding.{Decides-line0}
use Rattle.standing.specs.declared.sizes.Sizes.{Sizes}
use Rattle.standing.specs.Words.{TreeStands}
use Rattle.standing.proofs.Trees.{tree-tells}
use Rattle.shape.specs.Place.{bad_tree, shelf_after, shelved_passes, told_at, shelf_end, shelf_rest, shelf_fault}
use Rattle.shape.specs.Shape.{Zeros, TableStands, total, ShelfStands}

total-next : (ns : List ℕ) (k : ℕ) → k < length ns → total (take (suc k) ns) ≡ total (take k ns) + get_or ns k 0
total-next [] k h = absurd (omega arith)
total-next (n ∷ ns) zero h = omega arith
total-next (n ∷ ns) (suc k) h = omega (arith, total-next ns k (omega arith))

total-front : (ns : List ℕ) (k : ℕ) → total (take k ns) ≤ total ns
total-front ns zero = omega arith
total-front [] (suc k) = omega arith
total-front (n ∷ ns) (suc k) = omega (arith, total-front ns k)

-- a tree that begins at this line
abbrev Shelved : Sizes → List TreeLine → ℕ → ℕ → Type 0
Shelved s shelved start n = ((start ≤ 1024) × ((n ≤ 1024 - start) × (n ≤ 128))) × TreeStands s (take n (drop start shelved))

Decides-shelved : (s : Sizes) (shelved : List TreeLine) (start n : ℕ) → Decides (shelved_passes s shelved start n) (Shelved s shelved start n)
Decides-shelved s shelved start n =
    Decides-and (leb start 1024 && (leb n (1024 - start) && leb n 128)) (clear (bad_tree s (take n (drop start shelved))))
    (Decides-and (leb start 1024) (leb n (1024 - start) && leb n 128) (Decides-leb start 1024)
    (Decides-and (leb n (1024 - start)) (leb n 128) (Decides-leb n (1024 - start)) (Decides-leb n 128)))
    (Decides-clear (bad_tree s (take n (drop start shelved))) (tree-tells s (take n (drop start shelved))))

after-fits : (start n : ℕ) → start + n ≤ 1024 → shelf_after start n ≡ start + n
after-fits start n h =
    cond-true (leb start 1024 && leb n (1024 - start)) (start + n) 1024 (and_from (leb start 1024) (leb n (1024 - start)) (le-leb start 1024 (omega arith)) (le-leb n (1024 - start) (omega arith)))

-- as long as the trees fit, the next one begins behind all lines before
starts : (ns : List ℕ) (k : ℕ) → k ≤ length ns → total (take k ns) ≤ 1024 → carried shelf_after 0 (take k ns) ≡ total (take k ns)
starts ns zero h l = refl
starts ns (suc k) h l =
    let t = total-next ns k (omega arith) in
    carried_step shelf_after 0 ns k 0 (omega arith)
    ∙ (ap (λ (m : ℕ). shelf_after m (get_or ns k 0)) (starts ns k (omega arith) (omega arith)) ∙ (after-fits (total (take k ns)) (get_or ns k 0) (omega arith) ∙ sym t))

module _ (s : Sizes) (shelved : List TreeLine) (ns : List ℕ) where
  abbrev start : ℕ → ℕ
  start k = carried shelf_after 0 (take k ns)

  module _ (e : scan (λ start i n. shelved_passes s shelved start n) shelf_after 0 0 ns ≡ None) where
    row : (k : ℕ) → k < length ns → Shelved s shelved (start k) (get_or ns k 0)
    row k h = (Decides-shelved s shelved (start k) (get_or ns k 0)).0 (scan-each (λ start i n. shelved_passes s shelved start n) shelf_after 0 0 ns 0 e k h)

    fits : (k : ℕ) → k ≤ length ns → total (take k ns) ≤ 1024
    fits zero h = omega arith
    fits (suc k) h =
        let r = row k (omega arith) in
        let f = fits k (omega arith) in
        let q = starts ns k (omega arith) f in
        let t = total-next ns k (omega arith) in
        let a = r.0.0 in
        let b = r.0.1.0 in
        omega arith

    shelf_there : ShelfStands s shelved ns
    shelf_there = record {
      room = subst (λ (m : List ℕ). total m ≤ 1024) (take_all (length ns) ns (omega arith)) (fits (length ns) (omega arith));
      small = λ k h. (row k h).0.1.1;
      trees = λ k h. subst (λ (m : ℕ). TreeStands s (take (get_or ns k 0) (drop m shelved))) (starts ns k (omega arith) (fits k (omega arith))) (row k h).1;
    }

  module _ (w : ShelfStands s shelved ns) where
    at : (k : ℕ) → k ≤ length ns → start k ≡ total (take k ns)
    at k h = starts ns k h (omega (arith, total-front ns k, w.room))

    passes : (k : ℕ) → k < length ns → Shelved s shelved (start k) (get_or ns k 0)
    passes k h =
        let a = at k (omega arith) in
        let f = total-front ns (suc k) in
        let t = total-next ns k h in
        let r = w.room in
        ((omega arith, (omega arith, w.small k h)), subst (λ (m : ℕ). TreeStands s (take (get_or ns k 0) (drop m shelved))) (sym a) (w.trees k h))

    pub end_is : carried shelf_after 0 ns ≡ total ns
    end_is = subst (λ (m : List ℕ). carried shelf_after 0 m ≡ total m) (take_all (length ns) ns (omega arith)) (at (length ns) (omega arith))

  pub shelf_tells : Tells (scan (λ start i n. shelved_passes s shelved start n) shelf_after 0 0 ns) (ShelfStands s shelved ns)
  shelf_tells =
      (shelf_there, λ w. each_scan (λ start i n. shelved_passes s shelved start n) shelf_after 0 0 ns 0 (λ k h. (Decides-shelved s shelved (start k) (get_or ns k 0)).1 (passes w k h)))

module _ (s : Sizes) (shelf : Shelf) where
  abbrev ns : List ℕ
  ns = in_use shelf.trees

  abbrev count : ℕ
  count = shelf.trees.count

  abbrev written : Option ℕ
  written = first_bad (λ i x. line_zero x) (shelf_end shelf.trees) (drop (shelf_end shelf.trees) shelf.lines)

  abbrev counts : Option ℕ
  counts = first_bad (λ i n. eqb n 0) count (drop count shelf.trees.rows)

  lines_tell : ShelfStands s shelf.lines ns → Tells (told_at count written) (Zeros line0 (drop (total ns) shelf.lines))
  lines_tell w =
      map_tells (told_at count) refl (λ i. (count, refl)) written
      (subst (λ (m : ℕ). Tells written (Zeros line0 (drop m shelf.lines))) (end_is s shelf.lines ns w)
      (each_tells line_zero (λ x. x ≡ line0) line0 Decides-line0 (shelf_end shelf.trees) (drop (shelf_end shelf.trees) shelf.lines)))

  pub shelf_fault-tells : Tells (shelf_fault s shelf) (TableStands 64 shelf.trees (ShelfStands s shelf.lines) (Zeros 0) × Zeros line0 (drop (total ns) shelf.lines))
  shelf_fault-tells =
      tells_like (shelf_fault s shelf)
      (λ w. (record { few = w.1.0; own = w.0; rest = w.1.1.1 }, w.1.1.0))
      (λ w. (w.0.own, (w.0.few, (w.1, w.0.rest))))
      (or_tells (scan (λ start i n. shelved_passes s shelf.lines start n) shelf_after 0 0 ns) (shelf_rest shelf) (shelf_tells s shelf.lines ns)
      (λ w. few_tells 64 count (or_else (told_at count written) counts)
      (λ _. or_tells (told_at count written) counts (lines_tell w) (λ _. each_tells (λ n. eqb n 0) (λ n. n ≡ 0) 0 (λ n. Decides-eqb n 0) count (drop count shelf.trees.rows)))))
