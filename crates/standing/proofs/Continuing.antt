-- Commands that pass one after the other go on to later ones, and none is named twice.
use Rattle.std.proofs.Common.{◌≡◌, ℕ, zero, suc, ◌+◌, ◌-◌, ◌<◌, ◌≤◌, Bool, true, false, cond, not, ◌&&◌, ◌||◌, eqb, ltb, leb, ◌⊎◌, List, [], ◌∷◌, length, get_or, take, set, replicate, None, Decides, sym, refl, ◌∙◌, subst, inl, inr, arith}
use Rattle.std.proofs.lemmas.List.{get_or-set_same, get_or-set_other, length-set, length-take-le, get_or-take, length-replicate}
use Rattle.std.proofs.lemmas.Bool.Decides.{nat_tests, Decides-and}
use Rattle.std.proofs.lemmas.Bool.{cases_eq, cases_order, cases_Bool, both_ways}
use Rattle.rows.specs.declared.row.CommandRow.{CommandRow}
use Rattle.layout.specs.Zeros.{command0}
use Rattle.meaning.specs.Decoding.{verb_of}
use Rattle.scan.specs.Scan.{scan, carried}
use Rattle.scan.proofs.Scan.{scan-each, each_scan}
use Rattle.scan.proofs.Tells.{Tells}
use Rattle.standing.specs.declared.sizes.Sizes.{Sizes}
use Rattle.standing.specs.declared.commands.Named.{Named}
use Rattle.standing.specs.Tests.{given, none_named, verb_stands, other_way, onward, continues, command_passes, named_after}
use Rattle.standing.specs.Words.{Means, VerbStands, Later, Names, CommandsStand}
use Rattle.standing.proofs.Rows.{Decides-verb}

-- ---- the flags
mark_said : (l : List Bool) (i n : ℕ) → get_or (set l i true) n false ≡ true → (get_or l n false ≡ true) ⊎ (i ≡ n)
mark_said l i n e = elim (cases_eq n i) [ inl k ↦ inr (sym k) | inr k ↦ inl (sym (get_or-set_other l i n true false k) ∙ e) ]

mark_here : (l : List Bool) (i n : ℕ) → n < length l → i ≡ n → get_or (set l i true) n false ≡ true
mark_here l i n h e = subst (λ (m : ℕ). get_or (set l m true) n false ≡ true) (sym e) (get_or-set_same l n true false h)

mark_keeps : (l : List Bool) (i n : ℕ) → n < length l → get_or l n false ≡ true → get_or (set l i true) n false ≡ true
mark_keeps l i n h e = elim (cases_eq n i) [ inl k ↦ mark_here l i n h (sym k) | inr k ↦ get_or-set_other l i n true false k ∙ e ]

abbrev flag : Named → ℕ → Bool
flag b n = get_or b.flags n false

-- some of these rows names the command n
abbrev NamedBy : List CommandRow → ℕ → Type 0
NamedBy xs n = (i : ℕ) × (i < length xs) × Names (get_or xs i command0) n

named_said : (b : Named) (xs : List CommandRow) (n : ℕ) → flag (carried named_after b xs) n ≡ true → (flag b n ≡ true) ⊎ NamedBy xs n
named_said b [] n e = inl e
named_said b (q ∷ xs) n e = elim (named_said (named_after b q) xs n e) [
  | inr w ↦ inr (suc w.0, omega (arith, w.1), w.2)
  | inl f ↦ elim (mark_said (set b.flags q.next true) (other_way q) n f) [
    | inr k ↦ inr (0, omega arith, inr k)
    | inl g ↦ elim (mark_said b.flags q.next n g) [ inr k ↦ inr (0, omega arith, inl k) | inl k ↦ inl k ]
  ]
]

next_long : (b : Named) (q : CommandRow) → length (named_after b q).flags ≡ length b.flags
next_long b q = length-set (set b.flags q.next true) (other_way q) true ∙ length-set b.flags q.next true

kept-named : (b : Named) (xs : List CommandRow) (n : ℕ) → n < length b.flags → flag b n ≡ true → flag (carried named_after b xs) n ≡ true
kept-named b [] n h e = e
kept-named b (q ∷ xs) n h e = kept-named (named_after b q) xs n (omega (arith, next_long b q))
    (mark_keeps (set b.flags q.next true) (other_way q) n (omega (arith, length-set b.flags q.next true)) (mark_keeps b.flags q.next n h e))

said-named : (b : Named) (xs : List CommandRow) (n i : ℕ) → n < length b.flags → i < length xs → Names (get_or xs i command0) n → flag (carried named_after b xs) n ≡ true
said-named b [] n i h l w = absurd (omega arith)
said-named b (q ∷ xs) n zero h l (inl k) = kept-named (named_after b q) xs n (omega (arith, next_long b q))
    (mark_keeps (set b.flags q.next true) (other_way q) n (omega (arith, length-set b.flags q.next true)) (mark_here b.flags q.next n h k))
said-named b (q ∷ xs) n zero h l (inr k) = kept-named (named_after b q) xs n (omega (arith, next_long b q))
    (mark_here (set b.flags q.next true) (other_way q) n (omega (arith, length-set b.flags q.next true)) k)
said-named b (q ∷ xs) n (suc i) h l w = said-named (named_after b q) xs n i (omega (arith, next_long b q)) (omega arith) w

-- ---- one command

-- a continuation that passes: none, or later and not named before
abbrev Onward : Sizes → Named → ℕ → ℕ → Type 0
Onward s b row to = (to ≡ 0) ⊎ ((row + 1 < to) × (to ≤ s.commands) × (to < 256) × (flag b to ≡ false))

Decides-onward : (s : Sizes) (b : Named) (row to : ℕ) → Decides (onward s b row to) (Onward s b row to)
Decides-onward s b row to = (λ e. there (flag b to) refl e, λ w. back (flag b to) refl w)
  where
    there : (f : Bool) → flag b to ≡ f → cond (eqb to 0) true ((ltb row (to - 1) && (leb to s.commands && ltb to 256)) && not f) ≡ true → Onward s b row to
    there f k e = elim (cases_eq to 0) [ inl z ↦ inl z | inr z ↦ inr (grind (arith, nat_tests), grind (arith, nat_tests), grind (arith, nat_tests), k ∙ off f e z) ]
      where
        off : (f : Bool) → cond (eqb to 0) true ((ltb row (to - 1) && (leb to s.commands && ltb to 256)) && not f) ≡ true → (to ≡ 0 → ⊥) → f ≡ false
        off true e z = grind (arith, nat_tests)
        off false e z = refl

    back : (f : Bool) → flag b to ≡ f → Onward s b row to → cond (eqb to 0) true ((ltb row (to - 1) && (leb to s.commands && ltb to 256)) && not f) ≡ true
    back f k (inl z) = grind (arith, nat_tests)
    back f k (inr w) = shut f (sym k ∙ w.3) (omega (arith, w.0)) w.1 w.2
      where
        shut : (f : Bool) → f ≡ false → row < to - 1 → to ≤ s.commands → to < 256 → cond (eqb to 0) true ((ltb row (to - 1) && (leb to s.commands && ltb to 256)) && not f) ≡ true
        shut f e h l m = grind (arith, nat_tests)

apart_test : (a b : ℕ) → Decides (eqb a 0 || not (eqb a b)) (0 < a → a ≡ b → ⊥)
apart_test a b = (λ e h k. grind (arith, nat_tests), λ w. elim (cases_eq a 0) [ inl z ↦ grind (arith, nat_tests) | inr z ↦ away (λ k. w (omega arith) k) ])
  where
    away : (a ≡ b → ⊥) → (eqb a 0 || not (eqb a b)) ≡ true
    away n = grind (arith, nat_tests)

-- what passes of one row
abbrev Passes : Sizes → Named → ℕ → CommandRow → Type 0
Passes s b row q = Means (verb_of q) (VerbStands s) × (Onward s b row q.next × (Onward s b row (other_way q) × (0 < other_way q → other_way q ≡ q.next → ⊥)))

Decides-command : (s : Sizes) (b : Named) (row : ℕ) (q : CommandRow) → Decides (command_passes s b row q) (Passes s b row q)
Decides-command s b row q =
    Decides-and (given (verb_of q) (verb_stands s)) (continues s b row q) (Decides-verb s q)
    (Decides-and (onward s b row q.next) (onward s b row (other_way q) && (eqb (other_way q) 0 || not (eqb (other_way q) q.next))) (Decides-onward s b row q.next)
    (Decides-and (onward s b row (other_way q)) (eqb (other_way q) 0 || not (eqb (other_way q) q.next)) (Decides-onward s b row (other_way q)) (apart_test (other_way q) q.next)))

-- what a row names was not named before
fresh : (s : Sizes) (b : Named) (row : ℕ) (q : CommandRow) (n : ℕ) → 0 < n → Onward s b row q.next → Onward s b row (other_way q) → Names q n → (n < 256) × (flag b n ≡ false)
fresh s b row q n h (inl z) o (inl k) = absurd (omega arith)
fresh s b row q n h (inr w) o (inl k) = (omega (arith, w.2), subst (λ (m : ℕ). flag b m ≡ false) k w.3)
fresh s b row q n h a (inl z) (inr k) = absurd (omega arith)
fresh s b row q n h a (inr w) (inr k) = (omega (arith, w.2), subst (λ (m : ℕ). flag b m ≡ false) k w.3)

later : (s : Sizes) (b : Named) (row to : ℕ) → Onward s b row to → Later s row to
later s b row to (inl z) = inl z
later s b row to (inr w) = inr (w.0, w.1)

plus : (k : ℕ) → 0 + k ≡ k
plus k = omega arith

module _ (s : Sizes) (xs : List CommandRow) where
  abbrev before : ℕ → Named
  before k = carried named_after none_named (take k xs)

  abbrev command : ℕ → CommandRow
  command k = get_or xs k command0

  module _ (e : scan (command_passes s) named_after none_named 0 xs ≡ None) where
    row : (k : ℕ) → k < length xs → Passes s (before k) k (command k)
    row k h = (Decides-command s (before k) k (command k)).0
        (subst (λ (m : ℕ). command_passes s (before k) m (command k) ≡ true) (plus k) (scan-each (command_passes s) named_after none_named 0 xs command0 e k h))

    clash : (i j n : ℕ) → i < j → j < length xs → 0 < n → Names (command i) n → Names (command j) n → ⊥
    clash i j n h l p a b =
        let r = row j l in
        let f = fresh s (before j) j (command j) n p r.1.0 r.1.1.0 b in
        let a' : Names (get_or (take j xs) i command0) n = subst (λ (q : CommandRow). Names q n) (sym (get_or-take j xs i command0 h)) a in
        both_ways (flag (before j) n) f.1
        (said-named none_named (take j xs) n i (omega (arith, f.0, length-replicate 256 false)) (omega (arith, length-take-le j xs (omega arith))) a')

    commands_there : CommandsStand s xs
    commands_there = record {
      each = λ i h. (row i h).0;
      next_later = λ i h. later s (before i) i (command i).next (row i h).1.0;
      other_later = λ i h. later s (before i) i (other_way (command i)) (row i h).1.1.0;
      apart = λ i h. (row i h).1.1.1;
      once = λ i j n h l p a b. elim (cases_order i j) [
        | inl k ↦ k
        | inr k ↦ elim k [ inl u ↦ absurd (clash i j n u l p a b) | inr u ↦ absurd (clash j i n u h p b a) ]
      ];
    }

  module _ (few : s.commands ≤ 255) (w : CommandsStand s xs) where
    unnamed : (k n : ℕ) → k < length xs → 0 < n → Names (command k) n → flag (before k) n ≡ false
    unnamed k n h p a = elim (cases_Bool (flag (before k) n)) [
      | inr f ↦ f
      | inl t ↦ elim (named_said none_named (take k xs) n t) [
        | inl u ↦ absurd (both_ways (get_or (replicate 256 false) n false) (blank_any 256 n) u)
        | inr v ↦
            let l : v.0 < k = omega (arith, v.1, length-take-le k xs (omega arith)) in
            let b : Names (command v.0) n = subst (λ (q : CommandRow). Names q n) (get_or-take k xs v.0 command0 l) v.2 in
            absurd (omega (arith, w.once v.0 k n (omega arith) h p b a))
      ]
    ]
      where
        blank_any : (m n : ℕ) → get_or (replicate m false) n false ≡ false
        blank_any zero n = refl
        blank_any (suc m) zero = refl
        blank_any (suc m) (suc n) = blank_any m n

    onward-back : (k to : ℕ) → k < length xs → Later s k to → Names (command k) to → Onward s (before k) k to
    onward-back k to h (inl z) a = inl z
    onward-back k to h (inr l) a = inr (l.0, l.1, omega (arith, l.1), unnamed k to h (omega (arith, l.0)) a)

    commands_back : scan (command_passes s) named_after none_named 0 xs ≡ None
    commands_back = each_scan (command_passes s) named_after none_named 0 xs command0
        (λ k h. subst (λ (m : ℕ). command_passes s (before k) m (command k) ≡ true) (sym (plus k))
        ((Decides-command s (before k) k (command k)).1
        (w.each k h, (onward-back k (command k).next h (w.next_later k h) (inl refl), (onward-back k (other_way (command k)) h (w.other_later k h) (inr refl), w.apart k h)))))

  pub commands_tell : s.commands ≤ 255 → Tells (scan (command_passes s) named_after none_named 0 xs) (CommandsStand s xs)
  commands_tell few = (commands_there, commands_back few)
