-- The rights order keeps the laws, and its test says what the words say.
use Rattle.std.specs.Prelude.{◌≡◌, ℕ, ◌<◌, true, ◌&&◌, ◌==◌, bit_and, nat_lt, refl}
use Rattle.std.proofs.Common.{ap, ◌∙◌, mod-eq_of_lt, lit<, lit≤}
use Rattle.std.specs.Int.Bits.{and_self}
use Rattle.std.proofs.lemmas.Nat.{and_mask}
use Rattle.std.proofs.lemmas.Bool.{and_parts, and_from, ltb-true, lt-ltb, eqb-true, eq-eqb}
use Rattle.order.specs.Laws.{Lawful}
use Rattle.order.specs.RoleSets.{has}
use Rattle.rights.specs.Bringing.{brought_to, brought, rights_below, TestSaysAmong}
use Rattle.rights.specs.Parts.{brought-small, brought-brings, brings_brought, and_part, part_and}

parts : (a b : ℕ) → rights_below a b ≡ true → (a < 64) × (b < 64) × (bit_and (brought a) (brought b) ≡ brought a)
unfolding rights_below
parts a b t =
    let p = and_parts (nat_lt a 64) (nat_lt b 64 && bit_and (brought a) (brought b) == brought a) t in
    let q = and_parts (nat_lt b 64) (bit_and (brought a) (brought b) == brought a) p.1 in
    (ltb-true a 64 p.0, ltb-true b 64 q.0, eqb-true _ _ q.1)

made : (a b : ℕ) → a < 64 → b < 64 → bit_and (brought a) (brought b) ≡ brought a → rights_below a b ≡ true
unfolding rights_below
made a b ha hb e = and_from _ _ (lt-ltb a 64 ha) (and_from _ _ (lt-ltb b 64 hb) (eq-eqb _ _ e))

all_six : brought 63 ≡ 63
unfolding brought_to has
all_six = refl

pub rights_lawful : Lawful 64 63 rights_below
rights_lawful = record {
  few = lit≤ tt;
  inside = lit< tt;
  within = λ a b t. let p = parts a b t in (p.0, p.1);
  reflexive = λ a h. made a a h h (and_self (brought a));
  transitive = λ a b c s t.
      let p = parts a b s in
      let q = parts b c t in
      made a c p.0 q.1
      (part_and 6 (brought a) (brought c) (brought-small a 6) (brought-small c 6)
      (λ r h. and_part (brought b) (brought c) q.2 r (and_part (brought a) (brought b) p.2 r h)));
  topmost = λ a h.
      made a 63 h (lit< tt) (ap (λ (n : ℕ). bit_and (brought a) n) all_six ∙ and_mask (brought a) 6 ∙ mod-eq_of_lt (brought-small a 6));
}

pub says_among : TestSaysAmong
says_among a b = (
  λ t.
      let p = parts a b t in
      record {
        low = p.0;
        high = p.1;
        among = λ r w. brought-brings b r (and_part (brought a) (brought b) p.2 r (brings_brought a r w));
      },
  λ s. made a b s.low s.high
      (part_and 6 (brought a) (brought b) (brought-small a 6) (brought-small b 6)
      (λ r h. brings_brought b r (s.among r (brought-brings a r h)))),
)
