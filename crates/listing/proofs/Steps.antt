-- One field more.
use Rattle.std.proofs.Common.{◌≡◌, ℕ, ◌+◌, ◌<◌, ◌≤◌, List, [], ◌∷◌, ◌++◌, length, get_or, drop, sym, ap, ◌∙◌}
use Rattle.std.proofs.lemmas.List.{append_assoc, append-nil, at_drop_more, at_drop_all}
use Rattle.number.specs.declared.reading.Width.{Width}
use Rattle.sheet.specs.Fields.{field_at, values}

pub one_more : (was now all : List ℕ) (ws : List Width) (i at : ℕ) (bytes : List ℕ) (d : Width) (r : ℕ × ℕ) → i < length ws
    → r ≡ field_at (get_or ws i d) at bytes → now ≡ was ++ (r.0 ∷ []) → was ++ values (drop i ws) at bytes ≡ all
    → now ++ values (drop (i + 1) ws) r.1 bytes ≡ all
one_more was now all ws i at bytes d r here e pushed inv =
    ap (λ l. l ++ values (drop (i + 1) ws) r.1 bytes) pushed
    ∙ append_assoc was (r.0 ∷ []) (values (drop (i + 1) ws) r.1 bytes)
    ∙ ap (λ q. was ++ (q.0 ∷ values (drop (i + 1) ws) q.1 bytes)) e
    ∙ sym (at_drop_more (λ l. was ++ values l at bytes) ws i d here)
    ∙ inv

pub all_done : (was all : List ℕ) (ws : List Width) (i at : ℕ) (bytes : List ℕ) → length ws ≤ i → was ++ values (drop i ws) at bytes ≡ all → was ≡ all
all_done was all ws i at bytes done inv =
    sym (append-nil was) ∙ sym (at_drop_all (λ l. was ++ values l at bytes) ws i done) ∙ inv
