-- The pieces of a list, one by one.
use Rattle.std.proofs.Common.{◌≡◌, ℕ, suc, ◌+◌, ◌-◌, ◌<◌, ◌≤◌, List, [], ◌∷◌, length, get_or, take, drop, refl, ap, ◌∙◌, arith}
use Rattle.std.proofs.lemmas.List.{drop_more, get_or_past}
use Rattle.layout.specs.Network.{TreeLines, pieces}

pub pieces_long : (ns : List ℕ) (lines : TreeLines) → length (pieces ns lines) ≡ length ns
pieces_long [] lines = refl
pieces_long (n ∷ ns) lines = ap suc (pieces_long ns (drop n lines))

pub piece_past : (ns : List ℕ) (lines : TreeLines) (k : ℕ) → length ns ≤ k → get_or (pieces ns lines) k [] ≡ []
piece_past ns lines k h = get_or_past (pieces ns lines) k [] (omega (arith, pieces_long ns lines))

pub piece_next : (ns : List ℕ) (rest : TreeLines) (i k : ℕ) → i < k → i < length ns
    → get_or (pieces (drop i ns) rest) (k - i) [] ≡ get_or (pieces (drop (i + 1) ns) (drop (get_or ns i 0) rest)) (k - (i + 1)) []
piece_next ns rest i k h l =
    let m : k - i ≡ suc (k - (i + 1)) = omega arith in
    ap (λ (n : ℕ). get_or (pieces (drop i ns) rest) n []) m
    ∙ ap (λ (xs : List ℕ). get_or (pieces xs rest) (suc (k - (i + 1))) []) (drop_more ns i 0 l)

pub piece_here : (ns : List ℕ) (rest : TreeLines) (k : ℕ) → k < length ns → get_or (pieces (drop k ns) rest) (k - k) [] ≡ take (get_or ns k 0) rest
piece_here ns rest k l =
    let m : k - k ≡ 0 = omega arith in
    ap (λ (n : ℕ). get_or (pieces (drop k ns) rest) n []) m ∙ ap (λ (xs : List ℕ). get_or (pieces xs rest) 0 []) (drop_more ns k 0 l)
