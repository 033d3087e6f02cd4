-- Rows that are written one after the other.
use Rattle.std.proofs.Common.{◌≡◌, ℕ, ◌+◌, ◌<◌, List, [], ◌∷◌, ◌++◌, map, length, get_or, take, string_bytes, String, sym, ap, ◌∙◌, append_assoc, arith}
use Rattle.std.proofs.lemmas.List.{take_more, length-take, map-append}
use Rattle.std.specs.declared.alloc.Global.{Global}
use Rattle.dump.specs.Dumping.{numbered}

numbered_push : {R : Type 0} (text : ℕ → R → List ℕ) (k : ℕ) (rs : List R) (r : R) → numbered text k (rs ++ (r ∷ [])) ≡ numbered text k rs ++ (text (k + length rs) r ∷ [])
numbered_push text k [] r = let e : k ≡ k + 0 = omega arith in ap (λ m. text m r ∷ []) e
numbered_push text k (s ∷ rs) r =
    let e : (k + 1) + length rs ≡ k + length (s ∷ rs) = omega arith in
    ap (λ t. text k s ∷ t) (numbered_push text (k + 1) rs r ∙ ap (λ m. numbered text (k + 1) rs ++ (text m r ∷ [])) e)

-- one row more
pub numbered_more : {R : Type 0} (text : ℕ → R → List ℕ) (rs : List R) (n : ℕ) (d : R) → n < length rs
    → numbered text 0 (take n rs) ++ (text n (get_or rs n d) ∷ []) ≡ numbered text 0 (take (n + 1) rs)
numbered_more text rs n d here =
    let e : n ≡ 0 + length (take n rs) = omega (arith, length-take n rs) in
    ap (λ m. numbered text 0 (take n rs) ++ (text m (get_or rs n d) ∷ [])) e
    ∙ sym (numbered_push text 0 (take n rs) (get_or rs n d))
    ∙ ap (numbered text 0) (sym (take_more rs n d here))

-- one line more
pub line_more : {R : Type 0} (text : ℕ → R → List ℕ) (rs : List R) (n : ℕ) (d : R) (before : List (List ℕ)) (old new : List (String Global)) (s : String Global)
    → n < length rs → new ≡ old ++ (s ∷ []) → string_bytes s ≡ text n (get_or rs n d)
    → map string_bytes old ≡ before ++ numbered text 0 (take n rs)
    → map string_bytes new ≡ before ++ numbered text 0 (take (n + 1) rs)
line_more text rs n d before old new s here pushed says so_far =
    ap (map string_bytes) pushed ∙ map-append string_bytes old (s ∷ [])
    ∙ ap (λ t. map string_bytes old ++ (t ∷ [])) says
    ∙ ap (λ ts. ts ++ (text n (get_or rs n d) ∷ [])) so_far
    ∙ append_assoc before (numbered text 0 (take n rs)) (text n (get_or rs n d) ∷ [])
    ∙ ap (λ ts. before ++ ts) (numbered_more text rs n d here)
