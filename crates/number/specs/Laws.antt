-- One number, one spelling.
use Rattle.std.specs.Prelude.{◌≡◌, ℕ, ◌+◌, ◌/◌, ◌%◌, ◌<◌, ◌≤◌, List, [], ◌∷◌, ◌++◌, length, take, drop, slice_index}
use Rattle.number.specs.Spelling.{read_number, found, encode}

pub record OneSpelling : Type 0 where
  -- what the bytes of a number are
  pub short : (n : ℕ) → n < 128 → encode n ≡ n ∷ []
  pub long : (n : ℕ) → 128 ≤ n → encode n ≡ (n % 128 + 128) ∷ encode (n / 128)
  -- an encoding reads back as its number, wherever it stands and whatever follows
  pub reads_back : (limit n : ℕ) (before after : List ℕ) → n ≤ limit
      → read_number limit (length before) (before ++ (encode n ++ after)) ≡ found n (length before + length (encode n))
  -- a number that was read is spelled by exactly the bytes of its encoding, and is within the limit
  pub one_way : (limit place : ℕ) (bytes : List ℕ) (n next : ℕ) → ((i : ℕ) → slice_index bytes i < 256)
      → read_number limit place bytes ≡ found n next
      → (n ≤ limit) × (next ≡ place + length (encode n)) × (take (length (encode n)) (drop place bytes) ≡ encode n)
