-- What holds of every sheet: what a line is made of, that reading ends, and that nothing is lost.
use Rattle.std.specs.Prelude.{◌≡◌, ℕ, ◌<◌, ◌≤◌, ◌⊎◌, List, [], ◌∷◌, ◌++◌, length, Some, Ok, Err, slice_index, slice_range}
use Rattle.number.specs.declared.fault.ReadFault.{ReadFault}
use Rattle.number.specs.Spelling.{encode}
use Rattle.sheet.specs.declared.finding.Found.{Found}
use Rattle.sheet.specs.Fields.{read_line, stretch, text, values, Decodes, Fit, encode_all}
use Rattle.sheet.specs.Kinds.{code_of, widths}

-- a list of bytes
abbrev pub Bytes : List ℕ → Type 0
Bytes bytes = (i : ℕ) → slice_index bytes i < 256

-- a line that was found is its kind and its fields, each spelled in the one way that a number has
pub record LineSpelled (bytes : List ℕ) (place : ℕ) (f : Found) : Type 0 where
  pub first : f.place ≡ place
  pub forward : (place < f.start) × (f.start ≤ f.end) × (f.end ≤ length bytes)
  pub whole : text bytes f ≡ encode (code_of f.kind) ++ stretch bytes f
  -- the stretch decodes, and the numbers that it gives spell it
  pub decodes : Decodes f.kind (stretch bytes f)
  pub fields : stretch bytes f ≡ encode_all (values (widths f.kind) 0 (stretch bytes f))
  pub widths_kept : Fit (widths f.kind) (values (widths f.kind) 0 (stretch bytes f))

-- from place p the reader hands out these lines, one after the other, and then stands at q
abbrev pub Handed : List ℕ → ℕ → List Found → ℕ → Type 0
Handed bytes p [] q = p ≡ q
Handed bytes p (f ∷ fs) q = (read_line p bytes ≡ Ok (Some f)) × Handed bytes f.end fs q

-- at q there is no line more: the sheet ends there, or a fault is told
abbrev pub Stops : List ℕ → ℕ → Type 0
Stops bytes q = (q ≡ length bytes) ⊎ ((f : ReadFault) × (read_line q bytes ≡ Err f))

-- the lines written one after the other
abbrev pub texts : List ℕ → List Found → List ℕ
texts bytes [] = []
texts bytes (f ∷ fs) = text bytes f ++ texts bytes fs

pub record SheetLaws : Type 0 where
  pub spelled : (bytes : List ℕ) → Bytes bytes → (place : ℕ) (f : Found) → read_line place bytes ≡ Ok (Some f) → LineSpelled bytes place f
  -- reading ends for any bytes
  pub ends : (bytes : List ℕ) → Bytes bytes → (p : ℕ) → p ≤ length bytes → (fs : List Found) × (q : ℕ) × Handed bytes p fs q × Stops bytes q
  -- the lines handed out are the whole of what was accepted
  pub nothing_lost : (bytes : List ℕ) → Bytes bytes → (p q : ℕ) (fs : List Found) → p ≤ length bytes → Handed bytes p fs q
      → (p ≤ q) × (q ≤ length bytes) × (texts bytes fs ≡ slice_range bytes p q)
