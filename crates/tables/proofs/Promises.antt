-- The promise of a load, from what became of the lines.
use Rattle.std.proofs.Common.{◌≡◌, ℕ, List, map, length, Ok, Err, Option, Result, ap, arith}
use Rattle.number.specs.declared.fault.ReadFault.{ReadFault}
use Rattle.sheet.specs.declared.finding.Found.{Found}
use Rattle.layout.specs.declared.memory.Tables.{Tables}
use Rattle.layout.specs.Network.{Network, stored, empty}
use Rattle.tables.specs.declared.fault.LoadFault.{LoadFault}
use Rattle.tables.specs.declared.blank_state.Blank.{Blank}
use Rattle.tables.specs.Loading.{row_at, sheet_loaded, Filed, answered, remains, Loads}
use Rattle.tables.proofs.Meanings.{means}

refused_answer : (blank : Blank) (count : ℕ) (t : Tables) (fault : LoadFault) (r : Result Network LoadFault) → Filed (Err fault) t count r
    → Err (blank, fault) ≡ answered blank count r
refused_answer blank count t fault (Ok n) f = absurd (let told = f.0 in let z : ◌≡◌ {A = ℕ} 0 1 = cc in omega arith)
refused_answer blank count t fault (Err g) f = let same : fault ≡ g = cc in ap (λ (x : LoadFault). Err (blank, x)) same

refused_remains : (count : ℕ) (t u : Tables) (fault : LoadFault) (r : Result Network LoadFault) → Filed (Err fault) t count r → u ≡ stored empty
    → u ≡ stored (remains r)
refused_remains count t u fault (Ok n) f e = absurd (let told = f.0 in let z : ◌≡◌ {A = ℕ} 0 1 = cc in omega arith)
refused_remains count t u fault (Err g) f e = e

filed-answer : (blank : Blank) (lines count : ℕ) (t : Tables) (r : Result Network LoadFault) → Filed (Ok lines) t count r
    → Ok (record { serial = blank.serial; lines = lines }, lines) ≡ answered blank count r
filed-answer blank lines count t (Ok n) f =
    let told = f.0 in
    let same : lines ≡ count = cc in
    ap (λ (x : ℕ). Ok (record { serial = blank.serial; lines = x }, x)) same
filed-answer blank lines count t (Err g) f = absurd (let z : ◌≡◌ {A = ℕ} 0 1 = cc in omega arith)

filed-remains : (lines count : ℕ) (t : Tables) (r : Result Network LoadFault) → Filed (Ok lines) t count r → t ≡ stored (remains r)
filed-remains lines count t (Ok n) f = f.1
filed-remains lines count t (Err g) f = absurd (let z : ◌≡◌ {A = ℕ} 0 1 = cc in omega arith)

pub loads_refused : (blank : Blank) (sheet : List ℕ) (fs : List Found) (end : Option ReadFault) (t u : Tables) (fault : LoadFault)
    → Filed (Err fault) t (length fs) (sheet_loaded sheet fs end) → u ≡ stored empty → Loads blank sheet fs end (Err (blank, fault)) u
loads_refused blank sheet fs end t u fault f e = record {
  answer = refused_answer blank (length fs) t fault (sheet_loaded sheet fs end) f;
  after = refused_remains (length fs) t u fault (sheet_loaded sheet fs end) f e;
  meaning = means (map (row_at sheet) fs) end;
}

pub loads_filed : (blank : Blank) (sheet : List ℕ) (fs : List Found) (end : Option ReadFault) (t : Tables) (lines : ℕ)
    → Filed (Ok lines) t (length fs) (sheet_loaded sheet fs end) → Loads blank sheet fs end (Ok (record { serial = blank.serial; lines = lines }, lines)) t
loads_filed blank sheet fs end t lines f = record {
  answer = filed-answer blank lines (length fs) t (sheet_loaded sheet fs end) f;
  after = filed-remains lines (length fs) t (sheet_loaded sheet fs end) f;
  meaning = means (map (row_at sheet) fs) end;
}
