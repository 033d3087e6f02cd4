-- The lines filed so far, and those that are left.
use Rattle.std.proofs.Common.{◌≡◌, ℕ, zero, suc, ◌+◌, ◌<◌, ◌≤◌, List, [], ◌∷◌, map, length, get_or, replicate, Some, None, Ok, Err, Option, Result, MatchResult, IsErrAnd, sym, refl, ap, ◌∙◌, subst, arith}
use Rattle.std.proofs.lemmas.Result.{err_from_is_err_and}
use Rattle.number.specs.declared.fault.ReadFault.{ReadFault}
use Rattle.sheet.specs.declared.finding.Found.{Found}
use Rattle.sheet.specs.declared.frame.Frame.{Frame}
use Rattle.sheet.specs.declared.kinds.LineKind.{LineKind}
use Rattle.sheet.specs.Fields.{read_line, stretch}
use Rattle.sheet.specs.Laws.{Handed}
use Rattle.sheet.specs.declared.line.PlacedLine.{PlacedLine}
use Rattle.sheet.specs.Showing.{shows, seen, shown, line_at, place_after, frame_after, Moves}
use Rattle.layout.specs.declared.memory.Tables.{Tables}
use Rattle.layout.specs.Network.{Network, TreeLines, network, stored, empty, Fits, Holds}
use Rattle.layout.proofs.Back.{holds_network}
use Rattle.filing.specs.declared.decoded.Row.{Row}
use Rattle.filing.specs.declared.placing.Before.{Before}
use Rattle.filing.specs.declared.placing.Misplaced.{Misplaced}
use Rattle.filing.specs.Rows.{row_of}
use Rattle.filing.specs.Filing.{none_before, before_after, placed, filed, network_after}
use Rattle.filing.proofs.Puts.{holds_own}
use Rattle.tables.specs.declared.fault.LoadFault.{LoadFault}
use Rattle.tables.specs.declared.fault.LoadFault.TheVariants.{Unreadable}
use Rattle.tables.specs.Loading.{EndsAs, ReadsFrom, Reads, row_at, line_filed, and_then, loaded, sheet_loaded, Filed}
use Rattle.tables.proofs.Readings.{line-here, err_line, none_line, some-line, at_length, not_both_ends, not_none_and_line, not_fault_and_line, one_line, one_fault, no_line_at_end}

-- of the lines of the sheet these are left, and filing them is what is left of filing all
pub record Rest (sheet : List ℕ) (line place : ℕ) (before : Before) (n : Network) (all : List Found) (end : Option ReadFault) : Type 0 where
  pub left : List Found
  pub reads : ReadsFrom sheet place left end
  pub count : line + length left ≡ length all
  pub same : loaded line before n (map (row_at sheet) left) end ≡ sheet_loaded sheet all end

pub record Sofar (sheet held : List ℕ) (line place : ℕ) (before : Before) (frame : Frame) (t : Tables) : Type 0 where
  pub sheet_same : held ≡ sheet
  pub whole : frame.end ≡ length sheet
  pub few : line ≤ place
  pub holds : Holds t (network t)
  pub on : (all : List Found) (end : Option ReadFault) → Reads sheet all end → Rest sheet line place before (network t) all end

-- ---- the start

abbrev no_lines : TreeLines
no_lines = []

no_edges : (n k : ℕ) → length (get_or (replicate n no_lines) k no_lines) ≤ 128
no_edges zero k = omega arith
no_edges (suc n) zero = omega arith
no_edges (suc n) (suc k) = no_edges n k

fits_empty : Fits empty
fits_empty = record {
  policies = omega arith;
  grants = omega arith;
  locations = omega arith;
  steps = omega arith;
  trees = refl;
  edges = no_edges 16;
  templates = omega arith;
  patterns = omega arith;
  commands = omega arith;
  jobs = omega arith;
  running = omega arith;
  shelf = omega arith;
  shelved = omega arith;
}

-- blank tables hold the empty network
holds_empty : (t : Tables) → t ≡ stored empty → Holds t empty
holds_empty t e = record { whole = e; fits = fits_empty }

pub blank_holds : (t : Tables) → t ≡ stored empty → Holds t (network t)
blank_holds t e = holds_own t empty (holds_empty t e)

pub start : (sheet held : List ℕ) (place : ℕ) (frame : Frame) (t : Tables) → held ≡ sheet → place ≡ 0 → frame ≡ record { end = length sheet; last_kind = None }
    → t ≡ stored empty → Sofar sheet held 0 place none_before frame t
start sheet held place frame t same zero-place f e =
    let h = holds_empty t e in
    record {
      sheet_same = same;
      whole = ap (λ (x : Frame). x.end) f;
      few = omega arith;
      holds = holds_own t empty h;
      on = λ all end reads. record {
        left = all;
        reads = subst (λ (p : ℕ). ReadsFrom sheet p all end) (sym zero-place) reads;
        count = omega arith;
        same =
            ap (λ (n : Network). loaded 0 none_before n (map (row_at sheet) all) end) (holds_network t empty h);
      };
    }

-- ---- a fault of the reader

at-fault : (sheet : List ℕ) (line place count : ℕ) (before : Before) (n : Network) (t : Tables) (f : ReadFault) (left : List Found) (stop : ℕ) (end : Option ReadFault)
    → read_line place sheet ≡ Err f → Handed sheet place left stop → EndsAs sheet stop end
    → Filed (Err (Unreadable line f)) t count (loaded line before n (map (row_at sheet) left) end)
at-fault sheet line place count before n t f [] stop None r h e = absurd (not_both_ends f (read_line place sheet) (at_length sheet place (h ∙ e)) r)
at-fault sheet line place count before n t f [] stop (Some g) r h e =
    ap (λ (x : ReadFault). Err (Unreadable line x)) (one_fault f g (read_line place sheet) r (ap (λ (p : ℕ). read_line p sheet) h ∙ e))
at-fault sheet line place count before n t f (g ∷ left) stop end r h e = absurd (not_fault_and_line f g (read_line place sheet) r h.0)

fault-told : (sheet held : List ℕ) (line place : ℕ) (before : Before) (frame : Frame) (t : Tables) (f : ReadFault) → Sofar sheet held line place before frame t
    → Err f ≡ shown held (line_at frame place held) → (all : List Found) (end : Option ReadFault) → Reads sheet all end
    → Filed (Err (Unreadable line f)) t (length all) (sheet_loaded sheet all end)
fault-told sheet held line place before frame t f s e all end reads =
    let rest = s.on all end reads in
    let r : read_line place sheet ≡ Err f = sym (line-here sheet held frame place s.sheet_same s.whole) ∙ err_line held f (line_at frame place held) e in
    subst (Filed (Err (Unreadable line f)) t (length all)) rest.same
    (at-fault sheet line place (length all) before (network t) t f rest.left rest.reads.stop end r rest.reads.handed rest.reads.ends)

-- the fault is told with the number of its line
told_with : (line : ℕ) (r : Result (Option PlacedLine) ReadFault) (m : Result (Option PlacedLine) LoadFault) (g : LoadFault)
    → MatchResult r (λ x. m ≡ Ok x) (λ f. IsErrAnd m (λ h. h ≡ Unreadable line f)) → m ≡ Err g → (f : ReadFault) × (r ≡ Err f) × (g ≡ Unreadable line f)
told_with line (Ok x) m g h e = absurd (let z : ◌≡◌ {A = ℕ} 0 1 = cc in omega arith)
told_with line (Err f) m g h e =
    let t = err_from_is_err_and m h in
    let same : g ≡ t.0 = cc in
    (f, refl, same ∙ t.2)

pub fault_filed : (sheet held : List ℕ) (line place : ℕ) (before : Before) (frame : Frame) (t : Tables) (r : Result (Option PlacedLine) ReadFault) (m : Result (Option PlacedLine) LoadFault) (g : LoadFault) (out : Result ℕ LoadFault)
    → Sofar sheet held line place before frame t → MatchResult r (λ x. m ≡ Ok x) (λ f. IsErrAnd m (λ h. h ≡ Unreadable line f)) → m ≡ Err g
    → seen r ≡ shown held (line_at frame place held) → out ≡ Err g → (all : List Found) (end : Option ReadFault) → Reads sheet all end
    → Filed out t (length all) (sheet_loaded sheet all end)
fault_filed sheet held line place before frame t r m g out s mapped was e o all end reads =
    let told = told_with line r m g mapped was in
    subst (λ (x : Result ℕ LoadFault). Filed x t (length all) (sheet_loaded sheet all end)) (sym (o ∙ ap Err told.2))
    (fault-told sheet held line place before frame t told.0 s (sym (ap seen told.1) ∙ e) all end reads)

-- ---- the end of the sheet

at-end : (sheet : List ℕ) (line place count : ℕ) (before : Before) (n : Network) (t : Tables) (left : List Found) (stop : ℕ) (end : Option ReadFault)
    → read_line place sheet ≡ Ok None → line + length left ≡ count → t ≡ stored n → Handed sheet place left stop → EndsAs sheet stop end
    → Filed (Ok line) t count (loaded line before n (map (row_at sheet) left) end)
at-end sheet line place count before n t [] stop None r c whole h e = let same : line ≡ count = omega arith in (ap Ok same, whole)
at-end sheet line place count before n t [] stop (Some g) r c whole h e = absurd (not_both_ends g (read_line place sheet) r (ap (λ (p : ℕ). read_line p sheet) h ∙ e))
at-end sheet line place count before n t (g ∷ left) stop end r c whole h e = absurd (not_none_and_line g (read_line place sheet) r h.0)

pub end_told : (sheet held : List ℕ) (line place : ℕ) (before : Before) (frame : Frame) (t : Tables) (next : Option PlacedLine) → Sofar sheet held line place before frame t
    → next ≡ None → seen (Ok next) ≡ shown held (line_at frame place held) → (all : List Found) (end : Option ReadFault) → Reads sheet all end
    → Filed (Ok line) t (length all) (sheet_loaded sheet all end)
end_told sheet held line place before frame t next s is e all end reads =
    let rest = s.on all end reads in
    let none : Ok None ≡ shown held (line_at frame place held) = sym (ap (λ (o : Option PlacedLine). seen (Ok o)) is) ∙ e in
    let r : read_line place sheet ≡ Ok None = sym (line-here sheet held frame place s.sheet_same s.whole) ∙ none_line held (line_at frame place held) none in
    subst (Filed (Ok line) t (length all)) rest.same
    (at-end sheet line place (length all) before (network t) t rest.left rest.reads.stop end r rest.count s.holds.whole rest.reads.handed rest.reads.ends)

-- ---- a line

-- the line that was handed out is the first of those that are left
pub record Next (sheet : List ℕ) (line place : ℕ) (before : Before) (n : Network) (f : Found) (all : List Found) (end : Option ReadFault) : Type 0 where
  pub left : List Found
  pub reads : ReadsFrom sheet f.end left end
  pub count : line + 1 + length left ≡ length all
  pub same : loaded line before n (row_at sheet f ∷ map (row_at sheet) left) end ≡ sheet_loaded sheet all end

next_by : (sheet : List ℕ) (line place : ℕ) (before : Before) (n : Network) (f : Found) (all : List Found) (end : Option ReadFault) (left : List Found) (stop : ℕ)
    → read_line place sheet ≡ Ok (Some f) → Handed sheet place left stop → EndsAs sheet stop end → line + length left ≡ length all
    → loaded line before n (map (row_at sheet) left) end ≡ sheet_loaded sheet all end → Next sheet line place before n f all end
next_by sheet line place before n f all end [] stop r h e c same =
    absurd (no_line_at_end sheet place end f (subst (λ (p : ℕ). EndsAs sheet p end) (sym h) e) r)
next_by sheet line place before n f all end (g ∷ left) stop r h e c same =
    let g-is : g ≡ f = one_line g f (read_line place sheet) h.0 r in
    record {
      left = left;
      reads = record { stop = stop; handed = subst (λ (x : Found). Handed sheet x.end left stop) g-is h.1; ends = e };
      count = omega arith;
      same = subst (λ (x : Found). loaded line before n (row_at sheet x ∷ map (row_at sheet) left) end ≡ sheet_loaded sheet all end) g-is same;
    }

pub next_line : (sheet held : List ℕ) (line place : ℕ) (before : Before) (frame : Frame) (t : Tables) (f : Found) → Sofar sheet held line place before frame t
    → read_line place sheet ≡ Ok (Some f) → (all : List Found) (end : Option ReadFault) → Reads sheet all end
    → Next sheet line place before (network t) f all end
next_line sheet held line place before frame t f s r all end reads =
    let rest = s.on all end reads in
    next_by sheet line place before (network t) f all end rest.left rest.reads.stop r rest.reads.handed rest.reads.ends rest.count rest.same

-- the row that was decoded is the row of the line
row_same : (sheet held : List ℕ) (k : LineKind) (bytes : List ℕ) (f : Found) → held ≡ sheet → k ≡ f.kind → bytes ≡ stretch held f → row_of k bytes ≡ row_at sheet f
row_same sheet held k bytes f s a b =
    ap (λ (x : LineKind). row_of x bytes) a ∙ ap (row_of f.kind) (b ∙ ap (λ (l : List ℕ). stretch l f) s)

-- what the reader answered, in terms of the sheet
pub record Got (sheet held : List ℕ) (place : ℕ) (frame : Frame) (row : Row) : Type 0 where
  pub line : Found
  pub read : read_line place sheet ≡ Ok (Some line)
  pub here : line_at frame place held ≡ Ok (Some line)
  pub row_is : row ≡ row_at sheet line

pub got : (sheet held : List ℕ) (line place : ℕ) (before : Before) (frame : Frame) (t : Tables) (next : Option PlacedLine) (p : PlacedLine)
    → Sofar sheet held line place before frame t → next ≡ Some p → seen (Ok next) ≡ shown held (line_at frame place held)
    → Got sheet held place frame (row_of (shows p.line).0 (shows p.line).1)
got sheet held line place before frame t next p s is e =
    let some : Ok (Some ((shows p.line).0, (shows p.line).1, p.place)) ≡ shown held (line_at frame place held) =
    sym (ap (λ (o : Option PlacedLine). seen (Ok o)) is) ∙ e in
    let l = some-line held (line_at frame place held) (shows p.line).0 (shows p.line).1 p.place some in
    record {
      line = l.line;
      read = sym (line-here sheet held frame place s.sheet_same s.whole) ∙ l.read;
      here = l.read;
      row_is = row_same sheet held (shows p.line).0 (shows p.line).1 l.line s.sheet_same l.kind_is l.bytes_are;
    }

-- the line is refused
pub line_refused : (sheet held : List ℕ) (line place : ℕ) (before : Before) (frame : Frame) (t after : Tables) (row : Row) (fault : LoadFault) (r : Result ℕ LoadFault)
    → Sofar sheet held line place before frame t → Got sheet held place frame row → r ≡ Err fault
    → Err fault ≡ line_filed line (placed before (network t) row)
    → (all : List Found) (end : Option ReadFault) → Reads sheet all end → Filed r after (length all) (sheet_loaded sheet all end)
line_refused sheet held line place before frame t after row fault r s g answer told-fault all end reads =
    let n = next_line sheet held line place before frame t g.line s g.read all end reads in
    let told : loaded line before (network t) (row_at sheet g.line ∷ map (row_at sheet) n.left) end ≡ Err fault =
    ap (λ (x : Result Before LoadFault). and_then x (λ a. loaded (line + 1) a (filed (network t) (row_at sheet g.line)) (map (row_at sheet) n.left) end))
    (ap (λ (x : Row). line_filed line (placed before (network t) x)) (sym g.row_is) ∙ sym told-fault) in
    subst (Filed r after (length all)) n.same (subst (Filed r after (length all)) (sym told) answer)

-- ---- the line is filed

-- a line that was filed had its place and its room
placed-of : (before : Before) (n : Network) (row : Row) (after : Before) (line : ℕ) (u : Before) (r : Result Before Misplaced) → placed before n row ≡ r
    → Ok u ≡ line_filed line r → after ≡ before_after before r → placed before n row ≡ Ok after
placed-of before n row after line u (Ok b) is e a = is ∙ ap Ok (sym a)
placed-of before n row after line u (Err why) is e a = absurd (let z : ◌≡◌ {A = ℕ} 0 1 = cc in omega arith)

pub line-filed : (sheet held later : List ℕ) (line place forth : ℕ) (before after : Before) (frame then : Frame) (t u : Tables) (row : Row) (known : Before)
    → Sofar sheet held line place before frame t → Got sheet held place frame row
    → Ok known ≡ line_filed line (placed before (network t) row) → after ≡ before_after before (placed before (network t) row)
    → Holds u (network_after (placed before (network t) row) (network t) row)
    → later ≡ held → forth ≡ place_after place (line_at frame place held) → then ≡ frame_after frame (line_at frame place held) → place < forth
    → Sofar sheet later (line + 1) forth after then u
line-filed sheet held later line place forth before after frame then t u row known s g told knows told-holds kept goes framed moves =
    let n = network t in
    let f = g.line in
    let is : placed before n row ≡ Ok after = placed-of before n row after line known (placed before n row) refl told knows in
    let h2 : Holds u (filed n row) = subst (λ (x : Result Before Misplaced). Holds u (network_after x n row)) is told-holds in
    let net : network u ≡ filed n (row_at sheet f) = holds_network u (filed n row) h2 ∙ ap (filed n) g.row_is in
    let frame_is : then ≡ frame_after frame (Ok (Some f)) = framed ∙ ap (frame_after frame) g.here in
    let forth-is : forth ≡ f.end = goes ∙ ap (place_after place) g.here in
    let turn : line_filed line (placed before n (row_at sheet f)) ≡ Ok after = ap (λ (x : Row). line_filed line (placed before n x)) (sym g.row_is) ∙ ap (line_filed line) is in
    record {
      sheet_same = kept ∙ s.sheet_same;
      whole = ap (λ (x : Frame). x.end) frame_is ∙ s.whole;
      few = omega (arith, s.few);
      holds = holds_own u (filed n row) h2;
      on = λ all end reads.
          let m = next_line sheet held line place before frame t f s g.read all end reads in
          record {
            left = m.left;
            reads = subst (λ (p : ℕ). ReadsFrom sheet p m.left end) (sym forth-is) m.reads;
            count = m.count;
            same =
                ap (λ (x : Network). loaded (line + 1) after x (map (row_at sheet) m.left) end) net
                ∙ sym (ap (λ (x : Result Before LoadFault). and_then x (λ a. loaded (line + 1) a (filed n (row_at sheet f)) (map (row_at sheet) m.left) end)) turn)
                ∙ m.same;
          };
    }

pub moved : (r : Result (Option PlacedLine) ReadFault) (l : PlacedLine) (p q : ℕ) → r ≡ Ok (Some l) → Moves r p q → p < q
moved r l p q e m = subst (λ (x : Result (Option PlacedLine) ReadFault). Moves x p q) e m

-- the tables that were lent are those that the filing had
pub filed_at : (r : Result ℕ LoadFault) (u t : Tables) (count : ℕ) (n : Result Network LoadFault) → u ≡ t → Filed r t count n → Filed r u count n
filed_at r u t count n e f = subst (λ (x : Tables). Filed r x count n) (sym e) f
