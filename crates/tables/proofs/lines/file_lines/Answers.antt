use Rattle.std.proofs.Common.{◌≡◌, Ok, Err, MatchResult, IsErrAnd, rules, sym, ap, ◌∙◌}
use Rattle.std.proofs.lemmas.Result.{err_from_is_err_and}
use Rattle.sheet.specs.Showing.{seen}
use Rattle.tables.specs.declared.fault.LoadFault.{LoadFault}
use Rattle.tables.specs.declared.fault.LoadFault.TheVariants.{Unreadable}
use Rattle.tables.proofs.Turns.{blank_holds, fault_filed, end_told, got, line_refused, line-filed, moved, filed_at}
use Rattle.tables.proofs.lines.file_lines.Goals as goal

pub new-filing-requires : goal.new-filing-requires
new-filing-requires c = record { holds = blank_holds _ c.requires.blank }

pub returns-in_err-placed-clause-answer : goal.returns-in_err-placed-clause-answer
returns-in_err-placed-clause-answer c =
    let l = c.loop-placed in
    let mapped : MatchResult c.next_line.result (λ x. c.map_err.result ≡ Ok x) (λ f. IsErrAnd c.map_err.result (λ (g : LoadFault). g ≡ Unreadable l.line f)) = search rules in
    let e = err_from_is_err_and c.from_residual.result c.from_residual.ensures.1 in
    λ fs end reads.
    filed_at _ _ l.filing.tables.now _ _ (search rules)
    (fault_filed _ _ _ l.reader.place l.filing.before l.reader.frame _ _ _ _ _ l.invariant.so_far mapped c.in_err-placed.was c.next_line.ensures.answer (e.1 ∙ ap Err e.2) fs end reads)

pub returns-in_err-file_line-clause-answer : goal.returns-in_err-file_line-clause-answer
returns-in_err-file_line-clause-answer c =
    let l = c.loop-placed in
    let same : c.next_line.result ≡ Ok c.in_ok-placed.field-0 = search rules in
    let g = got _ _ _ l.reader.place l.filing.before l.reader.frame _ _ c.in-Some.placed l.invariant.so_far c.in-Some.is (sym (ap seen same) ∙ c.next_line.ensures.answer) in
    let e = err_from_is_err_and c.from_residual-in_err-file_line.result c.from_residual-in_err-file_line.ensures.1 in
    line_refused _ _ _ l.reader.place l.filing.before l.reader.frame _ _ _ _ _ l.invariant.so_far g (e.1 ∙ ap Err e.2) c.in_err-file_line.ensures.answer

pub loop-placed-preserved : goal.loop-placed-preserved
loop-placed-preserved c =
    let l = c.loop-placed in
    let r = c.next_line.ensures in
    let f = c.in_ok-file_line.ensures in
    let same : c.next_line.result ≡ Ok c.in_ok-placed.field-0 = search rules in
    let g = got _ _ _ l.reader.place l.filing.before l.reader.frame _ _ c.in-Some.placed l.invariant.so_far c.in-Some.is (sym (ap seen same) ∙ r.answer) in
    record {
      same_reference = f.same_reference ∙ l.invariant.same_reference;
      so_far =
          line-filed _ _ _ _ _ _ _ _ _ _ _ _ _ _ l.invariant.so_far g f.answer f.before f.after r.same r.place r.frame
          (moved _ _ _ _ (same ∙ ap Ok c.in-Some.is) r.moves);
    }

pub returns-clause-answer : goal.returns-clause-answer
returns-clause-answer c =
    let l = c.loop-placed in
    let same : c.next_line.result ≡ Ok c.in_ok-placed.field-0 = search rules in
    λ fs end reads.
    filed_at _ _ l.filing.tables.now _ _ (search rules)
    (end_told _ _ _ l.reader.place l.filing.before l.reader.frame _ _ l.invariant.so_far c.in_default.is (sym (ap seen same) ∙ c.next_line.ensures.answer) fs end reads)
