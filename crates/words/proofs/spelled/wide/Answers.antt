use Rattle.std.proofs.Common.{◌≡◌, ◌+◌, ◌-◌, ◌*◌, get_or, drop, sym, ap, ◌∙◌, arith, true-eqb, false-eqb}
use Rattle.words.proofs.Numbers.{scan, scanned, no_digit, no_digits, over, onward, ended}
use Rattle.words.proofs.spelled.wide.Goals as goal

pub returns-then-is_empty : goal.returns-then-is_empty
returns-then-is_empty c = record { answer = no_digits 18446744073709551615 c.args.word.now (true-eqb _ 0 c.if-is_empty.ensures) }

pub returns-then-not-is_ascii_digit : goal.returns-then-not-is_ascii_digit
returns-then-not-is_ascii_digit c =
    let none = no_digit 18446744073709551615 c.loop-byte.value c.args.word.now _ c.loop-byte-test.true (sym c.if-not-is_ascii_digit.ensures.value) in
    let some = false-eqb _ 0 c.if-is_empty.ensures in
    record { answer = sym none ∙ c.loop-byte.invariant.1 ∙ scanned 18446744073709551615 c.args.word.now (omega arith) }

pub returns-in_err-checked_mul : goal.returns-in_err-checked_mul
returns-in_err-checked_mul c =
    let none = over 18446744073709551615 c.loop-byte.value c.args.word.now _ c.loop-byte-test.true (sym c.if-not-is_ascii_digit.ensures.value) (omega (arith, c.in_err-checked_mul.ensures)) in
    let some = false-eqb _ 0 c.if-is_empty.ensures in
    record { answer = c.from_residual.ensures ∙ sym none ∙ c.loop-byte.invariant.1 ∙ scanned 18446744073709551615 c.args.word.now (omega arith) }

pub returns-in_err-value : goal.returns-in_err-value
returns-in_err-value c =
    let none = over 18446744073709551615 c.loop-byte.value c.args.word.now _ c.loop-byte-test.true (sym c.if-not-is_ascii_digit.ensures.value)
    (omega (arith, c.in_err-value.ensures, c.in_ok-checked_mul.ensures.1, c.from.ensures)) in
    let some = false-eqb _ 0 c.if-is_empty.ensures in
    record { answer = c.from_residual-in_err-value.ensures ∙ sym none ∙ c.loop-byte.invariant.1 ∙ scanned 18446744073709551615 c.args.word.now (omega arith) }

pub loop-byte-preserved : goal.loop-byte-preserved
loop-byte-preserved c =
    let value : c.in_ok-value.value ≡ c.loop-byte.value * 10 + (get_or c.args.word.now c.loop-byte.byte-index 0 - 48) = omega (arith, c.in_ok-value.ensures.1, c.in_ok-checked_mul.ensures.1, c.from.ensures) in
    let more = onward 18446744073709551615 c.loop-byte.value c.args.word.now _ c.loop-byte-test.true (sym c.if-not-is_ascii_digit.ensures.value)
    (omega (arith, c.in_ok-value.ensures.0, c.in_ok-checked_mul.ensures.1, c.from.ensures)) in
    (omega (arith, c.in_ok-value.ensures.0, c.in_ok-value.ensures.1), ap (λ v. scan 18446744073709551615 v (drop (c.loop-byte.byte-index + 1) c.args.word.now)) value ∙ sym more ∙ c.loop-byte.invariant.1)

pub returns : goal.returns
returns c =
    let some = false-eqb _ 0 c.if-is_empty.ensures in
    record { answer = sym (ended 18446744073709551615 c.loop-byte.value c.args.word.now _ c.loop-byte-test.false) ∙ c.loop-byte.invariant.1 ∙ scanned 18446744073709551615 c.args.word.now (omega arith) }
