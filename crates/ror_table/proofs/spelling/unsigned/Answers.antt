use Rattle.std.proofs.Common.{rules, ◌<◌, ◌≡◌, ◌∙◌, true, sym, length, get_or, w64, FitsSigned}
use Rattle.std.specs.Char.{is_ascii_digit}
use Rattle.ror_table.proofs.SpellingLemmas.{unsigned_none, unsigned_some}
use Rattle.ror_table.proofs.spelling.unsigned.Goals as goal

pub returns-in_err-read_performance-clause-value :
    goal.returns-in_err-read_performance-clause-value
returns-in_err-read_performance-clause-value c =
    let some : 0 < length c.args.digits.now = search rules in
    let digit : is_ascii_digit (get_or c.args.digits.now 0 0) ≡ true = cc (c.is_ascii_digit.ensures.value, c.if-not-is_ascii_digit.false) in
    c.from_residual.ensures ∙ sym (unsigned_none c.args.digits.now some digit c.in_err-read_performance.ensures.value)

pub returns-clause-value : goal.returns-clause-value
returns-clause-value c =
    let some : 0 < length c.args.digits.now = search rules in
    let digit : is_ascii_digit (get_or c.args.digits.now 0 0) ≡ true = cc (c.is_ascii_digit.ensures.value, c.if-not-is_ascii_digit.false) in
    let fits : FitsSigned w64 c.in_ok-read_performance.field-0 = search rules in
    unsigned_some c.args.digits.now c.in_ok-read_performance.field-0 c.unsigned_abs.result some digit c.in_ok-read_performance.ensures.value c.unsigned_abs.ensures.value fits
