use Rattle.std.proofs.Common.{◌≡◌, true, false, refl}
use Rattle.std.proofs.lemmas.Bool.{false_from_ne_true}
use Rattle.std.proofs.lemmas.Str.{IsUtf8-from_is_utf8, is_utf8-from_IsUtf8}
use Rattle.std.specs.Str.{is_utf8}
use Rattle.ror_elements.proofs.reading.refuse_bad_utf8.Goals as goal

pub returns-in-Some : goal.returns-in-Some
returns-in-Some c =
    let invalid : is_utf8 c.args.bytes.now ≡ false = false_from_ne_true (is_utf8 c.args.bytes.now) (λ valid. c.in-Some.ensures.0 (IsUtf8-from_is_utf8 c.args.bytes.now valid)) in
    rw (invalid, c.fault.ensures, c.in-Some.ensures.1) refl

pub returns-in-None : goal.returns-in-None
returns-in-None c =
    let valid : is_utf8 c.args.bytes.now ≡ true = is_utf8-from_IsUtf8 c.args.bytes.now c.in-None.ensures in
    rw valid refl
