use Rattle.std.proofs.Common.{◌≡◌, ◌+◌, ◌*◌, ◌^◌, ◌≤◌, drop, length}
use Rattle.std.specs.Prelude.{min}
use Rattle.ror_elements.specs.References.{digits_number}
use Rattle.ror_elements.specs.declared.reference.TheConstants.{CODE_LIMIT}
use Rattle.ror_elements.proofs.reference.capped_number.Given as goal

abbrev pub invariant-digits : goal.invariant-digits
invariant-digits l = record {
  same : min (l.number * l.base ^ length (drop l.byte-index l.digits) + digits_number l.base (drop l.byte-index l.digits)) CODE_LIMIT ≡ min (digits_number l.base l.digits) CODE_LIMIT;
  small : l.number ≤ CODE_LIMIT;
}
