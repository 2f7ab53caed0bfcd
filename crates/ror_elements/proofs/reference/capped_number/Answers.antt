use Rattle.std.proofs.Common.{◌∙◌}
use Rattle.std.proofs.Math.Nat.{min-le_right}
use Rattle.ror_elements.proofs.NumberLemmas.{digit_step}
use Rattle.ror_elements.specs.declared.reference.TheConstants.{CODE_LIMIT}
use Rattle.ror_elements.proofs.reference.capped_number.Goals as goal

pub digits-preserved : goal.digits-preserved
digits-preserved c = record {
  same = rw (c.min-number.ensures, c.digit_value.ensures.value) (digit_step CODE_LIMIT c.args.base c.digits.number c.args.digits.now c.digits.byte-index c.requires.low c.digits-test.true ∙ c.digits.invariant.same);
  small = rw c.min-number.ensures (min-le_right _ _);
}
