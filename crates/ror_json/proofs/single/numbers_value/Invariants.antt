use Rattle.std.proofs.Common.{drop}
use Rattle.ror_json.specs.Form.{number_form}
use Rattle.ror_json.proofs.Lists.{FormsSoFar}
use Rattle.ror_json.proofs.single.numbers_value.Given as goal

abbrev pub invariant-numbers : goal.invariant-numbers
invariant-numbers l = FormsSoFar number_form l.texts.items (drop l.k l.numbers) l.numbers
