use Rattle.std.proofs.Common.{◌≡◌, take}
use Rattle.std.specs.List.{flat_map}
use Rattle.ror_value.specs.Meaning.{assignments_of}
use Rattle.ror_rows.specs.Rows.{class_conditions}
use Rattle.ror_rows.proofs.questions.in_class.Given as goal

abbrev pub invariant-loop-statement : goal.invariant-loop-statement
invariant-loop-statement l = l.extras.items ≡ flat_map (class_conditions l.alternative l.class) (assignments_of (take l.statement-index l.list))
