-- The number that a value's first element writes.
use Rattle.std.specs.Prelude.{codes, Result, Ok, Err, if◌then◌else◌, ℤ, pos}
use Rattle.std.specs.Ordering.{int_eq}
use Rattle.std.specs.Str.{bytes_eq}
use Rattle.ror_text.specs.Numbers.{read_performance}
use Rattle.ror_text.specs.Reading.{◌>>=◌, refuse, need}
use Rattle.ror_table.specs.declared.amount.Amount.{Amount}
use Rattle.ror_table.specs.declared.fault.Kind.TheVariants as unsupported
use Rattle.ror_table.specs.declared.fault.TableFault.{TableFault}
use Rattle.ror_table.specs.declared.fault.TableKind.TheVariants.{BadNumber, Unsupported}
use Rattle.ror_table.specs.Amounts.{lowest}
use Rattle.ror_table.specs.Plain.{at_line}
use Rattle.ror_table.specs.Spellings.{whole_amount, real_of}
use Rattle.ror_elements.specs.Tree.{Tree, name_of}
use Rattle.ror_xmcda.specs.Nodes.{text_of, line_of, first_named}

-- a whole number
unfoldable pub number_at : Tree → Result ℤ TableFault
number_at t = need (at_line (line_of t) BadNumber) (read_performance (text_of t))

-- a whole number over another, which isn't 0 and may be negative
unfoldable pub rational : Tree → Result Amount TableFault
rational t = do
  above ← need (at_line (line_of t) BadNumber) (first_named (codes "numerator") t)
  numerator ← number_at above
  below ← need (at_line (line_of t) BadNumber) (first_named (codes "denominator") t)
  denominator ← number_at below
  _ ← refuse (at_line (line_of below) BadNumber) (int_eq denominator (pos 0))
  Ok (lowest numerator denominator)

-- by the element's name: a whole number, a whole number or a decimal, a fraction
unfoldable pub number_of : Tree → Result Amount TableFault
number_of t =
    if bytes_eq (name_of t) (codes "integer") then need (at_line (line_of t) BadNumber) (whole_amount (text_of t))
    else (if bytes_eq (name_of t) (codes "real") then need (at_line (line_of t) BadNumber) (real_of (text_of t))
    else (if bytes_eq (name_of t) (codes "rational") then rational t
    else Err (at_line (line_of t) (Unsupported unsupported.Value))))
