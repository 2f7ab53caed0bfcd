-- What a draft's maps hold.
use Rattle.std.specs.Prelude.{String, map}
use Rattle.std.specs.Global.{Global, Vec}
use Rattle.std.specs.String.{string_bytes}
use Rattle.ror_table.specs.declared.amount.Amount.{Amount}
use Rattle.ror_table.specs.declared.direction.Scale.{Scale}
use Rattle.ror_table.specs.declared.draft.Draft.TheInside.{Inside}
use Rattle.ror_table.specs.Table.{Criterion, Alternative, DecisionTable}

abbrev pub criterion_of : String Global × Scale → Criterion
criterion_of e =
    record { id = string_bytes e.0; direction = e.1.direction; linear = e.1.linear }

abbrev pub alternative_of : String Global × Vec Amount → Alternative
alternative_of e = record { id = string_bytes e.0; performances = e.1.items }

abbrev pub contents : Inside → DecisionTable
contents d =
    record {
      criteria = map criterion_of d.criteria.entries;
      alternatives =
          map alternative_of d.alternatives.entries;
      classes = d.classes;
    }
