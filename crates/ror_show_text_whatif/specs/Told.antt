-- What is told of a changed statement: counts, or words in their place.
use Rattle.std.specs.Prelude.{ℕ, length, Option, Some, None}
use Rattle.ror_show_find_whatif.specs.declared.agreement.Agreement.{Agreement}
use Rattle.ror_show_find_whatif.specs.declared.agreement.Agreement.TheVariants.{Agrees, Contradicts, Unknown}
use Rattle.ror_show_find_whatif.specs.declared.outcome.Effect.{Effect}
use Rattle.ror_show_find_whatif.specs.declared.outcome.Effect.TheVariants.{OfPairs, OfClasses}
use Rattle.ror_show_text_whatif.specs.declared.told.Counts.{Counts}
use Rattle.ror_show_text_whatif.specs.declared.told.Remark.{Remark}
use Rattle.ror_show_text_whatif.specs.declared.told.Remark.TheVariants.{Ends, Stays, NotKnown, NoFunction, Excluded}
use Rattle.ror_show_text_whatif.specs.declared.told.Told.{Told}
use Rattle.ror_show_text_whatif.specs.declared.told.Told.TheVariants as tells
use Rattle.ror_show_text_whatif.specs.declared.ways.Way.{Way}
use Rattle.ror_show_text_whatif.specs.declared.ways.Way.TheVariants.{Withdrawn, Contrary}

-- how many pairs, or classes, stand in each list
abbrev pub counts_of : Effect → Counts
counts_of (OfPairs f) = record {
  first = length f.lost;
  second = length f.weaker;
  third = length f.won;
  fourth = length f.stronger;
  unknown = length f.unknown;
}
counts_of (OfClasses f) = record {
  first = length f.opened;
  second = length f.closed;
  third = length f.loosened;
  fourth = length f.bound;
  unknown = length f.unknown;
}

-- where no function agrees now, by whether one does then
abbrev pub remark_by : Agreement → Remark
remark_by Agrees = Ends
remark_by Contradicts = Stays
remark_by Unknown = NotKnown

-- where none agrees then
abbrev pub none_agrees : Way → Remark
none_agrees Withdrawn = NoFunction
none_agrees Contrary = Excluded

-- where some function agrees now, or that isn't known
abbrev pub remark_then : Way → Agreement → Option Remark
remark_then way Contradicts = Some (none_agrees way)
remark_then way Agrees = None
remark_then way Unknown = None

-- What is said in place of counts, by whether some function agrees now, and whether one does then. There are counts where none is known to
-- contradict.
abbrev pub remark_for : Way → Agreement → Agreement → Option Remark
remark_for way Contradicts later = Some (remark_by later)
remark_for way Agrees later = remark_then way later
remark_for way Unknown later = remark_then way later

abbrev pub told_by : Option Remark → Counts → Told
told_by (Some remark) n = tells.Remark remark
told_by None n = tells.Counts n

-- the count by which rows are ordered
abbrev pub first_of : Told → ℕ
first_of (tells.Counts n) = n.first
first_of (tells.Remark remark) = 0
