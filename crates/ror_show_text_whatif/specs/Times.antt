-- The rows of a time: of each statement, in how many alternatives' classes something changes. The same stood at each of its lines.
use Rattle.std.specs.Prelude.{ℕ, Bool, true, false, not, ◌==◌, List, [], ◌∷◌, length, count_by, slice_get, Option, Some, None}
use Rattle.std.specs.List.{find, flat_map, range_with_len}
use Rattle.std.specs.Option.{option_map_or}
use Rattle.ror_show_find_whatif.specs.declared.agreement.Agreement.{Agreement}
use Rattle.ror_show_find_whatif.specs.declared.agreement.Agreement.TheVariants.{Agrees, Contradicts, Unknown}
use Rattle.ror_show_find_whatif.specs.declared.cases.Case.{Case}
use Rattle.ror_show_find_whatif.specs.declared.classes.ClassEffect.{ClassEffect}
use Rattle.ror_show_find_whatif.specs.declared.classes.ClassShift.{ClassShift}
use Rattle.ror_show_find_whatif.specs.declared.classes.ClassShift.TheVariants as shifts
use Rattle.ror_show_find_whatif.specs.declared.outcome.Effect.{Effect}
use Rattle.ror_show_find_whatif.specs.declared.outcome.Effect.TheVariants.{OfPairs, OfClasses}
use Rattle.ror_show_find_whatif.specs.declared.outcome.Outcome.{Outcome}
use Rattle.ror_show_find_whatif.specs.declared.whatif.WhatIf.{WhatIf}
use Rattle.ror_show_text_whatif.specs.declared.rows.Row.{Row}
use Rattle.ror_show_text_whatif.specs.declared.told.Counts.{Counts}
use Rattle.ror_show_text_whatif.specs.declared.told.Remark.{Remark}
use Rattle.ror_show_text_whatif.specs.declared.told.Remark.TheVariants.{NoContrary}
use Rattle.ror_show_text_whatif.specs.declared.told.Told.{Told}
use Rattle.ror_show_text_whatif.specs.declared.told.Told.TheVariants as tells
use Rattle.ror_show_text_whatif.specs.declared.ways.Way.{Way}
use Rattle.ror_show_text_whatif.specs.Told.{remark_for, told_by}
use Rattle.ror_show_text_whatif.specs.Ways.{outcome_in, said_in}

-- ---- what a line has

-- the classes of a list
abbrev pub listed_among : ClassShift → ClassEffect → List ℕ
listed_among shifts.Opened f = f.opened
listed_among shifts.Closed f = f.closed
listed_among shifts.Loosened f = f.loosened
listed_among shifts.Bound f = f.bound
listed_among shifts.Unknown f = f.unknown

abbrev pub listed_in : ClassShift → Effect → List ℕ
listed_in shift (OfClasses f) = listed_among shift f
listed_in shift (OfPairs f) = []

abbrev pub outcome_for : Way → Option Case → Option Outcome
outcome_for way (Some c) = outcome_in way c
outcome_for way None = None

-- where the statement at a place is changed
abbrev pub outcome_at : Way → ℕ → WhatIf → Option Outcome
outcome_at way k f = outcome_for way (slice_get f.cases k)

abbrev pub listed_at : ClassShift → Way → ℕ → WhatIf → List ℕ
listed_at shift way k f = option_map_or (λ o. listed_in shift o.effect) (outcome_at way k f) []

abbrev pub lists_some : ClassShift → Way → ℕ → WhatIf → Bool
lists_some shift way k f = not (length (listed_at shift way k f) == 0)

abbrev pub later_at : Way → ℕ → WhatIf → Agreement
later_at way k f = option_map_or (λ o. o.agreement) (outcome_at way k f) Unknown

-- ---- what the lines have together

-- it is concluded
abbrev pub is_known : Agreement → Bool
is_known Agrees = true
is_known Contradicts = true
is_known Unknown = false

abbrev pub is_known_at : WhatIf → Bool
is_known_at f = is_known f.agreement

-- whether some function agrees with what stands: as the first line says that concludes it
abbrev pub agreement_over : List WhatIf → Agreement
agreement_over fs = option_map_or (λ f. f.agreement) (find is_known_at fs) Unknown

abbrev pub is_known_later : Way → ℕ → WhatIf → Bool
is_known_later way k f = is_known (later_at way k f)

-- whether some does where the statement at a place is changed
abbrev pub later_over : Way → List WhatIf → ℕ → Agreement
later_over way fs k = option_map_or (later_at way k) (find (is_known_later way k) fs) Unknown

-- how many alternatives have classes in a list
abbrev pub count_of : ClassShift → Way → List WhatIf → ℕ → ℕ
count_of shift way fs k = count_by (lists_some shift way k) fs

abbrev pub counts_over : Way → List WhatIf → ℕ → Counts
counts_over way fs k = record {
  first = count_of shifts.Opened way fs k;
  second = count_of shifts.Closed way fs k;
  third = count_of shifts.Loosened way fs k;
  fourth = count_of shifts.Bound way fs k;
  unknown = count_of shifts.Unknown way fs k;
}

-- ---- the rows

abbrev pub remark_over : Way → List WhatIf → ℕ → Option Remark
remark_over way fs k = remark_for way (agreement_over fs) (later_over way fs k)

-- where the way is open to the statement
abbrev pub told_over : Way → List WhatIf → ℕ → Option Outcome → Told
told_over way fs k (Some o) = told_by (remark_over way fs k) (counts_over way fs k)
told_over way fs k None = tells.Remark NoContrary

abbrev pub row_of : Way → List WhatIf → ℕ → Case → Row
row_of way fs k c = record {
  number = c.stated.number;
  said = said_in way c;
  told = told_over way fs k (outcome_in way c);
}

-- how many statements stood
abbrev pub cases_in : List WhatIf → ℕ
cases_in [] = 0
cases_in (f ∷ fs) = length f.cases

-- the one at a place
abbrev pub case_at : List WhatIf → ℕ → Option Case
case_at [] k = None
case_at (f ∷ fs) k = slice_get f.cases k

abbrev pub rows_at : Way → List WhatIf → ℕ → List Row
rows_at way fs k = option_map_or (λ c. row_of way fs k c ∷ []) (case_at fs k) []

-- in the order of the statements
abbrev pub time_rows : Way → List WhatIf → List Row
time_rows way fs = flat_map (rows_at way fs) (range_with_len 0 (cases_in fs))
