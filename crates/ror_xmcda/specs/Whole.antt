-- The table of what is kept.
use Rattle.std.specs.Prelude.{ℕ, ◌||◌, ◌==◌, List, [], ◌∷◌, ◌++◌, false, length, slice_index_or, Result, Ok}
use Rattle.std.specs.List.{range_with_len, enumerate_from}
use Rattle.ror_text.specs.Reading.{◌>>=◌, refuse, need, read_all}
use Rattle.ror_table.specs.declared.amount.Amount.{Amount}
use Rattle.ror_table.specs.declared.direction.Direction.{Direction}
use Rattle.ror_table.specs.declared.direction.Direction.TheVariants.{Max}
use Rattle.ror_table.specs.declared.fault.What.TheVariants as whats
use Rattle.ror_table.specs.declared.fault.TableFault.{TableFault}
use Rattle.ror_table.specs.declared.fault.TableKind.TheVariants.{MissingPerformance, Empty, TooMany, WideScale}
use Rattle.ror_table.specs.Plain.{at_line}
use Rattle.ror_table.specs.Draft.{empty_table, add_criterion, add_alternative, finished}
use Rattle.ror_table.specs.Table.{DecisionTable}
use Rattle.ror_xmcda.specs.declared.criteria.Criteria.{Criteria}
use Rattle.ror_xmcda.specs.Performances.{Given, given_at}

-- a table with these criteria, each by its place and its id; none is linear
abbrev pub with_criteria : List Direction → DecisionTable → List (ℕ × List ℕ) → DecisionTable
with_criteria directions t [] = t
with_criteria directions t (c ∷ cs) =
    with_criteria directions (add_criterion t c.1
    (record { direction = slice_index_or directions c.0 Max; linear = false })) cs

-- the criteria that are kept, in order
unfoldable pub criteria_table : Criteria → DecisionTable
criteria_table criteria =
    with_criteria criteria.directions empty_table (enumerate_from 0 criteria.ids.kept)

-- the performances with the one on a criterion more
unfoldable pub next_performance : Given → ℕ → List Amount → ℕ → Result (List Amount) TableFault
next_performance given a row i = do
  performance ← need (at_line 0 MissingPerformance) (given_at given (a, i))
  Ok (row ++ performance ∷ [])

-- the performances of an alternative on so many criteria, which have to be given
unfoldable pub row_of : Given → ℕ → ℕ → Result (List Amount) TableFault
row_of given criteria a = read_all (next_performance given a) [] (range_with_len 0 criteria)

-- the table with the alternative of this place and id
unfoldable pub with_alternative : Given → DecisionTable → ℕ × List ℕ → Result DecisionTable TableFault
with_alternative given t x = do
  row ← row_of given (length t.criteria) x.0
  Ok (add_alternative t x.1 row)

-- the table of the criteria, with the alternatives of these ids and so many classes
unfoldable pub table_of : Given → Criteria → List (List ℕ) → ℕ → Result DecisionTable TableFault
table_of given criteria ids classes = do
  _ ← refuse (at_line 0 Empty) (length criteria.ids.kept == 0 || length ids == 0)
  t ← read_all (with_alternative given) (record (criteria_table criteria) { classes = classes })
      (enumerate_from 0 ids)
  finished (at_line 0 Empty) (at_line 0 (TooMany whats.Steps)) (at_line 0 WideScale) t
