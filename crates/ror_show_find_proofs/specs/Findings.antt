-- What stands in the proofs of answers, as values: the functions of a line, and what the statements of an answer sum up to.
use Rattle.std.specs.Prelude.{◌≡◌, ℕ, ◌<◌, Bool, List, length, map, slice_get, Option, Some, None, IfSome, if◌then◌else◌}
use Rattle.std.specs.List.{AllByRecursion, AllZip}
use Rattle.std.specs.Option.{option_and_then}
use Rattle.ror_statement.specs.declared.comparison.Comparison.{Comparison}
use Rattle.ror_statement.specs.declared.statement.Statement.{Statement}
use Rattle.ror_statement.specs.declared.question.Question.{Question}
use Rattle.ror_table.specs.Table.{DecisionTable}
use Rattle.ror_system.specs.System.{LinearSystem}
use Rattle.ror_system.specs.declared.accept.Multipliers.{Multipliers}
use Rattle.ror_value.specs.Value.{IsFunctionOf}
use Rattle.ror_proof.specs.declared.answer.Answer.{Answer}
use Rattle.ror_proof.specs.declared.answer.Certificate.{Certificate}
use Rattle.ror_proof.specs.declared.answer.Certificate.TheVariants as certificates
use Rattle.ror_proof.specs.declared.answer.Verdict.{Verdict}
use Rattle.ror_report.specs.Text.{answers_of}
use Rattle.ror_bench.specs.declared.kept.KeptLine.{KeptLine}
use Rattle.ror_show_ground.specs.Grounds.{Ground}
use Rattle.ror_show_ground.specs.Lines.{answered_places}
use Rattle.ror_show_find_proofs.specs.declared.findings.FunctionFound.{FunctionFound}
use Rattle.ror_show_find_proofs.specs.declared.findings.FunctionsFound.{FunctionsFound}
use Rattle.ror_show_find_proofs.specs.declared.function_places.Place.{Place}
use Rattle.ror_show_find_proofs.specs.declared.sums.Sum.{Sum}
use Rattle.ror_show_find_proofs.specs.Functions.{function_of}
use Rattle.ror_show_find_proofs.specs.Places.{steps_at, places}
use Rattle.ror_show_find_proofs.specs.Linear.{compared, linear_used}
use Rattle.ror_show_find_proofs.specs.Spans.{IsSpanIn, spans_of}
use Rattle.ror_show_find_proofs.specs.Sums.{is_over, is_positive_used, used_columns, refuted, refutation, is_clash}

-- ---- the functions of a line

-- that at a place of the answers; none where the value of all best levels passes 127 bits
unfoldable pub function_found : DecisionTable → List Answer → Place → FunctionFound
function_found t xs p = record { at = p; function = option_and_then (function_of t) (steps_at xs p) }

-- those at these places
abbrev pub each_function : DecisionTable → List Answer → List Place → List FunctionFound
each_function t xs ps = map (function_found t xs) ps

abbrev pub functions_found : DecisionTable → List Answer → List FunctionFound
functions_found t xs = each_function t xs (places xs)

-- those in the answers to the kept line at a place
pub record AreFunctionsAt (g : Ground) (n : ℕ) (f : FunctionsFound) : Type 0 where
  pub line : KeptLine
  pub there : slice_get g.kept n ≡ Some line
  pub place : f.place ≡ n
  pub functions : f.functions ≡ functions_found g.table (answers_of line.block.body)

-- of each kept line that is answered, in order
abbrev pub AreFunctionsFound : Ground → List FunctionsFound → Type 0
AreFunctionsFound g fs = AllZip (AreFunctionsAt g) (answered_places g.kept) fs

-- it is a function of the table, where there is one
abbrev pub IsOfTable : DecisionTable → FunctionFound → Type 0
IsOfTable t x = IfSome x.function (IsFunctionOf t)

abbrev pub AreOfTable : DecisionTable → FunctionsFound → Type 0
AreOfTable t f = AllByRecursion (IsOfTable t) f.functions

-- ---- what the statements of an answer sum up to

-- its criteria and spans are of the table
pub record IsSumIn (t : DecisionTable) (x : Sum) : Type 0 where
  pub linear : AllByRecursion (λ i. i < length t.criteria) x.linear
  pub spans : AllByRecursion (IsSpanIn t) x.spans

-- nothing where there isn't a multiplier for each row
abbrev pub sum_over : DecisionTable → List Comparison → LinearSystem → Bool → Multipliers → Option Sum
sum_over t cs s clashes m = if is_over s m
    then Some (record {
      clashes = clashes;
      positive = is_positive_used m;
      linear = linear_used t cs m;
      spans = spans_of t (used_columns s m);
    })
    else None

abbrev pub sum_for : DecisionTable → List Comparison → LinearSystem → Bool → Option Certificate → Option Sum
sum_for t cs s clashes (Some (certificates.Multipliers m)) = sum_over t cs s clashes m
sum_for t cs s clashes _ = None

-- by the multipliers that refute its opposite
unfoldable pub sum_found : DecisionTable → List Statement → Question → Verdict → Option Sum
sum_found t list q v = sum_for t (compared list q v) (refuted t list q v) (is_clash v) (refutation v)
