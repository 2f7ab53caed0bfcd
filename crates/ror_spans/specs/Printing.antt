-- The entries that a printer takes.
use Rattle.std.specs.Prelude.{◌<◌, length}
use Rattle.std.specs.List.{AllByRecursion}
use Rattle.ror_table.specs.Table.{DecisionTable}
use Rattle.ror_report.specs.Printing.{HasValidQuestion, HasNarrowVerdict}
use Rattle.ror_spans.specs.declared.entry.Entry.{Entry}
use Rattle.ror_spans.specs.declared.entry.Entry.TheVariants as entries

-- the alternatives are of the table
abbrev pub HasAlternatives : DecisionTable → Entry → Type 0
HasAlternatives t (entries.Known first second span) =
    (first < length t.alternatives) × (second < length t.alternatives)
HasAlternatives t (entries.Wide first second found) =
    (first < length t.alternatives) × (second < length t.alternatives)

-- each answer is to a valid question of the table
abbrev pub HasValidQuestions : DecisionTable → Entry → Type 0
HasValidQuestions t (entries.Known first second span) =
    AllByRecursion (λ x. HasValidQuestion t x.answer) span.proof
HasValidQuestions t (entries.Wide first second found) = HasValidQuestion t found.answer

-- no number of their certificates is of absolute value above 2^127 - 1
abbrev pub HasNarrowAnswers : Entry → Type 0
HasNarrowAnswers (entries.Known first second span) =
    AllByRecursion (λ x. HasNarrowVerdict x.answer) span.proof
HasNarrowAnswers (entries.Wide first second found) = HasNarrowVerdict found.answer
