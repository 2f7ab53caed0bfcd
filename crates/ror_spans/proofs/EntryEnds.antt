-- What ends every entry: what begins with `pair `, and the last line of a report.
use Rattle.std.proofs.Common.{◌≡◌, ℕ, false, List, [], ◌∷◌, ◌++◌, drop, refl, ap}
use Rattle.std.specs.Prelude.{codes}
use Rattle.ror_text.specs.SpacedLines.{line_text}
use Rattle.ror_report.specs.Text.{end_text}
use Rattle.ror_proof.specs.Reading.{begins_part}
use Rattle.ror_confidence.specs.declared.span.LevelAnswer.{LevelAnswer}
use Rattle.ror_spans.specs.declared.entry.Entry.{Entry}
use Rattle.ror_spans.specs.declared.entry.Entry.TheVariants as entries
use Rattle.ror_spans.specs.Reading.{begins_level}
use Rattle.ror_spans.specs.EntryLaws.{IsEnded, IsEndedAfter}

-- what is neither a part nor the line of a level ends every entry
pub no_part_ends : (xs : List LevelAnswer) (rest : List ℕ) → begins_part rest ≡ false → IsEndedAfter xs rest
no_part_ends [] rest none = tt
no_part_ends (x ∷ xs) rest none = none

pub ends : (x : Entry) (rest : List ℕ) → begins_level rest ≡ false → begins_part rest ≡ false → IsEnded x rest
ends (entries.Known first second span) rest no_level no_part = (no_level, no_part_ends span.proof rest no_part)
ends (entries.Wide first second found) rest no_level no_part = no_part

pub pair_ends : (x : Entry) (more : List ℕ) → IsEnded x (codes "pair " ++ more)
pair_ends x more = ends x (codes "pair " ++ more) refl refl

end_begins : (n : ℕ) → (more : List ℕ) × (end_text n ≡ codes "end " ++ more)
unfolding end_text line_text
end_begins n = (drop 4 (end_text n), refl)

pub end_ends : (x : Entry) (n : ℕ) → IsEnded x (end_text n)
end_ends x n =
    let begins = end_begins n in
    ends x (end_text n) (ap begins_level begins.1) (ap begins_part begins.1)
