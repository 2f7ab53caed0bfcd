-- What the command that generates an input writes: how many answers of a report of its session have which verdict.
use Rattle.std.specs.Prelude.{◌≡◌, ℕ, ◌+◌, Bool, true, false, List, [], ◌∷◌, ◌++◌, None, codes, decimal, count_by, nat_lt}
use Rattle.std.specs.List.{concat, flat_map}
use Rattle.ror_proof.specs.declared.answer.Verdict.{Verdict}
use Rattle.ror_proof.specs.declared.answer.Verdict.TheVariants as verdicts
use Rattle.ror_proof.specs.declared.answer.Answer.{Answer}
use Rattle.ror_session.specs.declared.session.Line.{Line}
use Rattle.ror_report.specs.declared.block.Block.{Block}
use Rattle.ror_report.specs.Text.{answers_of}
use Rattle.ror_bench.specs.declared.report.Accepted.{Accepted}
use Rattle.ror_bench.specs.Generated.{generated}
use Rattle.ror_bench.specs.Bench.{Workbench}
use Rattle.ror_bench.specs.Replays.{AreBlocksAt}
use Rattle.ror_bench.specs.Reports.{accepted_of}
use Rattle.ror_generate.specs.declared.summary.Verdicts.{Verdicts}
use Rattle.ror_generate.specs.declared.summary.Summary.{Summary}
use Rattle.ror_generate.specs.declared.summary.VerdictKind.{VerdictKind}
use Rattle.ror_generate.specs.declared.summary.VerdictKind.TheVariants as kinds
use Rattle.ror_frame.specs.Courses.{Output, finish, Chore}
use Rattle.ror_frame.specs.Statuses.{accepted_text}
use Rattle.ror_pivot.specs.Answers.{most_of}
use Rattle.ror_pivot.specs.declared.note.Bits.TheVariants.{B127}
use Rattle.ror_frame.specs.Inputs.{bench_for, IsReportOf}

-- the greatest value of a number at the width of such a report
abbrev pub most : ℕ
most = most_of B127

-- ---- how many answers have which verdict

-- the verdict is of this kind
abbrev pub is_kind : VerdictKind → Verdict → Bool
is_kind kinds.Yes (verdicts.Yes proof) = true
is_kind kinds.No (verdicts.No proof) = true
is_kind kinds.Contradiction (verdicts.Contradiction proof) = true
is_kind kinds.Wide (verdicts.Wide system note) = true
is_kind _ _ = false

-- so many of answers
abbrev pub verdicts_of : List Answer → Verdicts
verdicts_of xs = record {
  yes = count_by (λ x. is_kind kinds.Yes x.verdict) xs;
  no = count_by (λ x. is_kind kinds.No x.verdict) xs;
  contradiction = count_by (λ x. is_kind kinds.Contradiction x.verdict) xs;
  wide = count_by (λ x. is_kind kinds.Wide x.verdict) xs;
}

-- the answers of all blocks, in order
abbrev pub answers_in : List Block → List Answer
answers_in blocks = flat_map (λ block. answers_of block.body) blocks

-- ---- the summary

-- of which number it is, and how many answers have which verdict
unfoldable pub verdict_lines : ℕ → Verdicts → List ℕ
verdict_lines number v =
    concat (codes "generated " ∷ decimal number ∷ codes " lines 18\n"
    ∷ codes "yes " ∷ decimal v.yes ∷ codes " no " ∷ decimal v.no
    ∷ codes " contradiction " ∷ decimal v.contradiction ∷ codes " wide " ∷ decimal v.wide ∷ codes "\n" ∷ [])

-- how many are accepted: those that have a verdict
abbrev pub accepted_by : Verdicts → Accepted
accepted_by v = record { answers = v.yes + v.no + v.contradiction; wide = v.wide }

-- its three lines
abbrev pub summary_text : ℕ → Verdicts → List ℕ
summary_text number v = verdict_lines number v ++ accepted_text (accepted_by v)

-- the bench of the session that the number generates
abbrev pub bench_from : ℕ → Workbench
bench_from number = bench_for (generated number).input (generated number).session

-- These are the verdicts of a report of the session that the number generates, at 127 bits. As many answers of it have a
-- proof, and are true of all compatible value functions, as have a verdict; as many are too wide as have none.
pub record AreVerdictsFrom (number : ℕ) (verdicts : Verdicts) : Type 0 where
  pub report : List ℕ
  pub accepted : Accepted
  pub is : IsReportOf most (bench_from number) (generated number).session.lines report accepted
  pub counted : verdicts ≡ verdicts_of (answers_in is.given.blocks)
  pub agrees : accepted ≡ accepted_by verdicts

-- The summary of a number, and whether any answer is too wide. Where a write fails a front of it stands there, and where memory
-- runs out nothing.
abbrev pub summary_output : ℕ → Output
summary_output number = record {
  tells = None;
  Whole = λ wide text. (v : Verdicts) × AreVerdictsFrom number v × (text ≡ summary_text number v)
      × (wide ≡ nat_lt 0 v.wide);
  Begun = λ text. (v : Verdicts) × AreVerdictsFrom number v × (text ≡ summary_text number v);
  keeps_front = false;
}

-- no file bears on it
abbrev pub generate_chore : ℕ → Chore
generate_chore number = record { files = []; course = finish (summary_output number) }

-- ---- its steps

-- so many verdicts, and as many answers accepted
abbrev pub IsSummaryFrom : ℕ → Summary → Type 0
IsSummaryFrom number summary =
    AreVerdictsFrom number summary.verdicts × (summary.accepted ≡ accepted_by summary.verdicts)

-- the answers of the blocks of these lines, in order, and what the check of the blocks has counted
pub record AreAnswersTo (bench : Workbench) (lines : List Line) (answers : List Answer) (accepted : Accepted) : Type 0 where
  pub blocks : List Block
  pub made : AreBlocksAt most bench lines blocks
  pub answers_are : answers ≡ answers_in blocks
  pub accepted_are : accepted ≡ accepted_of blocks
