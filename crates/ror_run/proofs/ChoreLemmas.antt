-- What holds of each command: its files lead to one thing, and its refusals are its own.
use Rattle.std.proofs.Common.{◌≡◌, ℕ, List, true, refl, inl, inr}
use Rattle.ror_words.specs.declared.table.CommandWord.{CommandWord}
use Rattle.ror_words.specs.declared.table.CommandWord.TheVariants.{Replay, Check, Generate, Group, CheckGroup, Discriminate, CheckDiscriminate, Ranks, CheckRanks, Levels, CheckLevels, ReplayJson, CheckJson}
use Rattle.ror_words.specs.Words.{Given, inputs_in, name_at, width_given}
use Rattle.ror_frame.proofs.CourseLemmas.{IsDecided}
use Rattle.ror_work.proofs.Judging.{decided_check, decided_replay}
use Rattle.ror_pivot.specs.Answers.{most_of}
use Rattle.ror_bench.specs.declared.report.Rejection.{Rejection}
use Rattle.ror_frame.specs.declared.stop.Refusal.TheVariants as refusals
use Rattle.ror_frame.specs.Courses.{MayRefuse}
use Rattle.ror_frame.specs.Inputs.{bench_for}
use Rattle.ror_frame.proofs.InputLemmas.{writing_rejects_nothing, suited_rejects_nothing, writing_suits_all, judging_suits_all, writing_has_no_levels, judging_has_no_levels, suited_has_no_levels, suited_judging_has_no_levels}
use Rattle.ror_confidence.specs.declared.fault.LevelsFault.{LevelsFault}
use Rattle.ror_words.specs.Words.{InputNames}
use Rattle.ror_pivot.specs.declared.note.Bits.{Bits}
use Rattle.ror_work.specs.Replaying.{report_output}
use Rattle.ror_work.specs.Checking.{ProvesReport, RejectsReport, proved_output}
use Rattle.ror_closing.specs.Closing.{IsFirstUnsuited}
use Rattle.ror_work_group.specs.Group.{group_output, ProvesGroup, IsGroupRejection}
use Rattle.ror_work_group.specs.Group as group
use Rattle.ror_work_group.proofs.GroupCourses.{decided_group, decided_check_group}
use Rattle.ror_work_discriminate.specs.Discriminate.{best_output, ProvesBest, IsBestRejection}
use Rattle.ror_work_discriminate.specs.Discriminate as best
use Rattle.ror_work_discriminate.proofs.Courses.{decided_discriminate, decided_check_discriminate}
use Rattle.ror_work_ranks.specs.Ranking.{ranks_output, ProvesRanks, IsRanksRejection}
use Rattle.ror_work_ranks.specs.Ranking as ranks
use Rattle.ror_work_ranks.proofs.Courses.{decided_ranks, decided_check_ranks}
use Rattle.ror_work_levels.specs.Levels.{levels_chore}
use Rattle.ror_work_levels.proofs.LevelCourses.{decided_levels, decided_check_levels}
use Rattle.ror_work_json.specs.Json.{json_output, ProvesJson, RejectsJson, proved_json_output}
use Rattle.ror_work_json.proofs.Judging.{decided_replay_json, decided_check_json}
use Rattle.ror_run.specs.Chores.{chore_by, judges, wants_suited, wants_levels}

-- spans are written without a report that could be rejected
levels_reject_nothing : (names : InputNames) (levels : List ℕ) (bits : Bits) (n : Rejection) → MayRefuse (refusals.Rejected n) (levels_chore names levels bits).course → ⊥
levels_reject_nothing names levels bits n (inl a) = let p = a.1.1 in cc
levels_reject_nothing names levels bits n (inr (bytes, i, read, inl (other, inl a))) = let p = a.1 in cc
levels_reject_nothing names levels bits n (inr (bytes, i, read, inl (other, inr a))) = let p = a.4 in cc
levels_reject_nothing names levels bits n (inr (bytes, i, read, inr (session, s, was, inl a))) = let p = a.1.1 in cc
levels_reject_nothing names levels bits n (inr (bytes, i, read, inr (session, s, was, inr rest))) = rest.3

pub decided_chore : (command : CommandWord) (given : Given) → IsDecided (chore_by command given).course
decided_chore Replay given = decided_replay (inputs_in given) (width_given given)
decided_chore Check given = decided_check (inputs_in given) (name_at 2 given)
decided_chore Generate given = tt
decided_chore Group given = decided_group (inputs_in given) (width_given given)
decided_chore CheckGroup given = decided_check_group (inputs_in given) (name_at 2 given)
decided_chore Discriminate given = decided_discriminate (inputs_in given) (width_given given)
decided_chore CheckDiscriminate given = decided_check_discriminate (inputs_in given) (name_at 2 given)
decided_chore Ranks given = decided_ranks (inputs_in given) (width_given given)
decided_chore CheckRanks given = decided_check_ranks (inputs_in given) (name_at 2 given)
decided_chore Levels given = decided_levels (inputs_in given) (name_at 2 given) (width_given given)
decided_chore CheckLevels given = decided_check_levels (inputs_in given) (name_at 2 given) (name_at 3 given)
decided_chore ReplayJson given = decided_replay_json (inputs_in given) (width_given given)
decided_chore CheckJson given = decided_check_json (inputs_in given) (name_at 2 given)

-- only one that judges a report rejects
pub judges_it : (command : CommandWord) (given : Given) (n : Rejection) → MayRefuse (refusals.Rejected n) (chore_by command given).course → judges command ≡ true
judges_it Replay given n may = absurd (writing_rejects_nothing (inputs_in given) (λ i s. report_output (most_of (width_given given)) (bench_for i s) s.lines) n may)
judges_it Check given n may = refl
judges_it Generate given n may = absurd may
judges_it Group given n may = absurd (suited_rejects_nothing IsFirstUnsuited (inputs_in given) (group_output (most_of (width_given given))) n may)
judges_it CheckGroup given n may = refl
judges_it Discriminate given n may = absurd (suited_rejects_nothing IsFirstUnsuited (inputs_in given) (best_output (most_of (width_given given))) n may)
judges_it CheckDiscriminate given n may = refl
judges_it Ranks given n may = absurd (suited_rejects_nothing IsFirstUnsuited (inputs_in given) (ranks_output (most_of (width_given given))) n may)
judges_it CheckRanks given n may = refl
judges_it Levels given n may = absurd (levels_reject_nothing (inputs_in given) (name_at 2 given) (width_given given) n may)
judges_it CheckLevels given n may = refl
judges_it ReplayJson given n may = absurd (writing_rejects_nothing (inputs_in given) (λ i s. json_output (most_of (width_given given)) (bench_for i s) s.lines) n may)
judges_it CheckJson given n may = refl

-- and only one that wants suited sessions finds a line unsuited
pub suits_it : (command : CommandWord) (given : Given) (line : ℕ) → MayRefuse (refusals.Unsuited line) (chore_by command given).course → wants_suited command ≡ true
suits_it Replay given line may = absurd (writing_suits_all (inputs_in given) (λ i s. report_output (most_of (width_given given)) (bench_for i s) s.lines) line may)
suits_it Check given line may = absurd (judging_suits_all (inputs_in given) (name_at 2 given) ProvesReport RejectsReport proved_output line may)
suits_it Generate given line may = absurd may
suits_it Group given line may = refl
suits_it CheckGroup given line may = refl
suits_it Discriminate given line may = refl
suits_it CheckDiscriminate given line may = refl
suits_it Ranks given line may = refl
suits_it CheckRanks given line may = refl
suits_it Levels given line may = refl
suits_it CheckLevels given line may = refl
suits_it ReplayJson given line may = absurd (writing_suits_all (inputs_in given) (λ i s. json_output (most_of (width_given given)) (bench_for i s) s.lines) line may)
suits_it CheckJson given line may = absurd (judging_suits_all (inputs_in given) (name_at 2 given) ProvesJson RejectsJson proved_json_output line may)

-- and only one that reads levels finds them bad
pub levels_it : (command : CommandWord) (given : Given) (f : LevelsFault) → MayRefuse (refusals.BadLevels f) (chore_by command given).course → wants_levels command ≡ true
levels_it Replay given f may = absurd (writing_has_no_levels (inputs_in given) (λ i s. report_output (most_of (width_given given)) (bench_for i s) s.lines) f may)
levels_it Check given f may = absurd (judging_has_no_levels (inputs_in given) (name_at 2 given) ProvesReport RejectsReport proved_output f may)
levels_it Generate given f may = absurd may
levels_it Group given f may = absurd (suited_has_no_levels IsFirstUnsuited (inputs_in given) (group_output (most_of (width_given given))) f may)
levels_it CheckGroup given f may = absurd (suited_judging_has_no_levels IsFirstUnsuited (inputs_in given) (name_at 2 given) ProvesGroup IsGroupRejection group.proved_output f may)
levels_it Discriminate given f may = absurd (suited_has_no_levels IsFirstUnsuited (inputs_in given) (best_output (most_of (width_given given))) f may)
levels_it CheckDiscriminate given f may = absurd (suited_judging_has_no_levels IsFirstUnsuited (inputs_in given) (name_at 2 given) ProvesBest IsBestRejection best.proved_output f may)
levels_it Ranks given f may = absurd (suited_has_no_levels IsFirstUnsuited (inputs_in given) (ranks_output (most_of (width_given given))) f may)
levels_it CheckRanks given f may = absurd (suited_judging_has_no_levels IsFirstUnsuited (inputs_in given) (name_at 2 given) ProvesRanks IsRanksRejection ranks.proved_output f may)
levels_it Levels given f may = refl
levels_it CheckLevels given f may = refl
levels_it ReplayJson given f may = absurd (writing_has_no_levels (inputs_in given) (λ i s. json_output (most_of (width_given given)) (bench_for i s) s.lines) f may)
levels_it CheckJson given f may = absurd (judging_has_no_levels (inputs_in given) (name_at 2 given) ProvesJson RejectsJson proved_json_output f may)
