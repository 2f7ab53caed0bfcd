-- What each command does.
use Rattle.std.specs.Prelude.{Bool, true, false}
use Rattle.ror_words.specs.declared.table.CommandWord.{CommandWord}
use Rattle.ror_words.specs.declared.table.CommandWord.TheVariants.{Replay, Check, Generate, Group, CheckGroup, Discriminate, CheckDiscriminate, Ranks, CheckRanks, Levels, CheckLevels, ReplayJson, CheckJson}
use Rattle.ror_words.specs.Words.{Task, Given, inputs_in, name_at, number_of, width_given}
use Rattle.ror_frame.specs.Courses.{Chore}
use Rattle.ror_work.specs.Replaying.{replay_chore}
use Rattle.ror_work.specs.Checking.{check_chore}
use Rattle.ror_generate.specs.Generating.{generate_chore}
use Rattle.ror_work_group.specs.Group.{group_chore, check_group_chore}
use Rattle.ror_work_discriminate.specs.Discriminate.{discriminate_chore, check_discriminate_chore}
use Rattle.ror_work_ranks.specs.Ranking.{ranks_chore, check_ranks_chore}
use Rattle.ror_work_levels.specs.Levels.{levels_chore, check_levels_chore}
use Rattle.ror_work_json.specs.Json.{replay_json_chore, check_json_chore}

abbrev pub chore_by : CommandWord → Given → Chore
chore_by Replay given = replay_chore (inputs_in given) (width_given given)
chore_by Check given = check_chore (inputs_in given) (name_at 2 given)
chore_by Generate given = generate_chore (number_of given)
chore_by Group given = group_chore (inputs_in given) (width_given given)
chore_by CheckGroup given = check_group_chore (inputs_in given) (name_at 2 given)
chore_by Discriminate given = discriminate_chore (inputs_in given) (width_given given)
chore_by CheckDiscriminate given = check_discriminate_chore (inputs_in given) (name_at 2 given)
chore_by Ranks given = ranks_chore (inputs_in given) (width_given given)
chore_by CheckRanks given = check_ranks_chore (inputs_in given) (name_at 2 given)
chore_by Levels given = levels_chore (inputs_in given) (name_at 2 given) (width_given given)
chore_by CheckLevels given = check_levels_chore (inputs_in given) (name_at 2 given) (name_at 3 given)
chore_by ReplayJson given = replay_json_chore (inputs_in given) (width_given given)
chore_by CheckJson given = check_json_chore (inputs_in given) (name_at 2 given)

abbrev pub chore_of : Task → Chore
chore_of task = chore_by task.command task.given

-- the commands that judge a report
abbrev pub judges : CommandWord → Bool
judges Check = true
judges CheckGroup = true
judges CheckDiscriminate = true
judges CheckRanks = true
judges CheckLevels = true
judges CheckJson = true
judges _ = false

-- and those that take only sessions without an unsuited line
abbrev pub wants_suited : CommandWord → Bool
wants_suited Group = true
wants_suited CheckGroup = true
wants_suited Discriminate = true
wants_suited CheckDiscriminate = true
wants_suited Ranks = true
wants_suited CheckRanks = true
wants_suited Levels = true
wants_suited CheckLevels = true
wants_suited _ = false

-- and those that read a file of levels
abbrev pub wants_levels : CommandWord → Bool
wants_levels Levels = true
wants_levels CheckLevels = true
wants_levels _ = false
