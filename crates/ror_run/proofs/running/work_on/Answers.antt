use Rattle.std.proofs.Common.{ap}
use Rattle.ror_generate.specs.Generating.{summary_output}
use Rattle.ror_frame.proofs.CourseLemmas.{finished}
use Rattle.ror_run.proofs.running.work_on.Goals as goal

pub returns-in-Replay : goal.returns-in-Replay
returns-in-Replay g c =
    let names = c.inputs-inputs.ensures in
    let work = rw (ap (λ i. i.table) names, ap (λ i. i.session) names, ap (λ i. i.best_first) names, c.width-bits.ensures) at c.replay_files.ensures in
    rw c.in-Replay.is work

pub returns-in-Check : goal.returns-in-Check
returns-in-Check g c =
    let names = c.inputs-inputs.ensures in
    let work = rw (ap (λ i. i.table) names, ap (λ i. i.session) names, ap (λ i. i.best_first) names, c.name-third.ensures) at c.check_files.ensures in
    rw c.in-Check.is work

pub returns-in-Group : goal.returns-in-Group
returns-in-Group g c =
    let names = c.inputs-inputs.ensures in
    let work = rw (ap (λ i. i.table) names, ap (λ i. i.session) names, ap (λ i. i.best_first) names, c.width-bits.ensures) at c.group_files.ensures in
    rw c.in-Group.is work

pub returns-in-CheckGroup : goal.returns-in-CheckGroup
returns-in-CheckGroup g c =
    let names = c.inputs-inputs.ensures in
    let work = rw (ap (λ i. i.table) names, ap (λ i. i.session) names, ap (λ i. i.best_first) names, c.name-third.ensures) at c.check_group_files.ensures in
    rw c.in-CheckGroup.is work

pub returns-in-Discriminate : goal.returns-in-Discriminate
returns-in-Discriminate g c =
    let names = c.inputs-inputs.ensures in
    let work = rw (ap (λ i. i.table) names, ap (λ i. i.session) names, ap (λ i. i.best_first) names, c.width-bits.ensures) at c.discriminate_files.ensures in
    rw c.in-Discriminate.is work

pub returns-in-CheckDiscriminate : goal.returns-in-CheckDiscriminate
returns-in-CheckDiscriminate g c =
    let names = c.inputs-inputs.ensures in
    let work = rw (ap (λ i. i.table) names, ap (λ i. i.session) names, ap (λ i. i.best_first) names, c.name-third.ensures) at c.check_discriminate_files.ensures in
    rw c.in-CheckDiscriminate.is work

pub returns-in-Ranks : goal.returns-in-Ranks
returns-in-Ranks g c =
    let names = c.inputs-inputs.ensures in
    let work = rw (ap (λ i. i.table) names, ap (λ i. i.session) names, ap (λ i. i.best_first) names, c.width-bits.ensures) at c.ranks_files.ensures in
    rw c.in-Ranks.is work

pub returns-in-CheckRanks : goal.returns-in-CheckRanks
returns-in-CheckRanks g c =
    let names = c.inputs-inputs.ensures in
    let work = rw (ap (λ i. i.table) names, ap (λ i. i.session) names, ap (λ i. i.best_first) names, c.name-third.ensures) at c.check_ranks_files.ensures in
    rw c.in-CheckRanks.is work

pub returns-in-ReplayJson : goal.returns-in-ReplayJson
returns-in-ReplayJson g c =
    let names = c.inputs-inputs.ensures in
    let work = rw (ap (λ i. i.table) names, ap (λ i. i.session) names, ap (λ i. i.best_first) names, c.width-bits.ensures) at c.replay_json_files.ensures in
    rw c.in-ReplayJson.is work

pub returns-in-CheckJson : goal.returns-in-CheckJson
returns-in-CheckJson g c =
    let names = c.inputs-inputs.ensures in
    let work = rw (ap (λ i. i.table) names, ap (λ i. i.session) names, ap (λ i. i.best_first) names, c.name-third.ensures) at c.check_json_files.ensures in
    rw c.in-CheckJson.is work

pub returns-in-Levels : goal.returns-in-Levels
returns-in-Levels g c =
    let names = c.inputs-inputs.ensures in
    let work = rw (ap (λ i. i.table) names, ap (λ i. i.session) names, ap (λ i. i.best_first) names, c.name-third.ensures, c.width-bits.ensures) at c.levels_files.ensures in
    rw c.in-Levels.is work

pub returns-in-CheckLevels : goal.returns-in-CheckLevels
returns-in-CheckLevels g c =
    let names = c.inputs-inputs.ensures in
    let work = rw (ap (λ i. i.table) names, ap (λ i. i.session) names, ap (λ i. i.best_first) names, c.name-third.ensures, c.name.ensures) at c.check_levels_files.ensures in
    rw c.in-CheckLevels.is work

pub returns-in-Generate : goal.returns-in-Generate
returns-in-Generate g c =
    rw (c.in-Generate.is, ← c.number.ensures.value) (finished 0 (summary_output c.number.result) _ _ _ _ c.generate.ensures)
