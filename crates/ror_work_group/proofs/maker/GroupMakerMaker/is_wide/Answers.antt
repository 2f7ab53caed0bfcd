use Rattle.std.proofs.Common.{◌∙◌, ap}
use Rattle.ror_bench.proofs.WideLemmas.{wide_answers}
use Rattle.ror_work_group.specs.Steps as steps
use Rattle.ror_work_group.proofs.maker.GroupMakerMaker.is_wide.Goals as goal

pub returns : goal.returns
returns c = c.has_wide.ensures ∙ ap steps.has_wide c.as_slice.ensures ∙ wide_answers c.args.entry.now.answers
