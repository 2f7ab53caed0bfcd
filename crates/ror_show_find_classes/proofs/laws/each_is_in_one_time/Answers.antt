use Rattle.ror_show_find_classes.proofs.TimeLaws.{each_in_one}
use Rattle.ror_show_find_classes.proofs.laws.each_is_in_one_time.Goals as goal

pub returns : goal.returns
returns c = each_in_one
