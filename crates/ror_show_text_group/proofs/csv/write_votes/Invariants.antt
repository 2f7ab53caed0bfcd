use Rattle.std.proofs.Common.{◌≡◌, ◌++◌, take}
use Rattle.std.specs.List.{flat_map}
use Rattle.ror_show_text_group.specs.Csv.{vote}
use Rattle.ror_show_text_group.proofs.csv.write_votes.Given as goal

abbrev pub invariant-judges : goal.invariant-judges
invariant-judges l = l.text.items ≡ l.initial.text.items ++ flat_map (vote l.fn.a l.fn.b) (take l.judge-index l.judges)
