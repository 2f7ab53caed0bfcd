use Rattle.std.proofs.Common.{not, rules}
use borrow.Author.Tests.{tests}
use Rattle.std.proofs.lemmas.Iterator.{YieldsList-from_slice}
use Rattle.std.proofs.lemmas.Iterator.Search.{position_from_yields_List}
use Rattle.ror_show_spreadsheet.specs.Options.{is_criterion}
use Rattle.ror_show_spreadsheet.proofs.Places.{position_map}
use Rattle.ror_show_spreadsheet.proofs.options.unknown_place.Goals as goal

pub returns : goal.returns
returns c = rw position_map (position_from_yields_List (λ name. not (is_criterion c.args.head.now name.now)) _ _ _ c.position.ensures.ran (YieldsList-from_slice c.args.names.now cc) (λ x b q k. search (rules, tests)))
