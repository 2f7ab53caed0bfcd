use Rattle.std.proofs.Common.{rules}
use borrow.Author.Tests.{tests}
use Rattle.std.specs.Str.{bytes_eq}
use Rattle.std.proofs.lemmas.Iterator.{YieldsList-from_slice}
use Rattle.std.proofs.lemmas.Iterator.Search.{any_from_yields_List}
use Rattle.ror_text.proofs.LineLemmas.{list_any-map}
use Rattle.ror_show_spreadsheet.proofs.options.has_name.Goals as goal

pub returns : goal.returns
returns c = rw list_any-map (any_from_yields_List (λ other. bytes_eq other.now c.args.name.now) _ _ _ c.any.ensures.ran (YieldsList-from_slice c.args.names.now cc) (λ x b q k. search (rules, tests)))
