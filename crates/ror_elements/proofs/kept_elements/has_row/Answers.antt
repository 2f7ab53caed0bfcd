use Rattle.std.proofs.Common.{rules}
use borrow.Author.Tests.{tests}
use Rattle.std.proofs.lemmas.Iterator.{YieldsList-from_slice}
use Rattle.std.proofs.lemmas.Iterator.Search.{any_from_yields_List}
use Rattle.ror_elements.specs.Kept.{is_row}
use Rattle.ror_elements.proofs.kept_elements.has_row.Goals as goal

pub returns : goal.returns
returns c = any_from_yields_List (λ row. is_row c.args.path.now c.args.name.now row.0.now row.1.now) _ _ _ c.any.ensures.ran (YieldsList-from_slice c.args.rows.now cc) (λ x b q k. search (rules, tests))
