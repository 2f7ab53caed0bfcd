use Rattle.std.proofs.Common.{rules}
use borrow.Author.Tests.{tests}
use Rattle.std.specs.List.{list_any}
use Rattle.std.proofs.lemmas.Iterator.{YieldsList-from_slice}
use Rattle.std.proofs.lemmas.Iterator.Search.{any_from_yields_List}
use Rattle.ror_text.specs.Lines.{is_control}
use Rattle.ror_text.proofs.LineLemmas.{list_any-map}
use Rattle.ror_text.proofs.lines.has_control.Goals as goal

pub returns : goal.returns
returns c = rw list_any-map (any_from_yields_List (λ word. list_any is_control word.now) _ _ _ c.any.ensures.ran (YieldsList-from_slice c.args.words.now cc) (λ x b q k. search (rules, tests)))
