use Rattle.std.proofs.Common.{rules}
use Rattle.std.specs.Prelude.{◌==◌}
use borrow.Author.Tests.{tests}
use Rattle.std.proofs.lemmas.Iterator.{YieldsList-from_slice}
use Rattle.std.proofs.lemmas.Iterator.Search.{find_from_yields_List}
use Rattle.ror_bench.specs.declared.kept.KeptLine.{KeptLine}
use Rattle.ror_show_forms.proofs.answered.kept_line.Goals as goal

pub returns : goal.returns
returns c =
    let all = c.iter.ensures.rest in
    find_from_yields_List (λ (x : KeptLine). x.block.line == c.args.line) _ _ c.find.result c.find.ensures.ran (YieldsList-from_slice c.args.kept.now all) (λ x b q k. search (rules, tests))
