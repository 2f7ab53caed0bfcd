use Rattle.std.proofs.Common.{rules, ap, ◌∙◌, not, eqb, length}
use borrow.Author.Tests.{tests}
use Rattle.std.specs.Char.{is_ascii_digit}
use Rattle.std.specs.Slice.Iter.{split_rest, split_done, split_callee}
use Rattle.std.proofs.lemmas.Iterator.Consumers.{map_from_collect, YieldsList-from_filter}
use Rattle.std.proofs.lemmas.Iterator.Splits.{YieldsList-from_slice_split}
use Rattle.ror_show_cells.proofs.looks.runs.Goals as goal

pub returns : goal.returns
returns c =
    let source = c.filter.ensures.source in
    map_from_collect _ c.collect.ensures.ran (YieldsList-from_filter {s = c.filter.result} _ (λ run. not (eqb (length run) 0)) (YieldsList-from_slice_split _ (λ byte. not (is_ascii_digit byte)) c.args.cell.now (ap split_rest source ∙ c.split.ensures.rest) (ap split_done source ∙ c.split.ensures.done) (ap split_callee source ∙ c.split.ensures.closure) (λ x b q k. search (rules, tests))) c.filter.ensures.closure (λ x b q k. search (rules, tests)))
