-- One function more.
use Rattle.std.proofs.Common.{◌≡◌, ◌++◌, get_or, ap, ◌∙◌}
use Rattle.ror_show_ground.proofs.Lists.{holds_at}
use Rattle.ror_show_kit.proofs.Pieces.{element_more}
use Rattle.ror_show_find_proofs.specs.declared.findings.FunctionFound.{FunctionFound}
use Rattle.ror_show_find_proofs.specs.Findings.{IsOfTable}
use Rattle.ror_show_text_functions.specs.Text.{function_words}
use Rattle.ror_show_text_functions.proofs.text.write_all.Goals as goal

pub write_function-requires : goal.write_function-requires
write_function-requires c =
    holds_at (IsOfTable c.args.table.now) c.args.found.now c.functions.function-index c.function-item.result c.functions-test.true c.function-item.is c.requires

pub functions-preserved : goal.functions-preserved
functions-preserved c =
    let t = c.args.table.now in
    let xs = c.args.answers.now in
    let found = c.function-item.result in
    let pushed : c.write_function.new.text.items ≡ c.functions.text.items ++ function_words c.args.table.now c.args.answers.now (get_or c.args.found.now c.functions.function-index c.function-item.result) =
    c.in_ok-write_function.ensures ∙ ap (λ (x : FunctionFound). c.functions.text.items ++ function_words c.args.table.now c.args.answers.now x) c.function-item.is in
    element_more (function_words t xs) c.args.found.now c.functions.function-index found c.args.text.now.items c.functions.text.items c.write_function.new.text.items c.functions-test.true c.functions.invariant pushed
