-- The values of one line more.
use Rattle.std.proofs.Common.{◌≡◌, ◌++◌, get_or, ap, ◌∙◌}
use Rattle.ror_show_ground.specs.Grounds.{ground_of}
use Rattle.ror_show_ground.proofs.Lists.{holds_at}
use Rattle.ror_show_kit.proofs.Pieces.{element_more}
use Rattle.ror_show_find_proofs.specs.declared.findings.FunctionsFound.{FunctionsFound}
use Rattle.ror_show_find_proofs.specs.Findings.{AreOfTable}
use Rattle.ror_show_forms.specs.FunctionCsv.{function_values}
use Rattle.ror_show_forms.proofs.function_csv.write_functions_csv.Goals as goal

pub write_line-requires : goal.write_line-requires
write_line-requires c =
    holds_at (AreOfTable c.args.ground.now.table.now) c.args.found.now c.lines.functions-index c.functions-item.result c.lines-test.true c.functions-item.is c.requires

pub lines-preserved : goal.lines-preserved
lines-preserved c =
    let g = ground_of c.args.ground.now in
    let found = c.functions-item.result in
    let pushed : c.write_line.new.text.items ≡ c.lines.text.items ++ function_values (ground_of c.args.ground.now) (get_or c.args.found.now c.lines.functions-index c.functions-item.result) =
    c.in_ok-write_line.ensures ∙ ap (λ (x : FunctionsFound). c.lines.text.items ++ function_values (ground_of c.args.ground.now) x) c.functions-item.is in
    element_more (function_values g) c.args.found.now c.lines.functions-index found c.args.text.now.items c.lines.text.items c.write_line.new.text.items c.lines-test.true c.lines.invariant pushed
