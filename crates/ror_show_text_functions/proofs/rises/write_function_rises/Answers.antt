use Rattle.std.proofs.lemmas.Result.{on_ok_weaker}
use Rattle.std.specs.Prelude.{codes}
use Rattle.ror_show_text_functions.specs.Rises.{all_rises, nowhere_else}
use Rattle.ror_show_kit.proofs.Pieces.{three_more}
use Rattle.ror_show_text_functions.proofs.rises.write_function_rises.Goals as goal

pub returns : goal.returns
returns c =
    on_ok_weaker c.write_nowhere_else.result
    (λ last. three_more (codes ", which rises") (all_rises c.args.table.now c.args.function.now) nowhere_else c.args.text.now.items c.extend_from_slice.new.self.items c.write_all_rises.new.text.items c.write_nowhere_else.new.text.items c.in_ok-extend_from_slice.ensures.items c.in_ok-write_all_rises.ensures last)
    c.write_nowhere_else.ensures
