use Rattle.std.proofs.Common.{map, ◌∙◌}
use Rattle.std.specs.Prelude.{codes}
use Rattle.std.specs.Fmt.{signed_decimal}
use Rattle.ror_proof.proofs.PrintLemmas.{line_made, on_ok}
use Rattle.ror_discriminate.proofs.print.write_solution.Goals as goal

pub returns-clause-ok : goal.returns-clause-ok
returns-clause-ok c =
    let begun = c.extend_from_slice.new.self.items in
    let text = c.write_numbers.new.text.items in
    on_ok c.end_line.result c.end_line.ensures.ok (λ e. e ∙ line_made c.args.text.now.items begun text (codes "solution") (map signed_decimal c.args.solution.now.steps) c.in_ok-extend_from_slice.ensures.items c.in_ok-write_numbers.ensures.ok)
