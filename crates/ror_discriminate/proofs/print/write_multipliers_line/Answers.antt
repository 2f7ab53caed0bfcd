use Rattle.std.proofs.Common.{◌∷◌, ◌++◌, map, ◌∙◌}
use Rattle.std.specs.Prelude.{codes}
use Rattle.std.specs.Fmt.{signed_decimal}
use Rattle.ror_proof.proofs.PrintLemmas.{line_made, on_ok}
use Rattle.ror_discriminate.proofs.print.write_multipliers_line.Goals as goal

pub returns-clause-ok : goal.returns-clause-ok
returns-clause-ok c =
    let m = c.args.multipliers.now in
    let begun = c.extend_from_slice.new.self.items in
    let text = c.write_weak_and_strict.new.text.items in
    on_ok c.end_line.result c.end_line.ensures.ok (λ e. e ∙ line_made c.args.text.now.items begun text (codes "multipliers") (map signed_decimal m.weak ++ codes "|" ∷ map signed_decimal m.strict) c.in_ok-extend_from_slice.ensures.items c.in_ok-write_weak_and_strict.ensures.ok)
