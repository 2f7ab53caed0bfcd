use Rattle.std.proofs.Common.{◌≡◌, ℕ, List, ◌++◌, ap, ◌∙◌, append_assoc, FitsSigned, rules}
use Rattle.std.specs.Int.{w128}
use Rattle.std.proofs.lemmas.Int.{to_z-of_z}
use Rattle.ror_text.specs.SpacedLines.{line_text}
use Rattle.ror_proof.specs.Text.{solution_words, multipliers_words}
use Rattle.ror_proof.proofs.PrintLemmas.{on_ok}
use Rattle.ror_discriminate.specs.Text.{margin_text}
use Rattle.ror_discriminate.proofs.print.write_best.Goals as goal

pub returns-clause-ok : goal.returns-clause-ok
returns-clause-ok c =
    let x = c.args.optimum.now in
    let start = c.args.text.now.items in
    let margin = margin_text c.args.margin c.args.total in
    let solution = line_text (solution_words x.solution.steps) in
    let multipliers = line_text (multipliers_words x.multipliers.weak x.multipliers.strict) in
    let fits : FitsSigned w128 c.args.margin = search rules in
    let fits_too : FitsSigned w128 c.args.total = search rules in
    let first : c.write_margin.new.text.items ≡ start ++ margin = rw (to_z-of_z w128 c.args.margin fits, to_z-of_z w128 c.args.total fits_too) at c.in_ok-write_margin.ensures.ok in
    let second : c.write_solution.new.text.items ≡ start ++ (margin ++ solution) = c.in_ok-write_solution.ensures.ok ∙ ap (λ (l : List ℕ). l ++ solution) first ∙ append_assoc start margin solution in
    on_ok c.write_multipliers_line.result c.write_multipliers_line.ensures.ok (λ e. e ∙ ap (λ (l : List ℕ). l ++ multipliers) second ∙ append_assoc start (margin ++ solution) multipliers ∙ ap (λ (l : List ℕ). start ++ l) (append_assoc margin solution multipliers))
