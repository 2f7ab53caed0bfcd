use Rattle.std.proofs.Common.{◌≡◌, ℕ, List, ◌++◌, ap, ◌∙◌, append_assoc}
use Rattle.std.specs.Prelude.{codes, decimal, length, [], ◌∷◌}
use Rattle.std.specs.List.{flat_map}
use Rattle.ror_text.specs.SpacedLines.{line_text}
use Rattle.ror_ranks_text.specs.Text.{extreme_text}
use Rattle.ror_proof.proofs.PrintLemmas.{on_ok}
use Rattle.ror_ranks_text.proofs.print.write_ranks.Goals as goal

pub returns-clause-ok : goal.returns-clause-ok
returns-clause-ok c =
    let start = c.args.text.now.items in
    let p0 = line_text (codes "ranks" ∷ decimal (length c.args.extremes.now) ∷ []) in
    let p1 = flat_map (extreme_text c.args.table.now) c.args.extremes.now in
    let f0 : c.write_count.new.text.items ≡ start ++ p0 = c.in_ok-write_count.ensures.ok in
    on_ok c.write_extremes.result c.write_extremes.ensures.ok (λ e. e ∙ ap (λ (l : List ℕ). l ++ p1) f0 ∙ append_assoc start p0 p1)
