use Rattle.std.proofs.Common.{◌≡◌, ℕ, List, ◌++◌, ap, ◌∙◌, append_assoc}
use Rattle.std.specs.Prelude.{codes}
use Rattle.ror_ranks_text.specs.Text.{ids_text, multipliers_text}
use Rattle.ror_proof.proofs.PrintLemmas.{on_ok}
use Rattle.ror_ranks_text.proofs.print.write_conflict.Goals as goal

pub returns-clause-ok : goal.returns-clause-ok
returns-clause-ok c =
    let start = c.args.text.now.items in
    let p0 = ids_text c.args.table.now (codes "conflict") c.args.x.now.members in
    let p1 = multipliers_text c.args.x.now.multipliers in
    let f0 : c.write_ids.new.text.items ≡ start ++ p0 = c.in_ok-write_ids.ensures.ok ∙ ap (λ (l : List ℕ). start ++ ids_text c.args.table.now (codes "conflict") l) c.as_slice.ensures in
    on_ok c.write_multipliers_line.result c.write_multipliers_line.ensures.ok (λ e. e ∙ ap (λ (l : List ℕ). l ++ p1) f0 ∙ append_assoc start p0 p1)
