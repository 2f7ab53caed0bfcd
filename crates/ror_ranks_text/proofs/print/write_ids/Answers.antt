use Rattle.std.proofs.Common.{map, ◌∙◌}
use Rattle.ror_table.specs.Table.{id_of}
use Rattle.ror_proof.proofs.PrintLemmas.{line_made, on_ok}
use Rattle.ror_ranks_text.proofs.print.write_ids.Goals as goal

pub returns-clause-ok : goal.returns-clause-ok
returns-clause-ok c =
    let begun = c.extend_from_slice.new.self.items in
    let text = c.write_each_id.new.text.items in
    on_ok c.end_line.result c.end_line.ensures.ok (λ e. e ∙ line_made c.args.text.now.items begun text c.args.word.now (map (id_of c.args.table.now) c.args.members.now) c.in_ok-extend_from_slice.ensures.items c.in_ok-write_each_id.ensures.ok)
