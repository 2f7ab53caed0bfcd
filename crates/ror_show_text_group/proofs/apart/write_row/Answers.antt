use Rattle.std.proofs.Common.{◌≡◌, ◌++◌, rules}
use Rattle.std.specs.Prelude.{OnOk, codes}
use Rattle.std.proofs.lemmas.Result.{on_ok_weaker}
use Rattle.std.specs.Prelude.{length}
use Rattle.std.specs.List.{flat_map, range_with_len}
use Rattle.ror_show_text_group.specs.Apart.{ids_text, vote_text}
use Rattle.ror_show_kit.proofs.Pieces.{three_more}
use Rattle.ror_show_text_group.proofs.apart.write_row.Goals as goal

pub returns : goal.returns
returns c =
    let t = c.args.table.now in
    let part = c.args.part in
    let js = c.args.judges.now in
    let put : OnOk c.extend_from_slice.result (c.extend_from_slice.new.self.items ≡ c.write_votes.new.text.items ++ codes "\n") = search rules in
    on_ok_weaker c.extend_from_slice.result
    (λ last. three_more (ids_text t part.width c.args.pair) (flat_map (vote_text js part c.args.pair) (range_with_len 0 (length js))) (codes "\n") c.args.text.now.items c.write_ids.new.text.items c.write_votes.new.text.items c.extend_from_slice.new.self.items c.in_ok-write_ids.ensures c.in_ok-write_votes.ensures last)
    put
