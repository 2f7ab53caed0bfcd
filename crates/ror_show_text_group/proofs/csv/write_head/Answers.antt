use Rattle.std.proofs.Common.{◌≡◌, ◌++◌, rules}
use Rattle.std.specs.Prelude.{OnOk, codes}
use Rattle.std.proofs.lemmas.Result.{on_ok_weaker}
use Rattle.std.specs.List.{flat_map, range_with_len}
use Rattle.ror_show_text_group.specs.Csv.{name_field}
use Rattle.ror_show_kit.proofs.Pieces.{three_more}
use Rattle.ror_show_text_group.proofs.csv.write_head.Goals as goal

pub returns : goal.returns
returns c =
    let d = c.args.desks.now in
    let put : OnOk c.extend_from_slice-2.result (c.extend_from_slice-2.new.self.items ≡ c.write_names.new.text.items ++ codes "\n") = search rules in
    on_ok_weaker c.extend_from_slice-2.result
    (λ last. three_more (codes "from,to,group") (flat_map (name_field d) (range_with_len 0 c.args.judges)) (codes "\n") c.args.text.now.items c.extend_from_slice.new.self.items c.write_names.new.text.items c.extend_from_slice-2.new.self.items c.in_ok-extend_from_slice.ensures.items c.in_ok-write_names.ensures last)
    put
