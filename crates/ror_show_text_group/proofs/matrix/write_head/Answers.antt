use Rattle.std.proofs.Common.{◌≡◌, ◌++◌, rules}
use Rattle.std.specs.Prelude.{OnOk, codes}
use Rattle.std.proofs.lemmas.Result.{on_ok_weaker}
use Rattle.std.specs.Prelude.{length}
use Rattle.std.specs.List.{flat_map, range_with_len}
use Rattle.ror_show_kit.specs.Layout.{spaces}
use Rattle.ror_show_kit.specs.Parts.{number_text}
use Rattle.ror_show_kit.proofs.Pieces.{four_more}
use Rattle.ror_show_text_group.proofs.matrix.write_head.Goals as goal

pub returns : goal.returns
returns c =
    let t = c.args.table.now in
    let part = c.args.part in
    let numbers : c.write_part_numbers.new.text.items ≡ c.write_spaces-2.new.text.items ++ flat_map (number_text c.args.part) (range_with_len 0 (length c.args.table.now.alternatives)) = search rules in
    let put : OnOk c.extend_from_slice.result (c.extend_from_slice.new.self.items ≡ c.write_part_numbers.new.text.items ++ codes "  |\n") = search rules in
    on_ok_weaker c.extend_from_slice.result
    (λ last. four_more (spaces 7) (spaces part.width) (flat_map (number_text part) (range_with_len 0 (length t.alternatives))) (codes "  |\n") c.args.text.now.items c.write_spaces.new.text.items c.write_spaces-2.new.text.items c.write_part_numbers.new.text.items c.extend_from_slice.new.self.items c.in_ok-write_spaces.ensures c.in_ok-write_spaces-2.ensures numbers last)
    put
