use Rattle.std.proofs.Common.{◌≡◌, ◌++◌, rules}
use Rattle.std.specs.Prelude.{OnOk, codes}
use Rattle.std.proofs.lemmas.Result.{on_ok_weaker}
use Rattle.std.specs.List.{flat_map, range_with_len}
use Rattle.ror_show_kit.specs.Parts.{number_text}
use Rattle.ror_show_text_group.specs.Apart.{margin}
use Rattle.ror_show_kit.proofs.Pieces.{three_more}
use Rattle.ror_show_text_group.proofs.apart.write_head.Goals as goal

pub returns : goal.returns
returns c =
    let part = c.args.part in
    let put : OnOk c.extend_from_slice.result (c.extend_from_slice.new.self.items ≡ c.write_part_numbers.new.text.items ++ codes "\n") = search rules in
    on_ok_weaker c.extend_from_slice.result
    (λ last. three_more (margin part.width) (flat_map (number_text part) (range_with_len 0 c.args.judges)) (codes "\n") c.args.text.now.items c.write_margin.new.text.items c.write_part_numbers.new.text.items c.extend_from_slice.new.self.items c.in_ok-write_margin.ensures c.in_ok-write_part_numbers.ensures last)
    put
