use Rattle.std.proofs.lemmas.Result.{on_ok_weaker}
use Rattle.std.proofs.Common.{◌≡◌, ◌+◌, ◌++◌, [], rules}
use Rattle.std.specs.Prelude.{OnOk, codes, decimal, slice_index_or}
use Rattle.ror_show_kit.specs.Layout.{set_right}
use Rattle.ror_show_text_group.specs.Judges.{label}
use Rattle.ror_show_kit.proofs.Pieces.{three_more}
use Rattle.ror_show_text_group.proofs.judges.write_judge_head.Goals as goal

pub returns : goal.returns
returns c =
    let name : OnOk c.extend_from_slice-2.result (c.extend_from_slice-2.new.self.items ≡ c.extend_from_slice.new.self.items ++ label (slice_index_or c.args.desks.now c.args.k [])) = search rules in
    on_ok_weaker c.extend_from_slice-2.result
    (λ last. three_more (set_right 6 (decimal (c.args.k + 1))) (codes "  ") (label (slice_index_or c.args.desks.now c.args.k [])) c.args.text.now.items c.write_number.new.text.items c.extend_from_slice.new.self.items c.extend_from_slice-2.new.self.items c.in_ok-write_number.ensures c.in_ok-extend_from_slice.ensures.items last)
    name
