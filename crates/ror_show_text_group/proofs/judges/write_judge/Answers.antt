use Rattle.std.proofs.Common.{◌≡◌, ◌++◌, rules}
use Rattle.std.specs.Prelude.{OnOk, codes}
use Rattle.std.proofs.lemmas.Result.{on_ok_weaker}
use Rattle.ror_show_kit.specs.Heads.{counted}
use Rattle.ror_show_find_relation.specs.Rows.{unknown_pairs}
use Rattle.ror_show_text_group.specs.Judges.{judge_head, unknown_text}
use Rattle.ror_show_kit.proofs.Pieces.{four_more}
use Rattle.ror_show_text_group.proofs.judges.write_judge.Goals as goal

pub returns : goal.returns
returns c =
    let n = c.args.size in
    let judge = c.args.judge.now in
    let unknown : c.write_unknown.new.text.items ≡ c.write_count.new.text.items ++ unknown_text (unknown_pairs c.args.judge.now.rows c.args.size) c.args.size = search rules in
    let put : OnOk c.extend_from_slice.result (c.extend_from_slice.new.self.items ≡ c.write_unknown.new.text.items ++ codes "\n") = search rules in
    on_ok_weaker c.extend_from_slice.result
    (λ last. four_more (judge_head c.args.desks.now c.args.k) (counted (codes "  statements ") judge.statements) (unknown_text (unknown_pairs judge.rows n) n) (codes "\n") c.args.text.now.items c.write_judge_head.new.text.items c.write_count.new.text.items c.write_unknown.new.text.items c.extend_from_slice.new.self.items c.in_ok-write_judge_head.ensures c.in_ok-write_count.ensures unknown last)
    put
