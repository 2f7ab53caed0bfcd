-- The lines of each change.
use Rattle.std.proofs.Common.{◌≡◌, ◌++◌, List, ℕ, ap, ◌∙◌, rules}
use Rattle.std.proofs.lemmas.Result.{on_ok_weaker}
use Rattle.ror_show_kit.proofs.Pieces.{four_more}
use Rattle.ror_show_find_relation.specs.declared.change.Change.TheVariants.{TurnedRound, NoLonger, Stayed, New}
use Rattle.ror_show_forms.specs.ChangeCsv.{csv_change}
use Rattle.ror_show_forms.proofs.change_csv.write_differences.Goals as goal

pub returns : goal.returns
returns c =
    let t = c.args.table.now in
    let front = c.args.front.now in
    let f = c.args.pairs.now in
    let round : c.write_lines.new.text.items ≡ c.args.text.now.items ++ csv_change c.args.table.now c.args.front.now TurnedRound c.args.pairs.now.turned = search rules in
    let gone : c.write_lines-2.new.text.items ≡ c.write_lines.new.text.items ++ csv_change c.args.table.now c.args.front.now NoLonger c.args.pairs.now.no_longer = search rules in
    let stayed : c.write_lines-3.new.text.items ≡ c.write_lines-2.new.text.items ++ csv_change c.args.table.now c.args.front.now Stayed c.args.pairs.now.stayed = search rules in
    on_ok_weaker c.write_lines-4.result
    (λ last. four_more (csv_change t front TurnedRound f.turned) (csv_change t front NoLonger f.no_longer) (csv_change t front Stayed f.stayed) (csv_change t front New f.new) c.args.text.now.items c.write_lines.new.text.items c.write_lines-2.new.text.items c.write_lines-3.new.text.items c.write_lines-4.new.text.items round gone stayed
    (last ∙ ap (λ (pairs : List (ℕ × ℕ)). c.write_lines-3.new.text.items ++ csv_change t front New pairs) c.as_slice-4.ensures))
    c.write_lines-4.ensures
