use Rattle.std.proofs.lemmas.Result.{on_ok_weaker}
use Rattle.ror_show_text_group.specs.declared.judges.Sort.TheVariants.{Contradicting, Silent, Stating}
use Rattle.ror_show_text_group.specs.Judges.{first_line, sort_text}
use Rattle.ror_show_kit.proofs.Pieces.{four_more}
use Rattle.ror_show_text_group.proofs.judges.write_judges.Goals as goal

pub returns : goal.returns
returns c =
    let d = c.args.desks.now in
    let js = c.args.judges.now in
    let n = c.args.size in
    on_ok_weaker c.write_sort-3.result
    (λ last. four_more (first_line js) (sort_text d js n Contradicting) (sort_text d js n Silent) (sort_text d js n Stating) c.args.text.now.items c.write_first_line.new.text.items c.write_sort.new.text.items c.write_sort-2.new.text.items c.write_sort-3.new.text.items c.in_ok-write_first_line.ensures c.in_ok-write_sort.ensures c.in_ok-write_sort-2.ensures last)
    c.write_sort-3.ensures
