use Rattle.std.proofs.lemmas.Result.{on_ok_weaker}
use Rattle.std.proofs.Common.{◌++◌, ap, ◌∙◌}
use Rattle.std.specs.Prelude.{codes}
use Rattle.ror_show_find_proofs.specs.declared.share.Share.{Share}
use Rattle.ror_show_text_functions.specs.Blocks.{share_line, whole_text}
use Rattle.ror_show_text_functions.proofs.block.write_whole.Goals as goal

pub returns : goal.returns
unfolding whole_text
returns c =
    let old = c.args.text.now.items in
    on_ok_weaker c.write_share_line.result
    (λ last. last ∙ ap (λ (s : Share). old ++ share_line 5 (codes "all best levels") s) c.whole_of.ensures.value)
    c.write_share_line.ensures
