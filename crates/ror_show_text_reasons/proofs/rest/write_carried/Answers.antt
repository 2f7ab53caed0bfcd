use Rattle.std.proofs.Common.{codes}
use Rattle.std.proofs.lemmas.Result.{on_ok_weaker}
use Rattle.ror_show_kit.proofs.Pieces.{two_more}
use Rattle.ror_show_kit.specs.Heads.{counted}
use Rattle.ror_show_text_reasons.specs.Pages.{end_text}
use Rattle.ror_show_text_reasons.proofs.rest.write_carried.Goals as goal

pub returns : goal.returns
returns c =
    on_ok_weaker c.write_end.result
    (λ last. two_more (counted (codes "  answers that statements carry: ") c.args.carried) end_text c.args.text.now.items c.write_count.new.text.items c.write_end.new.text.items c.in_ok-write_count.ensures last)
    c.write_end.ensures
