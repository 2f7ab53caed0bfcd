use Rattle.std.proofs.lemmas.Result.{IfOk-weaker}
use Rattle.ror_show_pages.proofs.names.shown_with.Goals as goal

pub returns : goal.returns
returns c =
    IfOk-weaker c.joined.result _ _ (λ text is. record {
      gap = c.gap_between-gap.result.now;
      names = c.args.names.now;
      are = c.requires;
      gap_is = c.gap_between-gap.ensures.gap;
      no_gap = c.gap_between-gap.ensures.no_gap;
      text_is = is;
    }) c.joined.ensures
