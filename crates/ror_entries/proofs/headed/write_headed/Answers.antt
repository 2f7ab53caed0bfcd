use Rattle.std.proofs.lemmas.Result.{err_from_is_err_and}
use Rattle.ror_entries.proofs.HeadedLemmas.{head_cut, written_behind}
use Rattle.ror_entries.proofs.headed.write_headed.Goals as goal

pub returns-in_err-write_all : goal.returns-in_err-write_all
returns-in_err-write_all g c =
    let p = err_from_is_err_and c.from_residual.result c.from_residual.ensures.1 in
    let failed = c.in_err-write_all.ensures in
    rw (p.1, p.2) (head_cut c.args.head.now (g.M.Maker.kind c.args.maker.now) (g.M.Maker.given c.args.maker.now) _ _ _ _ failed.never_falls failed.failed failed.short)

pub returns : goal.returns
returns g c =
    let head = c.in_ok-write_all.ensures in
    written_behind c.args.head.now (g.M.Maker.kind c.args.maker.now) (g.M.Maker.given c.args.maker.now) _ _ _ _ _ _ c.write_entries.result head.ok head.all_taken c.write_entries.ensures
