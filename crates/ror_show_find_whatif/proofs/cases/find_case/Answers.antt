use Rattle.std.proofs.Common.{get_or, sym, subst}
use Rattle.std.specs.Prelude.{IfOk}
use Rattle.std.proofs.lemmas.Result.{IfOk-weaker}
use Rattle.ror_statement.specs.declared.statement.Numbered.{Numbered}
use Rattle.ror_show_ground.proofs.Lists.{at_place, got_at}
use Rattle.ror_show_find_whatif.specs.Changed.{contrary_of}
use Rattle.ror_show_find_whatif.specs.Cases.{IsCase, IsContraryWhere, IsWithdrawn}
use Rattle.ror_show_find_whatif.proofs.cases.find_case.Goals as goal

pub find_contrary-contrary-requires-clause-there : goal.find_contrary-contrary-requires-clause-there
find_contrary-contrary-requires-clause-there c = (c.args.place, at_place c.args.stood.now.list.now c.args.place _ c.requires.there)

pub returns : goal.returns
returns c =
    let s = c.args.stood.now in
    let d = get_or s.list.now c.args.place _ in
    IfOk-weaker c.case_of.result _ _
    (λ case is x here. subst (λ (y : Numbered). IsCase s.table.now c.args.asks s.list.now s.answers.now y case) (got_at s.list.now c.args.place _ x c.requires.there here) (record {
      stated = is.0;
      withdrawn = subst (IsWithdrawn s.table.now c.args.asks s.list.now s.answers.now d.number) (sym is.1) c.in_ok-withdrawn.ensures;
      contrary = subst (λ r. IfOk r (IsContraryWhere s.table.now c.args.asks s.list.now s.answers.now d (contrary_of d.statement))) is.2 c.find_contrary-contrary.ensures;
    }))
    c.case_of.ensures
