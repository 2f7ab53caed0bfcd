-- One statement more, and all of them.
use Rattle.std.proofs.Common.{◌≡◌, List, take, sym, subst, arith, take_all}
use Rattle.std.specs.List.{AllZip}
use Rattle.ror_statement.specs.declared.statement.Numbered.{Numbered}
use Rattle.ror_show_find_whatif.specs.declared.cases.Case.{Case}
use Rattle.ror_show_find_whatif.specs.Cases.{IsCase}
use Rattle.ror_show_find_whatif.proofs.Placing.{zip_place}
use Rattle.ror_show_find_whatif.proofs.cases.find_cases.Goals as goal

pub loop-place-preserved : goal.loop-place-preserved
loop-place-preserved c =
    let s = c.args.stood.now in
    zip_place (IsCase s.table.now c.args.asks s.list.now s.answers.now) s.list.now c.loop-place.place c.loop-place.found.items c.push.new.self.items c.in_ok-case.case c.loop-place-test.true c.loop-place.invariant c.in_ok-case.ensures c.in_ok-push.ensures.items

pub returns : goal.returns
returns c =
    let s = c.args.stood.now in
    let R = IsCase s.table.now c.args.asks s.list.now s.answers.now in
    let end = c.loop-place-test.false in
    let all : take c.loop-place.place c.args.stood.now.list.now ≡ c.args.stood.now.list.now = take_all _ _ (omega (arith, end)) in
    subst (λ (fs : List Case). AllZip R s.list.now fs) (sym c.from.ensures) (subst (λ (xs : List Numbered). AllZip R xs c.loop-place.found.items) all c.loop-place.invariant)
