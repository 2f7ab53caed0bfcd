-- One statement more.
use Rattle.std.proofs.Common.{ℕ, take, sym, subst}
use Rattle.std.specs.List.{AllByRecursion}
use Rattle.ror_show_ground.proofs.Lists.{zip_next}
use Rattle.ror_show_find_core.specs.Withdrawals.{IsOutcome, IsWithdrawal, IsFoundOutcome}
use Rattle.ror_show_find_core.proofs.Lists.{zip_each}
use Rattle.ror_show_find_core.proofs.withdrawing.find_withdrawals.Goals as goal

pub withdraw-requires-clause-before : goal.withdraw-requires-clause-before
withdraw-requires-clause-before c =
    let t = c.args.stood.now.table.now in
    let list = c.args.stood.now.list.now in
    let q = c.args.claim.question in
    let d = c.args.claim.conclusion in
    subst (AllByRecursion (IsFoundOutcome t list q d)) (sym c.as_slice.ensures.value)
    (zip_each (IsWithdrawal t list q d) (IsFoundOutcome t list q d) (take c.loop-number.number-index c.args.numbers.now) c.loop-number.found.items
    (λ n w is. subst (λ (m : ℕ). IsOutcome t list q d m w.outcome) (sym is.0) is.1) c.loop-number.invariant)

pub loop-number-preserved : goal.loop-number-preserved
loop-number-preserved c =
    zip_next (IsWithdrawal c.args.stood.now.table.now c.args.stood.now.list.now c.args.claim.question c.args.claim.conclusion) c.args.numbers.now c.loop-number.number-index 0 c.loop-number.found.items c.push.new.self.items c.in_ok-withdrawal.withdrawal c.loop-number-test.true c.loop-number.invariant c.in_ok-withdrawal.ensures c.in_ok-push.ensures.items
