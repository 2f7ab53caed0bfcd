use Rattle.std.proofs.Common.{arith, ◌≡◌, suc, ◌+◌, ◌++◌, [], ◌∷◌, ◌≢◌, None, Some, sym, ap, subst, ◌∙◌}
use Rattle.std.specs.Prelude.{slice_get}
use Rattle.std.proofs.lemmas.Bool.{ltb-true, lt-ltb, false≢true}
use Rattle.std.proofs.lemmas.Result.{err_from_is_err_and}
use Rattle.std.proofs.lemmas.Option.{slice_get_within}
use Rattle.ror_value.specs.Over.{IsLawfulIn}
use Rattle.ror_statement.specs.declared.statement.Numbered.{Numbered}
use Rattle.ror_check.specs.Repair.{numbers_of, RefutesDropped}
use Rattle.ror_check.specs.RepairSteps.{RefusesOne}
use Rattle.ror_check.proofs.Checking.{slice_get-at, some_same}
use Rattle.ror_check.proofs.Numbers.{rises}
use Rattle.ror_check.proofs.Repairs.{with_lawful}
use Rattle.ror_check.proofs.RepairWalk.{Walked, found, popped, walk_begins, walk_here, walk_keeps, walk_drops, walk_refuses, walk_ends}
use Rattle.ror_check.proofs.repair.check_dropped.Goals as goal

pub loop-numbered-init : goal.loop-numbered-init
loop-numbered-init c = subst (Walked c.args.table.now c.args.standing.now c.args.dropped.now 0 0) (sym c.new-kept.ensures.items) (walk_begins c.args.table.now c.args.standing.now c.args.dropped.now c.requires.rising c.requires.numbers)

pub loop-numbered-preserved-in_default : goal.loop-numbered-preserved-in_default
loop-numbered-preserved-in_default c =
    let t = c.args.table.now in
    let list = c.args.standing.now in
    let ds = c.args.dropped.now in
    let i = c.loop-numbered.numbered-index in
    let place = c.loop-numbered.place in
    let kept = c.loop-numbered.kept.items in
    let s = found list i c.loop-numbered-test.true in
    let pushed : c.push.new.self.items ≡ kept ++ s.0.statement ∷ [] = c.in_ok-push.ensures.items ∙ ap (λ (x : Numbered). kept ++ x.statement ∷ []) (s.2 _) in
    let more : suc i ≡ i + 1 = omega arith in
    subst (λ n. Walked t list ds n place c.push.new.self.items) more
    (subst (Walked t list ds (suc i) place) (sym pushed) (walk_keeps t list ds i place kept c.loop-numbered.invariant s.0 s.1 (λ d there. absurd (false≢true (c.in_default.ensures.lookup.0 ∙ lt-ltb place _ (slice_get_within ds place d there))))))

pub loop-numbered-preserved-then-next-numbered : goal.loop-numbered-preserved-then-next-numbered
loop-numbered-preserved-then-next-numbered c =
    let t = c.args.table.now in
    let list = c.args.standing.now in
    let ds = c.args.dropped.now in
    let i = c.loop-numbered.numbered-index in
    let place = c.loop-numbered.place in
    let kept = c.loop-numbered.kept.items in
    let s = found list i c.loop-numbered-test.true in
    let next : slice_get ds place ≡ Some c.in-Some.next.now = slice_get-at ds place c.in-Some.next.now (ltb-true place _ (sym c.in-Some.ensures.lookup.0)) c.in-Some.ensures.lookup.1 in
    let pushed : c.push.new.self.items ≡ kept ++ s.0.statement ∷ [] = c.in_ok-push.ensures.items ∙ ap (λ (x : Numbered). kept ++ x.statement ∷ []) (s.2 _) in
    let more : suc i ≡ i + 1 = omega arith in
    subst (λ n. Walked t list ds n place c.push.new.self.items) more
    (subst (Walked t list ds (suc i) place) (sym pushed) (walk_keeps t list ds i place kept c.loop-numbered.invariant s.0 s.1 (λ d there e. c.if-next-numbered.true (ap (λ d. d.number) (some_same (sym next ∙ there)) ∙ e ∙ sym (ap (λ (x : Numbered). x.number) (s.2 _))))))

pub check_refutation-requires : goal.check_refutation-requires
check_refutation-requires c =
    let t = c.args.table.now in
    let list = c.args.standing.now in
    let ds = c.args.dropped.now in
    let i = c.loop-numbered.numbered-index in
    let kept = c.loop-numbered.kept.items in
    let s = found list i c.loop-numbered-test.true in
    let pushed : c.push.new.self.items ≡ kept ++ s.0.statement ∷ [] = c.in_ok-push.ensures.items ∙ ap (λ (x : Numbered). kept ++ x.statement ∷ []) (s.2 _) in
    let is = c.as_slice.ensures.value ∙ pushed ∙ walk_here t list ds i c.loop-numbered.place kept c.loop-numbered.invariant s.0 s.1 in
    subst (IsLawfulIn t) (sym is) (with_lawful t (numbers_of ds) list i s.0 s.1 c.requires.lawful)

pub returns-in_err-check_refutation-clause-err : goal.returns-in_err-check_refutation-clause-err
returns-in_err-check_refutation-clause-err c =
    let t = c.args.table.now in
    let list = c.args.standing.now in
    let ds = c.args.dropped.now in
    let i = c.loop-numbered.numbered-index in
    let place = c.loop-numbered.place in
    let kept = c.loop-numbered.kept.items in
    let s = found list i c.loop-numbered-test.true in
    let next : slice_get ds place ≡ Some c.in-Some.next.now = slice_get-at ds place c.in-Some.next.now (ltb-true place _ (sym c.in-Some.ensures.lookup.0)) c.in-Some.ensures.lookup.1 in
    let pushed : c.push.new.self.items ≡ kept ++ s.0.statement ∷ [] = c.in_ok-push.ensures.items ∙ ap (λ (x : Numbered). kept ++ x.statement ∷ []) (s.2 _) in
    let is = c.as_slice.ensures.value ∙ pushed in
    let exit = err_from_is_err_and c.from_residual-in_err-check_refutation.result c.from_residual-in_err-check_refutation.ensures.1 in
    rw (exit.1, exit.2) (walk_refuses t list ds i place kept c.loop-numbered.invariant s.0 s.1 c.in-Some.next.now c.in_err-check_refutation.field-0.0 (rises _ c.requires.rising) (rises (numbers_of ds) c.requires.numbers.rising) next (c.if-next-numbered.false ∙ ap (λ (x : Numbered). x.number) (s.2 _))
    (subst (λ xs. RefusesOne t xs c.in-Some.next.now c.in_err-check_refutation.field-0.0) is c.in_err-check_refutation.ensures.err))

pub loop-numbered-preserved : goal.loop-numbered-preserved
loop-numbered-preserved c =
    let t = c.args.table.now in
    let list = c.args.standing.now in
    let ds = c.args.dropped.now in
    let i = c.loop-numbered.numbered-index in
    let place = c.loop-numbered.place in
    let kept = c.loop-numbered.kept.items in
    let s = found list i c.loop-numbered-test.true in
    let next : slice_get ds place ≡ Some c.in-Some.next.now = slice_get-at ds place c.in-Some.next.now (ltb-true place _ (sym c.in-Some.ensures.lookup.0)) c.in-Some.ensures.lookup.1 in
    let pushed : c.push.new.self.items ≡ kept ++ s.0.statement ∷ [] = c.in_ok-push.ensures.items ∙ ap (λ (x : Numbered). kept ++ x.statement ∷ []) (s.2 _) in
    let is = c.as_slice.ensures.value ∙ pushed in
    let more : suc i ≡ i + 1 = omega arith in
    let one : suc place ≡ place + 1 = omega arith in
    let walked = walk_drops t list ds i place kept c.loop-numbered.invariant s.0 s.1 c.in-Some.next.now (rises (numbers_of ds) c.requires.numbers.rising) next (c.if-next-numbered.false ∙ ap (λ (x : Numbered). x.number) (s.2 _)) (subst (λ xs. RefutesDropped t xs c.in-Some.next.now) is c.in_ok-check_refutation.ensures.ok) in
    let some : c.pop.result ≢ None = λ none. (let empty = rw none at c.pop.ensures.cases in let zero = empty.0 in let longer = c.in_ok-push.ensures.len in absurd (omega arith)) in
    let back : kept ≡ c.pop.new.self.items = popped kept c.pop.new.self.items s.0.statement c.pop.result (sym pushed ∙ c.pop.ensures.items) some in
    subst (λ xs. Walked t list ds (i + 1) (place + 1) xs) back (subst (λ n. Walked t list ds n (place + 1) kept) more (subst (λ n. Walked t list ds (suc i) n kept) one walked))

pub returns-clause-refuted : goal.returns-clause-refuted
returns-clause-refuted c = (walk_ends c.args.table.now c.args.standing.now c.args.dropped.now c.loop-numbered.numbered-index c.loop-numbered.place c.loop-numbered.kept.items c.loop-numbered.invariant c.loop-numbered-test.false).1
