use Rattle.std.proofs.Common.{arith, ◌≡◌, suc, ◌+◌, Some, sym, ap, subst, ◌∙◌}
use Rattle.std.specs.Prelude.{slice_get}
use Rattle.std.proofs.lemmas.Bool.{ltb-true, eq-eqb, eqb-true}
use Rattle.ror_statement.specs.declared.statement.Numbered.{Numbered}
use Rattle.ror_check.proofs.Checking.{slice_get-at}
use Rattle.ror_check.proofs.RepairWalk.{Matched, found, matched_begins, matched_next, matched_skip, matched_end}
use Rattle.ror_check.proofs.repair.are_numbers_in.Goals as goal

pub loop-numbered-init : goal.loop-numbered-init
loop-numbered-init c = matched_begins c.args.standing.now c.args.dropped.now c.requires

pub loop-numbered-preserved-then-next-numbered : goal.loop-numbered-preserved-then-next-numbered
loop-numbered-preserved-then-next-numbered c =
    let list = c.args.standing.now in
    let ds = c.args.dropped.now in
    let i = c.loop-numbered.numbered-index in
    let place = c.loop-numbered.place in
    let s = found list i c.loop-numbered-test.true in
    let there : slice_get ds place ≡ Some c.in-Some.next.now = slice_get-at ds place c.in-Some.next.now (ltb-true place _ (sym c.in-Some.ensures.lookup.0)) c.in-Some.ensures.lookup.1 in
    let more : suc i ≡ i + 1 = omega arith in
    subst (λ n. Matched list ds n place) more
    (matched_skip list ds i place c.loop-numbered.invariant s.0 c.in-Some.next.now s.1 there (λ e. c.if-next-numbered.true (e ∙ sym (ap (λ (x : Numbered). x.number) (s.2 _)))))

pub loop-numbered-preserved : goal.loop-numbered-preserved
loop-numbered-preserved c =
    let list = c.args.standing.now in
    let ds = c.args.dropped.now in
    let i = c.loop-numbered.numbered-index in
    let place = c.loop-numbered.place in
    let s = found list i c.loop-numbered-test.true in
    let there : slice_get ds place ≡ Some c.in-Some.next.now = slice_get-at ds place c.in-Some.next.now (ltb-true place _ (sym c.in-Some.ensures.lookup.0)) c.in-Some.ensures.lookup.1 in
    let more : suc i ≡ i + 1 = omega arith in
    let one : suc place ≡ place + 1 = omega arith in
    subst (λ n. Matched list ds n (place + 1)) more (subst (Matched list ds (suc i)) one
    (matched_next list ds i place c.loop-numbered.invariant s.0 c.in-Some.next.now s.1 there (c.if-next-numbered.false ∙ ap (λ (x : Numbered). x.number) (s.2 _))))

pub returns : goal.returns
returns c =
    let end = c.loop-numbered-test.false in
    let same = matched_end c.args.standing.now c.args.dropped.now c.loop-numbered.numbered-index c.loop-numbered.place c.loop-numbered.invariant end in
    (λ h. same.0 (eqb-true _ _ h), λ h. eq-eqb _ _ (same.1 h))
