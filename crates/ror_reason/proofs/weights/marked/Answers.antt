use Rattle.std.proofs.Common.{◌∙◌, ◌++◌, [], ◌∷◌, ap}
use Rattle.ror_statement.specs.declared.statement.Numbered.{Numbered}
use Rattle.ror_check.proofs.RepairWalk.{found}
use Rattle.ror_reason.proofs.Parts.{marked_more, marked_skip, marked_end}
use Rattle.ror_reason.proofs.weights.marked.Goals as goal
use Rattle.ror_reason.proofs.weights.marked.Goals.{then-is_marked+in_ok-push, else-is_marked}

pub loop-place-preserved : goal.loop-place-preserved
loop-place-preserved c =
    let list = c.args.list.now in
    let i = c.loop-place.place in
    let ns = c.loop-place.numbers.items in
    let s = found list i c.loop-place-test.true in
    elim c.if-is_marked.branch [
      | then-is_marked+in_ok-push w ↦ rw w.numbers-is (marked_more list i s.0 ns w.push.new.self.items s.1 (w.in_ok-push.ensures.items ∙ ap (λ (x : Numbered). ns ++ x.number ∷ []) (s.2 _)) c.loop-place.invariant)
      | else-is_marked w ↦ rw w.numbers-is (marked_skip list i s.0 ns s.1 c.loop-place.invariant)
    ]

pub returns : goal.returns
returns c = marked_end c.args.list.now c.loop-place.place c.loop-place.numbers.items c.requires c.loop-place.invariant c.loop-place-test.false
