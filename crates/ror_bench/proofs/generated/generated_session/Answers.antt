use Rattle.std.proofs.Common.{◌≡◌, ◌++◌, ◌∷◌, [], length, ap, ◌∙◌, arith, rules}
use Rattle.ror_session.specs.declared.session.Asked.TheVariants.{Consistent, Relation}
use Rattle.ror_session.specs.declared.session.Command.TheVariants.{Ask, Undo}
use Rattle.ror_bench.specs.Generated.{generated_statements}
use Rattle.ror_bench.proofs.GeneratedSession.{pushed_line, length-stated, one_longer, session_is}
use Rattle.ror_bench.proofs.generated.generated_session.Goals as goal

pub returns : goal.returns
returns c =
    let t = c.args.table.now in
    let seed = c.args.draws.now.seed in
    let s0 = generated_statements t seed in
    let l1 = pushed_line s0 (Ask Consistent) c.in_ok-lines.lines.items c.push_line.new.lines.items c.in_ok-lines.ensures c.in_ok-push_line.ensures in
    let l2 = pushed_line (s0 ++ (Ask Consistent) ∷ []) (Ask Relation) c.push_line.new.lines.items c.push_line-2.new.lines.items l1 c.in_ok-push_line-2.ensures in
    let l3 = pushed_line ((s0 ++ (Ask Consistent) ∷ []) ++ (Ask Relation) ∷ []) (Undo) c.push_line-2.new.lines.items c.push_line-3.new.lines.items l2 c.in_ok-push_line-3.ensures in
    let l4 = pushed_line (((s0 ++ (Ask Consistent) ∷ []) ++ (Ask Relation) ∷ []) ++ (Undo) ∷ []) (Undo) c.push_line-3.new.lines.items c.push_line-4.new.lines.items l3 c.in_ok-push_line-4.ensures in
    let l5 = pushed_line ((((s0 ++ (Ask Consistent) ∷ []) ++ (Ask Relation) ∷ []) ++ (Undo) ∷ []) ++ (Undo) ∷ []) (Undo) c.push_line-4.new.lines.items c.push_line-5.new.lines.items l4 c.in_ok-push_line-5.ensures in
    let l6 = pushed_line (((((s0 ++ (Ask Consistent) ∷ []) ++ (Ask Relation) ∷ []) ++ (Undo) ∷ []) ++ (Undo) ∷ []) ++ (Undo) ∷ []) (Ask Relation) c.push_line-5.new.lines.items c.push_line-6.new.lines.items l5 c.in_ok-push_line-6.ensures in
    let desks : c.push.new.self.items ≡ [] ∷ [] = search rules in
    session_is t seed c.from.result c.from-2.result (c.from.ensures ∙ desks) (c.from-2.ensures ∙ l6)

pub push_line-requires : goal.push_line-requires
push_line-requires c =
    let n0 = ap length c.in_ok-lines.ensures ∙ length-stated c.args.table.now c.args.draws.now.seed in
    omega arith

pub push_line-requires-2 : goal.push_line-requires-2
push_line-requires-2 c =
    let n0 = ap length c.in_ok-lines.ensures ∙ length-stated c.args.table.now c.args.draws.now.seed in
    let n1 = one_longer c.in_ok-lines.lines.items c.push_line.new.lines.items _ c.in_ok-push_line.ensures in
    omega arith

pub push_line-requires-3 : goal.push_line-requires-3
push_line-requires-3 c =
    let n0 = ap length c.in_ok-lines.ensures ∙ length-stated c.args.table.now c.args.draws.now.seed in
    let n1 = one_longer c.in_ok-lines.lines.items c.push_line.new.lines.items _ c.in_ok-push_line.ensures in
    let n2 = one_longer c.push_line.new.lines.items c.push_line-2.new.lines.items _ c.in_ok-push_line-2.ensures in
    omega arith

pub push_line-requires-4 : goal.push_line-requires-4
push_line-requires-4 c =
    let n0 = ap length c.in_ok-lines.ensures ∙ length-stated c.args.table.now c.args.draws.now.seed in
    let n1 = one_longer c.in_ok-lines.lines.items c.push_line.new.lines.items _ c.in_ok-push_line.ensures in
    let n2 = one_longer c.push_line.new.lines.items c.push_line-2.new.lines.items _ c.in_ok-push_line-2.ensures in
    let n3 = one_longer c.push_line-2.new.lines.items c.push_line-3.new.lines.items _ c.in_ok-push_line-3.ensures in
    omega arith

pub push_line-requires-5 : goal.push_line-requires-5
push_line-requires-5 c =
    let n0 = ap length c.in_ok-lines.ensures ∙ length-stated c.args.table.now c.args.draws.now.seed in
    let n1 = one_longer c.in_ok-lines.lines.items c.push_line.new.lines.items _ c.in_ok-push_line.ensures in
    let n2 = one_longer c.push_line.new.lines.items c.push_line-2.new.lines.items _ c.in_ok-push_line-2.ensures in
    let n3 = one_longer c.push_line-2.new.lines.items c.push_line-3.new.lines.items _ c.in_ok-push_line-3.ensures in
    let n4 = one_longer c.push_line-3.new.lines.items c.push_line-4.new.lines.items _ c.in_ok-push_line-4.ensures in
    omega arith

pub push_line-requires-6 : goal.push_line-requires-6
push_line-requires-6 c =
    let n0 = ap length c.in_ok-lines.ensures ∙ length-stated c.args.table.now c.args.draws.now.seed in
    let n1 = one_longer c.in_ok-lines.lines.items c.push_line.new.lines.items _ c.in_ok-push_line.ensures in
    let n2 = one_longer c.push_line.new.lines.items c.push_line-2.new.lines.items _ c.in_ok-push_line-2.ensures in
    let n3 = one_longer c.push_line-2.new.lines.items c.push_line-3.new.lines.items _ c.in_ok-push_line-3.ensures in
    let n4 = one_longer c.push_line-3.new.lines.items c.push_line-4.new.lines.items _ c.in_ok-push_line-4.ensures in
    let n5 = one_longer c.push_line-4.new.lines.items c.push_line-5.new.lines.items _ c.in_ok-push_line-5.ensures in
    omega arith
