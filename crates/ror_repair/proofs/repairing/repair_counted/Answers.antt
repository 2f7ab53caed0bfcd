use Rattle.std.proofs.Common.{rules, ◌≡◌, ◌≢◌, List, [], ◌∷◌, ◌++◌, ◌+◌, None, sym, ap, subst, ◌∙◌, arith}
use Rattle.ror_statement.specs.declared.statement.Numbered.{Numbered}
use Rattle.ror_statement.specs.declared.question.Conclusion.TheVariants as conclusions
use Rattle.ror_pivot.specs.Answers.{most_of}
use Rattle.ror_proof.specs.declared.answer.Certificate.TheVariants as certificates
use Rattle.ror_proof.specs.declared.kept.Dropped.{Dropped}
use Rattle.ror_check.specs.Proof.{base_system, base_side, Shows}
use Rattle.ror_check.specs.Repair.{IsRepair, numbers_of}
use Rattle.ror_check.proofs.Repairs.{proved_is_repair}
use Rattle.ror_check.proofs.RepairWalk.{found, popped}
use Rattle.ror_relation.specs.declared.decision.Decision.{Decision}
use Rattle.ror_relation.specs.Decisions.{IsDecision}
use Rattle.ror_repair.proofs.Walking.{IsWalked, walk_begins, walk_lawful, walk_holds, walk_keeps, walk_drops, walk_too_wide, walk_ends}
use Rattle.ror_repair.proofs.repairing.repair_counted.Goals as goal
use Rattle.ror_repair.proofs.repairing.repair_counted.Goals.{in-Solvable, in-NotSolvable+in_ok-push-in-NotSolvable}

pub loop-numbered-init : goal.loop-numbered-init
loop-numbered-init c = (walk_begins c.args.bits c.args.table.now c.args.standing.now _ _ _ c.new-dropped.ensures.items c.new-kept.ensures.items c.in_ok-base.ensures, omega arith)

pub system_of-requires : goal.system_of-requires
system_of-requires c =
    let t = c.args.table.now in
    let list = c.args.standing.now in
    let i = c.loop-numbered.numbered-index in
    let kept = c.loop-numbered.kept.items in
    let s = found list i c.loop-numbered-test.true in
    let pushed : c.push.new.self.items ≡ kept ++ s.0.statement ∷ [] = c.in_ok-push.ensures.items ∙ ap (λ (x : Numbered). kept ++ x.statement ∷ []) (s.2 _) in
    walk_lawful (most_of c.args.bits) t list i c.loop-numbered.dropped.items c.loop-numbered.base kept c.loop-numbered.invariant.0 s.0 c.requires.rising s.1 c.requires.lawful c.as_slice.result.now (c.as_slice.ensures.value ∙ pushed)

pub loop-numbered-preserved-then-holds_at : goal.loop-numbered-preserved-then-holds_at
loop-numbered-preserved-then-holds_at c =
    let t = c.args.table.now in
    let list = c.args.standing.now in
    let i = c.loop-numbered.numbered-index in
    let kept = c.loop-numbered.kept.items in
    let s = found list i c.loop-numbered-test.true in
    let pushed : c.push.new.self.items ≡ kept ++ s.0.statement ∷ [] = c.in_ok-push.ensures.items ∙ ap (λ (x : Numbered). kept ++ x.statement ∷ []) (s.2 _) in
    let is : c.in_ok-system.system ≡ base_system t c.push.new.self.items = c.in_ok-system.ensures.system ∙ ap (base_system t) c.as_slice.ensures.value in
    let shows : Shows (base_side conclusions.Yes) c.in_ok-system.system c.loop-numbered.base = search rules in
    (walk_holds (most_of c.args.bits) t list i c.loop-numbered.dropped.items c.loop-numbered.base kept c.loop-numbered.invariant.0 s.0 c.requires.rising s.1 c.push.new.self.items c.in_ok-system.system pushed is shows, c.loop-numbered.invariant.1)

pub returns-in-TooWide-clause-fault : goal.returns-in-TooWide-clause-fault
returns-in-TooWide-clause-fault c =
    let t = c.args.table.now in
    let list = c.args.standing.now in
    let i = c.loop-numbered.numbered-index in
    let kept = c.loop-numbered.kept.items in
    let most = most_of c.args.bits in
    let s = found list i c.loop-numbered-test.true in
    let pushed : c.push.new.self.items ≡ kept ++ s.0.statement ∷ [] = c.in_ok-push.ensures.items ∙ ap (λ (x : Numbered). kept ++ x.statement ∷ []) (s.2 _) in
    let is : c.in_ok-system.system ≡ base_system t c.push.new.self.items = c.in_ok-system.ensures.system ∙ ap (base_system t) c.as_slice.ensures.value in
    let noted = subst (λ (d : Decision). IsDecision most c.in_ok-system.system d) c.in-TooWide.is c.in_ok-solution.ensures.decided in
    walk_too_wide most t list i c.loop-numbered.dropped.items c.loop-numbered.base kept c.loop-numbered.invariant.0 s.0 c.requires.rising s.1 c.requires.lawful _ c.push.new.self.items c.in_ok-system.system c.in-TooWide.note pushed is noted (ap (λ (x : Numbered). x.number) (s.2 _))

pub loop-numbered-preserved : goal.loop-numbered-preserved
loop-numbered-preserved c =
    let t = c.args.table.now in
    let list = c.args.standing.now in
    let i = c.loop-numbered.numbered-index in
    let kept = c.loop-numbered.kept.items in
    let most = most_of c.args.bits in
    let system = c.in_ok-system.system in
    let s = found list i c.loop-numbered-test.true in
    let pushed : c.push.new.self.items ≡ kept ++ s.0.statement ∷ [] = c.in_ok-push.ensures.items ∙ ap (λ (x : Numbered). kept ++ x.statement ∷ []) (s.2 _) in
    let is : system ≡ base_system t c.push.new.self.items = c.in_ok-system.ensures.system ∙ ap (base_system t) c.as_slice.ensures.value in
    let risen = c.in_ok-solution.ensures.counted in
    let before = c.loop-numbered.invariant.1 in
    let walked : IsWalked most t list (i + 1) c.match-branch-5.dropped.items c.match-branch-5.base c.match-branch-5.kept.items = elim c.match-branch-5.branch [
      | in-Solvable w ↦
          let shows = subst (λ (d : Decision). IsDecision most system d) w.in-Solvable.is c.in_ok-solution.ensures.decided in
          rw (w.kept-is, w.dropped-is, w.base-is)
          (walk_keeps most t list i c.loop-numbered.dropped.items c.loop-numbered.base kept c.loop-numbered.invariant.0 s.0 c.requires.rising s.1 (certificates.Solution w.in-Solvable.solution) c.push.new.self.items system pushed is shows)
      | in-NotSolvable+in_ok-push-in-NotSolvable w ↦
          let shows = subst (λ (d : Decision). IsDecision most system d) w.in-NotSolvable.is c.in_ok-solution.ensures.decided in
          let some : w.pop.result ≢ None = λ none. (let empty = rw none at w.pop.ensures.cases in let zero = empty.0 in let longer = c.in_ok-push.ensures.len in absurd (omega arith)) in
          let back = popped kept w.pop.new.self.items s.0.statement w.pop.result (sym pushed ∙ w.pop.ensures.items) some in
          rw (w.kept-is, w.dropped-is, w.base-is)
          (walk_drops most t list i c.loop-numbered.dropped.items c.loop-numbered.base kept c.loop-numbered.invariant.0 s.0 c.requires.rising s.1 _ w.in-NotSolvable.proof c.push.new.self.items w.pop.new.self.items w.push-in-NotSolvable.new.self.items system pushed is shows w.in_ok-push-in-NotSolvable.ensures.items (ap (λ (x : Numbered). x.number) (s.2 _)) (sym back))
    ] in
    (walked, omega (arith, risen, before))

pub returns-clause-true_repair : goal.returns-clause-true_repair
returns-clause-true_repair c =
    let t = c.args.table.now in
    let list = c.args.standing.now in
    let ds = c.loop-numbered.dropped.items in
    let all = walk_ends (most_of c.args.bits) t list c.loop-numbered.numbered-index ds c.loop-numbered.base c.loop-numbered.kept.items c.loop-numbered.invariant.0 c.loop-numbered-test.false in
    subst (λ (ds : List Dropped). IsRepair t list (numbers_of ds)) (sym {A = List Dropped} c.from.ensures) (proved_is_repair t list (record { dropped = ds; base = c.loop-numbered.base }) c.requires.lawful all.proved)
