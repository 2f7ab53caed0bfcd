use Rattle.std.proofs.Common.{subst, ◌∙◌}
use Rattle.ror_pivot.specs.Answers.{most_of}
use Rattle.ror_system.specs.System.{LinearSystem}
use Rattle.ror_relation.specs.Decisions.{IsDecision}
use Rattle.ror_relation.proofs.Concluding.{given, searched, contradicted, base_too_wide}
use Rattle.ror_relation.proofs.decided.DecidedList.answer.Goals as goal
use Rattle.ror_relation.proofs.decided.DecidedList.answer.Goals.{in-Solvable+in_ok-search-in-Solvable+in_ok-verdict-in-Solvable, in-NotSolvable+in_ok-copied-in-NotSolvable, in-TooWide+in_ok-copied-in-TooWide}

pub returns-clause-given : goal.returns-clause-given
returns-clause-given c =
    let t = c.args.table.now in
    let list = c.args.self.now.list in
    let q = c.args.question.now in
    let base = c.args.self.now.base in
    let most = most_of c.args.bits in
    let decided = subst (λ (s : LinearSystem). IsDecision most s base) c.requires.decided.system c.requires.decided.base in
    elim c.match-self.branch [
      | in-Solvable+in_ok-search-in-Solvable+in_ok-verdict-in-Solvable w ↦
          given most t list q c.match-self.verdict _ w.verdict-is (searched most t list q base w.in-Solvable.solution w.in_ok-search-in-Solvable.search w.kind_of.result w.in_ok-verdict-in-Solvable.verdict c.requires.decided.lawful c.requires.asked decided w.in-Solvable.is w.in_ok-search-in-Solvable.ensures.found w.kind_of.ensures w.in_ok-verdict-in-Solvable.ensures)
      | in-NotSolvable+in_ok-copied-in-NotSolvable w ↦
          let copy = w.in_ok-copied-in-NotSolvable in
          given most t list q c.match-self.verdict _ w.verdict-is (contradicted most t list q base w.in-NotSolvable.multipliers copy.field-0 w.from.result c.requires.decided.lawful c.requires.asked decided w.in-NotSolvable.is copy.ensures (w.from.ensures ∙ w.new.ensures.items))
      | in-TooWide+in_ok-copied-in-TooWide w ↦
          let copy = w.in_ok-copied-in-TooWide in
          given most t list q c.match-self.verdict _ w.verdict-is (base_too_wide most t list q base w.in-TooWide.note copy.field-0 decided w.in-TooWide.is copy.ensures)
    ]
