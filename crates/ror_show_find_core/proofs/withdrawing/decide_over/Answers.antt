use Rattle.std.proofs.Common.{List, sym, subst, ◌∙◌}
use Rattle.ror_statement.specs.declared.statement.Statement.{Statement}
use Rattle.ror_value.specs.Over.{IsLawfulIn}
use Rattle.ror_check.specs.Proof.{IsAllowedAnswer}
use Rattle.ror_pivot.specs.declared.note.Bits.TheVariants.{B127}
use Rattle.ror_pivot.specs.Answers.{most_of}
use Rattle.ror_given.specs.Notes.{HasNoteAt}
use Rattle.ror_show_find_core.proofs.withdrawing.decide_over.Goals as goal

pub decide_warm-requires-clause-lawful : goal.decide_warm-requires-clause-lawful
decide_warm-requires-clause-lawful c =
    subst (IsLawfulIn c.args.table.now) (sym (c.as_slice.ensures.value ∙ c.in_ok-statements.ensures)) c.requires.lawful

pub judge-requires-clause-allowed : goal.judge-requires-clause-allowed
judge-requires-clause-allowed c =
    subst (λ (xs : List Statement). IsAllowedAnswer (HasNoteAt (most_of B127)) c.args.table.now xs c.args.claim.question c.in_ok-answer.answer) (c.as_slice.ensures.value ∙ c.in_ok-statements.ensures) c.in_ok-answer.ensures.allowed
