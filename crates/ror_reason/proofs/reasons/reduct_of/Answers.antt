use Rattle.std.proofs.Common.{◌∙◌, sym, subst}
use Rattle.std.proofs.lemmas.Bool.{false≢true}
use Rattle.ror_pivot.specs.Answers.{most_of}
use Rattle.ror_proof.specs.declared.answer.Answer.{Answer}
use Rattle.ror_given.specs.Answers.{IsVerdictWithin}
use Rattle.ror_reason.specs.Reasons.{IsReasonOf, IsReasonWithin}
use Rattle.ror_reason.proofs.SearchLemmas.{of_concluded, found_so, decided_reason, decided_narrow}
use Rattle.ror_reason.proofs.reasons.reduct_of.Goals as goal

pub returns-then-rests_on_part-clause-reason : goal.returns-then-rests_on_part-clause-reason
returns-then-rests_on_part-clause-reason c = found_so (most_of c.args.bits) c.args.table.now c.args.list.now c.args.answer.now c.conclusion_of-conclusion.result c.found.result c.conclusion_of-conclusion.ensures c.found.ensures.ok

pub returns-in_ok-copy-clause-reason : goal.returns-in_ok-copy-clause-reason
returns-in_ok-copy-clause-reason c =
    let most = most_of c.args.bits in
    let t = c.args.table.now in
    let list = c.args.list.now in
    let answer = c.args.answer.now in
    let conclusion = c.conclusion_of-conclusion.result in
    of_concluded (λ d. IsReasonOf most t list answer.question d c.decided.result) conclusion answer.verdict c.conclusion_of-conclusion.ensures
    (decided_reason most t list conclusion answer c.in_ok-copy.copy c.decided.result c.in_ok-copy.ensures c.decided.ensures c.requires.proved c.conclusion_of-conclusion.ensures
    (λ rests. false≢true (sym c.if-rests_on_part.false ∙ c.rests_on_part.ensures ∙ rests)))

pub returns-in_ok-copy-clause-narrow : goal.returns-in_ok-copy-clause-narrow
returns-in_ok-copy-clause-narrow c = λ within.
    let most = most_of c.args.bits in
    let copied : IsVerdictWithin most c.in_ok-copy.copy.verdict = subst (λ (x : Answer). IsVerdictWithin most x.verdict) (sym c.in_ok-copy.ensures) within in
    subst (IsReasonWithin most) (sym c.decided.ensures) (decided_narrow most _ c.conclusion_of-conclusion.result c.in_ok-copy.copy copied)
