use Rattle.std.proofs.Common.{◌≡◌, ◌+◌, List, [], ◌∷◌, ◌++◌, take, map, sym, ap, ◌∙◌, subst}
use Rattle.std.proofs.lemmas.List.{take_all, take_more, map-append}
use Rattle.ror_statement.specs.declared.statement.Statement.{Statement}
use Rattle.ror_proof.specs.declared.answer.Answer.{Answer}
use Rattle.ror_pivot.specs.Answers.{most_of}
use Rattle.ror_relation.specs.declared.decided.DecidedList.{DecidedList}
use Rattle.ror_relation.specs.DecidedLists.{statements_of}
use Rattle.ror_group.specs.Combining.{asked_on, InStep}
use Rattle.ror_work_group.specs.Entries.{IsGivenFor}
use Rattle.ror_work_group.proofs.Making.{both_more}
use Rattle.ror_work_group.proofs.maker.answers_on.Goals as goal

pub loop-place-init : goal.loop-place-init
loop-place-init c = record {
  given = subst (λ (xs : List Answer). InStep (IsGivenFor (most_of c.args.on.now.bits) c.args.on.now.table.now) [] xs) (sym c.in_ok-answers.ensures.items) tt;
}

pub loop-place-preserved : goal.loop-place-preserved
loop-place-preserved c =
    let lists = c.args.lists.now in
    let i = c.loop-place.place in
    let list = c.index-lists-place.result in
    let more : take (i + 1) lists ≡ take i lists ++ list ∷ [] = take_more lists i list c.loop-place-test.true ∙ ap (λ (x : DecidedList). take i lists ++ x ∷ []) (sym c.index-lists-place.is) in
    let all : map statements_of (take (i + 1) lists) ≡ map statements_of (take i lists) ++ statements_of list ∷ [] = ap (map statements_of) more ∙ map-append statements_of (take i lists) (list ∷ []) in
    record {
      given = subst (λ (ls : List (List Statement)). InStep (IsGivenFor (most_of c.args.on.now.bits) c.args.on.now.table.now) (asked_on c.args.on.now.pair.first c.args.on.now.pair.second ls) c.push_both.new.answers.items) (sym all)
          (both_more (most_of c.args.on.now.bits) c.args.on.now.table.now c.args.on.now.pair.first c.args.on.now.pair.second (map statements_of (take i lists)) (statements_of list) c.loop-place.answers.items c.push_both.new.answers.items c.loop-place.invariant.given c.in_ok-push_both.ensures);
    }

pub returns-clause-given : goal.returns-clause-given
returns-clause-given c =
    subst (λ (ls : List DecidedList). InStep (IsGivenFor (most_of c.args.on.now.bits) c.args.on.now.table.now) (asked_on c.args.on.now.pair.first c.args.on.now.pair.second (map statements_of ls)) c.loop-place.answers.items) (take_all c.loop-place.place c.args.lists.now c.loop-place-test.false) c.loop-place.invariant.given
