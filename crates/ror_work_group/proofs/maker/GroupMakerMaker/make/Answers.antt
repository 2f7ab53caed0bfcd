use Rattle.std.proofs.Common.{◌<◌, List, length, map, sym, ◌∙◌, subst}
use Rattle.std.specs.List.{AllByRecursion}
use Rattle.ror_table.specs.Table.{DecisionTable}
use Rattle.ror_proof.specs.Text.{IsPrintable}
use Rattle.ror_report.specs.Printing.{HasValidQuestion, HasNarrowVerdict}
use Rattle.ror_pivot.specs.Answers.{most_of}
use Rattle.ror_relation.specs.declared.decided.DecidedList.{DecidedList}
use Rattle.ror_relation.specs.DecidedLists.{statements_of}
use Rattle.ror_group.specs.Combining.{asked_on, InStep}
use Rattle.ror_group.specs.Text.{IsPrintableEntry}
use Rattle.ror_work_group.specs.Entries.{IsGivenFor}
use Rattle.ror_work_group.specs.Steps.{GroupMaking}
use Rattle.ror_entries.proofs.PairLemmas.{pair_there}
use Rattle.ror_work_group.proofs.Printing.{lawful_decided, answers_printable, answers_valid, answers_narrow}
use Rattle.ror_work_group.proofs.maker.GroupMakerMaker.make.Goals as goal

pub answers_on-requires-clause-first : goal.answers_on-requires-clause-first
answers_on-requires-clause-first c =
    let t = c.self.inside.bench.table in
    let p = pair_there t c.as_slice.result.now c.args.place c.pair_at-first.result (c.as_slice.ensures.value ∙ c.self.invariant.pairs_are) c.pair_at-first.ensures in
    subst (λ (u : DecisionTable). c.pair_at-first.result.0 < length u.alternatives) (sym c.table-table.ensures.value) p.1

pub answers_on-requires-clause-second : goal.answers_on-requires-clause-second
answers_on-requires-clause-second c =
    let t = c.self.inside.bench.table in
    let p = pair_there t c.as_slice.result.now c.args.place c.pair_at-first.result (c.as_slice.ensures.value ∙ c.self.invariant.pairs_are) c.pair_at-first.ensures in
    subst (λ (u : DecisionTable). c.pair_at-first.result.1 < length u.alternatives) (sym c.table-table.ensures.value) p.2

pub returns-clause-printable : goal.returns-clause-printable
returns-clause-printable c =
    let t = c.self.inside.bench.table in
    let bits = c.self.inside.bits in
    let pair = c.pair_at-first.result in
    let ds = c.self.inside.lists.items in
    let xs = c.in_ok-answers.answers.items in
    let p = pair_there t c.as_slice.result.now c.args.place pair (c.as_slice.ensures.value ∙ c.self.invariant.pairs_are) c.pair_at-first.ensures in
    let lawful = lawful_decided (most_of bits) t ds c.self.invariant.decided in
    let over = subst (λ (u : DecisionTable). InStep (IsGivenFor (most_of bits) u) (asked_on pair.0 pair.1 (map statements_of c.as_slice-lists.result.now)) xs) c.table-table.ensures.value c.in_ok-answers.ensures.given in
    let given = subst (λ (l : List DecidedList). InStep (IsGivenFor (most_of bits) t) (asked_on pair.0 pair.1 (map statements_of l)) xs) c.as_slice-lists.ensures.value over in
    let all = answers_printable bits t pair.0 pair.1 c.self.invariant.table p.1 p.2 (map statements_of ds) xs lawful given in
    subst (λ (m : GroupMaking). IsPrintableEntry m.table (record { first = pair.0; second = pair.1; answers = c.from.result; quartet = c.combine-quartet.result })) c.self.view_is
    (record { first = p.1; second = p.2; answers = subst (AllByRecursion (IsPrintable t)) (sym c.from.ensures) all })

pub returns-clause-writable : goal.returns-clause-writable
returns-clause-writable c =
    let t = c.self.inside.bench.table in
    let bits = c.self.inside.bits in
    let pair = c.pair_at-first.result in
    let ds = c.self.inside.lists.items in
    let xs = c.in_ok-answers.answers.items in
    let p = pair_there t c.as_slice.result.now c.args.place pair (c.as_slice.ensures.value ∙ c.self.invariant.pairs_are) c.pair_at-first.ensures in
    let lawful = lawful_decided (most_of bits) t ds c.self.invariant.decided in
    let over = subst (λ (u : DecisionTable). InStep (IsGivenFor (most_of bits) u) (asked_on pair.0 pair.1 (map statements_of c.as_slice-lists.result.now)) xs) c.table-table.ensures.value c.in_ok-answers.ensures.given in
    let given = subst (λ (l : List DecidedList). InStep (IsGivenFor (most_of bits) t) (asked_on pair.0 pair.1 (map statements_of l)) xs) c.as_slice-lists.ensures.value over in
    let valid = answers_valid bits t pair.0 pair.1 c.self.invariant.table p.1 p.2 (map statements_of ds) xs lawful given in
    let narrow = answers_narrow bits t pair.0 pair.1 c.self.invariant.table p.1 p.2 (map statements_of ds) xs lawful given in
    record { first = p.1; second = p.2; valid = subst (AllByRecursion (HasValidQuestion t)) (sym c.from.ensures) valid; narrow = subst (AllByRecursion HasNarrowVerdict) (sym c.from.ensures) narrow }
