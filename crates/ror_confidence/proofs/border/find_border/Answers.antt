use Rattle.std.proofs.Common.{◌≡◌, ◌<◌, ◌-◌, List, true, false, arith, length, subst, sym, ◌∙◌}
use Rattle.ror_statement.specs.declared.statement.Statement.{Statement}
use Rattle.ror_statement.specs.declared.question.QuestionKind.{QuestionKind}
use Rattle.ror_statement.specs.Questions.{kind_of}
use Rattle.ror_pivot.specs.Answers.{most_of}
use Rattle.ror_confidence.specs.declared.span.LevelAnswer.{LevelAnswer}
use Rattle.ror_confidence.specs.Searching.{IsDecidedAt, is_above}
use Rattle.ror_confidence.proofs.Nested.{level_list}
use Rattle.ror_confidence.proofs.Searches.{border_found, border_open, few_from, has_above, has_below}
use Rattle.ror_confidence.proofs.border.find_border.Goals as goal

pub levels-preserved-then-is_above : goal.levels-preserved-then-is_above
levels-preserved-then-is_above g c =
    let lists = c.args.lists.now in
    let q = c.args.sought.question in
    let most = most_of c.args.bits in
    let level = c.level_between-level.result in
    let inv = c.levels.invariant in
    let over = c.level_between-level.ensures.above in
    let under = c.level_between-level.ensures.below in
    let last = inv.searched.to_end in
    let answers = c.in_ok-answers.answers.items in
    let place : level - 1 < length lists = omega (arith, over, under, last, c.requires.within) in
    let same = c.as_slice-list.ensures ∙ level_list lists level c.index-lists-level.result place c.index-lists-level.is in
    let decided = subst (λ (list : List Statement). IsDecidedAt most c.args.table.now list q level answers) same c.in_ok-answers.ensures in
    let kind = subst (λ (kind : QuestionKind). is_above kind c.as_slice.result.now ≡ true) c.kind_of.ensures (sym c.is_above.ensures ∙ c.if-is_above.true) in
    let is = subst (λ (xs : List LevelAnswer). is_above (kind_of q) xs ≡ true) c.as_slice.ensures.value kind in
    has_above most c.args.table.now lists q c.args.sought.end c.levels.low c.levels.high level c.levels.below.items c.levels.from.items answers inv over under decided is

pub levels-preserved : goal.levels-preserved
levels-preserved g c =
    let lists = c.args.lists.now in
    let q = c.args.sought.question in
    let most = most_of c.args.bits in
    let level = c.level_between-level.result in
    let inv = c.levels.invariant in
    let over = c.level_between-level.ensures.above in
    let under = c.level_between-level.ensures.below in
    let last = inv.searched.to_end in
    let answers = c.in_ok-answers.answers.items in
    let place : level - 1 < length lists = omega (arith, over, under, last, c.requires.within) in
    let same = c.as_slice-list.ensures ∙ level_list lists level c.index-lists-level.result place c.index-lists-level.is in
    let decided = subst (λ (list : List Statement). IsDecidedAt most c.args.table.now list q level answers) same c.in_ok-answers.ensures in
    let kind = subst (λ (kind : QuestionKind). is_above kind c.as_slice.result.now ≡ false) c.kind_of.ensures (sym c.is_above.ensures ∙ c.if-is_above.false) in
    let is = subst (λ (xs : List LevelAnswer). is_above (kind_of q) xs ≡ false) c.as_slice.ensures.value kind in
    has_below most c.args.table.now lists q c.args.sought.end c.levels.low c.levels.high level c.levels.below.items c.levels.from.items answers c.requires.sides inv over under decided is

pub border_of-requires : goal.border_of-requires
border_of-requires g c = few_from (most_of c.args.bits) c.args.table.now c.args.lists.now c.args.sought.question c.args.sought.end c.levels.low c.levels.high c.levels.below.items c.levels.from.items c.levels.invariant

pub returns-clause-border : goal.returns-clause-border
returns-clause-border g c =
    border_found (most_of c.args.bits) c.args.table.now c.args.lists.now c.args.sought.question c.args.sought.end c.levels.low c.levels.high c.levels.below.items c.levels.from.items c.border_of.result c.levels.invariant (omega (arith, c.levels-test.false)) c.border_of.ensures.border c.border_of.ensures.narrow

pub returns-clause-wide : goal.returns-clause-wide
returns-clause-wide g c =
    border_open (most_of c.args.bits) c.args.table.now c.args.lists.now c.args.sought.question c.args.sought.end c.levels.low c.levels.high c.levels.below.items c.levels.from.items c.border_of.result c.levels.invariant (omega (arith, c.levels-test.false)) c.border_of.ensures.wide
