use Rattle.std.proofs.Common.{List, subst, sym}
use Rattle.std.proofs.lemmas.Result.{err_from_is_err_and}
use Rattle.ror_statement.specs.declared.statement.Statement.{Statement}
use Rattle.ror_statement.specs.declared.question.Question.TheVariants.{Necessary, Possible}
use Rattle.ror_pivot.specs.Answers.{most_of}
use Rattle.ror_confidence.specs.Searching.{HasTwoSides, IsBorder, IsWideBorder}
use Rattle.ror_confidence.proofs.Finds.{base_border, base_due, complete_by, necessary_due, possible_due}
use Rattle.ror_confidence.proofs.Searches.{borders_narrow, borders_prove, necessary_sides, possible_sides}
use Rattle.ror_confidence.proofs.Truth.{proved_is_true}
use Rattle.ror_confidence.proofs.search.LevelSearch.find.Goals as goal

pub returns-in_err-contradictory-clause-due : goal.returns-in_err-contradictory-clause-due
returns-in_err-contradictory-clause-due g c =
    let p = err_from_is_err_and c.from_residual.result c.from_residual.ensures.1 in
    let s = c.requires.search in
    rw (p.1, p.2) (base_due (most_of c.args.bits) c.args.table.now c.args.self.now.lists.items c.args.pair.first c.args.pair.second c.args.self.now.base c.in_err-contradictory.field-0.0 s.lists s.base c.in_err-contradictory.ensures.open)

pub returns-in_err-contradictory-clause-complete : goal.returns-in_err-contradictory-clause-complete
returns-in_err-contradictory-clause-complete g c =
    complete_by (most_of c.args.bits) c.args.table.now c.args.self.now.lists.items c.args.pair.first c.args.pair.second c.from_residual.result (returns-in_err-contradictory-clause-due g c)

pub find_border-requires-clause-sides : goal.find_border-requires-clause-sides
find_border-requires-clause-sides g c =
    let most = most_of c.args.bits in
    let t = c.args.table.now in
    let lists = c.args.self.now.lists.items in
    let border = c.in_ok-contradictory.contradictory in
    let s = c.requires.search in
    let is = base_border most t lists c.args.self.now.base border s.base c.in_ok-contradictory.ensures.border in
    subst (λ (ls : List (List Statement)). HasTwoSides most t ls (Necessary c.args.pair.first c.args.pair.second) border.level) (sym c.deref.ensures.value) (necessary_sides most t lists c.args.pair.first c.args.pair.second border s.lists is)

pub returns-in_err-necessary-clause-due : goal.returns-in_err-necessary-clause-due
returns-in_err-necessary-clause-due g c =
    let most = most_of c.args.bits in
    let t = c.args.table.now in
    let lists = c.args.self.now.lists.items in
    let border = c.in_ok-contradictory.contradictory in
    let s = c.requires.search in
    let is = base_border most t lists c.args.self.now.base border s.base c.in_ok-contradictory.ensures.border in
    let e = c.in_err-necessary.field-0.0 in
    let wide = subst (λ (ls : List (List Statement)). IsWideBorder most t ls (Necessary c.args.pair.first c.args.pair.second) border.level e) c.deref.ensures.value c.in_err-necessary.ensures.wide in
    let p = err_from_is_err_and c.from_residual-in_err-necessary.result c.from_residual-in_err-necessary.ensures.1 in
    rw (p.1, p.2) (necessary_due most t lists c.args.pair.first c.args.pair.second border e s.lists is wide)

pub returns-in_err-necessary-clause-complete : goal.returns-in_err-necessary-clause-complete
returns-in_err-necessary-clause-complete g c =
    complete_by (most_of c.args.bits) c.args.table.now c.args.self.now.lists.items c.args.pair.first c.args.pair.second c.from_residual-in_err-necessary.result (returns-in_err-necessary-clause-due g c)

pub find_border-requires-2-clause-sides : goal.find_border-requires-2-clause-sides
find_border-requires-2-clause-sides g c =
    let most = most_of c.args.bits in
    let t = c.args.table.now in
    let lists = c.args.self.now.lists.items in
    let border = c.in_ok-contradictory.contradictory in
    let s = c.requires.search in
    let is = base_border most t lists c.args.self.now.base border s.base c.in_ok-contradictory.ensures.border in
    subst (λ (ls : List (List Statement)). HasTwoSides most t ls (Possible c.args.pair.first c.args.pair.second) border.level) (sym c.deref-2.ensures.value) (possible_sides most t lists c.args.pair.first c.args.pair.second border s.lists is)

pub returns-in_err-possible-clause-due : goal.returns-in_err-possible-clause-due
returns-in_err-possible-clause-due g c =
    let most = most_of c.args.bits in
    let t = c.args.table.now in
    let lists = c.args.self.now.lists.items in
    let border = c.in_ok-contradictory.contradictory in
    let s = c.requires.search in
    let is = base_border most t lists c.args.self.now.base border s.base c.in_ok-contradictory.ensures.border in
    let e = c.in_err-possible.field-0.0 in
    let wide = subst (λ (ls : List (List Statement)). IsWideBorder most t ls (Possible c.args.pair.first c.args.pair.second) border.level e) c.deref-2.ensures.value c.in_err-possible.ensures.wide in
    let p = err_from_is_err_and c.from_residual-in_err-possible.result c.from_residual-in_err-possible.ensures.1 in
    rw (p.1, p.2) (possible_due most t lists c.args.pair.first c.args.pair.second border e s.lists is wide)

pub returns-in_err-possible-clause-complete : goal.returns-in_err-possible-clause-complete
returns-in_err-possible-clause-complete g c =
    complete_by (most_of c.args.bits) c.args.table.now c.args.self.now.lists.items c.args.pair.first c.args.pair.second c.from_residual-in_err-possible.result (returns-in_err-possible-clause-due g c)

pub returns-clause-proved : goal.returns-clause-proved
returns-clause-proved g c =
    let most = most_of c.args.bits in
    let t = c.args.table.now in
    let lists = c.args.self.now.lists.items in
    let border = c.in_ok-contradictory.contradictory in
    let s = c.requires.search in
    let is = base_border most t lists c.args.self.now.base border s.base c.in_ok-contradictory.ensures.border in
    let first = subst (λ (ls : List (List Statement)). IsBorder most t ls (Necessary c.args.pair.first c.args.pair.second) border.level c.in_ok-necessary.necessary) c.deref.ensures.value c.in_ok-necessary.ensures.border in
    let next = subst (λ (ls : List (List Statement)). IsBorder most t ls (Possible c.args.pair.first c.args.pair.second) border.level c.in_ok-possible.possible) c.deref-2.ensures.value c.in_ok-possible.ensures.border in
    borders_prove most t lists c.args.pair.first c.args.pair.second border c.in_ok-necessary.necessary c.in_ok-possible.possible c.in_ok-span_of.field-0 is first next c.in_ok-span_of.ensures

pub returns-clause-true_span : goal.returns-clause-true_span
returns-clause-true_span g c =
    proved_is_true c.args.table.now c.args.self.now.lists.items c.args.pair.first c.args.pair.second c.in_ok-span_of.field-0 c.requires.search.lists c.requires.first c.requires.second (returns-clause-proved g c)

pub returns-clause-narrow : goal.returns-clause-narrow
returns-clause-narrow g c =
    let most = most_of c.args.bits in
    let t = c.args.table.now in
    let lists = c.args.self.now.lists.items in
    let border = c.in_ok-contradictory.contradictory in
    let s = c.requires.search in
    let is = base_border most t lists c.args.self.now.base border s.base c.in_ok-contradictory.ensures.border in
    let first = subst (λ (ls : List (List Statement)). IsBorder most t ls (Necessary c.args.pair.first c.args.pair.second) border.level c.in_ok-necessary.necessary) c.deref.ensures.value c.in_ok-necessary.ensures.border in
    let next = subst (λ (ls : List (List Statement)). IsBorder most t ls (Possible c.args.pair.first c.args.pair.second) border.level c.in_ok-possible.possible) c.deref-2.ensures.value c.in_ok-possible.ensures.border in
    borders_narrow most t lists c.args.pair.first c.args.pair.second border c.in_ok-necessary.necessary c.in_ok-possible.possible c.in_ok-span_of.field-0 is first next c.in_ok-span_of.ensures
