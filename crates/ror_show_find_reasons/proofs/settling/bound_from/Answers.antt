use Rattle.std.proofs.Common.{rules, ◌≡◌, Some, None, Option, sym, subst, refl}
use Rattle.std.specs.List.{find}
use Rattle.std.proofs.lemmas.Result.{IfOk-weaker}
use Rattle.ror_statement.specs.Statements.{statements_in}
use Rattle.ror_proof.specs.declared.answer.Answer.{Answer}
use Rattle.ror_show_ground.specs.Sound.{IsSoundAnswer}
use Rattle.ror_show_find_classes.specs.Signs.{alternative_of}
use Rattle.ror_show_find_reasons.specs.Bounds.{excludes, IsBoundWhere}
use Rattle.ror_show_find_reasons.proofs.Found.{found_passes, found_has}
use Rattle.ror_show_find_reasons.proofs.Settled.{proved_no}
use Rattle.ror_show_find_reasons.proofs.settling.bound_from.Goals as goal

pub bound_by-requires-clause-asked : goal.bound_by-requires-clause-asked
bound_by-requires-clause-asked c =
    let s = c.args.stood.now in
    let xs = s.answers.now in
    let test = excludes c.args.side c.args.end (alternative_of xs) in
    let answer = c.in-Some.answer.now in
    let there : find (excludes c.args.side c.args.end (alternative_of c.args.stood.now.answers.now)) c.args.stood.now.answers.now ≡ Some c.in-Some.answer.now = search rules in
    (found_has (IsSoundAnswer s.table.now (statements_in s.list.now)) test xs answer c.requires.sound there).asked

pub bound_by-requires-clause-proved : goal.bound_by-requires-clause-proved
bound_by-requires-clause-proved c =
    let s = c.args.stood.now in
    let xs = s.answers.now in
    let a = alternative_of xs in
    let test = excludes c.args.side c.args.end a in
    let answer = c.in-Some.answer.now in
    let there : find (excludes c.args.side c.args.end (alternative_of c.args.stood.now.answers.now)) c.args.stood.now.answers.now ≡ Some c.in-Some.answer.now = search rules in
    proved_no s.table.now (statements_in s.list.now) c.args.side c.args.end a answer (found_passes test xs answer there) (found_has (IsSoundAnswer s.table.now (statements_in s.list.now)) test xs answer c.requires.sound there)

pub returns-in-Some : goal.returns-in-Some
returns-in-Some c =
    let s = c.args.stood.now in
    let there : find (excludes c.args.side c.args.end (alternative_of c.args.stood.now.answers.now)) c.args.stood.now.answers.now ≡ Some c.in-Some.answer.now = search rules in
    IfOk-weaker c.bound_by.result _ _
    (λ found is. subst (λ (o : Option Answer). IsBoundWhere c.args.end s.table.now s.list.now o found) (sym there) is)
    c.bound_by.ensures

pub returns-in-None : goal.returns-in-None
returns-in-None c =
    let s = c.args.stood.now in
    let none : find (excludes c.args.side c.args.end (alternative_of c.args.stood.now.answers.now)) c.args.stood.now.answers.now ≡ None = search rules in
    subst (λ (o : Option Answer). IsBoundWhere c.args.end s.table.now s.list.now o None) (sym none) refl
