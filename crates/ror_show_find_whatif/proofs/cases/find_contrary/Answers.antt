use Rattle.std.proofs.Common.{◌≡◌, Option, Some, None, refl, sym, subst, rules}
use Rattle.std.proofs.lemmas.Result.{IfOk-weaker}
use Rattle.ror_statement.specs.declared.statement.Statement.{Statement}
use Rattle.ror_show_find_whatif.specs.Changed.{contrary_of}
use Rattle.ror_show_find_whatif.specs.Cases.{IsContraryWhere}
use Rattle.ror_show_find_whatif.proofs.Changing.{instead_lawful}
use Rattle.ror_show_find_whatif.proofs.cases.find_contrary.Goals as goal

pub said_instead-requires-clause-lawful : goal.said_instead-requires-clause-lawful
said_instead-requires-clause-lawful c =
    let s = c.args.stood.now in
    let at = c.requires.there in
    let is : contrary_of c.args.stated.statement ≡ Some c.in-Some.statement = search rules in
    instead_lawful s.table.now s.list.now at.0 c.args.stated c.in-Some.statement c.requires.stood.rising at.1 is c.requires.stood.lawful

pub returns-in-Some : goal.returns-in-Some
returns-in-Some c =
    let s = c.args.stood.now in
    let is : contrary_of c.args.stated.statement ≡ Some c.in-Some.statement = search rules in
    IfOk-weaker c.said_instead.result _ _
    (λ found are. subst (λ (o : Option Statement). IsContraryWhere s.table.now c.args.asks s.list.now s.answers.now c.args.stated o found) (sym is) are)
    c.said_instead.ensures

pub returns-in-None : goal.returns-in-None
returns-in-None c =
    let s = c.args.stood.now in
    let none : contrary_of c.args.stated.statement ≡ None = search rules in
    subst (λ (o : Option Statement). IsContraryWhere s.table.now c.args.asks s.list.now s.answers.now c.args.stated o None) (sym none) refl
