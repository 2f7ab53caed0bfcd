use Rattle.std.proofs.Common.{rules, ◌≡◌, Some}
use Rattle.ror_show_ground.specs.Stood.{stood_of}
use Rattle.ror_show_ground.proofs.Lending.{stands}
use Rattle.ror_show_ground.proofs.stood.stood_at.Goals as goal

pub returns-in-Some-clause-ready : goal.returns-in-Some-clause-ready
returns-in-Some-clause-ready c =
    let line = c.args.line.now in
    let list = c.as_slice.result.now in
    let stood : line.standing ≡ Some list = search rules in
    stands c.args.table.now line list (stood_of c.stood_over.result) c.requires stood c.stood_over.ensures
