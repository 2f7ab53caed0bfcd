-- The functions of one line more.
use Rattle.std.proofs.Common.{◌≡◌, ◌++◌, [], ◌∷◌, get_or, length, rules}
use Rattle.ror_show_ground.specs.Grounds.{ground_of}
use Rattle.ror_show_ground.proofs.Lists.{within_at, zip_next}
use Rattle.ror_show_find_proofs.specs.Findings.{AreFunctionsAt, AreOfTable}
use Rattle.ror_show_find_proofs.proofs.FoundLists.{all_pushed}
use Rattle.ror_show_find_proofs.proofs.findings.find_at.Goals as goal

pub functions_at-requires : goal.functions_at-requires
functions_at-requires c = within_at (length c.args.ground.now.kept.now) c.args.places.now c.places.place-index c.places-test.true c.requires

pub places-preserved : goal.places-preserved
places-preserved c =
    let g = ground_of c.args.ground.now in
    let i = c.places.place-index in
    let made = c.places.made.items in
    let found = c.in_ok-found.found in
    let here : AreFunctionsAt (ground_of c.args.ground.now) (get_or c.args.places.now c.places.place-index 0) c.in_ok-found.found = search rules in
    let pushed : c.push.new.self.items ≡ c.places.made.items ++ c.in_ok-found.found ∷ [] = search rules in (
      zip_next (AreFunctionsAt g) c.args.places.now i 0 made c.push.new.self.items found c.places-test.true c.places.invariant.0 here pushed,
      all_pushed (AreOfTable g.table) made c.push.new.self.items found c.places.invariant.1 c.in_ok-found.ensures.functions pushed,
    )
