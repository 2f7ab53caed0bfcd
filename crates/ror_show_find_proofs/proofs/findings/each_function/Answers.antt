-- The function of one place more.
use Rattle.std.proofs.Common.{◌≡◌, ◌++◌, [], ◌∷◌, None, get_or, rules}
use Rattle.ror_show_find_proofs.specs.declared.function_places.Place.{Place}
use Rattle.ror_show_find_proofs.specs.Findings.{function_found, IsOfTable}
use Rattle.ror_show_find_proofs.proofs.FoundLists.{all_pushed, mapped_next}
use Rattle.ror_show_find_proofs.proofs.findings.each_function.Goals as goal

pub places-preserved : goal.places-preserved
places-preserved c =
    let d : Place = record { answer = 0; part = None } in
    let t = c.args.table.now in
    let i = c.places.place-index in
    let made = c.places.made.items in
    let found = c.in_ok-found.found in
    let pushed : c.push.new.self.items ≡ c.places.made.items ++ c.in_ok-found.found ∷ [] = search rules in
    let here : c.in_ok-found.found ≡ function_found c.args.table.now c.args.answers.now (get_or c.args.places.now c.places.place-index (record { answer = 0; part = None })) = search rules in (
      mapped_next (function_found t c.args.answers.now) c.args.places.now i d made c.push.new.self.items found c.places-test.true c.places.invariant.0 here pushed,
      all_pushed (IsOfTable t) made c.push.new.self.items found c.places.invariant.1 c.in_ok-found.ensures.function pushed,
    )
