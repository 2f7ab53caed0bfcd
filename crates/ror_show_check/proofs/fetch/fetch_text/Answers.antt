use Rattle.std.proofs.Common.{◌≡◌, ◌<◌, ◌≤◌, length}
use Rattle.ror_io.specs.Fetching.{Fetches, IsNoLonger}
use Rattle.ror_bench.specs.declared.report.TheConstants.{MOST_REPORT_BYTES}
use Rattle.ror_frame.specs.States.{shelf_state}
use Rattle.ror_frame.proofs.FetchLemmas.{IsCalled}
use Rattle.ror_show_check.proofs.Fetching.{brought_text, brought_longer}
use Rattle.ror_show_check.proofs.fetch.fetch_text.Goals as goal

pub returns-in-Whole : goal.returns-in-Whole
returns-in-Whole g c =
    let had = c.in_ok-fetched.ensures in
    let called : IsCalled c.args.name.now (shelf_state (g.F.Shelf.told c.args.shelf.now) (g.F.Shelf.faults c.args.shelf.now) (g.F.Shelf.fetch_count c.args.shelf.now)) (shelf_state (g.F.Shelf.told c.fetch.new.self) (g.F.Shelf.faults c.fetch.new.self) (g.F.Shelf.fetch_count c.fetch.new.self)) = record { never_falls = had.never_falls; told_stays = had.told_stays; counted = had.counted } in
    let short : IsNoLonger MOST_REPORT_BYTES c.in_ok-fetched.fetched = had.within in
    let within : length c.in-Whole.bytes.items ≤ MOST_REPORT_BYTES = rw c.in-Whole.is at short in
    rw c.from.ensures (brought_text c.args.name.now _ _ _ c.in-Whole.bytes.items called had.other (λ lacks. let e = (had.missing lacks).0 in cc) within (λ bytes has stayed.
    let found : Fetches bytes MOST_REPORT_BYTES c.in_ok-fetched.fetched = had.found bytes has stayed in
    let same : (c.in-Whole.bytes.items ≡ bytes) × (length bytes ≤ MOST_REPORT_BYTES) = rw c.in-Whole.is at found in
    same.0))

pub returns-in-Longer : goal.returns-in-Longer
returns-in-Longer g c =
    let had = c.in_ok-fetched.ensures in
    let called : IsCalled c.args.name.now (shelf_state (g.F.Shelf.told c.args.shelf.now) (g.F.Shelf.faults c.args.shelf.now) (g.F.Shelf.fetch_count c.args.shelf.now)) (shelf_state (g.F.Shelf.told c.fetch.new.self) (g.F.Shelf.faults c.fetch.new.self) (g.F.Shelf.fetch_count c.fetch.new.self)) = record { never_falls = had.never_falls; told_stays = had.told_stays; counted = had.counted } in
    brought_longer c.args.name.now _ _ _ called had.other (λ lacks. let e = (had.missing lacks).0 in cc) (λ bytes has stayed.
    let found : Fetches bytes MOST_REPORT_BYTES c.in_ok-fetched.fetched = had.found bytes has stayed in
    let longer : MOST_REPORT_BYTES < length bytes = rw c.in-Longer.is at found in
    longer)
