use Rattle.std.proofs.Common.{◌≡◌, length}
use Rattle.ror_show_ground.specs.Turns.{last_below}
use Rattle.ror_show_find_classes.specs.Changes.{is_row_of}
use Rattle.ror_show_find_classes.proofs.change.last_of.Given as goal

abbrev pub invariant-places : goal.invariant-places
invariant-places l = last_below (is_row_of l.rows l.a) (length l.rows) ≡ last_below (is_row_of l.rows l.a) l.place

abbrev pub decreases-places : goal.decreases-places
decreases-places l = l.place
