use Rattle.std.proofs.Common.{◌≡◌, take}
use Rattle.ror_given.specs.Notes.{pivots_of}
use Rattle.ror_relation.proofs.wide.note_text.Given as goal

abbrev pub invariant-loop-pivot : goal.invariant-loop-pivot
invariant-loop-pivot l = pivots_of l.path.items ≡ take l.pivot-index l.note.path
