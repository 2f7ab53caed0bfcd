use Rattle.std.proofs.Common.{is_ok}
use Rattle.ror_show_sheet.proofs.NoteLemmas.{notes_more}
use Rattle.ror_show_sheet.proofs.notes.Notes.add.Goals as goal

pub invariant_of-self : goal.invariant_of-self
invariant_of-self c = record {
  labelled = notes_more (is_ok c.extend_from_slice.result) c.args.self.now.text.items c.args.lines.now c.extend_from_slice.new.self.items c.extend_from_slice.ensures.items c.args.self.now.labelled c.requires;
}
