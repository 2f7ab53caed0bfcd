-- The faults of a draft among those of a sheet.
use Rattle.ror_table.specs.declared.fault.DraftFault.{DraftFault}
use Rattle.ror_table.specs.declared.fault.DraftFault.TheVariants as drafts
use Rattle.ror_show_cells.specs.declared.fault.SheetKind.{SheetKind}
use Rattle.ror_show_cells.specs.declared.fault.SheetKind.TheVariants.{NoName, RepeatedId, TooMany, Empty, WideScale}

abbrev pub draft_kind : DraftFault → SheetKind
draft_kind drafts.BadId = NoName
draft_kind drafts.RepeatedId = RepeatedId
draft_kind (drafts.TooMany what) = TooMany what
draft_kind drafts.Empty = Empty
draft_kind drafts.WideScale = WideScale
draft_kind drafts.Memory = NoName
