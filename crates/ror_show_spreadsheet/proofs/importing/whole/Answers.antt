use Rattle.std.proofs.Common.{◌≡◌, ◌∙◌, ℕ, List, Ok, Err, Result, ap, sym, subst}
use Rattle.std.specs.Prelude.{IfSome}
use Rattle.ror_text.specs.Reading.{◌>>=◌}
use Rattle.ror_text.proofs.ReadingLemmas.{gives_exit}
use Rattle.ror_table.specs.declared.fault.DraftFault.{DraftFault}
use Rattle.ror_table.specs.declared.fault.DraftFault.TheVariants.{Empty, TooMany, WideScale}
use Rattle.ror_table.specs.declared.fault.What.TheVariants.{Steps}
use Rattle.ror_table.specs.Draft.{draft_fault}
use Rattle.ror_table.specs.Table.{DecisionTable}
use Rattle.ror_show_cells.specs.declared.fault.SheetFault.{SheetFault}
use Rattle.ror_show_spreadsheet.specs.declared.importing.Imported.{Imported}
use Rattle.ror_show_cells.specs.declared.numbers.Numerals.{Numerals}
use Rattle.ror_show_spreadsheet.specs.Drafts.{draft_kind}
use Rattle.ror_show_cells.specs.Faults.{fault_at, sheet_fault}
use Rattle.ror_show_spreadsheet.specs.Import.{whole}
use Rattle.ror_show_spreadsheet.proofs.Renamed.{renamed, err_renamed, finished_renamed}
use Rattle.ror_show_spreadsheet.proofs.importing.whole.Goals as goal

abbrev after : Numerals → List ℕ → Result DecisionTable SheetFault → Result Imported SheetFault
after n text r = r >>= (λ table. Ok (record { numerals = n; table = table; text = text }))

pub returns-in-Ok-clause-exact : goal.returns-in-Ok-clause-exact
unfolding whole
returns-in-Ok-clause-exact c =
    let g = λ (f : DraftFault). fault_at (draft_kind f) 0 0 in
    rw c.from.ensures (ap (after c.args.numerals c.args.reading.text.items) (finished_renamed g Empty (TooMany Steps) WideScale c.args.reading.draft ∙ ap (renamed g) c.in-Ok.ensures.exact))

pub returns-in-Err-clause-exact : goal.returns-in-Err-clause-exact
unfolding whole
returns-in-Err-clause-exact c =
    let g = λ (f : DraftFault). fault_at (draft_kind f) 0 0 in
    let found = subst (λ r. IfSome (sheet_fault c.draft_error.result) (λ f. r ≡ Err f)) (sym (finished_renamed g Empty (TooMany Steps) WideScale c.args.reading.draft)) (err_renamed (draft_fault c.in-Err.fault) (sheet_fault c.draft_error.result) g _ c.draft_error.ensures c.in-Err.ensures.exact) in
    gives_exit sheet_fault c.draft_error.result _ _ found
