use Rattle.std.proofs.Common.{◌≡◌, ◌∙◌, Err, ap, sym, subst}
use Rattle.std.specs.Prelude.{IfSome}
use Rattle.ror_table.specs.declared.fault.DraftFault.{DraftFault}
use Rattle.ror_table.specs.declared.fault.DraftFault.TheVariants.{BadId, RepeatedId, TooMany}
use Rattle.ror_table.specs.declared.fault.What.TheVariants.{Criteria}
use Rattle.ror_table.specs.Draft.{draft_fault}
use Rattle.ror_show_spreadsheet.specs.Drafts.{draft_kind}
use Rattle.ror_show_cells.specs.Faults.{fault_at, sheet_fault}
use Rattle.ror_show_spreadsheet.proofs.Renamed.{renamed, err_renamed, criterion_renamed}
use Rattle.ror_show_spreadsheet.proofs.columns.put_criterion.Goals as goal

pub returns-in-Ok-clause-exact : goal.returns-in-Ok-clause-exact
returns-in-Ok-clause-exact c =
    let g = λ (f : DraftFault). fault_at (draft_kind f) 1 c.args.column in
    criterion_renamed g BadId RepeatedId (TooMany Criteria) c.args.draft.now c.args.id.now c.args.scale ∙ ap (renamed g) c.in-Ok.ensures.exact

pub returns-in-Err-clause-exact : goal.returns-in-Err-clause-exact
returns-in-Err-clause-exact c =
    let g = λ (f : DraftFault). fault_at (draft_kind f) 1 c.args.column in
    subst (λ r. IfSome (sheet_fault c.draft_error.result) (λ f. r ≡ Err f)) (sym (criterion_renamed g BadId RepeatedId (TooMany Criteria) c.args.draft.now c.args.id.now c.args.scale)) (err_renamed (draft_fault c.in-Err.fault) (sheet_fault c.draft_error.result) g _ c.draft_error.ensures c.in-Err.ensures.exact)
