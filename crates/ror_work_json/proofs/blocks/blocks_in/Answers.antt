use Rattle.std.proofs.Common.{rules}
use Rattle.ror_json.specs.declared.fault.TextFault.TheVariants.{BadJson, BadShape}
use Rattle.ror_json.specs.Texts.{report_of_text}
use Rattle.ror_json.proofs.JsonTexts.{text_is_report}
use Rattle.ror_work_json.proofs.Rejections.{unread_json, unread_shape, fault_given}
use Rattle.ror_work_json.proofs.blocks.blocks_in.Goals as goal

pub returns-in-Ok-clause-read : goal.returns-in-Ok-clause-read
returns-in-Ok-clause-read c = (text_is_report c.args.table.now c.args.bytes.now c.in-Ok.blocks.items c.requires.table).0 c.in-Ok.ensures.exact

pub returns-in-Err-BadJson-clause-rejected : goal.returns-in-Err-BadJson-clause-rejected
returns-in-Err-BadJson-clause-rejected c =
    let read = report_of_text c.args.table.now c.args.bytes.now in
    unread_json c.args.table.now c.args.bytes.now c.rejected.result (fault_given c.in-Err-BadJson.field-0 BadJson read (search rules) c.in-Err-BadJson.ensures.exact) c.rejected.ensures

pub returns-in-Err-BadShape-clause-rejected : goal.returns-in-Err-BadShape-clause-rejected
returns-in-Err-BadShape-clause-rejected c =
    let read = report_of_text c.args.table.now c.args.bytes.now in
    let block = c.in-Err-BadShape.block in
    unread_shape c.args.table.now c.args.bytes.now block c.rejected-in-Err-BadShape.result c.requires.table (fault_given c.in-Err-BadShape.field-0 (BadShape block) read (search rules) c.in-Err-BadShape.ensures.exact) c.rejected-in-Err-BadShape.ensures
