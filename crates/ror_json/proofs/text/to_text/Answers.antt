use Rattle.std.specs.Prelude.{string_bytes}
use Rattle.ror_json.proofs.JsonTexts.{text_given}
use Rattle.ror_json.proofs.text.to_text.Goals as goal

pub returns : goal.returns
returns c = record { text = text_given string_bytes c.to_string.result _ c.args.table.now c.args.blocks.now c.in_ok-value.ensures.form c.to_string.ensures.text }
