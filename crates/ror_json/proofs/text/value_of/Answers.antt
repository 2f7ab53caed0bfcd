use Rattle.serde_json.specs.View.{view}
use Rattle.ror_json.proofs.JsonTexts.{value_is_read, value_is_refused}
use Rattle.ror_json.proofs.text.value_of.Goals as goal

pub returns-in-Ok : goal.returns-in-Ok
returns-in-Ok c = value_is_read c.args.bytes.now (view c.in-Ok.value) c.in-Ok.ensures.ok.0 c.in-Ok.ensures.ok.1

pub returns-in-Err-2 : goal.returns-in-Err-2
returns-in-Err-2 c =
    value_is_refused c.args.bytes.now
    (λ utf8. c.in-Err.ensures.err (λ short. let said = c.is_memory.ensures.1 short in let no_memory = c.if-is_memory.false in absurd cc) utf8)
