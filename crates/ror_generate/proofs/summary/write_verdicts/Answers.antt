use Rattle.ror_generate.specs.Generating.{verdict_lines}
use Rattle.ror_generate.proofs.summary.write_verdicts.Goals as goal

pub returns : goal.returns
unfolding verdict_lines
returns g c =
    rw (← c.format.ensures.text, ← c.as_bytes.ensures.value, ← c.format-2.ensures.text, ← c.as_bytes-2.ensures.value, ← c.format-3.ensures.text, ← c.as_bytes-3.ensures.value, ← c.format-4.ensures.text, ← c.as_bytes-4.ensures.value, ← c.format-5.ensures.text, ← c.as_bytes-5.ensures.value) c.write_joined.ensures
