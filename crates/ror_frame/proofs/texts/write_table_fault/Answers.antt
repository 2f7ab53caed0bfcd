use Rattle.ror_frame.proofs.texts.write_table_fault.Goals as goal

pub returns : goal.returns
returns g c = rw (← c.kind_name.ensures, ← c.as_bytes.ensures.value) c.write_named.ensures
