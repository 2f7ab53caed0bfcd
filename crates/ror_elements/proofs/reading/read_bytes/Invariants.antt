use Rattle.std.proofs.Common.{◌≡◌, ◌≤◌, ◌+◌, drop}
use Rattle.ror_text.specs.Reading.{read_all}
use Rattle.ror_elements.specs.Elements.{read}
use Rattle.ror_elements.specs.Reader.{nothing_read}
use Rattle.ror_elements.proofs.reading.read_bytes.Given as goal

abbrev pub invariant-bytes : goal.invariant-bytes
invariant-bytes l = record {
  same : read_all read l.reader (drop l.byte-index l.bytes) ≡ read_all read nothing_read l.bytes;
  line : l.reader.line ≤ 1 + l.byte-index;
}
