-- The text of certificates that is read with a report.
use Rattle.std.specs.Prelude.{ℕ, List, length, Option, Some, None, nat_le, if◌then◌else◌}
use Rattle.ror_bench.specs.declared.report.TheConstants.{MOST_REPORT_BYTES}

-- the bytes of it, where there are at most 268,435,456
abbrev pub text_of : List ℕ → Option (List ℕ)
text_of bytes = if nat_le (length bytes) MOST_REPORT_BYTES then Some bytes else None
