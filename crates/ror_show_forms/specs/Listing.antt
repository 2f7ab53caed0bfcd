-- Reading a text of certificates: which they are, or why the bytes are none. Certificates are counted as blocks, from 1.
use Rattle.std.specs.Prelude.{ℕ, zero, suc, ◌+◌, ◌-◌, Bool, true, not, ◌&&◌, ◌||◌, ◌==◌, nat_eq, nat_lt, List, [], ◌∷◌, length, Option, Some, None, Result, Ok, Err, if◌then◌else◌}
use Rattle.std.specs.List.{starts_with}
use Rattle.std.specs.Str.{is_utf8}
use Rattle.ror_text.specs.Cursor.{Cursor, cursor_at}
use Rattle.ror_text.specs.Reading.{◌>>=◌, refuse}
use Rattle.ror_table.specs.Table.{DecisionTable}
use Rattle.ror_proof.specs.declared.read.ProofFault.{ProofFault}
use Rattle.ror_report.specs.Reading.{begins_end, end_at}
use Rattle.ror_show_forms.specs.declared.certificate.Certificate.{Certificate}
use Rattle.ror_show_forms.specs.Reading.{certificate_at}
use Rattle.ror_show_forms.specs.CertificateText.{header_text}
use Rattle.ror_bench.specs.declared.report.Reason.{Reason}
use Rattle.ror_bench.specs.declared.report.Reason.TheVariants as reasons
use Rattle.ror_bench.specs.declared.report.Rejection.{Rejection}
use Rattle.ror_bench.specs.declared.report.ReportError.{ReportError}
use Rattle.ror_bench.specs.declared.report.ReportError.TheVariants as errors
use Rattle.ror_bench.specs.Reports.{misread_reason}

-- the rejection that an error names: none for want of memory
abbrev pub rejection_of : ReportError → Option Rejection
rejection_of (errors.Rejected rejection) = Some rejection
rejection_of errors.Memory = None

abbrev pub at_block : ℕ → Reason → Rejection
at_block block reason = record { block = block; reason = reason }

-- a fault of form, by the number of its line
abbrev pub in_block : {A : Type 0} → List ℕ → ℕ → Result A ProofFault → Result A Rejection
in_block bytes block (Ok x) = Ok x
in_block bytes block (Err fault) = Err (at_block block (misread_reason bytes fault))

-- an answer stands behind the last one, if there is one: at a later line, or at a later place of its line
abbrev pub comes_after : Option (ℕ × ℕ) → ℕ → ℕ → Bool
comes_after None line place = true
comes_after (Some last) line place = nat_lt last.0 line || (last.0 == line && nat_lt last.1 place)

-- the certificate of this block, behind that of the last answer
unfoldable pub next_at : DecisionTable → List ℕ → ℕ → Option (ℕ × ℕ) → Cursor → Result (Certificate × Cursor) Rejection
next_at t bytes block last c = do
  found ← in_block bytes block (certificate_at t c)
  _ ← refuse (at_block block reasons.WrongBlock) (not (comes_after last found.0.line found.0.place))
  Ok found

-- the last line, where this block is due
unfoldable pub last_at : List ℕ → ℕ → Cursor → Result (Unit {0}) Rejection
last_at bytes block c = do
  count ← in_block bytes block (end_at c)
  refuse (at_block block reasons.WrongBlock) (not (count == block - 1))

-- the certificates from this block on, up to the last line, and so many at most
unfoldable pub listed_at : DecisionTable → List ℕ → ℕ → ℕ → Option (ℕ × ℕ) → Cursor → Result (List Certificate) Rejection
listed_at t bytes zero block last c = Err (at_block block reasons.WrongBlock)
listed_at t bytes (suc most) block last c = if begins_end c.rest then (do
  _ ← last_at bytes block c
  Ok []) else (do
    first ← next_at t bytes block last c
    others ← listed_at t bytes most (block + 1) (Some (first.0.line, first.0.place)) first.1
    Ok (first.0 ∷ others))

-- UTF-8, the first line, the certificates, each with a byte at least, and the last line
unfoldable pub certificates_of : DecisionTable → List ℕ → Result (List Certificate) Rejection
certificates_of t bytes = do
  _ ← refuse (at_block 0 reasons.NotUtf8) (not (is_utf8 bytes))
  _ ← refuse (at_block 0 (reasons.BadLine 1)) (not (starts_with nat_eq bytes header_text))
  listed_at t bytes (suc (length bytes)) 1 None (cursor_at bytes (length header_text))
