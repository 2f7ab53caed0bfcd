-- The certificates of what is found of lines, and their text.
use Rattle.std.specs.Prelude.{ℕ, ◌+◌, List, [], ◌∷◌, slice_get, Option, Some}
use Rattle.std.specs.List.{flat_map}
use Rattle.std.specs.Option.{option_map_or}
use Rattle.ror_bench.specs.declared.kept.KeptLine.{KeptLine}
use Rattle.ror_reason.specs.declared.reducts.Reason.{Reason}
use Rattle.ror_reason.specs.declared.reducts.Reason.TheVariants as reasons
use Rattle.ror_reason.specs.declared.reducts.Reduct.{Reduct}
use Rattle.ror_show_ground.specs.Grounds.{Ground}
use Rattle.ror_show_find_reasons.specs.declared.lines.Told.{Told}
use Rattle.ror_show_find_reasons.specs.declared.lines.LineFound.{LineFound}
use Rattle.ror_show_forms.specs.declared.certificate.Certificate.{Certificate}
use Rattle.ror_show_forms.specs.CertificateText.{certificates_text}

-- that of the answer at a place of a line, counted from 1
abbrev pub certificate_with : ℕ → ℕ → Reduct → Certificate
certificate_with line place x = record { line = line; place = place; reduct = x }

-- what a reason certifies of that answer: a reduct is a certificate, and no other reason is
abbrev pub certified_by : ℕ → ℕ → Reason → List Certificate
certified_by line place (reasons.Carried x) = certificate_with line place x ∷ []
certified_by line place _ = []

-- the same of what is told of the answer at a place, counted from 0
abbrev pub certified : ℕ → ℕ → Option Reason → List Certificate
certified line answer (Some reason) = certified_by line (answer + 1) reason
certified line answer _ = []

abbrev pub certified_of : ℕ → Told → List Certificate
certified_of line told = certified line told.answer told.reason

-- of a kept line, all that is told of its answers
abbrev pub certified_over : LineFound → KeptLine → List Certificate
certified_over f x = flat_map (certified_of x.block.line) f.told

abbrev pub certificates_at : Ground → LineFound → List Certificate
certificates_at g f = option_map_or (certified_over f) (slice_get g.kept f.place) []

abbrev pub certificates_in : Ground → List LineFound → List Certificate
certificates_in g fs = flat_map (certificates_at g) fs

abbrev pub certificates_page : Ground → List LineFound → List ℕ
certificates_page g fs = certificates_text g.table (certificates_in g fs)
