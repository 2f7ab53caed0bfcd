-- The functions of lines as plain text.
use Rattle.std.specs.Prelude.{ℕ, List, [], ◌∷◌, ◌++◌, slice_get}
use Rattle.std.specs.List.{flat_map}
use Rattle.std.specs.Option.{option_map_or}
use Rattle.ror_table.specs.Table.{DecisionTable}
use Rattle.ror_session.specs.declared.session.Session.{Session}
use Rattle.ror_proof.specs.declared.answer.Answer.{Answer}
use Rattle.ror_report.specs.Text.{answers_of}
use Rattle.ror_bench.specs.declared.kept.KeptLine.{KeptLine}
use Rattle.ror_show_kit.specs.Heads.{line_text, statements_text}
use Rattle.ror_show_ground.specs.Grounds.{Ground}
use Rattle.ror_show_ground.specs.Lines.{desk_at, stood_numbers}
use Rattle.ror_show_find_proofs.specs.declared.findings.FunctionFound.{FunctionFound}
use Rattle.ror_show_find_proofs.specs.declared.findings.FunctionsFound.{FunctionsFound}
use Rattle.ror_show_text_functions.specs.Text.{functions_of}

-- the line and its desk
abbrev pub first_line : Session → KeptLine → List ℕ
first_line s x = line_text x.block.line (desk_at s x) ++ 10 ∷ []

-- below it what stood
unfoldable pub stood_line : KeptLine → List ℕ
stood_line x = statements_text (stood_numbers x)

unfoldable pub head_text : Session → KeptLine → List ℕ
head_text s x = first_line s x ++ stood_line x

-- an empty line behind the functions
abbrev pub shown_text : DecisionTable → List Answer → List FunctionFound → List ℕ
shown_text t xs fs = functions_of t xs fs ++ 10 ∷ []

abbrev pub section_over : Ground → List FunctionFound → KeptLine → List ℕ
section_over g fs x = head_text g.session x ++ shown_text g.table (answers_of x.block.body) fs

-- those of the kept line at a place
abbrev pub section_text : Ground → FunctionsFound → List ℕ
section_text g f = option_map_or (section_over g f.functions) (slice_get g.kept f.place) []

-- the functions of all lines, one after the other
abbrev pub functions_page : Ground → List FunctionsFound → List ℕ
functions_page g fs = flat_map (section_text g) fs
