-- What the values of a line begin with.
use Rattle.std.specs.Prelude.{ℕ, List, ◌∷◌, ◌++◌, decimal}
use Rattle.ror_session.specs.declared.session.Session.{Session}
use Rattle.ror_bench.specs.declared.kept.KeptLine.{KeptLine}
use Rattle.ror_show_kit.specs.Fields.{field}
use Rattle.ror_show_ground.specs.Lines.{desk_at}

-- the number of the line, and its desk
abbrev pub line_front : Session → KeptLine → List ℕ
line_front s x = decimal x.block.line ++ 44 ∷ field (desk_at s x)
