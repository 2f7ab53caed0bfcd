-- What is read alike of a category, an alternative and a criterion: its id, and whether it is kept.
use Rattle.std.specs.Prelude.{ℕ, ◌||◌, Bool, true, false, List, codes, Option, Some, None, Result, Ok, Err, if◌then◌else◌}
use Rattle.std.specs.Str.{bytes_eq}
use Rattle.ror_text.specs.Ids.{is_id}
use Rattle.ror_text.specs.Reading.{◌>>=◌, refuse, need}
use Rattle.ror_table.specs.declared.fault.Kind.TheVariants as unsupported
use Rattle.ror_table.specs.declared.fault.TableFault.{TableFault}
use Rattle.ror_table.specs.declared.fault.TableKind.TheVariants.{BadLine, RepeatedId, UnknownId, Unsupported}
use Rattle.ror_table.specs.Plain.{at_line}
use Rattle.ror_elements.specs.Tree.{Tree}
use Rattle.ror_xmcda.specs.declared.roster.Roster.{Roster}
use Rattle.ror_xmcda.specs.Nodes.{id_of, text_of, line_of, first_named}
use Rattle.ror_xmcda.specs.Roster.{is_listed, standing}

abbrev pub valid : Option (List ℕ) → Option (List ℕ)
valid None = None
valid (Some id) = if is_id id then Some id else None

-- an id that is not listed yet
unfoldable pub new_id : Roster → Tree → Result (List ℕ) TableFault
new_id roster t = do
  id ← need (at_line (line_of t) (Unsupported unsupported.Id)) (valid (id_of t))
  _ ← refuse (at_line (line_of t) RepeatedId) (is_listed roster id)
  Ok id

-- `true` or `1`, `false` or `0`
unfoldable pub truth_of : List ℕ → Option Bool
truth_of text =
    if bytes_eq text (codes "true") || bytes_eq text (codes "1") then Some true
    else (if bytes_eq text (codes "false") || bytes_eq text (codes "0") then Some false else None)

abbrev pub truth_at : Option Tree → Result Bool TableFault
truth_at None = Ok true
truth_at (Some t) = need (at_line (line_of t) BadLine) (truth_of (text_of t))

-- what its first `active` says; without one it is kept
unfoldable pub is_active : Tree → Result Bool TableFault
is_active t = truth_at (first_named (codes "active") t)

-- what the text of an element names
unfoldable pub standing_at : Roster → Tree → Result (Option ℕ) TableFault
standing_at roster t = need (at_line (line_of t) UnknownId) (standing roster (text_of t))

-- the same of an element's first child of a name, which has to be there
abbrev pub standing_in : Roster → Tree → Option Tree → Result (Option ℕ) TableFault
standing_in roster owner None = Err (at_line (line_of owner) UnknownId)
standing_in roster owner (Some t) = standing_at roster t
