-- The alternatives.
use Rattle.std.specs.Prelude.{ℕ, List, [], ◌∷◌, length, codes, Result, Ok, if◌then◌else◌, nat_le}
use Rattle.ror_text.specs.Reading.{◌>>=◌, refuse, read_all}
use Rattle.ror_table.specs.declared.limits.TheConstants.{MOST_ALTERNATIVES}
use Rattle.ror_table.specs.declared.fault.What.TheVariants as whats
use Rattle.ror_table.specs.declared.fault.TableFault.{TableFault}
use Rattle.ror_table.specs.declared.fault.TableKind.TheVariants.{TooMany}
use Rattle.ror_table.specs.Plain.{at_line}
use Rattle.ror_elements.specs.Tree.{Tree}
use Rattle.ror_xmcda.specs.declared.roster.Roster.{Roster}
use Rattle.ror_xmcda.specs.Nodes.{line_of, at_path}
use Rattle.ror_xmcda.specs.Roster.{nothing_listed, with_kept, with_left_out}
use Rattle.ror_xmcda.specs.Listing.{new_id, is_active}

abbrev pub kept_alternative : Roster → List ℕ → Tree → Result Roster TableFault
kept_alternative roster id t = do
  _ ← refuse (at_line (line_of t) (TooMany whats.Alternatives))
      (nat_le MOST_ALTERNATIVES (length roster.kept))
  Ok (with_kept roster id)

unfoldable pub alternative : Roster → Tree → Result Roster TableFault
alternative roster t = do
  id ← new_id roster t
  active ← is_active t
  if active then kept_alternative roster id t else Ok (with_left_out roster id)

unfoldable pub alternatives_of : Tree → Result Roster TableFault
alternatives_of root =
    read_all alternative nothing_listed (at_path (codes "alternatives" ∷ codes "alternative" ∷ []) root)
