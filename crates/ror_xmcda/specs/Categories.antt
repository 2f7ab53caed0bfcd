-- The categories, and the class of each.
use Rattle.std.specs.Prelude.{◌≡◌, ℕ, ◌+◌, ◌≤◌, Bool, List, [], ◌∷◌, ◌++◌, length, codes, count_by, slice_index_or, Result, Ok, if◌then◌else◌, nat_le, ℤ, pos, int_lt}
use Rattle.std.specs.Ordering.{int_eq}
use Rattle.std.specs.List.{list_any}
use Rattle.ror_text.specs.Numbers.{read_performance}
use Rattle.ror_text.specs.Reading.{◌>>=◌, refuse, need, read_all}
use Rattle.ror_table.specs.declared.limits.TheConstants.{MOST_CLASSES}
use Rattle.ror_table.specs.declared.fault.Kind.TheVariants as unsupported
use Rattle.ror_table.specs.declared.fault.What.TheVariants.{Classes}
use Rattle.ror_table.specs.declared.fault.TableFault.{TableFault}
use Rattle.ror_table.specs.declared.fault.TableKind.TheVariants.{BadNumber, TooMany, Unsupported}
use Rattle.ror_table.specs.Plain.{at_line}
use Rattle.ror_elements.specs.Tree.{Tree}
use Rattle.ror_xmcda.specs.declared.categories.Categories.{Categories}
use Rattle.ror_xmcda.specs.Nodes.{text_of, line_of, at_path, first_of}
use Rattle.ror_xmcda.specs.Roster.{nothing_listed, with_kept, with_left_out}
use Rattle.ror_xmcda.specs.Listing.{new_id, is_active}

-- a rank that no kept category before has
unfoldable pub rank_of : List ℤ → Tree → Result ℤ TableFault
rank_of ranks t = do
  integer ← need (at_line (line_of t) (Unsupported unsupported.Rank))
      (first_of (at_path (codes "rank" ∷ codes "integer" ∷ []) t))
  rank ← need (at_line (line_of integer) BadNumber) (read_performance (text_of integer))
  _ ← refuse (at_line (line_of integer) BadNumber) (list_any (int_eq rank) ranks)
  Ok rank

abbrev pub kept_category : Categories → List ℕ → Tree → Result Categories TableFault
kept_category categories id t = do
  rank ← rank_of categories.ranks t
  _ ← refuse (at_line (line_of t) (TooMany Classes)) (nat_le MOST_CLASSES (length categories.ranks))
  Ok (record { ids = with_kept categories.ids id; ranks = categories.ranks ++ rank ∷ [] })

unfoldable pub category : Categories → Tree → Result Categories TableFault
category categories t = do
  id ← new_id categories.ids t
  active ← is_active t
  if active then kept_category categories id t
      else Ok (record categories { ids = with_left_out categories.ids id })

-- each kept category has a rank, and there are no more than may be
pub record AreRanked (categories : Categories) : Type 0 where
  pub paired : length categories.ids.kept ≡ length categories.ranks
  pub few : length categories.ranks ≤ MOST_CLASSES

abbrev pub no_categories : Categories
no_categories = record { ids = nothing_listed; ranks = [] }

unfoldable pub categories_of : Tree → Result Categories TableFault
categories_of root =
    read_all category no_categories (at_path (codes "categories" ∷ codes "category" ∷ []) root)

-- a rank comes before another: it is smaller, or greater where the best comes first
abbrev pub comes_before : Bool → ℤ → ℤ → Bool
comes_before best_first rank other = if best_first then int_lt other rank else int_lt rank other

-- the class of the category that is kept at a place, from 1, the worst
unfoldable pub class_of : Bool → List ℤ → ℕ → ℕ
class_of best_first ranks k =
    1 + count_by (λ rank. comes_before best_first rank (slice_index_or ranks k (pos 0))) ranks
