-- What is known of a file that is read.
use Rattle.std.proofs.Common.{◌≡◌, Result, Ok, Err, subst}
use Rattle.std.specs.Prelude.{IfOk, IfSome}
use Rattle.ror_text.proofs.ReadingLemmas.{keeps, gives_exit}
use Rattle.ror_table.specs.declared.limits.TheConstants.{MOST_ALTERNATIVES}
use Rattle.ror_table.specs.declared.fault.TableError.{TableError}
use Rattle.ror_table.specs.Plain.{table_fault}
use Rattle.ror_xmcda.specs.declared.categories.Categories.{Categories}
use Rattle.ror_xmcda.specs.declared.roster.Roster.{Roster}
use Rattle.ror_table.specs.declared.fault.TableFault.{TableFault}
use Rattle.ror_elements.specs.Tree.{Tree}
use Rattle.ror_xmcda.specs.declared.content.Listed.{Listed}
use Rattle.ror_xmcda.specs.Roster.{AreIds}
use Rattle.ror_xmcda.specs.Categories.{AreRanked, categories_of}
use Rattle.ror_xmcda.specs.Alternatives.{alternatives_of}
use Rattle.ror_xmcda.specs.Criteria.{AreCriteria, criteria_of}
use Rattle.ror_xmcda.specs.Content.{listed_of}
use Rattle.ror_xmcda.proofs.CategoryLemmas.{ranked_from}
use Rattle.ror_xmcda.proofs.IdLemmas.{alternatives_are, criteria_are}

-- what a file lists may be a table's
pub record AreListed (l : Listed) : Type 0 where
  pub ranked : AreRanked l.categories
  pub alternatives : AreIds MOST_ALTERNATIVES l.alternatives.kept
  pub criteria : AreCriteria l.criteria

listed_are : (root : Tree) → IfOk (listed_of root) AreListed
unfolding listed_of
listed_are root =
    keeps AreListed (categories_of root) _ (λ categories e.
    keeps AreListed (alternatives_of root) _ (λ alternatives f.
    keeps AreListed (criteria_of root) _ (λ criteria g. record { ranked = ranked_from root categories e; alternatives = alternatives_are root alternatives f; criteria = criteria_are root criteria g })))

pub listed_in : (root : Tree) (l : Listed) → listed_of root ≡ Ok l → AreListed l
listed_in root l e = subst (λ (r : Result Listed TableFault). IfOk r AreListed) e (listed_are root)

-- ---- a fault of a pass, after passes that gave something

pub criteria_exit : (root : Tree) (categories : Categories) (alternatives : Roster) (e : TableError) → categories_of root ≡ Ok categories → alternatives_of root ≡ Ok alternatives
    → IfSome (table_fault e) (λ g. criteria_of root ≡ Err g) → IfSome (table_fault e) (λ g. listed_of root ≡ Err g)
unfolding listed_of
criteria_exit root categories alternatives e p q h = rw (p, q) (gives_exit table_fault e (criteria_of root) _ h)
