-- What is read of a file is what it says.
use Rattle.std.proofs.Common.{◌≡◌, ℕ, Bool, true, List, [], ◌++◌, length, map, Result, Ok, Err, sym, ap, ◌∙◌, cond, subst}
use Rattle.std.specs.Prelude.{nat_lt, filter}
use Rattle.std.specs.List.{AllByRecursion, AllZip, flat_map}
use Rattle.std.proofs.lemmas.List.{length-map}
use Rattle.ror_text.specs.declared.lines.TheConstants.{MOST_TEXT_BYTES}
use Rattle.ror_text.specs.Reading.{refuse}
use Rattle.ror_text.proofs.ReadingLemmas.{bind_ok}
use Rattle.ror_statement.specs.declared.statement.Statement.{Statement}
use Rattle.ror_table.specs.declared.fault.TableFault.{TableFault}
use Rattle.ror_table.specs.Table.{Criterion, DecisionTable}
use Rattle.ror_value.specs.declared.input.Input.{Input}
use Rattle.ror_elements.specs.declared.element.ElementFault.{ElementFault}
use Rattle.ror_elements.specs.Elements.{elements_of}
use Rattle.ror_elements.specs.Tree.{Tree}
use Rattle.ror_xmcda.specs.declared.content.Listed.{Listed}
use Rattle.ror_xmcda.specs.Categories.{categories_of}
use Rattle.ror_xmcda.specs.Alternatives.{alternatives_of}
use Rattle.ror_xmcda.specs.Criteria.{criteria_of}
use Rattle.ror_xmcda.specs.Performances.{performances_of}
use Rattle.ror_xmcda.specs.Whole.{criteria_table}
use Rattle.ror_xmcda.specs.Comparisons.{comparisons_of}
use Rattle.ror_xmcda.specs.Affectations.{affectations_of}
use Rattle.ror_xmcda.specs.Content.{listed_of, table_in, opening_in, content}
use Rattle.ror_xmcda.specs.Input.{of_elements, is_xmcda, xmcda_input, plain_input, input_of}
use Rattle.ror_xmcda.specs.Meaning.{active, listed_categories, listed_alternatives, listed_criteria, AreEntries, IsQuantitative, IsCriterion, rank_in, active_categories, performance_groups, IsKnownGroup, pairs, IsKnownPair, pair_says, affectations, IsKnownAffectation, affectation_says, IsContent, IsMeant}
use Rattle.ror_xmcda.proofs.LawLemmas.{statements_of}
use Rattle.ror_xmcda.proofs.MeaningLemmas.{IsRosterOf}
use Rattle.ror_xmcda.proofs.MeaningListing.{AreCategories, alternatives_read, alternative_entries, criteria_listed, criteria_made, criteria_quantitative, criterion_entries, categories_read, category_entries, categories_ranked}
use Rattle.ror_xmcda.proofs.OpeningLemmas.{apart_in}
use Rattle.ror_xmcda.proofs.MeaningTable.{IsTableOf, table_meant}
use Rattle.ror_xmcda.proofs.MeaningKnown.{performances_known, pairs_known, affectations_known}
use Rattle.ror_xmcda.proofs.MeaningOpening.{comparisons_say, affectations_say}

-- what a file lists
pub record IsListed (root : Tree) (l : Listed) : Type 0 where
  pub categories : AreCategories (listed_categories root) l.categories
  pub alternatives : IsRosterOf (listed_alternatives root) l.alternatives
  pub criteria : IsRosterOf (listed_criteria root) l.criteria.ids
  pub made : AllZip IsCriterion (filter active (listed_criteria root)) (criteria_table l.criteria).criteria
  pub quantitative : AllByRecursion IsQuantitative (filter active (listed_criteria root))
  pub category_entries : AreEntries (listed_categories root)
  pub alternative_entries : AreEntries (listed_alternatives root)
  pub criterion_entries : AreEntries (listed_criteria root)

pub listed_is : (root : Tree) (l : Listed) → listed_of root ≡ Ok l → IsListed root l
unfolding listed_of
listed_is root l e =
    let a = bind_ok (categories_of root) _ l e in
    let b = bind_ok (alternatives_of root) _ l a.2 in
    let c = bind_ok (criteria_of root) _ l b.2 in
    let same : ◌≡◌ {A = Listed} (record { categories = a.0; alternatives = b.0; criteria = c.0 }) l = (let r : ◌≡◌ {A = Result Listed TableFault} (Ok (record { categories = a.0; alternatives = b.0; criteria = c.0 })) (Ok l) = c.2 in cc) in
    subst (IsListed root) same (record {
      categories = categories_read root a.0 a.1;
      alternatives = alternatives_read root b.0 b.1;
      criteria = criteria_listed root c.0 c.1;
      made = criteria_made root c.0 c.1;
      quantitative = criteria_quantitative root c.0 c.1;
      category_entries = category_entries root a.0 a.1;
      alternative_entries = alternative_entries root b.0 b.1;
      criterion_entries = criterion_entries root c.0 c.1;
    })

record IsTableIn (root : Tree) (l : Listed) (t : DecisionTable) : Type 0 where
  table : IsTableOf root (filter active (listed_alternatives root)) l.criteria l.alternatives.kept (length l.categories.ranks) t
  known : AllByRecursion (IsKnownGroup root) (performance_groups root)

table_is : (root : Tree) (l : Listed) (t : DecisionTable) → IsListed root l → table_in l root ≡ Ok t → IsTableIn root l t
unfolding table_in
table_is root l t are e =
    let g = bind_ok (performances_of l.alternatives l.criteria.ids root) _ t e in
    record {
      table = table_meant root (listed_alternatives root) (listed_criteria root) l.alternatives l.criteria g.0 (length l.categories.ranks) t are.alternatives are.criteria g.1 g.2;
      known = performances_known root l.alternatives l.criteria.ids g.0 are.alternatives are.criteria g.1;
    }

record IsOpeningIn (best_first : Bool) (root : Tree) (t : DecisionTable) (opening : List Statement) : Type 0 where
  says : opening ≡ flat_map (pair_says t) (pairs root) ++ flat_map (affectation_says best_first root t) (affectations root)
  known_pairs : AllByRecursion (IsKnownPair root) (pairs root)
  known_affectations : AllByRecursion (IsKnownAffectation root) (affectations root)

opening_is : (best_first : Bool) (root : Tree) (l : Listed) (t : DecisionTable) (opening : List Statement) → IsListed root l → map (λ a. a.id) t.alternatives ≡ l.alternatives.kept → opening_in best_first l root ≡ Ok opening → IsOpeningIn best_first root t opening
unfolding opening_in
opening_is best_first root l t opening are ids e =
    let a = bind_ok (comparisons_of l.alternatives [] root) _ opening e in
    let b = bind_ok (affectations_of best_first l.alternatives l.categories a.0 root) _ opening a.2 in
    let compared = comparisons_say (listed_alternatives root) l.alternatives t root a.0 are.alternatives ids a.1 in
    let stated = affectations_say best_first root (listed_alternatives root) l.alternatives l.categories t a.0 b.0 are.alternatives are.categories ids b.1 in
    record {
      says = statements_of b.0 opening b.2 ∙ stated ∙ ap (λ (xs : List Statement). xs ++ flat_map (affectation_says best_first root t) (affectations root)) compared;
      known_pairs = pairs_known root l.alternatives a.0 are.alternatives a.1;
      known_affectations = affectations_known best_first root l.alternatives l.categories a.0 b.0 are.alternatives are.categories b.1;
    }

pub content_meant : (best_first : Bool) (root : Tree) (i : Input) → content best_first root ≡ Ok i → IsContent best_first root i
unfolding content
content_meant best_first root i e =
    let a = bind_ok (listed_of root) _ i e in
    let b = bind_ok (table_in a.0 root) _ i a.2 in
    let c = bind_ok (opening_in best_first a.0 root) _ i b.2 in
    let same : ◌≡◌ {A = Input} (record { table = b.0; opening = c.0 }) i = (let r : ◌≡◌ {A = Result Input TableFault} (Ok (record { table = b.0; opening = c.0 })) (Ok i) = c.2 in cc) in
    let listed = listed_is root a.0 a.1 in
    let made = table_is root a.0 b.0 listed b.1 in
    let table = made.table in
    let said = opening_is best_first root a.0 b.0 c.0 listed table.ids_are c.1 in
    subst (IsContent best_first root) same (record {
      entries_of_categories = listed.category_entries;
      entries_of_alternatives = listed.alternative_entries;
      entries_of_criteria = listed.criterion_entries;
      quantitative = listed.quantitative;
      ranked = categories_ranked root a.0.categories listed.categories (apart_in root a.0 a.1);
      known_performances = made.known;
      known_pairs = said.known_pairs;
      known_affectations = said.known_affectations;
      criteria = subst (λ (cs : List Criterion). AllZip IsCriterion (filter active (listed_criteria root)) cs) (sym table.criteria) listed.made;
      alternatives = table.alternatives;
      performances = table.performances;
      classes = table.classes ∙ ap length listed.categories.ranks ∙ length-map (active_categories root) rank_in;
      opening = said.says;
    })

-- of elements that are read, the tree
pub elements_read : (r : Result Tree ElementFault) (t : Tree) → of_elements r ≡ Ok t → r ≡ Ok t
elements_read (Ok x) t e = (let q : ◌≡◌ {A = Result Tree TableFault} (Ok x) (Ok t) = e in let same : x ≡ t = cc in ap (λ (y : Tree). Ok y) same)
elements_read (Err f) t e = absurd cc

xmcda_meant : (bytes : List ℕ) (best_first : Bool) (i : Input) → xmcda_input bytes best_first ≡ Ok i → IsMeant bytes best_first i
unfolding xmcda_input
xmcda_meant bytes best_first i e =
    let a = bind_ok (of_elements (elements_of bytes)) _ i e in
    record { root = a.0; text = elements_read (elements_of bytes) a.0 a.1; content = content_meant best_first a.0 i a.2 }

pub input_meant : (bytes : List ℕ) (best_first : Bool) (i : Input) → is_xmcda bytes ≡ true → input_of bytes best_first ≡ Ok i → IsMeant bytes best_first i
unfolding input_of
input_meant bytes best_first i xmcda e =
    let a = bind_ok (refuse _ (nat_lt MOST_TEXT_BYTES (length bytes))) _ i e in
    xmcda_meant bytes best_first i (subst (λ b. cond b (xmcda_input bytes best_first) (plain_input bytes) ≡ Ok i) xmcda a.2)
