-- What an XMCDA file says, told of its whole tree. Nothing here is read in passes, and there are no faults: `IsContent` is
-- a relation between a tree and an input, and a law says that what is read of a file is in it.
use Rattle.std.specs.Prelude.{◌≡◌, ◌≢◌, ◌+◌, ℕ, ℤ, pos, Bool, true, false, ◌||◌, List, [], ◌∷◌, ◌++◌, length, min, max, codes, filter, find, count_by, Option, Some, None, is_some, unwrap_or, option_map, option_and_then, Ok, AllPairs, if◌then◌else◌}
use Rattle.std.specs.List.{flat_map, list_any, AllByRecursion, AllZip}
use Rattle.std.specs.Str.{bytes_eq}
use Rattle.ror_text.specs.Ids.{IsId}
use Rattle.ror_text.specs.Numbers.{read_performance}
use Rattle.ror_statement.specs.declared.statement.Statement.{Statement}
use Rattle.ror_statement.specs.declared.statement.Statement.TheVariants.{Prefer, Class}
use Rattle.ror_table.specs.declared.amount.Amount.{Amount}
use Rattle.ror_table.specs.declared.direction.Direction.{Direction}
use Rattle.ror_table.specs.declared.direction.Direction.TheVariants.{Max}
use Rattle.ror_table.specs.Plain.{direction_of}
use Rattle.ror_table.specs.Table.{Criterion, Alternative, DecisionTable, alternative_named}
use Rattle.ror_value.specs.declared.input.Input.{Input}
use Rattle.ror_elements.specs.Elements.{elements_of}
use Rattle.ror_elements.specs.Tree.{Tree}
use Rattle.ror_xmcda.specs.Nodes.{id_of, text_of, is_named, inside, named, first_named, at_path, first_of}
use Rattle.ror_xmcda.specs.Listing.{truth_of}
use Rattle.ror_xmcda.specs.Categories.{comes_before}
use Rattle.ror_xmcda.specs.Affectations.{is_set}
use Rattle.ror_xmcda.specs.Ends.{is_either}
use Rattle.ror_xmcda.specs.Content.{content}
use Rattle.ror_xmcda.specs.Input.{is_xmcda, input_of}
use Rattle.ror_xmcda.specs.Numbers.{number_of}
use Rattle.ror_xmcda.specs.Performances.{first_inside}

-- ---- what is listed, and what of it is active

-- the text of an element's first child of a name
abbrev pub child_text : List ℕ → Tree → Option (List ℕ)
child_text name t = option_map text_of (first_named name t)

abbrev pub says_yes : Option (List ℕ) → Bool
says_yes None = true
says_yes (Some text) = bytes_eq text (codes "true") || bytes_eq text (codes "1")

-- an element is active if its first `active` is `true` or `1`, or if it has none
unfoldable pub active : Tree → Bool
active t = says_yes (child_text (codes "active") t)

abbrev pub listed_categories : Tree → List Tree
listed_categories root = at_path (codes "categories" ∷ codes "category" ∷ []) root

abbrev pub listed_alternatives : Tree → List Tree
listed_alternatives root = at_path (codes "alternatives" ∷ codes "alternative" ∷ []) root

abbrev pub listed_criteria : Tree → List Tree
listed_criteria root = at_path (codes "criteria" ∷ codes "criterion" ∷ []) root

abbrev pub is_text : List ℕ → Option (List ℕ) → Bool
is_text id None = false
is_text id (Some text) = bytes_eq text id

abbrev pub HasId : Option (List ℕ) → Type 0
HasId None = ⊥
HasId (Some id) = IsId id

abbrev pub SaysWhether : Option (List ℕ) → Type 0
SaysWhether None = Unit {0}
SaysWhether (Some text) = is_some (truth_of text) ≡ true

-- an element has an id, and its first `active`, if it has one, is `true`, `1`, `false` or `0`
pub record IsEntry (t : Tree) : Type 0 where
  pub id : HasId (id_of t)
  pub active : SaysWhether (child_text (codes "active") t)

-- all are, and no two of them have the same id, active or not
pub record AreEntries (ts : List Tree) : Type 0 where
  pub each : AllByRecursion IsEntry ts
  pub once : AllPairs (λ s t. id_of s ≢ id_of t) ts

-- a text is the id of one of the elements
abbrev pub is_id_of : List Tree → Option (List ℕ) → Bool
is_id_of ts None = false
is_id_of ts (Some text) = list_any (λ t. is_text text (id_of t)) ts

-- ---- criteria and alternatives

-- a direction is what the element says; without one greater is better
abbrev pub IsDirection : Option Tree → Direction → Type 0
IsDirection None direction = direction ≡ Max
IsDirection (Some t) direction = direction_of (text_of t) ≡ Some direction

-- no scale of a criterion is qualitative
abbrev pub IsQuantitative : Tree → Type 0
IsQuantitative t = at_path (codes "scale" ∷ codes "qualitative" ∷ []) t ≡ []

-- a criterion has the element's id, and the direction of its first `preferenceDirection`, and is never linear
pub record IsCriterion (t : Tree) (criterion : Criterion) : Type 0 where
  pub id : id_of t ≡ Some criterion.id
  pub direction : IsDirection
      (first_of (at_path (codes "scale" ∷ codes "quantitative" ∷ codes "preferenceDirection" ∷ []) t))
      criterion.direction
  pub stepwise : criterion.linear ≡ false

abbrev pub IsAlternative : Tree → Alternative → Type 0
IsAlternative t alternative = id_of t ≡ Some alternative.id

-- ---- performances

-- an element's first child of a name is this id
abbrev pub names : List ℕ → List ℕ → Tree → Bool
names name id t = is_text id (child_text name t)

abbrev pub performance_groups : Tree → List Tree
performance_groups root = at_path (codes "performanceTable" ∷ codes "alternativePerformances" ∷ []) root

-- a group names a listed alternative, and each performance in it a listed criterion, active or not
pub record IsKnownGroup (root group : Tree) : Type 0 where
  pub alternative : is_id_of (listed_alternatives root) (child_text (codes "alternativeID") group) ≡ true
  pub criteria : AllByRecursion
      (λ t. is_id_of (listed_criteria root) (child_text (codes "criterionID") t) ≡ true)
      (named (codes "performance") group)

-- the elements of some groups that are performances of an alternative on a criterion, by their ids
abbrev pub performances_in : List ℕ → List ℕ → List Tree → List Tree
performances_in alternative criterion groups =
    flat_map (λ group. filter (names (codes "criterionID") criterion) (named (codes "performance") group))
    (filter (names (codes "alternativeID") alternative) groups)

-- the same of all groups
unfoldable pub performances_of : Tree → List ℕ → List ℕ → List Tree
performances_of root alternative criterion = performances_in alternative criterion (performance_groups root)

-- what stands first in an element's first `value` is this number
pub record HasNumber (t : Tree) (p : Amount) : Type 0 where
  pub value : Tree
  pub first : first_inside (first_named (codes "value") t) ≡ Some value
  pub number : number_of value ≡ Ok p

-- there is exactly one element, and its number is this
pub record IsPerformance (root : Tree) (alternative criterion : List ℕ) (p : Amount) : Type 0 where
  pub element : Tree
  pub only : performances_of root alternative criterion ≡ element ∷ []
  pub number : HasNumber element p

-- an alternative's performances are those in the file, a criterion each
abbrev pub AreItsPerformances : Tree → List Criterion → Alternative → Type 0
AreItsPerformances root criteria alternative =
    AllZip (λ criterion p. IsPerformance root alternative.id criterion.id p) criteria alternative.performances

-- ---- classes

abbrev pub active_categories : Tree → List Tree
active_categories root = filter active (listed_categories root)

-- the number of a category's first `rank/integer`
abbrev pub rank_said : Tree → Option ℤ
rank_said t =
    option_and_then (λ integer. read_performance (text_of integer)) (first_of (at_path (codes "rank" ∷ codes "integer" ∷ []) t))

-- the same, where there is one
unfoldable pub rank_in : Tree → ℤ
rank_in t = unwrap_or (rank_said t) (pos 0)

-- each has a rank, and no two have the same
pub record AreRanked (ts : List Tree) : Type 0 where
  pub each : AllByRecursion (λ t. is_some (rank_said t) ≡ true) ts
  pub apart : AllPairs (λ s t. rank_in s ≢ rank_in t) ts

-- a category's class, from 1: one more than there are active categories that are worse
unfoldable pub category_class : Bool → Tree → Tree → ℕ
category_class best_first root t =
    1 + count_by (λ other. comes_before best_first (rank_in other) (rank_in t)) (active_categories root)

-- the class of the active category that has an id, if there is one
unfoldable pub class_named : Bool → Tree → List ℕ → Option ℕ
class_named best_first root id =
    option_map (category_class best_first root) (find (λ t. is_text id (id_of t)) (active_categories root))

-- ---- comparisons

abbrev pub pairs : Tree → List Tree
pairs root = at_path (codes "alternativesComparisons" ∷ codes "pairs" ∷ codes "pair" ∷ []) root

-- the place of the alternative that an element's first `alternativeID` names, if it is active
unfoldable pub alternative_in : DecisionTable → Tree → Option ℕ
alternative_in table t = option_and_then (alternative_named table) (child_text (codes "alternativeID") t)

-- the same of a pair's first child of a name
unfoldable pub side_of : DecisionTable → List ℕ → Tree → Option ℕ
side_of table name t = option_and_then (alternative_in table) (first_named name t)

-- a side names a listed alternative, active or not, and holds nothing else
pub record IsKnownSide (root : Tree) (o : Option Tree) : Type 0 where
  pub side : Tree
  pub there : o ≡ Some side
  pub alternative : is_id_of (listed_alternatives root) (child_text (codes "alternativeID") side) ≡ true
  pub alone : AllByRecursion (λ t. is_named (codes "alternativeID") t ≡ true) (inside side)

pub record IsKnownPair (root t : Tree) : Type 0 where
  pub initial : IsKnownSide root (first_named (codes "initial") t)
  pub terminal : IsKnownSide root (first_named (codes "terminal") t)

abbrev pub preferred : Option ℕ → Option ℕ → List Statement
preferred (Some a) (Some b) = Prefer a b ∷ []
preferred (Some a) None = []
preferred None b = []

-- the initial alternative of a pair is preferred to the terminal one; nothing, where one of them is not active
abbrev pub pair_says : DecisionTable → Tree → List Statement
pair_says table t = preferred (side_of table (codes "initial") t) (side_of table (codes "terminal") t)

-- ---- assignments

abbrev pub affectations : Tree → List Tree
affectations root = at_path (codes "alternativesAffectations" ∷ codes "alternativeAffectation" ∷ []) root

-- the id of a bound's category: the text of its first `categoryID`, or its own
abbrev pub bound_text : Tree → List ℕ
bound_text t = text_of (unwrap_or (first_named (codes "categoryID") t) t)

-- the id of the category at one end of what is assigned: a `categoryID` is both of its ends
abbrev pub end_text : List ℕ → Tree → Option (List ℕ)
end_text name t =
    if is_named (codes "categoryID") t then Some (text_of t) else option_map bound_text (first_named name t)

-- the same of an assignment, by its first `categoryID` or `categoriesInterval`
abbrev pub assigned_text : List ℕ → Tree → Option (List ℕ)
assigned_text name t =
    option_and_then (end_text name) (find (is_either (codes "categoryID") (codes "categoriesInterval")) (inside t))

-- the class at one end of an assignment, if that category is active
unfoldable pub end_class : Bool → Tree → List ℕ → Tree → Option ℕ
end_class best_first root name t = option_and_then (class_named best_first root) (assigned_text name t)

-- an assignment names a listed alternative and, at both ends, listed categories, active or not, and no sets of them
pub record IsKnownAffectation (root t : Tree) : Type 0 where
  pub alternative : is_id_of (listed_alternatives root) (child_text (codes "alternativeID") t) ≡ true
  pub lower : is_id_of (listed_categories root) (assigned_text (codes "lowerBound") t) ≡ true
  pub upper : is_id_of (listed_categories root) (assigned_text (codes "upperBound") t) ≡ true
  pub no_sets : AllByRecursion (λ part. is_set part ≡ false) (inside t)

abbrev pub assigned : Option ℕ → Option ℕ → Option ℕ → List Statement
assigned (Some a) (Some one) (Some other) = Class a (min one other) (max one other) ∷ []
assigned (Some a) (Some one) None = []
assigned (Some a) None other = []
assigned None one other = []

-- the alternative is in a class from the lesser to the greater of two; nothing, where it or a category is not active
abbrev pub affectation_says : Bool → Tree → DecisionTable → Tree → List Statement
affectation_says best_first root table t =
    assigned (alternative_in table t) (end_class best_first root (codes "lowerBound") t)
    (end_class best_first root (codes "upperBound") t)

-- ---- the whole

-- an input is what a file says
pub record IsContent (best_first : Bool) (root : Tree) (input : Input) : Type 0 where
  pub entries_of_categories : AreEntries (listed_categories root)
  pub entries_of_alternatives : AreEntries (listed_alternatives root)
  pub entries_of_criteria : AreEntries (listed_criteria root)
  pub quantitative : AllByRecursion IsQuantitative (filter active (listed_criteria root))
  pub ranked : AreRanked (active_categories root)
  pub known_performances : AllByRecursion (IsKnownGroup root) (performance_groups root)
  pub known_pairs : AllByRecursion (IsKnownPair root) (pairs root)
  pub known_affectations : AllByRecursion (IsKnownAffectation root) (affectations root)
  pub criteria : AllZip IsCriterion (filter active (listed_criteria root)) input.table.criteria
  pub alternatives : AllZip IsAlternative (filter active (listed_alternatives root)) input.table.alternatives
  pub performances : AllByRecursion (AreItsPerformances root input.table.criteria) input.table.alternatives
  pub classes : input.table.classes ≡ length (active_categories root)
  pub opening : input.opening ≡ flat_map (pair_says input.table) (pairs root)
      ++ flat_map (affectation_says best_first root input.table) (affectations root)

-- a file's bytes are the text of a tree whose content the input is
pub record IsMeant (bytes : List ℕ) (best_first : Bool) (input : Input) : Type 0 where
  pub root : Tree
  pub text : elements_of bytes ≡ Ok root
  pub content : IsContent best_first root input

-- what is read of a tree is what it says
abbrev pub ContentsAreMeant : Type 0
ContentsAreMeant = (best_first : Bool) (root : Tree) (input : Input)
    → content best_first root ≡ Ok input → IsContent best_first root input

-- and an XMCDA file that is read is the text of such a tree
abbrev pub InputsMeanTheirFiles : Type 0
InputsMeanTheirFiles = (bytes : List ℕ) (best_first : Bool) (input : Input) → is_xmcda bytes ≡ true
    → input_of bytes best_first ≡ Ok input → IsMeant bytes best_first input

-- a tree says one input, and no other
abbrev pub TreesSayOneInput : Type 0
TreesSayOneInput = (best_first : Bool) (root : Tree) (one other : Input)
    → IsContent best_first root one → IsContent best_first root other → one ≡ other
