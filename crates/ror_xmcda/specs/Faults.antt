-- The faults of a document's content, each told of one element, those before it and what the document lists, and never of what
-- was read so far: in the order in which they count, section by section, in a section by the elements' order, of an element by
-- the order of its tests.
use Rattle.std.specs.Prelude.{◌≡◌, ◌↔◌, ◌≤◌, ℕ, pos, ◌&&◌, ◌||◌, Bool, true, false, not, List, [], ◌∷◌, ◌++◌, length, map, codes, filter, Option, Some, None, is_some, unwrap_or, Result, Ok, Err, if◌then◌else◌, nat_le, nat_lt, slice_get}
use Rattle.std.specs.List.{flat_map, list_any}
use Rattle.std.specs.Ordering.{int_eq}
use Rattle.ror_text.specs.declared.lines.TheConstants.{MOST_TEXT_BYTES}
use Rattle.ror_text.specs.Ids.{is_id}
use Rattle.ror_text.specs.Numbers.{read_performance}
use Rattle.ror_statement.specs.declared.row_number.TheConstants.{MOST_STATEMENTS, MOST_ROWS}
use Rattle.ror_statement.specs.declared.statement.Statement.{Statement}
use Rattle.ror_statement.specs.RowNumbers.{row_count}
use Rattle.ror_table.specs.declared.amount.Amount.{Amount}
use Rattle.ror_table.specs.declared.direction.Direction.{Direction}
use Rattle.ror_table.specs.declared.direction.Direction.TheVariants.{Max}
use Rattle.ror_table.specs.declared.limits.TheConstants.{MOST_ALTERNATIVES, MOST_CLASSES, MOST_CRITERIA, MOST_STEPS}
use Rattle.ror_table.specs.declared.fault.Kind.TheVariants as unsupported
use Rattle.ror_table.specs.declared.fault.What.TheVariants as whats
use Rattle.ror_table.specs.declared.fault.TableFault.{TableFault}
use Rattle.ror_table.specs.declared.fault.TableKind.TheVariants.{BadLine, BadNumber, Empty, MissingPerformance, RepeatedId, RepeatedPerformance, TooMany, UnknownId, Unsupported}
use Rattle.ror_table.specs.Amounts.{whole}
use Rattle.ror_table.specs.Plain.{at_line, direction_of}
use Rattle.ror_table.specs.Table.{Criterion, Alternative, DecisionTable, columns}
use Rattle.ror_value.specs.declared.input.Input.{Input}
use Rattle.ror_elements.specs.Elements.{elements_of}
use Rattle.ror_elements.specs.Tree.{Tree}
use Rattle.ror_xmcda.specs.Nodes.{id_of, text_of, line_of, is_named, inside, named, first_named, at_path, first_of}
use Rattle.ror_xmcda.specs.Listing.{truth_of}
use Rattle.ror_xmcda.specs.Numbers.{number_of}
use Rattle.ror_xmcda.specs.Performances.{first_inside}
use Rattle.ror_xmcda.specs.Ends.{Ends, ends_of, is_either}
use Rattle.ror_xmcda.specs.Affectations.{is_set, is_complete}
use Rattle.ror_xmcda.specs.Content.{content}
use Rattle.ror_xmcda.specs.Input.{is_xmcda, input_of}
use Rattle.ror_xmcda.specs.Meaning.{active, listed_categories, listed_alternatives, listed_criteria, is_id_of, rank_in, child_text, names, performance_groups, performances_in, active_categories, pairs, pair_says, affectations, affectation_says}

-- a fault, where the test is true
abbrev pub fault_if : TableFault → Bool → List TableFault
fault_if fault true = fault ∷ []
fault_if fault false = []

-- the faults of each element, told of it and of those before it
abbrev pub in_order : (List Tree → Tree → List TableFault) → List Tree → List Tree → List TableFault
in_order faults before [] = []
in_order faults before (t ∷ ts) = faults before t ++ in_order faults (before ++ t ∷ []) ts

abbrev pub all_in_order : (List Tree → Tree → List TableFault) → List Tree → List TableFault
all_in_order faults ts = in_order faults [] ts

-- ---- what is tested alike of a category, an alternative and a criterion

abbrev pub is_some_id : Option (List ℕ) → Bool
is_some_id None = false
is_some_id (Some id) = is_id id

-- its `active` is none of the four words
abbrev pub active_faults : Option Tree → List TableFault
active_faults None = []
active_faults (Some t) = fault_if (at_line (line_of t) BadLine) (not (is_some (truth_of (text_of t))))

-- it has no id, or one that an element before it has
abbrev pub entry_faults : List Tree → Tree → List TableFault
entry_faults before t =
    fault_if (at_line (line_of t) (Unsupported unsupported.Id)) (not (is_some_id (id_of t)))
    ++ fault_if (at_line (line_of t) RepeatedId) (is_id_of before (id_of t))
    ++ active_faults (first_named (codes "active") t)

-- nothing more is tested of what is left out
abbrev pub if_active : Tree → List TableFault → List TableFault
if_active t faults = if active t then faults else []

-- as many as may be are active before it
abbrev pub is_past : ℕ → List Tree → Bool
is_past most before = nat_le most (length (filter active before))

-- ---- categories

-- it has no rank, one that is no number, or that of an active category before it
abbrev pub rank_faults : List Tree → Tree → Option Tree → List TableFault
rank_faults before t None = at_line (line_of t) (Unsupported unsupported.Rank) ∷ []
rank_faults before t (Some integer) =
    fault_if (at_line (line_of integer) BadNumber) (not (is_some (read_performance (text_of integer))))
    ++ fault_if (at_line (line_of integer) BadNumber) (list_any (λ other. int_eq (rank_in t) (rank_in other)) (filter active before))

abbrev pub category_faults : List Tree → Tree → List TableFault
category_faults before t =
    entry_faults before t ++ if_active t (rank_faults before t (first_of (at_path (codes "rank" ∷ codes "integer" ∷ []) t))
    ++ fault_if (at_line (line_of t) (TooMany whats.Classes)) (is_past MOST_CLASSES before))

-- ---- alternatives

abbrev pub alternative_faults : List Tree → Tree → List TableFault
alternative_faults before t =
    entry_faults before t
    ++ if_active t (fault_if (at_line (line_of t) (TooMany whats.Alternatives)) (is_past MOST_ALTERNATIVES before))

-- ---- criteria

-- a scale of it is qualitative
abbrev pub qualitative_faults : Option Tree → List TableFault
qualitative_faults None = []
qualitative_faults (Some t) = at_line (line_of t) (Unsupported unsupported.Qualitative) ∷ []

-- its direction is neither `max` nor `min`
abbrev pub direction_faults : Option Tree → List TableFault
direction_faults None = []
direction_faults (Some t) =
    fault_if (at_line (line_of t) (Unsupported unsupported.Direction)) (not (is_some (direction_of (text_of t))))

abbrev pub criterion_faults : List Tree → Tree → List TableFault
criterion_faults before t =
    entry_faults before t ++ if_active t (fault_if (at_line (line_of t) (TooMany whats.Criteria)) (is_past MOST_CRITERIA before)
    ++ qualitative_faults (first_of (at_path (codes "scale" ∷ codes "qualitative" ∷ []) t))
    ++ direction_faults (first_of (at_path (codes "scale" ∷ codes "quantitative" ∷ codes "preferenceDirection" ∷ []) t)))

-- ---- all that is listed

-- the faults of the categories, then those of the alternatives, then those of the criteria, wherever they stand
abbrev pub listed_faults : Tree → List TableFault
listed_faults root =
    all_in_order category_faults (listed_categories root) ++ all_in_order alternative_faults (listed_alternatives root)
    ++ all_in_order criterion_faults (listed_criteria root)

-- ---- performances

-- it names nothing that is listed
abbrev pub unknown_faults : List Tree → Tree → Option Tree → List TableFault
unknown_faults listed owner None = at_line (line_of owner) UnknownId ∷ []
unknown_faults listed owner (Some t) = fault_if (at_line (line_of t) UnknownId) (not (is_id_of listed (Some (text_of t))))

abbrev pub number_faults : Result Amount TableFault → List TableFault
number_faults (Ok number) = []
number_faults (Err fault) = fault ∷ []

-- it has no value, or one that is no number
abbrev pub value_faults : Tree → Option Tree → List TableFault
value_faults t None = at_line (line_of t) MissingPerformance ∷ []
value_faults t (Some value) = number_faults (number_of value)

-- an alternative that is active, and so a criterion
abbrev pub is_active_in : List Tree → Option (List ℕ) → Bool
is_active_in listed text = is_id_of (filter active listed) text

-- an element before it, in the groups before its own or in its own, is a performance of these two
abbrev pub is_given : List Tree → List Tree → Option (List ℕ) → Option (List ℕ) → Bool
is_given groups before (Some alternative) (Some criterion) =
    list_any (λ t. true) (performances_in alternative criterion groups ++ filter (names (codes "criterionID") criterion) before)
is_given groups before (Some alternative) None = false
is_given groups before None criterion = false

-- of the alternative that its group names, on the criterion that it names
abbrev pub is_repeated : List Tree → Tree → List Tree → Tree → Bool
is_repeated groups group before t =
    is_given groups before (child_text (codes "alternativeID") group) (child_text (codes "criterionID") t)

-- both of these are active
abbrev pub counts : Tree → Tree → Tree → Bool
counts root group t =
    is_active_in (listed_alternatives root) (child_text (codes "alternativeID") group)
    && is_active_in (listed_criteria root) (child_text (codes "criterionID") t)

-- of a performance of what is left out nothing more is tested than what it names
abbrev pub performance_faults : Tree → List Tree → Tree → List Tree → Tree → List TableFault
performance_faults root groups group before t =
    unknown_faults (listed_criteria root) t (first_named (codes "criterionID") t)
    ++ (if counts root group t then value_faults t (first_inside (first_named (codes "value") t))
    ++ fault_if (at_line (line_of t) RepeatedPerformance) (is_repeated groups group before t) else [])

abbrev pub group_faults : Tree → List Tree → Tree → List TableFault
group_faults root groups group =
    unknown_faults (listed_alternatives root) group (first_named (codes "alternativeID") group)
    ++ all_in_order (performance_faults root groups group) (named (codes "performance") group)

abbrev pub all_performance_faults : Tree → List TableFault
all_performance_faults root = all_in_order (group_faults root) (performance_groups root)

-- ---- the table

-- an element's id
abbrev pub id_in : Tree → List ℕ
id_in t = unwrap_or (id_of t) []

-- there is none
abbrev pub is_none : List Tree → Bool
is_none ts = not (list_any (λ t. true) ts)

-- an active alternative has no performance on an active criterion
abbrev pub lacks_one : Tree → Bool
lacks_one root =
    list_any (λ a. list_any (λ c. is_none (performances_in (id_in a) (id_in c) (performance_groups root))) (filter active (listed_criteria root)))
    (filter active (listed_alternatives root))

abbrev pub said_direction : Option Tree → Direction
said_direction None = Max
said_direction (Some t) = unwrap_or (direction_of (text_of t)) Max

abbrev pub said_criterion : Tree → Criterion
said_criterion t = record {
  id = id_in t;
  direction =
      said_direction (first_of (at_path (codes "scale" ∷ codes "quantitative" ∷ codes "preferenceDirection" ∷ []) t));
  linear = false;
}

abbrev pub said_number : Result Amount TableFault → Amount
said_number (Ok number) = number
said_number (Err fault) = whole (pos 0)

abbrev pub number_in : Option Tree → Amount
number_in None = whole (pos 0)
number_in (Some value) = said_number (number_of value)

abbrev pub said_value : Option Tree → Amount
said_value None = whole (pos 0)
said_value (Some t) = number_in (first_inside (first_named (codes "value") t))

abbrev pub said_alternative : Tree → Tree → Alternative
said_alternative root a = record {
  id = id_in a;
  performances = map (λ c. said_value (first_of (performances_in (id_in a) (id_in c) (performance_groups root))))
      (filter active (listed_criteria root));
}

-- the table that a document says, where it has no fault so far
abbrev pub said_table : Tree → DecisionTable
said_table root = record {
  criteria = map said_criterion (filter active (listed_criteria root));
  alternatives = map (said_alternative root) (filter active (listed_alternatives root));
  classes = length (active_categories root);
}

abbrev pub table_faults : Tree → List TableFault
table_faults root =
    fault_if (at_line 0 Empty) (is_none (filter active (listed_criteria root)) || is_none (filter active (listed_alternatives root)))
    ++ fault_if (at_line 0 MissingPerformance) (lacks_one root)
    ++ fault_if (at_line 0 (TooMany whats.Steps)) (nat_lt MOST_STEPS (columns (said_table root)))

-- ---- comparisons

-- it names no listed alternative
abbrev pub no_alternative_faults : Tree → Tree → List TableFault
no_alternative_faults root t =
    fault_if (at_line (line_of t) UnknownId) (not (is_id_of (listed_alternatives root) (Some (text_of t))))

-- only the first of several is tested
abbrev pub if_first : (Tree → Bool) → List Tree → List TableFault → List TableFault
if_first p before faults = if list_any p before then [] else faults

-- a member of a side is no alternative, or the first and none that is listed
abbrev pub member_faults : Tree → List Tree → Tree → List TableFault
member_faults root before t =
    if is_named (codes "alternativeID") t then if_first (is_named (codes "alternativeID")) before (no_alternative_faults root t)
    else at_line (line_of t) (Unsupported unsupported.Member) ∷ []

-- and at last a side has none
abbrev pub side_faults : Tree → Tree → List TableFault
side_faults root t =
    all_in_order (member_faults root) (inside t)
    ++ fault_if (at_line (line_of t) UnknownId) (not (list_any (is_named (codes "alternativeID")) (inside t)))

-- those of two ends, as they stand
abbrev pub both_faults : Bool → List TableFault → List TableFault → List TableFault
both_faults false one other = one ++ other
both_faults true one other = other ++ one

abbrev pub ends_faults : Tree → (Tree → List TableFault) → Option Ends → List TableFault
ends_faults owner faults None = at_line (line_of owner) UnknownId ∷ []
ends_faults owner faults (Some ends) = both_faults ends.turned (faults ends.first) (faults ends.second)

abbrev pub pair_faults : Tree → List Tree → Tree → List TableFault
pair_faults root before t = ends_faults t (side_faults root) (ends_of (codes "initial") (codes "terminal") t)

-- ---- assignments

-- it names no listed category
abbrev pub no_category_faults : Tree → Tree → List TableFault
no_category_faults root t =
    fault_if (at_line (line_of t) UnknownId) (not (is_id_of (listed_categories root) (Some (text_of t))))

abbrev pub bound_faults : Tree → Tree → List TableFault
bound_faults root t = no_category_faults root (unwrap_or (first_named (codes "categoryID") t) t)

abbrev pub interval_faults : Tree → Tree → List TableFault
interval_faults root t = ends_faults t (bound_faults root) (ends_of (codes "lowerBound") (codes "upperBound") t)

-- a part of an assignment is a set, or the first of its kind and names what is not listed
abbrev pub part_faults : Tree → List Tree → Tree → List TableFault
part_faults root before t =
    if is_set t then at_line (line_of t) (Unsupported unsupported.Member) ∷ []
    else (if is_named (codes "alternativeID") t
    then if_first (is_named (codes "alternativeID")) before (no_alternative_faults root t)
    else (if is_named (codes "categoryID") t
    then if_first (is_either (codes "categoryID") (codes "categoriesInterval")) before (no_category_faults root t)
    else (if is_named (codes "categoriesInterval") t
    then if_first (is_either (codes "categoryID") (codes "categoriesInterval")) before (interval_faults root t)
    else [])))

-- it has no alternative or no category, nor a set in its place; else those of its parts
abbrev pub affectation_faults : Tree → List Tree → Tree → List TableFault
affectation_faults root before t =
    fault_if (at_line (line_of t) UnknownId) (not (is_complete t)) ++ all_in_order (part_faults root) (inside t)

-- ---- how many statements there are

-- the lines of the elements that state something, once for each statement
abbrev pub said_lines : Bool → Tree → List ℕ
said_lines best_first root =
    flat_map (λ t. map (λ s. line_of t) (pair_says (said_table root) t)) (pairs root)
    ++ flat_map (λ t. map (λ s. line_of t) (affectation_says best_first root (said_table root) t)) (affectations root)

abbrev pub said_statements : Bool → Tree → List Statement
said_statements best_first root =
    flat_map (pair_says (said_table root)) (pairs root)
    ++ flat_map (affectation_says best_first root (said_table root)) (affectations root)

-- there is one more than may be, and stands here
abbrev pub more_faults : Option ℕ → List TableFault
more_faults None = []
more_faults (Some line) = at_line line (TooMany whats.Statements) ∷ []

abbrev pub opening_faults : Bool → Tree → List TableFault
opening_faults best_first root =
    all_in_order (pair_faults root) (pairs root) ++ all_in_order (affectation_faults root) (affectations root)
    ++ more_faults (slice_get (said_lines best_first root) MOST_STATEMENTS)
    ++ fault_if (at_line 0 (TooMany whats.Rows)) (nat_lt MOST_ROWS (row_count (said_statements best_first root)))

-- ---- all of them

-- section by section: what is listed, performances, the table, comparisons, assignments, the number of statements
abbrev pub faults_of : Bool → Tree → List TableFault
faults_of best_first root =
    listed_faults root ++ all_performance_faults root ++ table_faults root ++ opening_faults best_first root

-- the fault that is given of a tree's content is the first of them
abbrev pub FirstFaultsAreGiven : Type 0
FirstFaultsAreGiven = (best_first : Bool) (root : Tree) (fault : TableFault)
    → (content best_first root ≡ Err fault) ↔ (first_of (faults_of best_first root) ≡ Some fault)

-- and where it has none, the content is read
abbrev pub WhatHasNoFaultIsRead : Type 0
WhatHasNoFaultIsRead = (best_first : Bool) (root : Tree)
    → (faults_of best_first root ≡ []) ↔ ((input : Input) × (content best_first root ≡ Ok input))

-- the first is given too of an XMCDA file that is no longer than may be, and is the text of a tree
abbrev pub FirstFaultsOfFilesAreGiven : Type 0
FirstFaultsOfFilesAreGiven = (bytes : List ℕ) (best_first : Bool) (root : Tree) (fault : TableFault)
    → is_xmcda bytes ≡ true → length bytes ≤ MOST_TEXT_BYTES → elements_of bytes ≡ Ok root
    → (input_of bytes best_first ≡ Err fault) ↔ (first_of (faults_of best_first root) ≡ Some fault)
