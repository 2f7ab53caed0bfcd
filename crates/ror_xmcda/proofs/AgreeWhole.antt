-- The fault that is given of a document is the first that it has.
use Rattle.std.proofs.Common.{◌≡◌, ℕ, ◌≤◌, Bool, true, List, [], ◌∷◌, ◌++◌, length, map, Some, Result, Ok, Err, refl, sym, ap, ◌∙◌, subst, append_assoc}
use Rattle.std.specs.Prelude.{◌↔◌, nat_lt, filter, slice_get}
use Rattle.std.specs.List.{AllZip, flat_map}
use Rattle.std.proofs.lemmas.Bool.{le-ltb}
use Rattle.ror_text.specs.Reading.{◌>>=◌}
use Rattle.ror_text.specs.declared.lines.TheConstants.{MOST_TEXT_BYTES}
use Rattle.ror_statement.specs.declared.row_number.TheConstants.{MOST_STATEMENTS, MOST_ROWS}
use Rattle.ror_statement.specs.declared.statement.Statement.{Statement}
use Rattle.ror_statement.specs.RowNumbers.{row_count}
use Rattle.ror_table.specs.declared.fault.TableFault.{TableFault}
use Rattle.ror_table.specs.declared.fault.TableKind.TheVariants.{TooMany}
use Rattle.ror_table.specs.declared.fault.What.TheVariants as whats
use Rattle.ror_table.specs.Plain.{at_line}
use Rattle.ror_table.specs.Table.{Alternative, DecisionTable, alternative_ids}
use Rattle.ror_value.specs.declared.input.Input.{Input}
use Rattle.ror_elements.specs.Elements.{elements_of}
use Rattle.ror_elements.specs.Tree.{Tree}
use Rattle.ror_xmcda.specs.declared.categories.Categories.{Categories}
use Rattle.ror_xmcda.specs.declared.content.Listed.{Listed}
use Rattle.ror_xmcda.specs.declared.roster.Roster.{Roster}
use Rattle.ror_xmcda.specs.declared.stated.Stated.{Stated}
use Rattle.ror_xmcda.specs.Nodes.{id_of, line_of, first_of}
use Rattle.ror_xmcda.specs.Comparisons.{pair, comparisons_of}
use Rattle.ror_xmcda.specs.Affectations.{affectation, affectations_of}
use Rattle.ror_xmcda.specs.Content.{listed_of, table_in, opening_in, content}
use Rattle.ror_xmcda.specs.Input.{is_xmcda, xmcda_input, input_of}
use Rattle.ror_xmcda.specs.Meaning.{active, listed_categories, listed_alternatives, pairs, pair_says, affectations, affectation_says}
use Rattle.ror_xmcda.specs.Faults.{fault_if, more_faults, all_in_order, listed_faults, all_performance_faults, said_alternative, said_table, table_faults, pair_faults, affectation_faults, said_lines, said_statements, opening_faults, faults_of}
use Rattle.ror_xmcda.proofs.MeaningLemmas.{IsRosterOf}
use Rattle.ror_xmcda.proofs.MeaningListing.{AreCategories}
use Rattle.ror_xmcda.proofs.MeaningOpening.{pair_is, comparisons_say, affectation_is, affectations_say}
use Rattle.ror_xmcda.proofs.MeaningWhole.{IsListed, listed_is}
use Rattle.ror_xmcda.proofs.AgreeLemmas.{Agrees, agrees_bind, agrees_last, agrees_four, agreed_err}
use Rattle.ror_xmcda.proofs.AgreeListing.{listed_agrees}
use Rattle.ror_xmcda.proofs.AgreeMade.{id_said, table_in_agrees}
use Rattle.ror_xmcda.proofs.AgreeOpening.{comparisons_agree, affectations_agree, pair_stated, affectation_stated, all_lines, opening_agrees}

-- ---- the statements of the table that is said

ids_said : (root : Tree) (ts : List Tree) (ids : List (List ℕ)) → AllZip (λ t id. id_of t ≡ Some id) ts ids → map (λ (a : Alternative). a.id) (map (said_alternative root) ts) ≡ ids
ids_said root [] [] h = refl
ids_said root [] (id ∷ ids) h = absurd h
ids_said root (t ∷ ts) [] h = absurd h
ids_said root (t ∷ ts) (id ∷ ids) h = rw (id_said t id h.0, ids_said root ts ids h.1) refl

comparison_lines : (root : Tree) (r : Roster) (table : DecisionTable) (stated : List Stated) → IsRosterOf (listed_alternatives root) r → alternative_ids table ≡ r.kept → comparisons_of r [] root ≡ Ok stated
    → map (λ (s : Stated). s.line) stated ≡ flat_map (λ t. map (λ s. line_of t) (pair_says table t)) (pairs root)
unfolding comparisons_of
comparison_lines root r table stated are ids e =
    all_lines (pair r) (pair_says table) (λ before t next f. pair_is (listed_alternatives root) r table before t next are ids f) (λ before t next f. pair_stated r before t next f) [] (pairs root) stated e

affectation_lines : (best_first : Bool) (root : Tree) (r : Roster) (c : Categories) (table : DecisionTable) (compared stated : List Stated) → IsRosterOf (listed_alternatives root) r → AreCategories (listed_categories root) c → alternative_ids table ≡ r.kept → affectations_of best_first r c compared root ≡ Ok stated
    → map (λ (s : Stated). s.line) stated ≡ map (λ (s : Stated). s.line) compared ++ flat_map (λ t. map (λ s. line_of t) (affectation_says best_first root table t)) (affectations root)
unfolding affectations_of
affectation_lines best_first root r c table compared stated are also ids e =
    all_lines (affectation best_first r c) (affectation_says best_first root table) (λ before t next f. affectation_is best_first root (listed_alternatives root) r c table before t next are also ids f) (λ before t next f. affectation_stated best_first r c before t next f) compared (affectations root) stated e

opening_in_agrees : (best_first : Bool) (root : Tree) (l : Listed) → IsListed root l → Agrees (opening_in best_first l root) (opening_faults best_first root)
unfolding opening_in
opening_in_agrees best_first root l listed =
    let ids : alternative_ids (said_table root) ≡ l.alternatives.kept = ids_said root (filter active (listed_alternatives root)) l.alternatives.kept listed.alternatives.kept in
    agrees_four (opening_in best_first l root) (all_in_order (pair_faults root) (pairs root)) (all_in_order (affectation_faults root) (affectations root)) (more_faults (slice_get (said_lines best_first root) MOST_STATEMENTS)) (fault_if (at_line 0 (TooMany whats.Rows)) (nat_lt MOST_ROWS (row_count (said_statements best_first root))))
    (agrees_bind (comparisons_of l.alternatives [] root) _ (all_in_order (pair_faults root) (pairs root)) _ (comparisons_agree root l.alternatives listed.alternatives) (λ compared e.
    agrees_bind (affectations_of best_first l.alternatives l.categories compared root) _ (all_in_order (affectation_faults root) (affectations root)) _ (affectations_agree best_first root l.alternatives l.categories compared listed.alternatives listed.categories) (λ stated f.
    let first = comparisons_say (listed_alternatives root) l.alternatives (said_table root) root compared listed.alternatives ids e in
    let all = affectations_say best_first root (listed_alternatives root) l.alternatives l.categories (said_table root) compared stated listed.alternatives listed.categories ids f in
    let first_lines = comparison_lines root l.alternatives (said_table root) compared listed.alternatives ids e in
    let lines = affectation_lines best_first root l.alternatives l.categories (said_table root) compared stated listed.alternatives listed.categories ids f in
    opening_agrees stated (said_lines best_first root) (said_statements best_first root)
    (lines ∙ ap (λ (xs : List ℕ). xs ++ flat_map (λ t. map (λ s. line_of t) (affectation_says best_first root (said_table root) t)) (affectations root)) first_lines)
    (all ∙ ap (λ (xs : List Statement). xs ++ flat_map (affectation_says best_first root (said_table root)) (affectations root)) first))))

-- ---- the whole

content_agrees : (best_first : Bool) (root : Tree) → Agrees (content best_first root) (faults_of best_first root)
unfolding content
content_agrees best_first root =
    agrees_four (content best_first root) (listed_faults root) (all_performance_faults root) (table_faults root) (opening_faults best_first root)
    (agrees_bind (listed_of root) _ (listed_faults root) (all_performance_faults root ++ (table_faults root ++ opening_faults best_first root)) (listed_agrees root) (λ l e.
    let listed = listed_is root l e in
    subst (λ (xs : List TableFault). Agrees {A = Input} (table_in l root >>= λ table. opening_in best_first l root >>= λ opening. Ok (record { table = table; opening = opening })) xs) (append_assoc (all_performance_faults root) (table_faults root) (opening_faults best_first root))
    (agrees_bind (table_in l root) _ (all_performance_faults root ++ table_faults root) (opening_faults best_first root) (table_in_agrees root l listed) (λ t f.
    agrees_last (opening_in best_first l root) _ (opening_faults best_first root) (opening_in_agrees best_first root l listed)))))

pub first_given : (best_first : Bool) (root : Tree) (fault : TableFault) → (content best_first root ≡ Err fault) ↔ (first_of (faults_of best_first root) ≡ Some fault)
first_given best_first root fault = (
  λ e. subst (λ (r : Result Input TableFault). Agrees r (faults_of best_first root)) e (content_agrees best_first root),
  λ e. agreed_err (content best_first root) (faults_of best_first root) fault (content_agrees best_first root) e,
)

pub none_read : (best_first : Bool) (root : Tree) → (faults_of best_first root ≡ []) ↔ ((i : Input) × (content best_first root ≡ Ok i))
none_read best_first root = (
  λ none. by (content best_first root) (subst (λ (xs : List TableFault). Agrees (content best_first root) xs) none (content_agrees best_first root)),
  λ read. subst (λ (r : Result Input TableFault). Agrees r (faults_of best_first root)) read.1 (content_agrees best_first root),
)
  where
    by : (r : Result Input TableFault) → Agrees r [] → (i : Input) × (r ≡ Ok i)
    by (Ok i) h = (i, refl)
    by (Err fault) h = absurd cc

-- what a file's elements are read as
file_content : (bytes : List ℕ) (best_first : Bool) (root : Tree) → is_xmcda bytes ≡ true → length bytes ≤ MOST_TEXT_BYTES → elements_of bytes ≡ Ok root → input_of bytes best_first ≡ content best_first root
unfolding input_of xmcda_input
file_content bytes best_first root xmcda short text = rw (le-ltb MOST_TEXT_BYTES (length bytes) short, xmcda, text) refl

pub first_of_file : (bytes : List ℕ) (best_first : Bool) (root : Tree) (fault : TableFault) → is_xmcda bytes ≡ true → length bytes ≤ MOST_TEXT_BYTES → elements_of bytes ≡ Ok root → (input_of bytes best_first ≡ Err fault) ↔ (first_of (faults_of best_first root) ≡ Some fault)
first_of_file bytes best_first root fault xmcda short text =
    let same = file_content bytes best_first root xmcda short text in
    (λ e. (first_given best_first root fault).0 (sym same ∙ e), λ e. same ∙ (first_given best_first root fault).1 e)
