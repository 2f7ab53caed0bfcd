-- That a file is read where it says an input within the limits.
use Rattle.std.proofs.Common.{◌≡◌, ℕ, zero, suc, ◌<◌, ◌≤◌, Bool, true, false, List, [], ◌∷◌, ◌++◌, length, map, Some, Ok, refl, sym, ap, ◌∙◌, arith, cond, subst}
use Rattle.std.specs.Prelude.{◌↔◌, nat_lt, filter, slice_get, option_map, unwrap_or}
use Rattle.std.specs.List.{AllByRecursion, AllZip, enumerate_from, flat_map}
use Rattle.std.proofs.lemmas.Bool.{le-ltb, ltb-false}
use Rattle.std.proofs.lemmas.List.{length-map}
use Rattle.ror_text.specs.declared.lines.TheConstants.{MOST_TEXT_BYTES}
use Rattle.ror_text.specs.Reading.{refuse}
use Rattle.ror_text.proofs.ReadingLemmas.{bind_ok, refuse_ok}
use Rattle.ror_statement.specs.declared.statement.Statement.{Statement}
use Rattle.ror_statement.specs.RowNumbers.{row_count}
use Rattle.ror_table.specs.declared.amount.Amount.{Amount}
use Rattle.ror_table.specs.Table.{Criterion, Alternative, DecisionTable, alternative_ids, columns, has_wide_scale}
use Rattle.ror_table.proofs.BlockLemmas.{scale-of-stepwise}
use Rattle.ror_value.specs.declared.input.Input.{Input}
use Rattle.ror_elements.specs.Elements.{elements_of}
use Rattle.ror_elements.specs.Tree.{Tree}
use Rattle.ror_xmcda.specs.declared.content.Listed.{Listed}
use Rattle.ror_xmcda.specs.Nodes.{id_of}
use Rattle.ror_xmcda.specs.Categories.{categories_of}
use Rattle.ror_xmcda.specs.Alternatives.{alternatives_of}
use Rattle.ror_xmcda.specs.Criteria.{criteria_of}
use Rattle.ror_xmcda.specs.Performances.{Given, performances_of}
use Rattle.ror_xmcda.specs.Whole.{criteria_table}
use Rattle.ror_xmcda.specs.Comparisons.{comparisons_of}
use Rattle.ror_xmcda.specs.Affectations.{affectations_of}
use Rattle.ror_xmcda.specs.Opening.{statements}
use Rattle.ror_xmcda.specs.Content.{listed_of, table_in, opening_in, content}
use Rattle.ror_xmcda.specs.Input.{of_elements, is_xmcda, xmcda_input, plain_input, input_of}
use Rattle.ror_xmcda.specs.Meaning.{active, listed_alternatives, listed_criteria, IsCriterion, IsAlternative, IsPerformance, AreItsPerformances, active_categories, affectations, affectation_says, IsContent, IsMeant}
use Rattle.ror_xmcda.specs.Readable.{IsWithinLimits}
use Rattle.ror_xmcda.proofs.InputLemmas.{content_lawful}
use Rattle.ror_xmcda.proofs.TableLemmas.{content_table}
use Rattle.ror_xmcda.proofs.WholeLemmas.{length-criteria_table}
use Rattle.ror_xmcda.proofs.MeaningTable.{IsFilled, filled_meant}
use Rattle.ror_xmcda.proofs.MeaningOpening.{comparisons_say, affectations_say}
use Rattle.ror_xmcda.proofs.MeaningOnce.{tables_same, one_content}
use Rattle.ror_xmcda.proofs.MeaningWhole.{IsListed, listed_is, content_meant, input_meant}
use Rattle.ror_xmcda.proofs.ReadableLemmas.{Reads, reads_ok, reads_bind, zip_length, zip_each}
use Rattle.ror_xmcda.proofs.ReadableListing.{SaysDirection, alternatives_reads, criteria_reads, categories_reads}
use Rattle.ror_xmcda.proofs.ReadableTable.{HaveOne, performances_read, each_given, table_reads}
use Rattle.ror_xmcda.proofs.ReadableOpening.{comparisons_read, affectations_read, opening_reads}

-- ---- what is listed

alternatives_number : (best_first : Bool) (root : Tree) (i : Input) → IsContent best_first root i → length (filter active (listed_alternatives root)) ≡ length i.table.alternatives
alternatives_number best_first root i said = zip_length IsAlternative (filter active (listed_alternatives root)) i.table.alternatives said.alternatives

criteria_number : (best_first : Bool) (root : Tree) (i : Input) → IsContent best_first root i → length (filter active (listed_criteria root)) ≡ length i.table.criteria
criteria_number best_first root i said = zip_length IsCriterion (filter active (listed_criteria root)) i.table.criteria said.criteria

listed_reads : (best_first : Bool) (root : Tree) (i : Input) → IsContent best_first root i → IsWithinLimits i → Reads (listed_of root)
unfolding listed_of
listed_reads best_first root i said within =
    let some = alternatives_number best_first root i said in
    let other = criteria_number best_first root i said in
    let classes = said.classes in
    let few = within.classes in
    let alternatives = within.alternatives in
    let criteria = within.criteria in
    reads_bind (categories_of root) _ (categories_reads root said.entries_of_categories (omega (arith, classes, few)) said.ranked) (λ c e.
    reads_bind (alternatives_of root) _ (alternatives_reads root said.entries_of_alternatives (omega (arith, some, alternatives))) (λ a f.
    reads_bind (criteria_of root) _ (criteria_reads root said.entries_of_criteria (omega (arith, other, criteria)) said.quantitative (zip_each IsCriterion SaysDirection (filter active (listed_criteria root)) i.table.criteria (λ t d h. (d.direction, h.direction)) said.criteria)) (λ d g. reads_ok _)))

-- ---- the table

-- what stands at a place beside an id
id_at : {A : Type 0} (R : Tree → A → Type 0) (name : A → List ℕ) → ((t : Tree) (x : A) → R t x → id_of t ≡ Some (name x)) → (ts : List Tree) (ids : List (List ℕ)) (xs : List A) (P : A → Type 0) → AllZip (λ t id. id_of t ≡ Some id) ts ids → AllZip R ts xs → AllByRecursion P xs
    → (k : ℕ) (id : List ℕ) → slice_get ids k ≡ Some id → (x : A) × (name x ≡ id) × P x
id_at R name named [] [] xs P h r all k id at = absurd cc
id_at R name named [] (y ∷ ids) xs P h r all k id at = absurd h
id_at R name named (t ∷ ts) [] xs P h r all k id at = absurd h
id_at R name named (t ∷ ts) (y ∷ ids) [] P h r all k id at = absurd r
id_at R name named (t ∷ ts) (y ∷ ids) (x ∷ xs) P h r all zero id at =
    let both : Some (name x) ≡ Some id = sym (named t x r.0) ∙ h.0 ∙ at in
    let same : name x ≡ id = cc in
    (x, same, all.0)
id_at R name named (t ∷ ts) (y ∷ ids) (x ∷ xs) P h r all (suc k) id at = id_at R name named ts ids xs P h.1 r.1 all.1 k id at

-- two lists beside one another, by what stands in the first
zip_in : {A B : Type 0} (R : A → B → Type 0) (xs : List A) (ys : List B) → AllZip R xs ys → AllByRecursion (λ x. (y : B) × R x y) xs
zip_in {A} {B} R xs ys h = zip_each R (λ x. (y : B) × R x y) xs ys (λ x y r. (y, r)) h

have_one : (best_first : Bool) (root : Tree) (i : Input) (l : Listed) → IsContent best_first root i → IsListed root l → HaveOne root l.alternatives l.criteria.ids
have_one best_first root i l said listed a k alternative criterion at there =
    let row = id_at IsAlternative (λ (x : Alternative). x.id) (λ t x h. h) (filter active (listed_alternatives root)) l.alternatives.kept i.table.alternatives (AreItsPerformances root i.table.criteria) listed.alternatives.kept said.alternatives said.performances a alternative at in
    let one = id_at IsCriterion (λ (c : Criterion). c.id) (λ t c h. h.id) (filter active (listed_criteria root)) l.criteria.ids.kept i.table.criteria (λ c. (p : Amount) × IsPerformance root row.0.id c.id p) listed.criteria.kept said.criteria (zip_in (λ (c : Criterion) p. IsPerformance root row.0.id c.id p) i.table.criteria row.0.performances row.2) k criterion there in
    (one.2.0, subst (λ (x : List ℕ). IsPerformance root x criterion one.2.0) row.1 (subst (λ (y : List ℕ). IsPerformance root row.0.id y one.2.0) one.1 one.2.1))

-- no criterion of a file is linear
pub linear_nowhere : (cs : List Criterion) → AllByRecursion (λ (c : Criterion). c.linear ≡ false) cs → (i : ℕ) → unwrap_or (option_map (λ (c : Criterion). c.linear) (slice_get cs i)) false ≡ false
linear_nowhere [] h i = refl
linear_nowhere (c ∷ cs) h zero = h.0
linear_nowhere (c ∷ cs) h (suc i) = linear_nowhere cs h.1 i

pub zip_second : {A B : Type 0} (R : A → B → Type 0) (P : B → Type 0) (xs : List A) (ys : List B) → ((x : A) (y : B) → R x y → P y) → AllZip R xs ys → AllByRecursion P ys
zip_second R P [] [] each h = tt
zip_second R P [] (y ∷ ys) each h = absurd h
zip_second R P (x ∷ xs) [] each h = absurd h
zip_second R P (x ∷ xs) (y ∷ ys) each h = (each x y h.0, zip_second R P xs ys each h.1)

narrow : (best_first : Bool) (root : Tree) (i : Input) → IsContent best_first root i → has_wide_scale i.table ≡ false
narrow best_first root i said = scale-of-stepwise i.table (linear_nowhere i.table.criteria (zip_second IsCriterion (λ (c : Criterion). c.linear ≡ false) (filter active (listed_criteria root)) i.table.criteria (λ t c h. h.stepwise) said.criteria))

-- the table that is filled is the one that the file says
filled_is : (best_first : Bool) (root : Tree) (i : Input) (l : Listed) (given : Given) (t : DecisionTable) → IsContent best_first root i → IsListed root l → performances_of l.alternatives l.criteria.ids root ≡ Ok given
    → IsFilled given (record (criteria_table l.criteria) { classes = length l.categories.ranks }) (enumerate_from 0 l.alternatives.kept) t → t ≡ i.table
filled_is best_first root i l given t said listed e filled =
    let meant = filled_meant root (listed_alternatives root) (listed_criteria root) l.alternatives l.criteria given (length l.categories.ranks) t listed.alternatives listed.criteria e filled in
    let classes : length l.categories.ranks ≡ length (active_categories root) = ap length listed.categories.ranks ∙ length-map (active_categories root) _ in
    tables_same root t i.table (subst (λ (cs : List Criterion). AllZip IsCriterion (filter active (listed_criteria root)) cs) (sym meant.criteria) listed.made) said.criteria meant.alternatives said.alternatives meant.performances said.performances (meant.classes ∙ classes ∙ sym said.classes)

table_in_reads : (best_first : Bool) (root : Tree) (i : Input) (l : Listed) → IsContent best_first root i → IsWithinLimits i → IsListed root l → Reads (table_in l root)
unfolding table_in
table_in_reads best_first root i l said within listed =
    let some = alternatives_number best_first root i said in
    let other = criteria_number best_first root i said in
    let kept = zip_length (λ t id. id_of t ≡ Some id) (filter active (listed_alternatives root)) l.alternatives.kept listed.alternatives.kept in
    let also = zip_length (λ t id. id_of t ≡ Some id) (filter active (listed_criteria root)) l.criteria.ids.kept listed.criteria.kept in
    let one = have_one best_first root i l said listed in
    let some_alternative = within.some_alternative in
    let some_criterion = within.some_criterion in
    reads_bind (performances_of l.alternatives l.criteria.ids root) _ (performances_read root l.alternatives l.criteria.ids listed.alternatives listed.criteria one said.known_performances) (λ given e.
    table_reads given l.criteria l.alternatives.kept (length l.categories.ranks) (omega (arith, some_criterion, other, also)) (omega (arith, some_alternative, some, kept)) (length-criteria_table l.criteria) (each_given root l.alternatives l.criteria.ids given listed.alternatives listed.criteria one e) (λ t filled.
    let same = filled_is best_first root i l given t said listed e filled in
    subst (λ (t : DecisionTable). (0 < length t.criteria) × (0 < length t.alternatives) × (columns t ≤ 2000) × (has_wide_scale t ≡ false)) (sym same) (within.some_criterion, within.some_alternative, within.steps, narrow best_first root i said)))

-- ---- the statements

ids_same : (ts : List Tree) (ids : List (List ℕ)) (xs : List Alternative) → AllZip (λ t id. id_of t ≡ Some id) ts ids → AllZip IsAlternative ts xs → map (λ a. a.id) xs ≡ ids
ids_same [] [] [] h r = refl
ids_same [] [] (x ∷ xs) h r = absurd r
ids_same [] (y ∷ ids) xs h r = absurd h
ids_same (t ∷ ts) [] xs h r = absurd h
ids_same (t ∷ ts) (y ∷ ids) [] h r = absurd r
ids_same (t ∷ ts) (y ∷ ids) (x ∷ xs) h r =
    let both : Some x.id ≡ Some y = sym r.0 ∙ h.0 in
    let same : x.id ≡ y = cc in
    rw (same, ids_same ts ids xs h.1 r.1) refl

opening_in_reads : (best_first : Bool) (root : Tree) (i : Input) (l : Listed) → IsContent best_first root i → IsWithinLimits i → IsListed root l → Reads (opening_in best_first l root)
unfolding opening_in
opening_in_reads best_first root i l said within listed =
    let ids : alternative_ids i.table ≡ l.alternatives.kept = ids_same (filter active (listed_alternatives root)) l.alternatives.kept i.table.alternatives listed.alternatives.kept said.alternatives in
    reads_bind (comparisons_of l.alternatives [] root) _ (comparisons_read root l.alternatives listed.alternatives said.known_pairs) (λ compared e.
    reads_bind (affectations_of best_first l.alternatives l.categories compared root) _ (affectations_read best_first root l.alternatives l.categories compared listed.alternatives listed.categories said.known_affectations) (λ stated f.
    let first = comparisons_say (listed_alternatives root) l.alternatives i.table root compared listed.alternatives ids e in
    let all = affectations_say best_first root (listed_alternatives root) l.alternatives l.categories i.table compared stated listed.alternatives listed.categories ids f in
    let same : statements stated ≡ i.opening = all ∙ ap (λ (xs : List Statement). xs ++ flat_map (affectation_says best_first root i.table) (affectations root)) first ∙ sym said.opening in
    opening_reads stated (subst (λ (xs : List Statement). length xs ≤ 200) (sym same) within.statements) (subst (λ (xs : List Statement). row_count xs ≤ 2000) (sym same) within.rows)))

-- ---- the whole

content_reads : (best_first : Bool) (root : Tree) (i : Input) → IsContent best_first root i → IsWithinLimits i → Reads (content best_first root)
unfolding content
content_reads best_first root i said within =
    reads_bind (listed_of root) _ (listed_reads best_first root i said within) (λ l e.
    let listed = listed_is root l e in
    reads_bind (table_in l root) _ (table_in_reads best_first root i l said within listed) (λ t f.
    reads_bind (opening_in best_first l root) _ (opening_in_reads best_first root i l said within listed) (λ opening g. reads_ok _)))

content_said : (best_first : Bool) (root : Tree) (i : Input) → IsContent best_first root i → IsWithinLimits i → content best_first root ≡ Ok i
content_said best_first root i said within =
    let read = content_reads best_first root i said within in
    let same : read.0 ≡ i = one_content best_first root read.0 i (content_meant best_first root read.0 read.1) said in
    read.1 ∙ ap (λ (x : Input). Ok x) same

content_within : (best_first : Bool) (root : Tree) (i : Input) → content best_first root ≡ Ok i → IsWithinLimits i
content_within best_first root i e =
    let table = content_table best_first root i e in
    let lawful = content_lawful best_first root i e in
    record {
      some_criterion = table.some_criterion;
      some_alternative = table.some_alternative;
      criteria = table.criteria_limit;
      alternatives = table.alternatives_limit;
      classes = table.classes_limit;
      steps = table.columns_limit;
      statements = lawful.few;
      rows = lawful.rows;
    }

pub content_read : (best_first : Bool) (root : Tree) (i : Input) → (content best_first root ≡ Ok i) ↔ (IsContent best_first root i × IsWithinLimits i)
content_read best_first root i = (λ e. (content_meant best_first root i e, content_within best_first root i e), λ h. content_said best_first root i h.0 h.1)

xmcda_within : (bytes : List ℕ) (best_first : Bool) (i : Input) → xmcda_input bytes best_first ≡ Ok i → IsWithinLimits i
unfolding xmcda_input
xmcda_within bytes best_first i e =
    let a = bind_ok (of_elements (elements_of bytes)) _ i e in
    content_within best_first a.0 i a.2

xmcda_said : (bytes : List ℕ) (best_first : Bool) (i : Input) → IsMeant bytes best_first i → IsWithinLimits i → xmcda_input bytes best_first ≡ Ok i
unfolding xmcda_input
xmcda_said bytes best_first i meant within = rw meant.text (content_said best_first meant.root i meant.content within)

-- what is read of an XMCDA file, by its length and by its elements
record IsReadWithin (bytes : List ℕ) (best_first : Bool) (i : Input) : Type 0 where
  short : length bytes ≤ MOST_TEXT_BYTES
  xmcda : xmcda_input bytes best_first ≡ Ok i

read_within : (bytes : List ℕ) (best_first : Bool) (i : Input) → is_xmcda bytes ≡ true → input_of bytes best_first ≡ Ok i → IsReadWithin bytes best_first i
unfolding input_of
read_within bytes best_first i xmcda e =
    let a = bind_ok (refuse _ (nat_lt MOST_TEXT_BYTES (length bytes))) _ i e in
    record {
      short = ltb-false MOST_TEXT_BYTES (length bytes) (refuse_ok _ (nat_lt MOST_TEXT_BYTES (length bytes)) a.0 a.1);
      xmcda = subst (λ b. cond b (xmcda_input bytes best_first) (plain_input bytes) ≡ Ok i) xmcda a.2;
    }

read_from : (bytes : List ℕ) (best_first : Bool) (i : Input) → is_xmcda bytes ≡ true → length bytes ≤ MOST_TEXT_BYTES → xmcda_input bytes best_first ≡ Ok i → input_of bytes best_first ≡ Ok i
unfolding input_of
read_from bytes best_first i xmcda short e = rw (le-ltb MOST_TEXT_BYTES (length bytes) short, xmcda) e

pub file_read : (bytes : List ℕ) (best_first : Bool) (i : Input) → is_xmcda bytes ≡ true → (input_of bytes best_first ≡ Ok i) ↔ ((length bytes ≤ MOST_TEXT_BYTES) × IsMeant bytes best_first i × IsWithinLimits i)
file_read bytes best_first i xmcda = (
  λ e. let read = read_within bytes best_first i xmcda e in (read.short, input_meant bytes best_first i xmcda e, xmcda_within bytes best_first i read.xmcda),
  λ h. read_from bytes best_first i xmcda h.0 (xmcda_said bytes best_first i h.1 h.2),
)
