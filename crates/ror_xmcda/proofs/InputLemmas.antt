-- What is read may be what a session starts from.
use Rattle.std.proofs.Common.{◌≡◌, ℕ, suc, ◌+◌, Bool, true, false, List, [], ◌∷◌, ◌++◌, length, Result, Ok, refl, ap, ◌∙◌, arith, subst, cond, zero-add, lit≤}
use Rattle.std.specs.Prelude.{nat_lt, IfOk, ◌==◌, ◌||◌}
use Rattle.std.specs.List.{enumerate_from}
use Rattle.std.proofs.lemmas.List.{length_push}
use Rattle.ror_text.specs.declared.lines.TheConstants.{MOST_TEXT_BYTES}
use Rattle.ror_text.specs.Reading.{◌>>=◌, refuse, read_all}
use Rattle.ror_text.proofs.ReadingLemmas.{bind_ok}
use Rattle.ror_statement.specs.declared.statement.Statement.{Statement}
use Rattle.ror_statement.specs.RowNumbers.{IsLawful}
use Rattle.ror_table.specs.declared.fault.TableFault.{TableFault}
use Rattle.ror_table.specs.Draft.{finished}
use Rattle.ror_table.specs.declared.fault.TableKind.TheVariants.{Empty, TooMany, WideScale}
use Rattle.ror_table.specs.declared.fault.What.TheVariants.{Steps}
use Rattle.ror_table.specs.Plain.{at_line, plain_table}
use Rattle.ror_table.specs.declared.limits.TheConstants.{MOST_STEPS}
use Rattle.ror_table.specs.Table.{DecisionTable, columns, has_wide_scale}
use Rattle.ror_value.specs.declared.input.Input.{Input}
use Rattle.ror_value.specs.Over.{IsLawfulIn}
use Rattle.ror_elements.specs.Elements.{elements_of}
use Rattle.ror_elements.specs.Tree.{Tree}
use Rattle.ror_xmcda.specs.Categories.{AreRanked}
use Rattle.ror_xmcda.specs.declared.content.Listed.{Listed}
use Rattle.ror_xmcda.specs.declared.criteria.Criteria.{Criteria}
use Rattle.ror_xmcda.specs.declared.stated.Stated.{Stated}
use Rattle.ror_xmcda.specs.Performances.{Given, performances_of}
use Rattle.ror_xmcda.specs.Whole.{criteria_table, row_of, with_alternative, table_of}
use Rattle.ror_xmcda.specs.Comparisons.{comparisons_of}
use Rattle.ror_xmcda.specs.Affectations.{affectations_of}
use Rattle.ror_xmcda.specs.Content.{listed_of, table_in, opening_in, content}
use Rattle.ror_xmcda.specs.Input.{of_elements, is_xmcda, xmcda_input, plain_input, input_of}
use Rattle.ror_xmcda.proofs.ContentLemmas.{listed_in}
use Rattle.ror_xmcda.proofs.WholeLemmas.{alternatives-criteria_table}
use Rattle.ror_xmcda.proofs.LawfulLemmas.{AreSound, comparisons_sound, affectations_sound, opening_lawful}

-- ---- the table

-- so many alternatives, and so many classes
pub record HasSize (n k : ℕ) (t : DecisionTable) : Type 0 where
  pub alternatives : length t.alternatives ≡ n
  pub classes : t.classes ≡ k

one_more : (given : Given) (t t' : DecisionTable) (x : ℕ × List ℕ) (n k : ℕ) → with_alternative given t x ≡ Ok t' → HasSize n k t → HasSize (n + 1) k t'
unfolding with_alternative
one_more given t t' x n k e h =
    let b = bind_ok (row_of given (length t.criteria) x.0) _ t' e in
    let same : record t { alternatives = t.alternatives ++ record { id = x.1; performances = b.0 } ∷ [] } ≡ t' = cc in
    subst (HasSize (n + 1) k) same (record { alternatives = length_push t.alternatives (record { id = x.1; performances = b.0 }) ∙ ap (λ (m : ℕ). m + 1) h.alternatives; classes = h.classes })

all_more : (given : Given) (t t' : DecisionTable) (a : ℕ) (ids : List (List ℕ)) (n k : ℕ) → read_all (with_alternative given) t (enumerate_from a ids) ≡ Ok t' → HasSize n k t → HasSize (n + length ids) k t'
all_more given t t' a [] n k e h =
    let same : t ≡ t' = cc in
    let size : n ≡ n + 0 = omega arith in
    subst (λ (m : ℕ). HasSize m k t') size (subst (HasSize n k) same h)
all_more given t t' a (id ∷ ids) n k e h =
    let b = bind_ok (with_alternative given t (a, id)) (λ next. read_all (with_alternative given) next (enumerate_from (a + 1) ids)) t' e in
    let size : (n + 1) + length ids ≡ n + suc (length ids) = omega arith in
    subst (λ (m : ℕ). HasSize m k t') size (all_more given b.0 t' (a + 1) ids (n + 1) k b.2 (one_more given t b.0 (a, id) n k b.1 h))

three_passed : {F T : Type 0} (f g h : F) (a b c : Bool) (t t' : T) → (refuse f a >>= λ _. refuse g b >>= λ _. refuse h c >>= λ _. Ok t) ≡ Ok t' → t ≡ t'
three_passed f g h true b c t t' e = absurd cc
three_passed f g h false true c t t' e = absurd cc
three_passed f g h false false true t t' e = absurd cc
three_passed f g h false false false t t' e = cc

pub finished_same : {F : Type 0} (empty wide wide_scale : F) (t t' : DecisionTable) → finished empty wide wide_scale t ≡ Ok t' → t ≡ t'
unfolding finished
finished_same empty wide wide_scale t t' e = three_passed empty wide wide_scale (length t.criteria == 0 || length t.alternatives == 0) (nat_lt MOST_STEPS (columns t)) (has_wide_scale t) t t' e

three_steps : {A T F : Type 0} (f : F) (b : Bool) (r : Result A F) (g : A → Result T F) (t : T) → (refuse f b >>= λ _. r >>= g) ≡ Ok t → (x : A) × (r ≡ Ok x) × (g x ≡ Ok t)
three_steps f true r g t e = absurd cc
three_steps f false r g t e = bind_ok r g t e

table_size : (given : Given) (c : Criteria) (ids : List (List ℕ)) (k : ℕ) (t : DecisionTable) → table_of given c ids k ≡ Ok t → HasSize (length ids) k t
unfolding table_of
table_size given c ids k t e =
    let began : DecisionTable = record (criteria_table c) { classes = k } in
    let b = three_steps (at_line 0 Empty) (length c.ids.kept == 0 || length ids == 0) (read_all (with_alternative given) began (enumerate_from 0 ids)) (λ t. finished (at_line 0 Empty) (at_line 0 (TooMany Steps)) (at_line 0 WideScale) t) t e in
    let none : HasSize 0 k began = record { alternatives = ap length (alternatives-criteria_table c); classes = refl } in
    let sized : HasSize (0 + length ids) k b.0 = all_more given began b.0 0 ids 0 k b.1 none in
    subst (HasSize (length ids) k) (finished_same (at_line 0 Empty) (at_line 0 (TooMany Steps)) (at_line 0 WideScale) b.0 t b.2) (subst (λ (m : ℕ). HasSize m k b.0) (zero-add (length ids)) sized)

pub size_in : (l : Listed) (root : Tree) (t : DecisionTable) → table_in l root ≡ Ok t → HasSize (length l.alternatives.kept) (length l.categories.ranks) t
unfolding table_in
size_in l root t e =
    let b = bind_ok (performances_of l.alternatives l.criteria.ids root) _ t e in
    table_size b.0 l.criteria l.alternatives.kept (length l.categories.ranks) t b.2

-- ---- the opening list

opening_in_lawful : (best_first : Bool) (m : ℕ) (l : Listed) (root : Tree) (opening : List Statement) → AreRanked l.categories → opening_in best_first l root ≡ Ok opening → IsLawful (length l.alternatives.kept) m (length l.categories.ranks) opening
unfolding opening_in
opening_in_lawful best_first m l root opening are e =
    let n : ℕ = length l.alternatives.kept in
    let k : ℕ = length l.categories.ranks in
    let a = bind_ok (comparisons_of l.alternatives [] root) _ opening e in
    let compared : AreSound n k a.0 = subst (λ (x : Result (List Stated) TableFault). IfOk x (AreSound n k)) a.1 (comparisons_sound k l.alternatives root) in
    let b = bind_ok (affectations_of best_first l.alternatives l.categories a.0 root) _ opening a.2 in
    let stated : AreSound n k b.0 = subst (λ (x : Result (List Stated) TableFault). IfOk x (AreSound n k)) b.1 (affectations_sound best_first l.alternatives l.categories a.0 root are compared) in
    subst (λ (x : Result (List Statement) TableFault). IfOk x (IsLawful n m k)) b.2 (opening_lawful n m k b.0 stated)

pub content_lawful : (best_first : Bool) (root : Tree) (i : Input) → content best_first root ≡ Ok i → IsLawfulIn i.table i.opening
unfolding content
content_lawful best_first root i e =
    let a = bind_ok (listed_of root) _ i e in
    let b = bind_ok (table_in a.0 root) _ i a.2 in
    let c = bind_ok (opening_in best_first a.0 root) _ i b.2 in
    let size = size_in a.0 root b.0 b.1 in
    let lawful = opening_in_lawful best_first (length b.0.criteria) a.0 root c.0 (listed_in root a.0 a.1).ranked c.1 in
    let there : IsLawfulIn b.0 c.0 = rw (size.alternatives, size.classes) lawful in
    let same : ◌≡◌ {A = Input} (record { table = b.0; opening = c.0 }) i = (let r : ◌≡◌ {A = Result Input TableFault} (Ok (record { table = b.0; opening = c.0 })) (Ok i) = c.2 in cc) in
    subst (λ (x : Input). IsLawfulIn x.table x.opening) same there

-- no statement at all
none_lawful : (t : DecisionTable) → IsLawfulIn t []
none_lawful t = record { few = lit≤ tt; rows = lit≤ tt; each_valid = tt }

plain_lawful : (bytes : List ℕ) (i : Input) → plain_input bytes ≡ Ok i → IsLawfulIn i.table i.opening
unfolding plain_input
plain_lawful bytes i e =
    let a = bind_ok (plain_table bytes) _ i e in
    let same : ◌≡◌ {A = Input} (record { table = a.0; opening = [] }) i = (let r : ◌≡◌ {A = Result Input TableFault} (Ok (record { table = a.0; opening = [] })) (Ok i) = a.2 in cc) in
    subst (λ (x : Input). IsLawfulIn x.table x.opening) same (none_lawful a.0)

xmcda_lawful : (bytes : List ℕ) (best_first : Bool) (i : Input) → xmcda_input bytes best_first ≡ Ok i → IsLawfulIn i.table i.opening
unfolding xmcda_input
xmcda_lawful bytes best_first i e =
    let a = bind_ok (of_elements (elements_of bytes)) _ i e in
    content_lawful best_first a.0 i a.2

-- whatever the bytes are
pub input_lawful : (bytes : List ℕ) (best_first : Bool) (i : Input) → input_of bytes best_first ≡ Ok i → IsLawfulIn i.table i.opening
unfolding input_of
input_lawful bytes best_first i e =
    let a = bind_ok (refuse _ (nat_lt MOST_TEXT_BYTES (length bytes))) _ i e in
    by (is_xmcda bytes) a.2
  where
    by : (b : Bool) → cond b (xmcda_input bytes best_first) (plain_input bytes) ≡ Ok i → IsLawfulIn i.table i.opening
    by true e = xmcda_lawful bytes best_first i e
    by false e = plain_lawful bytes i e
