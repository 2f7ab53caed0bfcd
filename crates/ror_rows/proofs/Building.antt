-- Rows of comparisons pushed one after another: their order, widths and number.
use Rattle.std.proofs.Common.{◌≡◌, ℕ, ◌+◌, ◌≤◌, List, [], ◌∷◌, ◌++◌, length, map, ℤ, Option, Some, None, option_to_list, refl, ap, sym, subst, ◌∙◌, arith, length-append, true, false}
use Rattle.std.specs.Prelude.{nat_lt}
use Rattle.std.specs.List.{AllByRecursion, flat_map}
use Rattle.std.proofs.lemmas.List.{append-nil}
use Rattle.std.proofs.lemmas.List.Concat.{flat_map-append}
use Rattle.ror_integers.specs.Vectors.{ones}
use Rattle.ror_integers.proofs.Dots.{length-ones}
use Rattle.ror_text.proofs.Everywhere.{all-append, all-pieces, all-by, all-map}
use Rattle.ror_statement.specs.declared.comparison.Form.{Form}
use Rattle.ror_statement.specs.declared.comparison.Form.TheVariants.{Value, Strength}
use Rattle.ror_statement.specs.declared.comparison.Relation.{Relation}
use Rattle.ror_statement.specs.declared.comparison.Relation.TheVariants.{Above, AtLeast, Equal}
use Rattle.ror_statement.specs.declared.comparison.Comparison.{Comparison}
use Rattle.ror_statement.specs.declared.statement.Assignment.{Assignment}
use Rattle.ror_statement.specs.declared.statement.Statement.{Statement}
use Rattle.ror_statement.specs.Statements.{comparison_of, assignment_of, comparisons_of, outranking, outranking_by, class_comparisons}
use Rattle.ror_statement.specs.Names.{IsComparedWithin, IsAssignedWithin}
use Rattle.std.specs.Prelude.{Bool}
use Rattle.std.proofs.lemmas.List.Sums.{sum_by-append}
use Rattle.ror_statement.specs.RowNumbers.{rows_of, rows_number}
use Rattle.ror_statement.specs.declared.row_number.TheConstants.{MOST_ROWS}
use Rattle.ror_table.specs.Table.{DecisionTable, columns}
use Rattle.ror_value.specs.Over.{IsNamedIn, IsValidIn, IsLawfulIn}
use Rattle.ror_rows.specs.declared.extra.Extra.{Extra}
use Rattle.ror_rows.specs.Rows.{turned, weak_rows_for, strict_rows_for, weak_rows, strict_rows, comparison_of_extra}
use Rattle.ror_rows.specs.Laws.{AreNamed}
use Rattle.ror_rows.proofs.Entries.{length-form_row}

pub weak_rows-append : (t : DecisionTable) (cs ds : List Comparison) → weak_rows t (cs ++ ds) ≡ weak_rows t cs ++ weak_rows t ds
weak_rows-append t cs ds = flat_map-append (λ (c : Comparison). weak_rows_for t c.relation c.form) cs ds

pub strict_rows-append : (t : DecisionTable) (cs ds : List Comparison) → strict_rows t (cs ++ ds) ≡ strict_rows t cs ++ strict_rows t ds
strict_rows-append t cs ds = flat_map-append (λ (c : Comparison). strict_rows_for t c.relation c.form) cs ds

-- ---- names
pub turned-named : (t : DecisionTable) (form : Form) → IsNamedIn t form → IsNamedIn t (turned form)
turned-named t (Value a b) named = (named.1, named.0)
turned-named t (Strength p q s) named = (named.1, named.0, named.2)

own_named : (t : DecisionTable) (m : Option Comparison) → IsComparedWithin (length t.alternatives) (length t.criteria) m → AreNamed t (option_to_list m)
own_named t None within = tt
own_named t (Some c) within = (within, tt)

outranking_named : (t : DecisionTable) (m n : Option Assignment) → IsAssignedWithin (length t.alternatives) t.classes m → IsAssignedWithin (length t.alternatives) t.classes n → AreNamed t (outranking_by m n)
outranking_named t None n first second = tt
outranking_named t (Some x) None first second = tt
outranking_named t (Some x) (Some y) first second = by_test (nat_lt y.highest x.lowest) refl
  where
    by_test : (b : _) → nat_lt y.highest x.lowest ≡ b → AreNamed t (outranking_by (Some x) (Some y))
    by_test true is = rw is ((first.alternative, second.alternative), tt)
    by_test false is = rw is tt

-- all that valid statements say names what the table has
pub comparisons_named : (t : DecisionTable) (list : List Statement) → AllByRecursion (IsValidIn t) list → AreNamed t (comparisons_of list)
comparisons_named t list valid =
    let P : Comparison → Type 0 = λ c. IsNamedIn t c.form in
    all-append P (flat_map (λ s. option_to_list (comparison_of s)) list) (class_comparisons list)
    (all-pieces P (λ s. option_to_list (comparison_of s)) list (all-by (IsValidIn t) (λ s. AreNamed t (option_to_list (comparison_of s))) list (λ s is. own_named t (comparison_of s) is.compared) valid))
    (all-pieces P (λ r. flat_map (outranking r) list) list (all-by (IsValidIn t) (λ r. AreNamed t (flat_map (outranking r) list)) list (λ r first. all-pieces P (outranking r) list (all-by (IsValidIn t) (λ s. AreNamed t (outranking r s)) list (λ s second. outranking_named t (assignment_of r) (assignment_of s) first.assigned second.assigned) valid)) valid))

pub extras_named : (t : DecisionTable) (extra : List Extra) → AllByRecursion (λ e. IsNamedIn t e.form) extra → AreNamed t (map comparison_of_extra extra)
extras_named t extra named = (all-map (λ c. IsNamedIn t c.form) comparison_of_extra extra).0 named

-- ---- widths and numbers
abbrev pub AreWide : ℕ → List (List ℤ) → Type 0
AreWide n rows = AllByRecursion (λ row. length row ≡ n) rows

weak_width : (t : DecisionTable) (r : Relation) (form : Form) → IsNamedIn t form → AreWide (columns t) (weak_rows_for t r form)
weak_width t Above form named = tt
weak_width t AtLeast form named = (length-form_row t form, tt)
weak_width t Equal form named = (length-form_row t form, (length-form_row t (turned form), tt))

strict_width : (t : DecisionTable) (r : Relation) (form : Form) → IsNamedIn t form → AreWide (columns t) (strict_rows_for t r form)
strict_width t Above form named = (length-form_row t form, tt)
strict_width t AtLeast form named = tt
strict_width t Equal form named = tt

pub weak_rows_width : (t : DecisionTable) (cs : List Comparison) → AreNamed t cs → AreWide (columns t) (weak_rows t cs)
weak_rows_width t cs named =
    all-pieces (λ row. length row ≡ columns t) (λ c. weak_rows_for t c.relation c.form) cs (all-by (λ c. IsNamedIn t c.form) (λ c. AreWide (columns t) (weak_rows_for t c.relation c.form)) cs (λ c is. weak_width t c.relation c.form is) named)

pub strict_rows_width : (t : DecisionTable) (cs : List Comparison) → AreNamed t cs → AreWide (columns t) (strict_rows t cs)
strict_rows_width t cs named =
    all-pieces (λ row. length row ≡ columns t) (λ c. strict_rows_for t c.relation c.form) cs (all-by (λ c. IsNamedIn t c.form) (λ c. AreWide (columns t) (strict_rows_for t c.relation c.form)) cs (λ c is. strict_width t c.relation c.form is) named)

rows_number-cons : (c : Comparison) (cs : List Comparison) → rows_number (c ∷ cs) ≡ rows_number (c ∷ []) + rows_number cs
rows_number-cons c cs = sum_by-append (λ (d : Comparison). rows_of d.relation) (c ∷ []) cs

one_number : (t : DecisionTable) (c : Comparison) → length (weak_rows_for t c.relation c.form) + length (strict_rows_for t c.relation c.form) ≡ rows_number (c ∷ [])
one_number t c = by_relation c.relation refl
  where
    by_relation : (r : Relation) → c.relation ≡ r → length (weak_rows_for t c.relation c.form) + length (strict_rows_for t c.relation c.form) ≡ rows_number (c ∷ [])
    by_relation Above is = rw is refl
    by_relation AtLeast is = rw is refl
    by_relation Equal is = rw is refl

pub number_of_rows : (t : DecisionTable) (cs : List Comparison) → length (weak_rows t cs) + length (strict_rows t cs) ≡ rows_number cs
number_of_rows t [] = refl
number_of_rows t (c ∷ cs) =
    let rest = number_of_rows t cs in
    let here = one_number t c in
    let both = rows_number-cons c cs in
    omega (arith, both, length-append (weak_rows_for t c.relation c.form) (weak_rows t cs), length-append (strict_rows_for t c.relation c.form) (strict_rows t cs), rest, here)

one_extra : (strict : Bool) (form : Form) → rows_number (comparison_of_extra (record { form = form; strict = strict }) ∷ []) ≡ 1
one_extra true form = refl
one_extra false form = refl

pub extras_number : (extra : List Extra) → rows_number (map comparison_of_extra extra) ≡ length extra
extras_number [] = refl
extras_number (e ∷ es) =
    let rest = extras_number es in
    let here = one_extra e.strict e.form in
    let both = rows_number-cons (comparison_of_extra e) (map comparison_of_extra es) in
    omega (arith, rest, here, both)

-- ---- a whole system
-- the rows of what each part says, one part after another
pub parts_pushed : (t : DecisionTable) (own class : List Comparison) (w0 w1 w2 s0 s1 s2 : List (List ℤ)) → w0 ≡ [] → s0 ≡ ones (columns t) ∷ []
    → w1 ≡ w0 ++ weak_rows t own → s1 ≡ s0 ++ strict_rows t own → w2 ≡ w1 ++ weak_rows t class → s2 ≡ s1 ++ strict_rows t class
    → (w2 ≡ weak_rows t (own ++ class) ++ []) × (s2 ≡ ones (columns t) ∷ (strict_rows t (own ++ class) ++ []))
parts_pushed t own class w0 w1 w2 s0 s1 s2 we se w1e s1e w2e s2e =
    let weak : w2 ≡ weak_rows t (own ++ class) = w2e ∙ ap (λ (xs : List (List ℤ)). xs ++ weak_rows t class) (w1e ∙ ap (λ (xs : List (List ℤ)). xs ++ weak_rows t own) we) ∙ sym (weak_rows-append t own class) in
    let strict : s2 ≡ ones (columns t) ∷ strict_rows t (own ++ class) = s2e ∙ ap (λ (xs : List (List ℤ)). xs ++ strict_rows t class) (s1e ∙ ap (λ (xs : List (List ℤ)). xs ++ strict_rows t own) se) ∙ ap (λ (xs : List (List ℤ)). ones (columns t) ∷ xs) (sym (strict_rows-append t own class)) in
    (weak ∙ sym (append-nil (weak_rows t (own ++ class))), strict ∙ ap (λ (xs : List (List ℤ)). ones (columns t) ∷ xs) (sym (append-nil (strict_rows t (own ++ class)))))

pub parts_weak_width : (t : DecisionTable) (list : List Statement) (n : ℕ) (rows : List (List ℤ)) → n ≡ columns t → AllByRecursion (IsValidIn t) list
    → rows ≡ weak_rows t (comparisons_of list) ++ [] → AreWide n rows
parts_weak_width t list n rows e valid is =
    subst (AreWide n) (sym (is ∙ append-nil (weak_rows t (comparisons_of list)))) (subst (λ m. AreWide m (weak_rows t (comparisons_of list))) (sym e) (weak_rows_width t (comparisons_of list) (comparisons_named t list valid)))

pub parts_strict_width : (t : DecisionTable) (list : List Statement) (n : ℕ) (rows : List (List ℤ)) → n ≡ columns t → AllByRecursion (IsValidIn t) list
    → rows ≡ ones (columns t) ∷ (strict_rows t (comparisons_of list) ++ []) → AreWide n rows
parts_strict_width t list n rows e valid is =
    let whole : rows ≡ ones (columns t) ∷ strict_rows t (comparisons_of list) = is ∙ ap (λ (xs : List (List ℤ)). ones (columns t) ∷ xs) (append-nil (strict_rows t (comparisons_of list))) in
    subst (AreWide n) (sym whole) (subst (λ m. AreWide m (ones (columns t) ∷ strict_rows t (comparisons_of list))) (sym e) (length-ones (columns t), strict_rows_width t (comparisons_of list) (comparisons_named t list valid)))

pub parts_number : (t : DecisionTable) (list : List Statement) (weak strict : List (List ℤ)) → IsLawfulIn t list
    → weak ≡ weak_rows t (comparisons_of list) ++ [] → strict ≡ ones (columns t) ∷ (strict_rows t (comparisons_of list) ++ [])
    → length weak + length strict ≤ MOST_ROWS
parts_number t list weak strict lawful p q =
    let cs = comparisons_of list in
    let number = number_of_rows t cs in
    let w = ap length p in
    let s = ap length q in
    let most = lawful.rows in
    omega (arith, length-append (weak_rows t cs) [], length-append (strict_rows t cs) [], number, w, s, most)
