-- The rows of a statement are those that go with it.
use Rattle.std.proofs.Common.{◌≡◌, ◌≢◌, ℕ, Bool, true, false, not, ◌||◌, List, [], ◌∷◌, ◌++◌, Option, Some, None, refl, ap, sym, ◌∙◌, arith, length, map, filter, filter_map, flat_map, ℤ, option_to_list, nat_lt}
use Rattle.std.specs.Prelude.{◌==◌, if◌then◌else◌}
use Rattle.std.proofs.lemmas.Bool.{ne_eqb}
use Rattle.std.proofs.lemmas.List.{append-nil, length-append, map-append}
use Rattle.std.proofs.lemmas.List.Concat.{flat_map-append}
use Rattle.ror_integers.specs.Vectors.{ones}
use Rattle.ror_statement.specs.declared.comparison.Form.TheVariants.{Value}
use Rattle.ror_statement.specs.declared.comparison.Relation.{Relation}
use Rattle.ror_statement.specs.declared.comparison.Relation.TheVariants.{Above, AtLeast, Equal}
use Rattle.ror_statement.specs.declared.comparison.Comparison.{Comparison}
use Rattle.ror_statement.specs.declared.statement.Assignment.{Assignment}
use Rattle.ror_statement.specs.declared.statement.Numbered.{Numbered}
use Rattle.ror_statement.specs.declared.statement.Statement.{Statement}
use Rattle.ror_statement.specs.declared.statement.Statement.TheVariants as statements
use Rattle.ror_statement.specs.declared.question.Question.{Question}
use Rattle.ror_statement.specs.declared.question.Question.TheVariants as questions
use Rattle.ror_statement.specs.Statements.{comparison_by, comparison_of, assignment_of, outranks, outranking_by, outranking, class_comparisons, comparisons_of, statements_in}
use Rattle.ror_table.specs.Table.{DecisionTable, columns}
use Rattle.ror_value.specs.Meaning.{assignments_of}
use Rattle.ror_rows.specs.declared.extra.Extra.{Extra}
use Rattle.ror_rows.specs.Rows.{form_row, turned, weak_rows_for, strict_rows_for, weak_rows, strict_rows, comparison_of_extra, class_conditions}
use Rattle.ror_proof.specs.declared.answer.Verdict.{Verdict}
use Rattle.ror_proof.specs.declared.answer.Verdict.TheVariants as verdicts
use Rattle.ror_show_find_proofs.specs.Sums.{first_asked, asked_besides}
use Rattle.ror_show_find_proofs.specs.Weights.{alone, weak_by, strict_by, weak_of, strict_of, pair_by, pair_of, pairs_of, condition_by, condition_of, conditions_of, is_owner}
use Rattle.ror_show_find_proofs.specs.Counted.{without, rows_without, OwnRowsGo}

abbrev Owners : Type 0
Owners = List (ℕ × ℕ)

abbrev Rows : Type 0
Rows = List (List ℤ)

-- ---- piece by piece

-- the owners of all rows, and what is left of these
record Piece (n : ℕ) (owners : Owners) (rows left : Rows) : Type 0 where
  pub each : length owners ≡ length rows
  pub go : rows_without n owners rows ≡ left

join : (n : ℕ) (owners more : Owners) (rows rest : Rows) → length owners ≡ length rows → rows_without n (owners ++ more) (rows ++ rest) ≡ rows_without n owners rows ++ rows_without n more rest
join n [] more [] rest each = refl
join n [] more (row ∷ rows) rest each = absurd cc
join n (owner ∷ owners) more [] rest each = absurd cc
join n (owner ∷ owners) more (row ∷ rows) rest each = by (is_owner n owner) (join n owners more rows rest (omega (arith, each)))
  where
    by : (b : Bool) → rows_without n (owners ++ more) (rows ++ rest) ≡ rows_without n owners rows ++ rows_without n more rest → (if b then rows_without n (owners ++ more) (rows ++ rest) else row ∷ rows_without n (owners ++ more) (rows ++ rest)) ≡ (if b then rows_without n owners rows else row ∷ rows_without n owners rows) ++ rows_without n more rest
    by true is = is
    by false is = ap (λ (rs : Rows). row ∷ rs) is

joined : (n : ℕ) (owners more : Owners) (rows rest left last : Rows) → Piece n owners rows left → Piece n more rest last → Piece n (owners ++ more) (rows ++ rest) (left ++ last)
joined n owners more rows rest left last one two =
    let long = length-append owners more in
    let long_rows = length-append rows rest in
    let first = one.each in
    let second = two.each in
    record {
      each = omega (arith, long, long_rows, first, second);
      go = join n owners more rows rest one.each ∙ ap (λ (rs : Rows). rs ++ rows_without n more rest) one.go ∙ ap (λ (rs : Rows). left ++ rs) two.go;
    }

-- of a list, of which some elements go
all_pieces : {A : Type 0} (n : ℕ) (own : A → Owners) (rows left : A → Rows) (gone : A → Bool) → ((x : A) → Piece n (own x) (rows x) (if gone x then [] else left x)) → (xs : List A) → Piece n (flat_map own xs) (flat_map rows xs) (flat_map left (filter (λ x. not (gone x)) xs))
all_pieces n own rows left gone one [] = record { each = refl; go = refl }
all_pieces {A} n own rows left gone one (x ∷ xs) = by (gone x) (joined n (own x) (flat_map own xs) (rows x) (flat_map rows xs) (if gone x then [] else left x) (flat_map left (filter (λ x. not (gone x)) xs)) (one x) (all_pieces n own rows left gone one xs))
  where
    by : (b : Bool) → Piece n (own x ++ flat_map own xs) (rows x ++ flat_map rows xs) ((if b then [] else left x) ++ flat_map left (filter (λ x. not (gone x)) xs)) → Piece n (own x ++ flat_map own xs) (rows x ++ flat_map rows xs) (flat_map left (if not b then x ∷ filter (λ x. not (gone x)) xs else filter (λ x. not (gone x)) xs))
    by true is = is
    by false is = is

-- ---- what comes of lists in lists

mapped_flat : {A B C : Type 0} (f : B → List C) (g : A → B) (xs : List A) → flat_map f (map g xs) ≡ flat_map (λ x. f (g x)) xs
mapped_flat f g [] = refl
mapped_flat {A} {B} {C} f g (x ∷ xs) = ap (λ (ys : List C). f (g x) ++ ys) (mapped_flat f g xs)

flat_flat : {A B C : Type 0} (f : B → List C) (g : A → List B) (xs : List A) → flat_map f (flat_map g xs) ≡ flat_map (λ x. flat_map f (g x)) xs
flat_flat f g [] = refl
flat_flat {A} {B} {C} f g (x ∷ xs) = flat_map-append f (g x) (flat_map g xs) ∙ ap (λ (ys : List C). flat_map f (g x) ++ ys) (flat_flat f g xs)

same_flat : {A C : Type 0} (f g : A → List C) → ((x : A) → f x ≡ g x) → (xs : List A) → flat_map f xs ≡ flat_map g xs
same_flat f g same [] = refl
same_flat {A} {C} f g same (x ∷ xs) = ap (λ (ys : List C). ys ++ flat_map f xs) (same x) ∙ ap (λ (ys : List C). g x ++ ys) (same_flat f g same xs)

none_flat : {A C : Type 0} (f : A → List C) → ((x : A) → f x ≡ []) → (xs : List A) → flat_map f xs ≡ []
none_flat f none [] = refl
none_flat {A} {C} f none (x ∷ xs) = ap (λ (ys : List C). ys ++ flat_map f xs) (none x) ∙ none_flat f none xs

none_kept : {A : Type 0} (xs : List A) → filter (λ x. false) xs ≡ []
none_kept [] = refl
none_kept (x ∷ xs) = none_kept xs

-- ---- one statement

module _ (t : DecisionTable) (n : ℕ) where
  -- a row that one statement gives by itself
  one_owner : (k : ℕ) (row : List ℤ) → Piece n (alone k) (row ∷ []) (if k == n then [] else row ∷ [])
  one_owner k row = record { each = refl; go = by (k == n) }
    where
      by : (b : Bool) → (if b || b then [] else row ∷ []) ≡ (if b then [] else row ∷ [])
      by true = refl
      by false = refl

  no_owner : (b : Bool) → Piece n [] [] (if b then [] else [])
  no_owner true = record { each = refl; go = refl }
  no_owner false = record { each = refl; go = refl }

  abbrev weak_said : Option Comparison → Rows
  weak_said o = weak_rows t (option_to_list o)

  abbrev strict_said : Option Comparison → Rows
  strict_said o = strict_rows t (option_to_list o)

  weak_piece : (k : ℕ) (o : Option Comparison) → Piece n (weak_by k o) (weak_said o) (if k == n then [] else weak_said o)
  weak_piece k None = no_owner (k == n)
  weak_piece k (Some c) = by c.relation
    where
      two : (b : Bool) (x y : List ℤ) → (if b || b then (if b || b then [] else y ∷ []) else x ∷ (if b || b then [] else y ∷ [])) ≡ (if b then [] else x ∷ y ∷ [])
      two true x y = refl
      two false x y = refl

      by : (r : Relation) → Piece n (weak_by k (Some (record { relation = r; form = c.form }))) (weak_said (Some (record { relation = r; form = c.form }))) (if k == n then [] else weak_said (Some (record { relation = r; form = c.form })))
      by Above = no_owner (k == n)
      by AtLeast = one_owner k (form_row t c.form)
      by Equal = record { each = refl; go = two (k == n) (form_row t c.form) (form_row t (turned c.form)) }

  strict_piece : (k : ℕ) (o : Option Comparison) → Piece n (strict_by k o) (strict_said o) (if k == n then [] else strict_said o)
  strict_piece k None = no_owner (k == n)
  strict_piece k (Some c) = by c.relation
    where
      by : (r : Relation) → Piece n (strict_by k (Some (record { relation = r; form = c.form }))) (strict_said (Some (record { relation = r; form = c.form }))) (if k == n then [] else strict_said (Some (record { relation = r; form = c.form })))
      by Above = one_owner k (form_row t c.form)
      by AtLeast = no_owner (k == n)
      by Equal = no_owner (k == n)

  -- ---- two class statements

  abbrev ranked : Option Assignment → Option Assignment → Rows
  ranked r s = strict_rows t (outranking_by r s)

  pair_piece : (k m : ℕ) (r s : Option Assignment) → Piece n (pair_by k r m s) (ranked r s) (if k == n || m == n then [] else ranked r s)
  pair_piece k m None s = no_owner (k == n || m == n)
  pair_piece k m (Some r) None = no_owner (k == n || m == n)
  pair_piece k m (Some r) (Some s) = by (outranks r s)
    where
      one : (b : Bool) (row : List ℤ) → (if b then [] else row ∷ []) ≡ (if b then [] else row ∷ [])
      one b row = refl

      by : (b : Bool) → Piece n (if b then (k, m) ∷ [] else []) (strict_rows t (if b then comparison_by Above (Value r.alternative s.alternative) ∷ [] else [])) (if k == n || m == n then [] else strict_rows t (if b then comparison_by Above (Value r.alternative s.alternative) ∷ [] else []))
      by true = record { each = refl; go = one (k == n || m == n) (form_row t (Value r.alternative s.alternative)) }
      by false = no_owner (k == n || m == n)

  abbrev pair_rows : Numbered → Numbered → Rows
  pair_rows x y = strict_rows t (outranking x.statement y.statement)

  -- a statement with each
  row_piece : (part : List Numbered) (x : Numbered) → Piece n (pairs_of part x) (flat_map (pair_rows x) part) (if x.number == n then [] else flat_map (pair_rows x) (without n part))
  row_piece part x = by (x.number == n) (all_pieces n (pair_of x) (pair_rows x) (pair_rows x) (λ y. x.number == n || y.number == n) (λ y. pair_piece x.number y.number (assignment_of x.statement) (assignment_of y.statement)) part)
    where
      by : (b : Bool) → Piece n (pairs_of part x) (flat_map (pair_rows x) part) (flat_map (pair_rows x) (filter (λ y. not (b || y.number == n)) part)) → Piece n (pairs_of part x) (flat_map (pair_rows x) part) (if b then [] else flat_map (pair_rows x) (without n part))
      by true is = record { each = is.each; go = is.go ∙ ap (λ (ys : List Numbered). flat_map (pair_rows x) ys) (none_kept part) }
      by false is = is

  -- ---- a class statement and the class that is asked for

  abbrev asked_rows : List Extra → Rows
  asked_rows es = strict_rows t (map comparison_of_extra es)

  abbrev conditions_by : ℕ → ℕ → Option Assignment → List Extra
  conditions_by a h None = []
  conditions_by a h (Some x) = class_conditions a h x

  condition_piece : (a h k : ℕ) (o : Option Assignment) → Piece n (condition_by h k o) (asked_rows (conditions_by a h o)) (if k == n then [] else asked_rows (conditions_by a h o))
  condition_piece a h k None = no_owner (k == n)
  condition_piece a h k (Some x) = by (nat_lt h x.lowest) (nat_lt x.highest h)
    where
      by : (b c : Bool) → Piece n (if b || c then alone k else []) (asked_rows (if b then record { form = Value x.alternative a; strict = true } ∷ [] else (if c then record { form = Value a x.alternative; strict = true } ∷ [] else []))) (if k == n then [] else asked_rows (if b then record { form = Value x.alternative a; strict = true } ∷ [] else (if c then record { form = Value a x.alternative; strict = true } ∷ [] else [])))
      by true c = one_owner k (form_row t (Value x.alternative a))
      by false true = one_owner k (form_row t (Value a x.alternative))
      by false false = no_owner (k == n)

-- ---- the rows of a list

module _ (t : DecisionTable) where
  abbrev weak_own : Numbered → Rows
  weak_own x = weak_rows t (option_to_list (comparison_of x.statement))

  abbrev strict_own : Numbered → Rows
  strict_own x = strict_rows t (option_to_list (comparison_of x.statement))

  no_weak : (r s : Option Assignment) → weak_rows t (outranking_by r s) ≡ []
  no_weak None s = refl
  no_weak (Some r) None = refl
  no_weak (Some r) (Some s) = by (outranks r s)
    where
      by : (b : Bool) → weak_rows t (if b then comparison_by Above (Value r.alternative s.alternative) ∷ [] else []) ≡ []
      by true = refl
      by false = refl

  class_weak : (list : List Statement) → weak_rows t (class_comparisons list) ≡ []
  class_weak list =
      flat_flat (λ c. weak_rows_for t c.relation c.form) (λ r. flat_map (outranking r) list) list
      ∙ none_flat (λ r. weak_rows t (flat_map (outranking r) list)) (λ r. flat_flat (λ c. weak_rows_for t c.relation c.form) (outranking r) list ∙ none_flat (λ s. weak_rows t (outranking r s)) (λ s. no_weak (assignment_of r) (assignment_of s)) list) list

  abbrev said : List Statement → List Comparison
  said list = flat_map (λ s. option_to_list (comparison_of s)) list

  weak_all : (part : List Numbered) → weak_rows t (comparisons_of (statements_in part)) ≡ flat_map weak_own part
  weak_all part =
      flat_map-append (λ c. weak_rows_for t c.relation c.form) (said (statements_in part)) (class_comparisons (statements_in part))
      ∙ ap (λ (rs : Rows). weak_rows t (said (statements_in part)) ++ rs) (class_weak (statements_in part))
      ∙ append-nil (weak_rows t (said (statements_in part)))
      ∙ flat_flat (λ c. weak_rows_for t c.relation c.form) (λ s. option_to_list (comparison_of s)) (statements_in part)
      ∙ mapped_flat (λ s. weak_rows t (option_to_list (comparison_of s))) (λ x. x.statement) part

  abbrev all_pairs : List Numbered → Rows
  all_pairs part = flat_map (λ x. flat_map (pair_rows t 0 x) part) part

  class_strict : (part : List Numbered) → strict_rows t (class_comparisons (statements_in part)) ≡ all_pairs part
  class_strict part =
      flat_flat (λ c. strict_rows_for t c.relation c.form) (λ r. flat_map (outranking r) (statements_in part)) (statements_in part)
      ∙ mapped_flat (λ r. strict_rows t (flat_map (outranking r) (statements_in part))) (λ x. x.statement) part
      ∙ same_flat (λ x. strict_rows t (flat_map (outranking x.statement) (statements_in part))) (λ x. flat_map (pair_rows t 0 x) part)
      (λ x. flat_flat (λ c. strict_rows_for t c.relation c.form) (outranking x.statement) (statements_in part) ∙ mapped_flat (λ s. strict_rows t (outranking x.statement s)) (λ y. y.statement) part) part

  strict_all : (part : List Numbered) → strict_rows t (comparisons_of (statements_in part)) ≡ flat_map strict_own part ++ all_pairs part
  strict_all part =
      flat_map-append (λ c. strict_rows_for t c.relation c.form) (said (statements_in part)) (class_comparisons (statements_in part))
      ∙ ap (λ (rs : Rows). rs ++ strict_rows t (class_comparisons (statements_in part)))
      (flat_flat (λ c. strict_rows_for t c.relation c.form) (λ s. option_to_list (comparison_of s)) (statements_in part) ∙ mapped_flat (λ s. strict_rows t (option_to_list (comparison_of s))) (λ x. x.statement) part)
      ∙ ap (λ (rs : Rows). flat_map strict_own part ++ rs) (class_strict part)

-- ---- what is asked besides

-- the owners of the rows that are asked, and what is left of these
record Asked (t : DecisionTable) (n : ℕ) (owners : Owners) (asked left : List Comparison) : Type 0 where
  pub weak : weak_rows t asked ≡ weak_rows t left
  pub strict : rows_without n owners (strict_rows t asked) ≡ strict_rows t left

none_owned : (n : ℕ) (owners : Owners) → rows_without n owners [] ≡ []
none_owned n [] = refl
none_owned n (owner ∷ owners) = refl

module _ (t : DecisionTable) (n a h : ℕ) where
  abbrev asked_by : Numbered → List Extra
  asked_by x = conditions_by t n a h (assignment_of x.statement)

  abbrev all_asked : List Numbered → List Extra
  all_asked part = flat_map (class_conditions a h) (assignments_of (statements_in part))

  listed : (part : List Numbered) → all_asked part ≡ flat_map asked_by part
  listed [] = refl
  listed (x ∷ part) = by x.statement (listed part)
    where
      by : (s : Statement) → all_asked part ≡ flat_map asked_by part → flat_map (class_conditions a h) (filter_map assignment_of (s ∷ statements_in part)) ≡ conditions_by t n a h (assignment_of s) ++ flat_map asked_by part
      by (statements.Prefer b c) is = is
      by (statements.AtLeast b c) is = is
      by (statements.Same b c) is = is
      by (statements.Stronger p q scope) is = is
      by (statements.AsStrong p q scope) is = is
      by (statements.EqualStrength p q scope) is = is
      by (statements.Class b lowest highest) is = ap (λ (es : List Extra). class_conditions a h (record { alternative = b; lowest = lowest; highest = highest }) ++ es) is

  mapped_all : (part : List Numbered) → map comparison_of_extra (all_asked part) ≡ flat_map (λ x. map comparison_of_extra (asked_by x)) part
  mapped_all part = ap (λ (es : List Extra). map comparison_of_extra es) (listed part) ∙ each part
    where
      each : (xs : List Numbered) → map comparison_of_extra (flat_map asked_by xs) ≡ flat_map (λ x. map comparison_of_extra (asked_by x)) xs
      each [] = refl
      each (x ∷ xs) = map-append comparison_of_extra (asked_by x) (flat_map asked_by xs) ∙ ap (λ (cs : List Comparison). map comparison_of_extra (asked_by x) ++ cs) (each xs)

  no_weak_asked : (o : Option Assignment) → weak_rows t (map comparison_of_extra (conditions_by t n a h o)) ≡ []
  no_weak_asked None = refl
  no_weak_asked (Some x) = by (nat_lt h x.lowest) (nat_lt x.highest h)
    where
      by : (b c : Bool) → weak_rows t (map comparison_of_extra (if b then record { form = Value x.alternative a; strict = true } ∷ [] else (if c then record { form = Value a x.alternative; strict = true } ∷ [] else []))) ≡ []
      by true c = refl
      by false true = refl
      by false false = refl

  weak_asked : (part : List Numbered) → weak_rows t (map comparison_of_extra (all_asked part)) ≡ []
  weak_asked part =
      ap (λ (cs : List Comparison). weak_rows t cs) (mapped_all part)
      ∙ flat_flat (λ c. weak_rows_for t c.relation c.form) (λ x. map comparison_of_extra (asked_by x)) part
      ∙ none_flat (λ x. weak_rows t (map comparison_of_extra (asked_by x))) (λ x. no_weak_asked (assignment_of x.statement)) part

  strict_asked : (part : List Numbered) → strict_rows t (map comparison_of_extra (all_asked part)) ≡ flat_map (λ x. asked_rows t n (asked_by x)) part
  strict_asked part =
      ap (λ (cs : List Comparison). strict_rows t cs) (mapped_all part)
      ∙ flat_flat (λ c. strict_rows_for t c.relation c.form) (λ x. map comparison_of_extra (asked_by x)) part

  class_asked : (part : List Numbered) → Asked t n (flat_map (condition_of h) part) (map comparison_of_extra (all_asked part)) (map comparison_of_extra (all_asked (without n part)))
  class_asked part = record {
    weak = weak_asked part ∙ sym (weak_asked (without n part));
    strict =
        ap (rows_without n (flat_map (condition_of h) part)) (strict_asked part)
        ∙ (all_pieces n (condition_of h) (λ x. asked_rows t n (asked_by x)) (λ x. asked_rows t n (asked_by x)) (λ x. x.number == n) (λ x. condition_piece t n a h x.number (assignment_of x.statement)) part).go
        ∙ sym (strict_asked (without n part));
  }

abbrev besides : List Numbered → Question → Verdict → List Comparison
besides part q v = asked_besides (statements_in part) q v

clash_asked : (t : DecisionTable) (n : ℕ) (owners : Owners) → Asked t n owners [] []
clash_asked t n owners = record { weak = refl; strict = none_owned n owners }

first_alike : (t : DecisionTable) (part : List Numbered) (q : Question) (n : ℕ) → ((a h : ℕ) → q ≢ questions.NecessaryClass a h) → Asked t n (conditions_of part q) (first_asked (statements_in part) q) (first_asked (statements_in (without n part)) q)
first_alike t part questions.Consistent n other = record { weak = refl; strict = refl }
first_alike t part (questions.Necessary a b) n other = record { weak = refl; strict = refl }
first_alike t part (questions.Possible a b) n other = record { weak = refl; strict = refl }
first_alike t part (questions.NecessaryStrength p q scope) n other = record { weak = refl; strict = refl }
first_alike t part (questions.PossibleStrength p q scope) n other = record { weak = refl; strict = refl }
first_alike t part (questions.PossibleClass a h) n other = class_asked t n a h part
first_alike t part (questions.NecessaryClass a h) n other = absurd (other a h refl)

asked_alike : (t : DecisionTable) (part : List Numbered) (q : Question) (v : Verdict) (n : ℕ) → ((a h : ℕ) → q ≢ questions.NecessaryClass a h) → Asked t n (conditions_of part q) (besides part q v) (besides (without n part) q v)
asked_alike t part q (verdicts.Contradiction proof) n other = clash_asked t n (conditions_of part q)
asked_alike t part q (verdicts.Yes proof) n other = first_alike t part q n other
asked_alike t part q (verdicts.No proof) n other = first_alike t part q n other
asked_alike t part q (verdicts.Wide system note) n other = first_alike t part q n other

-- ---- all rows

module _ (t : DecisionTable) (part : List Numbered) (q : Question) (v : Verdict) (n : ℕ) (asked : Asked t n (conditions_of part q) (besides part q v) (besides (without n part) q v)) where
  abbrev fewer : List Numbered
  fewer = without n part

  weak_rows_go : rows_without n (flat_map weak_of part) (weak_rows t (comparisons_of (statements_in part)) ++ weak_rows t (besides part q v)) ≡ weak_rows t (comparisons_of (statements_in fewer)) ++ weak_rows t (besides fewer q v)
  weak_rows_go =
      let piece = all_pieces n weak_of (weak_own t) (weak_own t) (λ x. x.number == n) (λ x. weak_piece t n x.number (comparison_of x.statement)) part in
      ap (λ (rs : Rows). rows_without n (flat_map weak_of part) (rs ++ weak_rows t (besides part q v))) (weak_all t part)
      ∙ ap (λ (os : Owners). rows_without n os (flat_map (weak_own t) part ++ weak_rows t (besides part q v))) (sym (append-nil (flat_map weak_of part)))
      ∙ join n (flat_map weak_of part) [] (flat_map (weak_own t) part) (weak_rows t (besides part q v)) piece.each
      ∙ ap (λ (rs : Rows). rs ++ weak_rows t (besides part q v)) piece.go
      ∙ ap (λ (rs : Rows). rs ++ weak_rows t (besides part q v)) (sym (weak_all t fewer))
      ∙ ap (λ (rs : Rows). weak_rows t (comparisons_of (statements_in fewer)) ++ rs) asked.weak

  abbrev owners : Owners
  owners = flat_map strict_of part ++ flat_map (pairs_of part) part

  abbrev rest : Rows
  rest = strict_rows t (besides part q v)

  both : Piece n owners (flat_map (strict_own t) part ++ all_pairs t part) (flat_map (strict_own t) fewer ++ all_pairs t fewer)
  both = joined n (flat_map strict_of part) (flat_map (pairs_of part) part) (flat_map (strict_own t) part) (all_pairs t part) (flat_map (strict_own t) fewer) (all_pairs t fewer)
      (all_pieces n strict_of (strict_own t) (strict_own t) (λ x. x.number == n) (λ x. strict_piece t n x.number (comparison_of x.statement)) part)
      (all_pieces n (pairs_of part) (λ x. flat_map (pair_rows t n x) part) (λ x. flat_map (pair_rows t n x) fewer) (λ x. x.number == n) (row_piece t n part) part)

  strict_rows_go : rows_without n (owners ++ conditions_of part q) (strict_rows t (comparisons_of (statements_in part)) ++ rest) ≡ strict_rows t (comparisons_of (statements_in fewer)) ++ strict_rows t (besides fewer q v)
  strict_rows_go =
      ap (λ (rs : Rows). rows_without n (owners ++ conditions_of part q) (rs ++ rest)) (strict_all t part)
      ∙ join n owners (conditions_of part q) (flat_map (strict_own t) part ++ all_pairs t part) rest both.each
      ∙ ap (λ (rs : Rows). rs ++ rows_without n (conditions_of part q) rest) both.go
      ∙ ap (λ (rs : Rows). (flat_map (strict_own t) fewer ++ all_pairs t fewer) ++ rs) asked.strict
      ∙ ap (λ (rs : Rows). rs ++ strict_rows t (besides fewer q v)) (sym (strict_all t fewer))

  none_first : (0 == n) ≡ false → rows_without n ((0, 0) ∷ (owners ++ conditions_of part q)) (ones (columns t) ∷ (strict_rows t (comparisons_of (statements_in part)) ++ rest)) ≡ ones (columns t) ∷ (strict_rows t (comparisons_of (statements_in fewer)) ++ strict_rows t (besides fewer q v))
  none_first none =
      let others = rows_without n (owners ++ conditions_of part q) (strict_rows t (comparisons_of (statements_in part)) ++ rest) in
      ap (λ (b : Bool). if b || b then others else ones (columns t) ∷ others) none ∙ ap (λ (rs : Rows). ones (columns t) ∷ rs) strict_rows_go

pub own_rows : OwnRowsGo
own_rows t part q v n some other =
    let asked = asked_alike t part q v n other in
    record {
      weak = weak_rows_go t part q v n asked;
      strict = none_first t part q v n asked (ne_eqb 0 n (λ zero. omega (arith, zero, some)));
    }
