-- The first fault of the table that a document makes.
use Rattle.std.proofs.Common.{◌≡◌, ℕ, suc, ◌+◌, Bool, true, false, List, [], ◌∷◌, ◌++◌, length, map, Option, Some, None, Result, Ok, Err, refl, sym, ap, ◌∙◌, arith, subst, zero-add}
use Rattle.std.specs.Prelude.{filter, not, nat_lt, is_some, slice_get, unwrap_or, ◌==◌, ◌||◌}
use Rattle.std.specs.List.{list_any, AllZip, AllByRecursion, enumerate_from, range_with_len}
use Rattle.std.proofs.lemmas.Bool.{ne_eqb}
use Rattle.std.proofs.lemmas.List.{length-map}
use Rattle.ror_text.specs.Reading.{◌>>=◌, refuse, need, read_all}
use Rattle.ror_text.proofs.ReadingLemmas.{refuse_ok}
use Rattle.ror_table.specs.declared.amount.Amount.{Amount}
use Rattle.ror_table.specs.declared.direction.Direction.{Direction}
use Rattle.ror_table.specs.declared.direction.Direction.TheVariants.{Max}
use Rattle.ror_table.specs.declared.fault.TableFault.{TableFault}
use Rattle.ror_table.specs.declared.fault.TableKind.TheVariants.{Empty, MissingPerformance, TooMany, WideScale}
use Rattle.ror_table.specs.declared.fault.What.TheVariants as whats
use Rattle.ror_table.specs.Draft.{finished}
use Rattle.ror_table.specs.Plain.{at_line}
use Rattle.ror_table.specs.Table.{Criterion, Alternative, DecisionTable, columns, has_wide_scale}
use Rattle.ror_table.proofs.BlockLemmas.{scale-of-stepwise}
use Rattle.ror_elements.specs.Tree.{Tree}
use Rattle.ror_xmcda.specs.declared.content.Listed.{Listed}
use Rattle.ror_xmcda.specs.declared.roster.Roster.{Roster}
use Rattle.ror_xmcda.specs.Nodes.{id_of, first_of}
use Rattle.ror_xmcda.specs.Performances.{Given, given_at, performances_of}
use Rattle.ror_xmcda.specs.Whole.{criteria_table, next_performance, row_of, with_alternative, table_of}
use Rattle.ror_xmcda.specs.Content.{table_in}
use Rattle.ror_xmcda.specs.Meaning as meaning
use Rattle.ror_xmcda.specs.Meaning.{active, active_categories, listed_alternatives, listed_criteria, IsDirection, IsCriterion, IsAlternative, HasNumber, IsPerformance, AreItsPerformances, performance_groups, performances_in}
use Rattle.ror_xmcda.specs.Faults.{fault_if, all_performance_faults, id_in, is_none, lacks_one, said_direction, said_criterion, number_in, said_number, said_value, said_alternative, said_table, table_faults}
use Rattle.ror_xmcda.proofs.MeaningLemmas.{IsRosterOf}
use Rattle.ror_xmcda.proofs.MeaningTable.{IsFilled, all_filled, filled_meant, all_given}
use Rattle.ror_xmcda.proofs.MeaningWhole.{IsListed}
use Rattle.ror_xmcda.proofs.WholeLemmas.{length-criteria_table}
use Rattle.ror_xmcda.proofs.ReadableLemmas.{zip_length}
use Rattle.ror_xmcda.proofs.ReadableTable.{criteria_same}
use Rattle.ror_xmcda.proofs.ReadableWhole.{linear_nowhere, zip_second}
use Rattle.ror_xmcda.proofs.AgreeLemmas.{Agrees, agrees_bind, agrees_last, agrees_three, agrees_refuse, agrees_need}
use Rattle.ror_xmcda.proofs.AgreeTable.{any_given, performances_agree}

-- ---- the same fault, wherever it comes

agrees_or : {A : Type 0} (r : Result A TableFault) (fault : TableFault) (a b : Bool) → Agrees r (fault_if fault a ++ fault_if fault b) → Agrees r (fault_if fault (a || b))
agrees_or (Ok x) fault true b h = absurd cc
agrees_or (Ok x) fault false b h = h
agrees_or (Err g) fault true b h = h
agrees_or (Err g) fault false b h = h

agrees_any : {S L : Type 0} (P : S → Type 0) (step : S → L → Result S TableFault) (bad : L → Bool) (fault : TableFault) → ((s : S) (x : L) (next : S) → P s → step s x ≡ Ok next → P next) → ((s : S) (x : L) → P s → Agrees (step s x) (fault_if fault (bad x)))
    → (s : S) (xs : List L) → P s → Agrees (read_all step s xs) (fault_if fault (list_any bad xs))
agrees_any P step bad fault more each s [] h = refl
agrees_any P step bad fault more each s (x ∷ xs) h =
    agrees_or (step s x >>= λ next. read_all step next xs) fault (bad x) (list_any bad xs)
    (agrees_bind (step s x) (λ next. read_all step next xs) (fault_if fault (bad x)) (fault_if fault (list_any bad xs)) (each s x h) (λ next e. agrees_any P step bad fault more each next xs (more s x next h e)))

-- ---- the performances of all

abbrev missing : Given → ℕ → ℕ → Bool
missing given a i = not (is_some (given_at given (a, i)))

row_agrees : (given : Given) (n a : ℕ) → Agrees (row_of given n a) (fault_if (at_line 0 MissingPerformance) (list_any (missing given a) (range_with_len 0 n)))
unfolding row_of next_performance
row_agrees given n a =
    agrees_any (λ (row : List Amount). Unit {0}) (next_performance given a) (missing given a) (at_line 0 MissingPerformance) (λ row i next u e. tt)
    (λ row i u. agrees_last (need (at_line 0 MissingPerformance) (given_at given (a, i))) _ (fault_if (at_line 0 MissingPerformance) (missing given a i)) (agrees_need (at_line 0 MissingPerformance) (given_at given (a, i)))) [] (range_with_len 0 n) tt

alternative_agrees : (given : Given) (m : ℕ) (t : DecisionTable) (x : ℕ × List ℕ) → length t.criteria ≡ m → Agrees (with_alternative given t x) (fault_if (at_line 0 MissingPerformance) (list_any (missing given x.0) (range_with_len 0 m)))
unfolding with_alternative
alternative_agrees given m t x h =
    agrees_last (row_of given (length t.criteria) x.0) _ (fault_if (at_line 0 MissingPerformance) (list_any (missing given x.0) (range_with_len 0 m))) (subst (λ (n : ℕ). Agrees (row_of given (length t.criteria) x.0) (fault_if (at_line 0 MissingPerformance) (list_any (missing given x.0) (range_with_len 0 n)))) h (row_agrees given (length t.criteria) x.0))

alternatives_agree : (given : Given) (m : ℕ) (t : DecisionTable) (ids : List (List ℕ)) → length t.criteria ≡ m
    → Agrees (read_all (with_alternative given) t (enumerate_from 0 ids)) (fault_if (at_line 0 MissingPerformance) (list_any (λ x. list_any (missing given x.0) (range_with_len 0 m)) (enumerate_from 0 ids)))
alternatives_agree given m t ids size =
    agrees_any (λ (t : DecisionTable). length t.criteria ≡ m) (with_alternative given) (λ x. list_any (missing given x.0) (range_with_len 0 m)) (at_line 0 MissingPerformance) (λ t x next h e. criteria_same given t x next e ∙ h) (alternative_agrees given m) t (enumerate_from 0 ids) size

-- by places and by elements

any_enumerated : (p : ℕ × List ℕ → Bool) (q : Tree → Bool) (k : ℕ) (ts : List Tree) (ids : List (List ℕ)) → AllZip (λ t id. id_of t ≡ Some id) ts ids → ((j : ℕ) (t : Tree) (id : List ℕ) → slice_get ids j ≡ Some id → id_of t ≡ Some id → p (k + j, id) ≡ q t) → list_any p (enumerate_from k ids) ≡ list_any q ts
any_enumerated p q k [] [] h each = refl
any_enumerated p q k [] (id ∷ ids) h each = absurd h
any_enumerated p q k (t ∷ ts) [] h each = absurd h
any_enumerated p q k (t ∷ ts) (id ∷ ids) h each =
    let first : k ≡ k + 0 = omega arith in
    ap (λ (n : ℕ). p (n, id) || list_any p (enumerate_from (k + 1) ids)) first ∙ ap (λ b. b || list_any p (enumerate_from (k + 1) ids)) (each 0 t id refl h.0)
    ∙ ap (λ b. q t || b) (any_enumerated p q (k + 1) ts ids h.1 (λ j u x at named. let next : (k + 1) + j ≡ k + suc j = omega arith in ap (λ (n : ℕ). p (n, x)) next ∙ each (suc j) u x at named))

any_ranged : (p : ℕ → Bool) (q : Tree → Bool) (k : ℕ) (ts : List Tree) (ids : List (List ℕ)) → AllZip (λ t id. id_of t ≡ Some id) ts ids → ((j : ℕ) (t : Tree) (id : List ℕ) → slice_get ids j ≡ Some id → id_of t ≡ Some id → p (k + j) ≡ q t) → list_any p (range_with_len k (length ids)) ≡ list_any q ts
any_ranged p q k [] [] h each = refl
any_ranged p q k [] (id ∷ ids) h each = absurd h
any_ranged p q k (t ∷ ts) [] h each = absurd h
any_ranged p q k (t ∷ ts) (id ∷ ids) h each =
    let first : k ≡ k + 0 = omega arith in
    ap (λ (n : ℕ). p n || list_any p (range_with_len (k + 1) (length ids))) first ∙ ap (λ b. b || list_any p (range_with_len (k + 1) (length ids))) (each 0 t id refl h.0)
    ∙ ap (λ b. q t || b) (any_ranged p q (k + 1) ts ids h.1 (λ j u x at named. let next : (k + 1) + j ≡ k + suc j = omega arith in ap p next ∙ each (suc j) u x at named))

pub id_said : (t : Tree) (id : List ℕ) → id_of t ≡ Some id → id_in t ≡ id
id_said t id e = ap (λ (o : Option (List ℕ)). unwrap_or o []) e

-- a performance is given at a place exactly where the document has one
given_said : (root : Tree) (alternatives criteria : Roster) (given : Given) (a i : ℕ) (x y : List ℕ) → IsRosterOf (listed_alternatives root) alternatives → IsRosterOf (listed_criteria root) criteria → performances_of alternatives criteria root ≡ Ok given → slice_get alternatives.kept a ≡ Some x → slice_get criteria.kept i ≡ Some y
    → missing given a i ≡ is_none (performances_in x y (performance_groups root))
unfolding meaning.performances_of
given_said root alternatives criteria given a i x y are also e at there = ap not (any_given (a, i) (performances_in x y (performance_groups root)) given (all_given (listed_alternatives root) (listed_criteria root) alternatives criteria root given a i x y are also e at there))

lacks_same : (root : Tree) (alternatives criteria : Roster) (given : Given) → IsRosterOf (listed_alternatives root) alternatives → IsRosterOf (listed_criteria root) criteria → performances_of alternatives criteria root ≡ Ok given
    → list_any (λ x. list_any (missing given x.0) (range_with_len 0 (length criteria.kept))) (enumerate_from 0 alternatives.kept) ≡ lacks_one root
lacks_same root alternatives criteria given are also e =
    any_enumerated (λ x. list_any (missing given x.0) (range_with_len 0 (length criteria.kept))) (λ a. list_any (λ c. is_none (performances_in (id_in a) (id_in c) (performance_groups root))) (filter active (listed_criteria root))) 0 (filter active (listed_alternatives root)) alternatives.kept are.kept (λ a t x at named.
    any_ranged (missing given (0 + a)) (λ c. is_none (performances_in (id_in t) (id_in c) (performance_groups root))) 0 (filter active (listed_criteria root)) criteria.kept also.kept (λ i u y there called.
    ap (λ (m : ℕ). missing given m (0 + i)) (zero-add a) ∙ ap (missing given a) (zero-add i) ∙ given_said root alternatives criteria given a i x y are also e at there
    ∙ ap (λ (z : List ℕ). is_none (performances_in z y (performance_groups root))) (sym (id_said t x named)) ∙ ap (λ (z : List ℕ). is_none (performances_in (id_in t) z (performance_groups root))) (sym (id_said u y called))))

-- ---- the table that is said

direction_said : (o : Option Tree) (d : Direction) → IsDirection o d → d ≡ said_direction o
direction_said None d h = h
direction_said (Some t) d h = sym (ap (λ (x : Option Direction). unwrap_or x Max) h)

criterion_said : (t : Tree) (c : Criterion) → IsCriterion t c → c ≡ said_criterion t
criterion_said t c h = all c.id (id_in t) c.direction _ c.linear false (sym (id_said t c.id h.id)) (direction_said _ c.direction h.direction) h.stepwise
  where
    all : (i j : List ℕ) (x y : Direction) (k l : Bool) → i ≡ j → x ≡ y → k ≡ l → ◌≡◌ {A = Criterion} (record { id = i; direction = x; linear = k }) (record { id = j; direction = y; linear = l })
    all i j x y k l same also third = rw (same, also, third) refl

zip_map : {A B : Type 0} (R : A → B → Type 0) (f : A → B) → ((x : A) (y : B) → R x y → y ≡ f x) → (xs : List A) (ys : List B) → AllZip R xs ys → ys ≡ map f xs
zip_map R f each [] [] h = refl
zip_map R f each [] (y ∷ ys) h = absurd h
zip_map R f each (x ∷ xs) [] h = absurd h
zip_map R f each (x ∷ xs) (y ∷ ys) h = rw (each x y h.0, zip_map R f each xs ys h.1) refl

number_said : (root : Tree) (x y : List ℕ) (p : Amount) → IsPerformance root x y p → p ≡ said_value (first_of (performances_in x y (performance_groups root)))
unfolding meaning.performances_of
number_said root x y p h =
    sym (ap (λ (ts : List Tree). said_value (first_of ts)) h.only ∙ ap number_in h.number.first ∙ ap said_number h.number.number)

row_said : (root : Tree) (x : List ℕ) (ts : List Tree) (cs : List Criterion) (ps : List Amount) → AllZip IsCriterion ts cs → AllZip (λ (c : Criterion) p. IsPerformance root x c.id p) cs ps → ps ≡ map (λ c. said_value (first_of (performances_in x (id_in c) (performance_groups root)))) ts
row_said root x [] [] [] h r = refl
row_said root x [] [] (p ∷ ps) h r = absurd r
row_said root x [] (c ∷ cs) ps h r = absurd h
row_said root x (t ∷ ts) [] ps h r = absurd h
row_said root x (t ∷ ts) (c ∷ cs) [] h r = absurd r
row_said root x (t ∷ ts) (c ∷ cs) (p ∷ ps) h r =
    let here : p ≡ said_value (first_of (performances_in x (id_in t) (performance_groups root))) = number_said root x c.id p r.0 ∙ ap (λ (z : List ℕ). said_value (first_of (performances_in x z (performance_groups root)))) (sym (id_said t c.id h.0.id)) in
    rw (here, row_said root x ts cs ps h.1 r.1) refl

alternatives_said : (root : Tree) (ts : List Tree) (cs : List Criterion) (us : List Alternative) → AllZip IsCriterion (filter active (listed_criteria root)) cs → AllZip IsAlternative ts us → AllByRecursion (AreItsPerformances root cs) us → us ≡ map (said_alternative root) ts
alternatives_said root [] cs [] h r k = refl
alternatives_said root [] cs (u ∷ us) h r k = absurd r
alternatives_said root (t ∷ ts) cs [] h r k = absurd r
alternatives_said root (t ∷ ts) cs (u ∷ us) h r k =
    let name : u.id ≡ id_in t = sym (id_said t u.id r.0) in
    let row = row_said root u.id (filter active (listed_criteria root)) cs u.performances h k.0 in
    rw (both u.id (id_in t) u.performances _ name (row ∙ ap (λ (z : List ℕ). map (λ c. said_value (first_of (performances_in z (id_in c) (performance_groups root)))) (filter active (listed_criteria root))) name), alternatives_said root ts cs us h r.1 k.1) refl
  where
    both : (i j : List ℕ) (xs ys : List Amount) → i ≡ j → xs ≡ ys → ◌≡◌ {A = Alternative} (record { id = i; performances = xs }) (record { id = j; performances = ys })
    both i j xs ys same also = rw (same, also) refl

table_said : (root : Tree) (t : DecisionTable) → AllZip IsCriterion (filter active (listed_criteria root)) t.criteria → AllZip IsAlternative (filter active (listed_alternatives root)) t.alternatives → AllByRecursion (AreItsPerformances root t.criteria) t.alternatives → t.classes ≡ length (active_categories root) → t ≡ said_table root
table_said root t c a p k =
    all t.criteria _ t.alternatives _ t.classes _ (zip_map IsCriterion said_criterion criterion_said (filter active (listed_criteria root)) t.criteria c) (alternatives_said root (filter active (listed_alternatives root)) t.criteria t.alternatives c a p) k
  where
    all : (cs ds : List Criterion) (us vs : List Alternative) (k n : ℕ) → cs ≡ ds → us ≡ vs → k ≡ n → ◌≡◌ {A = DecisionTable} (record { criteria = cs; alternatives = us; classes = k }) (record { criteria = ds; alternatives = vs; classes = n })
    all cs ds us vs k n one two three = rw (one, two, three) refl

-- ---- the faults of the table

-- what is known of a table that was filled
pub record IsSaid (root : Tree) (t : DecisionTable) : Type 0 where
  pub is : t ≡ said_table root
  pub narrow : has_wide_scale t ≡ false
  pub criteria : length t.criteria ≡ length (filter active (listed_criteria root))
  pub alternatives : length t.alternatives ≡ length (filter active (listed_alternatives root))

filled_said : (root : Tree) (l : Listed) (given : Given) (t : DecisionTable) → IsListed root l → performances_of l.alternatives l.criteria.ids root ≡ Ok given
    → IsFilled given (record (criteria_table l.criteria) { classes = length l.categories.ranks }) (enumerate_from 0 l.alternatives.kept) t → IsSaid root t
filled_said root l given t listed e filled =
    let meant = filled_meant root (listed_alternatives root) (listed_criteria root) l.alternatives l.criteria given (length l.categories.ranks) t listed.alternatives listed.criteria e filled in
    let criteria : AllZip IsCriterion (filter active (listed_criteria root)) t.criteria = subst (λ (cs : List Criterion). AllZip IsCriterion (filter active (listed_criteria root)) cs) (sym meant.criteria) listed.made in
    let classes : length l.categories.ranks ≡ length (active_categories root) = ap length listed.categories.ranks ∙ length-map (active_categories root) _ in
    record {
      is = table_said root t criteria meant.alternatives meant.performances (meant.classes ∙ classes);
      narrow = scale-of-stepwise t (linear_nowhere t.criteria (zip_second IsCriterion (λ (c : Criterion). c.linear ≡ false) (filter active (listed_criteria root)) t.criteria (λ u c h. h.stepwise) criteria));
      criteria = sym (zip_length IsCriterion (filter active (listed_criteria root)) t.criteria criteria);
      alternatives = sym (zip_length IsAlternative (filter active (listed_alternatives root)) t.alternatives meant.alternatives);
    }

none_same : (ts : List Tree) (n : ℕ) → n ≡ length ts → (n == 0) ≡ is_none ts
none_same [] n e = ap (λ (m : ℕ). m == 0) e
none_same (t ∷ ts) n e = ne_eqb n 0 (λ (z : n ≡ 0). omega (arith, e, z))

finished_agrees : (root : Tree) (t : DecisionTable) → IsSaid root t → (is_none (filter active (listed_criteria root)) || is_none (filter active (listed_alternatives root))) ≡ false
    → Agrees (finished (at_line 0 Empty) (at_line 0 (TooMany whats.Steps)) (at_line 0 WideScale) t) (fault_if (at_line 0 (TooMany whats.Steps)) (nat_lt 2000 (columns (said_table root))))
unfolding finished
finished_agrees root t said some =
    let empty : (length t.criteria == 0 || length t.alternatives == 0) ≡ false = ap (λ b. b || length t.alternatives == 0) (none_same (filter active (listed_criteria root)) (length t.criteria) said.criteria) ∙ ap (λ b. is_none (filter active (listed_criteria root)) || b) (none_same (filter active (listed_alternatives root)) (length t.alternatives) said.alternatives) ∙ some in
    let steps : nat_lt 2000 (columns t) ≡ nat_lt 2000 (columns (said_table root)) = ap (λ (u : DecisionTable). nat_lt 2000 (columns u)) said.is in
    by (length t.criteria == 0 || length t.alternatives == 0) (nat_lt 2000 (columns t)) (has_wide_scale t) (nat_lt 2000 (columns (said_table root))) empty said.narrow steps
  where
    by : (a b c d : Bool) → a ≡ false → c ≡ false → b ≡ d → Agrees (refuse (at_line 0 Empty) a >>= λ _. refuse (at_line 0 (TooMany whats.Steps)) b >>= λ _. refuse (at_line 0 WideScale) c >>= λ _. Ok t) (fault_if (at_line 0 (TooMany whats.Steps)) d)
    by true b c d p q r = absurd cc
    by false b true d p q r = absurd cc
    by false true false true p q r = refl
    by false true false false p q r = absurd cc
    by false false false true p q r = absurd cc
    by false false false false p q r = refl

table_agrees : (root : Tree) (l : Listed) (given : Given) → IsListed root l → performances_of l.alternatives l.criteria.ids root ≡ Ok given → Agrees (table_of given l.criteria l.alternatives.kept (length l.categories.ranks)) (table_faults root)
unfolding table_of
table_agrees root l given listed e =
    let began : DecisionTable = record (criteria_table l.criteria) { classes = length l.categories.ranks } in
    let none : Bool = is_none (filter active (listed_criteria root)) || is_none (filter active (listed_alternatives root)) in
    let kept = zip_length (λ t id. id_of t ≡ Some id) (filter active (listed_alternatives root)) l.alternatives.kept listed.alternatives.kept in
    let also = zip_length (λ t id. id_of t ≡ Some id) (filter active (listed_criteria root)) l.criteria.ids.kept listed.criteria.kept in
    let empty : (length l.criteria.ids.kept == 0 || length l.alternatives.kept == 0) ≡ none = ap (λ b. b || length l.alternatives.kept == 0) (none_same (filter active (listed_criteria root)) (length l.criteria.ids.kept) (sym also)) ∙ ap (λ b. is_none (filter active (listed_criteria root)) || b) (none_same (filter active (listed_alternatives root)) (length l.alternatives.kept) (sym kept)) in
    let steps : List TableFault = fault_if (at_line 0 (TooMany whats.Steps)) (nat_lt 2000 (columns (said_table root))) in
    agrees_three (table_of given l.criteria l.alternatives.kept (length l.categories.ranks)) (fault_if (at_line 0 Empty) none) (fault_if (at_line 0 MissingPerformance) (lacks_one root)) steps
    (agrees_bind (refuse (at_line 0 Empty) (length l.criteria.ids.kept == 0 || length l.alternatives.kept == 0)) _ (fault_if (at_line 0 Empty) none) (fault_if (at_line 0 MissingPerformance) (lacks_one root) ++ steps)
    (subst (λ b. Agrees (refuse (at_line 0 Empty) (length l.criteria.ids.kept == 0 || length l.alternatives.kept == 0)) (fault_if (at_line 0 Empty) b)) empty (agrees_refuse (at_line 0 Empty) (length l.criteria.ids.kept == 0 || length l.alternatives.kept == 0))) (λ u f.
    agrees_bind (read_all (with_alternative given) began (enumerate_from 0 l.alternatives.kept)) _ (fault_if (at_line 0 MissingPerformance) (lacks_one root)) steps
    (subst (λ b. Agrees (read_all (with_alternative given) began (enumerate_from 0 l.alternatives.kept)) (fault_if (at_line 0 MissingPerformance) b)) (lacks_same root l.alternatives l.criteria.ids given listed.alternatives listed.criteria e) (alternatives_agree given (length l.criteria.ids.kept) began l.alternatives.kept (length-criteria_table l.criteria))) (λ t g.
    finished_agrees root t (filled_said root l given t listed e (all_filled given l.criteria l.alternatives.kept (length l.categories.ranks) t g)) (sym empty ∙ refuse_ok (at_line 0 Empty) (length l.criteria.ids.kept == 0 || length l.alternatives.kept == 0) u f))))

pub table_in_agrees : (root : Tree) (l : Listed) → IsListed root l → Agrees (table_in l root) (all_performance_faults root ++ table_faults root)
unfolding table_in
table_in_agrees root l listed =
    agrees_bind (performances_of l.alternatives l.criteria.ids root) _ (all_performance_faults root) (table_faults root) (performances_agree root l.alternatives l.criteria.ids listed.alternatives listed.criteria) (λ given e. table_agrees root l given listed e)
