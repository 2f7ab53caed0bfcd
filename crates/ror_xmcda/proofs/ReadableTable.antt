-- That the performances are read, and the table of them.
use Rattle.std.proofs.Common.{◌≡◌, ℕ, ◌<◌, ◌≤◌, Bool, true, false, List, [], ◌∷◌, ◌++◌, length, get_or, Option, Some, None, Result, Ok, refl, sym, ap, ◌∙◌, arith, cond, subst, append_assoc}
use Rattle.std.specs.Prelude.{codes, filter, slice_get, is_some, nat_lt, ◌==◌, ◌||◌}
use Rattle.std.specs.List.{AllZip, AllByRecursion, enumerate_from, range_with_len, flat_map}
use Rattle.std.proofs.lemmas.Bool.{or_from, ne_eqb, eq-eqb, le-ltb}
use Rattle.std.proofs.lemmas.Grind.{flat_map-append}
use Rattle.std.proofs.lemmas.List.Elements.{filter-append}
use Rattle.std.proofs.lemmas.Option.{slice_get-get_or}
use Rattle.ror_text.specs.Reading.{refuse, need, read_all}
use Rattle.ror_text.proofs.ReadingLemmas.{bind_ok, need_ok}
use Rattle.ror_table.specs.declared.amount.Amount.{Amount}
use Rattle.ror_table.specs.declared.fault.TableFault.{TableFault}
use Rattle.ror_table.specs.Draft.{add_alternative, finished}
use Rattle.ror_table.specs.Table.{DecisionTable, columns, has_wide_scale}
use Rattle.ror_table.proofs.NameLemmas.{place_of-sound}
use Rattle.ror_elements.specs.Tree.{Tree}
use Rattle.ror_xmcda.specs.declared.criteria.Criteria.{Criteria}
use Rattle.ror_xmcda.specs.declared.roster.Roster.{Roster}
use Rattle.ror_xmcda.specs.Nodes.{text_of, named, first_named}
use Rattle.ror_xmcda.specs.Listing.{standing_in}
use Rattle.ror_xmcda.specs.Numbers.{number_of}
use Rattle.ror_xmcda.specs.Performances.{Place, Given, given_at, first_inside, value_of, kept_performance, performance_at, performance, performances, performances_of}
use Rattle.ror_xmcda.specs.Whole.{criteria_table, next_performance, row_of, with_alternative, table_of}
use Rattle.ror_xmcda.specs.Meaning as meaning
use Rattle.ror_xmcda.specs.Meaning.{listed_alternatives, listed_criteria, child_text, is_id_of, names, performance_groups, performances_in, IsKnownGroup, HasNumber, IsPerformance}
use Rattle.ror_xmcda.proofs.MeaningLemmas.{IsRosterOf, standing_at_place}
use Rattle.ror_xmcda.proofs.MeaningOnce.{some_same}
use Rattle.ror_xmcda.proofs.MeaningTable.{numbers_at, first_number, given-first, stands, stands_at, stands_is, AreGiven, taken, taken_more, taken_first, group_more, all_given, IsFilled, all_filled}
use Rattle.ror_xmcda.proofs.ReadableLemmas.{Reads, reads_ok, reads_bind, reads_refuse, reads_need, reads_on, reads_each, middle, range_each, enumerate_each, standing_in_reads}

-- ---- a performance

kept_reads : (given : Given) (place : Place) (t : Tree) (p : Amount) → HasNumber t p → given_at given place ≡ None → Reads (kept_performance given place t)
unfolding kept_performance value_of
kept_reads given place t p h free =
    reads_bind (need _ (first_inside (first_named (codes "value") t))) _ (reads_need _ (first_inside (first_named (codes "value") t)) (ap is_some h.first)) (λ v e.
    reads_bind (number_of v) _ (p, number v (need_ok _ (first_inside (first_named (codes "value") t)) v e)) (λ n f.
    reads_bind (refuse _ (is_some (given_at given place))) _ (reads_refuse _ (is_some (given_at given place)) (ap is_some free)) (λ u g. reads_ok _)))
  where
    number : (v : Tree) → first_inside (first_named (codes "value") t) ≡ Some v → number_of v ≡ Ok p
    number v e = subst (λ (x : Tree). number_of x ≡ Ok p) (some_same h.value v (first_inside (first_named (codes "value") t)) h.first e) h.number

-- the place where an element's first child of a name stands
place_there : (listed : List Tree) (r : Roster) (owner : Tree) (o : Option Tree) (k : ℕ) → IsRosterOf listed r → standing_in r owner o ≡ Ok (Some k) → (id : List ℕ) × (slice_get r.kept k ≡ Some id)
place_there listed r owner None k are e = absurd cc
place_there listed r owner (Some t) k are e = (text_of t, stands r.kept k (text_of t) (place_of-sound r.kept (text_of t) k (sym (standing_at_place listed r t (Some k) are e))))

-- ---- one among the elements of a place

not_nil : {A : Type 0} (xs ys : List A) (x : A) (zs : List A) → xs ++ ((ys ++ x ∷ zs)) ≡ [] → ⊥
not_nil [] [] x zs e = absurd cc
not_nil [] (y ∷ ys) x zs e = absurd cc
not_nil (w ∷ xs) ys x zs e = absurd cc

alone : {A : Type 0} (xs ys : List A) (x : A) (zs : List A) (e : A) → xs ++ (ys ++ x ∷ zs) ≡ e ∷ [] → (xs ++ ys ≡ []) × (x ≡ e)
alone [] [] x zs e same = (refl, cc)
alone [] (y ∷ ys) x zs e same = let rest : ys ++ x ∷ zs ≡ [] = cc in absurd (not_nil [] ys x zs rest)
alone (w ∷ xs) ys x zs e same = let rest : xs ++ (ys ++ x ∷ zs) ≡ [] = cc in absurd (not_nil xs ys x zs rest)

-- those of a place, around one of them
performances_in-split : (alternative criterion : List ℕ) (groups later ts us : List Tree) (group t : Tree) → named (codes "performance") group ≡ ts ++ t ∷ us → names (codes "alternativeID") alternative group ≡ true → names (codes "criterionID") criterion t ≡ true
    → performances_in alternative criterion (groups ++ group ∷ later) ≡ performances_in alternative criterion groups ++ (filter (names (codes "criterionID") criterion) ts ++ t ∷ (filter (names (codes "criterionID") criterion) us ++ performances_in alternative criterion later))
performances_in-split alternative criterion groups later ts us group t split mine on =
    let p : Tree → Bool = names (codes "alternativeID") alternative in
    let q : Tree → Bool = names (codes "criterionID") criterion in
    let f : Tree → List Tree = λ group. filter q (named (codes "performance") group) in
    let inner : filter q (named (codes "performance") group) ≡ filter q ts ++ t ∷ filter q us = ap (filter q) split ∙ filter-append q ts (t ∷ us) ∙ ap (λ b. filter q ts ++ cond b (t ∷ filter q us) (filter q us)) on in
    let here : flat_map f (filter p (group ∷ later)) ≡ f group ++ performances_in alternative criterion later = ap (λ b. flat_map f (cond b (group ∷ filter p later) (filter p later))) mine in
    ap (flat_map f) (filter-append p groups (group ∷ later))
    ∙ flat_map-append f (filter p groups) (filter p (group ∷ later))
    ∙ ap (λ (xs : List Tree). performances_in alternative criterion groups ++ xs) (here ∙ ap (λ (xs : List Tree). xs ++ performances_in alternative criterion later) inner ∙ append_assoc (filter q ts) (t ∷ filter q us) (performances_in alternative criterion later))

-- where there are no elements yet, nothing is given
none_given : (place : Place) (elements : List Tree) (given : Given) → elements ≡ [] → AreGiven place elements given → given_at given place ≡ None
none_given place elements given none are = given-first place given ∙ by (numbers_at place given) (subst (λ (ts : List Tree). AllZip HasNumber ts (numbers_at place given)) none are.numbers)
  where
    by : (zs : List Amount) → AllZip HasNumber [] zs → first_number zs ≡ None
    by [] h = refl
    by (z ∷ zs) h = absurd h

-- and where there is one, its number is
one_given : (place : Place) (elements : List Tree) (element : Tree) (given : Given) → elements ≡ element ∷ [] → AreGiven place elements given → is_some (given_at given place) ≡ true
one_given place elements element given one are = ap is_some (given-first place given) ∙ by (numbers_at place given) (subst (λ (ts : List Tree). AllZip HasNumber ts (numbers_at place given)) one are.numbers)
  where
    by : (zs : List Amount) → AllZip HasNumber (element ∷ []) zs → is_some (first_number zs) ≡ true
    by [] h = absurd h
    by (z ∷ zs) h = refl

-- ---- all performances

-- an active alternative has one performance on an active criterion
abbrev pub HaveOne : Tree → Roster → Roster → Type 0
HaveOne root alternatives criteria = (a i : ℕ) (alternative criterion : List ℕ) → slice_get alternatives.kept a ≡ Some alternative → slice_get criteria.kept i ≡ Some criterion → (p : Amount) × IsPerformance root alternative criterion p

-- what is given at each place, of the elements that are its own
abbrev pub AreGivenOf : Roster → Roster → (ℕ → List ℕ → List ℕ → List Tree) → Given → Type 0
AreGivenOf alternatives criteria elements given = (a i : ℕ) (alternative criterion : List ℕ) → slice_get alternatives.kept a ≡ Some alternative → slice_get criteria.kept i ≡ Some criterion → AreGiven (a, i) (elements a alternative criterion) given

-- where the reading stands: in a group of the alternative that stands at a place, if it is active
record IsInGroup (root : Tree) (alternatives criteria : Roster) (groups : List Tree) (group : Tree) (later : List Tree) (s : Option ℕ) : Type 0 where
  alternatives_are : IsRosterOf (listed_alternatives root) alternatives
  criteria_are : IsRosterOf (listed_criteria root) criteria
  one : HaveOne root alternatives criteria
  split : groups ++ group ∷ later ≡ performance_groups root
  known : IsKnownGroup root group
  read : standing_in alternatives group (first_named (codes "alternativeID") group) ≡ Ok s

abbrev pub elements_in : List Tree → List Tree → Option ℕ → ℕ → List ℕ → List ℕ → List Tree
elements_in groups ts s a alternative criterion = performances_in alternative criterion groups ++ taken (stands_at a s) criterion ts

-- a performance of an active alternative on an active criterion
active_reads : (root : Tree) (alternatives criteria : Roster) (groups : List Tree) (group : Tree) (later ts : List Tree) (t : Tree) (us : List Tree) (a i : ℕ) (given : Given) → IsInGroup root alternatives criteria groups group later (Some a) → ts ++ t ∷ us ≡ named (codes "performance") group
    → AreGivenOf alternatives criteria (elements_in groups ts (Some a)) given → standing_in criteria t (first_named (codes "criterionID") t) ≡ Ok (Some i) → Reads (kept_performance given (a, i) t)
unfolding meaning.performances_of
active_reads root alternatives criteria groups group later ts t us a i given are split h on =
    let x = place_there (listed_alternatives root) alternatives group (first_named (codes "alternativeID") group) a are.alternatives_are are.read in
    let y = place_there (listed_criteria root) criteria t (first_named (codes "criterionID") t) i are.criteria_are on in
    let mine : names (codes "alternativeID") x.0 group ≡ true = stands_is (listed_alternatives root) alternatives group (first_named (codes "alternativeID") group) (Some a) a x.0 are.alternatives_are x.1 are.read ∙ eq-eqb a a refl in
    let named_on : names (codes "criterionID") y.0 t ≡ true = stands_is (listed_criteria root) criteria t (first_named (codes "criterionID") t) (Some i) i y.0 are.criteria_are y.1 on ∙ eq-eqb i i refl in
    let one = are.one a i x.0 y.0 x.1 y.1 in
    let lists : performances_in x.0 y.0 groups ++ (filter (names (codes "criterionID") y.0) ts ++ t ∷ (filter (names (codes "criterionID") y.0) us ++ performances_in x.0 y.0 later)) ≡ one.1.element ∷ [] =
    sym (performances_in-split x.0 y.0 groups later ts us group t (sym split) mine named_on) ∙ ap (performances_in x.0 y.0) are.split ∙ one.1.only in
    let parts = alone (performances_in x.0 y.0 groups) (filter (names (codes "criterionID") y.0) ts) t (filter (names (codes "criterionID") y.0) us ++ performances_in x.0 y.0 later) one.1.element lists in
    let none : elements_in groups ts (Some a) a x.0 y.0 ≡ [] = ap (λ b. performances_in x.0 y.0 groups ++ taken b y.0 ts) (eq-eqb a a refl) ∙ parts.0 in
    kept_reads given (a, i) t one.0 (subst (λ (u : Tree). HasNumber u one.0) (sym parts.1) one.1.number) (none_given (a, i) (elements_in groups ts (Some a) a x.0 y.0) given none (h a i x.0 y.0 x.1 y.1))

performance_reads : (root : Tree) (alternatives criteria : Roster) (groups : List Tree) (group : Tree) (later ts : List Tree) (t : Tree) (us : List Tree) (s : Option ℕ) (given : Given) → IsInGroup root alternatives criteria groups group later s → ts ++ t ∷ us ≡ named (codes "performance") group
    → AreGivenOf alternatives criteria (elements_in groups ts s) given → Reads (performance criteria s given t)
unfolding performance
performance_reads root alternatives criteria groups group later ts t us s given are split h =
    let each = are.known.criteria in
    let known : is_id_of (listed_criteria root) (child_text (codes "criterionID") t) ≡ true =
    middle (λ t. is_id_of (listed_criteria root) (child_text (codes "criterionID") t) ≡ true) ts t us (subst (AllByRecursion (λ t. is_id_of (listed_criteria root) (child_text (codes "criterionID") t) ≡ true)) (sym split) each) in
    reads_bind (standing_in criteria t (first_named (codes "criterionID") t)) _ (standing_in_reads (listed_criteria root) criteria t (first_named (codes "criterionID") t) are.criteria_are known) (λ c e. by s c are h e)
  where
    by : (s c : Option ℕ) → IsInGroup root alternatives criteria groups group later s → AreGivenOf alternatives criteria (elements_in groups ts s) given → standing_in criteria t (first_named (codes "criterionID") t) ≡ Ok c → Reads (performance_at given s c t)
    by (Some a) (Some i) are h e = active_reads root alternatives criteria groups group later ts t us a i given are split h e
    by (Some a) None are h e = reads_ok given
    by None c are h e = reads_ok given

group_reads : (root : Tree) (alternatives criteria : Roster) (groups : List Tree) (group : Tree) (later : List Tree) (given : Given) → IsRosterOf (listed_alternatives root) alternatives → IsRosterOf (listed_criteria root) criteria → HaveOne root alternatives criteria → IsKnownGroup root group
    → groups ++ group ∷ later ≡ performance_groups root → AreGivenOf alternatives criteria (λ a alternative criterion. performances_in alternative criterion groups) given → Reads (performances alternatives criteria given group)
unfolding performances
group_reads root alternatives criteria groups group later given are also one known split h =
    reads_bind (standing_in alternatives group (first_named (codes "alternativeID") group)) _ (standing_in_reads (listed_alternatives root) alternatives group (first_named (codes "alternativeID") group) are known.alternative) (λ s e.
    let here : IsInGroup root alternatives criteria groups group later s = record { alternatives_are = are; criteria_are = also; one = one; split = split; known = known; read = e } in
    reads_on (λ ts now. AreGivenOf alternatives criteria (elements_in groups ts s) now) (performance criteria s) (named (codes "performance") group)
    (λ ts now t next k f a i alternative criterion at there. taken_more (listed_criteria root) criteria a i criterion s (performances_in alternative criterion groups) ts now t next also there (k a i alternative criterion at there) f)
    (λ ts t us now is k. performance_reads root alternatives criteria groups group later ts t us s now here is k)
    [] given (named (codes "performance") group) refl (λ a i alternative criterion at there. taken_first (a, i) (stands_at a s) criterion (performances_in alternative criterion groups) given (h a i alternative criterion at there)))

pub performances_read : (root : Tree) (alternatives criteria : Roster) → IsRosterOf (listed_alternatives root) alternatives → IsRosterOf (listed_criteria root) criteria → HaveOne root alternatives criteria → AllByRecursion (IsKnownGroup root) (performance_groups root) → Reads (performances_of alternatives criteria root)
unfolding performances_of
performances_read root alternatives criteria are also one known =
    reads_on (λ groups now. AreGivenOf alternatives criteria (λ a alternative criterion. performances_in alternative criterion groups) now) (performances alternatives criteria) (performance_groups root)
    (λ groups now group next k f a i alternative criterion at there. group_more (listed_alternatives root) (listed_criteria root) alternatives criteria a i alternative criterion are also at there groups now group next (k a i alternative criterion at there) f)
    (λ groups group later now is k. group_reads root alternatives criteria groups group later now are also one (middle (IsKnownGroup root) groups group later (subst (AllByRecursion (IsKnownGroup root)) (sym is) known)) is k)
    [] [] (performance_groups root) refl (λ a i alternative criterion at there. record { numbers = tt; few = tt })

-- ---- the table

-- each performance that is wanted is given
pub each_given : (root : Tree) (alternatives criteria : Roster) (given : Given) → IsRosterOf (listed_alternatives root) alternatives → IsRosterOf (listed_criteria root) criteria → HaveOne root alternatives criteria → performances_of alternatives criteria root ≡ Ok given
    → (a i : ℕ) → a < length alternatives.kept → i < length criteria.kept → is_some (given_at given (a, i)) ≡ true
each_given root alternatives criteria given are also one e a i within inside =
    let x : List ℕ = get_or alternatives.kept a [] in
    let y : List ℕ = get_or criteria.kept i [] in
    let at = slice_get-get_or alternatives.kept a [] within in
    let there = slice_get-get_or criteria.kept i [] inside in
    let only = one a i x y at there in
    one_given (a, i) (meaning.performances_of root x y) only.1.element given only.1.only (all_given (listed_alternatives root) (listed_criteria root) alternatives criteria root given a i x y are also e at there)

row_reads : (given : Given) (n a : ℕ) → ((i : ℕ) → i < n → is_some (given_at given (a, i)) ≡ true) → Reads (row_of given n a)
unfolding row_of next_performance
row_reads given n a each =
    reads_each (λ (row : List Amount). Unit {0}) (next_performance given a) (λ row i next u e. tt) [] (range_with_len 0 n) tt (range_each (λ i. (row : List Amount) → Unit {0} → Reads (next_performance given a row i)) 0 n (λ i l m row u.
    reads_bind (need _ (given_at given (a, i))) _ (reads_need _ (given_at given (a, i)) (each i (omega arith))) (λ z e. reads_ok _)))

alternative_reads : (given : Given) (m : ℕ) (t : DecisionTable) (a : ℕ) (id : List ℕ) → length t.criteria ≡ m → ((i : ℕ) → i < m → is_some (given_at given (a, i)) ≡ true) → Reads (with_alternative given t (a, id))
unfolding with_alternative
alternative_reads given m t a id size each =
    reads_bind (row_of given (length t.criteria) a) _ (row_reads given (length t.criteria) a (λ i l. each i (omega (arith, size)))) (λ row e. reads_ok _)

pub criteria_same : (given : Given) (t : DecisionTable) (x : ℕ × List ℕ) (next : DecisionTable) → with_alternative given t x ≡ Ok next → length next.criteria ≡ length t.criteria
unfolding with_alternative
criteria_same given t x next e =
    let b = bind_ok (row_of given (length t.criteria) x.0) _ next e in
    let same : add_alternative t x.1 b.0 ≡ next = (let r : ◌≡◌ {A = Result DecisionTable TableFault} (Ok (add_alternative t x.1 b.0)) (Ok next) = b.2 in cc) in
    ap (λ (u : DecisionTable). length u.criteria) (sym same)

pub alternatives_read : (given : Given) (m : ℕ) (t : DecisionTable) (ids : List (List ℕ)) → length t.criteria ≡ m → ((a i : ℕ) → a < length ids → i < m → is_some (given_at given (a, i)) ≡ true) → Reads (read_all (with_alternative given) t (enumerate_from 0 ids))
alternatives_read given m t ids size each =
    reads_each (λ (t : DecisionTable). length t.criteria ≡ m) (with_alternative given) (λ t x next h e. criteria_same given t x next e ∙ h) t (enumerate_from 0 ids) size
    (enumerate_each (λ x. (t : DecisionTable) → length t.criteria ≡ m → Reads (with_alternative given t x)) 0 ids (λ a id l k t h. alternative_reads given m t a id h (λ i j. each a i (omega arith) j)))

not_zero : (n : ℕ) → 0 < n → (n == 0) ≡ false
not_zero n some = ne_eqb n 0 (λ (e : n ≡ 0). omega arith)

finished_reads : {F : Type 0} (empty wide wide_scale : F) (t : DecisionTable) → 0 < length t.criteria → 0 < length t.alternatives → columns t ≤ 2000 → has_wide_scale t ≡ false → Reads (finished empty wide wide_scale t)
unfolding finished
finished_reads empty wide wide_scale t criteria alternatives few narrow =
    reads_bind (refuse empty (length t.criteria == 0 || length t.alternatives == 0)) _ (reads_refuse empty (length t.criteria == 0 || length t.alternatives == 0) (or_from (length t.criteria == 0) (length t.alternatives == 0) (not_zero (length t.criteria) criteria) (not_zero (length t.alternatives) alternatives))) (λ u e.
    reads_bind (refuse wide (nat_lt 2000 (columns t))) _ (reads_refuse wide (nat_lt 2000 (columns t)) (le-ltb 2000 (columns t) few)) (λ v f.
    reads_bind (refuse wide_scale (has_wide_scale t)) _ (reads_refuse wide_scale (has_wide_scale t) narrow) (λ w g. reads_ok t)))

-- a table is given where there are a criterion and an alternative, each performance is given, and what is made is within the limits
pub table_reads : (given : Given) (c : Criteria) (ids : List (List ℕ)) (k : ℕ) → 0 < length c.ids.kept → 0 < length ids → length (criteria_table c).criteria ≡ length c.ids.kept → ((a i : ℕ) → a < length ids → i < length c.ids.kept → is_some (given_at given (a, i)) ≡ true)
    → ((t : DecisionTable) → IsFilled given (record (criteria_table c) { classes = k }) (enumerate_from 0 ids) t → (0 < length t.criteria) × (0 < length t.alternatives) × (columns t ≤ 2000) × (has_wide_scale t ≡ false)) → Reads (table_of given c ids k)
unfolding table_of
table_reads given c ids k criteria alternatives size each within =
    let began : DecisionTable = record (criteria_table c) { classes = k } in
    reads_bind (refuse _ (length c.ids.kept == 0 || length ids == 0)) _ (reads_refuse _ (length c.ids.kept == 0 || length ids == 0) (or_from (length c.ids.kept == 0) (length ids == 0) (not_zero (length c.ids.kept) criteria) (not_zero (length ids) alternatives))) (λ u e.
    reads_bind (read_all (with_alternative given) began (enumerate_from 0 ids)) _ (alternatives_read given (length c.ids.kept) began ids size each) (λ t f.
    let w = within t (all_filled given c ids k t f) in
    finished_reads _ _ _ t w.0 w.1 w.2 w.3))
