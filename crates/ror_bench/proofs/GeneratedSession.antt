-- The generated session: its lines one by one, that it is sound, and that the hidden value meets its statements.
use Rattle.std.proofs.Common.{◌≡◌, ℕ, zero, suc, ◌+◌, ◌*◌, ◌<◌, ◌≤◌, Bool, true, false, List, [], ◌∷◌, ◌++◌, length, map, ℤ, eqb, refl, sym, ap, ap₂, ◌∙◌, subst, arith, rules, append_assoc, w64, FitsSigned, to_z, of_z, slice_get}
use Rattle.std.specs.Prelude.{int_lt, cond, slice_index}
use Rattle.std.specs.List.Sorted.{IsStrictlyIncreasing}
use Rattle.std.proofs.lemmas.List.{length-map, length_push}
use Rattle.ror_session.specs.declared.session.Named.TheVariants.{Prefer, AtLeast}
use Rattle.ror_session.specs.declared.session.Asked.TheVariants.{Consistent, Relation}
use Rattle.std.specs.List.{range_with_len, AllByRecursion, IsDistinct}
use Rattle.std.specs.Prelude.{slice_index_or, position, Option, Some, None, ◌/◌, ◌%◌}
use Rattle.std.specs.Str.{bytes_eq}
use Rattle.std.proofs.lemmas.Bool.{eqb-true}
use Rattle.std.proofs.lemmas.List.FromFn.{get_or-map-range_with_len, length-map-range_with_len, map-range_with_len_more}
use Rattle.ror_text.proofs.Everywhere.{all-append}
use Rattle.std.specs.Prelude.{Ok, ◌<ℤ◌, ◌≤ℤ◌}
use Rattle.std.proofs.lemmas.Int.{ints, to_z-of_z}
use Rattle.std.proofs.lemmas.Option.{get_or_from_slice_get}
use Rattle.ror_session.specs.declared.session.Session.{Session}
use Rattle.ror_statement.specs.declared.statement.Statement.{Statement}
use Rattle.ror_statement.specs.declared.statement.Statement.TheVariants as statements
use Rattle.ror_value.specs.Over.{IsLawfulIn}
use Rattle.ror_bench.specs.Names.{pair_of}
use Rattle.ror_bench.specs.Laws.{GeneratedIsLawful, HiddenValueMeets, IsMet}
use Rattle.ror_bench.proofs.GeneratedTable.{generated_is_table, length-before}
use Rattle.ror_session.specs.Grammar.{IsClean}
use Rattle.ror_session.specs.Sound.{IsSound, names_of}
use Rattle.ror_session.specs.declared.session.Command.{Command}
use Rattle.ror_session.specs.declared.session.Command.TheVariants.{State, Ask, Undo}
use Rattle.ror_session.specs.declared.session.Line.{Line}
use Rattle.ror_table.specs.Table.{DecisionTable, id_of, alternative_ids, alternative_named}
use Rattle.ror_bench.specs.Generated.{next_seed, seed_after, drawn_with, drawn, generated, generated_table, generated_id, hidden_value, judged, stated_from, generated_statements, generated_commands, lines_from, generated_session}
use Rattle.ror_bench.proofs.GeneratedTable.{no_draws, one_draw, more_draws, drawn_below, all_below, below, ids_are}

-- ---- its lines

-- one command more
pub lines_more : (number : ℕ) (commands : List Command) (command : Command) → lines_from number (commands ++ command ∷ []) ≡ lines_from number commands ++ record { number = number + length commands; desk = 0; command = command } ∷ []
lines_more number [] command = let e : number + 0 ≡ number = omega arith in rw e refl
lines_more number (c ∷ cs) command =
    let e : 1 + number + length cs ≡ number + length (c ∷ cs) = omega arith in
    ap (λ (l : List Line). record { number = number; desk = 0; command = c } ∷ l) (lines_more (1 + number) cs command ∙ ap (λ (n : ℕ). lines_from (1 + number) cs ++ record { number = n; desk = 0; command = command } ∷ []) e)

pub length-lines : (number : ℕ) (commands : List Command) → length (lines_from number commands) ≡ length commands
length-lines number [] = refl
length-lines number (c ∷ cs) = ap suc (length-lines (1 + number) cs)

-- the statements on the way
abbrev pub statements_before : DecisionTable → ℕ → ℕ → List Command
statements_before t seed n = map (λ k. stated_from t (seed_after seed (2 * k))) (range_with_len 0 n)

pub statements_more : (t : DecisionTable) (seed n : ℕ) → statements_before t seed (n + 1) ≡ statements_before t seed n ++ stated_from t (seed_after seed (2 * n)) ∷ []
statements_more t seed n = map-range_with_len_more (λ k. stated_from t (seed_after seed (2 * k))) 0 n n (omega arith)

pub length-statements : (t : DecisionTable) (seed n : ℕ) → length (statements_before t seed n) ≡ n
length-statements t seed n = length-map-range_with_len (λ k. stated_from t (seed_after seed (2 * k))) 0 n

-- one more line, as it is pushed
pub pushed_line : (commands : List Command) (command : Command) (old new : List Line) → old ≡ lines_from 1 commands → new ≡ old ++ record { number = 1 + length old; desk = 0; command = command } ∷ [] → new ≡ lines_from 1 (commands ++ command ∷ [])
pushed_line commands command old new was pushed =
    let count : length old ≡ length commands = ap length was ∙ length-lines 1 commands in
    pushed
    ∙ ap (λ (n : ℕ). old ++ record { number = 1 + n; desk = 0; command = command } ∷ []) count
    ∙ ap (λ (l : List Line). l ++ record { number = 1 + length commands; desk = 0; command = command } ∷ []) was
    ∙ sym (lines_more 1 commands command)

-- what is said of two alternatives by the tests of their hidden values
judged_by : (t : DecisionTable) (a b : ℕ) (p q : Bool) → int_lt (hidden_value t b) (hidden_value t a) ≡ p → int_lt (hidden_value t a) (hidden_value t b) ≡ q → cond p (Prefer (id_of t a) (id_of t b)) (cond q (Prefer (id_of t b) (id_of t a)) (AtLeast (id_of t a) (id_of t b))) ≡ judged t a b
judged_by t a b p q above below = rw (above, below) refl

-- and so by the code's tests of the values that it found
pub judged_is : (t : DecisionTable) (a b : ℕ) (p q : Bool) (x y : ℤ) (first second : List ℕ) → FitsSigned w64 x → FitsSigned w64 y → x ≡ hidden_value t a → y ≡ hidden_value t b → slice_get (alternative_ids t) a ≡ Some first → slice_get (alternative_ids t) b ≡ Some second → int_lt (to_z w64 (of_z w64 y)) (to_z w64 (of_z w64 x)) ≡ p → int_lt (to_z w64 (of_z w64 x)) (to_z w64 (of_z w64 y)) ≡ q → cond p (Prefer first second) (cond q (Prefer second first) (AtLeast first second)) ≡ judged t a b
judged_is t a b p q x y first second fx fy one other at-a at-b above below =
    let is-x : to_z w64 (of_z w64 x) ≡ hidden_value t a = to_z-of_z w64 x fx ∙ one in
    let is-y : to_z w64 (of_z w64 y) ≡ hidden_value t b = to_z-of_z w64 y fy ∙ other in
    let is-a : id_of t a ≡ first = get_or_from_slice_get (alternative_ids t) a first [] at-a in
    let is-b : id_of t b ≡ second = get_or_from_slice_get (alternative_ids t) b second [] at-b in
    ap₂ (λ (u v : List ℕ). cond p (Prefer u v) (cond q (Prefer v u) (AtLeast u v))) (sym is-a) (sym is-b)
    ∙ judged_by t a b p q (sym (ap₂ int_lt is-y is-x) ∙ above) (sym (ap₂ int_lt is-x is-y) ∙ below)

-- one more statement, of two draws
pub one_stated : (t : DecisionTable) (seed n before between after a b : ℕ) (old new : List Line) → old ≡ lines_from 1 (statements_before t seed n) → before ≡ seed_after seed (2 * n) → between ≡ next_seed before → a ≡ drawn_with between 24 → after ≡ next_seed between → b ≡ drawn_with after 24 → new ≡ old ++ record { number = 1 + length old; desk = 0; command = State (judged t a b) } ∷ [] → (new ≡ lines_from 1 (statements_before t seed (n + 1))) × (after ≡ seed_after seed (2 * (n + 1)))
one_stated t seed n before between after a b old new was at first a-is second b-is pushed =
    let from = seed_after seed (2 * n) in
    let one : between ≡ seed_after from 1 = first ∙ ap next_seed (at ∙ sym (no_draws from)) ∙ sym (one_draw from 0) in
    let two : after ≡ seed_after from 2 = second ∙ ap next_seed one ∙ sym (one_draw from 1) in
    let a-drawn : a ≡ drawn from 0 24 = a-is ∙ ap (λ (x : ℕ). drawn_with x 24) one in
    let b-drawn : b ≡ drawn from 1 24 = b-is ∙ ap (λ (x : ℕ). drawn_with x 24) two in
    let stated : State (judged t a b) ≡ stated_from t from = ap (λ (x : ℕ). State (judged t x b)) a-drawn ∙ ap (λ (x : ℕ). State (judged t (drawn from 0 24) x)) b-drawn in
    let commands = statements_before t seed n in
    let count : 2 * n + 2 ≡ 2 * (n + 1) = omega arith in (
      pushed_line commands (State (judged t a b)) old new was pushed
          ∙ ap (λ (c : Command). lines_from 1 (commands ++ c ∷ [])) stated
          ∙ ap (lines_from 1) (sym (statements_more t seed n)),
      two ∙ more_draws seed (2 * n) 2 ∙ ap (seed_after seed) count,
    )

pub statements_are : (t : DecisionTable) (seed : ℕ) → statements_before t seed 12 ≡ generated_statements t seed
unfolding generated_statements
statements_are t seed = refl

pub length-stated : (t : DecisionTable) (seed : ℕ) → length (lines_from 1 (generated_statements t seed)) ≡ 12
unfolding generated_statements
length-stated t seed = length-lines 1 (statements_before t seed 12) ∙ length-statements t seed 12

pub one_longer : (old new : List Line) (line : Line) → new ≡ old ++ line ∷ [] → length new ≡ length old + 1
one_longer old new line pushed = ap length pushed ∙ length_push old line

pub session_is : (t : DecisionTable) (seed : ℕ) (desks : List (List ℕ)) (lines : List Line) → desks ≡ [] ∷ [] → lines ≡ lines_from 1 ((((((generated_statements t seed ++ Ask Consistent ∷ []) ++ Ask Relation ∷ []) ++ Undo ∷ []) ++ Undo ∷ []) ++ Undo ∷ []) ++ Ask Relation ∷ []) → record { desks = desks; lines = lines } ≡ generated_session t seed
unfolding generated_session
session_is t seed desks lines desk said =
    let all : ((((((generated_statements t seed ++ Ask Consistent ∷ []) ++ Ask Relation ∷ []) ++ Undo ∷ []) ++ Undo ∷ []) ++ Undo ∷ []) ++ Ask Relation ∷ []) ≡ generated_commands t seed = simp append_assoc in
    ap (λ (d : List (List ℕ)). record { desks = d; lines = lines }) desk ∙ ap (λ (l : List Line). record { desks = [] ∷ []; lines = l }) (said ∙ ap (lines_from 1) all)

-- ---- it is sound

abbrev AreClean : Command → Type 0
AreClean command = AllByRecursion IsClean (names_of command)

clean_lines : (number : ℕ) (commands : List Command) → AllByRecursion AreClean commands → AllByRecursion (λ line. AreClean line.command) (lines_from number commands)
clean_lines number [] clean = tt
clean_lines number (c ∷ cs) clean = (clean.0, clean_lines (1 + number) cs clean.1)

judged_clean : (t : DecisionTable) (a b : ℕ) → IsClean (id_of t a) → IsClean (id_of t b) → AreClean (State (judged t a b))
judged_clean t a b first second = by (int_lt (hidden_value t b) (hidden_value t a)) (int_lt (hidden_value t a) (hidden_value t b))
  where
    x : List ℕ
    x = id_of t a

    y : List ℕ
    y = id_of t b

    by : (p q : Bool) → AreClean (State (cond p (Prefer x y) (cond q (Prefer y x) (AtLeast x y))))
    by true q = (first, (second, tt))
    by false true = (second, (first, tt))
    by false false = (first, (second, tt))

clean_statements : (t : DecisionTable) (seed : ℕ) (ks : List ℕ) → ((a : ℕ) → a < 24 → IsClean (id_of t a)) → AllByRecursion AreClean (map (λ k. stated_from t (seed_after seed (2 * k))) ks)
clean_statements t seed [] ids = tt
clean_statements t seed (k ∷ ks) ids =
    let from = seed_after seed (2 * k) in
    (judged_clean t (drawn from 0 24) (drawn from 1 24) (ids (drawn from 0 24) (drawn_below from 0 24 (omega arith))) (ids (drawn from 1 24) (drawn_below from 1 24 (omega arith))), clean_statements t seed ks ids)

number_at : (number : ℕ) (commands : List Command) (k : ℕ) → k < length commands → slice_index (map (λ line. line.number) (lines_from number commands)) k ≡ number + k
number_at number [] k within = absurd (omega arith)
number_at number (c ∷ cs) zero within = omega arith
number_at number (c ∷ cs) (suc k) within =
    let next = number_at (1 + number) cs k (omega arith) in
    omega arith

rising : (number : ℕ) (commands : List Command) → IsStrictlyIncreasing (map (λ line. line.number) (lines_from number commands))
rising number commands k within =
    let count = length-map (lines_from number commands) (λ line. line.number) in
    let lines = length-lines number commands in
    let here = number_at number commands k (omega arith) in
    let next = number_at number commands (k + 1) (omega arith) in
    omega arith

pub sound : (t : DecisionTable) (seed : ℕ) → ((a : ℕ) → a < 24 → IsClean (id_of t a)) → IsSound (generated_session t seed)
unfolding generated_session generated_statements IsDistinct
sound t seed ids =
    let asked : AllByRecursion AreClean (Ask Consistent ∷ Ask Relation ∷ Undo ∷ Undo ∷ Undo ∷ Ask Relation ∷ []) = (tt, (tt, (tt, (tt, (tt, (tt, tt)))))) in
    record {
      few_desks = omega arith;
      distinct = (tt, tt);
      short = (omega arith, tt);
      clean_desks = (tt, tt);
      desks = search rules;
      order = refl;
      few_lines = omega arith;
      numbers = search rules;
      rising = rising 1 (generated_commands t seed);
      clean = clean_lines 1 (generated_commands t seed) (all-append AreClean (generated_statements t seed) (Ask Consistent ∷ Ask Relation ∷ Undo ∷ Undo ∷ Undo ∷ Ask Relation ∷ []) (clean_statements t seed (range_with_len 0 12) ids) asked);
    }

-- ---- in the generated table

is_some_of : Option ℕ → ℕ → Bool
is_some_of None a = false
is_some_of (Some k) a = eqb k a

some_is : (k : Option ℕ) (a : ℕ) → is_some_of k a ≡ true → k ≡ Some a
unfolding is_some_of
some_is None a is = absurd cc
some_is (Some k) a is = ap Some (eqb-true k a is)

-- the id of each alternative
pub id_is : (seed a : ℕ) → a < 24 → id_of (generated_table seed) a ≡ generated_id a
unfolding generated_table
id_is seed a less = ap (λ (ids : List (List ℕ)). slice_index_or ids a []) (ids_are seed (range_with_len 0 24)) ∙ get_or-map-range_with_len generated_id 0 24 a a [] less (omega arith)

id_clean : (a : ℕ) → a < 24 → IsClean (generated_id a)
id_clean a less =
    let tens : (a + 1) / 10 ≤ 2 = omega arith in
    let ones : (a + 1) % 10 < 10 = omega arith in
    ((omega arith, omega arith), ((omega arith, omega arith), ((omega arith, omega arith), tt)))

pub generated_is_sound : (number seed : ℕ) → IsSound (generated_session (generated_table number) seed)
generated_is_sound number seed = sound (generated_table number) seed (λ a less. subst IsClean (sym (id_is number a less)) (id_clean a less))

-- an alternative's place is found by its id
found_ids : all_below (λ a. is_some_of (position (λ other. bytes_eq other (generated_id a)) (map generated_id (range_with_len 0 24))) a) 24 ≡ true
unfolding all_below is_some_of
found_ids = refl

pub named_is : (seed a : ℕ) → a < 24 → alternative_named (generated_table seed) (id_of (generated_table seed) a) ≡ Some a
unfolding generated_table
named_is seed a less =
    ap (λ (id : List ℕ). alternative_named (generated_table seed) id) (id_is seed a less)
    ∙ ap (λ (ids : List (List ℕ)). position (λ other. bytes_eq other (generated_id a)) ids) (ids_are seed (range_with_len 0 24))
    ∙ some_is _ a (below (λ a. is_some_of (position (λ other. bytes_eq other (generated_id a)) (map generated_id (range_with_len 0 24))) a) 24 found_ids a less)

-- ---- it is lawful, and the hidden value meets its statements

no_statements : (t : DecisionTable) → IsLawfulIn t []
no_statements t = record { few = omega arith; rows = omega arith; each_valid = tt }

pub generated_lawful : GeneratedIsLawful
generated_lawful number = record { table = generated_is_table number; opening = no_statements (generated_table number); session = generated_is_sound number (seed_after number 96) }

pair_is : (t : DecisionTable) (x y : List ℕ) (a b : ℕ) → alternative_named t x ≡ Some a → alternative_named t y ≡ Some b → pair_of t x y ≡ Ok (record { first = a; second = b })
unfolding pair_of
pair_is t x y a b first second = rw (first, second) refl

is_less : (x y : ℤ) → int_lt x y ≡ true → x <ℤ y
is_less x y is = grind (arith, ints)

is_no_less : (x y : ℤ) → int_lt x y ≡ false → y ≤ℤ x
is_no_less x y is = grind (arith, ints)

judged_met : (t : DecisionTable) (a b : ℕ) → alternative_named t (id_of t a) ≡ Some a → alternative_named t (id_of t b) ≡ Some b → IsMet t (hidden_value t) (State (judged t a b))
judged_met t a b first second = by (int_lt (hidden_value t b) (hidden_value t a)) (int_lt (hidden_value t a) (hidden_value t b)) refl refl
  where
    x : List ℕ
    x = id_of t a

    y : List ℕ
    y = id_of t b

    by : (p q : Bool) → int_lt (hidden_value t b) (hidden_value t a) ≡ p → int_lt (hidden_value t a) (hidden_value t b) ≡ q → IsMet t (hidden_value t) (State (cond p (Prefer x y) (cond q (Prefer y x) (AtLeast x y))))
    by true q above below = (statements.Prefer a b, rw (pair_is t x y a b first second) refl, is_less (hidden_value t b) (hidden_value t a) above)
    by false true above below = (statements.Prefer b a, rw (pair_is t y x b a second first) refl, is_less (hidden_value t a) (hidden_value t b) below)
    by false false above below = (statements.AtLeast a b, rw (pair_is t x y a b first second) refl, is_no_less (hidden_value t a) (hidden_value t b) below)

met_lines : (t : DecisionTable) (value : ℕ → ℤ) (number : ℕ) (commands : List Command) → AllByRecursion (IsMet t value) commands → AllByRecursion (λ line. IsMet t value line.command) (lines_from number commands)
met_lines t value number [] met = tt
met_lines t value number (c ∷ cs) met = (met.0, met_lines t value (1 + number) cs met.1)

met_statements : (t : DecisionTable) (seed : ℕ) (ks : List ℕ) → ((a : ℕ) → a < 24 → alternative_named t (id_of t a) ≡ Some a) → AllByRecursion (IsMet t (hidden_value t)) (map (λ k. stated_from t (seed_after seed (2 * k))) ks)
met_statements t seed [] named = tt
met_statements t seed (k ∷ ks) named =
    let from = seed_after seed (2 * k) in
    (judged_met t (drawn from 0 24) (drawn from 1 24) (named (drawn from 0 24) (drawn_below from 0 24 (omega arith))) (named (drawn from 1 24) (drawn_below from 1 24 (omega arith))), met_statements t seed ks named)

pub hidden_value_meets : HiddenValueMeets
unfolding generated_session generated_statements
hidden_value_meets number =
    let t = generated_table number in
    let seed = seed_after number 96 in
    let asked : AllByRecursion (IsMet t (hidden_value t)) (Ask Consistent ∷ Ask Relation ∷ Undo ∷ Undo ∷ Undo ∷ Ask Relation ∷ []) = (tt, (tt, (tt, (tt, (tt, (tt, tt)))))) in
    met_lines t (hidden_value t) 1 (generated_commands t seed) (all-append (IsMet t (hidden_value t)) (generated_statements t seed) (Ask Consistent ∷ Ask Relation ∷ Undo ∷ Undo ∷ Undo ∷ Ask Relation ∷ []) (met_statements t seed (range_with_len 0 12) (λ a less. named_is number a less)) asked)

-- ---- the whole

pub sizes : (seed : ℕ) (t : DecisionTable) → t ≡ generated_table seed → (length t.alternatives ≡ 24) × (length t.criteria ≡ 4)
unfolding generated_table
sizes seed t is = (ap (λ (x : DecisionTable). length x.alternatives) is ∙ length-before seed 24, ap (λ (x : DecisionTable). length x.criteria) is)

pub all_generated : (number seed : ℕ) (t : DecisionTable) (opening : List Statement) (s : Session) → t ≡ generated_table number → seed ≡ seed_after number 96 → opening ≡ [] → s ≡ generated_session t seed → record { input = record { table = t; opening = opening }; session = s } ≡ generated number
all_generated number seed t opening s table at none session =
    let said : s ≡ generated_session (generated_table number) (seed_after number 96) = session ∙ ap (λ (x : DecisionTable). generated_session x seed) table ∙ ap (generated_session (generated_table number)) at in
    ap (λ (x : DecisionTable). record { input = record { table = x; opening = opening }; session = s }) table
    ∙ ap (λ (x : List Statement). record { input = record { table = generated_table number; opening = x }; session = s }) none
    ∙ ap (λ (x : Session). record { input = record { table = generated_table number; opening = [] }; session = x }) said
