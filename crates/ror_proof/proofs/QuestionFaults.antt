-- The first faulty word of a question or of a place.
use Rattle.std.proofs.Common.{◌≡◌, ℕ, Bool, true, false, cond, leb, List, [], ◌∷◌, length, length-drop, map, drop, Option, Some, None, Result, Ok, refl, sym, ap, subst, ◌∙◌, arith}
use Rattle.std.specs.Prelude.{codes}
use Rattle.std.proofs.lemmas.Bool.{leb-true, leb-false, le-leb, lt-leb}
use Rattle.ror_text.specs.Numbers.{small_number_of}
use Rattle.ror_text.specs.Reading.{◌>>=◌, need}
use Rattle.ror_text.proofs.ReadingLemmas.{bind_ok, need_ok}
use Rattle.ror_statement.specs.declared.comparison.Scope.{Scope}
use Rattle.ror_statement.specs.declared.comparison.Scope.TheVariants.{Whole, One}
use Rattle.ror_statement.specs.declared.comparison.Pair.{Pair}
use Rattle.ror_statement.specs.declared.comparison.Form.{Form}
use Rattle.ror_statement.specs.declared.comparison.Form.TheVariants.{Value, Strength}
use Rattle.ror_statement.specs.declared.question.Question.TheVariants as questions
use Rattle.ror_table.specs.Table.{DecisionTable, alternative_named, criterion_named}
use Rattle.ror_proof.specs.declared.answer.PlaceText.{PlaceText}
use Rattle.ror_proof.specs.declared.answer.PlaceText.TheVariants as places
use Rattle.ror_proof.specs.declared.answer.WideText.{WideText}
use Rattle.ror_proof.specs.declared.answer.Pivot.{Pivot}
use Rattle.ror_proof.specs.declared.names.QuestionName.{QuestionName}
use Rattle.ror_proof.specs.declared.names.QuestionName.TheVariants as asked
use Rattle.ror_proof.specs.declared.names.PlaceName.{PlaceName}
use Rattle.ror_proof.specs.declared.names.PlaceName.TheVariants as named
use Rattle.ror_proof.specs.declared.read.ProofFault.{ProofFault}
use Rattle.ror_proof.specs.declared.read.ProofFault.TheVariants.{BadLine}
use Rattle.ror_proof.specs.Names.{name_of, question_word, question_names, place_word, place_names}
use Rattle.ror_proof.specs.Words.{after_word, name_at, number_in, small_number_at, pivot_in, pivots_at}
use Rattle.ror_proof.specs.Questions.{alternative_at, criterion_at, pair_at, scope_at, strength_at, form_at, class_at, necessary, possible, asked_at, question_at}
use Rattle.ror_proof.specs.Reading.{entry_at, numbered_at, place_at, note_at}
use Rattle.ror_proof.specs.Expected.{Expected, all_of, expected_form, expected_property, expected_question, expected_path, expected_place, expected_numbered, expected_note}
use Rattle.ror_proof.specs.Expected.Expected.{the_word, one_of, an_id, a_criterion, a_small_number, a_pivot}
use Rattle.ror_proof.proofs.WordLemmas.{done, ok_is}
use Rattle.ror_proof.proofs.WordFaults.{Steps, Ends, nothing_read, then_steps, then_ends, made_steps, made_ends, one_steps, all_ends, word_then_steps, word_then_ends, small_number_says, pivot_one, alternative_one, criterion_one, name_one}

-- ---- single words

no_end : ⊥ → ⊥
no_end h = h

pub alternative_steps : (t : DecisionTable) (place : ℕ) (words : List (List ℕ)) → Steps t place (alternative_at t place words) (an_id ∷ []) words
unfolding alternative_at
alternative_steps t place words = one_steps t place (λ word. need (BadLine place) (alternative_named t word)) an_id words no_end (alternative_one t place)

criterion_steps : (t : DecisionTable) (place : ℕ) (words : List (List ℕ)) → Steps t place (criterion_at t place words) (a_criterion ∷ []) words
unfolding criterion_at
criterion_steps t place words = one_steps t place (λ word. need (BadLine place) (criterion_named t word)) a_criterion words no_end (criterion_one t place)

pub small_number_steps : (t : DecisionTable) (place : ℕ) (words : List (List ℕ)) → Steps t place (small_number_at place words) (a_small_number ∷ []) words
unfolding small_number_at
small_number_steps t place words = one_steps t place (number_in small_number_of place) a_small_number words no_end (small_number_says t place)

pub name_steps : {N : Type 0} (t : DecisionTable) (place : ℕ) (word_of : N → List ℕ) (names : List N) (words : List (List ℕ)) → Steps t place (name_at word_of names place words) (one_of (map word_of names) ∷ []) words
unfolding name_at
name_steps t place word_of names words = one_steps t place (λ word. need (BadLine place) (name_of word_of names word)) (one_of (map word_of names)) words no_end (name_one t place word_of names)

-- the name is that of the first word
pub name_is : {N : Type 0} (word_of : N → List ℕ) (names : List N) (place : ℕ) (word : List ℕ) (words : List (List ℕ)) (x : N × List (List ℕ)) → name_at word_of names place (word ∷ words) ≡ Ok x → (name_of word_of names word ≡ Some x.0) × (words ≡ x.1)
unfolding name_at
name_is word_of names place word words x e =
    let a = bind_ok (need (BadLine place) (name_of word_of names word)) (λ name. done (name, words)) x e in
    let is = ok_is (a.0, words) x a.2 in
    (need_ok (BadLine place) (name_of word_of names word) a.0 a.1 ∙ ap (λ y. Some y.0) is, ap (λ y. y.1) is)

pub no_name : {N : Type 0} (word_of : N → List ℕ) (names : List N) (place : ℕ) (x : N × List (List ℕ)) → name_at word_of names place [] ≡ Ok x → ⊥
unfolding name_at
no_name word_of names place x e = absurd cc

-- ---- what is made of what is read

abbrev both : ℕ → ℕ → Pair
both first second = record { first = first; second = second }

abbrev pair_made : ℕ → ℕ × List (List ℕ) → Result (Pair × List (List ℕ)) ProofFault
pair_made first second = Ok (both first second.0, second.1)

abbrev strength_made : Pair → Pair → Scope × List (List ℕ) → Result (Form × List (List ℕ)) ProofFault
strength_made first second scope = Ok (Strength first second scope.0, scope.1)

abbrev value_made : Pair × List (List ℕ) → Result (Form × List (List ℕ)) ProofFault
value_made first = Ok (Value first.0.first first.0.second, first.1)

abbrev two : ℕ → ℕ → ℕ × ℕ
two m n = (m, n)

abbrev class_made : ℕ → ℕ × List (List ℕ) → Result ((ℕ × ℕ) × List (List ℕ)) ProofFault
class_made m n = Ok (two m n.0, n.1)

abbrev noted : PlaceText → List Pivot → WideText
noted number path = record { path = path; place = number }

abbrev note_made : PlaceText → List Pivot → Result WideText ProofFault
note_made number path = Ok (noted number path)

-- ---- forms

pair_steps : (t : DecisionTable) (place : ℕ) (words : List (List ℕ)) → Steps t place (pair_at t place words) (an_id ∷ an_id ∷ []) words
unfolding pair_at
pair_steps t place words =
    then_steps t place (alternative_at t place words) (λ first. alternative_at t place first.1 >>= λ second. pair_made first.0 second) (an_id ∷ []) (an_id ∷ []) words (alternative_steps t place words)
    (λ first e. made_steps t place (alternative_at t place first.1) (λ (second : ℕ). both first.0 second) (an_id ∷ []) first.1 (alternative_steps t place first.1))

-- what is expected as a scope, where at most one word is left, and where more are
abbrev expected_scope : Bool → List Expected
expected_scope true = []
expected_scope false = the_word (codes "on") ∷ a_criterion ∷ []

scope_steps : (t : DecisionTable) (place : ℕ) (words : List (List ℕ)) (few : Bool) → leb (length words) 1 ≡ few → Steps t place (scope_at t place words) (expected_scope few) words
unfolding scope_at
scope_steps t place words true few = rw few (nothing_read t place Whole words)
scope_steps t place words false many =
    rw many (word_then_steps t place (codes "on") (λ more. criterion_at t place more >>= λ criterion. done (One criterion.0, criterion.1)) (a_criterion ∷ []) words
    (λ more e. made_steps t place (criterion_at t place more) (λ (i : ℕ). One i) (a_criterion ∷ []) more (criterion_steps t place more)))

strength_steps : (t : DecisionTable) (place : ℕ) (p : Pair) (words : List (List ℕ)) (few : Bool) → leb (length (drop 2 words)) 1 ≡ few → Steps t place (strength_at t place p words) (an_id ∷ an_id ∷ expected_scope few) words
unfolding strength_at
strength_steps t place p words few e =
    then_steps t place (pair_at t place words) (λ second. scope_at t place second.1 >>= λ scope. strength_made p second.0 scope) (an_id ∷ an_id ∷ []) (expected_scope few) words (pair_steps t place words)
    (λ second read. made_steps t place (scope_at t place second.1) (λ (s : Scope). Strength p second.0 s) (expected_scope few) second.1 (scope_steps t place second.1 few (ap (λ (ws : List (List ℕ)). leb (length ws) 1) ((pair_steps t place words).left second read) ∙ e)))

abbrev value_or_strength : DecisionTable → ℕ → Pair × List (List ℕ) → Result (Form × List (List ℕ)) ProofFault
value_or_strength t place first = cond (leb (length first.1) 1) (value_made first) (strength_at t place first.0 first.1)

form_steps_by : (t : DecisionTable) (place : ℕ) (words : List (List ℕ)) (few some : Bool) → leb (length words) 3 ≡ few → leb (length words) 5 ≡ some → Steps t place (form_at t place words) (cond few (an_id ∷ an_id ∷ []) (cond some (an_id ∷ an_id ∷ an_id ∷ an_id ∷ []) (an_id ∷ an_id ∷ an_id ∷ an_id ∷ the_word (codes "on") ∷ a_criterion ∷ []))) words
unfolding form_at
form_steps_by t place words true some e f =
    then_steps t place (pair_at t place words) (value_or_strength t place) (an_id ∷ an_id ∷ []) [] words (pair_steps t place words)
    (λ first read.
    let left = ap (λ (ws : List (List ℕ)). length ws) ((pair_steps t place words).left first read) in
    let short : leb (length first.1) 1 ≡ true = le-leb _ _ (omega (arith, left, length-drop 2 words, leb-true _ _ e)) in
    rw short (nothing_read t place (Value first.0.first first.0.second) first.1))
form_steps_by t place words false true e f =
    then_steps t place (pair_at t place words) (value_or_strength t place) (an_id ∷ an_id ∷ []) (an_id ∷ an_id ∷ []) words (pair_steps t place words)
    (λ first read.
    let left = ap (λ (ws : List (List ℕ)). length ws) ((pair_steps t place words).left first read) in
    let long : leb (length first.1) 1 ≡ false = lt-leb _ _ (omega (arith, left, length-drop 2 words, leb-false _ _ e)) in
    let last : leb (length (drop 2 first.1)) 1 ≡ true = le-leb _ _ (omega (arith, left, length-drop 2 words, length-drop 2 first.1, leb-true _ _ f)) in
    rw long (strength_steps t place first.0 first.1 true last))
form_steps_by t place words false false e f =
    then_steps t place (pair_at t place words) (value_or_strength t place) (an_id ∷ an_id ∷ []) (an_id ∷ an_id ∷ the_word (codes "on") ∷ a_criterion ∷ []) words (pair_steps t place words)
    (λ first read.
    let left = ap (λ (ws : List (List ℕ)). length ws) ((pair_steps t place words).left first read) in
    let long : leb (length first.1) 1 ≡ false = lt-leb _ _ (omega (arith, left, length-drop 2 words, leb-false _ _ e)) in
    let last : leb (length (drop 2 first.1)) 1 ≡ false = lt-leb _ _ (omega (arith, left, length-drop 2 words, length-drop 2 first.1, leb-false _ _ f)) in
    rw long (strength_steps t place first.0 first.1 false last))

form_steps : (t : DecisionTable) (place : ℕ) (words : List (List ℕ)) → Steps t place (form_at t place words) (expected_form (length words)) words
form_steps t place words = form_steps_by t place words (leb (length words) 3) (leb (length words) 5) refl refl

-- ---- questions

class_steps : (t : DecisionTable) (place : ℕ) (words : List (List ℕ)) → Steps t place (class_at t place words) (an_id ∷ a_small_number ∷ []) words
unfolding class_at
class_steps t place words =
    then_steps t place (alternative_at t place words) (λ alternative. small_number_at place alternative.1 >>= λ class. class_made alternative.0 class) (an_id ∷ []) (a_small_number ∷ []) words (alternative_steps t place words)
    (λ alternative e. made_steps t place (small_number_at place alternative.1) (λ (h : ℕ). two alternative.0 h) (a_small_number ∷ []) alternative.1 (small_number_steps t place alternative.1))

asked_steps : (t : DecisionTable) (place : ℕ) (name : QuestionName) (words : List (List ℕ)) → Steps t place (asked_at t place name words) (expected_property (Some name) (length words)) words
asked_steps t place asked.Consistent words = nothing_read t place questions.Consistent words
asked_steps t place asked.Necessary words = made_steps t place (form_at t place words) necessary (expected_form (length words)) words (form_steps t place words)
asked_steps t place asked.Possible words = made_steps t place (form_at t place words) possible (expected_form (length words)) words (form_steps t place words)
asked_steps t place asked.PossibleClass words = made_steps t place (class_at t place words) (λ (x : ℕ × ℕ). questions.PossibleClass x.0 x.1) (an_id ∷ a_small_number ∷ []) words (class_steps t place words)
asked_steps t place asked.NecessaryClass words = made_steps t place (class_at t place words) (λ (x : ℕ × ℕ). questions.NecessaryClass x.0 x.1) (an_id ∷ a_small_number ∷ []) words (class_steps t place words)

pub question_steps : (t : DecisionTable) (place : ℕ) (words : List (List ℕ)) → Steps t place (question_at t place words) (expected_question words) words
unfolding question_at
question_steps t place [] =
    then_steps t place (name_at question_word question_names place []) (λ name. asked_at t place name.0 name.1) (one_of (map question_word question_names) ∷ []) [] [] (name_steps t place question_word question_names [])
    (λ name e. absurd (no_name question_word question_names place name e))
question_steps t place (word ∷ words) =
    let expected = expected_property (name_of question_word question_names word) (length words) in
    then_steps t place (name_at question_word question_names place (word ∷ words)) (λ name. asked_at t place name.0 name.1) (one_of (map question_word question_names) ∷ []) expected (word ∷ words) (name_steps t place question_word question_names (word ∷ words))
    (λ name e.
    let is = name_is question_word question_names place word words name e in
    let same : expected_property (Some name.0) (length name.1) ≡ expected = ap (λ (n : Option QuestionName). expected_property n (length name.1)) (sym is.0) ∙ ap (λ (ws : List (List ℕ)). expected_property (name_of question_word question_names word) (length ws)) (sym is.1) in
    subst (λ (ex : List Expected). Steps t place (asked_at t place name.0 name.1) ex name.1) same (asked_steps t place name.0 name.1))

-- ---- places

pub entry_steps : (t : DecisionTable) (place : ℕ) (words : List (List ℕ)) → Steps t place (entry_at place words) (a_small_number ∷ a_small_number ∷ []) words
unfolding entry_at
entry_steps t place words =
    then_steps t place (small_number_at place words) (λ row. small_number_at place row.1 >>= λ column. class_made row.0 column) (a_small_number ∷ []) (a_small_number ∷ []) words (small_number_steps t place words)
    (λ row e. made_steps t place (small_number_at place row.1) (λ (column : ℕ). two row.0 column) (a_small_number ∷ []) row.1 (small_number_steps t place row.1))

pub numbered_steps : (t : DecisionTable) (place : ℕ) (name : PlaceName) (words : List (List ℕ)) → Steps t place (numbered_at place name words) (expected_place name) words
numbered_steps t place named.Start words = made_steps t place (entry_at place words) (λ (x : ℕ × ℕ). places.Start x.0 x.1) (a_small_number ∷ a_small_number ∷ []) words (entry_steps t place words)
numbered_steps t place named.Step words = made_steps t place (entry_at place words) (λ (x : ℕ × ℕ). places.Step x.0 x.1) (a_small_number ∷ a_small_number ∷ []) words (entry_steps t place words)
numbered_steps t place named.Denominator words = made_steps t place (small_number_at place words) (λ (x : ℕ). places.Denominator x) (a_small_number ∷ []) words (small_number_steps t place words)
numbered_steps t place named.RowSum words = made_steps t place (small_number_at place words) (λ (x : ℕ). places.RowSum x) (a_small_number ∷ []) words (small_number_steps t place words)
numbered_steps t place named.ColumnSum words = made_steps t place (small_number_at place words) (λ (x : ℕ). places.ColumnSum x) (a_small_number ∷ []) words (small_number_steps t place words)

-- the numbers of the place that is named, if one is
abbrev numbers_expected : Option PlaceName → List Expected
numbers_expected (Some name) = expected_place name
numbers_expected None = []

place_steps : (t : DecisionTable) (place : ℕ) (word : List ℕ) (words : List (List ℕ)) → Steps t place (place_at place (word ∷ words)) (one_of (map place_word place_names) ∷ numbers_expected (name_of place_word place_names word)) (word ∷ words)
unfolding place_at
place_steps t place word words =
    then_steps t place (name_at place_word place_names place (word ∷ words)) (λ name. numbered_at place name.0 name.1) (one_of (map place_word place_names) ∷ []) (numbers_expected (name_of place_word place_names word)) (word ∷ words) (name_steps t place place_word place_names (word ∷ words))
    (λ name e.
    let is = name_is place_word place_names place word words name e in
    subst (λ (n : Option PlaceName). Steps t place (numbered_at place name.0 name.1) (numbers_expected n) name.1) (sym is.0) (numbered_steps t place name.0 name.1))

-- a place that is read has a name
place_named : (place : ℕ) (word : List ℕ) (words : List (List ℕ)) (x : PlaceText × List (List ℕ)) → place_at place (word ∷ words) ≡ Ok x → (name : PlaceName) × (name_of place_word place_names word ≡ Some name)
unfolding place_at
place_named place word words x e =
    let a = bind_ok (name_at place_word place_names place (word ∷ words)) (λ name. numbered_at place name.0 name.1) x e in
    (a.0.0, (name_is place_word place_names place word words a.0 a.1).0)

no_place : (place : ℕ) (x : PlaceText × List (List ℕ)) → place_at place [] ≡ Ok x → ⊥
unfolding place_at
no_place place x e =
    let a = bind_ok (name_at place_word place_names place []) (λ name. numbered_at place name.0 name.1) x e in
    no_name place_word place_names place a.0 a.1

no_place_steps : (t : DecisionTable) (place : ℕ) → Steps t place (place_at place []) (one_of (map place_word place_names) ∷ []) []
unfolding place_at
no_place_steps t place =
    then_steps t place (name_at place_word place_names place []) (λ name. numbered_at place name.0 name.1) (one_of (map place_word place_names) ∷ []) [] [] (name_steps t place place_word place_names [])
    (λ name e. absurd (no_name place_word place_names place name e))

abbrev path_after : ℕ → PlaceText × List (List ℕ) → Result WideText ProofFault
path_after place number = after_word place (codes "path") number.1 >>= λ more. pivots_at place more >>= λ path. note_made number.0 path

path_ends : (t : DecisionTable) (place : ℕ) (number : PlaceText) (words : List (List ℕ)) → Ends t place (path_after place (number, words)) (expected_path words) words
path_ends t place number words =
    word_then_ends t place (codes "path") (λ more. pivots_at place more >>= λ path. note_made number path) (all_of a_pivot (drop 1 words)) words
    (λ more is.
    let same : more ≡ drop 1 words = ap (λ (ws : List (List ℕ)). drop 1 ws) (sym is) in
    subst (λ (ws : List (List ℕ)). Ends t place (pivots_at place more >>= λ path. note_made number path) (all_of a_pivot ws) more) same
    (made_ends t place (pivots_at place more) (λ (path : List Pivot). noted number path) (all_of a_pivot more) more (all_ends t place (pivot_in place) a_pivot more tt (pivot_one t place))))

-- a place, and what follows it
module _ {Y : Type 0} (t : DecisionTable) (place : ℕ) (next : PlaceText × List (List ℕ) → Result Y ProofFault) (ends : (x : PlaceText × List (List ℕ)) → Ends t place (next x) (expected_path x.1) x.1) where
  placed_ends_by : (word : List ℕ) (words : List (List ℕ)) (name : Option PlaceName) → name_of place_word place_names word ≡ name → Ends t place (place_at place (word ∷ words) >>= next) (one_of (map place_word place_names) ∷ expected_numbered name words) (word ∷ words)
  placed_ends_by word words None e =
      then_ends t place (place_at place (word ∷ words)) next (one_of (map place_word place_names) ∷ []) [] (word ∷ words)
      (subst (λ (n : Option PlaceName). Steps t place (place_at place (word ∷ words)) (one_of (map place_word place_names) ∷ numbers_expected n) (word ∷ words)) e (place_steps t place word words))
      (λ x read. let name = place_named place word words x read in absurd (let no = sym e ∙ name.1 in cc))
  placed_ends_by word words (Some name) e =
      let first = one_of (map place_word place_names) ∷ expected_place name in
      let steps : Steps t place (place_at place (word ∷ words)) first (word ∷ words) = subst (λ (n : Option PlaceName). Steps t place (place_at place (word ∷ words)) (one_of (map place_word place_names) ∷ numbers_expected n) (word ∷ words)) e (place_steps t place word words) in
      then_ends t place (place_at place (word ∷ words)) next first (expected_path (drop (length (expected_place name)) words)) (word ∷ words) steps
      (λ x read. subst (λ (ws : List (List ℕ)). Ends t place (next x) (expected_path ws) x.1) (steps.left x read) (ends x))

  pub placed_ends : (words : List (List ℕ)) → Ends t place (place_at place words >>= next) (expected_note words) words
  placed_ends [] =
      then_ends t place (place_at place []) next (one_of (map place_word place_names) ∷ []) [] [] (no_place_steps t place)
      (λ x read. absurd (no_place place x read))
  placed_ends (word ∷ words) = placed_ends_by word words (name_of place_word place_names word) refl

pub note_ends : (t : DecisionTable) (place : ℕ) (words : List (List ℕ)) → Ends t place (note_at place words) (expected_note words) words
unfolding note_at
note_ends t place words = placed_ends t place (path_after place) (λ x. path_ends t place x.0 x.1) words
