-- Questions as words, both ways: what was written is read again, and what is read was so written.
use Rattle.std.proofs.Common.{◌≡◌, ℕ, ◌<◌, ◌^◌, false, cond, leb, List, [], ◌∷◌, ◌++◌, length, Result, Ok, refl, sym, ap, subst, ◌∙◌, arith, inl, inr}
use Rattle.std.specs.Prelude.{codes}
use Rattle.std.specs.Fmt.{decimal}
use Rattle.std.proofs.lemmas.Bool.{cases_Bool, lt-leb, cond-true, cond-false}
use Rattle.ror_text.specs.Reading.{◌>>=◌, need}
use Rattle.ror_text.proofs.ReadingLemmas.{bind_ok, need_ok}
use Rattle.ror_statement.specs.declared.comparison.Scope.{Scope}
use Rattle.ror_statement.specs.declared.comparison.Scope.TheVariants.{Whole, One}
use Rattle.ror_statement.specs.declared.comparison.Pair.{Pair}
use Rattle.ror_statement.specs.declared.comparison.Form.{Form}
use Rattle.ror_statement.specs.declared.comparison.Form.TheVariants.{Value, Strength}
use Rattle.ror_statement.specs.declared.question.Question.{Question}
use Rattle.ror_statement.specs.declared.question.Question.TheVariants as questions
use Rattle.ror_statement.specs.Names.{NamesWithin, PairWithin, ScopeWithin}
use Rattle.ror_table.specs.Table.{DecisionTable, IsTable, id_of, criterion_id_of, alternative_named, criterion_named}
use Rattle.ror_table.proofs.NameLemmas.{alternative_named-id_of, alternative_named-sound, criterion_named-id_of, criterion_named-sound}
use Rattle.ror_proof.specs.declared.names.QuestionName.{QuestionName}
use Rattle.ror_proof.specs.declared.names.QuestionName.TheVariants as asked
use Rattle.ror_proof.specs.declared.read.ProofFault.{ProofFault}
use Rattle.ror_proof.specs.declared.read.ProofFault.TheVariants.{BadLine}
use Rattle.ror_proof.specs.Names.{question_word, question_names}
use Rattle.ror_proof.specs.Text.{pair_words, scope_words, form_words, question_words, IsNamed}
use Rattle.ror_proof.specs.Words.{after_word, name_at, small_number_at}
use Rattle.ror_proof.specs.Questions.{alternative_at, criterion_at, pair_at, scope_at, strength_at, form_at, class_at, necessary, possible, asked_at, question_at}
use Rattle.ror_proof.proofs.WordLemmas.{done, ok_is, after_word_again, after_word_sound, name_again, name_sound, small_number_again, small_number_sound}

-- ---- what each step gives

abbrev pair_read : ℕ → ℕ × List (List ℕ) → Result (Pair × List (List ℕ)) ProofFault
pair_read first second = Ok (record { first = first; second = second.0 }, second.1)

abbrev one_read : ℕ × List (List ℕ) → Result (Scope × List (List ℕ)) ProofFault
one_read criterion = Ok (One criterion.0, criterion.1)

abbrev strength_read : Pair → Pair → Scope × List (List ℕ) → Result (Form × List (List ℕ)) ProofFault
strength_read first second scope = Ok (Strength first second scope.0, scope.1)

abbrev value_read : Pair × List (List ℕ) → Result (Form × List (List ℕ)) ProofFault
value_read first = Ok (Value first.0.first first.0.second, first.1)

abbrev class_read : ℕ → ℕ × List (List ℕ) → Result ((ℕ × ℕ) × List (List ℕ)) ProofFault
class_read alternative class = Ok ((alternative, class.0), class.1)

-- ---- ids

pub alternative_again : (t : DecisionTable) (place a : ℕ) (more : List (List ℕ)) → IsTable t → a < length t.alternatives → alternative_at t place (id_of t a ∷ more) ≡ Ok (a, more)
unfolding alternative_at
alternative_again t place a more table within = rw (alternative_named-id_of t a table within) refl

pub alternative_sound : (t : DecisionTable) (place : ℕ) (words : List (List ℕ)) (x : ℕ × List (List ℕ)) → alternative_at t place words ≡ Ok x → (words ≡ id_of t x.0 ∷ x.1) × (x.0 < length t.alternatives)
unfolding alternative_at
alternative_sound t place [] x e = absurd cc
alternative_sound t place (id ∷ words) x e =
    let a = bind_ok (need (BadLine place) (alternative_named t id)) (λ alternative. done (alternative, words)) x e in
    let found = alternative_named-sound t id a.0 (need_ok (BadLine place) (alternative_named t id) a.0 a.1) in
    subst (λ (y : ℕ × List (List ℕ)). (id ∷ words ≡ id_of t y.0 ∷ y.1) × (y.0 < length t.alternatives)) (ok_is (a.0, words) x a.2) (ap (λ (w : List ℕ). w ∷ words) found.1, found.0)

criterion_again : (t : DecisionTable) (place i : ℕ) (more : List (List ℕ)) → IsTable t → i < length t.criteria → criterion_at t place (criterion_id_of t i ∷ more) ≡ Ok (i, more)
unfolding criterion_at
criterion_again t place i more table within = rw (criterion_named-id_of t i table within) refl

criterion_sound : (t : DecisionTable) (place : ℕ) (words : List (List ℕ)) (x : ℕ × List (List ℕ)) → criterion_at t place words ≡ Ok x → (words ≡ criterion_id_of t x.0 ∷ x.1) × (x.0 < length t.criteria)
unfolding criterion_at
criterion_sound t place [] x e = absurd cc
criterion_sound t place (id ∷ words) x e =
    let a = bind_ok (need (BadLine place) (criterion_named t id)) (λ criterion. done (criterion, words)) x e in
    let found = criterion_named-sound t id a.0 (need_ok (BadLine place) (criterion_named t id) a.0 a.1) in
    subst (λ (y : ℕ × List (List ℕ)). (id ∷ words ≡ criterion_id_of t y.0 ∷ y.1) × (y.0 < length t.criteria)) (ok_is (a.0, words) x a.2) (ap (λ (w : List ℕ). w ∷ words) found.1, found.0)

-- ---- forms

pair_again : (t : DecisionTable) (place : ℕ) (p : Pair) (more : List (List ℕ)) → IsTable t → PairWithin (length t.alternatives) p → pair_at t place (pair_words t p ++ more) ≡ Ok (p, more)
unfolding pair_at
pair_again t place p more table within = rw (alternative_again t place p.first (id_of t p.second ∷ more) table within.0, alternative_again t place p.second more table within.1) refl

pair_sound : (t : DecisionTable) (place : ℕ) (words : List (List ℕ)) (x : Pair × List (List ℕ)) → pair_at t place words ≡ Ok x → (words ≡ pair_words t x.0 ++ x.1) × PairWithin (length t.alternatives) x.0
unfolding pair_at
pair_sound t place words x e =
    let a = bind_ok (alternative_at t place words) (λ first. alternative_at t place first.1 >>= λ second. pair_read first.0 second) x e in
    let b = bind_ok (alternative_at t place a.0.1) (λ second. pair_read a.0.0 second) x a.2 in
    let first = alternative_sound t place words a.0 a.1 in
    let second = alternative_sound t place a.0.1 b.0 b.1 in
    subst (λ (y : Pair × List (List ℕ)). (words ≡ pair_words t y.0 ++ y.1) × PairWithin (length t.alternatives) y.0) (ok_is (record { first = a.0.0; second = b.0.0 }, b.0.1) x b.2) (first.0 ∙ ap (λ (ws : List (List ℕ)). id_of t a.0.0 ∷ ws) second.0, (first.1, second.1))

-- a scope stands before one last word
scope_again : (t : DecisionTable) (place : ℕ) (s : Scope) (last : List ℕ) → IsTable t → ScopeWithin (length t.criteria) s → scope_at t place (scope_words t s ++ last ∷ []) ≡ Ok (s, last ∷ [])
unfolding scope_at
scope_again t place Whole last table within = refl
scope_again t place (One i) last table within = rw (after_word_again place (codes "on") (criterion_id_of t i ∷ last ∷ []), criterion_again t place i (last ∷ []) table within) refl

scope_sound : (t : DecisionTable) (place : ℕ) (words : List (List ℕ)) (x : Scope × List (List ℕ)) → scope_at t place words ≡ Ok x → (words ≡ scope_words t x.0 ++ x.1) × ScopeWithin (length t.criteria) x.0
unfolding scope_at
scope_sound t place words x e =
    elim (cases_Bool (leb (length words) 1)) [
      | inl few ↦ subst (λ (y : Scope × List (List ℕ)). (words ≡ scope_words t y.0 ++ y.1) × ScopeWithin (length t.criteria) y.0) (ok_is (Whole, words) x (sym (cond-true _ _ _ few) ∙ e)) (refl, tt)
      | inr more ↦
          let a = bind_ok (after_word place (codes "on") words) (λ rest. criterion_at t place rest >>= λ criterion. one_read criterion) x (sym (cond-false _ _ _ more) ∙ e) in
          let b = bind_ok (criterion_at t place a.0) (λ criterion. one_read criterion) x a.2 in
          let on = after_word_sound place (codes "on") words a.0 a.1 in
          let criterion = criterion_sound t place a.0 b.0 b.1 in
          subst (λ (y : Scope × List (List ℕ)). (words ≡ scope_words t y.0 ++ y.1) × ScopeWithin (length t.criteria) y.0) (ok_is (One b.0.0, b.0.1) x b.2) (on ∙ ap (λ (ws : List (List ℕ)). codes "on" ∷ ws) criterion.0, criterion.1)
    ]

strength_again : (t : DecisionTable) (place : ℕ) (p q : Pair) (s : Scope) (last : List ℕ) → IsTable t → PairWithin (length t.alternatives) q → ScopeWithin (length t.criteria) s → strength_at t place p ((pair_words t q ++ scope_words t s) ++ last ∷ []) ≡ Ok (Strength p q s, last ∷ [])
unfolding strength_at
strength_again t place p q s last table pair scope = rw (pair_again t place q (scope_words t s ++ last ∷ []) table pair, scope_again t place s last table scope) refl

strength_sound : (t : DecisionTable) (place : ℕ) (p : Pair) (words : List (List ℕ)) (x : Form × List (List ℕ)) → strength_at t place p words ≡ Ok x → PairWithin (length t.alternatives) p → (pair_words t p ++ words ≡ form_words t x.0 ++ x.1) × NamesWithin (length t.alternatives) (length t.criteria) x.0
unfolding strength_at
strength_sound t place p words x e within =
    let a = bind_ok (pair_at t place words) (λ second. scope_at t place second.1 >>= λ scope. strength_read p second.0 scope) x e in
    let b = bind_ok (scope_at t place a.0.1) (λ scope. strength_read p a.0.0 scope) x a.2 in
    let pair = pair_sound t place words a.0 a.1 in
    let scope = scope_sound t place a.0.1 b.0 b.1 in
    let both : words ≡ (pair_words t a.0.0 ++ scope_words t b.0.0) ++ b.0.1 = pair.0 ∙ ap (λ (ws : List (List ℕ)). pair_words t a.0.0 ++ ws) scope.0 in
    subst (λ (y : Form × List (List ℕ)). (pair_words t p ++ words ≡ form_words t y.0 ++ y.1) × NamesWithin (length t.alternatives) (length t.criteria) y.0) (ok_is (Strength p a.0.0 b.0.0, b.0.1) x b.2) (ap (λ (ws : List (List ℕ)). pair_words t p ++ ws) both, (within, pair.1, scope.1))

form_again : (t : DecisionTable) (place : ℕ) (form : Form) (last : List ℕ) → IsTable t → NamesWithin (length t.alternatives) (length t.criteria) form → form_at t place (form_words t form ++ last ∷ []) ≡ Ok (form, last ∷ [])
unfolding form_at
form_again t place (Value a b) last table within = rw (pair_again t place (record { first = a; second = b }) (last ∷ []) table within) refl
form_again t place (Strength p q s) last table within =
    let rest = (pair_words t q ++ scope_words t s) ++ last ∷ [] in
    let many : leb (length rest) 1 ≡ false = lt-leb _ _ (omega arith) in
    rw (pair_again t place p rest table within.0, many) (strength_again t place p q s last table within.1 within.2)

form_sound : (t : DecisionTable) (place : ℕ) (words : List (List ℕ)) (x : Form × List (List ℕ)) → form_at t place words ≡ Ok x → (words ≡ form_words t x.0 ++ x.1) × NamesWithin (length t.alternatives) (length t.criteria) x.0
unfolding form_at
form_sound t place words x e =
    let a = bind_ok (pair_at t place words) (λ first. cond (leb (length first.1) 1) (value_read first) (strength_at t place first.0 first.1)) x e in
    let pair = pair_sound t place words a.0 a.1 in
    elim (cases_Bool (leb (length a.0.1) 1)) [
      | inl few ↦ subst (λ (y : Form × List (List ℕ)). (words ≡ form_words t y.0 ++ y.1) × NamesWithin (length t.alternatives) (length t.criteria) y.0) (ok_is (Value a.0.0.first a.0.0.second, a.0.1) x (sym (cond-true _ _ _ few) ∙ a.2)) pair
      | inr more ↦
          let strength = strength_sound t place a.0.0 a.0.1 x (sym (cond-false _ _ _ more) ∙ a.2) pair.1 in
          (pair.0 ∙ strength.0, strength.1)
    ]

-- ---- questions

class_again : (t : DecisionTable) (place a h : ℕ) (more : List (List ℕ)) → IsTable t → a < length t.alternatives → h < 2 ^ 32 → class_at t place (id_of t a ∷ decimal h ∷ more) ≡ Ok ((a, h), more)
unfolding class_at
class_again t place a h more table within small = rw (alternative_again t place a (decimal h ∷ more) table within, small_number_again place h more small) refl

class_sound : (t : DecisionTable) (place : ℕ) (words : List (List ℕ)) (x : (ℕ × ℕ) × List (List ℕ)) → class_at t place words ≡ Ok x → (words ≡ id_of t x.0.0 ∷ decimal x.0.1 ∷ x.1) × ((x.0.0 < length t.alternatives) × (x.0.1 < 2 ^ 32))
unfolding class_at
class_sound t place words x e =
    let a = bind_ok (alternative_at t place words) (λ alternative. small_number_at place alternative.1 >>= λ class. class_read alternative.0 class) x e in
    let b = bind_ok (small_number_at place a.0.1) (λ class. class_read a.0.0 class) x a.2 in
    let alternative = alternative_sound t place words a.0 a.1 in
    let class = small_number_sound place a.0.1 b.0 b.1 in
    subst (λ (y : (ℕ × ℕ) × List (List ℕ)). (words ≡ id_of t y.0.0 ∷ decimal y.0.1 ∷ y.1) × ((y.0.0 < length t.alternatives) × (y.0.1 < 2 ^ 32))) (ok_is ((a.0.0, b.0.0), b.0.1) x b.2) (alternative.0 ∙ ap (λ (ws : List (List ℕ)). id_of t a.0.0 ∷ ws) class.0, (alternative.1, class.1))

-- a question stands before one last word
pub question_again : (t : DecisionTable) (place : ℕ) (q : Question) (last : List ℕ) → IsTable t → IsNamed t q → question_at t place (question_words t q ++ last ∷ []) ≡ Ok (q, last ∷ [])
unfolding question_at
question_again t place questions.Consistent last table named = rw (name_again question_word question_names place asked.Consistent (last ∷ []) refl) refl
question_again t place (questions.Necessary a b) last table named = rw (name_again question_word question_names place asked.Necessary (id_of t a ∷ id_of t b ∷ last ∷ []) refl, form_again t place (Value a b) last table named) refl
question_again t place (questions.Possible a b) last table named = rw (name_again question_word question_names place asked.Possible (id_of t a ∷ id_of t b ∷ last ∷ []) refl, form_again t place (Value a b) last table named) refl
question_again t place (questions.NecessaryStrength p q s) last table named = rw (name_again question_word question_names place asked.Necessary (form_words t (Strength p q s) ++ last ∷ []) refl, form_again t place (Strength p q s) last table named) refl
question_again t place (questions.PossibleStrength p q s) last table named = rw (name_again question_word question_names place asked.Possible (form_words t (Strength p q s) ++ last ∷ []) refl, form_again t place (Strength p q s) last table named) refl
question_again t place (questions.PossibleClass a h) last table named = rw (name_again question_word question_names place asked.PossibleClass (id_of t a ∷ decimal h ∷ last ∷ []) refl, class_again t place a h (last ∷ []) table named.0 named.1) refl
question_again t place (questions.NecessaryClass a h) last table named = rw (name_again question_word question_names place asked.NecessaryClass (id_of t a ∷ decimal h ∷ last ∷ []) refl, class_again t place a h (last ∷ []) table named.0 named.1) refl

-- what is read was written, and names what it may
abbrev IsSound : DecisionTable → List (List ℕ) → Question × List (List ℕ) → Type 0
IsSound t words x = (words ≡ question_words t x.0 ++ x.1) × IsNamed t x.0

necessary_words : (t : DecisionTable) (form : Form) (more : List (List ℕ)) → NamesWithin (length t.alternatives) (length t.criteria) form → IsSound t (codes "necessary" ∷ (form_words t form ++ more)) (necessary form, more)
necessary_words t (Value a b) more within = (refl, within)
necessary_words t (Strength p q s) more within = (refl, within)

possible_words : (t : DecisionTable) (form : Form) (more : List (List ℕ)) → NamesWithin (length t.alternatives) (length t.criteria) form → IsSound t (codes "possible" ∷ (form_words t form ++ more)) (possible form, more)
possible_words t (Value a b) more within = (refl, within)
possible_words t (Strength p q s) more within = (refl, within)

asked_sound : (t : DecisionTable) (place : ℕ) (name : QuestionName) (words : List (List ℕ)) (x : Question × List (List ℕ)) → asked_at t place name words ≡ Ok x → IsSound t (question_word name ∷ words) x
asked_sound t place asked.Consistent words x e = subst (IsSound t (codes "consistent" ∷ words)) (ok_is (questions.Consistent, words) x e) (refl, tt)
asked_sound t place asked.Necessary words x e =
    let a = bind_ok (form_at t place words) (λ form. done (necessary form.0, form.1)) x e in
    let form = form_sound t place words a.0 a.1 in
    subst (λ y. IsSound t (codes "necessary" ∷ words) y) (ok_is (necessary a.0.0, a.0.1) x a.2) (subst (λ ws. IsSound t (codes "necessary" ∷ ws) (necessary a.0.0, a.0.1)) (sym form.0) (necessary_words t a.0.0 a.0.1 form.1))
asked_sound t place asked.Possible words x e =
    let a = bind_ok (form_at t place words) (λ form. done (possible form.0, form.1)) x e in
    let form = form_sound t place words a.0 a.1 in
    subst (λ y. IsSound t (codes "possible" ∷ words) y) (ok_is (possible a.0.0, a.0.1) x a.2) (subst (λ ws. IsSound t (codes "possible" ∷ ws) (possible a.0.0, a.0.1)) (sym form.0) (possible_words t a.0.0 a.0.1 form.1))
asked_sound t place asked.PossibleClass words x e =
    let a = bind_ok (class_at t place words) (λ class. done (questions.PossibleClass class.0.0 class.0.1, class.1)) x e in
    let class = class_sound t place words a.0 a.1 in
    subst (IsSound t (codes "possible-class" ∷ words)) (ok_is (questions.PossibleClass a.0.0.0 a.0.0.1, a.0.1) x a.2) (ap (λ (ws : List (List ℕ)). codes "possible-class" ∷ ws) class.0, class.1)
asked_sound t place asked.NecessaryClass words x e =
    let a = bind_ok (class_at t place words) (λ class. done (questions.NecessaryClass class.0.0 class.0.1, class.1)) x e in
    let class = class_sound t place words a.0 a.1 in
    subst (IsSound t (codes "necessary-class" ∷ words)) (ok_is (questions.NecessaryClass a.0.0.0 a.0.0.1, a.0.1) x a.2) (ap (λ (ws : List (List ℕ)). codes "necessary-class" ∷ ws) class.0, class.1)

pub question_sound : (t : DecisionTable) (place : ℕ) (words : List (List ℕ)) (x : Question × List (List ℕ)) → question_at t place words ≡ Ok x → (words ≡ question_words t x.0 ++ x.1) × IsNamed t x.0
unfolding question_at
question_sound t place words x e =
    let a = bind_ok (name_at question_word question_names place words) (λ name. asked_at t place name.0 name.1) x e in
    let name = name_sound question_word question_names place words a.0 a.1 in
    let sound = asked_sound t place a.0.0 a.0.1 x a.2 in
    (name ∙ sound.0, sound.1)
