-- The words that are combined from true answers are the group's.
use Rattle.std.proofs.Common.{◌≡◌, ℕ, Bool, true, false, List, [], ◌∷◌, refl, sym, subst, inl, inr}
use Rattle.std.specs.List.{AllByRecursion}
use Rattle.std.proofs.lemmas.Bool.{cases_Bool, cond-true, cond-false, or_parts}
use Rattle.ror_statement.specs.declared.statement.Statement.{Statement}
use Rattle.ror_statement.specs.declared.question.Question.{Question}
use Rattle.ror_statement.specs.declared.question.Question.TheVariants.{Necessary, Possible}
use Rattle.ror_statement.specs.declared.question.Conclusion.{Conclusion}
use Rattle.ror_statement.specs.declared.question.Conclusion.TheVariants as conclusions
use Rattle.ror_table.specs.Table.{DecisionTable}
use Rattle.ror_value.specs.Meaning.{Answers, IsConsistent, IsContradictory}
use Rattle.ror_proof.specs.declared.answer.Answer.{Answer}
use Rattle.ror_proof.specs.declared.answer.Verdict.{Verdict}
use Rattle.ror_proof.specs.declared.answer.Verdict.TheVariants as verdicts
use Rattle.ror_check.specs.Proof.{IsWideOrTrue}
use Rattle.ror_group.specs.declared.quartet.Word4.TheVariants as words
use Rattle.ror_group.specs.Group.{Quantifier, SomeHas, HoldsFor, IsGroupAnswer, IsWideOrGroupAnswer, AreGroupAnswers}
use Rattle.ror_group.specs.Group.Quantifier.{every_judge, some_judge}
use Rattle.ror_group.specs.Combining.{asked_on, InStep, every_second, on_necessary, on_possible, says, one_says, for_every, for_some, combined}

-- ---- one answer of a group

consistent_not_contradictory : (t : DecisionTable) (lists : List (List Statement)) → AllByRecursion (IsConsistent t) lists → SomeHas (IsContradictory t) lists → ⊥
consistent_not_contradictory t [] all none = none
consistent_not_contradictory t (list ∷ lists) all (inl here) = here all.0.0 all.0.1
consistent_not_contradictory t (list ∷ lists) all (inr later) = consistent_not_contradictory t lists all.1 later

pub one_group_answer : (t : DecisionTable) (lists : List (List Statement)) (quantifier : Quantifier) (q : Question) (c d : Conclusion) → IsGroupAnswer t lists quantifier q c → IsGroupAnswer t lists quantifier q d → c ≡ d
one_group_answer t lists quantifier q conclusions.Yes conclusions.Yes x y = refl
one_group_answer t lists quantifier q conclusions.Yes conclusions.No x y = absurd (y.1 x.1)
one_group_answer t lists quantifier q conclusions.Yes conclusions.Contradiction x y = absurd (consistent_not_contradictory t lists x.0 y)
one_group_answer t lists quantifier q conclusions.No conclusions.Yes x y = absurd (x.1 y.1)
one_group_answer t lists quantifier q conclusions.No conclusions.No x y = refl
one_group_answer t lists quantifier q conclusions.No conclusions.Contradiction x y = absurd (consistent_not_contradictory t lists x.0 y)
one_group_answer t lists quantifier q conclusions.Contradiction conclusions.Yes x y = absurd (consistent_not_contradictory t lists y.0 x)
one_group_answer t lists quantifier q conclusions.Contradiction conclusions.No x y = absurd (consistent_not_contradictory t lists y.0 x)
one_group_answer t lists quantifier q conclusions.Contradiction conclusions.Contradiction x y = refl

pub no_judges : (t : DecisionTable) (q : Question) → IsGroupAnswer t [] every_judge q conclusions.Yes × IsGroupAnswer t [] some_judge q conclusions.No
no_judges t q = ((tt, tt), (tt, λ none. none))

-- ---- the answers to one question, one for each judge

-- there are as many answers as judges, and the verdict of each stands to his list in this way
abbrev Along : (List Statement → Verdict → Type 0) → List (List Statement) → List Answer → Type 0
Along P [] [] = Unit {0}
Along P (list ∷ lists) (x ∷ xs) = P list x.verdict × Along P lists xs
Along P _ _ = ⊥

abbrev IsAnswered : DecisionTable → ℕ → ℕ → List (List Statement) → List Answer → Type 0
IsAnswered t a b lists xs = InStep (λ q x. IsWideOrTrue t q.list q.question x.verdict) (asked_on a b lists) xs

necessary_along : (t : DecisionTable) (a b : ℕ) (lists : List (List Statement)) (xs : List Answer) → IsAnswered t a b lists xs → Along (λ list v. IsWideOrTrue t list (Necessary a b) v) lists (on_necessary xs)
necessary_along t a b [] [] h = tt
necessary_along t a b [] (x ∷ xs) h = absurd h
necessary_along t a b (list ∷ lists) [] h = absurd h
necessary_along t a b (list ∷ lists) (x ∷ []) h = absurd h.1
necessary_along t a b (list ∷ lists) (x ∷ y ∷ xs) h = (h.0, necessary_along t a b lists xs h.1.1)

possible_along : (t : DecisionTable) (a b : ℕ) (lists : List (List Statement)) (xs : List Answer) → IsAnswered t a b lists xs → Along (λ list v. IsWideOrTrue t list (Possible a b) v) lists (on_possible xs)
possible_along t a b [] [] h = tt
possible_along t a b [] (x ∷ xs) h = absurd h
possible_along t a b (list ∷ lists) [] h = absurd h
possible_along t a b (list ∷ lists) (x ∷ []) h = absurd h.1
possible_along t a b (list ∷ lists) (x ∷ y ∷ xs) h = (h.1.0, possible_along t a b lists xs h.1.1)

-- ---- contradictions

contradicts : (t : DecisionTable) (list : List Statement) (q : Question) (v : Verdict) → says words.Contradiction v ≡ true → IsWideOrTrue t list q v → IsContradictory t list
contradicts t list q (verdicts.Yes proof) h true_verdict = absurd cc
contradicts t list q (verdicts.No proof) h true_verdict = absurd cc
contradicts t list q (verdicts.Contradiction proof) h true_verdict = true_verdict
contradicts t list q (verdicts.Wide system note) h true_verdict = absurd cc

some_contradicts : (t : DecisionTable) (a b : ℕ) (lists : List (List Statement)) (xs : List Answer) → IsAnswered t a b lists xs → one_says words.Contradiction xs ≡ true → SomeHas (IsContradictory t) lists
some_contradicts t a b [] [] h hit = absurd cc
some_contradicts t a b [] (x ∷ xs) h hit = absurd h
some_contradicts t a b (list ∷ lists) [] h hit = absurd h
some_contradicts t a b (list ∷ lists) (x ∷ []) h hit = absurd h.1
some_contradicts t a b (list ∷ lists) (x ∷ y ∷ xs) h hit =
    elim (cases_Bool (says words.Contradiction x.verdict)) [
      | inl first ↦ inl (contradicts t list (Necessary a b) x.verdict first h.0)
      | inr not_first ↦
          elim (cases_Bool (says words.Contradiction y.verdict)) [
            | inl second ↦ inl (contradicts t list (Possible a b) y.verdict second h.1.0)
            | inr not_second ↦ inr (some_contradicts t a b lists xs h.1.1 (let left = rw (not_first, not_second) at hit in left))
          ]
    ]

none_of_every_second : (first : Bool) (xs : List Answer) → one_says words.Contradiction xs ≡ false → one_says words.Contradiction (every_second first xs) ≡ false
none_of_every_second true [] none = refl
none_of_every_second false [] none = refl
none_of_every_second true (x ∷ xs) none = let parts = or_parts (says words.Contradiction x.verdict) (one_says words.Contradiction xs) none in rw parts.0 (none_of_every_second false xs parts.1)
none_of_every_second false (x ∷ xs) none = let parts = or_parts (says words.Contradiction x.verdict) (one_says words.Contradiction xs) none in none_of_every_second true xs parts.1

-- ---- answers of which none is wide and none a contradiction

abbrev IsDecided : DecisionTable → Question → List Statement → Verdict → Type 0
IsDecided t q list (verdicts.Yes proof) = Answers t list q conclusions.Yes
IsDecided t q list (verdicts.No proof) = Answers t list q conclusions.No
IsDecided t q list _ = ⊥

decided : (t : DecisionTable) (q : Question) (list : List Statement) (v : Verdict) → says words.Wide v ≡ false → says words.Contradiction v ≡ false → IsWideOrTrue t list q v → IsDecided t q list v
decided t q list (verdicts.Yes proof) narrow none h = h
decided t q list (verdicts.No proof) narrow none h = h
decided t q list (verdicts.Contradiction proof) narrow none h = absurd cc
decided t q list (verdicts.Wide system note) narrow none h = absurd cc

all_decided : (t : DecisionTable) (q : Question) (lists : List (List Statement)) (xs : List Answer) → one_says words.Wide xs ≡ false → one_says words.Contradiction xs ≡ false → Along (λ list v. IsWideOrTrue t list q v) lists xs → Along (IsDecided t q) lists xs
all_decided t q [] [] narrow none h = tt
all_decided t q [] (x ∷ xs) narrow none h = absurd h
all_decided t q (list ∷ lists) [] narrow none h = absurd h
all_decided t q (list ∷ lists) (x ∷ xs) narrow none h =
    let wide = or_parts (says words.Wide x.verdict) (one_says words.Wide xs) narrow in
    let contradict = or_parts (says words.Contradiction x.verdict) (one_says words.Contradiction xs) none in
    (decided t q list x.verdict wide.0 contradict.0 h.0, all_decided t q lists xs wide.1 contradict.1 h.1)

consistent_one : (t : DecisionTable) (q : Question) (list : List Statement) (v : Verdict) → IsDecided t q list v → IsConsistent t list
consistent_one t q list (verdicts.Yes proof) h = h.0
consistent_one t q list (verdicts.No proof) h = h.0
consistent_one t q list (verdicts.Contradiction proof) h = absurd h
consistent_one t q list (verdicts.Wide system note) h = absurd h

consistent : (t : DecisionTable) (q : Question) (lists : List (List Statement)) (xs : List Answer) → Along (IsDecided t q) lists xs → AllByRecursion (IsConsistent t) lists
consistent t q [] [] h = tt
consistent t q [] (x ∷ xs) h = absurd h
consistent t q (list ∷ lists) [] h = absurd h
consistent t q (list ∷ lists) (x ∷ xs) h = (consistent_one t q list x.verdict h.0, consistent t q lists xs h.1)

-- a verdict that is decided is yes where the question holds, and no where it does not
said_yes : (t : DecisionTable) (q : Question) (list : List Statement) (v : Verdict) → says words.Yes v ≡ true → IsDecided t q list v → HoldsFor t q list
said_yes t q list (verdicts.Yes proof) said h = h.1
said_yes t q list (verdicts.No proof) said h = absurd cc
said_yes t q list (verdicts.Contradiction proof) said h = absurd h
said_yes t q list (verdicts.Wide system note) said h = absurd h

not_yes : (t : DecisionTable) (q : Question) (list : List Statement) (v : Verdict) → says words.Yes v ≡ false → IsDecided t q list v → HoldsFor t q list → ⊥
not_yes t q list (verdicts.Yes proof) said h = absurd cc
not_yes t q list (verdicts.No proof) said h = h.1
not_yes t q list (verdicts.Contradiction proof) said h = absurd h
not_yes t q list (verdicts.Wide system note) said h = absurd h

said_no : (t : DecisionTable) (q : Question) (list : List Statement) (v : Verdict) → says words.No v ≡ true → IsDecided t q list v → HoldsFor t q list → ⊥
said_no t q list (verdicts.Yes proof) said h = absurd cc
said_no t q list (verdicts.No proof) said h = h.1
said_no t q list (verdicts.Contradiction proof) said h = absurd h
said_no t q list (verdicts.Wide system note) said h = absurd h

not_no : (t : DecisionTable) (q : Question) (list : List Statement) (v : Verdict) → says words.No v ≡ false → IsDecided t q list v → HoldsFor t q list
not_no t q list (verdicts.Yes proof) said h = h.1
not_no t q list (verdicts.No proof) said h = absurd cc
not_no t q list (verdicts.Contradiction proof) said h = absurd h
not_no t q list (verdicts.Wide system note) said h = absurd h

-- ---- of every judge

holds_for_every : (t : DecisionTable) (q : Question) (lists : List (List Statement)) (xs : List Answer) → one_says words.No xs ≡ false → Along (IsDecided t q) lists xs → AllByRecursion (HoldsFor t q) lists
holds_for_every t q [] [] none h = tt
holds_for_every t q [] (x ∷ xs) none h = absurd h
holds_for_every t q (list ∷ lists) [] none h = absurd h
holds_for_every t q (list ∷ lists) (x ∷ xs) none h =
    let parts = or_parts (says words.No x.verdict) (one_says words.No xs) none in
    (not_no t q list x.verdict parts.0 h.0, holds_for_every t q lists xs parts.1 h.1)

fails_for_one : (t : DecisionTable) (q : Question) (lists : List (List Statement)) (xs : List Answer) → one_says words.No xs ≡ true → Along (IsDecided t q) lists xs → AllByRecursion (HoldsFor t q) lists → ⊥
fails_for_one t q [] [] one h all = absurd cc
fails_for_one t q [] (x ∷ xs) one h all = absurd h
fails_for_one t q (list ∷ lists) [] one h all = absurd h
fails_for_one t q (list ∷ lists) (x ∷ xs) one h all =
    elim (cases_Bool (says words.No x.verdict)) [
      | inl hit ↦ said_no t q list x.verdict hit h.0 all.0
      | inr miss ↦ fails_for_one t q lists xs (let left = rw miss at one in left) h.1 all.1
    ]

every_is_true : (t : DecisionTable) (q : Question) (lists : List (List Statement)) (xs : List Answer) → one_says words.Contradiction xs ≡ false → Along (λ list v. IsWideOrTrue t list q v) lists xs → IsWideOrGroupAnswer t lists every_judge q (for_every xs)
every_is_true t q lists xs none h =
    elim (cases_Bool (one_says words.Wide xs)) [
      | inl wide ↦ rw wide tt
      | inr narrow ↦
          let each = all_decided t q lists xs narrow none h in
          elim (cases_Bool (one_says words.No xs)) [
            | inl hit ↦ rw (narrow, hit) (consistent t q lists xs each, fails_for_one t q lists xs hit each)
            | inr miss ↦ rw (narrow, miss) (consistent t q lists xs each, holds_for_every t q lists xs miss each)
          ]
    ]

-- ---- of some judge

holds_for_one : (t : DecisionTable) (q : Question) (lists : List (List Statement)) (xs : List Answer) → one_says words.Yes xs ≡ true → Along (IsDecided t q) lists xs → SomeHas (HoldsFor t q) lists
holds_for_one t q [] [] one h = absurd cc
holds_for_one t q [] (x ∷ xs) one h = absurd h
holds_for_one t q (list ∷ lists) [] one h = absurd h
holds_for_one t q (list ∷ lists) (x ∷ xs) one h =
    elim (cases_Bool (says words.Yes x.verdict)) [
      | inl hit ↦ inl (said_yes t q list x.verdict hit h.0)
      | inr miss ↦ inr (holds_for_one t q lists xs (let left = rw miss at one in left) h.1)
    ]

fails_for_every : (t : DecisionTable) (q : Question) (lists : List (List Statement)) (xs : List Answer) → one_says words.Yes xs ≡ false → Along (IsDecided t q) lists xs → SomeHas (HoldsFor t q) lists → ⊥
fails_for_every t q [] [] none h some = some
fails_for_every t q [] (x ∷ xs) none h some = absurd h
fails_for_every t q (list ∷ lists) [] none h some = absurd h
fails_for_every t q (list ∷ lists) (x ∷ xs) none h (inl here) = not_yes t q list x.verdict (or_parts (says words.Yes x.verdict) (one_says words.Yes xs) none).0 h.0 here
fails_for_every t q (list ∷ lists) (x ∷ xs) none h (inr later) = fails_for_every t q lists xs (or_parts (says words.Yes x.verdict) (one_says words.Yes xs) none).1 h.1 later

some_is_true : (t : DecisionTable) (q : Question) (lists : List (List Statement)) (xs : List Answer) → one_says words.Contradiction xs ≡ false → Along (λ list v. IsWideOrTrue t list q v) lists xs → IsWideOrGroupAnswer t lists some_judge q (for_some xs)
some_is_true t q lists xs none h =
    elim (cases_Bool (one_says words.Wide xs)) [
      | inl wide ↦ rw wide tt
      | inr narrow ↦
          let each = all_decided t q lists xs narrow none h in
          elim (cases_Bool (one_says words.Yes xs)) [
            | inl hit ↦ rw (narrow, hit) (consistent t q lists xs each, holds_for_one t q lists xs hit each)
            | inr miss ↦ rw (narrow, miss) (consistent t q lists xs each, fails_for_every t q lists xs miss each)
          ]
    ]

-- ---- all four

pub combined_are_true : (t : DecisionTable) (lists : List (List Statement)) (a b : ℕ) (xs : List Answer) → IsAnswered t a b lists xs → AreGroupAnswers t lists a b (combined xs)
combined_are_true t lists a b xs h =
    elim (cases_Bool (one_says words.Contradiction xs)) [
      | inl hit ↦
          let one = some_contradicts t a b lists xs h hit in
          subst (AreGroupAnswers t lists a b) (sym (cond-true (one_says words.Contradiction xs) _ _ hit)) (record { necessary_for_every = one; necessary_for_some = one; possible_for_every = one; possible_for_some = one })
      | inr none ↦
          let necessary = necessary_along t a b lists xs h in
          let possible = possible_along t a b lists xs h in
          let no_necessary = none_of_every_second true xs none in
          let no_possible = none_of_every_second false xs none in
          subst (AreGroupAnswers t lists a b) (sym (cond-false (one_says words.Contradiction xs) _ _ none)) (record {
            necessary_for_every = every_is_true t (Necessary a b) lists (on_necessary xs) no_necessary necessary;
            necessary_for_some = some_is_true t (Necessary a b) lists (on_necessary xs) no_necessary necessary;
            possible_for_every = every_is_true t (Possible a b) lists (on_possible xs) no_possible possible;
            possible_for_some = some_is_true t (Possible a b) lists (on_possible xs) no_possible possible;
          })
    ]
