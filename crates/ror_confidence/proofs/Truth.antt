-- That a span with its proof is that of the pair at every level, and that a pair has one span.
use Rattle.std.proofs.Common.{◌≡◌, inl, inr, ℕ, zero, suc, ◌+◌, ◌-◌, ◌<◌, ◌≤◌, true, List, [], ◌∷◌, ◌++◌, length, sym, ap, subst, ◌∙◌, arith}
use Rattle.std.specs.Prelude.{slice_index_or, nat_le, nat_lt, ◌&&◌}
use Rattle.std.specs.List.{AllByRecursion, AllZip}
use Rattle.std.proofs.lemmas.Bool.{cases_lt, lt-ltb, ltb-true, leb-true}
use Rattle.ror_text.proofs.Everywhere.{all-front, all-back}
use Rattle.ror_statement.specs.declared.statement.Statement.{Statement}
use Rattle.ror_statement.specs.declared.question.Question.{Question}
use Rattle.ror_statement.specs.declared.question.Question.TheVariants.{Consistent, Necessary, Possible}
use Rattle.ror_statement.specs.declared.question.Conclusion.{Conclusion}
use Rattle.ror_statement.specs.declared.question.Conclusion.TheVariants as conclusions
use Rattle.ror_statement.specs.Questions.{kind_of}
use Rattle.ror_table.specs.Table.{DecisionTable}
use Rattle.ror_value.specs.Over.{IsLawfulIn, IsAskedIn}
use Rattle.ror_value.specs.Meaning.{Answers}
use Rattle.ror_proof.specs.declared.answer.Verdict.{Verdict}
use Rattle.ror_proof.specs.declared.answer.Verdict.TheVariants as verdicts
use Rattle.ror_check.specs.Proof.{IsTrueVerdict}
use Rattle.ror_check.proofs.Checking.{answer_is_true, both_true}
use Rattle.ror_confidence.specs.declared.due.Due.{Due}
use Rattle.ror_confidence.specs.declared.span.LevelAnswer.{LevelAnswer}
use Rattle.ror_confidence.specs.declared.span.Span.{Span}
use Rattle.ror_confidence.specs.Levels.{list_of_level}
use Rattle.ror_confidence.specs.Spans.{AreLevelLists, ContradictsAt, IsLeastLevel, IsNumberOfLevels, IsSpan, IsYesAt}
use Rattle.ror_confidence.specs.Proof.{concludes, conclusion_below, conclusion_from, dues_of, due_below, due_from, is_in_range, IsProvedDue, IsProvedSpan}
use Rattle.ror_confidence.specs.Finding.{IsConsistentAt}
use Rattle.ror_confidence.proofs.Nested.{consistent-fewer, necessary-more, possible-fewer}

-- ---- the borders

pub contradictory_border : (t : DecisionTable) (lists : List (List Statement)) (c : ℕ) → AreLevelLists t lists → 1 ≤ c → c ≤ length lists + 1 → (c ≤ length lists → ContradictsAt t lists c) → (1 < c → IsConsistentAt t lists (c - 1)) → IsLeastLevel (ContradictsAt t lists) (length lists) c
contradictory_border t lists c levels first last from below = record {
  from_first = first;
  to_last = last;
  holds = from;
  none_below = λ i start under contradicts.
      let all = below (omega (arith, start, under)) in
      let w = consistent-fewer t (list_of_level lists (c - 1)) (list_of_level lists i) (levels.nested i (c - 1) start (omega (arith, under)) (omega (arith, last, start, under))) all in
      contradicts w.0 w.1;
}

necessary_border : (t : DecisionTable) (lists : List (List Statement)) (a b c k : ℕ) → AreLevelLists t lists → c ≤ length lists + 1 → 1 ≤ k → k ≤ c → (k < c → IsYesAt t lists (Necessary a b) k) → (1 < k → Answers t (list_of_level lists (k - 1)) (Necessary a b) conclusions.No) → IsLeastLevel (IsYesAt t lists (Necessary a b)) (c - 1) k
necessary_border t lists a b c k levels last first upto from below = record {
  from_first = first;
  to_last = omega (arith, first, upto);
  holds = λ within. from (omega (arith, within, first, upto));
  none_below = λ i start under yes.
      let no = below (omega (arith, start, under)) in
      let more = necessary-more t (list_of_level lists (k - 1)) (list_of_level lists i) a b (levels.nested i (k - 1) start (omega (arith, under)) (omega (arith, last, upto, start, under))) no.0 yes in
      no.1 more.1;
}

pub count_up : (P : ℕ → Type 0) (n p : ℕ) → p ≤ n → ((i : ℕ) → 1 ≤ i → i ≤ p → P i) → ((i : ℕ) → p < i → i ≤ n → P i → ⊥) → IsNumberOfLevels P n p
count_up P zero p within each none = omega (arith, within)
count_up P (suc n) p within each none = elim (cases_lt n p) [
  | inl above ↦ let is : p ≡ suc n = omega (arith, above, within) in
      inl (n, is, each (suc n) (omega arith) (omega (arith, is)), count_up P n n (omega arith) (λ i start upto. each i start (omega (arith, upto, is))) (λ i over upto. absurd (omega (arith, over, upto))))
  | inr under ↦ inr (none (suc n) (omega (arith, under)) (omega arith), count_up P n p (omega (arith, under)) each (λ i over upto. none i over (omega (arith, upto))))
]

possible_border : (t : DecisionTable) (lists : List (List Statement)) (a b c p : ℕ) → AreLevelLists t lists → c ≤ length lists + 1 → p < c → (1 ≤ p → IsYesAt t lists (Possible a b) p) → (p + 1 < c → Answers t (list_of_level lists (p + 1)) (Possible a b) conclusions.No) → IsNumberOfLevels (IsYesAt t lists (Possible a b)) (c - 1) p
possible_border t lists a b c p levels last under upto above =
    count_up (IsYesAt t lists (Possible a b)) (c - 1) p (omega (arith, under))
    (λ i start within. possible-fewer t (list_of_level lists p) (list_of_level lists i) a b (levels.nested i p start within (omega (arith, last, under))) (upto (omega (arith, start, within))))
    (λ i over within yes.
    let no = above (omega (arith, over, within)) in
    let fewer = possible-fewer t (list_of_level lists i) (list_of_level lists (p + 1)) a b (levels.nested (p + 1) i (omega arith) (omega (arith, over)) (omega (arith, within, last, under))) yes in
    no.1 fewer.1)

-- ---- what is due

-- an answer that is due is there, with its proof
abbrev HasDue : DecisionTable → List (List Statement) → Due → Type 0
HasDue t lists due = (x : LevelAnswer) × IsProvedDue t lists due x

all_due : (t : DecisionTable) (lists : List (List Statement)) (dues : List Due) (xs : List LevelAnswer) → AllZip (IsProvedDue t lists) dues xs → AllByRecursion (HasDue t lists) dues
all_due t lists [] [] h = tt
all_due t lists [] (x ∷ xs) h = absurd h
all_due t lists (due ∷ dues) [] h = absurd h
all_due t lists (due ∷ dues) (x ∷ xs) h = ((x, h.0), all_due t lists dues xs h.1)

concluded : (t : DecisionTable) (list : List Statement) (q : Question) (c : Conclusion) (v : Verdict) → IsTrueVerdict t list q v → concludes c v ≡ true → Answers t list q c
concluded t list q conclusions.Yes (verdicts.Yes proof) h is = h
concluded t list q conclusions.Yes (verdicts.No proof) h is = absurd cc
concluded t list q conclusions.Yes (verdicts.Contradiction proof) h is = absurd cc
concluded t list q conclusions.Yes (verdicts.Wide system note) h is = absurd cc
concluded t list q conclusions.No (verdicts.Yes proof) h is = absurd cc
concluded t list q conclusions.No (verdicts.No proof) h is = h
concluded t list q conclusions.No (verdicts.Contradiction proof) h is = absurd cc
concluded t list q conclusions.No (verdicts.Wide system note) h is = absurd cc
concluded t list q conclusions.Contradiction (verdicts.Yes proof) h is = absurd cc
concluded t list q conclusions.Contradiction (verdicts.No proof) h is = absurd cc
concluded t list q conclusions.Contradiction (verdicts.Contradiction proof) h is = h
concluded t list q conclusions.Contradiction (verdicts.Wide system note) h is = absurd cc

pub all_index : {X : Type 0} (P : X → Type 0) (xs : List X) (k : ℕ) (d : X) → k < length xs → AllByRecursion P xs → P (slice_index_or xs k d)
all_index P [] k d within all = absurd (omega (arith, within))
all_index P (x ∷ xs) zero d within all = all.0
all_index P (x ∷ xs) (suc k) d within all = all_index P xs k d (omega (arith, within)) all.1

pub level-lawful : (t : DecisionTable) (lists : List (List Statement)) (level : ℕ) → AllByRecursion (IsLawfulIn t) lists → 1 ≤ level → level ≤ length lists → IsLawfulIn t (list_of_level lists level)
level-lawful t lists level lawful first last = all_index (IsLawfulIn t) lists (level - 1) [] (omega (arith, first, last)) lawful

due_is_true : (t : DecisionTable) (lists : List (List Statement)) (due : Due) → AllByRecursion (IsLawfulIn t) lists → 1 ≤ due.level → due.level ≤ length lists → IsAskedIn t due.question → HasDue t lists due → Answers t (list_of_level lists due.level) due.question due.conclusion
due_is_true t lists due lawful first last asked has =
    let p = has.1 in
    let over = list_of_level lists due.level in
    concluded t over due.question due.conclusion has.0.answer.verdict (answer_is_true t over due.question has.0.answer (level-lawful t lists due.level lawful first last) asked p.proved) p.conclusion

abbrev due_of : Question → Conclusion → ℕ → Due
due_of q c level = record { level = level; question = q; conclusion = c }

has_from : (t : DecisionTable) (lists : List (List Statement)) (q : Question) (level end : ℕ) → AllByRecursion (HasDue t lists) (due_from q level end) → level < end → HasDue t lists (due_of q (conclusion_from (kind_of q)) level)
has_from t lists q level end all under = let one = rw (lt-ltb level end under) at all in one.0

has_below : (t : DecisionTable) (lists : List (List Statement)) (q : Question) (level : ℕ) → AllByRecursion (HasDue t lists) (due_below q level) → 1 < level → HasDue t lists (due_of q (conclusion_below (kind_of q)) (level - 1))
has_below t lists q level all over = let one = rw (lt-ltb 1 level over) at all in one.0

pub record IsInRange (n c k p : ℕ) : Type 0 where
  pub first : 1 ≤ c
  pub last : c ≤ n + 1
  pub from_first : 1 ≤ k
  pub upto : k ≤ c
  pub under : p < c

pub in_range : (n c k p : ℕ) → is_in_range n c k p ≡ true → IsInRange n c k p
in_range n c k p is =
    let one = both_true (nat_le 1 c && nat_le c (n + 1) && nat_le 1 k && nat_le k c) (nat_lt p c) is in
    let two = both_true (nat_le 1 c && nat_le c (n + 1) && nat_le 1 k) (nat_le k c) one.0 in
    let three = both_true (nat_le 1 c && nat_le c (n + 1)) (nat_le 1 k) two.0 in
    let four = both_true (nat_le 1 c) (nat_le c (n + 1)) three.0 in
    record {
      first = leb-true 1 c four.0;
      last = leb-true c (n + 1) four.1;
      from_first = leb-true 1 k three.1;
      upto = leb-true k c two.1;
      under = ltb-true p c one.1;
    }

-- the six answers that may be due
record HasDues (t : DecisionTable) (lists : List (List Statement)) (n a b c k p : ℕ) : Type 0 where
  contradictory_from : AllByRecursion (HasDue t lists) (due_from Consistent c (n + 1))
  contradictory_below : AllByRecursion (HasDue t lists) (due_below Consistent c)
  necessary_from : AllByRecursion (HasDue t lists) (due_from (Necessary a b) k c)
  necessary_below : AllByRecursion (HasDue t lists) (due_below (Necessary a b) k)
  possible_below : AllByRecursion (HasDue t lists) (due_below (Possible a b) (p + 1))
  possible_from : AllByRecursion (HasDue t lists) (due_from (Possible a b) (p + 1) c)

has_dues : (t : DecisionTable) (lists : List (List Statement)) (n a b c k p : ℕ) → AllByRecursion (HasDue t lists) (dues_of n a b c k p) → HasDues t lists n a b c k p
has_dues t lists n a b c k p all =
    let P = HasDue t lists in
    let f1 = due_from Consistent c (n + 1) in
    let b1 = due_below Consistent c in
    let f2 = due_from (Necessary a b) k c in
    let b2 = due_below (Necessary a b) k in
    let b3 = due_below (Possible a b) (p + 1) in
    let f3 = due_from (Possible a b) (p + 1) c in
    let r4 = all-front P (f1 ++ b1 ++ f2 ++ b2 ++ b3) f3 all in
    let r3 = all-front P (f1 ++ b1 ++ f2 ++ b2) b3 r4 in
    let r2 = all-front P (f1 ++ b1 ++ f2) b2 r3 in
    let r1 = all-front P (f1 ++ b1) f2 r2 in
    record {
      contradictory_from = all-front P f1 b1 r1;
      contradictory_below = all-back P f1 b1 r1;
      necessary_from = all-back P (f1 ++ b1) f2 r2;
      necessary_below = all-back P (f1 ++ b1 ++ f2) b2 r3;
      possible_below = all-back P (f1 ++ b1 ++ f2 ++ b2) b3 r4;
      possible_from = all-back P (f1 ++ b1 ++ f2 ++ b2 ++ b3) f3 all;
    }

pub proved_is_true : (t : DecisionTable) (lists : List (List Statement)) (a b : ℕ) (x : Span) → AreLevelLists t lists → a < length t.alternatives → b < length t.alternatives → IsProvedSpan t lists a b x → IsSpan t lists a b x.contradictory x.necessary x.possible
proved_is_true t lists a b x levels first second proved =
    let n = length lists in
    let c = x.contradictory in
    let k = x.necessary in
    let p = x.possible in
    let lawful = levels.lawful in
    let r = in_range n c k p proved.range in
    let has = has_dues t lists n a b c k p (all_due t lists (dues_of n a b c k p) x.proof proved.answers) in
    let pair : (a < length t.alternatives) × (b < length t.alternatives) = (first, second) in
    record {
      contradictory = contradictory_border t lists c levels r.first r.last
          (λ within. due_is_true t lists (due_of Consistent conclusions.Contradiction c) lawful r.first within tt (has_from t lists Consistent c (n + 1) has.contradictory_from (omega (arith, within))))
          (λ over. (due_is_true t lists (due_of Consistent conclusions.Yes (c - 1)) lawful (omega (arith, over)) (omega (arith, r.last)) tt (has_below t lists Consistent c has.contradictory_below over)).0);
      necessary = necessary_border t lists a b c k levels r.last r.from_first r.upto
          (λ under. due_is_true t lists (due_of (Necessary a b) conclusions.Yes k) lawful r.from_first (omega (arith, under, r.last)) pair (has_from t lists (Necessary a b) k c has.necessary_from under))
          (λ over. due_is_true t lists (due_of (Necessary a b) conclusions.No (k - 1)) lawful (omega (arith, over)) (omega (arith, r.upto, r.last, over)) pair (has_below t lists (Necessary a b) k has.necessary_below over));
      possible = possible_border t lists a b c p levels r.last r.under
          (λ some. let has_it = has_below t lists (Possible a b) (p + 1) has.possible_below (omega (arith, some)) in
          let is : p + 1 - 1 ≡ p = omega arith in
          subst (IsYesAt t lists (Possible a b)) is (due_is_true t lists (due_of (Possible a b) conclusions.Yes (p + 1 - 1)) lawful (omega (arith, some)) (omega (arith, r.under, r.last)) pair has_it))
          (λ under. due_is_true t lists (due_of (Possible a b) conclusions.No (p + 1)) lawful (omega arith) (omega (arith, under, r.last)) pair (has_from t lists (Possible a b) (p + 1) c has.possible_from under));
    }

-- ---- one span

one_least : (P : ℕ → Type 0) (n k l : ℕ) → IsLeastLevel P n k → IsLeastLevel P n l → k ≡ l
one_least P n k l x y = elim (cases_lt k l) [
  | inl under ↦ absurd (y.none_below k x.from_first under (x.holds (let last = y.to_last in omega (arith, under, last))))
  | inr over ↦ elim (cases_lt l k) [
    | inl under ↦ absurd (x.none_below l y.from_first under (y.holds (let last = x.to_last in omega (arith, under, last))))
    | inr also ↦ omega (arith, over, also)
  ]
]

one_number : (P : ℕ → Type 0) (n k l : ℕ) → IsNumberOfLevels P n k → IsNumberOfLevels P n l → k ≡ l
one_number P zero k l x y = x ∙ sym y
one_number P (suc n) k l (inl x) (inl y) = x.1 ∙ ap suc (one_number P n x.0 y.0 x.3 y.3) ∙ sym y.1
one_number P (suc n) k l (inl x) (inr y) = absurd (y.0 x.2)
one_number P (suc n) k l (inr x) (inl y) = absurd (x.0 y.2)
one_number P (suc n) k l (inr x) (inr y) = one_number P n k l x.1 y.1

pub one_span : (t : DecisionTable) (lists : List (List Statement)) (a b : ℕ) (c k p d l q : ℕ) → IsSpan t lists a b c k p → IsSpan t lists a b d l q → (c ≡ d) × (k ≡ l) × (p ≡ q)
one_span t lists a b c k p d l q x y =
    let same = one_least (ContradictsAt t lists) (length lists) c d x.contradictory y.contradictory in
    let necessary = subst (λ (e : ℕ). IsLeastLevel (IsYesAt t lists (Necessary a b)) (e - 1) l) (sym same) y.necessary in
    let possible = subst (λ (e : ℕ). IsNumberOfLevels (IsYesAt t lists (Possible a b)) (e - 1) q) (sym same) y.possible in
    (same, one_least (IsYesAt t lists (Necessary a b)) (c - 1) k l x.necessary necessary, one_number (IsYesAt t lists (Possible a b)) (c - 1) p q x.possible possible)
