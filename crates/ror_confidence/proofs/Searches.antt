-- What the search for a border keeps, and that the borders found make a span with its proof.
use Rattle.std.proofs.Common.{◌≡◌, ◌⊎◌, inl, inr, ℕ, zero, suc, ◌+◌, ◌-◌, ◌<◌, ◌≤◌, Bool, true, false, List, [], ◌∷◌, ◌++◌, length, Option, Some, None, Result, Ok, Err, refl, sym, subst, ◌∙◌, arith}
use Rattle.std.specs.Prelude.{IfErr, IfOk, nat_lt, ◌||◌}
use Rattle.std.specs.List.{AllByRecursion, AllZip}
use Rattle.std.proofs.lemmas.Bool.{cases_Bool, le-leb, lt-ltb, ltb-true}
use Rattle.ror_text.proofs.Everywhere.{all-append, all_at}
use Rattle.ror_statement.specs.declared.statement.Statement.{Statement}
use Rattle.ror_statement.specs.declared.question.Question.{Question}
use Rattle.ror_statement.specs.declared.question.Question.TheVariants.{Consistent, Necessary, Possible}
use Rattle.ror_statement.specs.declared.question.Conclusion.{Conclusion}
use Rattle.ror_statement.specs.declared.question.Conclusion.TheVariants as conclusions
use Rattle.ror_statement.specs.Questions.{kind_of}
use Rattle.ror_table.specs.Table.{DecisionTable}
use Rattle.ror_value.specs.Meaning.{Answers, IsConsistent}
use Rattle.ror_system.specs.System.{LinearSystem}
use Rattle.ror_proof.specs.declared.answer.Answer.{Answer}
use Rattle.ror_proof.specs.declared.answer.Verdict.{Verdict}
use Rattle.ror_proof.specs.declared.answer.Verdict.TheVariants as verdicts
use Rattle.ror_proof.specs.declared.answer.WideText.{WideText}
use Rattle.ror_check.specs.Proof.{is_wide, IsAllowedVerdict, IsProvedAnswer, IsWide, IsWideOrTrue, OfProof, Proves, base_system, question_systems_of}
use Rattle.ror_given.specs.Answers.{IsGiven, IsVerdictWithin}
use Rattle.ror_given.specs.Notes.{HasNoteAt}
use Rattle.ror_confidence.specs.declared.border.Border.{Border}
use Rattle.ror_confidence.specs.declared.fault.SpanFault.{SpanFault}
use Rattle.ror_confidence.specs.declared.fault.SpanFault.TheVariants as faults
use Rattle.ror_confidence.specs.declared.span.LevelAnswer.{LevelAnswer}
use Rattle.ror_confidence.specs.declared.span.Span.{Span}
use Rattle.ror_confidence.specs.Levels.{list_of_level}
use Rattle.ror_confidence.specs.Spans.{AreLevelLists}
use Rattle.ror_confidence.specs.Proof.{concludes, conclusion_below, conclusion_from, due_below, due_from, is_in_range, IsProvedDue, IsProvedSpan, IsSpanWithin}
use Rattle.ror_confidence.specs.Finding.{HasNoWideQuestions, IsConsistentAt, IsFoundAt, IsWideAtLevel, HasNoWideNote}
use Rattle.ror_confidence.specs.Searching.{answers_at, answers_of, HasSearched, HasTwoSides, is_above, is_open, IsBelow, IsBorder, IsDecidedAt, IsFrom, IsHigh, IsLow, IsNarrowIfSome, IsSearched, IsWideBorder, IsWideEnd, IsWideFrom}
use Rattle.ror_confidence.proofs.Nested.{consistent-fewer}

-- ---- what an answer that is given says

proved_by : (H : LinearSystem → WideText → Type 0) (t : DecisionTable) (list : List Statement) (q : Question) (c : Conclusion) (v : Verdict) → IsAllowedVerdict H t list q v → concludes c v ≡ true → OfProof (Proves t list q) v
proved_by H t list q c (verdicts.Yes proof) h is = h
proved_by H t list q c (verdicts.No proof) h is = h
proved_by H t list q c (verdicts.Contradiction proof) h is = h
proved_by H t list q conclusions.Yes (verdicts.Wide system note) h is = absurd cc
proved_by H t list q conclusions.No (verdicts.Wide system note) h is = absurd cc
proved_by H t list q conclusions.Contradiction (verdicts.Wide system note) h is = absurd cc

pub given_proved : (most : ℕ) (t : DecisionTable) (list : List Statement) (q : Question) (c : Conclusion) (x : Answer) → IsGiven most t list q x → concludes c x.verdict ≡ true → IsProvedAnswer t list q x
given_proved most t list q c x given is = record { question = given.allowed.question; proof = proved_by (HasNoteAt most) t list q c x.verdict given.allowed.verdict is }

true_by : (t : DecisionTable) (list : List Statement) (q : Question) (c : Conclusion) (v : Verdict) → IsWideOrTrue t list q v → concludes c v ≡ true → Answers t list q c
true_by t list q conclusions.Yes (verdicts.Yes proof) h is = h
true_by t list q conclusions.Yes (verdicts.No proof) h is = absurd cc
true_by t list q conclusions.Yes (verdicts.Contradiction proof) h is = absurd cc
true_by t list q conclusions.Yes (verdicts.Wide system note) h is = absurd cc
true_by t list q conclusions.No (verdicts.Yes proof) h is = absurd cc
true_by t list q conclusions.No (verdicts.No proof) h is = h
true_by t list q conclusions.No (verdicts.Contradiction proof) h is = absurd cc
true_by t list q conclusions.No (verdicts.Wide system note) h is = absurd cc
true_by t list q conclusions.Contradiction (verdicts.Yes proof) h is = absurd cc
true_by t list q conclusions.Contradiction (verdicts.No proof) h is = absurd cc
true_by t list q conclusions.Contradiction (verdicts.Contradiction proof) h is = h
true_by t list q conclusions.Contradiction (verdicts.Wide system note) h is = absurd cc

found_true : (most : ℕ) (t : DecisionTable) (lists : List (List Statement)) (q : Question) (c : Conclusion) (level : ℕ) (x : Answer) → IsFoundAt most t lists q c level x → Answers t (list_of_level lists level) q c
found_true most t lists q c level x found = true_by t (list_of_level lists level) q c x.verdict found.given.true_answer found.conclusion

-- ---- two sides

sides_necessary : (t : DecisionTable) (list : List Statement) (q : Question) (v : Verdict) → IsConsistent t list → IsWideOrTrue t list q v → is_wide v ≡ false → concludes conclusions.Yes v ≡ false → concludes conclusions.No v ≡ true
sides_necessary t list q (verdicts.Yes proof) c h narrow not = absurd cc
sides_necessary t list q (verdicts.No proof) c h narrow not = refl
sides_necessary t list q (verdicts.Contradiction proof) c h narrow not = absurd (h c.0 c.1)
sides_necessary t list q (verdicts.Wide system note) c h narrow not = absurd cc

sides_possible : (t : DecisionTable) (list : List Statement) (q : Question) (v : Verdict) → IsConsistent t list → IsWideOrTrue t list q v → is_wide v ≡ false → concludes conclusions.No v ≡ false → concludes conclusions.Yes v ≡ true
sides_possible t list q (verdicts.Yes proof) c h narrow not = refl
sides_possible t list q (verdicts.No proof) c h narrow not = absurd cc
sides_possible t list q (verdicts.Contradiction proof) c h narrow not = absurd (h c.0 c.1)
sides_possible t list q (verdicts.Wide system note) c h narrow not = absurd cc

abbrev AreConsistentBefore : DecisionTable → List (List Statement) → ℕ → Type 0
AreConsistentBefore t lists end = (i : ℕ) → 1 ≤ i → i < end → IsConsistentAt t lists i

two_sides_necessary : (most : ℕ) (t : DecisionTable) (lists : List (List Statement)) (a b end : ℕ) → AreConsistentBefore t lists end → HasTwoSides most t lists (Necessary a b) end
two_sides_necessary most t lists a b end consistent level x first under given narrow not = sides_necessary t (list_of_level lists level) (Necessary a b) x.verdict (consistent level first under) given.true_answer narrow not

two_sides_possible : (most : ℕ) (t : DecisionTable) (lists : List (List Statement)) (a b end : ℕ) → AreConsistentBefore t lists end → HasTwoSides most t lists (Possible a b) end
two_sides_possible most t lists a b end consistent level x first under given narrow not = sides_possible t (list_of_level lists level) (Possible a b) x.verdict (consistent level first under) given.true_answer narrow not

-- where some function is compatible with the statements of the level before, one is with those of each level before it
before_by : (t : DecisionTable) (lists : List (List Statement)) (level : ℕ) → AreLevelLists t lists → level ≤ length lists + 1 → (1 < level → IsConsistentAt t lists (level - 1)) → AreConsistentBefore t lists level
before_by t lists level levels last below i first under =
    consistent-fewer t (list_of_level lists (level - 1)) (list_of_level lists i) (levels.nested i (level - 1) first (omega (arith, under)) (omega (arith, last, first, under))) (below (omega (arith, first, under)))

below_consistent : (most : ℕ) (t : DecisionTable) (lists : List (List Statement)) (level : ℕ) (o : Option Answer) → IsBelow most t lists Consistent level o → 1 < level → IsConsistentAt t lists (level - 1)
below_consistent most t lists level None first over = absurd (omega (arith, first, over))
below_consistent most t lists level (Some x) found over = (found_true most t lists Consistent conclusions.Yes (level - 1) x found.1).0

consistent_before : (most : ℕ) (t : DecisionTable) (lists : List (List Statement)) (border : Border) → AreLevelLists t lists → IsBorder most t lists Consistent (length lists + 1) border → AreConsistentBefore t lists border.level
consistent_before most t lists border levels is = before_by t lists border.level levels is.to_end (below_consistent most t lists border.level is.one_below is.below)

pub necessary_sides : (most : ℕ) (t : DecisionTable) (lists : List (List Statement)) (a b : ℕ) (border : Border) → AreLevelLists t lists → IsBorder most t lists Consistent (length lists + 1) border → HasTwoSides most t lists (Necessary a b) border.level
necessary_sides most t lists a b border levels is = two_sides_necessary most t lists a b border.level (consistent_before most t lists border levels is)

pub possible_sides : (most : ℕ) (t : DecisionTable) (lists : List (List Statement)) (a b : ℕ) (border : Border) → AreLevelLists t lists → IsBorder most t lists Consistent (length lists + 1) border → HasTwoSides most t lists (Possible a b) border.level
possible_sides most t lists a b border levels is = two_sides_possible most t lists a b border.level (consistent_before most t lists border levels is)

-- ---- the search

pub searched_above : (most : ℕ) (t : DecisionTable) (lists : List (List Statement)) (q : Question) (end low high level : ℕ) (below from : Option Answer) (x : Answer) → IsSearched most t lists q end low high below from → low < level → level < high → IsGiven most t (list_of_level lists level) q x → (is_wide x.verdict || concludes (conclusion_from (kind_of q)) x.verdict) ≡ true → IsSearched most t lists q end low level below (Some x)
searched_above most t lists q end low high level below from x s over under given is = record {
  apart = over;
  to_end = let last = s.to_end in omega (arith, under, last);
  low_side = s.low_side;
  high_side = ((let last = s.to_end in omega (arith, under, last)), given, either (is_wide x.verdict) (concludes (conclusion_from (kind_of q)) x.verdict) is);
}
  where
    either : (v w : Bool) → (v || w) ≡ true → (v ≡ true) ⊎ (w ≡ true)
    either true w h = inl refl
    either false w h = inr h

neither : (v w : Bool) → (v || w) ≡ false → (v ≡ false) × (w ≡ false)
neither true w h = absurd cc
neither false w h = (refl, h)

pub searched_below : (most : ℕ) (t : DecisionTable) (lists : List (List Statement)) (q : Question) (end low high level : ℕ) (below from : Option Answer) (x : Answer) → HasTwoSides most t lists q end → IsSearched most t lists q end low high below from → low < level → level < high → IsGiven most t (list_of_level lists level) q x → (is_wide x.verdict || concludes (conclusion_from (kind_of q)) x.verdict) ≡ false → IsSearched most t lists q end level high (Some x) from
searched_below most t lists q end low high level below from x sides s over under given is =
    let parts = neither (is_wide x.verdict) (concludes (conclusion_from (kind_of q)) x.verdict) is in
    let last = s.to_end in
    record {
      apart = under;
      to_end = last;
      low_side = ((omega (arith, over)), record { given = given; conclusion = sides level x (omega (arith, over)) (omega (arith, under, last)) given parts.0 parts.1 });
      high_side = s.high_side;
    }

pub has_above : (most : ℕ) (t : DecisionTable) (lists : List (List Statement)) (q : Question) (end low high level : ℕ) (below from answers : List LevelAnswer) → HasSearched most t lists q end low high below from → low < level → level < high → IsDecidedAt most t (list_of_level lists level) q level answers → is_above (kind_of q) answers ≡ true → HasSearched most t lists q end low level below answers
has_above most t lists q end low high level below from answers had over under decided is = record {
  one_below = had.one_below;
  one_from = Some decided.answer;
  is_below = had.is_below;
  is_from = decided.is_alone;
  searched = searched_above most t lists q end low high level had.one_below had.one_from decided.answer had.searched over under decided.given (subst (λ (xs : List LevelAnswer). is_above (kind_of q) xs ≡ true) decided.is_alone is);
}

pub has_below : (most : ℕ) (t : DecisionTable) (lists : List (List Statement)) (q : Question) (end low high level : ℕ) (below from answers : List LevelAnswer) → HasTwoSides most t lists q end → HasSearched most t lists q end low high below from → low < level → level < high → IsDecidedAt most t (list_of_level lists level) q level answers → is_above (kind_of q) answers ≡ false → HasSearched most t lists q end level high answers from
has_below most t lists q end low high level below from answers sides had over under decided is = record {
  one_below = Some decided.answer;
  one_from = had.one_from;
  is_below = decided.is_alone;
  is_from = had.is_from;
  searched = searched_below most t lists q end low high level had.one_below had.one_from decided.answer sides had.searched over under decided.given (subst (λ (xs : List LevelAnswer). is_above (kind_of q) xs ≡ false) decided.is_alone is);
}

-- there is one answer at most
pub few_from : (most : ℕ) (t : DecisionTable) (lists : List (List Statement)) (q : Question) (end low high : ℕ) (below from : List LevelAnswer) → HasSearched most t lists q end low high below from → length from ≤ 1
few_from most t lists q end low high below from had = subst (λ (xs : List LevelAnswer). length xs ≤ 1) (sym had.is_from) (few had.one_from)
  where
    few : (o : Option Answer) → length (answers_at high o) ≤ 1
    few None = omega arith
    few (Some x) = omega arith

below_end : (most : ℕ) (t : DecisionTable) (lists : List (List Statement)) (q : Question) (low high : ℕ) (o : Option Answer) → high ≡ low + 1 → IsLow most t lists q low o → IsBelow most t lists q high o
below_end most t lists q low high None is first = omega (arith, is, first)
below_end most t lists q low high (Some x) is found =
    let same : low ≡ high - 1 = omega (arith, is) in
    let some = found.0 in
    ((omega (arith, is, some)), subst (λ (l : ℕ). IsFoundAt most t lists q (conclusion_below (kind_of q)) l x) same found.1)

from_end : (most : ℕ) (t : DecisionTable) (lists : List (List Statement)) (q : Question) (end high : ℕ) (o : Option Answer) → IsNarrowIfSome o → IsHigh most t lists q end high o → IsFrom most t lists q end high o
from_end most t lists q end high None narrow is = is
from_end most t lists q end high (Some x) narrow found = (found.0, record { given = found.1; conclusion = by found.2 })
  where
    by : (is_wide x.verdict ≡ true) ⊎ (concludes (conclusion_from (kind_of q)) x.verdict ≡ true) → concludes (conclusion_from (kind_of q)) x.verdict ≡ true
    by (inl wide) = absurd cc
    by (inr is) = is

narrow_some : (level : ℕ) (o : Option Answer) → is_open (answers_at level o) ≡ false → IsNarrowIfSome o
narrow_some level None is = tt
narrow_some level (Some x) is = is

pub searched_end : (most : ℕ) (t : DecisionTable) (lists : List (List Statement)) (q : Question) (end low high : ℕ) (below from : List LevelAnswer) (border : Border) → HasSearched most t lists q end low high below from → high ≤ low + 1 → is_open from ≡ false → border ≡ record { level = high; below = below; from = from } → IsBorder most t lists q end border
searched_end most t lists q end low high below from border had close narrow is =
    let s = had.searched in
    let apart = s.apart in
    let next : high ≡ low + 1 = omega (arith, apart, close) in
    let before : low ≡ high - 1 = omega (arith, next) in
    let here : IsBorder most t lists q end (record { level = high; below = below; from = from }) = record {
      from_first = omega (arith, next);
      to_end = s.to_end;
      one_below = had.one_below;
      one_from = had.one_from;
      is_below = subst (λ (l : ℕ). below ≡ answers_at l had.one_below) before had.is_below;
      is_from = had.is_from;
      below = below_end most t lists q low high had.one_below next s.low_side;
      from = from_end most t lists q end high had.one_from (narrow_some high had.one_from (subst (λ (xs : List LevelAnswer). is_open xs ≡ false) had.is_from narrow)) s.high_side;
    } in
    subst (IsBorder most t lists q end) (sym is) here

low_found : (most : ℕ) (t : DecisionTable) (lists : List (List Statement)) (q : Question) (low high : ℕ) (o : Option Answer) → high ≡ low + 1 → IsLow most t lists q low o → 1 < high → (y : Answer) × IsFoundAt most t lists q (conclusion_below (kind_of q)) (high - 1) y
low_found most t lists q low high None is first over = absurd (omega (arith, is, first, over))
low_found most t lists q low high (Some x) is found over =
    let same : low ≡ high - 1 = omega (arith, is) in
    (x, subst (λ (l : ℕ). IsFoundAt most t lists q (conclusion_below (kind_of q)) l x) same found.1)

pub searched_wide : (most : ℕ) (t : DecisionTable) (lists : List (List Statement)) (q : Question) (end low high : ℕ) (below from : Option Answer) (x : Answer) → IsSearched most t lists q end low high below from → high ≤ low + 1 → from ≡ Some x → is_wide x.verdict ≡ true → IsWideFrom most t lists q end (record { level = high; answer = x })
searched_wide most t lists q end low high below from x s close is wide =
    let apart = s.apart in
    let next : high ≡ low + 1 = omega (arith, apart, close) in
    let found = subst (IsHigh most t lists q end high) is s.high_side in
    record {
      from_first = omega (arith, next);
      to_end = found.0;
      below = low_found most t lists q low high below next s.low_side;
      given = found.1;
      wide = wide;
    }

one_at : (level : ℕ) (o : Option Answer) (x : LevelAnswer) → answers_at level o ≡ x ∷ [] → (x ≡ record { level = level; answer = x.answer }) × (o ≡ Some x.answer)
one_at level None x is = absurd cc
one_at level (Some y) x is = (cc, cc)

pub searched_fault : (most : ℕ) (t : DecisionTable) (lists : List (List Statement)) (q : Question) (end low high : ℕ) (below from : List LevelAnswer) (e : SpanFault) → HasSearched most t lists q end low high below from → high ≤ low + 1 → IsWideEnd from e → IsWideBorder most t lists q end e
searched_fault most t lists q end low high below from (faults.Wide x) had close is =
    let one = one_at high had.one_from x (sym had.is_from ∙ is.0) in
    let here = searched_wide most t lists q end low high had.one_below had.one_from x.answer had.searched close one.1 is.1 in
    subst (IsWideFrom most t lists q end) (sym one.0) here
searched_fault most t lists q end low high below from faults.Memory had close is = absurd is

-- ---- the span of three borders

zip-append : {X Y : Type 0} (R : X → Y → Type 0) (xs zs : List X) (ys us : List Y) → AllZip R xs ys → AllZip R zs us → AllZip R (xs ++ zs) (ys ++ us)
zip-append R [] zs [] us h g = g
zip-append R [] zs (y ∷ ys) us h g = absurd h
zip-append R (x ∷ xs) zs [] us h g = absurd h
zip-append R (x ∷ xs) zs (y ∷ ys) us h g = (h.0, zip-append R xs zs ys us h.1 g)

found_due : (most : ℕ) (t : DecisionTable) (lists : List (List Statement)) (q : Question) (c : Conclusion) (level : ℕ) (x : Answer) → IsFoundAt most t lists q c level x → IsProvedDue t lists (record { level = level; question = q; conclusion = c }) (record { level = level; answer = x })
found_due most t lists q c level x found = record { level = refl; conclusion = found.conclusion; proved = given_proved most t (list_of_level lists level) q c x found.given found.conclusion }

dues_from : (most : ℕ) (t : DecisionTable) (lists : List (List Statement)) (q : Question) (end level : ℕ) (o : Option Answer) → IsFrom most t lists q end level o → AllZip (IsProvedDue t lists) (due_from q level end) (answers_at level o)
dues_from most t lists q end level None is = elim (cases_Bool (nat_lt level end)) [
  | inl under ↦ absurd (let less = ltb-true level end under in omega (arith, less, is))
  | inr not ↦ rw not tt
]
dues_from most t lists q end level (Some x) found = rw (lt-ltb level end found.0) (found_due most t lists q (conclusion_from (kind_of q)) level x found.1, tt)

dues_below : (most : ℕ) (t : DecisionTable) (lists : List (List Statement)) (q : Question) (level : ℕ) (o : Option Answer) → IsBelow most t lists q level o → AllZip (IsProvedDue t lists) (due_below q level) (answers_at (level - 1) o)
dues_below most t lists q level None is = elim (cases_Bool (nat_lt 1 level)) [
  | inl over ↦ absurd (let more = ltb-true 1 level over in omega (arith, more, is))
  | inr not ↦ rw not tt
]
dues_below most t lists q level (Some x) found = rw (lt-ltb 1 level found.0) (found_due most t lists q (conclusion_below (kind_of q)) (level - 1) x found.1, tt)

border_from : (most : ℕ) (t : DecisionTable) (lists : List (List Statement)) (q : Question) (end : ℕ) (border : Border) → IsBorder most t lists q end border → AllZip (IsProvedDue t lists) (due_from q border.level end) border.from
border_from most t lists q end border is = subst (AllZip (IsProvedDue t lists) (due_from q border.level end)) (sym is.is_from) (dues_from most t lists q end border.level is.one_from is.from)

border_below : (most : ℕ) (t : DecisionTable) (lists : List (List Statement)) (q : Question) (end : ℕ) (border : Border) → IsBorder most t lists q end border → AllZip (IsProvedDue t lists) (due_below q border.level) border.below
border_below most t lists q end border is = subst (AllZip (IsProvedDue t lists) (due_below q border.level)) (sym is.is_below) (dues_below most t lists q border.level is.one_below is.below)

range_true : (n c k p : ℕ) → 1 ≤ c → c ≤ n + 1 → 1 ≤ k → k ≤ c → p < c → is_in_range n c k p ≡ true
range_true n c k p first last from upto under = rw (le-leb 1 c first, le-leb c (n + 1) last, le-leb 1 k from, le-leb k c upto, lt-ltb p c under) refl

abbrev span_by : Border → Border → Border → Span
span_by c k p = record {
  contradictory = c.level;
  necessary = k.level;
  possible = p.level - 1;
  proof = answers_of c k p;
}

pub borders_prove : (most : ℕ) (t : DecisionTable) (lists : List (List Statement)) (a b : ℕ) (c k p : Border) (span : Span) → IsBorder most t lists Consistent (length lists + 1) c → IsBorder most t lists (Necessary a b) c.level k → IsBorder most t lists (Possible a b) c.level p → span ≡ record { contradictory = c.level; necessary = k.level; possible = p.level - 1; proof = answers_of c k p } → IsProvedSpan t lists a b span
borders_prove most t lists a b c k p span x y z is =
    let R = IsProvedDue t lists in
    let n = length lists in
    let first = z.from_first in
    let upto = z.to_end in
    let next : p.level - 1 + 1 ≡ p.level = omega (arith, first) in
    let f1 = border_from most t lists Consistent (n + 1) c x in
    let b1 = border_below most t lists Consistent (n + 1) c x in
    let f2 = border_from most t lists (Necessary a b) c.level k y in
    let b2 = border_below most t lists (Necessary a b) c.level k y in
    let b3 = border_below most t lists (Possible a b) c.level p z in
    let f3 = border_from most t lists (Possible a b) c.level p z in
    let d6 = due_from (Possible a b) p.level c.level in
    let d5 = due_below (Possible a b) p.level in
    let d4 = due_below (Necessary a b) k.level in
    let d3 = due_from (Necessary a b) k.level c.level in
    let d2 = due_below Consistent c.level in
    let d1 = due_from Consistent c.level (n + 1) in
    let e6 = p.from in
    let e5 = p.below in
    let e4 = k.below in
    let e3 = k.from in
    let e2 = c.below in
    let e1 = c.from in
    let all = zip-append R (d1 ++ d2 ++ d3 ++ d4 ++ d5) d6 (e1 ++ e2 ++ e3 ++ e4 ++ e5) e6
    (zip-append R (d1 ++ d2 ++ d3 ++ d4) d5 (e1 ++ e2 ++ e3 ++ e4) e5
    (zip-append R (d1 ++ d2 ++ d3) d4 (e1 ++ e2 ++ e3) e4
    (zip-append R (d1 ++ d2) d3 (e1 ++ e2) e3
    (zip-append R d1 d2 e1 e2 f1 b1) f2) b2) b3) f3 in
    let here : IsProvedSpan t lists a b (span_by c k p) = record {
      range = range_true n c.level k.level (p.level - 1) x.from_first x.to_end y.from_first y.to_end (omega (arith, first, upto));
      answers = subst (λ (l : ℕ). AllZip R (d1 ++ d2 ++ d3 ++ d4 ++ due_below (Possible a b) l ++ due_from (Possible a b) l c.level) (answers_of c k p)) (sym next) all;
    } in
    subst (IsProvedSpan t lists a b) (sym is) here

-- ---- no number passes the width

abbrev IsNarrowAnswer : ℕ → LevelAnswer → Type 0
IsNarrowAnswer most y = IsVerdictWithin most y.answer.verdict

narrow_from : (most : ℕ) (t : DecisionTable) (lists : List (List Statement)) (q : Question) (end level : ℕ) (o : Option Answer) → IsFrom most t lists q end level o → AllByRecursion (IsNarrowAnswer most) (answers_at level o)
narrow_from most t lists q end level None is = tt
narrow_from most t lists q end level (Some x) found = (found.1.given.narrow, tt)

narrow_below : (most : ℕ) (t : DecisionTable) (lists : List (List Statement)) (q : Question) (level : ℕ) (o : Option Answer) → IsBelow most t lists q level o → AllByRecursion (IsNarrowAnswer most) (answers_at (level - 1) o)
narrow_below most t lists q level None is = tt
narrow_below most t lists q level (Some x) found = (found.1.given.narrow, tt)

border_narrow_from : (most : ℕ) (t : DecisionTable) (lists : List (List Statement)) (q : Question) (end : ℕ) (border : Border) → IsBorder most t lists q end border → AllByRecursion (IsNarrowAnswer most) border.from
border_narrow_from most t lists q end border is = subst (AllByRecursion (IsNarrowAnswer most)) (sym is.is_from) (narrow_from most t lists q end border.level is.one_from is.from)

border_narrow_below : (most : ℕ) (t : DecisionTable) (lists : List (List Statement)) (q : Question) (end : ℕ) (border : Border) → IsBorder most t lists q end border → AllByRecursion (IsNarrowAnswer most) border.below
border_narrow_below most t lists q end border is = subst (AllByRecursion (IsNarrowAnswer most)) (sym is.is_below) (narrow_below most t lists q border.level is.one_below is.below)

pub borders_narrow : (most : ℕ) (t : DecisionTable) (lists : List (List Statement)) (a b : ℕ) (c k p : Border) (span : Span) → IsBorder most t lists Consistent (length lists + 1) c → IsBorder most t lists (Necessary a b) c.level k → IsBorder most t lists (Possible a b) c.level p → span ≡ record { contradictory = c.level; necessary = k.level; possible = p.level - 1; proof = answers_of c k p } → IsSpanWithin most span
borders_narrow most t lists a b c k p span x y z is =
    let P = IsNarrowAnswer most in
    let e6 = p.from in
    let e5 = p.below in
    let e4 = k.below in
    let e3 = k.from in
    let e2 = c.below in
    let e1 = c.from in
    let here : IsSpanWithin most (span_by c k p) =
    all-append P (e1 ++ e2 ++ e3 ++ e4 ++ e5) e6
    (all-append P (e1 ++ e2 ++ e3 ++ e4) e5
    (all-append P (e1 ++ e2 ++ e3) e4
    (all-append P (e1 ++ e2) e3
    (all-append P e1 e2 (border_narrow_from most t lists Consistent (length lists + 1) c x) (border_narrow_below most t lists Consistent (length lists + 1) c x))
    (border_narrow_from most t lists (Necessary a b) c.level k y))
    (border_narrow_below most t lists (Necessary a b) c.level k y))
    (border_narrow_below most t lists (Possible a b) c.level p z))
    (border_narrow_from most t lists (Possible a b) c.level p z) in
    subst (IsSpanWithin most) (sym is) here

-- ---- what is too wide

wide_verdict : (v : Verdict) → is_wide v ≡ true → IsWide v
wide_verdict (verdicts.Yes proof) is = absurd cc
wide_verdict (verdicts.No proof) is = absurd cc
wide_verdict (verdicts.Contradiction proof) is = absurd cc
wide_verdict (verdicts.Wide system note) is = tt

-- the question on both sides of the level is that of the answer
below_answer : (most : ℕ) (t : DecisionTable) (lists : List (List Statement)) (q : Question) (end : ℕ) (x : LevelAnswer) → IsWideFrom most t lists q end x → 1 < x.level → (y : Answer) × IsFoundAt most t lists x.answer.question (conclusion_below (kind_of x.answer.question)) (x.level - 1) y
below_answer most t lists q end x wide over = subst (λ (r : Question). (y : Answer) × IsFoundAt most t lists r (conclusion_below (kind_of r)) (x.level - 1) y) (sym wide.given.allowed.question) (wide.below over)

pub base_wide : (most : ℕ) (t : DecisionTable) (lists : List (List Statement)) (a b : ℕ) (x : LevelAnswer) → AreLevelLists t lists → IsWideFrom most t lists Consistent (length lists + 1) x → IsWideAtLevel most t lists a b x
base_wide most t lists a b x levels wide =
    let under = wide.to_end in
    let same = wide.given.allowed.question in
    record {
      from_first = wide.from_first;
      to_last = omega (arith, under);
      reached = before_by t lists x.level levels (omega (arith, under)) (λ over. let y = wide.below over in (found_true most t lists Consistent conclusions.Yes (x.level - 1) y.0 y.1).0);
      asked = inl same;
      below = below_answer most t lists Consistent (length lists + 1) x wide;
      given = subst (λ (q : Question). IsGiven most t (list_of_level lists x.level) q x.answer) (sym same) wide.given;
      wide = wide_verdict x.answer.verdict wide.wide;
    }

pair_wide : (most : ℕ) (t : DecisionTable) (lists : List (List Statement)) (a b : ℕ) (q : Question) (border : Border) (x : LevelAnswer) → AreLevelLists t lists → IsBorder most t lists Consistent (length lists + 1) border → IsWideFrom most t lists q border.level x → (q ≡ Necessary a b) ⊎ (q ≡ Possible a b) → IsWideAtLevel most t lists a b x
pair_wide most t lists a b q border x levels is wide pair =
    let under = wide.to_end in
    let last = is.to_end in
    let same = wide.given.allowed.question in
    let all = consistent_before most t lists border levels is in
    record {
      from_first = wide.from_first;
      to_last = omega (arith, under, last);
      reached = λ i first less. all i first (omega (arith, less, under));
      asked = inr (by pair same, all x.level wide.from_first under);
      below = below_answer most t lists q border.level x wide;
      given = subst (λ (r : Question). IsGiven most t (list_of_level lists x.level) r x.answer) (sym same) wide.given;
      wide = wide_verdict x.answer.verdict wide.wide;
    }
  where
    by : (q ≡ Necessary a b) ⊎ (q ≡ Possible a b) → x.answer.question ≡ q → (x.answer.question ≡ Necessary a b) ⊎ (x.answer.question ≡ Possible a b)
    by (inl one) same = inl (same ∙ one)
    by (inr one) same = inr (same ∙ one)

pub necessary_wide : (most : ℕ) (t : DecisionTable) (lists : List (List Statement)) (a b : ℕ) (border : Border) (x : LevelAnswer) → AreLevelLists t lists → IsBorder most t lists Consistent (length lists + 1) border → IsWideFrom most t lists (Necessary a b) border.level x → IsWideAtLevel most t lists a b x
necessary_wide most t lists a b border x levels is wide = pair_wide most t lists a b (Necessary a b) border x levels is wide (inl refl)

pub possible_wide : (most : ℕ) (t : DecisionTable) (lists : List (List Statement)) (a b : ℕ) (border : Border) (x : LevelAnswer) → AreLevelLists t lists → IsBorder most t lists Consistent (length lists + 1) border → IsWideFrom most t lists (Possible a b) border.level x → IsWideAtLevel most t lists a b x
possible_wide most t lists a b border x levels is wide = pair_wide most t lists a b (Possible a b) border x levels is wide (inr refl)

-- ---- where nothing is too wide

no_wide : (most : ℕ) (t : DecisionTable) (list : List Statement) (q : Question) (v : Verdict) → IsWide v → IsAllowedVerdict (HasNoteAt most) t list q v → HasNoWideNote most (base_system t list) → AllByRecursion (HasNoWideNote most) (question_systems_of t list q) → ⊥
no_wide most t list q (verdicts.Yes proof) wide h base each = wide
no_wide most t list q (verdicts.No proof) wide h base each = wide
no_wide most t list q (verdicts.Contradiction proof) wide h base each = wide
no_wide most t list q (verdicts.Wide zero note) wide h base each = base _ _ h
no_wide most t list q (verdicts.Wide (suc before) note) wide h base each = all_at (HasNoWideNote most) (question_systems_of t list q) before h.system each h.there _ _ h.noted

pub none_wide : (most : ℕ) (t : DecisionTable) (lists : List (List Statement)) (a b : ℕ) (x : LevelAnswer) → IsWideAtLevel most t lists a b x → HasNoWideQuestions most t lists a b → ⊥
none_wide most t lists a b x wide none =
    let list = list_of_level lists x.level in
    let here = none x.level wide.from_first wide.to_last in
    let by : (q : Question) → x.answer.question ≡ q → AllByRecursion (HasNoWideNote most) (question_systems_of t list q) → ⊥ = λ q same each.
    let given = subst (λ (r : Question). IsGiven most t list r x.answer) same wide.given in
    no_wide most t list q x.answer.verdict wide.wide given.allowed.verdict here.base each in
    elim wide.asked [
      | inl same ↦ by Consistent same tt
      | inr pair ↦ elim pair.0 [
        | inl same ↦ by (Necessary a b) same here.necessary
        | inr same ↦ by (Possible a b) same here.possible
      ]
    ]

-- ---- what is answered

pub border_found : (most : ℕ) (t : DecisionTable) (lists : List (List Statement)) (q : Question) (end low high : ℕ) (below from : List LevelAnswer) (r : Result Border SpanFault) → HasSearched most t lists q end low high below from → high ≤ low + 1 → IfOk r (λ border. border ≡ record { level = high; below = below; from = from }) → IfOk r (λ border. is_open from ≡ false) → IfOk r (IsBorder most t lists q end)
border_found most t lists q end low high below from (Ok border) s close is narrow = searched_end most t lists q end low high below from border s close narrow is
border_found most t lists q end low high below from (Err e) s close is narrow = tt

pub border_open : (most : ℕ) (t : DecisionTable) (lists : List (List Statement)) (q : Question) (end low high : ℕ) (below from : List LevelAnswer) (r : Result Border SpanFault) → HasSearched most t lists q end low high below from → high ≤ low + 1 → IfErr r (IsWideEnd from) → IfErr r (IsWideBorder most t lists q end)
border_open most t lists q end low high below from (Ok border) s close is = tt
border_open most t lists q end low high below from (Err e) s close is = searched_fault most t lists q end low high below from e s close is
