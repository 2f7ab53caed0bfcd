-- The core of an answer is what is in each of its reducts.
use Rattle.std.proofs.Common.{◌≡◌, ℕ, zero, suc, ◌≤◌, inl, inr, true, false, List, length, sym, subst, ◌∙◌, arith}
use Rattle.std.specs.Prelude.{nat_eq}
use Rattle.std.specs.List.Sorted.{IsStrictlyIncreasing}
use Rattle.std.specs.Set.{is_member}
use Rattle.std.proofs.lemmas.Bool.{cases_Bool, false≢true}
use Rattle.ror_statement.specs.declared.statement.Statement.{Statement}
use Rattle.ror_statement.specs.declared.statement.Numbered.{Numbered}
use Rattle.ror_statement.specs.declared.question.Question.{Question}
use Rattle.ror_statement.specs.declared.question.Conclusion.{Conclusion}
use Rattle.ror_statement.specs.declared.question.Conclusion.TheVariants.{Yes, No, Contradiction}
use Rattle.ror_statement.specs.Statements.{numbers_in, statements_in}
use Rattle.ror_statement.proofs.Sublists.{IsSublist}
use Rattle.ror_table.specs.Table.{DecisionTable}
use Rattle.ror_value.specs.Meaning.{Answers}
use Rattle.ror_value.proofs.FewerStatements.{consistent-sublist, contradictory-sublist}
use Rattle.ror_check.specs.Repair.{AreNumbersIn}
use Rattle.ror_reason.specs.Reducts.{stated, without, RestsOnPart, IsReduct}
use Rattle.ror_reason.specs.Laws.{AreAmong}
use Rattle.ror_reason.proofs.LawLemmas.{answers_keep}
use Rattle.ror_reason.proofs.Parts.{member_all, all_members, without-among, without-shorter, numbers-without, numbers-whole, stated-within, stated-whole}
use Rattle.ror_show_find_core.specs.Withdrawals.{without_statement, FallsWithout}
use Rattle.ror_show_find_core.specs.Laws.{IsInEachReduct, CoreIsInEachReduct, StaysHasReduct, StaysBy}
use Rattle.ror_show_find_core.proofs.Left.{left-within, left_rises, numbers_of_left, numbers_left, stated_left, lacks_too}

-- ---- more statements

-- what some statements carry, more of those do that carry it all together
carried_within : (t : DecisionTable) (q : Question) (c : Conclusion) (xs ys all : List Statement) → RestsOnPart q c → IsSublist xs ys → IsSublist ys all → Answers t all q c → Answers t xs q c → Answers t ys q c
carried_within t q Contradiction xs ys all rests sub sup whole answers = contradictory-sublist t xs ys sub answers
carried_within t q Yes xs ys all rests sub sup whole answers = answers_keep t q Yes xs ys rests sub (consistent-sublist t ys all sup whole.0) answers
carried_within t q No xs ys all rests sub sup whole answers = answers_keep t q No xs ys rests sub (consistent-sublist t ys all sup whole.0) answers

-- what a part of what is left carries is so over all that is left
pub over_left : (t : DecisionTable) (list : List Numbered) (q : Question) (c : Conclusion) (n : ℕ) (ns : List ℕ) → RestsOnPart q c → Answers t (statements_in list) q c → Answers t (stated ns (without_statement n list)) q c → Answers t (statements_in (without_statement n list)) q c
over_left t list q c n ns rests whole answers =
    let left = without_statement n list in
    carried_within t q c (stated ns left) (statements_in left) (statements_in list) rests (stated-within left ns) (left-within n list) whole answers

-- ---- a reduct of one list is one of another that has the same parts

moved : (t : DecisionTable) (xs ys : List Numbered) (q : Question) (c : Conclusion) (ns : List ℕ) → AreNumbersIn ys ns → Answers t (statements_in ys) q c → ((ms : List ℕ) → AreAmong ms ns → stated ms xs ≡ stated ms ys) → AreAmong ns ns → IsReduct t xs q c ns → IsReduct t ys q c ns
moved t xs ys q c ns are whole same itself reduct = record {
  rests = reduct.rests;
  numbers = are;
  whole = whole;
  carries = subst (λ (zs : List Statement). Answers t zs q c) (same ns itself) reduct.carries;
  needed = all_members (λ (k : ℕ). Answers t (stated (without k ns) ys) q c → ⊥) ns needed;
}
  where
    needed : (k : ℕ) → is_member nat_eq ns k ≡ true → Answers t (stated (without k ns) ys) q c → ⊥
    needed k there answers =
        member_all (λ (m : ℕ). Answers t (stated (without m ns) xs) q c → ⊥) ns reduct.needed k there
        (subst (λ (zs : List Statement). Answers t zs q c) (sym (same (without k ns) (without-among k ns))) answers)

own : (ns : List ℕ) → AreAmong ns ns
own ns = all_members (λ (m : ℕ). is_member nat_eq ns m ≡ true) ns (λ m there. there)

pub stays_has_reduct : StaysHasReduct
stays_has_reduct t list q c n ns whole reduct =
    let found = numbers_of_left n list ns reduct.numbers in
    (moved t (without_statement n list) list q c ns found.0 whole (λ ms among. stated_left n ms list (lacks_too n ms ns among found.1)) (own ns) reduct, found.1)

-- a reduct that lacks the statement is one over what is left
pub lacks_it : (t : DecisionTable) (list : List Numbered) (q : Question) (c : Conclusion) (n : ℕ) (ns : List ℕ) → IsReduct t list q c ns → is_member nat_eq ns n ≡ false → IsReduct t (without_statement n list) q c ns
lacks_it t list q c n ns reduct lacks =
    let same = stated_left n ns list lacks in
    let carries = subst (λ (zs : List Statement). Answers t zs q c) (sym same) reduct.carries in
    moved t list (without_statement n list) q c ns (numbers_left n list ns reduct.numbers lacks)
    (over_left t list q c n ns reduct.rests reduct.whole carries)
    (λ ms among. sym (stated_left n ms list (lacks_too n ms ns among lacks))) (own ns) reduct

-- so is one over what another statement leaves
pub lacks_both : (t : DecisionTable) (list : List Numbered) (q : Question) (c : Conclusion) (m n : ℕ) (ns : List ℕ) → Answers t (statements_in list) q c → IsReduct t (without_statement m list) q c ns → is_member nat_eq ns n ≡ false → IsReduct t (without_statement n list) q c ns
lacks_both t list q c m n ns whole reduct lacks = lacks_it t list q c n ns (stays_has_reduct t list q c m ns whole reduct).0 lacks

-- ---- the core

falls_in_each : (t : DecisionTable) (list : List Numbered) (q : Question) (c : Conclusion) (n : ℕ) → FallsWithout t list q c n → IsInEachReduct t list q c n
falls_in_each t list q c n falls ns reduct = elim (cases_Bool (is_member nat_eq ns n)) [
  | inl there ↦ there
  | inr lacks ↦ absurd (falls (lacks_it t list q c n ns reduct lacks).whole)
]

-- Where the statement is in each reduct, no part of what is left carries the answer and needs each of its statements.
no_least : (t : DecisionTable) (list : List Numbered) (q : Question) (c : Conclusion) (n : ℕ) → RestsOnPart q c → Answers t (statements_in list) q c → IsInEachReduct t list q c n → (ns : List ℕ) → AreNumbersIn (without_statement n list) ns → Answers t (stated ns (without_statement n list)) q c → ((k : ℕ) → is_member nat_eq ns k ≡ true → Answers t (stated (without k ns) (without_statement n list)) q c → ⊥) → ⊥
no_least t list q c n rests whole each ns are answers needed =
    let reduct : IsReduct t (without_statement n list) q c ns = record {
      rests = rests;
      numbers = are;
      whole = over_left t list q c n ns rests whole answers;
      carries = answers;
      needed = all_members (λ (k : ℕ). Answers t (stated (without k ns) (without_statement n list)) q c → ⊥) ns needed;
    } in
    let found = stays_has_reduct t list q c n ns whole reduct in
    false≢true (sym found.1 ∙ each ns found.0)

-- so none does, as without a statement that isn't needed there is a shorter one
no_part : (t : DecisionTable) (list : List Numbered) (q : Question) (c : Conclusion) (n : ℕ) → RestsOnPart q c → Answers t (statements_in list) q c → IsInEachReduct t list q c n → (size : ℕ) (ns : List ℕ) → length ns ≤ size → AreNumbersIn (without_statement n list) ns → Answers t (stated ns (without_statement n list)) q c → ⊥
no_part t list q c n rests whole each zero ns within are answers =
    no_least t list q c n rests whole each ns are answers (λ k there carries. let less = without-shorter k ns there in omega (arith, within, less))
no_part t list q c n rests whole each (suc size) ns within are answers =
    no_least t list q c n rests whole each ns are answers
    (λ k there carries. let less = without-shorter k ns there in no_part t list q c n rests whole each size (without k ns) (omega (arith, within, less)) (numbers-without (without_statement n list) k ns are) carries)

in_each_falls : (t : DecisionTable) (list : List Numbered) (q : Question) (c : Conclusion) (n : ℕ) → IsStrictlyIncreasing (numbers_in list) → RestsOnPart q c → Answers t (statements_in list) q c → IsInEachReduct t list q c n → FallsWithout t list q c n
in_each_falls t list q c n up rests whole each answers =
    let left = without_statement n list in
    let all = numbers_in left in
    no_part t list q c n rests whole each (length all) all (omega arith) (numbers-whole left (left_rises n list up))
    (subst (λ (zs : List Statement). Answers t zs q c) (sym (stated-whole left)) answers)

pub core_is_in_each_reduct : CoreIsInEachReduct
core_is_in_each_reduct t list q c n up rests whole = (falls_in_each t list q c n, in_each_falls t list q c n up rests whole)

-- ---- a part by which it stays

pub stays_by : (t : DecisionTable) (list : List Numbered) (q : Question) (c : Conclusion) (n : ℕ) (ns : List ℕ) → RestsOnPart q c → Answers t (statements_in list) q c → AreNumbersIn (without_statement n list) ns → Answers t (stated ns (without_statement n list)) q c → StaysBy t list q c n ns
stays_by t list q c n ns rests whole are carries =
    let found = numbers_of_left n list ns are in
    record {
      stays = over_left t list q c n ns rests whole carries;
      numbers = found.0;
      lacks = found.1;
      carries = subst (λ (zs : List Statement). Answers t zs q c) (stated_left n ns list found.1) carries;
    }
