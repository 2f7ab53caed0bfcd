-- The entries of a group's report are a kind, of which each is refused for one reason.
use Rattle.std.proofs.Common.{◌≡◌, ℕ, List, ◌++◌, length, Some, refl, sym, ap, ◌∙◌, subst, arith}
use Rattle.std.specs.Prelude.{slice_get}
use Rattle.std.specs.List.{AllByRecursion}
use Rattle.ror_text.specs.FirstFault.{IsFirst}
use Rattle.ror_text.proofs.FirstFaultLemmas.{first_at}
use Rattle.ror_statement.specs.declared.statement.Statement.{Statement}
use Rattle.ror_table.specs.Table.{DecisionTable, IsTable}
use Rattle.ror_value.specs.Over.{IsLawfulIn}
use Rattle.ror_proof.specs.declared.answer.Answer.{Answer}
use Rattle.ror_check.specs.declared.fault.CheckFault.{CheckFault}
use Rattle.ror_check.specs.declared.fault.CheckFault.TheVariants as checks
use Rattle.ror_check.specs.Faults.{IsEarlierFault, fault_stage, fault_place}
use Rattle.ror_relation.specs.Pairs.{AreDifferentOf}
use Rattle.ror_relation.proofs.PairLemmas.{few_pairs}
use Rattle.ror_report.specs.Reading.{begins_end}
use Rattle.ror_bench.specs.declared.report.Reason.{Reason}
use Rattle.ror_bench.proofs.UniqueLemmas.{one_some, one_answer_fault}
use Rattle.ror_group.specs.declared.entry.Entry.{Entry}
use Rattle.ror_group.specs.declared.fault.GroupFault.{GroupFault}
use Rattle.ror_group.specs.declared.fault.GroupFault.TheVariants as faults
use Rattle.ror_group.specs.Combining.{Asked, asked_on}
use Rattle.ror_group.specs.Faults.{FailsUnlessWide, FailsAnswerAt, FailsPair, pair_stage, pair_place}
use Rattle.ror_group.proofs.Pairs.{true_in_step, proved_are_true, pair_passes}
use Rattle.ror_group.proofs.EntryLemmas.{is_read_iff_text}
use Rattle.ror_group.proofs.EntryLines.{entry_begins}
use Rattle.ror_group.proofs.EntryUtf8.{entry_text_is_utf8}
use Rattle.ror_entries.specs.Kind.{IsKind, HasOneReason}
use Rattle.ror_entries.specs.Pairs.{pairs_of}
use Rattle.ror_entries.proofs.EachLemmas.{pair_begins_no_end}
use Rattle.ror_entries.proofs.PairLemmas.{pair_there}
use Rattle.ror_work_group.specs.Entries.{IsOnPairAt, IsProvedEntry, IsTrueEntry, RefusesEntry, other_pair, at_fault, reason_of, group_kind}

-- ---- the pair at a place

-- is one of two alternatives of the table
pub on_pair : (t : DecisionTable) (place : ℕ) (x : Entry) → IsOnPairAt t place x → AreDifferentOf (length t.alternatives) (x.first, x.second)
on_pair t place x at = pair_there t (pairs_of t) place (x.first, x.second) refl at

pub entry_there : (t : DecisionTable) (pairs : List (ℕ × ℕ)) (place : ℕ) (p : ℕ × ℕ) (x : Entry) → pairs ≡ pairs_of t → slice_get pairs place ≡ Some p → x.first ≡ p.0 → x.second ≡ p.1 → IsOnPairAt t place x
entry_there t pairs place p x same at first second =
    ap (λ (ps : List (ℕ × ℕ)). slice_get ps place) (sym same) ∙ at ∙ (let a = sym first in let b = sym second in ap (λ (n : ℕ). Some (n, p.1)) a ∙ ap (λ (n : ℕ). Some (x.first, n)) b)

-- ---- one first fault

module _ (t : DecisionTable) (asked : Asked) (x : Answer) where
  one_of_answer : (f g : CheckFault) → FailsUnlessWide t asked x f → FailsUnlessWide t asked x g → fault_stage f ≡ fault_stage g → fault_place f ≡ fault_place g → f ≡ g
  one_of_answer checks.WrongQuestion checks.WrongQuestion first second stage place = refl
  one_of_answer checks.WrongQuestion g first second stage place = absurd (omega arith)
  one_of_answer f checks.WrongQuestion first second stage place = absurd (omega arith)
  one_of_answer f g first second stage place = one_answer_fault t asked.list asked.question x f g first.0 first.1 second.1 stage place

module _ (t : DecisionTable) (lists : List (List Statement)) where
  one_at : (all : List Asked) (xs : List Answer) (k : ℕ) (f g : CheckFault) → FailsAnswerAt t all xs k f → FailsAnswerAt t all xs k g → f ≡ g
  one_at all xs k f g first second =
      let e = first.counted in
      let m = second.counted in
      let place : second.before ≡ first.before = omega arith in
      let asked : second.asked ≡ first.asked = one_some (slice_get all first.before) second.asked first.asked (ap (slice_get all) (sym place) ∙ second.asked_there) first.asked_there in
      let answer : second.answer ≡ first.answer = one_some (slice_get xs first.before) second.answer first.answer (ap (slice_get xs) (sym place) ∙ second.there) first.there in
      let here = subst (λ (q : Asked). IsFirst (FailsUnlessWide t q first.answer) IsEarlierFault g) asked (subst (λ (x : Answer). IsFirst (FailsUnlessWide t second.asked x) IsEarlierFault g) answer second.first) in
      let at = first_at (FailsUnlessWide t first.asked first.answer) fault_stage fault_place f g first.first here in
      one_of_answer t first.asked first.answer f g first.first.fails here.fails at.0 at.1

  one_reason_of : (x : Entry) (f g : GroupFault) → FailsPair t lists x.first x.second x.answers x.quartet f → FailsPair t lists x.first x.second x.answers x.quartet g → pair_stage f ≡ pair_stage g → pair_place f ≡ pair_place g → reason_of f ≡ reason_of g
  one_reason_of x (faults.Answer k f) (faults.Answer l g) first second stage place =
      let here = subst (λ (n : ℕ). FailsAnswerAt t (asked_on x.first x.second lists) x.answers n g) (sym place) second in
      let same = one_at (asked_on x.first x.second lists) x.answers k f g first here in
      ap reason_of (ap (λ (n : ℕ). faults.Answer n f) place ∙ ap (λ (c : CheckFault). faults.Answer l c) same)
  one_reason_of x (faults.Answer k f) faults.Count first second stage place = absurd (omega arith)
  one_reason_of x (faults.Answer k f) faults.WrongQuartet first second stage place = absurd (omega arith)
  one_reason_of x (faults.Answer k f) faults.Memory first second stage place = absurd second
  one_reason_of x faults.Count (faults.Answer l g) first second stage place = absurd (omega arith)
  one_reason_of x faults.WrongQuartet (faults.Answer l g) first second stage place = absurd (omega arith)
  one_reason_of x faults.Memory g first second stage place = absurd first
  one_reason_of x faults.Count faults.Count first second stage place = refl
  one_reason_of x faults.Count faults.WrongQuartet first second stage place = refl
  one_reason_of x faults.Count faults.Memory first second stage place = refl
  one_reason_of x faults.WrongQuartet faults.Count first second stage place = refl
  one_reason_of x faults.WrongQuartet faults.WrongQuartet first second stage place = refl
  one_reason_of x faults.WrongQuartet faults.Memory first second stage place = refl

  -- an entry is refused at a place for one reason
  pub one_reason : HasOneReason (group_kind t lists)
  one_reason place x q r (other_pair off is) (other_pair besides and) = is ∙ sym and
  one_reason place x q r (other_pair off is) (at_fault f on first and) = absurd (off on)
  one_reason place x q r (at_fault f on first is) (other_pair off and) = absurd (off on)
  one_reason place x q r (at_fault f on first is) (at_fault g there second and) =
      let at = first_at (FailsPair t lists x.first x.second x.answers x.quartet) pair_stage pair_place f g first second in
      is ∙ one_reason_of x f g first.fails second.fails at.0 at.1 ∙ sym and

-- ---- the kind

module _ (t : DecisionTable) (lists : List (List Statement)) (table : IsTable t) (lawful : AllByRecursion (IsLawfulIn t) lists) where
  proved_true : (place : ℕ) (x : Entry) → IsProvedEntry t lists place x → IsTrueEntry t lists x
  proved_true place x proved =
      let p = on_pair t place x proved.pair in
      record {
        answers = true_in_step t x.first x.second lists x.answers lawful (p.1, p.2) (p.1, p.2) proved.proved.answers;
        words = proved_are_true t lists x.first x.second x.answers x.quartet lawful (p.1, p.2) (p.1, p.2) proved.proved;
      }

  proved_passes : (place : ℕ) (x : Entry) (reason : Reason) → IsProvedEntry t lists place x → RefusesEntry t lists place x reason → ⊥
  proved_passes place x reason proved (other_pair off is) = off proved.pair
  proved_passes place x reason proved (at_fault fault on first is) = pair_passes t lists x.first x.second x.answers x.quartet fault proved.proved first.fails

  pub are_kind : IsKind (group_kind t lists)
  are_kind = record {
    few = let few = few_pairs (length t.alternatives) table.alternatives_limit in omega (arith, few);
    read_iff_text = λ c x after.
        let same = is_read_iff_text t c x after table in
        ((λ read. let text = same.0 read in record { text = text.text; place = text.place; printable = text.printable; follows = tt }), λ text. same.1 (record { text = text.text; place = text.place; printable = text.printable }));
    begins_no_end = λ x rest printable.
        let begins = entry_begins t x in
        ap (λ (text : List ℕ). begins_end (text ++ rest)) begins.1 ∙ pair_begins_no_end (begins.0 ++ rest);
    entry_follows = λ x next rest has printable. tt;
    end_follows = λ x n has. tt;
    utf8 = λ x printable. entry_text_is_utf8 t x table printable;
    proved_not_refused = proved_passes;
    proved_is_true = proved_true;
  }
