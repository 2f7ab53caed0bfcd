-- A block that is made has a text, which is read back as it.
use Rattle.std.proofs.Common.{◌≡◌, inl, inr, ℕ, ◌+◌, ◌-◌, ◌^◌, ◌<◌, ◌≤◌, Bool, true, false, max, nat_eq, List, [], ◌∷◌, ◌++◌, length, get_or, sym, subst, arith}
use Rattle.std.specs.Prelude.{cond}
use Rattle.std.specs.Set.{is_member}
use Rattle.std.specs.List.{AllByRecursion, AllZip, filter, fold}
use Rattle.std.proofs.lemmas.Bool.{cases_lt}
use Rattle.std.proofs.lemmas.List.Elements.{All-from_recursion, recursion_from_All}
use Rattle.std.proofs.lemmas.List.Sums.{fold-append}
use Rattle.ror_chain.proofs.OrderLemmas.{length-le_below}
use Rattle.ror_text.proofs.Everywhere.{all-append, all-by}
use Rattle.ror_statement.specs.declared.statement.Statement.{Statement}
use Rattle.ror_statement.specs.declared.statement.Numbered.{Numbered}
use Rattle.ror_statement.specs.declared.question.Question.{Question}
use Rattle.ror_table.specs.Table.{DecisionTable, IsTable}
use Rattle.ror_value.specs.Over.{IsLawfulIn, IsAskedIn}
use Rattle.ror_session.specs.declared.session.Line.{Line}
use Rattle.ror_session.specs.declared.session.Command.{Command}
use Rattle.ror_session.specs.declared.session.Command.TheVariants.{State, Withdraw, Replace, Repair, Undo, Ask}
use Rattle.ror_pivot.specs.declared.note.Bits.{Bits}
use Rattle.ror_pivot.specs.Answers.{most_of}
use Rattle.ror_proof.specs.declared.answer.Answer.{Answer}
use Rattle.ror_proof.specs.declared.answer.Certificate.TheVariants as certificates
use Rattle.ror_proof.specs.declared.answer.WideText.{WideText}
use Rattle.ror_proof.specs.declared.kept.Dropped.{Dropped}
use Rattle.ror_proof.specs.declared.kept.Kept.{Kept}
use Rattle.ror_proof.specs.Text.{AreNarrow, IsPrintable, IsPrintableDropped}
use Rattle.ror_check.specs.Proof.{base_system}
use Rattle.ror_check.specs.Repair.{AreNumbersIn, kept_with, numbers_of}
use Rattle.ror_check.proofs.Numbers.{member-at}
use Rattle.ror_check.proofs.Repairs.{with_lawful}
use Rattle.ror_check.proofs.RepairWalk.{length-numbers_of}
use Rattle.ror_given.specs.Answers.{IsGiven}
use Rattle.ror_relation.proofs.NoteBounds.{well_formed}
use Rattle.ror_relation.proofs.Printing.{certificate, printable, given_printable, note_printable}
use Rattle.ror_repair.specs.Repairs.{IsDroppedWithin, IsGivenRepair, IsWideRepair}
use Rattle.ror_report.specs.declared.block.Block.{Block}
use Rattle.ror_report.specs.declared.block.Body.{Body}
use Rattle.ror_report.specs.declared.block.Body.TheVariants as bodies
use Rattle.ror_report.specs.declared.block.LineFault.TheVariants as faults
use Rattle.ror_report.specs.Printing.{HasValidQuestion, HasNarrowVerdict, HasNarrowRepair}
use Rattle.ror_report.specs.Text.{answers_of, IsPrintableBody}
use Rattle.ror_history.specs.History.{Revision, addition, withdrawal, replacement, Revisions, revised, standing, statements_of, added_numbers, next_number, with_numbers_from}
use Rattle.ror_statement.specs.Statements.{numbers_in}
use Rattle.ror_history.specs.Faults.{Stands}
use Rattle.ror_history.proofs.HistoryLemmas.{greatest}
use Rattle.ror_history.proofs.RisingLemmas.{numbers-added, numbers-replaced, Rise-opening}
use Rattle.ror_bench.specs.Allowed.{given_at, IsRepairAt}
use Rattle.ror_bench.specs.Blocks.{IsBodyOf, refused, taken, IsBlockOf, HasText}
use Rattle.ror_bench.proofs.NameLemmas.{questions_valid}
use Rattle.ror_bench.proofs.RepairLemmas.{contained, dropped_stand}

-- ---- what stands has a number below the next

pub numbers_kept : (P : ℕ → Type 0) (p : Numbered → Bool) (list : List Numbered) → AllByRecursion P (numbers_in list) → AllByRecursion P (numbers_in (filter p list))
numbers_kept P p [] all = tt
numbers_kept P p (x ∷ xs) all = by (p x) (numbers_kept P p xs all.1)
  where
    by : (keeps : Bool) → AllByRecursion P (numbers_in (filter p xs)) → AllByRecursion P (numbers_in (cond keeps (x ∷ filter p xs) (filter p xs)))
    by true rest = (all.0, rest)
    by false rest = rest

pub numbers_after : (list : List Numbered) (most : ℕ) (rest : List Revision) → AllByRecursion (λ n. n ≤ most) (numbers_in list) → AllByRecursion (λ n. n ≤ fold max most (added_numbers rest)) (numbers_in (fold revised list rest))
numbers_after list most [] all = all
numbers_after list most (addition n s ∷ rest) all =
    let IsBelow : ℕ → Type 0 = λ m. m ≤ max most n in
    let here : n ≤ max most n = omega arith in
    let so_far = all-by (λ (m : ℕ). m ≤ most) IsBelow (numbers_in list) (λ m below. omega arith) all in
    numbers_after (revised list (addition n s)) (max most n) rest (subst (AllByRecursion IsBelow) (sym (numbers-added list n s)) (all-append IsBelow (numbers_in list) (n ∷ []) so_far (here, tt)))
numbers_after list most (withdrawal ns ∷ rest) all = numbers_after (revised list (withdrawal ns)) most rest (numbers_kept (λ n. n ≤ most) _ list all)
numbers_after list most (replacement n s ∷ rest) all = numbers_after (revised list (replacement n s)) most rest (subst (AllByRecursion (λ m. m ≤ most)) (sym (numbers-replaced list n s)) all)

stands_below : (r : Revisions) (n : ℕ) → Stands r n → n < next_number r
stands_below r n stands =
    let first = numbers_in (with_numbers_from 1 r.opening) in
    let most = fold max 0 first in
    let added = added_numbers r.surviving in
    let count : most ≡ 0 + length r.opening = greatest 0 r.opening in
    let opening = all-by (λ (m : ℕ). m < 1 + length r.opening) (λ (m : ℕ). m ≤ most) first (λ m below. omega arith) (recursion_from_All (λ m. m < 1 + length r.opening) first (Rise-opening r.opening).below) in
    let all = All-from_recursion (λ m. m ≤ fold max most added) (numbers_in (standing r)) (numbers_after (with_numbers_from 1 r.opening) most r.surviving opening) in
    let here : get_or (numbers_in (standing r)) stands.0 n ≤ fold max most added = all stands.0 n stands.1 in
    let is = stands.2 in
    let whole : fold max 0 (first ++ added) ≡ fold max most added = fold-append max 0 first added in
    omega arith

-- ---- what each command makes

each_answer : (P : Answer → Type 0) (most : ℕ) (t : DecisionTable) (list : List Statement) → ((q : Question) (x : Answer) → IsAskedIn t q → IsGiven most t list q x → P x) → (qs : List Question) (xs : List Answer) → AllByRecursion (IsAskedIn t) qs → AllZip (IsGiven most t list) qs xs → AllByRecursion P xs
each_answer P most t list gives [] [] asked all = tt
each_answer P most t list gives [] (x ∷ xs) asked all = absurd all
each_answer P most t list gives (q ∷ qs) [] asked all = absurd all
each_answer P most t list gives (q ∷ qs) (x ∷ xs) asked all = (gives q x asked.0 all.0, each_answer P most t list gives qs xs asked.1 all.1)

abbrev HasBodyText : DecisionTable → Body → Type 0
HasBodyText t body =
    IsPrintableBody t body × AllByRecursion (HasValidQuestion t) (answers_of body) × AllByRecursion HasNarrowVerdict (answers_of body) × HasNarrowRepair body

module _ (bits : Bits) (t : DecisionTable) (r : Revisions) (table : IsTable t) (lawful : IsLawfulIn t (statements_of r)) (number : next_number r < 2 ^ 32 - 1) where
  -- a number that can't but stand
  standing_small : (n : ℕ) → ((Stands r n → ⊥) → ⊥) → n < 2 ^ 32
  standing_small n stands = elim (cases_lt n (2 ^ 32)) [
    | inl less ↦ less
    | inr past ↦ absurd (stands (λ here. let below = stands_below r n here in omega arith))
  ]

  -- a number that stands
  member_below : (n : ℕ) → is_member nat_eq (numbers_in (standing r)) n ≡ true → n < 2 ^ 32 - 1
  member_below n among = let below = stands_below r n (contained (numbers_in (standing r)) n among) in omega arith

  few_dropped : (ds : List Dropped) → AreNumbersIn (standing r) (numbers_of ds) → length ds < 2 ^ 32
  few_dropped ds h =
      let can = dropped_stand r (numbers_of ds) h in
      let below = all-by (λ n. is_member nat_eq (numbers_in (standing r)) n ≡ true) (λ n. n < 2 ^ 32 - 1) (numbers_of ds) member_below h.each_stands in
      let few = length-le_below (numbers_of ds) (2 ^ 32 - 1) can.once (All-from_recursion (λ n. n < 2 ^ 32 - 1) (numbers_of ds) below) in
      omega (arith, few, length-numbers_of ds)

  dropped_printable : (ds : List Dropped) → AllByRecursion (λ n. is_member nat_eq (numbers_in (standing r)) n ≡ true) (numbers_of ds) → AllByRecursion (IsDroppedWithin (most_of bits)) ds → AllByRecursion IsPrintableDropped ds
  dropped_printable [] stand narrow = tt
  dropped_printable (d ∷ ds) stand narrow = (record { number = (let below = member_below d.number stand.0 in omega arith); narrow = certificate bits (certificates.Multipliers d.proof) narrow.0 }, dropped_printable ds stand.1 narrow.1)

  dropped_narrow : (ds : List Dropped) → AllByRecursion IsPrintableDropped ds → AllByRecursion (λ d. AreNarrow d.proof) ds
  dropped_narrow ds all = all-by IsPrintableDropped (λ d. AreNarrow d.proof) ds (λ d h. h.narrow) all

  given_repair_has_text : (kept : Kept) → IsGivenRepair (most_of bits) t (standing r) kept → HasBodyText t (bodies.Repaired kept)
  given_repair_has_text kept given =
      let few = few_dropped kept.dropped given.proved.numbers in
      let dropped = dropped_printable kept.dropped given.proved.numbers.each_stands given.narrow.dropped in
      let base = certificate bits kept.base given.narrow.base in
      (record { few = few; dropped = dropped; base = base }, tt, tt, (few, (base, dropped_narrow kept.dropped dropped)))

  wide_repair_has_text : (n : ℕ) (note : WideText) → IsWideRepair (most_of bits) t (standing r) n note → HasBodyText t (bodies.RepairWide n note)
  wide_repair_has_text n note wide =
      let number : ℕ = wide.statement.number in
      let among = member-at (λ (x : Numbered). x.number) (standing r) wide.place wide.statement wide.there in
      let below = member_below number among in
      let same = wide.numbered in
      let held = with_lawful t wide.dropped (standing r) wide.place wide.statement wide.there lawful in
      let list = kept_with wide.dropped (standing r) wide.place wide.statement in
      let form = well_formed t list table held [] (omega arith) tt in
      ((omega arith, note_printable (most_of bits) 0 (base_system t list) note (omega arith) form wide.noted), tt, tt, tt)

  repair_has_text : (body : Body) → IsRepairAt (most_of bits) t (standing r) body → HasBodyText t body
  repair_has_text (bodies.Repaired kept) h = given_repair_has_text kept h.0
  repair_has_text (bodies.RepairWide n note) h = wide_repair_has_text n note h
  repair_has_text (bodies.Added n) h = absurd h
  repair_has_text (bodies.Withdrawn n) h = absurd h
  repair_has_text (bodies.Replaced n) h = absurd h
  repair_has_text bodies.Undone h = absurd h
  repair_has_text (bodies.Answers xs) h = absurd h
  repair_has_text (bodies.Refused fault) h = absurd h

  body_has_text : (command : Command) (body : Body) → IsBodyOf (given_at (most_of bits)) t r command body → HasBodyText t body
  body_has_text command body (refused fault first is) = subst (HasBodyText t) (sym is) (tt, tt, tt, tt)
  body_has_text (State named) body (taken passes is) = subst (HasBodyText t) (sym is) (omega arith, tt, tt, tt)
  body_has_text (Withdraw n) body (taken passes is) = subst (HasBodyText t) (sym is) (standing_small n (passes faults.NoSuchStatement), tt, tt, tt)
  body_has_text (Replace n named) body (taken passes is) = subst (HasBodyText t) (sym is) (standing_small n (passes faults.NoSuchStatement), tt, tt, tt)
  body_has_text Undo body (taken passes is) = subst (HasBodyText t) (sym is) (tt, tt, tt, tt)
  body_has_text Repair body (taken passes is) = repair_has_text body is
  body_has_text (Ask asked) body (taken passes is) =
      let list = statements_of r in
      let most = most_of bits in
      let qs = is.1.asked in
      let xs = answers_of body in
      let valid = questions_valid t asked qs is.1.named in
      subst (HasBodyText t) (sym is.0) (
        each_answer (IsPrintable t) most t list (λ q x asked given. given_printable bits t list q table lawful asked x given) qs xs valid is.1.each,
        each_answer (HasValidQuestion t) most t list (λ q x asked given. subst (IsAskedIn t) (sym given.allowed.question) asked) qs xs valid is.1.each,
        each_answer HasNarrowVerdict most t list (λ q x asked given. printable bits x.verdict given.narrow) qs xs valid is.1.each,
        tt,
      )

  pub has_text : (line : Line) (block : Block) → line.number < 2 ^ 32 → IsBlockOf (given_at (most_of bits)) t r line block → HasText t block
  has_text line block small of =
      let body = body_has_text line.command block.body of.body in
      let same = of.number in
      record { printable = record { number = omega arith; body = body.0 }; valid = body.1; narrow = body.2; repair = body.3 }
