-- So many statements are left after the lines of a desk that survive as stand there.
use Rattle.std.proofs.Common.{◌≡◌, ℕ, zero, suc, ◌+◌, ◌-◌, ◌<◌, ◌≤◌, true, not, min, List, [], ◌∷◌, ◌++◌, Option, Some, refl, ap, sym, subst, ◌∙◌, arith, length, take, filter, nat_eq, inl, inr, Contains}
use Rattle.std.specs.Prelude.{◌^◌, slice_get, if◌then◌else◌, ◌==◌, unwrap_or, option_map}
use Rattle.std.specs.List.Sorted.{IsStrictlyIncreasing}
use Rattle.std.specs.Set.{is_member}
use Rattle.std.proofs.lemmas.Bool.{cases_Bool}
use Rattle.std.proofs.lemmas.Bool.Decides.{Decides-eqb}
use Rattle.std.proofs.lemmas.List.{take_all, take-take, take-append-le, length-append, length-map, length-take-le}
use Rattle.std.proofs.lemmas.List.Filters.{length-filter_both}
use Rattle.std.proofs.lemmas.List.Sums.{fold-append}
use Rattle.std.proofs.lemmas.Map.Made.{is_member-Decides}
use Rattle.ror_statement.specs.declared.statement.Statement.{Statement}
use Rattle.ror_statement.specs.declared.statement.Numbered.{Numbered}
use Rattle.ror_statement.specs.Statements.{numbers_in}
use Rattle.ror_table.specs.Table.{DecisionTable}
use Rattle.ror_session.specs.declared.session.Command.{Command}
use Rattle.ror_session.specs.declared.session.Command.TheVariants.{State, Withdraw, Replace, Repair, Undo, Ask}
use Rattle.ror_proof.specs.declared.kept.Kept.{Kept}
use Rattle.ror_check.specs.Repair.{AreNumbersIn, is_among, kept_of, numbers_of}
use Rattle.ror_check.proofs.Numbers.{rises, numbers_among}
use Rattle.ror_check.proofs.RepairWalk.{length-numbers, length-numbers_of}
use Rattle.ror_check.proofs.Repairs.{listed_are}
use Rattle.ror_report.specs.declared.block.Body.{Body}
use Rattle.ror_report.specs.declared.block.Body.TheVariants.{Added, Withdrawn, Replaced, Undone, Repaired, RepairWide, Answers, Refused}
use Rattle.ror_report.specs.declared.block.LineFault.TheVariants as faults
use Rattle.ror_history.specs.History.{Revision, addition, withdrawal, replacement, Revisions, with_numbers_from, revised, standing, with_revision}
use Rattle.ror_history.specs.Laws.{AreNumberedInTurn}
use Rattle.ror_history.proofs.RisingLemmas.{numbers-kept}
use Rattle.ror_history.proofs.TurnLemmas.{numbers_rise, first_turn}
use Rattle.ror_bench.specs.Allowed.{proved_unless_wide}
use Rattle.ror_bench.specs.Blocks.{IsBodyOf, refused, taken, with_stated, revisions_with}
use Rattle.ror_show_ground.proofs.Tests.{less_or}
use Rattle.ror_show_find_roll.specs.declared.survivor.Survivor.{Survivor}
use Rattle.ror_show_find_roll.specs.Roll.{last_of, left_with, left_after, survivors_with}
use Rattle.ror_show_find_roll.proofs.LawProofs.{added_states, replaced_states}
use Rattle.ror_show_find_roll.proofs.NumberedTurns.{moved_turn}

-- ---- how many are kept where some are dropped

pub number_kept : (list : List Numbered) (ns : List ℕ) → IsStrictlyIncreasing (numbers_in list) → AreNumbersIn list ns → length (kept_of ns list) + length ns ≡ length list
number_kept list ns up h =
    let both = length-filter_both (is_among ns) (λ x. not (is_among ns x)) (λ x. refl) list in
    let among : length (filter (is_among ns) list) ≡ length ns = sym (length-numbers (filter (is_among ns) list)) ∙ ap length (numbers-kept (is_member nat_eq ns) list) ∙ ap length (numbers_among (numbers_in list) ns (rises (numbers_in list) up) (listed_are list ns h)) in
    omega (arith, both, among)

-- a statement that isn't missing stands
there : (ns : List ℕ) (n : ℕ) → ((Contains ns n → ⊥) → ⊥) → is_member nat_eq ns n ≡ true
there ns n missing = elim (cases_Bool (is_member nat_eq ns n)) [
  | inl is ↦ is
  | inr not_ ↦ absurd (missing (λ contained. let is = (is_member-Decides Decides-eqb ns n).1 contained in absurd cc))
]

one_rising : (n : ℕ) → IsStrictlyIncreasing (n ∷ [])
one_rising n k within = absurd (omega (arith, within))

-- ---- what each revision leaves

one_more : (n : ℕ) → n < 200 → min (n + 1) (2 ^ 64 - 1) ≡ n + 1
one_more n few = omega (arith, few)

left_added : (list : List Numbered) (n : ℕ) (s : Statement) → length list < 200 → left_with (length list) (Added n) ≡ length (revised list (addition n s))
left_added list n s few = one_more (length list) few ∙ sym (length-append list (record { number = n; statement = s } ∷ []))

left_withdrawn : (list : List Numbered) (n : ℕ) → IsStrictlyIncreasing (numbers_in list) → is_member nat_eq (numbers_in list) n ≡ true → left_with (length list) (Withdrawn n) ≡ length (revised list (withdrawal (n ∷ [])))
left_withdrawn list n up is =
    let kept = number_kept list (n ∷ []) up (record { rising = one_rising n; each_stands = (is, tt) }) in
    omega (arith, kept)

left_replaced : (list : List Numbered) (n : ℕ) (s : Statement) → left_with (length list) (Replaced n) ≡ length (revised list (replacement n s))
left_replaced list n s = sym (length-map list (λ (x : Numbered). if x.number == n then record { number = n; statement = s } else x))

left_repaired : (list : List Numbered) (kept : Kept) → IsStrictlyIncreasing (numbers_in list) → AreNumbersIn list (numbers_of kept.dropped) → left_with (length list) (Repaired kept) ≡ length (revised list (withdrawal (numbers_of kept.dropped)))
left_repaired list kept up h =
    let number = number_kept list (numbers_of kept.dropped) up h in
    let dropped = length-numbers_of kept.dropped in
    omega (arith, number, dropped)

-- ---- lists that are cut

at_most : {X : Type 0} (m : ℕ) (xs : List X) → length (take m xs) ≤ m
at_most zero xs = omega arith
at_most (suc m) [] = omega arith
at_most (suc m) (x ∷ xs) = let few = at_most m xs in omega (arith, few)

cut_twice : {X : Type 0} (k m : ℕ) (xs : List X) → take k (take m xs) ≡ take (min k m) xs
cut_twice {X} k m xs = elim (less_or k m) [
  | inl below ↦ let first : min k m ≡ k = omega (arith, below) in take-take k m xs (omega (arith, below)) ∙ ap (λ (n : ℕ). take n xs) (sym first)
  | inr above ↦
      let few = at_most m xs in
      let first : min k m ≡ m = omega (arith, above) in
      take_all k (take m xs) (omega (arith, few, above)) ∙ ap (λ (n : ℕ). take n xs) (sym first)
]

at_end : {X : Type 0} (xs : List X) (x : X) → slice_get (xs ++ x ∷ []) (length xs) ≡ Some x
at_end [] x = refl
at_end (y ∷ ys) x = at_end ys x

left_behind : (opening : ℕ) (list : List Survivor) (x : Survivor) → left_after opening (list ++ x ∷ []) ≡ x.left
left_behind opening list x =
    let last : length (list ++ x ∷ []) - 1 ≡ length list = (let all = length-append list (x ∷ []) in omega (arith, all)) in
    let there : last_of (list ++ x ∷ []) ≡ Some x = ap (slice_get (list ++ x ∷ [])) last ∙ at_end list x in
    ap (λ (o : Option Survivor). unwrap_or (option_map (λ y. y.left) o) opening) there

-- ---- from turn to turn

abbrev up_to : ℕ → Revisions → Revisions
up_to k r = record { opening = r.opening; surviving = take k r.surviving }

-- so many are left after some of the surviving lines as stand after so many of the surviving revisions
pub record Counts (opening : ℕ) (list : List Survivor) (r : Revisions) : Type 0 where
  pub turn : AreNumberedInTurn r
  pub long : length list ≡ length r.surviving
  pub left : (k : ℕ) → left_after opening (take k list) ≡ length (standing (up_to k r))

pub whole : (opening : ℕ) (list : List Survivor) (r : Revisions) → Counts opening list r → left_after opening list ≡ length (standing r)
whole opening list r h =
    let n = length list in
    let long = h.long in
    let all = take_all n list (omega arith) in
    let every : take n r.surviving ≡ r.surviving = take_all n r.surviving (omega (arith, long)) in
    ap (left_after opening) (sym all) ∙ h.left n ∙ ap (λ (xs : List Revision). length (standing (record { opening = r.opening; surviving = xs }))) every

module _ (opening : ℕ) where
  pushed : (list : List Survivor) (r : Revisions) (place : ℕ) (body : Body) (x : Revision) → AreNumberedInTurn (with_revision r x) → left_with (length (standing r)) body ≡ length (revised (standing r) x) → Counts opening list r
      → Counts opening (list ++ record { step = record { place = place; body = body }; left = left_with (left_after opening list) body } ∷ []) (with_revision r x)
  pushed list r place body x turn leaves h = record {
    turn = turn;
    long = (let long = h.long in let more = length-append list (y ∷ []) in let longer = length-append r.surviving (x ∷ []) in omega (arith, long, more, longer));
    left = left;
  }
    where
      y : Survivor
      y = record { step = record { place = place; body = body }; left = left_with (left_after opening list) body }

      last : left_after opening (list ++ y ∷ []) ≡ length (standing (with_revision r x))
      last =
          left_behind opening list y
          ∙ ap (λ (n : ℕ). left_with n body) (whole opening list r h)
          ∙ leaves
          ∙ ap length (sym (fold-append revised (with_numbers_from 1 r.opening) r.surviving (x ∷ [])))

      left : (k : ℕ) → left_after opening (take k (list ++ y ∷ [])) ≡ length (standing (up_to k (with_revision r x)))
      left k =
          let long = h.long in
          elim (less_or (length list) k) [
            | inl beyond ↦
                let all : take k (list ++ y ∷ []) ≡ list ++ y ∷ [] = take_all k (list ++ y ∷ []) (let more = length-append list (y ∷ []) in omega (arith, more, beyond)) in
                let every : take k (r.surviving ++ x ∷ []) ≡ r.surviving ++ x ∷ [] = take_all k (r.surviving ++ x ∷ []) (let more = length-append r.surviving (x ∷ []) in omega (arith, more, beyond, long)) in
                ap (left_after opening) all ∙ last ∙ ap (λ (xs : List Revision). length (standing (record { opening = r.opening; surviving = xs }))) (sym every)
            | inr within ↦
                let some : take k (list ++ y ∷ []) ≡ take k list = take-append-le k list (y ∷ []) within in
                let few : take k (r.surviving ++ x ∷ []) ≡ take k r.surviving = take-append-le k r.surviving (x ∷ []) (omega (arith, within, long)) in
                ap (left_after opening) some ∙ h.left k ∙ ap (λ (xs : List Revision). length (standing (record { opening = r.opening; surviving = xs }))) (sym few)
          ]

  undone : (list : List Survivor) (r : Revisions) → AreNumberedInTurn (up_to (length r.surviving - 1) r) → Counts opening list r → Counts opening (take (length list - 1) list) (up_to (length r.surviving - 1) r)
  undone list r turn h =
      let m : ℕ = length list - 1 in
      let same : length list - 1 ≡ length r.surviving - 1 = ap (λ (n : ℕ). n - 1) h.long in
      let short = length-take-le m list (omega arith) in
      let few = length-take-le (length r.surviving - 1) r.surviving (omega arith) in
      record {
        turn = turn;
        long = omega (arith, short, few, same);
        left = λ k.
            ap (left_after opening) (cut_twice k m list)
            ∙ h.left (min k m)
            ∙ ap (λ (xs : List Revision). length (standing (record { opening = r.opening; surviving = xs }))) (sym (ap (λ (n : ℕ). take k (take n r.surviving)) (sym same) ∙ cut_twice k m r.surviving));
      }

-- ---- what the body of a command leaves

module _ (t : DecisionTable) (r : Revisions) where
  few_before : (command : Command) (n : ℕ) → IsBodyOf proved_unless_wide t r command (Added n) → length (standing r) < 200
  few_before command n (refused fault first is) = absurd cc
  few_before (State named) n (taken passes is) = elim (less_or (length (standing r)) 200) [
    | inl few ↦ few
    | inr many ↦ absurd (passes faults.TooManyStatements many)
  ]
  few_before (Withdraw m) n (taken passes is) = absurd (let same = is in cc)
  few_before (Replace m named) n (taken passes is) = absurd (let same = is in cc)
  few_before Repair n (taken passes is) = absurd is
  few_before Undo n (taken passes is) = absurd (let same = is in cc)
  few_before (Ask asked) n (taken passes is) = absurd (let same = is.0 in cc)

  withdrawn_stands : (command : Command) (n : ℕ) → IsBodyOf proved_unless_wide t r command (Withdrawn n) → is_member nat_eq (numbers_in (standing r)) n ≡ true
  withdrawn_stands command n (refused fault first is) = absurd cc
  withdrawn_stands (State named) n (taken passes is) = absurd (let same = is in cc)
  withdrawn_stands (Withdraw m) n (taken passes is) =
      let same : m ≡ n = (let e = is in cc) in
      subst (λ (k : ℕ). is_member nat_eq (numbers_in (standing r)) k ≡ true) same (there (numbers_in (standing r)) m (passes faults.NoSuchStatement))
  withdrawn_stands (Replace m named) n (taken passes is) = absurd (let same = is in cc)
  withdrawn_stands Repair n (taken passes is) = absurd is
  withdrawn_stands Undo n (taken passes is) = absurd (let same = is in cc)
  withdrawn_stands (Ask asked) n (taken passes is) = absurd (let same = is.0 in cc)

  dropped_stand : (command : Command) (kept : Kept) → IsBodyOf proved_unless_wide t r command (Repaired kept) → AreNumbersIn (standing r) (numbers_of kept.dropped)
  dropped_stand command kept (refused fault first is) = absurd cc
  dropped_stand (State named) kept (taken passes is) = absurd (let same = is in cc)
  dropped_stand (Withdraw m) kept (taken passes is) = absurd (let same = is in cc)
  dropped_stand (Replace m named) kept (taken passes is) = absurd (let same = is in cc)
  dropped_stand Repair kept (taken passes is) = is.numbers
  dropped_stand Undo kept (taken passes is) = absurd (let same = is in cc)
  dropped_stand (Ask asked) kept (taken passes is) = absurd (let same = is.0 in cc)

pub counts_on : (t : DecisionTable) (opening : ℕ) (list : List Survivor) (r : Revisions) (place : ℕ) (command : Command) (body : Body) → IsBodyOf proved_unless_wide t r command body → Counts opening list r
    → Counts opening (survivors_with opening list (record { place = place; body = body })) (revisions_with t r command body)
counts_on t opening list r place command (Added n) is h =
    let x : Survivor = record { step = record { place = place; body = Added n }; left = left_with (left_after opening list) (Added n) } in
    let states = added_states t r command n is in
    let turn = subst (λ (o : Option Statement). AreNumberedInTurn (with_stated r (addition n) o)) states.1 (moved_turn t r command (Added n) h.turn is) in
    let more = pushed opening list r place (Added n) (addition n states.0) turn (left_added (standing r) n states.0 (few_before t r command n is)) h in
    subst (λ (o : Option Statement). Counts opening (list ++ x ∷ []) (with_stated r (addition n) o)) (sym states.1) more
counts_on t opening list r place command (Replaced n) is h =
    let x : Survivor = record { step = record { place = place; body = Replaced n }; left = left_with (left_after opening list) (Replaced n) } in
    let states = replaced_states t r command n is in
    let turn = subst (λ (o : Option Statement). AreNumberedInTurn (with_stated r (replacement n) o)) states.1 (moved_turn t r command (Replaced n) h.turn is) in
    let more = pushed opening list r place (Replaced n) (replacement n states.0) turn (left_replaced (standing r) n states.0) h in
    subst (λ (o : Option Statement). Counts opening (list ++ x ∷ []) (with_stated r (replacement n) o)) (sym states.1) more
counts_on t opening list r place command (Withdrawn n) is h =
    pushed opening list r place (Withdrawn n) (withdrawal (n ∷ [])) (moved_turn t r command (Withdrawn n) h.turn is)
    (left_withdrawn (standing r) n (numbers_rise r h.turn).rising (withdrawn_stands t r command n is)) h
counts_on t opening list r place command (Repaired kept) is h =
    pushed opening list r place (Repaired kept) (withdrawal (numbers_of kept.dropped)) (moved_turn t r command (Repaired kept) h.turn is)
    (left_repaired (standing r) kept (numbers_rise r h.turn).rising (dropped_stand t r command kept is)) h
counts_on t opening list r place command Undone is h = undone opening list r (moved_turn t r command Undone h.turn is) h
counts_on t opening list r place command (RepairWide n note) is h = h
counts_on t opening list r place command (Answers xs) is h = h
counts_on t opening list r place command (Refused fault) is h = h

-- where nothing was said yet
numbered_long : (n : ℕ) (ss : List Statement) → length (with_numbers_from n ss) ≡ length ss
numbered_long n [] = refl
numbered_long n (s ∷ ss) = ap suc (numbered_long (suc n) ss)

pub counts_first : (r : Revisions) → r.surviving ≡ [] → Counts (length r.opening) [] r
counts_first r fresh = record {
  turn = subst (λ (xs : List Revision). AreNumberedInTurn (record { opening = r.opening; surviving = xs })) (sym fresh) (first_turn r.opening);
  long = ap length (sym fresh);
  left = λ k.
      none k ∙ sym (numbered_long 1 r.opening)
      ∙ ap (λ (xs : List Revision). length (standing (record { opening = r.opening; surviving = xs }))) (sym (ap (take k) fresh ∙ nothing k));
}
  where
    nothing : (k : ℕ) → ◌≡◌ {A = List Revision} (take k []) []
    nothing zero = refl
    nothing (suc k) = refl

    none : (k : ℕ) → left_after (length r.opening) (take k []) ≡ length r.opening
    none zero = refl
    none (suc k) = refl
