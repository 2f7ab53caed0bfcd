-- That desks say the same where no number on a path is too wide: what may be given there goes by the commands.
use Rattle.std.proofs.Common.{◌≡◌, ℕ, List, [], ◌∷◌, map, Some, refl, sym, ap, ◌∙◌, subst}
use Rattle.std.specs.List.{AllByRecursion, AllZip}
use Rattle.ror_statement.specs.declared.statement.Statement.{Statement}
use Rattle.ror_statement.specs.declared.question.Question.{Question}
use Rattle.ror_statement.specs.declared.question.Conclusion.{Conclusion}
use Rattle.ror_table.specs.Table.{DecisionTable}
use Rattle.ror_value.specs.Over.{IsLawfulIn, IsAskedIn}
use Rattle.ror_session.specs.declared.session.Command.{Command}
use Rattle.ror_session.specs.declared.session.Command.TheVariants.{State, Withdraw, Replace, Repair, Undo, Ask}
use Rattle.ror_proof.specs.declared.answer.Answer.{Answer}
use Rattle.ror_check.specs.Repair.{numbers_of}
use Rattle.ror_check.proofs.Repairs.{one_repair}
use Rattle.ror_given.specs.Answers.{IsGiven}
use Rattle.ror_report.specs.declared.block.Body.{Body}
use Rattle.ror_report.specs.declared.block.Body.TheVariants as bodies
use Rattle.ror_report.specs.declared.block.LineFault.{LineFault}
use Rattle.ror_report.specs.Text.{answers_of}
use Rattle.ror_history.specs.History.{Revisions, withdrawal, next_number, standing, statements_of, with_revision}
use Rattle.ror_bench.specs.Allowed.{IsRepairAt, given_at}
use Rattle.ror_bench.specs.Bench.{IsLawfulThroughout, revisions_at}
use Rattle.ror_bench.specs.Blocks.{IsBodyOf, refused, taken, revisions_with}
use Rattle.ror_bench.specs.Reports.{at_desk}
use Rattle.ror_bench.specs.Desks.{with_blocks, said_at, bodies_at, IsTurnOf, IsNarrowQuestion, IsNarrowRepair, IsNarrowCommand, ConcludesTheSame, SaysTheSame, NarrowDesksAgree}
use Rattle.ror_bench.proofs.NameLemmas.{questions_valid}
use Rattle.ror_bench.proofs.AnswerLemmas.{one_list}
use Rattle.ror_bench.proofs.LawfulLemmas.{lawful_now, moved_lawful}
use Rattle.ror_bench.proofs.ApartLemmas.{turns_along, turns_are}
use Rattle.ror_bench.proofs.CommandLemmas.{one_refusal}
use Rattle.ror_bench.proofs.ReplayLemmas.{given_unless_wide}
use Rattle.ror_bench.proofs.AgreeLemmas.{concludes_as, said_bodies, alongside, narrow_concludes, narrow_repairs}

conclude_same : (most : ℕ) (t : DecisionTable) (list : List Statement) (q : Question) (x y : Answer) → IsLawfulIn t list → IsAskedIn t q → IsNarrowQuestion most t list q → IsGiven most t list q x → IsGiven most t list q y → ConcludesTheSame x y
conclude_same most t list q x y lawful asked narrow first second =
    let agrees = concludes_as t list q x y lawful asked (given_unless_wide most t list q x first) (given_unless_wide most t list q y second) in
    let a = narrow_concludes most t list q x first narrow in
    let b = narrow_concludes most t list q y second narrow in
    record {
      question = agrees.question;
      conclusion = a.0;
      concluded = a.1;
      likewise = b.1 ∙ ap (λ (c : Conclusion). Some c) (sym (agrees.conclusion a.0 b.0 a.1 b.1));
    }

answers_same : (most : ℕ) (t : DecisionTable) (list : List Statement) (qs : List Question) (xs ys : List Answer) → IsLawfulIn t list → AllByRecursion (IsAskedIn t) qs → AllByRecursion (IsNarrowQuestion most t list) qs → AllZip (IsGiven most t list) qs xs → AllZip (IsGiven most t list) qs ys → AllZip ConcludesTheSame xs ys
answers_same most t list [] [] [] lawful asked narrow first second = tt
answers_same most t list [] [] (y ∷ ys) lawful asked narrow first second = absurd second
answers_same most t list [] (x ∷ xs) ys lawful asked narrow first second = absurd first
answers_same most t list (q ∷ qs) [] ys lawful asked narrow first second = absurd first
answers_same most t list (q ∷ qs) (x ∷ xs) [] lawful asked narrow first second = absurd second
answers_same most t list (q ∷ qs) (x ∷ xs) (y ∷ ys) lawful asked narrow first second = (conclude_same most t list q x y lawful asked.0 narrow.0 first.0 second.0, answers_same most t list qs xs ys lawful asked.1 narrow.1 first.1 second.1)

-- ---- a command has one body, but for proofs

module _ (most : ℕ) (t : DecisionTable) (r : Revisions) where
  -- the bodies say the same, and the desk has the same revisions after both
  abbrev IsSame : Command → Body → Body → Type 0
  IsSame command a b = SaysTheSame a b × (revisions_with t r command a ≡ revisions_with t r command b)

  same_at : (command : Command) (body a b : Body) → SaysTheSame body body → a ≡ body → b ≡ body → IsSame command a b
  same_at command body a b same of_a of_b = subst (λ (x : Body). IsSame command x b) (sym of_a) (subst (IsSame command body) (sym of_b) (same, refl))

  asked_same : (command : Command) (a b : Body) → a ≡ bodies.Answers (answers_of a) → b ≡ bodies.Answers (answers_of b) → AllZip ConcludesTheSame (answers_of a) (answers_of b) → IsSame command a b
  asked_same command a b of_a of_b same = (subst (λ (x : Body). SaysTheSame x b) (sym of_a) (subst (SaysTheSame (bodies.Answers (answers_of a))) (sym of_b) same), ap (revisions_with t r command) of_a ∙ sym (ap (revisions_with t r command) of_b))

  repairs_same : (a b : Body) → IsRepairAt most t (standing r) a → IsRepairAt most t (standing r) b → IsNarrowRepair most t (standing r) → IsSame Repair a b
  repairs_same a b of_a of_b narrow =
      let p = narrow_repairs most t (standing r) a of_a narrow in
      let q = narrow_repairs most t (standing r) b of_b narrow in
      let given_a : IsRepairAt most t (standing r) (bodies.Repaired p.0) = subst (IsRepairAt most t (standing r)) p.1 of_a in
      let given_b : IsRepairAt most t (standing r) (bodies.Repaired q.0) = subst (IsRepairAt most t (standing r)) q.1 of_b in
      let same : numbers_of p.0.dropped ≡ numbers_of q.0.dropped = one_repair t (standing r) (numbers_of p.0.dropped) (numbers_of q.0.dropped) given_a.1 given_b.1 in
      subst (λ (x : Body). IsSame Repair x b) (sym p.1) (subst (IsSame Repair (bodies.Repaired p.0)) (sym q.1) (same, ap (λ (ns : List ℕ). with_revision r (withdrawal ns)) same))

  body_same : (command : Command) (a b : Body) → IsLawfulIn t (statements_of r) → IsBodyOf (given_at most) t r command a → IsBodyOf (given_at most) t r command b → IsNarrowCommand most t r command → IsSame command a b
  body_same command a b lawful (refused f first of_a) (refused g second of_b) narrow = same_at command (bodies.Refused f) a b refl of_a (of_b ∙ ap (λ (x : LineFault). bodies.Refused x) (one_refusal t r command g f second first))
  body_same command a b lawful (refused f first of_a) (taken passes of_b) narrow = absurd (passes f first.fails)
  body_same command a b lawful (taken passes of_a) (refused g second of_b) narrow = absurd (passes g second.fails)
  body_same (State named) a b lawful (taken passes of_a) (taken likewise of_b) narrow = same_at (State named) (bodies.Added (next_number r)) a b refl of_a of_b
  body_same (Withdraw n) a b lawful (taken passes of_a) (taken likewise of_b) narrow = same_at (Withdraw n) (bodies.Withdrawn n) a b refl of_a of_b
  body_same (Replace n named) a b lawful (taken passes of_a) (taken likewise of_b) narrow = same_at (Replace n named) (bodies.Replaced n) a b refl of_a of_b
  body_same Repair a b lawful (taken passes of_a) (taken likewise of_b) narrow = repairs_same a b of_a of_b narrow
  body_same Undo a b lawful (taken passes of_a) (taken likewise of_b) narrow = same_at Undo bodies.Undone a b refl of_a of_b
  body_same (Ask asked) a b lawful (taken passes of_a) (taken likewise of_b) narrow =
      let one = of_a.1 in
      let other = of_b.1 in
      let same : other.asked ≡ one.asked = one_list _ one.asked other.asked one.named other.named in
      let each = subst (λ (qs : List Question). AllZip (IsGiven most t (statements_of r)) qs (answers_of b)) same other.each in
      asked_same (Ask asked) a b of_a.0 of_b.0 (answers_same most t (statements_of r) one.asked (answers_of a) (answers_of b) lawful (questions_valid t asked one.asked one.named) (narrow one.asked one.named) one.each each)

-- ---- along a desk

abbrev IsNarrowTurn : ℕ → DecisionTable → Revisions × Command × Body → Type 0
IsNarrowTurn most t turn = IsNarrowCommand most t turn.0 turn.1

same_along : (most : ℕ) (t : DecisionTable) (r : Revisions) (xs ys : List (Command × Body)) → IsLawfulThroughout t r → AllByRecursion (IsTurnOf (given_at most) t) (turns_along t r xs) → AllByRecursion (IsTurnOf (given_at most) t) (turns_along t r ys) → map (λ (x : Command × Body). x.0) xs ≡ map (λ (y : Command × Body). y.0) ys
    → AllByRecursion (IsNarrowTurn most t) (turns_along t r xs) → AllZip SaysTheSame (map (λ (x : Command × Body). x.1) xs) (map (λ (y : Command × Body). y.1) ys)
same_along most t r [] [] lawful one other same narrow = tt
same_along most t r [] (y ∷ ys) lawful one other same narrow = absurd cc
same_along most t r (x ∷ xs) [] lawful one other same narrow = absurd cc
same_along most t r (x ∷ xs) (y ∷ ys) lawful one other same narrow =
    let command : y.0 ≡ x.0 = cc in
    let others : map (λ (x : Command × Body). x.0) xs ≡ map (λ (y : Command × Body). y.0) ys = cc in
    let here : IsBodyOf (given_at most) t r x.0 y.1 = subst (λ (c : Command). IsBodyOf (given_at most) t r c y.1) command other.0 in
    let alike = body_same most t r x.0 x.1 y.1 (lawful_now t r lawful) one.0 here narrow.0 in
    let moved : revisions_with t r y.0 y.1 ≡ revisions_with t r x.0 x.1 = ap (λ (c : Command). revisions_with t r c y.1) command ∙ sym alike.1 in (
      alike.0,
      same_along most t (revisions_with t r x.0 x.1) xs ys (moved_lawful (given_at most) t r x.0 x.1 lawful one.0) one.1
          (subst (λ (s : Revisions). AllByRecursion (IsTurnOf (given_at most) t) (turns_along t s ys)) moved other.1) others narrow.1,
    )

pub narrow_agree : NarrowDesksAgree
narrow_agree most one other desk_one desk_other lines_one lines_other blocks_one blocks_other lawful table begins commands given_one given_other narrow =
    let said_one : List (Command × Body) = said_at desk_one lines_one blocks_one in
    let said_other : List (Command × Body) = said_at desk_other lines_other blocks_other in
    let both = alongside (given_at most) one other desk_one desk_other lines_one lines_other blocks_one blocks_other table begins commands given_one given_other in
    let along : AllByRecursion (IsNarrowTurn most one.table) (turns_along one.table (revisions_at one desk_one) said_one) = subst (AllByRecursion (IsNarrowTurn most one.table)) (turns_are one desk_one [] lines_one blocks_one) narrow in
    let same = same_along most one.table (revisions_at one desk_one) said_one said_other lawful both.one both.other both.commands along in
    subst (λ (l : List Body). AllZip SaysTheSame l (bodies_at desk_other lines_other blocks_other)) (said_bodies (at_desk desk_one (with_blocks lines_one blocks_one)))
    (subst (AllZip SaysTheSame (map (λ (x : Command × Body). x.1) said_one)) (said_bodies (at_desk desk_other (with_blocks lines_other blocks_other))) same)
