-- That bodies which are proved over the same commands agree, whatever proofs they have.
use Rattle.std.proofs.Common.{◌⊎◌, inl, inr, zero, suc, ◌≡◌, ℕ, Bool, true, false, List, [], ◌∷◌, length, map, Some, refl, sym, ap, ◌∙◌, subst, arith}
use Rattle.std.specs.Prelude.{cond, ◌==◌}
use Rattle.std.specs.List.{AllByRecursion, AllZip, filter}
use Rattle.std.proofs.lemmas.List.{length-map}
use Rattle.ror_statement.specs.declared.statement.Statement.{Statement}
use Rattle.ror_statement.specs.declared.question.Question.{Question}
use Rattle.ror_statement.specs.declared.question.Conclusion.{Conclusion}
use Rattle.ror_statement.specs.declared.question.Conclusion.TheVariants as conclusions
use Rattle.ror_table.specs.Table.{DecisionTable}
use Rattle.ror_value.specs.Meaning.{Answers}
use Rattle.ror_value.specs.Over.{IsLawfulIn, IsAskedIn}
use Rattle.ror_value.proofs.Conclusions.{one_conclusion}
use Rattle.ror_session.specs.declared.session.Line.{Line}
use Rattle.ror_session.specs.declared.session.Command.{Command}
use Rattle.ror_session.specs.declared.session.Command.TheVariants.{State, Withdraw, Replace, Repair, Undo, Ask}
use Rattle.ror_proof.specs.declared.answer.Answer.{Answer}
use Rattle.ror_proof.specs.declared.answer.Verdict.{Verdict}
use Rattle.ror_proof.specs.declared.answer.Verdict.TheVariants as verdicts
use Rattle.ror_proof.specs.declared.answer.WideText.{WideText}
use Rattle.ror_proof.specs.declared.kept.Kept.{Kept}
use Rattle.ror_check.specs.Proof.{IsWideOrTrue, IsAllowedVerdict, base_system}
use Rattle.ror_check.specs.Repair.{numbers_of, IsProvedRepair}
use Rattle.ror_check.proofs.Repairs.{one_repair, proved_is_repair}
use Rattle.ror_given.specs.Notes.{HasNoteAt}
use Rattle.ror_check.proofs.ManyAnswers.{wide_or_true}
use Rattle.ror_report.specs.declared.block.Block.{Block}
use Rattle.ror_report.specs.declared.block.Body.{Body}
use Rattle.ror_report.specs.declared.block.Body.TheVariants as bodies
use Rattle.ror_report.specs.declared.block.LineFault.{LineFault}
use Rattle.ror_report.specs.Text.{answers_of}
use Rattle.ror_history.specs.History.{Revisions, withdrawal, next_number, standing, statements_of, with_revision}
use Rattle.ror_bench.specs.Allowed.{Allowing, IsProvedUnlessWide, IsRepairProvedUnlessWide, proved_unless_wide}
use Rattle.ror_bench.specs.Bench.{Workbench, revisions_at, IsLawfulThroughout}
use Rattle.ror_bench.specs.Blocks.{IsBodyOf, refused, taken, IsBlockOf, revisions_with}
use Rattle.ror_bench.specs.Reports.{EachHolds, at_desk}
use Rattle.ror_bench.specs.Desks.{with_blocks, said_at, IsTurnOf, turns_at, commands_at, bodies_at, conclusion_of, ConcludesAs, AgreesWith, RepairsApart, AgreeInTurn, DesksAgree, IsNarrowQuestion, NarrowConcludes, NarrowRepairs}
use Rattle.ror_bench.proofs.NameLemmas.{questions_valid}
use Rattle.ror_bench.proofs.AnswerLemmas.{one_list}
use Rattle.ror_bench.proofs.LawfulLemmas.{lawful_now, moved_lawful}
use Rattle.ror_bench.proofs.ReportProofs.{as_many}
use Rattle.ror_bench.proofs.ApartLemmas.{turns_along, what_is_said, turns_are, turns_of_blocks}
use Rattle.ror_bench.proofs.CommandLemmas.{one_refusal}

-- ---- true answers conclude the same

concluded_true : (t : DecisionTable) (list : List Statement) (q : Question) (v : Verdict) (c : Conclusion) → conclusion_of v ≡ Some c → IsWideOrTrue t list q v → Answers t list q c
concluded_true t list q (verdicts.Yes proof) c is h = subst (Answers t list q) (let same : conclusions.Yes ≡ c = cc in same) h
concluded_true t list q (verdicts.No proof) c is h = subst (Answers t list q) (let same : conclusions.No ≡ c = cc in same) h
concluded_true t list q (verdicts.Contradiction proof) c is h = subst (Answers t list q) (let same : conclusions.Contradiction ≡ c = cc in same) h
concluded_true t list q (verdicts.Wide system note) c is h = absurd (let none = is in cc)

pub concludes_as : (t : DecisionTable) (list : List Statement) (q : Question) (x y : Answer) → IsLawfulIn t list → IsAskedIn t q → IsProvedUnlessWide t list q x → IsProvedUnlessWide t list q y → ConcludesAs x y
concludes_as t list q x y lawful asked first second = record {
  question = first.question ∙ sym second.question;
  conclusion = λ c d of_x of_y. one_conclusion t list q c d
      (concluded_true t list q x.verdict c of_x (wide_or_true t list q x.verdict lawful asked first.proof))
      (concluded_true t list q y.verdict d of_y (wide_or_true t list q y.verdict lawful asked second.proof));
}

answers_agree : (t : DecisionTable) (list : List Statement) (qs : List Question) (xs ys : List Answer) → IsLawfulIn t list → AllByRecursion (IsAskedIn t) qs → AllZip (IsProvedUnlessWide t list) qs xs → AllZip (IsProvedUnlessWide t list) qs ys → AllZip ConcludesAs xs ys
answers_agree t list [] [] [] lawful asked first second = tt
answers_agree t list [] [] (y ∷ ys) lawful asked first second = absurd second
answers_agree t list [] (x ∷ xs) ys lawful asked first second = absurd first
answers_agree t list (q ∷ qs) [] ys lawful asked first second = absurd first
answers_agree t list (q ∷ qs) (x ∷ xs) [] lawful asked first second = absurd second
answers_agree t list (q ∷ qs) (x ∷ xs) (y ∷ ys) lawful asked first second = (concludes_as t list q x y lawful asked.0 first.0 second.0, answers_agree t list qs xs ys lawful asked.1 first.1 second.1)

-- ---- a command has one body, but for proofs

module _ (t : DecisionTable) (r : Revisions) where
  -- the bodies agree, and the desk has the same revisions after both
  abbrev IsAlike : Command → Body → Body → Type 0
  IsAlike command a b = AgreesWith a b × (revisions_with t r command a ≡ revisions_with t r command b)

  alike_at : (command : Command) (body a b : Body) → AgreesWith body body → a ≡ body → b ≡ body → IsAlike command a b
  alike_at command body a b same of_a of_b = subst (λ (x : Body). IsAlike command x b) (sym of_a) (subst (IsAlike command body) (sym of_b) (same, refl))

  asked_alike : (command : Command) (a b : Body) → a ≡ bodies.Answers (answers_of a) → b ≡ bodies.Answers (answers_of b) → AllZip ConcludesAs (answers_of a) (answers_of b) → IsAlike command a b
  asked_alike command a b of_a of_b same = (subst (λ (x : Body). AgreesWith x b) (sym of_a) (subst (AgreesWith (bodies.Answers (answers_of a))) (sym of_b) same), ap (revisions_with t r command) of_a ∙ sym (ap (revisions_with t r command) of_b))

  -- or one is a repair that is too wide, and the other isn't
  abbrev AreAlike : Command → Body → Body → Type 0
  AreAlike command a b = RepairsApart a b ⊎ IsAlike command a b

  -- beside a repair
  beside_repaired : (x : Kept) (b : Body) → IsLawfulIn t (statements_of r) → IsProvedRepair t (standing r) x → IsRepairProvedUnlessWide t (standing r) b → AreAlike Repair (bodies.Repaired x) b
  beside_repaired x (bodies.Repaired y) lawful p q =
      let same : numbers_of x.dropped ≡ numbers_of y.dropped = one_repair t (standing r) (numbers_of x.dropped) (numbers_of y.dropped) (proved_is_repair t (standing r) x lawful p) (proved_is_repair t (standing r) y lawful q) in
      inr (same, ap (λ (ns : List ℕ). with_revision r (withdrawal ns)) same)
  beside_repaired x (bodies.RepairWide n note) lawful p q = inl tt
  beside_repaired x (bodies.Added n) lawful p q = absurd q
  beside_repaired x (bodies.Withdrawn n) lawful p q = absurd q
  beside_repaired x (bodies.Replaced n) lawful p q = absurd q
  beside_repaired x bodies.Undone lawful p q = absurd q
  beside_repaired x (bodies.Answers xs) lawful p q = absurd q
  beside_repaired x (bodies.Refused fault) lawful p q = absurd q

  -- beside one that is too wide
  beside_wide : (m : ℕ) (other : WideText) (b : Body) → IsRepairProvedUnlessWide t (standing r) b → AreAlike Repair (bodies.RepairWide m other) b
  beside_wide m other (bodies.Repaired y) q = inl tt
  beside_wide m other (bodies.RepairWide n note) q = inr (tt, refl)
  beside_wide m other (bodies.Added n) q = absurd q
  beside_wide m other (bodies.Withdrawn n) q = absurd q
  beside_wide m other (bodies.Replaced n) q = absurd q
  beside_wide m other bodies.Undone q = absurd q
  beside_wide m other (bodies.Answers xs) q = absurd q
  beside_wide m other (bodies.Refused fault) q = absurd q

  repairs_alike : (a b : Body) → IsLawfulIn t (statements_of r) → IsRepairProvedUnlessWide t (standing r) a → IsRepairProvedUnlessWide t (standing r) b → AreAlike Repair a b
  repairs_alike (bodies.Repaired x) b lawful p q = beside_repaired x b lawful p q
  repairs_alike (bodies.RepairWide m other) b lawful p q = beside_wide m other b q
  repairs_alike (bodies.Added n) b lawful p q = absurd p
  repairs_alike (bodies.Withdrawn n) b lawful p q = absurd p
  repairs_alike (bodies.Replaced n) b lawful p q = absurd p
  repairs_alike bodies.Undone b lawful p q = absurd p
  repairs_alike (bodies.Answers xs) b lawful p q = absurd p
  repairs_alike (bodies.Refused fault) b lawful p q = absurd p

  one_body : (command : Command) (a b : Body) → IsLawfulIn t (statements_of r) → IsBodyOf proved_unless_wide t r command a → IsBodyOf proved_unless_wide t r command b → AreAlike command a b
  one_body command a b lawful (refused f first of_a) (refused g second of_b) = inr (alike_at command (bodies.Refused f) a b refl of_a (of_b ∙ ap (λ (x : LineFault). bodies.Refused x) (one_refusal t r command g f second first)))
  one_body command a b lawful (refused f first of_a) (taken passes of_b) = absurd (passes f first.fails)
  one_body command a b lawful (taken passes of_a) (refused g second of_b) = absurd (passes g second.fails)
  one_body (State named) a b lawful (taken passes of_a) (taken likewise of_b) = inr (alike_at (State named) (bodies.Added (next_number r)) a b refl of_a of_b)
  one_body (Withdraw n) a b lawful (taken passes of_a) (taken likewise of_b) = inr (alike_at (Withdraw n) (bodies.Withdrawn n) a b refl of_a of_b)
  one_body (Replace n named) a b lawful (taken passes of_a) (taken likewise of_b) = inr (alike_at (Replace n named) (bodies.Replaced n) a b refl of_a of_b)
  one_body Repair a b lawful (taken passes of_a) (taken likewise of_b) = repairs_alike a b lawful of_a of_b
  one_body Undo a b lawful (taken passes of_a) (taken likewise of_b) = inr (alike_at Undo bodies.Undone a b refl of_a of_b)
  one_body (Ask asked) a b lawful (taken passes of_a) (taken likewise of_b) =
      let one = of_a.1 in
      let other = of_b.1 in
      let same : other.asked ≡ one.asked = one_list _ one.asked other.asked one.named other.named in
      let each = subst (λ (qs : List Question). AllZip (IsProvedUnlessWide t (statements_of r)) qs (answers_of b)) same other.each in
      inr (asked_alike (Ask asked) a b of_a.0 of_b.0 (answers_agree t (statements_of r) one.asked (answers_of a) (answers_of b) lawful (questions_valid t asked one.asked one.named) one.each each))

-- ---- along a desk

as_long : (xs ys : List (Command × Body)) → map (λ (x : Command × Body). x.0) xs ≡ map (λ (y : Command × Body). y.0) ys → length (map (λ (x : Command × Body). x.1) xs) ≡ length (map (λ (y : Command × Body). y.1) ys)
as_long xs ys same = length-map xs (λ (x : Command × Body). x.1) ∙ sym (length-map xs (λ (x : Command × Body). x.0)) ∙ ap length same ∙ length-map ys (λ (y : Command × Body). y.0) ∙ sym (length-map ys (λ (y : Command × Body). y.1))

agree_along : (t : DecisionTable) (r : Revisions) (xs ys : List (Command × Body)) → IsLawfulThroughout t r → AllByRecursion (IsTurnOf proved_unless_wide t) (turns_along t r xs) → AllByRecursion (IsTurnOf proved_unless_wide t) (turns_along t r ys) → map (λ (x : Command × Body). x.0) xs ≡ map (λ (y : Command × Body). y.0) ys
    → AgreeInTurn (map (λ (x : Command × Body). x.1) xs) (map (λ (y : Command × Body). y.1) ys)
agree_along t r [] [] lawful one other same = tt
agree_along t r [] (y ∷ ys) lawful one other same = absurd cc
agree_along t r (x ∷ xs) [] lawful one other same = absurd cc
agree_along t r (x ∷ xs) (y ∷ ys) lawful one other same =
    let command : y.0 ≡ x.0 = cc in
    let others : map (λ (x : Command × Body). x.0) xs ≡ map (λ (y : Command × Body). y.0) ys = cc in
    let here : IsBodyOf proved_unless_wide t r x.0 y.1 = subst (λ (c : Command). IsBodyOf proved_unless_wide t r c y.1) command other.0 in (
      as_long xs ys others,
      elim (one_body t r x.0 x.1 y.1 (lawful_now t r lawful) one.0 here) [
        | inl apart ↦ inl apart
        | inr alike ↦
            let moved : revisions_with t r y.0 y.1 ≡ revisions_with t r x.0 x.1 = ap (λ (c : Command). revisions_with t r c y.1) command ∙ sym alike.1 in
            inr (
              alike.0,
              agree_along t (revisions_with t r x.0 x.1) xs ys (moved_lawful proved_unless_wide t r x.0 x.1 lawful one.0) one.1
                  (subst (λ (s : Revisions). AllByRecursion (IsTurnOf proved_unless_wide t) (turns_along t s ys)) moved other.1) others,
            )
      ],
    )

-- ---- what is said at a desk

pub said_bodies : (xs : List (Line × Block)) → map (λ (y : Command × Body). y.1) (map what_is_said xs) ≡ map (λ (x : Line × Block). x.1.body) xs
said_bodies [] = refl
said_bodies (x ∷ xs) = ap (λ (l : List Body). x.1.body ∷ l) (said_bodies xs)

said_commands : (desk : ℕ) (lines : List Line) (blocks : List Block) → length lines ≡ length blocks → map (λ (y : Command × Body). y.0) (said_at desk lines blocks) ≡ commands_at desk lines
said_commands desk [] blocks long = refl
said_commands desk (line ∷ lines) [] long = absurd (omega arith)
said_commands desk (line ∷ lines) (block ∷ blocks) long = by (line.desk == desk) (said_commands desk lines blocks (omega arith))
  where
    by : (own : Bool) → map (λ (y : Command × Body). y.0) (said_at desk lines blocks) ≡ commands_at desk lines
        → map (λ (y : Command × Body). y.0) (map what_is_said (cond own ((line, block) ∷ at_desk desk (with_blocks lines blocks)) (at_desk desk (with_blocks lines blocks))))
        ≡ map (λ (l : Line). l.command) (cond own (line ∷ filter (λ (l : Line). l.desk == desk) lines) (filter (λ (l : Line). l.desk == desk) lines))
    by true rest = ap (λ (l : List Command). line.command ∷ l) rest
    by false rest = rest

-- what the commands are where each line has its block
commands_said : (P : Revisions → Line → Block → Type 0) (bench : Workbench) (desk : ℕ) (lines : List Line) (blocks : List Block) → EachHolds P bench [] lines blocks → map (λ (y : Command × Body). y.0) (said_at desk lines blocks) ≡ commands_at desk lines
commands_said P bench desk lines blocks each = said_commands desk lines blocks (as_many P bench [] lines blocks each)

-- two sessions over desks that begin alike, with the same commands at a desk of each, whose blocks are allowed in one way
pub record AreAlongside (H : Allowing) (t : DecisionTable) (r : Revisions) (xs ys : List (Command × Body)) : Type 0 where
  pub one : AllByRecursion (IsTurnOf H t) (turns_along t r xs)
  pub other : AllByRecursion (IsTurnOf H t) (turns_along t r ys)
  pub commands : map (λ (x : Command × Body). x.0) xs ≡ map (λ (y : Command × Body). y.0) ys

pub alongside : (H : Allowing) (one other : Workbench) (desk_one desk_other : ℕ) (lines_one lines_other : List Line) (blocks_one blocks_other : List Block) → one.table ≡ other.table → revisions_at one desk_one ≡ revisions_at other desk_other → commands_at desk_one lines_one ≡ commands_at desk_other lines_other
    → EachHolds (IsBlockOf H one.table) one [] lines_one blocks_one → EachHolds (IsBlockOf H other.table) other [] lines_other blocks_other → AreAlongside H one.table (revisions_at one desk_one) (said_at desk_one lines_one blocks_one) (said_at desk_other lines_other blocks_other)
alongside H one other desk_one desk_other lines_one lines_other blocks_one blocks_other table begins commands holds_one holds_other =
    let said_other : List (Command × Body) = said_at desk_other lines_other blocks_other in
    let turns : turns_along other.table (revisions_at other desk_other) said_other ≡ turns_along one.table (revisions_at one desk_one) said_other =
    ap (λ (t : DecisionTable). turns_along t (revisions_at other desk_other) said_other) (sym table) ∙ ap (λ (r : Revisions). turns_along one.table r said_other) (sym begins) in
    let second : AllByRecursion (IsTurnOf H other.table) (turns_at other desk_other [] lines_other blocks_other) = turns_of_blocks H other desk_other [] lines_other blocks_other holds_other in
    record {
      one = subst (AllByRecursion (IsTurnOf H one.table)) (turns_are one desk_one [] lines_one blocks_one) (turns_of_blocks H one desk_one [] lines_one blocks_one holds_one);
      other = subst (AllByRecursion (IsTurnOf H one.table)) (turns_are other desk_other [] lines_other blocks_other ∙ turns)
          (subst (λ (t : DecisionTable). AllByRecursion (IsTurnOf H t) (turns_at other desk_other [] lines_other blocks_other)) (sym table) second);
      commands = commands_said (IsBlockOf H one.table) one desk_one lines_one blocks_one holds_one ∙ commands ∙ sym (commands_said (IsBlockOf H other.table) other desk_other lines_other blocks_other holds_other);
    }

pub agree : DesksAgree
agree one other desk_one desk_other lines_one lines_other blocks_one blocks_other lawful table begins commands proved_one proved_other =
    let said_one : List (Command × Body) = said_at desk_one lines_one blocks_one in
    let said_other : List (Command × Body) = said_at desk_other lines_other blocks_other in
    let both = alongside proved_unless_wide one other desk_one desk_other lines_one lines_other blocks_one blocks_other table begins commands proved_one proved_other in
    let agrees = agree_along one.table (revisions_at one desk_one) said_one said_other lawful both.one both.other both.commands in
    subst (λ (l : List Body). AgreeInTurn l (bodies_at desk_other lines_other blocks_other)) (said_bodies (at_desk desk_one (with_blocks lines_one blocks_one)))
    (subst (AgreeInTurn (map (λ (x : Command × Body). x.1) said_one)) (said_bodies (at_desk desk_other (with_blocks lines_other blocks_other))) agrees)

-- ---- where no number is too wide

concluded : (most : ℕ) (t : DecisionTable) (list : List Statement) (q : Question) (v : Verdict) → IsAllowedVerdict (HasNoteAt most) t list q v → IsNarrowQuestion most t list q → (c : Conclusion) × (conclusion_of v ≡ Some c)
concluded most t list q (verdicts.Yes proof) allowed narrow = (conclusions.Yes, refl)
concluded most t list q (verdicts.No proof) allowed narrow = (conclusions.No, refl)
concluded most t list q (verdicts.Contradiction proof) allowed narrow = (conclusions.Contradiction, refl)
concluded most t list q (verdicts.Wide zero note) allowed narrow = absurd (narrow (base_system t list) note (inl refl) allowed)
concluded most t list q (verdicts.Wide (suc before) note) allowed narrow = absurd (narrow allowed.system note (inr (before, allowed.there)) allowed.noted)

pub narrow_concludes : NarrowConcludes
narrow_concludes most t list q x given narrow = concluded most t list q x.verdict given.allowed.verdict narrow

pub narrow_repairs : NarrowRepairs
narrow_repairs most t list (bodies.Repaired kept) given narrow = (kept, refl)
narrow_repairs most t list (bodies.RepairWide n note) given narrow = absurd (narrow given.place given.statement given.dropped note given.there given.repaired given.noted)
narrow_repairs most t list (bodies.Added n) given narrow = absurd given
narrow_repairs most t list (bodies.Withdrawn n) given narrow = absurd given
narrow_repairs most t list (bodies.Replaced n) given narrow = absurd given
narrow_repairs most t list bodies.Undone given narrow = absurd given
narrow_repairs most t list (bodies.Answers xs) given narrow = absurd given
narrow_repairs most t list (bodies.Refused fault) given narrow = absurd given
