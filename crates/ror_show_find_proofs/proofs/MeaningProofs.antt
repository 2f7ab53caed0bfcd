-- That the functions of proved answers agree with the statements, and decide the questions.
use Rattle.std.proofs.Common.{◌≡◌, ℕ, zero, suc, List, [], ◌∷◌, map, Option, Some, None, refl, sym, subst, ℤ}
use Rattle.std.specs.Prelude.{slice_get}
use Rattle.std.specs.List.{AllByRecursion}
use Rattle.std.specs.Option.{option_and_then}
use Rattle.ror_text.proofs.Everywhere.{all-map, all_at}
use Rattle.ror_statement.specs.declared.statement.Statement.{Statement}
use Rattle.ror_statement.specs.declared.question.QuestionKind.{QuestionKind}
use Rattle.ror_statement.specs.declared.question.QuestionKind.TheVariants.{Plain, Any, Every}
use Rattle.ror_statement.specs.declared.question.Question.{Question}
use Rattle.ror_statement.specs.declared.question.Conclusion.{Conclusion}
use Rattle.ror_statement.specs.declared.question.Conclusion.TheVariants as conclusions
use Rattle.ror_statement.specs.Questions.{kind_of, property_of}
use Rattle.ror_table.specs.Table.{DecisionTable}
use Rattle.ror_system.specs.System.{LinearSystem, Solves}
use Rattle.ror_value.specs.Over.{IsLawfulIn, IsAskedIn, IsNamedIn}
use Rattle.ror_value.specs.Meaning.{IsCompatible, Holds}
use Rattle.ror_rows.specs.declared.extra.Extra.{Extra}
use Rattle.ror_rows.specs.Rows.{system_for, comparison_of_extra, negation_of, conditions_of, systems_by}
use Rattle.ror_rows.proofs.Deciding.{HoldsExtra, negation_excludes, conditions_named, has_conditions, fails_at}
use Rattle.ror_rows.proofs.Holding.{rows_hold_extra, rows_hold_base}
use Rattle.ror_proof.specs.declared.answer.Certificate.{Certificate}
use Rattle.ror_proof.specs.declared.answer.Certificate.TheVariants as certificates
use Rattle.ror_proof.specs.declared.answer.Part.{Part}
use Rattle.ror_proof.specs.declared.answer.Proof.{Proof}
use Rattle.ror_proof.specs.declared.answer.Verdict.{Verdict}
use Rattle.ror_proof.specs.declared.answer.Verdict.TheVariants as verdicts
use Rattle.ror_proof.specs.Reading.{base_of}
use Rattle.ror_check.specs.Proof.{Shows, ShowsOfItsSystem, Proves, IsWideOrProved, base_side, part_side, question_systems_of}
use Rattle.ror_check.proofs.Checking.{some_same}
use Rattle.ror_show_find_proofs.specs.Functions.{steps_in, parts_of}
use Rattle.ror_show_find_proofs.specs.FunctionLaws.{Decides, FunctionsAreMeant}

-- a solution that is shown of a system solves it: of that of the statements
base_solves : (c : Conclusion) (s : LinearSystem) (x : Certificate) (w : List ℤ) → Shows (base_side c) s x → steps_in x ≡ Some w → Solves s w
base_solves c s (certificates.Multipliers m) w h is = absurd cc
base_solves conclusions.Yes s (certificates.Solution x) w h is = subst (Solves s) (some_same is) h.solves
base_solves conclusions.No s (certificates.Solution x) w h is = subst (Solves s) (some_same is) h.solves
base_solves conclusions.Contradiction s (certificates.Solution x) w h is = absurd h

-- and of one of a question
part_solves : (k : QuestionKind) (c : Conclusion) (s : LinearSystem) (x : Certificate) (w : List ℤ) → Shows (part_side k c) s x → steps_in x ≡ Some w → Solves s w
part_solves k c s (certificates.Multipliers m) w h is = absurd cc
part_solves Any conclusions.Yes s (certificates.Solution x) w h is = subst (Solves s) (some_same is) h.solves
part_solves Any conclusions.No s (certificates.Solution x) w h is = absurd h
part_solves Any conclusions.Contradiction s (certificates.Solution x) w h is = absurd h
part_solves Every conclusions.Yes s (certificates.Solution x) w h is = absurd h
part_solves Every conclusions.No s (certificates.Solution x) w h is = subst (Solves s) (some_same is) h.solves
part_solves Every conclusions.Contradiction s (certificates.Solution x) w h is = absurd h
part_solves Plain conclusions.Yes s (certificates.Solution x) w h is = absurd h
part_solves Plain conclusions.No s (certificates.Solution x) w h is = absurd h
part_solves Plain conclusions.Contradiction s (certificates.Solution x) w h is = absurd h

-- ---- bases

base_meant : (t : DecisionTable) (list : List Statement) (q : Question) (v : Verdict) (w : List ℤ) → IsLawfulIn t list → IsWideOrProved t list q v → option_and_then steps_in (base_of v) ≡ Some w → IsCompatible t list w
base_meant t list q (verdicts.Yes proof) w lawful p is = (rows_hold_base t list w lawful).1 (base_solves conclusions.Yes (system_for t list []) proof.base w p.base is)
base_meant t list q (verdicts.No proof) w lawful p is = (rows_hold_base t list w lawful).1 (base_solves conclusions.No (system_for t list []) proof.base w p.base is)
base_meant t list q (verdicts.Contradiction proof) w lawful p is = (rows_hold_base t list w lawful).1 (base_solves conclusions.Contradiction (system_for t list []) proof.base w p.base is)
base_meant t list q (verdicts.Wide system note) w lawful p is = absurd cc

-- ---- parts

first_of_one : {X : Type 0} (one x : X) (i : ℕ) → slice_get (one ∷ []) i ≡ Some x → one ≡ x
first_of_one one x zero there = some_same there
first_of_one one x (suc i) there = absurd cc

-- the system of a negation: the condition fails
every_part : (t : DecisionTable) (list : List Statement) (es : List Extra) (i : ℕ) (s : LinearSystem) (w : List ℤ) → IsLawfulIn t list → AllByRecursion (λ e. IsNamedIn t e.form) es → slice_get (map (system_for t list) (map (map comparison_of_extra) (map (λ e. negation_of e ∷ []) es))) i ≡ Some s → Solves s w → IsCompatible t list w × (AllByRecursion (HoldsExtra t w) es → ⊥)
every_part t list [] i s w lawful named there solves = absurd cc
every_part t list (e ∷ es) zero s w lawful named there solves =
    let both = (fails_at t list e w lawful named.0).1 (subst (λ (x : LinearSystem). Solves x w) (sym (some_same there)) solves) in
    (both.0, (λ all. negation_excludes t w e both.1 all.0))
every_part t list (e ∷ es) (suc i) s w lawful named there solves =
    let rest = every_part t list es i s w lawful named.1 there solves in
    (rest.0, (λ all. rest.1 all.1))

any_part : (t : DecisionTable) (list : List Statement) (es : List Extra) (i : ℕ) (s : LinearSystem) (w : List ℤ) → IsLawfulIn t list → AllByRecursion (λ e. IsNamedIn t e.form) es → slice_get (map (system_for t list) (map (map comparison_of_extra) (es ∷ []))) i ≡ Some s → Solves s w → IsCompatible t list w × AllByRecursion (HoldsExtra t w) es
any_part t list es i s w lawful named there solves =
    let is = first_of_one (system_for t list (map comparison_of_extra es)) s i there in
    let all = (all-map (λ c. IsNamedIn t c.form) comparison_of_extra es).0 named in
    let found = (rows_hold_extra t list (map comparison_of_extra es) w lawful all).1 (subst (λ (x : LinearSystem). Solves x w) (sym is) solves) in
    (found.0, (all-map (Holds t w) comparison_of_extra es).1 found.1)

kind_meant : (t : DecisionTable) (list : List Statement) (q : Question) (k : QuestionKind) (i : ℕ) (s : LinearSystem) (w : List ℤ) → IsLawfulIn t list → IsAskedIn t q → slice_get (map (system_for t list) (map (map comparison_of_extra) (systems_by k (conditions_of list (property_of q))))) i ≡ Some s → Solves s w → IsCompatible t list w × Decides t list w k (property_of q)
kind_meant t list q Plain i s w lawful asked there solves = absurd cc
kind_meant t list q Any i s w lawful asked there solves =
    let h = any_part t list (conditions_of list (property_of q)) i s w lawful (conditions_named t list (property_of q) lawful asked) there solves in
    (h.0, (has_conditions t list w (property_of q) lawful asked).1 h.1)
kind_meant t list q Every i s w lawful asked there solves =
    let h = every_part t list (conditions_of list (property_of q)) i s w lawful (conditions_named t list (property_of q) lawful asked) there solves in
    (h.0, (λ has. h.1 ((has_conditions t list w (property_of q) lawful asked).0 has)))

proof_meant : (t : DecisionTable) (list : List Statement) (q : Question) (c : Conclusion) (proof : Proof) (j : ℕ) (part : Option Part) (w : List ℤ) → IsLawfulIn t list → IsAskedIn t q → Proves t list q c proof → slice_get proof.parts j ≡ part → option_and_then (λ p. steps_in p.body) part ≡ Some w → IsCompatible t list w × Decides t list w (kind_of q) (property_of q)
proof_meant t list q c proof j None w lawful asked p there is = absurd cc
proof_meant t list q c proof j (Some part) w lawful asked p there is =
    let shown = all_at (ShowsOfItsSystem (part_side (kind_of q) c) (question_systems_of t list q)) proof.parts j part p.parts there in
    kind_meant t list q (kind_of q) shown.before shown.system w lawful asked shown.there (part_solves (kind_of q) c shown.system part.body w shown.shown is)

part_meant : (t : DecisionTable) (list : List Statement) (q : Question) (v : Verdict) (j : ℕ) (w : List ℤ) → IsLawfulIn t list → IsAskedIn t q → IsWideOrProved t list q v → option_and_then (λ p. steps_in p.body) (slice_get (parts_of v) j) ≡ Some w → IsCompatible t list w × Decides t list w (kind_of q) (property_of q)
part_meant t list q (verdicts.Yes proof) j w lawful asked p is = proof_meant t list q conclusions.Yes proof j (slice_get proof.parts j) w lawful asked p refl is
part_meant t list q (verdicts.No proof) j w lawful asked p is = proof_meant t list q conclusions.No proof j (slice_get proof.parts j) w lawful asked p refl is
part_meant t list q (verdicts.Contradiction proof) j w lawful asked p is = proof_meant t list q conclusions.Contradiction proof j (slice_get proof.parts j) w lawful asked p refl is
part_meant t list q (verdicts.Wide system note) j w lawful asked p is = absurd cc

-- ---- functions among answers

pub functions_are_meant : FunctionsAreMeant
functions_are_meant t list xs k None x w lawful there sound is =
    base_meant t list x.question x.verdict w lawful sound.verdict (rw there at is)
functions_are_meant t list xs k (Some j) x w lawful there sound is =
    part_meant t list x.question x.verdict j w lawful sound.asked sound.verdict (rw there at is)
