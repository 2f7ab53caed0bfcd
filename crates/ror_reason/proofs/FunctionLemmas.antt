-- The functions in the proofs of answers are compatible, and have what is asked or lack it.
use Rattle.std.proofs.Common.{◌≡◌, ◌≢◌, ℕ, zero, suc, ◌≤◌, true, List, [], ◌∷◌, length, map, ℤ, Some, refl, sym, ap, subst, ◌∙◌}
use Rattle.std.specs.Prelude.{slice_get}
use Rattle.std.specs.List.{AllByRecursion, range_with_len}
use Rattle.ror_text.proofs.Everywhere.{all-map}
use Rattle.ror_statement.specs.declared.statement.Statement.{Statement}
use Rattle.ror_statement.specs.declared.question.QuestionKind.{QuestionKind}
use Rattle.ror_statement.specs.declared.question.QuestionKind.TheVariants.{Plain, Any, Every}
use Rattle.ror_statement.specs.declared.question.Property.{Property}
use Rattle.ror_statement.specs.declared.question.Question.{Question}
use Rattle.ror_statement.specs.declared.question.Question.TheVariants as questions
use Rattle.ror_statement.specs.declared.question.Conclusion.{Conclusion}
use Rattle.ror_statement.specs.declared.question.Conclusion.TheVariants.{Yes, No, Contradiction}
use Rattle.ror_statement.specs.Questions.{kind_of, property_of}
use Rattle.ror_statement.specs.Statements.{statements_in}
use Rattle.ror_statement.proofs.Sublists.{IsSublist}
use Rattle.ror_table.specs.Table.{DecisionTable}
use Rattle.ror_system.specs.System.{LinearSystem, Solves}
use Rattle.ror_value.specs.Over.{IsNamedIn, IsLawfulIn, IsAskedIn}
use Rattle.ror_value.specs.Meaning.{Holds, Has, IsCompatible, IsConsistent, Answers}
use Rattle.ror_value.proofs.FewerStatements.{consistent-sublist}
use Rattle.ror_rows.specs.declared.extra.Extra.{Extra}
use Rattle.ror_rows.specs.Rows.{system_for, comparison_of_extra, negation_of, conditions_of, systems_of_question}
use Rattle.ror_rows.proofs.Holding.{rows_hold_extra, rows_hold_base}
use Rattle.ror_rows.proofs.Deciding.{HoldsExtra, negation_excludes, conditions_named, has_conditions, fails_at}
use Rattle.ror_proof.specs.declared.answer.Certificate.{Certificate}
use Rattle.ror_proof.specs.declared.answer.Certificate.TheVariants as certificates
use Rattle.ror_proof.specs.declared.answer.Part.{Part}
use Rattle.ror_proof.specs.declared.answer.Proof.{Proof}
use Rattle.ror_proof.specs.declared.answer.Verdict.{Verdict}
use Rattle.ror_proof.specs.declared.answer.Verdict.TheVariants as verdicts
use Rattle.ror_check.specs.Proof.{OfProof, Shows, ShowsOfItsSystem, Proves, AreNumbersFor, base_side, part_side, base_system, question_systems_of}
use Rattle.ror_check.proofs.Checking.{some_same, proof_is_true, answer_is_true}
use Rattle.ror_reason.specs.Functions.{IsSolution, deciding, deciding_by, IsDeciding, IsBeside, IsAgainst}
use Rattle.ror_reason.specs.Reasons.{one_has, one_lacks}
use Rattle.ror_reason.specs.Reducts.{stated, without, RestsOnPart, Concludes, IsProvedOther}
use Rattle.ror_reason.specs.Laws.{OneFunctionDecides, AgainstEachStatementOneFunction}
use Rattle.ror_reason.proofs.Parts.{stated-among, stated_lawful, without-among}
use Rattle.ror_reason.proofs.LawLemmas.{concluded}

-- ---- certificates

solution_solves : (s : LinearSystem) (c : Certificate) → Shows (base_side Yes) s c → (w : List ℤ) × IsSolution c w × Solves s w
solution_solves s (certificates.Solution x) h = (x.steps, refl, h.solves)
solution_solves s (certificates.Multipliers m) h = absurd h

-- the function of the base is compatible
base_function : (t : DecisionTable) (xs : List Statement) (c : Certificate) → IsLawfulIn t xs → Shows (base_side Yes) (base_system t xs) c → (w : List ℤ) × IsSolution c w × IsCompatible t xs w
base_function t xs c lawful h =
    let found = solution_solves (base_system t xs) c h in
    (found.0, found.1, (rows_hold_base t xs found.0 lawful).1 found.2)

-- ---- parts

no_part : (base : Certificate) (parts : List Part) → map (λ p. p.at) parts ≡ [] → deciding_by base parts ≡ base
no_part base [] e = refl
no_part base (p ∷ parts) e = absurd cc

-- the first part, of those that are numbered
first_part : (base : Certificate) (P : Part → Type 0) (n : ℕ) (ns : List ℕ) (parts : List Part) → map (λ p. p.at) parts ≡ n ∷ ns → AllByRecursion P parts → (p : Part) × (deciding_by base parts ≡ p.body) × P p
first_part base P n ns [] e h = absurd cc
first_part base P n ns (p ∷ parts) e h = (p, refl, h.0)

shown_solution : (systems : List LinearSystem) (p : Part) → ShowsOfItsSystem (base_side Yes) systems p → (w : List ℤ) × IsSolution p.body w × ((i : ℕ) × (s : LinearSystem) × (slice_get systems i ≡ Some s) × Solves s w)
shown_solution systems p h =
    let found = solution_solves h.system p.body h.shown in
    (found.0, found.1, (h.before, h.system, h.there, found.2))

-- ---- what a solution of a question's system says

-- of the one system of a question on some function
has_at : (t : DecisionTable) (xs : List Statement) (p : Property) (w : List ℤ) (i : ℕ) (s : LinearSystem) → IsLawfulIn t xs → AllByRecursion (λ e. IsNamedIn t e.form) (conditions_of xs p) → slice_get (system_for t xs (map comparison_of_extra (conditions_of xs p)) ∷ []) i ≡ Some s → Solves s w → IsCompatible t xs w × AllByRecursion (HoldsExtra t w) (conditions_of xs p)
has_at t xs p w zero s lawful named there solves =
    let es = conditions_of xs p in
    let both = (rows_hold_extra t xs (map comparison_of_extra es) w lawful ((all-map (λ c. IsNamedIn t c.form) comparison_of_extra es).0 named)).1 (subst (λ (z : LinearSystem). Solves z w) (sym (some_same there)) solves) in
    (both.0, (all-map (Holds t w) comparison_of_extra es).1 both.1)
has_at t xs p w (suc i) s lawful named there solves = absurd cc

-- of a system of a question on every one
lacks_at : (t : DecisionTable) (xs : List Statement) (es : List Extra) (w : List ℤ) (i : ℕ) (s : LinearSystem) → IsLawfulIn t xs → AllByRecursion (λ e. IsNamedIn t e.form) es → slice_get (map (system_for t xs) (map (map comparison_of_extra) (map (λ e. negation_of e ∷ []) es))) i ≡ Some s → Solves s w → IsCompatible t xs w × (AllByRecursion (HoldsExtra t w) es → ⊥)
lacks_at t xs [] w i s lawful named there solves = absurd cc
lacks_at t xs (e ∷ es) w zero s lawful named there solves =
    let found = (fails_at t xs e w lawful named.0).1 (subst (λ (z : LinearSystem). Solves z w) (sym (some_same there)) solves) in
    (found.0, λ all. negation_excludes t w e found.1 all.0)
lacks_at t xs (e ∷ es) w (suc i) s lawful named there solves =
    let found = lacks_at t xs es w i s lawful named.1 there solves in
    (found.0, λ all. found.1 all.1)

-- ---- proofs

module _ (t : DecisionTable) (xs : List Statement) (q : Question) (proof : Proof) (lawful : IsLawfulIn t xs) (asked : IsAskedIn t q) where
  any_has : kind_of q ≡ Any → Proves t xs q Yes proof → (w : List ℤ) × IsSolution (deciding proof) w × IsCompatible t xs w × Has t xs w (property_of q)
  any_has k-is p =
      let systems = question_systems_of t xs q in
      let one : systems ≡ system_for t xs (map comparison_of_extra (conditions_of xs (property_of q))) ∷ [] = rw k-is refl in
      let count : length (systems_of_question xs q) ≡ 1 = rw k-is refl in
      let numbered : map (λ p. p.at) proof.parts ≡ 1 ∷ [] = subst (λ (k : QuestionKind). AreNumbersFor k Yes (length (systems_of_question xs q)) (map (λ p. p.at) proof.parts)) k-is p.numbered ∙ ap (range_with_len 1) count in
      let parts : AllByRecursion (ShowsOfItsSystem (base_side Yes) systems) proof.parts = subst (λ (k : QuestionKind). AllByRecursion (ShowsOfItsSystem (part_side k Yes) systems) proof.parts) k-is p.parts in
      let first = first_part proof.base (ShowsOfItsSystem (base_side Yes) systems) 1 [] proof.parts numbered parts in
      let w = shown_solution systems first.0 first.2 in
      let at = w.2 in
      let found = has_at t xs (property_of q) w.0 at.0 at.1 lawful (conditions_named t xs (property_of q) lawful asked) (subst (λ (ss : List LinearSystem). slice_get ss at.0 ≡ Some at.1) one at.2) at.3 in
      (w.0, subst (λ (c : Certificate). IsSolution c w.0) (sym first.1) w.1, found.0, (has_conditions t xs w.0 (property_of q) lawful asked).1 found.1)

  every_lacks : kind_of q ≡ Every → Proves t xs q No proof → (w : List ℤ) × IsSolution (deciding proof) w × IsCompatible t xs w × (Has t xs w (property_of q) → ⊥)
  every_lacks k-is p =
      let systems = question_systems_of t xs q in
      let all : systems ≡ map (system_for t xs) (map (map comparison_of_extra) (map (λ e. negation_of e ∷ []) (conditions_of xs (property_of q)))) = rw k-is refl in
      let numbered : (n : ℕ) × (1 ≤ n) × (n ≤ length (systems_of_question xs q)) × (map (λ p. p.at) proof.parts ≡ n ∷ []) = subst (λ (k : QuestionKind). AreNumbersFor k No (length (systems_of_question xs q)) (map (λ p. p.at) proof.parts)) k-is p.numbered in
      let parts : AllByRecursion (ShowsOfItsSystem (base_side Yes) systems) proof.parts = subst (λ (k : QuestionKind). AllByRecursion (ShowsOfItsSystem (part_side k No) systems) proof.parts) k-is p.parts in
      let first = first_part proof.base (ShowsOfItsSystem (base_side Yes) systems) numbered.0 [] proof.parts numbered.3 parts in
      let w = shown_solution systems first.0 first.2 in
      let at = w.2 in
      let found = lacks_at t xs (conditions_of xs (property_of q)) w.0 at.0 at.1 lawful (conditions_named t xs (property_of q) lawful asked) (subst (λ (ss : List LinearSystem). slice_get ss at.0 ≡ Some at.1) all at.2) at.3 in
      (w.0, subst (λ (c : Certificate). IsSolution c w.0) (sym first.1) w.1, found.0, λ has. found.1 ((has_conditions t xs w.0 (property_of q) lawful asked).0 has))

  plain_has : kind_of q ≡ Plain → Proves t xs q Yes proof → (w : List ℤ) × IsSolution (deciding proof) w × IsCompatible t xs w
  plain_has k-is p =
      let numbered : map (λ p. p.at) proof.parts ≡ [] = subst (λ (k : QuestionKind). AreNumbersFor k Yes (length (systems_of_question xs q)) (map (λ p. p.at) proof.parts)) k-is p.numbered in
      let found = base_function t xs proof.base lawful p.base in
      (found.0, subst (λ (c : Certificate). IsSolution c found.0) (sym (no_part proof.base proof.parts numbered)) found.1, found.2)

-- ---- answers

module _ (t : DecisionTable) (xs : List Statement) (lawful : IsLawfulIn t xs) where
  yes_has : (q : Question) (proof : Proof) → IsAskedIn t q → one_has (kind_of q) Yes ≡ true → Proves t xs q Yes proof → (w : List ℤ) × IsSolution (deciding proof) w × IsCompatible t xs w × Has t xs w (property_of q)
  yes_has questions.Consistent proof asked one p = let found = plain_has t xs questions.Consistent proof lawful asked refl p in (found.0, found.1, found.2, tt)
  yes_has (questions.Possible a b) proof asked one p = any_has t xs (questions.Possible a b) proof lawful asked refl p
  yes_has (questions.PossibleStrength a b r) proof asked one p = any_has t xs (questions.PossibleStrength a b r) proof lawful asked refl p
  yes_has (questions.PossibleClass a h) proof asked one p = any_has t xs (questions.PossibleClass a h) proof lawful asked refl p
  yes_has (questions.Necessary a b) proof asked one p = absurd cc
  yes_has (questions.NecessaryStrength a b r) proof asked one p = absurd cc
  yes_has (questions.NecessaryClass a h) proof asked one p = absurd cc

  no_lacks : (q : Question) (proof : Proof) → IsAskedIn t q → one_lacks (kind_of q) No ≡ true → Proves t xs q No proof → (w : List ℤ) × IsSolution (deciding proof) w × IsCompatible t xs w × (Has t xs w (property_of q) → ⊥)
  no_lacks (questions.Necessary a b) proof asked one p = every_lacks t xs (questions.Necessary a b) proof lawful asked refl p
  no_lacks (questions.NecessaryStrength a b r) proof asked one p = every_lacks t xs (questions.NecessaryStrength a b r) proof lawful asked refl p
  no_lacks (questions.NecessaryClass a h) proof asked one p = every_lacks t xs (questions.NecessaryClass a h) proof lawful asked refl p
  no_lacks questions.Consistent proof asked one p = absurd cc
  no_lacks (questions.Possible a b) proof asked one p = absurd cc
  no_lacks (questions.PossibleStrength a b r) proof asked one p = absurd cc
  no_lacks (questions.PossibleClass a h) proof asked one p = absurd cc

  of_yes : (q : Question) (c : Conclusion) (question : Question) (v : Verdict) → IsAskedIn t q → one_has (kind_of q) c ≡ true → OfProof (Proves t xs q) v → Concludes c v → (w : List ℤ) × IsDeciding (record { question = question; verdict = v }) w × IsCompatible t xs w × Has t xs w (property_of q)
  of_yes q c question (verdicts.Yes proof) asked one p same = yes_has q proof asked (subst (λ d. one_has (kind_of q) d ≡ true) (sym same) one) p
  of_yes q c question (verdicts.No proof) asked one p same = absurd (not_no q (subst (λ d. one_has (kind_of q) d ≡ true) (sym same) one))
    where
      not_no : (q : Question) → one_has (kind_of q) No ≡ true → ⊥
      not_no q one = by (kind_of q) one
        where
          by : (k : QuestionKind) → one_has k No ≡ true → ⊥
          by Plain one = cc
          by Any one = cc
          by Every one = cc
  of_yes q c question (verdicts.Contradiction proof) asked one p same = absurd (not_so (kind_of q) (subst (λ d. one_has (kind_of q) d ≡ true) (sym same) one))
    where
      not_so : (k : QuestionKind) → one_has k Contradiction ≡ true → ⊥
      not_so Plain one = cc
      not_so Any one = cc
      not_so Every one = cc
  of_yes q c question (verdicts.Wide system note) asked one p same = absurd p

  of_no : (q : Question) (c : Conclusion) (question : Question) (v : Verdict) → IsAskedIn t q → one_lacks (kind_of q) c ≡ true → OfProof (Proves t xs q) v → Concludes c v → (w : List ℤ) × IsDeciding (record { question = question; verdict = v }) w × IsCompatible t xs w × (Has t xs w (property_of q) → ⊥)
  of_no q c question (verdicts.No proof) asked one p same = no_lacks q proof asked (subst (λ d. one_lacks (kind_of q) d ≡ true) (sym same) one) p
  of_no q c question (verdicts.Yes proof) asked one p same = absurd (not_so (kind_of q) (subst (λ d. one_lacks (kind_of q) d ≡ true) (sym same) one))
    where
      not_so : (k : QuestionKind) → one_lacks k Yes ≡ true → ⊥
      not_so Plain one = cc
      not_so Any one = cc
      not_so Every one = cc
  of_no q c question (verdicts.Contradiction proof) asked one p same = absurd (not_so (kind_of q) (subst (λ d. one_lacks (kind_of q) d ≡ true) (sym same) one))
    where
      not_so : (k : QuestionKind) → one_lacks k Contradiction ≡ true → ⊥
      not_so Plain one = cc
      not_so Any one = cc
      not_so Every one = cc
  of_no q c question (verdicts.Wide system note) asked one p same = absurd p

pub one_decides : OneFunctionDecides
one_decides = record {
  has = λ t list q c x lawful asked one so. of_yes t (statements_in list) lawful q c x.question x.verdict asked one so.proved.proof so.concludes;
  lacks = λ t list q c x lawful asked one so. of_no t (statements_in list) lawful q c x.question x.verdict asked one so.proved.proof so.concludes;
}

-- ---- beside the statements of a reduct

-- what statements carry of every function one that lacks it is against, and of none one that has it
yes-lacks : (q : Question) → RestsOnPart q Yes → one_lacks (kind_of q) No ≡ true
yes-lacks (questions.Necessary a b) rests = refl
yes-lacks (questions.NecessaryStrength a b r) rests = refl
yes-lacks (questions.NecessaryClass a h) rests = absurd cc
yes-lacks questions.Consistent rests = absurd cc
yes-lacks (questions.Possible a b) rests = absurd cc
yes-lacks (questions.PossibleStrength a b r) rests = absurd cc
yes-lacks (questions.PossibleClass a h) rests = absurd cc

no-has : (q : Question) → RestsOnPart q No → one_has (kind_of q) Yes ≡ true
no-has (questions.Possible a b) rests = refl
no-has (questions.PossibleStrength a b r) rests = refl
no-has (questions.PossibleClass a h) rests = refl
no-has questions.Consistent rests = absurd cc
no-has (questions.Necessary a b) rests = absurd cc
no-has (questions.NecessaryStrength a b r) rests = absurd cc
no-has (questions.NecessaryClass a h) rests = absurd cc

module _ (t : DecisionTable) (xs : List Statement) (lawful : IsLawfulIn t xs) (q : Question) (asked : IsAskedIn t q) where
  not_contradiction : (proof : Proof) → IsConsistent t xs → Proves t xs q Contradiction proof → ⊥
  not_contradiction proof consistent p = proof_is_true t xs q Contradiction proof lawful asked p consistent.0 consistent.1

  against : (c : Conclusion) (question : Question) (v : Verdict) → RestsOnPart q c → (c ≢ Contradiction → IsConsistent t xs) → OfProof (Proves t xs q) v → (Concludes c v → ⊥) → (w : List ℤ) × IsBeside c (record { question = question; verdict = v }) w × IsCompatible t xs w × IsAgainst t xs q c w
  against Contradiction question (verdicts.Yes proof) rests consistent p differs = let found = base_function t xs proof.base lawful p.base in (found.0, found.1, found.2, tt)
  against Contradiction question (verdicts.No proof) rests consistent p differs = let found = base_function t xs proof.base lawful p.base in (found.0, found.1, found.2, tt)
  against Contradiction question (verdicts.Contradiction proof) rests consistent p differs = absurd (differs refl)
  against Yes question (verdicts.No proof) rests consistent p differs = no_lacks t xs lawful q proof asked (yes-lacks q rests) p
  against Yes question (verdicts.Yes proof) rests consistent p differs = absurd (differs refl)
  against Yes question (verdicts.Contradiction proof) rests consistent p differs = absurd (not_contradiction proof (consistent (λ e. cc)) p)
  against No question (verdicts.Yes proof) rests consistent p differs = yes_has t xs lawful q proof asked (no-has q rests) p
  against No question (verdicts.No proof) rests consistent p differs = absurd (differs refl)
  against No question (verdicts.Contradiction proof) rests consistent p differs = absurd (not_contradiction proof (consistent (λ e. cc)) p)
  against c question (verdicts.Wide system note) rests consistent p differs = absurd p

consistent_if : (t : DecisionTable) (xs ys : List Statement) (q : Question) (c : Conclusion) → IsSublist xs ys → Answers t ys q c → c ≢ Contradiction → IsConsistent t xs
consistent_if t xs ys q Yes sub answers other = consistent-sublist t xs ys sub answers.0
consistent_if t xs ys q No sub answers other = consistent-sublist t xs ys sub answers.0
consistent_if t xs ys q Contradiction sub answers other = absurd (other refl)

pub against_each : AgainstEachStatementOneFunction
against_each t list q c x k n other lawful asked p number there =
    let over = stated (without n x.numbers) list in
    let part = stated x.numbers list in
    let beside : IsProvedOther t list q c x.numbers n other = p.others k n other number there in
    let answers = concluded t part q c x.answer.verdict (answer_is_true t part q x.answer (stated_lawful t list x.numbers lawful) asked p.answer) p.concludes in
    let sub = stated-among list (without n x.numbers) x.numbers (without-among n x.numbers) in
    against t over (stated_lawful t list (without n x.numbers) lawful) q asked c other.question other.verdict p.rests (consistent_if t over part q c sub answers) beside.proved.proof beside.differs
