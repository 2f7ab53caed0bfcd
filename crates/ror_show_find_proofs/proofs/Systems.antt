-- The first system of a question, and which multipliers refute it.
use Rattle.std.proofs.Common.{◌≡◌, ◌≤◌, ℕ, zero, suc, ◌+◌, List, [], ◌∷◌, length, map, get_or, Some, sym, subst, arith}
use Rattle.std.specs.Prelude.{slice_get, unwrap_or}
use Rattle.std.specs.Option.{option_map}
use Rattle.std.specs.List.{AllByRecursion, range_with_len}
use Rattle.smallvec.specs.SmallVec.{SmallVec}
use Rattle.ror_statement.specs.declared.comparison.Comparison.{Comparison}
use Rattle.ror_statement.specs.declared.statement.Statement.{Statement}
use Rattle.ror_statement.specs.declared.question.Question.{Question}
use Rattle.ror_statement.specs.declared.question.QuestionKind.{QuestionKind}
use Rattle.ror_statement.specs.declared.question.QuestionKind.TheVariants.{Plain, Any, Every}
use Rattle.ror_statement.specs.declared.question.Conclusion.{Conclusion}
use Rattle.ror_statement.specs.declared.question.Conclusion.TheVariants as conclusions
use Rattle.ror_statement.specs.Questions.{kind_of}
use Rattle.ror_table.specs.Table.{DecisionTable}
use Rattle.ror_value.specs.Over.{IsLawfulIn, IsAskedIn}
use Rattle.ror_system.specs.System.{LinearSystem}
use Rattle.ror_system.specs.Acceptance.{AreAcceptedMultipliers}
use Rattle.ror_system.specs.declared.accept.Multipliers.{Multipliers}
use Rattle.ror_rows.specs.declared.extra.Extra.{Extra}
use Rattle.ror_rows.specs.Rows.{system_for, extras_of, systems_of_question}
use Rattle.ror_proof.specs.declared.answer.Certificate.{Certificate}
use Rattle.ror_proof.specs.declared.answer.Certificate.TheVariants as certificates
use Rattle.ror_proof.specs.declared.answer.Part.{Part}
use Rattle.ror_proof.specs.declared.answer.Verdict.TheVariants as verdicts
use Rattle.ror_check.specs.Proof.{Shows, ShowsOfItsSystem, AreNumbersFor, base_side, part_side, base_system}
use Rattle.ror_check.specs.Steps.{AreUsable}
use Rattle.ror_check.proofs.Checking.{systems_usable}
use Rattle.ror_show_find_proofs.specs.SumLaws.{RefutationsFit}

-- ---- the first system

first_of : (t : DecisionTable) (vs : List (SmallVec Extra)) (v : SmallVec Extra) → AllByRecursion (AreUsable t) vs → 1 ≤ length vs → v ≡ get_or vs 0 v → AreUsable t v
first_of t [] v all some is = absurd (omega (arith, some))
first_of t (x ∷ vs) v all some is = subst (AreUsable t) (sym is) all.0

pub first_usable : (t : DecisionTable) (list : List Statement) (q : Question) (vs now : List (SmallVec Extra)) (v : SmallVec Extra) → map extras_of vs ≡ systems_of_question list q → now ≡ vs → IsLawfulIn t list → IsAskedIn t q → 1 ≤ length now → v ≡ get_or now 0 v → AreUsable t v
first_usable t list q vs now v systems same lawful asked some is =
    first_of t now v (subst (AllByRecursion (AreUsable t)) (sym same) (systems_usable t list vs q systems lawful asked)) some is

-- ---- what refutes it

first_system : (t : DecisionTable) (list : List Statement) (css : List (List Comparison)) (s : LinearSystem) → slice_get (map (system_for t list) css) 0 ≡ Some s → system_for t list (unwrap_or (slice_get css 0) []) ≡ s
first_system t list [] s there = absurd cc
first_system t list (cs ∷ css) s there = cc

-- a certificate with multipliers shows that there is no solution
module _ (t : DecisionTable) (list : List Statement) (css : List (List Comparison)) (m : Multipliers) where
  abbrev Fits : Type 0
  Fits = AreAcceptedMultipliers (system_for t list (unwrap_or (slice_get css 0) [])) m.weak m.strict

  in_first : (p : Part) (system : LinearSystem) (before : ℕ) → p.at ≡ before + 1 → p.at ≡ 1 → slice_get (map (system_for t list) css) before ≡ Some system → AreAcceptedMultipliers system m.weak m.strict → Fits
  in_first p system before counted one there accepted =
      let none : before ≡ 0 = omega (arith, counted, one) in
      let first = subst (λ k. slice_get (map (system_for t list) css) k ≡ Some system) none there in
      subst (λ (s : LinearSystem). AreAcceptedMultipliers s m.weak m.strict) (sym (first_system t list css system first)) accepted

  first_number : (numbers : List ℕ) (n count : ℕ) → n ∷ numbers ≡ range_with_len 1 count → n ≡ 1
  first_number numbers n zero is = absurd cc
  first_number numbers n (suc count) is = cc

  by_part : (k : QuestionKind) (c : Conclusion) (p : Part) (numbers : List ℕ) (count : ℕ) → AreNumbersFor k c count (p.at ∷ numbers)
      → (system : LinearSystem) (before : ℕ) → p.at ≡ before + 1 → slice_get (map (system_for t list) css) before ≡ Some system → Shows (part_side k c) system (certificates.Multipliers m) → Fits
  by_part k conclusions.Contradiction p numbers count numbered system before counted there shown = absurd cc
  by_part Plain conclusions.Yes p numbers count numbered system before counted there shown = absurd cc
  by_part Plain conclusions.No p numbers count numbered system before counted there shown = absurd cc
  by_part Any conclusions.Yes p numbers count numbered system before counted there shown = absurd shown
  by_part Any conclusions.No p numbers count numbered system before counted there shown = in_first p system before counted (first_number numbers p.at count numbered) there shown
  by_part Every conclusions.Yes p numbers count numbered system before counted there shown = in_first p system before counted (first_number numbers p.at count numbered) there shown
  by_part Every conclusions.No p numbers count numbered system before counted there shown = absurd shown

  by_parts : (k : QuestionKind) (c : Conclusion) (parts : List Part) (count : ℕ) → AreNumbersFor k c count (map (λ p. p.at) parts)
      → AllByRecursion (ShowsOfItsSystem (part_side k c) (map (system_for t list) css)) parts → option_map (λ (p : Part). p.body) (slice_get parts 0) ≡ Some (certificates.Multipliers m) → Fits
  by_parts k c [] count numbered shown is = absurd cc
  by_parts k c (p ∷ parts) count numbered shown is =
      let body : p.body ≡ certificates.Multipliers m = cc in
      let h = shown.0 in
      by_part k c p (map (λ p. p.at) parts) count numbered h.system h.before h.counted h.there
      (subst (Shows (part_side k c) h.system) body h.shown)

shows_base : (s : LinearSystem) (c : Certificate) (m : Multipliers) → c ≡ certificates.Multipliers m → Shows (base_side conclusions.Contradiction) s c → AreAcceptedMultipliers s m.weak m.strict
shows_base s c m is shown = subst (Shows (base_side conclusions.Contradiction) s) is shown

pub refutations_fit : RefutationsFit
refutations_fit t list q (verdicts.Contradiction proof) m proved is = let base : proof.base ≡ certificates.Multipliers m = cc in shows_base (base_system t list) proof.base m base proved.base
refutations_fit t list q (verdicts.Yes proof) m proved is = by_parts t list (systems_of_question list q) m (kind_of q) conclusions.Yes proof.parts (length (systems_of_question list q)) proved.numbered proved.parts is
refutations_fit t list q (verdicts.No proof) m proved is = by_parts t list (systems_of_question list q) m (kind_of q) conclusions.No proof.parts (length (systems_of_question list q)) proved.numbered proved.parts is
refutations_fit t list q (verdicts.Wide system note) m proved is = absurd proved
