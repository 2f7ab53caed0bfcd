-- What the accepted certificates of an answer prove, and that a refused answer is not proved.
use Rattle.std.proofs.Common.{◌≡◌, ℕ, zero, suc, ◌+◌, ◌-◌, ◌<◌, ◌≤◌, Bool, true, false, ◌&&◌, List, [], ◌∷◌, length, map, get_or, Some, refl, sym, ap, ap₂, subst, ◌∙◌, arith, inl, inr}
use Rattle.std.proofs.lemmas.Bool.{cases_lt}
use Rattle.std.specs.Prelude.{slice_get, ◌↔◌}
use Rattle.std.specs.List.{AllByRecursion, list_all, range_with_len}
use Rattle.std.proofs.lemmas.Option.{slice_get_within}
use Rattle.std.proofs.lemmas.List.FromFn.{length-range_with_len}
use Rattle.smallvec.specs.SmallVec.{SmallVec}
use Rattle.ror_text.proofs.Everywhere.{all-map, all_at}
use Rattle.ror_statement.specs.declared.comparison.Comparison.{Comparison}
use Rattle.ror_statement.specs.declared.statement.Statement.{Statement}
use Rattle.ror_statement.specs.declared.question.QuestionKind.{QuestionKind}
use Rattle.ror_statement.specs.declared.question.QuestionKind.TheVariants.{Plain, Any, Every}
use Rattle.ror_statement.specs.declared.question.Question.{Question}
use Rattle.ror_statement.specs.declared.question.Conclusion.{Conclusion}
use Rattle.ror_statement.specs.declared.question.Conclusion.TheVariants as conclusions
use Rattle.ror_statement.specs.Questions.{kind_of, property_of}
use Rattle.ror_statement.specs.declared.row_number.TheConstants.{MOST_STATEMENTS}
use Rattle.ror_table.specs.Table.{DecisionTable}
use Rattle.ror_value.specs.Over.{IsNamedIn, IsLawfulIn, IsAskedIn}
use Rattle.ror_value.specs.Meaning.{Answers, IsConsistent, HoldsOfCompatible}
use Rattle.ror_system.specs.System.{LinearSystem, IsSolvable}
use Rattle.ror_system.proofs.Motzkin.{not_both}
use Rattle.ror_system.proofs.SolutionTests as solutions
use Rattle.ror_system.proofs.MultiplierTests as multipliers
use Rattle.ror_system.specs.declared.reject.Reject.{Reject}
use Rattle.ror_rows.specs.declared.extra.Extra.{Extra}
use Rattle.ror_rows.specs.Rows.{system_for, extended_by, comparison_of_extra, negation_of, conditions_of, systems_by, systems_of_question, extras_of}
use Rattle.ror_rows.proofs.Building.{turned-named}
use Rattle.ror_rows.proofs.Extending.{extended_is}
use Rattle.ror_rows.proofs.Deciding.{base_solvable_is_consistent, conditions_named, conditions_few, systems_decide_every, any_decides}
use Rattle.ror_proof.specs.declared.answer.Certificate.{Certificate}
use Rattle.ror_proof.specs.declared.answer.Certificate.TheVariants as certificates
use Rattle.ror_proof.specs.declared.answer.Part.{Part}
use Rattle.ror_proof.specs.declared.answer.Proof.{Proof}
use Rattle.ror_proof.specs.declared.answer.Verdict.{Verdict}
use Rattle.ror_proof.specs.declared.answer.Verdict.TheVariants as verdicts
use Rattle.ror_proof.specs.declared.answer.Answer.{Answer}
use Rattle.ror_check.specs.declared.side.Side.{Side}
use Rattle.ror_check.specs.declared.side.Side.TheVariants.{Solvable, NotSolvable}
use Rattle.ror_check.specs.Proof.{OfProof, Shows, ShowsOfItsSystem, Proves, IsProvedAnswer, IsTrueVerdict, AreNumbersFor, may_conclude, base_side, part_side, base_system, question_systems_of}
use Rattle.ror_check.specs.Faults.{is_side, have_kind, has_kinds, IsRejectedFor}
use Rattle.ror_check.specs.declared.fault.CheckFault.TheVariants as faults
use Rattle.ror_check.specs.Steps.{IsAcceptedFor, AreUsable, systems_with, AreShownBefore, NameSystems, RefusesParts}

-- ---- the systems

-- few extra rows, each of names of the table
abbrev pub AreFewNamed : DecisionTable → List Comparison → Type 0
AreFewNamed t cs = (length cs ≤ MOST_STATEMENTS) × AllByRecursion (λ c. IsNamedIn t c.form) cs

pub length-map' : {X Y : Type 0} (f : X → Y) (xs : List X) → length (map f xs) ≡ length xs
length-map' f [] = refl
length-map' f (x ∷ xs) = ap suc (length-map' f xs)

usable_one : (t : DecisionTable) (v : SmallVec Extra) → AreFewNamed t (extras_of v) → AreUsable t v
usable_one t v h = let e = length-map' comparison_of_extra v.items in let few = h.0 in (omega (arith, e, few), (all-map (λ c. IsNamedIn t c.form) comparison_of_extra v.items).1 h.1)

usable_all : (t : DecisionTable) (vs : List (SmallVec Extra)) → AllByRecursion (AreFewNamed t) (map extras_of vs) → AllByRecursion (AreUsable t) vs
usable_all t [] h = tt
usable_all t (v ∷ vs) h = (usable_one t v h.0, usable_all t vs h.1)

negations_named : (t : DecisionTable) (es : List Extra) → AllByRecursion (λ e. IsNamedIn t e.form) es → AllByRecursion (AreFewNamed t) (map (map comparison_of_extra) (map (λ e. negation_of e ∷ []) es))
negations_named t [] named = tt
negations_named t (e ∷ es) named = ((omega arith, (turned-named t e.form named.0, tt)), negations_named t es named.1)

few_named_for : (t : DecisionTable) (k : QuestionKind) (es : List Extra) → length es ≤ MOST_STATEMENTS → AllByRecursion (λ e. IsNamedIn t e.form) es → AllByRecursion (AreFewNamed t) (map (map comparison_of_extra) (systems_by k es))
few_named_for t Plain es few named = tt
few_named_for t Any es few named = let e = length-map' comparison_of_extra es in ((omega (arith, e, few), (all-map (λ c. IsNamedIn t c.form) comparison_of_extra es).0 named), tt)
few_named_for t Every es few named = negations_named t es named

pub named_systems : (t : DecisionTable) (list : List Statement) (q : Question) → IsLawfulIn t list → IsAskedIn t q → AllByRecursion (AreFewNamed t) (systems_of_question list q)
named_systems t list q lawful asked = few_named_for t (kind_of q) (conditions_of list (property_of q)) (conditions_few t list (property_of q) lawful) (conditions_named t list (property_of q) lawful asked)

pub systems_usable : (t : DecisionTable) (list : List Statement) (vs : List (SmallVec Extra)) (q : Question) → map extras_of vs ≡ systems_of_question list q → IsLawfulIn t list → IsAskedIn t q → AllByRecursion (AreUsable t) vs
systems_usable t list vs q e lawful asked = usable_all t vs (rw e (named_systems t list q lawful asked))

-- the systems that are checked are those of the question
systems_with-map : (t : DecisionTable) (list : List Statement) (s : LinearSystem) (vs : List (SmallVec Extra)) → s ≡ base_system t list → systems_with t s vs ≡ map (system_for t list) (map extras_of vs)
systems_with-map t list s [] is = refl
systems_with-map t list s (v ∷ vs) is = ap₂ (λ (first : LinearSystem) (rest : List LinearSystem). first ∷ rest) (extended_is t list (extras_of v) s (extended_by t s (extras_of v)) is refl) (systems_with-map t list s vs is)

pub systems_with-are : (t : DecisionTable) (list : List Statement) (s : LinearSystem) (vs : List (SmallVec Extra)) (q : Question) → s ≡ base_system t list → map extras_of vs ≡ systems_of_question list q → systems_with t s vs ≡ question_systems_of t list q
systems_with-are t list s vs q is e = systems_with-map t list s vs is ∙ ap (map (system_for t list)) e

-- ---- certificates

pub shows_solvable : (s : LinearSystem) (c : Certificate) → Shows Solvable s c → IsSolvable s
shows_solvable s (certificates.Solution x) h = (x.steps, h.solves)
shows_solvable s (certificates.Multipliers m) h = absurd h

pub shows_not_solvable : (s : LinearSystem) (c : Certificate) → Shows NotSolvable s c → IsSolvable s → ⊥
shows_not_solvable s (certificates.Solution x) h can = absurd h
shows_not_solvable s (certificates.Multipliers m) h can = not_both s m.weak m.strict h.refute can

pub rejected_not_shown : (side : Side) (s : LinearSystem) (c : Certificate) (r : Reject) → IsRejectedFor s c r → Shows side s c → ⊥
rejected_not_shown Solvable s (certificates.Solution x) r first shown = solutions.not_accepted s x.steps r first shown
rejected_not_shown Solvable s (certificates.Multipliers m) r first shown = absurd shown
rejected_not_shown NotSolvable s (certificates.Solution x) r first shown = absurd shown
rejected_not_shown NotSolvable s (certificates.Multipliers m) r first shown = multipliers.not_accepted s m.weak m.strict r first shown

-- what shows a side is of its kind
pub shown_kind : (side : Side) (s : LinearSystem) (c : Certificate) → Shows side s c → is_side side c ≡ true
shown_kind Solvable s (certificates.Solution x) h = refl
shown_kind Solvable s (certificates.Multipliers m) h = absurd h
shown_kind NotSolvable s (certificates.Solution x) h = absurd h
shown_kind NotSolvable s (certificates.Multipliers m) h = refl

-- each certificate is of some kind
pub some_kind : (c : Certificate) → (side : Side) × (is_side side c ≡ true)
some_kind (certificates.Solution x) = (Solvable, refl)
some_kind (certificates.Multipliers m) = (NotSolvable, refl)

-- ---- parts

-- the side that its kind can show is the one that an accepted certificate shows
pub accepted_shows : (s : LinearSystem) (c : Certificate) → IsAcceptedFor s c → (side : Side) → is_side side c ≡ true → Shows side s c
accepted_shows s (certificates.Solution x) h Solvable is = h
accepted_shows s (certificates.Solution x) h NotSolvable is = absurd (let no : false ≡ true = is in cc)
accepted_shows s (certificates.Multipliers m) h Solvable is = absurd (let no : false ≡ true = is in cc)
accepted_shows s (certificates.Multipliers m) h NotSolvable is = h

pub some_same : {X : Type 0} {x y : X} → Some x ≡ Some y → x ≡ y
some_same e = cc

pub slice_get-at : {X : Type 0} (xs : List X) (i : ℕ) (x : X) → i < length xs → x ≡ get_or xs i x → slice_get xs i ≡ Some x
slice_get-at [] i x lt e = absurd (omega arith)
slice_get-at (y ∷ ys) zero x lt e = ap Some (sym e)
slice_get-at (y ∷ ys) (suc i) x lt e = slice_get-at ys i x (omega arith) e

slice_get-systems : (t : DecisionTable) (base : LinearSystem) (vs : List (SmallVec Extra)) (i : ℕ) (v : SmallVec Extra) → slice_get vs i ≡ Some v → slice_get (systems_with t base vs) i ≡ Some (extended_by t base (extras_of v))
slice_get-systems t base [] i v e = absurd cc
slice_get-systems t base (w ∷ vs) zero v e = ap (λ (z : SmallVec Extra). Some (extended_by t base (extras_of z))) (some_same e)
slice_get-systems t base (w ∷ vs) (suc i) v e = slice_get-systems t base vs i v e

-- the system that a part names is the one at the place before its number
pub system_here : (t : DecisionTable) (base : LinearSystem) (vs : List (SmallVec Extra)) (i : ℕ) (v : SmallVec Extra) (s : LinearSystem) → i < length vs → v ≡ get_or vs i v → s ≡ extended_by t base (extras_of v) → slice_get (systems_with t base vs) i ≡ Some s
system_here t base vs i v s within v-is s-is = rw s-is (slice_get-systems t base vs i v (slice_get-at vs i v within v-is))

-- one more part is shown
pub shown_more : (systems : List LinearSystem) (parts : List Part) (i k : ℕ) (p : Part) (s : LinearSystem) → AreShownBefore systems parts i → i < length parts → p ≡ get_or parts i p → p.at ≡ k + 1 → slice_get systems k ≡ Some s
    → ((side : Side) → is_side side p.body ≡ true → Shows side s p.body) → AreShownBefore systems parts (i + 1)
shown_more systems parts i k p s before within p-is counted there shown j p' side lt part kind =
    elim (cases_lt j i) [
      | inl less ↦ before j p' side less part kind
      | inr le ↦
          let j-is : j ≡ i = omega arith in
          let part_here : slice_get parts j ≡ Some p = rw j-is (slice_get-at parts i p within p-is) in
          let p-same : p ≡ p' = some_same (sym part_here ∙ part) in
          subst (λ (z : Part). is_side side z.body ≡ true → ShowsOfItsSystem side systems z) p-same (λ own. record { system = s; before = k; counted = counted; there = there; shown = shown side own }) kind
    ]

-- so it is where the part is accepted for the system that it names
pub shown_here : (t : DecisionTable) (base : LinearSystem) (vs : List (SmallVec Extra)) (parts : List Part) (i : ℕ) (p : Part) (v : SmallVec Extra) (s : LinearSystem) → AreShownBefore (systems_with t base vs) parts i → i < length parts → p ≡ get_or parts i p → NameSystems (length vs) parts → v ≡ get_or vs (p.at - 1) v → s ≡ extended_by t base (extras_of v)
    → IsAcceptedFor s p.body → AreShownBefore (systems_with t base vs) parts (i + 1)
shown_here t base vs parts i p v s before within p-is names v-is s-is accepted =
    let named = all_at (λ (p : Part). (1 ≤ p.at) × (p.at ≤ length vs)) parts i p names (slice_get-at parts i p within p-is) in
    let from = named.0 in
    let to = named.1 in
    shown_more (systems_with t base vs) parts i (p.at - 1) p s before within p-is (omega arith) (system_here t base vs (p.at - 1) v s (omega arith) v-is s-is) (accepted_shows s p.body accepted)

-- and where it is not accepted the parts are refused by it
pub refused_here : (t : DecisionTable) (base : LinearSystem) (vs : List (SmallVec Extra)) (parts : List Part) (i : ℕ) (p : Part) (v : SmallVec Extra) (s : LinearSystem) (r : Reject) → AreShownBefore (systems_with t base vs) parts i → i < length parts → p ≡ get_or parts i p → NameSystems (length vs) parts → v ≡ get_or vs (p.at - 1) v → s ≡ extended_by t base (extras_of v)
    → IsRejectedFor s p.body r → RefusesParts (systems_with t base vs) parts (faults.Part (i + 1) r)
refused_here t base vs parts i p v s r before within p-is names v-is s-is rejected =
    let here = slice_get-at parts i p within p-is in
    let named = all_at (λ (p : Part). (1 ≤ p.at) × (p.at ≤ length vs)) parts i p names here in
    let from = named.0 in
    let to = named.1 in (
      record {
        part = p;
        before = i;
        counted = refl;
        part_there = here;
        system = s;
        systems_before = p.at - 1;
        numbered = omega arith;
        system_there = system_here t base vs (p.at - 1) v s (omega arith) v-is s-is;
        rejected = rejected;
      },
      λ n counted. subst (AreShownBefore (systems_with t base vs) parts) (omega (arith, counted)) before,
    )

-- the extra rows of the system that a part names may be used
pub usable_here : (t : DecisionTable) (vs : List (SmallVec Extra)) (parts : List Part) (i : ℕ) (p : Part) (v : SmallVec Extra) → AllByRecursion (AreUsable t) vs → i < length parts → p ≡ get_or parts i p → NameSystems (length vs) parts → v ≡ get_or vs (p.at - 1) v → AreUsable t v
usable_here t vs parts i p v usable within p-is names v-is =
    let named = all_at (λ (p : Part). (1 ≤ p.at) × (p.at ≤ length vs)) parts i p names (slice_get-at parts i p within p-is) in
    let from = named.0 in
    let to = named.1 in
    all_at (AreUsable t) vs (p.at - 1) v usable (slice_get-at vs (p.at - 1) v (omega arith) v-is)

pub both_true : (a b : Bool) → (a && b) ≡ true → (a ≡ true) × (b ≡ true)
both_true true b e = (refl, e)
both_true false b e = absurd cc

-- parts of one kind that are shown each show the side of that kind
pub all_shown : (side : Side) (systems : List LinearSystem) (parts : List Part) → list_all (λ p. is_side side p.body) parts ≡ true → AreShownBefore systems parts (length parts) → AllByRecursion (ShowsOfItsSystem side systems) parts
all_shown side systems [] kinds h = tt
all_shown side systems (p ∷ parts) kinds h =
    let k = both_true (is_side side p.body) (list_all (λ p. is_side side p.body) parts) kinds in
    (h 0 p side (omega arith) refl k.0, all_shown side systems parts k.1 (λ j p' side' lt there. h (suc j) p' side' (omega arith) there))

-- ---- numbers of parts

pub length-numbered : (count : ℕ) (parts : List Part) → map (λ p. p.at) parts ≡ range_with_len 1 count → length parts ≡ count
length-numbered count parts e = sym (length-map' (λ (p : Part). p.at) parts) ∙ ap length e ∙ length-range_with_len 1 count

few_by : (k : QuestionKind) (es : List Extra) → length es ≤ MOST_STATEMENTS → length (systems_by k es) ≤ MOST_STATEMENTS
few_by Plain es few = omega arith
few_by Any es few = omega arith
few_by Every es few = omega (arith, length-map' (λ (e : Extra). negation_of e ∷ []) es, few)

pub few_of_question : (t : DecisionTable) (list : List Statement) (q : Question) → IsLawfulIn t list → length (systems_of_question list q) ≤ MOST_STATEMENTS
few_of_question t list q lawful =
    let es = conditions_of list (property_of q) in
    let few = few_by (kind_of q) es (conditions_few t list (property_of q) lawful) in
    omega (arith, length-map' (map comparison_of_extra) (systems_by (kind_of q) es), few)

pub few_systems : (t : DecisionTable) (list : List Statement) (vs : List (SmallVec Extra)) (q : Question) → map extras_of vs ≡ systems_of_question list q → IsLawfulIn t list → length vs ≤ MOST_STATEMENTS
few_systems t list vs q e lawful = let few = few_of_question t list q lawful in omega (arith, length-map' extras_of vs, ap length e, few)

pub as_many : (list : List Statement) (vs : List (SmallVec Extra)) (q : Question) → map extras_of vs ≡ systems_of_question list q → length vs ≡ length (systems_of_question list q)
as_many list vs q e = sym (length-map' extras_of vs) ∙ ap length e

ranged : (a n count : ℕ) (parts : List Part) → 1 ≤ a → a + n ≤ count + 1 → map (λ p. p.at) parts ≡ range_with_len a n → NameSystems count parts
ranged a n count [] from to e = tt
ranged a zero count (p ∷ parts) from to e = absurd cc
ranged a (suc n) count (p ∷ parts) from to e =
    let first : p.at ≡ a = cc in
    let others : map (λ p. p.at) parts ≡ range_with_len (a + 1) n = cc in
    ((omega arith, omega arith), ranged (a + 1) n count parts (omega arith) (omega arith) others)

single : (n count : ℕ) (parts : List Part) → 1 ≤ n → n ≤ count → map (λ p. p.at) parts ≡ n ∷ [] → NameSystems count parts
single n count [] from to e = absurd cc
single n count (p ∷ []) from to e = let first : p.at ≡ n = cc in ((omega arith, omega arith), tt)
single n count (p ∷ p' ∷ parts) from to e = absurd cc

none : (count : ℕ) (parts : List Part) → map (λ p. p.at) parts ≡ [] → NameSystems count parts
none count [] e = tt
none count (p ∷ parts) e = absurd cc

-- one part has the one number
pub one_number : (count : ℕ) (parts : List Part) (p : Part) → length parts ≡ 1 → p ≡ get_or parts 0 p → 1 ≤ p.at → (p.at ≤ count) ↔ ((n : ℕ) × (1 ≤ n) × (n ≤ count) × (map (λ p. p.at) parts ≡ n ∷ []))
one_number count [] p long p-is from = absurd (omega arith)
one_number count (y ∷ []) p long p-is from = (λ to. (p.at, from, to, ap (λ (z : Part). z.at ∷ []) (sym p-is)), λ h. let e : y.at ≡ h.0 = (let m = h.3 in cc) in let f : p.at ≡ y.at = ap (λ (z : Part). z.at) p-is in let le = h.2 in omega arith)
one_number count (y ∷ z ∷ parts) p long p-is from = absurd (omega arith)

-- parts that are numbered as the conclusion wants name systems of the question
pub numbers_name : (k : QuestionKind) (c : Conclusion) (count : ℕ) (parts : List Part) → AreNumbersFor k c count (map (λ p. p.at) parts) → NameSystems count parts
numbers_name Plain conclusions.Yes count parts h = none count parts h
numbers_name Plain conclusions.No count parts h = none count parts h
numbers_name Plain conclusions.Contradiction count parts h = none count parts h
numbers_name Any conclusions.Yes count parts h = ranged 1 count count parts (omega arith) (omega arith) h
numbers_name Any conclusions.No count parts h = ranged 1 count count parts (omega arith) (omega arith) h
numbers_name Any conclusions.Contradiction count parts h = none count parts h
numbers_name Every conclusions.Yes count parts h = ranged 1 count count parts (omega arith) (omega arith) h
numbers_name Every conclusions.No count parts h = single h.0 count parts h.1 h.2 h.3
numbers_name Every conclusions.Contradiction count parts h = none count parts h

-- there are at most as many as systems
numbers_few : (k : QuestionKind) (c : Conclusion) (count : ℕ) (numbers : List ℕ) → AreNumbersFor k c count numbers → length numbers ≤ count
numbers_few Plain conclusions.Yes count numbers h = let e = ap length h in omega (arith, e)
numbers_few Plain conclusions.No count numbers h = let e = ap length h in omega (arith, e)
numbers_few Plain conclusions.Contradiction count numbers h = let e = ap length h in omega (arith, e)
numbers_few Any conclusions.Yes count numbers h = let e = ap length h in omega (arith, e, length-range_with_len 1 count)
numbers_few Any conclusions.No count numbers h = let e = ap length h in omega (arith, e, length-range_with_len 1 count)
numbers_few Any conclusions.Contradiction count numbers h = let e = ap length h in omega (arith, e)
numbers_few Every conclusions.Yes count numbers h = let e = ap length h in omega (arith, e, length-range_with_len 1 count)
numbers_few Every conclusions.No count numbers h = let e = ap length h.3 in omega (arith, e, h.1, h.2)
numbers_few Every conclusions.Contradiction count numbers h = let e = ap length h in omega (arith, e)

pub parts_few : (k : QuestionKind) (c : Conclusion) (count : ℕ) (parts : List Part) → AreNumbersFor k c count (map (λ p. p.at) parts) → length parts ≤ count
parts_few k c count parts h = omega (arith, length-map' (λ (p : Part). p.at) parts, numbers_few k c count (map (λ p. p.at) parts) h)

no_kinds : (side : Side) (parts : List Part) → map (λ p. p.at) parts ≡ [] → list_all (λ p. is_side side p.body) parts ≡ true
no_kinds side [] e = refl
no_kinds side (p ∷ parts) e = absurd cc

-- and are of the kind that it wants
pub kinds_of_parts : (k : QuestionKind) (c : Conclusion) (count : ℕ) (parts : List Part) → AreNumbersFor k c count (map (λ p. p.at) parts) → have_kind k c parts ≡ true → list_all (λ p. is_side (part_side k c) p.body) parts ≡ true
kinds_of_parts Plain conclusions.Yes count parts numbers kinds = no_kinds (part_side Plain conclusions.Yes) parts numbers
kinds_of_parts Plain conclusions.No count parts numbers kinds = no_kinds (part_side Plain conclusions.No) parts numbers
kinds_of_parts Plain conclusions.Contradiction count parts numbers kinds = no_kinds (part_side Plain conclusions.Contradiction) parts numbers
kinds_of_parts Any conclusions.Yes count parts numbers kinds = kinds
kinds_of_parts Any conclusions.No count parts numbers kinds = kinds
kinds_of_parts Any conclusions.Contradiction count parts numbers kinds = no_kinds (part_side Any conclusions.Contradiction) parts numbers
kinds_of_parts Every conclusions.Yes count parts numbers kinds = kinds
kinds_of_parts Every conclusions.No count parts numbers kinds = kinds
kinds_of_parts Every conclusions.Contradiction count parts numbers kinds = no_kinds (part_side Every conclusions.Contradiction) parts numbers

-- ---- a whole proof

pub three_true : (a b d : Bool) → (a && b && d) ≡ true → (a ≡ true) × (b ≡ true) × (d ≡ true)
three_true true true d e = (refl, refl, e)
three_true true false d e = absurd cc
three_true false true d e = absurd cc
three_true false false d e = absurd cc

pub proves : (t : DecisionTable) (list : List Statement) (q : Question) (c : Conclusion) (proof : Proof) (s : LinearSystem) (vs : List (SmallVec Extra)) → s ≡ base_system t list → map extras_of vs ≡ systems_of_question list q
    → has_kinds q c proof ≡ true → AreNumbersFor (kind_of q) c (length vs) (map (λ p. p.at) proof.parts) → ((side : Side) → is_side side proof.base ≡ true → Shows side (base_system t list) proof.base)
    → AreShownBefore (systems_with t s vs) proof.parts (length proof.parts) → Proves t list q c proof
proves t list q c proof s vs is e kinds numbered base shown =
    let k = three_true (may_conclude (kind_of q) c) (is_side (base_side c) proof.base) (have_kind (kind_of q) c proof.parts) kinds in
    let same = systems_with-are t list s vs q is e in
    let sides = kinds_of_parts (kind_of q) c (length vs) proof.parts numbered k.2 in
    record {
      listed = k.0;
      base = base (base_side c) k.1;
      numbered = subst (λ (n : ℕ). AreNumbersFor (kind_of q) c n (map (λ p. p.at) proof.parts)) (as_many list vs q e) numbered;
      parts = subst (λ (systems : List LinearSystem). AllByRecursion (ShowsOfItsSystem (part_side (kind_of q) c) systems) proof.parts) same (all_shown (part_side (kind_of q) c) (systems_with t s vs) proof.parts sides shown);
    }

-- ---- truth

-- what is so of the system at each place is so of each
all_from_places : (t : DecisionTable) (list : List Statement) (extras : List (List Comparison)) → ((i : ℕ) (s : LinearSystem) → slice_get (map (system_for t list) extras) i ≡ Some s → IsSolvable s → ⊥) → AllByRecursion (λ extra. IsSolvable (system_for t list extra) → ⊥) extras
all_from_places t list [] h = tt
all_from_places t list (extra ∷ extras) h = (h 0 (system_for t list extra) refl, all_from_places t list extras (λ i s there. h (suc i) s there))

-- the part with a number is there, where the numbers go on from one
part_with : (P : Part → Type 0) (a n i : ℕ) (parts : List Part) → map (λ p. p.at) parts ≡ range_with_len a n → AllByRecursion P parts → i < n → (p : Part) × (p.at ≡ a + i) × P p
part_with P a n i [] e h lt = absurd (let l = ap length e in omega (arith, length-range_with_len a n))
part_with P a zero i (p ∷ parts) e h lt = absurd (omega arith)
part_with P a (suc n) zero (p ∷ parts) e h lt = let first : p.at ≡ a = cc in (p, omega arith, h.0)
part_with P a (suc n) (suc i) (p ∷ parts) e h lt =
    let others : map (λ p. p.at) parts ≡ range_with_len (a + 1) n = cc in
    let x = part_with P (a + 1) n i parts others h.1 (omega arith) in
    let at = x.1 in
    (x.0, omega arith, x.2)

-- a part that shows its system not solvable shows it of the system at the place before its number
not_solvable_at : (systems : List LinearSystem) (p : Part) (i : ℕ) (s : LinearSystem) → ShowsOfItsSystem NotSolvable systems p → p.at ≡ 1 + i → slice_get systems i ≡ Some s → IsSolvable s → ⊥
not_solvable_at systems p i s shown at there can =
    let c = shown.counted in
    let same : shown.before ≡ i = omega arith in
    let s-same : shown.system ≡ s = some_same (sym shown.there ∙ rw same there) in
    shows_not_solvable shown.system p.body shown.shown (subst IsSolvable (sym s-same) can)

every_yes : (t : DecisionTable) (list : List Statement) (q : Question) (proof : Proof) → kind_of q ≡ Every → IsLawfulIn t list → IsAskedIn t q → IsConsistent t list → Proves t list q conclusions.Yes proof → Answers t list q conclusions.Yes
every_yes t list q proof k-is lawful asked consistent p =
    let systems = question_systems_of t list q in
    let count = length (systems_of_question list q) in
    let numbered : map (λ p. p.at) proof.parts ≡ range_with_len 1 count = subst (λ (k : QuestionKind). AreNumbersFor k conclusions.Yes count (map (λ p. p.at) proof.parts)) k-is p.numbered in
    let parts : AllByRecursion (ShowsOfItsSystem NotSolvable systems) proof.parts = subst (λ (k : QuestionKind). AllByRecursion (ShowsOfItsSystem (part_side k conclusions.Yes) systems) proof.parts) k-is p.parts in
    let each : (i : ℕ) (s : LinearSystem) → slice_get systems i ≡ Some s → IsSolvable s → ⊥ = λ i s there can.
    let within : i < length systems = slice_get_within systems i s there in
    let x = part_with (ShowsOfItsSystem NotSolvable systems) 1 count i proof.parts numbered parts (omega (arith, within, length-map' (system_for t list) (systems_of_question list q))) in
    not_solvable_at systems x.0 i s x.2 x.1 there can in
    (systems_decide_every t list q lawful consistent asked k-is).1 (all_from_places t list (systems_of_question list q) each)

-- a system of the question that is solvable is not one of which none is
some_solvable : (t : DecisionTable) (list : List Statement) (extras : List (List Comparison)) (i : ℕ) (s : LinearSystem) → slice_get (map (system_for t list) extras) i ≡ Some s → IsSolvable s → AllByRecursion (λ extra. IsSolvable (system_for t list extra) → ⊥) extras → ⊥
some_solvable t list [] i s there can none = absurd cc
some_solvable t list (extra ∷ extras) zero s there can none = none.0 (subst IsSolvable (sym (some_same there)) can)
some_solvable t list (extra ∷ extras) (suc i) s there can none = some_solvable t list extras i s there can none.1

one_part : (parts : List Part) (P : Part → Type 0) (n : ℕ) → map (λ p. p.at) parts ≡ n ∷ [] → AllByRecursion P parts → (p : Part) × P p
one_part [] P n e h = absurd cc
one_part (p ∷ parts) P n e h = (p, h.0)

every_no : (t : DecisionTable) (list : List Statement) (q : Question) (proof : Proof) → kind_of q ≡ Every → IsLawfulIn t list → IsAskedIn t q → IsConsistent t list → Proves t list q conclusions.No proof → HoldsOfCompatible t list (kind_of q) (property_of q) → ⊥
every_no t list q proof k-is lawful asked consistent p holds =
    let systems = question_systems_of t list q in
    let count = length (systems_of_question list q) in
    let numbered : (n : ℕ) × (1 ≤ n) × (n ≤ count) × (map (λ p. p.at) proof.parts ≡ n ∷ []) = subst (λ (k : QuestionKind). AreNumbersFor k conclusions.No count (map (λ p. p.at) proof.parts)) k-is p.numbered in
    let parts : AllByRecursion (ShowsOfItsSystem Solvable systems) proof.parts = subst (λ (k : QuestionKind). AllByRecursion (ShowsOfItsSystem (part_side k conclusions.No) systems) proof.parts) k-is p.parts in
    let shown = one_part proof.parts (ShowsOfItsSystem Solvable systems) numbered.0 numbered.3 parts in
    some_solvable t list (systems_of_question list q) shown.1.before shown.1.system shown.1.there (shows_solvable shown.1.system shown.0.body shown.1.shown) ((systems_decide_every t list q lawful consistent asked k-is).0 (consistent, holds))

-- the one system of a question on some compatible function
any_system : (t : DecisionTable) (list : List Statement) (q : Question) → kind_of q ≡ Any → question_systems_of t list q ≡ system_for t list (map comparison_of_extra (conditions_of list (property_of q))) ∷ []
any_system t list q k-is = rw k-is refl

first_of_one : (one s : LinearSystem) (i : ℕ) → slice_get (one ∷ []) i ≡ Some s → one ≡ s
first_of_one one s zero there = some_same there
first_of_one one s (suc i) there = absurd cc

any_part : (t : DecisionTable) (list : List Statement) (q : Question) (side : Side) (parts : List Part) (count : ℕ) → kind_of q ≡ Any → count ≡ length (systems_of_question list q) → map (λ p. p.at) parts ≡ range_with_len 1 count → AllByRecursion (ShowsOfItsSystem side (question_systems_of t list q)) parts
    → (p : Part) × Shows side (system_for t list (map comparison_of_extra (conditions_of list (property_of q)))) p.body
any_part t list q side parts count k-is counted numbered shown =
    let one : length (systems_of_question list q) ≡ 1 = rw k-is refl in
    let x = part_with (ShowsOfItsSystem side (question_systems_of t list q)) 1 count 0 parts numbered shown (omega (arith, counted, one)) in
    let there : slice_get (system_for t list (map comparison_of_extra (conditions_of list (property_of q))) ∷ []) x.2.before ≡ Some x.2.system = subst (λ (systems : List LinearSystem). slice_get systems x.2.before ≡ Some x.2.system) (any_system t list q k-is) x.2.there in
    (x.0, subst (λ (s : LinearSystem). Shows side s x.0.body) (sym (first_of_one (system_for t list (map comparison_of_extra (conditions_of list (property_of q)))) x.2.system x.2.before there)) x.2.shown)

any_yes : (t : DecisionTable) (list : List Statement) (q : Question) (proof : Proof) → kind_of q ≡ Any → IsLawfulIn t list → IsAskedIn t q → IsConsistent t list → Proves t list q conclusions.Yes proof → Answers t list q conclusions.Yes
any_yes t list q proof k-is lawful asked consistent p =
    let count = length (systems_of_question list q) in
    let numbered : map (λ p. p.at) proof.parts ≡ range_with_len 1 count = subst (λ (k : QuestionKind). AreNumbersFor k conclusions.Yes count (map (λ p. p.at) proof.parts)) k-is p.numbered in
    let parts : AllByRecursion (ShowsOfItsSystem Solvable (question_systems_of t list q)) proof.parts = subst (λ (k : QuestionKind). AllByRecursion (ShowsOfItsSystem (part_side k conclusions.Yes) (question_systems_of t list q)) proof.parts) k-is p.parts in
    let part = any_part t list q Solvable proof.parts count k-is refl numbered parts in
    let holds = (any_decides t list (property_of q) lawful asked).1 (shows_solvable (system_for t list (map comparison_of_extra (conditions_of list (property_of q)))) part.0.body part.1) in
    rw k-is (consistent, holds)

any_no : (t : DecisionTable) (list : List Statement) (q : Question) (proof : Proof) → kind_of q ≡ Any → IsLawfulIn t list → IsAskedIn t q → Proves t list q conclusions.No proof → HoldsOfCompatible t list (kind_of q) (property_of q) → ⊥
any_no t list q proof k-is lawful asked p holds =
    let count = length (systems_of_question list q) in
    let numbered : map (λ p. p.at) proof.parts ≡ range_with_len 1 count = subst (λ (k : QuestionKind). AreNumbersFor k conclusions.No count (map (λ p. p.at) proof.parts)) k-is p.numbered in
    let parts : AllByRecursion (ShowsOfItsSystem NotSolvable (question_systems_of t list q)) proof.parts = subst (λ (k : QuestionKind). AllByRecursion (ShowsOfItsSystem (part_side k conclusions.No) (question_systems_of t list q)) proof.parts) k-is p.parts in
    let part = any_part t list q NotSolvable proof.parts count k-is refl numbered parts in
    shows_not_solvable (system_for t list (map comparison_of_extra (conditions_of list (property_of q)))) part.0.body part.1 ((any_decides t list (property_of q) lawful asked).0 (rw k-is at holds))

plain_yes : (t : DecisionTable) (list : List Statement) (q : Question) → kind_of q ≡ Plain → IsConsistent t list → Answers t list q conclusions.Yes
plain_yes t list q k-is consistent = rw k-is (consistent, consistent)

plain_no : (q : Question) → kind_of q ≡ Plain → may_conclude (kind_of q) conclusions.No ≡ true → ⊥
plain_no q k-is listed = let no : may_conclude Plain conclusions.No ≡ true = rw k-is at listed in cc

consistent_base : (t : DecisionTable) (list : List Statement) (c : Certificate) → IsLawfulIn t list → Shows Solvable (base_system t list) c → IsConsistent t list
consistent_base t list c lawful shown = (base_solvable_is_consistent t list lawful).1 (shows_solvable (base_system t list) c shown)

yes_by : (t : DecisionTable) (list : List Statement) (q : Question) (proof : Proof) (k : QuestionKind) → kind_of q ≡ k → IsLawfulIn t list → IsAskedIn t q → Proves t list q conclusions.Yes proof → Answers t list q conclusions.Yes
yes_by t list q proof Plain is lawful asked p = plain_yes t list q is (consistent_base t list proof.base lawful p.base)
yes_by t list q proof Any is lawful asked p = any_yes t list q proof is lawful asked (consistent_base t list proof.base lawful p.base) p
yes_by t list q proof Every is lawful asked p = every_yes t list q proof is lawful asked (consistent_base t list proof.base lawful p.base) p

no_by : (t : DecisionTable) (list : List Statement) (q : Question) (proof : Proof) (k : QuestionKind) → kind_of q ≡ k → IsLawfulIn t list → IsAskedIn t q → Proves t list q conclusions.No proof → HoldsOfCompatible t list (kind_of q) (property_of q) → ⊥
no_by t list q proof Plain is lawful asked p holds = plain_no q is p.listed
no_by t list q proof Any is lawful asked p holds = any_no t list q proof is lawful asked p holds
no_by t list q proof Every is lawful asked p holds = every_no t list q proof is lawful asked (consistent_base t list proof.base lawful p.base) p holds

pub proof_is_true : (t : DecisionTable) (list : List Statement) (q : Question) (c : Conclusion) (proof : Proof) → IsLawfulIn t list → IsAskedIn t q → Proves t list q c proof → Answers t list q c
proof_is_true t list q conclusions.Yes proof lawful asked p = yes_by t list q proof (kind_of q) refl lawful asked p
proof_is_true t list q conclusions.No proof lawful asked p = (consistent_base t list proof.base lawful p.base, no_by t list q proof (kind_of q) refl lawful asked p)
proof_is_true t list q conclusions.Contradiction proof lawful asked p = λ w compatible. shows_not_solvable (base_system t list) proof.base p.base ((base_solvable_is_consistent t list lawful).0 (w, compatible))

verdict_is_true : (t : DecisionTable) (list : List Statement) (q : Question) (v : Verdict) → IsLawfulIn t list → IsAskedIn t q → OfProof (Proves t list q) v → IsTrueVerdict t list q v
verdict_is_true t list q (verdicts.Yes proof) lawful asked p = proof_is_true t list q conclusions.Yes proof lawful asked p
verdict_is_true t list q (verdicts.No proof) lawful asked p = proof_is_true t list q conclusions.No proof lawful asked p
verdict_is_true t list q (verdicts.Contradiction proof) lawful asked p = proof_is_true t list q conclusions.Contradiction proof lawful asked p
verdict_is_true t list q (verdicts.Wide system note) lawful asked p = absurd p

pub answer_is_true : (t : DecisionTable) (list : List Statement) (q : Question) (x : Answer) → IsLawfulIn t list → IsAskedIn t q → IsProvedAnswer t list q x → IsTrueVerdict t list q x.verdict
answer_is_true t list q x lawful asked p = verdict_is_true t list q x.verdict lawful asked p.proof
