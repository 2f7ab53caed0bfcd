-- What a bound that is found says, and that each is found.
use Rattle.std.proofs.Common.{◌≡◌, ◌≢◌, ℕ, ◌≤◌, ◌+◌, ◌-◌, ◌*◌, ℤ, Bool, true, false, not, ◌&&◌, List, Option, Some, None, refl, sym, ap, subst, ◌∙◌, arith}
use Rattle.std.specs.Prelude.{◌==◌, slice_get, if◌then◌else◌}
use Rattle.std.specs.List.{AllByRecursion, find}
use Rattle.std.proofs.lemmas.Bool.{eqb-true, eqb-false, ne_eqb, eq-eqb}
use Rattle.ror_text.proofs.Everywhere.{all-by}
use Rattle.ror_show_ground.proofs.Tests.{both-true}
use Rattle.ror_statement.specs.declared.statement.Numbered.{Numbered}
use Rattle.ror_statement.specs.declared.statement.Statement.{Statement}
use Rattle.ror_statement.specs.declared.question.Conclusion.TheVariants as conclusions
use Rattle.ror_statement.specs.declared.question.Property.TheVariants.{InClass}
use Rattle.ror_statement.specs.declared.question.Question.{Question}
use Rattle.ror_statement.specs.declared.question.Question.TheVariants.{Consistent, Necessary, Possible, NecessaryStrength, PossibleStrength, PossibleClass, NecessaryClass}
use Rattle.ror_statement.specs.Statements.{statements_in}
use Rattle.ror_table.specs.Table.{DecisionTable}
use Rattle.ror_value.specs.Over.{IsLawfulIn, IsAskedIn}
use Rattle.ror_value.specs.Meaning.{Answers, Has, IsCompatible}
use Rattle.ror_value.proofs.FewerStatements.{consistent-sublist}
use Rattle.ror_proof.specs.declared.answer.Answer.{Answer}
use Rattle.ror_proof.specs.declared.answer.Verdict.{Verdict}
use Rattle.ror_proof.specs.declared.answer.Verdict.TheVariants as verdicts
use Rattle.ror_show_ground.specs.Sound.{IsSoundAnswer}
use Rattle.ror_show_ground.specs.declared.said.Said.{Said}
use Rattle.ror_show_ground.specs.declared.said.Said.TheVariants.{Yes, No, Contradiction, Nothing}
use Rattle.ror_show_ground.specs.Said.{said_by}
use Rattle.ror_pivot.specs.declared.note.Bits.TheVariants.{B127}
use Rattle.ror_pivot.specs.Answers.{most_of}
use Rattle.ror_reason.specs.declared.reducts.Reason.{Reason}
use Rattle.ror_reason.specs.declared.reducts.Reason.TheVariants as reasons
use Rattle.ror_reason.specs.Reasons.{IsReasonOf}
use Rattle.ror_reason.specs.Reducts.{stated, without, IsReduct}
use Rattle.ror_reason.proofs.Parts.{stated-among, without-among}
use Rattle.ror_show_find_reasons.specs.Carrying.{IsReasonFor, HasReason}
use Rattle.ror_show_find_reasons.proofs.Found.{found_there, found_passes, found_has}
use Rattle.ror_show_find_classes.specs.declared.sign.Sign.TheVariants as signs
use Rattle.ror_show_find_classes.specs.Signs.{alternative_of, if_possible, possible_by, necessary_by, sign_of, sign_of_class}
use Rattle.ror_show_find_reasons.specs.declared.bounds.Side.{Side}
use Rattle.ror_show_find_reasons.specs.declared.bounds.Side.TheVariants.{Below, Above}
use Rattle.ror_show_find_reasons.specs.declared.bounds.Bound.{Bound}
use Rattle.ror_show_find_reasons.specs.Bounds.{end_of, is_next, is_beyond, is_no_beyond, excludes, IsBoundWhere, IsBound, IsWithin, AreNeeded, SettlesBound, IsNextTo, MeansBound}
use Rattle.ror_show_find_reasons.specs.Meaning.{MeansSettled}
use Rattle.ror_show_find_reasons.specs.Laws.{BoundsAreSettled}
use Rattle.ror_show_find_reasons.proofs.ReasonMeaning.{reason_means}
use Rattle.ror_show_find_reasons.proofs.Settled.{says_no, no_reason}
use Rattle.ror_show_find_reasons.proofs.Within.{not_below, not_above}

-- ---- the class beyond an end

some_end : (end : ℕ) (b : Bool) → (end == 0) ≡ b → not b ≡ true → end ≢ 0
some_end end true is cant = absurd cc
some_end end false is can = eqb-false end 0 is

next_to : (side : Side) (end h : ℕ) → is_beyond side end h ≡ true → IsNextTo side end h
next_to Below end h is =
    let parts = both-true (not (end == 0)) (is_next Below end h) is in
    let some = some_end end (end == 0) refl parts.0 in
    omega (arith, eqb-true h (end - 1) parts.1, some)
next_to Above end h is =
    let parts = both-true (not (end == 0)) (is_next Above end h) is in
    let some = some_end end (end == 0) refl parts.0 in
    omega (arith, eqb-true (h - 1) end parts.1, some)

is_next_to : (side : Side) (end h : ℕ) → IsNextTo side end h → is_next side end h ≡ true
is_next_to Below end h next = eq-eqb h (end - 1) (omega (arith, next))
is_next_to Above end h next = eq-eqb (h - 1) end (omega (arith, next))

beyond_it : (side : Side) (end h : ℕ) → end ≢ 0 → IsNextTo side end h → is_beyond side end h ≡ true
beyond_it side end h some next =
    ap (λ (b : Bool). not b && is_next side end h) (ne_eqb end 0 some) ∙ is_next_to side end h next

-- ---- what is named

-- what keeps each function from what is beyond the end excludes the class next to it
excluded_by : (side : Side) (t : DecisionTable) (list : List Statement) (a end h : ℕ) → IsNextTo side end h → IsWithin side t list a end → (w : List ℤ) → IsCompatible t list w → Has t list w (InClass a h) → ⊥
excluded_by Below t list a end h next within w compatible has = let low = within w compatible in let worst = has.0 in omega (arith, next, low, worst)
excluded_by Above t list a end h next within w compatible has = let high = within w compatible in let best = has.1 in omega (arith, next, high, best)

within_by : (side : Side) (t : DecisionTable) (list : List Numbered) (xs : List Answer) (ns : List ℕ) (h : ℕ) → IsLawfulIn t (statements_in list) → AllByRecursion (IsSoundAnswer t (statements_in list)) xs → 1 ≤ h → h ≤ t.classes → IsNextTo side (end_of side xs t.classes) h → IsReduct t list (PossibleClass (alternative_of xs) h) conclusions.No ns → IsWithin side t (stated ns list) (alternative_of xs) (end_of side xs t.classes)
within_by Below t list xs ns h lawful sound from within next reduct = λ w compatible. not_below t list xs ns h lawful sound from within next reduct w compatible
within_by Above t list xs ns h lawful sound from within next reduct = λ w compatible. not_above t list xs ns h lawful sound from within next reduct w compatible

needed_so : (side : Side) (t : DecisionTable) (list : List Numbered) (xs : List Answer) (h : ℕ) (ns : List ℕ) → IsLawfulIn t (statements_in list) → AllByRecursion (IsSoundAnswer t (statements_in list)) xs → 1 ≤ h → h ≤ t.classes → IsNextTo side (end_of side xs t.classes) h → IsReduct t list (PossibleClass (alternative_of xs) h) conclusions.No ns → AreNeeded side t list (alternative_of xs) (end_of side xs t.classes) ns
needed_so side t list xs h ns lawful sound from within next reduct =
    let a = alternative_of xs in
    let end = end_of side xs t.classes in
    record {
      numbers = reduct.numbers;
      consistent = reduct.carries.0;
      settle = within_by side t list xs ns h lawful sound from within next reduct;
      needed = all-by (λ n. Answers t (stated (without n ns) list) (PossibleClass a h) conclusions.No → ⊥) (λ n. IsWithin side t (stated (without n ns) list) a end → ⊥) ns
          (λ n spared all. spared (consistent-sublist t (stated (without n ns) list) (stated ns list) (stated-among list (without n ns) ns (without-among n ns)) reduct.carries.0, λ some. excluded_by side t (stated (without n ns) list) a end h next all some.0 some.1 some.2)) reduct.needed;
    }

of_reason : (side : Side) (t : DecisionTable) (list : List Numbered) (xs : List Answer) (h : ℕ) (reason : Reason) → IsLawfulIn t (statements_in list) → AllByRecursion (IsSoundAnswer t (statements_in list)) xs → 1 ≤ h → h ≤ t.classes → IsNextTo side (end_of side xs t.classes) h → IsReasonOf (most_of B127) t list (PossibleClass (alternative_of xs) h) conclusions.No reason → SettlesBound side t list (alternative_of xs) (end_of side xs t.classes) h reason
of_reason side t list xs h (reasons.Carried x) lawful sound from within next is = needed_so side t list xs h x.numbers lawful sound from within next is.1
of_reason side t list xs h (reasons.Wide ns x others) lawful sound from within next is = is
of_reason side t list xs h (reasons.OneHas x) lawful sound from within next is = absurd (let p = is.0 in cc)
of_reason side t list xs h (reasons.OneLacks x) lawful sound from within next is = absurd (let p = is.0 in cc)
of_reason side t list xs h (reasons.ClassLeft x) lawful sound from within next is = absurd (let p = is.0 in cc)
of_reason side t list xs h (reasons.WhollyWide system note) lawful sound from within next is = absurd is

named : (side : Side) (t : DecisionTable) (list : List Numbered) (xs : List Answer) (x : Answer) (reason : Reason) → IsLawfulIn t (statements_in list) → AllByRecursion (IsSoundAnswer t (statements_in list)) xs → find (excludes side (end_of side xs t.classes) (alternative_of xs)) xs ≡ Some x → HasReason t list x.question x.verdict (Some reason) → MeansSettled side t list (alternative_of xs) (record { class = end_of side xs t.classes; reason = reason })
named side t list xs x reason lawful sound there has =
    let end = end_of side xs t.classes in
    let a = alternative_of xs in
    let said = says_no side end a x.question x.verdict (found_passes (excludes side end a) xs x there) in
    let asked = (found_has (IsSoundAnswer t (statements_in list)) (excludes side end a) xs x sound there).asked in
    let of : IsAskedIn t (PossibleClass a said.class) = subst (IsAskedIn t) said.asks asked in
    let next = next_to side end said.class said.beyond in
    let same : has.0 ≡ reason = let p = has.3 in cc in
    let is = subst (IsReasonFor t list x.question x.verdict) same has.1 in
    let reason_is = no_reason t list side end a x.question x.verdict reason said is in (
      record {
        class = said.class;
        from = of.1;
        within = of.2;
        next = next;
        named = of_reason side t list xs said.class reason lawful sound of.1 of.2 next reason_is;
      },
      reason_means t list (PossibleClass a said.class) conclusions.No reason lawful of reason_is,
    )

pub told : (side : Side) (t : DecisionTable) (list : List Numbered) (xs : List Answer) (f : Bound) → IsLawfulIn t (statements_in list) → AllByRecursion (IsSoundAnswer t (statements_in list)) xs → IsBound side t list xs (Some f) → MeansSettled side t list (alternative_of xs) f
told side t list xs f lawful sound is = by (find (excludes side (end_of side xs t.classes) (alternative_of xs)) xs) refl is
  where
    by : (o : Option Answer) → find (excludes side (end_of side xs t.classes) (alternative_of xs)) xs ≡ o → IsBoundWhere (end_of side xs t.classes) t list o (Some f) → MeansSettled side t list (alternative_of xs) f
    by (Some x) there bound =
        let same : f ≡ record { class = end_of side xs t.classes; reason = bound.0 } = let p = bound.2 in cc in
        subst (MeansSettled side t list (alternative_of xs)) (sym same) (named side t list xs x bound.0 lawful sound there bound.1)
    by None there none = absurd (let p = none in cc)

found : (side : Side) (t : DecisionTable) (list : List Numbered) (xs : List Answer) (f : Bound) → IsLawfulIn t (statements_in list) → AllByRecursion (IsSoundAnswer t (statements_in list)) xs → IsBound side t list xs (Some f) → MeansBound side t list (alternative_of xs) f
found side t list xs f lawful sound is = (told side t list xs f lawful sound is).0

-- ---- each is found

no_said : (p n : Said) → sign_of p n ≡ signs.Impossible → p ≡ No
no_said No n is = refl
no_said Yes Yes is = absurd cc
no_said Yes No is = absurd cc
no_said Yes Contradiction is = absurd cc
no_said Yes Nothing is = absurd cc
no_said Contradiction n is = absurd cc
no_said Nothing Yes is = absurd cc
no_said Nothing No is = absurd cc
no_said Nothing Contradiction is = absurd cc
no_said Nothing Nothing is = absurd cc

no_asked : (side : Side) (end a h : ℕ) (q : Question) (v : Verdict) → is_beyond side end h ≡ true → if_possible a h q (said_by v) ≡ No → is_no_beyond side end a q v ≡ true
no_asked side end a h (PossibleClass x g) v beyond is = by (x == a && g == h) refl is
  where
    of_no : (x == a && g == h) ≡ true → (u : Verdict) → said_by u ≡ No → is_no_beyond side end a (PossibleClass x g) u ≡ true
    of_no same (verdicts.No proof) said =
        let parts = both-true (x == a) (g == h) same in
        let here : is_beyond side end g ≡ true = subst (λ (k : ℕ). is_beyond side end k ≡ true) (sym (eqb-true g h parts.1)) beyond in
        ap (λ (b : Bool). b && is_beyond side end g) parts.0 ∙ here
    of_no same (verdicts.Yes proof) said = absurd cc
    of_no same (verdicts.Contradiction proof) said = absurd cc
    of_no same (verdicts.Wide system note) said = absurd cc

    by : (same : Bool) → (x == a && g == h) ≡ same → (if same then said_by v else Nothing) ≡ No → is_no_beyond side end a (PossibleClass x g) v ≡ true
    by true same said = of_no same v said
    by false same said = absurd cc
no_asked side end a h Consistent v beyond is = absurd cc
no_asked side end a h (Necessary x y) v beyond is = absurd cc
no_asked side end a h (Possible x y) v beyond is = absurd cc
no_asked side end a h (NecessaryStrength p q s) v beyond is = absurd cc
no_asked side end a h (PossibleStrength p q s) v beyond is = absurd cc
no_asked side end a h (NecessaryClass x g) v beyond is = absurd cc

no_somewhere : (side : Side) (end a h : ℕ) (xs : List Answer) (k : ℕ) (o : Option Answer) → is_beyond side end h ≡ true → slice_get xs k ≡ o → possible_by a h o ≡ No → (x : Answer) × (find (excludes side end a) xs ≡ Some x)
no_somewhere side end a h xs k (Some x) beyond there said = found_there (excludes side end a) xs k x there (no_asked side end a h x.question x.verdict beyond said)
no_somewhere side end a h xs k None beyond there said = absurd cc

excluded : (side : Side) (t : DecisionTable) (xs : List Answer) (h : ℕ) → end_of side xs t.classes ≢ 0 → IsNextTo side (end_of side xs t.classes) h → sign_of_class xs h ≡ signs.Impossible → (x : Answer) × (find (excludes side (end_of side xs t.classes) (alternative_of xs)) xs ≡ Some x)
excluded side t xs h some next is =
    let end = end_of side xs t.classes in
    let a = alternative_of xs in
    let k = 2 * (h - 1) in
    let said = no_said (possible_by a h (slice_get xs (2 * (h - 1)))) (necessary_by a h (slice_get xs (2 * (h - 1) + 1))) is in
    no_somewhere side end a h xs k (slice_get xs k) (beyond_it side end h some next) refl said

each : (side : Side) (t : DecisionTable) (list : List Numbered) (xs : List Answer) (h : ℕ) → end_of side xs t.classes ≢ 0 → IsNextTo side (end_of side xs t.classes) h → sign_of_class xs h ≡ signs.Impossible → IsBound side t list xs None → ⊥
each side t list xs h some next is none =
    let there = excluded side t xs h some next is in
    let bound = subst (λ (o : Option Answer). IsBoundWhere (end_of side xs t.classes) t list o None) there.1 none in
    let p = bound.2 in cc

pub bounds_are_settled : BoundsAreSettled
bounds_are_settled = record { found = found; each = each }
