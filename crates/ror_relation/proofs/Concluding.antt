-- The verdict on a question, by what its systems come to.
use Rattle.std.proofs.Common.{◌≡◌, ℕ, suc, ◌+◌, ◌<◌, true, List, [], ◌∷◌, ◌++◌, length, map, take, get_or, Ok, Err, Result, refl, sym, ap, ap₂, subst, ◌∙◌, arith}
use Rattle.std.proofs.lemmas.List.{length-map, take_more}
use Rattle.std.specs.Prelude.{IfOk}
use Rattle.std.specs.Global.{Vec}
use Rattle.std.specs.declared.alloc.AllocError.{AllocError}
use Rattle.smallvec.specs.SmallVec.{SmallVec}
use Rattle.ror_statement.specs.declared.comparison.Comparison.{Comparison}
use Rattle.std.specs.List.{AllByRecursion, AllZip, range_with_len}
use Rattle.std.proofs.lemmas.Option.{slice_get_within}
use Rattle.ror_text.proofs.Everywhere.{all-by}
use Rattle.ror_statement.specs.declared.statement.Statement.{Statement}
use Rattle.ror_statement.specs.declared.question.QuestionKind.{QuestionKind}
use Rattle.ror_statement.specs.declared.question.QuestionKind.TheVariants.{Plain, Any, Every}
use Rattle.ror_statement.specs.declared.question.Question.{Question}
use Rattle.ror_statement.specs.declared.question.Conclusion.{Conclusion}
use Rattle.ror_statement.specs.declared.question.Conclusion.TheVariants as conclusions
use Rattle.ror_statement.specs.Questions.{kind_of}
use Rattle.ror_table.specs.Table.{DecisionTable}
use Rattle.ror_system.specs.System.{LinearSystem}
use Rattle.ror_system.specs.declared.accept.Multipliers.{Multipliers}
use Rattle.ror_system.specs.declared.accept.Solution.{Solution}
use Rattle.ror_value.specs.Over.{IsLawfulIn, IsAskedIn}
use Rattle.ror_rows.specs.declared.extra.Extra.{Extra}
use Rattle.ror_rows.specs.Rows.{system_for, extended_by, extras_of, systems_of_question}
use Rattle.ror_rows.proofs.Extending.{extended_is}
use Rattle.ror_proof.specs.declared.answer.Certificate.{Certificate}
use Rattle.ror_proof.specs.declared.answer.Certificate.TheVariants as certificates
use Rattle.ror_proof.specs.declared.answer.Part.{Part}
use Rattle.ror_proof.specs.declared.answer.Proof.{Proof}
use Rattle.ror_proof.specs.declared.answer.WideText.{WideText}
use Rattle.ror_proof.specs.declared.answer.Verdict.{Verdict}
use Rattle.ror_proof.specs.declared.answer.Verdict.TheVariants as verdicts
use Rattle.ror_check.specs.Proof.{base_system, question_systems_of, AreNumbersFor, NoneSolvableBefore, Proves, ShowsOfItsSystem, base_side, part_side, may_conclude, IsWideAt}
use Rattle.ror_check.proofs.Checking.{shows_solvable, proof_is_true}
use Rattle.ror_relation.specs.declared.decision.Decision.{Decision}
use Rattle.ror_relation.specs.declared.decision.Decision.TheVariants as decisions
use Rattle.ror_relation.specs.declared.search.Search.{Search}
use Rattle.ror_relation.specs.declared.search.Search.TheVariants as searches
use Rattle.ror_given.specs.Notes.{HasNoteAt}
use Rattle.ror_given.specs.Answers.{IsCertificateWithin, IsProofWithin, IsGiven}
use Rattle.ror_relation.specs.Decisions.{ShowsAsBase, IsDecision, IsPartOf, AreRefuted, IsWideSystem, NoneSolvableBelow, IsSearch, verdict_of, IsGivenVerdict}

-- ---- verdicts with a proof

yes_given : (most : ℕ) (t : DecisionTable) (list : List Statement) (q : Question) (proof : Proof) → IsLawfulIn t list → IsAskedIn t q → Proves t list q conclusions.Yes proof → IsProofWithin most proof → IsGivenVerdict most t list q (verdicts.Yes proof)
yes_given most t list q proof lawful asked proves narrow = record { allowed = proves; narrow = narrow; true_verdict = proof_is_true t list q conclusions.Yes proof lawful asked proves }

no_given : (most : ℕ) (t : DecisionTable) (list : List Statement) (q : Question) (proof : Proof) → IsLawfulIn t list → IsAskedIn t q → Proves t list q conclusions.No proof → IsProofWithin most proof → IsGivenVerdict most t list q (verdicts.No proof)
no_given most t list q proof lawful asked proves narrow = record { allowed = proves; narrow = narrow; true_verdict = proof_is_true t list q conclusions.No proof lawful asked proves }

pub contradiction_given : (most : ℕ) (t : DecisionTable) (list : List Statement) (q : Question) (base : Certificate) → IsLawfulIn t list → IsAskedIn t q → ShowsAsBase most conclusions.Contradiction (base_system t list) base → IsGivenVerdict most t list q (verdicts.Contradiction (record { base = base; parts = [] }))
contradiction_given most t list q base lawful asked shows =
    let proof : Proof = record { base = base; parts = [] } in
    let proves : Proves t list q conclusions.Contradiction proof = record { listed = listed (kind_of q); base = shows.0; numbered = refl; parts = tt } in
    record { allowed = proves; narrow = record { base = shows.1; parts = tt }; true_verdict = proof_is_true t list q conclusions.Contradiction proof lawful asked proves }
  where
    listed : (k : QuestionKind) → may_conclude k conclusions.Contradiction ≡ true
    listed Plain = refl
    listed Any = refl
    listed Every = refl

-- ---- by the search

-- the systems of the question, and how many there are
as_many : (t : DecisionTable) (list : List Statement) (q : Question) → length (question_systems_of t list q) ≡ length (systems_of_question list q)
as_many t list q = length-map (systems_of_question list q) (system_for t list)

no_system : (t : DecisionTable) (list : List Statement) (q : Question) → kind_of q ≡ Plain → question_systems_of t list q ≡ []
no_system t list q is = rw is refl

one_system : (t : DecisionTable) (list : List Statement) (q : Question) → kind_of q ≡ Any → length (systems_of_question list q) ≡ 1
one_system t list q is = rw is refl

module _ (most : ℕ) (t : DecisionTable) (list : List Statement) (q : Question) (base : Certificate) (lawful : IsLawfulIn t list) (asked : IsAskedIn t q) (shows : ShowsAsBase most conclusions.Yes (base_system t list) base) where
  proves : (k : QuestionKind) (c : Conclusion) (parts : List Part) → kind_of q ≡ k → may_conclude k c ≡ true → base_side c ≡ base_side conclusions.Yes → AreNumbersFor k c (length (systems_of_question list q)) (map (λ p. p.at) parts)
      → AllByRecursion (ShowsOfItsSystem (part_side k c) (question_systems_of t list q)) parts → Proves t list q c (record { base = base; parts = parts })
  proves k c parts is listed side numbered shown = record {
    listed = subst (λ (k : QuestionKind). may_conclude k c ≡ true) (sym is) listed;
    base = rw side shows.0;
    numbered = subst (λ (k : QuestionKind). AreNumbersFor k c (length (systems_of_question list q)) (map (λ (p : Part). p.at) parts)) (sym is) numbered;
    parts = subst (λ (k : QuestionKind). AllByRecursion (ShowsOfItsSystem (part_side k c) (question_systems_of t list q)) parts) (sym is) shown;
  }

  -- the first solvable system
  found : (k : QuestionKind) → kind_of q ≡ k → (p : Part) → IsPartOf most conclusions.Yes (question_systems_of t list q) p → IsGivenVerdict most t list q (verdict_of k base (searches.Solvable p))
  found Plain is p part =
      let within = slice_get_within (question_systems_of t list q) part.shown.before part.shown.system part.shown.there in
      absurd (omega (arith, within, ap length (no_system t list q is)))
  found Any is p part =
      let within = slice_get_within (question_systems_of t list q) part.shown.before part.shown.system part.shown.there in
      let counted = part.shown.counted in
      let one = one_system t list q is in
      let at : p.at ≡ 1 = omega (arith, within, counted, as_many t list q, one) in
      let numbers : AreNumbersFor Any conclusions.Yes (length (systems_of_question list q)) (p.at ∷ []) = rw (one, at) refl in
      yes_given most t list q (record { base = base; parts = p ∷ [] }) lawful asked (proves Any conclusions.Yes (p ∷ []) is refl refl numbers (part.shown, tt)) (record { base = shows.1; parts = (part.narrow, tt) })
  found Every is p part =
      let within = slice_get_within (question_systems_of t list q) part.shown.before part.shown.system part.shown.there in
      let counted = part.shown.counted in
      let numbers : AreNumbersFor Every conclusions.No (length (systems_of_question list q)) (p.at ∷ []) = (p.at, omega (arith, counted), omega (arith, within, counted, as_many t list q), refl) in
      no_given most t list q (record { base = base; parts = p ∷ [] }) lawful asked (proves Every conclusions.No (p ∷ []) is refl refl numbers (part.shown, tt)) (record { base = shows.1; parts = (part.narrow, tt) })

  -- no system is solvable
  shown_parts : (n : ℕ) (parts : List Part) → AreRefuted most (question_systems_of t list q) n parts → AllByRecursion (ShowsOfItsSystem (base_side conclusions.Contradiction) (question_systems_of t list q)) parts
  shown_parts n parts refuted = all-by (IsPartOf most conclusions.Contradiction (question_systems_of t list q)) (ShowsOfItsSystem (base_side conclusions.Contradiction) (question_systems_of t list q)) parts (λ p part. part.shown) refuted.each

  narrow_proof : (n : ℕ) (parts : List Part) → AreRefuted most (question_systems_of t list q) n parts → IsProofWithin most (record { base = base; parts = parts })
  narrow_proof n parts refuted = record { base = shows.1; parts = all-by (IsPartOf most conclusions.Contradiction (question_systems_of t list q)) (λ p. IsCertificateWithin most p.body) parts (λ p part. part.narrow) refuted.each }

  all_numbers : (parts : List Part) → AreRefuted most (question_systems_of t list q) (length (question_systems_of t list q)) parts → map (λ p. p.at) parts ≡ range_with_len 1 (length (systems_of_question list q))
  all_numbers parts refuted = subst (λ (n : ℕ). map (λ (p : Part). p.at) parts ≡ range_with_len 1 n) (as_many t list q) refuted.numbered

  none_found : (k : QuestionKind) → kind_of q ≡ k → (parts : Vec Part) → AreRefuted most (question_systems_of t list q) (length (question_systems_of t list q)) parts.items → IsGivenVerdict most t list q (verdict_of k base (searches.NoneSolvable parts))
  none_found Plain is parts refuted =
      let numbers : AreNumbersFor Plain conclusions.Yes (length (systems_of_question list q)) (map (λ p. p.at) parts.items) = refuted.numbered ∙ ap (λ (ss : List LinearSystem). range_with_len 1 (length ss)) (no_system t list q is) in
      yes_given most t list q (record { base = base; parts = parts.items }) lawful asked (proves Plain conclusions.Yes parts.items is refl refl numbers (shown_parts (length (question_systems_of t list q)) parts.items refuted)) (narrow_proof (length (question_systems_of t list q)) parts.items refuted)
  none_found Any is parts refuted =
      no_given most t list q (record { base = base; parts = parts.items }) lawful asked (proves Any conclusions.No parts.items is refl refl (all_numbers parts.items refuted) (shown_parts (length (question_systems_of t list q)) parts.items refuted)) (narrow_proof (length (question_systems_of t list q)) parts.items refuted)
  none_found Every is parts refuted =
      yes_given most t list q (record { base = base; parts = parts.items }) lawful asked (proves Every conclusions.Yes parts.items is refl refl (all_numbers parts.items refuted) (shown_parts (length (question_systems_of t list q)) parts.items refuted)) (narrow_proof (length (question_systems_of t list q)) parts.items refuted)

  -- a system is too wide
  undecided : (k : QuestionKind) (n : ℕ) → NoneSolvableBelow (question_systems_of t list q) n → NoneSolvableBefore k (question_systems_of t list q) n
  undecided Plain n none = tt
  undecided Any n none = tt
  undecided Every n none = none

  wide_given : (n : ℕ) (note : WideText) → IsWideSystem most (question_systems_of t list q) n note → IsGivenVerdict most t list q (verdicts.Wide n note)
  wide_given n note wide =
      let counted = wide.counted in
      let n-is : suc wide.before ≡ n = omega arith in
      let at : IsWideAt (HasNoteAt most) t list q (suc wide.before) note = record {
        system = wide.system;
        there = wide.there;
        noted = wide.noted;
        base = shows_solvable (base_system t list) base shows.0;
        undecided = undecided (kind_of q) wide.before wide.none_solvable;
      } in
      record { allowed = subst (λ (m : ℕ). IsWideAt (HasNoteAt most) t list q m note) n-is at; narrow = tt; true_verdict = tt }

  concluded_by : (k : QuestionKind) → kind_of q ≡ k → (x : Search) → IsSearch most (question_systems_of t list q) x → IsGivenVerdict most t list q (verdict_of k base x)
  concluded_by k is (searches.Solvable p) h = found k is p h
  concluded_by k is (searches.NoneSolvable parts) h = none_found k is parts h
  concluded_by Plain is (searches.TooWide n note) h = wide_given n note h
  concluded_by Any is (searches.TooWide n note) h = wide_given n note h
  concluded_by Every is (searches.TooWide n note) h = wide_given n note h

  pub concluded : (x : Search) → IsSearch most (question_systems_of t list q) x → IsGivenVerdict most t list q (verdict_of (kind_of q) base x)
  concluded x h = concluded_by (kind_of q) refl x h

-- ---- answers

-- the systems that the base makes with extra rows are those of the statements with these
extended_each : (t : DecisionTable) (list : List Statement) (s : LinearSystem) (extras : List (List Comparison)) → s ≡ base_system t list → map (extended_by t s) extras ≡ map (system_for t list) extras
extended_each t list s [] is = refl
extended_each t list s (extra ∷ extras) is = ap₂ (λ (first : LinearSystem) (rest : List LinearSystem). first ∷ rest) (extended_is t list extra s (extended_by t s extra) is refl) (extended_each t list s extras is)

pub systems_of_list : (list slice : List Statement) (systems : List (SmallVec Extra)) (q : Question) → slice ≡ list → map extras_of systems ≡ systems_of_question slice q → map extras_of systems ≡ systems_of_question list q
systems_of_list list slice systems q is are = are ∙ ap (λ (list : List Statement). systems_of_question list q) is

pub search_found : (most : ℕ) (t : DecisionTable) (list : List Statement) (q : Question) (s : LinearSystem) (systems slice : List (SmallVec Extra)) (r : Result Search AllocError) → s ≡ base_system t list → slice ≡ systems → map extras_of systems ≡ systems_of_question list q
    → IfOk r (IsSearch most (map (extended_by t s) (map extras_of slice))) → IfOk r (IsSearch most (question_systems_of t list q))
search_found most t list q s systems slice (Ok x) base is are h =
    let extras = ap (map extras_of) is ∙ are in
    subst (λ (ss : List LinearSystem). IsSearch most ss x) (ap (map (extended_by t s)) extras ∙ extended_each t list s (systems_of_question list q) base) h
search_found most t list q s systems slice (Err e) base is are h = tt

pub given : (most : ℕ) (t : DecisionTable) (list : List Statement) (q : Question) (v known : Verdict) → v ≡ known → IsGivenVerdict most t list q known → IsGiven most t list q (record { question = q; verdict = v })
given most t list q v known is h =
    rw is (record { allowed = record { question = refl; verdict = h.allowed }; narrow = h.narrow; true_answer = h.true_verdict })

-- a verdict by a base that is decided
pub searched : (most : ℕ) (t : DecisionTable) (list : List Statement) (q : Question) (base : Decision) (solution : Solution) (x : Search) (k : QuestionKind) (v : Verdict) → IsLawfulIn t list → IsAskedIn t q → IsDecision most (base_system t list) base → base ≡ decisions.Solvable solution
    → IsSearch most (question_systems_of t list q) x → k ≡ kind_of q → v ≡ verdict_of k (certificates.Solution solution) x → IsGivenVerdict most t list q v
searched most t list q base solution x k v lawful asked decided is found kind gives =
    let shows : ShowsAsBase most conclusions.Yes (base_system t list) (certificates.Solution solution) = subst (λ (d : Decision). IsDecision most (base_system t list) d) is decided in
    rw (gives, kind) (concluded most t list q (certificates.Solution solution) lawful asked shows x found)

pub contradicted : (most : ℕ) (t : DecisionTable) (list : List Statement) (q : Question) (base : Decision) (m copy : Multipliers) (parts : List Part) → IsLawfulIn t list → IsAskedIn t q → IsDecision most (base_system t list) base → base ≡ decisions.NotSolvable m → copy ≡ m → parts ≡ []
    → IsGivenVerdict most t list q (verdicts.Contradiction (record { base = certificates.Multipliers copy; parts = parts }))
contradicted most t list q base m copy parts lawful asked decided is same none =
    let shows : ShowsAsBase most conclusions.Contradiction (base_system t list) (certificates.Multipliers m) = subst (λ (d : Decision). IsDecision most (base_system t list) d) is decided in
    rw none (contradiction_given most t list q (certificates.Multipliers copy) lawful asked (subst (λ (m : Multipliers). ShowsAsBase most conclusions.Contradiction (base_system t list) (certificates.Multipliers m)) (sym same) shows))

pub base_too_wide : (most : ℕ) (t : DecisionTable) (list : List Statement) (q : Question) (base : Decision) (note copy : WideText) → IsDecision most (base_system t list) base → base ≡ decisions.TooWide note → copy ≡ note
    → IsGivenVerdict most t list q (verdicts.Wide 0 copy)
base_too_wide most t list q base note copy decided is same =
    let noted : HasNoteAt most (base_system t list) note = subst (λ (d : Decision). IsDecision most (base_system t list) d) is decided in
    record { allowed = subst (λ (x : WideText). HasNoteAt most (base_system t list) x) (sym same) noted; narrow = tt; true_verdict = tt }

zip_push : {X Y : Type 0} (R : X → Y → Type 0) (xs : List X) (ys : List Y) (x : X) (y : Y) → AllZip R xs ys → R x y → AllZip R (xs ++ x ∷ []) (ys ++ y ∷ [])
zip_push R [] [] x y all here = (here, tt)
zip_push R [] (w ∷ ys) x y all here = absurd all
zip_push R (z ∷ xs) [] x y all here = absurd all
zip_push R (z ∷ xs) (w ∷ ys) x y all here = (all.0, zip_push R xs ys x y all.1 here)

pub zip_more : {X Y : Type 0} (R : X → Y → Type 0) (xs : List X) (ys : List Y) (i : ℕ) (x : X) (y : Y) → i < length xs → AllZip R (take i xs) ys → R (get_or xs i x) y → AllZip R (take (i + 1) xs) (ys ++ y ∷ [])
zip_more {X} {Y} R xs ys i x y within so_far here =
    subst (λ (front : List X). AllZip R front (ys ++ y ∷ [])) (sym (take_more xs i x within)) (zip_push R (take i xs) ys (get_or xs i x) y so_far here)
