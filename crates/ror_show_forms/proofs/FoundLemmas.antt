-- What holds of each certificate that is found.
use Rattle.std.proofs.Common.{◌≡◌, ℕ, ◌+◌, ◌-◌, ◌<◌, ◌^◌, suc, Bool, true, false, List, [], ◌∷◌, Option, Some, None, refl, sym, ap, subst, length-append, arith}
use Rattle.std.specs.Prelude.{slice_get}
use Rattle.std.specs.List.{AllByRecursion, flat_map}
use Rattle.std.proofs.lemmas.Option.{slice_get_within}
use Rattle.ror_text.proofs.Everywhere.{all-append, all-by, all_by_places}
use Rattle.ror_statement.specs.declared.statement.Numbered.{Numbered}
use Rattle.ror_statement.specs.declared.question.Conclusion.TheVariants as conclusions
use Rattle.ror_statement.specs.Statements.{statements_in}
use Rattle.ror_table.specs.Table.{DecisionTable}
use Rattle.ror_value.specs.Over.{IsAskedIn}
use Rattle.ror_show_ground.specs.Sound.{IsSoundAnswer}
use Rattle.ror_proof.specs.declared.answer.Answer.{Answer}
use Rattle.ror_proof.specs.declared.answer.Verdict.{Verdict}
use Rattle.ror_proof.specs.declared.answer.Verdict.TheVariants as verdicts
use Rattle.ror_pivot.specs.declared.note.Bits.TheVariants.{B127}
use Rattle.ror_pivot.specs.Answers.{most_of}
use Rattle.ror_given.specs.Answers.{IsVerdictWithin}
use Rattle.ror_relation.proofs.Printing.{printable}
use Rattle.ror_reason.specs.declared.reducts.Reason.{Reason}
use Rattle.ror_reason.specs.declared.reducts.Reason.TheVariants as found
use Rattle.ror_reason.specs.declared.reducts.Reduct.{Reduct}
use Rattle.ror_reason.specs.Reasons.{IsReasonWithin}
use Rattle.ror_reason.proofs.LawLemmas.{at_place}
use Rattle.ror_show_forms.specs.declared.certificate.Certificate.{Certificate}
use Rattle.ror_show_forms.specs.Printing.{HasValidQuestions, HasNarrowAnswers, IsWritable}
use Rattle.ror_report.specs.declared.block.Body.{Body}
use Rattle.ror_report.specs.declared.block.Body.TheVariants as bodies
use Rattle.ror_report.specs.Printing.{HasValidQuestion, HasNarrowVerdict}
use Rattle.ror_report.specs.Text.{answers_of}
use Rattle.ror_bench.specs.declared.kept.KeptLine.{KeptLine}
use Rattle.ror_show_find_reasons.specs.Carrying.{is_carried}
use Rattle.ror_show_ground.specs.Ready.{IsReady, answers_in}
use Rattle.ror_show_find_reasons.specs.Carrying.{IsReasonFor}
use Rattle.ror_show_forms.specs.Answered.{conclusion_of, IsProvedOf}
use Rattle.ror_show_forms.specs.CertificatePages.{certified_by}
use Rattle.ror_show_forms.proofs.Found.{IsCertifiedWhere, AreCertified, IsLineCertified, AreCertificatesOf}

-- a reduct is proved of the answer whose reason it is
pub carried_proved : (t : DecisionTable) (list : List Numbered) (x : Answer) (y : Reduct) → IsReasonFor t list x.question x.verdict (found.Carried y) → IsProvedOf t list x y
unfolding IsReasonFor
carried_proved t list x y is = by x.verdict refl is
  where
    by : (v : Verdict) → x.verdict ≡ v → IsReasonFor t list x.question v (found.Carried y) → IsProvedOf t list x y
    by (verdicts.Yes proof) e is = record { conclusion = conclusions.Yes; concludes = ap conclusion_of e; reduct = is.0 }
    by (verdicts.No proof) e is = record { conclusion = conclusions.No; concludes = ap conclusion_of e; reduct = is.0 }
    by (verdicts.Contradiction proof) e is = record { conclusion = conclusions.Contradiction; concludes = ap conclusion_of e; reduct = is.0 }
    by (verdicts.Wide system note) e is = absurd is

-- of each certificate P holds, where it does of every one whose answer is there
module _ (t : DecisionTable) (There : List Numbered → ℕ → ℕ → Answer → Type 0) (P : Certificate → Type 0)
    (each : (list : List Numbered) (line place : ℕ) (x : Answer) (y : Reduct) → IsSoundAnswer t (statements_in list) x → There list line place x → IsProvedOf t list x y → IsReasonWithin (most_of B127) (found.Carried y) → P (record { line = line; place = place; reduct = y })) where
  of_reason : (list : List Numbered) (line place : ℕ) (x : Answer) (reason : Reason) → IsSoundAnswer t (statements_in list) x → There list line place x → IsReasonFor t list x.question x.verdict reason → IsReasonWithin (most_of B127) reason → AllByRecursion P (certified_by line place reason)
  of_reason list line place x (found.Carried y) sound there is narrow = (each list line place x y sound there (carried_proved t list x y is) narrow, tt)
  of_reason list line place x (found.Wide ns y others) sound there is narrow = tt
  of_reason list line place x (found.OneHas y) sound there is narrow = tt
  of_reason list line place x (found.OneLacks y) sound there is narrow = tt
  of_reason list line place x (found.ClassLeft y) sound there is narrow = tt
  of_reason list line place x (found.WhollyWide system note) sound there is narrow = tt

  none_of : (xs : List Certificate) → xs ≡ [] → AllByRecursion P xs
  none_of xs none = subst (AllByRecursion P) (sym none) tt

  of_answer : (carried : Bool) (list : List Numbered) (line place : ℕ) (x : Answer) (xs : List Certificate) → IsSoundAnswer t (statements_in list) x → There list line place x → IsCertifiedWhere carried t list line place x xs → AllByRecursion P xs
  of_answer true list line place x xs sound there is = subst (AllByRecursion P) (sym is.are) (of_reason list line place x is.reason sound there is.is is.narrow)
  of_answer false list line place x xs sound there is = none_of xs is

  of_answers : (list : List Numbered) (line place : ℕ) (ys : List Answer) (xs : List Certificate) → AllByRecursion (IsSoundAnswer t (statements_in list)) ys → ((k : ℕ) (y : Answer) → slice_get ys k ≡ Some y → There list line (place + k) y) → AreCertified t list line place ys xs → AllByRecursion P xs
  of_answers list line place [] xs sound there are = none_of xs are
  of_answers list line place (y ∷ ys) xs sound there are =
      let at : place + 0 ≡ place = omega arith in
      let first = of_answer (is_carried y) list line place y are.0 sound.0 (subst (λ (n : ℕ). There list line n y) at (there 0 y refl)) are.2 in
      let rest = of_answers list line (place + 1) ys are.1 sound.1 (λ k z is. let next : place + suc k ≡ place + 1 + k = omega arith in subst (λ (n : ℕ). There list line n z) next (there (suc k) z is)) are.3 in
      subst (AllByRecursion P) (sym are.4) (all-append P are.0 are.1 first rest)

  -- each answer to a line is there
  abbrev pub AreThere : ℕ → Option (List Numbered) → Body → Type 0
  AreThere line stood body = (list : List Numbered) → stood ≡ Some list → (k : ℕ) (x : Answer) → slice_get (answers_of body) k ≡ Some x → There list line (1 + k) x

  of_line : (line : ℕ) (stood : Option (List Numbered)) (body : Body) (xs : List Certificate) → ((list : List Numbered) → stood ≡ Some list → AllByRecursion (IsSoundAnswer t (statements_in list)) (answers_of body)) → AreThere line stood body → IsLineCertified t line stood body xs → AllByRecursion P xs
  of_line line (Some list) (bodies.Answers ys) xs sound there are = of_answers list line 1 ys xs (sound list refl) (there list refl) are
  of_line line (Some list) (bodies.Added n) xs sound there are = none_of xs are
  of_line line (Some list) (bodies.Withdrawn n) xs sound there are = none_of xs are
  of_line line (Some list) (bodies.Replaced n) xs sound there are = none_of xs are
  of_line line (Some list) bodies.Undone xs sound there are = none_of xs are
  of_line line (Some list) (bodies.Repaired kept) xs sound there are = none_of xs are
  of_line line (Some list) (bodies.RepairWide n note) xs sound there are = none_of xs are
  of_line line (Some list) (bodies.Refused fault) xs sound there are = none_of xs are
  of_line line None body xs sound there are = none_of xs are

  pub of_lines : (kept : List KeptLine) (xs : List Certificate) → AllByRecursion (IsReady t) kept → AllByRecursion (λ y. AreThere y.block.line y.standing y.block.body) kept → AreCertificatesOf t kept xs → AllByRecursion P xs
  of_lines [] xs ready there are = none_of xs are
  of_lines (y ∷ ys) xs ready there are =
      let first = of_line y.block.line y.standing y.block.body are.0 (λ list stood. (ready.0 list stood).sound) there.0 are.2 in
      subst (AllByRecursion P) (sym are.4) (all-append P are.0 are.1 first (of_lines ys are.1 ready.1 there.1 are.3))

-- ---- they can be written

reduct_valid : (t : DecisionTable) (list : List Numbered) (x : Answer) (y : Reduct) → IsSoundAnswer t (statements_in list) x → IsProvedOf t list x y → HasValidQuestions t y
reduct_valid t list x y sound p =
    let asked : HasValidQuestion t x = sound.asked in
    (subst (IsAskedIn t) (sym p.reduct.answer.question) asked, all_by_places (HasValidQuestion t) y.others (λ k other there. other_valid k other there))
  where
    other_valid : (k : ℕ) (other : Answer) → slice_get y.others k ≡ Some other → HasValidQuestion t other
    other_valid k other there =
        let within = slice_get_within y.others k other there in
        let as_many = p.reduct.as_many in
        let number = at_place y.numbers k (omega (arith, within, as_many)) in
        subst (IsAskedIn t) (sym (p.reduct.others k number.0 other number.1 there).proved.question) sound.asked

reduct_narrow : (y : Reduct) → IsReasonWithin (most_of B127) (found.Carried y) → HasNarrowAnswers y
reduct_narrow y narrow =
    (printable B127 y.answer.verdict narrow.0, all-by (λ (other : Answer). IsVerdictWithin (most_of B127) other.verdict) HasNarrowVerdict y.others (λ other is. printable B127 other.verdict is) narrow.1)

-- the places of answers, counted from 1, are numbers of 32 bits
abbrev HasSmallPlace : List Numbered → ℕ → ℕ → Answer → Type 0
HasSmallPlace list line place x = place < 2 ^ 32

places_small : (kept : List KeptLine) → answers_in kept < 2 ^ 32 - 1 → AllByRecursion (λ y. (list : List Numbered) → y.standing ≡ Some list → (k : ℕ) (x : Answer) → slice_get (answers_of y.block.body) k ≡ Some x → HasSmallPlace list y.block.line (1 + k) x) kept
places_small [] few = tt
places_small (y ∷ ys) few =
    let both = length-append (answers_of y.block.body) (flat_map (λ (z : KeptLine). answers_of z.block.body) ys) in
    ((λ list stood k x is. let within = slice_get_within (answers_of y.block.body) k x is in omega (arith, within, both, few)), places_small ys (omega (arith, both, few)))

pub found_writable : (t : DecisionTable) (kept : List KeptLine) (xs : List Certificate) → AllByRecursion (IsReady t) kept → answers_in kept < 2 ^ 32 - 1 → AreCertificatesOf t kept xs → AllByRecursion (IsWritable t) xs
found_writable t kept xs ready few are =
    of_lines t HasSmallPlace (IsWritable t)
    (λ list line place x y sound there p narrow. record { valid = reduct_valid t list x y sound p; narrow = reduct_narrow y narrow; place = there })
    kept xs ready (places_small kept few) are
