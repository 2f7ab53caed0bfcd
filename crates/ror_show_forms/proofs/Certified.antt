-- What is found certifies each answer that statements carry, and each line; and how many certificates there are.
use Rattle.std.proofs.Common.{◌≡◌, ℕ, ◌+◌, ◌≤◌, suc, Bool, true, false, List, [], ◌∷◌, ◌++◌, length, Option, Some, None, refl, sym, ap, subst, ◌∙◌, length-append, arith}
use Rattle.std.specs.Prelude.{slice_get, is_some, ◌&&◌, ◌||◌, if◌then◌else◌}
use Rattle.std.specs.List.{AllByRecursion, AllZip, flat_map, range_with_len}
use Rattle.std.specs.Option.{option_map_or}
use Rattle.std.proofs.lemmas.Bool.{false≢true}
use Rattle.ror_statement.specs.declared.statement.Numbered.{Numbered}
use Rattle.ror_statement.specs.declared.question.Question.{Question}
use Rattle.ror_table.specs.Table.{DecisionTable}
use Rattle.ror_proof.specs.declared.answer.Answer.{Answer}
use Rattle.ror_proof.specs.declared.answer.Verdict.{Verdict}
use Rattle.ror_proof.specs.declared.answer.Verdict.TheVariants as verdicts
use Rattle.ror_pivot.specs.declared.note.Bits.TheVariants.{B127}
use Rattle.ror_pivot.specs.Answers.{most_of}
use Rattle.ror_given.specs.Answers.{IsVerdictWithin}
use Rattle.ror_reason.specs.declared.reducts.Reason.{Reason}
use Rattle.ror_reason.specs.declared.reducts.Reason.TheVariants as found
use Rattle.ror_report.specs.Text.{answers_of}
use Rattle.ror_report.specs.declared.block.Body.{Body}
use Rattle.ror_report.specs.declared.block.Body.TheVariants as bodies
use Rattle.ror_bench.specs.declared.kept.KeptLine.{KeptLine}
use Rattle.ror_show_ground.specs.Grounds.{Ground, IsJudged}
use Rattle.ror_show_ground.specs.Lines.{is_answered, is_repaired, place_if}
use Rattle.ror_show_ground.specs.Ready.{HasNarrowAnswers, answers_in}
use Rattle.ror_show_find_reasons.specs.Carrying.{is_carried, is_carried_by, HasReason, IsTold}
use Rattle.ror_show_find_reasons.specs.Lines.{left_at, is_told, told_if, IsToldAt, AreTold, AreToldOver, is_explained, IsLineOf, IsLineFound, AreLinesFound}
use Rattle.ror_show_find_reasons.specs.declared.lines.Meant.TheVariants.{Carried}
use Rattle.ror_show_find_reasons.specs.declared.lines.Told.{Told}
use Rattle.ror_show_find_reasons.specs.declared.lines.LineFound.{LineFound}
use Rattle.ror_show_forms.specs.declared.certificate.Certificate.{Certificate}
use Rattle.ror_show_forms.specs.CertificatePages.{certified_by, certified, certified_of, certified_over, certificates_at, certificates_in}
use Rattle.ror_show_forms.proofs.Found.{IsCertified, IsCertifiedWhere, AreCertified, IsLineCertified, AreCertificatesOf}

-- ---- what is found of places that pass a test, of the first place

-- of a place that passes the first is found, and of the others the rest; of one that doesn't nothing is
abbrev Split : {Y : Type 0} → (ℕ → Y → Type 0) → Bool → ℕ → List ℕ → List Y → Type 0
Split {Y} R true n places fs = (f : Y) × (rest : List Y) × (fs ≡ f ∷ rest) × R n f × AllZip R places rest
Split {Y} R false n places fs = AllZip R places fs

split : {Y : Type 0} (R : ℕ → Y → Type 0) (passes : Bool) (n : ℕ) (places : List ℕ) (fs : List Y) → AllZip R ((if passes then n ∷ [] else []) ++ places) fs → Split R passes n places fs
split R true n places [] all = absurd all
split R true n places (f ∷ fs) all = (f, fs, refl, all.0, all.1)
split R false n places fs all = all

-- a list that goes on as another does from a place, goes on so behind its first element
next_same : {X : Type 0} (x : X) (xs all : List X) (n : ℕ) → ((k : ℕ) → slice_get (x ∷ xs) k ≡ slice_get all (n + k)) → (k : ℕ) → slice_get xs k ≡ slice_get all (n + 1 + k)
next_same {X} x xs all n same k =
    let at : n + suc k ≡ n + 1 + k = omega arith in
    same (suc k) ∙ ap (slice_get all) at

first_same : {X : Type 0} (x : X) (xs all : List X) (n : ℕ) → ((k : ℕ) → slice_get (x ∷ xs) k ≡ slice_get all (n + k)) → slice_get all n ≡ Some x
first_same {X} x xs all n same =
    let at : n + 0 ≡ n = omega arith in
    sym (same 0 ∙ ap (slice_get all) at)

from_start : {X : Type 0} (xs : List X) (k : ℕ) → slice_get xs k ≡ slice_get xs (0 + k)
from_start xs k = let at : k ≡ 0 + k = omega arith in ap (slice_get xs) at

-- ---- an answer

reason_of : (t : DecisionTable) (list : List Numbered) (q : Question) (v : Verdict) (told : Option Reason) → is_carried_by q v ≡ true → IsTold t list q v told → HasReason t list q v told
reason_of t list q (verdicts.Yes proof) told carried is = is
reason_of t list q (verdicts.No proof) told carried is = is
reason_of t list q (verdicts.Contradiction proof) told carried is = is
reason_of t list q (verdicts.Wide system note) told carried is = absurd (false≢true carried)

answer_certified : (t : DecisionTable) (list : List Numbered) (line n : ℕ) (x : Answer) (told : Told) → is_carried x ≡ true → told.answer ≡ n → IsTold t list x.question x.verdict told.reason → IsVerdictWithin (most_of B127) x.verdict → IsCertified t list line (n + 1) x (certified_of line told)
answer_certified t list line n x told carried at is within =
    let so = reason_of t list x.question x.verdict told.reason carried is in
    record { reason = so.0; is = so.1; narrow = so.2 within; are = ap (λ (k : ℕ). certified line k told.reason) at ∙ ap (certified line n) so.3 }

-- ---- the answers to a line

module _ (t : DecisionTable) (list : List Numbered) (line : ℕ) (all : List Answer) where
  answers_step : (n : ℕ) (y : Answer) (ys : List Answer) (places : List ℕ) (told : List Told) → slice_get all n ≡ Some y → IsVerdictWithin (most_of B127) y.verdict → AllZip (IsToldAt t list all) (told_if Carried all n ++ places) told → ((rest : List Told) → AllZip (IsToldAt t list all) places rest → AreCertified t list line (n + 1 + 1) ys (flat_map (certified_of line) rest)) → AreCertified t list line (n + 1) (y ∷ ys) (flat_map (certified_of line) told)
  answers_step n y ys places told there within zip behind = by (is_carried y) refl (split (IsToldAt t list all) (is_carried y) n places told zipped)
    where
      zipped : AllZip (IsToldAt t list all) ((if is_carried y then n ∷ [] else []) ++ places) told
      zipped = subst (λ (o : Option Answer). AllZip (IsToldAt t list all) ((if option_map_or (is_told Carried (length all) (left_at all n)) o false then n ∷ [] else []) ++ places) told) there zip

      by : (carried : Bool) → is_carried y ≡ carried → Split (IsToldAt t list all) carried n places told → AreCertified t list line (n + 1) (y ∷ ys) (flat_map (certified_of line) told)
      by true is s =
          let one = answer_certified t list line n y s.0 is s.3.0 (s.3.1 y there) within in
          (certified_of line s.0, flat_map (certified_of line) s.1, subst (λ (b : Bool). IsCertifiedWhere b t list line (n + 1) y (certified_of line s.0)) (sym is) one, behind s.1 s.4, ap (flat_map (certified_of line)) s.2)
      by false is more =
          ([], flat_map (certified_of line) told, subst (λ (b : Bool). IsCertifiedWhere b t list line (n + 1) y []) (sym is) refl, behind told more, refl)

  answers_certified : (n : ℕ) (ys : List Answer) (told : List Told) → ((k : ℕ) → slice_get ys k ≡ slice_get all (n + k)) → AllByRecursion (λ y. IsVerdictWithin (most_of B127) y.verdict) ys → AllZip (IsToldAt t list all) (flat_map (told_if Carried all) (range_with_len n (length ys))) told → AreCertified t list line (n + 1) ys (flat_map (certified_of line) told)
  answers_certified n [] [] same within zip = refl
  answers_certified n [] (f ∷ fs) same within zip = absurd zip
  answers_certified n (y ∷ ys) told same within zip =
      answers_step n y ys (flat_map (told_if Carried all) (range_with_len (n + 1) (length ys))) told (first_same y ys all n same) within.0 zip
      (λ rest more. answers_certified (n + 1) ys rest (next_same y ys all n same) within.1 more)

-- ---- a line

none_told : (t : DecisionTable) (list : List Numbered) (line : ℕ) (told : List Told) → AreTold Carried t list [] told → flat_map (certified_of line) told ≡ []
none_told t list line [] are = refl
none_told t list line (f ∷ fs) are = absurd are

line_certified : (t : DecisionTable) (line : ℕ) (stood : Option (List Numbered)) (body : Body) (told : List Told) → AllByRecursion (λ y. IsVerdictWithin (most_of B127) y.verdict) (answers_of body) → AreToldOver Carried t (answers_of body) stood told → IsLineCertified t line stood body (flat_map (certified_of line) told)
line_certified t line (Some list) (bodies.Answers ys) told within are = answers_certified t list line ys 0 ys told (λ k. from_start ys k) within are
line_certified t line (Some list) (bodies.Added n) told within are = none_told t list line told are
line_certified t line (Some list) (bodies.Withdrawn n) told within are = none_told t list line told are
line_certified t line (Some list) (bodies.Replaced n) told within are = none_told t list line told are
line_certified t line (Some list) bodies.Undone told within are = none_told t list line told are
line_certified t line (Some list) (bodies.Repaired kept) told within are = none_told t list line told are
line_certified t line (Some list) (bodies.RepairWide n note) told within are = none_told t list line told are
line_certified t line (Some list) (bodies.Refused fault) told within are = none_told t list line told are
line_certified t line None body told within are = ap (flat_map (certified_of line)) are

-- a line that isn't explained has no answers over what stood
none_certified : (t : DecisionTable) (line : ℕ) (stood : Option (List Numbered)) (body : Body) → (is_some stood && (is_answered body || is_repaired body)) ≡ false → IsLineCertified t line stood body []
none_certified t line (Some list) (bodies.Answers ys) is = absurd (false≢true (sym is))
none_certified t line (Some list) (bodies.Added n) is = refl
none_certified t line (Some list) (bodies.Withdrawn n) is = refl
none_certified t line (Some list) (bodies.Replaced n) is = refl
none_certified t line (Some list) bodies.Undone is = refl
none_certified t line (Some list) (bodies.Repaired kept) is = refl
none_certified t line (Some list) (bodies.RepairWide n note) is = refl
none_certified t line (Some list) (bodies.Refused fault) is = refl
none_certified t line None body is = refl

-- ---- all lines

some_same : (x y : KeptLine) → Some x ≡ Some y → x ≡ y
some_same x y is = ap (λ (o : Option KeptLine). option_map_or (λ (z : KeptLine). z) o x) is

module _ (g : Ground) where
  line_step : (n : ℕ) (y : KeptLine) (ys : List KeptLine) (places : List ℕ) (fs : List LineFound) → slice_get g.kept n ≡ Some y → HasNarrowAnswers y → AllZip (IsLineFound Carried g) (place_if is_explained g.kept n ++ places) fs → ((rest : List LineFound) → AllZip (IsLineFound Carried g) places rest → AreCertificatesOf g.table ys (certificates_in g rest)) → AreCertificatesOf g.table (y ∷ ys) (certificates_in g fs)
  line_step n y ys places fs there within zip behind = by (is_explained y) refl (split (IsLineFound Carried g) (is_explained y) n places fs zipped)
    where
      zipped : AllZip (IsLineFound Carried g) ((if is_explained y then n ∷ [] else []) ++ places) fs
      zipped = subst (λ (o : Option KeptLine). AllZip (IsLineFound Carried g) ((if option_map_or is_explained o false then n ∷ [] else []) ++ places) fs) there zip

      certifies : (f : LineFound) → IsLineFound Carried g n f → IsLineCertified g.table y.block.line y.standing y.block.body (certificates_at g f)
      certifies f is =
          let same : is.0 ≡ y = some_same is.0 y (sym is.1 ∙ there) in
          let over = subst (λ (x : KeptLine). IsLineOf Carried g n x f) same is.2 in
          let at : certificates_at g f ≡ certified_over f y = ap (λ (k : ℕ). option_map_or (certified_over f) (slice_get g.kept k) []) over.place ∙ ap (λ (o : Option KeptLine). option_map_or (certified_over f) o []) there in
          subst (IsLineCertified g.table y.block.line y.standing y.block.body) (sym at) (line_certified g.table y.block.line y.standing y.block.body f.told within over.told)

      by : (explained : Bool) → is_explained y ≡ explained → Split (IsLineFound Carried g) explained n places fs → AreCertificatesOf g.table (y ∷ ys) (certificates_in g fs)
      by true is s = (certificates_at g s.0, certificates_in g s.1, certifies s.0 s.3, behind s.1 s.4, ap (certificates_in g) s.2)
      by false is more = ([], certificates_in g fs, none_certified g.table y.block.line y.standing y.block.body is, behind fs more, refl)

  lines_certified : (n : ℕ) (ys : List KeptLine) (fs : List LineFound) → ((k : ℕ) → slice_get ys k ≡ slice_get g.kept (n + k)) → AllByRecursion HasNarrowAnswers ys → AllZip (IsLineFound Carried g) (flat_map (place_if is_explained g.kept) (range_with_len n (length ys))) fs → AreCertificatesOf g.table ys (certificates_in g fs)
  lines_certified n [] [] same within zip = refl
  lines_certified n [] (f ∷ fs) same within zip = absurd zip
  lines_certified n (y ∷ ys) fs same within zip =
      line_step n y ys (flat_map (place_if is_explained g.kept) (range_with_len (n + 1) (length ys))) fs (first_same y ys g.kept n same) within.0 zip
      (λ rest more. lines_certified (n + 1) ys rest (next_same y ys g.kept n same) within.1 more)

  -- what is found certifies as was said line by line
  pub certified_as_before : (fs : List LineFound) → IsJudged g → AreLinesFound Carried g fs → AreCertificatesOf g.table g.kept (certificates_in g fs)
  certified_as_before fs judged lines = lines_certified 0 g.kept fs (λ k. from_start g.kept k) judged.narrow lines

-- ---- how many there are

one_at_most : (line place : ℕ) (reason : Reason) → length (certified_by line place reason) ≤ 1
one_at_most line place (found.Carried x) = omega arith
one_at_most line place (found.Wide ns x others) = omega arith
one_at_most line place (found.OneHas x) = omega arith
one_at_most line place (found.OneLacks x) = omega arith
one_at_most line place (found.ClassLeft x) = omega arith
one_at_most line place (found.WhollyWide system note) = omega arith

few_of_answer : (t : DecisionTable) (list : List Numbered) (line place : ℕ) (y : Answer) (xs : List Certificate) (carried : Bool) → IsCertifiedWhere carried t list line place y xs → length xs ≤ 1
few_of_answer t list line place y xs true is = let same = ap length is.are in let one = one_at_most line place is.reason in omega (arith, same, one)
few_of_answer t list line place y xs false is = let same = ap length is in omega (arith, same)

few_of_answers : (t : DecisionTable) (list : List Numbered) (line place : ℕ) (ys : List Answer) (xs : List Certificate) → AreCertified t list line place ys xs → length xs ≤ length ys
few_of_answers t list line place [] xs are = let same = ap length are in omega (arith, same)
few_of_answers t list line place (y ∷ ys) xs are =
    let same = ap length are.4 ∙ length-append are.0 are.1 in
    let first = few_of_answer t list line place y are.0 (is_carried y) are.2 in
    let rest = few_of_answers t list line (place + 1) ys are.1 are.3 in
    omega (arith, same, first, rest)

none_of_line : (xs : List Certificate) (n : ℕ) → xs ≡ [] → length xs ≤ n
none_of_line xs n none = let same = ap length none in omega (arith, same)

few_of_line : (t : DecisionTable) (line : ℕ) (stood : Option (List Numbered)) (body : Body) (xs : List Certificate) → IsLineCertified t line stood body xs → length xs ≤ length (answers_of body)
few_of_line t line (Some list) (bodies.Answers ys) xs are = few_of_answers t list line 1 ys xs are
few_of_line t line (Some list) (bodies.Added n) xs are = none_of_line xs _ are
few_of_line t line (Some list) (bodies.Withdrawn n) xs are = none_of_line xs _ are
few_of_line t line (Some list) (bodies.Replaced n) xs are = none_of_line xs _ are
few_of_line t line (Some list) bodies.Undone xs are = none_of_line xs _ are
few_of_line t line (Some list) (bodies.Repaired kept) xs are = none_of_line xs _ are
few_of_line t line (Some list) (bodies.RepairWide n note) xs are = none_of_line xs _ are
few_of_line t line (Some list) (bodies.Refused fault) xs are = none_of_line xs _ are
few_of_line t line None body xs are = none_of_line xs _ are

pub few_certificates : (t : DecisionTable) (kept : List KeptLine) (xs : List Certificate) → AreCertificatesOf t kept xs → length xs ≤ answers_in kept
few_certificates t [] xs are = let same = ap length are in omega (arith, same)
few_certificates t (y ∷ ys) xs are =
    let same = ap length are.4 ∙ length-append are.0 are.1 in
    let first = few_of_line t y.block.line y.standing y.block.body are.0 are.2 in
    let rest = few_certificates t ys are.1 are.3 in
    let all = length-append (answers_of y.block.body) (flat_map (λ (x : KeptLine). answers_of x.block.body) ys) in
    omega (arith, same, first, rest, all)
