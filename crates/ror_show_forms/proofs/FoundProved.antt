-- Certificates that are found stand in order, and each is proved.
use Rattle.std.proofs.Common.{◌≡◌, inl, inr, ℕ, ◌+◌, ◌≤◌, suc, eqb, Bool, true, false, List, [], ◌∷◌, ◌++◌, Option, Some, None, refl, sym, ap, subst, ◌∙◌, arith}
use Rattle.std.specs.Prelude.{slice_get, option_map}
use Rattle.std.specs.List.{AllByRecursion}
use Rattle.std.proofs.lemmas.Bool.{ne_eqb, cond-true, cond-false}
use Rattle.std.proofs.lemmas.Bool.Decides.{Decides-eqb}
use Rattle.ror_text.proofs.Everywhere.{all-append, all-by}
use Rattle.ror_statement.specs.declared.statement.Numbered.{Numbered}
use Rattle.ror_table.specs.Table.{DecisionTable}
use Rattle.ror_proof.specs.declared.answer.Answer.{Answer}
use Rattle.ror_reason.specs.declared.reducts.Reason.{Reason}
use Rattle.ror_reason.specs.declared.reducts.Reason.TheVariants as found
use Rattle.ror_show_forms.specs.declared.certificate.Certificate.{Certificate}
use Rattle.ror_show_forms.specs.CertificateText.{IsBefore, AreInOrder}
use Rattle.ror_report.specs.declared.block.Body.{Body}
use Rattle.ror_report.specs.declared.block.Body.TheVariants as bodies
use Rattle.ror_report.specs.Text.{answers_of}
use Rattle.ror_bench.specs.declared.kept.KeptLine.{KeptLine}
use Rattle.ror_show_find_reasons.specs.Carrying.{is_carried}
use Rattle.ror_show_ground.specs.Ready.{IsReady}
use Rattle.ror_show_forms.specs.Answered.{kept_line, answered, answered_at, answer_at, IsProvedCertificate}
use Rattle.ror_show_forms.specs.CertificatePages.{certified_by, certificates_in}
use Rattle.ror_show_forms.proofs.Found.{IsCertifiedWhere, AreCertified, IsLineCertified, AreCertificatesOf}
use Rattle.ror_show_forms.specs.CertificateLaws.{RiseFrom, FoundAreProved}
use Rattle.ror_show_forms.proofs.Certified.{certified_as_before}
use Rattle.ror_show_forms.proofs.FoundLemmas.{of_lines}
use Rattle.ror_show_forms.proofs.Refusals.{with_list}

-- ---- in order

joined : (P Q : Certificate → Type 0) (xs ys : List Certificate) → ((x y : Certificate) → P x → Q y → IsBefore x y) → AllByRecursion P xs → AllByRecursion Q ys → AreInOrder xs → AreInOrder ys → AreInOrder (xs ++ ys)
joined P Q [] ys before of_xs of_ys in_xs in_ys = in_ys
joined P Q (x ∷ []) [] before of_xs of_ys in_xs in_ys = tt
joined P Q (x ∷ []) (y ∷ ys) before of_xs of_ys in_xs in_ys = (before x y of_xs.0 of_ys.0, in_ys)
joined P Q (x ∷ z ∷ xs) ys before of_xs of_ys in_xs in_ys = (in_xs.0, joined P Q (z ∷ xs) ys before of_xs.1 of_ys in_xs.1 in_ys)

-- the certificates of a line, from a place on
abbrev IsOn : ℕ → ℕ → Certificate → Type 0
IsOn line place x = (x.line ≡ line) × (place ≤ x.place)

-- they are there, in order
abbrev AreOn : ℕ → ℕ → List Certificate → Type 0
AreOn line place xs = AllByRecursion (IsOn line place) xs × AreInOrder xs

abbrev IsAt : ℕ → ℕ → Certificate → Type 0
IsAt line place x = (x.line ≡ line) × (x.place ≡ place)

abbrev IsOne : ℕ → ℕ → List Certificate → Type 0
IsOne line place xs = AllByRecursion (IsAt line place) xs × AreInOrder xs

one_of_reason : (line place : ℕ) (reason : Reason) → IsOne line place (certified_by line place reason)
one_of_reason line place (found.Carried x) = (((refl, refl), tt), tt)
one_of_reason line place (found.Wide ns x others) = (tt, tt)
one_of_reason line place (found.OneHas x) = (tt, tt)
one_of_reason line place (found.OneLacks x) = (tt, tt)
one_of_reason line place (found.ClassLeft x) = (tt, tt)
one_of_reason line place (found.WhollyWide system note) = (tt, tt)

one_of_answer : (t : DecisionTable) (carried : Bool) (list : List Numbered) (line place : ℕ) (x : Answer) (xs : List Certificate) → IsCertifiedWhere carried t list line place x xs → IsOne line place xs
one_of_answer t true list line place x xs is = subst (IsOne line place) (sym is.are) (one_of_reason line place is.reason)
one_of_answer t false list line place x xs is = subst (IsOne line place) (sym is) (tt, tt)

at_then_on : (line place : ℕ) (x y : Certificate) → IsAt line place x → IsOn line (place + 1) y → IsBefore x y
at_then_on line place x y at on = inr (at.0 ∙ sym on.0, let p = at.1 in let q = on.1 in omega (arith, p, q))

on_of_answers : (t : DecisionTable) (list : List Numbered) (line place : ℕ) (ys : List Answer) (xs : List Certificate) → AreCertified t list line place ys xs → AreOn line place xs
on_of_answers t list line place [] xs are = subst (AreOn line place) (sym are) (tt, tt)
on_of_answers t list line place (y ∷ ys) xs are =
    let first = one_of_answer t (is_carried y) list line place y are.0 are.2 in
    let rest = on_of_answers t list line (place + 1) ys are.1 are.3 in
    let here = all-by (IsAt line place) (IsOn line place) are.0 (λ x at. (at.0, let p = at.1 in omega (arith, p))) first.0 in
    let later = all-by (IsOn line (place + 1)) (IsOn line place) are.1 (λ x on. (on.0, let p = on.1 in omega (arith, p))) rest.0 in
    subst (AreOn line place) (sym are.4) (all-append (IsOn line place) are.0 are.1 here later, joined (IsAt line place) (IsOn line (place + 1)) are.0 are.1 (at_then_on line place) first.0 rest.0 first.1 rest.1)

none_on : (line : ℕ) (xs : List Certificate) → xs ≡ [] → AreOn line 1 xs
none_on line xs none = subst (AreOn line 1) (sym none) (tt, tt)

on_of_line : (t : DecisionTable) (line : ℕ) (stood : Option (List Numbered)) (body : Body) (xs : List Certificate) → IsLineCertified t line stood body xs → AreOn line 1 xs
on_of_line t line (Some list) (bodies.Answers ys) xs are = on_of_answers t list line 1 ys xs are
on_of_line t line (Some list) (bodies.Added n) xs are = none_on line xs are
on_of_line t line (Some list) (bodies.Withdrawn n) xs are = none_on line xs are
on_of_line t line (Some list) (bodies.Replaced n) xs are = none_on line xs are
on_of_line t line (Some list) bodies.Undone xs are = none_on line xs are
on_of_line t line (Some list) (bodies.Repaired kept) xs are = none_on line xs are
on_of_line t line (Some list) (bodies.RepairWide n note) xs are = none_on line xs are
on_of_line t line (Some list) (bodies.Refused fault) xs are = none_on line xs are
on_of_line t line None body xs are = none_on line xs are

abbrev IsFrom : ℕ → Certificate → Type 0
IsFrom low x = low ≤ x.line

from_lines : (t : DecisionTable) (low : ℕ) (kept : List KeptLine) (xs : List Certificate) → RiseFrom low kept → AreCertificatesOf t kept xs → AllByRecursion (IsFrom low) xs × AreInOrder xs
from_lines t low [] xs rise are = subst (λ (ys : List Certificate). AllByRecursion (IsFrom low) ys × AreInOrder ys) (sym are) (tt, tt)
from_lines t low (y ∷ ys) xs rise are =
    let line = y.block.line in
    let first = on_of_line t line y.standing y.block.body are.0 are.2 in
    let rest = from_lines t (line + 1) ys are.1 rise.1 are.3 in
    let least = rise.0 in
    let here = all-by (IsOn line 1) (IsFrom low) are.0 (λ x on. let p = on.0 in omega (arith, p, least)) first.0 in
    let later = all-by (IsFrom (line + 1)) (IsFrom low) are.1 (λ x from. omega (arith, from, least)) rest.0 in
    subst (λ (zs : List Certificate). AllByRecursion (IsFrom low) zs × AreInOrder zs) (sym are.4)
    (all-append (IsFrom low) are.0 are.1 here later, joined (IsOn line 1) (IsFrom (line + 1)) are.0 are.1 (λ x z on from. inl (let p = on.0 in omega (arith, p, from))) first.0 rest.0 first.1 rest.1)

pub found_in_order : (t : DecisionTable) (kept : List KeptLine) (xs : List Certificate) → RiseFrom 0 kept → AreCertificatesOf t kept xs → AreInOrder xs
found_in_order t kept xs rise are = (from_lines t 0 kept xs rise are).1

-- ---- and proved

-- the line of a number is found, where no two have the same
lines_found : (low : ℕ) (kept : List KeptLine) → RiseFrom low kept → AllByRecursion (λ y. (low ≤ y.block.line) × (kept_line kept y.block.line ≡ Some y)) kept
lines_found low [] rise = tt
lines_found low (x ∷ xs) rise =
    let line = x.block.line in
    let least = rise.0 in
    let own : kept_line (x ∷ xs) line ≡ Some x = cond-true (eqb line line) _ _ ((Decides-eqb line line).1 refl) in
    ((rise.0, own), all-by (λ (y : KeptLine). (line + 1 ≤ y.block.line) × (kept_line xs y.block.line ≡ Some y)) (λ (y : KeptLine). (low ≤ y.block.line) × (kept_line (x ∷ xs) y.block.line ≡ Some y)) xs (λ y is. behind y is.0 is.1) (lines_found (line + 1) xs rise.1))
  where
    behind : (y : KeptLine) → x.block.line + 1 ≤ y.block.line → kept_line xs y.block.line ≡ Some y → (low ≤ y.block.line) × (kept_line (x ∷ xs) y.block.line ≡ Some y)
    behind y more found =
        let least = rise.0 in
        let other : eqb x.block.line y.block.line ≡ false = ne_eqb x.block.line y.block.line (λ (same : x.block.line ≡ y.block.line). omega (arith, more, same)) in
        (omega (arith, more, least), cond-false (eqb x.block.line y.block.line) (Some x) (kept_line xs y.block.line) other ∙ found)

answered_so : (list : List Numbered) (body : Body) (k : ℕ) (x : Answer) → slice_get (answers_of body) k ≡ Some x → answered (Some list) body (1 + k) ≡ Some (list, x)
answered_so list (bodies.Answers xs) k x is =
    let next : suc k ≡ 1 + k = omega arith in
    subst (λ (n : ℕ). answered (Some list) (bodies.Answers xs) n ≡ Some (list, x)) next (ap (option_map (with_list list)) is)
answered_so list (bodies.Added n) k x is = absurd cc
answered_so list (bodies.Withdrawn n) k x is = absurd cc
answered_so list (bodies.Replaced n) k x is = absurd cc
answered_so list bodies.Undone k x is = absurd cc
answered_so list (bodies.Repaired kept) k x is = absurd cc
answered_so list (bodies.RepairWide n note) k x is = absurd cc
answered_so list (bodies.Refused fault) k x is = absurd cc

abbrev AnswersAt : List KeptLine → List Numbered → ℕ → ℕ → Answer → Type 0
AnswersAt kept list line place x = answer_at kept line place ≡ Some (list, x)

there_so : (kept : List KeptLine) (y : KeptLine) → kept_line kept y.block.line ≡ Some y → (list : List Numbered) → y.standing ≡ Some list → (k : ℕ) (x : Answer) → slice_get (answers_of y.block.body) k ≡ Some x → AnswersAt kept list y.block.line (1 + k) x
there_so kept y found list stood k x is =
    ap (λ (o : Option KeptLine). answered_at o (1 + k)) found ∙ ap (λ (o : Option (List Numbered)). answered o y.block.body (1 + k)) stood ∙ answered_so list y.block.body k x is

-- over lines among which each of these is found by its number
pub found_proved_over : (t : DecisionTable) (all kept : List KeptLine) (xs : List Certificate) → AllByRecursion (IsReady t) kept → AllByRecursion (λ y. kept_line all y.block.line ≡ Some y) kept → AreCertificatesOf t kept xs → AllByRecursion (IsProvedCertificate t all) xs
found_proved_over t all kept xs ready found are =
    let there = all-by (λ (y : KeptLine). kept_line all y.block.line ≡ Some y) (λ (y : KeptLine). (list : List Numbered) → y.standing ≡ Some list → (k : ℕ) (x : Answer) → slice_get (answers_of y.block.body) k ≡ Some x → AnswersAt all list y.block.line (1 + k) x) kept (λ y is. there_so all y is) found in
    of_lines t (AnswersAt all) (IsProvedCertificate t all) (λ list line place x y sound there p narrow. record { list = list; answer = x; there = there; proved = p }) kept xs ready there are

pub each_found : (kept : List KeptLine) → RiseFrom 0 kept → AllByRecursion (λ y. kept_line kept y.block.line ≡ Some y) kept
each_found kept rise = all-by (λ (y : KeptLine). (0 ≤ y.block.line) × (kept_line kept y.block.line ≡ Some y)) (λ (y : KeptLine). kept_line kept y.block.line ≡ Some y) kept (λ y is. is.1) (lines_found 0 kept rise)

pub found_proved : (t : DecisionTable) (kept : List KeptLine) (xs : List Certificate) → AllByRecursion (IsReady t) kept → RiseFrom 0 kept → AreCertificatesOf t kept xs → AllByRecursion (IsProvedCertificate t kept) xs
found_proved t kept xs ready rise are = found_proved_over t kept kept xs ready (each_found kept rise) are

pub found_are_proved : FoundAreProved
found_are_proved g fs judged rise lines =
    let xs = certificates_in g fs in
    let are = certified_as_before g fs judged lines in
    (found_in_order g.table g.kept xs rise are, found_proved g.table g.kept xs judged.ready rise are)
