-- What is written of certificates that are found is read again.
use Rattle.std.proofs.Common.{◌≡◌, inl, inr, ℕ, ◌+◌, ◌-◌, ◌<◌, ◌^◌, true, List, [], ◌∷◌, Some, refl, sym, subst, length-append, arith}
use Rattle.std.specs.Prelude.{slice_get, nat_eq}
use Rattle.std.specs.List.{AllByRecursion, flat_map}
use Rattle.std.specs.Set.{is_member}
use Rattle.std.proofs.lemmas.Option.{slice_get_within}
use Rattle.ror_text.proofs.Everywhere.{all-by, all_at, all_by_places}
use Rattle.ror_statement.specs.declared.statement.Statement.{Statement}
use Rattle.ror_statement.specs.declared.statement.Numbered.{Numbered}
use Rattle.ror_statement.specs.declared.question.Question.{Question}
use Rattle.ror_statement.specs.Statements.{numbers_in, statements_in}
use Rattle.ror_table.specs.Table.{DecisionTable, IsTable}
use Rattle.ror_value.specs.Over.{IsLawfulIn, IsAskedIn}
use Rattle.ror_show_ground.specs.Sound.{IsSoundAnswer}
use Rattle.ror_proof.specs.declared.answer.Answer.{Answer}
use Rattle.ror_proof.specs.declared.answer.Verdict.{Verdict}
use Rattle.ror_proof.specs.declared.answer.Verdict.TheVariants as verdicts
use Rattle.ror_proof.specs.Text.{IsPrintable}
use Rattle.ror_check.specs.Proof.{OfProof, Proves, IsProvedAnswer, IsTrueVerdict, IsWideOrTrue, IsAllowedVerdict}
use Rattle.ror_check.proofs.Checking.{answer_is_true}
use Rattle.ror_check.proofs.Numbers.{member-cases}
use Rattle.ror_pivot.specs.declared.note.Bits.TheVariants.{B127}
use Rattle.ror_pivot.specs.Answers.{most_of}
use Rattle.ror_given.specs.Notes.{HasNoteAt}
use Rattle.ror_given.specs.Answers.{IsVerdictWithin}
use Rattle.ror_relation.proofs.Printing.{given_printable}
use Rattle.ror_reason.specs.declared.reducts.Reason.TheVariants as found
use Rattle.ror_reason.specs.declared.reducts.Reduct.{Reduct}
use Rattle.ror_reason.specs.Reasons.{IsReasonWithin}
use Rattle.ror_reason.specs.Reducts.{stated, without}
use Rattle.ror_reason.proofs.LawLemmas.{at_place}
use Rattle.ror_reason.proofs.Parts.{stated_lawful}
use Rattle.ror_show_forms.specs.declared.certificate.Certificate.{Certificate}
use Rattle.ror_show_forms.specs.CertificatePages.{certificates_in}
use Rattle.ror_show_forms.specs.CertificateText.{certificates_text, IsPrintableCertificate, IsCertificatesText}
use Rattle.ror_report.specs.Text.{answers_of}
use Rattle.ror_bench.specs.declared.kept.KeptLine.{KeptLine}
use Rattle.ror_show_ground.specs.Ready.{IsReady}
use Rattle.ror_show_forms.specs.Answered.{IsProvedOf}
use Rattle.ror_show_forms.proofs.Found.{AreCertificatesOf}
use Rattle.ror_show_forms.specs.CertificateLaws.{HasSmallNumbers, RiseFrom, WrittenAreAccepted}
use Rattle.ror_show_ground.specs.Ready.{answers_in}
use Rattle.ror_show_forms.proofs.Certified.{certified_as_before}
use Rattle.ror_show_forms.proofs.FoundLemmas.{of_lines}
use Rattle.ror_show_forms.proofs.FoundProved.{found_in_order, found_proved_over}
use Rattle.ror_show_forms.proofs.ListTexts.{read_of_text}

abbrev IsSmall : ℕ → Type 0
IsSmall n = n < 2 ^ 32

-- ---- an answer

allowed : (t : DecisionTable) (list : List Statement) (q : Question) (v : Verdict) → OfProof (Proves t list q) v → IsAllowedVerdict (HasNoteAt (most_of B127)) t list q v
allowed t list q (verdicts.Yes proof) is = is
allowed t list q (verdicts.No proof) is = is
allowed t list q (verdicts.Contradiction proof) is = is
allowed t list q (verdicts.Wide system note) is = absurd is

true_too : (t : DecisionTable) (list : List Statement) (q : Question) (v : Verdict) → IsTrueVerdict t list q v → IsWideOrTrue t list q v
true_too t list q (verdicts.Yes proof) is = is
true_too t list q (verdicts.No proof) is = is
true_too t list q (verdicts.Contradiction proof) is = is
true_too t list q (verdicts.Wide system note) is = tt

-- what is proved and narrow has a text
proved_printable : (t : DecisionTable) (list : List Statement) (q : Question) (x : Answer) → IsTable t → IsLawfulIn t list → IsAskedIn t q → IsProvedAnswer t list q x → IsVerdictWithin (most_of B127) x.verdict → IsPrintable t x
proved_printable t list q x table lawful asked proved within =
    given_printable B127 t list q table lawful asked x (record {
      allowed = record { question = proved.question; verdict = allowed t list q x.verdict proved.proof };
      narrow = within;
      true_answer = true_too t list q x.verdict (answer_is_true t list q x lawful asked proved);
    })

-- ---- a certificate

member_small : (ms : List ℕ) (n : ℕ) → AllByRecursion IsSmall ms → is_member nat_eq ms n ≡ true → IsSmall n
member_small [] n small among = absurd cc
member_small (m ∷ ms) n small among = elim (member-cases m n ms among) [
  | inl same ↦ subst IsSmall (sym same) small.0
  | inr later ↦ member_small ms n small.1 later
]

-- what is known of the place of an answer: what stood there, and its numbers
record IsPlaced (t : DecisionTable) (list : List Numbered) (line place : ℕ) : Type 0 where
  lawful : IsLawfulIn t (statements_in list)
  small : AllByRecursion IsSmall (numbers_in list)
  line_small : line < 2 ^ 32
  place_small : place < 2 ^ 32

abbrev There : DecisionTable → List Numbered → ℕ → ℕ → Answer → Type 0
There t list line place x = IsPlaced t list line place

module _ (t : DecisionTable) (table : IsTable t) (list : List Numbered) (x : Answer) (y : Reduct) (lawful : IsLawfulIn t (statements_in list)) (sound : IsSoundAnswer t (statements_in list) x) (p : IsProvedOf t list x y) (narrow : IsReasonWithin (most_of B127) (found.Carried y)) where
  other_printable : (k : ℕ) (other : Answer) → slice_get y.others k ≡ Some other → IsPrintable t other
  other_printable k other there =
      let within = slice_get_within y.others k other there in
      let as_many = p.reduct.as_many in
      let number = at_place y.numbers k (omega (arith, within, as_many)) in
      let proved = (p.reduct.others k number.0 other number.1 there).proved in
      let is_narrow = all_at (λ (z : Answer). IsVerdictWithin (most_of B127) z.verdict) y.others k other narrow.1 there in
      proved_printable t (stated (without number.0 y.numbers) list) x.question other table (stated_lawful t list (without number.0 y.numbers) lawful) sound.asked proved is_narrow

  part_printable : IsPrintable t y.answer
  part_printable = proved_printable t (stated y.numbers list) x.question y.answer table (stated_lawful t list y.numbers lawful) sound.asked p.reduct.answer narrow.0

certificate_printable : (t : DecisionTable) → IsTable t → (list : List Numbered) (line place : ℕ) (x : Answer) (y : Reduct) → IsSoundAnswer t (statements_in list) x → There t list line place x → IsProvedOf t list x y → IsReasonWithin (most_of B127) (found.Carried y) → IsPrintableCertificate t (record { line = line; place = place; reduct = y })
certificate_printable t table list line place x y sound there p narrow = record {
  line = there.line_small;
  place = there.place_small;
  numbers = all-by (λ (n : ℕ). is_member nat_eq (numbers_in list) n ≡ true) IsSmall y.numbers (λ n among. member_small (numbers_in list) n there.small among) p.reduct.numbers.each_stands;
  as_many = p.reduct.as_many;
  answer = part_printable t table list x y there.lawful sound p narrow;
  others = all_by_places (IsPrintable t) y.others (other_printable t table list x y there.lawful sound p narrow);
}

-- ---- all of them

all_there : (t : DecisionTable) (kept : List KeptLine) → AllByRecursion (IsReady t) kept → AllByRecursion HasSmallNumbers kept → answers_in kept < 2 ^ 32 - 1 → AllByRecursion (λ y. (list : List Numbered) → y.standing ≡ Some list → (k : ℕ) (x : Answer) → slice_get (answers_of y.block.body) k ≡ Some x → There t list y.block.line (1 + k) x) kept
all_there t [] ready small few = tt
all_there t (y ∷ ys) ready small few =
    let both = length-append (answers_of y.block.body) (flat_map (λ (z : KeptLine). answers_of z.block.body) ys) in
    ((λ list stood k x is. let within = slice_get_within (answers_of y.block.body) k x is in record { lawful = (ready.0 list stood).lawful; small = small.0.standing list stood; line_small = small.0.line; place_small = omega (arith, within, both, few) }), all_there t ys ready.1 small.1 (omega (arith, both, few)))

pub found_printable : (t : DecisionTable) (kept : List KeptLine) (xs : List Certificate) → IsTable t → AllByRecursion (IsReady t) kept → AllByRecursion HasSmallNumbers kept → answers_in kept < 2 ^ 32 - 1 → AreCertificatesOf t kept xs → AllByRecursion (IsPrintableCertificate t) xs
found_printable t kept xs table ready small few are = of_lines t (There t) (IsPrintableCertificate t) (certificate_printable t table) kept xs ready (all_there t kept ready small few) are

-- so the text is one of certificates
pub found_text : (t : DecisionTable) (kept : List KeptLine) (xs : List Certificate) → IsTable t → AllByRecursion (IsReady t) kept → AllByRecursion HasSmallNumbers kept → answers_in kept < 2 ^ 32 - 1 → RiseFrom 0 kept → AreCertificatesOf t kept xs → IsCertificatesText t (certificates_text t xs) xs
found_text t kept xs table ready small few rise are = record { text = refl; printable = found_printable t kept xs table ready small few are; in_order = found_in_order t kept xs rise are }

pub written_are_accepted : WrittenAreAccepted
written_are_accepted g more fs table judged small rise among lines short =
    let t = g.table in
    let xs = certificates_in g fs in
    let are = certified_as_before g fs judged lines in
    (read_of_text t (certificates_text t xs) xs table short (found_text t g.kept xs table judged.ready small judged.few_answers rise are), found_proved_over t more g.kept xs judged.ready among are)
