-- The form of answers, blocks and reports, both ways; the first block that is none.
use Rattle.std.proofs.Common.{◌≡◌, ℕ, ◌<◌, ◌^◌, Bool, true, false, cond, List, Some, Ok, refl, sym, ap, subst, ◌∙◌, inl, inr}
use Rattle.std.specs.Prelude.{codes, not}
use Rattle.std.specs.List.{AllByRecursion}
use Rattle.std.specs.Str.{bytes_eq}
use Rattle.std.proofs.lemmas.Bool.{cases_Bool, cond-true, cond-false, not-false}
use Rattle.std.proofs.lemmas.Slice.Eq.{bytes_eq-Decides}
use Rattle.serde_json.specs.Data.{Data, null, boolean, number, string, array, object, Items, Members, no_members, member, put}
use Rattle.serde_json.specs.Find.{as_array, as_bool, as_object}
use Rattle.ror_text.specs.Reading.{◌>>=◌, refuse}
use Rattle.ror_text.proofs.ReadingLemmas.{bind_ok, refuse_ok}
use Rattle.ror_statement.specs.declared.question.Question.{Question}
use Rattle.ror_table.specs.Table.{DecisionTable, IsTable}
use Rattle.ror_proof.specs.declared.answer.Answer.{Answer}
use Rattle.ror_proof.specs.declared.answer.Certificate.{Certificate}
use Rattle.ror_proof.specs.declared.answer.Part.{Part}
use Rattle.ror_proof.specs.declared.answer.Proof.{Proof}
use Rattle.ror_proof.specs.declared.answer.Verdict.{Verdict}
use Rattle.ror_proof.specs.declared.answer.Verdict.TheVariants as verdicts
use Rattle.ror_proof.specs.declared.answer.WideText.{WideText}
use Rattle.ror_proof.specs.declared.names.VerdictName.{VerdictName}
use Rattle.ror_proof.specs.declared.names.VerdictName.TheVariants as said
use Rattle.ror_proof.specs.Names.{name_of, verdict_names, verdict_word}
use Rattle.ror_proof.specs.Text.{IsNamed, IsPrintable, IsPrintableNote, IsPrintableProof, IsPrintableVerdict}
use Rattle.ror_report.specs.declared.block.Block.{Block}
use Rattle.ror_report.specs.declared.block.Body.{Body}
use Rattle.ror_report.specs.declared.block.Body.TheVariants as bodies
use Rattle.ror_report.specs.declared.block.LineFault.{LineFault}
use Rattle.ror_report.specs.declared.block.LineFault.TheVariants as faults
use Rattle.ror_report.specs.Names.{fault_word, line_faults}
use Rattle.ror_json.specs.declared.fault.Misfit.TheVariants as misfits
use Rattle.ror_json.specs.declared.keys.AnswerKey.{AnswerKey}
use Rattle.ror_json.specs.declared.keys.AnswerKey.TheVariants as answer_keys
use Rattle.ror_json.specs.declared.keys.BodyKey.{BodyKey}
use Rattle.ror_json.specs.declared.keys.BodyKey.TheVariants as keys
use Rattle.ror_json.specs.Names.{answer_key_list, answer_word, body_key, early_keys, key_word, late_keys}
use Rattle.ror_json.specs.Form.{count_form, certificate_form, part_form, list_form, question_text, proved_form, unsettled_form, verdict_form, answer_form, body_form, block_form, IsFormedBody, IsFormedBlock}
use Rattle.ror_json.specs.Reading.{shape, member_at, named_member, no_member, list_of, count_of, the_count_of, text_of, name_in, certificate_of, part_of, wide_of, question_of, question_in, concluded, asked_in, proof_of, proved_in, is_unsettled, unsettled_in, answer_named, answer_of, kept_of, repair_wide_of, undone_of, body_named, early_block, late_block, begins_with_line, block_of, outer_of}
use Rattle.ror_json.proofs.Pieces.{IsRead, made, made_is, object_is, array_is, member_is, named_again, named_is, no_member_is, with_value, counts, one_again, the_count_is, text_is, text_again, name_again, name_is, lists}
use Rattle.ror_json.proofs.QuestionTexts.{question_sound, question_again}
use Rattle.ror_json.proofs.Forms.{certificate, some_parts, wide, kept, repair_wide}

module _ (t : DecisionTable) (table : IsTable t) where
  -- ---- answers

  abbrev asked_form : Question → Data
  asked_form q = string (question_text t q)

  question : IsRead (question_in t) asked_form (IsNamed t)
  unfolding question_in
  question = record { again = again; sound = sound }
    where
      again : (q : Question) → IsNamed t q → question_in t (asked_form q) ≡ Ok q
      again q named = rw (text_again (question_text t q)) (question_again t q table named)

      sound : (d : Data) (q : Question) → question_in t d ≡ Ok q → (d ≡ asked_form q) × IsNamed t q
      sound d q e =
          let text = bind_ok (text_of d) (λ text. question_of t text) q e in
          let is = question_sound t text.0 q text.2 in
          (text_is d text.0 text.1 ∙ ap string is.0, is.1)

  abbrev the_proof : Certificate → List Part → Proof
  the_proof base parts = record { base = base; parts = parts }

  abbrev the_answer : Question → Verdict → Answer
  the_answer q v = record { question = q; verdict = v }

  -- an answer of this form, whose first member is this one
  record IsAnswerAt (key : AnswerKey) (d : Data) (ms : Members) (x : Answer) : Type 0 where
    form : object (member (answer_word key) d ms) ≡ answer_form t x
    printable : IsPrintable t x

  concluded_is : (name : VerdictName) (proof : Proof) (v : Verdict) (question : List ℕ) → concluded name proof ≡ Ok v → IsPrintableProof proof → (proved_form question name proof ≡ verdict_form question v) × IsPrintableVerdict v
  concluded_is said.Yes proof v question e h = subst (λ (y : Verdict). (proved_form question said.Yes proof ≡ verdict_form question y) × IsPrintableVerdict y) (made_is (verdicts.Yes proof) v e) (refl, h)
  concluded_is said.No proof v question e h = subst (λ (y : Verdict). (proved_form question said.No proof ≡ verdict_form question y) × IsPrintableVerdict y) (made_is (verdicts.No proof) v e) (refl, h)
  concluded_is said.Contradiction proof v question e h = subst (λ (y : Verdict). (proved_form question said.Contradiction proof ≡ verdict_form question y) × IsPrintableVerdict y) (made_is (verdicts.Contradiction proof) v e) (refl, h)
  concluded_is said.Wide proof v question e h = absurd cc

  said_name : (name : VerdictName) → name_of verdict_word verdict_names (verdict_word name) ≡ Some name
  said_name said.Yes = refl
  said_name said.No = refl
  said_name said.Contradiction = refl
  said_name said.Wide = refl

  abbrev asked_members : Question × VerdictName → Members
  asked_members x = member (codes "question") (asked_form x.0) (member (codes "verdict") (string (verdict_word x.1)) no_members)

  abbrev IsAsked : Question × VerdictName → Type 0
  IsAsked x = IsNamed t x.0

  asked : IsRead (asked_in t) asked_members IsAsked
  unfolding asked_in
  asked = record { again = again; sound = sound }
    where
      again : (x : Question × VerdictName) → IsAsked x → asked_in t (asked_members x) ≡ Ok x
      again x named = rw (question.again x.0 named, name_again verdict_word verdict_names x.1 (said_name x.1)) refl

      sound : (ms : Members) (x : Question × VerdictName) → asked_in t ms ≡ Ok x → (ms ≡ asked_members x) × IsAsked x
      sound ms x e =
          let asks = bind_ok (member_at (codes "question") ms) (λ asks. question_in t asks.0 >>= λ q. member_at (codes "verdict") asks.1 >>= λ says. name_in verdict_word verdict_names says.0 >>= λ name. no_member says.1 >>= λ no. made (q, name)) x e in
          let q = bind_ok (question_in t asks.0.0) (λ q. member_at (codes "verdict") asks.0.1 >>= λ says. name_in verdict_word verdict_names says.0 >>= λ name. no_member says.1 >>= λ no. made (q, name)) x asks.2 in
          let says = bind_ok (member_at (codes "verdict") asks.0.1) (λ says. name_in verdict_word verdict_names says.0 >>= λ name. no_member says.1 >>= λ no. made (q.0, name)) x q.2 in
          let name = bind_ok (name_in verdict_word verdict_names says.0.0) (λ name. no_member says.0.1 >>= λ no. made (q.0, name)) x says.2 in
          let no = bind_ok (no_member says.0.1) (λ no. made (q.0, name.0)) x name.2 in
          let first = question.sound asks.0.0 q.0 q.1 in
          let word = name_is verdict_word verdict_names says.0.0 name.0 name.1 in
          let form : ms ≡ asked_members (q.0, name.0) = with_value (member_is (codes "question") ms asks.0 asks.1) first.0 (with_value (member_is (codes "verdict") asks.0.1 says.0 says.1) word (no_member_is says.0.1 no.0 no.1)) in
          subst (λ (y : Question × VerdictName). (ms ≡ asked_members y) × IsAsked y) (made_is (q.0, name.0) x no.2) (form, first.1)

  proof_is : (d ds : Data) (p : Proof) → proof_of d ds ≡ Ok p → (d ≡ certificate_form p.base) × (ds ≡ list_form part_form p.parts) × IsPrintableProof p
  unfolding proof_of
  proof_is d ds p e =
      let parts = bind_ok (list_of part_of ds) (λ parts. certificate_of d >>= λ base. made (the_proof base parts)) p e in
      let base = bind_ok (certificate_of d) (λ base. made (the_proof base parts.0)) p parts.2 in
      let first = certificate.sound d base.0 base.1 in
      let second = some_parts.sound ds parts.0 parts.1 in
      subst (λ (y : Proof). (d ≡ certificate_form y.base) × (ds ≡ list_form part_form y.parts) × IsPrintableProof y) (made_is (the_proof base.0 parts.0) p base.2) (first.0, second.0, record { base = first.1; parts = second.1 })

  proof_again : (p : Proof) → IsPrintableProof p → proof_of (certificate_form p.base) (list_form part_form p.parts) ≡ Ok p
  unfolding proof_of
  proof_again p h = rw (some_parts.again p.parts h.parts, certificate.again p.base h.base) refl

  proved_is : (d : Data) (ms : Members) (x : Answer) → proved_in t d ms ≡ Ok x → IsAnswerAt answer_keys.Base d ms x
  unfolding proved_in
  proved_is d ms x e =
      let ps = bind_ok (member_at (codes "parts") ms) (λ ps. asked_in t ps.1 >>= λ asks. proof_of d ps.0 >>= λ proof. concluded asks.1 proof >>= λ verdict. made (the_answer asks.0 verdict)) x e in
      let asks = bind_ok (asked_in t ps.0.1) (λ asks. proof_of d ps.0.0 >>= λ proof. concluded asks.1 proof >>= λ verdict. made (the_answer asks.0 verdict)) x ps.2 in
      let proof = bind_ok (proof_of d ps.0.0) (λ proof. concluded asks.0.1 proof >>= λ verdict. made (the_answer asks.0.0 verdict)) x asks.2 in
      let verdict = bind_ok (concluded asks.0.1 proof.0) (λ verdict. made (the_answer asks.0.0 verdict)) x proof.2 in
      let first = proof_is d ps.0.0 proof.0 proof.1 in
      let second = asked.sound ps.0.1 asks.0 asks.1 in
      let whole : object (member (codes "base") d ms) ≡ proved_form (question_text t asks.0.0) asks.0.1 proof.0 = ap object (with_value {ms = member (codes "base") d ms} refl first.0 (with_value (member_is (codes "parts") ms ps.0 ps.1) first.1 second.0)) in
      let is = concluded_is asks.0.1 proof.0 verdict.0 (question_text t asks.0.0) verdict.1 first.2 in
      subst (IsAnswerAt answer_keys.Base d ms) (made_is (the_answer asks.0.0 verdict.0) x verdict.2) (record { form = whole ∙ is.0; printable = record { named = second.1; concluded = is.1 } })

  unsettled_word : (d : Data) (x : Unit {0}) → is_unsettled d ≡ Ok x → d ≡ string (verdict_word said.Wide)
  unfolding is_unsettled
  unsettled_word d x e =
      let text = bind_ok (text_of d) (λ text. refuse misfits.Shape (not (bytes_eq text (verdict_word said.Wide)))) x e in
      let same = not-false _ (refuse_ok misfits.Shape (not (bytes_eq text.0 (verdict_word said.Wide))) x text.2) in
      text_is d text.0 text.1 ∙ ap string ((bytes_eq-Decides text.0 (verdict_word said.Wide)).0 same)

  unsettled_is : (d : Data) (ms : Members) (x : Answer) → unsettled_in t d ms ≡ Ok x → IsAnswerAt answer_keys.Question d ms x
  unfolding unsettled_in
  unsettled_is d ms x e =
      let q = bind_ok (question_in t d) (λ q. member_at (codes "verdict") ms >>= λ says. is_unsettled says.0 >>= λ word. member_at (codes "wide") says.1 >>= λ w. no_member w.1 >>= λ no. wide_of w.0 >>= λ note. made (the_answer q (verdicts.Wide note.0 note.1))) x e in
      let says = bind_ok (member_at (codes "verdict") ms) (λ says. is_unsettled says.0 >>= λ word. member_at (codes "wide") says.1 >>= λ w. no_member w.1 >>= λ no. wide_of w.0 >>= λ note. made (the_answer q.0 (verdicts.Wide note.0 note.1))) x q.2 in
      let word = bind_ok (is_unsettled says.0.0) (λ word. member_at (codes "wide") says.0.1 >>= λ w. no_member w.1 >>= λ no. wide_of w.0 >>= λ note. made (the_answer q.0 (verdicts.Wide note.0 note.1))) x says.2 in
      let w = bind_ok (member_at (codes "wide") says.0.1) (λ w. no_member w.1 >>= λ no. wide_of w.0 >>= λ note. made (the_answer q.0 (verdicts.Wide note.0 note.1))) x word.2 in
      let no = bind_ok (no_member w.0.1) (λ no. wide_of w.0.0 >>= λ note. made (the_answer q.0 (verdicts.Wide note.0 note.1))) x w.2 in
      let note = bind_ok (wide_of w.0.0) (λ note. made (the_answer q.0 (verdicts.Wide note.0 note.1))) x no.2 in
      let first = question.sound d q.0 q.1 in
      let second = wide.sound w.0.0 note.0 note.1 in
      let whole : object (member (codes "question") d ms) ≡ unsettled_form (question_text t q.0) note.0.0 note.0.1 = ap object (with_value {ms = member (codes "question") d ms} refl first.0 (with_value (member_is (codes "verdict") ms says.0 says.1) (unsettled_word says.0.0 word.0 word.1) (with_value (member_is (codes "wide") says.0.1 w.0 w.1) second.0 (no_member_is w.0.1 no.0 no.1)))) in
      subst (IsAnswerAt answer_keys.Question d ms) (made_is (the_answer q.0 (verdicts.Wide note.0.0 note.0.1)) x note.2) (record { form = whole; printable = record { named = first.1; concluded = second.1 } })

  answer_at_key : (key : AnswerKey) (d : Data) (ms : Members) (x : Answer) → answer_named t key d ms ≡ Ok x → IsAnswerAt key d ms x
  answer_at_key answer_keys.Base d ms x e = proved_is d ms x e
  answer_at_key answer_keys.Question d ms x e = unsettled_is d ms x e

  proved_again : (q : Question) (name : VerdictName) (proof : Proof) (v : Verdict) → concluded name proof ≡ Ok v → IsNamed t q → IsPrintableProof proof → answer_of t (proved_form (question_text t q) name proof) ≡ Ok (the_answer q v)
  unfolding answer_of proved_in
  proved_again q name proof v says named h =
      rw (asked.again (q, name) named, proof_again proof h, says) refl

  unsettled_again : (q : Question) (system : ℕ) (note : WideText) → IsNamed t q → IsPrintableNote system note → answer_of t (unsettled_form (question_text t q) system note) ≡ Ok (the_answer q (verdicts.Wide system note))
  unfolding answer_of unsettled_in is_unsettled
  unsettled_again q system note named h = rw (question.again q named, text_again (verdict_word said.Wide), wide.again (system, note) h) refl

  pub answer : IsRead (answer_of t) (answer_form t) (IsPrintable t)
  unfolding answer_of
  answer = record { again = again; sound = sound }
    where
      said_again : (q : Question) (v : Verdict) → IsNamed t q → IsPrintableVerdict v → answer_of t (verdict_form (question_text t q) v) ≡ Ok (the_answer q v)
      said_again q (verdicts.Yes proof) named h = proved_again q said.Yes proof (verdicts.Yes proof) refl named h
      said_again q (verdicts.No proof) named h = proved_again q said.No proof (verdicts.No proof) refl named h
      said_again q (verdicts.Contradiction proof) named h = proved_again q said.Contradiction proof (verdicts.Contradiction proof) refl named h
      said_again q (verdicts.Wide system note) named h = unsettled_again q system note named h

      again : (x : Answer) → IsPrintable t x → answer_of t (answer_form t x) ≡ Ok x
      again x h = said_again x.question x.verdict h.named h.concluded

      sound : (d : Data) (x : Answer) → answer_of t d ≡ Ok x → (d ≡ answer_form t x) × IsPrintable t x
      sound d x e =
          let ms = bind_ok (shape (as_object d)) (λ ms. named_member answer_word answer_key_list ms >>= λ first. answer_named t first.0 first.1.0 first.1.1) x e in
          let first = bind_ok (named_member answer_word answer_key_list ms.0) (λ first. answer_named t first.0 first.1.0 first.1.1) x ms.2 in
          let is = answer_at_key first.0.0 first.0.1.0 first.0.1.1 x first.2 in
          (object_is d ms.0 ms.1 ∙ ap object (named_is answer_word answer_key_list ms.0 first.0 first.1).0 ∙ is.form, is.printable)

  abbrev some_answers : IsRead (list_of (answer_of t)) (list_form (answer_form t)) (AllByRecursion (IsPrintable t))
  some_answers = lists (answer_of t) (answer_form t) (IsPrintable t) answer

  -- ---- blocks

  -- the value is the form of a body with this key
  record IsBodyAt (key : BodyKey) (d : Data) (b : Body) : Type 0 where
    named : body_key b ≡ key
    form : d ≡ body_form t b
    formed : IsFormedBody t b

  fault_named : (fault : LineFault) → name_of fault_word line_faults (fault_word fault) ≡ Some fault
  fault_named faults.UnknownAlternative = refl
  fault_named faults.UnknownCriterion = refl
  fault_named faults.UnknownClass = refl
  fault_named faults.BadInterval = refl
  fault_named faults.NoSuchStatement = refl
  fault_named faults.NothingToUndo = refl
  fault_named faults.TooManyStatements = refl
  fault_named faults.TooManyRows = refl
  fault_named faults.TooManyPairs = refl

  true_is : (d : Data) (done : Bool) → shape (as_bool d) ≡ Ok done → not done ≡ false → d ≡ boolean true
  true_is null done e h = absurd cc
  true_is (boolean true) done e h = refl
  true_is (boolean false) done e h = absurd cc
  true_is (number n) done e h = absurd cc
  true_is (string s) done e h = absurd cc
  true_is (array ds) done e h = absurd cc
  true_is (object ms) done e h = absurd cc

  undone_is : (d : Data) (b : Body) → undone_of d ≡ Ok b → IsBodyAt keys.Undone d b
  unfolding undone_of
  undone_is d b e =
      let done = bind_ok (shape (as_bool d)) (λ done. refuse misfits.Shape (not done) >>= λ _. made bodies.Undone) b e in
      let yes = bind_ok (refuse misfits.Shape (not done.0)) (λ _. made bodies.Undone) b done.2 in
      subst (IsBodyAt keys.Undone d) (made_is bodies.Undone b yes.2) (record { named = refl; form = true_is d done.0 done.1 (refuse_ok misfits.Shape (not done.0) yes.0 yes.1); formed = tt })

  body_at_key : (key : BodyKey) (d : Data) (b : Body) → body_named t key d ≡ Ok b → IsBodyAt key d b
  body_at_key keys.Added d b e =
      let n = bind_ok (count_of d) (λ n. made (bodies.Added n)) b e in
      let is = counts.sound d n.0 n.1 in
      subst (IsBodyAt keys.Added d) (made_is (bodies.Added n.0) b n.2) (record { named = refl; form = is.0; formed = is.1 })
  body_at_key keys.Withdrawn d b e =
      let n = bind_ok (count_of d) (λ n. made (bodies.Withdrawn n)) b e in
      let is = counts.sound d n.0 n.1 in
      subst (IsBodyAt keys.Withdrawn d) (made_is (bodies.Withdrawn n.0) b n.2) (record { named = refl; form = is.0; formed = is.1 })
  body_at_key keys.Replaced d b e =
      let n = bind_ok (count_of d) (λ n. made (bodies.Replaced n)) b e in
      let is = counts.sound d n.0 n.1 in
      subst (IsBodyAt keys.Replaced d) (made_is (bodies.Replaced n.0) b n.2) (record { named = refl; form = is.0; formed = is.1 })
  body_at_key keys.Undone d b e = undone_is d b e
  body_at_key keys.Repaired d b e =
      let x = bind_ok (kept_of d) (λ x. made (bodies.Repaired x)) b e in
      let is = kept.sound d x.0 x.1 in
      subst (IsBodyAt keys.Repaired d) (made_is (bodies.Repaired x.0) b x.2) (record { named = refl; form = is.0; formed = is.1 })
  body_at_key keys.RepairWide d b e =
      let x = bind_ok (repair_wide_of d) (λ x. made (bodies.RepairWide x.0 x.1)) b e in
      let is = repair_wide.sound d x.0 x.1 in
      subst (IsBodyAt keys.RepairWide d) (made_is (bodies.RepairWide x.0.0 x.0.1) b x.2) (record { named = refl; form = is.0; formed = is.1 })
  body_at_key keys.Answers d b e =
      let xs = bind_ok (list_of (answer_of t) d) (λ xs. made (bodies.Answers xs)) b e in
      let is = some_answers.sound d xs.0 xs.1 in
      subst (IsBodyAt keys.Answers d) (made_is (bodies.Answers xs.0) b xs.2) (record { named = refl; form = is.0; formed = is.1 })
  body_at_key keys.Refused d b e =
      let fault = bind_ok (name_in fault_word line_faults d) (λ fault. made (bodies.Refused fault)) b e in
      subst (IsBodyAt keys.Refused d) (made_is (bodies.Refused fault.0) b fault.2) (record { named = refl; form = name_is fault_word line_faults d fault.0 fault.1; formed = tt })

  undone_again : undone_of (boolean true) ≡ Ok bodies.Undone
  unfolding undone_of
  undone_again = refl

  body_again : (b : Body) → IsFormedBody t b → body_named t (body_key b) (body_form t b) ≡ Ok b
  body_again (bodies.Added n) h = rw (counts.again n h) refl
  body_again (bodies.Withdrawn n) h = rw (counts.again n h) refl
  body_again (bodies.Replaced n) h = rw (counts.again n h) refl
  body_again bodies.Undone h = undone_again
  body_again (bodies.Repaired x) h = rw (kept.again x h) refl
  body_again (bodies.RepairWide n note) h = rw (repair_wide.again (n, note) h) refl
  body_again (bodies.Answers xs) h = rw (some_answers.again xs h) refl
  body_again (bodies.Refused fault) h = rw (name_again fault_word line_faults fault (fault_named fault)) refl

  abbrev the_block : ℕ → Body → Block
  the_block line body = record { line = line; body = body }

  -- the member of a body before the line's number, or after it, as in the form of a block
  early_put : (key : BodyKey) (line d : Data) → name_of key_word early_keys (key_word key) ≡ Some key → put (codes "line") line (member (key_word key) d no_members) ≡ member (key_word key) d (member (codes "line") line no_members)
  early_put keys.Added line d h = refl
  early_put keys.Answers line d h = refl
  early_put keys.Refused line d h = absurd cc
  early_put keys.RepairWide line d h = absurd cc
  early_put keys.Repaired line d h = absurd cc
  early_put keys.Replaced line d h = absurd cc
  early_put keys.Undone line d h = absurd cc
  early_put keys.Withdrawn line d h = absurd cc

  late_put : (key : BodyKey) (line d : Data) → name_of key_word late_keys (key_word key) ≡ Some key → put (codes "line") line (member (key_word key) d no_members) ≡ member (codes "line") line (member (key_word key) d no_members)
  late_put keys.Added line d h = absurd cc
  late_put keys.Answers line d h = absurd cc
  late_put keys.Refused line d h = refl
  late_put keys.RepairWide line d h = refl
  late_put keys.Repaired line d h = refl
  late_put keys.Replaced line d h = refl
  late_put keys.Undone line d h = refl
  late_put keys.Withdrawn line d h = refl

  early_is : (ms : Members) (b : Block) → early_block t ms ≡ Ok b → (object ms ≡ block_form t b) × IsFormedBlock t b
  unfolding early_block
  early_is ms b e =
      let first = bind_ok (named_member key_word early_keys ms) (λ first. member_at (codes "line") first.1.1 >>= λ at. count_of at.0 >>= λ line. no_member at.1 >>= λ no. body_named t first.0 first.1.0 >>= λ body. made (the_block line body)) b e in
      let at = bind_ok (member_at (codes "line") first.0.1.1) (λ at. count_of at.0 >>= λ line. no_member at.1 >>= λ no. body_named t first.0.0 first.0.1.0 >>= λ body. made (the_block line body)) b first.2 in
      let line = bind_ok (count_of at.0.0) (λ line. no_member at.0.1 >>= λ no. body_named t first.0.0 first.0.1.0 >>= λ body. made (the_block line body)) b at.2 in
      let no = bind_ok (no_member at.0.1) (λ no. body_named t first.0.0 first.0.1.0 >>= λ body. made (the_block line.0 body)) b line.2 in
      let body = bind_ok (body_named t first.0.0 first.0.1.0) (λ body. made (the_block line.0 body)) b no.2 in
      let key = named_is key_word early_keys ms first.0 first.1 in
      let is = body_at_key first.0.0 first.0.1.0 body.0 body.1 in
      let count = counts.sound at.0.0 line.0 line.1 in
      let form : object ms ≡ object (member (key_word first.0.0) (body_form t body.0) (member (codes "line") (count_form line.0) no_members)) = ap object (with_value key.0 is.form (with_value (member_is (codes "line") first.0.1.1 at.0 at.1) count.0 (no_member_is at.0.1 no.0 no.1))) in
      let ordered = ap object (sym (early_put first.0.0 (count_form line.0) (body_form t body.0) key.1)) in
      let named = ap (λ k. object (put (codes "line") (count_form line.0) (member (key_word k) (body_form t body.0) no_members))) (sym is.named) in
      subst (λ (y : Block). (object ms ≡ block_form t y) × IsFormedBlock t y) (made_is (the_block line.0 body.0) b body.2) (form ∙ ordered ∙ named, record { number = count.1; body = is.formed })

  late_is : (ms : Members) (b : Block) → late_block t ms ≡ Ok b → (object ms ≡ block_form t b) × IsFormedBlock t b
  unfolding late_block
  late_is ms b e =
      let at = bind_ok (member_at (codes "line") ms) (λ at. count_of at.0 >>= λ line. named_member key_word late_keys at.1 >>= λ second. no_member second.1.1 >>= λ no. body_named t second.0 second.1.0 >>= λ body. made (the_block line body)) b e in
      let line = bind_ok (count_of at.0.0) (λ line. named_member key_word late_keys at.0.1 >>= λ second. no_member second.1.1 >>= λ no. body_named t second.0 second.1.0 >>= λ body. made (the_block line body)) b at.2 in
      let second = bind_ok (named_member key_word late_keys at.0.1) (λ second. no_member second.1.1 >>= λ no. body_named t second.0 second.1.0 >>= λ body. made (the_block line.0 body)) b line.2 in
      let no = bind_ok (no_member second.0.1.1) (λ no. body_named t second.0.0 second.0.1.0 >>= λ body. made (the_block line.0 body)) b second.2 in
      let body = bind_ok (body_named t second.0.0 second.0.1.0) (λ body. made (the_block line.0 body)) b no.2 in
      let key = named_is key_word late_keys at.0.1 second.0 second.1 in
      let is = body_at_key second.0.0 second.0.1.0 body.0 body.1 in
      let count = counts.sound at.0.0 line.0 line.1 in
      let form : object ms ≡ object (member (codes "line") (count_form line.0) (member (key_word second.0.0) (body_form t body.0) no_members)) = ap object (with_value (member_is (codes "line") ms at.0 at.1) count.0 (with_value key.0 is.form (no_member_is second.0.1.1 no.0 no.1))) in
      let ordered = ap object (sym (late_put second.0.0 (count_form line.0) (body_form t body.0) key.1)) in
      let named = ap (λ k. object (put (codes "line") (count_form line.0) (member (key_word k) (body_form t body.0) no_members))) (sym is.named) in
      subst (λ (y : Block). (object ms ≡ block_form t y) × IsFormedBlock t y) (made_is (the_block line.0 body.0) b body.2) (form ∙ ordered ∙ named, record { number = count.1; body = is.formed })

  abbrev early_members : BodyKey → Data → Data → Members
  early_members key d line = member (key_word key) d (member (codes "line") line no_members)

  abbrev late_members : BodyKey → Data → Data → Members
  late_members key d line = member (codes "line") line (member (key_word key) d no_members)

  early_again : (key : BodyKey) (n : ℕ) (b : Body) → name_of key_word early_keys (key_word key) ≡ Some key → n < 2 ^ 32 → body_named t key (body_form t b) ≡ Ok b → early_block t (early_members key (body_form t b) (count_form n)) ≡ Ok (the_block n b)
  unfolding early_block
  early_again key n b named below body = rw (named_again key_word early_keys key (body_form t b) (member (codes "line") (count_form n) no_members) named, counts.again n below, body) refl

  late_again : (key : BodyKey) (n : ℕ) (b : Body) → name_of key_word late_keys (key_word key) ≡ Some key → n < 2 ^ 32 → body_named t key (body_form t b) ≡ Ok b → late_block t (late_members key (body_form t b) (count_form n)) ≡ Ok (the_block n b)
  unfolding late_block
  late_again key n b named below body = rw (counts.again n below, named_again key_word late_keys key (body_form t b) no_members named, body) refl

  abbrev keyed_form : BodyKey → Data → Data → Data
  keyed_form key line d = object (put (codes "line") line (put (key_word key) d no_members))

  keyed_again : (key : BodyKey) (n : ℕ) (b : Body) → n < 2 ^ 32 → body_named t key (body_form t b) ≡ Ok b → block_of t (keyed_form key (count_form n) (body_form t b)) ≡ Ok (the_block n b)
  unfolding block_of
  keyed_again keys.Added n b below body = early_again keys.Added n b refl below body
  keyed_again keys.Answers n b below body = early_again keys.Answers n b refl below body
  keyed_again keys.Refused n b below body = late_again keys.Refused n b refl below body
  keyed_again keys.RepairWide n b below body = late_again keys.RepairWide n b refl below body
  keyed_again keys.Repaired n b below body = late_again keys.Repaired n b refl below body
  keyed_again keys.Replaced n b below body = late_again keys.Replaced n b refl below body
  keyed_again keys.Undone n b below body = late_again keys.Undone n b refl below body
  keyed_again keys.Withdrawn n b below body = late_again keys.Withdrawn n b refl below body

  pub block : IsRead (block_of t) (block_form t) (IsFormedBlock t)
  unfolding block_of
  block = record { again = again; sound = sound }
    where
      again : (b : Block) → IsFormedBlock t b → block_of t (block_form t b) ≡ Ok b
      again b h = keyed_again (body_key b.body) b.line b.body h.number (body_again b.body h.body)

      sound : (d : Data) (b : Block) → block_of t d ≡ Ok b → (d ≡ block_form t b) × IsFormedBlock t b
      sound d b e =
          let ms = bind_ok (shape (as_object d)) (λ ms. cond (begins_with_line ms) (late_block t ms) (early_block t ms)) b e in
          elim (cases_Bool (begins_with_line ms.0)) [
            | inl late ↦
                let is = late_is ms.0 b (sym (cond-true _ _ _ late) ∙ ms.2) in
                (object_is d ms.0 ms.1 ∙ is.0, is.1)
            | inr early ↦
                let is = early_is ms.0 b (sym (cond-false _ _ _ early) ∙ ms.2) in
                (object_is d ms.0 ms.1 ∙ is.0, is.1)
          ]

-- ---- the object around blocks

abbrev pub around : Items → Data
around ds = object (member (codes "blocks") (array ds) (member (codes "report") (count_form 1) no_members))

pub outer_again : (ds : Items) → outer_of (around ds) ≡ Ok ds
unfolding outer_of
outer_again ds = rw one_again refl

pub outer_is : (d : Data) (ds : Items) → outer_of d ≡ Ok ds → d ≡ around ds
unfolding outer_of
outer_is d ds e =
    let ms = bind_ok (shape (as_object d)) (λ ms. member_at (codes "blocks") ms >>= λ bs. shape (as_array bs.0) >>= λ items. member_at (codes "report") bs.1 >>= λ v. the_count_of 1 v.0 >>= λ one. no_member v.1 >>= λ no. made items) ds e in
    let bs = bind_ok (member_at (codes "blocks") ms.0) (λ bs. shape (as_array bs.0) >>= λ items. member_at (codes "report") bs.1 >>= λ v. the_count_of 1 v.0 >>= λ one. no_member v.1 >>= λ no. made items) ds ms.2 in
    let items = bind_ok (shape (as_array bs.0.0)) (λ items. member_at (codes "report") bs.0.1 >>= λ v. the_count_of 1 v.0 >>= λ one. no_member v.1 >>= λ no. made items) ds bs.2 in
    let v = bind_ok (member_at (codes "report") bs.0.1) (λ v. the_count_of 1 v.0 >>= λ one. no_member v.1 >>= λ no. made items.0) ds items.2 in
    let one = bind_ok (the_count_of 1 v.0.0) (λ one. no_member v.0.1 >>= λ no. made items.0) ds v.2 in
    let no = bind_ok (no_member v.0.1) (λ no. made items.0) ds one.2 in
    let is = made_is items.0 ds no.2 in
    object_is d ms.0 ms.1 ∙ ap object (with_value (member_is (codes "blocks") ms.0 bs.0 bs.1) (array_is bs.0.0 items.0 items.1 ∙ ap array is) (with_value (member_is (codes "report") bs.0.1 v.0 v.1) (the_count_is 1 v.0.0 one.0 one.1) (no_member_is v.0.1 no.0 no.1)))
