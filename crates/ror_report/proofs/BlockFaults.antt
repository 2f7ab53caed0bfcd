-- The fault of a block and of the last line is the one that is given.
use Rattle.std.proofs.Common.{◌≡◌, ℕ, zero, true, false, not, eqb, Option, Some, None, List, [], ◌∷◌, length, Result, Ok, Err, refl, sym, ap, arith, inl, inr}
use Rattle.std.specs.Prelude.{◌≢◌, codes}
use Rattle.std.proofs.lemmas.Bool.{ne_eqb, eqb-false, not-true}
use Rattle.ror_text.specs.Cursor.{Cursor, line_words}
use Rattle.ror_text.specs.Reading.{◌>>=◌, refuse}
use Rattle.ror_text.proofs.ReadingLemmas.{bind_err, refuse_err}
use Rattle.ror_table.specs.Table.{DecisionTable, IsTable}
use Rattle.ror_proof.specs.declared.answer.Answer.{Answer}
use Rattle.ror_proof.specs.declared.read.ProofFault.{ProofFault}
use Rattle.ror_proof.specs.declared.read.ProofFault.TheVariants.{BadLine}
use Rattle.ror_proof.specs.Expected.{IsLine}
use Rattle.ror_proof.proofs.WordFaults.{no_fault}
use Rattle.ror_proof.proofs.LineFaults.{line_fails, line_goes}
use Rattle.ror_report.specs.declared.block.Block.{Block}
use Rattle.ror_report.specs.declared.block.Body.{Body}
use Rattle.ror_report.specs.declared.block.Body.TheVariants.{Answers}
use Rattle.ror_report.specs.declared.names.BodyForm.{BodyForm}
use Rattle.ror_report.specs.Reading.{numbered_line, form_lines, form_of, ends_body, body_answers, formed_at, answers_at, body_of, body_at, block_at, end_at}
use Rattle.ror_report.specs.Faults.{expected_number, IsFaultOfBlock, IsFaultOfEnd}
use Rattle.ror_report.specs.Faults.IsFaultOfBlock.{in_name, in_form, after_form, in_answers}
use Rattle.ror_report.specs.Faults.IsFaultOfEnd.{in_end, after_end}
use Rattle.ror_report.proofs.AnswerRuns.{answers_err, answers_fail}
use Rattle.ror_report.proofs.Bodies.{body_ends}
use Rattle.ror_report.proofs.FormFaults.{number_reads, reads_form}

-- ---- blocks

abbrev block_read : ℕ → Body × Cursor → Result (Block × Cursor) ProofFault
block_read line body = Ok (record { line = line; body = body.0 }, body.1)

abbrev answers_read : List Answer × Cursor → Result (Body × Cursor) ProofFault
answers_read answers = Ok (Answers answers.0, answers.1)

abbrev line_read : Body × Cursor → Result (Body × Cursor) ProofFault
line_read body = Ok body

-- the fault of a body behind the line that names the session's line
body_err : (t : DecisionTable) (c at : Cursor) (form : Option BodyForm) (f : ProofFault) → IsLine t (expected_number (codes "line")) c at → form_of (line_words at) ≡ form → body_of t form at ≡ Err f → IsFaultOfBlock t c f
unfolding formed_at answers_at
body_err t c at None f line found e =
    elim (bind_err (body_answers t (length at.rest) at) (λ answers. answers_read answers) f e) [
      | inl faulty ↦ in_answers at line found (answers_err ends_body body_ends t (length at.rest) at f faulty)
      | inr none ↦ absurd (no_fault _ f none.2)
    ]
body_err t c at (Some form) f line found e =
    elim (bind_err (form_lines form at) (λ body. refuse (BadLine body.1.place) (not (ends_body body.1.rest)) >>= λ _. line_read body) f e) [
      | inl faulty ↦ in_form at form line found ((reads_form t form at).err f faulty)
      | inr b ↦
          elim (bind_err (refuse (BadLine b.0.1.place) (not (ends_body b.0.1.rest))) (λ _. line_read b.0) f b.2) [
            | inl more ↦
                let tested = refuse_err (BadLine b.0.1.place) f (not (ends_body b.0.1.rest)) more in
                after_form at b.0.1 form line found ((reads_form t form at).ok b.0 b.1) (not-true (ends_body b.0.1.rest) tested.0) tested.1
            | inr none ↦ absurd (no_fault _ f none.2)
          ]
    ]

pub block_err : (t : DecisionTable) (c : Cursor) (f : ProofFault) → block_at t c ≡ Err f → IsFaultOfBlock t c f
unfolding block_at body_at
block_err t c f e =
    elim (bind_err (numbered_line (codes "line") c) (λ line. body_at t line.1 >>= λ body. block_read line.0 body) f e) [
      | inl here ↦ in_name ((number_reads t (codes "line") c).err f here)
      | inr a ↦
          elim (bind_err (body_at t a.0.1) (λ body. block_read a.0.0 body) f a.2) [
            | inl here ↦ body_err t c a.0.1 (form_of (line_words a.0.1)) f ((number_reads t (codes "line") c).ok a.0 a.1) refl here
            | inr none ↦ absurd (no_fault _ f none.2)
          ]
    ]

pub block_fails : (t : DecisionTable) (c : Cursor) (f : ProofFault) → IsTable t → IsFaultOfBlock t c f → block_at t c ≡ Err f
unfolding block_at body_at formed_at answers_at
block_fails t c f table (in_name fault) = rw (line_fails t (expected_number (codes "line")) c (numbered_line (codes "line") c) f (number_reads t (codes "line") c) fault) refl
block_fails t c f table (in_form body form line found fault) =
    rw ((line_goes t (expected_number (codes "line")) c body (numbered_line (codes "line") c) (number_reads t (codes "line") c) line).1, found, (reads_form t form body).fails f fault) refl
block_fails t c f table (after_form body after form line found own more is) =
    rw ((line_goes t (expected_number (codes "line")) c body (numbered_line (codes "line") c) (number_reads t (codes "line") c) line).1, found, ((reads_form t form body).goes after own).1, more) (ap Err (sym is))
block_fails t c f table (in_answers body line found fault) =
    rw ((line_goes t (expected_number (codes "line")) c body (numbered_line (codes "line") c) (number_reads t (codes "line") c) line).1, found, answers_fail ends_body body_ends t (length body.rest) body f table (omega arith) fault) refl

-- ---- the last line

abbrev end_read : ℕ × Cursor → Result ℕ ProofFault
end_read end = Ok end.0

some_bytes : (bytes : List ℕ) → not (eqb (length bytes) 0) ≡ true → bytes ≢ []
some_bytes bytes h is = let zero : length bytes ≡ 0 = ap length is in eqb-false (length bytes) 0 (not-true (eqb (length bytes) 0) h) zero

bytes_there : (bytes : List ℕ) → bytes ≢ [] → eqb (length bytes) 0 ≡ false
bytes_there [] some = absurd (some refl)
bytes_there (b ∷ bs) some = ne_eqb (length (b ∷ bs)) 0 (λ (e : length (b ∷ bs) ≡ 0). omega arith)

pub end_err : (t : DecisionTable) (c : Cursor) (f : ProofFault) → end_at c ≡ Err f → IsFaultOfEnd t c f
unfolding end_at
end_err t c f e =
    elim (bind_err (numbered_line (codes "end") c) (λ end. refuse (BadLine end.1.place) (not (eqb (length end.1.rest) 0)) >>= λ _. end_read end) f e) [
      | inl here ↦ in_end ((number_reads t (codes "end") c).err f here)
      | inr a ↦
          elim (bind_err (refuse (BadLine a.0.1.place) (not (eqb (length a.0.1.rest) 0))) (λ _. end_read a.0) f a.2) [
            | inl more ↦
                let tested = refuse_err (BadLine a.0.1.place) f (not (eqb (length a.0.1.rest) 0)) more in
                after_end a.0.1 ((number_reads t (codes "end") c).ok a.0 a.1) (some_bytes a.0.1.rest tested.0) tested.1
            | inr none ↦ absurd (no_fault _ f none.2)
          ]
    ]

pub end_fails : (t : DecisionTable) (c : Cursor) (f : ProofFault) → IsFaultOfEnd t c f → end_at c ≡ Err f
unfolding end_at
end_fails t c f (in_end fault) = rw (line_fails t (expected_number (codes "end")) c (numbered_line (codes "end") c) f (number_reads t (codes "end") c) fault) refl
end_fails t c f (after_end after line some is) = rw ((line_goes t (expected_number (codes "end")) c after (numbered_line (codes "end") c) (number_reads t (codes "end") c) line).1, bytes_there after.rest some) (ap Err (sym is))
