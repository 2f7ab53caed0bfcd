-- The answers to lines that a check keeps are narrow, and not too many.
use Rattle.std.proofs.Common.{ℕ, ◌+◌, ◌-◌, ◌<◌, ◌≤◌, ◌^◌, List, [], ◌∷◌, ◌++◌, length, Option, sym, ap, subst, ◌∙◌, length-append, arith, ℤ}
use Rattle.std.specs.Prelude.{codes}
use Rattle.std.specs.List.{AllByRecursion, flat_map}
use Rattle.std.proofs.lemmas.Grind.{flat_map-append}
use Rattle.std.proofs.lemmas.List.{append-nil}
use Rattle.ror_text.proofs.Everywhere.{all-by, all-append}
use Rattle.ror_word.specs.Within.{IsWithin}
use Rattle.ror_statement.specs.declared.statement.Numbered.{Numbered}
use Rattle.ror_table.specs.Table.{DecisionTable}
use Rattle.ror_system.specs.System.{IsNarrow}
use Rattle.ror_value.specs.declared.input.Input.{Input}
use Rattle.ror_session.specs.declared.session.Line.{Line}
use Rattle.ror_session.specs.declared.session.Session.{Session}
use Rattle.ror_pivot.specs.declared.note.Bits.TheVariants.{B127}
use Rattle.ror_pivot.specs.Answers.{most_of}
use Rattle.ror_proof.specs.declared.answer.Answer.{Answer}
use Rattle.ror_proof.specs.declared.answer.Certificate.{Certificate}
use Rattle.ror_proof.specs.declared.answer.Certificate.TheVariants as certificates
use Rattle.ror_proof.specs.declared.answer.Part.{Part}
use Rattle.ror_proof.specs.declared.answer.Proof.{Proof}
use Rattle.ror_proof.specs.declared.answer.Verdict.{Verdict}
use Rattle.ror_proof.specs.declared.answer.Verdict.TheVariants as verdicts
use Rattle.ror_proof.specs.Text.{answer_text, IsNarrowCertificate, IsPrintablePart, IsPrintableProof, IsPrintableVerdict, IsPrintable}
use Rattle.ror_given.specs.Answers.{IsCertificateWithin, IsProofWithin, IsVerdictWithin}
use Rattle.ror_report.specs.declared.block.Block.{Block}
use Rattle.ror_report.specs.declared.block.Body.{Body}
use Rattle.ror_report.specs.declared.block.Body.TheVariants as bodies
use Rattle.ror_report.specs.Text.{answers_of, body_text, block_text, header_text, end_text, numbered_text, report_text, IsPrintableBody, IsPrintableBlock}
use Rattle.ror_report.proofs.AnswerRuns.{answer_has_bytes}
use Rattle.ror_bench.specs.declared.kept.Keep.{Keep}
use Rattle.ror_bench.specs.declared.kept.Keep.TheVariants as keeping
use Rattle.ror_bench.specs.declared.kept.KeptLine.{KeptLine}
use Rattle.ror_bench.specs.Bench.{Workbench}
use Rattle.ror_bench.specs.Kept.{keep_at, standing_for, kept_of, kept_at, kept_from}
use Rattle.ror_bench.specs.Reports.{revisions_then}
use Rattle.ror_frame.specs.Inputs.{bench_for}
use Rattle.ror_show_ground.specs.Ready.{HasNarrowAnswers, answers_in}
use Rattle.ror_show_pages.specs.Reads.{ReadsKept}

-- ---- their answers are narrow

number_within : (z : ℤ) → IsNarrow z → IsWithin (most_of B127) z
number_within z narrow = omega (arith, narrow)

numbers_within : (zs : List ℤ) → AllByRecursion IsNarrow zs → AllByRecursion (IsWithin (most_of B127)) zs
numbers_within zs narrow = all-by IsNarrow (IsWithin (most_of B127)) zs number_within narrow

certificate_within : (x : Certificate) → IsNarrowCertificate x → IsCertificateWithin (most_of B127) x
certificate_within (certificates.Solution x) narrow = numbers_within x.steps narrow
certificate_within (certificates.Multipliers m) narrow = (numbers_within m.weak narrow.0, numbers_within m.strict narrow.1)

proof_within : (x : Proof) → IsPrintableProof x → IsProofWithin (most_of B127) x
proof_within x printable = record {
  base = certificate_within x.base printable.base;
  parts = all-by IsPrintablePart (λ (p : Part). IsCertificateWithin (most_of B127) p.body) x.parts (λ p is. certificate_within p.body is.narrow) printable.parts;
}

verdict_within : (v : Verdict) → IsPrintableVerdict v → IsVerdictWithin (most_of B127) v
verdict_within (verdicts.Yes proof) printable = proof_within proof printable
verdict_within (verdicts.No proof) printable = proof_within proof printable
verdict_within (verdicts.Contradiction proof) printable = proof_within proof printable
verdict_within (verdicts.Wide system note) printable = tt

body_within : (t : DecisionTable) (body : Body) → IsPrintableBody t body → AllByRecursion (λ x. IsVerdictWithin (most_of B127) x.verdict) (answers_of body)
body_within t (bodies.Answers xs) printable = all-by (IsPrintable t) (λ (x : Answer). IsVerdictWithin (most_of B127) x.verdict) xs (λ x is. verdict_within x.verdict is.concluded) printable
body_within t (bodies.Added n) printable = tt
body_within t (bodies.Withdrawn n) printable = tt
body_within t (bodies.Replaced n) printable = tt
body_within t bodies.Undone printable = tt
body_within t (bodies.Repaired x) printable = tt
body_within t (bodies.RepairWide n note) printable = tt
body_within t (bodies.Refused fault) printable = tt

module _ (bench : Workbench) (keep : List Keep) where
  -- what holds of each block holds of those that are kept
  blocks_kept : (P : Block → Type 0) (before : List (Line × Block)) (lines : List Line) (blocks : List Block) → AllByRecursion P blocks → AllByRecursion (λ x. P x.block) (kept_from bench keep before lines blocks)
  blocks_kept P before [] [] all = tt
  blocks_kept P before [] (block ∷ blocks) all = tt
  blocks_kept P before (line ∷ lines) [] all = tt
  blocks_kept P before (line ∷ lines) (block ∷ blocks) all =
      let rest = kept_from bench keep (before ++ (line, block) ∷ []) lines blocks in
      all-append (λ (x : KeptLine). P x.block) (kept_at bench keep before line block) rest (one (keep_at keep (length before)) (standing_for (keep_at keep (length before)) (revisions_then bench before line.desk)) all.0) (blocks_kept P (before ++ (line, block) ∷ []) lines blocks all.1)
    where
      one : (how : Keep) (stood : Option (List Numbered)) → P block → AllByRecursion (λ x. P x.block) (kept_of (length before) how stood block)
      one keeping.Nothing stood here = tt
      one keeping.Block stood here = (here, tt)
      one keeping.Standing stood here = (here, tt)

  -- and they have no more answers than all blocks
  no_more : (before : List (Line × Block)) (lines : List Line) (blocks : List Block) → answers_in (kept_from bench keep before lines blocks) ≤ length (flat_map (λ b. answers_of b.body) blocks)
  no_more before [] [] = omega arith
  no_more before [] (block ∷ blocks) = omega arith
  no_more before (line ∷ lines) [] = omega arith
  no_more before (line ∷ lines) (block ∷ blocks) =
      let first = kept_at bench keep before line block in
      let rest = kept_from bench keep (before ++ (line, block) ∷ []) lines blocks in
      let here = one (keep_at keep (length before)) (standing_for (keep_at keep (length before)) (revisions_then bench before line.desk)) in
      let both = ap length (flat_map-append (λ (x : KeptLine). answers_of x.block.body) first rest) ∙ length-append (flat_map (λ (x : KeptLine). answers_of x.block.body) first) (flat_map (λ (x : KeptLine). answers_of x.block.body) rest) in
      let all = length-append (answers_of block.body) (flat_map (λ (b : Block). answers_of b.body) blocks) in
      omega (arith, here, both, all, no_more (before ++ (line, block) ∷ []) lines blocks)
    where
      one : (how : Keep) (stood : Option (List Numbered)) → answers_in (kept_of (length before) how stood block) ≤ length (answers_of block.body)
      one keeping.Nothing stood = omega arith
      one keeping.Block stood = let same = ap length (append-nil (answers_of block.body)) in omega (arith, same)
      one keeping.Standing stood = let same = ap length (append-nil (answers_of block.body)) in omega (arith, same)

pub kept_narrow : (keep : List Keep) (i : Input) (s : Session) (bytes : List ℕ) (kept : List KeptLine) → ReadsKept keep i s bytes kept → AllByRecursion HasNarrowAnswers kept
kept_narrow keep i s bytes kept reads =
    let all = blocks_kept (bench_for i s) keep (IsPrintableBlock i.table) [] s.lines reads.report.blocks reads.report.printable in
    subst (AllByRecursion HasNarrowAnswers) (sym reads.chosen) (all-by (λ (x : KeptLine). IsPrintableBlock i.table x.block) HasNarrowAnswers (kept_from (bench_for i s) keep [] s.lines reads.report.blocks) (λ x is. body_within i.table x.block.body is.body) all)

-- ---- and few

answers_have_bytes : (t : DecisionTable) (xs : List Answer) → length xs ≤ length (flat_map (answer_text t) xs)
answers_have_bytes t [] = omega arith
answers_have_bytes t (x ∷ xs) = omega (arith, answers_have_bytes t xs, answer_has_bytes t x, length-append (answer_text t x) (flat_map (answer_text t) xs))

body_has_bytes : (t : DecisionTable) (body : Body) → length (answers_of body) ≤ length (body_text t body)
body_has_bytes t (bodies.Answers xs) = answers_have_bytes t xs
body_has_bytes t (bodies.Added n) = omega arith
body_has_bytes t (bodies.Withdrawn n) = omega arith
body_has_bytes t (bodies.Replaced n) = omega arith
body_has_bytes t bodies.Undone = omega arith
body_has_bytes t (bodies.Repaired x) = omega arith
body_has_bytes t (bodies.RepairWide n note) = omega arith
body_has_bytes t (bodies.Refused fault) = omega arith

block_has_bytes : (t : DecisionTable) (b : Block) → length (answers_of b.body) ≤ length (block_text t b)
unfolding block_text
block_has_bytes t b = let both = length-append (numbered_text (codes "line") b.line) (body_text t b.body) in omega (arith, both, body_has_bytes t b.body)

blocks_have_bytes : (t : DecisionTable) (bs : List Block) → length (flat_map (λ b. answers_of b.body) bs) ≤ length (flat_map (block_text t) bs)
blocks_have_bytes t [] = omega arith
blocks_have_bytes t (b ∷ bs) =
    let answers = length-append (answers_of b.body) (flat_map (λ (c : Block). answers_of c.body) bs) in
    let texts = length-append (block_text t b) (flat_map (block_text t) bs) in
    omega (arith, answers, texts, block_has_bytes t b, blocks_have_bytes t bs)

report_has_bytes : (t : DecisionTable) (bs : List Block) → length (flat_map (λ b. answers_of b.body) bs) ≤ length (report_text t bs)
report_has_bytes t bs =
    let all = flat_map (block_text t) bs in
    let whole = length-append header_text (all ++ end_text (length bs)) in
    let back = length-append all (end_text (length bs)) in
    omega (arith, whole, back, blocks_have_bytes t bs)

pub kept_few : (keep : List Keep) (i : Input) (s : Session) (bytes : List ℕ) (kept : List KeptLine) → ReadsKept keep i s bytes kept → answers_in kept < 2 ^ 32 - 1
kept_few keep i s bytes kept reads =
    let chosen = ap answers_in reads.chosen in
    let fewer = no_more (bench_for i s) keep [] s.lines reads.report.blocks in
    let bytes_of = report_has_bytes i.table reads.report.blocks in
    let long = ap length reads.report.text in
    let short = reads.within in
    omega (arith, chosen, fewer, bytes_of, long, short)
