-- Bytes that are rejected are no JSON of a proved report, and are rejected for one first fault.
use Rattle.std.proofs.Common.{◌≡◌, ◌⊎◌, inl, inr, ℕ, ◌+◌, List, [], ◌∷◌, ◌++◌, length, Result, Ok, Err, refl, sym, ap, ◌∙◌, subst}
use Rattle.std.specs.Prelude.{IfOk, IfErr, IfSome}
use Rattle.ror_text.specs.FirstFault.{IsFirst, IsRefusedBy}
use Rattle.serde_json.specs.Data.{Data}
use Rattle.ror_table.specs.Table.{DecisionTable, IsTable}
use Rattle.ror_session.specs.declared.session.Line.{Line}
use Rattle.ror_report.specs.declared.block.Block.{Block}
use Rattle.ror_history.specs.History.{Revisions}
use Rattle.ror_json.specs.declared.fault.TextFault.{TextFault}
use Rattle.ror_json.specs.declared.fault.TextFault.TheVariants as texts
use Rattle.ror_json.specs.Form.{report_form}
use Rattle.ror_json.specs.Texts.{IsJsonReport, IsBadJsonShape, report_of_text, text_fault}
use Rattle.ror_json.proofs.JsonTexts.{text_is_report, text_is_no_json, text_has_bad_shape, one_report_of_text}
use Rattle.ror_bench.specs.declared.bench.BlockFault.{BlockFault}
use Rattle.ror_bench.specs.declared.bench.BlockFault.TheVariants as faults
use Rattle.ror_bench.specs.declared.report.ReportError.{ReportError}
use Rattle.ror_bench.specs.declared.report.Accepted.{Accepted}
use Rattle.ror_bench.specs.declared.report.Rejection.{Rejection}
use Rattle.ror_bench.specs.declared.report.Reason.TheVariants as reasons
use Rattle.ror_bench.specs.Bench.{Workbench, HoldTheSame}
use Rattle.ror_bench.specs.Blocks.{IsProvedBlock, IsTrueBlock}
use Rattle.ror_bench.specs.Faults.{FailsBlock, IsEarlierBlockFault}
use Rattle.ror_bench.specs.Reports.{EachHolds, IfRejected, accepted_of, block_reason, revisions_then}
use Rattle.ror_bench.proofs.AnswerLemmas.{block_passes}
use Rattle.ror_bench.specs.Steps.{rejected, refused_block_error}
use Rattle.ror_bench.proofs.ReportProofs.{rejects_by}
use Rattle.ror_bench.proofs.SameLemmas.{each_same, then_same}
use Rattle.ror_work_json.specs.Json.{IsProvedJson, IsAcceptedJson, IsRejectedAmong, missing, one_too_many, refused, later, IsRejectedJson, no_json, no_report, in_blocks}
use Rattle.ror_work_json.specs.Steps.{AreProvedBlocks, RefusesText, RefusesBlock}
use Rattle.ror_work_json.specs.Steps as steps
use Rattle.ror_bench.proofs.UniqueLemmas.{one_block_fault}

-- ---- what is rejected is not proved

among_not_proved : (bench : Workbench) (r : Rejection) (before : List (Line × Block)) (lines : List Line) (blocks : List Block) → IsRejectedAmong bench r before lines blocks → EachHolds (IsProvedBlock bench.table) bench before lines blocks → ⊥
among_not_proved bench r _ _ _ (missing before line lines is) all = all
among_not_proved bench r _ _ _ (one_too_many before block blocks is) all = all
among_not_proved bench r _ _ _ (refused before line lines block blocks fault first is) all = block_passes bench.table (revisions_then bench before line.desk) line block fault all.0 first.fails
among_not_proved bench r _ _ _ (later before line lines block blocks proved more) all = among_not_proved bench r (before ++ (line, block) ∷ []) lines blocks more all.1

never_both : (t : DecisionTable) (bytes : List ℕ) (blocks : List Block) (fault : TextFault) → report_of_text t bytes ≡ Ok blocks → report_of_text t bytes ≡ Err fault → ⊥
never_both t bytes blocks fault read fails = absurd (let both = sym read ∙ fails in cc)

pub rejected_json_not_proved : (bench : Workbench) (lines : List Line) (bytes : List ℕ) (r : Rejection) (x : Accepted) → IsTable bench.table → IsRejectedJson bench lines bytes r → IsProvedJson bench lines bytes x → ⊥
rejected_json_not_proved bench lines bytes r x table (no_json none is) report = none (report_form bench.table report.blocks) report.json.json
rejected_json_not_proved bench lines bytes r x table (no_report k bad is) report =
    never_both bench.table bytes report.blocks (texts.BadShape k) ((text_is_report bench.table bytes report.blocks table).1 report.json) ((text_has_bad_shape bench.table bytes k table).1 bad)
rejected_json_not_proved bench lines bytes r x table (in_blocks blocks json among) report =
    let same : report.blocks ≡ blocks = one_report_of_text bench.table bytes report.blocks blocks table report.json json in
    among_not_proved bench r [] lines blocks among (subst (EachHolds (IsProvedBlock bench.table) bench [] lines) same report.proved)

-- ---- one count

pub one_json_count : (bench : Workbench) (lines : List Line) (bytes : List ℕ) (x y : Accepted) → IsTable bench.table → IsProvedJson bench lines bytes x → IsProvedJson bench lines bytes y → x ≡ y
one_json_count bench lines bytes x y table first second =
    first.counted ∙ ap accepted_of (one_report_of_text bench.table bytes first.blocks second.blocks table first.json second.json) ∙ sym second.counted

-- ---- one rejection

record IsHere (bench : Workbench) (x : Rejection) (before : List (Line × Block)) (line : Line) (block : Block) : Type 0 where
  fault : BlockFault
  first : IsFirst (FailsBlock bench.table (revisions_then bench before line.desk) line block) IsEarlierBlockFault fault
  is : x ≡ record { block = 1 + length before; reason = block_reason fault }

record IsPast (bench : Workbench) (x : Rejection) (before : List (Line × Block)) (line : Line) (lines : List Line) (block : Block) (blocks : List Block) : Type 0 where
  proved : IsProvedBlock bench.table (revisions_then bench before line.desk) line block
  more : IsRejectedAmong bench x (before ++ (line, block) ∷ []) lines blocks

abbrev wrong_block : ℕ → Rejection
wrong_block n = record { block = n; reason = reasons.WrongBlock }

-- a rejection is of the next block or later, where there are a line and a block
abbrev IsOpened : Workbench → Rejection → List (Line × Block) → List Line → List Block → Type 0
IsOpened bench x before [] [] = ⊥
IsOpened bench x before (line ∷ lines) [] = x ≡ wrong_block (1 + length before)
IsOpened bench x before [] (block ∷ blocks) = x ≡ wrong_block (1 + length before)
IsOpened bench x before (line ∷ lines) (block ∷ blocks) = IsHere bench x before line block ⊎ IsPast bench x before line lines block blocks

opened : (bench : Workbench) (x : Rejection) (before : List (Line × Block)) (lines : List Line) (blocks : List Block) → IsRejectedAmong bench x before lines blocks → IsOpened bench x before lines blocks
opened bench x _ _ _ (missing before line lines is) = is
opened bench x _ _ _ (one_too_many before block blocks is) = is
opened bench x _ _ _ (refused before line lines block blocks fault first is) = inl (record { fault = fault; first = first; is = is })
opened bench x _ _ _ (later before line lines block blocks proved more) = inr (record { proved = proved; more = more })

module _ (bench : Workbench) (x y : Rejection) where
  one_opened : (before : List (Line × Block)) (line : Line) (lines : List Line) (block : Block) (blocks : List Block)
      → ((before : List (Line × Block)) → IsRejectedAmong bench x before lines blocks → IsRejectedAmong bench y before lines blocks → x ≡ y)
      → IsOpened bench x before (line ∷ lines) (block ∷ blocks) → IsOpened bench y before (line ∷ lines) (block ∷ blocks) → x ≡ y
  one_opened before line lines block blocks rest (inl first) (inl second) =
      let one = one_block_fault bench.table (revisions_then bench before line.desk) line block first.fault second.fault first.first second.first in
      first.is ∙ ap (λ (f : BlockFault). record { block = 1 + length before; reason = block_reason f }) one ∙ sym second.is
  one_opened before line lines block blocks rest (inl first) (inr second) = absurd (block_passes bench.table (revisions_then bench before line.desk) line block first.fault second.proved first.first.fails)
  one_opened before line lines block blocks rest (inr first) (inl second) = absurd (block_passes bench.table (revisions_then bench before line.desk) line block second.fault first.proved second.first.fails)
  one_opened before line lines block blocks rest (inr first) (inr second) = rest (before ++ (line, block) ∷ []) first.more second.more

  one_among : (lines : List Line) (blocks : List Block) (before : List (Line × Block)) → IsRejectedAmong bench x before lines blocks → IsRejectedAmong bench y before lines blocks → x ≡ y
  one_among [] [] before first second = absurd (opened bench x before [] [] first)
  one_among (line ∷ lines) [] before first second = opened bench x before (line ∷ lines) [] first ∙ sym (opened bench y before (line ∷ lines) [] second)
  one_among [] (block ∷ blocks) before first second = opened bench x before [] (block ∷ blocks) first ∙ sym (opened bench y before [] (block ∷ blocks) second)
  one_among (line ∷ lines) (block ∷ blocks) before first second =
      one_opened before line lines block blocks (one_among lines blocks) (opened bench x before (line ∷ lines) (block ∷ blocks) first) (opened bench y before (line ∷ lines) (block ∷ blocks) second)

-- a rejection goes by what is read of the bytes
abbrev IsByReading : Workbench → List Line → Rejection → Result (List Block) TextFault → Type 0
IsByReading bench lines x (Ok blocks) = IsRejectedAmong bench x [] lines blocks
IsByReading bench lines x (Err texts.BadJson) = x ≡ record { block = 0; reason = reasons.BadJson }
IsByReading bench lines x (Err (texts.BadShape k)) = x ≡ record { block = k; reason = reasons.BadShape }
IsByReading bench lines x (Err texts.Memory) = ⊥

by_reading : (bench : Workbench) (lines : List Line) (bytes : List ℕ) (x : Rejection) → IsTable bench.table → IsRejectedJson bench lines bytes x → IsByReading bench lines x (report_of_text bench.table bytes)
by_reading bench lines bytes x table (no_json none is) = subst (IsByReading bench lines x) (sym ((text_is_no_json bench.table bytes).1 none)) is
by_reading bench lines bytes x table (no_report k bad is) = subst (IsByReading bench lines x) (sym ((text_has_bad_shape bench.table bytes k table).1 bad)) is
by_reading bench lines bytes x table (in_blocks blocks json among) = subst (IsByReading bench lines x) (sym ((text_is_report bench.table bytes blocks table).1 json)) among

one_by_reading : (bench : Workbench) (lines : List Line) (x y : Rejection) (read : Result (List Block) TextFault) → IsByReading bench lines x read → IsByReading bench lines y read → x ≡ y
one_by_reading bench lines x y (Ok blocks) first second = one_among bench x y lines blocks [] first second
one_by_reading bench lines x y (Err texts.BadJson) first second = first ∙ sym second
one_by_reading bench lines x y (Err (texts.BadShape k)) first second = first ∙ sym second
one_by_reading bench lines x y (Err texts.Memory) first second = absurd first

pub one_json_rejection : (bench : Workbench) (lines : List Line) (bytes : List ℕ) (x y : Rejection) → IsTable bench.table → IsRejectedJson bench lines bytes x → IsRejectedJson bench lines bytes y → x ≡ y
one_json_rejection bench lines bytes x y table first second =
    one_by_reading bench lines x y (report_of_text bench.table bytes) (by_reading bench lines bytes x table first) (by_reading bench lines bytes y table second)

-- ---- benches that hold the same

module _ (one other : Workbench) (same : HoldTheSame one other) where
  pub proved_json_same : (lines : List Line) (bytes : List ℕ) (x : Accepted) → IsProvedJson one lines bytes x → IsProvedJson other lines bytes x
  proved_json_same lines bytes x report = record {
    blocks = report.blocks;
    json = subst (λ (t : DecisionTable). IsJsonReport t bytes report.blocks) same.0 report.json;
    proved = each_same one other same IsProvedBlock [] lines report.blocks report.proved;
    counted = report.counted;
  }

  among_same : (r : Rejection) (before : List (Line × Block)) (lines : List Line) (blocks : List Block) → IsRejectedAmong one r before lines blocks → IsRejectedAmong other r before lines blocks
  among_same r _ _ _ (missing before line lines is) = missing before line lines is
  among_same r _ _ _ (one_too_many before block blocks is) = one_too_many before block blocks is
  among_same r _ _ _ (refused before line lines block blocks fault first is) =
      refused before line lines block blocks fault (subst (λ (x : Revisions). IsFirst (FailsBlock other.table x line block) IsEarlierBlockFault fault) (then_same one other same before line.desk)
      (subst (λ (t : DecisionTable). IsFirst (FailsBlock t (revisions_then one before line.desk) line block) IsEarlierBlockFault fault) same.0 first)) is
  among_same r _ _ _ (later before line lines block blocks proved more) =
      later before line lines block blocks (subst (λ (x : Revisions). IsProvedBlock other.table x line block) (then_same one other same before line.desk)
      (subst (λ (t : DecisionTable). IsProvedBlock t (revisions_then one before line.desk) line block) same.0 proved)) (among_same r (before ++ (line, block) ∷ []) lines blocks more)

  pub rejected_json_same : (lines : List Line) (bytes : List ℕ) (r : Rejection) → IsRejectedJson one lines bytes r → IsRejectedJson other lines bytes r
  rejected_json_same lines bytes r (no_json none is) = no_json none is
  rejected_json_same lines bytes r (no_report k bad is) = no_report k (subst (λ (t : DecisionTable). IsBadJsonShape t bytes k) same.0 bad) is
  rejected_json_same lines bytes r (in_blocks blocks json among) = in_blocks blocks (subst (λ (t : DecisionTable). IsJsonReport t bytes blocks) same.0 json) (among_same r [] lines blocks among)

-- ---- what is refused of bytes

pub unread_json : (t : DecisionTable) (bytes : List ℕ) (e : ReportError) → report_of_text t bytes ≡ Err texts.BadJson → e ≡ rejected 0 reasons.BadJson → IfRejected (RefusesText t bytes) e
unread_json t bytes e fails is = subst (IfRejected (RefusesText t bytes)) (sym is) (steps.no_json ((text_is_no_json t bytes).0 fails) refl)

pub unread_shape : (t : DecisionTable) (bytes : List ℕ) (k : ℕ) (e : ReportError) → IsTable t → report_of_text t bytes ≡ Err (texts.BadShape k) → e ≡ rejected k reasons.BadShape → IfRejected (RefusesText t bytes) e
unread_shape t bytes k e table fails is = subst (IfRejected (RefusesText t bytes)) (sym is) (steps.no_report k ((text_has_bad_shape t bytes k table).0 fails) refl)

refused_json : (bench : Workbench) (lines : List Line) (bytes : List ℕ) (x : Rejection) → RefusesText bench.table bytes x → IsRejectedJson bench lines bytes x
refused_json bench lines bytes x (steps.no_json none is) = no_json none is
refused_json bench lines bytes x (steps.no_report k bad is) = no_report k bad is

pub refused_text : (bench : Workbench) (lines : List Line) (bytes : List ℕ) (t : DecisionTable) (e : ReportError) → t ≡ bench.table → IfRejected (RefusesText t bytes) e → IfRejected (IsRejectedJson bench lines bytes) e
refused_text bench lines bytes t e same h = rejects_by (RefusesText t bytes) (IsRejectedJson bench lines bytes) e (λ x refuses. refused_json bench lines bytes x (subst (λ (u : DecisionTable). RefusesText u bytes x) same refuses)) h

-- what is rejected among the blocks of bytes
pub rejected_blocks : (bench : Workbench) (lines : List Line) (bytes : List ℕ) (blocks : List Block) (result : Result Accepted ReportError) → IsJsonReport bench.table bytes blocks → IfErr result (IfRejected (λ x. IsRejectedAmong bench x [] lines blocks)) → IfErr result (IfRejected (IsRejectedJson bench lines bytes))
rejected_blocks bench lines bytes blocks (Ok x) json h = tt
rejected_blocks bench lines bytes blocks (Err e) json h = rejects_by (λ x. IsRejectedAmong bench x [] lines blocks) (IsRejectedJson bench lines bytes) e (λ x among. in_blocks blocks json among) h

-- and what is accepted of them
pub proved_blocks : (bench : Workbench) (lines : List Line) (bytes : List ℕ) (blocks : List Block) (result : Result Accepted ReportError) → IsJsonReport bench.table bytes blocks → IfOk result (AreProvedBlocks bench lines blocks) → IfOk result (IsProvedJson bench lines bytes)
proved_blocks bench lines bytes blocks (Ok x) json h = record { blocks = blocks; json = json; proved = h.proved; counted = h.counted }
proved_blocks bench lines bytes blocks (Err e) json h = tt

-- the reason of a block's fault
pub refused_as : (t : DecisionTable) (r : Revisions) (line : Line) (block : Block) (n : ℕ) (fault : BlockFault) → IsRefusedBy (FailsBlock t r line block) IsEarlierBlockFault faults.Memory fault → IfRejected (λ x. (x.block ≡ n) × RefusesBlock t r line block x.reason) (refused_block_error n fault)
refused_as t r line block n faults.WrongBlock first = (refl, record { fault = faults.WrongBlock; first = first (λ e. cc); is = refl })
refused_as t r line block n (faults.Answer k fault) first = (refl, record { fault = faults.Answer k fault; first = first (λ e. cc); is = refl })
refused_as t r line block n (faults.Repair fault) first = (refl, record { fault = faults.Repair fault; first = first (λ e. cc); is = refl })
refused_as t r line block n faults.Memory first = tt

-- the fault that was given is this one
pub fault_given : (f g : TextFault) (r : Result (List Block) TextFault) → f ≡ g → IfSome (text_fault f) (λ h. r ≡ Err h) → IfSome (text_fault g) (λ h. r ≡ Err h)
fault_given f g r is h = subst (λ (x : TextFault). IfSome (text_fault x) (λ h. r ≡ Err h)) is h
