-- Which answers are told, one more, and why they are what they are.
use Rattle.std.proofs.Common.{◌≡◌, ℕ, ◌+◌, ◌<◌, Bool, true, false, List, [], ◌∷◌, ◌++◌, length, Option, None, get_or, refl, sym, ap, ◌∙◌, arith}
use Rattle.std.specs.Prelude.{suc, if◌then◌else◌}
use Rattle.std.specs.List.{flat_map, range_with_len}
use Rattle.std.specs.Option.{option_map_or}
use Rattle.ror_show_ground.proofs.Tests.{pieces_more}
use Rattle.ror_statement.specs.declared.statement.Statement.{Statement}
use Rattle.ror_statement.specs.declared.statement.Numbered.{Numbered}
use Rattle.ror_statement.specs.declared.question.Question.{Question}
use Rattle.ror_table.specs.Table.{DecisionTable}
use Rattle.ror_proof.specs.declared.answer.Answer.{Answer}
use Rattle.ror_proof.specs.declared.answer.Verdict.{Verdict}
use Rattle.ror_proof.specs.declared.answer.Verdict.TheVariants as verdicts
use Rattle.ror_check.specs.Proof.{OfProof, Proves, IsProvedAnswer, IsWideOrProved, is_wide}
use Rattle.ror_show_ground.specs.Sound.{IsSoundAnswer}
use Rattle.ror_reason.specs.declared.reducts.Reason.{Reason}
use Rattle.ror_show_ground.proofs.Lists.{at_place}
use Rattle.ror_show_find_reasons.specs.declared.lines.Meant.{Meant}
use Rattle.ror_show_find_reasons.specs.Carrying.{HasReason, IsTold}
use Rattle.ror_show_find_reasons.specs.Lines.{left_with, left_at, is_told, is_told_at, told_if}

-- ---- which are told

next : (k : ℕ) → suc k ≡ k + 1
next k = omega arith

pub left_more : (xs : List Answer) (k : ℕ) (x : Answer) (left after : ℕ) → k < length xs → x ≡ get_or xs k x → left ≡ left_at xs k → after ≡ left_with left x → after ≡ left_at xs (k + 1)
left_more xs k x left after within here before is =
    let there = at_place xs k x within in
    let more : left_with (left_at xs k) (get_or xs k x) ≡ left_at xs (suc k) = ap (λ (o : Option Answer). option_map_or (left_with (left_at xs k)) o (left_at xs k)) (sym there) in
    is ∙ ap (left_with left) here ∙ ap (λ (n : ℕ). left_with n (get_or xs k x)) before ∙ more ∙ ap (left_at xs) (next k)

pub told_more : (m : Meant) (xs : List Answer) (k : ℕ) (x : Answer) (told : Bool) (left : ℕ) (before after : List ℕ) → k < length xs → x ≡ get_or xs k x → left ≡ left_at xs k → told ≡ is_told m (length xs) left x → before ≡ flat_map (told_if m xs) (range_with_len 0 k) → after ≡ before ++ (if told then k ∷ [] else []) → after ≡ flat_map (told_if m xs) (range_with_len 0 (k + 1))
told_more m xs k x told left before after within here at is so_far pushed =
    let there = at_place xs k x within in
    let same : told ≡ is_told_at m xs k = is ∙ ap (is_told m (length xs) left) here ∙ ap (λ (n : ℕ). is_told m (length xs) n (get_or xs k x)) at ∙ ap (λ (o : Option Answer). option_map_or (is_told m (length xs) (left_at xs k)) o false) (sym there) in
    pieces_more (told_if m xs) k [] before after so_far (pushed ∙ ap (λ (b : Bool). before ++ (if b then k ∷ [] else [])) same)

-- ---- wide answers, and others

-- an answer that isn't too wide has its proof
pub proved : (t : DecisionTable) (list : List Statement) (x : Answer) → is_wide x.verdict ≡ false → IsSoundAnswer t list x → IsProvedAnswer t list x.question x
proved t list x narrow sound = record { question = refl; proof = by x.verdict narrow sound.verdict }
  where
    by : (v : Verdict) → is_wide v ≡ false → IsWideOrProved t list x.question v → OfProof (Proves t list x.question) v
    by (verdicts.Yes proof) narrow h = h
    by (verdicts.No proof) narrow h = h
    by (verdicts.Contradiction proof) narrow h = h
    by (verdicts.Wide system note) narrow h = absurd (let p = narrow in cc)

pub told_wide : (t : DecisionTable) (list : List Numbered) (q : Question) (v : Verdict) → is_wide v ≡ true → IsTold t list q v None
told_wide t list q (verdicts.Yes proof) wide = absurd (let p = wide in cc)
told_wide t list q (verdicts.No proof) wide = absurd (let p = wide in cc)
told_wide t list q (verdicts.Contradiction proof) wide = absurd (let p = wide in cc)
told_wide t list q (verdicts.Wide system note) wide = refl

pub told_reason : (t : DecisionTable) (list : List Numbered) (q : Question) (v : Verdict) (told : Option Reason) → is_wide v ≡ false → HasReason t list q v told → IsTold t list q v told
told_reason t list q (verdicts.Yes proof) told narrow h = h
told_reason t list q (verdicts.No proof) told narrow h = h
told_reason t list q (verdicts.Contradiction proof) told narrow h = h
told_reason t list q (verdicts.Wide system note) told narrow h = absurd (let p = narrow in cc)
