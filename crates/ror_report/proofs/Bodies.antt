-- The answers of a body, as the loop over it reads them.
use Rattle.std.proofs.Common.{◌≡◌, ◌+◌, ◌-◌, List, [], ◌∷◌, ◌++◌, length, Some, refl, ap, ◌∙◌, arith}
use Rattle.std.specs.Prelude.{slice_get}
use Rattle.std.proofs.lemmas.List.{length_push}
use Rattle.ror_report.specs.Reading.{ends_body}
use Rattle.ror_report.proofs.AnswerRuns.{EndsAnswers}
use Rattle.ror_report.proofs.LineForms.{goes_on_at_answer, ends_no_part}

pub body_ends : EndsAnswers ends_body
body_ends = record { goes_on = goes_on_at_answer; no_part = ends_no_part; at_end = refl }

-- ---- the last answer

-- it is the one that was pushed
pub last_pushed : {A : Type 0} (xs : List A) (x : A) → slice_get (xs ++ x ∷ []) (length (xs ++ x ∷ []) - 1) ≡ Some x
last_pushed xs x =
    let before : length (xs ++ x ∷ []) - 1 ≡ length xs = omega (arith, length_push xs x) in
    ap (slice_get (xs ++ x ∷ [])) before ∙ at_end xs x
  where
    at_end : {A : Type 0} (xs : List A) (x : A) → slice_get (xs ++ x ∷ []) (length xs) ≡ Some x
    at_end [] x = refl
    at_end (y ∷ xs) x = at_end xs x
