-- What is found of one system, and of the systems of a question.
use Rattle.std.specs.Prelude.{◌≡◌, ℕ, ◌+◌, ◌<◌, List, [], ◌∷◌, length, map, slice_get, Some, Result, Ok, Err}
use Rattle.std.specs.List.{AllByRecursion, range_with_len}
use Rattle.ror_statement.specs.declared.statement.Statement.{Statement}
use Rattle.ror_statement.specs.declared.question.Question.{Question}
use Rattle.ror_statement.specs.declared.question.QuestionKind.{QuestionKind}
use Rattle.ror_statement.specs.declared.question.QuestionKind.TheVariants.{Any, Every}
use Rattle.ror_statement.specs.declared.question.Conclusion.{Conclusion}
use Rattle.ror_statement.specs.declared.question.Conclusion.TheVariants as conclusions
use Rattle.ror_table.specs.Table.{DecisionTable}
use Rattle.ror_system.specs.System.{LinearSystem, IsSolvable}
use Rattle.ror_pivot.specs.declared.note.Outcome.{Outcome}
use Rattle.ror_pivot.specs.declared.note.Outcome.TheVariants.{Feasible, Infeasible}
use Rattle.ror_pivot.specs.declared.note.SolveFault.{SolveFault}
use Rattle.ror_pivot.specs.declared.note.SolveFault.TheVariants.{Wide, Memory}
use Rattle.ror_pivot.specs.Counts.{raised_by, IsPathOfLength}
use Rattle.ror_proof.specs.declared.answer.Certificate.{Certificate}
use Rattle.ror_proof.specs.declared.answer.Certificate.TheVariants as certificates
use Rattle.ror_proof.specs.declared.answer.Part.{Part}
use Rattle.ror_proof.specs.declared.answer.WideText.{WideText}
use Rattle.ror_proof.specs.declared.answer.Verdict.{Verdict}
use Rattle.ror_proof.specs.declared.answer.Verdict.TheVariants as verdicts
use Rattle.ror_check.specs.Proof.{Shows, ShowsOfItsSystem, base_side, IsAllowedVerdict, IsWideOrTrue}
use Rattle.ror_relation.specs.declared.decision.Decision.{Decision}
use Rattle.ror_relation.specs.declared.decision.Decision.TheVariants as decisions
use Rattle.ror_relation.specs.declared.search.Search.{Search}
use Rattle.ror_relation.specs.declared.search.Search.TheVariants as searches
use Rattle.ror_given.specs.Notes.{HasNoteAt, pivots_of, place_of}
use Rattle.ror_given.specs.Answers.{IsCertificateWithin, IsVerdictWithin}

-- The certificate shows what the base shows where this is concluded, that the system is solvable or that it is not, and no
-- number of it passes most.
abbrev pub ShowsAsBase : ℕ → Conclusion → LinearSystem → Certificate → Type 0
ShowsAsBase most c s x = Shows (base_side c) s x × IsCertificateWithin most x

-- what a system comes to at the width
abbrev pub IsDecision : ℕ → LinearSystem → Decision → Type 0
IsDecision most s (decisions.Solvable x) =
    ShowsAsBase most conclusions.Yes s (certificates.Solution x)
IsDecision most s (decisions.NotSolvable m) =
    ShowsAsBase most conclusions.Contradiction s (certificates.Multipliers m)
IsDecision most s (decisions.TooWide note) = HasNoteAt most s note

-- the decision says what the outcome does; want of memory says nothing
abbrev pub IsSaidOf : Result Outcome SolveFault → Decision → Type 0
IsSaidOf (Ok (Feasible x)) d = d ≡ decisions.Solvable x
IsSaidOf (Ok (Infeasible m)) d = d ≡ decisions.NotSolvable m
IsSaidOf (Err (Wide note)) d = (text : WideText) × (d ≡ decisions.TooWide text)
    × (pivots_of text.path ≡ note.path) × (place_of text.place ≡ note.place)
IsSaidOf (Err Memory) d = ⊥

-- no system before this place is solvable
abbrev pub NoneSolvableBelow : List LinearSystem → ℕ → Type 0
NoneSolvableBelow systems n = (i : ℕ) (s : LinearSystem) → i < n → slice_get systems i ≡ Some s
    → IsSolvable s → ⊥

-- the part shows this side of the system that has its number, and no number of it passes most
pub record IsPartOf (most : ℕ) (c : Conclusion) (systems : List LinearSystem)
    (p : Part) : Type 0 where
  pub shown : ShowsOfItsSystem (base_side c) systems p
  pub narrow : IsCertificateWithin most p.body

-- the multipliers of so many systems, in order
pub record AreRefuted (most : ℕ) (systems : List LinearSystem) (n : ℕ)
    (parts : List Part) : Type 0 where
  pub numbered : map (λ p. p.at) parts ≡ range_with_len 1 n
  pub each : AllByRecursion (IsPartOf most conclusions.Contradiction systems) parts
  pub none_solvable : NoneSolvableBelow systems n

-- the system with this number has the note, and none before it is solvable
pub record IsWideSystem (most : ℕ) (systems : List LinearSystem) (number : ℕ)
    (note : WideText) : Type 0 where
  pub before : ℕ
  pub counted : number ≡ before + 1
  pub system : LinearSystem
  pub there : slice_get systems before ≡ Some system
  pub noted : HasNoteAt most system note
  pub none_solvable : NoneSolvableBelow systems before

-- what a search among systems comes to at the width: one that is solvable, the refutation of all, or one that is too wide
abbrev pub IsSearch : ℕ → List LinearSystem → Search → Type 0
IsSearch most systems (searches.Solvable p) = IsPartOf most conclusions.Yes systems p
IsSearch most systems (searches.NoneSolvable parts) =
    AreRefuted most systems (length systems) parts.items
IsSearch most systems (searches.TooWide number note) = IsWideSystem most systems number note

-- the verdict on a question of this kind, where the base is solvable and the search among its systems comes to this
abbrev pub verdict_of : QuestionKind → Certificate → Search → Verdict
verdict_of Every base (searches.Solvable p) = verdicts.No (record { base = base; parts = p ∷ [] })
verdict_of _ base (searches.Solvable p) = verdicts.Yes (record { base = base; parts = p ∷ [] })
verdict_of Any base (searches.NoneSolvable parts) =
    verdicts.No (record { base = base; parts = parts.items })
verdict_of _ base (searches.NoneSolvable parts) =
    verdicts.Yes (record { base = base; parts = parts.items })
verdict_of _ base (searches.TooWide number note) = verdicts.Wide number note

-- the verdict of an answer that is given at the width
pub record IsGivenVerdict (most : ℕ) (t : DecisionTable) (list : List Statement) (q : Question)
    (v : Verdict) : Type 0 where
  pub allowed : IsAllowedVerdict (HasNoteAt most) t list q v
  pub narrow : IsVerdictWithin most v
  pub true_verdict : IsWideOrTrue t list q v

-- each pivot of the system's path was counted: those to its end, or those to the number that the note names
abbrev pub IsCountedFor : LinearSystem → Decision → ℕ → ℕ → Type 0
IsCountedFor s (decisions.TooWide note) before now = now ≡ raised_by (length note.path) before
IsCountedFor s _ before now = (pivots : ℕ) × IsPathOfLength s pivots × (now ≡ raised_by pivots before)
