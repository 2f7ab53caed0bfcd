-- Which rows of the refuted system a statement has, and how often it counts.
use Rattle.std.specs.Prelude.{◌≡◌, ◌≢◌, ℕ, ◌≤◌, ◌==◌, not, List, [], ◌∷◌, ◌++◌, map, Some, if◌then◌else◌, ℤ, pos, int_lt}
use Rattle.std.specs.List.{filter}
use Rattle.ror_statement.specs.declared.statement.Numbered.{Numbered}
use Rattle.ror_statement.specs.declared.question.Question.{Question}
use Rattle.ror_statement.specs.declared.question.Question.TheVariants.{NecessaryClass}
use Rattle.ror_statement.specs.Statements.{statements_in}
use Rattle.ror_table.specs.Table.{DecisionTable}
use Rattle.ror_system.specs.System.{LinearSystem}
use Rattle.ror_system.specs.declared.accept.Multipliers.{Multipliers}
use Rattle.ror_proof.specs.declared.answer.Certificate.TheVariants as certificates
use Rattle.ror_proof.specs.declared.answer.Verdict.{Verdict}
use Rattle.ror_check.specs.Proof.{OfProof, Proves}
use Rattle.ror_show_find_proofs.specs.Sums.{refutation, refuted}
use Rattle.ror_show_find_proofs.specs.Weights.{is_owner, owners_of, weights_of}

-- ---- the rows of a statement

-- the statements but those with this number
abbrev pub without : ℕ → List Numbered → List Numbered
without n part = filter (λ x. not (x.number == n)) part

-- the rows but those that a statement with this number gives, by itself or with another
abbrev pub rows_without : ℕ → List (ℕ × ℕ) → List (List ℤ) → List (List ℤ)
rows_without n [] rows = rows
rows_without n (owner ∷ owners) [] = []
rows_without n (owner ∷ owners) (row ∷ rows) =
    if is_owner n owner then rows_without n owners rows else row ∷ rows_without n owners rows

-- what the statements that are numbered so make of a question
abbrev pub refuted_by : DecisionTable → List Numbered → Question → Verdict → LinearSystem
refuted_by t part q v = refuted t (statements_in part) q v

-- without the rows of a statement the system is that of the others
pub record RowsGo (t : DecisionTable) (part : List Numbered) (q : Question) (v : Verdict) (n : ℕ) : Type 0 where
  pub weak : rows_without n (owners_of part q).weak (refuted_by t part q v).weak ≡ (refuted_by t (without n part) q v).weak
  pub strict : rows_without n (owners_of part q).strict (refuted_by t part q v).strict ≡ (refuted_by t (without n part) q v).strict

-- but where a class is asked of every function: then each class statement may ask for a system of its own
abbrev pub OwnRowsGo : Type 0
OwnRowsGo = (t : DecisionTable) (part : List Numbered) (q : Question) (v : Verdict) (n : ℕ)
    → 1 ≤ n → ((a h : ℕ) → q ≢ NecessaryClass a h) → RowsGo t part q v n

-- ---- how often it counts

-- the multipliers of the rows that a statement with this number gives, in order
abbrev pub multipliers_of : ℕ → List (ℕ × ℕ) → List ℤ → List ℤ
multipliers_of n [] ms = []
multipliers_of n (owner ∷ owners) [] = []
multipliers_of n (owner ∷ owners) (m ∷ ms) =
    if is_owner n owner then m ∷ multipliers_of n owners ms else multipliers_of n owners ms

-- the weak ones, then the strict ones
abbrev pub own_multipliers : List Numbered → Question → Multipliers → ℕ → List ℤ
own_multipliers part q m n =
    multipliers_of n (owners_of part q).weak m.weak ++ multipliers_of n (owners_of part q).strict m.strict

-- Of a proved answer a statement counts as often as the multipliers of its rows say that are above 0, and none is below.
abbrev pub CountsAreMultipliers : Type 0
CountsAreMultipliers = (t : DecisionTable) (part : List Numbered) (q : Question) (v : Verdict) (m : Multipliers) (n : ℕ)
    → OfProof (Proves t (statements_in part) q) v → refutation v ≡ Some (certificates.Multipliers m)
    → map pos (weights_of n (owners_of part q) v) ≡ filter (λ k. int_lt (pos 0) k) (own_multipliers part q m n)
