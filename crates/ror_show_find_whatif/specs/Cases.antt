-- What hangs on each statement of a list.
use Rattle.std.specs.Prelude.{◌≡◌, ℕ, List, [], ◌∷◌, slice_get, Option, Some, None}
use Rattle.std.specs.List.{AllZip}
use Rattle.ror_statement.specs.declared.statement.Numbered.{Numbered}
use Rattle.ror_statement.specs.declared.statement.Statement.{Statement}
use Rattle.ror_table.specs.Table.{DecisionTable}
use Rattle.ror_proof.specs.declared.answer.Answer.{Answer}
use Rattle.ror_show_find_whatif.specs.declared.cases.Case.{Case}
use Rattle.ror_show_find_whatif.specs.declared.cases.Contrary.{Contrary}
use Rattle.ror_show_find_whatif.specs.declared.outcome.Asks.{Asks}
use Rattle.ror_show_find_whatif.specs.declared.outcome.Outcome.{Outcome}
use Rattle.ror_show_find_whatif.specs.Changed.{left_of, contrary_of, instead_of}
use Rattle.ror_show_find_whatif.specs.Outcomes.{IsOutcome}

-- what the line's questions come to where the statement with this number alone is withdrawn
abbrev pub IsWithdrawn : DecisionTable → Asks → List Numbered → List Answer → ℕ → Outcome → Type 0
IsWithdrawn t asks list xs n f = IsOutcome t asks xs (left_of (n ∷ []) list) f

-- this said in its place, and what the questions come to then, where all others stand
pub record IsContrarySaid (t : DecisionTable) (asks : Asks) (list : List Numbered) (xs : List Answer) (x : Numbered) (s : Statement)
    (f : Contrary) : Type 0 where
  pub statement : f.statement ≡ s
  pub outcome : IsOutcome t asks xs (instead_of x.number s list) f.outcome

-- where the statement has a contrary
abbrev pub IsContraryWhere : DecisionTable → Asks → List Numbered → List Answer → Numbered → Option Statement → Option Contrary → Type 0
IsContraryWhere t asks list xs x (Some s) found = (f : Contrary) × IsContrarySaid t asks list xs x s f × (found ≡ Some f)
IsContraryWhere t asks list xs x None found = found ≡ None

-- both, of one statement that stood
pub record IsCase (t : DecisionTable) (asks : Asks) (list : List Numbered) (xs : List Answer) (x : Numbered) (f : Case) : Type 0 where
  pub stated : f.stated ≡ x
  pub withdrawn : IsWithdrawn t asks list xs x.number f.withdrawn
  pub contrary : IsContraryWhere t asks list xs x (contrary_of x.statement) f.contrary

-- of the one at a place
abbrev pub IsCaseAt : DecisionTable → Asks → List Numbered → List Answer → ℕ → Case → Type 0
IsCaseAt t asks list xs k f = (x : Numbered) → slice_get list k ≡ Some x → IsCase t asks list xs x f

-- it is one of the list
abbrev pub StandsIn : List Numbered → Numbered → Type 0
StandsIn list x = (k : ℕ) × (slice_get list k ≡ Some x)

-- of each statement that stood, in order
abbrev pub AreCases : DecisionTable → Asks → List Answer → List Numbered → List Case → Type 0
AreCases t asks xs list fs = AllZip (IsCase t asks list xs) list fs

-- where what stood is kept
abbrev pub AreCasesOver : DecisionTable → Asks → List Answer → Option (List Numbered) → List Case → Type 0
AreCasesOver t asks xs (Some list) fs = AreCases t asks xs list fs
AreCasesOver t asks xs None fs = fs ≡ []
