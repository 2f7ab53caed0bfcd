-- What is given of extreme ranks is proved, and nothing of it is too wide where no system is.
use Rattle.std.proofs.Common.{◌≡◌, ℕ, ◌<◌, false, List, [], ◌∷◌, length, refl}
use Rattle.std.specs.List.{AllByRecursion}
use Rattle.ror_statement.specs.declared.statement.Statement.{Statement}
use Rattle.ror_table.specs.Table.{DecisionTable}
use Rattle.ror_system.specs.System.{LinearSystem}
use Rattle.ror_check.specs.Proof.{base_system}
use Rattle.ror_ranks.specs.declared.extreme.Side.{Side}
use Rattle.ror_ranks.specs.declared.extreme.Extreme.{Extreme}
use Rattle.ror_ranks.specs.declared.extreme.Said.{Said}
use Rattle.ror_ranks.specs.declared.extreme.Said.TheVariants as said
use Rattle.ror_ranks.specs.Proof.{is_wide, IsProvedSaid, AreProvedRanks}
use Rattle.ror_ranks.specs.Finding.{IsGivenSaid, IsGivenExtreme, AreGivenRanks}
use Rattle.ror_ranks.specs.Laws.{IsNarrowList}
use Rattle.ror_ranks.proofs.ConflictTruth.{due_within}

pub given_said_proved : (most : ℕ) (t : DecisionTable) (base : LinearSystem) (side : Side) (a : ℕ) (s : Said) → IsGivenSaid most t base side a s → IsProvedSaid t base side a s
given_said_proved most t base side a (said.Within x) given = given.proved
given_said_proved most t base side a (said.Wide x) given = tt

pub given_each_proved : (most : ℕ) (t : DecisionTable) (base : LinearSystem) (xs : List Extreme) → AllByRecursion (IsGivenExtreme most t base) xs → AllByRecursion (λ (x : Extreme). IsProvedSaid t base x.side x.alternative x.said) xs
given_each_proved most t base [] given = tt
given_each_proved most t base (x ∷ xs) given = (given_said_proved most t base x.side x.alternative x.said given.0, given_each_proved most t base xs given.1)

pub given_ranks_proved : (most : ℕ) (t : DecisionTable) (list : List Statement) (xs : List Extreme) → AreGivenRanks most t list xs → AreProvedRanks t list xs
given_ranks_proved most t list xs given = record { due = given.due; each = given_each_proved most t (base_system t list) xs given.each }

module _ (most : ℕ) (t : DecisionTable) (list : List Statement) (narrow : IsNarrowList most t list) where
  not_wide : (side : Side) (a : ℕ) (s : Said) → a < length t.alternatives → IsGivenSaid most t (base_system t list) side a s → is_wide s ≡ false
  not_wide side a (said.Within x) of_table given = refl
  not_wide side a (said.Wide x) of_table given = absurd (narrow.sides side a x.members of_table given.others x.note.path x.note.place given.noted.0)

  none_wide : (xs : List Extreme) → AllByRecursion (λ (x : Extreme). x.alternative < length t.alternatives) xs → AllByRecursion (IsGivenExtreme most t (base_system t list)) xs
      → AllByRecursion (λ (x : Extreme). is_wide x.said ≡ false) xs
  none_wide [] of_table given = tt
  none_wide (x ∷ xs) of_table given = (not_wide x.side x.alternative x.said of_table.0 given.0, none_wide xs of_table.1 given.1)

pub none_too_wide : (most : ℕ) (t : DecisionTable) (list : List Statement) (xs : List Extreme) → IsNarrowList most t list → AreGivenRanks most t list xs → AllByRecursion (λ (x : Extreme). is_wide x.said ≡ false) xs
none_too_wide most t list xs narrow given = none_wide most t list narrow xs (due_within t xs given.due) given.each
