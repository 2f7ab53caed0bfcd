-- What a repair drops, over all value functions, and what proves it.
use Rattle.std.specs.Prelude.{◌≡◌, ℕ, Bool, true, false, not, nat_eq, List, [], ◌∷◌, ◌++◌, map, take, slice_get, Some}
use Rattle.std.specs.List.{AllByRecursion, filter}
use Rattle.std.specs.List.Sorted.{IsStrictlyIncreasing}
use Rattle.std.specs.Set.{is_member}
use Rattle.ror_statement.specs.declared.statement.Statement.{Statement}
use Rattle.ror_statement.specs.declared.statement.Numbered.{Numbered}
use Rattle.ror_statement.specs.Statements.{numbers_in, statements_in}
use Rattle.ror_table.specs.Table.{DecisionTable}
use Rattle.ror_value.specs.Meaning.{IsConsistent, IsContradictory}
use Rattle.ror_system.specs.Acceptance.{AreAcceptedMultipliers}
use Rattle.ror_proof.specs.declared.answer.Certificate.{Certificate}
use Rattle.ror_proof.specs.declared.answer.Certificate.TheVariants as certificates
use Rattle.ror_proof.specs.declared.kept.Dropped.{Dropped}
use Rattle.ror_proof.specs.declared.kept.Kept.{Kept}
use Rattle.ror_check.specs.Proof.{base_system}
use Rattle.ror_check.specs.Steps.{IsAcceptedFor}

-- the numbers are some of those in the list, each once, in increasing order
pub record AreNumbersIn (list : List Numbered) (ns : List ℕ) : Type 0 where
  pub rising : IsStrictlyIncreasing ns
  pub each_stands : AllByRecursion (λ n. is_member nat_eq (numbers_in list) n ≡ true) ns

-- the statement has one of these numbers
abbrev pub is_among : List ℕ → Numbered → Bool
is_among ns x = is_member nat_eq ns x.number

-- what is kept of a list where the statements with these numbers are dropped
abbrev pub kept_of : List ℕ → List Numbered → List Numbered
kept_of dropped list = filter (λ x. not (is_among dropped x)) list

-- the statements that are kept before a place of the list, and then the one at the place
abbrev pub kept_with : List ℕ → List Numbered → ℕ → Numbered → List Statement
kept_with dropped list k x = statements_in (kept_of dropped (take k list) ++ x ∷ [])

-- A repair goes through the list in order. It keeps a statement where some value function is compatible with those kept
-- before it and with it, and drops it where none is; and it names those that it drops.
pub record IsRepair (t : DecisionTable) (list : List Numbered) (dropped : List ℕ) : Type 0 where
  pub numbers : AreNumbersIn list dropped
  pub kept : (k : ℕ) (x : Numbered) → slice_get list k ≡ Some x → is_among dropped x ≡ false
      → IsConsistent t (kept_with dropped list k x)
  pub contradicts : (k : ℕ) (x : Numbered) → slice_get list k ≡ Some x → is_among dropped x ≡ true
      → IsContradictory t (kept_with dropped list k x)

-- ---- what proves it

abbrev pub numbers_of : List Dropped → List ℕ
numbers_of ds = map (λ d. d.number) ds

-- the multipliers of a dropped statement are accepted for the system of those kept before it and itself
abbrev pub RefutesDropped : DecisionTable → List Statement → Dropped → Type 0
RefutesDropped t list d = AreAcceptedMultipliers (base_system t list) d.proof.weak d.proof.strict

-- the multipliers of each dropped statement refute it, each at the place of its number
abbrev pub AreRefuted : DecisionTable → List Numbered → List Dropped → Type 0
AreRefuted t list ds = (j k : ℕ) (d : Dropped) (s : Numbered) → slice_get ds j ≡ Some d
    → slice_get list k ≡ Some s → d.number ≡ s.number
    → RefutesDropped t (kept_with (numbers_of ds) list k s) d

-- a base is a solution, unless nothing is kept
abbrev pub IsBaseKind : List Numbered → Certificate → Type 0
IsBaseKind kept (certificates.Solution x) = Unit {0}
IsBaseKind kept (certificates.Multipliers m) = kept ≡ []

-- The multipliers of each dropped statement refute it together with those kept before it. The base is accepted for the
-- system of all that is kept.
pub record IsProvedRepair (t : DecisionTable) (list : List Numbered) (x : Kept) : Type 0 where
  pub numbers : AreNumbersIn list (numbers_of x.dropped)
  pub kind : IsBaseKind (kept_of (numbers_of x.dropped) list) x.base
  pub refuted : AreRefuted t list x.dropped
  pub base : IsAcceptedFor (base_system t (statements_in (kept_of (numbers_of x.dropped) list)))
      x.base
