-- Which answer a list is due, want of memory apart.
use Rattle.std.proofs.Common.{◌≡◌, ◌≢◌, ℕ, List, [], Result, Ok, Err, refl}
use Rattle.ror_statement.specs.declared.statement.Statement.{Statement}
use Rattle.ror_table.specs.Table.{DecisionTable}
use Rattle.ror_system.specs.declared.accept.Multipliers.{Multipliers}
use Rattle.ror_value.specs.Meaning.{IsConsistent, IsContradictory}
use Rattle.ror_check.specs.Proof.{base_system}
use Rattle.ror_pivot.specs.declared.optimum.Optimum.{Optimum}
use Rattle.ror_discriminate.specs.Margin.{strict_comparisons}
use Rattle.ror_discriminate.specs.Discriminating.{IsDiscriminated, HasNoWideNote, HasNoClimbNote}
use Rattle.ror_discriminate.specs.declared.fault.DiscriminateFault.{DiscriminateFault}
use Rattle.ror_discriminate.specs.declared.fault.DiscriminateFault.TheVariants as faults

pub nothing_strict : (most : ℕ) (t : DecisionTable) (list : List Statement) (answer : Result Optimum DiscriminateFault) → IsDiscriminated most t list answer → answer ≢ Err faults.Memory
    → strict_comparisons list ≡ [] → answer ≡ Err faults.NoStrictRow
nothing_strict most t list (Ok x) may ne none = absurd (may.says_strictly none)
nothing_strict most t list (Err faults.NoStrictRow) may ne none = refl
nothing_strict most t list (Err (faults.Contradictory m)) may ne none = absurd (may.shown.says_strictly none)
nothing_strict most t list (Err (faults.BaseWide note)) may ne none = absurd (may.says_strictly none)
nothing_strict most t list (Err (faults.Wide note)) may ne none = absurd (may.says_strictly none)
nothing_strict most t list (Err faults.Memory) may ne none = absurd (ne refl)

pub contradictory : (most : ℕ) (t : DecisionTable) (list : List Statement) (answer : Result Optimum DiscriminateFault) → IsDiscriminated most t list answer → answer ≢ Err faults.Memory
    → strict_comparisons list ≢ [] → IsContradictory t list → HasNoWideNote most (base_system t list) → (m : Multipliers) × (answer ≡ Err (faults.Contradictory m))
contradictory most t list (Ok x) may ne some none note = absurd (none x.solution.steps may.best.compatible)
contradictory most t list (Err faults.NoStrictRow) may ne some none note = absurd (some may)
contradictory most t list (Err (faults.Contradictory m)) may ne some none note = (m, refl)
contradictory most t list (Err (faults.BaseWide wide)) may ne some none note = absurd (note wide.path wide.place may.noted)
contradictory most t list (Err (faults.Wide wide)) may ne some none note = absurd (none may.consistent.0 may.consistent.1)
contradictory most t list (Err faults.Memory) may ne some none note = absurd (ne refl)

pub consistent : (most : ℕ) (t : DecisionTable) (list : List Statement) (answer : Result Optimum DiscriminateFault) → IsDiscriminated most t list answer → answer ≢ Err faults.Memory
    → strict_comparisons list ≢ [] → IsConsistent t list → HasNoWideNote most (base_system t list) → HasNoClimbNote most t (base_system t list) → (x : Optimum) × (answer ≡ Ok x)
consistent most t list (Ok x) may ne some one note climb = (x, refl)
consistent most t list (Err faults.NoStrictRow) may ne some one note climb = absurd (some may)
consistent most t list (Err (faults.Contradictory m)) may ne some one note climb = absurd (may.shown.contradictory one.0 one.1)
consistent most t list (Err (faults.BaseWide wide)) may ne some one note climb = absurd (note wide.path wide.place may.noted)
consistent most t list (Err (faults.Wide wide)) may ne some one note climb = absurd (climb wide.path wide.place may.noted)
consistent most t list (Err faults.Memory) may ne some one note climb = absurd (ne refl)
