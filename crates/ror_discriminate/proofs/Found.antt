-- What is found of a list's system says of the list.
use Rattle.std.proofs.Common.{◌≡◌, ◌≢◌, ℕ, List, [], ℤ, subst}
use Rattle.ror_statement.specs.declared.statement.Statement.{Statement}
use Rattle.ror_table.specs.Table.{DecisionTable, columns}
use Rattle.ror_table.specs.Blocks.{tops}
use Rattle.ror_system.specs.System.{LinearSystem, IsSolvable}
use Rattle.ror_value.specs.Over.{IsLawfulIn}
use Rattle.ror_rows.proofs.Holding.{rows_hold_base}
use Rattle.ror_check.specs.Proof.{base_system}
use Rattle.ror_pivot.specs.declared.optimum.ClimbNote.{ClimbNote}
use Rattle.ror_pivot.specs.declared.optimum.ClimbFault.TheVariants as climbing
use Rattle.ror_pivot.specs.declared.optimum.Optimum.{Optimum}
use Rattle.ror_pivot.specs.Optimality.{AreTops, IsAcceptedOptimum, IsNarrowOptimum}
use Rattle.ror_pivot.specs.Climbing.{EndsOptimal, IsClimbNote, IsClimbNoteWithin}
use Rattle.ror_discriminate.specs.declared.fault.DiscriminateFault.{DiscriminateFault}
use Rattle.ror_discriminate.specs.declared.fault.DiscriminateFault.TheVariants as answers
use Rattle.ror_discriminate.specs.Margin.{strict_comparisons}
use Rattle.ror_discriminate.specs.Discriminating.{IsFound, IsClimbWide, IsDueFault}
use Rattle.ror_discriminate.specs.Steps.{RefusesBase}
use Rattle.ror_discriminate.proofs.Contradictory.{shown_of}
use Rattle.ror_discriminate.proofs.Margins.{most_discriminating}

module _ (most : ℕ) (t : DecisionTable) (list : List Statement) (lawful : IsLawfulIn t list) (says : strict_comparisons list ≢ []) where
  due_of : (f : DiscriminateFault) → RefusesBase most (base_system t list) f → IsDueFault most t list f
  due_of answers.NoStrictRow h = absurd h
  due_of (answers.Contradictory m) h = record {
    shown = shown_of t list m lawful says h.0;
    narrow_weak = h.1;
    narrow_strict = h.2;
  }
  due_of (answers.BaseWide note) h = record { says_strictly = says; noted = h.0; within = h.1 }
  due_of (answers.Wide note) h = absurd h
  due_of answers.Memory h = tt

  pub due_of_base : (s : LinearSystem) (f : DiscriminateFault) → s ≡ base_system t list → RefusesBase most s f → IsDueFault most t list f
  due_of_base s f e h = due_of f (subst (λ (s : LinearSystem). RefusesBase most s f) e h)

  found_of : (x : Optimum) → AreTops (columns t) (tops t) → EndsOptimal most (base_system t list) (tops t) x → IsAcceptedOptimum (base_system t list) (tops t) x → IsNarrowOptimum most x → IsFound most t list x
  found_of x are ended accepted narrow = record {
    says_strictly = says;
    ended = ended;
    accepted = accepted;
    narrow = narrow;
    best = most_discriminating t list x.solution.steps x.multipliers.weak x.multipliers.strict are lawful accepted;
  }

  pub found : (s : LinearSystem) (top : List ℤ) (x : Optimum) → s ≡ base_system t list → top ≡ tops t → AreTops (columns t) top → EndsOptimal most s top x → IsAcceptedOptimum s top x → IsNarrowOptimum most x → IsFound most t list x
  found s top x e f are ended accepted narrow = found_of x (subst (AreTops (columns t)) f are)
      (subst (λ (ts : List ℤ). EndsOptimal most (base_system t list) ts x) f (subst (λ (s : LinearSystem). EndsOptimal most s top x) e ended))
      (subst (λ (ts : List ℤ). IsAcceptedOptimum (base_system t list) ts x) f (subst (λ (s : LinearSystem). IsAcceptedOptimum s top x) e accepted))
      narrow

  wide_of : (note : ClimbNote) → IsSolvable (base_system t list) → IsClimbNote most (base_system t list) (tops t) note.path note.place → IsClimbNoteWithin (base_system t list) (climbing.Wide note) → IsClimbWide most t list note
  wide_of note solvable noted within = record {
    says_strictly = says;
    consistent = (solvable.0, (rows_hold_base t list solvable.0 lawful).1 solvable.1);
    solvable = solvable;
    noted = noted;
    within = within;
  }

  pub wide : (s : LinearSystem) (top : List ℤ) (note : ClimbNote) → s ≡ base_system t list → top ≡ tops t → IsSolvable s → IsClimbNote most s top note.path note.place → IsClimbNoteWithin s (climbing.Wide note) → IsClimbWide most t list note
  wide s top note e f solvable noted within = wide_of note
      (subst IsSolvable e solvable)
      (subst (λ (ts : List ℤ). IsClimbNote most (base_system t list) ts note.path note.place) f (subst (λ (s : LinearSystem). IsClimbNote most s top note.path note.place) e noted))
      (subst (λ (s : LinearSystem). IsClimbNoteWithin s (climbing.Wide note)) e within)
