-- What is found at a width has a text: its numbers are narrow, and those of its notes small.
use Rattle.std.proofs.Common.{ℕ, ◌^◌, ◌<◌, List, ℤ, arith, lit<, length-drop}
use Rattle.std.specs.List.{AllByRecursion}
use Rattle.ror_text.proofs.Everywhere.{all-by}
use Rattle.ror_word.specs.Within.{IsWithin}
use Rattle.ror_system.specs.System.{LinearSystem, sum_limit, IsNarrow, IsWellFormed}
use Rattle.ror_pivot.specs.declared.note.Bits.{Bits}
use Rattle.ror_pivot.specs.declared.note.Bits.TheVariants.{B15, B31, B63, B127}
use Rattle.ror_pivot.specs.declared.note.Place.{Place}
use Rattle.ror_pivot.specs.declared.note.Place.TheVariants as places
use Rattle.ror_pivot.specs.declared.note.SolveFault.TheVariants.{Wide}
use Rattle.ror_pivot.specs.declared.note.WideNote.{WideNote}
use Rattle.ror_pivot.specs.declared.optimum.ClimbNote.{ClimbNote}
use Rattle.ror_pivot.specs.declared.optimum.ClimbPlace.{ClimbPlace}
use Rattle.ror_pivot.specs.declared.optimum.ClimbPlace.TheVariants as climbs
use Rattle.ror_pivot.specs.declared.optimum.ClimbFault.TheVariants as climb_faults
use Rattle.ror_pivot.specs.Climbing.{climbing_shape, IsClimbPlaceWithin, IsClimbNoteWithin}
use Rattle.ror_pivot.specs.Tableau.{shape_of, right_side_column, objective_row}
use Rattle.ror_pivot.specs.Answers.{most_of, IsPlaceWithin, IsNoteWithin}
use Rattle.ror_discriminate.specs.Text.{IsSmallPlace, IsSmallClimbPlace, IsSmallPath}
use Rattle.ror_discriminate.specs.EntryLaws.{FoundBodiesHaveTexts}

most_within : (bits : Bits) → most_of bits < sum_limit
most_within B15 = lit< tt
most_within B31 = lit< tt
most_within B63 = lit< tt
most_within B127 = lit< tt

narrow : (bits : Bits) (xs : List ℤ) → AllByRecursion (IsWithin (most_of bits)) xs → AllByRecursion IsNarrow xs
narrow bits xs all = all-by (IsWithin (most_of bits)) IsNarrow xs (λ z within. omega (arith, within, most_within bits)) all

module _ (s : LinearSystem) (form : IsWellFormed s) where
  place_small : (place : Place) → IsPlaceWithin (shape_of s) place → IsSmallPlace place
  place_small (places.Start i j) within =
      let columns = form.columns_limit in
      let rows = form.rows_limit in
      let row = within.0 in
      let column = within.1 in
      (omega arith, (omega arith, tt))
  place_small (places.Step i j) within =
      let columns = form.columns_limit in
      let rows = form.rows_limit in
      let row = within.0 in
      let column = within.1 in
      (omega arith, (omega arith, tt))
  place_small (places.Denominator i) within = let rows = form.rows_limit in (omega arith, tt)
  place_small (places.RowSum i) within = let rows = form.rows_limit in (omega arith, tt)
  place_small (places.ColumnSum j) within = let columns = form.columns_limit in (omega arith, tt)

  abbrev IsInside : ℕ × ℕ → Type 0
  IsInside p = (p.0 < right_side_column (shape_of s)) × (p.1 < objective_row (shape_of s))

  step_small : (p : ℕ × ℕ) → IsInside p → (p.0 < 2 ^ 32) × (p.1 < 2 ^ 32)
  step_small p inside =
      let columns = form.columns_limit in
      let rows = form.rows_limit in
      let column = inside.0 in
      let row = inside.1 in
      (omega arith, omega arith)

  base_small : (note : WideNote) → IsNoteWithin s (Wide note) → IsSmallPlace note.place × IsSmallPath note.path
  base_small note within = (place_small note.place within.1, all-by IsInside (λ p. (p.0 < 2 ^ 32) × (p.1 < 2 ^ 32)) note.path step_small within.0)

module _ (s : LinearSystem) (form : IsWellFormed s) where
  climb_place_small : (place : ClimbPlace) → IsClimbPlaceWithin s place → IsSmallClimbPlace place
  climb_place_small (climbs.Start i j) within =
      let columns = form.columns_limit in
      let rows = form.rows_limit in
      let row = within.0 in
      let column = within.1 in
      (omega (arith, length-drop 1 s.strict), omega (arith, length-drop 1 s.strict))
  climb_place_small (climbs.Step i j) within =
      let columns = form.columns_limit in
      let rows = form.rows_limit in
      let row = within.0 in
      let column = within.1 in
      (omega (arith, length-drop 1 s.strict), omega (arith, length-drop 1 s.strict))
  climb_place_small (climbs.Denominator i) within = let rows = form.rows_limit in omega (arith, length-drop 1 s.strict)
  climb_place_small (climbs.RowSum i) within = let rows = form.rows_limit in omega arith
  climb_place_small climbs.Total within = tt
  climb_place_small (climbs.Scale j) within = let columns = form.columns_limit in omega arith
  climb_place_small (climbs.ColumnSum j) within = let columns = form.columns_limit in omega arith

  abbrev IsClimbing : ℕ × ℕ → Type 0
  IsClimbing p = (p.0 < right_side_column (climbing_shape s)) × (p.1 < objective_row (climbing_shape s))

  climb_step_small : (p : ℕ × ℕ) → IsClimbing p → (p.0 < 2 ^ 32) × (p.1 < 2 ^ 32)
  climb_step_small p inside =
      let columns = form.columns_limit in
      let rows = form.rows_limit in
      let column = inside.0 in
      let row = inside.1 in
      (omega (arith, length-drop 1 s.strict), omega (arith, length-drop 1 s.strict))

  pub climb_small : (note : ClimbNote) → IsClimbNoteWithin s (climb_faults.Wide note) → IsSmallClimbPlace note.place × IsSmallPath note.path
  climb_small note within = (climb_place_small note.place within.1, all-by IsClimbing (λ p. (p.0 < 2 ^ 32) × (p.1 < 2 ^ 32)) note.path climb_step_small within.0)

pub found_have_texts : FoundBodiesHaveTexts
found_have_texts = record {
  best = λ bits margin total x m t within. (m, t, (narrow bits x.solution.steps within.steps, (narrow bits x.multipliers.weak within.weak, narrow bits x.multipliers.strict within.strict)));
  contradiction = λ bits m weak strict. (narrow bits m.weak weak, narrow bits m.strict strict);
  base_wide = λ s note form within. base_small s form note within;
  climb_wide = λ s note form within. climb_small s form note within;
}
