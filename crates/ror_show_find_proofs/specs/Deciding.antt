use Rattle.std.specs.Prelude.{List, slice_get, Option, ℤ}
use Rattle.std.specs.Option.{option_and_then}
use Rattle.ror_proof.specs.declared.answer.Verdict.{Verdict}
use Rattle.ror_show_find_proofs.specs.Functions.{parts_of, steps_in}

-- the steps of the value function that is the first part of a verdict's proof, where it is one
abbrev pub deciding : Verdict → Option (List ℤ)
deciding v = option_and_then (λ x. steps_in x.body) (slice_get (parts_of v) 0)
