-- What the two tests of a row or of a column leave to the tests after them.
use Rattle.std.specs.Prelude.{◌≡◌, ◌⊎◌}
use Rattle.ror_system.specs.declared.reject.Reject.{Reject}

-- neither of two tests fails
abbrev pub PassesBoth : (Reject → Type 0) → Reject → Reject → Type 0
PassesBoth Fails first second = (Fails first → ⊥) × (Fails second → ⊥)

-- this is the first of the two that fails
abbrev pub IsFirstOfTwo : (Reject → Type 0) → Reject → Reject → Reject → Type 0
IsFirstOfTwo Fails first second r = ((r ≡ first) × Fails first)
    ⊎ ((r ≡ second) × (Fails first → ⊥) × Fails second)
