-- What becomes of the classes of an alternative where another list stands: by the signs of what is, and of what would be.
use Rattle.std.specs.Prelude.{◌≡◌, ℕ, ◌+◌, Bool, true, false, List, [], ◌∷◌, Option, Some, None, if◌then◌else◌}
use Rattle.std.specs.List.{flat_map, range_with_len}
use Rattle.ror_proof.specs.declared.answer.Answer.{Answer}
use Rattle.ror_show_find_classes.specs.declared.sign.Sign.{Sign}
use Rattle.ror_show_find_classes.specs.declared.sign.Sign.TheVariants as signs
use Rattle.ror_show_find_classes.specs.Signs.{sign_of_class}
use Rattle.ror_show_find_whatif.specs.declared.classes.ClassEffect.{ClassEffect}
use Rattle.ror_show_find_whatif.specs.declared.classes.ClassShift.{ClassShift}
use Rattle.ror_show_find_whatif.specs.declared.classes.ClassShift.TheVariants as shifts

-- From the sign of what is to that of what would be. Where no function agrees, now or then, nothing is compared.
abbrev pub class_shift_of : Sign → Sign → Option ClassShift
class_shift_of signs.Contradiction _ = None
class_shift_of _ signs.Contradiction = None
class_shift_of signs.Unknown _ = Some shifts.Unknown
class_shift_of _ signs.Unknown = Some shifts.Unknown
class_shift_of signs.Impossible signs.Necessary = Some shifts.Opened
class_shift_of signs.Impossible signs.Possible = Some shifts.Opened
class_shift_of signs.Necessary signs.Impossible = Some shifts.Closed
class_shift_of signs.Possible signs.Impossible = Some shifts.Closed
class_shift_of signs.Necessary signs.Possible = Some shifts.Loosened
class_shift_of signs.Possible signs.Necessary = Some shifts.Bound
class_shift_of _ _ = None

abbrev pub is_same : ClassShift → ClassShift → Bool
is_same shifts.Opened shifts.Opened = true
is_same shifts.Closed shifts.Closed = true
is_same shifts.Loosened shifts.Loosened = true
is_same shifts.Bound shifts.Bound = true
is_same shifts.Unknown shifts.Unknown = true
is_same _ _ = false

abbrev pub is_found : ClassShift → Option ClassShift → Bool
is_found shift (Some found) = is_same shift found
is_found shift None = false

-- this becomes of the class, by the answers of what is and of what would be
abbrev pub has_class_shift : List Answer → List Answer → ClassShift → ℕ → Bool
has_class_shift xs ys shift h = is_found shift (class_shift_of (sign_of_class xs h) (sign_of_class ys h))

abbrev pub class_of : List Answer → List Answer → ClassShift → ℕ → List ℕ
class_of xs ys shift h = if has_class_shift xs ys shift h then h ∷ [] else []

-- that of the class behind so many
abbrev pub class_behind : List Answer → List Answer → ClassShift → ℕ → List ℕ
class_behind xs ys shift n = class_of xs ys shift (n + 1)

-- of so many classes, from the worst on
abbrev pub shifted_classes : ℕ → List Answer → List Answer → ClassShift → List ℕ
shifted_classes classes xs ys shift = flat_map (class_behind xs ys shift) (range_with_len 0 classes)

pub record IsClassEffect (classes : ℕ) (xs ys : List Answer) (f : ClassEffect) : Type 0 where
  pub opened : f.opened ≡ shifted_classes classes xs ys shifts.Opened
  pub closed : f.closed ≡ shifted_classes classes xs ys shifts.Closed
  pub loosened : f.loosened ≡ shifted_classes classes xs ys shifts.Loosened
  pub bound : f.bound ≡ shifted_classes classes xs ys shifts.Bound
  pub unknown : f.unknown ≡ shifted_classes classes xs ys shifts.Unknown
