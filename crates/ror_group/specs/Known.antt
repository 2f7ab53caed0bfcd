-- What a reader of entries knows of a judge.
use Rattle.std.specs.Prelude.{ℕ, List, IfSome}
use Rattle.ror_proof.specs.Reading.{base_of, IsBaseLine}
use Rattle.ror_group.specs.declared.reader.Known.{Known}

-- the base of the answer, where there is one, stands in this line of the bytes
abbrev pub IsKnownIn : List ℕ → Known → Type 0
IsKnownIn bytes known = IfSome known.last (λ answer. IfSome (base_of answer.verdict) (IsBaseLine bytes known.line))
