use Rattle.std.specs.Prelude.{ℕ, ◌+◌, ◌/◌, ◌%◌, List, [], ◌∷◌, ◌++◌, decimal, if◌then◌else◌}
use Rattle.ror_show_find_proofs.specs.declared.share.Share.{Share}
use Rattle.ror_show_find_proofs.specs.Shares.{thousandths, is_rounded}

-- a digit
abbrev pub digit : ℕ → ℕ
digit n = 48 + n % 10

-- so many thousandths, with three places
abbrev pub places_text : ℕ → List ℕ
places_text k = decimal (k / 1000) ++ 46 ∷ digit (k / 100) ∷ digit (k / 10) ∷ digit k ∷ []

-- `~` where it is rounded, else a space
abbrev pub mark : Share → ℕ
mark s = if is_rounded s then 126 else 32

abbrev pub rounded_text : Share → List ℕ
rounded_text s = mark s ∷ places_text (thousandths s)
