-- What holds of each entry at its place.
use Rattle.std.proofs.Common.{◌≡◌, ℕ, ◌+◌, ◌++◌, false, List, [], ◌∷◌, refl}
use Rattle.std.specs.Prelude.{codes}
use Rattle.ror_report.specs.Reading.{begins_end}
use Rattle.ror_bench.specs.declared.report.Accepted.{Accepted}
use Rattle.ror_entries.specs.Kind.{Kind, IsKind}
use Rattle.ror_entries.specs.Reports.{EachAt, IsProvedEntries, IsAcceptedEntries}

pub each_by : {E : Type 0} (P Q : ℕ → E → Type 0) → ((place : ℕ) (x : E) → P place x → Q place x) → (place : ℕ) (xs : List E) → EachAt P place xs → EachAt Q place xs
each_by P Q by place [] each = tt
each_by P Q by place (x ∷ xs) each = (by place x each.0, each_by P Q by (place + 1) xs each.1)

-- what is proved is accepted
pub proved_is_accepted : {E : Type 0} (kind : Kind E) → IsKind kind → (body : List ℕ) (x : Accepted) → IsProvedEntries kind body x → IsAcceptedEntries kind body x
proved_is_accepted kind lawful body x proved =
    record { proved = proved; entries_true = each_by kind.IsProved kind.IsTrue lawful.proved_is_true 0 proved.entries proved.proved }

-- an entry of a pair begins as no last line does
pub pair_begins_no_end : (more : List ℕ) → begins_end (codes "pair " ++ more) ≡ false
pair_begins_no_end more = refl
