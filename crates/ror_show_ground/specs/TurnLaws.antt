use Rattle.std.specs.Prelude.{◌≡◌, ◌↔◌, ℕ, ◌<◌, true, false, List, length, Contains}
use Rattle.ror_session.specs.declared.session.Session.{Session}
use Rattle.ror_bench.specs.declared.kept.KeptLine.{KeptLine}
use Rattle.ror_show_ground.specs.Turns.{counts_at, desk_of, turns}

-- both are answered lines of one desk, the one before the other, and no such line is between them
pub record IsTurn (s : Session) (kept : List KeptLine) (before now : ℕ) : Type 0 where
  pub within : now < length kept
  pub answered : counts_at s kept (desk_of s kept now) now ≡ true
  pub earlier : before < now
  pub answered_before : counts_at s kept (desk_of s kept now) before ≡ true
  pub none_between : (n : ℕ) → before < n → n < now → counts_at s kept (desk_of s kept now) n ≡ false

abbrev pub TurnsAreThose : Type 0
TurnsAreThose = (s : Session) (kept : List KeptLine) (before now : ℕ)
    → Contains {X = ℕ × ℕ} (turns s kept) (before, now) ↔ IsTurn s kept before now
