use Rattle.std.proofs.Common.{◌<◌, ℕ, length, refl, arith}
use Rattle.ror_integers.proofs.Rows.{same_from_entries}
use Rattle.ror_system.proofs.values.Values.is_same.Goals as goal

pub returns : goal.returns
returns c =
    let xs = c.args.self.now in
    let ys = c.args.other.now in
    ((λ _. same_from_entries xs ys (omega arith) (λ (j : ℕ) (l : j < length xs). c.loop-k.invariant j (omega arith))), λ _. refl)
