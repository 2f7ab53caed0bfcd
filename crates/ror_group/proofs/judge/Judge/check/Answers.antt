use Rattle.std.proofs.Common.{rules, ◌≡◌, false, refl}
use Rattle.ror_proof.proofs.PrintLemmas.{on_ok}
use Rattle.ror_check.specs.Proof.{is_wide}
use Rattle.ror_group.specs.Combining.{Asked}
use Rattle.ror_group.proofs.Pairs.{proved_for, refused_for}
use Rattle.ror_group.proofs.judge.Judge.check.Goals as goal

pub returns : goal.returns
returns c =
    let narrow : is_wide c.args.x.now.verdict ≡ false = search rules in
    let asked : Asked = record { list = c.args.self.now.statements; question = c.args.asked.now } in
    let statements = c.as_slice-statements.ensures in
    record {
      accepted = on_ok c.check.result (rw (← statements) c.check.ensures.accepted) (proved_for c.args.table.now asked c.args.x.now);
      refused = refused_for c.args.table.now asked c.args.x.now c.check.result narrow (rw (← statements) c.check.ensures.refused);
      judge = record { lawful = c.requires.judge.lawful; checker = rw (← statements) c.check.ensures.kept };
      statements = refl;
    }
