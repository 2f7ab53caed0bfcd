use Rattle.std.proofs.Common.{◌∙◌}
use Rattle.std.specs.Prelude.{codes}
use Rattle.ror_proof.proofs.PrintLemmas.{line_made, on_ok}
use Rattle.ror_proof.specs.Text.{certificate_words}
use Rattle.ror_proof.proofs.print.write_base.Goals as goal

pub returns-clause-ok : goal.returns-clause-ok
returns-clause-ok c =
    on_ok c.end_line.result c.end_line.ensures.ok (λ e. e ∙ line_made c.args.text.now.items c.extend_from_slice.new.self.items c.write_certificate.new.text.items (codes "base") (certificate_words c.args.base.now) c.in_ok-extend_from_slice.ensures.items c.in_ok-write_certificate.ensures.ok)
