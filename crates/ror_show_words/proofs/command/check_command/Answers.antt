use Rattle.std.proofs.Common.{◌≡◌, refl, codes}
use Rattle.std.proofs.lemmas.Result.{IfOk-weaker}
use Rattle.clap.specs.Words.{App, with_rule}
use Rattle.ror_show_words.specs.Words.{name_rule, flag_rule, named_app, check_app}
use Rattle.ror_show_words.proofs.command.check_command.Goals as goal

chained : (a b c : App) → a ≡ named_app → b ≡ with_rule a (name_rule (codes "CERTIFICATES")) → c ≡ with_rule b (flag_rule (codes "best-first")) → c ≡ check_app
unfolding check_app
chained a b c p q r = rw (r, q, p) refl

pub returns : goal.returns
returns c =
    IfOk-weaker c.with_flag.result _ _ (λ m h. chained _ _ _ c.in_ok-named_command.ensures c.in_ok-command.ensures h) c.with_flag.ensures
