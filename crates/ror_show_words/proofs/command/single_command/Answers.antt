use Rattle.std.proofs.Common.{◌≡◌, refl, codes}
use Rattle.std.proofs.lemmas.Result.{IfOk-weaker}
use Rattle.clap.specs.Words.{App, with_rule}
use Rattle.ror_show_words.specs.Words.{option_rule, flag_rule, named_app, single_app}
use Rattle.ror_show_words.proofs.command.single_command.Goals as goal

chained : (a b c d e : App) → a ≡ named_app → b ≡ with_rule a (flag_rule (codes "best-first")) → c ≡ with_rule b (option_rule (codes "line")) → d ≡ with_rule c (option_rule (codes "desk")) → e ≡ with_rule d (option_rule (codes "as")) → e ≡ single_app
unfolding single_app
chained a b c d e p q r s t = rw (t, s, r, q, p) refl

pub returns : goal.returns
returns c =
    IfOk-weaker c.with_option-3.result _ _ (λ m h. chained _ _ _ _ _ c.in_ok-named_command.ensures c.in_ok-command.ensures c.in_ok-command-2.ensures c.in_ok-command-3.ensures h) c.with_option-3.ensures
