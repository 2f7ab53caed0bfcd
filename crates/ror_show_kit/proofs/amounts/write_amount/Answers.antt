-- The sign, and what stands behind it.
use Rattle.std.proofs.lemmas.Result.{on_ok_weaker}
use Rattle.std.proofs.Common.{◌≡◌, ◌++◌, rules, ap, ◌∙◌, append_assoc}
use Rattle.std.specs.Prelude.{List, ℕ, OnOk, unsigned_abs}
use Rattle.ror_show_kit.specs.Amounts.{sign_text, ratio_text}
use Rattle.ror_show_kit.proofs.amounts.write_amount.Goals as goal

pub returns : goal.returns
returns c =
    let signed : c.write_sign.new.text.items ≡ c.args.text.now.items ++ sign_text c.args.amount.num = search rules in
    let ratio : OnOk c.write_ratio.result (c.write_ratio.new.text.items ≡ c.write_sign.new.text.items ++ ratio_text (unsigned_abs c.args.amount.num) (unsigned_abs c.args.amount.den)) = search rules in
    on_ok_weaker c.write_ratio.result
    (λ last. last ∙ ap (λ (qs : List ℕ). qs ++ ratio_text (unsigned_abs c.args.amount.num) (unsigned_abs c.args.amount.den)) signed ∙ append_assoc c.args.text.now.items (sign_text c.args.amount.num) (ratio_text (unsigned_abs c.args.amount.num) (unsigned_abs c.args.amount.den)))
    ratio
