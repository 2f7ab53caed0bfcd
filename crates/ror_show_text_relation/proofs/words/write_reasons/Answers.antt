use Rattle.std.proofs.Common.{rules, ◌≡◌, ℕ, List, ◌++◌, Option, Some, None, option_map, append-nil, sym, ap, ◌∙◌}
use Rattle.std.proofs.lemmas.Result.{on_ok_weaker}
use Rattle.ror_reason.specs.declared.reducts.Reason.{Reason}
use Rattle.ror_show_kit.specs.Layout.{wrapped}
use Rattle.ror_show_kit.proofs.Pieces.{words_more}
use Rattle.ror_show_text_relation.specs.ArrowText.{carrying_words, better_by, better_words}
use Rattle.ror_show_text_relation.proofs.words.write_reasons.Goals as goal

pub returns-in-Some : goal.returns-in-Some
returns-in-Some c =
    let told = option_map (λ x. x.now) c.args.carrying in
    let ws = carrying_words told in
    let by = option_map (λ x. x.now) c.numbers_of.result in
    let is : c.args.better.now ≡ Some c.in-Some.reason = search rules in
    let words : better_by told by ≡ better_words told c.args.better.now =
    ap (better_by told) c.numbers_of.ensures ∙ ap (λ (o : Option Reason). better_words told o) (sym is) in
    let so_far = c.in_ok-left.ensures.text in
    let at = c.in_ok-left.ensures.room in
    on_ok_weaker c.write_better.result
    (λ last. words_more 8 c.args.room ws (better_by told by) (ws ++ better_words told c.args.better.now) c.args.text.now.items c.write_carried_by.new.text.items c.write_better.new.text.items c.in_ok-left.left so_far at last
    (ap (λ (more : List (List ℕ)). ws ++ more) (sym words)))
    c.write_better.ensures

pub returns-in-None : goal.returns-in-None
returns-in-None c =
    let told = option_map (λ x. x.now) c.args.carrying in
    let ws = carrying_words told in
    let is : c.args.better.now ≡ None = search rules in
    let all : ws ≡ ws ++ better_words told c.args.better.now = sym (ap (λ (o : Option Reason). ws ++ better_words told o) is ∙ append-nil ws) in
    c.in_ok-left.ensures.text ∙ ap (λ (words : List (List ℕ)). c.args.text.now.items ++ wrapped 8 c.args.room words) all
