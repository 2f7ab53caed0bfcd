use Rattle.std.proofs.Common.{ℕ, List, ◌++◌, ap, sym, ◌∙◌, append_assoc}
use Rattle.ror_statement.specs.declared.comparison.Form.{Form}
use Rattle.ror_proof.specs.Printing.{spaced}
use Rattle.ror_proof.specs.Text.{pair_words, scope_words, form_words}
use Rattle.ror_proof.proofs.PrintLemmas.{more_words, on_ok}
use Rattle.ror_proof.proofs.print.write_form.Goals as goal

pub returns-in_ok-write_pair-in-Strength-2-clause-ok : goal.returns-in_ok-write_pair-in-Strength-2-clause-ok
returns-in_ok-write_pair-in-Strength-2-clause-ok c =
    let t = c.args.table.now in
    let start = c.args.text.now.items in
    let one = c.write_pair-in-Strength.new.text.items in
    let two = c.write_pair-in-Strength-2.new.text.items in
    let text = c.write_scope.new.text.items in
    let first = pair_words t c.in-Strength.first in
    let second = pair_words t c.in-Strength.second in
    let scope = scope_words t c.in-Strength.scope in
    let both = more_words start one two first second c.in_ok-write_pair-in-Strength.ensures.ok c.in_ok-write_pair-in-Strength-2.ensures.ok in
    let regrouped = ap (λ (ws : List (List ℕ)). start ++ spaced ws) (append_assoc first second scope) in
    on_ok c.write_scope.result c.write_scope.ensures.ok (λ e. more_words start two text (first ++ second) scope both e ∙ regrouped ∙ ap (λ (form : Form). start ++ spaced (form_words t form)) (sym c.in-Strength.is))
