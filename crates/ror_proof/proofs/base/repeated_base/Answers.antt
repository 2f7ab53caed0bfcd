use Rattle.std.proofs.Common.{rules, ◌≡◌, true, List, ℕ, drop, sym, ap, ◌∙◌, arith}
use Rattle.std.specs.Prelude.{nat_eq}
use Rattle.std.specs.List.{starts_with}
use Rattle.ror_text.proofs.CursorLemmas.{to_end}
use Rattle.ror_proof.specs.Reading.{IsBaseLine}
use Rattle.ror_proof.proofs.BaseLemmas.{line_bytes, repeats}
use Rattle.ror_proof.proofs.base.repeated_base.Goals as goal

pub returns-then-starts_with-clause-exact : goal.returns-then-starts_with-clause-exact
returns-then-starts_with-clause-exact c =
    let bytes = c.args.bytes.now in
    let known : IsBaseLine bytes c.args.line c.in_ok-base.base.now = search rules in
    let stands : starts_with nat_eq (drop c.args.from bytes) (line_bytes bytes c.args.line) ≡ true = ap (λ (l : List ℕ). starts_with nat_eq l (line_bytes bytes c.args.line)) (sym (to_end bytes c.args.from)) ∙ sym c.if-starts_with.ensures.value in
    (repeats bytes c.args.line c.in_ok-base.base.now c.args.from known stands).0

pub returns-then-starts_with-clause-onward : goal.returns-then-starts_with-clause-onward
returns-then-starts_with-clause-onward c =
    let bytes = c.args.bytes.now in
    let known : IsBaseLine bytes c.args.line c.in_ok-base.base.now = search rules in
    let stands : starts_with nat_eq (drop c.args.from bytes) (line_bytes bytes c.args.line) ≡ true = ap (λ (l : List ℕ). starts_with nat_eq l (line_bytes bytes c.args.line)) (sym (to_end bytes c.args.from)) ∙ sym c.if-starts_with.ensures.value in
    omega (arith, (repeats bytes c.args.line c.in_ok-base.base.now c.args.from known stands).1)
