use Rattle.std.proofs.Common.{ap, ◌∙◌, ◌∷◌, sym}
use Rattle.std.specs.Prelude.{ℕ, List}
use Rattle.std.specs.Str.Lines.{lines}
use Rattle.ror_text.proofs.LineLemmas.{lines-split, lines-unsplit, rest-split, rest-unsplit, positive}
use Rattle.ror_text.proofs.lines.first_line.Goals as goal

pub returns-in-Some-clause-line : goal.returns-in-Some-clause-line
returns-in-Some-clause-line c = lines-split c.args.bytes.now c.in-Some.line.now c.in-Some.rest.now c.in-Some.ensures ∙ ap (λ (l : List ℕ). l ∷ lines c.in-Some.rest.now) (sym c.without_carriage_return.ensures)

pub returns-in-None-2-clause-line : goal.returns-in-None-2-clause-line
returns-in-None-2-clause-line c = lines-unsplit c.args.bytes.now c.in-None.ensures (positive _ c.if-is_empty.ensures)

pub returns-in-Some-clause-rest : goal.returns-in-Some-clause-rest
returns-in-Some-clause-rest c = rest-split c.args.bytes.now c.in-Some.line.now c.in-Some.rest.now c.in-Some.ensures

pub returns-in-None-2-clause-rest : goal.returns-in-None-2-clause-rest
returns-in-None-2-clause-rest c = rest-unsplit c.args.bytes.now c.in-None.ensures
