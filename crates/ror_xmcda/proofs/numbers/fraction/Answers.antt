use Rattle.std.proofs.Common.{◌≡◌, Some, refl, ◌∙◌}
use Rattle.ror_table.specs.Amounts.{lowest}
use Rattle.ror_xmcda.proofs.NumberLemmas.{some_once, turned_made, kept_made}
use Rattle.ror_xmcda.proofs.numbers.fraction.Goals as goal

turned : (c : goal.After-new) → c.new.result ≡ Some (lowest c.args.numerator c.args.denominator)
turned c = c.new.ensures.value ∙ turned_made c.args.numerator c.args.denominator c.requires.numerator c.requires.denominator c.if-denominator-lt0.true

kept : (c : goal.After-new-else-denominator-lt0) → c.new-else-denominator-lt0.result ≡ Some (lowest c.args.numerator c.args.denominator)
kept c = c.new-else-denominator-lt0.ensures.value ∙ kept_made c.args.numerator c.args.denominator c.requires.some c.requires.numerator c.requires.denominator c.if-denominator-lt0.false

pub unwrap-requires : goal.unwrap-requires
unwrap-requires c = rw (turned c) refl

pub unwrap-requires-else-denominator-lt0 : goal.unwrap-requires-else-denominator-lt0
unwrap-requires-else-denominator-lt0 c = rw (kept c) refl

pub returns-then-denominator-lt0-clause-value : goal.returns-then-denominator-lt0-clause-value
returns-then-denominator-lt0-clause-value c =
    some_once c.new.result c.unwrap.result (lowest c.args.numerator c.args.denominator) c.unwrap.ensures
    (c.new.ensures.value ∙ turned_made c.args.numerator c.args.denominator c.requires.numerator c.requires.denominator c.if-denominator-lt0.true)

pub returns-else-denominator-lt0-clause-value : goal.returns-else-denominator-lt0-clause-value
returns-else-denominator-lt0-clause-value c =
    some_once c.new-else-denominator-lt0.result c.unwrap-else-denominator-lt0.result (lowest c.args.numerator c.args.denominator) c.unwrap-else-denominator-lt0.ensures
    (c.new-else-denominator-lt0.ensures.value ∙ kept_made c.args.numerator c.args.denominator c.requires.some c.requires.numerator c.requires.denominator c.if-denominator-lt0.false)
