-- The cell of the column against the row is the mirror of that of the row against the column.
use Rattle.std.proofs.Common.{◌≡◌, ℕ, Bool, true, false, ◌||◌, List, refl, sym}
use Rattle.std.specs.Prelude.{◌==◌, if◌then◌else◌}
use Rattle.std.proofs.lemmas.Bool.{eqb-true, eqb-false}
use Rattle.ror_proof.specs.declared.answer.Answer.{Answer}
use Rattle.ror_show_ground.specs.declared.said.Said.{Said}
use Rattle.ror_show_ground.specs.declared.said.Said.TheVariants.{Yes, No, Contradiction, Nothing}
use Rattle.ror_show_find_relation.specs.declared.pair.PairSaid.{PairSaid}
use Rattle.ror_show_find_relation.specs.declared.cell.Cell.{Cell}
use Rattle.ror_show_find_relation.specs.declared.cell.Cell.TheVariants as cells
use Rattle.ror_show_find_relation.specs.Said.{said_of_pair}
use Rattle.ror_show_find_relation.specs.Cells.{has_contradiction, better_by, cell_of_necessary, cell_of, cell_at, mirror}

better-mirrored : (strict weak : Cell) (n p : Said) → mirror (better_by strict weak (record { necessary = n; possible = p })) ≡ better_by (mirror strict) (mirror weak) (record { necessary = n; possible = p })
better-mirrored strict weak Yes p = refl
better-mirrored strict weak No Yes = refl
better-mirrored strict weak No No = refl
better-mirrored strict weak No Contradiction = refl
better-mirrored strict weak No Nothing = refl
better-mirrored strict weak Contradiction Yes = refl
better-mirrored strict weak Contradiction No = refl
better-mirrored strict weak Contradiction Contradiction = refl
better-mirrored strict weak Contradiction Nothing = refl
better-mirrored strict weak Nothing Yes = refl
better-mirrored strict weak Nothing No = refl
better-mirrored strict weak Nothing Contradiction = refl
better-mirrored strict weak Nothing Nothing = refl

row-mirrored : (back : PairSaid) → better_by cells.NeverAsGood cells.AtMostAsGood back ≡ mirror (better_by cells.AlwaysBetter cells.AtLeastAsGood back)
row-mirrored back = sym (better-mirrored cells.AlwaysBetter cells.AtLeastAsGood back.necessary back.possible)

column-mirrored : (there : PairSaid) → better_by cells.AlwaysBetter cells.AtLeastAsGood there ≡ mirror (better_by cells.NeverAsGood cells.AtMostAsGood there)
column-mirrored there = sym (better-mirrored cells.NeverAsGood cells.AtMostAsGood there.necessary there.possible)

necessary-mirrored : (there back : PairSaid) (n m : Said) → cell_of_necessary back there m n ≡ mirror (cell_of_necessary there back n m)
necessary-mirrored there back Yes Yes = refl
necessary-mirrored there back No No = refl
necessary-mirrored there back Yes No = row-mirrored back
necessary-mirrored there back Yes Contradiction = row-mirrored back
necessary-mirrored there back Yes Nothing = row-mirrored back
necessary-mirrored there back No Yes = column-mirrored there
necessary-mirrored there back Contradiction Yes = column-mirrored there
necessary-mirrored there back Nothing Yes = column-mirrored there
necessary-mirrored there back No Contradiction = refl
necessary-mirrored there back No Nothing = refl
necessary-mirrored there back Contradiction No = refl
necessary-mirrored there back Contradiction Contradiction = refl
necessary-mirrored there back Contradiction Nothing = refl
necessary-mirrored there back Nothing No = refl
necessary-mirrored there back Nothing Contradiction = refl
necessary-mirrored there back Nothing Nothing = refl

choice-mirrored : (p q : Bool) (x y : Cell) → y ≡ mirror x → (if q || p then cells.Contradiction else y) ≡ mirror (if p || q then cells.Contradiction else x)
choice-mirrored true true x y is = refl
choice-mirrored true false x y is = refl
choice-mirrored false true x y is = refl
choice-mirrored false false x y is = is

pub cell-mirrored : (there back : PairSaid) → cell_of back there ≡ mirror (cell_of there back)
cell-mirrored there back =
    choice-mirrored (has_contradiction there) (has_contradiction back) (cell_of_necessary there back there.necessary back.necessary) (cell_of_necessary back there back.necessary there.necessary)
    (necessary-mirrored there back there.necessary back.necessary)

pub mirrored : (n : ℕ) (xs : List Answer) (a b : ℕ) → cell_at n xs b a ≡ mirror (cell_at n xs a b)
mirrored n xs a b = by (a == b) (b == a) refl refl
  where
    by : (s r : Bool) → (a == b) ≡ s → (b == a) ≡ r → (if r then cells.Itself else cell_of (said_of_pair n xs b a) (said_of_pair n xs a b)) ≡ mirror (if s then cells.Itself else cell_of (said_of_pair n xs a b) (said_of_pair n xs b a))
    by true true same back = refl
    by false false same back = cell-mirrored (said_of_pair n xs a b) (said_of_pair n xs b a)
    by true false same back = absurd (eqb-false b a back (sym (eqb-true a b same)))
    by false true same back = absurd (eqb-false a b same (sym (eqb-true b a back)))
