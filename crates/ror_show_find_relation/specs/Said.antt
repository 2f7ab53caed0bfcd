-- What answers say of an ordered pair of alternatives: whether the first is necessarily, and whether it is possibly, at least
-- as good as the second.
use Rattle.std.specs.Prelude.{ℕ, ◌+◌, ◌-◌, ◌*◌, ◌==◌, nat_lt, ◌&&◌, List, Option, Some, None, slice_get, if◌then◌else◌}
use Rattle.ror_statement.specs.declared.question.Question.{Question}
use Rattle.ror_statement.specs.declared.question.Question.TheVariants.{Necessary, Possible}
use Rattle.ror_proof.specs.declared.answer.Answer.{Answer}
use Rattle.ror_show_ground.specs.declared.said.Said.{Said}
use Rattle.ror_show_ground.specs.declared.said.Said.TheVariants as said
use Rattle.ror_show_find_relation.specs.declared.pair.PairSaid.{PairSaid}
use Rattle.ror_show_ground.specs.Said.{said_by}

-- what is said, where the question is whether the first is necessarily at least as good as the second
abbrev pub if_necessary : ℕ → ℕ → Question → Said → Said
if_necessary a b (Necessary x y) s = if x == a && y == b then s else said.Nothing
if_necessary a b _ s = said.Nothing

-- the same, where it is whether it is possibly
abbrev pub if_possible : ℕ → ℕ → Question → Said → Said
if_possible a b (Possible x y) s = if x == a && y == b then s else said.Nothing
if_possible a b _ s = said.Nothing

abbrev pub necessary_by : ℕ → ℕ → Option Answer → Said
necessary_by a b (Some x) = if_necessary a b x.question (said_by x.verdict)
necessary_by a b None = said.Nothing

abbrev pub possible_by : ℕ → ℕ → Option Answer → Said
possible_by a b (Some x) = if_possible a b x.question (said_by x.verdict)
possible_by a b None = said.Nothing

-- where an ordered pair of different ones of so many alternatives stands among all such pairs: those of the first with each
-- other one, in order, then those of the second, and so on
abbrev pub place_of_pair : ℕ → ℕ → ℕ → ℕ
place_of_pair n a b = a * (n - 1) + (if nat_lt a b then b - 1 else b)

-- What the answers to both questions on each ordered pair say of this one. An answer that is to another question, or none,
-- says nothing.
abbrev pub said_of_pair : ℕ → List Answer → ℕ → ℕ → PairSaid
said_of_pair n xs a b = record {
  necessary = necessary_by a b (slice_get xs (2 * place_of_pair n a b));
  possible = possible_by a b (slice_get xs (2 * place_of_pair n a b + 1));
}
