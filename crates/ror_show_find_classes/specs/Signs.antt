-- What stands in the cell of an alternative and a class, by the answers to a line.
use Rattle.std.specs.Prelude.{ℕ, ◌+◌, ◌-◌, ◌*◌, ◌==◌, nat_le, Bool, true, false, ◌&&◌, List, Option, Some, None, slice_get, if◌then◌else◌}
use Rattle.std.specs.List.{list_any}
use Rattle.std.specs.Option.{option_map_or}
use Rattle.ror_statement.specs.declared.statement.Numbered.{Numbered}
use Rattle.ror_statement.specs.declared.statement.Statement.{Statement}
use Rattle.ror_statement.specs.declared.statement.Statement.TheVariants.{Class}
use Rattle.ror_statement.specs.declared.question.Question.{Question}
use Rattle.ror_statement.specs.declared.question.Question.TheVariants.{PossibleClass, NecessaryClass}
use Rattle.ror_proof.specs.declared.answer.Answer.{Answer}
use Rattle.ror_show_ground.specs.declared.said.Said.{Said}
use Rattle.ror_show_ground.specs.declared.said.Said.TheVariants as said
use Rattle.ror_show_ground.specs.Said.{said_by}
use Rattle.ror_show_find_classes.specs.declared.sign.Sign.{Sign}
use Rattle.ror_show_find_classes.specs.declared.sign.Sign.TheVariants as signs

-- the byte that stands for a sign, where the alternative's class is settled or isn't: a class that every function leaves is the only one
-- there, and else one beside others
abbrev pub byte_of : Bool → Sign → ℕ
byte_of settled signs.Necessary = if settled then 35 else 38
byte_of settled signs.Possible = 43
byte_of settled signs.Impossible = 46
byte_of settled signs.Unknown = 63
byte_of settled signs.Contradiction = 33

-- the alternative that a question is on, where it is on a class
abbrev pub alternative_in : Question → ℕ
alternative_in (PossibleClass a h) = a
alternative_in (NecessaryClass a h) = a
alternative_in _ = 0

-- the alternative of the first answer
abbrev pub alternative_of : List Answer → ℕ
alternative_of xs = option_map_or (λ x. alternative_in x.question) (slice_get xs 0) 0

-- what is said, where the question is whether the alternative possibly belongs to the class
abbrev pub if_possible : ℕ → ℕ → Question → Said → Said
if_possible a h (PossibleClass x g) s = if x == a && g == h then s else said.Nothing
if_possible a h _ s = said.Nothing

-- the same, where it is whether it necessarily does
abbrev pub if_necessary : ℕ → ℕ → Question → Said → Said
if_necessary a h (NecessaryClass x g) s = if x == a && g == h then s else said.Nothing
if_necessary a h _ s = said.Nothing

abbrev pub possible_by : ℕ → ℕ → Option Answer → Said
possible_by a h (Some x) = if_possible a h x.question (said_by x.verdict)
possible_by a h None = said.Nothing

abbrev pub necessary_by : ℕ → ℕ → Option Answer → Said
necessary_by a h (Some x) = if_necessary a h x.question (said_by x.verdict)
necessary_by a h None = said.Nothing

-- by what is said of whether it possibly and whether it necessarily belongs to the class
abbrev pub sign_of : Said → Said → Sign
sign_of said.Contradiction _ = signs.Contradiction
sign_of _ said.Contradiction = signs.Contradiction
sign_of said.No _ = signs.Impossible
sign_of said.Yes said.Yes = signs.Necessary
sign_of said.Yes said.No = signs.Possible
sign_of _ _ = signs.Unknown

-- the sign of an alternative and a class, by the answers to both questions on each class, from the worst on
abbrev pub sign_at : List Answer → ℕ → ℕ → Sign
sign_at xs a h = sign_of (possible_by a h (slice_get xs (2 * (h - 1)))) (necessary_by a h (slice_get xs (2 * (h - 1) + 1)))

-- that of the alternative of which the answers are
abbrev pub sign_of_class : List Answer → ℕ → Sign
sign_of_class xs h = sign_at xs (alternative_of xs) h

-- ---- what a sign says

-- neither is the class known to be impossible, nor that no function agrees
abbrev pub may_be : Sign → Bool
may_be signs.Impossible = false
may_be signs.Contradiction = false
may_be _ = true

abbrev pub is_left : List Answer → ℕ → Bool
is_left xs h = may_be (sign_of_class xs h)

-- it is concluded whether the class is possible, or that no function agrees
abbrev pub is_known : Sign → Bool
is_known signs.Unknown = false
is_known _ = true

abbrev pub is_contradiction : Sign → Bool
is_contradiction signs.Contradiction = true
is_contradiction _ = false

-- some compatible function lets the alternative belong to the class
abbrev pub is_possible : Sign → Bool
is_possible signs.Necessary = true
is_possible signs.Possible = true
is_possible _ = false

-- ---- assignments

-- the statement assigns the alternative to classes among which this one is
abbrev pub assigns : ℕ → ℕ → Statement → Bool
assigns a h (Class x lowest highest) = x == a && (nat_le lowest h && nat_le h highest)
assigns a h _ = false

-- one of what stood does, where that was kept
abbrev pub is_assigned : Option (List Numbered) → ℕ → ℕ → Bool
is_assigned (Some list) a h = list_any (λ x. assigns a h x.statement) list
is_assigned None a h = false
