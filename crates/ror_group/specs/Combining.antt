-- The words of a group by the answers of its judges.
use Rattle.std.specs.Prelude.{ℕ, Bool, true, false, List, [], ◌∷◌, if◌then◌else◌}
use Rattle.std.specs.List.{list_any}
use Rattle.ror_statement.specs.declared.statement.Statement.{Statement}
use Rattle.ror_statement.specs.declared.question.Question.{Question}
use Rattle.ror_statement.specs.declared.question.Question.TheVariants.{Necessary, Possible}
use Rattle.ror_proof.specs.declared.answer.Answer.{Answer}
use Rattle.ror_proof.specs.declared.answer.Verdict.{Verdict}
use Rattle.ror_proof.specs.declared.answer.Verdict.TheVariants as verdicts
use Rattle.ror_group.specs.declared.quartet.Word4.{Word4}
use Rattle.ror_group.specs.declared.quartet.Word4.TheVariants as words
use Rattle.ror_group.specs.declared.quartet.Quartet.{Quartet}

-- a judge's list, and what is asked over it
pub record Asked : Type 0 where
  pub list : List Statement
  pub question : Question

-- what is asked of the judges on a pair, in order: of each whether the necessary preference holds, and then whether the
-- possible one does
abbrev pub asked_on : ℕ → ℕ → List (List Statement) → List Asked
asked_on a b [] = []
asked_on a b (list ∷ lists) =
    record { list = list; question = Necessary a b }
    ∷ record { list = list; question = Possible a b }
    ∷ asked_on a b lists

-- there are as many answers as questions, and each stands to its question in this way
abbrev pub InStep : (Asked → Answer → Type 0) → List Asked → List Answer → Type 0
InStep P [] [] = Unit {0}
InStep P (q ∷ qs) (x ∷ xs) = P q x × InStep P qs xs
InStep P _ _ = ⊥

-- every second of the answers, from the first one on or from the second one on
abbrev pub every_second : Bool → List Answer → List Answer
every_second _ [] = []
every_second true (x ∷ xs) = x ∷ every_second false xs
every_second false (x ∷ xs) = every_second true xs

-- the answers to the questions of the necessary preference
abbrev pub on_necessary : List Answer → List Answer
on_necessary xs = every_second true xs

-- the answers to those of the possible preference
abbrev pub on_possible : List Answer → List Answer
on_possible xs = every_second false xs

-- the word stands for this verdict
abbrev pub says : Word4 → Verdict → Bool
says words.Yes (verdicts.Yes proof) = true
says words.No (verdicts.No proof) = true
says words.Contradiction (verdicts.Contradiction proof) = true
says words.Wide (verdicts.Wide system note) = true
says _ _ = false

abbrev pub one_says : Word4 → List Answer → Bool
one_says word xs = list_any (λ x. says word x.verdict) xs

-- the word for every judge, of answers that are no contradiction
abbrev pub for_every : List Answer → Word4
for_every xs = if one_says words.Wide xs then words.Wide
    else (if one_says words.No xs then words.No else words.Yes)

-- the word for some judge
abbrev pub for_some : List Answer → Word4
for_some xs = if one_says words.Wide xs then words.Wide
    else (if one_says words.Yes xs then words.Yes else words.No)

abbrev pub contradiction : Quartet
contradiction = record {
  necessary_for_every = words.Contradiction;
  necessary_for_some = words.Contradiction;
  possible_for_every = words.Contradiction;
  possible_for_some = words.Contradiction;
}

-- contradiction where an answer is one, whatever else is wide
abbrev pub combined : List Answer → Quartet
combined xs = if one_says words.Contradiction xs then contradiction
    else record {
      necessary_for_every = for_every (on_necessary xs);
      necessary_for_some = for_some (on_necessary xs);
      possible_for_every = for_every (on_possible xs);
      possible_for_some = for_some (on_possible xs);
    }
