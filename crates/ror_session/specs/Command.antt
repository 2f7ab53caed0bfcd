-- What the words of a command are read as, or that the line is a bad one.
use Rattle.std.specs.Prelude.{ℕ, ◌+◌, not, ◌==◌, List, length, drop, codes, Option, Some, None, Result, Ok, Err, if◌then◌else◌}
use Rattle.std.specs.Str.{bytes_eq}
use Rattle.ror_text.specs.Numbers.{count_of}
use Rattle.ror_text.specs.Reading.{◌>>=◌, refuse, need}
use Rattle.ror_text.specs.Lines.{word_at}
use Rattle.ror_session.specs.Grammar.{LineWords}
use Rattle.ror_session.specs.declared.command.NameAndClass.{NameAndClass}
use Rattle.ror_session.specs.declared.command.TwoPairs.{TwoPairs}
use Rattle.ror_session.specs.declared.session.NamedPair.{NamedPair}
use Rattle.ror_session.specs.declared.session.Named.{Named}
use Rattle.ror_session.specs.declared.session.Named.TheVariants.{Prefer, AtLeast, Same, Stronger, AsStrong, EqualStrength, Class}
use Rattle.ror_session.specs.declared.session.Asked.{Asked}
use Rattle.ror_session.specs.declared.session.Asked.TheVariants.{Consistent, Necessary, Possible, NecessaryStrength, PossibleStrength, PossibleClass, NecessaryClass, Classes, Relation}
use Rattle.ror_session.specs.declared.session.Command.{Command}
use Rattle.ror_session.specs.declared.session.Command.TheVariants.{State, Withdraw, Replace, Repair, Undo, Ask}
use Rattle.ror_session.specs.declared.session.SessionFault.{SessionFault}
use Rattle.ror_session.specs.declared.session.SessionFault.TheVariants as faults
use Rattle.ror_session.specs.declared.session.SessionFault.TheVariants.{BadLine}

-- the fault that an error names: none for want of memory
abbrev pub session_fault : SessionFault → Option SessionFault
session_fault faults.Memory = None
session_fault fault = Some fault

-- the names at a place and after it
abbrev pub pair_at : LineWords → ℕ → NamedPair
pair_at ws i = record { first = word_at ws i; second = word_at ws (i + 1) }

-- `VERB A B`
unfoldable pub two_names : ℕ → LineWords → Result NamedPair SessionFault
two_names line ws = do
  _ ← refuse (BadLine line) (not (length ws == 3))
  Ok (pair_at ws 1)

-- the criterion of `VERB A B C D on Q`; none of `VERB A B C D`
unfoldable pub criterion_of : ℕ → LineWords → Result (Option (List ℕ)) SessionFault
criterion_of line ws = if length ws == 5 then Ok None else (do
  _ ← refuse (BadLine line) (not (length ws == 7))
  _ ← refuse (BadLine line) (not (bytes_eq (word_at ws 5) (codes "on")))
  Ok (Some (word_at ws 6)))

-- `VERB A B C D` or `VERB A B C D on Q`
unfoldable pub two_pairs : ℕ → LineWords → Result TwoPairs SessionFault
two_pairs line ws = do
  criterion ← criterion_of line ws
  Ok (record { first = pair_at ws 1; second = pair_at ws 3; criterion = criterion })

-- the count that the word at a place writes
unfoldable pub count_at : ℕ → LineWords → ℕ → Result ℕ SessionFault
count_at line ws i = need (BadLine line) (count_of (word_at ws i))

-- `class A LOWEST HIGHEST`
unfoldable pub class_statement : ℕ → LineWords → Result Named SessionFault
class_statement line ws = do
  _ ← refuse (BadLine line) (not (length ws == 4))
  lowest ← count_at line ws 2
  highest ← count_at line ws 3
  Ok (Class (word_at ws 1) lowest highest)

-- a statement, by its first word
unfoldable pub statement_of : ℕ → LineWords → Result Named SessionFault
statement_of line ws =
    if bytes_eq (word_at ws 0) (codes "prefer")
    then (two_names line ws >>= λ p. Ok (Prefer p.first p.second))
    else (if bytes_eq (word_at ws 0) (codes "atleast")
    then (two_names line ws >>= λ p. Ok (AtLeast p.first p.second))
    else (if bytes_eq (word_at ws 0) (codes "same")
    then (two_names line ws >>= λ p. Ok (Same p.first p.second))
    else (if bytes_eq (word_at ws 0) (codes "stronger")
    then (two_pairs line ws >>= λ t. Ok (Stronger t.first t.second t.criterion))
    else (if bytes_eq (word_at ws 0) (codes "asstrong")
    then (two_pairs line ws >>= λ t. Ok (AsStrong t.first t.second t.criterion))
    else (if bytes_eq (word_at ws 0) (codes "equal")
    then (two_pairs line ws >>= λ t. Ok (EqualStrength t.first t.second t.criterion))
    else (if bytes_eq (word_at ws 0) (codes "class") then class_statement line ws
    else Err (BadLine line)))))))

-- `necessary` and two names, or four with a criterion or none
unfoldable pub necessary_question : ℕ → LineWords → Result Asked SessionFault
necessary_question line ws = if length ws == 3
    then (two_names line ws >>= λ p. Ok (Necessary p.first p.second))
    else (two_pairs line ws >>= λ t. Ok (NecessaryStrength t.first t.second t.criterion))

-- `possible` likewise
unfoldable pub possible_question : ℕ → LineWords → Result Asked SessionFault
possible_question line ws = if length ws == 3
    then (two_names line ws >>= λ p. Ok (Possible p.first p.second))
    else (two_pairs line ws >>= λ t. Ok (PossibleStrength t.first t.second t.criterion))

-- `VERB A CLASS`
unfoldable pub name_and_class : ℕ → LineWords → Result NameAndClass SessionFault
name_and_class line ws = do
  _ ← refuse (BadLine line) (not (length ws == 3))
  number ← count_at line ws 2
  Ok (record { name = word_at ws 1; number = number })

-- `classes A`
unfoldable pub classes_question : ℕ → LineWords → Result Asked SessionFault
classes_question line ws = do
  _ ← refuse (BadLine line) (not (length ws == 2))
  Ok (Classes (word_at ws 1))

-- a question, by the first word after `ask`
unfoldable pub question_of : ℕ → LineWords → Result Asked SessionFault
question_of line ws =
    if bytes_eq (word_at ws 0) (codes "consistent")
    then (refuse (BadLine line) (not (length ws == 1)) >>= λ _. Ok Consistent)
    else (if bytes_eq (word_at ws 0) (codes "necessary") then necessary_question line ws
    else (if bytes_eq (word_at ws 0) (codes "possible") then possible_question line ws
    else (if bytes_eq (word_at ws 0) (codes "possible-class")
    then (name_and_class line ws >>= λ c. Ok (PossibleClass c.name c.number))
    else (if bytes_eq (word_at ws 0) (codes "necessary-class")
    then (name_and_class line ws >>= λ c. Ok (NecessaryClass c.name c.number))
    else (if bytes_eq (word_at ws 0) (codes "classes") then classes_question line ws
    else (if bytes_eq (word_at ws 0) (codes "relation")
    then (refuse (BadLine line) (not (length ws == 1)) >>= λ _. Ok Relation)
    else Err (BadLine line)))))))

unfoldable pub withdrawal : ℕ → LineWords → Result Command SessionFault
withdrawal line ws = do
  _ ← refuse (BadLine line) (not (length ws == 2))
  n ← count_at line ws 1
  Ok (Withdraw n)

unfoldable pub replacement : ℕ → LineWords → Result Command SessionFault
replacement line ws = do
  n ← count_at line ws 1
  named ← statement_of line (drop 2 ws)
  Ok (Replace n named)

-- a command, by its first word
unfoldable pub command_of : ℕ → LineWords → Result Command SessionFault
command_of line ws =
    if bytes_eq (word_at ws 0) (codes "withdraw") then withdrawal line ws
    else (if bytes_eq (word_at ws 0) (codes "replace") then replacement line ws
    else (if bytes_eq (word_at ws 0) (codes "repair")
    then (refuse (BadLine line) (not (length ws == 1)) >>= λ _. Ok Repair)
    else (if bytes_eq (word_at ws 0) (codes "undo")
    then (refuse (BadLine line) (not (length ws == 1)) >>= λ _. Ok Undo)
    else (if bytes_eq (word_at ws 0) (codes "ask")
    then (question_of line (drop 1 ws) >>= λ asked. Ok (Ask asked))
    else (statement_of line ws >>= λ named. Ok (State named))))))
