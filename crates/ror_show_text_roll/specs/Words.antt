-- What a line says, in the words of a session.
use Rattle.std.specs.Prelude.{ℕ, List, [], ◌∷◌, ◌++◌, codes, decimal}
use Rattle.ror_session.specs.declared.session.Asked.{Asked}
use Rattle.ror_session.specs.declared.session.Asked.TheVariants.{Consistent, Necessary, Possible, NecessaryStrength, PossibleStrength, PossibleClass, NecessaryClass, Classes, Relation}
use Rattle.ror_session.specs.declared.session.Command.{Command}
use Rattle.ror_session.specs.declared.session.Command.TheVariants.{State, Withdraw, Replace, Repair, Undo, Ask}
use Rattle.ror_show_kit.specs.Spoken.{named_text, one_line, pairs, two}

-- a space and a word
abbrev pub word : List ℕ → List ℕ
word w = 32 ∷ w

abbrev pub number : ℕ → List ℕ
number n = word (decimal n)

abbrev pub asked_verb : Asked → List ℕ
asked_verb Consistent = codes "consistent"
asked_verb (Necessary a b) = codes "necessary"
asked_verb (Possible a b) = codes "possible"
asked_verb (NecessaryStrength p q on) = codes "necessary"
asked_verb (PossibleStrength p q on) = codes "possible"
asked_verb (PossibleClass a h) = codes "possible-class"
asked_verb (NecessaryClass a h) = codes "necessary-class"
asked_verb (Classes a) = codes "classes"
asked_verb Relation = codes "relation"

abbrev pub asked_names : Asked → List ℕ
asked_names Consistent = []
asked_names (Necessary a b) = one_line (two [] a b)
asked_names (Possible a b) = one_line (two [] a b)
asked_names (NecessaryStrength p q on) = one_line (pairs [] p q on)
asked_names (PossibleStrength p q on) = one_line (pairs [] p q on)
asked_names (PossibleClass a h) = word a ++ number h
asked_names (NecessaryClass a h) = word a ++ number h
asked_names (Classes a) = word a
asked_names Relation = []

abbrev pub asked_text : Asked → List ℕ
asked_text asked = codes "ask " ++ asked_verb asked ++ asked_names asked

abbrev pub command_text : Command → List ℕ
command_text (State named) = named_text named
command_text (Withdraw n) = codes "withdraw" ++ number n
command_text (Replace n named) = codes "replace" ++ number n ++ codes " " ++ named_text named
command_text Repair = codes "repair"
command_text Undo = codes "undo"
command_text (Ask asked) = asked_text asked

-- what a command states by itself or in another's place; nothing of one that states nothing
abbrev pub stated_text : Command → List ℕ
stated_text (State named) = named_text named
stated_text (Replace n named) = named_text named
stated_text _ = []
