-- Texts that are written piece by piece.
use Rattle.std.proofs.Common.{◌≡◌, ℕ, ◌++◌, List, Result, Ok, Err, [], ◌∷◌, length, refl, ap, ◌∙◌, append_assoc}
use Rattle.std.specs.Prelude.{OnOk}
use Rattle.ror_statement.specs.declared.statement.Statement.{Statement}
use Rattle.ror_table.specs.Table.{DecisionTable}
use Rattle.ror_show_sheet.specs.Pieces.{pieces}
use Rattle.ror_show_sheet.specs.Sheet.{criteria_head, criteria_text, criterion_text, statements_head, statements_text, statement_line}

pub on_ok : {A E : Type 0} (r : Result A E) (P Q : Type 0) → (P → Q) → OnOk r P → OnOk r Q
on_ok (Ok x) P Q follows p = follows p
on_ok (Err e) P Q follows p = tt

pub two_more : (a b old first second : List ℕ) → first ≡ old ++ a → second ≡ first ++ b → second ≡ old ++ (a ++ b)
two_more a b old first second one two = two ∙ ap (λ (qs : List ℕ). qs ++ b) one ∙ append_assoc old a b

pub three_more : (a b c old first second third : List ℕ) → first ≡ old ++ a → second ≡ first ++ b → third ≡ second ++ c → third ≡ old ++ (a ++ b ++ c)
three_more a b c old first second third one two three = two_more (a ++ b) c old second third (two_more a b old first second one two) three

pub criteria_are : (t : DecisionTable) → criteria_text t ≡ criteria_head t ++ pieces (criterion_text t) (length t.criteria) ++ 10 ∷ []
unfolding criteria_text
criteria_are t = refl

pub statements_are : (t : DecisionTable) (list : List Statement) → statements_text t list ≡ statements_head list ++ pieces (statement_line t list) (length list) ++ 10 ∷ []
unfolding statements_text
statements_are t list = refl
