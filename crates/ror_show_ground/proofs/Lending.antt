-- What is lent of what stood at a line is that.
use Rattle.std.proofs.Common.{◌≡◌, List, Option, Some, None, refl, sym, ap, subst}
use Rattle.std.specs.Option.{option_map}
use Rattle.ror_statement.specs.declared.statement.Numbered.{Numbered}
use Rattle.ror_table.specs.Table.{DecisionTable}
use Rattle.ror_proof.specs.declared.answer.Answer.{Answer}
use Rattle.ror_report.specs.Text.{answers_of}
use Rattle.ror_bench.specs.declared.kept.KeptLine.{KeptLine}
use Rattle.ror_show_ground.specs.Ready.{IsReady}
use Rattle.ror_show_ground.specs.Stood.{Stood, stood_with, IsStood}

pub record IsLentOf (t : DecisionTable) (xs : List Answer) (o : Option (List Numbered)) (s : Stood) : Type 0 where
  pub list : o ≡ Some s.list
  pub table : s.table ≡ t
  pub answers : s.answers ≡ xs

pub lent_of : (t : DecisionTable) (xs : List Answer) (o : Option (List Numbered)) (s : Stood) → Some s ≡ option_map (stood_with t xs) o → IsLentOf t xs o s
lent_of t xs (Some list) s is =
    let same : s ≡ stood_with t xs list = cc in
    record { list = ap (λ (z : Stood). Some z.list) (sym same); table = ap (λ (z : Stood). z.table) same; answers = ap (λ (z : Stood). z.answers) same }
lent_of t xs None s is = absurd cc

pub none_lent : (t : DecisionTable) (xs : List Answer) (o : Option (List Numbered)) → None ≡ option_map (stood_with t xs) o → o ≡ None
none_lent t xs (Some list) is = absurd cc
none_lent t xs None is = refl

-- what stood at a line that is ready
pub stands : (t : DecisionTable) (x : KeptLine) (list : List Numbered) (s : Stood) → IsReady t x → x.standing ≡ Some list → s ≡ stood_with t (answers_of x.block.body) list → IsStood s
stands t x list s ready stood same =
    let over = ready list stood in
    subst IsStood (sym same) (record { lawful = over.lawful; rising = over.rising; sound = over.sound })

-- what holds of what is lent holds of it
pub of_lent : (Q : DecisionTable → List Answer → Option (List Numbered) → Type 0) (t : DecisionTable) (xs : List Answer) (o : Option (List Numbered)) (s : Stood) → IsLentOf t xs o s → Q s.table s.answers (Some s.list) → Q t xs o
of_lent Q t xs o s lent is =
    subst (λ (p : Option (List Numbered)). Q t xs p) (sym lent.list)
    (subst (λ (u : DecisionTable). Q u xs (Some s.list)) lent.table (subst (λ (ys : List Answer). Q s.table ys (Some s.list)) lent.answers is))
