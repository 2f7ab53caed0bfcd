-- What the reasons of a line are read against, and what is told of a conflict.
use Rattle.std.proofs.Common.{◌≡◌, [], ◌∷◌, ◌++◌, ◌<◌, ℕ, Bool, true, false, List, length, get_or, Option, Some, None, refl, sym, ap, ltb, ◌∙◌, arith}
use Rattle.std.specs.Prelude.{slice_get, if◌then◌else◌}
use Rattle.std.specs.Option.{option_map_or}
use Rattle.std.proofs.lemmas.List.{append-nil}
use Rattle.ror_statement.specs.declared.statement.Numbered.{Numbered}
use Rattle.ror_statement.specs.Statements.{statements_in}
use Rattle.ror_table.specs.Table.{DecisionTable}
use Rattle.ror_value.specs.Over.{IsLawfulIn}
use Rattle.ror_proof.specs.declared.answer.Answer.{Answer}
use Rattle.ror_proof.specs.declared.answer.Verdict.{Verdict}
use Rattle.ror_report.specs.Text.{answers_of}
use Rattle.ror_bench.specs.declared.kept.KeptLine.{KeptLine}
use Rattle.ror_reason.specs.declared.reducts.Reason.{Reason}
use Rattle.ror_reason.specs.declared.reducts.Reason.TheVariants as reasons
use Rattle.ror_reason.specs.declared.reducts.Reduct.{Reduct}
use Rattle.ror_show_ground.specs.Grounds.{Ground}
use Rattle.ror_show_ground.specs.Lines.{stood}
use Rattle.ror_show_ground.specs.Ready.{IsReady}
use Rattle.ror_show_ground.proofs.Lists.{at_place}
use Rattle.ror_show_kit.proofs.Pieces.{two_more, three_more}
use Rattle.ror_show_kit.specs.Rows.{row_text}
use Rattle.ror_show_kit.specs.Spoken.{statement_text}
use Rattle.ror_show_find_proofs.specs.declared.owners.Owners.{Owners}
use Rattle.ror_show_find_proofs.specs.Weights.{weights_of}
use Rattle.ror_show_find_classes.proofs.ValueLemmas.{none_there, one_there}
use Rattle.ror_show_find_core.specs.declared.outcomes.CoreFound.{CoreFound}
use Rattle.ror_show_find_core.specs.declared.outcomes.LineCores.{LineCores}
use Rattle.ror_show_find_core.specs.declared.outcomes.Withdrawal.{Withdrawal}
use Rattle.ror_show_find_reasons.specs.declared.lines.LineFound.{LineFound}
use Rattle.ror_show_find_reasons.specs.declared.lines.Meant.{Meant}
use Rattle.ror_show_find_reasons.specs.declared.lines.Told.{Told}
use Rattle.ror_show_text_functions.specs.Text.{is_contradiction}
use Rattle.ror_show_text_reasons.specs.Parts.{said_text, statement_row}
use Rattle.ror_show_text_reasons.specs.Pages.{head_text, told_words, framed, told_in, told_at, line_words, line_at}
use Rattle.ror_show_text_reasons.specs.Scenes.{Scene, reason_text, conflict_text}
use Rattle.ror_show_text_reasons.specs.Withdrawn.{cores_at, withdrawals_at, withdrawn_text}

nothing_lawful : (t : DecisionTable) → IsLawfulIn t (statements_in [])
nothing_lawful t = record { few = omega arith; rows = omega arith; each_valid = tt }

-- what stood at a line that is ready is lawful, and so is nothing
pub stood_lawful : (t : DecisionTable) (x : KeptLine) → IsReady t x → IsLawfulIn t (statements_in (stood x))
stood_lawful t x ready = by x.standing refl
  where
    by : (o : Option (List Numbered)) → x.standing ≡ o → IsLawfulIn t (statements_in (option_map_or (λ (list : List Numbered). list) o []))
    by (Some list) is = (ready list is).lawful
    by None is = nothing_lawful t

-- a conflict is told as a reason, where it is a part of the statements
pub part_told : (sc : Scene) (x : Reduct) (conflict : Reason) → conflict ≡ reasons.Carried x → reason_text sc conflict ≡ conflict_text sc conflict
part_told sc x conflict is = rw is refl

pub wide_told : (sc : Scene) (ns : List ℕ) (x : Answer) (others : List Answer) (conflict : Reason) → conflict ≡ reasons.Wide ns x others → reason_text sc conflict ≡ conflict_text sc conflict
wide_told sc ns x others conflict is = rw is refl

-- ---- what is read at a place

-- the row of a statement that is named, and nothing of another
pub not_named : (t : DecisionTable) (line : Option ℕ) (owners : Owners) (v : Verdict) (x : Numbered) (named : Bool) (old : List ℕ) → named ≡ false → old ≡ old ++ (if named then statement_row t line owners v x else [])
not_named t line owners v x named old is = sym (append-nil old) ∙ ap (λ (b : Bool). old ++ (if b then statement_row t line owners v x else [])) (sym is)

pub row_named : (t : DecisionTable) (line : Option ℕ) (owners : Owners) (v : Verdict) (x : Numbered) (named : Bool) (said old now : List ℕ) → named ≡ true → said ≡ said_text line (weights_of x.number owners v) → now ≡ old ++ row_text x.number (statement_text t x.statement) said → now ≡ old ++ (if named then statement_row t line owners v x else [])
unfolding statement_row
row_named t line owners v x named said old now is says last =
    last ∙ ap (λ (qs : List ℕ). old ++ row_text x.number (statement_text t x.statement) qs) says
    ∙ ap (λ (b : Bool). old ++ (if b then statement_row t line owners v x else [])) (sym is)

-- head, reason, what becomes of the answer without each statement, and an empty line
pub told_more : (g : Ground) (x : KeptLine) (sc : Scene) (ws : List Withdrawal) (told : Told) (a : Answer) (old first second third fourth : List ℕ) → slice_get (answers_of x.block.body) told.answer ≡ Some a → first ≡ old ++ head_text g x a → second ≡ first ++ told_words sc told.reason → third ≡ second ++ withdrawn_text (is_contradiction a.verdict) ws → fourth ≡ third ++ 10 ∷ [] → fourth ≡ old ++ told_in g x sc ws told
told_more g x sc ws told a old first second third fourth there one two three four =
    let beside = withdrawn_text (is_contradiction a.verdict) ws in
    one_there (framed g x sc ws told.reason) (answers_of x.block.body) told.answer a old fourth there
    (two_more (head_text g x a ++ told_words sc told.reason ++ beside) (10 ∷ []) old third fourth
    (three_more (head_text g x a) (told_words sc told.reason) beside old first second third one two three) four)

pub told_none : (g : Ground) (x : KeptLine) (sc : Scene) (ws : List Withdrawal) (told : Told) (xs : List Answer) (old : List ℕ) → xs ≡ answers_of x.block.body → false ≡ ltb told.answer (length xs) → old ≡ old ++ told_in g x sc ws told
told_none g x sc ws told xs old is past =
    none_there (framed g x sc ws told.reason) (answers_of x.block.body) told.answer old (past ∙ ap (λ (ys : List Answer). ltb told.answer (length ys)) is)

-- ---- what is found at a place

-- the piece of the element that is read there
pub piece_at : {X : Type 0} (f : X → List ℕ) (xs : List X) (k : ℕ) (x : X) → k < length xs → x ≡ get_or xs k x → f x ≡ option_map_or f (slice_get xs k) []
piece_at {X} f xs k x within here = ap f here ∙ sym (ap (λ (o : Option X). option_map_or f o []) (at_place xs k x within))

-- with what is found beside it
pub line_beside : (m : Meant) (g : Ground) (fs : List LineFound) (cs : List LineCores) (k : ℕ) (f : LineFound) (cores : List CoreFound) (before after : List ℕ) → k < length fs → f ≡ get_or fs k f → cores ≡ cores_at cs k → after ≡ before ++ line_words m g cores f → after ≡ before ++ line_at m g fs cs k
line_beside m g fs cs k f cores before after within here is written =
    written ∙ ap (λ (found : List CoreFound). before ++ line_words m g found f) is
    ∙ ap (λ (qs : List ℕ). before ++ qs) (piece_at (line_words m g (cores_at cs k)) fs k f within here)

pub told_beside : (g : Ground) (x : KeptLine) (sc : Scene) (cores : List CoreFound) (fs : List Told) (k : ℕ) (told : Told) (ws : List Withdrawal) (before after : List ℕ) → k < length fs → told ≡ get_or fs k told → ws ≡ withdrawals_at cores k → after ≡ before ++ told_in g x sc ws told → after ≡ before ++ told_at g x sc cores fs k
told_beside g x sc cores fs k told ws before after within here is written =
    written ∙ ap (λ (found : List Withdrawal). before ++ told_in g x sc found told) is
    ∙ ap (λ (qs : List ℕ). before ++ qs) (piece_at (told_in g x sc (withdrawals_at cores k)) fs k told within here)
