-- That what the search answers for a pair is its span with the proof, or a fault that is due.
use Rattle.std.proofs.Common.{◌≡◌, ℕ, ◌+◌, List, length, Result, Ok, Err, refl, subst}
use Rattle.std.specs.Prelude.{IfErr}
use Rattle.ror_statement.specs.declared.statement.Statement.{Statement}
use Rattle.ror_statement.specs.declared.question.Question.TheVariants.{Consistent, Necessary, Possible}
use Rattle.ror_table.specs.Table.{DecisionTable}
use Rattle.ror_confidence.specs.declared.border.Border.{Border}
use Rattle.ror_confidence.specs.declared.fault.SpanFault.{SpanFault}
use Rattle.ror_confidence.specs.declared.fault.SpanFault.TheVariants as faults
use Rattle.ror_confidence.specs.declared.search.Base.{Base}
use Rattle.ror_confidence.specs.declared.search.Base.TheVariants as bases
use Rattle.ror_confidence.specs.Spans.{AreLevelLists}
use Rattle.ror_confidence.specs.Finding.{HasNoWideQuestions, IsDueSpanFault}
use Rattle.ror_confidence.specs.Searching.{IsBase, IsBorder, IsOpenBase, IsWideBorder}
use Rattle.ror_confidence.proofs.Searches.{base_wide, necessary_wide, none_wide, possible_wide}

pub base_border : (most : ℕ) (t : DecisionTable) (lists : List (List Statement)) (base : Base) (border : Border) → IsBase most t lists base → base ≡ bases.Found border → IsBorder most t lists Consistent (length lists + 1) border
base_border most t lists base border is found = subst (IsBase most t lists) found is

pub base_due : (most : ℕ) (t : DecisionTable) (lists : List (List Statement)) (a b : ℕ) (base : Base) (e : SpanFault) → AreLevelLists t lists → IsBase most t lists base → IsOpenBase base e → IsDueSpanFault most t lists a b e
base_due most t lists a b base (faults.Wide x) levels is left = base_wide most t lists a b x levels (subst (IsBase most t lists) left is)
base_due most t lists a b base faults.Memory levels is left = tt

pub necessary_due : (most : ℕ) (t : DecisionTable) (lists : List (List Statement)) (a b : ℕ) (border : Border) (e : SpanFault) → AreLevelLists t lists → IsBorder most t lists Consistent (length lists + 1) border → IsWideBorder most t lists (Necessary a b) border.level e → IsDueSpanFault most t lists a b e
necessary_due most t lists a b border (faults.Wide x) levels is wide = necessary_wide most t lists a b border x levels is wide
necessary_due most t lists a b border faults.Memory levels is wide = tt

pub possible_due : (most : ℕ) (t : DecisionTable) (lists : List (List Statement)) (a b : ℕ) (border : Border) (e : SpanFault) → AreLevelLists t lists → IsBorder most t lists Consistent (length lists + 1) border → IsWideBorder most t lists (Possible a b) border.level e → IsDueSpanFault most t lists a b e
possible_due most t lists a b border (faults.Wide x) levels is wide = possible_wide most t lists a b border x levels is wide
possible_due most t lists a b border faults.Memory levels is wide = tt

-- where nothing is too wide, the one fault that is due is want of memory
pub complete_by : {A : Type 0} (most : ℕ) (t : DecisionTable) (lists : List (List Statement)) (a b : ℕ) (r : Result A SpanFault) → IfErr r (IsDueSpanFault most t lists a b) → HasNoWideQuestions most t lists a b → IfErr r (λ e. e ≡ faults.Memory)
complete_by most t lists a b (Ok x) due none = tt
complete_by most t lists a b (Err (faults.Wide x)) due none = absurd (none_wide most t lists a b x due none)
complete_by most t lists a b (Err faults.Memory) due none = refl
