-- A page of a group is written of the entries that a check keeps, and files lead to one list of these.
use Rattle.std.proofs.Common.{◌≡◌, ℕ, zero, suc, ◌+◌, ◌<◌, ◌≤◌, List, [], ◌∷◌, length, map, drop, get_or, Some, Ok, Err, false, inl, inr, refl, sym, ap, ◌∙◌, subst, arith}
use Rattle.std.specs.Prelude.{slice_get}
use Rattle.std.specs.List.{AllByRecursion}
use Rattle.std.proofs.Math.Seq.{drop-cons}
use Rattle.ror_statement.specs.declared.statement.Statement.{Statement}
use Rattle.ror_table.specs.Table.{DecisionTable, IsTable}
use Rattle.ror_value.specs.declared.input.Input.{Input}
use Rattle.ror_value.specs.Over.{IsLawfulIn}
use Rattle.ror_xmcda.proofs.TableLemmas.{input_table}
use Rattle.ror_xmcda.proofs.InputLemmas.{input_lawful}
use Rattle.ror_session.specs.declared.session.Session.{Session}
use Rattle.ror_bench.specs.declared.report.Accepted.{Accepted}
use Rattle.ror_closing.specs.Closing.{AreClosingLists, AreSuited, IsFirstUnsuited}
use Rattle.ror_closing.proofs.LawLemmas.{one_first_unsuited}
use Rattle.ror_closing.proofs.LawfulLists.{suited_or}
use Rattle.ror_relation.specs.Pairs.{AreDifferentOf}
use Rattle.ror_group.specs.declared.entry.Entry.{Entry}
use Rattle.ror_entries.specs.Reports.{EachAt, AreProvedEntries}
use Rattle.ror_entries.specs.Pairs.{pairs_of}
use Rattle.ror_frame.specs.declared.stop.Stop.TheVariants as stops
use Rattle.ror_frame.specs.Courses.{WritesDue}
use Rattle.ror_frame.specs.Inputs.{bench_for, line_output, ReadsTable}
use Rattle.ror_frame.specs.States.{SinkState}
use Rattle.ror_frame.specs.Stops.{Outcome}
use Rattle.ror_frame.proofs.CourseLemmas.{IsDecided}
use Rattle.ror_frame.proofs.InputLemmas.{decided_suited}
use Rattle.ror_work_group.specs.Entries.{group_kind, IsOnPairAt, IsProvedEntry}
use Rattle.ror_work_group.specs.Group.{KeepsGroup, IsAcceptedGroup}
use Rattle.ror_work_group.proofs.GroupCourses.{one_lists, kept_once, refused_once, not_both}
use Rattle.ror_work_group.proofs.Judging.{kept_proved, accepted_too}
use Rattle.ror_work_group.proofs.KindLemmas.{on_pair}
use Rattle.ror_show_words.specs.Words.{PageWords}
use Rattle.ror_show_find_group.specs.Grounds.{GroupGround, IsProvedIn, IsJudgedGroup}
use Rattle.ror_show_run.specs.Groups.{judges_over, IsGroupShown, group_output, report_course, session_course, group_page_chore}
use Rattle.ror_show_run.proofs.Sheets.{one_table}

-- ---- files lead to one list of entries, or to one refusal

one_report : (words : PageWords) (file : List ℕ) (i : Input) (s : Session) → IsTable i.table → IsLawfulIn i.table i.opening → AreSuited s.lines → IsDecided (report_course words file i s)
one_report words file i s table lawful suited = λ bytes.
    ((λ x y first second. kept_once i s table lawful suited bytes x y first second), (λ q r a b. refused_once i s table lawful suited bytes q r a b), (λ x r kept a. not_both i s table lawful suited bytes a.0 _ a.2 (kept_proved i s bytes x kept)), λ x kept. tt)

decided_after : (words : PageWords) (file bytes : List ℕ) (i : Input) → ReadsTable words.best_first bytes i → IsDecided (session_course words file i)
decided_after words file bytes i read = ((decided_suited IsFirstUnsuited (record { table = words.table; session = words.session; best_first = words.best_first }) (λ j s. report_course words file j s) one_first_unsuited.one (λ table j session s reads other.
    one_report words file j s (input_table table words.best_first j reads) (input_lawful table words.best_first j reads) (suited_or s.lines other.1))) bytes).3 i read

pub decided_group_page : (words : PageWords) → IsDecided (group_page_chore words).course
decided_group_page words = λ table.
    ((λ i j first second. cc), (λ q r a b. one_table words.best_first table q r a b), (λ i r first a. let q = a.2 in cc), λ i read. decided_after words table table i read)

-- ---- what a check leaves

nothing_left : (pairs : List (ℕ × ℕ)) (n : ℕ) → length pairs ≤ n → drop n pairs ≡ []
nothing_left [] zero past = refl
nothing_left [] (suc n) past = refl
nothing_left (p ∷ pairs) zero past = absurd (omega arith)
nothing_left (p ∷ pairs) (suc n) past = nothing_left pairs n (omega arith)

-- what is read at a place
get_there : (pairs : List (ℕ × ℕ)) (n : ℕ) (p : ℕ × ℕ) → slice_get pairs n ≡ Some p → get_or pairs n (0, 0) ≡ p
get_there [] n p there = absurd cc
get_there (q ∷ pairs) zero p there = (let same : q ≡ p = cc in same)
get_there (q ∷ pairs) (suc n) p there = get_there pairs n p there

-- the pairs of entries, each on the pair at its place
on_pairs : (pairs : List (ℕ × ℕ)) (place : ℕ) (entries : List Entry) → place + length entries ≡ length pairs → EachAt (λ p x. slice_get pairs p ≡ Some (x.first, x.second)) place entries → map (λ x. (x.first, x.second)) entries ≡ drop place pairs
on_pairs pairs place [] due each = sym (nothing_left pairs place (omega arith))
on_pairs pairs place (x ∷ entries) due each =
    let within : place < length pairs = omega arith in
    let rest = on_pairs pairs (place + 1) entries (omega arith) each.1 in
    let here : get_or pairs place (0, 0) ≡ (x.first, x.second) = get_there pairs place (x.first, x.second) each.0 in
    let split = drop-cons pairs place (0, 0) within in
    let next : suc place ≡ place + 1 = omega arith in
    let after = split ∙ ap (λ (p : ℕ × ℕ). p ∷ drop (suc place) pairs) here ∙ ap (λ (n : ℕ). (x.first, x.second) ∷ drop n pairs) next in
    ap (λ (ps : List (ℕ × ℕ)). (x.first, x.second) ∷ ps) rest ∙ sym after

each_on : (t : DecisionTable) (lists : List (List Statement)) (place : ℕ) (entries : List Entry) → EachAt (IsProvedEntry t lists) place entries → EachAt (IsOnPairAt t) place entries
each_on t lists place [] each = tt
each_on t lists place (x ∷ entries) each = (each.0.pair, each_on t lists (place + 1) entries each.1)

all_proved : (t : DecisionTable) (lists : List (List Statement)) (place : ℕ) (entries : List Entry) → EachAt (IsProvedEntry t lists) place entries → AllByRecursion (IsProvedIn t lists) entries
all_proved t lists place [] each = tt
all_proved t lists place (x ∷ entries) each =
    let p : AreDifferentOf (length t.alternatives) (x.first, x.second) = on_pair t place x each.0.pair in
    (record { first = p.1; second = p.2; proved = each.0.proved }, all_proved t lists (place + 1) entries each.1)

judged_by : (i : Input) (s : Session) (lists : List (List Statement)) (bytes : List ℕ) (entries : List Entry) → length lists ≤ 64 → AllByRecursion (IsLawfulIn i.table) lists → AreProvedEntries (group_kind i.table lists) bytes entries → IsJudgedGroup (judges_over i s lists entries)
judged_by i s lists bytes entries few lawful kept = record {
  few = few;
  lawful = lawful;
  pairs = on_pairs (pairs_of i.table) 0 entries (let due = kept.all_due in omega arith) (each_on i.table lists 0 entries kept.proved);
  proved = all_proved i.table lists 0 entries kept.proved;
}

-- the lists of a check are those that stand at the desks
pub kept_judged : (i : Input) (s : Session) (bytes : List ℕ) (lists : List (List Statement)) (entries : List Entry) → IsTable i.table → IsLawfulIn i.table i.opening → AreSuited s.lines → length lists ≤ 64 → AllByRecursion (IsLawfulIn i.table) lists → AreClosingLists (bench_for i s) s.lines lists → KeepsGroup i s bytes entries → IsJudgedGroup (judges_over i s lists entries)
kept_judged i s bytes lists entries table opening suited few lawful closing kept =
    let k = kept.1 in
    let same = one_lists i s table opening suited bytes k.lists lists k.closing closing in
    judged_by i s lists k.after.rest entries few lawful (subst (λ (ls : List (List Statement)). AreProvedEntries (group_kind i.table ls) k.after.rest entries) same k.body)

-- a group's ground is what its parts are
pub same_judges : (g : GroupGround) (i : Input) (s : Session) (lists : List (List Statement)) (entries : List Entry) → g.table ≡ i.table → g.desks ≡ s.desks → g.lists ≡ lists → g.entries ≡ entries → g ≡ judges_over i s lists entries
same_judges g i s lists entries table desks same are = rw (sym table, sym desks, sym same, sym are) refl

-- where the page is written, the report's answers are true
pub report_holds : (i : Input) (s : Session) (bytes : List ℕ) (entries : List Entry) → IsTable i.table → IsLawfulIn i.table i.opening → KeepsGroup i s bytes entries → (accepted : Accepted) × IsAcceptedGroup i s bytes accepted
report_holds i s bytes entries table lawful kept = (_, accepted_too i s bytes _ table lawful (kept_proved i s bytes entries kept))

-- ---- what is written

pub group_due : (words : PageWords) (file : List ℕ) (i : Input) (s : Session) (entries : List Entry) (Holds : Type 0) (text : List ℕ) (old new : SinkState) (outcome : Outcome) → IsGroupShown words file i s entries text → Holds → WritesDue (line_output false text (Unit {0})) old new outcome → WritesDue (group_output words file i s entries Holds) old new outcome
group_due words file i s entries Holds text old new (Ok wide) shown holds due = (due.0, due.1, due.2, (due.3.0, subst (IsGroupShown words file i s entries) (sym due.3.1) shown, holds), due.4)
group_due words file i s entries Holds text old new (Err (stops.At r)) shown holds due = due
group_due words file i s entries Holds text old new (Err stops.ReadFault) shown holds due = due
group_due words file i s entries Holds text old new (Err stops.WriteFault) shown holds due = (due.0, due.1, due.2, subst (IsGroupShown words file i s entries) (sym due.3) shown, due.4)
group_due words file i s entries Holds text old new (Err stops.Memory) shown holds (inl same) = inl same
group_due words file i s entries Holds text old new (Err stops.Memory) shown holds (inr due) = absurd (let never = due.1 in cc)
