-- A page is written of the lines that a check keeps, and files lead to one list of these.
use Rattle.std.proofs.Common.{◌≡◌, ℕ, ◌+◌, List, ◌∷◌, Result, Ok, Err, false, inl, inr, refl, sym, subst}
use Rattle.ror_table.specs.Table.{IsTable}
use Rattle.ror_value.specs.declared.input.Input.{Input}
use Rattle.ror_xmcda.proofs.TableLemmas.{input_table}
use Rattle.ror_session.specs.declared.session.Session.{Session}
use Rattle.ror_bench.specs.declared.kept.Keep.{Keep}
use Rattle.ror_bench.specs.declared.kept.KeptLine.{KeptLine}
use Rattle.ror_show_words.specs.Words.{PageWords}
use Rattle.ror_frame.specs.declared.stop.Stop.{Stop}
use Rattle.ror_frame.specs.declared.stop.Stop.TheVariants as stops
use Rattle.std.specs.declared.vec.Vec.{Vec}
use Rattle.ror_frame.specs.declared.stop.Refusal.{Refusal}
use Rattle.ror_frame.specs.Courses.{Course, fetch, IsFetch, IsWhole, IsWork, WritesDue}
use Rattle.ror_frame.specs.States.{ShelfState, SinkState}
use Rattle.ror_frame.specs.Stops.{FilePlace, Outcome}
use Rattle.ror_frame.specs.Inputs.{bench_for, line_output}
use Rattle.ror_frame.proofs.CourseLemmas.{IsDecided, went_on}
use Rattle.ror_show_run.proofs.Sheets.{one_table, one_session}
use Rattle.ror_work.specs.Checking.{RefusesReport}
use Rattle.ror_work.proofs.Judging.{rejection_or_proof, one_refusal}
use Rattle.ror_show_pages.specs.Reads.{ReadsKept}
use Rattle.ror_show_run.specs.Courses.{IsShownPage, page_output, report_course, session_course, show_chore}
use Rattle.ror_show_ground.specs.Grounds.{Ground, ground_in}
use Rattle.ror_show_pages.specs.Pages.{keeps, IsPage, ReportPage}
use Rattle.ror_show_pages.specs.Shown.{IsShown}
use Rattle.ror_show_pages.proofs.OnePage.{one_kept}

-- a ground is what its parts are
pub same_ground : (g : Ground) (i : Input) (s : Session) (kept : List KeptLine) → g.table ≡ i.table → g.session ≡ s → g.opening ≡ i.opening → g.kept ≡ kept → g ≡ ground_in i s kept
same_ground g i s kept table session opening same = rw (sym table, sym session, sym opening, sym same) refl

-- and what a fetch keeps
pub keeps_same : (name : List ℕ) (place : FilePlace) (i : Input) (s : Session) (a b : ShelfState) (result : Result (List KeptLine) Stop) (one other : List Keep) → one ≡ other → IsFetch name place (ReadsKept one i s) (RefusesReport i s) a b result → IsFetch name place (ReadsKept other i s) (RefusesReport i s) a b result
keeps_same name place i s a b result one other same brought = subst (λ (keep : List Keep). IsFetch name place (ReadsKept keep i s) (RefusesReport i s) a b result) same brought

one_report : (p : ReportPage) (words : PageWords) (file : List ℕ) (i : Input) (s : Session) → IsTable i.table → IsDecided (report_course p words file i s)
one_report p words file i s is_table = λ bytes.
    ((λ x y first second. one_kept (keeps p words.line words.desk s) i s bytes x y is_table first second), (λ q r a b. one_refusal i s bytes q r a b), (λ x r reads a. rejection_or_proof (bench_for i s) s.lines bytes a.0 reads.accepted is_table a.2 reads.within reads.report), λ x reads. tt)

decided_after : (p : ReportPage) (words : PageWords) (file : List ℕ) (i : Input) → IsTable i.table → IsDecided (session_course p words file i)
decided_after p words file i is_table = λ session. ((λ s u first second. cc), (λ q r a b. one_session session q r a b), (λ s r first a. let q = a.2 in cc), λ s read. one_report p words file i s is_table)

-- files lead to such lines, or to one refusal
pub decided_page : (p : ReportPage) (words : PageWords) → IsDecided (show_chore p words).course
decided_page p words = λ table. ((λ i j first second. cc), (λ q r a b. one_table words.best_first table q r a b), (λ i r first a. let q = a.2 in cc), λ i read. decided_after p words table i (input_table table words.best_first i read))

-- a page is written, with names behind it
pub page_due : (p : ReportPage) (words : PageWords) (file : List ℕ) (g : Ground) (page text : List ℕ) (old new : SinkState) (outcome : Outcome) → IsPage p words g page → IsShown words.form file page text → WritesDue (line_output false text (Unit {0})) old new outcome → WritesDue (page_output p words file g (Unit {0})) old new outcome
page_due p words file g page text old new (Ok wide) is shown due = (due.0, due.1, due.2, (due.3.0, subst (IsShownPage p words file g) (sym due.3.1) (page, is, shown), tt), due.4)
page_due p words file g page text old new (Err (stops.At r)) is shown due = due
page_due p words file g page text old new (Err stops.ReadFault) is shown due = due
page_due p words file g page text old new (Err stops.WriteFault) is shown due = (due.0, due.1, due.2, subst (IsShownPage p words file g) (sym due.3) (page, is, shown), due.4)
page_due p words file g page text old new (Err stops.Memory) is shown (inl same) = inl same
page_due p words file g page text old new (Err stops.Memory) is shown (inr due) = absurd (let never = due.1 in cc)

-- and where this holds, it does so where all is written
pub page_holds : (p : ReportPage) (words : PageWords) (file : List ℕ) (g : Ground) (Holds : Type 0) (old new : SinkState) (outcome : Outcome) → Holds → WritesDue (page_output p words file g (Unit {0})) old new outcome → WritesDue (page_output p words file g Holds) old new outcome
page_holds p words file g Holds old new (Ok wide) holds due = (due.0, due.1, due.2, (due.3.0, due.3.1, holds), due.4)
page_holds p words file g Holds old new (Err (stops.At r)) holds due = due
page_holds p words file g Holds old new (Err stops.ReadFault) holds due = due
page_holds p words file g Holds old new (Err stops.WriteFault) holds due = due
page_holds p words file g Holds old new (Err stops.Memory) holds (inl same) = inl same
page_holds p words file g Holds old new (Err stops.Memory) holds (inr due) = absurd (let never = due.1 in cc)

-- a file was fetched whole and read, and the work went on by its bytes
pub read_on : {A Y : Type 0} (name : List ℕ) (place : ℕ) (names : List (List ℕ)) (at : FilePlace) (most : ℕ) (Refused : List ℕ → Refusal → Type 0) (Reads : List ℕ → A → Type 0) (Refuses : List ℕ → Refusal → Type 0) (next : List ℕ → A → Course) (a b c : ShelfState) (old new : SinkState) (got : Vec ℕ Y) (x : A) (outcome : Outcome) → IsFetch name at (IsWhole most) Refused a b (Ok got) → Reads got.items x → IsWork (place + 1) names (next got.items x) b c old new outcome → IsWork place (name ∷ names) (fetch A name Reads Refuses next) a c old new outcome
read_on {A} {Y} name place names at most Refused Reads Refuses next a b c old new got x outcome brought reads went =
    let bytes = brought.fetched.1 in
    let same = brought.fetched.3.0 in
    let read : IsFetch name at Reads Refuses a b (Ok x) = record {
      never_falls = brought.never_falls;
      told_stays = brought.told_stays;
      counted = brought.counted;
      missing = λ lacks. absurd (let p = brought.missing lacks in cc);
      fetched = (brought.fetched.0, bytes, brought.fetched.2, subst (λ (bs : List ℕ). Reads bs x) same reads);
    } in
    went_on name place names at Reads Refuses next a b c old new x outcome read (subst (λ (bs : List ℕ). IsWork (place + 1) names (next bs x) b c old new outcome) same went)
