-- What is written of a report is accepted with it.
use Rattle.std.proofs.Common.{◌≡◌, ◌≢◌, ◌⊎◌, inl, inr, ℕ, zero, suc, ◌+◌, ◌-◌, ◌<◌, ◌≤◌, ◌^◌, Bool, true, false, max, List, [], ◌∷◌, ◌++◌, length, map, Option, Some, None, Ok, refl, sym, ap, subst, ◌∙◌, arith}
use Rattle.std.specs.Prelude.{cond, if◌then◌else◌}
use Rattle.std.specs.List.{AllByRecursion, filter, fold}
use Rattle.std.proofs.lemmas.List.Elements.{recursion_from_All}
use Rattle.std.proofs.lemmas.List.Sums.{fold-append}
use Rattle.ror_text.proofs.Everywhere.{all-append, all-front, all-back, all-by, all_by_places}
use Rattle.ror_statement.specs.declared.statement.Numbered.{Numbered}
use Rattle.ror_statement.specs.Statements.{numbers_in}
use Rattle.ror_check.proofs.Numbers.{Rises, rises}
use Rattle.ror_session.specs.declared.session.Command.{Command}
use Rattle.ror_session.specs.declared.session.Command.TheVariants.{State, Withdraw, Replace, Repair, Undo, Ask}
use Rattle.ror_session.specs.declared.session.Line.{Line}
use Rattle.ror_session.specs.Sound.{desk_name}
use Rattle.ror_report.specs.declared.block.Block.{Block}
use Rattle.ror_report.specs.Text.{IsPrintableBlock}
use Rattle.ror_history.specs.History.{Revision, addition, withdrawal, replacement, Revisions, revised, standing, added_numbers, next_number, with_numbers_from}
use Rattle.ror_history.proofs.HistoryLemmas.{greatest}
use Rattle.ror_history.proofs.RisingLemmas.{numbers-added, numbers-replaced, Rise-opening}
use Rattle.ror_history.proofs.TurnLemmas.{next_number-first}
use Rattle.ror_bench.specs.declared.kept.Keep.{Keep}
use Rattle.ror_bench.specs.declared.kept.Keep.TheVariants as keeping
use Rattle.ror_bench.specs.declared.kept.KeptLine.{KeptLine}
use Rattle.ror_bench.specs.Allowed.{proved_unless_wide}
use Rattle.ror_bench.specs.Bench.{Workbench, LeavesNumbers}
use Rattle.ror_bench.specs.Blocks.{IsBodyOf, IsProvedBlock, revisions_with}
use Rattle.ror_bench.specs.Kept.{keep_at, standing_for, kept_of, kept_at, kept_from}
use Rattle.ror_bench.specs.Reports.{EachHolds, revisions_then}
use Rattle.ror_bench.proofs.LawfulLemmas.{moved_number}
use Rattle.ror_bench.proofs.ReportProofs.{number_cases, then_at_own, then_at_other}
use Rattle.ror_bench.proofs.Truth.{lawful_at}
use Rattle.ror_show_find_reasons.specs.declared.lines.Meant.TheVariants.{Carried}
use Rattle.ror_show_find_reasons.specs.Lines.{AreLinesFound}
use Rattle.ror_show_ground.specs.Grounds.{Ground, ground_in}
use Rattle.ror_show_forms.specs.CertificatePages.{certificates_in, certificates_page}
use Rattle.ror_show_forms.specs.CertificateLaws.{RiseFrom, HasSmallNumbers}
use Rattle.ror_show_forms.specs.Answered.{kept_line, IsProvedCertificate}
use Rattle.ror_show_forms.specs.CertificateText.{IsCertificatesText}
use Rattle.ror_show_forms.specs.Listing.{certificates_of}
use Rattle.ror_show_forms.proofs.FoundPrinted.{written_are_accepted}
use Rattle.ror_show_forms.proofs.FoundProved.{each_found}
use Rattle.ror_show_forms.proofs.ListTexts.{text_of_read}
use Rattle.ror_frame.specs.Inputs.{bench_for}
use Rattle.ror_frame.proofs.Desks.{numbers_left}
use Rattle.ror_show_check.specs.CheckLaws.{WrittenAreAccepted}
use Rattle.ror_show_check.specs.Checking.{all_lines}
use Rattle.ror_show_pages.specs.Choosing.{is_line, keep_where}
use Rattle.ror_show_find_roll.specs.Choosing.{is_desk}
use Rattle.ror_show_pages.specs.Reads.{ReadsKept}
use Rattle.ror_show_pages.specs.Pages.{keep_of, keeps, keep_for_check, page_of}
use Rattle.ror_show_pages.proofs.ReadLemmas.{kept_judged}
use Rattle.ror_show_words.specs.declared.table.Page.TheVariants as pages
use Rattle.ror_show_words.specs.declared.words.Form.TheVariants.{Certificates}

-- ---- what stands has a number below the next

numbers_kept : (P : ℕ → Type 0) (p : Numbered → Bool) (list : List Numbered) → AllByRecursion P (numbers_in list) → AllByRecursion P (numbers_in (filter p list))
numbers_kept P p [] all = tt
numbers_kept P p (x ∷ xs) all = by (p x) (numbers_kept P p xs all.1)
  where
    by : (keeps : Bool) → AllByRecursion P (numbers_in (filter p xs)) → AllByRecursion P (numbers_in (cond keeps (x ∷ filter p xs) (filter p xs)))
    by true rest = (all.0, rest)
    by false rest = rest

numbers_after : (list : List Numbered) (most : ℕ) (rest : List Revision) → AllByRecursion (λ n. n ≤ most) (numbers_in list) → AllByRecursion (λ n. n ≤ fold max most (added_numbers rest)) (numbers_in (fold revised list rest))
numbers_after list most [] all = all
numbers_after list most (addition n s ∷ rest) all =
    let IsBelow : ℕ → Type 0 = λ m. m ≤ max most n in
    let here : n ≤ max most n = omega arith in
    let so_far = all-by (λ (m : ℕ). m ≤ most) IsBelow (numbers_in list) (λ m below. omega arith) all in
    numbers_after (revised list (addition n s)) (max most n) rest (subst (AllByRecursion IsBelow) (sym (numbers-added list n s)) (all-append IsBelow (numbers_in list) (n ∷ []) so_far (here, tt)))
numbers_after list most (withdrawal ns ∷ rest) all = numbers_after (revised list (withdrawal ns)) most rest (numbers_kept (λ n. n ≤ most) _ list all)
numbers_after list most (replacement n s ∷ rest) all = numbers_after (revised list (replacement n s)) most rest (subst (AllByRecursion (λ m. m ≤ most)) (sym (numbers-replaced list n s)) all)

numbers_small : (r : Revisions) → next_number r < 2 ^ 32 → AllByRecursion (λ n. n < 2 ^ 32) (numbers_in (standing r))
numbers_small r few =
    let first = numbers_in (with_numbers_from 1 r.opening) in
    let most = fold max 0 first in
    let added = added_numbers r.surviving in
    let count : most ≡ 0 + length r.opening = greatest 0 r.opening in
    let opening = all-by (λ (m : ℕ). m < 1 + length r.opening) (λ (m : ℕ). m ≤ most) first (λ m below. omega arith) (recursion_from_All (λ m. m < 1 + length r.opening) first (Rise-opening r.opening).below) in
    let whole : fold max 0 (first ++ added) ≡ fold max most added = fold-append max 0 first added in
    all-by (λ (m : ℕ). m ≤ fold max most added) (λ (m : ℕ). m < 2 ^ 32) (numbers_in (standing r)) (λ m below. omega arith) (numbers_after (with_numbers_from 1 r.opening) most r.surviving opening)

-- ---- a line that is kept

kept_small : (place : ℕ) (how : Keep) (r : Revisions) (block : Block) → next_number r < 2 ^ 32 → block.line < 2 ^ 32 → AllByRecursion HasSmallNumbers (kept_of place how (standing_for how r) block)
kept_small place keeping.Nothing r block few line = tt
kept_small place keeping.Block r block few line = (record { line = line; standing = λ list stood. absurd cc }, tt)
kept_small place keeping.Standing r block few line = (record { line = line; standing = λ list stood. let same : standing r ≡ list = cc in subst (λ (l : List Numbered). AllByRecursion (λ n. n < 2 ^ 32) (numbers_in l)) same (numbers_small r few) }, tt)

rise_lower : (low high : ℕ) (xs : List KeptLine) → low ≤ high → RiseFrom high xs → RiseFrom low xs
rise_lower low high [] less rise = tt
rise_lower low high (x ∷ xs) less rise = (let least = rise.0 in omega (arith, least, less), rise.1)

kept_rise : (place : ℕ) (how : Keep) (stood : Option (List Numbered)) (block : Block) (low : ℕ) (rest : List KeptLine) → low ≤ block.line → RiseFrom (block.line + 1) rest → RiseFrom low (kept_of place how stood block ++ rest)
kept_rise place keeping.Nothing stood block low rest least rise = rise_lower low (block.line + 1) rest (omega (arith, least)) rise
kept_rise place keeping.Block stood block low rest least rise = (least, rise)
kept_rise place keeping.Standing stood block low rest least rise = (least, rise)

-- ---- the lines of a report

module _ (bench : Workbench) (keep : List Keep) where
  -- a desk has a number left for each line that follows
  left_then : (before : List (Line × Block)) (line : Line) (block : Block) (more desk : ℕ) → LeavesNumbers (1 + more) (revisions_then bench before desk) → IsProvedBlock bench.table (revisions_then bench before line.desk) line block → LeavesNumbers more (revisions_then bench (before ++ (line, block) ∷ []) desk)
  left_then before line block more desk left proved = by (number_cases line.desk desk)
    where
      by : (line.desk ≡ desk) ⊎ (line.desk ≢ desk) → LeavesNumbers more (revisions_then bench (before ++ (line, block) ∷ []) desk)
      by (inl own) =
          let of = subst (λ (d : ℕ). IsBodyOf proved_unless_wide bench.table (revisions_then bench before d) line.command block.body) own proved.body in
          let rises = moved_number proved_unless_wide bench.table (revisions_then bench before desk) line.command block.body of in
          let moved : LeavesNumbers more (revisions_with bench.table (revisions_then bench before desk) line.command block.body) = omega (arith, left, rises) in
          subst (LeavesNumbers more) (sym (then_at_own bench before line block desk own)) moved
      by (inr other) =
          let stays : LeavesNumbers more (revisions_then bench before desk) = omega (arith, left) in
          subst (LeavesNumbers more) (sym (then_at_other bench before line block desk other)) stays

  each_small : (before : List (Line × Block)) (lines : List Line) (blocks : List Block) → ((desk : ℕ) → LeavesNumbers (length lines) (revisions_then bench before desk)) → EachHolds (IsProvedBlock bench.table) bench before lines blocks → AllByRecursion (IsPrintableBlock bench.table) blocks → AllByRecursion HasSmallNumbers (kept_from bench keep before lines blocks)
  each_small before [] [] left each printable = tt
  each_small before [] (block ∷ blocks) left each printable = absurd each
  each_small before (line ∷ lines) [] left each printable = absurd each
  each_small before (line ∷ lines) (block ∷ blocks) left each printable =
      let r = revisions_then bench before line.desk in
      let own = left line.desk in
      let few : next_number r < 2 ^ 32 = omega (arith, own) in
      let first = kept_small (length before) (keep_at keep (length before)) r block few printable.0.number in
      let rest = each_small (before ++ (line, block) ∷ []) lines blocks (λ desk. let had = left desk in let more : LeavesNumbers (1 + length lines) (revisions_then bench before desk) = omega (arith, had) in left_then before line block (length lines) desk more each.0) each.1 printable.1 in
      all-append HasSmallNumbers (kept_at bench keep before line block) (kept_from bench keep (before ++ (line, block) ∷ []) lines blocks) first rest

  -- their numbers rise, as those of the session's lines do
  each_rise : (before : List (Line × Block)) (lines : List Line) (blocks : List Block) (low : ℕ) → AllByRecursion (λ n. low ≤ n) (map (λ line. line.number) lines) → Rises (map (λ line. line.number) lines) → EachHolds (IsProvedBlock bench.table) bench before lines blocks → RiseFrom low (kept_from bench keep before lines blocks)
  each_rise before [] [] low least up each = tt
  each_rise before [] (block ∷ blocks) low least up each = absurd each
  each_rise before (line ∷ lines) [] low least up each = absurd each
  each_rise before (line ∷ lines) (block ∷ blocks) low least up each =
      let number = each.0.number in
      let here = least.0 in
      let later = all-by (λ (n : ℕ). line.number < n) (λ (n : ℕ). block.line + 1 ≤ n) (map (λ line. line.number) lines) (λ n more. omega (arith, more, number)) up.0 in
      let rest = each_rise (before ++ (line, block) ∷ []) lines blocks (block.line + 1) later up.1 each.1 in
      kept_rise (length before) (keep_at keep (length before)) (standing_for (keep_at keep (length before)) (revisions_then bench before line.desk)) block low (kept_from bench keep (before ++ (line, block) ∷ []) lines blocks) (omega (arith, here, number)) rest

-- ---- of some lines no more is kept than of all

abbrev IsSomeOf : Keep → Keep → Type 0
IsSomeOf how other = (how ≡ keeping.Nothing) ⊎ (how ≡ other)

module _ (P : KeptLine → Type 0) (bench : Workbench) (some all : List Keep) (less : (k : ℕ) → IsSomeOf (keep_at some k) (keep_at all k)) where
  one_less : (place : ℕ) (r : Revisions) (block : Block) (how other : Keep) → IsSomeOf how other → AllByRecursion P (kept_of place other (standing_for other r) block) → AllByRecursion P (kept_of place how (standing_for how r) block)
  one_less place r block how other (inl none) here = subst (λ (q : Keep). AllByRecursion P (kept_of place q (standing_for q r) block)) (sym none) tt
  one_less place r block how other (inr same) here = subst (λ (q : Keep). AllByRecursion P (kept_of place q (standing_for q r) block)) (sym same) here

  each_less : (before : List (Line × Block)) (lines : List Line) (blocks : List Block) → AllByRecursion P (kept_from bench all before lines blocks) → AllByRecursion P (kept_from bench some before lines blocks)
  each_less before [] [] holds = tt
  each_less before [] (block ∷ blocks) holds = tt
  each_less before (line ∷ lines) [] holds = tt
  each_less before (line ∷ lines) (block ∷ blocks) holds =
      let behind = before ++ (line, block) ∷ [] in
      let first = all-front P (kept_at bench all before line block) (kept_from bench all behind lines blocks) holds in
      let rest = all-back P (kept_at bench all before line block) (kept_from bench all behind lines blocks) holds in
      let here = one_less (length before) (revisions_then bench before line.desk) block (keep_at some (length before)) (keep_at all (length before)) (less (length before)) first in
      all-append P (kept_at bench some before line block) (kept_from bench some behind lines blocks) here (each_less behind lines blocks rest)

less_for : (line : Option ℕ) (number : ℕ) (command : Command) → IsSomeOf (keep_for_check line number command) (keep_for_check None number command)
less_for line number (Ask asked) = by (is_line line number)
  where
    by : (meant : Bool) → IsSomeOf (keep_where meant keeping.Standing) keeping.Standing
    by true = inr refl
    by false = inl refl
less_for line number (State named) = inl refl
less_for line number (Withdraw n) = inl refl
less_for line number (Replace n named) = inl refl
less_for line number Repair = inl refl
less_for line number Undo = inl refl

abbrev keep_asked : Option ℕ → Option (List ℕ) → List (List ℕ) → Line → Keep
keep_asked line desk desks = keep_of (page_of pages.Reasons Certificates) line desk desks

less_of : (line : Option ℕ) (desk : Option (List ℕ)) (desks : List (List ℕ)) (x : Line) → IsSomeOf (keep_asked line desk desks x) (keep_asked None None desks x)
less_of line desk desks x = by (is_desk desk (desk_name desks x))
  where
    by : (own : Bool) → IsSomeOf (if own then keep_for_check line x.number x.command else keeping.Nothing) (keep_for_check None x.number x.command)
    by true = less_for line x.number x.command
    by false = inl refl

less_at : (line : Option ℕ) (desk : Option (List ℕ)) (desks : List (List ℕ)) (lines : List Line) (k : ℕ) → IsSomeOf (keep_at (map (keep_asked line desk desks) lines) k) (keep_at (map (keep_asked None None desks) lines) k)
less_at line desk desks [] k = inl refl
less_at line desk desks (x ∷ xs) zero = less_of line desk desks x
less_at line desk desks (x ∷ xs) (suc k) = less_at line desk desks xs k

-- ---- the whole

-- the first desk that is none has numbers left too
none_left : (lines : ℕ) → lines < 2 ^ 32 - 1 → LeavesNumbers lines (record { opening = []; surviving = [] })
none_left lines few = let next = next_number-first [] in omega (arith, next, few)

pub written_accepted : WrittenAreAccepted
written_accepted line desk i s report kept text table lawful sound reads page short =
    let bench = bench_for i s in
    let keep : List Keep = keeps (page_of pages.Reasons Certificates) line desk s in
    let blocks = reads.report.blocks in
    let each = reads.report.proved in
    let some = kept_from bench keep [] s.lines blocks in
    let more = kept_from bench (all_lines s) [] s.lines blocks in
    let g : Ground = ground_in i s some in
    let same = ap (λ (ks : List KeptLine). ground_in i s ks) reads.chosen in
    let xs = certificates_in (ground_in i s kept) page.0 in
    let of_some : ReadsKept keep i s report some = record { within = reads.within; accepted = reads.accepted; report = reads.report; chosen = refl } in
    let of_all : ReadsKept (all_lines s) i s report more = record { within = reads.within; accepted = reads.accepted; report = reads.report; chosen = refl } in
    let are = subst (λ (h : Ground). AreLinesFound Carried h page.0) same page.1 in
    let judged = kept_judged keep i s report some lawful sound of_some in
    let few_lines = sound.few_lines in
    let left : (d : ℕ) → LeavesNumbers (length s.lines) (revisions_then bench [] d) = λ d. lawful_at (LeavesNumbers (length s.lines)) bench.state d (record { opening = []; surviving = [] }) (none_left (length s.lines) (omega (arith, few_lines))) (numbers_left i (length s.desks) (length s.lines) lawful few_lines) in
    let small = each_small bench keep [] s.lines blocks left each reads.report.printable in
    let up = rises (map (λ l. l.number) s.lines) sound.rising in
    let least = all_by_places (λ (n : ℕ). 0 ≤ n) (map (λ l. l.number) s.lines) (λ k n there. omega arith) in
    let rise = each_rise bench keep [] s.lines blocks 0 least up each in
    let rise_all = each_rise bench (all_lines s) [] s.lines blocks 0 least up each in
    let among = each_less (λ (x : KeptLine). kept_line more x.block.line ≡ Some x) bench keep (all_lines s) (less_at line desk s.desks s.lines) [] s.lines blocks (each_found more rise_all) in
    let text_is = page.2 ∙ ap (λ (h : Ground). certificates_page h page.0) same in
    let within : length (certificates_page g page.0) < 2 ^ 32 - 1 = let long = ap length text_is in omega (arith, long, short) in
    let written = written_are_accepted g more page.0 table judged small rise among are within in
    let read = subst (λ (h : Ground). certificates_of i.table (certificates_page h page.0) ≡ Ok (certificates_in h page.0)) (sym same) written.0 in
    let proved = subst (λ (h : Ground). AllByRecursion (IsProvedCertificate i.table more) (certificates_in h page.0)) (sym same) written.1 in
    let is_text = subst (λ (bytes : List ℕ). IsCertificatesText i.table bytes xs) (sym page.2) (text_of_read i.table (certificates_page (ground_in i s kept) page.0) xs read) in
    record {
      kept = more;
      reads = of_all;
      proves = record { bytes = text; given = refl; certificates = xs; is_text = is_text; proved = proved; counted = refl };
    }
