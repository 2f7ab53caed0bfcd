-- What a certificate says of the line that it names.
use Rattle.std.proofs.Common.{◌≡◌, inl, inr, ℕ, ◌+◌, zero, suc, eqb, List, [], ◌∷◌, ◌++◌, length, take, Option, Some, None, refl, sym, ap, subst, ◌∙◌, append_assoc, length-append, arith}
use Rattle.std.specs.Prelude.{slice_get, option_map}
use Rattle.std.specs.List.{AllByRecursion}
use Rattle.std.proofs.lemmas.Bool.{cases_Bool, cond-true, cond-false, eqb-true}
use Rattle.std.proofs.lemmas.List.{append-nil}
use Rattle.ror_text.proofs.Everywhere.{all-by}
use Rattle.ror_statement.specs.declared.statement.Numbered.{Numbered}
use Rattle.ror_statement.specs.declared.question.Conclusion.{Conclusion}
use Rattle.ror_value.specs.declared.input.Input.{Input}
use Rattle.ror_value.specs.Over.{IsLawfulIn}
use Rattle.ror_session.specs.declared.session.Asked.{Asked}
use Rattle.ror_session.specs.declared.session.Command.{Command}
use Rattle.ror_session.specs.declared.session.Command.TheVariants.{State, Withdraw, Replace, Repair, Undo, Ask}
use Rattle.ror_session.specs.declared.session.Line.{Line}
use Rattle.ror_session.specs.declared.session.Session.{Session}
use Rattle.ror_proof.specs.declared.answer.Answer.{Answer}
use Rattle.ror_proof.specs.declared.answer.Verdict.{Verdict}
use Rattle.ror_proof.specs.declared.answer.Verdict.TheVariants as verdicts
use Rattle.ror_report.specs.declared.block.Block.{Block}
use Rattle.ror_report.specs.declared.block.Body.{Body}
use Rattle.ror_report.specs.declared.block.Body.TheVariants as bodies
use Rattle.ror_history.specs.History.{Revisions, standing}
use Rattle.ror_bench.specs.declared.kept.Keep.{Keep}
use Rattle.ror_bench.specs.declared.kept.Keep.TheVariants as keeping
use Rattle.ror_bench.specs.declared.kept.KeptLine.{KeptLine}
use Rattle.ror_bench.specs.Bench.{Workbench}
use Rattle.ror_bench.specs.Blocks.{IsProvedBlock}
use Rattle.ror_bench.specs.Desks.{with_blocks}
use Rattle.ror_bench.specs.Kept.{keep_at, kept_of, standing_for, kept_at, kept_from}
use Rattle.ror_bench.specs.Reports.{EachHolds, revisions_then}
use Rattle.ror_bench.proofs.Truth.{report_true}
use Rattle.ror_bench.proofs.UniqueLemmas.{one_some}
use Rattle.ror_reason.specs.Reducts.{IsReduct, Concludes}
use Rattle.ror_show_forms.specs.declared.certificate.Certificate.{Certificate}
use Rattle.ror_show_ground.specs.Ready.{IsReady}
use Rattle.ror_show_forms.specs.Answered.{kept_line, answered, answered_at, conclusion_of, IsProvedCertificate}
use Rattle.ror_show_forms.proofs.Refusals.{proved_are_reducts}
use Rattle.ror_frame.specs.Inputs.{bench_for}
use Rattle.ror_frame.proofs.Desks.{lawful_desks}
use Rattle.ror_show_pages.proofs.ClassTruth.{kept_there}
use Rattle.ror_show_check.specs.Checking.{all_lines, ProvesCertificates}
use Rattle.ror_show_pages.specs.Pages.{keep_of, keep_for_check, page_of}
use Rattle.ror_show_check.specs.Truth.{IsTrueCertificate, AreTrueOf}
use Rattle.ror_show_pages.proofs.ReadLemmas.{kept_ready}
use Rattle.ror_show_words.specs.declared.table.Page.TheVariants as pages
use Rattle.ror_show_words.specs.declared.words.Form.TheVariants.{Certificates}

-- ---- a kept line is one of the lines

module _ (bench : Workbench) (keep : List Keep) where
  -- it is the one at a place, with its block, behind lines with these blocks
  pub record IsOf (before : List (Line × Block)) (lines : List Line) (blocks : List Block) (x : KeptLine) : Type 0 where
    pub n : ℕ
    pub line : Line
    pub line_there : slice_get lines n ≡ Some line
    pub block_there : slice_get blocks n ≡ Some x.block
    pub stood : x.standing ≡ standing_for (keep_at keep (length before + n)) (revisions_then bench (before ++ with_blocks (take n lines) (take n blocks)) line.desk)
    pub number : x.block.line ≡ line.number

  further : (before : List (Line × Block)) (line : Line) (lines : List Line) (block : Block) (blocks : List Block) (x : KeptLine) → IsOf (before ++ (line, block) ∷ []) lines blocks x → IsOf before (line ∷ lines) (block ∷ blocks) x
  further before line lines block blocks x later =
      let longer : length (before ++ (line, block) ∷ []) + later.n ≡ length before + suc later.n = let long = length-append before ((line, block) ∷ []) in omega (arith, long) in
      let moved : (before ++ (line, block) ∷ []) ++ with_blocks (take later.n lines) (take later.n blocks) ≡ before ++ with_blocks (take (suc later.n) (line ∷ lines)) (take (suc later.n) (block ∷ blocks)) = append_assoc before ((line, block) ∷ []) (with_blocks (take later.n lines) (take later.n blocks)) in
      record {
        n = suc later.n;
        line = later.line;
        line_there = later.line_there;
        block_there = later.block_there;
        stood = later.stood ∙ ap (λ (m : ℕ). standing_for (keep_at keep m) (revisions_then bench ((before ++ (line, block) ∷ []) ++ with_blocks (take later.n lines) (take later.n blocks)) later.line.desk)) longer ∙ ap (λ (b : List (Line × Block)). standing_for (keep_at keep (length before + suc later.n)) (revisions_then bench b later.line.desk)) moved;
        number = later.number;
      }

  here : (before : List (Line × Block)) (line : Line) (lines : List Line) (block : Block) (blocks : List Block) (x : KeptLine) → IsProvedBlock bench.table (revisions_then bench before line.desk) line block → x.block ≡ block → x.standing ≡ standing_for (keep_at keep (length before)) (revisions_then bench before line.desk) → IsOf before (line ∷ lines) (block ∷ blocks) x
  here before line lines block blocks x proved own stood =
      let at : length before ≡ length before + 0 = omega arith in
      record {
        n = 0;
        line = line;
        line_there = refl;
        block_there = ap (λ (b : Block). Some b) (sym own);
        stood = stood ∙ ap (λ (m : ℕ). standing_for (keep_at keep m) (revisions_then bench before line.desk)) at ∙ ap (λ (b : List (Line × Block)). standing_for (keep_at keep (length before + 0)) (revisions_then bench b line.desk)) (sym (append-nil before));
        number = ap (λ (b : Block). b.line) own ∙ proved.number;
      }

  by_keep : (before : List (Line × Block)) (line : Line) (lines : List Line) (block : Block) (blocks : List Block) (k : ℕ) (x : KeptLine) → IsProvedBlock bench.table (revisions_then bench before line.desk) line block → ((j : ℕ) → slice_get (kept_from bench keep (before ++ (line, block) ∷ []) lines blocks) j ≡ Some x → IsOf (before ++ (line, block) ∷ []) lines blocks x) → (so : Keep) → keep_at keep (length before) ≡ so → slice_get (kept_from bench keep before (line ∷ lines) (block ∷ blocks)) k ≡ Some x → IsOf before (line ∷ lines) (block ∷ blocks) x
  by_keep before line lines block blocks k x proved rest so is there = by so is k (subst (λ (ks : List KeptLine). slice_get (ks ++ behind) k ≡ Some x) (kept_one so is) there)
    where
      behind : List KeptLine
      behind = kept_from bench keep (before ++ (line, block) ∷ []) lines blocks

      one : Keep → List KeptLine
      one how = kept_of (length before) how (standing_for how (revisions_then bench before line.desk)) block

      kept_one : (how : Keep) → keep_at keep (length before) ≡ how → kept_at bench keep before line block ≡ one how
      kept_one how is = ap one is

      stood_so : (how : Keep) → keep_at keep (length before) ≡ how → standing_for how (revisions_then bench before line.desk) ≡ standing_for (keep_at keep (length before)) (revisions_then bench before line.desk)
      stood_so how is = ap (λ (q : Keep). standing_for q (revisions_then bench before line.desk)) (sym is)

      made : Option (List Numbered) → KeptLine
      made stood = record { place = length before; standing = stood; block = block }

      at_first : (stood : Option (List Numbered)) → made stood ≡ x → stood ≡ standing_for (keep_at keep (length before)) (revisions_then bench before line.desk) → IsOf before (line ∷ lines) (block ∷ blocks) x
      at_first stood same stands = here before line lines block blocks x proved (ap (λ (y : KeptLine). y.block) (sym same)) (ap (λ (y : KeptLine). y.standing) (sym same) ∙ stands)

      by : (how : Keep) → keep_at keep (length before) ≡ how → (k : ℕ) → slice_get (one how ++ behind) k ≡ Some x → IsOf before (line ∷ lines) (block ∷ blocks) x
      by keeping.Nothing is k there = further before line lines block blocks x (rest k there)
      by keeping.Block is zero there = at_first None (let same = there in cc) (stood_so keeping.Block is)
      by keeping.Block is (suc j) there = further before line lines block blocks x (rest j there)
      by keeping.Standing is zero there = at_first (Some (standing (revisions_then bench before line.desk))) (let same = there in cc) (stood_so keeping.Standing is)
      by keeping.Standing is (suc j) there = further before line lines block blocks x (rest j there)

  pub kept_is : (before : List (Line × Block)) (lines : List Line) (blocks : List Block) (k : ℕ) (x : KeptLine) → EachHolds (IsProvedBlock bench.table) bench before lines blocks → slice_get (kept_from bench keep before lines blocks) k ≡ Some x → IsOf before lines blocks x
  kept_is before [] [] k x each there = absurd cc
  kept_is before [] (block ∷ blocks) k x each there = absurd each
  kept_is before (line ∷ lines) [] k x each there = absurd each
  kept_is before (line ∷ lines) (block ∷ blocks) k x each there =
      by_keep before line lines block blocks k x each.0 (λ j later. kept_is (before ++ (line, block) ∷ []) lines blocks j x each.1 later) (keep_at keep (length before)) refl there

-- ---- the line of a number

record IsNumbered (kept : List KeptLine) (line : ℕ) (x : KeptLine) : Type 0 where
  k : ℕ
  there : slice_get kept k ≡ Some x
  number : x.block.line ≡ line

numbered : (kept : List KeptLine) (line : ℕ) (x : KeptLine) → kept_line kept line ≡ Some x → IsNumbered kept line x
numbered [] line x e = absurd cc
numbered (y ∷ ys) line x e =
    elim (cases_Bool (eqb y.block.line line)) [
      | inl same ↦
          let first : kept_line (y ∷ ys) line ≡ Some y = cond-true (eqb y.block.line line) (Some y) (kept_line ys line) same in
          let is : y ≡ x = one_some (kept_line (y ∷ ys) line) y x first e in
          record { k = 0; there = ap (λ (z : KeptLine). Some z) is; number = subst (λ (z : KeptLine). z.block.line ≡ line) is (eqb-true y.block.line line same) }
      | inr other ↦
          let behind : kept_line (y ∷ ys) line ≡ kept_line ys line = cond-false (eqb y.block.line line) (Some y) (kept_line ys line) other in
          let later = numbered ys line x (sym behind ∙ e) in
          record { k = suc later.k; there = later.there; number = later.number }
    ]

-- ---- the answer at a place

abbrev with_list : List Numbered → Answer → List Numbered × Answer
with_list list x = (list, x)

record IsPlaced (stood : Option (List Numbered)) (body : Body) (place : ℕ) (list : List Numbered) (answer : Answer) : Type 0 where
  stood_is : stood ≡ Some list
  answers : List Answer
  body_is : body ≡ bodies.Answers answers
  before : ℕ
  place_is : place ≡ before + 1
  there : slice_get answers before ≡ Some answer

placed_as : (stood : Option (List Numbered)) (body : Body) (place : ℕ) (list : List Numbered) (answer : Answer) → answered stood body place ≡ Some (list, answer) → IsPlaced stood body place list answer
placed_as (Some stood) (bodies.Answers xs) zero list answer e = absurd cc
placed_as (Some stood) (bodies.Answers xs) (suc k) list answer e = by (slice_get xs k) refl e
  where
    by : (o : Option Answer) → slice_get xs k ≡ o → option_map (with_list stood) o ≡ Some (list, answer) → IsPlaced (Some stood) (bodies.Answers xs) (suc k) list answer
    by None is e = absurd cc
    by (Some x) is e =
        let both : with_list stood x ≡ with_list list answer = one_some (Some (with_list stood x)) (with_list stood x) (with_list list answer) refl e in
        let place : suc k ≡ k + 1 = omega arith in
        record { stood_is = ap (λ (y : List Numbered × Answer). Some y.0) both; answers = xs; body_is = refl; before = k; place_is = place; there = is ∙ ap (λ (y : List Numbered × Answer). Some y.1) both }
placed_as None body place list answer e = absurd cc
placed_as (Some stood) (bodies.Added n) place list answer e = absurd cc
placed_as (Some stood) (bodies.Withdrawn n) place list answer e = absurd cc
placed_as (Some stood) (bodies.Replaced n) place list answer e = absurd cc
placed_as (Some stood) bodies.Undone place list answer e = absurd cc
placed_as (Some stood) (bodies.Repaired x) place list answer e = absurd cc
placed_as (Some stood) (bodies.RepairWide n note) place list answer e = absurd cc
placed_as (Some stood) (bodies.Refused fault) place list answer e = absurd cc

-- ---- a line of which what stood is kept asks

stands_so : (how : Keep) (r : Revisions) (list : List Numbered) → standing_for how r ≡ Some list → (how ≡ keeping.Standing) × (standing r ≡ list)
stands_so keeping.Standing r list e = (refl, let p = e in cc)
stands_so keeping.Block r list e = absurd cc
stands_so keeping.Nothing r list e = absurd cc

asks_so : (number : ℕ) (command : Command) → keep_for_check None number command ≡ keeping.Standing → (asked : Asked) × (command ≡ Ask asked)
asks_so number (Ask asked) is = (asked, refl)
asks_so number (State named) is = absurd cc
asks_so number (Withdraw n) is = absurd cc
asks_so number (Replace n named) is = absurd cc
asks_so number Repair is = absurd cc
asks_so number Undo is = absurd cc

-- ---- certificates

-- the lines that the check of certificates keeps, of a session with these blocks
abbrev all_kept : Input → Session → List Block → List KeptLine
all_kept i s blocks = kept_from (bench_for i s) (all_lines s) [] s.lines blocks

concludes_as : (v : Verdict) (c : Conclusion) → conclusion_of v ≡ Some c → Concludes c v
concludes_as (verdicts.Yes proof) c is = let p = is in cc
concludes_as (verdicts.No proof) c is = let p = is in cc
concludes_as (verdicts.Contradiction proof) c is = let p = is in cc
concludes_as (verdicts.Wide system note) c is = absurd (let p = is in cc)

true_of : (i : Input) (s : Session) (blocks : List Block) (x : Certificate) → AllByRecursion (IsReady i.table) (all_kept i s blocks) → EachHolds (IsProvedBlock i.table) (bench_for i s) [] s.lines blocks → IsProvedCertificate i.table (all_kept i s blocks) x → IsTrueCertificate i s blocks x
true_of i s blocks x ready each p = by (kept_line kept x.line) refl p.there
  where
    kept : List KeptLine
    kept = all_kept i s blocks

    reduct : IsReduct i.table p.list p.answer.question p.proved.conclusion x.reduct.numbers
    reduct = proved_are_reducts i.table kept x ready p

    by : (o : Option KeptLine) → kept_line kept x.line ≡ o → answered_at o x.place ≡ Some (p.list, p.answer) → IsTrueCertificate i s blocks x
    by None is e = absurd cc
    by (Some y) is e =
        let named = numbered kept x.line y is in
        let at = kept_is (bench_for i s) (all_lines s) [] s.lines blocks named.k y each named.there in
        let told = placed_as y.standing y.block.body x.place p.list p.answer e in
        let stands = stands_so (keep_at (all_lines s) (0 + at.n)) (revisions_then (bench_for i s) (with_blocks (take at.n s.lines) (take at.n blocks)) at.line.desk) p.list (sym at.stood ∙ told.stood_is) in
        let place : 0 + at.n ≡ at.n = omega arith in
        let kept_so : keep_of (page_of pages.Reasons Certificates) None None s.desks at.line ≡ keeping.Standing = sym (kept_there (keep_of (page_of pages.Reasons Certificates) None None s.desks) s.lines at.n at.line at.line_there) ∙ ap (keep_at (all_lines s)) (sym place) ∙ stands.0 in
        let asks = asks_so at.line.number at.line.command kept_so in
        record {
          n = at.n;
          line = at.line;
          line_there = at.line_there;
          number = sym at.number ∙ named.number;
          asked = asks.0;
          asks = asks.1;
          block = y.block;
          block_there = at.block_there;
          answers = told.answers;
          body = told.body_is;
          before = told.before;
          place = told.place_is;
          answer = p.answer;
          answer_there = told.there;
          conclusion = p.proved.conclusion;
          concludes = concludes_as p.answer.verdict p.proved.conclusion p.proved.concludes;
          reduct = subst (λ (list : List Numbered). IsReduct i.table list p.answer.question p.proved.conclusion x.reduct.numbers) (sym stands.1) reduct;
        }

-- what is accepted is true
pub accepted_true : (i : Input) (s : Session) (text : Option (List ℕ)) (report : List ℕ) (count : ℕ) → IsLawfulIn i.table i.opening → ProvesCertificates i s text report count → AreTrueOf i s text report count
accepted_true i s text report count lawful p =
    let blocks = p.reads.report.blocks in
    let ready = subst (AllByRecursion (IsReady i.table)) p.reads.chosen (kept_ready (all_lines s) i s report p.kept lawful p.reads) in
    let over = subst (λ (ks : List KeptLine). AllByRecursion (IsProvedCertificate i.table ks) p.proves.certificates) p.reads.chosen p.proves.proved in
    record {
      accepted = p.reads.accepted;
      is = record { proved = p.reads.report; blocks_true = report_true (bench_for i s) s.lines report p.reads.accepted (lawful_desks i (length s.desks) lawful) p.reads.report };
      bytes = p.proves.bytes;
      given = p.proves.given;
      certificates = p.proves.certificates;
      is_text = p.proves.is_text;
      all_true = all-by (IsProvedCertificate i.table (all_kept i s blocks)) (IsTrueCertificate i s blocks) p.proves.certificates (λ x proved. true_of i s blocks x ready p.reads.report.proved proved) over;
      counted = p.proves.counted;
    }
