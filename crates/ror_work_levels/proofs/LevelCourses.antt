-- What the files of both commands lead to is one thing.
use Rattle.std.proofs.Common.{◌≡◌, ℕ, ◌+◌, ◌<◌, ◌≤◌, List, [], ◌∷◌, length, Ok, Err, refl, sym, ap, ◌∙◌, subst, inl, inr, arith}
use Rattle.std.specs.Prelude.{max, replicate, slice_get, Some}
use Rattle.std.specs.List.{AllByRecursion}
use Rattle.std.proofs.lemmas.List.{length-replicate}
use Rattle.ror_text.proofs.Everywhere.{all_at}
use Rattle.ror_statement.specs.declared.statement.Numbered.{Numbered}
use Rattle.ror_statement.specs.declared.statement.Statement.{Statement}
use Rattle.ror_statement.specs.Statements.{statements_in}
use Rattle.ror_table.specs.Table.{IsTable}
use Rattle.ror_value.specs.declared.input.Input.{Input}
use Rattle.ror_value.specs.Over.{IsLawfulIn}
use Rattle.ror_xmcda.proofs.TableLemmas.{input_table}
use Rattle.ror_xmcda.proofs.InputLemmas.{input_lawful}
use Rattle.ror_session.specs.declared.session.Line.{Line}
use Rattle.ror_session.specs.declared.session.Session.{Session}
use Rattle.ror_session.specs.Sound.{IsSound}
use Rattle.ror_session.proofs.SoundLemmas.{session-sound}
use Rattle.ror_session.proofs.TextLemmas.{session_of-sound}
use Rattle.ror_history.specs.History as history
use Rattle.ror_bench.specs.Bench.{Workbench, HoldTheSame}
use Rattle.ror_bench.specs.Blocks.{IsProvedBlock}
use Rattle.ror_bench.specs.Desks.{with_blocks}
use Rattle.ror_bench.proofs.SameLemmas.{each_same, then_same}
use Rattle.ror_pivot.specs.declared.note.Bits.{Bits}
use Rattle.ror_pivot.specs.Answers.{most_of}
use Rattle.ror_bench.specs.declared.report.Accepted.{Accepted}
use Rattle.ror_bench.specs.declared.report.Rejection.{Rejection}
use Rattle.ror_closing.specs.Closing.{AreClosingLists, IsClosingStanding, lists_after, revision_lines}
use Rattle.ror_closing.proofs.LawfulLists.{lawful_lists}
use Rattle.ror_closing.proofs.StandingLemmas.{one_standing}
use Rattle.ror_confidence.specs.declared.levels.Levels.{Levels}
use Rattle.ror_confidence.specs.Levels.{level_lists}
use Rattle.ror_confidence.specs.Reading.{levels_of}
use Rattle.ror_confidence.proofs.Nested.{levels_nested}
use Rattle.ror_words.specs.Words.{InputNames}
use Rattle.ror_frame.specs.declared.stop.Refusal.{Refusal}
use Rattle.ror_frame.specs.declared.stop.Refusal.TheVariants as refusals
use Rattle.ror_frame.specs.Courses.{finish, fetch}
use Rattle.ror_frame.specs.Inputs.{over_report}
use Rattle.ror_frame.proofs.CourseLemmas.{IsDecided}
use Rattle.ror_frame.proofs.InputLemmas.{decided_suited}
use Rattle.ror_frame.proofs.Desks.{lawful_desks}
use Rattle.ror_entries.specs.Kind.{IsKind}
use Rattle.ror_entries.specs.Headed.{IsProvedHeaded, IsRejectedHeaded}
use Rattle.ror_entries.proofs.HeadedLemmas.{one_headed_count, rejected_headed_not_proved, one_headed_rejection}
use Rattle.ror_spans.specs.Text.{header_text}
use Rattle.ror_work_levels.specs.Entries.{span_kind}
use Rattle.ror_work_levels.specs.Suiting.{first_desk, AreFit, IsFirstUnfit, IsStanding, levels_bench}
use Rattle.ror_work_levels.specs.Levels.{OfLevels, ReadsLevels, RefusesLevels, ProvesSpans, IsSpansRejection, too_long, at_fault, RefusesSpans, spans_output, levels_chore, proved_output, check_levels_chore}
use Rattle.ror_work_levels.proofs.KindLemmas.{are_kind, one_reason, header_is_utf8}
use Rattle.ror_work_levels.proofs.Suits.{fit_suited, fit_or, one_first_unfit}

-- ---- what stands when the session is over

-- the desk of the first line is one of the bench
pub first_within : (lines : List Line) (n : ℕ) → AllByRecursion (λ line. line.desk < n) lines → first_desk lines < max 1 n
first_within [] n all = omega arith
first_within (line ∷ lines) n all = let here = all.0 in omega (arith, here)

-- benches that hold the same leave the same
pub standing_same : (one other : Workbench) → HoldTheSame one other → (lines : List Line) (desk : ℕ) (list : List Numbered) → IsClosingStanding one lines desk list → IsClosingStanding other lines desk list
standing_same one other same lines desk list closing = record {
  blocks = closing.blocks;
  each = each_same one other same IsProvedBlock [] (revision_lines lines) closing.blocks closing.each;
  list_is = closing.list_is ∙ ap history.standing (then_same one other same (with_blocks (revision_lines lines) closing.blocks) desk);
}

module _ (i : Input) (s : Session) (lawful : IsLawfulIn i.table i.opening) (sound : IsSound s) (fit : AreFit s.lines) where
  -- is one list
  pub one_list : (xs ys : List Numbered) → IsStanding i s xs → IsStanding i s ys → xs ≡ ys
  one_list xs ys first second = one_standing.one (levels_bench i s) (levels_bench i s) s.lines (first_desk s.lines) xs ys (refl, refl) (fit_suited s.lines fit) first second

  -- which is lawful
  pub standing_lawful : (standing : List Numbered) → IsStanding i s standing → IsLawfulIn i.table (statements_in standing)
  standing_lawful standing stands =
      let bench = levels_bench i s in
      let lists = lists_after bench (with_blocks (revision_lines s.lines) stands.blocks) in
      let closing : AreClosingLists bench s.lines lists = record { blocks = stands.blocks; each = stands.each; lists_are = refl } in
      let all = lawful_lists bench s.lines lists (lawful_desks i (max 1 (length s.desks)) lawful) closing in
      let long = length-replicate {A = history.Revisions} (max 1 (length s.desks)) (record { opening = i.opening; surviving = [] }) in
      let within = first_within s.lines (length s.desks) sound.desks in
      let there = one_standing.statements bench s.lines (first_desk s.lines) standing lists (omega (arith, long, within)) (fit_suited s.lines fit) stands closing in
      all_at (IsLawfulIn i.table) lists (first_desk s.lines) (statements_in standing) all there

  module _ (table : IsTable i.table) (levels : Levels) where
    pub kind_of : (standing : List Numbered) → IsStanding i s standing → IsKind (span_kind i.table (level_lists standing levels))
    kind_of standing stands = are_kind i.table (level_lists standing levels) table (levels_nested i.table standing levels (standing_lawful standing stands))

    -- what holds of the lists of the levels holds of those of what stands
    over : (P : List (List Statement) → Type 0) (standing : List Numbered) → IsStanding i s standing → OfLevels i s levels P → P (level_lists standing levels)
    over P standing stands of = subst (λ (xs : List Numbered). P (level_lists xs levels)) (one_list of.standing standing of.stands stands) of.holds

    module _ (bytes : List ℕ) where
      pub proved_once : (x y : Accepted) → ProvesSpans i s levels bytes x → ProvesSpans i s levels bytes y → x ≡ y
      proved_once x y p q =
          let a = p.1 in
          one_headed_count header_text (span_kind i.table (level_lists a.standing levels)) (kind_of a.standing a.stands) header_is_utf8 bytes x y a.holds (over (λ ls. IsProvedHeaded header_text (span_kind i.table ls) bytes y) a.standing a.stands q.1)

      -- what is rejected is not proved
      pub not_both : (r : Rejection) (x : Accepted) → IsSpansRejection i s levels bytes r → ProvesSpans i s levels bytes x → ⊥
      not_both r x (too_long many is) p = let few = p.0 in omega (arith, many, few)
      not_both r x (at_fault few of) p =
          let a = p.1 in
          rejected_headed_not_proved header_text (span_kind i.table (level_lists a.standing levels)) (kind_of a.standing a.stands) header_is_utf8 bytes r x (over (λ ls. IsRejectedHeaded header_text (span_kind i.table ls) bytes r) a.standing a.stands of) a.holds

      -- bytes are rejected for one thing
      pub rejected_once : (q r : Rejection) → IsSpansRejection i s levels bytes q → IsSpansRejection i s levels bytes r → q ≡ r
      rejected_once q r (too_long many is) (too_long more and) = is ∙ sym and
      rejected_once q r (too_long many is) (at_fault few of) = absurd (omega (arith, many, few))
      rejected_once q r (at_fault few of) (too_long many is) = absurd (omega (arith, many, few))
      rejected_once q r (at_fault few a) (at_fault less b) =
          one_headed_rejection header_text (span_kind i.table (level_lists a.standing levels)) (kind_of a.standing a.stands) header_is_utf8 bytes (one_reason i.table (level_lists a.standing levels)) q r a.holds (over (λ ls. IsRejectedHeaded header_text (span_kind i.table ls) bytes r) a.standing a.stands b)

      pub refused_once : (q r : Refusal) → RefusesSpans i s levels bytes q → RefusesSpans i s levels bytes r → q ≡ r
      refused_once q r a b = a.1 ∙ ap refusals.Rejected (rejected_once a.0 b.0 a.2 b.2) ∙ sym b.1

  -- ---- the levels

  module _ (bytes : List ℕ) where
    read_once : (x y : Levels) → ReadsLevels i s bytes x → ReadsLevels i s bytes y → x ≡ y
    read_once x y p q =
        let same = one_list q.0 p.0 q.1 p.1 in
        let one = p.2 in
        let other = ap (λ (xs : List Numbered). levels_of xs bytes) (sym same) ∙ q.2 in
        cc

    levels_refused_once : (q r : Refusal) → RefusesLevels i s bytes q → RefusesLevels i s bytes r → q ≡ r
    levels_refused_once q r a b =
        let same = one_list b.2 a.2 b.3 a.3 in
        let one = a.4 in
        let other = ap (λ (xs : List Numbered). levels_of xs bytes) (sym same) ∙ b.4 in
        let fault : a.0 ≡ b.0 = cc in
        a.1 ∙ ap refusals.BadLevels fault ∙ sym b.1

    read_or_refused : (x : Levels) (r : Refusal) → ReadsLevels i s bytes x → RefusesLevels i s bytes r → ⊥
    read_or_refused x r p a =
        let same = one_list a.2 p.0 a.3 p.1 in
        let one = p.2 in
        let other = ap (λ (xs : List Numbered). levels_of xs bytes) (sym same) ∙ a.4 in
        cc

-- ---- the two commands

pub decided_levels : (names : InputNames) (levels : List ℕ) (bits : Bits) → IsDecided (levels_chore names levels bits).course
decided_levels names levels bits = decided_suited IsFirstUnfit names (λ i s. fetch Levels levels (ReadsLevels i s) (RefusesLevels i s) (λ bytes read. finish (spans_output (most_of bits) i s read))) one_first_unfit (λ table i session s read other bytes.
    let lawful = input_lawful table names.best_first i read in
    let sound = session-sound session s (session_of-sound session s other.0) in
    let fit = fit_or s.lines other.1 in
    ((λ x y p q. read_once i s lawful sound fit bytes x y p q), (λ q r a b. levels_refused_once i s lawful sound fit bytes q r a b), (λ x r p a. read_or_refused i s lawful sound fit bytes x r p a), λ x p. tt))

pub decided_check_levels : (names : InputNames) (levels report : List ℕ) → IsDecided (check_levels_chore names levels report).course
decided_check_levels names levels report = decided_suited IsFirstUnfit names (λ i s. fetch Levels levels (ReadsLevels i s) (RefusesLevels i s) (λ bytes read. over_report report (ProvesSpans i s read) (IsSpansRejection i s read) (proved_output i s read))) one_first_unfit (λ table i session s read other bytes.
    let is_table = input_table table names.best_first i read in
    let lawful = input_lawful table names.best_first i read in
    let sound = session-sound session s (session_of-sound session s other.0) in
    let fit = fit_or s.lines other.1 in (
      (λ x y p q. read_once i s lawful sound fit bytes x y p q),
      (λ q r a b. levels_refused_once i s lawful sound fit bytes q r a b),
      (λ x r p a. read_or_refused i s lawful sound fit bytes x r p a),
      λ x p text.
          ((λ a b c d. proved_once i s lawful sound fit is_table x text a b c d), (λ q r c d. refused_once i s lawful sound fit is_table x text q r c d), (λ a r c d. not_both i s lawful sound fit is_table x text d.0 a d.2 c), λ a c. tt),
    ))
