-- What the files of both commands lead to is one thing.
use Rattle.std.proofs.Common.{◌≡◌, ℕ, List, [], length, refl, sym, ap, ◌∙◌, subst, arith}
use Rattle.ror_statement.specs.declared.statement.Statement.{Statement}
use Rattle.ror_table.specs.Table.{IsTable}
use Rattle.ror_value.specs.declared.input.Input.{Input}
use Rattle.ror_value.specs.Over.{IsLawfulIn}
use Rattle.ror_xmcda.proofs.TableLemmas.{input_table}
use Rattle.ror_xmcda.proofs.InputLemmas.{input_lawful}
use Rattle.ror_session.specs.declared.session.Session.{Session}
use Rattle.ror_session.specs.Sound.{IsSound}
use Rattle.ror_session.proofs.SoundLemmas.{session-sound}
use Rattle.ror_session.proofs.TextLemmas.{session_of-sound}
use Rattle.std.proofs.lemmas.List.{length-replicate}
use Rattle.std.proofs.lemmas.List.FromFn.{length-map-range_with_len}
use Rattle.ror_history.specs.History.{statements_of}
use Rattle.ror_bench.specs.Desks.{with_blocks}
use Rattle.ror_bench.specs.Reports.{revisions_then}
use Rattle.ror_pivot.specs.declared.note.Bits.{Bits}
use Rattle.ror_pivot.specs.Answers.{most_of}
use Rattle.ror_bench.specs.declared.report.Accepted.{Accepted}
use Rattle.ror_bench.specs.declared.report.Rejection.{Rejection}
use Rattle.ror_closing.specs.Closing.{AreClosingLists, AreSuited, IsFirstUnsuited, revision_lines}
use Rattle.ror_closing.proofs.LawLemmas.{one_closing, one_first_unsuited}
use Rattle.ror_closing.proofs.LawfulLists.{lawful_lists, suited_or}
use Rattle.ror_words.specs.Words.{InputNames}
use Rattle.ror_frame.specs.declared.stop.Refusal.{Refusal}
use Rattle.ror_frame.specs.declared.stop.Refusal.TheVariants as refusals
use Rattle.ror_frame.specs.Courses.{finish}
use Rattle.ror_frame.specs.Inputs.{bench_for, over_report}
use Rattle.ror_frame.proofs.CourseLemmas.{IsDecided}
use Rattle.ror_frame.proofs.InputLemmas.{decided_suited}
use Rattle.ror_frame.proofs.Desks.{lawful_desks}
use Rattle.ror_entries.specs.Kind.{IsKind}
use Rattle.ror_entries.specs.Headed.{IsProvedHeaded, IsRejectedHeaded}
use Rattle.ror_entries.proofs.HeadedLemmas.{one_headed_count, rejected_headed_not_proved, one_headed_rejection}
use Rattle.ror_ranks_text.specs.Text.{header_text}
use Rattle.ror_work_ranks.specs.Steps.{AreDesks}
use Rattle.ror_work_ranks.specs.Ranking.{OfClosing, kind_over, ProvesRanks, IsRanksRejection, too_long, at_fault, RefusesRanks, ranks_output, ranks_chore, proved_output, check_ranks_chore}
use Rattle.ror_ranks_text.proofs.EntryUtf8.{header_is_utf8}
use Rattle.ror_work_ranks.proofs.KindLemmas.{are_kind, one_reason}

-- each desk of the session has its name, and its closing list
pub are_desks : (i : Input) (s : Session) (lists : List (List Statement)) → IsTable i.table → IsLawfulIn i.table i.opening → IsSound s → AreClosingLists (bench_for i s) s.lines lists → AreDesks i.table s.desks lists
are_desks i s lists table lawful sound closing = record {
  table = table;
  lawful = lawful_lists (bench_for i s) s.lines lists (lawful_desks i (length s.desks) lawful) closing;
  list_each = ap length closing.lists_are
      ∙ length-map-range_with_len (λ desk. statements_of (revisions_then (bench_for i s) (with_blocks (revision_lines s.lines) closing.blocks) desk)) 0 (length (bench_for i s).state)
      ∙ length-replicate (length s.desks) (record { opening = i.opening; surviving = [] });
  few = sound.few_desks;
}

module _ (i : Input) (s : Session) (table : IsTable i.table) (lawful : IsLawfulIn i.table i.opening) (sound : IsSound s) where
  pub kind_of_lists : (lists : List (List Statement)) → AreClosingLists (bench_for i s) s.lines lists → IsKind (kind_over i s lists)
  kind_of_lists lists closing = are_kind i.table s.desks lists (are_desks i s lists table lawful sound closing)

  module _ (suited : AreSuited s.lines) (bytes : List ℕ) where
    one_lists : (xs ys : List (List Statement)) → AreClosingLists (bench_for i s) s.lines xs → AreClosingLists (bench_for i s) s.lines ys → xs ≡ ys
    one_lists xs ys first second = one_closing (bench_for i s) (bench_for i s) s.lines xs ys (refl, refl) suited first second

    -- two of what holds of closing lists hold of the same ones
    pub over : (P : List (List Statement) → Type 0) (xs : List (List Statement)) → AreClosingLists (bench_for i s) s.lines xs → OfClosing i s P → P xs
    over P xs closing of = subst P (one_lists of.lists xs of.closing closing) of.holds

    proved_once : (x y : Accepted) → ProvesRanks i s bytes x → ProvesRanks i s bytes y → x ≡ y
    proved_once x y p q =
        let a = p.1 in
        one_headed_count header_text (kind_over i s a.lists) (kind_of_lists a.lists a.closing) header_is_utf8 bytes x y a.holds (over (λ ls. IsProvedHeaded header_text (kind_over i s ls) bytes y) a.lists a.closing q.1)

    -- what is rejected is not proved
    pub not_both : (r : Rejection) (x : Accepted) → IsRanksRejection i s bytes r → ProvesRanks i s bytes x → ⊥
    not_both r x (too_long many is) p = let few = p.0 in omega (arith, many, few)
    not_both r x (at_fault few of) p =
        let a = p.1 in
        rejected_headed_not_proved header_text (kind_over i s a.lists) (kind_of_lists a.lists a.closing) header_is_utf8 bytes r x (over (λ ls. IsRejectedHeaded header_text (kind_over i s ls) bytes r) a.lists a.closing of) a.holds

    -- bytes are rejected for one thing
    rejected_once : (q r : Rejection) → IsRanksRejection i s bytes q → IsRanksRejection i s bytes r → q ≡ r
    rejected_once q r (too_long many is) (too_long more and) = is ∙ sym and
    rejected_once q r (too_long many is) (at_fault few of) = absurd (omega (arith, many, few))
    rejected_once q r (at_fault few of) (too_long many is) = absurd (omega (arith, many, few))
    rejected_once q r (at_fault few a) (at_fault less b) =
        one_headed_rejection header_text (kind_over i s a.lists) (kind_of_lists a.lists a.closing) header_is_utf8 bytes (one_reason i.table s.desks a.lists) q r a.holds (over (λ ls. IsRejectedHeaded header_text (kind_over i s ls) bytes r) a.lists a.closing b)

    refused_once : (q r : Refusal) → RefusesRanks i s bytes q → RefusesRanks i s bytes r → q ≡ r
    refused_once q r a b = a.1 ∙ ap refusals.Rejected (rejected_once a.0 b.0 a.2 b.2) ∙ sym b.1

-- ---- the two commands

pub decided_ranks : (names : InputNames) (bits : Bits) → IsDecided (ranks_chore names bits).course
decided_ranks names bits = decided_suited IsFirstUnsuited names (λ i s. finish (ranks_output (most_of bits) i s)) one_first_unsuited.one (λ table i session s read other. tt)

pub decided_check_ranks : (names : InputNames) (report : List ℕ) → IsDecided (check_ranks_chore names report).course
decided_check_ranks names report =
    decided_suited IsFirstUnsuited names (λ i s. over_report report (ProvesRanks i s) (IsRanksRejection i s) (proved_output i s)) one_first_unsuited.one (λ table i session s read other bytes.
    let is_table = input_table table names.best_first i read in
    let lawful = input_lawful table names.best_first i read in
    let sound = session-sound session s (session_of-sound session s other.0) in
    let suited = suited_or s.lines other.1 in
    ((λ x y p q. proved_once i s is_table lawful sound suited bytes x y p q), (λ q r a b. refused_once i s is_table lawful sound suited bytes q r a b), (λ x r p a. not_both i s is_table lawful sound suited bytes a.0 x a.2 p), λ x p. tt))
