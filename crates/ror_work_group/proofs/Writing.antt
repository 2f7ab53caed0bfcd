-- What was written of a head and entries is the report of a group, or how it begins.
use Rattle.std.proofs.Common.{◌≡◌, ℕ, ◌<◌, true, List, [], ◌∷◌, ◌++◌, length, Ok, Err, refl, sym, subst, inr, arith}
use Rattle.std.proofs.lemmas.List.{take_all}
use Rattle.std.specs.Prelude.{◌^◌}
use Rattle.std.specs.List.{AllByRecursion}
use Rattle.ror_io.specs.Writing.{Grew}
use Rattle.ror_statement.specs.declared.statement.Statement.{Statement}
use Rattle.ror_table.specs.Table.{DecisionTable}
use Rattle.ror_value.specs.declared.input.Input.{Input}
use Rattle.ror_session.specs.declared.session.Session.{Session}
use Rattle.ror_proof.specs.declared.answer.Answer.{Answer}
use Rattle.ror_bench.proofs.ReplayLemmas.{given_unless_wide}
use Rattle.ror_closing.specs.Closing.{AreClosingLists}
use Rattle.ror_group.specs.declared.entry.Entry.{Entry}
use Rattle.ror_group.specs.Combining.{Asked, asked_on, InStep}
use Rattle.ror_group.specs.Proof.{IsWideOrProvedFor}
use Rattle.ror_group.specs.Head.{head_text, is_desk_name}
use Rattle.ror_entries.specs.Kind.{IsKind}
use Rattle.ror_entries.specs.Reports.{accepted_of, IsAcceptedEntries}
use Rattle.ror_entries.specs.Writing.{IsWholeText, IsBegunText}
use Rattle.ror_entries.proofs.EachLemmas.{proved_is_accepted}
use Rattle.ror_entries.proofs.WriteLemmas.{given_are_proved}
use Rattle.ror_frame.specs.declared.stop.Stop.TheVariants as stops
use Rattle.ror_frame.specs.States.{SinkState}
use Rattle.ror_frame.specs.Stops.{Outcome}
use Rattle.ror_frame.specs.Courses.{WritesDue}
use Rattle.ror_frame.specs.Inputs.{bench_for}
use Rattle.ror_work_group.specs.Entries.{IsGivenFor, IsGivenEntry, IsProvedEntry, group_kind}
use Rattle.ror_work_group.specs.Group.{OverClosing, IsBegunGroup, group_output, WritesReport}

-- ---- given entries are proved

in_step_by : (P Q : Asked → Answer → Type 0) → ((q : Asked) (x : Answer) → P q x → Q q x) → (qs : List Asked) (xs : List Answer) → InStep P qs xs → InStep Q qs xs
in_step_by P Q by [] [] h = tt
in_step_by P Q by [] (x ∷ xs) h = absurd h
in_step_by P Q by (q ∷ qs) [] h = absurd h
in_step_by P Q by (q ∷ qs) (x ∷ xs) h = (by q x h.0, in_step_by P Q by qs xs h.1)

answer_proved : (most : ℕ) (t : DecisionTable) (asked : Asked) (x : Answer) → IsGivenFor most t asked x → IsWideOrProvedFor t asked x
answer_proved most t asked x given =
    let proved = given_unless_wide most t asked.list asked.question x given in
    record { question = proved.question; proof = proved.proof }

pub given_proved : (most : ℕ) (t : DecisionTable) (lists : List (List Statement)) (place : ℕ) (x : Entry) → IsGivenEntry most t lists place x → IsProvedEntry t lists place x
given_proved most t lists place x given = record {
  pair = given.pair;
  proved = record {
    answers = in_step_by (IsGivenFor most t) (IsWideOrProvedFor t) (answer_proved most t) (asked_on x.first x.second lists) x.answers given.answers;
    words = given.words;
  };
}

accepted_whole : (most : ℕ) (t : DecisionTable) (lists : List (List Statement)) (body : List ℕ) (entries : List Entry) → IsKind (group_kind t lists) → IsWholeText (group_kind t lists) (IsGivenEntry most t lists) body entries → IsAcceptedEntries (group_kind t lists) body (accepted_of (group_kind t lists) entries)
accepted_whole most t lists body entries kind whole =
    proved_is_accepted (group_kind t lists) kind body (accepted_of (group_kind t lists) entries) (given_are_proved (group_kind t lists) (IsGivenEntry most t lists) (given_proved most t lists) body entries whole)

-- ---- the report

module _ (most : ℕ) (i : Input) (s : Session) (lists : List (List Statement)) (few : length s.desks < 2 ^ 32) (named : AllByRecursion (λ name. is_desk_name name ≡ true) s.desks) (closing : AreClosingLists (bench_for i s) s.lines lists) (kind : IsKind (group_kind i.table lists)) where
  over : (P : List (List Statement) → List ℕ → Type 0) (body : List ℕ) → P lists body → OverClosing i s (head_text s.desks ++ body) P
  over P body had = record {
    after = record { place = length (head_text s.desks); rest = body };
    head = record { text = refl; place = refl; few = few; allowed = named };
    lists = lists;
    closing = closing;
    body = had;
  }

  begun : (body : List ℕ) → IsBegunText (group_kind i.table lists) (IsGivenEntry most i.table lists) body → IsBegunGroup most i s (head_text s.desks ++ body)
  begun body had = over (λ lists body. IsBegunText (group_kind i.table lists) (IsGivenEntry most i.table lists) body) body had

  pub report_written : (old new : SinkState) (outcome : Outcome) → WritesReport (head_text s.desks) most i.table lists old new outcome → WritesDue (group_output most i s) old new outcome
  report_written old new (Ok wide) had =
      let accepted = accepted_of (group_kind i.table lists) had.2 in
      let whole = over (λ lists body. (entries : List Entry) × IsWholeText (group_kind i.table lists) (IsGivenEntry most i.table lists) body entries × IsAcceptedEntries (group_kind i.table lists) body accepted) had.1 (had.2, had.3, accepted_whole most i.table lists had.1 had.2 kind had.3) in
      (had.0, tt, head_text s.desks ++ had.1, (accepted, whole, had.4), had.5)
  report_written old new (Err (stops.At r)) had = absurd had
  report_written old new (Err stops.ReadFault) had = absurd had
  report_written old new (Err stops.WriteFault) had = (had.0, had.1, head_text s.desks ++ had.2, begun had.2 had.3, had.4)
  report_written old new (Err stops.Memory) had =
      let text = head_text s.desks ++ had.1 in
      inr (had.0, refl, text, length text, begun had.1 had.2, subst (Grew old.written new.written) (sym (take_all (length text) text (omega arith))) had.3)

  -- the same of a head, a width, a table and lists that are these
  pub report_same : (head : List ℕ) (at : ℕ) (t : DecisionTable) (told : List (List Statement)) → head ≡ head_text s.desks → at ≡ most → t ≡ i.table → told ≡ lists → (old new : SinkState) (outcome : Outcome) → WritesReport head at t told old new outcome → WritesDue (group_output most i s) old new outcome
  report_same head at t told is_head is_most is_table is_lists old new outcome had =
      let first = subst (λ (h : List ℕ). WritesReport h at t told old new outcome) is_head had in
      let second = subst (λ (n : ℕ). WritesReport (head_text s.desks) n t told old new outcome) is_most first in
      let third = subst (λ (u : DecisionTable). WritesReport (head_text s.desks) most u told old new outcome) is_table second in
      report_written old new outcome (subst (λ (ls : List (List Statement)). WritesReport (head_text s.desks) most i.table ls old new outcome) is_lists third)
