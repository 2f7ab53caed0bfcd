-- What was written of the first line and entries is the report, or how it begins.
use Rattle.std.proofs.Common.{◌≡◌, ℕ, Bool, List, [], ◌∷◌, ◌++◌, length, Option, Result, Ok, Err, refl, sym, ap, ◌∙◌, subst, inr, arith}
use Rattle.std.proofs.lemmas.List.{take_all}
use Rattle.ror_io.specs.Writing.{Grew}
use Rattle.ror_statement.specs.declared.statement.Statement.{Statement}
use Rattle.ror_table.specs.Table.{DecisionTable}
use Rattle.ror_value.specs.declared.input.Input.{Input}
use Rattle.ror_session.specs.declared.session.Session.{Session}
use Rattle.ror_closing.specs.Closing.{AreClosingLists}
use Rattle.ror_ranks_text.specs.declared.entry.Entry.{Entry}
use Rattle.ror_ranks_text.specs.declared.entry.EntryBody.{EntryBody}
use Rattle.ror_ranks_text.specs.declared.entry.EntryBody.TheVariants as bodies
use Rattle.ror_ranks_text.specs.Text.{header_text}
use Rattle.ror_entries.specs.declared.write.EntriesStop.{EntriesStop}
use Rattle.ror_entries.specs.declared.write.EntriesStop.TheVariants as entry_stops
use Rattle.ror_entries.specs.Kind.{IsKind}
use Rattle.ror_entries.specs.Reports.{accepted_of, IsAcceptedEntries}
use Rattle.ror_entries.specs.Writing.{IsWholeText, IsBegunText}
use Rattle.ror_entries.specs.Headed.{WritesHeaded}
use Rattle.ror_entries.proofs.WriteLemmas.{given_are_proved}
use Rattle.ror_entries.proofs.EachLemmas.{proved_is_accepted}
use Rattle.ror_frame.specs.declared.stop.Stop.TheVariants as stops
use Rattle.ror_frame.specs.States.{sink_state}
use Rattle.ror_frame.specs.Courses.{WritesDue}
use Rattle.ror_frame.specs.Inputs.{bench_for}
use Rattle.std.specs.List.{AllByRecursion}
use Rattle.ror_system.specs.System.{LinearSystem}
use Rattle.ror_check.specs.Proof.{base_system}
use Rattle.ror_ranks.specs.declared.extreme.Extreme.{Extreme}
use Rattle.ror_ranks.specs.Proof.{IsProvedExtreme}
use Rattle.ror_ranks.specs.Finding.{IsGivenExtreme}
use Rattle.ror_ranks_text.specs.Given.{IsGivenBody}
use Rattle.ror_ranks.proofs.GivenRanks.{given_said_proved}
use Rattle.ror_work_ranks.specs.Entries.{ranks_kind, IsProvedBody, IsGivenEntry, IsProvedEntry}
use Rattle.ror_work_ranks.specs.Steps.{RanksMaking}
use Rattle.ror_work_ranks.specs.Ranking.{kind_over, IsRanksReport, IsBegunRanks, ranks_output}

-- ---- given entries are proved

given_extremes_proved : (most : ℕ) (t : DecisionTable) (base : LinearSystem) (xs : List Extreme) → AllByRecursion (IsGivenExtreme most t base) xs → AllByRecursion (IsProvedExtreme t base) xs
given_extremes_proved most t base [] given = tt
given_extremes_proved most t base (x ∷ xs) given = (given_said_proved most t base x.side x.alternative x.said given.0, given_extremes_proved most t base xs given.1)

given_body_proved : (most : ℕ) (t : DecisionTable) (list : List Statement) (body : EntryBody) → IsGivenBody most t list body → IsProvedBody t list body
given_body_proved most t list (bodies.Ranks xs) given = record { due = given.due; each = given_extremes_proved most t (base_system t list) xs given.each }
given_body_proved most t list (bodies.Contradiction m) given = given.accepted
given_body_proved most t list (bodies.BaseWide note) given = tt

pub given_proved : (most : ℕ) (t : DecisionTable) (names : List (List ℕ)) (lists : List (List Statement)) (place : ℕ) (x : Entry) → IsGivenEntry most t names lists place x → IsProvedEntry t names lists place x
given_proved most t names lists place x given = record {
  list = given.list;
  name_there = given.name_there;
  list_there = given.list_there;
  holds = given_body_proved most t given.list x.body given.holds;
}

module _ (most : ℕ) (i : Input) (s : Session) (lists : List (List Statement)) (closing : AreClosingLists (bench_for i s) s.lines lists) (kind : IsKind (kind_over i s lists)) where
  accepted_whole : (body : List ℕ) (entries : List Entry) → IsWholeText (kind_over i s lists) (IsGivenEntry most i.table s.desks lists) body entries → IsAcceptedEntries (kind_over i s lists) body (accepted_of (kind_over i s lists) entries)
  accepted_whole body entries whole =
      proved_is_accepted (kind_over i s lists) kind body (accepted_of (kind_over i s lists) entries) (given_are_proved (kind_over i s lists) (IsGivenEntry most i.table s.desks lists) (given_proved most i.table s.desks lists) body entries whole)

  begun : (body : List ℕ) → IsBegunText (kind_over i s lists) (IsGivenEntry most i.table s.desks lists) body → IsBegunRanks most i s (header_text ++ body)
  begun body had = record { lists = lists; closing = closing; holds = (body, refl, had) }

  pub all_written : (x y : ℕ) (old new : Option (List ℕ)) (wide : Bool) → WritesHeaded header_text (kind_over i s lists) (IsGivenEntry most i.table s.desks lists) x y old new (Ok wide) → WritesDue (ranks_output most i s) (sink_state old x) (sink_state new y) (Ok wide)
  all_written x y old new wide had =
      let accepted = accepted_of (kind_over i s lists) had.2 in
      let report : IsRanksReport most i s (header_text ++ had.1) accepted = record { lists = lists; closing = closing; holds = (had.1, refl, (had.2, had.3, accepted_whole had.1 had.2 had.3)) } in
      (had.0, tt, header_text ++ had.1, (accepted, report, had.4), had.5)

  pub write_failed : (x y : ℕ) (old new : Option (List ℕ)) → WritesHeaded header_text (kind_over i s lists) (IsGivenEntry most i.table s.desks lists) x y old new (Err entry_stops.Write) → WritesDue (ranks_output most i s) (sink_state old x) (sink_state new y) (Err stops.WriteFault)
  write_failed x y old new had = (had.0, had.1, header_text ++ had.2, begun had.2 had.3, had.4)

  pub ran_out : (x y : ℕ) (old new : Option (List ℕ)) → WritesHeaded header_text (kind_over i s lists) (IsGivenEntry most i.table s.desks lists) x y old new (Err entry_stops.Memory) → WritesDue (ranks_output most i s) (sink_state old x) (sink_state new y) (Err stops.Memory)
  ran_out x y old new had =
      let text = header_text ++ had.1 in
      inr (had.0, refl, text, length text, begun had.1 had.2, subst (Grew old new) (sym (take_all (length text) text (omega arith))) had.3)

-- ---- what a maker goes by

pub same_making : (a b : RanksMaking) → a.table ≡ b.table → a.names ≡ b.names → a.lists ≡ b.lists → a.most ≡ b.most → a ≡ b
same_making a b table names lists most =
    ap (λ (t : DecisionTable). record { table = t; names = a.names; lists = a.lists; most = a.most }) table
    ∙ ap (λ (n : List (List ℕ)). record { table = b.table; names = n; lists = a.lists; most = a.most }) names
    ∙ ap (λ (l : List (List Statement)). record { table = b.table; names = b.names; lists = l; most = a.most }) lists
    ∙ ap (λ (m : ℕ). record { table = b.table; names = b.names; lists = b.lists; most = m }) most

-- what a maker wrote of a head, as one that goes by these
pub written_by : (head : List ℕ) (a b : RanksMaking) (x y : ℕ) (old new : Option (List ℕ)) (result : Result Bool EntriesStop) → a ≡ b → head ≡ header_text → WritesHeaded head (ranks_kind a.table a.names a.lists) (IsGivenEntry a.most a.table a.names a.lists) x y old new result → WritesHeaded header_text (ranks_kind b.table b.names b.lists) (IsGivenEntry b.most b.table b.names b.lists) x y old new result
written_by head a b x y old new result same is had =
    subst (λ (h : List ℕ). WritesHeaded h (ranks_kind b.table b.names b.lists) (IsGivenEntry b.most b.table b.names b.lists) x y old new result) is
    (subst (λ (m : RanksMaking). WritesHeaded head (ranks_kind m.table m.names m.lists) (IsGivenEntry m.most m.table m.names m.lists) x y old new result) same had)
