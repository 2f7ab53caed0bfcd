-- What the files of both commands lead to is one thing.
use Rattle.std.proofs.Common.{◌≡◌, ℕ, List, length, refl, sym, ap, ◌∙◌, subst, arith}
use Rattle.ror_text.specs.Cursor.{Cursor}
use Rattle.ror_statement.specs.declared.statement.Statement.{Statement}
use Rattle.ror_table.specs.Table.{IsTable}
use Rattle.ror_value.specs.declared.input.Input.{Input}
use Rattle.ror_value.specs.Over.{IsLawfulIn}
use Rattle.ror_xmcda.proofs.TableLemmas.{input_table}
use Rattle.ror_xmcda.proofs.InputLemmas.{input_lawful}
use Rattle.ror_session.specs.declared.session.Session.{Session}
use Rattle.ror_pivot.specs.declared.note.Bits.{Bits}
use Rattle.ror_pivot.specs.Answers.{most_of}
use Rattle.ror_bench.specs.declared.report.Accepted.{Accepted}
use Rattle.ror_bench.specs.declared.report.Rejection.{Rejection}
use Rattle.ror_closing.specs.Closing.{AreClosingLists, AreSuited, IsFirstUnsuited}
use Rattle.ror_closing.proofs.LawLemmas.{one_closing, one_first_unsuited}
use Rattle.ror_closing.proofs.LawfulLists.{lawful_lists, suited_or}
use Rattle.ror_words.specs.Words.{InputNames}
use Rattle.ror_frame.specs.declared.stop.Refusal.{Refusal}
use Rattle.ror_frame.specs.declared.stop.Refusal.TheVariants as refusals
use Rattle.ror_frame.specs.Courses.{finish}
use Rattle.ror_frame.specs.Inputs.{bench_for, over_report}
use Rattle.ror_frame.proofs.CourseLemmas.{IsDecided}
use Rattle.ror_frame.proofs.InputLemmas.{decided_suited}
use Rattle.ror_frame.proofs.Desks.{lawful_desks}
use Rattle.ror_entries.specs.Kind.{IsKind}
use Rattle.ror_entries.specs.Reports.{AreProvedEntries, IsProvedEntries, IsRejectedEntries}
use Rattle.ror_entries.proofs.KeepLemmas.{one_kept}
use Rattle.ror_entries.proofs.SpellingLemmas.{one_count, one_rejection}
use Rattle.ror_entries.proofs.RestLemmas.{rejected_not_proved}
use Rattle.ror_group.specs.declared.entry.Entry.{Entry}
use Rattle.ror_group.specs.declared.head.HeadFault.{HeadFault}
use Rattle.ror_group.specs.Head.{IsHeadText}
use Rattle.ror_work_group.specs.Entries.{group_kind}
use Rattle.ror_work_group.specs.Group.{ProvesGroup, KeepsGroup, IsGroupRejection, too_long, not_utf8, in_head, in_entries, head_reason, RefusesGroup, group_output, group_chore, proved_output, check_group_chore}
use Rattle.ror_work_group.proofs.KindLemmas.{are_kind, one_reason}
use Rattle.ror_group.proofs.HeadLemmas.{whole_again, whole_is_text}
use Rattle.ror_work_group.proofs.HeadLemmas.{proved_no_desk, proved_utf8, behind_head, one_head}

module _ (i : Input) (s : Session) (table : IsTable i.table) (lawful : IsLawfulIn i.table i.opening) where
  pub kind_of_lists : (lists : List (List Statement)) → AreClosingLists (bench_for i s) s.lines lists → IsKind (group_kind i.table lists)
  kind_of_lists lists closing = are_kind i.table lists table (lawful_lists (bench_for i s) s.lines lists (lawful_desks i (length s.desks) lawful) closing)

  module _ (suited : AreSuited s.lines) (bytes : List ℕ) where
    pub one_lists : (xs ys : List (List Statement)) → AreClosingLists (bench_for i s) s.lines xs → AreClosingLists (bench_for i s) s.lines ys → xs ≡ ys
    one_lists xs ys first second = one_closing (bench_for i s) (bench_for i s) s.lines xs ys (refl, refl) suited first second

    -- two of what stands behind the head are over the same lists, and the same bytes
    behind : (P : List (List Statement) → List ℕ → Type 0) (a b : Cursor) (xs ys : List (List Statement)) → IsHeadText s.desks bytes a → IsHeadText s.desks bytes b → AreClosingLists (bench_for i s) s.lines xs → AreClosingLists (bench_for i s) s.lines ys → P ys b.rest → P xs a.rest
    behind P a b xs ys head other first second had =
        let lists = one_lists ys xs second first in
        let place = one_head s.desks bytes b a other head in
        subst (λ (c : Cursor). P xs c.rest) place (subst (λ (l : List (List Statement)). P l b.rest) lists had)

    proved_once : (x y : Accepted) → ProvesGroup i s bytes x → ProvesGroup i s bytes y → x ≡ y
    proved_once x y p q =
        let a = p.1 in
        let b = q.1 in
        let same = behind (λ lists body. IsProvedEntries (group_kind i.table lists) body y) a.after b.after a.lists b.lists a.head b.head a.closing b.closing b.body in
        one_count (group_kind i.table a.lists) (kind_of_lists a.lists a.closing) a.after.rest x y a.body same

    pub kept_once : (xs ys : List Entry) → KeepsGroup i s bytes xs → KeepsGroup i s bytes ys → xs ≡ ys
    kept_once xs ys p q =
        let a = p.1 in
        let b = q.1 in
        let same = behind (λ lists body. AreProvedEntries (group_kind i.table lists) body ys) a.after b.after a.lists b.lists a.head b.head a.closing b.closing b.body in
        one_kept (group_kind i.table a.lists) (kind_of_lists a.lists a.closing) a.after.rest xs ys a.body same

    -- what is rejected is not proved
    pub not_both : (r : Rejection) (x : Accepted) → IsGroupRejection i s bytes r → ProvesGroup i s bytes x → ⊥
    not_both r x (too_long many is) p = let few = p.0 in omega (arith, many, few)
    not_both r x (not_utf8 few bad is) p =
        let a = p.1 in
        bad (proved_utf8 i.table a.lists s.desks bytes a.after x (kind_of_lists a.lists a.closing) a.head a.body)
    not_both r x (in_head few utf8 fault read is) p =
        let a = p.1 in
        let none = proved_no_desk i.table a.lists a.after x (kind_of_lists a.lists a.closing) table a.body in
        let there = whole_again s.desks bytes a.after a.head none in
        cc
    not_both r x (in_entries few utf8 after read lists closing rejects) p =
        let a = p.1 in
        let head = (whole_is_text s.desks bytes after read).0 in
        let same = behind (λ lists body. IsProvedEntries (group_kind i.table lists) body x) after a.after lists a.lists head a.head closing a.closing a.body in
        rejected_not_proved (group_kind i.table lists) (kind_of_lists lists closing) bytes after.place r x rejects (subst (λ (l : List ℕ). IsProvedEntries (group_kind i.table lists) l x) (sym (behind_head s.desks bytes after head)) same)

    -- bytes are rejected for one thing
    rejected_once : (q r : Rejection) → IsGroupRejection i s bytes q → IsGroupRejection i s bytes r → q ≡ r
    rejected_once q r (too_long many is) (too_long more and) = is ∙ sym and
    rejected_once q r (too_long many is) (not_utf8 few bad and) = absurd (omega (arith, many, few))
    rejected_once q r (too_long many is) (in_head few utf8 fault read and) = absurd (omega (arith, many, few))
    rejected_once q r (too_long many is) (in_entries few utf8 after read lists closing rejects) = absurd (omega (arith, many, few))
    rejected_once q r (not_utf8 few bad is) (too_long many and) = absurd (omega (arith, many, few))
    rejected_once q r (not_utf8 few bad is) (not_utf8 less worse and) = is ∙ sym and
    rejected_once q r (not_utf8 few bad is) (in_head less utf8 fault read and) = absurd (bad utf8)
    rejected_once q r (not_utf8 few bad is) (in_entries less utf8 after read lists closing rejects) = absurd (bad utf8)
    rejected_once q r (in_head few utf8 fault read is) (too_long many and) = absurd (omega (arith, many, few))
    rejected_once q r (in_head few utf8 fault read is) (not_utf8 less bad and) = absurd (bad utf8)
    rejected_once q r (in_head few utf8 fault read is) (in_head less text other again and) = let same : fault ≡ other = cc in is ∙ ap (λ (f : HeadFault). record { block = 0; reason = head_reason bytes f }) same ∙ sym and
    rejected_once q r (in_head few utf8 fault read is) (in_entries less text after again lists closing rejects) = absurd cc
    rejected_once q r (in_entries few utf8 after read lists closing rejects) (too_long many and) = absurd (omega (arith, many, few))
    rejected_once q r (in_entries few utf8 after read lists closing rejects) (not_utf8 less bad and) = absurd (bad utf8)
    rejected_once q r (in_entries few utf8 after read lists closing rejects) (in_head less text fault again and) = absurd cc
    rejected_once q r (in_entries few utf8 after read xs first rejects) (in_entries less text other again ys second fails) =
        let place : other ≡ after = cc in
        let here = subst (λ (c : Cursor). IsRejectedEntries (group_kind i.table ys) bytes c.place r) place fails in
        let same = subst (λ (l : List (List Statement)). IsRejectedEntries (group_kind i.table l) bytes after.place r) (one_lists ys xs second first) here in
        one_rejection (group_kind i.table xs) (kind_of_lists xs first) (one_reason i.table xs) bytes after.place q r rejects same

    pub refused_once : (q r : Refusal) → RefusesGroup i s bytes q → RefusesGroup i s bytes r → q ≡ r
    refused_once q r a b = a.1 ∙ ap refusals.Rejected (rejected_once a.0 b.0 a.2 b.2) ∙ sym b.1

-- ---- the two commands

pub decided_group : (names : InputNames) (bits : Bits) → IsDecided (group_chore names bits).course
decided_group names bits = decided_suited IsFirstUnsuited names (λ i s. finish (group_output (most_of bits) i s)) one_first_unsuited.one (λ table i session s read other. tt)

pub decided_check_group : (names : InputNames) (report : List ℕ) → IsDecided (check_group_chore names report).course
decided_check_group names report =
    decided_suited IsFirstUnsuited names (λ i s. over_report report (ProvesGroup i s) (IsGroupRejection i s) (proved_output i s)) one_first_unsuited.one (λ table i session s read other bytes.
    let is_table = input_table table names.best_first i read in
    let lawful = input_lawful table names.best_first i read in
    let suited = suited_or s.lines other.1 in
    ((λ x y p q. proved_once i s is_table lawful suited bytes x y p q), (λ q r a b. refused_once i s is_table lawful suited bytes q r a b), (λ x r p a. not_both i s is_table lawful suited bytes a.0 x a.2 p), λ x p. tt))
