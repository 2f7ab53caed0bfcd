-- The head of a group's report ends where its entries, or its last line, begin.
use Rattle.std.proofs.Common.{◌+◌, ◌<◌, true, append_assoc, drop, arith, ◌≡◌, ℕ, false, not, eqb, List, [], ◌∷◌, ◌++◌, length, Ok, refl, sym, ap, ◌∙◌, subst}
use Rattle.std.specs.Prelude.{codes, decimal, ◌^◌}
use Rattle.std.specs.Str.{IsUtf8}
use Rattle.std.proofs.lemmas.Str.{IsUtf8-nil, IsUtf8-append}
use Rattle.std.specs.List.{AllByRecursion, flat_map}
use Rattle.ror_text.specs.Cursor.{Cursor, line_words}
use Rattle.ror_text.specs.Reading.{◌>>=◌, refuse}
use Rattle.ror_text.proofs.ReadingLemmas.{bind_ok}
use Rattle.ror_text.specs.SpacedLines.{line_text}
use Rattle.ror_statement.specs.declared.statement.Statement.{Statement}
use Rattle.ror_table.specs.Table.{DecisionTable, IsTable}
use Rattle.ror_proof.proofs.Utf8Lemmas.{ascii_is_utf8, line_text_is_utf8, decimal_is_utf8}
use Rattle.ror_report.specs.Text.{numbered_text, end_text}
use Rattle.ror_report.proofs.DeskLemmas.{dropped, desk_is_utf8}
use Rattle.ror_report.proofs.ReportLemmas.{end_reads_back}
use Rattle.ror_bench.specs.declared.report.Accepted.{Accepted}
use Rattle.ror_entries.specs.Kind.{IsKind}
use Rattle.ror_entries.specs.Reports.{entries_text, IsProvedEntries}
use Rattle.ror_entries.proofs.SpellingLemmas.{entries_are_utf8}
use Rattle.ror_group.specs.Text.{entry_text, IsPrintableEntry}
use Rattle.ror_group.proofs.EntryLemmas.{is_read_iff_text}
use Rattle.ror_work_group.specs.Entries.{group_kind}
use Rattle.ror_proof.specs.declared.read.ProofFault.TheVariants.{BadLine}
use Rattle.ror_proof.specs.Questions.{alternative_at}
use Rattle.ror_proof.specs.Words.{after_word, no_more, small_number_at}
use Rattle.ror_proof.proofs.WordLemmas.{after_word_sound, done}
use Rattle.ror_report.specs.Reading.{end_at, numbered_line, number_words}
use Rattle.ror_report.proofs.LineForms.{line_is_read}
use Rattle.ror_group.specs.declared.entry.Entry.{Entry}
use Rattle.ror_group.specs.Head.{head_text, header_text, desk_text, is_desk_name, begins_desk, IsHeadText}
use Rattle.ror_group.specs.Reading.{entry_at, entry_answers, pair_line, pair_words, quartet_line}

-- a line with another first word is no desk's
of_word : (words more : List (List ℕ)) (word : List ℕ) → words ≡ word ∷ more → begins_desk (word ∷ more) ≡ false → begins_desk words ≡ false
of_word words more word is other = ap begins_desk is ∙ other

pair_no_desk : (t : DecisionTable) (place : ℕ) (words : List (List ℕ)) (x : ℕ × ℕ) → pair_words t place words ≡ Ok x → begins_desk words ≡ false
unfolding pair_words
pair_no_desk t place words x e =
    let last = λ (m : ℕ) (second : ℕ × List (List ℕ)). no_more place second.1 >>= λ _. done (m, second.0) in
    let a = bind_ok (after_word place (codes "pair") words) (λ more. alternative_at t place more >>= λ first. alternative_at t place first.1 >>= λ second. last first.0 second) x e in
    of_word words a.0 (codes "pair") (after_word_sound place (codes "pair") words a.0 a.1) refl

end_words_no_desk : (place : ℕ) (words : List (List ℕ)) (n : ℕ) → number_words (codes "end") place words ≡ Ok n → begins_desk words ≡ false
unfolding number_words
end_words_no_desk place words n e =
    let a = bind_ok (after_word place (codes "end") words) (λ more. small_number_at place more >>= λ number. no_more place number.1 >>= λ _. done number.0) n e in
    of_word words a.0 (codes "end") (after_word_sound place (codes "end") words a.0 a.1) refl

-- where an entry is read no desk's line stands
pub entry_no_desk : (t : DecisionTable) (c : Cursor) (x : Entry) (after : Cursor) → entry_at t c ≡ Ok (x, after) → begins_desk (line_words c) ≡ false
unfolding entry_at
entry_no_desk t c x after e =
    let a = bind_ok (pair_line t c) (λ pair. entry_answers t (length pair.1.rest) pair.1 >>= λ answers. quartet_line answers.1 >>= λ quartet. done (record { first = pair.0.0; second = pair.0.1; answers = answers.0; quartet = quartet.0 }, quartet.1)) (x, after) e in
    pair_no_desk t c.place (line_words c) a.0.0 (line_is_read c (pair_words t c.place (line_words c)) a.0 a.1).0

-- nor where a last line is
pub end_no_desk : (c : Cursor) (n : ℕ) → end_at c ≡ Ok n → begins_desk (line_words c) ≡ false
unfolding end_at
end_no_desk c n e =
    let a = bind_ok (numbered_line (codes "end") c) (λ end. refuse (BadLine end.1.place) (not (eqb (length end.1.rest) 0)) >>= λ _. done end.0) n e in
    end_words_no_desk c.place (line_words c) a.0.0 (line_is_read c (number_words (codes "end") c.place (line_words c)) a.0 a.1).0

-- ---- what stands behind the head of a proved report

proved_entries_no_desk : (t : DecisionTable) (lists : List (List Statement)) (c : Cursor) (xs : List Entry) → IsTable t → length xs < 2 ^ 32 → AllByRecursion (IsPrintableEntry t) xs → c.rest ≡ entries_text (group_kind t lists) xs → begins_desk (line_words c) ≡ false
proved_entries_no_desk t lists c [] table few printable text =
    end_no_desk c 0 (ap (λ (r : List ℕ). end_at (record { place = c.place; rest = r })) text ∙ end_reads_back c.place 0 few)
proved_entries_no_desk t lists c (x ∷ xs) table few printable text =
    let rest = flat_map (entry_text t) xs ++ end_text (length (x ∷ xs)) in
    let after : Cursor = record { place = c.place + length (entry_text t x); rest = rest } in
    entry_no_desk t c x after ((is_read_iff_text t c x after table).1 (record { text = text ∙ append_assoc (entry_text t x) (flat_map (entry_text t) xs) (end_text (length (x ∷ xs))); place = refl; printable = printable.0 }))

pub proved_no_desk : (t : DecisionTable) (lists : List (List Statement)) (c : Cursor) (x : Accepted) → IsKind (group_kind t lists) → IsTable t → IsProvedEntries (group_kind t lists) c.rest x → begins_desk (line_words c) ≡ false
proved_no_desk t lists c x kind table proved =
    let due = proved.all_due in
    let few = kind.few in
    proved_entries_no_desk t lists c proved.entries table (omega (arith, due, few)) proved.printable proved.text

-- ---- the bytes are UTF-8

desks_are_utf8 : (names : List (List ℕ)) → AllByRecursion (λ name. is_desk_name name ≡ true) names → IsUtf8 (flat_map desk_text names)
desks_are_utf8 [] all = IsUtf8-nil
desks_are_utf8 (name ∷ names) all = IsUtf8-append (desk_text name) (flat_map desk_text names) (desk_is_utf8 name all.0) (desks_are_utf8 names all.1)

head_is_utf8 : (names : List (List ℕ)) → length names < 2 ^ 32 → AllByRecursion (λ name. is_desk_name name ≡ true) names → IsUtf8 (head_text names)
unfolding head_text header_text
head_is_utf8 names few all =
    IsUtf8-append (line_text (codes "ror-group" ∷ codes "1" ∷ [])) (numbered_text (codes "desks") (length names) ++ flat_map desk_text names)
    (line_text_is_utf8 (codes "ror-group" ∷ codes "1" ∷ []) (ascii_is_utf8 (codes "ror-group") refl, (ascii_is_utf8 (codes "1") refl, tt)))
    (IsUtf8-append (numbered_text (codes "desks") (length names)) (flat_map desk_text names)
    (line_text_is_utf8 (codes "desks" ∷ decimal (length names) ∷ []) (ascii_is_utf8 (codes "desks") refl, (decimal_is_utf8 (length names) (omega (arith, few)), tt)))
    (desks_are_utf8 names all))

pub proved_utf8 : (t : DecisionTable) (lists : List (List Statement)) (names : List (List ℕ)) (bytes : List ℕ) (after : Cursor) (x : Accepted) → IsKind (group_kind t lists) → IsHeadText names bytes after → IsProvedEntries (group_kind t lists) after.rest x → IsUtf8 bytes
proved_utf8 t lists names bytes after x kind head proved =
    let due = proved.all_due in
    let few = kind.few in
    let body = subst IsUtf8 (sym proved.text) (entries_are_utf8 (group_kind t lists) kind proved.entries proved.printable (omega (arith, due, few))) in
    subst IsUtf8 (sym head.text) (IsUtf8-append (head_text names) after.rest (head_is_utf8 names head.few head.allowed) body)

-- ---- one end of the head

pub behind_head : (names : List (List ℕ)) (bytes : List ℕ) (after : Cursor) → IsHeadText names bytes after → drop after.place bytes ≡ after.rest
behind_head names bytes after head =
    ap (λ (n : ℕ). drop n bytes) head.place ∙ ap (drop (length (head_text names))) head.text ∙ dropped (head_text names) after.rest

pub one_head : (names : List (List ℕ)) (bytes : List ℕ) (one other : Cursor) → IsHeadText names bytes one → IsHeadText names bytes other → one ≡ other
one_head names bytes one other a b =
    let place : one.place ≡ other.place = a.place ∙ sym b.place in
    let rest : one.rest ≡ other.rest = sym (behind_head names bytes one a) ∙ ap (λ (n : ℕ). drop n bytes) place ∙ behind_head names bytes other b in
    ap (λ (n : ℕ). record { place = n; rest = one.rest }) place ∙ ap (λ (r : List ℕ). record { place = other.place; rest = r }) rest
