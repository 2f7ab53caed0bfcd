-- Entries as texts, both ways: what was written is read again, and what is read was so written.
use Rattle.std.proofs.Common.{◌≡◌, ℕ, ◌+◌, true, List, [], ◌∷◌, ◌++◌, length, drop, Option, Some, None, Result, Ok, refl, sym, ap, subst, ◌∙◌, append-nil}
use Rattle.std.specs.Prelude.{◌↔◌, codes, decimal}
use Rattle.std.specs.List.{flat_map}
use Rattle.ror_text.specs.Cursor.{Cursor, line_words}
use Rattle.ror_text.specs.Reading.{◌>>=◌}
use Rattle.ror_text.specs.SpacedLines.{are_words, line_text}
use Rattle.ror_text.proofs.CursorLemmas.{Spans, spans_then, line_again, line_spans}
use Rattle.ror_text.proofs.ReadingLemmas.{bind_ok}
use Rattle.ror_table.specs.Table.{DecisionTable, IsTable}
use Rattle.ror_proof.specs.declared.read.ProofFault.{ProofFault}
use Rattle.ror_proof.specs.Reading.{ended}
use Rattle.ror_proof.specs.Text.{multipliers_words}
use Rattle.ror_proof.proofs.AnswerLemmas.{ended_again, ended_sound}
use Rattle.ror_proof.proofs.WordLemmas.{done, ok_is}
use Rattle.ror_report.specs.Desk.{desk_text, desk_line}
use Rattle.ror_report.proofs.DeskLemmas.{desk_again}
use Rattle.ror_discriminate.specs.Text.{IsSmall}
use Rattle.ror_discriminate.proofs.HeadLemmas.{desk_sound, desk_spans}
use Rattle.ror_ranks.specs.declared.extreme.Extreme.{Extreme}
use Rattle.ror_ranks_text.specs.declared.entry.Entry.{Entry}
use Rattle.ror_ranks_text.specs.declared.entry.EntryBody.{EntryBody}
use Rattle.ror_ranks_text.specs.declared.entry.EntryBody.TheVariants as bodies
use Rattle.ror_ranks_text.specs.declared.names.BodyForm.{BodyForm}
use Rattle.ror_ranks_text.specs.declared.names.BodyForm.TheVariants as forms
use Rattle.ror_ranks_text.specs.Reading.{so_many, extreme_at, ranks_line, ranks_at, contradiction_words, wide_words, form_of, formed_at, body_at, entry_at}
use Rattle.ror_ranks_text.specs.Text.{extreme_text, body_text, entry_text, IsPrintableExtreme, IsPrintableBody, IsPrintableEntry}
use Rattle.ror_ranks_text.specs.EntryLaws.{IsEntryText}
use Rattle.ror_ranks_text.proofs.RankLines.{count_text, count_are_words, count_again, count_sound, spelt_note, contradiction_again, contradiction_are_words, contradiction_sound, wide_again, wide_are_words, wide_sound}
use Rattle.ror_ranks_text.proofs.RankTexts.{at, by_spans, between, spans_front, spans_back, many_again, many_sound, extreme_again, extreme_sound}

-- ---- what was written is read again

-- the words of the first line of what stands at a cursor
first_words : (c after : Cursor) (word : List ℕ) (words : List (List ℕ)) (more : List ℕ) → are_words (word ∷ words) ≡ true → Spans c (line_text (word ∷ words) ++ more) after → line_words c ≡ word ∷ words
first_words c after word words more are s =
    let front = spans_front c after (line_text (word ∷ words)) more s in
    ap (λ (r : List ℕ). line_words (at c.place r)) front.rest ∙ (line_again c.place word words (more ++ after.rest) are).0

body_step : (t : DecisionTable) (c : Cursor) (form : BodyForm) (x : EntryBody × Cursor) → form_of (line_words c) ≡ Some form → formed_at t (Some form) c ≡ Ok x → body_at t c ≡ Ok x
unfolding body_at
body_step t c form x is read = ap (λ (f : Option BodyForm). formed_at t f c) is ∙ read

ranks_step : (t : DecisionTable) (c d after : Cursor) (xs : List Extreme) → ranks_line c ≡ Ok (length xs, d) → so_many (extreme_at t) (length xs) d ≡ Ok (xs, after) → ranks_at t c ≡ Ok (bodies.Ranks xs, after)
unfolding ranks_at
ranks_step t c d after xs count extremes = rw (count, extremes) refl

ranks_again : (t : DecisionTable) → IsTable t → (xs : List Extreme) → IsPrintableBody t (bodies.Ranks xs) → (c after : Cursor) → Spans c (body_text t (bodies.Ranks xs)) after → body_at t c ≡ Ok (bodies.Ranks xs, after)
ranks_again t table xs may c after s =
    let front = count_text (length xs) in
    let back = flat_map (extreme_text t) xs in
    let d = between c front back after in
    let form : form_of (line_words c) ≡ Some forms.Ranks = ap form_of (first_words c after (codes "ranks") (decimal (length xs) ∷ []) back (count_are_words (length xs) may.0) s) in
    body_step t c forms.Ranks (bodies.Ranks xs, after) form
    (ranks_step t c d after xs
    (by_spans ranks_line front (length xs) (λ place rest. count_again place (length xs) rest may.0) c d (spans_front c after front back s))
    (many_again (extreme_at t) (extreme_text t) (IsPrintableExtreme t) (extreme_again t table) xs may.1 d after (spans_back c after front back s)))

-- a body of one line
line_body_again : (t : DecisionTable) (form : BodyForm) (read : ℕ → List (List ℕ) → Result EntryBody ProofFault) (word : List ℕ) (words : List (List ℕ)) (body : EntryBody)
    → are_words (word ∷ words) ≡ true → ((place : ℕ) → read place (word ∷ words) ≡ Ok body) → form_of (word ∷ words) ≡ Some form
    → ((c : Cursor) → formed_at t (Some form) c ≡ ended c (read c.place (line_words c)))
    → (c after : Cursor) → Spans c (line_text (word ∷ words)) after → body_at t c ≡ Ok (body, after)
line_body_again t form read word words body are again named formed c after s =
    let whole : Spans c (line_text (word ∷ words) ++ []) after = subst (λ (text : List ℕ). Spans c text after) (sym (append-nil (line_text (word ∷ words)))) s in
    let has : form_of (line_words c) ≡ Some form = ap form_of (first_words c after word words [] are whole) ∙ named in
    body_step t c form (body, after) has
    (formed c ∙ by_spans (λ d. ended d (read d.place (line_words d))) (line_text (word ∷ words)) body (λ place rest. ended_again read place word words rest body are (again place)) c after s)

body_again : (t : DecisionTable) → IsTable t → (body : EntryBody) → IsPrintableBody t body → (c after : Cursor) → Spans c (body_text t body) after → body_at t c ≡ Ok (body, after)
body_again t table (bodies.Ranks xs) may c after s = ranks_again t table xs may c after s
body_again t table (bodies.Contradiction m) may c after s =
    line_body_again t forms.Contradiction contradiction_words (codes "contradiction") (multipliers_words m.weak m.strict) (bodies.Contradiction m) (contradiction_are_words m may) (λ place. contradiction_again place m may) refl (λ d. refl) c after s
body_again t table (bodies.BaseWide note) may c after s =
    line_body_again t forms.Wide wide_words (codes "wide") (codes "base" ∷ spelt_note note) (bodies.BaseWide note) (wide_are_words note may) (λ place. wide_again place note may) refl (λ d. refl) c after s

pub entry_step : (t : DecisionTable) (c d after : Cursor) (x : Entry) → desk_line c ≡ Ok (x.desk, d) → body_at t d ≡ Ok (x.body, after) → entry_at t c ≡ Ok (x, after)
unfolding entry_at
entry_step t c d after x desk body = rw (desk, body) refl

entry_again : (t : DecisionTable) → IsTable t → (x : Entry) → IsPrintableEntry t x → (c after : Cursor) → Spans c (entry_text t x) after → entry_at t c ≡ Ok (x, after)
unfolding entry_text
entry_again t table x may c after s =
    let front = desk_text x.desk in
    let back = body_text t x.body in
    let d = between c front back after in
    entry_step t c d after x
    (by_spans desk_line front x.desk (λ place rest. desk_again place x.desk rest may.named) c d (spans_front c after front back s))
    (body_again t table x.body may.body d after (spans_back c after front back s))

-- ---- what is read was so written

record IsBodyText (t : DecisionTable) (c : Cursor) (x : EntryBody × Cursor) : Type 0 where
  pub spans : Spans c (body_text t x.0) x.1
  pub printable : IsPrintableBody t x.0

ranks_sound : (t : DecisionTable) (c : Cursor) (x : EntryBody × Cursor) → ranks_at t c ≡ Ok x → IsBodyText t c x
unfolding ranks_at
ranks_sound t c x e =
    let made = λ (extremes : List Extreme × Cursor). done (bodies.Ranks extremes.0, extremes.1) in
    let a = bind_ok (ranks_line c) (λ count. so_many (extreme_at t) count.0 count.1 >>= λ extremes. made extremes) x e in
    let b = bind_ok (so_many (extreme_at t) a.0.0 a.0.1) (λ extremes. made extremes) x a.2 in
    let count = count_sound c a.0 a.1 in
    let extremes = many_sound (extreme_at t) (extreme_text t) (IsPrintableExtreme t) (extreme_sound t) a.0.0 a.0.1 b.0 b.1 in
    let number = extremes.number in
    let first : Spans c (count_text (length b.0.0)) a.0.1 = subst (λ (n : ℕ). Spans c (count_text n) a.0.1) (sym number) count.0 in
    let small : IsSmall (length b.0.0) = subst IsSmall (sym number) count.1 in
    subst (IsBodyText t c) (ok_is (bodies.Ranks b.0.0, b.0.1) x b.2) (record {
      spans = spans_then c a.0.1 b.0.1 (count_text (length b.0.0)) (flat_map (extreme_text t) b.0.0) first extremes.spans;
      printable = (small, extremes.each);
    })

contradiction_text_sound : (t : DecisionTable) (c : Cursor) (x : EntryBody × Cursor) → ended c (contradiction_words c.place (line_words c)) ≡ Ok x → IsBodyText t c x
contradiction_text_sound t c x e =
    let read = ended_sound c (contradiction_words c.place (line_words c)) x e in
    let said = contradiction_sound c.place (line_words c) x.0 read.words in
    let spans = line_spans c x.1 (codes "contradiction" ∷ multipliers_words said.0.weak said.0.strict) said.1 read.line in
    subst (λ (body : EntryBody). IsBodyText t c (body, x.1)) said.3 (record { spans = spans; printable = said.2 })

wide_text_sound : (t : DecisionTable) (c : Cursor) (x : EntryBody × Cursor) → ended c (wide_words c.place (line_words c)) ≡ Ok x → IsBodyText t c x
wide_text_sound t c x e =
    let read = ended_sound c (wide_words c.place (line_words c)) x e in
    let said = wide_sound c.place (line_words c) x.0 read.words in
    let spans = line_spans c x.1 (codes "wide" ∷ codes "base" ∷ spelt_note said.0) said.1 read.line in
    subst (λ (body : EntryBody). IsBodyText t c (body, x.1)) said.3 (record { spans = spans; printable = said.2 })

formed_sound : (t : DecisionTable) (form : Option BodyForm) (c : Cursor) (x : EntryBody × Cursor) → formed_at t form c ≡ Ok x → IsBodyText t c x
formed_sound t None c x e = absurd cc
formed_sound t (Some forms.Ranks) c x e = ranks_sound t c x e
formed_sound t (Some forms.Contradiction) c x e = contradiction_text_sound t c x e
formed_sound t (Some forms.Wide) c x e = wide_text_sound t c x e

body_sound : (t : DecisionTable) (c : Cursor) (x : EntryBody × Cursor) → body_at t c ≡ Ok x → IsBodyText t c x
unfolding body_at
body_sound t c x e = formed_sound t (form_of (line_words c)) c x e

abbrev entry_made : List ℕ → EntryBody → Entry
entry_made desk body = record { desk = desk; body = body }

pub entry_is_text : (t : DecisionTable) (c : Cursor) (x : Entry) (after : Cursor) → entry_at t c ≡ Ok (x, after) → IsEntryText t c x after
unfolding entry_at entry_text
entry_is_text t c x after e =
    let made = λ (desk : List ℕ) (body : EntryBody × Cursor). done (entry_made desk body.0, body.1) in
    let a = bind_ok (desk_line c) (λ desk. body_at t desk.1 >>= λ body. made desk.0 body) (x, after) e in
    let b = bind_ok (body_at t a.0.1) (λ body. made a.0.0 body) (x, after) a.2 in
    let desk = desk_sound c a.0 a.1 in
    let body = body_sound t a.0.1 b.0 b.1 in
    let spans = spans_then c a.0.1 b.0.1 (desk_text a.0.0) (body_text t b.0.0) (desk_spans c a.0.0 a.0.1 desk) body.spans in
    subst (λ (y : Entry × Cursor). IsEntryText t c y.0 y.1) {x = (entry_made a.0.0 b.0.0, b.0.1)} (ok_is (entry_made a.0.0 b.0.0, b.0.1) (x, after) b.2) (record {
      text = spans.rest;
      place = spans.place;
      printable = record { named = desk.named; body = body.printable };
    })

-- ---- the two directions as one

pub is_read_iff_text : (t : DecisionTable) (c : Cursor) (x : Entry) (after : Cursor) → IsTable t → (entry_at t c ≡ Ok (x, after)) ↔ IsEntryText t c x after
is_read_iff_text t c x after table = (
  entry_is_text t c x after,
  λ is. entry_again t table x is.printable c after (record { rest = is.text; place = is.place }),
)

pub entry_reads_back : (t : DecisionTable) (x : Entry) (place : ℕ) (rest : List ℕ) → IsTable t → IsPrintableEntry t x → entry_at t (at place (entry_text t x ++ rest)) ≡ Ok (x, at (place + length (entry_text t x)) rest)
entry_reads_back t x place rest table printable = entry_again t table x printable (at place (entry_text t x ++ rest)) (at (place + length (entry_text t x)) rest) (record { rest = refl; place = refl })

pub one_text : (t : DecisionTable) (x y : Entry) (more rest : List ℕ) → IsTable t → IsPrintableEntry t x → IsPrintableEntry t y → entry_text t x ++ more ≡ entry_text t y ++ rest → x ≡ y
one_text t x y more rest table px py same =
    let read = ok_is _ _ (sym (entry_reads_back t x 0 more table px) ∙ ap (λ (r : List ℕ). entry_at t (at 0 r)) same ∙ entry_reads_back t y 0 rest table py) in
    ap (λ (r : Entry × Cursor). r.0) read

-- ---- how an entry begins

desk_begins : (name : List ℕ) → (more : List ℕ) × (desk_text name ≡ codes "desk" ++ more)
unfolding line_text
desk_begins [] = (drop 4 (desk_text []), refl)
desk_begins (b ∷ bs) = (drop 4 (desk_text (b ∷ bs)), refl)

pub entry_begins : (t : DecisionTable) (x : Entry) → (more : List ℕ) × (entry_text t x ≡ codes "desk" ++ more)
unfolding entry_text
entry_begins t x =
    let desk = desk_begins x.desk in
    (desk.0 ++ body_text t x.body, ap (λ (l : List ℕ). l ++ body_text t x.body) desk.1)
