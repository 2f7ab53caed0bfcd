-- Entries as texts, both ways: what was written is read again, and what is read was so written.
use Rattle.std.proofs.Common.{◌≡◌, ℕ, ◌+◌, List, [], ◌∷◌, ◌++◌, length, drop, Option, Some, None, Result, Ok, refl, sym, ap, subst, ◌∙◌, append_assoc, arith, length-append, ℤ}
use Rattle.std.specs.Prelude.{◌↔◌, codes}
use Rattle.ror_text.specs.Cursor.{Cursor, line_words}
use Rattle.ror_text.specs.Reading.{◌>>=◌}
use Rattle.ror_text.specs.SpacedLines.{line_text}
use Rattle.ror_text.proofs.CursorLemmas.{Spans, spans_then, line_again, line_spans}
use Rattle.ror_text.proofs.ReadingLemmas.{bind_ok}
use Rattle.ror_system.specs.declared.accept.Multipliers.{Multipliers}
use Rattle.ror_system.specs.declared.accept.Solution.{Solution}
use Rattle.ror_pivot.specs.declared.optimum.Optimum.{Optimum}
use Rattle.ror_proof.specs.declared.read.ProofFault.{ProofFault}
use Rattle.ror_proof.specs.Reading.{ended}
use Rattle.ror_proof.specs.Text.{solution_words, multipliers_words}
use Rattle.ror_proof.proofs.AnswerLemmas.{ended_again, ended_sound}
use Rattle.ror_proof.proofs.WordLemmas.{ok_is}
use Rattle.ror_report.specs.Desk.{desk_text, desk_line}
use Rattle.ror_report.proofs.DeskLemmas.{desk_again}
use Rattle.ror_discriminate.specs.declared.entry.Entry.{Entry}
use Rattle.ror_discriminate.specs.declared.entry.EntryBody.{EntryBody}
use Rattle.ror_discriminate.specs.declared.entry.EntryBody.TheVariants as bodies
use Rattle.ror_discriminate.specs.declared.names.BodyForm.{BodyForm}
use Rattle.ror_discriminate.specs.declared.names.BodyForm.TheVariants as forms
use Rattle.ror_discriminate.specs.Reading.{margin_line, solution_line, multipliers_line, none_words, contradiction_words, wide_words, best_at, form_of, formed_at, body_at, entry_at}
use Rattle.ror_discriminate.specs.Text.{margin_text, best_text, body_text, entry_text, IsPrintableBody, IsPrintableEntry}
use Rattle.ror_discriminate.specs.EntryLaws.{IsEntryText}
use Rattle.ror_discriminate.proofs.HeadLemmas.{desk_sound, desk_spans}
use Rattle.ror_discriminate.proofs.EntryLines.{margin_are_words, margin_again, margin_sound, solution_again, solution_sound, multipliers_again, multipliers_sound, IsOneLine, none_line, contradiction_line, base_line, climb_line, none_sound, contradiction_sound, wide_sound, IsReadBody}

-- ---- what was written is read again

abbrev at : ℕ → List ℕ → Cursor
at place rest = record { place = place; rest = rest }

best_step : (c d e after : Cursor) (m t : ℤ) (x : Optimum) → margin_line c ≡ Ok ((m, t), d) → solution_line d ≡ Ok (x.solution, e) → multipliers_line e ≡ Ok (x.multipliers, after) → best_at c ≡ Ok (bodies.Best m t x, after)
unfolding best_at
best_step c d e after m t x margin solution multipliers = rw (margin, solution, multipliers) refl

body_step : (c : Cursor) (form : BodyForm) (x : EntryBody × Cursor) → form_of (line_words c) ≡ Some form → formed_at (Some form) c ≡ Ok x → body_at c ≡ Ok x
unfolding body_at
body_step c form x is read = ap (λ (f : Option BodyForm). formed_at f c) is ∙ read

best_again : (place : ℕ) (m t : ℤ) (x : Optimum) (rest : List ℕ) → IsPrintableBody (bodies.Best m t x) → body_at (at place (best_text m t x ++ rest)) ≡ Ok (bodies.Best m t x, at (place + length (best_text m t x)) rest)
best_again place m t x rest printable =
    let front = margin_text m t in
    let middle = line_text (solution_words x.solution.steps) in
    let back = line_text (multipliers_words x.multipliers.weak x.multipliers.strict) in
    let regrouped : (front ++ (middle ++ back)) ++ rest ≡ front ++ (middle ++ (back ++ rest)) = append_assoc front (middle ++ back) rest ∙ ap (λ (l : List ℕ). front ++ l) (append_assoc middle back rest) in
    let to : place + length front + length middle + length back ≡ place + length (front ++ (middle ++ back)) = omega (arith, length-append front (middle ++ back), length-append middle back) in
    let margin = margin_again place m t (middle ++ (back ++ rest)) printable.0 printable.1 in
    let solution = solution_again (place + length front) x.solution (back ++ rest) printable.2.0 in
    let multipliers = multipliers_again (place + length front + length middle) x.multipliers rest printable.2.1 in
    let line = line_again place (codes "margin") _ (middle ++ (back ++ rest)) (margin_are_words m t printable.0 printable.1) in
    let form : form_of (line_words (at place (front ++ (middle ++ (back ++ rest))))) ≡ Some forms.Best = ap form_of line.0 in
    ap (λ (r : List ℕ). body_at (at place r)) regrouped
    ∙ body_step _ forms.Best _ form (best_step _ _ _ _ m t x margin solution multipliers)
    ∙ ap (λ n. Ok (bodies.Best m t x, at n rest)) to

one_line_again : (form : BodyForm) (read : ℕ → List (List ℕ) → Result EntryBody ProofFault) (word : List ℕ) (body : EntryBody) (place : ℕ) (rest : List ℕ) (is : IsOneLine read word body) → ((words : List (List ℕ)) → form_of (word ∷ words) ≡ Some form)
    → ((c : Cursor) → formed_at (Some form) c ≡ ended c (read c.place (line_words c))) → body_at (at place (body_text body ++ rest)) ≡ Ok (body, at (place + length (body_text body)) rest)
one_line_again form read word body place rest is named formed =
    let text = line_text (word ∷ is.words) in
    let c = at place (text ++ rest) in
    let line = line_again place word is.words rest is.are in
    let has : form_of (line_words c) ≡ Some form = ap form_of line.0 ∙ named is.words in
    let one = ended_again read place word is.words rest body is.are (is.again place) in
    ap (λ (t : List ℕ). body_at (at place (t ++ rest))) is.text
    ∙ body_step c form _ has (formed c ∙ one)
    ∙ ap (λ (t : List ℕ). Ok (body, at (place + length t) rest)) (sym is.text)

body_again : (place : ℕ) (body : EntryBody) (rest : List ℕ) → IsPrintableBody body → body_at (at place (body_text body ++ rest)) ≡ Ok (body, at (place + length (body_text body)) rest)
body_again place (bodies.Best m t x) rest printable = best_again place m t x rest printable
body_again place bodies.NoStrictRow rest printable = one_line_again forms.NoStrictRow none_words (codes "none") bodies.NoStrictRow place rest none_line (λ words. refl) (λ c. refl)
body_again place (bodies.Contradiction m) rest printable = one_line_again forms.Contradiction contradiction_words (codes "contradiction") (bodies.Contradiction m) place rest (contradiction_line m printable) (λ words. refl) (λ c. refl)
body_again place (bodies.BaseWide note) rest printable = one_line_again forms.Wide wide_words (codes "wide") (bodies.BaseWide note) place rest (base_line note printable.0 printable.1) (λ words. refl) (λ c. refl)
body_again place (bodies.ClimbWide note) rest printable = one_line_again forms.Wide wide_words (codes "wide") (bodies.ClimbWide note) place rest (climb_line note printable.0 printable.1) (λ words. refl) (λ c. refl)

pub entry_step : (c d after : Cursor) (x : Entry) → desk_line c ≡ Ok (x.desk, d) → body_at d ≡ Ok (x.body, after) → entry_at c ≡ Ok (x, after)
unfolding entry_at
entry_step c d after x desk body = rw (desk, body) refl

pub entry_reads_back : (x : Entry) (place : ℕ) (rest : List ℕ) → IsPrintableEntry x → entry_at (at place (entry_text x ++ rest)) ≡ Ok (x, at (place + length (entry_text x)) rest)
unfolding entry_text
entry_reads_back x place rest printable =
    let front = desk_text x.desk in
    let back = body_text x.body in
    let regrouped : (front ++ back) ++ rest ≡ front ++ (back ++ rest) = append_assoc front back rest in
    let to : place + length front + length back ≡ place + length (front ++ back) = omega (arith, length-append front back) in
    let desk = desk_again place x.desk (back ++ rest) printable.named in
    let body = body_again (place + length front) x.body rest printable.body in
    ap (λ (r : List ℕ). entry_at (at place r)) regrouped
    ∙ entry_step _ _ _ x desk body
    ∙ ap (λ n. Ok (x, at n rest)) to

-- ---- what is read was so written

record IsBodyText (c : Cursor) (x : EntryBody × Cursor) : Type 0 where
  spans : Spans c (body_text x.0) x.1
  printable : IsPrintableBody x.0

abbrev pub best_of : ℤ × ℤ → Solution → Multipliers → EntryBody
best_of margin solution multipliers = bodies.Best margin.0 margin.1 (record { solution = solution; multipliers = multipliers })

abbrev pub best_read : ℤ × ℤ → Solution → Multipliers × Cursor → Result (EntryBody × Cursor) ProofFault
best_read margin solution multipliers = Ok (best_of margin solution multipliers.0, multipliers.1)

best_sound : (c : Cursor) (x : EntryBody × Cursor) → best_at c ≡ Ok x → IsBodyText c x
unfolding best_at
best_sound c x e =
    let a = bind_ok (margin_line c) (λ margin. solution_line margin.1 >>= λ solution. multipliers_line solution.1 >>= λ multipliers. best_read margin.0 solution.0 multipliers) x e in
    let b = bind_ok (solution_line a.0.1) (λ solution. multipliers_line solution.1 >>= λ multipliers. best_read a.0.0 solution.0 multipliers) x a.2 in
    let d = bind_ok (multipliers_line b.0.1) (λ multipliers. best_read a.0.0 b.0.0 multipliers) x b.2 in
    let margin = margin_sound c a.0 a.1 in
    let solution = solution_sound a.0.1 b.0 b.1 in
    let multipliers = multipliers_sound b.0.1 d.0 d.1 in
    let middle = line_text (solution_words b.0.0.steps) in
    let back = line_text (multipliers_words d.0.0.weak d.0.0.strict) in
    let later = spans_then a.0.1 b.0.1 d.0.1 middle back solution.0 multipliers.0 in
    let spans = spans_then c a.0.1 d.0.1 (margin_text a.0.0.0 a.0.0.1) (middle ++ back) margin.spans later in
    subst (IsBodyText c) (ok_is (best_of a.0.0 b.0.0 d.0.0, d.0.1) x d.2) (record { spans = spans; printable = (margin.margin, margin.total, (solution.1, multipliers.1)) })

line_sound : (c : Cursor) (reading : Result EntryBody ProofFault) (x : EntryBody × Cursor) → ((body : EntryBody) → reading ≡ Ok body → IsReadBody (line_words c) body) → ended c reading ≡ Ok x → IsBodyText c x
line_sound c reading x sound e =
    let read = ended_sound c reading x e in
    let said = sound x.0 read.words in
    record { spans = subst (λ (text : List ℕ). Spans c text x.1) (sym said.0) (line_spans c x.1 (line_words c) refl read.line); printable = said.1 }

formed_sound : (form : Option BodyForm) (c : Cursor) (x : EntryBody × Cursor) → formed_at form c ≡ Ok x → IsBodyText c x
formed_sound None c x e = absurd cc
formed_sound (Some forms.Best) c x e = best_sound c x e
formed_sound (Some forms.NoStrictRow) c x e = line_sound c (none_words c.place (line_words c)) x (none_sound c.place (line_words c)) e
formed_sound (Some forms.Contradiction) c x e = line_sound c (contradiction_words c.place (line_words c)) x (contradiction_sound c.place (line_words c)) e
formed_sound (Some forms.Wide) c x e = line_sound c (wide_words c.place (line_words c)) x (wide_sound c.place (line_words c)) e

body_sound : (c : Cursor) (x : EntryBody × Cursor) → body_at c ≡ Ok x → IsBodyText c x
unfolding body_at
body_sound c x e = formed_sound (form_of (line_words c)) c x e

abbrev pub entry_made : List ℕ → EntryBody → Entry
entry_made desk body = record { desk = desk; body = body }

abbrev pub entry_read : List ℕ → EntryBody × Cursor → Result (Entry × Cursor) ProofFault
entry_read desk body = Ok (entry_made desk body.0, body.1)

pub entry_is_text : (c : Cursor) (x : Entry) (after : Cursor) → entry_at c ≡ Ok (x, after) → IsEntryText c x after
unfolding entry_at entry_text
entry_is_text c x after e =
    let a = bind_ok (desk_line c) (λ desk. body_at desk.1 >>= λ body. entry_read desk.0 body) (x, after) e in
    let b = bind_ok (body_at a.0.1) (λ body. entry_read a.0.0 body) (x, after) a.2 in
    let desk = desk_sound c a.0 a.1 in
    let body = body_sound a.0.1 b.0 b.1 in
    let spans = spans_then c a.0.1 b.0.1 (desk_text a.0.0) (body_text b.0.0) (desk_spans c a.0.0 a.0.1 desk) body.spans in
    subst (λ (y : Entry × Cursor). IsEntryText c y.0 y.1) {x = (entry_made a.0.0 b.0.0, b.0.1)} (ok_is (entry_made a.0.0 b.0.0, b.0.1) (x, after) b.2) (record {
      text = spans.rest;
      place = spans.place;
      printable = record { named = desk.named; body = body.printable };
    })

-- ---- the two directions as one

pub is_read_iff_text : (c : Cursor) (x : Entry) (after : Cursor) → (entry_at c ≡ Ok (x, after)) ↔ IsEntryText c x after
is_read_iff_text c x after = (
  entry_is_text c x after,
  λ is.
      let written = entry_reads_back x c.place after.rest is.printable in
      ap (λ (r : List ℕ). entry_at (at c.place r)) is.text ∙ written ∙ ap (λ n. Ok (x, at n after.rest)) (sym is.place),
)

pub one_text : (x y : Entry) (more rest : List ℕ) → IsPrintableEntry x → IsPrintableEntry y → entry_text x ++ more ≡ entry_text y ++ rest → x ≡ y
one_text x y more rest px py same =
    let read = ok_is _ _ (sym (entry_reads_back x 0 more px) ∙ ap (λ (r : List ℕ). entry_at (at 0 r)) same ∙ entry_reads_back y 0 rest py) in
    ap (λ (r : Entry × Cursor). r.0) read

-- ---- how an entry begins

desk_begins : (name : List ℕ) → (more : List ℕ) × (desk_text name ≡ codes "desk" ++ more)
unfolding line_text
desk_begins [] = (drop 4 (desk_text []), refl)
desk_begins (b ∷ bs) = (drop 4 (desk_text (b ∷ bs)), refl)

pub entry_begins : (x : Entry) → (more : List ℕ) × (entry_text x ≡ codes "desk" ++ more)
unfolding entry_text
entry_begins x =
    let desk = desk_begins x.desk in
    (desk.0 ++ body_text x.body, ap (λ (l : List ℕ). l ++ body_text x.body) desk.1)
