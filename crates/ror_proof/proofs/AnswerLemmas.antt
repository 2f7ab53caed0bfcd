-- Answers as texts, both ways: what was written is read again, and what is read was so written.
use Rattle.std.proofs.Common.{◌≡◌, ℕ, zero, suc, ◌+◌, ◌<◌, ◌≤◌, true, false, List, [], ◌∷◌, ◌++◌, length, drop, Some, Result, Ok, refl, sym, ap, subst, ◌∙◌, append_assoc, arith, inl, inr, length-append}
use Rattle.std.specs.Prelude.{codes, ◌↔◌}
use Rattle.std.specs.Fmt.{decimal}
use Rattle.std.specs.List.{AllByRecursion, flat_map}
use Rattle.std.proofs.lemmas.Bool.{cases_Bool, and_from}
use Rattle.std.proofs.lemmas.List.Folds.{list_all-append}
use Rattle.ror_text.specs.Cursor.{Cursor, line_words, line_after}
use Rattle.ror_text.specs.Reading.{◌>>=◌, refuse, need}
use Rattle.ror_text.specs.SpacedLines.{is_word, are_words, line_text}
use Rattle.ror_text.proofs.CursorLemmas.{Spans, spans_then, line_spans, length-line_text, line_again}
use Rattle.ror_text.proofs.IdLemmas.{is_word-id}
use Rattle.ror_text.proofs.NumberLemmas.{is_word-decimal}
use Rattle.ror_text.proofs.ReadingLemmas.{bind_ok, need_ok, refuse_ok}
use Rattle.ror_statement.specs.declared.comparison.Scope.{Scope}
use Rattle.ror_statement.specs.declared.comparison.Scope.TheVariants.{Whole, One}
use Rattle.ror_statement.specs.declared.comparison.Pair.{Pair}
use Rattle.ror_statement.specs.declared.comparison.Form.{Form}
use Rattle.ror_statement.specs.declared.comparison.Form.TheVariants.{Value, Strength}
use Rattle.ror_statement.specs.declared.question.Question.{Question}
use Rattle.ror_statement.specs.declared.question.Property.{Property}
use Rattle.ror_statement.specs.declared.question.Property.TheVariants.{Compatible, AtLeast, InClass}
use Rattle.ror_statement.specs.Names.{NamesWithin, PairWithin, ScopeWithin}
use Rattle.ror_statement.specs.Questions.{property_of}
use Rattle.ror_table.specs.Table.{DecisionTable, IsTable, id_of, criterion_id_of}
use Rattle.ror_table.proofs.NameLemmas.{id_of_is_id, criterion_id_of_is_id}
use Rattle.ror_proof.specs.declared.answer.Answer.{Answer}
use Rattle.ror_proof.specs.declared.answer.Certificate.{Certificate}
use Rattle.ror_proof.specs.declared.answer.Part.{Part}
use Rattle.ror_proof.specs.declared.answer.Proof.{Proof}
use Rattle.ror_proof.specs.declared.answer.Verdict.{Verdict}
use Rattle.ror_proof.specs.declared.answer.Verdict.TheVariants as verdicts
use Rattle.ror_proof.specs.declared.answer.WideText.{WideText}
use Rattle.ror_proof.specs.declared.names.VerdictName.{VerdictName}
use Rattle.ror_proof.specs.declared.names.VerdictName.TheVariants as said
use Rattle.ror_proof.specs.declared.names.QuestionName.{QuestionName}
use Rattle.ror_proof.specs.declared.names.QuestionName.TheVariants as asked
use Rattle.ror_proof.specs.declared.read.ProofFault.{ProofFault}
use Rattle.ror_proof.specs.declared.read.ProofFault.TheVariants.{BadLine}
use Rattle.ror_proof.specs.Names.{name_of, question_name, question_word, verdict_name, verdict_word, verdict_names}
use Rattle.ror_proof.specs.Text.{pair_words, scope_words, form_words, property_words, question_words, certificate_words, head_text, base_text, part_text, proof_text, wide_text, verdict_text, answer_text, HasWords, IsNamed, IsNarrowCertificate, IsPrintablePart, IsPrintableProof, IsPrintableNote, IsPrintableVerdict, IsPrintable, IsNarrowVerdict}
use Rattle.ror_proof.specs.Words.{after_word, name_at, no_more, small_number_at}
use Rattle.ror_proof.specs.Questions.{question_at}
use Rattle.ror_proof.specs.Reading.{certificate_at, note_at, answer_words, base_words, part_words, wide_words, ended, answer_line, base_line, part_line, wide_line, begins_part, part_lines, proof_at, wide_at, verdict_at, answer_at}
use Rattle.ror_proof.specs.Laws.{IsAnswerText}
use Rattle.ror_proof.proofs.Loops.{part_step, no_parts}
use Rattle.ror_proof.proofs.WordLemmas.{done, ok_is, after_word_again, after_word_sound, no_more_sound, name_again, name_sound, small_number_again, small_number_sound}
use Rattle.ror_proof.proofs.QuestionLemmas.{question_again, question_sound}
use Rattle.ror_proof.proofs.LineWords.{certificate_are_words, certificate_again, certificate_sound, note_words, note_again, note_sound, note_are_words}

-- ---- a line

-- a line of these words is read as its words are
pub ended_again : {A : Type 0} (read : ℕ → List (List ℕ) → Result A ProofFault) (place : ℕ) (word : List ℕ) (words : List (List ℕ)) (rest : List ℕ) (x : A) → are_words (word ∷ words) ≡ true → read place (word ∷ words) ≡ Ok x
    → ended (record { place = place; rest = line_text (word ∷ words) ++ rest }) (read place (line_words (record { place = place; rest = line_text (word ∷ words) ++ rest }))) ≡ Ok (x, record { place = place + length (line_text (word ∷ words)); rest = rest })
unfolding ended
ended_again read place word words rest x are one =
    let line = line_again place word words rest are in
    rw (line.0, one, line.1) refl

-- what is read of a line was read of its words
pub record WasRead {A : Type 0} (c : Cursor) (reading : Result A ProofFault) (x : A × Cursor) : Type 0 where
  pub words : reading ≡ Ok x.0
  pub line : line_after c ≡ Some x.1

pub ended_sound : {A : Type 0} (c : Cursor) (reading : Result A ProofFault) (x : A × Cursor) → ended c reading ≡ Ok x → WasRead c reading x
unfolding ended
ended_sound c reading x e =
    let a = bind_ok reading (λ value. need (BadLine c.place) (line_after c) >>= λ next. done (value, next)) x e in
    let b = bind_ok (need (BadLine c.place) (line_after c)) (λ next. done (a.0, next)) x a.2 in
    subst (WasRead c reading) (ok_is (a.0, b.0) x b.2) (record { words = a.1; line = need_ok (BadLine c.place) (line_after c) b.0 b.1 })

-- ---- the line of the question and the verdict

-- its words
abbrev head_words : DecisionTable → Question → VerdictName → List (List ℕ)
head_words t q name = codes "answer" ∷ (question_words t q ++ verdict_word name ∷ [])

pub id_is_word : (t : DecisionTable) (a : ℕ) → IsTable t → a < length t.alternatives → is_word (id_of t a) ≡ true
id_is_word t a table within = is_word-id (id_of t a) (id_of_is_id t a table within)

pub pair_are_words : (t : DecisionTable) (p : Pair) → IsTable t → PairWithin (length t.alternatives) p → are_words (pair_words t p) ≡ true
pair_are_words t p table within = rw (id_is_word t p.first table within.0, id_is_word t p.second table within.1) refl

pub scope_are_words : (t : DecisionTable) (s : Scope) → IsTable t → ScopeWithin (length t.criteria) s → are_words (scope_words t s) ≡ true
scope_are_words t Whole table within = refl
scope_are_words t (One i) table within = rw (is_word-id (criterion_id_of t i) (criterion_id_of_is_id t i table within)) refl

pub form_are_words : (t : DecisionTable) (form : Form) → IsTable t → NamesWithin (length t.alternatives) (length t.criteria) form → are_words (form_words t form) ≡ true
form_are_words t (Value a b) table within = pair_are_words t (record { first = a; second = b }) table within
form_are_words t (Strength p q s) table within =
    list_all-append is_word (pair_words t p) (pair_words t q ++ scope_words t s)
    ∙ and_from _ _ (pair_are_words t p table within.0) (list_all-append is_word (pair_words t q) (scope_words t s) ∙ and_from _ _ (pair_are_words t q table within.1) (scope_are_words t s table within.2))

pub property_are_words : (t : DecisionTable) (p : Property) → IsTable t → HasWords t p → are_words (property_words t p) ≡ true
property_are_words t Compatible table named = refl
property_are_words t (AtLeast form) table named = form_are_words t form table named
property_are_words t (InClass a h) table named = rw (id_is_word t a table named.0, is_word-decimal h (omega (arith, named.1))) refl

pub name_is_word : (name : QuestionName) → is_word (question_word name) ≡ true
name_is_word asked.Consistent = refl
name_is_word asked.Necessary = refl
name_is_word asked.Possible = refl
name_is_word asked.PossibleClass = refl
name_is_word asked.NecessaryClass = refl

verdict_is_word : (name : VerdictName) → are_words (verdict_word name ∷ []) ≡ true
verdict_is_word said.Yes = refl
verdict_is_word said.No = refl
verdict_is_word said.Contradiction = refl
verdict_is_word said.Wide = refl

head_are_words : (t : DecisionTable) (q : Question) (name : VerdictName) → IsTable t → IsNamed t q → are_words (head_words t q name) ≡ true
head_are_words t q name table named =
    list_all-append is_word (question_words t q) (verdict_word name ∷ [])
    ∙ and_from _ _ (and_from _ _ (name_is_word (question_name q)) (property_are_words t (property_of q) table named)) (verdict_is_word name)

said_again : (name : VerdictName) → name_of verdict_word verdict_names (verdict_word name) ≡ Some name
said_again said.Yes = refl
said_again said.No = refl
said_again said.Contradiction = refl
said_again said.Wide = refl

head_words_again : (t : DecisionTable) (q : Question) (name : VerdictName) (place : ℕ) → IsTable t → IsNamed t q → answer_words t place (head_words t q name) ≡ Ok (q, name)
unfolding answer_words
head_words_again t q name place table named =
    rw (after_word_again place (codes "answer") (question_words t q ++ verdict_word name ∷ []), question_again t place q (verdict_word name) table named, name_again verdict_word verdict_names place name [] (said_again name)) refl

head_again : (t : DecisionTable) (place : ℕ) (q : Question) (name : VerdictName) (rest : List ℕ) → IsTable t → IsNamed t q
    → answer_line t (record { place = place; rest = head_text t q name ++ rest }) ≡ Ok ((q, name), record { place = place + length (head_text t q name); rest = rest })
head_again t place q name rest table named =
    ended_again (answer_words t) place (codes "answer") (question_words t q ++ verdict_word name ∷ []) rest (q, name) (head_are_words t q name table named) (head_words_again t q name place table named)

pub head_words_sound : (t : DecisionTable) (place : ℕ) (words : List (List ℕ)) (x : Question × VerdictName) → answer_words t place words ≡ Ok x → (words ≡ head_words t x.0 x.1) × IsNamed t x.0
unfolding answer_words
head_words_sound t place words x e =
    let ends = λ (q : Question) (v : VerdictName × List (List ℕ)). no_more place v.1 >>= λ _. done (q, v.0) in
    let a = bind_ok (after_word place (codes "answer") words) (λ more. question_at t place more >>= λ question. name_at verdict_word verdict_names place question.1 >>= λ verdict. ends question.0 verdict) x e in
    let q = bind_ok (question_at t place a.0) (λ question. name_at verdict_word verdict_names place question.1 >>= λ verdict. ends question.0 verdict) x a.2 in
    let v = bind_ok (name_at verdict_word verdict_names place q.0.1) (λ verdict. ends q.0.0 verdict) x q.2 in
    let m = bind_ok (no_more place v.0.1) (λ _. done (q.0.0, v.0.0)) x v.2 in
    let question = question_sound t place a.0 q.0 q.1 in
    let verdict = name_sound verdict_word verdict_names place q.0.1 v.0 v.1 in
    let last = no_more_sound place v.0.1 m.0 m.1 in
    let text : words ≡ head_words t q.0.0 v.0.0 =
    after_word_sound place (codes "answer") words a.0 a.1 ∙ ap (λ (ws : List (List ℕ)). codes "answer" ∷ ws) (question.0 ∙ ap (λ (ws : List (List ℕ)). question_words t q.0.0 ++ ws) (verdict ∙ ap (λ (ws : List (List ℕ)). verdict_word v.0.0 ∷ ws) last)) in
    subst (λ (y : Question × VerdictName). (words ≡ head_words t y.0 y.1) × IsNamed t y.0) (ok_is (q.0.0, v.0.0) x m.2) (text, question.1)

head_sound : (t : DecisionTable) (c : Cursor) (x : (Question × VerdictName) × Cursor) → answer_line t c ≡ Ok x → Spans c (head_text t x.0.0 x.0.1) x.1 × IsNamed t x.0.0
head_sound t c x e =
    let read = ended_sound c (answer_words t c.place (line_words c)) x e in
    let words = head_words_sound t c.place (line_words c) x.0 read.words in
    (line_spans c x.1 (head_words t x.0.0 x.0.1) words.0 read.line, words.1)

-- ---- the lines of a proof

base_words_again : (place : ℕ) (b : Certificate) → IsNarrowCertificate b → base_words place (codes "base" ∷ certificate_words b) ≡ Ok b
unfolding base_words
base_words_again place b narrow = rw (after_word_again place (codes "base") (certificate_words b)) (certificate_again place b narrow)

pub base_again : (place : ℕ) (b : Certificate) (rest : List ℕ) → IsNarrowCertificate b → base_line (record { place = place; rest = base_text b ++ rest }) ≡ Ok (b, record { place = place + length (base_text b); rest = rest })
base_again place b rest narrow =
    ended_again base_words place (codes "base") (certificate_words b) rest b (certificate_are_words b narrow) (base_words_again place b narrow)

base_words_sound : (place : ℕ) (words : List (List ℕ)) (b : Certificate) → base_words place words ≡ Ok b → (words ≡ codes "base" ∷ certificate_words b) × IsNarrowCertificate b
unfolding base_words
base_words_sound place words b e =
    let a = bind_ok (after_word place (codes "base") words) (λ more. certificate_at place more) b e in
    let certificate = certificate_sound place a.0 b a.2 in
    (after_word_sound place (codes "base") words a.0 a.1 ∙ ap (λ (ws : List (List ℕ)). codes "base" ∷ ws) certificate.0, certificate.1)

pub base_sound : (c : Cursor) (x : Certificate × Cursor) → base_line c ≡ Ok x → Spans c (base_text x.0) x.1 × IsNarrowCertificate x.0
base_sound c x e =
    let read = ended_sound c (base_words c.place (line_words c)) x e in
    let words = base_words_sound c.place (line_words c) x.0 read.words in
    (line_spans c x.1 (codes "base" ∷ certificate_words x.0) words.0 read.line, words.1)

part_words_again : (place : ℕ) (p : Part) → IsPrintablePart p → part_words place (codes "part" ∷ decimal p.at ∷ certificate_words p.body) ≡ Ok p
unfolding part_words
part_words_again place p printable =
    rw (after_word_again place (codes "part") (decimal p.at ∷ certificate_words p.body), small_number_again place p.at (certificate_words p.body) printable.number, certificate_again place p.body printable.narrow) refl

part_again : (place : ℕ) (p : Part) (rest : List ℕ) → IsPrintablePart p → part_line (record { place = place; rest = part_text p ++ rest }) ≡ Ok (p, record { place = place + length (part_text p); rest = rest })
part_again place p rest printable =
    let words : are_words (decimal p.at ∷ certificate_words p.body) ≡ true = and_from _ _ (is_word-decimal p.at (omega (arith, printable.number))) (certificate_are_words p.body printable.narrow) in
    ended_again part_words place (codes "part") (decimal p.at ∷ certificate_words p.body) rest p words (part_words_again place p printable)

abbrev part_read : ℕ → Certificate → Result Part ProofFault
part_read at certificate = Ok (record { at = at; body = certificate })

part_words_sound : (place : ℕ) (words : List (List ℕ)) (p : Part) → part_words place words ≡ Ok p → (words ≡ codes "part" ∷ decimal p.at ∷ certificate_words p.body) × IsPrintablePart p
unfolding part_words
part_words_sound place words p e =
    let a = bind_ok (after_word place (codes "part") words) (λ more. small_number_at place more >>= λ at. certificate_at place at.1 >>= λ certificate. part_read at.0 certificate) p e in
    let s = bind_ok (small_number_at place a.0) (λ at. certificate_at place at.1 >>= λ certificate. part_read at.0 certificate) p a.2 in
    let b = bind_ok (certificate_at place s.0.1) (λ certificate. part_read s.0.0 certificate) p s.2 in
    let system = small_number_sound place a.0 s.0 s.1 in
    let certificate = certificate_sound place s.0.1 b.0 b.1 in
    let made : Part = record { at = s.0.0; body = b.0 } in
    let text : words ≡ codes "part" ∷ decimal made.at ∷ certificate_words made.body =
    after_word_sound place (codes "part") words a.0 a.1 ∙ ap (λ (ws : List (List ℕ)). codes "part" ∷ ws) (system.0 ∙ ap (λ (ws : List (List ℕ)). decimal s.0.0 ∷ ws) certificate.0) in
    subst (λ (y : Part). (words ≡ codes "part" ∷ decimal y.at ∷ certificate_words y.body) × IsPrintablePart y) (ok_is made p b.2) (text, record { number = system.1; narrow = certificate.1 })

part_sound : (c : Cursor) (x : Part × Cursor) → part_line c ≡ Ok x → Spans c (part_text x.0) x.1 × IsPrintablePart x.0
part_sound c x e =
    let read = ended_sound c (part_words c.place (line_words c)) x e in
    let words = part_words_sound c.place (line_words c) x.0 read.words in
    (line_spans c x.1 (codes "part" ∷ decimal x.0.at ∷ certificate_words x.0.body) words.0 read.line, words.1)

part_begins : (p : Part) (rest : List ℕ) → begins_part (part_text p ++ rest) ≡ true
unfolding line_text
part_begins p rest = refl

parts_again : (most place : ℕ) (ps : List Part) (rest : List ℕ) → AllByRecursion IsPrintablePart ps → begins_part rest ≡ false → length ps ≤ most
    → part_lines most (record { place = place; rest = flat_map part_text ps ++ rest }) ≡ Ok (ps, record { place = place + length (flat_map part_text ps); rest = rest })
parts_again most place [] rest printable none room = no_parts most (record { place = place; rest = rest }) none ∙ ap (λ n. Ok ([], record { place = n; rest = rest })) (omega arith)
parts_again zero place (p ∷ ps) rest printable none room = absurd (omega arith)
parts_again (suc most) place (p ∷ ps) rest printable none room =
    let tail = flat_map part_text ps ++ rest in
    let start : Cursor = record { place = place; rest = (part_text p ++ flat_map part_text ps) ++ rest } in
    let regrouped : (part_text p ++ flat_map part_text ps) ++ rest ≡ part_text p ++ tail = append_assoc (part_text p) (flat_map part_text ps) rest in
    let begins : begins_part start.rest ≡ true = ap begins_part regrouped ∙ part_begins p tail in
    let first : part_line start ≡ Ok (p, record { place = place + length (part_text p); rest = tail }) = ap (λ r. part_line (record { place = place; rest = r })) regrouped ∙ part_again place p tail printable.0 in
    let others = parts_again most (place + length (part_text p)) ps rest printable.1 none (omega arith) in
    let to : place + length (part_text p) + length (flat_map part_text ps) ≡ place + length (part_text p ++ flat_map part_text ps) = omega (arith, length-append (part_text p) (flat_map part_text ps)) in
    part_step most start begins ∙ (rw (first, others) (ap (λ n. Ok (p ∷ ps, record { place = n; rest = rest })) to))

parts_have_bytes : (ps : List Part) → length ps ≤ length (flat_map part_text ps)
parts_have_bytes [] = omega arith
parts_have_bytes (p ∷ ps) = omega (arith, parts_have_bytes ps, length-append (part_text p) (flat_map part_text ps), length-line_text (codes "part" ∷ decimal p.at ∷ certificate_words p.body))

-- what was read as parts
record AreReadParts (c : Cursor) (ps : List Part) (after : Cursor) : Type 0 where
  spans : Spans c (flat_map part_text ps) after
  printable : AllByRecursion IsPrintablePart ps
  ended : begins_part after.rest ≡ false

no_part_read : (most : ℕ) (c : Cursor) (x : List Part × Cursor) → begins_part c.rest ≡ false → part_lines most c ≡ Ok x → AreReadParts c x.0 x.1
no_part_read most c x none e =
    subst (λ (y : List Part × Cursor). AreReadParts c y.0 y.1) (ok_is ([], c) x (sym (no_parts most c none) ∙ e)) (record { spans = record { rest = refl; place = omega arith }; printable = tt; ended = none })

nothing_begins : (bytes : List ℕ) → length bytes ≤ 0 → begins_part bytes ≡ false
nothing_begins [] none = refl
nothing_begins (b ∷ bs) none = absurd (omega arith)

parts_sound : (most : ℕ) (c : Cursor) (x : List Part × Cursor) → part_lines most c ≡ Ok x → length c.rest ≤ most → AreReadParts c x.0 x.1
parts_sound zero c x e room = no_part_read zero c x (nothing_begins c.rest room) e
parts_sound (suc most) c x e room =
    elim (cases_Bool (begins_part c.rest)) [
      | inl begins ↦
          let a = bind_ok (part_line c) (λ first. part_lines most first.1 >>= λ others. Ok (first.0 ∷ others.0, others.1)) x (sym (part_step most c begins) ∙ e) in
          let b = bind_ok (part_lines most a.0.1) (λ others. Ok (a.0.0 ∷ others.0, others.1)) x a.2 in
          let first = part_sound c a.0 a.1 in
          let some : length c.rest ≡ length (part_text a.0.0) + length a.0.1.rest = ap length first.0.rest ∙ length-append (part_text a.0.0) a.0.1.rest in
          let others = parts_sound most a.0.1 b.0 b.1 (omega (arith, some, length-line_text (codes "part" ∷ decimal a.0.0.at ∷ certificate_words a.0.0.body))) in
          subst (λ (y : List Part × Cursor). AreReadParts c y.0 y.1) (ok_is (a.0.0 ∷ b.0.0, b.0.1) x b.2) (record {
            spans = spans_then c a.0.1 b.0.1 (part_text a.0.0) (flat_map part_text b.0.0) first.0 others.spans;
            printable = (first.1, others.printable);
            ended = others.ended;
          })
      | inr none ↦ no_part_read (suc most) c x none e
    ]

-- ---- proofs

proof_again : (place : ℕ) (p : Proof) (rest : List ℕ) → IsPrintableProof p → begins_part rest ≡ false → proof_at (record { place = place; rest = proof_text p ++ rest }) ≡ Ok (p, record { place = place + length (proof_text p); rest = rest })
unfolding proof_at
proof_again place p rest printable none =
    let base = base_text p.base in
    let parts = flat_map part_text p.parts in
    let regrouped : (base ++ parts) ++ rest ≡ base ++ (parts ++ rest) = append_assoc base parts rest in
    let room : length p.parts ≤ length (parts ++ rest) = omega (arith, parts_have_bytes p.parts, length-append parts rest) in
    let to : place + length base + length parts ≡ place + length (base ++ parts) = omega (arith, length-append base parts) in
    ap (λ (r : List ℕ). proof_at (record { place = place; rest = r })) regrouped
    ∙ (rw (base_again place p.base (parts ++ rest) printable.base, parts_again (length (parts ++ rest)) (place + length base) p.parts rest printable.parts none room)
    (ap (λ n. Ok (p, record { place = n; rest = rest })) to))

abbrev proof_read : Certificate → List Part × Cursor → Result (Proof × Cursor) ProofFault
proof_read base parts = Ok (record { base = base; parts = parts.0 }, parts.1)

-- what was read as a proof
record IsReadProof (c : Cursor) (p : Proof) (after : Cursor) : Type 0 where
  spans : Spans c (proof_text p) after
  printable : IsPrintableProof p
  ended : begins_part after.rest ≡ false

proof_sound : (c : Cursor) (x : Proof × Cursor) → proof_at c ≡ Ok x → IsReadProof c x.0 x.1
unfolding proof_at
proof_sound c x e =
    let b = bind_ok (base_line c) (λ base. part_lines (length base.1.rest) base.1 >>= λ parts. proof_read base.0 parts) x e in
    let d = bind_ok (part_lines (length b.0.1.rest) b.0.1) (λ parts. proof_read b.0.0 parts) x b.2 in
    let base = base_sound c b.0 b.1 in
    let parts = parts_sound (length b.0.1.rest) b.0.1 d.0 d.1 (omega arith) in
    let made : Proof = record { base = b.0.0; parts = d.0.0 } in
    subst (λ (y : Proof × Cursor). IsReadProof c y.0 y.1) (ok_is (made, d.0.1) x d.2) (record {
      spans = spans_then c b.0.1 d.0.1 (base_text b.0.0) (flat_map part_text d.0.0) base.0 parts.spans;
      printable = record { base = base.1; parts = parts.printable };
      ended = parts.ended;
    })

-- ---- numbers too wide

wide_words_again : (place system : ℕ) (note : WideText) → IsPrintableNote system note → wide_words place (codes "wide" ∷ decimal system ∷ note_words note) ≡ Ok (system, note)
unfolding wide_words
wide_words_again place system note printable =
    rw (after_word_again place (codes "wide") (decimal system ∷ note_words note), small_number_again place system (note_words note) printable.number, note_again place note (printable.place, printable.path)) refl

wide_line_again : (place system : ℕ) (note : WideText) (rest : List ℕ) → IsPrintableNote system note → wide_line (record { place = place; rest = wide_text system note ++ rest }) ≡ Ok ((system, note), record { place = place + length (wide_text system note); rest = rest })
wide_line_again place system note rest printable =
    let words : are_words (decimal system ∷ note_words note) ≡ true = and_from _ _ (is_word-decimal system (omega (arith, printable.number))) (note_are_words note (printable.place, printable.path)) in
    ended_again wide_words place (codes "wide") (decimal system ∷ note_words note) rest (system, note) words (wide_words_again place system note printable)

wide_again : (place system : ℕ) (note : WideText) (rest : List ℕ) → IsPrintableNote system note → begins_part rest ≡ false → wide_at (record { place = place; rest = wide_text system note ++ rest }) ≡ Ok (verdicts.Wide system note, record { place = place + length (wide_text system note); rest = rest })
unfolding wide_at
wide_again place system note rest printable none = rw (wide_line_again place system note rest printable, none) refl

abbrev wide_read : ℕ → WideText → Result (ℕ × WideText) ProofFault
wide_read system note = Ok (system, note)

wide_words_sound : (place : ℕ) (words : List (List ℕ)) (x : ℕ × WideText) → wide_words place words ≡ Ok x → (words ≡ codes "wide" ∷ decimal x.0 ∷ note_words x.1) × IsPrintableNote x.0 x.1
unfolding wide_words
wide_words_sound place words x e =
    let a = bind_ok (after_word place (codes "wide") words) (λ more. small_number_at place more >>= λ system. note_at place system.1 >>= λ note. wide_read system.0 note) x e in
    let s = bind_ok (small_number_at place a.0) (λ system. note_at place system.1 >>= λ note. wide_read system.0 note) x a.2 in
    let b = bind_ok (note_at place s.0.1) (λ note. wide_read s.0.0 note) x s.2 in
    let system = small_number_sound place a.0 s.0 s.1 in
    let note = note_sound place s.0.1 b.0 b.1 in
    let text : words ≡ codes "wide" ∷ decimal s.0.0 ∷ note_words b.0 =
    after_word_sound place (codes "wide") words a.0 a.1 ∙ ap (λ (ws : List (List ℕ)). codes "wide" ∷ ws) (system.0 ∙ ap (λ (ws : List (List ℕ)). decimal s.0.0 ∷ ws) note.0) in
    subst (λ (y : ℕ × WideText). (words ≡ codes "wide" ∷ decimal y.0 ∷ note_words y.1) × IsPrintableNote y.0 y.1) (ok_is (s.0.0, b.0) x b.2) (text, record { number = system.1; place = note.1.0; path = note.1.1 })

-- what was read as a verdict
record IsReadVerdict (c : Cursor) (v : Verdict) (after : Cursor) : Type 0 where
  spans : Spans c (verdict_text v) after
  printable : IsPrintableVerdict v
  ended : begins_part after.rest ≡ false

wide_sound : (c : Cursor) (x : Verdict × Cursor) → wide_at c ≡ Ok x → IsReadVerdict c x.0 x.1 × (verdict_name x.0 ≡ said.Wide)
unfolding wide_at
wide_sound c x e =
    let a = bind_ok (wide_line c) (λ wide. refuse (BadLine wide.1.place) (begins_part wide.1.rest) >>= λ _. done (verdicts.Wide wide.0.0 wide.0.1, wide.1)) x e in
    let b = bind_ok (refuse (BadLine a.0.1.place) (begins_part a.0.1.rest)) (λ _. done (verdicts.Wide a.0.0.0 a.0.0.1, a.0.1)) x a.2 in
    let read = ended_sound c (wide_words c.place (line_words c)) a.0 a.1 in
    let words = wide_words_sound c.place (line_words c) a.0.0 read.words in
    subst (λ (y : Verdict × Cursor). IsReadVerdict c y.0 y.1 × (verdict_name y.0 ≡ said.Wide)) (ok_is (verdicts.Wide a.0.0.0 a.0.0.1, a.0.1) x b.2) (
      record {
        spans = line_spans c a.0.1 (codes "wide" ∷ decimal a.0.0.0 ∷ note_words a.0.0.1) words.0 read.line;
        printable = words.1;
        ended = refuse_ok (BadLine a.0.1.place) (begins_part a.0.1.rest) b.0 b.1;
      },
      refl,
    )

-- ---- answers

verdict_again : (place : ℕ) (v : Verdict) (rest : List ℕ) → IsPrintableVerdict v → begins_part rest ≡ false → verdict_at (verdict_name v) (record { place = place; rest = verdict_text v ++ rest }) ≡ Ok (v, record { place = place + length (verdict_text v); rest = rest })
verdict_again place (verdicts.Yes proof) rest printable none = rw (proof_again place proof rest printable none) refl
verdict_again place (verdicts.No proof) rest printable none = rw (proof_again place proof rest printable none) refl
verdict_again place (verdicts.Contradiction proof) rest printable none = rw (proof_again place proof rest printable none) refl
verdict_again place (verdicts.Wide system note) rest printable none = wide_again place system note rest printable none

-- what was written is read again
pub answer_reads_back : (t : DecisionTable) (x : Answer) (place : ℕ) (rest : List ℕ) → IsTable t → IsPrintable t x → begins_part rest ≡ false
    → answer_at t (record { place = place; rest = answer_text t x ++ rest }) ≡ Ok (x, record { place = place + length (answer_text t x); rest = rest })
unfolding answer_at answer_text
answer_reads_back t x place rest table printable none =
    let front = head_text t x.question (verdict_name x.verdict) in
    let back = verdict_text x.verdict in
    let regrouped : (front ++ back) ++ rest ≡ front ++ (back ++ rest) = append_assoc front back rest in
    let to : place + length front + length back ≡ place + length (front ++ back) = omega (arith, length-append front back) in
    ap (λ (r : List ℕ). answer_at t (record { place = place; rest = r })) regrouped
    ∙ (rw (head_again t place x.question (verdict_name x.verdict) (back ++ rest) table printable.named, verdict_again (place + length front) x.verdict rest printable.concluded none)
    (ap (λ n. Ok (x, record { place = n; rest = rest })) to))

verdict_sound : (name : VerdictName) (c : Cursor) (x : Verdict × Cursor) → verdict_at name c ≡ Ok x → IsReadVerdict c x.0 x.1 × (verdict_name x.0 ≡ name)
verdict_sound said.Yes c x e =
    let a = bind_ok (proof_at c) (λ proof. done (verdicts.Yes proof.0, proof.1)) x e in
    let proof = proof_sound c a.0 a.1 in
    subst (λ (y : Verdict × Cursor). IsReadVerdict c y.0 y.1 × (verdict_name y.0 ≡ said.Yes)) (ok_is (verdicts.Yes a.0.0, a.0.1) x a.2) (record { spans = proof.spans; printable = proof.printable; ended = proof.ended }, refl)
verdict_sound said.No c x e =
    let a = bind_ok (proof_at c) (λ proof. done (verdicts.No proof.0, proof.1)) x e in
    let proof = proof_sound c a.0 a.1 in
    subst (λ (y : Verdict × Cursor). IsReadVerdict c y.0 y.1 × (verdict_name y.0 ≡ said.No)) (ok_is (verdicts.No a.0.0, a.0.1) x a.2) (record { spans = proof.spans; printable = proof.printable; ended = proof.ended }, refl)
verdict_sound said.Contradiction c x e =
    let a = bind_ok (proof_at c) (λ proof. done (verdicts.Contradiction proof.0, proof.1)) x e in
    let proof = proof_sound c a.0 a.1 in
    subst (λ (y : Verdict × Cursor). IsReadVerdict c y.0 y.1 × (verdict_name y.0 ≡ said.Contradiction)) (ok_is (verdicts.Contradiction a.0.0, a.0.1) x a.2) (record { spans = proof.spans; printable = proof.printable; ended = proof.ended }, refl)
verdict_sound said.Wide c x e = wide_sound c x e

abbrev answer_read : Question → Verdict × Cursor → Result (Answer × Cursor) ProofFault
answer_read question verdict = Ok (record { question = question; verdict = verdict.0 }, verdict.1)

-- the text of what was read, part by part
made_text : (t : DecisionTable) (x : Answer) → answer_text t x ≡ head_text t x.question (verdict_name x.verdict) ++ verdict_text x.verdict
unfolding answer_text
made_text t x = refl

-- what is read is the text of the answer, up to where no further part begins
pub answer_is_text : (t : DecisionTable) (c : Cursor) (x : Answer) (after : Cursor) → answer_at t c ≡ Ok (x, after) → IsAnswerText t c x after
unfolding answer_at
answer_is_text t c x after e =
    let a = bind_ok (answer_line t c) (λ head. verdict_at head.0.1 head.1 >>= λ verdict. answer_read head.0.0 verdict) (x, after) e in
    let v = bind_ok (verdict_at a.0.0.1 a.0.1) (λ verdict. answer_read a.0.0.0 verdict) (x, after) a.2 in
    let head = head_sound t c a.0 a.1 in
    let verdict = verdict_sound a.0.0.1 a.0.1 v.0 v.1 in
    let made : Answer = record { question = a.0.0.0; verdict = v.0.0 } in
    let front : Spans c (head_text t made.question (verdict_name made.verdict)) a.0.1 = subst (λ (name : VerdictName). Spans c (head_text t made.question name) a.0.1) (sym verdict.1) head.0 in
    let spans = spans_then c a.0.1 v.0.1 (head_text t made.question (verdict_name made.verdict)) (verdict_text made.verdict) front verdict.0.spans in
    let text = made_text t made in
    subst (λ (y : Answer × Cursor). IsAnswerText t c y.0 y.1) (ok_is (made, v.0.1) (x, after) v.2) (record {
      text = spans.rest ∙ ap (λ (l : List ℕ). l ++ v.0.1.rest) (sym text);
      place = spans.place ∙ ap (λ (l : List ℕ). c.place + length l) (sym text);
      printable = record { named = head.1; concluded = verdict.0.printable };
      no_further_part = verdict.0.ended;
    })

-- ---- one text for each answer

pub one_spelling : (t : DecisionTable) (x y : Answer) → IsTable t → IsPrintable t x → IsPrintable t y → answer_text t x ≡ answer_text t y → x ≡ y
one_spelling t x y table px py e =
    let same : answer_text t x ++ [] ≡ answer_text t y ++ [] = ap (λ (l : List ℕ). l ++ []) e in
    let of_x = answer_reads_back t x 0 [] table px refl in
    let of_y = answer_reads_back t y 0 [] table py refl in
    ap (λ (r : Answer × Cursor). r.0) (ok_is _ _ (sym of_x ∙ ap (λ (l : List ℕ). answer_at t (record { place = 0; rest = l })) same ∙ of_y))

head_begins : (t : DecisionTable) (q : Question) (name : VerdictName) → (more : List ℕ) × (head_text t q name ≡ codes "answer " ++ more)
unfolding line_text
head_begins t q name = (drop 7 (head_text t q name), refl)

pub answer_begins : (t : DecisionTable) (x : Answer) → (more : List ℕ) × (answer_text t x ≡ codes "answer " ++ more)
unfolding answer_text
answer_begins t x =
    let others = verdict_text x.verdict in
    let head = head_begins t x.question (verdict_name x.verdict) in
    (head.0 ++ others, ap (λ (l : List ℕ). l ++ others) head.1)

-- ---- the two directions as one

pub is_read_iff_text : (t : DecisionTable) (c : Cursor) (x : Answer) (after : Cursor) → IsTable t → (answer_at t c ≡ Ok (x, after)) ↔ IsAnswerText t c x after
is_read_iff_text t c x after table = (
  answer_is_text t c x after,
  λ is.
      let written = answer_reads_back t x c.place after.rest table is.printable is.no_further_part in
      ap (λ (r : List ℕ). answer_at t (record { place = c.place; rest = r })) is.text ∙ written ∙ ap (λ n. Ok (x, record { place = n; rest = after.rest })) (sym is.place),
)

-- ---- an answer after another

-- an answer's text is no part's
pub answer_is_no_part : (t : DecisionTable) (x : Answer) (rest : List ℕ) → begins_part (answer_text t x ++ rest) ≡ false
answer_is_no_part t x rest = let begins = answer_begins t x in ap (λ (l : List ℕ). begins_part (l ++ rest)) begins.1 ∙ refl

-- ---- what is read may be printed

narrow_parts : (ps : List Part) → AllByRecursion IsPrintablePart ps → AllByRecursion (λ part. IsNarrowCertificate part.body) ps
narrow_parts [] printable = tt
narrow_parts (p ∷ ps) printable = (printable.0.narrow, narrow_parts ps printable.1)

narrow_verdict : (v : Verdict) → IsPrintableVerdict v → IsNarrowVerdict v
narrow_verdict (verdicts.Yes proof) printable = (printable.base, narrow_parts proof.parts printable.parts)
narrow_verdict (verdicts.No proof) printable = (printable.base, narrow_parts proof.parts printable.parts)
narrow_verdict (verdicts.Contradiction proof) printable = (printable.base, narrow_parts proof.parts printable.parts)
narrow_verdict (verdicts.Wide system note) printable = tt

pub read_is_narrow : (name : VerdictName) (c after : Cursor) (v : Verdict) → verdict_at name c ≡ Ok (v, after) → IsNarrowVerdict v
read_is_narrow name c after v e = narrow_verdict v (verdict_sound name c (v, after) e).0.printable
