-- The lines of an entry's body, both ways: what was written is read again, and what is read was so written.
use Rattle.std.proofs.Common.{◌≡◌, ℕ, ◌+◌, true, List, [], ◌∷◌, ◌++◌, length, map, Result, Ok, refl, sym, ap, subst, ◌∙◌, arith, ℤ}
use Rattle.std.specs.Prelude.{codes}
use Rattle.std.specs.Fmt.{signed_decimal}
use Rattle.std.specs.List.{AllByRecursion}
use Rattle.std.proofs.lemmas.Bool.{and_from}
use Rattle.ror_text.specs.Cursor.{Cursor, line_words}
use Rattle.ror_text.specs.Numbers.{number_of}
use Rattle.ror_text.specs.Reading.{◌>>=◌}
use Rattle.ror_text.specs.SpacedLines.{is_word, are_words, line_text}
use Rattle.ror_text.proofs.CursorLemmas.{Spans, line_spans}
use Rattle.ror_text.proofs.NumberLemmas.{is_word-signed_decimal, signed_decimal_some, number_of-signed_decimal, number_of-sound}
use Rattle.ror_text.proofs.ReadingLemmas.{bind_ok}
use Rattle.ror_system.specs.System.{IsNarrow}
use Rattle.ror_system.specs.declared.accept.Multipliers.{Multipliers}
use Rattle.ror_system.specs.declared.accept.Solution.{Solution}
use Rattle.ror_pivot.specs.declared.note.Place.{Place}
use Rattle.ror_pivot.specs.declared.note.WideNote.{WideNote}
use Rattle.ror_pivot.specs.declared.optimum.ClimbNote.{ClimbNote}
use Rattle.ror_pivot.specs.declared.optimum.ClimbPlace.{ClimbPlace}
use Rattle.ror_proof.specs.declared.answer.Certificate.TheVariants as certificates
use Rattle.ror_proof.specs.declared.read.ProofFault.{ProofFault}
use Rattle.ror_proof.specs.Reading.{refutation_at}
use Rattle.ror_proof.specs.Text.{solution_words, multipliers_words, AreNarrow}
use Rattle.ror_proof.specs.Words.{after_word, name_at, no_more, number_in, numbers_at}
use Rattle.ror_proof.proofs.AnswerLemmas.{ended_again, ended_sound}
use Rattle.ror_proof.proofs.LineWords.{multipliers_are_words, certificate_are_words, refutation_again, refutation_sound}
use Rattle.ror_proof.proofs.WordLemmas.{done, ok_is, after_word_again, after_word_sound, no_more_sound, name_again, name_sound, number_again, number_sound, numbers_again, numbers_sound}
use Rattle.ror_discriminate.specs.declared.entry.EntryBody.{EntryBody}
use Rattle.ror_discriminate.specs.declared.entry.EntryBody.TheVariants as bodies
use Rattle.ror_discriminate.specs.declared.names.PathName.{PathName}
use Rattle.ror_discriminate.specs.declared.names.PathName.TheVariants as paths
use Rattle.ror_discriminate.specs.EntryNames.{path_word, path_names}
use Rattle.ror_discriminate.specs.Reading.{number_at, margin_words, margin_line, solution_line_words, solution_line, multipliers_line, none_words, contradiction_words, wide_words, noted_at, place_at, climb_place_at, note_of}
use Rattle.ror_discriminate.specs.Text.{margin_text, place_words, climb_place_words, path_words, IsSmallPlace, IsSmallClimbPlace, IsSmallPath, body_text, IsPrintableBody}
use Rattle.ror_discriminate.proofs.NoteLemmas.{place_are_words, climb_place_are_words, note_are_words, place_again, climb_place_again, place_sound, climb_place_sound, noted_again, noted_sound}

-- ---- a number

number_at_again : (place : ℕ) (z : ℤ) (more : List (List ℕ)) → IsNarrow z → number_at place (signed_decimal z ∷ more) ≡ Ok (z, more)
unfolding number_at
number_at_again place z more narrow = rw (number_again number_of place (signed_decimal z) z (signed_decimal_some z (omega (arith, narrow))) (number_of-signed_decimal z narrow)) refl

number_at_sound : (place : ℕ) (words : List (List ℕ)) (x : ℤ × List (List ℕ)) → number_at place words ≡ Ok x → (words ≡ signed_decimal x.0 ∷ x.1) × IsNarrow x.0
unfolding number_at
number_at_sound place [] x e = absurd cc
number_at_sound place (word ∷ words) x e =
    let a = bind_ok (number_in number_of place word) (λ number. done (number, words)) x e in
    let number = number_of-sound word a.0 (number_sound number_of place word a.0 a.1) in
    subst (λ (y : ℤ × List (List ℕ)). (word ∷ words ≡ signed_decimal y.0 ∷ y.1) × IsNarrow y.0) (ok_is (a.0, words) x a.2) (ap (λ (w : List ℕ). w ∷ words) number.0, number.1)

-- ---- the line of a margin

abbrev spelt_margin : ℤ → ℤ → List (List ℕ)
spelt_margin m t = signed_decimal m ∷ signed_decimal t ∷ []

margin_words_again : (place : ℕ) (m t : ℤ) → IsNarrow m → IsNarrow t → margin_words place (codes "margin" ∷ spelt_margin m t) ≡ Ok (m, t)
unfolding margin_words
margin_words_again place m t first second = rw (after_word_again place (codes "margin") (spelt_margin m t), number_at_again place m (signed_decimal t ∷ []) first, number_at_again place t [] second) refl

pub margin_are_words : (m t : ℤ) → IsNarrow m → IsNarrow t → are_words (codes "margin" ∷ spelt_margin m t) ≡ true
margin_are_words m t first second = and_from (is_word (codes "margin")) _ refl (and_from _ _ (is_word-signed_decimal m (omega (arith, first))) (and_from _ _ (is_word-signed_decimal t (omega (arith, second))) refl))

pub margin_again : (place : ℕ) (m t : ℤ) (rest : List ℕ) → IsNarrow m → IsNarrow t → margin_line (record { place = place; rest = margin_text m t ++ rest }) ≡ Ok ((m, t), record { place = place + length (margin_text m t); rest = rest })
margin_again place m t rest first second = ended_again margin_words place (codes "margin") (spelt_margin m t) rest (m, t) (margin_are_words m t first second) (margin_words_again place m t first second)

abbrev IsMargin : List (List ℕ) → ℤ × ℤ → Type 0
IsMargin words x = (words ≡ codes "margin" ∷ spelt_margin x.0 x.1) × (IsNarrow x.0 × IsNarrow x.1)

margin_words_sound : (place : ℕ) (words : List (List ℕ)) (x : ℤ × ℤ) → margin_words place words ≡ Ok x → IsMargin words x
unfolding margin_words
margin_words_sound place words x e =
    let last = λ (m : ℤ) (total : ℤ × List (List ℕ)). no_more place total.1 >>= λ _. done (m, total.0) in
    let a = bind_ok (after_word place (codes "margin") words) (λ more. number_at place more >>= λ margin. number_at place margin.1 >>= λ total. last margin.0 total) x e in
    let b = bind_ok (number_at place a.0) (λ margin. number_at place margin.1 >>= λ total. last margin.0 total) x a.2 in
    let d = bind_ok (number_at place b.0.1) (λ total. last b.0.0 total) x b.2 in
    let f = bind_ok (no_more place d.0.1) (λ _. done (b.0.0, d.0.0)) x d.2 in
    let margin = number_at_sound place a.0 b.0 b.1 in
    let total = number_at_sound place b.0.1 d.0 d.1 in
    let end : d.0.1 ≡ [] = no_more_sound place d.0.1 f.0 f.1 in
    let is : words ≡ codes "margin" ∷ spelt_margin b.0.0 d.0.0 =
    after_word_sound place (codes "margin") words a.0 a.1
    ∙ ap (λ (more : List (List ℕ)). codes "margin" ∷ more) margin.0
    ∙ ap (λ (more : List (List ℕ)). codes "margin" ∷ signed_decimal b.0.0 ∷ more) total.0
    ∙ ap (λ (more : List (List ℕ)). codes "margin" ∷ signed_decimal b.0.0 ∷ signed_decimal d.0.0 ∷ more) end in
    subst (IsMargin words) (ok_is (b.0.0, d.0.0) x f.2) (is, (margin.1, total.1))

pub record IsMarginLine (c : Cursor) (x : ℤ × ℤ) (after : Cursor) : Type 0 where
  pub words : line_words c ≡ codes "margin" ∷ spelt_margin x.0 x.1
  pub spans : Spans c (margin_text x.0 x.1) after
  pub margin : IsNarrow x.0
  pub total : IsNarrow x.1

pub margin_sound : (c : Cursor) (x : (ℤ × ℤ) × Cursor) → margin_line c ≡ Ok x → IsMarginLine c x.0 x.1
margin_sound c x e =
    let read = ended_sound c (margin_words c.place (line_words c)) x e in
    let said = margin_words_sound c.place (line_words c) x.0 read.words in
    record { words = said.0; spans = line_spans c x.1 (codes "margin" ∷ spelt_margin x.0.0 x.0.1) said.0 read.line; margin = said.1.0; total = said.1.1 }

-- ---- the line of a solution

abbrev solution_read : List ℤ → Result Solution ProofFault
solution_read steps = Ok (record { steps = steps })

solution_words_again : (place : ℕ) (x : Solution) → AllByRecursion IsNarrow x.steps → solution_line_words place (solution_words x.steps) ≡ Ok x
unfolding solution_line_words
solution_words_again place x narrow = rw (after_word_again place (codes "solution") (map signed_decimal x.steps), numbers_again place x.steps narrow) refl

pub solution_again : (place : ℕ) (x : Solution) (rest : List ℕ) → AllByRecursion IsNarrow x.steps → solution_line (record { place = place; rest = line_text (solution_words x.steps) ++ rest }) ≡ Ok (x, record { place = place + length (line_text (solution_words x.steps)); rest = rest })
solution_again place x rest narrow = ended_again solution_line_words place (codes "solution") (map signed_decimal x.steps) rest x (certificate_are_words (certificates.Solution x) narrow) (solution_words_again place x narrow)

solution_words_sound : (place : ℕ) (words : List (List ℕ)) (x : Solution) → solution_line_words place words ≡ Ok x → (words ≡ solution_words x.steps) × AllByRecursion IsNarrow x.steps
unfolding solution_line_words
solution_words_sound place words x e =
    let a = bind_ok (after_word place (codes "solution") words) (λ more. numbers_at place more >>= λ steps. solution_read steps) x e in
    let b = bind_ok (numbers_at place a.0) (λ steps. solution_read steps) x a.2 in
    let numbers = numbers_sound place a.0 b.0 b.1 in
    let is : words ≡ solution_words b.0 = after_word_sound place (codes "solution") words a.0 a.1 ∙ ap (λ (more : List (List ℕ)). codes "solution" ∷ more) numbers.0 in
    subst (λ (y : Solution). (words ≡ solution_words y.steps) × AllByRecursion IsNarrow y.steps) (ok_is (record { steps = b.0 }) x b.2) (is, numbers.1)

pub solution_sound : (c : Cursor) (x : Solution × Cursor) → solution_line c ≡ Ok x → Spans c (line_text (solution_words x.0.steps)) x.1 × AllByRecursion IsNarrow x.0.steps
solution_sound c x e =
    let read = ended_sound c (solution_line_words c.place (line_words c)) x e in
    let said = solution_words_sound c.place (line_words c) x.0 read.words in
    (line_spans c x.1 (solution_words x.0.steps) said.0 read.line, said.1)

-- ---- the line of multipliers

abbrev spelt_multipliers : Multipliers → List (List ℕ)
spelt_multipliers m = map signed_decimal m.weak ++ codes "|" ∷ map signed_decimal m.strict

pub multipliers_again : (place : ℕ) (m : Multipliers) (rest : List ℕ) → AreNarrow m → multipliers_line (record { place = place; rest = line_text (multipliers_words m.weak m.strict) ++ rest }) ≡ Ok (m, record { place = place + length (line_text (multipliers_words m.weak m.strict)); rest = rest })
multipliers_again place m rest narrow = ended_again refutation_at place (codes "multipliers") (spelt_multipliers m) rest m (multipliers_are_words m narrow) (refutation_again place m narrow)

pub multipliers_sound : (c : Cursor) (x : Multipliers × Cursor) → multipliers_line c ≡ Ok x → Spans c (line_text (multipliers_words x.0.weak x.0.strict)) x.1 × AreNarrow x.0
multipliers_sound c x e =
    let read = ended_sound c (refutation_at c.place (line_words c)) x e in
    let said = refutation_sound c.place (line_words c) x.0 read.words in
    (line_spans c x.1 (multipliers_words x.0.weak x.0.strict) said.0 read.line, said.1)

-- ---- bodies of one line

-- such a body, with the words behind its first one, as it is read
pub record IsOneLine (read : ℕ → List (List ℕ) → Result EntryBody ProofFault) (word : List ℕ) (body : EntryBody) : Type 0 where
  pub words : List (List ℕ)
  pub text : body_text body ≡ line_text (word ∷ words)
  pub are : are_words (word ∷ words) ≡ true
  pub again : (place : ℕ) → read place (word ∷ words) ≡ Ok body

pub none_line : IsOneLine none_words (codes "none") bodies.NoStrictRow
unfolding none_words
none_line = record { words = []; text = refl; are = refl; again = λ place. rw (after_word_again place (codes "none") []) refl }

contradiction_again : (place : ℕ) (m : Multipliers) → AreNarrow m → contradiction_words place (codes "contradiction" ∷ multipliers_words m.weak m.strict) ≡ Ok (bodies.Contradiction m)
unfolding contradiction_words
contradiction_again place m narrow = rw (after_word_again place (codes "contradiction") (multipliers_words m.weak m.strict), refutation_again place m narrow) refl

pub contradiction_line : (m : Multipliers) → AreNarrow m → IsOneLine contradiction_words (codes "contradiction") (bodies.Contradiction m)
contradiction_line m narrow = record {
  words = multipliers_words m.weak m.strict;
  text = refl;
  are = and_from (is_word (codes "contradiction")) _ refl (multipliers_are_words m narrow);
  again = λ place. contradiction_again place m narrow;
}

base_again : (place : ℕ) (note : WideNote) → IsSmallPlace note.place → IsSmallPath note.path → wide_words place (codes "wide" ∷ codes "base" ∷ (place_words note.place ++ path_words note.path)) ≡ Ok (bodies.BaseWide note)
unfolding wide_words
base_again place note small steps =
    let words = place_words note.place ++ path_words note.path in
    rw (
      after_word_again place (codes "wide") (codes "base" ∷ words),
      name_again path_word path_names place paths.Base words refl,
      noted_again place_words IsSmallPlace place_at place (place_again place) note.place note.path small steps,
    ) refl

pub base_line : (note : WideNote) → IsSmallPlace note.place → IsSmallPath note.path → IsOneLine wide_words (codes "wide") (bodies.BaseWide note)
base_line note small steps = record {
  words = codes "base" ∷ (place_words note.place ++ path_words note.path);
  text = refl;
  are = and_from (is_word (codes "wide")) _ refl (and_from (is_word (codes "base")) _ refl (note_are_words (place_words note.place) note.path (place_are_words note.place small) steps));
  again = λ place. base_again place note small steps;
}

climb_again : (place : ℕ) (note : ClimbNote) → IsSmallClimbPlace note.place → IsSmallPath note.path → wide_words place (codes "wide" ∷ codes "climb" ∷ (climb_place_words note.place ++ path_words note.path)) ≡ Ok (bodies.ClimbWide note)
unfolding wide_words
climb_again place note small steps =
    let words = climb_place_words note.place ++ path_words note.path in
    rw (
      after_word_again place (codes "wide") (codes "climb" ∷ words),
      name_again path_word path_names place paths.Climb words refl,
      noted_again climb_place_words IsSmallClimbPlace climb_place_at place (climb_place_again place) note.place note.path small steps,
    ) refl

pub climb_line : (note : ClimbNote) → IsSmallClimbPlace note.place → IsSmallPath note.path → IsOneLine wide_words (codes "wide") (bodies.ClimbWide note)
climb_line note small steps = record {
  words = codes "climb" ∷ (climb_place_words note.place ++ path_words note.path);
  text = refl;
  are = and_from (is_word (codes "wide")) _ refl (and_from (is_word (codes "climb")) _ refl (note_are_words (climb_place_words note.place) note.path (climb_place_are_words note.place small) steps));
  again = λ place. climb_again place note small steps;
}

-- what the words of a line were read as
abbrev pub IsReadBody : List (List ℕ) → EntryBody → Type 0
IsReadBody words body = (body_text body ≡ line_text words) × IsPrintableBody body

pub none_sound : (place : ℕ) (words : List (List ℕ)) (body : EntryBody) → none_words place words ≡ Ok body → IsReadBody words body
unfolding none_words
none_sound place words body e =
    let a = bind_ok (after_word place (codes "none") words) (λ more. no_more place more >>= λ _. done bodies.NoStrictRow) body e in
    let b = bind_ok (no_more place a.0) (λ _. done bodies.NoStrictRow) body a.2 in
    let is : words ≡ codes "none" ∷ [] = after_word_sound place (codes "none") words a.0 a.1 ∙ ap (λ (more : List (List ℕ)). codes "none" ∷ more) (no_more_sound place a.0 b.0 b.1) in
    subst (IsReadBody words) (ok_is bodies.NoStrictRow body b.2) (ap line_text (sym is), tt)

pub contradiction_sound : (place : ℕ) (words : List (List ℕ)) (body : EntryBody) → contradiction_words place words ≡ Ok body → IsReadBody words body
unfolding contradiction_words
contradiction_sound place words body e =
    let made = λ (m : Multipliers). done (bodies.Contradiction m) in
    let a = bind_ok (after_word place (codes "contradiction") words) (λ more. refutation_at place more >>= λ m. made m) body e in
    let b = bind_ok (refutation_at place a.0) (λ m. made m) body a.2 in
    let said = refutation_sound place a.0 b.0 b.1 in
    let is : words ≡ codes "contradiction" ∷ multipliers_words b.0.weak b.0.strict = after_word_sound place (codes "contradiction") words a.0 a.1 ∙ ap (λ (more : List (List ℕ)). codes "contradiction" ∷ more) said.0 in
    subst (IsReadBody words) (ok_is (bodies.Contradiction b.0) body b.2) (ap line_text (sym is), said.1)

abbrev pub base_made : Place × List (ℕ × ℕ) → EntryBody
base_made x = bodies.BaseWide (record { path = x.1; place = x.0 })

abbrev pub climb_made : ClimbPlace × List (ℕ × ℕ) → EntryBody
climb_made x = bodies.ClimbWide (record { path = x.1; place = x.0 })

note_sound : (path : PathName) (place : ℕ) (words : List (List ℕ)) (body : EntryBody) → note_of path place words ≡ Ok body → IsReadBody (codes "wide" ∷ path_word path ∷ words) body
note_sound paths.Base place words body e =
    let a = bind_ok (noted_at place_at place words) (λ note. done (base_made note)) body e in
    let said = noted_sound place_words IsSmallPlace place_at place (place_sound place) words a.0 a.1 in
    let is : line_text (codes "wide" ∷ codes "base" ∷ words) ≡ body_text (base_made a.0) = ap (λ (ws : List (List ℕ)). line_text (codes "wide" ∷ codes "base" ∷ ws)) said.0 in
    subst (IsReadBody (codes "wide" ∷ codes "base" ∷ words)) (ok_is (base_made a.0) body a.2) (sym is, said.1)
note_sound paths.Climb place words body e =
    let a = bind_ok (noted_at climb_place_at place words) (λ note. done (climb_made note)) body e in
    let said = noted_sound climb_place_words IsSmallClimbPlace climb_place_at place (climb_place_sound place) words a.0 a.1 in
    let is : line_text (codes "wide" ∷ codes "climb" ∷ words) ≡ body_text (climb_made a.0) = ap (λ (ws : List (List ℕ)). line_text (codes "wide" ∷ codes "climb" ∷ ws)) said.0 in
    subst (IsReadBody (codes "wide" ∷ codes "climb" ∷ words)) (ok_is (climb_made a.0) body a.2) (sym is, said.1)

pub wide_sound : (place : ℕ) (words : List (List ℕ)) (body : EntryBody) → wide_words place words ≡ Ok body → IsReadBody words body
unfolding wide_words
wide_sound place words body e =
    let a = bind_ok (after_word place (codes "wide") words) (λ more. name_at path_word path_names place more >>= λ path. note_of path.0 place path.1) body e in
    let b = bind_ok (name_at path_word path_names place a.0) (λ path. note_of path.0 place path.1) body a.2 in
    let path = name_sound path_word path_names place a.0 b.0 b.1 in
    let is : words ≡ codes "wide" ∷ path_word b.0.0 ∷ b.0.1 = after_word_sound place (codes "wide") words a.0 a.1 ∙ ap (λ (more : List (List ℕ)). codes "wide" ∷ more) path in
    subst (λ (ws : List (List ℕ)). IsReadBody ws body) (sym is) (note_sound b.0.0 place b.0.1 body b.2)
