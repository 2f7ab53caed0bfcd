-- The line of a pair and the line of a level, both ways, and how they begin.
use Rattle.std.proofs.Common.{◌≡◌, ℕ, ◌<◌, ◌+◌, ◌^◌, true, List, [], ◌∷◌, ◌++◌, length, drop, Some, Ok, refl, ap, subst, ◌∙◌, arith}
use Rattle.std.specs.Prelude.{codes}
use Rattle.std.specs.Fmt.{decimal}
use Rattle.std.specs.List.{flat_map}
use Rattle.std.proofs.lemmas.Bool.{and_from}
use Rattle.ror_text.specs.Cursor.{Cursor, line_words}
use Rattle.ror_text.specs.Reading.{◌>>=◌}
use Rattle.ror_text.specs.SpacedLines.{is_word, are_words, line_text}
use Rattle.ror_text.proofs.CursorLemmas.{Spans, line_spans}
use Rattle.ror_text.proofs.NumberLemmas.{is_word-decimal}
use Rattle.ror_text.proofs.ReadingLemmas.{bind_ok}
use Rattle.ror_table.specs.Table.{DecisionTable, IsTable, id_of}
use Rattle.ror_proof.specs.Names.{name_of}
use Rattle.ror_proof.specs.Questions.{alternative_at}
use Rattle.ror_proof.proofs.AnswerLemmas.{id_is_word}
use Rattle.ror_proof.proofs.QuestionLemmas.{alternative_again, alternative_sound}
use Rattle.ror_proof.specs.Text.{answer_text}
use Rattle.ror_proof.specs.Words.{after_word, name_at, no_more, small_number_at}
use Rattle.ror_proof.proofs.WordLemmas.{after_word_again, after_word_sound, no_more_sound, name_again, name_sound, small_number_again, small_number_sound, done, ok_is}
use Rattle.ror_report.specs.Text.{numbered_text}
use Rattle.ror_report.proofs.LineForms.{line_reads_back, line_is_read}
use Rattle.ror_confidence.specs.declared.span.LevelAnswer.{LevelAnswer}
use Rattle.ror_spans.specs.declared.entry.Entry.{Entry}
use Rattle.ror_spans.specs.declared.entry.Entry.TheVariants as entries
use Rattle.ror_spans.specs.declared.entry.Form.{Form}
use Rattle.ror_spans.specs.declared.entry.Form.TheVariants as forms
use Rattle.ror_spans.specs.declared.read.Said.{Said}
use Rattle.ror_spans.specs.declared.read.Said.TheVariants as said
use Rattle.ror_spans.specs.declared.read.Head.{Head}
use Rattle.ror_spans.specs.Reading.{said_words, pair_words, pair_line}
use Rattle.ror_spans.specs.Text.{form_word, form_list, level_answer_text, entry_text}

-- ---- the words after the ids

abbrev pub form_of : Said → Form
form_of (said.Known contradictory necessary possible) = forms.Known
form_of (said.Wide level) = forms.Wide

-- the words after the one of the form
abbrev pub spelt_said : Said → List (List ℕ)
spelt_said (said.Known contradictory necessary possible) =
    decimal contradictory ∷ codes "necessary" ∷ decimal necessary ∷ codes "possible" ∷ decimal possible ∷ []
spelt_said (said.Wide level) = decimal level ∷ []

-- the numbers are those of words
abbrev pub IsSmall : Said → Type 0
IsSmall (said.Known contradictory necessary possible) = (contradictory < 2 ^ 32) × (necessary < 2 ^ 32) × (possible < 2 ^ 32)
IsSmall (said.Wide level) = level < 2 ^ 32

said_again : (place : ℕ) (s : Said) → IsSmall s → said_words (form_of s) place (spelt_said s) ≡ Ok s
unfolding said_words
said_again place (said.Known c n p) small =
    rw (
      small_number_again place c (codes "necessary" ∷ decimal n ∷ codes "possible" ∷ decimal p ∷ []) small.0,
      after_word_again place (codes "necessary") (decimal n ∷ codes "possible" ∷ decimal p ∷ []),
      small_number_again place n (codes "possible" ∷ decimal p ∷ []) small.1,
      after_word_again place (codes "possible") (decimal p ∷ []),
      small_number_again place p [] small.2,
    ) refl
said_again place (said.Wide level) small = rw (small_number_again place level [] small) refl

number_is_word : (n : ℕ) → n < 2 ^ 32 → is_word (decimal n) ≡ true
number_is_word n small = is_word-decimal n (omega (arith, small))

spelt_are_words : (s : Said) → IsSmall s → are_words (spelt_said s) ≡ true
spelt_are_words (said.Known c n p) small =
    and_from _ _ (number_is_word c small.0) (and_from (is_word (codes "necessary")) _ refl (and_from _ _ (number_is_word n small.1) (and_from (is_word (codes "possible")) _ refl (and_from _ _ (number_is_word p small.2) refl))))
spelt_are_words (said.Wide level) small = and_from _ _ (number_is_word level small) refl

-- what was read of these words
record IsReadSaid (form : Form) (ws : List (List ℕ)) (s : Said) : Type 0 where
  form_is : form ≡ form_of s
  is : ws ≡ spelt_said s
  small : IsSmall s

said_sound : (form : Form) (place : ℕ) (ws : List (List ℕ)) (s : Said) → said_words form place ws ≡ Ok s → IsReadSaid form ws s
unfolding said_words
said_sound forms.Known place ws s e =
    let last = λ (c n : ℕ) (possible : ℕ × List (List ℕ)). no_more place possible.1 >>= λ _. done (said.Known c n possible.0) in
    let a = bind_ok (small_number_at place ws) (λ c. after_word place (codes "necessary") c.1 >>= λ more. small_number_at place more >>= λ n. after_word place (codes "possible") n.1 >>= λ rest. small_number_at place rest >>= λ p. last c.0 n.0 p) s e in
    let b = bind_ok (after_word place (codes "necessary") a.0.1) (λ more. small_number_at place more >>= λ n. after_word place (codes "possible") n.1 >>= λ rest. small_number_at place rest >>= λ p. last a.0.0 n.0 p) s a.2 in
    let d = bind_ok (small_number_at place b.0) (λ n. after_word place (codes "possible") n.1 >>= λ rest. small_number_at place rest >>= λ p. last a.0.0 n.0 p) s b.2 in
    let f = bind_ok (after_word place (codes "possible") d.0.1) (λ rest. small_number_at place rest >>= λ p. last a.0.0 d.0.0 p) s d.2 in
    let g = bind_ok (small_number_at place f.0) (λ p. last a.0.0 d.0.0 p) s f.2 in
    let h = bind_ok (no_more place g.0.1) (λ _. done (said.Known a.0.0 d.0.0 g.0.0)) s g.2 in
    let one = small_number_sound place ws a.0 a.1 in
    let two = small_number_sound place b.0 d.0 d.1 in
    let three = small_number_sound place f.0 g.0 g.1 in
    let end : g.0.1 ≡ [] = no_more_sound place g.0.1 h.0 h.1 in
    let is : ws ≡ spelt_said (said.Known a.0.0 d.0.0 g.0.0) =
    one.0
    ∙ ap (λ (more : List (List ℕ)). decimal a.0.0 ∷ more) (after_word_sound place (codes "necessary") a.0.1 b.0 b.1)
    ∙ ap (λ (more : List (List ℕ)). decimal a.0.0 ∷ codes "necessary" ∷ more) two.0
    ∙ ap (λ (more : List (List ℕ)). decimal a.0.0 ∷ codes "necessary" ∷ decimal d.0.0 ∷ more) (after_word_sound place (codes "possible") d.0.1 f.0 f.1)
    ∙ ap (λ (more : List (List ℕ)). decimal a.0.0 ∷ codes "necessary" ∷ decimal d.0.0 ∷ codes "possible" ∷ more) three.0
    ∙ ap (λ (more : List (List ℕ)). decimal a.0.0 ∷ codes "necessary" ∷ decimal d.0.0 ∷ codes "possible" ∷ decimal g.0.0 ∷ more) end in
    subst (IsReadSaid forms.Known ws) (ok_is (said.Known a.0.0 d.0.0 g.0.0) s h.2) (record { form_is = refl; is = is; small = (one.1, two.1, three.1) })
said_sound forms.Wide place ws s e =
    let a = bind_ok (small_number_at place ws) (λ level. no_more place level.1 >>= λ _. done (said.Wide level.0)) s e in
    let b = bind_ok (no_more place a.0.1) (λ _. done (said.Wide a.0.0)) s a.2 in
    let one = small_number_sound place ws a.0 a.1 in
    let end : a.0.1 ≡ [] = no_more_sound place a.0.1 b.0 b.1 in
    let is : ws ≡ spelt_said (said.Wide a.0.0) = one.0 ∙ ap (λ (more : List (List ℕ)). decimal a.0.0 ∷ more) end in
    subst (IsReadSaid forms.Wide ws) (ok_is (said.Wide a.0.0) s b.2) (record { form_is = refl; is = is; small = one.1 })

-- ---- the line of a pair

abbrev pub spelt : DecisionTable → Head → List (List ℕ)
spelt t h = id_of t h.first ∷ id_of t h.second ∷ form_word (form_of h.said) ∷ spelt_said h.said

abbrev pub head_text : DecisionTable → Head → List ℕ
head_text t h = line_text (codes "pair" ∷ spelt t h)

-- the alternatives are of the table, and the numbers those of words
pub record IsHead (t : DecisionTable) (h : Head) : Type 0 where
  pub first : h.first < length t.alternatives
  pub second : h.second < length t.alternatives
  pub small : IsSmall h.said

form_found : (form : Form) → name_of form_word form_list (form_word form) ≡ Some form
form_found forms.Known = refl
form_found forms.Wide = refl

form_is_word : (form : Form) → is_word (form_word form) ≡ true
form_is_word forms.Known = refl
form_is_word forms.Wide = refl

pair_words_again : (t : DecisionTable) (place : ℕ) (h : Head) → IsTable t → IsHead t h → pair_words t place (codes "pair" ∷ spelt t h) ≡ Ok h
unfolding pair_words
pair_words_again t place h table is =
    let form = form_of h.said in
    rw (
      after_word_again place (codes "pair") (spelt t h),
      alternative_again t place h.first (id_of t h.second ∷ form_word form ∷ spelt_said h.said) table is.first,
      alternative_again t place h.second (form_word form ∷ spelt_said h.said) table is.second,
      name_again form_word form_list place form (spelt_said h.said) (form_found form),
      said_again place h.said is.small,
    ) refl

pub pair_again : (t : DecisionTable) (place : ℕ) (h : Head) (rest : List ℕ) → IsTable t → IsHead t h
    → pair_line t (record { place = place; rest = head_text t h ++ rest }) ≡ Ok (h, record { place = place + length (head_text t h); rest = rest })
pair_again t place h rest table is =
    let are : are_words (codes "pair" ∷ spelt t h) ≡ true =
    and_from (is_word (codes "pair")) _ refl (and_from _ _ (id_is_word t h.first table is.first) (and_from _ _ (id_is_word t h.second table is.second) (and_from _ _ (form_is_word (form_of h.said)) (spelt_are_words h.said is.small)))) in
    line_reads_back (pair_words t) h place (codes "pair") (spelt t h) rest are (pair_words_again t place h table is)

abbrev made : ℕ → ℕ → Said → Head
made a b s = record { first = a; second = b; said = s }

pub record IsReadHead (t : DecisionTable) (ws : List (List ℕ)) (h : Head) : Type 0 where
  pub is : ws ≡ codes "pair" ∷ spelt t h
  pub head : IsHead t h

pub pair_words_sound : (t : DecisionTable) (place : ℕ) (ws : List (List ℕ)) (h : Head) → pair_words t place ws ≡ Ok h → IsReadHead t ws h
unfolding pair_words
pair_words_sound t place ws h e =
    let last = λ (m n : ℕ) (form : Form × List (List ℕ)). said_words form.0 place form.1 >>= λ says. done (made m n says) in
    let named = λ (m : ℕ) (second : ℕ × List (List ℕ)). name_at form_word form_list place second.1 >>= λ form. last m second.0 form in
    let a = bind_ok (after_word place (codes "pair") ws) (λ more. alternative_at t place more >>= λ first. alternative_at t place first.1 >>= λ second. named first.0 second) h e in
    let b = bind_ok (alternative_at t place a.0) (λ first. alternative_at t place first.1 >>= λ second. named first.0 second) h a.2 in
    let d = bind_ok (alternative_at t place b.0.1) (λ second. named b.0.0 second) h b.2 in
    let f = bind_ok (name_at form_word form_list place d.0.1) (λ form. last b.0.0 d.0.0 form) h d.2 in
    let g = bind_ok (said_words f.0.0 place f.0.1) (λ says. done (made b.0.0 d.0.0 says)) h f.2 in
    let first = alternative_sound t place a.0 b.0 b.1 in
    let second = alternative_sound t place b.0.1 d.0 d.1 in
    let form = name_sound form_word form_list place d.0.1 f.0 f.1 in
    let says = said_sound f.0.0 place f.0.1 g.0 g.1 in
    let is : ws ≡ codes "pair" ∷ spelt t (made b.0.0 d.0.0 g.0) =
    after_word_sound place (codes "pair") ws a.0 a.1
    ∙ ap (λ (more : List (List ℕ)). codes "pair" ∷ more) first.0
    ∙ ap (λ (more : List (List ℕ)). codes "pair" ∷ id_of t b.0.0 ∷ more) second.0
    ∙ ap (λ (more : List (List ℕ)). codes "pair" ∷ id_of t b.0.0 ∷ id_of t d.0.0 ∷ more) form
    ∙ ap (λ (x : Form). codes "pair" ∷ id_of t b.0.0 ∷ id_of t d.0.0 ∷ form_word x ∷ f.0.1) says.form_is
    ∙ ap (λ (more : List (List ℕ)). codes "pair" ∷ id_of t b.0.0 ∷ id_of t d.0.0 ∷ form_word (form_of g.0) ∷ more) says.is in
    subst (IsReadHead t ws) (ok_is (made b.0.0 d.0.0 g.0) h g.2) (record { is = is; head = record { first = first.1; second = second.1; small = says.small } })

pub record IsPairLine (t : DecisionTable) (c : Cursor) (h : Head) (after : Cursor) : Type 0 where
  pub spans : Spans c (head_text t h) after
  pub head : IsHead t h

pub pair_sound : (t : DecisionTable) (c : Cursor) (x : Head × Cursor) → pair_line t c ≡ Ok x → IsPairLine t c x.0 x.1
pair_sound t c x e =
    let line = line_is_read c (pair_words t c.place (line_words c)) x e in
    let read = pair_words_sound t c.place (line_words c) x.0 line.0 in
    record { spans = line_spans c x.1 (codes "pair" ∷ spelt t x.0) read.is line.1; head = read.head }

-- ---- the line of a level

abbrev pub level_text : ℕ → List ℕ
level_text level = numbered_text (codes "level") level

-- ---- how the pieces begin

level_begins : (level : ℕ) → (more : List ℕ) × (level_text level ≡ codes "level " ++ more)
unfolding line_text
level_begins level = (drop 6 (level_text level), refl)

pub level_answer_begins : (t : DecisionTable) (x : LevelAnswer) → (more : List ℕ) × (level_answer_text t x ≡ codes "level " ++ more)
level_answer_begins t x =
    let head = level_begins x.level in
    let more = answer_text t x.answer in
    (head.0 ++ more, ap (λ (l : List ℕ). l ++ more) head.1)

pair_begins : (t : DecisionTable) (h : Head) → (more : List ℕ) × (head_text t h ≡ codes "pair " ++ more)
unfolding line_text
pair_begins t h = (drop 5 (head_text t h), refl)

pub entry_begins : (t : DecisionTable) (x : Entry) → (more : List ℕ) × (entry_text t x ≡ codes "pair " ++ more)
unfolding entry_text
entry_begins t (entries.Known first second span) =
    let head = pair_begins t (made first second (said.Known span.contradictory span.necessary span.possible)) in
    let more = flat_map (level_answer_text t) span.proof in
    (head.0 ++ more, ap (λ (l : List ℕ). l ++ more) head.1)
entry_begins t (entries.Wide first second found) =
    let head = pair_begins t (made first second (said.Wide found.level)) in
    let more = answer_text t found.answer in
    (head.0 ++ more, ap (λ (l : List ℕ). l ++ more) head.1)
