-- The text of a question, both ways: what was written is read again, and what is read was so written.
use Rattle.std.proofs.Common.{◌≡◌, ℕ, ◌<◌, Bool, true, false, cond, eqb, List, [], ◌∷◌, ◌++◌, length, Result, Ok, Err, refl, sym, ap, subst, ◌∙◌, append_assoc, arith, inl, inr}
use Rattle.std.specs.Prelude.{codes, not}
use Rattle.std.specs.Fmt.{digits}
use Rattle.std.specs.Str.{IsUtf8}
use Rattle.std.proofs.Math.Seq.{take-append_seam}
use Rattle.std.proofs.lemmas.Str.{IsUtf8-drop, IsUtf8-take, IsCharBoundary-after_ascii, IsCharBoundary-at_seam}
use Rattle.std.specs.List.{onto_first, before_first, after_first}
use Rattle.std.proofs.lemmas.Bool.{and_from, not-false}
use Rattle.std.proofs.lemmas.List.{append-nil}
use Rattle.std.proofs.lemmas.List.Folds.{list_all-append}
use Rattle.std.proofs.lemmas.List.Splits.{slice_split-cons_yes, length-slice_split}
use Rattle.ror_text.specs.Cursor.{Cursor, cursor_at, line_words}
use Rattle.ror_text.specs.Lines.{is_line_end}
use Rattle.ror_text.specs.Reading.{◌>>=◌, refuse}
use Rattle.ror_text.specs.SpacedLines.{spaced_words, join_words, are_words, line_text}
use Rattle.ror_text.proofs.LineLemmas.{split_cases}
use Rattle.ror_text.proofs.ReadingLemmas.{bind_ok, refuse_ok}
use Rattle.ror_text.proofs.SpacedLemmas.{join_words-spaced_words, join_words_is_one_line, split_line-append}
use Rattle.ror_statement.specs.declared.question.Question.{Question}
use Rattle.ror_statement.specs.Questions.{property_of}
use Rattle.ror_table.specs.Table.{DecisionTable, IsTable}
use Rattle.ror_proof.specs.declared.answer.Answer.{Answer}
use Rattle.ror_proof.specs.declared.answer.PlaceText.TheVariants.{RowSum}
use Rattle.ror_proof.specs.declared.answer.Verdict.{Verdict}
use Rattle.ror_proof.specs.declared.answer.Verdict.TheVariants as verdicts
use Rattle.ror_proof.specs.declared.read.ProofFault.{ProofFault}
use Rattle.ror_proof.specs.Names.{question_name, question_word, verdict_word}
use Rattle.ror_proof.specs.Printing.{spaced}
use Rattle.ror_proof.specs.Reading.{answer_at, answer_line, answer_words, verdict_at}
use Rattle.ror_proof.specs.Text.{property_words, question_words, answer_text, IsNamed, IsPrintable}
use Rattle.ror_proof.proofs.AnswerLemmas.{ended_sound, head_words_sound, name_is_word, property_are_words, answer_reads_back}
use Rattle.ror_proof.proofs.Utf8Lemmas.{ascii_is_utf8, answer_text_is_utf8}
use Rattle.ror_json.specs.declared.fault.Misfit.TheVariants as misfits
use Rattle.ror_json.specs.Form.{question_text}
use Rattle.ror_json.specs.Reading.{asked, asked_text, is_one_line, question_of}

-- ---- the words of a question have no space and no line feed

question_are_words : (t : DecisionTable) (q : Question) → IsTable t → IsNamed t q → are_words (question_words t q) ≡ true
question_are_words t q table named = and_from _ _ (name_is_word (question_name q)) (property_are_words t (property_of q) table named)

question_is_one_line : (t : DecisionTable) (q : Question) → IsTable t → IsNamed t q → is_one_line (question_text t q) ≡ true
question_is_one_line t q table named = join_words_is_one_line (question_words t q) (question_are_words t q table named)

-- ---- lists of words

-- words are cut at each space apart from what follows
cut_first : {X : Type 0} (b : Bool) (x : X) (xs ys : List (List X)) → 0 < length xs → cond b ([] ∷ (xs ++ ys)) (onto_first x (xs ++ ys)) ≡ cond b ([] ∷ xs) (onto_first x xs) ++ ys
cut_first true x xs ys some = refl
cut_first false x [] ys some = absurd (omega arith)
cut_first false x (word ∷ xs) ys some = refl

spaced_words-append : (xs ys : List ℕ) → spaced_words (xs ++ 32 ∷ ys) ≡ spaced_words xs ++ spaced_words ys
spaced_words-append [] ys = slice_split-cons_yes (λ byte. eqb byte 32) 32 ys refl
spaced_words-append (x ∷ xs) ys =
    let some : 0 < length (spaced_words xs) = omega (arith, length-slice_split (λ byte. eqb byte 32) xs) in
    ap (λ (ws : List (List ℕ)). cond (eqb x 32) ([] ∷ ws) (onto_first x ws)) (spaced_words-append xs ys) ∙ cut_first (eqb x 32) x (spaced_words xs) (spaced_words ys) some

-- lists that end with one word each are the same before it
before_last : (xs ys : List (List ℕ)) (x y : List ℕ) → xs ++ x ∷ [] ≡ ys ++ y ∷ [] → xs ≡ ys
before_last [] [] x y e = refl
before_last [] (b ∷ []) x y e = absurd cc
before_last [] (b ∷ c ∷ ys) x y e = absurd cc
before_last (a ∷ []) [] x y e = absurd cc
before_last (a ∷ c ∷ xs) [] x y e = absurd cc
before_last (a ∷ xs) (b ∷ ys) x y e =
    let head : a ≡ b = cc in
    let tail : xs ++ x ∷ [] ≡ ys ++ y ∷ [] = cc in
    rw head (ap (λ (ws : List (List ℕ)). b ∷ ws) (before_last xs ys x y tail))

join_last : (word : List ℕ) (ws : List (List ℕ)) (last : List ℕ) → join_words (word ∷ (ws ++ last ∷ [])) ≡ join_words (word ∷ ws) ++ 32 ∷ last
join_last word [] last = refl
join_last word (next ∷ ws) last = ap (λ (l : List ℕ). word ++ 32 ∷ l) (join_last next ws last) ∙ sym (append_assoc word (32 ∷ join_words (next ∷ ws)) (32 ∷ last))

pub joined : (word : List ℕ) (ws : List (List ℕ)) → join_words (word ∷ ws) ≡ word ++ spaced ws
joined word [] = sym (append-nil word)
joined word (next ∷ ws) = ap (λ (l : List ℕ). word ++ 32 ∷ l) (joined next ws)

-- ---- the line of the answer

before_end : (line rest : List ℕ) → is_one_line line ≡ true → before_first is_line_end (line ++ 10 ∷ rest) ≡ line
before_end line rest one =
    let split = split_line-append line rest one in
    elim (split_cases (line ++ 10 ∷ rest)) [
      | inl found ↦
          let pair : (line, rest) ≡ (before_first is_line_end (line ++ 10 ∷ rest), after_first is_line_end (line ++ 10 ∷ rest)) = cc in
          ap (λ (p : List ℕ × List ℕ). p.0) (sym pair)
      | inr none ↦ absurd cc
    ]

-- the tail of the text that a question is read in
abbrev rest_text : List ℕ
rest_text = codes "wide 0 rowsum 0 path" ++ 10 ∷ []

abbrev asked_line : List ℕ → List ℕ
asked_line text = codes "answer " ++ (text ++ codes " wide")

asked_text_is : (text : List ℕ) → asked_text text ≡ asked_line text ++ 10 ∷ rest_text
asked_text_is text = ap (λ (l : List ℕ). codes "answer " ++ l) (sym (append_assoc text (codes " wide") (10 ∷ rest_text)))

asked_line_is_one : (text : List ℕ) → is_one_line text ≡ true → is_one_line (asked_line text) ≡ true
asked_line_is_one text one = list_all-append (λ byte. not (eqb byte 10)) text (codes " wide") ∙ and_from _ _ one refl

asked_words : (text : List ℕ) → is_one_line text ≡ true → line_words (cursor_at (asked_text text) 0) ≡ codes "answer" ∷ (spaced_words text ++ codes "wide" ∷ [])
unfolding line_words
asked_words text one =
    let line : before_first is_line_end (asked_text text) ≡ asked_line text = ap (before_first is_line_end) (asked_text_is text) ∙ before_end (asked_line text) rest_text (asked_line_is_one text one) in
    ap spaced_words line ∙ spaced_words-append (codes "answer") (text ++ codes " wide") ∙ ap (λ (ws : List (List ℕ)). codes "answer" ∷ ws) (spaced_words-append text (codes "wide"))

-- ---- both ways

asked_ok : (r : Result (Answer × Cursor) ProofFault) (q : Question) → asked r ≡ Ok q → (x : Answer × Cursor) × (r ≡ Ok x) × (x.0.question ≡ q)
asked_ok (Ok x) q e = (x, refl, cc)
asked_ok (Err fault) q e = absurd cc

pub question_sound : (t : DecisionTable) (text : List ℕ) (q : Question) → question_of t text ≡ Ok q → (text ≡ question_text t q) × IsNamed t q
unfolding question_of answer_at
question_sound t text q e =
    let c = cursor_at (asked_text text) 0 in
    let a = bind_ok (refuse misfits.Shape (not (is_one_line text))) (λ _. asked (answer_at t c)) q e in
    let one : is_one_line text ≡ true = not-false _ (refuse_ok misfits.Shape (not (is_one_line text)) a.0 a.1) in
    let read = asked_ok (answer_at t c) q a.2 in
    let head = bind_ok (answer_line t c) (λ head. verdict_at head.0.1 head.1 >>= λ verdict. answer_made head.0.0 verdict) read.0 read.1 in
    let verdict = bind_ok (verdict_at head.0.0.1 head.0.1) (λ verdict. answer_made head.0.0.0 verdict) read.0 head.2 in
    let said = ended_sound c (answer_words t c.place (line_words c)) head.0 head.1 in
    let words = head_words_sound t c.place (line_words c) head.0.0 said.words in
    let whole : codes "answer" ∷ (spaced_words text ++ codes "wide" ∷ []) ≡ codes "answer" ∷ (question_words t head.0.0.0 ++ verdict_word head.0.0.1 ∷ []) = sym (asked_words text one) ∙ words.0 in
    let tails : spaced_words text ++ codes "wide" ∷ [] ≡ question_words t head.0.0.0 ++ verdict_word head.0.0.1 ∷ [] = cc in
    let same = before_last (spaced_words text) (question_words t head.0.0.0) (codes "wide") (verdict_word head.0.0.1) tails in
    let text_is : text ≡ question_text t head.0.0.0 = sym (join_words-spaced_words text) ∙ ap join_words same in
    let question : head.0.0.0 ≡ q = ap (λ (x : Answer × Cursor). x.0.question) (ok_made head.0.0.0 verdict.0 read.0 verdict.2) ∙ read.2 in
    subst (λ (y : Question). (text ≡ question_text t y) × IsNamed t y) question (text_is, words.1)
  where
    answer_made : Question → Verdict × Cursor → Result (Answer × Cursor) ProofFault
    answer_made q verdict = Ok (record { question = q; verdict = verdict.0 }, verdict.1)

    ok_made : (q : Question) (verdict : Verdict × Cursor) (x : Answer × Cursor) → answer_made q verdict ≡ Ok x → (record { question = q; verdict = verdict.0 }, verdict.1) ≡ x
    ok_made q verdict x e = cc

-- the answer in whose text a question is read
abbrev unsettled : Question → Answer
unsettled q = record { question = q; verdict = verdicts.Wide 0 (record { path = []; place = RowSum 0 }) }

unsettled_text : (t : DecisionTable) (q : Question) → asked_text (question_text t q) ≡ answer_text t (unsettled q)
unfolding answer_text line_text digits
unsettled_text t q =
    let words = property_words t (property_of q) in
    let last = join_last (question_word (question_name q)) words (codes "wide") in
    let text = question_text t q in
    let tail : (join_words (question_word (question_name q) ∷ (words ++ codes "wide" ∷ [])) ++ 10 ∷ []) ++ rest_text ≡ text ++ (codes " wide" ++ 10 ∷ rest_text) =
    ap (λ (l : List ℕ). (l ++ 10 ∷ []) ++ rest_text) last ∙ append_assoc (text ++ codes " wide") (10 ∷ []) rest_text ∙ append_assoc text (codes " wide") (10 ∷ rest_text) in
    ap (λ (l : List ℕ). codes "answer " ++ l) (sym tail)

pub question_again : (t : DecisionTable) (q : Question) → IsTable t → IsNamed t q → question_of t (question_text t q) ≡ Ok q
unfolding question_of
question_again t q table named =
    let one = question_is_one_line t q table named in
    let x = unsettled q in
    let printable : IsPrintable t x = record { named = named; concluded = record { number = omega arith; place = (omega arith, tt); path = tt } } in
    let back = answer_reads_back t x 0 [] table printable refl in
    let text : asked_text (question_text t q) ≡ answer_text t x ++ [] = unsettled_text t q ∙ sym (append-nil (answer_text t x)) in
    rw (one, text, back) refl

-- the text is UTF-8, since that of an answer is
pub question_text_is_utf8 : (t : DecisionTable) (q : Question) → IsTable t → IsNamed t q → IsUtf8 (question_text t q)
question_text_is_utf8 t q table named =
    let x = unsettled q in
    let text = question_text t q in
    let rest = codes " wide" ++ 10 ∷ rest_text in
    let printable : IsPrintable t x = record { named = named; concluded = record { number = omega arith; place = (omega arith, tt); path = tt } } in
    let whole : IsUtf8 (asked_text text) = subst IsUtf8 (sym (unsettled_text t q)) (answer_text_is_utf8 t x table printable) in
    let begun = IsCharBoundary-after_ascii (asked_text text) 6 whole (omega arith) (omega arith) in
    let behind : IsUtf8 (text ++ rest) = IsUtf8-drop (asked_text text) 7 whole begun in
    let seam = IsCharBoundary-at_seam (text ++ rest) text rest refl (ascii_is_utf8 rest refl) in
    subst IsUtf8 (take-append_seam text rest) (IsUtf8-take (text ++ rest) (length text) behind seam)
