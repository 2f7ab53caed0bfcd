-- What is read of a command's words is what they spell.
use Rattle.std.proofs.Common.{◌≡◌, ℕ, ◌<◌, Bool, true, false, not, eqb, List, [], ◌∷◌, length, drop, Option, Some, None, Result, Ok, Err, refl, sym, ap, subst, ◌∙◌, inl, inr, arith}
use Rattle.std.specs.Prelude.{codes, IfErr}
use Rattle.std.specs.Str.{bytes_eq}
use Rattle.std.proofs.lemmas.Bool.{cases_Bool, eqb-true}
use Rattle.ror_text.specs.Numbers.{count_of}
use Rattle.ror_text.specs.Reading.{◌>>=◌, refuse, need}
use Rattle.ror_text.proofs.ReadingLemmas.{bind_ok, need_ok}
use Rattle.ror_text.specs.Lines.{word_at}
use Rattle.ror_session.specs.Grammar.{LineWords, on_criterion, strength_words, SpellsStatement, SpellsQuestion, WritesCount, Spells}
use Rattle.ror_session.specs.Command.{pair_at, two_names, criterion_of, two_pairs, statement_of, necessary_question, possible_question, question_of, count_at, class_statement, name_and_class, classes_question, withdrawal, replacement, command_of}
use Rattle.ror_session.specs.declared.command.NameAndClass.{NameAndClass}
use Rattle.ror_session.specs.declared.command.TwoPairs.{TwoPairs}
use Rattle.ror_session.specs.declared.session.NamedPair.{NamedPair}
use Rattle.ror_session.specs.declared.session.Named.{Named}
use Rattle.ror_session.specs.declared.session.Named.TheVariants.{Prefer, AtLeast, Same, Stronger, AsStrong, EqualStrength, Class}
use Rattle.ror_session.specs.declared.session.Asked.{Asked}
use Rattle.ror_session.specs.declared.session.Asked.TheVariants.{Consistent, Necessary, Possible, NecessaryStrength, PossibleStrength, PossibleClass, NecessaryClass, Classes, Relation}
use Rattle.ror_session.specs.declared.session.Command.{Command}
use Rattle.ror_session.specs.declared.session.Command.TheVariants.{State, Withdraw, Replace, Repair, Undo, Ask}
use Rattle.ror_session.specs.declared.session.SessionFault.{SessionFault}
use Rattle.ror_session.specs.declared.session.SessionFault.TheVariants.{BadLine}
use Rattle.ror_session.proofs.DeskLemmas.{same_bytes}

-- ---- words by their number

one_word : (ws : LineWords) → length ws ≡ 1 → ws ≡ word_at ws 0 ∷ []
one_word [] n = absurd (omega arith)
one_word (a ∷ []) n = refl
one_word (a ∷ b ∷ more) n = absurd (omega arith)

two_words : (ws : LineWords) → length ws ≡ 2 → ws ≡ word_at ws 0 ∷ word_at ws 1 ∷ []
two_words [] n = absurd (omega arith)
two_words (a ∷ more) n = ap (λ (rest : LineWords). a ∷ rest) (one_word more (omega arith))

three_words : (ws : LineWords) → length ws ≡ 3 → ws ≡ word_at ws 0 ∷ word_at ws 1 ∷ word_at ws 2 ∷ []
three_words [] n = absurd (omega arith)
three_words (a ∷ more) n = ap (λ (rest : LineWords). a ∷ rest) (two_words more (omega arith))

four_words : (ws : LineWords) → length ws ≡ 4 → ws ≡ word_at ws 0 ∷ word_at ws 1 ∷ word_at ws 2 ∷ word_at ws 3 ∷ []
four_words [] n = absurd (omega arith)
four_words (a ∷ more) n = ap (λ (rest : LineWords). a ∷ rest) (three_words more (omega arith))

five_words : (ws : LineWords) → length ws ≡ 5 → ws ≡ word_at ws 0 ∷ word_at ws 1 ∷ word_at ws 2 ∷ word_at ws 3 ∷ word_at ws 4 ∷ []
five_words [] n = absurd (omega arith)
five_words (a ∷ []) n = absurd (omega arith)
five_words (a ∷ b ∷ more) n = ap (λ (rest : LineWords). a ∷ b ∷ rest) (three_words more (omega arith))

seven_words : (ws : LineWords) → length ws ≡ 7 → ws ≡ word_at ws 0 ∷ word_at ws 1 ∷ word_at ws 2 ∷ word_at ws 3 ∷ word_at ws 4 ∷ word_at ws 5 ∷ word_at ws 6 ∷ []
seven_words [] n = absurd (omega arith)
seven_words (a ∷ []) n = absurd (omega arith)
seven_words (a ∷ b ∷ more) n = ap (λ (rest : LineWords). a ∷ b ∷ rest) (five_words more (omega arith))

-- the tests of a word and of the number of words, where they did not refuse
not_refused : (fault : SessionFault) (test : Bool) (x : Unit {0}) → refuse fault (not test) ≡ Ok x → test ≡ true
not_refused fault true x e = refl
not_refused fault false x e = absurd cc

-- ---- two names, and two pairs

two_names-sound : (line : ℕ) (ws : LineWords) (p : NamedPair) → two_names line ws ≡ Ok p → ws ≡ word_at ws 0 ∷ p.first ∷ p.second ∷ []
unfolding two_names
two_names-sound line ws p e =
    let b = bind_ok (refuse (BadLine line) (not (eqb (length ws) 3))) _ p e in
    let number : length ws ≡ 3 = eqb-true (length ws) 3 (not_refused (BadLine line) (eqb (length ws) 3) b.0 b.1) in
    let same : pair_at ws 1 ≡ p = let h = b.2 in cc in
    subst (λ (q : NamedPair). ws ≡ word_at ws 0 ∷ q.first ∷ q.second ∷ []) same (three_words ws number)

criterion_of-sound : (line : ℕ) (ws : LineWords) (on : Option (List ℕ)) → criterion_of line ws ≡ Ok on → ws ≡ word_at ws 0 ∷ word_at ws 1 ∷ word_at ws 2 ∷ word_at ws 3 ∷ word_at ws 4 ∷ on_criterion on
unfolding criterion_of
criterion_of-sound line ws on e = elim (cases_Bool (eqb (length ws) 5)) [
  | inl five ↦
      let same : None ≡ on = let h = rw five at e in cc in
      subst (λ (o : Option (List ℕ)). ws ≡ word_at ws 0 ∷ word_at ws 1 ∷ word_at ws 2 ∷ word_at ws 3 ∷ word_at ws 4 ∷ on_criterion o) same (five_words ws (eqb-true (length ws) 5 five))
  | inr other ↦
      let a = bind_ok (refuse (BadLine line) (not (eqb (length ws) 7))) _ on (rw other at e) in
      let b = bind_ok (refuse (BadLine line) (not (bytes_eq (word_at ws 5) (codes "on")))) _ on a.2 in
      let number : length ws ≡ 7 = eqb-true (length ws) 7 (not_refused (BadLine line) (eqb (length ws) 7) a.0 a.1) in
      let is_on : word_at ws 5 ≡ codes "on" = same_bytes (word_at ws 5) (codes "on") (not_refused (BadLine line) (bytes_eq (word_at ws 5) (codes "on")) b.0 b.1) in
      let same : Some (word_at ws 6) ≡ on = let h = b.2 in cc in
      subst (λ (o : Option (List ℕ)). ws ≡ word_at ws 0 ∷ word_at ws 1 ∷ word_at ws 2 ∷ word_at ws 3 ∷ word_at ws 4 ∷ on_criterion o) same (seven_words ws number ∙ ap (λ (w : List ℕ). word_at ws 0 ∷ word_at ws 1 ∷ word_at ws 2 ∷ word_at ws 3 ∷ word_at ws 4 ∷ w ∷ word_at ws 6 ∷ []) is_on)
]

two_pairs-sound : (line : ℕ) (ws : LineWords) (t : TwoPairs) → two_pairs line ws ≡ Ok t → ws ≡ word_at ws 0 ∷ strength_words t.first t.second t.criterion
unfolding two_pairs
two_pairs-sound line ws t e =
    let b = bind_ok (criterion_of line ws) _ t e in
    let same : record { first = pair_at ws 1; second = pair_at ws 3; criterion = b.0 } ≡ t = let h = b.2 in cc in
    subst (λ (u : TwoPairs). ws ≡ word_at ws 0 ∷ strength_words u.first u.second u.criterion) same (criterion_of-sound line ws b.0 b.1)

two_pairs-again : (line : ℕ) (verb : List ℕ) (p q : NamedPair) (on : Option (List ℕ)) → two_pairs line (verb ∷ strength_words p q on) ≡ Ok (record { first = p; second = q; criterion = on })
unfolding two_pairs criterion_of
two_pairs-again line verb p q None = refl
two_pairs-again line verb p q (Some name) = refl

two_names-again : (line : ℕ) (verb a b : List ℕ) → two_names line (verb ∷ a ∷ b ∷ []) ≡ Ok (record { first = a; second = b })
unfolding two_names
two_names-again line verb a b = refl

-- a form of two names, and one of two pairs
of_names : {A : Type 0} (Spell : LineWords → A → Type 0) (make : List ℕ → List ℕ → A) (verb : List ℕ) → ((ws : LineWords) (a b : List ℕ) → ws ≡ verb ∷ a ∷ b ∷ [] → Spell ws (make a b)) → (line : ℕ) (ws : LineWords) (x : A) → bytes_eq (word_at ws 0) verb ≡ true → (two_names line ws >>= λ p. Ok (make p.first p.second)) ≡ Ok x → Spell ws x
of_names Spell make verb spells line ws x hit e =
    let b = bind_ok (two_names line ws) (λ p. Ok (make p.first p.second)) x e in
    let same : make b.0.first b.0.second ≡ x = let h = b.2 in cc in
    let is : ws ≡ verb ∷ b.0.first ∷ b.0.second ∷ [] = two_names-sound line ws b.0 b.1 ∙ ap (λ (w : List ℕ). w ∷ b.0.first ∷ b.0.second ∷ []) (same_bytes (word_at ws 0) verb hit) in
    subst (Spell ws) same (spells ws b.0.first b.0.second is)

of_pairs : {A : Type 0} (Spell : LineWords → A → Type 0) (make : NamedPair → NamedPair → Option (List ℕ) → A) (verb : List ℕ) → ((ws : LineWords) (p q : NamedPair) (on : Option (List ℕ)) → ws ≡ verb ∷ strength_words p q on → Spell ws (make p q on)) → (line : ℕ) (ws : LineWords) (x : A) → bytes_eq (word_at ws 0) verb ≡ true → (two_pairs line ws >>= λ t. Ok (make t.first t.second t.criterion)) ≡ Ok x → Spell ws x
of_pairs Spell make verb spells line ws x hit e =
    let b = bind_ok (two_pairs line ws) (λ t. Ok (make t.first t.second t.criterion)) x e in
    let t : TwoPairs = b.0 in
    let same : make t.first t.second t.criterion ≡ x = let h = b.2 in cc in
    let is : ws ≡ verb ∷ strength_words t.first t.second t.criterion = two_pairs-sound line ws t b.1 ∙ ap (λ (w : List ℕ). w ∷ strength_words t.first t.second t.criterion) (same_bytes (word_at ws 0) verb hit) in
    subst (Spell ws) same (spells ws t.first t.second t.criterion is)

-- a form of one word
of_one : {A : Type 0} (Spell : LineWords → A → Type 0) (made : A) (verb : List ℕ) → ((ws : LineWords) → ws ≡ verb ∷ [] → Spell ws made) → (line : ℕ) (ws : LineWords) (x : A) → bytes_eq (word_at ws 0) verb ≡ true → (refuse (BadLine line) (not (eqb (length ws) 1)) >>= λ _. Ok made) ≡ Ok x → Spell ws x
of_one Spell made verb spells line ws x hit e =
    let b = bind_ok (refuse (BadLine line) (not (eqb (length ws) 1))) (λ _. Ok made) x e in
    let number : length ws ≡ 1 = eqb-true (length ws) 1 (not_refused (BadLine line) (eqb (length ws) 1) b.0 b.1) in
    let same : made ≡ x = let h = b.2 in cc in
    let is : ws ≡ verb ∷ [] = one_word ws number ∙ ap (λ (w : List ℕ). w ∷ []) (same_bytes (word_at ws 0) verb hit) in
    subst (Spell ws) same (spells ws is)

-- ---- counts and classes

count_is : (line i : ℕ) (ws : LineWords) (n : ℕ) → count_at line ws i ≡ Ok n → WritesCount (word_at ws i) n
unfolding count_at
count_is line i ws n e = need_ok (BadLine line) (count_of (word_at ws i)) n e

class_statement-sound : (line : ℕ) (ws : LineWords) (named : Named) → bytes_eq (word_at ws 0) (codes "class") ≡ true → class_statement line ws ≡ Ok named → SpellsStatement ws named
unfolding class_statement
class_statement-sound line ws named hit e =
    let a = bind_ok (refuse (BadLine line) (not (eqb (length ws) 4))) _ named e in
    let b = bind_ok (count_at line ws 2) _ named a.2 in
    let d = bind_ok (count_at line ws 3) _ named b.2 in
    let number : length ws ≡ 4 = eqb-true (length ws) 4 (not_refused (BadLine line) (eqb (length ws) 4) a.0 a.1) in
    let same : Class (word_at ws 1) b.0 d.0 ≡ named = let h = d.2 in cc in
    let is : ws ≡ codes "class" ∷ word_at ws 1 ∷ word_at ws 2 ∷ word_at ws 3 ∷ [] = four_words ws number ∙ ap (λ (w : List ℕ). w ∷ word_at ws 1 ∷ word_at ws 2 ∷ word_at ws 3 ∷ []) (same_bytes (word_at ws 0) (codes "class") hit) in
    subst (SpellsStatement ws) same (word_at ws 2, word_at ws 3, is, count_is line 2 ws b.0 b.1, count_is line 3 ws d.0 d.1)

class_statement-again : (line : ℕ) (a low high : List ℕ) (lowest highest : ℕ) → WritesCount low lowest → WritesCount high highest → class_statement line (codes "class" ∷ a ∷ low ∷ high ∷ []) ≡ Ok (Class a lowest highest)
unfolding class_statement count_at
class_statement-again line a low high lowest highest h k = rw (h, k) refl

-- a form of a name and a class
of_class : {A : Type 0} (Spell : LineWords → A → Type 0) (make : List ℕ → ℕ → A) (verb : List ℕ) → ((ws : LineWords) (a word : List ℕ) (n : ℕ) → ws ≡ verb ∷ a ∷ word ∷ [] → WritesCount word n → Spell ws (make a n)) → (line : ℕ) (ws : LineWords) (x : A) → bytes_eq (word_at ws 0) verb ≡ true → (name_and_class line ws >>= λ c. Ok (make c.name c.number)) ≡ Ok x → Spell ws x
unfolding name_and_class
of_class Spell make verb spells line ws x hit e =
    let whole = bind_ok (name_and_class line ws) (λ c. Ok (make c.name c.number)) x e in
    let c : NameAndClass = whole.0 in
    let a = bind_ok (refuse (BadLine line) (not (eqb (length ws) 3))) _ c whole.1 in
    let b = bind_ok (count_at line ws 2) _ c a.2 in
    let number : length ws ≡ 3 = eqb-true (length ws) 3 (not_refused (BadLine line) (eqb (length ws) 3) a.0 a.1) in
    let named : record { name = word_at ws 1; number = b.0 } ≡ c = let h = b.2 in cc in
    let same : make c.name c.number ≡ x = let h = whole.2 in cc in
    let is : ws ≡ verb ∷ word_at ws 1 ∷ word_at ws 2 ∷ [] = three_words ws number ∙ ap (λ (w : List ℕ). w ∷ word_at ws 1 ∷ word_at ws 2 ∷ []) (same_bytes (word_at ws 0) verb hit) in
    subst (Spell ws) (ap (λ (y : NameAndClass). make y.name y.number) named ∙ same) (spells ws (word_at ws 1) (word_at ws 2) b.0 is (count_is line 2 ws b.0 b.1))

name_and_class-again : (line : ℕ) (verb a word : List ℕ) (n : ℕ) → WritesCount word n → name_and_class line (verb ∷ a ∷ word ∷ []) ≡ Ok (record { name = a; number = n })
unfolding name_and_class count_at
name_and_class-again line verb a word n h = rw h refl

classes-sound : (line : ℕ) (ws : LineWords) (asked : Asked) → bytes_eq (word_at ws 0) (codes "classes") ≡ true → classes_question line ws ≡ Ok asked → SpellsQuestion ws asked
unfolding classes_question
classes-sound line ws asked hit e =
    let a = bind_ok (refuse (BadLine line) (not (eqb (length ws) 2))) _ asked e in
    let number : length ws ≡ 2 = eqb-true (length ws) 2 (not_refused (BadLine line) (eqb (length ws) 2) a.0 a.1) in
    let same : Classes (word_at ws 1) ≡ asked = let h = a.2 in cc in
    let is : ws ≡ codes "classes" ∷ word_at ws 1 ∷ [] = two_words ws number ∙ ap (λ (w : List ℕ). w ∷ word_at ws 1 ∷ []) (same_bytes (word_at ws 0) (codes "classes") hit) in
    subst (SpellsQuestion ws) same is

-- ---- statements

pub statement_of-sound : (line : ℕ) (ws : LineWords) (named : Named) → statement_of line ws ≡ Ok named → SpellsStatement ws named
unfolding statement_of
statement_of-sound line ws named e = elim (cases_Bool (bytes_eq (word_at ws 0) (codes "prefer"))) [
  | inl hit ↦ of_names SpellsStatement Prefer (codes "prefer") (λ words a b is. is) line ws named hit (rw hit at e)
  | inr not_prefer ↦ let e1 = rw not_prefer at e in elim (cases_Bool (bytes_eq (word_at ws 0) (codes "atleast"))) [
    | inl hit ↦ of_names SpellsStatement AtLeast (codes "atleast") (λ words a b is. is) line ws named hit (rw hit at e1)
    | inr not_atleast ↦ let e2 = rw not_atleast at e1 in elim (cases_Bool (bytes_eq (word_at ws 0) (codes "same"))) [
      | inl hit ↦ of_names SpellsStatement Same (codes "same") (λ words a b is. is) line ws named hit (rw hit at e2)
      | inr not_same ↦ let e3 = rw not_same at e2 in elim (cases_Bool (bytes_eq (word_at ws 0) (codes "stronger"))) [
        | inl hit ↦ of_pairs SpellsStatement Stronger (codes "stronger") (λ words p q on is. is) line ws named hit (rw hit at e3)
        | inr not_stronger ↦ let e4 = rw not_stronger at e3 in elim (cases_Bool (bytes_eq (word_at ws 0) (codes "asstrong"))) [
          | inl hit ↦ of_pairs SpellsStatement AsStrong (codes "asstrong") (λ words p q on is. is) line ws named hit (rw hit at e4)
          | inr not_asstrong ↦ let e5 = rw not_asstrong at e4 in elim (cases_Bool (bytes_eq (word_at ws 0) (codes "equal"))) [
            | inl hit ↦ of_pairs SpellsStatement EqualStrength (codes "equal") (λ words p q on is. is) line ws named hit (rw hit at e5)
            | inr not_equal ↦ let e6 = rw not_equal at e5 in elim (cases_Bool (bytes_eq (word_at ws 0) (codes "class"))) [
              | inl hit ↦ class_statement-sound line ws named hit (rw hit at e6)
              | inr not_class ↦ absurd (let e7 = rw not_class at e6 in cc)
            ]
          ]
        ]
      ]
    ]
  ]
]

pub statement_of-again : (line : ℕ) (ws : LineWords) (named : Named) → SpellsStatement ws named → statement_of line ws ≡ Ok named
unfolding statement_of
statement_of-again line ws (Prefer a b) h = ap (statement_of line) h ∙ rw (two_names-again line (codes "prefer") a b) refl
statement_of-again line ws (AtLeast a b) h = ap (statement_of line) h ∙ rw (two_names-again line (codes "atleast") a b) refl
statement_of-again line ws (Same a b) h = ap (statement_of line) h ∙ rw (two_names-again line (codes "same") a b) refl
statement_of-again line ws (Stronger p q on) h = ap (statement_of line) h ∙ rw (two_pairs-again line (codes "stronger") p q on) refl
statement_of-again line ws (AsStrong p q on) h = ap (statement_of line) h ∙ rw (two_pairs-again line (codes "asstrong") p q on) refl
statement_of-again line ws (EqualStrength p q on) h = ap (statement_of line) h ∙ rw (two_pairs-again line (codes "equal") p q on) refl
statement_of-again line ws (Class a lowest highest) h = ap (statement_of line) h.2 ∙ class_statement-again line a h.0 h.1 lowest highest h.3 h.4

-- a statement has words
some_statement : (line : ℕ) (ws : LineWords) (named : Named) → statement_of line ws ≡ Ok named → 0 < length ws
unfolding statement_of
some_statement line [] named e = absurd cc
some_statement line (w ∷ ws) named e = omega arith

-- ---- questions

necessary-sound : (line : ℕ) (ws : LineWords) (asked : Asked) → bytes_eq (word_at ws 0) (codes "necessary") ≡ true → necessary_question line ws ≡ Ok asked → SpellsQuestion ws asked
unfolding necessary_question
necessary-sound line ws asked hit e = elim (cases_Bool (eqb (length ws) 3)) [
  | inl three ↦ of_names SpellsQuestion Necessary (codes "necessary") (λ words a b is. is) line ws asked hit (rw three at e)
  | inr other ↦ of_pairs SpellsQuestion NecessaryStrength (codes "necessary") (λ words p q on is. is) line ws asked hit (rw other at e)
]

possible-sound : (line : ℕ) (ws : LineWords) (asked : Asked) → bytes_eq (word_at ws 0) (codes "possible") ≡ true → possible_question line ws ≡ Ok asked → SpellsQuestion ws asked
unfolding possible_question
possible-sound line ws asked hit e = elim (cases_Bool (eqb (length ws) 3)) [
  | inl three ↦ of_names SpellsQuestion Possible (codes "possible") (λ words a b is. is) line ws asked hit (rw three at e)
  | inr other ↦ of_pairs SpellsQuestion PossibleStrength (codes "possible") (λ words p q on is. is) line ws asked hit (rw other at e)
]

pub question_of-sound : (line : ℕ) (ws : LineWords) (asked : Asked) → question_of line ws ≡ Ok asked → SpellsQuestion ws asked
unfolding question_of
question_of-sound line ws asked e = elim (cases_Bool (bytes_eq (word_at ws 0) (codes "consistent"))) [
  | inl hit ↦ of_one SpellsQuestion Consistent (codes "consistent") (λ words is. is) line ws asked hit (rw hit at e)
  | inr not_consistent ↦ let e1 = rw not_consistent at e in elim (cases_Bool (bytes_eq (word_at ws 0) (codes "necessary"))) [
    | inl hit ↦ necessary-sound line ws asked hit (rw hit at e1)
    | inr not_necessary ↦ let e2 = rw not_necessary at e1 in elim (cases_Bool (bytes_eq (word_at ws 0) (codes "possible"))) [
      | inl hit ↦ possible-sound line ws asked hit (rw hit at e2)
      | inr not_possible ↦ let e3 = rw not_possible at e2 in elim (cases_Bool (bytes_eq (word_at ws 0) (codes "possible-class"))) [
        | inl hit ↦ of_class SpellsQuestion PossibleClass (codes "possible-class") (λ words a word n is writes. (word, is, writes)) line ws asked hit (rw hit at e3)
        | inr not_possible_class ↦ let e4 = rw not_possible_class at e3 in elim (cases_Bool (bytes_eq (word_at ws 0) (codes "necessary-class"))) [
          | inl hit ↦ of_class SpellsQuestion NecessaryClass (codes "necessary-class") (λ words a word n is writes. (word, is, writes)) line ws asked hit (rw hit at e4)
          | inr not_necessary_class ↦ let e5 = rw not_necessary_class at e4 in elim (cases_Bool (bytes_eq (word_at ws 0) (codes "classes"))) [
            | inl hit ↦ classes-sound line ws asked hit (rw hit at e5)
            | inr not_classes ↦ let e6 = rw not_classes at e5 in elim (cases_Bool (bytes_eq (word_at ws 0) (codes "relation"))) [
              | inl hit ↦ of_one SpellsQuestion Relation (codes "relation") (λ words is. is) line ws asked hit (rw hit at e6)
              | inr not_relation ↦ absurd (let e7 = rw not_relation at e6 in cc)
            ]
          ]
        ]
      ]
    ]
  ]
]

more_than_three : (p q : NamedPair) (verb : List ℕ) (on : Option (List ℕ)) → eqb (length (verb ∷ strength_words p q on)) 3 ≡ false
more_than_three p q verb None = refl
more_than_three p q verb (Some name) = refl

pub question_of-again : (line : ℕ) (ws : LineWords) (asked : Asked) → SpellsQuestion ws asked → question_of line ws ≡ Ok asked
unfolding question_of necessary_question possible_question classes_question
question_of-again line ws Consistent h = ap (question_of line) h
question_of-again line ws (Necessary a b) h = ap (question_of line) h ∙ rw (two_names-again line (codes "necessary") a b) refl
question_of-again line ws (Possible a b) h = ap (question_of line) h ∙ rw (two_names-again line (codes "possible") a b) refl
question_of-again line ws (NecessaryStrength p q on) h = ap (question_of line) h ∙ rw (more_than_three p q (codes "necessary") on, two_pairs-again line (codes "necessary") p q on) refl
question_of-again line ws (PossibleStrength p q on) h = ap (question_of line) h ∙ rw (more_than_three p q (codes "possible") on, two_pairs-again line (codes "possible") p q on) refl
question_of-again line ws (PossibleClass a n) h = ap (question_of line) h.1 ∙ rw (name_and_class-again line (codes "possible-class") a h.0 n h.2) refl
question_of-again line ws (NecessaryClass a n) h = ap (question_of line) h.1 ∙ rw (name_and_class-again line (codes "necessary-class") a h.0 n h.2) refl
question_of-again line ws (Classes a) h = ap (question_of line) h
question_of-again line ws Relation h = ap (question_of line) h

-- a question has words
some_question : (line : ℕ) (ws : LineWords) (asked : Asked) → question_of line ws ≡ Ok asked → 0 < length ws
unfolding question_of
some_question line [] asked e = absurd cc
some_question line (w ∷ ws) asked e = omega arith

-- ---- commands

after_one : (ws : LineWords) → 0 < length (drop 1 ws) → ws ≡ word_at ws 0 ∷ drop 1 ws
after_one [] some = absurd (omega arith)
after_one (a ∷ more) some = refl

after_two : (ws : LineWords) → 0 < length (drop 2 ws) → ws ≡ word_at ws 0 ∷ word_at ws 1 ∷ drop 2 ws
after_two [] some = absurd (omega arith)
after_two (a ∷ []) some = absurd (omega arith)
after_two (a ∷ b ∷ more) some = refl

withdrawal-sound : (line : ℕ) (ws : LineWords) (command : Command) → bytes_eq (word_at ws 0) (codes "withdraw") ≡ true → withdrawal line ws ≡ Ok command → Spells ws command
unfolding withdrawal
withdrawal-sound line ws command hit e =
    let a = bind_ok (refuse (BadLine line) (not (eqb (length ws) 2))) _ command e in
    let b = bind_ok (count_at line ws 1) _ command a.2 in
    let number : length ws ≡ 2 = eqb-true (length ws) 2 (not_refused (BadLine line) (eqb (length ws) 2) a.0 a.1) in
    let same : Withdraw b.0 ≡ command = let h = b.2 in cc in
    let is : ws ≡ codes "withdraw" ∷ word_at ws 1 ∷ [] = two_words ws number ∙ ap (λ (w : List ℕ). w ∷ word_at ws 1 ∷ []) (same_bytes (word_at ws 0) (codes "withdraw") hit) in
    subst (λ (c : Command). Spells ws c) same (word_at ws 1, is, count_is line 1 ws b.0 b.1)

replacement-sound : (line : ℕ) (ws : LineWords) (command : Command) → bytes_eq (word_at ws 0) (codes "replace") ≡ true → replacement line ws ≡ Ok command → Spells ws command
unfolding replacement
replacement-sound line ws command hit e =
    let a = bind_ok (count_at line ws 1) _ command e in
    let b = bind_ok (statement_of line (drop 2 ws)) _ command a.2 in
    let same : Replace a.0 b.0 ≡ command = let h = b.2 in cc in
    let is : ws ≡ codes "replace" ∷ word_at ws 1 ∷ drop 2 ws = after_two ws (some_statement line (drop 2 ws) b.0 b.1) ∙ ap (λ (w : List ℕ). w ∷ word_at ws 1 ∷ drop 2 ws) (same_bytes (word_at ws 0) (codes "replace") hit) in
    subst (λ (c : Command). Spells ws c) same (word_at ws 1, drop 2 ws, is, count_is line 1 ws a.0 a.1, statement_of-sound line (drop 2 ws) b.0 b.1)

asking-sound : (line : ℕ) (ws : LineWords) (command : Command) → bytes_eq (word_at ws 0) (codes "ask") ≡ true → (question_of line (drop 1 ws) >>= λ asked. Ok (Ask asked)) ≡ Ok command → Spells ws command
asking-sound line ws command hit e =
    let a = bind_ok (question_of line (drop 1 ws)) (λ asked. Ok (Ask asked)) command e in
    let same : Ask a.0 ≡ command = let h = a.2 in cc in
    let is : ws ≡ codes "ask" ∷ drop 1 ws = after_one ws (some_question line (drop 1 ws) a.0 a.1) ∙ ap (λ (w : List ℕ). w ∷ drop 1 ws) (same_bytes (word_at ws 0) (codes "ask") hit) in
    subst (λ (c : Command). Spells ws c) same (drop 1 ws, is, question_of-sound line (drop 1 ws) a.0 a.1)

stating-sound : (line : ℕ) (ws : LineWords) (command : Command) → (statement_of line ws >>= λ named. Ok (State named)) ≡ Ok command → Spells ws command
stating-sound line ws command e =
    let a = bind_ok (statement_of line ws) (λ named. Ok (State named)) command e in
    let same : State a.0 ≡ command = let h = a.2 in cc in
    subst (λ (c : Command). Spells ws c) same (statement_of-sound line ws a.0 a.1)

pub command_of-sound : (line : ℕ) (ws : LineWords) (command : Command) → command_of line ws ≡ Ok command → Spells ws command
unfolding command_of
command_of-sound line ws command e = elim (cases_Bool (bytes_eq (word_at ws 0) (codes "withdraw"))) [
  | inl hit ↦ withdrawal-sound line ws command hit (rw hit at e)
  | inr not_withdraw ↦ let e1 = rw not_withdraw at e in elim (cases_Bool (bytes_eq (word_at ws 0) (codes "replace"))) [
    | inl hit ↦ replacement-sound line ws command hit (rw hit at e1)
    | inr not_replace ↦ let e2 = rw not_replace at e1 in elim (cases_Bool (bytes_eq (word_at ws 0) (codes "repair"))) [
      | inl hit ↦ of_one Spells Repair (codes "repair") (λ words is. is) line ws command hit (rw hit at e2)
      | inr not_repair ↦ let e3 = rw not_repair at e2 in elim (cases_Bool (bytes_eq (word_at ws 0) (codes "undo"))) [
        | inl hit ↦ of_one Spells Undo (codes "undo") (λ words is. is) line ws command hit (rw hit at e3)
        | inr not_undo ↦ let e4 = rw not_undo at e3 in elim (cases_Bool (bytes_eq (word_at ws 0) (codes "ask"))) [
          | inl hit ↦ asking-sound line ws command hit (rw hit at e4)
          | inr not_ask ↦ stating-sound line ws command (rw not_ask at e4)
        ]
      ]
    ]
  ]
]

-- a statement's words begin with no word of another command
stated : (line : ℕ) (ws words : LineWords) → ws ≡ words → command_of line words ≡ (statement_of line words >>= λ x. Ok (State x)) → command_of line ws ≡ (statement_of line ws >>= λ x. Ok (State x))
stated line ws words is e = subst (λ (x : LineWords). command_of line x ≡ (statement_of line x >>= λ y. Ok (State y))) (sym is) e

stated_again : (line : ℕ) (ws : LineWords) (named : Named) → SpellsStatement ws named → command_of line ws ≡ (statement_of line ws >>= λ x. Ok (State x))
unfolding command_of
stated_again line ws (Prefer a b) h = stated line ws (codes "prefer" ∷ a ∷ b ∷ []) h refl
stated_again line ws (AtLeast a b) h = stated line ws (codes "atleast" ∷ a ∷ b ∷ []) h refl
stated_again line ws (Same a b) h = stated line ws (codes "same" ∷ a ∷ b ∷ []) h refl
stated_again line ws (Stronger p q on) h = stated line ws (codes "stronger" ∷ strength_words p q on) h refl
stated_again line ws (AsStrong p q on) h = stated line ws (codes "asstrong" ∷ strength_words p q on) h refl
stated_again line ws (EqualStrength p q on) h = stated line ws (codes "equal" ∷ strength_words p q on) h refl
stated_again line ws (Class a lowest highest) h = stated line ws (codes "class" ∷ a ∷ h.0 ∷ h.1 ∷ []) h.2 refl

withdrawn_again : (line n : ℕ) (word : List ℕ) → WritesCount word n → command_of line (codes "withdraw" ∷ word ∷ []) ≡ Ok (Withdraw n)
unfolding command_of withdrawal count_at
withdrawn_again line n word h = rw h refl

replaced_again : (line n : ℕ) (word : List ℕ) (ws : LineWords) (named : Named) → WritesCount word n → SpellsStatement ws named → command_of line (codes "replace" ∷ word ∷ ws) ≡ Ok (Replace n named)
unfolding command_of replacement count_at
replaced_again line n word ws named h spelled = rw (h, statement_of-again line ws named spelled) refl

asked_again : (line : ℕ) (ws : LineWords) (asked : Asked) → SpellsQuestion ws asked → command_of line (codes "ask" ∷ ws) ≡ Ok (Ask asked)
unfolding command_of
asked_again line ws asked h = rw (question_of-again line ws asked h) refl

repaired_again : (line : ℕ) → command_of line (codes "repair" ∷ []) ≡ Ok Repair
unfolding command_of
repaired_again line = refl

undone_again : (line : ℕ) → command_of line (codes "undo" ∷ []) ≡ Ok Undo
unfolding command_of
undone_again line = refl

pub command_of-again : (line : ℕ) (ws : LineWords) (command : Command) → Spells ws command → command_of line ws ≡ Ok command
command_of-again line ws (State named) h = stated_again line ws named h ∙ ap (λ (r : Result Named SessionFault). r >>= λ x. Ok (State x)) (statement_of-again line ws named h)
command_of-again line ws (Withdraw n) h = ap (command_of line) h.1 ∙ withdrawn_again line n h.0 h.2
command_of-again line ws (Replace n named) h = ap (command_of line) h.2 ∙ replaced_again line n h.0 h.1 named h.3 h.4
command_of-again line ws Repair h = ap (command_of line) h ∙ repaired_again line
command_of-again line ws Undo h = ap (command_of line) h ∙ undone_again line
command_of-again line ws (Ask asked) h = ap (command_of line) h.1 ∙ asked_again line h.0 asked h.2

-- ---- the one fault

-- a reading has no other fault than that its line is bad
abbrev pub IsBadAt : {A : Type 0} → ℕ → Result A SessionFault → Type 0
IsBadAt line r = IfErr r (λ fault. fault ≡ BadLine line)

pub bad_bind : {A B : Type 0} (line : ℕ) (r : Result A SessionFault) (f : A → Result B SessionFault) → IsBadAt line r → ((x : A) → IsBadAt line (f x)) → IsBadAt line (r >>= f)
bad_bind line (Ok x) f h each = each x
bad_bind line (Err fault) f h each = h

pub bad_refuse : (line : ℕ) (test : Bool) → IsBadAt line (refuse (BadLine line) test)
bad_refuse line true = refl
bad_refuse line false = tt

bad_need : {A : Type 0} (line : ℕ) (o : Option A) → IsBadAt line (need (BadLine line) o)
bad_need line None = refl
bad_need line (Some x) = tt

two_names-bad : (line : ℕ) (ws : LineWords) → IsBadAt line (two_names line ws)
unfolding two_names
two_names-bad line ws = elim (cases_Bool (eqb (length ws) 3)) [ inl hit ↦ rw hit tt | inr miss ↦ rw miss refl ]

criterion_of-bad : (line : ℕ) (ws : LineWords) → IsBadAt line (criterion_of line ws)
unfolding criterion_of
criterion_of-bad line ws = elim (cases_Bool (eqb (length ws) 5)) [
  | inl five ↦ rw five tt
  | inr other ↦ elim (cases_Bool (eqb (length ws) 7)) [
    | inr miss ↦ rw (other, miss) refl
    | inl seven ↦ elim (cases_Bool (bytes_eq (word_at ws 5) (codes "on"))) [ inl hit ↦ rw (other, seven, hit) tt | inr miss ↦ rw (other, seven, miss) refl ]
  ]
]

two_pairs-bad : (line : ℕ) (ws : LineWords) → IsBadAt line (two_pairs line ws)
unfolding two_pairs
two_pairs-bad line ws = bad_bind line (criterion_of line ws) (λ (on : Option (List ℕ)). Ok (record { first = pair_at ws 1; second = pair_at ws 3; criterion = on })) (criterion_of-bad line ws) (λ on. tt)

names_bad : {A : Type 0} (line : ℕ) (ws : LineWords) (make : List ℕ → List ℕ → A) → IsBadAt line (two_names line ws >>= λ p. Ok (make p.first p.second))
names_bad line ws make = bad_bind line (two_names line ws) (λ (p : NamedPair). Ok (make p.first p.second)) (two_names-bad line ws) (λ x. tt)

pairs_bad : {A : Type 0} (line : ℕ) (ws : LineWords) (make : NamedPair → NamedPair → Option (List ℕ) → A) → IsBadAt line (two_pairs line ws >>= λ t. Ok (make t.first t.second t.criterion))
pairs_bad line ws make = bad_bind line (two_pairs line ws) (λ (t : TwoPairs). Ok (make t.first t.second t.criterion)) (two_pairs-bad line ws) (λ x. tt)

one_bad : {A : Type 0} (line n : ℕ) (ws : LineWords) (made : A) → IsBadAt line (refuse (BadLine line) (not (eqb (length ws) n)) >>= λ _. Ok made)
one_bad line n ws made = elim (cases_Bool (eqb (length ws) n)) [ inl hit ↦ rw hit tt | inr miss ↦ rw miss refl ]

count-bad : (line i : ℕ) (ws : LineWords) → IsBadAt line (count_at line ws i)
unfolding count_at
count-bad line i ws = bad_need line (count_of (word_at ws i))

class_statement-bad : (line : ℕ) (ws : LineWords) → IsBadAt line (class_statement line ws)
unfolding class_statement
class_statement-bad line ws = elim (cases_Bool (eqb (length ws) 4)) [
  | inl hit ↦ rw hit (bad_bind line (count_at line ws 2) (λ (lowest : ℕ). count_at line ws 3 >>= λ (highest : ℕ). Ok (Class (word_at ws 1) lowest highest)) (count-bad line 2 ws) (λ lowest. bad_bind line (count_at line ws 3) (λ (highest : ℕ). Ok (Class (word_at ws 1) lowest highest)) (count-bad line 3 ws) (λ highest. tt)))
  | inr miss ↦ rw miss refl
]

statement_of-bad : (line : ℕ) (ws : LineWords) → IsBadAt line (statement_of line ws)
unfolding statement_of
statement_of-bad line ws = elim (cases_Bool (bytes_eq (word_at ws 0) (codes "prefer"))) [
  | inl hit ↦ rw hit (names_bad line ws Prefer)
  | inr a ↦ elim (cases_Bool (bytes_eq (word_at ws 0) (codes "atleast"))) [
    | inl hit ↦ rw (a, hit) (names_bad line ws AtLeast)
    | inr b ↦ elim (cases_Bool (bytes_eq (word_at ws 0) (codes "same"))) [
      | inl hit ↦ rw (a, b, hit) (names_bad line ws Same)
      | inr c ↦ elim (cases_Bool (bytes_eq (word_at ws 0) (codes "stronger"))) [
        | inl hit ↦ rw (a, b, c, hit) (pairs_bad line ws Stronger)
        | inr d ↦ elim (cases_Bool (bytes_eq (word_at ws 0) (codes "asstrong"))) [
          | inl hit ↦ rw (a, b, c, d, hit) (pairs_bad line ws AsStrong)
          | inr f ↦ elim (cases_Bool (bytes_eq (word_at ws 0) (codes "equal"))) [
            | inl hit ↦ rw (a, b, c, d, f, hit) (pairs_bad line ws EqualStrength)
            | inr g ↦ elim (cases_Bool (bytes_eq (word_at ws 0) (codes "class"))) [
              | inl hit ↦ rw (a, b, c, d, f, g, hit) (class_statement-bad line ws)
              | inr h ↦ rw (a, b, c, d, f, g, h) refl
            ]
          ]
        ]
      ]
    ]
  ]
]

necessary-bad : (line : ℕ) (ws : LineWords) → IsBadAt line (necessary_question line ws)
unfolding necessary_question
necessary-bad line ws = elim (cases_Bool (eqb (length ws) 3)) [ inl three ↦ rw three (names_bad line ws Necessary) | inr other ↦ rw other (pairs_bad line ws NecessaryStrength) ]

possible-bad : (line : ℕ) (ws : LineWords) → IsBadAt line (possible_question line ws)
unfolding possible_question
possible-bad line ws = elim (cases_Bool (eqb (length ws) 3)) [ inl three ↦ rw three (names_bad line ws Possible) | inr other ↦ rw other (pairs_bad line ws PossibleStrength) ]

name_and_class-bad : (line : ℕ) (ws : LineWords) → IsBadAt line (name_and_class line ws)
unfolding name_and_class
name_and_class-bad line ws = elim (cases_Bool (eqb (length ws) 3)) [
  | inl hit ↦ rw hit (bad_bind line (count_at line ws 2) (λ (n : ℕ). Ok (record { name = word_at ws 1; number = n })) (count-bad line 2 ws) (λ n. tt))
  | inr miss ↦ rw miss refl
]

class_bad : {A : Type 0} (line : ℕ) (ws : LineWords) (make : List ℕ → ℕ → A) → IsBadAt line (name_and_class line ws >>= λ c. Ok (make c.name c.number))
class_bad line ws make = bad_bind line (name_and_class line ws) (λ (c : NameAndClass). Ok (make c.name c.number)) (name_and_class-bad line ws) (λ x. tt)

classes-bad : (line : ℕ) (ws : LineWords) → IsBadAt line (classes_question line ws)
unfolding classes_question
classes-bad line ws = one_bad line 2 ws (Classes (word_at ws 1))

question_of-bad : (line : ℕ) (ws : LineWords) → IsBadAt line (question_of line ws)
unfolding question_of
question_of-bad line ws = elim (cases_Bool (bytes_eq (word_at ws 0) (codes "consistent"))) [
  | inl hit ↦ rw hit (one_bad line 1 ws Consistent)
  | inr a ↦ elim (cases_Bool (bytes_eq (word_at ws 0) (codes "necessary"))) [
    | inl hit ↦ rw (a, hit) (necessary-bad line ws)
    | inr b ↦ elim (cases_Bool (bytes_eq (word_at ws 0) (codes "possible"))) [
      | inl hit ↦ rw (a, b, hit) (possible-bad line ws)
      | inr c ↦ elim (cases_Bool (bytes_eq (word_at ws 0) (codes "possible-class"))) [
        | inl hit ↦ rw (a, b, c, hit) (class_bad line ws PossibleClass)
        | inr d ↦ elim (cases_Bool (bytes_eq (word_at ws 0) (codes "necessary-class"))) [
          | inl hit ↦ rw (a, b, c, d, hit) (class_bad line ws NecessaryClass)
          | inr f ↦ elim (cases_Bool (bytes_eq (word_at ws 0) (codes "classes"))) [
            | inl hit ↦ rw (a, b, c, d, f, hit) (classes-bad line ws)
            | inr g ↦ elim (cases_Bool (bytes_eq (word_at ws 0) (codes "relation"))) [
              | inl hit ↦ rw (a, b, c, d, f, g, hit) (one_bad line 1 ws Relation)
              | inr h ↦ rw (a, b, c, d, f, g, h) refl
            ]
          ]
        ]
      ]
    ]
  ]
]

withdrawal-bad : (line : ℕ) (ws : LineWords) → IsBadAt line (withdrawal line ws)
unfolding withdrawal
withdrawal-bad line ws = elim (cases_Bool (eqb (length ws) 2)) [
  | inl hit ↦ rw hit (bad_bind line (count_at line ws 1) (λ (n : ℕ). Ok (Withdraw n)) (count-bad line 1 ws) (λ n. tt))
  | inr miss ↦ rw miss refl
]

replacement-bad : (line : ℕ) (ws : LineWords) → IsBadAt line (replacement line ws)
unfolding replacement
replacement-bad line ws = bad_bind line (count_at line ws 1) (λ (n : ℕ). statement_of line (drop 2 ws) >>= λ (named : Named). Ok (Replace n named)) (count-bad line 1 ws) (λ n. bad_bind line (statement_of line (drop 2 ws)) (λ (named : Named). Ok (Replace n named)) (statement_of-bad line (drop 2 ws)) (λ named. tt))

pub command_of-bad : (line : ℕ) (ws : LineWords) → IsBadAt line (command_of line ws)
unfolding command_of
command_of-bad line ws = elim (cases_Bool (bytes_eq (word_at ws 0) (codes "withdraw"))) [
  | inl hit ↦ rw hit (withdrawal-bad line ws)
  | inr a ↦ elim (cases_Bool (bytes_eq (word_at ws 0) (codes "replace"))) [
    | inl hit ↦ rw (a, hit) (replacement-bad line ws)
    | inr b ↦ elim (cases_Bool (bytes_eq (word_at ws 0) (codes "repair"))) [
      | inl hit ↦ rw (a, b, hit) (one_bad line 1 ws Repair)
      | inr c ↦ elim (cases_Bool (bytes_eq (word_at ws 0) (codes "undo"))) [
        | inl hit ↦ rw (a, b, c, hit) (one_bad line 1 ws Undo)
        | inr d ↦ elim (cases_Bool (bytes_eq (word_at ws 0) (codes "ask"))) [
          | inl hit ↦ rw (a, b, c, d, hit) (bad_bind line (question_of line (drop 1 ws)) (λ (asked : Asked). Ok (Ask asked)) (question_of-bad line (drop 1 ws)) (λ asked. tt))
          | inr f ↦ rw (a, b, c, d, f) (bad_bind line (statement_of line ws) (λ (named : Named). Ok (State named)) (statement_of-bad line ws) (λ named. tt))
        ]
      ]
    ]
  ]
]
