-- What is read of a line is what it says.
use Rattle.std.proofs.Common.{◌≡◌, ◌≢◌, ℕ, ◌+◌, ◌≤◌, Bool, false, eqb, ltb, List, [], ◌∷◌, ◌++◌, length, Result, Ok, Err, refl, sym, ap, subst, ◌∙◌, inl, inr, arith}
use Rattle.std.specs.Prelude.{nat_lt}
use Rattle.std.specs.List.{AllByRecursion, list_any}
use Rattle.std.proofs.lemmas.Bool.{cases_Bool, ltb-false, le-ltb, eqb-true, eq-eqb, ne_eqb}
use Rattle.ror_text.specs.Lines.{is_control, has_control, word_at}
use Rattle.ror_text.specs.Reading.{◌>>=◌, refuse}
use Rattle.ror_text.proofs.ReadingLemmas.{bind_ok, refuse_ok}
use Rattle.ror_session.specs.declared.limits.TheConstants.{MOST_DESK_NAME_BYTES}
use Rattle.ror_session.specs.declared.reading.Said.{Said}
use Rattle.ror_session.specs.declared.session.Named.{Named}
use Rattle.ror_session.specs.declared.session.Named.TheVariants.{Prefer, AtLeast, Same, Stronger, AsStrong, EqualStrength, Class}
use Rattle.ror_session.specs.declared.session.Command.{Command}
use Rattle.ror_session.specs.declared.session.Command.TheVariants.{State, Withdraw, Replace, Repair, Undo, Ask}
use Rattle.ror_session.specs.declared.session.SessionFault.{SessionFault}
use Rattle.ror_session.specs.declared.session.SessionFault.TheVariants.{BadLine}
use Rattle.ror_session.specs.Grammar.{LineWords, SpellsStatement, Spells, desk_words, IsClean, Says, IsWellFormed}
use Rattle.ror_session.specs.Command.{command_of}
use Rattle.ror_session.specs.Session.{has_desk_word, desk_of, command_words, said_of}
use Rattle.ror_session.proofs.CommandLemmas.{command_of-sound, command_of-again, IsBadAt, bad_bind, bad_refuse, command_of-bad}

-- ---- clean words

abbrev CleanByte : ℕ → Type 0
CleanByte byte = (0x21 ≤ byte) × (byte ≢ 0x7F)

clean_byte : (byte : ℕ) → is_control byte ≡ false → CleanByte byte
clean_byte byte e = elim (cases_Bool (nat_lt byte 0x21)) [
  | inl low ↦ let g = rw low at e in absurd cc
  | inr high ↦ (ltb-false _ _ high, λ same. let g = rw high at e in let h = eq-eqb byte 0x7F same in absurd cc)
]

control_byte : (byte : ℕ) → 0x21 ≤ byte → byte ≢ 0x7F → is_control byte ≡ false
control_byte byte high other = rw (le-ltb byte 0x21 high, ne_eqb byte 0x7F other) refl

-- a test that no element passes, and what then holds of each
none_passes : {A : Type 0} (test : A → Bool) (P : A → Type 0) → ((x : A) → test x ≡ false → P x) → (xs : List A) → list_any test xs ≡ false → AllByRecursion P xs
none_passes test P each [] e = tt
none_passes test P each (x ∷ xs) e = elim (cases_Bool (test x)) [
  | inl hit ↦ let g = rw hit at e in absurd cc
  | inr miss ↦ (each x miss, none_passes test P each xs (rw miss at e))
]

all_fail : {A : Type 0} (test : A → Bool) (P : A → Type 0) → ((x : A) → P x → test x ≡ false) → (xs : List A) → AllByRecursion P xs → list_any test xs ≡ false
all_fail test P each [] h = refl
all_fail test P each (x ∷ xs) h = rw (each x h.0, all_fail test P each xs h.1) refl

clean_words : (ws : LineWords) → has_control ws ≡ false → AllByRecursion IsClean ws
clean_words ws e = none_passes (list_any is_control) (AllByRecursion CleanByte) (λ word none. none_passes is_control CleanByte clean_byte word none) ws e

no_control : (ws : LineWords) → AllByRecursion IsClean ws → has_control ws ≡ false
no_control ws h = all_fail (list_any is_control) (AllByRecursion CleanByte) (λ word clean. all_fail is_control CleanByte (λ byte c. control_byte byte c.0 c.1) word clean) ws h

-- ---- desk words

named_desk : (byte : ℕ) (bytes : List ℕ) (more : LineWords) → byte ≡ 64 → eqb (length (byte ∷ bytes)) 1 ≡ false → (byte ∷ bytes) ∷ more ≡ desk_words bytes ++ more
named_desk byte [] more is some = absurd cc
named_desk byte (b ∷ bytes) more is some = ap (λ (x : ℕ). (x ∷ b ∷ bytes) ∷ more) is

desk_of-sound : (line : ℕ) (ws : LineWords) (name : List ℕ) → desk_of line ws ≡ Ok name → (ws ≡ desk_words name ++ command_words ws) × (length name ≤ MOST_DESK_NAME_BYTES)
unfolding desk_of
desk_of-sound line [] name e =
    let same : [] ≡ name = cc in
    subst (λ (n : List ℕ). ([] ≡ desk_words n ++ command_words []) × (length n ≤ MOST_DESK_NAME_BYTES)) same (refl, omega arith)
desk_of-sound line ([] ∷ more) name e =
    let same : [] ≡ name = cc in
    subst (λ (n : List ℕ). ([] ∷ more ≡ desk_words n ++ command_words ([] ∷ more)) × (length n ≤ MOST_DESK_NAME_BYTES)) same (refl, omega arith)
desk_of-sound line ((byte ∷ bytes) ∷ more) name e = elim (cases_Bool (eqb byte 64)) [
  | inl sign ↦
      let a = bind_ok (refuse (BadLine line) (eqb (length (byte ∷ bytes)) 1)) _ name (rw sign at e) in
      let b = bind_ok (refuse (BadLine line) (ltb (MOST_DESK_NAME_BYTES + 1) (length (byte ∷ bytes)))) _ name a.2 in
      let same : bytes ≡ name = let h = b.2 in cc in
      let short : length (byte ∷ bytes) ≤ MOST_DESK_NAME_BYTES + 1 = ltb-false _ _ (refuse_ok (BadLine line) (ltb (MOST_DESK_NAME_BYTES + 1) (length (byte ∷ bytes))) b.0 b.1) in
      let is = named_desk byte bytes more (eqb-true byte 64 sign) (refuse_ok (BadLine line) (eqb (length (byte ∷ bytes)) 1) a.0 a.1) in
      subst (λ (n : List ℕ). ((byte ∷ bytes) ∷ more ≡ desk_words n ++ command_words ((byte ∷ bytes) ∷ more)) × (length n ≤ MOST_DESK_NAME_BYTES)) same (rw sign is, omega (arith, short))
  | inr other ↦
      let same : [] ≡ name = let h = rw other at e in cc in
      subst (λ (n : List ℕ). ((byte ∷ bytes) ∷ more ≡ desk_words n ++ command_words ((byte ∷ bytes) ∷ more)) × (length n ≤ MOST_DESK_NAME_BYTES)) same (rw other refl, omega arith)
]

no_desk : (line : ℕ) (ws : LineWords) → has_desk_word ws ≡ false → desk_of line ws ≡ Ok []
unfolding desk_of
no_desk line ws none = rw none refl

some_desk : (line byte : ℕ) (bytes : List ℕ) (more : LineWords) → length (byte ∷ bytes) ≤ MOST_DESK_NAME_BYTES → desk_of line ((64 ∷ byte ∷ bytes) ∷ more) ≡ Ok (byte ∷ bytes)
unfolding desk_of
some_desk line byte bytes more short =
    let one : eqb (length (64 ∷ byte ∷ bytes)) 1 ≡ false = ne_eqb (length (64 ∷ byte ∷ bytes)) 1 (λ (e : length (64 ∷ byte ∷ bytes) ≡ 1). absurd (omega (arith, e))) in
    let long : ltb (MOST_DESK_NAME_BYTES + 1) (length (64 ∷ byte ∷ bytes)) ≡ false = le-ltb (MOST_DESK_NAME_BYTES + 1) (length (64 ∷ byte ∷ bytes)) (omega (arith, short)) in
    rw (one, long) refl

desk_of-again : (line : ℕ) (ws : LineWords) (desk : List ℕ) (more : LineWords) → ws ≡ desk_words desk ++ more → length desk ≤ MOST_DESK_NAME_BYTES → has_desk_word more ≡ false → desk_of line ws ≡ Ok desk
desk_of-again line ws [] more is short none = ap (desk_of line) is ∙ no_desk line more none
desk_of-again line ws (byte ∷ bytes) more is short none = ap (desk_of line) is ∙ some_desk line byte bytes more short

own_words : (ws : LineWords) → has_desk_word ws ≡ false → command_words ws ≡ ws
own_words ws none = rw none refl

command_words-again : (ws : LineWords) (desk : List ℕ) (more : LineWords) → ws ≡ desk_words desk ++ more → has_desk_word more ≡ false → command_words ws ≡ more
command_words-again ws [] more is none = ap command_words is ∙ own_words more none
command_words-again ws (byte ∷ bytes) more is none = ap command_words is

statement_no_desk : (ws : LineWords) (named : Named) → SpellsStatement ws named → has_desk_word ws ≡ false
statement_no_desk ws (Prefer a b) h = ap has_desk_word h
statement_no_desk ws (AtLeast a b) h = ap has_desk_word h
statement_no_desk ws (Same a b) h = ap has_desk_word h
statement_no_desk ws (Stronger p q on) h = ap has_desk_word h
statement_no_desk ws (AsStrong p q on) h = ap has_desk_word h
statement_no_desk ws (EqualStrength p q on) h = ap has_desk_word h
statement_no_desk ws (Class a lowest highest) h = ap has_desk_word h.2

-- no command begins with a desk word
command_no_desk : (ws : LineWords) (command : Command) → Spells ws command → has_desk_word ws ≡ false
command_no_desk ws (State named) h = statement_no_desk ws named h
command_no_desk ws (Withdraw n) h = ap has_desk_word h.1
command_no_desk ws (Replace n named) h = ap has_desk_word h.2
command_no_desk ws Repair h = ap has_desk_word h
command_no_desk ws Undo h = ap has_desk_word h
command_no_desk ws (Ask asked) h = ap has_desk_word h.1

desk_of-bad : (line : ℕ) (ws : LineWords) → IsBadAt line (desk_of line ws)
unfolding desk_of
desk_of-bad line ws = elim (cases_Bool (has_desk_word ws)) [
  | inr none ↦ rw none tt
  | inl some ↦ elim (cases_Bool (eqb (length (word_at ws 0)) 1)) [
    | inl one ↦ rw (some, one) refl
    | inr more ↦ elim (cases_Bool (ltb (MOST_DESK_NAME_BYTES + 1) (length (word_at ws 0)))) [
      | inl long ↦ rw (some, more, long) refl
      | inr short ↦ rw (some, more, short) tt
    ]
  ]
]

-- ---- one line

abbrev said_with : ℕ → List ℕ → Command → Said
said_with number desk command = record { number = number; desk = desk; command = command }

pub said_of-sound : (line : ℕ) (ws : LineWords) (said : Said) → said_of line ws ≡ Ok said → Says (line, ws) said
unfolding said_of
said_of-sound line ws said e =
    let a = bind_ok (refuse (BadLine line) (has_control ws)) _ said e in
    let b = bind_ok (desk_of line ws) _ said a.2 in
    let k = bind_ok (command_of line (command_words ws)) _ said b.2 in
    let same : said_with line b.0 k.0 ≡ said = let h = k.2 in cc in
    let d = desk_of-sound line ws b.0 b.1 in
    let spelled = command_of-sound line (command_words ws) k.0 k.1 in
    let clean = clean_words ws (refuse_ok (BadLine line) (has_control ws) a.0 a.1) in
    subst (λ (s : Said). Says (line, ws) s) same (record { number = refl; clean = clean; command_words = command_words ws; is = d.0; short = d.1; spelled = spelled })

pub said_of-again : (line : ℕ) (ws : LineWords) (said : Said) → Says (line, ws) said → said_of line ws ≡ Ok said
unfolding said_of
said_of-again line ws said h =
    let none = no_control ws h.clean in
    let plain = command_no_desk h.command_words said.command h.spelled in
    let desk = desk_of-again line ws said.desk h.command_words h.is h.short plain in
    let command : command_of line (command_words ws) ≡ Ok said.command = ap (command_of line) (command_words-again ws said.desk h.command_words h.is plain) ∙ command_of-again line h.command_words said.command h.spelled in
    rw (none, desk, command) (ap (λ (n : ℕ). Ok (said_with n said.desk said.command)) (sym h.number))

said_of-bad : (line : ℕ) (ws : LineWords) → IsBadAt line (said_of line ws)
unfolding said_of
said_of-bad line ws = bad_bind line (refuse (BadLine line) (has_control ws)) (λ (x : Unit {0}). desk_of line ws >>= λ (desk : List ℕ). command_of line (command_words ws) >>= λ (command : Command). Ok (said_with line desk command)) (bad_refuse line (has_control ws)) (λ x. bad_bind line (desk_of line ws) (λ (desk : List ℕ). command_of line (command_words ws) >>= λ (command : Command). Ok (said_with line desk command)) (desk_of-bad line ws) (λ desk. bad_bind line (command_of line (command_words ws)) (λ (command : Command). Ok (said_with line desk command)) (command_of-bad line (command_words ws)) (λ command. tt)))

pub said_of-err : (line : ℕ) (ws : LineWords) (fault : SessionFault) → said_of line ws ≡ Err fault → fault ≡ BadLine line
said_of-err line ws fault e = subst (λ (r : Result Said SessionFault). IsBadAt line r) e (said_of-bad line ws)

-- a line that is refused says nothing
pub refused_says_nothing : (line : ℕ) (ws : LineWords) (fault : SessionFault) → said_of line ws ≡ Err fault → ¬ (IsWellFormed (line, ws))
refused_says_nothing line ws fault e = λ well. let again = said_of-again line ws well.0 well.1 in absurd cc

refused : (line : ℕ) (ws : LineWords) (r : Result Said SessionFault) → said_of line ws ≡ r → ¬ (IsWellFormed (line, ws)) → r ≡ Err (BadLine line)
refused line ws (Ok said) e bad = absurd (bad (said, said_of-sound line ws said e))
refused line ws (Err fault) e bad = ap Err (said_of-err line ws fault e)

pub says_nothing_refused : (line : ℕ) (ws : LineWords) → ¬ (IsWellFormed (line, ws)) → said_of line ws ≡ Err (BadLine line)
says_nothing_refused line ws bad = refused line ws (said_of line ws) refl bad
