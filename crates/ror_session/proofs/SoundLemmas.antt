-- What holds of every session that is read.
use Rattle.std.proofs.Common.{◌≡◌, ℕ, zero, suc, ◌+◌, ◌<◌, ◌≤◌, Bool, true, not, filter, List, [], ◌∷◌, ◌++◌, length, map, Option, Some, None, refl, sym, ap, subst, ◌∙◌, inl, inr, arith, add-one}
use Rattle.std.specs.Prelude.{codes}
use Rattle.std.specs.List.{AllByRecursion, AllZip, enumerate_from}
use Rattle.std.specs.List.Sorted.{IsStrictlyIncreasing}
use Rattle.std.specs.Str.Lines as text
use Rattle.std.proofs.lemmas.Bool.{cases_Bool}
use Rattle.std.proofs.lemmas.List.{length-map}
use Rattle.ror_text.specs.Lines.{is_passed_over, words, numbered_lines, line_count}
use Rattle.ror_session.specs.declared.limits.TheConstants.{MOST_DESK_NAME_BYTES, MOST_LINES}
use Rattle.ror_session.specs.declared.reading.Said.{Said}
use Rattle.ror_session.specs.declared.session.NamedPair.{NamedPair}
use Rattle.ror_session.specs.declared.session.Named.{Named}
use Rattle.ror_session.specs.declared.session.Named.TheVariants.{Prefer, AtLeast, Same, Stronger, AsStrong, EqualStrength, Class}
use Rattle.ror_session.specs.declared.session.Asked.{Asked}
use Rattle.ror_session.specs.declared.session.Asked.TheVariants.{Consistent, Necessary, Possible, NecessaryStrength, PossibleStrength, PossibleClass, NecessaryClass, Classes, Relation}
use Rattle.ror_session.specs.declared.session.Command.{Command}
use Rattle.ror_session.specs.declared.session.Command.TheVariants.{State, Withdraw, Replace, Repair, Undo, Ask}
use Rattle.ror_session.specs.declared.session.Session.{Session}
use Rattle.ror_session.specs.declared.session.Line.{Line}
use Rattle.ror_session.specs.Desks.{first_appearances}
use Rattle.ror_session.specs.Grammar.{LineWords, strength_words, SpellsStatement, SpellsQuestion, Spells, desk_words, IsClean, Says, placed, IsSession, IsSessionText}
use Rattle.ror_session.specs.Sound.{names_of_pairs, names_of_statement, names_of_question, names_of, desk_name, IsSound}
use Rattle.ror_session.proofs.DeskLemmas.{has_desk, place_below, name_at, appearances_keep, appearances_distinct, appearances_have}
use Rattle.ror_session.proofs.SessionLemmas.{desks_of}

-- ---- numbers of lines

-- numbers that rise, from one bound and below another
abbrev Rise : ℕ → ℕ → List ℕ → Type 0
Rise low high [] = low ≤ high
Rise low high (n ∷ ns) = (low ≤ n) × (n < high) × Rise (n + 1) high ns

rise_from : (low lower high : ℕ) (ns : List ℕ) → lower ≤ low → Rise low high ns → Rise lower high ns
rise_from low lower high [] le h = omega (arith, h)
rise_from low lower high (n ∷ ns) le h = (omega (arith, h.0), h.1, h.2)

-- how many fit
rise_count : (low high : ℕ) (ns : List ℕ) → Rise low high ns → low + length ns ≤ high
rise_count low high [] h = omega (arith, h)
rise_count low high (n ∷ ns) h = omega (arith, h.0, rise_count (n + 1) high ns h.2)

kept_rise : {A : Type 0} (p : ℕ × A → Bool) (low high : ℕ) (xs : List A) → low + length xs ≤ high → Rise low high (map (λ (x : ℕ × A). x.0) (filter p (enumerate_from low xs)))
kept_rise p low high [] h = omega arith
kept_rise p low high (x ∷ xs) h =
    let rest = kept_rise p (low + 1) high xs (omega arith) in
    elim (cases_Bool (p (low, x))) [
      | inl hit ↦ rw hit (omega arith, omega arith, rest)
      | inr miss ↦ rw miss (rise_from (low + 1) low high _ (omega arith) rest)
    ]

rise_increasing : (low high : ℕ) (ns : List ℕ) → Rise low high ns → IsStrictlyIncreasing ns
rise_increasing low high [] h = λ k less. absurd (omega arith)
rise_increasing low high (n ∷ []) h = λ k less. absurd (omega arith)
rise_increasing low high (n ∷ m ∷ ns) h = go (rise_increasing (n + 1) high (m ∷ ns) h.2) (omega (arith, h.2.0))
  where
    go : IsStrictlyIncreasing (m ∷ ns) → n < m → IsStrictlyIncreasing (n ∷ m ∷ ns)
    go later less zero within = less
    go later less (suc k) within = rw add-one (rw add-one at (later k (omega arith)))

-- the lines of a session have the numbers of the lines that they say
numbers_same : (numbered : List (ℕ × LineWords)) (said : List Said) (desks : List (List ℕ)) → AllZip Says numbered said → map (λ (line : Line). line.number) (map (placed desks) said) ≡ map (λ (l : ℕ × LineWords). l.0) numbered
numbers_same [] [] desks h = refl
numbers_same [] (x ∷ said) desks h = absurd h
numbers_same (first ∷ more) [] desks h = absurd h
numbers_same (first ∷ more) (x ∷ said) desks h = rw (h.0.number, numbers_same more said desks h.1) refl

numbers_rise : (bytes : List ℕ) (session : Session) → IsSession (numbered_lines bytes) session → Rise 1 (1 + line_count bytes) (map (λ (line : Line). line.number) session.lines)
numbers_rise bytes session h =
    let same : map (λ (line : Line). line.number) session.lines ≡ map (λ (l : ℕ × LineWords). l.0) (numbered_lines bytes) = ap (map (λ (line : Line). line.number)) h.lines ∙ numbers_same (numbered_lines bytes) h.said session.desks h.says in
    subst (λ (ns : List ℕ). Rise 1 (1 + line_count bytes) ns) (sym same) (kept_rise (λ line. not (is_passed_over line.1)) 1 (1 + line_count bytes) (map words (text.lines bytes)) (omega (arith, length-map (text.lines bytes) words)))

small_numbers : (low high : ℕ) (lines : List Line) → high ≤ 1 + MOST_LINES → Rise low high (map (λ (line : Line). line.number) lines) → AllByRecursion (λ (line : Line). line.number ≤ MOST_LINES) lines
small_numbers low high [] small h = tt
small_numbers low high (line ∷ lines) small h = (omega (arith, h.1, small), small_numbers (line.number + 1) high lines small h.2)

-- ---- desks

desks_below : (desks : List (List ℕ)) (said : List Said) → AllByRecursion (λ name. has_desk desks name ≡ true) (desks_of said) → AllByRecursion (λ (line : Line). line.desk < length desks) (map (placed desks) said)
desks_below desks [] h = tt
desks_below desks (x ∷ said) h = (place_below desks x.desk h.0, desks_below desks said h.1)

names_back : (desks : List (List ℕ)) (said : List Said) → AllByRecursion (λ name. has_desk desks name ≡ true) (desks_of said) → map (desk_name desks) (map (placed desks) said) ≡ desks_of said
names_back desks [] h = refl
names_back desks (x ∷ said) h = rw (name_at desks x.desk h.0, names_back desks said h.1) refl

short_names : (numbered : List (ℕ × LineWords)) (said : List Said) → AllZip Says numbered said → AllByRecursion (λ name. length name ≤ MOST_DESK_NAME_BYTES) (desks_of said)
short_names [] [] h = tt
short_names [] (x ∷ said) h = absurd h
short_names (first ∷ more) [] h = absurd h
short_names (first ∷ more) (x ∷ said) h = (h.0.short, short_names more said h.1)

desk_clean : (desk : List ℕ) (more : LineWords) → AllByRecursion IsClean (desk_words desk ++ more) → IsClean desk
desk_clean [] more h = tt
desk_clean (byte ∷ bytes) more h = h.0.1

command_clean : (desk : List ℕ) (more : LineWords) → AllByRecursion IsClean (desk_words desk ++ more) → AllByRecursion IsClean more
command_clean [] more h = h
command_clean (byte ∷ bytes) more h = h.1

clean_names : (numbered : List (ℕ × LineWords)) (said : List Said) → AllZip Says numbered said → AllByRecursion IsClean (desks_of said)
clean_names [] [] h = tt
clean_names [] (x ∷ said) h = absurd h
clean_names (first ∷ more) [] h = absurd h
clean_names (first ∷ more) (x ∷ said) h = (desk_clean x.desk h.0.command_words (subst (λ (ws : LineWords). AllByRecursion IsClean ws) h.0.is h.0.clean), clean_names more said h.1)

-- ---- names that commands give

pairs_clean : (p q : NamedPair) (on : Option (List ℕ)) → AllByRecursion IsClean (strength_words p q on) → AllByRecursion IsClean (names_of_pairs p q on)
pairs_clean p q None h = h
pairs_clean p q (Some name) h = (h.0, (h.1.0, (h.1.1.0, (h.1.1.1.0, h.1.1.1.1.1))))

rest_clean : (ws rest : LineWords) (verb : List ℕ) → ws ≡ verb ∷ rest → AllByRecursion IsClean ws → AllByRecursion IsClean rest
rest_clean ws rest verb is clean = (subst (λ (x : LineWords). AllByRecursion IsClean x) is clean).1

first_clean : (name : List ℕ) (more : LineWords) → AllByRecursion IsClean (name ∷ more) → AllByRecursion IsClean (name ∷ [])
first_clean name more clean = (clean.0, tt)

statement_clean : (ws : LineWords) (named : Named) → SpellsStatement ws named → AllByRecursion IsClean ws → AllByRecursion IsClean (names_of_statement named)
statement_clean ws (Prefer a b) h clean = rest_clean ws (a ∷ b ∷ []) (codes "prefer") h clean
statement_clean ws (AtLeast a b) h clean = rest_clean ws (a ∷ b ∷ []) (codes "atleast") h clean
statement_clean ws (Same a b) h clean = rest_clean ws (a ∷ b ∷ []) (codes "same") h clean
statement_clean ws (Stronger p q on) h clean = pairs_clean p q on (rest_clean ws (strength_words p q on) (codes "stronger") h clean)
statement_clean ws (AsStrong p q on) h clean = pairs_clean p q on (rest_clean ws (strength_words p q on) (codes "asstrong") h clean)
statement_clean ws (EqualStrength p q on) h clean = pairs_clean p q on (rest_clean ws (strength_words p q on) (codes "equal") h clean)
statement_clean ws (Class a lowest highest) h clean = first_clean a (h.0 ∷ h.1 ∷ []) (rest_clean ws (a ∷ h.0 ∷ h.1 ∷ []) (codes "class") h.2 clean)

question_clean : (ws : LineWords) (asked : Asked) → SpellsQuestion ws asked → AllByRecursion IsClean ws → AllByRecursion IsClean (names_of_question asked)
question_clean ws Consistent h clean = tt
question_clean ws (Necessary a b) h clean = rest_clean ws (a ∷ b ∷ []) (codes "necessary") h clean
question_clean ws (Possible a b) h clean = rest_clean ws (a ∷ b ∷ []) (codes "possible") h clean
question_clean ws (NecessaryStrength p q on) h clean = pairs_clean p q on (rest_clean ws (strength_words p q on) (codes "necessary") h clean)
question_clean ws (PossibleStrength p q on) h clean = pairs_clean p q on (rest_clean ws (strength_words p q on) (codes "possible") h clean)
question_clean ws (PossibleClass a n) h clean = first_clean a (h.0 ∷ []) (rest_clean ws (a ∷ h.0 ∷ []) (codes "possible-class") h.1 clean)
question_clean ws (NecessaryClass a n) h clean = first_clean a (h.0 ∷ []) (rest_clean ws (a ∷ h.0 ∷ []) (codes "necessary-class") h.1 clean)
question_clean ws (Classes a) h clean = rest_clean ws (a ∷ []) (codes "classes") h clean
question_clean ws Relation h clean = tt

spelled_clean : (ws : LineWords) (command : Command) → Spells ws command → AllByRecursion IsClean ws → AllByRecursion IsClean (names_of command)
spelled_clean ws (State named) h clean = statement_clean ws named h clean
spelled_clean ws (Withdraw n) h clean = tt
spelled_clean ws (Replace n named) h clean = let c = rest_clean ws (h.0 ∷ h.1) (codes "replace") h.2 clean in statement_clean h.1 named h.4 c.1
spelled_clean ws Repair h clean = tt
spelled_clean ws Undo h clean = tt
spelled_clean ws (Ask asked) h clean = question_clean h.0 asked h.2 (rest_clean ws h.0 (codes "ask") h.1 clean)

lines_clean : (numbered : List (ℕ × LineWords)) (said : List Said) (desks : List (List ℕ)) → AllZip Says numbered said → AllByRecursion (λ (line : Line). AllByRecursion IsClean (names_of line.command)) (map (placed desks) said)
lines_clean [] [] desks h = tt
lines_clean [] (x ∷ said) desks h = absurd h
lines_clean (first ∷ more) [] desks h = absurd h
lines_clean (first ∷ more) (x ∷ said) desks h = (spelled_clean h.0.command_words x.command h.0.spelled (command_clean x.desk h.0.command_words (subst (λ (ws : LineWords). AllByRecursion IsClean ws) h.0.is h.0.clean)), lines_clean more said desks h.1)

-- ---- all of it

pub session-sound : (bytes : List ℕ) (session : Session) → IsSessionText bytes session → IsSound session
session-sound bytes session whole =
    let h : IsSession (numbered_lines bytes) session = whole.lines in
    let rises = numbers_rise bytes session h in
    let there : AllByRecursion (λ (name : List ℕ). has_desk session.desks name ≡ true) (desks_of h.said) = subst (λ (ds : List (List ℕ)). AllByRecursion (λ (name : List ℕ). has_desk ds name ≡ true) (desks_of h.said)) (sym h.desks) (appearances_have (desks_of h.said)) in
    let few : length session.lines ≤ line_count bytes = omega (arith, rise_count 1 (1 + line_count bytes) _ rises, length-map session.lines (λ (line : Line). line.number)) in
    record {
      few_desks = h.few_desks;
      distinct = rw h.desks (appearances_distinct (desks_of h.said));
      short = rw h.desks (appearances_keep (λ (name : List ℕ). length name ≤ MOST_DESK_NAME_BYTES) (desks_of h.said) (short_names (numbered_lines bytes) h.said h.says));
      clean_desks = rw h.desks (appearances_keep IsClean (desks_of h.said) (clean_names (numbered_lines bytes) h.said h.says));
      desks = subst (λ (ls : List Line). AllByRecursion (λ (line : Line). line.desk < length session.desks) ls) (sym h.lines) (desks_below session.desks h.said there);
      order = h.desks ∙ ap first_appearances (sym (ap (map (desk_name session.desks)) h.lines ∙ names_back session.desks h.said there));
      few_lines = omega (arith, few, whole.readable.few_lines);
      numbers = small_numbers 1 (1 + line_count bytes) session.lines (omega (arith, whole.readable.few_lines)) rises;
      rising = rise_increasing 1 (1 + line_count bytes) _ rises;
      clean = subst (λ (ls : List Line). AllByRecursion (λ (line : Line). AllByRecursion IsClean (names_of line.command)) ls) (sym h.lines) (lines_clean (numbered_lines bytes) h.said session.desks h.says);
    }
