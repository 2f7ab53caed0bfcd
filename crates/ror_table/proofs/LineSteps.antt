-- What one more line adds to a table, in the words of the grammar, and that reading a line is adding it.
use Rattle.std.proofs.Common.{◌≡◌, ℕ, ◌+◌, ◌<◌, ◌≤◌, Bool, true, false, not, cond, eqb, ltb, leb, ◌&&◌, List, [], ◌∷◌, length, drop, Option, Some, None, Result, Ok, Err, ℤ, suc, All, refl, sym, ap, subst, ◌∙◌, arith, ◌++◌}
use Rattle.std.specs.Prelude.{◌≢◌, codes}
use Rattle.std.specs.List.{AllZip, list_any}
use Rattle.std.specs.Option.{option_map, option_and_then}
use Rattle.std.specs.Str.{bytes_eq, all_ascii_digits}
use Rattle.std.specs.Char.{is_ascii_digit}
use Rattle.std.proofs.lemmas.List.{length-drop}
use Rattle.std.proofs.lemmas.Bool.{or_parts, or_from, ltb-false, leb-true, le-ltb, leb-false, lt-leb, eqb-true, eqb-false, ne_eqb, and_parts, not-false}
use Rattle.std.proofs.lemmas.Slice.Eq.{bytes_eq-Decides}
use Rattle.ror_text.specs.Ids.{is_id, IsId}
use Rattle.ror_text.specs.Lines.{has_control, is_control, word_at}
use Rattle.ror_text.specs.Numbers.{count_of, digits_up_to, is_digits}
use Rattle.std.proofs.lemmas.List.Elements.{All-cons}
use Rattle.ror_text.specs.Reading.{◌>>=◌, refuse, need}
use Rattle.ror_text.proofs.IdLemmas.{IsId-form}
use Rattle.ror_table.specs.declared.amount.Amount.{Amount}
use Rattle.ror_table.specs.declared.direction.Direction.{Direction}
use Rattle.ror_table.specs.declared.direction.Scale.{Scale}
use Rattle.ror_table.specs.declared.direction.Direction.TheVariants.{Max, Min}
use Rattle.ror_table.specs.declared.fault.TableFault.{TableFault}
use Rattle.ror_table.specs.declared.fault.TableKind.TheVariants.{BadLine, RepeatedId, MissingPerformance, BadNumber, TooMany}
use Rattle.ror_table.specs.declared.fault.What.TheVariants.{Alternatives, Criteria, Classes}
use Rattle.ror_table.specs.declared.limits.TheConstants.{MOST_ALTERNATIVES, MOST_CLASSES, MOST_CRITERIA}
use Rattle.ror_table.specs.declared.plain.Version.{Version}
use Rattle.ror_table.specs.declared.plain.Version.TheVariants.{One, Two, Three}
use Rattle.ror_table.specs.Amounts.{IsAmount}
use Rattle.ror_table.specs.Spellings.{point, slash, Sign, sign_bytes, AreDigits, WritesWhole, WritesDecimal, WritesRatio, WritesAmount, performance_in}
use Rattle.ror_table.specs.Spellings.Sign.{Unsigned, Plus, Minus}
use Rattle.ror_table.specs.Spellings.WritesReal.{by_whole, by_decimal}
use Rattle.ror_table.specs.Spellings.WritesAmount.{by_real, by_ratio}
use Rattle.ror_table.specs.Table.{Criterion, Alternative, DecisionTable, criterion_ids, alternative_ids}
use Rattle.ror_table.specs.Draft.{has_id, add_criterion, add_alternative, with_criterion}
use Rattle.ror_table.specs.Plain.{at_line, direction_of, takes_linear, linear_of, performances_of, is_past_criteria, criterion_line, classes_line, alternative_line, known_line, body_line}
use Rattle.ror_table.specs.Grammar.{LineWords, direction_word, linear_words, criterion_words, MayBeLinear, WritesPerformance, WritesAlternative}
use Rattle.ror_table.proofs.SpellingLemmas.{WritesPerformance-read, read-WritesPerformance, IsAmount-writes_performance}

-- ---- what a line adds

abbrev pub scale_of : Criterion → Scale
scale_of c = record { direction = c.direction; linear = c.linear }

pub record AddsCriterion (version : Version) (t : DecisionTable) (line : LineWords) (t' : DecisionTable) : Type 0 where
  pub criterion : Criterion
  pub is : line ≡ criterion_words criterion
  pub linear : MayBeLinear version criterion
  pub valid : IsId criterion.id
  pub fresh : has_id (criterion_ids t) criterion.id ≡ false
  pub room : length t.criteria < MOST_CRITERIA
  pub early : is_past_criteria t ≡ false
  pub becomes : add_criterion t criterion.id (scale_of criterion) ≡ t'

pub record SetsClasses (t : DecisionTable) (line : LineWords) (t' : DecisionTable) : Type 0 where
  pub word : List ℕ
  pub count : ℕ
  pub is : line ≡ codes "classes" ∷ word ∷ []
  pub written : count_of word ≡ Some count
  pub some : 0 < count
  pub few : count ≤ MOST_CLASSES
  pub early : is_past_criteria t ≡ false
  pub becomes : record t { classes = count } ≡ t'

pub record AddsAlternative (version : Version) (t : DecisionTable) (line : LineWords) (t' : DecisionTable) : Type 0 where
  pub alternative : Alternative
  pub writes : WritesAlternative version line alternative
  pub valid : IsId alternative.id
  pub fresh : has_id (alternative_ids t) alternative.id ≡ false
  pub width : length alternative.performances ≡ length t.criteria
  pub room : length t.alternatives < MOST_ALTERNATIVES
  pub becomes : add_alternative t alternative.id alternative.performances ≡ t'

-- ---- words

pub is_word : (a b : List ℕ) → bytes_eq a b ≡ true → a ≡ b
is_word a b h = (bytes_eq-Decides a b).0 h

same_word : (a : List ℕ) → bytes_eq a a ≡ true
same_word a = (bytes_eq-Decides a a).1 refl

pub two_words : (line : LineWords) → eqb (length line) 2 ≡ true → line ≡ word_at line 0 ∷ word_at line 1 ∷ []
two_words [] h = absurd cc
two_words (a ∷ []) h = absurd cc
two_words (a ∷ b ∷ []) h = refl
two_words (a ∷ b ∷ c ∷ more) h = absurd (omega (arith, eqb-true (length (a ∷ b ∷ c ∷ more)) 2 h))

pub three_words : (line : LineWords) → eqb (length line) 3 ≡ true → line ≡ word_at line 0 ∷ word_at line 1 ∷ word_at line 2 ∷ []
three_words [] h = absurd cc
three_words (a ∷ []) h = absurd cc
three_words (a ∷ b ∷ []) h = absurd cc
three_words (a ∷ b ∷ c ∷ []) h = refl
three_words (a ∷ b ∷ c ∷ d ∷ more) h = absurd (omega (arith, eqb-true (length (a ∷ b ∷ c ∷ d ∷ more)) 3 h))

pub two_and_more : (line : LineWords) → ltb (length line) 2 ≡ false → line ≡ word_at line 0 ∷ word_at line 1 ∷ drop 2 line
two_and_more [] h = absurd cc
two_and_more (a ∷ []) h = absurd cc
two_and_more (a ∷ b ∷ more) h = refl

pub four_words : (line : LineWords) → eqb (length line) 4 ≡ true → line ≡ word_at line 0 ∷ word_at line 1 ∷ word_at line 2 ∷ word_at line 3 ∷ []
four_words [] h = absurd cc
four_words (a ∷ []) h = absurd cc
four_words (a ∷ b ∷ []) h = absurd cc
four_words (a ∷ b ∷ c ∷ []) h = absurd cc
four_words (a ∷ b ∷ c ∷ d ∷ []) h = refl
four_words (a ∷ b ∷ c ∷ d ∷ e ∷ more) h = absurd (omega (arith, eqb-true (length (a ∷ b ∷ c ∷ d ∷ e ∷ more)) 4 h))

direction_by : (word : List ℕ) (d : Direction) (a b : Bool) → bytes_eq word (codes "max") ≡ a → bytes_eq word (codes "min") ≡ b → cond a (Some Max) (cond b (Some Min) None) ≡ Some d → word ≡ direction_word d
direction_by word d true b max min h = let same : Max ≡ d = cc in is_word word (codes "max") max ∙ ap direction_word same
direction_by word d false true max min h = let same : Min ≡ d = cc in is_word word (codes "min") min ∙ ap direction_word same
direction_by word d false false max min h = absurd cc

pub direction_of_word : (word : List ℕ) (d : Direction) → direction_of word ≡ Some d → word ≡ direction_word d
direction_of_word word d h = direction_by word d (bytes_eq word (codes "max")) (bytes_eq word (codes "min")) refl refl h

pub direction_of-direction_word : (d : Direction) → direction_of (direction_word d) ≡ Some d
direction_of-direction_word Max = refl
direction_of-direction_word Min = refl

-- the words behind a direction make the criterion linear, or not, and may do so
pub record IsLinear (version : Version) (words : LineWords) (b : Bool) : Type 0 where
  pub is : words ≡ word_at words 0 ∷ word_at words 1 ∷ word_at words 2 ∷ linear_words b
  pub may : b ≡ true → takes_linear version ≡ true

linear_by : (version : Version) (words : LineWords) (b three takes four linear : Bool) → eqb (length words) 3 ≡ three → takes_linear version ≡ takes → eqb (length words) 4 ≡ four → bytes_eq (word_at words 3) (codes "linear") ≡ linear
    → cond three (Some false) (cond (takes && four && linear) (Some true) None) ≡ Some b → IsLinear version words b
linear_by version words b true takes four linear p q r s h =
    let none : false ≡ b = cc in
    subst (IsLinear version words) none (record { is = three_words words p; may = λ no. absurd (let e = no in cc) })
linear_by version words b false true true true p q r s h =
    let some : true ≡ b = cc in
    let last : word_at words 3 ≡ codes "linear" = is_word (word_at words 3) (codes "linear") s in
    subst (IsLinear version words) some (record { is = four_words words r ∙ ap (λ (w : List ℕ). word_at words 0 ∷ word_at words 1 ∷ word_at words 2 ∷ w ∷ []) last; may = λ _. q })
linear_by version words b false false four linear p q r s h = absurd cc
linear_by version words b false true false linear p q r s h = absurd cc
linear_by version words b false true true false p q r s h = absurd cc

pub linear_of_words : (version : Version) (words : LineWords) (b : Bool) → linear_of version words ≡ Some b → IsLinear version words b
linear_of_words version words b h = linear_by version words b (eqb (length words) 3) (takes_linear version) (eqb (length words) 4) (bytes_eq (word_at words 3) (codes "linear")) refl refl refl refl h

pub linear_of-linear_words : (version : Version) (first id direction : List ℕ) (b : Bool) → (b ≡ true → takes_linear version ≡ true) → linear_of version (first ∷ id ∷ direction ∷ linear_words b) ≡ Some b
linear_of-linear_words version first id direction false may = refl
linear_of-linear_words version first id direction true may = rw (may refl) refl

pub enough_words : (first id direction : List ℕ) (b : Bool) → ltb (length (first ∷ id ∷ direction ∷ linear_words b)) 3 ≡ false
enough_words first id direction false = refl
enough_words first id direction true = refl

linear_visible : (b : Bool) → has_control (linear_words b) ≡ false
linear_visible false = refl
linear_visible true = refl

-- ---- performances

first_some : (o : Option Amount) (f : Amount → Option (List Amount)) (ps : List Amount) → option_and_then f o ≡ Some ps → (p : Amount) × (o ≡ Some p) × (f p ≡ Some ps)
first_some None f ps h = absurd cc
first_some (Some p) f ps h = (p, refl, h)

then_some : (p : Amount) (o : Option (List Amount)) (ps : List Amount) → option_map (λ more. p ∷ more) o ≡ Some ps → (more : List Amount) × (o ≡ Some more) × (ps ≡ p ∷ more)
then_some p None ps h = absurd cc
then_some p (Some more) ps h = (more, refl, cc)

abbrev pub AreWritten : Version → LineWords → List Amount → Type 0
AreWritten version words ps = AllZip (WritesPerformance version) words ps

pub are_written : (version : Version) (words : LineWords) (ps : List Amount) → performances_of version words ≡ Some ps → AreWritten version words ps
are_written version [] ps h = let none : ps ≡ [] = cc in subst (AreWritten version []) (sym none) tt
are_written version (word ∷ words) ps h =
    let a = first_some (performance_in version word) (λ p. option_map (λ more. p ∷ more) (performances_of version words)) ps h in
    let b = then_some a.0 (performances_of version words) ps a.2 in
    subst (AreWritten version (word ∷ words)) (sym b.2) (WritesPerformance-read version word a.0 a.1, are_written version words b.0 b.1)

pub written_are : (version : Version) (words : LineWords) (ps : List Amount) → AreWritten version words ps → performances_of version words ≡ Some ps
written_are version [] [] h = refl
written_are version [] (p ∷ ps) h = absurd h
written_are version (word ∷ words) [] h = absurd h
written_are version (word ∷ words) (p ∷ ps) h = rw (read-WritesPerformance version word p h.0, written_are version words ps h.1) refl

pub length-written : (version : Version) (words : LineWords) (ps : List Amount) → AreWritten version words ps → length words ≡ length ps
length-written version [] [] h = refl
length-written version [] (p ∷ ps) h = absurd h
length-written version (word ∷ words) [] h = absurd h
length-written version (word ∷ words) (p ∷ ps) h = ap suc (length-written version words ps h.1)

-- ---- no word of the grammar has a control byte

digit_visible : (c : ℕ) → is_ascii_digit c ≡ true → is_control c ≡ false
digit_visible c h =
    let range = and_parts (leb 48 c) (leb c 57) h in
    let low : 48 ≤ c = leb-true 48 c range.0 in
    let high : c ≤ 57 = leb-true c 57 range.1 in
    or_from (ltb c 0x21) (eqb c 0x7F) (le-ltb c 0x21 (omega arith)) (ne_eqb c 0x7F (λ (e : c ≡ 0x7F). omega arith))

digits_visible : (ds : List ℕ) → all_ascii_digits ds ≡ true → list_any is_control ds ≡ false
digits_visible [] h = refl
digits_visible (d ∷ ds) h =
    let both = and_parts (is_ascii_digit d) (all_ascii_digits ds) h in
    or_from (is_control d) (list_any is_control ds) (digit_visible d both.0) (digits_visible ds both.1)

given : (b : Bool) (m n : ℕ) → cond b (Some m) None ≡ Some n → b ≡ true
given true m n h = refl
given false m n h = absurd cc

up_to_visible : (most : ℕ) (word : List ℕ) (n : ℕ) → digits_up_to most word ≡ Some n → list_any is_control word ≡ false
up_to_visible most word n h =
    let tests = and_parts (is_digits word) (leb (length word) most) (given (is_digits word && leb (length word) most) _ n h) in
    digits_visible word (and_parts (ltb 0 (length word)) (all_ascii_digits word) tests.0).1

both_visible : (a b : List ℕ) → list_any is_control a ≡ false → list_any is_control b ≡ false → list_any is_control (a ++ b) ≡ false
both_visible [] b p q = q
both_visible (c ∷ a) b p q = let parts = or_parts (is_control c) (list_any is_control a) p in or_from (is_control c) (list_any is_control (a ++ b)) parts.0 (both_visible a b parts.1 q)

sign_visible : (sign : Sign) → list_any is_control (sign_bytes sign) ≡ false
sign_visible Unsigned = refl
sign_visible Plus = refl
sign_visible Minus = refl

all_digits_visible : (digits : List ℕ) → AreDigits digits → list_any is_control digits ≡ false
all_digits_visible digits h = digits_visible digits (and_parts (ltb 0 (length digits)) (all_ascii_digits digits) h).1

whole_visible : (word : List ℕ) (n : ℤ) → WritesWhole word n → list_any is_control word ≡ false
whole_visible word n w = ap (list_any is_control) w.is ∙ both_visible (sign_bytes w.sign) w.digits (sign_visible w.sign) (all_digits_visible w.digits w.are_digits)

decimal_visible : (word : List ℕ) (p : Amount) → WritesDecimal word p → list_any is_control word ≡ false
decimal_visible word p w =
    let behind : list_any is_control (point ∷ w.behind) ≡ false = all_digits_visible w.behind w.behind_digits in
    ap (list_any is_control) w.is ∙ both_visible (sign_bytes w.sign) (w.before ++ point ∷ w.behind) (sign_visible w.sign) (both_visible w.before (point ∷ w.behind) (all_digits_visible w.before w.before_digits) behind)

ratio_visible : (word : List ℕ) (p : Amount) → WritesRatio word p → list_any is_control word ≡ false
ratio_visible word p w =
    let behind : list_any is_control (slash ∷ w.second) ≡ false = all_digits_visible w.second w.second_digits in
    ap (list_any is_control) w.is ∙ both_visible w.first (slash ∷ w.second) (whole_visible w.first w.n w.writes) behind

amount_visible : (word : List ℕ) (p : Amount) → WritesAmount word p → list_any is_control word ≡ false
amount_visible word p (by_real (by_whole w)) = whole_visible word w.n w.writes
amount_visible word p (by_real (by_decimal w)) = decimal_visible word p w
amount_visible word p (by_ratio w) = ratio_visible word p w

performance_visible : (version : Version) (word : List ℕ) (p : Amount) → WritesPerformance version word p → list_any is_control word ≡ false
performance_visible One word p w = whole_visible word w.n w.writes
performance_visible Two word p w = amount_visible word p w
performance_visible Three word p w = amount_visible word p w

count_visible : (word : List ℕ) (n : ℕ) → count_of word ≡ Some n → list_any is_control word ≡ false
unfolding count_of
count_visible word n h = up_to_visible 9 word n h

written_visible : (version : Version) (words : LineWords) (ps : List Amount) → AreWritten version words ps → has_control words ≡ false
written_visible version [] ps h = refl
written_visible version (word ∷ words) [] h = absurd h
written_visible version (word ∷ words) (p ∷ ps) h = or_from (list_any is_control word) (has_control words) (performance_visible version word p h.0) (written_visible version words ps h.1)

direction_visible : (d : Direction) → list_any is_control (direction_word d) ≡ false
direction_visible Max = refl
direction_visible Min = refl

-- ---- what is written are amounts

pub written_amounts : (version : Version) (words : LineWords) (ps : List Amount) → AreWritten version words ps → All IsAmount ps
written_amounts version [] [] h = λ k d lt. absurd (omega arith)
written_amounts version [] (p ∷ ps) h = absurd h
written_amounts version (word ∷ words) [] h = absurd h
written_amounts version (word ∷ words) (p ∷ ps) h = All-cons IsAmount p ps (IsAmount-writes_performance version word p h.0) (written_amounts version words ps h.1)

-- ---- a line of criteria

criterion_tests : (f g h : TableFault) (b1 : Bool) (o : Option Direction) (l : Option Bool) (b2 b3 b4 b5 : Bool) (k : Direction → Bool → DecisionTable) (t' : DecisionTable)
    → (refuse f b1 >>= λ _. need f o >>= λ d. need f l >>= λ n. refuse f b2 >>= λ _. (refuse f b3 >>= λ _. refuse g b4) >>= λ _. refuse h b5 >>= λ _. Ok (k d n)) ≡ Ok t'
    → (d : Direction) × (n : Bool) × (o ≡ Some d) × (l ≡ Some n) × (b2 ≡ false) × (b3 ≡ false) × (b4 ≡ false) × (b5 ≡ false) × (k d n ≡ t')
criterion_tests f g h true o l b2 b3 b4 b5 k t' e = absurd cc
criterion_tests f g h false None l b2 b3 b4 b5 k t' e = absurd cc
criterion_tests f g h false (Some d) None b2 b3 b4 b5 k t' e = absurd cc
criterion_tests f g h false (Some d) (Some n) true b3 b4 b5 k t' e = absurd cc
criterion_tests f g h false (Some d) (Some n) false true b4 b5 k t' e = absurd cc
criterion_tests f g h false (Some d) (Some n) false false true b5 k t' e = absurd cc
criterion_tests f g h false (Some d) (Some n) false false false true k t' e = absurd cc
criterion_tests f g h false (Some d) (Some n) false false false false k t' e = (d, n, refl, refl, refl, refl, refl, refl, cc)

-- the words of a criterion with this direction, linear or not
pub criterion_is : (version : Version) (words : LineWords) (d : Direction) (n : Bool) → word_at words 0 ≡ codes "criterion" → direction_of (word_at words 2) ≡ Some d → IsLinear version words n → words ≡ criterion_words (record { id = word_at words 1; direction = d; linear = n })
criterion_is version words d n name direction linear =
    linear.is ∙ ap (λ (w : List ℕ). w ∷ word_at words 1 ∷ word_at words 2 ∷ linear_words n) name
    ∙ ap (λ (w : List ℕ). codes "criterion" ∷ word_at words 1 ∷ w ∷ linear_words n) (direction_of_word (word_at words 2) d direction)

criterion_line_adds : (version : Version) (line : ℕ) (t : DecisionTable) (words : LineWords) (t' : DecisionTable) → bytes_eq (word_at words 0) (codes "criterion") ≡ true → criterion_line version line t words ≡ Ok t' → AddsCriterion version t words t'
unfolding criterion_line with_criterion
criterion_line_adds version line t words t' first e =
    let id : List ℕ = word_at words 1 in
    let r = criterion_tests (at_line line BadLine) (at_line line RepeatedId) (at_line line (TooMany Criteria)) (ltb (length words) 3) (direction_of (word_at words 2)) (linear_of version words) (is_past_criteria t) (not (is_id id)) (has_id (criterion_ids t) id) (leb MOST_CRITERIA (length t.criteria)) (λ d n. add_criterion t id (record { direction = d; linear = n })) t' e in
    let name : word_at words 0 ≡ codes "criterion" = is_word (word_at words 0) (codes "criterion") first in
    let linear = linear_of_words version words r.1 r.3 in
    record {
      criterion = record { id = id; direction = r.0; linear = r.1 };
      is = criterion_is version words r.0 r.1 name r.2 linear;
      linear = linear.may;
      valid = not-false (is_id id) r.5;
      fresh = r.6;
      room = leb-false MOST_CRITERIA (length t.criteria) r.7;
      early = r.4;
      becomes = r.8;
    }

adds_criterion_line : (version : Version) (line : ℕ) (t : DecisionTable) (words : LineWords) (t' : DecisionTable) → AddsCriterion version t words t' → body_line version t (line, words) ≡ Ok t'
unfolding body_line known_line criterion_line with_criterion
adds_criterion_line version line t words t' adds =
    let c = adds.criterion in
    let visible : list_any is_control c.id ≡ false = (IsId-form c.id adds.valid).visible in
    let full : leb MOST_CRITERIA (length t.criteria) ≡ false = lt-leb _ _ adds.room in
    let enough = enough_words (codes "criterion") c.id (direction_word c.direction) c.linear in
    let linear = linear_of-linear_words version (codes "criterion") c.id (direction_word c.direction) c.linear adds.linear in
    ap (λ (w : LineWords). body_line version t (line, w)) adds.is ∙ rw (visible, direction_visible c.direction, linear_visible c.linear, enough, adds.valid, direction_of-direction_word c.direction, linear, adds.early, adds.fresh, full) (ap Ok adds.becomes)

-- ---- a line of classes

pub two_tests : (g h : TableFault) (b3 b4 : Bool) (t t' : DecisionTable) → (refuse g b3 >>= λ _. refuse h b4 >>= λ _. Ok t) ≡ Ok t' → (b3 ≡ false) × (b4 ≡ false) × (t ≡ t')
two_tests g h true b4 t t' e = absurd cc
two_tests g h false true t t' e = absurd cc
two_tests g h false false t t' e = (refl, refl, cc)

classes_tests : (f g h : TableFault) (b1 b2 : Bool) (o : Option ℕ) (b3 b4 : ℕ → Bool) (k : ℕ → DecisionTable) (t' : DecisionTable)
    → (refuse f b1 >>= λ _. refuse f b2 >>= λ _. need g o >>= λ n. refuse g (b3 n) >>= λ _. refuse h (b4 n) >>= λ _. Ok (k n)) ≡ Ok t'
    → (n : ℕ) × (b1 ≡ false) × (b2 ≡ false) × (o ≡ Some n) × (b3 n ≡ false) × (b4 n ≡ false) × (k n ≡ t')
classes_tests f g h true b2 o b3 b4 k t' e = absurd cc
classes_tests f g h false true o b3 b4 k t' e = absurd cc
classes_tests f g h false false None b3 b4 k t' e = absurd cc
classes_tests f g h false false (Some n) b3 b4 k t' e = let r = two_tests g h (b3 n) (b4 n) (k n) t' e in (n, refl, refl, refl, r.0, r.1, r.2)

classes_line_sets : (line : ℕ) (t : DecisionTable) (words : LineWords) (t' : DecisionTable) → bytes_eq (word_at words 0) (codes "classes") ≡ true → classes_line line t words ≡ Ok t' → SetsClasses t words t'
unfolding classes_line
classes_line_sets line t words t' first e =
    let r = classes_tests (at_line line BadLine) (at_line line BadNumber) (at_line line (TooMany Classes)) (not (eqb (length words) 2)) (is_past_criteria t) (count_of (word_at words 1)) (λ n. eqb n 0) (λ n. ltb MOST_CLASSES n) (λ n. record t { classes = n }) t' e in
    let name : word_at words 0 ≡ codes "classes" = is_word (word_at words 0) (codes "classes") first in
    let positive : r.0 ≢ 0 = eqb-false r.0 0 r.4 in
    record {
      word = word_at words 1;
      count = r.0;
      is = two_words words (not-false (eqb (length words) 2) r.1) ∙ ap (λ (w : List ℕ). w ∷ word_at words 1 ∷ []) name;
      written = r.3;
      some = omega arith;
      few = ltb-false MOST_CLASSES r.0 r.5;
      early = r.2;
      becomes = r.6;
    }

sets_classes_line : (version : Version) (line : ℕ) (t : DecisionTable) (words : LineWords) (t' : DecisionTable) → SetsClasses t words t' → body_line version t (line, words) ≡ Ok t'
unfolding body_line known_line classes_line
sets_classes_line version line t words t' sets =
    let positive : eqb sets.count 0 ≡ false = ne_eqb sets.count 0 (λ (e : sets.count ≡ 0). omega (arith, sets.some)) in
    let few : ltb MOST_CLASSES sets.count ≡ false = le-ltb MOST_CLASSES sets.count sets.few in
    ap (λ (w : LineWords). body_line version t (line, w)) sets.is ∙ rw (count_visible sets.word sets.count sets.written, sets.early, sets.written, positive, few) (ap Ok sets.becomes)

-- ---- a line of an alternative

alternative_tests : (f g h m n : TableFault) (b1 b2 b3 b4 b5 : Bool) (o : Option (List Amount)) (b6 : Bool) (k : List Amount → DecisionTable) (t' : DecisionTable)
    → (refuse f b1 >>= λ _. refuse f b2 >>= λ _. (refuse f b3 >>= λ _. refuse g b4) >>= λ _. refuse h b5 >>= λ _. need m o >>= λ ps. refuse n b6 >>= λ _. Ok (k ps)) ≡ Ok t'
    → (ps : List Amount) × (b1 ≡ false) × (b2 ≡ false) × (b3 ≡ false) × (b4 ≡ false) × (b5 ≡ false) × (o ≡ Some ps) × (b6 ≡ false) × (k ps ≡ t')
alternative_tests f g h m n true b2 b3 b4 b5 o b6 k t' e = absurd cc
alternative_tests f g h m n false true b3 b4 b5 o b6 k t' e = absurd cc
alternative_tests f g h m n false false true b4 b5 o b6 k t' e = absurd cc
alternative_tests f g h m n false false false true b5 o b6 k t' e = absurd cc
alternative_tests f g h m n false false false false true o b6 k t' e = absurd cc
alternative_tests f g h m n false false false false false None b6 k t' e = absurd cc
alternative_tests f g h m n false false false false false (Some ps) true k t' e = absurd cc
alternative_tests f g h m n false false false false false (Some ps) false k t' e = (ps, refl, refl, refl, refl, refl, refl, refl, cc)

alternative_line_adds : (version : Version) (line : ℕ) (t : DecisionTable) (words : LineWords) (t' : DecisionTable) → bytes_eq (word_at words 0) (codes "alternative") ≡ true → alternative_line version line t words ≡ Ok t' → AddsAlternative version t words t'
unfolding alternative_line
alternative_line_adds version line t words t' first e =
    let id : List ℕ = word_at words 1 in
    let due : ℕ = length t.criteria + 2 in
    let r = alternative_tests (at_line line BadLine) (at_line line RepeatedId) (at_line line MissingPerformance) (at_line line BadNumber) (at_line line (TooMany Alternatives)) (ltb (length words) 2) (ltb due (length words)) (not (is_id id)) (has_id (alternative_ids t) id) (ltb (length words) due) (performances_of version (drop 2 words)) (leb MOST_ALTERNATIVES (length t.alternatives)) (λ ps. add_alternative t id ps) t' e in
    let parts = two_and_more words r.1 in
    let name : word_at words 0 ≡ codes "alternative" = is_word (word_at words 0) (codes "alternative") first in
    let written = are_written version (drop 2 words) r.0 r.6 in
    let long : length words ≡ due = omega (arith, ltb-false due (length words) r.2, ltb-false (length words) due r.5) in
    record {
      alternative = record { id = id; performances = r.0 };
      writes = record { numbers = drop 2 words; is = parts ∙ ap (λ (w : List ℕ). w ∷ id ∷ drop 2 words) name; written = written };
      valid = not-false (is_id id) r.3;
      fresh = r.4;
      width = omega (arith, length-written version (drop 2 words) r.0 written, length-drop 2 words);
      room = leb-false MOST_ALTERNATIVES (length t.alternatives) r.7;
      becomes = r.8;
    }

adds_alternative_line : (version : Version) (line : ℕ) (t : DecisionTable) (words : LineWords) (t' : DecisionTable) → AddsAlternative version t words t' → body_line version t (line, words) ≡ Ok t'
unfolding body_line known_line alternative_line
adds_alternative_line version line t words t' adds =
    let a = adds.alternative in
    let numbers = adds.writes.numbers in
    let long : length numbers ≡ length t.criteria = length-written version numbers a.performances adds.writes.written ∙ adds.width in
    let visible : list_any is_control a.id ≡ false = (IsId-form a.id adds.valid).visible in
    let full : leb MOST_ALTERNATIVES (length t.alternatives) ≡ false = lt-leb _ _ adds.room in
    let some : ltb (suc (suc (length numbers))) 2 ≡ false = le-ltb _ _ (omega arith) in
    let not_more : ltb (length t.criteria + 2) (suc (suc (length numbers))) ≡ false = le-ltb _ _ (omega arith) in
    let not_less : ltb (suc (suc (length numbers))) (length t.criteria + 2) ≡ false = le-ltb _ _ (omega arith) in
    ap (λ (w : LineWords). body_line version t (line, w)) adds.writes.is ∙ rw (visible, written_visible version numbers a.performances adds.writes.written, some, not_more, adds.valid, adds.fresh, not_less, written_are version numbers a.performances adds.writes.written, full) (ap Ok adds.becomes)

-- ---- any line

pub data Adds (version : Version) (t : DecisionTable) (line : LineWords) (t' : DecisionTable) : Type 0 where
  a_criterion : AddsCriterion version t line t' → Adds version t line t'
  the_classes : SetsClasses t line t' → Adds version t line t'
  an_alternative : AddsAlternative version t line t' → Adds version t line t'

known_by : (version : Version) (line : ℕ) (t : DecisionTable) (words : LineWords) (t' : DecisionTable) (b1 b2 b3 : Bool) → bytes_eq (word_at words 0) (codes "criterion") ≡ b1 → bytes_eq (word_at words 0) (codes "classes") ≡ b2 → bytes_eq (word_at words 0) (codes "alternative") ≡ b3
    → cond b1 (criterion_line version line t words) (cond b2 (classes_line line t words) (cond b3 (alternative_line version line t words) (Err (at_line line BadLine)))) ≡ Ok t' → Adds version t words t'
known_by version line t words t' true b2 b3 p q r e = a_criterion (criterion_line_adds version line t words t' p e)
known_by version line t words t' false true b3 p q r e = the_classes (classes_line_sets line t words t' q e)
known_by version line t words t' false false true p q r e = an_alternative (alternative_line_adds version line t words t' r e)
known_by version line t words t' false false false p q r e = absurd cc

pub after_refuse : (f : TableFault) (b : Bool) (r : Result DecisionTable TableFault) (t' : DecisionTable) → (refuse f b >>= λ _. r) ≡ Ok t' → (b ≡ false) × (r ≡ Ok t')
after_refuse f true r t' e = absurd cc
after_refuse f false r t' e = (refl, e)

-- reading a line is adding it
pub body_line_adds : (version : Version) (line : ℕ) (t : DecisionTable) (words : LineWords) (t' : DecisionTable) → body_line version t (line, words) ≡ Ok t' → Adds version t words t'
unfolding body_line known_line
body_line_adds version line t words t' e =
    let known = after_refuse (at_line line BadLine) (has_control words) (known_line version line t words) t' e in
    known_by version line t words t' (bytes_eq (word_at words 0) (codes "criterion")) (bytes_eq (word_at words 0) (codes "classes")) (bytes_eq (word_at words 0) (codes "alternative")) refl refl refl known.1

pub adds_body_line : (version : Version) (line : ℕ) (t : DecisionTable) (words : LineWords) (t' : DecisionTable) → Adds version t words t' → body_line version t (line, words) ≡ Ok t'
adds_body_line version line t words t' (a_criterion adds) = adds_criterion_line version line t words t' adds
adds_body_line version line t words t' (the_classes sets) = sets_classes_line version line t words t' sets
adds_body_line version line t words t' (an_alternative adds) = adds_alternative_line version line t words t' adds
