-- What is read of a plain table is in the grammar, and what is in the grammar is read.
use Rattle.std.proofs.Common.{Result, ◌≡◌, ℕ, ◌≤◌, Bool, true, false, not, cond, eqb, ltb, ◌&&◌, ◌||◌, List, [], ◌∷◌, ◌++◌, length, get_or, map, Ok, Err, All, refl, sym, ap, subst, ◌∙◌, arith, append_assoc}
use Rattle.std.specs.Prelude.{◌≢◌, codes, Option, Some, None}
use Rattle.std.specs.List.{AllZip}
use Rattle.std.specs.Option.{option_map_or}
use Rattle.std.specs.Str.{bytes_eq, is_utf8}
use Rattle.std.proofs.lemmas.Bool.{or_parts, ltb-false, le-ltb, eqb-true, eqb-false, ne_eqb, and_parts, not-false}
use Rattle.std.proofs.lemmas.List.{append-nil, map_push, map-append, length-append, nil_from_length, get_or_append_left, get_or_at}
use Rattle.std.proofs.lemmas.List.Elements.{All-push}
use Rattle.std.proofs.lemmas.List.Folds.{list_any_none}
use Rattle.std.proofs.lemmas.Str.{IsUtf8-from_is_utf8}
use Rattle.ror_text.specs.declared.lines.TheConstants.{MOST_TEXT_BYTES}
use Rattle.ror_text.specs.Ids.{IsId}
use Rattle.ror_text.specs.Lines.{numbered_lines, bad_utf8_line, word_at}
use Rattle.ror_text.specs.Reading.{◌>>=◌, refuse, read_all}
use Rattle.ror_text.proofs.ReadingLemmas.{bind_ok, read_all-append}
use Rattle.ror_table.specs.declared.fault.TableFault.{TableFault}
use Rattle.ror_table.specs.declared.fault.TableKind.TheVariants.{Form, NotUtf8, Empty, TooMany, TooLong, WideScale}
use Rattle.ror_table.specs.declared.fault.What.TheVariants.{Steps}
use Rattle.ror_table.specs.declared.plain.Version.{Version}
use Rattle.ror_table.specs.declared.plain.Version.TheVariants.{One, Two, Three}
use Rattle.ror_table.specs.Table.{Criterion, Alternative, DecisionTable, IsTable, IsEvaluated, AreDistinct, columns, has_wide_scale}
use Rattle.ror_table.specs.Draft.{IsDraft, empty_table, has_id, finished}
use Rattle.ror_table.specs.Plain.{at_line, version_word, version_of, head_of, Head, is_past_criteria, body_line, after_head, plain_table}
use Rattle.ror_table.specs.declared.limits.TheConstants.{MOST_ALTERNATIVES, MOST_CLASSES, MOST_CRITERIA, MOST_STEPS}
use Rattle.ror_table.specs.LineFaults.{IsEarly}
use Rattle.ror_table.specs.Grammar.{LineWords, criterion_words, MayBeLinear, WritesClasses, WritesAlternative, WritesTable, IsPlainText}
use Rattle.ror_table.specs.Faults.{HasRead, head_words}
use Rattle.ror_table.proofs.DraftLemmas.{table, IsDraft-add_criterion, IsDraft-add_alternative}
use Rattle.ror_table.proofs.PlainLemmas.{is_utf8-true}
use Rattle.ror_table.proofs.LineSteps.{AddsCriterion, SetsClasses, AddsAlternative, Adds, scale_of, body_line_adds, adds_body_line, two_words, is_word, after_refuse, written_amounts}
use Rattle.ror_table.proofs.LineSteps.Adds.{a_criterion, the_classes, an_alternative}

abbrev pub Numbered : Type 0
Numbered = List (ℕ × LineWords)

abbrev pub texts : Numbered → List LineWords
texts lines = map (λ line. line.1) lines

-- ---- from what was read to the grammar

no_classes : (lines : List LineWords) (n : ℕ) → WritesClasses lines n → n ≡ 0 → lines ≡ []
no_classes [] n h e = refl
no_classes (line ∷ []) n h e = absurd (omega (arith, h.3))
no_classes (line ∷ other ∷ more) n h e = absurd h

no_alternatives : (version : Version) (lines : List LineWords) (others : List Alternative) → AllZip (WritesAlternative version) lines others → others ≡ [] → lines ≡ []
no_alternatives version [] others h e = refl
no_alternatives version (line ∷ lines) [] h e = absurd h
no_alternatives version (line ∷ lines) (a ∷ others) h e = absurd cc

one_more : (version : Version) (lines : List LineWords) (others : List Alternative) (line : LineWords) (a : Alternative) → AllZip (WritesAlternative version) lines others → WritesAlternative version line a → AllZip (WritesAlternative version) (lines ++ line ∷ []) (others ++ a ∷ [])
one_more version [] [] line a h w = (w, tt)
one_more version [] (b ∷ others) line a h w = absurd h
one_more version (l ∷ lines) [] line a h w = absurd h
one_more version (l ∷ lines) (b ∷ others) line a h w = (h.0, one_more version lines others line a h.1 w)

pub is_early : (t : DecisionTable) → is_past_criteria t ≡ false → IsEarly t
is_early t h =
    let both = or_parts (not (eqb t.classes 0)) (not (eqb (length t.alternatives) 0)) h in
    record { classes = eqb-true t.classes 0 (not-false _ both.0); alternatives = nil_from_length t.alternatives (eqb-true (length t.alternatives) 0 (not-false _ both.1)) }

-- only criteria stand
only_criteria : (version : Version) (lines : List LineWords) (t : DecisionTable) → WritesTable version lines t → IsEarly t → lines ≡ map criterion_words t.criteria
only_criteria version lines t w early =
    let none = no_classes w.classes_lines t.classes w.classes early.classes in
    let nor = no_alternatives version w.alternative_lines t.alternatives w.alternatives early.alternatives in
    w.is ∙ ap (λ (cs : List LineWords). map criterion_words t.criteria ++ (cs ++ w.alternative_lines)) none ∙ ap (λ (others : List LineWords). map criterion_words t.criteria ++ others) nor ∙ append-nil (map criterion_words t.criteria)

after_criterion : (version : Version) (lines : List LineWords) (t : DecisionTable) (line : LineWords) (t' : DecisionTable) → HasRead version lines t → AddsCriterion version t line t' → HasRead version (lines ++ line ∷ []) t'
after_criterion version lines t line t' h adds =
    let early = is_early t adds.early in
    let c = adds.criterion in
    let now : lines ++ line ∷ [] ≡ map criterion_words (t.criteria ++ c ∷ []) =
    ap (λ (ls : List LineWords). ls ++ line ∷ []) (only_criteria version lines t h.writes early) ∙ ap (λ (l : LineWords). map criterion_words t.criteria ++ l ∷ []) adds.is ∙ sym (map_push criterion_words t.criteria c) in
    subst (HasRead version (lines ++ line ∷ [])) adds.becomes (record {
      writes = record { classes_lines = []; alternative_lines = []; is = now ∙ sym (append-nil (map criterion_words (t.criteria ++ c ∷ []))); classes = early.classes; linear = All-push (MayBeLinear version) t.criteria c h.writes.linear adds.linear; alternatives = rw early.alternatives tt };
      draft = IsDraft-add_criterion t c.id (scale_of c) h.draft early.alternatives adds.valid adds.fresh adds.room;
    })

after_classes : (version : Version) (lines : List LineWords) (t : DecisionTable) (line : LineWords) (t' : DecisionTable) → HasRead version lines t → SetsClasses t line t' → HasRead version (lines ++ line ∷ []) t'
after_classes version lines t line t' h sets =
    let early = is_early t sets.early in
    let d = h.draft in
    subst (HasRead version (lines ++ line ∷ [])) sets.becomes (record {
      writes = record {
        classes_lines = line ∷ [];
        alternative_lines = [];
        is = ap (λ (ls : List LineWords). ls ++ line ∷ []) (only_criteria version lines t h.writes early);
        classes = (sets.word, sets.is, sets.written, sets.some);
        linear = h.writes.linear;
        alternatives = rw early.alternatives tt;
      };
      draft = record {
        criteria_limit = d.criteria_limit;
        alternatives_limit = d.alternatives_limit;
        classes_limit = sets.few;
        criterion_ids_valid = d.criterion_ids_valid;
        alternative_ids_valid = d.alternative_ids_valid;
        criterion_ids_distinct = d.criterion_ids_distinct;
        alternative_ids_distinct = d.alternative_ids_distinct;
        evaluated = d.evaluated;
      };
    })

after_alternative : (version : Version) (lines : List LineWords) (t : DecisionTable) (line : LineWords) (t' : DecisionTable) → HasRead version lines t → AddsAlternative version t line t' → HasRead version (lines ++ line ∷ []) t'
after_alternative version lines t line t' h adds =
    let w = h.writes in
    let a = adds.alternative in
    let cs : List LineWords = map criterion_words t.criteria in
    let now : lines ++ line ∷ [] ≡ cs ++ (w.classes_lines ++ (w.alternative_lines ++ line ∷ [])) =
    ap (λ (ls : List LineWords). ls ++ line ∷ []) w.is ∙ append_assoc cs (w.classes_lines ++ w.alternative_lines) (line ∷ []) ∙ ap (λ (ls : List LineWords). cs ++ ls) (append_assoc w.classes_lines w.alternative_lines (line ∷ [])) in
    subst (HasRead version (lines ++ line ∷ [])) adds.becomes (record {
      writes = record {
        classes_lines = w.classes_lines;
        alternative_lines = w.alternative_lines ++ line ∷ [];
        is = now;
        classes = w.classes;
        linear = w.linear;
        alternatives = one_more version w.alternative_lines t.alternatives line a w.alternatives adds.writes;
      };
      draft = IsDraft-add_alternative t a.id a.performances h.draft adds.valid adds.fresh adds.room adds.width (written_amounts version adds.writes.numbers a.performances adds.writes.written);
    })

after_line : (version : Version) (lines : List LineWords) (t : DecisionTable) (line : LineWords) (t' : DecisionTable) → HasRead version lines t → Adds version t line t' → HasRead version (lines ++ line ∷ []) t'
after_line version lines t line t' h (a_criterion adds) = after_criterion version lines t line t' h adds
after_line version lines t line t' h (the_classes sets) = after_classes version lines t line t' h sets
after_line version lines t line t' h (an_alternative adds) = after_alternative version lines t line t' h adds

-- what is read of more lines
pub read_more : (version : Version) (before : List LineWords) (s : DecisionTable) (lines : Numbered) (t : DecisionTable) → HasRead version before s → read_all (body_line version) s lines ≡ Ok t → HasRead version (before ++ texts lines) t
read_more version before s [] t h e = let same : s ≡ t = cc in rw (append-nil before) (subst (HasRead version before) same h)
read_more version before s (line ∷ lines) t h e =
    let step = bind_ok (body_line version s line) (λ next. read_all (body_line version) next lines) t e in
    let now = after_line version before s line.1 step.0 h (body_line_adds version line.0 s line.1 step.0 step.1) in
    subst (λ (ls : List LineWords). HasRead version ls t) (append_assoc before (line.1 ∷ []) (texts lines)) (read_more version (before ++ line.1 ∷ []) step.0 lines t now step.2)

nothing_read : (version : Version) → HasRead version [] empty_table
nothing_read version = record {
  writes = record { classes_lines = []; alternative_lines = []; is = refl; classes = refl; linear = λ k d lt. absurd (omega arith); alternatives = tt };
  draft = record {
    criteria_limit = omega arith;
    alternatives_limit = omega arith;
    classes_limit = omega arith;
    criterion_ids_valid = λ k d lt. absurd (omega arith);
    alternative_ids_valid = λ k d lt. absurd (omega arith);
    criterion_ids_distinct = λ i j d lt in'. absurd (omega arith);
    alternative_ids_distinct = λ i j d lt in'. absurd (omega arith);
    evaluated = λ k d lt. absurd (omega arith);
  };
}

pub read_lines_write : (version : Version) (lines : Numbered) (t : DecisionTable) → read_all (body_line version) empty_table lines ≡ Ok t → HasRead version (texts lines) t
read_lines_write version lines t e = read_more version [] empty_table lines t (nothing_read version) e

-- ---- from the grammar to what is read

pub bool_false : (b : Bool) → (b ≡ true → ⊥) → b ≡ false
bool_false true h = absurd (h refl)
bool_false false h = refl

-- the element after the first ones
pub at_middle : {X : Type 0} (P : X → Type 0) (before : List X) (x : X) (after : List X) → All P (before ++ x ∷ after) → P x
at_middle P before x after all = subst P (get_or_at before x after x (length before) refl) (all (length before) x (omega (arith, length-append before (x ∷ after))))

fresh_id : (before : List (List ℕ)) (id : List ℕ) (after : List (List ℕ)) → AreDistinct (before ++ id ∷ after) → has_id before id ≡ false
fresh_id before id after apart = list_any_none (bytes_eq id) before (λ k d within.
    bool_false (bytes_eq id (get_or before k d)) (λ (same : bytes_eq id (get_or before k d) ≡ true).
    let n : ℕ = length before in
    let whole : List (List ℕ) = before ++ id ∷ after in
    let there : get_or whole k d ≡ get_or before k d = get_or_append_left before (id ∷ after) d k within in
    let here : get_or whole n d ≡ id = get_or_at before id after d n refl in
    apart k n d within (omega (arith, length-append before (id ∷ after))) (there ∙ sym (is_word id (get_or before k d) same) ∙ sym here)))

-- the criteria, one line each
criteria_read : (version : Version) (lines : Numbered) (before after : List Criterion) → texts lines ≡ map criterion_words after → All IsId (map (λ c. c.id) (before ++ after)) → AreDistinct (map (λ c. c.id) (before ++ after)) → All (MayBeLinear version) (before ++ after) → length (before ++ after) ≤ MOST_CRITERIA
    → read_all (body_line version) (table before [] 0) lines ≡ Ok (table (before ++ after) [] 0)
criteria_read version [] before [] e valid apart linear limit = ap (λ (cs : List Criterion). Ok (table cs [] 0)) (sym (append-nil before))
criteria_read version [] before (c ∷ after) e valid apart linear limit = absurd cc
criteria_read version (line ∷ lines) before [] e valid apart linear limit = absurd cc
criteria_read version (line ∷ lines) before (c ∷ after) e valid apart linear limit =
    let parts : (line.1 ≡ criterion_words c) × (texts lines ≡ map criterion_words after) = (cc, cc) in
    let moved : (before ++ c ∷ []) ++ after ≡ before ++ c ∷ after = append_assoc before (c ∷ []) after in
    let ids : map (λ c. c.id) (before ++ c ∷ after) ≡ map (λ c. c.id) before ++ c.id ∷ map (λ c. c.id) after = map-append (λ c. c.id) before (c ∷ after) in
    let adds : AddsCriterion version (table before [] 0) line.1 (table (before ++ c ∷ []) [] 0) = record {
      criterion = c;
      is = parts.0;
      linear = at_middle (MayBeLinear version) before c after linear;
      valid = at_middle IsId (map (λ c. c.id) before) c.id (map (λ c. c.id) after) (rw ids at valid);
      fresh = fresh_id (map (λ c. c.id) before) c.id (map (λ c. c.id) after) (rw ids at apart);
      room = omega (arith, length-append before (c ∷ after));
      early = refl;
      becomes = refl;
    } in
    let here = adds_body_line version line.0 (table before [] 0) line.1 (table (before ++ c ∷ []) [] 0) (a_criterion adds) in
    rw here (rw moved at (criteria_read version lines (before ++ c ∷ []) after parts.1 (rw moved valid) (rw moved apart) (rw moved linear) (rw moved limit)))

-- the line of classes
classes_read : (version : Version) (lines : Numbered) (criteria : List Criterion) (n : ℕ) → WritesClasses (texts lines) n → n ≤ MOST_CLASSES → read_all (body_line version) (table criteria [] 0) lines ≡ Ok (table criteria [] n)
classes_read version [] criteria n writes few = ap (λ (k : ℕ). Ok (table criteria [] k)) (sym writes)
classes_read version (line ∷ []) criteria n writes few =
    let sets : SetsClasses (table criteria [] 0) line.1 (table criteria [] n) = record { word = writes.0; count = n; is = writes.1; written = writes.2; some = writes.3; few = few; early = refl; becomes = refl } in
    rw (adds_body_line version line.0 (table criteria [] 0) line.1 (table criteria [] n) (the_classes sets)) refl
classes_read version (line ∷ other ∷ lines) criteria n writes few = absurd writes

-- the alternatives, one line each
alternatives_read : (version : Version) (lines : Numbered) (criteria : List Criterion) (n : ℕ) (before after : List Alternative) → AllZip (WritesAlternative version) (texts lines) after → All IsId (map (λ a. a.id) (before ++ after)) → AreDistinct (map (λ a. a.id) (before ++ after))
    → All (IsEvaluated (length criteria)) (before ++ after) → length (before ++ after) ≤ MOST_ALTERNATIVES → read_all (body_line version) (table criteria before n) lines ≡ Ok (table criteria (before ++ after) n)
alternatives_read version [] criteria n before [] w valid apart evaluated limit = ap (λ (others : List Alternative). Ok (table criteria others n)) (sym (append-nil before))
alternatives_read version [] criteria n before (a ∷ after) w valid apart evaluated limit = absurd w
alternatives_read version (line ∷ lines) criteria n before [] w valid apart evaluated limit = absurd w
alternatives_read version (line ∷ lines) criteria n before (a ∷ after) w valid apart evaluated limit =
    let moved : (before ++ a ∷ []) ++ after ≡ before ++ a ∷ after = append_assoc before (a ∷ []) after in
    let ids : map (λ x. x.id) (before ++ a ∷ after) ≡ map (λ x. x.id) before ++ a.id ∷ map (λ x. x.id) after = map-append (λ x. x.id) before (a ∷ after) in
    let adds : AddsAlternative version (table criteria before n) line.1 (table criteria (before ++ a ∷ []) n) = record {
      alternative = a;
      writes = w.0;
      valid = at_middle IsId (map (λ x. x.id) before) a.id (map (λ x. x.id) after) (rw ids at valid);
      fresh = fresh_id (map (λ x. x.id) before) a.id (map (λ x. x.id) after) (rw ids at apart);
      width = (at_middle (IsEvaluated (length criteria)) before a after evaluated).width;
      room = omega (arith, length-append before (a ∷ after));
      becomes = refl;
    } in
    let here = adds_body_line version line.0 (table criteria before n) line.1 (table criteria (before ++ a ∷ []) n) (an_alternative adds) in
    rw here (rw moved at (alternatives_read version lines criteria n (before ++ a ∷ []) after w.1 (rw moved valid) (rw moved apart) (rw moved evaluated) (rw moved limit)))

-- numbered lines are cut where their texts are
record IsCut (lines : Numbered) (front back : List LineWords) : Type 0 where
  first : Numbered
  second : Numbered
  is : lines ≡ first ++ second
  first_is : texts first ≡ front
  second_is : texts second ≡ back

cut : (lines : Numbered) (front back : List LineWords) → texts lines ≡ front ++ back → IsCut lines front back
cut lines [] back e = record { first = []; second = lines; is = refl; first_is = refl; second_is = e }
cut [] (word ∷ front) back e = absurd cc
cut (line ∷ lines) (word ∷ front) back e =
    let parts : (line.1 ≡ word) × (texts lines ≡ front ++ back) = (cc, cc) in
    let rest = cut lines front back parts.1 in
    record { first = line ∷ rest.first; second = rest.second; is = ap (λ (ls : Numbered). line ∷ ls) rest.is; first_is = rw (parts.0, rest.first_is) refl; second_is = rest.second_is }

-- lines that write a table are read others it
pub written_lines_read : (version : Version) (lines : Numbered) (t : DecisionTable) → WritesTable version (texts lines) t → IsDraft t → read_all (body_line version) empty_table lines ≡ Ok t
written_lines_read version lines t w whole =
    let a = cut lines (map criterion_words t.criteria) (w.classes_lines ++ w.alternative_lines) w.is in
    let b = cut a.second w.classes_lines w.alternative_lines a.second_is in
    let first = criteria_read version a.first [] t.criteria a.first_is whole.criterion_ids_valid whole.criterion_ids_distinct w.linear whole.criteria_limit in
    let second = classes_read version b.first t.criteria t.classes (subst (λ (ls : List LineWords). WritesClasses ls t.classes) (sym b.first_is) w.classes) whole.classes_limit in
    let third = alternatives_read version b.second t.criteria t.classes [] t.alternatives (subst (λ (ls : List LineWords). AllZip (WritesAlternative version) ls t.alternatives) (sym b.second_is) w.alternatives) whole.alternative_ids_valid whole.alternative_ids_distinct whole.evaluated whole.alternatives_limit in
    ap (read_all (body_line version) empty_table) (a.is ∙ ap (λ (ls : Numbered). a.first ++ ls) b.is)
    ∙ read_all-append (body_line version) empty_table (table t.criteria [] 0) a.first (b.first ++ b.second) first
    ∙ read_all-append (body_line version) (table t.criteria [] 0) (table t.criteria [] t.classes) b.first b.second second
    ∙ third

-- ---- the first line

version_by : (word : List ℕ) (version : Version) (a b c : Bool) → bytes_eq word (codes "1") ≡ a → bytes_eq word (codes "2") ≡ b → bytes_eq word (codes "3") ≡ c
    → cond a (Some One) (cond b (Some Two) (cond c (Some Three) None)) ≡ Some version → word ≡ version_word version
version_by word version true b c p q r h = let is : One ≡ version = cc in is_word word (codes "1") p ∙ ap version_word is
version_by word version false true c p q r h = let is : Two ≡ version = cc in is_word word (codes "2") q ∙ ap version_word is
version_by word version false false true p q r h = let is : Three ≡ version = cc in is_word word (codes "3") r ∙ ap version_word is
version_by word version false false false p q r h = absurd cc

version_is : (word : List ℕ) (version : Version) → version_of word ≡ Some version → word ≡ version_word version
version_is word version h = version_by word version (bytes_eq word (codes "1")) (bytes_eq word (codes "2")) (bytes_eq word (codes "3")) refl refl refl h

-- the test holds, and what stands behind it is given
some_if : (b : Bool) (o : Option Version) (version : Version) → cond b o None ≡ Some version → (b ≡ true) × (o ≡ Some version)
some_if true o version h = (refl, h)
some_if false o version h = absurd cc

pub head_is : (words : LineWords) (version : Version) → head_of words ≡ Some version → words ≡ head_words version
head_is words version h =
    let given = some_if (eqb (length words) 2 && bytes_eq (word_at words 0) (codes "ror-table")) (version_of (word_at words 1)) version h in
    let tests = and_parts (eqb (length words) 2) (bytes_eq (word_at words 0) (codes "ror-table")) given.0 in
    two_words words tests.0 ∙ ap (λ (w : List ℕ). w ∷ word_at words 1 ∷ []) (is_word (word_at words 0) (codes "ror-table") tests.1) ∙ ap (λ (w : List ℕ). codes "ror-table" ∷ w ∷ []) (version_is (word_at words 1) version given.1)

pub head_of-words : (version : Version) → head_of (head_words version) ≡ Some version
head_of-words One = refl
head_of-words Two = refl
head_of-words Three = refl

-- what a first line and the lines after it are read as
abbrev pub head : Version → Numbered → Head
head version rest = record { version = version; rest = rest }

head_by : (line : ℕ × LineWords) (lines : Numbered) (h : Head) (o : Option Version) → head_of line.1 ≡ o → option_map_or (λ version. Ok (head version lines)) o (Err (at_line line.0 Form)) ≡ Ok h → texts (line ∷ lines) ≡ head_words h.version ∷ texts h.rest
head_by line lines h (Some version) is e =
    let same : head version lines ≡ h = cc in
    subst (λ (g : Head). texts (line ∷ lines) ≡ head_words g.version ∷ texts g.rest) same (ap (λ (w : LineWords). w ∷ texts lines) (head_is line.1 version is))
head_by line lines h None is e = absurd cc

pub after_head_is : (lines : Numbered) (h : Head) → after_head lines ≡ Ok h → texts lines ≡ head_words h.version ∷ texts h.rest
after_head_is [] h e = absurd cc
after_head_is (line ∷ lines) h e = head_by line lines h (head_of line.1) refl e

after_head_of : (version : Version) (lines : Numbered) (rest : List LineWords) → texts lines ≡ head_words version ∷ rest → (ls : Numbered) × (after_head lines ≡ Ok (head version ls)) × (texts ls ≡ rest)
after_head_of version [] rest e = absurd cc
after_head_of version (line ∷ lines) rest e =
    let first : line.1 ≡ head_words version = cc in
    let is : head_of line.1 ≡ Some version = ap head_of first ∙ head_of-words version in
    (lines, rw is refl, cc)

-- ---- the whole text

pub IsDraft-table : (t : DecisionTable) → IsTable t → IsDraft t
IsDraft-table t whole = record {
  criteria_limit = whole.criteria_limit;
  alternatives_limit = whole.alternatives_limit;
  classes_limit = whole.classes_limit;
  criterion_ids_valid = whole.criterion_ids_valid;
  alternative_ids_valid = whole.alternative_ids_valid;
  criterion_ids_distinct = whole.criterion_ids_distinct;
  alternative_ids_distinct = whole.alternative_ids_distinct;
  evaluated = whole.evaluated;
}

-- a table of all lines
abbrev pub whole_table : DecisionTable → Result DecisionTable TableFault
whole_table t = finished (at_line 0 Empty) (at_line 0 (TooMany Steps)) (at_line 0 WideScale) t

whole_table_of : (t : DecisionTable) → IsTable t → whole_table t ≡ Ok t
unfolding finished
whole_table_of t whole =
    let some : eqb (length t.criteria) 0 ≡ false = ne_eqb (length t.criteria) 0 (λ (e : length t.criteria ≡ 0). omega (arith, whole.some_criterion)) in
    let other : eqb (length t.alternatives) 0 ≡ false = ne_eqb (length t.alternatives) 0 (λ (e : length t.alternatives ≡ 0). omega (arith, whole.some_alternative)) in
    let narrow : ltb MOST_STEPS (columns t) ≡ false = le-ltb MOST_STEPS (columns t) whole.columns_limit in
    rw (some, other, narrow, whole.scale_limit) refl

three_tests : (f g h : TableFault) (a b c : Bool) (s t : DecisionTable) → (refuse f a >>= λ _. refuse g b >>= λ _. refuse h c >>= λ _. Ok s) ≡ Ok t → (a ≡ false) × (b ≡ false) × (c ≡ false) × (s ≡ t)
three_tests f g h true b c s t e = absurd cc
three_tests f g h false true c s t e = absurd cc
three_tests f g h false false true s t e = absurd cc
three_tests f g h false false false s t e = (refl, refl, refl, cc)

whole_table_is : (s t : DecisionTable) → IsDraft s → whole_table s ≡ Ok t → (s ≡ t) × IsTable s
unfolding finished
whole_table_is s t draft e =
    let tests = three_tests (at_line 0 Empty) (at_line 0 (TooMany Steps)) (at_line 0 WideScale) (eqb (length s.criteria) 0 || eqb (length s.alternatives) 0) (ltb MOST_STEPS (columns s)) (has_wide_scale s) s t e in
    let some = or_parts (eqb (length s.criteria) 0) (eqb (length s.alternatives) 0) tests.0 in
    let criteria : length s.criteria ≢ 0 = eqb-false (length s.criteria) 0 some.0 in
    let alternatives : length s.alternatives ≢ 0 = eqb-false (length s.alternatives) 0 some.1 in (
      tests.3,
      record {
        some_criterion = omega arith;
        some_alternative = omega arith;
        criteria_limit = draft.criteria_limit;
        alternatives_limit = draft.alternatives_limit;
        classes_limit = draft.classes_limit;
        columns_limit = ltb-false MOST_STEPS (columns s) tests.1;
        scale_limit = tests.2;
        criterion_ids_valid = draft.criterion_ids_valid;
        alternative_ids_valid = draft.alternative_ids_valid;
        criterion_ids_distinct = draft.criterion_ids_distinct;
        alternative_ids_distinct = draft.alternative_ids_distinct;
        evaluated = draft.evaluated;
      },
    )

-- what is read of the lines after the first
abbrev pub rest_table : Head → Result DecisionTable TableFault
rest_table h = read_all (body_line h.version) empty_table h.rest >>= λ s. whole_table s

pub plain_text_read : (bytes : List ℕ) (t : DecisionTable) → IsPlainText bytes t → plain_table bytes ≡ Ok t
unfolding plain_table
plain_text_read bytes t text =
    let version = text.lines.version in
    let first = after_head_of version (numbered_lines bytes) text.lines.rest text.lines.is in
    let body = written_lines_read version first.0 t (subst (λ (ls : List LineWords). WritesTable version ls t) (sym first.2) text.lines.writes) (IsDraft-table t text.table) in
    rw (le-ltb MOST_TEXT_BYTES (length bytes) text.short, is_utf8-true bytes text.utf8, first.1, body) (whole_table_of t text.table)

pub read_plain_text : (bytes : List ℕ) (t : DecisionTable) → plain_table bytes ≡ Ok t → IsPlainText bytes t
unfolding plain_table
read_plain_text bytes t e =
    let a = after_refuse (at_line 0 TooLong) (ltb MOST_TEXT_BYTES (length bytes)) (refuse (at_line (bad_utf8_line bytes) NotUtf8) (not (is_utf8 bytes)) >>= λ _. after_head (numbered_lines bytes) >>= rest_table) t e in
    let b = after_refuse (at_line (bad_utf8_line bytes) NotUtf8) (not (is_utf8 bytes)) (after_head (numbered_lines bytes) >>= rest_table) t a.1 in
    let c = bind_ok (after_head (numbered_lines bytes)) rest_table t b.1 in
    let d = bind_ok (read_all (body_line c.0.version) empty_table c.0.rest) whole_table t c.2 in
    let read = read_lines_write c.0.version c.0.rest d.0 d.1 in
    let whole = whole_table_is d.0 t read.draft d.2 in
    subst (IsPlainText bytes) whole.0 (record {
      short = ltb-false MOST_TEXT_BYTES (length bytes) a.0;
      utf8 = IsUtf8-from_is_utf8 bytes (not-false (is_utf8 bytes) b.0);
      lines = record { version = c.0.version; rest = texts c.0.rest; is = after_head_is (numbered_lines bytes) c.0 c.1; writes = read.writes };
      table = whole.1;
    })
