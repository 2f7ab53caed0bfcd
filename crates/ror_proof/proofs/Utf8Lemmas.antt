-- The texts of answers and of repairs are UTF-8.
use Rattle.std.proofs.Common.{◌≡◌, ℕ, suc, true, ltb, ◌<◌, ◌^◌, List, [], ◌∷◌, ◌++◌, length, map, refl, arith, ℤ, pos, negsuc}
use Rattle.std.specs.Prelude.{codes}
use Rattle.std.specs.Fmt.{decimal, signed_decimal}
use Rattle.std.specs.List.{AllByRecursion, flat_map, list_all}
use Rattle.std.specs.Str.{IsUtf8}
use Rattle.std.proofs.lemmas.Fmt.{IsAscii-decimal_wide}
use Rattle.std.proofs.lemmas.Str.{IsUtf8-append, IsUtf8-nil, IsUtf8-from_ascii}
use Rattle.std.proofs.lemmas.Str.Ascii.{IsAscii-from_all}
use Rattle.std.proofs.lemmas.Bool.{and_parts, ltb-true}
use Rattle.std.proofs.lemmas.List.Elements.{All-from_recursion}
use Rattle.ror_text.specs.SpacedLines.{join_words, line_text}
use Rattle.ror_text.proofs.Everywhere.{all-append}
use Rattle.ror_text.proofs.IdLemmas.{IsId-form}
use Rattle.ror_statement.specs.declared.comparison.Scope.{Scope}
use Rattle.ror_statement.specs.declared.comparison.Scope.TheVariants.{Whole, One}
use Rattle.ror_statement.specs.declared.comparison.Pair.{Pair}
use Rattle.ror_statement.specs.declared.comparison.Form.{Form}
use Rattle.ror_statement.specs.declared.comparison.Form.TheVariants.{Value, Strength}
use Rattle.ror_statement.specs.declared.question.Property.{Property}
use Rattle.ror_statement.specs.declared.question.Property.TheVariants.{Compatible, AtLeast, InClass}
use Rattle.ror_statement.specs.Names.{NamesWithin, PairWithin, ScopeWithin}
use Rattle.ror_statement.specs.Questions.{property_of}
use Rattle.ror_system.specs.System.{IsNarrow}
use Rattle.ror_system.specs.declared.accept.Multipliers.{Multipliers}
use Rattle.ror_table.specs.Table.{DecisionTable, IsTable, id_of, criterion_id_of}
use Rattle.ror_table.proofs.NameLemmas.{id_of_is_id, criterion_id_of_is_id}
use Rattle.ror_proof.specs.declared.answer.Answer.{Answer}
use Rattle.ror_proof.specs.declared.answer.Certificate.{Certificate}
use Rattle.ror_proof.specs.declared.answer.Certificate.TheVariants as certificates
use Rattle.ror_proof.specs.declared.answer.Part.{Part}
use Rattle.ror_proof.specs.declared.answer.Pivot.{Pivot}
use Rattle.ror_proof.specs.declared.answer.PlaceText.{PlaceText}
use Rattle.ror_proof.specs.declared.answer.Proof.{Proof}
use Rattle.ror_proof.specs.declared.answer.Verdict.{Verdict}
use Rattle.ror_proof.specs.declared.answer.Verdict.TheVariants as verdicts
use Rattle.ror_proof.specs.declared.answer.WideText.{WideText}
use Rattle.ror_proof.specs.declared.kept.Dropped.{Dropped}
use Rattle.ror_proof.specs.declared.kept.Kept.{Kept}
use Rattle.ror_proof.specs.declared.names.QuestionName.{QuestionName}
use Rattle.ror_proof.specs.declared.names.QuestionName.TheVariants as asked
use Rattle.ror_proof.specs.declared.names.VerdictName.{VerdictName}
use Rattle.ror_proof.specs.declared.names.VerdictName.TheVariants as said
use Rattle.ror_proof.specs.declared.names.PlaceName.{PlaceName}
use Rattle.ror_proof.specs.declared.names.PlaceName.TheVariants as named
use Rattle.ror_proof.specs.Names.{question_name, question_word, verdict_name, verdict_word, place_name, place_word}
use Rattle.ror_proof.specs.Text.{pair_words, scope_words, form_words, property_words, question_words, multipliers_words, certificate_words, place_numbers, place_words, pivot_word, head_text, base_text, part_text, proof_text, wide_text, verdict_text, answer_text, repaired_text, dropped_text, kept_text, HasWords, AreNarrow, IsNarrowCertificate, IsPrintablePart, IsPrintableProof, IsPrintablePivot, IsPrintableNote, IsPrintableVerdict, IsPrintable, IsPrintableDropped, IsPrintableKept}

are_below : (bs : List ℕ) → list_all (λ b. ltb b 128) bs ≡ true → AllByRecursion (λ b. b < 128) bs
are_below [] h = tt
are_below (b ∷ bs) h = let both = and_parts (ltb b 128) (list_all (λ b. ltb b 128) bs) h in (ltb-true _ _ both.0, are_below bs both.1)

pub ascii_is_utf8 : (bs : List ℕ) → list_all (λ b. ltb b 128) bs ≡ true → IsUtf8 bs
ascii_is_utf8 bs h = IsUtf8-from_ascii bs (IsAscii-from_all bs (All-from_recursion (λ b. b < 128) bs (are_below bs h)))

abbrev pub AreTexts : List (List ℕ) → Type 0
AreTexts ws = AllByRecursion IsUtf8 ws

joined : (ws : List (List ℕ)) → AreTexts ws → IsUtf8 (join_words ws)
joined [] h = IsUtf8-nil
joined (w ∷ []) h = h.0
joined (w ∷ v ∷ ws) h = IsUtf8-append w (32 ∷ join_words (v ∷ ws)) h.0 (IsUtf8-append (32 ∷ []) (join_words (v ∷ ws)) (ascii_is_utf8 (32 ∷ []) refl) (joined (v ∷ ws) h.1))

pub line_text_is_utf8 : (ws : List (List ℕ)) → AreTexts ws → IsUtf8 (line_text ws)
unfolding line_text
line_text_is_utf8 ws h = IsUtf8-append (join_words ws) (10 ∷ []) (joined ws h) (ascii_is_utf8 (10 ∷ []) refl)

pub decimal_is_utf8 : (n : ℕ) → n < 10 ^ 64 → IsUtf8 (decimal n)
decimal_is_utf8 n h = IsUtf8-from_ascii (decimal n) (IsAscii-decimal_wide n h)

pub signed_is_utf8 : (z : ℤ) → IsNarrow z → IsUtf8 (signed_decimal z)
signed_is_utf8 (pos n) narrow = decimal_is_utf8 n (omega (arith, narrow))
signed_is_utf8 (negsuc n) narrow = IsUtf8-append (45 ∷ []) (decimal (suc n)) (ascii_is_utf8 (45 ∷ []) refl) (decimal_is_utf8 (suc n) (omega (arith, narrow)))

pub numbers_are_texts : (zs : List ℤ) → AllByRecursion IsNarrow zs → AreTexts (map signed_decimal zs)
numbers_are_texts [] narrow = tt
numbers_are_texts (z ∷ zs) narrow = (signed_is_utf8 z narrow.0, numbers_are_texts zs narrow.1)

pub multipliers_are_texts : (m : Multipliers) → AreNarrow m → AreTexts (multipliers_words m.weak m.strict)
multipliers_are_texts m narrow =
    (ascii_is_utf8 (codes "multipliers") refl, all-append IsUtf8 (map signed_decimal m.weak) (codes "|" ∷ map signed_decimal m.strict) (numbers_are_texts m.weak narrow.0) (ascii_is_utf8 (codes "|") refl, numbers_are_texts m.strict narrow.1))

certificate_are_texts : (c : Certificate) → IsNarrowCertificate c → AreTexts (certificate_words c)
certificate_are_texts (certificates.Solution x) narrow = (ascii_is_utf8 (codes "solution") refl, numbers_are_texts x.steps narrow)
certificate_are_texts (certificates.Multipliers m) narrow = multipliers_are_texts m narrow

-- ---- questions

id_is_text : (t : DecisionTable) (a : ℕ) → IsTable t → a < length t.alternatives → IsUtf8 (id_of t a)
id_is_text t a table within = (IsId-form (id_of t a) (id_of_is_id t a table within)).utf8

pair_are_texts : (t : DecisionTable) (p : Pair) → IsTable t → PairWithin (length t.alternatives) p → AreTexts (pair_words t p)
pair_are_texts t p table within = (id_is_text t p.first table within.0, (id_is_text t p.second table within.1, tt))

scope_are_texts : (t : DecisionTable) (s : Scope) → IsTable t → ScopeWithin (length t.criteria) s → AreTexts (scope_words t s)
scope_are_texts t Whole table within = tt
scope_are_texts t (One i) table within = (ascii_is_utf8 (codes "on") refl, ((IsId-form (criterion_id_of t i) (criterion_id_of_is_id t i table within)).utf8, tt))

form_are_texts : (t : DecisionTable) (form : Form) → IsTable t → NamesWithin (length t.alternatives) (length t.criteria) form → AreTexts (form_words t form)
form_are_texts t (Value a b) table within = pair_are_texts t (record { first = a; second = b }) table within
form_are_texts t (Strength p q s) table within =
    all-append IsUtf8 (pair_words t p) (pair_words t q ++ scope_words t s) (pair_are_texts t p table within.0) (all-append IsUtf8 (pair_words t q) (scope_words t s) (pair_are_texts t q table within.1) (scope_are_texts t s table within.2))

property_are_texts : (t : DecisionTable) (p : Property) → IsTable t → HasWords t p → AreTexts (property_words t p)
property_are_texts t Compatible table named = tt
property_are_texts t (AtLeast form) table named = form_are_texts t form table named
property_are_texts t (InClass a h) table named = (id_is_text t a table named.0, (decimal_is_utf8 h (omega (arith, named.1)), tt))

question_word_is_text : (name : QuestionName) → IsUtf8 (question_word name)
question_word_is_text asked.Consistent = ascii_is_utf8 (codes "consistent") refl
question_word_is_text asked.Necessary = ascii_is_utf8 (codes "necessary") refl
question_word_is_text asked.Possible = ascii_is_utf8 (codes "possible") refl
question_word_is_text asked.PossibleClass = ascii_is_utf8 (codes "possible-class") refl
question_word_is_text asked.NecessaryClass = ascii_is_utf8 (codes "necessary-class") refl

verdict_is_text : (name : VerdictName) → IsUtf8 (verdict_word name)
verdict_is_text said.Yes = ascii_is_utf8 (codes "yes") refl
verdict_is_text said.No = ascii_is_utf8 (codes "no") refl
verdict_is_text said.Contradiction = ascii_is_utf8 (codes "contradiction") refl
verdict_is_text said.Wide = ascii_is_utf8 (codes "wide") refl

-- ---- proofs

part_is_utf8 : (p : Part) → IsPrintablePart p → IsUtf8 (part_text p)
part_is_utf8 p printable = line_text_is_utf8 (codes "part" ∷ decimal p.at ∷ certificate_words p.body) (ascii_is_utf8 (codes "part") refl, (decimal_is_utf8 p.at (omega (arith, printable.number)), certificate_are_texts p.body printable.narrow))

parts_are_utf8 : (ps : List Part) → AllByRecursion IsPrintablePart ps → IsUtf8 (flat_map part_text ps)
parts_are_utf8 [] printable = IsUtf8-nil
parts_are_utf8 (p ∷ ps) printable = IsUtf8-append (part_text p) (flat_map part_text ps) (part_is_utf8 p printable.0) (parts_are_utf8 ps printable.1)

base_is_utf8 : (c : Certificate) → IsNarrowCertificate c → IsUtf8 (base_text c)
base_is_utf8 c narrow = line_text_is_utf8 (codes "base" ∷ certificate_words c) (ascii_is_utf8 (codes "base") refl, certificate_are_texts c narrow)

proof_is_utf8 : (p : Proof) → IsPrintableProof p → IsUtf8 (proof_text p)
proof_is_utf8 p printable =
    IsUtf8-append (base_text p.base) (flat_map part_text p.parts) (base_is_utf8 p.base printable.base) (parts_are_utf8 p.parts printable.parts)

-- ---- numbers too wide

pub small_numbers_are_texts : (ns : List ℕ) → AllByRecursion (λ n. n < 2 ^ 32) ns → AreTexts (map decimal ns)
small_numbers_are_texts [] small = tt
small_numbers_are_texts (n ∷ ns) small = (decimal_is_utf8 n (omega (arith, small.0)), small_numbers_are_texts ns small.1)

place_word_is_text : (name : PlaceName) → IsUtf8 (place_word name)
place_word_is_text named.Start = ascii_is_utf8 (codes "start") refl
place_word_is_text named.Step = ascii_is_utf8 (codes "step") refl
place_word_is_text named.Denominator = ascii_is_utf8 (codes "denominator") refl
place_word_is_text named.RowSum = ascii_is_utf8 (codes "rowsum") refl
place_word_is_text named.ColumnSum = ascii_is_utf8 (codes "columnsum") refl

pub place_are_texts : (p : PlaceText) → AllByRecursion (λ n. n < 2 ^ 32) (place_numbers p) → AreTexts (place_words p)
place_are_texts p small = (place_word_is_text (place_name p), small_numbers_are_texts (place_numbers p) small)

pivots_are_texts : (ps : List Pivot) → AllByRecursion IsPrintablePivot ps → AreTexts (map pivot_word ps)
pivots_are_texts [] printable = tt
pivots_are_texts (p ∷ ps) printable =
    (IsUtf8-append (decimal p.column) (58 ∷ decimal p.row) (decimal_is_utf8 p.column (omega (arith, printable.0.column))) (IsUtf8-append (58 ∷ []) (decimal p.row) (ascii_is_utf8 (58 ∷ []) refl) (decimal_is_utf8 p.row (omega (arith, printable.0.row)))), pivots_are_texts ps printable.1)

pub wide_is_utf8 : (system : ℕ) (note : WideText) → IsPrintableNote system note → IsUtf8 (wide_text system note)
wide_is_utf8 system note printable =
    let place = place_are_texts note.place printable.place in
    let path : AreTexts (codes "path" ∷ map pivot_word note.path) = (ascii_is_utf8 (codes "path") refl, pivots_are_texts note.path printable.path) in
    line_text_is_utf8 (codes "wide" ∷ decimal system ∷ (place_words note.place ++ codes "path" ∷ map pivot_word note.path)) (ascii_is_utf8 (codes "wide") refl, (decimal_is_utf8 system (omega (arith, printable.number)), all-append IsUtf8 (place_words note.place) (codes "path" ∷ map pivot_word note.path) place path))

-- ---- answers

verdict_text_is_utf8 : (v : Verdict) → IsPrintableVerdict v → IsUtf8 (verdict_text v)
verdict_text_is_utf8 (verdicts.Yes proof) printable = proof_is_utf8 proof printable
verdict_text_is_utf8 (verdicts.No proof) printable = proof_is_utf8 proof printable
verdict_text_is_utf8 (verdicts.Contradiction proof) printable = proof_is_utf8 proof printable
verdict_text_is_utf8 (verdicts.Wide system note) printable = wide_is_utf8 system note printable

pub answer_text_is_utf8 : (t : DecisionTable) (x : Answer) → IsTable t → IsPrintable t x → IsUtf8 (answer_text t x)
unfolding answer_text
answer_text_is_utf8 t x table printable =
    let q = x.question in
    let name = verdict_name x.verdict in
    let words = question_words t q ++ verdict_word name ∷ [] in
    let asked : AreTexts (question_words t q) = (question_word_is_text (question_name q), property_are_texts t (property_of q) table printable.named) in
    let head = line_text_is_utf8 (codes "answer" ∷ words) (ascii_is_utf8 (codes "answer") refl, all-append IsUtf8 (question_words t q) (verdict_word name ∷ []) asked (verdict_is_text name, tt)) in
    IsUtf8-append (head_text t q name) (verdict_text x.verdict) head (verdict_text_is_utf8 x.verdict printable.concluded)

-- ---- repairs

dropped_is_utf8 : (d : Dropped) → IsPrintableDropped d → IsUtf8 (dropped_text d)
dropped_is_utf8 d printable =
    line_text_is_utf8 (codes "dropped" ∷ decimal d.number ∷ multipliers_words d.proof.weak d.proof.strict) (ascii_is_utf8 (codes "dropped") refl, (decimal_is_utf8 d.number (omega (arith, printable.number)), multipliers_are_texts d.proof printable.narrow))

dropped_are_utf8 : (ds : List Dropped) → AllByRecursion IsPrintableDropped ds → IsUtf8 (flat_map dropped_text ds)
dropped_are_utf8 [] printable = IsUtf8-nil
dropped_are_utf8 (d ∷ ds) printable = IsUtf8-append (dropped_text d) (flat_map dropped_text ds) (dropped_is_utf8 d printable.0) (dropped_are_utf8 ds printable.1)

pub kept_text_is_utf8 : (x : Kept) → IsPrintableKept x → IsUtf8 (kept_text x)
unfolding kept_text
kept_text_is_utf8 x printable =
    let count = length x.dropped in
    let lines = flat_map dropped_text x.dropped in
    let head = line_text_is_utf8 (codes "repaired" ∷ decimal count ∷ []) (ascii_is_utf8 (codes "repaired") refl, (decimal_is_utf8 count (omega (arith, printable.few)), tt)) in
    IsUtf8-append (repaired_text count) (lines ++ base_text x.base) head (IsUtf8-append lines (base_text x.base) (dropped_are_utf8 x.dropped printable.dropped) (base_is_utf8 x.base printable.base))
