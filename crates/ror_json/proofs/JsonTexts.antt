-- Bytes are read as a report exactly where they are JSON of its form, and their fault is that of the JSON or of its shape.
use Rattle.std.proofs.Common.{◌≡◌, ℕ, ◌≤◌, Bool, true, false, cond, List, [], ◌∷◌, length, Option, Some, None, Result, Ok, Err, IsUtf8, refl, sym, ap, subst, ◌∙◌, inl, inr}
use Rattle.std.specs.Prelude.{◌↔◌, ◌⊎◌, IfOk, IfSome}
use Rattle.std.specs.List.{AllByRecursion}
use Rattle.std.specs.Str.{is_utf8}
use Rattle.std.proofs.lemmas.Bool.{cases_Bool}
use Rattle.std.proofs.lemmas.Str.{IsUtf8-append, IsUtf8-from_is_utf8, is_utf8-from_IsUtf8}
use Rattle.serde_json.specs.Data.{Data}
use Rattle.serde_json.specs.Read.{read}
use Rattle.serde_json.specs.Written.{compact_text, has_float}
use Rattle.ror_text.proofs.ReadingLemmas.{bind_ok, bind_err, need_ok, need_err}
use Rattle.ror_table.specs.Table.{DecisionTable, IsTable}
use Rattle.ror_report.specs.declared.block.Block.{Block}
use Rattle.ror_json.specs.declared.fault.JsonFault.{JsonFault}
use Rattle.ror_json.specs.declared.fault.JsonFault.TheVariants as shapes
use Rattle.ror_json.specs.declared.fault.TextFault.{TextFault}
use Rattle.ror_json.specs.declared.fault.TextFault.TheVariants.{BadJson, BadShape, Memory}
use Rattle.ror_json.specs.Form.{report_form, IsFormedBlock}
use Rattle.ror_json.specs.Reading.{json_fault, report_of}
use Rattle.ror_json.specs.Texts.{IsJsonOf, IsJsonReport, IsBadJsonShape, json_text, json_line, value_of, in_text, report_of_text}
use Rattle.ror_json.proofs.ReportLaws.{one_report, read_is_form, fault_iff_bad}
use Rattle.ror_json.proofs.FormTexts.{no_float, text_is_read, line_is_read}
use Rattle.ror_json.proofs.FormUtf8.{form_text_is_utf8}
use Rattle.ror_json.proofs.TextSizes.{bad_block_within}
use Rattle.ror_proof.proofs.Utf8Lemmas.{ascii_is_utf8}

-- ---- bytes and values

pub value_is_read : (bytes : List ℕ) (d : Data) → IsUtf8 bytes → read bytes ≡ Some d → value_of bytes ≡ Ok d
value_is_read bytes d utf8 is = rw (is_utf8-from_IsUtf8 bytes utf8, is) refl

pub value_is_refused : (bytes : List ℕ) → (IsUtf8 bytes → read bytes ≡ None) → value_of bytes ≡ Err BadJson
value_is_refused bytes none =
    elim (cases_Bool (is_utf8 bytes)) [
      | inl is ↦ rw (is, none (IsUtf8-from_is_utf8 bytes is)) refl
      | inr misses ↦ rw misses refl
    ]

found : (bytes : List ℕ) (d : Data) (b : Bool) → is_utf8 bytes ≡ b → cond b (read bytes) None ≡ Some d → IsJsonOf bytes d
found bytes d true is e = record { utf8 = IsUtf8-from_is_utf8 bytes is; value = e }
found bytes d false is e = absurd cc

pub value_ok : (bytes : List ℕ) (d : Data) → value_of bytes ≡ Ok d → IsJsonOf bytes d
value_ok bytes d e = found bytes d (is_utf8 bytes) refl (need_ok BadJson (cond (is_utf8 bytes) (read bytes) None) d e)

value_again : (bytes : List ℕ) (d : Data) → IsJsonOf bytes d → value_of bytes ≡ Ok d
value_again bytes d is = value_is_read bytes d is.utf8 is.value

-- ---- faults

pub in_text_ok : (r : Result (List Block) JsonFault) (blocks : List Block) → in_text r ≡ Ok blocks → r ≡ Ok blocks
in_text_ok (Ok xs) blocks e = cc
in_text_ok (Err (shapes.BadShape k)) blocks e = absurd cc
in_text_ok (Err shapes.Memory) blocks e = absurd cc

in_text_bad : (r : Result (List Block) JsonFault) (k : ℕ) → in_text r ≡ Err (BadShape k) → r ≡ Err (shapes.BadShape k)
in_text_bad (Ok xs) k e = absurd cc
in_text_bad (Err (shapes.BadShape n)) k e = cc
in_text_bad (Err shapes.Memory) k e = absurd cc

in_text_json : (r : Result (List Block) JsonFault) → in_text r ≡ Err BadJson → ⊥
in_text_json (Ok xs) e = cc
in_text_json (Err (shapes.BadShape n)) e = cc
in_text_json (Err shapes.Memory) e = cc

value_cases : (r : Result Data TextFault) → ((d : Data) × (r ≡ Ok d)) ⊎ ((f : TextFault) × (r ≡ Err f))
value_cases (Ok d) = inl (d, refl)
value_cases (Err f) = inr (f, refl)

-- ---- the laws

pub text_is_report : (t : DecisionTable) (bytes : List ℕ) (blocks : List Block) → IsTable t → (report_of_text t bytes ≡ Ok blocks) ↔ IsJsonReport t bytes blocks
unfolding report_of_text
text_is_report t bytes blocks table = (to, from)
  where
    to : report_of_text t bytes ≡ Ok blocks → IsJsonReport t bytes blocks
    to e =
        let d = bind_ok (value_of bytes) (λ d. in_text (report_of t d)) blocks e in
        let is = (read_is_form t d.0 blocks table).0 (in_text_ok (report_of t d.0) blocks d.2) in
        record { json = subst (IsJsonOf bytes) is.form (value_ok bytes d.0 d.1); formed = is.formed }

    from : IsJsonReport t bytes blocks → report_of_text t bytes ≡ Ok blocks
    from is =
        let read : report_of t (report_form t blocks) ≡ Ok blocks = (read_is_form t (report_form t blocks) blocks table).1 (record { form = refl; formed = is.formed }) in
        rw (value_again bytes (report_form t blocks) is.json, read) refl

pub text_is_no_json : (t : DecisionTable) (bytes : List ℕ) → (report_of_text t bytes ≡ Err BadJson) ↔ ((d : Data) → IsJsonOf bytes d → ⊥)
unfolding report_of_text
text_is_no_json t bytes = (to, from)
  where
    to : report_of_text t bytes ≡ Err BadJson → (d : Data) → IsJsonOf bytes d → ⊥
    to e d is =
        let read = value_again bytes d is in
        elim (bind_err (value_of bytes) (λ d. in_text (report_of t d)) BadJson e) [
          | inl fails ↦ let both = sym read ∙ fails in cc
          | inr later ↦ in_text_json (report_of t later.0) later.2
        ]

    from : ((d : Data) → IsJsonOf bytes d → ⊥) → report_of_text t bytes ≡ Err BadJson
    from none =
        elim (value_cases (value_of bytes)) [
          | inl read ↦ absurd (none read.0 (value_ok bytes read.0 read.1))
          | inr fails ↦
              let is = need_err BadJson fails.0 (cond (is_utf8 bytes) (read bytes) None) fails.1 in
              rw (fails.1, is.1) refl
        ]

pub text_has_bad_shape : (t : DecisionTable) (bytes : List ℕ) (k : ℕ) → IsTable t → (report_of_text t bytes ≡ Err (BadShape k)) ↔ IsBadJsonShape t bytes k
unfolding report_of_text
text_has_bad_shape t bytes k table = (to, from)
  where
    to : report_of_text t bytes ≡ Err (BadShape k) → IsBadJsonShape t bytes k
    to e =
        elim (bind_err (value_of bytes) (λ d. in_text (report_of t d)) (BadShape k) e) [
          | inl fails ↦ let is = need_err BadJson (BadShape k) (cond (is_utf8 bytes) (read bytes) None) fails in absurd cc
          | inr later ↦
              record { value = later.0; json = value_ok bytes later.0 later.1; bad = (fault_iff_bad t later.0 k table).0 (in_text_bad (report_of t later.0) k later.2) }
        ]

    from : IsBadJsonShape t bytes k → report_of_text t bytes ≡ Err (BadShape k)
    from is =
        let bad : report_of t is.value ≡ Err (shapes.BadShape k) = (fault_iff_bad t is.value k table).1 is.bad in
        rw (value_again bytes is.value is.json, bad) refl

-- bytes are JSON of one report at most
pub one_report_of_text : (t : DecisionTable) (bytes : List ℕ) (xs ys : List Block) → IsTable t → IsJsonReport t bytes xs → IsJsonReport t bytes ys → xs ≡ ys
one_report_of_text t bytes xs ys table first second =
    let e = first.json.value in
    let f = second.json.value in
    let form : report_form t xs ≡ report_form t ys = some_is (report_form t xs) (report_form t ys) (sym e ∙ f) in
    one_report t (report_form t xs) xs ys table (record { form = refl; formed = first.formed }) (record { form = form; formed = second.formed })
  where
    some : Data → Option Data
    some d = Some d

    some_is : (x y : Data) → some x ≡ some y → x ≡ y
    some_is x y e = cc

-- what is written is JSON of its blocks, and so it is with a line feed behind it
pub written_is_report : (t : DecisionTable) (blocks : List Block) → IsTable t → AllByRecursion (IsFormedBlock t) blocks → IsJsonReport t (json_text t blocks) blocks
written_is_report t blocks table formed = record { json = record { utf8 = form_text_is_utf8 t table blocks formed; value = text_is_read t blocks formed }; formed = formed }

pub line_is_report : (t : DecisionTable) (blocks : List Block) → IsTable t → AllByRecursion (IsFormedBlock t) blocks → IsJsonReport t (json_line t blocks) blocks
line_is_report t blocks table formed =
    let text = form_text_is_utf8 t table blocks formed in
    record { json = record { utf8 = IsUtf8-append (json_text t blocks) (10 ∷ []) text (ascii_is_utf8 (10 ∷ []) refl); value = line_is_read t blocks formed }; formed = formed }

-- the number of a bad block is below the number of bytes
pub fault_is_near : (t : DecisionTable) (bytes : List ℕ) (d : Data) (k : ℕ) → IsTable t → read bytes ≡ Some d → report_of t d ≡ Err (shapes.BadShape k) → k ≤ length bytes
fault_is_near t bytes d k table is e = bad_block_within t bytes d k is ((fault_iff_bad t d k table).0 e)

-- a text that is given of a form's value is that of the form
pub text_given : {S E : Type 0} (bytes_of : S → List ℕ) (r : Result S E) (d : Data) (t : DecisionTable) (blocks : List Block) → d ≡ report_form t blocks → IfOk r (λ s. has_float d ≡ false → bytes_of s ≡ compact_text d) → IfOk r (λ s. bytes_of s ≡ json_text t blocks)
text_given bytes_of (Ok s) d t blocks is h = h (ap has_float is ∙ no_float t blocks) ∙ ap compact_text is
text_given bytes_of (Err e) d t blocks is h = tt

-- the fault that was given names this block
pub shape_given : (f : JsonFault) (k : ℕ) (r : Result (List Block) JsonFault) → f ≡ shapes.BadShape k → IfSome (json_fault f) (λ g. r ≡ Err g) → r ≡ Err (shapes.BadShape k)
shape_given f k r is h = subst (λ (x : JsonFault). IfSome (json_fault x) (λ g. r ≡ Err g)) is h
