-- Lines of a name and a number, bodies of one line and repairs, both ways, and how the pieces of a report begin.
use Rattle.std.proofs.Common.{◌≡◌, ℕ, suc, ◌<◌, ◌^◌, ◌+◌, true, false, not, eqb, List, [], ◌∷◌, ◌++◌, length, drop, Option, Some, None, Result, Ok, refl, sym, ap, subst, ◌∙◌, arith, inl, inr}
use Rattle.std.specs.Prelude.{codes, nat_eq}
use Rattle.std.specs.Fmt.{decimal}
use Rattle.std.specs.List.{starts_with, position_or_len, before_first}
use Rattle.std.proofs.lemmas.Bool.{cases_Bool, and_from, and_parts, not-true, ne_eqb, eqb-true}
use Rattle.std.proofs.lemmas.Bool.Decides.{Decides-eqb}
use Rattle.std.proofs.lemmas.List.{append-nil}
use Rattle.std.proofs.lemmas.Slice.Eq.{starts_is}
use Rattle.ror_text.specs.Reading.{◌>>=◌}
use Rattle.ror_text.specs.Lines.{is_line_end}
use Rattle.ror_text.specs.SpacedLines.{spaced_words, is_word, are_words, line_text}
use Rattle.ror_text.specs.Cursor.{Cursor, line_words, line_after}
use Rattle.ror_text.proofs.NumberLemmas.{is_word-decimal}
use Rattle.ror_text.proofs.ReadingLemmas.{bind_ok}
use Rattle.ror_text.proofs.SpacedLemmas.{is_one_line}
use Rattle.ror_text.proofs.CursorLemmas.{Spans, line_spans}
use Rattle.ror_table.specs.Table.{DecisionTable}
use Rattle.ror_proof.specs.declared.read.ProofFault.{ProofFault}
use Rattle.ror_proof.specs.Names.{name_of}
use Rattle.ror_proof.specs.Words.{after_word, name_at, no_more, small_number_at}
use Rattle.ror_proof.specs.Reading.{begins_part, ended}
use Rattle.ror_proof.proofs.AnswerLemmas.{ended_again, ended_sound}
use Rattle.ror_proof.proofs.WordLemmas.{after_word_again, after_word_sound, no_more_sound, small_number_again, small_number_sound, name_again, name_sound, done, ok_is}
use Rattle.ror_report.specs.declared.block.Block.{Block}
use Rattle.ror_report.specs.declared.block.Body.{Body}
use Rattle.ror_report.specs.declared.block.Body.TheVariants.{Added, Withdrawn, Replaced, Undone, Refused}
use Rattle.ror_report.specs.declared.block.LineFault.{LineFault}
use Rattle.ror_report.specs.declared.block.LineFault.TheVariants as faults
use Rattle.ror_report.specs.declared.names.BodyForm.{BodyForm}
use Rattle.ror_report.specs.declared.names.BodyForm.TheVariants as bodies
use Rattle.ror_report.specs.declared.names.LineForm.{LineForm}
use Rattle.ror_report.specs.declared.names.LineForm.TheVariants as forms
use Rattle.ror_report.specs.Names.{form_word, body_word, body_forms, fault_word, line_faults}
use Rattle.ror_report.specs.Text.{numbered_text, body_text, block_text, end_text, IsPrintableBody}
use Rattle.ror_report.specs.Reading.{number_words, numbered_line, operand_at, form_words, form_of, begins_block, begins_end, ends_body}

-- the number of a base system
pub base_is_small : 0 < 2 ^ 32
base_is_small = omega arith

-- ---- any line

-- a line that was written is read as its words are
pub line_reads_back : {A : Type 0} (reading : ℕ → List (List ℕ) → Result A ProofFault) (x : A) (place : ℕ) (word : List ℕ) (ws : List (List ℕ)) (rest : List ℕ) → are_words (word ∷ ws) ≡ true → reading place (word ∷ ws) ≡ Ok x
    → ended (record { place = place; rest = line_text (word ∷ ws) ++ rest }) (reading place (line_words (record { place = place; rest = line_text (word ∷ ws) ++ rest }))) ≡ Ok (x, record { place = place + length (line_text (word ∷ ws)); rest = rest })
line_reads_back reading x place word ws rest are read = ended_again reading place word ws rest x are read

-- what is read of a line is read of its words, and a line feed ends it
pub line_is_read : {A : Type 0} (c : Cursor) (reading : Result A ProofFault) (x : A × Cursor) → ended c reading ≡ Ok x → (reading ≡ Ok x.0) × (line_after c ≡ Some x.1)
line_is_read c reading x e = let read = ended_sound c reading x e in (read.words, read.line)

-- ---- a line of a name and a number

number_words_again : (name : List ℕ) (place n : ℕ) → n < 2 ^ 32 → number_words name place (name ∷ decimal n ∷ []) ≡ Ok n
unfolding number_words
number_words_again name place n small = rw (after_word_again place name (decimal n ∷ []), small_number_again place n [] small) refl

pub numbered_again : (name : List ℕ) (place n : ℕ) (rest : List ℕ) → is_word name ≡ true → n < 2 ^ 32
    → numbered_line name (record { place = place; rest = numbered_text name n ++ rest }) ≡ Ok (n, record { place = place + length (numbered_text name n); rest = rest })
numbered_again name place n rest word small =
    let words : are_words (name ∷ decimal n ∷ []) ≡ true = and_from _ _ word (and_from _ _ (is_word-decimal n (omega (arith, small))) refl) in
    line_reads_back (number_words name) n place name (decimal n ∷ []) rest words (number_words_again name place n small)

number_words_sound : (name : List ℕ) (place : ℕ) (ws : List (List ℕ)) (n : ℕ) → number_words name place ws ≡ Ok n → (ws ≡ name ∷ decimal n ∷ []) × (n < 2 ^ 32)
unfolding number_words
number_words_sound name place ws n e =
    let last = λ (number : ℕ × List (List ℕ)). no_more place number.1 >>= λ _. done number.0 in
    let a = bind_ok (after_word place name ws) (λ more. small_number_at place more >>= λ number. last number) n e in
    let b = bind_ok (small_number_at place a.0) (λ number. last number) n a.2 in
    let d = bind_ok (no_more place b.0.1) (λ _. done b.0.0) n b.2 in
    let number = small_number_sound place a.0 b.0 b.1 in
    let operand : a.0 ≡ decimal b.0.0 ∷ [] = number.0 ∙ ap (λ (more : List (List ℕ)). decimal b.0.0 ∷ more) (no_more_sound place b.0.1 d.0 d.1) in
    subst (λ m. (ws ≡ name ∷ decimal m ∷ []) × (m < 2 ^ 32)) (ok_is b.0.0 n d.2) (after_word_sound place name ws a.0 a.1 ∙ ap (λ (more : List (List ℕ)). name ∷ more) operand, number.1)

pub numbered_sound : (name : List ℕ) (c : Cursor) (x : ℕ × Cursor) → numbered_line name c ≡ Ok x → Spans c (numbered_text name x.0) x.1 × (x.0 < 2 ^ 32)
numbered_sound name c x e =
    let line = line_is_read c (number_words name c.place (line_words c)) x e in
    let ws = number_words_sound name c.place (line_words c) x.0 line.0 in
    (line_spans c x.1 (name ∷ decimal x.0 ∷ []) ws.0 line.1, ws.1)

-- ---- a body of one line

pub form_found : (form : LineForm) → name_of body_word body_forms (form_word form) ≡ Some (bodies.OneLine form)
form_found forms.Added = refl
form_found forms.Withdrawn = refl
form_found forms.Replaced = refl
form_found forms.Undone = refl
form_found forms.Refused = refl

fault_found : (fault : LineFault) → name_of fault_word line_faults (fault_word fault) ≡ Some fault
fault_found faults.UnknownAlternative = refl
fault_found faults.UnknownCriterion = refl
fault_found faults.UnknownClass = refl
fault_found faults.BadInterval = refl
fault_found faults.NoSuchStatement = refl
fault_found faults.NothingToUndo = refl
fault_found faults.TooManyStatements = refl
fault_found faults.TooManyRows = refl
fault_found faults.TooManyPairs = refl

fault_is_word : (fault : LineFault) → is_word (fault_word fault) ≡ true
fault_is_word faults.UnknownAlternative = refl
fault_is_word faults.UnknownCriterion = refl
fault_is_word faults.UnknownClass = refl
fault_is_word faults.BadInterval = refl
fault_is_word faults.NoSuchStatement = refl
fault_is_word faults.NothingToUndo = refl
fault_is_word faults.TooManyStatements = refl
fault_is_word faults.TooManyRows = refl
fault_is_word faults.TooManyPairs = refl

-- the form of a body of one line, and what follows its first word and is read as the body again
pub record IsOneLine (t : DecisionTable) (body : Body) : Type 0 where
  pub form : LineForm
  pub operand : List (List ℕ)
  pub written : body_text t body ≡ line_text (form_word form ∷ operand)
  pub are : are_words (form_word form ∷ operand) ≡ true
  pub read : (place : ℕ) → operand_at form place operand ≡ Ok (body, [])

number_are_words : (word : List ℕ) (n : ℕ) → is_word word ≡ true → n < 2 ^ 32 → are_words (word ∷ decimal n ∷ []) ≡ true
number_are_words word n is small = and_from _ _ is (and_from _ _ (is_word-decimal n (omega (arith, small))) refl)

pub added_line : (t : DecisionTable) (n : ℕ) → n < 2 ^ 32 → IsOneLine t (Added n)
added_line t n small = record { form = forms.Added; operand = decimal n ∷ []; written = refl; are = number_are_words (form_word forms.Added) n refl small; read = λ place. rw (small_number_again place n [] small) refl }

pub withdrawn_line : (t : DecisionTable) (n : ℕ) → n < 2 ^ 32 → IsOneLine t (Withdrawn n)
withdrawn_line t n small = record { form = forms.Withdrawn; operand = decimal n ∷ []; written = refl; are = number_are_words (form_word forms.Withdrawn) n refl small; read = λ place. rw (small_number_again place n [] small) refl }

pub replaced_line : (t : DecisionTable) (n : ℕ) → n < 2 ^ 32 → IsOneLine t (Replaced n)
replaced_line t n small = record { form = forms.Replaced; operand = decimal n ∷ []; written = refl; are = number_are_words (form_word forms.Replaced) n refl small; read = λ place. rw (small_number_again place n [] small) refl }

pub undone_line : (t : DecisionTable) → IsOneLine t Undone
undone_line t = record { form = forms.Undone; operand = []; written = refl; are = refl; read = λ place. refl }

pub refused_line : (t : DecisionTable) (fault : LineFault) → IsOneLine t (Refused fault)
refused_line t fault = record { form = forms.Refused; operand = fault_word fault ∷ []; written = refl; are = and_from (is_word (form_word forms.Refused)) _ refl (and_from _ _ (fault_is_word fault) refl); read = λ place. rw (name_again fault_word line_faults place fault [] (fault_found fault)) refl }

pub form_words_again : (t : DecisionTable) (body : Body) (is : IsOneLine t body) (place : ℕ) → form_words is.form place (form_word is.form ∷ is.operand) ≡ Ok body
unfolding form_words
form_words_again t body is place = rw (after_word_again place (form_word is.form) is.operand, is.read place) refl

-- what was read after the first word
record IsReadOperand (t : DecisionTable) (form : LineForm) (more : List (List ℕ)) (y : Body × List (List ℕ)) : Type 0 where
  operand : List (List ℕ)
  written : body_text t y.0 ≡ line_text (form_word form ∷ operand)
  is : more ≡ operand ++ y.1
  printable : IsPrintableBody t y.0

number_operand : (t : DecisionTable) (form : LineForm) (make : ℕ → Body) → ((n : ℕ) → body_text t (make n) ≡ numbered_text (form_word form) n) → ((n : ℕ) → n < 2 ^ 32 → IsPrintableBody t (make n))
    → (place : ℕ) (more : List (List ℕ)) (y : Body × List (List ℕ)) → (small_number_at place more >>= λ number. done (make number.0, number.1)) ≡ Ok y → IsReadOperand t form more y
number_operand t form make written printable place more y e =
    let a = bind_ok (small_number_at place more) (λ number. done (make number.0, number.1)) y e in
    let number = small_number_sound place more a.0 a.1 in
    subst (IsReadOperand t form more) (ok_is (make a.0.0, a.0.1) y a.2) (record { operand = decimal a.0.0 ∷ []; written = written a.0.0; is = number.0; printable = printable a.0.0 number.1 })

operand_sound : (t : DecisionTable) (form : LineForm) (place : ℕ) (more : List (List ℕ)) (y : Body × List (List ℕ)) → operand_at form place more ≡ Ok y → IsReadOperand t form more y
operand_sound t forms.Added place more y e = number_operand t forms.Added Added (λ n. refl) (λ n small. small) place more y e
operand_sound t forms.Withdrawn place more y e = number_operand t forms.Withdrawn Withdrawn (λ n. refl) (λ n small. small) place more y e
operand_sound t forms.Replaced place more y e = number_operand t forms.Replaced Replaced (λ n. refl) (λ n small. small) place more y e
operand_sound t forms.Undone place more y e = subst (IsReadOperand t forms.Undone more) (ok_is (Undone, more) y e) (record { operand = []; written = refl; is = refl; printable = tt })
operand_sound t forms.Refused place more y e =
    let a = bind_ok (name_at fault_word line_faults place more) (λ fault. done (Refused fault.0, fault.1)) y e in
    let name = name_sound fault_word line_faults place more a.0 a.1 in
    subst (IsReadOperand t forms.Refused more) (ok_is (Refused a.0.0, a.0.1) y a.2) (record { operand = fault_word a.0.0 ∷ []; written = refl; is = name; printable = tt })

-- the words of what was read as a body of this form
pub form_words_sound : (t : DecisionTable) (form : LineForm) (place : ℕ) (ws : List (List ℕ)) (body : Body) → form_words form place ws ≡ Ok body → (body_text t body ≡ line_text ws) × IsPrintableBody t body
unfolding form_words
form_words_sound t form place ws body e =
    let last = λ (y : Body × List (List ℕ)). no_more place y.1 >>= λ _. done y.0 in
    let a = bind_ok (after_word place (form_word form) ws) (λ more. operand_at form place more >>= λ y. last y) body e in
    let b = bind_ok (operand_at form place a.0) (λ y. last y) body a.2 in
    let d = bind_ok (no_more place b.0.1) (λ _. done b.0.0) body b.2 in
    let read = operand_sound t form place a.0 b.0 b.1 in
    let all : a.0 ≡ read.operand = read.is ∙ ap (λ (more : List (List ℕ)). read.operand ++ more) (no_more_sound place b.0.1 d.0 d.1) ∙ append-nil read.operand in
    let is : ws ≡ form_word form ∷ read.operand = after_word_sound place (form_word form) ws a.0 a.1 ∙ ap (λ (more : List (List ℕ)). form_word form ∷ more) all in
    subst (λ (x : Body). (body_text t x ≡ line_text ws) × IsPrintableBody t x) (ok_is b.0.0 body d.2) (read.written ∙ ap line_text (sym is), read.printable)

-- ---- how the pieces begin

line_begins : (n : ℕ) → (more : List ℕ) × (numbered_text (codes "line") n ≡ codes "line " ++ more)
unfolding line_text
line_begins n = (drop 5 (numbered_text (codes "line") n), refl)

pub block_begins : (t : DecisionTable) (b : Block) → (more : List ℕ) × (block_text t b ≡ codes "line " ++ more)
unfolding block_text
block_begins t b =
    let body = body_text t b.body in
    let head = line_begins b.line in
    (head.0 ++ body, ap (λ (l : List ℕ). l ++ body) head.1)

pub repair_wide_begins : (n : ℕ) → (more : List ℕ) × (numbered_text (codes "repair-wide") n ≡ codes "repair-wide " ++ more)
unfolding line_text
repair_wide_begins n = (drop 12 (numbered_text (codes "repair-wide") n), refl)

pub end_begins : (n : ℕ) → (more : List ℕ) × (end_text n ≡ codes "end " ++ more)
unfolding end_text line_text
end_begins n = (drop 4 (end_text n), refl)

pub some_bytes : (byte : ℕ) (bytes : List ℕ) → eqb (length (byte ∷ bytes)) 0 ≡ false
some_bytes byte bytes = ne_eqb (length (byte ∷ bytes)) 0 (λ (e : length (byte ∷ bytes) ≡ 0). omega arith)

ends_at_line : (more : List ℕ) → ends_body (codes "line " ++ more) ≡ true
ends_at_line more = rw (some_bytes 108 (codes "ine " ++ more)) refl

ends_at_end : (more : List ℕ) → ends_body (codes "end " ++ more) ≡ true
ends_at_end more = rw (some_bytes 101 (codes "nd " ++ more)) refl

pub goes_on_at_answer : (more : List ℕ) → ends_body (codes "answer " ++ more) ≡ false
goes_on_at_answer more = rw (some_bytes 97 (codes "nswer " ++ more)) refl

pub ends_at_block : (t : DecisionTable) (b : Block) (rest : List ℕ) → ends_body (block_text t b ++ rest) ≡ true
ends_at_block t b rest =
    let begins = block_begins t b in
    ap (λ (l : List ℕ). ends_body (l ++ rest)) begins.1 ∙ ends_at_line (begins.0 ++ rest)

pub ends_at_end_text : (n : ℕ) → ends_body (end_text n) ≡ true
ends_at_end_text n = let begins = end_begins n in ap ends_body begins.1 ∙ ends_at_end begins.0

-- what ends a body is no part, and no more is an answer
pub ends_no_part : (rest : List ℕ) → ends_body rest ≡ true → begins_part rest ≡ false
ends_no_part [] ends = refl
ends_no_part (b ∷ bs) ends =
    elim (cases_Bool (eqb 112 b)) [
      | inl hit ↦ absurd (let no = rw (← (eqb-true 112 b hit), some_bytes 112 bs) at ends in cc)
      | inr miss ↦ rw miss refl
    ]

-- ---- where a body begins that its first word tells, and where none does

abbrev form_at : ℕ → List ℕ → Option BodyForm
form_at place rest = form_of (line_words (record { place = place; rest = rest }))

-- the line goes on behind its first bytes
line_goes_on : (front more : List ℕ) → is_one_line front ≡ true → before_first is_line_end (front ++ more) ≡ front ++ before_first is_line_end more
line_goes_on [] more h = refl
line_goes_on (b ∷ bs) more h =
    let both = and_parts (not (is_line_end b)) (is_one_line bs) h in
    let n : ℕ = position_or_len is_line_end (bs ++ more) in
    let one : 1 + n ≡ suc n = omega arith in
    rw (not-true _ both.0, one) (ap (λ (l : List ℕ). b ∷ l) (line_goes_on bs more both.1))

form_at_front : (place : ℕ) (front more : List ℕ) → is_one_line front ≡ true → form_at place (front ++ more) ≡ form_of (spaced_words (front ++ before_first is_line_end more))
unfolding line_words
form_at_front place front more h = ap (λ (line : List ℕ). form_of (spaced_words line)) (line_goes_on front more h)

pub no_form_at_answer : (place : ℕ) (more : List ℕ) → form_at place (codes "answer " ++ more) ≡ None
no_form_at_answer place more = form_at_front place (codes "answer ") more refl

-- a repair begins with its form's word
pub form_at_repaired : (place : ℕ) (more : List ℕ) → form_at place (codes "repaired " ++ more) ≡ Some bodies.Repaired
form_at_repaired place more = form_at_front place (codes "repaired ") more refl

pub form_at_repair_wide : (place : ℕ) (more : List ℕ) → form_at place (codes "repair-wide " ++ more) ≡ Some bodies.RepairWide
form_at_repair_wide place more = form_at_front place (codes "repair-wide ") more refl

no_form_at_line : (place : ℕ) (more : List ℕ) → form_at place (codes "line " ++ more) ≡ None
no_form_at_line place more = form_at_front place (codes "line ") more refl

no_form_at_end : (place : ℕ) (more : List ℕ) → form_at place (codes "end " ++ more) ≡ None
no_form_at_end place more = form_at_front place (codes "end ") more refl

no_form_at_nothing : (place : ℕ) → form_at place [] ≡ None
unfolding line_words
no_form_at_nothing place = refl

begun : (rest front : List ℕ) → starts_with nat_eq rest front ≡ true → rest ≡ front ++ drop (length front) rest
begun rest front begins = (starts_is Decides-eqb rest front (starts_with nat_eq rest front) refl).0 begins

-- what ends a body begins none
pub ends_no_form : (place : ℕ) (rest : List ℕ) → ends_body rest ≡ true → form_at place rest ≡ None
ends_no_form place [] ends = no_form_at_nothing place
ends_no_form place (b ∷ bs) ends =
    elim (cases_Bool (begins_block (b ∷ bs))) [
      | inl block ↦ ap (form_at place) (begun (b ∷ bs) (codes "line ") block) ∙ no_form_at_line place (drop 5 (b ∷ bs))
      | inr other ↦
          elim (cases_Bool (begins_end (b ∷ bs))) [
            | inl end ↦ ap (form_at place) (begun (b ∷ bs) (codes "end ") end) ∙ no_form_at_end place (drop 4 (b ∷ bs))
            | inr none ↦ absurd (let no = rw (some_bytes b bs, other, none) at ends in cc)
          ]
    ]
