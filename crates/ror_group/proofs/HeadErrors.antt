-- The fault of a head is the one that is given.
use Rattle.std.proofs.Common.{◌≡◌, ◌≢◌, ℕ, Bool, true, false, not, eqb, List, [], ◌∷◌, ◌++◌, length, drop, Result, Ok, Err, refl, sym, ap, ◌∙◌, inl, inr}
use Rattle.std.specs.Prelude.{codes, nat_eq}
use Rattle.std.specs.List.{starts_with}
use Rattle.std.specs.Str.{bytes_eq}
use Rattle.std.proofs.lemmas.Bool.{cases_Bool, cond-true, cond-false, ne_eqb, not-true, not-false}
use Rattle.std.proofs.lemmas.Bool.Decides.{Decides-eqb}
use Rattle.std.proofs.lemmas.Slice.Eq.{bytes_eq-Decides}
use Rattle.ror_text.specs.Cursor.{Cursor, cursor_at, line_words}
use Rattle.ror_text.specs.Reading.{◌>>=◌, refuse}
use Rattle.ror_text.proofs.CursorLemmas.{line_spans}
use Rattle.ror_text.proofs.ListLemmas.{bytes_same}
use Rattle.ror_text.proofs.ReadingLemmas.{bind_err, refuse_ok, refuse_err}
use Rattle.ror_table.specs.Table.{DecisionTable}
use Rattle.ror_proof.specs.declared.read.ProofFault.{ProofFault}
use Rattle.ror_proof.specs.declared.read.ProofFault.TheVariants.{BadLine}
use Rattle.ror_proof.proofs.LineFaults.{line_fails}
use Rattle.ror_proof.proofs.WordFaults.{no_fault}
use Rattle.ror_report.specs.Faults.{expected_number}
use Rattle.ror_report.specs.Reading.{numbered_line}
use Rattle.ror_report.proofs.FormFaults.{number_reads}
use Rattle.ror_report.proofs.LineForms.{line_is_read, numbered_again, numbered_sound}
use Rattle.ror_group.specs.declared.head.HeadFault.{HeadFault}
use Rattle.ror_group.specs.declared.head.HeadFault.TheVariants.{Line, WrongBlock}
use Rattle.ror_report.specs.Desk.{desk_words, name_words, desk_line}
use Rattle.ror_report.proofs.DeskLemmas.{dropped, begun, begins_split, name_words_sound, desk_err}
use Rattle.ror_group.specs.Head.{header_text, in_line, begins_desk, desk_at, desks_at, count_at, head_at, no_desk_at, whole_head_at}
use Rattle.ror_group.specs.HeadFaults.{SaysDesks, IsDeskLine, IsNoDeskLine, IsFaultOfCount, IsFaultOfDesk, IsFaultOfDesks, IsFaultOfExtra, behind_header, IsFaultOfHead, IsFaultOfWholeHead}
use Rattle.ror_group.specs.HeadFaults.IsFaultOfCount.{bad_count, other_count}
use Rattle.ror_group.specs.HeadFaults.IsFaultOfDesk.{left_out, bad_desk, other_desk}
use Rattle.ror_group.specs.HeadFaults.IsFaultOfExtra.{bad_extra, one_too_many}
use Rattle.ror_group.specs.HeadFaults.IsFaultOfHead.{in_header, in_count, in_desks}
use Rattle.ror_group.specs.HeadFaults.IsFaultOfWholeHead.{in_head, behind_head}
use Rattle.ror_group.proofs.HeadLemmas.{in_line_ok, desk_is_read, matched, desk_sound, same_number, counted, count_sound, head_again, head_is_text}

-- ---- the line of a desk

desk_read : (c : Cursor) (name : List ℕ) (after : Cursor) → desk_line c ≡ Ok (name, after) → IsDeskLine name c after
desk_read c name after e =
    let line = line_is_read c (name_words c.place (line_words c)) (name, after) e in
    let said = name_words_sound c.place (line_words c) name line.0 in
    let spans = line_spans c after (desk_words name) said.0 line.1 in
    record { text = spans.rest; place = spans.place; allowed = said.1 }

desk_begins : (c : Cursor) (name : List ℕ) (after : Cursor) → IsDeskLine name c after → begins_desk (line_words c) ≡ true
desk_begins c name after line = ap (λ (r : List ℕ). begins_desk (line_words (record { place = c.place; rest = r }))) line.text ∙ (desk_is_read c.place name after.rest line.allowed).begins

desk_reads : (c : Cursor) (name : List ℕ) (after : Cursor) → IsDeskLine name c after → desk_line c ≡ Ok (name, after)
desk_reads c name after line =
    ap (λ (r : List ℕ). desk_line (record { place = c.place; rest = r })) line.text
    ∙ (desk_is_read c.place name after.rest line.allowed).reads
    ∙ ap (λ (n : ℕ). Ok (name, record { place = n; rest = after.rest })) (sym line.place)

no_desk : (c : Cursor) (f : ProofFault) → desk_line c ≡ Err f → IsNoDeskLine c
no_desk c f e name after line = let read = desk_reads c name after line in no_fault _ f (sym read ∙ e)

bad_line : (c : Cursor) → IsNoDeskLine c → desk_line c ≡ Err (BadLine c.place)
bad_line c none = by (desk_line c) refl
  where
    by : (r : Result (List ℕ × Cursor) ProofFault) → desk_line c ≡ r → r ≡ Err (BadLine c.place)
    by (Ok x) e = absurd (none x.0 x.1 (desk_read c x.0 x.1 e))
    by (Err f) e = ap (λ (g : ProofFault). Err g) (desk_err c f e)

-- ---- the desks

in_line_err : {A : Type 0} (r : Result A ProofFault) (f : HeadFault) → in_line r ≡ Err f → (form : ProofFault) × (r ≡ Err form) × (f ≡ Line form)
in_line_err (Ok x) f e = absurd cc
in_line_err (Err form) f e = (form, refl, cc)

no_head_fault : {A : Type 0} (x : A) (f : HeadFault) → Ok x ≡ Err f → ⊥
no_head_fault x f e = cc

differ : (one other : List ℕ) → bytes_eq one other ≡ false → one ≢ other
differ one other is same = let other_way = (bytes_eq-Decides one other).1 same in absurd cc

differing : (one other : List ℕ) → one ≢ other → bytes_eq one other ≡ false
differing one other differs = elim (cases_Bool (bytes_eq one other)) [
  | inl is ↦ absurd (differs ((bytes_eq-Decides one other).0 is))
  | inr is ↦ is
]

one_desk_err : (name : List ℕ) (c : Cursor) (f : HeadFault) → desk_at name c ≡ Err f → IsFaultOfDesk name c f
unfolding desk_at
one_desk_err name c f e = elim (bind_err (refuse WrongBlock (not (begins_desk (line_words c)))) (λ _. in_line (desk_line c) >>= λ said. matched name said) f e) [
  | inl here ↦ let no = refuse_err WrongBlock f (not (begins_desk (line_words c))) here in left_out (not-true _ no.0) no.1
  | inr a ↦
      let first : begins_desk (line_words c) ≡ true = not-false _ (refuse_ok _ _ a.0 a.1) in
      elim (bind_err (in_line (desk_line c)) (λ said. matched name said) f a.2) [
        | inl here ↦ let bad = in_line_err (desk_line c) f here in bad_desk first (no_desk c bad.0 bad.1) (bad.2 ∙ ap (λ (g : ProofFault). Line g) (desk_err c bad.0 bad.1))
        | inr b ↦
            elim (bind_err (refuse WrongBlock (not (bytes_eq b.0.0 name))) (λ _. Ok b.0.1) f b.2) [
              | inl here ↦ let no = refuse_err WrongBlock f (not (bytes_eq b.0.0 name)) here in other_desk b.0.0 b.0.1 (desk_read c b.0.0 b.0.1 (in_line_ok (desk_line c) b.0 b.1)) (differ b.0.0 name (not-true _ no.0)) no.1
              | inr d ↦ absurd (no_head_fault _ f d.2)
            ]
      ]
]

one_desk_fails : (name : List ℕ) (c : Cursor) (f : HeadFault) → IsFaultOfDesk name c f → desk_at name c ≡ Err f
unfolding desk_at
one_desk_fails name c f (left_out first is) = rw (first, is) refl
one_desk_fails name c f (bad_desk first none is) = rw (first, bad_line c none, is) refl
one_desk_fails name c f (other_desk other after line differs is) = rw (desk_begins c other after line, desk_reads c other after line, differing other name differs, is) refl

one_desk_read : (name : List ℕ) (c after : Cursor) → desk_at name c ≡ Ok after → IsDeskLine name c after
one_desk_read name c after e = let line = desk_sound name c after e in record { text = line.spans.rest; place = line.spans.place; allowed = line.named }

one_desk_goes : (name : List ℕ) (c after : Cursor) → IsDeskLine name c after → desk_at name c ≡ Ok after
unfolding desk_at
one_desk_goes name c after line = rw (desk_begins c name after line, desk_reads c name after line, bytes_same name) refl

desks_err : (names : List (List ℕ)) (c : Cursor) (f : HeadFault) → desks_at names c ≡ Err f → IsFaultOfDesks names c f
unfolding desks_at
desks_err [] c f e = absurd (no_head_fault _ f e)
desks_err (name ∷ names) c f e = elim (bind_err (desk_at name c) (λ next. desks_at names next) f e) [
  | inl here ↦ inl (one_desk_err name c f here)
  | inr a ↦ inr (a.0, one_desk_read name c a.0 a.1, desks_err names a.0 f a.2)
]

desks_fail : (names : List (List ℕ)) (c : Cursor) (f : HeadFault) → IsFaultOfDesks names c f → desks_at names c ≡ Err f
unfolding desks_at
desks_fail [] c f none = absurd none
desks_fail (name ∷ names) c f (inl here) = rw (one_desk_fails name c f here) refl
desks_fail (name ∷ names) c f (inr later) = rw (one_desk_goes name c later.0 later.1, desks_fail names later.0 f later.2) refl

-- ---- their number

says_read : (n : ℕ) (c after : Cursor) → numbered_line (codes "desks") c ≡ Ok (n, after) → SaysDesks n c after
says_read n c after e = let line = numbered_sound (codes "desks") c (n, after) e in record { text = line.0.rest; place = line.0.place; small = line.1 }

says_reads : (n : ℕ) (c after : Cursor) → SaysDesks n c after → numbered_line (codes "desks") c ≡ Ok (n, after)
says_reads n c after says =
    ap (λ (r : List ℕ). numbered_line (codes "desks") (record { place = c.place; rest = r })) says.text
    ∙ numbered_again (codes "desks") c.place n after.rest refl says.small
    ∙ ap (λ (m : ℕ). Ok (n, record { place = m; rest = after.rest })) (sym says.place)

count_err : (t : DecisionTable) (n : ℕ) (c : Cursor) (f : HeadFault) → count_at n c ≡ Err f → IsFaultOfCount t n c f
unfolding count_at
count_err t n c f e = elim (bind_err (in_line (numbered_line (codes "desks") c)) (λ said. counted n said) f e) [
  | inl here ↦ let bad = in_line_err (numbered_line (codes "desks") c) f here in bad_count bad.0 ((number_reads t (codes "desks") c).err bad.0 bad.1) bad.2
  | inr a ↦ elim (bind_err (refuse WrongBlock (not (eqb a.0.0 n))) (λ _. Ok a.0.1) f a.2) [
    | inl here ↦ let no = refuse_err WrongBlock f (not (eqb a.0.0 n)) here in other_count a.0.0 a.0.1 (says_read a.0.0 c a.0.1 (in_line_ok (numbered_line (codes "desks") c) a.0 a.1)) (unequal a.0.0 n (not-true _ no.0)) no.1
    | inr d ↦ absurd (no_head_fault _ f d.2)
  ]
]
  where
    unequal : (m n : ℕ) → eqb m n ≡ false → m ≢ n
    unequal m n is same = let other_way = (Decides-eqb m n).1 same in absurd cc

count_fails : (t : DecisionTable) (n : ℕ) (c : Cursor) (f : HeadFault) → IsFaultOfCount t n c f → count_at n c ≡ Err f
unfolding count_at
count_fails t n c f (bad_count form fault is) = rw (line_fails t (expected_number (codes "desks")) c (numbered_line (codes "desks") c) form (number_reads t (codes "desks") c) fault, is) refl
count_fails t n c f (other_count other after says differs is) = rw (says_reads other c after says, ne_eqb other n differs, is) refl

count_read : (n : ℕ) (c after : Cursor) → count_at n c ≡ Ok after → SaysDesks n c after
count_read n c after e = let line = count_sound n c after e in record { text = line.0.rest; place = line.0.place; small = line.1 }

count_goes : (n : ℕ) (c after : Cursor) → SaysDesks n c after → count_at n c ≡ Ok after
unfolding count_at
count_goes n c after says = rw (says_reads n c after says, same_number n) refl

-- ---- whole heads

header_there : (bytes rest : List ℕ) → bytes ≡ header_text ++ rest → starts_with nat_eq bytes header_text ≡ true
header_there bytes rest is = ap (λ (l : List ℕ). starts_with nat_eq l header_text) is ∙ begun header_text rest

header_behind : (bytes rest : List ℕ) → bytes ≡ header_text ++ rest → cursor_at bytes (length header_text) ≡ behind_header rest
header_behind bytes rest is = ap (λ (l : List ℕ). record { place = length header_text; rest = l }) (ap (drop (length header_text)) is ∙ dropped header_text rest)

no_header : (bytes : List ℕ) → ((rest : List ℕ) → bytes ≡ header_text ++ rest → ⊥) → starts_with nat_eq bytes header_text ≡ false
no_header bytes none = elim (cases_Bool (starts_with nat_eq bytes header_text)) [
  | inl is ↦ absurd (none (drop (length header_text) bytes) (begins_split bytes header_text is))
  | inr is ↦ is
]

pub head_err : (t : DecisionTable) (names : List (List ℕ)) (bytes : List ℕ) (f : HeadFault) → head_at names bytes ≡ Err f → IsFaultOfHead t names bytes f
unfolding head_at
head_err t names bytes f e = elim (bind_err (refuse (Line (BadLine 0)) (not (starts_with nat_eq bytes header_text))) (λ _. count_at (length names) (cursor_at bytes (length header_text)) >>= λ desks. desks_at names desks) f e) [
  | inl here ↦ let no = refuse_err (Line (BadLine 0)) f (not (starts_with nat_eq bytes header_text)) here in in_header (λ rest is. off (header_there bytes rest is) (not-true _ no.0)) no.1
  | inr a ↦
      let begins : starts_with nat_eq bytes header_text ≡ true = not-false _ (refuse_ok _ _ a.0 a.1) in
      let rest = drop (length header_text) bytes in
      let split = begins_split bytes header_text begins in
      elim (bind_err (count_at (length names) (cursor_at bytes (length header_text))) (λ desks. desks_at names desks) f a.2) [
        | inl here ↦ in_count rest split (count_err t (length names) (behind_header rest) f here)
        | inr b ↦ in_desks rest b.0 split (count_read (length names) (behind_header rest) b.0 b.1) (desks_err names b.0 f b.2)
      ]
]
  where
    off : {b : Bool} → b ≡ true → b ≡ false → ⊥
    off p q = absurd cc

pub head_fails : (t : DecisionTable) (names : List (List ℕ)) (bytes : List ℕ) (f : HeadFault) → IsFaultOfHead t names bytes f → head_at names bytes ≡ Err f
unfolding head_at
head_fails t names bytes f (in_header none is) = rw (no_header bytes none, is) refl
head_fails t names bytes f (in_count rest split fault) = rw (header_there bytes rest split, header_behind bytes rest split, count_fails t (length names) (behind_header rest) f fault) refl
head_fails t names bytes f (in_desks rest desks split says fault) = rw (header_there bytes rest split, header_behind bytes rest split, count_goes (length names) (behind_header rest) desks says, desks_fail names desks f fault) refl

-- ---- and no further desk

extra_err : (c : Cursor) (f : HeadFault) → no_desk_at c ≡ Err f → IsFaultOfExtra c f
unfolding no_desk_at
extra_err c f e = elim (cases_Bool (begins_desk (line_words c))) [
  | inl first ↦ there first (sym (cond-true _ _ _ first) ∙ e)
  | inr none ↦ absurd (no_head_fault c f (sym (cond-false _ _ _ none) ∙ e))
]
  where
    refused : List ℕ × Cursor → Result Cursor HeadFault
    refused said = Err WrongBlock

    there : begins_desk (line_words c) ≡ true → (in_line (desk_line c) >>= λ said. refused said) ≡ Err f → IsFaultOfExtra c f
    there first e = elim (bind_err (in_line (desk_line c)) (λ said. refused said) f e) [
      | inl here ↦ let bad = in_line_err (desk_line c) f here in bad_extra first (no_desk c bad.0 bad.1) (bad.2 ∙ ap (λ (g : ProofFault). Line g) (desk_err c bad.0 bad.1))
      | inr a ↦ let is = a.2 in one_too_many a.0.0 a.0.1 (desk_read c a.0.0 a.0.1 (in_line_ok (desk_line c) a.0 a.1)) cc
    ]

extra_fails : (c : Cursor) (f : HeadFault) → IsFaultOfExtra c f → no_desk_at c ≡ Err f
unfolding no_desk_at
extra_fails c f (bad_extra first none is) = rw (first, bad_line c none, is) refl
extra_fails c f (one_too_many name after line is) = rw (desk_begins c name after line, desk_reads c name after line, is) refl

pub whole_head_err : (t : DecisionTable) (names : List (List ℕ)) (bytes : List ℕ) (f : HeadFault) → whole_head_at names bytes ≡ Err f → IsFaultOfWholeHead t names bytes f
unfolding whole_head_at
whole_head_err t names bytes f e = elim (bind_err (head_at names bytes) (λ c. no_desk_at c) f e) [
  | inl here ↦ in_head (head_err t names bytes f here)
  | inr a ↦ behind_head a.0 (head_is_text names bytes a.0 a.1) (extra_err a.0 f a.2)
]

pub whole_head_fails : (t : DecisionTable) (names : List (List ℕ)) (bytes : List ℕ) (f : HeadFault) → IsFaultOfWholeHead t names bytes f → whole_head_at names bytes ≡ Err f
unfolding whole_head_at
whole_head_fails t names bytes f (in_head fault) = rw (head_fails t names bytes f fault) refl
whole_head_fails t names bytes f (behind_head after text fault) = rw (head_again names bytes after text, extra_fails after f fault) refl
