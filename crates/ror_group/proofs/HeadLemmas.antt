-- Heads as texts, both ways, and the lines of desks read one after the other.
use Rattle.std.proofs.Common.{◌≡◌, ℕ, zero, inl, inr, suc, ◌+◌, ◌<◌, ◌≤◌, ◌^◌, true, false, not, eqb, List, [], ◌∷◌, ◌++◌, length, drop, get_or, Result, Ok, Err, refl, sym, ap, subst, ◌∙◌, append_assoc, arith, length-append, drop-cons}
use Rattle.std.specs.Prelude.{codes, nat_eq, IfSome}
use Rattle.std.specs.List.{flat_map, starts_with, AllByRecursion}
use Rattle.std.specs.Str.{IsUtf8, bytes_eq, is_utf8}
use Rattle.std.proofs.lemmas.Bool.{and_from, eqb-true, not-false, cases_Bool, cond-true, cond-false}
use Rattle.std.proofs.lemmas.Bool.Decides.{Decides-eqb}
use Rattle.std.proofs.lemmas.List.{drop_all}
use Rattle.std.proofs.lemmas.Str.{is_utf8-from_IsUtf8}
use Rattle.std.proofs.lemmas.Slice.Eq.{bytes_eq-Decides}
use Rattle.ror_text.specs.Cursor.{Cursor, cursor_at, line_words}
use Rattle.ror_text.specs.Reading.{◌>>=◌, refuse}
use Rattle.ror_text.specs.SpacedLines.{is_word, are_words}
use Rattle.ror_text.proofs.CursorLemmas.{Spans, spans_then, line_again, line_spans}
use Rattle.ror_text.proofs.ListLemmas.{bytes_same}
use Rattle.ror_text.proofs.ReadingLemmas.{bind_ok, refuse_ok, gives_exit}
use Rattle.ror_proof.specs.declared.read.ProofFault.{ProofFault}
use Rattle.ror_proof.specs.declared.read.ProofFault.TheVariants as lines
use Rattle.ror_proof.proofs.WordLemmas.{done}
use Rattle.ror_report.specs.Reading.{numbered_line}
use Rattle.ror_report.specs.Text.{numbered_text}
use Rattle.ror_report.proofs.LineForms.{line_is_read, numbered_again, numbered_sound}
use Rattle.ror_group.specs.declared.head.HeadFault.{HeadFault}
use Rattle.ror_group.specs.declared.head.HeadFault.TheVariants as faults
use Rattle.ror_report.specs.Desk.{desk_words, desk_text, is_visible_name, is_desk_name, name_words, desk_line}
use Rattle.ror_report.proofs.DeskLemmas as desks
use Rattle.ror_report.proofs.DeskLemmas.{dropped, begun, begins_split, name_is_word, name_words_sound}
use Rattle.ror_group.specs.Head.{header_text, head_text, head_fault, in_line, begins_desk, desk_at, desks_at, count_at, head_at, no_desk_at, whole_head_at, IsHeadText}

-- ---- the loop

desks_step : (name : List ℕ) (names : List (List ℕ)) (c : Cursor) → desks_at (name ∷ names) c ≡ (desk_at name c >>= λ next. desks_at names next)
unfolding desks_at
desks_step name names c = refl

pub rest_is : (xs : List (List ℕ)) (i : ℕ) (x : List ℕ) → i < length xs → x ≡ get_or xs i x → drop i xs ≡ x ∷ drop (i + 1) xs
rest_is xs i x within is =
    let next : suc i ≡ i + 1 = omega arith in
    drop-cons xs i x within ∙ ap (λ (y : List ℕ). y ∷ drop (suc i) xs) (sym is) ∙ ap (λ (n : ℕ). x ∷ drop n xs) next

pub desks_go_on : (names : List (List ℕ)) (i : ℕ) (name : List ℕ) (c after : Cursor) (whole : Result Cursor HeadFault) → i < length names → name ≡ get_or names i name → desk_at name c ≡ Ok after → desks_at (drop i names) c ≡ whole → desks_at (drop (i + 1) names) after ≡ whole
desks_go_on names i name c after whole within is one so_far =
    let step : desks_at (drop i names) c ≡ desks_at (drop (i + 1) names) after = ap (λ (ns : List (List ℕ)). desks_at ns c) (rest_is names i name within is) ∙ desks_step name (drop (i + 1) names) c ∙ (rw one refl) in
    sym step ∙ so_far

pub desks_exit : (names : List (List ℕ)) (i : ℕ) (name : List ℕ) (c : Cursor) (e : HeadFault) (whole : Result Cursor HeadFault) → i < length names → name ≡ get_or names i name → IfSome (head_fault e) (λ f. desk_at name c ≡ Err f) → desks_at (drop i names) c ≡ whole → IfSome (head_fault e) (λ f. whole ≡ Err f)
desks_exit names i name c e whole within is one so_far =
    let inner = gives_exit head_fault e (desk_at name c) (λ next. desks_at (drop (i + 1) names) next) one in
    let step : desks_at (drop i names) c ≡ (desk_at name c >>= λ next. desks_at (drop (i + 1) names) next) = ap (λ (ns : List (List ℕ)). desks_at ns c) (rest_is names i name within is) ∙ desks_step name (drop (i + 1) names) c in
    subst (λ r. IfSome (head_fault e) (λ f. r ≡ Err f)) (sym step ∙ so_far) inner

pub desks_end : (names : List (List ℕ)) (i : ℕ) (c : Cursor) (whole : Result Cursor HeadFault) → length names ≤ i → desks_at (drop i names) c ≡ whole → whole ≡ Ok c
unfolding desks_at
desks_end names i c whole past so_far = sym so_far ∙ ap (λ (ns : List (List ℕ)). desks_at ns c) (drop_all i names past)

-- ---- names

-- a visible name that is UTF-8 is one that a session may have
pub name_allowed : (name : List ℕ) → is_visible_name name ≡ true → IsUtf8 name → is_desk_name name ≡ true
name_allowed name visible utf8 = and_from (is_visible_name name) (is_utf8 name) visible (is_utf8-from_IsUtf8 name utf8)

pub named_at : (P : List ℕ → Type 0) (names : List (List ℕ)) (i : ℕ) (name : List ℕ) → i < length names → name ≡ get_or names i name → AllByRecursion P names → P name
named_at P [] i name within is all = absurd (omega arith)
named_at P (x ∷ xs) zero name within is all = subst P (sym is) all.0
named_at P (x ∷ xs) (suc i) name within is all = named_at P xs i name (omega arith) is all.1

-- ---- the line of a desk

pub in_line_ok : {A : Type 0} (r : Result A ProofFault) (x : A) → in_line r ≡ Ok x → r ≡ Ok x
in_line_ok (Ok y) x e = let same : y ≡ x = cc in ap (λ z. done z) same
in_line_ok (Err f) x e = absurd cc

-- what the line of a desk is read as
pub record IsReadDesk (place : ℕ) (name rest : List ℕ) : Type 0 where
  pub begins : begins_desk (line_words (record { place = place; rest = desk_text name ++ rest })) ≡ true
  pub reads : desk_line (record { place = place; rest = desk_text name ++ rest }) ≡ Ok (name, record { place = place + length (desk_text name); rest = rest })

pub desk_is_read : (place : ℕ) (name rest : List ℕ) → is_desk_name name ≡ true → IsReadDesk place name rest
desk_is_read place [] rest is = record { begins = ap begins_desk (line_again place (codes "desk") [] rest refl).0; reads = desks.desk_again place [] rest is }
desk_is_read place (b ∷ bs) rest is =
    let are : are_words (codes "desk" ∷ (b ∷ bs) ∷ []) ≡ true = and_from (is_word (codes "desk")) _ refl (and_from _ _ (name_is_word (b ∷ bs) is) refl) in
    record { begins = ap begins_desk (line_again place (codes "desk") ((b ∷ bs) ∷ []) rest are).0; reads = desks.desk_again place (b ∷ bs) rest is }

desk_again : (place : ℕ) (name rest : List ℕ) → is_desk_name name ≡ true → desk_at name (record { place = place; rest = desk_text name ++ rest }) ≡ Ok (record { place = place + length (desk_text name); rest = rest })
unfolding desk_at
desk_again place name rest is = let read = desk_is_read place name rest is in rw (read.begins, read.reads, bytes_same name) refl

pub record SpansDesk (name : List ℕ) (c after : Cursor) : Type 0 where
  pub spans : Spans c (desk_text name) after
  pub named : is_desk_name name ≡ true

abbrev pub matched : List ℕ → List ℕ × Cursor → Result Cursor HeadFault
matched name said = refuse faults.WrongBlock (not (bytes_eq said.0 name)) >>= λ _. Ok said.1

pub desk_sound : (name : List ℕ) (c after : Cursor) → desk_at name c ≡ Ok after → SpansDesk name c after
unfolding desk_at
desk_sound name c after e =
    let a = bind_ok (refuse faults.WrongBlock (not (begins_desk (line_words c)))) (λ _. in_line (desk_line c) >>= λ said. matched name said) after e in
    let b = bind_ok (in_line (desk_line c)) (λ said. matched name said) after a.2 in
    let d = bind_ok (refuse faults.WrongBlock (not (bytes_eq b.0.0 name))) (λ _. Ok b.0.1) after b.2 in
    let line = line_is_read c (name_words c.place (line_words c)) b.0 (in_line_ok (desk_line c) b.0 b.1) in
    let said = name_words_sound c.place (line_words c) b.0.0 line.0 in
    let same : b.0.0 ≡ name = (bytes_eq-Decides b.0.0 name).0 (not-false _ (refuse_ok _ _ d.0 d.1)) in
    let end : b.0.1 ≡ after = let f = d.2 in cc in
    subst (λ (n : List ℕ). SpansDesk n c after) same (subst (SpansDesk b.0.0 c) end (record { spans = line_spans c b.0.1 (desk_words b.0.0) said.0 line.1; named = said.1 }))

-- ---- the lines of all desks

desks_again : (names : List (List ℕ)) (place : ℕ) (rest : List ℕ) → AllByRecursion (λ name. is_desk_name name ≡ true) names → desks_at names (record { place = place; rest = flat_map desk_text names ++ rest }) ≡ Ok (record { place = place + length (flat_map desk_text names); rest = rest })
unfolding desks_at
desks_again [] place rest named = ap (λ (n : ℕ). Ok (record { place = n; rest = rest })) (omega arith)
desks_again (name ∷ names) place rest named =
    let front = desk_text name in
    let others = flat_map desk_text names in
    let regrouped : (front ++ others) ++ rest ≡ front ++ (others ++ rest) = append_assoc front others rest in
    let to : place + length front + length others ≡ place + length (front ++ others) = omega (arith, length-append front others) in
    ap (λ (r : List ℕ). desks_at (name ∷ names) (record { place = place; rest = r })) regrouped
    ∙ (rw (desk_again place name (others ++ rest) named.0, desks_again names (place + length front) rest named.1) (ap (λ (n : ℕ). Ok (record { place = n; rest = rest })) to))

record AreDeskLines (names : List (List ℕ)) (c after : Cursor) : Type 0 where
  spans : Spans c (flat_map desk_text names) after
  named : AllByRecursion (λ name. is_desk_name name ≡ true) names

desks_sound : (names : List (List ℕ)) (c after : Cursor) → desks_at names c ≡ Ok after → AreDeskLines names c after
unfolding desks_at
desks_sound [] c after e = let same : c ≡ after = cc in subst (AreDeskLines [] c) same (record { spans = record { rest = refl; place = omega arith }; named = tt })
desks_sound (name ∷ names) c after e =
    let a = bind_ok (desk_at name c) (λ next. desks_at names next) after e in
    let first = desk_sound name c a.0 a.1 in
    let others = desks_sound names a.0 after a.2 in
    record { spans = spans_then c a.0 after (desk_text name) (flat_map desk_text names) first.spans others.spans; named = (first.named, others.named) }

-- ---- the line of their number

pub same_number : (n : ℕ) → eqb n n ≡ true
same_number n = (Decides-eqb n n).1 refl

count_again : (n place : ℕ) (rest : List ℕ) → n < 2 ^ 32 → count_at n (record { place = place; rest = numbered_text (codes "desks") n ++ rest }) ≡ Ok (record { place = place + length (numbered_text (codes "desks") n); rest = rest })
unfolding count_at
count_again n place rest small = rw (numbered_again (codes "desks") place n rest refl small, same_number n) refl

abbrev pub counted : ℕ → ℕ × Cursor → Result Cursor HeadFault
counted n said = refuse faults.WrongBlock (not (eqb said.0 n)) >>= λ _. Ok said.1

pub count_sound : (n : ℕ) (c after : Cursor) → count_at n c ≡ Ok after → Spans c (numbered_text (codes "desks") n) after × (n < 2 ^ 32)
unfolding count_at
count_sound n c after e =
    let a = bind_ok (in_line (numbered_line (codes "desks") c)) (λ said. counted n said) after e in
    let b = bind_ok (refuse faults.WrongBlock (not (eqb a.0.0 n))) (λ _. Ok a.0.1) after a.2 in
    let line = numbered_sound (codes "desks") c a.0 (in_line_ok (numbered_line (codes "desks") c) a.0 a.1) in
    let same : a.0.0 ≡ n = eqb-true _ _ (not-false _ (refuse_ok _ _ b.0 b.1)) in
    let end : a.0.1 ≡ after = let f = b.2 in cc in
    subst (λ (m : ℕ). Spans c (numbered_text (codes "desks") m) after × (m < 2 ^ 32)) same (subst (λ (d : Cursor). Spans c (numbered_text (codes "desks") a.0.0) d × (a.0.0 < 2 ^ 32)) end line)

-- ---- whole heads

head_step : (names : List (List ℕ)) (bytes : List ℕ) (desks after : Cursor) → starts_with nat_eq bytes header_text ≡ true → count_at (length names) (cursor_at bytes (length header_text)) ≡ Ok desks → desks_at names desks ≡ Ok after → head_at names bytes ≡ Ok after
unfolding head_at
head_step names bytes desks after begins count read = rw (begins, count, read) refl

pub head_again : (names : List (List ℕ)) (bytes : List ℕ) (after : Cursor) → IsHeadText names bytes after → head_at names bytes ≡ Ok after
unfolding head_text
head_again names bytes after is =
    let n = length header_text in
    let count = numbered_text (codes "desks") (length names) in
    let desks = flat_map desk_text names in
    let rest = after.rest in
    let regrouped : bytes ≡ header_text ++ (count ++ (desks ++ rest)) = is.text ∙ append_assoc header_text (count ++ desks) rest ∙ ap (λ (l : List ℕ). header_text ++ l) (append_assoc count desks rest) in
    let at : cursor_at bytes n ≡ record { place = n; rest = count ++ (desks ++ rest) } = ap (λ (l : List ℕ). record { place = n; rest = l }) (ap (drop n) regrouped ∙ dropped header_text (count ++ (desks ++ rest))) in
    let begins = ap (λ (l : List ℕ). starts_with nat_eq l header_text) regrouped ∙ begun header_text (count ++ (desks ++ rest)) in
    let counted_there = ap (count_at (length names)) at ∙ count_again (length names) n (desks ++ rest) is.few in
    let read = desks_again names (n + length count) rest is.allowed in
    let to : n + length count + length desks ≡ after.place = omega (arith, is.place, length-append header_text (count ++ desks), length-append count desks) in
    head_step names bytes _ _ begins counted_there read ∙ ap (λ (m : ℕ). Ok (record { place = m; rest = rest })) to

pub head_is_text : (names : List (List ℕ)) (bytes : List ℕ) (after : Cursor) → head_at names bytes ≡ Ok after → IsHeadText names bytes after
unfolding head_at head_text
head_is_text names bytes after e =
    let a = bind_ok (refuse (faults.Line (lines.BadLine 0)) (not (starts_with nat_eq bytes header_text))) (λ _. count_at (length names) (cursor_at bytes (length header_text)) >>= λ desks. desks_at names desks) after e in
    let b = bind_ok (count_at (length names) (cursor_at bytes (length header_text))) (λ desks. desks_at names desks) after a.2 in
    let begins : starts_with nat_eq bytes header_text ≡ true = not-false _ (refuse_ok _ _ a.0 a.1) in
    let header : bytes ≡ header_text ++ drop (length header_text) bytes = begins_split bytes header_text begins in
    let count = count_sound (length names) (cursor_at bytes (length header_text)) b.0 b.1 in
    let desks = desks_sound names b.0 after b.2 in
    let start : Cursor = record { place = 0; rest = bytes } in
    let first : Spans start header_text (cursor_at bytes (length header_text)) = record { rest = header; place = omega arith } in
    let lines_of = spans_then (cursor_at bytes (length header_text)) b.0 after (numbered_text (codes "desks") (length names)) (flat_map desk_text names) count.0 desks.spans in
    let spans = spans_then start (cursor_at bytes (length header_text)) after header_text (numbered_text (codes "desks") (length names) ++ flat_map desk_text names) first lines_of in
    record { text = spans.rest; place = omega (arith, spans.place); few = count.1; allowed = desks.named }

-- ---- heads as a whole

none_there : (c : Cursor) → begins_desk (line_words c) ≡ false → no_desk_at c ≡ Ok c
unfolding no_desk_at
none_there c none = rw none refl

-- a head is read as a whole where its text stands and no desk's line behind it
pub whole_again : (names : List (List ℕ)) (bytes : List ℕ) (after : Cursor) → IsHeadText names bytes after → begins_desk (line_words after) ≡ false → whole_head_at names bytes ≡ Ok after
unfolding whole_head_at
whole_again names bytes after text none = rw (head_again names bytes after text, none_there after none) refl

extra_refused : (c after : Cursor) → (in_line (desk_line c) >>= λ _. Err faults.WrongBlock) ≡ Ok after → ⊥
extra_refused c after e = let a = bind_ok (in_line (desk_line c)) (λ _. Err faults.WrongBlock) after e in let no = a.2 in cc

there : (c after : Cursor) → no_desk_at c ≡ Ok after → (c ≡ after) × (begins_desk (line_words c) ≡ false)
unfolding no_desk_at
there c after e = elim (cases_Bool (begins_desk (line_words c))) [
  | inl is ↦ absurd (extra_refused c after (sym (cond-true _ _ _ is) ∙ e))
  | inr is ↦ let same = sym (cond-false _ _ _ is) ∙ e in (cc, is)
]

-- and where it is read, so it is
pub whole_is_text : (names : List (List ℕ)) (bytes : List ℕ) (after : Cursor) → whole_head_at names bytes ≡ Ok after → IsHeadText names bytes after × (begins_desk (line_words after) ≡ false)
unfolding whole_head_at
whole_is_text names bytes after e =
    let a = bind_ok (head_at names bytes) (λ c. no_desk_at c) after e in
    let last = there a.0 after a.2 in
    subst (λ (c : Cursor). IsHeadText names bytes c × (begins_desk (line_words c) ≡ false)) last.0 (head_is_text names bytes a.0 a.1, last.1)
