-- What the definition of a task says of words is the table of words.
use Rattle.std.proofs.Common.{◌≡◌, ◌∙◌, refl, sym, ap, subst, inl, inr, arith, append_assoc, ℕ, Bool, true, false, true≢false, List, [], ◌∷◌, ◌++◌, map, Option, Some, None, codes, if◌then◌else◌, ◌&&◌, ◌⊎◌}
use Rattle.std.specs.Option.{option_map, option_and_then, option_map_or}
use Rattle.std.specs.List.{find, flat_map, list_all}
use Rattle.std.specs.Str.{bytes_eq}
use Rattle.std.proofs.lemmas.Bool.{cases_Bool}
use Rattle.std.proofs.lemmas.Slice.Eq.{bytes_eq-Decides}
use Rattle.ror_pivot.specs.declared.note.Bits.{Bits}
use Rattle.ror_pivot.specs.declared.note.Bits.TheVariants.{B15, B31, B63, B127}
use Rattle.ror_words.specs.declared.words.Place.{Place}
use Rattle.ror_words.specs.declared.words.Place.TheVariants.{Anything, Width, Names}
use Rattle.ror_words.specs.declared.table.Row as rows
use Rattle.ror_words.specs.Commands.{Row, row_for}
use Rattle.ror_words.specs.Named.{row_with}
use Rattle.ror_words.specs.Words.{Task, Given, Reading, reading_at, is_name, is_named, width_text, bits_word, widths, width_of, joined_width_of, none_given, with_name, with_best_first, with_bits, taken, taken_first, read_on, given_at_end, given_from, given_in, suits, task_with, task_of}
use Rattle.ror_words.specs.WordTable.{Part, Name, BitsApart, BitsJoined, BestFirst, written, is_part, with_part, with_parts, ended_by, names_after, AreGiven, IsInTable, IsByTable}

both : (a b : Bool) → (a && b) ≡ true → (a ≡ true) × (b ≡ true)
both a b e = (grind arith, grind arith)

found_keeps : {A : Type 0} (p q : A → Bool) (xs : List A) (x : A) → list_all q xs ≡ true → find p xs ≡ Some x → (p x && q x) ≡ true
found_keeps {A} p q [] x all is = absurd cc
found_keeps {A} p q (y ∷ ys) x all is =
    let a = both (q y) (list_all q ys) all in
    elim (cases_Bool (p y)) [
      | inl hit ↦ let here : Some y ≡ Some x = rw hit at is in let same : y ≡ x = cc in subst (λ (z : A). (p z && q z) ≡ true) same (rw hit a.0)
      | inr miss ↦ let later : find p ys ≡ Some x = rw miss at is in found_keeps p q ys x a.1 later
    ]

-- the row that is found is the one that is found among the rows' values
pub row_found : (word : List ℕ) (xs : List rows.Row) → option_map row_with (find (λ row. bytes_eq row.word.now word) xs) ≡ find (λ row. bytes_eq row.word word) (map row_with xs)
row_found word [] = refl
row_found word (x ∷ xs) = at (bytes_eq x.word.now word) (row_found word xs)
  where
    at : (b : Bool) → option_map row_with (find (λ row. bytes_eq row.word.now word) xs) ≡ find (λ row. bytes_eq row.word word) (map row_with xs)
        → option_map row_with (if b then Some x else find (λ row. bytes_eq row.word.now word) xs) ≡ (if b then Some (row_with x) else find (λ row. bytes_eq row.word word) (map row_with xs))
    at true e = refl
    at false e = e

-- words whose command doesn't take what is given are not in the table
pub unsuited : (words : List (List ℕ)) (word : List ℕ) (rest : List (List ℕ)) (row : Row) (given : Given) → words ≡ word ∷ rest → row_for word ≡ Some row → given_in rest ≡ Some given → suits row given ≡ false → task_of words ≡ None
unfolding task_of
unsuited words word rest row given is found read unfit = rw (is, found, read, unfit) refl

-- and those whose command takes it ask for that
pub suited : (words : List (List ℕ)) (word : List ℕ) (rest : List (List ℕ)) (row : Row) (given : Given) → words ≡ word ∷ rest → row_for word ≡ Some row → given_in rest ≡ Some given → suits row given ≡ true → task_of words ≡ Some (task_with row given)
unfolding task_of
suited words word rest row given is found read fit = rw (is, found, read, fit) refl

-- ---- what is written gives what is defined

-- a name is written as no option
unlike : (word other : List ℕ) → is_name word ≡ true → is_name other ≡ false → bytes_eq word other ≡ false
unlike word other name never = elim (cases_Bool (bytes_eq word other)) [
  | inl same ↦ absurd (true≢false (sym name ∙ ap is_name ((bytes_eq-Decides word other).0 same) ∙ never))
  | inr differ ↦ differ
]

no_width : (word : List ℕ) → is_name word ≡ true → joined_width_of word ≡ None
no_width word name =
    rw (unlike word (bits_word B15) name refl, unlike word (bits_word B31) name refl, unlike word (bits_word B63) name refl, unlike word (bits_word B127) name refl) refl

-- one step over what comes of a word
after : (place : Place) (o : Option Given) (words : List (List ℕ)) → option_and_then (λ end. given_at_end end.place end.given) (option_and_then (λ s. read_on s words) (option_map (reading_at place) o)) ≡ option_and_then (λ h. given_from (reading_at place h) words) o
after place None words = refl
after place (Some given) words = refl

same_then : (f g : Given → Option Given) (o : Option Given) → ((h : Given) → f h ≡ g h) → option_and_then f o ≡ option_and_then g o
same_then f g None same = refl
same_then f g (Some h) same = same h

one_width : (bits : Bits) (given : Given) (words : List (List ℕ))
    → (given_from (reading_at Anything given) (codes "--bits" ∷ width_text bits ∷ words) ≡ option_and_then (λ h. given_from (reading_at Anything h) words) (with_bits bits given))
    × (given_from (reading_at Anything given) (bits_word bits ∷ words) ≡ option_and_then (λ h. given_from (reading_at Anything h) words) (with_bits bits given))
one_width bits given words =
    let rest = after Anything (with_bits bits given) words in
    (grind (arith, rest), grind (arith, rest))

one_part : (part : Part) (given : Given) (words : List (List ℕ)) → is_part part ≡ true → given_from (reading_at Anything given) (written part ++ words) ≡ option_and_then (λ h. given_from (reading_at Anything h) words) (with_part part given)
one_part (Name name) given words is =
    rw (unlike name (codes "--") is refl, unlike name (codes "--best-first") is refl, unlike name (codes "--bits") is refl, no_width name is, is) (after Anything (with_name name given) words)
one_part (BitsApart bits) given words is = (one_width bits given words).0
one_part (BitsJoined bits) given words is = (one_width bits given words).1
one_part BestFirst given words is = after Anything (with_best_first given) words

names_read : (names : List (List ℕ)) (given : Given) → list_all is_named names ≡ true → given_from (reading_at Names given) names ≡ with_parts (map Name names) given
names_read [] given named = refl
names_read (name ∷ names) given named =
    let p = both (is_named name) (list_all is_named names) named in
    rw p.0 (after Names (with_name name given) names) ∙ same_then _ _ (with_name name given) (λ h. names_read names h p.1)

gives : (parts : List Part) (last : Option (List (List ℕ))) (given : Given) → list_all is_part parts ≡ true → list_all is_named (names_after last) ≡ true → given_from (reading_at Anything given) (flat_map written parts ++ ended_by last) ≡ with_parts (parts ++ map Name (names_after last)) given
gives [] None given plain named = refl
gives [] (Some names) given plain named = names_read names given named
gives (part ∷ parts) last given plain named =
    let p = both (is_part part) (list_all is_part parts) plain in
    ap (given_from (reading_at Anything given)) (append_assoc (written part) (flat_map written parts) (ended_by last)) ∙ one_part part given _ p.0 ∙ same_then _ _ (with_part part given) (λ h. gives parts last h p.1 named)

-- ---- what is defined is written so

then_some : {A B : Type 0} (f : A → Option B) (o : Option A) (y : B) → option_and_then f o ≡ Some y → (x : A) × (o ≡ Some x) × (f x ≡ Some y)
then_some f None y is = absurd cc
then_some f (Some x) y is = (x, refl, is)

map_some : {A B : Type 0} (f : A → B) (o : Option A) (y : B) → option_map f o ≡ Some y → (x : A) × (o ≡ Some x) × (f x ≡ y)
map_some f None y is = absurd cc
map_some f (Some x) y is = (x, refl, cc)

if_some : {A : Type 0} (b : Bool) (o : Option A) (y : A) → (if b then o else None) ≡ Some y → (b ≡ true) × (o ≡ Some y)
if_some true o y is = (refl, is)
if_some false o y is = absurd cc

or_some : {A B : Type 0} (f : A → Option B) (o : Option A) (other : Option B) (y : B) → option_map_or f o other ≡ Some y → ((x : A) × (o ≡ Some x) × (f x ≡ Some y)) ⊎ (other ≡ Some y)
or_some f None other y is = inr is
or_some f (Some x) other y is = inl (x, refl, is)

more : (part : Part) (words : List (List ℕ)) (before next given : Given) → is_part part ≡ true → with_part part before ≡ Some next → AreGiven next words given → AreGiven before (written part ++ words) given
more part words before next given is adds of =
    record { parts = part ∷ of.parts; last = of.last; words_are = ap (λ (l : List (List ℕ)). written part ++ l) of.words_are ∙ sym (append_assoc (written part) (flat_map written of.parts) (ended_by of.last)); plain = rw is of.plain; named = of.named; given_is = rw adds of.given_is }

-- by what may stand next
abbrev Follow : Place → Given → List (List ℕ) → Given → Type 0
Follow Anything before words given = AreGiven before words given
Follow Width before words given = AreGiven before (codes "--bits" ∷ words) given
Follow Names before words given =
    (list_all is_named words ≡ true) × (with_parts (map Name words) before ≡ Some given)

written_as : (word other : List ℕ) (before : Given) (words : List (List ℕ)) (given : Given) → bytes_eq word other ≡ true → AreGiven before (other ∷ words) given → AreGiven before (word ∷ words) given
written_as word other before words given same of = subst (λ (w : List ℕ). AreGiven before (w ∷ words) given) (sym ((bytes_eq-Decides word other).0 same)) of

found_is : (p : Bits → Bool) (b : Bits) → find p widths ≡ Some b → p b ≡ true
found_is p b is = (both (p b) true (found_keeps p (λ x. true) widths b refl is)).0

-- one word was taken, and left the rest was
module _ (words : List (List ℕ)) (given : Given) (rest : (next : Reading) → given_from next words ≡ Some given → Follow next.place next.given words given) where
  on : (place : Place) (o : Option Given) (next : Reading) → option_map (reading_at place) o ≡ Some next → given_from next words ≡ Some given → (after : Given) × (o ≡ Some after) × Follow place after words given
  on place o next is left =
      let a = map_some (reading_at place) o next is in
      (a.0, a.1, subst (λ (r : Reading). Follow r.place r.given words given) (sym a.2) (rest next left))

  of_width : (word : List ℕ) (before : Given) (next : Reading) → option_and_then (λ bits. option_map (reading_at Anything) (with_bits bits before)) (width_of word) ≡ Some next → given_from next words ≡ Some given → AreGiven before (codes "--bits" ∷ word ∷ words) given
  of_width word before next is left =
      let a = then_some _ (width_of word) next is in
      let b = on Anything (with_bits a.0 before) next a.2 left in
      let same = (bytes_eq-Decides word (width_text a.0)).0 (found_is (λ (x : Bits). bytes_eq word (width_text x)) a.0 a.1) in
      subst (λ (w : List ℕ). AreGiven before (codes "--bits" ∷ w ∷ words) given) (sym same) (more (BitsApart a.0) words before b.0 given refl b.1 b.2)

  of_names : (word : List ℕ) (before : Given) (next : Reading) → (if is_named word then option_map (reading_at Names) (with_name word before) else None) ≡ Some next → given_from next words ≡ Some given → Follow Names before (word ∷ words) given
  of_names word before next is left =
      let a = if_some (is_named word) _ next is in
      let b = on Names (with_name word before) next a.1 left in
      (rw a.0 b.2.0, rw b.1 b.2.1)

  of_other : (word : List ℕ) (before : Given) (next : Reading) → option_map_or (λ bits. option_map (reading_at Anything) (with_bits bits before)) (joined_width_of word) (if is_name word then option_map (reading_at Anything) (with_name word before) else None) ≡ Some next → given_from next words ≡ Some given → AreGiven before (word ∷ words) given
  of_other word before next is left = elim (or_some _ (joined_width_of word) _ next is) [
    | inl a ↦
        let b = on Anything (with_bits a.0 before) next a.2 left in
        written_as word (bits_word a.0) before words given (found_is (λ (x : Bits). bytes_eq word (bits_word x)) a.0 a.1) (more (BitsJoined a.0) words before b.0 given refl b.1 b.2)
    | inr other ↦
        let a = if_some (is_name word) _ next other in
        let b = on Anything (with_name word before) next a.1 left in
        more (Name word) words before b.0 given a.0 b.1 b.2
  ]

  of_first : (word : List ℕ) (before : Given) (next : Reading) → taken_first word before ≡ Some next → given_from next words ≡ Some given → AreGiven before (word ∷ words) given
  of_first word before next is left = elim (cases_Bool (bytes_eq word (codes "--"))) [
    | inl same ↦
        let e : Some (reading_at Names before) ≡ Some next = rw same at is in
        let here : reading_at Names before ≡ next = cc in
        let of = subst (λ (r : Reading). Follow r.place r.given words given) (sym here) (rest next left) in
        written_as word (codes "--") before words given same (record { parts = []; last = Some words; words_are = refl; plain = refl; named = of.0; given_is = of.1 })
    | inr first ↦ elim (cases_Bool (bytes_eq word (codes "--best-first"))) [
      | inl same ↦
          let e : option_map (reading_at Anything) (with_best_first before) ≡ Some next = rw (first, same) at is in
          let b = on Anything (with_best_first before) next e left in
          written_as word (codes "--best-first") before words given same (more BestFirst words before b.0 given refl b.1 b.2)
      | inr second ↦ elim (cases_Bool (bytes_eq word (codes "--bits"))) [
        | inl same ↦
            let e : Some (reading_at Width before) ≡ Some next = rw (first, second, same) at is in
            let here : reading_at Width before ≡ next = cc in
            written_as word (codes "--bits") before words given same (subst (λ (r : Reading). Follow r.place r.given words given) (sym here) (rest next left))
        | inr third ↦ of_other word before next (rw (first, second, third) at is) left
      ]
    ]
  ]

gave : (words : List (List ℕ)) (r : Reading) (given : Given) → given_from r words ≡ Some given → Follow r.place r.given words given
gave [] r given is = by r.place is
  where
    by : (place : Place) → given_at_end place r.given ≡ Some given → Follow place r.given [] given
    by Anything end = record { parts = []; last = None; words_are = refl; plain = refl; named = refl; given_is = end }
    by Width end = absurd cc
    by Names end = (refl, end)
gave (word ∷ words) r given is =
    let a = then_some (λ end. given_at_end end.place end.given) _ given is in
    let b = then_some (λ s. read_on s words) (taken word r) a.0 a.1 in
    let left : given_from b.0 words ≡ Some given = rw b.2 a.2 in
    by (λ s e. gave words s given e) r.place b.0 b.1 left
  where
    by : ((next : Reading) → given_from next words ≡ Some given → Follow next.place next.given words given) → (place : Place) (next : Reading) → taken word (reading_at place r.given) ≡ Some next → given_from next words ≡ Some given → Follow place r.given (word ∷ words) given
    by rest Anything next one left = of_first words given rest word r.given next one left
    by rest Width next one left = of_width words given rest word r.given next one left
    by rest Names next one left = of_names words given rest word r.given next one left

-- ---- the table

asked_in_table : (words : List (List ℕ)) (task : Task) → task_of words ≡ Some task → IsInTable words task
unfolding task_of
asked_in_table [] task is = absurd cc
asked_in_table (word ∷ rest) task is =
    let a = then_some (λ row. option_and_then (λ given. if suits row given then Some (task_with row given) else None) (given_in rest)) (row_for word) task is in
    let b = then_some (λ given. if suits a.0 given then Some (task_with a.0 given) else None) (given_in rest) task a.2 in
    let c = if_some (suits a.0 b.0) (Some (task_with a.0 b.0)) task b.2 in
    let same = c.1 in
    record { word = word; rest = rest; row = a.0; given = b.0; words_are = refl; row_is = a.1; given_is = gave rest (reading_at Anything none_given) b.0 b.1; taken = c.0; task_is = cc }

table_asks : (words : List (List ℕ)) (task : Task) → IsInTable words task → task_of words ≡ Some task
unfolding task_of
table_asks words task in_table =
    let of = in_table.given_is in
    let given = in_table.given in
    let is : given_in in_table.rest ≡ Some given = ap given_in of.words_are ∙ gives of.parts of.last none_given of.plain of.named ∙ of.given_is in
    let asks : option_and_then (λ row. option_and_then (λ given. if suits row given then Some (task_with row given) else None) (given_in in_table.rest)) (row_for in_table.word) ≡ Some task = rw (in_table.row_is, is, in_table.taken) (ap Some (sym in_table.task_is)) in
    ap task_of in_table.words_are ∙ asks

pub table_law : (words : List (List ℕ)) → IsByTable words
table_law words task = (asked_in_table words task, table_asks words task)
