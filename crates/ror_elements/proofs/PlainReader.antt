-- The reader without its test for control bytes, and with names, ids and texts as they were gathered.
use Rattle.std.proofs.Common.{◌≡◌, ℕ, Bool, true, false, not, List, [], ◌∷◌, ◌++◌, append_assoc, append-nil, Result, Ok, Err, refl, sym, ap, subst, ◌∙◌, inl, inr}
use Rattle.std.specs.Prelude.{IfOk, ◌==◌, if◌then◌else◌}
use Rattle.std.specs.List.{AllByRecursion}
use Rattle.std.specs.Str.{IsUtf8, is_utf8, bytes_eq}
use Rattle.std.proofs.lemmas.Bool.{cases_Bool, not-false}
use Rattle.std.proofs.lemmas.Str.{IsUtf8-from_is_utf8}
use Rattle.ror_text.specs.Reading.{◌>>=◌, refuse, read_all}
use Rattle.ror_text.proofs.ReadingLemmas.{bind_ok, refuse_ok}
use Rattle.ror_elements.specs.declared.element.ElementFault.{ElementFault}
use Rattle.ror_elements.specs.declared.element.ElementKind.TheVariants as kinds
use Rattle.ror_elements.specs.declared.mode.Mode.{Mode}
use Rattle.ror_elements.specs.declared.mode.Mode.TheVariants as modes
use Rattle.ror_elements.specs.declared.open.Open.{Open}
use Rattle.ror_elements.specs.declared.reader.Reader.{Reader}
use Rattle.ror_elements.specs.Elements.{act_in, act, line_after, read, finish, elements_of, refuse_bad_utf8, without_mark}
use Rattle.ror_elements.specs.Faults.{fault}
use Rattle.ror_elements.specs.Laws.{as_gathered}
use Rattle.ror_elements.specs.Marks.{is_white, is_control, is_name_byte}
use Rattle.ror_elements.specs.Open.{finished, is_none}
use Rattle.ror_elements.specs.Reader.{nothing_read, bad, empty_tag}
use Rattle.ror_elements.specs.Tags.{opened, is_bad_root, open_element, close_in, close, after_end_name, in_end_name, in_empty_tag}
use Rattle.ror_elements.specs.Tree.{Tree}
use Rattle.ror_elements.proofs.LawLemmas.{closing-gathered, without_mark-IsUtf8, past_utf8}
use Rattle.ror_elements.proofs.TextLemmas.{IsNamed, AtMode, IsGathered, read-kept, nothing-kept}

-- ---- the definitions

-- the element around one that closes
abbrev pub around_closed : Open → Open → Open
around_closed element around =
    if element.kept then record around { children = around.children ++ as_gathered element ∷ [] } else around

abbrev pub plain_close_in : Reader → List Open → Result Reader ElementFault
plain_close_in r [] = Err (bad r)
plain_close_in r (around ∷ outer) = Ok (record r { mode = modes.Content; top = around_closed r.top around; below = outer })

abbrev pub plain_close : Reader → Result Reader ElementFault
plain_close r = plain_close_in r r.below

unfoldable pub plain_after_end_name : Reader → ℕ → Result Reader ElementFault
plain_after_end_name r byte = if is_white byte then Ok (record r { mode = modes.AfterEndName }) else (do
  _ ← refuse (bad r) (not (byte == 62))
  plain_close r)

unfoldable pub plain_in_end_name : Reader → ℕ → Result Reader ElementFault
plain_in_end_name r byte = if is_name_byte byte then Ok (record r { piece = r.piece ++ byte ∷ [] }) else (do
  _ ← refuse (bad r) (is_none r.piece)
  _ ← refuse (fault kinds.Mismatched r.start) (not (bytes_eq r.piece r.top.name))
  plain_after_end_name r byte)

unfoldable pub plain_in_empty_tag : Reader → ℕ → Result Reader ElementFault
plain_in_empty_tag r byte = do
  _ ← refuse (bad r) (not (byte == 62))
  inside ← open_element r
  plain_close inside

abbrev pub plain_act_in : Mode → Reader → ℕ → Result Reader ElementFault
plain_act_in modes.EndName r byte = plain_in_end_name r byte
plain_act_in modes.AfterEndName r byte = plain_after_end_name r byte
plain_act_in modes.EmptyTag r byte = plain_in_empty_tag r byte
plain_act_in mode r byte = act_in mode r byte

unfoldable pub plain : Reader → ℕ → Result Reader ElementFault
plain r byte = plain_act_in r.mode r byte >>= λ next. Ok (record next { line = line_after r.line byte })

unfoldable pub run : Reader → List ℕ → Result Reader ElementFault
run r bytes = read_all plain r bytes

-- ---- that it reads the same

-- what closes is the same as it was gathered
abbrev Same : Open → Type 0
Same element = element.kept ≡ true → finished element ≡ as_gathered element

same_if : {A : Type 0} (test : Bool) (x y z : A) → (test ≡ true → x ≡ y) → (if test then x else z) ≡ (if test then y else z)
same_if true x y z h = h refl
same_if false x y z h = refl

same_around : (element around : Open) → Same element → (if element.kept then record around { children = around.children ++ finished element ∷ [] } else around) ≡ around_closed element around
same_around element around h = same_if element.kept _ _ around (λ kept. ap (λ (t : Tree). record around { children = around.children ++ t ∷ [] }) (h kept))

same_close_in : (r : Reader) (below : List Open) → Same r.top → close_in r below ≡ plain_close_in r below
same_close_in r [] h = refl
same_close_in r (around ∷ outer) h = ap (λ (top : Open). Ok (record r { mode = modes.Content; top = top; below = outer })) (same_around r.top around h)

bind_same : {A B F : Type 0} (r : Result A F) (f g : A → Result B F) → ((x : A) → r ≡ Ok x → f x ≡ g x) → (r >>= f) ≡ (r >>= g)
bind_same (Ok x) f g h = h x refl
bind_same (Err fault) f g h = refl

same_after_end_name : (r : Reader) (byte : ℕ) → Same r.top → after_end_name r byte ≡ plain_after_end_name r byte
unfolding after_end_name plain_after_end_name close
same_after_end_name r byte h = elim (cases_Bool (is_white byte)) [
  | inl white ↦ rw white refl
  | inr dark ↦ rw dark (bind_same (refuse (bad r) (not (byte == 62))) _ _ (λ _ _. same_close_in r r.below h))
]

same_in_end_name : (r : Reader) (byte : ℕ) → Same r.top → in_end_name r byte ≡ plain_in_end_name r byte
unfolding in_end_name plain_in_end_name
same_in_end_name r byte h = elim (cases_Bool (is_name_byte byte)) [
  | inl named ↦ rw named refl
  | inr other ↦ rw other (bind_same (refuse (bad r) (is_none r.piece)) _ _ (λ _ _. bind_same (refuse (fault kinds.Mismatched r.start) (not (bytes_eq r.piece r.top.name))) _ _ (λ _ _. same_after_end_name r byte h)))
]

same_in_empty_tag : (r : Reader) (byte : ℕ) → Same (opened r) → in_empty_tag r byte ≡ plain_in_empty_tag r byte
unfolding in_empty_tag plain_in_empty_tag close open_element
same_in_empty_tag r byte h =
    bind_same (refuse (bad r) (not (byte == 62))) _ _ (λ _ _. tested (refuse (fault kinds.Form r.start) (is_bad_root r)))
  where
    inside : Reader
    inside = record r { mode = modes.Content; top = opened r; below = r.top ∷ r.below; tag = empty_tag }

    tested : (test : Result (Unit {0}) ElementFault) → ((test >>= λ _. Ok inside) >>= λ r. close_in r r.below) ≡ ((test >>= λ _. Ok inside) >>= λ r. plain_close_in r r.below)
    tested (Ok x) = same_close_in inside (r.top ∷ r.below) h
    tested (Err f) = refl

same_act : (p : List ℕ) (mode : Mode) (r : Reader) (byte : ℕ) → IsNamed r.top → AtMode p mode r.top r.tag r.piece → act_in mode r byte ≡ plain_act_in mode r byte
same_act p modes.EndName r byte named h = same_in_end_name r byte (closing-gathered p modes.EndName r named h)
same_act p modes.AfterEndName r byte named h = same_after_end_name r byte (closing-gathered p modes.AfterEndName r named h)
same_act p modes.EmptyTag r byte named h = same_in_empty_tag r byte (closing-gathered p modes.EmptyTag r named h)
same_act p _ r byte named h = refl

-- a byte is read the same
same_read : (p : List ℕ) (r : Reader) (byte : ℕ) → IsGathered p r → is_control byte ≡ false → read r byte ≡ plain r byte
unfolding read act plain
same_read p r byte s clean = rw clean (ap (λ (acted : Result Reader ElementFault). acted >>= λ next. Ok (record next { line = line_after r.line byte })) (same_act p r.mode r byte s.top s.here))

abbrev pub IsClean : List ℕ → Type 0
IsClean bytes = AllByRecursion (λ byte. is_control byte ≡ false) bytes

-- bytes of which the first are read
pub same_part : (p bytes rest : List ℕ) (r : Reader) → IsUtf8 (p ++ (bytes ++ rest)) → IsGathered p r → IsClean bytes → read_all read r bytes ≡ read_all plain r bytes
same_part p [] rest r u s clean = refl
same_part p (byte ∷ bytes) rest r u s clean =
    bind_same (read r byte) (λ next. read_all read next bytes) (λ next. read_all plain next bytes) (λ next e.
    let gathered : IsGathered (p ++ byte ∷ []) next = subst (λ result. IfOk result (IsGathered (p ++ byte ∷ []))) e (read-kept p (bytes ++ rest) r byte u s) in
    same_part (p ++ byte ∷ []) bytes rest next (subst (λ (xs : List ℕ). IsUtf8 xs) (sym (append_assoc p (byte ∷ []) (bytes ++ rest))) u) gathered clean.1)
    ∙ ap (λ acted. acted >>= λ next. read_all plain next bytes) (same_read p r byte s clean.0)

pub same_run : (p bytes : List ℕ) (r : Reader) → IsUtf8 (p ++ bytes) → IsGathered p r → IsClean bytes → read_all read r bytes ≡ read_all plain r bytes
same_run p bytes r u s clean = same_part p bytes [] r (subst (λ (xs : List ℕ). IsUtf8 (p ++ xs)) (sym (append-nil bytes)) u) s clean

control_free : (r next : Reader) (byte : ℕ) → read r byte ≡ Ok next → is_control byte ≡ false
unfolding read
control_free r next byte e = let tested = bind_ok (refuse _ (is_control byte)) _ next e in refuse_ok _ (is_control byte) tested.0 tested.1

-- what is read holds no control byte
pub read-clean : (bytes : List ℕ) (r last : Reader) → read_all read r bytes ≡ Ok last → IsClean bytes
read-clean [] r last e = tt
read-clean (byte ∷ bytes) r last e =
    let first = bind_ok (read r byte) (λ next. read_all read next bytes) last e in
    (control_free r first.0 byte first.1, read-clean bytes first.0 last first.2)

-- ---- of a whole text

pub from_plain : (bytes : List ℕ) (root : Tree) → IsUtf8 bytes → IsClean (without_mark bytes) → (run nothing_read (without_mark bytes) >>= finish) ≡ Ok root → elements_of bytes ≡ Ok root
unfolding run
from_plain bytes root u clean e =
    past_utf8 bytes u ∙ ap (λ reading. reading >>= finish) (same_run [] (without_mark bytes) nothing_read (without_mark-IsUtf8 bytes u) nothing-kept clean) ∙ e

-- what is known of a text that is read
pub record IsRead (bytes : List ℕ) (root : Tree) : Type 0 where
  pub utf8 : IsUtf8 bytes
  pub clean : IsClean (without_mark bytes)
  pub reads : (run nothing_read (without_mark bytes) >>= finish) ≡ Ok root

pub to_plain : (bytes : List ℕ) (root : Tree) → elements_of bytes ≡ Ok root → IsRead bytes root
unfolding elements_of run
to_plain bytes root e =
    let tested = bind_ok (refuse_bad_utf8 bytes) (λ _. read_all read nothing_read (without_mark bytes) >>= finish) root e in
    let u = IsUtf8-from_is_utf8 bytes (not-false (is_utf8 bytes) (refuse_ok _ (not (is_utf8 bytes)) tested.0 tested.1)) in
    let all = bind_ok (read_all read nothing_read (without_mark bytes)) finish root tested.2 in
    let clean = read-clean (without_mark bytes) nothing_read all.0 all.1 in
    record {
      utf8 = u;
      clean = clean;
      reads = ap (λ reading. reading >>= finish) (sym (same_run [] (without_mark bytes) nothing_read (without_mark-IsUtf8 bytes u) nothing-kept clean)) ∙ tested.2;
    }
