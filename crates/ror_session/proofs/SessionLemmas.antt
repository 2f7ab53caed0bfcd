-- What is read of the lines is the session that they are.
use Rattle.std.proofs.Common.{◌≡◌, ℕ, ◌<◌, ◌≤◌, true, false, List, [], ◌∷◌, ◌++◌, length, map, Ok, Err, refl, sym, ap, subst, ◌∙◌, inl, inr, arith, append_assoc}
use Rattle.std.specs.List.{AllZip}
use Rattle.std.proofs.lemmas.Bool.{cases_Bool, leb-true, leb-false, le-leb, lt-leb}
use Rattle.std.proofs.lemmas.List.{append-nil, length-append}
use Rattle.std.proofs.Math.Dec.{leb}
use Rattle.ror_text.specs.Reading.{refuse, read_all}
use Rattle.ror_text.proofs.ReadingLemmas.{bind_ok, bind_err, bind-at_ok, refuse_ok, refuse_err}
use Rattle.ror_session.specs.declared.limits.TheConstants.{MOST_DESKS}
use Rattle.ror_session.specs.declared.reading.Said.{Said}
use Rattle.ror_session.specs.declared.session.Session.{Session}
use Rattle.ror_session.specs.declared.session.Line.{Line}
use Rattle.ror_session.specs.declared.session.SessionFault.{SessionFault}
use Rattle.ror_session.specs.declared.session.SessionFault.TheVariants.{TooManyDesks}
use Rattle.ror_session.specs.Desks.{place_of}
use Rattle.ror_session.specs.Grammar.{LineWords, Says, placed, IsSession}
use Rattle.ror_session.specs.Session.{said_of, seat, add_said, add_line, empty_session}
use Rattle.ror_session.proofs.DeskLemmas.{has_desk, with_desk, desks_after, desks_after-none, place_kept, place_new, find_hit, find_miss, after_length}
use Rattle.ror_session.proofs.SaidLemmas.{said_of-sound, said_of-again}

abbrev pub session_with : List (List ℕ) → List Line → Session
session_with desks lines = record { desks = desks; lines = lines }

abbrev line_with : Said → ℕ → Line
line_with said desk = record { number = said.number; desk = desk; command = said.command }

abbrev pub desks_of : List Said → List (List ℕ)
desks_of said = map (λ (line : Said). line.desk) said

-- the session, and what one line more says
abbrev added : Session → Said → Session
added s said = session_with (with_desk s.desks said.desk) (s.lines ++ line_with said (place_of s.desks said.desk) ∷ [])

-- the session, and what more lines say
abbrev session_after : Session → List Said → Session
session_after s said = session_with (desks_after s.desks (desks_of said)) (s.lines ++ map (placed (desks_after s.desks (desks_of said))) said)

-- ---- one line

seat-ok : (line : ℕ) (desks : List (List ℕ)) (name : List ℕ) (r : ℕ × List (List ℕ)) → length desks ≤ MOST_DESKS → seat line desks name ≡ Ok r → (length (with_desk desks name) ≤ MOST_DESKS) × (r ≡ (place_of desks name, with_desk desks name))
unfolding seat
seat-ok line desks name r few e = elim (cases_Bool (has_desk desks name)) [
  | inl hit ↦
      let same : (place_of desks name, desks) ≡ r = let h = rw (find_hit desks name hit) at e in cc in
      (rw hit few, rw hit (sym same))
  | inr miss ↦
      let b = bind_ok (refuse (TooManyDesks line) (leb MOST_DESKS (length desks))) _ r (rw (find_miss desks name miss) at e) in
      let below : length desks < MOST_DESKS = leb-false MOST_DESKS (length desks) (refuse_ok (TooManyDesks line) (leb MOST_DESKS (length desks)) b.0 b.1) in
      let same : (length desks, desks ++ name ∷ []) ≡ r = let h = b.2 in cc in
      (rw miss (omega (arith, below, length-append desks (name ∷ []))), rw (miss, place_new desks name miss) (sym same))
]

seat-few : (line : ℕ) (desks : List (List ℕ)) (name : List ℕ) → length (with_desk desks name) ≤ MOST_DESKS → seat line desks name ≡ Ok (place_of desks name, with_desk desks name)
unfolding seat
seat-few line desks name few = elim (cases_Bool (has_desk desks name)) [
  | inl hit ↦ rw (find_hit desks name hit, hit) refl
  | inr miss ↦
      let fits : length (desks ++ name ∷ []) ≤ MOST_DESKS = rw miss at few in
      let room : leb MOST_DESKS (length desks) ≡ false = lt-leb MOST_DESKS (length desks) (omega (arith, fits, length-append desks (name ∷ []))) in
      rw (find_miss desks name miss, room, miss, place_new desks name miss) refl
]

seat-full : (line : ℕ) (desks : List (List ℕ)) (name : List ℕ) → has_desk desks name ≡ false → MOST_DESKS ≤ length desks → seat line desks name ≡ Err (TooManyDesks line)
unfolding seat
seat-full line desks name miss full =
    let none : leb MOST_DESKS (length desks) ≡ true = le-leb MOST_DESKS (length desks) full in
    rw (find_miss desks name miss, none) refl

seat-err : (line : ℕ) (desks : List (List ℕ)) (name : List ℕ) (fault : SessionFault) → seat line desks name ≡ Err fault → (has_desk desks name ≡ false) × (MOST_DESKS ≤ length desks) × (fault ≡ TooManyDesks line)
unfolding seat
seat-err line desks name fault e = elim (cases_Bool (has_desk desks name)) [
  | inl hit ↦ absurd (let h = rw (find_hit desks name hit) at e in cc)
  | inr miss ↦ elim (bind_err (refuse (TooManyDesks line) (leb MOST_DESKS (length desks))) _ fault (rw (find_miss desks name miss) at e)) [
    | inl here ↦
        let full = refuse_err (TooManyDesks line) fault (leb MOST_DESKS (length desks)) here in
        (miss, leb-true MOST_DESKS (length desks) full.0, full.1)
    | inr later ↦ absurd (let h = later.2 in cc)
  ]
]

add_said-ok : (s : Session) (said : Said) (t : Session) → length s.desks ≤ MOST_DESKS → add_said s said ≡ Ok t → (length (with_desk s.desks said.desk) ≤ MOST_DESKS) × (t ≡ added s said)
unfolding add_said
add_said-ok s said t few e =
    let b = bind_ok (seat said.number s.desks said.desk) _ t e in
    let k = seat-ok said.number s.desks said.desk b.0 few b.1 in
    let same : session_with b.0.1 (s.lines ++ line_with said b.0.0 ∷ []) ≡ t = let h = b.2 in cc in
    (k.0, sym same ∙ ap (λ (p : ℕ × List (List ℕ)). session_with p.1 (s.lines ++ line_with said p.0 ∷ [])) k.1)

add_said-few : (s : Session) (said : Said) → length (with_desk s.desks said.desk) ≤ MOST_DESKS → add_said s said ≡ Ok (added s said)
unfolding add_said
add_said-few s said few = rw (seat-few said.number s.desks said.desk few) refl

pub add_said-full : (s : Session) (said : Said) → has_desk s.desks said.desk ≡ false → MOST_DESKS ≤ length s.desks → add_said s said ≡ Err (TooManyDesks said.number)
unfolding add_said
add_said-full s said miss full = rw (seat-full said.number s.desks said.desk miss full) refl

pub add_said-err : (s : Session) (said : Said) (fault : SessionFault) → add_said s said ≡ Err fault → (has_desk s.desks said.desk ≡ false) × (MOST_DESKS ≤ length s.desks) × (fault ≡ TooManyDesks said.number)
unfolding add_said
add_said-err s said fault e = elim (bind_err (seat said.number s.desks said.desk) _ fault e) [
  | inl here ↦ seat-err said.number s.desks said.desk fault here
  | inr later ↦ absurd (let h = later.2 in cc)
]

after_one : (s : Session) (said : Said) (more : List Said) → session_after (added s said) more ≡ session_after s (said ∷ more)
after_one s said more =
    let desks : List (List ℕ) = desks_after s.desks (desks_of (said ∷ more)) in
    let rest : List Line = map (placed desks) more in
    ap (λ (ls : List Line). session_with desks ls) (append_assoc s.lines (line_with said (place_of s.desks said.desk) ∷ []) rest ∙ ap (λ (n : ℕ). s.lines ++ line_with said n ∷ rest) (sym (place_kept s.desks (desks_of more) said.desk)))

-- ---- the lines in order

read-sound : (numbered : List (ℕ × LineWords)) (s t : Session) → length s.desks ≤ MOST_DESKS → read_all add_line s numbered ≡ Ok t → (said : List Said) × AllZip Says numbered said × (t ≡ session_after s said) × (length t.desks ≤ MOST_DESKS)
read-sound [] s t few e =
    let same : s ≡ t = cc in
    ([], tt, sym same ∙ ap (session_with s.desks) (sym (append-nil s.lines)), subst (λ (x : Session). length x.desks ≤ MOST_DESKS) same few)
read-sound (first ∷ more) s t few e =
    let step = bind_ok (add_line s first) (λ next. read_all add_line next more) t e in
    let line = bind_ok (said_of first.0 first.1) (λ x. add_said s x) step.0 step.1 in
    let one = add_said-ok s line.0 step.0 few line.2 in
    let still = subst (λ (x : Session). length x.desks ≤ MOST_DESKS) (sym one.1) one.0 in
    let rest = read-sound more step.0 t still step.2 in
    (line.0 ∷ rest.0, (said_of-sound first.0 first.1 line.0 line.1, rest.1), rest.2 ∙ ap (λ (x : Session). session_after x rest.0) one.1 ∙ after_one s line.0 rest.0, rest.3)

read-again : (numbered : List (ℕ × LineWords)) (said : List Said) (s : Session) → AllZip Says numbered said → length (desks_after s.desks (desks_of said)) ≤ MOST_DESKS → read_all add_line s numbered ≡ Ok (session_after s said)
read-again [] [] s h few = ap (λ (ls : List Line). Ok (session_with s.desks ls)) (sym (append-nil s.lines))
read-again [] (x ∷ said) s h few = absurd h
read-again (first ∷ more) [] s h few = absurd h
read-again (first ∷ more) (x ∷ said) s h few =
    let now : length (with_desk s.desks x.desk) ≤ MOST_DESKS = omega (arith, after_length (with_desk s.desks x.desk) (desks_of said), few) in
    let one : add_line s first ≡ Ok (added s x) = bind-at_ok (said_of first.0 first.1) (λ y. add_said s y) x (said_of-again first.0 first.1 x h.0) ∙ add_said-few s x now in
    bind-at_ok (add_line s first) (λ next. read_all add_line next more) (added s x) one ∙ read-again more said (added s x) h.1 few ∙ ap Ok (after_one s x said)

-- ---- the session of all lines

pub to_session : (numbered : List (ℕ × LineWords)) (session : Session) → read_all add_line empty_session numbered ≡ Ok session → IsSession numbered session
to_session numbered session e =
    let r = read-sound numbered empty_session session (omega arith) e in
    let desks : session.desks ≡ desks_after [] (desks_of r.0) = ap (λ (s : Session). s.desks) r.2 in
    record {
      said = r.0;
      says = r.1;
      desks = desks ∙ desks_after-none (desks_of r.0);
      few_desks = r.3;
      lines = ap (λ (s : Session). s.lines) r.2 ∙ ap (λ (ds : List (List ℕ)). map (placed ds) r.0) (sym desks);
    }

pub from_session : (numbered : List (ℕ × LineWords)) (session : Session) → IsSession numbered session → read_all add_line empty_session numbered ≡ Ok session
from_session numbered session h =
    let desks : desks_after [] (desks_of h.said) ≡ session.desks = desks_after-none (desks_of h.said) ∙ sym h.desks in
    let few = subst (λ (ds : List (List ℕ)). length ds ≤ MOST_DESKS) (sym desks) h.few_desks in
    read-again numbered h.said empty_session h.says few ∙ ap (λ (ds : List (List ℕ)). Ok (session_with ds (map (placed ds) h.said))) desks ∙ ap (λ (ls : List Line). Ok (session_with session.desks ls)) (sym h.lines)
