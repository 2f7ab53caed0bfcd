-- What became of the lines of a desk: taken back, refused, or asked of nothing.
use Rattle.std.proofs.Common.{◌≡◌, ℕ, zero, suc, ◌+◌, ◌-◌, Bool, true, false, ◌&&◌, List, [], ◌∷◌, ◌++◌, Option, Some, None, refl, ap, sym, subst, ◌∙◌, arith, length, map, take, Contains, fold, option_to_list, inl, inr}
use Rattle.std.specs.Prelude.{◌⊎◌, ◌==◌, slice_get, if◌then◌else◌}
use Rattle.std.proofs.lemmas.Bool.{eqb-true, eq-eqb}
use Rattle.std.proofs.lemmas.List.Elements.{Contains-append_left, Contains-append_right, Contains-append_cases}
use Rattle.ror_report.specs.declared.block.Body.{Body}
use Rattle.ror_report.specs.declared.block.Body.TheVariants.{Added, Withdrawn, Replaced, Undone, Repaired, RepairWide, Answers, Refused}
use Rattle.ror_proof.specs.declared.answer.Answer.{Answer}
use Rattle.ror_show_find_roll.specs.declared.roll.RefusedLine.{RefusedLine}
use Rattle.ror_show_find_roll.specs.declared.roll.TakenBack.{TakenBack}
use Rattle.ror_show_find_roll.specs.declared.survivor.Survivor.{Survivor}
use Rattle.ror_show_find_roll.specs.Turns.{Turn}
use Rattle.ror_show_find_roll.specs.Roll.{last_of, left_with, left_after, survivors_with, survivors, taken_by, taken_back, asked_by, asked_of_nothing, refused_by, refused}
use Rattle.ror_show_find_roll.specs.Became.{IsTakenBack, TakenBackAreThose, revises, EachSurvivesOrIsTakenBack, IsRefusedLine, RefusedAreThose, IsAskedOfNothing, AskedOfNothingAreThose}
use Rattle.ror_show_find_roll.proofs.Elements.{many, many-count, many-append, nothing-in, only-in, one-in, last-apart}

-- ---- what each line adds, by what survives before it

module _ {X : Type 0} (opening : ℕ) (piece : List Survivor → Turn → List X) where
  abbrev traced : List Survivor → List Turn → List X
  traced list [] = []
  traced list (turn ∷ turns) = piece list turn ++ traced (survivors_with opening list turn) turns

  record Traced (list : List Survivor) (turns : List Turn) (x : X) : Type 0 where
    pub before : ℕ
    pub line : Turn
    pub there : slice_get turns before ≡ Some line
    pub inside : Contains (piece (fold (survivors_with opening) list (take before turns)) line) x

  trace_found : (list : List Survivor) (turns : List Turn) (x : X) → Contains (traced list turns) x → Traced list turns x
  trace_found list [] x there = absurd (nothing-in x there)
  trace_found list (turn ∷ turns) x there = by (Contains-append_cases (piece list turn) (traced (survivors_with opening list turn) turns) x there) (trace_found (survivors_with opening list turn) turns x)
    where
      by : Contains (piece list turn) x ⊎ Contains (traced (survivors_with opening list turn) turns) x → (Contains (traced (survivors_with opening list turn) turns) x → Traced (survivors_with opening list turn) turns x) → Traced list (turn ∷ turns) x
      by (inl here) more = record { before = 0; line = turn; there = refl; inside = here }
      by (inr later) more = (let is = more later in record { before = suc is.before; line = is.line; there = is.there; inside = is.inside })

  trace_put : (list : List Survivor) (turns : List Turn) (x : X) (before : ℕ) (line : Turn) → slice_get turns before ≡ Some line → Contains (piece (fold (survivors_with opening) list (take before turns)) line) x → Contains (traced list turns) x
  trace_put list [] x before line there inside = absurd cc
  trace_put list (turn ∷ turns) x zero line there inside =
      let same : turn ≡ line = cc in
      Contains-append_left (piece list turn) (traced (survivors_with opening list turn) turns) x (subst (λ (l : Turn). Contains (piece list l) x) (sym same) inside)
  trace_put list (turn ∷ turns) x (suc before) line there inside =
      Contains-append_right (piece list turn) (traced (survivors_with opening list turn) turns) x (trace_put (survivors_with opening list turn) turns x before line there inside)

-- ---- taken back

abbrev taken_at : List Survivor → Turn → List TakenBack
taken_at list turn = taken_by list turn.place turn.body

taken_traced : (opening : ℕ) (list : List Survivor) (turns : List Turn) → taken_back opening list turns ≡ traced opening taken_at list turns
taken_traced opening list [] = refl
taken_traced opening list (turn ∷ turns) = ap (λ (xs : List TakenBack). taken_at list turn ++ xs) (taken_traced opening (survivors_with opening list turn) turns)

-- an undo takes back the last one
record TakenOne (list : List Survivor) (place : ℕ) (body : Body) (x : TakenBack) : Type 0 where
  pub line : Survivor
  pub undoes : body ≡ Undone
  pub named : place ≡ x.by
  pub last : last_of list ≡ Some line
  pub said : line.step.place ≡ x.taken

last_taken : (list : List Survivor) (place : ℕ) (o : Option Survivor) (x : TakenBack) → last_of list ≡ o → Contains (map (λ (y : Survivor). record { taken = y.step.place; by = place }) (option_to_list o)) x → TakenOne list place Undone x
last_taken list place None x is there = absurd (nothing-in x there)
last_taken list place (Some line) x is there =
    subst (TakenOne list place Undone) (only-in x (record { taken = line.step.place; by = place }) there) (record { line = line; undoes = refl; named = refl; last = is; said = refl })

one_found : (list : List Survivor) (place : ℕ) (body : Body) (x : TakenBack) → Contains (taken_by list place body) x → TakenOne list place body x
one_found list place Undone x there = last_taken list place (last_of list) x refl there
one_found list place (Added n) x there = absurd (nothing-in x there)
one_found list place (Withdrawn n) x there = absurd (nothing-in x there)
one_found list place (Replaced n) x there = absurd (nothing-in x there)
one_found list place (Repaired k) x there = absurd (nothing-in x there)
one_found list place (RepairWide n note) x there = absurd (nothing-in x there)
one_found list place (Answers xs) x there = absurd (nothing-in x there)
one_found list place (Refused fault) x there = absurd (nothing-in x there)

one_put : (list : List Survivor) (place : ℕ) (body : Body) (x : TakenBack) (line : Survivor) → body ≡ Undone → place ≡ x.by → last_of list ≡ Some line → line.step.place ≡ x.taken → Contains (taken_by list place body) x
one_put list place body x line undoes named last said =
    let here : taken_by list place body ≡ x ∷ [] =
    ap (taken_by list place) undoes
    ∙ ap (λ (o : Option Survivor). map (λ (y : Survivor). record { taken = y.step.place; by = place }) (option_to_list o)) last
    ∙ ap (λ (p : ℕ). record { taken = p; by = place } ∷ []) said
    ∙ ap (λ (p : ℕ). record { taken = x.taken; by = p } ∷ []) named in
    subst (λ (xs : List TakenBack). Contains xs x) (sym here) (one-in x)

pub taken_back_those : TakenBackAreThose
taken_back_those opening turns x = (to, from)
  where
    to : Contains (taken_back opening [] turns) x → IsTakenBack opening turns x
    to inside =
        let is = trace_found opening taken_at [] turns x (subst (λ (xs : List TakenBack). Contains xs x) (taken_traced opening [] turns) inside) in
        let one = one_found (survivors opening (take is.before turns)) is.line.place is.line.body x is.inside in
        record { before = is.before; undo = is.line; line = one.line; there = is.there; undoes = one.undoes; named = one.named; last = one.last; said = one.said }

    from : IsTakenBack opening turns x → Contains (taken_back opening [] turns) x
    from is = subst (λ (xs : List TakenBack). Contains xs x) (sym (taken_traced opening [] turns))
        (trace_put opening taken_at [] turns x is.before is.undo is.there
        (one_put (survivors opening (take is.before turns)) is.undo.place is.undo.body x is.line is.undoes is.named is.last is.said))

-- ---- each line that revises survives or is taken back

module _ (opening place : ℕ) where
  abbrev at : Survivor → Bool
  at x = x.step.place == place

  abbrev taken : TakenBack → Bool
  taken x = x.taken == place

  abbrev revised_at : Turn → Bool
  revised_at turn = turn.place == place && revises turn.body

  abbrev Kept : List Survivor → Turn → Type 0
  Kept list turn = many at (survivors_with opening list turn) + many taken (taken_at list turn) ≡ many at list + many revised_at (turn ∷ [])

  one_more : (list : List Survivor) (turn : Turn) (left : ℕ) → many at (list ++ record { step = turn; left = left } ∷ []) ≡ many at list + (if turn.place == place then 1 else 0)
  one_more list turn left = many-append at list (record { step = turn; left = left } ∷ []) ∙ by (turn.place == place) refl
    where
      by : (b : Bool) → (turn.place == place) ≡ b → many at list + many at (record { step = turn; left = left } ∷ []) ≡ many at list + (if b then 1 else 0)
      by true is = rw is refl
      by false is = rw is refl

  counted_once : (turn : Turn) (b : Bool) → revises turn.body ≡ b → many revised_at (turn ∷ []) ≡ (if turn.place == place then (if b then 1 else 0) else 0)
  counted_once turn b is = by (turn.place == place) refl b is
    where
      by : (a : Bool) → (turn.place == place) ≡ a → (c : Bool) → revises turn.body ≡ c → many revised_at (turn ∷ []) ≡ (if a then (if c then 1 else 0) else 0)
      by true same true yes_ = rw same (rw yes_ refl)
      by true same false no_ = rw same (rw no_ refl)
      by false same true yes_ = rw same refl
      by false same false no_ = rw same refl

  none_counted : (turn : Turn) → revises turn.body ≡ false → many revised_at (turn ∷ []) ≡ 0
  none_counted turn is = counted_once turn false is ∙ by (turn.place == place)
    where
      by : (a : Bool) → ◌≡◌ {A = ℕ} (if a then 0 else 0) 0
      by true = refl
      by false = refl

  last_counted : (list : List Survivor) (k : ℕ) (o : Option Survivor) → many taken (map (λ (y : Survivor). record { taken = y.step.place; by = k }) (option_to_list o)) ≡ many at (option_to_list o)
  last_counted list k None = refl
  last_counted list k (Some line) = by (line.step.place == place) refl
    where
      by : (b : Bool) → (line.step.place == place) ≡ b → many taken (record { taken = line.step.place; by = k } ∷ []) ≡ many at (line ∷ [])
      by true is = rw is refl
      by false is = rw is refl

  undone_kept : (list : List Survivor) (k : ℕ) → many at (take (length list - 1) list) + many taken (taken_by list k Undone) ≡ many at list
  undone_kept list k =
      let parts = many-append at (take (length list - 1) list) (option_to_list (last_of list)) in
      let all = ap (λ (xs : List Survivor). many at xs) (last-apart list) in
      let last = last_counted list k (last_of list) in
      omega (arith, parts, all, last)

  kept : (list : List Survivor) (p : ℕ) (body : Body) → Kept list (record { place = p; body = body })
  kept list p (Added n) = (let turn : Turn = record { place = p; body = Added n } in let more = one_more list turn (left_with (left_after opening list) (Added n)) in let once = counted_once turn true refl in omega (arith, more, once))
  kept list p (Withdrawn n) = (let turn : Turn = record { place = p; body = Withdrawn n } in let more = one_more list turn (left_with (left_after opening list) (Withdrawn n)) in let once = counted_once turn true refl in omega (arith, more, once))
  kept list p (Replaced n) = (let turn : Turn = record { place = p; body = Replaced n } in let more = one_more list turn (left_with (left_after opening list) (Replaced n)) in let once = counted_once turn true refl in omega (arith, more, once))
  kept list p (Repaired k) = (let turn : Turn = record { place = p; body = Repaired k } in let more = one_more list turn (left_with (left_after opening list) (Repaired k)) in let once = counted_once turn true refl in omega (arith, more, once))
  kept list p Undone = (let turn : Turn = record { place = p; body = Undone } in let same = undone_kept list p in let none = none_counted turn refl in omega (arith, same, none))
  kept list p (RepairWide n note) = (let turn : Turn = record { place = p; body = RepairWide n note } in let none = none_counted turn refl in omega (arith, none))
  kept list p (Answers xs) = (let turn : Turn = record { place = p; body = Answers xs } in let none = none_counted turn refl in omega (arith, none))
  kept list p (Refused fault) = (let turn : Turn = record { place = p; body = Refused fault } in let none = none_counted turn refl in omega (arith, none))

  all_kept : (list : List Survivor) (turns : List Turn) → many at (fold (survivors_with opening) list turns) + many taken (taken_back opening list turns) ≡ many at list + many revised_at turns
  all_kept list [] = omega arith
  all_kept list (turn ∷ turns) =
      let rest = all_kept (survivors_with opening list turn) turns in
      let here = kept list turn.place turn.body in
      let back = many-append taken (taken_at list turn) (taken_back opening (survivors_with opening list turn) turns) in
      let lines = many-append revised_at (turn ∷ []) turns in
      omega (arith, rest, here, back, lines)

pub each_line_once : EachSurvivesOrIsTakenBack
each_line_once opening turns place =
    let all = all_kept opening place [] turns in
    let lines = many-count (at opening place) (survivors opening turns) in
    let back = many-count (taken opening place) (taken_back opening [] turns) in
    let revised = many-count (revised_at opening place) turns in
    omega (arith, all, lines, back, revised)

-- ---- refused

abbrev refused_at : List Survivor → Turn → List RefusedLine
refused_at list turn = refused_by turn.place turn.body

refused_traced : (list : List Survivor) (turns : List Turn) → refused turns ≡ traced 0 refused_at list turns
refused_traced list [] = refl
refused_traced list (turn ∷ turns) = ap (λ (xs : List RefusedLine). refused_by turn.place turn.body ++ xs) (refused_traced (survivors_with 0 list turn) turns)

refused_one : (place : ℕ) (body : Body) (x : RefusedLine) → Contains (refused_by place body) x → (place ≡ x.place) × (body ≡ Refused x.fault)
refused_one place (Refused fault) x there =
    let same = only-in x (record { place = place; fault = fault }) there in
    (ap (λ (y : RefusedLine). y.place) same, ap (λ (y : RefusedLine). Refused y.fault) same)
refused_one place (Added n) x there = absurd (nothing-in x there)
refused_one place (Withdrawn n) x there = absurd (nothing-in x there)
refused_one place (Replaced n) x there = absurd (nothing-in x there)
refused_one place (Repaired k) x there = absurd (nothing-in x there)
refused_one place (RepairWide n note) x there = absurd (nothing-in x there)
refused_one place (Answers xs) x there = absurd (nothing-in x there)
refused_one place Undone x there = absurd (nothing-in x there)

refused_put : (place : ℕ) (body : Body) (x : RefusedLine) → place ≡ x.place → body ≡ Refused x.fault → Contains (refused_by place body) x
refused_put place body x named is =
    let here : refused_by place body ≡ x ∷ [] = ap (refused_by place) is ∙ ap (λ (p : ℕ). record { place = p; fault = x.fault } ∷ []) named in
    subst (λ (xs : List RefusedLine). Contains xs x) (sym here) (one-in x)

pub refused_those : RefusedAreThose
refused_those opening turns x = (to, from)
  where
    to : Contains (refused turns) x → IsRefusedLine turns x
    to inside =
        let is = trace_found 0 refused_at [] turns x (subst (λ (xs : List RefusedLine). Contains xs x) (refused_traced [] turns) inside) in
        let one = refused_one is.line.place is.line.body x is.inside in
        record { before = is.before; line = is.line; there = is.there; named = one.0; refused = one.1 }

    from : IsRefusedLine turns x → Contains (refused turns) x
    from is = subst (λ (xs : List RefusedLine). Contains xs x) (sym (refused_traced [] turns))
        (trace_put 0 refused_at [] turns x is.before is.line is.there (refused_put is.line.place is.line.body x is.named is.refused))

-- ---- asked of nothing

abbrev asked_at : ℕ → List Survivor → Turn → List ℕ
asked_at opening list turn = asked_by (left_after opening list) turn.place turn.body

asked_traced : (opening : ℕ) (list : List Survivor) (turns : List Turn) → asked_of_nothing opening list turns ≡ traced opening (asked_at opening) list turns
asked_traced opening list [] = refl
asked_traced opening list (turn ∷ turns) = ap (λ (xs : List ℕ). asked_at opening list turn ++ xs) (asked_traced opening (survivors_with opening list turn) turns)

record AskedOne (left place : ℕ) (body : Body) (x : ℕ) : Type 0 where
  pub answers : List Answer
  pub answered : body ≡ Answers answers
  pub named : place ≡ x
  pub none_left : left ≡ 0

asked_one : (left place : ℕ) (body : Body) (x : ℕ) → Contains {X = ℕ} (asked_by left place body) x → AskedOne left place body x
asked_one left place (Answers xs) x there = by (left == 0) refl there
  where
    by : (b : Bool) → (left == 0) ≡ b → Contains {X = ℕ} (if b then place ∷ [] else []) x → AskedOne left place (Answers xs) x
    by true is inside = record { answers = xs; answered = refl; named = only-in x place inside; none_left = eqb-true left 0 is }
    by false is inside = absurd (nothing-in x inside)
asked_one left place (Added n) x there = absurd (nothing-in x there)
asked_one left place (Withdrawn n) x there = absurd (nothing-in x there)
asked_one left place (Replaced n) x there = absurd (nothing-in x there)
asked_one left place (Repaired k) x there = absurd (nothing-in x there)
asked_one left place (RepairWide n note) x there = absurd (nothing-in x there)
asked_one left place (Refused fault) x there = absurd (nothing-in x there)
asked_one left place Undone x there = absurd (nothing-in x there)

asked_put : (left place : ℕ) (body : Body) (x : ℕ) (answers : List Answer) → body ≡ Answers answers → place ≡ x → left ≡ 0 → Contains {X = ℕ} (asked_by left place body) x
asked_put left place body x answers answered named none =
    let here : asked_by left place body ≡ x ∷ [] =
    ap (asked_by left place) answered
    ∙ ap (λ (b : Bool). if b then place ∷ [] else []) (eq-eqb left 0 none)
    ∙ ap (λ (p : ℕ). p ∷ []) named in
    subst (λ (xs : List ℕ). Contains {X = ℕ} xs x) (sym here) (one-in x)

pub asked_those : AskedOfNothingAreThose
asked_those opening turns x = (to, from)
  where
    to : Contains {X = ℕ} (asked_of_nothing opening [] turns) x → IsAskedOfNothing opening turns x
    to inside =
        let is = trace_found opening (asked_at opening) [] turns x (subst (λ (xs : List ℕ). Contains {X = ℕ} xs x) (asked_traced opening [] turns) inside) in
        let one = asked_one (left_after opening (survivors opening (take is.before turns))) is.line.place is.line.body x is.inside in
        record { before = is.before; line = is.line; answers = one.answers; there = is.there; named = one.named; answered = one.answered; none_left = one.none_left }

    from : IsAskedOfNothing opening turns x → Contains {X = ℕ} (asked_of_nothing opening [] turns) x
    from is = subst (λ (xs : List ℕ). Contains {X = ℕ} xs x) (sym (asked_traced opening [] turns))
        (trace_put opening (asked_at opening) [] turns x is.before is.line is.there
        (asked_put (left_after opening (survivors opening (take is.before turns))) is.line.place is.line.body x is.answers is.answered is.named is.none_left))
