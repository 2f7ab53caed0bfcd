-- What stands no more is what surviving lines took away, and what came is in one of both lists.
use Rattle.std.proofs.Common.{◌≡◌, ℕ, zero, suc, ◌+◌, Bool, true, false, not, List, [], ◌∷◌, ◌++◌, Some, None, refl, ap, sym, subst, ◌∙◌, arith, map, take, filter, Contains, flat_map, fold, inl, inr}
use Rattle.std.specs.Prelude.{◌⊎◌, ◌==◌, slice_get, if◌then◌else◌}
use Rattle.std.specs.List.{range_with_len}
use Rattle.std.proofs.lemmas.List.Elements.{Contains-append_left, Contains-append_right, Contains-append_cases}
use Rattle.ror_report.specs.declared.block.Body.{Body}
use Rattle.ror_report.specs.declared.block.Body.TheVariants.{Added, Withdrawn, Replaced, Undone, Repaired, RepairWide, Answers, Refused}
use Rattle.ror_show_find_roll.specs.declared.roll.Entry.{Entry}
use Rattle.ror_show_find_roll.specs.declared.roll.Gone.{Gone}
use Rattle.ror_show_find_roll.specs.declared.roll.Source.TheVariants.{File, Line}
use Rattle.ror_show_find_roll.specs.declared.survivor.Survivor.{Survivor}
use Rattle.ror_show_find_roll.specs.Turns.{Turn}
use Rattle.ror_show_find_roll.specs.Roll.{survivors, opened, takes, added, put_instead, stand, is_repair, taken_one, taken_away, Tally, tally_with}
use Rattle.ror_show_find_roll.specs.Became.{IsTakenAway, GoneAreThose, given_by, EachStandsOrIsGone}
use Rattle.ror_show_find_roll.proofs.Elements.{many, many-count, many-append, nothing-in, only-in, one-in, first-or-later}

-- ---- what one line takes away

-- a statement that the line takes away of these
record TakenOf (turn : Turn) (list : List Entry) (x : Gone) : Type 0 where
  pub stood : Contains list x.entry
  pub taken : takes turn.body x.entry.number ≡ true
  pub named : turn.place ≡ x.by
  pub said : is_repair turn.body ≡ x.by_repair

abbrev gone_of : Turn → Entry → Gone
gone_of turn e = record { entry = e; by = turn.place; by_repair = is_repair turn.body }

one_taken : (turn : Turn) (e : Entry) (x : Gone) → Contains (taken_one turn e) x → TakenOf turn (e ∷ []) x
one_taken turn e x there = by (takes turn.body e.number) refl there
  where
    by : (b : Bool) → takes turn.body e.number ≡ b → Contains (if b then gone_of turn e ∷ [] else []) x → TakenOf turn (e ∷ []) x
    by true is inside = subst (TakenOf turn (e ∷ [])) (only-in x (gone_of turn e) inside) (record { stood = one-in e; taken = is; named = refl; said = refl })
    by false is inside = absurd (nothing-in x inside)

taken_found : (turn : Turn) (list : List Entry) (x : Gone) → Contains (taken_away turn list) x → TakenOf turn list x
taken_found turn [] x there = absurd (nothing-in x there)
taken_found turn (e ∷ list) x there = by (Contains-append_cases (taken_one turn e) (taken_away turn list) x there) (taken_found turn list x)
  where
    by : Contains (taken_one turn e) x ⊎ Contains (taken_away turn list) x → (Contains (taken_away turn list) x → TakenOf turn list x) → TakenOf turn (e ∷ list) x
    by (inl here) more = (let is = one_taken turn e x here in record { stood = Contains-append_left (e ∷ []) list x.entry is.stood; taken = is.taken; named = is.named; said = is.said })
    by (inr later) more = (let is = more later in record { stood = Contains-append_right (e ∷ []) list x.entry is.stood; taken = is.taken; named = is.named; said = is.said })

same_gone : (turn : Turn) (x : Gone) → turn.place ≡ x.by → is_repair turn.body ≡ x.by_repair → gone_of turn x.entry ≡ x
same_gone turn x named said =
    ap (λ (p : ℕ). record { entry = x.entry; by = p; by_repair = is_repair turn.body }) named
    ∙ ap (λ (r : Bool). record { entry = x.entry; by = x.by; by_repair = r }) said

taken_put : (turn : Turn) (list : List Entry) (x : Gone) → TakenOf turn list x → Contains (taken_away turn list) x
taken_put turn [] x is = absurd (nothing-in x.entry is.stood)
taken_put turn (e ∷ list) x is = by (first-or-later x.entry e list is.stood) (taken_put turn list x)
  where
    here : e ≡ x.entry → taken_one turn e ≡ x ∷ []
    here same =
        ap (taken_one turn) same
        ∙ ap (λ (b : Bool). if b then gone_of turn x.entry ∷ [] else []) is.taken
        ∙ ap (λ (y : Gone). y ∷ []) (same_gone turn x is.named is.said)

    by : (e ≡ x.entry) ⊎ Contains list x.entry → (TakenOf turn list x → Contains (taken_away turn list) x) → Contains (taken_away turn (e ∷ list)) x
    by (inl same) more = Contains-append_left (taken_one turn e) (taken_away turn list) x (subst (λ (ys : List Gone). Contains ys x) (sym (here same)) (one-in x))
    by (inr later) more = Contains-append_right (taken_one turn e) (taken_away turn list) x (more (record { stood = later; taken = is.taken; named = is.named; said = is.said }))

-- ---- what all take away

abbrev after : Tally → List Survivor → Tally
after tally list = fold tally_with tally list

-- one of these lines takes it away, of what stands then
record TakenAmong (tally : Tally) (list : List Survivor) (x : Gone) : Type 0 where
  pub before : ℕ
  pub line : Survivor
  pub there : slice_get list before ≡ Some line
  pub of : TakenOf line.step (after tally (take before list)).entries x

gone_found : (tally : Tally) (list : List Survivor) (x : Gone) → Contains (after tally list).gone x → Contains tally.gone x ⊎ TakenAmong tally list x
gone_found tally [] x inside = inl inside
gone_found tally (line ∷ list) x inside = by (gone_found (tally_with tally line) list x inside)
  where
    first : Contains tally.gone x ⊎ Contains (taken_away line.step tally.entries) x → Contains tally.gone x ⊎ TakenAmong tally (line ∷ list) x
    first (inl old) = inl old
    first (inr here) = inr (record { before = 0; line = line; there = refl; of = taken_found line.step tally.entries x here })

    by : Contains (tally_with tally line).gone x ⊎ TakenAmong (tally_with tally line) list x → Contains tally.gone x ⊎ TakenAmong tally (line ∷ list) x
    by (inl so_far) = first (Contains-append_cases tally.gone (taken_away line.step tally.entries) x so_far)
    by (inr later) = inr (record { before = suc later.before; line = later.line; there = later.there; of = later.of })

gone_stays : (tally : Tally) (list : List Survivor) (x : Gone) → Contains tally.gone x → Contains (after tally list).gone x
gone_stays tally [] x inside = inside
gone_stays tally (line ∷ list) x inside = gone_stays (tally_with tally line) list x (Contains-append_left tally.gone (taken_away line.step tally.entries) x inside)

gone_put : (tally : Tally) (list : List Survivor) (x : Gone) (before : ℕ) (line : Survivor) → slice_get list before ≡ Some line → TakenOf line.step (after tally (take before list)).entries x → Contains (after tally list).gone x
gone_put tally [] x before line there of = absurd cc
gone_put tally (first ∷ list) x zero line there of =
    let same : first ≡ line = cc in
    let here : TakenOf first.step tally.entries x = subst (λ (l : Survivor). TakenOf l.step tally.entries x) (sym same) of in
    gone_stays (tally_with tally first) list x (Contains-append_right tally.gone (taken_away first.step tally.entries) x (taken_put first.step tally.entries x here))
gone_put tally (first ∷ list) x (suc before) line there of = gone_put (tally_with tally first) list x before line there of

abbrev begun : ℕ → Tally
begun opening = record { entries = opened opening; gone = [] }

pub gone_those : GoneAreThose
gone_those opening turns x = (λ inside. to (gone_found (begun opening) (survivors opening turns) x inside), λ is. from is)
  where
    to : Contains [] x ⊎ TakenAmong (begun opening) (survivors opening turns) x → IsTakenAway opening (survivors opening turns) x
    to (inl none) = absurd (nothing-in x none)
    to (inr is) = record { before = is.before; line = is.line; there = is.there; stood = is.of.stood; taken = is.of.taken; named = is.of.named; said = is.of.said }

    from : IsTakenAway opening (survivors opening turns) x → Contains (after (begun opening) (survivors opening turns)).gone x
    from is = gone_put (begun opening) (survivors opening turns) x is.before is.line is.there (record { stood = is.stood; taken = is.taken; named = is.named; said = is.said })

-- ---- how often each number is in one of both lists

module _ (n : ℕ) where
  abbrev has : Entry → Bool
  has e = e.number == n

  abbrev had : Gone → Bool
  had x = x.entry.number == n

  abbrev is_it : ℕ → Bool
  is_it k = k == n

  -- what a line takes away is no longer in the one list, and is in the other
  apart : (turn : Turn) (list : List Entry) → many has (filter (λ e. not (takes turn.body e.number)) list) + many had (taken_away turn list) ≡ many has list
  apart turn [] = refl
  apart turn (e ∷ list) = by (takes turn.body e.number) (e.number == n) refl (filter (λ x. not (takes turn.body x.number)) list) (taken_away turn list) (apart turn list)
    where
      by : (b c : Bool) → (e.number == n) ≡ c → (kept : List Entry) (gone : List Gone) → many has kept + many had gone ≡ many has list → many has (if not b then e ∷ kept else kept) + many had ((if b then gone_of turn e ∷ [] else []) ++ gone) ≡ many has (e ∷ list)
      by true true is kept gone rest = rw is (omega (arith, rest))
      by true false is kept gone rest = rw is (omega (arith, rest))
      by false true is kept gone rest = rw is (omega (arith, rest))
      by false false is kept gone rest = rw is (omega (arith, rest))

  none_taken : (turn : Turn) → ((k : ℕ) → takes turn.body k ≡ false) → (list : List Entry) → taken_away turn list ≡ []
  none_taken turn none [] = refl
  none_taken turn none (e ∷ list) = ap (λ (b : Bool). (if b then gone_of turn e ∷ [] else []) ++ taken_away turn list) (none e.number) ∙ none_taken turn none list

  renumbered : (place m : ℕ) (list : List Entry) → many has (map (put_instead place m) list) ≡ many has list
  renumbered place m [] = refl
  renumbered place m (e ∷ list) = by (e.number == m) (e.number == n) refl (map (put_instead place m) list) (renumbered place m list)
    where
      by : (b c : Bool) → (e.number == n) ≡ c → (rest : List Entry) → many has rest ≡ many has list → many has ((if b then record { number = e.number; said = Line place; instead_of = Some e.said } else e) ∷ rest) ≡ many has (e ∷ list)
      by true true is rest same = rw is (ap suc same)
      by true false is rest same = rw is same
      by false true is rest same = rw is (ap suc same)
      by false false is rest same = rw is same

  one_added : (place m : ℕ) → many has (added place m ∷ []) ≡ many is_it (m ∷ [])
  one_added place m = by (m == n) refl
    where
      by : (b : Bool) → (m == n) ≡ b → many has (added place m ∷ []) ≡ many is_it (m ∷ [])
      by true is = rw is refl
      by false is = rw is refl

  abbrev Moves : Turn → List Entry → Type 0
  Moves turn list = many has (stand list turn.place turn.body) + many had (taken_away turn list) ≡ many has list + many is_it (given_by turn.body)

  moved : (place : ℕ) (body : Body) (list : List Entry) → Moves (record { place = place; body = body }) list
  moved place (Added m) list =
      let none = ap (λ (xs : List Gone). many had xs) (none_taken (record { place = place; body = Added m }) (λ k. refl) list) in
      let both = many-append has list (added place m ∷ []) in
      let one = one_added place m in
      omega (arith, none, both, one)
  moved place (Replaced m) list =
      let none = ap (λ (xs : List Gone). many had xs) (none_taken (record { place = place; body = Replaced m }) (λ k. refl) list) in
      let same = renumbered place m list in
      omega (arith, none, same)
  moved place (Withdrawn m) list = (let all = apart (record { place = place; body = Withdrawn m }) list in omega (arith, all))
  moved place (Repaired kept) list = (let all = apart (record { place = place; body = Repaired kept }) list in omega (arith, all))
  moved place Undone list = (let all = apart (record { place = place; body = Undone }) list in omega (arith, all))
  moved place (RepairWide k note) list = (let all = apart (record { place = place; body = RepairWide k note }) list in omega (arith, all))
  moved place (Answers xs) list = (let all = apart (record { place = place; body = Answers xs }) list in omega (arith, all))
  moved place (Refused fault) list = (let all = apart (record { place = place; body = Refused fault }) list in omega (arith, all))

  all_moved : (tally : Tally) (list : List Survivor) → many has (after tally list).entries + many had (after tally list).gone ≡ many has tally.entries + many had tally.gone + many is_it (flat_map (λ x. given_by x.step.body) list)
  all_moved tally [] = omega arith
  all_moved tally (line ∷ list) =
      let rest = all_moved (tally_with tally line) list in
      let here = moved line.step.place line.step.body tally.entries in
      let gone = many-append had tally.gone (taken_away line.step tally.entries) in
      let given = many-append is_it (given_by line.step.body) (flat_map (λ x. given_by x.step.body) list) in
      omega (arith, rest, here, gone, given)

  at_opening : (ks : List ℕ) → many has (map (λ k. record { number = k; said = File; instead_of = None }) ks) ≡ many is_it ks
  at_opening [] = refl
  at_opening (k ∷ ks) = by (k == n) refl (at_opening ks)
    where
      by : (b : Bool) → (k == n) ≡ b → many has (map (λ k. record { number = k; said = File; instead_of = None }) ks) ≡ many is_it ks → many has (map (λ k. record { number = k; said = File; instead_of = None }) (k ∷ ks)) ≡ many is_it (k ∷ ks)
      by true is rest = rw is (ap suc rest)
      by false is rest = rw is rest

pub each_once : EachStandsOrIsGone
each_once opening turns n =
    let list = survivors opening turns in
    let tally = begun opening in
    let all = all_moved n tally list in
    let first = at_opening n (range_with_len 1 opening) in
    let came = many-append (is_it n) (range_with_len 1 opening) (flat_map (λ x. given_by x.step.body) list) in
    let stands = many-count (has n) (after tally list).entries in
    let gone = many-count (had n) (after tally list).gone in
    let given = many-count (is_it n) (range_with_len 1 opening ++ flat_map (λ x. given_by x.step.body) list) in
    omega (arith, all, first, came, stands, gone, given)
