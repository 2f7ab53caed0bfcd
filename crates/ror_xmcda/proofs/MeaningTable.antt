-- The performances of a file that is read, and the table of them.
use Rattle.std.proofs.Common.{◌≡◌, ℕ, zero, suc, ◌+◌, ◌<◌, Bool, true, false, List, [], ◌∷◌, ◌++◌, length, map, get_or, Option, Some, None, Result, Ok, refl, sym, ap, ◌∙◌, arith, cond, subst, append-nil, append_assoc, zero-add, rules}
use Rattle.std.specs.Prelude.{codes, filter, slice_get, is_some, ◌==◌, ◌&&◌, ◌||◌, option_map}
use Rattle.std.specs.List.{AllZip, AllByRecursion, enumerate_from, range_with_len, flat_map}
use Rattle.std.specs.Map.{lookup}
use Rattle.std.specs.Str.{bytes_eq}
use Rattle.std.proofs.lemmas.Bool.{eqb-true, eqb-false, and_left, and_right}
use Rattle.std.proofs.lemmas.List.Elements.{filter-append}
use Rattle.std.proofs.lemmas.Option.{get_or_from_slice_get, slice_get_within}
use Rattle.std.proofs.lemmas.Slice.Eq.{bytes_eq-Decides}
use Rattle.ror_text.proofs.ListLemmas.{bytes_apart}
use Rattle.ror_text.specs.Reading.{refuse, need, read_all}
use Rattle.ror_text.proofs.ReadingLemmas.{bind_ok, need_ok, refuse_ok}
use Rattle.ror_table.specs.declared.amount.Amount.{Amount}
use Rattle.ror_table.specs.declared.fault.TableFault.{TableFault}
use Rattle.ror_table.specs.Draft.{add_alternative}
use Rattle.ror_table.specs.Table.{Criterion, Alternative, DecisionTable, AreDistinct, place_of, alternative_ids}
use Rattle.ror_table.proofs.DraftLemmas.{same_place}
use Rattle.ror_table.proofs.NameLemmas.{place_of-sound, not_placed-absent}
use Rattle.ror_elements.specs.Tree.{Tree}
use Rattle.ror_xmcda.specs.declared.criteria.Criteria.{Criteria}
use Rattle.ror_xmcda.specs.declared.roster.Roster.{Roster}
use Rattle.ror_xmcda.specs.Nodes.{id_of, text_of, named, first_named}
use Rattle.ror_xmcda.specs.Listing.{standing_in}
use Rattle.ror_xmcda.specs.Numbers.{number_of}
use Rattle.ror_xmcda.specs.Performances.{Place, Given, is_at, given_at, first_inside, value_of, kept_performance, performance_at, performance, performances, performances_of}
use Rattle.ror_xmcda.specs.Whole.{criteria_table, next_performance, row_of, with_alternative, table_of}
use Rattle.ror_xmcda.specs.Meaning as meaning
use Rattle.ror_xmcda.specs.Meaning.{active, is_text, names, performance_groups, performances_in, HasNumber, IsPerformance, AreItsPerformances, IsAlternative}
use Rattle.ror_xmcda.proofs.InputLemmas.{finished_same}
use Rattle.ror_xmcda.proofs.WholeLemmas.{alternatives-criteria_table}
use Rattle.ror_xmcda.proofs.MeaningLemmas.{read_all_from_first, zip-append, IsRosterOf, standing_at_place}
use Rattle.ror_xmcda.proofs.MeaningListing.{criteria_table-ids}
use Rattle.std.proofs.lemmas.Grind.{flat_map-append}

-- ---- the numbers that are given at a place

abbrev pub numbers_at : Place → Given → List Amount
numbers_at place given = map (λ g. g.1) (filter (λ g. is_at place g.0) given)

abbrev pub first_number : List Amount → Option Amount
first_number [] = None
first_number (z ∷ zs) = Some z

pub given-first : (place : Place) (given : Given) → given_at given place ≡ first_number (numbers_at place given)
unfolding given_at
given-first place [] = refl
given-first place (g ∷ given) = by (is_at place g.0) (given-first place given)
  where
    by : (b : Bool) → lookup (is_at place) given ≡ first_number (numbers_at place given)
        → cond b (Some g.1) (lookup (is_at place) given) ≡ first_number (map (λ g. g.1) (cond b (g ∷ filter (λ g. is_at place g.0) given) (filter (λ g. is_at place g.0) given)))
    by true rest = refl
    by false rest = rest

-- at most one
abbrev AtMostOne : List Amount → Type 0
AtMostOne [] = Unit {0}
AtMostOne (z ∷ []) = Unit {0}
AtMostOne (z ∷ y ∷ zs) = ⊥

only_one : (zs : List Amount) (z : Amount) → AtMostOne zs → first_number zs ≡ Some z → zs ≡ z ∷ []
only_one [] z few e = absurd cc
only_one (y ∷ []) z few e = let same : y ≡ z = cc in ap (λ (x : Amount). x ∷ []) same
only_one (y ∷ x ∷ zs) z few e = absurd few

numbers-append : (place : Place) (given more : Given) → numbers_at place (given ++ more) ≡ numbers_at place given ++ numbers_at place more
numbers-append place [] more = refl
numbers-append place (g ∷ given) more = by (is_at place g.0) (numbers-append place given more)
  where
    by : (b : Bool) → numbers_at place (given ++ more) ≡ numbers_at place given ++ numbers_at place more
        → map (λ g. g.1) (cond b (g ∷ filter (λ g. is_at place g.0) (given ++ more)) (filter (λ g. is_at place g.0) (given ++ more))) ≡ map (λ g. g.1) (cond b (g ∷ filter (λ g. is_at place g.0) given) (filter (λ g. is_at place g.0) given)) ++ numbers_at place more
    by true rest = ap (λ (zs : List Amount). g.1 ∷ zs) rest
    by false rest = rest

-- ---- one performance more

-- what a performance adds: its number, at a place where there is none yet
record IsAdded (given next : Given) (place : Place) (t : Tree) : Type 0 where
  z : Amount
  number : HasNumber t z
  free : given_at given place ≡ None
  is : next ≡ given ++ (place, z) ∷ []

none_from : {A : Type 0} (o : Option A) → is_some o ≡ false → o ≡ None
none_from None e = refl
none_from (Some x) e = absurd cc

kept_is : (given : Given) (place : Place) (t : Tree) (next : Given) → kept_performance given place t ≡ Ok next → IsAdded given next place t
unfolding kept_performance value_of
kept_is given place t next e =
    let v = bind_ok (need _ (first_inside (first_named (codes "value") t))) _ next e in
    let n = bind_ok (number_of v.0) _ next v.2 in
    let r = bind_ok (refuse _ (is_some (given_at given place))) _ next n.2 in
    record {
      z = n.0;
      number = record { value = v.0; first = need_ok _ (first_inside (first_named (codes "value") t)) v.0 v.1; number = n.1 };
      free = none_from (given_at given place) (refuse_ok _ (is_some (given_at given place)) r.0 r.1);
      is = (let same : ◌≡◌ {A = Result Given TableFault} (Ok (given ++ (place, n.0) ∷ [])) (Ok next) = r.2 in cc);
    }

-- at the place itself, and at another one
numbers_here : (place at : Place) (z : Amount) → is_at place at ≡ true → numbers_at place ((at, z) ∷ []) ≡ z ∷ []
numbers_here place at z e = ap (λ b. map {A = Place × Amount} (λ g. g.1) (cond b ((at, z) ∷ []) [])) e

numbers_there : (place at : Place) (z : Amount) → is_at place at ≡ false → numbers_at place ((at, z) ∷ []) ≡ []
numbers_there place at z e = ap (λ b. map {A = Place × Amount} (λ g. g.1) (cond b ((at, z) ∷ []) [])) e

same_at : (place at : Place) → is_at place at ≡ true → place ≡ at
same_at place at e = search rules

still_few : (place at : Place) (given : Given) (z : Amount) → AtMostOne (numbers_at place given) → given_at given at ≡ None → AtMostOne (numbers_at place (given ++ (at, z) ∷ []))
still_few place at given z few free = rw (numbers-append place given ((at, z) ∷ [])) (by (is_at place at) refl)
  where
    nothing : (zs : List Amount) → first_number zs ≡ None → zs ≡ []
    nothing [] e = refl
    nothing (y ∷ zs) e = absurd cc

    by : (b : Bool) → is_at place at ≡ b → AtMostOne (numbers_at place given ++ numbers_at place ((at, z) ∷ []))
    by true e =
        let none : numbers_at place given ≡ [] = nothing (numbers_at place given) (sym (given-first place given) ∙ ap (given_at given) (same_at place at e) ∙ free) in
        rw (none, numbers_here place at z e) tt
    by false e = rw (numbers_there place at z e, append-nil (numbers_at place given)) few

-- ---- performances by ids

pub stands : (ids : List (List ℕ)) (k : ℕ) (text : List ℕ) → (k < length ids) × (text ≡ get_or ids k []) → slice_get ids k ≡ Some text
stands [] k text h = absurd (omega arith)
stands (id ∷ ids) zero text h = ap (λ (x : List ℕ). Some x) (sym h.1)
stands (id ∷ ids) (suc k) text h = stands ids k text (omega arith, h.1)

-- an id has a place exactly where it stands there
places_same : (ids : List (List ℕ)) (i k : ℕ) (id text : List ℕ) → AreDistinct ids → slice_get ids i ≡ Some id → place_of ids text ≡ Some k → bytes_eq text id ≡ (i == k)
places_same ids i k id text distinct at placed = by (i == k) refl
  where
    by : (b : Bool) → (i == k) ≡ b → bytes_eq text id ≡ b
    by true e =
        let same : i ≡ k = eqb-true i k e in
        let is : text ≡ id = (place_of-sound ids text k placed).1 ∙ ap (λ (n : ℕ). get_or ids n []) (sym same) ∙ get_or_from_slice_get ids i id [] at in
        (bytes_eq-Decides text id).1 is
    by false e = bytes_apart text id (λ same.
        let there : slice_get ids k ≡ Some id = stands ids k text (place_of-sound ids text k placed) ∙ ap (λ (x : List ℕ). Some x) same in
        eqb-false i k e (same_place ids id i k distinct at there))

no_place_differs : (ids : List (List ℕ)) (i : ℕ) (id text : List ℕ) → slice_get ids i ≡ Some id → place_of ids text ≡ None → bytes_eq text id ≡ false
no_place_differs ids i id text at none =
    bytes_apart text id (λ same. not_placed-absent ids text none (i, slice_get_within ids i id at, get_or_from_slice_get ids i id text at ∙ sym same))

abbrev pub stands_at : ℕ → Option ℕ → Bool
stands_at i None = false
stands_at i (Some k) = i == k

-- what an element's first child of a name stands for
pub stands_is : (before : List Tree) (r : Roster) (owner : Tree) (o : Option Tree) (s : Option ℕ) (i : ℕ) (id : List ℕ) → IsRosterOf before r → slice_get r.kept i ≡ Some id → standing_in r owner o ≡ Ok s → is_text id (option_map text_of o) ≡ stands_at i s
stands_is before r owner None s i id are at e = absurd cc
stands_is before r owner (Some t) s i id are at e = by s (standing_at_place before r t s are e)
  where
    by : (s : Option ℕ) → s ≡ place_of r.kept (text_of t) → bytes_eq (text_of t) id ≡ stands_at i s
    by None e = no_place_differs r.kept i id (text_of t) at (sym e)
    by (Some k) e = places_same r.kept i k id (text_of t) are.distinct at (sym e)

-- ---- all performances at one place

-- those that are given, beside the elements that name the place's alternative and criterion
pub record AreGiven (place : Place) (elements : List Tree) (given : Given) : Type 0 where
  pub numbers : AllZip HasNumber elements (numbers_at place given)
  pub few : AtMostOne (numbers_at place given)

given_more : (place at : Place) (elements : List Tree) (given next : Given) (t : Tree) → AreGiven place elements given → IsAdded given next at t → AreGiven place (elements ++ cond (is_at place at) (t ∷ []) []) next
given_more place at elements given next t are more =
    subst (AreGiven place (elements ++ cond (is_at place at) (t ∷ []) [])) (sym more.is) (record {
      numbers = rw (numbers-append place given ((at, more.z) ∷ [])) (by (is_at place at) refl);
      few = still_few place at given more.z are.few more.free;
    })
  where
    by : (b : Bool) → is_at place at ≡ b → AllZip HasNumber (elements ++ cond b (t ∷ []) []) (numbers_at place given ++ numbers_at place ((at, more.z) ∷ []))
    by true e = rw (numbers_here place at more.z e) (zip-append HasNumber elements (numbers_at place given) (t ∷ []) (more.z ∷ []) are.numbers (more.number, tt))
    by false e = rw (numbers_there place at more.z e) (zip-append HasNumber elements (numbers_at place given) [] [] are.numbers tt)

-- the elements of a group that are on a criterion, if the group is of the alternative
abbrev pub taken : Bool → List ℕ → List Tree → List Tree
taken mine criterion ts = cond mine (filter (names (codes "criterionID") criterion) ts) []

taken-push : (mine : Bool) (criterion : List ℕ) (ts : List Tree) (t : Tree) → taken mine criterion (ts ++ t ∷ []) ≡ taken mine criterion ts ++ cond (mine && names (codes "criterionID") criterion t) (t ∷ []) []
taken-push true criterion ts t = filter-append (names (codes "criterionID") criterion) ts (t ∷ [])
taken-push false criterion ts t = refl

one_performance : (listed : List Tree) (criteria : Roster) (a i : ℕ) (id : List ℕ) (s : Option ℕ) (elements : List Tree) (given next : Given) (t : Tree) → IsRosterOf listed criteria → slice_get criteria.kept i ≡ Some id
    → AreGiven (a, i) elements given → performance criteria s given t ≡ Ok next → AreGiven (a, i) (elements ++ cond (stands_at a s && names (codes "criterionID") id t) (t ∷ []) []) next
unfolding performance
one_performance listed criteria a i id s elements given next t are at h e =
    let c = bind_ok (standing_in criteria t (first_named (codes "criterionID") t)) _ next e in
    let is : names (codes "criterionID") id t ≡ stands_at i c.0 = stands_is listed criteria t (first_named (codes "criterionID") t) c.0 i id are at c.1 in
    rw is (by s c.0 c.2)
  where
    passed : (b : Bool) → b ≡ false → given ≡ next → AreGiven (a, i) (elements ++ cond b (t ∷ []) []) next
    passed true off same = absurd cc
    passed false off same = rw (append-nil elements) (subst (AreGiven (a, i) elements) same h)

    by : (s c : Option ℕ) → performance_at given s c t ≡ Ok next → AreGiven (a, i) (elements ++ cond (stands_at a s && stands_at i c) (t ∷ []) []) next
    by (Some b) (Some j) e = given_more (a, i) (b, j) elements given next t h (kept_is given (b, j) t next e)
    by (Some b) None e = passed (stands_at a (Some b) && false) (and_right (stands_at a (Some b)) false refl) (let r : ◌≡◌ {A = Result Given TableFault} (Ok given) (Ok next) = e in cc)
    by None c e = passed (stands_at a None && stands_at i c) (and_left false (stands_at i c) refl) (let r : ◌≡◌ {A = Result Given TableFault} (Ok given) (Ok next) = e in cc)

-- one performance more of a group
pub taken_more : (listed : List Tree) (criteria : Roster) (a i : ℕ) (id : List ℕ) (s : Option ℕ) (elements before : List Tree) (now : Given) (t : Tree) (more : Given) → IsRosterOf listed criteria → slice_get criteria.kept i ≡ Some id
    → AreGiven (a, i) (elements ++ taken (stands_at a s) id before) now → performance criteria s now t ≡ Ok more → AreGiven (a, i) (elements ++ taken (stands_at a s) id (before ++ t ∷ [])) more
taken_more listed criteria a i id s elements before now t more are at h e =
    let mine : Bool = stands_at a s in
    let lists : (elements ++ taken mine id before) ++ cond (mine && names (codes "criterionID") id t) (t ∷ []) [] ≡ elements ++ taken mine id (before ++ t ∷ []) =
    append_assoc elements (taken mine id before) (cond (mine && names (codes "criterionID") id t) (t ∷ []) []) ∙ ap (λ (ts : List Tree). elements ++ ts) (sym (taken-push mine id before t)) in
    subst (λ (ts : List Tree). AreGiven (a, i) ts more) lists (one_performance listed criteria a i id s (elements ++ taken mine id before) now more t are at h e)

-- and none yet
pub taken_first : (place : Place) (mine : Bool) (id : List ℕ) (elements : List Tree) (given : Given) → AreGiven place elements given → AreGiven place (elements ++ taken mine id []) given
taken_first place true id elements given h = rw (append-nil elements) h
taken_first place false id elements given h = rw (append-nil elements) h

one_group : (listed : List Tree) (criteria : Roster) (a i : ℕ) (id : List ℕ) (s : Option ℕ) (elements ts : List Tree) (given next : Given) → IsRosterOf listed criteria → slice_get criteria.kept i ≡ Some id
    → AreGiven (a, i) elements given → read_all (performance criteria s) given ts ≡ Ok next → AreGiven (a, i) (elements ++ taken (stands_at a s) id ts) next
one_group listed criteria a i id s elements ts given next are at h e =
    read_all_from_first (λ before now. AreGiven (a, i) (elements ++ taken (stands_at a s) id before) now) (performance criteria s)
    (λ before now t more h e. taken_more listed criteria a i id s elements before now t more are at h e) given ts next (taken_first (a, i) (stands_at a s) id elements given h) e

-- those of one group more
performances_in-push : (alternative criterion : List ℕ) (groups : List Tree) (group : Tree) → performances_in alternative criterion (groups ++ group ∷ []) ≡ performances_in alternative criterion groups ++ taken (names (codes "alternativeID") alternative group) criterion (named (codes "performance") group)
performances_in-push alternative criterion groups group =
    let f : Tree → List Tree = λ group. filter (names (codes "criterionID") criterion) (named (codes "performance") group) in
    ap (flat_map f) (filter-append (names (codes "alternativeID") alternative) groups (group ∷ []))
    ∙ flat_map-append f (filter (names (codes "alternativeID") alternative) groups) (filter (names (codes "alternativeID") alternative) (group ∷ []))
    ∙ ap (λ (ts : List Tree). performances_in alternative criterion groups ++ ts) (by (names (codes "alternativeID") alternative group))
  where
    by : (b : Bool) → flat_map (λ group. filter (names (codes "criterionID") criterion) (named (codes "performance") group)) (cond b (group ∷ []) []) ≡ taken b criterion (named (codes "performance") group)
    by true = append-nil _
    by false = refl

pub group_more : (some other : List Tree) (alternatives criteria : Roster) (a i : ℕ) (alternative criterion : List ℕ) → IsRosterOf some alternatives → IsRosterOf other criteria → slice_get alternatives.kept a ≡ Some alternative → slice_get criteria.kept i ≡ Some criterion
    → (groups : List Tree) (given : Given) (group : Tree) (next : Given) → AreGiven (a, i) (performances_in alternative criterion groups) given → performances alternatives criteria given group ≡ Ok next → AreGiven (a, i) (performances_in alternative criterion (groups ++ group ∷ [])) next
unfolding performances
group_more some other alternatives criteria a i alternative criterion listed also at there groups given group next h e =
    let s = bind_ok (standing_in alternatives group (first_named (codes "alternativeID") group)) _ next e in
    let is : names (codes "alternativeID") alternative group ≡ stands_at a s.0 = stands_is some alternatives group (first_named (codes "alternativeID") group) s.0 a alternative listed at s.1 in
    let read = one_group other criteria a i criterion s.0 (performances_in alternative criterion groups) (named (codes "performance") group) given next also there h s.2 in
    rw (performances_in-push alternative criterion groups group, is) read

-- what is given at a place, of all that is read
pub all_given : (some other : List Tree) (alternatives criteria : Roster) (root : Tree) (given : Given) (a i : ℕ) (alternative criterion : List ℕ) → IsRosterOf some alternatives → IsRosterOf other criteria → performances_of alternatives criteria root ≡ Ok given
    → slice_get alternatives.kept a ≡ Some alternative → slice_get criteria.kept i ≡ Some criterion → AreGiven (a, i) (meaning.performances_of root alternative criterion) given
unfolding performances_of meaning.performances_of
all_given some other alternatives criteria root given a i alternative criterion listed also e at there =
    read_all_from_first (λ before now. AreGiven (a, i) (performances_in alternative criterion before) now) (performances alternatives criteria)
    (group_more some other alternatives criteria a i alternative criterion listed also at there) [] (performance_groups root) given (record { numbers = tt; few = tt }) e

pub performances_given : (some other : List Tree) (alternatives criteria : Roster) (root : Tree) (given : Given) (a i : ℕ) (alternative criterion : List ℕ) (z : Amount) → IsRosterOf some alternatives → IsRosterOf other criteria → performances_of alternatives criteria root ≡ Ok given
    → slice_get alternatives.kept a ≡ Some alternative → slice_get criteria.kept i ≡ Some criterion → given_at given (a, i) ≡ Some z → IsPerformance root alternative criterion z
performances_given some other alternatives criteria root given a i alternative criterion z listed also e at there found =
    let are = all_given some other alternatives criteria root given a i alternative criterion listed also e at there in
    let one : numbers_at (a, i) given ≡ z ∷ [] = only_one (numbers_at (a, i) given) z are.few (sym (given-first (a, i) given) ∙ found) in
    by (meaning.performances_of root alternative criterion) refl (subst (AllZip HasNumber (meaning.performances_of root alternative criterion)) one are.numbers)
  where
    by : (ts : List Tree) → meaning.performances_of root alternative criterion ≡ ts → AllZip HasNumber ts (z ∷ []) → IsPerformance root alternative criterion z
    by [] is h = absurd h
    by (t ∷ []) is h = record { element = t; only = is; number = h.0 }
    by (t ∷ u ∷ ts) is h = absurd h.1

-- ---- the table

-- the performance at a place more
performance_more : (given : Given) (a : ℕ) (before : List ℕ) (row : List Amount) (i : ℕ) (next : List Amount) → AllZip (λ i z. given_at given (a, i) ≡ Some z) before row → next_performance given a row i ≡ Ok next → AllZip (λ i z. given_at given (a, i) ≡ Some z) (before ++ i ∷ []) next
unfolding next_performance
performance_more given a before row i next h e =
    let b = bind_ok (need _ (given_at given (a, i))) _ next e in
    let same : row ++ b.0 ∷ [] ≡ next = (let r : ◌≡◌ {A = Result (List Amount) TableFault} (Ok (row ++ b.0 ∷ [])) (Ok next) = b.2 in cc) in
    subst (AllZip (λ i z. given_at given (a, i) ≡ Some z) (before ++ i ∷ [])) same (zip-append (λ i z. given_at given (a, i) ≡ Some z) before row (i ∷ []) (b.0 ∷ []) h (need_ok _ (given_at given (a, i)) b.0 b.1, tt))

-- each place has its performance in the row
row_read : (given : Given) (n a : ℕ) (row : List Amount) → row_of given n a ≡ Ok row → AllZip (λ i z. given_at given (a, i) ≡ Some z) (range_with_len 0 n) row
unfolding row_of
row_read given n a row e = read_all_from_first (λ before now. AllZip (λ i z. given_at given (a, i) ≡ Some z) before now) (next_performance given a) (performance_more given a) [] (range_with_len 0 n) row tt e

-- what holds by places holds of what stands there
by_places : {X Z : Type 0} (R : ℕ → Z → Type 0) (S : X → Z → Type 0) (xs : List X) (k : ℕ) (zs : List Z) → ((j : ℕ) (x : X) (z : Z) → slice_get xs j ≡ Some x → R (k + j) z → S x z) → AllZip R (range_with_len k (length xs)) zs → AllZip S xs zs
by_places R S [] k [] each h = tt
by_places R S [] k (z ∷ zs) each h = absurd h
by_places R S (x ∷ xs) k [] each h = absurd h
by_places R S (x ∷ xs) k (z ∷ zs) each h =
    let first : k ≡ k + 0 = omega arith in
    (each 0 x z refl (subst (λ (n : ℕ). R n z) first h.0), by_places R S xs (k + 1) zs (λ j y w there r. each (suc j) y w there (let next : (k + 1) + j ≡ k + suc j = omega arith in subst (λ (n : ℕ). R n w) next r)) h.1)

-- an alternative of this id, with the row of this place
pub record IsRead (given : Given) (n : ℕ) (x : ℕ × List ℕ) (a : Alternative) : Type 0 where
  pub id : a.id ≡ x.1
  pub row : row_of given n x.0 ≡ Ok a.performances

-- a table, and the alternatives that were added to it
pub record IsFilled (given : Given) (began : DecisionTable) (before : List (ℕ × List ℕ)) (t : DecisionTable) : Type 0 where
  pub criteria : t.criteria ≡ began.criteria
  pub classes : t.classes ≡ began.classes
  pub alternatives : AllZip (IsRead given (length began.criteria)) before t.alternatives

pub filled_more : (given : Given) (began : DecisionTable) (before : List (ℕ × List ℕ)) (t : DecisionTable) (x : ℕ × List ℕ) (next : DecisionTable) → IsFilled given began before t → with_alternative given t x ≡ Ok next → IsFilled given began (before ++ x ∷ []) next
unfolding with_alternative
filled_more given began before t x next h e =
    let b = bind_ok (row_of given (length t.criteria) x.0) _ next e in
    let same : add_alternative t x.1 b.0 ≡ next = (let r : ◌≡◌ {A = Result DecisionTable TableFault} (Ok (add_alternative t x.1 b.0)) (Ok next) = b.2 in cc) in
    subst (IsFilled given began (before ++ x ∷ [])) same (record {
      criteria = h.criteria;
      classes = h.classes;
      alternatives = zip-append (IsRead given (length began.criteria)) before t.alternatives (x ∷ []) (record { id = x.1; performances = b.0 } ∷ []) h.alternatives
          (record { id = refl; row = ap (λ (cs : List Criterion). row_of given (length cs) x.0) (sym h.criteria) ∙ b.1 }, tt);
    })

-- the alternatives that are read, added to the criteria
pub all_filled : (given : Given) (c : Criteria) (ids : List (List ℕ)) (k : ℕ) (t : DecisionTable) → read_all (with_alternative given) (record (criteria_table c) { classes = k }) (enumerate_from 0 ids) ≡ Ok t → IsFilled given (record (criteria_table c) { classes = k }) (enumerate_from 0 ids) t
all_filled given c ids k t e =
    let began : DecisionTable = record (criteria_table c) { classes = k } in
    read_all_from_first (IsFilled given began) (with_alternative given) (filled_more given began) began (enumerate_from 0 ids) t (record { criteria = refl; classes = refl; alternatives = rw (alternatives-criteria_table c) tt }) e

table_filled : (given : Given) (c : Criteria) (ids : List (List ℕ)) (k : ℕ) (t : DecisionTable) → table_of given c ids k ≡ Ok t → IsFilled given (record (criteria_table c) { classes = k }) (enumerate_from 0 ids) t
unfolding table_of
table_filled given c ids k t e =
    let began : DecisionTable = record (criteria_table c) { classes = k } in
    let a = bind_ok (refuse _ (length c.ids.kept == 0 || length ids == 0)) _ t e in
    let b = bind_ok (read_all (with_alternative given) began (enumerate_from 0 ids)) _ t a.2 in
    subst (IsFilled given began (enumerate_from 0 ids)) (finished_same _ _ _ b.0 t b.2) (all_filled given c ids k b.0 b.1)

-- ---- of the ids' elements

ids_are : (given : Given) (n k : ℕ) (ids : List (List ℕ)) (ts : List Tree) (more : List Alternative) → AllZip (λ t id. id_of t ≡ Some id) ts ids → AllZip (IsRead given n) (enumerate_from k ids) more → AllZip IsAlternative ts more
ids_are given n k [] [] [] h r = tt
ids_are given n k [] [] (a ∷ more) h r = absurd r
ids_are given n k [] (t ∷ ts) more h r = absurd h
ids_are given n k (id ∷ ids) [] more h r = absurd h
ids_are given n k (id ∷ ids) (t ∷ ts) [] h r = absurd r
ids_are given n k (id ∷ ids) (t ∷ ts) (a ∷ more) h r = (h.0 ∙ ap (λ (x : List ℕ). Some x) (sym r.0.id), ids_are given n (k + 1) ids ts more h.1 r.1)

each_read : (given : Given) (n k : ℕ) (ids : List (List ℕ)) (more : List Alternative) (P : Alternative → Type 0) → ((j : ℕ) (id : List ℕ) (a : Alternative) → slice_get ids j ≡ Some id → IsRead given n (k + j, id) a → P a)
    → AllZip (IsRead given n) (enumerate_from k ids) more → AllByRecursion P more
each_read given n k [] [] P each r = tt
each_read given n k [] (a ∷ more) P each r = absurd r
each_read given n k (id ∷ ids) [] P each r = absurd r
each_read given n k (id ∷ ids) (a ∷ more) P each r =
    let first : k ≡ k + 0 = omega arith in
    (each 0 id a refl (subst (λ (m : ℕ). IsRead given n (m, id) a) first r.0), each_read given n (k + 1) ids more P (λ j x b there s. each (suc j) x b there (let next : (k + 1) + j ≡ k + suc j = omega arith in subst (λ (m : ℕ). IsRead given n (m, x) b) next s)) r.1)

-- what the table of a file is
pub record IsTableOf (root : Tree) (elements : List Tree) (c : Criteria) (ids : List (List ℕ)) (k : ℕ) (t : DecisionTable) : Type 0 where
  pub criteria : t.criteria ≡ (criteria_table c).criteria
  pub classes : t.classes ≡ k
  pub ids_are : alternative_ids t ≡ ids
  pub alternatives : AllZip IsAlternative elements t.alternatives
  pub performances : AllByRecursion (AreItsPerformances root t.criteria) t.alternatives

read_ids : (given : Given) (n k : ℕ) (ids : List (List ℕ)) (more : List Alternative) → AllZip (IsRead given n) (enumerate_from k ids) more → map (λ a. a.id) more ≡ ids
read_ids given n k [] [] r = refl
read_ids given n k [] (a ∷ more) r = absurd r
read_ids given n k (id ∷ ids) [] r = absurd r
read_ids given n k (id ∷ ids) (a ∷ more) r = rw (r.0.id, read_ids given n (k + 1) ids more r.1) refl

get-map : {A B : Type 0} (f : A → B) (xs : List A) (i : ℕ) (x : A) → slice_get xs i ≡ Some x → slice_get (map f xs) i ≡ Some (f x)
get-map f [] i x e = absurd cc
get-map f (y ∷ ys) zero x e = let same : y ≡ x = cc in ap (λ z. Some (f z)) same
get-map f (y ∷ ys) (suc i) x e = get-map f ys i x e

pub filled_meant : (root : Tree) (some other : List Tree) (alternatives : Roster) (c : Criteria) (given : Given) (k : ℕ) (t : DecisionTable) → IsRosterOf some alternatives → IsRosterOf other c.ids → performances_of alternatives c.ids root ≡ Ok given
    → IsFilled given (record (criteria_table c) { classes = k }) (enumerate_from 0 alternatives.kept) t → IsTableOf root (filter active some) c alternatives.kept k t
filled_meant root some other alternatives c given k t listed also e filled =
    let n : ℕ = length (criteria_table c).criteria in
    let names : map (λ c. c.id) t.criteria ≡ c.ids.kept = ap (map (λ c. c.id)) filled.criteria ∙ criteria_table-ids c in
    let size : n ≡ length t.criteria = ap length (sym filled.criteria) in
    record {
      criteria = filled.criteria;
      classes = filled.classes;
      ids_are = read_ids given n 0 alternatives.kept t.alternatives filled.alternatives;
      alternatives = ids_are given n 0 alternatives.kept (filter active some) t.alternatives listed.kept filled.alternatives;
      performances = each_read given n 0 alternatives.kept t.alternatives (AreItsPerformances root t.criteria) (λ a id one at read.
          let place : slice_get alternatives.kept a ≡ Some one.id = at ∙ ap (λ (x : List ℕ). Some x) (sym read.id) in
          let row : AllZip (λ i z. given_at given (a, i) ≡ Some z) (range_with_len 0 (length t.criteria)) one.performances = row_read given (length t.criteria) a one.performances (ap (λ (m : ℕ). row_of given m a) (sym size) ∙ row_is given n a one.performances read.row) in
          by_places (λ i z. given_at given (a, i) ≡ Some z) (λ criterion z. IsPerformance root one.id criterion.id z) t.criteria 0 one.performances (λ i criterion z there found.
          performances_given some other alternatives c.ids root given a i one.id criterion.id z listed also e place (subst (λ (ids : List (List ℕ)). slice_get ids i ≡ Some criterion.id) names (get-map (λ c. c.id) t.criteria i criterion there)) (place_found given a i z found)) row) filled.alternatives;
    }
  where
    row_is : (given : Given) (n a : ℕ) (row : List Amount) → row_of given n (0 + a) ≡ Ok row → row_of given n a ≡ Ok row
    row_is given n a row e = ap (λ (m : ℕ). row_of given n m) (sym (zero-add a)) ∙ e

    place_found : (given : Given) (a i : ℕ) (z : Amount) → given_at given (a, 0 + i) ≡ Some z → given_at given (a, i) ≡ Some z
    place_found given a i z e = ap (λ (m : ℕ). given_at given (a, m)) (sym (zero-add i)) ∙ e

pub table_meant : (root : Tree) (some other : List Tree) (alternatives : Roster) (c : Criteria) (given : Given) (k : ℕ) (t : DecisionTable) → IsRosterOf some alternatives → IsRosterOf other c.ids → performances_of alternatives c.ids root ≡ Ok given
    → table_of given c alternatives.kept k ≡ Ok t → IsTableOf root (filter active some) c alternatives.kept k t
table_meant root some other alternatives c given k t listed also e f = filled_meant root some other alternatives c given k t listed also e (table_filled given c alternatives.kept k t f)
