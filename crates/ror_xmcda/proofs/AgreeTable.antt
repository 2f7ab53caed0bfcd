-- The first fault of a document's performances.
use Rattle.std.proofs.Common.{◌≡◌, ℕ, suc, Bool, true, false, List, [], ◌∷◌, ◌++◌, Option, Some, None, Result, Ok, Err, refl, sym, ap, ◌∙◌, cond, subst}
use Rattle.std.specs.Prelude.{codes, filter, not, is_some, slice_get, option_map, ◌&&◌, ◌||◌}
use Rattle.std.specs.List.{list_any, AllZip}
use Rattle.std.specs.Str.{bytes_eq}
use Rattle.std.proofs.lemmas.Bool.{eq-eqb}
use Rattle.ror_text.specs.Reading.{◌>>=◌, refuse, need}
use Rattle.ror_table.specs.declared.amount.Amount.{Amount}
use Rattle.ror_table.specs.declared.fault.TableFault.{TableFault}
use Rattle.ror_table.specs.declared.fault.TableKind.TheVariants.{MissingPerformance, RepeatedPerformance, UnknownId}
use Rattle.ror_table.specs.Plain.{at_line}
use Rattle.ror_table.specs.Table.{place_of}
use Rattle.ror_table.proofs.NameLemmas.{place_of-sound}
use Rattle.ror_elements.specs.Tree.{Tree}
use Rattle.ror_xmcda.specs.declared.roster.Roster.{Roster}
use Rattle.ror_xmcda.specs.Nodes.{id_of, text_of, line_of, named, first_named}
use Rattle.ror_xmcda.specs.Roster.{standing}
use Rattle.ror_xmcda.specs.Listing.{standing_at, standing_in}
use Rattle.ror_xmcda.specs.Numbers.{number_of}
use Rattle.ror_xmcda.specs.Performances.{Place, Given, given_at, first_inside, value_of, kept_performance, performance_at, performance, performances, performances_of}
use Rattle.ror_xmcda.specs.Meaning.{active, is_text, listed_alternatives, listed_criteria, child_text, is_id_of, performance_groups, performances_in, HasNumber}
use Rattle.ror_xmcda.specs.Faults.{fault_if, in_order, unknown_faults, number_faults, value_faults, is_active_in, is_given, performance_faults, group_faults, all_performance_faults}
use Rattle.ror_xmcda.proofs.MeaningLemmas.{IsRosterOf, standing_at_place, standing_listed}
use Rattle.ror_xmcda.proofs.MeaningOpening.{position-cons}
use Rattle.ror_xmcda.proofs.MeaningTable.{numbers_at, first_number, given-first, stands, stands_at, AreGiven, taken, taken_more, taken_first, group_more}
use Rattle.ror_xmcda.proofs.ReadableLemmas.{standing_some}
use Rattle.ror_xmcda.proofs.ReadableTable.{AreGivenOf, elements_in}
use Rattle.ror_xmcda.proofs.AgreeLemmas.{Agrees, agrees_bind, agrees_last, agrees_refuse, agrees_need, agrees_all}

-- ---- what is named

standing_same : (listed : List Tree) (r : Roster) (id : List ℕ) → IsRosterOf listed r → is_some (standing r id) ≡ is_id_of listed (Some id)
standing_same listed r id are = by (is_id_of listed (Some id)) (standing r id) refl refl
  where
    by : (b : Bool) (o : Option (Option ℕ)) → is_id_of listed (Some id) ≡ b → standing r id ≡ o → is_some (standing r id) ≡ b
    by true o known is = standing_some listed r id are known
    by false None known is = ap is_some is
    by false (Some s) known is = absurd (let no : true ≡ false = sym (standing_listed listed r id s are is) ∙ known in cc)

pub standing_at_agrees : (listed : List Tree) (r : Roster) (t : Tree) → IsRosterOf listed r → Agrees (standing_at r t) (fault_if (at_line (line_of t) UnknownId) (not (is_id_of listed (Some (text_of t)))))
unfolding standing_at
standing_at_agrees listed r t are =
    subst (λ b. Agrees (need (at_line (line_of t) UnknownId) (standing r (text_of t))) (fault_if (at_line (line_of t) UnknownId) (not b))) (standing_same listed r (text_of t) are) (agrees_need (at_line (line_of t) UnknownId) (standing r (text_of t)))

standing_in_agrees : (listed : List Tree) (r : Roster) (owner : Tree) (o : Option Tree) → IsRosterOf listed r → Agrees (standing_in r owner o) (unknown_faults listed owner o)
standing_in_agrees listed r owner None are = refl
standing_in_agrees listed r owner (Some t) are = standing_at_agrees listed r t are

some_place : (ids : List (List ℕ)) (id : List ℕ) → is_some (place_of ids id) ≡ list_any (λ other. bytes_eq other id) ids
some_place [] id = refl
some_place (x ∷ ids) id =
    ap is_some (position-cons (λ other. bytes_eq other id) x ids) ∙ by (bytes_eq x id) (place_of ids id) ∙ ap (λ b. bytes_eq x id || b) (some_place ids id)
  where
    by : (b : Bool) (o : Option ℕ) → is_some (cond b (Some 0) (option_map suc o)) ≡ (b || is_some o)
    by true o = refl
    by false None = refl
    by false (Some k) = refl

ids_any : (id : List ℕ) (ts : List Tree) (ids : List (List ℕ)) → AllZip (λ t id. id_of t ≡ Some id) ts ids → list_any (λ t. is_text id (id_of t)) ts ≡ list_any (λ other. bytes_eq other id) ids
ids_any id [] [] h = refl
ids_any id [] (x ∷ ids) h = absurd h
ids_any id (t ∷ ts) [] h = absurd h
ids_any id (t ∷ ts) (x ∷ ids) h = ap (λ (o : Option (List ℕ)). is_text id o || list_any (λ t. is_text id (id_of t)) ts) h.0 ∙ ap (λ b. bytes_eq x id || b) (ids_any id ts ids h.1)

-- what is named is active exactly where it has a place
active_stands : (listed : List Tree) (r : Roster) (owner : Tree) (o : Option Tree) (s : Option ℕ) → IsRosterOf listed r → standing_in r owner o ≡ Ok s → is_active_in listed (option_map text_of o) ≡ is_some s
active_stands listed r owner None s are e = absurd cc
active_stands listed r owner (Some t) s are e =
    ids_any (text_of t) (filter active listed) r.kept are.kept ∙ sym (some_place r.kept (text_of t)) ∙ ap is_some (sym (standing_at_place listed r t s are e))

-- ---- a performance

pub any_given : (place : Place) (elements : List Tree) (given : Given) → AreGiven place elements given → is_some (given_at given place) ≡ list_any (λ t. true) elements
any_given place elements given are = ap is_some (given-first place given) ∙ by elements (numbers_at place given) are.numbers
  where
    by : (ts : List Tree) (zs : List Amount) → AllZip HasNumber ts zs → is_some (first_number zs) ≡ list_any (λ t. true) ts
    by [] [] h = refl
    by [] (z ∷ zs) h = absurd h
    by (t ∷ ts) [] h = absurd h
    by (t ∷ ts) (z ∷ zs) h = refl

number_agrees : (r : Result Amount TableFault) → Agrees r (number_faults r)
number_agrees (Ok z) = refl
number_agrees (Err fault) = refl

kept_agrees : (given : Given) (place : Place) (t : Tree) (rep : Bool) → is_some (given_at given place) ≡ rep → Agrees (kept_performance given place t) (value_faults t (first_inside (first_named (codes "value") t)) ++ fault_if (at_line (line_of t) RepeatedPerformance) rep)
unfolding kept_performance value_of
kept_agrees given place t rep is = by (first_inside (first_named (codes "value") t))
  where
    by : (o : Option Tree) → Agrees (need (at_line (line_of t) MissingPerformance) o >>= λ value. number_of value >>= λ number. refuse (at_line (line_of t) RepeatedPerformance) (is_some (given_at given place)) >>= λ _. Ok (given ++ (place, number) ∷ []))
        (value_faults t o ++ fault_if (at_line (line_of t) RepeatedPerformance) rep)
    by None = refl
    by (Some value) =
        agrees_bind (number_of value) (λ number. refuse (at_line (line_of t) RepeatedPerformance) (is_some (given_at given place)) >>= λ _. Ok (given ++ (place, number) ∷ [])) (number_faults (number_of value)) (fault_if (at_line (line_of t) RepeatedPerformance) rep) (number_agrees (number_of value)) (λ number e.
        agrees_last (refuse (at_line (line_of t) RepeatedPerformance) (is_some (given_at given place))) (λ u. given ++ (place, number) ∷ []) (fault_if (at_line (line_of t) RepeatedPerformance) rep)
        (subst (λ b. Agrees (refuse (at_line (line_of t) RepeatedPerformance) (is_some (given_at given place))) (fault_if (at_line (line_of t) RepeatedPerformance) b)) is (agrees_refuse (at_line (line_of t) RepeatedPerformance) (is_some (given_at given place)))))

-- where the reading stands
record IsIn (root : Tree) (alternatives criteria : Roster) (group : Tree) (s : Option ℕ) : Type 0 where
  alternatives_are : IsRosterOf (listed_alternatives root) alternatives
  criteria_are : IsRosterOf (listed_criteria root) criteria
  read : standing_in alternatives group (first_named (codes "alternativeID") group) ≡ Ok s

-- a text that has a place stands there
text_there : (listed : List Tree) (r : Roster) (owner : Tree) (o : Option Tree) (k : ℕ) → IsRosterOf listed r → standing_in r owner o ≡ Ok (Some k) → (id : List ℕ) × (slice_get r.kept k ≡ Some id) × (option_map text_of o ≡ Some id)
text_there listed r owner None k are e = absurd cc
text_there listed r owner (Some t) k are e = (text_of t, stands r.kept k (text_of t) (place_of-sound r.kept (text_of t) k (sym (standing_at_place listed r t (Some k) are e))), refl)

active_agrees : (root : Tree) (alternatives criteria : Roster) (groups : List Tree) (group : Tree) (before : List Tree) (t : Tree) (a i : ℕ) (given : Given) → IsIn root alternatives criteria group (Some a) → AreGivenOf alternatives criteria (elements_in groups before (Some a)) given → standing_in criteria t (first_named (codes "criterionID") t) ≡ Ok (Some i)
    → Agrees (kept_performance given (a, i) t) (value_faults t (first_inside (first_named (codes "value") t)) ++ fault_if (at_line (line_of t) RepeatedPerformance) (is_given groups before (child_text (codes "alternativeID") group) (child_text (codes "criterionID") t)))
active_agrees root alternatives criteria groups group before t a i given are h on =
    let x = text_there (listed_alternatives root) alternatives group (first_named (codes "alternativeID") group) a are.alternatives_are are.read in
    let y = text_there (listed_criteria root) criteria t (first_named (codes "criterionID") t) i are.criteria_are on in
    let named_so : is_given groups before (child_text (codes "alternativeID") group) (child_text (codes "criterionID") t) ≡ is_given groups before (Some x.0) (Some y.0) = ap (λ (o : Option (List ℕ)). is_given groups before o (child_text (codes "criterionID") t)) x.2 ∙ ap (is_given groups before (Some x.0)) y.2 in
    let mine : list_any (λ t. true) (elements_in groups before (Some a) a x.0 y.0) ≡ is_given groups before (Some x.0) (Some y.0) = ap (λ b. list_any (λ t. true) (performances_in x.0 y.0 groups ++ taken b y.0 before)) (eq-eqb a a refl) in
    kept_agrees given (a, i) t (is_given groups before (child_text (codes "alternativeID") group) (child_text (codes "criterionID") t)) (any_given (a, i) (elements_in groups before (Some a) a x.0 y.0) given (h a i x.0 y.0 x.1 y.1) ∙ mine ∙ sym named_so)

performance_agrees : (root : Tree) (alternatives criteria : Roster) (groups : List Tree) (group : Tree) (before : List Tree) (t : Tree) (s : Option ℕ) (given : Given) → IsIn root alternatives criteria group s → AreGivenOf alternatives criteria (elements_in groups before s) given → Agrees (performance criteria s given t) (performance_faults root groups group before t)
unfolding performance
performance_agrees root alternatives criteria groups group before t s given are h =
    let more : List TableFault = value_faults t (first_inside (first_named (codes "value") t)) ++ fault_if (at_line (line_of t) RepeatedPerformance) (is_given groups before (child_text (codes "alternativeID") group) (child_text (codes "criterionID") t)) in
    let one : is_active_in (listed_alternatives root) (child_text (codes "alternativeID") group) ≡ is_some s = active_stands (listed_alternatives root) alternatives group (first_named (codes "alternativeID") group) s are.alternatives_are are.read in
    agrees_bind (standing_in criteria t (first_named (codes "criterionID") t)) _ (unknown_faults (listed_criteria root) t (first_named (codes "criterionID") t)) _ (standing_in_agrees (listed_criteria root) criteria t (first_named (codes "criterionID") t) are.criteria_are) (λ c e.
    let other : is_active_in (listed_criteria root) (child_text (codes "criterionID") t) ≡ is_some c = active_stands (listed_criteria root) criteria t (first_named (codes "criterionID") t) c are.criteria_are e in
    subst (λ b. Agrees (performance_at given s c t) (cond b more [])) (sym (ap (λ b. b && is_active_in (listed_criteria root) (child_text (codes "criterionID") t)) one ∙ ap (λ b. is_some s && b) other)) (by s c are h e))
  where
    by : (s c : Option ℕ) → IsIn root alternatives criteria group s → AreGivenOf alternatives criteria (elements_in groups before s) given → standing_in criteria t (first_named (codes "criterionID") t) ≡ Ok c
        → Agrees (performance_at given s c t) (cond (is_some s && is_some c) (value_faults t (first_inside (first_named (codes "value") t)) ++ fault_if (at_line (line_of t) RepeatedPerformance) (is_given groups before (child_text (codes "alternativeID") group) (child_text (codes "criterionID") t))) [])
    by (Some a) (Some i) are h e = active_agrees root alternatives criteria groups group before t a i given are h e
    by (Some a) None are h e = refl
    by None c are h e = refl

group_agrees : (root : Tree) (alternatives criteria : Roster) (groups : List Tree) (group : Tree) (given : Given) → IsRosterOf (listed_alternatives root) alternatives → IsRosterOf (listed_criteria root) criteria → AreGivenOf alternatives criteria (λ a alternative criterion. performances_in alternative criterion groups) given
    → Agrees (performances alternatives criteria given group) (group_faults root groups group)
unfolding performances
group_agrees root alternatives criteria groups group given are also h =
    agrees_bind (standing_in alternatives group (first_named (codes "alternativeID") group)) _ (unknown_faults (listed_alternatives root) group (first_named (codes "alternativeID") group)) (in_order (performance_faults root groups group) [] (named (codes "performance") group)) (standing_in_agrees (listed_alternatives root) alternatives group (first_named (codes "alternativeID") group) are) (λ s e.
    let here : IsIn root alternatives criteria group s = record { alternatives_are = are; criteria_are = also; read = e } in
    agrees_all (λ ts now. AreGivenOf alternatives criteria (elements_in groups ts s) now) (performance criteria s) (performance_faults root groups group)
    (λ ts now t next k f a i alternative criterion at there. taken_more (listed_criteria root) criteria a i criterion s (performances_in alternative criterion groups) ts now t next also there (k a i alternative criterion at there) f)
    (λ ts now t k. performance_agrees root alternatives criteria groups group ts t s now here k)
    [] given (named (codes "performance") group) (λ a i alternative criterion at there. taken_first (a, i) (stands_at a s) criterion (performances_in alternative criterion groups) given (h a i alternative criterion at there)))

pub performances_agree : (root : Tree) (alternatives criteria : Roster) → IsRosterOf (listed_alternatives root) alternatives → IsRosterOf (listed_criteria root) criteria → Agrees (performances_of alternatives criteria root) (all_performance_faults root)
unfolding performances_of
performances_agree root alternatives criteria are also =
    agrees_all (λ groups now. AreGivenOf alternatives criteria (λ a alternative criterion. performances_in alternative criterion groups) now) (performances alternatives criteria) (group_faults root)
    (λ groups now group next k f a i alternative criterion at there. group_more (listed_alternatives root) (listed_criteria root) alternatives criteria a i alternative criterion are also at there groups now group next (k a i alternative criterion at there) f)
    (λ groups now group k. group_agrees root alternatives criteria groups group now are also k)
    [] [] (performance_groups root) (λ a i alternative criterion at there. record { numbers = tt; few = tt })
