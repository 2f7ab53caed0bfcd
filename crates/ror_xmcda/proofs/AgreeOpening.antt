-- The first fault of the statements of a document.
use Rattle.std.proofs.Common.{◌≡◌, ℕ, Bool, true, false, List, [], ◌∷◌, ◌++◌, map, Option, Some, None, Result, Ok, Err, refl, sym, ap, ◌∙◌, cond, subst, append-nil, append_assoc}
use Rattle.std.specs.Prelude.{codes, not, nat_lt, slice_get, option_map, unwrap_or, is_some, ◌||◌}
use Rattle.std.specs.List.{list_any, flat_map}
use Rattle.std.proofs.lemmas.Grind.{flat_map-append}
use Rattle.std.proofs.lemmas.List.{map-append}
use Rattle.std.proofs.lemmas.List.Folds.{list_any-append}
use Rattle.std.proofs.lemmas.Option.{slice_get-map}
use Rattle.ror_text.specs.Reading.{◌>>=◌, refuse, need, read_all}
use Rattle.ror_text.proofs.ReadingLemmas.{bind_ok}
use Rattle.ror_statement.specs.declared.row_number.TheConstants.{MOST_STATEMENTS, MOST_ROWS}
use Rattle.ror_statement.specs.declared.statement.Statement.{Statement}
use Rattle.ror_statement.specs.RowNumbers.{row_count}
use Rattle.ror_table.specs.declared.fault.Kind.TheVariants as unsupported
use Rattle.ror_table.specs.declared.fault.TableFault.{TableFault}
use Rattle.ror_table.specs.declared.fault.TableKind.TheVariants.{TooMany, UnknownId, Unsupported}
use Rattle.ror_table.specs.declared.fault.What.TheVariants as whats
use Rattle.ror_table.specs.Plain.{at_line}
use Rattle.ror_elements.specs.Tree.{Tree}
use Rattle.ror_xmcda.specs.declared.affectations.Assigned.{Assigned}
use Rattle.ror_xmcda.specs.declared.affectations.Classes.{Classes}
use Rattle.ror_xmcda.specs.declared.categories.Categories.{Categories}
use Rattle.ror_xmcda.specs.declared.roster.Roster.{Roster}
use Rattle.ror_xmcda.specs.declared.stated.Stated.{Stated}
use Rattle.ror_xmcda.specs.Nodes.{line_of, is_named, inside, first_named}
use Rattle.ror_xmcda.specs.Listing.{standing_at}
use Rattle.ror_xmcda.specs.Ends.{Ends, ends_of, both, is_either}
use Rattle.ror_xmcda.specs.Comparisons.{first_standing, member, side, preference, pair, comparisons_of}
use Rattle.ror_xmcda.specs.Affectations.{class_at, bound, between, interval, single, nothing_assigned, with_alternative, with_classes, is_set, part, is_complete, assignment, affectation, affectations_of}
use Rattle.ror_xmcda.specs.Opening.{statements, refuse_more, opening_of}
use Rattle.ror_xmcda.specs.Meaning.{listed_categories, listed_alternatives, pairs, affectations}
use Rattle.ror_xmcda.specs.Faults.{fault_if, all_in_order, no_alternative_faults, if_first, member_faults, side_faults, both_faults, ends_faults, pair_faults, no_category_faults, bound_faults, interval_faults, part_faults, affectation_faults, more_faults}
use Rattle.ror_xmcda.proofs.MeaningLemmas.{read_all_from_first, IsRosterOf}
use Rattle.ror_xmcda.proofs.MeaningListing.{AreCategories}
use Rattle.ror_xmcda.proofs.MeaningOpening.{or_else, place_in, member_is, part_is}
use Rattle.ror_xmcda.proofs.AgreeLemmas.{Agrees, agrees_bind, agrees_last, agrees_refuse, agrees_need, agrees_all}
use Rattle.ror_xmcda.proofs.AgreeTable.{standing_at_agrees}

-- ---- what was seen before

-- one of a kind was seen exactly where one stands before
seen_more : {A : Type 0} (p : Tree → Bool) (before : List Tree) (t : Tree) (o next : Option A) (x : A) → is_some o ≡ list_any p before → next ≡ or_else o (cond (p t) (Some x) None) → is_some next ≡ list_any p (before ++ t ∷ [])
seen_more {A} p before t o next x h e = ap is_some e ∙ by o (p t) ∙ ap (λ b. b || (p t || false)) h ∙ sym (list_any-append p before (t ∷ []))
  where
    by : (o : Option A) (b : Bool) → is_some (or_else o (cond b (Some x) None)) ≡ (is_some o || (b || false))
    by None true = refl
    by None false = refl
    by (Some y) b = refl

-- ---- comparisons

first_agrees : (root : Tree) (r : Roster) (found : Option (Option ℕ)) (t : Tree) → IsRosterOf (listed_alternatives root) r → Agrees (first_standing r found t) (cond (is_some found) [] (no_alternative_faults root t))
first_agrees root r None t are = agrees_last (standing_at r t) _ (no_alternative_faults root t) (standing_at_agrees (listed_alternatives root) r t are)
first_agrees root r (Some s) t are = refl

if_first_agrees : {A : Type 0} (r : Result A TableFault) (p : Tree → Bool) (before : List Tree) (seen : Bool) (faults : List TableFault) → seen ≡ list_any p before → Agrees r (cond seen [] faults) → Agrees r (if_first p before faults)
if_first_agrees r p before seen faults same h = subst (λ b. Agrees r (cond b [] faults)) same h

member_agrees : (root : Tree) (r : Roster) (before : List Tree) (found : Option (Option ℕ)) (t : Tree) → IsRosterOf (listed_alternatives root) r → is_some found ≡ list_any (is_named (codes "alternativeID")) before → Agrees (member r found t) (member_faults root before t)
unfolding member
member_agrees root r before found t are seen = by (is_named (codes "alternativeID") t)
  where
    by : (b : Bool) → Agrees (cond b (first_standing r found t) (Err (at_line (line_of t) (Unsupported unsupported.Member)))) (cond b (if_first (is_named (codes "alternativeID")) before (no_alternative_faults root t)) (at_line (line_of t) (Unsupported unsupported.Member) ∷ []))
    by true = if_first_agrees (first_standing r found t) (is_named (codes "alternativeID")) before (is_some found) (no_alternative_faults root t) seen (first_agrees root r found t are)
    by false = refl

-- what was found so far
abbrev IsFoundIn : List Tree → Option (Option ℕ) → Type 0
IsFoundIn before found = is_some found ≡ list_any (is_named (codes "alternativeID")) before

member_more : (root : Tree) (r : Roster) → IsRosterOf (listed_alternatives root) r → (before : List Tree) (found : Option (Option ℕ)) (t : Tree) (next : Option (Option ℕ)) → IsFoundIn before found → member r found t ≡ Ok next → IsFoundIn (before ++ t ∷ []) next
member_more root r are before found t next h e = seen_more (is_named (codes "alternativeID")) before t found next (place_in r t) h (member_is (listed_alternatives root) r are found t next e)

side_agrees : (root : Tree) (r : Roster) → IsRosterOf (listed_alternatives root) r → (t : Tree) → Agrees (side r t) (side_faults root t)
unfolding side
side_agrees root r are t =
    agrees_bind (read_all (member r) None (inside t)) _ (all_in_order (member_faults root) (inside t)) (fault_if (at_line (line_of t) UnknownId) (not (list_any (is_named (codes "alternativeID")) (inside t))))
    (agrees_all IsFoundIn (member r) (member_faults root) (member_more root r are) (λ before found u h. member_agrees root r before found u are h) [] None (inside t) refl) (λ found e.
    subst (λ b. Agrees (need (at_line (line_of t) UnknownId) found) (fault_if (at_line (line_of t) UnknownId) (not b))) (read_all_from_first IsFoundIn (member r) (member_more root r are) None (inside t) found refl e) (agrees_need (at_line (line_of t) UnknownId) found))

both_agree : {A : Type 0} (turned : Bool) (one other : Result A TableFault) (faults more : List TableFault) → Agrees one faults → Agrees other more → Agrees (both turned one other) (both_faults turned faults more)
both_agree false one other faults more h k = agrees_bind one _ faults more h (λ x e. agrees_last other _ more k)
both_agree true one other faults more h k = agrees_bind other _ more faults k (λ y e. agrees_last one _ faults h)

ends_agree : {A B : Type 0} (owner : Tree) (read : Tree → Result A TableFault) (faults : Tree → List TableFault) (g : A × A → B) → ((t : Tree) → Agrees (read t) (faults t)) → (o : Option Ends)
    → Agrees (need (at_line (line_of owner) UnknownId) o >>= λ ends. both ends.turned (read ends.first) (read ends.second) >>= λ x. Ok (g x)) (ends_faults owner faults o)
ends_agree owner read faults g each None = refl
ends_agree owner read faults g each (Some ends) =
    agrees_last (both ends.turned (read ends.first) (read ends.second)) g (both_faults ends.turned (faults ends.first) (faults ends.second)) (both_agree ends.turned (read ends.first) (read ends.second) (faults ends.first) (faults ends.second) (each ends.first) (each ends.second))

pair_agrees : (root : Tree) (r : Roster) (before : List Tree) (stated : List Stated) (t : Tree) → IsRosterOf (listed_alternatives root) r → Agrees (pair r stated t) (pair_faults root before t)
unfolding pair
pair_agrees root r before stated t are = ends_agree t (side r) (side_faults root) (λ places. stated ++ preference (line_of t) places.0 places.1) (side_agrees root r are) (ends_of (codes "initial") (codes "terminal") t)

pub comparisons_agree : (root : Tree) (r : Roster) → IsRosterOf (listed_alternatives root) r → Agrees (comparisons_of r [] root) (all_in_order (pair_faults root) (pairs root))
unfolding comparisons_of
comparisons_agree root r are = agrees_all (λ before (s : List Stated). Unit {0}) (pair r) (pair_faults root) (λ before s t next u e. tt) (λ before s t u. pair_agrees root r before s t are) [] [] (pairs root) tt

-- ---- assignments

class_agrees : (best_first : Bool) (root : Tree) (c : Categories) (t : Tree) → AreCategories (listed_categories root) c → Agrees (class_at best_first c t) (no_category_faults root t)
unfolding class_at
class_agrees best_first root c t are = agrees_last (standing_at c.ids t) _ (no_category_faults root t) (standing_at_agrees (listed_categories root) c.ids t are.ids)

single_agrees : (best_first : Bool) (root : Tree) (c : Categories) (t : Tree) → AreCategories (listed_categories root) c → Agrees (single best_first c t) (no_category_faults root t)
unfolding single
single_agrees best_first root c t are = agrees_last (class_at best_first c t) _ (no_category_faults root t) (class_agrees best_first root c t are)

bound_agrees : (best_first : Bool) (root : Tree) (c : Categories) → AreCategories (listed_categories root) c → (t : Tree) → Agrees (bound best_first c t) (bound_faults root t)
unfolding bound
bound_agrees best_first root c are t = class_agrees best_first root c (unwrap_or (first_named (codes "categoryID") t) t) are

interval_agrees : (best_first : Bool) (root : Tree) (c : Categories) (t : Tree) → AreCategories (listed_categories root) c → Agrees (interval best_first c t) (interval_faults root t)
unfolding interval
interval_agrees best_first root c t are = ends_agree t (bound best_first c) (bound_faults root) (λ classes. between classes.0 classes.1) (bound_agrees best_first root c are) (ends_of (codes "lowerBound") (codes "upperBound") t)

classes_agree : (a : Assigned) (before : Option (Option Classes)) (classes : Result (Option Classes) TableFault) (faults : List TableFault) → Agrees classes faults → Agrees (with_classes a before classes) (cond (is_some before) [] faults)
classes_agree a (Some c) classes faults h = refl
classes_agree a None classes faults h = agrees_last classes _ faults h

-- what was seen of an assignment so far
record IsAssignedIn (before : List Tree) (a : Assigned) : Type 0 where
  alternative : is_some a.alternative ≡ list_any (is_named (codes "alternativeID")) before
  classes : is_some a.classes ≡ list_any (is_either (codes "categoryID") (codes "categoriesInterval")) before

part_more : (best_first : Bool) (root : Tree) (r : Roster) (c : Categories) → IsRosterOf (listed_alternatives root) r → AreCategories (listed_categories root) c → (before : List Tree) (a : Assigned) (t : Tree) (next : Assigned) → IsAssignedIn before a → part best_first r c a t ≡ Ok next → IsAssignedIn (before ++ t ∷ []) next
part_more best_first root r c are also before a t next h e =
    let is = part_is best_first root (listed_alternatives root) r c are also a t next e in
    record {
      alternative = seen_more (is_named (codes "alternativeID")) before t a.alternative next.alternative _ h.alternative is.alternative;
      classes = seen_more (is_either (codes "categoryID") (codes "categoriesInterval")) before t a.classes next.classes _ h.classes is.classes;
    }

part_agrees : (best_first : Bool) (root : Tree) (r : Roster) (c : Categories) → IsRosterOf (listed_alternatives root) r → AreCategories (listed_categories root) c → (before : List Tree) (a : Assigned) (t : Tree) → IsAssignedIn before a → Agrees (part best_first r c a t) (part_faults root before t)
unfolding part
part_agrees best_first root r c are also before a t h = by (is_set t) (is_named (codes "alternativeID") t) (is_named (codes "categoryID") t) (is_named (codes "categoriesInterval") t)
  where
    by : (b x y z : Bool)
        → Agrees (cond b (Err (at_line (line_of t) (Unsupported unsupported.Member))) (cond x (with_alternative a (first_standing r a.alternative t)) (cond y (with_classes a a.classes (single best_first c t)) (cond z (with_classes a a.classes (interval best_first c t)) (Ok a)))))
        (cond b (at_line (line_of t) (Unsupported unsupported.Member) ∷ []) (cond x (if_first (is_named (codes "alternativeID")) before (no_alternative_faults root t)) (cond y (if_first (is_either (codes "categoryID") (codes "categoriesInterval")) before (no_category_faults root t)) (cond z (if_first (is_either (codes "categoryID") (codes "categoriesInterval")) before (interval_faults root t)) []))))
    by true x y z = refl
    by false true y z = if_first_agrees (with_alternative a (first_standing r a.alternative t)) (is_named (codes "alternativeID")) before (is_some a.alternative) (no_alternative_faults root t) h.alternative (agrees_last (first_standing r a.alternative t) _ (cond (is_some a.alternative) [] (no_alternative_faults root t)) (first_agrees root r a.alternative t are))
    by false false true z = if_first_agrees (with_classes a a.classes (single best_first c t)) (is_either (codes "categoryID") (codes "categoriesInterval")) before (is_some a.classes) (no_category_faults root t) h.classes (classes_agree a a.classes (single best_first c t) (no_category_faults root t) (single_agrees best_first root c t also))
    by false false false true = if_first_agrees (with_classes a a.classes (interval best_first c t)) (is_either (codes "categoryID") (codes "categoriesInterval")) before (is_some a.classes) (interval_faults root t) h.classes (classes_agree a a.classes (interval best_first c t) (interval_faults root t) (interval_agrees best_first root c t also))
    by false false false false = refl

affectation_agrees : (best_first : Bool) (root : Tree) (r : Roster) (c : Categories) (before : List Tree) (stated : List Stated) (t : Tree) → IsRosterOf (listed_alternatives root) r → AreCategories (listed_categories root) c → Agrees (affectation best_first r c stated t) (affectation_faults root before t)
unfolding affectation
affectation_agrees best_first root r c before stated t are also =
    agrees_bind (refuse (at_line (line_of t) UnknownId) (not (is_complete t))) _ (fault_if (at_line (line_of t) UnknownId) (not (is_complete t))) (all_in_order (part_faults root) (inside t)) (agrees_refuse (at_line (line_of t) UnknownId) (not (is_complete t))) (λ u e.
    agrees_last (read_all (part best_first r c) nothing_assigned (inside t)) _ (all_in_order (part_faults root) (inside t))
    (agrees_all IsAssignedIn (part best_first r c) (part_faults root) (part_more best_first root r c are also) (λ before a u h. part_agrees best_first root r c are also before a u h) [] nothing_assigned (inside t) (record { alternative = refl; classes = refl })))

pub affectations_agree : (best_first : Bool) (root : Tree) (r : Roster) (c : Categories) (stated : List Stated) → IsRosterOf (listed_alternatives root) r → AreCategories (listed_categories root) c → Agrees (affectations_of best_first r c stated root) (all_in_order (affectation_faults root) (affectations root))
unfolding affectations_of
affectations_agree best_first root r c stated are also = agrees_all (λ before (s : List Stated). Unit {0}) (affectation best_first r c) (affectation_faults root) (λ before s t next u e. tt) (λ before s t u. affectation_agrees best_first root r c before s t are also) [] stated (affectations root) tt

-- ---- the lines of what is stated

-- what an element states comes behind, at its line
pub record IsStatedAt (line : ℕ) (stated next : List Stated) : Type 0 where
  pub more : List Stated
  pub is : next ≡ stated ++ more
  pub lines : map (λ (s : Stated). s.line) more ≡ map (λ s. line) (statements more)

preference_lines : (line : ℕ) (a b : Option ℕ) → map (λ (s : Stated). s.line) (preference line a b) ≡ map (λ s. line) (statements (preference line a b))
preference_lines line (Some a) (Some b) = refl
preference_lines line (Some a) None = refl
preference_lines line None b = refl

pub pair_stated : (r : Roster) (stated : List Stated) (t : Tree) (next : List Stated) → pair r stated t ≡ Ok next → IsStatedAt (line_of t) stated next
unfolding pair
pair_stated r stated t next e =
    let a = bind_ok (need _ (ends_of (codes "initial") (codes "terminal") t)) _ next e in
    let b = bind_ok (both a.0.turned (side r a.0.first) (side r a.0.second)) _ next a.2 in
    let more : List Stated = preference (line_of t) b.0.0 b.0.1 in
    let same : stated ++ more ≡ next = (let q : ◌≡◌ {A = Result (List Stated) TableFault} (Ok (stated ++ more)) (Ok next) = b.2 in cc) in
    record { more = more; is = sym same; lines = preference_lines (line_of t) b.0.0 b.0.1 }

assignment_lines : (line : ℕ) (a : Option (Option ℕ)) (c : Option (Option Classes)) → map (λ (s : Stated). s.line) (assignment line a c) ≡ map (λ s. line) (statements (assignment line a c))
assignment_lines line (Some (Some a)) (Some (Some c)) = refl
assignment_lines line (Some (Some a)) (Some None) = refl
assignment_lines line (Some (Some a)) None = refl
assignment_lines line (Some None) c = refl
assignment_lines line None c = refl

pub affectation_stated : (best_first : Bool) (r : Roster) (c : Categories) (stated : List Stated) (t : Tree) (next : List Stated) → affectation best_first r c stated t ≡ Ok next → IsStatedAt (line_of t) stated next
unfolding affectation
affectation_stated best_first r c stated t next e =
    let u = bind_ok (refuse _ (not (is_complete t))) _ next e in
    let a = bind_ok (read_all (part best_first r c) nothing_assigned (inside t)) _ next u.2 in
    let more : List Stated = assignment (line_of t) a.0.alternative a.0.classes in
    let same : stated ++ more ≡ next = (let q : ◌≡◌ {A = Result (List Stated) TableFault} (Ok (stated ++ more)) (Ok next) = a.2 in cc) in
    record { more = more; is = sym same; lines = assignment_lines (line_of t) a.0.alternative a.0.classes }

-- two lists that begin alike end alike
same_end : {A : Type 0} (xs ys zs : List A) → xs ++ ys ≡ xs ++ zs → ys ≡ zs
same_end [] ys zs e = e
same_end (x ∷ xs) ys zs e = let rest : xs ++ ys ≡ xs ++ zs = cc in same_end xs ys zs rest

-- the lines of all that is stated, an element's once for each of its statements
pub all_lines : (step : List Stated → Tree → Result (List Stated) TableFault) (says : Tree → List Statement) → ((stated : List Stated) (t : Tree) (next : List Stated) → step stated t ≡ Ok next → statements next ≡ statements stated ++ says t) → ((stated : List Stated) (t : Tree) (next : List Stated) → step stated t ≡ Ok next → IsStatedAt (line_of t) stated next)
    → (stated : List Stated) (ts : List Tree) (last : List Stated) → read_all step stated ts ≡ Ok last → map (λ (s : Stated). s.line) last ≡ map (λ (s : Stated). s.line) stated ++ flat_map (λ t. map (λ s. line_of t) (says t)) ts
all_lines step says each at stated ts last e =
    read_all_from_first (λ before now. map (λ (s : Stated). s.line) now ≡ map (λ (s : Stated). s.line) stated ++ flat_map (λ t. map (λ s. line_of t) (says t)) before) step more stated ts last (sym (append-nil (map (λ (s : Stated). s.line) stated))) e
  where
    said : (now : List Stated) (t : Tree) (next : List Stated) → step now t ≡ Ok next → map (λ (s : Stated). s.line) next ≡ map (λ (s : Stated). s.line) now ++ map (λ s. line_of t) (says t)
    said now t next e =
        let by = at now t next e in
        let behind : statements now ++ statements by.more ≡ statements now ++ says t = sym (map-append (λ (s : Stated). s.statement) now by.more) ∙ ap statements (sym by.is) ∙ each now t next e in
        let own : statements by.more ≡ says t = same_end (statements now) (statements by.more) (says t) behind in
        ap (map (λ (s : Stated). s.line)) by.is ∙ map-append (λ (s : Stated). s.line) now by.more ∙ ap (λ (xs : List ℕ). map (λ (s : Stated). s.line) now ++ xs) (by.lines ∙ ap (map (λ s. line_of t)) own)

    more : (before : List Tree) (now : List Stated) (t : Tree) (next : List Stated) → map (λ (s : Stated). s.line) now ≡ map (λ (s : Stated). s.line) stated ++ flat_map (λ t. map (λ s. line_of t) (says t)) before → step now t ≡ Ok next
        → map (λ (s : Stated). s.line) next ≡ map (λ (s : Stated). s.line) stated ++ flat_map (λ t. map (λ s. line_of t) (says t)) (before ++ t ∷ [])
    more before now t next h e =
        let f : Tree → List ℕ = λ t. map (λ s. line_of t) (says t) in
        said now t next e ∙ ap (λ (xs : List ℕ). xs ++ f t) h ∙ append_assoc (map (λ (s : Stated). s.line) stated) (flat_map f before) (f t)
        ∙ ap (λ (xs : List ℕ). map (λ (s : Stated). s.line) stated ++ xs) (ap (λ (xs : List ℕ). flat_map f before ++ xs) (sym (append-nil (f t))) ∙ sym (flat_map-append f before (t ∷ [])))

-- ---- the number of statements

more_agrees : (stated : List Stated) (k : ℕ) (lines : List ℕ) → map (λ (s : Stated). s.line) stated ≡ lines → Agrees (refuse_more (slice_get stated k)) (more_faults (slice_get lines k))
more_agrees stated k lines same = subst (λ (xs : List ℕ). Agrees (refuse_more (slice_get stated k)) (more_faults (slice_get xs k))) same (subst (λ (o : Option ℕ). Agrees (refuse_more (slice_get stated k)) (more_faults o)) (sym (slice_get-map (λ (s : Stated). s.line) stated k)) (by (slice_get stated k)))
  where
    by : (o : Option Stated) → Agrees (refuse_more o) (more_faults (option_map (λ (s : Stated). s.line) o))
    by None = refl
    by (Some s) = refl

pub opening_agrees : (stated : List Stated) (lines : List ℕ) (said : List Statement) → map (λ (s : Stated). s.line) stated ≡ lines → statements stated ≡ said
    → Agrees (opening_of stated) (more_faults (slice_get lines MOST_STATEMENTS) ++ fault_if (at_line 0 (TooMany whats.Rows)) (nat_lt MOST_ROWS (row_count said)))
unfolding opening_of
opening_agrees stated lines said same also =
    agrees_bind (refuse_more (slice_get stated MOST_STATEMENTS)) _ (more_faults (slice_get lines MOST_STATEMENTS)) (fault_if (at_line 0 (TooMany whats.Rows)) (nat_lt MOST_ROWS (row_count said))) (more_agrees stated MOST_STATEMENTS lines same) (λ u e.
    agrees_last (refuse (at_line 0 (TooMany whats.Rows)) (nat_lt MOST_ROWS (row_count (statements stated)))) _ (fault_if (at_line 0 (TooMany whats.Rows)) (nat_lt MOST_ROWS (row_count said)))
    (subst (λ (xs : List Statement). Agrees (refuse (at_line 0 (TooMany whats.Rows)) (nat_lt MOST_ROWS (row_count (statements stated)))) (fault_if (at_line 0 (TooMany whats.Rows)) (nat_lt MOST_ROWS (row_count xs)))) also (agrees_refuse (at_line 0 (TooMany whats.Rows)) (nat_lt MOST_ROWS (row_count (statements stated))))))
