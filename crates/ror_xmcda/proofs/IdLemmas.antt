-- The ids of what is kept are valid, distinct and few.
use Rattle.std.proofs.Common.{◌≡◌, ℕ, ◌+◌, ◌<◌, Bool, true, false, List, [], ◌∷◌, ◌++◌, length, get_or, drop, map, Option, Some, None, Result, Ok, refl, sym, ap, ◌∙◌, arith, cond, subst, inl, inr}
use Rattle.std.specs.Prelude.{String, IfOk, ◌||◌, nat_le}
use Rattle.std.specs.Global.{Global}
use Rattle.std.specs.String.{string_bytes}
use Rattle.std.proofs.lemmas.Bool.{cases_Bool, leb-false}
use Rattle.std.proofs.lemmas.List.{length_push, length-append, get_or_append_left, drop_more}
use Rattle.std.proofs.lemmas.List.Elements.{All-push}
use Rattle.std.proofs.lemmas.Map.Made.{is_member-Decides}
use Rattle.std.proofs.lemmas.Slice.Eq.{bytes_eq-Decides}
use Rattle.std.proofs.Math.Seq.{get_or-append_seam}
use Rattle.ror_text.specs.Ids.{is_id, IsId}
use Rattle.ror_text.specs.Reading.{refuse, need}
use Rattle.ror_text.proofs.ReadingLemmas.{bind_ok, keeps, need_ok, refuse_ok, read_all_keeps}
use Rattle.ror_table.specs.declared.limits.TheConstants.{MOST_ALTERNATIVES, MOST_CRITERIA}
use Rattle.ror_table.specs.declared.fault.TableFault.{TableFault}
use Rattle.ror_table.specs.Draft.{has_id}
use Rattle.ror_table.proofs.DraftLemmas.{AreDistinct-push}
use Rattle.ror_elements.specs.Tree.{Tree}
use Rattle.ror_xmcda.specs.declared.criteria.Criteria.{Criteria}
use Rattle.ror_xmcda.specs.declared.roster.Roster.{Roster}
use Rattle.ror_xmcda.specs.Nodes.{id_of}
use Rattle.ror_xmcda.specs.Roster.{AreIds, is_listed, nothing_listed}
use Rattle.ror_xmcda.specs.Listing.{valid, new_id, is_active}
use Rattle.ror_xmcda.specs.Alternatives.{kept_alternative, alternative, alternatives_of}
use Rattle.ror_xmcda.specs.Criteria.{AreCriteria, no_qualitative, criterion_direction, kept_criterion, criterion, no_criteria, criteria_of}

-- ---- ids in order

no_ids : (most : ℕ) → AreIds most []
no_ids most = record { few = omega arith; valid = λ k d lt. absurd (omega arith); distinct = λ j k d less lt. absurd (omega arith) }

one_id_more : (most : ℕ) (ids : List (List ℕ)) (id : List ℕ) → AreIds most ids → IsId id → has_id ids id ≡ false → length ids < most → AreIds most (ids ++ id ∷ [])
one_id_more most ids id are is absent room =
    record { few = omega (arith, length_push ids id, room); valid = All-push IsId ids id are.valid is; distinct = AreDistinct-push ids id are.distinct absent }

-- an id that may follow those before it
pub record MayFollow (most : ℕ) (before : List (List ℕ)) (id : List ℕ) : Type 0 where
  pub valid : IsId id
  pub absent : has_id before id ≡ false
  pub room : length before < most

pub one_follows : (most : ℕ) (before : List (List ℕ)) (id : List ℕ) (after : List (List ℕ)) → AreIds most (before ++ id ∷ after) → MayFollow most before id
one_follows most before id after are =
    let place : length before < length (before ++ id ∷ after) = omega (arith, length-append before (id ∷ after)) in
    let here : get_or (before ++ id ∷ after) (length before) id ≡ id = get_or-append_seam before id after id in
    record {
      valid = subst IsId here (are.valid (length before) id place);
      absent = elim (cases_Bool (has_id before id)) [
        | inl there ↦
            let at = (is_member-Decides bytes_eq-Decides before id).0 there in
            absurd (are.distinct at.0 (length before) id at.1 place (get_or_append_left before (id ∷ after) id at.0 at.1 ∙ at.2 ∙ sym here))
        | inr none ↦ none
      ];
      room = let l = are.few in omega (arith, length-append before (id ∷ after), l);
    }

-- the next of those that are left
pub next_follows : (most : ℕ) (before : List (List ℕ)) (ids : List (String Global)) (k : ℕ) (id : String Global) (text : List ℕ) → AreIds most (before ++ map string_bytes (drop k ids)) → k < length ids → id ≡ get_or ids k id → text ≡ string_bytes id
    → MayFollow most before text
next_follows most before ids k id text are lt is same =
    let next : drop k ids ≡ id ∷ drop (k + 1) ids = drop_more ids k id lt ∙ ap (λ (x : String Global). x ∷ drop (k + 1) ids) (sym is) in
    let here : AreIds most (before ++ string_bytes id ∷ map string_bytes (drop (k + 1) ids)) = subst (λ (rest : List (String Global)). AreIds most (before ++ map string_bytes rest)) next are in
    rw same (one_follows most before (string_bytes id) (map string_bytes (drop (k + 1) ids)) here)

-- ---- what is listed

record IsNew (r : Roster) (id : List ℕ) : Type 0 where
  is : IsId id
  absent : has_id r.kept id ≡ false

valid_is : (o : Option (List ℕ)) (id : List ℕ) → valid o ≡ Some id → IsId id
valid_is None id e = absurd cc
valid_is (Some x) id e = by (is_id x) refl e
  where
    by : (b : Bool) → is_id x ≡ b → cond b (Some x) None ≡ Some id → IsId id
    by true is e = subst IsId (let same : x ≡ id = cc in same) is
    by false is e = absurd cc

first_false : (a b : Bool) → (a || b) ≡ false → a ≡ false
first_false true b e = absurd cc
first_false false b e = refl

new_id_is : (r : Roster) (t : Tree) (id : List ℕ) → new_id r t ≡ Ok id → IsNew r id
unfolding new_id
new_id_is r t id e =
    let b = bind_ok (need _ (valid (id_of t))) _ id e in
    let c = bind_ok (refuse _ (is_listed r b.0)) _ id b.2 in
    let same : b.0 ≡ id = let r : ◌≡◌ {A = Result (List ℕ) TableFault} (Ok b.0) (Ok id) = c.2 in cc in
    let unlisted : is_listed r b.0 ≡ false = refuse_ok _ (is_listed r b.0) c.0 c.1 in
    subst (IsNew r) same (record { is = valid_is (id_of t) b.0 (need_ok _ (valid (id_of t)) b.0 b.1); absent = first_false _ _ unlisted })

alternative_ids_are : (r : Roster) (t : Tree) → AreIds MOST_ALTERNATIVES r.kept → IfOk (alternative r t) (λ r. AreIds MOST_ALTERNATIVES r.kept)
unfolding alternative
alternative_ids_are r t are =
    keeps (λ r. AreIds MOST_ALTERNATIVES r.kept) (new_id r t) _ (λ id e. keeps (λ r. AreIds MOST_ALTERNATIVES r.kept) (is_active t) _ (λ active f. by id (new_id_is r t id e) active))
  where
    by : (id : List ℕ) → IsNew r id → (active : Bool) → IfOk (cond active (kept_alternative r id t) (Ok (record r { left_out = r.left_out ++ id ∷ [] }))) (λ r. AreIds MOST_ALTERNATIVES r.kept)
    by id new true = keeps (λ r. AreIds MOST_ALTERNATIVES r.kept) (refuse _ (nat_le 200 (length r.kept))) _ (λ u f. one_id_more 200 r.kept id are new.is new.absent (leb-false 200 (length r.kept) (refuse_ok _ _ u f)))
    by id new false = are

pub alternatives_are : (root : Tree) (r : Roster) → alternatives_of root ≡ Ok r → AreIds MOST_ALTERNATIVES r.kept
unfolding alternatives_of
alternatives_are root r e =
    subst (λ (x : Result Roster TableFault). IfOk x (λ r. AreIds MOST_ALTERNATIVES r.kept)) e (read_all_keeps (λ (r : Roster). AreIds MOST_ALTERNATIVES r.kept) alternative alternative_ids_are nothing_listed _ (no_ids MOST_ALTERNATIVES))

criterion_kept : (c : Criteria) (t : Tree) → AreCriteria c → IfOk (criterion c t) AreCriteria
unfolding criterion
criterion_kept c t are =
    keeps AreCriteria (new_id c.ids t) _ (λ id e. keeps AreCriteria (is_active t) _ (λ active f. by id (new_id_is c.ids t id e) active))
  where
    by : (id : List ℕ) → IsNew c.ids id → (active : Bool) → IfOk (cond active (kept_criterion c id t) (Ok (record c { ids = record c.ids { left_out = c.ids.left_out ++ id ∷ [] } }))) AreCriteria
    by id new true =
        keeps AreCriteria (refuse _ (nat_le 64 (length c.ids.kept))) _ (λ u f. keeps AreCriteria (no_qualitative t) _ (λ v g. keeps AreCriteria (criterion_direction t) _ (λ d h. record {
          ids = one_id_more MOST_CRITERIA c.ids.kept id are.ids new.is new.absent (leb-false 64 (length c.ids.kept) (refuse_ok _ _ u f));
          paired = length_push c.directions d ∙ ap (λ (n : ℕ). n + 1) are.paired ∙ sym (length_push c.ids.kept id);
        })))
    by id new false = record { ids = are.ids; paired = are.paired }

pub criteria_are : (root : Tree) (c : Criteria) → criteria_of root ≡ Ok c → AreCriteria c
unfolding criteria_of
criteria_are root c e =
    subst (λ (x : Result Criteria TableFault). IfOk x AreCriteria) e (read_all_keeps AreCriteria criterion criterion_kept no_criteria _ (record { ids = no_ids MOST_CRITERIA; paired = refl }))
