-- That what is found of a pair that was turned round or is new carries it.
use Rattle.std.proofs.Common.{◌≢◌, inl, inr, ℕ, ◌<◌, List, length, sym, ap, subst, ◌∙◌, arith}
use Rattle.std.specs.Prelude.{◌⊎◌, Contains, ◌≡◌, Some}
use Rattle.std.specs.List.{find}
use Rattle.std.proofs.lemmas.List.{get_or-map, length-map}
use Rattle.std.proofs.lemmas.List.Elements.{Contains-append_cases}
use Rattle.ror_proof.specs.declared.answer.Answer.{Answer}
use Rattle.ror_show_find_relation.specs.declared.change.Change.TheVariants.{TurnedRound, New}
use Rattle.ror_show_find_relation.specs.Changes.{changed_pairs}
use Rattle.ror_show_find_relation.specs.declared.cell.Cell.{Cell}
use Rattle.ror_show_find_relation.specs.Cells.{cell_rows}
use Rattle.ror_show_find_relation.specs.declared.page.RelationPage.{RelationPage}
use Rattle.ror_show_find_relation.specs.Pages.{IsRelationPage, known}
use Rattle.ror_show_find_relation.specs.DifferenceLaws.{IsOver, IsListed}
use Rattle.ror_show_find_relation.proofs.DifferenceLemmas.{lists-difference}
use Rattle.ror_show_find_relation.specs.Brought.{turned, brought}
use Rattle.ror_table.specs.Table.{DecisionTable}
use Rattle.ror_show_find_reasons.specs.Pairs.{says_over}
use Rattle.ror_show_find_reasons.specs.Laws.{BroughtIsCarried}
use Rattle.ror_show_find_reasons.proofs.PairLaws.{over_by_answer, found_means}

-- a pair of a list that was turned, as it was
turned_back : (pairs : List (ℕ × ℕ)) (a b : ℕ) → Contains {X = ℕ × ℕ} (turned pairs) (a, b) → Contains {X = ℕ × ℕ} pairs (b, a)
turned_back pairs a b there =
    let round : ℕ × ℕ → ℕ × ℕ = λ pair. (pair.1, pair.0) in
    let i = there.0 in
    let within : i < length pairs = omega (arith, there.1, length-map pairs round) in
    let same = sym (get_or-map round pairs i (b, a) (a, b) within) ∙ there.2 in
    (i, within, ap round same)

-- both are different, and the first is over the second now
record IsOverNow (n : ℕ) (ys : List Answer) (a b : ℕ) : Type 0 where
  pub different : a ≢ b
  pub over : IsOver n ys a b

over_now : (n : ℕ) (xs ys : List Answer) (a b : ℕ) → Contains {X = ℕ × ℕ} (brought (known (cell_rows n xs)) (known (cell_rows n ys))) (a, b) → IsOverNow n ys a b
over_now n xs ys a b there =
    by (Contains-append_cases (turned (changed_pairs (known (cell_rows n xs)) (known (cell_rows n ys)) TurnedRound)) (changed_pairs (known (cell_rows n xs)) (known (cell_rows n ys)) New) (a, b) there)
  where
    by : Contains {X = ℕ × ℕ} (turned (changed_pairs (known (cell_rows n xs)) (known (cell_rows n ys)) TurnedRound)) (a, b) ⊎ Contains {X = ℕ × ℕ} (changed_pairs (known (cell_rows n xs)) (known (cell_rows n ys)) New) (a, b) → IsOverNow n ys a b
    by (inl round) =
        let listed : IsListed TurnedRound n xs ys b a = (lists-difference TurnedRound n xs ys b a).0 (turned_back _ a b round) in
        record { different = λ same. listed.different (sym same); over = listed.is.1.0 }
    by (inr new) =
        let listed : IsListed New n xs ys a b = (lists-difference New n xs ys a b).0 new in
        record { different = listed.different; over = listed.is.0.0 }

pub brought_said : (t : DecisionTable) (xs ys : List Answer) (before now : RelationPage) (pair : ℕ × ℕ) → IsRelationPage t xs before → IsRelationPage t ys now → Contains {X = ℕ × ℕ} (brought (known before.rows) (known now.rows)) pair → (y : Answer) × (find (says_over pair) ys ≡ Some y)
brought_said t xs ys before now pair shows_before shows_now there =
    let n = length t.alternatives in
    let rows = subst (λ (rs : List (List Cell)). Contains {X = ℕ × ℕ} (brought (known rs) (known now.rows)) pair) shows_before.rows there in
    let both = subst (λ (rs : List (List Cell)). Contains {X = ℕ × ℕ} (brought (known (cell_rows n xs)) (known rs)) pair) shows_now.rows rows in
    let now_so = over_now n xs ys pair.0 pair.1 both in
    over_by_answer n ys pair.0 pair.1 now_so.different now_so.over

pub brought_is_carried : BroughtIsCarried
brought_is_carried t list xs ys before now pair f shows_before shows_now there are =
    found_means t list ys pair f (brought_said t xs ys before now pair shows_before shows_now there) are
