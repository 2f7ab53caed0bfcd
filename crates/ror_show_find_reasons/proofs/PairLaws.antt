-- What a pair that is found says.
use Rattle.std.proofs.Common.{◌≡◌, ◌≢◌, ℕ, ◌*◌, Bool, true, false, ◌&&◌, ◌||◌, List, length, map, Option, Some, None, refl, sym, ap, subst, ◌∙◌, arith}
use Rattle.std.specs.Prelude.{◌==◌, Contains, slice_get, if◌then◌else◌}
use Rattle.std.specs.List.{find}
use Rattle.std.proofs.lemmas.Bool.{eqb-true}
use Rattle.std.proofs.lemmas.List.{length-map}
use Rattle.std.proofs.lemmas.List.FromFn.{length-map-range_with_len}
use Rattle.ror_text.proofs.Everywhere.{all-by}
use Rattle.ror_show_find_relation.specs.Arrows.{IsArrow, arrows}
use Rattle.ror_show_find_relation.specs.Relations.{Square, holds, IsAbove}
use Rattle.ror_show_find_relation.proofs.ArrowLemmas.{listed}
use Rattle.ror_show_find_relation.proofs.Parts.{of-above, first-there, second-there}
use Rattle.ror_statement.specs.declared.statement.Numbered.{Numbered}
use Rattle.ror_statement.specs.declared.question.Conclusion.TheVariants as conclusions
use Rattle.ror_statement.specs.declared.question.Question.{Question}
use Rattle.ror_statement.specs.declared.question.Question.TheVariants.{Consistent, Necessary, Possible, NecessaryStrength, PossibleStrength, PossibleClass, NecessaryClass}
use Rattle.ror_table.specs.Table.{DecisionTable}
use Rattle.ror_value.specs.Laws.{IsNecessarilyPreferred}
use Rattle.ror_value.specs.Meaning.{Answers}
use Rattle.ror_value.proofs.FewerStatements.{consistent-sublist}
use Rattle.ror_proof.specs.declared.answer.Answer.{Answer}
use Rattle.ror_proof.specs.declared.answer.Verdict.{Verdict}
use Rattle.ror_proof.specs.declared.answer.Verdict.TheVariants as verdicts
use Rattle.ror_show_find_relation.specs.declared.cell.Cell.{Cell}
use Rattle.ror_show_find_relation.specs.declared.cell.Cell.TheVariants as cells
use Rattle.ror_show_find_relation.specs.declared.pair.PairSaid.{PairSaid}
use Rattle.ror_show_ground.specs.declared.said.Said.{Said}
use Rattle.ror_show_ground.specs.declared.said.Said.TheVariants.{Yes, No, Contradiction, Nothing}
use Rattle.ror_show_find_relation.specs.Cells.{is_over, has_contradiction, better_by, cell_of_necessary, cell_of, cells_from, cell_at, cell_rows}
use Rattle.ror_show_find_relation.specs.declared.page.RelationPage.{RelationPage}
use Rattle.ror_show_find_relation.specs.Pages.{IsRelationPage, known}
use Rattle.ror_show_ground.specs.Said.{said_by}
use Rattle.ror_show_find_relation.specs.Said.{if_necessary, necessary_by, place_of_pair, said_of_pair}
use Rattle.ror_show_find_relation.proofs.Known.{known-at}
use Rattle.ror_pivot.specs.declared.note.Bits.TheVariants.{B127}
use Rattle.ror_pivot.specs.Answers.{most_of}
use Rattle.ror_reason.specs.declared.reducts.Reason.{Reason}
use Rattle.ror_reason.specs.declared.reducts.Reason.TheVariants as reasons
use Rattle.ror_reason.specs.Reasons.{IsReasonOf}
use Rattle.ror_reason.specs.Reducts.{stated, without, IsReduct}
use Rattle.ror_reason.proofs.Parts.{stated-among, without-among}
use Rattle.ror_show_find_reasons.specs.declared.pairs.CarriedPair.{CarriedPair}
use Rattle.ror_show_find_reasons.specs.Pairs.{is_yes_over, says_over, IsCarriedPair, AreNeeded, CarriesPair, MeansCarriedBy, MeansBetterBy, MeansCarried}
use Rattle.ror_show_find_reasons.specs.Laws.{ArrowsAreCarried}
use Rattle.ror_show_find_reasons.proofs.Better.{better_means}
use Rattle.ror_show_find_reasons.proofs.Found.{found_there, found_reason}

-- ---- an arrow is what an answer says

never_over : (n p : Said) → is_over (better_by cells.NeverAsGood cells.AtMostAsGood (record { necessary = n; possible = p })) ≡ true → ⊥
never_over Yes p is = cc
never_over No Yes is = cc
never_over No No is = cc
never_over No Contradiction is = cc
never_over No Nothing is = cc
never_over Contradiction Yes is = cc
never_over Contradiction No is = cc
never_over Contradiction Contradiction is = cc
never_over Contradiction Nothing is = cc
never_over Nothing Yes is = cc
never_over Nothing No is = cc
never_over Nothing Contradiction is = cc
never_over Nothing Nothing is = cc

over_by : (there back : PairSaid) (n m : Said) → is_over (cell_of_necessary there back n m) ≡ true → n ≡ Yes
over_by there back Yes m is = refl
over_by there back No Yes is = absurd (never_over there.necessary there.possible is)
over_by there back No No is = absurd cc
over_by there back No Contradiction is = absurd cc
over_by there back No Nothing is = absurd cc
over_by there back Contradiction Yes is = absurd (never_over there.necessary there.possible is)
over_by there back Contradiction No is = absurd cc
over_by there back Contradiction Contradiction is = absurd cc
over_by there back Contradiction Nothing is = absurd cc
over_by there back Nothing Yes is = absurd (never_over there.necessary there.possible is)
over_by there back Nothing No is = absurd cc
over_by there back Nothing Contradiction is = absurd cc
over_by there back Nothing Nothing is = absurd cc

over_said : (there back : PairSaid) → is_over (cell_of there back) ≡ true → there.necessary ≡ Yes
over_said there back = by (has_contradiction there || has_contradiction back)
  where
    by : (c : Bool) → is_over (if c then cells.Contradiction else cell_of_necessary there back there.necessary back.necessary) ≡ true → there.necessary ≡ Yes
    by true is = absurd cc
    by false is = over_by there back there.necessary back.necessary is

yes_said : (a b : ℕ) (q : Question) (v : Verdict) → if_necessary a b q (said_by v) ≡ Yes → is_yes_over (a, b) q v ≡ true
yes_said a b (Necessary x y) v is = by (x == a && y == b) refl is
  where
    of_yes : (same : Bool) → (x == a && y == b) ≡ same → same ≡ true → (u : Verdict) → said_by u ≡ Yes → is_yes_over (a, b) (Necessary x y) u ≡ true
    of_yes same p q (verdicts.Yes proof) said = p ∙ q
    of_yes same p q (verdicts.No proof) said = absurd cc
    of_yes same p q (verdicts.Contradiction proof) said = absurd cc
    of_yes same p q (verdicts.Wide system note) said = absurd cc

    by : (same : Bool) → (x == a && y == b) ≡ same → (if same then said_by v else Nothing) ≡ Yes → is_yes_over (a, b) (Necessary x y) v ≡ true
    by true same said = of_yes true same refl v said
    by false same said = absurd cc
yes_said a b Consistent v is = absurd cc
yes_said a b (Possible x y) v is = absurd cc
yes_said a b (NecessaryStrength p q s) v is = absurd cc
yes_said a b (PossibleStrength p q s) v is = absurd cc
yes_said a b (PossibleClass x h) v is = absurd cc
yes_said a b (NecessaryClass x h) v is = absurd cc

said_somewhere : (a b : ℕ) (xs : List Answer) (k : ℕ) (o : Option Answer) → slice_get xs k ≡ o → necessary_by a b o ≡ Yes → (x : Answer) × (find (says_over (a, b)) xs ≡ Some x)
said_somewhere a b xs k (Some x) there said = found_there (says_over (a, b)) xs k x there (yes_said a b x.question x.verdict said)
said_somewhere a b xs k None there said = absurd cc

pub known-size : (n : ℕ) (xs : List Answer) → length (known (cell_rows n xs)) ≡ n
known-size n xs = length-map (cell_rows n xs) (map is_over) ∙ length-map-range_with_len (cells_from n xs) 0 n

-- so is that one alternative is over another, by the cell of both
pub over_by_answer : (n : ℕ) (xs : List Answer) (a b : ℕ) → a ≢ b → is_over (cell_at n xs a b) ≡ true → (x : Answer) × (find (says_over (a, b)) xs ≡ Some x)
over_by_answer n xs a b differ over =
    let said = by (a == b) refl over in
    said_somewhere a b xs (2 * place_of_pair n a b) (slice_get xs (2 * place_of_pair n a b)) refl said
  where
    by : (same : Bool) → (a == b) ≡ same → is_over (if same then cells.Itself else cell_of (said_of_pair n xs a b) (said_of_pair n xs b a)) ≡ true → (said_of_pair n xs a b).necessary ≡ Yes
    by true same over = absurd (differ (eqb-true a b same))
    by false same over = over_said (said_of_pair n xs a b) (said_of_pair n xs b a) over

above_said : (n : ℕ) (xs : List Answer) (a b : ℕ) → IsAbove (known (cell_rows n xs)) a b → (x : Answer) × (find (says_over (a, b)) xs ≡ Some x)
above_said n xs a b above =
    let r = known (cell_rows n xs) in
    let parts = of-above r a b above in
    let size = known-size n xs in
    let first = first-there r a b parts.0 in
    let second = second-there r a b parts.0 in
    over_by_answer n xs a b (itself r parts.0 parts.1) (sym (known-at n xs a b (omega (arith, size, first)) (omega (arith, size, second))) ∙ parts.0)
  where
    itself : (r : Square) → holds r a b ≡ true → holds r b a ≡ false → a ≢ b
    itself r there back same = let p = sym there ∙ ap (λ (c : ℕ). holds r c b) same ∙ ap (λ (c : ℕ). holds r b c) (sym same) ∙ back in cc

pub arrow_said : (t : DecisionTable) (xs : List Answer) (page : RelationPage) (arrow : ℕ × ℕ) → IsRelationPage t xs page → Contains {X = ℕ × ℕ} page.arrows arrow → (x : Answer) × (find (says_over arrow) xs ≡ Some x)
arrow_said t xs page arrow shows there =
    let n = length t.alternatives in
    let rows = shows.arrows ∙ ap (λ (rs : List (List Cell)). arrows (known rs)) shows.rows in
    let listed_so = subst (λ (l : List (ℕ × ℕ)). Contains {X = ℕ × ℕ} l arrow) rows there in
    let between : IsArrow (known (cell_rows n xs)) arrow.0 arrow.1 = (listed (known (cell_rows n xs)) arrow.0 arrow.1).0 listed_so in
    above_said n xs arrow.0 arrow.1 between.above

-- ---- and is carried by what is named

carried_so : (t : DecisionTable) (list : List Numbered) (arrow : ℕ × ℕ) (ns : List ℕ) → IsReduct t list (Necessary arrow.0 arrow.1) conclusions.Yes ns → AreNeeded t list arrow ns
carried_so t list arrow ns reduct = record {
  numbers = reduct.numbers;
  consistent = reduct.carries.0;
  carry = reduct.carries.1;
  needed = all-by (λ n. Answers t (stated (without n ns) list) (Necessary arrow.0 arrow.1) conclusions.Yes → ⊥) (λ n. IsNecessarilyPreferred t (stated (without n ns) list) arrow.0 arrow.1 → ⊥) ns
      (λ n spared preferred. spared (consistent-sublist t (stated (without n ns) list) (stated ns list) (stated-among list (without n ns) ns (without-among n ns)) reduct.carries.0, preferred)) reduct.needed;
}

of_reason : (t : DecisionTable) (list : List Numbered) (arrow : ℕ × ℕ) (reason : Reason) → IsReasonOf (most_of B127) t list (Necessary arrow.0 arrow.1) conclusions.Yes reason → CarriesPair t list arrow reason
of_reason t list arrow (reasons.Carried x) h = carried_so t list arrow x.numbers h.1
of_reason t list arrow (reasons.Wide ns x others) h = h
of_reason t list arrow (reasons.OneHas x) h = absurd (let p = h.0 in cc)
of_reason t list arrow (reasons.OneLacks x) h = absurd (let p = h.0 in cc)
of_reason t list arrow (reasons.ClassLeft x) h = absurd (let p = h.0 in cc)
of_reason t list arrow (reasons.WhollyWide system note) h = absurd h

-- where an answer says it, what is found carries the pair
pub found_means : (t : DecisionTable) (list : List Numbered) (xs : List Answer) (pair : ℕ × ℕ) (f : CarriedPair) → (x : Answer) × (find (says_over pair) xs ≡ Some x) → IsCarriedPair t list xs pair f → MeansCarried t list f
found_means t list xs pair f said are =
    let found = found_reason t list xs pair said.0 f.reason said.1 are.1 in (
      subst (λ (p : ℕ × ℕ). MeansCarriedBy t list p f.reason) (sym are.0) (subst (MeansCarriedBy t list pair) (sym found.2) (of_reason t list pair found.0 found.1)),
      subst (λ (p : ℕ × ℕ). MeansBetterBy t list p f.better) (sym are.0) (better_means t list xs pair f.better are.2),
    )

pub arrows_are_carried : ArrowsAreCarried
arrows_are_carried t list xs page arrow f shows there are = found_means t list xs arrow f (arrow_said t xs page arrow shows there) are
