-- What carries that one alternative is always better than another, by the answer that says it.
use Rattle.std.proofs.Common.{◌≡◌, inl, inr, ℕ, ◌+◌, ◌*◌, Bool, true, false, ◌||◌, List, length, Option, Some, None, refl, sym, subst, ◌∙◌, arith}
use Rattle.std.specs.Prelude.{◌==◌, ◌&&◌, slice_get, if◌then◌else◌}
use Rattle.std.specs.List.{find}
use Rattle.std.proofs.lemmas.Bool.{eqb-true}
use Rattle.std.proofs.lemmas.Int.{ints, by_lt_z}
use Rattle.ror_text.proofs.Everywhere.{all-by}
use Rattle.ror_statement.specs.declared.statement.Numbered.{Numbered}
use Rattle.ror_statement.specs.declared.statement.Statement.{Statement}
use Rattle.ror_statement.specs.declared.question.Conclusion.TheVariants as conclusions
use Rattle.ror_statement.specs.declared.question.Question.{Question}
use Rattle.ror_statement.specs.declared.question.Question.TheVariants.{Consistent, Necessary, Possible, NecessaryStrength, PossibleStrength, PossibleClass, NecessaryClass}
use Rattle.ror_table.specs.Table.{DecisionTable}
use Rattle.ror_value.specs.Value.{value}
use Rattle.ror_value.specs.Meaning.{Answers}
use Rattle.ror_proof.specs.declared.answer.Answer.{Answer}
use Rattle.ror_proof.specs.declared.answer.Verdict.{Verdict}
use Rattle.ror_proof.specs.declared.answer.Verdict.TheVariants as verdicts
use Rattle.ror_check.specs.Proof.{OfProof, Proves, IsProvedAnswer, IsWideOrProved}
use Rattle.ror_pivot.specs.declared.note.Bits.TheVariants.{B127}
use Rattle.ror_pivot.specs.Answers.{most_of}
use Rattle.ror_reason.specs.declared.reducts.Reason.{Reason}
use Rattle.ror_reason.specs.declared.reducts.Reason.TheVariants as reasons
use Rattle.ror_reason.specs.Reasons.{IsReasonOf}
use Rattle.ror_reason.specs.Reducts.{stated, without, IsReduct}
use Rattle.ror_show_ground.specs.declared.said.Said.{Said}
use Rattle.ror_show_ground.specs.declared.said.Said.TheVariants.{Yes, No, Contradiction, Nothing}
use Rattle.ror_show_ground.specs.Said.{said_by}
use Rattle.ror_show_ground.specs.Sound.{IsSoundAnswer}
use Rattle.ror_show_ground.proofs.Tests.{both-true}
use Rattle.ror_show_find_relation.specs.declared.cell.Cell.{Cell}
use Rattle.ror_show_find_relation.specs.declared.cell.Cell.TheVariants as cells
use Rattle.ror_show_find_relation.specs.declared.pair.PairSaid.{PairSaid}
use Rattle.ror_show_find_relation.specs.Cells.{has_contradiction, better_by, cell_of_necessary, cell_of, cell_at, cell_rows}
use Rattle.ror_show_find_relation.specs.Meaning.{IsAlwaysBetter}
use Rattle.ror_show_find_relation.specs.Rows.{cell_in}
use Rattle.ror_show_find_relation.specs.Said.{if_possible, possible_by, place_of_pair, said_of_pair}
use Rattle.ror_show_find_reasons.specs.Carrying.{IsReasonFor, HasReason}
use Rattle.ror_show_find_reasons.specs.Pairs.{is_no_back, denies_back, CarriesWhere, IsBetterBy, AreNeededStrictly, CarriesBetter, MeansBetterBy}
use Rattle.ror_show_find_reasons.specs.Laws.{EachBetterIsTold}
use Rattle.ror_show_find_reasons.proofs.Finding.{cell_or_none}
use Rattle.ror_show_find_reasons.proofs.Found.{found_passes, found_there}
use Rattle.ror_show_find_reasons.proofs.Settled.{for_no}

-- ---- the answer that says it

-- its question, and that it is no
record IsNoBack (arrow : ℕ × ℕ) (q : Question) (v : Verdict) : Type 0 where
  pub asks : q ≡ Possible arrow.1 arrow.0
  pub concludes : OfProof (λ c proof. c ≡ conclusions.No) v

both_ends : (arrow : ℕ × ℕ) (b a : ℕ) → a ≡ arrow.0 → b ≡ arrow.1 → Possible b a ≡ Possible arrow.1 arrow.0
both_ends arrow b a first second = cc

says_no_back : (arrow : ℕ × ℕ) (q : Question) (v : Verdict) → is_no_back arrow q v ≡ true → IsNoBack arrow q v
says_no_back arrow (Possible b a) (verdicts.No proof) is =
    let ends = both-true _ _ is in
    record { asks = both_ends arrow b a (eqb-true a arrow.0 ends.1) (eqb-true b arrow.1 ends.0); concludes = refl }
says_no_back arrow (Possible b a) (verdicts.Yes proof) is = absurd cc
says_no_back arrow (Possible b a) (verdicts.Contradiction proof) is = absurd cc
says_no_back arrow (Possible b a) (verdicts.Wide system note) is = absurd cc
says_no_back arrow Consistent v is = absurd cc
says_no_back arrow (Necessary a b) v is = absurd cc
says_no_back arrow (NecessaryStrength p q s) v is = absurd cc
says_no_back arrow (PossibleStrength p q s) v is = absurd cc
says_no_back arrow (PossibleClass a h) v is = absurd cc
says_no_back arrow (NecessaryClass a h) v is = absurd cc

-- it has its proof
pub proved_back : (t : DecisionTable) (list : List Statement) (arrow : ℕ × ℕ) (x : Answer) → denies_back arrow x ≡ true → IsSoundAnswer t list x → IsProvedAnswer t list x.question x
proved_back t list arrow x is sound = record { question = refl; proof = by x.verdict (says_no_back arrow x.question x.verdict is).concludes sound.verdict }
  where
    by : (v : Verdict) → OfProof (λ c proof. c ≡ conclusions.No) v → IsWideOrProved t list x.question v → OfProof (Proves t list x.question) v
    by (verdicts.Yes proof) no_ h = h
    by (verdicts.No proof) no_ h = h
    by (verdicts.Contradiction proof) no_ h = h
    by (verdicts.Wide system note) no_ h = absurd no_

pub asks_back : (arrow : ℕ × ℕ) (x : Answer) → denies_back arrow x ≡ true → x.question ≡ Possible arrow.1 arrow.0
asks_back arrow x is = (says_no_back arrow x.question x.verdict is).asks

-- ---- its reason

pub better_by_one : (t : DecisionTable) (list : List Numbered) (xs : List Answer) (arrow : ℕ × ℕ) (x : Answer) (told : Option Reason) → find (denies_back arrow) xs ≡ Some x → HasReason t list x.question x.verdict told → IsBetterBy t list xs arrow told
better_by_one t list xs arrow x told there has = subst (λ (o : Option Answer). CarriesWhere t list o told) (sym there) has

pub better_by_none : (t : DecisionTable) (list : List Numbered) (xs : List Answer) (arrow : ℕ × ℕ) → find (denies_back arrow) xs ≡ None → IsBetterBy t list xs arrow None
better_by_none t list xs arrow none = subst (λ (o : Option Answer). CarriesWhere t list o None) (sym none) refl

-- what is found is none, or the reason of an answer
pub record IsFoundBetter (t : DecisionTable) (list : List Numbered) (xs : List Answer) (arrow : ℕ × ℕ) (reason : Reason) : Type 0 where
  pub answer : Answer
  pub there : find (denies_back arrow) xs ≡ Some answer
  pub of : IsReasonOf (most_of B127) t list (Possible arrow.1 arrow.0) conclusions.No reason

no_reason : (t : DecisionTable) (list : List Numbered) (arrow : ℕ × ℕ) (q : Question) (v : Verdict) (reason : Reason) → is_no_back arrow q v ≡ true → IsReasonFor t list q v reason → IsReasonOf (most_of B127) t list (Possible arrow.1 arrow.0) conclusions.No reason
no_reason t list arrow q v reason is h =
    let said = says_no_back arrow q v is in
    subst (λ (p : Question). IsReasonOf (most_of B127) t list p conclusions.No reason) said.asks (for_no t list q v reason said.concludes h)

of_found : (t : DecisionTable) (list : List Numbered) (xs : List Answer) (arrow : ℕ × ℕ) (reason : Reason) (o : Option Answer) → find (denies_back arrow) xs ≡ o → CarriesWhere t list o (Some reason) → IsFoundBetter t list xs arrow reason
of_found t list xs arrow reason None there has = absurd (let p = has in cc)
of_found t list xs arrow reason (Some x) there has =
    let same : has.0 ≡ reason = let p = has.3 in cc in
    record {
      answer = x;
      there = there;
      of = subst (IsReasonOf (most_of B127) t list (Possible arrow.1 arrow.0) conclusions.No) same (no_reason t list arrow x.question x.verdict has.0 (found_passes (denies_back arrow) xs x there) has.1);
    }

pub found_better : (t : DecisionTable) (list : List Numbered) (xs : List Answer) (arrow : ℕ × ℕ) (reason : Reason) → IsBetterBy t list xs arrow (Some reason) → IsFoundBetter t list xs arrow reason
found_better t list xs arrow reason are = of_found t list xs arrow reason (find (denies_back arrow) xs) refl are

-- ---- it carries that the first is always better

always_better : (t : DecisionTable) (list : List Statement) (a b : ℕ) → Answers t list (Possible b a) conclusions.No → IsAlwaysBetter t list a b
always_better t list a b under = record {
  consistent = under.0;
  more = λ w compatible. by_lt_z (value t w b) (value t w a) (λ less. less) (λ most. absurd (under.1 (w, compatible, most)));
}

no_more : (t : DecisionTable) (list : List Statement) (a b : ℕ) → IsAlwaysBetter t list a b → Answers t list (Possible b a) conclusions.No
no_more t list a b better = (better.consistent, λ some. (let less = better.more some.0 some.1 in let most = some.2 in omega (arith, ints)))

carried_so : (t : DecisionTable) (list : List Numbered) (arrow : ℕ × ℕ) (ns : List ℕ) → IsReduct t list (Possible arrow.1 arrow.0) conclusions.No ns → AreNeededStrictly t list arrow ns
carried_so t list arrow ns reduct = record {
  numbers = reduct.numbers;
  better = always_better t (stated ns list) arrow.0 arrow.1 reduct.carries;
  needed = all-by (λ n. Answers t (stated (without n ns) list) (Possible arrow.1 arrow.0) conclusions.No → ⊥) (λ n. IsAlwaysBetter t (stated (without n ns) list) arrow.0 arrow.1 → ⊥) ns
      (λ n spared better. spared (no_more t (stated (without n ns) list) arrow.0 arrow.1 better)) reduct.needed;
}

of_reason : (t : DecisionTable) (list : List Numbered) (arrow : ℕ × ℕ) (reason : Reason) → IsReasonOf (most_of B127) t list (Possible arrow.1 arrow.0) conclusions.No reason → CarriesBetter t list arrow reason
of_reason t list arrow (reasons.Carried x) h = carried_so t list arrow x.numbers h.1
of_reason t list arrow (reasons.Wide ns x others) h = h
of_reason t list arrow (reasons.OneHas x) h = absurd (let p = h.0 in cc)
of_reason t list arrow (reasons.OneLacks x) h = absurd (let p = h.0 in cc)
of_reason t list arrow (reasons.ClassLeft x) h = absurd (let p = h.0 in cc)
of_reason t list arrow (reasons.WhollyWide system note) h = absurd h

pub better_means : (t : DecisionTable) (list : List Numbered) (xs : List Answer) (arrow : ℕ × ℕ) (told : Option Reason) → IsBetterBy t list xs arrow told → MeansBetterBy t list arrow told
better_means t list xs arrow (Some reason) are = of_reason t list arrow reason (found_better t list xs arrow reason are).of
better_means t list xs arrow None are = tt

-- ---- a cell that says so has the answer

said_no : (n p : Said) → better_by cells.AlwaysBetter cells.AtLeastAsGood (record { necessary = n; possible = p }) ≡ cells.AlwaysBetter → p ≡ No
said_no n No is = refl
said_no Yes p is = absurd cc
said_no No Yes is = absurd cc
said_no No Contradiction is = absurd cc
said_no No Nothing is = absurd cc
said_no Contradiction Yes is = absurd cc
said_no Contradiction Contradiction is = absurd cc
said_no Contradiction Nothing is = absurd cc
said_no Nothing Yes is = absurd cc
said_no Nothing Contradiction is = absurd cc
said_no Nothing Nothing is = absurd cc

never_better : (n p : Said) → better_by cells.NeverAsGood cells.AtMostAsGood (record { necessary = n; possible = p }) ≡ cells.AlwaysBetter → ⊥
never_better Yes p is = cc
never_better No Yes is = cc
never_better No No is = cc
never_better No Contradiction is = cc
never_better No Nothing is = cc
never_better Contradiction Yes is = cc
never_better Contradiction No is = cc
never_better Contradiction Contradiction is = cc
never_better Contradiction Nothing is = cc
never_better Nothing Yes is = cc
never_better Nothing No is = cc
never_better Nothing Contradiction is = cc
never_better Nothing Nothing is = cc

no_back_by : (there back : PairSaid) (n m : Said) → cell_of_necessary there back n m ≡ cells.AlwaysBetter → back.possible ≡ No
no_back_by there back Yes Yes is = absurd cc
no_back_by there back Yes No is = said_no back.necessary back.possible is
no_back_by there back Yes Contradiction is = said_no back.necessary back.possible is
no_back_by there back Yes Nothing is = said_no back.necessary back.possible is
no_back_by there back No Yes is = absurd (never_better there.necessary there.possible is)
no_back_by there back No No is = absurd cc
no_back_by there back No Contradiction is = absurd cc
no_back_by there back No Nothing is = absurd cc
no_back_by there back Contradiction Yes is = absurd (never_better there.necessary there.possible is)
no_back_by there back Contradiction No is = absurd cc
no_back_by there back Contradiction Contradiction is = absurd cc
no_back_by there back Contradiction Nothing is = absurd cc
no_back_by there back Nothing Yes is = absurd (never_better there.necessary there.possible is)
no_back_by there back Nothing No is = absurd cc
no_back_by there back Nothing Contradiction is = absurd cc
no_back_by there back Nothing Nothing is = absurd cc

no_back_said : (there back : PairSaid) → cell_of there back ≡ cells.AlwaysBetter → back.possible ≡ No
no_back_said there back = by (has_contradiction there || has_contradiction back)
  where
    by : (c : Bool) → (if c then cells.Contradiction else cell_of_necessary there back there.necessary back.necessary) ≡ cells.AlwaysBetter → back.possible ≡ No
    by true is = absurd cc
    by false is = no_back_by there back there.necessary back.necessary is

denied : (a b : ℕ) (q : Question) (v : Verdict) → if_possible b a q (said_by v) ≡ No → is_no_back (a, b) q v ≡ true
denied a b (Possible x y) v is = by (x == b && y == a) refl is
  where
    of_no : (same : Bool) → (x == b && y == a) ≡ same → same ≡ true → (u : Verdict) → said_by u ≡ No → is_no_back (a, b) (Possible x y) u ≡ true
    of_no same p q (verdicts.No proof) said = p ∙ q
    of_no same p q (verdicts.Yes proof) said = absurd cc
    of_no same p q (verdicts.Contradiction proof) said = absurd cc
    of_no same p q (verdicts.Wide system note) said = absurd cc

    by : (same : Bool) → (x == b && y == a) ≡ same → (if same then said_by v else Nothing) ≡ No → is_no_back (a, b) (Possible x y) v ≡ true
    by true same said = of_no true same refl v said
    by false same said = absurd cc
denied a b Consistent v is = absurd cc
denied a b (Necessary x y) v is = absurd cc
denied a b (NecessaryStrength p q s) v is = absurd cc
denied a b (PossibleStrength p q s) v is = absurd cc
denied a b (PossibleClass x h) v is = absurd cc
denied a b (NecessaryClass x h) v is = absurd cc

denied_somewhere : (a b : ℕ) (xs : List Answer) (k : ℕ) (o : Option Answer) → slice_get xs k ≡ o → possible_by b a o ≡ No → (x : Answer) × (find (denies_back (a, b)) xs ≡ Some x)
denied_somewhere a b xs k (Some x) there said = found_there (denies_back (a, b)) xs k x there (denied a b x.question x.verdict said)
denied_somewhere a b xs k None there said = absurd cc

denied_by_answer : (n : ℕ) (xs : List Answer) (a b : ℕ) → cell_at n xs a b ≡ cells.AlwaysBetter → (x : Answer) × (find (denies_back (a, b)) xs ≡ Some x)
denied_by_answer n xs a b is =
    let said = by (a == b) is in
    denied_somewhere a b xs (2 * place_of_pair n b a + 1) (slice_get xs (2 * place_of_pair n b a + 1)) refl said
  where
    by : (same : Bool) → (if same then cells.Itself else cell_of (said_of_pair n xs a b) (said_of_pair n xs b a)) ≡ cells.AlwaysBetter → (said_of_pair n xs b a).possible ≡ No
    by true is = absurd cc
    by false is = no_back_said (said_of_pair n xs a b) (said_of_pair n xs b a) is

cell_there : (n : ℕ) (xs : List Answer) (a b : ℕ) → cell_in (cell_rows n xs) a b ≡ cells.AlwaysBetter → cell_at n xs a b ≡ cells.AlwaysBetter
cell_there n xs a b is = elim (cell_or_none n xs a b) [
  | inl there ↦ sym there ∙ is
  | inr none ↦ absurd (let p = sym none ∙ is in cc)
]

has_one : (t : DecisionTable) (list : List Numbered) (xs : List Answer) (arrow : ℕ × ℕ) (x : Answer) (told : Option Reason) → find (denies_back arrow) xs ≡ Some x → IsBetterBy t list xs arrow told → told ≡ None → ⊥
has_one t list xs arrow x told there are none =
    let has : HasReason t list x.question x.verdict told = subst (λ (o : Option Answer). CarriesWhere t list o told) there are in
    let some : told ≡ Some has.0 = has.3 in
    cc

pub each_better_is_told : EachBetterIsTold
each_better_is_told t list xs page pair f shows are is none =
    let n = length t.alternatives in
    let at : cell_in page.rows pair.0 pair.1 ≡ cells.AlwaysBetter = subst (λ (p : ℕ × ℕ). cell_in page.rows p.0 p.1 ≡ cells.AlwaysBetter) are.0 is in
    let there = cell_there n xs pair.0 pair.1 (subst (λ (rows : List (List Cell)). cell_in rows pair.0 pair.1 ≡ cells.AlwaysBetter) shows.rows at) in
    let said = denied_by_answer n xs pair.0 pair.1 there in
    has_one t list xs pair said.0 f.better said.1 are.2 none
