-- What a repair dropped is in each conflict that is found of it.
use Rattle.std.proofs.Common.{◌≡◌, ◌⊎◌, inl, inr, ℕ, zero, suc, ◌<◌, Bool, true, false, List, [], ◌∷◌, ◌++◌, length, take, Some, append-nil, refl, sym, ap, subst, ◌∙◌, arith}
use Rattle.std.specs.Prelude.{nat_eq, slice_get}
use Rattle.std.specs.List.{AllByRecursion}
use Rattle.std.specs.Set.{is_member}
use Rattle.std.proofs.lemmas.Bool.{cases_Bool, false≢true}
use Rattle.std.proofs.lemmas.List.Elements.{filter-append}
use Rattle.std.proofs.lemmas.Option.{slice_get_within}
use Rattle.ror_statement.specs.declared.statement.Numbered.{Numbered}
use Rattle.ror_statement.specs.declared.question.Conclusion.{Conclusion}
use Rattle.ror_statement.specs.declared.question.Conclusion.TheVariants.{Yes, No, Contradiction}
use Rattle.ror_statement.specs.declared.question.Question.TheVariants.{Consistent}
use Rattle.ror_statement.specs.Statements.{numbers_in, statements_in}
use Rattle.ror_table.specs.Table.{DecisionTable}
use Rattle.ror_value.specs.Meaning.{IsConsistent, IsContradictory}
use Rattle.ror_value.proofs.FewerStatements.{contradictory-sublist}
use Rattle.ror_check.specs.Repair.{AreNumbersIn, is_among, kept_of, IsRepair}
use Rattle.ror_check.proofs.Numbers.{member-here, member-cases}
use Rattle.ror_check.proofs.Repairs.{kept_more, dropped_more}
use Rattle.ror_reason.specs.Reducts.{stated, part_of, IsReduct}
use Rattle.ror_reason.proofs.LawLemmas.{at_place}
use Rattle.ror_reason.proofs.Parts.{stated-within}
use Rattle.ror_show_find_reasons.specs.Lines.{clash_list, IsConflict}
use Rattle.ror_show_find_reasons.specs.Laws.{DroppedAreInConflict}

-- ---- some function agrees with what is kept

kept_consistent : (t : DecisionTable) (list : List Numbered) (dropped : List ℕ) → IsRepair t list dropped → (k : ℕ) → k < suc (length list) → (kept_of dropped (take k list) ≡ []) ⊎ IsConsistent t (statements_in (kept_of dropped (take k list)))
kept_consistent t list dropped repair zero within = inl refl
kept_consistent t list dropped repair (suc k) within =
    let y = at_place list k (omega (arith, within)) in
    let before = kept_consistent t list dropped repair k (omega (arith, within)) in
    elim (cases_Bool (is_among dropped y.0)) [
      | inl among ↦ subst (λ (l : List Numbered). (l ≡ []) ⊎ IsConsistent t (statements_in l)) (sym (dropped_more dropped list k y.0 y.1 among)) before
      | inr stays ↦ inr (subst (λ (l : List Numbered). IsConsistent t (statements_in l)) (sym (kept_more dropped list k y.0 y.1 stays)) (repair.kept k y.0 y.1 stays))
    ]

-- ---- a part without the last statement

part_before : (ns : List ℕ) (before : List Numbered) (x : Numbered) → is_among ns x ≡ false → stated ns (before ++ x ∷ []) ≡ stated ns before
part_before ns before x outside =
    let one : part_of ns (x ∷ []) ≡ [] = rw outside refl in
    ap statements_in (filter-append (λ (y : Numbered). is_among ns y) before (x ∷ []) ∙ ap (λ (l : List Numbered). part_of ns before ++ l) one ∙ append-nil (part_of ns before))

-- numbers of one statement alone
of_one : (x : Numbered) (ns : List ℕ) → is_among ns x ≡ false → AllByRecursion (λ n. is_member nat_eq (numbers_in (x ∷ [])) n ≡ true) ns → ns ≡ []
of_one x [] outside all = refl
of_one x (n ∷ ns) outside all = elim (member-cases x.number n [] all.0) [
  | inl same ↦ absurd (false≢true (sym outside ∙ subst (λ (m : ℕ). is_member nat_eq (m ∷ ns) x.number ≡ true) (sym same) (member-here x.number ns)))
  | inr later ↦ absurd (let p = later in cc)
]

pub names_it : (t : DecisionTable) (list : List Numbered) (dropped : List ℕ) (k : ℕ) (x : Numbered) (ns : List ℕ) → IsRepair t list dropped → slice_get list k ≡ Some x → AreNumbersIn (clash_list dropped list k x) ns → IsContradictory t (stated ns (clash_list dropped list k x)) → (is_among ns x ≡ true) ⊎ (ns ≡ [])
names_it t list dropped k x ns repair there numbers carries = by (is_among ns x) refl
  where
    before : List Numbered
    before = kept_of dropped (take k list)

    nothing_before : is_among ns x ≡ false → before ≡ [] → ns ≡ []
    nothing_before outside none = of_one x ns outside (subst (λ (l : List Numbered). AllByRecursion (λ n. is_member nat_eq (numbers_in (l ++ x ∷ [])) n ≡ true) ns) none numbers.each_stands)

    some_before : is_among ns x ≡ false → IsConsistent t (statements_in before) → ns ≡ []
    some_before outside some =
        let clash = subst (IsContradictory t) (part_before ns before x outside) carries in
        absurd (contradictory-sublist t (stated ns before) (statements_in before) (stated-within before ns) clash some.0 some.1)

    by : (b : Bool) → is_among ns x ≡ b → (is_among ns x ≡ true) ⊎ (ns ≡ [])
    by true inside = inl inside
    by false outside =
        let within = slice_get_within list k x there in
        elim (kept_consistent t list dropped repair k (omega (arith, within))) [
          | inl none ↦ inr (nothing_before outside none)
          | inr some ↦ inr (some_before outside some)
        ]

-- ---- what is found

pub only_clash : (t : DecisionTable) (list : List Numbered) (c : Conclusion) (ns : List ℕ) → IsReduct t list Consistent c ns → IsReduct t list Consistent Contradiction ns
only_clash t list Yes ns reduct = absurd (let p = reduct.rests in cc)
only_clash t list No ns reduct = absurd (let p = reduct.rests in cc)
only_clash t list Contradiction ns reduct = reduct

pub dropped_are_in_conflict : DroppedAreInConflict
unfolding IsConflict
dropped_are_in_conflict t list dropped k x found repair there among conflict = elim conflict [
  | inl so ↦
      let reduct = only_clash t (clash_list dropped list k x) so.0 found.numbers so.2.1 in
      (reduct, names_it t list dropped k x found.numbers repair there reduct.numbers reduct.carries)
  | inr wide ↦ absurd wide
]
