-- What stands at a desk stays lawful, and a line takes one number at most.
use Rattle.std.proofs.Common.{◌≡◌, ◌⊎◌, inl, inr, ℕ, suc, ◌+◌, ◌-◌, ◌<◌, ◌≤◌, Bool, true, false, not, max, nat_eq, List, [], ◌∷◌, ◌++◌, length, map, take, drop, Result, Ok, Err, refl, sym, ap, ◌∙◌, subst, arith, append-nil, append_assoc, length-append}
use Rattle.std.specs.Prelude.{cond, if◌then◌else◌, ◌==◌}
use Rattle.std.specs.List.{AllByRecursion, filter, fold}
use Rattle.std.specs.Result.{result_ok}
use Rattle.std.specs.Set.{is_member}
use Rattle.std.proofs.lemmas.Bool.{cases_lt}
use Rattle.std.proofs.lemmas.List.{length-map, map-append, take-append-drop}
use Rattle.ror_statement.specs.declared.row_number.TheConstants.{MOST_STATEMENTS, MOST_ROWS}
use Rattle.ror_statement.specs.declared.statement.Statement.{Statement}
use Rattle.ror_statement.specs.declared.statement.Numbered.{Numbered}
use Rattle.ror_statement.specs.RowNumbers.{row_count}
use Rattle.ror_table.specs.Table.{DecisionTable}
use Rattle.ror_value.specs.Over.{IsLawfulIn, IsValidIn}
use Rattle.ror_session.specs.declared.session.Named.{Named}
use Rattle.ror_session.specs.declared.session.Command.{Command}
use Rattle.ror_session.specs.declared.session.Command.TheVariants.{State, Withdraw, Replace, Repair, Undo, Ask}
use Rattle.ror_check.specs.Repair.{numbers_of}
use Rattle.ror_report.specs.declared.block.Body.{Body}
use Rattle.ror_report.specs.declared.block.Body.TheVariants as bodies
use Rattle.ror_report.specs.declared.block.LineFault.{LineFault}
use Rattle.ror_report.specs.declared.block.LineFault.TheVariants as faults
use Rattle.ror_history.specs.History.{Revision, addition, withdrawal, replacement, Revisions, revised, standing, statements_of, added_numbers, next_number, with_numbers_from, with_revision}
use Rattle.ror_statement.specs.Statements.{numbers_in}
use Rattle.ror_history.proofs.TurnLemmas.{standing-more, next_number-more, one_more, withdrawn_stays, replaced_stays}
use Rattle.ror_history.proofs.RowLemmas.{row_count-filter, length-filter_le}
use Rattle.ror_bench.specs.Allowed.{Allowing}
use Rattle.ror_bench.specs.Bench.{IsLawfulThroughout}
use Rattle.ror_bench.specs.Names.{statement_of}
use Rattle.ror_bench.specs.Blocks.{IsBodyOf, refused, taken, with_stated, without_last, revisions_with}
use Rattle.ror_bench.proofs.NameLemmas.{statement_valid}

abbrev first_revisions : Revisions → List Revision → Revisions
first_revisions r before = record { opening = r.opening; surviving = before }

-- ---- the last of the revisions

-- a list with one more is split before its last element, or after it
split_last : {A : Type 0} (xs : List A) (x : A) (before after : List A) → xs ++ x ∷ [] ≡ before ++ after → (before ≡ xs ++ x ∷ []) ⊎ ((rest : List A) × (xs ≡ before ++ rest))
split_last xs x [] after e = inr (xs, refl)
split_last [] x (b ∷ bs) after e = inl (none bs after (let tails : [] ≡ bs ++ after = cc in tails) (let heads : x ≡ b = cc in heads))
  where
    none : (bs after : List _) → [] ≡ bs ++ after → x ≡ b → b ∷ bs ≡ x ∷ []
    none [] after e h = ap (λ y. y ∷ []) (sym h)
    none (c ∷ cs) after e h = absurd cc
split_last (y ∷ ys) x (b ∷ bs) after e =
    let heads : y ≡ b = cc in
    let tails : ys ++ x ∷ [] ≡ bs ++ after = cc in
    elim (split_last ys x bs after tails) [
      | inl all ↦ inl (rw (sym heads) (ap (λ l. y ∷ l) all))
      | inr part ↦ inr (part.0, rw (sym heads) (ap (λ l. y ∷ l) part.1))
    ]

-- a list is empty, or its front with its last element
pub front_and_last : {A : Type 0} (xs : List A) → (xs ≡ []) ⊎ ((x : A) × (xs ≡ take (length xs - 1) xs ++ x ∷ []))
front_and_last [] = inl refl
front_and_last (x ∷ []) = inr (x, refl)
front_and_last (x ∷ y ∷ ys) = elim (front_and_last (y ∷ ys)) [
  | inl none ↦ absurd (let e = none in cc)
  | inr rest ↦
      let long : length (x ∷ y ∷ ys) - 1 ≡ suc (length (y ∷ ys) - 1) = omega arith in
      inr (rest.0, ap (λ l. x ∷ l) rest.1 ∙ ap (λ n. take n (x ∷ y ∷ ys) ++ rest.0 ∷ []) (sym long))
]

-- ---- what stands stays lawful

pub lawful_now : (t : DecisionTable) (r : Revisions) → IsLawfulThroughout t r → IsLawfulIn t (statements_of r)
lawful_now t r lawful = lawful r.surviving [] (sym (append-nil r.surviving))

lawful_more : (t : DecisionTable) (r : Revisions) (x : Revision) → IsLawfulThroughout t r → IsLawfulIn t (statements_of (with_revision r x)) → IsLawfulThroughout t (with_revision r x)
lawful_more t r x lawful last before after e = elim (split_last r.surviving x before after e) [
  | inl all ↦ subst (λ (l : List Revision). IsLawfulIn t (statements_of (first_revisions r l))) (sym all) last
  | inr part ↦ lawful before part.0 part.1
]

pub statements_more : (r : Revisions) (x : Revision) → statements_of (with_revision r x) ≡ map (λ (y : Numbered). y.statement) (revised (standing r) x)
statements_more r x = ap (map (λ (y : Numbered). y.statement)) (standing-more r.opening r.surviving x)

stand : (list : List Numbered) → length (map (λ (y : Numbered). y.statement) list) ≡ length list
stand list = simp length-map

all-one : {X : Type 0} (P : X → Type 0) (xs : List X) (x : X) → AllByRecursion P xs → P x → AllByRecursion P (xs ++ x ∷ [])
all-one P [] x h own = (own, tt)
all-one P (y ∷ ys) x h own = (h.0, all-one P ys x h.1 own)

added_lawful : (t : DecisionTable) (r : Revisions) (n : ℕ) (s : Statement) → IsLawfulIn t (statements_of r) → IsValidIn t s → length (standing r) < MOST_STATEMENTS → row_count (statements_of r ++ s ∷ []) ≤ MOST_ROWS → IsLawfulIn t (statements_of (with_revision r (addition n s)))
added_lawful t r n s lawful valid few rows =
    let e : statements_of (with_revision r (addition n s)) ≡ statements_of r ++ s ∷ [] = statements_more r (addition n s) ∙ map-append (λ (x : Numbered). x.statement) (standing r) (record { number = n; statement = s } ∷ []) in
    subst (IsLawfulIn t) (sym e) (record {
      few = omega (arith, length-append (statements_of r) (s ∷ []), stand (standing r));
      rows = rows;
      each_valid = all-one (IsValidIn t) (statements_of r) s lawful.each_valid valid;
    })

valid_filtered : (t : DecisionTable) (p : Numbered → Bool) (list : List Numbered) → AllByRecursion (IsValidIn t) (map (λ (x : Numbered). x.statement) list) → AllByRecursion (IsValidIn t) (map (λ (x : Numbered). x.statement) (filter p list))
valid_filtered t p [] all = tt
valid_filtered t p (x ∷ xs) all = by (p x) (valid_filtered t p xs all.1)
  where
    by : (keeps : Bool) → AllByRecursion (IsValidIn t) (map (λ (x : Numbered). x.statement) (filter p xs)) → AllByRecursion (IsValidIn t) (map (λ (x : Numbered). x.statement) (cond keeps (x ∷ filter p xs) (filter p xs)))
    by true rest = (all.0, rest)
    by false rest = rest

withdrawn_lawful : (t : DecisionTable) (r : Revisions) (ns : List ℕ) → IsLawfulIn t (statements_of r) → IsLawfulIn t (statements_of (with_revision r (withdrawal ns)))
withdrawn_lawful t r ns lawful =
    let p : Numbered → Bool = λ x. not (is_member nat_eq ns x.number) in
    let list : List Numbered = standing r in
    let fewer = length-filter_le p list in
    let most = lawful.few in
    let fewer_rows = row_count-filter p list in
    let most_rows = lawful.rows in
    subst (IsLawfulIn t) (sym (statements_more r (withdrawal ns))) (record {
      few = omega (arith, stand list, stand (filter p list), fewer, most);
      rows = omega (arith, fewer_rows, most_rows);
      each_valid = valid_filtered t p list lawful.each_valid;
    })

valid_replaced : (t : DecisionTable) (n : ℕ) (s : Statement) (list : List Numbered) → IsValidIn t s → AllByRecursion (IsValidIn t) (map (λ (x : Numbered). x.statement) list) → AllByRecursion (IsValidIn t) (map (λ (x : Numbered). x.statement) (revised list (replacement n s)))
valid_replaced t n s [] valid all = tt
valid_replaced t n s (x ∷ xs) valid all = (by (x.number == n), valid_replaced t n s xs valid all.1)
  where
    by : (this : Bool) → IsValidIn t (if this then record { number = n; statement = s } else x).statement
    by true = valid
    by false = all.0

replaced_lawful : (t : DecisionTable) (r : Revisions) (n : ℕ) (s : Statement) → IsLawfulIn t (statements_of r) → IsValidIn t s → row_count (statements_of (with_revision r (replacement n s))) ≤ MOST_ROWS → IsLawfulIn t (statements_of (with_revision r (replacement n s)))
replaced_lawful t r n s lawful valid rows =
    let list : List Numbered = standing r in
    let e = statements_more r (replacement n s) in
    let most = lawful.few in
    let long : length (revised list (replacement n s)) ≡ length list = simp length-map in
    record {
      few = omega (arith, ap length e, stand (revised list (replacement n s)), stand list, long, most);
      rows = rows;
      each_valid = subst (AllByRecursion (IsValidIn t)) (sym e) (valid_replaced t n s list valid lawful.each_valid);
    }

undone_lawful : (t : DecisionTable) (r : Revisions) → IsLawfulThroughout t r → IsLawfulThroughout t (without_last r)
undone_lawful t r lawful before after e =
    let n : ℕ = length r.surviving - 1 in
    let whole : r.surviving ≡ before ++ (after ++ drop n r.surviving) = sym (take-append-drop n r.surviving) ∙ ap (λ (l : List Revision). l ++ drop n r.surviving) e ∙ append_assoc before after (drop n r.surviving) in
    lawful before (after ++ drop n r.surviving) whole

-- ---- numbers

fold_rises : (a : ℕ) (xs : List ℕ) → a ≤ fold max a xs
fold_rises a [] = omega arith
fold_rises a (x ∷ xs) =
    let rest = fold_rises (max a x) xs in
    let here : a ≤ max a x = omega arith in
    omega arith

undone_number : (r : Revisions) → next_number (without_last r) ≤ next_number r
undone_number r = elim (front_and_last r.surviving) [
  | inl none ↦
      let same : take (length r.surviving - 1) r.surviving ≡ r.surviving = rw none refl in
      (subst (λ (l : List Revision). next_number (first_revisions r l) ≤ next_number r) (sym same) (omega arith))
  | inr last ↦
      let front : List Revision = take (length r.surviving - 1) r.surviving in
      let more : next_number (first_revisions r (front ++ last.0 ∷ [])) ≡ 1 + fold max (fold max 0 (numbers_in (with_numbers_from 1 r.opening) ++ added_numbers front)) (added_numbers (last.0 ∷ [])) = next_number-more r.opening front last.0 in
      let rises = fold_rises (fold max 0 (numbers_in (with_numbers_from 1 r.opening) ++ added_numbers front)) (added_numbers (last.0 ∷ [])) in
      let whole : next_number r ≡ next_number (first_revisions r (front ++ last.0 ∷ [])) = ap (λ (l : List Revision). next_number (first_revisions r l)) last.1 in
      omega (arith, more, rises, whole)
]

below : (m n : ℕ) → (n ≤ m → ⊥) → m < n
below m n not_least = elim (cases_lt m n) [ inl less ↦ less | inr le ↦ absurd (not_least le) ]

at_most : (m n : ℕ) → (n < m → ⊥) → m ≤ n
at_most m n not_past = elim (cases_lt n m) [ inl past ↦ absurd (not_past past) | inr le ↦ le ]

-- ---- after a line and its body

-- of a line that states nothing, whatever its body is
repaired_lawful : (t : DecisionTable) (r : Revisions) (body : Body) → IsLawfulThroughout t r → IsLawfulThroughout t (revisions_with t r Repair body)
repaired_lawful t r (bodies.Added n) lawful = lawful
repaired_lawful t r (bodies.Withdrawn n) lawful = lawful_more t r (withdrawal (n ∷ [])) lawful (withdrawn_lawful t r (n ∷ []) (lawful_now t r lawful))
repaired_lawful t r (bodies.Replaced n) lawful = lawful
repaired_lawful t r bodies.Undone lawful = undone_lawful t r lawful
repaired_lawful t r (bodies.Repaired kept) lawful = lawful_more t r (withdrawal (numbers_of kept.dropped)) lawful (withdrawn_lawful t r (numbers_of kept.dropped) (lawful_now t r lawful))
repaired_lawful t r (bodies.RepairWide n note) lawful = lawful
repaired_lawful t r (bodies.Answers xs) lawful = lawful
repaired_lawful t r (bodies.Refused fault) lawful = lawful

repaired_number : (t : DecisionTable) (r : Revisions) (body : Body) → next_number (revisions_with t r Repair body) ≤ 1 + next_number r
repaired_number t r (bodies.Added n) = omega arith
repaired_number t r (bodies.Withdrawn n) = let stays = withdrawn_stays r (n ∷ []) in omega arith
repaired_number t r (bodies.Replaced n) = omega arith
repaired_number t r bodies.Undone = let fewer = undone_number r in omega arith
repaired_number t r (bodies.Repaired kept) = let stays = withdrawn_stays r (numbers_of kept.dropped) in omega arith
repaired_number t r (bodies.RepairWide n note) = omega arith
repaired_number t r (bodies.Answers xs) = omega arith
repaired_number t r (bodies.Refused fault) = omega arith

module _ (H : Allowing) (t : DecisionTable) (r : Revisions) where
  stated_lawful : (command : Command) (named : Named) (make : Statement → Revision) (o : Result Statement LineFault) → IsLawfulThroughout t r → ((s : Statement) → o ≡ Ok s → IsLawfulIn t (statements_of (with_revision r (make s)))) → IsLawfulThroughout t (with_stated r make (result_ok o))
  stated_lawful command named make (Err fault) lawful made = lawful
  stated_lawful command named make (Ok s) lawful made = lawful_more t r (make s) lawful (made s refl)

  -- what stands stays lawful
  pub moved_lawful : (command : Command) (body : Body) → IsLawfulThroughout t r → IsBodyOf H t r command body → IsLawfulThroughout t (revisions_with t r command body)
  moved_lawful command body lawful (refused fault first is) = subst (λ (b : Body). IsLawfulThroughout t (revisions_with t r command b)) (sym is) lawful
  moved_lawful (State named) body lawful (taken passes is) =
      subst (λ (b : Body). IsLawfulThroughout t (revisions_with t r (State named) b)) (sym is)
      (stated_lawful (State named) named (addition (next_number r)) (statement_of t named) lawful (λ s e.
      added_lawful t r (next_number r) s (lawful_now t r lawful) (statement_valid t named s e) (below (length (standing r)) MOST_STATEMENTS (passes faults.TooManyStatements)) (at_most (row_count (statements_of r ++ s ∷ [])) MOST_ROWS (λ past. passes faults.TooManyRows (s, e, past)))))
  moved_lawful (Withdraw n) body lawful (taken passes is) =
      subst (λ (b : Body). IsLawfulThroughout t (revisions_with t r (Withdraw n) b)) (sym is) (lawful_more t r (withdrawal (n ∷ [])) lawful (withdrawn_lawful t r (n ∷ []) (lawful_now t r lawful)))
  moved_lawful (Replace n named) body lawful (taken passes is) =
      subst (λ (b : Body). IsLawfulThroughout t (revisions_with t r (Replace n named) b)) (sym is)
      (stated_lawful (Replace n named) named (replacement n) (statement_of t named) lawful (λ s e.
      replaced_lawful t r n s (lawful_now t r lawful) (statement_valid t named s e) (at_most (row_count (statements_of (with_revision r (replacement n s)))) MOST_ROWS (λ past. passes faults.TooManyRows (s, e, past)))))
  moved_lawful Undo body lawful (taken passes is) =
      subst (λ (b : Body). IsLawfulThroughout t (revisions_with t r Undo b)) (sym is) (undone_lawful t r lawful)
  moved_lawful Repair body lawful (taken passes is) = repaired_lawful t r body lawful
  moved_lawful (Ask asked) body lawful (taken passes is) =
      subst (λ (b : Body). IsLawfulThroughout t (revisions_with t r (Ask asked) b)) (sym is.0) lawful

  -- one number at most is taken
  stated_number : (make : Statement → Revision) (o : Result Statement LineFault) → ((s : Statement) → next_number (with_revision r (make s)) ≤ 1 + next_number r) → next_number (with_stated r make (result_ok o)) ≤ 1 + next_number r
  stated_number make (Err fault) made = omega arith
  stated_number make (Ok s) made = made s

  pub moved_number : (command : Command) (body : Body) → IsBodyOf H t r command body → next_number (revisions_with t r command body) ≤ 1 + next_number r
  moved_number command body (refused fault first is) = subst (λ (b : Body). next_number (revisions_with t r command b) ≤ 1 + next_number r) (sym is) (omega arith)
  moved_number (State named) body (taken passes is) =
      subst (λ (b : Body). next_number (revisions_with t r (State named) b) ≤ 1 + next_number r) (sym is) (stated_number (addition (next_number r)) (statement_of t named) (λ s. let more = one_more r s in omega arith))
  moved_number (Withdraw n) body (taken passes is) =
      subst (λ (b : Body). next_number (revisions_with t r (Withdraw n) b) ≤ 1 + next_number r) (sym is) (let stays = withdrawn_stays r (n ∷ []) in omega arith)
  moved_number (Replace n named) body (taken passes is) =
      subst (λ (b : Body). next_number (revisions_with t r (Replace n named) b) ≤ 1 + next_number r) (sym is) (stated_number (replacement n) (statement_of t named) (λ s. let stays = replaced_stays r n s in omega arith))
  moved_number Undo body (taken passes is) =
      subst (λ (b : Body). next_number (revisions_with t r Undo b) ≤ 1 + next_number r) (sym is) (let fewer = undone_number r in omega arith)
  moved_number Repair body (taken passes is) = repaired_number t r body
  moved_number (Ask asked) body (taken passes is) =
      subst (λ (b : Body). next_number (revisions_with t r (Ask asked) b) ≤ 1 + next_number r) (sym is.0) (omega arith)
