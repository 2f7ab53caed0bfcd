-- What each step of the check leaves to the next, and how a search begins.
use Rattle.std.proofs.Common.{◌≡◌, ◌≢◌, inl, inr, ℕ, zero, suc, ◌+◌, ◌-◌, ◌<◌, ◌≤◌, true, false, List, [], ◌∷◌, ◌++◌, length, map, take, reverse, Some, Result, append-nil, refl, sym, ap, ap₂, subst, ◌∙◌, arith}
use Rattle.std.specs.Prelude.{nat_eq, not, slice_get, IfErr}
use Rattle.std.specs.List.{AllByRecursion, filter, flat_map, range_with_len}
use Rattle.std.specs.Set.{is_member}
use Rattle.std.proofs.lemmas.List.{length-map, reverse-reverse, reverse-append, take_all}
use Rattle.ror_text.specs.FirstFault.{IsFirst, IsRefusedBy}
use Rattle.ror_text.proofs.FirstFaultLemmas.{refused_by_memory, refused_not_passed, not_earlier}
use Rattle.ror_text.proofs.Everywhere.{all-append, all_at}
use Rattle.ror_statement.specs.declared.row_number.TheConstants.{MOST_STATEMENTS}
use Rattle.ror_statement.specs.declared.statement.Statement.{Statement}
use Rattle.ror_table.specs.declared.limits.TheConstants.{MOST_ALTERNATIVES}
use Rattle.ror_table.specs.Table.{DecisionTable, IsTable}
use Rattle.ror_system.specs.System.{LinearSystem}
use Rattle.ror_value.specs.Over.{IsNamedIn}
use Rattle.ror_rows.specs.declared.extra.Extra.{Extra}
use Rattle.ror_check.specs.Proof.{base_system}
use Rattle.ror_ranks.specs.declared.extreme.Side.{Side}
use Rattle.ror_ranks.specs.declared.extreme.Side.TheVariants.{Best, Worst}
use Rattle.ror_ranks.specs.declared.extreme.Conflict.{Conflict}
use Rattle.ror_ranks.specs.declared.extreme.Node.{Node}
use Rattle.ror_ranks.specs.declared.extreme.Said.{Said}
use Rattle.ror_ranks.specs.declared.extreme.Said.TheVariants as said
use Rattle.ror_ranks.specs.declared.extreme.Extreme.{Extreme}
use Rattle.ror_ranks.specs.declared.fault.ExtremeFault.{ExtremeFault}
use Rattle.ror_ranks.specs.declared.fault.ExtremeFault.TheVariants as faults
use Rattle.ror_ranks.specs.declared.fault.RanksFault.{RanksFault}
use Rattle.ror_ranks.specs.declared.fault.RanksFault.TheVariants as ranks
use Rattle.ror_ranks.specs.Ranks.{others}
use Rattle.ror_ranks.specs.declared.sides.Asked.{Asked}
use Rattle.ror_ranks.specs.Conflicts.{are_others, others_but, row_on, rows_on, side_system, IsProvedConflict}
use Rattle.ror_ranks.specs.Trees.{may_stand, sets_below, sets_left, root_sets, IsTree}
use Rattle.ror_ranks.specs.Proof.{both_sides, extreme_of, AreDue, AreProvedRanks, IsProvedExtreme}
use Rattle.ror_ranks.specs.Faults.{FailsNode, IsUnfinished, FailsSaid, IsEarlierExtremeFault, FailsExtremeAt, FailsRanks, ranks_stage, ranks_place, IsEarlierRanksFault}
use Rattle.ror_ranks.specs.Steps.{IsAsked, due_from, RefusesConflict, RefusesConflicts, RefusesSaid, refused_at}
use Rattle.ror_ranks.proofs.Sets.{all_members}
use Rattle.ror_ranks.proofs.Counting.{IsOther, set_others}
use Rattle.ror_ranks.proofs.OthersLemmas.{set_few}
use Rattle.ror_ranks.proofs.CheckLemmas.{get_front, refused_first}
use Rattle.ror_ranks.proofs.FaultLemmas.{left_more, proved_ranks_pass, said_passes}

-- ---- a list up to a place

-- one element more
pub take_more : {X : Type 0} (xs : List X) (n : ℕ) (x : X) → slice_get xs n ≡ Some x → take (n + 1) xs ≡ take n xs ++ x ∷ []
take_more [] n x there = absurd cc
take_more (y ∷ ys) zero x there = let same : x ≡ y = cc in ap (λ z. z ∷ []) (sym same)
take_more (y ∷ ys) (suc n) x there =
    let e : suc n + 1 ≡ suc (n + 1) = omega arith in
    ap (λ (m : ℕ). take m (y ∷ ys)) e ∙ ap (λ zs. y ∷ zs) (take_more ys n x there)

pub all_more : {X : Type 0} (P : X → Type 0) (xs : List X) (n : ℕ) (x : X) → slice_get xs n ≡ Some x → AllByRecursion P (take n xs) → P x → AllByRecursion P (take (n + 1) xs)
all_more P xs n x there before here = subst (AllByRecursion P) (sym (take_more xs n x there)) (all-append P (take n xs) (x ∷ []) before (here, tt))

pub all_whole : {X : Type 0} (P : X → Type 0) (xs : List X) (n : ℕ) → length xs ≤ n → AllByRecursion P (take n xs) → AllByRecursion P xs
all_whole P xs n past all = subst (AllByRecursion P) (take_all n xs past) all

-- ---- trees

module _ (conflicts : List Conflict) (goal : ℕ) (nodes : List Node) where
  -- these sets are left after the first nodes, the next one last
  abbrev pub IsLeft : ℕ → List (List ℕ) → Type 0
  IsLeft place sets = sets_left conflicts goal root_sets (take place nodes) ≡ Some (reverse sets)

  pub left_at_first : IsLeft 0 root_sets
  left_at_first = refl

  -- no set is left for the node
  pub node_too_many : (place : ℕ) (node : Node) → slice_get nodes place ≡ Some node → IsLeft place [] → FailsNode conflicts goal nodes place
  node_too_many place node there left = record { node = node; sets = []; there = there; before = left; stands_not = tt }

  next_set : (front : List (List ℕ)) (set : List ℕ) → reverse (front ++ set ∷ []) ≡ set ∷ reverse front
  next_set front set = reverse-append front (set ∷ [])

  pub node_refused : (place : ℕ) (node : Node) (front : List (List ℕ)) (set : List ℕ) → slice_get nodes place ≡ Some node → IsLeft place (front ++ set ∷ [])
      → may_stand conflicts goal set node ≡ false → FailsNode conflicts goal nodes place
  node_refused place node front set there left not_ = record {
    node = node;
    sets = set ∷ reverse front;
    there = there;
    before = left ∙ ap Some (next_set front set);
    stands_not = not_;
  }

  pub left_after : (place : ℕ) (node : Node) (front : List (List ℕ)) (set : List ℕ) → slice_get nodes place ≡ Some node → IsLeft place (front ++ set ∷ [])
      → may_stand conflicts goal set node ≡ true → IsLeft (place + 1) (front ++ reverse (sets_below conflicts set node))
  left_after place node front set there left stands =
      let below = sets_below conflicts set node in
      let before = left ∙ ap Some (next_set front set) in
      let one : sets_left conflicts goal (set ∷ reverse front) (node ∷ []) ≡ Some (below ++ reverse front) = rw stands refl in
      let turned : reverse (front ++ reverse below) ≡ below ++ reverse front = reverse-append front (reverse below) ∙ ap (λ ss. ss ++ reverse front) (reverse-reverse below) in
      ap (sets_left conflicts goal root_sets) (take_more nodes place node there)
      ∙ left_more conflicts goal root_sets (set ∷ reverse front) (take place nodes) (node ∷ []) before
      ∙ one
      ∙ ap Some (sym turned)

  pub whole_tree : (n : ℕ) → length nodes ≤ n → IsLeft n [] → IsTree conflicts goal nodes
  whole_tree n past left = ap (sets_left conflicts goal root_sets) (sym (take_all n nodes past)) ∙ left

  unfinished_by : (left : List (List ℕ)) → sets_left conflicts goal root_sets nodes ≡ Some left → (left ≡ [] → ⊥) → IsUnfinished conflicts goal nodes
  unfinished_by [] left some = absurd (some refl)
  unfinished_by (set ∷ sets) left some = record { set = set; sets = sets; left = left }

  -- some set is left
  pub unfinished : (n : ℕ) (sets : List (List ℕ)) → length nodes ≤ n → IsLeft n sets → (sets ≡ [] → ⊥) → IsUnfinished conflicts goal nodes
  unfinished n sets past left some =
      unfinished_by (reverse sets) (ap (sets_left conflicts goal root_sets) (sym (take_all n nodes past)) ∙ left) (λ none. some (sym (reverse-reverse sets) ∙ ap reverse none))

-- ---- conflicts

pub conflict_refused : (t : DecisionTable) (base : LinearSystem) (side : Side) (a : ℕ) (conflicts : List Conflict) (place : ℕ) (c : Conflict) (fault : ExtremeFault)
    → slice_get conflicts place ≡ Some c → AllByRecursion (IsProvedConflict t base side a) (take place conflicts) → RefusesConflict t base side a place c fault
    → RefusesConflicts t base side a conflicts fault
conflict_refused t base side a conflicts place c faults.Memory there before refuses = tt
conflict_refused t base side a conflicts place c faults.Ends there before refuses = absurd refuses
conflict_refused t base side a conflicts place c faults.Except there before refuses = absurd refuses
conflict_refused t base side a conflicts place c (faults.Function r) there before refuses = absurd refuses
conflict_refused t base side a conflicts place c (faults.Members p) there before refuses = record { place = place; conflict = c; there = there; before = before; refuses = refuses }
conflict_refused t base side a conflicts place c (faults.Conflict p r) there before refuses = record { place = place; conflict = c; there = there; before = before; refuses = refuses }
conflict_refused t base side a conflicts place c (faults.Node p) there before refuses = absurd refuses
conflict_refused t base side a conflicts place c faults.Unfinished there before refuses = absurd refuses

-- ---- all extreme ranks

said_first : (t : DecisionTable) (base : LinearSystem) (side : Side) (a : ℕ) (s : Said) (fault : ExtremeFault) → fault ≢ faults.Memory → RefusesSaid t base side a s fault
    → IsFirst (FailsSaid t base side a s) IsEarlierExtremeFault fault
said_first t base side a (said.Within x) fault ne refuses = refused_first t base side a x fault ne refuses
said_first t base side a (said.Wide x) fault ne refuses = absurd refuses

module _ (t : DecisionTable) (list : List Statement) (xs : List Extreme) where
  pub not_due_first : (AreDue t xs → ⊥) → IsFirst (FailsRanks t list xs) IsEarlierRanksFault ranks.NotDue
  not_due_first fails = record { fails = fails; none_before = λ other earlier f. not_earlier ranks_stage ranks_place other ranks.NotDue (omega arith) (omega arith) earlier }

  -- the one at a place has a fault, and those before it are proved
  extreme_first : (place : ℕ) (x : Extreme) (fault : ExtremeFault) → AreDue t xs → slice_get xs place ≡ Some x → AllByRecursion (IsProvedExtreme t (base_system t list)) (take place xs)
      → IsFirst (FailsSaid t (base_system t list) x.side x.alternative x.said) IsEarlierExtremeFault fault
      → IsFirst (FailsRanks t list xs) IsEarlierRanksFault (ranks.Extreme (place + 1) fault)
  extreme_first place x fault due there proved first = record {
    fails = record { extreme = x; before = place; counted = refl; there = there; first = first };
    none_before = before;
  }
    where
      less_by : (k : ℕ) (g : ExtremeFault) → IsEarlierRanksFault (ranks.Extreme k g) (ranks.Extreme (place + 1) fault) → k < place + 1
      less_by k g (inl stage) = absurd (omega arith)
      less_by k g (inr same) = same.1

      passes : (k : ℕ) (g : ExtremeFault) → k < place + 1 → FailsExtremeAt t list xs k g → ⊥
      passes k g less f =
          let counted = f.counted in
          let y = f.extreme in
          let front : slice_get (take place xs) f.before ≡ Some y = get_front xs place f.before (omega (arith, less, counted)) ∙ f.there in
          let one : IsProvedExtreme t (base_system t list) y = all_at (IsProvedExtreme t (base_system t list)) (take place xs) f.before y proved front in
          said_passes t (base_system t list) y.side y.alternative y.said g one f.first.fails

      before : (other : RanksFault) → IsEarlierRanksFault other (ranks.Extreme (place + 1) fault) → FailsRanks t list xs other → ⊥
      before ranks.NotDue earlier f = f due
      before (ranks.Extreme k g) earlier f = passes k g (less_by k g earlier) f
      before ranks.Memory earlier f = f

  pub extreme_refused : (place : ℕ) (x : Extreme) (fault : ExtremeFault) → AreDue t xs → slice_get xs place ≡ Some x → AllByRecursion (IsProvedExtreme t (base_system t list)) (take place xs)
      → RefusesSaid t (base_system t list) x.side x.alternative x.said fault → IsRefusedBy (FailsRanks t list xs) IsEarlierRanksFault ranks.Memory (refused_at (place + 1) fault)
  extreme_refused place x faults.Memory due there proved refuses = refused_by_memory (FailsRanks t list xs) IsEarlierRanksFault ranks.Memory
  extreme_refused place x faults.Ends due there proved refuses = λ ne. extreme_first place x faults.Ends due there proved (said_first t (base_system t list) x.side x.alternative x.said faults.Ends (λ e. cc) refuses)
  extreme_refused place x faults.Except due there proved refuses = λ ne. extreme_first place x faults.Except due there proved (said_first t (base_system t list) x.side x.alternative x.said faults.Except (λ e. cc) refuses)
  extreme_refused place x (faults.Function r) due there proved refuses = λ ne. extreme_first place x (faults.Function r) due there proved (said_first t (base_system t list) x.side x.alternative x.said (faults.Function r) (λ e. cc) refuses)
  extreme_refused place x (faults.Members p) due there proved refuses = λ ne. extreme_first place x (faults.Members p) due there proved (said_first t (base_system t list) x.side x.alternative x.said (faults.Members p) (λ e. cc) refuses)
  extreme_refused place x (faults.Conflict p r) due there proved refuses = λ ne. extreme_first place x (faults.Conflict p r) due there proved (said_first t (base_system t list) x.side x.alternative x.said (faults.Conflict p r) (λ e. cc) refuses)
  extreme_refused place x (faults.Node p) due there proved refuses = λ ne. extreme_first place x (faults.Node p) due there proved (said_first t (base_system t list) x.side x.alternative x.said (faults.Node p) (λ e. cc) refuses)
  extreme_refused place x faults.Unfinished due there proved refuses = λ ne. extreme_first place x faults.Unfinished due there proved (said_first t (base_system t list) x.side x.alternative x.said faults.Unfinished (λ e. cc) refuses)

  pub not_proved : {A : Type 0} (r : Result A RanksFault) → IfErr r (IsRefusedBy (FailsRanks t list xs) IsEarlierRanksFault ranks.Memory) → IfErr r (λ e. e ≢ ranks.Memory → AreProvedRanks t list xs → ⊥)
  not_proved r refused = refused_not_passed (FailsRanks t list xs) IsEarlierRanksFault ranks.Memory r (λ fault proved fails. proved_ranks_pass t list xs fault proved fails) refused

  -- all are due from the first alternative on
  pub due_of_all : map extreme_of xs ≡ due_from 0 (length t.alternatives) → AreDue t xs
  due_of_all due = due ∙ ap (λ (m : ℕ). flat_map both_sides (range_with_len 0 m)) whole
    where
      whole : length t.alternatives - 0 ≡ length t.alternatives
      whole = omega arith

  pub all_due : (count : ℕ) → map extreme_of xs ≡ due_from 0 count → count ≡ length t.alternatives → AreDue t xs
  all_due count due number = due_of_all (due ∙ ap (due_from 0) number)

  -- over the base that was made of the list
  pub said_refused : (base : LinearSystem) (place : ℕ) (x : Extreme) (fault : ExtremeFault) → base ≡ base_system t list → AreDue t xs → slice_get xs place ≡ Some x
      → AllByRecursion (IsProvedExtreme t (base_system t list)) (take place xs)
      → RefusesSaid t base x.side x.alternative x.said fault → IsRefusedBy (FailsRanks t list xs) IsEarlierRanksFault ranks.Memory (refused_at (place + 1) fault)
  said_refused base place x fault is due there proved refuses =
      extreme_refused place x fault due there proved (subst (λ (s : LinearSystem). RefusesSaid t s x.side x.alternative x.said fault) is refuses)

  -- two are due of each alternative
  pub due_few : IsTable t → AreDue t xs → length xs ≤ 400
  due_few table due =
      let long = sym (length-map xs extreme_of) ∙ ap length due ∙ both_long (length t.alternatives) 0 in
      let limit = table.alternatives_limit in
      let most : MOST_ALTERNATIVES ≡ 200 = refl in
      omega (arith, long, limit, most)
    where
      both_long : (m s : ℕ) → length (flat_map both_sides (range_with_len s m)) ≡ m + m
      both_long zero s = refl
      both_long (suc m) s = let rest = both_long m (s + 1) in omega (arith, rest)

-- ---- what is due, one alternative after another

pub due_none : (n : ℕ) → due_from n n ≡ []
due_none n = let e : n - n ≡ 0 = omega arith in ap (λ (m : ℕ). flat_map both_sides (range_with_len n m)) e

pub due_more : (first n : ℕ) → first < n → due_from first n ≡ both_sides first ++ due_from (first + 1) n
due_more first n less =
    let e : n - first ≡ suc (n - (first + 1)) = omega arith in
    ap (λ (m : ℕ). flat_map both_sides (range_with_len first m)) e

-- ---- how a search begins

-- where all others may count, no row says that one does not
all_excepted : (xs ys : List ℕ) → AllByRecursion (λ q. is_member nat_eq ys q ≡ true) xs → filter (λ b. not (is_member nat_eq ys b)) xs ≡ []
all_excepted [] ys all = refl
all_excepted (x ∷ xs) ys all = let here = all.0 in rw here (all_excepted xs ys all.1)

pub nothing_added : (t : DecisionTable) (base : LinearSystem) (side : Side) (a : ℕ) → side_system t base side a [] ≡ base
nothing_added t base side a = ap₂ (λ weak strict. record { columns = base.columns; weak = weak; strict = strict }) (append-nil base.weak) (append-nil base.strict)

keeps_all : (xs : List ℕ) → filter (λ b. not (is_member nat_eq [] b)) xs ≡ xs
keeps_all [] = refl
keeps_all (x ∷ xs) = ap (λ ys. x ∷ ys) (keeps_all xs)

all_own : (xs : List ℕ) → AllByRecursion (λ q. is_member nat_eq xs q ≡ true) xs
all_own xs = all_members (λ q. is_member nat_eq xs q ≡ true) xs (λ q h. h)

-- the others but all others are none
pub none_left : (t : DecisionTable) (a : ℕ) → others_but t a (others_but t a []) ≡ []
none_left t a =
    let all = keeps_all (others t a) in
    ap (λ (except : List ℕ). filter (λ b. not (is_member nat_eq except b)) (others t a)) all ∙ all_excepted (others t a) (others t a) (all_own (others t a))

-- ---- the rows of a side

-- there are no more than a system takes
pub rows_few : (x : Asked) (members : List ℕ) (rows : List Extra) → IsAsked x → are_others x.table.now x.alternative members ≡ true → rows ≡ rows_on x.side x.alternative members
    → length rows ≤ MOST_STATEMENTS
rows_few x members rows asked are is =
    let few = set_few x.table.now x.alternative members asked.alternative are in
    let limit = asked.table.alternatives_limit in
    let long = ap length is ∙ length-map members (row_on x.side x.alternative) in
    let most : MOST_ALTERNATIVES ≡ 200 = refl in
    let statements : MOST_STATEMENTS ≡ 200 = refl in
    omega (arith, few, limit, long, most, statements)

each_named : (t : DecisionTable) (side : Side) (a : ℕ) (members : List ℕ) → a < length t.alternatives → AllByRecursion (IsOther t a) members
    → AllByRecursion (λ (e : Extra). IsNamedIn t e.form) (rows_on side a members)
each_named t side a [] of_table are = tt
each_named t Best a (b ∷ bs) of_table are = ((of_table, are.0.of_table), each_named t Best a bs of_table are.1)
each_named t Worst a (b ∷ bs) of_table are = ((are.0.of_table, of_table), each_named t Worst a bs of_table are.1)

-- and each names alternatives of the table
pub rows_name : (x : Asked) (members : List ℕ) (rows : List Extra) → IsAsked x → are_others x.table.now x.alternative members ≡ true → rows ≡ rows_on x.side x.alternative members
    → AllByRecursion (λ (e : Extra). IsNamedIn x.table.now e.form) rows
rows_name x members rows asked are is =
    subst (λ (es : List Extra). AllByRecursion (λ (e : Extra). IsNamedIn x.table.now e.form) es) (sym is)
    (each_named x.table.now x.side x.alternative members asked.alternative (set_others x.table.now x.alternative 0 members are))
