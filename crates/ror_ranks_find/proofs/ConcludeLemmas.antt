-- What is concluded of an extreme rank from the last whole tree, the next one, and the function that is kept.
use Rattle.std.proofs.Common.{◌≡◌, ◌≢◌, ◌⊎◌, ℕ, ◌+◌, ◌<◌, ◌≤◌, List, [], ◌∷◌, length, reverse, inl, inr, refl, sym, ap, subst, ◌∙◌, arith}
use Rattle.std.specs.List.{AllByRecursion}
use Rattle.std.proofs.lemmas.List.{reverse-reverse}
use Rattle.ror_text.proofs.Everywhere.{all-by, all-back, all_at}
use Rattle.ror_table.specs.Table.{DecisionTable}
use Rattle.ror_word.specs.Within.{IsWithin as FitsWithin}
use Rattle.ror_system.specs.System.{LinearSystem}
use Rattle.ror_system.specs.declared.accept.Solution.{Solution}
use Rattle.ror_pivot.specs.Answers.{most_of}
use Rattle.ror_ranks.specs.declared.extreme.Side.{Side}
use Rattle.ror_ranks.specs.declared.extreme.Side.TheVariants.{Best, Worst}
use Rattle.ror_ranks.specs.declared.extreme.Conflict.{Conflict}
use Rattle.ror_ranks.specs.declared.extreme.Interval.{Interval}
use Rattle.ror_ranks.specs.declared.extreme.WideExtreme.{WideExtreme}
use Rattle.ror_ranks.specs.declared.extreme.Said.{Said}
use Rattle.ror_ranks.specs.declared.extreme.Said.TheVariants as said
use Rattle.ror_ranks_find.specs.declared.growing.Tree.{Tree}
use Rattle.ror_ranks_find.specs.declared.growing.State.{State}
use Rattle.ror_ranks_find.specs.declared.growing.State.TheVariants as states
use Rattle.ror_ranks_find.specs.declared.found.Found.{Found}
use Rattle.ror_ranks_find.specs.declared.sought.Sought.{Sought}
use Rattle.ror_ranks.specs.declared.limits.TheConstants.{MOST_NODES}
use Rattle.ror_ranks.specs.Ranks.{rank_of_count}
use Rattle.ror_ranks.specs.Conflicts.{IsProvedConflict, IsReached}
use Rattle.ror_ranks.specs.Trees.{IsTree}
use Rattle.ror_ranks.specs.Proof.{bound_of_all, bound_of_one, fewest, allowed, AreEnds, IsProvedInterval}
use Rattle.ror_ranks.specs.Finding.{AreWithin, IsCutShort}
use Rattle.ror_ranks_find.specs.Search.{OfAsked, AreConflictsFor, IsConflictFor, IsFoundFor, IsGrowing, IsStopped, IsGrown, IsIntervalOf, IsWithin, IsWideFor, IsLastWide, IsConcluded, IsSaidOf, AreCopiedFrom, ends_by}
use Rattle.ror_ranks.proofs.OthersLemmas.{set_few}
use Rattle.ror_ranks_find.proofs.MeetLemmas.{tree_within_reach}

-- ---- the interval

-- its ends by the two counts
pub record HasCounts (side : Side) (n goal : ℕ) (x : Interval) : Type 0 where
  pub of_all : bound_of_all side x ≡ rank_of_count side n goal
  pub of_one : bound_of_one side x ≡ rank_of_count side n (length x.except)

-- the ends that the two bounds make have these counts
pub counts_by : (side : Side) (n goal all one : ℕ) (x : Interval) → (x.from, x.to) ≡ ends_by side all one → all ≡ rank_of_count side n goal → one ≡ rank_of_count side n (length x.except) → HasCounts side n goal x
counts_by Best n goal all one x ends of_all of_one = record { of_all = ap (λ (e : ℕ × ℕ). e.0) ends ∙ of_all; of_one = ap (λ (e : ℕ × ℕ). e.1) ends ∙ of_one }
counts_by Worst n goal all one x ends of_all of_one = record { of_all = ap (λ (e : ℕ × ℕ). e.1) ends ∙ of_all; of_one = ap (λ (e : ℕ × ℕ). e.0) ends ∙ of_one }

pub record IsOfCounts (t : DecisionTable) (side : Side) (goal : ℕ) (x : Interval) : Type 0 where
  pub ends : AreEnds t x
  pub fewest_is : fewest side (length t.alternatives) x ≡ goal
  pub allowed_is : allowed side (length t.alternatives) x ≡ length x.except

pub of_counts : (t : DecisionTable) (side : Side) (goal : ℕ) (x : Interval) → HasCounts side (length t.alternatives) goal x → goal ≤ length x.except → length x.except + 1 ≤ length t.alternatives → IsOfCounts t side goal x
of_counts t Best goal x has low few =
    let e = has.of_all in
    let f = has.of_one in record {
      ends = record { first = omega (arith, e); ordered = omega (arith, e, f, low); last = omega (arith, f, few) };
      fewest_is = omega (arith, e);
      allowed_is = omega (arith, f);
    }
of_counts t Worst goal x has low few =
    let e = has.of_all in
    let f = has.of_one in record {
      ends = record { first = omega (arith, f, few); ordered = omega (arith, e, f, low); last = omega (arith, e) };
      fewest_is = omega (arith, e, low, few);
      allowed_is = omega (arith, f, few);
    }

pub interval_proved : (t : DecisionTable) (base : LinearSystem) (side : Side) (a goal : ℕ) (x : Interval) → a < length t.alternatives
    → AllByRecursion (IsProvedConflict t base side a) x.conflicts → IsTree x.conflicts goal x.tree → IsReached t base side a x.except x.function
    → HasCounts side (length t.alternatives) goal x → IsProvedInterval t base side a x × IsOfCounts t side goal x
interval_proved t base side a goal x of_table proved tree reached has =
    let low = tree_within_reach t base side a x.conflicts goal x.tree x.except x.function reached proved tree in
    let counts = of_counts t side goal x has low (set_few t a x.except of_table reached.others) in (
      record {
        ends = counts.ends;
        of_one = record { reached = reached; number = sym counts.allowed_is };
        of_all = record { conflicts = proved; tree = subst (λ (g : ℕ). IsTree x.conflicts g x.tree) (sym counts.fewest_is) tree };
      },
      counts,
    )

-- copies of conflicts are what these are
pub copies_hold : (P : Conflict → Type 0) (conflicts copies : List Conflict) → AllByRecursion P conflicts → AreCopiedFrom conflicts copies → AllByRecursion P copies
copies_hold P conflicts [] all copied = tt
copies_hold P conflicts (c ∷ cs) all copied = (all_at P conflicts copied.0.0 c all copied.0.1, copies_hold P conflicts cs all copied.1)

-- the interval that is made of what was found and of the last whole tree
pub within_is : (s : Sought) (found : Found) (done : Tree) (x : Interval) → s.asked.alternative < length s.asked.table.now.alternatives → IsFoundFor s found
    → HasCounts s.asked.side (length s.asked.table.now.alternatives) done.goal x → x.except ≡ found.except → x.function ≡ found.function
    → AreCopiedFrom found.conflicts.items x.conflicts → length x.conflicts ≤ length found.conflicts.items → IsTree x.conflicts done.goal x.tree → length x.tree ≤ MOST_NODES
    → IsIntervalOf s found done x
within_is s found done x of_table holds has except function copied no_more tree few_nodes = record {
  proved = both.0;
  narrow = record {
    function = subst (λ (f : Solution). AllByRecursion (FitsWithin (most_of s.bits)) f.steps) (sym function) holds.reached.1;
    conflicts = all-by (IsConflictFor s) (λ (c : Conflict). AreWithin (most_of s.bits) c.multipliers) x.conflicts (λ c one. one.1) copies;
  };
  few = record { conflicts = (let most = holds.few in omega (arith, no_more, most)); nodes = few_nodes };
  of_all = both.1.fewest_is;
  of_one = both.1.allowed_is ∙ ap length except;
}
  where
    copies : AllByRecursion (IsConflictFor s) x.conflicts
    copies = copies_hold (IsConflictFor s) found.conflicts.items x.conflicts holds.conflicts copied

    reached : OfAsked IsReached s.asked x.except x.function
    reached = subst (λ (f : Solution). OfAsked IsReached s.asked x.except f) (sym function) (subst (λ (e : List ℕ). OfAsked IsReached s.asked e found.function) (sym except) holds.reached.0)

    both : OfAsked IsProvedInterval s.asked x × IsOfCounts s.asked.table.now s.asked.side done.goal x
    both = interval_proved s.asked.table.now s.asked.base.now s.asked.side s.asked.alternative done.goal x of_table
        (all-by (IsConflictFor s) (OfAsked IsProvedConflict s.asked) x.conflicts (λ c one. one.0) copies) tree reached has

-- ---- why the next tree isn't whole

-- where no more count than the tree shows, the ends are one
ends_meet : (t : DecisionTable) (side : Side) (x : Interval) → AreEnds t x → allowed side (length t.alternatives) x ≤ fewest side (length t.alternatives) x → x.from ≡ x.to
ends_meet t Best x ends low =
    let first = ends.first in
    let ordered = ends.ordered in
    omega (arith, first, ordered, low)
ends_meet t Worst x ends low =
    let ordered = ends.ordered in
    let last = ends.last in
    omega (arith, ordered, last, low)

pub conflicts_proved : (s : Sought) (conflicts : List Conflict) → AreConflictsFor s conflicts → AllByRecursion (OfAsked IsProvedConflict s.asked) conflicts
conflicts_proved s conflicts are = all-by (IsConflictFor s) (OfAsked IsProvedConflict s.asked) conflicts (λ c one. one.0) are

module _ (s : Sought) (found : Found) (holds : IsFoundFor s found) (done next : Tree) (one_more : next.goal ≡ done.goal + 1) (x : Interval) (is : IsIntervalOf s found done x) where
  cut_short : IsGrowing found next → length next.nodes.items ≡ MOST_NODES → (next.sets.items ≡ [] → ⊥) → OfAsked IsCutShort s.asked x
  cut_short growing many some =
      let of_all = is.of_all in
      let of_one = is.of_one in record {
        goal = next.goal;
        more = omega (arith, of_all, one_more);
        may_be = omega (arith, of_one, enough);
        conflicts = found.conflicts.items;
        proved = conflicts_proved s found.conflicts.items holds.conflicts;
        nodes = next.nodes.items;
        many = many;
        sets = reverse next.sets.items;
        left = growing.left;
        some_set = λ none. some (sym (reverse-reverse next.sets.items) ∙ ap reverse none);
      }
    where
      enough_by : (next.nodes.items ≡ []) ⊎ (next.goal ≤ length found.except) → next.goal ≤ length found.except
      enough_by (inl none) =
          let no_nodes : length next.nodes.items ≡ 0 = ap length none in
          let limit : MOST_NODES ≡ 1000 = refl in
          absurd (omega (arith, no_nodes, many, limit))
      enough_by (inr le) = le

      enough : next.goal ≤ length found.except
      enough = enough_by growing.goal

  stopped_at : (state : State) → next.state ≡ state → IsStopped found next state → (next.state ≡ states.Wide → found.wide.items ≡ []) → x.from ≡ x.to
  stopped_at states.Growing e stopped quiet = absurd stopped
  stopped_at states.Reached e stopped quiet =
      let of_all = is.of_all in
      let of_one = is.of_one in
      ends_meet s.asked.table.now s.asked.side x is.proved.ends (omega (arith, of_all, of_one, stopped, one_more))
  stopped_at states.Wide e stopped quiet = absurd (stopped (quiet e))

  one_or_cut : IsGrown found next → (next.state ≡ states.Growing → next.sets.items ≡ [] → ⊥) → (next.state ≡ states.Wide → found.wide.items ≡ [])
      → (x.from ≡ x.to) ⊎ OfAsked IsCutShort s.asked x
  one_or_cut (inl (growing, few, inl none)) open_ quiet = absurd (open_ growing.state none)
  one_or_cut (inl (growing, few, inr many)) open_ quiet = inr (cut_short growing many (λ none. open_ growing.state none))
  one_or_cut (inr stopped) open_ quiet = inl (stopped_at next.state refl stopped quiet)

-- ---- what is said

some_is_some : (x : WideExtreme) (xs : List WideExtreme) → x ∷ xs ≡ [] → ⊥
some_is_some x xs e = cc

none_by : (wide : List WideExtreme) → (wide ≢ [] → ⊥) → wide ≡ []
none_by [] filled = refl
none_by (x ∷ xs) filled = absurd (filled (some_is_some x xs))

-- where no number is too wide in the end
pub concluded_within : (s : Sought) (found : Found) (done : Tree) (state : State) (x : Said) → ((state ≡ states.Wide) × (found.wide.items ≢ []) → ⊥) → IsWithin s found done x → IsConcluded s found done state x
concluded_within s found done state x quiet within = inr ((λ wide. none_by found.wide.items (λ some. quiet (wide, some))), within)

last_wide : (s : Sought) (wide : List WideExtreme) (x : Said) → AllByRecursion (IsWideFor s) wide → IsLastWide wide x → IsSaidOf s x
last_wide s wide (said.Within x) all last = absurd last
last_wide s wide (said.Wide x) all last = (all-back (IsWideFor s) last.0 (x ∷ []) (subst (AllByRecursion (IsWideFor s)) last.1 all)).0

-- where the next tree isn't whole
pub said_of : (s : Sought) (found : Found) (done next : Tree) (x : Said) → IsFoundFor s found → next.goal ≡ done.goal + 1 → IsGrown found next
    → (next.state ≡ states.Growing → next.sets.items ≡ [] → ⊥) → IsConcluded s found done next.state x → IsSaidOf s x
said_of s found done next x holds one_more grown open_ (inl h) = last_wide s found.wide.items x holds.wide h.1
said_of s found done next (said.Within x) holds one_more grown open_ (inr h) = record {
  proved = h.1.proved;
  narrow = h.1.narrow;
  few = h.1.few;
  one = one_or_cut s found holds done next one_more x h.1 grown open_ h.0;
}
said_of s found done next (said.Wide x) holds one_more grown open_ (inr h) = absurd h.1
