-- Extreme ranks as texts, both ways: what was written is read again, and what is read was so written.
use Rattle.std.proofs.Common.{◌≡◌, ℕ, zero, suc, ◌+◌, List, [], ◌∷◌, ◌++◌, length, Result, Ok, refl, sym, ap, ap₂, subst, ◌∙◌, append_assoc, arith, length-append}
use Rattle.std.specs.Prelude.{codes}
use Rattle.std.specs.List.{AllByRecursion, flat_map}
use Rattle.ror_text.specs.Cursor.{Cursor}
use Rattle.ror_text.specs.Reading.{◌>>=◌}
use Rattle.ror_text.proofs.CursorLemmas.{Spans, spans_then}
use Rattle.ror_text.proofs.ReadingLemmas.{bind_ok}
use Rattle.ror_table.specs.Table.{DecisionTable, IsTable}
use Rattle.ror_system.specs.System.{IsNarrow}
use Rattle.ror_system.specs.declared.accept.Multipliers.{Multipliers}
use Rattle.ror_system.specs.declared.accept.Solution.{Solution}
use Rattle.ror_pivot.specs.declared.note.WideNote.{WideNote}
use Rattle.ror_proof.specs.declared.read.ProofFault.{ProofFault}
use Rattle.ror_proof.proofs.WordLemmas.{done, ok_is}
use Rattle.ror_discriminate.specs.Reading.{solution_line, multipliers_line}
use Rattle.ror_discriminate.proofs.EntryLines.{solution_again, solution_sound, multipliers_again, multipliers_sound}
use Rattle.ror_ranks.specs.declared.extreme.Side.{Side}
use Rattle.ror_ranks.specs.declared.extreme.Conflict.{Conflict}
use Rattle.ror_ranks.specs.declared.extreme.Node.{Node}
use Rattle.ror_ranks.specs.declared.extreme.Interval.{Interval}
use Rattle.ror_ranks.specs.declared.extreme.WideExtreme.{WideExtreme}
use Rattle.ror_ranks.specs.declared.extreme.Said.{Said}
use Rattle.ror_ranks.specs.declared.extreme.Said.TheVariants as said
use Rattle.ror_ranks.specs.declared.extreme.Extreme.{Extreme}
use Rattle.ror_ranks_text.specs.declared.read.Ends.{Ends}
use Rattle.ror_ranks_text.specs.declared.read.Opening.{Opening}
use Rattle.ror_ranks_text.specs.declared.read.Opening.TheVariants as openings
use Rattle.ror_ranks_text.specs.declared.read.Head.{Head}
use Rattle.ror_ranks_text.specs.Reading.{ids_line, extreme_line, node_line, so_many, conflict_at, interval_at, wide_extreme_at, said_at, extreme_at}
use Rattle.ror_ranks_text.specs.Text.{ids_text, solution_text, multipliers_text, conflict_text, node_text, extreme_text, AreOfTable, IsPrintableConflict, IsPrintableNode, IsPrintableSaid, IsPrintableExtreme}
use Rattle.ror_ranks_text.proofs.RankLines.{ids_again, ids_sound, IsSmallOpening, head_text, IsHead, head_again, head_sound, node_again, node_sound}

-- ---- texts from one cursor to another

abbrev pub at : ℕ → List ℕ → Cursor
at place rest = record { place = place; rest = rest }

-- where a text reads back whatever follows it, it is read from a cursor at which it stands
pub by_spans : {A : Type 0} (read : Cursor → Result (A × Cursor) ProofFault) (text : List ℕ) (x : A)
    → ((place : ℕ) (rest : List ℕ) → read (at place (text ++ rest)) ≡ Ok (x, at (place + length text) rest))
    → (c after : Cursor) → Spans c text after → read c ≡ Ok (x, after)
by_spans read text x again c after s =
    ap (λ (r : List ℕ). read (at c.place r)) s.rest ∙ again c.place after.rest ∙ ap (λ (n : ℕ). Ok (x, at n after.rest)) (sym s.place)

-- the cursor between two texts
abbrev pub between : Cursor → List ℕ → List ℕ → Cursor → Cursor
between c front back after = at (c.place + length front) (back ++ after.rest)

pub spans_front : (c after : Cursor) (front back : List ℕ) → Spans c (front ++ back) after → Spans c front (between c front back after)
spans_front c after front back s = record { rest = s.rest ∙ append_assoc front back after.rest; place = refl }

pub spans_back : (c after : Cursor) (front back : List ℕ) → Spans c (front ++ back) after → Spans (between c front back after) back after
spans_back c after front back s =
    let place = s.place in
    let long = length-append front back in
    record { rest = refl; place = omega (arith, place, long) }

pub spans_none : (c : Cursor) → Spans c [] c
spans_none c = record { rest = refl; place = omega arith }

-- ---- one after another

module _ {A : Type 0} (read : Cursor → Result (A × Cursor) ProofFault) (text : A → List ℕ) (P : A → Type 0) where
  many_step : (count : ℕ) (c d after : Cursor) (x : A) (xs : List A) → read c ≡ Ok (x, d) → so_many read count d ≡ Ok (xs, after) → so_many read (suc count) c ≡ Ok (x ∷ xs, after)
  unfolding so_many
  many_step count c d after x xs first others = rw (first, others) refl

  no_more_of : (c : Cursor) → so_many read zero c ≡ Ok ([], c)
  unfolding so_many
  no_more_of c = refl

  pub many_again : ((x : A) → P x → (c after : Cursor) → Spans c (text x) after → read c ≡ Ok (x, after))
      → (xs : List A) → AllByRecursion P xs → (c after : Cursor) → Spans c (flat_map text xs) after → so_many read (length xs) c ≡ Ok (xs, after)
  many_again again [] may c after s =
      let place = s.place in
      let here : c.place ≡ after.place = omega (arith, place) in
      no_more_of c ∙ ap₂ (λ (n : ℕ) (r : List ℕ). Ok ([], at n r)) here s.rest
  many_again again (x ∷ xs) may c after s =
      let d = between c (text x) (flat_map text xs) after in
      many_step (length xs) c d after x xs
      (again x may.0 c d (spans_front c after (text x) (flat_map text xs) s))
      (many_again again xs may.1 d after (spans_back c after (text x) (flat_map text xs) s))

  pub record AreSoRead (count : ℕ) (c : Cursor) (x : List A × Cursor) : Type 0 where
    pub number : length x.0 ≡ count
    pub spans : Spans c (flat_map text x.0) x.1
    pub each : AllByRecursion P x.0

  pub many_sound : ((c : Cursor) (x : A × Cursor) → read c ≡ Ok x → Spans c (text x.0) x.1 × P x.0)
      → (count : ℕ) (c : Cursor) (x : List A × Cursor) → so_many read count c ≡ Ok x → AreSoRead count c x
  unfolding so_many
  many_sound sound zero c x e = subst (AreSoRead zero c) (ok_is ([], c) x e) (record { number = refl; spans = spans_none c; each = tt })
  many_sound sound (suc count) c x e =
      let made = λ (first : A) (others : List A × Cursor). done (first ∷ others.0, others.1) in
      let a = bind_ok (read c) (λ first. so_many read count first.1 >>= λ others. made first.0 others) x e in
      let b = bind_ok (so_many read count a.0.1) (λ others. made a.0.0 others) x a.2 in
      let first = sound c a.0 a.1 in
      let others = many_sound sound count a.0.1 b.0 b.1 in
      let number = others.number in
      subst (AreSoRead (suc count) c) (ok_is (a.0.0 ∷ b.0.0, b.0.1) x b.2) (record {
        number = omega (arith, number);
        spans = spans_then c a.0.1 b.0.1 (text a.0.0) (flat_map text b.0.0) first.0 others.spans;
        each = (first.1, others.each);
      })

-- ---- conflicts

conflict_step : (t : DecisionTable) (c d after : Cursor) (x : Conflict) → ids_line t (codes "conflict") c ≡ Ok (x.members, d) → multipliers_line d ≡ Ok (x.multipliers, after) → conflict_at t c ≡ Ok (x, after)
unfolding conflict_at
conflict_step t c d after x members multipliers = rw (members, multipliers) refl

conflict_again : (t : DecisionTable) → IsTable t → (x : Conflict) → IsPrintableConflict t x → (c after : Cursor) → Spans c (conflict_text t x) after → conflict_at t c ≡ Ok (x, after)
conflict_again t table x may c after s =
    let front = ids_text t (codes "conflict") x.members in
    let back = multipliers_text x.multipliers in
    let d = between c front back after in
    conflict_step t c d after x
    (by_spans (ids_line t (codes "conflict")) front x.members (λ place rest. ids_again t table (codes "conflict") refl place x.members rest may.members) c d (spans_front c after front back s))
    (by_spans multipliers_line back x.multipliers (λ place rest. multipliers_again place x.multipliers rest may.narrow) d after (spans_back c after front back s))

abbrev conflict_made : List ℕ → Multipliers → Conflict
conflict_made members multipliers = record { members = members; multipliers = multipliers }

conflict_sound : (t : DecisionTable) (c : Cursor) (x : Conflict × Cursor) → conflict_at t c ≡ Ok x → Spans c (conflict_text t x.0) x.1 × IsPrintableConflict t x.0
unfolding conflict_at
conflict_sound t c x e =
    let made = λ (members : List ℕ) (multipliers : Multipliers × Cursor). done (conflict_made members multipliers.0, multipliers.1) in
    let a = bind_ok (ids_line t (codes "conflict") c) (λ members. multipliers_line members.1 >>= λ multipliers. made members.0 multipliers) x e in
    let b = bind_ok (multipliers_line a.0.1) (λ multipliers. made a.0.0 multipliers) x a.2 in
    let members = ids_sound t (codes "conflict") c a.0 a.1 in
    let multipliers = multipliers_sound a.0.1 b.0 b.1 in
    subst (λ (y : Conflict × Cursor). Spans c (conflict_text t y.0) y.1 × IsPrintableConflict t y.0) (ok_is (conflict_made a.0.0 b.0.0, b.0.1) x b.2)
    (spans_then c a.0.1 b.0.1 (ids_text t (codes "conflict") a.0.0) (multipliers_text b.0.0) members.0 multipliers.0, record { members = members.1; narrow = multipliers.1 })

-- ---- what follows the first line of an extreme rank

abbrev pub ends_of : Interval → Ends
ends_of x = record { from = x.from; to = x.to; conflicts = length x.conflicts; nodes = length x.tree }

abbrev pub opening_of : Said → Opening
opening_of (said.Within x) = openings.Within (ends_of x)
opening_of (said.Wide x) = openings.Wide x.note

abbrev pub tail_text : DecisionTable → Said → List ℕ
tail_text t (said.Within x) = ids_text t (codes "except") x.except ++ (solution_text x.function.steps ++ (flat_map (conflict_text t) x.conflicts ++ flat_map node_text x.tree))
tail_text t (said.Wide x) = ids_text t (codes "over") x.members

record HasTail (t : DecisionTable) (x : Interval) : Type 0 where
  pub except : AreOfTable t x.except
  pub function : AllByRecursion IsNarrow x.function.steps
  pub conflicts : AllByRecursion (IsPrintableConflict t) x.conflicts
  pub tree : AllByRecursion IsPrintableNode x.tree

abbrev MayFollow : DecisionTable → Said → Type 0
MayFollow t (said.Within x) = HasTail t x
MayFollow t (said.Wide x) = AreOfTable t x.members

small_opening : (t : DecisionTable) (s : Said) → IsPrintableSaid t s → IsSmallOpening (opening_of s)
small_opening t (said.Within x) may = record { from = may.from; to = may.to; conflicts = may.few_conflicts; nodes = may.few_nodes }
small_opening t (said.Wide x) may = (may.place, may.path)

follows : (t : DecisionTable) (s : Said) → IsPrintableSaid t s → MayFollow t s
follows t (said.Within x) may = record { except = may.except; function = may.function; conflicts = may.conflicts; tree = may.tree }
follows t (said.Wide x) may = may.members

printable_said : (t : DecisionTable) (s : Said) → IsSmallOpening (opening_of s) → MayFollow t s → IsPrintableSaid t s
printable_said t (said.Within x) small may = record {
  from = small.from;
  to = small.to;
  except = may.except;
  function = may.function;
  few_conflicts = small.conflicts;
  conflicts = may.conflicts;
  few_nodes = small.nodes;
  tree = may.tree;
}
printable_said t (said.Wide x) small may = record { place = small.0; path = small.1; members = may }

-- ---- it is read again

interval_step : (t : DecisionTable) (c d e f after : Cursor) (x : Interval) → ids_line t (codes "except") c ≡ Ok (x.except, d) → solution_line d ≡ Ok (x.function, e)
    → so_many (conflict_at t) (length x.conflicts) e ≡ Ok (x.conflicts, f) → so_many node_line (length x.tree) f ≡ Ok (x.tree, after) → interval_at t (ends_of x) c ≡ Ok (said.Within x, after)
unfolding interval_at
interval_step t c d e f after x except function conflicts tree = rw (except, function, conflicts, tree) refl

interval_again : (t : DecisionTable) → IsTable t → (x : Interval) → HasTail t x → (c after : Cursor) → Spans c (tail_text t (said.Within x)) after → interval_at t (ends_of x) c ≡ Ok (said.Within x, after)
interval_again t table x may c after s =
    let one = ids_text t (codes "except") x.except in
    let two = solution_text x.function.steps in
    let three = flat_map (conflict_text t) x.conflicts in
    let four = flat_map node_text x.tree in
    let d = between c one (two ++ (three ++ four)) after in
    let s1 = spans_back c after one (two ++ (three ++ four)) s in
    let e = between d two (three ++ four) after in
    let s2 = spans_back d after two (three ++ four) s1 in
    let f = between e three four after in
    interval_step t c d e f after x
    (by_spans (ids_line t (codes "except")) one x.except (λ place rest. ids_again t table (codes "except") refl place x.except rest may.except) c d (spans_front c after one (two ++ (three ++ four)) s))
    (by_spans solution_line two x.function (λ place rest. solution_again place x.function rest may.function) d e (spans_front d after two (three ++ four) s1))
    (many_again (conflict_at t) (conflict_text t) (IsPrintableConflict t) (conflict_again t table) x.conflicts may.conflicts e f (spans_front e after three four s2))
    (many_again node_line node_text IsPrintableNode (λ node small. by_spans node_line (node_text node) node (λ place rest. node_again place node rest small)) x.tree may.tree f after (spans_back e after three four s2))

wide_step : (t : DecisionTable) (c after : Cursor) (x : WideExtreme) → ids_line t (codes "over") c ≡ Ok (x.members, after) → wide_extreme_at t x.note c ≡ Ok (said.Wide x, after)
unfolding wide_extreme_at
wide_step t c after x members = rw members refl

said_again : (t : DecisionTable) → IsTable t → (s : Said) → MayFollow t s → (c after : Cursor) → Spans c (tail_text t s) after → said_at t (opening_of s) c ≡ Ok (s, after)
said_again t table (said.Within x) may c after s = interval_again t table x may c after s
said_again t table (said.Wide x) may c after s =
    wide_step t c after x (by_spans (ids_line t (codes "over")) (ids_text t (codes "over") x.members) x.members (λ place rest. ids_again t table (codes "over") refl place x.members rest may) c after s)

-- ---- and was so written

record IsSaidFrom (t : DecisionTable) (opening : Opening) (c : Cursor) (x : Said × Cursor) : Type 0 where
  pub opens : opening_of x.0 ≡ opening
  pub spans : Spans c (tail_text t x.0) x.1
  pub may : MayFollow t x.0

abbrev interval_made : Ends → List ℕ → Solution → List Conflict → List Node → Said
interval_made ends except function conflicts tree = said.Within (record { from = ends.from; to = ends.to; except = except; function = function; conflicts = conflicts; tree = tree })

abbrev counted_ends : Ends → ℕ → ℕ → Opening
counted_ends ends conflicts nodes = openings.Within (record { from = ends.from; to = ends.to; conflicts = conflicts; nodes = nodes })

interval_sound : (t : DecisionTable) (ends : Ends) (c : Cursor) (x : Said × Cursor) → interval_at t ends c ≡ Ok x → IsSaidFrom t (openings.Within ends) c x
unfolding interval_at
interval_sound t ends c x e =
    let last = λ (except : List ℕ) (function : Solution) (conflicts : List Conflict) (tree : List Node × Cursor). done (interval_made ends except function conflicts tree.0, tree.1) in
    let third = λ (except : List ℕ) (function : Solution) (conflicts : List Conflict × Cursor). so_many node_line ends.nodes conflicts.1 >>= λ tree. last except function conflicts.0 tree in
    let second = λ (except : List ℕ) (function : Solution × Cursor). so_many (conflict_at t) ends.conflicts function.1 >>= λ conflicts. third except function.0 conflicts in
    let a = bind_ok (ids_line t (codes "except") c) (λ except. solution_line except.1 >>= λ function. second except.0 function) x e in
    let b = bind_ok (solution_line a.0.1) (λ function. second a.0.0 function) x a.2 in
    let d = bind_ok (so_many (conflict_at t) ends.conflicts b.0.1) (λ conflicts. third a.0.0 b.0.0 conflicts) x b.2 in
    let f = bind_ok (so_many node_line ends.nodes d.0.1) (λ tree. last a.0.0 b.0.0 d.0.0 tree) x d.2 in
    let except = ids_sound t (codes "except") c a.0 a.1 in
    let function = solution_sound a.0.1 b.0 b.1 in
    let conflicts = many_sound (conflict_at t) (conflict_text t) (IsPrintableConflict t) (conflict_sound t) ends.conflicts b.0.1 d.0 d.1 in
    let tree = many_sound node_line node_text IsPrintableNode node_sound ends.nodes d.0.1 f.0 f.1 in
    let one = ids_text t (codes "except") a.0.0 in
    let two = solution_text b.0.0.steps in
    let three = flat_map (conflict_text t) d.0.0 in
    let four = flat_map node_text f.0.0 in
    let s3 = spans_then b.0.1 d.0.1 f.0.1 three four conflicts.spans tree.spans in
    let s2 = spans_then a.0.1 b.0.1 f.0.1 two (three ++ four) function.0 s3 in
    let s1 = spans_then c a.0.1 f.0.1 one (two ++ (three ++ four)) except.0 s2 in
    subst (IsSaidFrom t (openings.Within ends) c) (ok_is (interval_made ends a.0.0 b.0.0 d.0.0 f.0.0, f.0.1) x f.2) (record {
      opens = ap₂ (counted_ends ends) conflicts.number tree.number;
      spans = s1;
      may = record { except = except.1; function = function.1; conflicts = conflicts.each; tree = tree.each };
    })

abbrev wide_made : List ℕ → WideNote → Said
wide_made members note = said.Wide (record { members = members; note = note })

wide_sound : (t : DecisionTable) (note : WideNote) (c : Cursor) (x : Said × Cursor) → wide_extreme_at t note c ≡ Ok x → IsSaidFrom t (openings.Wide note) c x
unfolding wide_extreme_at
wide_sound t note c x e =
    let a = bind_ok (ids_line t (codes "over") c) (λ members. done (wide_made members.0 note, members.1)) x e in
    let members = ids_sound t (codes "over") c a.0 a.1 in
    subst (IsSaidFrom t (openings.Wide note) c) (ok_is (wide_made a.0.0 note, a.0.1) x a.2) (record { opens = refl; spans = members.0; may = members.1 })

said_sound : (t : DecisionTable) (opening : Opening) (c : Cursor) (x : Said × Cursor) → said_at t opening c ≡ Ok x → IsSaidFrom t opening c x
said_sound t (openings.Within ends) c x e = interval_sound t ends c x e
said_sound t (openings.Wide note) c x e = wide_sound t note c x e

-- ---- extreme ranks

abbrev pub head_of : Extreme → Head
head_of x = record { side = x.side; alternative = x.alternative; opening = opening_of x.said }

abbrev extreme_made : Head → Said → Extreme
extreme_made head s = record { alternative = head.alternative; side = head.side; said = s }

-- the text of an extreme rank is its first line and what follows
pub extreme_is_spelt : (t : DecisionTable) (side : Side) (a : ℕ) (s : Said) → extreme_text t (record { alternative = a; side = side; said = s })
    ≡ head_text t (record { side = side; alternative = a; opening = opening_of s }) ++ tail_text t s
extreme_is_spelt t side a (said.Within x) = refl
extreme_is_spelt t side a (said.Wide x) = refl

extreme_step : (t : DecisionTable) (c d after : Cursor) (x : Extreme) → extreme_line t c ≡ Ok (head_of x, d) → said_at t (opening_of x.said) d ≡ Ok (x.said, after) → extreme_at t c ≡ Ok (x, after)
unfolding extreme_at
extreme_step t c d after x head says = rw (head, says) refl

pub extreme_again : (t : DecisionTable) → IsTable t → (x : Extreme) → IsPrintableExtreme t x → (c after : Cursor) → Spans c (extreme_text t x) after → extreme_at t c ≡ Ok (x, after)
extreme_again t table x may c after s =
    let front = head_text t (head_of x) in
    let back = tail_text t x.said in
    let split : Spans c (front ++ back) after = subst (λ (text : List ℕ). Spans c text after) (extreme_is_spelt t x.side x.alternative x.said) s in
    let d = between c front back after in
    let is : IsHead t (head_of x) = record { alternative = may.alternative; opening = small_opening t x.said may.said } in
    extreme_step t c d after x
    (by_spans (extreme_line t) front (head_of x) (λ place rest. head_again t place (head_of x) rest table is) c d (spans_front c after front back split))
    (said_again t table x.said (follows t x.said may.said) d after (spans_back c after front back split))

-- a head with another opening in its place
abbrev opened : Head → Opening → Head
opened head opening = record { side = head.side; alternative = head.alternative; opening = opening }

pub extreme_sound : (t : DecisionTable) (c : Cursor) (x : Extreme × Cursor) → extreme_at t c ≡ Ok x → Spans c (extreme_text t x.0) x.1 × IsPrintableExtreme t x.0
unfolding extreme_at
extreme_sound t c x e =
    let made = λ (head : Head) (says : Said × Cursor). done (extreme_made head says.0, says.1) in
    let a = bind_ok (extreme_line t c) (λ head. said_at t head.0.opening head.1 >>= λ says. made head.0 says) x e in
    let b = bind_ok (said_at t a.0.0.opening a.0.1) (λ says. made a.0.0 says) x a.2 in
    let head = head_sound t c a.0 a.1 in
    let says = said_sound t a.0.0.opening a.0.1 b.0 b.1 in
    let small : IsSmallOpening (opening_of b.0.0) = subst IsSmallOpening (sym says.opens) head.1.opening in
    let first : Spans c (head_text t (opened a.0.0 (opening_of b.0.0))) a.0.1 = subst (λ (opening : Opening). Spans c (head_text t (opened a.0.0 opening)) a.0.1) (sym says.opens) head.0 in
    let whole = spans_then c a.0.1 b.0.1 (head_text t (opened a.0.0 (opening_of b.0.0))) (tail_text t b.0.0) first says.spans in
    subst (λ (y : Extreme × Cursor). Spans c (extreme_text t y.0) y.1 × IsPrintableExtreme t y.0) (ok_is (extreme_made a.0.0 b.0.0, b.0.1) x b.2) (
      subst (λ (text : List ℕ). Spans c text b.0.1) (sym (extreme_is_spelt t a.0.0.side a.0.0.alternative b.0.0)) whole,
      record { alternative = head.1.alternative; said = printable_said t b.0.0 small says.may },
    )
