-- The fault of an entry of ranks is the one that is given.
use Rattle.std.proofs.Common.{◌≡◌, inl, inr, ℕ, zero, suc, List, [], ◌∷◌, drop, Option, Some, None, Result, Ok, Err, refl, sym, ap, subst, ◌∙◌}
use Rattle.std.specs.Prelude.{codes}
use Rattle.ror_text.specs.Cursor.{Cursor, line_words}
use Rattle.ror_text.specs.Reading.{◌>>=◌}
use Rattle.ror_text.proofs.ReadingLemmas.{bind_ok, bind_err}
use Rattle.ror_system.specs.declared.accept.Multipliers.{Multipliers}
use Rattle.ror_system.specs.declared.accept.Solution.{Solution}
use Rattle.ror_pivot.specs.declared.note.WideNote.{WideNote}
use Rattle.ror_table.specs.Table.{DecisionTable}
use Rattle.ror_proof.specs.declared.read.ProofFault.{ProofFault}
use Rattle.ror_proof.specs.declared.read.ProofFault.TheVariants.{BadLine}
use Rattle.ror_proof.specs.Names.{name_of}
use Rattle.ror_proof.specs.Reading.{ended, refutation_at}
use Rattle.ror_proof.specs.Expected.{Expected, IsFirstFaultyWord, AllStand, IsLine, IsFaultOfLine}
use Rattle.ror_proof.specs.Expected.Expected.{the_word}
use Rattle.ror_proof.specs.Expected.IsFaultOfLine.{in_word}
use Rattle.ror_proof.proofs.LineFaults.{ReadsLine, reads_line, line_fails, line_goes, two_line_faults}
use Rattle.ror_proof.proofs.NameLemmas.{named-there, not_named-absent}
use Rattle.ror_proof.proofs.WordFaults.{Ends, no_fault, refutation_ends}
use Rattle.ror_proof.proofs.WordLemmas.{done, ok_is, name_found}
use Rattle.ror_report.specs.Desk.{desk_line}
use Rattle.ror_report.proofs.DeskLemmas.{desk_err}
use Rattle.ror_discriminate.specs.EntryFaults.{expected_solution}
use Rattle.ror_discriminate.specs.Head.{IsDeskLine}
use Rattle.ror_discriminate.specs.Reading.{solution_line_words, solution_line, multipliers_line}
use Rattle.ror_discriminate.proofs.HeadLemmas.{desk_sound, desk_goes, no_desk, desk_fails}
use Rattle.ror_discriminate.proofs.EntryWords.{solution_ends}
use Rattle.ror_ranks.specs.declared.extreme.Conflict.{Conflict}
use Rattle.ror_ranks.specs.declared.extreme.Node.{Node}
use Rattle.ror_ranks.specs.declared.extreme.Said.{Said}
use Rattle.ror_ranks.specs.declared.extreme.Said.TheVariants as said
use Rattle.ror_ranks.specs.declared.extreme.Extreme.{Extreme}
use Rattle.ror_ranks_text.specs.declared.entry.Entry.{Entry}
use Rattle.ror_ranks_text.specs.declared.entry.EntryBody.{EntryBody}
use Rattle.ror_ranks_text.specs.declared.entry.EntryBody.TheVariants as bodies
use Rattle.ror_ranks_text.specs.declared.names.BodyForm.{BodyForm}
use Rattle.ror_ranks_text.specs.declared.names.BodyForm.TheVariants as forms
use Rattle.ror_ranks_text.specs.declared.read.Ends.{Ends as LineEnds}
use Rattle.ror_ranks_text.specs.declared.read.Opening.{Opening}
use Rattle.ror_ranks_text.specs.declared.read.Opening.TheVariants as openings
use Rattle.ror_ranks_text.specs.declared.read.Head.{Head}
use Rattle.ror_ranks_text.specs.EntryNames.{form_word, body_forms}
use Rattle.ror_ranks_text.specs.EntryFaults.{expected_ids, expected_multipliers_line, expected_extreme, expected_node, expected_of, expected_body, AreSoMany, IsFaultOfSome, AreTwoLines, IsFaultOfTwoLines, IsConflictText, IsFaultOfConflict, IsReachedText, IsFaultOfReached, IsSaidText, IsExtremeText, IsFaultOfSaid, IsFaultOfExtreme, IsFaultOfEntry}
use Rattle.ror_ranks_text.specs.EntryFaults.IsFaultOfEntry.{in_desk, in_body, in_ranks}
use Rattle.ror_ranks_text.specs.Reading.{ids_words, extreme_words, node_words, ranks_words, contradiction_words, wide_words, ids_line, extreme_line, node_line, ranks_line, so_many, conflict_at, interval_at, wide_extreme_at, said_at, extreme_at, ranks_at, form_of, formed_at, body_at, entry_at}
use Rattle.ror_ranks_text.proofs.RankLines.{count_words}
use Rattle.ror_ranks_text.proofs.RankWords.{ids_ends, extreme_ends, node_ends, ranks_ends, contradiction_ends, wide_ends}

abbrev failed : {A : Type 0} → ProofFault → Result A ProofFault
failed f = Err f

same_fault : {A : Type 0} (g f : ProofFault) → failed {A = A} g ≡ Err f → g ≡ f
same_fault g f e = cc

-- ---- what is read from one cursor to another, and its fault, both ways

record Reads {A : Type 0} (Is : Cursor → Cursor → Type 0) (Fails : Cursor → ProofFault → Type 0) (read : Cursor → Result (A × Cursor) ProofFault) : Type 0 where
  pub err : (c : Cursor) (f : ProofFault) → read c ≡ Err f → Fails c f
  pub ok : (c : Cursor) (x : A × Cursor) → read c ≡ Ok x → Is c x.1
  pub fails : (c : Cursor) (f : ProofFault) → Fails c f → read c ≡ Err f
  pub goes : (c after : Cursor) → Is c after → (x : A) × (read c ≡ Ok (x, after))

-- a line
line_reads : {A : Type 0} (t : DecisionTable) (expected : List (List ℕ) → List Expected) (read : Cursor → Result (A × Cursor) ProofFault) → ((c : Cursor) → ReadsLine t expected c (read c)) → Reads (IsLine t expected) (IsFaultOfLine t expected) read
line_reads t expected read reads = record {
  err = λ c f e. (reads c).err f e;
  ok = λ c x e. (reads c).ok x e;
  fails = λ c f fault. line_fails t expected c (read c) f (reads c) fault;
  goes = λ c after line. line_goes t expected c after (read c) (reads c) line;
}

-- two lines, the one behind the other
abbrev two_at : {A B X : Type 0} → (Cursor → Result (A × Cursor) ProofFault) → (Cursor → Result (B × Cursor) ProofFault) → (A → B → X) → Cursor → Result (X × Cursor) ProofFault
two_at first second make c = first c >>= λ x. second x.1 >>= λ y. done (make x.0 y.0, y.1)

two_reads : {A B X : Type 0} (t : DecisionTable) (one two : List (List ℕ) → List Expected) (first : Cursor → Result (A × Cursor) ProofFault) (second : Cursor → Result (B × Cursor) ProofFault) (make : A → B → X)
    → Reads (IsLine t one) (IsFaultOfLine t one) first → Reads (IsLine t two) (IsFaultOfLine t two) second → Reads (AreTwoLines t one two) (IsFaultOfTwoLines t one two) (two_at first second make)
two_reads {X = X} t one two first second make reads later = record { err = errs; ok = oks; fails = fail; goes = go }
  where
    errs : (c : Cursor) (f : ProofFault) → two_at first second make c ≡ Err f → IsFaultOfTwoLines t one two c f
    errs c f e = elim (bind_err (first c) (λ x. second x.1 >>= λ y. done (make x.0 y.0, y.1)) f e) [
      | inl here ↦ inl (reads.err c f here)
      | inr a ↦
          elim (bind_err (second a.0.1) (λ y. done (make a.0.0 y.0, y.1)) f a.2) [
            | inl here ↦ inr (a.0.1, reads.ok c a.0 a.1, later.err a.0.1 f here)
            | inr none ↦ absurd (no_fault _ f none.2)
          ]
    ]

    oks : (c : Cursor) (x : X × Cursor) → two_at first second make c ≡ Ok x → AreTwoLines t one two c x.1
    oks c x e =
        let a = bind_ok (first c) (λ x. second x.1 >>= λ y. done (make x.0 y.0, y.1)) x e in
        let b = bind_ok (second a.0.1) (λ y. done (make a.0.0 y.0, y.1)) x a.2 in
        (a.0.1, reads.ok c a.0 a.1, subst (λ z. IsLine t two a.0.1 z.1) (ok_is (make a.0.0 b.0.0, b.0.1) x b.2) (later.ok a.0.1 b.0 b.1))

    fail : (c : Cursor) (f : ProofFault) → IsFaultOfTwoLines t one two c f → two_at first second make c ≡ Err f
    fail c f (inl fault) = rw (reads.fails c f fault) refl
    fail c f (inr h) = rw ((reads.goes c h.0 h.1).1, later.fails h.0 f h.2) refl

    go : (c after : Cursor) → AreTwoLines t one two c after → (x : X) × (two_at first second make c ≡ Ok (x, after))
    go c after h =
        let x = reads.goes c h.0 h.1 in
        let y = later.goes h.0 after h.2 in
        (make x.0 y.0, rw (x.1, y.1) refl)

-- so many, one after another
module _ {A : Type 0} (Is : Cursor → Cursor → Type 0) (Fails : Cursor → ProofFault → Type 0) (read : Cursor → Result (A × Cursor) ProofFault) (reads : Reads Is Fails read) where
  many_err : (count : ℕ) (c : Cursor) (f : ProofFault) → so_many read count c ≡ Err f → IsFaultOfSome Is Fails count c f
  unfolding so_many
  many_err zero c f e = no_fault ([], c) f e
  many_err (suc count) c f e = elim (bind_err (read c) (λ first. so_many read count first.1 >>= λ others. done (first.0 ∷ others.0, others.1)) f e) [
    | inl here ↦ inl (reads.err c f here)
    | inr a ↦
        elim (bind_err (so_many read count a.0.1) (λ others. done (a.0.0 ∷ others.0, others.1)) f a.2) [
          | inl here ↦ inr (a.0.1, reads.ok c a.0 a.1, many_err count a.0.1 f here)
          | inr none ↦ absurd (no_fault _ f none.2)
        ]
  ]

  many_ok : (count : ℕ) (c : Cursor) (x : List A × Cursor) → so_many read count c ≡ Ok x → AreSoMany Is count c x.1
  unfolding so_many
  many_ok zero c x e = ap (λ (y : List A × Cursor). y.1) (ok_is ([], c) x e)
  many_ok (suc count) c x e =
      let a = bind_ok (read c) (λ first. so_many read count first.1 >>= λ others. done (first.0 ∷ others.0, others.1)) x e in
      let b = bind_ok (so_many read count a.0.1) (λ others. done (a.0.0 ∷ others.0, others.1)) x a.2 in
      (a.0.1, reads.ok c a.0 a.1, subst (λ (y : List A × Cursor). AreSoMany Is count a.0.1 y.1) (ok_is (a.0.0 ∷ b.0.0, b.0.1) x b.2) (many_ok count a.0.1 b.0 b.1))

  many_fails : (count : ℕ) (c : Cursor) (f : ProofFault) → IsFaultOfSome Is Fails count c f → so_many read count c ≡ Err f
  unfolding so_many
  many_fails zero c f h = absurd h
  many_fails (suc count) c f (inl fault) = rw (reads.fails c f fault) refl
  many_fails (suc count) c f (inr h) = rw ((reads.goes c h.0 h.1).1, many_fails count h.0 f h.2) refl

  many_goes : (count : ℕ) (c after : Cursor) → AreSoMany Is count c after → (xs : List A) × (so_many read count c ≡ Ok (xs, after))
  unfolding so_many
  many_goes zero c after h = ([], ap (λ (d : Cursor). Ok ([], d)) h)
  many_goes (suc count) c after h =
      let x = reads.goes c h.0 h.1 in
      let xs = many_goes count h.0 after h.2 in
      (x.0 ∷ xs.0, rw (x.1, xs.1) refl)

  many_reads : (count : ℕ) → Reads (AreSoMany Is count) (IsFaultOfSome Is Fails count) (so_many read count)
  many_reads count = record { err = many_err count; ok = many_ok count; fails = many_fails count; goes = many_goes count }

-- ---- lines

module _ (t : DecisionTable) where
  ids_read : (word : List ℕ) → Reads (IsLine t (expected_ids word)) (IsFaultOfLine t (expected_ids word)) (ids_line t word)
  ids_read word = line_reads t (expected_ids word) (ids_line t word) (λ c. reads_line t (expected_ids word) c (ids_words t word c.place (line_words c)) (ids_ends t word c.place (line_words c)))

  solution_reads : Reads (IsLine t expected_solution) (IsFaultOfLine t expected_solution) solution_line
  solution_reads = line_reads t expected_solution solution_line (λ c. reads_line t expected_solution c (solution_line_words c.place (line_words c)) (solution_ends t c.place (line_words c)))

  multipliers_reads : Reads (IsLine t expected_multipliers_line) (IsFaultOfLine t expected_multipliers_line) multipliers_line
  multipliers_reads = line_reads t expected_multipliers_line multipliers_line (λ c. reads_line t expected_multipliers_line c (refutation_at c.place (line_words c)) (refutation_ends t c.place (line_words c)))

  head_reads : Reads (IsLine t expected_extreme) (IsFaultOfLine t expected_extreme) (extreme_line t)
  head_reads = line_reads t expected_extreme (extreme_line t) (λ c. reads_line t expected_extreme c (extreme_words t c.place (line_words c)) (extreme_ends t c.place (line_words c)))

  node_reads : Reads (IsLine t expected_node) (IsFaultOfLine t expected_node) node_line
  node_reads = line_reads t expected_node node_line (λ c. reads_line t expected_node c (node_words c.place (line_words c)) (node_ends t c.place (line_words c)))

  -- ---- conflicts, and what is reached

  abbrev conflict_made : List ℕ → Multipliers → Conflict
  conflict_made members multipliers = record { members = members; multipliers = multipliers }

  conflict_is : (c : Cursor) → conflict_at t c ≡ two_at (ids_line t (codes "conflict")) multipliers_line conflict_made c
  unfolding conflict_at
  conflict_is c = refl

  -- what reads the same has the same faults
  reads_same : {A : Type 0} (Is : Cursor → Cursor → Type 0) (Fails : Cursor → ProofFault → Type 0) (read other : Cursor → Result (A × Cursor) ProofFault) → ((c : Cursor) → other c ≡ read c) → Reads Is Fails read → Reads Is Fails other
  reads_same Is Fails read other same reads = record {
    err = λ c f e. reads.err c f (sym (same c) ∙ e);
    ok = λ c x e. reads.ok c x (sym (same c) ∙ e);
    fails = λ c f fault. same c ∙ reads.fails c f fault;
    goes = λ c after is. let x = reads.goes c after is in (x.0, same c ∙ x.1);
  }

  conflict_reads : Reads (IsConflictText t) (IsFaultOfConflict t) (conflict_at t)
  conflict_reads = reads_same (IsConflictText t) (IsFaultOfConflict t) (two_at (ids_line t (codes "conflict")) multipliers_line conflict_made) (conflict_at t) conflict_is
      (two_reads t (expected_ids (codes "conflict")) expected_multipliers_line (ids_line t (codes "conflict")) multipliers_line conflict_made (ids_read (codes "conflict")) multipliers_reads)

  abbrev both : List ℕ → Solution → List ℕ × Solution
  both except function = (except, function)

  abbrev reached_at : Cursor → Result ((List ℕ × Solution) × Cursor) ProofFault
  reached_at c = two_at (ids_line t (codes "except")) solution_line both c

  reached_reads : Reads (IsReachedText t) (IsFaultOfReached t) reached_at
  reached_reads = two_reads t (expected_ids (codes "except")) expected_solution (ids_line t (codes "except")) solution_line both (ids_read (codes "except")) solution_reads

  -- ---- intervals

  abbrev interval_made : LineEnds → List ℕ × Solution → List Conflict → List Node → Said
  interval_made ends r conflicts tree = said.Within (record { from = ends.from; to = ends.to; except = r.0; function = r.1; conflicts = conflicts; tree = tree })

  abbrev nodes_then : LineEnds → List ℕ × Solution → List Conflict → Cursor → Result (Said × Cursor) ProofFault
  nodes_then ends r conflicts c = so_many node_line ends.nodes c >>= λ tree. done (interval_made ends r conflicts tree.0, tree.1)

  abbrev conflicts_then : LineEnds → List ℕ × Solution → Cursor → Result (Said × Cursor) ProofFault
  conflicts_then ends r c = so_many (conflict_at t) ends.conflicts c >>= λ conflicts. nodes_then ends r conflicts.0 conflicts.1

  -- a thing that was read beside one that is
  abbrev beside : {A B : Type 0} → A → Result (B × Cursor) ProofFault → Result ((A × B) × Cursor) ProofFault
  beside a read = read >>= λ y. done ((a, y.0), y.1)

  two_grouped : {A B Y : Type 0} (first : Result (A × Cursor) ProofFault) (second : Cursor → Result (B × Cursor) ProofFault) (next : A × B → Cursor → Result Y ProofFault)
      → (first >>= λ x. second x.1 >>= λ y. next (x.0, y.0) y.1) ≡ ((first >>= λ x. beside x.0 (second x.1)) >>= λ z. next z.0 z.1)
  two_grouped (Err e) second next = refl
  two_grouped {B = B} {Y = Y} (Ok x) second next = by (second x.1)
    where
      by : (r : Result (B × Cursor) ProofFault) → (r >>= λ y. next (x.0, y.0) y.1) ≡ (beside x.0 r >>= λ z. next z.0 z.1)
      by (Ok y) = refl
      by (Err e) = refl

  abbrev interval_read : LineEnds → Cursor → Result (Said × Cursor) ProofFault
  interval_read ends c = reached_at c >>= λ r. conflicts_then ends r.0 r.1

  interval_is : (ends : LineEnds) (c : Cursor) → interval_at t ends c ≡ interval_read ends c
  unfolding interval_at
  interval_is ends c = two_grouped (ids_line t (codes "except") c) solution_line (conflicts_then ends)

  module _ (ends : LineEnds) where
    abbrev conflict_list : Cursor → Result (List Conflict × Cursor) ProofFault
    conflict_list = so_many (conflict_at t) ends.conflicts

    abbrev node_list : Cursor → Result (List Node × Cursor) ProofFault
    node_list = so_many node_line ends.nodes

    conflicts_read : Reads (AreSoMany (IsConflictText t) ends.conflicts) (IsFaultOfSome (IsConflictText t) (IsFaultOfConflict t) ends.conflicts) conflict_list
    conflicts_read = many_reads (IsConflictText t) (IsFaultOfConflict t) (conflict_at t) conflict_reads ends.conflicts

    nodes_read : Reads (AreSoMany (IsLine t expected_node) ends.nodes) (IsFaultOfSome (IsLine t expected_node) (IsFaultOfLine t expected_node) ends.nodes) node_list
    nodes_read = many_reads (IsLine t expected_node) (IsFaultOfLine t expected_node) node_line node_reads ends.nodes

    interval_err : (c : Cursor) (f : ProofFault) → interval_read ends c ≡ Err f → IsFaultOfSaid t (openings.Within ends) c f
    interval_err c f e = elim (bind_err (reached_at c) (λ r. conflicts_then ends r.0 r.1) f e) [
      | inl here ↦ inl (reached_reads.err c f here)
      | inr a ↦
          elim (bind_err (conflict_list a.0.1) (λ conflicts. nodes_then ends a.0.0 conflicts.0 conflicts.1) f a.2) [
            | inl here ↦ inr (inl (a.0.1, reached_reads.ok c a.0 a.1, conflicts_read.err a.0.1 f here))
            | inr b ↦
                elim (bind_err (node_list b.0.1) (λ tree. done (interval_made ends a.0.0 b.0.0 tree.0, tree.1)) f b.2) [
                  | inl here ↦ inr (inr (a.0.1, b.0.1, reached_reads.ok c a.0 a.1, conflicts_read.ok a.0.1 b.0 b.1, nodes_read.err b.0.1 f here))
                  | inr none ↦ absurd (no_fault _ f none.2)
                ]
          ]
    ]

    interval_ok : (c : Cursor) (x : Said × Cursor) → interval_read ends c ≡ Ok x → IsSaidText t (openings.Within ends) c x.1
    interval_ok c x e =
        let a = bind_ok (reached_at c) (λ r. conflicts_then ends r.0 r.1) x e in
        let b = bind_ok (conflict_list a.0.1) (λ conflicts. nodes_then ends a.0.0 conflicts.0 conflicts.1) x a.2 in
        let d = bind_ok (node_list b.0.1) (λ tree. done (interval_made ends a.0.0 b.0.0 tree.0, tree.1)) x b.2 in
        let last = subst (λ (y : Said × Cursor). AreSoMany (IsLine t expected_node) ends.nodes b.0.1 y.1) (ok_is (interval_made ends a.0.0 b.0.0 d.0.0, d.0.1) x d.2) (nodes_read.ok b.0.1 d.0 d.1) in
        (a.0.1, b.0.1, reached_reads.ok c a.0 a.1, conflicts_read.ok a.0.1 b.0 b.1, last)

    interval_fails : (c : Cursor) (f : ProofFault) → IsFaultOfSaid t (openings.Within ends) c f → interval_read ends c ≡ Err f
    interval_fails c f (inl fault) = rw (reached_reads.fails c f fault) refl
    interval_fails c f (inr (inl h)) = rw ((reached_reads.goes c h.0 h.1).1, conflicts_read.fails h.0 f h.2) refl
    interval_fails c f (inr (inr h)) = rw ((reached_reads.goes c h.0 h.2).1, (conflicts_read.goes h.0 h.1 h.3).1, nodes_read.fails h.1 f h.4) refl

    interval_goes : (c after : Cursor) → IsSaidText t (openings.Within ends) c after → (x : Said) × (interval_read ends c ≡ Ok (x, after))
    interval_goes c after h =
        let r = reached_reads.goes c h.0 h.2 in
        let conflicts = conflicts_read.goes h.0 h.1 h.3 in
        let tree = nodes_read.goes h.1 after h.4 in
        (interval_made ends r.0 conflicts.0 tree.0, rw (r.1, conflicts.1, tree.1) refl)

    interval_reads : Reads (IsSaidText t (openings.Within ends)) (IsFaultOfSaid t (openings.Within ends)) (interval_at t ends)
    interval_reads = reads_same (IsSaidText t (openings.Within ends)) (IsFaultOfSaid t (openings.Within ends)) (interval_read ends) (interval_at t ends) (interval_is ends)
        (record { err = interval_err; ok = interval_ok; fails = interval_fails; goes = interval_goes })

  -- ---- what is too wide

  abbrev wide_made : WideNote → List ℕ → Said
  wide_made note members = said.Wide (record { members = members; note = note })

  -- what is made of what is read
  made_reads : {A X : Type 0} (Is : Cursor → Cursor → Type 0) (Fails : Cursor → ProofFault → Type 0) (read : Cursor → Result (A × Cursor) ProofFault) (make : A → X) → Reads Is Fails read
      → Reads Is Fails (λ c. read c >>= λ x. done (make x.0, x.1))
  made_reads Is Fails read make reads = record {
    err = λ c f e. elim (bind_err (read c) (λ x. done (make x.0, x.1)) f e) [
      | inl here ↦ reads.err c f here
      | inr none ↦ absurd (no_fault _ f none.2)
    ];
    ok = λ c y e.
        let a = bind_ok (read c) (λ x. done (make x.0, x.1)) y e in
        subst (λ z. Is c z.1) (ok_is (make a.0.0, a.0.1) y a.2) (reads.ok c a.0 a.1);
    fails = λ c f fault. rw (reads.fails c f fault) refl;
    goes = λ c after is. let x = reads.goes c after is in (make x.0, rw x.1 refl);
  }

  wide_is : (note : WideNote) (c : Cursor) → wide_extreme_at t note c ≡ (ids_line t (codes "over") c >>= λ members. done (wide_made note members.0, members.1))
  unfolding wide_extreme_at
  wide_is note c = refl

  wide_reads : (note : WideNote) → Reads (IsSaidText t (openings.Wide note)) (IsFaultOfSaid t (openings.Wide note)) (wide_extreme_at t note)
  wide_reads note = reads_same (IsSaidText t (openings.Wide note)) (IsFaultOfSaid t (openings.Wide note)) (λ c. ids_line t (codes "over") c >>= λ members. done (wide_made note members.0, members.1)) (wide_extreme_at t note) (wide_is note)
      (made_reads (IsLine t (expected_ids (codes "over"))) (IsFaultOfLine t (expected_ids (codes "over"))) (ids_line t (codes "over")) (wide_made note) (ids_read (codes "over")))

  said_reads : (opening : Opening) → Reads (IsSaidText t opening) (IsFaultOfSaid t opening) (said_at t opening)
  said_reads (openings.Within ends) = interval_reads ends
  said_reads (openings.Wide note) = wide_reads note

  -- ---- extreme ranks

  abbrev extreme_made : Head → Said → Extreme
  extreme_made head s = record { alternative = head.alternative; side = head.side; said = s }

  abbrev said_then : Head → Cursor → Result (Extreme × Cursor) ProofFault
  said_then head c = said_at t head.opening c >>= λ says. done (extreme_made head says.0, says.1)

  extreme_err : (c : Cursor) (f : ProofFault) → extreme_at t c ≡ Err f → IsFaultOfExtreme t c f
  unfolding extreme_at
  extreme_err c f e = elim (bind_err (extreme_line t c) (λ head. said_then head.0 head.1) f e) [
    | inl here ↦ inl (head_reads.err c f here)
    | inr a ↦
        elim (bind_err (said_at t a.0.0.opening a.0.1) (λ says. done (extreme_made a.0.0 says.0, says.1)) f a.2) [
          | inl here ↦ inr (a.0.0, a.0.1, a.1, (said_reads a.0.0.opening).err a.0.1 f here)
          | inr none ↦ absurd (no_fault _ f none.2)
        ]
  ]

  extreme_ok : (c : Cursor) (x : Extreme × Cursor) → extreme_at t c ≡ Ok x → IsExtremeText t c x.1
  unfolding extreme_at
  extreme_ok c x e =
      let a = bind_ok (extreme_line t c) (λ head. said_then head.0 head.1) x e in
      let b = bind_ok (said_at t a.0.0.opening a.0.1) (λ says. done (extreme_made a.0.0 says.0, says.1)) x a.2 in
      let last = subst (λ (y : Extreme × Cursor). IsSaidText t a.0.0.opening a.0.1 y.1) (ok_is (extreme_made a.0.0 b.0.0, b.0.1) x b.2) ((said_reads a.0.0.opening).ok a.0.1 b.0 b.1) in
      (a.0.0, a.0.1, a.1, last)

  extreme_fails : (c : Cursor) (f : ProofFault) → IsFaultOfExtreme t c f → extreme_at t c ≡ Err f
  unfolding extreme_at
  extreme_fails c f (inl fault) = rw (head_reads.fails c f fault) refl
  extreme_fails c f (inr h) = rw (h.2, (said_reads h.0.opening).fails h.1 f h.3) refl

  extreme_goes : (c after : Cursor) → IsExtremeText t c after → (x : Extreme) × (extreme_at t c ≡ Ok (x, after))
  unfolding extreme_at
  extreme_goes c after h = let says = (said_reads h.0.opening).goes h.1 after h.3 in (extreme_made h.0 says.0, rw (h.2, says.1) refl)

  extreme_reads : Reads (IsExtremeText t) (IsFaultOfExtreme t) (extreme_at t)
  extreme_reads = record { err = extreme_err; ok = extreme_ok; fails = extreme_fails; goes = extreme_goes }

  extremes_read : (count : ℕ) → Reads (AreSoMany (IsExtremeText t) count) (IsFaultOfSome (IsExtremeText t) (IsFaultOfExtreme t) count) (so_many (extreme_at t) count)
  extremes_read count = many_reads (IsExtremeText t) (IsFaultOfExtreme t) (extreme_at t) extreme_reads count

-- ---- the first line of a body

-- the word of the form is one of the forms' words
module _ (t : DecisionTable) (place : ℕ) (form : BodyForm) (word : List ℕ) (words : List (List ℕ)) (is : name_of form_word body_forms word ≡ Some form) where
  first_fails : (f : ProofFault) → IsFirstFaultyWord t (the_word (form_word form) ∷ expected_of (Some form) words) (word ∷ words) place f → IsFirstFaultyWord t (expected_body (word ∷ words)) (word ∷ words) place f
  first_fails f (inl other) = absurd (other.0 (name_found form_word body_forms word form is))
  first_fails f (inr later) = inr (named-there form_word body_forms word form is, subst (λ (n : Option BodyForm). IsFirstFaultyWord t (expected_of n words) words place f) (sym is) later.1)

  first_stands : AllStand t (the_word (form_word form) ∷ expected_of (Some form) words) (word ∷ words) → AllStand t (expected_body (word ∷ words)) (word ∷ words)
  first_stands all = (named-there form_word body_forms word form is, subst (λ (n : Option BodyForm). AllStand t (expected_of n words) words) (sym is) all.1)

first_ends : {X : Type 0} (t : DecisionTable) (place : ℕ) (reading : Result X ProofFault) (form : BodyForm) (words : List (List ℕ)) → form_of words ≡ Some form
    → Ends t place reading (the_word (form_word form) ∷ expected_of (Some form) (drop 1 words)) words → Ends t place reading (expected_body words) words
first_ends t place reading form [] is ends = absurd (let none = is in cc)
first_ends t place reading form (word ∷ words) is ends = record {
  fails = λ f e. first_fails t place form word words is f (ends.fails f e);
  stands = λ x e. first_stands t place form word words is (ends.stands x e);
}

no_form_faulty : (t : DecisionTable) (place : ℕ) (words : List (List ℕ)) → form_of words ≡ None → IsFirstFaultyWord t (expected_body words) words place (BadLine place)
no_form_faulty t place [] none = (λ h. h, refl)
no_form_faulty t place (word ∷ words) none = inl (not_named-absent form_word body_forms word none, refl)

module _ (t : DecisionTable) (c : Cursor) where
  count_reads : form_of (line_words c) ≡ Some forms.Ranks → ReadsLine t expected_body c (ranks_line c)
  count_reads is = reads_line t expected_body c (ranks_words c.place (line_words c)) (first_ends t c.place (ranks_words c.place (line_words c)) forms.Ranks (line_words c) is (ranks_ends t c.place (line_words c)))

  contradiction_reads : form_of (line_words c) ≡ Some forms.Contradiction → ReadsLine t expected_body c (ended c (contradiction_words c.place (line_words c)))
  contradiction_reads is = reads_line t expected_body c (contradiction_words c.place (line_words c)) (first_ends t c.place (contradiction_words c.place (line_words c)) forms.Contradiction (line_words c) is (contradiction_ends t c.place (line_words c)))

  note_reads : form_of (line_words c) ≡ Some forms.Wide → ReadsLine t expected_body c (ended c (wide_words c.place (line_words c)))
  note_reads is = reads_line t expected_body c (wide_words c.place (line_words c)) (first_ends t c.place (wide_words c.place (line_words c)) forms.Wide (line_words c) is (wide_ends t c.place (line_words c)))

-- ---- bodies

-- the fault of the body that begins here
data IsFaultOfBody (t : DecisionTable) (c : Cursor) (f : ProofFault) : Type 0 where
  of_first : IsFaultOfLine t expected_body c f → IsFaultOfBody t c f
  of_ranks : (count : ℕ) (first : Cursor) → ranks_line c ≡ Ok (count, first) → IsFaultOfSome (IsExtremeText t) (IsFaultOfExtreme t) count first f → IsFaultOfBody t c f

ranks_err : (t : DecisionTable) (c : Cursor) (f : ProofFault) → form_of (line_words c) ≡ Some forms.Ranks → ranks_at t c ≡ Err f → IsFaultOfBody t c f
unfolding ranks_at
ranks_err t c f is e =
    elim (bind_err (ranks_line c) (λ count. so_many (extreme_at t) count.0 count.1 >>= λ extremes. done (bodies.Ranks extremes.0, extremes.1)) f e) [
      | inl here ↦ of_first ((count_reads t c is).err f here)
      | inr a ↦
          elim (bind_err (so_many (extreme_at t) a.0.0 a.0.1) (λ extremes. done (bodies.Ranks extremes.0, extremes.1)) f a.2) [
            | inl here ↦ of_ranks a.0.0 a.0.1 a.1 ((extremes_read t a.0.0).err a.0.1 f here)
            | inr none ↦ absurd (no_fault _ f none.2)
          ]
    ]

formed_err : (t : DecisionTable) (c : Cursor) (f : ProofFault) (form : Option BodyForm) → form_of (line_words c) ≡ form → formed_at t form c ≡ Err f → IsFaultOfBody t c f
formed_err t c f None is e = of_first (in_word (subst (IsFirstFaultyWord t (expected_body (line_words c)) (line_words c) c.place) (same_fault (BadLine c.place) f e) (no_form_faulty t c.place (line_words c) is)))
formed_err t c f (Some forms.Ranks) is e = ranks_err t c f is e
formed_err t c f (Some forms.Contradiction) is e = of_first ((contradiction_reads t c is).err f e)
formed_err t c f (Some forms.Wide) is e = of_first ((note_reads t c is).err f e)

body_err : (t : DecisionTable) (c : Cursor) (f : ProofFault) → body_at t c ≡ Err f → IsFaultOfBody t c f
unfolding body_at
body_err t c f e = formed_err t c f (form_of (line_words c)) refl e

ranks_first_fails : (t : DecisionTable) (c : Cursor) (f : ProofFault) → form_of (line_words c) ≡ Some forms.Ranks → IsFaultOfLine t expected_body c f → ranks_at t c ≡ Err f
unfolding ranks_at
ranks_first_fails t c f is fault = rw (line_fails t expected_body c (ranks_line c) f (count_reads t c is) fault) refl

formed_fails : (t : DecisionTable) (c : Cursor) (f : ProofFault) (form : Option BodyForm) → form_of (line_words c) ≡ form → IsFaultOfLine t expected_body c f → formed_at t form c ≡ Err f
formed_fails t c f None is fault = ap (λ (g : ProofFault). failed g) (two_line_faults t expected_body c (BadLine c.place) f (in_word (no_form_faulty t c.place (line_words c) is)) fault)
formed_fails t c f (Some forms.Ranks) is fault = ranks_first_fails t c f is fault
formed_fails t c f (Some forms.Contradiction) is fault = line_fails t expected_body c (ended c (contradiction_words c.place (line_words c))) f (contradiction_reads t c is) fault
formed_fails t c f (Some forms.Wide) is fault = line_fails t expected_body c (ended c (wide_words c.place (line_words c))) f (note_reads t c is) fault

-- a line that is read as a count begins with the word of ranks
says_ranks : (c : Cursor) (x : ℕ × Cursor) → ranks_line c ≡ Ok x → form_of (line_words c) ≡ Some forms.Ranks
says_ranks c x e = ap form_of (count_words c x e)

later_fails : (t : DecisionTable) (c first : Cursor) (count : ℕ) (f : ProofFault) → ranks_line c ≡ Ok (count, first) → IsFaultOfSome (IsExtremeText t) (IsFaultOfExtreme t) count first f → ranks_at t c ≡ Err f
unfolding ranks_at
later_fails t c first count f line fault = rw (line, (extremes_read t count).fails first f fault) refl

body_ranks : (t : DecisionTable) (c : Cursor) (f : ProofFault) → form_of (line_words c) ≡ Some forms.Ranks → ranks_at t c ≡ Err f → body_at t c ≡ Err f
unfolding body_at
body_ranks t c f is e = ap (λ (form : Option BodyForm). formed_at t form c) is ∙ e

body_first_fails : (t : DecisionTable) (c : Cursor) (f : ProofFault) → IsFaultOfLine t expected_body c f → body_at t c ≡ Err f
unfolding body_at
body_first_fails t c f fault = formed_fails t c f (form_of (line_words c)) refl fault

body_fails : (t : DecisionTable) (c : Cursor) (f : ProofFault) → IsFaultOfBody t c f → body_at t c ≡ Err f
body_fails t c f (of_first fault) = body_first_fails t c f fault
body_fails t c f (of_ranks count first line fault) = body_ranks t c f (says_ranks c (count, first) line) (later_fails t c first count f line fault)

-- ---- entries

as_entry : (t : DecisionTable) (c : Cursor) (name : List ℕ) (body : Cursor) (f : ProofFault) → IsDeskLine c name body → IsFaultOfBody t body f → IsFaultOfEntry t c f
as_entry t c name body f desk (of_first fault) = in_body name body desk fault
as_entry t c name body f desk (of_ranks count first line fault) = in_ranks name body first count desk line fault

abbrev entry_made : List ℕ → EntryBody → Entry
entry_made desk body = record { desk = desk; body = body }

pub entry_err : (t : DecisionTable) (c : Cursor) (f : ProofFault) → entry_at t c ≡ Err f → IsFaultOfEntry t c f
unfolding entry_at
entry_err t c f e =
    elim (bind_err (desk_line c) (λ desk. body_at t desk.1 >>= λ body. done (entry_made desk.0 body.0, body.1)) f e) [
      | inl here ↦ in_desk (no_desk c f here) (desk_err c f here)
      | inr a ↦
          elim (bind_err (body_at t a.0.1) (λ body. done (entry_made a.0.0 body.0, body.1)) f a.2) [
            | inl here ↦ as_entry t c a.0.0 a.0.1 f (desk_sound c a.0 a.1) (body_err t a.0.1 f here)
            | inr none ↦ absurd (no_fault _ f none.2)
          ]
    ]

behind_desk : (t : DecisionTable) (c : Cursor) (name : List ℕ) (body : Cursor) (f : ProofFault) → IsDeskLine c name body → body_at t body ≡ Err f → entry_at t c ≡ Err f
unfolding entry_at
behind_desk t c name body f desk e = rw (desk_goes c name body desk, e) refl

at_desk : (t : DecisionTable) (c : Cursor) (f : ProofFault) → desk_line c ≡ Err f → entry_at t c ≡ Err f
unfolding entry_at
at_desk t c f e = rw e refl

pub entry_fails : (t : DecisionTable) (c : Cursor) (f : ProofFault) → IsFaultOfEntry t c f → entry_at t c ≡ Err f
entry_fails t c f (in_desk none is) = at_desk t c f (desk_fails c none ∙ ap (λ (g : ProofFault). failed g) (sym is))
entry_fails t c f (in_body name body desk fault) = behind_desk t c name body f desk (body_fails t body f (of_first fault))
entry_fails t c f (in_ranks name body first count desk line fault) = behind_desk t c name body f desk (body_fails t body f (of_ranks count first line fault))
