-- The lines of an entry of ranks, both ways: what was written is read again, and what is read was so written.
use Rattle.std.proofs.Common.{◌≡◌, ℕ, ◌+◌, ◌<◌, true, List, [], ◌∷◌, ◌++◌, length, map, Ok, refl, sym, ap, subst, ◌∙◌, arith}
use Rattle.std.specs.Prelude.{codes, decimal}
use Rattle.std.specs.List.{AllByRecursion}
use Rattle.std.proofs.lemmas.Bool.{and_from}
use Rattle.ror_text.specs.Cursor.{Cursor, line_words}
use Rattle.ror_text.specs.Numbers.{small_number_of}
use Rattle.ror_text.specs.Reading.{◌>>=◌}
use Rattle.ror_text.specs.SpacedLines.{is_word, are_words, line_text}
use Rattle.ror_text.proofs.CursorLemmas.{Spans, line_spans}
use Rattle.ror_text.proofs.NumberLemmas.{is_word-decimal, decimal_some, small_number_of-decimal, small_number_of-sound}
use Rattle.ror_text.proofs.ReadingLemmas.{bind_ok, need_ok}
use Rattle.ror_table.specs.Table.{DecisionTable, IsTable, id_of, alternative_named}
use Rattle.ror_table.proofs.NameLemmas.{alternative_named-id_of, alternative_named-sound}
use Rattle.ror_system.specs.declared.accept.Multipliers.{Multipliers}
use Rattle.ror_pivot.specs.declared.note.Place.{Place}
use Rattle.ror_pivot.specs.declared.note.WideNote.{WideNote}
use Rattle.ror_proof.specs.declared.read.ProofFault.TheVariants.{BadLine}
use Rattle.ror_proof.specs.Questions.{alternative_at}
use Rattle.ror_proof.specs.Reading.{refutation_at}
use Rattle.ror_proof.specs.Text.{multipliers_words, AreNarrow}
use Rattle.ror_proof.specs.Words.{after_word, name_at, no_more, number_in, small_number_at, all_at}
use Rattle.ror_proof.proofs.AnswerLemmas.{ended_again, ended_sound, id_is_word}
use Rattle.ror_proof.proofs.LineWords.{multipliers_are_words, refutation_again, refutation_sound}
use Rattle.ror_proof.proofs.QuestionLemmas.{alternative_again, alternative_sound}
use Rattle.ror_proof.proofs.WordLemmas.{done, ok_is, after_word_again, after_word_sound, no_more_sound, number_again, number_sound, all_again, all_sound, small_number_again, small_number_sound, name_again, name_sound}
use Rattle.ror_discriminate.specs.Reading.{noted_at, place_at}
use Rattle.ror_discriminate.specs.Text.{place_words, path_words, IsSmall, IsSmallPlace, IsSmallPath}
use Rattle.ror_discriminate.proofs.NoteLemmas.{place_are_words, note_are_words, place_again, place_sound, noted_again, noted_sound}
use Rattle.ror_ranks.specs.declared.extreme.Side.{Side}
use Rattle.ror_ranks.specs.declared.extreme.Side.TheVariants as sides
use Rattle.ror_ranks.specs.declared.extreme.Node.{Node}
use Rattle.ror_ranks.specs.declared.extreme.Node.TheVariants.{Leaf, Branch}
use Rattle.ror_ranks_text.specs.declared.entry.EntryBody.{EntryBody}
use Rattle.ror_ranks_text.specs.declared.entry.EntryBody.TheVariants as bodies
use Rattle.ror_ranks_text.specs.declared.names.SaidForm.{SaidForm}
use Rattle.ror_ranks_text.specs.declared.names.SaidForm.TheVariants as forms
use Rattle.ror_ranks_text.specs.declared.names.NodeName.{NodeName}
use Rattle.ror_ranks_text.specs.declared.names.NodeName.TheVariants as named
use Rattle.ror_ranks_text.specs.declared.read.Ends.{Ends}
use Rattle.ror_ranks_text.specs.declared.read.Opening.{Opening}
use Rattle.ror_ranks_text.specs.declared.read.Opening.TheVariants as openings
use Rattle.ror_ranks_text.specs.declared.read.Head.{Head}
use Rattle.ror_ranks.specs.SideNames.{side_word, side_list}
use Rattle.ror_ranks_text.specs.EntryNames.{said_word, said_forms, node_word, node_names}
use Rattle.ror_ranks_text.specs.Reading.{alternative_in, ids_words, labelled_at, ends_words, note_words, opening_words, extreme_words, places_at, named_node, node_words, ranks_words, contradiction_words, wide_words, ids_line, extreme_line, node_line, ranks_line}
use Rattle.ror_ranks_text.specs.Text.{ids_text, node_text, AreOfTable, IsPrintableNode}

-- ---- ids up to the end of a line

id_again : (t : DecisionTable) (place a : ℕ) → IsTable t → a < length t.alternatives → alternative_in t place (id_of t a) ≡ Ok a
id_again t place a table of_table = rw (alternative_named-id_of t a table of_table) refl

id_sound : (t : DecisionTable) (place : ℕ) (word : List ℕ) (a : ℕ) → alternative_in t place word ≡ Ok a → (word ≡ id_of t a) × (a < length t.alternatives)
id_sound t place word a e = let found = alternative_named-sound t word a (need_ok (BadLine place) (alternative_named t word) a e) in (found.1, found.0)

ids_are_words : (t : DecisionTable) (members : List ℕ) → IsTable t → AreOfTable t members → are_words (map (id_of t) members) ≡ true
ids_are_words t [] table of_table = refl
ids_are_words t (b ∷ bs) table of_table = and_from (is_word (id_of t b)) (are_words (map (id_of t) bs)) (id_is_word t b table of_table.0) (ids_are_words t bs table of_table.1)

module _ (t : DecisionTable) (table : IsTable t) (word : List ℕ) (is : is_word word ≡ true) where
  ids_words_again : (place : ℕ) (members : List ℕ) → AreOfTable t members → ids_words t word place (word ∷ map (id_of t) members) ≡ Ok members
  unfolding ids_words
  ids_words_again place members of_table =
      rw (after_word_again place word (map (id_of t) members)) (all_again (alternative_in t place) (id_of t) (λ b. b < length t.alternatives) (λ b within. id_again t place b table within) members of_table)

  pub ids_again : (place : ℕ) (members : List ℕ) (rest : List ℕ) → AreOfTable t members
      → ids_line t word (record { place = place; rest = ids_text t word members ++ rest }) ≡ Ok (members, record { place = place + length (ids_text t word members); rest = rest })
  ids_again place members rest of_table =
      ended_again (ids_words t word) place word (map (id_of t) members) rest members
      (and_from (is_word word) (are_words (map (id_of t) members)) is (ids_are_words t members table of_table)) (ids_words_again place members of_table)

ids_words_sound : (t : DecisionTable) (word : List ℕ) (place : ℕ) (words : List (List ℕ)) (members : List ℕ) → ids_words t word place words ≡ Ok members
    → (words ≡ word ∷ map (id_of t) members) × AreOfTable t members
unfolding ids_words
ids_words_sound t word place words members e =
    let a = bind_ok (after_word place word words) (λ ids. all_at (alternative_in t place) ids) members e in
    let said = all_sound (alternative_in t place) (id_of t) (λ b. b < length t.alternatives) (λ w b one. id_sound t place w b one) a.0 members a.2 in
    (after_word_sound place word words a.0 a.1 ∙ ap (λ (more : List (List ℕ)). word ∷ more) said.0, said.1)

pub ids_sound : (t : DecisionTable) (word : List ℕ) (c : Cursor) (x : List ℕ × Cursor) → ids_line t word c ≡ Ok x → Spans c (ids_text t word x.0) x.1 × AreOfTable t x.0
ids_sound t word c x e =
    let read = ended_sound c (ids_words t word c.place (line_words c)) x e in
    let said = ids_words_sound t word c.place (line_words c) x.0 read.words in
    (line_spans c x.1 (word ∷ map (id_of t) x.0) said.0 read.line, said.1)

-- ---- a word and a number

labelled_again : (word : List ℕ) (place n : ℕ) (more : List (List ℕ)) → IsSmall n → labelled_at word place (word ∷ decimal n ∷ more) ≡ Ok (n, more)
unfolding labelled_at
labelled_again word place n more small = rw (after_word_again place word (decimal n ∷ more)) (small_number_again place n more small)

labelled_sound : (word : List ℕ) (place : ℕ) (words : List (List ℕ)) (x : ℕ × List (List ℕ)) → labelled_at word place words ≡ Ok x → (words ≡ word ∷ decimal x.0 ∷ x.1) × IsSmall x.0
unfolding labelled_at
labelled_sound word place words x e =
    let a = bind_ok (after_word place word words) (λ more. small_number_at place more) x e in
    let number = small_number_sound place a.0 x a.2 in
    (after_word_sound place word words a.0 a.1 ∙ ap (λ (more : List (List ℕ)). word ∷ more) number.0, number.1)

-- ---- the ends of an interval

abbrev pub spelt_ends : Ends → List (List ℕ)
spelt_ends x = decimal x.from ∷ codes "to" ∷ decimal x.to ∷ codes "conflicts" ∷ decimal x.conflicts ∷ codes "nodes" ∷ decimal x.nodes ∷ []

pub record AreSmallEnds (x : Ends) : Type 0 where
  pub from : IsSmall x.from
  pub to : IsSmall x.to
  pub conflicts : IsSmall x.conflicts
  pub nodes : IsSmall x.nodes

ends_again : (place : ℕ) (x : Ends) → AreSmallEnds x → ends_words place (spelt_ends x) ≡ Ok x
unfolding ends_words
ends_again place x small = rw (
  small_number_again place x.from (codes "to" ∷ decimal x.to ∷ codes "conflicts" ∷ decimal x.conflicts ∷ codes "nodes" ∷ decimal x.nodes ∷ []) small.from,
  labelled_again (codes "to") place x.to (codes "conflicts" ∷ decimal x.conflicts ∷ codes "nodes" ∷ decimal x.nodes ∷ []) small.to,
  labelled_again (codes "conflicts") place x.conflicts (codes "nodes" ∷ decimal x.nodes ∷ []) small.conflicts,
  labelled_again (codes "nodes") place x.nodes [] small.nodes,
) refl

abbrev ends_made : ℕ → ℕ → ℕ → ℕ → Ends
ends_made from to conflicts nodes = record { from = from; to = to; conflicts = conflicts; nodes = nodes }

abbrev AreEndsIn : List (List ℕ) → Ends → Type 0
AreEndsIn words x = (words ≡ spelt_ends x) × AreSmallEnds x

ends_sound : (place : ℕ) (words : List (List ℕ)) (x : Ends) → ends_words place words ≡ Ok x → AreEndsIn words x
unfolding ends_words
ends_sound place words x e =
    let last = λ (from to conflicts : ℕ) (nodes : ℕ × List (List ℕ)). no_more place nodes.1 >>= λ _. done (ends_made from to conflicts nodes.0) in
    let third = λ (from to : ℕ) (conflicts : ℕ × List (List ℕ)). labelled_at (codes "nodes") place conflicts.1 >>= λ nodes. last from to conflicts.0 nodes in
    let second = λ (from : ℕ) (to : ℕ × List (List ℕ)). labelled_at (codes "conflicts") place to.1 >>= λ conflicts. third from to.0 conflicts in
    let a = bind_ok (small_number_at place words) (λ from. labelled_at (codes "to") place from.1 >>= λ to. second from.0 to) x e in
    let b = bind_ok (labelled_at (codes "to") place a.0.1) (λ to. second a.0.0 to) x a.2 in
    let d = bind_ok (labelled_at (codes "conflicts") place b.0.1) (λ conflicts. third a.0.0 b.0.0 conflicts) x b.2 in
    let f = bind_ok (labelled_at (codes "nodes") place d.0.1) (λ nodes. last a.0.0 b.0.0 d.0.0 nodes) x d.2 in
    let g = bind_ok (no_more place f.0.1) (λ _. done (ends_made a.0.0 b.0.0 d.0.0 f.0.0)) x f.2 in
    let from = small_number_sound place words a.0 a.1 in
    let to = labelled_sound (codes "to") place a.0.1 b.0 b.1 in
    let conflicts = labelled_sound (codes "conflicts") place b.0.1 d.0 d.1 in
    let nodes = labelled_sound (codes "nodes") place d.0.1 f.0 f.1 in
    let end : f.0.1 ≡ [] = no_more_sound place f.0.1 g.0 g.1 in
    let tail : d.0.1 ≡ codes "nodes" ∷ decimal f.0.0 ∷ [] = nodes.0 ∙ ap (λ (more : List (List ℕ)). codes "nodes" ∷ decimal f.0.0 ∷ more) end in
    let middle : b.0.1 ≡ codes "conflicts" ∷ decimal d.0.0 ∷ codes "nodes" ∷ decimal f.0.0 ∷ [] = conflicts.0 ∙ ap (λ (more : List (List ℕ)). codes "conflicts" ∷ decimal d.0.0 ∷ more) tail in
    let front : a.0.1 ≡ codes "to" ∷ decimal b.0.0 ∷ codes "conflicts" ∷ decimal d.0.0 ∷ codes "nodes" ∷ decimal f.0.0 ∷ [] = to.0 ∙ ap (λ (more : List (List ℕ)). codes "to" ∷ decimal b.0.0 ∷ more) middle in
    let is : words ≡ spelt_ends (ends_made a.0.0 b.0.0 d.0.0 f.0.0) = from.0 ∙ ap (λ (more : List (List ℕ)). decimal a.0.0 ∷ more) front in
    subst (AreEndsIn words) (ok_is (ends_made a.0.0 b.0.0 d.0.0 f.0.0) x g.2) (is, record { from = from.1; to = to.1; conflicts = conflicts.1; nodes = nodes.1 })

ends_are_words : (x : Ends) → AreSmallEnds x → are_words (spelt_ends x) ≡ true
ends_are_words x small =
    let from = small.from in
    let to = small.to in
    let conflicts = small.conflicts in
    let nodes = small.nodes in
    and_from _ _ (is_word-decimal x.from (omega (arith, from)))
    (and_from (is_word (codes "to")) _ refl
    (and_from _ _ (is_word-decimal x.to (omega (arith, to)))
    (and_from (is_word (codes "conflicts")) _ refl
    (and_from _ _ (is_word-decimal x.conflicts (omega (arith, conflicts)))
    (and_from (is_word (codes "nodes")) _ refl
    (and_from _ _ (is_word-decimal x.nodes (omega (arith, nodes))) refl))))))

-- ---- notes

abbrev pub spelt_note : WideNote → List (List ℕ)
spelt_note note = place_words note.place ++ path_words note.path

abbrev pub IsSmallNote : WideNote → Type 0
IsSmallNote note = IsSmallPlace note.place × IsSmallPath note.path

note_again : (place : ℕ) (note : WideNote) → IsSmallNote note → note_words place (spelt_note note) ≡ Ok note
unfolding note_words
note_again place note small = rw (noted_again place_words IsSmallPlace place_at place (place_again place) note.place note.path small.0 small.1) refl

abbrev note_made : Place × List (ℕ × ℕ) → WideNote
note_made x = record { path = x.1; place = x.0 }

note_sound : (place : ℕ) (words : List (List ℕ)) (note : WideNote) → note_words place words ≡ Ok note → (words ≡ spelt_note note) × IsSmallNote note
unfolding note_words
note_sound place words note e =
    let a = bind_ok (noted_at place_at place words) (λ x. done (note_made x)) note e in
    let said = noted_sound place_words IsSmallPlace place_at place (place_sound place) words a.0 a.1 in
    subst (λ (n : WideNote). (words ≡ spelt_note n) × IsSmallNote n) (ok_is (note_made a.0) note a.2) said

-- ---- the first line of an extreme rank

abbrev pub form_of_opening : Opening → SaidForm
form_of_opening (openings.Within ends) = forms.From
form_of_opening (openings.Wide note) = forms.Wide

abbrev pub spelt_opening : Opening → List (List ℕ)
spelt_opening (openings.Within ends) = spelt_ends ends
spelt_opening (openings.Wide note) = spelt_note note

abbrev pub IsSmallOpening : Opening → Type 0
IsSmallOpening (openings.Within ends) = AreSmallEnds ends
IsSmallOpening (openings.Wide note) = IsSmallNote note

-- the words behind the one of the side
abbrev pub spelt_head : DecisionTable → Head → List (List ℕ)
spelt_head t x = id_of t x.alternative ∷ said_word (form_of_opening x.opening) ∷ spelt_opening x.opening

abbrev pub head_text : DecisionTable → Head → List ℕ
head_text t x = line_text (side_word x.side ∷ spelt_head t x)

pub record IsHead (t : DecisionTable) (x : Head) : Type 0 where
  pub alternative : x.alternative < length t.alternatives
  pub opening : IsSmallOpening x.opening

side_named : (side : Side) (place : ℕ) (more : List (List ℕ)) → name_at side_word side_list place (side_word side ∷ more) ≡ Ok (side, more)
side_named sides.Best place more = name_again side_word side_list place sides.Best more refl
side_named sides.Worst place more = name_again side_word side_list place sides.Worst more refl

form_named : (form : SaidForm) (place : ℕ) (more : List (List ℕ)) → name_at said_word said_forms place (said_word form ∷ more) ≡ Ok (form, more)
form_named forms.From place more = name_again said_word said_forms place forms.From more refl
form_named forms.Wide place more = name_again said_word said_forms place forms.Wide more refl

opening_again : (x : Opening) (place : ℕ) → IsSmallOpening x → opening_words (form_of_opening x) place (spelt_opening x) ≡ Ok x
opening_again (openings.Within ends) place small = rw (ends_again place ends small) refl
opening_again (openings.Wide note) place small = rw (note_again place note small) refl

extreme_words_again : (t : DecisionTable) (place : ℕ) (x : Head) → IsTable t → IsHead t x → extreme_words t place (side_word x.side ∷ spelt_head t x) ≡ Ok x
unfolding extreme_words
extreme_words_again t place x table is = rw (
  side_named x.side place (spelt_head t x),
  alternative_again t place x.alternative (said_word (form_of_opening x.opening) ∷ spelt_opening x.opening) table is.alternative,
  form_named (form_of_opening x.opening) place (spelt_opening x.opening),
  opening_again x.opening place is.opening,
) refl

side_is_word : (side : Side) → is_word (side_word side) ≡ true
side_is_word sides.Best = refl
side_is_word sides.Worst = refl

said_is_word : (form : SaidForm) → is_word (said_word form) ≡ true
said_is_word forms.From = refl
said_is_word forms.Wide = refl

opening_are_words : (x : Opening) → IsSmallOpening x → are_words (spelt_opening x) ≡ true
opening_are_words (openings.Within ends) small = ends_are_words ends small
opening_are_words (openings.Wide note) small = note_are_words (place_words note.place) note.path (place_are_words note.place small.0) small.1

head_are_words : (t : DecisionTable) (x : Head) → IsTable t → IsHead t x → are_words (side_word x.side ∷ spelt_head t x) ≡ true
head_are_words t x table is =
    and_from _ _ (side_is_word x.side)
    (and_from _ _ (id_is_word t x.alternative table is.alternative)
    (and_from _ _ (said_is_word (form_of_opening x.opening)) (opening_are_words x.opening is.opening)))

pub head_again : (t : DecisionTable) (place : ℕ) (x : Head) (rest : List ℕ) → IsTable t → IsHead t x
    → extreme_line t (record { place = place; rest = head_text t x ++ rest }) ≡ Ok (x, record { place = place + length (head_text t x); rest = rest })
head_again t place x rest table is = ended_again (extreme_words t) place (side_word x.side) (spelt_head t x) rest x (head_are_words t x table is) (extreme_words_again t place x table is)

opening_sound : (form : SaidForm) (place : ℕ) (words : List (List ℕ)) (x : Opening) → opening_words form place words ≡ Ok x
    → (said_word form ∷ words ≡ said_word (form_of_opening x) ∷ spelt_opening x) × IsSmallOpening x
opening_sound forms.From place words x e =
    let a = bind_ok (ends_words place words) (λ ends. done (openings.Within ends)) x e in
    let said = ends_sound place words a.0 a.1 in
    subst (λ (y : Opening). (codes "from" ∷ words ≡ said_word (form_of_opening y) ∷ spelt_opening y) × IsSmallOpening y) (ok_is (openings.Within a.0) x a.2) (ap (λ (ws : List (List ℕ)). codes "from" ∷ ws) said.0, said.1)
opening_sound forms.Wide place words x e =
    let a = bind_ok (note_words place words) (λ note. done (openings.Wide note)) x e in
    let said = note_sound place words a.0 a.1 in
    subst (λ (y : Opening). (codes "wide" ∷ words ≡ said_word (form_of_opening y) ∷ spelt_opening y) × IsSmallOpening y) (ok_is (openings.Wide a.0) x a.2) (ap (λ (ws : List (List ℕ)). codes "wide" ∷ ws) said.0, said.1)

abbrev head_made : Side → ℕ → Opening → Head
head_made side alternative opening = record { side = side; alternative = alternative; opening = opening }

extreme_words_sound : (t : DecisionTable) (place : ℕ) (words : List (List ℕ)) (x : Head) → extreme_words t place words ≡ Ok x → (words ≡ side_word x.side ∷ spelt_head t x) × IsHead t x
unfolding extreme_words
extreme_words_sound t place words x e =
    let last = λ (side : Side) (alternative : ℕ) (form : SaidForm × List (List ℕ)). opening_words form.0 place form.1 >>= λ opening. done (head_made side alternative opening) in
    let second = λ (side : Side) (alternative : ℕ × List (List ℕ)). name_at said_word said_forms place alternative.1 >>= λ form. last side alternative.0 form in
    let a = bind_ok (name_at side_word side_list place words) (λ side. alternative_at t place side.1 >>= λ alternative. second side.0 alternative) x e in
    let b = bind_ok (alternative_at t place a.0.1) (λ alternative. second a.0.0 alternative) x a.2 in
    let d = bind_ok (name_at said_word said_forms place b.0.1) (λ form. last a.0.0 b.0.0 form) x b.2 in
    let f = bind_ok (opening_words d.0.0 place d.0.1) (λ opening. done (head_made a.0.0 b.0.0 opening)) x d.2 in
    let side = name_sound side_word side_list place words a.0 a.1 in
    let alternative = alternative_sound t place a.0.1 b.0 b.1 in
    let form = name_sound said_word said_forms place b.0.1 d.0 d.1 in
    let opening = opening_sound d.0.0 place d.0.1 f.0 f.1 in
    let tail : b.0.1 ≡ said_word (form_of_opening f.0) ∷ spelt_opening f.0 = form ∙ opening.0 in
    let middle : a.0.1 ≡ spelt_head t (head_made a.0.0 b.0.0 f.0) = alternative.0 ∙ ap (λ (ws : List (List ℕ)). id_of t b.0.0 ∷ ws) tail in
    let is : words ≡ side_word a.0.0 ∷ spelt_head t (head_made a.0.0 b.0.0 f.0) = side ∙ ap (λ (ws : List (List ℕ)). side_word a.0.0 ∷ ws) middle in
    subst (λ (y : Head). (words ≡ side_word y.side ∷ spelt_head t y) × IsHead t y) (ok_is (head_made a.0.0 b.0.0 f.0) x f.2) (is, record { alternative = alternative.1; opening = opening.1 })

pub head_sound : (t : DecisionTable) (c : Cursor) (x : Head × Cursor) → extreme_line t c ≡ Ok x → Spans c (head_text t x.0) x.1 × IsHead t x.0
head_sound t c x e =
    let read = ended_sound c (extreme_words t c.place (line_words c)) x e in
    let said = extreme_words_sound t c.place (line_words c) x.0 read.words in
    (line_spans c x.1 (side_word x.0.side ∷ spelt_head t x.0) said.0 read.line, said.1)

-- ---- nodes

small_again : (place n : ℕ) → IsSmall n → number_in small_number_of place (decimal n) ≡ Ok n
small_again place n small = number_again small_number_of place (decimal n) n (decimal_some n (omega arith)) (small_number_of-decimal n small)

smalls_are_words : (ns : List ℕ) → AllByRecursion IsSmall ns → are_words (map decimal ns) ≡ true
smalls_are_words [] small = refl
smalls_are_words (n ∷ ns) small = let first = small.0 in and_from _ _ (is_word-decimal n (omega (arith, first))) (smalls_are_words ns small.1)

places_again : (place : ℕ) (ns : List ℕ) → AllByRecursion IsSmall ns → places_at place (map decimal ns) ≡ Ok ns
places_again place ns small = all_again (number_in small_number_of place) decimal IsSmall (small_again place) ns small

places_sound : (place : ℕ) (words : List (List ℕ)) (ns : List ℕ) → places_at place words ≡ Ok ns → (words ≡ map decimal ns) × AllByRecursion IsSmall ns
places_sound place words ns e = all_sound (number_in small_number_of place) decimal IsSmall (λ word n one. small_number_of-sound word n (number_sound small_number_of place word n one)) words ns e

abbrev pub node_name : Node → NodeName
node_name (Leaf places) = named.Leaf
node_name (Branch place) = named.Branch

abbrev pub spelt_node : Node → List (List ℕ)
spelt_node (Leaf places) = map decimal places
spelt_node (Branch place) = decimal place ∷ []

node_is_spelt : (x : Node) → node_text x ≡ line_text (node_word (node_name x) ∷ spelt_node x)
node_is_spelt (Leaf places) = refl
node_is_spelt (Branch place) = refl

node_words_again : (place : ℕ) (x : Node) → IsPrintableNode x → node_words place (node_word (node_name x) ∷ spelt_node x) ≡ Ok x
unfolding node_words
node_words_again place (Leaf places) small = rw (name_again node_word node_names place named.Leaf (map decimal places) refl, places_again place places small) refl
node_words_again place (Branch n) small = rw (name_again node_word node_names place named.Branch (decimal n ∷ []) refl, small_number_again place n [] small) refl

node_are_words : (x : Node) → IsPrintableNode x → are_words (node_word (node_name x) ∷ spelt_node x) ≡ true
node_are_words (Leaf places) small = and_from (is_word (codes "leaf")) _ refl (smalls_are_words places small)
node_are_words (Branch n) small = and_from (is_word (codes "branch")) _ refl (and_from _ _ (is_word-decimal n (omega (arith, small))) refl)

pub node_again : (place : ℕ) (x : Node) (rest : List ℕ) → IsPrintableNode x
    → node_line (record { place = place; rest = node_text x ++ rest }) ≡ Ok (x, record { place = place + length (node_text x); rest = rest })
node_again place x rest small =
    let one = ended_again node_words place (node_word (node_name x)) (spelt_node x) rest x (node_are_words x small) (node_words_again place x small) in
    subst (λ (text : List ℕ). node_line (record { place = place; rest = text ++ rest }) ≡ Ok (x, record { place = place + length text; rest = rest })) (sym (node_is_spelt x)) one

named_sound : (name : NodeName) (place : ℕ) (words : List (List ℕ)) (x : Node) → named_node name place words ≡ Ok x → (node_word name ∷ words ≡ node_word (node_name x) ∷ spelt_node x) × IsPrintableNode x
named_sound named.Leaf place words x e =
    let a = bind_ok (places_at place words) (λ places. done (Leaf places)) x e in
    let said = places_sound place words a.0 a.1 in
    subst (λ (y : Node). (codes "leaf" ∷ words ≡ node_word (node_name y) ∷ spelt_node y) × IsPrintableNode y) (ok_is (Leaf a.0) x a.2) (ap (λ (ws : List (List ℕ)). codes "leaf" ∷ ws) said.0, said.1)
named_sound named.Branch place words x e =
    let a = bind_ok (small_number_at place words) (λ number. no_more place number.1 >>= λ _. done (Branch number.0)) x e in
    let b = bind_ok (no_more place a.0.1) (λ _. done (Branch a.0.0)) x a.2 in
    let number = small_number_sound place words a.0 a.1 in
    let is : words ≡ decimal a.0.0 ∷ [] = number.0 ∙ ap (λ (ws : List (List ℕ)). decimal a.0.0 ∷ ws) (no_more_sound place a.0.1 b.0 b.1) in
    subst (λ (y : Node). (codes "branch" ∷ words ≡ node_word (node_name y) ∷ spelt_node y) × IsPrintableNode y) (ok_is (Branch a.0.0) x b.2) (ap (λ (ws : List (List ℕ)). codes "branch" ∷ ws) is, number.1)

node_words_sound : (place : ℕ) (words : List (List ℕ)) (x : Node) → node_words place words ≡ Ok x → (words ≡ node_word (node_name x) ∷ spelt_node x) × IsPrintableNode x
unfolding node_words
node_words_sound place words x e =
    let a = bind_ok (name_at node_word node_names place words) (λ name. named_node name.0 place name.1) x e in
    let said = named_sound a.0.0 place a.0.1 x a.2 in
    (name_sound node_word node_names place words a.0 a.1 ∙ said.0, said.1)

pub node_sound : (c : Cursor) (x : Node × Cursor) → node_line c ≡ Ok x → Spans c (node_text x.0) x.1 × IsPrintableNode x.0
node_sound c x e =
    let read = ended_sound c (node_words c.place (line_words c)) x e in
    let said = node_words_sound c.place (line_words c) x.0 read.words in
    (subst (λ (text : List ℕ). Spans c text x.1) (sym (node_is_spelt x.0)) (line_spans c x.1 (node_word (node_name x.0) ∷ spelt_node x.0) said.0 read.line), said.1)

-- ---- the first line of a body of ranks

abbrev pub count_text : ℕ → List ℕ
count_text n = line_text (codes "ranks" ∷ decimal n ∷ [])

ranks_words_again : (place n : ℕ) → IsSmall n → ranks_words place (codes "ranks" ∷ decimal n ∷ []) ≡ Ok n
unfolding ranks_words
ranks_words_again place n small = rw (labelled_again (codes "ranks") place n [] small) refl

pub count_are_words : (n : ℕ) → IsSmall n → are_words (codes "ranks" ∷ decimal n ∷ []) ≡ true
count_are_words n small = and_from (is_word (codes "ranks")) _ refl (and_from _ _ (is_word-decimal n (omega (arith, small))) refl)

pub count_again : (place n : ℕ) (rest : List ℕ) → IsSmall n → ranks_line (record { place = place; rest = count_text n ++ rest }) ≡ Ok (n, record { place = place + length (count_text n); rest = rest })
count_again place n rest small = ended_again ranks_words place (codes "ranks") (decimal n ∷ []) rest n (count_are_words n small) (ranks_words_again place n small)

ranks_words_sound : (place : ℕ) (words : List (List ℕ)) (n : ℕ) → ranks_words place words ≡ Ok n → (words ≡ codes "ranks" ∷ decimal n ∷ []) × IsSmall n
unfolding ranks_words
ranks_words_sound place words n e =
    let a = bind_ok (labelled_at (codes "ranks") place words) (λ count. no_more place count.1 >>= λ _. done count.0) n e in
    let b = bind_ok (no_more place a.0.1) (λ _. done a.0.0) n a.2 in
    let said = labelled_sound (codes "ranks") place words a.0 a.1 in
    let is : words ≡ codes "ranks" ∷ decimal a.0.0 ∷ [] = said.0 ∙ ap (λ (ws : List (List ℕ)). codes "ranks" ∷ decimal a.0.0 ∷ ws) (no_more_sound place a.0.1 b.0 b.1) in
    subst (λ (m : ℕ). (words ≡ codes "ranks" ∷ decimal m ∷ []) × IsSmall m) (ok_is a.0.0 n b.2) (is, said.1)

pub count_words : (c : Cursor) (x : ℕ × Cursor) → ranks_line c ≡ Ok x → line_words c ≡ codes "ranks" ∷ decimal x.0 ∷ []
count_words c x e = let read = ended_sound c (ranks_words c.place (line_words c)) x e in (ranks_words_sound c.place (line_words c) x.0 read.words).0

pub count_sound : (c : Cursor) (x : ℕ × Cursor) → ranks_line c ≡ Ok x → Spans c (count_text x.0) x.1 × IsSmall x.0
count_sound c x e =
    let read = ended_sound c (ranks_words c.place (line_words c)) x e in
    let said = ranks_words_sound c.place (line_words c) x.0 read.words in
    (line_spans c x.1 (codes "ranks" ∷ decimal x.0 ∷ []) said.0 read.line, said.1)

-- ---- bodies of one line

pub contradiction_again : (place : ℕ) (m : Multipliers) → AreNarrow m → contradiction_words place (codes "contradiction" ∷ multipliers_words m.weak m.strict) ≡ Ok (bodies.Contradiction m)
unfolding contradiction_words
contradiction_again place m narrow = rw (after_word_again place (codes "contradiction") (multipliers_words m.weak m.strict), refutation_again place m narrow) refl

pub contradiction_are_words : (m : Multipliers) → AreNarrow m → are_words (codes "contradiction" ∷ multipliers_words m.weak m.strict) ≡ true
contradiction_are_words m narrow = and_from (is_word (codes "contradiction")) _ refl (multipliers_are_words m narrow)

pub contradiction_sound : (place : ℕ) (words : List (List ℕ)) (body : EntryBody) → contradiction_words place words ≡ Ok body
    → (m : Multipliers) × (words ≡ codes "contradiction" ∷ multipliers_words m.weak m.strict) × AreNarrow m × (bodies.Contradiction m ≡ body)
unfolding contradiction_words
contradiction_sound place words body e =
    let made = λ (m : Multipliers). done (bodies.Contradiction m) in
    let a = bind_ok (after_word place (codes "contradiction") words) (λ more. refutation_at place more >>= λ m. made m) body e in
    let b = bind_ok (refutation_at place a.0) (λ m. made m) body a.2 in
    let said = refutation_sound place a.0 b.0 b.1 in
    let is : words ≡ codes "contradiction" ∷ multipliers_words b.0.weak b.0.strict = after_word_sound place (codes "contradiction") words a.0 a.1 ∙ ap (λ (more : List (List ℕ)). codes "contradiction" ∷ more) said.0 in
    (b.0, is, said.1, ok_is (bodies.Contradiction b.0) body b.2)

pub wide_again : (place : ℕ) (note : WideNote) → IsSmallNote note → wide_words place (codes "wide" ∷ codes "base" ∷ spelt_note note) ≡ Ok (bodies.BaseWide note)
unfolding wide_words
wide_again place note small = rw (after_word_again place (codes "wide") (codes "base" ∷ spelt_note note), after_word_again place (codes "base") (spelt_note note), note_again place note small) refl

pub wide_are_words : (note : WideNote) → IsSmallNote note → are_words (codes "wide" ∷ codes "base" ∷ spelt_note note) ≡ true
wide_are_words note small =
    and_from (is_word (codes "wide")) _ refl (and_from (is_word (codes "base")) _ refl (note_are_words (place_words note.place) note.path (place_are_words note.place small.0) small.1))

pub wide_sound : (place : ℕ) (words : List (List ℕ)) (body : EntryBody) → wide_words place words ≡ Ok body
    → (note : WideNote) × (words ≡ codes "wide" ∷ codes "base" ∷ spelt_note note) × IsSmallNote note × (bodies.BaseWide note ≡ body)
unfolding wide_words
wide_sound place words body e =
    let made = λ (note : WideNote). done (bodies.BaseWide note) in
    let a = bind_ok (after_word place (codes "wide") words) (λ more. after_word place (codes "base") more >>= λ rest. note_words place rest >>= λ note. made note) body e in
    let b = bind_ok (after_word place (codes "base") a.0) (λ rest. note_words place rest >>= λ note. made note) body a.2 in
    let d = bind_ok (note_words place b.0) (λ note. made note) body b.2 in
    let said = note_sound place b.0 d.0 d.1 in
    let back : a.0 ≡ codes "base" ∷ spelt_note d.0 = after_word_sound place (codes "base") a.0 b.0 b.1 ∙ ap (λ (ws : List (List ℕ)). codes "base" ∷ ws) said.0 in
    let is : words ≡ codes "wide" ∷ codes "base" ∷ spelt_note d.0 = after_word_sound place (codes "wide") words a.0 a.1 ∙ ap (λ (ws : List (List ℕ)). codes "wide" ∷ ws) back in
    (d.0, is, said.1, ok_is (bodies.BaseWide d.0) body d.2)
