-- The first faulty word of a line of an entry of ranks: what each step of the reader says of it.
use Rattle.std.proofs.Common.{◌≡◌, ℕ, List, [], ◌∷◌, map, drop, Option, Some, None, Result, Ok, Err, refl, sym, ap, subst, ◌∙◌, inl, inr}
use Rattle.std.specs.Prelude.{codes}
use Rattle.ror_text.specs.Lines.{word_at}
use Rattle.ror_text.specs.Numbers.{small_number_of}
use Rattle.ror_text.specs.Reading.{◌>>=◌}
use Rattle.ror_text.proofs.ReadingLemmas.{bind_ok, bind_err}
use Rattle.ror_system.specs.declared.accept.Multipliers.{Multipliers}
use Rattle.ror_pivot.specs.declared.note.Place.{Place}
use Rattle.ror_pivot.specs.declared.note.WideNote.{WideNote}
use Rattle.ror_table.specs.Table.{DecisionTable}
use Rattle.ror_proof.specs.declared.read.ProofFault.{ProofFault}
use Rattle.ror_proof.specs.Names.{name_of}
use Rattle.ror_proof.specs.Questions.{alternative_at}
use Rattle.ror_proof.specs.Reading.{refutation_at}
use Rattle.ror_proof.specs.Words.{after_word, name_at, no_more, number_in, small_number_at, all_at}
use Rattle.ror_proof.specs.Expected.{Expected, expected_note}
use Rattle.ror_proof.specs.Expected.Expected.{the_word, one_of, an_id, a_small_number, the_end}
use Rattle.ror_proof.proofs.WordFaults.{Ends, SaysOne, no_fault, then_ends, made_ends, word_then_ends, end_ends, small_number_says, alternative_one, refutation_ends}
use Rattle.ror_proof.proofs.QuestionFaults.{alternative_steps, small_number_steps, name_steps}
use Rattle.ror_proof.proofs.WordLemmas.{done}
use Rattle.ror_discriminate.specs.EntryFaults.{expected_refutation}
use Rattle.ror_discriminate.specs.Reading.{noted_at, place_at}
use Rattle.ror_discriminate.proofs.EntryWords.{behind, nothing_ends, unknown_ends, named_ends, base_is, base_ends as base_note_ends}
use Rattle.ror_ranks.specs.declared.extreme.Side.{Side}
use Rattle.ror_ranks.specs.declared.extreme.Node.{Node}
use Rattle.ror_ranks.specs.declared.extreme.Node.TheVariants.{Leaf, Branch}
use Rattle.ror_ranks_text.specs.declared.entry.EntryBody.{EntryBody}
use Rattle.ror_ranks_text.specs.declared.entry.EntryBody.TheVariants as bodies
use Rattle.ror_ranks_text.specs.declared.names.SaidForm.{SaidForm}
use Rattle.ror_ranks_text.specs.declared.names.SaidForm.TheVariants as forms
use Rattle.ror_ranks_text.specs.declared.names.NodeName.{NodeName}
use Rattle.ror_ranks_text.specs.declared.names.NodeName.TheVariants as named
use Rattle.ror_ranks_text.specs.declared.read.Ends.{Ends as LineEnds}
use Rattle.ror_ranks_text.specs.declared.read.Opening.{Opening}
use Rattle.ror_ranks_text.specs.declared.read.Opening.TheVariants as openings
use Rattle.ror_ranks_text.specs.declared.read.Head.{Head}
use Rattle.ror_ranks.specs.SideNames.{side_word, side_list}
use Rattle.ror_ranks_text.specs.EntryNames.{said_word, said_forms, node_word, node_names}
use Rattle.ror_ranks_text.specs.EntryFaults.{each_and_end, expected_ids, expected_opening, expected_extreme, expected_of_node, expected_node}
use Rattle.ror_ranks_text.specs.Reading.{alternative_in, ids_words, labelled_at, ends_words, note_words, opening_words, extreme_words, places_at, named_node, node_words, ranks_words, contradiction_words, wide_words}

-- ---- words that say the same, up to the end of a line

each_ends : {X : Type 0} (t : DecisionTable) (place : ℕ) (read : List ℕ → Result X ProofFault) (expected : Expected) (words : List (List ℕ)) → SaysOne t place read expected → Ends t place (all_at read words) (each_and_end expected words) words
unfolding all_at
each_ends t place read expected [] says = record { fails = λ f e. absurd (no_fault [] f e); stands = λ x e. tt }
each_ends t place read expected (word ∷ words) says =
    let others = each_ends t place read expected words says in
    record {
      fails = λ f e. elim (bind_err (read word) (λ first. all_at read words >>= λ others. done (first ∷ others)) f e) [
        | inl here ↦ inl (says.err word f here)
        | inr later ↦
            elim (bind_err (all_at read words) (λ others. done (later.0 ∷ others)) f later.2) [
              | inl deeper ↦ inr (says.ok word later.0 later.1, others.fails f deeper)
              | inr none ↦ absurd (no_fault (later.0 ∷ none.0) f none.2)
            ]
      ];
      stands = λ xs e.
          let a = bind_ok (read word) (λ first. all_at read words >>= λ others. done (first ∷ others)) xs e in
          let b = bind_ok (all_at read words) (λ others. done (a.0 ∷ others)) xs a.2 in
          (says.ok word a.0 a.1, others.stands b.0 b.1);
    }

pub ids_ends : (t : DecisionTable) (word : List ℕ) (place : ℕ) (words : List (List ℕ)) → Ends t place (ids_words t word place words) (expected_ids word words) words
unfolding ids_words
ids_ends t word place words =
    behind t place word (λ ids. all_at (alternative_in t place) ids) (λ ws. each_and_end an_id ws) words
    (λ more. each_ends t place (alternative_in t place) an_id more (alternative_one t place))

-- ---- the ends of an interval

abbrev ends_made : ℕ → ℕ → ℕ → ℕ → LineEnds
ends_made from to conflicts nodes = record { from = from; to = to; conflicts = conflicts; nodes = nodes }

abbrev nodes_ended : ℕ → ℕ → ℕ → ℕ → ℕ × List (List ℕ) → Result LineEnds ProofFault
nodes_ended place from to conflicts nodes = no_more place nodes.1 >>= λ _. done (ends_made from to conflicts nodes.0)

abbrev after_conflicts : ℕ → ℕ → ℕ → ℕ × List (List ℕ) → Result LineEnds ProofFault
after_conflicts place from to conflicts = labelled_at (codes "nodes") place conflicts.1 >>= λ nodes. nodes_ended place from to conflicts.0 nodes

abbrev after_to : ℕ → ℕ → ℕ × List (List ℕ) → Result LineEnds ProofFault
after_to place from to = labelled_at (codes "conflicts") place to.1 >>= λ conflicts. after_conflicts place from to.0 conflicts

abbrev after_from : ℕ → ℕ × List (List ℕ) → Result LineEnds ProofFault
after_from place from = labelled_at (codes "to") place from.1 >>= λ to. after_to place from.0 to

-- one after the other is the same, however it is grouped
regrouped : {A B Y : Type 0} (r : Result A ProofFault) (f : A → Result B ProofFault) (g : B → Result Y ProofFault) → ((r >>= f) >>= g) ≡ (r >>= λ x. f x >>= g)
regrouped (Ok x) f g = refl
regrouped (Err e) f g = refl

-- a word, a number and what follows
labelled_ends : {Y : Type 0} (t : DecisionTable) (place : ℕ) (word : List ℕ) (next : ℕ × List (List ℕ) → Result Y ProofFault) (expected : List Expected) (words : List (List ℕ))
    → ((x : ℕ × List (List ℕ)) → Ends t place (next x) expected x.1) → Ends t place (labelled_at word place words >>= next) (the_word word ∷ a_small_number ∷ expected) words
unfolding labelled_at
labelled_ends t place word next expected words ends =
    subst (λ r. Ends t place r (the_word word ∷ a_small_number ∷ expected) words) (sym (regrouped (after_word place word words) (λ more. small_number_at place more) next))
    (word_then_ends t place word (λ more. small_number_at place more >>= next) (a_small_number ∷ expected) words
    (λ more is. then_ends t place (small_number_at place more) next (a_small_number ∷ []) expected more (small_number_steps t place more) (λ x e. ends x)))

abbrev expected_nodes : List Expected
expected_nodes = the_word (codes "nodes") ∷ a_small_number ∷ the_end ∷ []

abbrev expected_conflicts : List Expected
expected_conflicts = the_word (codes "conflicts") ∷ a_small_number ∷ expected_nodes

abbrev expected_to : List Expected
expected_to = the_word (codes "to") ∷ a_small_number ∷ expected_conflicts

ends_end : (t : DecisionTable) (place : ℕ) (words : List (List ℕ)) → Ends t place (ends_words place words) (expected_opening (Some forms.From) words) words
unfolding ends_words
ends_end t place words =
    then_ends t place (small_number_at place words) (after_from place) (a_small_number ∷ []) expected_to words (small_number_steps t place words)
    (λ from e. labelled_ends t place (codes "to") (after_to place from.0) expected_conflicts from.1
    (λ to. labelled_ends t place (codes "conflicts") (after_conflicts place from.0 to.0) expected_nodes to.1
    (λ conflicts. labelled_ends t place (codes "nodes") (nodes_ended place from.0 to.0 conflicts.0) (the_end ∷ []) conflicts.1
    (λ nodes. end_ends t place (ends_made from.0 to.0 conflicts.0 nodes.0) nodes.1))))

-- ---- notes

abbrev note_made : Place × List (ℕ × ℕ) → WideNote
note_made x = record { path = x.1; place = x.0 }

note_end : (t : DecisionTable) (place : ℕ) (words : List (List ℕ)) → Ends t place (note_words place words) (expected_note words) words
unfolding note_words
note_end t place words =
    made_ends t place (noted_at place_at place words) note_made (expected_note words) words
    (subst (λ (r : Result (Place × List (ℕ × ℕ)) ProofFault). Ends t place r (expected_note words) words) (sym (base_is place words)) (base_note_ends t place words))

-- ---- the first line of an extreme rank

opening_ends : (t : DecisionTable) (place : ℕ) (form : SaidForm) (words : List (List ℕ)) → Ends t place (opening_words form place words) (expected_opening (Some form) words) words
opening_ends t place forms.From words = made_ends t place (ends_words place words) (λ (x : LineEnds). openings.Within x) (expected_opening (Some forms.From) words) words (ends_end t place words)
opening_ends t place forms.Wide words = made_ends t place (note_words place words) (λ (x : WideNote). openings.Wide x) (expected_note words) words (note_end t place words)

abbrev head_made : Side → ℕ → Opening → Head
head_made side alternative opening = record { side = side; alternative = alternative; opening = opening }

abbrev opening_then : ℕ → Side → ℕ → SaidForm → List (List ℕ) → Result Head ProofFault
opening_then place side alternative form words = opening_words form place words >>= λ opening. done (head_made side alternative opening)

-- what is expected behind the alternative
abbrev expected_behind : List (List ℕ) → List Expected
expected_behind words = one_of (map said_word said_forms) ∷ expected_opening (name_of said_word said_forms (word_at words 0)) (drop 1 words)

abbrev behind_read : ℕ → Side → ℕ → List (List ℕ) → Result Head ProofFault
behind_read place side alternative words = name_at said_word said_forms place words >>= λ form. opening_then place side alternative form.0 form.1

opening_then_ends : (t : DecisionTable) (place : ℕ) (side : Side) (alternative : ℕ) (form : SaidForm) (words : List (List ℕ)) → Ends t place (opening_then place side alternative form words) (expected_opening (Some form) words) words
opening_then_ends t place side alternative form words =
    made_ends t place (opening_words form place words) (λ (x : Opening). head_made side alternative x) (expected_opening (Some form) words) words (opening_ends t place form words)

behind_ends_by : (t : DecisionTable) (place : ℕ) (side : Side) (alternative : ℕ) (word : List ℕ) (words : List (List ℕ)) (form : Option SaidForm) → name_of said_word said_forms word ≡ form
    → Ends t place (behind_read place side alternative (word ∷ words)) (one_of (map said_word said_forms) ∷ expected_opening form words) (word ∷ words)
behind_ends_by t place side alternative word words None e = unknown_ends t place said_word said_forms (opening_then place side alternative) word words e
behind_ends_by t place side alternative word words (Some form) e =
    named_ends t place said_word said_forms (opening_then place side alternative) word words form (expected_opening (Some form) words) e (opening_then_ends t place side alternative form words)

behind_ends : (t : DecisionTable) (place : ℕ) (side : Side) (alternative : ℕ) (words : List (List ℕ)) → Ends t place (behind_read place side alternative words) (expected_behind words) words
behind_ends t place side alternative [] = nothing_ends t place said_word said_forms (opening_then place side alternative)
behind_ends t place side alternative (word ∷ words) = behind_ends_by t place side alternative word words (name_of said_word said_forms word) refl

-- the third word of a line is the first behind two
third : (words : List (List ℕ)) → expected_behind (drop 1 (drop 1 words)) ≡ one_of (map said_word said_forms) ∷ expected_opening (name_of said_word said_forms (word_at words 2)) (drop 3 words)
third [] = refl
third (a ∷ []) = refl
third (a ∷ b ∷ words) = refl

abbrev after_side : DecisionTable → ℕ → Side × List (List ℕ) → Result Head ProofFault
after_side t place side = alternative_at t place side.1 >>= λ alternative. behind_read place side.0 alternative.0 alternative.1

pub extreme_ends : (t : DecisionTable) (place : ℕ) (words : List (List ℕ)) → Ends t place (extreme_words t place words) (expected_extreme words) words
unfolding extreme_words
extreme_ends t place words =
    let rest = one_of (map said_word said_forms) ∷ expected_opening (name_of said_word said_forms (word_at words 2)) (drop 3 words) in
    then_ends t place (name_at side_word side_list place words) (after_side t place) (one_of (map side_word side_list) ∷ []) (an_id ∷ rest) words (name_steps t place side_word side_list words)
    (λ side e. then_ends t place (alternative_at t place side.1) (λ alternative. behind_read place side.0 alternative.0 alternative.1) (an_id ∷ []) rest side.1 (alternative_steps t place side.1)
    (λ alternative d.
    let left : alternative.1 ≡ drop 1 (drop 1 words) = (alternative_steps t place side.1).left alternative d ∙ ap (λ (ws : List (List ℕ)). drop 1 ws) ((name_steps t place side_word side_list words).left side e) in
    let same : expected_behind alternative.1 ≡ rest = ap expected_behind left ∙ third words in
    subst (λ (more : List Expected). Ends t place (behind_read place side.0 alternative.0 alternative.1) more alternative.1) same (behind_ends t place side.0 alternative.0 alternative.1)))

-- ---- nodes

named_node_ends : (t : DecisionTable) (place : ℕ) (name : NodeName) (words : List (List ℕ)) → Ends t place (named_node name place words) (expected_of_node (Some name) words) words
named_node_ends t place named.Leaf words =
    made_ends t place (places_at place words) (λ (places : List ℕ). Leaf places) (each_and_end a_small_number words) words (each_ends t place (number_in small_number_of place) a_small_number words (small_number_says t place))
named_node_ends t place named.Branch words =
    then_ends t place (small_number_at place words) (λ number. no_more place number.1 >>= λ _. done (Branch number.0)) (a_small_number ∷ []) (the_end ∷ []) words (small_number_steps t place words)
    (λ number e. end_ends t place (Branch number.0) number.1)

abbrev node_then : ℕ → NodeName → List (List ℕ) → Result Node ProofFault
node_then place name words = named_node name place words

abbrev node_read : ℕ → List (List ℕ) → Result Node ProofFault
node_read place words = name_at node_word node_names place words >>= λ name. node_then place name.0 name.1

node_ends_by : (t : DecisionTable) (place : ℕ) (word : List ℕ) (words : List (List ℕ)) (name : Option NodeName) → name_of node_word node_names word ≡ name
    → Ends t place (node_read place (word ∷ words)) (one_of (map node_word node_names) ∷ expected_of_node name words) (word ∷ words)
node_ends_by t place word words None e = unknown_ends t place node_word node_names (node_then place) word words e
node_ends_by t place word words (Some name) e = named_ends t place node_word node_names (node_then place) word words name (expected_of_node (Some name) words) e (named_node_ends t place name words)

node_read_ends : (t : DecisionTable) (place : ℕ) (words : List (List ℕ)) → Ends t place (node_read place words) (expected_node words) words
node_read_ends t place [] = nothing_ends t place node_word node_names (node_then place)
node_read_ends t place (word ∷ words) = node_ends_by t place word words (name_of node_word node_names word) refl

pub node_ends : (t : DecisionTable) (place : ℕ) (words : List (List ℕ)) → Ends t place (node_words place words) (expected_node words) words
unfolding node_words
node_ends t place words = node_read_ends t place words

-- ---- the first line of a body

pub ranks_ends : (t : DecisionTable) (place : ℕ) (words : List (List ℕ)) → Ends t place (ranks_words place words) (the_word (codes "ranks") ∷ a_small_number ∷ the_end ∷ []) words
unfolding ranks_words
ranks_ends t place words =
    labelled_ends t place (codes "ranks") (λ count. no_more place count.1 >>= λ _. done count.0) (the_end ∷ []) words (λ count. end_ends t place count.0 count.1)

pub contradiction_ends : (t : DecisionTable) (place : ℕ) (words : List (List ℕ)) → Ends t place (contradiction_words place words) (the_word (codes "contradiction") ∷ expected_refutation (drop 1 words)) words
unfolding contradiction_words
contradiction_ends t place words =
    behind t place (codes "contradiction") (λ more. refutation_at place more >>= λ m. done (bodies.Contradiction m)) expected_refutation words
    (λ more. made_ends t place (refutation_at place more) (λ (m : Multipliers). bodies.Contradiction m) (expected_refutation more) more (refutation_ends t place more))

abbrev base_expected : List (List ℕ) → List Expected
base_expected words = the_word (codes "base") ∷ expected_note (drop 1 words)

abbrev base_noted : ℕ → List (List ℕ) → Result EntryBody ProofFault
base_noted place words = note_words place words >>= λ note. done (bodies.BaseWide note)

base_ends : (t : DecisionTable) (place : ℕ) (words : List (List ℕ)) → Ends t place (after_word place (codes "base") words >>= base_noted place) (base_expected words) words
base_ends t place words =
    behind t place (codes "base") (base_noted place) expected_note words
    (λ more. made_ends t place (note_words place more) (λ (note : WideNote). bodies.BaseWide note) (expected_note more) more (note_end t place more))

pub wide_ends : (t : DecisionTable) (place : ℕ) (words : List (List ℕ)) → Ends t place (wide_words place words) (the_word (codes "wide") ∷ base_expected (drop 1 words)) words
unfolding wide_words
wide_ends t place words = behind t place (codes "wide") (λ more. after_word place (codes "base") more >>= base_noted place) base_expected words (base_ends t place)
