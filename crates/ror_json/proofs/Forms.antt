-- The form of each piece of a report, both ways: what has a form is read of it, and what is read has that form.
use Rattle.std.proofs.Common.{◌≡◌, ℕ, ◌<◌, ◌^◌, eqb, List, [], ◌∷◌, map, Some, Ok, refl, sym, ap, subst, ◌∙◌, ℤ}
use Rattle.std.specs.Prelude.{codes, not}
use Rattle.std.specs.List.{AllByRecursion}
use Rattle.std.proofs.lemmas.Bool.{not-false, eqb-true}
use Rattle.serde_json.specs.Data.{Data, string, array, object, Items, Members, no_members, member}
use Rattle.serde_json.specs.Find.{as_array, as_object}
use Rattle.serde_json.specs.View.{items_of}
use Rattle.ror_text.specs.Reading.{◌>>=◌, refuse}
use Rattle.ror_text.proofs.ReadingLemmas.{bind_ok, refuse_ok}
use Rattle.ror_system.specs.declared.accept.Multipliers.{Multipliers}
use Rattle.ror_system.specs.System.{IsNarrow}
use Rattle.ror_proof.specs.declared.answer.Certificate.{Certificate}
use Rattle.ror_proof.specs.declared.answer.Certificate.TheVariants as certificates
use Rattle.ror_proof.specs.declared.answer.Part.{Part}
use Rattle.ror_proof.specs.declared.answer.Pivot.{Pivot}
use Rattle.ror_proof.specs.declared.answer.PlaceText.{PlaceText}
use Rattle.ror_proof.specs.declared.answer.PlaceText.TheVariants as places
use Rattle.ror_proof.specs.declared.answer.WideText.{WideText}
use Rattle.ror_proof.specs.declared.kept.Dropped.{Dropped}
use Rattle.ror_proof.specs.declared.kept.Kept.{Kept}
use Rattle.ror_proof.specs.declared.names.PlaceName.{PlaceName}
use Rattle.ror_proof.specs.declared.names.PlaceName.TheVariants as named
use Rattle.ror_proof.specs.Names.{name_of, place_name, place_names, place_word}
use Rattle.ror_proof.specs.Text.{place_numbers, AreNarrow, IsNarrowCertificate, IsPrintableDropped, IsPrintableNote, IsPrintablePart, IsPrintablePivot}
use Rattle.ror_json.specs.declared.fault.Misfit.TheVariants as misfits
use Rattle.ror_json.specs.declared.keys.CertificateKey.{CertificateKey}
use Rattle.ror_json.specs.declared.keys.CertificateKey.TheVariants as certificate_keys
use Rattle.ror_json.specs.Names.{certificate_key_list, certificate_word}
use Rattle.ror_json.specs.Form.{count_form, number_form, list_form, multipliers_form, certificate_members, certificate_form, part_form, pivot_form, place_form, wide_form, dropped_form, kept_form, repair_wide_form, IsFormedKept}
use Rattle.ror_json.specs.Reading.{shape, member_at, named_member, no_member, list_of, count_of, name_in, number_in, item_at, no_item, multipliers_of, certificate_named, certificate_in, certificate_of, part_of, pivot_of, entry_in, single_in, numbered_place, place_of, wide_of, dropped_of, kept_of, repair_wide_of}
use Rattle.ror_json.proofs.Pieces.{IsRead, made, made_is, object_is, array_is, member_is, named_is, no_member_is, item_is, no_item_is, with_value, with_item, counts, name_again, name_is, numbers, lists}

-- ---- certificates

abbrev many : IsRead (list_of number_in) (list_form number_form) (AllByRecursion IsNarrow)
many = lists number_in number_form IsNarrow numbers

pub multipliers : IsRead multipliers_of multipliers_form AreNarrow
unfolding multipliers_of
multipliers = record { again = again; sound = sound }
  where
    the_multipliers : List ℤ → List ℤ → Multipliers
    the_multipliers weak strict = record { weak = weak; strict = strict }

    again : (m : Multipliers) → AreNarrow m → multipliers_of (multipliers_form m) ≡ Ok m
    again m narrow = rw (many.again m.strict narrow.1, many.again m.weak narrow.0) refl

    sound : (d : Data) (m : Multipliers) → multipliers_of d ≡ Ok m → (d ≡ multipliers_form m) × AreNarrow m
    sound d m e =
        let ms = bind_ok (shape (as_object d)) (λ ms. member_at (codes "strict") ms >>= λ s. member_at (codes "weak") s.1 >>= λ w. no_member w.1 >>= λ no. list_of number_in s.0 >>= λ strict. list_of number_in w.0 >>= λ weak. made (the_multipliers weak strict)) m e in
        let s = bind_ok (member_at (codes "strict") ms.0) (λ s. member_at (codes "weak") s.1 >>= λ w. no_member w.1 >>= λ no. list_of number_in s.0 >>= λ strict. list_of number_in w.0 >>= λ weak. made (the_multipliers weak strict)) m ms.2 in
        let w = bind_ok (member_at (codes "weak") s.0.1) (λ w. no_member w.1 >>= λ no. list_of number_in s.0.0 >>= λ strict. list_of number_in w.0 >>= λ weak. made (the_multipliers weak strict)) m s.2 in
        let no = bind_ok (no_member w.0.1) (λ no. list_of number_in s.0.0 >>= λ strict. list_of number_in w.0.0 >>= λ weak. made (the_multipliers weak strict)) m w.2 in
        let strict = bind_ok (list_of number_in s.0.0) (λ strict. list_of number_in w.0.0 >>= λ weak. made (the_multipliers weak strict)) m no.2 in
        let weak = bind_ok (list_of number_in w.0.0) (λ weak. made (the_multipliers weak strict.0)) m strict.2 in
        let first = many.sound s.0.0 strict.0 strict.1 in
        let second = many.sound w.0.0 weak.0 weak.1 in
        let form : d ≡ multipliers_form (the_multipliers weak.0 strict.0) = object_is d ms.0 ms.1 ∙ ap object (with_value (member_is (codes "strict") ms.0 s.0 s.1) (first.0) (with_value (member_is (codes "weak") s.0.1 w.0 w.1) (second.0) (no_member_is w.0.1 no.0 no.1))) in
        subst (λ (y : Multipliers). (d ≡ multipliers_form y) × AreNarrow y) (made_is (the_multipliers weak.0 strict.0) m weak.2) (form, (second.1, first.1))

-- the member of a certificate under its key
abbrev IsCertificateAt : CertificateKey → Data → Certificate → Type 0
IsCertificateAt key d c = (member (certificate_word key) d no_members ≡ certificate_members c) × IsNarrowCertificate c

abbrev the_solution : List ℤ → Certificate
the_solution steps = certificates.Solution (record { steps = steps })

certificate_at_key : (key : CertificateKey) (d : Data) (c : Certificate) → certificate_named key d ≡ Ok c → IsCertificateAt key d c
certificate_at_key certificate_keys.Solution d c e =
    let steps = bind_ok (list_of number_in d) (λ steps. made (the_solution steps)) c e in
    let is = many.sound d steps.0 steps.1 in
    subst (IsCertificateAt certificate_keys.Solution d) (made_is (the_solution steps.0) c steps.2) (ap (λ x. member (codes "solution") x no_members) is.0, is.1)
certificate_at_key certificate_keys.Multipliers d c e =
    let m = bind_ok (multipliers_of d) (λ m. made (certificates.Multipliers m)) c e in
    let is = multipliers.sound d m.0 m.1 in
    subst (IsCertificateAt certificate_keys.Multipliers d) (made_is (certificates.Multipliers m.0) c m.2) (ap (λ x. member (codes "multipliers") x no_members) is.0, is.1)

pub certificate_inside : IsRead certificate_in certificate_members IsNarrowCertificate
unfolding certificate_in
certificate_inside = record { again = again; sound = sound }
  where
    again : (c : Certificate) → IsNarrowCertificate c → certificate_in (certificate_members c) ≡ Ok c
    again (certificates.Solution x) narrow = rw (many.again x.steps narrow) refl
    again (certificates.Multipliers m) narrow = rw (multipliers.again m narrow) refl

    sound : (ms : Members) (c : Certificate) → certificate_in ms ≡ Ok c → (ms ≡ certificate_members c) × IsNarrowCertificate c
    sound ms c e =
        let first = bind_ok (named_member certificate_word certificate_key_list ms) (λ first. no_member first.1.1 >>= λ no. certificate_named first.0 first.1.0) c e in
        let no = bind_ok (no_member first.0.1.1) (λ no. certificate_named first.0.0 first.0.1.0) c first.2 in
        let is = certificate_at_key first.0.0 first.0.1.0 c no.2 in
        let only = no_member_is first.0.1.1 no.0 no.1 in
        let form : ms ≡ certificate_members c = (named_is certificate_word certificate_key_list ms first.0 first.1).0 ∙ ap (member (certificate_word first.0.0) first.0.1.0) only ∙ is.0 in
        (form, is.1)

pub certificate : IsRead certificate_of certificate_form IsNarrowCertificate
unfolding certificate_of
certificate = record { again = again; sound = sound }
  where
    again : (c : Certificate) → IsNarrowCertificate c → certificate_of (certificate_form c) ≡ Ok c
    again c narrow = certificate_inside.again c narrow

    sound : (d : Data) (c : Certificate) → certificate_of d ≡ Ok c → (d ≡ certificate_form c) × IsNarrowCertificate c
    sound d c e =
        let ms = bind_ok (shape (as_object d)) (λ ms. certificate_in ms) c e in
        let is = certificate_inside.sound ms.0 c ms.2 in
        (object_is d ms.0 ms.1 ∙ ap object is.0, is.1)

pub part : IsRead part_of part_form IsPrintablePart
unfolding part_of
part = record { again = again; sound = sound }
  where
    the_part : ℕ → Certificate → Part
    the_part at body = record { at = at; body = body }

    again : (p : Part) → IsPrintablePart p → part_of (part_form p) ≡ Ok p
    again p printable = rw (counts.again p.at printable.number, certificate_inside.again p.body printable.narrow) refl

    sound : (d : Data) (p : Part) → part_of d ≡ Ok p → (d ≡ part_form p) × IsPrintablePart p
    sound d p e =
        let ms = bind_ok (shape (as_object d)) (λ ms. member_at (codes "at") ms >>= λ at. count_of at.0 >>= λ amount. certificate_in at.1 >>= λ body. made (the_part amount body)) p e in
        let at = bind_ok (member_at (codes "at") ms.0) (λ at. count_of at.0 >>= λ amount. certificate_in at.1 >>= λ body. made (the_part amount body)) p ms.2 in
        let amount = bind_ok (count_of at.0.0) (λ amount. certificate_in at.0.1 >>= λ body. made (the_part amount body)) p at.2 in
        let body = bind_ok (certificate_in at.0.1) (λ body. made (the_part amount.0 body)) p amount.2 in
        let count = counts.sound at.0.0 amount.0 amount.1 in
        let is = certificate_inside.sound at.0.1 body.0 body.1 in
        let form : d ≡ part_form (the_part amount.0 body.0) = object_is d ms.0 ms.1 ∙ ap object (with_value (member_is (codes "at") ms.0 at.0 at.1) (count.0) (is.0)) in
        subst (λ (y : Part). (d ≡ part_form y) × IsPrintablePart y) (made_is (the_part amount.0 body.0) p body.2) (form, record { number = count.1; narrow = is.1 })

abbrev pub some_parts : IsRead (list_of part_of) (list_form part_form) (AllByRecursion IsPrintablePart)
some_parts = lists part_of part_form IsPrintablePart part

-- ---- numbers too wide

pub pivot : IsRead pivot_of pivot_form IsPrintablePivot
unfolding pivot_of
pivot = record { again = again; sound = sound }
  where
    the_pivot : ℕ → ℕ → Pivot
    the_pivot column row = record { column = column; row = row }

    again : (p : Pivot) → IsPrintablePivot p → pivot_of (pivot_form p) ≡ Ok p
    again p printable = rw (counts.again p.column printable.column, counts.again p.row printable.row) refl

    sound : (d : Data) (p : Pivot) → pivot_of d ≡ Ok p → (d ≡ pivot_form p) × IsPrintablePivot p
    sound d p e =
        let ds = bind_ok (shape (as_array d)) (λ ds. item_at ds >>= λ one. count_of one.0 >>= λ column. item_at one.1 >>= λ two. count_of two.0 >>= λ row. no_item two.1 >>= λ no. made (the_pivot column row)) p e in
        let one = bind_ok (item_at ds.0) (λ one. count_of one.0 >>= λ column. item_at one.1 >>= λ two. count_of two.0 >>= λ row. no_item two.1 >>= λ no. made (the_pivot column row)) p ds.2 in
        let column = bind_ok (count_of one.0.0) (λ column. item_at one.0.1 >>= λ two. count_of two.0 >>= λ row. no_item two.1 >>= λ no. made (the_pivot column row)) p one.2 in
        let two = bind_ok (item_at one.0.1) (λ two. count_of two.0 >>= λ row. no_item two.1 >>= λ no. made (the_pivot column.0 row)) p column.2 in
        let row = bind_ok (count_of two.0.0) (λ row. no_item two.0.1 >>= λ no. made (the_pivot column.0 row)) p two.2 in
        let no = bind_ok (no_item two.0.1) (λ no. made (the_pivot column.0 row.0)) p row.2 in
        let first = counts.sound one.0.0 column.0 column.1 in
        let second = counts.sound two.0.0 row.0 row.1 in
        let form : d ≡ pivot_form (the_pivot column.0 row.0) = array_is d ds.0 ds.1 ∙ ap array (with_item (item_is ds.0 one.0 one.1) (first.0) (with_item (item_is one.0.1 two.0 two.1) (second.0) (no_item_is two.0.1 no.0 no.1))) in
        subst (λ (y : Pivot). (d ≡ pivot_form y) × IsPrintablePivot y) (made_is (the_pivot column.0 row.0) p no.2) (form, record { column = first.1; row = second.1 })

entry_is : (ds : Items) (x : ℕ × ℕ) → entry_in ds ≡ Ok x → (ds ≡ items_of (map count_form (x.0 ∷ x.1 ∷ []))) × ((x.0 < 2 ^ 32) × (x.1 < 2 ^ 32))
unfolding entry_in
entry_is ds x e =
    let one = bind_ok (item_at ds) (λ one. count_of one.0 >>= λ row. item_at one.1 >>= λ two. count_of two.0 >>= λ column. no_item two.1 >>= λ no. made (row, column)) x e in
    let row = bind_ok (count_of one.0.0) (λ row. item_at one.0.1 >>= λ two. count_of two.0 >>= λ column. no_item two.1 >>= λ no. made (row, column)) x one.2 in
    let two = bind_ok (item_at one.0.1) (λ two. count_of two.0 >>= λ column. no_item two.1 >>= λ no. made (row.0, column)) x row.2 in
    let column = bind_ok (count_of two.0.0) (λ column. no_item two.0.1 >>= λ no. made (row.0, column)) x two.2 in
    let no = bind_ok (no_item two.0.1) (λ no. made (row.0, column.0)) x column.2 in
    let first = counts.sound one.0.0 row.0 row.1 in
    let second = counts.sound two.0.0 column.0 column.1 in
    let form : ds ≡ items_of (map count_form (row.0 ∷ column.0 ∷ [])) = with_item (item_is ds one.0 one.1) (first.0) (with_item (item_is one.0.1 two.0 two.1) (second.0) (no_item_is two.0.1 no.0 no.1)) in
    subst (λ (y : ℕ × ℕ). (ds ≡ items_of (map count_form (y.0 ∷ y.1 ∷ []))) × ((y.0 < 2 ^ 32) × (y.1 < 2 ^ 32))) (made_is (row.0, column.0) x no.2) (form, (first.1, second.1))

single_is : (ds : Items) (n : ℕ) → single_in ds ≡ Ok n → (ds ≡ items_of (map count_form (n ∷ []))) × (n < 2 ^ 32)
unfolding single_in
single_is ds n e =
    let one = bind_ok (item_at ds) (λ one. count_of one.0 >>= λ count. no_item one.1 >>= λ no. made count) n e in
    let count = bind_ok (count_of one.0.0) (λ count. no_item one.0.1 >>= λ no. made count) n one.2 in
    let no = bind_ok (no_item one.0.1) (λ no. made count.0) n count.2 in
    let first = counts.sound one.0.0 count.0 count.1 in
    let form : ds ≡ items_of (map count_form (count.0 ∷ [])) = with_item (item_is ds one.0 one.1) (first.0) (no_item_is one.0.1 no.0 no.1) in
    subst (λ (m : ℕ). (ds ≡ items_of (map count_form (m ∷ []))) × (m < 2 ^ 32)) (made_is count.0 n no.2) (form, first.1)

abbrev IsSmallPlace : PlaceText → Type 0
IsSmallPlace p = AllByRecursion (λ n. n < 2 ^ 32) (place_numbers p)

-- the place of this name, of whose numbers these are the forms
abbrev IsPlaceAt : PlaceName → Items → PlaceText → Type 0
IsPlaceAt name ds p = (place_name p ≡ name) × (ds ≡ items_of (map count_form (place_numbers p))) × IsSmallPlace p

numbers_at_name : (name : PlaceName) (ds : Items) (p : PlaceText) → numbered_place name ds ≡ Ok p → IsPlaceAt name ds p
numbers_at_name named.Start ds p e =
    let x = bind_ok (entry_in ds) (λ x. made (places.Start x.0 x.1)) p e in
    let is = entry_is ds x.0 x.1 in
    subst (IsPlaceAt named.Start ds) (made_is (places.Start x.0.0 x.0.1) p x.2) (refl, is.0, (is.1.0, (is.1.1, tt)))
numbers_at_name named.Step ds p e =
    let x = bind_ok (entry_in ds) (λ x. made (places.Step x.0 x.1)) p e in
    let is = entry_is ds x.0 x.1 in
    subst (IsPlaceAt named.Step ds) (made_is (places.Step x.0.0 x.0.1) p x.2) (refl, is.0, (is.1.0, (is.1.1, tt)))
numbers_at_name named.Denominator ds p e =
    let n = bind_ok (single_in ds) (λ n. made (places.Denominator n)) p e in
    let is = single_is ds n.0 n.1 in
    subst (IsPlaceAt named.Denominator ds) (made_is (places.Denominator n.0) p n.2) (refl, is.0, (is.1, tt))
numbers_at_name named.RowSum ds p e =
    let n = bind_ok (single_in ds) (λ n. made (places.RowSum n)) p e in
    let is = single_is ds n.0 n.1 in
    subst (IsPlaceAt named.RowSum ds) (made_is (places.RowSum n.0) p n.2) (refl, is.0, (is.1, tt))
numbers_at_name named.ColumnSum ds p e =
    let n = bind_ok (single_in ds) (λ n. made (places.ColumnSum n)) p e in
    let is = single_is ds n.0 n.1 in
    subst (IsPlaceAt named.ColumnSum ds) (made_is (places.ColumnSum n.0) p n.2) (refl, is.0, (is.1, tt))

entry_again : (x : ℕ × ℕ) → x.0 < 2 ^ 32 → x.1 < 2 ^ 32 → entry_in (items_of (map count_form (x.0 ∷ x.1 ∷ []))) ≡ Ok x
unfolding entry_in
entry_again x row column = rw (counts.again x.0 row, counts.again x.1 column) refl

single_again : (n : ℕ) → n < 2 ^ 32 → single_in (items_of (map count_form (n ∷ []))) ≡ Ok n
unfolding single_in
single_again n below = rw (counts.again n below) refl

place_named : (p : PlaceText) → name_of place_word place_names (place_word (place_name p)) ≡ Some (place_name p)
place_named (places.Start row column) = refl
place_named (places.Step row column) = refl
place_named (places.Denominator row) = refl
place_named (places.RowSum row) = refl
place_named (places.ColumnSum column) = refl

numbers_again : (p : PlaceText) → IsSmallPlace p → numbered_place (place_name p) (items_of (map count_form (place_numbers p))) ≡ Ok p
numbers_again (places.Start row column) h = rw (entry_again (row, column) h.0 h.1.0) refl
numbers_again (places.Step row column) h = rw (entry_again (row, column) h.0 h.1.0) refl
numbers_again (places.Denominator row) h = rw (single_again row h.0) refl
numbers_again (places.RowSum row) h = rw (single_again row h.0) refl
numbers_again (places.ColumnSum column) h = rw (single_again column h.0) refl

pub place : IsRead place_of place_form IsSmallPlace
unfolding place_of
place = record { again = again; sound = sound }
  where
    again : (p : PlaceText) → IsSmallPlace p → place_of (place_form p) ≡ Ok p
    again p h = rw (name_again place_word place_names (place_name p) (place_named p)) (numbers_again p h)

    sound : (d : Data) (p : PlaceText) → place_of d ≡ Ok p → (d ≡ place_form p) × IsSmallPlace p
    sound d p e =
        let ds = bind_ok (shape (as_array d)) (λ ds. item_at ds >>= λ one. name_in place_word place_names one.0 >>= λ name. numbered_place name one.1) p e in
        let one = bind_ok (item_at ds.0) (λ one. name_in place_word place_names one.0 >>= λ name. numbered_place name one.1) p ds.2 in
        let name = bind_ok (name_in place_word place_names one.0.0) (λ name. numbered_place name one.0.1) p one.2 in
        let is = numbers_at_name name.0 one.0.1 p name.2 in
        let word : one.0.0 ≡ string (place_word (place_name p)) = name_is place_word place_names one.0.0 name.0 name.1 ∙ ap (λ n. string (place_word n)) (sym is.0) in
        (array_is d ds.0 ds.1 ∙ ap array (with_item (item_is ds.0 one.0 one.1) (word) (is.1)), is.2)

abbrev some_pivots : IsRead (list_of pivot_of) (list_form pivot_form) (AllByRecursion IsPrintablePivot)
some_pivots = lists pivot_of pivot_form IsPrintablePivot pivot

abbrev note_form : ℕ × WideText → Data
note_form x = wide_form x.0 x.1

abbrev IsSmallNote : ℕ × WideText → Type 0
IsSmallNote x = IsPrintableNote x.0 x.1

pub wide : IsRead wide_of note_form IsSmallNote
unfolding wide_of
wide = record { again = again; sound = sound }
  where
    the_note : ℕ → List Pivot → PlaceText → ℕ × WideText
    the_note system path place = (system, record { path = path; place = place })

    again : (x : ℕ × WideText) → IsSmallNote x → wide_of (note_form x) ≡ Ok x
    again x h = rw (place.again x.1.place h.place, counts.again x.0 h.number, some_pivots.again x.1.path h.path) refl

    sound : (d : Data) (x : ℕ × WideText) → wide_of d ≡ Ok x → (d ≡ note_form x) × IsSmallNote x
    sound d x e =
        let ms = bind_ok (shape (as_object d)) (λ ms. member_at (codes "path") ms >>= λ path. member_at (codes "place") path.1 >>= λ at. place_of at.0 >>= λ amount. member_at (codes "system") at.1 >>= λ system. count_of system.0 >>= λ count. no_member system.1 >>= λ no. list_of pivot_of path.0 >>= λ pivots. made (the_note count pivots amount)) x e in
        let path = bind_ok (member_at (codes "path") ms.0) (λ path. member_at (codes "place") path.1 >>= λ at. place_of at.0 >>= λ amount. member_at (codes "system") at.1 >>= λ system. count_of system.0 >>= λ count. no_member system.1 >>= λ no. list_of pivot_of path.0 >>= λ pivots. made (the_note count pivots amount)) x ms.2 in
        let at = bind_ok (member_at (codes "place") path.0.1) (λ at. place_of at.0 >>= λ amount. member_at (codes "system") at.1 >>= λ system. count_of system.0 >>= λ count. no_member system.1 >>= λ no. list_of pivot_of path.0.0 >>= λ pivots. made (the_note count pivots amount)) x path.2 in
        let amount = bind_ok (place_of at.0.0) (λ amount. member_at (codes "system") at.0.1 >>= λ system. count_of system.0 >>= λ count. no_member system.1 >>= λ no. list_of pivot_of path.0.0 >>= λ pivots. made (the_note count pivots amount)) x at.2 in
        let system = bind_ok (member_at (codes "system") at.0.1) (λ system. count_of system.0 >>= λ count. no_member system.1 >>= λ no. list_of pivot_of path.0.0 >>= λ pivots. made (the_note count pivots amount.0)) x amount.2 in
        let count = bind_ok (count_of system.0.0) (λ count. no_member system.0.1 >>= λ no. list_of pivot_of path.0.0 >>= λ pivots. made (the_note count pivots amount.0)) x system.2 in
        let no = bind_ok (no_member system.0.1) (λ no. list_of pivot_of path.0.0 >>= λ pivots. made (the_note count.0 pivots amount.0)) x count.2 in
        let pivots = bind_ok (list_of pivot_of path.0.0) (λ pivots. made (the_note count.0 pivots amount.0)) x no.2 in
        let first = some_pivots.sound path.0.0 pivots.0 pivots.1 in
        let second = place.sound at.0.0 amount.0 amount.1 in
        let third = counts.sound system.0.0 count.0 count.1 in
        let note = the_note count.0 pivots.0 amount.0 in
        let form : d ≡ note_form note = object_is d ms.0 ms.1 ∙ ap object (with_value (member_is (codes "path") ms.0 path.0 path.1) (first.0) (with_value (member_is (codes "place") path.0.1 at.0 at.1) (second.0) (with_value (member_is (codes "system") at.0.1 system.0 system.1) (third.0) (no_member_is system.0.1 no.0 no.1)))) in
        subst (λ (y : ℕ × WideText). (d ≡ note_form y) × IsSmallNote y) (made_is note x pivots.2) (form, record { number = third.1; place = second.1; path = first.1 })

-- ---- repairs

pub dropped : IsRead dropped_of dropped_form IsPrintableDropped
unfolding dropped_of
dropped = record { again = again; sound = sound }
  where
    the_dropped : ℕ → Multipliers → Dropped
    the_dropped n m = record { number = n; proof = m }

    again : (x : Dropped) → IsPrintableDropped x → dropped_of (dropped_form x) ≡ Ok x
    again x h = rw (counts.again x.number h.number, multipliers.again x.proof h.narrow) refl

    sound : (d : Data) (x : Dropped) → dropped_of d ≡ Ok x → (d ≡ dropped_form x) × IsPrintableDropped x
    sound d x e =
        let ms = bind_ok (shape (as_object d)) (λ ms. member_at (codes "multipliers") ms >>= λ proof. member_at (codes "number") proof.1 >>= λ at. count_of at.0 >>= λ count. no_member at.1 >>= λ no. multipliers_of proof.0 >>= λ m. made (the_dropped count m)) x e in
        let proof = bind_ok (member_at (codes "multipliers") ms.0) (λ proof. member_at (codes "number") proof.1 >>= λ at. count_of at.0 >>= λ count. no_member at.1 >>= λ no. multipliers_of proof.0 >>= λ m. made (the_dropped count m)) x ms.2 in
        let at = bind_ok (member_at (codes "number") proof.0.1) (λ at. count_of at.0 >>= λ count. no_member at.1 >>= λ no. multipliers_of proof.0.0 >>= λ m. made (the_dropped count m)) x proof.2 in
        let count = bind_ok (count_of at.0.0) (λ count. no_member at.0.1 >>= λ no. multipliers_of proof.0.0 >>= λ m. made (the_dropped count m)) x at.2 in
        let no = bind_ok (no_member at.0.1) (λ no. multipliers_of proof.0.0 >>= λ m. made (the_dropped count.0 m)) x count.2 in
        let m = bind_ok (multipliers_of proof.0.0) (λ m. made (the_dropped count.0 m)) x no.2 in
        let first = multipliers.sound proof.0.0 m.0 m.1 in
        let second = counts.sound at.0.0 count.0 count.1 in
        let form : d ≡ dropped_form (the_dropped count.0 m.0) = object_is d ms.0 ms.1 ∙ ap object (with_value (member_is (codes "multipliers") ms.0 proof.0 proof.1) (first.0) (with_value (member_is (codes "number") proof.0.1 at.0 at.1) (second.0) (no_member_is at.0.1 no.0 no.1))) in
        subst (λ (y : Dropped). (d ≡ dropped_form y) × IsPrintableDropped y) (made_is (the_dropped count.0 m.0) x m.2) (form, record { number = second.1; narrow = first.1 })

abbrev some_dropped : IsRead (list_of dropped_of) (list_form dropped_form) (AllByRecursion IsPrintableDropped)
some_dropped = lists dropped_of dropped_form IsPrintableDropped dropped

pub kept : IsRead kept_of kept_form IsFormedKept
unfolding kept_of
kept = record { again = again; sound = sound }
  where
    the_kept : List Dropped → Certificate → Kept
    the_kept xs c = record { dropped = xs; base = c }

    again : (x : Kept) → IsFormedKept x → kept_of (kept_form x) ≡ Ok x
    again x h = rw (some_dropped.again x.dropped h.dropped, certificate.again x.base h.base) refl

    sound : (d : Data) (x : Kept) → kept_of d ≡ Ok x → (d ≡ kept_form x) × IsFormedKept x
    sound d x e =
        let ms = bind_ok (shape (as_object d)) (λ ms. member_at (codes "base") ms >>= λ base. member_at (codes "dropped") base.1 >>= λ at. no_member at.1 >>= λ no. list_of dropped_of at.0 >>= λ xs. certificate_of base.0 >>= λ c. made (the_kept xs c)) x e in
        let base = bind_ok (member_at (codes "base") ms.0) (λ base. member_at (codes "dropped") base.1 >>= λ at. no_member at.1 >>= λ no. list_of dropped_of at.0 >>= λ xs. certificate_of base.0 >>= λ c. made (the_kept xs c)) x ms.2 in
        let at = bind_ok (member_at (codes "dropped") base.0.1) (λ at. no_member at.1 >>= λ no. list_of dropped_of at.0 >>= λ xs. certificate_of base.0.0 >>= λ c. made (the_kept xs c)) x base.2 in
        let no = bind_ok (no_member at.0.1) (λ no. list_of dropped_of at.0.0 >>= λ xs. certificate_of base.0.0 >>= λ c. made (the_kept xs c)) x at.2 in
        let xs = bind_ok (list_of dropped_of at.0.0) (λ xs. certificate_of base.0.0 >>= λ c. made (the_kept xs c)) x no.2 in
        let c = bind_ok (certificate_of base.0.0) (λ c. made (the_kept xs.0 c)) x xs.2 in
        let first = certificate.sound base.0.0 c.0 c.1 in
        let second = some_dropped.sound at.0.0 xs.0 xs.1 in
        let form : d ≡ kept_form (the_kept xs.0 c.0) = object_is d ms.0 ms.1 ∙ ap object (with_value (member_is (codes "base") ms.0 base.0 base.1) (first.0) (with_value (member_is (codes "dropped") base.0.1 at.0 at.1) (second.0) (no_member_is at.0.1 no.0 no.1))) in
        subst (λ (y : Kept). (d ≡ kept_form y) × IsFormedKept y) (made_is (the_kept xs.0 c.0) x c.2) (form, record { dropped = second.1; base = first.1 })

abbrev unrepaired_form : ℕ × WideText → Data
unrepaired_form x = repair_wide_form x.0 x.1

abbrev IsSmallRepair : ℕ × WideText → Type 0
IsSmallRepair x = (x.0 < 2 ^ 32) × IsPrintableNote 0 x.1

pub repair_wide : IsRead repair_wide_of unrepaired_form IsSmallRepair
unfolding repair_wide_of
repair_wide = record { again = again; sound = sound }
  where
    again : (x : ℕ × WideText) → IsSmallRepair x → repair_wide_of (unrepaired_form x) ≡ Ok x
    again x h = rw (counts.again x.0 h.0, wide.again (0, x.1) h.1) refl

    sound : (d : Data) (x : ℕ × WideText) → repair_wide_of d ≡ Ok x → (d ≡ unrepaired_form x) × IsSmallRepair x
    sound d x e =
        let ms = bind_ok (shape (as_object d)) (λ ms. member_at (codes "number") ms >>= λ at. count_of at.0 >>= λ count. member_at (codes "wide") at.1 >>= λ w. no_member w.1 >>= λ no. wide_of w.0 >>= λ note. refuse misfits.Shape (not (eqb note.0 0)) >>= λ base. made (count, note.1)) x e in
        let at = bind_ok (member_at (codes "number") ms.0) (λ at. count_of at.0 >>= λ count. member_at (codes "wide") at.1 >>= λ w. no_member w.1 >>= λ no. wide_of w.0 >>= λ note. refuse misfits.Shape (not (eqb note.0 0)) >>= λ base. made (count, note.1)) x ms.2 in
        let count = bind_ok (count_of at.0.0) (λ count. member_at (codes "wide") at.0.1 >>= λ w. no_member w.1 >>= λ no. wide_of w.0 >>= λ note. refuse misfits.Shape (not (eqb note.0 0)) >>= λ base. made (count, note.1)) x at.2 in
        let w = bind_ok (member_at (codes "wide") at.0.1) (λ w. no_member w.1 >>= λ no. wide_of w.0 >>= λ note. refuse misfits.Shape (not (eqb note.0 0)) >>= λ base. made (count.0, note.1)) x count.2 in
        let no = bind_ok (no_member w.0.1) (λ no. wide_of w.0.0 >>= λ note. refuse misfits.Shape (not (eqb note.0 0)) >>= λ base. made (count.0, note.1)) x w.2 in
        let note = bind_ok (wide_of w.0.0) (λ note. refuse misfits.Shape (not (eqb note.0 0)) >>= λ base. made (count.0, note.1)) x no.2 in
        let base = bind_ok (refuse misfits.Shape (not (eqb note.0.0 0))) (λ base. made (count.0, note.0.1)) x note.2 in
        let first = counts.sound at.0.0 count.0 count.1 in
        let second = wide.sound w.0.0 note.0 note.1 in
        let none : note.0.0 ≡ 0 = eqb-true note.0.0 0 (not-false _ (refuse_ok misfits.Shape (not (eqb note.0.0 0)) base.0 base.1)) in
        let value : w.0.0 ≡ wide_form 0 note.0.1 = second.0 ∙ ap (λ n. wide_form n note.0.1) none in
        let small : IsPrintableNote 0 note.0.1 = subst (λ n. IsPrintableNote n note.0.1) none second.1 in
        let form : d ≡ unrepaired_form (count.0, note.0.1) = object_is d ms.0 ms.1 ∙ ap object (with_value (member_is (codes "number") ms.0 at.0 at.1) (first.0) (with_value (member_is (codes "wide") at.0.1 w.0 w.1) (value) (no_member_is w.0.1 no.0 no.1))) in
        subst (λ (y : ℕ × WideText). (d ≡ unrepaired_form y) × IsSmallRepair y) (made_is (count.0, note.0.1) x base.2) (form, (first.1, small))
