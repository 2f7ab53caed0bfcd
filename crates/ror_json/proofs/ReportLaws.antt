-- Reports are read exactly of their forms, and the fault of any other value names its first bad block.
use Rattle.std.proofs.Common.{◌≡◌, ℕ, zero, suc, ◌+◌, List, [], ◌∷◌, ◌++◌, length, map, Result, Ok, Err, refl, sym, ap, subst, ◌∙◌, arith, inl, inr}
use Rattle.std.specs.Prelude.{◌↔◌, ◌⊎◌}
use Rattle.std.specs.List.{AllByRecursion}
use Rattle.serde_json.specs.Data.{Data, Items, no_items, item}
use Rattle.serde_json.specs.View.{items_of}
use Rattle.ror_text.specs.Reading.{◌>>=◌}
use Rattle.ror_text.proofs.ReadingLemmas.{bind_ok, bind_err}
use Rattle.ror_table.specs.Table.{DecisionTable, IsTable}
use Rattle.ror_report.specs.declared.block.Block.{Block}
use Rattle.ror_report.specs.declared.block.Body.{Body}
use Rattle.ror_report.specs.declared.block.Body.TheVariants as bodies
use Rattle.ror_report.specs.Text.{IsPrintableBody, IsPrintableBlock}
use Rattle.ror_json.specs.declared.fault.JsonFault.{JsonFault}
use Rattle.ror_json.specs.declared.fault.JsonFault.TheVariants.{BadShape}
use Rattle.ror_json.specs.declared.fault.Misfit.{Misfit}
use Rattle.ror_json.specs.Form.{block_form, report_form, IsFormedBody, IsFormedBlock}
use Rattle.ror_json.specs.Reading.{numbered, items_from, block_of, outer_of, report_of}
use Rattle.ror_json.specs.Shapes.{IsBlockForm, IsReportForm, IsBadShape}
use Rattle.ror_json.proofs.Pieces.{IsRead, items_again, items_sound}
use Rattle.ror_json.proofs.Reports.{block, around, outer_again, outer_is}

-- ---- results

result_cases : {A F : Type 0} (r : Result A F) → ((x : A) × (r ≡ Ok x)) ⊎ ((f : F) × (r ≡ Err f))
result_cases (Ok x) = inl (x, refl)
result_cases (Err f) = inr (f, refl)

numbered_ok : {A : Type 0} (k : ℕ) (r : Result A Misfit) (x : A) → numbered k r ≡ Ok x → r ≡ Ok x
numbered_ok k (Ok y) x e = cc
numbered_ok k (Err f) x e = absurd cc

numbered_err : {A : Type 0} (k : ℕ) (r : Result A Misfit) (fault : JsonFault) → numbered k r ≡ Err fault → ((f : Misfit) × (r ≡ Err f)) × (fault ≡ BadShape k)
numbered_err k (Ok y) fault e = absurd cc
numbered_err k (Err f) fault e = ((f, refl), cc)

-- ---- the first item that is none

record IsFirstBad {A : Type 0} (read : Data → Result A Misfit) (form : A → Data) (P : A → Type 0) (k : ℕ) (ds : Items) (fault : JsonFault) : Type 0 where
  before : List A
  bad : Data
  after : List Data
  items : ds ≡ items_of (map form before ++ bad ∷ after)
  formed : AllByRecursion P before
  fails : (f : Misfit) × (read bad ≡ Err f)
  is : fault ≡ BadShape (k + length before)

all_items : (ds : Items) → (xs : List Data) × (ds ≡ items_of xs)
all_items no_items = ([], refl)
all_items (item d ds) = let rest = all_items ds in (d ∷ rest.0, ap (item d) rest.1)

module _ {A : Type 0} (read : Data → Result A Misfit) (form : A → Data) (P : A → Type 0) (one : IsRead read form P) where
  abbrev in_front : A → List A → Result (List A) JsonFault
  in_front x xs = Ok (x ∷ xs)

  none_in_nothing : (k : ℕ) (fault : JsonFault) → items_from read k no_items ≡ Err fault → ⊥
  unfolding items_from
  none_in_nothing k fault e = cc

  front_fails_not : (x : A) (xs : List A) (fault : JsonFault) → in_front x xs ≡ Err fault → ⊥
  front_fails_not x xs fault e = cc

  first_bad : (k : ℕ) (ds : Items) (fault : JsonFault) → items_from read k ds ≡ Err fault → IsFirstBad read form P k ds fault
  unfolding items_from
  first_bad k no_items fault e = absurd (none_in_nothing k fault e)
  first_bad k (item d ds) fault e =
      let rest = λ (x : A). items_from read (suc k) ds >>= λ xs. in_front x xs in
      elim (bind_err (numbered k (read d)) rest fault e) [
        | inl here ↦
            let bad = numbered_err k (read d) fault here in
            let after = all_items ds in
            let place : k ≡ k + 0 = omega arith in
            record { before = []; bad = d; after = after.0; items = ap (item d) after.1; formed = tt; fails = bad.0; is = bad.1 ∙ ap BadShape place }
        | inr later ↦
            let first = one.sound d later.0 (numbered_ok k (read d) later.0 later.1) in
            elim (bind_err (items_from read (suc k) ds) (in_front later.0) fault later.2) [
              | inl there ↦
                  let found = first_bad (suc k) ds fault there in
                  let place : suc k + length found.before ≡ k + suc (length found.before) = omega arith in
                  record {
                    before = later.0 ∷ found.before;
                    bad = found.bad;
                    after = found.after;
                    items = rw (first.0, found.items) refl;
                    formed = (first.1, found.formed);
                    fails = found.fails;
                    is = found.is ∙ ap BadShape place;
                  }
              | inr never ↦ absurd (front_fails_not later.0 never.0 fault never.2)
            ]
      ]

  bad_after : (k : ℕ) (before : List A) (bad : Data) (after : List Data) (f : Misfit) → AllByRecursion P before → read bad ≡ Err f
      → items_from read k (items_of (map form before ++ bad ∷ after)) ≡ Err (BadShape (k + length before))
  unfolding items_from
  bad_after k [] bad after f formed fails = let place : k ≡ k + 0 = omega arith in rw fails (ap (λ n. Err (BadShape n)) place)
  bad_after k (x ∷ before) bad after f formed fails =
      let place : suc k + length before ≡ k + suc (length before) = omega arith in
      rw (one.again x formed.0, bad_after (suc k) before bad after f formed.1 fails) (ap (λ n. Err (BadShape n)) place)

-- ---- reports

pub read_is_form : (t : DecisionTable) (d : Data) (blocks : List Block) → IsTable t → (report_of t d ≡ Ok blocks) ↔ IsReportForm t d blocks
unfolding report_of
read_is_form t d blocks table = (to, from)
  where
    to : report_of t d ≡ Ok blocks → IsReportForm t d blocks
    to e =
        let ds = bind_ok (numbered 0 (outer_of d)) (λ ds. items_from (block_of t) 1 ds) blocks e in
        let items = items_sound (block_of t) (block_form t) (IsFormedBlock t) (block t table) 1 ds.0 blocks ds.2 in
        record { form = outer_is d ds.0 (numbered_ok 0 (outer_of d) ds.0 ds.1) ∙ ap around items.0; formed = items.1 }

    read : AllByRecursion (IsFormedBlock t) blocks → report_of t (report_form t blocks) ≡ Ok blocks
    read formed = rw (outer_again (items_of (map (block_form t) blocks))) (items_again (block_of t) (block_form t) (IsFormedBlock t) (block t table) 1 blocks formed)

    from : IsReportForm t d blocks → report_of t d ≡ Ok blocks
    from is = ap (report_of t) is.form ∙ read is.formed

pub one_report : (t : DecisionTable) (d : Data) (xs ys : List Block) → IsTable t → IsReportForm t d xs → IsReportForm t d ys → xs ≡ ys
one_report t d xs ys table p q =
    let both : report_read xs ≡ report_read ys = sym ((read_is_form t d xs table).1 p) ∙ (read_is_form t d ys table).1 q in
    cc
  where
    report_read : List Block → Result (List Block) JsonFault
    report_read blocks = Ok blocks

pub fault_is_bad : (t : DecisionTable) (d : Data) (fault : JsonFault) → IsTable t → report_of t d ≡ Err fault → (k : ℕ) × (fault ≡ BadShape k) × IsBadShape t d k
unfolding report_of
fault_is_bad t d fault table e =
    elim (bind_err (numbered 0 (outer_of d)) (λ ds. items_from (block_of t) 1 ds) fault e) [
      | inl outer ↦
          let bad = numbered_err 0 (outer_of d) fault outer in
          (0, bad.1, λ items is. let read : outer_of d ≡ Ok (items_of items) = ap outer_of is ∙ outer_again (items_of items) in let both = sym read ∙ bad.0.1 in cc)
      | inr inner ↦
          let found = first_bad (block_of t) (block_form t) (IsFormedBlock t) (block t table) 1 inner.0 fault inner.2 in
          let around_is = outer_is d inner.0 (numbered_ok 0 (outer_of d) inner.0 inner.1) in
          let place : 1 + length found.before ≡ suc (length found.before) = omega arith in
          let none : (b : Block) → IsBlockForm t found.bad b → ⊥ = λ b is. let read : block_of t found.bad ≡ Ok b = ap (block_of t) is.form ∙ (block t table).again b is.formed in let both = sym read ∙ found.fails.1 in cc in (
            suc (length found.before),
            found.is ∙ ap BadShape place,
            record { before = found.before; bad = found.bad; after = found.after; items = around_is ∙ ap around found.items; formed = found.formed; none = none; place = refl },
          )
    ]

bad_is_given : (t : DecisionTable) (d : Data) (k : ℕ) → IsTable t → IsBadShape t d k → report_of t d ≡ Err (BadShape k)
unfolding report_of
bad_is_given t d zero table bad =
    elim (result_cases (outer_of d)) [
      | inl read ↦
          let all = all_items read.0 in
          absurd (bad all.0 (outer_is d read.0 read.1 ∙ ap around all.1))
      | inr fails ↦ rw fails.1 refl
    ]
bad_is_given t d (suc k) table bad =
    let one = block t table in
    elim (result_cases (block_of t bad.bad)) [
      | inl read ↦
          let is = one.sound bad.bad read.0 read.1 in
          absurd (bad.none read.0 (record { form = is.0; formed = is.1 }))
      | inr fails ↦
          let place : 1 + length bad.before ≡ suc k = omega (arith, bad.place) in
          rw (bad.items, outer_again (items_of (map (block_form t) bad.before ++ bad.bad ∷ bad.after)), bad_after (block_of t) (block_form t) (IsFormedBlock t) one 1 bad.before bad.bad bad.after fails.0 bad.formed fails.1) (ap (λ n. Err (BadShape n)) place)
    ]

pub fault_iff_bad : (t : DecisionTable) (d : Data) (k : ℕ) → IsTable t → (report_of t d ≡ Err (BadShape k)) ↔ IsBadShape t d k
fault_iff_bad t d k table = (
  λ e. let bad = fault_is_bad t d (BadShape k) table e in let same : k ≡ bad.0 = cc in subst (IsBadShape t d) (sym same) bad.2,
  bad_is_given t d k table,
)

pub bad_iff_no_form : (t : DecisionTable) (d : Data) → IsTable t → ((k : ℕ) × IsBadShape t d k) ↔ ((blocks : List Block) → IsReportForm t d blocks → ⊥)
bad_iff_no_form t d table = (to, from)
  where
    to : (k : ℕ) × IsBadShape t d k → (blocks : List Block) → IsReportForm t d blocks → ⊥
    to bad blocks is = let both = sym (bad_is_given t d bad.0 table bad.1) ∙ (read_is_form t d blocks table).1 is in cc

    from : ((blocks : List Block) → IsReportForm t d blocks → ⊥) → (k : ℕ) × IsBadShape t d k
    from none =
        elim (result_cases (report_of t d)) [
          | inl read ↦ absurd (none read.0 ((read_is_form t d read.0 table).0 read.1))
          | inr fails ↦ let bad = fault_is_bad t d fails.0 table fails.1 in (bad.0, bad.2)
        ]

pub printed_is_formed : (t : DecisionTable) (b : Block) → IsPrintableBlock t b → IsFormedBlock t b
printed_is_formed t b h = record { number = h.number; body = body_formed b.body h.body }
  where
    body_formed : (body : Body) → IsPrintableBody t body → IsFormedBody t body
    body_formed (bodies.Added n) h = h
    body_formed (bodies.Withdrawn n) h = h
    body_formed (bodies.Replaced n) h = h
    body_formed bodies.Undone h = h
    body_formed (bodies.Repaired kept) h = record { dropped = h.dropped; base = h.base }
    body_formed (bodies.RepairWide n note) h = h
    body_formed (bodies.Answers answers) h = h
    body_formed (bodies.Refused fault) h = h
