-- What the roll shows is what stands: as revisions come and are taken back.
use Rattle.std.proofs.Common.{◌≡◌, ℕ, zero, suc, ◌+◌, ◌-◌, Bool, true, false, not, List, [], ◌∷◌, ◌++◌, Option, Some, None, refl, ap, sym, ◌∙◌, arith, length, map, take, drop, filter, nat_eq, option_map}
use Rattle.std.specs.Prelude.{◌==◌, slice_get, if◌then◌else◌}
use Rattle.std.specs.List.{fold, range_with_len, AllZip}
use Rattle.std.specs.Set.{is_member}
use Rattle.std.proofs.lemmas.Bool.{eqb-true}
use Rattle.std.proofs.lemmas.List.{map-append}
use Rattle.ror_statement.specs.declared.statement.Statement.{Statement}
use Rattle.ror_statement.specs.declared.statement.Numbered.{Numbered}
use Rattle.ror_history.specs.History.{Revision, addition, withdrawal, replacement, with_numbers_from, revised}
use Rattle.ror_report.specs.declared.block.Body.{Body}
use Rattle.ror_report.specs.declared.block.Body.TheVariants.{Added, Replaced}
use Rattle.ror_show_find_roll.specs.declared.roll.Entry.{Entry}
use Rattle.ror_show_find_roll.specs.declared.roll.Source.TheVariants.{File, Line}
use Rattle.ror_show_find_roll.specs.declared.survivor.Survivor.{Survivor}
use Rattle.ror_show_find_roll.specs.Roll.{opened, takes, added, put_instead, stand, Tally, tally_with, tally_of}
use Rattle.ror_show_find_roll.specs.Shown.{numbered, source_of, shown}

-- what a list has at a place, and behind it
pub place-of : {X : Type 0} (xs : List X) (k : ℕ) (y : X) (ys : List X) → drop k xs ≡ y ∷ ys → (slice_get xs k ≡ Some y) × (drop (suc k) xs ≡ ys)
place-of {X} [] zero y ys is = absurd cc
place-of {X} [] (suc k) y ys is = absurd cc
place-of {X} (x ∷ xs) zero y ys is = (let e : x ≡ y = cc in ap Some e, let e : xs ≡ ys = cc in e)
place-of {X} (x ∷ xs) (suc k) y ys is = place-of xs k y ys is

first-same : {X Y : Type 0} (f : X → Option Y) (x : X) (xs : List X) (y : Y) (ys : List Y) → map f (x ∷ xs) ≡ map Some (y ∷ ys) → f x ≡ Some y
first-same {X} {Y} f x xs y ys is = cc

rest-same : {X Y : Type 0} (f : X → Option Y) (x : X) (xs : List X) (y : Y) (ys : List Y) → map f (x ∷ xs) ≡ map Some (y ∷ ys) → map f xs ≡ map Some ys
rest-same {X} {Y} f x xs y ys is = cc

-- an entry has the number of the statement that it shows
number_shown : (n : ℕ) (s : Option Statement) (x : Numbered) → option_map (numbered n) s ≡ Some x → n ≡ x.number
number_shown n None x is = absurd cc
number_shown n (Some s) x is = let same : numbered n s ≡ x = cc in ap (λ (y : Numbered). y.number) same

module _ (stated_at : ℕ → Option Statement) (opening : List Statement) where
  abbrev show : Entry → Option Numbered
  show = shown stated_at opening

  -- ---- those that came with the table's file

  opened_from : (k m : ℕ) (rest : List Statement) → m ≡ suc k → drop k opening ≡ rest → map show (map (λ n. record { number = n; said = File; instead_of = None }) (range_with_len m (length rest))) ≡ map Some (with_numbers_from (suc k) rest)
  opened_from k m [] next is = refl
  opened_from k m (s ∷ rest) next is =
      let here = place-of opening k s rest is in
      let at : m - 1 ≡ k = omega (arith, next) in
      let later : m + 1 ≡ suc (suc k) = omega (arith, next) in
      let first : option_map (numbered m) (slice_get opening (m - 1)) ≡ Some (numbered (suc k) s) =
      ap (λ (n : ℕ). option_map (numbered m) (slice_get opening n)) at ∙ ap (option_map (numbered m)) here.0 ∙ ap (λ (n : ℕ). Some (numbered n s)) next in
      ap (λ (x : Option Numbered). x ∷ map show (map (λ n. record { number = n; said = File; instead_of = None }) (range_with_len (m + 1) (length rest)))) first
      ∙ ap (λ (xs : List (Option Numbered)). Some (numbered (suc k) s) ∷ xs) (opened_from (suc k) (m + 1) rest later here.1)

  pub opened_shown : map show (opened (length opening)) ≡ map Some (with_numbers_from 1 opening)
  opened_shown = opened_from 0 1 opening refl refl

  -- ---- one revision

  kept_shown : (p q : ℕ → Bool) → ((n : ℕ) → p n ≡ q n) → (es : List Entry) (ns : List Numbered) → map show es ≡ map Some ns → map show (filter (λ e. not (p e.number)) es) ≡ map Some (filter (λ x. not (q x.number)) ns)
  kept_shown p q same [] [] is = refl
  kept_shown p q same [] (x ∷ ns) is = absurd cc
  kept_shown p q same (e ∷ es) [] is = absurd cc
  kept_shown p q same (e ∷ es) (x ∷ ns) is =
      let here : show e ≡ Some x = first-same show e es x ns is in
      let number : e.number ≡ x.number = number_shown e.number (source_of stated_at opening e.number e.said) x here in
      by (p e.number) (q x.number) (same e.number ∙ ap q number) here (filter (λ e. not (p e.number)) es) (filter (λ x. not (q x.number)) ns) (kept_shown p q same es ns (rest-same show e es x ns is))
    where
      by : (b c : Bool) → b ≡ c → show e ≡ Some x → (fs : List Entry) (ms : List Numbered) → map show fs ≡ map Some ms → map show (if not b then e ∷ fs else fs) ≡ map Some (if not c then x ∷ ms else ms)
      by true true both here fs ms rest = rest
      by true false both here fs ms rest = absurd cc
      by false true both here fs ms rest = absurd cc
      by false false both here fs ms rest = ap (λ (y : Option Numbered). y ∷ map show fs) here ∙ ap (λ (ys : List (Option Numbered)). Some x ∷ ys) rest

  put_shown : (place n : ℕ) (s : Statement) → stated_at place ≡ Some s → (es : List Entry) (ns : List Numbered) → map show es ≡ map Some ns → map show (map (put_instead place n) es) ≡ map Some (map (λ x. if x.number == n then numbered n s else x) ns)
  put_shown place n s states [] [] is = refl
  put_shown place n s states [] (x ∷ ns) is = absurd cc
  put_shown place n s states (e ∷ es) [] is = absurd cc
  put_shown place n s states (e ∷ es) (x ∷ ns) is =
      let here : show e ≡ Some x = first-same show e es x ns is in
      let number : e.number ≡ x.number = number_shown e.number (source_of stated_at opening e.number e.said) x here in
      ap (λ (y : Option Numbered). y ∷ map show (map (put_instead place n) es)) (by (e.number == n) refl (x.number == n) (ap (λ (m : ℕ). m == n) number) here)
      ∙ ap (λ (ys : List (Option Numbered)). Some (if x.number == n then numbered n s else x) ∷ ys) (put_shown place n s states es ns (rest-same show e es x ns is))
    where
      by : (b : Bool) → (e.number == n) ≡ b → (c : Bool) → b ≡ c → show e ≡ Some x → show (if b then record { number = e.number; said = Line place; instead_of = Some e.said } else e) ≡ Some (if c then numbered n s else x)
      by true same true both here =
          let number : e.number ≡ n = eqb-true e.number n same in
          ap (option_map (numbered e.number)) states ∙ ap (λ (m : ℕ). Some (numbered m s)) number
      by true same false both here = absurd cc
      by false same true both here = absurd cc
      by false same false both here = here

  -- what the revision of a surviving line is
  abbrev pub Matches : Survivor → Revision → Type 0
  Matches x (addition n s) = (x.step.body ≡ Added n) × (stated_at x.step.place ≡ Some s)
  Matches x (withdrawal ns) = ((n : ℕ) → takes x.step.body n ≡ is_member nat_eq ns n) × ((es : List Entry) → stand es x.step.place x.step.body ≡ filter (λ e. not (takes x.step.body e.number)) es)
  Matches x (replacement n s) = (x.step.body ≡ Replaced n) × (stated_at x.step.place ≡ Some s)

  revision_shown : (x : Survivor) (revision : Revision) → Matches x revision → (es : List Entry) (ns : List Numbered) → map show es ≡ map Some ns → map show (stand es x.step.place x.step.body) ≡ map Some (revised ns revision)
  revision_shown x (addition n s) (is, states) es ns so_far =
      ap (λ (b : Body). map show (stand es x.step.place b)) is
      ∙ map-append show es (added x.step.place n ∷ [])
      ∙ ap (λ (y : Option Statement). map show es ++ option_map (numbered n) y ∷ []) states
      ∙ ap (λ (ys : List (Option Numbered)). ys ++ Some (numbered n s) ∷ []) so_far
      ∙ sym (map-append Some ns (numbered n s ∷ []))
  revision_shown x (withdrawal ms) (same, keeps) es ns so_far =
      ap (map show) (keeps es) ∙ kept_shown (takes x.step.body) (is_member nat_eq ms) same es ns so_far
  revision_shown x (replacement n s) (is, states) es ns so_far =
      ap (λ (b : Body). map show (stand es x.step.place b)) is ∙ put_shown x.step.place n s states es ns so_far

  tally_shown : (xs : List Survivor) (revisions : List Revision) → AllZip Matches xs revisions → (tally : Tally) (ns : List Numbered) → map show tally.entries ≡ map Some ns → map show (fold tally_with tally xs).entries ≡ map Some (fold revised ns revisions)
  tally_shown [] [] all tally ns so_far = so_far
  tally_shown [] (revision ∷ revisions) all tally ns so_far = absurd all
  tally_shown (x ∷ xs) [] all tally ns so_far = absurd all
  tally_shown (x ∷ xs) (revision ∷ revisions) all tally ns so_far = tally_shown xs revisions all.1 (tally_with tally x) (revised ns revision) (revision_shown x revision all.0 tally.entries ns so_far)

  pub all_shown : (xs : List Survivor) (revisions : List Revision) → AllZip Matches xs revisions → map show (tally_of (length opening) xs).entries ≡ map Some (fold revised (with_numbers_from 1 opening) revisions)
  all_shown xs revisions all = tally_shown xs revisions all (record { entries = opened (length opening); gone = [] }) (with_numbers_from 1 opening) opened_shown

-- ---- lists place by place

module _ {A B : Type 0} (R : A → B → Type 0) where
  pub zip_push : (xs : List A) (ys : List B) (x : A) (y : B) → AllZip R xs ys → R x y → AllZip R (xs ++ x ∷ []) (ys ++ y ∷ [])
  zip_push [] [] x y all one = (one, tt)
  zip_push [] (b ∷ ys) x y all one = absurd all
  zip_push (a ∷ xs) [] x y all one = absurd all
  zip_push (a ∷ xs) (b ∷ ys) x y all one = (all.0, zip_push xs ys x y all.1 one)

  pub zip_take : (n : ℕ) (xs : List A) (ys : List B) → AllZip R xs ys → AllZip R (take n xs) (take n ys)
  zip_take zero xs ys all = tt
  zip_take (suc n) [] [] all = tt
  zip_take (suc n) [] (b ∷ ys) all = absurd all
  zip_take (suc n) (a ∷ xs) [] all = absurd all
  zip_take (suc n) (a ∷ xs) (b ∷ ys) all = (all.0, zip_take n xs ys all.1)
