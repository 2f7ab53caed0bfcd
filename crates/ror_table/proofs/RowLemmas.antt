-- What stands at a place of a draft's maps.
use Rattle.std.proofs.Common.{◌≡◌, ℕ, ◌+◌, ◌<◌, List, [], ◌∷◌, ◌++◌, take, length, get_or, map, Some, false, pos, All, slice_get, refl, sym, ap, subst, ◌∙◌, arith, inl, inr}
use Rattle.std.specs.Prelude.{String, unwrap_or}
use Rattle.std.specs.Global.{Global, Vec}
use Rattle.std.specs.Map.{keys_of, values_of}
use Rattle.std.specs.Option.{option_map}
use Rattle.std.specs.String.{string_bytes}
use Rattle.std.proofs.lemmas.List.{length-map, get_or-map, get_or_read, map_more}
use Rattle.std.proofs.lemmas.List.Elements.{All-push}
use Rattle.std.proofs.lemmas.Option.{slice_get_cases, slice_get-map}
use Rattle.ror_table.specs.declared.amount.Amount.{Amount}
use Rattle.ror_table.specs.declared.direction.Scale.{Scale}
use Rattle.ror_table.specs.Amounts.{IsAmount, whole}
use Rattle.ror_table.specs.declared.direction.Direction.TheVariants.{Max}
use Rattle.ror_table.specs.Table.{Criterion, Alternative, DecisionTable, performance_of, IsEvaluated}
use Rattle.ror_table.specs.Draft.{IsDraft}
use Rattle.ror_table.proofs.DraftLemmas.{table}
use Rattle.ror_table.specs.Contents.{criterion_of, alternative_of}

-- the entry whose key or value was read
entry_read : {K V X : Type 0} (part : K × V → X) (es : List (K × V)) (i : ℕ) (x : X) → i < length es → x ≡ get_or (map part es) i x → (e : K × V) × (slice_get es i ≡ Some e) × (get_or es i e ≡ e) × (part e ≡ x)
entry_read part es i x within read =
    elim (slice_get_cases es i).1 [
      | inl at ↦ (at.0, at.2, at.3, sym (read ∙ get_or-map part es i at.0 x within ∙ ap part at.3))
      | inr out ↦ absurd (omega arith)
    ]

pub scale_read : (es : List (String Global × Scale)) (i : ℕ) (x : Scale) → i < length es → x ≡ get_or (values_of es) i x
    → (unwrap_or (option_map (λ (c : Criterion). c.direction) (slice_get (map criterion_of es) i)) Max ≡ x.direction) × (unwrap_or (option_map (λ (c : Criterion). c.linear) (slice_get (map criterion_of es) i)) false ≡ x.linear)
scale_read es i x within read =
    let at = entry_read (λ (e : String Global × Scale). e.1) es i x within read in
    (rw (slice_get-map criterion_of es i, at.1) (ap (λ (s : Scale). s.direction) at.3), rw (slice_get-map criterion_of es i, at.1) (ap (λ (s : Scale). s.linear) at.3))

pub key_read : {V R : Type 0} (made : String Global × V → R) (id : R → List ℕ) (same : (e : String Global × V) → id (made e) ≡ string_bytes e.0) (es : List (String Global × V)) (i : ℕ) (k : String Global)
    → i < length es → k ≡ get_or (keys_of es) i k → slice_get (map id (map made es)) i ≡ Some (string_bytes k)
key_read {V} made id same es i k within read =
    let at = entry_read (λ (e : String Global × V). e.0) es i k within read in
    rw (slice_get-map id (map made es) i, slice_get-map made es i, at.1) (ap Some (same at.0 ∙ ap string_bytes at.3))

pub performance_read : (es : List (String Global × Vec Amount)) (a i : ℕ) (row : Vec Amount) (x : Amount) → a < length es → row ≡ get_or (values_of es) a row → i < length row.items → x ≡ get_or row.items i x
    → get_or (map (λ z. performance_of z i) (map alternative_of es)) a (whole (pos 0)) ≡ x
performance_read es a i row x within read in' entry =
    let at = entry_read (λ (e : String Global × Vec Amount). e.1) es a row within read in
    let e = at.0 in
    get_or-map (λ z. performance_of z i) (map alternative_of es) a (alternative_of e) (whole (pos 0)) (omega (arith, length-map es alternative_of))
    ∙ ap (λ z. performance_of z i) (get_or-map alternative_of es a e (alternative_of e) within ∙ ap alternative_of at.2)
    ∙ ap (λ (r : Vec Amount). get_or r.items i (whole (pos 0))) at.3
    ∙ sym (get_or_read row.items i x in' entry (whole (pos 0)))

-- each row is as wide as there are criteria
pub width_read : (es : List (String Global × Vec Amount)) (n a : ℕ) (row : Vec Amount) → All (IsEvaluated n) (map alternative_of es) → a < length es → row ≡ get_or (values_of es) a row → length row.items ≡ n
width_read es n a row all within read =
    let at = entry_read (λ (e : String Global × Vec Amount). e.1) es a row within read in
    let e = at.0 in
    let here : get_or (map alternative_of es) a (alternative_of e) ≡ alternative_of e = get_or-map alternative_of es a e (alternative_of e) within ∙ ap alternative_of at.2 in
    let wide : length (get_or (map alternative_of es) a (alternative_of e)).performances ≡ n = (all a (alternative_of e) (omega (arith, length-map es alternative_of))).width in
    ap (λ (r : Vec Amount). length r.items) (sym at.3) ∙ ap (λ (z : Alternative). length z.performances) (sym here) ∙ wide

pub performances_of_rows : (es : List (String Global × Vec Amount)) (i : ℕ) → map (λ (row : Vec Amount). get_or row.items i (whole (pos 0))) (values_of es) ≡ map (λ z. performance_of z i) (map alternative_of es)
performances_of_rows [] i = refl
performances_of_rows (e ∷ es) i = ap (λ (ps : List Amount). get_or e.1.items i (whole (pos 0)) ∷ ps) (performances_of_rows es i)

-- a row that was read from the map is within the table
pub row_within : (criteria : List Criterion) (es : List (String Global × Vec Amount)) (classes : ℕ) (t : DecisionTable) (rows : List (Vec Amount)) (row : Vec Amount) (a i : ℕ) → IsDraft (table criteria (map alternative_of es) classes) → table criteria (map alternative_of es) classes ≡ t
    → rows ≡ values_of es → row ≡ get_or rows a row → a < length rows → i < length t.criteria → (a < length es) × (i < length row.items) × (row ≡ get_or (values_of es) a row)
row_within criteria es classes t rows row a i draft view from read within in' =
    let read' : row ≡ get_or (values_of es) a row = rw from at read in
    let within' : a < length es = omega (arith, ap length from, length-map es (λ (e : String Global × Vec Amount). e.1)) in
    let wide = width_read es (length criteria) a row draft.evaluated within' read' in
    (within', omega (arith, wide, ap (λ (x : DecisionTable). length x.criteria) view), read')

-- there is a row for each alternative
pub length-rows : (criteria : List Criterion) (es : List (String Global × Vec Amount)) (classes : ℕ) (t : DecisionTable) (rows : List (Vec Amount)) → table criteria (map alternative_of es) classes ≡ t → rows ≡ values_of es → length rows ≡ length t.alternatives
length-rows criteria es classes t rows view from =
    ap length from ∙ length-map es (λ (e : String Global × Vec Amount). e.1) ∙ sym (length-map es alternative_of) ∙ ap (λ (x : DecisionTable). length x.alternatives) view

-- what was read of a row that was read is an amount
pub amount_read : (es : List (String Global × Vec Amount)) (n a i : ℕ) (row : Vec Amount) (x : Amount) → All (IsEvaluated n) (map alternative_of es) → a < length es → row ≡ get_or (values_of es) a row → i < length row.items → x ≡ get_or row.items i x → IsAmount x
amount_read es n a i row x all within read in' entry =
    let at = entry_read (λ (e : String Global × Vec Amount). e.1) es a row within read in
    let e = at.0 in
    let here : get_or (map alternative_of es) a (alternative_of e) ≡ alternative_of e = get_or-map alternative_of es a e (alternative_of e) within ∙ ap alternative_of at.2 in
    let rows : (get_or (map alternative_of es) a (alternative_of e)).performances ≡ row.items = ap (λ (z : Alternative). z.performances) here ∙ ap (λ (r : Vec Amount). r.items) at.3 in
    let amounts : All IsAmount row.items = subst (All IsAmount) rows (all a (alternative_of e) (omega (arith, length-map es alternative_of))).amounts in
    subst IsAmount (sym entry) (amounts i x in')

-- the performances on a criterion that the first n rows have
pub record AreRead (rows : List (Vec Amount)) (i n : ℕ) (performances : List Amount) : Type 0 where
  pub exact : performances ≡ map (λ (row : Vec Amount). get_or row.items i (whole (pos 0))) (take n rows)
  pub amounts : All IsAmount performances

pub AreRead-none : (rows : List (Vec Amount)) (i : ℕ) → AreRead rows i 0 []
AreRead-none rows i = record { exact = refl; amounts = λ k d lt. absurd (omega arith) }

-- one performance more on a criterion
pub AreRead-more : (rows : List (Vec Amount)) (k i : ℕ) (row : Vec Amount) (x : Amount) (before after : List Amount) → k < length rows → row ≡ get_or rows k row → i < length row.items → x ≡ get_or row.items i x → IsAmount x
    → AreRead rows i k before → after ≡ before ++ x ∷ [] → AreRead rows i (k + 1) after
AreRead-more rows k i row x before after within read in' entry amount kept pushed =
    let f : Vec Amount → Amount = λ r. get_or r.items i (whole (pos 0)) in
    let same : x ≡ f (get_or rows k row) = get_or_read row.items i x in' entry (whole (pos 0)) ∙ ap f read in
    record {
      exact = pushed ∙ ap (λ (xs : List Amount). xs ++ x ∷ []) kept.exact ∙ ap (λ (y : Amount). map f (take k rows) ++ y ∷ []) same ∙ sym (map_more f rows k row within);
      amounts = subst (All IsAmount) (sym pushed) (All-push IsAmount before x kept.amounts amount);
    }
