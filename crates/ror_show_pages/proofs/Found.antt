-- Where a line that a check kept stands among those of the session.
use Rattle.std.proofs.Common.{◌≡◌, ℕ, ◌+◌, zero, suc, List, [], ◌∷◌, ◌++◌, Option, Some, refl, sym, ap, subst, ◌∙◌, arith, append_assoc, length, take}
use Rattle.std.specs.Prelude.{slice_get}
use Rattle.std.proofs.lemmas.List.{append-nil, length-append}
use Rattle.ror_statement.specs.declared.statement.Numbered.{Numbered}
use Rattle.ror_session.specs.declared.session.Line.{Line}
use Rattle.ror_report.specs.declared.block.Block.{Block}
use Rattle.ror_bench.specs.declared.kept.Keep.{Keep}
use Rattle.ror_bench.specs.declared.kept.Keep.TheVariants as keeping
use Rattle.ror_bench.specs.declared.kept.KeptLine.{KeptLine}
use Rattle.ror_bench.specs.Bench.{Workbench}
use Rattle.ror_bench.specs.Blocks.{IsProvedBlock}
use Rattle.ror_bench.specs.Desks.{with_blocks}
use Rattle.ror_history.specs.History.{standing}
use Rattle.ror_bench.specs.Kept.{keep_at, kept_of, standing_for, kept_at, kept_from}
use Rattle.ror_bench.specs.Reports.{EachHolds, revisions_then}

module _ (bench : Workbench) (keep : List Keep) where
  abbrev stood_at : ℕ → List (Line × Block) → Line → Option (List Numbered)
  stood_at place before line = standing_for (keep_at keep place) (revisions_then bench before line.desk)

  -- it is the one at a place among those that are kept of these lines; the ones before it are those of the lines in front of it
  pub record IsFound (before : List (Line × Block)) (lines : List Line) (blocks : List Block) (k : ℕ) (x : KeptLine) : Type 0 where
    pub front : List Line
    pub line : Line
    pub back : List Line
    pub bodies : List Block
    pub lines_are : lines ≡ front ++ line ∷ back
    pub taken : take k (kept_from bench keep before lines blocks) ≡ kept_from bench keep before front bodies
    pub place : x.place ≡ length before + length front
    pub stood : x.standing ≡ standing_for (keep_at keep x.place) (revisions_then bench (before ++ with_blocks front bodies) line.desk)
    pub each : EachHolds (IsProvedBlock bench.table) bench before front bodies

  further : (before : List (Line × Block)) (line : Line) (lines : List Line) (block : Block) (blocks : List Block) (k j : ℕ) (x : KeptLine) → IsProvedBlock bench.table (revisions_then bench before line.desk) line block → take k (kept_from bench keep before (line ∷ lines) (block ∷ blocks)) ≡ kept_at bench keep before line block ++ take j (kept_from bench keep (before ++ (line, block) ∷ []) lines blocks) → IsFound (before ++ (line, block) ∷ []) lines blocks j x → IsFound before (line ∷ lines) (block ∷ blocks) k x
  further before line lines block blocks k j x here split later =
      let longer : length (before ++ (line, block) ∷ []) ≡ length before + 1 = length-append before ((line, block) ∷ []) in
      let at = later.place in
      let moved : (before ++ (line, block) ∷ []) ++ with_blocks later.front later.bodies ≡ before ++ with_blocks (line ∷ later.front) (block ∷ later.bodies) = append_assoc before ((line, block) ∷ []) (with_blocks later.front later.bodies) in
      record {
        front = line ∷ later.front;
        line = later.line;
        back = later.back;
        bodies = block ∷ later.bodies;
        lines_are = ap (λ (ls : List Line). line ∷ ls) later.lines_are;
        taken = split ∙ ap (λ (ks : List KeptLine). kept_at bench keep before line block ++ ks) later.taken;
        place = omega (arith, at, longer);
        stood = later.stood ∙ ap (λ (b : List (Line × Block)). standing_for (keep_at keep x.place) (revisions_then bench b later.line.desk)) moved;
        each = (here, later.each);
      }

  -- where nothing of the first line is kept
  passed : (before : List (Line × Block)) (line : Line) (lines : List Line) (block : Block) (blocks : List Block) (k : ℕ) (x : KeptLine) → IsProvedBlock bench.table (revisions_then bench before line.desk) line block → (rest : (j : ℕ) → slice_get (kept_from bench keep (before ++ (line, block) ∷ []) lines blocks) j ≡ Some x → IsFound (before ++ (line, block) ∷ []) lines blocks j x) → kept_at bench keep before line block ≡ [] → slice_get (kept_from bench keep before (line ∷ lines) (block ∷ blocks)) k ≡ Some x → IsFound before (line ∷ lines) (block ∷ blocks) k x
  passed before line lines block blocks k x here rest none is =
      let behind = kept_from bench keep (before ++ (line, block) ∷ []) lines blocks in
      let there = subst (λ (ks : List KeptLine). slice_get (ks ++ behind) k ≡ Some x) none is in
      let split = subst (λ (ks : List KeptLine). take k (ks ++ behind) ≡ ks ++ take k behind) (sym none) refl in
      further before line lines block blocks k k x here split (rest k there)

  -- and where it is
  kept_first : (before : List (Line × Block)) (line : Line) (lines : List Line) (block : Block) (blocks : List Block) (k : ℕ) (x first : KeptLine) → IsProvedBlock bench.table (revisions_then bench before line.desk) line block → (rest : (j : ℕ) → slice_get (kept_from bench keep (before ++ (line, block) ∷ []) lines blocks) j ≡ Some x → IsFound (before ++ (line, block) ∷ []) lines blocks j x) → kept_at bench keep before line block ≡ first ∷ [] → first.place ≡ length before → first.standing ≡ stood_at (length before) before line → slice_get (kept_from bench keep before (line ∷ lines) (block ∷ blocks)) k ≡ Some x → IsFound before (line ∷ lines) (block ∷ blocks) k x
  kept_first before line lines block blocks zero x first here rest one place stood is =
      let behind = kept_from bench keep (before ++ (line, block) ∷ []) lines blocks in
      let there = subst (λ (ks : List KeptLine). slice_get (ks ++ behind) zero ≡ Some x) one is in
      let same : first ≡ x = cc in
      let at : x.place ≡ length before = ap (λ (y : KeptLine). y.place) (sym same) ∙ place in
      let none : take zero (kept_from bench keep before (line ∷ lines) (block ∷ blocks)) ≡ [] = subst (λ (ks : List KeptLine). take zero (ks ++ behind) ≡ []) (sym one) refl in
      record {
        front = [];
        line = line;
        back = lines;
        bodies = [];
        lines_are = refl;
        taken = none;
        place = omega (arith, at);
        stood = ap (λ (y : KeptLine). y.standing) (sym same) ∙ stood ∙ ap (λ (n : ℕ). stood_at n before line) (sym at) ∙ ap (λ (b : List (Line × Block)). stood_at x.place b line) (sym (append-nil before));
        each = tt;
      }
  kept_first before line lines block blocks (suc j) x first here rest one place stood is =
      let behind = kept_from bench keep (before ++ (line, block) ∷ []) lines blocks in
      let there = subst (λ (ks : List KeptLine). slice_get (ks ++ behind) (suc j) ≡ Some x) one is in
      let split = subst (λ (ks : List KeptLine). take (suc j) (ks ++ behind) ≡ ks ++ take j behind) (sym one) refl in
      further before line lines block blocks (suc j) j x here split (rest j there)

  by_keep : (before : List (Line × Block)) (line : Line) (lines : List Line) (block : Block) (blocks : List Block) (k : ℕ) (x : KeptLine) → IsProvedBlock bench.table (revisions_then bench before line.desk) line block → ((j : ℕ) → slice_get (kept_from bench keep (before ++ (line, block) ∷ []) lines blocks) j ≡ Some x → IsFound (before ++ (line, block) ∷ []) lines blocks j x) → (so : Keep) → keep_at keep (length before) ≡ so → slice_get (kept_from bench keep before (line ∷ lines) (block ∷ blocks)) k ≡ Some x → IsFound before (line ∷ lines) (block ∷ blocks) k x
  by_keep before line lines block blocks k x here rest keeping.Nothing so is =
      passed before line lines block blocks k x here rest (ap (λ (q : Keep). kept_of (length before) q (standing_for q (revisions_then bench before line.desk)) block) so) is
  by_keep before line lines block blocks k x here rest keeping.Block so is =
      kept_first before line lines block blocks k x _ here rest (ap (λ (q : Keep). kept_of (length before) q (standing_for q (revisions_then bench before line.desk)) block) so) refl (sym (ap (λ (q : Keep). standing_for q (revisions_then bench before line.desk)) so)) is
  by_keep before line lines block blocks k x here rest keeping.Standing so is =
      kept_first before line lines block blocks k x _ here rest (ap (λ (q : Keep). kept_of (length before) q (standing_for q (revisions_then bench before line.desk)) block) so) refl (sym (ap (λ (q : Keep). standing_for q (revisions_then bench before line.desk)) so)) is

  pub found : (before : List (Line × Block)) (lines : List Line) (blocks : List Block) (k : ℕ) (x : KeptLine) → EachHolds (IsProvedBlock bench.table) bench before lines blocks → slice_get (kept_from bench keep before lines blocks) k ≡ Some x → IsFound before lines blocks k x
  found before [] [] k x each is = absurd cc
  found before [] (block ∷ blocks) k x each is = absurd each
  found before (line ∷ lines) [] k x each is = absurd each
  found before (line ∷ lines) (block ∷ blocks) k x each is =
      by_keep before line lines block blocks k x each.0 (λ j there. found (before ++ (line, block) ∷ []) lines blocks j x each.1 there) (keep_at keep (length before)) refl is

  -- ---- a line of which what stood is kept

  abbrev pub made : ℕ → List (Line × Block) → Line → Block → KeptLine
  made place before line block = record { place = place; standing = Some (standing (revisions_then bench before line.desk)); block = block }

  pub kept_at_place : (before : List (Line × Block)) (lines : List Line) (blocks : List Block) (n : ℕ) (line : Line) (block : Block) → slice_get lines n ≡ Some line → slice_get blocks n ≡ Some block → keep_at keep (length before + n) ≡ keeping.Standing → (k : ℕ) × (slice_get (kept_from bench keep before lines blocks) k ≡ Some (made (length before + n) (before ++ with_blocks (take n lines) (take n blocks)) line block))
  kept_at_place before [] blocks n line block at there so = absurd cc
  kept_at_place before (l ∷ lines) [] n line block at there so = absurd cc
  kept_at_place before (l ∷ lines) (b ∷ blocks) zero line block at there so =
      let first : l ≡ line = cc in
      let second : b ≡ block = cc in
      let place : length before + 0 ≡ length before = omega arith in
      let here : keep_at keep (length before) ≡ keeping.Standing = ap (keep_at keep) (sym place) ∙ so in
      let one : kept_at bench keep before l b ≡ made (length before) before l b ∷ [] = ap (λ (q : Keep). kept_of (length before) q (standing_for q (revisions_then bench before l.desk)) b) here in
      let got : slice_get (kept_at bench keep before l b ++ kept_from bench keep (before ++ (l, b) ∷ []) lines blocks) zero ≡ Some (made (length before) before l b) = ap (λ (ks : List KeptLine). slice_get (ks ++ kept_from bench keep (before ++ (l, b) ∷ []) lines blocks) zero) one in
      (zero, got ∙ ap (λ (n : ℕ). Some (made n before l b)) (sym place) ∙ ap (λ (bs : List (Line × Block)). Some (made (length before + 0) bs l b)) (sym (append-nil before)) ∙ ap (λ (x : Line). Some (made (length before + 0) (before ++ []) x b)) first ∙ ap (λ (x : Block). Some (made (length before + 0) (before ++ []) line x)) second)
  kept_at_place before (l ∷ lines) (b ∷ blocks) (suc n) line block at there so =
      let longer : length (before ++ (l, b) ∷ []) + n ≡ length before + suc n = let long = length-append before ((l, b) ∷ []) in omega (arith, long) in
      let later = kept_at_place (before ++ (l, b) ∷ []) lines blocks n line block at there (ap (keep_at keep) longer ∙ so) in
      let moved : (before ++ (l, b) ∷ []) ++ with_blocks (take n lines) (take n blocks) ≡ before ++ with_blocks (take (suc n) (l ∷ lines)) (take (suc n) (b ∷ blocks)) = append_assoc before ((l, b) ∷ []) (with_blocks (take n lines) (take n blocks)) in
      (length (kept_at bench keep before l b) + later.0, behind (kept_at bench keep before l b) (kept_from bench keep (before ++ (l, b) ∷ []) lines blocks) later.0 ∙ later.1 ∙ ap (λ (m : ℕ). Some (made m ((before ++ (l, b) ∷ []) ++ with_blocks (take n lines) (take n blocks)) line block)) longer ∙ ap (λ (bs : List (Line × Block)). Some (made (length before + suc n) bs line block)) moved)
    where
      behind : {A : Type 0} (xs ys : List A) (k : ℕ) → slice_get (xs ++ ys) (length xs + k) ≡ slice_get ys k
      behind {A} [] ys k = let same : 0 + k ≡ k = omega arith in ap (slice_get ys) same
      behind {A} (x ∷ xs) ys k = let same : suc (length xs) + k ≡ suc (length xs + k) = omega arith in ap (slice_get ((x ∷ xs) ++ ys)) same ∙ behind xs ys k
