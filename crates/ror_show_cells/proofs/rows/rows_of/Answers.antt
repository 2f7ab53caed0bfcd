use Rattle.std.proofs.Common.{Bor, List, ℕ, ◌≡◌, ◌≤◌, ◌+◌, ◌∙◌, sym, refl, rules, inl, inr, true, map, length, Some, ◌∷◌, ◌++◌, [], ap, arith, subst}
use Rattle.std.specs.Result.{is_ok}
use Rattle.std.proofs.lemmas.List.{map_push, length_push}
use Rattle.csv.specs.Reading.{Reached, records_from, strip_bom}
use Rattle.csv.specs.Records.{fields_of}
use Rattle.csv.specs.declared.parser.State.TheVariants as st
use Rattle.csv.proofs.ReadFacts.{rows-end, rows-more}
use Rattle.ror_show_cells.specs.Rows.{Cells, config_of, trimmed_cells}
use Rattle.ror_show_cells.proofs.Cells.{size_map}
use Rattle.ror_show_cells.proofs.RowLemmas.{reached_all, reached_end}
use Rattle.ror_show_cells.proofs.rows.rows_of.Goals as goal

pub loop-next-init : goal.loop-next-init
unfolding Reached
loop-next-init c =
    let fr = c.from_reader-reader.ensures in
    let e1 = c.has_headers.ensures in
    let e2 = c.flexible.ensures in
    let e3 = c.delimiter.ensures in
    let start = c.into_iter-next-iterator.ensures.into_iter_gives ∙ refl in
    let rdr = c.into_byte_records-next-items.ensures.rdr in
    let left = c.into_byte_records-next-items.ensures.left in
    rw (start, rdr, c.new-rows.ensures.items) (
      rw (e3, e2, e1) at fr.trim ∙ c.new.ensures.trim,
      inr (inr (rw (e3, e2, e1) at fr.has_headers, fr.headers)),
      left,
      rw (e3, e2, e1, c.new.ensures.config, c.byte_of.ensures) at fr.config,
      strip_bom c.args.bytes.now,
      fr.source,
      [],
      refl,
      omega arith,
      (sym fr.state, refl),
    )

pub returns-then-len-gt-MOST_ROWS : goal.returns-then-len-gt-MOST_ROWS
returns-then-len-gt-MOST_ROWS c =
    let inv = c.loop-next.invariant in
    let raw = inv.6 in
    let size : c.len.result ≡ length c.loop-next.rows.items = search rules in
    let full = c.if-len-gt-MOST_ROWS.true in
    let count : length raw ≡ 1001 = omega (arith, size, full, inv.8, ap (λ (l : List Cells). length l) inv.7, size_map trimmed_cells raw) in
    let all = reached_all (config_of c.args.separator) st.StartRecord (strip_bom c.args.bytes.now) raw c.loop-next.next-iterator.rdr.state inv.4 inv.9 in
    inv.7 ∙ ap (map trimmed_cells) (sym (subst (λ (n : ℕ). records_from (config_of c.args.separator) n st.StartRecord (strip_bom c.args.bytes.now) ≡ raw) count all))

pub loop-next-preserved : goal.loop-next-preserved
loop-next-preserved c =
    let inv = c.loop-next.invariant in
    let raw = inv.6 in
    let cells = fields_of c.in-Ok.cells in
    let s = rw (c.in-Some.is, c.in-Ok.is) at ((c.next.ensures.steps inv.2 inv.0).0 inv.1) in
    let good : is_ok c.push.result ≡ true = search rules in
    let items = rw good at c.push.ensures.items in
    let size : c.len.result ≡ length c.loop-next.rows.items = search rules in
    let room = c.if-len-gt-MOST_ROWS.false in
    let m = rows-more (λ (s : Bor (List ℕ)). Some s.now) c.loop-next.next-iterator.rdr c.next.new.self.rdr cells (config_of c.args.separator) st.StartRecord (strip_bom c.args.bytes.now) inv.4 raw inv.3 inv.5 inv.9 s.0 in
    let kept = items ∙ ap (λ (l : List Cells). l ++ c.in_ok-trimmed.field-0 ∷ []) inv.7 ∙ ap (λ (row : Cells). map trimmed_cells raw ++ row ∷ []) c.in_ok-trimmed.ensures ∙ sym (map_push trimmed_cells raw cells) in
    let bound : length (raw ++ cells ∷ []) ≤ 1001 = omega (arith, size, room, ap (λ (l : List Cells). length l) inv.7, size_map trimmed_cells raw, length_push raw cells) in
    (s.0.3 ∙ inv.0, inl s.1, s.2, s.0.2 ∙ inv.3, m.0, m.1, raw ++ cells ∷ [], kept, bound, m.2)

pub returns : goal.returns
returns c =
    let inv = c.loop-next.invariant in
    let raw = inv.6 in
    let s = rw c.in-None.is at ((c.next.ensures.steps inv.2 inv.0).0 inv.1) in
    let none = rows-end (λ (s : Bor (List ℕ)). Some s.now) c.loop-next.next-iterator.rdr c.next.new.self.rdr [] (config_of c.args.separator) inv.4 inv.3 inv.5 s in
    inv.7 ∙ ap (map trimmed_cells) (sym (reached_end (config_of c.args.separator) st.StartRecord (strip_bom c.args.bytes.now) raw c.loop-next.next-iterator.rdr.state inv.4 1001 inv.9 none inv.8))
