use Rattle.std.proofs.Common.{◌≡◌, ◌<◌, ◌++◌, ◌∷◌, [], List, ℤ, pos, ap, sym, ◌∙◌, refl, arith, unsigned_abs}
use Rattle.std.specs.Int.{w64}
use Rattle.std.proofs.lemmas.List.{take_more}
use Rattle.std.proofs.lemmas.List.Elements.{All-push}
use Rattle.std.proofs.Math.Facts.{to_z_pos}
use Rattle.ror_integers.specs.Vectors.{entry}
use Rattle.ror_table.specs.declared.limits.TheConstants.{AMOUNT_LIMIT}
use Rattle.ror_table.specs.Index.{distances_of}
use Rattle.ror_table.proofs.WeightLemmas.{distance_read, length-distances_of, entry-distances_of}
use Rattle.ror_table.proofs.weights.distances.Goals as goal

pub returns-then-distance-from-clause-wide : goal.returns-then-distance-from-clause-wide
returns-then-distance-from-clause-wide c =
    let ls = c.args.levels.now in
    let k = c.loop-level.level-index in
    let is = distance_read c.args.common k c.unsigned_abs-distance.result ls c.multiple.result c.multiple-worst.result c.loop-level-test.true c.multiple.ensures.small c.multiple-worst.ensures.small c.multiple.ensures.value c.multiple-worst.ensures.value c.unsigned_abs-distance.ensures.value in
    λ other. (refl, (k, omega (arith, c.loop-level-test.true, length-distances_of c.args.common ls), omega (arith, is, c.if-distance-from.true, c.from.ensures)))

pub loop-level-preserved : goal.loop-level-preserved
loop-level-preserved c =
    let ls = c.args.levels.now in
    let k = c.loop-level.level-index in
    let all = distances_of c.args.common ls in
    let is = distance_read c.args.common k c.unsigned_abs-distance.result ls c.multiple.result c.multiple-worst.result c.loop-level-test.true c.multiple.ensures.small c.multiple-worst.ensures.small c.multiple.ensures.value c.multiple-worst.ensures.value c.unsigned_abs-distance.ensures.value in
    let small : c.unsigned_abs-distance.result < AMOUNT_LIMIT = omega (arith, c.if-distance-from.false, c.from.ensures) in
    let e = entry-distances_of c.args.common ls k c.loop-level-test.true in
    let item : mir.Val.to_z w64 c.unsigned_abs-distance.result ≡ entry all k = to_z_pos w64 (omega arith) ∙ ap pos (is ∙ ap unsigned_abs e) ∙ sym e in
    let items : c.push.new.self.items ≡ c.loop-level.distances.items ++ entry all k ∷ [] = c.in_ok-push.ensures.items ∙ ap (λ (x : ℤ). c.loop-level.distances.items ++ x ∷ []) item in
    record {
      taken = items ∙ ap (λ (xs : List ℤ). xs ++ entry all k ∷ []) c.loop-level.invariant.taken ∙ sym (take_more all k (pos 0) (omega (arith, c.loop-level-test.true, length-distances_of c.args.common ls)));
      small = rw items (All-push (λ (d : ℤ). unsigned_abs d < AMOUNT_LIMIT) c.loop-level.distances.items (entry all k) c.loop-level.invariant.small (omega (arith, is, small)));
    }
