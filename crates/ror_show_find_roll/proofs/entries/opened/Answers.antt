-- One statement more.
use Rattle.std.proofs.Common.{◌≡◌, ◌+◌, [], ◌∷◌, ◌++◌, List, None, ap, sym, ◌∙◌, arith, rules}
use Rattle.std.proofs.lemmas.List.FromFn.{map-range_with_len_more}
use Rattle.ror_show_find_roll.specs.declared.roll.Entry.{Entry}
use Rattle.ror_show_find_roll.specs.declared.roll.Source.TheVariants.{File}
use Rattle.ror_show_find_roll.proofs.entries.opened.Goals as goal

pub loop-k-preserved : goal.loop-k-preserved
loop-k-preserved c =
    let pushed : c.push.new.self.items ≡ c.loop-k.entries.items ++ record { number = c.loop-k.k + 1; said = File; instead_of = None } ∷ [] = search rules in
    pushed ∙ ap (λ (xs : List Entry). xs ++ record { number = c.loop-k.k + 1; said = File; instead_of = None } ∷ []) c.loop-k.invariant
    ∙ sym (map-range_with_len_more (λ n. record { number = n; said = File; instead_of = None }) 1 c.loop-k.k (c.loop-k.k + 1) (omega arith))
