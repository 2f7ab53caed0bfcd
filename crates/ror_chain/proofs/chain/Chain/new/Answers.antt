use Rattle.std.proofs.Common.{None, sym, subst, List}
use Rattle.ror_chain.specs.declared.links.Node.{Node}
use Rattle.ror_chain.specs.Cells.{IsWhole, cells_of}
use Rattle.ror_chain.proofs.CallLemmas.{empty_whole}
use Rattle.ror_chain.proofs.chain.Chain.new.Goals as goal

pub invariant_of-result : goal.invariant_of-result
invariant_of-result g c = subst (λ (ns : List (Node g.row.T.Denot)). IsWhole (cells_of ns None None)) (sym c.new.ensures.items) empty_whole
