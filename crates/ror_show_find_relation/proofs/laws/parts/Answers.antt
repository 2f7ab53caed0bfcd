use Rattle.ror_show_find_relation.proofs.Parts.{split, joined, parts-apart, above-irreflexive, above-transitive}
use Rattle.ror_show_find_relation.proofs.Paths.{path-is-step, transitive-acyclic}
use Rattle.ror_show_find_relation.proofs.laws.parts.Goals as goal

pub returns : goal.returns
returns c r = record {
  both = λ a b. (split r a b, joined r a b);
  apart = parts-apart r;
  irreflexive = above-irreflexive r;
  transitive = above-transitive r;
  paths = λ transitive a b p. path-is-step r transitive p.0 a b p.1;
  acyclic = transitive-acyclic r;
}
