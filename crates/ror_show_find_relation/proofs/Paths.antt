-- Paths along a relation.
use Rattle.std.proofs.Common.{ℕ, zero, suc}
use Rattle.ror_show_find_relation.specs.Relations.{Square, IsAbove, IsTransitive, IsAcyclic, PathOf, Path}
use Rattle.ror_show_find_relation.proofs.Parts.{above-transitive, above-irreflexive}

-- a path and one that goes on from its end
pub path-join : (S : ℕ → ℕ → Type 0) (n m a b c : ℕ) → PathOf S n a b → PathOf S m b c → Path S a c
path-join S zero m a b c one more = (suc m, (b, one, more))
path-join S (suc n) m a b c p more = let rest = path-join S n m p.0 b c p.2 more in (suc rest.0, (p.0, p.1, rest.1))

pub joined-paths : (S : ℕ → ℕ → Type 0) (a b c : ℕ) → Path S a b → Path S b c → Path S a c
joined-paths S a b c p q = path-join S p.0 q.0 a b c p.1 q.1

-- each step by what it brings
pub path-by : (S T : ℕ → ℕ → Type 0) → ((a b : ℕ) → S a b → T a b) → (n a b : ℕ) → PathOf S n a b → PathOf T n a b
path-by S T brings zero a b one = brings a b one
path-by S T brings (suc n) a b p = (p.0, brings a p.0 p.1, path-by S T brings n p.0 b p.2)

-- each step by a path
pub path-through : (S T : ℕ → ℕ → Type 0) → ((a b : ℕ) → S a b → Path T a b) → (n a b : ℕ) → PathOf S n a b → Path T a b
path-through S T brings zero a b one = brings a b one
path-through S T brings (suc n) a b p = joined-paths T a p.0 b (brings a p.0 p.1) (path-through S T brings n p.0 b p.2)

-- along the strict part of a transitive relation a path is a step
pub path-is-step : (r : Square) → IsTransitive r → (n a b : ℕ) → PathOf (IsAbove r) n a b → IsAbove r a b
path-is-step r transitive zero a b one = one
path-is-step r transitive (suc n) a b p = above-transitive r transitive a p.0 b p.1 (path-is-step r transitive n p.0 b p.2)

pub transitive-acyclic : (r : Square) → IsTransitive r → IsAcyclic r
transitive-acyclic r transitive a p = above-irreflexive r a (path-is-step r transitive p.0 a a p.1)
