use Rattle.std.proofs.Common.{ℕ, List, Bor, map, sym, subst}
use Rattle.std.specs.List.{AllByRecursion}
use Rattle.std.specs.Str.{IsUtf8}
use Rattle.ror_session.proofs.LineLemmas.{all_dropped, map_rest}
use Rattle.ror_session.proofs.command.words_after.Goals as goal

pub returns-then-count-words-clause-rest : goal.returns-then-count-words-clause-rest
returns-then-count-words-clause-rest c = map_rest (λ (word : Bor (List ℕ)). word.now) c.args.count c.args.words.now

pub returns-then-count-words-clause-utf8 : goal.returns-then-count-words-clause-utf8
returns-then-count-words-clause-utf8 c = subst (λ (ws : List (List ℕ)). AllByRecursion IsUtf8 ws) (sym (map_rest (λ (word : Bor (List ℕ)). word.now) c.args.count c.args.words.now)) (all_dropped IsUtf8 c.args.count (map (λ (word : Bor (List ℕ)). word.now) c.args.words.now) c.requires.utf8)
