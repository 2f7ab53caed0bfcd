-- The laws of amounts, levels, weights and plain tables that the crate claims.
use Rattle.std.specs.Prelude.{◌≡◌, ◌⊎◌, ◌↔◌, ℕ, ◌+◌, ◌<◌, ◌≤◌, ◌^◌, true, false, List, length, Some, None, Ok, Err, ℤ, pos, ◌*ℤ◌, ◌-ℤ◌, ◌<ℤ◌, unsigned_abs, All, Contains}
use Prim.Native.Nat.{◌∣◌}
use Rattle.ror_integers.specs.Gcd.{gcd_of}
use Rattle.ror_table.specs.declared.amount.Amount.{Amount}
use Rattle.ror_table.specs.declared.fault.TableFault.{TableFault}
use Rattle.ror_table.specs.declared.limits.TheConstants.{AMOUNT_LIMIT, MOST_ALTERNATIVES, MOST_CRITERIA, MOST_STEPS, MOST_CLASSES}
use Rattle.ror_table.specs.declared.plain.Version.{Version}
use Rattle.ror_table.specs.Amounts.{IsAmount, amount_of, is_same, is_smaller}
use Rattle.ror_table.specs.Table.{DecisionTable, IsTable, IsEvaluated, performances_on, performance_at, rank_of, rank, steps, level, common_denominator, distance, has_weights, has_wide_weights, weights, weight}
use Rattle.ror_table.specs.Plain.{body_line, plain_table}
use Rattle.ror_table.specs.Grammar.{LineWords, IsPlainText}
use Rattle.ror_table.specs.LineFaults.{IsFirstOfLine}
use Rattle.ror_table.specs.Faults.{IsFirstFaultOf}

-- what is read is in the grammar, and what is in the grammar is read
abbrev pub ReadsTheGrammar : Type 0
ReadsTheGrammar = (bytes : List ℕ) (t : DecisionTable)
    → (plain_table bytes ≡ Ok t) ↔ IsPlainText bytes t

-- the fault that is given is the first, and the first is given
abbrev pub GivesTheFirstFault : Type 0
GivesTheFirstFault = (bytes : List ℕ) (fault : TableFault)
    → (plain_table bytes ≡ Err fault) ↔ IsFirstFaultOf bytes fault

-- the fault of a line is the first of its tests that it fails
abbrev pub LinesFailFirst : Type 0
LinesFailFirst = (version : Version) (t : DecisionTable) (line : ℕ × LineWords) (fault : TableFault)
    → (body_line version t line ≡ Err fault) ↔ ((fault.line ≡ line.0) × IsFirstOfLine version t line.1 fault.kind)

-- what the limits of a table are
abbrev pub LimitsAre : Type 0
LimitsAre = (MOST_ALTERNATIVES ≡ 200) × (MOST_CRITERIA ≡ 64) × (MOST_STEPS ≡ 2000)
    × (MOST_CLASSES ≡ 100) × (AMOUNT_LIMIT ≡ 10 ^ 18)

-- Amounts are the fractions that they are made from, and each can be made. Two of them are the same where their cross products are equal; else
-- one is smaller, and only one; and what is smaller than a smaller one is smaller.
pub record AmountsAreFractions : Type 0 where
  pub made : (n d : ℤ) (p : Amount) → amount_of n d ≡ Some p
      → IsAmount p × (p.num *ℤ d ≡ n *ℤ p.den)
  pub made_again : (p : Amount) → IsAmount p → amount_of p.num p.den ≡ Some p
  pub refused : (n d : ℤ) → (amount_of n d ≡ None)
      ↔ ((pos 0 <ℤ d) × (unsigned_abs n < 10 ^ 18) × (unsigned_abs d < 10 ^ 18) → ⊥)
  pub same : (p q : Amount) → IsAmount p → IsAmount q
      → (is_same p q ≡ true) ↔ (p.num *ℤ q.den ≡ q.num *ℤ p.den)
  pub total : (p q : Amount) → IsAmount p → IsAmount q
      → (is_smaller p q ≡ true) ⊎ ((is_same p q ≡ true) ⊎ (is_smaller q p ≡ true))
  pub one_way : (p q : Amount) → is_smaller p q ≡ true
      → (is_same p q ≡ false) × (is_smaller q p ≡ false)
  pub transitive : (p q r : Amount) → IsAmount p → IsAmount q → IsAmount r
      → is_smaller p q ≡ true → is_smaller q r ≡ true → is_smaller p r ≡ true

-- how far two amounts lie apart, times both denominators
abbrev pub apart : Amount → Amount → ℕ
apart p q = unsigned_abs (p.num *ℤ q.den -ℤ q.num *ℤ p.den)

-- each rank from 0 to the steps is that of a performance, the level of this rank; an alternative's performance is the level of
-- its rank
pub record RanksHaveLevels : Type 0 where
  pub each : (t : DecisionTable) (i r : ℕ) → IsTable t → i < length t.criteria → r ≤ steps t i
      → Contains (performances_on t i) (level t i r) × (rank_of t i (level t i r) ≡ r)
  pub of_alternative : (t : DecisionTable) (a i : ℕ) → IsTable t → a < length t.alternatives
      → i < length t.criteria → level t i (rank t a i) ≡ performance_at t a i

-- each denominator divides the common one, and that divides whatever all of them divide
pub record IsLeastCommon (ps : List Amount) (d : ℕ) : Type 0 where
  pub multiple : All (λ p. unsigned_abs p.den ∣ d) ps
  pub least : (n : ℕ) → All (λ p. unsigned_abs p.den ∣ n) ps → d ∣ n

-- On a criterion of evaluated alternatives the common denominator is the least one, and a level's distance is how far it lies
-- from the worst level, times that. The scale is too wide where the common denominator or the best level's distance is 10 ^ 18
-- or more.
pub record IsScaled (t : DecisionTable) (i : ℕ) : Type 0 where
  pub common : IsLeastCommon (performances_on t i) (common_denominator (performances_on t i))
  pub distances : (r : ℕ) → r ≤ steps t i
      → pos (distance t i r) *ℤ ((level t i r).den *ℤ (level t i 0).den)
      ≡ pos (common_denominator (performances_on t i)) *ℤ pos (apart (level t i r) (level t i 0))
  pub wide : (has_wide_weights t i ≡ true) ↔ ((has_weights t i ≡ true)
      × ((10 ^ 18 ≤ common_denominator (performances_on t i)) ⊎ (10 ^ 18 ≤ distance t i (steps t i))))

abbrev pub ScalesAreDistances : Type 0
ScalesAreDistances = (t : DecisionTable) (i : ℕ) → 0 < length t.alternatives
    → All (IsEvaluated (length t.criteria)) t.alternatives → i < length t.criteria → IsScaled t i

-- The weights of a linear criterion's levels: that of the worst one is 0, they rise to the best one, no number above 1 divides
-- all of them, and they are in the ratios of the levels' distances from the worst one.
pub record AreRatios (t : DecisionTable) (i : ℕ) : Type 0 where
  pub number : length (weights t i) ≡ steps t i + 1
  pub worst : weight t i 0 ≡ pos 0
  pub rising : (r s : ℕ) → r < s → s ≤ steps t i → weight t i r <ℤ weight t i s
  pub coprime : gcd_of (weights t i) ≡ 1
  pub ratios : (r s : ℕ) → r ≤ steps t i → s ≤ steps t i
      → weight t i r *ℤ (pos (apart (level t i s) (level t i 0)) *ℤ (level t i r).den)
      ≡ weight t i s *ℤ (pos (apart (level t i r) (level t i 0)) *ℤ (level t i s).den)

abbrev pub WeightsAreRatios : Type 0
WeightsAreRatios = (t : DecisionTable) (i : ℕ) → IsTable t → i < length t.criteria
    → has_weights t i ≡ true → AreRatios t i
