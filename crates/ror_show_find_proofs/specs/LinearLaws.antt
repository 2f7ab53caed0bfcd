-- Where it isn't used that a criterion is linear, and where it is.
use Rattle.std.specs.Prelude.{◌≡◌, ℕ, zero, suc, ◌<◌, true, false, ◌∷◌, length, map, ℤ, pos, ◌+ℤ◌, ◌-ℤ◌, ◌≤ℤ◌}
use Rattle.ror_integers.specs.Vectors.{dot}
use Rattle.ror_statement.specs.declared.comparison.Form.{Form}
use Rattle.ror_statement.specs.declared.comparison.Form.TheVariants.{Value, Strength}
use Rattle.ror_table.specs.Table.{DecisionTable, is_linear, rank, steps}
use Rattle.ror_system.specs.declared.accept.Multipliers.{Multipliers}
use Rattle.ror_rows.specs.Rows.{rank_in}
use Rattle.ror_show_find_proofs.specs.declared.compared.Forms.{Forms}
use Rattle.ror_show_find_proofs.specs.Linear.{AreNamedForms, uses_linear}

-- what a rank is worth, by the gains of the steps below it
abbrev pub worth : (ℕ → ℤ) → ℕ → ℤ
worth gain zero = pos 0
worth gain (suc k) = worth gain k +ℤ gain k

-- what the first quantity of a form has on the criterion more than the second one
abbrev pub surplus : DecisionTable → ℕ → (ℕ → ℤ) → Form → ℤ
surplus t i gain (Value a b) = worth gain (rank t a i) -ℤ worth gain (rank t b i)
surplus t i gain (Strength p q s) = (worth gain (rank_in t s p.first i) -ℤ worth gain (rank_in t s p.second i))
    -ℤ (worth gain (rank_in t s q.first i) -ℤ worth gain (rank_in t s q.second i))

-- what the multipliers sum up on the criterion: the row of ones counts the best level
abbrev pub summed_on : DecisionTable → Forms → Multipliers → ℕ → (ℕ → ℤ) → ℤ
summed_on t f m i gain = dot (map (surplus t i gain) f.weak) m.weak
    +ℤ dot (worth gain (steps t i) ∷ map (surplus t i gain) f.strict) m.strict

-- On a linear criterion of which it isn't used that it is linear, what is summed up isn't above 0, whatever the gains of its steps are, of
-- which none is below 0: so a function that isn't linear there is refuted in the same way.
abbrev pub OthersMayBend : Type 0
OthersMayBend = (t : DecisionTable) (f : Forms) (m : Multipliers) (i : ℕ) (gain : ℕ → ℤ) → i < length t.criteria → AreNamedForms t f
    → is_linear t i ≡ true → uses_linear t f m i ≡ false → ((k : ℕ) → k < steps t i → pos 0 ≤ℤ gain k)
    → summed_on t f m i gain ≤ℤ pos 0
