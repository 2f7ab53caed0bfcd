-- The performances that are given, as the entries of a map.
use Rattle.std.proofs.Common.{◌≡◌, suc, Bool, true, false, [], ◌∷◌, ◌++◌, Option, Some, None, sym, ap, ◌∙◌, arith, cond, subst}
use Rattle.std.specs.Prelude.{IfSome}
use Rattle.std.specs.Map.{lookup}
use Rattle.std.proofs.lemmas.List.Elements.{All-push}
use Rattle.indexmap.specs.IndexMap.{IndexMap, insert_entry}
use Rattle.indexmap.proofs.CallerLemmas.{insert_entry-new}
use Rattle.ror_table.specs.declared.amount.Amount.{Amount}
use Rattle.ror_table.specs.Amounts.{IsAmount}
use Rattle.ror_xmcda.specs.Performances.{Place, Given, is_at, given_at, AreAmounts}

-- a new one goes last
pub given_added : {S : Type 0} (m n : IndexMap Place Amount S) (now : Given) (place : Place) (p : Amount) → m.entries ≡ now → given_at now place ≡ None → n.entries ≡ insert_entry is_at m.entries place p → n.entries ≡ now ++ (place, p) ∷ []
unfolding given_at
given_added m n now place p is absent e = e ∙ insert_entry-new is_at m place p (ap (lookup (is_at place)) is ∙ absent) ∙ ap (λ (es : Given). es ++ (place, p) ∷ []) is

pub amounts_added : (es new : Given) (place : Place) (p : Amount) → AreAmounts es → IsAmount p → new ≡ es ++ (place, p) ∷ [] → AreAmounts new
amounts_added es new place p are amount is = subst AreAmounts (sym is) (All-push (λ g. IsAmount g.1) es (place, p) are amount)

-- what is found is one of them
pub lookup_amount : (test : Place → Bool) (es : Given) → AreAmounts es → IfSome (lookup test es) IsAmount
lookup_amount test [] are = tt
lookup_amount test (e ∷ es) are = by (test e.0) (are 0 e (omega arith)) (lookup_amount test es (λ k d lt. are (suc k) d (omega arith)))
  where
    by : (b : Bool) → IsAmount e.1 → IfSome (lookup test es) IsAmount → IfSome (cond b (Some e.1) (lookup test es)) IsAmount
    by true here rest = here
    by false here rest = rest

pub found_amount : (o : Option Amount) (test : Place → Bool) (es : Given) → o ≡ lookup test es → AreAmounts es → IfSome o IsAmount
found_amount o test es e are = subst (λ (x : Option Amount). IfSome x IsAmount) (sym e) (lookup_amount test es are)
