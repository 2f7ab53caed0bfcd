-- The faults of a draft under other names.
use Rattle.std.proofs.Common.{◌≡◌, Bool, true, false, not, ◌||◌, eqb, ltb, leb, List, ℕ, length, Option, Some, None, Result, Ok, Err, refl, ap}
use Rattle.std.specs.Option.{option_map}
use Rattle.std.specs.Prelude.{IfSome}
use Rattle.ror_text.specs.Ids.{is_id}
use Rattle.ror_text.specs.Reading.{◌>>=◌, refuse}
use Rattle.ror_table.specs.declared.amount.Amount.{Amount}
use Rattle.ror_table.specs.declared.direction.Scale.{Scale}
use Rattle.ror_table.specs.Draft.{add_criterion, add_alternative, finished, has_id, with_criterion, with_alternative}
use Rattle.ror_table.specs.Table.{DecisionTable, columns, criterion_ids, alternative_ids, has_wide_scale}

abbrev pub renamed : {A F G : Type 0} → (F → G) → Result A F → Result A G
renamed g (Ok x) = Ok x
renamed g (Err e) = Err (g e)

-- by another name the fault is there where it was
pub err_renamed : {A F G : Type 0} (o : Option F) (p : Option G) (g : F → G) (reading : Result A F) → p ≡ option_map g o → IfSome o (λ f. reading ≡ Err f) → IfSome p (λ f. renamed g reading ≡ Err f)
err_renamed None p g reading e h = rw e tt
err_renamed (Some f) p g reading e h = rw e (ap (renamed g) h)

two_and_one : {A F G : Type 0} (g : F → G) (a b c : F) (p q r : Bool) (x : A) → ((refuse (g a) p >>= (λ _. refuse (g b) q)) >>= (λ _. refuse (g c) r >>= (λ _. Ok x))) ≡ renamed g ((refuse a p >>= (λ _. refuse b q)) >>= (λ _. refuse c r >>= (λ _. Ok x)))
two_and_one g a b c true q r x = refl
two_and_one g a b c false true r x = refl
two_and_one g a b c false false true x = refl
two_and_one g a b c false false false x = refl

three : {A F G : Type 0} (g : F → G) (a b c : F) (p q r : Bool) (x : A) → (refuse (g a) p >>= (λ _. refuse (g b) q >>= (λ _. refuse (g c) r >>= (λ _. Ok x)))) ≡ renamed g (refuse a p >>= (λ _. refuse b q >>= (λ _. refuse c r >>= (λ _. Ok x))))
three g a b c true q r x = refl
three g a b c false true r x = refl
three g a b c false false true x = refl
three g a b c false false false x = refl

pub criterion_renamed : {F G : Type 0} (g : F → G) (a b c : F) (t : DecisionTable) (id : List ℕ) (scale : Scale) → with_criterion (g a) (g b) (g c) t id scale ≡ renamed g (with_criterion a b c t id scale)
unfolding with_criterion
criterion_renamed g a b c t id scale = two_and_one g a b c (not (is_id id)) (has_id (criterion_ids t) id) (leb 64 (length t.criteria)) (add_criterion t id scale)

pub alternative_renamed : {F G : Type 0} (g : F → G) (a b c : F) (t : DecisionTable) (id : List ℕ) (ps : List Amount) → with_alternative (g a) (g b) (g c) t id ps ≡ renamed g (with_alternative a b c t id ps)
unfolding with_alternative
alternative_renamed g a b c t id ps = two_and_one g a b c (not (is_id id)) (has_id (alternative_ids t) id) (leb 200 (length t.alternatives)) (add_alternative t id ps)

pub finished_renamed : {F G : Type 0} (g : F → G) (a b c : F) (t : DecisionTable) → finished (g a) (g b) (g c) t ≡ renamed g (finished a b c t)
unfolding finished
finished_renamed g a b c t = three g a b c (eqb (length t.criteria) 0 || eqb (length t.alternatives) 0) (ltb 2000 (columns t)) (has_wide_scale t) t
