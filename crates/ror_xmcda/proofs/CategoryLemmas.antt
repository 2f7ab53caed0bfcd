-- What all that is read of categories keeps.
use Rattle.std.proofs.Common.{◌≡◌, ℕ, ◌+◌, ◌<◌, Bool, true, false, List, length, Result, Ok, refl, sym, ap, ◌∙◌, arith, cond, subst, lit≤}
use Rattle.std.specs.Prelude.{IfOk, nat_le}
use Rattle.std.proofs.lemmas.Bool.{leb-false}
use Rattle.std.proofs.lemmas.List.{length_push}
use Rattle.ror_text.specs.Reading.{refuse}
use Rattle.ror_text.proofs.ReadingLemmas.{keeps, refuse_ok, read_all_keeps}
use Rattle.ror_table.specs.declared.fault.TableFault.{TableFault}
use Rattle.ror_elements.specs.Tree.{Tree}
use Rattle.ror_xmcda.specs.declared.categories.Categories.{Categories}
use Rattle.ror_xmcda.specs.Listing.{new_id, is_active}
use Rattle.ror_xmcda.specs.Roster.{with_left_out}
use Rattle.ror_xmcda.specs.Categories.{AreRanked, rank_of, kept_category, category, no_categories, categories_of}

kept_ranked : (c : Categories) (id : List ℕ) (t : Tree) → AreRanked c → IfOk (kept_category c id t) AreRanked
kept_ranked c id t are =
    keeps AreRanked (rank_of c.ranks t) _ (λ rank e. keeps AreRanked (refuse _ (nat_le 100 (length c.ranks))) _ (λ u f.
    let room : length c.ranks < 100 = leb-false 100 (length c.ranks) (refuse_ok _ _ u f) in
    record {
      paired = length_push c.ids.kept id ∙ ap (λ (n : ℕ). n + 1) are.paired ∙ sym (length_push c.ranks rank);
      few = omega (arith, length_push c.ranks rank);
    }))

pub category_ranked : (c : Categories) (t : Tree) → AreRanked c → IfOk (category c t) AreRanked
unfolding category
category_ranked c t are =
    keeps AreRanked (new_id c.ids t) _ (λ id e. keeps AreRanked (is_active t) _ (λ active f. by id active))
  where
    by : (id : List ℕ) (active : Bool) → IfOk (cond active (kept_category c id t) (Ok (record c { ids = with_left_out c.ids id }))) AreRanked
    by id true = kept_ranked c id t are
    by id false = record { paired = are.paired; few = are.few }

pub categories_ranked : (root : Tree) → IfOk (categories_of root) AreRanked
unfolding categories_of
categories_ranked root = read_all_keeps AreRanked category category_ranked no_categories _ (record { paired = refl; few = lit≤ tt })

pub ranked_from : (root : Tree) (c : Categories) → categories_of root ≡ Ok c → AreRanked c
ranked_from root c e = subst (λ (r : Result Categories TableFault). IfOk r AreRanked) e (categories_ranked root)
