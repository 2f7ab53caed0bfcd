use Rattle.std.proofs.Common.{◌≡◌, ◌+◌, true, List, ℕ, [], ◌∷◌, ◌++◌, take, drop, append_assoc, sym, ap, ◌∙◌, subst}
use Rattle.std.specs.List.{AllByRecursion, flat_map}
use Rattle.std.specs.Str.{IsUtf8}
use Rattle.std.proofs.lemmas.List.{take_more}
use Rattle.ror_text.proofs.Everywhere.{all-append}
use Rattle.ror_group.specs.Head.{desk_text, is_visible_name, is_desk_name}
use Rattle.ror_group.proofs.HeadLemmas.{rest_is, name_allowed, named_at}
use Rattle.ror_group.proofs.head.write_desks.Goals as goal

pub names-preserved : goal.names-preserved
names-preserved c =
    let names = c.args.names.now in
    let i = c.names.name-index in
    let name = c.name-item.result in
    let more : take (i + 1) names ≡ take i names ++ name ∷ [] = take_more names i name c.names-test.true ∙ ap (λ (x : List ℕ). take i names ++ x ∷ []) (sym c.name-item.is) in
    let visible = named_at (λ name. is_visible_name name ≡ true) names i name c.names-test.true c.name-item.is c.requires in
    let rest = rest_is names i name c.names-test.true c.name-item.is in
    let written : c.write_desk.new.text.items ≡ c.names.text.items ++ desk_text name = c.in_ok-write_desk.ensures.ok ∙ ap (λ (x : List ℕ). c.names.text.items ++ desk_text x) (c.as_bytes.ensures.value ∙ c.as_str.ensures) in
    record {
      printed = ap (λ (l : List ℕ). l ++ flat_map desk_text (drop (i + 1) names)) written
          ∙ append_assoc c.names.text.items (desk_text name) (flat_map desk_text (drop (i + 1) names))
          ∙ ap (λ (l : List (List ℕ)). c.names.text.items ++ flat_map desk_text l) (sym rest)
          ∙ c.names.invariant.printed;
      allowed = subst (AllByRecursion (λ name. is_desk_name name ≡ true)) (sym more) (all-append (λ name. is_desk_name name ≡ true) (take i names) (name ∷ []) c.names.invariant.allowed (name_allowed name visible (subst IsUtf8 c.as_str.ensures c.as_str.utf8), tt));
    }
