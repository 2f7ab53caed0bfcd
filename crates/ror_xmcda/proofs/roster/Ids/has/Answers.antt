use Rattle.std.proofs.Common.{ap, sym, ◌∙◌, List, ℕ}
use Rattle.std.specs.Str.{bytes_eq}
use Rattle.std.specs.String.{string_bytes}
use Rattle.ror_text.proofs.LineLemmas.{list_any-map}
use Rattle.ror_table.specs.Draft.{has_id}
use Rattle.ror_xmcda.proofs.roster.Ids.has.Goals as goal

pub returns : goal.returns
returns c =
    c.contains.ensures
    ∙ sym (list_any-map (bytes_eq c.args.id.now) string_bytes c.self.inside.ids.keys)
    ∙ ap (λ (ids : List (List ℕ)). has_id ids c.args.id.now) c.self.view_is
