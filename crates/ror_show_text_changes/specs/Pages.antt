-- What changed in relations and in classes, as plain text: a function of what is found.
use Rattle.std.specs.Prelude.{ℕ, List, [], ◌∷◌, ◌++◌, length, slice_get}
use Rattle.std.specs.List.{flat_map, range_with_len}
use Rattle.std.specs.Option.{option_map_or}
use Rattle.ror_show_ground.specs.Grounds.{Ground}
use Rattle.ror_show_find_classes.specs.declared.value.ClassTime.{ClassTime}
use Rattle.ror_show_find_classes.specs.declared.changes.ClassChangeFound.{ClassChangeFound}
use Rattle.ror_show_find_reasons.specs.declared.pairs.ChangeFound.{ChangeFound}
use Rattle.ror_show_text_classes.specs.Pages.{gap}
use Rattle.ror_show_text_changes.specs.Text as relations
use Rattle.ror_show_text_changes.specs.ClassText as classes

-- ---- relations: each behind an empty line, where it isn't the first

abbrev pub relation_change : Ground → ℕ → ChangeFound → List ℕ
relation_change g k f = gap k ++ relations.change_text g f

abbrev pub relation_part : Ground → List ChangeFound → ℕ → List ℕ
relation_part g fs k = option_map_or (relation_change g k) (slice_get fs k) []

abbrev pub relation_changes : Ground → List ChangeFound → List ℕ
relation_changes g fs = flat_map (relation_part g fs) (range_with_len 0 (length fs))

-- ---- classes

abbrev pub class_change : Ground → List ClassTime → ℕ → ClassChangeFound → List ℕ
class_change g times k f = gap k ++ classes.change_text g times f

abbrev pub class_part : Ground → List ClassTime → List ClassChangeFound → ℕ → List ℕ
class_part g times fs k = option_map_or (class_change g times k) (slice_get fs k) []

abbrev pub class_changes : Ground → List ClassTime → List ClassChangeFound → List ℕ
class_changes g times fs = flat_map (class_part g times fs) (range_with_len 0 (length fs))

-- ---- the page

-- one text and another, with an empty line between two of which none is empty
abbrev pub behind : List ℕ → List ℕ → List ℕ
behind [] other = other
behind one [] = one
behind one other = one ++ 10 ∷ other

abbrev pub changes_text : Ground → List ChangeFound → List ClassTime → List ClassChangeFound → List ℕ
changes_text g fs times cs = behind (relation_changes g fs) (class_changes g times cs)
