-- The words of a statement, as a value.
use Rattle.std.specs.Prelude.{option_copied}
use Rattle.ror_show_kit.specs.declared.spoken.Spoken as given
use Rattle.ror_show_kit.specs.declared.spoken.Spoken.TheVariants as words
use Rattle.ror_show_kit.specs.Spoken.{Spoken, two, four, classed}

abbrev pub spoken : given.Spoken → Spoken
spoken (words.Two verb p) = two verb.now p.first.now p.second.now
spoken (words.Four verb p q on) = four verb.now p.first.now p.second.now q.first.now q.second.now (option_copied on)
spoken (words.Class a lowest highest) = classed a.now lowest highest
