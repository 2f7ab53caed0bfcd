use Rattle.std.proofs.Common.{◌≡◌, ◌++◌, map, take}
use Rattle.ror_show_kit.specs.Layout.{room_behind, room_left, wrapped}
use Rattle.ror_show_text_functions.proofs.words.write_words.Given as goal

abbrev pub invariant-loop-k : goal.invariant-loop-k
invariant-loop-k l = record {
  printed : l.text.items ≡ l.fn.text.items ++ wrapped 3 (room_behind 1) (take l.k (map (λ word. word.now) l.words));
  room : l.room ≡ room_left 3 (room_behind 1) (take l.k (map (λ word. word.now) l.words));
}
