-- One word more.
use Rattle.std.proofs.Common.{◌≡◌, ℕ, ◌++◌, List, [], ◌∷◌, ap, sym, ◌∙◌}
use Rattle.std.proofs.lemmas.List.{append-nil}
use Rattle.ror_show_kit.specs.Layout.{next_word, next_room, wrapped, room_left}

pub one_word : (room : ℕ) (old after w v : List ℕ) → w ≡ v → after ≡ old ++ next_word 3 room w → after ≡ old ++ wrapped 3 room (v ∷ [])
one_word room old after w v same is =
    is ∙ ap (λ (u : List ℕ). old ++ next_word 3 room u) same ∙ ap (λ (qs : List ℕ). old ++ qs) (sym (append-nil (next_word 3 room v)))

pub one_room : (room left : ℕ) (w v : List ℕ) → w ≡ v → left ≡ next_room 3 room w → left ≡ room_left 3 room (v ∷ [])
one_room room left w v same is = is ∙ ap (next_room 3 room) same
