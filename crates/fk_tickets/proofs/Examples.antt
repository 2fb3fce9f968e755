-- A history of two processors, tried before the proof: what the words and the stages are, and that the counts of it are as the proof says.
use Rattle.std.proofs.Common.{◌≡◌, List, [], ◌∷◌, refl}
use Rattle.fk_tickets.specs.Lock.{Event, Draw, Look, Give, Waiting, Inside, at, event}

two : List Event
two = event 0 Draw ∷ event 1 Draw ∷ event 1 Look ∷ event 0 Look ∷ event 0 Give ∷ event 0 Draw ∷ event 1 Look ∷ event 1 Give ∷ event 0 Look ∷ []

waits : (at two 3).stage 1 ≡ Waiting 1
unfolding two
waits = refl

first : (at two 4).stage 0 ≡ Inside
unfolding two
first = refl

again : (at two 6).stage 0 ≡ Waiting 2
unfolding two
again = refl

second : (at two 7).stage 1 ≡ Inside
unfolding two
second = refl

third : (at two 9).stage 0 ≡ Inside
unfolding two
third = refl

words : (at two 9).now ≡ 2
unfolding two
words = refl
