-- What is known of the bytes that a sink took, and of those that a source has left.
use Rattle.std.specs.Prelude.{◌≡◌, ℕ, ◌≤◌, List, ◌++◌, Option, IfSome, length, take}
use Rattle.std.specs.Io.KnownBytes.{append_known, prepend_known}

-- A sink that had taken `before` took some of these bytes from their front, and has now taken
-- `now`.
pub record TakesPrefix (before now : Option (List ℕ)) (bytes : List ℕ) : Type 0 where
  pub front : List ℕ
  pub rest : List ℕ
  pub parts : bytes ≡ front ++ rest
  pub taken : now ≡ append_known before front

-- A source that had `before` left gave at most `most` bytes from its front, and has `now` left.
pub record GivesAtMost (most : ℕ) (before now : Option (List ℕ)) : Type 0 where
  pub given : List ℕ
  pub few : length given ≤ most
  pub left : before ≡ prepend_known given now

-- The first bytes that a source had left, `most` of them or all, were moved after the old bytes.
pub record MovesFirst (most : ℕ) (before now : Option (List ℕ)) (old new : List ℕ) : Type 0 where
  pub bytes : List ℕ
  pub few : length bytes ≤ most
  pub appended : new ≡ old ++ bytes
  pub left : before ≡ prepend_known bytes now
  pub first : IfSome before (λ left. bytes ≡ take most left)

-- A sink that had taken `before` took the front of these bytes, and has now taken `now`. The rest is
-- still to be given.
pub record IsGiven (bytes rest : List ℕ) (before now : Option (List ℕ)) : Type 0 where
  pub front : List ℕ
  pub whole : bytes ≡ front ++ rest
  pub taken : now ≡ append_known before front
