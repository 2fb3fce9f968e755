-- What the frames of a processor have taken of the spaces of its groups.
use Rattle.std.specs.Prelude.{◌≡◌, ℕ, suc, ◌+◌, ◌^◌, ◌<◌, ◌≤◌, true, false, List, [], ◌∷◌, map}
use Rattle.std.specs.Prelude.{drop, Option, Some, None, slice_get}
use Rattle.fk_num.specs.Word.{Memory}
use Rattle.fk_space.specs.Space.{Space, IsSpace}
use Rattle.fk_meaning_operation.specs.declared.operation.OwnValue.TheVariants.{FrameAddress}
use Rattle.fk_meaning_store.specs.Serve.{may_use}
use Rattle.fk_meaning.specs.Processor.{Level, Processor, Setting, setting_of, group_space}
use Rattle.fk_meaning.specs.Local.{known}
use Rattle.fk_meaning.specs.Round.{Step, Runner}
use Rattle.fk_meaning.specs.Schedule.{Schedule, opening, run}
use Rattle.fk_lockstep_frames.specs.Nests.{Nest, OfFunction, OfPart, nesting, words_in, is_numbered}
use Rattle.fk_lockstep_frames.specs.Nests.{has_word, taken, outward, IsTold}

-- the spaces of a processor's groups, the first word of each, their `@` and `$`, and the first
-- words of the frames of its calls by their numbers; the innermost ones come first
abbrev pub spaces_of : Processor → List Space
spaces_of p = map (λ l. l.space) (p.level ∷ p.outer)

abbrev pub lows_of : Processor → List ℕ
lows_of p = map (λ l. l.space.low) (p.level ∷ p.outer)

abbrev pub numbers_of : Processor → List (ℕ × ℕ)
numbers_of p = map (λ l. (l.number, l.rank)) (p.level ∷ p.outer)

abbrev pub frames_of : Processor → List Memory
frames_of p = map (λ c. c.frames) (p.call ∷ p.callers)

-- a space in which frames of so many words were taken
pub record HasTaken (words : ℕ) (s : Space) : Type 0 where
  pub space : IsSpace s
  pub frames : s.frames ≡ s.low + 8 + words

-- each group's space has taken the frames of the nests in the group
abbrev pub AreTaken : List Nest → List Space → Type 0
AreTaken nests [] = nests ≡ []
AreTaken nests (s ∷ spaces) = HasTaken (taken nests) s × AreTaken (outward nests) spaces

-- a frame, if there is one, begins at a word
abbrev pub Begins : (frame : Option ℕ) → (first word : ℕ) → Type 0
Begins None first word = Unit {0}
Begins (Some words) first word = first ≡ word

-- each frame begins directly after those that were taken before it in its group, of which the first
-- begins after the header
abbrev pub AreBegun : List Nest → List Memory → (lows : List ℕ) → Type 0
AreBegun [] [] lows = Unit {0}
AreBegun (OfFunction frame ∷ nests) (firsts ∷ calls) (low ∷ lows) =
    Begins frame (firsts 0) (low + 8 + taken nests) × AreBegun nests calls (low ∷ lows)
AreBegun (OfPart numbered frame ∷ nests) (firsts ∷ calls) (low ∷ lows) =
    Begins frame (firsts (suc (nesting nests))) (low + 8) × AreBegun nests (firsts ∷ calls) lows
AreBegun nests calls lows = ⊥

-- `@` is small, since parts have words of their own. In a part that isn't numbered `@` and `$` are
-- those of the group around
abbrev pub AreNumbered : List Nest → List (ℕ × ℕ) → Type 0
AreNumbered nests [] = Unit {0}
AreNumbered nests (n ∷ []) = n.0 < 2 ^ 16
AreNumbered nests (n ∷ around ∷ numbers) =
    (n.0 < 2 ^ 16) × (is_numbered nests ≡ false → n ≡ around)
    × AreNumbered (outward nests) (around ∷ numbers)

-- in the innermost part of a call frames have taken the words of its own frame
abbrev pub TakesInPart : List Nest → Space → Type 0
TakesInPart (OfPart numbered frame ∷ nests) s = s.frames ≡ s.low + 8 + words_in frame
TakesInPart nests s = Unit {0}

-- in a part of the call that isn't numbered `@` and `$` are those of the group around
abbrev pub KeepsNumbers : List Nest → List (ℕ × ℕ) → Type 0
KeepsNumbers (OfPart false frame ∷ nests) (n ∷ around ∷ numbers) = n ≡ around
KeepsNumbers nests numbers = Unit {0}

-- the spaces, the frames and the numbers of a processor are those of its nests
pub record HasNests (nests : List Nest) (p : Processor) : Type 0 where
  pub spaces : AreTaken nests (spaces_of p)
  pub frames : AreBegun nests (frames_of p) (lows_of p)
  pub numbers : AreNumbered nests (numbers_of p)

-- the frame of the running call with a number is the first in a group, which is so many levels
-- outward and has some level around it
pub record IsFirstFrame (out number : ℕ) (p : Processor) : Type 0 where
  pub level : Level
  pub around : Level
  pub further : List Level
  pub there : drop out (p.level ∷ p.outer) ≡ level ∷ around ∷ further
  pub first : p.call.frames number ≡ level.space.low + 8
  pub within : level.space.low + 8 ≤ 2 ^ 20

-- in every run, if the work of `main` tells its nests, and the words for groups are a space
abbrev pub FramesAreAsTold : (W : Type 0) → Type 0
FramesAreAsTold W =
    (next : W → Option (Step W)) (told : W → List Nest) (program : W)
    → told program ≡ OfFunction None ∷ [] → IsTold next told program
    → (setting : Setting) (schedule : Schedule) (processors : ℕ) (globals input : List ℕ)
    (firsts : Memory) → IsSpace (group_space (setting_of processors globals input))
    → (h : ℕ) (r : Runner W)
    → slice_get (run next setting schedule
    (opening processors globals input firsts program)).runners h ≡ Some r
    → HasNests (told r.left) r.has

-- a frame, if there is one, lies in a space: after the header, and before the free words
abbrev pub Lies : (frame : Option ℕ) → (first : ℕ) → Space → Type 0
Lies None first s = Unit {0}
Lies (Some words) first s = (s.low + 8 ≤ first) × (first + words ≤ s.frames)

abbrev pub AllLie : List Nest → List Memory → List Space → Type 0
AllLie [] [] spaces = Unit {0}
AllLie (OfFunction frame ∷ nests) (firsts ∷ calls) (s ∷ spaces) =
    Lies frame (firsts 0) s × AllLie nests calls (s ∷ spaces)
AllLie (OfPart numbered frame ∷ nests) (firsts ∷ calls) (s ∷ spaces) =
    Lies frame (firsts (suc (nesting nests))) s × AllLie nests (firsts ∷ calls) spaces
AllLie nests calls spaces = ⊥

-- the frames lie in the spaces of their groups, and a word of a frame of the running call has an
-- address that may be used
pub record FramesLie (nests : List Nest) (p : Processor) : Type 0 where
  pub lie : AllLie nests (frames_of p) (spaces_of p)
  pub usable : (setting : Setting) (number word : ℕ) → has_word nests number word ≡ true
      → may_use true (known setting p (FrameAddress number word)) ≡ true

abbrev pub FramesLieInSpaces : Type 0
FramesLieInSpaces = (nests : List Nest) (p : Processor) → HasNests nests p → FramesLie nests p
