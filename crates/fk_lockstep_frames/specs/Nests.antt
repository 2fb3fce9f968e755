-- The functions and the parts that a processor is in, with the group frames that it took there.
use Rattle.std.specs.Prelude.{◌≡◌, ℕ, zero, suc, ◌+◌, ◌-◌, ◌^◌, ◌==◌, ◌||◌, nat_lt, Bool, true}
use Rattle.std.specs.Prelude.{false, List, [], ◌∷◌, Option, Some, None, is_some, if◌then◌else◌}
use Rattle.fk_meaning_operation.specs.declared.operation.SplitKind.{SplitKind}
use Rattle.fk_meaning_operation.specs.declared.operation.SplitKind.TheVariants.{IfElse, Fork}
use Rattle.fk_meaning_operation.specs.declared.operation.Operation.{Operation}
use Rattle.fk_meaning_operation.specs.declared.operation.Operation.TheVariants as o
use Rattle.fk_meaning.specs.Behind.{tail}
use Rattle.fk_meaning.specs.Round.{Step}

-- a function or a part that a processor is in, and the words of the group frame that it took there,
-- if it took one. The group of a `start` is a part too. In a numbered part, that of a `start` or of
-- a `fork`, members have an `@` and a `$` of their own; in others they have those of the group
-- around
pub data Nest : Type 0 where
  OfFunction : (frame : Option ℕ) → Nest
  OfPart : (numbered : Bool) → (frame : Option ℕ) → Nest

abbrev pub frame_of : Nest → Option ℕ
frame_of (OfFunction frame) = frame
frame_of (OfPart numbered frame) = frame

abbrev pub with_frame : (words : ℕ) → Nest → Nest
with_frame words (OfFunction frame) = OfFunction (Some words)
with_frame words (OfPart numbered frame) = OfPart numbered (Some words)

abbrev pub words_in : (frame : Option ℕ) → ℕ
words_in None = 0
words_in (Some words) = words

-- The nests of a processor are in a list, the innermost one first. The running function is the
-- first function in it, and `main` is its last element.

-- the number of the innermost nest among those of its function, which itself has number 0
abbrev pub nesting : List Nest → ℕ
nesting [] = 0
nesting (OfFunction frame ∷ nests) = 0
nesting (OfPart numbered frame ∷ nests) = suc (nesting nests)

-- how many levels the frame of a call has: one for each group around its own that the function made
-- itself, by a part. Around the group of a `start`, which is in `main`, there is the root, whose
-- level isn't saved
abbrev pub levels_of : (main : Bool) → List Nest → ℕ
levels_of main nests = nesting nests - (if main then 1 else 0)

-- the words of the frame in the innermost part, if the innermost nest is a part
abbrev pub words_in_part : List Nest → ℕ
words_in_part (OfPart numbered frame ∷ nests) = words_in frame
words_in_part nests = 0

-- the level with a number, the first one having the number 0, if a `fork` left it; and the words of
-- the frame in the part that the `fork` divided
abbrev pub left_by_fork : (numbered : Bool) → (around : List Nest) → Option ℕ
left_by_fork false around = None
left_by_fork true around = Some (words_in_part around)

abbrev pub forks_of : (main : Bool) → List Nest → (level : ℕ) → Option ℕ
forks_of main [] level = None
forks_of main (OfFunction frame ∷ nests) level = None
forks_of main (OfPart numbered frame ∷ nests) level =
    if suc level == levels_of main (OfPart numbered frame ∷ nests) then left_by_fork numbered nests
    else forks_of main nests level

-- whether the innermost group is that of a numbered part
abbrev pub is_numbered : List Nest → Bool
is_numbered [] = true
is_numbered (OfFunction frame ∷ nests) = is_numbered nests
is_numbered (OfPart numbered frame ∷ nests) = numbered

-- the frame of the nest with a number in the running function
abbrev pub frame_at : List Nest → (number : ℕ) → Option ℕ
frame_at [] number = None
frame_at (OfFunction frame ∷ nests) number = if number == 0 then frame else None
frame_at (OfPart numbered frame ∷ nests) number =
    if number == suc (nesting nests) then frame else frame_at nests number

-- whether a frame has a word, and whether that of the nest with a number has it. A frame of more
-- than 2^20 words, which no space has, has each: it is never taken
abbrev pub frame_has : (frame : Option ℕ) → (word : ℕ) → Bool
frame_has None word = false
frame_has (Some words) word = nat_lt word words || nat_lt (2 ^ 20) words

abbrev pub has_word : List Nest → (number word : ℕ) → Bool
has_word nests number word = frame_has (frame_at nests number) word

-- the words of all frames that were taken in the innermost group
abbrev pub taken : List Nest → ℕ
taken [] = 0
taken (OfFunction frame ∷ nests) = taken nests + words_in frame
taken (OfPart numbered frame ∷ nests) = words_in frame

-- the nests without those in the innermost group
abbrev pub outward : List Nest → List Nest
outward [] = []
outward (OfFunction frame ∷ nests) = outward nests
outward (OfPart numbered frame ∷ nests) = nests

-- the nests after an operation, on the branch that it takes. Of the splits a `fork` alone numbers
-- its parts
abbrev pub take_frame : (words : ℕ) → List Nest → List Nest
take_frame words [] = []
take_frame words (nest ∷ nests) = with_frame words nest ∷ nests

abbrev pub numbers : SplitKind → Bool
numbers Fork = true
numbers by = false

abbrev pub behind : Operation → (onward : Bool) → List Nest → List Nest
behind (o.Enter arguments) onward nests = OfFunction None ∷ nests
behind (o.Leave gives framed) onward nests = tail nests
behind (o.Frame number words) onward nests = take_frame words nests
behind o.Begin true nests = OfPart true None ∷ nests
behind o.Begin false nests = nests
behind (o.Split IfElse) onward nests = OfPart false None ∷ nests
behind (o.Split by) true nests = OfPart (numbers by) None ∷ nests
behind (o.Split by) false nests = nests
behind o.Shrink true nests = nests
behind o.Shrink false nests = tail nests
behind o.End onward nests = tail nests
behind operation onward nests = nests

-- where an operation may be done. A function leaves the call that it was entered by, and gives its
-- frame back if it has one. A frame is taken in the innermost nest, which has none yet. A `start`
-- is in `main`, and a part is left in the function that is in it. Members leave the part of a loop,
-- which isn't numbered, one by one
abbrev pub MayLeave : (framed : Bool) → List Nest → Type 0
MayLeave framed (OfFunction frame ∷ nest ∷ nests) = is_some frame ≡ framed
MayLeave framed nests = ⊥

abbrev pub MayTake : (number : ℕ) → List Nest → Type 0
MayTake number [] = ⊥
MayTake number (nest ∷ nests) = (number ≡ nesting (nest ∷ nests)) × (frame_of nest ≡ None)

abbrev pub IsInPart : List Nest → Type 0
IsInPart (OfPart numbered frame ∷ nest ∷ nests) = Unit {0}
IsInPart nests = ⊥

abbrev pub May : Operation → List Nest → Type 0
May (o.Leave gives framed) nests = MayLeave framed nests
May (o.Frame number words) nests = MayTake number nests
May o.Begin nests = nests ≡ OfFunction None ∷ []
May o.Shrink nests = IsInPart nests × (is_numbered nests ≡ false)
May o.End nests = IsInPart nests
May operation nests = Unit {0}

-- `told` gives the nests that a piece of work tells
module _ {W : Type 0} (next : W → Option (Step W)) (told : W → List Nest) where
  -- the nests allow an operation, and the work after it tells what it makes of them
  pub record TellsOn (here : W) (step : Step W) : Type 0 where
    pub may : May step.operation (told here)
    pub on : (onward : Bool)
        → told (step.rest onward) ≡ behind step.operation onward (told here)

  abbrev pub ToldNext : (IsTold : W → Type 0) → (here : W) → Option (Step W) → Type 0
  ToldNext IsTold here None = Unit {0}
  ToldNext IsTold here (Some step) = TellsOn here step
      × ((onward : Bool) → IsTold (step.rest onward))

  -- for this many operations, whichever branches are taken
  abbrev pub ToldFor : (operations : ℕ) → W → Type 0
  ToldFor zero here = Unit {0}
  ToldFor (suc n) here = ToldNext (ToldFor n) here (next here)

  abbrev pub IsTold : W → Type 0
  IsTold here = (operations : ℕ) → ToldFor operations here
