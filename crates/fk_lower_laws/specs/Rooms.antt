-- Functions whose private words and values have room in frames of 64 words, by the structure of
-- code.
use Rattle.std.specs.Prelude.{ℕ, ◌+◌, ◌*◌, ◌^◌, ◌<◌, ◌≤◌, true}
use Rattle.fk_meaning_operation.specs.declared.operation.Operation.{Operation}
use Rattle.fk_meaning_operation.specs.declared.operation.Operation.TheVariants.{Get, Set, Frame}
use Rattle.fk_meaning_operation.specs.declared.operation.OwnValue.TheVariants.{Value, FrameAddress}
use Rattle.fk_meaning_operation.specs.declared.operation.Variable.TheVariants.{Private, OfFile}
use Rattle.fk_layout_sizes.specs.Operations.{takes}
use Rattle.fk_meaning_forms.specs.Code.{Code, done, perform, choose, while, until, quit, break}
use Rattle.fk_meaning_forms.specs.Code.{continue, call, ends}
use Rattle.fk_core_liveness.specs.declared.places.FunctionKind.{FunctionKind}
use Rattle.fk_core_liveness.specs.declared.places.FunctionKind.TheVariants.{Main, Called}
use Rattle.fk_core_typing.specs.Heights.{raised}
use Rattle.fk_lower_laws.specs.Room.{HasFew, HasParts}

-- For this many private variables of file scope, and private words of a function.
module _ (firsts words : ℕ) where
  -- The private variable that an operation names exists. Words of group frames have numbers below
  -- 2^21.
  abbrev pub HasWord : Operation → Type 0
  HasWord (Get (Value (Private word))) = word < words
  HasWord (Get (Value (OfFile word))) = word < firsts
  HasWord (Set (Private word)) = word < words
  HasWord (Set (OfFile word)) = word < firsts
  HasWord (Get (FrameAddress nesting word)) = word < 2 ^ 21
  HasWord (Frame nesting frame) = frame < 2 ^ 21
  HasWord operation = Unit {0}

  -- So do the variables that the opening of a call names, which has at most `most` values at each
  -- of its places.
  abbrev pub Opens : (most values : ℕ) → Code ℕ → Type 0
  Opens most h done = h ≤ most
  Opens most h (perform n op rest) = HasWord op × (h ≤ most) × Opens most (raised h op true) rest
  Opens most h code = ⊥

-- For the private words and the values of each function, and the private words of one.
module _ (firsts : ℕ) (all most : (binding : ℕ) → ℕ) (words : ℕ) where
  -- The variables that all operations of code name exist. The opening of a call has room in the
  -- called function, and a call has few arguments.
  abbrev pub HasWords : Code ℕ → Type 0
  HasWords done = Unit {0}
  HasWords (perform n op rest) = HasWord firsts words op × HasWords rest
  HasWords (choose n op x y rest) = HasWord firsts words op × HasWords x × HasWords y
      × HasWords rest
  HasWords (while test body step rest) = HasWords test × HasWords body
      × HasWords step × HasWords rest
  HasWords (until body test rest) = HasWords body × HasWords test × HasWords rest
  HasWords (quit n op rest) = HasWord firsts words op × HasWords rest
  HasWords (break rest) = HasWords rest
  HasWords (continue rest) = HasWords rest
  HasWords (call n op f opening rest) = Opens firsts (all f) (most f) 0 opening
      × (takes op ≤ 56) × HasWords rest
  HasWords (ends n op rest) = HasWord firsts words op × HasWords rest
  HasWords code = ⊥

-- In the frame of `main` the private variables of file scope come before its private words.
abbrev pub ahead_in : (firsts : ℕ) → FunctionKind → ℕ
ahead_in firsts Main = firsts
ahead_in firsts (Called gives) = 0

-- The private words of each function, its values and the levels of its parts have room beside the
-- words before them and the 8 words that a layout counts for each frame: a header of 7, and one for
-- a result after each call, also if the called function gives none.
pub record HaveRoom (bodies : (binding : ℕ) → Code ℕ) (place_of : (binding : ℕ) → FunctionKind)
    (firsts : ℕ) : Type 0 where
  pub words : (binding : ℕ) → ℕ
  pub most : (binding : ℕ) → ℕ
  pub nested : (binding : ℕ) → ℕ
  pub room : (f : ℕ) → ahead_in firsts (place_of f) + 8 + words f + most f + 4 * nested f ≤ 64
  pub own : (f : ℕ) → HasWords firsts words most (words f) (bodies f)
  pub few : (f : ℕ) → HasFew place_of (most f) 0 (bodies f)
  pub parts : (f : ℕ) → HasParts (nested f) 0 (bodies f)
