-- The properties of a token's place, by the holders around it, the innermost first.
use Rattle.std.specs.Prelude.{Bool, true, false, List, [], ◌∷◌}
use Rattle.fk_syntax.specs.declared.program.Mode.{Mode}
use Rattle.fk_syntax.specs.declared.program.Mode.TheVariants.{Sync, Async, Straight}
use Rattle.fk_regions.specs.declared.around.Holder.{Holder}
use Rattle.fk_regions.specs.declared.around.Holder.TheVariants.{Main, Function, Block, Branch, Loop}
use Rattle.fk_regions.specs.declared.around.Holder.TheVariants.{Start, Fork, Farm, Seq}
use Rattle.fk_regions.specs.declared.around.Region.{Region}
use Rattle.fk_regions.specs.declared.around.Region.TheVariants.{Synchronous, Asynchronous, Neither}
use Rattle.fk_regions.specs.declared.around.Loops.{Loops}
use Rattle.fk_regions.specs.declared.around.Loops.TheVariants.{Outside, Inside, Beyond}

-- the region of a body by the mode of its function; a straight one runs as its callers do
abbrev pub region_by : Mode → Region
region_by Sync = Synchronous
region_by Async = Asynchronous
region_by Straight = Neither

-- the region of a place, by the innermost function, `start`, `fork`, `farm` or `seq`
abbrev pub region : List Holder → Region
region [] = Neither
region (Main mode ∷ outer) = region_by mode
region (Function mode ∷ outer) = region_by mode
region (Block ∷ outer) = region outer
region (Branch ∷ outer) = region outer
region (Loop ∷ outer) = region outer
region (Start ∷ outer) = Synchronous
region (Fork ∷ outer) = Synchronous
region (Farm ∷ outer) = Asynchronous
region (Seq ∷ outer) = Asynchronous

-- a loop, as seen from the body of a `start`, `fork`, `farm` or `seq` inside it
abbrev pub beyond : Loops → Loops
beyond Outside = Outside
beyond Inside = Beyond
beyond Beyond = Beyond

-- the innermost loop around a place
abbrev pub loops : List Holder → Loops
loops [] = Outside
loops (Main mode ∷ outer) = Outside
loops (Function mode ∷ outer) = Outside
loops (Block ∷ outer) = loops outer
loops (Branch ∷ outer) = loops outer
loops (Loop ∷ outer) = Inside
loops (Start ∷ outer) = beyond (loops outer)
loops (Fork ∷ outer) = beyond (loops outer)
loops (Farm ∷ outer) = beyond (loops outer)
loops (Seq ∷ outer) = beyond (loops outer)

abbrev pub is_straight_mode : Mode → Bool
is_straight_mode Sync = false
is_straight_mode Async = false
is_straight_mode Straight = true

-- the function around a place is straight
abbrev pub is_straight : List Holder → Bool
is_straight [] = false
is_straight (Main mode ∷ outer) = is_straight_mode mode
is_straight (Function mode ∷ outer) = is_straight_mode mode
is_straight (Block ∷ outer) = is_straight outer
is_straight (Branch ∷ outer) = is_straight outer
is_straight (Loop ∷ outer) = is_straight outer
is_straight (Start ∷ outer) = is_straight outer
is_straight (Fork ∷ outer) = is_straight outer
is_straight (Farm ∷ outer) = is_straight outer
is_straight (Seq ∷ outer) = is_straight outer

-- a place is directly in the outermost block of `main`
abbrev pub is_in_main : List Holder → Bool
is_in_main [] = false
is_in_main (Main mode ∷ outer) = true
is_in_main (Function mode ∷ outer) = false
is_in_main (Block ∷ outer) = false
is_in_main (Branch ∷ outer) = false
is_in_main (Loop ∷ outer) = false
is_in_main (Start ∷ outer) = false
is_in_main (Fork ∷ outer) = false
is_in_main (Farm ∷ outer) = false
is_in_main (Seq ∷ outer) = false

-- a place is in a `start`, `fork`, `farm` or `seq`
abbrev pub is_in_body : List Holder → Bool
is_in_body [] = false
is_in_body (Main mode ∷ outer) = false
is_in_body (Function mode ∷ outer) = false
is_in_body (Block ∷ outer) = is_in_body outer
is_in_body (Branch ∷ outer) = is_in_body outer
is_in_body (Loop ∷ outer) = is_in_body outer
is_in_body (Start ∷ outer) = true
is_in_body (Fork ∷ outer) = true
is_in_body (Farm ∷ outer) = true
is_in_body (Seq ∷ outer) = true
