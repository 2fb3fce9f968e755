-- The properties of a token's place, by the holders around it, the innermost first.
use Rattle.std.specs.Prelude.{Bool, true, false, ◌||◌, List, [], ◌∷◌}
use Rattle.fk_regions.specs.declared.around.Region.{Region}
use Rattle.fk_regions.specs.declared.around.Region.TheVariants.{Synchronous, Asynchronous, Neither}
use Rattle.fk_sharing.specs.declared.around.Holder.{Holder}
use Rattle.fk_sharing.specs.declared.around.Holder.TheVariants.{Body, Branch, Loop}

-- the region of a place: that of the innermost body
abbrev pub region : List Holder → Region
region [] = Neither
region (Body here ∷ outer) = here
region (Branch shared ∷ outer) = region outer
region (Loop shared ∷ outer) = region outer

-- a private split: in a synchronous region, by a condition that is not shared
abbrev pub splits : Region → Bool → Bool
splits Synchronous true = false
splits Synchronous false = true
splits Asynchronous shared = false
splits Neither shared = false

-- a place is in a function
abbrev pub is_in_function : List Holder → Bool
is_in_function [] = false
is_in_function (Body here ∷ outer) = true
is_in_function (Branch shared ∷ outer) = is_in_function outer
is_in_function (Loop shared ∷ outer) = is_in_function outer

-- a place is in a private split
abbrev pub is_in_split : List Holder → Bool
is_in_split [] = false
is_in_split (Body here ∷ outer) = is_in_split outer
is_in_split (Branch shared ∷ outer) = splits (region outer) shared || is_in_split outer
is_in_split (Loop shared ∷ outer) = splits (region outer) shared || is_in_split outer

-- one of the holders up to and including the innermost loop is a private split
abbrev pub is_split_to_loop : List Holder → Bool
is_split_to_loop [] = false
is_split_to_loop (Body here ∷ outer) = is_split_to_loop outer
is_split_to_loop (Branch shared ∷ outer) = splits (region outer) shared || is_split_to_loop outer
is_split_to_loop (Loop shared ∷ outer) = splits (region outer) shared

-- one of the holders inside the innermost loop is a private split
abbrev pub is_split_in_loop : List Holder → Bool
is_split_in_loop [] = false
is_split_in_loop (Body here ∷ outer) = is_split_in_loop outer
is_split_in_loop (Branch shared ∷ outer) = splits (region outer) shared || is_split_in_loop outer
is_split_in_loop (Loop shared ∷ outer) = false
