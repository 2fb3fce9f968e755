-- The surroundings of a token, as the code keeps them.
use Rattle.std.specs.Prelude.{Bool, true, false}
use Rattle.fk_syntax.specs.declared.program.Mode.{Mode}
use Rattle.fk_regions.specs.declared.around.Holder.{Holder}
use Rattle.fk_regions.specs.declared.around.Holder.TheVariants.{Main, Function, Block, Branch, Loop}
use Rattle.fk_regions.specs.declared.around.Holder.TheVariants.{Start, Fork, Farm, Seq}
use Rattle.fk_regions.specs.declared.around.Region.{Region}
use Rattle.fk_regions.specs.declared.around.Region.TheVariants.{Synchronous, Asynchronous, Neither}
use Rattle.fk_regions.specs.declared.around.Loops.TheVariants.{Outside, Inside}
use Rattle.fk_regions.specs.declared.around.Around.{Around}
use Rattle.fk_regions.specs.declared.token.Token.{Token}
use Rattle.fk_regions.specs.Tokens.{TokenIn}
use Rattle.fk_regions.specs.Around.{region_by, beyond, is_straight_mode}

-- the surroundings at file scope, where there is no holder
abbrev pub outside : Around
outside =
    record { region = Neither; loops = Outside; straight = false; in_main = false; in_body = false }

abbrev pub function_around : Mode → Bool → Around
function_around mode in_main = record {
  region = region_by mode;
  loops = Outside;
  straight = is_straight_mode mode;
  in_main = in_main;
  in_body = false;
}

abbrev pub body_around : Region → Around → Around
body_around region around =
    record around { region = region; loops = beyond around.loops; in_main = false; in_body = true }

-- the surroundings of the parts of a holder, by those of the holder
abbrev pub within : Holder → Around → Around
within (Main mode) around = function_around mode true
within (Function mode) around = function_around mode false
within Block around = record around { in_main = false }
within Branch around = record around { in_main = false }
within Loop around = record around { in_main = false; loops = Inside }
within Start around = body_around Synchronous around
within Fork around = body_around Synchronous around
within Farm around = body_around Asynchronous around
within Seq around = body_around Asynchronous around

-- the tokens that the code keeps
abbrev pub seen : Token → TokenIn Around
seen token = record { around = token.around; spot = token.spot; word = token.word }
