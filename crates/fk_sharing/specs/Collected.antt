-- The surroundings of a token, as the code keeps them.
use Rattle.std.specs.Prelude.{true, false, ◌||◌}
use Rattle.fk_regions.specs.declared.around.Region.TheVariants.{Neither}
use Rattle.fk_sharing.specs.declared.around.Holder.{Holder}
use Rattle.fk_sharing.specs.declared.around.Holder.TheVariants.{Body, Branch, Loop}
use Rattle.fk_sharing.specs.declared.around.Around.{Around}
use Rattle.fk_sharing.specs.declared.token.Token.{Token}
use Rattle.fk_sharing.specs.Around.{splits}
use Rattle.fk_sharing.specs.Tokens.{TokenIn}

-- the surroundings at file scope, where there is no holder
abbrev pub outside : Around
outside = record {
  region = Neither;
  in_function = false;
  in_split = false;
  break_leaves = false;
  continue_leaves = false;
}

-- the surroundings of the parts of a holder, by those of the holder
abbrev pub within : Holder → Around → Around
within (Body here) around = record around { region = here; in_function = true }
within (Branch shared) around = record around {
  in_split = splits around.region shared || around.in_split;
  break_leaves = splits around.region shared || around.break_leaves;
  continue_leaves = splits around.region shared || around.continue_leaves;
}
within (Loop shared) around = record around {
  in_split = splits around.region shared || around.in_split;
  break_leaves = splits around.region shared;
  continue_leaves = false;
}

-- the tokens that the code keeps
abbrev pub seen : Token → TokenIn Around
seen token =
    record { around = token.around; spot = token.spot; shared = token.shared; word = token.word }
