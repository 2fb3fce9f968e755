-- The summary of a token's surroundings that the code keeps.
use Rattle.std.specs.Prelude.{List}
use Rattle.fk_regions.specs.declared.around.Holder.{Holder}
use Rattle.fk_regions.specs.declared.around.Around.{Around}
use Rattle.fk_regions.specs.Tokens.{TokenIn}
use Rattle.fk_regions.specs.Around.{region, loops, is_straight, is_in_main, is_in_body}

abbrev pub around_of : List Holder → Around
around_of holders = record {
  region = region holders;
  loops = loops holders;
  straight = is_straight holders;
  in_main = is_in_main holders;
  in_body = is_in_body holders;
}

abbrev pub retold : TokenIn (List Holder) → TokenIn Around
retold token = record { around = around_of token.around; spot = token.spot; word = token.word }
