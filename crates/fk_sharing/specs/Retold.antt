-- The summary of a token's surroundings that the code keeps.
use Rattle.std.specs.Prelude.{List}
use Rattle.fk_sharing.specs.declared.around.Holder.{Holder}
use Rattle.fk_sharing.specs.declared.around.Around.{Around}
use Rattle.fk_sharing.specs.Tokens.{TokenIn}
use Rattle.fk_sharing.specs.Around.{region, is_in_function, is_in_split, is_split_to_loop}
use Rattle.fk_sharing.specs.Around.{is_split_in_loop}

abbrev pub around_of : List Holder → Around
around_of holders = record {
  region = region holders;
  in_function = is_in_function holders;
  in_split = is_in_split holders;
  break_leaves = is_split_to_loop holders;
  continue_leaves = is_split_in_loop holders;
}

abbrev pub retold : TokenIn (List Holder) → TokenIn Around
retold token = record {
  around = around_of token.around;
  spot = token.spot;
  shared = token.shared;
  word = token.word;
}
