-- The rule that a token breaks, by the surroundings that the code keeps.
use Rattle.std.specs.Prelude.{◌≡◌, Bool, true, false, ◌&&◌, Option, Some, None}
use Rattle.fk_syntax.specs.declared.place.Place.{Place}
use Rattle.fk_syntax.specs.declared.sign.Sign.{Sign}
use Rattle.fk_syntax.specs.declared.sign.Sign.TheVariants.{Ampersand}
use Rattle.fk_syntax.specs.declared.program.Mode.{Mode}
use Rattle.fk_syntax.specs.declared.program.Mode.TheVariants.{Sync, Async, Straight}
use Rattle.fk_check_rules.specs.declared.rule.Rule.{Rule}
use Rattle.fk_check_rules.specs.declared.rule.Rule.TheVariants as r
use Rattle.fk_sharing_class.specs.declared.thing.Thing.{Thing}
use Rattle.fk_sharing_class.specs.declared.thing.Thing.TheVariants.{PrivateVariable}
use Rattle.fk_regions.specs.declared.around.Region.{Region}
use Rattle.fk_regions.specs.Judged.{where_true, unless_synchronous}
use Rattle.fk_sharing.specs.declared.around.Around.{Around}
use Rattle.fk_sharing.specs.declared.token.Form.{Form}
use Rattle.fk_sharing.specs.declared.token.Form.TheVariants as f
use Rattle.fk_sharing.specs.declared.token.Word.{Word}
use Rattle.fk_sharing.specs.declared.token.Word.TheVariants as w
use Rattle.fk_sharing.specs.Tokens.{TokenIn}

abbrev pub is_private_variable : Option Thing → Bool
is_private_variable (Some PrivateVariable) = true
is_private_variable _ = false

abbrev pub is_address : Sign → Bool
is_address Ampersand = true
is_address _ = false

abbrev pub private_rule : Form → Option Rule
private_rule f.Scalar = None
private_rule f.Array = Some r.PrivateArray
private_rule f.Struct = Some r.PrivateStruct

-- an `sh` variable is in a synchronous region, or outside of all functions
abbrev pub shared_rule_by : Bool → Region → Option Rule
shared_rule_by true here = unless_synchronous here r.SharedOutside
shared_rule_by false here = None

abbrev pub shared_rule : Around → Option Rule
shared_rule around = shared_rule_by around.in_function around.region

abbrev pub variable_rule : Around → Bool → Form → Option Rule
variable_rule around true form = shared_rule around
variable_rule around false form = private_rule form

abbrev pub parameter_rule : Bool → Mode → Option Rule
parameter_rule false mode = None
parameter_rule true Sync = None
parameter_rule true Async = Some r.SharedParameter
parameter_rule true Straight = Some r.SharedParameter

abbrev pub broken_rule : Around → Word → Option Rule
broken_rule around (w.Decides shared) = None
broken_rule around (w.Prefix sign thing) =
    where_true (is_address sign && is_private_variable thing) r.PrivateAddress
broken_rule around w.Break = where_true around.break_leaves r.BreakFromSplit
broken_rule around w.Continue = where_true around.continue_leaves r.ContinueFromSplit
broken_rule around w.Return = where_true around.in_split r.ReturnFromSplit
broken_rule around (w.Variable shared form) = variable_rule around shared form
broken_rule around (w.Parameter shared mode) = parameter_rule shared mode
broken_rule around w.Other = None

-- the rule that one token breaks, at its place
abbrev pub Breaks : TokenIn Around → Place → Rule → Type 0
Breaks token at rule = (at ≡ token.spot.place) × (broken_rule token.around token.word ≡ Some rule)
