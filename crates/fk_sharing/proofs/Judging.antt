-- What the code finds of one token is what the rules say.
use Rattle.std.proofs.Common.{◌≡◌, ◌≢◌, Bool, true, false, ◌&&◌, List, Option, Some, None, refl, sym, ap, subst}
use Rattle.fk_syntax.specs.declared.sign.Sign.{Sign}
use Rattle.fk_syntax.specs.declared.sign.Sign.TheVariants.{Ampersand}
use Rattle.fk_syntax.specs.declared.program.Mode.{Mode}
use Rattle.fk_syntax.specs.declared.program.Mode.TheVariants.{Sync, Async, Straight}
use Rattle.fk_check_rules.specs.declared.rule.Rule.{Rule}
use Rattle.fk_check_rules.specs.declared.rule.Rule.TheVariants as r
use Rattle.fk_sharing_class.specs.declared.thing.Thing.{Thing}
use Rattle.fk_sharing_class.specs.declared.thing.Thing.TheVariants.{SharedVariable, PrivateVariable, Function, Predeclared}
use Rattle.fk_regions.specs.declared.around.Region.{Region}
use Rattle.fk_regions.specs.declared.around.Region.TheVariants.{Synchronous, Asynchronous, Neither}
use Rattle.fk_regions.specs.Judged.{where_true, unless_synchronous}
use Rattle.fk_sharing.specs.declared.around.Holder.{Holder}
use Rattle.fk_sharing.specs.declared.token.Form.{Form}
use Rattle.fk_sharing.specs.declared.token.Form.TheVariants as f
use Rattle.fk_sharing.specs.declared.token.Word.{Word}
use Rattle.fk_sharing.specs.declared.token.Word.TheVariants as w
use Rattle.fk_sharing.specs.Around.{region, is_in_function, is_in_split, is_split_to_loop, is_split_in_loop}
use Rattle.fk_sharing.specs.Broken.{BreaksRule, return_leaves, break_leaves, continue_leaves, private_address, private_array, private_struct, shared_outside, shared_parameter}
use Rattle.fk_sharing.specs.Judged.{is_private_variable, is_address, shared_rule_by, variable_rule, parameter_rule, broken_rule}
use Rattle.fk_sharing.specs.Retold.{around_of}

-- ---- one rule by its condition

unless-finds : (a : Region) (rule : Rule) → a ≢ Synchronous → unless_synchronous a rule ≡ Some rule
unless-finds Synchronous rule h = absurd (h refl)
unless-finds Asynchronous rule h = refl
unless-finds Neither rule h = refl

unless-tells : (a : Region) (rule found : Rule) → unless_synchronous a rule ≡ Some found → (a ≢ Synchronous) × (rule ≡ found)
unless-tells Synchronous rule found e = absurd (cc)
unless-tells Asynchronous rule found e = (λ same. cc, cc)
unless-tells Neither rule found e = (λ same. cc, cc)

test-tells : (b : Bool) (rule found : Rule) → where_true b rule ≡ Some found → (b ≡ true) × (rule ≡ found)
test-tells true rule found e = (refl, cc)
test-tells false rule found e = absurd (cc)

and-tells : (a b : Bool) → (a && b) ≡ true → (a ≡ true) × (b ≡ true)
and-tells true true h = (refl, refl)
and-tells true false h = absurd (cc)
and-tells false b h = absurd (cc)

address-tells : (sign : Sign) → is_address sign ≡ true → sign ≡ Ampersand
address-tells Ampersand h = refl
address-tells _ h = absurd (cc)

variable-tells : (thing : Option Thing) → is_private_variable thing ≡ true → thing ≡ Some PrivateVariable
variable-tells (Some PrivateVariable) h = refl
variable-tells (Some SharedVariable) h = absurd (cc)
variable-tells (Some Function) h = absurd (cc)
variable-tells (Some Predeclared) h = absurd (cc)
variable-tells None h = absurd (cc)

parameter-finds : (mode : Mode) → mode ≢ Sync → parameter_rule true mode ≡ Some r.SharedParameter
parameter-finds Sync h = absurd (h refl)
parameter-finds Async h = refl
parameter-finds Straight h = refl

-- ---- all rules on what holds a token

module _ (holders : List Holder) where
  pub rule-finds : (word : Word) (rule : Rule) → BreaksRule holders word rule → broken_rule (around_of holders) word ≡ Some rule
  rule-finds word rule (return_leaves h) = ap (λ b. where_true b r.ReturnFromSplit) h
  rule-finds word rule (break_leaves h) = ap (λ b. where_true b r.BreakFromSplit) h
  rule-finds word rule (continue_leaves h) = ap (λ b. where_true b r.ContinueFromSplit) h
  rule-finds word rule private_address = refl
  rule-finds word rule private_array = refl
  rule-finds word rule private_struct = refl
  rule-finds word rule (shared_outside form h g) = in-function (is_in_function holders) h
    where
      in-function : (b : Bool) → b ≡ true → shared_rule_by b (region holders) ≡ Some r.SharedOutside
      in-function true e = unless-finds (region holders) r.SharedOutside g
      in-function false e = absurd (cc)
  rule-finds word rule (shared_parameter mode h) = parameter-finds mode h

  -- where the rule that the code names is broken, the one that it finds is
  told : (word : Word) (rule found : Rule) → BreaksRule holders word rule → rule ≡ found → BreaksRule holders word found
  told word rule found h e = subst (BreaksRule holders word) e h

  address-broken : (sign : Sign) (thing : Option Thing) (found : Rule) → (sign ≡ Ampersand) × (thing ≡ Some PrivateVariable) → r.PrivateAddress ≡ found → BreaksRule holders (w.Prefix sign thing) found
  address-broken sign thing found e f = subst (λ s. BreaksRule holders (w.Prefix s thing) found) (sym e.0)
      (subst (λ x. BreaksRule holders (w.Prefix Ampersand x) found) (sym e.1) (told (w.Prefix Ampersand (Some PrivateVariable)) r.PrivateAddress found private_address f))

  shared-tells : (form : Form) (found : Rule) (b : Bool) → is_in_function holders ≡ b → shared_rule_by b (region holders) ≡ Some found → BreaksRule holders (w.Variable true form) found
  shared-tells form found true e h =
      let t = unless-tells (region holders) r.SharedOutside found h in
      told (w.Variable true form) r.SharedOutside found (shared_outside form e t.0) t.1
  shared-tells form found false e h = absurd (cc)

  variable-broken : (shared : Bool) (form : Form) (found : Rule) → variable_rule (around_of holders) shared form ≡ Some found → BreaksRule holders (w.Variable shared form) found
  variable-broken true form found h = shared-tells form found (is_in_function holders) refl h
  variable-broken false f.Scalar found h = absurd (cc)
  variable-broken false f.Array found h = told (w.Variable false f.Array) r.PrivateArray found private_array (cc)
  variable-broken false f.Struct found h = told (w.Variable false f.Struct) r.PrivateStruct found private_struct (cc)

  parameter-broken : (shared : Bool) (mode : Mode) (found : Rule) → parameter_rule shared mode ≡ Some found → BreaksRule holders (w.Parameter shared mode) found
  parameter-broken false mode found h = absurd (cc)
  parameter-broken true Sync found h = absurd (cc)
  parameter-broken true Async found h = told (w.Parameter true Async) r.SharedParameter found (shared_parameter Async (λ same. cc)) (cc)
  parameter-broken true Straight found h = told (w.Parameter true Straight) r.SharedParameter found (shared_parameter Straight (λ same. cc)) (cc)

  pub rule-tells : (word : Word) (found : Rule) → broken_rule (around_of holders) word ≡ Some found → BreaksRule holders word found
  rule-tells (w.Decides shared) found h = absurd (cc)
  rule-tells (w.Prefix sign thing) found h =
      let t = test-tells (is_address sign && is_private_variable thing) r.PrivateAddress found h in
      let u = and-tells (is_address sign) (is_private_variable thing) t.0 in
      address-broken sign thing found (address-tells sign u.0, variable-tells thing u.1) t.1
  rule-tells w.Break found h = let t = test-tells (is_split_to_loop holders) r.BreakFromSplit found h in told w.Break r.BreakFromSplit found (break_leaves t.0) t.1
  rule-tells w.Continue found h = let t = test-tells (is_split_in_loop holders) r.ContinueFromSplit found h in told w.Continue r.ContinueFromSplit found (continue_leaves t.0) t.1
  rule-tells w.Return found h = let t = test-tells (is_in_split holders) r.ReturnFromSplit found h in told w.Return r.ReturnFromSplit found (return_leaves t.0) t.1
  rule-tells (w.Variable shared form) found h = variable-broken shared form found h
  rule-tells (w.Parameter shared mode) found h = parameter-broken shared mode found h
  rule-tells w.Other found h = absurd (cc)
