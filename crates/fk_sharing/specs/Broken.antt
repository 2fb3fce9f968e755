-- The rules on sharing that a program breaks, its shared expressions, and where a group splits.
use Rattle.std.specs.Prelude.{◌≡◌, ◌≢◌, ◌↔◌, ℕ, Bool, true, false, List, Option, Some, IsTrue}
use Rattle.std.specs.Prelude.{length, slice_get}
use Rattle.fk_syntax.specs.declared.place.Place.{Place}
use Rattle.fk_syntax.specs.declared.sign.Sign.TheVariants.{Ampersand}
use Rattle.fk_syntax.specs.declared.program.Mode.{Mode}
use Rattle.fk_syntax.specs.declared.program.Mode.TheVariants.{Sync}
use Rattle.fk_syntax.specs.declared.facts.Note.{Note}
use Rattle.fk_syntax.specs.declared.facts.Facts.{Facts}
use Rattle.fk_syntax.specs.declared.facts.CheckFault.{CheckFault}
use Rattle.fk_syntax.specs.declared.facts.CheckFault.TheVariants as c
use Rattle.fk_syntax.specs.Program.{ProgramTree}
use Rattle.fk_check_rules.specs.declared.rule.Rule.{Rule}
use Rattle.fk_check_rules.specs.declared.rule.Rule.TheVariants as r
use Rattle.fk_check_rules.specs.Rules.{number_of}
use Rattle.fk_check_rules.specs.Least.{IsLeast}
use Rattle.fk_sharing_class.specs.declared.thing.Thing.{Thing}
use Rattle.fk_sharing_class.specs.declared.thing.Thing.TheVariants.{PrivateVariable}
use Rattle.fk_sharing_class.specs.Things.{Tells}
use Rattle.fk_regions.specs.declared.around.Region.{Region}
use Rattle.fk_regions.specs.declared.around.Region.TheVariants.{Synchronous}
use Rattle.fk_sharing.specs.declared.around.Holder.{Holder}
use Rattle.fk_sharing.specs.declared.token.Form.{Form}
use Rattle.fk_sharing.specs.declared.token.Form.TheVariants as f
use Rattle.fk_sharing.specs.declared.token.Word.{Word}
use Rattle.fk_sharing.specs.declared.token.Word.TheVariants as w
use Rattle.fk_sharing.specs.Tokens.{TokenIn, tokens}
use Rattle.fk_sharing.specs.Around.{region, splits, is_in_function, is_in_split, is_split_to_loop}
use Rattle.fk_sharing.specs.Around.{is_split_in_loop}

-- a token breaks a rule, by its kind and its surroundings
pub data BreaksRule (around : List Holder) : Word → Rule → Type 0 where
  return_leaves : is_in_split around ≡ true → BreaksRule around w.Return r.ReturnFromSplit
  break_leaves : is_split_to_loop around ≡ true → BreaksRule around w.Break r.BreakFromSplit
  continue_leaves : is_split_in_loop around ≡ true
      → BreaksRule around w.Continue r.ContinueFromSplit
  private_address : BreaksRule around (w.Prefix Ampersand (Some PrivateVariable)) r.PrivateAddress
  private_array : BreaksRule around (w.Variable false f.Array) r.PrivateArray
  private_struct : BreaksRule around (w.Variable false f.Struct) r.PrivateStruct
  shared_outside : (form : Form) → is_in_function around ≡ true → region around ≢ Synchronous
      → BreaksRule around (w.Variable true form) r.SharedOutside
  shared_parameter : (mode : Mode) → mode ≢ Sync
      → BreaksRule around (w.Parameter true mode) r.SharedParameter

-- a group splits at a token that decides what is run next by a private condition, in a synchronous
-- region
abbrev pub is_splitting : Region → Word → Bool
is_splitting here (w.Decides shared) = splits here shared
is_splitting here _ = false

-- one of the tokens of the program has this index and passes a test
abbrev pub HasAt : ProgramTree → (TokenIn (List Holder) → Bool) → ℕ → Type 0
HasAt program test index = (thing : ℕ → Option Thing) × Tells program thing
    × (i : ℕ) × (token : TokenIn (List Holder)) × (slice_get (tokens thing program) i ≡ Some token)
    × (token.spot.at ≡ index) × (test token ≡ true)

-- the token with this index is the main token of a shared expression
abbrev pub IsSharedAt : ProgramTree → ℕ → Type 0
IsSharedAt program = HasAt program (λ token. token.shared)

-- a group splits at the token with this index
abbrev pub SplitsAt : ProgramTree → ℕ → Type 0
SplitsAt program = HasAt program (λ token. is_splitting (region token.around) token.word)

-- the rules as a whole: some token of the program breaks the rule at its place
abbrev pub Broken : ProgramTree → Place → Rule → Type 0
Broken program place rule = (thing : ℕ → Option Thing) × Tells program thing
    × (i : ℕ) × (token : TokenIn (List Holder)) × (slice_get (tokens thing program) i ≡ Some token)
    × (token.spot.place ≡ place) × BreaksRule token.around token.word rule

-- a note tells whether its token is the main token of a shared expression, and whether a group
-- splits there, and is otherwise as before
abbrev pub SaysSharing : ProgramTree → ℕ → Note → Option Note → Type 0
SaysSharing program index old new = (shared : Bool) × (splits : Bool)
    × (new ≡ Some (record old { shared = shared; splits = splits }))
    × (IsTrue shared ↔ IsSharedAt program index) × (IsTrue splits ↔ SplitsAt program index)

-- the facts of a program that keeps these rules, with its classes and splits
pub record AreShared (program : ProgramTree) (old new : Facts) : Type 0 where
  pub kept : (place : Place) (rule : Rule) → ¬ Broken program place rule
  pub kinds : new.kinds ≡ old.kinds
  pub length : length new.notes.items ≡ length old.notes.items
  pub notes : (index : ℕ) (note : Note) → slice_get old.notes.items index ≡ Some note
      → SaysSharing program index note (slice_get new.notes.items index)

-- the refusal of a program: the first rule that it breaks, by place and then by number; or there
-- isn't enough memory
abbrev pub IsRefusal : ProgramTree → CheckFault → Type 0
IsRefusal program (c.Rule place number) = (rule : Rule) × IsLeast (Broken program)
    (Some (record { place = place; rule = rule })) × (number ≡ number_of rule)
IsRefusal program c.Memory = Unit {0}
