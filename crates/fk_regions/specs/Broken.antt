-- The rules on regions that a program breaks, and its tokens in synchronous regions.
use Rattle.std.specs.Prelude.{◌≡◌, ◌⊎◌, ◌↔◌, ℕ, Bool, true, List, Option, Some, IsTrue, length}
use Rattle.std.specs.Prelude.{slice_get}
use Rattle.fk_syntax.specs.declared.place.Place.{Place}
use Rattle.fk_syntax.specs.declared.facts.Note.{Note}
use Rattle.fk_syntax.specs.declared.facts.Facts.{Facts}
use Rattle.fk_syntax.specs.declared.facts.CheckFault.{CheckFault}
use Rattle.fk_syntax.specs.declared.facts.CheckFault.TheVariants as f
use Rattle.fk_syntax.specs.Program.{ProgramTree}
use Rattle.fk_check_rules.specs.declared.rule.Rule.{Rule}
use Rattle.fk_check_rules.specs.declared.rule.Rule.TheVariants.{NotStraight}
use Rattle.fk_check_rules.specs.Rules.{number_of}
use Rattle.fk_check_rules.specs.Least.{IsLeast}
use Rattle.fk_regions.specs.declared.around.Holder.{Holder}
use Rattle.fk_regions.specs.declared.around.Region.TheVariants.{Synchronous}
use Rattle.fk_regions.specs.declared.callee.Callee.{Callee}
use Rattle.fk_regions.specs.Tokens.{TokenIn, tokens}
use Rattle.fk_regions.specs.Around.{region, is_straight}
use Rattle.fk_regions.specs.Misplaced.{Misplaced, Decides}
use Rattle.fk_regions.specs.Called.{Calls}

-- a token breaks a rule at its place
abbrev pub BreaksRule : (Callee → Type 0) → TokenIn (List Holder) → Rule → Type 0
BreaksRule calls token rule = Misplaced token.around calls token.word rule
    ⊎ ((rule ≡ NotStraight) × (is_straight token.around ≡ true) × Decides calls token.word)

-- the rules as a whole: some token of the program breaks the rule at its place
abbrev pub Broken : ProgramTree → Place → Rule → Type 0
Broken program place rule = (i : ℕ) × (token : TokenIn (List Holder))
    × (slice_get (tokens program) i ≡ Some token)
    × (token.spot.place ≡ place) × BreaksRule (Calls program token.spot.at) token rule

-- the token with this index is in a synchronous region
abbrev pub IsSynchronous : ProgramTree → ℕ → Type 0
IsSynchronous program index = (i : ℕ) × (token : TokenIn (List Holder))
    × (slice_get (tokens program) i ≡ Some token)
    × (token.spot.at ≡ index) × (region token.around ≡ Synchronous)

-- a note tells whether its token is in a synchronous region, and is otherwise as before
abbrev pub SaysRegion : ProgramTree → ℕ → Note → Option Note → Type 0
SaysRegion program index old new = (sync : Bool) × (new ≡ Some (record old { sync = sync }))
    × (IsTrue sync ↔ IsSynchronous program index)

-- the facts of a program that keeps these rules, with its regions
pub record AreRegions (program : ProgramTree) (old new : Facts) : Type 0 where
  pub kept : (place : Place) (rule : Rule) → ¬ Broken program place rule
  pub kinds : new.kinds ≡ old.kinds
  pub length : length new.notes.items ≡ length old.notes.items
  pub notes : (index : ℕ) (note : Note) → slice_get old.notes.items index ≡ Some note
      → SaysRegion program index note (slice_get new.notes.items index)

-- the refusal of a program: the first rule that it breaks, by place and then by number; or there
-- isn't enough memory
abbrev pub IsRefusal : ProgramTree → CheckFault → Type 0
IsRefusal program (f.Rule place number) = (rule : Rule) × IsLeast (Broken program)
    (Some (record { place = place; rule = rule })) × (number ≡ number_of rule)
IsRefusal program f.Memory = Unit {0}
