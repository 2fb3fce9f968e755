-- What the code finds of the tokens that it keeps.
use Rattle.std.specs.Prelude.{◌≡◌, ℕ, List, map}
use Rattle.fk_syntax.specs.declared.place.Place.{Place}
use Rattle.fk_syntax.specs.Program.{ProgramTree}
use Rattle.fk_check_rules.specs.declared.rule.Rule.{Rule}
use Rattle.fk_types_names.specs.declared.names.Names.{Names}
use Rattle.fk_regions.specs.declared.token.Token.{Token}
use Rattle.fk_regions.specs.Called.{callee_in}
use Rattle.fk_regions.specs.Tokens.{items_tokens}
use Rattle.fk_regions.specs.Collected.{within, outside, seen}
use Rattle.fk_regions.specs.Judged.{Breaks}

-- one of the tokens breaks a rule, by what it calls
abbrev pub TokenBreaks : Names → ℕ → Token → Place → Rule → Type 0
TokenBreaks names index token = Breaks (callee_in names token.spot.at) (seen token)

-- the tokens that are kept are those of a program
abbrev pub AreKept : ProgramTree → List Token → Type 0
AreKept program tokens = map seen tokens ≡ items_tokens within outside program.items
