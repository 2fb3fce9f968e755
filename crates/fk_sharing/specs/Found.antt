-- What the code finds of the tokens that it keeps.
use Rattle.std.specs.Prelude.{◌≡◌, ℕ, List, map}
use Rattle.fk_syntax.specs.declared.place.Place.{Place}
use Rattle.fk_syntax.specs.Program.{ProgramTree}
use Rattle.fk_check_rules.specs.declared.rule.Rule.{Rule}
use Rattle.fk_types_names.specs.declared.names.Names.{Names}
use Rattle.fk_sharing_class.specs.Things.{thing_in}
use Rattle.fk_sharing.specs.declared.token.Token.{Token}
use Rattle.fk_sharing.specs.Tokens.{items_tokens}
use Rattle.fk_sharing.specs.Collected.{within, outside, seen}
use Rattle.fk_sharing.specs.Judged.{Breaks}

-- one of the tokens breaks a rule
abbrev pub TokenBreaks : ℕ → Token → Place → Rule → Type 0
TokenBreaks index token = Breaks (seen token)

-- the tokens that are kept are those of a program with these names
abbrev pub AreKept : ProgramTree → Names → List Token → Type 0
AreKept program names tokens =
    map seen tokens ≡ items_tokens (thing_in names) within outside program.items
