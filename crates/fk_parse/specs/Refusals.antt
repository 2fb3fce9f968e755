-- The meaning of the faults of a text.
use Rattle.std.specs.Prelude.{◌≡◌, List, Err, ◌⊎◌}
use Rattle.fk_lex.specs.Reading.{Spelled}
use Rattle.fk_parse_combinators.specs.declared.fault.SyntaxFault.{SyntaxFault}
use Rattle.fk_parse_combinators.specs.Languages.{numbered}
use Rattle.fk_parse_combinators.specs.Faults.{Tells, IsMemory}
use Rattle.fk_syntax.specs.Program.{ProgramTree}
use Rattle.fk_parse.specs.Parses.{ReadsText, SpellsProgram}

-- the tokens aren't a text, and the fault gives the reason, with the place of the token at fault;
-- there may be too little memory for any tokens
abbrev pub RefusesTokens : List Spelled → SyntaxFault → Type 0
RefusesTokens tokens = Tells (λ stop. ReadsText (numbered 0 tokens) (Err stop))

-- these tokens spell a program, and are refused only if there isn't enough memory
abbrev pub HasTree : List Spelled → Type 0
HasTree tokens = (program : ProgramTree) × SpellsProgram tokens program
    × ((fault : SyntaxFault) → RefusesTokens tokens fault → IsMemory fault)

-- these tokens are refused though there is enough memory, and spell no program
abbrev pub HasFault : List Spelled → Type 0
HasFault tokens = (fault : SyntaxFault) × RefusesTokens tokens fault × (¬ IsMemory fault)
    × ((program : ProgramTree) → ¬ SpellsProgram tokens program)

-- any tokens satisfy one of the two
abbrev pub TreeOrFault : Type 0
TreeOrFault = (tokens : List Spelled) → HasTree tokens ⊎ HasFault tokens

-- if there is enough memory, tokens are refused by at most one fault
abbrev pub OneFault : Type 0
OneFault = (tokens : List Spelled) (f g : SyntaxFault) → RefusesTokens tokens f
    → RefusesTokens tokens g → ¬ IsMemory f → ¬ IsMemory g → f ≡ g
