-- The result of reading a text.
use Rattle.std.specs.Prelude.{◌≡◌, ◌+◌, ◌<◌, List, [], ◌∷◌, Result, Ok, Err, length}
use Rattle.fk_syntax.specs.declared.place.Place.{Place}
use Rattle.fk_syntax.specs.Program.{ItemTree, ProgramTree}
use Rattle.fk_lex.specs.Reading.{Spelled}
use Rattle.fk_parse_combinators.specs.Languages.{Placed, Stretch, tokens_of, numbered}
use Rattle.fk_parse_combinators.specs.Reads.{Stop, Unexpected, EndOfText, Nesting, Spell, Spells}
use Rattle.fk_parse_combinators.specs.Reads.{IsShallow, IsLongest, ReadsNothing, ReadsDeep}
use Rattle.fk_parse.specs.Items.{Items}

-- the longest prefix that begins a text ends before a token, and nests within the bound
pub record ReadsUnexpected (tokens rest : List Placed) : Type 0 where
  pub stretch : Stretch
  pub longest : IsLongest Items tokens stretch rest
  pub some : 0 < length rest
  pub shallow : IsShallow stretch

-- the tokens are those of a stretch that spells these items, and nests within the bound
pub record SpellsItems (tokens : List Placed) (items : List ItemTree) : Type 0 where
  pub stretch : Stretch
  pub is : tokens ≡ tokens_of stretch
  pub spelled : Spells Items stretch items
  pub shallow : IsShallow stretch

-- all tokens are a text; or no text goes on with a token; or all tokens begin a text but aren't a
-- whole one; or a token opens a level past the bound
abbrev pub ReadsText : List Placed → Result (List ItemTree) Stop → Type 0
ReadsText tokens (Ok items) = SpellsItems tokens items
ReadsText tokens (Err (Unexpected rest)) = ReadsUnexpected tokens rest
ReadsText tokens (Err EndOfText) = ReadsNothing Items tokens []
ReadsText tokens (Err (Nesting rest)) = ReadsDeep Items tokens rest

-- the place directly after the last token; 1:1 if there are no tokens
abbrev pub end_of : Place → List Spelled → Place
end_of end [] = end
end_of end (t ∷ tokens) =
    end_of (record { line = t.place.line; column = t.place.column + length t.bytes }) tokens

abbrev pub beginning : Place
beginning = record { line = 1; column = 1 }

-- these tokens spell a program
pub record SpellsProgram (tokens : List Spelled) (program : ProgramTree) : Type 0 where
  pub items : SpellsItems (numbered 0 tokens) program.items
  pub end : program.end ≡ end_of beginning tokens
  pub count : program.tokens ≡ length tokens

-- tokens have exactly one answer as a text
abbrev pub OneText : Type 0
OneText = (tokens : List Placed) → (answer : Result (List ItemTree) Stop) × ReadsText tokens answer
    × ((other : Result (List ItemTree) Stop) → ReadsText tokens other → other ≡ answer)

-- tokens spell at most one list of items, however deep they nest
abbrev pub OneTree : Type 0
OneTree = (tokens : List Placed) (a b : List ItemTree) → Spell Items tokens a
    → Spell Items tokens b → a ≡ b

-- tokens spell at most one program
abbrev pub OneProgram : Type 0
OneProgram = (tokens : List Spelled) (p q : ProgramTree) → SpellsProgram tokens p
    → SpellsProgram tokens q → p ≡ q
