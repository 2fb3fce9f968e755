-- The number of words of a group frame: those of the `sh` variables in it, without those in the
-- frames inside it.
use Rattle.std.specs.Prelude.{ℕ, List, [], ◌∷◌, if◌then◌else◌}
use Rattle.fk_syntax.specs.Program as p
use Rattle.fk_syntax.specs.Program.{DeclaredTree, Statement, Statements, FunctionTree}
use Rattle.fk_layout_slots.specs.Told.{Told, words_at, splits_at, more}

-- each function gives the words that are taken after a part of the text, where `taken` are taken
-- before it
module _ (told : Told) where
  abbrev pub declared_words : (taken : ℕ) → DeclaredTree → ℕ
  declared_words taken x = if x.shared then more taken (words_at told x.name.at) else taken

  abbrev pub variables_words : (taken : ℕ) → List DeclaredTree → ℕ
  variables_words taken [] = taken
  variables_words taken (x ∷ xs) = variables_words (declared_words taken x) xs

  abbrev mutual
    pub statement_words : (taken : ℕ) → Statement → ℕ
    statement_words taken (p.Block list) = statements_words taken list
    statement_words taken (p.Declare variables) = variables_words taken variables
    statement_words taken (p.If spot condition first) = if splits_at told spot.at then taken
        else statement_words taken first
    statement_words taken (p.IfElse spot condition first second) = if splits_at told spot.at
        then taken else statement_words (statement_words taken first) second
    statement_words taken (p.While spot condition body) = if splits_at told spot.at then taken
        else statement_words taken body
    statement_words taken (p.DoWhile spot body condition) = if splits_at told spot.at then taken
        else statement_words taken body
    statement_words taken (p.For spot before condition after body) =
        if splits_at told spot.at then taken else statement_words taken body
    statement_words taken (p.Farm spot body) = statement_words taken body
    statement_words taken (p.Seq spot body) = statement_words taken body
    statement_words taken statement = taken

    pub statements_words : (taken : ℕ) → Statements → ℕ
    statements_words taken p.no_statements = taken
    statements_words taken (p.statement first others) =
        statements_words (statement_words taken first) others

  -- the words of a function's own frame: those of its parameters come first
  abbrev pub own_words : List DeclaredTree → Statements → ℕ
  own_words parameters body = statements_words (variables_words 0 parameters) body
