-- The tokens and tables of the code in the form of the definitions.
use Rattle.std.specs.Prelude.{ℕ, List}
use denote.Ref.{Bor}
use Rattle.fk_lex.specs.declared.token.Token.{Token}
use Rattle.fk_lex.specs.declared.token.TokenKind.{TokenKind}
use Rattle.fk_lex.specs.declared.token.LexFault.{LexFault}
use Rattle.fk_lex.specs.declared.token.LexFault.TheVariants as fault
use Rattle.fk_lex.specs.Reading.{Spelled, Faults}

abbrev pub spelled : Token → Spelled
spelled token = record { kind = token.kind; bytes = token.bytes.now; place = token.place }

abbrev pub entry_of : Bor (List ℕ) × TokenKind → List ℕ × TokenKind
entry_of entry = (entry.0.now, entry.1)

-- a fault belongs to the text, unless there isn't enough memory
abbrev pub IsFault : List ℕ → LexFault → Type 0
IsFault text (fault.Memory e) = Unit {0}
IsFault text found = Faults text found
