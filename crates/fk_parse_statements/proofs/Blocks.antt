-- What is read of a block.
use Rattle.std.proofs.Common.{◌≡◌, ℕ, List, Ok, sym, ap, subst, ◌∙◌}
use Rattle.fk_syntax.specs.Program.{Statement, statements_of}
use Rattle.fk_parse_combinators.specs.declared.fault.SyntaxFault.{SyntaxFault}
use Rattle.fk_parse_combinators.specs.Languages.{Placed}
use Rattle.fk_parse_combinators.specs.Reads.{Answer}
use Rattle.fk_parse_combinators.specs.Readers.{Reader, after, ◌and◌, expect, repeated}
use Rattle.fk_parse_combinators.specs.Gives.{Halts}
use Rattle.fk_parse_combinators.proofs.Halting.{halts_after}
use Rattle.fk_parse_combinators.proofs.Behind.{behind_reads, behind_halts}
use Rattle.fk_parse_statements.specs.Reading.{begins_statement, statements_with, read_block}
use Rattle.fk_parse_statements.specs.Parts.{read_nested}
use Rattle.fk_lex.specs.declared.token.TokenKind.TheVariants as kind

abbrev list_of : ℕ → Reader (List Statement)
list_of left = repeated begins_statement (read_nested left)

abbrev closing : Answer (List Statement) → Answer (List Statement × Placed)
closing a = after a (λ list rest. after (expect kind.CloseBrace rest) (λ c others. Ok ((list, c), others)))

pub block_reads : (left : ℕ) (ts mid past rest : List Placed) (o c : Placed) (list : List Statement)
    → expect kind.OpenBrace ts ≡ Ok (o, mid) → repeated begins_statement (read_nested left) mid ≡ Ok (list, past) → expect kind.CloseBrace past ≡ Ok (c, rest)
    → read_block (statements_with left) ts ≡ Ok (statements_of list, rest)
unfolding read_block
block_reads left ts mid past rest o c list e f g =
    behind_reads (λ (x : Placed × (List Statement × Placed)). statements_of x.1.0) (expect kind.OpenBrace) (list_of left and expect kind.CloseBrace) ts mid rest o (list, c) e
    (ap closing f ∙ ap (λ a. after a (λ c others. Ok ((list, c), others))) g)

pub block_stops : (left : ℕ) (ts mid : List Placed) (o : Placed) (fault : SyntaxFault) (now : List Placed)
    → expect kind.OpenBrace ts ≡ Ok (o, mid) → Halts (repeated begins_statement (read_nested left) mid) fault now
    → Halts (read_block (statements_with left) ts) fault now
unfolding read_block
block_stops left ts mid o fault now e h =
    behind_halts (λ (x : Placed × (List Statement × Placed)). statements_of x.1.0) (expect kind.OpenBrace) (list_of left and expect kind.CloseBrace) ts mid o fault now e
    (halts_after (list_of left mid) (λ list rest. after (expect kind.CloseBrace rest) (λ c others. Ok ((list, c), others))) fault now h)

pub block_open : (left : ℕ) (ts mid past : List Placed) (o : Placed) (list : List Statement) (fault : SyntaxFault) (now : List Placed)
    → expect kind.OpenBrace ts ≡ Ok (o, mid) → repeated begins_statement (read_nested left) mid ≡ Ok (list, past) → Halts (expect kind.CloseBrace past) fault now
    → Halts (read_block (statements_with left) ts) fault now
unfolding read_block
block_open left ts mid past o list fault now e f h =
    behind_halts (λ (x : Placed × (List Statement × Placed)). statements_of x.1.0) (expect kind.OpenBrace) (list_of left and expect kind.CloseBrace) ts mid o fault now e
    (subst (λ a. Halts (closing a) fault now) (sym f) (halts_after (expect kind.CloseBrace past) (λ c others. Ok ((list, c), others)) fault now h))
