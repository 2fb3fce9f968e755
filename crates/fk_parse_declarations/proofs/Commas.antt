-- How a loop reads a list with commas between, behind its first.
use Rattle.std.proofs.Common.{◌≡◌, ◌<◌, ◌^◌, List, [], ◌∷◌, ◌++◌, Ok, true, false, length}
use Rattle.fk_parse_combinators.specs.Languages.{Placed}
use Rattle.fk_parse_combinators.specs.Readers.{Reader, giving, ◌and◌, next_is, expect, repeated}
use Rattle.fk_parse_combinators.specs.Ahead.{Shortens, Leaves}
use Rattle.fk_parse_combinators.specs.Gives.{Halts}
use Rattle.fk_parse_combinators.specs.declared.fault.SyntaxFault.{SyntaxFault}
use Rattle.fk_parse_combinators.proofs.Loops.{Loops, loops_start, loops_more, loops_end}
use Rattle.fk_parse_combinators.proofs.Halting.{halts_going}
use Rattle.fk_parse_combinators.proofs.Behind.{behind_reads, behind_halts}
use Rattle.fk_parse_declarations.proofs.Steps.{shorter_still}
use Rattle.fk_parse_combinators.specs.Kinds.{just}
use Rattle.fk_lex.specs.declared.token.TokenKind.TheVariants as kind

abbrev pub next : {A : Type 0} → Reader A → Reader A
next P = giving (λ (comma, next). next) (expect kind.Comma and P)

-- from a start these were read, each behind a comma, and what is ahead is read on
pub record Commas {A : Type 0} (P : Reader A) (start : List Placed) (items : List A) (ahead : List Placed) : Type 0 where
  pub loops : Loops (just kind.Comma) (next P) start items ahead

pub commas_start : {A : Type 0} (P : Reader A) (start : List Placed) → Commas P start [] start
commas_start P start = record { loops = loops_start (just kind.Comma) (next P) start }

pub commas_more : {A : Type 0} (P : Reader A) (start ahead mid rest : List Placed) (items : List A) (t : Placed) (a : A)
    → next_is (just kind.Comma) ahead ≡ true → expect kind.Comma ahead ≡ Ok (t, mid) → P mid ≡ Ok (a, rest) → Shortens ahead mid → Shortens mid rest
    → Commas P start items ahead → Commas P start (items ++ a ∷ []) rest
commas_more P start ahead mid rest items t a n e f less lesser l = record {
  loops = loops_more (just kind.Comma) (next P) start ahead rest items a n (behind_reads (λ x. x.1) (expect kind.Comma) P ahead mid rest t a e f) (shorter_still ahead mid rest less lesser) l.loops;
}

pub commas_end : {A : Type 0} (P : Reader A) (start ahead now : List Placed) (items : List A)
    → next_is (just kind.Comma) ahead ≡ false → now ≡ ahead → length ahead < 2 ^ 32 → Commas P start items ahead
    → (repeated (just kind.Comma) (next P) start ≡ Ok (items, now)) × Leaves start now
commas_end P start ahead now items n e h l = loops_end (just kind.Comma) (next P) start ahead now items n e h l.loops

pub commas_stop : {A : Type 0} (P : Reader A) (start ahead mid : List Placed) (items : List A) (t : Placed) (fault : SyntaxFault) (now : List Placed)
    → next_is (just kind.Comma) ahead ≡ true → expect kind.Comma ahead ≡ Ok (t, mid) → Halts (P mid) fault now
    → Commas P start items ahead → Halts (repeated (just kind.Comma) (next P) start) fault now
commas_stop P start ahead mid items t fault now n e r l =
    halts_going (just kind.Comma) (next P) start ahead items fault now n (behind_halts (λ x. x.1) (expect kind.Comma) P ahead mid t fault now e r) l.loops.going
