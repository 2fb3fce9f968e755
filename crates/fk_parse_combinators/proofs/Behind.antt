-- What is read of two parts.
use Rattle.std.proofs.Common.{◌≡◌, List, Option, Some, None, is_some, Result, Ok, Err, sym, ap, subst, ◌∙◌}
use Rattle.std.specs.Option.{IfSome, IfNone, option_map}
use Rattle.std.specs.Result.{IsErrAnd}
use Rattle.fk_lex.specs.declared.token.TokenKind.{TokenKind}
use Rattle.fk_parse_combinators.specs.declared.cursor.Numbered.{Numbered}
use Rattle.fk_parse_combinators.specs.declared.fault.SyntaxFault.{SyntaxFault}
use Rattle.fk_parse_combinators.specs.Languages.{Placed}
use Rattle.fk_parse_combinators.specs.Reads.{Answer}
use Rattle.fk_parse_combinators.specs.Kinds.{just}
use Rattle.fk_parse_combinators.specs.Readers.{Reader, after, giving, ◌and◌, next_is, expect, optional}
use Rattle.fk_parse_combinators.specs.Ahead.{seen}
use Rattle.fk_parse_combinators.specs.Gives.{Gives, Makes, Halts}
use Rattle.fk_parse_combinators.proofs.Halting.{halts_after}
use Rattle.fk_parse_combinators.proofs.Or.{by_next-yes, by_next-no}

pub behind_reads : {A B C : Type 0} (f : A × B → C) (P : Reader A) (Q : Reader B) (ts mid rest : List Placed) (a : A) (b : B)
    → P ts ≡ Ok (a, mid) → Q mid ≡ Ok (b, rest) → giving f (P and Q) ts ≡ Ok (f (a, b), rest)
behind_reads f P Q ts mid rest a b g h =
    ap (λ x. after (after x (λ x rest. after (Q rest) (λ y others. Ok ((x, y), others)))) (λ x rest. Ok (f x, rest))) g
    ∙ ap (λ y. after (after y (λ y others. Ok ((a, y), others))) (λ x rest. Ok (f x, rest))) h

pub behind_halts : {A B C : Type 0} (f : A × B → C) (P : Reader A) (Q : Reader B) (ts mid : List Placed) (a : A) (fault : SyntaxFault) (now : List Placed)
    → P ts ≡ Ok (a, mid) → Halts (Q mid) fault now → Halts (giving f (P and Q) ts) fault now
behind_halts {A} f P Q ts mid a fault now g h =
    subst (λ (x : Answer A). Halts (after (after x (λ x rest. after (Q rest) (λ y others. Ok ((x, y), others)))) (λ x rest. Ok (f x, rest))) fault now) (sym g)
    (halts_after (after (Q mid) (λ y others. Ok ((a, y), others))) (λ x rest. Ok (f x, rest)) fault now
    (halts_after (Q mid) (λ y others. Ok ((a, y), others)) fault now h))

-- an answer that only hands on a fault
pub gives_fault : {A B : Type 0} (view : A → B) (r : Result A SyntaxFault) (fault : SyntaxFault) (now : List Placed) (answer : Answer B)
    → IsErrAnd r (λ z. z ≡ fault) → Halts answer fault now → Gives view r now answer
gives_fault view (Ok a) fault now answer e h = absurd e
gives_fault view (Err z) fault now answer e h = subst (λ z. Halts answer z now) (sym e) h

pub makes_fault : {A B C : Type 0} (made : B → A) (view : C → A) (r : Result C SyntaxFault) (fault : SyntaxFault) (now : List Placed) (answer : Answer B)
    → IsErrAnd r (λ z. z ≡ fault) → Halts answer fault now → Makes made view r now answer
makes_fault made view (Ok c) fault now answer e h = absurd e
makes_fault made view (Err z) fault now answer e h = subst (λ z. Halts answer z now) (sym e) h

-- what is accepted is read where it comes next
pub accepted : (k : TokenKind) (old now : List Placed) (found : Option Numbered) → next_is (just k) old ≡ is_some found
    → IfSome found (λ token. expect k old ≡ Ok (seen token, now)) → IfNone found (now ≡ old) → optional (just k) (expect k) old ≡ Ok (option_map seen found, now)
accepted k old now None n read same = by_next-no (just k) (giving Some (expect k)) (λ ts. Ok (None, ts)) old n ∙ ap (λ ts. Ok (None, ts)) (sym same)
accepted k old now (Some token) n read same =
    by_next-yes (just k) (giving Some (expect k)) (λ ts. Ok (None, ts)) old n ∙ ap (λ t. after t (λ t rest. Ok (Some t, rest))) read
