-- What is read of a header and of the statement behind it, where their whole is made of both, and in a box.
use Rattle.std.proofs.Common.{◌≡◌, List, Result, Ok, Err, true, false, ◌⊎◌, inl, inr, arith}
use Rattle.std.specs.Prelude.{IfOk, IfErr, IsOk}
use Rattle.std.specs.declared.boxed.Box.{Box}
use Rattle.std.specs.declared.alloc.Global.{Global}
use Rattle.fk_parse_combinators.specs.declared.fault.SyntaxFault.{SyntaxFault}
use Rattle.fk_parse_combinators.specs.declared.fault.SyntaxFault.TheVariants.{Unexpected, EndOfText, Nesting, Memory}
use Rattle.fk_parse_combinators.specs.Faults.{IsMemory}
use Rattle.fk_parse_combinators.specs.Languages.{Placed}
use Rattle.fk_parse_combinators.specs.Reads.{Answer}
use Rattle.fk_parse_combinators.specs.Readers.{Reader, giving, ◌and◌}
use Rattle.fk_parse_combinators.specs.Ahead.{Shortens}
use Rattle.fk_parse_combinators.specs.Gives.{Gives, Halts}
use Rattle.fk_parse_combinators.proofs.Behind.{behind_reads, behind_halts}

pub both_give : {A B C D : Type 0} (f : A × B → C) (P : Reader A) (Q : Reader B) (view : D → B) (ts mid now : List Placed) (a : A) (r : Result D SyntaxFault)
    → P ts ≡ Ok (a, mid) → Gives view r now (Q mid) → Gives (λ d. f (a, view d)) r now (giving f (P and Q) ts)
both_give f P Q view ts mid now a (Ok d) g h = behind_reads f P Q ts mid now a (view d) g h
both_give f P Q view ts mid now a (Err fault) g h = behind_halts f P Q ts mid a fault now g h

pub both_shorten : {A B : Type 0} (whole : Result A SyntaxFault) (r : Result B SyntaxFault) (old mid now : List Placed)
    → Shortens old mid → IfOk r (λ _. Shortens mid now) → IfOk whole (λ _. IsOk r) → IfOk whole (λ _. Shortens old now)
both_shorten (Ok a) (Ok b) old mid now s t o = (omega (arith, s.0, t.0), s.1)
both_shorten (Ok a) (Err fault) old mid now s t o = let e : false ≡ true = o in cc
both_shorten (Err fault) r old mid now s t o = tt

-- memory may run out at any answer
memory_halts : {A : Type 0} (answer : Answer A) (fault : SyntaxFault) (now : List Placed) → IsMemory fault → Halts answer fault now
memory_halts answer (Memory error) now m = tt
memory_halts answer (Unexpected place) now m = absurd m
memory_halts answer EndOfText now m = absurd m
memory_halts answer (Nesting place) now m = absurd m

pub boxed_give : {A B : Type 0} (view : A → B) (read : Result A SyntaxFault) (r : Result (Box A Global) SyntaxFault) (now : List Placed) (answer : Answer B)
    → IfOk r (λ b. read ≡ Ok b.value) → IfErr r (λ fault. read ≡ Err fault ⊎ IsMemory fault) → Gives view read now answer → Gives (λ (b : Box A Global). view b.value) r now answer
boxed_give view read (Ok b) now answer is stops g = rw is at g
boxed_give view read (Err fault) now answer is (inl e) g = rw e at g
boxed_give view read (Err fault) now answer is (inr m) g = memory_halts answer fault now m

pub boxed_shorten : {A : Type 0} (read : Result A SyntaxFault) (r : Result (Box A Global) SyntaxFault) (old now : List Placed)
    → IfOk r (λ b. read ≡ Ok b.value) → IfOk read (λ _. Shortens old now) → IfOk r (λ _. Shortens old now)
boxed_shorten read (Ok b) old now is s = rw is at s
boxed_shorten read (Err fault) old now is s = tt
