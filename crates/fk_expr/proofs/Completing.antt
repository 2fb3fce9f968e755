-- What is read of a first part and of what comes behind it, where their whole is made of both.
use Rattle.std.proofs.Common.{◌≡◌, ◌≤◌, List, Option, Some, None, Bool, Result, Ok, Err, true, false, length, sym, ap, subst, ◌∙◌, arith}
use Rattle.std.specs.Prelude.{IfOk, IsOk}
use Rattle.fk_lex.specs.declared.token.TokenKind.{TokenKind}
use Rattle.fk_parse_combinators.specs.declared.fault.SyntaxFault.{SyntaxFault}
use Rattle.fk_parse_combinators.specs.Languages.{Placed}
use Rattle.fk_parse_combinators.specs.Readers.{Reader, after, giving, ◌and◌, next_is, optional}
use Rattle.fk_parse_combinators.specs.Ahead.{Shortens}
use Rattle.fk_parse_combinators.specs.Gives.{Gives, Makes, Halts}
use Rattle.fk_parse_combinators.proofs.Behind.{behind_reads, behind_halts}
use Rattle.fk_parse_combinators.proofs.Halting.{halts_after}
use Rattle.fk_parse_combinators.proofs.Or.{by_next-yes}

pub behind_gives : {A B C D : Type 0} (f : A × B → C) (P : Reader A) (Q : Reader B) (view : D → C) (ts mid now : List Placed) (a : A) (r : Result D SyntaxFault)
    → P ts ≡ Ok (a, mid) → Makes (λ b. f (a, b)) view r now (Q mid) → Gives view r now (giving f (P and Q) ts)
behind_gives f P Q view ts mid now a (Ok d) g h = behind_reads f P Q ts mid now a h.0 g h.1 ∙ ap (λ c. Ok (c, now)) h.2
behind_gives f P Q view ts mid now a (Err fault) g h = behind_halts f P Q ts mid a fault now g h

-- where a kind of token that begins it comes next
pub optional_gives : {A B C D : Type 0} (f : A × Option B → C) (P : Reader A) (is : TokenKind → Bool) (Q : Reader B) (view : D → C) (ts mid now : List Placed) (a : A) (r : Result D SyntaxFault)
    → P ts ≡ Ok (a, mid) → next_is is mid ≡ true → Makes (λ b. f (a, Some b)) view r now (Q mid) → Gives view r now (giving f (P and optional is Q) ts)
optional_gives f P is Q view ts mid now a (Ok d) g n h =
    behind_gives f P (optional is Q) view ts mid now a (Ok d) g
    (Some h.0, by_next-yes is (giving Some Q) (λ ts. Ok (None, ts)) mid n ∙ ap (λ x. after x (λ b rest. Ok (Some b, rest))) h.1, h.2)
optional_gives f P is Q view ts mid now a (Err fault) g n h =
    behind_gives f P (optional is Q) view ts mid now a (Err fault) g
    (subst (λ x. Halts x fault now) (sym (by_next-yes is (giving Some Q) (λ ts. Ok (None, ts)) mid n)) (halts_after (Q mid) (λ b rest. Ok (Some b, rest)) fault now h))

pub whole_shortens : {A B : Type 0} (whole : Result A SyntaxFault) (r : Result B SyntaxFault) (old mid now : List Placed)
    → Shortens old mid → IfOk r (λ _. length now ≤ length mid) → IfOk whole (λ _. IsOk r) → IfOk whole (λ _. Shortens old now)
whole_shortens (Ok a) (Ok b) old mid now s t o = (omega (arith, s.0, t), s.1)
whole_shortens (Ok a) (Err fault) old mid now s t o = let e : false ≡ true = o in cc
whole_shortens (Err fault) r old mid now s t o = tt

pub whole_leaves : {A B : Type 0} (whole : Result A SyntaxFault) (r : Result B SyntaxFault) (old now : List Placed)
    → IfOk r (λ _. length now ≤ length old) → IfOk whole (λ _. IsOk r) → IfOk whole (λ _. length now ≤ length old)
whole_leaves (Ok a) (Ok b) old now t o = t
whole_leaves (Ok a) (Err fault) old now t o = let e : false ≡ true = o in cc
whole_leaves (Err fault) r old now t o = tt
