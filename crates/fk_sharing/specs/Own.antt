-- The tokens directly in a statement, in the order in which the code goes through them.
use Rattle.std.specs.Prelude.{ℕ, Bool, true, List, [], Option}
use Rattle.fk_syntax.specs.Program as p
use Rattle.fk_syntax.specs.Program.{Statement}
use Rattle.fk_sharing_class.specs.declared.thing.Thing.{Thing}
use Rattle.fk_sharing_class.specs.Class.{is_shared}
use Rattle.fk_sharing.specs.Tokens.{TokenIn, optional_tokens, is_condition_shared}
use Rattle.fk_sharing.specs.Tokens.{condition_tokens, head_tokens, parts_tokens, simple_tokens}

-- the tokens that decide in a statement whether its parts are run
abbrev pub decision_tokens : {R : Type 0} → (ℕ → Option Thing) → R → Statement → List (TokenIn R)
decision_tokens thing around (p.If spot condition body) =
    condition_tokens thing around spot condition
decision_tokens thing around (p.IfElse spot condition body otherwise) =
    condition_tokens thing around spot condition
decision_tokens thing around (p.While spot condition body) =
    condition_tokens thing around spot condition
decision_tokens thing around (p.DoWhile spot body condition) =
    condition_tokens thing around spot condition
decision_tokens thing around (p.For spot before condition after body) =
    head_tokens thing around spot before condition after
decision_tokens thing around _ = []

-- whether the condition of a statement is shared; without a condition it is
abbrev pub is_decision_shared : (ℕ → Option Thing) → Statement → Bool
is_decision_shared thing (p.If spot condition body) = is_shared thing condition
is_decision_shared thing (p.IfElse spot condition body otherwise) = is_shared thing condition
is_decision_shared thing (p.While spot condition body) = is_shared thing condition
is_decision_shared thing (p.DoWhile spot body condition) = is_shared thing condition
is_decision_shared thing (p.For spot before condition after body) =
    is_condition_shared thing condition
is_decision_shared thing _ = true

-- the tokens directly in a statement without a condition
abbrev pub own_tokens : {R : Type 0} → (ℕ → Option Thing) → R → Statement → List (TokenIn R)
own_tokens thing around (p.Start spot count body) = optional_tokens thing around count
own_tokens thing around (p.Fork spot parts part rank body) =
    parts_tokens thing around parts part rank
own_tokens thing around statement = simple_tokens thing around statement
