-- The kinds of tokens that go on with an expression.
use Rattle.std.proofs.Common.{◌≡◌, ℕ, zero, suc, ◌<◌, Option, Some, None, Bool, true, false, IsTrue, refl, sym, ap, ◌∙◌, arith, ◌==◌, if◌then◌else◌, eqb-true}
use Rattle.fk_syntax.specs.declared.sign.Sign.{Sign}
use Rattle.fk_expr.specs.Kinds.{assignment_told, operator_told}
use Rattle.fk_expr.specs.Grammar.{only, operator_at}
use Rattle.fk_parse_combinators.specs.Readers.{tells, does_tell}
use Rattle.fk_expr.specs.Reading.{begins_suffix}
use Rattle.fk_parse_combinators.proofs.Sets.{Kinds, ◌∪◌, Apart, union_apart}
use Rattle.fk_parse_combinators.proofs.EachKind.{apart_by}
use Rattle.fk_parse_combinators.specs.Kinds.{just}
use Rattle.fk_lex.specs.declared.token.TokenKind.TheVariants as kind

-- joined operands go on with a suffix, and with an operator that binds so loosely or tighter
abbrev pub goes_joined : ℕ → Kinds
goes_joined zero = begins_suffix
goes_joined (suc looseness) = goes_joined looseness ∪ tells (operator_at (suc looseness))

-- a choice goes on with `?` too
abbrev pub goes_choice : Kinds
goes_choice = goes_joined 10 ∪ just kind.Question

-- an assignment goes on with the sign of an assignment too
abbrev pub goes_assignment : Kinds
goes_assignment = goes_choice ∪ tells assignment_told

-- an expression with commas goes on with a comma too
abbrev pub goes_comma : Kinds
goes_comma = goes_assignment ∪ just kind.Comma

-- ---- each operator binds at one level

operator_level : (looseness : ℕ) (o : Option (ℕ × Sign)) → IsTrue (does_tell (only looseness o)) → (sign : Sign) × (o ≡ Some (looseness, sign))
operator_level looseness None h = absurd (cc)
operator_level looseness (Some x) h = by (x.0 == looseness) refl h
  where
    by : (b : Bool) → (x.0 == looseness) ≡ b → IsTrue (does_tell (if b then Some x.1 else None)) → (sign : Sign) × (Some x ≡ Some (looseness, sign))
    by true e d = let same : x.0 ≡ looseness = eqb-true x.0 looseness e in (x.1, ap (λ n. Some (n, x.1)) same)
    by false e d = absurd (cc)

level_of : Option (ℕ × Sign) → ℕ
level_of None = 0
level_of (Some x) = x.0

operators_apart : (a b : ℕ) → a < b → Apart (tells (operator_at a)) (tells (operator_at b))
unfolding level_of
operators_apart a b less k h i =
    let v = operator_level a (operator_told k) h in
    let w = operator_level b (operator_told k) i in
    let same : a ≡ b = ap level_of (sym v.1 ∙ w.1) in
    omega arith

suffix_apart : (n : ℕ) → Apart begins_suffix (tells (operator_at n))
unfolding just
suffix_apart n k h i =
    let v = operator_level n (operator_told k) i in
    apart_by begins_suffix (tells operator_told) refl (λ v u. refl) k h (let e : operator_told k ≡ Some (n, v.0) = v.1 in rw e refl)

-- an operator that binds more loosely goes on with none of them
pub joined_apart : (looseness n : ℕ) → looseness < n → Apart (goes_joined looseness) (tells (operator_at n))
joined_apart zero n less = suffix_apart n
joined_apart (suc looseness) n less =
    union_apart (goes_joined looseness) (tells (operator_at (suc looseness))) (tells (operator_at n))
    (joined_apart looseness n (omega arith)) (operators_apart (suc looseness) n less)
