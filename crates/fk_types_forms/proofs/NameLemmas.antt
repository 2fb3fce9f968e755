-- What is called, and signs that have a form of their own.
use Rattle.std.proofs.Common.{◌≡◌, ◌≢◌, false, Option, Some, None, true≢false, refl, sym, ap, subst}
use Rattle.std.proofs.lemmas.Option.{same_Some, none-some}
use Rattle.fk_syntax.specs.declared.place.Spot.{Spot}
use Rattle.fk_syntax.specs.declared.sign.Sign.{Sign}
use Rattle.fk_syntax.specs.declared.sign.Sign.TheVariants as s
use Rattle.fk_syntax.specs.Tree.{Named}
use Rattle.fk_check_rules.specs.declared.fault.Fault.{Fault}
use Rattle.fk_check_rules.specs.Least.{IsLeast}
use Rattle.fk_types_operators.specs.declared.values.ExpressionType.{ExpressionType}
use Rattle.fk_types_judgments.specs.Term as m
use Rattle.fk_types_judgments.specs.Term.{Term}
use Rattle.fk_types_judgments.specs.Names.{Meant, Kept, Constant, Called, Main, Undeclared, Env}
use Rattle.fk_types_judgments.specs.Typing.{called_as}
use Rattle.fk_types_judgments.specs.Broken.{Broken, as_called, CalledNameBreaks, is_main, is_function}
use Rattle.fk_types_forms.specs.Scope.{is_called}
use Rattle.fk_types_forms.specs.Parts.{name_in}

-- a function that isn't `main` is another
pub function-so : (meant : Meant) → is_main meant ≡ false → is_called meant ≡ is_function meant
function-so (Kept type) e = refl
function-so (Constant value) e = refl
function-so (Called parameters result) e = refl
function-so Main e = absurd (true≢false e)
function-so Undeclared e = refl

-- what a called name is
pub called-name : (env : Env) (term : Term) (n : Named) (type : Option ExpressionType) → name_in term ≡ Some n → env.meant n ≡ called_as env term type
called-name env (m.Use name) n type e = ap env.meant (sym (same_Some name n e))
called-name env _ n type e = absurd (none-some n e)

-- and what it breaks
pub callee-name : (env : Env) (term : Term) (n : Named) (r : Option Fault) → name_in term ≡ Some n → IsLeast (CalledNameBreaks (env.meant n) n.place) r → IsLeast (as_called env term (Broken env term)) r
callee-name env (m.Use name) n r e l = subst (λ (v : Named). IsLeast (CalledNameBreaks (env.meant v) v.place) r) (sym (same_Some name n e)) l
callee-name env _ n r e l = absurd (none-some n e)

pub callee-other : (env : Env) (term : Term) (r : Option Fault) → name_in term ≡ None → IsLeast (Broken env term) r → IsLeast (as_called env term (Broken env term)) r
callee-other env (m.Use name) r e l = absurd (none-some name (sym e))
callee-other env _ r e l = l

-- signs that have no form of their own
pub prefix-other : (spot : Spot) (sign : Sign) (t : Term) → sign ≢ s.Star → sign ≢ s.Ampersand → sign ≢ s.Increment → sign ≢ s.Decrement → m.Prefix spot sign t ≡ m.prefix_term spot sign t
prefix-other spot s.Star t a b c d = absurd (a refl)
prefix-other spot s.Ampersand t a b c d = absurd (b refl)
prefix-other spot s.Increment t a b c d = absurd (c refl)
prefix-other spot s.Decrement t a b c d = absurd (d refl)
prefix-other spot _ t a b c d = refl

pub joined-other : (spot : Spot) (sign : Sign) (l r : Term) → sign ≢ s.Comma → m.Binary spot sign l r ≡ m.joined_term spot sign l r
joined-other spot s.Comma l r a = absurd (a refl)
joined-other spot _ l r a = refl
