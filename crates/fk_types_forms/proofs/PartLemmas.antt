-- What is known of a part, and the first fault of a test.
use Rattle.std.proofs.Common.{◌≡◌, Bool, false, Option, None, sym, subst}
use Rattle.fk_syntax.specs.declared.place.Place.{Place}
use Rattle.fk_check_rules.specs.declared.rule.Rule.{Rule}
use Rattle.fk_check_rules.specs.declared.fault.Fault.{Fault}
use Rattle.fk_check_rules.specs.Least.{IsLeast}
use Rattle.fk_types_operators.specs.declared.values.ExpressionType.{ExpressionType}
use Rattle.fk_types_judgments.specs.Term.{Term, first_place}
use Rattle.fk_types_judgments.specs.Names.{Env}
use Rattle.fk_types_judgments.specs.Typing.{operand_in, is_zero, is_no_target, type_of}
use Rattle.fk_types_judgments.specs.Broken.{where_so, Broken}
use Rattle.fk_types_forms.specs.declared.parts.Part.{Part}
use Rattle.fk_types_forms.specs.Parts.{IsPart, name_in}

-- the same test at the same place
pub least-same : (rule : Rule) (p q : Place) (a b : Bool) (r : Option Fault) → IsLeast (where_so rule p a) r → p ≡ q → a ≡ b → IsLeast (where_so rule q b) r
least-same rule p q a b r l there same = subst (λ place. IsLeast (where_so rule place b) r) there (subst (λ test. IsLeast (where_so rule p test) r) same l)

-- and the same rule
pub least-rule : (one rule : Rule) (p : Place) (a b : Bool) (r : Option Fault) → IsLeast (where_so one p a) r → one ≡ rule → a ≡ b → IsLeast (where_so rule p b) r
least-rule one rule p a b r l there same = subst (λ v. IsLeast (where_so v p b) r) there (subst (λ test. IsLeast (where_so one p test) r) same l)

-- a part that is no name
pub made-part : (env : Env) (term : Term) (part : Part) (kind : Option ExpressionType) (first : Place) (target : Bool) (fault : Option Fault)
    → part ≡ record { kind = kind; first = first; is_zero = false; is_no_target = target; name = None; fault = fault }
    → kind ≡ type_of env term → first ≡ first_place term → false ≡ is_zero term → target ≡ is_no_target env term → None ≡ name_in term
    → IsLeast (Broken env term) fault → IsPart env term part
made-part env term part kind first target fault is type place zero kept name least = subst (IsPart env term) (sym is)
    (record { type = type; first = place; zero = zero; target = kept; name = name; fault = least })

-- functions of equal values
pub both-same : {A B C : Type 0} (f : A → B → C) (a x : A) (b y : B) → a ≡ x → b ≡ y → f a b ≡ f x y
both-same f a x b y p q = cc

pub three-same : {A B C D : Type 0} (f : A → B → C → D) (a x : A) (b y : B) (c z : C) → a ≡ x → b ≡ y → c ≡ z → f a b c ≡ f x y z
three-same f a x b y c z p q r = cc

pub four-same : {A B C D E : Type 0} (f : A → B → C → D → E) (a x : A) (b y : B) (c z : C) (d w : D) → a ≡ x → b ≡ y → c ≡ z → d ≡ w → f a b c d ≡ f x y z w
four-same f a x b y c z d w p q r s = cc

-- what a sign works on, by what is known of a part
pub operand-of : (env : Env) (term : Term) (part : Part) → IsPart env term part → operand_in part.is_zero part.kind ≡ operand_in (is_zero term) (type_of env term)
operand-of env term part is = both-same operand_in part.is_zero (is_zero term) part.kind (type_of env term) is.zero is.type
