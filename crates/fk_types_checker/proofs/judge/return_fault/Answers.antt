use Rattle.std.proofs.Common.{◌≡◌, Option, Some, None, refl, sym, ap, subst}
use Rattle.std.specs.Option.{option_map}
use Rattle.fk_syntax.specs.Tree.{Tree}
use Rattle.fk_syntax.specs.View.{tree_of, type_of}
use Rattle.fk_types_obligations.specs.Pieces as p
use Rattle.fk_types_forms.specs.Scope.{env_in}
use Rattle.fk_types_checker.specs.Read.{IsPieceRead}
use Rattle.fk_types_checker.proofs.judge.return_fault.Goals as goal

pub returns-in-Some : goal.returns-in-Some
returns-in-Some c =
    let E = env_in c.args.scope.now in
    let value = tree_of c.in-Some.value in
    let is : option_map tree_of c.args.value.now ≡ Some value = ap (option_map tree_of) c.in-Some.is in
    let read = c.expression-part.ensures in
    subst (λ (o : Option Tree). IsPieceRead E (p.Return (type_of c.args.gives.now) c.args.spot o) c.args.types.now c.expression-part.new.types c.given_fault.result) (sym is)
    (record { least = c.given_fault.ensures value read.is; types = read.types })

pub returns-in-None : goal.returns-in-None
returns-in-None c =
    let E = env_in c.args.scope.now in
    let is : option_map tree_of c.args.value.now ≡ None = ap (option_map tree_of) c.in-None.is in
    subst (λ (o : Option Tree). IsPieceRead E (p.Return (type_of c.args.gives.now) c.args.spot o) c.args.types.now c.args.types.now c.lacking_fault.result) (sym is)
    (record { least = c.lacking_fault.ensures E; types = refl })
