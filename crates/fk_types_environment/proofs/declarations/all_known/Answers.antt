use Rattle.std.proofs.Common.{◌+◌, map, take, sym, subst}
use Rattle.std.specs.List.{AllZip}
use Rattle.fk_types_structs.specs.Whole.{structs_in}
use Rattle.fk_types_names.specs.View.{declaration_of}
use Rattle.fk_types_environment.specs.Known.{IsKnown}
use Rattle.fk_types_environment.proofs.ListLemmas.{zip-more, zip-all}
use Rattle.fk_types_environment.proofs.declarations.all_known.Goals as goal

pub loop-declaration-preserved : goal.loop-declaration-preserved
loop-declaration-preserved c =
    let R = IsKnown (structs_in c.args.structs.now) in
    let xs = c.args.declarations.now in
    let i = c.loop-declaration.declaration-index in
    subst (AllZip (IsKnown (structs_in c.args.structs.now)) (map declaration_of (take (c.loop-declaration.declaration-index + 1) c.args.declarations.now))) (sym c.in_ok-push.ensures.items)
    (zip-more declaration_of R xs i c.declaration-item.result c.loop-declaration.known.items c.in_ok-known_of.field-0 c.loop-declaration-test.true c.declaration-item.is c.loop-declaration.invariant c.in_ok-known_of.ensures)

pub returns : goal.returns
returns c = zip-all declaration_of (IsKnown (structs_in c.args.structs.now)) c.args.declarations.now c.loop-declaration.declaration-index c.loop-declaration.known.items c.loop-declaration-test.false c.loop-declaration.invariant
