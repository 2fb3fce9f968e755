use Rattle.std.proofs.Common.{◌≡◌, ◌+◌, ◌<◌, ◌∷◌, List, drop, length, get_or, slice_get, Some, sym, subst}
use Rattle.std.proofs.lemmas.Result.{on_ok_weaker}
use Rattle.fk_syntax.specs.Program.{ItemTree}
use Rattle.fk_syntax.specs.ProgramView.{item_of}
use Rattle.fk_layout_walk.specs.Known.{tables_of, items_in}
use Rattle.fk_layout_lookup.specs.Lookup.{TellsCallees}
use Rattle.fk_layout_lookup.proofs.Found.{more_mapped, read_mapped, item_noted, item_passed}
use Rattle.fk_layout_lookup.proofs.lookup.note_callee.Goals as goal

pub returns-in-Some-defined : goal.returns-in-Some-defined
returns-in-Some-defined c =
    let known = c.args.known.now in
    let item = c.in-Some.item.now in
    let within : c.args.index < length known.items.now = c.in-Some.ensures.lookup.3.0 in
    let read : item ≡ get_or known.items.now c.args.index item = c.in-Some.ensures.lookup.3.1 item in
    let split : drop c.args.index (items_in known) ≡ item_of item ∷ drop (c.args.index + 1) (items_in known) = more_mapped item_of known.items.now c.args.index item within read in
    let here : slice_get (items_in known) c.args.index ≡ Some (item_of item) = read_mapped item_of known.items.now c.args.index item within read in
    on_ok_weaker c.mean.result (λ means.
    subst (λ (items : List ItemTree). TellsCallees (tables_of known) (items_in known) items c.mean.new.callees.items) (sym split)
    (item_noted (tables_of known) (items_in known) c.args.callees.now.items c.mean.new.callees.items c.args.index c.in-Some-defined.binding (item_of item) (drop (c.args.index + 1) (items_in known)) here (sym c.in-Some-defined.ensures) (means (items_in known)) c.requires))
    c.mean.ensures

pub returns-in-None : goal.returns-in-None
returns-in-None c =
    let known = c.args.known.now in
    let item = c.in-Some.item.now in
    let split : drop c.args.index (items_in known) ≡ item_of item ∷ drop (c.args.index + 1) (items_in known) = more_mapped item_of known.items.now c.args.index item c.in-Some.ensures.lookup.3.0 (c.in-Some.ensures.lookup.3.1 item) in
    subst (λ (items : List ItemTree). TellsCallees (tables_of known) (items_in known) items c.args.callees.now.items) (sym split)
    (item_passed (tables_of known) (items_in known) c.args.callees.now.items (item_of item) (drop (c.args.index + 1) (items_in known)) (sym c.in-None.ensures) c.requires)
