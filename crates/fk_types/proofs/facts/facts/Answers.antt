use Rattle.std.proofs.Common.{length, sym, ap, ap₂, subst, refl, ◌∙◌}
use Rattle.fk_syntax.specs.declared.facts.Facts.{Facts}
use Rattle.fk_syntax.specs.ProgramView.{program_of}
use Rattle.fk_types_kinds.specs.Met.{AreMet}
use Rattle.fk_types_rules.proofs.Tokens.{tokens_apart}
use Rattle.fk_types.specs.Notes.{notes_of}
use Rattle.fk_types.proofs.FactLemmas.{AreFactsIn-by}
use Rattle.fk_types.proofs.facts.facts.Goals as goal

pub notes-requires : goal.notes-requires
notes-requires c =
    let same = c.in_ok-bindings.ensures.length ∙ sym c.in_ok-kinds.ensures.same_length in
    ap length c.deref-2.ensures.value ∙ same ∙ sym (ap length c.deref.ensures.value)

pub returns : goal.returns
returns c = λ env structs told.
    let program = program_of c.args.program.now in
    let numbers = c.in_ok-kinds.kinds.numbers.items in
    let bindings = c.in_ok-bindings.bindings.items in
    let facts : Facts = record { notes = c.in_ok-notes.notes; kinds = c.in_ok-kinds.kinds.list } in
    let pieces = c.list.ensures ∙ c.requires.pieces in
    let met = subst (λ ss. AreMet ss c.args.types.now c.in_ok-kinds.kinds.list.items c.in_ok-kinds.kinds.numbers.items) (sym structs) c.in_ok-kinds.ensures in
    let bound = c.in_ok-bindings.ensures.bound env program c.requires.well_formed (tokens_apart program c.requires.well_formed) c.requires.tokens pieces structs c.requires.names told in
    let unbound = c.in_ok-bindings.ensures.unbound env program pieces structs c.requires.names told in
    let notes = c.in_ok-notes.ensures ∙ ap₂ notes_of c.deref.ensures.value c.deref-2.ensures.value in
    AreFactsIn-by env program c.args.types.now facts facts.kinds.items numbers bindings c.requires.tokens told met bound unbound
    (c.in_ok-bindings.ensures.length ∙ sym c.in_ok-kinds.ensures.same_length) notes refl
