use Rattle.std.proofs.Common.{◌≡◌, sym, subst, ◌∙◌}
use Rattle.std.proofs.lemmas.Option.{none-some, same_Some}
use Rattle.fk_types_structs.specs.Sizes.{HasOffset}
use Rattle.fk_types_structs.specs.Whole.{structs_in}
use Rattle.fk_types_bindings.proofs.SizeLemmas.{capped-offset, offset_right}
use Rattle.fk_types_bindings.proofs.known.TypedProgram.offset.Goals as goal

pub returns-in_err-place-clause-found : goal.returns-in_err-place-clause-found
returns-in_err-place-clause-found c = λ place words named offset. absurd (none-some place (c.in_err-place.ensures ∙ named))

pub returns-clause-found : goal.returns-clause-found
returns-clause-found c = λ place words named offset.
    let structs = structs_in c.args.self.now.structs.now in
    let same : c.in_ok-place.place ≡ place = same_Some c.in_ok-place.place place (c.in_ok-place.ensures ∙ named) in
    capped-offset structs c.args.index c.in_ok-place.place c.offset.result c.offset.ensures.some c.offset.ensures.none words (subst (λ k. HasOffset structs c.args.index k words) (sym same) offset)

pub returns-clause-right : goal.returns-clause-right
returns-clause-right c =
    offset_right (structs_in c.args.self.now.structs.now) c.args.index c.in_ok-place.place c.args.member.now c.offset.result (sym c.in_ok-place.ensures) c.offset.ensures.some
