use Rattle.std.proofs.Common.{◌≡◌, ◌<◌, ◌≤◌, [], map, take, length, sym, ap, subst, ◌∙◌, arith}
use Rattle.std.proofs.lemmas.List.{length-map, length-take-le, get_or-map}
use Rattle.fk_syntax.specs.Program.{DeclaredTree}
use Rattle.fk_syntax.specs.ProgramView.{declared_of}
use Rattle.fk_types_structs.specs.Types.{member_names}
use Rattle.fk_types_structs.specs.View.{Finds}
use Rattle.fk_types_structs.proofs.NameLemmas.{take-names}
use Rattle.fk_types_structs.proofs.names.member_places.Goals as goal

pub loop-place-preserved : goal.loop-place-preserved
loop-place-preserved c =
    let names = member_names (map declared_of c.args.members.now) in
    let place = c.loop-place.place in
    let length_is : length (member_names (map declared_of c.args.members.now)) ≡ length c.args.members.now = length-map (map declared_of c.args.members.now) (λ (d : DeclaredTree). d.name.bytes) ∙ length-map c.args.members.now declared_of in
    let within : c.loop-place.place < length (member_names (map declared_of c.args.members.now)) = omega (arith, length_is, c.loop-place-test.true) in
    let mapped : c.loop-place.place < length (map declared_of c.args.members.now) = omega (arith, length-map c.args.members.now declared_of, c.loop-place-test.true) in
    let short : c.loop-place.place ≤ length (member_names (map declared_of c.args.members.now)) = omega (arith, within) in
    let name = get_or-map (λ (d : DeclaredTree). d.name.bytes) (map declared_of c.args.members.now) place (declared_of c.index-members-place.result) [] mapped
    ∙ ap (λ (d : DeclaredTree). d.name.bytes) (get_or-map declared_of c.args.members.now place c.index-members-place.result (declared_of c.index-members-place.result) c.loop-place-test.true ∙ ap declared_of (sym c.index-members-place.is)) in
    subst (Finds c.add.new.places.entries) (take-names names place c.index-members-place.result.name.bytes.now within name)
    (c.in_ok-add.ensures (take place names) (sym (length-take-le place names short)) c.loop-place.invariant)
