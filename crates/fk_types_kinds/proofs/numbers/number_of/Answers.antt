use Rattle.std.proofs.Common.{ap, inl, refl, ◌∙◌}
use Rattle.fk_types_kinds.proofs.Sets.{IsNumbered-insert, IsNumbered-last, IsNumbered-few}
use Rattle.fk_types_kinds.specs.Rows.{kinds_in}
use Rattle.fk_types_kinds.proofs.numbers.number_of.Goals as goal
use Rattle.std.specs.Prelude.{Some}

pub returns-then-is_kind-clause-numbered : goal.returns-then-is_kind-clause-numbered
returns-then-is_kind-clause-numbered c = inl (refl, rw c.if-is_kind.true at c.is_kind.ensures ∙ ap Some c.of-row.ensures)

pub returns-then-is_kind-clause-last : goal.returns-then-is_kind-clause-last
returns-then-is_kind-clause-last c =
    IsNumbered-last c.args.met.now.keys (kinds_in c.args.met.now.keys) c.args.kind c.args.likely
    (inl (refl, rw c.if-is_kind.true at c.is_kind.ensures ∙ ap Some c.of-row.ensures))

pub returns-clause-numbered : goal.returns-clause-numbered
returns-clause-numbered c =
    let e = c.in_ok-number.ensures in
    IsNumbered-insert c.args.met.now.keys c.insert_full.new.self.keys c.of-row.result c.args.kind c.in_ok-number.number c.of-row.ensures e.keys e.index

pub returns-clause-last : goal.returns-clause-last
returns-clause-last c =
    let e = c.in_ok-number.ensures in
    IsNumbered-last c.args.met.now.keys (kinds_in c.insert_full.new.self.keys) c.args.kind c.in_ok-number.number
    (IsNumbered-insert c.args.met.now.keys c.insert_full.new.self.keys c.of-row.result c.args.kind c.in_ok-number.number c.of-row.ensures e.keys e.index)

pub returns-clause-few : goal.returns-clause-few
returns-clause-few c =
    let e = c.in_ok-number.ensures in
    IsNumbered-few c.args.met.now.keys c.insert_full.new.self.keys c.args.kind c.in_ok-number.number
    (IsNumbered-insert c.args.met.now.keys c.insert_full.new.self.keys c.of-row.result c.args.kind c.in_ok-number.number c.of-row.ensures e.keys e.index)
