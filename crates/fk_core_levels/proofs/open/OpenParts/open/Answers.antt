use Rattle.fk_core_levels.proofs.Opened.{opened_parts}
use Rattle.fk_core_levels.proofs.open.OpenParts.open.Goals as goal

pub returns : goal.returns
returns c =
    let held = c.args.self.now in
    opened_parts c.args.by held.parts.items c.push.new.self.items c.left_by.result held.words c.in_ok-push.ensures.items c.left_by.ensures
