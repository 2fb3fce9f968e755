use Rattle.std.proofs.Common.{◌-◌, ◌∙◌, length, arith}
use Rattle.fk_lower_text.specs.Laid.{codes_of}
use Rattle.fk_lower_text.proofs.Keeping.{one_skipped}
use Rattle.fk_lower_text.proofs.bodies.Bodies.reach.Goals as goal

pub loop-self-preserved : goal.loop-self-preserved
loop-self-preserved c =
    let first = c.args.self.now.blocks.items in
    let now = c.loop-self.self.blocks.items in
    let new = c.skip.new.self.blocks.items in
    let low = c.loop-self.invariant.count in
    let more = c.in_ok-skip.ensures.count in
    record {
      count = omega (arith, low, more);
      up = omega (arith, more);
      codes = one_skipped (codes_of first) (codes_of now) (codes_of new) (length now - length first) (length new - length first)
          c.loop-self.invariant.codes c.in_ok-skip.ensures.codes (omega (arith, low, more));
      site = c.skip.ensures.site ∙ c.loop-self.invariant.site;
      measured = c.skip.ensures.measured;
    }
