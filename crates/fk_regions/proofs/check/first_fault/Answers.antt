use Rattle.fk_check_rules.proofs.LeastLemmas.{IsLeast-whole}
use Rattle.fk_regions.specs.Found.{TokenBreaks}
use Rattle.fk_regions.proofs.Finding.{one-more}
use Rattle.fk_regions.proofs.check.first_fault.Goals as goal

pub loop-token-preserved : goal.loop-token-preserved
loop-token-preserved c = one-more c.args.names.now c.args.tokens.now c.loop-token.token-index _ c.loop-token-test.true
    c.loop-token.fault c.token_fault.result c.first_of-fault.result c.called_by.result
    c.loop-token.invariant c.called_by.ensures c.token_fault.ensures c.first_of-fault.ensures

pub returns : goal.returns
returns c = IsLeast-whole (TokenBreaks c.args.names.now) c.args.tokens.now c.loop-token.token-index c.loop-token-test.false c.loop-token.fault c.loop-token.invariant
