use Rattle.std.proofs.Common.{◌≡◌, length, ap, sym, ◌∙◌, arith}
use Rattle.fk_core_liveness.specs.Live.{words_in}
use Rattle.fk_core_liveness.proofs.Asked.{written_back}
use Rattle.fk_core_liveness.proofs.live.live_words.Goals as goal

pub returns-clause-least : goal.returns-clause-least
returns-clause-least c others live i word is =
    let long : c.in_ok-live.live.len ≡ length c.settle.new.live = omega arith in
    let back = written_back c.in_ok-live.live.items c.settle.new.live c.in_ok-live.live.len long in
    c.settle.ensures.least others live i word (sym (ap (λ sets. words_in sets i word) back) ∙ is)
