use Rattle.std.proofs.Common.{◌≡◌, ◌∷◌, ◌++◌, [], arith}
use Rattle.std.proofs.Common.{rules}
use Rattle.fk_image.proofs.Tables.{Spells-word}
use Rattle.fk_image.proofs.reading.read_words.Goals as goal

pub loop-i-preserved : goal.loop-i-preserved
loop-i-preserved c =
    let table = c.args.table.now in
    let next = Spells-word table c.loop-i.i c.loop-i.words.items (λ i. omega (arith, c.type_inv.table i)) (omega arith) c.loop-i.invariant in
    let pushed : c.push.new.self.items ≡ c.loop-i.words.items ++ c.read_word.result ∷ [] = search rules in
    rw (pushed, c.read_word.ensures) next
