use Rattle.std.proofs.Common.{◌≡◌, ◌≤◌, ◌-◌, ◌++◌, length, vec_len, ap, ◌∙◌, arith}
use Rattle.std.specs.Prelude.{slice_index, replicate}
use Rattle.std.proofs.lemmas.List.{take_all}
use Rattle.std.proofs.lemmas.Grind.{common_steps}
use Rattle.fk_meaning_store.proofs.IndexZeros.{index_append_zeros}
use Rattle.fk_meaning_store.proofs.store.first_words.Goals as goal

pub returns-clause-words : goal.returns-clause-words
returns-clause-words c =
    let given = c.extend_from_slice-2.new.self.items in
    let left = 1048576 - vec_len c.extend_from_slice-2.new.self in
    let both : given ≡ c.args.globals.now ++ c.args.input.now = grind (arith, common_steps) in
    let short : length given ≤ 1048576 = grind (arith, common_steps) in
    let filled = c.in_ok-resize.ensures.items ∙ ap (λ l. l ++ replicate left 0) (take_all 1048576 given short ∙ both) in
    ap slice_index filled ∙ index_append_zeros (c.args.globals.now ++ c.args.input.now) left
