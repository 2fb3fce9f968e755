use Rattle.std.proofs.Common.{◌≡◌, suc, ◌-◌, ◌<◌, ◌∷◌, length, drop, get_or, sym, ap, ◌∙◌, drop-cons, arith}
use Rattle.std.proofs.lemmas.List.{drop_all, length-set}
use Rattle.std.proofs.lemmas.List.Elements.{All-get_or}
use Rattle.fk_image.specs.Limits.{IsCommit}
use Rattle.fk_machine.specs.Commit.{commits_of}
use Rattle.fk_machine.proofs.Table.{one_more_entry}
use Rattle.fk_machine.proofs.commits.commit_table.Goals as goal

pub loop-left-init : goal.loop-left-init
loop-left-init c = record {
  few = omega arith;
  sized = omega (arith, c.in_ok-table.ensures.len, c.in_ok-table.table.ok.0);
  so_far = c.in_ok-table.ensures.none ∙ ap commits_of (sym (drop_all (length c.args.entries.now) c.args.entries.now (omega arith)));
}

pub loop-left-preserved : goal.loop-left-preserved
loop-left-preserved c =
    let left = c.loop-left.left - 1 in
    let entries = c.args.entries.now in
    let so_far = c.loop-left.invariant in
    let lt : left < length entries = omega (arith, so_far.few, c.loop-left-test.true) in
    let back : c.loop-left.left ≡ suc left = omega (arith, c.loop-left-test.true) in
    let is = All-get_or (IsCommit c.args.code_words) entries left (0, 0) lt c.requires in
    record {
      few = omega (arith, so_far.few);
      sized = length-set c.loop-left.table.items _ _ ∙ so_far.sized;
      so_far =
          one_more_entry c.loop-left.table.items c.args.code_words (get_or entries left (0, 0)) (drop c.loop-left.left entries) is so_far.sized so_far.so_far
          ∙ ap (λ k. commits_of (get_or entries left (0, 0) ∷ drop k entries)) back
          ∙ ap commits_of (sym (drop-cons entries left (0, 0) lt));
    }
