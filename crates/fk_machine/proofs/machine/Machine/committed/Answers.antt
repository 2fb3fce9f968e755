use Rattle.std.proofs.Common.{◌<◌, length, sym, ap, ◌∙◌, arith}
use Rattle.fk_machine.specs.declared.hart.TrackedHart.{TrackedHart}
use Rattle.fk_machine.specs.Commit.{commit_at}
use Rattle.fk_machine.specs.View.{entry_at, machine_of}
use Rattle.fk_machine.proofs.Table.{committed_here}
use Rattle.fk_machine.proofs.machine.Machine.committed.Goals as goal

pub returns-in_err-index : goal.returns-in_err-index
unfolding machine_of
returns-in_err-index c =
    let hs = c.args.self.now.harts.items in
    let commits = entry_at c.args.self.now.setting.commits.items in
    let lt : c.args.hart < length hs = omega (arith, c.if-index-len.true, c.len.ensures, c.args.self.now.harts.ok.0) in
    c.from_residual.ensures
    ∙ sym (committed_here commits hs c.args.hart c.index.result.now lt ∙ ap (λ (h : TrackedHart). commit_at commits h.ran) (sym c.index.ensures) ∙ ap (commit_at commits) c.in_err-index.was)

pub returns-in_ok-index : goal.returns-in_ok-index
unfolding machine_of
returns-in_ok-index c =
    let hs = c.args.self.now.harts.items in
    let commits = entry_at c.args.self.now.setting.commits.items in
    let lt : c.args.hart < length hs = omega (arith, c.if-index-len.true, c.len.ensures, c.args.self.now.harts.ok.0) in
    c.commit_at.ensures
    ∙ sym (committed_here commits hs c.args.hart c.index.result.now lt ∙ ap (λ (h : TrackedHart). commit_at commits h.ran) (sym c.index.ensures) ∙ ap (commit_at commits) c.in_ok-index.was)
