use Rattle.std.proofs.Common.{◌≡◌, None, Some, sym, ap, ◌∙◌}
use Rattle.std.specs.List.{position}
use Rattle.std.specs.Option.{option_copied}
use Rattle.fk_ports.specs.Files.{file}
use Rattle.fk_ports.specs.InMemory.{is_named}
use Rattle.fk_ports.proofs.Stored.{file-at, file-none}
use Rattle.fk_ports.proofs.mem_store.MemStore.bytes.Goals as goal

pub returns-in_err-at : goal.returns-in_err-at
returns-in_err-at c =
    let none : position (is_named c.args.name.now) c.self.inside.files.items ≡ None = ap (position (is_named c.args.name.now)) (sym c.deref.ensures.value) ∙ sym c.in_err-at.ensures in
    ap option_copied c.from_residual.ensures
    ∙ sym (file-none c.self.inside.files.items c.args.name.now none)
    ∙ ap (λ s. file s.files c.args.name.now) c.self.view_is

pub returns : goal.returns
returns c =
    let at : position (is_named c.args.name.now) c.self.inside.files.items ≡ Some c.in_ok-at.at = ap (position (is_named c.args.name.now)) (sym c.deref.ensures.value) ∙ sym c.in_ok-at.ensures in
    ap Some c.as_slice.ensures.value
    ∙ sym (file-at c.self.inside.files.items c.args.name.now c.in_ok-at.at c.index.result.now at c.index.ensures)
    ∙ ap (λ s. file s.files c.args.name.now) c.self.view_is
