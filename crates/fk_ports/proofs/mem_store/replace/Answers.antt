use Rattle.std.proofs.Common.{◌≡◌, None, Some, sym, ap, ◌∙◌}
use Rattle.std.specs.List.{position}
use Rattle.fk_ports.specs.Files.{with_file}
use Rattle.fk_ports.specs.InMemory.{is_named, stored_files}
use Rattle.fk_ports.proofs.Stored.{stored_files-push, stored_files-set}
use Rattle.fk_ports.proofs.mem_store.replace.Goals as goal

pub returns-in-Some-clause-ok : goal.returns-in-Some-clause-ok
returns-in-Some-clause-ok c =
    let at : position (is_named c.args.name.now) c.args.files.now.items ≡ Some c.in-Some.at = ap (position (is_named c.args.name.now)) (sym c.deref.ensures.value) ∙ sym c.in-Some.ensures in
    stored_files-set c.args.files.now.items c.args.name.now c.in-Some.at c.index_mut.result.now c.in_ok-bytes.bytes at c.index_mut.ensures.value
    ∙ ap (with_file (stored_files c.args.files.now.items) c.args.name.now) c.in_ok-bytes.ensures.items

pub returns-in_ok-push-in-None-clause-ok : goal.returns-in_ok-push-in-None-clause-ok
returns-in_ok-push-in-None-clause-ok c =
    let none : position (is_named c.args.name.now) c.args.files.now.items ≡ None = ap (position (is_named c.args.name.now)) (sym c.deref.ensures.value) ∙ sym c.in-None.ensures in
    ap stored_files c.in_ok-push-in-None.ensures.items
    ∙ stored_files-push c.args.files.now.items c.args.name.now (c.in_ok-from_str-in-None.field-0, c.in_ok-bytes.bytes) none c.in_ok-from_str-in-None.ensures.ok
    ∙ ap (with_file (stored_files c.args.files.now.items) c.args.name.now) c.in_ok-bytes.ensures.items
