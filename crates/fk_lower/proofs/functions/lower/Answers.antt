use Rattle.std.proofs.Common.{rules, ◌≡◌, ℕ, List, ◌++◌, length, map, take, drop, ap, sym, subst, ◌∙◌}
use Rattle.fk_core.specs.declared.op.CoreOp.{CoreOp}
use Rattle.fk_lower.specs.View.{part_of}
use Rattle.fk_lower.specs.Written.{items_of, entry_of}
use Rattle.fk_lower.specs.Depths.{told, AreTold}
use Rattle.fk_lower.specs.Lowered.{written_from}
use Rattle.fk_lower.proofs.Numbered.{list_fault}
use Rattle.fk_lower.proofs.Told.{told_back, items_stay, are_told}
use Rattle.fk_lower.proofs.Whole.{lowered_flat, lowered_list}
use Rattle.fk_lower.proofs.functions.lower.Goals as goal

module _ (c : goal.After-ops-in-Ok-1) where
  abbrev depths : List ℕ
  depths = c.args.depths.now

  abbrev written : List CoreOp
  written = c.write_all.new.writer.ops.items

  -- the list as it is told
  abbrev core : List CoreOp
  core = take c.write_all.new.writer.ops.len (c.tell.new.ops ++ drop (length c.tell.new.ops) written)

  same : core ≡ map (told depths) written
  same = told_back depths written c.tell.new.ops c.write_all.new.writer.ops.len (c.tell.ensures ∙ ap (map (told depths)) c.deref_mut.ensures.value) (sym c.write_all.new.writer.ops.ok.0)

  items : items_of core ≡ written_from (entry_of c.in_ok-entries.field-0.items c.in_ok-end.end) 0 c.in_ok-end.end (map part_of c.args.bodies.now)
  items =
      ap items_of same ∙ items_stay depths written ∙ c.in-Ok.ensures.items
      ∙ ap (λ (ops : List CoreOp). items_of ops ++ written_from (entry_of c.in_ok-entries.field-0.items c.in_ok-end.end) 0 c.in_ok-end.end (map part_of c.args.bodies.now))
      c.new-writer.ensures

pub returns-in-Ok-clause-flat : goal.returns-in-Ok-clause-flat
returns-in-Ok-clause-flat c =
    let parts = map part_of c.args.bodies.now in
    let entries = c.in_ok-entries.field-0.items in
    let end = c.in_ok-end.end in
    lowered_flat parts c.requires (core c) entries end
    (search rules) (search rules)
    (items c)

pub returns-in-Ok-clause-order : goal.returns-in-Ok-clause-order
returns-in-Ok-clause-order c =
    let parts = map part_of c.args.bodies.now in
    let entries = c.in_ok-entries.field-0.items in
    let end = c.in_ok-end.end in
    lowered_list parts c.requires (core c) (entry_of entries end) end
    (items c)

pub returns-in-Ok-clause-told : goal.returns-in-Ok-clause-told
returns-in-Ok-clause-told c = subst (AreTold c.args.depths.now) (sym (same c)) (are_told c.args.depths.now (written c))

pub returns-in-Err-clause-refused : goal.returns-in-Err-clause-refused
returns-in-Err-clause-refused c =
    list_fault (map part_of c.args.bodies.now) c.in-Err.fault c.in_writing.result c.in-Err.ensures.fault c.in_writing.ensures.memory c.in_writing.ensures.fault
