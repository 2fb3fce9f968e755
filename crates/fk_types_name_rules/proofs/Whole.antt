-- What the marks and the items of a program break is what the program breaks.
use Rattle.std.proofs.Common.{◌≡◌, inl, inr, ℕ, Option, Some}
use Rattle.std.specs.Prelude.{slice_get}
use Rattle.fk_syntax.specs.declared.place.Place.{Place}
use Rattle.fk_syntax.specs.Program.{ItemTree, StructItem, VariablesItem, FunctionItem, ProgramTree}
use Rattle.fk_check_rules.specs.declared.rule.Rule.{Rule}
use Rattle.fk_check_rules.specs.declared.rule.Rule.TheVariants as r
use Rattle.fk_check_rules.specs.declared.fault.Fault.{Fault}
use Rattle.fk_check_rules.specs.Least.{Breaks, IsLeast, either, among}
use Rattle.fk_check_rules.specs.Told.{told}
use Rattle.fk_check_rules.proofs.LeastLemmas.{IsLeast-same}
use Rattle.fk_types_names.specs.Outline.{MarkTree, Opens, Closes, Declares, Uses, outline}
use Rattle.fk_types_name_rules.specs.Headers.{HasNoMain}
use Rattle.fk_types_name_rules.specs.Found.{MarkBreaks, ItemBreaks}
use Rattle.fk_types_name_rules.specs.Broken.{NamesBreak}

module _ (program : ProgramTree) where
  -- what the code finds
  abbrev pub Parts : Breaks
  Parts = either (among (MarkBreaks (outline program)) (outline program))
      (either (told r.NoMain program.end (HasNoMain program.items)) (among (ItemBreaks program.items) program.items))

  mark_tells : (place : Place) (rule : Rule) (i : ℕ) (mark : MarkTree) → slice_get (outline program) i ≡ Some mark → MarkBreaks (outline program) i mark place rule → NamesBreak program place rule
  mark_tells place rule i Opens is b = absurd b
  mark_tells place rule i Closes is b = absurd b
  mark_tells place rule i (Declares d) is b = inr (inl (b.0, (i, d, is, b.1.0, b.1.1)))
  mark_tells place rule i (Uses name) is b = inl (b.0, (i, name, is, b.1.0, b.1.1))

  item_tells : (place : Place) (rule : Rule) (i : ℕ) (item : ItemTree) → slice_get program.items i ≡ Some item → ItemBreaks program.items i item place rule → NamesBreak program place rule
  item_tells place rule i (StructItem name members) is b = absurd b
  item_tells place rule i (VariablesItem variables) is b = absurd b
  item_tells place rule i (FunctionItem function) is (inl b) = inr (inr (inl (b.0, (i, function, is, b.1.0, b.1.1))))
  item_tells place rule i (FunctionItem function) is (inr b) = inr (inr (inr (b.0, inr (i, function, is, b.1.0, b.1.1))))

  tells : (place : Place) (rule : Rule) → Parts place rule → NamesBreak program place rule
  tells place rule (inl h) = mark_tells place rule h.0 h.1 h.2 h.3
  tells place rule (inr (inl h)) = inr (inr (inr (h.0, inl (h.1.0, h.1.1))))
  tells place rule (inr (inr h)) = item_tells place rule h.0 h.1 h.2 h.3

  finds : (place : Place) (rule : Rule) → NamesBreak program place rule → Parts place rule
  finds place rule (inl h) = inl (h.1.0, Uses h.1.1, h.1.2, (h.0, (h.1.3, h.1.4)))
  finds place rule (inr (inl h)) = inl (h.1.0, Declares h.1.1, h.1.2, (h.0, (h.1.3, h.1.4)))
  finds place rule (inr (inr (inl h))) = inr (inr (h.1.0, FunctionItem h.1.1, h.1.2, inl (h.0, (h.1.3, h.1.4))))
  finds place rule (inr (inr (inr h))) = elim h.1 [
    | inl none ↦ inr (inl (h.0, (none.0, none.1)))
    | inr main ↦ inr (inr (main.0, FunctionItem main.1, main.2, inr (h.0, (main.3, main.4))))
  ]

  pub whole : (found : Option Fault) → IsLeast Parts found → IsLeast (NamesBreak program) found
  whole found l = IsLeast-same Parts (NamesBreak program) tells finds found l
