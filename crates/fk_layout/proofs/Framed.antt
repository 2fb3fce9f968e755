-- The frames of made texts.
use Rattle.std.proofs.Common.{◌≡◌, ℕ, ◌+◌, ◌*◌, List, [], ◌∷◌, Some, None, replicate, refl, true, false}
use Rattle.std.specs.Prelude.{codes}
use Rattle.fk_syntax.specs.declared.program.Mode.TheVariants as m
use Rattle.fk_syntax.specs.Tree as t
use Rattle.fk_syntax.specs.Program as p
use Rattle.fk_syntax.specs.Program.{DeclaredTree, FunctionTree, ItemTree, Statements}
use Rattle.fk_meaning_forms.specs.declared.tables.FrameSize.{FrameSize}
use Rattle.fk_meaning_forms.specs.Tables.{Tables}
use Rattle.fk_meaning_forms.proofs.Short.{sp, nm, ty, dc, kd, function, place}
use Rattle.fk_layout_slots.specs.Told.{Told}
use Rattle.fk_layout_slots.specs.Frames.{regions_of}
use Rattle.fk_layout_slots.specs.Places.{behind_frame, within, outside, behind_private, slot_in, file_slot, behind_words, behind_variable, behind_parameter}
use Rattle.fk_layout_slots.specs.Slots.{slots_of}
use Rattle.fk_layout.specs.Frames.{frame_sizes, first_large}

-- all types are a word
abbrev told : Told
told = record { notes = []; kinds = kd 1 false false 0 ∷ [] }

abbrev tables : List ItemTree → Tables
tables items = record { notes = told.notes; kinds = told.kinds; slots = slots_of told items; regions = regions_of told items }

abbrev frame : (private shared : ℕ) → FrameSize
frame private shared = record { private = private; shared = shared }

abbrev pr : List ℕ → (at : ℕ) → DeclaredTree
pr name at = dc false (ty t.Int 0) (nm name at 1 at) None None

abbrev sh : List ℕ → (at : ℕ) → DeclaredTree
sh name at = dc true (ty t.Int 0) (nm name at 1 at) None None

abbrev main : Statements → ItemTree
main body = p.FunctionItem (function m.Async (ty t.Void 0) (nm (codes "main") 8 1 8) [] (Some body))

-- int x;
-- sync void g(sh int a);
-- sync void f(sh int a, int b) {}
-- void main() { int i; farm { int j; seq {} } }
abbrev text : List ItemTree
text =
    (p.VariablesItem (pr (codes "x") 0 ∷ []))
    ∷ (p.FunctionItem (function m.Sync (ty t.Void 0) (nm (codes "g") 1 1 1) (sh (codes "a") 2 ∷ []) None))
    ∷ (p.FunctionItem (function m.Sync (ty t.Void 0) (nm (codes "f") 3 1 3) (sh (codes "a") 4 ∷ pr (codes "b") 5 ∷ []) (Some p.no_statements)))
    ∷ main (p.statement (p.Declare (pr (codes "i") 9 ∷ [])) (p.statement (p.Farm (sp 10 1 10) (p.Block (p.statement (p.Declare (pr (codes "j") 11 ∷ [])) (p.statement (p.Seq (sp 12 1 12) (p.Block p.no_statements)) p.no_statements)))) p.no_statements))
    ∷ []

-- `f` has two places, two values that fill its frame, and a shared word; `main` three places, a value, and a part in a part
framed : frame_sizes (tables text) text ≡ frame (8 + 2 + 2) 1 ∷ frame (8 + 3 + 1 + 4 * 2) 0 ∷ []
unfolding behind_frame within outside behind_private slot_in file_slot behind_words behind_variable behind_parameter
framed = refl

-- void main() with so many variables
abbrev many : (count : ℕ) → List ItemTree
many count = main (p.statement (p.Declare (replicate count (pr (codes "i") 9))) p.no_statements) ∷ []

-- 64 words fit, and 65 don't
largest : first_large (tables (many 55)) (many 55) ≡ None
unfolding behind_frame within outside behind_private slot_in file_slot behind_words behind_variable behind_parameter
largest = refl

large : first_large (tables (many 56)) (many 56) ≡ Some (place 1 8, 65)
unfolding behind_frame within outside behind_private slot_in file_slot behind_words behind_variable behind_parameter
large = refl
