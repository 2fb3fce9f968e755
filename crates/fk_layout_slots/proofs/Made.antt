-- Where the words of made trees lie: frames in frames, one that is too large, and the nesting of a farm; and what functions take.
use Rattle.std.proofs.Common.{◌≡◌, [], ◌∷◌, ℕ, List, Some, None, refl, true, false}
use Rattle.std.specs.Prelude.{codes}
use Rattle.fk_syntax.specs.declared.facts.Note.{Note}
use Rattle.fk_syntax.specs.declared.facts.Kind.{Kind}
use Rattle.fk_syntax.specs.declared.program.Mode.TheVariants as m
use Rattle.fk_syntax.specs.Tree as t
use Rattle.fk_syntax.specs.Program as p
use Rattle.fk_syntax.specs.Program.{DeclaredTree, Statement, ItemTree}
use Rattle.fk_meaning_forms.specs.declared.tables.Home.TheVariants as h
use Rattle.fk_meaning_forms.proofs.Short.{sp, nm, ty, dc, nt, kd, sl, rg, function}
use Rattle.fk_layout_slots.specs.Places.{behind_frame, within, outside, behind_private, slot_in, file_slot, behind_words, behind_variable, behind_parameter}
use Rattle.fk_layout_slots.specs.declared.tables.Own.{Own}
use Rattle.fk_layout_slots.specs.Slots.{owns_of}
use Rattle.fk_layout_slots.proofs.Laid.{laid}

-- a word, an array of 1,048,576 words, and one of 2
abbrev kinds : List Kind
kinds = kd 1 false false 0 ∷ kd 1048576 false true 4 ∷ kd 2 false true 4 ∷ []

abbrev plain : Note
plain = nt 0 0 false false false

abbrev splitting : Note
splitting = nt 0 0 true false true

abbrev sh : List ℕ → (at : ℕ) → DeclaredTree
sh name at = dc true (ty t.Int 0) (nm name at 1 at) None None

abbrev pr : List ℕ → (at : ℕ) → DeclaredTree
pr name at = dc false (ty t.Int 0) (nm name at 1 at) None None

abbrev declares : DeclaredTree → Statement
declares x = p.Declare (x ∷ [])

-- sync void g(sh int a, int b);
-- sync void f(sh int a, int b) { sh int c[1048576], d[2]; if ($) { sh int x; while ($) { sh int y; int z; } } else { sh int w; } int e; }
nested : laid ((p.FunctionItem (function m.Sync (ty t.Void 0) (nm (codes "g") 0 1 0) (sh (codes "a") 1 ∷ pr (codes "b") 2 ∷ []) None)) ∷ (p.FunctionItem (function m.Sync (ty t.Void 0) (nm (codes "f") 3 1 3) (sh (codes "a") 4 ∷ pr (codes "b") 5 ∷ []) (Some (p.statement (p.Declare (sh (codes "c") 6 ∷ sh (codes "d") 7 ∷ [])) (p.statement (p.IfElse (sp 8 1 8) (t.GroupRank (sp 8 1 8)) (p.Block (p.statement (declares (sh (codes "x") 9)) (p.statement (p.While (sp 10 1 10) (t.GroupRank (sp 10 1 10)) (p.Block (p.statement (declares (sh (codes "y") 11)) (p.statement (declares (pr (codes "z") 12)) p.no_statements)))) p.no_statements))) (declares (sh (codes "w") 13))) (p.statement (declares (pr (codes "e") 14)) p.no_statements)))))) ∷ [])
    (plain ∷ plain ∷ plain ∷ plain ∷ plain ∷ plain ∷ nt 1 0 false false false ∷ nt 2 0 false false false ∷ splitting ∷ plain ∷ splitting ∷ [])
    kinds
    (sl h.NoWord 0 ∷ sl h.NoWord 0 ∷ sl h.NoWord 0 ∷ sl h.NoWord 0 ∷ sl (h.Group 0) 0 ∷ sl h.Private 1 ∷ sl (h.Group 0) 1 ∷ sl (h.Group 0) 1048576 ∷ sl (h.Group 1) 0 ∷ sl (h.Group 3) 0 ∷ sl h.Private 2 ∷ sl (h.Group 2) 0 ∷ sl h.Private 3 ∷ [])
    (rg 3 0 0 1048577 ∷ rg 8 0 1 1 ∷ rg 8 1 1 1 ∷ rg 10 0 2 1 ∷ [])
unfolding behind_frame within outside behind_private slot_in file_slot behind_words behind_variable behind_parameter
nested = (refl, refl)

-- a body within the one of a farm is nested twice
deep : laid ((p.FunctionItem (function m.Async (ty t.Void 0) (nm (codes "main") 0 1 0) [] (Some (p.statement (p.Farm (sp 1 1 1) (p.Start (sp 2 1 2) None (declares (sh (codes "x") 3)))) (p.statement (p.Fork (sp 4 1 4) (t.GroupRank (sp 4 1 4)) (t.GroupRank (sp 4 1 4)) None (declares (sh (codes "y") 5))) p.no_statements))))) ∷ [])
    [] kinds
    (sl h.NoWord 0 ∷ sl (h.Group 0) 0 ∷ sl (h.Group 1) 0 ∷ [])
    (rg 2 0 2 1 ∷ rg 4 0 1 1 ∷ [])
unfolding behind_frame within outside behind_private slot_in file_slot behind_words behind_variable behind_parameter
deep = (refl, refl)

abbrev own : (privates words : ℕ) → Own
own privates words = record { privates = privates; words = words }

-- a private place for each parameter and private variable. Variables of file scope count for no function, and a header is none
-- int x;
-- sync void g(sh int a, int b);
-- sync void f(sh int a, int b) { sh int c[1048576], d[2]; int e; { int h; } }
-- void main() { int i; }
owned : owns_of (record { notes = plain ∷ plain ∷ plain ∷ plain ∷ plain ∷ plain ∷ plain ∷ nt 1 0 false false false ∷ nt 2 0 false false false ∷ []; kinds = kinds }) ((p.VariablesItem (pr (codes "x") 0 ∷ [])) ∷ (p.FunctionItem (function m.Sync (ty t.Void 0) (nm (codes "g") 1 1 1) (sh (codes "a") 2 ∷ pr (codes "b") 3 ∷ []) None)) ∷ (p.FunctionItem (function m.Sync (ty t.Void 0) (nm (codes "f") 4 1 4) (sh (codes "a") 5 ∷ pr (codes "b") 6 ∷ []) (Some (p.statement (p.Declare (sh (codes "c") 7 ∷ sh (codes "d") 8 ∷ [])) (p.statement (declares (pr (codes "e") 9)) (p.statement (p.Block (p.statement (declares (pr (codes "h") 10)) p.no_statements)) p.no_statements)))))) ∷ (p.FunctionItem (function m.Async (ty t.Void 0) (nm (codes "main") 11 1 11) [] (Some (p.statement (declares (pr (codes "i") 12)) p.no_statements)))) ∷ [])
    ≡ own 4 1048577 ∷ own 1 0 ∷ []
unfolding behind_frame within outside behind_private behind_words behind_variable behind_parameter
owned = refl
