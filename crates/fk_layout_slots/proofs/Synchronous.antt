-- Where the words of statements in a synchronous region lie.
use Rattle.std.proofs.Common.{[], ◌∷◌, ◌++◌, List, Some, None, refl, true, false}
use Rattle.std.specs.Prelude.{codes}
use Rattle.fk_syntax.specs.declared.facts.Note.{Note}
use Rattle.fk_syntax.specs.declared.facts.Kind.{Kind}
use Rattle.fk_syntax.specs.declared.program.Mode.TheVariants as m
use Rattle.fk_syntax.specs.declared.sign.Sign.TheVariants as g
use Rattle.fk_syntax.specs.Tree as t
use Rattle.fk_syntax.specs.Program as p
use Rattle.fk_syntax.specs.Program.{Statements}
use Rattle.fk_meaning_forms.specs.declared.tables.Home.TheVariants as h
use Rattle.fk_meaning_forms.specs.declared.tables.Slot.{Slot}
use Rattle.fk_meaning_forms.specs.declared.tables.Region.{Region}
use Rattle.fk_meaning_forms.proofs.Short.{sp, nm, ty, dc, nn, nt, kd, sl, rg, function}
use Rattle.fk_meaning_forms.proofs.Synchronous.{before, first_notes, first_kinds, first_slots, first_regions}
use Rattle.fk_layout_slots.specs.Places.{behind_frame, within, outside, behind_private, slot_in, file_slot, behind_words, behind_variable, behind_parameter}
use Rattle.fk_layout_slots.proofs.Laid.{laid}

abbrev laid_with : (body : Statements) → (notes : List Note) → (kinds : List Kind) → (slots : List Slot) → (regions : List Region) → Type 0
laid_with body notes kinds slots regions =
    laid (before (p.FunctionItem (function m.Async (ty t.Void 0) (nm (codes "main") 77 5 6) [] (Some (p.statement (p.Start (sp 82 5 19) None (p.Block body)) p.no_statements))) ∷ [])) (first_notes ++ notes) (first_kinds ++ kinds) (first_slots ++ slots) (first_regions ++ regions)

-- if ($) { sh int z; z = 1; } else { sh int y[2]; y[0] = 1; }
together_1 : laid_with (p.statement (p.IfElse (sp 84 6 1) (t.GroupRank (sp 86 6 5)) (p.Block (p.statement (p.Declare ((dc true (ty t.Int 0) (nm (codes "z") 91 6 17) None None) ∷ [])) (p.statement (p.Expression (t.Assign (sp 94 6 22) g.Assign (t.Variable (nm (codes "z") 93 6 20)) (t.Number (sp 95 6 24) 1 false))) p.no_statements))) (p.Block (p.statement (p.Declare ((dc true (ty t.Int 0) (nm (codes "y") 102 6 43) (Some 2) None) ∷ [])) (p.statement (p.Expression (t.Assign (sp 111 6 54) g.Assign (t.Postfix (t.Variable (nm (codes "y") 107 6 49)) (t.index (sp 108 6 50) (t.Number (sp 109 6 51) 0 false) t.no_suffixes)) (t.Number (sp 112 6 56) 1 false))) p.no_statements)))) p.no_statements)
    (nn ∷ nt 0 0 true false true ∷ nn ∷ nt 2 0 true false false ∷ nn ∷ nn ∷ nn ∷ nn ∷ nt 2 10 false false false ∷ nn ∷ nt 2 10 true true false ∷ nt 2 0 true true false ∷ nt 2 0 true true false ∷ nn ∷ nn ∷ nn ∷ nn ∷ nn ∷ nn ∷ nt 5 11 false false false ∷ nn ∷ nn ∷ nn ∷ nn ∷ nt 5 11 true true false ∷ nt 2 0 true true false ∷ nt 2 0 true true false ∷ nn ∷ nt 2 0 true true false ∷ nt 2 0 true true false ∷ [])
    (kd 2 false true 4 ∷ []) (sl (h.Group 1) 0 ∷ sl (h.Group 2) 0 ∷ []) (rg 84 0 2 1 ∷ rg 84 1 2 2 ∷ [])
unfolding behind_frame within outside behind_private slot_in file_slot behind_words behind_variable behind_parameter
together_1 = (refl, refl)

-- int i = $; while (i) { sh int z; i--; }
together_2 : laid_with (p.statement (p.Declare ((dc false (ty t.Int 0) (nm (codes "i") 85 6 5) None (Some (t.GroupRank (sp 87 6 9)))) ∷ [])) (p.statement (p.While (sp 89 6 12) (t.Variable (nm (codes "i") 91 6 19)) (p.Block (p.statement (p.Declare ((dc true (ty t.Int 0) (nm (codes "z") 96 6 31) None None) ∷ [])) (p.statement (p.Expression (t.Postfix (t.Variable (nm (codes "i") 98 6 34)) (t.down (sp 99 6 35) t.no_suffixes))) p.no_statements)))) p.no_statements))
    (nn ∷ nn ∷ nt 2 10 false false false ∷ nn ∷ nt 2 0 true false false ∷ nn ∷ nt 0 0 true false true ∷ nn ∷ nt 2 10 true false false ∷ nn ∷ nn ∷ nn ∷ nn ∷ nt 2 11 false false false ∷ nn ∷ nt 2 10 true false false ∷ nt 2 0 true false false ∷ [])
    [] (sl h.Private 0 ∷ sl (h.Group 1) 0 ∷ []) (rg 89 0 2 1 ∷ [])
unfolding behind_frame within outside behind_private slot_in file_slot behind_words behind_variable behind_parameter
together_2 = (refl, refl)

-- fork (2; @=$) { sh int z; z = 1; }
together_3 : laid_with (p.statement (p.Fork (sp 84 6 1) (t.Number (sp 86 6 7) 2 false) (t.GroupRank (sp 90 6 12)) None (p.Block (p.statement (p.Declare ((dc true (ty t.Int 0) (nm (codes "z") 95 6 24) None None) ∷ [])) (p.statement (p.Expression (t.Assign (sp 98 6 29) g.Assign (t.Variable (nm (codes "z") 97 6 27)) (t.Number (sp 99 6 31) 1 false))) p.no_statements)))) p.no_statements)
    (nn ∷ nt 0 0 true false false ∷ nn ∷ nt 2 0 true true false ∷ nn ∷ nn ∷ nn ∷ nt 2 0 true false false ∷ nn ∷ nn ∷ nn ∷ nn ∷ nt 2 10 false false false ∷ nn ∷ nt 2 10 true true false ∷ nt 2 0 true true false ∷ nt 2 0 true true false ∷ [])
    [] (sl (h.Group 1) 0 ∷ []) (rg 84 0 2 1 ∷ [])
unfolding behind_frame within outside behind_private slot_in file_slot behind_words behind_variable behind_parameter
together_3 = (refl, refl)
