-- The sites of texts with functions of all modes.
use Rattle.std.proofs.Common.{◌≡◌, ℕ, [], ◌∷◌, ◌++◌, List, Some, None, refl, true, false}
use Rattle.std.specs.Prelude.{codes}
use Rattle.fk_syntax.specs.declared.facts.Note.{Note}
use Rattle.fk_syntax.specs.declared.facts.Kind.{Kind}
use Rattle.fk_syntax.specs.declared.place.Place.{Place}
use Rattle.fk_syntax.specs.declared.program.Mode.TheVariants as m
use Rattle.fk_syntax.specs.declared.sign.Sign.TheVariants as g
use Rattle.fk_syntax.specs.Tree as t
use Rattle.fk_syntax.specs.Program as p
use Rattle.fk_syntax.specs.Program.{ItemTree}
use Rattle.fk_meaning_forms.specs.declared.tables.Home.TheVariants as h
use Rattle.fk_meaning_forms.specs.declared.tables.Slot.{Slot}
use Rattle.fk_meaning_forms.specs.declared.tables.Region.{Region}
use Rattle.fk_meaning_forms.proofs.Short.{sp, nm, ty, dc, nn, nt, kd, sl, rg, k, at, function, sites}

abbrev pub before : List ItemTree → List ItemTree
before more =
    (p.StructItem (nm (codes "In") 1 1 8) [])
    ∷ (p.StructItem (nm (codes "S") 9 2 8) [])
    ∷ (p.VariablesItem ((dc true (ty (t.Struct (nm (codes "S") 33 3 11)) 0) (nm (codes "st") 34 3 13) None None) ∷ []))
    ∷ (p.VariablesItem ((dc true (ty (t.Struct (nm (codes "S") 38 3 27)) 0) (nm (codes "so") 39 3 29) (Some 2) None) ∷ []))
    ∷ (p.VariablesItem ((dc true (ty t.Int 0) (nm (codes "x0") 46 3 43) None None) ∷ (dc true (ty t.Int 0) (nm (codes "ar") 48 3 47) (Some 4) None) ∷ []))
    ∷ (p.VariablesItem ((dc true (ty t.Unsigned 0) (nm (codes "x1") 55 3 66) None None) ∷ []))
    ∷ (p.VariablesItem ((dc false (ty t.Int 0) (nm (codes "f0") 58 3 74) None None) ∷ []))
    ∷ more

abbrev pub first_notes : List Note
first_notes = nn ∷ nn ∷ nn ∷ nn ∷ nn ∷ nn ∷ nn ∷ nn ∷ nn ∷ nn ∷ nn ∷ nn ∷ nn ∷ nn ∷ nn ∷ nn ∷ nn ∷ nn ∷ nn ∷ nn ∷ nn ∷ nn ∷ nn ∷ nn ∷ nn ∷ nn ∷ nn ∷ nn ∷ nn ∷ nn ∷ nn ∷ nn ∷ nn ∷ nn ∷ nt 0 0 false false false ∷ nn ∷ nn ∷ nn ∷ nn ∷ nt 1 1 false false false ∷ nn ∷ nn ∷ nn ∷ nn ∷ nn ∷ nn ∷ nt 2 2 false false false ∷ nn ∷ nt 3 3 false false false ∷ nn ∷ nn ∷ nn ∷ nn ∷ nn ∷ nn ∷ nt 4 4 false false false ∷ nn ∷ nn ∷ nt 2 5 false false false ∷ nn ∷ nn ∷ []

abbrev pub first_kinds : List Kind
first_kinds = kd 6 false false 0 ∷ kd 12 false true 24 ∷ kd 1 false false 0 ∷ kd 4 false true 4 ∷ kd 1 true false 0 ∷ []

abbrev pub first_slots : List Slot
first_slots = sl h.Global 0 ∷ sl h.Global 6 ∷ sl h.Global 18 ∷ sl h.Global 19 ∷ sl h.Global 23 ∷ sl h.FilePrivate 0 ∷ []

abbrev pub first_regions : List Region
first_regions = []

abbrev sites_with : (items : List ItemTree) → (notes : List Note) → (kinds : List Kind) → (slots : List Slot) → (regions : List Region) → List (ℕ × Place)
sites_with items notes kinds slots regions = sites (before items) (first_notes ++ notes) (first_kinds ++ kinds) (first_slots ++ slots) (first_regions ++ regions)

-- sync int f(sh int a, sh int b, int c) { sh int d; return a + b + c + d; }
functions_1 : sites_with ((p.FunctionItem (function m.Sync (ty t.Int 0) (nm (codes "f") 62 4 10) ((dc true (ty t.Int 0) (nm (codes "a") 66 4 19) None None) ∷ (dc true (ty t.Int 0) (nm (codes "b") 70 4 29) None None) ∷ (dc false (ty t.Int 0) (nm (codes "c") 73 4 36) None None) ∷ []) (Some ((p.statement (p.Declare ((dc true (ty t.Int 0) (nm (codes "d") 78 4 48) None None) ∷ [])) (p.statement (p.Return (sp 80 4 51) (Some (t.Chain (t.Variable (nm (codes "a") 81 4 58)) (t.link (sp 82 4 60) g.Plus (t.Variable (nm (codes "b") 83 4 62)) (t.link (sp 84 4 64) g.Plus (t.Variable (nm (codes "c") 85 4 66)) (t.link (sp 86 4 68) g.Plus (t.Variable (nm (codes "d") 87 4 70)) t.no_links)))))) p.no_statements)))))) ∷ (p.FunctionItem (function m.Async (ty t.Void 0) (nm (codes "main") 91 5 6) [] (Some p.no_statements))) ∷ [])
    (nn ∷ nt 0 6 false false false ∷ nn ∷ nn ∷ nn ∷ nt 2 7 false false false ∷ nn ∷ nn ∷ nn ∷ nt 2 8 false false false ∷ nn ∷ nn ∷ nt 2 9 false false false ∷ nn ∷ nn ∷ nn ∷ nn ∷ nt 2 10 false false false ∷ nn ∷ nt 0 0 true false false ∷ nt 2 7 true true false ∷ nt 2 0 true true false ∷ nt 2 8 true true false ∷ nt 2 0 true false false ∷ nt 2 9 true false false ∷ nt 2 0 true false false ∷ nt 2 10 true true false ∷ nn ∷ nn ∷ nn ∷ nt 0 11 false false false ∷ [])
    [] (sl h.NoWord 0 ∷ sl (h.Group 0) 0 ∷ sl (h.Group 0) 1 ∷ sl h.Private 2 ∷ sl (h.Group 0) 2 ∷ sl h.NoWord 0 ∷ []) (rg 62 0 0 3 ∷ [])
    ≡ k 2 ∷ k 1 ∷ k 14 ∷ k 4 ∷ k 2 ∷ k 13 ∷ k 2 ∷ k 13 ∷ k 7 ∷ k 2 ∷ k 7 ∷ k 2 ∷ k 13 ∷ k 7 ∷ k 11 ∷ k 1 ∷ k 11 ∷ k 34 ∷ []
functions_1 = refl

-- straight int f(int a) { int b = a; return b * 2; }
functions_2 : sites_with ((p.FunctionItem (function m.Straight (ty t.Int 0) (nm (codes "f") 62 4 14) ((dc false (ty t.Int 0) (nm (codes "a") 65 4 20) None None) ∷ []) (Some ((p.statement (p.Declare ((dc false (ty t.Int 0) (nm (codes "b") 69 4 29) None (Some (t.Variable (nm (codes "a") 71 4 33)))) ∷ [])) (p.statement (p.Return (sp 73 4 36) (Some (t.Chain (t.Variable (nm (codes "b") 74 4 43)) (t.link (sp 75 4 45) g.Star (t.Number (sp 76 4 47) 2 false) t.no_links)))) p.no_statements)))))) ∷ (p.FunctionItem (function m.Async (ty t.Void 0) (nm (codes "main") 80 5 6) [] (Some p.no_statements))) ∷ [])
    (nn ∷ nt 0 6 false false false ∷ nn ∷ nn ∷ nt 2 7 false false false ∷ nn ∷ nn ∷ nn ∷ nt 2 8 false false false ∷ nn ∷ nt 2 7 false false false ∷ nn ∷ nt 0 0 false false false ∷ nt 2 8 false false false ∷ nt 2 0 false false false ∷ nt 2 0 false true false ∷ nn ∷ nn ∷ nn ∷ nt 0 9 false false false ∷ [])
    [] (sl h.NoWord 0 ∷ sl h.Private 0 ∷ sl h.Private 1 ∷ sl h.NoWord 0 ∷ []) []
    ≡ k 2 ∷ k 3 ∷ k 4 ∷ k 2 ∷ k 1 ∷ k 7 ∷ k 11 ∷ k 1 ∷ k 11 ∷ k 34 ∷ []
functions_2 = refl

-- int f(int n) { return n ? 1 + f(n - 1) : 0; }
functions_3 : sites_with ((p.FunctionItem (function m.Async (ty t.Int 0) (nm (codes "f") 61 4 5) ((dc false (ty t.Int 0) (nm (codes "n") 64 4 11) None None) ∷ []) (Some ((p.statement (p.Return (sp 67 4 16) (Some (t.Choose (sp 69 4 25) (t.Variable (nm (codes "n") 68 4 23)) (t.Chain (t.Number (sp 70 4 27) 1 false) (t.link (sp 71 4 29) g.Plus (t.Postfix (t.Variable (nm (codes "f") 72 4 31)) (t.call (sp 73 4 32) (t.tree (t.Chain (t.Variable (nm (codes "n") 74 4 33)) (t.link (sp 75 4 35) g.Minus (t.Number (sp 76 4 37) 1 false) t.no_links)) t.no_trees) t.no_suffixes)) t.no_links)) (t.Number (sp 79 4 42) 0 false)))) p.no_statements))))) ∷ (p.FunctionItem (function m.Async (ty t.Void 0) (nm (codes "main") 83 5 6) [] (Some p.no_statements))) ∷ [])
    (nt 0 6 false false false ∷ nn ∷ nn ∷ nt 2 7 false false false ∷ nn ∷ nn ∷ nt 0 0 false false false ∷ nt 2 7 false false false ∷ nt 2 0 false false false ∷ nt 2 0 false true false ∷ nt 2 0 false false false ∷ nt 0 6 false false false ∷ nt 2 0 false false false ∷ nt 2 7 false false false ∷ nt 2 0 false false false ∷ nt 2 0 false true false ∷ nn ∷ nn ∷ nt 2 0 false true false ∷ nn ∷ nn ∷ nn ∷ nt 0 8 false false false ∷ [])
    [] (sl h.NoWord 0 ∷ sl h.Private 0 ∷ sl h.NoWord 0 ∷ []) []
    ≡ k 2 ∷ k 9 ∷ k 1 ∷ k 2 ∷ k 1 ∷ k 7 ∷ at 22 4 31 ∷ k 7 ∷ k 1 ∷ k 11 ∷ k 1 ∷ k 11 ∷ k 34 ∷ []
functions_3 = refl

-- sync void g(int n) { if (n) { sh int z; g(n - 1); } }
functions_4 : sites_with ((p.FunctionItem (function m.Sync (ty t.Void 0) (nm (codes "g") 62 4 11) ((dc false (ty t.Int 0) (nm (codes "n") 65 4 17) None None) ∷ []) (Some ((p.statement (p.If (sp 68 4 22) (t.Variable (nm (codes "n") 70 4 26)) (p.Block (p.statement (p.Declare ((dc true (ty t.Int 0) (nm (codes "z") 75 4 38) None None) ∷ [])) (p.statement (p.Expression (t.Postfix (t.Variable (nm (codes "g") 77 4 41)) (t.call (sp 78 4 42) (t.tree (t.Chain (t.Variable (nm (codes "n") 79 4 43)) (t.link (sp 80 4 45) g.Minus (t.Number (sp 81 4 47) 1 false) t.no_links)) t.no_trees) t.no_suffixes))) p.no_statements)))) p.no_statements))))) ∷ (p.FunctionItem (function m.Async (ty t.Void 0) (nm (codes "main") 87 5 6) [] (Some p.no_statements))) ∷ [])
    (nn ∷ nt 0 6 false false false ∷ nn ∷ nn ∷ nt 2 7 false false false ∷ nn ∷ nn ∷ nt 0 0 true false true ∷ nn ∷ nt 2 7 true false false ∷ nn ∷ nn ∷ nn ∷ nn ∷ nt 2 8 false false false ∷ nn ∷ nt 0 6 false false false ∷ nt 5 0 true false false ∷ nt 2 7 true false false ∷ nt 2 0 true false false ∷ nt 2 0 true true false ∷ nn ∷ nn ∷ nn ∷ nn ∷ nn ∷ nt 0 9 false false false ∷ [])
    (kd 0 false false 0 ∷ []) (sl h.NoWord 0 ∷ sl h.Private 0 ∷ sl (h.Group 0) 0 ∷ sl h.NoWord 0 ∷ []) (rg 68 0 1 1 ∷ [])
    ≡ k 2 ∷ at 27 4 22 ∷ at 25 4 22 ∷ k 2 ∷ k 1 ∷ k 14 ∷ k 4 ∷ k 2 ∷ k 1 ∷ k 7 ∷ at 22 4 41 ∷ k 29 ∷ k 30 ∷ k 11 ∷ k 34 ∷ []
functions_4 = refl

-- void f(void) { int a; { int b; } { int c; } a = 1; }
functions_5 : sites_with ((p.FunctionItem (function m.Async (ty t.Void 0) (nm (codes "f") 61 4 6) [] (Some ((p.statement (p.Declare ((dc false (ty t.Int 0) (nm (codes "a") 67 4 20) None None) ∷ [])) (p.statement (p.Block (p.statement (p.Declare ((dc false (ty t.Int 0) (nm (codes "b") 71 4 29) None None) ∷ [])) p.no_statements)) (p.statement (p.Block (p.statement (p.Declare ((dc false (ty t.Int 0) (nm (codes "c") 76 4 40) None None) ∷ [])) p.no_statements)) (p.statement (p.Expression (t.Assign (sp 80 4 47) g.Assign (t.Variable (nm (codes "a") 79 4 45)) (t.Number (sp 81 4 49) 1 false))) p.no_statements)))))))) ∷ (p.FunctionItem (function m.Async (ty t.Void 0) (nm (codes "main") 85 5 6) [] (Some p.no_statements))) ∷ [])
    (nt 0 6 false false false ∷ nn ∷ nn ∷ nn ∷ nn ∷ nn ∷ nt 2 7 false false false ∷ nn ∷ nn ∷ nn ∷ nt 2 8 false false false ∷ nn ∷ nn ∷ nn ∷ nn ∷ nt 2 9 false false false ∷ nn ∷ nn ∷ nt 2 7 false false false ∷ nt 2 0 false true false ∷ nt 2 0 false true false ∷ nn ∷ nn ∷ nn ∷ nt 0 10 false false false ∷ [])
    [] (sl h.NoWord 0 ∷ sl h.Private 0 ∷ sl h.Private 1 ∷ sl h.Private 2 ∷ sl h.NoWord 0 ∷ []) []
    ≡ k 1 ∷ k 3 ∷ k 4 ∷ k 1 ∷ k 3 ∷ k 4 ∷ k 1 ∷ k 3 ∷ k 4 ∷ k 1 ∷ k 3 ∷ k 4 ∷ k 11 ∷ k 34 ∷ []
functions_5 = refl

-- sync void f(void) { sh int a[3]; { sh struct S b; } sh int c; if ($) { sh int d; } }
functions_6 : sites_with ((p.FunctionItem (function m.Sync (ty t.Void 0) (nm (codes "f") 62 4 11) [] (Some ((p.statement (p.Declare ((dc true (ty t.Int 0) (nm (codes "a") 69 4 28) (Some 3) None) ∷ [])) (p.statement (p.Block (p.statement (p.Declare ((dc true (ty (t.Struct (nm (codes "S") 77 4 46)) 0) (nm (codes "b") 78 4 48) None None) ∷ [])) p.no_statements)) (p.statement (p.Declare ((dc true (ty t.Int 0) (nm (codes "c") 83 4 60) None None) ∷ [])) (p.statement (p.If (sp 85 4 63) (t.GroupRank (sp 87 4 67)) (p.Block (p.statement (p.Declare ((dc true (ty t.Int 0) (nm (codes "d") 92 4 79) None None) ∷ [])) p.no_statements))) p.no_statements)))))))) ∷ (p.FunctionItem (function m.Async (ty t.Void 0) (nm (codes "main") 97 5 6) [] (Some p.no_statements))) ∷ [])
    (nn ∷ nt 0 6 false false false ∷ nn ∷ nn ∷ nn ∷ nn ∷ nn ∷ nn ∷ nt 5 7 false false false ∷ nn ∷ nn ∷ nn ∷ nn ∷ nn ∷ nn ∷ nn ∷ nn ∷ nt 0 8 false false false ∷ nn ∷ nn ∷ nn ∷ nn ∷ nt 2 9 false false false ∷ nn ∷ nt 0 0 true false true ∷ nn ∷ nt 2 0 true false false ∷ nn ∷ nn ∷ nn ∷ nn ∷ nt 2 10 false false false ∷ nn ∷ nn ∷ nn ∷ nn ∷ nt 0 11 false false false ∷ [])
    (kd 3 false true 4 ∷ []) (sl h.NoWord 0 ∷ sl (h.Group 0) 0 ∷ sl (h.Group 0) 3 ∷ sl (h.Group 0) 9 ∷ sl (h.Group 1) 0 ∷ sl h.NoWord 0 ∷ []) (rg 62 0 0 10 ∷ rg 85 0 1 1 ∷ [])
    ≡ k 2 ∷ k 1 ∷ k 14 ∷ k 4 ∷ k 2 ∷ at 27 4 63 ∷ at 25 4 63 ∷ k 2 ∷ k 1 ∷ k 14 ∷ k 4 ∷ k 29 ∷ k 30 ∷ k 11 ∷ k 34 ∷ []
functions_6 = refl

-- int g = 3, h = -1; sh int k = 5, l[3]; sh unsigned m = 4294967295; sh int *n = (int *)64;
functions_7 : sites_with ((p.VariablesItem ((dc false (ty t.Int 0) (nm (codes "g") 61 4 5) None (Some (t.Number (sp 63 4 9) 3 false))) ∷ (dc false (ty t.Int 0) (nm (codes "h") 65 4 12) None (Some (t.Prefix (sp 67 4 16) g.Minus (t.Number (sp 68 4 17) 1 false)))) ∷ [])) ∷ (p.VariablesItem ((dc true (ty t.Int 0) (nm (codes "k") 72 4 27) None (Some (t.Number (sp 74 4 31) 5 false))) ∷ (dc true (ty t.Int 0) (nm (codes "l") 76 4 34) (Some 3) None) ∷ [])) ∷ (p.VariablesItem ((dc true (ty t.Unsigned 0) (nm (codes "m") 83 4 52) None (Some (t.Number (sp 85 4 56) 4294967295 true))) ∷ [])) ∷ (p.VariablesItem ((dc true (ty t.Int 1) (nm (codes "n") 90 4 76) None (Some (t.Cast (sp 92 4 80) (ty t.Int 1) (t.Number (sp 96 4 87) 64 false)))) ∷ [])) ∷ (p.FunctionItem (function m.Async (ty t.Void 0) (nm (codes "main") 99 5 6) [] (Some p.no_statements))) ∷ [])
    (nt 2 6 false false false ∷ nn ∷ nt 2 0 false true false ∷ nn ∷ nt 2 7 false false false ∷ nn ∷ nt 2 0 false true false ∷ nt 2 0 false true false ∷ nn ∷ nn ∷ nn ∷ nt 2 8 false false false ∷ nn ∷ nt 2 0 false true false ∷ nn ∷ nt 5 9 false false false ∷ nn ∷ nn ∷ nn ∷ nn ∷ nn ∷ nn ∷ nt 4 10 false false false ∷ nn ∷ nt 4 0 false true false ∷ nn ∷ nn ∷ nn ∷ nn ∷ nt 6 11 false false false ∷ nn ∷ nt 6 0 false true false ∷ nn ∷ nn ∷ nn ∷ nt 2 0 false true false ∷ nn ∷ nn ∷ nt 0 12 false false false ∷ [])
    (kd 3 false true 4 ∷ kd 1 true false 4 ∷ []) (sl h.FilePrivate 1 ∷ sl h.FilePrivate 2 ∷ sl h.Global 24 ∷ sl h.Global 25 ∷ sl h.Global 28 ∷ sl h.Global 29 ∷ sl h.NoWord 0 ∷ []) []
    ≡ k 34 ∷ []
functions_7 = refl

-- void f(int *p, unsigned u, struct S *s) { *p = u; s->a = 1; }
functions_8 : sites_with ((p.FunctionItem (function m.Async (ty t.Void 0) (nm (codes "f") 61 4 6) ((dc false (ty t.Int 1) (nm (codes "p") 65 4 13) None None) ∷ (dc false (ty t.Unsigned 0) (nm (codes "u") 68 4 25) None None) ∷ (dc false (ty (t.Struct (nm (codes "S") 71 4 35)) 1) (nm (codes "s") 73 4 38) None None) ∷ []) (Some ((p.statement (p.Expression (t.Assign (sp 78 4 46) g.Assign (t.Prefix (sp 76 4 43) g.Star (t.Variable (nm (codes "p") 77 4 44))) (t.Variable (nm (codes "u") 79 4 48)))) (p.statement (p.Expression (t.Assign (sp 84 4 56) g.Assign (t.Postfix (t.Variable (nm (codes "s") 81 4 51)) (t.arrow (sp 82 4 52) (nm (codes "a") 83 4 54) t.no_suffixes)) (t.Number (sp 85 4 58) 1 false))) p.no_statements)))))) ∷ (p.FunctionItem (function m.Async (ty t.Void 0) (nm (codes "main") 89 5 6) [] (Some p.no_statements))) ∷ [])
    (nt 0 6 false false false ∷ nn ∷ nn ∷ nn ∷ nt 5 7 false false false ∷ nn ∷ nn ∷ nt 4 8 false false false ∷ nn ∷ nn ∷ nn ∷ nn ∷ nt 6 9 false false false ∷ nn ∷ nn ∷ nt 2 0 false false false ∷ nt 5 7 false false false ∷ nt 2 0 false false false ∷ nt 4 8 false false false ∷ nn ∷ nt 6 9 false false false ∷ nt 2 0 false false false ∷ nt 0 0 false false false ∷ nt 2 0 false true false ∷ nt 2 0 false true false ∷ nn ∷ nn ∷ nn ∷ nt 0 10 false false false ∷ [])
    (kd 1 true false 4 ∷ kd 1 true false 24 ∷ []) (sl h.NoWord 0 ∷ sl h.Private 0 ∷ sl h.Private 1 ∷ sl h.Private 2 ∷ sl h.NoWord 0 ∷ []) []
    ≡ k 2 ∷ at 12 4 43 ∷ k 2 ∷ k 14 ∷ k 4 ∷ k 2 ∷ k 1 ∷ k 7 ∷ at 12 4 52 ∷ k 1 ∷ k 14 ∷ k 4 ∷ k 11 ∷ k 34 ∷ []
functions_8 = refl

-- int f(void) { while (1) ; }
functions_9 : sites_with ((p.FunctionItem (function m.Async (ty t.Int 0) (nm (codes "f") 61 4 5) [] (Some ((p.statement (p.While (sp 66 4 15) (t.Number (sp 68 4 22) 1 false) p.Empty) p.no_statements))))) ∷ (p.FunctionItem (function m.Async (ty t.Void 0) (nm (codes "main") 73 5 6) [] (Some p.no_statements))) ∷ [])
    (nt 0 6 false false false ∷ nn ∷ nn ∷ nn ∷ nn ∷ nt 0 0 false false false ∷ nn ∷ nt 2 0 false true false ∷ nn ∷ nn ∷ nn ∷ nn ∷ nt 0 7 false false false ∷ [])
    [] (sl h.NoWord 0 ∷ sl h.NoWord 0 ∷ []) []
    ≡ k 1 ∷ k 9 ∷ k 1 ∷ k 11 ∷ k 34 ∷ []
functions_9 = refl

-- void f(void) { return; }
functions_10 : sites_with ((p.FunctionItem (function m.Async (ty t.Void 0) (nm (codes "f") 61 4 6) [] (Some ((p.statement (p.Return (sp 66 4 16) None) p.no_statements))))) ∷ (p.FunctionItem (function m.Async (ty t.Void 0) (nm (codes "main") 70 5 6) [] (Some p.no_statements))) ∷ [])
    (nt 0 6 false false false ∷ nn ∷ nn ∷ nn ∷ nn ∷ nt 0 0 false false false ∷ nn ∷ nn ∷ nn ∷ nt 0 7 false false false ∷ [])
    [] (sl h.NoWord 0 ∷ sl h.NoWord 0 ∷ []) []
    ≡ k 11 ∷ k 11 ∷ k 34 ∷ []
functions_10 = refl
