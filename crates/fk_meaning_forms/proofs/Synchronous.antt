-- The sites of statements in a synchronous region.
use Rattle.std.proofs.Common.{◌≡◌, ℕ, [], ◌∷◌, ◌++◌, List, Some, None, refl, true, false}
use Rattle.std.specs.Prelude.{codes}
use Rattle.fk_syntax.specs.declared.facts.Note.{Note}
use Rattle.fk_syntax.specs.declared.facts.Kind.{Kind}
use Rattle.fk_syntax.specs.declared.place.Place.{Place}
use Rattle.fk_syntax.specs.declared.program.Mode.TheVariants as m
use Rattle.fk_syntax.specs.declared.sign.Sign.TheVariants as g
use Rattle.fk_syntax.specs.Tree as t
use Rattle.fk_syntax.specs.Program as p
use Rattle.fk_syntax.specs.Program.{ItemTree, Statements}
use Rattle.fk_meaning_forms.specs.declared.tables.Home.TheVariants as h
use Rattle.fk_meaning_forms.specs.declared.tables.Slot.{Slot}
use Rattle.fk_meaning_forms.specs.declared.tables.Region.{Region}
use Rattle.fk_meaning_forms.proofs.Short.{sp, nm, ty, dc, nn, nt, kd, sl, rg, k, at, function, sites}

abbrev pub before : List ItemTree → List ItemTree
before more =
    (p.StructItem (nm (codes "In") 1 1 8) [])
    ∷ (p.StructItem (nm (codes "S") 9 2 8) [])
    ∷ (p.VariablesItem ((dc true (ty (t.Struct (nm (codes "S") 33 3 11)) 0) (nm (codes "st") 34 3 13) None None) ∷ []))
    ∷ (p.VariablesItem ((dc true (ty (t.Struct (nm (codes "S") 38 3 27)) 0) (nm (codes "so") 39 3 29) (Some 2) None) ∷ []))
    ∷ (p.VariablesItem ((dc true (ty t.Int 0) (nm (codes "x0") 46 3 43) None None) ∷ (dc true (ty t.Int 0) (nm (codes "ar") 48 3 47) (Some 4) None) ∷ []))
    ∷ (p.VariablesItem ((dc true (ty t.Unsigned 0) (nm (codes "x1") 55 3 66) None None) ∷ []))
    ∷ (p.VariablesItem ((dc false (ty t.Int 0) (nm (codes "f0") 58 3 74) None None) ∷ []))
    ∷ (p.FunctionItem (function m.Sync (ty t.Int 0) (nm (codes "sf") 62 4 10) ((dc true (ty t.Int 0) (nm (codes "a") 66 4 20) None None) ∷ (dc false (ty t.Int 0) (nm (codes "b") 69 4 27) None None) ∷ []) (Some ((p.statement (p.Return (sp 72 4 32) (Some (t.Variable (nm (codes "a") 73 4 39)))) p.no_statements)))))
    ∷ more

abbrev pub first_notes : List Note
first_notes = nn ∷ nn ∷ nn ∷ nn ∷ nn ∷ nn ∷ nn ∷ nn ∷ nn ∷ nn ∷ nn ∷ nn ∷ nn ∷ nn ∷ nn ∷ nn ∷ nn ∷ nn ∷ nn ∷ nn ∷ nn ∷ nn ∷ nn ∷ nn ∷ nn ∷ nn ∷ nn ∷ nn ∷ nn ∷ nn ∷ nn ∷ nn ∷ nn ∷ nn ∷ nt 0 0 false false false ∷ nn ∷ nn ∷ nn ∷ nn ∷ nt 1 1 false false false ∷ nn ∷ nn ∷ nn ∷ nn ∷ nn ∷ nn ∷ nt 2 2 false false false ∷ nn ∷ nt 3 3 false false false ∷ nn ∷ nn ∷ nn ∷ nn ∷ nn ∷ nn ∷ nt 4 4 false false false ∷ nn ∷ nn ∷ nt 2 5 false false false ∷ nn ∷ nn ∷ nn ∷ nt 0 6 false false false ∷ nn ∷ nn ∷ nn ∷ nt 2 7 false false false ∷ nn ∷ nn ∷ nt 2 8 false false false ∷ nn ∷ nn ∷ nt 0 0 true false false ∷ nt 2 7 true true false ∷ nn ∷ nn ∷ nn ∷ nt 0 9 false false false ∷ nn ∷ nn ∷ nn ∷ nn ∷ nt 0 0 false false false ∷ []

abbrev pub first_kinds : List Kind
first_kinds = kd 6 false false 0 ∷ kd 12 false true 24 ∷ kd 1 false false 0 ∷ kd 4 false true 4 ∷ kd 1 true false 0 ∷ []

abbrev pub first_slots : List Slot
first_slots = sl h.Global 0 ∷ sl h.Global 6 ∷ sl h.Global 18 ∷ sl h.Global 19 ∷ sl h.Global 23 ∷ sl h.FilePrivate 0 ∷ sl h.NoWord 0 ∷ sl (h.Group 0) 0 ∷ sl h.Private 1 ∷ sl h.NoWord 0 ∷ []

abbrev pub first_regions : List Region
first_regions = rg 62 0 0 1 ∷ []

abbrev sites_with : (body : Statements) → (notes : List Note) → (kinds : List Kind) → (slots : List Slot) → (regions : List Region) → List (ℕ × Place)
sites_with body notes kinds slots regions =
    sites (before (p.FunctionItem (function m.Async (ty t.Void 0) (nm (codes "main") 77 5 6) [] (Some (p.statement (p.Start (sp 82 5 19) None (p.Block body)) p.no_statements))) ∷ [])) (first_notes ++ notes) (first_kinds ++ kinds) (first_slots ++ slots) (first_regions ++ regions)

-- x0 = 1 + 2 * 3;
together_1 : sites_with (p.statement (p.Expression (t.Assign (sp 85 6 4) g.Assign (t.Variable (nm (codes "x0") 84 6 1)) (t.Chain (t.Number (sp 86 6 6) 1 false) (t.link (sp 87 6 8) g.Plus (t.Chain (t.Number (sp 88 6 10) 2 false) (t.link (sp 89 6 12) g.Star (t.Number (sp 90 6 14) 3 false) t.no_links)) t.no_links)))) p.no_statements)
    (nn ∷ nt 2 2 true true false ∷ nt 2 0 true true false ∷ nt 2 0 true true false ∷ nt 2 0 true true false ∷ nt 2 0 true true false ∷ nt 2 0 true true false ∷ nt 2 0 true true false ∷ [])
    [] [] []
    ≡ k 2 ∷ k 13 ∷ k 11 ∷ k 1 ∷ k 11 ∷ k 2 ∷ k 23 ∷ k 1 ∷ k 1 ∷ k 1 ∷ k 1 ∷ k 7 ∷ k 7 ∷ k 14 ∷ k 4 ∷ k 29 ∷ k 30 ∷ k 34 ∷ []
together_1 = refl

-- int p = 4; p += x0;
together_2 : sites_with (p.statement (p.Declare ((dc false (ty t.Int 0) (nm (codes "p") 85 6 5) None (Some (t.Number (sp 87 6 9) 4 false))) ∷ [])) (p.statement (p.Expression (t.Assign (sp 90 6 14) g.PlusAssign (t.Variable (nm (codes "p") 89 6 12)) (t.Variable (nm (codes "x0") 91 6 17)))) p.no_statements))
    (nn ∷ nn ∷ nt 2 10 false false false ∷ nn ∷ nt 2 0 true true false ∷ nn ∷ nt 2 10 true false false ∷ nt 2 0 true false false ∷ nt 2 2 true true false ∷ [])
    [] (sl h.Private 0 ∷ []) []
    ≡ k 2 ∷ k 13 ∷ k 11 ∷ k 1 ∷ k 11 ∷ k 2 ∷ k 23 ∷ k 1 ∷ k 3 ∷ k 4 ∷ k 2 ∷ k 1 ∷ k 13 ∷ k 7 ∷ k 3 ∷ k 4 ∷ k 29 ∷ k 30 ∷ k 34 ∷ []
together_2 = refl

-- int p; p = p - 1; p -= x0; p++; --p;
together_3 : sites_with (p.statement (p.Declare ((dc false (ty t.Int 0) (nm (codes "p") 85 6 5) None None) ∷ [])) (p.statement (p.Expression (t.Assign (sp 88 6 10) g.Assign (t.Variable (nm (codes "p") 87 6 8)) (t.Chain (t.Variable (nm (codes "p") 89 6 12)) (t.link (sp 90 6 14) g.Minus (t.Number (sp 91 6 16) 1 false) t.no_links)))) (p.statement (p.Expression (t.Assign (sp 94 6 21) g.MinusAssign (t.Variable (nm (codes "p") 93 6 19)) (t.Variable (nm (codes "x0") 95 6 24)))) (p.statement (p.Expression (t.Postfix (t.Variable (nm (codes "p") 97 6 28)) (t.up (sp 98 6 29) t.no_suffixes))) (p.statement (p.Expression (t.Prefix (sp 100 6 33) g.Decrement (t.Variable (nm (codes "p") 101 6 35)))) p.no_statements)))))
    (nn ∷ nn ∷ nt 2 10 false false false ∷ nn ∷ nt 2 10 true false false ∷ nt 2 0 true false false ∷ nt 2 10 true false false ∷ nt 2 0 true false false ∷ nt 2 0 true true false ∷ nn ∷ nt 2 10 true false false ∷ nt 2 0 true false false ∷ nt 2 2 true true false ∷ nn ∷ nt 2 10 true false false ∷ nt 2 0 true false false ∷ nn ∷ nt 2 0 true false false ∷ nt 2 10 true false false ∷ [])
    [] (sl h.Private 0 ∷ []) []
    ≡ k 2 ∷ k 13 ∷ k 11 ∷ k 1 ∷ k 11 ∷ k 2 ∷ k 23 ∷ k 1 ∷ k 3 ∷ k 4 ∷ k 2 ∷ k 1 ∷ k 7 ∷ k 3 ∷ k 4 ∷ k 2 ∷ k 1 ∷ k 13 ∷ k 7 ∷ k 3 ∷ k 4 ∷ k 2 ∷ k 1 ∷ k 7 ∷ k 3 ∷ k 1 ∷ k 7 ∷ k 4 ∷ k 2 ∷ k 1 ∷ k 7 ∷ k 3 ∷ k 4 ∷ k 29 ∷ k 30 ∷ k 34 ∷ []
together_3 = refl

-- x0 += 2;
together_4 : sites_with (p.statement (p.Expression (t.Assign (sp 85 6 4) g.PlusAssign (t.Variable (nm (codes "x0") 84 6 1)) (t.Number (sp 86 6 7) 2 false))) p.no_statements)
    (nn ∷ nt 2 2 true true false ∷ nt 2 0 true true false ∷ nt 2 0 true true false ∷ [])
    [] [] []
    ≡ k 2 ∷ k 13 ∷ k 11 ∷ k 1 ∷ k 11 ∷ k 2 ∷ k 23 ∷ k 1 ∷ k 5 ∷ k 13 ∷ k 1 ∷ k 7 ∷ k 14 ∷ k 4 ∷ k 29 ∷ k 30 ∷ k 34 ∷ []
together_4 = refl

-- x0++;
together_5 : sites_with (p.statement (p.Expression (t.Postfix (t.Variable (nm (codes "x0") 84 6 1)) (t.up (sp 85 6 3) t.no_suffixes))) p.no_statements)
    (nn ∷ nt 2 2 true true false ∷ nt 2 0 true true false ∷ [])
    [] [] []
    ≡ k 2 ∷ k 13 ∷ k 11 ∷ k 1 ∷ k 11 ∷ k 2 ∷ k 23 ∷ k 1 ∷ k 5 ∷ k 13 ∷ k 1 ∷ k 7 ∷ k 14 ∷ k 1 ∷ k 7 ∷ k 4 ∷ k 29 ∷ k 30 ∷ k 34 ∷ []
together_5 = refl

-- --x0;
together_6 : sites_with (p.statement (p.Expression (t.Prefix (sp 84 6 1) g.Decrement (t.Variable (nm (codes "x0") 85 6 3)))) p.no_statements)
    (nn ∷ nt 2 0 true true false ∷ nt 2 2 true true false ∷ [])
    [] [] []
    ≡ k 2 ∷ k 13 ∷ k 11 ∷ k 1 ∷ k 11 ∷ k 2 ∷ k 23 ∷ k 1 ∷ k 5 ∷ k 13 ∷ k 1 ∷ k 7 ∷ k 14 ∷ k 4 ∷ k 29 ∷ k 30 ∷ k 34 ∷ []
together_6 = refl

-- x1 = x1 / 3u % 2;
together_7 : sites_with (p.statement (p.Expression (t.Assign (sp 85 6 4) g.Assign (t.Variable (nm (codes "x1") 84 6 1)) (t.Chain (t.Variable (nm (codes "x1") 86 6 6)) (t.link (sp 87 6 9) g.Slash (t.Number (sp 88 6 11) 3 true) (t.link (sp 89 6 14) g.Percent (t.Number (sp 90 6 16) 2 false) t.no_links))))) p.no_statements)
    (nn ∷ nt 4 4 true true false ∷ nt 4 0 true true false ∷ nt 4 4 true true false ∷ nt 4 0 true true false ∷ nt 4 0 true true false ∷ nt 4 0 true true false ∷ nt 2 0 true true false ∷ [])
    [] [] []
    ≡ k 2 ∷ k 13 ∷ k 11 ∷ k 1 ∷ k 11 ∷ k 2 ∷ k 23 ∷ k 1 ∷ k 1 ∷ k 13 ∷ k 1 ∷ k 7 ∷ k 1 ∷ k 7 ∷ k 14 ∷ k 4 ∷ k 29 ∷ k 30 ∷ k 34 ∷ []
together_7 = refl

-- int *q = &x0; *q = 1;
together_8 : sites_with (p.statement (p.Declare ((dc false (ty t.Int 1) (nm (codes "q") 86 6 6) None (Some (t.Prefix (sp 88 6 10) g.Ampersand (t.Variable (nm (codes "x0") 89 6 11))))) ∷ [])) (p.statement (p.Expression (t.Assign (sp 93 6 18) g.Assign (t.Prefix (sp 91 6 15) g.Star (t.Variable (nm (codes "q") 92 6 16))) (t.Number (sp 94 6 20) 1 false))) p.no_statements))
    (nn ∷ nn ∷ nn ∷ nt 5 10 false false false ∷ nn ∷ nt 5 0 true true false ∷ nt 2 2 true true false ∷ nn ∷ nt 2 0 true false false ∷ nt 5 10 true false false ∷ nt 2 0 true true false ∷ nt 2 0 true true false ∷ [])
    (kd 1 true false 4 ∷ []) (sl h.Private 0 ∷ []) []
    ≡ k 2 ∷ k 13 ∷ k 11 ∷ k 1 ∷ k 11 ∷ k 2 ∷ k 23 ∷ k 1 ∷ k 3 ∷ k 4 ∷ k 2 ∷ at 12 6 15 ∷ k 1 ∷ k 14 ∷ k 4 ∷ k 29 ∷ k 30 ∷ k 34 ∷ []
together_8 = refl

-- int *q = ar; q += 2; q -= 1; q++; q--;
together_9 : sites_with (p.statement (p.Declare ((dc false (ty t.Int 1) (nm (codes "q") 86 6 6) None (Some (t.Variable (nm (codes "ar") 88 6 10)))) ∷ [])) (p.statement (p.Expression (t.Assign (sp 91 6 16) g.PlusAssign (t.Variable (nm (codes "q") 90 6 14)) (t.Number (sp 92 6 19) 2 false))) (p.statement (p.Expression (t.Assign (sp 95 6 24) g.MinusAssign (t.Variable (nm (codes "q") 94 6 22)) (t.Number (sp 96 6 27) 1 false))) (p.statement (p.Expression (t.Postfix (t.Variable (nm (codes "q") 98 6 30)) (t.up (sp 99 6 31) t.no_suffixes))) (p.statement (p.Expression (t.Postfix (t.Variable (nm (codes "q") 101 6 35)) (t.down (sp 102 6 36) t.no_suffixes))) p.no_statements)))))
    (nn ∷ nn ∷ nn ∷ nt 5 10 false false false ∷ nn ∷ nt 3 3 true true false ∷ nn ∷ nt 5 10 true false false ∷ nt 5 0 true false false ∷ nt 2 0 true true false ∷ nn ∷ nt 5 10 true false false ∷ nt 5 0 true false false ∷ nt 2 0 true true false ∷ nn ∷ nt 5 10 true false false ∷ nt 5 0 true false false ∷ nn ∷ nt 5 10 true false false ∷ nt 5 0 true false false ∷ [])
    (kd 1 true false 4 ∷ []) (sl h.Private 0 ∷ []) []
    ≡ k 2 ∷ k 13 ∷ k 11 ∷ k 1 ∷ k 11 ∷ k 2 ∷ k 23 ∷ k 1 ∷ k 3 ∷ k 4 ∷ k 2 ∷ k 1 ∷ k 8 ∷ k 3 ∷ k 4 ∷ k 2 ∷ k 1 ∷ k 6 ∷ k 8 ∷ k 3 ∷ k 4 ∷ k 2 ∷ k 1 ∷ k 8 ∷ k 3 ∷ k 1 ∷ k 7 ∷ k 4 ∷ k 2 ∷ k 1 ∷ k 6 ∷ k 8 ∷ k 3 ∷ k 1 ∷ k 7 ∷ k 4 ∷ k 29 ∷ k 30 ∷ k 34 ∷ []
together_9 = refl

-- int *q = ar; x0 = q[1];
together_10 : sites_with (p.statement (p.Declare ((dc false (ty t.Int 1) (nm (codes "q") 86 6 6) None (Some (t.Variable (nm (codes "ar") 88 6 10)))) ∷ [])) (p.statement (p.Expression (t.Assign (sp 91 6 17) g.Assign (t.Variable (nm (codes "x0") 90 6 14)) (t.Postfix (t.Variable (nm (codes "q") 92 6 19)) (t.index (sp 93 6 20) (t.Number (sp 94 6 21) 1 false) t.no_suffixes)))) p.no_statements))
    (nn ∷ nn ∷ nn ∷ nt 5 10 false false false ∷ nn ∷ nt 3 3 true true false ∷ nn ∷ nt 2 2 true true false ∷ nt 2 0 true false false ∷ nt 5 10 true false false ∷ nt 2 0 true false false ∷ nt 2 0 true true false ∷ [])
    (kd 1 true false 4 ∷ []) (sl h.Private 0 ∷ []) []
    ≡ k 2 ∷ k 13 ∷ k 11 ∷ k 1 ∷ k 11 ∷ k 2 ∷ k 23 ∷ k 1 ∷ k 3 ∷ k 4 ∷ k 1 ∷ k 2 ∷ k 1 ∷ k 8 ∷ at 12 6 20 ∷ k 13 ∷ k 14 ∷ k 4 ∷ k 29 ∷ k 30 ∷ k 34 ∷ []
together_10 = refl

-- ar[2] = ar[x0];
together_11 : sites_with (p.statement (p.Expression (t.Assign (sp 88 6 7) g.Assign (t.Postfix (t.Variable (nm (codes "ar") 84 6 1)) (t.index (sp 85 6 3) (t.Number (sp 86 6 4) 2 false) t.no_suffixes)) (t.Postfix (t.Variable (nm (codes "ar") 89 6 9)) (t.index (sp 90 6 11) (t.Variable (nm (codes "x0") 91 6 12)) t.no_suffixes)))) p.no_statements)
    (nn ∷ nt 3 3 true true false ∷ nt 2 0 true true false ∷ nt 2 0 true true false ∷ nn ∷ nt 2 0 true true false ∷ nt 3 3 true true false ∷ nt 2 0 true true false ∷ nt 2 2 true true false ∷ [])
    [] [] []
    ≡ k 2 ∷ k 13 ∷ k 11 ∷ k 1 ∷ k 11 ∷ k 2 ∷ k 23 ∷ k 1 ∷ k 1 ∷ k 8 ∷ at 12 6 3 ∷ k 1 ∷ k 1 ∷ k 13 ∷ k 8 ∷ at 12 6 11 ∷ k 13 ∷ k 14 ∷ k 4 ∷ k 29 ∷ k 30 ∷ k 34 ∷ []
together_11 = refl

-- ar[1] += 5;
together_12 : sites_with (p.statement (p.Expression (t.Assign (sp 88 6 7) g.PlusAssign (t.Postfix (t.Variable (nm (codes "ar") 84 6 1)) (t.index (sp 85 6 3) (t.Number (sp 86 6 4) 1 false) t.no_suffixes)) (t.Number (sp 89 6 10) 5 false))) p.no_statements)
    (nn ∷ nt 3 3 true true false ∷ nt 2 0 true true false ∷ nt 2 0 true true false ∷ nn ∷ nt 2 0 true true false ∷ nt 2 0 true true false ∷ [])
    [] [] []
    ≡ k 2 ∷ k 13 ∷ k 11 ∷ k 1 ∷ k 11 ∷ k 2 ∷ k 23 ∷ k 1 ∷ k 1 ∷ k 8 ∷ at 12 6 3 ∷ k 5 ∷ k 13 ∷ k 1 ∷ k 7 ∷ k 14 ∷ k 4 ∷ k 29 ∷ k 30 ∷ k 34 ∷ []
together_12 = refl

-- ar[1]++;
together_13 : sites_with (p.statement (p.Expression (t.Postfix (t.Variable (nm (codes "ar") 84 6 1)) (t.index (sp 85 6 3) (t.Number (sp 86 6 4) 1 false) (t.up (sp 88 6 6) t.no_suffixes)))) p.no_statements)
    (nn ∷ nt 3 3 true true false ∷ nt 2 0 true true false ∷ nt 2 0 true true false ∷ nn ∷ nt 2 0 true true false ∷ [])
    [] [] []
    ≡ k 2 ∷ k 13 ∷ k 11 ∷ k 1 ∷ k 11 ∷ k 2 ∷ k 23 ∷ k 1 ∷ k 1 ∷ k 8 ∷ at 12 6 3 ∷ k 5 ∷ k 13 ∷ k 1 ∷ k 7 ∷ k 14 ∷ k 1 ∷ k 7 ∷ k 4 ∷ k 29 ∷ k 30 ∷ k 34 ∷ []
together_13 = refl

-- *ar = 7;
together_14 : sites_with (p.statement (p.Expression (t.Assign (sp 86 6 5) g.Assign (t.Prefix (sp 84 6 1) g.Star (t.Variable (nm (codes "ar") 85 6 2))) (t.Number (sp 87 6 7) 7 false))) p.no_statements)
    (nn ∷ nt 2 0 true true false ∷ nt 3 3 true true false ∷ nt 2 0 true true false ∷ nt 2 0 true true false ∷ [])
    [] [] []
    ≡ k 2 ∷ k 13 ∷ k 11 ∷ k 1 ∷ k 11 ∷ k 2 ∷ k 23 ∷ k 1 ∷ at 12 6 1 ∷ k 1 ∷ k 14 ∷ k 4 ∷ k 29 ∷ k 30 ∷ k 34 ∷ []
together_14 = refl

-- x0 = *(ar + 1);
together_15 : sites_with (p.statement (p.Expression (t.Assign (sp 85 6 4) g.Assign (t.Variable (nm (codes "x0") 84 6 1)) (t.Prefix (sp 86 6 6) g.Star (t.Chain (t.Variable (nm (codes "ar") 88 6 8)) (t.link (sp 89 6 11) g.Plus (t.Number (sp 90 6 13) 1 false) t.no_links))))) p.no_statements)
    (nn ∷ nt 2 2 true true false ∷ nt 2 0 true true false ∷ nt 2 0 true true false ∷ nn ∷ nt 3 3 true true false ∷ nt 5 0 true true false ∷ nt 2 0 true true false ∷ [])
    (kd 1 true false 4 ∷ []) [] []
    ≡ k 2 ∷ k 13 ∷ k 11 ∷ k 1 ∷ k 11 ∷ k 2 ∷ k 23 ∷ k 1 ∷ k 1 ∷ k 1 ∷ k 8 ∷ at 12 6 6 ∷ k 13 ∷ k 14 ∷ k 4 ∷ k 29 ∷ k 30 ∷ k 34 ∷ []
together_15 = refl

-- st.a = 1;
together_16 : sites_with (p.statement (p.Expression (t.Assign (sp 87 6 6) g.Assign (t.Postfix (t.Variable (nm (codes "st") 84 6 1)) (t.dot (sp 85 6 3) (nm (codes "a") 86 6 4) t.no_suffixes)) (t.Number (sp 88 6 8) 1 false))) p.no_statements)
    (nn ∷ nt 0 0 true true false ∷ nt 2 0 true true false ∷ nt 0 0 false false false ∷ nt 2 0 true true false ∷ nt 2 0 true true false ∷ [])
    [] [] []
    ≡ k 2 ∷ k 13 ∷ k 11 ∷ k 1 ∷ k 11 ∷ k 2 ∷ k 23 ∷ k 1 ∷ k 1 ∷ k 7 ∷ k 1 ∷ k 14 ∷ k 4 ∷ k 29 ∷ k 30 ∷ k 34 ∷ []
together_16 = refl

-- st.in.x = st.v[2];
together_17 : sites_with (p.statement (p.Expression (t.Assign (sp 89 6 9) g.Assign (t.Postfix (t.Variable (nm (codes "st") 84 6 1)) (t.dot (sp 85 6 3) (nm (codes "in") 86 6 4) (t.dot (sp 87 6 6) (nm (codes "x") 88 6 7) t.no_suffixes))) (t.Postfix (t.Variable (nm (codes "st") 90 6 11)) (t.dot (sp 91 6 13) (nm (codes "v") 92 6 14) (t.index (sp 93 6 15) (t.Number (sp 94 6 16) 2 false) t.no_suffixes))))) p.no_statements)
    (nn ∷ nt 0 0 true true false ∷ nt 5 0 true true false ∷ nt 0 1 false false false ∷ nt 2 0 true true false ∷ nt 0 0 false false false ∷ nt 2 0 true true false ∷ nt 0 0 true true false ∷ nt 6 0 true true false ∷ nt 0 2 false false false ∷ nt 2 0 true true false ∷ nt 2 0 true true false ∷ [])
    (kd 1 false false 0 ∷ kd 3 false true 4 ∷ []) [] []
    ≡ k 2 ∷ k 13 ∷ k 11 ∷ k 1 ∷ k 11 ∷ k 2 ∷ k 23 ∷ k 1 ∷ k 1 ∷ k 7 ∷ k 1 ∷ k 7 ∷ k 1 ∷ k 1 ∷ k 7 ∷ k 1 ∷ k 8 ∷ at 12 6 15 ∷ k 13 ∷ k 14 ∷ k 4 ∷ k 29 ∷ k 30 ∷ k 34 ∷ []
together_17 = refl

-- so[1].v[x0] = 3;
together_18 : sites_with (p.statement (p.Expression (t.Assign (sp 93 6 13) g.Assign (t.Postfix (t.Variable (nm (codes "so") 84 6 1)) (t.index (sp 85 6 3) (t.Number (sp 86 6 4) 1 false) (t.dot (sp 88 6 6) (nm (codes "v") 89 6 7) (t.index (sp 90 6 8) (t.Variable (nm (codes "x0") 91 6 9)) t.no_suffixes)))) (t.Number (sp 94 6 15) 3 false))) p.no_statements)
    (nn ∷ nt 1 1 true true false ∷ nt 0 0 true true false ∷ nt 2 0 true true false ∷ nn ∷ nt 5 0 true true false ∷ nt 0 2 false false false ∷ nt 2 0 true true false ∷ nt 2 2 true true false ∷ nn ∷ nt 2 0 true true false ∷ nt 2 0 true true false ∷ [])
    (kd 3 false true 4 ∷ []) [] []
    ≡ k 2 ∷ k 13 ∷ k 11 ∷ k 1 ∷ k 11 ∷ k 2 ∷ k 23 ∷ k 1 ∷ k 1 ∷ k 8 ∷ k 1 ∷ k 7 ∷ k 1 ∷ k 13 ∷ k 8 ∷ at 12 6 8 ∷ k 1 ∷ k 14 ∷ k 4 ∷ k 29 ∷ k 30 ∷ k 34 ∷ []
together_18 = refl

-- so[x0].in.x++;
together_19 : sites_with (p.statement (p.Expression (t.Postfix (t.Variable (nm (codes "so") 84 6 1)) (t.index (sp 85 6 3) (t.Variable (nm (codes "x0") 86 6 4)) (t.dot (sp 88 6 7) (nm (codes "in") 89 6 8) (t.dot (sp 90 6 10) (nm (codes "x") 91 6 11) (t.up (sp 92 6 12) t.no_suffixes)))))) p.no_statements)
    (nn ∷ nt 1 1 true true false ∷ nt 0 0 true true false ∷ nt 2 2 true true false ∷ nn ∷ nt 5 0 true true false ∷ nt 0 1 false false false ∷ nt 2 0 true true false ∷ nt 0 0 false false false ∷ nt 2 0 true true false ∷ [])
    (kd 1 false false 0 ∷ []) [] []
    ≡ k 2 ∷ k 13 ∷ k 11 ∷ k 1 ∷ k 11 ∷ k 2 ∷ k 23 ∷ k 1 ∷ k 1 ∷ k 13 ∷ k 8 ∷ k 1 ∷ k 7 ∷ k 1 ∷ k 7 ∷ at 12 6 10 ∷ k 5 ∷ k 13 ∷ k 1 ∷ k 7 ∷ k 14 ∷ k 1 ∷ k 7 ∷ k 4 ∷ k 29 ∷ k 30 ∷ k 34 ∷ []
together_19 = refl

-- struct S *s = &st; s->a = s->in.x;
together_20 : sites_with (p.statement (p.Declare ((dc false (ty (t.Struct (nm (codes "S") 85 6 8)) 1) (nm (codes "s") 87 6 11) None (Some (t.Prefix (sp 89 6 15) g.Ampersand (t.Variable (nm (codes "st") 90 6 16))))) ∷ [])) (p.statement (p.Expression (t.Assign (sp 95 6 25) g.Assign (t.Postfix (t.Variable (nm (codes "s") 92 6 20)) (t.arrow (sp 93 6 21) (nm (codes "a") 94 6 23) t.no_suffixes)) (t.Postfix (t.Variable (nm (codes "s") 96 6 27)) (t.arrow (sp 97 6 28) (nm (codes "in") 98 6 30) (t.dot (sp 99 6 32) (nm (codes "x") 100 6 33) t.no_suffixes))))) p.no_statements))
    (nn ∷ nn ∷ nn ∷ nn ∷ nt 5 10 false false false ∷ nn ∷ nt 5 0 true true false ∷ nt 0 0 true true false ∷ nn ∷ nt 5 10 true false false ∷ nt 2 0 true false false ∷ nt 0 0 false false false ∷ nt 2 0 true false false ∷ nt 5 10 true false false ∷ nt 6 0 true false false ∷ nt 0 1 false false false ∷ nt 2 0 true false false ∷ nt 0 0 false false false ∷ [])
    (kd 1 true false 24 ∷ kd 1 false false 0 ∷ []) (sl h.Private 0 ∷ []) []
    ≡ k 2 ∷ k 13 ∷ k 11 ∷ k 1 ∷ k 11 ∷ k 2 ∷ k 23 ∷ k 1 ∷ k 3 ∷ k 4 ∷ k 2 ∷ k 1 ∷ k 7 ∷ at 12 6 21 ∷ k 2 ∷ k 1 ∷ k 7 ∷ k 1 ∷ k 7 ∷ at 12 6 32 ∷ k 13 ∷ k 14 ∷ k 4 ∷ k 29 ∷ k 30 ∷ k 34 ∷ []
together_20 = refl

-- struct S *s = so; s->next = s + 1; s->next->v[1]++;
together_21 : sites_with (p.statement (p.Declare ((dc false (ty (t.Struct (nm (codes "S") 85 6 8)) 1) (nm (codes "s") 87 6 11) None (Some (t.Variable (nm (codes "so") 89 6 15)))) ∷ [])) (p.statement (p.Expression (t.Assign (sp 94 6 27) g.Assign (t.Postfix (t.Variable (nm (codes "s") 91 6 19)) (t.arrow (sp 92 6 20) (nm (codes "next") 93 6 22) t.no_suffixes)) (t.Chain (t.Variable (nm (codes "s") 95 6 29)) (t.link (sp 96 6 31) g.Plus (t.Number (sp 97 6 33) 1 false) t.no_links)))) (p.statement (p.Expression (t.Postfix (t.Variable (nm (codes "s") 99 6 36)) (t.arrow (sp 100 6 37) (nm (codes "next") 101 6 39) (t.arrow (sp 102 6 43) (nm (codes "v") 103 6 45) (t.index (sp 104 6 46) (t.Number (sp 105 6 47) 1 false) (t.up (sp 107 6 49) t.no_suffixes)))))) p.no_statements)))
    (nn ∷ nn ∷ nn ∷ nn ∷ nt 5 10 false false false ∷ nn ∷ nt 1 1 true true false ∷ nn ∷ nt 5 10 true false false ∷ nt 5 0 true false false ∷ nt 0 5 false false false ∷ nt 5 0 true false false ∷ nt 5 10 true false false ∷ nt 5 0 true false false ∷ nt 2 0 true true false ∷ nn ∷ nt 5 10 true false false ∷ nt 5 0 true false false ∷ nt 0 5 false false false ∷ nt 6 0 true false false ∷ nt 0 2 false false false ∷ nt 2 0 true false false ∷ nt 2 0 true true false ∷ nn ∷ nt 2 0 true false false ∷ [])
    (kd 1 true false 24 ∷ kd 3 false true 4 ∷ []) (sl h.Private 0 ∷ []) []
    ≡ k 2 ∷ k 13 ∷ k 11 ∷ k 1 ∷ k 11 ∷ k 2 ∷ k 23 ∷ k 1 ∷ k 3 ∷ k 4 ∷ k 2 ∷ k 1 ∷ k 7 ∷ at 12 6 20 ∷ k 2 ∷ k 1 ∷ k 8 ∷ k 14 ∷ k 4 ∷ k 2 ∷ k 1 ∷ k 7 ∷ at 12 6 37 ∷ k 13 ∷ k 1 ∷ k 7 ∷ k 1 ∷ k 8 ∷ at 12 6 46 ∷ k 5 ∷ k 13 ∷ k 1 ∷ k 7 ∷ k 14 ∷ k 1 ∷ k 7 ∷ k 4 ∷ k 29 ∷ k 30 ∷ k 34 ∷ []
together_21 = refl

-- int *q = st.v; q = so[1].v;
together_22 : sites_with (p.statement (p.Declare ((dc false (ty t.Int 1) (nm (codes "q") 86 6 6) None (Some (t.Postfix (t.Variable (nm (codes "st") 88 6 10)) (t.dot (sp 89 6 12) (nm (codes "v") 90 6 13) t.no_suffixes)))) ∷ [])) (p.statement (p.Expression (t.Assign (sp 93 6 18) g.Assign (t.Variable (nm (codes "q") 92 6 16)) (t.Postfix (t.Variable (nm (codes "so") 94 6 20)) (t.index (sp 95 6 22) (t.Number (sp 96 6 23) 1 false) (t.dot (sp 98 6 25) (nm (codes "v") 99 6 26) t.no_suffixes))))) p.no_statements))
    (nn ∷ nn ∷ nn ∷ nt 5 10 false false false ∷ nn ∷ nt 0 0 true true false ∷ nt 6 0 true true false ∷ nt 0 2 false false false ∷ nn ∷ nt 5 10 true false false ∷ nt 5 0 true true false ∷ nt 1 1 true true false ∷ nt 0 0 true true false ∷ nt 2 0 true true false ∷ nn ∷ nt 6 0 true true false ∷ nt 0 2 false false false ∷ [])
    (kd 1 true false 4 ∷ kd 3 false true 4 ∷ []) (sl h.Private 0 ∷ []) []
    ≡ k 2 ∷ k 13 ∷ k 11 ∷ k 1 ∷ k 11 ∷ k 2 ∷ k 23 ∷ k 1 ∷ k 1 ∷ k 7 ∷ k 3 ∷ k 4 ∷ k 1 ∷ k 1 ∷ k 8 ∷ k 1 ∷ k 7 ∷ k 3 ∷ k 4 ∷ k 29 ∷ k 30 ∷ k 34 ∷ []
together_22 = refl

-- int *q = &st.a; q = &so[1].in.x; q = &*q; q = &q[3];
together_23 : sites_with (p.statement (p.Declare ((dc false (ty t.Int 1) (nm (codes "q") 86 6 6) None (Some (t.Prefix (sp 88 6 10) g.Ampersand (t.Postfix (t.Variable (nm (codes "st") 89 6 11)) (t.dot (sp 90 6 13) (nm (codes "a") 91 6 14) t.no_suffixes))))) ∷ [])) (p.statement (p.Expression (t.Assign (sp 94 6 19) g.Assign (t.Variable (nm (codes "q") 93 6 17)) (t.Prefix (sp 95 6 21) g.Ampersand (t.Postfix (t.Variable (nm (codes "so") 96 6 22)) (t.index (sp 97 6 24) (t.Number (sp 98 6 25) 1 false) (t.dot (sp 100 6 27) (nm (codes "in") 101 6 28) (t.dot (sp 102 6 30) (nm (codes "x") 103 6 31) t.no_suffixes))))))) (p.statement (p.Expression (t.Assign (sp 106 6 36) g.Assign (t.Variable (nm (codes "q") 105 6 34)) (t.Prefix (sp 107 6 38) g.Ampersand (t.Prefix (sp 108 6 39) g.Star (t.Variable (nm (codes "q") 109 6 40)))))) (p.statement (p.Expression (t.Assign (sp 112 6 45) g.Assign (t.Variable (nm (codes "q") 111 6 43)) (t.Prefix (sp 113 6 47) g.Ampersand (t.Postfix (t.Variable (nm (codes "q") 114 6 48)) (t.index (sp 115 6 49) (t.Number (sp 116 6 50) 3 false) t.no_suffixes))))) p.no_statements))))
    (nn ∷ nn ∷ nn ∷ nt 5 10 false false false ∷ nn ∷ nt 5 0 true true false ∷ nt 0 0 true true false ∷ nt 2 0 true true false ∷ nt 0 0 false false false ∷ nn ∷ nt 5 10 true false false ∷ nt 5 0 true true false ∷ nt 5 0 true true false ∷ nt 1 1 true true false ∷ nt 0 0 true true false ∷ nt 2 0 true true false ∷ nn ∷ nt 6 0 true true false ∷ nt 0 1 false false false ∷ nt 2 0 true true false ∷ nt 0 0 false false false ∷ nn ∷ nt 5 10 true false false ∷ nt 5 0 true false false ∷ nt 5 0 true false false ∷ nt 2 0 true false false ∷ nt 5 10 true false false ∷ nn ∷ nt 5 10 true false false ∷ nt 5 0 true false false ∷ nt 5 0 true false false ∷ nt 5 10 true false false ∷ nt 2 0 true false false ∷ nt 2 0 true true false ∷ [])
    (kd 1 true false 4 ∷ kd 1 false false 0 ∷ []) (sl h.Private 0 ∷ []) []
    ≡ k 2 ∷ k 13 ∷ k 11 ∷ k 1 ∷ k 11 ∷ k 2 ∷ k 23 ∷ k 1 ∷ k 1 ∷ k 7 ∷ k 3 ∷ k 4 ∷ k 1 ∷ k 1 ∷ k 8 ∷ k 1 ∷ k 7 ∷ k 1 ∷ k 7 ∷ at 12 6 30 ∷ k 3 ∷ k 4 ∷ k 2 ∷ at 12 6 39 ∷ k 3 ∷ k 4 ∷ k 2 ∷ k 1 ∷ k 8 ∷ at 12 6 49 ∷ k 3 ∷ k 4 ∷ k 29 ∷ k 30 ∷ k 34 ∷ []
together_23 = refl

-- x0 = -x0; x0 = ~x0; x0 = !x0; x0 = +x0; x0 = (int)x1;
together_24 : sites_with (p.statement (p.Expression (t.Assign (sp 85 6 4) g.Assign (t.Variable (nm (codes "x0") 84 6 1)) (t.Prefix (sp 86 6 6) g.Minus (t.Variable (nm (codes "x0") 87 6 7))))) (p.statement (p.Expression (t.Assign (sp 90 6 14) g.Assign (t.Variable (nm (codes "x0") 89 6 11)) (t.Prefix (sp 91 6 16) g.Tilde (t.Variable (nm (codes "x0") 92 6 17))))) (p.statement (p.Expression (t.Assign (sp 95 6 24) g.Assign (t.Variable (nm (codes "x0") 94 6 21)) (t.Prefix (sp 96 6 26) g.Exclamation (t.Variable (nm (codes "x0") 97 6 27))))) (p.statement (p.Expression (t.Assign (sp 100 6 34) g.Assign (t.Variable (nm (codes "x0") 99 6 31)) (t.Prefix (sp 101 6 36) g.Plus (t.Variable (nm (codes "x0") 102 6 37))))) (p.statement (p.Expression (t.Assign (sp 105 6 44) g.Assign (t.Variable (nm (codes "x0") 104 6 41)) (t.Cast (sp 106 6 46) (ty t.Int 0) (t.Variable (nm (codes "x1") 109 6 51))))) p.no_statements)))))
    (nn ∷ nt 2 2 true true false ∷ nt 2 0 true true false ∷ nt 2 0 true true false ∷ nt 2 2 true true false ∷ nn ∷ nt 2 2 true true false ∷ nt 2 0 true true false ∷ nt 2 0 true true false ∷ nt 2 2 true true false ∷ nn ∷ nt 2 2 true true false ∷ nt 2 0 true true false ∷ nt 2 0 true true false ∷ nt 2 2 true true false ∷ nn ∷ nt 2 2 true true false ∷ nt 2 0 true true false ∷ nt 2 0 true true false ∷ nt 2 2 true true false ∷ nn ∷ nt 2 2 true true false ∷ nt 2 0 true true false ∷ nt 2 0 true true false ∷ nn ∷ nn ∷ nt 4 4 true true false ∷ [])
    [] [] []
    ≡ k 2 ∷ k 13 ∷ k 11 ∷ k 1 ∷ k 11 ∷ k 2 ∷ k 23 ∷ k 1 ∷ k 1 ∷ k 13 ∷ k 6 ∷ k 14 ∷ k 4 ∷ k 1 ∷ k 1 ∷ k 13 ∷ k 6 ∷ k 14 ∷ k 4 ∷ k 1 ∷ k 1 ∷ k 13 ∷ k 6 ∷ k 14 ∷ k 4 ∷ k 1 ∷ k 1 ∷ k 13 ∷ k 14 ∷ k 4 ∷ k 1 ∷ k 1 ∷ k 13 ∷ k 14 ∷ k 4 ∷ k 29 ∷ k 30 ∷ k 34 ∷ []
together_24 = refl

-- x0 = 1, x0 = 2;
together_25 : sites_with (p.statement (p.Expression (t.Chain (t.Assign (sp 85 6 4) g.Assign (t.Variable (nm (codes "x0") 84 6 1)) (t.Number (sp 86 6 6) 1 false)) (t.link (sp 87 6 7) g.Comma (t.Assign (sp 89 6 12) g.Assign (t.Variable (nm (codes "x0") 88 6 9)) (t.Number (sp 90 6 14) 2 false)) t.no_links))) p.no_statements)
    (nn ∷ nt 2 2 true true false ∷ nt 2 0 true true false ∷ nt 2 0 true true false ∷ nt 2 0 true true false ∷ nt 2 2 true true false ∷ nt 2 0 true true false ∷ nt 2 0 true true false ∷ [])
    [] [] []
    ≡ k 2 ∷ k 13 ∷ k 11 ∷ k 1 ∷ k 11 ∷ k 2 ∷ k 23 ∷ k 1 ∷ k 1 ∷ k 14 ∷ k 4 ∷ k 1 ∷ k 1 ∷ k 14 ∷ k 4 ∷ k 29 ∷ k 30 ∷ k 34 ∷ []
together_25 = refl

-- putint(1), x0 = 3;
together_26 : sites_with (p.statement (p.Expression (t.Chain (t.Postfix (t.Variable (nm (codes "putint") 84 6 1)) (t.call (sp 85 6 7) (t.tree (t.Number (sp 86 6 8) 1 false) t.no_trees) t.no_suffixes)) (t.link (sp 88 6 10) g.Comma (t.Assign (sp 90 6 15) g.Assign (t.Variable (nm (codes "x0") 89 6 12)) (t.Number (sp 91 6 17) 3 false)) t.no_links))) p.no_statements)
    (nn ∷ nt 0 4294967295 false false false ∷ nt 5 0 true false false ∷ nt 2 0 true true false ∷ nn ∷ nt 2 0 true true false ∷ nt 2 2 true true false ∷ nt 2 0 true true false ∷ nt 2 0 true true false ∷ [])
    (kd 0 false false 0 ∷ []) [] []
    ≡ k 2 ∷ k 13 ∷ k 11 ∷ k 1 ∷ k 11 ∷ k 2 ∷ k 23 ∷ k 1 ∷ k 19 ∷ k 1 ∷ k 1 ∷ k 14 ∷ k 4 ∷ k 29 ∷ k 30 ∷ k 34 ∷ []
together_26 = refl

-- putint(sizeof(struct S));
together_27 : sites_with (p.statement (p.Expression (t.Postfix (t.Variable (nm (codes "putint") 84 6 1)) (t.call (sp 85 6 7) (t.tree (t.Sizeof (sp 86 6 8) (ty (t.Struct (nm (codes "S") 89 6 22)) 0)) t.no_trees) t.no_suffixes))) p.no_statements)
    (nn ∷ nt 0 4294967295 false false false ∷ nt 5 0 true false false ∷ nt 4 24 true true false ∷ [])
    (kd 0 false false 0 ∷ []) [] []
    ≡ k 2 ∷ k 13 ∷ k 11 ∷ k 1 ∷ k 11 ∷ k 2 ∷ k 23 ∷ k 1 ∷ k 19 ∷ k 29 ∷ k 30 ∷ k 34 ∷ []
together_27 = refl

-- putchar('a'); puts("ab\n");
together_28 : sites_with (p.statement (p.Expression (t.Postfix (t.Variable (nm (codes "putchar") 84 6 1)) (t.call (sp 85 6 8) (t.tree (t.Number (sp 86 6 9) 97 false) t.no_trees) t.no_suffixes))) (p.statement (p.Expression (t.Puts (sp 89 6 15) (34 ∷ 97 ∷ 98 ∷ 92 ∷ 110 ∷ 34 ∷ []))) p.no_statements))
    (nn ∷ nt 0 4294967295 false false false ∷ nt 5 0 true false false ∷ nt 2 0 true true false ∷ nn ∷ nn ∷ nt 5 0 true false false ∷ [])
    (kd 0 false false 0 ∷ []) [] []
    ≡ k 2 ∷ k 13 ∷ k 11 ∷ k 1 ∷ k 11 ∷ k 2 ∷ k 23 ∷ k 1 ∷ k 20 ∷ k 1 ∷ k 20 ∷ k 1 ∷ k 20 ∷ k 1 ∷ k 20 ∷ k 29 ∷ k 30 ∷ k 34 ∷ []
together_28 = refl

-- putint(f0); f0 = 2;
together_29 : sites_with (p.statement (p.Expression (t.Postfix (t.Variable (nm (codes "putint") 84 6 1)) (t.call (sp 85 6 7) (t.tree (t.Variable (nm (codes "f0") 86 6 8)) t.no_trees) t.no_suffixes))) (p.statement (p.Expression (t.Assign (sp 90 6 16) g.Assign (t.Variable (nm (codes "f0") 89 6 13)) (t.Number (sp 91 6 18) 2 false))) p.no_statements))
    (nn ∷ nt 0 4294967295 false false false ∷ nt 5 0 true false false ∷ nt 2 5 true false false ∷ nn ∷ nn ∷ nt 2 5 true false false ∷ nt 2 0 true true false ∷ nt 2 0 true true false ∷ [])
    (kd 0 false false 0 ∷ []) [] []
    ≡ k 2 ∷ k 13 ∷ k 11 ∷ k 1 ∷ k 11 ∷ k 2 ∷ k 23 ∷ k 2 ∷ k 19 ∷ k 1 ∷ k 3 ∷ k 4 ∷ k 29 ∷ k 30 ∷ k 34 ∷ []
together_29 = refl

-- x0 = mpadd(&x0, 1) + mpmax(ar, 2) + mpand(&ar[1], 3) + mpor(&st.a, 4);
together_30 : sites_with (p.statement (p.Expression (t.Assign (sp 85 6 4) g.Assign (t.Variable (nm (codes "x0") 84 6 1)) (t.Chain (t.Postfix (t.Variable (nm (codes "mpadd") 86 6 6)) (t.call (sp 87 6 11) (t.tree (t.Prefix (sp 88 6 12) g.Ampersand (t.Variable (nm (codes "x0") 89 6 13))) (t.tree (t.Number (sp 91 6 17) 1 false) t.no_trees)) t.no_suffixes)) (t.link (sp 93 6 20) g.Plus (t.Postfix (t.Variable (nm (codes "mpmax") 94 6 22)) (t.call (sp 95 6 27) (t.tree (t.Variable (nm (codes "ar") 96 6 28)) (t.tree (t.Number (sp 98 6 32) 2 false) t.no_trees)) t.no_suffixes)) (t.link (sp 100 6 35) g.Plus (t.Postfix (t.Variable (nm (codes "mpand") 101 6 37)) (t.call (sp 102 6 42) (t.tree (t.Prefix (sp 103 6 43) g.Ampersand (t.Postfix (t.Variable (nm (codes "ar") 104 6 44)) (t.index (sp 105 6 46) (t.Number (sp 106 6 47) 1 false) t.no_suffixes))) (t.tree (t.Number (sp 109 6 51) 3 false) t.no_trees)) t.no_suffixes)) (t.link (sp 111 6 54) g.Plus (t.Postfix (t.Variable (nm (codes "mpor") 112 6 56)) (t.call (sp 113 6 60) (t.tree (t.Prefix (sp 114 6 61) g.Ampersand (t.Postfix (t.Variable (nm (codes "st") 115 6 62)) (t.dot (sp 116 6 64) (nm (codes "a") 117 6 65) t.no_suffixes))) (t.tree (t.Number (sp 119 6 68) 4 false) t.no_trees)) t.no_suffixes)) t.no_links)))))) p.no_statements)
    (nn ∷ nt 2 2 true true false ∷ nt 2 0 true false false ∷ nt 0 4294967295 false false false ∷ nt 2 0 true false false ∷ nt 5 0 true true false ∷ nt 2 2 true true false ∷ nn ∷ nt 2 0 true true false ∷ nn ∷ nt 2 0 true false false ∷ nt 0 4294967295 false false false ∷ nt 2 0 true false false ∷ nt 3 3 true true false ∷ nn ∷ nt 2 0 true true false ∷ nn ∷ nt 2 0 true false false ∷ nt 0 4294967295 false false false ∷ nt 2 0 true false false ∷ nt 5 0 true true false ∷ nt 3 3 true true false ∷ nt 2 0 true true false ∷ nt 2 0 true true false ∷ nn ∷ nn ∷ nt 2 0 true true false ∷ nn ∷ nt 2 0 true false false ∷ nt 0 4294967295 false false false ∷ nt 2 0 true false false ∷ nt 5 0 true true false ∷ nt 0 0 true true false ∷ nt 2 0 true true false ∷ nt 0 0 false false false ∷ nn ∷ nt 2 0 true true false ∷ [])
    (kd 1 true false 4 ∷ []) [] []
    ≡ k 2 ∷ k 13 ∷ k 11 ∷ k 1 ∷ k 11 ∷ k 2 ∷ k 23 ∷ k 1 ∷ k 1 ∷ at 12 6 6 ∷ k 1 ∷ k 15 ∷ k 1 ∷ at 12 6 22 ∷ k 1 ∷ k 16 ∷ k 7 ∷ k 1 ∷ k 1 ∷ k 8 ∷ at 12 6 46 ∷ at 12 6 37 ∷ k 1 ∷ k 17 ∷ k 7 ∷ k 1 ∷ k 1 ∷ k 7 ∷ at 12 6 56 ∷ k 1 ∷ k 18 ∷ k 7 ∷ k 14 ∷ k 4 ∷ k 29 ∷ k 30 ∷ k 34 ∷ []
together_30 = refl

-- int *m = malloc(8); int *s = shmalloc(8);
together_31 : sites_with (p.statement (p.Declare ((dc false (ty t.Int 1) (nm (codes "m") 86 6 6) None (Some (t.Postfix (t.Variable (nm (codes "malloc") 88 6 10)) (t.call (sp 89 6 16) (t.tree (t.Number (sp 90 6 17) 8 false) t.no_trees) t.no_suffixes)))) ∷ [])) (p.statement (p.Declare ((dc false (ty t.Int 1) (nm (codes "s") 95 6 26) None (Some (t.Postfix (t.Variable (nm (codes "shmalloc") 97 6 30)) (t.call (sp 98 6 38) (t.tree (t.Number (sp 99 6 39) 8 false) t.no_trees) t.no_suffixes)))) ∷ [])) p.no_statements))
    (nn ∷ nn ∷ nn ∷ nt 5 10 false false false ∷ nn ∷ nt 0 4294967295 false false false ∷ nt 6 0 true false false ∷ nt 2 0 true true false ∷ nn ∷ nn ∷ nn ∷ nn ∷ nt 5 11 false false false ∷ nn ∷ nt 0 4294967295 false false false ∷ nt 6 0 true false false ∷ nt 2 0 true true false ∷ [])
    (kd 1 true false 4 ∷ kd 1 true false 0 ∷ []) (sl h.Private 0 ∷ sl h.Private 1 ∷ []) []
    ≡ k 2 ∷ k 13 ∷ k 11 ∷ k 1 ∷ k 11 ∷ k 2 ∷ k 23 ∷ k 1 ∷ k 10 ∷ k 3 ∷ k 4 ∷ k 1 ∷ k 21 ∷ k 3 ∷ k 4 ∷ k 29 ∷ k 30 ∷ k 34 ∷ []
together_31 = refl

-- x0 = groupsize() + __PROC_NR__ + __STARTED_PROCS__ + @ + $;
together_32 : sites_with (p.statement (p.Expression (t.Assign (sp 85 6 4) g.Assign (t.Variable (nm (codes "x0") 84 6 1)) (t.Chain (t.Postfix (t.Variable (nm (codes "groupsize") 86 6 6)) (t.call (sp 87 6 15) t.no_trees t.no_suffixes)) (t.link (sp 89 6 18) g.Plus (t.Variable (nm (codes "__PROC_NR__") 90 6 20)) (t.link (sp 91 6 32) g.Plus (t.Variable (nm (codes "__STARTED_PROCS__") 92 6 34)) (t.link (sp 93 6 52) g.Plus (t.GroupNumber (sp 94 6 54)) (t.link (sp 95 6 56) g.Plus (t.GroupRank (sp 96 6 58)) t.no_links))))))) p.no_statements)
    (nn ∷ nt 2 2 true true false ∷ nt 2 0 true false false ∷ nt 0 4294967295 false false false ∷ nt 2 0 true true false ∷ nn ∷ nt 2 0 true false false ∷ nt 2 4294967295 true false false ∷ nt 2 0 true false false ∷ nt 2 4294967295 true true false ∷ nt 2 0 true false false ∷ nt 2 0 true true false ∷ nt 2 0 true false false ∷ nt 2 0 true false false ∷ [])
    [] [] []
    ≡ k 2 ∷ k 13 ∷ k 11 ∷ k 1 ∷ k 11 ∷ k 2 ∷ k 23 ∷ k 1 ∷ k 2 ∷ k 2 ∷ k 7 ∷ k 2 ∷ k 7 ∷ k 2 ∷ k 7 ∷ k 2 ∷ k 7 ∷ k 14 ∷ k 4 ∷ k 29 ∷ k 30 ∷ k 34 ∷ []
together_32 = refl

-- x0 = __inputs + __input[1];
together_33 : sites_with (p.statement (p.Expression (t.Assign (sp 85 6 4) g.Assign (t.Variable (nm (codes "x0") 84 6 1)) (t.Chain (t.Variable (nm (codes "__inputs") 86 6 6)) (t.link (sp 87 6 15) g.Plus (t.Postfix (t.Variable (nm (codes "__input") 88 6 17)) (t.index (sp 89 6 24) (t.Number (sp 90 6 25) 1 false) t.no_suffixes)) t.no_links)))) p.no_statements)
    (nn ∷ nt 2 2 true true false ∷ nt 2 0 true true false ∷ nt 2 4294967295 true true false ∷ nt 2 0 true true false ∷ nt 5 4294967295 true true false ∷ nt 2 0 true true false ∷ nt 2 0 true true false ∷ [])
    (kd 1 false true 4 ∷ []) [] []
    ≡ k 2 ∷ k 13 ∷ k 11 ∷ k 1 ∷ k 11 ∷ k 2 ∷ k 23 ∷ k 1 ∷ k 2 ∷ k 2 ∷ k 1 ∷ k 8 ∷ at 12 6 24 ∷ k 13 ∷ k 7 ∷ k 14 ∷ k 4 ∷ k 29 ∷ k 30 ∷ k 34 ∷ []
together_33 = refl

-- int *q = __input;
together_34 : sites_with (p.statement (p.Declare ((dc false (ty t.Int 1) (nm (codes "q") 86 6 6) None (Some (t.Variable (nm (codes "__input") 88 6 10)))) ∷ [])) p.no_statements)
    (nn ∷ nn ∷ nn ∷ nt 5 10 false false false ∷ nn ∷ nt 6 4294967295 true true false ∷ [])
    (kd 1 true false 4 ∷ kd 1 false true 4 ∷ []) (sl h.Private 0 ∷ []) []
    ≡ k 2 ∷ k 13 ∷ k 11 ∷ k 1 ∷ k 11 ∷ k 2 ∷ k 23 ∷ k 2 ∷ k 3 ∷ k 4 ∷ k 29 ∷ k 30 ∷ k 34 ∷ []
together_34 = refl

-- x0 = 1 < 2; x0 = ar == &x0; x0 = x1 >= 2;
together_35 : sites_with (p.statement (p.Expression (t.Assign (sp 85 6 4) g.Assign (t.Variable (nm (codes "x0") 84 6 1)) (t.Chain (t.Number (sp 86 6 6) 1 false) (t.link (sp 87 6 8) g.LessThan (t.Number (sp 88 6 10) 2 false) t.no_links)))) (p.statement (p.Expression (t.Assign (sp 91 6 16) g.Assign (t.Variable (nm (codes "x0") 90 6 13)) (t.Chain (t.Variable (nm (codes "ar") 92 6 18)) (t.link (sp 93 6 21) g.EqualTo (t.Prefix (sp 94 6 24) g.Ampersand (t.Variable (nm (codes "x0") 95 6 25))) t.no_links)))) (p.statement (p.Expression (t.Assign (sp 98 6 32) g.Assign (t.Variable (nm (codes "x0") 97 6 29)) (t.Chain (t.Variable (nm (codes "x1") 99 6 34)) (t.link (sp 100 6 37) g.GreaterOrEqual (t.Number (sp 101 6 40) 2 false) t.no_links)))) p.no_statements)))
    (nn ∷ nt 2 2 true true false ∷ nt 2 0 true true false ∷ nt 2 0 true true false ∷ nt 2 0 true true false ∷ nt 2 0 true true false ∷ nn ∷ nt 2 2 true true false ∷ nt 2 0 true true false ∷ nt 3 3 true true false ∷ nt 2 0 true true false ∷ nt 5 0 true true false ∷ nt 2 2 true true false ∷ nn ∷ nt 2 2 true true false ∷ nt 2 0 true true false ∷ nt 4 4 true true false ∷ nt 2 0 true true false ∷ nt 2 0 true true false ∷ [])
    (kd 1 true false 4 ∷ []) [] []
    ≡ k 2 ∷ k 13 ∷ k 11 ∷ k 1 ∷ k 11 ∷ k 2 ∷ k 23 ∷ k 1 ∷ k 1 ∷ k 1 ∷ k 7 ∷ k 14 ∷ k 4 ∷ k 1 ∷ k 1 ∷ k 1 ∷ k 7 ∷ k 14 ∷ k 4 ∷ k 1 ∷ k 1 ∷ k 13 ∷ k 1 ∷ k 7 ∷ k 14 ∷ k 4 ∷ k 29 ∷ k 30 ∷ k 34 ∷ []
together_35 = refl

-- int *q = ar; x0 = q < ar + 2; x0 = (q == 0);
together_36 : sites_with (p.statement (p.Declare ((dc false (ty t.Int 1) (nm (codes "q") 86 6 6) None (Some (t.Variable (nm (codes "ar") 88 6 10)))) ∷ [])) (p.statement (p.Expression (t.Assign (sp 91 6 17) g.Assign (t.Variable (nm (codes "x0") 90 6 14)) (t.Chain (t.Variable (nm (codes "q") 92 6 19)) (t.link (sp 93 6 21) g.LessThan (t.Chain (t.Variable (nm (codes "ar") 94 6 23)) (t.link (sp 95 6 26) g.Plus (t.Number (sp 96 6 28) 2 false) t.no_links)) t.no_links)))) (p.statement (p.Expression (t.Assign (sp 99 6 34) g.Assign (t.Variable (nm (codes "x0") 98 6 31)) (t.Chain (t.Variable (nm (codes "q") 101 6 37)) (t.link (sp 102 6 39) g.EqualTo (t.Number (sp 103 6 42) 0 false) t.no_links)))) p.no_statements)))
    (nn ∷ nn ∷ nn ∷ nt 5 10 false false false ∷ nn ∷ nt 3 3 true true false ∷ nn ∷ nt 2 2 true true false ∷ nt 2 0 true false false ∷ nt 5 10 true false false ∷ nt 2 0 true false false ∷ nt 3 3 true true false ∷ nt 5 0 true true false ∷ nt 2 0 true true false ∷ nn ∷ nt 2 2 true true false ∷ nt 2 0 true false false ∷ nn ∷ nt 5 10 true false false ∷ nt 2 0 true false false ∷ nt 2 0 true true false ∷ [])
    (kd 1 true false 4 ∷ []) (sl h.Private 0 ∷ []) []
    ≡ k 2 ∷ k 13 ∷ k 11 ∷ k 1 ∷ k 11 ∷ k 2 ∷ k 23 ∷ k 1 ∷ k 3 ∷ k 4 ∷ k 1 ∷ k 2 ∷ k 1 ∷ k 1 ∷ k 8 ∷ k 7 ∷ k 14 ∷ k 4 ∷ k 1 ∷ k 2 ∷ k 1 ∷ k 7 ∷ k 14 ∷ k 4 ∷ k 29 ∷ k 30 ∷ k 34 ∷ []
together_36 = refl

-- x0 = 'a' << 2 >> 1;
together_37 : sites_with (p.statement (p.Expression (t.Assign (sp 85 6 4) g.Assign (t.Variable (nm (codes "x0") 84 6 1)) (t.Chain (t.Number (sp 86 6 6) 97 false) (t.link (sp 87 6 10) g.ShiftLeft (t.Number (sp 88 6 13) 2 false) (t.link (sp 89 6 15) g.ShiftRight (t.Number (sp 90 6 18) 1 false) t.no_links))))) p.no_statements)
    (nn ∷ nt 2 2 true true false ∷ nt 2 0 true true false ∷ nt 2 0 true true false ∷ nt 2 0 true true false ∷ nt 2 0 true true false ∷ nt 2 0 true true false ∷ nt 2 0 true true false ∷ [])
    [] [] []
    ≡ k 2 ∷ k 13 ∷ k 11 ∷ k 1 ∷ k 11 ∷ k 2 ∷ k 23 ∷ k 1 ∷ k 1 ∷ k 1 ∷ k 7 ∷ k 1 ∷ k 7 ∷ k 14 ∷ k 4 ∷ k 29 ∷ k 30 ∷ k 34 ∷ []
together_37 = refl

-- ;
together_38 : sites_with (p.statement p.Empty p.no_statements)
    []
    [] [] []
    ≡ k 2 ∷ k 13 ∷ k 11 ∷ k 1 ∷ k 11 ∷ k 2 ∷ k 23 ∷ k 29 ∷ k 30 ∷ k 34 ∷ []
together_38 = refl

-- { int a; { int a = 2; x0 = a; } }
together_39 : sites_with (p.statement (p.Block (p.statement (p.Declare ((dc false (ty t.Int 0) (nm (codes "a") 86 6 7) None None) ∷ [])) (p.statement (p.Block (p.statement (p.Declare ((dc false (ty t.Int 0) (nm (codes "a") 90 6 16) None (Some (t.Number (sp 92 6 20) 2 false))) ∷ [])) (p.statement (p.Expression (t.Assign (sp 95 6 26) g.Assign (t.Variable (nm (codes "x0") 94 6 23)) (t.Variable (nm (codes "a") 96 6 28)))) p.no_statements))) p.no_statements))) p.no_statements)
    (nn ∷ nn ∷ nn ∷ nt 2 10 false false false ∷ nn ∷ nn ∷ nn ∷ nt 2 11 false false false ∷ nn ∷ nt 2 0 true true false ∷ nn ∷ nt 2 2 true true false ∷ nt 2 0 true false false ∷ nt 2 11 true false false ∷ [])
    [] (sl h.Private 0 ∷ sl h.Private 1 ∷ []) []
    ≡ k 2 ∷ k 13 ∷ k 11 ∷ k 1 ∷ k 11 ∷ k 2 ∷ k 23 ∷ k 1 ∷ k 3 ∷ k 4 ∷ k 1 ∷ k 3 ∷ k 4 ∷ k 1 ∷ k 2 ∷ k 14 ∷ k 4 ∷ k 29 ∷ k 30 ∷ k 34 ∷ []
together_39 = refl

-- int a, b = 3, c;
together_40 : sites_with (p.statement (p.Declare ((dc false (ty t.Int 0) (nm (codes "a") 85 6 5) None None) ∷ (dc false (ty t.Int 0) (nm (codes "b") 87 6 8) None (Some (t.Number (sp 89 6 12) 3 false))) ∷ (dc false (ty t.Int 0) (nm (codes "c") 91 6 15) None None) ∷ [])) p.no_statements)
    (nn ∷ nn ∷ nt 2 10 false false false ∷ nn ∷ nt 2 11 false false false ∷ nn ∷ nt 2 0 true true false ∷ nn ∷ nt 2 12 false false false ∷ [])
    [] (sl h.Private 0 ∷ sl h.Private 1 ∷ sl h.Private 2 ∷ []) []
    ≡ k 2 ∷ k 13 ∷ k 11 ∷ k 1 ∷ k 11 ∷ k 2 ∷ k 23 ∷ k 1 ∷ k 3 ∷ k 4 ∷ k 1 ∷ k 3 ∷ k 4 ∷ k 1 ∷ k 3 ∷ k 4 ∷ k 29 ∷ k 30 ∷ k 34 ∷ []
together_40 = refl

-- if (@) x0 = 1;
together_41 : sites_with (p.statement (p.If (sp 84 6 1) (t.GroupNumber (sp 86 6 5)) (p.Expression (t.Assign (sp 89 6 11) g.Assign (t.Variable (nm (codes "x0") 88 6 8)) (t.Number (sp 90 6 13) 1 false)))) p.no_statements)
    (nn ∷ nt 0 0 true false false ∷ nn ∷ nt 2 0 true true false ∷ nn ∷ nt 2 2 true true false ∷ nt 2 0 true true false ∷ nt 2 0 true true false ∷ [])
    [] [] []
    ≡ k 2 ∷ k 13 ∷ k 11 ∷ k 1 ∷ k 11 ∷ k 2 ∷ k 23 ∷ k 2 ∷ k 24 ∷ k 9 ∷ k 1 ∷ k 1 ∷ k 14 ∷ k 4 ∷ k 29 ∷ k 30 ∷ k 34 ∷ []
together_41 = refl

-- if (@) x0 = 1; else x0 = 2;
together_42 : sites_with (p.statement (p.IfElse (sp 84 6 1) (t.GroupNumber (sp 86 6 5)) (p.Expression (t.Assign (sp 89 6 11) g.Assign (t.Variable (nm (codes "x0") 88 6 8)) (t.Number (sp 90 6 13) 1 false))) (p.Expression (t.Assign (sp 94 6 24) g.Assign (t.Variable (nm (codes "x0") 93 6 21)) (t.Number (sp 95 6 26) 2 false)))) p.no_statements)
    (nn ∷ nt 0 0 true false false ∷ nn ∷ nt 2 0 true true false ∷ nn ∷ nt 2 2 true true false ∷ nt 2 0 true true false ∷ nt 2 0 true true false ∷ nn ∷ nn ∷ nt 2 2 true true false ∷ nt 2 0 true true false ∷ nt 2 0 true true false ∷ [])
    [] [] []
    ≡ k 2 ∷ k 13 ∷ k 11 ∷ k 1 ∷ k 11 ∷ k 2 ∷ k 23 ∷ k 2 ∷ k 24 ∷ k 9 ∷ k 1 ∷ k 1 ∷ k 14 ∷ k 4 ∷ k 1 ∷ k 1 ∷ k 14 ∷ k 4 ∷ k 29 ∷ k 30 ∷ k 34 ∷ []
together_42 = refl

-- while (x0) x0 = 0;
together_43 : sites_with (p.statement (p.While (sp 84 6 1) (t.Variable (nm (codes "x0") 86 6 8)) (p.Expression (t.Assign (sp 89 6 15) g.Assign (t.Variable (nm (codes "x0") 88 6 12)) (t.Number (sp 90 6 17) 0 false)))) p.no_statements)
    (nn ∷ nt 0 0 true false false ∷ nn ∷ nt 2 2 true true false ∷ nn ∷ nt 2 2 true true false ∷ nt 2 0 true true false ∷ nt 2 0 true true false ∷ [])
    [] [] []
    ≡ k 2 ∷ k 13 ∷ k 11 ∷ k 1 ∷ k 11 ∷ k 2 ∷ k 23 ∷ k 1 ∷ k 13 ∷ k 24 ∷ k 9 ∷ k 1 ∷ k 1 ∷ k 14 ∷ k 4 ∷ k 29 ∷ k 30 ∷ k 34 ∷ []
together_43 = refl

-- do x0 = 0; while (x0);
together_44 : sites_with (p.statement (p.DoWhile (sp 84 6 1) (p.Expression (t.Assign (sp 86 6 7) g.Assign (t.Variable (nm (codes "x0") 85 6 4)) (t.Number (sp 87 6 9) 0 false))) (t.Variable (nm (codes "x0") 91 6 19))) p.no_statements)
    (nn ∷ nt 0 0 true false false ∷ nt 2 2 true true false ∷ nt 2 0 true true false ∷ nt 2 0 true true false ∷ nn ∷ nn ∷ nn ∷ nt 2 2 true true false ∷ [])
    [] [] []
    ≡ k 2 ∷ k 13 ∷ k 11 ∷ k 1 ∷ k 11 ∷ k 2 ∷ k 23 ∷ k 1 ∷ k 1 ∷ k 14 ∷ k 4 ∷ k 1 ∷ k 13 ∷ k 24 ∷ k 9 ∷ k 29 ∷ k 30 ∷ k 34 ∷ []
together_44 = refl

-- for (x0 = 0; x0 < 3; x0++) ar[x0] = 1;
together_45 : sites_with (p.statement (p.For (sp 84 6 1) (Some (t.Assign (sp 87 6 9) g.Assign (t.Variable (nm (codes "x0") 86 6 6)) (t.Number (sp 88 6 11) 0 false))) (Some (t.Chain (t.Variable (nm (codes "x0") 90 6 14)) (t.link (sp 91 6 17) g.LessThan (t.Number (sp 92 6 19) 3 false) t.no_links))) (Some (t.Postfix (t.Variable (nm (codes "x0") 94 6 22)) (t.up (sp 95 6 24) t.no_suffixes))) (p.Expression (t.Assign (sp 101 6 35) g.Assign (t.Postfix (t.Variable (nm (codes "ar") 97 6 28)) (t.index (sp 98 6 30) (t.Variable (nm (codes "x0") 99 6 31)) t.no_suffixes)) (t.Number (sp 102 6 37) 1 false)))) p.no_statements)
    (nn ∷ nt 0 0 true false false ∷ nn ∷ nt 2 2 true true false ∷ nt 2 0 true true false ∷ nt 2 0 true true false ∷ nn ∷ nt 2 2 true true false ∷ nt 2 0 true true false ∷ nt 2 0 true true false ∷ nn ∷ nt 2 2 true true false ∷ nt 2 0 true true false ∷ nn ∷ nt 3 3 true true false ∷ nt 2 0 true true false ∷ nt 2 2 true true false ∷ nn ∷ nt 2 0 true true false ∷ nt 2 0 true true false ∷ [])
    [] [] []
    ≡ k 2 ∷ k 13 ∷ k 11 ∷ k 1 ∷ k 11 ∷ k 2 ∷ k 23 ∷ k 1 ∷ k 1 ∷ k 14 ∷ k 4 ∷ k 1 ∷ k 13 ∷ k 1 ∷ k 7 ∷ k 24 ∷ k 9 ∷ k 1 ∷ k 1 ∷ k 13 ∷ k 8 ∷ at 12 6 30 ∷ k 1 ∷ k 14 ∷ k 4 ∷ k 1 ∷ k 5 ∷ k 13 ∷ k 1 ∷ k 7 ∷ k 14 ∷ k 1 ∷ k 7 ∷ k 4 ∷ k 29 ∷ k 30 ∷ k 34 ∷ []
together_45 = refl

-- for (;x0;) x0 = 0;
together_46 : sites_with (p.statement (p.For (sp 84 6 1) None (Some (t.Variable (nm (codes "x0") 87 6 7))) None (p.Expression (t.Assign (sp 91 6 15) g.Assign (t.Variable (nm (codes "x0") 90 6 12)) (t.Number (sp 92 6 17) 0 false)))) p.no_statements)
    (nn ∷ nt 0 0 true false false ∷ nn ∷ nn ∷ nt 2 2 true true false ∷ nn ∷ nn ∷ nt 2 2 true true false ∷ nt 2 0 true true false ∷ nt 2 0 true true false ∷ [])
    [] [] []
    ≡ k 2 ∷ k 13 ∷ k 11 ∷ k 1 ∷ k 11 ∷ k 2 ∷ k 23 ∷ k 1 ∷ k 13 ∷ k 24 ∷ k 9 ∷ k 1 ∷ k 1 ∷ k 14 ∷ k 4 ∷ k 29 ∷ k 30 ∷ k 34 ∷ []
together_46 = refl

-- for (putint(1); x0; putint(2)) x0 = 0;
together_47 : sites_with (p.statement (p.For (sp 84 6 1) (Some (t.Postfix (t.Variable (nm (codes "putint") 86 6 6)) (t.call (sp 87 6 12) (t.tree (t.Number (sp 88 6 13) 1 false) t.no_trees) t.no_suffixes))) (Some (t.Variable (nm (codes "x0") 91 6 17))) (Some (t.Postfix (t.Variable (nm (codes "putint") 93 6 21)) (t.call (sp 94 6 27) (t.tree (t.Number (sp 95 6 28) 2 false) t.no_trees) t.no_suffixes))) (p.Expression (t.Assign (sp 99 6 35) g.Assign (t.Variable (nm (codes "x0") 98 6 32)) (t.Number (sp 100 6 37) 0 false)))) p.no_statements)
    (nn ∷ nt 0 0 true false false ∷ nn ∷ nt 0 4294967295 false false false ∷ nt 5 0 true false false ∷ nt 2 0 true true false ∷ nn ∷ nn ∷ nt 2 2 true true false ∷ nn ∷ nt 0 4294967295 false false false ∷ nt 5 0 true false false ∷ nt 2 0 true true false ∷ nn ∷ nn ∷ nt 2 2 true true false ∷ nt 2 0 true true false ∷ nt 2 0 true true false ∷ [])
    (kd 0 false false 0 ∷ []) [] []
    ≡ k 2 ∷ k 13 ∷ k 11 ∷ k 1 ∷ k 11 ∷ k 2 ∷ k 23 ∷ k 1 ∷ k 19 ∷ k 1 ∷ k 13 ∷ k 24 ∷ k 9 ∷ k 1 ∷ k 1 ∷ k 14 ∷ k 4 ∷ k 1 ∷ k 19 ∷ k 29 ∷ k 30 ∷ k 34 ∷ []
together_47 = refl

-- while (1) { if (x0) break; x0 = 1; continue; }
together_48 : sites_with (p.statement (p.While (sp 84 6 1) (t.Number (sp 86 6 8) 1 false) (p.Block (p.statement (p.If (sp 89 6 13) (t.Variable (nm (codes "x0") 91 6 17)) (p.Break (sp 93 6 21))) (p.statement (p.Expression (t.Assign (sp 96 6 31) g.Assign (t.Variable (nm (codes "x0") 95 6 28)) (t.Number (sp 97 6 33) 1 false))) (p.statement (p.Continue (sp 99 6 36)) p.no_statements))))) p.no_statements)
    (nn ∷ nt 0 0 true false false ∷ nn ∷ nt 2 0 true true false ∷ nn ∷ nn ∷ nt 0 0 true false false ∷ nn ∷ nt 2 2 true true false ∷ nn ∷ nt 0 0 true false false ∷ nn ∷ nt 2 2 true true false ∷ nt 2 0 true true false ∷ nt 2 0 true true false ∷ nn ∷ nt 0 0 true false false ∷ [])
    [] [] []
    ≡ k 2 ∷ k 13 ∷ k 11 ∷ k 1 ∷ k 11 ∷ k 2 ∷ k 23 ∷ k 1 ∷ k 24 ∷ k 9 ∷ k 1 ∷ k 13 ∷ k 24 ∷ k 9 ∷ k 1 ∷ k 1 ∷ k 14 ∷ k 4 ∷ k 29 ∷ k 30 ∷ k 34 ∷ []
together_48 = refl

-- x0 = @ && x0;
together_49 : sites_with (p.statement (p.Expression (t.Assign (sp 85 6 4) g.Assign (t.Variable (nm (codes "x0") 84 6 1)) (t.Chain (t.GroupNumber (sp 86 6 6)) (t.link (sp 87 6 8) g.AndAnd (t.Variable (nm (codes "x0") 88 6 11)) t.no_links)))) p.no_statements)
    (nn ∷ nt 2 2 true true false ∷ nt 2 0 true true false ∷ nt 2 0 true true false ∷ nt 2 0 true true false ∷ nt 2 2 true true false ∷ [])
    [] [] []
    ≡ k 2 ∷ k 13 ∷ k 11 ∷ k 1 ∷ k 11 ∷ k 2 ∷ k 23 ∷ k 1 ∷ k 2 ∷ k 24 ∷ k 9 ∷ k 1 ∷ k 13 ∷ k 1 ∷ k 7 ∷ k 1 ∷ k 14 ∷ k 4 ∷ k 29 ∷ k 30 ∷ k 34 ∷ []
together_49 = refl

-- x0 = @ || x0;
together_50 : sites_with (p.statement (p.Expression (t.Assign (sp 85 6 4) g.Assign (t.Variable (nm (codes "x0") 84 6 1)) (t.Chain (t.GroupNumber (sp 86 6 6)) (t.link (sp 87 6 8) g.OrOr (t.Variable (nm (codes "x0") 88 6 11)) t.no_links)))) p.no_statements)
    (nn ∷ nt 2 2 true true false ∷ nt 2 0 true true false ∷ nt 2 0 true true false ∷ nt 2 0 true true false ∷ nt 2 2 true true false ∷ [])
    [] [] []
    ≡ k 2 ∷ k 13 ∷ k 11 ∷ k 1 ∷ k 11 ∷ k 2 ∷ k 23 ∷ k 1 ∷ k 2 ∷ k 24 ∷ k 9 ∷ k 1 ∷ k 13 ∷ k 1 ∷ k 7 ∷ k 1 ∷ k 14 ∷ k 4 ∷ k 29 ∷ k 30 ∷ k 34 ∷ []
together_50 = refl

-- x0 = @ ? 1 : 2;
together_51 : sites_with (p.statement (p.Expression (t.Assign (sp 85 6 4) g.Assign (t.Variable (nm (codes "x0") 84 6 1)) (t.Choose (sp 87 6 8) (t.GroupNumber (sp 86 6 6)) (t.Number (sp 88 6 10) 1 false) (t.Number (sp 90 6 14) 2 false)))) p.no_statements)
    (nn ∷ nt 2 2 true true false ∷ nt 2 0 true true false ∷ nt 2 0 true true false ∷ nt 2 0 true true false ∷ nt 2 0 true true false ∷ nn ∷ nt 2 0 true true false ∷ [])
    [] [] []
    ≡ k 2 ∷ k 13 ∷ k 11 ∷ k 1 ∷ k 11 ∷ k 2 ∷ k 23 ∷ k 1 ∷ k 2 ∷ k 24 ∷ k 9 ∷ k 1 ∷ k 1 ∷ k 14 ∷ k 4 ∷ k 29 ∷ k 30 ∷ k 34 ∷ []
together_51 = refl

-- x0 = (@ ? &x0 : ar)[0];
together_52 : sites_with (p.statement (p.Expression (t.Assign (sp 85 6 4) g.Assign (t.Variable (nm (codes "x0") 84 6 1)) (t.Postfix (t.Choose (sp 88 6 9) (t.GroupNumber (sp 87 6 7)) (t.Prefix (sp 89 6 11) g.Ampersand (t.Variable (nm (codes "x0") 90 6 12))) (t.Variable (nm (codes "ar") 92 6 17))) (t.index (sp 94 6 20) (t.Number (sp 95 6 21) 0 false) t.no_suffixes)))) p.no_statements)
    (nn ∷ nt 2 2 true true false ∷ nt 2 0 true true false ∷ nn ∷ nt 2 0 true true false ∷ nt 5 0 true true false ∷ nt 5 0 true true false ∷ nt 2 2 true true false ∷ nn ∷ nt 3 3 true true false ∷ nn ∷ nt 2 0 true true false ∷ nt 2 0 true true false ∷ [])
    (kd 1 true false 4 ∷ []) [] []
    ≡ k 2 ∷ k 13 ∷ k 11 ∷ k 1 ∷ k 11 ∷ k 2 ∷ k 23 ∷ k 1 ∷ k 2 ∷ k 24 ∷ k 9 ∷ k 1 ∷ k 1 ∷ k 1 ∷ k 8 ∷ at 12 6 20 ∷ k 13 ∷ k 14 ∷ k 4 ∷ k 29 ∷ k 30 ∷ k 34 ∷ []
together_52 = refl

-- x0 = !(@ && (x0 || @));
together_53 : sites_with (p.statement (p.Expression (t.Assign (sp 85 6 4) g.Assign (t.Variable (nm (codes "x0") 84 6 1)) (t.Prefix (sp 86 6 6) g.Exclamation (t.Chain (t.GroupNumber (sp 88 6 8)) (t.link (sp 89 6 10) g.AndAnd (t.Chain (t.Variable (nm (codes "x0") 91 6 14)) (t.link (sp 92 6 17) g.OrOr (t.GroupNumber (sp 93 6 20)) t.no_links)) t.no_links))))) p.no_statements)
    (nn ∷ nt 2 2 true true false ∷ nt 2 0 true true false ∷ nt 2 0 true true false ∷ nn ∷ nt 2 0 true true false ∷ nt 2 0 true true false ∷ nn ∷ nt 2 2 true true false ∷ nt 2 0 true true false ∷ nt 2 0 true true false ∷ [])
    [] [] []
    ≡ k 2 ∷ k 13 ∷ k 11 ∷ k 1 ∷ k 11 ∷ k 2 ∷ k 23 ∷ k 1 ∷ k 2 ∷ k 24 ∷ k 9 ∷ k 1 ∷ k 13 ∷ k 24 ∷ k 9 ∷ k 2 ∷ k 1 ∷ k 7 ∷ k 1 ∷ k 1 ∷ k 7 ∷ k 1 ∷ k 6 ∷ k 14 ∷ k 4 ∷ k 29 ∷ k 30 ∷ k 34 ∷ []
together_53 = refl

-- x0 = sf(1, 2);
together_54 : sites_with (p.statement (p.Expression (t.Assign (sp 85 6 4) g.Assign (t.Variable (nm (codes "x0") 84 6 1)) (t.Postfix (t.Variable (nm (codes "sf") 86 6 6)) (t.call (sp 87 6 8) (t.tree (t.Number (sp 88 6 9) 1 false) (t.tree (t.Number (sp 90 6 12) 2 false) t.no_trees)) t.no_suffixes)))) p.no_statements)
    (nn ∷ nt 2 2 true true false ∷ nt 2 0 true false false ∷ nt 0 6 false false false ∷ nt 2 0 true false false ∷ nt 2 0 true true false ∷ nn ∷ nt 2 0 true true false ∷ [])
    [] [] []
    ≡ k 2 ∷ k 13 ∷ k 11 ∷ k 1 ∷ k 11 ∷ k 2 ∷ k 23 ∷ k 1 ∷ k 1 ∷ k 24 ∷ k 1 ∷ at 22 6 6 ∷ at 25 6 6 ∷ k 2 ∷ k 2 ∷ k 14 ∷ k 4 ∷ k 14 ∷ k 4 ∷ k 29 ∷ k 30 ∷ k 34 ∷ []
together_54 = refl

-- x0 = sf($, sf(3, 4));
together_55 : sites_with (p.statement (p.Expression (t.Assign (sp 85 6 4) g.Assign (t.Variable (nm (codes "x0") 84 6 1)) (t.Postfix (t.Variable (nm (codes "sf") 86 6 6)) (t.call (sp 87 6 8) (t.tree (t.GroupRank (sp 88 6 9)) (t.tree (t.Postfix (t.Variable (nm (codes "sf") 90 6 12)) (t.call (sp 91 6 14) (t.tree (t.Number (sp 92 6 15) 3 false) (t.tree (t.Number (sp 94 6 18) 4 false) t.no_trees)) t.no_suffixes)) t.no_trees)) t.no_suffixes)))) p.no_statements)
    (nn ∷ nt 2 2 true true false ∷ nt 2 0 true false false ∷ nt 0 6 false false false ∷ nt 2 0 true false false ∷ nt 2 0 true false false ∷ nn ∷ nt 0 6 false false false ∷ nt 2 0 true false false ∷ nt 2 0 true true false ∷ nn ∷ nt 2 0 true true false ∷ [])
    [] [] []
    ≡ k 2 ∷ k 13 ∷ k 11 ∷ k 1 ∷ k 11 ∷ k 2 ∷ k 23 ∷ k 1 ∷ k 2 ∷ k 24 ∷ k 1 ∷ k 24 ∷ k 1 ∷ at 22 6 12 ∷ at 25 6 12 ∷ k 2 ∷ k 2 ∷ k 14 ∷ k 4 ∷ at 22 6 6 ∷ at 25 6 6 ∷ k 2 ∷ k 2 ∷ k 14 ∷ k 4 ∷ k 14 ∷ k 4 ∷ k 29 ∷ k 30 ∷ k 34 ∷ []
together_55 = refl

-- int *b = shalloc(12);
together_56 : sites_with (p.statement (p.Declare ((dc false (ty t.Int 1) (nm (codes "b") 86 6 6) None (Some (t.Postfix (t.Variable (nm (codes "shalloc") 88 6 10)) (t.call (sp 89 6 17) (t.tree (t.Number (sp 90 6 18) 12 false) t.no_trees) t.no_suffixes)))) ∷ [])) p.no_statements)
    (nn ∷ nn ∷ nn ∷ nt 5 10 false false false ∷ nn ∷ nt 0 4294967295 false false false ∷ nt 6 0 true true false ∷ nt 2 0 true true false ∷ [])
    (kd 1 true false 4 ∷ kd 1 true false 0 ∷ []) (sl h.Private 0 ∷ []) []
    ≡ k 2 ∷ k 13 ∷ k 11 ∷ k 1 ∷ k 11 ∷ k 2 ∷ k 23 ∷ k 1 ∷ k 24 ∷ k 26 ∷ k 3 ∷ k 4 ∷ k 29 ∷ k 30 ∷ k 34 ∷ []
together_56 = refl

-- sh int z; z = 4;
together_57 : sites_with (p.statement (p.Declare ((dc true (ty t.Int 0) (nm (codes "z") 86 6 8) None None) ∷ [])) (p.statement (p.Expression (t.Assign (sp 89 6 13) g.Assign (t.Variable (nm (codes "z") 88 6 11)) (t.Number (sp 90 6 15) 4 false))) p.no_statements))
    (nn ∷ nn ∷ nn ∷ nt 2 10 false false false ∷ nn ∷ nt 2 10 true true false ∷ nt 2 0 true true false ∷ nt 2 0 true true false ∷ [])
    [] (sl (h.Group 1) 0 ∷ []) (rg 82 0 1 1 ∷ [])
    ≡ k 2 ∷ k 13 ∷ k 11 ∷ k 1 ∷ k 11 ∷ k 2 ∷ k 23 ∷ at 25 5 19 ∷ k 2 ∷ k 1 ∷ k 14 ∷ k 4 ∷ k 2 ∷ k 1 ∷ k 14 ∷ k 4 ∷ k 29 ∷ k 30 ∷ k 34 ∷ []
together_57 = refl

-- sh int z = 5;
together_58 : sites_with (p.statement (p.Declare ((dc true (ty t.Int 0) (nm (codes "z") 86 6 8) None (Some (t.Number (sp 88 6 12) 5 false))) ∷ [])) p.no_statements)
    (nn ∷ nn ∷ nn ∷ nt 2 10 false false false ∷ nn ∷ nt 2 0 true true false ∷ [])
    [] (sl (h.Group 1) 0 ∷ []) (rg 82 0 1 1 ∷ [])
    ≡ k 2 ∷ k 13 ∷ k 11 ∷ k 1 ∷ k 11 ∷ k 2 ∷ k 23 ∷ at 25 5 19 ∷ k 2 ∷ k 1 ∷ k 14 ∷ k 4 ∷ k 29 ∷ k 30 ∷ k 34 ∷ []
together_58 = refl

-- sh int z[3]; z[1] = 2;
together_59 : sites_with (p.statement (p.Declare ((dc true (ty t.Int 0) (nm (codes "z") 86 6 8) (Some 3) None) ∷ [])) (p.statement (p.Expression (t.Assign (sp 95 6 19) g.Assign (t.Postfix (t.Variable (nm (codes "z") 91 6 14)) (t.index (sp 92 6 15) (t.Number (sp 93 6 16) 1 false) t.no_suffixes)) (t.Number (sp 96 6 21) 2 false))) p.no_statements))
    (nn ∷ nn ∷ nn ∷ nt 5 10 false false false ∷ nn ∷ nn ∷ nn ∷ nn ∷ nt 5 10 true true false ∷ nt 2 0 true true false ∷ nt 2 0 true true false ∷ nn ∷ nt 2 0 true true false ∷ nt 2 0 true true false ∷ [])
    (kd 3 false true 4 ∷ []) (sl (h.Group 1) 0 ∷ []) (rg 82 0 1 3 ∷ [])
    ≡ k 2 ∷ k 13 ∷ k 11 ∷ k 1 ∷ k 11 ∷ k 2 ∷ k 23 ∷ at 25 5 19 ∷ k 2 ∷ k 1 ∷ k 8 ∷ at 12 6 15 ∷ k 1 ∷ k 14 ∷ k 4 ∷ k 29 ∷ k 30 ∷ k 34 ∷ []
together_59 = refl

-- sh struct S z; z.a = 1;
together_60 : sites_with (p.statement (p.Declare ((dc true (ty (t.Struct (nm (codes "S") 86 6 11)) 0) (nm (codes "z") 87 6 13) None None) ∷ [])) (p.statement (p.Expression (t.Assign (sp 92 6 20) g.Assign (t.Postfix (t.Variable (nm (codes "z") 89 6 16)) (t.dot (sp 90 6 17) (nm (codes "a") 91 6 18) t.no_suffixes)) (t.Number (sp 93 6 22) 1 false))) p.no_statements))
    (nn ∷ nn ∷ nn ∷ nn ∷ nt 0 10 false false false ∷ nn ∷ nt 0 10 true true false ∷ nt 2 0 true true false ∷ nt 0 0 false false false ∷ nt 2 0 true true false ∷ nt 2 0 true true false ∷ [])
    [] (sl (h.Group 1) 0 ∷ []) (rg 82 0 1 6 ∷ [])
    ≡ k 2 ∷ k 13 ∷ k 11 ∷ k 1 ∷ k 11 ∷ k 2 ∷ k 23 ∷ at 25 5 19 ∷ k 2 ∷ k 1 ∷ k 7 ∷ k 1 ∷ k 14 ∷ k 4 ∷ k 29 ∷ k 30 ∷ k 34 ∷ []
together_60 = refl

-- if ($) x0 = 1;
together_61 : sites_with (p.statement (p.If (sp 84 6 1) (t.GroupRank (sp 86 6 5)) (p.Expression (t.Assign (sp 89 6 11) g.Assign (t.Variable (nm (codes "x0") 88 6 8)) (t.Number (sp 90 6 13) 1 false)))) p.no_statements)
    (nn ∷ nt 0 0 true false true ∷ nn ∷ nt 2 0 true false false ∷ nn ∷ nt 2 2 true true false ∷ nt 2 0 true true false ∷ nt 2 0 true true false ∷ [])
    [] [] []
    ≡ k 2 ∷ k 13 ∷ k 11 ∷ k 1 ∷ k 11 ∷ k 2 ∷ k 23 ∷ k 2 ∷ at 27 6 1 ∷ k 1 ∷ k 1 ∷ k 14 ∷ k 4 ∷ k 29 ∷ k 30 ∷ k 29 ∷ k 30 ∷ k 34 ∷ []
together_61 = refl

-- if ($) x0 = 1; else x0 = 2;
together_62 : sites_with (p.statement (p.IfElse (sp 84 6 1) (t.GroupRank (sp 86 6 5)) (p.Expression (t.Assign (sp 89 6 11) g.Assign (t.Variable (nm (codes "x0") 88 6 8)) (t.Number (sp 90 6 13) 1 false))) (p.Expression (t.Assign (sp 94 6 24) g.Assign (t.Variable (nm (codes "x0") 93 6 21)) (t.Number (sp 95 6 26) 2 false)))) p.no_statements)
    (nn ∷ nt 0 0 true false true ∷ nn ∷ nt 2 0 true false false ∷ nn ∷ nt 2 2 true true false ∷ nt 2 0 true true false ∷ nt 2 0 true true false ∷ nn ∷ nn ∷ nt 2 2 true true false ∷ nt 2 0 true true false ∷ nt 2 0 true true false ∷ [])
    [] [] []
    ≡ k 2 ∷ k 13 ∷ k 11 ∷ k 1 ∷ k 11 ∷ k 2 ∷ k 23 ∷ k 2 ∷ at 27 6 1 ∷ k 1 ∷ k 1 ∷ k 14 ∷ k 4 ∷ k 29 ∷ k 1 ∷ k 1 ∷ k 14 ∷ k 4 ∷ k 29 ∷ k 30 ∷ k 29 ∷ k 30 ∷ k 34 ∷ []
together_62 = refl

-- if ($) { sh int z; z = 1; } else { sh int y[2]; y[0] = 1; }
together_63 : sites_with (p.statement (p.IfElse (sp 84 6 1) (t.GroupRank (sp 86 6 5)) (p.Block (p.statement (p.Declare ((dc true (ty t.Int 0) (nm (codes "z") 91 6 17) None None) ∷ [])) (p.statement (p.Expression (t.Assign (sp 94 6 22) g.Assign (t.Variable (nm (codes "z") 93 6 20)) (t.Number (sp 95 6 24) 1 false))) p.no_statements))) (p.Block (p.statement (p.Declare ((dc true (ty t.Int 0) (nm (codes "y") 102 6 43) (Some 2) None) ∷ [])) (p.statement (p.Expression (t.Assign (sp 111 6 54) g.Assign (t.Postfix (t.Variable (nm (codes "y") 107 6 49)) (t.index (sp 108 6 50) (t.Number (sp 109 6 51) 0 false) t.no_suffixes)) (t.Number (sp 112 6 56) 1 false))) p.no_statements)))) p.no_statements)
    (nn ∷ nt 0 0 true false true ∷ nn ∷ nt 2 0 true false false ∷ nn ∷ nn ∷ nn ∷ nn ∷ nt 2 10 false false false ∷ nn ∷ nt 2 10 true true false ∷ nt 2 0 true true false ∷ nt 2 0 true true false ∷ nn ∷ nn ∷ nn ∷ nn ∷ nn ∷ nn ∷ nt 5 11 false false false ∷ nn ∷ nn ∷ nn ∷ nn ∷ nt 5 11 true true false ∷ nt 2 0 true true false ∷ nt 2 0 true true false ∷ nn ∷ nt 2 0 true true false ∷ nt 2 0 true true false ∷ [])
    (kd 2 false true 4 ∷ []) (sl (h.Group 1) 0 ∷ sl (h.Group 2) 0 ∷ []) (rg 84 0 2 1 ∷ rg 84 1 2 2 ∷ [])
    ≡ k 2 ∷ k 13 ∷ k 11 ∷ k 1 ∷ k 11 ∷ k 2 ∷ k 23 ∷ k 2 ∷ at 27 6 1 ∷ at 25 6 1 ∷ k 2 ∷ k 1 ∷ k 14 ∷ k 4 ∷ k 2 ∷ k 1 ∷ k 14 ∷ k 4 ∷ k 29 ∷ at 25 6 1 ∷ k 2 ∷ k 1 ∷ k 8 ∷ at 12 6 50 ∷ k 1 ∷ k 14 ∷ k 4 ∷ k 29 ∷ k 30 ∷ k 29 ∷ k 30 ∷ k 34 ∷ []
together_63 = refl

-- while ($) x0 = 1;
together_64 : sites_with (p.statement (p.While (sp 84 6 1) (t.GroupRank (sp 86 6 8)) (p.Expression (t.Assign (sp 89 6 14) g.Assign (t.Variable (nm (codes "x0") 88 6 11)) (t.Number (sp 90 6 16) 1 false)))) p.no_statements)
    (nn ∷ nt 0 0 true false true ∷ nn ∷ nt 2 0 true false false ∷ nn ∷ nt 2 2 true true false ∷ nt 2 0 true true false ∷ nt 2 0 true true false ∷ [])
    [] [] []
    ≡ k 2 ∷ k 13 ∷ k 11 ∷ k 1 ∷ k 11 ∷ k 2 ∷ k 23 ∷ at 27 6 1 ∷ k 2 ∷ k 28 ∷ k 1 ∷ k 1 ∷ k 14 ∷ k 4 ∷ k 30 ∷ k 29 ∷ k 30 ∷ k 34 ∷ []
together_64 = refl

-- int i = $; while (i) { sh int z; i--; }
together_65 : sites_with (p.statement (p.Declare ((dc false (ty t.Int 0) (nm (codes "i") 85 6 5) None (Some (t.GroupRank (sp 87 6 9)))) ∷ [])) (p.statement (p.While (sp 89 6 12) (t.Variable (nm (codes "i") 91 6 19)) (p.Block (p.statement (p.Declare ((dc true (ty t.Int 0) (nm (codes "z") 96 6 31) None None) ∷ [])) (p.statement (p.Expression (t.Postfix (t.Variable (nm (codes "i") 98 6 34)) (t.down (sp 99 6 35) t.no_suffixes))) p.no_statements)))) p.no_statements))
    (nn ∷ nn ∷ nt 2 10 false false false ∷ nn ∷ nt 2 0 true false false ∷ nn ∷ nt 0 0 true false true ∷ nn ∷ nt 2 10 true false false ∷ nn ∷ nn ∷ nn ∷ nn ∷ nt 2 11 false false false ∷ nn ∷ nt 2 10 true false false ∷ nt 2 0 true false false ∷ [])
    [] (sl h.Private 0 ∷ sl (h.Group 1) 0 ∷ []) (rg 89 0 2 1 ∷ [])
    ≡ k 2 ∷ k 13 ∷ k 11 ∷ k 1 ∷ k 11 ∷ k 2 ∷ k 23 ∷ k 2 ∷ k 3 ∷ k 4 ∷ at 27 6 12 ∷ at 25 6 12 ∷ k 2 ∷ k 28 ∷ k 2 ∷ k 1 ∷ k 14 ∷ k 4 ∷ k 2 ∷ k 1 ∷ k 7 ∷ k 3 ∷ k 1 ∷ k 7 ∷ k 4 ∷ k 30 ∷ k 29 ∷ k 30 ∷ k 34 ∷ []
together_65 = refl

-- int i; for (i = $; i; i--) x0 = 1;
together_66 : sites_with (p.statement (p.Declare ((dc false (ty t.Int 0) (nm (codes "i") 85 6 5) None None) ∷ [])) (p.statement (p.For (sp 87 6 8) (Some (t.Assign (sp 90 6 15) g.Assign (t.Variable (nm (codes "i") 89 6 13)) (t.GroupRank (sp 91 6 17)))) (Some (t.Variable (nm (codes "i") 93 6 20))) (Some (t.Postfix (t.Variable (nm (codes "i") 95 6 23)) (t.down (sp 96 6 24) t.no_suffixes))) (p.Expression (t.Assign (sp 99 6 31) g.Assign (t.Variable (nm (codes "x0") 98 6 28)) (t.Number (sp 100 6 33) 1 false)))) p.no_statements))
    (nn ∷ nn ∷ nt 2 10 false false false ∷ nn ∷ nt 0 0 true false true ∷ nn ∷ nt 2 10 true false false ∷ nt 2 0 true false false ∷ nt 2 0 true false false ∷ nn ∷ nt 2 10 true false false ∷ nn ∷ nt 2 10 true false false ∷ nt 2 0 true false false ∷ nn ∷ nt 2 2 true true false ∷ nt 2 0 true true false ∷ nt 2 0 true true false ∷ [])
    [] (sl h.Private 0 ∷ []) []
    ≡ k 2 ∷ k 13 ∷ k 11 ∷ k 1 ∷ k 11 ∷ k 2 ∷ k 23 ∷ k 1 ∷ k 3 ∷ k 4 ∷ k 2 ∷ k 3 ∷ k 4 ∷ at 27 6 8 ∷ k 2 ∷ k 28 ∷ k 1 ∷ k 1 ∷ k 14 ∷ k 4 ∷ k 2 ∷ k 1 ∷ k 7 ∷ k 3 ∷ k 1 ∷ k 7 ∷ k 4 ∷ k 30 ∷ k 29 ∷ k 30 ∷ k 34 ∷ []
together_66 = refl

-- int i = $; do i--; while (i);
together_67 : sites_with (p.statement (p.Declare ((dc false (ty t.Int 0) (nm (codes "i") 85 6 5) None (Some (t.GroupRank (sp 87 6 9)))) ∷ [])) (p.statement (p.DoWhile (sp 89 6 12) (p.Expression (t.Postfix (t.Variable (nm (codes "i") 90 6 15)) (t.down (sp 91 6 16) t.no_suffixes))) (t.Variable (nm (codes "i") 95 6 27))) p.no_statements))
    (nn ∷ nn ∷ nt 2 10 false false false ∷ nn ∷ nt 2 0 true false false ∷ nn ∷ nt 0 0 true false true ∷ nt 2 10 true false false ∷ nt 2 0 true false false ∷ nn ∷ nn ∷ nn ∷ nt 2 10 true false false ∷ [])
    [] (sl h.Private 0 ∷ []) []
    ≡ k 2 ∷ k 13 ∷ k 11 ∷ k 1 ∷ k 11 ∷ k 2 ∷ k 23 ∷ k 2 ∷ k 3 ∷ k 4 ∷ at 27 6 12 ∷ k 2 ∷ k 1 ∷ k 7 ∷ k 3 ∷ k 1 ∷ k 7 ∷ k 4 ∷ k 2 ∷ k 28 ∷ k 30 ∷ k 29 ∷ k 30 ∷ k 34 ∷ []
together_67 = refl

-- x0 = $ && x0;
together_68 : sites_with (p.statement (p.Expression (t.Assign (sp 85 6 4) g.Assign (t.Variable (nm (codes "x0") 84 6 1)) (t.Chain (t.GroupRank (sp 86 6 6)) (t.link (sp 87 6 8) g.AndAnd (t.Variable (nm (codes "x0") 88 6 11)) t.no_links)))) p.no_statements)
    (nn ∷ nt 2 2 true true false ∷ nt 2 0 true false false ∷ nt 2 0 true false false ∷ nt 2 0 true false true ∷ nt 2 2 true true false ∷ [])
    [] [] []
    ≡ k 2 ∷ k 13 ∷ k 11 ∷ k 1 ∷ k 11 ∷ k 2 ∷ k 23 ∷ k 1 ∷ k 2 ∷ at 27 6 8 ∷ k 1 ∷ k 13 ∷ k 1 ∷ k 7 ∷ k 29 ∷ k 30 ∷ k 14 ∷ k 4 ∷ k 29 ∷ k 30 ∷ k 34 ∷ []
together_68 = refl

-- x0 = $ || x0;
together_69 : sites_with (p.statement (p.Expression (t.Assign (sp 85 6 4) g.Assign (t.Variable (nm (codes "x0") 84 6 1)) (t.Chain (t.GroupRank (sp 86 6 6)) (t.link (sp 87 6 8) g.OrOr (t.Variable (nm (codes "x0") 88 6 11)) t.no_links)))) p.no_statements)
    (nn ∷ nt 2 2 true true false ∷ nt 2 0 true false false ∷ nt 2 0 true false false ∷ nt 2 0 true false true ∷ nt 2 2 true true false ∷ [])
    [] [] []
    ≡ k 2 ∷ k 13 ∷ k 11 ∷ k 1 ∷ k 11 ∷ k 2 ∷ k 23 ∷ k 1 ∷ k 2 ∷ at 27 6 8 ∷ k 1 ∷ k 13 ∷ k 1 ∷ k 7 ∷ k 29 ∷ k 30 ∷ k 14 ∷ k 4 ∷ k 29 ∷ k 30 ∷ k 34 ∷ []
together_69 = refl

-- x0 = $ ? x0 : 3;
together_70 : sites_with (p.statement (p.Expression (t.Assign (sp 85 6 4) g.Assign (t.Variable (nm (codes "x0") 84 6 1)) (t.Choose (sp 87 6 8) (t.GroupRank (sp 86 6 6)) (t.Variable (nm (codes "x0") 88 6 10)) (t.Number (sp 90 6 15) 3 false)))) p.no_statements)
    (nn ∷ nt 2 2 true true false ∷ nt 2 0 true false false ∷ nt 2 0 true false false ∷ nt 2 0 true false true ∷ nt 2 2 true true false ∷ nn ∷ nt 2 0 true true false ∷ [])
    [] [] []
    ≡ k 2 ∷ k 13 ∷ k 11 ∷ k 1 ∷ k 11 ∷ k 2 ∷ k 23 ∷ k 1 ∷ k 2 ∷ at 27 6 8 ∷ k 1 ∷ k 13 ∷ k 29 ∷ k 1 ∷ k 29 ∷ k 30 ∷ k 14 ∷ k 4 ∷ k 29 ∷ k 30 ∷ k 34 ∷ []
together_70 = refl

-- if (x0) { if ($) x0 = 2; }
together_71 : sites_with (p.statement (p.If (sp 84 6 1) (t.Variable (nm (codes "x0") 86 6 5)) (p.Block (p.statement (p.If (sp 89 6 11) (t.GroupRank (sp 91 6 15)) (p.Expression (t.Assign (sp 94 6 21) g.Assign (t.Variable (nm (codes "x0") 93 6 18)) (t.Number (sp 95 6 23) 2 false)))) p.no_statements))) p.no_statements)
    (nn ∷ nt 0 0 true false false ∷ nn ∷ nt 2 2 true true false ∷ nn ∷ nn ∷ nt 0 0 true false true ∷ nn ∷ nt 2 0 true false false ∷ nn ∷ nt 2 2 true true false ∷ nt 2 0 true true false ∷ nt 2 0 true true false ∷ [])
    [] [] []
    ≡ k 2 ∷ k 13 ∷ k 11 ∷ k 1 ∷ k 11 ∷ k 2 ∷ k 23 ∷ k 1 ∷ k 13 ∷ k 24 ∷ k 9 ∷ k 2 ∷ at 27 6 11 ∷ k 1 ∷ k 1 ∷ k 14 ∷ k 4 ∷ k 29 ∷ k 30 ∷ k 29 ∷ k 30 ∷ k 34 ∷ []
together_71 = refl

-- while (x0) { if ($) x0 = 0; }
together_72 : sites_with (p.statement (p.While (sp 84 6 1) (t.Variable (nm (codes "x0") 86 6 8)) (p.Block (p.statement (p.If (sp 89 6 14) (t.GroupRank (sp 91 6 18)) (p.Expression (t.Assign (sp 94 6 24) g.Assign (t.Variable (nm (codes "x0") 93 6 21)) (t.Number (sp 95 6 26) 0 false)))) p.no_statements))) p.no_statements)
    (nn ∷ nt 0 0 true false false ∷ nn ∷ nt 2 2 true true false ∷ nn ∷ nn ∷ nt 0 0 true false true ∷ nn ∷ nt 2 0 true false false ∷ nn ∷ nt 2 2 true true false ∷ nt 2 0 true true false ∷ nt 2 0 true true false ∷ [])
    [] [] []
    ≡ k 2 ∷ k 13 ∷ k 11 ∷ k 1 ∷ k 11 ∷ k 2 ∷ k 23 ∷ k 1 ∷ k 13 ∷ k 24 ∷ k 9 ∷ k 2 ∷ at 27 6 14 ∷ k 1 ∷ k 1 ∷ k 14 ∷ k 4 ∷ k 29 ∷ k 30 ∷ k 29 ∷ k 30 ∷ k 34 ∷ []
together_72 = refl

-- farm x0 = $;
together_73 : sites_with (p.statement (p.Farm (sp 84 6 1) (p.Expression (t.Assign (sp 86 6 9) g.Assign (t.Variable (nm (codes "x0") 85 6 6)) (t.GroupRank (sp 87 6 11))))) p.no_statements)
    (nn ∷ nt 0 0 true false false ∷ nt 2 2 false true false ∷ nt 2 0 false false false ∷ nt 2 0 false false false ∷ [])
    [] [] []
    ≡ k 2 ∷ k 13 ∷ k 11 ∷ k 1 ∷ k 11 ∷ k 2 ∷ k 23 ∷ k 31 ∷ k 1 ∷ k 2 ∷ k 14 ∷ k 4 ∷ k 33 ∷ k 29 ∷ k 30 ∷ k 34 ∷ []
together_73 = refl

-- farm { barrier; if ($) x0 = 1; }
together_74 : sites_with (p.statement (p.Farm (sp 84 6 1) (p.Block (p.statement (p.Barrier (sp 86 6 8)) (p.statement (p.If (sp 88 6 17) (t.GroupRank (sp 90 6 21)) (p.Expression (t.Assign (sp 93 6 27) g.Assign (t.Variable (nm (codes "x0") 92 6 24)) (t.Number (sp 94 6 29) 1 false)))) p.no_statements)))) p.no_statements)
    (nn ∷ nt 0 0 true false false ∷ nn ∷ nt 0 0 false false false ∷ nn ∷ nt 0 0 false false false ∷ nn ∷ nt 2 0 false false false ∷ nn ∷ nt 2 2 false true false ∷ nt 2 0 false true false ∷ nt 2 0 false true false ∷ [])
    [] [] []
    ≡ k 2 ∷ k 13 ∷ k 11 ∷ k 1 ∷ k 11 ∷ k 2 ∷ k 23 ∷ k 31 ∷ k 33 ∷ k 2 ∷ k 9 ∷ k 1 ∷ k 1 ∷ k 14 ∷ k 4 ∷ k 33 ∷ k 29 ∷ k 30 ∷ k 34 ∷ []
together_74 = refl

-- seq x0 = 5;
together_75 : sites_with (p.statement (p.Seq (sp 84 6 1) (p.Expression (t.Assign (sp 86 6 8) g.Assign (t.Variable (nm (codes "x0") 85 6 5)) (t.Number (sp 87 6 10) 5 false)))) p.no_statements)
    (nn ∷ nt 0 0 true false false ∷ nt 2 2 false true false ∷ nt 2 0 false true false ∷ nt 2 0 false true false ∷ [])
    [] [] []
    ≡ k 2 ∷ k 13 ∷ k 11 ∷ k 1 ∷ k 11 ∷ k 2 ∷ k 23 ∷ k 32 ∷ k 1 ∷ k 1 ∷ k 14 ∷ k 4 ∷ k 33 ∷ k 29 ∷ k 30 ∷ k 34 ∷ []
together_75 = refl

-- fork (3; @=$%3; $=$/3) x0 = @;
together_76 : sites_with (p.statement (p.Fork (sp 84 6 1) (t.Number (sp 86 6 7) 3 false) (t.Chain (t.GroupRank (sp 90 6 12)) (t.link (sp 91 6 13) g.Percent (t.Number (sp 92 6 14) 3 false) t.no_links)) (Some (t.Chain (t.GroupRank (sp 96 6 19)) (t.link (sp 97 6 20) g.Slash (t.Number (sp 98 6 21) 3 false) t.no_links))) (p.Expression (t.Assign (sp 101 6 27) g.Assign (t.Variable (nm (codes "x0") 100 6 24)) (t.GroupNumber (sp 102 6 29))))) p.no_statements)
    (nn ∷ nt 0 0 true false false ∷ nn ∷ nt 2 0 true true false ∷ nn ∷ nn ∷ nn ∷ nt 2 0 true false false ∷ nt 2 0 true false false ∷ nt 2 0 true true false ∷ nn ∷ nn ∷ nn ∷ nt 2 0 true false false ∷ nt 2 0 true false false ∷ nt 2 0 true true false ∷ nn ∷ nt 2 2 true true false ∷ nt 2 0 true true false ∷ nt 2 0 true true false ∷ [])
    [] [] []
    ≡ k 2 ∷ k 13 ∷ k 11 ∷ k 1 ∷ k 11 ∷ k 2 ∷ k 23 ∷ k 1 ∷ k 24 ∷ k 2 ∷ k 1 ∷ k 7 ∷ k 2 ∷ k 1 ∷ k 7 ∷ at 27 6 1 ∷ k 1 ∷ k 2 ∷ k 14 ∷ k 4 ∷ k 29 ∷ k 30 ∷ k 29 ∷ k 30 ∷ k 34 ∷ []
together_76 = refl

-- fork (2; @=$) { sh int z; z = 1; }
together_77 : sites_with (p.statement (p.Fork (sp 84 6 1) (t.Number (sp 86 6 7) 2 false) (t.GroupRank (sp 90 6 12)) None (p.Block (p.statement (p.Declare ((dc true (ty t.Int 0) (nm (codes "z") 95 6 24) None None) ∷ [])) (p.statement (p.Expression (t.Assign (sp 98 6 29) g.Assign (t.Variable (nm (codes "z") 97 6 27)) (t.Number (sp 99 6 31) 1 false))) p.no_statements)))) p.no_statements)
    (nn ∷ nt 0 0 true false false ∷ nn ∷ nt 2 0 true true false ∷ nn ∷ nn ∷ nn ∷ nt 2 0 true false false ∷ nn ∷ nn ∷ nn ∷ nn ∷ nt 2 10 false false false ∷ nn ∷ nt 2 10 true true false ∷ nt 2 0 true true false ∷ nt 2 0 true true false ∷ [])
    [] (sl (h.Group 1) 0 ∷ []) (rg 84 0 2 1 ∷ [])
    ≡ k 2 ∷ k 13 ∷ k 11 ∷ k 1 ∷ k 11 ∷ k 2 ∷ k 23 ∷ k 1 ∷ k 24 ∷ k 2 ∷ k 2 ∷ at 27 6 1 ∷ at 25 6 1 ∷ k 2 ∷ k 1 ∷ k 14 ∷ k 4 ∷ k 2 ∷ k 1 ∷ k 14 ∷ k 4 ∷ k 29 ∷ k 30 ∷ k 29 ∷ k 30 ∷ k 34 ∷ []
together_77 = refl

-- fork (x0; @=0; $=5) { if ($) farm ; }
together_78 : sites_with (p.statement (p.Fork (sp 84 6 1) (t.Variable (nm (codes "x0") 86 6 7)) (t.Number (sp 90 6 13) 0 false) (Some (t.Number (sp 94 6 18) 5 false)) (p.Block (p.statement (p.If (sp 97 6 23) (t.GroupRank (sp 99 6 27)) (p.Farm (sp 101 6 30) p.Empty)) p.no_statements))) p.no_statements)
    (nn ∷ nt 0 0 true false false ∷ nn ∷ nt 2 2 true true false ∷ nn ∷ nn ∷ nn ∷ nt 2 0 true true false ∷ nn ∷ nn ∷ nn ∷ nt 2 0 true true false ∷ nn ∷ nn ∷ nt 0 0 true false true ∷ nn ∷ nt 2 0 true false false ∷ nn ∷ nt 0 0 true false false ∷ [])
    [] [] []
    ≡ k 2 ∷ k 13 ∷ k 11 ∷ k 1 ∷ k 11 ∷ k 2 ∷ k 23 ∷ k 1 ∷ k 13 ∷ k 24 ∷ k 1 ∷ k 1 ∷ at 27 6 1 ∷ k 2 ∷ at 27 6 23 ∷ k 31 ∷ k 33 ∷ k 29 ∷ k 30 ∷ k 29 ∷ k 30 ∷ k 29 ∷ k 30 ∷ k 34 ∷ []
together_78 = refl

-- for (;;) ;
together_79 : sites_with (p.statement (p.For (sp 84 6 1) None None None p.Empty) p.no_statements)
    (nn ∷ nt 0 0 true false false ∷ [])
    [] [] []
    ≡ k 2 ∷ k 13 ∷ k 11 ∷ k 1 ∷ k 11 ∷ k 2 ∷ k 23 ∷ k 1 ∷ k 24 ∷ k 9 ∷ k 29 ∷ k 30 ∷ k 34 ∷ []
together_79 = refl

-- if ($) { while ($) ; fork (1; @=0) seq ; }
together_80 : sites_with (p.statement (p.If (sp 84 6 1) (t.GroupRank (sp 86 6 5)) (p.Block (p.statement (p.While (sp 89 6 10) (t.GroupRank (sp 91 6 17)) p.Empty) (p.statement (p.Fork (sp 94 6 22) (t.Number (sp 96 6 28) 1 false) (t.Number (sp 100 6 33) 0 false) None (p.Seq (sp 102 6 36) p.Empty)) p.no_statements)))) p.no_statements)
    (nn ∷ nt 0 0 true false true ∷ nn ∷ nt 2 0 true false false ∷ nn ∷ nn ∷ nt 0 0 true false true ∷ nn ∷ nt 2 0 true false false ∷ nn ∷ nn ∷ nt 0 0 true false false ∷ nn ∷ nt 2 0 true true false ∷ nn ∷ nn ∷ nn ∷ nt 2 0 true true false ∷ nn ∷ nt 0 0 true false false ∷ [])
    [] [] []
    ≡ k 2 ∷ k 13 ∷ k 11 ∷ k 1 ∷ k 11 ∷ k 2 ∷ k 23 ∷ k 2 ∷ at 27 6 1 ∷ at 27 6 10 ∷ k 2 ∷ k 28 ∷ k 30 ∷ k 1 ∷ k 24 ∷ k 1 ∷ k 2 ∷ at 27 6 22 ∷ k 32 ∷ k 33 ∷ k 29 ∷ k 30 ∷ k 29 ∷ k 30 ∷ k 29 ∷ k 30 ∷ k 34 ∷ []
together_80 = refl

-- if ($ && x0) x0 = ($ ? 1 : 2);
together_81 : sites_with (p.statement (p.If (sp 84 6 1) (t.Chain (t.GroupRank (sp 86 6 5)) (t.link (sp 87 6 7) g.AndAnd (t.Variable (nm (codes "x0") 88 6 10)) t.no_links)) (p.Expression (t.Assign (sp 91 6 17) g.Assign (t.Variable (nm (codes "x0") 90 6 14)) (t.Choose (sp 94 6 22) (t.GroupRank (sp 93 6 20)) (t.Number (sp 95 6 24) 1 false) (t.Number (sp 97 6 28) 2 false))))) p.no_statements)
    (nn ∷ nt 0 0 true false true ∷ nn ∷ nt 2 0 true false false ∷ nt 2 0 true false true ∷ nt 2 2 true true false ∷ nn ∷ nt 2 2 true true false ∷ nt 2 0 true false false ∷ nn ∷ nt 2 0 true false false ∷ nt 2 0 true false true ∷ nt 2 0 true true false ∷ nn ∷ nt 2 0 true true false ∷ [])
    [] [] []
    ≡ k 2 ∷ k 13 ∷ k 11 ∷ k 1 ∷ k 11 ∷ k 2 ∷ k 23 ∷ k 2 ∷ at 27 6 7 ∷ k 1 ∷ k 13 ∷ k 1 ∷ k 7 ∷ k 29 ∷ k 30 ∷ at 27 6 1 ∷ k 1 ∷ k 2 ∷ at 27 6 22 ∷ k 1 ∷ k 29 ∷ k 1 ∷ k 29 ∷ k 30 ∷ k 14 ∷ k 4 ∷ k 29 ∷ k 30 ∷ k 29 ∷ k 30 ∷ k 34 ∷ []
together_81 = refl
