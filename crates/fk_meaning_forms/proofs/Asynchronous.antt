-- The sites of statements in an asynchronous region.
use Rattle.std.proofs.Common.{◌≡◌, ℕ, [], ◌∷◌, ◌++◌, List, Some, None, refl, true, false}
use Rattle.std.specs.Prelude.{codes}
use Rattle.fk_syntax.specs.declared.facts.Note.{Note}
use Rattle.fk_syntax.specs.declared.facts.Kind.{Kind}
use Rattle.fk_syntax.specs.declared.place.Place.{Place}
use Rattle.fk_syntax.specs.declared.program.Mode.TheVariants as m
use Rattle.fk_syntax.specs.declared.sign.Sign.TheVariants as g
use Rattle.fk_syntax.specs.Tree as t
use Rattle.fk_syntax.specs.Program as p
use Rattle.fk_syntax.specs.Program.{ItemTree, Statements, FunctionTree}
use Rattle.fk_meaning_forms.specs.declared.tables.Home.TheVariants as h
use Rattle.fk_meaning_forms.specs.declared.tables.Slot.{Slot}
use Rattle.fk_meaning_forms.specs.declared.tables.Region.{Region}
use Rattle.fk_meaning_forms.proofs.Short.{sp, nm, ty, dc, nn, nt, kd, sl, rg, k, at, function, sites}

abbrev before : List ItemTree → List ItemTree
before more =
    (p.StructItem (nm (codes "In") 1 1 8) [])
    ∷ (p.StructItem (nm (codes "S") 9 2 8) [])
    ∷ (p.VariablesItem ((dc true (ty (t.Struct (nm (codes "S") 33 3 11)) 0) (nm (codes "st") 34 3 13) None None) ∷ []))
    ∷ (p.VariablesItem ((dc true (ty (t.Struct (nm (codes "S") 38 3 27)) 0) (nm (codes "so") 39 3 29) (Some 2) None) ∷ []))
    ∷ (p.VariablesItem ((dc true (ty t.Int 0) (nm (codes "x0") 46 3 43) None None) ∷ (dc true (ty t.Int 0) (nm (codes "ar") 48 3 47) (Some 4) None) ∷ []))
    ∷ (p.VariablesItem ((dc true (ty t.Unsigned 0) (nm (codes "x1") 55 3 66) None None) ∷ []))
    ∷ (p.VariablesItem ((dc false (ty t.Int 0) (nm (codes "f0") 58 3 74) None None) ∷ []))
    ∷ (p.FunctionItem (function m.Async (ty t.Int 0) (nm (codes "af") 61 4 5) ((dc false (ty t.Int 0) (nm (codes "a") 64 4 12) None None) ∷ []) (Some ((p.statement (p.Return (sp 67 4 17) (Some (t.Variable (nm (codes "a") 68 4 24)))) p.no_statements)))))
    ∷ more

abbrev first_notes : List Note
first_notes = nn ∷ nn ∷ nn ∷ nn ∷ nn ∷ nn ∷ nn ∷ nn ∷ nn ∷ nn ∷ nn ∷ nn ∷ nn ∷ nn ∷ nn ∷ nn ∷ nn ∷ nn ∷ nn ∷ nn ∷ nn ∷ nn ∷ nn ∷ nn ∷ nn ∷ nn ∷ nn ∷ nn ∷ nn ∷ nn ∷ nn ∷ nn ∷ nn ∷ nn ∷ nt 0 0 false false false ∷ nn ∷ nn ∷ nn ∷ nn ∷ nt 1 1 false false false ∷ nn ∷ nn ∷ nn ∷ nn ∷ nn ∷ nn ∷ nt 2 2 false false false ∷ nn ∷ nt 3 3 false false false ∷ nn ∷ nn ∷ nn ∷ nn ∷ nn ∷ nn ∷ nt 4 4 false false false ∷ nn ∷ nn ∷ nt 2 5 false false false ∷ nn ∷ nn ∷ nt 0 6 false false false ∷ nn ∷ nn ∷ nt 2 7 false false false ∷ nn ∷ nn ∷ nt 0 0 false false false ∷ nt 2 7 false false false ∷ nn ∷ nn ∷ nn ∷ nt 0 8 false false false ∷ []

abbrev first_kinds : List Kind
first_kinds = kd 6 false false 0 ∷ kd 12 false true 24 ∷ kd 1 false false 0 ∷ kd 4 false true 4 ∷ kd 1 true false 0 ∷ []

abbrev first_slots : List Slot
first_slots = sl h.Global 0 ∷ sl h.Global 6 ∷ sl h.Global 18 ∷ sl h.Global 19 ∷ sl h.Global 23 ∷ sl h.FilePrivate 0 ∷ sl h.NoWord 0 ∷ sl h.Private 0 ∷ sl h.NoWord 0 ∷ []

abbrev first_regions : List Region
first_regions = []

abbrev sites_with : (body : Statements) → (notes : List Note) → (kinds : List Kind) → (slots : List Slot) → (regions : List Region) → List (ℕ × Place)
sites_with body notes kinds slots regions =
    sites (before (p.FunctionItem (function m.Async (ty t.Void 0) (nm (codes "main") 72 5 6) [] (Some body)) ∷ [])) (first_notes ++ notes) (first_kinds ++ kinds) (first_slots ++ slots) (first_regions ++ regions)

-- x0 = 1 + 2 * 3;
alone_1 : sites_with (p.statement (p.Expression (t.Assign (sp 78 6 4) g.Assign (t.Variable (nm (codes "x0") 77 6 1)) (t.Chain (t.Number (sp 79 6 6) 1 false) (t.link (sp 80 6 8) g.Plus (t.Chain (t.Number (sp 81 6 10) 2 false) (t.link (sp 82 6 12) g.Star (t.Number (sp 83 6 14) 3 false) t.no_links)) t.no_links)))) p.no_statements)
    (nn ∷ nn ∷ nn ∷ nn ∷ nt 2 2 false true false ∷ nt 2 0 false true false ∷ nt 2 0 false true false ∷ nt 2 0 false true false ∷ nt 2 0 false true false ∷ nt 2 0 false true false ∷ nt 2 0 false true false ∷ [])
    [] [] []
    ≡ k 2 ∷ k 11 ∷ k 1 ∷ k 11 ∷ k 1 ∷ k 1 ∷ k 1 ∷ k 1 ∷ k 7 ∷ k 7 ∷ k 14 ∷ k 4 ∷ k 34 ∷ []
alone_1 = refl

-- int p = 4; p += x0;
alone_2 : sites_with (p.statement (p.Declare ((dc false (ty t.Int 0) (nm (codes "p") 78 6 5) None (Some (t.Number (sp 80 6 9) 4 false))) ∷ [])) (p.statement (p.Expression (t.Assign (sp 83 6 14) g.PlusAssign (t.Variable (nm (codes "p") 82 6 12)) (t.Variable (nm (codes "x0") 84 6 17)))) p.no_statements))
    (nn ∷ nn ∷ nn ∷ nn ∷ nn ∷ nt 2 9 false false false ∷ nn ∷ nt 2 0 false true false ∷ nn ∷ nt 2 9 false false false ∷ nt 2 0 false false false ∷ nt 2 2 false true false ∷ [])
    [] (sl h.Private 0 ∷ []) []
    ≡ k 2 ∷ k 11 ∷ k 1 ∷ k 11 ∷ k 1 ∷ k 3 ∷ k 4 ∷ k 2 ∷ k 1 ∷ k 13 ∷ k 7 ∷ k 3 ∷ k 4 ∷ k 34 ∷ []
alone_2 = refl

-- int p; p = p - 1; p -= x0; p++; --p;
alone_3 : sites_with (p.statement (p.Declare ((dc false (ty t.Int 0) (nm (codes "p") 78 6 5) None None) ∷ [])) (p.statement (p.Expression (t.Assign (sp 81 6 10) g.Assign (t.Variable (nm (codes "p") 80 6 8)) (t.Chain (t.Variable (nm (codes "p") 82 6 12)) (t.link (sp 83 6 14) g.Minus (t.Number (sp 84 6 16) 1 false) t.no_links)))) (p.statement (p.Expression (t.Assign (sp 87 6 21) g.MinusAssign (t.Variable (nm (codes "p") 86 6 19)) (t.Variable (nm (codes "x0") 88 6 24)))) (p.statement (p.Expression (t.Postfix (t.Variable (nm (codes "p") 90 6 28)) (t.up (sp 91 6 29) t.no_suffixes))) (p.statement (p.Expression (t.Prefix (sp 93 6 33) g.Decrement (t.Variable (nm (codes "p") 94 6 35)))) p.no_statements)))))
    (nn ∷ nn ∷ nn ∷ nn ∷ nn ∷ nt 2 9 false false false ∷ nn ∷ nt 2 9 false false false ∷ nt 2 0 false false false ∷ nt 2 9 false false false ∷ nt 2 0 false false false ∷ nt 2 0 false true false ∷ nn ∷ nt 2 9 false false false ∷ nt 2 0 false false false ∷ nt 2 2 false true false ∷ nn ∷ nt 2 9 false false false ∷ nt 2 0 false false false ∷ nn ∷ nt 2 0 false false false ∷ nt 2 9 false false false ∷ [])
    [] (sl h.Private 0 ∷ []) []
    ≡ k 2 ∷ k 11 ∷ k 1 ∷ k 11 ∷ k 1 ∷ k 3 ∷ k 4 ∷ k 2 ∷ k 1 ∷ k 7 ∷ k 3 ∷ k 4 ∷ k 2 ∷ k 1 ∷ k 13 ∷ k 7 ∷ k 3 ∷ k 4 ∷ k 2 ∷ k 1 ∷ k 7 ∷ k 3 ∷ k 1 ∷ k 7 ∷ k 4 ∷ k 2 ∷ k 1 ∷ k 7 ∷ k 3 ∷ k 4 ∷ k 34 ∷ []
alone_3 = refl

-- x0 += 2;
alone_4 : sites_with (p.statement (p.Expression (t.Assign (sp 78 6 4) g.PlusAssign (t.Variable (nm (codes "x0") 77 6 1)) (t.Number (sp 79 6 7) 2 false))) p.no_statements)
    (nn ∷ nn ∷ nn ∷ nn ∷ nt 2 2 false true false ∷ nt 2 0 false true false ∷ nt 2 0 false true false ∷ [])
    [] [] []
    ≡ k 2 ∷ k 11 ∷ k 1 ∷ k 11 ∷ k 1 ∷ k 5 ∷ k 13 ∷ k 1 ∷ k 7 ∷ k 14 ∷ k 4 ∷ k 34 ∷ []
alone_4 = refl

-- x0++;
alone_5 : sites_with (p.statement (p.Expression (t.Postfix (t.Variable (nm (codes "x0") 77 6 1)) (t.up (sp 78 6 3) t.no_suffixes))) p.no_statements)
    (nn ∷ nn ∷ nn ∷ nn ∷ nt 2 2 false true false ∷ nt 2 0 false true false ∷ [])
    [] [] []
    ≡ k 2 ∷ k 11 ∷ k 1 ∷ k 11 ∷ k 1 ∷ k 5 ∷ k 13 ∷ k 1 ∷ k 7 ∷ k 14 ∷ k 1 ∷ k 7 ∷ k 4 ∷ k 34 ∷ []
alone_5 = refl

-- --x0;
alone_6 : sites_with (p.statement (p.Expression (t.Prefix (sp 77 6 1) g.Decrement (t.Variable (nm (codes "x0") 78 6 3)))) p.no_statements)
    (nn ∷ nn ∷ nn ∷ nn ∷ nt 2 0 false true false ∷ nt 2 2 false true false ∷ [])
    [] [] []
    ≡ k 2 ∷ k 11 ∷ k 1 ∷ k 11 ∷ k 1 ∷ k 5 ∷ k 13 ∷ k 1 ∷ k 7 ∷ k 14 ∷ k 4 ∷ k 34 ∷ []
alone_6 = refl

-- x1 = x1 / 3u % 2;
alone_7 : sites_with (p.statement (p.Expression (t.Assign (sp 78 6 4) g.Assign (t.Variable (nm (codes "x1") 77 6 1)) (t.Chain (t.Variable (nm (codes "x1") 79 6 6)) (t.link (sp 80 6 9) g.Slash (t.Number (sp 81 6 11) 3 true) (t.link (sp 82 6 14) g.Percent (t.Number (sp 83 6 16) 2 false) t.no_links))))) p.no_statements)
    (nn ∷ nn ∷ nn ∷ nn ∷ nt 4 4 false true false ∷ nt 4 0 false true false ∷ nt 4 4 false true false ∷ nt 4 0 false true false ∷ nt 4 0 false true false ∷ nt 4 0 false true false ∷ nt 2 0 false true false ∷ [])
    [] [] []
    ≡ k 2 ∷ k 11 ∷ k 1 ∷ k 11 ∷ k 1 ∷ k 1 ∷ k 13 ∷ k 1 ∷ k 7 ∷ k 1 ∷ k 7 ∷ k 14 ∷ k 4 ∷ k 34 ∷ []
alone_7 = refl

-- int *q = &x0; *q = 1;
alone_8 : sites_with (p.statement (p.Declare ((dc false (ty t.Int 1) (nm (codes "q") 79 6 6) None (Some (t.Prefix (sp 81 6 10) g.Ampersand (t.Variable (nm (codes "x0") 82 6 11))))) ∷ [])) (p.statement (p.Expression (t.Assign (sp 86 6 18) g.Assign (t.Prefix (sp 84 6 15) g.Star (t.Variable (nm (codes "q") 85 6 16))) (t.Number (sp 87 6 20) 1 false))) p.no_statements))
    (nn ∷ nn ∷ nn ∷ nn ∷ nn ∷ nn ∷ nt 5 9 false false false ∷ nn ∷ nt 5 0 false true false ∷ nt 2 2 false true false ∷ nn ∷ nt 2 0 false false false ∷ nt 5 9 false false false ∷ nt 2 0 false true false ∷ nt 2 0 false true false ∷ [])
    (kd 1 true false 4 ∷ []) (sl h.Private 0 ∷ []) []
    ≡ k 2 ∷ k 11 ∷ k 1 ∷ k 11 ∷ k 1 ∷ k 3 ∷ k 4 ∷ k 2 ∷ at 12 6 15 ∷ k 1 ∷ k 14 ∷ k 4 ∷ k 34 ∷ []
alone_8 = refl

-- int *q = ar; q += 2; q -= 1; q++; q--;
alone_9 : sites_with (p.statement (p.Declare ((dc false (ty t.Int 1) (nm (codes "q") 79 6 6) None (Some (t.Variable (nm (codes "ar") 81 6 10)))) ∷ [])) (p.statement (p.Expression (t.Assign (sp 84 6 16) g.PlusAssign (t.Variable (nm (codes "q") 83 6 14)) (t.Number (sp 85 6 19) 2 false))) (p.statement (p.Expression (t.Assign (sp 88 6 24) g.MinusAssign (t.Variable (nm (codes "q") 87 6 22)) (t.Number (sp 89 6 27) 1 false))) (p.statement (p.Expression (t.Postfix (t.Variable (nm (codes "q") 91 6 30)) (t.up (sp 92 6 31) t.no_suffixes))) (p.statement (p.Expression (t.Postfix (t.Variable (nm (codes "q") 94 6 35)) (t.down (sp 95 6 36) t.no_suffixes))) p.no_statements)))))
    (nn ∷ nn ∷ nn ∷ nn ∷ nn ∷ nn ∷ nt 5 9 false false false ∷ nn ∷ nt 3 3 false true false ∷ nn ∷ nt 5 9 false false false ∷ nt 5 0 false false false ∷ nt 2 0 false true false ∷ nn ∷ nt 5 9 false false false ∷ nt 5 0 false false false ∷ nt 2 0 false true false ∷ nn ∷ nt 5 9 false false false ∷ nt 5 0 false false false ∷ nn ∷ nt 5 9 false false false ∷ nt 5 0 false false false ∷ [])
    (kd 1 true false 4 ∷ []) (sl h.Private 0 ∷ []) []
    ≡ k 2 ∷ k 11 ∷ k 1 ∷ k 11 ∷ k 1 ∷ k 3 ∷ k 4 ∷ k 2 ∷ k 1 ∷ k 8 ∷ k 3 ∷ k 4 ∷ k 2 ∷ k 1 ∷ k 6 ∷ k 8 ∷ k 3 ∷ k 4 ∷ k 2 ∷ k 1 ∷ k 8 ∷ k 3 ∷ k 1 ∷ k 7 ∷ k 4 ∷ k 2 ∷ k 1 ∷ k 6 ∷ k 8 ∷ k 3 ∷ k 1 ∷ k 7 ∷ k 4 ∷ k 34 ∷ []
alone_9 = refl

-- int *q = ar; x0 = q[1];
alone_10 : sites_with (p.statement (p.Declare ((dc false (ty t.Int 1) (nm (codes "q") 79 6 6) None (Some (t.Variable (nm (codes "ar") 81 6 10)))) ∷ [])) (p.statement (p.Expression (t.Assign (sp 84 6 17) g.Assign (t.Variable (nm (codes "x0") 83 6 14)) (t.Postfix (t.Variable (nm (codes "q") 85 6 19)) (t.index (sp 86 6 20) (t.Number (sp 87 6 21) 1 false) t.no_suffixes)))) p.no_statements))
    (nn ∷ nn ∷ nn ∷ nn ∷ nn ∷ nn ∷ nt 5 9 false false false ∷ nn ∷ nt 3 3 false true false ∷ nn ∷ nt 2 2 false true false ∷ nt 2 0 false false false ∷ nt 5 9 false false false ∷ nt 2 0 false false false ∷ nt 2 0 false true false ∷ [])
    (kd 1 true false 4 ∷ []) (sl h.Private 0 ∷ []) []
    ≡ k 2 ∷ k 11 ∷ k 1 ∷ k 11 ∷ k 1 ∷ k 3 ∷ k 4 ∷ k 1 ∷ k 2 ∷ k 1 ∷ k 8 ∷ at 12 6 20 ∷ k 13 ∷ k 14 ∷ k 4 ∷ k 34 ∷ []
alone_10 = refl

-- ar[2] = ar[x0];
alone_11 : sites_with (p.statement (p.Expression (t.Assign (sp 81 6 7) g.Assign (t.Postfix (t.Variable (nm (codes "ar") 77 6 1)) (t.index (sp 78 6 3) (t.Number (sp 79 6 4) 2 false) t.no_suffixes)) (t.Postfix (t.Variable (nm (codes "ar") 82 6 9)) (t.index (sp 83 6 11) (t.Variable (nm (codes "x0") 84 6 12)) t.no_suffixes)))) p.no_statements)
    (nn ∷ nn ∷ nn ∷ nn ∷ nt 3 3 false true false ∷ nt 2 0 false true false ∷ nt 2 0 false true false ∷ nn ∷ nt 2 0 false true false ∷ nt 3 3 false true false ∷ nt 2 0 false true false ∷ nt 2 2 false true false ∷ [])
    [] [] []
    ≡ k 2 ∷ k 11 ∷ k 1 ∷ k 11 ∷ k 1 ∷ k 1 ∷ k 8 ∷ at 12 6 3 ∷ k 1 ∷ k 1 ∷ k 13 ∷ k 8 ∷ at 12 6 11 ∷ k 13 ∷ k 14 ∷ k 4 ∷ k 34 ∷ []
alone_11 = refl

-- ar[1] += 5;
alone_12 : sites_with (p.statement (p.Expression (t.Assign (sp 81 6 7) g.PlusAssign (t.Postfix (t.Variable (nm (codes "ar") 77 6 1)) (t.index (sp 78 6 3) (t.Number (sp 79 6 4) 1 false) t.no_suffixes)) (t.Number (sp 82 6 10) 5 false))) p.no_statements)
    (nn ∷ nn ∷ nn ∷ nn ∷ nt 3 3 false true false ∷ nt 2 0 false true false ∷ nt 2 0 false true false ∷ nn ∷ nt 2 0 false true false ∷ nt 2 0 false true false ∷ [])
    [] [] []
    ≡ k 2 ∷ k 11 ∷ k 1 ∷ k 11 ∷ k 1 ∷ k 1 ∷ k 8 ∷ at 12 6 3 ∷ k 5 ∷ k 13 ∷ k 1 ∷ k 7 ∷ k 14 ∷ k 4 ∷ k 34 ∷ []
alone_12 = refl

-- ar[1]++;
alone_13 : sites_with (p.statement (p.Expression (t.Postfix (t.Variable (nm (codes "ar") 77 6 1)) (t.index (sp 78 6 3) (t.Number (sp 79 6 4) 1 false) (t.up (sp 81 6 6) t.no_suffixes)))) p.no_statements)
    (nn ∷ nn ∷ nn ∷ nn ∷ nt 3 3 false true false ∷ nt 2 0 false true false ∷ nt 2 0 false true false ∷ nn ∷ nt 2 0 false true false ∷ [])
    [] [] []
    ≡ k 2 ∷ k 11 ∷ k 1 ∷ k 11 ∷ k 1 ∷ k 1 ∷ k 8 ∷ at 12 6 3 ∷ k 5 ∷ k 13 ∷ k 1 ∷ k 7 ∷ k 14 ∷ k 1 ∷ k 7 ∷ k 4 ∷ k 34 ∷ []
alone_13 = refl

-- *ar = 7;
alone_14 : sites_with (p.statement (p.Expression (t.Assign (sp 79 6 5) g.Assign (t.Prefix (sp 77 6 1) g.Star (t.Variable (nm (codes "ar") 78 6 2))) (t.Number (sp 80 6 7) 7 false))) p.no_statements)
    (nn ∷ nn ∷ nn ∷ nn ∷ nt 2 0 false true false ∷ nt 3 3 false true false ∷ nt 2 0 false true false ∷ nt 2 0 false true false ∷ [])
    [] [] []
    ≡ k 2 ∷ k 11 ∷ k 1 ∷ k 11 ∷ k 1 ∷ at 12 6 1 ∷ k 1 ∷ k 14 ∷ k 4 ∷ k 34 ∷ []
alone_14 = refl

-- x0 = *(ar + 1);
alone_15 : sites_with (p.statement (p.Expression (t.Assign (sp 78 6 4) g.Assign (t.Variable (nm (codes "x0") 77 6 1)) (t.Prefix (sp 79 6 6) g.Star (t.Chain (t.Variable (nm (codes "ar") 81 6 8)) (t.link (sp 82 6 11) g.Plus (t.Number (sp 83 6 13) 1 false) t.no_links))))) p.no_statements)
    (nn ∷ nn ∷ nn ∷ nn ∷ nt 2 2 false true false ∷ nt 2 0 false true false ∷ nt 2 0 false true false ∷ nn ∷ nt 3 3 false true false ∷ nt 5 0 false true false ∷ nt 2 0 false true false ∷ [])
    (kd 1 true false 4 ∷ []) [] []
    ≡ k 2 ∷ k 11 ∷ k 1 ∷ k 11 ∷ k 1 ∷ k 1 ∷ k 1 ∷ k 8 ∷ at 12 6 6 ∷ k 13 ∷ k 14 ∷ k 4 ∷ k 34 ∷ []
alone_15 = refl

-- st.a = 1;
alone_16 : sites_with (p.statement (p.Expression (t.Assign (sp 80 6 6) g.Assign (t.Postfix (t.Variable (nm (codes "st") 77 6 1)) (t.dot (sp 78 6 3) (nm (codes "a") 79 6 4) t.no_suffixes)) (t.Number (sp 81 6 8) 1 false))) p.no_statements)
    (nn ∷ nn ∷ nn ∷ nn ∷ nt 0 0 false true false ∷ nt 2 0 false true false ∷ nt 0 0 false false false ∷ nt 2 0 false true false ∷ nt 2 0 false true false ∷ [])
    [] [] []
    ≡ k 2 ∷ k 11 ∷ k 1 ∷ k 11 ∷ k 1 ∷ k 1 ∷ k 7 ∷ k 1 ∷ k 14 ∷ k 4 ∷ k 34 ∷ []
alone_16 = refl

-- st.in.x = st.v[2];
alone_17 : sites_with (p.statement (p.Expression (t.Assign (sp 82 6 9) g.Assign (t.Postfix (t.Variable (nm (codes "st") 77 6 1)) (t.dot (sp 78 6 3) (nm (codes "in") 79 6 4) (t.dot (sp 80 6 6) (nm (codes "x") 81 6 7) t.no_suffixes))) (t.Postfix (t.Variable (nm (codes "st") 83 6 11)) (t.dot (sp 84 6 13) (nm (codes "v") 85 6 14) (t.index (sp 86 6 15) (t.Number (sp 87 6 16) 2 false) t.no_suffixes))))) p.no_statements)
    (nn ∷ nn ∷ nn ∷ nn ∷ nt 0 0 false true false ∷ nt 5 0 false true false ∷ nt 0 1 false false false ∷ nt 2 0 false true false ∷ nt 0 0 false false false ∷ nt 2 0 false true false ∷ nt 0 0 false true false ∷ nt 6 0 false true false ∷ nt 0 2 false false false ∷ nt 2 0 false true false ∷ nt 2 0 false true false ∷ [])
    (kd 1 false false 0 ∷ kd 3 false true 4 ∷ []) [] []
    ≡ k 2 ∷ k 11 ∷ k 1 ∷ k 11 ∷ k 1 ∷ k 1 ∷ k 7 ∷ k 1 ∷ k 7 ∷ k 1 ∷ k 1 ∷ k 7 ∷ k 1 ∷ k 8 ∷ at 12 6 15 ∷ k 13 ∷ k 14 ∷ k 4 ∷ k 34 ∷ []
alone_17 = refl

-- so[1].v[x0] = 3;
alone_18 : sites_with (p.statement (p.Expression (t.Assign (sp 86 6 13) g.Assign (t.Postfix (t.Variable (nm (codes "so") 77 6 1)) (t.index (sp 78 6 3) (t.Number (sp 79 6 4) 1 false) (t.dot (sp 81 6 6) (nm (codes "v") 82 6 7) (t.index (sp 83 6 8) (t.Variable (nm (codes "x0") 84 6 9)) t.no_suffixes)))) (t.Number (sp 87 6 15) 3 false))) p.no_statements)
    (nn ∷ nn ∷ nn ∷ nn ∷ nt 1 1 false true false ∷ nt 0 0 false true false ∷ nt 2 0 false true false ∷ nn ∷ nt 5 0 false true false ∷ nt 0 2 false false false ∷ nt 2 0 false true false ∷ nt 2 2 false true false ∷ nn ∷ nt 2 0 false true false ∷ nt 2 0 false true false ∷ [])
    (kd 3 false true 4 ∷ []) [] []
    ≡ k 2 ∷ k 11 ∷ k 1 ∷ k 11 ∷ k 1 ∷ k 1 ∷ k 8 ∷ k 1 ∷ k 7 ∷ k 1 ∷ k 13 ∷ k 8 ∷ at 12 6 8 ∷ k 1 ∷ k 14 ∷ k 4 ∷ k 34 ∷ []
alone_18 = refl

-- so[x0].in.x++;
alone_19 : sites_with (p.statement (p.Expression (t.Postfix (t.Variable (nm (codes "so") 77 6 1)) (t.index (sp 78 6 3) (t.Variable (nm (codes "x0") 79 6 4)) (t.dot (sp 81 6 7) (nm (codes "in") 82 6 8) (t.dot (sp 83 6 10) (nm (codes "x") 84 6 11) (t.up (sp 85 6 12) t.no_suffixes)))))) p.no_statements)
    (nn ∷ nn ∷ nn ∷ nn ∷ nt 1 1 false true false ∷ nt 0 0 false true false ∷ nt 2 2 false true false ∷ nn ∷ nt 5 0 false true false ∷ nt 0 1 false false false ∷ nt 2 0 false true false ∷ nt 0 0 false false false ∷ nt 2 0 false true false ∷ [])
    (kd 1 false false 0 ∷ []) [] []
    ≡ k 2 ∷ k 11 ∷ k 1 ∷ k 11 ∷ k 1 ∷ k 1 ∷ k 13 ∷ k 8 ∷ k 1 ∷ k 7 ∷ k 1 ∷ k 7 ∷ at 12 6 10 ∷ k 5 ∷ k 13 ∷ k 1 ∷ k 7 ∷ k 14 ∷ k 1 ∷ k 7 ∷ k 4 ∷ k 34 ∷ []
alone_19 = refl

-- struct S *s = &st; s->a = s->in.x;
alone_20 : sites_with (p.statement (p.Declare ((dc false (ty (t.Struct (nm (codes "S") 78 6 8)) 1) (nm (codes "s") 80 6 11) None (Some (t.Prefix (sp 82 6 15) g.Ampersand (t.Variable (nm (codes "st") 83 6 16))))) ∷ [])) (p.statement (p.Expression (t.Assign (sp 88 6 25) g.Assign (t.Postfix (t.Variable (nm (codes "s") 85 6 20)) (t.arrow (sp 86 6 21) (nm (codes "a") 87 6 23) t.no_suffixes)) (t.Postfix (t.Variable (nm (codes "s") 89 6 27)) (t.arrow (sp 90 6 28) (nm (codes "in") 91 6 30) (t.dot (sp 92 6 32) (nm (codes "x") 93 6 33) t.no_suffixes))))) p.no_statements))
    (nn ∷ nn ∷ nn ∷ nn ∷ nn ∷ nn ∷ nn ∷ nt 5 9 false false false ∷ nn ∷ nt 5 0 false true false ∷ nt 0 0 false true false ∷ nn ∷ nt 5 9 false false false ∷ nt 2 0 false false false ∷ nt 0 0 false false false ∷ nt 2 0 false false false ∷ nt 5 9 false false false ∷ nt 6 0 false false false ∷ nt 0 1 false false false ∷ nt 2 0 false false false ∷ nt 0 0 false false false ∷ [])
    (kd 1 true false 24 ∷ kd 1 false false 0 ∷ []) (sl h.Private 0 ∷ []) []
    ≡ k 2 ∷ k 11 ∷ k 1 ∷ k 11 ∷ k 1 ∷ k 3 ∷ k 4 ∷ k 2 ∷ k 1 ∷ k 7 ∷ at 12 6 21 ∷ k 2 ∷ k 1 ∷ k 7 ∷ k 1 ∷ k 7 ∷ at 12 6 32 ∷ k 13 ∷ k 14 ∷ k 4 ∷ k 34 ∷ []
alone_20 = refl

-- struct S *s = so; s->next = s + 1; s->next->v[1]++;
alone_21 : sites_with (p.statement (p.Declare ((dc false (ty (t.Struct (nm (codes "S") 78 6 8)) 1) (nm (codes "s") 80 6 11) None (Some (t.Variable (nm (codes "so") 82 6 15)))) ∷ [])) (p.statement (p.Expression (t.Assign (sp 87 6 27) g.Assign (t.Postfix (t.Variable (nm (codes "s") 84 6 19)) (t.arrow (sp 85 6 20) (nm (codes "next") 86 6 22) t.no_suffixes)) (t.Chain (t.Variable (nm (codes "s") 88 6 29)) (t.link (sp 89 6 31) g.Plus (t.Number (sp 90 6 33) 1 false) t.no_links)))) (p.statement (p.Expression (t.Postfix (t.Variable (nm (codes "s") 92 6 36)) (t.arrow (sp 93 6 37) (nm (codes "next") 94 6 39) (t.arrow (sp 95 6 43) (nm (codes "v") 96 6 45) (t.index (sp 97 6 46) (t.Number (sp 98 6 47) 1 false) (t.up (sp 100 6 49) t.no_suffixes)))))) p.no_statements)))
    (nn ∷ nn ∷ nn ∷ nn ∷ nn ∷ nn ∷ nn ∷ nt 5 9 false false false ∷ nn ∷ nt 1 1 false true false ∷ nn ∷ nt 5 9 false false false ∷ nt 5 0 false false false ∷ nt 0 5 false false false ∷ nt 5 0 false false false ∷ nt 5 9 false false false ∷ nt 5 0 false false false ∷ nt 2 0 false true false ∷ nn ∷ nt 5 9 false false false ∷ nt 5 0 false false false ∷ nt 0 5 false false false ∷ nt 6 0 false false false ∷ nt 0 2 false false false ∷ nt 2 0 false false false ∷ nt 2 0 false true false ∷ nn ∷ nt 2 0 false false false ∷ [])
    (kd 1 true false 24 ∷ kd 3 false true 4 ∷ []) (sl h.Private 0 ∷ []) []
    ≡ k 2 ∷ k 11 ∷ k 1 ∷ k 11 ∷ k 1 ∷ k 3 ∷ k 4 ∷ k 2 ∷ k 1 ∷ k 7 ∷ at 12 6 20 ∷ k 2 ∷ k 1 ∷ k 8 ∷ k 14 ∷ k 4 ∷ k 2 ∷ k 1 ∷ k 7 ∷ at 12 6 37 ∷ k 13 ∷ k 1 ∷ k 7 ∷ k 1 ∷ k 8 ∷ at 12 6 46 ∷ k 5 ∷ k 13 ∷ k 1 ∷ k 7 ∷ k 14 ∷ k 1 ∷ k 7 ∷ k 4 ∷ k 34 ∷ []
alone_21 = refl

-- int *q = st.v; q = so[1].v;
alone_22 : sites_with (p.statement (p.Declare ((dc false (ty t.Int 1) (nm (codes "q") 79 6 6) None (Some (t.Postfix (t.Variable (nm (codes "st") 81 6 10)) (t.dot (sp 82 6 12) (nm (codes "v") 83 6 13) t.no_suffixes)))) ∷ [])) (p.statement (p.Expression (t.Assign (sp 86 6 18) g.Assign (t.Variable (nm (codes "q") 85 6 16)) (t.Postfix (t.Variable (nm (codes "so") 87 6 20)) (t.index (sp 88 6 22) (t.Number (sp 89 6 23) 1 false) (t.dot (sp 91 6 25) (nm (codes "v") 92 6 26) t.no_suffixes))))) p.no_statements))
    (nn ∷ nn ∷ nn ∷ nn ∷ nn ∷ nn ∷ nt 5 9 false false false ∷ nn ∷ nt 0 0 false true false ∷ nt 6 0 false true false ∷ nt 0 2 false false false ∷ nn ∷ nt 5 9 false false false ∷ nt 5 0 false true false ∷ nt 1 1 false true false ∷ nt 0 0 false true false ∷ nt 2 0 false true false ∷ nn ∷ nt 6 0 false true false ∷ nt 0 2 false false false ∷ [])
    (kd 1 true false 4 ∷ kd 3 false true 4 ∷ []) (sl h.Private 0 ∷ []) []
    ≡ k 2 ∷ k 11 ∷ k 1 ∷ k 11 ∷ k 1 ∷ k 1 ∷ k 7 ∷ k 3 ∷ k 4 ∷ k 1 ∷ k 1 ∷ k 8 ∷ k 1 ∷ k 7 ∷ k 3 ∷ k 4 ∷ k 34 ∷ []
alone_22 = refl

-- int *q = &st.a; q = &so[1].in.x; q = &*q; q = &q[3];
alone_23 : sites_with (p.statement (p.Declare ((dc false (ty t.Int 1) (nm (codes "q") 79 6 6) None (Some (t.Prefix (sp 81 6 10) g.Ampersand (t.Postfix (t.Variable (nm (codes "st") 82 6 11)) (t.dot (sp 83 6 13) (nm (codes "a") 84 6 14) t.no_suffixes))))) ∷ [])) (p.statement (p.Expression (t.Assign (sp 87 6 19) g.Assign (t.Variable (nm (codes "q") 86 6 17)) (t.Prefix (sp 88 6 21) g.Ampersand (t.Postfix (t.Variable (nm (codes "so") 89 6 22)) (t.index (sp 90 6 24) (t.Number (sp 91 6 25) 1 false) (t.dot (sp 93 6 27) (nm (codes "in") 94 6 28) (t.dot (sp 95 6 30) (nm (codes "x") 96 6 31) t.no_suffixes))))))) (p.statement (p.Expression (t.Assign (sp 99 6 36) g.Assign (t.Variable (nm (codes "q") 98 6 34)) (t.Prefix (sp 100 6 38) g.Ampersand (t.Prefix (sp 101 6 39) g.Star (t.Variable (nm (codes "q") 102 6 40)))))) (p.statement (p.Expression (t.Assign (sp 105 6 45) g.Assign (t.Variable (nm (codes "q") 104 6 43)) (t.Prefix (sp 106 6 47) g.Ampersand (t.Postfix (t.Variable (nm (codes "q") 107 6 48)) (t.index (sp 108 6 49) (t.Number (sp 109 6 50) 3 false) t.no_suffixes))))) p.no_statements))))
    (nn ∷ nn ∷ nn ∷ nn ∷ nn ∷ nn ∷ nt 5 9 false false false ∷ nn ∷ nt 5 0 false true false ∷ nt 0 0 false true false ∷ nt 2 0 false true false ∷ nt 0 0 false false false ∷ nn ∷ nt 5 9 false false false ∷ nt 5 0 false true false ∷ nt 5 0 false true false ∷ nt 1 1 false true false ∷ nt 0 0 false true false ∷ nt 2 0 false true false ∷ nn ∷ nt 6 0 false true false ∷ nt 0 1 false false false ∷ nt 2 0 false true false ∷ nt 0 0 false false false ∷ nn ∷ nt 5 9 false false false ∷ nt 5 0 false false false ∷ nt 5 0 false false false ∷ nt 2 0 false false false ∷ nt 5 9 false false false ∷ nn ∷ nt 5 9 false false false ∷ nt 5 0 false false false ∷ nt 5 0 false false false ∷ nt 5 9 false false false ∷ nt 2 0 false false false ∷ nt 2 0 false true false ∷ [])
    (kd 1 true false 4 ∷ kd 1 false false 0 ∷ []) (sl h.Private 0 ∷ []) []
    ≡ k 2 ∷ k 11 ∷ k 1 ∷ k 11 ∷ k 1 ∷ k 1 ∷ k 7 ∷ k 3 ∷ k 4 ∷ k 1 ∷ k 1 ∷ k 8 ∷ k 1 ∷ k 7 ∷ k 1 ∷ k 7 ∷ at 12 6 30 ∷ k 3 ∷ k 4 ∷ k 2 ∷ at 12 6 39 ∷ k 3 ∷ k 4 ∷ k 2 ∷ k 1 ∷ k 8 ∷ at 12 6 49 ∷ k 3 ∷ k 4 ∷ k 34 ∷ []
alone_23 = refl

-- x0 = -x0; x0 = ~x0; x0 = !x0; x0 = +x0; x0 = (int)x1;
alone_24 : sites_with (p.statement (p.Expression (t.Assign (sp 78 6 4) g.Assign (t.Variable (nm (codes "x0") 77 6 1)) (t.Prefix (sp 79 6 6) g.Minus (t.Variable (nm (codes "x0") 80 6 7))))) (p.statement (p.Expression (t.Assign (sp 83 6 14) g.Assign (t.Variable (nm (codes "x0") 82 6 11)) (t.Prefix (sp 84 6 16) g.Tilde (t.Variable (nm (codes "x0") 85 6 17))))) (p.statement (p.Expression (t.Assign (sp 88 6 24) g.Assign (t.Variable (nm (codes "x0") 87 6 21)) (t.Prefix (sp 89 6 26) g.Exclamation (t.Variable (nm (codes "x0") 90 6 27))))) (p.statement (p.Expression (t.Assign (sp 93 6 34) g.Assign (t.Variable (nm (codes "x0") 92 6 31)) (t.Prefix (sp 94 6 36) g.Plus (t.Variable (nm (codes "x0") 95 6 37))))) (p.statement (p.Expression (t.Assign (sp 98 6 44) g.Assign (t.Variable (nm (codes "x0") 97 6 41)) (t.Cast (sp 99 6 46) (ty t.Int 0) (t.Variable (nm (codes "x1") 102 6 51))))) p.no_statements)))))
    (nn ∷ nn ∷ nn ∷ nn ∷ nt 2 2 false true false ∷ nt 2 0 false true false ∷ nt 2 0 false true false ∷ nt 2 2 false true false ∷ nn ∷ nt 2 2 false true false ∷ nt 2 0 false true false ∷ nt 2 0 false true false ∷ nt 2 2 false true false ∷ nn ∷ nt 2 2 false true false ∷ nt 2 0 false true false ∷ nt 2 0 false true false ∷ nt 2 2 false true false ∷ nn ∷ nt 2 2 false true false ∷ nt 2 0 false true false ∷ nt 2 0 false true false ∷ nt 2 2 false true false ∷ nn ∷ nt 2 2 false true false ∷ nt 2 0 false true false ∷ nt 2 0 false true false ∷ nn ∷ nn ∷ nt 4 4 false true false ∷ [])
    [] [] []
    ≡ k 2 ∷ k 11 ∷ k 1 ∷ k 11 ∷ k 1 ∷ k 1 ∷ k 13 ∷ k 6 ∷ k 14 ∷ k 4 ∷ k 1 ∷ k 1 ∷ k 13 ∷ k 6 ∷ k 14 ∷ k 4 ∷ k 1 ∷ k 1 ∷ k 13 ∷ k 6 ∷ k 14 ∷ k 4 ∷ k 1 ∷ k 1 ∷ k 13 ∷ k 14 ∷ k 4 ∷ k 1 ∷ k 1 ∷ k 13 ∷ k 14 ∷ k 4 ∷ k 34 ∷ []
alone_24 = refl

-- x0 = 1, x0 = 2;
alone_25 : sites_with (p.statement (p.Expression (t.Chain (t.Assign (sp 78 6 4) g.Assign (t.Variable (nm (codes "x0") 77 6 1)) (t.Number (sp 79 6 6) 1 false)) (t.link (sp 80 6 7) g.Comma (t.Assign (sp 82 6 12) g.Assign (t.Variable (nm (codes "x0") 81 6 9)) (t.Number (sp 83 6 14) 2 false)) t.no_links))) p.no_statements)
    (nn ∷ nn ∷ nn ∷ nn ∷ nt 2 2 false true false ∷ nt 2 0 false true false ∷ nt 2 0 false true false ∷ nt 2 0 false true false ∷ nt 2 2 false true false ∷ nt 2 0 false true false ∷ nt 2 0 false true false ∷ [])
    [] [] []
    ≡ k 2 ∷ k 11 ∷ k 1 ∷ k 11 ∷ k 1 ∷ k 1 ∷ k 14 ∷ k 4 ∷ k 1 ∷ k 1 ∷ k 14 ∷ k 4 ∷ k 34 ∷ []
alone_25 = refl

-- putint(1), x0 = 3;
alone_26 : sites_with (p.statement (p.Expression (t.Chain (t.Postfix (t.Variable (nm (codes "putint") 77 6 1)) (t.call (sp 78 6 7) (t.tree (t.Number (sp 79 6 8) 1 false) t.no_trees) t.no_suffixes)) (t.link (sp 81 6 10) g.Comma (t.Assign (sp 83 6 15) g.Assign (t.Variable (nm (codes "x0") 82 6 12)) (t.Number (sp 84 6 17) 3 false)) t.no_links))) p.no_statements)
    (nn ∷ nn ∷ nn ∷ nn ∷ nt 0 4294967295 false false false ∷ nt 5 0 false false false ∷ nt 2 0 false true false ∷ nn ∷ nt 2 0 false true false ∷ nt 2 2 false true false ∷ nt 2 0 false true false ∷ nt 2 0 false true false ∷ [])
    (kd 0 false false 0 ∷ []) [] []
    ≡ k 2 ∷ k 11 ∷ k 1 ∷ k 11 ∷ k 1 ∷ k 19 ∷ k 1 ∷ k 1 ∷ k 14 ∷ k 4 ∷ k 34 ∷ []
alone_26 = refl

-- putint(sizeof(struct S));
alone_27 : sites_with (p.statement (p.Expression (t.Postfix (t.Variable (nm (codes "putint") 77 6 1)) (t.call (sp 78 6 7) (t.tree (t.Sizeof (sp 79 6 8) (ty (t.Struct (nm (codes "S") 82 6 22)) 0)) t.no_trees) t.no_suffixes))) p.no_statements)
    (nn ∷ nn ∷ nn ∷ nn ∷ nt 0 4294967295 false false false ∷ nt 5 0 false false false ∷ nt 4 24 false true false ∷ [])
    (kd 0 false false 0 ∷ []) [] []
    ≡ k 2 ∷ k 11 ∷ k 1 ∷ k 11 ∷ k 1 ∷ k 19 ∷ k 34 ∷ []
alone_27 = refl

-- putchar('a'); puts("ab\n");
alone_28 : sites_with (p.statement (p.Expression (t.Postfix (t.Variable (nm (codes "putchar") 77 6 1)) (t.call (sp 78 6 8) (t.tree (t.Number (sp 79 6 9) 97 false) t.no_trees) t.no_suffixes))) (p.statement (p.Expression (t.Puts (sp 82 6 15) (34 ∷ 97 ∷ 98 ∷ 92 ∷ 110 ∷ 34 ∷ []))) p.no_statements))
    (nn ∷ nn ∷ nn ∷ nn ∷ nt 0 4294967295 false false false ∷ nt 5 0 false false false ∷ nt 2 0 false true false ∷ nn ∷ nn ∷ nt 5 0 false false false ∷ [])
    (kd 0 false false 0 ∷ []) [] []
    ≡ k 2 ∷ k 11 ∷ k 1 ∷ k 11 ∷ k 1 ∷ k 20 ∷ k 1 ∷ k 20 ∷ k 1 ∷ k 20 ∷ k 1 ∷ k 20 ∷ k 34 ∷ []
alone_28 = refl

-- putint(f0); f0 = 2;
alone_29 : sites_with (p.statement (p.Expression (t.Postfix (t.Variable (nm (codes "putint") 77 6 1)) (t.call (sp 78 6 7) (t.tree (t.Variable (nm (codes "f0") 79 6 8)) t.no_trees) t.no_suffixes))) (p.statement (p.Expression (t.Assign (sp 83 6 16) g.Assign (t.Variable (nm (codes "f0") 82 6 13)) (t.Number (sp 84 6 18) 2 false))) p.no_statements))
    (nn ∷ nn ∷ nn ∷ nn ∷ nt 0 4294967295 false false false ∷ nt 5 0 false false false ∷ nt 2 5 false false false ∷ nn ∷ nn ∷ nt 2 5 false false false ∷ nt 2 0 false true false ∷ nt 2 0 false true false ∷ [])
    (kd 0 false false 0 ∷ []) [] []
    ≡ k 2 ∷ k 11 ∷ k 1 ∷ k 11 ∷ k 2 ∷ k 19 ∷ k 1 ∷ k 3 ∷ k 4 ∷ k 34 ∷ []
alone_29 = refl

-- x0 = mpadd(&x0, 1) + mpmax(ar, 2) + mpand(&ar[1], 3) + mpor(&st.a, 4);
alone_30 : sites_with (p.statement (p.Expression (t.Assign (sp 78 6 4) g.Assign (t.Variable (nm (codes "x0") 77 6 1)) (t.Chain (t.Postfix (t.Variable (nm (codes "mpadd") 79 6 6)) (t.call (sp 80 6 11) (t.tree (t.Prefix (sp 81 6 12) g.Ampersand (t.Variable (nm (codes "x0") 82 6 13))) (t.tree (t.Number (sp 84 6 17) 1 false) t.no_trees)) t.no_suffixes)) (t.link (sp 86 6 20) g.Plus (t.Postfix (t.Variable (nm (codes "mpmax") 87 6 22)) (t.call (sp 88 6 27) (t.tree (t.Variable (nm (codes "ar") 89 6 28)) (t.tree (t.Number (sp 91 6 32) 2 false) t.no_trees)) t.no_suffixes)) (t.link (sp 93 6 35) g.Plus (t.Postfix (t.Variable (nm (codes "mpand") 94 6 37)) (t.call (sp 95 6 42) (t.tree (t.Prefix (sp 96 6 43) g.Ampersand (t.Postfix (t.Variable (nm (codes "ar") 97 6 44)) (t.index (sp 98 6 46) (t.Number (sp 99 6 47) 1 false) t.no_suffixes))) (t.tree (t.Number (sp 102 6 51) 3 false) t.no_trees)) t.no_suffixes)) (t.link (sp 104 6 54) g.Plus (t.Postfix (t.Variable (nm (codes "mpor") 105 6 56)) (t.call (sp 106 6 60) (t.tree (t.Prefix (sp 107 6 61) g.Ampersand (t.Postfix (t.Variable (nm (codes "st") 108 6 62)) (t.dot (sp 109 6 64) (nm (codes "a") 110 6 65) t.no_suffixes))) (t.tree (t.Number (sp 112 6 68) 4 false) t.no_trees)) t.no_suffixes)) t.no_links)))))) p.no_statements)
    (nn ∷ nn ∷ nn ∷ nn ∷ nt 2 2 false true false ∷ nt 2 0 false false false ∷ nt 0 4294967295 false false false ∷ nt 2 0 false false false ∷ nt 5 0 false true false ∷ nt 2 2 false true false ∷ nn ∷ nt 2 0 false true false ∷ nn ∷ nt 2 0 false false false ∷ nt 0 4294967295 false false false ∷ nt 2 0 false false false ∷ nt 3 3 false true false ∷ nn ∷ nt 2 0 false true false ∷ nn ∷ nt 2 0 false false false ∷ nt 0 4294967295 false false false ∷ nt 2 0 false false false ∷ nt 5 0 false true false ∷ nt 3 3 false true false ∷ nt 2 0 false true false ∷ nt 2 0 false true false ∷ nn ∷ nn ∷ nt 2 0 false true false ∷ nn ∷ nt 2 0 false false false ∷ nt 0 4294967295 false false false ∷ nt 2 0 false false false ∷ nt 5 0 false true false ∷ nt 0 0 false true false ∷ nt 2 0 false true false ∷ nt 0 0 false false false ∷ nn ∷ nt 2 0 false true false ∷ [])
    (kd 1 true false 4 ∷ []) [] []
    ≡ k 2 ∷ k 11 ∷ k 1 ∷ k 11 ∷ k 1 ∷ k 1 ∷ at 12 6 6 ∷ k 1 ∷ k 15 ∷ k 1 ∷ at 12 6 22 ∷ k 1 ∷ k 16 ∷ k 7 ∷ k 1 ∷ k 1 ∷ k 8 ∷ at 12 6 46 ∷ at 12 6 37 ∷ k 1 ∷ k 17 ∷ k 7 ∷ k 1 ∷ k 1 ∷ k 7 ∷ at 12 6 56 ∷ k 1 ∷ k 18 ∷ k 7 ∷ k 14 ∷ k 4 ∷ k 34 ∷ []
alone_30 = refl

-- int *m = malloc(8); int *s = shmalloc(8);
alone_31 : sites_with (p.statement (p.Declare ((dc false (ty t.Int 1) (nm (codes "m") 79 6 6) None (Some (t.Postfix (t.Variable (nm (codes "malloc") 81 6 10)) (t.call (sp 82 6 16) (t.tree (t.Number (sp 83 6 17) 8 false) t.no_trees) t.no_suffixes)))) ∷ [])) (p.statement (p.Declare ((dc false (ty t.Int 1) (nm (codes "s") 88 6 26) None (Some (t.Postfix (t.Variable (nm (codes "shmalloc") 90 6 30)) (t.call (sp 91 6 38) (t.tree (t.Number (sp 92 6 39) 8 false) t.no_trees) t.no_suffixes)))) ∷ [])) p.no_statements))
    (nn ∷ nn ∷ nn ∷ nn ∷ nn ∷ nn ∷ nt 5 9 false false false ∷ nn ∷ nt 0 4294967295 false false false ∷ nt 6 0 false false false ∷ nt 2 0 false true false ∷ nn ∷ nn ∷ nn ∷ nn ∷ nt 5 10 false false false ∷ nn ∷ nt 0 4294967295 false false false ∷ nt 6 0 false false false ∷ nt 2 0 false true false ∷ [])
    (kd 1 true false 4 ∷ kd 1 true false 0 ∷ []) (sl h.Private 0 ∷ sl h.Private 1 ∷ []) []
    ≡ k 2 ∷ k 11 ∷ k 1 ∷ k 11 ∷ k 1 ∷ k 10 ∷ k 3 ∷ k 4 ∷ k 1 ∷ k 21 ∷ k 3 ∷ k 4 ∷ k 34 ∷ []
alone_31 = refl

-- x0 = groupsize() + __PROC_NR__ + __STARTED_PROCS__ + @ + $;
alone_32 : sites_with (p.statement (p.Expression (t.Assign (sp 78 6 4) g.Assign (t.Variable (nm (codes "x0") 77 6 1)) (t.Chain (t.Postfix (t.Variable (nm (codes "groupsize") 79 6 6)) (t.call (sp 80 6 15) t.no_trees t.no_suffixes)) (t.link (sp 82 6 18) g.Plus (t.Variable (nm (codes "__PROC_NR__") 83 6 20)) (t.link (sp 84 6 32) g.Plus (t.Variable (nm (codes "__STARTED_PROCS__") 85 6 34)) (t.link (sp 86 6 52) g.Plus (t.GroupNumber (sp 87 6 54)) (t.link (sp 88 6 56) g.Plus (t.GroupRank (sp 89 6 58)) t.no_links))))))) p.no_statements)
    (nn ∷ nn ∷ nn ∷ nn ∷ nt 2 2 false true false ∷ nt 2 0 false false false ∷ nt 0 4294967295 false false false ∷ nt 2 0 false true false ∷ nn ∷ nt 2 0 false false false ∷ nt 2 4294967295 false false false ∷ nt 2 0 false false false ∷ nt 2 4294967295 false true false ∷ nt 2 0 false false false ∷ nt 2 0 false true false ∷ nt 2 0 false false false ∷ nt 2 0 false false false ∷ [])
    [] [] []
    ≡ k 2 ∷ k 11 ∷ k 1 ∷ k 11 ∷ k 1 ∷ k 2 ∷ k 2 ∷ k 7 ∷ k 2 ∷ k 7 ∷ k 2 ∷ k 7 ∷ k 2 ∷ k 7 ∷ k 14 ∷ k 4 ∷ k 34 ∷ []
alone_32 = refl

-- x0 = __inputs + __input[1];
alone_33 : sites_with (p.statement (p.Expression (t.Assign (sp 78 6 4) g.Assign (t.Variable (nm (codes "x0") 77 6 1)) (t.Chain (t.Variable (nm (codes "__inputs") 79 6 6)) (t.link (sp 80 6 15) g.Plus (t.Postfix (t.Variable (nm (codes "__input") 81 6 17)) (t.index (sp 82 6 24) (t.Number (sp 83 6 25) 1 false) t.no_suffixes)) t.no_links)))) p.no_statements)
    (nn ∷ nn ∷ nn ∷ nn ∷ nt 2 2 false true false ∷ nt 2 0 false true false ∷ nt 2 4294967295 false true false ∷ nt 2 0 false true false ∷ nt 5 4294967295 false true false ∷ nt 2 0 false true false ∷ nt 2 0 false true false ∷ [])
    (kd 1 false true 4 ∷ []) [] []
    ≡ k 2 ∷ k 11 ∷ k 1 ∷ k 11 ∷ k 1 ∷ k 2 ∷ k 2 ∷ k 1 ∷ k 8 ∷ at 12 6 24 ∷ k 13 ∷ k 7 ∷ k 14 ∷ k 4 ∷ k 34 ∷ []
alone_33 = refl

-- int *q = __input;
alone_34 : sites_with (p.statement (p.Declare ((dc false (ty t.Int 1) (nm (codes "q") 79 6 6) None (Some (t.Variable (nm (codes "__input") 81 6 10)))) ∷ [])) p.no_statements)
    (nn ∷ nn ∷ nn ∷ nn ∷ nn ∷ nn ∷ nt 5 9 false false false ∷ nn ∷ nt 6 4294967295 false true false ∷ [])
    (kd 1 true false 4 ∷ kd 1 false true 4 ∷ []) (sl h.Private 0 ∷ []) []
    ≡ k 2 ∷ k 11 ∷ k 1 ∷ k 11 ∷ k 2 ∷ k 3 ∷ k 4 ∷ k 34 ∷ []
alone_34 = refl

-- x0 = 1 < 2; x0 = ar == &x0; x0 = x1 >= 2;
alone_35 : sites_with (p.statement (p.Expression (t.Assign (sp 78 6 4) g.Assign (t.Variable (nm (codes "x0") 77 6 1)) (t.Chain (t.Number (sp 79 6 6) 1 false) (t.link (sp 80 6 8) g.LessThan (t.Number (sp 81 6 10) 2 false) t.no_links)))) (p.statement (p.Expression (t.Assign (sp 84 6 16) g.Assign (t.Variable (nm (codes "x0") 83 6 13)) (t.Chain (t.Variable (nm (codes "ar") 85 6 18)) (t.link (sp 86 6 21) g.EqualTo (t.Prefix (sp 87 6 24) g.Ampersand (t.Variable (nm (codes "x0") 88 6 25))) t.no_links)))) (p.statement (p.Expression (t.Assign (sp 91 6 32) g.Assign (t.Variable (nm (codes "x0") 90 6 29)) (t.Chain (t.Variable (nm (codes "x1") 92 6 34)) (t.link (sp 93 6 37) g.GreaterOrEqual (t.Number (sp 94 6 40) 2 false) t.no_links)))) p.no_statements)))
    (nn ∷ nn ∷ nn ∷ nn ∷ nt 2 2 false true false ∷ nt 2 0 false true false ∷ nt 2 0 false true false ∷ nt 2 0 false true false ∷ nt 2 0 false true false ∷ nn ∷ nt 2 2 false true false ∷ nt 2 0 false true false ∷ nt 3 3 false true false ∷ nt 2 0 false true false ∷ nt 5 0 false true false ∷ nt 2 2 false true false ∷ nn ∷ nt 2 2 false true false ∷ nt 2 0 false true false ∷ nt 4 4 false true false ∷ nt 2 0 false true false ∷ nt 2 0 false true false ∷ [])
    (kd 1 true false 4 ∷ []) [] []
    ≡ k 2 ∷ k 11 ∷ k 1 ∷ k 11 ∷ k 1 ∷ k 1 ∷ k 1 ∷ k 7 ∷ k 14 ∷ k 4 ∷ k 1 ∷ k 1 ∷ k 1 ∷ k 7 ∷ k 14 ∷ k 4 ∷ k 1 ∷ k 1 ∷ k 13 ∷ k 1 ∷ k 7 ∷ k 14 ∷ k 4 ∷ k 34 ∷ []
alone_35 = refl

-- int *q = ar; x0 = q < ar + 2; x0 = (q == 0);
alone_36 : sites_with (p.statement (p.Declare ((dc false (ty t.Int 1) (nm (codes "q") 79 6 6) None (Some (t.Variable (nm (codes "ar") 81 6 10)))) ∷ [])) (p.statement (p.Expression (t.Assign (sp 84 6 17) g.Assign (t.Variable (nm (codes "x0") 83 6 14)) (t.Chain (t.Variable (nm (codes "q") 85 6 19)) (t.link (sp 86 6 21) g.LessThan (t.Chain (t.Variable (nm (codes "ar") 87 6 23)) (t.link (sp 88 6 26) g.Plus (t.Number (sp 89 6 28) 2 false) t.no_links)) t.no_links)))) (p.statement (p.Expression (t.Assign (sp 92 6 34) g.Assign (t.Variable (nm (codes "x0") 91 6 31)) (t.Chain (t.Variable (nm (codes "q") 94 6 37)) (t.link (sp 95 6 39) g.EqualTo (t.Number (sp 96 6 42) 0 false) t.no_links)))) p.no_statements)))
    (nn ∷ nn ∷ nn ∷ nn ∷ nn ∷ nn ∷ nt 5 9 false false false ∷ nn ∷ nt 3 3 false true false ∷ nn ∷ nt 2 2 false true false ∷ nt 2 0 false false false ∷ nt 5 9 false false false ∷ nt 2 0 false false false ∷ nt 3 3 false true false ∷ nt 5 0 false true false ∷ nt 2 0 false true false ∷ nn ∷ nt 2 2 false true false ∷ nt 2 0 false false false ∷ nn ∷ nt 5 9 false false false ∷ nt 2 0 false false false ∷ nt 2 0 false true false ∷ [])
    (kd 1 true false 4 ∷ []) (sl h.Private 0 ∷ []) []
    ≡ k 2 ∷ k 11 ∷ k 1 ∷ k 11 ∷ k 1 ∷ k 3 ∷ k 4 ∷ k 1 ∷ k 2 ∷ k 1 ∷ k 1 ∷ k 8 ∷ k 7 ∷ k 14 ∷ k 4 ∷ k 1 ∷ k 2 ∷ k 1 ∷ k 7 ∷ k 14 ∷ k 4 ∷ k 34 ∷ []
alone_36 = refl

-- x0 = 'a' << 2 >> 1;
alone_37 : sites_with (p.statement (p.Expression (t.Assign (sp 78 6 4) g.Assign (t.Variable (nm (codes "x0") 77 6 1)) (t.Chain (t.Number (sp 79 6 6) 97 false) (t.link (sp 80 6 10) g.ShiftLeft (t.Number (sp 81 6 13) 2 false) (t.link (sp 82 6 15) g.ShiftRight (t.Number (sp 83 6 18) 1 false) t.no_links))))) p.no_statements)
    (nn ∷ nn ∷ nn ∷ nn ∷ nt 2 2 false true false ∷ nt 2 0 false true false ∷ nt 2 0 false true false ∷ nt 2 0 false true false ∷ nt 2 0 false true false ∷ nt 2 0 false true false ∷ nt 2 0 false true false ∷ [])
    [] [] []
    ≡ k 2 ∷ k 11 ∷ k 1 ∷ k 11 ∷ k 1 ∷ k 1 ∷ k 1 ∷ k 7 ∷ k 1 ∷ k 7 ∷ k 14 ∷ k 4 ∷ k 34 ∷ []
alone_37 = refl

-- ;
alone_38 : sites_with (p.statement p.Empty p.no_statements)
    []
    [] [] []
    ≡ k 2 ∷ k 11 ∷ k 1 ∷ k 11 ∷ k 34 ∷ []
alone_38 = refl

-- { int a; { int a = 2; x0 = a; } }
alone_39 : sites_with (p.statement (p.Block (p.statement (p.Declare ((dc false (ty t.Int 0) (nm (codes "a") 79 6 7) None None) ∷ [])) (p.statement (p.Block (p.statement (p.Declare ((dc false (ty t.Int 0) (nm (codes "a") 83 6 16) None (Some (t.Number (sp 85 6 20) 2 false))) ∷ [])) (p.statement (p.Expression (t.Assign (sp 88 6 26) g.Assign (t.Variable (nm (codes "x0") 87 6 23)) (t.Variable (nm (codes "a") 89 6 28)))) p.no_statements))) p.no_statements))) p.no_statements)
    (nn ∷ nn ∷ nn ∷ nn ∷ nn ∷ nn ∷ nt 2 9 false false false ∷ nn ∷ nn ∷ nn ∷ nt 2 10 false false false ∷ nn ∷ nt 2 0 false true false ∷ nn ∷ nt 2 2 false true false ∷ nt 2 0 false false false ∷ nt 2 10 false false false ∷ [])
    [] (sl h.Private 0 ∷ sl h.Private 1 ∷ []) []
    ≡ k 2 ∷ k 11 ∷ k 1 ∷ k 11 ∷ k 1 ∷ k 3 ∷ k 4 ∷ k 1 ∷ k 3 ∷ k 4 ∷ k 1 ∷ k 2 ∷ k 14 ∷ k 4 ∷ k 34 ∷ []
alone_39 = refl

-- int a, b = 3, c;
alone_40 : sites_with (p.statement (p.Declare ((dc false (ty t.Int 0) (nm (codes "a") 78 6 5) None None) ∷ (dc false (ty t.Int 0) (nm (codes "b") 80 6 8) None (Some (t.Number (sp 82 6 12) 3 false))) ∷ (dc false (ty t.Int 0) (nm (codes "c") 84 6 15) None None) ∷ [])) p.no_statements)
    (nn ∷ nn ∷ nn ∷ nn ∷ nn ∷ nt 2 9 false false false ∷ nn ∷ nt 2 10 false false false ∷ nn ∷ nt 2 0 false true false ∷ nn ∷ nt 2 11 false false false ∷ [])
    [] (sl h.Private 0 ∷ sl h.Private 1 ∷ sl h.Private 2 ∷ []) []
    ≡ k 2 ∷ k 11 ∷ k 1 ∷ k 11 ∷ k 1 ∷ k 3 ∷ k 4 ∷ k 1 ∷ k 3 ∷ k 4 ∷ k 1 ∷ k 3 ∷ k 4 ∷ k 34 ∷ []
alone_40 = refl

-- if (@) x0 = 1;
alone_41 : sites_with (p.statement (p.If (sp 77 6 1) (t.GroupNumber (sp 79 6 5)) (p.Expression (t.Assign (sp 82 6 11) g.Assign (t.Variable (nm (codes "x0") 81 6 8)) (t.Number (sp 83 6 13) 1 false)))) p.no_statements)
    (nn ∷ nn ∷ nn ∷ nn ∷ nt 0 0 false false false ∷ nn ∷ nt 2 0 false true false ∷ nn ∷ nt 2 2 false true false ∷ nt 2 0 false true false ∷ nt 2 0 false true false ∷ [])
    [] [] []
    ≡ k 2 ∷ k 11 ∷ k 1 ∷ k 11 ∷ k 2 ∷ k 9 ∷ k 1 ∷ k 1 ∷ k 14 ∷ k 4 ∷ k 34 ∷ []
alone_41 = refl

-- if (@) x0 = 1; else x0 = 2;
alone_42 : sites_with (p.statement (p.IfElse (sp 77 6 1) (t.GroupNumber (sp 79 6 5)) (p.Expression (t.Assign (sp 82 6 11) g.Assign (t.Variable (nm (codes "x0") 81 6 8)) (t.Number (sp 83 6 13) 1 false))) (p.Expression (t.Assign (sp 87 6 24) g.Assign (t.Variable (nm (codes "x0") 86 6 21)) (t.Number (sp 88 6 26) 2 false)))) p.no_statements)
    (nn ∷ nn ∷ nn ∷ nn ∷ nt 0 0 false false false ∷ nn ∷ nt 2 0 false true false ∷ nn ∷ nt 2 2 false true false ∷ nt 2 0 false true false ∷ nt 2 0 false true false ∷ nn ∷ nn ∷ nt 2 2 false true false ∷ nt 2 0 false true false ∷ nt 2 0 false true false ∷ [])
    [] [] []
    ≡ k 2 ∷ k 11 ∷ k 1 ∷ k 11 ∷ k 2 ∷ k 9 ∷ k 1 ∷ k 1 ∷ k 14 ∷ k 4 ∷ k 1 ∷ k 1 ∷ k 14 ∷ k 4 ∷ k 34 ∷ []
alone_42 = refl

-- while (x0) x0 = 0;
alone_43 : sites_with (p.statement (p.While (sp 77 6 1) (t.Variable (nm (codes "x0") 79 6 8)) (p.Expression (t.Assign (sp 82 6 15) g.Assign (t.Variable (nm (codes "x0") 81 6 12)) (t.Number (sp 83 6 17) 0 false)))) p.no_statements)
    (nn ∷ nn ∷ nn ∷ nn ∷ nt 0 0 false false false ∷ nn ∷ nt 2 2 false true false ∷ nn ∷ nt 2 2 false true false ∷ nt 2 0 false true false ∷ nt 2 0 false true false ∷ [])
    [] [] []
    ≡ k 2 ∷ k 11 ∷ k 1 ∷ k 11 ∷ k 1 ∷ k 13 ∷ k 9 ∷ k 1 ∷ k 1 ∷ k 14 ∷ k 4 ∷ k 34 ∷ []
alone_43 = refl

-- do x0 = 0; while (x0);
alone_44 : sites_with (p.statement (p.DoWhile (sp 77 6 1) (p.Expression (t.Assign (sp 79 6 7) g.Assign (t.Variable (nm (codes "x0") 78 6 4)) (t.Number (sp 80 6 9) 0 false))) (t.Variable (nm (codes "x0") 84 6 19))) p.no_statements)
    (nn ∷ nn ∷ nn ∷ nn ∷ nt 0 0 false false false ∷ nt 2 2 false true false ∷ nt 2 0 false true false ∷ nt 2 0 false true false ∷ nn ∷ nn ∷ nn ∷ nt 2 2 false true false ∷ [])
    [] [] []
    ≡ k 2 ∷ k 11 ∷ k 1 ∷ k 11 ∷ k 1 ∷ k 1 ∷ k 14 ∷ k 4 ∷ k 1 ∷ k 13 ∷ k 9 ∷ k 34 ∷ []
alone_44 = refl

-- for (x0 = 0; x0 < 3; x0++) ar[x0] = 1;
alone_45 : sites_with (p.statement (p.For (sp 77 6 1) (Some (t.Assign (sp 80 6 9) g.Assign (t.Variable (nm (codes "x0") 79 6 6)) (t.Number (sp 81 6 11) 0 false))) (Some (t.Chain (t.Variable (nm (codes "x0") 83 6 14)) (t.link (sp 84 6 17) g.LessThan (t.Number (sp 85 6 19) 3 false) t.no_links))) (Some (t.Postfix (t.Variable (nm (codes "x0") 87 6 22)) (t.up (sp 88 6 24) t.no_suffixes))) (p.Expression (t.Assign (sp 94 6 35) g.Assign (t.Postfix (t.Variable (nm (codes "ar") 90 6 28)) (t.index (sp 91 6 30) (t.Variable (nm (codes "x0") 92 6 31)) t.no_suffixes)) (t.Number (sp 95 6 37) 1 false)))) p.no_statements)
    (nn ∷ nn ∷ nn ∷ nn ∷ nt 0 0 false false false ∷ nn ∷ nt 2 2 false true false ∷ nt 2 0 false true false ∷ nt 2 0 false true false ∷ nn ∷ nt 2 2 false true false ∷ nt 2 0 false true false ∷ nt 2 0 false true false ∷ nn ∷ nt 2 2 false true false ∷ nt 2 0 false true false ∷ nn ∷ nt 3 3 false true false ∷ nt 2 0 false true false ∷ nt 2 2 false true false ∷ nn ∷ nt 2 0 false true false ∷ nt 2 0 false true false ∷ [])
    [] [] []
    ≡ k 2 ∷ k 11 ∷ k 1 ∷ k 11 ∷ k 1 ∷ k 1 ∷ k 14 ∷ k 4 ∷ k 1 ∷ k 13 ∷ k 1 ∷ k 7 ∷ k 9 ∷ k 1 ∷ k 1 ∷ k 13 ∷ k 8 ∷ at 12 6 30 ∷ k 1 ∷ k 14 ∷ k 4 ∷ k 1 ∷ k 5 ∷ k 13 ∷ k 1 ∷ k 7 ∷ k 14 ∷ k 1 ∷ k 7 ∷ k 4 ∷ k 34 ∷ []
alone_45 = refl

-- for (;x0;) x0 = 0;
alone_46 : sites_with (p.statement (p.For (sp 77 6 1) None (Some (t.Variable (nm (codes "x0") 80 6 7))) None (p.Expression (t.Assign (sp 84 6 15) g.Assign (t.Variable (nm (codes "x0") 83 6 12)) (t.Number (sp 85 6 17) 0 false)))) p.no_statements)
    (nn ∷ nn ∷ nn ∷ nn ∷ nt 0 0 false false false ∷ nn ∷ nn ∷ nt 2 2 false true false ∷ nn ∷ nn ∷ nt 2 2 false true false ∷ nt 2 0 false true false ∷ nt 2 0 false true false ∷ [])
    [] [] []
    ≡ k 2 ∷ k 11 ∷ k 1 ∷ k 11 ∷ k 1 ∷ k 13 ∷ k 9 ∷ k 1 ∷ k 1 ∷ k 14 ∷ k 4 ∷ k 34 ∷ []
alone_46 = refl

-- for (putint(1); x0; putint(2)) x0 = 0;
alone_47 : sites_with (p.statement (p.For (sp 77 6 1) (Some (t.Postfix (t.Variable (nm (codes "putint") 79 6 6)) (t.call (sp 80 6 12) (t.tree (t.Number (sp 81 6 13) 1 false) t.no_trees) t.no_suffixes))) (Some (t.Variable (nm (codes "x0") 84 6 17))) (Some (t.Postfix (t.Variable (nm (codes "putint") 86 6 21)) (t.call (sp 87 6 27) (t.tree (t.Number (sp 88 6 28) 2 false) t.no_trees) t.no_suffixes))) (p.Expression (t.Assign (sp 92 6 35) g.Assign (t.Variable (nm (codes "x0") 91 6 32)) (t.Number (sp 93 6 37) 0 false)))) p.no_statements)
    (nn ∷ nn ∷ nn ∷ nn ∷ nt 0 0 false false false ∷ nn ∷ nt 0 4294967295 false false false ∷ nt 5 0 false false false ∷ nt 2 0 false true false ∷ nn ∷ nn ∷ nt 2 2 false true false ∷ nn ∷ nt 0 4294967295 false false false ∷ nt 5 0 false false false ∷ nt 2 0 false true false ∷ nn ∷ nn ∷ nt 2 2 false true false ∷ nt 2 0 false true false ∷ nt 2 0 false true false ∷ [])
    (kd 0 false false 0 ∷ []) [] []
    ≡ k 2 ∷ k 11 ∷ k 1 ∷ k 11 ∷ k 1 ∷ k 19 ∷ k 1 ∷ k 13 ∷ k 9 ∷ k 1 ∷ k 1 ∷ k 14 ∷ k 4 ∷ k 1 ∷ k 19 ∷ k 34 ∷ []
alone_47 = refl

-- while (1) { if (x0) break; x0 = 1; continue; }
alone_48 : sites_with (p.statement (p.While (sp 77 6 1) (t.Number (sp 79 6 8) 1 false) (p.Block (p.statement (p.If (sp 82 6 13) (t.Variable (nm (codes "x0") 84 6 17)) (p.Break (sp 86 6 21))) (p.statement (p.Expression (t.Assign (sp 89 6 31) g.Assign (t.Variable (nm (codes "x0") 88 6 28)) (t.Number (sp 90 6 33) 1 false))) (p.statement (p.Continue (sp 92 6 36)) p.no_statements))))) p.no_statements)
    (nn ∷ nn ∷ nn ∷ nn ∷ nt 0 0 false false false ∷ nn ∷ nt 2 0 false true false ∷ nn ∷ nn ∷ nt 0 0 false false false ∷ nn ∷ nt 2 2 false true false ∷ nn ∷ nt 0 0 false false false ∷ nn ∷ nt 2 2 false true false ∷ nt 2 0 false true false ∷ nt 2 0 false true false ∷ nn ∷ nt 0 0 false false false ∷ [])
    [] [] []
    ≡ k 2 ∷ k 11 ∷ k 1 ∷ k 11 ∷ k 1 ∷ k 9 ∷ k 1 ∷ k 13 ∷ k 9 ∷ k 1 ∷ k 1 ∷ k 14 ∷ k 4 ∷ k 34 ∷ []
alone_48 = refl

-- x0 = @ && x0;
alone_49 : sites_with (p.statement (p.Expression (t.Assign (sp 78 6 4) g.Assign (t.Variable (nm (codes "x0") 77 6 1)) (t.Chain (t.GroupNumber (sp 79 6 6)) (t.link (sp 80 6 8) g.AndAnd (t.Variable (nm (codes "x0") 81 6 11)) t.no_links)))) p.no_statements)
    (nn ∷ nn ∷ nn ∷ nn ∷ nt 2 2 false true false ∷ nt 2 0 false true false ∷ nt 2 0 false true false ∷ nt 2 0 false true false ∷ nt 2 2 false true false ∷ [])
    [] [] []
    ≡ k 2 ∷ k 11 ∷ k 1 ∷ k 11 ∷ k 1 ∷ k 2 ∷ k 9 ∷ k 1 ∷ k 13 ∷ k 1 ∷ k 7 ∷ k 1 ∷ k 14 ∷ k 4 ∷ k 34 ∷ []
alone_49 = refl

-- x0 = @ || x0;
alone_50 : sites_with (p.statement (p.Expression (t.Assign (sp 78 6 4) g.Assign (t.Variable (nm (codes "x0") 77 6 1)) (t.Chain (t.GroupNumber (sp 79 6 6)) (t.link (sp 80 6 8) g.OrOr (t.Variable (nm (codes "x0") 81 6 11)) t.no_links)))) p.no_statements)
    (nn ∷ nn ∷ nn ∷ nn ∷ nt 2 2 false true false ∷ nt 2 0 false true false ∷ nt 2 0 false true false ∷ nt 2 0 false true false ∷ nt 2 2 false true false ∷ [])
    [] [] []
    ≡ k 2 ∷ k 11 ∷ k 1 ∷ k 11 ∷ k 1 ∷ k 2 ∷ k 9 ∷ k 1 ∷ k 13 ∷ k 1 ∷ k 7 ∷ k 1 ∷ k 14 ∷ k 4 ∷ k 34 ∷ []
alone_50 = refl

-- x0 = @ ? 1 : 2;
alone_51 : sites_with (p.statement (p.Expression (t.Assign (sp 78 6 4) g.Assign (t.Variable (nm (codes "x0") 77 6 1)) (t.Choose (sp 80 6 8) (t.GroupNumber (sp 79 6 6)) (t.Number (sp 81 6 10) 1 false) (t.Number (sp 83 6 14) 2 false)))) p.no_statements)
    (nn ∷ nn ∷ nn ∷ nn ∷ nt 2 2 false true false ∷ nt 2 0 false true false ∷ nt 2 0 false true false ∷ nt 2 0 false true false ∷ nt 2 0 false true false ∷ nn ∷ nt 2 0 false true false ∷ [])
    [] [] []
    ≡ k 2 ∷ k 11 ∷ k 1 ∷ k 11 ∷ k 1 ∷ k 2 ∷ k 9 ∷ k 1 ∷ k 1 ∷ k 14 ∷ k 4 ∷ k 34 ∷ []
alone_51 = refl

-- x0 = (@ ? &x0 : ar)[0];
alone_52 : sites_with (p.statement (p.Expression (t.Assign (sp 78 6 4) g.Assign (t.Variable (nm (codes "x0") 77 6 1)) (t.Postfix (t.Choose (sp 81 6 9) (t.GroupNumber (sp 80 6 7)) (t.Prefix (sp 82 6 11) g.Ampersand (t.Variable (nm (codes "x0") 83 6 12))) (t.Variable (nm (codes "ar") 85 6 17))) (t.index (sp 87 6 20) (t.Number (sp 88 6 21) 0 false) t.no_suffixes)))) p.no_statements)
    (nn ∷ nn ∷ nn ∷ nn ∷ nt 2 2 false true false ∷ nt 2 0 false true false ∷ nn ∷ nt 2 0 false true false ∷ nt 5 0 false true false ∷ nt 5 0 false true false ∷ nt 2 2 false true false ∷ nn ∷ nt 3 3 false true false ∷ nn ∷ nt 2 0 false true false ∷ nt 2 0 false true false ∷ [])
    (kd 1 true false 4 ∷ []) [] []
    ≡ k 2 ∷ k 11 ∷ k 1 ∷ k 11 ∷ k 1 ∷ k 2 ∷ k 9 ∷ k 1 ∷ k 1 ∷ k 1 ∷ k 8 ∷ at 12 6 20 ∷ k 13 ∷ k 14 ∷ k 4 ∷ k 34 ∷ []
alone_52 = refl

-- x0 = !(@ && (x0 || @));
alone_53 : sites_with (p.statement (p.Expression (t.Assign (sp 78 6 4) g.Assign (t.Variable (nm (codes "x0") 77 6 1)) (t.Prefix (sp 79 6 6) g.Exclamation (t.Chain (t.GroupNumber (sp 81 6 8)) (t.link (sp 82 6 10) g.AndAnd (t.Chain (t.Variable (nm (codes "x0") 84 6 14)) (t.link (sp 85 6 17) g.OrOr (t.GroupNumber (sp 86 6 20)) t.no_links)) t.no_links))))) p.no_statements)
    (nn ∷ nn ∷ nn ∷ nn ∷ nt 2 2 false true false ∷ nt 2 0 false true false ∷ nt 2 0 false true false ∷ nn ∷ nt 2 0 false true false ∷ nt 2 0 false true false ∷ nn ∷ nt 2 2 false true false ∷ nt 2 0 false true false ∷ nt 2 0 false true false ∷ [])
    [] [] []
    ≡ k 2 ∷ k 11 ∷ k 1 ∷ k 11 ∷ k 1 ∷ k 2 ∷ k 9 ∷ k 1 ∷ k 13 ∷ k 9 ∷ k 2 ∷ k 1 ∷ k 7 ∷ k 1 ∷ k 1 ∷ k 7 ∷ k 1 ∷ k 6 ∷ k 14 ∷ k 4 ∷ k 34 ∷ []
alone_53 = refl

-- x0 = af(3);
alone_54 : sites_with (p.statement (p.Expression (t.Assign (sp 78 6 4) g.Assign (t.Variable (nm (codes "x0") 77 6 1)) (t.Postfix (t.Variable (nm (codes "af") 79 6 6)) (t.call (sp 80 6 8) (t.tree (t.Number (sp 81 6 9) 3 false) t.no_trees) t.no_suffixes)))) p.no_statements)
    (nn ∷ nn ∷ nn ∷ nn ∷ nt 2 2 false true false ∷ nt 2 0 false false false ∷ nt 0 6 false false false ∷ nt 2 0 false false false ∷ nt 2 0 false true false ∷ [])
    [] [] []
    ≡ k 2 ∷ k 11 ∷ k 1 ∷ k 11 ∷ k 1 ∷ k 1 ∷ at 22 6 6 ∷ k 14 ∷ k 4 ∷ k 34 ∷ []
alone_54 = refl

-- af(af(1));
alone_55 : sites_with (p.statement (p.Expression (t.Postfix (t.Variable (nm (codes "af") 77 6 1)) (t.call (sp 78 6 3) (t.tree (t.Postfix (t.Variable (nm (codes "af") 79 6 4)) (t.call (sp 80 6 6) (t.tree (t.Number (sp 81 6 7) 1 false) t.no_trees) t.no_suffixes)) t.no_trees) t.no_suffixes))) p.no_statements)
    (nn ∷ nn ∷ nn ∷ nn ∷ nt 0 6 false false false ∷ nt 2 0 false false false ∷ nt 0 6 false false false ∷ nt 2 0 false false false ∷ nt 2 0 false true false ∷ [])
    [] [] []
    ≡ k 2 ∷ k 11 ∷ k 1 ∷ k 11 ∷ k 1 ∷ at 22 6 4 ∷ at 22 6 1 ∷ k 4 ∷ k 34 ∷ []
alone_55 = refl

-- if ($) x0 = 1; else { x0 = 2; }
alone_56 : sites_with (p.statement (p.IfElse (sp 77 6 1) (t.GroupRank (sp 79 6 5)) (p.Expression (t.Assign (sp 82 6 11) g.Assign (t.Variable (nm (codes "x0") 81 6 8)) (t.Number (sp 83 6 13) 1 false))) (p.Block (p.statement (p.Expression (t.Assign (sp 88 6 26) g.Assign (t.Variable (nm (codes "x0") 87 6 23)) (t.Number (sp 89 6 28) 2 false))) p.no_statements))) p.no_statements)
    (nn ∷ nn ∷ nn ∷ nn ∷ nt 0 0 false false false ∷ nn ∷ nt 2 0 false false false ∷ nn ∷ nt 2 2 false true false ∷ nt 2 0 false true false ∷ nt 2 0 false true false ∷ nn ∷ nn ∷ nn ∷ nt 2 2 false true false ∷ nt 2 0 false true false ∷ nt 2 0 false true false ∷ [])
    [] [] []
    ≡ k 2 ∷ k 11 ∷ k 1 ∷ k 11 ∷ k 2 ∷ k 9 ∷ k 1 ∷ k 1 ∷ k 14 ∷ k 4 ∷ k 1 ∷ k 1 ∷ k 14 ∷ k 4 ∷ k 34 ∷ []
alone_56 = refl

-- while ($) { x0 = 1; }
alone_57 : sites_with (p.statement (p.While (sp 77 6 1) (t.GroupRank (sp 79 6 8)) (p.Block (p.statement (p.Expression (t.Assign (sp 83 6 16) g.Assign (t.Variable (nm (codes "x0") 82 6 13)) (t.Number (sp 84 6 18) 1 false))) p.no_statements))) p.no_statements)
    (nn ∷ nn ∷ nn ∷ nn ∷ nt 0 0 false false false ∷ nn ∷ nt 2 0 false false false ∷ nn ∷ nn ∷ nt 2 2 false true false ∷ nt 2 0 false true false ∷ nt 2 0 false true false ∷ [])
    [] [] []
    ≡ k 2 ∷ k 11 ∷ k 1 ∷ k 11 ∷ k 2 ∷ k 9 ∷ k 1 ∷ k 1 ∷ k 14 ∷ k 4 ∷ k 34 ∷ []
alone_57 = refl

-- x0 = $ && x0;
alone_58 : sites_with (p.statement (p.Expression (t.Assign (sp 78 6 4) g.Assign (t.Variable (nm (codes "x0") 77 6 1)) (t.Chain (t.GroupRank (sp 79 6 6)) (t.link (sp 80 6 8) g.AndAnd (t.Variable (nm (codes "x0") 81 6 11)) t.no_links)))) p.no_statements)
    (nn ∷ nn ∷ nn ∷ nn ∷ nt 2 2 false true false ∷ nt 2 0 false false false ∷ nt 2 0 false false false ∷ nt 2 0 false false false ∷ nt 2 2 false true false ∷ [])
    [] [] []
    ≡ k 2 ∷ k 11 ∷ k 1 ∷ k 11 ∷ k 1 ∷ k 2 ∷ k 9 ∷ k 1 ∷ k 13 ∷ k 1 ∷ k 7 ∷ k 1 ∷ k 14 ∷ k 4 ∷ k 34 ∷ []
alone_58 = refl

-- x0 = $ || x0;
alone_59 : sites_with (p.statement (p.Expression (t.Assign (sp 78 6 4) g.Assign (t.Variable (nm (codes "x0") 77 6 1)) (t.Chain (t.GroupRank (sp 79 6 6)) (t.link (sp 80 6 8) g.OrOr (t.Variable (nm (codes "x0") 81 6 11)) t.no_links)))) p.no_statements)
    (nn ∷ nn ∷ nn ∷ nn ∷ nt 2 2 false true false ∷ nt 2 0 false false false ∷ nt 2 0 false false false ∷ nt 2 0 false false false ∷ nt 2 2 false true false ∷ [])
    [] [] []
    ≡ k 2 ∷ k 11 ∷ k 1 ∷ k 11 ∷ k 1 ∷ k 2 ∷ k 9 ∷ k 1 ∷ k 13 ∷ k 1 ∷ k 7 ∷ k 1 ∷ k 14 ∷ k 4 ∷ k 34 ∷ []
alone_59 = refl

-- x0 = $ ? x0 : 3;
alone_60 : sites_with (p.statement (p.Expression (t.Assign (sp 78 6 4) g.Assign (t.Variable (nm (codes "x0") 77 6 1)) (t.Choose (sp 80 6 8) (t.GroupRank (sp 79 6 6)) (t.Variable (nm (codes "x0") 81 6 10)) (t.Number (sp 83 6 15) 3 false)))) p.no_statements)
    (nn ∷ nn ∷ nn ∷ nn ∷ nt 2 2 false true false ∷ nt 2 0 false false false ∷ nt 2 0 false false false ∷ nt 2 0 false false false ∷ nt 2 2 false true false ∷ nn ∷ nt 2 0 false true false ∷ [])
    [] [] []
    ≡ k 2 ∷ k 11 ∷ k 1 ∷ k 11 ∷ k 1 ∷ k 2 ∷ k 9 ∷ k 1 ∷ k 13 ∷ k 1 ∷ k 14 ∷ k 4 ∷ k 34 ∷ []
alone_60 = refl

-- barrier;
alone_61 : sites_with (p.statement (p.Barrier (sp 77 6 1)) p.no_statements)
    (nn ∷ nn ∷ nn ∷ nn ∷ nt 0 0 false false false ∷ [])
    [] [] []
    ≡ k 2 ∷ k 11 ∷ k 1 ∷ k 11 ∷ k 33 ∷ k 34 ∷ []
alone_61 = refl

-- return;
alone_62 : sites_with (p.statement (p.Return (sp 77 6 1) None) p.no_statements)
    (nn ∷ nn ∷ nn ∷ nn ∷ nt 0 0 false false false ∷ [])
    [] [] []
    ≡ k 2 ∷ k 11 ∷ k 1 ∷ k 11 ∷ k 34 ∷ k 34 ∷ []
alone_62 = refl

-- start ;
alone_63 : sites_with (p.statement (p.Start (sp 77 6 1) None p.Empty) p.no_statements)
    (nn ∷ nn ∷ nn ∷ nn ∷ nt 0 0 false false false ∷ [])
    [] [] []
    ≡ k 2 ∷ k 11 ∷ k 1 ∷ k 11 ∷ k 2 ∷ k 23 ∷ k 29 ∷ k 30 ∷ k 34 ∷ []
alone_63 = refl

-- start (3) x0 = $;
alone_64 : sites_with (p.statement (p.Start (sp 77 6 1) (Some (t.Number (sp 79 6 8) 3 false)) (p.Expression (t.Assign (sp 82 6 14) g.Assign (t.Variable (nm (codes "x0") 81 6 11)) (t.GroupRank (sp 83 6 16))))) p.no_statements)
    (nn ∷ nn ∷ nn ∷ nn ∷ nt 0 0 false false false ∷ nn ∷ nt 2 0 false true false ∷ nn ∷ nt 2 2 true true false ∷ nt 2 0 true false false ∷ nt 2 0 true false false ∷ [])
    [] [] []
    ≡ k 2 ∷ k 11 ∷ k 1 ∷ k 11 ∷ k 1 ∷ k 23 ∷ k 1 ∷ k 2 ∷ k 14 ∷ k 4 ∷ k 29 ∷ k 30 ∷ k 34 ∷ []
alone_64 = refl

-- start { sh int z; z = 1; x0 = z; }
alone_65 : sites_with (p.statement (p.Start (sp 77 6 1) None (p.Block (p.statement (p.Declare ((dc true (ty t.Int 0) (nm (codes "z") 81 6 16) None None) ∷ [])) (p.statement (p.Expression (t.Assign (sp 84 6 21) g.Assign (t.Variable (nm (codes "z") 83 6 19)) (t.Number (sp 85 6 23) 1 false))) (p.statement (p.Expression (t.Assign (sp 88 6 29) g.Assign (t.Variable (nm (codes "x0") 87 6 26)) (t.Variable (nm (codes "z") 89 6 31)))) p.no_statements))))) p.no_statements)
    (nn ∷ nn ∷ nn ∷ nn ∷ nt 0 0 false false false ∷ nn ∷ nn ∷ nn ∷ nt 2 9 false false false ∷ nn ∷ nt 2 9 true true false ∷ nt 2 0 true true false ∷ nt 2 0 true true false ∷ nn ∷ nt 2 2 true true false ∷ nt 2 0 true true false ∷ nt 2 9 true true false ∷ [])
    [] (sl (h.Group 0) 0 ∷ []) (rg 77 0 1 1 ∷ [])
    ≡ k 2 ∷ k 11 ∷ k 1 ∷ k 11 ∷ k 2 ∷ k 23 ∷ at 25 6 1 ∷ k 2 ∷ k 1 ∷ k 14 ∷ k 4 ∷ k 2 ∷ k 1 ∷ k 14 ∷ k 4 ∷ k 1 ∷ k 2 ∷ k 13 ∷ k 14 ∷ k 4 ∷ k 29 ∷ k 30 ∷ k 34 ∷ []
alone_65 = refl

-- for (;;) ;
alone_66 : sites_with (p.statement (p.For (sp 77 6 1) None None None p.Empty) p.no_statements)
    (nn ∷ nn ∷ nn ∷ nn ∷ nt 0 0 false false false ∷ [])
    [] [] []
    ≡ k 2 ∷ k 11 ∷ k 1 ∷ k 11 ∷ k 1 ∷ k 9 ∷ k 34 ∷ []
alone_66 = refl
