-- A program that fits: void main(void) { int i; int s = 0; for (i = 0; i < 9; i++) { if (i == 1) continue; if (i == 4) break; s += i; } do { s = s * 2; } while (s < 30); putint(s); puts("a\n"); }
use Rattle.std.proofs.Common.{true, false, [], ◌∷◌, Some, None, refl}
use Rattle.std.specs.Prelude.{codes}
use Rattle.fk_syntax.specs.declared.program.Mode.TheVariants as m
use Rattle.fk_syntax.specs.declared.sign.Sign.TheVariants as g
use Rattle.fk_syntax.specs.Tree as t
use Rattle.fk_syntax.specs.Program as p
use Rattle.fk_syntax.specs.Program.{ProgramTree}
use Rattle.fk_meaning_forms.specs.declared.tables.Home.TheVariants as h
use Rattle.fk_meaning_forms.specs.Tables.{Tables}
use Rattle.fk_meaning_forms.proofs.Short.{place, sp, nm, ty, dc, nn, nt, kd, sl, function}
use Rattle.fk_meaning_forms.specs.Program.{bodies_of}
use Rattle.fk_core_flat.specs.Laws.{AreShaped}
use Rattle.fk_core_flat.specs.Fitting.{ProgramFits}
use Rattle.fk_core_flat.proofs.Programs.{forms_are_shaped}

abbrev program : ProgramTree
program = record {
  items =
      (p.FunctionItem (function m.Async (ty t.Void 0) (nm (codes "main") 1 1 6) [] (Some ((p.statement (p.Declare ((dc false (ty t.Int 0) (nm (codes "i") 7 1 23) None None) ∷ [])) (p.statement (p.Declare ((dc false (ty t.Int 0) (nm (codes "s") 10 1 30) None (Some (t.Number (sp 12 1 34) 0 false))) ∷ [])) (p.statement (p.For (sp 14 1 37) (Some (t.Assign (sp 17 1 44) g.Assign (t.Variable (nm (codes "i") 16 1 42)) (t.Number (sp 18 1 46) 0 false))) (Some (t.Chain (t.Variable (nm (codes "i") 20 1 49)) (t.link (sp 21 1 51) g.LessThan (t.Number (sp 22 1 53) 9 false) t.no_links))) (Some (t.Postfix (t.Variable (nm (codes "i") 24 1 56)) (t.up (sp 25 1 57) t.no_suffixes))) (p.Block (p.statement (p.If (sp 28 1 63) (t.Chain (t.Variable (nm (codes "i") 30 1 67)) (t.link (sp 31 1 69) g.EqualTo (t.Number (sp 32 1 72) 1 false) t.no_links)) (p.Continue (sp 34 1 75))) (p.statement (p.If (sp 36 1 85) (t.Chain (t.Variable (nm (codes "i") 38 1 89)) (t.link (sp 39 1 91) g.EqualTo (t.Number (sp 40 1 94) 4 false) t.no_links)) (p.Break (sp 42 1 97))) (p.statement (p.Expression (t.Assign (sp 45 1 106) g.PlusAssign (t.Variable (nm (codes "s") 44 1 104)) (t.Variable (nm (codes "i") 46 1 109)))) p.no_statements))))) (p.statement (p.DoWhile (sp 49 1 114) (p.Block (p.statement (p.Expression (t.Assign (sp 52 1 121) g.Assign (t.Variable (nm (codes "s") 51 1 119)) (t.Chain (t.Variable (nm (codes "s") 53 1 123)) (t.link (sp 54 1 125) g.Star (t.Number (sp 55 1 127) 2 false) t.no_links)))) p.no_statements)) (t.Chain (t.Variable (nm (codes "s") 60 1 139)) (t.link (sp 61 1 141) g.LessThan (t.Number (sp 62 1 143) 30 false) t.no_links))) (p.statement (p.Expression (t.Postfix (t.Variable (nm (codes "putint") 65 1 148)) (t.call (sp 66 1 154) (t.tree (t.Variable (nm (codes "s") 67 1 155)) t.no_trees) t.no_suffixes))) (p.statement (p.Expression (t.Puts (sp 70 1 159) (34 ∷ 97 ∷ 92 ∷ 110 ∷ 34 ∷ []))) p.no_statements))))))))))
      ∷ [];
  end = place 1 173;
  tokens = 76;
}

abbrev tables : Tables
tables = record {
  notes = nn ∷ nt 0 0 false false false ∷ nn ∷ nn ∷ nn ∷ nn ∷ nn ∷ nt 0 1 false false false ∷ nn ∷ nn ∷ nt 0 2 false false false ∷ nn ∷ nt 0 0 false true false ∷ nn ∷ nt 0 0 false false false ∷ nn ∷ nt 0 1 false false false ∷ nt 0 0 false true false ∷ nt 0 0 false true false ∷ nn ∷ nt 0 1 false false false ∷ nt 0 0 false false false ∷ nt 0 0 false true false ∷ nn ∷ nt 0 1 false false false ∷ nt 0 0 false false false ∷ nn ∷ nn ∷ nt 0 0 false false false ∷ nn ∷ nt 0 1 false false false ∷ nt 0 0 false false false ∷ nt 0 0 false true false ∷ nn ∷ nt 0 0 false false false ∷ nn ∷ nt 0 0 false false false ∷ nn ∷ nt 0 1 false false false ∷ nt 0 0 false false false ∷ nt 0 0 false true false ∷ nn ∷ nt 0 0 false false false ∷ nn ∷ nt 0 2 false false false ∷ nt 0 0 false false false ∷ nt 0 1 false false false ∷ nn ∷ nn ∷ nt 0 0 false false false ∷ nn ∷ nt 0 2 false false false ∷ nt 0 0 false false false ∷ nt 0 2 false false false ∷ nt 0 0 false false false ∷ nt 0 0 false true false ∷ nn ∷ nn ∷ nn ∷ nn ∷ nt 0 2 false false false ∷ nt 0 0 false false false ∷ nt 0 0 false true false ∷ nn ∷ nn ∷ nt 0 4294967295 false false false ∷ nt 1 0 false false false ∷ nt 0 2 false false false ∷ nn ∷ nn ∷ nt 1 0 false false false ∷ [];
  kinds = kd 1 false false 0 ∷ kd 0 false false 0 ∷ [];
  slots = sl h.NoWord 0 ∷ sl h.Private 0 ∷ sl h.Private 1 ∷ [];
  regions = [];
}

fits : ProgramFits tables program
fits = (
  (
    (tt, tt),
    (
      (tt, tt),
      (
        (
          (tt, tt),
          ((tt, (tt, tt)), λ rest first. refl),
          (tt, tt),
          (((tt, (tt, tt)), refl), (((tt, (tt, tt)), refl), ((tt, tt), tt))),
        ),
        (
          (((tt, (tt, tt)), λ rest first. refl), ((tt, (tt, (tt, tt))), tt)),
          ((tt, (((λ k. refl), refl), (tt, tt), tt)), (tt, tt)),
        ),
      ),
    ),
  ),
  tt,
)

shaped : AreShaped (bodies_of tables program)
shaped = forms_are_shaped tables program fits
