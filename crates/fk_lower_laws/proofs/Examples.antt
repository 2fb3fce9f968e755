-- A program that is as it is asked: struct pair { int a; int b; }; sh int x; sh struct pair q; int f(int n) { return n; }
-- void main(void) { int i; for (;;) break; q.b = f(2); x += *&x; putint(x); start farm barrier; }
use Rattle.std.proofs.Common.{◌≡◌, ℕ, true, false, inl, inr, [], ◌∷◌, Some, None, refl, subst}
use Rattle.std.specs.Prelude.{codes}
use Rattle.std.proofs.lemmas.Bool.{false≢true}
use Rattle.std.proofs.lemmas.Option.{same_Some}
use Rattle.fk_syntax.specs.declared.program.Mode.TheVariants as k
use Rattle.fk_syntax.specs.declared.sign.Sign.TheVariants as g
use Rattle.fk_syntax.specs.Tree as t
use Rattle.fk_syntax.specs.Program as p
use Rattle.fk_syntax.specs.Program.{ProgramTree}
use Rattle.fk_types_structs.specs.declared.types.DataType.{DataType}
use Rattle.fk_types_operators.specs.declared.values.Value.TheVariants.{Int}
use Rattle.fk_types_operators.specs.declared.values.ExpressionType.TheVariants.{Computed}
use Rattle.fk_types_judgments.specs.Names.{Env, Kept, int}
use Rattle.fk_meaning_forms.specs.declared.tables.Home.TheVariants as h
use Rattle.fk_meaning.specs.Shaped.{ProgramShaped}
use Rattle.fk_meaning_forms.specs.Tables.{Tables}
use Rattle.fk_meaning_forms.proofs.Short.{place, sp, nm, ty, dc, nn, nt, kd, sl, function}
use Rattle.fk_meaning_forms.specs.Program.{functions_of, signature_in, bodies_of, main_of}
use Rattle.fk_meaning_forms.specs.Expressions.{Signature}
use Rattle.fk_core_liveness.specs.declared.places.FunctionKind.TheVariants.{Main}
use Rattle.fk_core_typing.specs.Typed.{AreTyped}
use Rattle.fk_core_typing.specs.declared.constants.Constant.{Constant as Address}
use Rattle.fk_lower_laws.specs.Ways.{Word, way}
use Rattle.fk_lower_laws.specs.Asked.{Asked, place_of, frame_of, ProgramAsked}
use Rattle.fk_lower_laws.specs.Typed.{IsWayOf, Known}
use Rattle.fk_lower_laws.proofs.Mains.{main_has_its_place}
use Rattle.fk_lower_laws.proofs.TypedPrograms.{forms_are_typed}
use Rattle.fk_lower_laws.proofs.Typing.{typed_is_asked}

abbrev n : t.Tree
n = t.Variable (nm (codes "n") 3 1 1)

abbrev x : t.Tree
x = t.Variable (nm (codes "x") 5 1 1)

abbrev assigned : t.Tree
assigned = t.Assign (sp 0 1 1) g.Assign (t.Postfix (t.Variable (nm (codes "q") 6 1 1)) (t.dot (sp 0 1 1) (nm (codes "b") 7 1 1) t.no_suffixes)) (t.Postfix (t.Variable (nm (codes "f") 2 1 1)) (t.call (sp 0 1 1) (t.tree (t.Number (sp 0 1 1) 2 false) t.no_trees) t.no_suffixes))

abbrev added : t.Tree
added = t.Assign (sp 0 1 1) g.PlusAssign x (t.Prefix (sp 0 1 1) g.Star (t.Prefix (sp 0 1 1) g.Ampersand x))

abbrev printed : t.Tree
printed = t.Postfix (t.Variable (nm (codes "putint") 8 1 1)) (t.call (sp 9 1 1) (t.tree x t.no_trees) t.no_suffixes)

abbrev program : ProgramTree
program = record {
  items =
      (p.FunctionItem (function k.Async (ty t.Int 0) (nm (codes "f") 2 1 1) (dc false (ty t.Int 0) (nm (codes "n") 3 1 1) None None ∷ []) (Some (p.statement (p.Return (sp 0 1 1) (Some n)) p.no_statements))))
      ∷ (p.FunctionItem (function k.Async (ty t.Void 0) (nm (codes "main") 1 1 1) [] (Some (p.statement (p.Declare (dc false (ty t.Int 0) (nm (codes "i") 4 1 1) None None ∷ [])) (p.statement (p.For (sp 0 1 1) None None None (p.Break (sp 0 1 1))) (p.statement (p.Expression assigned) (p.statement (p.Expression added) (p.statement (p.Expression printed) (p.statement (p.Start (sp 0 1 1) None (p.Farm (sp 0 1 1) (p.Barrier (sp 0 1 1)))) p.no_statements)))))))))
      ∷ [];
  end = place 1 1;
  tokens = 10;
}

-- the types are int, the struct, and nothing
abbrev tables : Tables
tables = record {
  notes = nn ∷ nt 0 0 false false false ∷ nt 0 1 false false false ∷ nt 0 2 false false false ∷ nt 0 3 false false false ∷ nt 0 4 false false false ∷ nt 1 5 false false false ∷ nt 0 1 false false false ∷ nt 0 4294967295 false false false ∷ nt 2 0 false false false ∷ [];
  kinds = kd 1 false false 0 ∷ kd 2 false false 0 ∷ kd 0 false false 0 ∷ [];
  slots = sl h.NoWord 0 ∷ sl h.NoWord 0 ∷ sl h.Private 0 ∷ sl h.Private 0 ∷ sl h.Global 0 ∷ sl h.Global 1 ∷ [];
  regions = [];
}

asked : ProgramAsked tables program
asked = (
  refl,
  (
    (((refl, (tt, refl)), tt), (tt, tt), (tt, tt)),
    (λ other. record { level = tt; parameters = (tt, tt) }),
    (
      (
        (
          ((tt, tt, tt), tt),
          (
            (tt, tt, tt, tt),
            (
              (((refl, (refl, tt)), tt, (tt, (record { called = tt; enough = tt }, (tt, refl, tt), tt)), refl), refl),
              (
                ((refl, tt, ((refl, tt), refl), refl), refl),
                (((tt, (refl, (refl, refl, tt), tt)), refl), ((tt, tt), tt)),
              ),
            ),
          ),
        ),
        (tt, ((λ e. absurd (false≢true e), tt), (tt, (tt, (tt, ((tt, tt), tt)))))),
        (tt, (tt, (tt, (tt, (tt, ((refl, refl, tt), tt)))))),
      ),
      (λ other. record { level = tt; parameters = tt }),
      tt,
    ),
  ),
)

nested : ProgramShaped tables program
nested = (
  ((refl, tt), tt),
  (
    (
      (tt, tt),
      (
        (tt, tt, tt, refl),
        (
          ((tt, tt), (tt, ((λ k. refl, λ e. absurd (false≢true e)), (tt, tt), tt))),
          ((tt, tt), ((tt, ((λ k. refl, λ e. refl), (tt, tt), tt)), ((tt, tt), tt))),
        ),
      ),
    ),
    tt,
  ),
)

typed : AreTyped (place_of tables program) (frame_of tables program) (bodies_of tables program)
typed = forms_are_typed tables program asked nested

begins : place_of tables program (main_of tables program) ≡ Main
begins = (main_has_its_place tables program (inr (inl refl)) (refl, (refl, tt))).0

-- n + 1, by its type
abbrev env : Env
env = record { structs = []; meant = λ name. Kept (Some int); member_type = λ index member. None }

abbrev sum : t.Tree
sum = t.Chain n (t.link (sp 0 1 1) g.Plus (t.Number (sp 0 1 1) 1 false) t.no_links)

abbrev functions : (binding : ℕ) → Signature
functions = signature_in tables (functions_of program.items)

abbrev Room : Address → DataType → Type 0
Room address type = false ≡ true

sum_known : Known Room env tables functions (place_of tables program) [] sum
sum_known = ((λ type is. (tt, subst (IsWayOf Room Word) (same_Some _ _ is) (refl, refl))), (tt, tt, tt))

sum_asked : Asked tables functions (place_of tables program) [] sum × IsWayOf Room (way tables (place_of tables program) sum) (Computed Int)
sum_asked =
    typed_is_asked [] (λ address type. false) (λ address type room. absurd (false≢true room)) env tables functions (place_of tables program) sum sum_known (Computed Int) refl
