-- A program in place:
-- void f(void) {} int g(void) { return 1; }
-- void main(void) { if (1) ; start { while ($) if ($) f(); farm { f(); barrier; } fork (2; @=$ && g(); $=$) f(); } start f(); }
use Rattle.std.specs.Prelude.{ℕ, ◌==◌, ◌||◌, Bool, true, false, [], ◌∷◌, codes, Some, None}
use Rattle.std.proofs.Common.{true≢false, refl}
use Rattle.fk_syntax.specs.declared.facts.Note.{Note}
use Rattle.fk_syntax.specs.declared.program.Mode.TheVariants as m
use Rattle.fk_syntax.specs.declared.sign.Sign.TheVariants as g
use Rattle.fk_syntax.specs.Tree as t
use Rattle.fk_syntax.specs.Program as p
use Rattle.fk_syntax.specs.Program.{Statement, Statements, ProgramTree}
use Rattle.fk_meaning_forms.specs.Tables.{Tables}
use Rattle.fk_meaning_forms.proofs.Short.{place, sp, nm, ty, function, nn, nt}
use Rattle.fk_meaning.specs.Program.{next_in, main_work}
use Rattle.fk_meaning.proofs.Spine.{untrue}
use Rattle.fk_lockstep.specs.Course.{ByItself, Follows}
use Rattle.fk_lockstep_structure.specs.Ahead.{all_outs}
use Rattle.fk_lockstep_structure.specs.InPlace.{IsInPlace}
use Rattle.fk_lockstep_structure.proofs.Programs.{programs_follow}

-- `f` has binding 1, `g` 2, and `main` 0
abbrev called_f : (token : ℕ) → Statement
called_f token = p.Expression (t.Postfix (t.Variable (nm (codes "f") token 1 1)) (t.call (sp 0 1 1) t.no_trees t.no_suffixes))

abbrev called_g : t.Tree
called_g = t.Postfix (t.Variable (nm (codes "g") 9 1 1)) (t.call (sp 0 1 1) t.no_trees t.no_suffixes)

abbrev rank : t.Tree
rank = t.GroupRank (sp 0 1 1)

-- by the note of its token the group splits there
abbrev part : t.Tree
part = t.Chain rank (t.link (sp 3 1 1) g.AndAnd called_g t.no_links)

abbrev in_start : Statements
in_start =
    p.statement (p.While (sp 3 1 1) rank (p.If (sp 4 1 1) rank (called_f 5)))
    (p.statement (p.Farm (sp 0 1 1) (p.Block (p.statement (called_f 6) (p.statement (p.Barrier (sp 0 1 1)) p.no_statements))))
    (p.statement (p.Fork (sp 0 1 1) (t.Number (sp 0 1 1) 2 false) part (Some rank) (called_f 8)) p.no_statements))

abbrev in_main : Statements
in_main =
    p.statement (p.If (sp 0 1 1) (t.Number (sp 0 1 1) 1 false) p.Empty)
    (p.statement (p.Start (sp 0 1 1) None (p.Block in_start)) (p.statement (p.Start (sp 0 1 1) None (called_f 7)) p.no_statements))

abbrev pub program : ProgramTree
program = record {
  items = p.FunctionItem (function m.Sync (ty t.Void 0) (nm (codes "f") 1 1 1) [] (Some p.no_statements))
      ∷ p.FunctionItem (function m.Sync (ty t.Int 0) (nm (codes "g") 10 1 1) [] (Some (p.statement (p.Return (sp 0 1 1) (Some (t.Number (sp 0 1 1) 1 false))) p.no_statements)))
      ∷ p.FunctionItem (function m.Async (ty t.Void 0) (nm (codes "main") 2 1 1) [] (Some in_main)) ∷ [];
  end = place 1 1;
  tokens = 11;
}

abbrev of_f : Note
of_f = nt 0 1 false false false

abbrev of_g : Note
of_g = nt 0 2 false false false

-- its `while` has a frame
abbrev pub tables : Tables
tables = record {
  notes = nn ∷ of_f ∷ nn ∷ nt 0 0 true false true ∷ nt 0 0 true false true ∷ of_f ∷ of_f ∷ of_f ∷ of_f ∷ of_g ∷ of_g ∷ [];
  kinds = [];
  slots = [];
  regions = record { at = 3; part = 0; level = 1; words = 2 } ∷ [];
}

abbrev pub may_call : (in_group : Bool) → (binding : ℕ) → Bool
may_call in_group binding = binding == 1 || binding == 2

pub is_in_place : IsInPlace tables program may_call
is_in_place = record {
  shaped = (tt, (((refl, tt), tt), (((tt, tt), ((tt, ((tt, (tt, (tt, (((λ k. refl), (λ e. untrue e)), tt, tt)))), (((tt, (((λ k. refl), (λ e. untrue e)), tt, tt)), (tt, tt)), ((tt, (tt, ((tt, (((λ k. refl), (λ e. untrue e)), tt, tt)), tt)), tt, (tt, (((λ k. refl), (λ e. untrue e)), tt, tt))), tt)))), ((tt, (tt, (((λ k. refl), (λ e. untrue e)), tt, tt))), tt))), tt)));
  noted = ((λ e. tt), ((λ e. (tt, tt)), ((λ e. untrue e), tt)));
  in_place = (
    (λ e. (refl, tt)),
    (λ e. (refl, tt, tt)),
    (λ e. untrue e),
    (
      (λ e. (refl, ((refl, tt), tt))),
      (λ e. (refl, ((refl, tt), tt), tt)),
      (λ e. untrue e),
      (
        (λ e. untrue e),
        (λ e. untrue e),
        (λ e. (
          refl,
          (
            (((λ f. untrue f), (λ f. untrue f)), tt, tt),
            (
              (refl, tt, ((((λ f. refl), (λ f. refl)), tt, (((λ f. refl), (λ f. refl)), tt, ((refl, (λ a. refl)), (tt, tt)))), ((refl, (((refl, (λ a. untrue a.predeclared)), (tt, tt)), (refl, tt))), ((refl, tt, (tt, ((λ e. ((λ f. refl), (λ f. refl))), ((refl, (λ a. refl)), (tt, tt)), tt)), tt, ((refl, (λ a. refl)), (tt, tt))), tt))), ((refl, tt, (refl, tt, (refl, (tt, tt)))), (tt, ((tt, (tt, ((λ e. refl), (refl, (tt, tt)), tt)), tt, (refl, (tt, tt))), tt)))),
              ((refl, tt, ((refl, (λ a. refl)), (tt, tt)), (refl, (tt, tt))), tt),
            ),
          ),
        )),
        tt,
      ),
    ),
  );
  valued = (tt, ((tt, tt), ((tt, ((tt, ((tt, (tt, tt)), ((((tt, ((tt, (tt, tt, tt)), (refl, refl), tt)), refl), (tt, refl), tt), tt))), (tt, tt))), tt)));
  returning = ((λ e. tt), ((λ e. (refl, tt)), ((λ e. absurd (true≢false e)), tt)));
}

follows : Follows (next_in tables program) all_outs (ByItself false) (main_work tables program)
follows = programs_follow tables program may_call is_in_place
