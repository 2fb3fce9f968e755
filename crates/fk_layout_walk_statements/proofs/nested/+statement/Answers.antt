use Rattle.std.proofs.Common.{◌≡◌, ◌∙◌, ap, sym, true, Option, rules, arith}
use Rattle.std.specs.Option.{option_map}
use Rattle.std.proofs.lemmas.Grind.{common_steps}
use Rattle.fk_syntax.specs.declared.program.Stmt.TheFolds.{the_lemmas}
use Rattle.fk_syntax.specs.Program as p
use Rattle.fk_syntax.specs.Program.{Statement}
use Rattle.fk_syntax.specs.ProgramView.{statement_of}
use Rattle.fk_syntax.specs.View.{tree_of}
use Rattle.fk_meaning_operation.specs.declared.operation.Operation.TheVariants as o
use Rattle.fk_meaning_operation.specs.declared.operation.SplitKind.TheVariants.{Fork}
use Rattle.fk_meaning_forms.specs.Code.{done, choose}
use Rattle.fk_meaning_forms.specs.Expressions.{plain}
use Rattle.fk_meaning_forms.specs.Statements.{executed}
use Rattle.fk_layout_walk.specs.Known.{tables_of, functions_of}
use Rattle.fk_layout_walk.specs.Location.{behind_value}
use Rattle.fk_layout_walk.specs.Through.{through}
use Rattle.fk_layout_walk_statements.specs.Inside.{inside_of}
use Rattle.fk_layout_walk_statements.specs.Nested.{part_of_group}
use Rattle.fk_layout_walk_statements.proofs.nested.+statement.Goals as goal

pub meeting-returns : goal.meeting-returns
meeting-returns g t c = λ rest.
    c.apart.ensures (plain (o.Meet true) rest)
    ∙ ap (λ s. through g.V.Visitor.after g.V.Visitor.counts (functions_of c.args.known.now) s rest) (sym c.plain.ensures)

pub statement-returns-in_err-ways-in-Some : goal.statement-returns-in_err-ways-in-Some
statement-returns-in_err-ways-in-Some g t c = λ rest.
    let whole : statement_of c.args.whole.now ≡ p.IfElse c.in-If.spot (tree_of c.in-If.condition) (statement_of c.deref-in-Some.result.now) (statement_of c.in-Some.second.value) = first_of (grind (arith, common_steps, the_lemmas), search (rules, the_lemmas)) in
    ap (λ (x : Statement). through g.V.Visitor.after g.V.Visitor.counts (functions_of c.args.known.now) c.args.visitor.now (executed (tables_of c.args.known.now) (functions_of c.args.known.now) (inside_of c.args.inside) x rest)) whole
    ∙ c.in_err-ways-in-Some.ensures (statement_of c.in-Some.second.value) rest
    ∙ ap (λ (r : Option Unit). through g.V.Visitor.after g.V.Visitor.counts (functions_of c.args.known.now) c.first_way.new.visitor (behind_value r rest)) (sym c.from_residual.ensures)

pub statement-returns-in_err-numbers-in-Fork : goal.statement-returns-in_err-numbers-in-Fork
statement-returns-in_err-numbers-in-Fork g t c = λ rest.
    let whole : statement_of c.args.whole.now ≡ p.Fork c.in-Fork.spot (tree_of c.in-Fork.parts) (tree_of c.in-Fork.part) (option_map tree_of c.in-Fork.rank) (statement_of c.in-Fork.body.value) = first_of (grind (arith, common_steps, the_lemmas), search (rules, the_lemmas)) in
    ap (λ (x : Statement). through g.V.Visitor.after g.V.Visitor.counts (functions_of c.args.known.now) c.args.visitor.now (executed (tables_of c.args.known.now) (functions_of c.args.known.now) (inside_of c.args.inside) x rest)) whole
    ∙ c.in_err-numbers-in-Fork.ensures (choose c.in-Fork.spot.place (o.Split Fork) (part_of_group (tables_of c.args.known.now) (functions_of c.args.known.now) (inside_of c.args.inside) c.in-Fork.spot 0 (statement_of c.in-Fork.body.value)) done (plain o.Resume rest))
    ∙ ap (λ (r : Option Unit). through g.V.Visitor.after g.V.Visitor.counts (functions_of c.args.known.now) c.numbers.new.visitor (behind_value r rest)) (sym c.from_residual-in_err-numbers-in-Fork.ensures)

pub statement-returns-in_ok-numbers-in-Fork : goal.statement-returns-in_ok-numbers-in-Fork
statement-returns-in_ok-numbers-in-Fork g t c = λ rest.
    let whole : statement_of c.args.whole.now ≡ p.Fork c.in-Fork.spot (tree_of c.in-Fork.parts) (tree_of c.in-Fork.part) (option_map tree_of c.in-Fork.rank) (statement_of c.deref-in-Fork.result.now) = first_of (grind (arith, common_steps, the_lemmas), search (rules, the_lemmas)) in
    ap (λ (x : Statement). through g.V.Visitor.after g.V.Visitor.counts (functions_of c.args.known.now) c.args.visitor.now (executed (tables_of c.args.known.now) (functions_of c.args.known.now) (inside_of c.args.inside) x rest)) whole
    ∙ c.in_ok-numbers-in-Fork.ensures (choose c.in-Fork.spot.place (o.Split Fork) (part_of_group (tables_of c.args.known.now) (functions_of c.args.known.now) (inside_of c.args.inside) c.in-Fork.spot 0 (statement_of c.deref-in-Fork.result.now)) done (plain o.Resume rest))
    ∙ c.group.ensures rest

pub statement-returns-in-While : goal.statement-returns-in-While
statement-returns-in-While g t c = λ rest.
    let whole : statement_of c.args.whole.now ≡ p.While c.in-While.spot (tree_of c.in-While.condition) (statement_of c.deref-in-While.result.now) = first_of (grind (arith, common_steps, the_lemmas), search (rules, the_lemmas)) in
    ap (λ (x : Statement). through g.V.Visitor.after g.V.Visitor.counts (functions_of c.args.known.now) c.args.visitor.now (executed (tables_of c.args.known.now) (functions_of c.args.known.now) (inside_of c.args.inside) x rest)) whole
    ∙ c.repeat.ensures rest

pub statement-returns-in-DoWhile : goal.statement-returns-in-DoWhile
statement-returns-in-DoWhile g t c = λ rest.
    let whole : statement_of c.args.whole.now ≡ p.DoWhile c.in-DoWhile.spot (statement_of c.deref-in-DoWhile.result.now) (tree_of c.in-DoWhile.condition) = first_of (grind (arith, common_steps, the_lemmas), search (rules, the_lemmas)) in
    ap (λ (x : Statement). through g.V.Visitor.after g.V.Visitor.counts (functions_of c.args.known.now) c.args.visitor.now (executed (tables_of c.args.known.now) (functions_of c.args.known.now) (inside_of c.args.inside) x rest)) whole
    ∙ c.repeat-in-DoWhile.ensures rest
