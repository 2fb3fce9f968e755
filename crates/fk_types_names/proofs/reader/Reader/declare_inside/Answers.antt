use Rattle.std.proofs.Common.{map, refl, sym, subst, ◌∙◌, arith}
use Rattle.fk_types_names.specs.View.{mark_of}
use Rattle.fk_types_names.specs.Visible.{depth, DeclaresHere, DeclaresAt}
use Rattle.fk_types_names.specs.Locals.{Holds}
use Rattle.fk_types_names.specs.TableView.{shown}
use Rattle.fk_types_names.proofs.SurveyLemmas.{at_within}
use Rattle.fk_types_names.proofs.TableLemmas.{put_back}
use Rattle.fk_types_names.proofs.ReadingLemmas.{Past, shown_within, same_scope, other_scope, past_again, past_new}
use Rattle.fk_types_names.proofs.reader.Reader.declare_inside.Goals as goal

pub is_of_scope-requires-clause-here : goal.is_of_scope-requires-clause-here
is_of_scope-requires-clause-here c =
    let w = at_within (DeclaresHere c.args.name.now) (map mark_of c.args.self.now.marks.now) c.args.at c.requires.named in
    let n = c.requires.here.depths.size in
    omega (arith, w, n)

pub is_of_scope-requires-clause-there : goal.is_of_scope-requires-clause-there
is_of_scope-requires-clause-there c = λ o e.
    let w = shown_within c.args.self.now c.args.at c.requires.here c.args.name.now o (sym c.in_ok-hides.ensures.old ∙ e) in
    let n = c.requires.here.depths.size in
    omega (arith, w, n)

pub returns-then-is_of_scope-clause-past : goal.returns-then-is_of_scope-clause-past
returns-then-is_of_scope-clause-past c =
    let known = c.requires.here in
    let marks = map mark_of c.args.self.now.marks.now in
    let name = c.args.name.now in
    let old = c.in_ok-hides.ensures.old in
    let found = c.is_of_scope.ensures.yes c.if-is_of_scope.true in
    let shows = sym old ∙ found.1 in
    let w = shown_within c.args.self.now c.args.at known name found.0 shows in
    let within = at_within (DeclaresHere name) marks c.args.at c.requires.named in
    let kept = put_back name (shown c.args.self.now.visible) (shown c.set.new.self) (c.in_ok-set.ensures.same ∙ old) (λ other apart. c.in_ok-set.ensures.others other apart ∙ c.in_ok-hides.ensures.others other apart) in
    record {
      depths = known.depths;
      file = known.file;
      first = known.first;
      holds = past_again marks c.args.at known.file (shown c.args.self.now.visible) c.args.self.now.locals.items known.first name c.requires.named found.0 shows (same_scope marks c.args.self.now.depths.items known.depths found.0 c.args.at w within found.2) (shown c.set.new.self) kept known.holds;
    }

pub returns-clause-past : goal.returns-clause-past
returns-clause-past c =
    let known = c.requires.here in
    let marks = map mark_of c.args.self.now.marks.now in
    let name = c.args.name.now in
    let old = c.in_ok-hides.ensures.old in
    let within = at_within (DeclaresHere name) marks c.args.at c.requires.named in
    record {
      depths = known.depths;
      file = known.file;
      first = known.first;
      holds = subst (λ ls. Holds (DeclaresAt marks) (depth marks) (Past marks c.args.at) (Past marks c.args.at) known.file (shown c.replace.new.self) ls) (sym c.in_ok-push.ensures.items)
          (past_new marks c.args.at known.file (shown c.args.self.now.visible) c.args.self.now.locals.items known.first name c.requires.named (shown c.replace.new.self)
          (record { name = c.args.name; mark = c.args.at; hides = c.in_ok-hides.hides }) refl refl old
          (λ o e. other_scope marks c.args.self.now.depths.items known.depths o c.args.at (shown_within c.args.self.now c.args.at known name o e) within (c.is_of_scope.ensures.no c.if-is_of_scope.false o (old ∙ e)))
          c.in_ok-hides.ensures.same c.in_ok-hides.ensures.others known.holds);
    }
