use Rattle.std.proofs.Common.{◌≡◌, map, Some, refl, sym, ap, ◌∙◌, arith}
use Rattle.std.proofs.lemmas.List.{length-map}
use Rattle.fk_types_names.specs.View.{mark_of, declaration_of}
use Rattle.fk_types_names.specs.Outline.{Declares}
use Rattle.fk_types_names.specs.Visible.{depth, DeclaresHere}
use Rattle.fk_types_names.specs.TableView.{shown}
use Rattle.fk_types_names.proofs.SurveyLemmas.{mark_at, here_at, at_here}
use Rattle.fk_types_names.proofs.ReadingLemmas.{not_declared, past_other, read_at}
use Rattle.fk_types_names.proofs.reader.Reader.declare.Goals as goal

pub returns-in_default : goal.returns-in_default
returns-in_default c =
    let known = c.requires.here in
    let marks = map mark_of c.args.self.now.marks.now in
    let m = mark_of c.index-self-at.result in
    let here = mark_at c.args.self.now.marks.now c.args.at c.index-self-at.result c.requires.within c.index-self-at.is in
    record {
      past = record {
        depths = known.depths;
        file = known.file;
        first = known.first;
        holds = past_other marks c.args.at known.file (shown c.args.self.now.visible) c.args.self.now.locals.items (λ name p above. not_declared c.index-self-at.result (λ d e. c.in_default.not-Declares d (sym c.index-self-at.is ∙ e)) name (at_here (DeclaresHere name) marks c.args.at m here p)) known.holds;
      };
      same = refl;
    }

pub returns-then-index-eq0 : goal.returns-then-index-eq0
returns-then-index-eq0 c =
    let known = c.requires.here in
    let marks = map mark_of c.args.self.now.marks.now in
    let n = length-map c.args.self.now.marks.now mark_of in
    let s = known.depths.size in
    let flat : depth marks c.args.at ≡ 0 = sym (known.depths.each c.args.at (omega (arith, n))) ∙ (sym (read_at c.args.self.now.depths.items c.args.at c.index.result.now (omega (arith, n, s)) c.index.ensures) ∙ c.if-index-eq0.true) in
    record {
      past = record {
        depths = known.depths;
        file = known.file;
        first = known.first;
        holds = past_other marks c.args.at known.file (shown c.args.self.now.visible) c.args.self.now.locals.items (λ name p above. omega (arith, flat, above)) known.holds;
      };
      same = refl;
    }

pub declare_inside-requires-clause-named : goal.declare_inside-requires-clause-named
declare_inside-requires-clause-named c =
    let at_mark = mark_at c.args.self.now.marks.now c.args.at c.index-self-at.result c.requires.within c.index-self-at.is ∙ ap (λ m. Some (mark_of m)) (c.index-self-at.is ∙ c.in-Declares.is) in
    here_at (DeclaresHere c.name-name.result.now) (map mark_of c.args.self.now.marks.now) c.args.at (Declares (declaration_of c.in-Declares.declaration)) at_mark (sym c.name-name.ensures)
