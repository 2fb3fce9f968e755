use Rattle.std.proofs.Common.{◌+◌, ◌<◌, ◌≤◌, length, map, refl, sym, subst, ◌∙◌, arith}
use Rattle.std.specs.Prelude.{slice_index}
use Rattle.std.proofs.lemmas.List.{length-map}
use Rattle.fk_types_names.specs.View.{mark_of}
use Rattle.fk_types_names.specs.Visible.{depth, DeclaresAt, IsVisible}
use Rattle.fk_types_names.specs.Locals.{Each, Holds}
use Rattle.fk_types_names.specs.TableView.{shown}
use Rattle.fk_types_names.proofs.ReadingLemmas.{Past, Reached, read_at, marked, popped, left, next_at, narrower}
use Rattle.fk_types_names.proofs.reader.Reader.leave.Goals as goal

pub loop-local-init : goal.loop-local-init
loop-local-init c =
    let known = c.requires.past in
    let marks = map mark_of c.args.self.now.marks.now in
    let n = length-map c.args.self.now.marks.now mark_of in
    let s = known.depths.size in
    record {
      marks = refl;
      level = read_at c.args.self.now.depths.items (c.args.at + 1) c.index-depth.result.now (omega (arith, n, s)) c.index-depth.ensures ∙ known.depths.each (c.args.at + 1) (omega (arith, n));
      known = record {
        depths = known.depths;
        file = known.file;
        first = known.first;
        holds = narrower marks c.args.at known.file (shown c.args.self.now.visible) c.args.self.now.locals.items known.holds;
      };
    }

pub pop_below-requires : goal.pop_below-requires
pop_below-requires c =
    let known = c.loop-local.invariant.known in
    let self = c.loop-local.self in
    let marks = map mark_of self.marks.now in
    subst (λ ds. Each (λ l. l.mark < length ds) self.locals.items) (sym c.deref.ensures.value)
    (marked marks c.args.at known.file self.depths.items known.depths (Past marks c.args.at) (Reached marks c.args.at) self.locals.items known.holds.sound)

pub loop-local-preserved : goal.loop-local-preserved
loop-local-preserved c =
    let known = c.loop-local.invariant.known in
    let self = c.loop-local.self in
    let marks = map mark_of self.marks.now in
    let l = c.in-Some.local in
    let deep = subst (λ ds. c.index-depth.result.now < slice_index ds l.mark) c.deref.ensures.value c.in-Some.ensures.deep in
    let deep' = subst (λ n. n < slice_index self.depths.items l.mark) c.loop-local.invariant.level deep in
    record {
      marks = c.loop-local.invariant.marks;
      level = c.loop-local.invariant.level;
      known = record {
        depths = known.depths;
        file = known.file;
        first = known.first;
        holds = popped marks c.args.at known.file self.depths.items known.depths (Past marks c.args.at) (Reached marks c.args.at) (depth marks (c.args.at + 1)) (λ i r. r.1)
            (shown self.visible) (shown c.set.new.self) c.pop_below.new.locals.items l deep' c.in_ok-set.ensures.same c.in_ok-set.ensures.others
            (subst (λ ls. Holds (DeclaresAt marks) (depth marks) (Past marks c.args.at) (Reached marks c.args.at) known.file (shown self.visible) ls) c.in-Some.ensures.last known.holds);
      };
    }

pub returns-clause-next : goal.returns-clause-next
returns-clause-next c =
    let known = c.loop-local.invariant.known in
    let self = c.loop-local.self in
    let marks = map mark_of self.marks.now in
    let limit = depth marks (c.args.at + 1) in
    record {
      depths = known.depths;
      file = known.file;
      first = known.first;
      holds = subst (λ ls. Holds (DeclaresAt marks) (depth marks) (λ i. IsVisible marks i (c.args.at + 1)) (λ i. IsVisible marks i (c.args.at + 1)) known.file (shown self.visible) ls) (sym (c.in_default.ensures.kept refl))
          (next_at marks c.args.at known.file (shown self.visible) self.locals.items
          (left marks c.args.at known.file self.depths.items known.depths (Past marks c.args.at) (Reached marks c.args.at) limit (shown self.visible) self.locals.items
          (λ front l e. subst (λ n. slice_index self.depths.items l.mark ≤ n) c.loop-local.invariant.level (subst (λ ds. slice_index ds l.mark ≤ c.index-depth.result.now) c.deref.ensures.value (c.in_default.ensures.none refl front l e)))
          known.holds));
    }
