use Rattle.std.proofs.Common.{◌≡◌, List, ℕ, length, map, sym, subst, ap, ◌∙◌, arith}
use Rattle.std.specs.Prelude.{MatchOption}
use Rattle.std.proofs.lemmas.List.{length-map}
use Rattle.fk_types_names.specs.Outline.{MarkTree}
use Rattle.fk_types_names.specs.View.{mark_of}
use Rattle.fk_types_names.specs.Visible.{IsHidden, IsInnermost}
use Rattle.fk_types_names.specs.Reading.{AreDepths}
use Rattle.fk_types_names.specs.Scoped.{AreInnermost, NamesAt}
use Rattle.fk_types_names.proofs.ScopedLemmas.{innermost_none, innermost_more}
use Rattle.fk_types_names.proofs.scoped.visible.Goals as goal

pub loop-at-init : goal.loop-at-init
loop-at-init c = record {
  here = c.in_ok-reader.ensures.start;
  same = c.in_ok-reader.ensures.marks;
  found = innermost_none (map mark_of c.args.marks.now) c.in_ok-innermost.innermost.items c.in_ok-innermost.ensures.items;
}

pub innermost_at-requires : goal.innermost_at-requires
innermost_at-requires c = record {
  here = c.loop-at.invariant.here;
  within = (let n = length-map c.loop-at.reader.marks.now mark_of in let s = ap length c.loop-at.invariant.same in omega (arith, n, s));
}

pub pass-requires-clause-within : goal.pass-requires-clause-within
pass-requires-clause-within c = let s = ap length c.loop-at.invariant.same in omega (arith, s)

pub loop-at-preserved : goal.loop-at-preserved
loop-at-preserved c =
    let marks = map mark_of c.args.marks.now in
    let at = c.loop-at.at in
    let o = c.innermost_at.result in
    record {
      here = c.in_ok-pass.ensures.next;
      same = c.in_ok-pass.ensures.same ∙ c.loop-at.invariant.same;
      found = innermost_more marks c.loop-at.innermost.items c.push.new.self.items at o c.loop-at.invariant.found
          (subst (λ (ms : List MarkTree). (bytes : List ℕ) → NamesAt ms bytes at → MatchOption o (IsHidden ms bytes at) (IsInnermost ms bytes at))
          (ap (map mark_of) c.loop-at.invariant.same) c.innermost_at.ensures)
          c.in_ok-push.ensures.items;
    }

pub returns-clause-innermost : goal.returns-clause-innermost
returns-clause-innermost c =
    let n = length-map c.args.marks.now mark_of in
    let e : c.loop-at.at ≡ length (map mark_of c.args.marks.now) = omega (arith, n) in
    subst (λ k. AreInnermost (map mark_of c.args.marks.now) c.loop-at.innermost.items k) e c.loop-at.invariant.found

pub returns-clause-depths : goal.returns-clause-depths
returns-clause-depths c =
    subst (λ ds. AreDepths (map mark_of c.args.marks.now) ds) (sym c.into_depths.ensures)
    (subst (λ ms. AreDepths ms c.loop-at.reader.depths.items) (ap (map mark_of) c.loop-at.invariant.same) c.loop-at.invariant.here.depths)
