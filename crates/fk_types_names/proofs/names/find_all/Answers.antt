use Rattle.std.proofs.Common.{◌≡◌, ◌+◌, length, sym, subst, arith}
use Rattle.fk_types_names.specs.Filling.{AreApart, AreFound}
use Rattle.fk_types_names.specs.Scoped.{all_marks}
use Rattle.fk_types_names.proofs.names.find_all.Goals as goal

pub find_at-requires : goal.find_at-requires
find_at-requires c =
    let marks = all_marks c.args.scoped.now in
    let found = c.loop-at.invariant in
    record {
      sound = c.requires.sound;
      within = omega arith;
      known = c.requires.known;
      apart = subst (λ n. AreApart marks n) (sym found.size) c.requires.apart;
      before = subst (λ n. AreFound marks n c.loop-at.meanings c.loop-at.at) (sym found.size) found;
    }

pub loop-at-preserved : goal.loop-at-preserved
loop-at-preserved c = subst (λ n. AreFound (all_marks c.args.scoped.now) n c.find_at.new.meanings (c.loop-at.at + 1)) c.loop-at.invariant.size c.find_at.ensures

pub returns : goal.returns
returns c =
    let e : c.loop-at.at ≡ length (all_marks c.args.scoped.now) = omega arith in
    subst (λ n. AreFound (all_marks c.args.scoped.now) (length c.args.meanings.now) c.loop-at.meanings n) e c.loop-at.invariant
