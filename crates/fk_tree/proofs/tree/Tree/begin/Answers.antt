use Rattle.std.proofs.Common.{◌≡◌, ℕ, OnOk, sym, ap, ◌∙◌, subst, List, length, slice_index, arith}
use Rattle.fk_tree.specs.Tree as t
use Rattle.fk_tree.specs.View.{tree_of}
use Rattle.fk_tree.proofs.Begins.{begin_split, root_some, length-root}
use Rattle.fk_tree.proofs.tree.Tree.begin.Goals as goal

pub make_parts-requires-clause-there : goal.make_parts-requires-clause-there
make_parts-requires-clause-there c = root_some _ (tree_of c.args.self.now) c.args.self.now.sound

pub make_parts-requires-clause-length : goal.make_parts-requires-clause-length
make_parts-requires-clause-length c =
    ap length c.as_slice.ensures.value ∙ c.in_ok-of.ensures.length ∙ c.len.ensures ∙ sym (length-root _ (tree_of c.args.self.now) c.args.self.now.sound)

pub returns-clause-tree : goal.returns-clause-tree
returns-clause-tree c =
    let tree = c.args.self.now in
    let size = ap length c.as_slice.ensures.value ∙ c.in_ok-of.ensures.length ∙ c.len.ensures in
    let same = begin_split _ c.args.count c.as_slice.result.now (tree_of tree) tree.sound size
    (λ h lt. ap (λ (xs : List ℕ). slice_index xs h) c.as_slice.ensures.value ∙ c.in_ok-of.ensures.each h (omega (arith, lt, c.len.ensures))) in
    subst (λ (u : t.Tree). OnOk c.make_parts.result (tree_of c.make_parts.new.self ≡ u)) same c.make_parts.ensures.tree
