-- A round in which no step changes the tree.
use Rattle.std.proofs.Common.{◌≡◌, ◌≢◌, List, [], ◌∷◌, ℕ, Option, Some, None, true, ap, ◌∙◌, refl}
use Rattle.std.specs.Prelude.{map, is_some}
use Rattle.fk_tree.specs.declared.node.Kind.TheVariants.{Lockstep}
use Rattle.fk_tree.specs.Tree.{Tree, Node, kind_of}
use Rattle.fk_meaning.specs.Round.{Acting, all_changes}
use Rattle.fk_core.specs.declared.op.CoreOp.{CoreOp}
use Rattle.fk_core.specs.Next.{Position}
use Rattle.fk_machine.specs.Hart.{Hart}
use Rattle.fk_sim_nodes.specs.Node.{AreAsMany}
use Rattle.fk_lockstep_nodes.proofs.One.{change_keeps}
use Rattle.fk_sim_block.specs.Owner.{Owner, Doing}
use Rattle.fk_sim_rounds.specs.Next.{all_landed}
use Rattle.fk_sim_rounds.specs.After.{actings, AllKeep}

-- ---- the tree

pub all_keep : (actors : List (Acting Position)) (old : Tree) (ds : List Doing) (tree : Tree) → AllKeep ds → all_changes actors old (actings ds) tree ≡ tree
all_keep actors old [] tree keep = refl
all_keep actors old (d ∷ ds) tree keep =
    ap (λ x. all_changes actors old (actings ds) x) (change_keeps actors old d.acting.runner.has.number d.acting.due tree keep.0) ∙ all_keep actors old ds tree keep.1

-- ---- lists

pub many_become : (f : Doing → Owner) (ns : List ℕ) (hs : List Hart) (ds : List Doing) → AreAsMany ns hs ds → AreAsMany ns hs (map f ds)
many_become f [] [] [] many = tt
many_become f (n ∷ ns) (h ∷ hs) (d ∷ ds) many = many_become f ns hs ds many
many_become f ns hs ds many = absurd (assumption many)

pub many_landed : (core : List CoreOp) (ns : List ℕ) (hs : List Hart) (ps : List Owner) → AreAsMany ns hs ps → AreAsMany ns hs (all_landed core ps)
many_landed core [] [] [] many = tt
many_landed core (n ∷ ns) (h ∷ hs) (p ∷ ps) many = many_landed core ns hs ps many
many_landed core ns hs ps many = absurd (assumption many)

pub some_kind : (x : Option Node) → kind_of x ≡ Some Lockstep → is_some x ≡ true
some_kind None e = absurd (cc)
some_kind (Some node) e = refl

pub some_there : (x : Option Node) → x ≢ None → is_some x ≡ true
some_there None ne = absurd (ne refl)
some_there (Some node) ne = refl
