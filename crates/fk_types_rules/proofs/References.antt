-- What an expression names stands at nodes of it, no two at one; and it declares nothing.
use Rattle.std.proofs.Common.{◌≡◌, ℕ, Bool, List, [], ◌∷◌, ◌++◌, Option, Some, None, refl, sym, ap, ◌∙◌, append_assoc}
use Rattle.fk_syntax.specs.declared.nodes.Index.{Index}
use Rattle.fk_syntax.specs.declared.nodes.Index.TheVariants.{Node}
use Rattle.fk_syntax.specs.Tree as t
use Rattle.fk_syntax.specs.Tree.{Named, Tree, Links, Trees, Suffixes}
use Rattle.fk_syntax.specs.Nodes.{type_indices, tree_indices, links_indices, trees_indices, suffixes_indices, optional_indices}
use Rattle.fk_types_names.specs.Outline.{MarkTree, declared_by, declared_in, tree_marks, links_marks, trees_marks, suffixes_marks, optional_marks}
use Rattle.fk_types_references.specs.References.{ReferenceTree, Member, main_token, tree_references, links_references, trees_references, suffixes_references, optional_references}
use Rattle.fk_types_rules.specs.Bound.{token_of}
use Rattle.fk_types_rules.proofs.Counting as c
use Rattle.fk_types_rules.proofs.Counting.{by, AreCounted}

pub declared_in-append : (xs ys : List MarkTree) → declared_in (xs ++ ys) ≡ declared_in xs ++ declared_in ys
declared_in-append [] ys = refl
declared_in-append (x ∷ xs) ys = ap (λ ds. declared_by x ++ ds) (declared_in-append xs ys) ∙ sym (append_assoc (declared_by x) (declared_in xs) (declared_in ys))

-- the marks of an expression, what it names, and its nodes
pub record Refers (marks : List MarkTree) (references : List ReferenceTree) (indices : List Index) : Type 0 where
  pub quiet : declared_in marks ≡ []
  pub within : AreCounted (by token_of) references indices

none : (indices : List Index) → Refers [] [] indices
none indices = record { quiet = refl; within = c.none indices }

later : {m : List MarkTree} {r : List ReferenceTree} {i : List Index} {at : ℕ} → Refers m r i → Refers m r (Node at ∷ i)
later h = record { quiet = h.quiet; within = c.later h.within }

with_member : {m : List MarkTree} {r : List ReferenceTree} {i : List Index} {whole : ℕ} {is_arrow : Bool} {name : Named} → Refers m r i → Refers m (Member whole is_arrow name ∷ r) (Node name.at ∷ i)
with_member h = record { quiet = h.quiet; within = c.first token_of h.within }

beside : {m n : List MarkTree} {r s : List ReferenceTree} {i j : List Index} → Refers m r i → Refers n s j → Refers (m ++ n) (r ++ s) (i ++ j)
beside {m} {n} left right = record {
  quiet = declared_in-append m n ∙ ap (λ ds. ds ++ declared_in n) left.quiet ∙ right.quiet;
  within = c.beside left.within right.within;
}

mutual
  of_tree : (x : Tree) → Refers (tree_marks x) (tree_references x) (tree_indices x)
  of_tree (t.Number spot value unsigned) = none (Node spot.at ∷ [])
  of_tree (t.Puts spot text) = none (Node spot.at ∷ [])
  of_tree (t.Sizeof spot type) = record { quiet = refl; within = c.first token_of (c.none (type_indices type)) }
  of_tree (t.Variable name) = record { quiet = refl; within = c.first token_of (c.none []) }
  of_tree (t.GroupNumber spot) = none (Node spot.at ∷ [])
  of_tree (t.GroupRank spot) = none (Node spot.at ∷ [])
  of_tree (t.Prefix spot sign operand) = later (of_tree operand)
  of_tree (t.Cast spot type operand) = later (beside (none (type_indices type)) (of_tree operand))
  of_tree (t.Chain first links) = beside (of_tree first) (of_links links)
  of_tree (t.Postfix whole suffixes) = beside (of_tree whole) (of_suffixes (main_token whole) suffixes)
  of_tree (t.Assign spot sign target value) = beside (of_tree target) (later (of_tree value))
  of_tree (t.Choose spot condition first second) = beside (beside (of_tree condition) (later (of_tree first))) (of_tree second)

  of_links : (x : Links) → Refers (links_marks x) (links_references x) (links_indices x)
  of_links t.no_links = none []
  of_links (t.link spot sign right others) = later (beside (of_tree right) (of_links others))

  of_trees : (x : Trees) → Refers (trees_marks x) (trees_references x) (trees_indices x)
  of_trees t.no_trees = none []
  of_trees (t.tree first others) = beside (of_tree first) (of_trees others)

  of_suffixes : (whole : ℕ) (x : Suffixes) → Refers (suffixes_marks x) (suffixes_references whole x) (suffixes_indices x)
  of_suffixes whole t.no_suffixes = none []
  of_suffixes whole (t.index spot by others) = later (beside (of_tree by) (of_suffixes spot.at others))
  of_suffixes whole (t.call spot arguments others) = later (beside (of_trees arguments) (of_suffixes spot.at others))
  of_suffixes whole (t.dot spot name others) = later (with_member (of_suffixes spot.at others))
  of_suffixes whole (t.arrow spot name others) = later (with_member (of_suffixes spot.at others))
  of_suffixes whole (t.up spot others) = later (of_suffixes spot.at others)
  of_suffixes whole (t.down spot others) = later (of_suffixes spot.at others)

pub optional_refers : (x : Option Tree) → Refers (optional_marks x) (optional_references x) (optional_indices x)
optional_refers None = none []
optional_refers (Some x) = of_tree x
