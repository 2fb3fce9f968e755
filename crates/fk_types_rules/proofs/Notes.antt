-- The notes of an expression, and of a piece, stand at nodes of it, no two at one.
use Rattle.std.proofs.Common.{ℕ, ◌≤◌, false, List, [], ◌∷◌, ◌++◌, Option, Some, None, sum_by, subst, arith}
use Rattle.std.proofs.lemmas.List.Sums.{sum_by-cons, sum_by-append}
use Rattle.fk_syntax.specs.declared.nodes.Index.{Index}
use Rattle.fk_syntax.specs.declared.nodes.Index.TheVariants.{Node}
use Rattle.fk_syntax.specs.declared.place.Spot.{Spot}
use Rattle.fk_syntax.specs.declared.sign.Sign.{Sign}
use Rattle.fk_syntax.specs.Tree as t
use Rattle.fk_syntax.specs.Tree.{Tree, Links, Trees, Suffixes}
use Rattle.fk_syntax.specs.Program.{DeclaredTree}
use Rattle.fk_syntax.specs.Nodes.{type_indices, tree_indices, links_indices, trees_indices, suffixes_indices, optional_indices, declared_indices}
use Rattle.fk_types_operators.specs.declared.values.ExpressionType.{ExpressionType}
use Rattle.fk_types_judgments.specs.Term as e
use Rattle.fk_types_judgments.specs.Term.{Term, Terms, term_of, with_links, with_arguments, with_suffixes, prefix_term, joined_term}
use Rattle.fk_types_judgments.specs.Names.{Env}
use Rattle.fk_types_judgments.specs.Typing.{Noted, note, noted, all_noted, type_of}
use Rattle.fk_types_expressions.proofs.ReadLemmas.{noted-prefix, noted-joined}
use Rattle.fk_types_obligations.specs.Pieces as q
use Rattle.fk_types_obligations.specs.Pieces.{PieceTree}
use Rattle.fk_types_rules.specs.Noted.{optional_noted, declared_noted, piece_noted, pieces_noted}
use Rattle.fk_types_rules.proofs.Counting as c
use Rattle.fk_types_rules.proofs.Counting.{by, times, AreCounted}
use Rattle.fk_types_rules.proofs.Pieces.{piece_indices, by_piece}

abbrev pub note_token : Noted → ℕ
note_token n = n.at

abbrev AreAt : List Noted → List Index → Type 0
AreAt notes indices = AreCounted (by note_token) notes indices

-- a note of a sign behind those of its operands, where the sign may stand between them in the text
with_sign : {ns : List Noted} (i j : List Index) (at : ℕ) (type : Option ExpressionType) → AreAt ns (i ++ j) → AreAt (ns ++ note at type) (i ++ (Node at ∷ j))
with_sign i j at type h = let n : Noted = record { at = at; type = type } in c.between note_token i j n h

module _ (env : Env) where
  prefixed : (spot : Spot) (s : Sign) (u : Term) (i : List Index) → AreAt (noted env u) i → AreAt (noted env (prefix_term spot s u)) (Node spot.at ∷ i)
  prefixed spot s u i h = subst (λ ns. AreAt ns (Node spot.at ∷ i)) (noted-prefix env spot s u) (with_sign [] i spot.at (type_of env (prefix_term spot s u)) h)

  joined : (spot : Spot) (s : Sign) (u v : Term) (i j : List Index) → AreAt (noted env u) i → AreAt (noted env v) j → AreAt (noted env (joined_term spot s u v)) (i ++ (Node spot.at ∷ j))
  joined spot s u v i j left right = subst (λ ns. AreAt ns (i ++ (Node spot.at ∷ j))) (noted-joined env spot s u v) (with_sign i j spot.at (type_of env (joined_term spot s u v)) (c.beside left right))

  mutual
    of_tree : (x : Tree) → AreAt (noted env (term_of x)) (tree_indices x)
    of_tree (t.Number spot value unsigned) = c.first note_token (c.none [])
    of_tree (t.Puts spot text) = c.first note_token (c.none [])
    of_tree (t.Sizeof spot type) = c.first note_token (c.none (type_indices type))
    of_tree (t.Variable name) = c.first note_token (c.none [])
    of_tree (t.GroupNumber spot) = c.first note_token (c.none [])
    of_tree (t.GroupRank spot) = c.first note_token (c.none [])
    of_tree (t.Prefix spot s operand) = prefixed spot s (term_of operand) (tree_indices operand) (of_tree operand)
    of_tree (t.Cast spot type operand) = with_sign [] (type_indices type ++ tree_indices operand) spot.at _ (c.skip (type_indices type) (of_tree operand))
    of_tree (t.Chain first links) = of_links (term_of first) (tree_indices first) (of_tree first) links
    of_tree (t.Postfix whole suffixes) = of_suffixes (term_of whole) (tree_indices whole) (of_tree whole) suffixes
    of_tree (t.Assign spot s target value) = with_sign (tree_indices target) (tree_indices value) spot.at _ (c.beside (of_tree target) (of_tree value))
    of_tree (t.Choose spot condition first second) =
        let i = tree_indices condition in
        let j = tree_indices first in
        let k = tree_indices second in
        c.regroup_back i (Node spot.at ∷ j) k (with_sign i (j ++ k) spot.at _ (c.regroup i j k (c.beside (c.beside (of_tree condition) (of_tree first)) (of_tree second))))

    -- what stands before signs that group to the left, at these nodes, with them
    of_links : (u : Term) (i : List Index) → AreAt (noted env u) i → (x : Links) → AreAt (noted env (with_links u x)) (i ++ links_indices x)
    of_links u i h t.no_links = c.wider [] h
    of_links u i h (t.link spot s right others) =
        let own : List Index = Node spot.at ∷ tree_indices right in
        c.regroup i own (links_indices others) (of_links (joined_term spot s u (term_of right)) (i ++ own) (joined spot s u (term_of right) i (tree_indices right) h (of_tree right)) others)

    of_arguments : (us : Terms) (i : List Index) → AreAt (all_noted env us) i → (x : Trees) → AreAt (all_noted env (with_arguments us x)) (i ++ trees_indices x)
    of_arguments us i h t.no_trees = c.wider [] h
    of_arguments us i h (t.tree first others) =
        c.regroup i (tree_indices first) (trees_indices others) (of_arguments (e.also us (term_of first)) (i ++ tree_indices first) (c.beside h (of_tree first)) others)

    -- what stands before suffixes, at these nodes, with them
    of_suffixes : (u : Term) (i : List Index) → AreAt (noted env u) i → (x : Suffixes) → AreAt (noted env (with_suffixes u x)) (i ++ suffixes_indices x)
    of_suffixes u i h t.no_suffixes = c.wider [] h
    of_suffixes u i h (t.index spot by others) =
        let own : List Index = Node spot.at ∷ tree_indices by in
        c.regroup i own (suffixes_indices others) (of_suffixes (e.Index spot u (term_of by)) (i ++ own) (with_sign i (tree_indices by) spot.at _ (c.beside h (of_tree by))) others)
    of_suffixes u i h (t.call spot arguments others) =
        let own : List Index = Node spot.at ∷ trees_indices arguments in
        let all = of_arguments e.no_terms [] (c.none []) arguments in
        c.regroup i own (suffixes_indices others) (of_suffixes (e.Call spot u (with_arguments e.no_terms arguments)) (i ++ own) (with_sign i (trees_indices arguments) spot.at _ (c.beside h all)) others)
    of_suffixes u i h (t.dot spot member others) =
        let own : List Index = Node spot.at ∷ Node member.at ∷ [] in
        c.regroup i own (suffixes_indices others) (of_suffixes (e.Member spot u member) (i ++ own) (with_sign i (Node member.at ∷ []) spot.at _ (c.wider (Node member.at ∷ []) h)) others)
    of_suffixes u i h (t.arrow spot member others) =
        let own : List Index = Node spot.at ∷ Node member.at ∷ [] in
        c.regroup i own (suffixes_indices others) (of_suffixes (e.Through spot u member) (i ++ own) (with_sign i (Node member.at ∷ []) spot.at _ (c.wider (Node member.at ∷ []) h)) others)
    of_suffixes u i h (t.up spot others) =
        c.regroup i (Node spot.at ∷ []) (suffixes_indices others) (of_suffixes (e.Count spot false u) (i ++ Node spot.at ∷ []) (with_sign i [] spot.at _ (c.wider [] h)) others)
    of_suffixes u i h (t.down spot others) =
        c.regroup i (Node spot.at ∷ []) (suffixes_indices others) (of_suffixes (e.Count spot false u) (i ++ Node spot.at ∷ []) (with_sign i [] spot.at _ (c.wider [] h)) others)

  of_optional : (x : Option Tree) → AreAt (optional_noted env x) (optional_indices x)
  of_optional None = c.none []
  of_optional (Some x) = of_tree x

  -- ---- the pieces of a text

  of_variable : (x : DeclaredTree) → AreAt (declared_noted env x ++ optional_noted env x.first) (declared_indices x)
  of_variable x = c.skip (type_indices x.kind) (c.first note_token (of_optional x.first))

  of_piece : (x : PieceTree) → AreAt (piece_noted env x) (piece_indices x)
  of_piece (q.FileVariable variable) = of_variable variable
  of_piece (q.Variable variable) = of_variable variable
  of_piece (q.Parameter parameter) = c.skip (type_indices parameter.kind) (c.first note_token (c.none (optional_indices parameter.first)))
  of_piece (q.Header function) = c.first note_token (c.none [])
  of_piece (q.Used role value) = of_tree value
  of_piece (q.Return result spot value) = of_optional value

  pub of_pieces : (xs : List PieceTree) (at : ℕ) → times note_token at (pieces_noted env xs) ≤ sum_by (by_piece at) xs
  of_pieces [] at = omega arith
  of_pieces (x ∷ xs) at = omega (
    arith,
    (of_piece x).count at,
    of_pieces xs at,
    sum_by-append (by note_token at) (piece_noted env x) (pieces_noted env xs),
    sum_by-cons (by_piece at) x xs,
  )
