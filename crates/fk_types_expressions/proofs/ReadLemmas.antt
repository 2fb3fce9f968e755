-- What is noted, part by part.
use Rattle.std.specs.List.{fold}
use Rattle.std.proofs.lemmas.List.{at_drop_more}
use Rattle.std.proofs.Common.{◌≡◌, ℕ, ◌+◌, ◌<◌, List, [], ◌∷◌, ◌++◌, map, drop, length, get_or, Option, slice_set, refl, sym, ap, subst, ◌∙◌}
use Rattle.fk_syntax.specs.declared.place.Spot.{Spot}
use Rattle.fk_syntax.specs.declared.sign.Sign.{Sign}
use Rattle.fk_syntax.specs.declared.sign.Sign.TheVariants as s
use Rattle.fk_syntax.specs.Tree.{Tree, Trees, SuffixTree, Suffixes, suffix, no_suffixes}
use Rattle.fk_syntax.specs.Tree as t
use Rattle.fk_syntax.specs.Tree.{LinkTree, links_of, suffixes_of, trees_of}
use Rattle.fk_syntax.specs.View.{tree_of, link_of, suffix_of}
use Rattle.fk_syntax.specs.declared.expression.Expr.{Expr}
use Rattle.fk_syntax.specs.declared.expression.Link.{Link}
use Rattle.fk_syntax.specs.declared.expression.Suffix.{Suffix}
use Rattle.fk_syntax.proofs.Views.{link_of_lem}
use Rattle.fk_types_operators.specs.declared.values.ExpressionType.{ExpressionType}
use Rattle.fk_types_judgments.specs.Term.{Term, Terms, also, term_of, with_links, with_arguments, with_suffixes, prefix_term, joined_term}
use Rattle.fk_types_judgments.specs.Names.{Env}
use Rattle.fk_types_judgments.specs.Typing.{Noted, note, noted, type_of}
use Rattle.fk_types_forms.specs.declared.parts.Part.{Part}
use Rattle.fk_types_forms.specs.Parts.{IsPart}
use Rattle.fk_types_expressions.specs.Read.{IsRead, with_note}

pub notes-append : (types : List (Option ExpressionType)) (a b : List Noted) → fold with_note (fold with_note types a) b ≡ fold with_note types (a ++ b)
notes-append types [] b = refl
notes-append types (x ∷ xs) b = notes-append (with_note types x) xs b

-- two parts, one after the other
pub notes-two : (start mid after : List (Option ExpressionType)) (a b : List Noted) → mid ≡ fold with_note start a → after ≡ fold with_note mid b → after ≡ fold with_note start (a ++ b)
notes-two start mid after a b p q = q ∙ ap (λ types. fold with_note types b) p ∙ notes-append start a b

-- an expression, by the notes of its parts and its own
pub read-more : (env : Env) (term : Term) (at : ℕ) (inner : List Noted) (start mid after : List (Option ExpressionType)) (part result : Part)
    → mid ≡ fold with_note start inner → IsPart env term part → result ≡ part → after ≡ slice_set mid at part.kind
    → inner ++ note at (type_of env term) ≡ noted env term → IsRead env term start after result
read-more env term at inner start mid after part result before is same kept all = record {
  is = subst (IsPart env term) (sym same) is;
  types = kept ∙ ap (slice_set mid at) is.type ∙ notes-two start mid (slice_set mid at (type_of env term)) inner (note at (type_of env term)) before refl
      ∙ ap (fold with_note start) all;
}

-- a suffix before others
pub one-suffix : (term : Term) (s : SuffixTree) (others : Suffixes) → with_suffixes (with_suffixes term (suffix s no_suffixes)) others ≡ with_suffixes term (suffix s others)
one-suffix term (t.Index spot by) others = refl
one-suffix term (t.Call spot arguments) others = refl
one-suffix term (t.Dot spot member) others = refl
one-suffix term (t.Arrow spot member) others = refl
one-suffix term (t.Up spot) others = refl
one-suffix term (t.Down spot) others = refl

-- and as the tree that it is
pub read-tree : (env : Env) (tree other : Tree) (term : Term) (at : ℕ) (inner : List Noted) (start mid after : List (Option ExpressionType)) (part result : Part)
    → tree ≡ other → term_of other ≡ term
    → mid ≡ fold with_note start inner → IsPart env term part → result ≡ part → after ≡ slice_set mid at part.kind
    → inner ++ note at (type_of env term) ≡ noted env term → IsRead env (term_of tree) start after result
read-tree env tree other term at inner start mid after part result is made before right same kept all =
    subst (λ v. IsRead env v start after result) (sym (ap term_of is ∙ made)) (read-more env term at inner start mid after part result before right same kept all)

-- signs of several forms
pub noted-prefix : (env : Env) (spot : Spot) (sign : Sign) (u : Term) → noted env u ++ note spot.at (type_of env (prefix_term spot sign u)) ≡ noted env (prefix_term spot sign u)
noted-prefix env spot s.Star u = refl
noted-prefix env spot s.Ampersand u = refl
noted-prefix env spot s.Increment u = refl
noted-prefix env spot s.Decrement u = refl
noted-prefix env spot _ u = refl

pub noted-joined : (env : Env) (spot : Spot) (sign : Sign) (l r : Term) → noted env l ++ noted env r ++ note spot.at (type_of env (joined_term spot sign l r)) ≡ noted env (joined_term spot sign l r)
noted-joined env spot s.Comma l r = refl
noted-joined env spot _ l r = refl

-- and as the suffix that it is
pub read-suffix : (env : Env) (t : Term) (s other : SuffixTree) (term : Term) (at : ℕ) (inner : List Noted) (start mid after : List (Option ExpressionType)) (part result : Part)
    → s ≡ other → with_suffixes t (suffix other no_suffixes) ≡ term
    → mid ≡ fold with_note start inner → IsPart env term part → result ≡ part → after ≡ slice_set mid at part.kind
    → inner ++ note at (type_of env term) ≡ noted env term → IsRead env (with_suffixes t (suffix s no_suffixes)) start after result
read-suffix env t s other term at inner start mid after part result is made before right same kept all =
    subst (λ v. IsRead env v start after result) (sym (ap (λ v. with_suffixes t (suffix v no_suffixes)) is ∙ made)) (read-more env term at inner start mid after part result before right same kept all)

-- one more of a list
pub link-step : (xs : List Link) (i : ℕ) (x : Link) (u : Term) → i < length xs → x ≡ get_or xs i x
    → with_links u (links_of (map link_of (drop i xs))) ≡ with_links (joined_term x.spot x.sign u (term_of (tree_of x.right))) (links_of (map link_of (drop (i + 1) xs)))
link-step xs i x u h is = at_drop_more (λ ls. with_links u (links_of (map link_of ls))) xs i x h
    ∙ ap (λ (y : Link). with_links u (links_of (map link_of (y ∷ drop (i + 1) xs)))) (sym is)
    ∙ ap (λ (l : LinkTree). with_links (joined_term l.spot l.sign u (term_of l.right)) (links_of (map link_of (drop (i + 1) xs)))) (link_of_lem x)

pub suffix-step : (xs : List Suffix) (i : ℕ) (x : Suffix) (u : Term) → i < length xs → x ≡ get_or xs i x
    → with_suffixes u (suffixes_of (map suffix_of (drop i xs))) ≡ with_suffixes (with_suffixes u (suffix (suffix_of x) no_suffixes)) (suffixes_of (map suffix_of (drop (i + 1) xs)))
suffix-step xs i x u h is = at_drop_more (λ ls. with_suffixes u (suffixes_of (map suffix_of ls))) xs i x h
    ∙ ap (λ (y : Suffix). with_suffixes u (suffixes_of (map suffix_of (y ∷ drop (i + 1) xs)))) (sym is)
    ∙ sym (one-suffix u (suffix_of x) (suffixes_of (map suffix_of (drop (i + 1) xs))))

pub argument-step : (xs : List Expr) (i : ℕ) (x : Expr) (ts : Terms) → i < length xs → x ≡ get_or xs i x
    → with_arguments ts (trees_of (map tree_of (drop i xs))) ≡ with_arguments (also ts (term_of (tree_of x))) (trees_of (map tree_of (drop (i + 1) xs)))
argument-step xs i x ts h is = at_drop_more (λ ls. with_arguments ts (trees_of (map tree_of ls))) xs i x h
    ∙ ap (λ (y : Expr). with_arguments ts (trees_of (map tree_of (y ∷ drop (i + 1) xs)))) (sym is)
