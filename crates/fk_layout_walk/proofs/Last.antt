-- The last link of a chain and the last suffix of an expression.
use Rattle.std.proofs.Common.{◌≡◌, ℕ, suc, ◌-◌, List, [], ◌∷◌, map, length, Some, None, slice_get, refl, ap, ◌∙◌, arith}
use Rattle.fk_syntax.specs.declared.expression.Link.{Link}
use Rattle.fk_syntax.specs.declared.expression.Suffix.{Suffix}
use Rattle.fk_syntax.specs.Tree as t
use Rattle.fk_syntax.specs.Tree.{SuffixTree, Suffixes, suffix, links_of, suffixes_of}
use Rattle.fk_syntax.specs.View.{link_of, suffix_of}
use Rattle.fk_meaning_forms.specs.Expressions.{last_link, last_suffix}
use Rattle.fk_layout_walk.specs.Suffix.{suffix_at}

behind-one : (x : SuffixTree) (at : ℕ) (others : Suffixes) → last_suffix at (suffix x others) ≡ last_suffix (suffix_at x) others
behind-one (t.Index spot by) at others = refl
behind-one (t.Call spot arguments) at others = refl
behind-one (t.Dot spot member) at others = refl
behind-one (t.Arrow spot member) at others = refl
behind-one (t.Up spot) at others = refl
behind-one (t.Down spot) at others = refl

before-last : {X : Type 0} (x y : X) (zs : List X) → length (x ∷ y ∷ zs) - 1 ≡ suc (length (y ∷ zs) - 1)
before-last x y zs = omega arith

pub last_of_links : (at : ℕ) (xs : List Link) (x : Link) → slice_get xs (length xs - 1) ≡ Some x → last_link at (links_of (map link_of xs)) ≡ (link_of x).spot.at
last_of_links at [] x h = cc
last_of_links at (y ∷ []) x h = let e : y ≡ x = cc in ap (λ (l : Link). (link_of l).spot.at) e
last_of_links at (y ∷ z ∷ zs) x h = last_of_links (link_of y).spot.at (z ∷ zs) x (rw (before-last y z zs) at h)

pub last_of_suffixes : (at : ℕ) (xs : List Suffix) (x : Suffix) → slice_get xs (length xs - 1) ≡ Some x → last_suffix at (suffixes_of (map suffix_of xs)) ≡ suffix_at (suffix_of x)
last_of_suffixes at [] x h = cc
last_of_suffixes at (y ∷ []) x h = let e : y ≡ x = cc in behind-one (suffix_of y) at t.no_suffixes ∙ ap (λ (s : Suffix). suffix_at (suffix_of s)) e
last_of_suffixes at (y ∷ z ∷ zs) x h = rw (behind-one (suffix_of y) at (suffixes_of (map suffix_of (z ∷ zs)))) (last_of_suffixes (suffix_at (suffix_of y)) (z ∷ zs) x (rw (before-last y z zs) at h))

pub none_is_last : {X : Type 0} (xs : List X) → slice_get xs (length xs - 1) ≡ None → xs ≡ []
none_is_last [] h = refl
none_is_last (y ∷ []) h = cc
none_is_last (y ∷ z ∷ zs) h = let e = none_is_last (z ∷ zs) (rw (before-last y z zs) at h) in cc
