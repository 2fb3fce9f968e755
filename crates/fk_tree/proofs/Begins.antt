-- The group of `start` is a split of the root into one part.
use Rattle.std.proofs.Common.{◌≡◌, ◌≢◌, ⊎_elim, ℕ, zero, suc, ◌+◌, ◌-◌, ◌<◌, ◌==◌, nat_lt, Bool, true, false, cond, List, [], ◌∷◌, length, get_or, Option, Some, None, refl, sym, ap, ◌∙◌, arith, filter}
use Rattle.std.proofs.lemmas.Bool.{cases_Bool, cases_eq, cond-true, cond-false, eq-eqb, or_left, or_right}
use Rattle.fk_tree.specs.declared.node.Kind.TheVariants.{Lockstep, Waiting}
use Rattle.fk_tree.specs.Tree.{Tree, members, is_member, node_of, with_kind, is_from, is_in, place_in, split, begin, first_part, told, part_of, parts_by, below}
use Rattle.fk_tree.specs.Sound.{Has, IsSound}
use Rattle.fk_tree.proofs.Lists.{told_at, length-below, ascending-below, below-has}
use Rattle.fk_tree.proofs.Shapes.{has_some, has_along}
use Rattle.fk_tree.proofs.Trees.{tree_same}

filter_same : (f g : ℕ → Bool) (xs : List ℕ) → ((h : ℕ) → is_member h xs ≡ true → f h ≡ g h) → filter f xs ≡ filter g xs
filter_same f g [] same = refl
filter_same f g (x ∷ xs) same =
    let here = same x (or_left (x == x) (is_member x xs) (eq-eqb x x refl)) in
    let rest = filter_same f g xs (λ h is. same h (or_right (h == x) (is_member h xs) is)) in
    cc

-- a split asks for the parts of the members alone
pub split_same : (n k : ℕ) (f g : ℕ → Option ℕ) (t : Tree) → ((h : ℕ) → Has t n h → f h ≡ g h) → split n k f t ≡ split n k g t
split_same n k f g t same =
    tree_same (split n k f t) (split n k g t)
    (λ i. ap (λ (ms : List ℕ). cond (is_from t.given k i) (node_of ms n Lockstep) ((with_kind n (Waiting t.given k) t).nodes i))
    (filter_same (λ h. is_in (i - t.given) (f h)) (λ h. is_in (i - t.given) (g h)) (members t n) (λ h is. ap (is_in (i - t.given)) (same h is))))
    refl
    (λ h. ⊎_elim
    (λ is.
    cond-true (is_member h (members t n)) (place_in (t.places h) t.given (f h)) (t.places h) is
    ∙ ap (place_in (t.places h) t.given) (same h is)
    ∙ sym (cond-true (is_member h (members t n)) (place_in (t.places h) t.given (g h)) (t.places h) is))
    (λ out.
    cond-false (is_member h (members t n)) (place_in (t.places h) t.given (f h)) (t.places h) out
    ∙ sym (cond-false (is_member h (members t n)) (place_in (t.places h) t.given (g h)) (t.places h) out))
    (cases_Bool (is_member h (members t n))))

get_or-behind : (p i : ℕ) (more : List ℕ) → get_or (below p more) (p + i) 0 ≡ get_or more i 0
get_or-behind zero i more = let e : zero + i ≡ i = omega arith in ap (λ (j : ℕ). get_or more j 0) e
get_or-behind (suc p) i more = let e : suc p + i ≡ p + suc i = omega arith in ap (λ (j : ℕ). get_or (below p (p ∷ more)) j 0) e ∙ get_or-behind p (suc i) (p ∷ more)

get_or-below : (p i : ℕ) (more : List ℕ) → i < p → get_or (below p more) i 0 ≡ i
get_or-below zero i more lt = absurd (omega arith)
get_or-below (suc p) i more lt =
    ⊎_elim
    (λ e. let e' : i ≡ p + 0 = omega arith in ap (λ (j : ℕ). get_or (below p (p ∷ more)) j 0) e' ∙ get_or-behind p 0 (p ∷ more) ∙ sym e)
    (λ ne. get_or-below p i (p ∷ more) (omega arith))
    (cases_eq i p)

get_or-default : (xs : List ℕ) (i d e : ℕ) → i < length xs → get_or xs i d ≡ get_or xs i e
get_or-default [] i d e lt = absurd (omega arith)
get_or-default (x ∷ xs) zero d e lt = refl
get_or-default (x ∷ xs) (suc i) d e lt = get_or-default xs i d e (omega arith)

part-zero : (b : Bool) → part_of 1 (cond b 0 1) ≡ cond b (Some 0) None
part-zero true = refl
part-zero false = refl

pub begin_split : (p count : ℕ) (of : List ℕ) (t : Tree) → IsSound p t → length of ≡ p → ((h : ℕ) → h < p → get_or of h 0 ≡ cond (nat_lt h count) 0 1)
    → split 0 1 (parts_by 1 (members t 0) of) t ≡ begin count t
begin_split p count of t s len each =
    split_same 0 1 (parts_by 1 (members t 0) of) (first_part count) t
    (λ h has.
    let lt = s.within 0 h has in
    let size : length (below p []) ≡ p = length-below p [] ∙ omega arith in
    let at = told_at 1 (below p []) of h (ascending-below p [] refl (λ q lt'. refl)) (omega arith) (omega arith) in
    let here : told 1 (below p []) of h ≡ cond (nat_lt h count) 0 1 =
    ap (told 1 (below p []) of) (sym (get_or-below p h [] lt)) ∙ at ∙ get_or-default of h 1 0 (omega arith) ∙ each h lt in
    ap (λ (ms : List ℕ). part_of 1 (told 1 ms of h)) s.root ∙ ap (part_of 1) here ∙ part-zero (nat_lt h count))

pub root_some : (p : ℕ) (t : Tree) → IsSound p t → t.nodes 0 ≢ None
root_some p t s = has_some t 0 0 (has_along 0 (below p []) (members t 0) (sym s.root) (below-has p 0 [] s.some))

pub length-root : (p : ℕ) (t : Tree) → IsSound p t → length (members t 0) ≡ p
length-root p t s = ap length s.root ∙ length-below p [] ∙ omega arith
