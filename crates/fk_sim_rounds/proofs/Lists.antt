-- Lists by hart, and by node; and the numbers of members in a run of their node.
use Rattle.std.proofs.Common.{◌≡◌, ℕ, zero, suc, ◌<◌, List, [], ◌∷◌, length, Option, Some, None, Bool, true, false, sym, ap, ◌∙◌, refl, arith, eq-eqb}
use Rattle.std.specs.Prelude.{◌==◌, map, slice_get}
use Rattle.std.proofs.lemmas.Bool.{ne_eqb, false≢true}
use Rattle.fk_num.specs.Word.{Memory}
use Rattle.fk_image.specs.declared.Image.{Image}
use Rattle.fk_machine.specs.Hart.{Setting}
use Rattle.fk_sim_nodes.specs.Node.{Member, Words, add, of_node}
use Rattle.fk_sim_nodes.specs.Alone.{NodeCycle, NodeRun, later}
use Rattle.fk_sim_nodes.specs.OnePlace.{last_or}
use Rattle.fk_sim_nodes.proofs.Runs.{cycle_map, run_map}
use Rattle.fk_sim_match.specs.Stage.{Stage}
use Rattle.fk_sim_match.specs.Cycle.{AllHaveCommitted}

-- ---- by node

add_map : {A B : Type 0} (f : A → B) (b : Bool) (x : A) (xs : List A) → map f (add b x xs) ≡ add b (f x) (map f xs)
add_map f true x xs = refl
add_map f false x xs = refl

pub of_map : {A B : Type 0} (f : A → B) (g : ℕ) (ns : List ℕ) (xs : List A) → of_node g ns (map f xs) ≡ map f (of_node g ns xs)
of_map f g [] xs = refl
of_map f g (n ∷ ns) [] = refl
of_map f g (n ∷ ns) (x ∷ xs) = ap (λ l. add (n == g) (f x) l) (of_map f g ns xs) ∙ sym (add_map f (n == g) x (of_node g ns xs))

pub map_map : {A B C : Type 0} (f : A → B) (h : B → C) (xs : List A) → map h (map f xs) ≡ map (λ x. h (f x)) xs
map_map f h [] = refl
map_map f h (x ∷ xs) = ap (λ l. h (f x) ∷ l) (map_map f h xs)

none_of : {A : Type 0} (g : ℕ) (ns : List ℕ) (xs : List A) → ((i : ℕ) → slice_get ns i ≡ Some g → ⊥) → of_node g ns xs ≡ []
none_of g [] xs away = refl
none_of g (n ∷ ns) [] away = refl
none_of g (n ∷ ns) (x ∷ xs) away =
    ap (λ b. add b x (of_node g ns xs)) (ne_eqb n g (λ e. away 0 (ap (λ k. Some k) e))) ∙ none_of g ns xs (λ i at. away (suc i) at)

last_add : {A : Type 0} (f : A → ℕ) (b : Bool) (x : A) (xs : List A) (other value : ℕ) → ((v : ℕ) → last_or v (map f xs) ≡ value) → last_or other (map f (add b x xs)) ≡ value
last_add f true x xs other value rest = rest (f x)
last_add f false x xs other value rest = rest other

-- who has committed is at one
pub committed_parts : (b : Bool) (a : Option Stage) (afters : List (Option Stage)) → AllHaveCommitted (add b a afters) → (b ≡ true → a ≡ None) × AllHaveCommitted afters
committed_parts true a afters all = (λ e. all.0, all.1)
committed_parts false a afters all = (λ e. absurd (false≢true e), all)

-- the last one of a node
pub last_of : {A : Type 0} (f : A → ℕ) (g : ℕ) (ns : List ℕ) (xs : List A) (h : ℕ) (x : A) (other : ℕ) → slice_get ns h ≡ Some g → slice_get xs h ≡ Some x
    → ((i : ℕ) → h < i → slice_get ns i ≡ Some g → ⊥) → last_or other (map f (of_node g ns xs)) ≡ f x
last_of f g (n ∷ ns) (y ∷ xs) zero x other here at away =
    let same : n ≡ g = cc in
    let is : y ≡ x = cc in
    ap (λ b. last_or other (map f (add b y (of_node g ns xs)))) (eq-eqb n g same)
    ∙ ap (λ l. last_or (f y) (map f l)) (none_of g ns xs (λ i there. away (suc i) (omega arith) there)) ∙ ap f is
last_of f g (n ∷ ns) (y ∷ xs) (suc h) x other here at away =
    last_add f (n == g) y (of_node g ns xs) other (f x) (λ v. last_of f g ns xs h x v here at (λ i lt there. away (suc i) (omega (arith, lt)) there))
last_of f g [] xs h x other here at away = absurd (cc)
last_of f g (n ∷ ns) [] h x other here at away = absurd (cc)

pub some_of : {A : Type 0} (g : ℕ) (ns : List ℕ) (xs : List A) (h : ℕ) (x : A) → slice_get ns h ≡ Some g → slice_get xs h ≡ Some x → length (of_node g ns xs) ≡ 0 → ⊥
some_of g (n ∷ ns) (y ∷ xs) zero x here at none =
    let same : n ≡ g = cc in
    let long = sym (ap (λ b. length (add b y (of_node g ns xs))) (eq-eqb n g same)) ∙ none in
    omega (arith, long)
some_of g (n ∷ ns) (y ∷ xs) (suc h) x here at none = some_of g ns xs h x here at (shorter (n == g) none)
  where
    shorter : (b : Bool) → length (add b y (of_node g ns xs)) ≡ 0 → length (of_node g ns xs) ≡ 0
    shorter true e = absurd (omega (arith, e))
    shorter false e = e
some_of g [] xs h x here at none = absurd (cc)
some_of g (n ∷ ns) [] h x here at none = absurd (cc)

-- ---- a run keeps numbers

abbrev pub SameNumbers : List Member → List Member → Type 0
SameNumbers [] [] = Unit {0}
SameNumbers (m ∷ ms) (k ∷ ks) = (m.number ≡ k.number) × SameNumbers ms ks
SameNumbers ms ks = ⊥

numbers_same : (ms : List Member) → SameNumbers ms ms
numbers_same [] = tt
numbers_same (m ∷ ms) = (refl, numbers_same ms)

numbers_join : (ms ks ls : List Member) → SameNumbers ms ks → SameNumbers ks ls → SameNumbers ms ls
numbers_join [] [] [] a b = tt
numbers_join (m ∷ ms) (k ∷ ks) (l ∷ ls) a b = (a.0 ∙ b.0, numbers_join ms ks ls a.1 b.1)
numbers_join ms ks ls a b = absurd (assumption (a, b))

module _ (image : Image) (mine : Words) where
  cycle_numbers : (t : Setting) (c : ℕ) (ms : List Member) (own : Memory) (Then : List Member → Memory → Type 0) → NodeCycle image mine t c ms own Then
      → NodeCycle image mine t c ms own (λ ms' own'. SameNumbers ms' ms × Then ms' own')
  cycle_numbers t c [] own Then x = (tt, x)
  cycle_numbers t c (m ∷ ms) own Then x = (
    x.0,
    x.1,
    x.2,
    cycle_map image mine t c ms x.1 (λ ms' own'. SameNumbers ms' ms × Then (record m { hart = x.0 } ∷ ms') own')
        (λ ms' own'. SameNumbers (record m { hart = x.0 } ∷ ms') (m ∷ ms) × Then (record m { hart = x.0 } ∷ ms') own')
        (λ ms' own' y. ((refl, y.0), y.1)) (cycle_numbers t c ms x.1 (λ ms' own'. Then (record m { hart = x.0 } ∷ ms') own') x.3),
  )

  pub run_numbers : (t : Setting) (d : ℕ) (ms : List Member) (own : Memory) (Then : List Member → Memory → Type 0) → NodeRun image mine t d ms own Then
      → NodeRun image mine t d ms own (λ ms' own'. SameNumbers ms' ms × Then ms' own')
  run_numbers t zero ms own Then x = (numbers_same ms, x)
  run_numbers t (suc d) ms own Then x =
      cycle_map image mine t 0 ms own (λ ms' own'. SameNumbers ms' ms × NodeRun image mine (later t) d ms' own' Then)
      (λ ms' own'. NodeRun image mine (later t) d ms' own' (λ ms'' own''. SameNumbers ms'' ms × Then ms'' own''))
      (λ ms' own' y.
      run_map image mine (later t) d ms' own' (λ ms'' own''. SameNumbers ms'' ms' × Then ms'' own'') (λ ms'' own''. SameNumbers ms'' ms × Then ms'' own'')
      (λ ms'' own'' z. (numbers_join ms'' ms' ms z.0 y.0, z.1)) (run_numbers (later t) d ms' own' Then y.1))
      (cycle_numbers t 0 ms own (λ ms' own'. NodeRun image mine (later t) d ms' own' Then) x)

  -- what holds in the end, somewhere
  cycle_end : (t : Setting) (c : ℕ) (ms : List Member) (own : Memory) (Then : List Member → Memory → Type 0) → NodeCycle image mine t c ms own Then
      → (ms' : List Member) × (own' : Memory) × Then ms' own'
  cycle_end t c [] own Then x = ([], own, x)
  cycle_end t c (m ∷ ms) own Then x =
      let r = cycle_end t c ms x.1 (λ ms' own'. Then (record m { hart = x.0 } ∷ ms') own') x.3 in (record m { hart = x.0 } ∷ r.0, r.1, r.2)

  pub run_end : (t : Setting) (d : ℕ) (ms : List Member) (own : Memory) (Then : List Member → Memory → Type 0) → NodeRun image mine t d ms own Then
      → (ms' : List Member) × (own' : Memory) × Then ms' own'
  run_end t zero ms own Then x = (ms, own, x)
  run_end t (suc d) ms own Then x =
      let r = cycle_end t 0 ms own (λ ms' own'. NodeRun image mine (later t) d ms' own' Then) x in run_end (later t) d r.0 r.1 Then r.2
