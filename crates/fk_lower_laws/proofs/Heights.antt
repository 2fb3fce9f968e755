-- Code has heights where the depths at its sites are those that are told of it.
use Rattle.std.proofs.Common.{◌≡◌, inl, inr, ℕ, suc, ◌+◌, false, List, [], ◌∷◌, ◌++◌, length, refl, sym, ap, subst, ◌∙◌, arith, length-append}
use Rattle.fk_meaning_operation.specs.declared.operation.Operation.{Operation}
use Rattle.fk_layout_sizes.specs.Operations.{pushes}
use Rattle.fk_layout_sizes.specs.Places.{At, behind_operation, behind_call, behind, beginning}
use Rattle.fk_core_typing.specs.LocalDepths.{leaves}
use Rattle.fk_meaning_forms.specs.Code.{Code, done, perform, choose, while, until, turn, again, quit, break, continue, call, ends, size, numbered}
use Rattle.fk_meaning_forms.specs.Expressions.{Coded, Signature}
use Rattle.fk_core_liveness.specs.declared.places.FunctionKind.{FunctionKind}
use Rattle.fk_lower_text.specs.Depths.{depths_from, IsStraight, HasOpenings}
use Rattle.fk_lower_text.proofs.Deep.{many}
use Rattle.fk_core_typing.specs.Heights.{raised, HasHeights}
use Rattle.fk_lower_laws.proofs.Low.{IsEven, Counted, raised_by, raised_so, called_so, heights}

module _ (depth : (site : ℕ) → ℕ) where
  -- the depths at the sites from one on are these
  abbrev pub Tell : (site : ℕ) → List ℕ → Type 0
  Tell n [] = Unit {0}
  Tell n (d ∷ ds) = (depth n ≡ d) × Tell (suc n) ds

  front : (xs ys : List ℕ) (n : ℕ) → Tell n (xs ++ ys) → Tell n xs
  front [] ys n h = tt
  front (x ∷ xs) ys n h = (h.0, front xs ys (suc n) h.1)

  back : (xs ys : List ℕ) (n m : ℕ) → n + length xs ≡ m → Tell n (xs ++ ys) → Tell m ys
  back [] ys n m e h = let same : n ≡ m = omega (arith, e) in subst (λ k. Tell k ys) same h
  back (x ∷ xs) ys n m e h = back xs ys (suc n) m (omega (arith, e)) h.1

  -- so it is of lists in a row, where each begins behind the one before it
  pub two : (xs ys : List ℕ) (n m : ℕ) → n + length xs ≡ m → Tell n (xs ++ ys) → Tell n xs × Tell m ys
  two xs ys n m a h = (front xs ys n h, back xs ys n m a h)

  pub three : (xs ys zs : List ℕ) (n m k : ℕ) → n + length xs ≡ m → m + length ys ≡ k → Tell n (xs ++ ys ++ zs) → Tell n xs × Tell m ys × Tell k zs
  three xs ys zs n m k a b h =
      let long = length-append xs ys in
      let both = two (xs ++ ys) zs n k (omega (arith, long, a, b)) h in
      let parts = two xs ys n m a both.0 in
      (parts.0, parts.1, both.1)

  pub four : (xs ys zs ws : List ℕ) (n m k j : ℕ) → n + length xs ≡ m → m + length ys ≡ k → k + length zs ≡ j → Tell n (xs ++ ys ++ zs ++ ws)
      → Tell n xs × Tell m ys × Tell k zs × Tell j ws
  four xs ys zs ws n m k j a b c h =
      let long = length-append xs ys in
      let longer = length-append (xs ++ ys) zs in
      let both = two (xs ++ ys ++ zs) ws n j (omega (arith, long, longer, a, b, c)) h in
      let parts = three xs ys zs n m k a b both.0 in
      (parts.0, parts.1, parts.2, both.1)

module _ (functions : (binding : ℕ) → Signature) (place_of : (binding : ℕ) → FunctionKind) (depth : (site : ℕ) → ℕ) where
  abbrev all : At → Coded → List ℕ
  all p code = depths_from functions p code

  abbrev Tall : ℕ → Code ℕ → Type 0
  Tall h code = HasHeights place_of depth h code

  straight : (code : Coded) (p : At) (n : ℕ) {h : ℕ} → h ≡ p.values → IsStraight code → Tell depth n (all p code) → Tall h (numbered n code)
  straight done p n same w l = tt
  straight (perform t op rest) p n same w l =
      (l.0 ∙ sym same, straight rest (behind_operation p op) (suc n) (raised_so functions place_of op p same) w l.1)
  straight code p n same w l = absurd w

  -- in its parts the sites go on
  next : (code : Coded) (p : At) (n : ℕ) → n + length (all p code) ≡ n + size code
  next code p n = ap (λ k. n + k) (many functions code p)

  -- so it is with the other way of a choice, if anything is done there
  beside : (h : ℕ) (op : Operation) (y : Coded) (n : ℕ) → IsEven functions place_of op y → (leaves op false ≡ pushes op → Tall (raised h op false) (numbered n y)) → Tall (raised h op false) (numbered n y)
  beside h op y n (inl e) even = even e
  beside h op y n (inr e) even = subst (λ (code : Coded). Tall (raised h op false) (numbered n code)) (sym e) tt

  pub tall : (code : Coded) (p : At) (n : ℕ) {h : ℕ} → h ≡ p.values → Counted functions place_of code → HasOpenings code → Tell depth n (all p code) → Tall h (numbered n code)
  tall done p n same c w l = tt
  tall (perform t op rest) p n same c w l = (l.0 ∙ sym same, tall rest (behind_operation p op) (suc n) (raised_so functions place_of op p same) c w l.1)
  tall (choose t op x y rest) p n {h} same c w l =
      let f = behind_operation p op in
      let q : At = record { values = (behind functions f x).values; nesting = p.nesting } in
      let m = suc n + size x in
      let ls = three depth (all f x) (all f y) (all q rest) (suc n) m (m + size y) (next x f (suc n)) (next y f m) l.1 in
      let onward = raised_so functions place_of op p same in (
        l.0 ∙ sym same,
        tall x f (suc n) onward c.1 w.0 ls.0,
        beside h op y m c.0 (λ e. tall y f m (raised_by functions place_of op false e p same) c.2 w.1 ls.1),
        tall rest q (m + size y) (heights functions place_of x f (suc n) onward c.1) c.3 w.2 ls.2,
      )
  tall (while test body step rest) p n same c w l =
      let b = n + size test in
      let s = b + size body in
      let q = behind functions p test in
      let u = behind functions q body in
      let v = behind functions u step in
      let ls = four depth (all p test) (all q body) (all u step) (all v rest) n b s (s + size step) (next test p n) (next body q b) (next step u s) l in
      let first = heights functions place_of test p n same c.0 in
      let second = heights functions place_of body q b first c.1 in (
        tall test p n same c.0 w.0 ls.0,
        tall body q b first c.1 w.1 ls.1,
        tall step u s second c.2 w.2 ls.2,
        tall rest v (s + size step) (heights functions place_of step u s second c.2) c.3 w.3 ls.3,
      )
  tall (until body test rest) p n same c w l =
      let t = n + size body in
      let q = behind functions p body in
      let v = behind functions q test in
      let ls = three depth (all p body) (all q test) (all v rest) n t (t + size test) (next body p n) (next test q t) l in
      let first = heights functions place_of body p n same c.0 in (
        tall body p n same c.0 w.0 ls.0,
        tall test q t first c.1 w.1 ls.1,
        tall rest v (t + size test) (heights functions place_of test q t first c.1) c.2 w.2 ls.2,
      )
  tall (turn test body step rest) p n same c w l = absurd c
  tall (again test body step rest) p n same c w l = absurd c
  tall (quit t op rest) p n same c w l = (l.0 ∙ sym same, tall rest (behind_operation p op) (suc n) (raised_so functions place_of op p same) c w l.1)
  tall (break rest) p n same c w l = tall rest p n same c w l
  tall (continue rest) p n same c w l = tall rest p n same c w l
  tall (call t op f opening rest) p n same c w l =
      let q = behind_call functions p op f in
      let m = suc n + size opening in
      let ls = two depth (all beginning opening) (all q rest) (suc n) m (next opening beginning (suc n)) l.1 in (
        l.0 ∙ sym same,
        straight opening beginning (suc n) refl w.0 ls.0,
        tall rest q m (called_so functions place_of op f c.0 c.1 p same) c.2 w.1 ls.1,
      )
  tall (ends t op rest) p n same c w l = (l.0 ∙ sym same, tall rest (behind_operation p op) (suc n) (raised_so functions place_of op p same) c w l.1)
