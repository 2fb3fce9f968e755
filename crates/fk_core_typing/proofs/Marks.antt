-- The states at the indices of a flat list: one before each operation, and at each jump that of the code to which it leads.
use Rattle.std.proofs.Common.{◌≡◌, ℕ, suc, ◌+◌, Bool, true, false, List, [], ◌∷◌, ◌++◌, length, Option, Some, None, refl, ap, subst, arith, length-append}
use Rattle.std.specs.Prelude.{◌==◌, ◌&&◌, ◌||◌}
use Rattle.fk_meaning_forms.specs.Code.{Code, done, perform, choose, while, until, turn, again, quit, break, continue, call, ends}
use Rattle.fk_core_flat.specs.Items.{way_of, goes_away}
use Rattle.fk_core_flat.specs.Flat.{begins_here, gap, extent}
use Rattle.fk_core_typing.proofs.System.{System, Loop, Judged}

-- that of a jump that may be left out
abbrev pub skip_mark : {A : Type 0} → (here : Bool) → A → List A
skip_mark true s = []
skip_mark false s = s ∷ []

pub skip_length : {A : Type 0} (here : Bool) (s : A) → length (skip_mark here s) ≡ gap here
skip_length true s = refl
skip_length false s = refl

-- states stand one behind the other, from an index on
abbrev pub Noted : {A : Type 0} → (state : ℕ → A) → (i : ℕ) → List A → Type 0
Noted state i [] = Unit {0}
Noted state i (s ∷ more) = (state i ≡ s) × Noted state (suc i) more

module _ {A : Type 0} (state : ℕ → A) where
  pub noted_front : (i : ℕ) (xs ys : List A) → Noted state i (xs ++ ys) → Noted state i xs
  noted_front i [] ys h = tt
  noted_front i (x ∷ xs) ys h = (h.0, noted_front (suc i) xs ys h.1)

  pub noted_back : (i r : ℕ) (xs ys : List A) → r ≡ i + length xs → Noted state i (xs ++ ys) → Noted state r ys
  noted_back i r [] ys e h = let f : i ≡ r = omega arith in subst (λ j. Noted state j ys) f h
  noted_back i r (x ∷ xs) ys e h = let f : r ≡ suc i + length xs = omega arith in noted_back (suc i) r xs ys f h.1

module _ (sys : System) where
  abbrev pub marks : (near : Bool) (l : Option (Loop sys)) (s : sys.State) (code : Code ℕ) (e : sys.State) → Judged sys l s code e → List sys.State
  marks near l s done e t = []
  marks near l s (perform n op rest) e t =
      let r = sys.behind op true s in
      s ∷ (skip_mark (goes_away (way_of op) || begins_here near rest) r ++ marks near l r rest e t.1)
  marks near l s (choose n op x y rest) e t =
      let after = begins_here near rest in
      let beside = after && (extent after y == 0) in
      let m = t.1 in
      s ∷ (((skip_mark (begins_here beside x) (sys.behind op true s) ++ marks beside l (sys.behind op true s) x m t.2)
      ++ marks after l (sys.behind op false s) y m t.3) ++ marks near l m rest e t.4)
  marks near l s (while test body step rest) e t =
      let steps = begins_here false step in
      let enters = begins_here steps body in
      let round = t.0 in
      let b = round.turn in
      ((marks enters (Some round) b test b t.2 ++ marks steps (Some round) b body b t.3) ++ marks false (Some round) b step b t.4)
      ++ marks near l round.left rest e t.5
  marks near l s (until body test rest) e t =
      let round = t.0 in
      let b = round.turn in
      (marks true (Some round) b body b t.2 ++ marks false (Some round) b test b t.3) ++ marks near l round.left rest e t.4
  marks near l s (turn test body step rest) e t = []
  marks near l s (again test body step rest) e t = []
  marks near l s (quit n op rest) e t =
      let r = sys.behind op true s in
      s ∷ (skip_mark (begins_here near rest) r ++ marks near l r rest e t.2)
  marks near l s (break rest) e t = marks near l s rest e t.1
  marks near l s (continue rest) e t = marks near l s rest e t.1
  marks near l s (call n op f opening rest) e t =
      let o = sys.begin op f t.1 in
      let en = sys.entered op f t.1 in
      let r = sys.behind_call op t.1 s in
      s ∷ ((marks true None o opening en t.3 ++ (en ∷ skip_mark (begins_here near rest) r)) ++ marks near l r rest e t.4)
  marks near l s (ends n op rest) e t = s ∷ marks near l (sys.behind op true s) rest e t.2

  two : (xs ys : List sys.State) → length (xs ++ ys) ≡ length xs + length ys
  two xs ys = length-append xs ys

  three : (xs ys zs : List sys.State) → length ((xs ++ ys) ++ zs) ≡ length xs + length ys + length zs
  three xs ys zs = let e = length-append xs ys in let f = length-append (xs ++ ys) zs in omega arith

  four : (xs ys zs ws : List sys.State) → length (((xs ++ ys) ++ zs) ++ ws) ≡ length xs + length ys + length zs + length ws
  four xs ys zs ws = let e = three xs ys zs in let f = length-append ((xs ++ ys) ++ zs) ws in omega arith

  -- as many as the list is long
  pub mark_length : (near : Bool) (l : Option (Loop sys)) (s : sys.State) (code : Code ℕ) (e : sys.State) (t : Judged sys l s code e)
      → length (marks near l s code e t) ≡ extent near code
  mark_length near l s done e t = refl
  mark_length near l s (perform n op rest) e t =
      let here = goes_away (way_of op) || begins_here near rest in
      let r = sys.behind op true s in
      let a = skip_length here r in
      let b = mark_length near l r rest e t.1 in
      let c = two (skip_mark here r) (marks near l r rest e t.1) in
      let m : length (skip_mark here r ++ marks near l r rest e t.1) ≡ gap here + extent near rest = omega arith in
      ap (λ n. suc n) m
  mark_length near l s (choose n op x y rest) e t =
      let after = begins_here near rest in
      let beside = after && (extent after y == 0) in
      let m = t.1 in
      let here = begins_here beside x in
      let js = skip_mark here (sys.behind op true s) in
      let xs = marks beside l (sys.behind op true s) x m t.2 in
      let ys = marks after l (sys.behind op false s) y m t.3 in
      let zs = marks near l m rest e t.4 in
      let a = skip_length here (sys.behind op true s) in
      let lx = mark_length beside l (sys.behind op true s) x m t.2 in
      let ly = mark_length after l (sys.behind op false s) y m t.3 in
      let lz = mark_length near l m rest e t.4 in
      let c = four js xs ys zs in
      let m : length (((js ++ xs) ++ ys) ++ zs) ≡ gap here + extent beside x + extent after y + extent near rest = omega arith in
      ap (λ n. suc n) m
  mark_length near l s (while test body step rest) e t =
      let steps = begins_here false step in
      let enters = begins_here steps body in
      let round = t.0 in
      let b = round.turn in
      let lt = mark_length enters (Some round) b test b t.2 in
      let lb = mark_length steps (Some round) b body b t.3 in
      let ls = mark_length false (Some round) b step b t.4 in
      let lr = mark_length near l round.left rest e t.5 in
      let c = four (marks enters (Some round) b test b t.2) (marks steps (Some round) b body b t.3) (marks false (Some round) b step b t.4) (marks near l round.left rest e t.5) in
      omega arith
  mark_length near l s (until body test rest) e t =
      let round = t.0 in
      let b = round.turn in
      let lb = mark_length true (Some round) b body b t.2 in
      let lt = mark_length false (Some round) b test b t.3 in
      let lr = mark_length near l round.left rest e t.4 in
      let c = three (marks true (Some round) b body b t.2) (marks false (Some round) b test b t.3) (marks near l round.left rest e t.4) in
      omega arith
  mark_length near l s (turn test body step rest) e t = absurd t
  mark_length near l s (again test body step rest) e t = absurd t
  mark_length near l s (quit n op rest) e t =
      let here = begins_here near rest in
      let r = sys.behind op true s in
      let a = skip_length here r in
      let b = mark_length near l r rest e t.2 in
      let c = two (skip_mark here r) (marks near l r rest e t.2) in
      let m : length (skip_mark here r ++ marks near l r rest e t.2) ≡ gap here + extent near rest = omega arith in
      ap (λ n. suc n) m
  mark_length near l s (break rest) e t = mark_length near l s rest e t.1
  mark_length near l s (continue rest) e t = mark_length near l s rest e t.1
  mark_length near l s (call n op f opening rest) e t =
      let here = begins_here near rest in
      let o = sys.begin op f t.1 in
      let en = sys.entered op f t.1 in
      let r = sys.behind_call op t.1 s in
      let a = skip_length here r in
      let lo = mark_length true None o opening en t.3 in
      let lr = mark_length near l r rest e t.4 in
      let c = three (marks true None o opening en t.3) (en ∷ skip_mark here r) (marks near l r rest e t.4) in
      let m : length ((marks true None o opening en t.3 ++ (en ∷ skip_mark here r)) ++ marks near l r rest e t.4) ≡ suc (extent true opening + gap here + extent near rest) = omega arith in
      ap (λ n. suc n) m
  mark_length near l s (ends n op rest) e t = ap (λ n. suc n) (mark_length near l (sys.behind op true s) rest e t.2)
