-- The length of the list of code, and where code begins.
use Rattle.std.proofs.Common.{◌≡◌, ℕ, suc, ◌+◌, Bool, true, false, List, ◌∷◌, ◌++◌, length, Some, None, ap, refl, arith, length-append}
use Rattle.std.specs.Prelude.{◌==◌, ◌&&◌, ◌||◌, if◌then◌else◌}
use Rattle.fk_meaning_forms.specs.Code.{Code, done, perform, choose, while, until, turn, again, quit, break, continue, call, ends}
use Rattle.fk_core.specs.CodeAt.{Loop, Around, is_first, is_start}
use Rattle.fk_core_flat.specs.Items.{Item, jump, way_of, goes_away}
use Rattle.fk_core_flat.specs.Flat.{begins_here, skip, gap, extent, label, flat}

pub skips : (here : Bool) (target : ℕ) → length (skip here target) ≡ gap here
skips true target = refl
skips false target = refl

two : (xs ys : List Item) → length (xs ++ ys) ≡ length xs + length ys
two xs ys = length-append xs ys

three : (xs ys zs : List Item) → length (xs ++ ys ++ zs) ≡ length xs + length ys + length zs
three xs ys zs = let e = length-append xs ys in let f = length-append (xs ++ ys) zs in omega arith

four : (xs ys zs ws : List Item) → length (xs ++ ys ++ zs ++ ws) ≡ length xs + length ys + length zs + length ws
four xs ys zs ws = let e = three xs ys zs in let f = length-append (xs ++ ys ++ zs) ws in omega arith

module _ (entry : ℕ → ℕ) where
  pub flat_length : (code : Code ℕ) (near : Bool) (c : Around) (i k : ℕ) → length (flat entry near c i k code) ≡ extent near code
  flat_length done near c i k = refl
  flat_length (perform n op rest) near c i k =
      let here = goes_away (way_of op) || begins_here near rest in
      let r = suc i + gap here in
      let l = flat_length rest near c r k in
      let s = skips here (label c r k rest) in
      let e = two (skip here (label c r k rest)) (flat entry near c r k rest) in
      let m : length (skip here (label c r k rest) ++ flat entry near c r k rest) ≡ gap here + extent near rest = omega arith in
      ap (λ n. suc n) m
  flat_length (choose n op x y rest) near c i k =
      let after = begins_here near rest in
      let beside = after && (extent after y == 0) in
      let a = suc i + gap (begins_here beside x) in
      let b = a + extent beside x in
      let r = b + extent after y in
      let m = label c r k rest in
      let lx = flat_length x beside c a m in
      let ly = flat_length y after c b m in
      let l = flat_length rest near c r k in
      let s = skips (begins_here beside x) (label c a m x) in
      let e = four (skip (begins_here beside x) (label c a m x)) (flat entry beside c a m x) (flat entry after c b m y) (flat entry near c r k rest) in
      let m : length (skip (begins_here beside x) (label c a m x) ++ flat entry beside c a m x ++ flat entry after c b m y ++ flat entry near c r k rest) ≡ gap (begins_here beside x) + extent beside x + extent after y + extent near rest = omega arith in
      ap (λ n. suc n) m
  flat_length (while test body step rest) near c i k =
      let steps = begins_here false step in
      let enters = begins_here steps body in
      let b = i + extent enters test in
      let t = b + extent steps body in
      let r = t + extent false step in
      let loop : Loop = record { behind = label c r k rest; onward = if steps then t else i } in
      let lt = flat_length test enters (Some loop) i (label (Some loop) b loop.onward body) in
      let lb = flat_length body steps (Some loop) b loop.onward in
      let ls = flat_length step false (Some loop) t i in
      let l = flat_length rest near c r k in
      let e = four (flat entry enters (Some loop) i (label (Some loop) b loop.onward body) test) (flat entry steps (Some loop) b loop.onward body) (flat entry false (Some loop) t i step) (flat entry near c r k rest) in
      omega arith
  flat_length (until body test rest) near c i k =
      let t = i + extent true body in
      let r = t + extent false test in
      let loop : Loop = record { behind = label c r k rest; onward = t } in
      let lb = flat_length body true (Some loop) i t in
      let lt = flat_length test false (Some loop) t (label (Some loop) i t body) in
      let l = flat_length rest near c r k in
      let e = three (flat entry true (Some loop) i t body) (flat entry false (Some loop) t (label (Some loop) i t body) test) (flat entry near c r k rest) in
      omega arith
  flat_length (turn test body step rest) near c i k = refl
  flat_length (again test body step rest) near c i k = refl
  flat_length (quit n op rest) near c i k =
      let here = begins_here near rest in
      let r = suc i + gap here in
      let l = flat_length rest near c r k in
      let s = skips here (label c r k rest) in
      let e = two (skip here (label c r k rest)) (flat entry near c r k rest) in
      let m : length (skip here (label c r k rest) ++ flat entry near c r k rest) ≡ gap here + extent near rest = omega arith in
      ap (λ n. suc n) m
  flat_length (break rest) near c i k = flat_length rest near c i k
  flat_length (continue rest) near c i k = flat_length rest near c i k
  flat_length (call n op f opening rest) near c i k =
      let here = begins_here near rest in
      let a = suc i + extent true opening in
      let r = suc a + gap here in
      let lo = flat_length opening true None (suc i) a in
      let l = flat_length rest near c r k in
      let s = skips here (label c r k rest) in
      let e = three (flat entry true None (suc i) a opening) (jump (entry f) ∷ skip here (label c r k rest)) (flat entry near c r k rest) in
      let m : length (flat entry true None (suc i) a opening ++ jump (entry f) ∷ skip here (label c r k rest) ++ flat entry near c r k rest) ≡ suc (extent true opening + gap here + extent near rest) = omega arith in
      ap (λ n. suc n) m
  flat_length (ends n op rest) near c i k = ap (λ n. suc n) (flat_length rest near c (suc i) k)

-- code that begins here begins at its index
pub begins_at : (code : Code ℕ) (near : Bool) (c : Around) (i k : ℕ) → begins_here near code ≡ true → (near ≡ true → k ≡ i + extent near code) → label c i k code ≡ i
begins_at done near c i k here is = let e = is here in omega arith
begins_at (perform n op rest) near c i k here is = refl
begins_at (choose n op x y rest) near c i k here is = refl
begins_at (while test body step rest) near c i k here is = refl
begins_at (until body test rest) near c i k here is =
    let t = i + extent true body in
    begins_at body true (Some (record { behind = label c (t + extent false test) k rest; onward = t })) i t here (λ e. refl)
begins_at (turn test body step rest) near c i k here is = refl
begins_at (again test body step rest) near c i k here is = refl
begins_at (quit n op rest) near c i k here is = refl
begins_at (break rest) near c i k here is = absurd (cc)
begins_at (continue rest) near c i k here is = absurd (cc)
begins_at (call n op f opening rest) near c i k here is = refl
begins_at (ends n op rest) near c i k here is = refl

pub first_at : (code : Code ℕ) (c : Around) (i k : ℕ) → is_first code ≡ true → label c i k code ≡ i
first_at (perform n op rest) c i k first = refl
first_at (choose n op x y rest) c i k first = refl
first_at (quit n op rest) c i k first = refl
first_at (call n op f opening rest) c i k first = refl
first_at (ends n op rest) c i k first = refl
first_at done c i k first = absurd (cc)
first_at (while test body step rest) c i k first = absurd (cc)
first_at (until body test rest) c i k first = absurd (cc)
first_at (turn test body step rest) c i k first = absurd (cc)
first_at (again test body step rest) c i k first = absurd (cc)
first_at (break rest) c i k first = absurd (cc)
first_at (continue rest) c i k first = absurd (cc)

-- a step begins here, or is empty
pub start_at : (code : Code ℕ) (c : Around) (i k : ℕ) → is_start code ≡ true → label c i k code ≡ (if begins_here false code then i else k)
start_at done c i k start = refl
start_at (perform n op rest) c i k start = refl
start_at (choose n op x y rest) c i k start = refl
start_at (quit n op rest) c i k start = refl
start_at (call n op f opening rest) c i k start = refl
start_at (ends n op rest) c i k start = refl
start_at (while test body step rest) c i k start = absurd (cc)
start_at (until body test rest) c i k start = absurd (cc)
start_at (turn test body step rest) c i k start = absurd (cc)
start_at (again test body step rest) c i k start = absurd (cc)
start_at (break rest) c i k start = absurd (cc)
start_at (continue rest) c i k start = absurd (cc)
