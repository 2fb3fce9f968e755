-- Code as a flat list: its operations, in the order of the text. There is a jump only after an
-- operation that would go on at the next index where the code goes on elsewhere, and in a call,
-- where it leads to the function.
use Rattle.std.specs.Prelude.{ℕ, suc, ◌+◌, ◌==◌, ◌&&◌, ◌||◌, Bool, true, false, List, [], ◌∷◌, ◌++◌}
use Rattle.std.specs.Prelude.{Some, None, if◌then◌else◌}
use Rattle.fk_meaning_forms.specs.Code.{Code, done, perform, choose, while, until, quit, break}
use Rattle.fk_meaning_forms.specs.Code.{continue, call, ends}
use Rattle.fk_core.specs.CodeAt.{Loop, Around}
use Rattle.fk_core_flat.specs.Items.{Item, jump, act, way_of, goes_away, aim}

-- Code is written at an index, and goes on at another one. It is `near` if that is the index after
-- what is written. Code begins here if it begins where its first operation is written, and doesn't
-- go elsewhere at once.
abbrev pub begins_here : (near : Bool) → Code ℕ → Bool
begins_here near done = near
begins_here near (until body test rest) = begins_here true body
begins_here near (break rest) = false
begins_here near (continue rest) = false
begins_here near code = true

-- A jump to the target, unless what is there comes next.
abbrev pub skip : (here : Bool) → (target : ℕ) → List Item
skip true target = []
skip false target = jump target ∷ []

abbrev pub gap : (here : Bool) → ℕ
gap true = 0
gap false = 1

-- The number of entries in the list of code.
abbrev pub extent : (near : Bool) → Code ℕ → ℕ
extent near done = 0
extent near (perform n op rest) =
    suc (gap (goes_away (way_of op) || begins_here near rest) + extent near rest)
extent near (choose n op x y rest) =
    let after = begins_here near rest in
    let beside = after && (extent after y == 0) in
    suc (gap (begins_here beside x) + extent beside x + extent after y + extent near rest)
extent near (while test body step rest) =
    let steps = begins_here false step in
    extent (begins_here steps body) test + extent steps body + extent false step + extent near rest
extent near (until body test rest) = extent true body + extent false test + extent near rest
extent near (quit n op rest) = suc (gap (begins_here near rest) + extent near rest)
extent near (break rest) = extent near rest
extent near (continue rest) = extent near rest
extent near (call n op f opening rest) =
    suc (suc (extent true opening + gap (begins_here near rest) + extent near rest))
extent near (ends n op rest) = suc (extent near rest)
extent near code = 0

abbrev pub behind : Around → ℕ
behind None = 0
behind (Some loop) = loop.behind

abbrev pub onward : Around → ℕ
onward None = 0
onward (Some loop) = loop.onward

-- The index where code begins that is written at index i and goes on at index k.
abbrev pub label : Around → (i k : ℕ) → Code ℕ → ℕ
label c i k done = k
label c i k (until body test rest) =
    let t = i + extent true body in
    label (Some (record { behind = label c (t + extent false test) k rest; onward = t })) i t body
label c i k (break rest) = behind c
label c i k (continue rest) = onward c
label c i k code = i

-- The flat list of code, where functions begin at given indices.
module _ (entry : (binding : ℕ) → ℕ) where
  abbrev pub flat : (near : Bool) → Around → (i k : ℕ) → Code ℕ → List Item
  flat near c i k done = []
  flat near c i k (perform n op rest) =
      let here = goes_away (way_of op) || begins_here near rest in
      let r = suc i + gap here in
      act n op (aim (way_of op) k) ∷ skip here (label c r k rest) ++ flat near c r k rest
  flat near c i k (choose n op x y rest) =
      let after = begins_here near rest in
      let beside = after && (extent after y == 0) in
      let a = suc i + gap (begins_here beside x) in
      let b = a + extent beside x in
      let r = b + extent after y in
      let m = label c r k rest in
      act n op (label c b m y) ∷ skip (begins_here beside x) (label c a m x)
      ++ flat beside c a m x ++ flat after c b m y ++ flat near c r k rest
  flat near c i k (while test body step rest) =
      let steps = begins_here false step in
      let enters = begins_here steps body in
      let b = i + extent enters test in
      let t = b + extent steps body in
      let r = t + extent false step in
      let loop : Loop = record { behind = label c r k rest; onward = if steps then t else i } in
      flat enters (Some loop) i (label (Some loop) b loop.onward body) test
      ++ flat steps (Some loop) b loop.onward body ++ flat false (Some loop) t i step
      ++ flat near c r k rest
  flat near c i k (until body test rest) =
      let t = i + extent true body in
      let r = t + extent false test in
      let loop : Loop = record { behind = label c r k rest; onward = t } in
      flat true (Some loop) i t body ++ flat false (Some loop) t (label (Some loop) i t body) test
      ++ flat near c r k rest
  flat near c i k (quit n op rest) =
      let r = suc i + gap (begins_here near rest) in
      act n op (behind c) ∷ skip (begins_here near rest) (label c r k rest) ++ flat near c r k rest
  flat near c i k (break rest) = flat near c i k rest
  flat near c i k (continue rest) = flat near c i k rest
  flat near c i k (call n op f opening rest) =
      let e = suc i + extent true opening in
      let r = suc e + gap (begins_here near rest) in
      act n op (entry f) ∷ flat true None (suc i) e opening
      ++ jump (entry f) ∷ skip (begins_here near rest) (label c r k rest) ++ flat near c r k rest
  flat near c i k (ends n op rest) = act n op 0 ∷ flat near c (suc i) k rest
  flat near c i k code = []
