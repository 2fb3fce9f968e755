-- Code that is shown comes behind what is built, its sites numbered.
use Rattle.std.proofs.Common.{◌≡◌, ℕ, suc, ◌+◌, List, [], ◌∷◌, ◌++◌, fold, Ok, Err, IfOk, ap, ap₂, ◌∙◌, sym, refl, subst, arith}
use Rattle.std.specs.Prelude.{Result, IfErr}
use Rattle.std.proofs.lemmas.List.Sums.{fold-append}
use Rattle.fk_meaning_forms.specs.Code as c
use Rattle.fk_meaning_forms.specs.Code.{Code, append, size, numbered}
use Rattle.fk_lower.specs.Building.{Event, Perform, Quit, Ends, Break, Continue, Aside, Joined, Returned, Part, Behind, events_of, OnwardWay, AsideWay, Test, Body, Step, FirstBody, LastTest, Opening, Building, building, after, IsUnbegun, CodeIsBuilt, IsShown}
use Rattle.fk_lower.specs.declared.block.Block.{Block}
use Rattle.fk_lower.specs.declared.fault.LowerFault.{LowerFault}
use Rattle.fk_lower.specs.declared.fault.LowerFault.TheVariants as v
use Rattle.fk_lower.specs.BuilderView.{block_code}
use Rattle.fk_lower.specs.Faults.{ShowsNoCode, IsBuildFault}
use Rattle.fk_lower.proofs.Placing.{AllPlaced}

append_done : (code : Code ℕ) → append code c.done ≡ code
append_done c.done = refl
append_done (c.perform t op rest) = ap (c.perform t op) (append_done rest)
append_done (c.choose t op a b rest) = ap (c.choose t op a b) (append_done rest)
append_done (c.while test body step rest) = ap (c.while test body step) (append_done rest)
append_done (c.until body test rest) = ap (c.until body test) (append_done rest)
append_done (c.turn test body step rest) = ap (c.turn test body step) (append_done rest)
append_done (c.again test body step rest) = ap (c.again test body step) (append_done rest)
append_done (c.quit t op rest) = ap (c.quit t op) (append_done rest)
append_done (c.break rest) = ap c.break (append_done rest)
append_done (c.continue rest) = ap c.continue (append_done rest)
append_done (c.call t op f opening rest) = ap (c.call t op f opening) (append_done rest)
append_done (c.ends t op rest) = ap (c.ends t op) (append_done rest)

append_more : (code more last : Code ℕ) → append (append code more) last ≡ append code (append more last)
append_more c.done more last = refl
append_more (c.perform t op rest) more last = ap (c.perform t op) (append_more rest more last)
append_more (c.choose t op a b rest) more last = ap (c.choose t op a b) (append_more rest more last)
append_more (c.while test body step rest) more last = ap (c.while test body step) (append_more rest more last)
append_more (c.until body test rest) more last = ap (c.until body test) (append_more rest more last)
append_more (c.turn test body step rest) more last = ap (c.turn test body step) (append_more rest more last)
append_more (c.again test body step rest) more last = ap (c.again test body step) (append_more rest more last)
append_more (c.quit t op rest) more last = ap (c.quit t op) (append_more rest more last)
append_more (c.break rest) more last = ap c.break (append_more rest more last)
append_more (c.continue rest) more last = ap c.continue (append_more rest more last)
append_more (c.call t op f opening rest) more last = ap (c.call t op f opening) (append_more rest more last)
append_more (c.ends t op rest) more last = ap (c.ends t op) (append_more rest more last)

abbrev shown : Building → List Event → Building
shown b events = fold after b events

two : (b : Building) (xs ys : List Event) → shown b (xs ++ ys) ≡ shown (shown b xs) ys
two b xs ys = fold-append after b xs ys

-- ---- events in their places

placed_both : (xs ys : List Event) (b : Building) → AllPlaced b xs → AllPlaced (shown b xs) ys → AllPlaced b (xs ++ ys)
placed_both [] ys b h k = k
placed_both (x ∷ xs) ys b h k = (h.0, placed_both xs ys (after b x) h.1 k)

standing : (events : List Event) {b other : Building} → b ≡ other → AllPlaced other events → AllPlaced b events
standing events e h = subst (λ (b : Building). AllPlaced b events) (sym e) h

module _ {A : Type 0} where
  -- what it comes to
  abbrev with_code : Building → Code A → Building
  with_code b code = building (b.site + size code) b.outer (append b.code (numbered b.site code))

  -- code that comes behind one piece
  behind_piece : (piece : Code ℕ) (b : Building) (m s : ℕ) (rest : Code A) → m + size rest ≡ s
      → with_code (building m b.outer (append b.code piece)) rest ≡ building s b.outer (append b.code (append piece (numbered m rest)))
  behind_piece piece b m s rest e =
      ap₂ (λ (s : ℕ) (code : Code ℕ). building s b.outer code) e (append_more b.code piece (numbered m rest))

  pub built : (code : Code A) → IsUnbegun code → (b : Building) → shown b (events_of code) ≡ with_code b code
  built c.done w b = let e : b.site ≡ b.site + 0 = omega arith in ap₂ (λ (s : ℕ) (code : Code ℕ). building s b.outer code) e (sym (append_done b.code))
  built (c.perform t op rest) w b =
      let e : suc b.site + size rest ≡ b.site + suc (size rest) = omega arith in
      let piece = c.perform b.site op c.done in
      built rest w (building (suc b.site) b.outer (append b.code piece)) ∙ behind_piece piece b (suc b.site) (b.site + suc (size rest)) rest e
  built (c.quit t op rest) w b =
      let e : suc b.site + size rest ≡ b.site + suc (size rest) = omega arith in
      let piece = c.quit b.site op c.done in
      built rest w (building (suc b.site) b.outer (append b.code piece)) ∙ behind_piece piece b (suc b.site) (b.site + suc (size rest)) rest e
  built (c.ends t op rest) w b =
      let e : suc b.site + size rest ≡ b.site + suc (size rest) = omega arith in
      let piece = c.ends b.site op c.done in
      built rest w (building (suc b.site) b.outer (append b.code piece)) ∙ behind_piece piece b (suc b.site) (b.site + suc (size rest)) rest e
  built (c.break rest) w b = built rest w (building b.site b.outer (append b.code (c.break c.done))) ∙ behind_piece (c.break c.done) b b.site (b.site + size rest) rest refl
  built (c.continue rest) w b = built rest w (building b.site b.outer (append b.code (c.continue c.done))) ∙ behind_piece (c.continue c.done) b b.site (b.site + size rest) rest refl
  built (c.choose t op x y rest) w b =
      let n = suc b.site in
      let m = n + size x in
      let r = m + size y in
      let X = numbered n x in
      let Y = numbered m y in
      let piece = c.choose b.site op X Y c.done in
      let e : r + size rest ≡ b.site + suc (size x + size y + size rest) = omega arith in
      two (building n (OnwardWay b.code b.site op ∷ b.outer) c.done) (events_of x ++ (Aside ∷ events_of y)) (Joined ∷ events_of rest)
      ∙ ap (λ b. shown b (Joined ∷ events_of rest)) (two (building n (OnwardWay b.code b.site op ∷ b.outer) c.done) (events_of x) (Aside ∷ events_of y))
      ∙ ap (λ b. shown (shown b (Aside ∷ events_of y)) (Joined ∷ events_of rest)) (built x w.0 (building n (OnwardWay b.code b.site op ∷ b.outer) c.done))
      ∙ ap (λ b. shown b (Joined ∷ events_of rest)) (built y w.1 (building m (AsideWay b.code b.site op X ∷ b.outer) c.done))
      ∙ built rest w.2 (building r b.outer (append b.code piece))
      ∙ behind_piece piece b r (b.site + suc (size x + size y + size rest)) rest e
  built (c.while test body step rest) w b =
      let n = b.site + size test in
      let m = n + size body in
      let r = m + size step in
      let T = numbered b.site test in
      let B = numbered n body in
      let S = numbered m step in
      let piece = c.while T B S c.done in
      let e : r + size rest ≡ b.site + (size test + size body + size step + size rest) = omega arith in
      let first = building b.site (Test b.code ∷ b.outer) c.done in
      two first (events_of test ++ (Part ∷ events_of body) ++ (Part ∷ events_of step)) (Behind ∷ events_of rest)
      ∙ ap (λ b. shown b (Behind ∷ events_of rest)) (two first (events_of test ++ (Part ∷ events_of body)) (Part ∷ events_of step))
      ∙ ap (λ b. shown (shown b (Part ∷ events_of step)) (Behind ∷ events_of rest)) (two first (events_of test) (Part ∷ events_of body))
      ∙ ap (λ b. shown (shown (shown b (Part ∷ events_of body)) (Part ∷ events_of step)) (Behind ∷ events_of rest)) (built test w.0 first)
      ∙ ap (λ b. shown (shown b (Part ∷ events_of step)) (Behind ∷ events_of rest)) (built body w.1 (building n (Body b.code T ∷ b.outer) c.done))
      ∙ ap (λ b. shown b (Behind ∷ events_of rest)) (built step w.2 (building m (Step b.code T B ∷ b.outer) c.done))
      ∙ built rest w.3 (building r b.outer (append b.code piece))
      ∙ behind_piece piece b r (b.site + (size test + size body + size step + size rest)) rest e
  built (c.until body test rest) w b =
      let n = b.site + size body in
      let r = n + size test in
      let B = numbered b.site body in
      let T = numbered n test in
      let piece = c.until B T c.done in
      let e : r + size rest ≡ b.site + (size body + size test + size rest) = omega arith in
      let first = building b.site (FirstBody b.code ∷ b.outer) c.done in
      two first (events_of body ++ (Part ∷ events_of test)) (Behind ∷ events_of rest)
      ∙ ap (λ b. shown b (Behind ∷ events_of rest)) (two first (events_of body) (Part ∷ events_of test))
      ∙ ap (λ b. shown (shown b (Part ∷ events_of test)) (Behind ∷ events_of rest)) (built body w.0 first)
      ∙ ap (λ b. shown b (Behind ∷ events_of rest)) (built test w.1 (building n (LastTest b.code B ∷ b.outer) c.done))
      ∙ built rest w.2 (building r b.outer (append b.code piece))
      ∙ behind_piece piece b r (b.site + (size body + size test + size rest)) rest e
  built (c.call t op f opening rest) w b =
      let n = suc b.site in
      let r = n + size opening in
      let O = numbered n opening in
      let piece = c.call b.site op f O c.done in
      let e : r + size rest ≡ b.site + suc (size opening + size rest) = omega arith in
      let first = building n (Opening b.code b.site op f ∷ b.outer) c.done in
      two first (events_of opening) (Returned ∷ events_of rest)
      ∙ ap (λ b. shown b (Returned ∷ events_of rest)) (built opening w.0 first)
      ∙ built rest w.1 (building r b.outer (append b.code piece))
      ∙ behind_piece piece b r (b.site + suc (size opening + size rest)) rest e
  built (c.turn test body step rest) w b = absurd w
  built (c.again test body step rest) w b = absurd w

  -- ---- and all that is shown of it is in its place

  pub placed : (code : Code A) → IsUnbegun code → (b : Building) → AllPlaced b (events_of code)
  placed c.done w b = tt
  placed (c.perform t op rest) w b = (tt, placed rest w (after b (Perform op)))
  placed (c.quit t op rest) w b = (tt, placed rest w (after b (Quit op)))
  placed (c.ends t op rest) w b = (tt, placed rest w (after b (Ends op)))
  placed (c.break rest) w b = (tt, placed rest w (after b Break))
  placed (c.continue rest) w b = (tt, placed rest w (after b Continue))
  placed (c.choose t op x y rest) w b =
      let n = suc b.site in
      let m = n + size x in
      let X = numbered n x in
      let first = building n (OnwardWay b.code b.site op ∷ b.outer) c.done in
      let second = building m (AsideWay b.code b.site op X ∷ b.outer) c.done in
      let ys = Aside ∷ events_of y in
      let joins = Joined ∷ events_of rest in (
        tt,
        placed_both (events_of x ++ ys) joins first
            (placed_both (events_of x) ys first (placed x w.0 first) (standing ys (built x w.0 first) (tt, placed y w.1 second)))
            (standing joins (two first (events_of x) ys ∙ ap (λ b. shown b ys) (built x w.0 first) ∙ built y w.1 second) (tt, placed rest w.2 _)),
      )
  placed (c.while test body step rest) w b =
      let n = b.site + size test in
      let m = n + size body in
      let T = numbered b.site test in
      let B = numbered n body in
      let first = building b.site (Test b.code ∷ b.outer) c.done in
      let second = building n (Body b.code T ∷ b.outer) c.done in
      let third = building m (Step b.code T B ∷ b.outer) c.done in
      let bodies = Part ∷ events_of body in
      let steps = Part ∷ events_of step in
      let rests = Behind ∷ events_of rest in
      let tested = built test w.0 first in
      let turned = two first (events_of test) bodies ∙ ap (λ b. shown b bodies) tested ∙ built body w.1 second in
      let stepped = two first (events_of test ++ bodies) steps ∙ ap (λ b. shown b steps) turned ∙ built step w.2 third in (
        tt,
        placed_both (events_of test ++ bodies ++ steps) rests first
            (placed_both (events_of test ++ bodies) steps first
            (placed_both (events_of test) bodies first (placed test w.0 first) (standing bodies tested (tt, placed body w.1 second)))
            (standing steps turned (tt, placed step w.2 third)))
            (standing rests stepped (tt, placed rest w.3 _)),
      )
  placed (c.until body test rest) w b =
      let n = b.site + size body in
      let B = numbered b.site body in
      let first = building b.site (FirstBody b.code ∷ b.outer) c.done in
      let second = building n (LastTest b.code B ∷ b.outer) c.done in
      let tests = Part ∷ events_of test in
      let rests = Behind ∷ events_of rest in
      let turned = built body w.0 first in
      let tested = two first (events_of body) tests ∙ ap (λ b. shown b tests) turned ∙ built test w.1 second in (
        tt,
        placed_both (events_of body ++ tests) rests first
            (placed_both (events_of body) tests first (placed body w.0 first) (standing tests turned (tt, placed test w.1 second)))
            (standing rests tested (tt, placed rest w.2 _)),
      )
  placed (c.call t op f opening rest) w b =
      let n = suc b.site in
      let first = building n (Opening b.code b.site op f ∷ b.outer) c.done in
      let rests = Returned ∷ events_of rest in (
        tt,
        placed_both (events_of opening) rests first (placed opening w.0 first) (standing rests (built opening w.0 first) (tt, placed rest w.1 _)),
      )
  placed (c.turn test body step rest) w b = absurd w
  placed (c.again test body step rest) w b = absurd w

pub code_is_built : (A : Type 0) → CodeIsBuilt A
code_is_built A code w b = built code w b

is_shown : (site n : ℕ) (events : List Event) (made : Code ℕ) → shown (building site [] c.done) events ≡ building n [] made → IsShown site events made
is_shown site n events made e code w h =
    let start = building site [] c.done in
    ap (λ (b : Building). b.code) (sym e ∙ ap (shown start) (sym h) ∙ built code w start)

-- where what is built comes to all that is shown
pub all_shown : (site n : ℕ) (events : List Event) (b : Building) (result : Result Block LowerFault)
    → b ≡ shown (building site [] c.done) events
    → IfOk result (λ block. b ≡ building n [] (block_code block)) → IfOk result (λ block. IsShown site events (block_code block))
all_shown site n events b (Err f) h made = tt
all_shown site n events b (Ok block) h made = is_shown site n events (block_code block) (sym h ∙ made)

-- code leaves nothing open
pub open_at_end : (site : ℕ) (events : List Event) (b : Building) → b ≡ shown (building site [] c.done) events → (b.outer ≡ [] → ⊥) → ShowsNoCode events
open_at_end site events b h left code w e =
    let start = building site [] c.done in
    left (ap (λ (b : Building). b.outer) (h ∙ ap (shown start) (sym e) ∙ built code w start))

pub refused_at_end : (site : ℕ) (events : List Event) (b : Building) (result : Result Block LowerFault) → b ≡ shown (building site [] c.done) events
    → IfErr result (λ fault. fault ≡ v.Misplaced) → IfErr result (λ fault. b.outer ≡ [] → ⊥) → IfErr result (IsBuildFault site events)
refused_at_end site events b (Ok block) h kind left = tt
refused_at_end site events b (Err v.Misplaced) h kind left = open_at_end site events b h left
refused_at_end site events b (Err v.TooLong) h kind left = cc
refused_at_end site events b (Err v.OutOfRange) h kind left = cc
refused_at_end site events b (Err v.Memory) h kind left = cc
