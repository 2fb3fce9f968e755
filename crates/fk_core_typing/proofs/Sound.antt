-- What is known at each index of a flat list is so where the list goes on.
use Rattle.std.proofs.Common.{◌≡◌, ℕ, suc, ◌+◌, ◌<◌, Bool, true, false, true≢false, List, [], ◌∷◌, ◌++◌, length, slice_get, Option, Some, None, inl, inr, refl, sym, ap, ◌∙◌, subst, arith, length-append}
use Rattle.std.specs.Prelude.{◌==◌, ◌||◌, ◌⊎◌, is_some, if◌then◌else◌}
use Rattle.std.proofs.lemmas.Option.{slice_get_within}
use Rattle.fk_meaning_operation.specs.declared.operation.Operation.{Operation}
use Rattle.fk_meaning_forms.specs.Code.{Code, done, perform, choose, while, until, turn, again, quit, break, continue, call, ends}
use Rattle.fk_core_liveness.specs.declared.places.FunctionKind.{FunctionKind}
use Rattle.fk_core.specs.declared.op.CoreOp.{CoreOp}
use Rattle.fk_core.specs.Next.{behind_jump}
use Rattle.fk_core.specs.CodeAt.{Loop, Around, is_first, is_start}
use Rattle.fk_core_flat.specs.Items as w
use Rattle.fk_core_flat.specs.Items.{Item, jump, act, Has, Way, way_of, goes_away, aim}
use Rattle.fk_core_flat.specs.Flat.{begins_here, skip, gap, extent, label, flat}
use Rattle.fk_core_flat.specs.Flat as f
use Rattle.fk_core_flat.specs.Shape.{is_done, is_closed, IsShaped}
use Rattle.fk_core_flat.proofs.Having.{has_front, has_back}
use Rattle.fk_core_flat.proofs.Lengths.{skips, flat_length, begins_at}
use Rattle.fk_core_flat.proofs.Parts.{choice_at, turns_at, rounds_at, entering_at, has_choice, has_turns, has_rounds, has_entering}
use Rattle.fk_core_flat.proofs.CodeAt.{no_extent, both_true, at_gap, opening_is_shaped, opening_begins, behind_opening, behind_jump_at}
use Rattle.fk_core_typing.specs.Heights.{raised, height, HasHeights}
use Rattle.fk_core_typing.proofs.Done.{by_done}
use Rattle.fk_core_typing.proofs.System.{System, Loop as StateLoop, GrantsTurn, GrantsLeft, Judged, IsLawful}
use Rattle.fk_core_typing.proofs.Marks.{skip_mark, skip_length, Noted, noted_front, noted_back, marks, mark_length}
use Rattle.fk_core_typing.proofs.Standing.{stands_at}

-- the list, the states at its indices, and where depths are told, the depth of each site
module _ (core : List CoreOp) (entry : ℕ → ℕ) (place_of : ℕ → FunctionKind) (sys : System) (lawful : IsLawful sys place_of) (state : ℕ → sys.State) (told : Bool) (depth : ℕ → ℕ) where
  -- who comes to an index in a state finds what is asked there, and an operation or a jump
  pub record Comes (s : sys.State) (j : ℕ) : Type 0 where
    pub grants : sys.Grants s (state j)
    pub below : j < length core

  comes_as : (s t : sys.State) (j : ℕ) → sys.Grants s t → Comes t j → Comes s j
  comes_as s t j g c = record { grants = lawful.both s t (state j) g c.grants; below = c.below }

  -- an index with a state
  at_index : (s : sys.State) (j : ℕ) (op : CoreOp) → state j ≡ s → slice_get core j ≡ Some op → Comes s j
  at_index s j op e stands = record { grants = subst (sys.Grants s) (sym e) (lawful.itself s); below = slice_get_within core j op stands }

  abbrev pub Goes : Way → Operation → sys.State → (i target : ℕ) → Type 0
  Goes w.straight op s i target = Comes (sys.behind op true s) (suc i)
  Goes w.either op s i target = Comes (sys.behind op true s) (suc i) × Comes (sys.behind op false s) target
  Goes w.onto op s i target = Comes (sys.behind op true s) target
  Goes w.into op s i target =
      (f : ℕ) × (gives : Bool) × (opening : Code ℕ) × sys.Calls op f gives opening
      × Comes (sys.begin op f gives) (suc i) × Comes (sys.behind_call op gives s) (behind_jump core (suc i))
  Goes w.out op s i target = sys.Ends op s

  -- an operation with its site and target, at an index
  pub record IsSound (s : sys.State) (i n : ℕ) (op : Operation) (target : ℕ) : Type 0 where
    pub may : sys.May op s
    pub height : told ≡ true → depth n ≡ sys.height s
    pub goes : Goes (way_of op) op s i target

  abbrev pub SoundAt : ℕ → Item → Type 0
  SoundAt i (jump target) = Comes (state i) target
  SoundAt i (act n op target) = IsSound (state i) i n op target

  abbrev pub Sound : ℕ → List Item → Type 0
  Sound i [] = Unit {0}
  Sound i (item ∷ items) = SoundAt i item × Sound (suc i) items

  sound_both : (i r : ℕ) (xs ys : List Item) → r ≡ i + length xs → Sound i xs → Sound r ys → Sound i (xs ++ ys)
  sound_both i r [] ys e a b = let f : r ≡ i = omega arith in subst (λ j. Sound j ys) f b
  sound_both i r (x ∷ xs) ys e a b = let f : r ≡ suc i + length xs = omega arith in (a.0, sound_both (suc i) r xs ys f a.1 b)

  sound_skip : (here : Bool) (j target : ℕ) (s : sys.State) → Noted state j (skip_mark here s) → Comes s target → Sound j (skip here target)
  sound_skip true j target s m c = tt
  sound_skip false j target s m c = (subst (λ x. Comes x target) (sym m.0) c, tt)

  comes_by : (here : Bool) (j target : ℕ) (s : sys.State) → Has core j (skip here target) → Noted state j (skip_mark here s)
      → Comes s target → (here ≡ true → target ≡ j) → Comes s j
  comes_by true j target s h m c is = subst (Comes s) (is refl) c
  comes_by false j target s h m c is = at_index s j h.0.0 m.0 h.0.1

  -- the indices of the loop round a place
  abbrev LoopComes : Option (StateLoop sys) → Around → Type 0
  LoopComes None None = Unit {0}
  LoopComes (Some round) (Some loop) = Comes round.left loop.behind × Comes round.turn loop.onward
  LoopComes l c = ⊥

  leaves_loop : (l : Option (StateLoop sys)) (c : Around) (s : sys.State) → GrantsLeft sys l s → LoopComes l c → Comes s (f.behind c)
  leaves_loop None c s g ls = absurd g
  leaves_loop (Some round) None s g ls = absurd ls
  leaves_loop (Some round) (Some loop) s g ls = comes_as s round.left loop.behind g ls.0

  turns_again : (l : Option (StateLoop sys)) (c : Around) (s : sys.State) → GrantsTurn sys l s → LoopComes l c → Comes s (f.onward c)
  turns_again None c s g ls = absurd g
  turns_again (Some round) None s g ls = absurd ls
  turns_again (Some round) (Some loop) s g ls = comes_as s round.turn loop.onward g ls.1

  -- code that begins with an operation does so in its state
  first_comes : (code : Code ℕ) (near : Bool) (c : Around) (l : Option (StateLoop sys)) (s e : sys.State) (i k : ℕ) → is_first code ≡ true
      → (t : Judged sys l s code e) → Has core i (flat entry near c i k code) → Noted state i (marks sys near l s code e t) → Comes s i
  first_comes (perform n op rest) near c l s e i k is t h m = at_index s i h.0.0 m.0 h.0.1
  first_comes (choose n op x y rest) near c l s e i k is t h m = at_index s i h.0.0 m.0 h.0.1
  first_comes (quit n op rest) near c l s e i k is t h m = at_index s i h.0.0 m.0 h.0.1
  first_comes (call n op f opening rest) near c l s e i k is t h m = at_index s i h.0.0 m.0 h.0.1
  first_comes (ends n op rest) near c l s e i k is t h m = at_index s i h.0.0 m.0 h.0.1
  first_comes done near c l s e i k is t h m = absurd (cc)
  first_comes (while test body step rest) near c l s e i k is t h m = absurd (cc)
  first_comes (until body test rest) near c l s e i k is t h m = absurd (cc)
  first_comes (turn test body step rest) near c l s e i k is t h m = absurd (cc)
  first_comes (again test body step rest) near c l s e i k is t h m = absurd (cc)
  first_comes (break rest) near c l s e i k is t h m = absurd (cc)
  first_comes (continue rest) near c l s e i k is t h m = absurd (cc)

  -- so does a step, which may be empty
  start_comes : (code : Code ℕ) (c : Around) (l : Option (StateLoop sys)) (s : sys.State) (i k : ℕ) → is_start code ≡ true
      → (t : Judged sys l s code s) → Has core i (flat entry false c i k code) → Noted state i (marks sys false l s code s t)
      → Comes s k → Comes s (if begins_here false code then i else k)
  start_comes (perform n op rest) c l s i k is t h m g = at_index s i h.0.0 m.0 h.0.1
  start_comes (choose n op x y rest) c l s i k is t h m g = at_index s i h.0.0 m.0 h.0.1
  start_comes (quit n op rest) c l s i k is t h m g = at_index s i h.0.0 m.0 h.0.1
  start_comes (call n op f opening rest) c l s i k is t h m g = at_index s i h.0.0 m.0 h.0.1
  start_comes (ends n op rest) c l s i k is t h m g = at_index s i h.0.0 m.0 h.0.1
  start_comes done c l s i k is t h m g = g
  start_comes (while test body step rest) c l s i k is t h m g = absurd (cc)
  start_comes (until body test rest) c l s i k is t h m g = absurd (cc)
  start_comes (turn test body step rest) c l s i k is t h m g = absurd (cc)
  start_comes (again test body step rest) c l s i k is t h m g = absurd (cc)
  start_comes (break rest) c l s i k is t h m g = absurd (cc)
  start_comes (continue rest) c l s i k is t h m g = absurd (cc)

  module _ (has_body : ℕ → Bool) where
    -- code begins where its state is granted
    pub begins : (code : Code ℕ) (near : Bool) (c : Around) (l : Option (StateLoop sys)) (s e : sys.State) (i k : ℕ) → IsShaped has_body (is_some c) code
        → (t : Judged sys l s code e) → Has core i (flat entry near c i k code) → Noted state i (marks sys near l s code e t)
        → (is_closed code ≡ false → Comes e k) → LoopComes l c → Comes s (label c i k code)
    begins done near c l s e i k p t h m end ls = comes_as s e k t (end refl)
    begins (perform n op rest) near c l s e i k p t h m end ls = at_index s i h.0.0 m.0 h.0.1
    begins (choose n op x y rest) near c l s e i k p t h m end ls = at_index s i h.0.0 m.0 h.0.1
    begins (while test body step rest) near c l s e i k p t h m end ls =
        let q = turns_at entry test body step rest near c i k in
        let has = has_turns entry core test body step rest near c i k h in
        let round = t.0 in
        let b = round.turn in
        let ts = marks sys q.enters (Some round) b test b t.2 in
        let bs = marks sys q.steps (Some round) b body b t.3 in
        let ss = marks sys false (Some round) b step b t.4 in
        let rs = marks sys near l round.left rest e t.5 in
        let mt = noted_front state i ts bs (noted_front state i (ts ++ bs) ss (noted_front state i ((ts ++ bs) ++ ss) rs m)) in
        comes_as s b i t.1 (first_comes test q.enters (Some q.loop) (Some round) b b i q.enter p.0 t.2 has.test mt)
    begins (until body test rest) near c l s e i k p t h m end ls =
        let q = rounds_at entry body test rest near c i k in
        let has = has_rounds entry core body test rest near c i k h in
        let round = t.0 in
        let b = round.turn in
        let bs = marks sys true (Some round) b body b t.2 in
        let ts = marks sys false (Some round) b test b t.3 in
        let rs = marks sys near l round.left rest e t.4 in
        let lb = mark_length sys true (Some round) b body b t.2 in
        let lt = mark_length sys false (Some round) b test b t.3 in
        let e1 = length-append bs ts in
        let whole = noted_front state i (bs ++ ts) rs m in
        let mb = noted_front state i bs ts whole in
        let mt = noted_back state i q.test bs ts (omega arith) whole in
        let mr = noted_back state i q.behind (bs ++ ts) rs (omega arith) m in
        let gt = first_comes test false (Some q.loop) (Some round) b b q.test q.enter p.0 t.3 has.test mt in
        let gr = begins rest near c l round.left e q.behind k p.3 t.4 has.others mr end ls in
        comes_as s b (label c i k (until body test rest)) t.1
        (begins body true (Some q.loop) (Some round) b b i q.test p.1 t.2 has.body mb (λ z. gt) (gr, gt))
    begins (turn test body step rest) near c l s e i k p t h m end ls = absurd t
    begins (again test body step rest) near c l s e i k p t h m end ls = absurd t
    begins (quit n op rest) near c l s e i k p t h m end ls = at_index s i h.0.0 m.0 h.0.1
    begins (break rest) near c l s e i k p t h m end ls = leaves_loop l c s t.0 ls
    begins (continue rest) near c l s e i k p t h m end ls = turns_again l c s t.0 ls
    begins (call n op f opening rest) near c l s e i k p t h m end ls = at_index s i h.0.0 m.0 h.0.1
    begins (ends n op rest) near c l s e i k p t h m end ls = at_index s i h.0.0 m.0 h.0.1

    module _ (entries : (f : ℕ) → has_body f ≡ true → Comes (sys.first f) (entry f)) where
      -- the depths in code of which so many values stand before
      abbrev Tall : (values : ℕ) → Code ℕ → Type 0
      Tall h code = told ≡ true → HasHeights place_of depth h code

      tall : (code : Code ℕ) (a b : ℕ) → a ≡ b → (told ≡ true → HasHeights place_of depth a code) → Tall b code
      tall code a b e h z = subst (λ n. HasHeights place_of depth n code) e (h z)

      pub sound_done : (code : Code ℕ) (near : Bool) (c : Around) (j i k : ℕ) → is_done code ≡ true → Sound j (flat entry near c i k code)
      sound_done code near c j i k e = by_done (λ x. Sound j (flat entry near c i k x)) code e tt

      done_comes : (code : Code ℕ) (l : Option (StateLoop sys)) (s e : sys.State) (k : ℕ) → is_done code ≡ true → Judged sys l s code e
          → (is_closed code ≡ false → Comes e k) → Comes s k
      done_comes code l s e k d =
          by_done (λ x. Judged sys l s x e → (is_closed x ≡ false → Comes e k) → Comes s k) code d (λ t end. comes_as s e k t (end refl))

      -- code that is written somewhere, from a state to another, is sound
      abbrev Written : (code : Code ℕ) (near : Bool) (c : Around) (l : Option (StateLoop sys)) (s e : sys.State) → Judged sys l s code e → (r k : ℕ) → Type 0
      Written code near c l s e t r k =
          Has core r (flat entry near c r k code) → Noted state r (marks sys near l s code e t)
          → Tall (sys.height s) code → (near ≡ true → k ≡ r + extent near code) → Sound r (flat entry near c r k code)

      -- so is a part of a loop, wherever that is
      abbrev WrittenInLoop : (code : Code ℕ) (round : StateLoop sys) → Judged sys (Some round) round.turn code round.turn → Type 0
      WrittenInLoop code round t =
          (near : Bool) (loop : Loop) (r k : ℕ) → Comes round.turn k → LoopComes (Some round) (Some loop)
          → Written code near (Some loop) (Some round) round.turn round.turn t r k

      -- what follows an operation that falls into it
      followed : (here : Bool) (rest : Code ℕ) (near : Bool) (c : Around) (l : Option (StateLoop sys)) (s e : sys.State) (j k : ℕ)
          → here ≡ begins_here near rest → IsShaped has_body (is_some c) rest → (t : Judged sys l s rest e)
          → Has core j (skip here (label c (j + gap here) k rest)) → Has core (j + gap here) (flat entry near c (j + gap here) k rest)
          → Noted state j (skip_mark here s) → Noted state (j + gap here) (marks sys near l s rest e t)
          → (near ≡ true → k ≡ j + gap here + extent near rest) → (is_closed rest ≡ false → Comes e k) → LoopComes l c
          → Comes s j × Sound j (skip here (label c (j + gap here) k rest))
      followed here rest near c l s e j k eq p t hs hr ms mr is end ls =
          let r = j + gap here in
          let b = begins rest near c l s e r k p t hr mr end ls in (
            comes_by here j (label c r k rest) s hs ms b (λ z. begins_at rest near c r k (sym eq ∙ z) is ∙ at_gap core entry here j z),
            sound_skip here j (label c r k rest) s ms b,
          )

      follows : (here : Bool) (rest : Code ℕ) (near : Bool) (c : Around) (l : Option (StateLoop sys)) (s e : sys.State) (j k : ℕ)
          → here ≡ begins_here near rest → IsShaped has_body (is_some c) rest → (t : Judged sys l s rest e)
          → Has core j (skip here (label c (j + gap here) k rest) ++ flat entry near c (j + gap here) k rest)
          → Noted state j (skip_mark here s ++ marks sys near l s rest e t)
          → (near ≡ true → k ≡ j + gap here + extent near rest) → (is_closed rest ≡ false → Comes e k) → LoopComes l c
          → (Has core (j + gap here) (flat entry near c (j + gap here) k rest) → Noted state (j + gap here) (marks sys near l s rest e t)
          → Sound (j + gap here) (flat entry near c (j + gap here) k rest))
          → Comes s j × Sound j (skip here (label c (j + gap here) k rest) ++ flat entry near c (j + gap here) k rest)
      follows here rest near c l s e j k eq p t h m is end ls more =
          let r = j + gap here in
          let jumps = skip here (label c r k rest) in
          let others = flat entry near c r k rest in
          let before = skip_mark here s in
          let states = marks sys near l s rest e t in
          let a = skips here (label c r k rest) in
          let b = skip_length here s in
          let at : r ≡ j + length jumps = ap (λ n. j + n) (sym a) in
          let hr = has_back core j r jumps others at h in
          let mr = noted_back state j r before states (ap (λ n. j + n) (sym b)) m in
          let f = followed here rest near c l s e j k eq p t (has_front core j jumps others h) hr (noted_front state j before states m) mr is end ls in
          (f.0, sound_both j r jumps others at f.1 (more hr mr))

      -- an operation of the list
      stated : (s : sys.State) (i n : ℕ) (op : Operation) (target : ℕ) → state i ≡ s → IsSound s i n op target → IsSound (state i) i n op target
      stated s i n op target e is = subst (λ x. IsSound x i n op target) (sym e) is

      abbrev by_way : (way : Way) (op : Operation) (s : sys.State) (i target : ℕ) → way_of op ≡ way → Goes way op s i target → Goes (way_of op) op s i target
      by_way way op s i target e g = subst (λ w. Goes w op s i target) (sym e) g

      performed : (n : ℕ) (op : Operation) (rest : Code ℕ) (near : Bool) (c : Around) (l : Option (StateLoop sys)) (s e : sys.State) (i k : ℕ)
          → (way_of op ≡ w.straight) ⊎ ((way_of op ≡ w.onto) × (is_done rest ≡ true)) → IsShaped has_body (is_some c) rest
          → (t : Judged sys l s (perform n op rest) e) → (is_closed rest ≡ false → Comes e k) → LoopComes l c
          → ((r : ℕ) → Written rest near c l (sys.behind op true s) e t.1 r k)
          → Written (perform n op rest) near c l s e t i k
      performed n op rest near c l s e i k (inr o) p t end ls more h m hh is =
          let here = goes_away (way_of op) || begins_here near rest in
          let g : here ≡ true = ap (λ w. goes_away w || begins_here near rest) o.0 in
          let a = aim (way_of op) k in
          let to : a ≡ k = ap (λ w. aim w k) o.0 in
          let comes = done_comes rest l (sys.behind op true s) e k o.1 t.1 end in
          let goes = by_way w.onto op s i a o.0 (subst (Comes (sys.behind op true s)) (sym to) comes) in (
            stated s i n op a m.0 (record { may = t.0; height = λ z. (hh z).0; goes = goes }),
            subst (λ (here : Bool). Sound (suc i) (skip here (label c (suc i + gap here) k rest) ++ flat entry near c (suc i + gap here) k rest)) (sym g)
                (sound_done rest near c (suc i) (suc i + 0) k o.1),
          )
      performed n op rest near c l s e i k (inl o) p t end ls more h m hh is =
          let here = goes_away (way_of op) || begins_here near rest in
          let r = suc i + gap here in
          let b = sys.behind op true s in
          let g : here ≡ begins_here near rest = ap (λ w. goes_away w || begins_here near rest) o in
          let at : near ≡ true → k ≡ r + extent near rest = λ z. (let a = is z in omega arith) in
          let tail = tall rest (raised (sys.height s) op true) (sys.height b) (sym (lawful.rises op true s)) (λ z. (hh z).1) in
          let f = follows here rest near c l b e (suc i) k g p t.1 h.1 m.1 at end ls (λ hr mr. more r hr mr tail at) in
          let a = aim (way_of op) k in
          (stated s i n op a m.0 (record { may = t.0; height = λ z. (hh z).0; goes = by_way w.straight op s i a o f.0 }), f.1)

      chosen : (n : ℕ) (op : Operation) (x y rest : Code ℕ) (near : Bool) (c : Around) (l : Option (StateLoop sys)) (s e : sys.State) (i k : ℕ)
          → way_of op ≡ w.either → IsShaped has_body (is_some c) x → IsShaped has_body (is_some c) y → IsShaped has_body (is_some c) rest
          → (t : Judged sys l s (choose n op x y rest) e) → (is_closed rest ≡ false → Comes e k) → LoopComes l c
          → ((near : Bool) (r k : ℕ) → Comes t.1 k → Written x near c l (sys.behind op true s) t.1 t.2 r k)
          → ((near : Bool) (r k : ℕ) → Comes t.1 k → Written y near c l (sys.behind op false s) t.1 t.3 r k)
          → ((r : ℕ) → Written rest near c l t.1 e t.4 r k)
          → Written (choose n op x y rest) near c l s e t i k
      chosen n op x y rest near c l s e i k o px py p t end ls more_x more_y more h m hh is =
          let q = choice_at entry x y rest near c i k in
          let has = has_choice entry core x y rest near c i k h.1 in
          let u = t.1 in
          let b = sys.behind op true s in
          let b' = sys.behind op false s in
          let js = skip_mark q.here b in
          let xs = marks sys q.beside l b x u t.2 in
          let ys = marks sys q.after l b' y u t.3 in
          let zs = marks sys near l u rest e t.4 in
          let lj = skip_length q.here b in
          let lx = mark_length sys q.beside l b x u t.2 in
          let ly = mark_length sys q.after l b' y u t.3 in
          let e1 = length-append js xs in
          let e2 = length-append (js ++ xs) ys in
          let ways = noted_front state (suc i) ((js ++ xs) ++ ys) zs m.1 in
          let my = noted_back state (suc i) q.second (js ++ xs) ys (omega arith) ways in
          let mz = noted_back state (suc i) q.behind ((js ++ xs) ++ ys) zs (omega arith) m.1 in
          let mx = noted_front state (suc i) (js ++ xs) ys ways in
          let ij = skips q.here (label c q.first q.next x) in
          let ix = flat_length entry x q.beside c q.first q.next in
          let iy = flat_length entry y q.after c q.second q.next in
          let i1 = length-append q.jumps q.firsts in
          let i2 = length-append (q.jumps ++ q.firsts) q.seconds in
          let end_r : near ≡ true → k ≡ q.behind + extent near rest = λ z. (let f = is z in omega arith) in
          let end_y : q.after ≡ true → q.next ≡ q.second + extent q.after y = λ z. begins_at rest near c q.behind k z end_r in
          let end_x : q.beside ≡ true → q.next ≡ q.first + extent q.beside x = λ z. (let both = both_true q.after (extent q.after y == 0) z in let f = end_y both.0 in let g = no_extent (extent q.after y) both.1 in omega arith) in
          let gm = begins rest near c l u e q.behind k p t.4 has.others mz end ls in
          let gy = begins y q.after c l b' u q.second q.next py t.3 has.second my (λ z. gm) ls in
          let tx = tall x (raised (sys.height s) op true) (sys.height b) (sym (lawful.rises op true s)) (λ z. (hh z).1) in
          let ty = tall y (raised (sys.height s) op false) (sys.height b') (sym (lawful.rises op false s)) (λ z. (hh z).2) in
          let up : height place_of (raised (sys.height s) op true) x ≡ sys.height u =
          ap (λ h. height place_of h x) (sym (lawful.rises op true s)) ∙ stands_at sys place_of lawful x l b u t.2 in
          let tr = tall rest (height place_of (raised (sys.height s) op true) x) (sys.height u) up (λ z. (hh z).3) in
          let fx = follows q.here x q.beside c l b u (suc i) q.next refl px t.2 has.begins mx end_x (λ z. gm) ls (λ hx mx. more_x q.beside q.first q.next gm hx mx tx end_x) in
          let sy = more_y q.after q.second q.next gm has.second my ty end_y in
          let sr = more q.behind has.others mz tr end_r in
          let a = label c q.second q.next y in (
            stated s i n op a m.0 (record { may = t.0; height = λ z. (hh z).0; goes = by_way w.either op s i a o (fx.0, gy) }),
            sound_both (suc i) q.behind (q.jumps ++ q.firsts ++ q.seconds) q.others (omega arith)
                (sound_both (suc i) q.second (q.jumps ++ q.firsts) q.seconds (omega arith) fx.1 sy) sr,
          )

      whiled : (test body step rest : Code ℕ) (near : Bool) (c : Around) (l : Option (StateLoop sys)) (s e : sys.State) (i k : ℕ)
          → (p : IsShaped has_body (is_some c) (while test body step rest))
          → (t : Judged sys l s (while test body step rest) e) → (is_closed rest ≡ false → Comes e k) → LoopComes l c
          → WrittenInLoop test t.0 t.2 → WrittenInLoop body t.0 t.3 → WrittenInLoop step t.0 t.4
          → ((r : ℕ) → Written rest near c l t.0.left e t.5 r k)
          → Written (while test body step rest) near c l s e t i k
      whiled test body step rest near c l s e i k p t end ls more_t more_b more_s more h m hh is =
          let q = turns_at entry test body step rest near c i k in
          let has = has_turns entry core test body step rest near c i k h in
          let round = t.0 in
          let b = round.turn in
          let lp : Around = Some q.loop in
          let ts = marks sys q.enters (Some round) b test b t.2 in
          let bs = marks sys q.steps (Some round) b body b t.3 in
          let ss = marks sys false (Some round) b step b t.4 in
          let rs = marks sys near l round.left rest e t.5 in
          let lt = mark_length sys q.enters (Some round) b test b t.2 in
          let lb = mark_length sys q.steps (Some round) b body b t.3 in
          let ls' = mark_length sys false (Some round) b step b t.4 in
          let e1 = length-append ts bs in
          let e2 = length-append (ts ++ bs) ss in
          let whole = noted_front state i ((ts ++ bs) ++ ss) rs m in
          let front = noted_front state i (ts ++ bs) ss whole in
          let mt = noted_front state i ts bs front in
          let mb = noted_back state i q.body ts bs (omega arith) front in
          let ms = noted_back state i q.step (ts ++ bs) ss (omega arith) whole in
          let mr = noted_back state i q.behind ((ts ++ bs) ++ ss) rs (omega arith) m in
          let it = flat_length entry test q.enters lp i q.enter in
          let ib = flat_length entry body q.steps lp q.body q.loop.onward in
          let is' = flat_length entry step false lp q.step i in
          let i1 = length-append q.tests q.bodies in
          let i2 = length-append (q.tests ++ q.bodies) q.lasts in
          let end_r : near ≡ true → k ≡ q.behind + extent near rest = λ z. (let f = is z in omega arith) in
          let end_b : q.steps ≡ true → q.loop.onward ≡ q.body + extent q.steps body = λ z. ap (λ (x : Bool). if x then q.step else i) z in
          let end_t : q.enters ≡ true → q.enter ≡ i + extent q.enters test = λ z. begins_at body q.steps lp q.body q.loop.onward z end_b in
          let end_s : false ≡ true → i ≡ q.step + extent false step = λ z. absurd (true≢false (sym z)) in
          let gi = first_comes test q.enters lp (Some round) b b i q.enter p.0 t.2 has.test mt in
          let go = start_comes step lp (Some round) b q.step i p.1 t.4 has.step ms gi in
          let gr = begins rest near c l round.left e q.behind k p.5 t.5 has.others mr end ls in
          let gl : LoopComes (Some round) lp = (gr, go) in
          let ge = begins body q.steps lp (Some round) b b q.body q.loop.onward p.3 t.3 has.body mb (λ z. go) gl in
          let u0 : sys.height s ≡ sys.height b = lawful.level s b t.1 in
          let u1 : height place_of (sys.height s) test ≡ sys.height b = ap (λ h. height place_of h test) u0 ∙ stands_at sys place_of lawful test (Some round) b b t.2 in
          let u2 : height place_of (height place_of (sys.height s) test) body ≡ sys.height b = ap (λ h. height place_of h body) u1 ∙ stands_at sys place_of lawful body (Some round) b b t.3 in
          let u3 : height place_of (height place_of (height place_of (sys.height s) test) body) step ≡ sys.height b = ap (λ h. height place_of h step) u2 ∙ stands_at sys place_of lawful step (Some round) b b t.4 in
          let tt' = tall test (sys.height s) (sys.height b) u0 (λ z. (hh z).0) in
          let tb = tall body (height place_of (sys.height s) test) (sys.height b) u1 (λ z. (hh z).1) in
          let ts' = tall step (height place_of (height place_of (sys.height s) test) body) (sys.height b) u2 (λ z. (hh z).2) in
          let tr = tall rest (height place_of (height place_of (height place_of (sys.height s) test) body) step) (sys.height round.left) (u3 ∙ sym round.even) (λ z. (hh z).3) in
          sound_both i q.behind (q.tests ++ q.bodies ++ q.lasts) q.others (omega arith)
          (sound_both i q.step (q.tests ++ q.bodies) q.lasts (omega arith)
          (sound_both i q.body q.tests q.bodies (omega arith)
          (more_t q.enters q.loop i q.enter ge gl has.test mt tt' end_t)
          (more_b q.steps q.loop q.body q.loop.onward go gl has.body mb tb end_b))
          (more_s false q.loop q.step i gi gl has.step ms ts' end_s))
          (more q.behind has.others mr tr end_r)

      untiled : (body test rest : Code ℕ) (near : Bool) (c : Around) (l : Option (StateLoop sys)) (s e : sys.State) (i k : ℕ)
          → (p : IsShaped has_body (is_some c) (until body test rest))
          → (t : Judged sys l s (until body test rest) e) → (is_closed rest ≡ false → Comes e k) → LoopComes l c
          → WrittenInLoop body t.0 t.2 → WrittenInLoop test t.0 t.3
          → ((r : ℕ) → Written rest near c l t.0.left e t.4 r k)
          → Written (until body test rest) near c l s e t i k
      untiled body test rest near c l s e i k p t end ls more_b more_t more h m hh is =
          let q = rounds_at entry body test rest near c i k in
          let has = has_rounds entry core body test rest near c i k h in
          let round = t.0 in
          let b = round.turn in
          let lp : Around = Some q.loop in
          let bs = marks sys true (Some round) b body b t.2 in
          let ts = marks sys false (Some round) b test b t.3 in
          let rs = marks sys near l round.left rest e t.4 in
          let lb = mark_length sys true (Some round) b body b t.2 in
          let lt = mark_length sys false (Some round) b test b t.3 in
          let e1 = length-append bs ts in
          let whole = noted_front state i (bs ++ ts) rs m in
          let mb = noted_front state i bs ts whole in
          let mt = noted_back state i q.test bs ts (omega arith) whole in
          let mr = noted_back state i q.behind (bs ++ ts) rs (omega arith) m in
          let ib = flat_length entry body true lp i q.test in
          let it = flat_length entry test false lp q.test q.enter in
          let i1 = length-append q.bodies q.tests in
          let end_r : near ≡ true → k ≡ q.behind + extent near rest = λ z. (let f = is z in omega arith) in
          let end_b : true ≡ true → q.test ≡ i + extent true body = λ z. refl in
          let end_t : false ≡ true → q.enter ≡ q.test + extent false test = λ z. absurd (true≢false (sym z)) in
          let gt = first_comes test false lp (Some round) b b q.test q.enter p.0 t.3 has.test mt in
          let gr = begins rest near c l round.left e q.behind k p.3 t.4 has.others mr end ls in
          let gl : LoopComes (Some round) lp = (gr, gt) in
          let ge = begins body true lp (Some round) b b i q.test p.1 t.2 has.body mb (λ z. gt) gl in
          let u0 : sys.height s ≡ sys.height b = lawful.level s b t.1 in
          let u1 : height place_of (sys.height s) body ≡ sys.height b = ap (λ h. height place_of h body) u0 ∙ stands_at sys place_of lawful body (Some round) b b t.2 in
          let u2 : height place_of (height place_of (sys.height s) body) test ≡ sys.height b = ap (λ h. height place_of h test) u1 ∙ stands_at sys place_of lawful test (Some round) b b t.3 in
          let tb = tall body (sys.height s) (sys.height b) u0 (λ z. (hh z).0) in
          let tt' = tall test (height place_of (sys.height s) body) (sys.height b) u1 (λ z. (hh z).1) in
          let tr = tall rest (height place_of (height place_of (sys.height s) body) test) (sys.height round.left) (u2 ∙ sym round.even) (λ z. (hh z).2) in
          sound_both i q.behind (q.bodies ++ q.tests) q.others (omega arith)
          (sound_both i q.test q.bodies q.tests (omega arith)
          (more_b true q.loop i q.test gt gl has.body mb tb end_b)
          (more_t false q.loop q.test q.enter ge gl has.test mt tt' end_t))
          (more q.behind has.others mr tr end_r)

      quits : (n : ℕ) (op : Operation) (rest : Code ℕ) (near : Bool) (c : Around) (l : Option (StateLoop sys)) (s e : sys.State) (i k : ℕ)
          → way_of op ≡ w.either → IsShaped has_body (is_some c) rest
          → (t : Judged sys l s (quit n op rest) e) → (is_closed rest ≡ false → Comes e k) → LoopComes l c
          → ((r : ℕ) → Written rest near c l (sys.behind op true s) e t.2 r k)
          → Written (quit n op rest) near c l s e t i k
      quits n op rest near c l s e i k o p t end ls more h m hh is =
          let here = begins_here near rest in
          let r = suc i + gap here in
          let b = sys.behind op true s in
          let at : near ≡ true → k ≡ r + extent near rest = λ z. (let a = is z in omega arith) in
          let tail = tall rest (raised (sys.height s) op true) (sys.height b) (sym (lawful.rises op true s)) (λ z. (hh z).1) in
          let f' = follows here rest near c l b e (suc i) k refl p t.2 h.1 m.1 at end ls (λ hr mr. more r hr mr tail at) in
          let out = leaves_loop l c (sys.behind op false s) t.1 ls in
          let a = f.behind c in
          (stated s i n op a m.0 (record { may = t.0; height = λ z. (hh z).0; goes = by_way w.either op s i a o (f'.0, out) }), f'.1)

      calls : (n : ℕ) (op : Operation) (f' : ℕ) (opening rest : Code ℕ) (near : Bool) (c : Around) (l : Option (StateLoop sys)) (s e : sys.State) (i k : ℕ)
          → (p : IsShaped has_body (is_some c) (call n op f' opening rest))
          → (t : Judged sys l s (call n op f' opening rest) e) → (is_closed rest ≡ false → Comes e k) → LoopComes l c
          → ((r k : ℕ) → Comes (sys.entered op f' t.1) k → Written opening true None None (sys.begin op f' t.1) (sys.entered op f' t.1) t.3 r k)
          → ((r : ℕ) → Written rest near c l (sys.behind_call op t.1 s) e t.4 r k)
          → Written (call n op f' opening rest) near c l s e t i k
      calls n op f' opening rest near c l s e i k p t end ls more_o more h m hh is =
          let q = entering_at entry f' opening rest near c i k in
          let has = has_entering entry core f' opening rest near c i k h.1 in
          let o = sys.begin op f' t.1 in
          let en = sys.entered op f' t.1 in
          let b = sys.behind_call op t.1 s in
          let a = q.back in
          let j = has.jumps.0 in
          let os = marks sys true None o opening en t.3 in
          let js = en ∷ skip_mark q.here b in
          let rs = marks sys near l b rest e t.4 in
          let lo = mark_length sys true None o opening en t.3 in
          let lj = skip_length q.here b in
          let e1 = length-append os js in
          let whole = noted_front state (suc i) (os ++ js) rs m.1 in
          let mo = noted_front state (suc i) os js whole in
          let mj = noted_back state (suc i) a os js (omega arith) whole in
          let mr = noted_back state (suc i) q.behind (os ++ js) rs (omega arith) m.1 in
          let io = flat_length entry opening true None (suc i) a in
          let ij = skips q.here q.next in
          let i1 = length-append q.openings q.jumps in
          let end_r : near ≡ true → k ≡ suc a + gap q.here + extent near rest = λ z. (let g = is z in omega arith) in
          let end_o : true ≡ true → a ≡ suc i + extent true opening = λ z. refl in
          let ga = at_index en a j.0 mj.0 j.1 in
          let go = begins opening true None None o en (suc i) a (opening_is_shaped has_body opening p.2) t.3 has.opening mo (λ z. ga) tt in
          let first : label None (suc i) a opening ≡ suc i = begins_at opening true None (suc i) a (opening_begins core entry opening p.2) end_o in
          let back : behind_jump core (suc i) ≡ suc a = behind_opening core entry opening (suc i) a p.2 has.opening ∙ behind_jump_at core entry core a j.0 j.1 j.2.0 in
          let fr = followed q.here rest near c l b e (suc a) k refl p.3 t.4 has.jumps.1 has.others mj.1 mr end_r end ls in
          let to = entries f' p.1 in
          let leads : Comes en (entry f') = comes_as en (sys.first f') (entry f') (lawful.enters op f' t.1 opening t.2) to in
          let leads_on : Comes (state a) (entry f') = subst (λ x. Comes x (entry f')) (sym mj.0) leads in
          let tail = tall rest _ (sys.height b) (lawful.called op f' t.1 opening s t.2) (λ z. (hh z).2) in
          let goes : Goes w.into op s i (entry f') = (f', t.1, opening, t.2, subst (Comes o) first go, subst (Comes b) (sym back) fr.0) in (
            stated s i n op (entry f') m.0 (record { may = t.0; height = λ z. (hh z).0; goes = by_way w.into op s i (entry f') p.0 goes }),
            sound_both (suc i) q.behind (q.openings ++ q.jumps) q.others (omega arith)
                (sound_both (suc i) a q.openings q.jumps (omega arith)
                (more_o (suc i) a ga has.opening mo (tall opening 0 (sys.height o) (sym (lawful.nought op f' t.1)) (λ z. (hh z).1)) end_o) (leads_on, fr.1))
                (more q.behind has.others mr tail end_r),
          )

      ended : (rest : Code ℕ) (near : Bool) (c : Around) (e : sys.State) (i k : ℕ) (none : Bool) → is_done rest ≡ none
          → ((is_done rest || is_closed rest) ≡ false → Comes e k)
          → ((is_closed rest ≡ false → Comes e k) → Sound i (flat entry near c i k rest))
          → Sound i (flat entry near c i k rest)
      ended rest near c e i k true d end more = sound_done rest near c i i k d
      ended rest near c e i k false d end more = more (λ z. end (ap (λ x. x || is_closed rest) d ∙ z))

      pub sound : (code : Code ℕ) (near : Bool) (c : Around) (l : Option (StateLoop sys)) (s e : sys.State) (i k : ℕ) → IsShaped has_body (is_some c) code
          → (t : Judged sys l s code e) → (is_closed code ≡ false → Comes e k) → LoopComes l c → Written code near c l s e t i k
      sound done near c l s e i k p t end ls h m hh is = tt
      sound (perform n op rest) near c l s e i k p t end ls h m hh is =
          performed n op rest near c l s e i k p.0 p.1 t end ls (λ r. sound rest near c l (sys.behind op true s) e r k p.1 t.1 end ls) h m hh is
      sound (choose n op x y rest) near c l s e i k p t end ls h m hh is =
          chosen n op x y rest near c l s e i k p.0 p.1 p.2 p.3 t end ls
          (λ near r k g. sound x near c l (sys.behind op true s) t.1 r k p.1 t.2 (λ z. g) ls)
          (λ near r k g. sound y near c l (sys.behind op false s) t.1 r k p.2 t.3 (λ z. g) ls)
          (λ r. sound rest near c l t.1 e r k p.3 t.4 end ls) h m hh is
      sound (while test body step rest) near c l s e i k p t end ls h m hh is =
          let a = Some t.0 in
          whiled test body step rest near c l s e i k p t end ls
          (λ near loop r k g gl. sound test near (Some loop) a t.0.turn t.0.turn r k p.2 t.2 (λ z. g) gl)
          (λ near loop r k g gl. sound body near (Some loop) a t.0.turn t.0.turn r k p.3 t.3 (λ z. g) gl)
          (λ near loop r k g gl. sound step near (Some loop) a t.0.turn t.0.turn r k p.4 t.4 (λ z. g) gl)
          (λ r. sound rest near c l t.0.left e r k p.5 t.5 end ls) h m hh is
      sound (until body test rest) near c l s e i k p t end ls h m hh is =
          let a = Some t.0 in
          untiled body test rest near c l s e i k p t end ls
          (λ near loop r k g gl. sound body near (Some loop) a t.0.turn t.0.turn r k p.1 t.2 (λ z. g) gl)
          (λ near loop r k g gl. sound test near (Some loop) a t.0.turn t.0.turn r k p.2 t.3 (λ z. g) gl)
          (λ r. sound rest near c l t.0.left e r k p.3 t.4 end ls) h m hh is
      sound (turn test body step rest) near c l s e i k p t end ls h m hh is = absurd t
      sound (again test body step rest) near c l s e i k p t end ls h m hh is = absurd t
      sound (quit n op rest) near c l s e i k p t end ls h m hh is =
          quits n op rest near c l s e i k p.1 p.2 t end ls (λ r. sound rest near c l (sys.behind op true s) e r k p.2 t.2 end ls) h m hh is
      sound (break rest) near c l s e i k p t end ls h m hh is = sound rest near c l s e i k p.1 t.1 end ls h m hh is
      sound (continue rest) near c l s e i k p t end ls h m hh is = sound rest near c l s e i k p.1 t.1 end ls h m hh is
      sound (call n op f' opening rest) near c l s e i k p t end ls h m hh is =
          let o = sys.begin op f' t.1 in
          let en = sys.entered op f' t.1 in
          calls n op f' opening rest near c l s e i k p t end ls
          (λ r k g. sound opening true None None o en r k (opening_is_shaped has_body opening p.2) t.3 (λ z. g) tt)
          (λ r. sound rest near c l (sys.behind_call op t.1 s) e r k p.3 t.4 end ls) h m hh is
      sound (ends n op rest) near c l s e i k p t end ls h m hh is =
          let b = sys.behind op true s in
          let tail = tall rest (raised (sys.height s) op true) (sys.height b) (sym (lawful.rises op true s)) (λ z. (hh z).1) in (
            stated s i n op 0 m.0 (record { may = t.0; height = λ z. (hh z).0; goes = by_way w.out op s i 0 p.0 t.1 }),
            ended rest near c e (suc i) k (is_done rest) refl end
                (λ end. sound rest near c l b e (suc i) k p.1 t.2 end ls h.1 m.1 tail (λ z. (let g = is z in omega arith))),
          )
