-- What is known of values, and the room in a function's frame, as one system of states.
use Rattle.std.proofs.Common.{◌≡◌, ◌⊎◌, ℕ, ◌+◌, ◌*◌, ◌≤◌, Bool, true, false, true≢false, length, Option, None, Some, inl, inr, refl, sym, ap, ◌∙◌, subst, arith}
use Rattle.fk_meaning_operation.specs.declared.operation.Operation.{Operation}
use Rattle.fk_meaning_operation.specs.declared.operation.Operation.TheVariants as o
use Rattle.fk_layout_sizes.specs.Operations.{takes, nests}
use Rattle.fk_meaning_forms.specs.Code.{Code, done, perform, choose, while, until, turn, again, quit, break, continue, call, ends}
use Rattle.fk_meaning.specs.Shape.{Exits, none, of_way, of_test, of_turn, splits, has_two_parts, waits, ends_part, Either, Shape}
use Rattle.fk_meaning.specs.Behind.{opens_body}
use Rattle.fk_meaning.proofs.Spine.{untrue}
use Rattle.fk_core_liveness.specs.declared.places.FunctionKind.{FunctionKind}
use Rattle.fk_core_liveness.specs.declared.places.FunctionKind.TheVariants.{Called}
use Rattle.fk_core_flat.specs.Items as w
use Rattle.fk_core_flat.specs.Items.{way_of}
use Rattle.fk_core_flat.specs.Shape.{is_done, IsOpening, IsShaped}
use Rattle.fk_core_counting.proofs.Folding.{Parts, past}
use Rattle.fk_lockstep_structure.specs.Placed.{Who, OfGroup, OfBody, OfMain, inner, who_in, may_choose, Placed}
use Rattle.fk_core_counting.proofs.Ways.{Stand, stand_at, stand_inner, straight_on, straight_worded, out_on, ways}
use Rattle.fk_core_typing.specs.Values.{Place, with_frame, entered, place_behind, State, bare, behind, behind_call, MayBeIn, May, Grants}
use Rattle.fk_core_typing.specs.Typed as t
use Rattle.fk_core_typing.specs.Typed.{EndsIn, Typed}
use Rattle.fk_core_typing.specs.Heights.{raised, height}
use Rattle.fk_core_typing.proofs.Done.{by_done}
use Rattle.fk_core_typing.proofs.Granting.{as_long, grants_itself, grants_both}
use Rattle.fk_core_typing.proofs.Valued.{values, values_lawful, loop_of}
use Rattle.fk_core_typing.proofs.Valued as u
use Rattle.fk_core_typing.proofs.System.{System, Loop, GrantsTurn, GrantsLeft, Judged, IsLawful}
use Rattle.fk_core_typing.proofs.Rising.{rises, called_rises}
use Rattle.fk_core_typing.proofs.Knowing.{same_function}
use Rattle.fk_core_typing.proofs.Standing.{stands_at}
use Rattle.fk_lower_laws.specs.Room.{HasFew, HasParts}
use Rattle.fk_lower_laws.specs.Rooms.{HasWord, Opens, HasWords, ahead_in}
use Rattle.fk_lower_laws.specs.Levels.{levels_in, IsInGroup}
use Rattle.fk_lower_laws.proofs.Nested.{levels_behind, adds_none, not_either, in_group}

-- of a call: what is known of it, and how many words, values and levels its function has at most
pub record Sized : Type 0 where
  pub state : State
  pub words : ℕ
  pub most : ℕ
  pub nested : ℕ

abbrev pub sized : State → (words most nested : ℕ) → Sized
sized state words most nested = record { state = state; words = words; most = most; nested = nested }

pub record GrantsSized (s asked : Sized) : Type 0 where
  pub state : Grants s.state asked.state
  pub words : s.words ≡ asked.words
  pub most : s.most ≡ asked.most
  pub nested : s.nested ≡ asked.nested

-- what is asked of a state is asked in the same function
pub granted : (s t : State) → Grants s t → s.place.function ≡ t.place.function
granted s t g = ap (λ (p : Place). p.function) g.place

pub record MaySized (firsts : ℕ) (op : Operation) (s : Sized) : Type 0 where
  pub may : May op s.state
  pub there : HasWord firsts s.words op
  pub room : ahead_in firsts s.state.place.function + 8 + s.words + s.most + 4 * s.nested ≤ 64
  pub low : length s.state.values ≤ s.most
  pub few : levels_in s.state.place ≤ s.nested
  pub further : (onward : Bool) → levels_in (place_behind op onward s.state.place) ≤ s.nested
  pub grouped : IsInGroup op s.state.place

module _ (firsts : ℕ) (place_of : ℕ → FunctionKind) (frame_of : ℕ → Option ℕ) (words most nested : ℕ → ℕ) where
  pub record CallsSized (op : Operation) (f : ℕ) (gives : Bool) (opening : Code ℕ) : Type 0 where
    pub place : place_of f ≡ Called gives
    pub few : takes op ≤ 56

  abbrev pub sizing : System
  sizing = record {
    State = Sized;
    Grants = GrantsSized;
    Stands = λ s t. s.state.place ≡ t.state.place;
    May = MaySized firsts;
    Ends = λ op s. EndsIn op s.state.place;
    behind = λ op onward s. sized (behind op onward s.state) s.words s.most s.nested;
    Calls = CallsSized;
    begin = λ op f gives. sized (bare (entered (Called gives))) (words f) (most f) (nested f);
    entered = λ op f gives. sized (bare (with_frame (Called gives) (frame_of f))) (words f) (most f) (nested f);
    behind_call = λ op gives s. sized (behind_call (takes op) gives s.state) s.words s.most s.nested;
    first = λ f. sized (bare (with_frame (place_of f) (frame_of f))) (words f) (most f) (nested f);
    height = λ s. length s.state.values;
  }

  pub sizing_lawful : IsLawful sizing place_of
  sizing_lawful =
      let l = values_lawful place_of frame_of in
      record {
        itself = λ s. record { state = grants_itself s.state; words = refl; most = refl; nested = refl };
        both = λ s t u g h. record {
          state = grants_both s.state t.state u.state g.state h.state;
          words = g.words ∙ h.words;
          most = g.most ∙ h.most;
          nested = g.nested ∙ h.nested;
        };
        enters = λ op f gives opening c. record { state = l.enters op f gives opening c.place; words = refl; most = refl; nested = refl };
        rises = λ op onward s. rises op onward s.state;
        level = λ s t g. as_long s.state.values t.state.values g.state.values;
        called = λ op f gives opening s c. called_rises place_of op f gives s.state c.place;
        nought = λ op f gives. refl;
        none = λ f. refl;
      }

  -- code from so many values on leads to as many as it ends with
  leads : (code : Code ℕ) (l : Option t.Loop) (s e : State) → Typed place_of frame_of l s code e → {n : ℕ} → n ≡ length s.values → height place_of n code ≡ length e.values
  leads code l s e t same =
      ap (λ n. height place_of n code) same
      ∙ stands_at (values place_of frame_of) place_of (values_lawful place_of frame_of) code (loop_of place_of frame_of l) s e (u.judged place_of frame_of code l s e t)

  -- operations that are no choice add no level, and split nothing
  stays : (op : Operation) (onward : Bool) (p : Place) (m : ℕ) → nests op ≡ 0 → MayBeIn op p → levels_in p ≤ m → levels_in (place_behind op onward p) ≤ m
  stays op onward p m none may low = let more = levels_behind op onward p may in omega (arith, more, none, low)

  low_stand : (who : Who) (p : Place) (k : Parts) (m : ℕ) → Stand who p k → k.levels ≤ m → levels_in p ≤ m
  low_stand who p k m stand deep = let e : levels_in p ≡ k.levels = ap (λ (x : Parts). x.levels) stand.is in omega (arith, e, deep)

  plain_of : (op : Operation) → (way_of op ≡ w.straight) ⊎ (way_of op ≡ w.onto) → nests op ≡ 0
  plain_of op (inl e) = not_either op w.straight e (λ f. cc)
  plain_of op (inr e) = not_either op w.onto e (λ f. cc)

  -- functions have room; and in one of them, with so many words, values and levels
  module _ (rooms : (f : ℕ) → ahead_in firsts (place_of f) + 8 + words f + most f + 4 * nested f ≤ 64) (may_call : (in_group : Bool) → (function : ℕ) → Bool) (has_body : ℕ → Bool) where
    -- the opening of a call of a function
    opened : (f : ℕ) (gives : Bool) → place_of f ≡ Called gives → (code : Code ℕ) (s e : State) → s.place.function ≡ Called gives → Typed place_of frame_of None s code e
        → IsOpening code → levels_in s.place ≤ nested f → (h : ℕ) → h ≡ length s.values → Opens firsts (words f) (most f) h code
        → Judged sizing None (sized s (words f) (most f) (nested f)) code (sized e (words f) (most f) (nested f))
    opened f gives is done s e inside t shape few h same opens = record { state = t; words = refl; most = refl; nested = refl }
    opened f gives is (perform n op rest) s e inside t shape few h same opens =
        let next : raised h op true ≡ length (behind op true s).values = ap (λ k. raised k op true) same ∙ sym (rises op true s) in
        let none' = plain_of op (inl shape.0) in (
          record {
            may = t.0;
            there = opens.0;
            room = subst (λ (kind : FunctionKind). ahead_in firsts kind + 8 + words f + most f + 4 * nested f ≤ 64) (is ∙ sym inside) (rooms f);
            low = subst (λ k. k ≤ most f) same opens.1;
            few = few;
            further = λ onward. stays op onward s.place (nested f) none' t.0.place few;
            grouped = in_group op s.place none';
          },
          opened f gives is rest (behind op true s) e (same_function op true s.place ∙ inside) t.1 shape.1 (stays op true s.place (nested f) none' t.0.place few) (raised h op true) next opens.2,
        )
    opened f gives is code s e inside t shape few h same opens = absurd opens

    module _ (W M N : ℕ) where
      low_at : (code : Code ℕ) {a b : ℕ} → a ≡ b → HasFew place_of M a code → HasFew place_of M b code
      low_at code e is = subst (λ h. HasFew place_of M h code) e is

      low_behind : (op : Operation) (onward : Bool) (s : State) (rest : Code ℕ) → HasFew place_of M (raised (length s.values) op onward) rest
          → HasFew place_of M (length (behind op onward s).values) rest
      low_behind op onward s rest is = low_at rest (sym (rises op onward s)) is

      -- so many levels are where code begins
      parts_here : (code : Code ℕ) (m : ℕ) → HasParts N m code → m ≤ N
      parts_here done m is = is
      parts_here (perform n op rest) m is = is.0
      parts_here (choose n op x y rest) m is = is.0
      parts_here (while a b c rest) m is = parts_here a m is.0
      parts_here (until a b rest) m is = parts_here a m is.0
      parts_here (turn a b c rest) m is = absurd is
      parts_here (again a b c rest) m is = absurd is
      parts_here (quit n op rest) m is = is.0
      parts_here (break rest) m is = parts_here rest m is
      parts_here (continue rest) m is = parts_here rest m is
      parts_here (call n op f opening rest) m is = is.0
      parts_here (ends n op rest) m is = is.0

      -- the loop round a place, in both judgements
      abbrev round_of : t.Loop → Loop sizing
      round_of c = record { turn = sized c.turn W M N; left = sized c.left W M N; even = c.even }

      abbrev around_of : Option t.Loop → Option (Loop sizing)
      around_of None = None
      around_of (Some c) = Some (round_of c)

      leaves : (l : Option t.Loop) (s : State) → t.GrantsLeft l s → GrantsLeft sizing (around_of l) (sized s W M N)
      leaves None s g = absurd g
      leaves (Some c) s g = record { state = g; words = refl; most = refl; nested = refl }

      turns : (l : Option t.Loop) (s : State) → t.GrantsTurn l s → GrantsTurn sizing (around_of l) (sized s W M N)
      turns None s g = absurd g
      turns (Some c) s g = record { state = g; words = refl; most = refl; nested = refl }

      abbrev Room : FunctionKind → Type 0
      Room place = ahead_in firsts place + 8 + W + M + 4 * N ≤ 64

      there_call : (op : Operation) → way_of op ≡ w.into → HasWord firsts W op
      there_call (o.Enter arguments) e = tt
      there_call op e = absurd (let z = e in cc)

      -- behind an operation, and in the same function
      moved : (op : Operation) (onward : Bool) (s : State) → Room s.place.function → Room (behind op onward s).place.function
      moved op onward s room = subst Room (sym (same_function op onward s.place)) room

      stood : (p q : Place) → p ≡ q → Room q.function → Room p.function
      stood p q e room = subst (λ (place : Place). Room place.function) (sym e) room

      -- what an operation that is no choice may be sized to
      one_may : (op : Operation) (s : State) (m : ℕ) → nests op ≡ 0 → May op s → HasWord firsts W op → Room s.place.function → length s.values ≤ M → levels_in s.place ≤ m → m ≤ N
          → MaySized firsts op (sized s W M N)
      one_may op s m none may there room low level few = record {
        may = may;
        there = there;
        room = room;
        low = low;
        few = omega (arith, level, few);
        further = λ onward. stays op onward s.place N none may.place (omega (arith, level, few));
        grouped = in_group op s.place none;
      }

      -- in a group a split is in a part, also in `main`
      divides : (who : Who) (op : Operation) (p : Place) (n : Parts) → may_choose who op ≡ true → Stand who p n → IsInGroup op p
      divides OfGroup (o.Split by) p n may stand = λ main. stand.within refl main
      divides OfBody (o.Split by) p n may stand = untrue may
      divides (OfMain b) (o.Split by) p n may stand = untrue may
      divides who op p n may stand = tt

      -- code with nothing in it
      nothing_sized : (code : Code ℕ) → is_done code ≡ true → (l : Option t.Loop) (s e : State) → Typed place_of frame_of l s code e
          → Judged sizing (around_of l) (sized s W M N) code (sized e W M N)
      nothing_sized code is l s e t =
          by_done (λ x. Typed place_of frame_of l s x e → Judged sizing (around_of l) (sized s W M N) x (sized e W M N)) code is
          (λ t'. record { state = t'; words = refl; most = refl; nested = refl }) t

      -- the judgements together
      pub all_sized : (code : Code ℕ) (inside : Bool) (l : Option t.Loop) (s e : State) (m : ℕ) (n : Parts) (who : Who) (resuming part closing : Bool) (x : Exits)
          → IsShaped has_body inside code → Shape part closing x code → Placed may_call who resuming code → Room s.place.function → Stand who s.place n → n.levels ≤ m
          → Typed place_of frame_of l s code e → HasWords firsts words most W code → HasFew place_of M (length s.values) code → HasParts N m code
          → Judged sizing (around_of l) (sized s W M N) code (sized e W M N)
      all_sized done inside l s e m n who resuming part closing x p shape at room stand deep t h low parts = record { state = t; words = refl; most = refl; nested = refl }
      all_sized (perform site op rest) inside l s e m n who resuming part closing x p shape at room stand deep t h low parts = (
        one_may op s m (plain_of op (performs p.0)) t.0 h.0 room low.0 (low_stand who s.place n m stand deep) parts.0,
        by p.0 (λ a.
            let same = kept op a in
            all_sized rest inside l (behind op true s) e m (past (Some op) n) who false part false x p.1 (goes_on (ends_part op) (no_end op a) shape.2) at.1 (moved op true s room)
            (straight_on who op s.place n a t.0.place stand) (omega (arith, same, deep)) t.1 h.1 (low_behind op true s rest low.1) parts.1),
      )
        where
          performs : (way_of op ≡ w.straight) ⊎ ((way_of op ≡ w.onto) × (is_done rest ≡ true)) → (way_of op ≡ w.straight) ⊎ (way_of op ≡ w.onto)
          performs (inl a) = inl a
          performs (inr a) = inr a.0

          kept : (op' : Operation) → way_of op' ≡ w.straight → (past (Some op') n).levels ≡ n.levels
          kept op' a = ap (λ (q : Parts). q.levels) (straight_worded op' n 0 a)

          no_end : (op' : Operation) → way_of op' ≡ w.straight → ends_part op' ≡ false
          no_end o.End a = absurd (cc)
          no_end op' a = refl

          goes_on : (b : Bool) → b ≡ false → Either b ((part ≡ true) × (x.tests ≡ false) × (rest ≡ done)) (Shape part false x rest) → Shape part false x rest
          goes_on true a either = absurd (true≢false a)
          goes_on false a either = either

          by : (way_of op ≡ w.straight) ⊎ ((way_of op ≡ w.onto) × (is_done rest ≡ true)) → (way_of op ≡ w.straight → Judged sizing (around_of l) (sized (behind op true s) W M N) rest (sized e W M N))
              → Judged sizing (around_of l) (sized (behind op true s) W M N) rest (sized e W M N)
          by (inl a) more = more a
          by (inr a) more = nothing_sized rest a.1 l (behind op true s) e t.1
      all_sized (choose site op a b rest) inside l s e m n who resuming part closing x p shape at room stand deep t h low parts =
          let u = t.1 in
          let two = ways s.place n who op at.1 t.0.place stand in
          let n' = past (Some op) n in
          let more = added op in
          let most_here = parts_here a (m + nests op) parts.1 in
          let lx = low_behind op true s a low.1 in
          let lr = low_at rest (leads a l (behind op true s) u t.2 (sym (rises op true s))) low.3 in (
            record {
              may = t.0;
              there = h.0;
              room = room;
              low = low.0;
              few = (let here = low_stand who s.place n m stand deep in omega (arith, here, parts.0));
              further = λ onward. (let next = levels_behind op onward s.place t.0.place in let here = low_stand who s.place n m stand deep in omega (arith, next, here, most_here));
              grouped = divides who op s.place n at.1 stand;
            },
            sized u W M N,
            all_sized a inside l (behind op true s) u (m + nests op) n' (who_in who op) false (splits op) false (of_way op x) p.1 shape.2 at.2 (moved op true s room) two.first
                (omega (arith, more, deep)) t.2 h.1 lx parts.1,
            second two.second (λ stand' is.
                all_sized b inside l (behind op false s) u (m + nests op) n' (who_in who op) false (has_two_parts op) false (of_way op x) p.2 shape.3 at.3 (moved op false s room)
                stand' (omega (arith, more, deep)) t.3 h.2 (low_behind op false s b (low.2 is)) parts.2),
            all_sized rest inside l u e m n who (splits op) part (opens_body op) x p.3 shape.6 at.5 (stood u.place s.place t.5 room) (stand_at who u.place s.place n t.5 stand) deep t.4 h.3 lr parts.3,
            t.5,
          )
        where
          added : (op' : Operation) → (past (Some op') n).levels ≤ n.levels + nests op'
          added (o.Split by) = omega arith
          added op' = omega arith

          second : Stand (who_in who op) (place_behind op false s.place) (past (Some op) n) ⊎ (waits op ≡ true)
              → (Stand (who_in who op) (place_behind op false s.place) (past (Some op) n) → is_done b ≡ false → Judged sizing (around_of l) (sized (behind op false s) W M N) b (sized t.1 W M N))
              → Judged sizing (around_of l) (sized (behind op false s) W M N) b (sized t.1 W M N)
          second (inr waiting) go = nothing_sized b (ap is_done (shape.4 waiting)) l (behind op false s) t.1 t.3
          second (inl stand') go = by (is_done b) refl
            where
              by : (empty : Bool) → is_done b ≡ empty → Judged sizing (around_of l) (sized (behind op false s) W M N) b (sized t.1 W M N)
              by true is = nothing_sized b is l (behind op false s) t.1 t.3
              by false is = go stand' is
      all_sized (while test body step rest) inside l s e m n who resuming part closing x p shape at room stand deep t h low parts =
          let c = t.0 in
          let r = c.turn in
          let g = t.1 in
          let room' = subst Room (granted s r g) room in
          let first = as_long s.values r.values g.values in
          let turn' = stand_at (inner who) r.place s.place n (sym g.place) (stand_inner who s.place n stand) in
          let second = leads test (Some c) r r t.2 first in
          let third = leads body (Some c) r r t.3 second in (
            round_of c,
            record { state = g; words = refl; most = refl; nested = refl },
            all_sized test true (Some c) r r m n (inner who) false false false (of_test shape.1) p.2 shape.2 at.1 room' turn' deep t.2 h.0 (low_at test first low.0) parts.0,
            all_sized body true (Some c) r r m n (inner who) false false false (of_turn shape.1 x) p.3 shape.3 at.2 room' turn' deep t.3 h.1 (low_at body second low.1) parts.1,
            all_sized step true (Some c) r r m n (inner who) false false false none p.4 shape.4 at.3 room' turn' deep t.4 h.2 (low_at step third low.2) parts.2,
            behind_it t.6 (onward shape.1 shape.5) (λ same shape'.
                let back : c.left.place ≡ s.place = same ∙ sym g.place in
                all_sized rest inside l c.left e m n who false part false x p.5 shape' at.4 (stood c.left.place s.place back room) (stand_at who c.left.place s.place n back stand) deep t.5 h.3
                (low_at rest (leads step (Some c) r r t.4 third ∙ sym c.even) low.3) parts.3),
            t.6,
          )
        where
          onward : (b : Bool) → Either b ((part ≡ true) × (x.tests ≡ false) × (rest ≡ done)) (Shape part false x rest) → (Shape part false x rest) ⊎ (is_done rest ≡ true)
          onward true a = inr (ap is_done a.2)
          onward false a = inl a

          behind_it : (t.0.left.place ≡ t.0.turn.place) ⊎ (is_done rest ≡ true) → (Shape part false x rest) ⊎ (is_done rest ≡ true)
              → (t.0.left.place ≡ t.0.turn.place → Shape part false x rest → Judged sizing (around_of l) (sized t.0.left W M N) rest (sized e W M N))
              → Judged sizing (around_of l) (sized t.0.left W M N) rest (sized e W M N)
          behind_it (inr is) shape' go = nothing_sized rest is l t.0.left e t.5
          behind_it (inl same) (inr is) go = nothing_sized rest is l t.0.left e t.5
          behind_it (inl same) (inl shape') go = go same shape'
      all_sized (until body test rest) inside l s e m n who resuming part closing x p shape at room stand deep t h low parts =
          let c = t.0 in
          let r = c.turn in
          let g = t.1 in
          let room' = subst Room (granted s r g) room in
          let first = as_long s.values r.values g.values in
          let turn' = stand_at (inner who) r.place s.place n (sym g.place) (stand_inner who s.place n stand) in
          let second = leads body (Some c) r r t.2 first in (
            round_of c,
            record { state = g; words = refl; most = refl; nested = refl },
            all_sized body true (Some c) r r m n (inner who) false false false (of_turn shape.1 x) p.1 shape.3 at.1 room' turn' deep t.2 h.0 (low_at body first low.0) parts.0,
            all_sized test true (Some c) r r m n (inner who) false false false (of_test shape.1) p.2 shape.2 at.2 room' turn' deep t.3 h.1 (low_at test second low.1) parts.1,
            behind_it t.5 (onward shape.1 shape.4) (λ same shape'.
                let back : c.left.place ≡ s.place = same ∙ sym g.place in
                all_sized rest inside l c.left e m n who false part false x p.3 shape' at.3 (stood c.left.place s.place back room) (stand_at who c.left.place s.place n back stand) deep t.4 h.2
                (low_at rest (leads test (Some c) r r t.3 second ∙ sym c.even) low.2) parts.2),
            t.5,
          )
        where
          onward : (b : Bool) → Either b ((part ≡ true) × (x.tests ≡ false) × (rest ≡ done)) (Shape part false x rest) → (Shape part false x rest) ⊎ (is_done rest ≡ true)
          onward true a = inr (ap is_done a.2)
          onward false a = inl a

          behind_it : (t.0.left.place ≡ t.0.turn.place) ⊎ (is_done rest ≡ true) → (Shape part false x rest) ⊎ (is_done rest ≡ true)
              → (t.0.left.place ≡ t.0.turn.place → Shape part false x rest → Judged sizing (around_of l) (sized t.0.left W M N) rest (sized e W M N))
              → Judged sizing (around_of l) (sized t.0.left W M N) rest (sized e W M N)
          behind_it (inr is) shape' go = nothing_sized rest is l t.0.left e t.4
          behind_it (inl same) (inr is) go = nothing_sized rest is l t.0.left e t.4
          behind_it (inl same) (inl shape') go = go same shape'
      all_sized (turn a b c rest) inside l s e m n who resuming part closing x p shape at room stand deep t h low parts = absurd t
      all_sized (again a b c rest) inside l s e m n who resuming part closing x p shape at room stand deep t h low parts = absurd t
      all_sized (quit site op rest) inside l s e m n who resuming part closing x p shape at room stand deep t h low parts = (
        one_may op s m (adds_none op (λ e'. shape.1)) t.0 h.0 room low.0 (low_stand who s.place n m stand deep) parts.0,
        leaves l (behind op false s) t.1,
        nothing_sized rest (ap is_done shape.5) l (behind op true s) e t.2,
      )
      all_sized (break rest) inside l s e m n who resuming part closing x p shape at room stand deep t h low parts =
          (leaves l s t.0, all_sized rest inside l s e m n who false part false x p.1 shape.2 at.1 room stand deep t.1 h low parts)
      all_sized (continue rest) inside l s e m n who resuming part closing x p shape at room stand deep t h low parts =
          (turns l s t.0, all_sized rest inside l s e m n who false part false x p.1 shape.2 at.1 room stand deep t.1 h low parts)
      all_sized (call site op f opening rest) inside l s e m n who resuming part closing x p shape at room stand deep t h low parts =
          let b = behind_call (takes op) t.1 s in
          let none' = not_either op w.into p.0 (λ z. cc) in
          let lr = low_at rest (called_rises place_of op f t.1 s t.2) low.1 in (
            one_may op s m none' t.0 (there_call op p.0) room low.0 (low_stand who s.place n m stand deep) parts.0,
            t.1,
            record { place = t.2; few = h.1 },
            opened f t.1 t.2 opening (bare (entered (Called t.1))) (bare (with_frame (Called t.1) (frame_of f))) refl t.3 p.2 (omega arith) 0 refl h.0,
            all_sized rest inside l b e m n who false part false x p.3 shape.3 at.4 room stand deep t.4 h.2 lr parts.1,
          )
      all_sized (ends site op rest) inside l s e m n who resuming part closing x p shape at room stand deep t h low parts =
          let none' = not_either op w.out p.0 (λ z. cc) in (
            one_may op s m none' t.0 h.0 room low.0 (low_stand who s.place n m stand deep) parts.0,
            t.1,
            all_sized rest inside l (behind op true s) e m n who false part false x p.1 shape.3 at.2 (moved op true s room) (out_on who op s.place n p.0 stand) deep t.2 h.1 (low_behind op true s rest low.1)
                parts.1,
          )
