-- Flat lists of well typed code with room in frames suit frames that hold their live words, and have room for the levels of parts.
use Rattle.std.proofs.Common.{◌≡◌, ℕ, zero, suc, ◌+◌, ◌-◌, ◌*◌, ◌<◌, ◌≤◌, Bool, true, false, List, [], length, slice_get, Option, Some, None, inl, inr, refl, sym, ap, ◌∙◌, subst, arith}
use Rattle.std.specs.Prelude.{◌&&◌, not, nat_lt, ◌⊎◌, if◌then◌else◌}
use Rattle.std.proofs.lemmas.Bool.{ltb-true, lt-ltb, eqb-true, and_parts}
use Rattle.fk_meaning_operation.specs.declared.operation.Operation.{Operation}
use Rattle.fk_meaning_operation.specs.declared.operation.Operation.TheVariants as o
use Rattle.fk_meaning_operation.specs.declared.operation.OwnValue.{OwnValue}
use Rattle.fk_meaning_operation.specs.declared.operation.OwnValue.TheVariants as n
use Rattle.fk_meaning_operation.specs.declared.operation.Variable.TheVariants as v
use Rattle.fk_meaning_forms.specs.Code.{Code}
use Rattle.fk_meaning.specs.Shape.{of_function, Shape}
use Rattle.fk_core.specs.declared.op.CoreOp.{CoreOp}
use Rattle.fk_core.specs.Numbers.{operation_of}
use Rattle.fk_core.specs.Next.{is_jump, behind_jump, follows}
use Rattle.fk_core_liveness.specs.declared.places.FunctionKind.{FunctionKind}
use Rattle.fk_core_liveness.specs.declared.places.FunctionKind.TheVariants.{Main, Called}
use Rattle.fk_core_liveness.specs.Frames.{is_main_place}
use Rattle.fk_core_liveness.specs.Live.{reads, kept_behind, asked_by, asked_of, IsLive, IsLeast}
use Rattle.fk_core_liveness.proofs.Asked.{split_or}
use Rattle.fk_core_flat.specs.Items.{way_of}
use Rattle.fk_core_flat.specs.Items as w
use Rattle.fk_core_flat.specs.Items.{Way}
use Rattle.fk_core_flat.specs.Shape.{is_done, is_closed}
use Rattle.fk_core_typing.specs.LocalDepths.{is_ordinary}
use Rattle.fk_sim_block.specs.Next.{OpAt}
use Rattle.fk_sim_block.specs.Stands.{Frames, HasRoom, ahead}
use Rattle.fk_sim_block.specs.Suits as b
use Rattle.fk_sim_block.specs.Suits.{writes, nothing, Flows}
use Rattle.fk_core_typing.specs.Values.{Place, with_frame, entered, place_behind, bare, behind, MayBeIn}
use Rattle.fk_core_typing.specs.Heights.{HasHeights}
use Rattle.fk_core_typing.specs.Laws.{IsTypedList, HasHeightsOf}
use Rattle.fk_core_typing.proofs.System.{System, Judged, IsLawful}
use Rattle.fk_core_typing.proofs.Sound.{Comes, IsSound}
use Rattle.fk_core_typing.proofs.Valued.{same_ways}
use Rattle.fk_core_typing.proofs.Knowing.{label_done, same_function}
use Rattle.fk_core_typing.proofs.Listed.{state, at_end, entries, of_jump, of_operation}
use Rattle.fk_core_typing.proofs.Listed as listed
use Rattle.fk_lower_laws.specs.Rooms.{HasWord, ahead_in, HaveRoom}
use Rattle.fk_core_levels.specs.Count.{counts, read}
use Rattle.fk_core_levels.specs.Forks.{level_forks}
use Rattle.fk_core_levels.specs.Behind.{up_to, named, goes_on, goes_on_by, leads_by, leads}
use Rattle.fk_core_counting.specs.Laws.{IsRun}
use Rattle.fk_core_counting.proofs.Lists.{levels_told, forks_told}
use Rattle.fk_core_counting.proofs.Forks.{told_forks}
use Rattle.fk_core_counting.proofs.Walk.{KeepsPlaces}
use Rattle.fk_core_counting.proofs.Ways.{stand_begun}
use Rattle.fk_core_counting.proofs.Folding.{none, none_read}
use Rattle.fk_lower_laws.specs.Suiting.{LiveWordsSuit}
use Rattle.fk_lower_laws.specs.Levels.{levels_in, forks_in, Rooms, HasRoomFor, GoesTo, Enters, GoesOn, FitsRoom, HasRooms}
use Rattle.fk_lower_laws.proofs.Nested.{has_frame, frame_named, takes_frame, none_taken, own_taken, own_before}
use Rattle.fk_lower_laws.proofs.Sized.{Sized, sized, granted, sizing, sizing_lawful, all_sized}
use Rattle.fk_lower_laws.proofs.Living.{behind_either, kept_before, read_before, jump_before}

module _ (bodies : ℕ → Code ℕ) (core : List CoreOp) (entry : ℕ → ℕ) (place_of : ℕ → FunctionKind) (frame_of : ℕ → Option ℕ) (firsts : ℕ)
    (may_call : (in_group : Bool) → (function : ℕ) → Bool) (typed : IsTypedList bodies core entry place_of frame_of) (tall : HasHeightsOf bodies core place_of)
    (fit : HaveRoom bodies place_of firsts) (nested : (f : ℕ) → Shape false false of_function (bodies f)) (run : (f : ℕ) → IsRun may_call (place_of f) (bodies f)) where
  abbrev sys : System
  sys = sizing firsts place_of frame_of fit.words fit.most fit.nested

  abbrev lawful : IsLawful sys place_of
  lawful = sizing_lawful firsts place_of frame_of fit.words fit.most fit.nested

  judged : (f : ℕ) → (end : Sized) × Judged sys None (sys.first f) (bodies f) end
  judged f = (
    sized (typed.typed f).0 (fit.words f) (fit.most f) (fit.nested f),
    all_sized firsts place_of frame_of fit.words fit.most fit.nested fit.room may_call (λ g. is_closed (bodies g)) (fit.words f) (fit.most f) (fit.nested f) (bodies f) false None
        (bare (with_frame (place_of f) (frame_of f))) (typed.typed f).0 0 none (run f).who false false false of_function (typed.shaped f).0 (nested f) (run f).placed (fit.room f) (stand_begun (run f).who (place_of f) (frame_of f) (run f).by_main) (omega arith)
        (typed.typed f).1 (fit.own f) (fit.few f) (fit.parts f),
  )

  abbrev bare_main : Sized
  bare_main = sized (bare (entered Main)) 0 0 0

  abbrev at : ℕ → Sized
  at = state bodies core entry place_of frame_of typed sys lawful judged bare_main

  heights : true ≡ true → (f : ℕ) → HasHeights place_of tall.depth 0 (bodies f)
  heights z = tall.heights

  abbrev ComesTo : Sized → ℕ → Type 0
  ComesTo = Comes core entry place_of sys lawful at true tall.depth

  abbrev Sounds : (i m : ℕ) → Operation → (target : ℕ) → Type 0
  Sounds i m op target = IsSound core entry place_of sys lawful at true tall.depth (at i) i m op target

  -- the words of the function of an index
  abbrev own : (index word : ℕ) → Bool
  own index word = nat_lt word (at index).words

  same : (op : Operation) (s : Sized) (way : Way) → way_of op ≡ way → (way ≡ w.straight) ⊎ (way ≡ w.onto) → sys.behind op false s ≡ sys.behind op true s
  same op s way e f = ap (λ x. sized x s.words s.most s.nested) (same_ways op s.state way e f)

  sound_at : (i : ℕ) (op : CoreOp) (operation : Operation) → OpAt core i op operation → Sounds i op.site operation op.target
  sound_at i op operation stands = of_operation bodies core entry place_of frame_of typed sys lawful judged bare_main true tall.depth heights i op operation stands.stands stands.is_read

  onto : (op : Operation) (i m target : ℕ) → is_ordinary op ≡ true → Sounds i m op target → (onward : Bool)
      → ComesTo (sys.behind op onward (at i)) (follows core op i target [] onward).at
  onto op i m target r s onward =
      listed.goes_on bodies core entry place_of frame_of typed sys lawful judged bare_main true tall.depth heights op (at i) i target (way_of op) refl r (same op (at i)) s.goes onward

  -- where a call is entered, where it goes on behind it
  record Called' (arguments i : ℕ) : Type 0 where
    pub few : arguments ≤ 56
    pub function : ℕ
    pub gives : Bool
    pub begins : ComesTo (sys.begin (o.Enter arguments) function gives) (suc i)
    pub on : ComesTo (sys.behind_call (o.Enter arguments) gives (at i)) (behind_jump core (suc i))

  called : (arguments i m target : ℕ) → Sounds i m (o.Enter arguments) target → Called' arguments i
  called arguments i m target s =
      let g = s.goes in
      record {
        few = g.3.few;
        function = g.0;
        gives = g.1;
        begins = g.4;
        on = g.5;
      }

  -- the words of a function are those of where the call goes on
  transported : (s : Sized) (i j word : ℕ) → s.words ≡ (at i).words → ComesTo s j → own j word ≡ true → own i word ≡ true
  transported s i j word e c k = ap (λ n. nat_lt word n) (sym (sym c.grants.words ∙ e)) ∙ k

  own_behind : (op : Operation) (i m target word : ℕ) → Sounds i m op target → kept_behind core own op i target word ≡ true → own i word ≡ true
  own_behind (o.Enter arguments) i m target word s k =
      let c = called arguments i m target s in
      transported (sys.behind_call (o.Enter arguments) c.gives (at i)) i (behind_jump core (suc i)) word refl c.on k
  own_behind (o.Leave gives framed) i m target word s k = absurd (cc)
  own_behind o.Halt i m target word s k = absurd (cc)
  own_behind op i m target word s k =
      by (split_or (own (follows core op i target [] true).at word) (own (follows core op i target [] false).at word) k)
    where
      by : (own (follows core op i target [] true).at word ≡ true) ⊎ (own (follows core op i target [] false).at word ≡ true) → own i word ≡ true
      by (inl k) = transported (sys.behind op true (at i)) i (follows core op i target [] true).at word refl (onto op i m target refl s true) k
      by (inr k) = transported (sys.behind op false (at i)) i (follows core op i target [] false).at word refl (onto op i m target refl s false) k

  own_read : (op : Operation) (i word : ℕ) → HasWord firsts (at i).words op → reads op word ≡ true → own i word ≡ true
  own_read (o.Get (n.Value (v.Private k))) i word there r =
      let is : word ≡ k = eqb-true word k (and_parts _ _ r).0 in
      let low : k < (at i).words = there in
      lt-ltb word (at i).words (omega arith)
  own_read op i word there r = absurd (cc)

  -- so the words of the function of an index are live
  own_live : IsLive core own
  own_live i word e = by_op (slice_get core i) refl e
    where
      by_operation : (op : CoreOp) (operation : Option Operation) → slice_get core i ≡ Some op → is_jump op ≡ false → operation_of op.kind op.number ≡ operation
          → asked_by core own operation i op.target word ≡ true → own i word ≡ true
      by_operation op None s j r e = absurd (cc)
      by_operation op (Some operation) s j r e =
          let stands : OpAt core i op operation = record { stands = s; no_jump = j; is_read = r } in
          let sound = sound_at i op operation stands in
          by (split_or (kept_behind core own operation i op.target word && not (writes operation word)) (reads operation word) e) sound
        where
          by : (kept_behind core own operation i op.target word && not (writes operation word)) ≡ true ⊎ (reads operation word ≡ true)
              → Sounds i op.site operation op.target → own i word ≡ true
          by (inl k) sound = own_behind operation i op.site op.target word sound (and_parts _ _ k).0
          by (inr k) sound = own_read operation i word sound.may.there k

      by_jump : (op : CoreOp) (b : Bool) → slice_get core i ≡ Some op → is_jump op ≡ b
          → (if b then own op.target word else asked_by core own (operation_of op.kind op.number) i op.target word) ≡ true → own i word ≡ true
      by_jump op true s j e =
          transported (at i) i op.target word refl (of_jump bodies core entry place_of frame_of typed sys lawful judged bare_main true tall.depth heights i op s j) e
      by_jump op false s j e = by_operation op (operation_of op.kind op.number) s j refl e

      by_op : (op : Option CoreOp) → slice_get core i ≡ op → asked_of core own op i word ≡ true → own i word ≡ true
      by_op None s e = absurd (cc)
      by_op (Some op) s e = by_jump op (is_jump op) s refl e

  module _ (keeps : (index word : ℕ) → Bool) (live : IsLive core keeps) (least : IsLeast core keeps) where
    abbrev frames : Frames
    frames = record {
      keeps = keeps;
      is_main = λ index. is_main_place (at index).state.place.function;
      group = λ index. has_frame (at index).state.place.nests 0;
      of_file = firsts;
    }

    -- where a call goes on, it has its own frame if it has it in the state in which it comes there
    own_there : (s : Sized) (j : ℕ) → ComesTo s j → has_frame (at j).state.place.nests 0 ≡ has_frame s.state.place.nests 0
    own_there s j c = ap (λ (p : Place). has_frame p.nests 0) (sym c.grants.state.place)

    ahead_is : (place : FunctionKind) → ahead frames (is_main_place place) ≡ ahead_in firsts place
    ahead_is Main = refl
    ahead_is (Called gives) = refl

    -- what is kept is a word of the function
    few : (i word : ℕ) → keeps i word ≡ true → word < (at i).words
    few i word k = ltb-true word (at i).words (least own own_live i word k)

    flows : (s : Sized) (written : (word : ℕ) → Bool) (i j : ℕ) → s.state.place.function ≡ (at i).state.place.function
        → ((word : ℕ) → keeps j word ≡ true → written word ≡ false → keeps i word ≡ true)
        → has_frame s.state.place.nests 0 ≡ has_frame (at i).state.place.nests 0 → ComesTo s j → Flows core frames written i j
    flows s written i j p h g c = record {
      main = ap is_main_place (sym (granted s.state (at j).state c.grants.state) ∙ p);
      kept = h;
      group = own_there s j c ∙ g;
    }

    -- there is room for one value more, as behind each call
    room_at : (i j depth : ℕ) → ahead_in firsts (at i).state.place.function + 8 + (at i).words + (at i).most + 4 * (at i).nested ≤ 64
        → (at j).words ≡ (at i).words → (at j).state.place.function ≡ (at i).state.place.function → depth ≤ suc (at i).most → HasRoom frames j depth
    room_at i j depth room words place low =
        let a : ahead frames (is_main_place (at j).state.place.function) ≡ ahead_in firsts (at i).state.place.function = ahead_is (at j).state.place.function ∙ ap (ahead_in firsts) place in
        record {
          header = omega (arith, a, room, low);
          kept = λ word k. (let f = few j word k in omega (arith, a, room, low, f, words));
        }

    abbrev count : ℕ → ℕ
    count i = length (at i).state.values

    has_room : (i m : ℕ) (op : Operation) (target depth : ℕ) → Sounds i m op target → depth ≤ suc (at i).most → HasRoom frames i depth
    has_room i m op target depth s low = room_at i i depth s.may.room refl refl low

    there : (known : OwnValue) (i : ℕ) (op : CoreOp) → OpAt core i op (o.Get known) → MayBeIn (o.Get known) (at i).state.place
        → HasWord firsts (at i).words (o.Get known) → ahead_in firsts (at i).state.place.function + 8 + (at i).words + (at i).most + 4 * (at i).nested ≤ 64 → b.IsThere core frames known i
    there (n.Value (v.Private word)) i op stands may h room =
        let low : word < (at i).words = h in read_before core keeps live i op word stands (omega (arith, low, room))
    there (n.Value (v.OfFile word)) i op stands may h room = h
    there (n.FrameAddress zero word) i op stands may h room = (frame_named (at i).state.place.nests 0 word may, h)
    there (n.FrameAddress (suc number) word) i op stands may h room = h
    there known i op stands may h room = tt

    place : (operation : Operation) (i : ℕ) (op : CoreOp) → OpAt core i op operation → Sounds i op.site operation op.target → b.HasPlace core frames operation i (count i)
    place (o.Push x) i op stands s = has_room i op.site (o.Push x) op.target (suc (count i)) s (let a = s.may.low in omega (arith, a))
    place o.CopyLast i op stands s = has_room i op.site o.CopyLast op.target (suc (count i)) s (let a = s.may.low in omega (arith, a))
    place (o.Get known) i op stands s =
        (there known i op stands s.may.may.place s.may.there s.may.room, has_room i op.site (o.Get known) op.target (suc (count i)) s (let a = s.may.low in omega (arith, a)))
    place (o.Set (v.Private word)) i op stands s =
        let a = ahead_is (at i).state.place.function in
        let r = s.may.room in
        let l = s.may.low in
        let t : word < (at i).words = s.may.there in
        omega (arith, a, r, l, t)
    place (o.Set (v.OfFile word)) i op stands s = s.may.there
    place (o.Leave gives framed) i op stands s = ap (λ (p : Place). has_frame p.nests 0) s.goes.1 ∙ s.goes.2
    place (o.Frame number words) i op stands s = s.may.there
    place operation i op stands s = tt

    ordinary : (op : Operation) (i target : ℕ) → is_ordinary op ≡ true → takes_frame op ≡ false
        → ((onward : Bool) → Flows core frames (writes op) i (follows core op i target [] onward).at)
        → b.GoesOn core frames op i target (count i)
    ordinary (o.Enter x) i target r f h = absurd (cc)
    ordinary (o.Leave gives framed) i target r f h = absurd (cc)
    ordinary o.Halt i target r f h = absurd (cc)
    ordinary (o.Frame number words) i target r f h = absurd (cc)
    ordinary op i target r f h = h

    by_ordinary : (operation : Operation) (i : ℕ) (op : CoreOp) → OpAt core i op operation → is_ordinary operation ≡ true → takes_frame operation ≡ false → Sounds i op.site operation op.target
        → b.GoesOn core frames operation i op.target (count i)
    by_ordinary operation i op stands r f s =
        ordinary operation i op.target r f (λ onward. flows (sys.behind operation onward (at i)) (writes operation) i (follows core operation i op.target [] onward).at (same_function operation onward (at i).state.place)
        (λ word k u. kept_before core keeps live i op operation stands word (behind_either core keeps operation i op.target word r onward k) u)
        (own_before operation f onward (at i).state.place s.may.may.place)
        (onto operation i op.site op.target r s onward))

    takes : (number words i : ℕ) (op : CoreOp) → OpAt core i op (o.Frame number words) → Sounds i op.site (o.Frame number words) op.target → b.TakesFrame core frames number i (suc i)
    takes number words i op stands s =
        let operation = o.Frame number words in
        let c : ComesTo (sys.behind operation true (at i)) (suc i) = onto operation i op.site op.target refl s true in
        record {
          main = ap is_main_place (sym (granted (behind operation true (at i).state) (at (suc i)).state c.grants.state) ∙ same_function operation true (at i).state.place);
          kept = λ word k. kept_before core keeps live i op operation stands word (behind_either core keeps operation i op.target word refl true k) refl;
          none = λ e. subst (λ k. has_frame (at i).state.place.nests k ≡ false) e (none_taken number (at i).state.place.nests s.may.may.place);
          group = own_there (sys.behind operation true (at i)) (suc i) c ∙ own_taken number words (at i).state.place.nests s.may.may.place;
        }

    calls : (arguments i : ℕ) (op : CoreOp) → OpAt core i op (o.Enter arguments) → Sounds i op.site (o.Enter arguments) op.target → b.Calls core frames arguments i (count i)
    calls arguments i op stands s =
        let c = called arguments i op.site op.target s in
        record {
          few = c.few;
          inside = ap is_main_place (sym (granted _ _ c.begins.grants.state));
          none = ap (λ (p : Place). has_frame p.nests 0) (sym c.begins.grants.state.place);
          kept = λ word k. (
              let below = few (suc i) word k in
              let same : fit.words c.function ≡ (at (suc i)).words = c.begins.grants.words in
              let room = fit.room c.function in
              omega (arith, below, same, room)
              );
          back = flows (sys.behind_call (o.Enter arguments) c.gives (at i)) nothing i (behind_jump core (suc i)) refl
              (λ word k u. kept_before core keeps live i op (o.Enter arguments) stands word k refl) refl c.on;
          room = room_at i (behind_jump core (suc i)) (suc (count i - arguments)) s.may.room (sym c.on.grants.words)
              (sym (granted _ _ c.on.grants.state)) (let a = s.may.low in omega (arith, a));
        }

    goes : (operation : Operation) (i : ℕ) (op : CoreOp) → OpAt core i op operation → Sounds i op.site operation op.target → b.GoesOn core frames operation i op.target (count i)
    goes (o.Enter arguments) i op stands s = calls arguments i op stands s
    goes (o.Leave gives framed) i op stands s = ap (λ (p : Place). is_main_place p.function) s.goes.1
    goes o.Halt i op stands s = ap (λ (p : Place). is_main_place p.function) s.goes
    goes (o.Frame number words) i op stands s = takes number words i op stands s
    goes operation i op stands s = by_ordinary operation i op stands refl refl s

    fits : (i : ℕ) (op : CoreOp) (operation : Operation) → OpAt core i op operation → b.Fits core frames i op operation
    fits i op operation stands =
        let s = sound_at i op operation stands in
        let e : count i ≡ op.depth = sym (s.height refl) ∙ sym (tall.told i op operation stands.stands stands.is_read) in
        record {
          values = (let a = s.may.may.looks in omega (arith, a, e));
          few = (let a = s.may.low in let r = s.may.room in omega (arith, a, e, r));
          room = has_room i op.site operation op.target op.depth s (let a = s.may.low in omega (arith, a, e));
          place = subst (λ d. b.HasPlace core frames operation i d) e (place operation i op stands s);
          goes_on = subst (λ d. b.GoesOn core frames operation i op.target d) e (goes operation i op stands s);
        }

    jumps : (i : ℕ) (op : CoreOp) → slice_get core i ≡ Some op → is_jump op ≡ true → Flows core frames nothing i op.target
    jumps i op e z =
        flows (at i) nothing i op.target refl (λ word k u. jump_before core keeps live i op e z word k) refl
        (of_jump bodies core entry place_of frame_of typed sys lawful judged bare_main true tall.depth heights i op e z)

    -- where `main` begins
    opened_main : (main : ℕ) → place_of main ≡ Main → frame_of main ≡ None → (is_done (bodies main) ≡ true) ⊎ (is_closed (bodies main) ≡ true) → (at (entry main)).state.place ≡ entered Main
    opened_main main is frameless (inl d) =
        ap (λ i. (at i).state.place) (typed.flat.begins main ∙ label_done (bodies main) None (typed.flat.place main) (length core) d)
        ∙ ap (λ (s : Sized). s.state.place) (at_end bodies core entry place_of frame_of typed sys lawful judged bare_main)
    opened_main main is frameless (inr c) =
        sym (entries bodies core entry place_of frame_of typed sys lawful judged bare_main true tall.depth heights main c).grants.state.place
        ∙ ap (λ kind. with_frame kind (frame_of main)) is ∙ ap (with_frame Main) frameless

    few_firsts : (main : ℕ) → place_of main ≡ Main → firsts ≤ 56
    few_firsts main is =
        let a = fit.room main in
        let e : ahead_in firsts (place_of main) ≡ firsts = ap (ahead_in firsts) is in
        omega (arith, a, e)

    -- ---- levels

    abbrev rooms : Rooms
    rooms = record {
      places = λ i. (at i).state.place;
      words = λ i. (at i).words;
      most = λ i. (at i).most;
    }

    to : (s : Sized) (i j : ℕ) (there' : Place) → s.state.place ≡ there' → s.words ≡ (at i).words → s.most ≡ (at i).most → ComesTo s j → GoesTo core frames rooms there' i j
    to s i j there' e f g c = record { place = sym c.grants.state.place ∙ e; words = sym c.grants.words ∙ f; most = sym c.grants.most ∙ g }

    room_for : (levels i : ℕ) → levels ≤ (at i).nested → ahead_in firsts (at i).state.place.function + 8 + (at i).words + (at i).most + 4 * (at i).nested ≤ 64 → HasRoomFor core frames rooms levels i
    room_for levels i low room = let a = ahead_is (at i).state.place.function in omega (arith, a, low, room)

    enters : (arguments i : ℕ) (op : CoreOp) → Sounds i op.site (o.Enter arguments) op.target → Enters core frames rooms i
    enters arguments i op s =
        let c = called arguments i op.site op.target s in
        let g = c.begins.grants in
        let a = ahead_is (at (suc i)).state.place.function in
        let b = ap (λ (p : Place). ahead_in firsts p.function) (sym g.state.place) in
        record {
          gives = c.gives;
          begins = sym g.state.place;
          room = (
              let words = g.words in
              let most = g.most in
              let fits = fit.room c.function in
              omega (arith, a, b, words, most, fits)
              );
          back = to (sys.behind_call (o.Enter arguments) c.gives (at i)) i (behind_jump core (suc i)) (at i).state.place refl refl refl c.on;
        }

    on : (op : Operation) (i target : ℕ) → is_ordinary op ≡ true
        → ((onward : Bool) → GoesTo core frames rooms (place_behind op onward (at i).state.place) i (follows core op i target [] onward).at) → GoesOn core frames rooms op i target
    on (o.Enter x) i target r h = absurd (cc)
    on (o.Leave gives framed) i target r h = absurd (cc)
    on o.Halt i target r h = absurd (cc)
    on op i target r h = h

    by_way : (operation : Operation) (i : ℕ) (op : CoreOp) → is_ordinary operation ≡ true → Sounds i op.site operation op.target → GoesOn core frames rooms operation i op.target
    by_way operation i op r s =
        on operation i op.target r (λ onward. to (sys.behind operation onward (at i)) i (follows core operation i op.target [] onward).at (place_behind operation onward (at i).state.place) refl refl refl
        (onto operation i op.site op.target r s onward))

    goes_with : (operation : Operation) (i : ℕ) (op : CoreOp) → Sounds i op.site operation op.target → GoesOn core frames rooms operation i op.target
    goes_with (o.Enter arguments) i op s = enters arguments i op s
    goes_with (o.Leave gives framed) i op s = (s.goes.0, s.goes.1)
    goes_with o.Halt i op s = s.goes
    goes_with operation i op s = by_way operation i op refl s

    fits_room : (i : ℕ) (op : CoreOp) (operation : Operation) → OpAt core i op operation → FitsRoom core frames rooms i op operation
    fits_room i op operation stands =
        let s = sound_at i op operation stands in
        let e : count i ≡ op.depth = sym (s.height refl) ∙ sym (tall.told i op operation stands.stands stands.is_read) in
        record {
          may = s.may.may.place;
          grouped = s.may.grouped;
          values = (let a = s.may.low in omega (arith, a, e));
          room = room_for (levels_in (at i).state.place) i s.may.few s.may.room;
          further = λ onward. room_for (levels_in (place_behind operation onward (at i).state.place)) i (s.may.further onward) s.may.room;
          goes_on = goes_with operation i op s;
        }

    -- the words of a function are above all that it names, and stay
    above : (word words : ℕ) → word < words → up_to word ≤ words
    above word words low = by (nat_lt word 64)
      where
        by : (b : Bool) → (if b then suc word else 0) ≤ words
        by true = omega (arith, low)
        by false = omega arith

    names_below : (operation : Operation) (words : ℕ) → HasWord firsts words operation → named (Some operation) ≤ words
    names_below (o.Get (n.Value (v.Private word))) words h = above word words h
    names_below (o.Set (v.Private word)) words h = above word words h
    names_below operation words h = omega arith

    holds : (i : ℕ) (op : CoreOp) → slice_get core i ≡ Some op → named (read op) ≤ (at i).words
    holds i op stands = by (read op) refl (is_jump op) refl
      where
        by : (operation : Option Operation) → read op ≡ operation → (jumps : Bool) → is_jump op ≡ jumps → named operation ≤ (at i).words
        by None e jumps j = omega arith
        by (Some operation) e false j = names_below operation (at i).words (sound_at i op operation (record { stands = stands; no_jump = j; is_read = e })).may.there
        by (Some operation) e true j = absurd (let none = none_read op j in let clash = sym none ∙ e in cc)

    stays : (i : ℕ) (onward : Bool) → (at (leads core i onward)).words ≡ (at i).words
    stays i onward = by_op (slice_get core i) refl
      where
        by_operation : (op : CoreOp) (operation : Operation) → OpAt core i op operation → Sounds i op.site operation op.target → (at (goes_on core operation i op.target onward)).words ≡ (at i).words
        by_operation op (o.Enter arguments) stands s = (enters arguments i op s).back.words
        by_operation op (o.Leave gives framed) stands s = refl
        by_operation op o.Halt stands s = refl
        by_operation op operation stands s = sym (onto operation i op.site op.target refl s onward).grants.words

        by_read : (op : CoreOp) (operation : Option Operation) → slice_get core i ≡ Some op → is_jump op ≡ false → read op ≡ operation
            → (at (goes_on_by core operation i op.target onward)).words ≡ (at i).words
        by_read op None stands j e = refl
        by_read op (Some operation) stands j e =
            let there' : OpAt core i op operation = record { stands = stands; no_jump = j; is_read = e } in by_operation op operation there' (sound_at i op operation there')

        by_jump : (op : CoreOp) (jumps : Bool) → slice_get core i ≡ Some op → is_jump op ≡ jumps
            → (at (if jumps then op.target else goes_on_by core (read op) i op.target onward)).words ≡ (at i).words
        by_jump op true stands j = sym (of_jump bodies core entry place_of frame_of typed sys lawful judged bare_main true tall.depth heights i op stands j).grants.words
        by_jump op false stands j = by_read op (read op) stands j refl

        by_op : (op : Option CoreOp) → slice_get core i ≡ op → (at (leads_by core op i onward)).words ≡ (at i).words
        by_op None e = refl
        by_op (Some op) e = by_jump op (is_jump op) e refl

    sized_keep : KeepsPlaces sys (λ (s : Sized). s.state.place) place_of
    sized_keep = record {
      grants = λ s t g. g.state.place;
      stands = λ s t e. e;
      behind = λ op onward s. refl;
      begins = λ op f gives. refl;
      enters = λ op f gives. (frame_of f, refl);
      calls = λ op gives s. refl;
      may = λ op s m. m.may.place;
      first = λ f. (frame_of f, refl);
    }

    counted : (i : ℕ) → i < length core → slice_get (counts core) i ≡ Some (levels_in (at i).state.place)
    counted i low = levels_told bodies core entry place_of frame_of typed may_call nested run sys lawful judged bare_main (λ (s : Sized). s.state.place) sized_keep i low

    forked : (i level : ℕ) → i < length core → level < levels_in (at i).state.place → level_forks core i level ≡ forks_in (at i).state.place level
    forked i level low less =
        forks_told bodies core entry place_of frame_of typed may_call nested run sys lawful judged bare_main (λ (s : Sized). s.state.place) sized_keep i level low
        ∙ told_forks (is_main_place (at i).state.place.function) (at i).state.place.nests level less

    -- the frame of `main` has room for its words, also if nothing is done there
    opens_main : (main : ℕ) → place_of main ≡ Main → (is_done (bodies main) ≡ true) ⊎ (is_closed (bodies main) ≡ true) → firsts + 8 + (at (entry main)).words + (at (entry main)).most ≤ 64
    opens_main main is (inl d) =
        let e = typed.flat.begins main ∙ label_done (bodies main) None (typed.flat.place main) (length core) d in
        let end = at_end bodies core entry place_of frame_of typed sys lawful judged bare_main in
        let words : (at (entry main)).words ≡ 0 = ap (λ i. (at i).words) e ∙ ap (λ (s : Sized). s.words) end in
        let most : (at (entry main)).most ≡ 0 = ap (λ i. (at i).most) e ∙ ap (λ (s : Sized). s.most) end in
        let few' = few_firsts main is in
        omega (arith, words, most, few')
    opens_main main is (inr c) =
        let g = (entries bodies core entry place_of frame_of typed sys lawful judged bare_main true tall.depth heights main c).grants in
        let words = g.words in
        let most = g.most in
        let fits' = fit.room main in
        let e : ahead_in firsts (place_of main) ≡ firsts = ap (ahead_in firsts) is in
        omega (arith, words, most, fits', e)

    has_rooms : (main : ℕ) → place_of main ≡ Main → frame_of main ≡ None → HasRooms core frames (entry main)
    has_rooms main is frameless =
        let begins' = opened_main main is frameless (typed.shaped main).1 in
        let fits' = opens_main main is (typed.shaped main).1 in
        let a : ahead frames (is_main_place (at (entry main)).state.place.function) ≡ firsts = ap (λ (p : Place). ahead frames (is_main_place p.function)) begins' in
        record {
          rooms = rooms;
          main_of = λ i. refl;
          counted = counted;
          forked = forked;
          bound = record { holds = holds; stays = λ i onward low there'. stays i onward };
          begins = begins';
          opens = omega (arith, fits', a);
          jumps = λ i op e z. to (at i) i op.target (at i).state.place refl refl refl (of_jump bodies core entry place_of frame_of typed sys lawful judged bare_main true tall.depth heights i op e z);
          fits = fits_room;
        }

    has_suits : (main : ℕ) → place_of main ≡ Main → frame_of main ≡ None → b.Suits core frames (entry main)
    has_suits main is frameless =
        let begins' = opened_main main is frameless (typed.shaped main).1 in
        record {
          begins = ap (λ (p : Place). is_main_place p.function) begins';
          none = ap (λ (p : Place). has_frame p.nests 0) begins';
          few = few_firsts main is;
          jumps = jumps;
          fits = fits;
        }

pub live_words_suit : LiveWordsSuit
live_words_suit bodies core entry place_of frame_of firsts may_call typed tall fit nested run keeps live least main is frameless = record {
  frames = frames bodies core entry place_of frame_of firsts may_call typed tall fit nested run keeps live least;
  of_file = refl;
  keeps_are = refl;
  suits = has_suits bodies core entry place_of frame_of firsts may_call typed tall fit nested run keeps live least main is frameless;
  rooms = has_rooms bodies core entry place_of frame_of firsts may_call typed tall fit nested run keeps live least main is frameless;
}
