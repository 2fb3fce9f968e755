-- What a processor has, beside what its node keeps of the spaces of groups and of the frames of calls.
use Rattle.std.proofs.Common.{◌≡◌, ◌≢◌, ℕ, zero, suc, ◌<◌, ◌≤◌, ◌==◌, Bool, true, false, true≢false, List, [], ◌∷◌, ◌++◌, length, map, Option, Some, None, refl, sym, ap, ◌∙◌, subst, subst₂, arith, if◌then◌else◌}
use Rattle.fk_space.specs.Space.{Space, frame, block}
use Rattle.fk_meaning_store.specs.Serve.{words_of}
use Rattle.fk_meaning_operation.specs.Kinds.{class_of}
use Rattle.fk_meaning_operation.specs.declared.operation.Operation.{Operation}
use Rattle.fk_meaning_operation.specs.declared.operation.Operation.TheVariants as o
use Rattle.fk_meaning_operation.specs.declared.kinds.Class.{Class}
use Rattle.fk_meaning_operation.specs.declared.kinds.Class.TheVariants as class
use Rattle.fk_meaning.specs.Processor.{Processor, Setting, values, last}
use Rattle.fk_meaning.specs.Local.{local}
use Rattle.fk_meaning.specs.Request.{with_answer}
use Rattle.fk_meaning.specs.Group.{does}
use Rattle.fk_meaning.specs.Round.{Step, Runner}
use Rattle.fk_lockstep.specs.Untouched.{changes_tree}
use Rattle.fk_lockstep.proofs.Acting.{untrue, within}
use Rattle.fk_lockstep.specs.Frames.{Calling, Leaves, Remains, calling, takes_space, is_own_frame, round_after, alone_after, NoDeeper, Higher, Calls, FramesGoOn, FramedNext, FramedFor, IsFramed}
use Rattle.fk_lockstep.proofs.Tiers.{Tier, own_of, spaces_in, rest_of, Kept, local_keeps, answer_keeps, plain_keeps, left_space, leave_makes, leave_outer, with_frame, with_allotted, with_words, plain_own, plain_makes}

-- the own group's, and those of the groups round it
pub record Tiers : Type 0 where
  pub own : Tier
  pub round : List Tier

abbrev pub all_of : Tiers → List Tier
all_of x = x.own ∷ x.round

abbrev pub with_own : Tiers → Tier → Tiers
with_own x t = record { own = t; round = x.round }

abbrev pub spaces_of : List Tier → List Space
spaces_of ts = map (λ t. t.space) ts

-- frames end with those further out
abbrev pub Link : List ℕ → List Tier → Type 0
Link fs [] = Unit {0}
Link fs (t ∷ ts) = (more : List ℕ) × (fs ≡ more ++ t.frames)

abbrev pub Links : List Tier → Type 0
Links [] = Unit {0}
Links (t ∷ ts) = Link t.frames ts × Links ts

-- lists
length_rest : (fs : List ℕ) (n : ℕ) → length fs ≡ suc (suc n) → length (rest_of fs) ≡ suc n
length_rest [] n e = absurd (omega (arith, e))
length_rest (f ∷ fs) n e = omega (arith, e)

length_put : (f : ℕ) (fs : List ℕ) (n : ℕ) → length fs ≡ suc n → length (f ∷ rest_of fs) ≡ suc n
length_put f [] n e = absurd (omega (arith, e))
length_put f (g ∷ fs) n e = e

longer : (xs ys : List ℕ) → length ys ≤ length (xs ++ ys)
longer [] ys = omega arith
longer (x ∷ xs) ys = let rest = longer xs ys in omega (arith, rest)

-- more behind which there are others, where there are more than these
some_more : (fs more gs : List ℕ) → fs ≡ more ++ gs → length gs < length fs → (f : ℕ) × (rest : List ℕ) × (fs ≡ f ∷ rest ++ gs)
some_more fs [] gs e lt = let same = ap length e in absurd (omega (arith, same, lt))
some_more fs (f ∷ rest) gs e lt = (f, rest, e)

pub no_more : (more fs : List ℕ) → length (more ++ fs) ≡ length fs → more ≡ []
no_more [] fs e = refl
no_more (m ∷ more) fs e = let more' = longer more fs in absurd (omega (arith, e, more'))

pub local_plain : (op : Operation) (c : Class) → class_of op ≡ c → c ≢ class.Tree → changes_tree op ≡ false
local_plain o.Begin c is isnt = absurd (isnt (sym is))
local_plain (o.Split by) c is isnt = absurd (isnt (sym is))
local_plain o.Shrink c is isnt = absurd (isnt (sym is))
local_plain o.End c is isnt = absurd (isnt (sym is))
local_plain o.Farm c is isnt = absurd (isnt (sym is))
local_plain o.Seq c is isnt = absurd (isnt (sym is))
local_plain o.Resume c is isnt = absurd (isnt (sym is))
local_plain (o.Meet true) c is isnt = absurd (isnt (sym is))
local_plain (o.Meet false) c is isnt = refl
local_plain op c is isnt = refl

round_same : (op : Operation) (onward : Bool) (n : ℕ) → changes_tree op ≡ false → round_after op onward n ≡ n
round_same o.Begin onward n e = absurd (true≢false e)
round_same (o.Split by) onward n e = absurd (true≢false e)
round_same o.Shrink onward n e = absurd (true≢false e)
round_same o.End onward n e = absurd (true≢false e)
round_same op onward n e = refl

alone_same : (op : Operation) (n : ℕ) (alone : Bool) → changes_tree op ≡ false → alone_after op n alone ≡ alone
alone_same o.Begin n alone e = absurd (true≢false e)
alone_same o.Farm n alone e = absurd (true≢false e)
alone_same o.Seq n alone e = absurd (true≢false e)
alone_same o.Resume n alone e = absurd (true≢false e)
alone_same (o.Meet true) n alone e = absurd (true≢false e)
alone_same (o.Meet false) n alone e = refl
alone_same op n alone e = refl

pub local_not_tree : ◌≢◌ {A = Class} class.Local class.Tree
local_not_tree e = cc

pub request_not_tree : ◌≢◌ {A = Class} class.Request class.Tree
request_not_tree e = cc

allotted_frames : (t : Tier) (o' : Option (ℕ × Space)) → (with_allotted t o').frames ≡ t.frames
allotted_frames t None = refl
allotted_frames t (Some b) = refl

with_words_frames : (words : ℕ) (t : Tier) → (with_words words t).frames ≡ t.frames
with_words_frames words t = by (words == 0)
  where
    by : (none : Bool) → (if none then t else with_allotted t (block t.space words)).frames ≡ t.frames
    by true = refl
    by false = allotted_frames t (block t.space words)

-- what calls leave of a tier
abbrev pub local_own : Operation → Tier → Tier
local_own (o.Leave gives framed) t = record { space = left_space framed t; frames = rest_of t.frames }
local_own op t = t

abbrev pub request_own : Operation → Tier → Tier
request_own (o.Enter arguments) t = record { space = t.space; frames = 0 ∷ t.frames }
request_own op t = t

module _ {W : Type 0} (next : W → Option (Step W)) (outs : W → List W) (depth : W → ℕ) where
  -- where others are met further out there are as many calls
  abbrev pub Marks : List W → List Tier → Type 0
  Marks ws [] = Unit {0}
  Marks [] (t ∷ ts) = ⊥
  Marks (w ∷ ws) (t ∷ ts) = (length t.frames ≡ suc (depth w)) × Marks ws ts

  pub record At (marked : List Tier) (alone : Bool) (more : List ℕ) (x : Tiers) (r : Runner W) : Type 0 where
    pub own : own_of r.has ≡ record { space = x.own.space; frames = more ++ x.own.frames }
    pub outer : spaces_in r.has.outer ≡ spaces_of x.round
    pub deep : length (more ++ x.own.frames) ≡ suc (depth r.left)
    pub link : Link x.own.frames x.round
    pub links : Links x.round
    pub marks : Marks (outs r.left) marked
    pub framed : IsFramed next outs depth (length x.round) alone r.left

  -- with a group, or where it waits; and by itself
  abbrev pub InIt : Tiers → Runner W → Type 0
  InIt x r = At x.round false [] x r

  abbrev pub marked_of : ℕ → Tiers → List Tier
  marked_of zero x = []
  marked_of (suc n) x = all_of x

  pub record Alone (n : ℕ) (x : Tiers) (r : Runner W) : Type 0 where
    pub more : List ℕ
    pub at : At (marked_of n x) true more x r
    pub least : within n ≡ false → length x.own.frames ≡ 1

  abbrev pub GoOn : (round : ℕ) (alone : Bool) (op : Operation) (here : W) (rest : Bool → W) → Type 0
  GoOn round alone op here rest = (k : ℕ) → FramesGoOn next outs depth (FramedFor next outs depth k) round alone op here rest

  pub framed_so : (round : ℕ) (alone : Bool) (w : W) (step : Step W) → IsFramed next outs depth round alone w → next w ≡ Some step → GoOn round alone step.operation w step.rest
  framed_so round alone w step f e k = subst (FramedNext next outs depth (FramedFor next outs depth k) round alone w) e (f (suc k))

  goes_same : (round : ℕ) (alone : Bool) (op : Operation) (here : W) (rest : Bool → W) → changes_tree op ≡ false → GoOn round alone op here rest → (onward : Bool)
      → IsFramed next outs depth round alone (rest onward)
  goes_same round alone op here rest e f onward k =
      subst₂ (λ (n : ℕ) (a : Bool). FramedFor next outs depth k n a (rest onward)) (round_same op onward round e) (alone_same op round alone e) ((f k).goes_on onward)

  pub at_kept : (marked : List Tier) (alone : Bool) (more : List ℕ) (x : Tiers) (r : Runner W) → At marked alone more x r
      → (w : W) (p : Processor) → Kept r.has p → depth w ≡ depth r.left → Marks (outs w) marked → IsFramed next outs depth (length x.round) alone w
      → At marked alone more x (record { left = w; has = p })
  at_kept marked alone more x r a w p kept same_depth marks f = record {
    own = kept.own ∙ a.own;
    outer = ap spaces_in kept.outer ∙ a.outer;
    deep = a.deep ∙ ap (λ (n : ℕ). suc n) (sym same_depth);
    link = a.link;
    links = a.links;
    marks = marks;
    framed = f;
  }

  along : (marked : List Tier) (v w : W) → outs w ≡ outs v → Marks (outs v) marked → Marks (outs w) marked
  along marked v w same m = subst (λ (ws : List W). Marks ws marked) (sym same) m

  -- as many as wait where those further out are met, or fewer
  few : (d : ℕ) (ws : List W) (ts : List Tier) (fs : List ℕ) → Marks ws ts → NoDeeper next outs depth d ws → length fs ≡ suc (suc d) → Link fs ts → Link (rest_of fs) ts
  few d ws [] fs m less size link = tt
  few d [] (t ∷ ts) fs m less size link = absurd m
  few d (w ∷ ws) (t ∷ ts) fs m less size link =
      let many = m.0 in
      let found = some_more fs link.0 t.frames link.1 (omega (arith, many, less, size)) in
      (found.1, ap rest_of found.2)

  first_other : (d f : ℕ) (ws : List W) (ts : List Tier) (fs : List ℕ) → Marks ws ts → Higher next outs depth d ws → length fs ≡ suc d → Link fs ts → Link (f ∷ rest_of fs) ts
  first_other d f ws [] fs m less size link = tt
  first_other d f [] (t ∷ ts) fs m less size link = absurd m
  first_other d f (w ∷ ws) (t ∷ ts) fs m less size link =
      let many = m.0 in
      let found = some_more fs link.0 t.frames link.1 (omega (arith, many, less, size)) in
      (f ∷ found.1, ap (λ (gs : List ℕ). f ∷ rest_of gs) found.2)

  more_link : (f : ℕ) (ts : List Tier) (fs : List ℕ) → Link fs ts → Link (f ∷ fs) ts
  more_link f [] fs link = tt
  more_link f (t ∷ ts) fs link = (f ∷ link.0, ap (λ (gs : List ℕ). f ∷ gs) link.1)

  -- with a group
  module _ (x : Tiers) (r : Runner W) (a : InIt x r) where
    abbrev d : ℕ
    d = length x.round

    pub in_local : (set : Setting) (op : Operation) (rest : Bool → W) (onward : Bool) → class_of op ≡ class.Local → GoOn d false op r.left rest → outs (rest onward) ≡ outs r.left
        → (calling op ≡ Leaves → onward ≡ true)
        → InIt (with_own x (local_own op x.own)) (record { left = rest onward; has = local set op r.has })
    in_local set (o.Leave gives framed) rest onward is f same way =
        let calls = (f 0).calls in
        let size : length x.own.frames ≡ suc (suc (depth (rest true))) = a.deep ∙ ap (λ (n : ℕ). suc n) calls.0 in
        let many : 2 ≤ length (own_of r.has).frames = let e = ap (λ (t : Tier). length t.frames) a.own in omega (arith, e, size) in
        let right : rest onward ≡ rest true = ap rest (way refl) in
        record {
          own = leave_makes set gives framed r.has many ∙ ap (λ (t : Tier). local_own (o.Leave gives framed) t) a.own;
          outer = ap spaces_in (leave_outer set gives framed r.has) ∙ a.outer;
          deep = length_rest x.own.frames (depth (rest true)) size ∙ ap (λ (w : W). suc (depth w)) (sym right);
          link = few (depth (rest true)) (outs r.left) x.round x.own.frames a.marks calls.1 size a.link;
          links = a.links;
          marks = subst (λ (ws : List W). Marks ws x.round) (sym same) a.marks;
          framed = goes_same d false (o.Leave gives framed) r.left rest refl f onward;
        }
    in_local set (o.Enter arguments) rest onward is f same way = absurd (cc)
    in_local set op rest onward is f same way =
        at_kept x.round false [] x r a (rest onward) (local set op r.has) (local_keeps set op r.has refl) ((f 0).calls onward) (along x.round r.left (rest onward) same a.marks)
        (goes_same d false op r.left rest (local_plain op class.Local is local_not_tree) f onward)

    pub in_request : (v : ℕ) (op : Operation) (rest : Bool → W) → class_of op ≡ class.Request → GoOn d false op r.left rest → outs (rest true) ≡ outs r.left
        → InIt (with_own x (request_own op x.own)) (record { left = rest true; has = with_answer op v r.has })
    in_request v (o.Enter arguments) rest is f same = record {
      own = ap (λ (t : Tier). request_own (o.Enter arguments) t) a.own;
      outer = a.outer;
      deep = ap (λ (n : ℕ). suc n) (a.deep ∙ sym (f 0).calls);
      link = more_link 0 x.round x.own.frames a.link;
      links = a.links;
      marks = subst (λ (ws : List W). Marks ws x.round) (sym same) a.marks;
      framed = goes_same d false (o.Enter arguments) r.left rest refl f true;
    }
    in_request v (o.Leave gives framed) rest is f same = absurd (cc)
    in_request v op rest is f same =
        at_kept x.round false [] x r a (rest true) (with_answer op v r.has) (answer_keeps op v r.has refl) ((f 0).calls true) (along x.round r.left (rest true) same a.marks)
        (goes_same d false op r.left rest (local_plain op class.Request is request_not_tree) f true)

    -- a step of the tree that leaves it as it is, by those whose last value is known where it matters
    abbrev Taken : (op : Operation) (t : Tier) (w : W) → Type 0
    Taken op t w = (length t.frames ≡ suc (depth w)) × Link t.frames x.round

    takes_own : (op : Operation) (value : ℕ) (rest : Bool → W) → class_of op ≡ class.Tree → GoOn d false op r.left rest → Taken op (plain_own op value x.own) (rest true)
    takes_own (o.Frame nesting words) value rest is f = by nesting (f 0).own ((f 0).calls true) (frame x.own.space words)
      where
        by : (nesting' : ℕ) → (is_own_frame (o.Frame nesting' words) ≡ true → Higher next outs depth (depth r.left) (outs r.left)) → depth (rest true) ≡ depth r.left → (o' : Option Space)
            → Taken (o.Frame nesting' words) (with_frame nesting' x.own o') (rest true)
        by nesting' own same None = (a.deep ∙ ap (λ (n : ℕ). suc n) (sym same), a.link)
        by zero own same (Some s) = (
          length_put x.own.space.frames x.own.frames (depth r.left) a.deep ∙ ap (λ (n : ℕ). suc n) (sym same),
          first_other (depth r.left) x.own.space.frames (outs r.left) x.round x.own.frames a.marks (own refl) a.deep a.link,
        )
        by (suc nesting') own same (Some s) = (a.deep ∙ ap (λ (n : ℕ). suc n) (sym same), a.link)
    takes_own o.Block value rest is f =
        let same = with_words_frames (words_of value) x.own in (
          ap length same ∙ a.deep ∙ ap (λ (n : ℕ). suc n) (sym ((f 0).calls true)),
          subst (λ (fs : List ℕ). Link fs x.round) (sym same) a.link,
        )
    takes_own (o.Enter arguments) value rest is f = absurd (cc)
    takes_own (o.Leave gives framed) value rest is f = absurd (cc)
    takes_own op value rest is f = (a.deep ∙ ap (λ (n : ℕ). suc n) (sym ((f 0).calls true)), a.link)

    pub in_plain : (op : Operation) (value highest size : ℕ) (rest : Bool → W) → class_of op ≡ class.Tree → changes_tree op ≡ false → GoOn d false op r.left rest → outs (rest true) ≡ outs r.left
        → plain_own op value x.own ≡ plain_own op (last (values r.has)) x.own
        → InIt (with_own x (plain_own op value x.own)) (record { left = rest true; has = does op highest size r.has })
    in_plain op value highest size rest is quiet f same known =
        let made = plain_makes op highest size r.has quiet in
        let taken = takes_own op value rest is f in
        record {
          own = made.own ∙ ap (λ (t : Tier). plain_own op (last (values r.has)) t) a.own ∙ sym known;
          outer = ap spaces_in made.outer ∙ a.outer;
          deep = taken.0;
          link = taken.1;
          links = a.links;
          marks = subst (λ (ws : List W). Marks ws x.round) (sym same) a.marks;
          framed = goes_same d false op r.left rest quiet f true;
        }

  -- by itself
  module _ (n : ℕ) (x : Tiers) (r : Runner W) (a : Alone n x r) where
    abbrev dl : ℕ
    dl = length x.round

    alone_kept : (w : W) (p : Processor) → Kept r.has p → depth w ≡ depth r.left → Marks (outs w) (marked_of n x) → IsFramed next outs depth dl true w → Alone n x (record { left = w; has = p })
    alone_kept w p kept same_depth marks f = record {
      more = a.more;
      at = at_kept (marked_of n x) true a.more x r a.at w p kept same_depth marks f;
      least = a.least;
    }

    short : (m : ℕ) (d : ℕ) (ws : List W) → (within m ≡ false → length x.own.frames ≡ 1) → Marks ws (marked_of m x) → NoDeeper next outs depth d ws → length x.own.frames ≤ suc d
    short zero d ws least m less = let one = least refl in omega (arith, one)
    short (suc k) d [] least m less = absurd m
    short (suc k) d (w ∷ ws) least m less = let many = m.0 in omega (arith, many, less)

    pub alone_local : (set : Setting) (op : Operation) (rest : Bool → W) (onward : Bool) → class_of op ≡ class.Local → GoOn dl true op r.left rest → outs (rest onward) ≡ outs r.left
        → (calling op ≡ Leaves → onward ≡ true)
        → Alone n x (record { left = rest onward; has = local set op r.has })
    alone_local set (o.Leave gives true) rest onward is f same way = absurd (true≢false ((f 0).in_group refl))
    alone_local set (o.Leave gives false) rest onward is f same way =
        let calls = (f 0).calls in
        let right : rest onward ≡ rest true = ap rest (way refl) in
        let size : length (a.more ++ x.own.frames) ≡ suc (suc (depth (rest true))) = a.at.deep ∙ ap (λ (k : ℕ). suc k) calls.0 in
        let less = short n (depth (rest true)) (outs r.left) a.least a.at.marks calls.1 in
        let found = some_more (a.more ++ x.own.frames) a.more x.own.frames refl (omega (arith, size, less)) in
        let many : 2 ≤ length (own_of r.has).frames = let e = ap (λ (t : Tier). length t.frames) a.at.own in omega (arith, e, size) in
        let new : rest_of (a.more ++ x.own.frames) ≡ found.1 ++ x.own.frames = ap rest_of found.2 in
        record {
          more = found.1;
          at = record {
            own = leave_makes set gives false r.has many ∙ ap (λ (t : Tier). local_own (o.Leave gives false) t) a.at.own
                ∙ ap (λ (fs : List ℕ). let t : Tier = record { space = x.own.space; frames = fs } in t) new;
            outer = ap spaces_in (leave_outer set gives false r.has) ∙ a.at.outer;
            deep = ap length (sym new) ∙ length_rest (a.more ++ x.own.frames) (depth (rest true)) size ∙ ap (λ (w : W). suc (depth w)) (sym right);
            link = a.at.link;
            links = a.at.links;
            marks = subst (λ (ws : List W). Marks ws (marked_of n x)) (sym same) a.at.marks;
            framed = goes_same dl true (o.Leave gives false) r.left rest refl f onward;
          };
          least = a.least;
        }
    alone_local set (o.Enter arguments) rest onward is f same way = absurd (cc)
    alone_local set op rest onward is f same way =
        alone_kept (rest onward) (local set op r.has) (local_keeps set op r.has refl) ((f 0).calls onward) (along (marked_of n x) r.left (rest onward) same a.at.marks)
        (goes_same dl true op r.left rest (local_plain op class.Local is local_not_tree) f onward)

    pub alone_request : (v : ℕ) (op : Operation) (rest : Bool → W) → class_of op ≡ class.Request → GoOn dl true op r.left rest → outs (rest true) ≡ outs r.left
        → Alone n x (record { left = rest true; has = with_answer op v r.has })
    alone_request v (o.Enter arguments) rest is f same = record {
      more = 0 ∷ a.more;
      at = record {
        own = ap (λ (t : Tier). request_own (o.Enter arguments) t) a.at.own;
        outer = a.at.outer;
        deep = ap (λ (k : ℕ). suc k) (a.at.deep ∙ sym (f 0).calls);
        link = a.at.link;
        links = a.at.links;
        marks = subst (λ (ws : List W). Marks ws (marked_of n x)) (sym same) a.at.marks;
        framed = goes_same dl true (o.Enter arguments) r.left rest refl f true;
      };
      least = a.least;
    }
    alone_request v (o.Leave gives framed) rest is f same = absurd (cc)
    alone_request v op rest is f same =
        alone_kept (rest true) (with_answer op v r.has) (answer_keeps op v r.has refl) ((f 0).calls true) (along (marked_of n x) r.left (rest true) same a.at.marks)
        (goes_same dl true op r.left rest (local_plain op class.Request is request_not_tree) f true)

    -- it takes no words
    no_space : (b : Bool) → (b ≡ true → false ≡ true) → b ≡ false
    no_space true e = untrue (e refl)
    no_space false e = refl

    remains : (op : Operation) → class_of op ≡ class.Tree → calling op ≡ Remains
    remains (o.Enter arguments) is = absurd (cc)
    remains (o.Leave gives framed) is = absurd (cc)
    remains op is = refl

    pub alone_plain : (op : Operation) (highest size : ℕ) (rest : Bool → W) (w : W) → class_of op ≡ class.Tree → changes_tree op ≡ false → GoOn dl true op r.left rest → w ≡ rest true
        → Marks (outs (rest true)) (marked_of n x)
        → Alone n x (record { left = w; has = does op highest size r.has })
    alone_plain op highest size rest w is quiet f e marks =
        let calls : Calls next outs depth Remains r.left rest = subst (λ (c : Calling). Calls next outs depth c r.left rest) (remains op is) (f 0).calls in
        subst (λ (v : W). Alone n x (record { left = v; has = does op highest size r.has })) (sym e)
        (alone_kept (rest true) (does op highest size r.has) (plain_keeps op highest size r.has quiet (no_space (takes_space op) (λ t. sym ((f 0).in_group t)))) (calls true) marks
        (goes_same dl true op r.left rest quiet f true))
