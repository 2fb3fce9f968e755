-- What the steps of the tree that change it make of what one processor has.
use Rattle.std.proofs.Common.{◌≡◌, ◌≢◌, ℕ, zero, suc, ◌==◌, Bool, true, false, true≢false, List, [], ◌∷◌, ◌++◌, length, Option, Some, None, refl, sym, ap, ap₂, ◌∙◌, subst, subst₂, if◌then◌else◌}
use Rattle.fk_space.specs.Space.{Space, child}
use Rattle.fk_meaning_operation.specs.declared.operation.Operation.{Operation}
use Rattle.fk_meaning_operation.specs.declared.operation.Operation.TheVariants as o
use Rattle.fk_meaning_operation.specs.declared.operation.SplitKind.{SplitKind}
use Rattle.fk_meaning_operation.specs.declared.operation.SplitKind.TheVariants as split_by
use Rattle.fk_meaning.specs.Processor.{Level, Processor, values, last, drop_last, enter_level, to_outer, leave_level}
use Rattle.fk_meaning.specs.Group.{parts, part, enters, divided, start_level, with_size}
use Rattle.fk_meaning.specs.Round.{Step, Runner}
use Rattle.fk_lockstep.proofs.Acting.{untrue, within}
use Rattle.fk_lockstep.specs.Frames.{round_after, alone_after, one_less, is_none_round, FramedFor, IsFramed}
use Rattle.fk_lockstep.proofs.Tiers.{Tier, own_of, spaces_in}
use Rattle.fk_lockstep.proofs.Stands.{Tiers, all_of, spaces_of, Link, Links, no_more, Marks, At, InIt, Alone, GoOn}

abbrev pub part_of : Tiers → (k j : ℕ) → Tiers
part_of x k j = record { own = record { space = child x.own.space k j; frames = x.own.frames }; round = all_of x }

abbrev pub start_of : Tiers → Tiers
start_of x = record { own = x.own; round = all_of x }

-- who leaves a group has the level round it
leave_own : (p : Processor) (s : Space) (ss : List Space) → spaces_in p.outer ≡ s ∷ ss → own_of (leave_level p) ≡ record { space = s; frames = (own_of p).frames }
leave_own p s ss e = by p.outer e
  where
    by : (ls : List Level) → spaces_in ls ≡ s ∷ ss → own_of (to_outer p ls) ≡ record { space = s; frames = (own_of p).frames }
    by [] e' = absurd (cc)
    by (l ∷ ls) e' = let same : l.space ≡ s = cc in ap (λ (u : Space). let t : Tier = record { space = u; frames = (own_of p).frames } in t) same

leave_outer : (p : Processor) (s : Space) (ss : List Space) → spaces_in p.outer ≡ s ∷ ss → spaces_in (leave_level p).outer ≡ ss
leave_outer p s ss e = by p.outer e
  where
    by : (ls : List Level) → spaces_in ls ≡ s ∷ ss → spaces_in (to_outer p ls).outer ≡ ss
    by [] e' = absurd (cc)
    by (l ∷ ls) e' = cc

pub never_none : {A : Type 0} (b : Bool) → ◌≡◌ {A = Option ℕ} (if b then Some 1 else Some 0) None → A
never_none true e = absurd (cc)
never_none false e = absurd (cc)

-- who enters no part stays in its group
round_aside : (by : SplitKind) (vs : List ℕ) (n : ℕ) → part by vs ≡ None → round_after (o.Split by) (enters by None) n ≡ n
round_aside split_by.IfElse vs n e = never_none (last vs == 0) e
round_aside split_by.IfAlone vs n e = refl
round_aside split_by.AndThen vs n e = refl
round_aside split_by.OrElse vs n e = refl
round_aside split_by.Loop vs n e = refl
round_aside split_by.Fork vs n e = refl

round_in : (by : SplitKind) (j n : ℕ) → round_after (o.Split by) (enters by (Some j)) n ≡ suc n
round_in split_by.IfElse j n = refl
round_in split_by.IfAlone j n = refl
round_in split_by.AndThen j n = refl
round_in split_by.OrElse j n = refl
round_in split_by.Loop j n = refl
round_in split_by.Fork j n = refl

none_frames : (p : Processor) (by : SplitKind) (size : ℕ) → own_of (divided by size p None) ≡ own_of p
none_frames p by size = refl

module _ {W : Type 0} (next : W → Option (Step W)) (outs : W → List W) (depth : W → ℕ) where
  -- what one has by name
  abbrev Goes : (round : ℕ) (alone : Bool) (op : Operation) (here : W) (rest : Bool → W) → Type 0
  Goes round alone op here rest = GoOn next outs depth round alone op here rest

  goes_to : (round : ℕ) (alone : Bool) (op : Operation) (here : W) (rest : Bool → W) → Goes round alone op here rest → (onward : Bool) (n : ℕ) (b : Bool)
      → round_after op onward round ≡ n → alone_after op round alone ≡ b → IsFramed next outs depth n b (rest onward)
  goes_to round alone op here rest f onward n b e e' k = subst₂ (λ (m : ℕ) (c : Bool). FramedFor next outs depth k m c (rest onward)) e e' ((f k).goes_on onward)

  named : (marked : List Tier) (alone : Bool) (more : List ℕ) (x : Tiers) (r : Runner W) (w : W) (p : Processor) → r.left ≡ w → r.has ≡ p
      → At next outs depth marked alone more x (record { left = w; has = p }) → At next outs depth marked alone more x r
  named marked alone more x r w p e e' a = subst₂ (λ (w' : W) (p' : Processor). At next outs depth marked alone more x (record { left = w'; has = p' })) (sym e) (sym e') a

  module _ (x : Tiers) (r : Runner W) (a : InIt next outs depth x r) (rest : Bool → W) where
    abbrev n : ℕ
    n = length x.round

    -- it enters a part
    pub enters_part : (by : SplitKind) → Goes n false (o.Split by) r.left rest → (parent : W) (j size k : ℕ) → outs (rest (enters by (Some j))) ≡ parent ∷ outs r.left → depth parent ≡ depth r.left
        → parts by (values r.has) ≡ k → (r' : Runner W) → r'.left ≡ rest (enters by (Some j)) → r'.has ≡ divided by size r.has (Some j)
        → InIt next outs depth (part_of x k j) r'
    enters_part by f parent j size k inside met many r' left has =
        named (all_of x) false [] (part_of x k j) r' (rest (enters by (Some j))) (divided by size r.has (Some j)) left has
        (record {
          own = ap₂ (λ (t : Tier) (k' : ℕ). let u : Tier = record { space = child t.space k' j; frames = t.frames } in u) a.own many;
          outer = ap₂ (λ (s : Space) (ss : List Space). s ∷ ss) (ap (λ (t : Tier). t.space) a.own) a.outer;
          deep = a.deep ∙ ap (λ (m : ℕ). suc m) (sym ((f 0).calls (enters by (Some j))));
          link = ([], refl);
          links = (a.link, a.links);
          marks = subst (λ (ws : List W). Marks next outs depth ws (all_of x)) (sym inside) (a.deep ∙ ap (λ (m : ℕ). suc m) (sym met), a.marks);
          framed = goes_to n false (o.Split by) r.left rest f (enters by (Some j)) (suc n) false (round_in by j n) refl;
        })

    -- it enters none
    pub enters_none : (by : SplitKind) → Goes n false (o.Split by) r.left rest → (size : ℕ) (vs : List ℕ) → part by vs ≡ None → outs (rest (enters by None)) ≡ outs r.left
        → (r' : Runner W) → r'.left ≡ rest (enters by None) → r'.has ≡ divided by size r.has None
        → InIt next outs depth x r'
    enters_none by f size vs none same r' left has =
        named x.round false [] x r' (rest (enters by None)) (divided by size r.has None) left has
        (record {
          own = a.own;
          outer = a.outer;
          deep = a.deep ∙ ap (λ (m : ℕ). suc m) (sym ((f 0).calls (enters by None)));
          link = a.link;
          links = a.links;
          marks = subst (λ (ws : List W). Marks next outs depth ws x.round) (sym same) a.marks;
          framed = goes_to n false (o.Split by) r.left rest f (enters by None) n false (round_aside by vs n none) refl;
        })

    -- it stays in a loop
    pub stays_in : Goes n false o.Shrink r.left rest → (size : ℕ) → outs (rest true) ≡ outs r.left
        → (r' : Runner W) → r'.left ≡ rest true → r'.has ≡ with_size size (drop_last 1 r.has)
        → InIt next outs depth x r'
    stays_in f size same r' left has =
        named x.round false [] x r' (rest true) (with_size size (drop_last 1 r.has)) left has
        (record {
          own = a.own;
          outer = a.outer;
          deep = a.deep ∙ ap (λ (m : ℕ). suc m) (sym ((f 0).calls true));
          link = a.link;
          links = a.links;
          marks = subst (λ (ws : List W). Marks next outs depth ws x.round) (sym same) a.marks;
          framed = goes_to n false o.Shrink r.left rest f true n false refl refl;
        })

    -- it leaves its part
    pub leaves_part : (w : W) (up : Tiers) (q : Processor) → x.round ≡ all_of up → outs r.left ≡ w ∷ outs w → depth w ≡ depth r.left → IsFramed next outs depth (one_less n) false w
        → own_of q ≡ own_of r.has → q.outer ≡ r.has.outer
        → (r' : Runner W) → r'.left ≡ w → r'.has ≡ leave_level q
        → InIt next outs depth up r'
    leaves_part w up q whole met same f own_q outer_q r' left has =
        let outer : spaces_in q.outer ≡ up.own.space ∷ spaces_of up.round = ap spaces_in outer_q ∙ a.outer ∙ ap spaces_of whole in
        let link : Link x.own.frames (all_of up) = subst (Link x.own.frames) whole a.link in
        let links : Links (all_of up) = subst Links whole a.links in
        let marks : Marks next outs depth (w ∷ outs w) (all_of up) = subst₂ (λ (ws : List W) (ts : List Tier). Marks next outs depth ws ts) met whole a.marks in
        let size : length (link.0 ++ up.own.frames) ≡ length up.own.frames = ap length (sym link.1) ∙ a.deep ∙ ap (λ (m : ℕ). suc m) (sym same) ∙ sym marks.0 in
        let frames : x.own.frames ≡ up.own.frames = link.1 ∙ ap (λ (ms : List ℕ). ms ++ up.own.frames) (no_more link.0 up.own.frames size) in
        named up.round false [] up r' w (leave_level q) left has
        (record {
          own = leave_own q up.own.space (spaces_of up.round) outer
              ∙ ap (λ (fs : List ℕ). let t : Tier = record { space = up.own.space; frames = fs } in t) (ap (λ (t : Tier). t.frames) (own_q ∙ a.own) ∙ frames);
          outer = leave_outer q up.own.space (spaces_of up.round) outer;
          deep = marks.0;
          link = links.0;
          links = links.1;
          marks = marks.1;
          framed = subst (λ (m : ℕ). IsFramed next outs depth m false w) (ap (λ (ts : List Tier). one_less (length ts)) whole) f;
        })

    -- it goes into a body
    pub opens_body : (op : Operation) (m : ℕ) → m ≢ 0 → (onward : Bool) (w : W) → outs (rest onward) ≡ w ∷ outs r.left → depth w ≡ depth r.left → depth (rest onward) ≡ depth r.left
        → IsFramed next outs depth n true (rest onward)
        → (r' : Runner W) → r'.left ≡ rest onward → r'.has ≡ r.has
        → Alone next outs depth m x r'
    opens_body op zero ne onward w inside met same f r' left has = absurd (ne refl)
    opens_body op (suc m) ne onward w inside met same f r' left has = record {
      more = [];
      at = named (all_of x) true [] x r' (rest onward) r.has left has
          (record {
            own = a.own;
            outer = a.outer;
            deep = a.deep ∙ ap (λ (k : ℕ). suc k) (sym same);
            link = a.link;
            links = a.links;
            marks = subst (λ (ws : List W). Marks next outs depth ws (all_of x)) (sym inside) (a.deep ∙ ap (λ (k : ℕ). suc k) (sym met), a.marks);
            framed = f;
          });
      least = λ e. absurd (true≢false e);
    }

    -- it goes on where it waited
    pub resumes_in : (alone : Bool) → is_none_round n ≡ alone → Goes n false o.Resume r.left rest → outs (rest true) ≡ outs r.left
        → (r' : Runner W) → r'.left ≡ rest true → r'.has ≡ r.has
        → At next outs depth x.round alone [] x r'
    resumes_in alone is f same r' left has =
        named x.round alone [] x r' (rest true) r.has left has
        (record {
          own = a.own;
          outer = a.outer;
          deep = a.deep ∙ ap (λ (k : ℕ). suc k) (sym ((f 0).calls true));
          link = a.link;
          links = a.links;
          marks = subst (λ (ws : List W). Marks next outs depth ws x.round) (sym same) a.marks;
          framed = goes_to n false o.Resume r.left rest f true n alone refl is;
        })

  -- it meets the others at the end of a body
  pub meets_in : (m : ℕ) (x : Tiers) (r : Runner W) → Alone next outs depth m x r → (rest : Bool → W) → within m ≡ true → Goes (length x.round) true (o.Meet true) r.left rest
      → outs r.left ≡ r.left ∷ outs (rest true)
      → (r' : Runner W) → r'.left ≡ rest true → r'.has ≡ r.has
      → InIt next outs depth x r'
  meets_in zero x r a rest inner f met r' left has = untrue inner
  meets_in (suc m) x r a rest inner f met r' left has =
      let marks : Marks next outs depth (r.left ∷ outs (rest true)) (all_of x) = subst (λ (ws : List W). Marks next outs depth ws (all_of x)) met a.at.marks in
      let none : a.more ≡ [] = no_more a.more x.own.frames (a.at.deep ∙ sym marks.0) in
      named x.round false [] x r' (rest true) r.has left has
      (record {
        own = a.at.own ∙ ap (λ (ms : List ℕ). let t : Tier = record { space = x.own.space; frames = ms ++ x.own.frames } in t) none;
        outer = a.at.outer;
        deep = marks.0 ∙ ap (λ (k : ℕ). suc k) (sym ((f 0).calls true));
        link = a.at.link;
        links = a.at.links;
        marks = marks.1;
        framed = goes_to (length x.round) true (o.Meet true) r.left rest f true (length x.round) false refl refl;
      })

  -- it begins a group, or waits for it
  module _ (x : Tiers) (r : Runner W) (a : Alone next outs depth 0 x r) (rest : Bool → W) (f : Goes (length x.round) true o.Begin r.left rest) (outermost : x.round ≡ []) where
    abbrev zero_deep : depth r.left ≡ 0
    zero_deep = (f 0).outermost refl

    one : length x.own.frames ≡ 1
    one = a.least refl

    none : a.more ≡ []
    none = no_more a.more x.own.frames (a.at.deep ∙ ap (λ (k : ℕ). suc k) zero_deep ∙ sym one)

    own_is : own_of r.has ≡ x.own
    own_is = a.at.own ∙ ap (λ (ms : List ℕ). let t : Tier = record { space = x.own.space; frames = ms ++ x.own.frames } in t) none

    deep_is : (onward : Bool) → length x.own.frames ≡ suc (depth (rest onward))
    deep_is onward = one ∙ ap (λ (k : ℕ). suc k) (sym ((f 0).calls onward ∙ zero_deep))

    no_marks : (ts : List Tier) → ts ≡ [] → (ws : List W) → Marks next outs depth ws ts
    no_marks [] e ws = tt
    no_marks (t ∷ ts) e ws = absurd (cc)

    pub starts_in : (size : ℕ) → outs (rest true) ≡ rest false ∷ outs (rest false)
        → (r' : Runner W) → r'.left ≡ rest true → r'.has ≡ enter_level (start_level r.has size) (drop_last 1 r.has)
        → InIt next outs depth (start_of x) r'
    starts_in size inside r' left has =
        named (all_of x) false [] (start_of x) r' (rest true) (enter_level (start_level r.has size) (drop_last 1 r.has)) left has
        (record {
          own = own_is;
          outer = ap₂ (λ (s : Space) (ss : List Space). s ∷ ss) (ap (λ (t : Tier). t.space) own_is) a.at.outer;
          deep = deep_is true;
          link = ([], refl);
          links = (a.at.link, a.at.links);
          marks = subst (λ (ws : List W). Marks next outs depth ws (all_of x)) (sym inside) (deep_is false, no_marks x.round outermost (outs (rest false)));
          framed = goes_to (length x.round) true o.Begin r.left rest f true (suc (length x.round)) false refl refl;
        })

    pub starts_out : (r' : Runner W) → r'.left ≡ rest false → r'.has ≡ drop_last 1 r.has → InIt next outs depth x r'
    starts_out r' left has =
        named x.round false [] x r' (rest false) (drop_last 1 r.has) left has
        (record {
          own = own_is;
          outer = a.at.outer;
          deep = deep_is false;
          link = a.at.link;
          links = a.at.links;
          marks = no_marks x.round outermost (outs (rest false));
          framed = goes_to (length x.round) true o.Begin r.left rest f false (length x.round) false refl refl;
        })
