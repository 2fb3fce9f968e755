-- The law of one space, round after round.
use Rattle.std.proofs.Common.{◌≡◌, ◌≢◌, ⊎_elim, inr, ℕ, zero, suc, ◌+◌, ◌<◌, ◌≤◌, Bool, true, false, List, [], ◌∷◌, length, map, slice_get, Option, Some, None, refl, sym, ap, ◌∙◌, subst, arith}
use Rattle.fk_num.specs.Word.{Memory}
use Rattle.fk_tree.specs.declared.node.Kind.{Kind}
use Rattle.fk_tree.specs.declared.node.Kind.TheVariants.{Lockstep, Waiting, Asynchronous}
use Rattle.fk_tree.specs.Tree as t
use Rattle.fk_tree.specs.Tree.{Tree, members, kind, root}
use Rattle.fk_tree.specs.Sound.{Has}
use Rattle.fk_tree.proofs.RootSound.{root_sound}
use Rattle.fk_tree.proofs.Turns.{leaf_by, idle-lockstep}
use Rattle.fk_meaning.specs.Processor.{Level, Processor, Setting, setting_of, group_space}
use Rattle.fk_meaning.specs.Round.{Step, Runner, State, Round, result, is_possible}
use Rattle.fk_meaning.specs.Schedule.{Schedule, beginners, opening, run, ArePossible}
use Rattle.fk_lockstep.specs.Together.{SameLevels}
use Rattle.fk_lockstep.specs.Counts.{Counts, ArePending, IsCounted}
use Rattle.fk_lockstep.specs.Course.{ByItself, Follows}
use Rattle.fk_lockstep.specs.OneProgram.{groups_of, KeepOneProgram}
use Rattle.fk_lockstep.proofs.Acting.{Here, Out, told, bare, lefts_bare, Is, without, Grouped, Parted, Apart}
use Rattle.fk_lockstep.proofs.Trees.{NodeIs, IsThere, ThereAt, Inv, inv_same, leaf_place}
use Rattle.fk_lockstep.proofs.Round.{first_is, at_below, Ordered}
use Rattle.fk_lockstep.proofs.Changes.{ends_none, mids}
use Rattle.fk_lockstep.proofs.Settled.{after as after_of, result_is, many_after, same_has, numbers_after}
use Rattle.fk_lockstep.proofs.ProgramRuns as together
use Rattle.fk_lockstep.specs.Frames.{IsFramed}
use Rattle.fk_lockstep.specs.OneSpace.{HaveSameLevels, spaces_of, MembersHaveOneSpace, WaitersHaveOneSpace, NodesHaveOneSpace, GroupsHaveOneSpace}
use Rattle.fk_lockstep.proofs.Tiers.{Tier, own_of, spaces_in}
use Rattle.fk_lockstep.proofs.Stands.{Tiers, all_of, spaces_of as spaces_by, At, InIt, marked_of}
use Rattle.fk_lockstep.proofs.Quiet.{Ordinary, Outer, Single}
use Rattle.fk_lockstep.proofs.Changed.{Tiered, last_tiered}

-- numbers, sizes and spaces are all that levels have, but `$`
first_same : {A : Type 0} {x y : A} {xs ys : List A} → x ∷ xs ≡ y ∷ ys → x ≡ y
first_same e = cc

rest_same : {A : Type 0} {x y : A} {xs ys : List A} → x ∷ xs ≡ y ∷ ys → xs ≡ ys
rest_same e = cc

cons_same : {A : Type 0} {x y : A} {xs ys : List A} → x ≡ y → xs ≡ ys → x ∷ xs ≡ y ∷ ys
cons_same e f = cc

abbrev groups_in : List Level → List (ℕ × ℕ)
groups_in ls = map (λ l. (l.number, l.size)) ls

levels_same : (ls ms : List Level) → groups_in ls ≡ groups_in ms → spaces_in ls ≡ spaces_in ms → SameLevels ls ms
levels_same [] [] e f = tt
levels_same [] (m ∷ ms) e f = absurd (cc)
levels_same (l ∷ ls) [] e f = absurd (cc)
levels_same (l ∷ ls) (m ∷ ms) e f =
    let same : (l.number, l.size) ≡ (m.number, m.size) = first_same e in (
      record { number = ap (λ (a : ℕ × ℕ). a.0) same; size = ap (λ (a : ℕ × ℕ). a.1) same; space = first_same f },
      levels_same ls ms (rest_same e) (rest_same f),
    )

module _ {W : Type 0} (next : W → Option (Step W)) (outs : W → List W) (counts : Counts W) (depth : W → ℕ) (set : Setting) where
  abbrev Sound : (p : ℕ) → State W → (here : ℕ → Here W) (behind : ℕ → List (Out W)) → Type 0
  Sound p s here behind = Inv (told {W = W}) (Grouped next outs counts) (Parted next outs counts) (Apart next outs counts) (Is next outs counts) p s.tree (λ h. slice_get s.runners h) here behind

  abbrev Levels : (p : ℕ) → Tree → (has : ℕ → Option (Runner W)) (keeps : ℕ → Tiers) (round_it : ℕ → List (List Tier)) → Type 0
  Levels p tree has keeps round_it =
      Inv all_of (Ordinary next outs counts depth set) (Outer next outs counts depth set) (Single next outs counts depth set) (InIt next outs depth) p tree has keeps round_it

  record Good (p : ℕ) (s : State W) : Type 0 where
    here : ℕ → Here W
    behind : ℕ → List (Out W)
    inv : Sound p s here behind
    many : length s.runners ≡ p
    numbers : (h : ℕ) (r : Runner W) → slice_get s.runners h ≡ Some r → r.has.number ≡ h
    keeps : ℕ → Tiers
    round_it : ℕ → List (List Tier)
    levels : Levels p s.tree (λ h. slice_get s.runners h) keeps round_it

  -- two who have what their node keeps
  both_same : (x : Tiers) (r q : Runner W) → InIt next outs depth x r → InIt next outs depth x q → groups_of r.has ≡ groups_of q.has → HaveSameLevels r.has q.has
  both_same x r q a b e =
      let own : own_of r.has ≡ own_of q.has = a.own ∙ sym b.own in
      levels_same (r.has.level ∷ r.has.outer) (q.has.level ∷ q.has.outer) e
      (cons_same (ap (λ (u : Tier). u.space) own) (a.outer ∙ sym b.outer))

  good_members : (p : ℕ) (s : State W) → Good p s → KeepOneProgram next p s → MembersHaveOneSpace s
  good_members p s good one n g h r q locked in_g in_h r_is q_is =
      let inv = good.inv in
      let leaf = leaf_by p n Lockstep s.tree inv.sound idle-lockstep locked in
      let is_there : (k : ℕ) → Has s.tree n k → (u : Runner W) → slice_get s.runners k ≡ Some u → InIt next outs depth (good.keeps n) u
      = λ k in_k u u_is.
      let place = leaf_place (told {W = W}) (Grouped next outs counts) (Parted next outs counts) (Apart next outs counts) (Is next outs counts) p s.tree (λ j. slice_get s.runners j) good.here good.behind inv n leaf k in_k in
      subst (λ (o' : Option Kind). IsThere all_of (Ordinary next outs counts depth set) (Outer next outs counts depth set) (Single next outs counts depth set) (InIt next outs depth) p n o' (good.round_it n) (good.keeps n) u) locked
      (subst (λ (m : ℕ). ThereAt all_of (Ordinary next outs counts depth set) (Outer next outs counts depth set) (Single next outs counts depth set) (InIt next outs depth) p s.tree good.keeps good.round_it m u) place
      (good.levels.there k u (inv.sound.within n k in_k) u_is)) in
      both_same (good.keeps n) r q (is_there g in_g r r_is) (is_there h in_h q q_is) (one.members n g h r q locked in_g in_h r_is q_is).groups

  good_waiters : (p : ℕ) (s : State W) → Good p s → KeepOneProgram next p s → WaitersHaveOneSpace s
  good_waiters p s good one g h first parts r q same waits r_is q_is =
      let is_there : (k : ℕ) → s.tree.places g ≡ s.tree.places k → (u : Runner W) → slice_get s.runners k ≡ Some u → InIt next outs depth (good.keeps (s.tree.places g)) u
      = λ k place u u_is.
      let size = good.many in
      let lt = at_below s.runners k u u_is in
      let lt' : k < p = omega (arith, size, lt) in
      subst (λ (o' : Option Kind). IsThere all_of (Ordinary next outs counts depth set) (Outer next outs counts depth set) (Single next outs counts depth set) (InIt next outs depth) p (s.tree.places g) o' (good.round_it (s.tree.places g)) (good.keeps (s.tree.places g)) u) waits
      (subst (λ (m : ℕ). ThereAt all_of (Ordinary next outs counts depth set) (Outer next outs counts depth set) (Single next outs counts depth set) (InIt next outs depth) p s.tree good.keeps good.round_it m u) (sym place)
      (good.levels.there k u lt' u_is)) in
      both_same (good.keeps (s.tree.places g)) r q (is_there g refl r r_is) (is_there h same q q_is) (one.waiters g h first parts r q same waits r_is q_is).1

  -- all who are at one node
  at_spaces : (marked : List Tier) (alone : Bool) (more : List ℕ) (x : Tiers) (r : Runner W) → At next outs depth marked alone more x r → spaces_of r.has ≡ spaces_by (all_of x)
  at_spaces marked alone more x r a = cons_same (ap (λ (u : Tier). u.space) a.own) a.outer

  there_spaces : (p n : ℕ) (k : Option Kind) (b : List (List Tier)) (x : Tiers) (r : Runner W)
      → IsThere all_of (Ordinary next outs counts depth set) (Outer next outs counts depth set) (Single next outs counts depth set) (InIt next outs depth) p n k b x r
      → spaces_of r.has ≡ spaces_by (all_of x)
  there_spaces p n None b x r a = at_spaces x.round false [] x r a
  there_spaces p n (Some Lockstep) b x r a = at_spaces x.round false [] x r a
  there_spaces p n (Some (Waiting first parts)) b x r a = at_spaces x.round false [] x r a
  there_spaces p n (Some (Asynchronous alone)) b x r a = at_spaces (marked_of next outs depth n x) true a.1.more x r a.1.at

  good_nodes : (p : ℕ) (s : State W) → Good p s → NodesHaveOneSpace s
  good_nodes p s good g h r q same r_is q_is =
      let spaces : (k : ℕ) (u : Runner W) → slice_get s.runners k ≡ Some u → spaces_of u.has ≡ spaces_by (all_of (good.keeps (s.tree.places k)))
      = λ k u u_is.
      let size = good.many in
      let lt = at_below s.runners k u u_is in
      let lt' : k < p = omega (arith, size, lt) in
      let n = s.tree.places k in
      there_spaces p n (kind s.tree n) (good.round_it n) (good.keeps n) u (good.levels.there k u lt' u_is) in
      spaces g r r_is ∙ ap (λ (n : ℕ). spaces_by (all_of (good.keeps n))) same ∙ sym (spaces h q q_is)

  module _ (round : Round) (s : State W) (p : ℕ) (good : Good p s) (possible : is_possible next set round s ≡ true) where
    ordered : Ordered next outs counts set round s p
    ordered = record { many = good.many; numbers = good.numbers }

    abbrev after : State W
    after = after_of next outs counts set round s p good.here good.behind good.inv ordered possible

    same : (h : ℕ) → h < p → slice_get after.runners h ≡ mids next outs counts set round s p good.here good.behind good.inv ordered possible p h
    same = same_has next outs counts set round s p good.here good.behind good.inv ordered possible

    last : Tiered next outs counts depth set round s p good.here good.behind good.inv ordered possible good.keeps good.round_it good.levels p after.tree
    last = last_tiered next outs counts depth set round s p good.here good.behind good.inv ordered possible good.keeps good.round_it good.levels

    abbrev middle : ℕ → Option (Runner W)
    middle h = mids next outs counts set round s p good.here good.behind good.inv ordered possible p h

    good_after : Good p after
    good_after = record {
      here = last.stage.here;
      behind = last.stage.behind;
      inv = inv_same (told {W = W}) (Grouped next outs counts) (Parted next outs counts) (Apart next outs counts) (Is next outs counts) p after.tree middle (λ h. slice_get after.runners h) last.stage.here last.stage.behind same last.stage.inv;
      many = many_after next outs counts set round s p good.here good.behind good.inv ordered possible;
      numbers = numbers_after next outs counts set round s p good.here good.behind good.inv ordered possible;
      keeps = last.keeps;
      round_it = last.round_it;
      levels = inv_same all_of (Ordinary next outs counts depth set) (Outer next outs counts depth set) (Single next outs counts depth set) (InIt next outs depth) p after.tree middle (λ h. slice_get after.runners h) last.keeps last.round_it same last.levelled;
    }

    good_round : Good p (result next set round s)
    good_round = subst (Good p) (sym (result_is next outs counts set round s p good.here good.behind good.inv ordered possible)) good_after

  good_run : (schedule : Schedule) (p : ℕ) (s : State W) → Good p s → ArePossible next set schedule s → (run next set schedule s).fault ≡ None → Good p (run next set schedule s)
  good_run [] p s good possible none = good
  good_run (round ∷ []) p s good possible none =
      ⊎_elim (λ is. good_round round s p good is) (λ stopped. together.not_stopped next outs counts set round s stopped none) possible
  good_run (round ∷ other ∷ schedule) p s good possible none =
      good_run (other ∷ schedule) p (result next set round s) (good_round round s p good possible.0) possible.1 none

  -- the beginning
  record Beginner (setting : Setting) (program : W) (h : ℕ) (r : Runner W) : Type 0 where
    left : r.left ≡ program
    number : r.has.number ≡ h
    own : own_of r.has ≡ record { space = group_space setting; frames = 0 ∷ [] }
    outer : spaces_in r.has.outer ≡ []

  beginner_at : (setting : Setting) (firsts : Memory) (program : W) (h count i : ℕ) (r : Runner W) → slice_get (beginners setting firsts program h count) i ≡ Some r → Beginner setting program (h + i) r
  beginner_at setting firsts program h zero i r e = absurd (cc)
  beginner_at setting firsts program h (suc count) zero r e =
      let same = first_is _ r e in
      let more : h ≡ h + 0 = omega arith in
      record {
        left = ap (λ (u : Runner W). u.left) (sym same);
        number = ap (λ (u : Runner W). u.has.number) (sym same) ∙ more;
        own = ap (λ (u : Runner W). own_of u.has) (sym same);
        outer = ap (λ (u : Runner W). spaces_in u.has.outer) (sym same);
      }
  beginner_at setting firsts program h (suc count) (suc i) r e =
      let more : suc h + i ≡ h + suc i = omega arith in
      subst (λ (j : ℕ). Beginner setting program j r) more (beginner_at setting firsts program (suc h) count i r e)

  beginners_length : (setting : Setting) (firsts : Memory) (program : W) (h count : ℕ) → length (beginners setting firsts program h count) ≡ count
  beginners_length setting firsts program h zero = refl
  beginners_length setting firsts program h (suc count) = ap (λ (n : ℕ). suc n) (beginners_length setting firsts program (suc h) count)

  module _ (program : W) (follows : Follows next outs (ByItself false) program) (none : (p : Processor) → ArePending next outs counts program p []) (counted : IsCounted next outs counts program)
      (outermost : depth program ≡ 0) (framed : IsFramed next outs depth 0 true program) (processors : ℕ) (globals input : List ℕ) (firsts : Memory) (some : 1 ≤ processors) where
    abbrev start : State W
    start = opening processors globals input firsts program

    abbrev setting : Setting
    setting = setting_of processors globals input

    abbrev at_start : ℕ → Here W
    at_start n = without program []

    abbrev ahead_at_start : ℕ → List (Out W)
    ahead_at_start n = bare (outs program)

    abbrev keeps_at_start : ℕ → Tiers
    keeps_at_start n = record { own = record { space = group_space setting; frames = 0 ∷ [] }; round = [] }

    abbrev none_round : ℕ → List (List Tier)
    none_round n = []

    only_root : (n : ℕ) → n ≢ 0 → (root processors).nodes n ≡ None
    only_root n ne = together.only_root next outs counts program follows none counted processors globals input firsts some n ne

    root_kind : kind (root processors) 0 ≡ Some (Asynchronous false)
    root_kind = together.root_kind next outs counts program follows none counted processors globals input firsts some

    begins_at : (h : ℕ) (r : Runner W) → slice_get start.runners h ≡ Some r → Beginner setting program (0 + h) r
    begins_at h r e = beginner_at setting firsts program 0 processors h r e

    good_start : Good processors start
    good_start = record {
      here = at_start;
      behind = ahead_at_start;
      inv = record {
        sound = root_sound processors some;
        chain = λ m ne is. absurd (is (only_root m ne));
        node = λ n. node_at n;
        there = λ h r lt e.
            subst (λ (o' : Option Kind). IsThere (told {W = W}) (Grouped next outs counts) (Parted next outs counts) (Apart next outs counts) (Is next outs counts) processors 0 o' (bare (outs program)) (without program []) r) (sym root_kind)
            (let left = (begins_at h r e).left in
            inr (record {
              outs_are = ap outs left ∙ sym (lefts_bare (outs program));
              follows = subst (Follows next outs (ByItself false)) (sym left) follows;
              more = [];
              numbers = subst (λ (w : W). ArePending next outs counts w r.has []) (sym left) (none r.has);
              counted = subst (IsCounted next outs counts) (sym left) counted;
              holds = record { many = counts.many program r.has [] (none r.has); ends = ends_none (outs program) };
            }));
      };
      many = beginners_length setting firsts program 0 processors;
      numbers = λ h r e. (begins_at h r e).number ∙ zero_less h;
      keeps = keeps_at_start;
      round_it = none_round;
      levels = record {
        sound = root_sound processors some;
        chain = λ m ne is. absurd (is (only_root m ne));
        node = λ n. level_at n;
        there = λ h r lt e.
            subst (λ (o' : Option Kind). IsThere all_of (Ordinary next outs counts depth set) (Outer next outs counts depth set) (Single next outs counts depth set) (InIt next outs depth) processors 0 o' [] (keeps_at_start 0) r) (sym root_kind)
            (let b = begins_at h r e in (
              refl,
              record {
                more = [];
                at = record {
                  own = b.own;
                  outer = b.outer;
                  deep = ap (λ (n : ℕ). suc n) (sym (ap depth b.left ∙ outermost));
                  link = tt;
                  links = tt;
                  marks = tt;
                  framed = subst (IsFramed next outs depth 0 true) (sym b.left) framed;
                };
                least = λ outside. refl;
              },
            ));
      };
    }
      where
        zero_less : (h : ℕ) → 0 + h ≡ h
        zero_less h = omega arith

        node_at : (n : ℕ) → NodeIs (told {W = W}) (Grouped next outs counts) (Parted next outs counts) (Apart next outs counts) (Is next outs counts) processors n (kind (root processors) n) (bare (outs program)) (without program [])
        node_at zero = subst (λ (o' : Option Kind). NodeIs (told {W = W}) (Grouped next outs counts) (Parted next outs counts) (Apart next outs counts) (Is next outs counts) processors 0 o' (bare (outs program)) (without program [])) (sym root_kind) tt
        node_at (suc n) =
            subst (λ (o' : Option t.Node). NodeIs (told {W = W}) (Grouped next outs counts) (Parted next outs counts) (Apart next outs counts) (Is next outs counts) processors (suc n) (t.kind_of o') (bare (outs program)) (without program []))
            (sym (only_root (suc n) (λ same_one. omega (arith, same_one)))) tt

        level_at : (n : ℕ) → NodeIs all_of (Ordinary next outs counts depth set) (Outer next outs counts depth set) (Single next outs counts depth set) (InIt next outs depth) processors n (kind (root processors) n) [] (keeps_at_start n)
        level_at zero = subst (λ (o' : Option Kind). NodeIs all_of (Ordinary next outs counts depth set) (Outer next outs counts depth set) (Single next outs counts depth set) (InIt next outs depth) processors 0 o' [] (keeps_at_start 0)) (sym root_kind) tt
        level_at (suc n) =
            subst (λ (o' : Option t.Node). NodeIs all_of (Ordinary next outs counts depth set) (Outer next outs counts depth set) (Single next outs counts depth set) (InIt next outs depth) processors (suc n) (t.kind_of o') [] (keeps_at_start (suc n)))
            (sym (only_root (suc n) (λ same_one. omega (arith, same_one)))) tt

pub groups_have_one_space : (W : Type 0) → GroupsHaveOneSpace W
groups_have_one_space W next outs program follows counts nothing counted depth outermost framed set schedule processors globals input firsts some possible none =
    let end = run next set schedule (opening processors globals input firsts program) in
    let good = good_run next outs counts depth set schedule processors (opening processors globals input firsts program)
    (good_start next outs counts depth set program follows nothing counted outermost framed processors globals input firsts some) possible none in
    let one = together.groups_have_one_program W next outs program follows counts nothing counted set schedule processors globals input firsts some possible none in
    record { members = good_members next outs counts depth set processors end good one; waiters = good_waiters next outs counts depth set processors end good one; nodes = good_nodes next outs counts depth set processors end good }
