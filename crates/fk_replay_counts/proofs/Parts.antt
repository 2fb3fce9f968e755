-- A round and its parts: the first operations of those who have more than one, and all others.
use Rattle.std.proofs.Common.{◌≡◌, ℕ, zero, suc, ◌==◌, ◌&&◌, Bool, true, false, true≢false, List, [], ◌∷◌, map, Option, Some, None, nat_lt, is_some, is_none, refl, sym, ap, ap₂, ◌∙◌, subst, arith}
use Rattle.std.specs.Prelude.{slice_index}
use Rattle.std.specs.List.{list_all}
use Rattle.std.proofs.lemmas.Bool.{and_parts, and_from, ltb-true, lt-ltb, eqb-true, eq-eqb}
use Rattle.fk_meaning_operation.specs.Kinds.{class_of, joint_of}
use Rattle.fk_meaning_operation.specs.declared.operation.Operation.{Operation}
use Rattle.fk_meaning_operation.specs.declared.operation.Operation.TheVariants as o
use Rattle.fk_meaning_operation.specs.declared.kinds.Joint.{Joint}
use Rattle.fk_meaning_operation.specs.declared.kinds.Joint.TheVariants.{Alone, Starting, AtBarrier, Closing, Resuming}
use Rattle.fk_tree.specs.declared.node.Kind.{Kind}
use Rattle.fk_tree.specs.declared.node.Kind.TheVariants.{Lockstep, Waiting, Asynchronous}
use Rattle.fk_tree.specs.Tree as t
use Rattle.fk_meaning.specs.Processor.{Setting}
use Rattle.fk_meaning.specs.Round.{Step, Runner, State, Round, Acting, joint_due, joint_at, same_joint, body_of, all_do, joins, fits_kind, fits, all_fit, is_local, after_one, after_locals, begin, begin_all, result, is_local_next, are_local, may_act, all_may_act, is_allowed, is_possible}
use Rattle.fk_replay_counts.specs.Counts.{first_of, others_of, firsts, others}
use Rattle.fk_replay_counts.proofs.Quiet.{AreQuiet, advanced, gone_on, quiet_result}

-- counts by place
pub index_map : (f : ℕ → ℕ) → f 0 ≡ 0 → (round : List ℕ) (h : ℕ) → slice_index (map f round) h ≡ f (slice_index round h)
index_map f zero_is [] h = sym zero_is
index_map f zero_is (c ∷ round) zero = refl
index_map f zero_is (c ∷ round) (suc h) = index_map f zero_is round h

pub first_at : (round : Round) (h : ℕ) → slice_index (firsts round) h ≡ first_of (slice_index round h)
first_at round h = index_map first_of refl round h

pub others_at : (round : Round) (h : ℕ) → slice_index (others round) h ≡ others_of (slice_index round h)
others_at round h = index_map others_of refl round h

same_by : (f : ℕ → ℕ) (a b : ℕ) → (a == b) ≡ true → (f a == f b) ≡ true
same_by f a b e = eq-eqb (f a) (f b) (ap f (eqb-true a b e))

all_more : (f g : ℕ → Bool) → ((m : ℕ) → f m ≡ true → g m ≡ true) → (ms : List ℕ) → list_all f ms ≡ true → list_all g ms ≡ true
all_more f g more [] e = refl
all_more f g more (m ∷ ms) e =
    let both = and_parts (f m) (list_all f ms) e in
    and_from (g m) (list_all g ms) (more m both.0) (all_more f g more ms both.1)

-- a local operation isn't joint
local_is_alone : (operation : Operation) → is_local (class_of operation) ≡ true → joint_of operation ≡ Alone
local_is_alone o.Begin e = absurd (cc)
local_is_alone (o.Meet true) e = absurd (cc)
local_is_alone (o.Meet false) e = absurd (cc)
local_is_alone o.Resume e = absurd (cc)
local_is_alone operation e = refl

module _ {W : Type 0} (next : W → Option (Step W)) (set : Setting) where
  -- what a count tells
  pub record MayAct (c : ℕ) (r : Runner W) : Type 0 where
    pub few : nat_lt c 255 ≡ true
    pub locals : are_local next set c r ≡ true
    pub due : is_some (next (after_locals next set c r).left) ≡ true

  pub may_parts : (c : ℕ) (r : Runner W) → may_act next set (suc c) r ≡ true → MayAct c r
  may_parts c r e =
      let both = and_parts (nat_lt c 255 && are_local next set c r) (is_some (next (after_locals next set c r).left)) e in
      let front = and_parts (nat_lt c 255) (are_local next set c r) both.0 in
      record { few = front.0; locals = front.1; due = both.1 }

  pub may_from : (c : ℕ) (r : Runner W) → MayAct c r → may_act next set (suc c) r ≡ true
  may_from c r m =
      and_from (nat_lt c 255 && are_local next set c r) (is_some (next (after_locals next set c r).left))
      (and_from (nat_lt c 255) (are_local next set c r) m.few m.locals) m.due

  pub local_is_due : (due : Option (Step W)) → is_local_next next set due ≡ true → is_some due ≡ true
  local_is_due None e = absurd (true≢false (sym e))
  local_is_due (Some step) e = refl

  -- one processor
  first_is_local : (c : ℕ) (r : Runner W) → may_act next set c r ≡ true → are_local next set (first_of c) r ≡ true
  first_is_local zero r e = refl
  first_is_local (suc zero) r e = refl
  first_is_local (suc (suc c)) r e =
      let m = may_parts (suc c) r e in
      and_from (is_local_next next set (next r.left)) true (and_parts (is_local_next next set (next r.left)) (are_local next set c (after_one next set r)) m.locals).0 refl

  first_may : (c : ℕ) (r : Runner W) → may_act next set c r ≡ true → may_act next set (first_of c) r ≡ true
  first_may zero r e = refl
  first_may (suc zero) r e = refl
  first_may (suc (suc c)) r e =
      let m = may_parts (suc c) r e in
      may_from 0 r (record {
        few = refl;
        locals = refl;
        due = local_is_due (next r.left) (and_parts (is_local_next next set (next r.left)) (are_local next set c (after_one next set r)) m.locals).0;
      })

  fewer : (c : ℕ) → nat_lt (suc c) 255 ≡ true → nat_lt c 255 ≡ true
  fewer c e = let lt = ltb-true (suc c) 255 e in lt-ltb c 255 (omega arith)

  others_may : (c : ℕ) (r : Runner W) → may_act next set c r ≡ true → may_act next set (others_of c) (after_locals next set (first_of c) r) ≡ true
  others_may zero r e = refl
  others_may (suc zero) r e = e
  others_may (suc (suc c)) r e =
      let m = may_parts (suc c) r e in
      may_from c (after_one next set r) (record {
        few = fewer c m.few;
        locals = (and_parts (is_local_next next set (next r.left)) (are_local next set c (after_one next set r)) m.locals).1;
        due = m.due;
      })

  same_begin : (c : ℕ) (r : Runner W) → begin next set (others_of c) (after_locals next set (first_of c) r) ≡ begin next set c r
  same_begin zero r = refl
  same_begin (suc zero) r = refl
  same_begin (suc (suc c)) r = refl

  first_joint : (due : Option (Step W)) → is_local_next next set due ≡ true → joint_due due ≡ Alone
  first_joint None e = refl
  first_joint (Some step) e = local_is_alone step.operation e

  first_alone : (c : ℕ) (r : Runner W) → may_act next set c r ≡ true → joint_due (begin next set (first_of c) r).due ≡ Alone
  first_alone zero r e = refl
  first_alone (suc zero) r e = refl
  first_alone (suc (suc c)) r e =
      let m = may_parts (suc c) r e in
      first_joint (next r.left) (and_parts (is_local_next next set (next r.left)) (are_local next set c (after_one next set r)) m.locals).0

  -- all of them
  abbrev AllMay : Round → List (Runner W) → Type 0
  AllMay round rs = all_may_act next set round rs ≡ true

  pub record MayBoth (c : ℕ) (r : Runner W) (round : Round) (rs : List (Runner W)) : Type 0 where
    pub one : may_act next set c r ≡ true
    pub more : AllMay round rs

  pub may_both : (c : ℕ) (r : Runner W) (round : Round) (rs : List (Runner W)) → AllMay (c ∷ round) (r ∷ rs) → MayBoth c r round rs
  may_both c r round rs e =
      let both = and_parts (may_act next set c r) (all_may_act next set round rs) e in record { one = both.0; more = both.1 }

  pub untrue : {A : Type 0} → false ≡ true → A
  untrue e = absurd (true≢false (sym e))

  pub firsts_quiet : (round : Round) (rs : List (Runner W)) → AllMay round rs → AreQuiet next set (firsts round) rs
  firsts_quiet [] [] e = tt
  firsts_quiet (c ∷ round) (r ∷ rs) e = let m = may_both c r round rs e in (first_is_local c r m.one, firsts_quiet round rs m.more)
  firsts_quiet [] (r ∷ rs) e = untrue e
  firsts_quiet (c ∷ round) [] e = untrue e

  firsts_may : (round : Round) (rs : List (Runner W)) → AllMay round rs → AllMay (firsts round) rs
  firsts_may [] [] e = refl
  firsts_may (c ∷ round) (r ∷ rs) e =
      let m = may_both c r round rs e in
      and_from (may_act next set (first_of c) r) (all_may_act next set (firsts round) rs) (first_may c r m.one) (firsts_may round rs m.more)
  firsts_may [] (r ∷ rs) e = untrue e
  firsts_may (c ∷ round) [] e = untrue e

  others_may_all : (round : Round) (rs : List (Runner W)) → AllMay round rs → AllMay (others round) (advanced next set (firsts round) rs)
  others_may_all [] [] e = refl
  others_may_all (c ∷ round) (r ∷ rs) e =
      let m = may_both c r round rs e in
      let q = after_locals next set (first_of c) r in
      let qs = advanced next set (firsts round) rs in
      and_from (may_act next set (others_of c) q) (all_may_act next set (others round) qs) (others_may c r m.one) (others_may_all round rs m.more)
  others_may_all [] (r ∷ rs) e = untrue e
  others_may_all (c ∷ round) [] e = untrue e

  pub same_begins : (round : Round) (rs : List (Runner W)) → begin_all next set (others round) (advanced next set (firsts round) rs) ≡ begin_all next set round rs
  same_begins [] rs = refl
  same_begins (c ∷ round) [] = refl
  same_begins (c ∷ round) (r ∷ rs) = ap₂ (λ (a : Acting W) (rest : List (Acting W)). a ∷ rest) (same_begin c r) (same_begins round rs)

  firsts_alone : (round : Round) (rs : List (Runner W)) (h : ℕ) → AllMay round rs → joint_at (begin_all next set (firsts round) rs) h ≡ Alone
  firsts_alone [] rs h e = refl
  firsts_alone (c ∷ round) [] h e = refl
  firsts_alone (c ∷ round) (r ∷ rs) zero e = let m = may_both c r round rs e in first_alone c r m.one
  firsts_alone (c ∷ round) (r ∷ rs) (suc h) e = let m = may_both c r round rs e in firsts_alone round rs h m.more

  -- the parts fit together where the round does
  abbrev SameCount : Round → (h : ℕ) → (m : ℕ) → Bool
  SameCount round h m = slice_index round m == slice_index round h

  same_counts : (f : ℕ → ℕ) → f 0 ≡ 0 → (round : Round) (h : ℕ) (ms : List ℕ) → list_all (SameCount round h) ms ≡ true
      → list_all (SameCount (map f round) h) ms ≡ true
  same_counts f zero_is round h ms e =
      all_more (SameCount round h) (SameCount (map f round) h)
      (λ m same. ap₂ (λ (a b : ℕ). a == b) (index_map f zero_is round m) (index_map f zero_is round h) ∙ same_by f (slice_index round m) (slice_index round h) same)
      ms e

  first_fits_kind : (round : Round) (does' now : ℕ → Joint) (tree : t.Tree) (h n : ℕ) (kind : Option Kind) → now h ≡ Alone
      → fits_kind round does' tree h n kind ≡ true → fits_kind (firsts round) now tree h n kind ≡ true
  first_fits_kind round does' now tree h n (Some Lockstep) alone e = same_counts first_of refl round h (t.members tree n) e
  first_fits_kind round does' now tree h n (Some (Waiting first parts)) alone e = ap (λ (j : Joint). joins (firsts round) now tree n j) alone
  first_fits_kind round does' now tree h n (Some (Asynchronous by)) alone e = ap (λ (j : Joint). joins (firsts round) now tree n j) alone
  first_fits_kind round does' now tree h n None alone e = ap (λ (j : Joint). joins (firsts round) now tree n j) alone

  first_fits : (round : Round) (does' now : ℕ → Joint) (tree : t.Tree) (h c : ℕ) → now h ≡ Alone → fits round does' tree h c ≡ true
      → fits (firsts round) now tree h (first_of c) ≡ true
  first_fits round does' now tree h zero alone e = refl
  first_fits round does' now tree h (suc zero) alone e = refl
  first_fits round does' now tree h (suc (suc c)) alone e =
      let n = tree.places h in first_fits_kind round does' now tree h n (t.kind tree n) alone e

  firsts_fit : (round : Round) (does' now : ℕ → Joint) (tree : t.Tree) → ((h : ℕ) → now h ≡ Alone) → (h : ℕ) (counts : List ℕ)
      → all_fit round does' tree h counts ≡ true → all_fit (firsts round) now tree h (firsts counts) ≡ true
  firsts_fit round does' now tree alone h [] e = refl
  firsts_fit round does' now tree alone h (c ∷ counts) e =
      let both = and_parts (fits round does' tree h c) (all_fit round does' tree (suc h) counts) e in
      and_from (fits (firsts round) now tree h (first_of c)) (all_fit (firsts round) now tree (suc h) (firsts counts))
      (first_fits round does' now tree h c (alone h) both.0) (firsts_fit round does' now tree alone (suc h) counts both.1)

  others_do : (round : Round) (does' : ℕ → Joint) (joint : Joint) (ms : List ℕ) → all_do round does' joint ms ≡ true → all_do (others round) does' joint ms ≡ true
  others_do round does' joint ms e =
      all_more (λ h. (slice_index round h == 1) && same_joint joint (does' h)) (λ h. (slice_index (others round) h == 1) && same_joint joint (does' h))
      (λ h both.
      let parts = and_parts (slice_index round h == 1) (same_joint joint (does' h)) both in
      and_from (slice_index (others round) h == 1) (same_joint joint (does' h))
      (eq-eqb (slice_index (others round) h) 1 (others_at round h ∙ ap others_of (eqb-true (slice_index round h) 1 parts.0))) parts.1)
      ms e

  others_join : (round : Round) (does' : ℕ → Joint) (tree : t.Tree) (n : ℕ) (joint : Joint) → joins round does' tree n joint ≡ true → joins (others round) does' tree n joint ≡ true
  others_join round does' tree n Alone e = refl
  others_join round does' tree n Starting e = others_do round does' Starting (t.members tree n) e
  others_join round does' tree n AtBarrier e = others_do round does' AtBarrier (body_of (t.kind tree n) (t.members tree n)) e
  others_join round does' tree n Closing e = others_do round does' Closing (t.members tree n) e
  others_join round does' tree n Resuming e =
      let both = and_parts (t.ready tree n) (all_do round does' Resuming (t.members tree n)) e in
      and_from (t.ready tree n) (all_do (others round) does' Resuming (t.members tree n)) both.0 (others_do round does' Resuming (t.members tree n) both.1)

  others_fit_kind : (round : Round) (does' : ℕ → Joint) (tree : t.Tree) (h n : ℕ) (kind : Option Kind)
      → fits_kind round does' tree h n kind ≡ true → fits_kind (others round) does' tree h n kind ≡ true
  others_fit_kind round does' tree h n (Some Lockstep) e = same_counts others_of refl round h (t.members tree n) e
  others_fit_kind round does' tree h n (Some (Waiting first parts)) e = others_join round does' tree n (does' h) e
  others_fit_kind round does' tree h n (Some (Asynchronous by)) e = others_join round does' tree n (does' h) e
  others_fit_kind round does' tree h n None e = others_join round does' tree n (does' h) e

  others_fit_one : (round : Round) (does' : ℕ → Joint) (tree : t.Tree) (h c : ℕ) → fits round does' tree h c ≡ true → fits (others round) does' tree h (others_of c) ≡ true
  others_fit_one round does' tree h zero e = refl
  others_fit_one round does' tree h (suc zero) e = let n = tree.places h in others_fit_kind round does' tree h n (t.kind tree n) e
  others_fit_one round does' tree h (suc (suc c)) e = let n = tree.places h in others_fit_kind round does' tree h n (t.kind tree n) e

  others_fit : (round : Round) (does' : ℕ → Joint) (tree : t.Tree) (h : ℕ) (counts : List ℕ)
      → all_fit round does' tree h counts ≡ true → all_fit (others round) does' tree h (others counts) ≡ true
  others_fit round does' tree h [] e = refl
  others_fit round does' tree h (c ∷ counts) e =
      let both = and_parts (fits round does' tree h c) (all_fit round does' tree (suc h) counts) e in
      and_from (fits (others round) does' tree h (others_of c)) (all_fit (others round) does' tree (suc h) (others counts))
      (others_fit_one round does' tree h c both.0) (others_fit round does' tree (suc h) counts both.1)

  -- the round after its first operations
  pub record Divided (round : Round) (s : State W) : Type 0 where
    pub possible : is_possible next set (firsts round) s ≡ true
    pub after : result next set (firsts round) s ≡ gone_on next set (firsts round) s
    pub allowed : is_allowed next set (others round) (gone_on next set (firsts round) s) ≡ true

  pub divided : (round : Round) (s : State W) → s.fault ≡ None → is_allowed next set round s ≡ true → Divided round s
  divided round s running e =
      let joints = joint_at (begin_all next set round s.runners) in
      let now = joint_at (begin_all next set (firsts round) s.runners) in
      let qs = advanced next set (firsts round) s.runners in
      let both = and_parts (all_may_act next set round s.runners) (all_fit round joints s.tree 0 round) e in
      let after = quiet_result next set (firsts round) s (firsts_quiet round s.runners both.0) in
      let first_allowed = and_from (all_may_act next set (firsts round) s.runners) (all_fit (firsts round) now s.tree 0 (firsts round))
      (firsts_may round s.runners both.0) (firsts_fit round joints now s.tree (λ h. firsts_alone round s.runners h both.0) 0 round both.1) in
      let fits' = others_fit round joints s.tree 0 round both.1 in
      record {
        possible = and_from (is_none s.fault && is_allowed next set (firsts round) s) (is_none (result next set (firsts round) s).fault)
            (and_from (is_none s.fault) (is_allowed next set (firsts round) s) (ap is_none running) first_allowed)
            (ap (λ (x : State W). is_none x.fault) after);
        after = after;
        allowed = and_from (all_may_act next set (others round) qs) (all_fit (others round) (joint_at (begin_all next set (others round) qs)) s.tree 0 (others round))
            (others_may_all round s.runners both.0)
            (subst (λ (actings : List (Acting W)). all_fit (others round) (joint_at actings) s.tree 0 (others round) ≡ true) (sym (same_begins round s.runners)) fits');
      }
