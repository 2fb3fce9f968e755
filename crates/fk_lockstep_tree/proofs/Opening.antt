-- Before the first round there is no group, and all are in the root.
use Rattle.std.proofs.Common.{◌≡◌, ◌≢◌, ℕ, zero, suc, ◌+◌, ◌≤◌, false, List, [], length, slice_get, Option, Some, None, refl, sym, ap, ◌∙◌, subst, arith}
use Rattle.fk_num.specs.Word.{Memory}
use Rattle.fk_tree.specs.declared.node.Kind.{Kind}
use Rattle.fk_tree.specs.declared.node.Kind.TheVariants.{Asynchronous}
use Rattle.fk_tree.specs.Tree as t
use Rattle.fk_tree.specs.Tree.{members, kind, is_member, below, root, node_of}
use Rattle.fk_tree.proofs.Shapes.{with_same, with_other, has_some, kind-node_of}
use Rattle.fk_tree.proofs.RootSound.{root_sound}
use Rattle.fk_meaning.specs.Processor.{Level, Processor, Setting, setting_of}
use Rattle.fk_meaning.specs.Round.{Runner, body_of}
use Rattle.fk_meaning.specs.Schedule.{first_level, first_processor, beginners, opening}
use Rattle.fk_lockstep.proofs.Round.{first_is}
use Rattle.fk_lockstep_tree.specs.Where.{InRoot, Goes}
use Rattle.fk_lockstep_tree.specs.Ranges.{ranges_of}
use Rattle.fk_lockstep_tree.specs.Placed.{where_in, where_at, AreLevels, OpeningsAreInRoot}

pub record Begins {W : Type 0} (set : Setting) (firsts : Memory) (program : W) (h : ℕ) (r : Runner W) : Type 0 where
  pub left : r.left ≡ program
  pub has : r.has ≡ first_processor set firsts h

pub begins_at : {W : Type 0} (set : Setting) (firsts : Memory) (program : W) (h count i : ℕ) (r : Runner W) → slice_get (beginners set firsts program h count) i ≡ Some r → Begins set firsts program (h + i) r
begins_at set firsts program h zero i r e = absurd (cc)
begins_at set firsts program h (suc count) zero r e =
    let same = first_is _ r e in
    let more : h ≡ h + 0 = omega arith in
    subst (λ (n : ℕ). Begins set firsts program n r) more
    (record { left = ap (λ (u : Runner _). u.left) (sym same); has = ap (λ (u : Runner _). u.has) (sym same) })
begins_at set firsts program h (suc count) (suc i) r e =
    let more : suc h + i ≡ h + suc i = omega arith in
    subst (λ (j : ℕ). Begins set firsts program j r) more (begins_at set firsts program (suc h) count i r e)

beginners_length : {W : Type 0} (set : Setting) (firsts : Memory) (program : W) (h count : ℕ) → length (beginners set firsts program h count) ≡ count
beginners_length set firsts program h zero = refl
beginners_length set firsts program h (suc count) = ap (λ (n : ℕ). suc n) (beginners_length set firsts program (suc h) count)

pub root_kind : (p : ℕ) → 1 ≤ p → kind (root p) 0 ≡ Some (Asynchronous false)
root_kind p some =
    let sound = root_sound p some in
    let there = has_some (root p) 0 0 (sound.placed 0 (omega (arith, some))).member in
    let same : (root p).nodes 0 ≡ node_of (below p []) 0 (Asynchronous false) = with_same 0 (node_of (below p []) 0 (Asynchronous false)) (λ i. None) 0 refl in
    ap t.kind_of same ∙ kind-node_of (below p []) 0 (Asynchronous false) (λ none. there (same ∙ none))

-- the root is the only node
only_root : (p n : ℕ) → n ≢ 0 → (root p).nodes n ≡ None
only_root p n ne = with_other 0 (node_of (below p []) 0 (Asynchronous false)) (λ i. None) n ne

nothing_else : {A : Type 0} (p n : ℕ) → n ≢ 0 → (root p).nodes n ≢ None → A
nothing_else p n ne there = absurd (there (only_root p n ne))

pub openings_are_in_root : (W : Type 0) → OpeningsAreInRoot W
openings_are_in_root W next program p globals input firsts some goes =
    let set = setting_of p globals input in
    record {
      many = beginners_length set firsts program 0 p;
      upward = λ n ne there. nothing_else p n ne there;
      placed = λ h r at.
          let b = begins_at set firsts program 0 p h r at in
          let none : 0 + h ≡ h = omega arith in
          let number : r.has.number ≡ h = ap (λ (q : Processor). q.number) b.has ∙ none in
          let outer : r.has.outer ≡ [] = ap (λ (q : Processor). q.outer) b.has in
          let level : r.has.level ≡ first_level set h = ap (λ (q : Processor). q.level) b.has ∙ ap (λ n. first_level set n) none in
          record {
            number_is = number;
            place = InRoot;
            there =
                ap (λ (ls : List Level). where_at (root p) h (length ls)) outer
                ∙ ap (λ (x : Option Kind). where_in 0 x (is_member h (body_of x (members (root p) 0)))) (root_kind p some);
            goes = subst (Goes next InRoot) (sym b.left) goes;
            levels = subst (λ (ls : List Level). AreLevels set (root p) (ranges_of (opening p globals input firsts program)) h 0 r.has.level ls) (sym outer) (refl, level);
          };
      ranges = record {
        header = λ g ne there. nothing_else p g ne there;
        within = λ g ne there. nothing_else p g ne there;
        whole = λ g ne there up. nothing_else p g ne there;
        nested = λ g ne there up. nothing_else p g ne there;
        apart = λ g k ne ne' differ there there' up. nothing_else p g ne there;
      };
    }
