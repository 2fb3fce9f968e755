-- What the harts of a machine commit in each cycle.
use Rattle.std.proofs.Common.{◌≡◌, ℕ, zero, suc, ◌≤◌, List, [], ◌∷◌, ◌++◌, Option, Some, None, Bool, true, false, length, map, refl, sym, ap, subst, ◌∙◌, arith}
use Rattle.std.specs.Prelude.{◌==◌, vec_len}
use Rattle.std.specs.List.{AllByRecursion}
use Rattle.std.proofs.lemmas.List.{length-map, length-replicate}
use Rattle.std.proofs.lemmas.List.Elements.{recursion_from_All}
use Rattle.fk_image.specs.declared.Image.{Image}
use Rattle.fk_image.specs.Limits.{count_of_word, IsWithinLimits}
use Rattle.fk_image.specs.Limits as image
use Rattle.fk_machine.specs.Commit.{Commits, commit_at, commits_of}
use Rattle.fk_machine.specs.Cycle.{Machine, Turns, after_effect, first_hart, is_running, machine_opening, no_address, setting_of, turn, turns, unprinted}
use Rattle.fk_machine.specs.Hart.{Hart, Shared, Setting, Effect, Goes, Stops}
use Rattle.fk_machine.specs.Run.{after, committed, committed_in}
use Rattle.fk_machine.specs.Step.{step}
use Rattle.fk_machine.proofs.Runs.{committed_in-next, committed_in-stopped}
use Rattle.fk_trace.specs.Text as trace
use Rattle.fk_replay_text.specs.Written.{AreCommits, AreCycles, IsCommit}

-- ---- as many harts as before

record Have (t : Turns) (n : ℕ) : Type 0 where
  harts : length t.harts ≡ n
  ran : length t.ran ≡ n

effect_has : (h : Hart) (hs : List Hart) (others : Shared → Turns) (s : Shared) → ((after : Shared) → Have (others after) (length hs)) → (e : Effect)
    → Have (after_effect h hs others s e) (suc (length hs))
effect_has h hs others s rest (Goes h' s') = record { harts = ap suc (rest s').harts; ran = ap suc (rest s').ran }
effect_has h hs others s rest (Stops stand) = record { harts = refl; ran = ap suc (length-map hs no_address) }

turn_has : (ended : Bool) (t : Setting) (n : ℕ) (h : Hart) (hs : List Hart) (others : Shared → Turns) (s : Shared) → ((after : Shared) → Have (others after) (length hs))
    → Have (turn ended t n h hs others s) (suc (length hs))
turn_has true t n h hs others s rest = record { harts = ap suc (rest s).harts; ran = ap suc (rest s).ran }
turn_has false t n h hs others s rest = effect_has h hs others s rest (step t n h s)

turns_have : (t : Setting) (n : ℕ) (hs : List Hart) (s : Shared) → Have (turns t n hs s) (length hs)
turns_have t n [] s = record { harts = refl; ran = refl }
turns_have t n (h ∷ hs) s = turn_has h.ended t n h hs (turns t (suc n) hs) s (λ after. turns_have t (suc n) hs after)

-- cycles keep the number of the harts, and what the code commits
record Keeps (p : ℕ) (commits : Commits) (m : Machine) : Type 0 where
  harts : length m.harts ≡ p
  ran : length m.ran ≡ p
  same : m.commits ≡ commits

keeps-after : (p : ℕ) (commits : Commits) (m : Machine) → Keeps p commits m → (n : ℕ) → Keeps p commits (after n m)
keeps-after p commits m before zero = before
keeps-after p commits m before (suc n) = by (is_running (after n m).stand) refl (keeps-after p commits m before n)
  where
    by : (b : Bool) → is_running (after n m).stand ≡ b → Keeps p commits (after n m) → Keeps p commits (after (suc n) m)
    by true e kept =
        let l = after n m in
        let have = turns_have (setting_of l) 0 l.harts (unprinted l.shared) in
        rw e (record { harts = have.harts ∙ kept.harts; ran = have.ran ∙ kept.harts; same = kept.same })
    by false e kept = rw e kept

-- ---- 1 to 255 operations

counted : (words : ℕ) (entries : List (ℕ × ℕ)) → AllByRecursion (image.IsCommit words) entries → (a : ℕ) → IsCommit (commits_of entries a)
counted words [] all a = tt
counted words (entry ∷ entries) all a = by (entry.0 == a) refl (counted words entries all.1 a)
  where
    by : (b : Bool) → (entry.0 == a) ≡ b → IsCommit (commits_of entries a) → IsCommit (commits_of (entry ∷ entries) a)
    by true e rest =
        let f : image.IsCommit words entry = all.0 in
        let some = f.counted in
        let few : count_of_word entry.1 ≤ 255 = omega arith in
        rw e (omega (arith, some), few)
    by false e rest = rw e rest

counted_at : (commits : Commits) → ((a : ℕ) → IsCommit (commits a)) → (ran : List (Option ℕ)) → AreCommits (map (commit_at commits) ran)
counted_at commits each [] = tt
counted_at commits each (None ∷ ran) = (tt, counted_at commits each ran)
counted_at commits each (Some pc ∷ ran) = (each pc, counted_at commits each ran)

-- ---- whole runs

one_more : (p : ℕ) (cycles : List trace.Commits) (last : trace.Commits) → AreCycles p cycles → length last ≡ p → AreCommits last → AreCycles p (cycles ++ last ∷ [])
one_more p [] last are many is = (many, is, tt)
one_more p (commits ∷ cycles) last are many is = (are.0, are.1, one_more p cycles last are.2 many is)

module _ (p : ℕ) (commits : Commits) (each : (a : ℕ) → IsCommit (commits a)) (m : Machine) (before : Keeps p commits m) where
  last_is : (n : ℕ) → AreCommits (committed (after n m))
  last_is n =
      let kept = keeps-after p commits m before n in
      let same : committed (after n m) ≡ map (commit_at commits) (after n m).ran = ap (λ (c : Commits). map (commit_at c) (after n m).ran) kept.same in
      subst (λ (l : trace.Commits). AreCommits l) (sym same) (counted_at commits each (after n m).ran)

  many : (n : ℕ) → length (committed (after n m)) ≡ p
  many n = length-map (after n m).ran (commit_at (after n m).commits) ∙ (keeps-after p commits m before n).ran

  are_cycles : (n : ℕ) → AreCycles p (committed_in n m)
  are_cycles zero = tt
  are_cycles (suc n) = by (is_running (after n m).stand) refl (are_cycles n)
    where
      by : (b : Bool) → is_running (after n m).stand ≡ b → AreCycles p (committed_in n m) → AreCycles p (committed_in (suc n) m)
      by true e so_far =
          subst (λ (l : List trace.Commits). AreCycles p l) (sym (committed_in-next m n e))
          (one_more p (committed_in n m) (committed (after (suc n) m)) so_far (many (suc n)) (last_is (suc n)))
      by false e so_far =
          let le : n ≤ suc n = omega arith in
          subst (λ (l : List trace.Commits). AreCycles p l) (sym (committed_in-stopped m n (suc n) le e)) so_far

-- in each cycle of an image's machine all harts that commit do 1 to 255 operations
pub cycles_of_image : (image : Image) (input : List ℕ) (p n : ℕ) → IsWithinLimits image → AreCycles p (committed_in n (machine_opening image input p))
cycles_of_image image input p n limits =
    let each = counted (vec_len image.code) image.commits.items (recursion_from_All _ image.commits.items limits.commits) in
    are_cycles p (commits_of image.commits.items) each (machine_opening image input p)
    (record { harts = length-replicate p first_hart; ran = length-replicate p None; same = refl }) n
