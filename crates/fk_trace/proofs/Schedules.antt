-- The counts of a trace are the schedule of the machine's run.
use Rattle.std.proofs.Common.{◌≡◌, ℕ, zero, suc, List, [], ◌∷◌, ◌++◌, Option, Some, None, Bool, true, false, cond, map, refl, sym, ap, ap₂, ◌∙◌, ◌≤◌, arith}
use Rattle.std.specs.Prelude.{◌==◌}
use Rattle.std.proofs.lemmas.List.{map-append}
use Rattle.fk_image.specs.declared.Image.{Image}
use Rattle.fk_machine.specs.Commit.{Commits, commit_at, commits_of}
use Rattle.fk_machine.specs.Cycle.{Machine, is_running, turns_of, after_turns, machine_opening}
use Rattle.fk_machine.specs.Run.{machine, after, committed, committed_in, count_in, count_of, round_of, rounds}
use Rattle.fk_machine.proofs.Runs.{machine-after, committed_in-next, committed_in-stopped}
use Rattle.fk_trace.specs.declared.column.Column.TheVariants.{Counts}
use Rattle.fk_trace.specs.Schedule.{CountsAreTheSchedule}
use Rattle.fk_trace.specs.Text.{number_in}

-- the count of an address in a table
count_there : (entries : List (ℕ × ℕ)) (pc : ℕ) → number_in Counts (commits_of entries pc) ≡ count_in entries pc
count_there [] pc = refl
count_there (entry ∷ entries) pc = by (entry.0 == pc) refl (count_there entries pc)
  where
    by : (b : Bool) → (entry.0 == pc) ≡ b → number_in Counts (commits_of entries pc) ≡ count_in entries pc → number_in Counts (commits_of (entry ∷ entries) pc) ≡ count_in (entry ∷ entries) pc
    by true e rest = rw e refl
    by false e rest = rw e rest

count_ran : (image : Image) (commits : Commits) (pc : Option ℕ) → commits ≡ commits_of image.commits.items → number_in Counts (commit_at commits pc) ≡ count_of image pc
count_ran image commits None same = refl
count_ran image commits (Some pc) same = ap (λ f. number_in Counts (f pc)) same ∙ count_there image.commits.items pc

counts_ran : (image : Image) (commits : Commits) (ran : List (Option ℕ)) → commits ≡ commits_of image.commits.items → map (number_in Counts) (map (commit_at commits) ran) ≡ map (count_of image) ran
counts_ran image commits [] same = refl
counts_ran image commits (pc ∷ ran) same = ap₂ (λ n ns. n ∷ ns) (count_ran image commits pc same) (counts_ran image commits ran same)

-- cycles keep the commits of the code
keeps-commits : (m : Machine) (n : ℕ) → (after n m).commits ≡ m.commits
keeps-commits m zero = refl
keeps-commits m (suc n) = by (is_running (after n m).stand) refl (keeps-commits m n)
  where
    by : (b : Bool) → is_running (after n m).stand ≡ b → (after n m).commits ≡ m.commits → (after (suc n) m).commits ≡ m.commits
    by true e before = rw e before
    by false e before = rw e before

-- one more cycle is one more round
module _ (image : Image) (input : List ℕ) (p n : ℕ) where
  abbrev start : Machine
  start = machine_opening image input p

  abbrev now : Machine
  now = after n start

  same : machine image input p n ≡ now
  same = machine-after image input p n

  round_is : is_running now.stand ≡ true → map (number_in Counts) (committed (after (suc n) start)) ≡ round_of image (machine image input p n)
  round_is running =
      let next = after (suc n) start in
      let ran = ap (λ b. (cond b (after_turns now (turns_of now)) now).ran) running in
      counts_ran image next.commits next.ran (keeps-commits start (suc n))
      ∙ ap (map (count_of image)) ran
      ∙ ap (round_of image) (sym same)

  goes_on : (b : Bool) → is_running now.stand ≡ b → map (map (number_in Counts)) (committed_in n start) ≡ rounds image input p n
      → map (map (number_in Counts)) (committed_in (suc n) start) ≡ rounds image input p (suc n)
  goes_on true running so_far =
      let told = ap (λ (l : Machine). is_running l.stand) same ∙ running in
      let grows = ap (λ b. cond b (rounds image input p n ++ round_of image (machine image input p n) ∷ []) (rounds image input p n)) told in
      ap (map (map (number_in Counts))) (committed_in-next start n running)
      ∙ map-append (map (number_in Counts)) (committed_in n start) (committed (after (suc n) start) ∷ [])
      ∙ ap₂ (λ rounds round. rounds ++ round ∷ []) so_far (round_is running)
      ∙ sym grows
  goes_on false stopped so_far =
      let le : n ≤ suc n = omega arith in
      let told = ap (λ (l : Machine). is_running l.stand) same ∙ stopped in
      let stays = ap (λ b. cond b (rounds image input p n ++ round_of image (machine image input p n) ∷ []) (rounds image input p n)) told in
      ap (map (map (number_in Counts))) (committed_in-stopped start n (suc n) le stopped) ∙ so_far ∙ sym stays

pub counts_are : CountsAreTheSchedule
counts_are image input p zero = refl
counts_are image input p (suc n) = goes_on image input p n (is_running (after n (machine_opening image input p)).stand) refl (counts_are image input p n)
