-- The table of commits.
use Rattle.std.proofs.Common.{◌≡◌, ◌≢◌, ℕ, zero, suc, ◌/◌, ◌%◌, ◌<◌, ◌≤◌, List, [], ◌∷◌, Option, Some, None, Bool, true, false, length, map, get_or, refl, sym, ap, ◌∙◌, arith, eq-eqb}
use Rattle.std.specs.Prelude.{◌==◌, if◌then◌else◌, replicate, slice_index_or}
use Rattle.std.proofs.Math.ListN.{set}
use Rattle.std.proofs.Math.Path.{fun_ext}
use Rattle.std.proofs.lemmas.Bool.{eqb-true}
use Rattle.std.proofs.lemmas.Grind.{get_or-set_at}
use Rattle.std.proofs.lemmas.List.{get_or-set_other}
use Rattle.fk_image.specs.Limits.{IsCommit, count_of_word, event_of_word}
use Rattle.fk_machine.specs.declared.hart.TrackedHart.{TrackedHart}
use Rattle.fk_machine.specs.Commit.{Commits, commit_at, commits_of}
use Rattle.fk_machine.specs.View.{entry_at, ran_of}

abbrev Commit : Type 0
Commit = Option (ℕ × ℕ)

abbrev nothing : Commit
nothing = None

none-read : (n i : ℕ) → get_or (replicate n nothing) i nothing ≡ nothing
none-read zero i = refl
none-read (suc n) zero = refl
none-read (suc n) (suc i) = none-read n i

none-at : (n a : ℕ) → entry_at (replicate n nothing) a ≡ nothing
none-at n a = by (a % 4 == 0)
  where
    by : (b : Bool) → (if b then get_or (replicate n nothing) (a / 4) nothing else nothing) ≡ nothing
    by true = none-read n (a / 4)
    by false = refl

-- a table without entries commits nothing
pub none_committed : (n : ℕ) → entry_at (replicate n nothing) ≡ commits_of []
none_committed n = fun_ext (none-at n)

-- what is read where an entry has been written
written-at : (table : List Commit) (e a : ℕ) (x : Commit) → e % 4 ≡ 0 → e / 4 < length table → entry_at (set table (e / 4) x) a ≡ (if e == a then x else entry_at table a)
written-at table e a x aligned within = by (e == a) refl (a % 4 == 0) refl
  where
    same : e ≡ a → entry_at (set table (e / 4) x) a ≡ x
    same is =
        let here : (a % 4 == 0) ≡ true = eq-eqb (a % 4) 0 (ap (λ n. n % 4) (sym is) ∙ aligned) in
        ap (λ b. if b then get_or (set table (e / 4) x) (a / 4) None else None) here
        ∙ get_or-set_at table (e / 4) (a / 4) x None (ap (λ n. n / 4) (sym is)) within

    other : (e == a) ≡ false → (a % 4 == 0) ≡ true → a / 4 ≢ e / 4
    other apart here is = let there = eqb-true (a % 4) 0 here in let equal : e ≡ a = omega (arith, is, aligned, there) in let bad : true ≡ false = sym (eq-eqb e a equal) ∙ apart in cc

    by : (b : Bool) → (e == a) ≡ b → (d : Bool) → (a % 4 == 0) ≡ d → entry_at (set table (e / 4) x) a ≡ (if b then x else entry_at table a)
    by true is d here = same (eqb-true e a is)
    by false is true here =
        ap (λ b. if b then get_or (set table (e / 4) x) (a / 4) None else None) here
        ∙ get_or-set_other table (e / 4) (a / 4) x None (other is here)
        ∙ sym (ap (λ b. if b then get_or table (a / 4) None else None) here)
    by false is false here =
        ap (λ b. if b then get_or (set table (e / 4) x) (a / 4) None else None) here
        ∙ sym (ap (λ b. if b then get_or table (a / 4) None else None) here)

-- one more entry in front
pub one_more_entry : (table : List Commit) (n : ℕ) (entry : ℕ × ℕ) (entries : List (ℕ × ℕ)) → IsCommit n entry → length table ≡ n → entry_at table ≡ commits_of entries
    → entry_at (set table (entry.0 / 4) (Some (entry.1 % 256, entry.1 / 256))) ≡ commits_of (entry ∷ entries)
one_more_entry table n entry entries is sized so_far =
    let within : entry.0 / 4 < length table = omega (arith, is.within, sized) in
    fun_ext (λ a.
    written-at table entry.0 a (Some (entry.1 % 256, entry.1 / 256)) is.aligned within
    ∙ ap (λ commits. if entry.0 == a then Some (count_of_word entry.1, event_of_word entry.1) else commits a) so_far)

-- what a hart committed, by the address that it ran
pub committed_here : (commits : Commits) (hs : List TrackedHart) (i : ℕ) (d : TrackedHart) → i < length hs → slice_index_or (map (commit_at commits) (ran_of hs)) i None ≡ commit_at commits (get_or hs i d).ran
committed_here commits [] i d lt = absurd (omega (arith, lt))
committed_here commits (h ∷ hs) zero d lt = refl
committed_here commits (h ∷ hs) (suc i) d lt = committed_here commits hs i d (omega (arith, lt))

pub none_here : (commits : Commits) (hs : List TrackedHart) (i : ℕ) → length hs ≤ i → slice_index_or (map (commit_at commits) (ran_of hs)) i None ≡ None
none_here commits [] i le = refl
none_here commits (h ∷ hs) zero le = absurd (omega (arith, le))
none_here commits (h ∷ hs) (suc i) le = none_here commits hs i (omega (arith, le))
