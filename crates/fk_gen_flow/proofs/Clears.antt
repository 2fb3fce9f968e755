-- What a call clears.
use Rattle.std.proofs.Common.{◌≡◌, ℕ, zero, suc, ◌+◌, ◌<◌, ◌≤◌, List, [], ◌∷◌, subst, ◌∙◌, arith, refl, inl, inr}
use Rattle.std.specs.Prelude.{◌⊎◌}
use Rattle.std.proofs.lemmas.Bool.{cases_lt}
use Rattle.fk_num.specs.Word.{Memory, put}
use Rattle.fk_meaning.specs.Request.{arguments}
use Rattle.fk_image.specs.declared.Image.{Image}
use Rattle.fk_machine.specs.Hart.{Hart, Setting}
use Rattle.fk_machine.proofs.Performs.{moves}
use Rattle.fk_sim_nodes.specs.Alone.{later}
use Rattle.fk_sim_block.specs.Stands.{local_address, zero_register, end_register}
use Rattle.fk_gen.specs.Lines.{at_private, clear_label}
use Rattle.fk_gen.proofs.Values.{same_word, other_word}
use Rattle.fk_gen_flow.specs.Calls.{clear_lines, most_privates, HasChain}
use Rattle.fk_gen_flow.proofs.Walk.{Comes, IsAbout, first, storing, near_word, sw_goes}

-- a private word of a new call that is no argument is 0
pub arguments_end : (n : ℕ) (vs : List ℕ) (a : ℕ) → n ≤ a → arguments n vs a ≡ 0
arguments_end zero vs a le = refl
arguments_end (suc n) [] a le = refl
arguments_end (suc n) (v ∷ vs) a le = other_word (arguments n vs) n v a (λ f. omega arith) ∙ arguments_end n vs a (omega arith)

-- a memory in which the first private words of a frame, which begins at word e, are 0
pub record Cleared (m m' : Memory) (e n : ℕ) : Type 0 where
  pub zeros : (a : ℕ) → a < n → m' (e + 7 + a) ≡ 0
  pub others : (j : ℕ) → ((j < e + 7) ⊎ (e + 7 + n ≤ j)) → m' j ≡ m j

cleared_more : (m m' : Memory) (e k v : ℕ) → v ≡ 0 → Cleared (put m (e + (7 + k)) v) m' e k → Cleared m m' e (suc k)
cleared_more m m' e k v zero' rest = record {
  zeros = λ a lt. by_case a lt (cases_lt a k);
  others = λ j out. apart j out;
}
  where
    w : ℕ
    w = e + (7 + k)

    by_case : (a : ℕ) → a < suc k → ((a < k) ⊎ (k ≤ a)) → m' (e + 7 + a) ≡ 0
    by_case a lt (inl less) = rest.zeros a less
    by_case a lt (inr more) =
        let here : w ≡ e + 7 + a = omega arith in
        subst (λ j. m' j ≡ 0) here (rest.others w (inr (omega arith)) ∙ same_word m w v ∙ zero')

    apart : (j : ℕ) → ((j < e + 7) ⊎ (e + 7 + suc k ≤ j)) → m' j ≡ m j
    apart j (inl lt) = rest.others j (inl lt) ∙ other_word m w v j (λ f. omega arith)
    apart j (inr le) = rest.others j (inr (omega arith)) ∙ other_word m w v j (λ f. omega arith)

-- how many cycles it takes, and what follows
abbrev pub clear_cycles : (n rest : ℕ) → ℕ
clear_cycles zero rest = rest
clear_cycles (suc k) rest = suc (clear_cycles k rest)

pub few_clears : (n rest : ℕ) → clear_cycles n rest ≡ n + rest
few_clears zero rest = omega arith
few_clears (suc k) rest = let e = few_clears k rest in omega arith

abbrev pub AfterClears : (image : Image) (number e n end rest : ℕ) (h : Hart) (Goal : Hart → Type 0) → Type 0
AfterClears image number e n end rest h Goal =
    (t' : Setting) (h' : Hart) → IsAbout image t' end h' → ((r : ℕ) → h'.registers r ≡ h.registers r)
    → Cleared h.local h'.local e n → Comes image t' number rest h' Goal

pub clears_come : (image : Image) (bound : ℕ → ℕ) (number e rest : ℕ) (Goal : Hart → Type 0) → HasChain image bound clear_label clear_lines 1 → e + 64 ≤ 16384
    → (n : ℕ) (t : Setting) (h : Hart) → n ≤ most_privates → IsAbout image t (bound (clear_label n)) h → h.registers zero_register ≡ 0 → h.registers end_register ≡ local_address e
    → AfterClears image number e n (bound (clear_label 0)) rest h Goal → Comes image t number (clear_cycles n rest) h Goal
clears_come image bound number e rest Goal chain few zero t h within about nought to next =
    next t h about (λ r. refl) (record { zeros = λ a lt. absurd (omega arith); others = λ j out. refl })
clears_come image bound number e rest Goal chain few (suc k) t h within about nought to next =
    let at = bound (clear_label (suc k)) in
    let lines = chain.parts k (omega arith) in
    let below = chain.next k (omega arith) in
    let w = e + (7 + k) in
    let m = put h.local w (h.registers zero_register) in
    let h1 : Hart = record (moves h) { local = m } in
    let about1 = storing image t at h m about lines.0.within in
    let at1 = about1.at in
    let about2 : IsAbout image (later t) (bound (clear_label k)) h1 = record { code = about1.code; live = about1.live; at = omega arith } in
    first image t number (clear_cycles k rest) at _ h h1 Goal about lines.0 (sw_goes t number 9 0 (at_private k) w h (near_word e (7 + k) w (h.registers end_register) (at_private k) to refl refl (omega arith)))
    (clears_come image bound number e rest Goal chain few k (later t) h1 (omega arith) about2 nought to
    (λ t' h' about' same cleared. next t' h' about' same (cleared_more h.local h'.local e k (h.registers zero_register) nought cleared)))
