-- Tables that are read entry by entry.
use Rattle.std.proofs.Common.{◌≡◌, ℕ, suc, ◌+◌, ◌*◌, ◌<◌, ◌≤◌, List, [], ◌∷◌, ◌++◌, All, flat_map, length, get_or, take, drop, refl, ap, sym, subst, ◌∙◌, append_assoc, arith, below_more, inl, inr}
use Rattle.std.proofs.Math.Seq.{take-add}
use Rattle.std.proofs.lemmas.Bool.{cases_lt}
use Rattle.std.proofs.lemmas.List.{append-nil, get_or_append_left, get_or_push, length_push}
use Rattle.std.proofs.lemmas.List.Concat.{flat_map-append}
use Rattle.std.proofs.lemmas.List.Elements.{All-append, All-cons, All-nil, All-push}
use Rattle.fk_image.specs.Limits.{IsCommit, Rise}
use Rattle.fk_image.specs.Refusals.{IsFirstBad, IsNextCommit, commit_at, site_at, word_at}
use Rattle.fk_image.specs.Spelling.{IsWord, Spells, commit_words, site_words, word_bytes}
use Rattle.fk_image.specs.Tables.{IsAboveLast}
use Rattle.fk_image.proofs.Words.{IsBytes, word_at-lt, word_bytes-word_at}

-- one more word
pub Spells-word : (table : List ℕ) (place : ℕ) (words : List ℕ) → IsBytes table → 4 * place + 4 ≤ length table → Spells words (take (4 * place) table) → Spells (words ++ word_at table place ∷ []) (take (4 * (place + 1)) table)
Spells-word table place words fits within so_far =
    let word = word_at table place in
    let next : 4 * (place + 1) ≡ 4 * place + 4 = omega arith in
    let one : flat_map word_bytes (word ∷ []) ≡ take 4 (drop (4 * place) table) = simp append-nil (word_bytes-word_at table place fits within) in
    record {
      fit = All-append IsWord words (word ∷ []) so_far.fit (All-cons IsWord word [] (word_at-lt table place fits) (All-nil IsWord));
      spelling = flat_map-append word_bytes words (word ∷ [])
          ∙ ap (λ (xs : List ℕ). xs ++ flat_map word_bytes (word ∷ [])) so_far.spelling ∙ ap (λ (xs : List ℕ). take (4 * place) table ++ xs) one
          ∙ sym (take-add (4 * place) 4 table) ∙ ap (λ (n : ℕ). take n table) (sym next);
    }

-- one more site
pub Spells-site : (table : List ℕ) (i : ℕ) (sites : List (ℕ × ℕ × ℕ)) → IsBytes table → 12 * i + 12 ≤ length table → Spells (flat_map site_words sites) (take (12 * i) table) → Spells (flat_map site_words (sites ++ site_at table (3 * i) ∷ [])) (take (12 * (i + 1)) table)
Spells-site table i sites fits within so_far =
    let words = flat_map site_words sites in
    let p = 3 * i in
    let at_p : 12 * i ≡ 4 * p = omega arith in
    let one = Spells-word table p words fits (omega arith) (subst (λ (n : ℕ). Spells words (take n table)) at_p so_far) in
    let two = Spells-word table (p + 1) (words ++ word_at table p ∷ []) fits (omega arith) one in
    let three = Spells-word table (p + 2) (words ++ word_at table p ∷ [] ++ word_at table (p + 1) ∷ []) fits (omega arith) (subst (λ (n : ℕ). Spells (words ++ word_at table p ∷ [] ++ word_at table (p + 1) ∷ []) (take n table)) (omega arith) two) in
    let joined : words ++ word_at table p ∷ [] ++ word_at table (p + 1) ∷ [] ++ word_at table (p + 2) ∷ [] ≡ flat_map site_words (sites ++ site_at table p ∷ []) = simp append_assoc (sym (flat_map-append site_words sites (site_at table p ∷ []))) in
    let end : 4 * (p + 2 + 1) ≡ 12 * (i + 1) = omega arith in
    subst (λ (ws : List ℕ). Spells ws (take (12 * (i + 1)) table)) joined (subst (λ (n : ℕ). Spells (words ++ word_at table p ∷ [] ++ word_at table (p + 1) ∷ [] ++ word_at table (p + 2) ∷ []) (take n table)) end three)

-- one more commit
pub Spells-commit : (table : List ℕ) (i : ℕ) (commits : List (ℕ × ℕ)) → IsBytes table → 8 * i + 8 ≤ length table → Spells (flat_map commit_words commits) (take (8 * i) table) → Spells (flat_map commit_words (commits ++ commit_at table (2 * i) ∷ [])) (take (8 * (i + 1)) table)
Spells-commit table i commits fits within so_far =
    let words = flat_map commit_words commits in
    let p = 2 * i in
    let at_p : 8 * i ≡ 4 * p = omega arith in
    let one = Spells-word table p words fits (omega arith) (subst (λ (n : ℕ). Spells words (take n table)) at_p so_far) in
    let two = Spells-word table (p + 1) (words ++ word_at table p ∷ []) fits (omega arith) one in
    let joined : words ++ word_at table p ∷ [] ++ word_at table (p + 1) ∷ [] ≡ flat_map commit_words (commits ++ commit_at table p ∷ []) = simp append_assoc (sym (flat_map-append commit_words commits (commit_at table p ∷ []))) in
    let end : 4 * (p + 1 + 1) ≡ 8 * (i + 1) = omega arith in
    subst (λ (ws : List ℕ). Spells ws (take (8 * (i + 1)) table)) joined (subst (λ (n : ℕ). Spells (words ++ word_at table p ∷ [] ++ word_at table (p + 1) ∷ []) (take n table)) end two)

-- addresses that rise go on rising
pub Rise-push : (commits : List (ℕ × ℕ)) (c : ℕ × ℕ) → Rise commits → IsAboveLast commits c.0 → Rise (commits ++ c ∷ [])
Rise-push [] c rise above = tt
Rise-push (a ∷ []) c rise above = (above 0 a (omega arith), tt)
Rise-push (a ∷ b ∷ rest) c rise above = (rise.0, Rise-push (b ∷ rest) c rise.1 (λ k d e. above (suc k) d (omega (arith, e))))

-- the commits of the front of a table are these, and each may follow the one before
pub record HasCommits (words : ℕ) (table : List ℕ) (commits : List (ℕ × ℕ)) (i : ℕ) : Type 0 where
  pub spells : Spells (flat_map commit_words commits) (take (8 * i) table)
  pub limits : All (IsCommit words) commits
  pub rise : Rise commits
  pub count : length commits ≡ i
  pub items : (k : ℕ) (d : ℕ × ℕ) → k < i → get_or commits k d ≡ commit_at table (2 * k)
  pub good : (k : ℕ) → k < i → IsNextCommit words (λ j. commit_at table (2 * j)) k

pub HasCommits-none : (words : ℕ) (table : List ℕ) → HasCommits words table [] 0
HasCommits-none words table = record {
  spells = record { fit = All-nil IsWord; spelling = refl };
  limits = All-nil (IsCommit words);
  rise = tt;
  count = refl;
  items = λ k d h. absurd (omega arith);
  good = λ k h. absurd (omega arith);
}

-- the last of the commits is the one before the next
before-next : {words i : ℕ} {table : List ℕ} {commits : List (ℕ × ℕ)} → HasCommits words table commits i → IsAboveLast commits (commit_at table (2 * i)).0 → (k : ℕ) → k + 1 ≡ i → (commit_at table (2 * k)).0 < (commit_at table (2 * i)).0
before-next {words} {i} {table} {commits} has above k e =
    subst (λ (c : ℕ × ℕ). c.0 < (commit_at table (2 * i)).0) (has.items k (0, 0) (omega (arith, e))) (above k (0, 0) (omega (arith, e, has.count)))

pub HasCommits-push : {words i : ℕ} {table : List ℕ} {commits : List (ℕ × ℕ)} → IsBytes table → 8 * i + 8 ≤ length table → HasCommits words table commits i → IsCommit words (commit_at table (2 * i)) → IsAboveLast commits (commit_at table (2 * i)).0 → HasCommits words table (commits ++ commit_at table (2 * i) ∷ []) (i + 1)
HasCommits-push {words} {i} {table} {commits} fits within has limits above =
    let commit = commit_at table (2 * i) in
    record {
      spells = Spells-commit table i commits fits within has.spells;
      limits = All-push (IsCommit words) commits commit has.limits limits;
      rise = Rise-push commits commit has.rise above;
      count = omega (arith, length_push commits commit, has.count);
      items = λ k d h.
          elim (cases_lt k i) [
            | inl lt ↦ get_or_append_left commits (commit ∷ []) d k (omega (arith, lt, has.count)) ∙ has.items k d lt
            | inr le ↦ let last : k ≡ i = omega arith in ap (λ (j : ℕ). get_or (commits ++ commit ∷ []) j d) last ∙ get_or_push commits commit d i has.count ∙ ap (λ (j : ℕ). commit_at table (2 * j)) (sym last)
          ];
      good = below_more _ _ has.good (record { limits = limits; rises = before-next has above });
    }

-- a commit that may not follow is the first bad one
pub HasCommits-bad : {words i : ℕ} {table : List ℕ} {commits : List (ℕ × ℕ)} → HasCommits words table commits i → (IsCommit words (commit_at table (2 * i)) × IsAboveLast commits (commit_at table (2 * i)).0 → ⊥) → IsFirstBad 0 (IsNextCommit words (λ j. commit_at table (2 * j))) i
HasCommits-bad {words} {i} {table} {commits} has bad = record {
  behind = omega arith;
  bad = λ next.
      bad (next.limits, λ k d e. subst (λ (c : ℕ × ℕ). c.0 < (commit_at table (2 * i)).0) (sym (has.items k d (omega (arith, e, has.count)))) (next.rises k (omega (arith, e, has.count))));
  good_before = λ k from h. has.good k h;
}
