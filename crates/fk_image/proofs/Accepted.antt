-- The bytes of an image are not refused.
use Rattle.std.proofs.Common.{◌≡◌, ℕ, zero, suc, ◌+◌, ◌*◌, ◌<◌, ◌≤◌, List, [], ◌∷◌, ◌++◌, All, codes, flat_map, get_or, length, take, drop, vec_len, refl, sym, ap, subst, ◌∙◌, arith, inl, inr}
use Rattle.std.proofs.lemmas.List.{append_assoc, get_or_append_left, get_or-append-add, length-append, length-take-le, take-append-drop}
use Rattle.std.proofs.lemmas.List.Concat.{flat_map-append}
use Rattle.std.proofs.Math.Seq.{drop-cons}
use Rattle.fk_image.specs.declared.Image.{Image}
use Rattle.fk_image.specs.declared.fault.ImageFault.{ImageFault}
use Rattle.fk_image.specs.declared.fault.ImageFault.TheVariants.{Magic, Version, Short, LongTail, BadTable, BadWord, Memory}
use Rattle.fk_image.specs.Limits.{IsCommit, Rise}
use Rattle.fk_image.specs.Refusals.{HasLength, IsEntry, IsNextCommit, IsRefusedImage, IsHeaderWord, code_words, commit_count, commit_of, commits_place, global_words, site_count, sites_place, word_at}
use Rattle.fk_image.specs.Spelling.{IsImageOf, IsWord, commit_words, header_words, image_words, site_words, word_bytes}
use Rattle.fk_image.proofs.Commits.{few_of_image}
use Rattle.fk_image.proofs.Images.{length-commits, length-sites, length-words}
use Rattle.fk_image.proofs.Same.{pair-same}
use Rattle.fk_image.proofs.Words.{word_at-spelled}

-- a word that stands behind the first
at-place : (words : List ℕ) (i : ℕ) → All IsWord words → i < length words → word_at (codes "FK95" ++ flat_map word_bytes words) (i + 1) ≡ get_or words i 0
at-place words i fit within =
    let word = get_or words i 0 in
    let split : words ≡ take i words ++ word ∷ drop (suc i) words = sym (take-append-drop i words) ∙ ap (λ (ws : List ℕ). take i words ++ ws) (drop-cons words i 0 within) in
    let before = codes "FK95" ++ flat_map word_bytes (take i words) in
    let behind = flat_map word_bytes (drop (suc i) words) in
    let spelling : codes "FK95" ++ flat_map word_bytes words ≡ before ++ (word_bytes word ++ behind) = ap (λ (ws : List ℕ). codes "FK95" ++ flat_map word_bytes ws) split ∙ ap (λ (bs : List ℕ). codes "FK95" ++ bs) (flat_map-append word_bytes (take i words) (word ∷ drop (suc i) words)) ∙ sym (append_assoc (codes "FK95") (flat_map word_bytes (take i words)) (word_bytes word ++ behind)) in
    let size : length before ≡ 4 * (i + 1) = omega (arith, length-words (take i words), length-take-le i words (omega arith)) in
    ap (λ (bs : List ℕ). word_at bs (i + 1)) spelling ∙ word_at-spelled before behind (i + 1) word size (fit i 0 within)

at-fourth : (a b c d e : List ℕ) (n j : ℕ) → n ≡ length a + length b + length c + j → j < length d → get_or (a ++ b ++ c ++ d ++ e) n 0 ≡ get_or d j 0
at-fourth a b c d e n j at within =
    let ab = length-append a b in
    let abc = length-append (a ++ b) c in
    let abcd = length-append (a ++ b ++ c) d in
    let place : n ≡ length (a ++ b ++ c) + j = omega arith in
    get_or_append_left (a ++ b ++ c ++ d) e 0 n (omega arith) ∙ ap (λ (m : ℕ). get_or (a ++ b ++ c ++ d) m 0) place ∙ get_or-append-add (a ++ b ++ c) d j 0

at-fifth : (a b c d e : List ℕ) (n j : ℕ) → n ≡ length a + length b + length c + length d + j → get_or (a ++ b ++ c ++ d ++ e) n 0 ≡ get_or e j 0
at-fifth a b c d e n j at =
    let ab = length-append a b in
    let abc = length-append (a ++ b) c in
    let abcd = length-append (a ++ b ++ c) d in
    let place : n ≡ length (a ++ b ++ c ++ d) + j = omega arith in
    ap (λ (m : ℕ). get_or (a ++ b ++ c ++ d ++ e) m 0) place ∙ get_or-append-add (a ++ b ++ c ++ d) e j 0

-- the words of the entries of a table
kind-at : (sites : List (ℕ × ℕ × ℕ)) (k : ℕ) (d : ℕ × ℕ × ℕ) → k < length sites → get_or (flat_map site_words sites) (3 * k) 0 ≡ (get_or sites k d).0
kind-at [] k d within = absurd (omega arith)
kind-at (s ∷ ss) zero d within = refl
kind-at (s ∷ ss) (suc k) d within =
    let next : 3 * suc k ≡ suc (suc (suc (3 * k))) = omega arith in
    ap (λ (n : ℕ). get_or (flat_map site_words (s ∷ ss)) n 0) next ∙ kind-at ss k d (omega arith)

address-at : (commits : List (ℕ × ℕ)) (k : ℕ) (d : ℕ × ℕ) → k < length commits → get_or (flat_map commit_words commits) (2 * k) 0 ≡ (get_or commits k d).0
address-at [] k d within = absurd (omega arith)
address-at (c ∷ cs) zero d within = refl
address-at (c ∷ cs) (suc k) d within =
    let next : 2 * suc k ≡ suc (suc (2 * k)) = omega arith in
    ap (λ (n : ℕ). get_or (flat_map commit_words (c ∷ cs)) n 0) next ∙ address-at cs k d (omega arith)

word-at : (commits : List (ℕ × ℕ)) (k : ℕ) (d : ℕ × ℕ) → k < length commits → get_or (flat_map commit_words commits) (2 * k + 1) 0 ≡ (get_or commits k d).1
word-at [] k d within = absurd (omega arith)
word-at (c ∷ cs) zero d within = refl
word-at (c ∷ cs) (suc k) d within =
    let next : 2 * suc k + 1 ≡ suc (suc (2 * k + 1)) = omega arith in
    ap (λ (n : ℕ). get_or (flat_map commit_words (c ∷ cs)) n 0) next ∙ word-at cs k d (omega arith)

rises-at : (commits : List (ℕ × ℕ)) (k : ℕ) (d : ℕ × ℕ) → Rise commits → k + 1 < length commits → (get_or commits k d).0 < (get_or commits (suc k) d).0
rises-at [] k d rise within = absurd (omega arith)
rises-at (a ∷ []) k d rise within = absurd (omega arith)
rises-at (a ∷ b ∷ rest) zero d rise within = rise.0
rises-at (a ∷ b ∷ rest) (suc k) d rise within = rises-at (b ∷ rest) k d rise.1 (omega arith)

-- what the bytes of an image say
record Says (bytes : List ℕ) (image : Image) : Type 0 where
  pub version : word_at bytes 1 ≡ 1
  pub code : code_words bytes ≡ vec_len image.code
  pub globals : global_words bytes ≡ vec_len image.globals
  pub sites : site_count bytes ≡ vec_len image.sites
  pub commits : commit_count bytes ≡ vec_len image.commits

long : (image : Image) → length (image_words image) ≡ 5 + vec_len image.code + vec_len image.globals + 3 * vec_len image.sites + 2 * vec_len image.commits
long image =
    let code = image.code.items in
    let globals = image.globals.items in
    let sites = flat_map site_words image.sites.items in
    let commits = flat_map commit_words image.commits.items in
    omega (arith, length-append code globals, length-append (code ++ globals) sites, length-append (code ++ globals ++ sites) commits, length-sites image.sites.items, length-commits image.commits.items, image.code.ok.0, image.globals.ok.0, image.sites.ok.0, image.commits.ok.0)

at : (bytes : List ℕ) (image : Image) (i : ℕ) → IsImageOf bytes image → i < length (image_words image) → word_at bytes (i + 1) ≡ get_or (image_words image) i 0
at bytes image i is within =
    ap (λ (bs : List ℕ). word_at bs (i + 1)) is.spelling ∙ at-place (image_words image) i is.words within

says : (bytes : List ℕ) (image : Image) → IsImageOf bytes image → Says bytes image
says bytes image is =
    let size = long image in
    record {
      version = at bytes image 0 is (omega (arith, size));
      code = at bytes image 1 is (omega (arith, size));
      globals = at bytes image 2 is (omega (arith, size));
      sites = at bytes image 3 is (omega (arith, size));
      commits = at bytes image 4 is (omega (arith, size));
    }

each-index : (P : ℕ → Type 0) → P 2 → P 3 → P 4 → P 5 → (index : ℕ) → 2 ≤ index → index ≤ 5 → P index
each-index P p q r s zero low high = absurd (omega arith)
each-index P p q r s (suc zero) low high = absurd (omega arith)
each-index P p q r s (suc (suc zero)) low high = p
each-index P p q r s (suc (suc (suc zero))) low high = q
each-index P p q r s (suc (suc (suc (suc zero)))) low high = r
each-index P p q r s (suc (suc (suc (suc (suc zero))))) low high = s
each-index P p q r s (suc (suc (suc (suc (suc (suc n)))))) low high = absurd (omega arith)

has_length : (bytes : List ℕ) (image : Image) → IsImageOf bytes image → HasLength bytes
has_length bytes image is =
    let says = says bytes image is in
    let few = few_of_image image is.limits in
    let size : length bytes ≡ 4 + 4 * length (image_words image) = ap length is.spelling ∙ omega (arith, length-words (image_words image)) in
    let total = long image in
    let magic : take 4 bytes ≡ codes "FK95" = ap (take 4) is.spelling in
    let index = each-index (IsHeaderWord bytes) (omega (arith, says.code, is.limits.some_code), omega (arith, says.code, is.limits.code)) (omega arith, omega (arith, says.globals, is.limits.globals)) (omega arith, omega (arith, says.sites, is.limits.few_sites)) (omega arith, omega (arith, says.commits, says.code, few)) in
    ((((omega (arith, size, total), magic), says.version), index), omega (arith, size, total, says.code, says.globals, says.sites, says.commits))

-- a site's kind, and a commit
kind-says : (bytes : List ℕ) (image : Image) (k : ℕ) → IsImageOf bytes image → k < vec_len image.sites → word_at bytes (sites_place bytes + 3 * k) ≡ (get_or image.sites.items k (0, 0, 0)).0
kind-says bytes image k is within =
    let says = says bytes image is in
    let sites = image.sites.items in
    let i = 5 + vec_len image.code + vec_len image.globals + 3 * k in
    let place : sites_place bytes + 3 * k ≡ i + 1 = omega (arith, says.code, says.globals) in
    ap (word_at bytes) place ∙ at bytes image i is (omega (arith, long image))
    ∙ at-fourth (header_words image) image.code.items image.globals.items (flat_map site_words sites) (flat_map commit_words image.commits.items) i (3 * k) (omega (arith, image.code.ok.0, image.globals.ok.0)) (omega (arith, length-sites sites, image.sites.ok.0))
    ∙ kind-at sites k (0, 0, 0) (omega (arith, image.sites.ok.0))

commit-word : (bytes : List ℕ) (image : Image) (j : ℕ) → IsImageOf bytes image → j < 2 * vec_len image.commits → word_at bytes (commits_place bytes + j) ≡ get_or (flat_map commit_words image.commits.items) j 0
commit-word bytes image j is within =
    let says = says bytes image is in
    let i = 5 + vec_len image.code + vec_len image.globals + 3 * vec_len image.sites + j in
    let place : commits_place bytes + j ≡ i + 1 = omega (arith, says.code, says.globals, says.sites) in
    ap (word_at bytes) place ∙ at bytes image i is (omega (arith, long image))
    ∙ at-fifth (header_words image) image.code.items image.globals.items (flat_map site_words image.sites.items) (flat_map commit_words image.commits.items) i j (omega (arith, image.code.ok.0, image.globals.ok.0, image.sites.ok.0, length-sites image.sites.items))

commit-says : (bytes : List ℕ) (image : Image) (k : ℕ) → IsImageOf bytes image → k < vec_len image.commits → commit_of bytes k ≡ get_or image.commits.items k (0, 0)
commit-says bytes image k is within =
    let commits = image.commits.items in
    let next : commits_place bytes + 2 * k + 1 ≡ commits_place bytes + (2 * k + 1) = omega arith in
    pair-same (commit_of bytes k) (get_or commits k (0, 0)) (commit-word bytes image (2 * k) is (omega arith) ∙ address-at commits k (0, 0) (omega (arith, image.commits.ok.0))) (ap (word_at bytes) next ∙ commit-word bytes image (2 * k + 1) is (omega arith) ∙ word-at commits k (0, 0) (omega (arith, image.commits.ok.0)))

next : (bytes : List ℕ) (image : Image) (k : ℕ) → IsImageOf bytes image → k < vec_len image.commits → IsNextCommit (code_words bytes) (commit_of bytes) k
next bytes image k is within =
    let commits = image.commits.items in
    let code : code_words bytes ≡ vec_len image.code = (says bytes image is).code in
    record {
      limits = subst (λ (n : ℕ). IsCommit n (commit_of bytes k)) (sym code) (subst (λ (c : ℕ × ℕ). IsCommit (vec_len image.code) c) (sym (commit-says bytes image k is within)) (is.limits.commits k (0, 0) (omega (arith, image.commits.ok.0))));
      rises = λ before e.
          let here : (commit_of bytes k).0 ≡ (get_or commits (suc before) (0, 0)).0 = ap (λ (c : ℕ × ℕ). c.0) (commit-says bytes image k is within) ∙ ap (λ (j : ℕ). (get_or commits j (0, 0)).0) (omega (arith, e)) in
          let there : (commit_of bytes before).0 ≡ (get_or commits before (0, 0)).0 = ap (λ (c : ℕ × ℕ). c.0) (commit-says bytes image before is (omega (arith, e))) in
          omega (arith, here, there, rises-at commits before (0, 0) is.limits.rise (omega (arith, e, image.commits.ok.0)));
    }

entry : (bytes : List ℕ) (image : Image) (n : ℕ) → IsImageOf bytes image → n < site_count bytes + commit_count bytes → IsEntry bytes n
entry bytes image n is within =
    let says = says bytes image is in
    record {
      site = λ lt.
          let inside : n < vec_len image.sites = omega (arith, says.sites) in
          let kind = kind-says bytes image n is inside in
          let good = is.limits.sites n (0, 0, 0) (omega (arith, image.sites.ok.0)) in
          (omega (arith, kind, good.0), omega (arith, kind, good.1));
      commit = λ k e. next bytes image k is (omega (arith, says.commits, says.sites, e));
    }

-- with a header, its length and good entries nothing is refused
never : (bytes : List ℕ) (fault : ImageFault) → HasLength bytes → ((n : ℕ) → n < site_count bytes + commit_count bytes → IsEntry bytes n) → IsRefusedImage bytes fault → ⊥
never bytes (Short size wanted) has entries refused =
    elim refused.1 [
      | inl e ↦ omega (arith, e, refused.0.0, refused.0.1, has.0.0.0.0)
      | inr e ↦ omega (arith, e.1, refused.0.0, refused.0.1, has.1)
    ]
never bytes Magic has entries refused = refused.1 has.0.0.0.1
never bytes (Version n) has entries refused = refused.1.1 (refused.1.0 ∙ has.0.0.1)
never bytes (BadWord index) has entries refused =
    refused.1.1.bad (has.0.1 index refused.1.1.behind refused.1.0)
never bytes (LongTail wanted) has entries refused = omega (arith, refused.1.0, refused.1.1, has.1)
never bytes (BadTable n) has entries refused = refused.1.1.bad (entries n refused.1.0)
never bytes (Memory e) has entries refused = refused

pub no_refusal : (bytes : List ℕ) (image : Image) (fault : ImageFault) → IsImageOf bytes image → IsRefusedImage bytes fault → ⊥
no_refusal bytes image fault is refused =
    never bytes fault (has_length bytes image is) (λ n within. entry bytes image n is within) refused
