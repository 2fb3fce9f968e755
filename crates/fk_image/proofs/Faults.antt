-- The fault of a table is that of the bytes.
use Rattle.std.proofs.Common.{◌≡◌, ℕ, ◌+◌, ◌*◌, ◌<◌, List, length, drop, sym, ap, subst, ◌∙◌, arith}
use Rattle.std.proofs.lemmas.List.{length-drop, length-take}
use Rattle.fk_image.specs.declared.fault.ImageFault.{ImageFault}
use Rattle.fk_image.specs.declared.fault.ImageFault.TheVariants.{Magic, Version, Short, LongTail, BadTable, BadWord, Memory}
use Rattle.fk_image.specs.declared.reading.Header.{Header}
use Rattle.fk_image.specs.Limits.{IsSite}
use Rattle.fk_image.specs.Refusals.{HasLength, IsFault, IsNextCommit, code_words, commit_at, commit_of, commits_place, site_at, site_count, site_of, sites_place, word_at}
use Rattle.fk_image.specs.Tables.{IsCommitFault, IsHeaderOf, IsSiteFault, commit_table, site_table}
use Rattle.fk_image.proofs.Words.{word_at-drop, word_at-take}

kind : (bytes : List ℕ) (k : ℕ) → k < site_count bytes → word_at (site_table bytes) (3 * k) ≡ word_at bytes (sites_place bytes + 3 * k)
kind bytes k within =
    word_at-take (drop (4 * sites_place bytes) bytes) (12 * site_count bytes) (3 * k) (omega arith) ∙ word_at-drop bytes (sites_place bytes) (3 * k)

-- a site of the table is one of the bytes
site-is : (bytes : List ℕ) (k : ℕ) → k < site_count bytes → IsSite (site_at (site_table bytes) (3 * k)) → IsSite (site_of bytes k)
site-is bytes k within is = let e = kind bytes k within in (omega (arith, e, is.0), omega (arith, e, is.1))

pub sites-are : (bytes : List ℕ) → HasLength bytes → ((k : ℕ) → 12 * k < length (site_table bytes) → IsSite (site_at (site_table bytes) (3 * k))) → (k : ℕ) → k < site_count bytes → IsSite (site_of bytes k)
sites-are bytes has are k within =
    site-is bytes k within (are k (omega (arith, within, has.1, length-take (12 * site_count bytes) (drop (4 * sites_place bytes) bytes), length-drop (4 * sites_place bytes) bytes)))

site-was : (bytes : List ℕ) (k : ℕ) → k < site_count bytes → IsSite (site_of bytes k) → IsSite (site_at (site_table bytes) (3 * k))
site-was bytes k within is = let e = kind bytes k within in (omega (arith, e, is.0), omega (arith, e, is.1))

pub site_fault-is : (bytes : List ℕ) (fault : ImageFault) → HasLength bytes → IsSiteFault (site_table bytes) fault → IsFault bytes fault
site_fault-is bytes (BadTable k) has f =
    let within : k < site_count bytes = omega (arith, f.0, length-take (12 * site_count bytes) (drop (4 * sites_place bytes) bytes)) in (
      has,
      (
        omega (arith, within),
        record {
          behind = omega arith;
          bad = λ e. f.1.bad (site-was bytes k within (e.site within));
          good_before = λ j from h. record {
            site = λ lt. site-is bytes j lt (f.1.good_before j (omega arith) h);
            commit = λ i e. absurd (omega (arith, e, h, within));
          };
        },
      ),
    )
site_fault-is bytes (Memory e) has f = tt
site_fault-is bytes Magic has f = absurd f
site_fault-is bytes (Version n) has f = absurd f
site_fault-is bytes (Short n m) has f = absurd f
site_fault-is bytes (LongTail n) has f = absurd f
site_fault-is bytes (BadWord n) has f = absurd f

commit-same : (bytes : List ℕ) (j : ℕ) → commit_at (commit_table bytes) (2 * j) ≡ commit_of bytes j
commit-same bytes j =
    let p = word_at-drop bytes (commits_place bytes) (2 * j) in
    let place : commits_place bytes + (2 * j + 1) ≡ commits_place bytes + 2 * j + 1 = omega arith in
    let q = word_at-drop bytes (commits_place bytes) (2 * j + 1) ∙ ap (word_at bytes) place in
    rw (p, q)

next-same : (words : ℕ) (f g : ℕ → ℕ × ℕ) → ((j : ℕ) → f j ≡ g j) → (k : ℕ) → IsNextCommit words f k → IsNextCommit words g k
next-same words f g same k next = record {
  limits = rw (← same k) next.limits;
  rises = λ before e. rw (← same before, ← same k) (next.rises before e);
}

pub commit_fault-is : (bytes : List ℕ) (header : Header) (fault : ImageFault) → HasLength bytes → IsHeaderOf bytes header → ((k : ℕ) → k < site_count bytes → IsSite (site_of bytes k)) → IsCommitFault header (commit_table bytes) fault → IsFault bytes fault
commit_fault-is bytes header (BadTable entry) has of sites f =
    let k = f.0 in
    let at : entry ≡ site_count bytes + k = f.1 ∙ ap (λ (s : ℕ). s + k) of.sites in
    let first = f.3 in (
      has,
      (
        omega (arith, at, f.2, has.1, length-drop (4 * commits_place bytes) bytes),
        record {
          behind = omega arith;
          bad = λ e.
              first.bad (subst (λ (c : ℕ). IsNextCommit c (λ j. commit_at (commit_table bytes) (2 * j)) k) (sym of.code)
              (next-same (code_words bytes) (commit_of bytes) (λ j. commit_at (commit_table bytes) (2 * j)) (λ j. sym (commit-same bytes j)) k (e.commit k at)));
          good_before = λ e from h. record {
            site = λ lt. sites e lt;
            commit = λ j is.
                next-same (code_words bytes) (λ i. commit_at (commit_table bytes) (2 * i)) (commit_of bytes) (commit-same bytes) j
                (subst (λ (c : ℕ). IsNextCommit c (λ i. commit_at (commit_table bytes) (2 * i)) j) of.code (first.good_before j (omega arith) (omega (arith, is, at, h))));
          };
        },
      ),
    )
commit_fault-is bytes header (Memory e) has of sites f = tt
commit_fault-is bytes header Magic has of sites f = absurd f
commit_fault-is bytes header (Version n) has of sites f = absurd f
commit_fault-is bytes header (Short n m) has of sites f = absurd f
commit_fault-is bytes header (LongTail n) has of sites f = absurd f
commit_fault-is bytes header (BadWord n) has of sites f = absurd f
