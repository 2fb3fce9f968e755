-- The fault of a file's parts, in the order of an image, is that of the file.
use Rattle.std.proofs.Common.{◌≡◌, ◌≢◌, ℕ, zero, suc, ◌+◌, ◌*◌, ◌/◌, ◌<◌, ◌≤◌, List, [], ◌∷◌, ◌++◌, flat_map, get_or, length, drop, vec_len, refl, sym, ap, ◌∙◌, arith, inl, inr}
use Rattle.std.specs.declared.alloc.AllocError.{AllocError}
use Rattle.std.proofs.lemmas.Bool.{cases_lt}
use Rattle.std.proofs.lemmas.List.{get_or-take, length-append, length-drop, length-take}
use Rattle.fk_image.specs.declared.Image.{Image}
use Rattle.fk_image.specs.declared.fault.ImageFault.{ImageFault}
use Rattle.fk_image.specs.declared.fault.ImageFault.TheVariants.{Magic, Version, Short, LongTail, BadTable, BadWord, Memory}
use Rattle.fk_image.specs.Refusals as image_file
use Rattle.fk_image.specs.Refusals.{IsFirstBad, IsNextCommit, word_at}
use Rattle.fk_image.specs.Spelling.{word_bytes}
use Rattle.fk_image.proofs.Accepted as accepted
use Rattle.fk_image.proofs.Commits.{few_of_image}
use Rattle.fk_image.proofs.Same.{pair-same}
use Rattle.fk_image.proofs.Words.{word_at-drop, word_at-take}
use Rattle.fk_elf.specs.declared.fault.ElfFault.{ElfFault}
use Rattle.fk_elf.specs.declared.fault.ElfFault.TheVariants.{ElfHeader, ElfShort, ElfTail, ElfSizes, ElfTable}
use Rattle.fk_elf.specs.declared.fault.ElfFault.TheVariants.{Memory as ElfMemory}
use Rattle.fk_elf.specs.Files.{IsElfOf, entry_bytes, header_bytes}
use Rattle.fk_elf.specs.Parts.{content_part, count_part, entry_part, image_bytes, image_front}
use Rattle.fk_elf.specs.Refusals.{HasBadSizes, HasHeader, HasLength, HasSizes, IsEntry, IsRefusedElf, code_size, code_words, commit_count, commit_of, counts_place, entry_size, global_size, site_count, site_of}
use Rattle.fk_elf.proofs.Files.{file-begins, file-long, image-counts, image-of, small}
use Rattle.fk_elf.proofs.Headers.{code-size, entry-size, global-size}
use Rattle.fk_elf.proofs.Parts.{cut, length-front}
use Rattle.fk_elf.proofs.Words.{word-in}

-- what the parts say, in the order of an image
record Agrees (bytes : List ℕ) : Type 0 where
  pub version : word_at (image_bytes bytes) 1 ≡ 1
  pub code : image_file.code_words (image_bytes bytes) ≡ code_words bytes
  pub globals : image_file.global_words (image_bytes bytes) ≡ global_size bytes / 4
  pub sites : image_file.site_count (image_bytes bytes) ≡ site_count bytes
  pub commits : image_file.commit_count (image_bytes bytes) ≡ commit_count bytes
  pub entry : (j : ℕ) → word_at (image_bytes bytes) (6 + code_words bytes + global_size bytes / 4 + j) ≡ word_at bytes (counts_place bytes + 2 + j)
  pub long : length (image_bytes bytes) + 132 ≡ length bytes

agrees : (bytes : List ℕ) → HasLength bytes → Agrees bytes
agrees bytes has =
    let a = code-size bytes has.0 in
    let b = global-size bytes has.0 in
    let c = entry-size bytes has.0 in
    let image = image_bytes bytes in
    let size = code_size bytes + global_size bytes in
    let words = code_size bytes / 4 + global_size bytes / 4 in
    let rest = count_part bytes ++ (content_part bytes ++ entry_part bytes) in
    let counted : length (count_part bytes) ≡ 8 = omega (arith, has.1, c.least, length-take 8 (drop (148 + size) bytes), length-drop (148 + size) bytes) in
    let filled : length (content_part bytes) ≡ size = omega (arith, has.1, length-take size (drop 148 bytes), length-drop 148 bytes) in
    let parts = cut (image_front (code_size bytes) (global_size bytes)) (count_part bytes) (content_part bytes) (entry_part bytes) 16 8 size (length-front (code_size bytes) (global_size bytes)) counted filled in
    let front = 1 ∷ code_size bytes / 4 ∷ global_size bytes / 4 ∷ [] in
    let behind : drop 4 image ≡ flat_map word_bytes front ++ rest = refl in
    let count : (j : ℕ) → j < 2 → word_at image (4 + j) ≡ word_at bytes (counts_place bytes + j) = λ j h.
    let at : 148 + size ≡ 4 * counts_place bytes = omega (arith, a.aligned, b.aligned) in
    sym (word_at-drop image 4 j) ∙ sym (word_at-take (drop 16 image) 8 j (omega (arith, h))) ∙ ap (λ (xs : List ℕ). word_at xs j) parts.first
    ∙ word_at-take (drop (148 + size) bytes) 8 j (omega (arith, h)) ∙ ap (λ (n : ℕ). word_at (drop n bytes) j) at ∙ word_at-drop bytes (counts_place bytes) j in
    let first : (j : ℕ) → word_at image (1 + j) ≡ word_at (flat_map word_bytes front ++ rest) j = λ j. sym (word_at-drop image 1 j) ∙ ap (λ (xs : List ℕ). word_at xs j) behind in
    let zero_on : counts_place bytes + 0 ≡ counts_place bytes = omega arith in
    record {
      version = first 0 ∙ word-in front rest 0 (omega arith) (omega arith);
      code = first 1 ∙ word-in front rest 1 (omega (arith, a.most)) (omega arith);
      globals = first 2 ∙ word-in front rest 2 (omega (arith, b.most)) (omega arith);
      sites = count 0 (omega arith) ∙ ap (word_at bytes) zero_on;
      commits = count 1 (omega arith);
      entry = λ j.
          let here : 6 + code_words bytes + global_size bytes / 4 + j ≡ 6 + words + j = omega arith in
          let from : 4 * (6 + words) ≡ 16 + 8 + size = omega (arith, a.aligned, b.aligned) in
          let to : 156 + size ≡ 4 * (counts_place bytes + 2) = omega (arith, a.aligned, b.aligned) in
          ap (word_at image) here ∙ sym (word_at-drop image (6 + words) j) ∙ ap (λ (n : ℕ). word_at (drop n image) j) from ∙ ap (λ (xs : List ℕ). word_at xs j) parts.third
          ∙ ap (λ (n : ℕ). word_at (drop n bytes) j) to ∙ word_at-drop bytes (counts_place bytes + 2) j;
      long = omega (arith, has.1, c.least, counted, filled, length-front (code_size bytes) (global_size bytes), length-append (image_front (code_size bytes) (global_size bytes)) rest, length-append (count_part bytes) (content_part bytes ++ entry_part bytes), length-append (content_part bytes) (entry_part bytes), length-drop (156 + size) bytes);
    }

-- entries of both are the same
site-word : (bytes : List ℕ) (k : ℕ) → Agrees bytes → (image_file.site_of (image_bytes bytes) k).0 ≡ (site_of bytes k).0
site-word bytes k agree =
    let at : image_file.sites_place (image_bytes bytes) + 3 * k ≡ 6 + code_words bytes + global_size bytes / 4 + 3 * k = omega (arith, agree.code, agree.globals) in
    ap (word_at (image_bytes bytes)) at ∙ agree.entry (3 * k)

commit-same : (bytes : List ℕ) (k : ℕ) → Agrees bytes → image_file.commit_of (image_bytes bytes) k ≡ commit_of bytes k
commit-same bytes k agree =
    let image = image_bytes bytes in
    let j = 3 * site_count bytes + 2 * k in
    let from : image_file.commits_place image + 2 * k ≡ 6 + code_words bytes + global_size bytes / 4 + j = omega (arith, agree.code, agree.globals, agree.sites) in
    let from_next : image_file.commits_place image + 2 * k + 1 ≡ 6 + code_words bytes + global_size bytes / 4 + (j + 1) = omega (arith, agree.code, agree.globals, agree.sites) in
    let to : counts_place bytes + 2 + j ≡ counts_place bytes + 2 + 3 * site_count bytes + 2 * k = omega arith in
    let to_next : counts_place bytes + 2 + (j + 1) ≡ counts_place bytes + 2 + 3 * site_count bytes + 2 * k + 1 = omega arith in
    pair-same (image_file.commit_of image k) (commit_of bytes k) (ap (word_at image) from ∙ agree.entry j ∙ ap (word_at bytes) to) (ap (word_at image) from_next ∙ agree.entry (j + 1) ∙ ap (word_at bytes) to_next)

next-same : (words others : ℕ) (f g : ℕ → ℕ × ℕ) → words ≡ others → ((j : ℕ) → f j ≡ g j) → (k : ℕ) → IsNextCommit words f k → IsNextCommit others g k
next-same words others f g e same k next = record {
  limits = rw (← e, ← same k) next.limits;
  rises = λ before e. rw (← same before, ← same k) (next.rises before e);
}

entry-to : (bytes : List ℕ) (n : ℕ) → Agrees bytes → image_file.IsEntry (image_bytes bytes) n → IsEntry bytes n
entry-to bytes n agree is = record {
  site = λ lt.
      let good = is.site (omega (arith, lt, agree.sites)) in
      let e = site-word bytes n agree in
      (omega (arith, e, good.0), omega (arith, e, good.1));
  commit = λ k e. next-same _ _ _ _ agree.code (λ j. commit-same bytes j agree) k (is.commit k (omega (arith, e, agree.sites)));
}

entry-from : (bytes : List ℕ) (n : ℕ) → Agrees bytes → IsEntry bytes n → image_file.IsEntry (image_bytes bytes) n
entry-from bytes n agree is = record {
  site = λ lt.
      let good = is.site (omega (arith, lt, agree.sites)) in
      let e = site-word bytes n agree in
      (omega (arith, e, good.0), omega (arith, e, good.1));
  commit = λ k e. next-same _ _ _ _ (sym agree.code) (λ j. sym (commit-same bytes j agree)) k (is.commit k (omega (arith, e, agree.sites)));
}

-- the sizes fit exactly where the parts have the length of an image
sizes-to : (bytes : List ℕ) → HasLength bytes → image_file.HasLength (image_bytes bytes) → HasSizes bytes
sizes-to bytes has is =
    let agree = agrees bytes has in
    let a = code-size bytes has.0 in
    let b = global-size bytes has.0 in
    let sites = (is.0.1 4 (omega arith) (omega arith)).1 in
    let commits = (is.0.1 5 (omega arith) (omega arith)).1 in
    (has, omega (arith, sites, agree.sites), omega (arith, commits, agree.commits, agree.code), omega (arith, is.1, has.1, agree.long, agree.code, agree.globals, agree.sites, agree.commits, a.aligned, b.aligned))

-- an image's bytes are as long as its header asks, or its file has bad sizes
sizes-differ : (bytes : List ℕ) → HasLength bytes → length (image_bytes bytes) ≢ image_file.needed (image_bytes bytes) → HasBadSizes bytes
sizes-differ bytes has differ =
    let agree = agrees bytes has in
    let a = code-size bytes has.0 in
    let b = global-size bytes has.0 in
    inr (inr (λ e. differ (omega (arith, e, has.1, agree.long, agree.code, agree.globals, agree.sites, agree.commits, a.aligned, b.aligned))))

bad-word : (bytes : List ℕ) (index : ℕ) → HasLength bytes → index ≤ 5 → 2 ≤ index → (image_file.IsHeaderWord (image_bytes bytes) index → ⊥) → HasBadSizes bytes
bad-word bytes zero has high low bad = absurd (omega arith)
bad-word bytes (suc zero) has high low bad = absurd (omega arith)
bad-word bytes (suc (suc zero)) has high low bad =
    let agree = agrees bytes has in
    let a = code-size bytes has.0 in
    absurd (bad (omega (arith, agree.code, a.least), omega (arith, agree.code, a.most)))
bad-word bytes (suc (suc (suc zero))) has high low bad =
    let agree = agrees bytes has in
    let b = global-size bytes has.0 in
    absurd (bad (omega arith, omega (arith, agree.globals, b.most)))
bad-word bytes (suc (suc (suc (suc zero)))) has high low bad =
    let agree = agrees bytes has in
    elim (cases_lt 16000 (site_count bytes)) [
      | inl lt ↦ inl lt
      | inr le ↦ absurd (bad (omega arith, omega (arith, agree.sites, le)))
    ]
bad-word bytes (suc (suc (suc (suc (suc zero))))) has high low bad =
    let agree = agrees bytes has in
    elim (cases_lt (code_words bytes) (commit_count bytes)) [
      | inl lt ↦ inr (inl lt)
      | inr le ↦ absurd (bad (omega arith, omega (arith, agree.commits, agree.code, le)))
    ]
bad-word bytes (suc (suc (suc (suc (suc (suc n)))))) has high low bad = absurd (omega arith)

-- each fault of the parts
pub magic : (bytes : List ℕ) → image_file.IsRefusedImage (image_bytes bytes) Magic → ⊥
magic bytes f = f.1 refl

pub version : (bytes : List ℕ) (n : ℕ) → HasLength bytes → image_file.IsRefusedImage (image_bytes bytes) (Version n) → ⊥
version bytes n has f = f.1.1 (f.1.0 ∙ (agrees bytes has).version)

pub short : (bytes : List ℕ) (size wanted : ℕ) → HasLength bytes → image_file.IsRefusedImage (image_bytes bytes) (Short size wanted) → HasBadSizes bytes
short bytes size wanted has f =
    let agree = agrees bytes has in
    let c = entry-size bytes has.0 in
    elim f.1 [
      | inl e ↦ absurd (omega (arith, e, f.0.0, f.0.1, agree.long, has.1, c.least))
      | inr e ↦ sizes-differ bytes has (λ same. omega (arith, same, e.1, f.0.0, f.0.1))
    ]

pub long_tail : (bytes : List ℕ) (wanted : ℕ) → HasLength bytes → image_file.IsRefusedImage (image_bytes bytes) (LongTail wanted) → HasBadSizes bytes
long_tail bytes wanted has f =
    sizes-differ bytes has (λ same. omega (arith, same, f.1.0, f.1.1))

pub bad_word : (bytes : List ℕ) (index : ℕ) → HasLength bytes → image_file.IsRefusedImage (image_bytes bytes) (BadWord index) → HasBadSizes bytes
bad_word bytes index has f = bad-word bytes index has f.1.0 f.1.1.behind f.1.1.bad

pub bad_table : (bytes : List ℕ) (entry : ℕ) → HasLength bytes → image_file.IsRefusedImage (image_bytes bytes) (BadTable entry) → IsRefusedElf bytes (ElfTable entry)
bad_table bytes entry has f =
    let agree = agrees bytes has in (
      sizes-to bytes has f.0,
      omega (arith, f.1.0, agree.sites, agree.commits),
      record {
        behind = omega arith;
        bad = λ is. f.1.1.bad (entry-from bytes entry agree is);
        good_before = λ k from h. entry-to bytes k agree (f.1.1.good_before k from h);
      },
    )

-- the other way, for the laws: parts with sizes that fit have the length of an image
word-within : (bytes : List ℕ) (index : ℕ) → HasSizes bytes → 2 ≤ index → index ≤ 5 → image_file.IsHeaderWord (image_bytes bytes) index
word-within bytes zero fit low high = absurd (omega arith)
word-within bytes (suc zero) fit low high = absurd (omega arith)
word-within bytes (suc (suc zero)) fit low high =
    let agree = agrees bytes fit.0 in
    let a = code-size bytes fit.0.0 in
    (omega (arith, agree.code, a.least), omega (arith, agree.code, a.most))
word-within bytes (suc (suc (suc zero))) fit low high =
    let agree = agrees bytes fit.0 in
    let b = global-size bytes fit.0.0 in
    (omega arith, omega (arith, agree.globals, b.most))
word-within bytes (suc (suc (suc (suc zero)))) fit low high =
    let agree = agrees bytes fit.0 in
    (omega arith, omega (arith, agree.sites, fit.1))
word-within bytes (suc (suc (suc (suc (suc zero))))) fit low high =
    let agree = agrees bytes fit.0 in
    (omega arith, omega (arith, agree.commits, agree.code, fit.2))
word-within bytes (suc (suc (suc (suc (suc (suc n)))))) fit low high = absurd (omega arith)

sizes-from : (bytes : List ℕ) → HasSizes bytes → image_file.HasLength (image_bytes bytes)
sizes-from bytes fit =
    let has = fit.0 in
    let agree = agrees bytes has in
    let a = code-size bytes has.0 in
    let b = global-size bytes has.0 in
    let c = entry-size bytes has.0 in
    ((((omega (arith, agree.long, has.1, c.least), refl), agree.version), λ index low high. word-within bytes index fit low high), omega (arith, fit.3, has.1, agree.long, agree.code, agree.globals, agree.sites, agree.commits, a.aligned, b.aligned))

-- a bad entry of a file is one of its parts
table-was : (bytes : List ℕ) (entry : ℕ) → IsRefusedElf bytes (ElfTable entry) → image_file.IsRefusedImage (image_bytes bytes) (BadTable entry)
table-was bytes entry f =
    let agree = agrees bytes f.0.0 in (
      sizes-from bytes f.0,
      (
        omega (arith, f.1, agree.sites, agree.commits),
        record {
          behind = omega arith;
          bad = λ e. f.2.bad (entry-to bytes entry agree e);
          good_before = λ k from h. entry-from bytes k agree (f.2.good_before k from h);
        },
      ),
    )

-- the file of an image has its headers and its length
header-of : (bytes : List ℕ) (image : Image) → IsElfOf bytes image → HasHeader bytes
header-of bytes image is =
    let at = file-begins bytes image is.limits is.spelling in
    let s = small image is.limits in
    let long = file-long bytes image is in
    let front : header_bytes (4 * vec_len image.code) (4 * vec_len image.globals) (entry_bytes image) ≡ header_bytes (code_size bytes) (global_size bytes) (entry_size bytes) = sym (ap (λ (n : ℕ). header_bytes n (global_size bytes) (entry_size bytes)) at.code_is ∙ ap (λ (n : ℕ). header_bytes (4 * vec_len image.code) n (entry_size bytes)) at.globals_is ∙ ap (header_bytes (4 * vec_len image.code) (4 * vec_len image.globals)) at.entries_is) in (
      omega (arith, long),
      λ offset h. record {
        same = sym (get_or-take 148 bytes offset 0 h) ∙ ap (λ (xs : List ℕ). get_or xs offset 0) (at.front_is ∙ front);
        size = record {
          at_code = λ e. record { aligned = omega (arith, at.code_is); least = omega (arith, at.code_is, is.limits.some_code); most = omega (arith, at.code_is, s.code) };
          at_globals = λ e. record { aligned = omega (arith, at.globals_is); least = omega arith; most = omega (arith, at.globals_is, s.globals) };
          at_entries = λ e. record { aligned = omega (arith, at.entries_is); least = omega (arith, at.entries_is); most = omega (arith, at.entries_is, s.entries) };
        };
      },
    )

length-of : (bytes : List ℕ) (image : Image) → IsElfOf bytes image → HasLength bytes
length-of bytes image is =
    let at = file-begins bytes image is.limits is.spelling in
    (header-of bytes image is, omega (arith, file-long bytes image is, at.code_is, at.globals_is, at.entries_is))

-- and its counts fit
sizes-of : (bytes : List ℕ) (image : Image) → IsElfOf bytes image → HasSizes bytes
sizes-of bytes image is =
    let at = file-begins bytes image is.limits is.spelling in
    let has = length-of bytes image is in
    let agree = agrees bytes has in
    let count = image-counts (image_bytes bytes) image (image-of bytes image is) in
    (has, omega (arith, agree.sites, count.0, is.limits.few_sites), omega (arith, agree.commits, count.1, at.code_is, few_of_image image is.limits), omega (arith, at.entries_is, agree.sites, agree.commits, count.0, count.1))

-- the file of an image is not refused
pub no_refusal : (bytes : List ℕ) (image : Image) (fault : ElfFault) → IsElfOf bytes image → IsRefusedElf bytes fault → ⊥
no_refusal bytes image (ElfShort size wanted) is refused =
    let has = length-of bytes image is in
    elim refused.1 [
      | inl e ↦ omega (arith, e, refused.0.0, refused.0.1, has.0.0)
      | inr e ↦ omega (arith, e.1, refused.0.0, refused.0.1, has.1)
    ]
no_refusal bytes image (ElfHeader offset) is refused =
    refused.2.bad ((header-of bytes image is).1 offset refused.1)
no_refusal bytes image (ElfTail wanted) is refused =
    let has = length-of bytes image is in
    omega (arith, refused.1, refused.2, has.1)
no_refusal bytes image ElfSizes is refused =
    let fit = sizes-of bytes image is in
    elim refused.1 [
      | inl lt ↦ omega (arith, lt, fit.1)
      | inr rest ↦ elim rest [
        | inl lt ↦ omega (arith, lt, fit.2)
        | inr differ ↦ differ fit.3
      ]
    ]
no_refusal bytes image (ElfTable entry) is refused =
    accepted.no_refusal (image_bytes bytes) image (BadTable entry) (image-of bytes image is) (table-was bytes entry refused)
no_refusal bytes image (ElfMemory e) is refused = refused

-- every other fault is one of the sizes
pub other-fault : (bytes : List ℕ) (fault : ImageFault) → HasLength bytes → ((entry : ℕ) → fault ≡ BadTable entry → ⊥) → ((e : AllocError) → fault ≡ Memory e → ⊥) → image_file.IsFault (image_bytes bytes) fault → IsRefusedElf bytes ElfSizes
other-fault bytes Magic has table memory f = absurd (magic bytes f)
other-fault bytes (Version n) has table memory f = absurd (version bytes n has f)
other-fault bytes (Short size wanted) has table memory f = (has, short bytes size wanted has f)
other-fault bytes (LongTail wanted) has table memory f = (has, long_tail bytes wanted has f)
other-fault bytes (BadWord index) has table memory f = (has, bad_word bytes index has f)
other-fault bytes (BadTable entry) has table memory f = absurd (table entry refl)
other-fault bytes (Memory e) has table memory f = absurd (memory e refl)
