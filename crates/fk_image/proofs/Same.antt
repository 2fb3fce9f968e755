-- Bytes are those of one image at most.
use Rattle.std.proofs.Common.{◌≡◌, ℕ, List, [], ◌∷◌, ◌++◌, codes, flat_map, length, take, drop, vec_len, refl, sym, ap, ◌∙◌, arith}
use Rattle.std.specs.List.{AllByRecursion}
use Rattle.std.proofs.lemmas.List.{drop_at, length-append, take_at}
use Rattle.std.proofs.lemmas.List.Elements.{recursion_from_All}
use Rattle.fk_image.specs.declared.Image.{Image}
use Rattle.fk_image.specs.Spelling.{AreAlike, IsImageOf, IsWord, commit_words, header_words, image_words, site_words, word_bytes}
use Rattle.fk_image.proofs.Images.{length-sites}
use Rattle.fk_image.proofs.Words.{length-word_bytes, word_bytes-injective}

-- lists that begin with equally long lists
append-injective : {X : Type 0} (a b c d : List X) → length a ≡ length c → a ++ b ≡ c ++ d → (a ≡ c) × (b ≡ d)
append-injective a b c d len e =
    (sym (take_at a b (length c) len) ∙ ap (take (length c)) e ∙ take_at c d (length c) refl, sym (drop_at a b (length c) len) ∙ ap (drop (length c)) e ∙ drop_at c d (length c) refl)

-- words that spell the same are the same
words-same : (ws vs : List ℕ) → AllByRecursion IsWord ws → AllByRecursion IsWord vs → flat_map word_bytes ws ≡ flat_map word_bytes vs → ws ≡ vs
words-same [] [] p q e = refl
words-same [] (v ∷ vs) p q e =
    absurd (omega (arith, ap length e, length-append (word_bytes v) (flat_map word_bytes vs), length-word_bytes v))
words-same (w ∷ ws) [] p q e =
    absurd (omega (arith, ap length e, length-append (word_bytes w) (flat_map word_bytes ws), length-word_bytes w))
words-same (w ∷ ws) (v ∷ vs) p q e =
    let len : length (word_bytes w) ≡ length (word_bytes v) = length-word_bytes w ∙ sym (length-word_bytes v) in
    let parts = append-injective (word_bytes w) (flat_map word_bytes ws) (word_bytes v) (flat_map word_bytes vs) len e in
    let head = word_bytes-injective w v p.0 q.0 parts.0 in
    let tail = words-same ws vs p.1 q.1 parts.1 in
    cc

triple-same : (s t : ℕ × ℕ × ℕ) → s.0 ≡ t.0 → s.1 ≡ t.1 → s.2 ≡ t.2 → s ≡ t
triple-same s t p q r =
    ap (λ (x : ℕ). (x, s.1, s.2)) p ∙ ap (λ (x : ℕ). (t.0, x, s.2)) q ∙ ap (λ (x : ℕ). (t.0, t.1, x)) r

pub pair-same : (c d : ℕ × ℕ) → c.0 ≡ d.0 → c.1 ≡ d.1 → c ≡ d
pair-same c d p q = ap (λ (x : ℕ). (x, c.1)) p ∙ ap (λ (x : ℕ). (d.0, x)) q

sites-same : (ss ts : List (ℕ × ℕ × ℕ)) → flat_map site_words ss ≡ flat_map site_words ts → ss ≡ ts
sites-same [] [] e = refl
sites-same [] (t ∷ ts) e = absurd cc
sites-same (s ∷ ss) [] e = absurd cc
sites-same (s ∷ ss) (t ∷ ts) e =
    let head = triple-same s t (cc) (cc) (cc) in
    let rest : flat_map site_words ss ≡ flat_map site_words ts = cc in
    let tail = sites-same ss ts rest in
    cc

commits-same : (cs ds : List (ℕ × ℕ)) → flat_map commit_words cs ≡ flat_map commit_words ds → cs ≡ ds
commits-same [] [] e = refl
commits-same [] (d ∷ ds) e = absurd cc
commits-same (c ∷ cs) [] e = absurd cc
commits-same (c ∷ cs) (d ∷ ds) e =
    let head = pair-same c d (cc) (cc) in
    let rest : flat_map commit_words cs ≡ flat_map commit_words ds = cc in
    let tail = commits-same cs ds rest in
    cc

-- five lists one after the other, by the lengths of all but the last
parts-same : (a b c d e p q r s t : List ℕ) → length a ≡ length p → length b ≡ length q → length c ≡ length r → length d ≡ length s → a ++ b ++ c ++ d ++ e ≡ p ++ q ++ r ++ s ++ t → (a ≡ p) × (b ≡ q) × (c ≡ r) × (d ≡ s) × (e ≡ t)
parts-same a b c d e p q r s t ap bq cr ds same =
    let ab = length-append a b in
    let abc = length-append (a ++ b) c in
    let abcd = length-append (a ++ b ++ c) d in
    let pq = length-append p q in
    let pqr = length-append (p ++ q) r in
    let pqrs = length-append (p ++ q ++ r) s in
    let four = append-injective (a ++ b ++ c ++ d) e (p ++ q ++ r ++ s) t (omega arith) same in
    let three = append-injective (a ++ b ++ c) d (p ++ q ++ r) s (omega arith) four.0 in
    let two = append-injective (a ++ b) c (p ++ q) r (omega arith) three.0 in
    let one = append-injective a b p q ap two.0 in
    (one.0, one.1, two.1, three.1, four.1)

-- the counts stand first
counts-same : (image other : Image) → image_words image ≡ image_words other → header_words image ≡ header_words other
counts-same image other e =
    let code : vec_len image.code ≡ vec_len other.code = cc in
    let globals : vec_len image.globals ≡ vec_len other.globals = cc in
    let sites : vec_len image.sites ≡ vec_len other.sites = cc in
    let commits : vec_len image.commits ≡ vec_len other.commits = cc in
    cc

alike : (image other : Image) → image_words image ≡ image_words other → AreAlike image other
alike image other e =
    let header = counts-same image other e in
    let code : vec_len image.code ≡ vec_len other.code = cc in
    let globals : vec_len image.globals ≡ vec_len other.globals = cc in
    let sites : vec_len image.sites ≡ vec_len other.sites = cc in
    let parts = parts-same (header_words image) image.code.items image.globals.items (flat_map site_words image.sites.items) (flat_map commit_words image.commits.items) (header_words other) other.code.items other.globals.items (flat_map site_words other.sites.items) (flat_map commit_words other.commits.items) refl (omega (arith, code, image.code.ok.0, other.code.ok.0)) (omega (arith, globals, image.globals.ok.0, other.globals.ok.0)) (omega (arith, sites, image.sites.ok.0, other.sites.ok.0, length-sites image.sites.items, length-sites other.sites.items)) e in
    record {
      code = parts.1;
      globals = parts.2;
      sites = sites-same image.sites.items other.sites.items parts.3;
      commits = commits-same image.commits.items other.commits.items parts.4;
    }

pub one_image : (bytes : List ℕ) (image other : Image) → IsImageOf bytes image → IsImageOf bytes other → AreAlike image other
one_image bytes image other is was =
    let same = append-injective (codes "FK95") (flat_map word_bytes (image_words image)) (codes "FK95") (flat_map word_bytes (image_words other)) refl (sym is.spelling ∙ was.spelling) in
    alike image other (words-same (image_words image) (image_words other) (recursion_from_All IsWord (image_words image) is.words) (recursion_from_All IsWord (image_words other) was.words) same.1)
