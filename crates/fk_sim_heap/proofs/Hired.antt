-- What the store's heap answers a request, by its size and what is left.
use Rattle.std.proofs.Common.{◌≡◌, ℕ, ◌+◌, ◌-◌, ◌<◌, ◌≤◌, Option, Some, None, ap, ◌∙◌, arith}
use Rattle.std.specs.Prelude.{if◌then◌else◌}
use Rattle.std.proofs.lemmas.Bool.{eq-eqb, ne_eqb, lt-leb, le-leb}
use Rattle.fk_space.specs.Space.{heap}
use Rattle.fk_meaning_store.specs.Store.{Store, shared_words, address_of}
use Rattle.fk_meaning_store.specs.Serve.{Answer, Served, hired, block_address}

abbrev taking : (words : ℕ) → Store → ℕ × Option ℕ → Answer
taking words s block = Served (record s { top = block.0 }) (block_address block.1)

asked_for : (words : ℕ) (s : Store) → 0 < words → hired words s ≡ taking words s (heap s.top shared_words words)
asked_for words s some = ap (λ b. if b then Served s 0 else taking words s (heap s.top shared_words words)) (ne_eqb words 0 (λ e. omega arith))

pub hired_none : (words : ℕ) (s : Store) → words ≡ 0 → hired words s ≡ Served s 0
hired_none words s e = ap (λ b. if b then Served s 0 else taking words s (heap s.top shared_words words)) (eq-eqb words 0 e)

pub hired_some : (words : ℕ) (s : Store) → 0 < words → words ≤ shared_words - s.top → hired words s ≡ Served (record s { top = s.top + words }) (address_of s.top)
hired_some words s some fits =
    asked_for words s some
    ∙ ap (λ b. taking words s (if b then (s.top + words, Some s.top) else (shared_words, None))) (le-leb words (shared_words - s.top) fits)

pub hired_full : (words : ℕ) (s : Store) → 0 < words → shared_words - s.top < words → hired words s ≡ Served (record s { top = shared_words }) 0
hired_full words s some large =
    asked_for words s some
    ∙ ap (λ b. taking words s (if b then (s.top + words, Some s.top) else (shared_words, None))) (lt-leb words (shared_words - s.top) large)
