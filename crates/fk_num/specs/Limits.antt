-- The limits of programs: of their texts, their shared data and their code.
use Rattle.std.specs.Prelude.{ℕ}

-- The most bytes of a source text, and of an input text.
abbrev pub most_text_bytes : ℕ
most_text_bytes = 1048576

-- The most words of shared data: of the globals and the input together. No type has more.
abbrev pub most_data_words : ℕ
most_data_words = 524288

-- The most words of code.
abbrev pub most_code_words : ℕ
most_code_words = 262144
