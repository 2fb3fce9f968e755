-- Input texts: the numbers of a text, or its first word at fault.
use Rattle.std.specs.Prelude.{ℕ, ℤ, Bool, pos, neg_ℤ, ◌^◌, ◌==◌, ◌&&◌, ◌||◌, true, false, not}
use Rattle.std.specs.Prelude.{int_le, int_lt, nat_lt, List, [], ◌∷◌, Option, Some, None, Result, Ok}
use Rattle.std.specs.Prelude.{Err, drop, filter, length, map, if◌then◌else◌}
use Rattle.std.specs.List.{enumerate_from, filter_map, slice_split}
use Rattle.std.specs.Str.Parse.{digits_value}
use Rattle.fk_num.specs.Limits.{most_text_bytes}
use Rattle.fk_num.specs.Numeral.{is_numeral}
use Rattle.fk_num.specs.Op.{word_of}
use Rattle.fk_top_input.specs.declared.fault.InputFault.{InputFault}
use Rattle.fk_top_input.specs.declared.fault.InputFault.TheVariants.{NotANumber, OutOfRange}
use Rattle.fk_top_input.specs.declared.fault.InputFault.TheVariants.{TooMany}

-- ---- the words of a text

-- A tab, a newline, a carriage return or a space.
abbrev pub is_blank : ℕ → Bool
is_blank byte = byte == 9 || byte == 10 || byte == 13 || byte == 32

abbrev pub is_some_word : List ℕ → Bool
is_some_word [] = false
is_some_word (byte ∷ rest) = true

-- The words of a text: what lies between blanks.
abbrev pub words : List ℕ → List (List ℕ)
words text = filter is_some_word (slice_split is_blank text)

-- ---- numbers

-- The word begins with `-`.
abbrev pub is_negative : List ℕ → Bool
is_negative [] = false
is_negative (byte ∷ rest) = byte == 45

-- The word without a `-` at its beginning.
abbrev pub digits_of : List ℕ → List ℕ
digits_of word = if is_negative word then drop 1 word else word

-- One or more decimal digits, with or without a `-` before them.
abbrev pub is_number : List ℕ → Bool
is_number word = is_numeral (digits_of word)

abbrev pub magnitude : List ℕ → ℕ
magnitude word = digits_value 10 (digits_of word)

abbrev pub value_of : List ℕ → ℤ
value_of word = if is_negative word then neg_ℤ (pos (magnitude word)) else pos (magnitude word)

abbrev pub is_in_range : ℤ → Bool
is_in_range value = int_le (neg_ℤ (pos (2 ^ 31))) value && int_lt value (pos (2 ^ 32))

-- The number that a word stores: its value modulo 2^32.
abbrev pub number_of : List ℕ → ℕ
number_of word = word_of (value_of word)

-- ---- faults

-- The fault of a word that is no number in range, given its place among the words.
abbrev pub number_fault : ℕ → List ℕ → Option InputFault
number_fault place word =
    if not (is_number word) then Some (NotANumber place)
    else (if not (is_in_range (value_of word)) then Some (OutOfRange place) else None)

-- The fault of a word, of which there may be `limit`. Places count from 1.
abbrev pub fault_of : ℕ → ℕ × List ℕ → Option InputFault
fault_of limit (place, word) = if nat_lt limit place then Some (TooMany place)
    else number_fault place word

-- The faults of these words, in their order. The first word has this place.
abbrev pub faults_from : ℕ → ℕ → List (List ℕ) → List InputFault
faults_from limit place words = filter_map (fault_of limit) (enumerate_from place words)

-- The first fault, or the numbers if there is none.
abbrev pub unless_fault : List ℕ → List InputFault → Result (List ℕ) InputFault
unless_fault numbers [] = Ok numbers
unless_fault numbers (fault ∷ later) = Err fault

-- The numbers of a text, of which there may be `limit`, or its first fault.
abbrev pub input_of : ℕ → List ℕ → Result (List ℕ) InputFault
input_of limit text =
    if nat_lt most_text_bytes (length text) then Err (TooMany 0)
    else unless_fault (map number_of (words text)) (faults_from limit 1 (words text))
