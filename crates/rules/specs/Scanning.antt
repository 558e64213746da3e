-- What a line has at its front: blanks, words, signs, numbers and texts.
use Rattle.std.specs.Prelude.{ℕ, zero, suc, ◌+◌, ◌*◌, Bool, true, false, not, ◌&&◌, ◌||◌, ◌==◌, nat_eq, nat_le, if◌then◌else◌}
use Rattle.std.specs.Prelude.{List, [], ◌∷◌, length, drop, Option, Some, None, Result, Ok, Err, codes}
use Rattle.std.specs.{Option.ok_or, List.before_first, List.starts_with, Str.bytes_eq}
use Rattle.std.specs.Char.{is_ascii_alphanumeric, is_digit, digit_value}
use Rattle.rules.specs.declared.fault.LineFault.{LineFault}
use Rattle.rules.specs.declared.fault.LineFault.TheVariants as fault
use Rattle.rules.specs.Numbers.{digits_number}

-- a value and what follows it, or the fault
abbrev pub Read : Type 0 → Type 0
Read A = Result (A × List ℕ) LineFault

-- goes on with what was read, if there was no fault
infixl 10 ◌>>=◌
abbrev pub ◌>>=◌ : {A B : Type 0} → Result A LineFault → (A → Result B LineFault) → Result B LineFault
(Ok x) >>= f = f x
(Err e) >>= f = Err e

-- goes on with what follows, if that is there, and else otherwise
abbrev pub on_there : {A : Type 0} → Option (List ℕ) → (List ℕ → A) → A → A
on_there (Some rest) go other = go rest
on_there None go other = other

-- ---- blanks

-- a space, a tab or a carriage return
abbrev pub is_blank : ℕ → Bool
is_blank byte = (byte == 32) || ((byte == 9) || (byte == 13))

-- a text without the blanks before it
abbrev pub skipped : List ℕ → List ℕ
skipped [] = []
skipped (byte ∷ text) = if is_blank byte then skipped text else byte ∷ text

-- nothing is left but a comment, which begins with `#` (35)
abbrev pub is_end : List ℕ → Bool
is_end [] = true
is_end (byte ∷ text) = byte == 35

-- the fault of what stands where it may not
unfoldable pub unexpected : List ℕ → LineFault
unexpected text = if is_end (skipped text) then fault.End (length (skipped text)) else fault.Word (length (skipped text))

-- ---- words and signs

-- a letter, a digit or `_` (95)
abbrev pub is_word_byte : ℕ → Bool
is_word_byte byte = is_ascii_alphanumeric byte || (byte == 95)

-- the word at the front, which has no bytes where none stands there
unfoldable pub word_at : List ℕ → List ℕ
word_at text = before_first (λ byte. not (is_word_byte byte)) (skipped text)

-- what follows the word at the front
unfoldable pub behind_word : List ℕ → List ℕ
behind_word text = drop (length (word_at text)) (skipped text)

-- what follows this word, if it stands at the front
unfoldable pub after_word : (word text : List ℕ) → Option (List ℕ)
after_word word text = if bytes_eq (word_at text) word then Some (behind_word text) else None

-- what follows this sign, if it stands at the front
unfoldable pub after_sign : (sign text : List ℕ) → Option (List ℕ)
after_sign sign text = if starts_with nat_eq (skipped text) sign then Some (drop (length sign) (skipped text)) else None

-- the same, or the fault where it doesn't
unfoldable pub word_expected : (word text : List ℕ) → Result (List ℕ) LineFault
word_expected word text = ok_or (after_word word text) (unexpected text)

unfoldable pub sign_expected : (sign text : List ℕ) → Result (List ℕ) LineFault
sign_expected sign text = ok_or (after_sign sign text) (unexpected text)

-- ---- numbers

-- a word begins with a decimal digit
abbrev pub is_number : List ℕ → Bool
is_number [] = false
is_number (byte ∷ word) = is_digit byte 10

-- the number of 64 bits that a word spells: in hex digits after `0x`, else in decimal digits
abbrev pub number_of : List ℕ → Option ℕ
number_of word = if starts_with nat_eq word (codes "0x") then digits_number 16 (drop 2 word) else digits_number 10 word

-- a number that may be none, and what follows it
abbrev pub number_before : Option ℕ → (rest text : List ℕ) → Read ℕ
number_before (Some n) rest text = Ok (n, rest)
number_before None rest text = Err (fault.Number (length (skipped text)))

-- the number at the front
unfoldable pub number_at : List ℕ → Read ℕ
number_at text = if is_number (word_at text) then number_before (number_of (word_at text)) (behind_word text) text
    else Err (unexpected text)

-- the same, from `low` to `high`
unfoldable pub number_in : (low high : ℕ) → List ℕ → Read ℕ
number_in low high text = do
  n ← number_at text
  if nat_le low n.0 && nat_le n.0 high then Ok n else Err (fault.Number (length (skipped text)))

-- ---- texts

-- the byte that two hex digits spell
abbrev pub hex_byte : List ℕ → Option (ℕ × List ℕ)
hex_byte [] = None
hex_byte (high ∷ []) = None
hex_byte (high ∷ low ∷ text) = if is_digit high 16 && is_digit low 16
    then Some (digit_value high * 16 + digit_value low, text) else None

-- the byte that a backslash and what follows it spell: `n` (110) a line feed, `t` (116) a tab, `x` (120) a byte by two
-- hex digits, `"` (34) and `\` (92) themselves
abbrev pub escaped : List ℕ → Option (ℕ × List ℕ)
escaped [] = None
escaped (byte ∷ text) =
    if byte == 110 then Some (10, text) else
    if byte == 116 then Some (9, text) else
    if byte == 120 then hex_byte text else
    if (byte == 34) || (byte == 92) then Some (byte, text) else None

-- the first byte of a text within quotes
unfoldable pub char_at : List ℕ → Option (ℕ × List ℕ)
char_at [] = None
char_at (byte ∷ text) = if byte == 92 then escaped text else Some (byte, text)

-- what follows a quote (34) at the very front
abbrev pub after_quote : List ℕ → Option (List ℕ)
after_quote [] = None
after_quote (byte ∷ text) = if byte == 34 then Some text else None

-- a byte before the others that are read
abbrev pub onto_text : ℕ → Read (List ℕ) → Read (List ℕ)
onto_text byte (Ok others) = Ok (byte ∷ others.0, others.1)
onto_text byte (Err e) = Err e

-- the bytes up to the quote, fewer than `room`; `at` bytes of the line are left at the quote before them
unfoldable pub quoted : (room at : ℕ) → List ℕ → Read (List ℕ)
quoted zero at text = Err (fault.Long at)
quoted (suc room) at text = on_there (after_quote text) (λ rest. Ok ([], rest)) (do
  c ← ok_or (char_at text) (fault.Text at)
  onto_text c.0 (quoted room at c.1))

-- the text at the front, of at most 255 bytes
unfoldable pub text_at : List ℕ → Read (List ℕ)
text_at text = on_there (after_quote (skipped text)) (quoted 256 (length (skipped text))) (Err (unexpected text))
