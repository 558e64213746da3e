-- The hash by which Kafka's clients choose a partition: murmur2 (Austin Appleby) of 32 bits, with the seed 0x9747b28c.
use Rattle.std.specs.Prelude.{ℕ, ◌*◌, ◌/◌, ◌%◌, ◌^◌, List, [], ◌∷◌, length, Option, Some, None, bit_xor}
use Rattle.std.specs.Simd.Lanes.{number_l}
use Rattle.wire_spec.specs.declared.record.Record.{Record}
use Rattle.machine_spec.specs.declared.part.Part.{Part}
use Rattle.machine_spec.specs.Parts.{part_in}

-- the number that bytes are, the first one lowest
abbrev pub word_of : List ℕ → ℕ
word_of bytes = number_l 256 bytes

-- the low 32 bits of a number times murmur2's multiplier
abbrev pub multiplied : ℕ → ℕ
multiplied n = (n * 0x5bd1e995) % 2 ^ 32

-- a number, xored with itself shifted right by so many bits
abbrev pub folded : (bits : ℕ) → ℕ → ℕ
folded bits n = bit_xor n (n / 2 ^ bits)

-- the hash after a word
abbrev pub after_word : (hash word : ℕ) → ℕ
after_word hash word = bit_xor (multiplied hash) (multiplied (folded 24 (multiplied word)))

-- The hash after bytes: after each word of four bytes, and then after the one to three bytes that are left.
unfoldable pub after_bytes : ℕ → List ℕ → ℕ
after_bytes hash (a ∷ b ∷ c ∷ d ∷ bytes) = after_bytes (after_word hash (word_of (a ∷ b ∷ c ∷ d ∷ []))) bytes
after_bytes hash [] = hash
after_bytes hash rest = multiplied (bit_xor hash (word_of rest))

-- the hash of bytes
unfoldable pub murmur2 : List ℕ → ℕ
murmur2 bytes = folded 15 (multiplied (folded 13 (after_bytes (bit_xor 0x9747b28c (length bytes % 2 ^ 32)) bytes)))

-- the hash of a part without its sign bit; 0 of a null part, and of one that isn't there
abbrev pub hash_of : Option (Option (List ℕ)) → ℕ
hash_of (Some (Some bytes)) = murmur2 bytes % 2 ^ 31
hash_of (Some None) = 0
hash_of None = 0

-- the same of a record's part
abbrev pub hash_answer : Record → Part → ℕ
hash_answer given part = hash_of (part_in given part)
