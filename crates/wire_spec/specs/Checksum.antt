-- CRC-32C, the checksum by Castagnoli's polynomial (RFC 9260, appendix A; RFC 3720, section 12.1), which a record batch
-- of Kafka's message format has in its field crc: what the bytes, as a polynomial over the field of two elements, leave
-- on division by the generator.
--
-- A polynomial of degree below n is a number below 2 ^ n, with its highest power lowest: bit k is the coefficient of
-- x ^ (n - 1 - k). So a message of bytes is the number that they spell, the first byte lowest, and its highest
-- coefficient is the lowest bit of the first byte. The sum of two polynomials, and their difference, is `bit_xor`.
use Rattle.std.specs.Prelude.{ℕ, zero, suc, ◌*◌, ◌/◌, ◌%◌, List, length, bit_xor}
use Rattle.std.specs.Simd.Lanes.{number_l}

-- the 32 coefficients below x^32 of the generator, x^32 + x^28 + x^27 + x^26 + x^25 + x^23 + x^22 + x^20 + x^19 + x^18
-- + x^14 + x^13 + x^11 + x^10 + x^9 + x^8 + x^6 + 1: with the highest power highest they are 0x1EDC6F41
abbrev pub generator : ℕ
generator = 0x82F63B78

-- one step of long division: where the highest coefficient of p is 1, the generator, times the power of x that makes
-- their highest powers meet, is taken away; p then is of a degree lower by one
abbrev pub without_highest : ℕ → ℕ
without_highest p = bit_xor (p / 2) (p % 2 * generator)

-- the remainder of a polynomial p of degree below n + 32: n steps of long division leave one of degree below 32
unfoldable pub remainder : ℕ → ℕ → ℕ
remainder zero p = p
remainder (suc n) p = remainder n (without_highest p)

-- The checksum of a list of bytes: the remainder of the message times x^32, with all ones added to the 32 highest
-- coefficients before the division (the initial value) and to the remainder after it (the final exclusive-or).
-- The message has 8 coefficients a byte; times x^32 it is the same number, of a degree 32 higher.
unfoldable pub checksum : List ℕ → ℕ
checksum bytes =
    bit_xor (remainder (8 * length bytes) (bit_xor (number_l 256 bytes) 0xFFFF_FFFF)) 0xFFFF_FFFF
