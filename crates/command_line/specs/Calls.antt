-- The words of a call.
use Rattle.std.specs.Prelude.{◌≢◌, ℕ, ◌+◌, ◌<◌, ◌≤◌, List, length, map, ⊤, string_bytes}
use Rattle.std.specs.declared.string.String.{String}
use Rattle.log_spec.specs.declared.limits.TheConstants.{MAX_PARTITIONS}
use Rattle.script.specs.Words.{word_at}
use Rattle.command_line.specs.declared.call.Call.{Call}
use Rattle.command_line.specs.declared.call.Call.TheVariants as call

-- the names that the words of a call are
abbrev pub names_of : {A : Type 0} → List (String A) → List (List ℕ)
names_of words = map string_bytes words

-- no two names are the same
abbrev pub AreDistinct : List (List ℕ) → Type 0
AreDistinct names = (one other : ℕ) → one < other → other < length names → word_at names other ≢ word_at names one

-- the words of a transform: an image, a file of batches, and a file for each output partition, no two of them the same
pub record AreFiles {A : Type 0} (words : List (String A)) : Type 0 where
  pub some : 3 ≤ length words
  pub few : length words ≤ MAX_PARTITIONS + 2
  pub distinct : AreDistinct (names_of words)

-- what is known of an accepted call: the words of a transform are its files
abbrev pub IsAccepted : Call → Type 0
IsAccepted (call.Transform table words) = AreFiles words.now
IsAccepted call.Commands = ⊤
IsAccepted (call.Image asked) = ⊤
IsAccepted (call.List listing file) = ⊤
IsAccepted (call.Recheck list) = ⊤
IsAccepted (call.Run script) = ⊤
IsAccepted call.Version = ⊤
