-- Program files of rules.
use Rattle.std.proofs.Common.{◌≡◌, ℕ, ◌<◌, ◌^◌, ◌%◌, ◌==◌, ◌&&◌, List, [], length, Ok, refl, inl, inr, arith}
use Rattle.std.proofs.Common.{nat_le}
use Rattle.std.proofs.lemmas.Bool.{and_parts, cases_Bool, leb-true, lt-ltb}
use Rattle.machine_spec.specs.declared.{limits.TheConstants.MAX_SLOTS, instruction.Placed.Placed}
use Rattle.machine_spec.specs.Image.{has_size, slot_count, read_image}
use Rattle.rules.specs.{Lines.Line, Reading.rules_of}
use Rattle.rules_compiler.specs.Programs.{IsProgramOf, IsTextProgram}

-- an image that decodes is no longer than a file may hold
short_image : (image : List ℕ) (code : List Placed) → read_image image ≡ Ok code → length image < 2 ^ 32
unfolding read_image
short_image image code read = elim (cases_Bool (has_size image)) [
  | inl sized ↦
      let few = leb-true (slot_count image) MAX_SLOTS
      (and_parts ((length image % 8 == 0) && nat_le 1 (slot_count image)) (nat_le (slot_count image) MAX_SLOTS) sized).1 in
      omega (arith, few)
  | inr other ↦ absurd (cc)
]

-- the file of the program of a text's rules
pub program_of_text : (text : List ℕ) (lines : List Line) (image : List ℕ) → rules_of text ≡ Ok lines →
    IsProgramOf lines image → IsTextProgram text (record { table = 3; image = image; places = [] })
program_of_text text lines image read program = record {
  lines = lines;
  read = read;
  table = refl;
  fits = rw (lt-ltb (length image) (2 ^ 32) (short_image image program.accepted.code program.accepted.read)) refl;
  program = program;
}
