use Rattle.std.proofs.Common.{◌≡◌, ◌≤◌, ◌^◌, drop}
use Rattle.program_file.specs.Spelling as definitions
use Rattle.program_file.proofs.fitting.are_places.Given as goal

abbrev pub invariant-loop-place : goal.invariant-loop-place
invariant-loop-place l = record {
  so_far : definitions.are_places 0 l.slots l.places ≡ definitions.are_places l.least l.slots (drop l.place-index l.places);
  small : l.least ≤ 2 ^ 32;
}
